-- Calls of the device, of which one failed.
use Rattle.std.proofs.Common.{◌≡◌, ◌∙◌, List, [], ◌∷◌, ◌++◌, Option, Some, None, refl, sym, ap, subst, inl}
use Rattle.std.specs.Prelude.{IfSome}
use Rattle.board_core.specs.Cause.{device_call}
use Rattle.board_core.specs.Doing.{Act, DeviceCall, FailsActs, FailsDevice, after_acts, after_device, put, reg_read, reg_write, range_read, range_write}
use Rattle.board_core.specs.Doing as Doing
use Rattle.board_core.specs.Stop.{Left}
use Rattle.board_core.specs.Told.{Told, Relates}
use Rattle.board_core.proofs.DoingLemmas.{after-append, fails_first, fails_then}
use Rattle.erst_interp.specs.Run.{IsCutShort, acts_of}

-- ---- calls before and after others

pub acts_both : (one two : List DeviceCall) → acts_of (one ++ two) ≡ acts_of one ++ acts_of two
acts_both [] two = refl
acts_both (call ∷ one) two = ap (λ (acts : List Act). Doing.device call ∷ acts) (acts_both one two)

pub after_both : (one two : List DeviceCall) (t : Told) → after_acts (acts_of (one ++ two)) t ≡ after_acts (acts_of two) (after_acts (acts_of one) t)
after_both one two t = ap (λ (acts : List Act). after_acts acts t) (acts_both one two) ∙ after-append (acts_of one) (acts_of two) t

pub off_as : (calls other : List DeviceCall) (old : Told) (new : Option Told) → calls ≡ other → IsCutShort calls old new → IsCutShort other old new
off_as calls other old new is breaks = subst (λ (l : List DeviceCall). IsCutShort l old new) is breaks

-- Other calls would have followed them.
pub off_more : (calls more : List DeviceCall) (old : Told) (new : Option Told) → IsCutShort calls old new → IsCutShort (calls ++ more) old new
off_more calls more old None breaks = absurd breaks
off_more calls more old (Some new) breaks =
    subst (λ (acts : List Act). FailsActs device_call acts old new) (sym (acts_both calls more)) (fails_first device_call (acts_of calls) (acts_of more) old new breaks)

-- Other calls were made before them.
pub off_after : (first calls : List DeviceCall) (old mid : Told) (new : Option Told) → mid ≡ after_acts (acts_of first) old → IsCutShort calls mid new → IsCutShort (first ++ calls) old new
off_after first calls old mid None is breaks = absurd breaks
off_after first calls old mid (Some new) is breaks =
    subst (λ (acts : List Act). FailsActs device_call acts old new) (sym (acts_both first calls))
    (fails_then device_call (acts_of first) (acts_of calls) old new (subst (λ (t : Told). FailsActs device_call (acts_of calls) t new) is breaks))

-- ---- one call

pub one_fails : (call : DeviceCall) (old new : Option Told) → Relates (FailsDevice call) old new → IfSome old (λ t. IsCutShort (call ∷ []) t new)
one_fails call None new failed = tt
one_fails call (Some t) None failed = absurd failed
one_fails call (Some t) (Some u) failed = inl (refl, failed)

-- ---- the calls of the device change the record store alone of what a stop leaves

one_here : (call : DeviceCall) (t : Told) → (after_device call t).here ≡ record t.here { store = (after_device call t).here.store }
one_here (reg_read reg) t = refl
one_here (reg_write reg value) t = refl
one_here (range_read place count) t = refl
one_here (range_write place bytes) t = refl
one_here (put id bytes) t = refl

pub here_after : (calls : List DeviceCall) (t : Told) → (after_acts (acts_of calls) t).here ≡ record t.here { store = (after_acts (acts_of calls) t).here.store }
here_after [] t = refl
here_after (call ∷ calls) t =
    let u = after_device call t in
    here_after calls u ∙ ap (λ (left : Left). record left { store = (after_acts (acts_of calls) u).here.store }) (one_here call t)
