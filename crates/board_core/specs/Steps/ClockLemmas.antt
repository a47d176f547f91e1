-- How a law on what a crash leaves continues over one call, and over several.
use Rattle.std.specs.Prelude.{◌≡◌, ℕ, ◌≤◌, List, Option, None, Some, refl}
use Rattle.std.proofs.Common.{sym, ◌∙◌, ap, subst, inl, inr, arith}
use Rattle.std.specs.Option.{option_map}
use Rattle.erst_store.specs.Store.{Stored}
use Rattle.board_core.specs.declared.board.DiskCall.{DiskCall}
use Rattle.board_core.specs.declared.board.FileNo.{FileNo}
use Rattle.board_core.specs.declared.board.FileNo.TheVariants.{Zero, One}
use Rattle.board_core.specs.Clock.{Clock, LeftNow, After, Passes, Leads, IsSynced, IsStored, StoreIsLeft, Adds, Rests, Always}
use Rattle.board_core.specs.Stop.{Left, file_in, with_file_in, Same, InStore, InOut, Appends}
use Rattle.board_core.specs.Told.{Told, with_call, after_print, Steps}

-- A board that isn't modelled has no model.
pub not_told : (t : Told) → None ≡ Some t → ⊥
not_told t e = cc

-- One call

-- Whatever a crash during a call or after it leaves has a property, if every Left that its step leads to has it.
pub adds_after : (Step : Left → Left → Type 0) (P : Left → Type 0) (old new : Clock) → Passes Step old new → ((left : Left) → After old Step left → P left) → Adds P old new
adds_after Step P old new passes leads = record {
  later = passes.later;
  each = λ t left within may. elim (passes.each t left within may) [ inl before ↦ inl before | inr after ↦ inr (leads left after) ];
}

-- Whatever a crash during a call leaves, its step leads to it from the model, if a crash before the call leaves
-- exactly what the model says.
pub at_rest : (Step : Left → Left → Type 0) (t : Told) (told : Option Told) (old : Clock) (left : Left) → Rests t told old → After old Step left → Step t.here left
at_rest Step t told old left rests after = subst (λ (l : Left). Step l left) (rests.only after.from after.was) after.by

pub adds_at_rest : (Step : Left → Left → Type 0) (P : Left → Type 0) (t : Told) (told : Option Told) (old new : Clock) → Rests t told old → Passes Step old new
    → ((left : Left) → Step t.here left → P left) → Adds P old new
adds_at_rest Step P t told old new rests passes leads = adds_after Step P old new passes (λ left after. leads left (at_rest Step t told old left rests after))

-- Several calls

pub adds_none : (P : Left → Type 0) (clock : Clock) → Adds P clock clock
adds_none P clock = record { later = omega arith; each = λ t left within may. inl may }

pub adds_both : (P : Left → Type 0) (a b c : Clock) → Adds P a b → Adds P b c → Adds P a c
adds_both P a b c first second = record {
  later = (let x : a.now ≤ b.now = first.later in let y : b.now ≤ c.now = second.later in omega arith);
  each = λ t left within may. (let x : a.now ≤ b.now = first.later in elim (second.each t left (omega arith) may) [ inl before ↦ first.each t left within before | inr has ↦ inr has ]);
}

pub adds_weaker : (P Q : Left → Type 0) (old new : Clock) → Adds P old new → ((left : Left) → P left → Q left) → Adds Q old new
adds_weaker P Q old new adds weaker = record {
  later = adds.later;
  each = λ t left within may. elim (adds.each t left within may) [ inl before ↦ inl before | inr has ↦ inr (weaker left has) ];
}

-- A law on all that a crash since moment t leaves continues to hold over calls that add nothing else.
pub always_goes_on : (P : Left → Type 0) (t : ℕ) (old new : Clock) → Always old t P → t ≤ old.now → Adds P old new → Always new t P
always_goes_on P t old new always within adds left may = elim (adds.each t left within may) [ inl before ↦ always left before | inr has ↦ has ]

-- Since the present moment a crash leaves what the model says.
pub always_at_rest : (P : Left → Type 0) (t : Told) (told : Option Told) (clock : Clock) → Rests t told clock → P t.here → Always clock clock.now P
always_at_rest P t told clock rests has left now = subst P (sym (rests.only left now)) has

-- What the model says, and nothing else

some_told : (t u : Told) → Some t ≡ Some u → t ≡ u
some_told t u e = cc

-- If a crash now leaves exactly what the model says, it leaves the model's record store.
pub rests_store : (t : Told) (told : Option Told) (clock : Clock) → Rests t told clock → StoreIsLeft told clock
rests_store t told clock rests u is left now = ap (λ (l : Left). l.store) (rests.only left now) ∙ ap (λ (v : Told). v.here.store) (some_told t u (sym rests.is ∙ is))

pub file_in-with : (file : FileNo) (bytes : List ℕ) (left : Left) → file_in file (with_file_in file bytes left) ≡ bytes
file_in-with Zero bytes left = refl
file_in-with One bytes left = refl

-- A call after which a crash leaves exactly what the model says, if its step leads from the model to nothing else.
pub rests_on : (step : Told → Told) (Step : Left → Left → Type 0) (t : Told) (told_old told_new : Option Told) (old new : Clock) → Rests t told_old old → Steps step told_old told_new
    → Leads Step old new → ((left : Left) → Step t.here left → left ≡ (step t).here) → Rests (step t) told_new new
rests_on step Step t told_old told_new old new rests steps leads same = record {
  is = steps ∙ ap (λ (told : Option Told). option_map step told) rests.is;
  only = λ left now. same left (at_rest Step t told_old old left rests (leads left now));
}

-- A call that changes neither files nor text.
pub rests_listed : (call : DiskCall) (t : Told) (told_old told_new : Option Told) (old new : Clock) → Rests t told_old old → Steps (with_call call) told_old told_new → Passes Same old new → Rests (with_call call t) told_new new
rests_listed call t told_old told_new old new rests steps passes = rests_on (with_call call) Same t told_old told_new old new rests steps passes.ends (λ left is. is)

-- A print that succeeded.
pub rests_printed : (piece : List ℕ) (t : Told) (told_old told_new : Option Told) (old new : Clock) → Rests t told_old old → Steps (after_print piece) told_old told_new → Leads (InOut (Appends piece)) old new → Rests (after_print piece t) told_new new
rests_printed piece t told_old told_new old new rests steps leads = rests_on (after_print piece) (InOut (Appends piece)) t told_old told_new old new rests steps leads
    (λ left by. by.rest ∙ ap (λ text. record t.here { out = text }) by.step)

-- A synced file stays synced over a call that changes nothing.
pub synced_over : (file : FileNo) (bytes : List ℕ) (old new : Clock) → IsSynced file bytes old → Passes Same old new → IsSynced file bytes new
synced_over file bytes old new synced passes left now =
    let after : After old Same left = passes.ends left now in
    subst (λ (l : Left). file_in file l ≡ bytes) (sym after.by) (synced after.from after.was)

all_same : (t : Told) (left : Left) → left.file0 ≡ t.here.file0 → left.file1 ≡ t.here.file1 → left.store ≡ t.here.store → left.out ≡ t.here.out → left ≡ t.here
all_same t left zero one store out =
    ap (λ bytes. record left { file0 = bytes }) zero
    ∙ (ap (λ bytes. record left { file0 = t.here.file0; file1 = bytes }) one
    ∙ (ap (λ (records : List Stored). record left { file0 = t.here.file0; file1 = t.here.file1; store = records }) store
    ∙ ap (λ text. record t.here { out = text }) out))

-- Both files are synced, and a crash leaves the model's store and text: then it leaves exactly what the model says.
pub rests_synced : (t : Told) (told : Option Told) (clock : Clock) → told ≡ Some t → IsSynced Zero t.here.file0 clock → IsSynced One t.here.file1 clock
    → IsStored t.here.store clock → ((left : Left) → LeftNow clock left → left.out ≡ t.here.out) → Rests t told clock
rests_synced t told clock is zero one store out = record {
  is = is;
  only = λ left now. all_same t left (zero left now) (one left now) (store left now) (out left now);
}

-- A device call changed only its store, and a crash leaves exactly what the model says.
pub rests_stored : (Step : List Stored → List Stored → Type 0) (t there : Told) (told_old told_new : Option Told) (old new : Clock) → Rests t told_old old → told_new ≡ Some there
    → Passes (InStore Step) old new → IsStored there.here.store new → there.here ≡ record t.here { store = there.here.store } → Rests there told_new new
rests_stored Step t there told_old told_new old new rests is passes stored frame = record {
  is = is;
  only = λ left now.
      (let by : InStore Step t.here left = at_rest (InStore Step) t told_old old left rests (passes.ends left now) in
      let store_is : by.store ≡ there.here.store = sym (ap (λ (l : Left). l.store) by.rest) ∙ stored left now in
      by.rest ∙ (ap (λ (records : List Stored). record t.here { store = records }) store_is ∙ sym frame));
}
