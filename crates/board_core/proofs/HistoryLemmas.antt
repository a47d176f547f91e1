-- The files, the device and the output of a board in memory are what its acts made of them, also after one more act.
use Rattle.std.proofs.Common.{◌≡◌, ℕ, List, [], ◌∷◌, ◌++◌, Result, Ok, Err, OnOk, OnErr, ap, sym, ◌∙◌, subst}
use Rattle.std.proofs.lemmas.List.{map_push}
use Rattle.erst_store.specs.Device.{Device, device_with, volatile_of}
use Rattle.erst_store.specs.Store.{Stored}
use Rattle.board_core.specs.declared.board.DiskCall.TheVariants.{Sync}
use Rattle.board_core.specs.declared.board.FileNo.{FileNo}
use Rattle.board_core.specs.declared.board.FileNo.TheVariants.{Zero, One}
use Rattle.board_core.specs.declared.history.MemChange.{MemChange}
use Rattle.board_core.specs.Doing.{Act, writes, prints, calls, after_act, after_acts}
use Rattle.board_core.specs.Steps.History.{act_of, acts_of, Has}
use Rattle.board_core.specs.Stop.{Left}
use Rattle.board_core.specs.Told.{Told, device_of, on_device, overlay}
use Rattle.board_core.proofs.DoingLemmas.{after-append}

-- The first contents, by the board's fields and the events so far.
module _ (file0 file1 : List ℕ) (device : Device) (out : List ℕ) (events more : List MemChange) (first : Told) (so_far : Has (after_acts (acts_of events) first) file0 file1 device out) where
  abbrev now : Told
  now = after_acts (acts_of events) first

  abbrev left_with : List ℕ → List ℕ → List Stored → List ℕ → Left
  left_with zero one store text = record { file0 = zero; file1 = one; store = store; out = text }

  same : more ≡ events → Has (after_acts (acts_of more) first) file0 file1 device out
  same is = subst (λ xs. Has (after_acts (acts_of xs) first) file0 file1 device out) (sym is) so_far

  one_more : (act : Act) → acts_of more ≡ acts_of events ++ act ∷ [] → after_acts (acts_of more) first ≡ after_act act now
  one_more act is = ap (λ xs. after_acts xs first) is ∙ after-append (acts_of events) (act ∷ []) first

  one_event : (event : MemChange) (act : Act) → act_of event ≡ act → more ≡ events ++ event ∷ [] → after_acts (acts_of more) first ≡ after_act act now
  one_event event act of is = one_more act (ap acts_of is ∙ (map_push act_of events event ∙ ap (λ (a : Act). acts_of events ++ a ∷ []) of))

  pub wrote_zero : {E : Type 0} (r : Result (Unit {0}) E) (file : FileNo) (place : ℕ) (bytes new : List ℕ) → file ≡ Zero
      → OnOk r (new ≡ overlay place bytes file0) → OnOk r (acts_of more ≡ acts_of events ++ writes file place bytes ∷ [])
      → OnErr r (new ≡ file0) → OnErr r (more ≡ events) → Has (after_acts (acts_of more) first) new file1 device out
  wrote_zero (Ok done) file place bytes new is_zero written is none nothing =
      subst (λ (t : Told). Has t new file1 device out) (sym (one_more (writes Zero place bytes) (is ∙ ap (λ f. acts_of events ++ writes f place bytes ∷ []) is_zero))) (
        ap (λ (l : Left). record l { file0 = overlay place bytes l.file0 }) so_far.0 ∙ ap (λ xs. left_with xs file1 device.store out) (sym written),
        so_far.1,
      )
  wrote_zero (Err error) file place bytes new is_zero written is none nothing = subst (λ xs. Has (after_acts (acts_of more) first) xs file1 device out) (sym none) (same nothing)

  pub wrote_one : {E : Type 0} (r : Result (Unit {0}) E) (file : FileNo) (place : ℕ) (bytes new : List ℕ) → file ≡ One
      → OnOk r (new ≡ overlay place bytes file1) → OnOk r (acts_of more ≡ acts_of events ++ writes file place bytes ∷ [])
      → OnErr r (new ≡ file1) → OnErr r (more ≡ events) → Has (after_acts (acts_of more) first) file0 new device out
  wrote_one (Ok done) file place bytes new is_one written is none nothing =
      subst (λ (t : Told). Has t file0 new device out) (sym (one_more (writes One place bytes) (is ∙ ap (λ f. acts_of events ++ writes f place bytes ∷ []) is_one))) (
        ap (λ (l : Left). record l { file1 = overlay place bytes l.file1 }) so_far.0 ∙ ap (λ xs. left_with file0 xs device.store out) (sym written),
        so_far.1,
      )
  wrote_one (Err error) file place bytes new is_one written is none nothing = subst (λ xs. Has (after_acts (acts_of more) first) file0 xs device out) (sym none) (same nothing)

  pub printed_out : {E : Type 0} (r : Result (Unit {0}) E) (bytes new : List ℕ)
      → OnOk r (new ≡ out ++ bytes) → OnOk r (acts_of more ≡ acts_of events ++ prints bytes ∷ [])
      → OnErr r (new ≡ out) → OnErr r (more ≡ events) → Has (after_acts (acts_of more) first) file0 file1 device new
  printed_out (Ok done) bytes new appended is none nothing =
      subst (λ (t : Told). Has t file0 file1 device new) (sym (one_more (prints bytes) is)) (
        ap (λ (l : Left). record l { out = l.out ++ bytes }) so_far.0 ∙ ap (λ xs. left_with file0 file1 device.store xs) (sym appended),
        so_far.1,
      )
  printed_out (Err error) bytes new appended is none nothing = subst (λ xs. Has (after_acts (acts_of more) first) file0 file1 device xs) (sym none) (same nothing)

  pub synced_file : (event : MemChange) (file : FileNo) → act_of event ≡ calls (Sync file) → more ≡ events ++ event ∷ [] → Has (after_acts (acts_of more) first) file0 file1 device out
  synced_file event file of is = subst (λ (t : Told). Has t file0 file1 device out) (sym (one_event event (calls (Sync file)) of is)) so_far

  device_is : device_of now ≡ device
  device_is = ap (λ (l : Left). device_with l.store now.volatile) so_far.0 ∙ ap (device_with device.store) so_far.1

  -- An act that changes the device in this way.
  pub device_acted : (event : MemChange) (act : Act) (step : Device → Device) (new : Device) → (Has (on_device step now) file0 file1 new out → Has (after_act act now) file0 file1 new out)
      → act_of event ≡ act → more ≡ events ++ event ∷ [] → new ≡ step device → Has (after_acts (acts_of more) first) file0 file1 new out
  device_acted event act step new by of is made =
      let there : step (device_of now) ≡ new = ap step device_is ∙ sym made in
      subst (λ (t : Told). Has t file0 file1 new out) (sym (one_event event act of is)) (by (
        ap (λ (l : Left). record l { store = (step (device_of now)).store }) so_far.0 ∙ ap (λ (d : Device). left_with file0 file1 d.store out) there,
        ap volatile_of there,
      ))
