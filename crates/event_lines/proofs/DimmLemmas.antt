-- The address and the DIMM's label in an event of any driver, as the kernel prints it, are read.
use Rattle.std.proofs.Common.{◌≡◌, ℕ, zero, suc, ◌+◌, ◌-◌, ◌<◌, Bool, true, false, List, [], ◌∷◌, ◌++◌, codes, drop, take, length, refl, sym, ap, ◌∙◌, arith, append_assoc, length-append, Option, Some, None, if◌then◌else◌}
use Rattle.std.specs.Option.{option_map}
use Rattle.std.proofs.Math.Seq.{take-append_seam}
use Rattle.std.proofs.lemmas.List.{drop_at}
use Rattle.ras_klog.specs.Reading.{read_then}
use Rattle.ras_script.specs.SplittingLaws.{Lacks}
use Rattle.bank_lines.specs.LogHeads.{after, mark_place}
use Rattle.bank_lines.proofs.LogTextLemmas.{after_is}
use Rattle.bank_lines.proofs.NumeralLemmas.{literal_lacks}
use Rattle.event_lines.specs.DimmTold.{address_in, before_inside, dimm_of_driver, dimm_told, label_told, spaced_message}
use Rattle.event_lines.specs.Driver.{lacks_place}
use Rattle.event_lines.specs.DriverKernel.{IsDriver, PrintedDriver, driver_front, driver_inside, printed_driver}
use Rattle.event_lines.specs.MemoryKernel.{before_more, severity_name}
use Rattle.event_lines.proofs.DriverLemmas.{address_is, no_mark, on_first}
use Rattle.event_lines.proofs.MemoryLemmas.{controller_at}

-- what comes before the colon
abbrev opening : ℕ → List ℕ
opening severity = codes "1 " ++ (severity_name severity ++ codes " error")

opening_lacks : (severity : ℕ) → severity < 4 → Lacks 58 (opening severity)
opening_lacks zero small = literal_lacks 58 (codes "1 Uncorrected error") refl
opening_lacks (suc zero) small = literal_lacks 58 (codes "1 Fatal error") refl
opening_lacks (suc (suc zero)) small = literal_lacks 58 (codes "1 Corrected error") refl
opening_lacks (suc (suc (suc zero))) small = literal_lacks 58 (codes "1 Info error") refl
opening_lacks (suc (suc (suc (suc n)))) small = absurd (omega arith)

none_before : (message : List ℕ) → mark_place (codes " on") (32 ∷ message) ≡ None → mark_place (codes " on") (before_more message) ≡ None
none_before [] none = refl
none_before (b ∷ message) none = none

behind_space : (message : List ℕ) → after 32 (before_more message) ≡ message
behind_space [] = refl
behind_space (b ∷ message) = after_is 32 [] (b ∷ message) tt

-- a choice between nothing and an answer
chosen : (lacks : Bool) (label : List ℕ) (o : Option ℕ)
    → read_then {B = ℕ × List ℕ} (if lacks then None else Some label) (λ (label : List ℕ). option_map (λ address. (address, label)) o)
    ≡ (if lacks then None else option_map (λ address. (address, label)) o)
chosen true label o = refl
chosen false label o = refl

-- what is read behind a message and ` on `
module _ (told rest : List ℕ) (plain : mark_place (codes " on") (32 ∷ told) ≡ None) where
  abbrev spaced : List ℕ
  spaced = before_more told

  abbrev whole : List ℕ
  whole = spaced ++ (codes " on " ++ rest)

  behind_on : drop (length spaced + 4) whole ≡ rest
  behind_on =
      let size : length spaced + 4 ≡ length (spaced ++ codes " on ") = omega (arith, length-append spaced (codes " on ")) in
      ap (drop (length spaced + 4)) (sym (append_assoc spaced (codes " on ") rest))
      ∙ drop_at (spaced ++ codes " on ") rest (length spaced + 4) (sym size)

  pub behind_message : label_told whole ≡ (if lacks_place told then None else Some rest)
  behind_message =
      ap (λ (o : Option ℕ). read_then o (λ place. if lacks_place (after 32 (take place whole)) then None else Some (drop (place + 4) whole)))
      (on_first spaced rest (none_before told plain))
      ∙ ap (λ (text : List ℕ). if lacks_place (after 32 text) then None else Some (drop (length spaced + 4) whole)) (take-append_seam spaced (codes " on " ++ rest))
      ∙ ap (λ (text : List ℕ). if lacks_place text then None else Some (drop (length spaced + 4) whole)) (behind_space told)
      ∙ ap (λ (label : List ℕ). if lacks_place told then None else Some label) behind_on

module _ (p : PrintedDriver) (is : IsDriver p) (plain : mark_place (codes " on") (spaced_message p) ≡ None) where
  abbrev inside : List ℕ
  inside = driver_inside p

  abbrev front : List ℕ
  front = driver_front p

  abbrev message : List ℕ
  message = before_more p.message

  abbrev said : List ℕ
  said = message ++ (codes " on " ++ p.label)

  before_is : before_inside inside (printed_driver p) ≡ front
  before_is =
      let rest : List ℕ = codes " (mc:" ++ inside in
      let size : length (printed_driver p) - (length inside + 6) ≡ length front =
      omega (arith, length-append (front ++ rest) (codes ")"), length-append front rest, length-append (codes " (mc:") inside) in
      ap (λ (n : ℕ). take n (printed_driver p)) size
      ∙ ap (take (length front)) (append_assoc front rest (codes ")"))
      ∙ take-append_seam front (rest ++ codes ")")

  said_is : after 58 (before_inside inside (printed_driver p)) ≡ said
  said_is =
      ap (after 58) before_is
      ∙ ap (λ (rest : List ℕ). after 58 (codes "1 " ++ rest)) (sym (append_assoc (severity_name p.severity) (codes " error") (58 ∷ said)))
      ∙ after_is 58 (opening p.severity) said (opening_lacks p.severity is.severity)

  pub dimm_is : dimm_told (printed_driver p) ≡ dimm_of_driver p
  dimm_is =
      ap (λ (o : Option (List ℕ)). read_then o (λ inside.
      read_then (label_told (after 58 (before_inside inside (printed_driver p)))) (λ label.
      option_map (λ address. (address, label)) (address_in inside)))) (controller_at front inside (no_mark p is))
      ∙ ap (λ (text : List ℕ). read_then (label_told text) (λ label. option_map (λ address. (address, label)) (address_in inside))) said_is
      ∙ ap (λ (o : Option (List ℕ)). read_then o (λ label. option_map (λ address. (address, label)) (address_in inside))) (behind_message p.message p.label plain)
      ∙ ap (λ (o : Option ℕ). read_then (if lacks_place p.message then None else Some p.label) (λ (label : List ℕ). option_map (λ address. (address, label)) o)) (address_is p is)
      ∙ chosen (lacks_place p.message) p.label p.address
