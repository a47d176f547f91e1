use Rattle.std.proofs.Common.{◌≡◌, ℕ, List, [], ◌∷◌, ◌++◌, length, arith, sym, ap, ◌∙◌, subst}
use Rattle.std.specs.Option.{option_map}
use Rattle.std.specs.Vec.{vec_len}
use Rattle.event_lines.specs.SectionEvent.{behind_byte, bytes_from}
use Rattle.event_lines.proofs.RawLemmas.{goes_on, stops_at_byte}
use Rattle.event_lines.proofs.section_event.raw_bytes.Goals as goal

pub returns-in_default : goal.returns-in_default
returns-in_default c =
    stops_at_byte c.loop-rest.bytes.items c.loop-rest.rest.now (bytes_from 0 c.args.text.now) c.loop-rest.invariant c.loop-rest-test.true
    (sym c.byte_of.ensures ∙ c.in_default.is)

pub loop-rest-preserved : goal.loop-rest-preserved
loop-rest-preserved c =
    let rest : List ℕ = c.loop-rest.rest.now in
    let pushed : c.push.new.self.items ≡ c.loop-rest.bytes.items ++ c.in-Some.byte ∷ [] = c.in_ok-push.ensures.items in
    let many : vec_len c.push.new.self ≡ length c.push.new.self.items = grind (arith) in
    subst (λ (items : List ℕ). option_map (λ more. items ++ more) (bytes_from (length items) c.in-Some-behind_byte.behind.now) ≡ bytes_from 0 c.args.text.now) (sym pushed)
    (goes_on c.loop-rest.bytes.items rest c.in-Some-behind_byte.behind.now c.in-Some.byte (bytes_from 0 c.args.text.now) c.loop-rest.invariant c.loop-rest-test.true
    (sym c.byte_of.ensures ∙ c.in-Some.is)
    (ap (λ (n : ℕ). behind_byte n rest) (ap length (sym pushed) ∙ sym many)
    ∙ ap (λ (n : ℕ). behind_byte n rest) (sym c.len.ensures) ∙ sym c.behind_byte.ensures.value ∙ ap (option_map (λ rest. rest.now)) c.in-Some-behind_byte.is))
