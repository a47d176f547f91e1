use Rattle.std.proofs.Common.{◌∙◌, ◌+◌, ℕ, List, refl, sym, ap, subst, arith, true≢false}
use Rattle.journal_format.specs.Links.{IsPayload, payload_in, ends_early}
use Rattle.journal_format.specs.PayloadReading.{payload_of}
use Rattle.ras_recover.proofs.ReadingLemmas.{field_none, payload_field, payload_bad, not_cut, rest_of}
use Rattle.ras_recover.proofs.links.payload_at.Goals as goal

pub returns-in_default-clause-read : goal.returns-in_default-clause-read
returns-in_default-clause-read c = field_none (payload_of c.args.version) (c.args.gate + 5) c.args.count c.args.file.now (c.in_default.ensures.none refl)

pub returns-in-Ok-clause-read : goal.returns-in-Ok-clause-read
returns-in-Ok-clause-read c =
    payload_field c.args.version c.args.gate c.args.count c.args.file.now c.in-Some.field-0.now c.in-Ok.entries.items c.requires.count c.in-Some.ensures.within c.in-Some.ensures.some
    (subst (λ (l : List ℕ). IsPayload c.args.version c.in-Ok.entries.items (payload_in l)) (rest_of (c.args.gate + 1) c.args.file.now) c.in-Ok.ensures.found)

pub returns-in-Err-Cut-clause-read : goal.returns-in-Err-Cut-clause-read
returns-in-Err-Cut-clause-read c =
    let told = rw c.in-Err-Cut.field-0-is at c.in-Err-Cut.ensures in
    absurd (true≢false (sym (told.cut.0 refl) ∙ ap ends_early (rest_of (c.args.gate + 1) c.args.file.now) ∙ not_cut c.args.gate c.args.count c.args.file.now c.requires.count c.in-Some.ensures.within))

pub returns-in-Err-Bad-clause-read : goal.returns-in-Err-Bad-clause-read
returns-in-Err-Bad-clause-read c =
    let told = rw c.in-Err-Bad.field-0-is at c.in-Err-Bad.ensures in
    payload_bad c.args.version c.args.gate c.args.count c.args.file.now c.in-Some.field-0.now (λ i. omega (arith, c.type_inv.file i)) c.requires.count c.in-Some.ensures.within c.in-Some.ensures.some
    (λ entries payload. told.bad refl entries (subst (λ (l : List ℕ). IsPayload c.args.version entries (payload_in l)) (sym (rest_of (c.args.gate + 1) c.args.file.now)) payload))
