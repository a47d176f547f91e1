use Rattle.std.proofs.Common.{◌≡◌, ◌∙◌, refl, sym}
use Rattle.std.proofs.lemmas.Bool.Decides.{Decides-eqb}
use Rattle.std.proofs.lemmas.Slice.Eq.{slice_eq-Decides}
use Rattle.entry_format.specs.declared.version.Version.TheVariants.{Two}
use Rattle.journal_format.specs.Checkpoints.{IsCheckpoint}
use Rattle.journal_format.proofs.ComparingLemmas.{first_part, row_part, is_whole, other_front, other_names, rows_are, tells, not_true}
use Rattle.journal_format.proofs.comparing.is_checkpoint_of.Goals as goal

pub returns-in_default : goal.returns-in_default
returns-in_default c =
    let a = c.args.account.now.state in
    let front : c.deref.result.now ≡ first_part a = c.deref.ensures.value ∙ (c.in_ok-push_u64.ensures.ok ∙ rw (c.in_ok-push_front.ensures, c.new-front.ensures.items, c.names_len.ensures.count) refl) in
    let differs = rw front at (c.in_default.ensures.none refl) in
    ((λ no. not_true no), (λ is. absurd (other_front a c.args.bytes.now differs is.spelled)))

pub returns-in_default-after_names : goal.returns-in_default-after_names
returns-in_default-after_names c =
    let a = c.args.account.now.state in
    let front : c.deref.result.now ≡ first_part a = c.deref.ensures.value ∙ (c.in_ok-push_u64.ensures.ok ∙ rw (c.in_ok-push_front.ensures, c.new-front.ensures.items, c.names_len.ensures.count) refl) in
    let begins = rw front at c.in-Some.ensures.some in
    ((λ no. not_true no), (λ is. absurd (other_names a c.args.bytes.now c.in-Some.rest.now begins (c.in_default-after_names.ensures.none refl) is.spelled)))

pub returns : goal.returns
returns c =
    let a = c.args.account.now.state in
    let front : c.deref.result.now ≡ first_part a = c.deref.ensures.value ∙ (c.in_ok-push_u64.ensures.ok ∙ rw (c.in_ok-push_front.ensures, c.new-front.ensures.items, c.names_len.ensures.count) refl) in
    let begins = rw front at c.in-Some.ensures.some in
    let rows : c.as_slice.result.now ≡ row_part a = c.as_slice.ensures.value ∙ (c.in_ok-push_pages.ensures ∙ rw (c.in_ok-push_modules.ensures, c.new-rows.ensures.items) refl) in
    tells c.eq.result _ (IsCheckpoint Two a c.args.bytes.now)
    (slice_eq-Decides Decides-eqb c.in-Some-after_names.rest.now c.as_slice.result.now c.eq.result c.eq.ensures)
    (λ same. record {
      account = c.tell_account.ensures.account;
      told = tt;
      module_count = c.tell_account.ensures.modules;
      page_count = c.tell_account.ensures.pages;
      spelled = is_whole a c.args.bytes.now c.in-Some.rest.now c.in-Some-after_names.rest.now begins c.in-Some-after_names.ensures.some (same ∙ rows);
    })
    (λ is. rows_are a c.args.bytes.now c.in-Some.rest.now c.in-Some-after_names.rest.now begins c.in-Some-after_names.ensures.some is.spelled ∙ sym rows)
