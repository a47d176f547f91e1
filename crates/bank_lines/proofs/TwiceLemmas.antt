-- An error that first EDAC prints, and then the kernel, is found twice under one name.
use Rattle.std.proofs.Common.{◌≡◌, ℕ, Bool, true, false, List, ◌∷◌, refl, sym, ap, ◌∙◌, if◌then◌else◌}
use Rattle.ras_facts.specs.declared.bank.BankReport.{BankReport}
use Rattle.ras_klog.specs.declared.state.KlogOut.{KlogOut}
use Rattle.ras_klog.specs.declared.state.KlogOut.TheVariants as Told
use Rattle.bank_lines.specs.Counts.{KeyCounts, counts_after, named_found}
use Rattle.bank_lines.specs.LogGroups.{LogGroup, counts_by, found_told, group_founds_from, group_vendor, judged, printers_after, printers_with, told_in}
use Rattle.bank_lines.specs.declared.found.Finding.{Finding}
use Rattle.bank_lines.specs.declared.log_line.Print.{Print}
use Rattle.bank_lines.specs.declared.log_state.Printers.{Printers}

-- EDAC's reports count for EDAC, and the kernel's for the kernel
edac_counts : (before : Printers) (print : Print) (found : Finding) → print.by_edac ≡ true
    → ((printers_with before print found).edac ≡ counts_after before.edac found) × ((printers_with before print found).kernel ≡ before.kernel)
edac_counts before print (Finding.Whole report) is = rw is (refl, refl)
edac_counts before print (Finding.Torn report) is = rw is (refl, refl)
edac_counts before print (Finding.Full report) is = (refl, refl)
edac_counts before print Finding.Nothing is = (refl, refl)
edac_counts before print (Finding.Partial cpu bank) is = (refl, refl)
edac_counts before print (Finding.Foreign vendor cpu bank) is = (refl, refl)
edac_counts before print (Finding.Firmware cpu) is = (refl, refl)
edac_counts before print Finding.Unread is = (refl, refl)

kernel_counts : (before : Printers) (print : Print) (found : Finding) → print.by_edac ≡ false
    → ((printers_with before print found).kernel ≡ counts_after before.kernel found) × ((printers_with before print found).edac ≡ before.edac)
kernel_counts before print (Finding.Whole report) is = rw is (refl, refl)
kernel_counts before print (Finding.Torn report) is = rw is (refl, refl)
kernel_counts before print (Finding.Full report) is = (refl, refl)
kernel_counts before print Finding.Nothing is = (refl, refl)
kernel_counts before print (Finding.Partial cpu bank) is = (refl, refl)
kernel_counts before print (Finding.Foreign vendor cpu bank) is = (refl, refl)
kernel_counts before print (Finding.Firmware cpu) is = (refl, refl)
kernel_counts before print Finding.Unread is = (refl, refl)

-- the second text's finding is the first text's
pub found_again : (before : Printers) (edac plain : Print) (vendor : ℕ) (report : BankReport) → before.edac ≡ before.kernel
    → edac.by_edac ≡ true → plain.by_edac ≡ false
    → found_told (printers_after before edac vendor (Told.Whole report)) plain vendor (Told.Whole report) ≡ found_told before edac vendor (Told.Whole report)
found_again before edac plain vendor report alike first second =
    let found : Finding = judged vendor (Told.Whole report) in
    let after : Printers = printers_after before edac vendor (Told.Whole report) in
    let kernel : counts_by after plain ≡ after.kernel = ap (λ (is : Bool). if is then after.edac else after.kernel) second in
    let edac_is : counts_by before edac ≡ before.edac = ap (λ (is : Bool). if is then before.edac else before.kernel) first in
    ap (λ (counts : KeyCounts). named_found counts found) (kernel ∙ (edac_counts before edac found first).1 ∙ sym alike ∙ sym edac_is)

pub alike_again : (before : Printers) (edac plain : Print) (vendor : ℕ) (report : BankReport) → before.edac ≡ before.kernel
    → edac.by_edac ≡ true → plain.by_edac ≡ false
    → (printers_after (printers_after before edac vendor (Told.Whole report)) plain vendor (Told.Whole report)).edac
    ≡ (printers_after (printers_after before edac vendor (Told.Whole report)) plain vendor (Told.Whole report)).kernel
alike_again before edac plain vendor report alike first second =
    let found : Finding = judged vendor (Told.Whole report) in
    let after : Printers = printers_after before edac vendor (Told.Whole report) in
    let one = edac_counts before edac found first in
    let other = kernel_counts after plain found second in
    other.1 ∙ one.0
    ∙ ap (λ (counts : KeyCounts). counts_after counts found) (alike ∙ sym one.1)
    ∙ sym other.0

pub twice : (boot cap : ℕ) (before : Printers) (edac plain : LogGroup) (groups : List LogGroup) (report : BankReport) → before.edac ≡ before.kernel
    → edac.print.by_edac ≡ true → plain.print.by_edac ≡ false
    → told_in boot cap edac ≡ Told.Whole report → told_in boot cap plain ≡ Told.Whole report → group_vendor edac.rest ≡ group_vendor plain.rest
    → group_founds_from boot cap before (edac ∷ plain ∷ groups)
    ≡ found_told before edac.print (group_vendor edac.rest) (Told.Whole report) ∷ found_told before edac.print (group_vendor edac.rest) (Told.Whole report)
    ∷ group_founds_from boot cap (printers_after (printers_after before edac.print (group_vendor edac.rest) (Told.Whole report)) plain.print (group_vendor edac.rest) (Told.Whole report)) groups
twice boot cap before edac plain groups report alike first second one other vendors =
    let vendor : ℕ = group_vendor edac.rest in
    let whole : KlogOut = Told.Whole report in
    ap (λ (told : KlogOut). found_told before edac.print vendor told
    ∷ found_told (printers_after before edac.print vendor told) plain.print (group_vendor plain.rest) (told_in boot cap plain)
    ∷ group_founds_from boot cap (printers_after (printers_after before edac.print vendor told) plain.print (group_vendor plain.rest) (told_in boot cap plain)) groups) one
    ∙ ap (λ (told : KlogOut). found_told before edac.print vendor whole
    ∷ found_told (printers_after before edac.print vendor whole) plain.print (group_vendor plain.rest) told
    ∷ group_founds_from boot cap (printers_after (printers_after before edac.print vendor whole) plain.print (group_vendor plain.rest) told) groups) other
    ∙ ap (λ (v : ℕ). found_told before edac.print vendor whole
    ∷ found_told (printers_after before edac.print vendor whole) plain.print v whole
    ∷ group_founds_from boot cap (printers_after (printers_after before edac.print vendor whole) plain.print v whole) groups) (sym vendors)
    ∙ ap (λ (found : Finding). found_told before edac.print vendor whole ∷ found
    ∷ group_founds_from boot cap (printers_after (printers_after before edac.print vendor whole) plain.print vendor whole) groups) (found_again before edac.print plain.print vendor report alike first second)
