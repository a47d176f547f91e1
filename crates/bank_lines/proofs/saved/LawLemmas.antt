-- A record gives what the trace and the log give for the same registers.
use Rattle.std.proofs.Common.{◌≡◌, ℕ, ◌==◌, Bool, true, false, [], refl, sym, ap, if◌then◌else◌}
use Rattle.mca_status.specs.Registers.{valid}
use Rattle.ras_facts.specs.Facts.{bank_name, status_in}
use Rattle.ras_facts.specs.declared.bank.BankReport.{BankReport}
use Rattle.ras_klog.specs.Groups.{bank_of_group}
use Rattle.bank_lines.specs.Counts.{named_found, number_in, whole_by}
use Rattle.bank_lines.specs.Finding.{found_of}
use Rattle.bank_lines.specs.Naming.{key_of, named_first, numbered}
use Rattle.bank_lines.specs.Trace.{event_found, event_report}
use Rattle.bank_lines.specs.declared.event.TraceEvent.{TraceEvent}
use Rattle.bank_lines.specs.declared.found.Finding.TheVariants.{Firmware, Foreign, Nothing, Whole}
use Rattle.bank_lines.specs.Saved.Records.{record_found, saved_report}

-- the finding of the first report with a key
of_found : (r : BankReport) → found_of (named_first r) ≡ named_found [] (found_of r)
of_found r = by (r.tsc == 0) refl
  where
    polled : (r.tsc == 0) ≡ true → (is_valid firmware : Bool)
        → (if is_valid then (if firmware then Firmware r.cpu else Whole (numbered 0 r)) else Nothing)
        ≡ named_found [] (if is_valid then (if firmware then Firmware r.cpu else Whole r) else Nothing)
    polled is true true = refl
    polled is true false = sym (ap (λ (none : Bool). if none then whole_by r (number_in [] (key_of r)) else Whole r) is)
    polled is false firmware = refl

    counted : (r.tsc == 0) ≡ false → (is_valid firmware : Bool)
        → (if is_valid then (if firmware then Firmware r.cpu else Whole r) else Nothing)
        ≡ named_found [] (if is_valid then (if firmware then Firmware r.cpu else Whole r) else Nothing)
    counted is true true = refl
    counted is true false = sym (ap (λ (none : Bool). if none then whole_by r (number_in [] (key_of r)) else Whole r) is)
    counted is false firmware = refl

    by : (none : Bool) → (r.tsc == 0) ≡ none → found_of (if none then numbered 0 r else r) ≡ named_found [] (found_of r)
    by true is = polled is (valid (status_in r)) (r.bank == 255)
    by false is = counted is (valid (status_in r)) (r.bank == 255)

pub as_traced : (boot : ℕ) (e : TraceEvent) → record_found boot e ≡ named_found [] (event_found boot e)
as_traced boot e = by (e.vendor == 0)
  where
    by : (intel : Bool)
        → (if intel then found_of (saved_report boot e) else Foreign e.vendor e.cpu e.bank)
        ≡ named_found [] (if intel then found_of (event_report boot e) else Foreign e.vendor e.cpu e.bank)
    by true = of_found (event_report boot e)
    by false = refl

pub as_logged : (boot cap : ℕ) (e : TraceEvent) → bank_name (saved_report boot e)
    ≡ bank_name (named_first (bank_of_group boot cap (record { cpu = e.cpu; mcg = e.mcg; bank = e.bank; status = e.status }) e.tsc e.addr e.misc e.seconds))
as_logged boot cap e = by (e.tsc == 0)
  where
    r : BankReport
    r = event_report boot e

    g : BankReport
    g = bank_of_group boot cap (record { cpu = e.cpu; mcg = e.mcg; bank = e.bank; status = e.status }) e.tsc e.addr e.misc e.seconds

    by : (none : Bool) → bank_name (if none then numbered 0 r else r) ≡ bank_name (if none then numbered 0 g else g)
    by true = refl
    by false = refl
