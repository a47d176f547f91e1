-- What a report prints, and what it leaves.
use Rattle.std.proofs.Common.{◌≡◌, ℕ, List, [], ◌++◌, Option, None, Some, IfSome, option_map, Result, Ok, Err, refl, sym, ap, subst, ◌∙◌, inl, inr, append-nil}
use Rattle.board_core.specs.Clock.{Clock, Adds, LeftNow, Rests}
use Rattle.board_core.specs.Steps.ClockLemmas.{adds_both, adds_weaker}
use Rattle.board_core.specs.Stop.{Left, Begins, InOut}
use Rattle.board_core.specs.Told.{FailsPrint, Relates, Steps, Told, after_print}
use Rattle.ras_journal.specs.Recovered.{recovered}
use Rattle.ras_recover.specs.OpeningCalls.{AfterRecovery}
use Rattle.ras_recover.specs.Recovering.{KeepsTold, RestsHere, UnlessDisk, open_failure}
use Rattle.ras_recover.specs.declared.refused.OpenRefused.{OpenRefused}
use Rattle.ras_recover.specs.declared.refused.OpenRefused.TheVariants as opening
use Rattle.listing_texts.specs.declared.listing.Listing.{Listing}
use Rattle.ras_exit.specs.declared.exit.Exit.{Exit}
use Rattle.ras_exit.specs.declared.exit.Exit.TheVariants.{PrintFault}
use Rattle.board_core.specs.Device.{KeepsDevice, LeavesDevice}
use Rattle.ras_exit.specs.Endings.{IsCut}
use Rattle.ras_exit.proofs.DeviceLemmas.{device_by}
use Rattle.ras_exit.proofs.EndingLemmas.{on_answer, on_cut}
use Rattle.ras_daemon.specs.Steps.Answering.{IsCutBy, IsSaid}
use Rattle.ras_daemon.specs.Reporting.{ReportMoment, Reports, report_exit, report_output}

-- ---- a report that is cut short

pub is_cut : (failure : Result (Unit {0}) OpenRefused) (exit : Exit) → IsCutBy failure exit → IsCut exit
is_cut failure exit (inl disk) = rw disk.0 refl
is_cut failure exit (inr memory) = rw memory.0 refl

recovery_device : (old new : Told) → AfterRecovery old new → KeepsDevice old new
recovery_device old new after = record { store = after.store; volatile = after.volatile; accesses = after.accesses }

cut_there : (listing : Listing) (exit : Exit) → IsCut exit → (t u : Told) → AfterRecovery t u → Reports listing exit t u
cut_there listing exit cut t u after = record {
  tells = record {
    answers = on_cut exit (exit ≡ report_exit t.here) cut;
    begun = ([], (report_output listing t.here, refl), after.text ∙ sym (append-nil t.here.out));
    whole = on_cut exit (u.here.out ≡ t.here.out ++ report_output listing t.here) cut;
  };
  file0 = after.file0;
  file1 = after.file1;
  device = recovery_device t u after;
  calls = after.calls;
}

pub cut_reports : (listing : Listing) (exit : Exit) (old mid : Option Told) → IsCut exit → Relates AfterRecovery old mid → Relates (Reports listing exit) old mid
cut_reports listing exit None mid cut after = after
cut_reports listing exit (Some t) None cut after = after
cut_reports listing exit (Some t) (Some u) cut after = cut_there listing exit cut t u after

-- ---- one that is printed

printed_there : (listing : Listing) (exit : Exit) (text part rest : List ℕ) (t u : Told) → part ++ rest ≡ report_output listing t.here → AfterRecovery t u
    → IsCut exit → Reports listing exit t (after_print part u)
printed_there listing exit text part rest t u splits after cut = record {
  tells = record {
    answers = on_cut exit (exit ≡ report_exit t.here) cut;
    begun = (part, (rest, splits), ap (λ out. out ++ part) after.text);
    whole = on_cut exit (u.here.out ++ part ≡ t.here.out ++ report_output listing t.here) cut;
  };
  file0 = after.file0;
  file1 = after.file1;
  device = record { store = after.store; volatile = after.volatile; accesses = after.accesses };
  calls = record { made = after.calls.made; listed = after.calls.listed; are = after.calls.are };
}

whole_there : (listing : Listing) (exit : Exit) (text : List ℕ) (t u : Told) → IsSaid listing (recovered t.here.file0 t.here.file1) exit text → AfterRecovery t u → Reports listing exit t (after_print text u)
whole_there listing exit text t u said after = record {
  tells = record {
    answers = on_answer exit (exit ≡ report_exit t.here) said.exit_is;
    begun = (text, ([], append-nil text ∙ said.text_is), ap (λ out. out ++ text) after.text);
    whole = on_answer exit (u.here.out ++ text ≡ t.here.out ++ report_output listing t.here)
        (ap (λ out. out ++ text) after.text ∙ ap (λ more. t.here.out ++ more) said.text_is);
  };
  file0 = after.file0;
  file1 = after.file1;
  device = record { store = after.store; volatile = after.volatile; accesses = after.accesses };
  calls = record { made = after.calls.made; listed = after.calls.listed; are = after.calls.are };
}

-- what is printed for the files of a modelled board
abbrev pub SaysHere : Listing → Exit → List ℕ → Option Told → Type 0
SaysHere listing exit text old = IfSome old (λ t. IsSaid listing (recovered t.here.file0 t.here.file1) exit text)

pub printed_reports : (listing : Listing) (exit : Exit) (text : List ℕ) (old mid new : Option Told) → SaysHere listing exit text old → Relates AfterRecovery old mid → Steps (after_print text) mid new
    → Relates (Reports listing exit) old new
printed_reports listing exit text None mid new said after steps = steps ∙ ap (λ (o : Option Told). option_map (after_print text) o) after
printed_reports listing exit text (Some t) None new said after steps = absurd after
printed_reports listing exit text (Some t) (Some u) new said after steps = rw steps (whole_there listing exit text t u said after)

pub unprinted_reports : (listing : Listing) (exit : Exit) (text : List ℕ) (old mid new : Option Told) → SaysHere listing exit text old → Relates AfterRecovery old mid → Relates (FailsPrint text) mid new
    → Relates (Reports listing PrintFault) old new
unprinted_reports listing exit text None None new said after fails = fails
unprinted_reports listing exit text None (Some u) new said after fails = absurd cc
unprinted_reports listing exit text (Some t) None new said after fails = absurd after
unprinted_reports listing exit text (Some t) (Some u) None said after fails = absurd fails
unprinted_reports listing exit text (Some t) (Some u) (Some v) said after fails =
    rw fails.3 (printed_there listing PrintFault text fails.0 fails.1 t u (fails.2 ∙ said.text_is) after refl)

-- ---- what crashes leave

pub read_moments : (listing : Listing) (t : Told) (a b : Clock) → Adds (LeftNow a) a b → Adds (ReportMoment a (report_output listing t.here) t.here) a b
read_moments listing t a b adds = adds_weaker (LeftNow a) (ReportMoment a (report_output listing t.here) t.here) a b adds (λ left was. inl was)

pub printed_moments : (listing : Listing) (exit : Exit) (text : List ℕ) (t : Told) (mid : Option Told) (a b c : Clock) → IsSaid listing (recovered t.here.file0 t.here.file1) exit text
    → Adds (LeftNow a) a b → RestsHere t.here mid b → ((m : Told) → Rests m mid b → Adds (InOut (Begins text) m.here) b c)
    → Adds (ReportMoment a (report_output listing t.here) t.here) a c
printed_moments listing exit text t mid a b c said adds rests prints =
    let P : Left → Type 0 = ReportMoment a (report_output listing t.here) t.here in
    adds_both P a b c (read_moments listing t a b adds)
    (adds_weaker (InOut (Begins text) rests.there.here) P b c (prints rests.there rests.rests)
    (λ left by. inr (subst (λ out. InOut (Begins out) t.here left) said.text_is (subst (λ (h : Left). InOut (Begins text) h left) rests.same by))))

-- files that were read without a fault of the disk
pub unless_disk : {T : Type 0} (found : Result T OpenRefused) (P : Type 0) → open_failure found ≡ Ok tt → UnlessDisk found P → P
unless_disk (Ok x) P whole holds = holds
unless_disk (Err opening.Disk) P whole holds = absurd cc
unless_disk (Err opening.TooLong) P whole holds = holds
unless_disk (Err (opening.Damaged file place)) P whole holds = holds
unless_disk (Err opening.NoMemory) P whole holds = holds

-- ---- the device

pub read_device : (old mid : Option Told) (a b : Clock) → Relates AfterRecovery old mid → KeepsTold old a mid b → LeavesDevice old mid a b
read_device old mid a b after keeps =
    device_by AfterRecovery old mid a b recovery_device after
    (λ t is stored. record {
      since = adds_weaker (LeftNow a) (λ left. left.store ≡ t.here.store) a b keeps.stops stored;
      now = λ left now. stored left (keeps.ends left now);
    })

-- what is printed, given the board's model
pub says_here : (Q : Told → Type 0) (old : Option Told) (listing : Listing) (exit : Exit) (text : List ℕ)
    → IfSome old Q → ((t : Told) → Q t → IsSaid listing (recovered t.here.file0 t.here.file1) exit text) → SaysHere listing exit text old
says_here Q None listing exit text tells said = tt
says_here Q (Some t) listing exit text tells said = said t tells

-- the exit of a print that failed
pub fault_is : {T : Type 0} (fault : Exit) → ◌≡◌ {A = Result T Exit} (Err fault) (Err PrintFault) → fault ≡ PrintFault
fault_is fault is = cc
