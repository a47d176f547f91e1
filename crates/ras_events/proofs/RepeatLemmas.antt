-- A machine-check report that isn't new.
use Rattle.std.proofs.Common.{◌≡◌, ◌∙◌, true, false, not, if◌then◌else◌, List, [], ◌∷◌, ◌++◌, Option, None, Some, Ok, IfSome, refl, sym, ap, subst, append-nil, arith}
use Rattle.std.specs.Option.{option_map}
use Rattle.ras_account.specs.Account.{State}
use Rattle.ras_account.specs.Accounts.{IsAccount}
use Rattle.ras_account.specs.Continued.{is_fresh_in, knows}
use Rattle.ras_account.specs.Numbers.{AreWithin, fresh_entries_in}
use Rattle.ras_account.proofs.NumberLemmas.{with_fresh_ones}
use Rattle.ras_facts.specs.Facts.{bank_fact}
use Rattle.ras_facts.specs.Valid.{IsValidFact}
use Rattle.ras_facts.specs.declared.bank.BankReport.{BankReport}
use Rattle.ras_facts.specs.declared.entry.Entry.{Entry}
use Rattle.ras_facts.specs.declared.entry.Entry.TheVariants as entry
use Rattle.ras_facts.specs.declared.fact.Fact.{Fact}
use Rattle.ras_facts.specs.declared.name.Name.{Name}
use Rattle.ras_facts.specs.declared.details.Detail.TheVariants as detail
use Rattle.ras_facts.specs.declared.details.Report.{Report}
use Rattle.ras_script.specs.declared.line.ErrorReport.TheVariants.{Bank}
use Rattle.ras_script.specs.declared.line.Line.TheVariants as asks
use Rattle.ras_texts.specs.Reports.{entry_lines}
use Rattle.ras_texts.specs.Text.{known_line}
use Rattle.ras_events.specs.declared.settings.Settings.{Settings}
use Rattle.ras_events.specs.Events.{counts_report}
use Rattle.ras_events.specs.Making.{made_by_report}
use Rattle.ras_events.specs.Repeats.{IsRepeat}
use Rattle.ras_events.proofs.FitLemmas.{report_fits}

-- An account has room for no more entries.
room_for_none : (account : State) → IsAccount account → AreWithin (with_fresh_ones account [])
room_for_none account is = record {
  names = omega (arith, is.within.names);
  entries = omega (arith, is.within.entries);
  total = omega (arith, is.within.total);
}

fact_repeats : (account : State) (settings : Settings) (bank : BankReport) (fact : Fact)
    → bank_fact bank settings.topology ≡ Some fact → IsValidFact fact → knows account fact.name ≡ true → IsAccount account
    → IsRepeat account settings (asks.Report (Bank bank)) (known_line account fact.name)
fact_repeats account settings bank fact is valid known within =
    let report : Report = record { fact = fact; details = detail.Bank bank ∷ [] } in
    let stale : is_fresh_in account (entry.Fact fact) ≡ false = ap not known in
    let none : fresh_entries_in account (entry.Fact fact ∷ []) ≡ [] = ap (λ b. if b then entry.Fact fact ∷ [] else []) stale in
    record {
      made = made_by_report report;
      asked = ap (λ (o : Option Fact). Ok (counts_report (option_map (λ (f : Fact). record { fact = f; details = detail.Bank bank ∷ [] }) o))) is;
      settled = refl;
      fit = report_fits (Some report) valid;
      none = none;
      room = subst (λ (fresh : List Entry). AreWithin (with_fresh_ones account fresh)) (sym none) (room_for_none account within);
      lines =
          sym (append-nil (known_line account fact.name))
          ∙ ap (λ b. (if b then entry_lines report.details account (entry.Fact fact) else known_line account fact.name) ++ []) (sym stale);
    }

-- A bank's report whose fact has a known name is a repeat.
pub bank_repeats : (account : State) (settings : Settings) (bank : BankReport) (name : Name)
    → Some name ≡ option_map (λ (fact : Fact). fact.name) (bank_fact bank settings.topology) → IfSome (bank_fact bank settings.topology) IsValidFact
    → knows account name ≡ true → IsAccount account
    → IsRepeat account settings (asks.Report (Bank bank)) (known_line account name)
bank_repeats account settings bank name named valid known within = by (bank_fact bank settings.topology) refl named valid
  where
    by : (fact : Option Fact) → bank_fact bank settings.topology ≡ fact → Some name ≡ option_map (λ (f : Fact). f.name) fact → IfSome fact IsValidFact
        → IsRepeat account settings (asks.Report (Bank bank)) (known_line account name)
    by None is none v = absurd (no_name none)
      where
        no_name : ◌≡◌ {A = Option Name} (Some name) None → ⊥
        no_name e = cc
    by (Some fact) is same v =
        let name_is : fact.name ≡ name = cc in
        subst (λ (n : Name). IsRepeat account settings (asks.Report (Bank bank)) (known_line account n)) name_is
        (fact_repeats account settings bank fact is v (ap (knows account) name_is ∙ known) within)
