-- What runs log and order, one run after another: the definitions that the laws of runs cite.
use Rattle.std.specs.Prelude.{◌≡◌, ℕ, List, [], ◌∷◌, ◌++◌, length, take, All, Ok, ⊤}
use Rattle.std.specs.List.{flat_map}
use Rattle.page_policy.specs.declared.rows.Order.{Order}
use Rattle.ras_facts.specs.declared.entry.Entry.{Entry}
use Rattle.ras_facts.specs.declared.entry.Entry.TheVariants.{Fact}
use Rattle.ras_facts.specs.declared.fact.Fact.{Fact as FactOf}
use Rattle.ras_account.specs.Account.{State, account_of}
use Rattle.ras_account.specs.History.{History, with_entries}
use Rattle.ras_account.specs.Numbers.{fresh_entries_in}
use Rattle.ras_events.specs.Events.{no_settings}
use Rattle.ras_events.specs.Described.{NumberedLine, settings_told}
use Rattle.ras_run.specs.Sites.{Start, first_site}
use Rattle.ras_run.specs.Places.{entries_at, reports}
use Rattle.ras_daemon.specs.Script.{events_of, reads_in, reads_of}
use Rattle.ras_events.specs.Sizes.{IsFact}
use Rattle.ras_events.specs.Preparing.{orders_along_entries}
use Rattle.ras_exit.specs.declared.exit.Exit.TheVariants.{Done}
use Rattle.ras_daemon.specs.Headline.{account_with, reported}
use Rattle.ras_daemon.specs.RunStatus.{empty_start, run_exit}
use Rattle.ras_script.specs.declared.line.Line.TheVariants.{Poll}
use Rattle.ras_script.specs.Lines.{script_lines}

-- a run begins with the account of a history
abbrev pub BeginsWith : History → Start → Type 0
BeginsWith history start = start.account ≡ account_of history

-- the history that a run leaves once its first n events are done
abbrev pub history_after : History → Start → List ℕ → ℕ → History
history_after history start script n = with_entries history (reported start script n)

-- what the first n events log: the entries that they report and that are new when they come
abbrev pub logged : Start → List ℕ → ℕ → List Entry
logged start script n = fresh_entries_in start.account (reported start script n)

-- the reports among entries
abbrev pub facts_of : List Entry → List FactOf
facts_of [] = []
facts_of (Fact fact ∷ entries) = fact ∷ facts_of entries
facts_of (other ∷ entries) = facts_of entries

-- the orders that the first n events give, each after everything that was reported before it
abbrev pub ordered : Start → List ℕ → ℕ → List Order
ordered start script n =
    flat_map (λ place. orders_along_entries place.0.account (entries_at place)) (take n (events_of start script))

-- how many events an uninterrupted run has
abbrev pub event_count : Start → List ℕ → ℕ
event_count start script = length (events_of start script)

-- a run takes the whole script: no line is rejected, and there is room for all that is reported
abbrev pub IsTakenWhole : Start → List ℕ → Type 0
IsTakenWhole start script = run_exit start script ≡ Done

-- a run begins with the account that another run left once its first n events were done
abbrev pub Follows : Start → List ℕ → ℕ → Start → Type 0
Follows start script n next = next.account ≡ account_with start script n

-- a run reports only facts: it sets no limit and retires no boot
abbrev pub ReportsFacts : Start → List ℕ → Type 0
ReportsFacts start script = All IsFact (reported start script (event_count start script))

-- No line of a script polls the record store, so what the script reports depends only on its own lines.
abbrev pub IsNoPoll : NumberedLine → Type 0
IsNoPoll (number, Ok (Poll seconds)) = ⊥
IsNoPoll read = ⊤

abbrev pub PollsNothing : List ℕ → Type 0
PollsNothing script = All IsNoPoll (reads_of script)

-- two accounts are equal except for the number of their entries
abbrev pub CountTheSame : State → State → Type 0
CountTheSame one other = record one { entries = 0 } ≡ record other { entries = 0 }

-- Two scripts begin with the same lines, which describe the machine and report nothing. The other lines of
-- the first script don't describe the machine. A third script has these first lines once, and then the other
-- lines of both.
pub record AreJoined (one other both : List ℕ) : Type 0 where
  pub rows : List (List ℕ)
  pub first : List (List ℕ)
  pub second : List (List ℕ)
  pub one_is : (script_lines one).whole ≡ rows ++ first
  pub other_is : (script_lines other).whole ≡ rows ++ second
  pub both_is : (script_lines both).whole ≡ rows ++ (first ++ second)
  pub silent : reports (first_site empty_start) (reads_in rows) ≡ []
  pub untold : settings_told (reads_in first) ≡ no_settings
