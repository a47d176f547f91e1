-- The lines of new reports, one for each item with its detail.
use Rattle.std.specs.Prelude.{ℕ, ◌==◌, List, ◌++◌, codes, count_by, decimal, length, if◌then◌else◌}
use Rattle.std.specs.List.{flat_map, zip}
use Rattle.ras_base.specs.Text.{line_with}
use Rattle.ras_facts.specs.declared.fact.Fact.{Fact}
use Rattle.ras_facts.specs.declared.items.Item.{Item}
use Rattle.ras_facts.specs.declared.entry.Entry.{Entry}
use Rattle.ras_facts.specs.declared.entry.Entry.TheVariants.{Fact as FactEntry, Limit as PageLimit, Retire, ModuleLimit}
use Rattle.ras_facts.specs.declared.details.Detail.{Detail}
use Rattle.ras_facts.specs.declared.details.Detail.TheVariants.{Bank, Memory, Processor, X64, Other}
use Rattle.ras_account.specs.Account.{State}
use Rattle.ras_account.specs.History.{is_retired}
use Rattle.ras_texts.specs.Detail.{bank_detail}
use Rattle.ras_texts.specs.Sections.{memory_text, processor_text, x64_text, other_text}
use Rattle.ras_texts.specs.Text.{item_line, limit_line, module_limit_line, name_text, retire_line}

-- the text of an item's detail
abbrev pub detail_text : Detail → List ℕ
detail_text (Bank bank) = bank_detail bank
detail_text (Memory section) = memory_text section
detail_text (Processor section) = processor_text section
detail_text (X64 section) = x64_text section
detail_text (Other guid) = other_text guid

-- the line of an item with its detail
abbrev pub told_line : Fact → Item × Detail → List ℕ
told_line fact told = item_line fact (detail_text told.1) told.0

-- the line of a report that lists nothing
unfoldable pub empty_line : Fact → List ℕ
empty_line fact = line_with (codes "log " ++ name_text fact.name ++ codes " t=" ++ decimal fact.seconds ++ codes " empty")

-- the lines of a report: one for each item with its detail, or one line that it lists nothing
abbrev pub report_lines : Fact → List Detail → List ℕ
report_lines fact details =
    if length fact.items == 0 then empty_line fact
    else flat_map (told_line fact) (zip fact.items details)

-- the lines of an entry that is new in an account: the lines of a fact's report, or the one line of another entry
abbrev pub entry_lines : List Detail → State → Entry → List ℕ
entry_lines details account (FactEntry fact) = report_lines fact details
entry_lines details account (PageLimit limit) = limit_line limit
entry_lines details account (Retire boot) = retire_line boot (count_by (is_retired boot) account.names)
entry_lines details account (ModuleLimit limit) = module_limit_line limit
