-- The lines printed for entries, events and runs, each with its line feed.
use Rattle.std.specs.Prelude.{ℕ, ◌==◌, List, [], ◌++◌, codes, decimal, drop, length, Option, None, Some, if◌then◌else◌}
use Rattle.std.specs.Int.{to_be_bytes, w64}
use Rattle.hex.specs.Hex.{encode_lower}
use Rattle.ras_base.specs.Text.{line_with}
use Rattle.mca_status.specs.declared.classes.ItemClass.{ItemClass}
use Rattle.mca_status.specs.declared.classes.ItemClass.TheVariants.{Ce, Ucna, Srao, Srar, Uc, Odd, Corrected, Recoverable, Fatal, Informational}
use Rattle.page_policy.specs.declared.buckets.Limit.{Limit}
use Rattle.page_policy.specs.declared.rows.PageState.{PageState}
use Rattle.page_policy.specs.declared.rows.PageState.TheVariants.{Kept, Soft, Hard}
use Rattle.ras_facts.specs.declared.fact.Fact.{Fact}
use Rattle.ras_facts.specs.declared.items.Item.{Item}
use Rattle.ras_facts.specs.declared.name.Name.{Name}
use Rattle.ras_facts.specs.declared.name.Name.TheVariants.{Bank, Record, Block, Boot}
use Rattle.ras_facts.specs.declared.entry.Entry.{Entry}
use Rattle.ras_facts.specs.declared.entry.Entry.TheVariants.{Fact as FactEntry, Limit as PageLimit, Retire, ModuleLimit}
use Rattle.ras_account.specs.Account.{State}
use Rattle.ras_account.specs.History.{is_retired}

abbrev pub name_text : Name → List ℕ
name_text (Bank boot cpu bank tsc) =
    codes "bank=" ++ decimal boot ++ codes "/" ++ decimal cpu
    ++ codes "/" ++ decimal bank ++ codes "/" ++ decimal tsc
name_text (Record id) = codes "record=" ++ encode_lower (to_be_bytes w64 id)
name_text (Block boot source number) =
    codes "block=" ++ decimal boot ++ codes "/" ++ decimal source ++ codes "/" ++ decimal number
name_text (Boot boot) = codes "bert=" ++ decimal boot

abbrev pub class_text : ItemClass → List ℕ
class_text Ce = codes "CE"
class_text Ucna = codes "UCNA"
class_text Srao = codes "SRAO"
class_text Srar = codes "SRAR"
class_text Uc = codes "UC"
class_text Odd = codes "ODD"
class_text Corrected = codes "corrected"
class_text Recoverable = codes "recoverable"
class_text Fatal = codes "fatal"
class_text Informational = codes "informational"

-- A page is printed as the address of its first byte in 16 hexadecimal digits: the page's number in 13 digits, and the
-- three zeros of its 4,096 bytes after it.
abbrev pub address_text : ℕ → List ℕ
address_text page = drop 3 (encode_lower (to_be_bytes w64 page)) ++ codes "000"

abbrev pub page_text : Option ℕ → List ℕ
page_text None = codes "-"
page_text (Some page) = address_text page

-- the word of a page's state
abbrev pub state_text : PageState → List ℕ
state_text Kept = codes "kept"
state_text Soft = codes "soft"
state_text Hard = codes "hard"

-- a module's label, or `-` if the label is empty
abbrev pub label_text : List ℕ → List ℕ
label_text label = if length label == 0 then codes "-" else label

-- the name, the time, the class and the weight of an item
unfoldable pub item_head : Fact → Item → List ℕ
item_head fact item =
    codes "log " ++ name_text fact.name ++ codes " t=" ++ decimal fact.seconds
    ++ codes " class=" ++ class_text item.class ++ codes " weight=" ++ decimal item.weight

-- the line of an item of a new fact, with its detail
unfoldable pub item_line : Fact → List ℕ → Item → List ℕ
item_line fact detail item = line_with (
    item_head fact item ++ codes " label=" ++ label_text item.label
    ++ codes " page=" ++ page_text item.page ++ codes " " ++ detail)

-- the line of a new limit, for pages or for modules
abbrev pub limit_text : Limit → List ℕ
limit_text limit = codes "capacity=" ++ decimal limit.capacity ++ codes " period=" ++ decimal limit.period

abbrev pub limit_line : Limit → List ℕ
limit_line limit = line_with (codes "limit " ++ limit_text limit)

abbrev pub module_limit_line : Limit → List ℕ
module_limit_line limit = line_with (codes "module-limit " ++ limit_text limit)

-- the line of a new retire, with the number of names it drops
abbrev pub retire_line : ℕ → ℕ → List ℕ
retire_line boot dropped =
    line_with (codes "retire boot=" ++ decimal boot ++ codes " names=" ++ decimal dropped)

-- the line of a name that an account knows: `stale` if its boot is retired, else `repeat`
abbrev pub known_line : State → Name → List ℕ
known_line account name =
    line_with ((if is_retired account.floor name then codes "stale " else codes "repeat ") ++ name_text name)

-- The line of an entry that isn't new in an account: the line of a fact's name. Other entries have no line.
abbrev pub repeat_line : State → Entry → List ℕ
repeat_line account (FactEntry fact) = known_line account fact.name
repeat_line account (PageLimit limit) = []
repeat_line account (Retire boot) = []
repeat_line account (ModuleLimit limit) = []

-- the done line of an event, by the number of its line
abbrev pub done_line : ℕ → List ℕ
done_line number = line_with (codes "done " ++ decimal number)

-- the line that ends a whole run: how many entries and how many names the account has
abbrev pub end_line : State → List ℕ
end_line account = line_with (
    codes "end entries=" ++ decimal account.entries
    ++ codes " names=" ++ decimal (length account.names))
