-- Rows that were worked out by hand; the definitions compute the same rows.
use Rattle.std.proofs.Common.{◌≡◌, ℕ, true, false, List, [], ◌∷◌, Option, Some, None, refl}
use Rattle.mca_status.specs.declared.classes.ItemClass.{ItemClass}
use Rattle.mca_status.specs.declared.classes.ItemClass.TheVariants.{Ce, Ucna, Srao, Odd, Corrected}
use Rattle.dimm_topology.specs.Labels.{Bytes}
use Rattle.page_policy.specs.declared.rows.Order.TheVariants.{Soft as OrderSoft, Hard as OrderHard, Module as OrderModule}
use Rattle.page_policy.specs.declared.rows.PageState.TheVariants.{Kept, Soft, Hard}
use Rattle.ras_facts.specs.declared.name.Name.TheVariants.{Bank, Record}
use Rattle.ras_facts.specs.declared.items.Item.{Item}
use Rattle.ras_facts.specs.declared.entry.Entry.{Entry}
use Rattle.ras_facts.specs.declared.entry.Entry.TheVariants.{Fact, Limit as PageLimit, Retire, ModuleLimit}
use Rattle.ras_account.specs.History.{History, empty, with_entry, with_entries, with_mark, history_of}
use Rattle.ras_account.specs.Account.{account_of}
use Rattle.ras_account.specs.Continued.{account_after_history}
use Rattle.ras_account.specs.Orders.{orders, orders_behind}

abbrev item : ItemClass → Bytes → Option ℕ → ℕ → Item
item class label page weight = record { class = class; label = label; page = page; weight = weight }

-- a report of bank 7 of processor 0 in a boot
abbrev in_boot : ℕ → ℕ → ℕ → List Item → Entry
in_boot boot tsc seconds items = Fact (record { name = Bank boot 0 7 tsc; seconds = seconds; items = items })

-- and in boot 1
abbrev bank : ℕ → ℕ → List Item → Entry
bank tsc seconds items = in_boot 1 tsc seconds items

-- a record of a store
abbrev stored : ℕ → ℕ → List Item → Entry
stored id seconds items = Fact (record { name = Record id; seconds = seconds; items = items })

abbrev limit : ℕ → ℕ → Entry
limit capacity period = PageLimit (record { capacity = capacity; period = period })

abbrev module_limit : ℕ → ℕ → Entry
module_limit capacity period = ModuleLimit (record { capacity = capacity; period = period })

-- An error of the class that the manual doesn't describe orders nothing, and its page is kept.
abbrev odd : Entry
odd = bank 4 100 (item Odd [] (Some 3) 1 ∷ [])

odd_kept : (account_of (history_of (odd ∷ []))).pages ≡ (3, record { bucket = record { count = 0; stamp = 100 }; state = Kept }) ∷ []
odd_kept = refl

odd_ordered : orders_behind empty odd ≡ []
odd_ordered = refl

-- A name that is reported three times is counted once.
abbrev everyday : ℕ → ℕ → Entry
everyday tsc seconds = bank tsc seconds (item Ce [] (Some 74565) 1 ∷ [])

repeated : account_of (history_of (everyday 1000 100 ∷ everyday 1000 100 ∷ everyday 1000 100 ∷ [])) ≡ account_of (history_of (everyday 1000 100 ∷ []))
repeated = refl

repeated_once : (account_of (history_of (everyday 1000 100 ∷ everyday 1000 100 ∷ everyday 1000 100 ∷ []))).entries ≡ 1
repeated_once = refl

-- The tenth error of a page within a day soft-offlines it; after a whole day nine have leaked out.
abbrev nine : History
nine =
    history_of
    (everyday 1 1000 ∷ everyday 2 1000 ∷ everyday 3 1000 ∷ everyday 4 1000 ∷ everyday 5 1000 ∷ everyday 6 1000 ∷ everyday 7 1000
    ∷ everyday 8 1000 ∷ everyday 9 1000 ∷ [])

tenth_within : (account_of (with_entry nine (everyday 10 87399))).pages ≡ (74565, record { bucket = record { count = 0; stamp = 1000 }; state = Soft }) ∷ []
tenth_within = refl

tenth_ordered : orders_behind nine (everyday 10 87399) ≡ OrderSoft 74565 ∷ []
tenth_ordered = refl

tenth_later : (account_of (with_entry nine (everyday 10 87400))).pages ≡ (74565, record { bucket = record { count = 1; stamp = 87400 }; state = Kept }) ∷ []
tenth_later = refl

later_ordered : orders_behind nine (everyday 10 87400) ≡ []
later_ordered = refl

-- One report of many errors, without a module.
abbrev many : Entry
many = bank 1000 100 (item Ce [] (Some 74565) 32767 ∷ [])

many_counted : (account_of (history_of (many ∷ []))).modules ≡ ([], record { sums = 32767 ∷ 0 ∷ 0 ∷ 0 ∷ 0 ∷ 0 ∷ 0 ∷ 0 ∷ 0 ∷ 0 ∷ []; bucket = None; replace = false }) ∷ []
many_counted = refl

many_ordered : orders_behind empty many ≡ OrderSoft 74565 ∷ []
many_ordered = refl

-- The limit that is in force already isn't new, and each other limit is.
limits_once : (account_of (history_of (limit 10 86400 ∷ module_limit 100 86400 ∷ limit 2 60 ∷ []))).entries ≡ 1
limits_once = refl

limits_again : (account_of (history_of (limit 10 86400 ∷ limit 2 60 ∷ limit 10 86400 ∷ limit 2 60 ∷ module_limit 10 86400 ∷ []))).entries ≡ 4
limits_again = refl

-- A retired boot: its name is dropped, its counts stay, and a later report of it is stale.
abbrev retiring : History
retiring = history_of (everyday 1000 100 ∷ Retire 2 ∷ everyday 1000 100 ∷ everyday 1001 200 ∷ Retire 1 ∷ [])

retired_entries : (account_of retiring).entries ≡ 2
retired_entries = refl

retired_names : (account_of retiring).names ≡ []
retired_names = refl

retired_floor : (account_of retiring).floor ≡ 2
retired_floor = refl

retired_counts : (account_of retiring).modules ≡ ([], record { sums = 1 ∷ 0 ∷ 0 ∷ 0 ∷ 0 ∷ 0 ∷ 0 ∷ 0 ∷ 0 ∷ 0 ∷ []; bucket = None; replace = false }) ∷ []
retired_counts = refl

-- two modules, three pages and a limit that changes
abbrev a : Bytes
a = 65 ∷ []

abbrev b : Bytes
b = 66 ∷ []

abbrev c : Bytes
c = 67 ∷ []

-- the second error of a module within a minute asks for it to be replaced, once
abbrev two_a_minute : History
two_a_minute = history_of (module_limit 2 60 ∷ bank 1000 100 (item Ce a (Some 74565) 1 ∷ []) ∷ [])

second_ordered : orders_behind two_a_minute (bank 1001 100 (item Ce a (Some 74565) 1 ∷ [])) ≡ OrderModule 0 ∷ []
second_ordered = refl

-- Page 7 has 4 errors, page 8 has 9, and a name is reported again.
abbrev before : History
before =
    history_of
    (bank 1 100 (item Ce a (Some 7) 4 ∷ [])
    ∷ bank 2 110 (item Ce b (Some 8) 9 ∷ item Ucna a None 1 ∷ [])
    ∷ bank 1 120 (item Ce a (Some 7) 30000 ∷ [])
    ∷ limit 5 60
    ∷ [])

-- One more error within the new period makes 5 of page 7.
abbrev fifth : Entry
fifth = bank 3 130 (item Ce b (Some 7) 1 ∷ [])

-- 61 seconds after its stamp 5 of the 9 errors of page 8 have leaked out, and two more make 6.
abbrev sixth : Entry
sixth = bank 4 171 (item Ce a (Some 8) 2 ∷ [])

abbrev hard : Entry
hard = bank 5 172 (item Srao a (Some 9) 1 ∷ [])

abbrev whole : History
whole = with_entries before (fifth ∷ limit 5 60 ∷ sixth ∷ hard ∷ [])

whole_counted : account_of whole ≡ record {
  names = Bank 1 0 7 1 ∷ Bank 1 0 7 2 ∷ Bank 1 0 7 3 ∷ Bank 1 0 7 4 ∷ Bank 1 0 7 5 ∷ [];
  floor = 0;
  limit = record { capacity = 5; period = 60 };
  module_limit = record { capacity = 100; period = 86400 };
  entries = 6;
  total = 18;
  modules =
      (a, record { sums = 6 ∷ 1 ∷ 1 ∷ 0 ∷ 0 ∷ 0 ∷ 0 ∷ 0 ∷ 0 ∷ 0 ∷ []; bucket = Some (record { count = 6; stamp = 100 }); replace = false })
      ∷ (b, record { sums = 10 ∷ 0 ∷ 0 ∷ 0 ∷ 0 ∷ 0 ∷ 0 ∷ 0 ∷ 0 ∷ 0 ∷ []; bucket = Some (record { count = 10; stamp = 110 }); replace = false })
      ∷ [];
  pages =
      (7, record { bucket = record { count = 0; stamp = 100 }; state = Soft })
      ∷ (8, record { bucket = record { count = 0; stamp = 171 }; state = Soft })
      ∷ (9, record { bucket = record { count = 0; stamp = 172 }; state = Hard })
      ∷ [];
}
whole_counted = refl

whole_ordered : orders whole ≡ OrderSoft 7 ∷ OrderSoft 8 ∷ OrderHard 9 ∷ []
whole_ordered = refl

-- Two retires, three modules, a module limit that is lowered in mid-run, and an upgrade marker. Boots 1 to 3 report; A
-- has 3 errors and B 2 under ten a day. An uncorrected error of A is only added to its sums.
abbrev first_part : History
first_part =
    history_of
    (module_limit 10 86400
    ∷ in_boot 1 1 100 (item Ce a (Some 7) 3 ∷ item Corrected b None 2 ∷ [])
    ∷ in_boot 2 1 110 (item Ucna a None 50 ∷ item Ce [] None 60 ∷ [])
    ∷ stored 9 120 (item Ce b None 1 ∷ [])
    ∷ Retire 2
    ∷ in_boot 1 2 130 (item Ce a None 40 ∷ [])
    ∷ [])

-- The limit falls to 4 a minute: within a minute of its stamp A's fourth error trips it, together with its page; the
-- next trip orders nothing, and C gets the third row, after the row without a label.
abbrev second_part : List Entry
second_part =
    module_limit 4 60
    ∷ limit 4 60
    ∷ in_boot 2 3 140 (item Ce a (Some 7) 1 ∷ [])
    ∷ in_boot 2 4 150 (item Ce a None 9 ∷ item Ce c None 3 ∷ [])
    ∷ Retire 3
    ∷ in_boot 3 1 160 (item Ce c None 1 ∷ [])
    ∷ []

abbrev unmarked : History
unmarked = with_entries first_part second_part

unmarked_ordered : orders unmarked ≡ OrderSoft 7 ∷ OrderModule 0 ∷ OrderModule 3 ∷ []
unmarked_ordered = refl

unmarked_counted : account_of unmarked ≡ record {
  names = Record 9 ∷ Bank 3 0 7 1 ∷ [];
  floor = 3;
  limit = record { capacity = 4; period = 60 };
  module_limit = record { capacity = 4; period = 60 };
  entries = 11;
  total = 130;
  modules =
      (a, record { sums = 13 ∷ 50 ∷ 0 ∷ 0 ∷ 0 ∷ 0 ∷ 0 ∷ 0 ∷ 0 ∷ 0 ∷ []; bucket = Some (record { count = 0; stamp = 100 }); replace = true })
      ∷ (b, record { sums = 1 ∷ 0 ∷ 0 ∷ 0 ∷ 0 ∷ 0 ∷ 2 ∷ 0 ∷ 0 ∷ 0 ∷ []; bucket = Some (record { count = 3; stamp = 100 }); replace = false })
      ∷ ([], record { sums = 60 ∷ 0 ∷ 0 ∷ 0 ∷ 0 ∷ 0 ∷ 0 ∷ 0 ∷ 0 ∷ 0 ∷ []; bucket = None; replace = false })
      ∷ (c, record { sums = 4 ∷ 0 ∷ 0 ∷ 0 ∷ 0 ∷ 0 ∷ 0 ∷ 0 ∷ 0 ∷ 0 ∷ []; bucket = Some (record { count = 0; stamp = 150 }); replace = true })
      ∷ [];
  pages = (7, record { bucket = record { count = 0; stamp = 100 }; state = Soft }) ∷ [];
}
unmarked_counted = refl

-- After an upgrade marker buckets start again: A trips at four errors again, and B has only its sums.
abbrev marked_part : History
marked_part = with_entries (with_mark unmarked) (in_boot 3 2 1000 (item Ce a None 3 ∷ []) ∷ in_boot 3 3 1001 (item Ce a None 1 ∷ []) ∷ [])

marked_modules : (account_of marked_part).modules ≡
    (a, record { sums = 17 ∷ 50 ∷ 0 ∷ 0 ∷ 0 ∷ 0 ∷ 0 ∷ 0 ∷ 0 ∷ 0 ∷ []; bucket = Some (record { count = 0; stamp = 1000 }); replace = true })
    ∷ (b, record { sums = 1 ∷ 0 ∷ 0 ∷ 0 ∷ 0 ∷ 0 ∷ 2 ∷ 0 ∷ 0 ∷ 0 ∷ []; bucket = None; replace = false })
    ∷ ([], record { sums = 60 ∷ 0 ∷ 0 ∷ 0 ∷ 0 ∷ 0 ∷ 0 ∷ 0 ∷ 0 ∷ 0 ∷ []; bucket = None; replace = false })
    ∷ (c, record { sums = 4 ∷ 0 ∷ 0 ∷ 0 ∷ 0 ∷ 0 ∷ 0 ∷ 0 ∷ 0 ∷ 0 ∷ []; bucket = None; replace = false })
    ∷ []
marked_modules = refl

marked_ordered : orders marked_part ≡ OrderSoft 7 ∷ OrderModule 0 ∷ OrderModule 3 ∷ OrderModule 0 ∷ []
marked_ordered = refl

-- The continued account says the same.
continued_same : account_after_history (account_of empty) marked_part ≡ account_of marked_part
continued_same = refl
