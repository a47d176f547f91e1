-- The lines of an event's entries by the account before the event are their lines at their own places.
use Rattle.std.proofs.Common.{◌≡◌, ◌+◌, inl, inr, Bool, true, false, if◌then◌else◌, List, [], ◌∷◌, ◌++◌, refl, ◌∙◌, length-append, arith}
use Rattle.std.specs.List.{AllByRecursion}
use Rattle.std.proofs.lemmas.List.Elements.{recursion_from_All}
use Rattle.ras_facts.specs.declared.fact.Fact.{Fact as Told}
use Rattle.ras_facts.specs.declared.entry.Entry.{Entry}
use Rattle.ras_facts.specs.declared.entry.Entry.TheVariants.{Fact, Limit, Retire, ModuleLimit}
use Rattle.ras_facts.specs.declared.details.Detail.{Detail}
use Rattle.ras_account.specs.Account.{State}
use Rattle.ras_account.specs.Sightings.{sightings_in}
use Rattle.ras_account.specs.Continued.{is_fresh_in, account_after, account_after_all, account_after_fresh, account_with_count}
use Rattle.ras_account.proofs.ItemLemmas.{floor-items}
use Rattle.ras_texts.specs.Reports.{entry_lines}
use Rattle.ras_texts.specs.Text.{repeat_line}
use Rattle.ras_events.specs.Steps.Beside.{AreAlike}
use Rattle.ras_events.specs.Sizes.{IsFact}

-- an account after an entry that is new or not
abbrev pub after_if : State → Entry → Bool → State
after_if a e b = if b then account_after_fresh (account_with_count a) e else a

-- Facts don't change the floor.
floor_fact : (a : State) (fact : Told) → (account_after a (Fact fact)).floor ≡ a.floor
floor_fact a fact = by (is_fresh_in a (Fact fact))
  where
    by : (fresh : Bool) → (after_if a (Fact fact) fresh).floor ≡ a.floor
    by true = floor-items (record a { names = a.names ++ fact.name ∷ []; entries = a.entries + 1 }) (sightings_in a.limit a.module_limit (Fact fact))
    by false = refl

floor_all : (a : State) (facts : List Entry) → AllByRecursion IsFact facts → (account_after_all a facts).floor ≡ a.floor
floor_all a [] all = refl
floor_all a (Fact fact ∷ facts) all = floor_all (account_after a (Fact fact)) facts all.1 ∙ floor_fact a fact
floor_all a (Limit limit ∷ facts) all = absurd all.0
floor_all a (Retire boot ∷ facts) all = absurd all.0
floor_all a (ModuleLimit limit ∷ facts) all = absurd all.0

all_front : (front rest : List Entry) → AllByRecursion IsFact (front ++ rest) → AllByRecursion IsFact front
all_front [] rest all = tt
all_front (e ∷ front) rest all = (all.0, all_front front rest all.1)

all_rest : (front rest : List Entry) → AllByRecursion IsFact (front ++ rest) → AllByRecursion IsFact rest
all_rest [] rest all = all
all_rest (e ∷ front) rest all = all_rest front rest all.1

-- After facts, or after nothing, an entry has the lines that it has for the account before them.
pub record IsBeside (a : State) (taken : List Entry) (e : Entry) : Type 0 where
  pub log : (details : List Detail) → entry_lines details (account_after_all a taken) e ≡ entry_lines details a e
  pub repeat : repeat_line (account_after_all a taken) e ≡ repeat_line a e

beside_facts : (a : State) (taken : List Entry) (e : Entry) → AllByRecursion IsFact taken → IsFact e → IsBeside a taken e
beside_facts a taken (Fact fact) all is = record {
  log = λ details. refl;
  repeat = λ i. repeat_line (record a { floor = floor_all a taken all i }) (Fact fact);
}
beside_facts a taken (Limit limit) all is = absurd is
beside_facts a taken (Retire boot) all is = absurd is
beside_facts a taken (ModuleLimit limit) all is = absurd is

pub beside : (a : State) (taken left : List Entry) (e : Entry) → AreAlike (taken ++ e ∷ left) → IsBeside a taken e
beside a taken left e (inl facts) =
    let all : AllByRecursion IsFact (taken ++ e ∷ left) = recursion_from_All IsFact (taken ++ e ∷ left) facts in
    let rest : AllByRecursion IsFact (e ∷ left) = all_rest taken (e ∷ left) all in
    beside_facts a taken e (all_front taken (e ∷ left) all) rest.0
beside a [] left e (inr one) = record { log = λ details. refl; repeat = refl }
beside a (d ∷ taken) left e (inr one) = absurd (omega (arith, length-append taken (e ∷ left)))
