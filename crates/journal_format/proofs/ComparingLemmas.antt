-- Bytes compared with the checkpoint of an account.
use Rattle.std.proofs.Common.{◌≡◌, ◌≢◌, ◌∙◌, ℕ, List, ◌++◌, length, Option, None, Some, refl, sym, ap, append_assoc, append-nil}
use Rattle.std.specs.List.{flat_map}
use Rattle.std.specs.Option.{MatchOption}
use Rattle.std.specs.Prelude.{Bool, false, IfSome, IsTrue}
use Rattle.std.specs.Bool.{Decides}
use Rattle.std.proofs.lemmas.List.{append_cancel_left}
use Rattle.ras_base.specs.LittleEndian.{u64_bytes}
use Rattle.ras_account.specs.Account.{State}
use Rattle.entry_format.specs.declared.version.Version.TheVariants.{Two}
use Rattle.entry_format.specs.Spelling.{name_bytes}
use Rattle.journal_format.specs.Checkpoints.{list_bytes, module_bytes, page_row_bytes, front_bytes, end_bytes, checkpoint_bytes}

pub match_some : {A : Type 0} (r : Option A) (N : Type 0) (S : A → Type 0) → MatchOption r N S → IfSome r S
match_some None N S is = tt
match_some (Some x) N S is = is

pub match_none : {A : Type 0} (r : Option A) (N : Type 0) (S : A → Type 0) → MatchOption r N S → r ≡ None → N
match_none None N S is none = is
match_none (Some x) N S is none = absurd cc

-- ---- a checkpoint in three parts: what stands before the names, these, and the rows after them

abbrev pub first_part : State → List ℕ
first_part a = front_bytes Two a ++ u64_bytes (length a.names)

abbrev pub name_part : State → List ℕ
name_part a = flat_map name_bytes a.names

abbrev pub row_part : State → List ℕ
row_part a = list_bytes (module_bytes Two) a.modules ++ list_bytes page_row_bytes a.pages

whole_is : (a : State) → checkpoint_bytes Two a ≡ first_part a ++ (name_part a ++ row_part a)
unfolding checkpoint_bytes end_bytes
whole_is a = simp (append_assoc, append-nil) refl

pub is_whole : (a : State) (bytes behind rest : List ℕ) → bytes ≡ first_part a ++ behind → behind ≡ name_part a ++ rest → rest ≡ row_part a → bytes ≡ checkpoint_bytes Two a
is_whole a bytes behind rest one two three = one ∙ (ap (λ w. first_part a ++ w) (two ∙ ap (λ w. name_part a ++ w) three) ∙ sym (whole_is a))

pub other_front : (a : State) (bytes : List ℕ) → ((rest : List ℕ) → bytes ≢ first_part a ++ rest) → bytes ≢ checkpoint_bytes Two a
other_front a bytes differs whole = differs (name_part a ++ row_part a) (whole ∙ whole_is a)

pub other_names : (a : State) (bytes behind : List ℕ) → bytes ≡ first_part a ++ behind → ((rest : List ℕ) → behind ≢ name_part a ++ rest) → bytes ≢ checkpoint_bytes Two a
other_names a bytes behind one differs whole = differs (row_part a) (append_cancel_left (first_part a) behind (name_part a ++ row_part a) (sym one ∙ (whole ∙ whole_is a)))

pub rows_are : (a : State) (bytes behind rest : List ℕ) → bytes ≡ first_part a ++ behind → behind ≡ name_part a ++ rest → bytes ≡ checkpoint_bytes Two a → rest ≡ row_part a
rows_are a bytes behind rest one two whole =
    append_cancel_left (name_part a) rest (row_part a) (sym two ∙ append_cancel_left (first_part a) behind (name_part a ++ row_part a) (sym one ∙ (whole ∙ whole_is a)))

-- A test that decides one statement also decides an equivalent one.
pub tells : (r : Bool) (A B : Type 0) → Decides r A → (A → B) → (B → A) → (IsTrue r → B) × (B → IsTrue r)
tells r A B decides to from = ((λ yes. to (decides.0 yes)), (λ b. decides.1 (from b)))

pub not_true : {B : Type 0} → IsTrue false → B
not_true e = absurd cc
