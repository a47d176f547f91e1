-- A source at the front of bytes.
use Rattle.std.proofs.Common.{◌≡◌, ℕ, ◌+◌, ◌*◌, ◌<◌, ◌≤◌, ◌∙◌, ◌⊎◌, Bool, true, false, cond, nat_eq, nat_lt, rules, List, [], ◌∷◌, ◌++◌, length, take, drop, Option, Some, None, Result, Ok, Err, if◌then◌else◌, IfSome, refl, sym, ap, subst, arith, inl, inr, length-append}
use Rattle.std.specs.List.{AllByRecursion}
use Rattle.std.specs.Map.{lookup}
use Rattle.std.proofs.lemmas.List.{length-take, take-append-drop, get_or_append_left}
use Rattle.apei_sources.specs.declared.sources.Layout.{Layout}
use Rattle.apei_sources.specs.declared.refusals.TableRefused.{TableRefused}
use Rattle.apei_sources.specs.declared.refusals.TableRefused.TheVariants.{SourceType, SourceOut}
use Rattle.apei_sources.specs.Sources.{layouts, source_type, source_id, source_of, layout_of, banks_of, size_of, size_by, size_at}
use Rattle.apei_sources.specs.Laid.{IsSource}
use Rattle.ras_base.specs.Steps.LittleEndianLemmas.{number_at-append}

-- The count of banks is in the fixed bytes, after the identifier.
abbrev pub IsLayout : Option Layout → Type 0
IsLayout None = Unit {0}
IsLayout (Some layout) = (4 ≤ layout.fixed) × IfSome layout.banks_at (λ place. place < layout.fixed)

found : (kind : ℕ) (rows : List (ℕ × Layout)) → AllByRecursion (λ row. IsLayout (Some row.1)) rows
    → IsLayout (lookup (nat_eq kind) rows)
found kind [] each = tt
found kind (row ∷ rows) each = by (nat_eq kind row.0) (found kind rows each.1)
  where
    by : (b : Bool) → IsLayout (lookup (nat_eq kind) rows) → IsLayout (cond b (Some row.1) (lookup (nat_eq kind) rows))
    by true rest = each.0
    by false rest = rest

are_layouts : AllByRecursion (λ row. IsLayout (Some row.1)) layouts
unfolding layouts
are_layouts = search rules

layout_is : (kind : ℕ) (layout : Layout) → layout_of kind ≡ Some layout
    → (4 ≤ layout.fixed) × IfSome layout.banks_at (λ place. place < layout.fixed)
layout_is kind layout is = subst IsLayout is (found kind layouts are_layouts)

-- The count of banks is read from the fixed bytes.
banks_of-append : (banks : Option ℕ) (fixed : ℕ) (span rest : List ℕ) → IfSome banks (λ place. place < fixed)
    → fixed ≤ length span
    → banks_of banks (span ++ rest) ≡ banks_of banks span
banks_of-append None fixed span rest place long = refl
banks_of-append (Some place) fixed span rest within long = get_or_append_left span rest 0 place (omega arith)

-- A source, and the bytes after it.
module _ (span rest : List ℕ) (source : IsSource span) where
  part : (4 ≤ source.0.fixed) × IfSome source.0.banks_at (λ place. place < source.0.fixed)
  part = layout_is (source_type span) source.0 source.1

  long : source.0.fixed ≤ length span
  long = omega (arith, source.2)

  pub source_long : 4 ≤ length span
  source_long = omega (arith, source.2, part.0)

  same_kind : source_type (span ++ rest) ≡ source_type span
  same_kind = number_at-append 0 2 span rest (omega (arith, source_long))

  same_id : source_id (span ++ rest) ≡ source_id span
  same_id = number_at-append 2 2 span rest (omega (arith, source_long))

  pub source_of-append : source_of (span ++ rest) ≡ source_of span
  source_of-append = λ i. (same_id i, same_kind i)

  same_size : size_of source.0 (span ++ rest) ≡ length span
  same_size =
      ap (λ n. source.0.fixed + 28 * n) (banks_of-append source.0.banks_at source.0.fixed span rest part.1 long)
      ∙ sym source.2

  pub size_at-append : size_at (span ++ rest) ≡ Ok (length span)
  unfolding size_at
  size_at-append =
      let more : nat_lt (length (span ++ rest)) 4 ≡ false = grind (arith, length-append span rest, source_long) in
      let known : layout_of (source_type (span ++ rest)) ≡ Some source.0 = ap (λ kind. layout_of kind) same_kind ∙ source.1 in
      let fits : nat_lt (length (span ++ rest)) (size_of source.0 (span ++ rest)) ≡ false =
      grind (arith, length-append span rest, same_size) in
      rw (more, known, fits, same_size) refl

-- A source that is read at the front is there.
pub record Begins (bytes : List ℕ) (size : ℕ) : Type 0 where
  pub inside : size ≤ length bytes
  pub source : IsSource (take size bytes)

-- Why no source is at the front.
abbrev pub IsOut : List ℕ → TableRefused → Type 0
IsOut bytes SourceType = (4 ≤ length bytes) × (layout_of (source_type bytes) ≡ None)
IsOut bytes SourceOut =
    (length bytes < 4)
    ⊎ ((layout : Layout) × (layout_of (source_type bytes) ≡ Some layout) × (length bytes < size_of layout bytes))
IsOut bytes _ = ⊥

abbrev pub Sized : List ℕ → Result ℕ TableRefused → Type 0
Sized bytes (Ok size) = Begins bytes size
Sized bytes (Err why) = IsOut bytes why

begins : (bytes : List ℕ) (layout : Layout) → layout_of (source_type bytes) ≡ Some layout
    → size_of layout bytes ≤ length bytes → Begins bytes (size_of layout bytes)
begins bytes layout known fits =
    let part : (4 ≤ layout.fixed) × IfSome layout.banks_at (λ place. place < layout.fixed) =
    layout_is (source_type bytes) layout known in
    let whole : length (take (size_of layout bytes) bytes) ≡ size_of layout bytes =
    omega (arith, length-take (size_of layout bytes) bytes) in
    let all : take (size_of layout bytes) bytes ++ drop (size_of layout bytes) bytes ≡ bytes =
    take-append-drop (size_of layout bytes) bytes in
    let kind : source_type (take (size_of layout bytes) bytes) ≡ source_type bytes =
    sym (number_at-append 0 2 (take (size_of layout bytes) bytes) (drop (size_of layout bytes) bytes)
    (omega (arith, whole, part.0))) ∙ ap (λ xs. source_type xs) all in
    let banks : banks_of layout.banks_at (take (size_of layout bytes) bytes) ≡ banks_of layout.banks_at bytes =
    sym (banks_of-append layout.banks_at layout.fixed (take (size_of layout bytes) bytes)
    (drop (size_of layout bytes) bytes) part.1 (omega (arith, whole)))
    ∙ ap (λ xs. banks_of layout.banks_at xs) all in
    record {
      inside = fits;
      source = (layout, ap (λ k. layout_of k) kind ∙ known, whole ∙ ap (λ n. layout.fixed + 28 * n) (sym banks));
    }

sized_by : (bytes : List ℕ) (known : Option Layout) → 4 ≤ length bytes → layout_of (source_type bytes) ≡ known
    → Sized bytes (size_by known bytes)
sized_by bytes None head is = (head, is)
sized_by bytes (Some layout) head is = by (nat_lt (length bytes) (size_of layout bytes)) refl
  where
    by : (b : Bool) → nat_lt (length bytes) (size_of layout bytes) ≡ b
        → Sized bytes (if b then Err SourceOut else Ok (size_of layout bytes))
    by true out = inr (layout, is, grind arith)
    by false fits = begins bytes layout is (grind arith)

pub sized : (bytes : List ℕ) → Sized bytes (size_at bytes)
unfolding size_at
sized bytes = by (nat_lt (length bytes) 4) refl
  where
    by : (b : Bool) → nat_lt (length bytes) 4 ≡ b
        → Sized bytes (if b then Err SourceOut else size_by (layout_of (source_type bytes)) bytes)
    by true few = inl (grind arith)
    by false head = sized_by bytes (layout_of (source_type bytes)) (grind arith) refl

-- If no source is at the front, none is read.
pub out_type : (bytes : List ℕ) → IsOut bytes SourceType → size_at bytes ≡ Err SourceType
unfolding size_at
out_type bytes is =
    let head : nat_lt (length bytes) 4 ≡ false = grind (arith, is.0) in
    rw (head, is.1) refl

pub out_out : (bytes : List ℕ) → IsOut bytes SourceOut → size_at bytes ≡ Err SourceOut
unfolding size_at
out_out bytes (inl few) = let short : nat_lt (length bytes) 4 ≡ true = grind arith in rw short refl
out_out bytes (inr known) = by (nat_lt (length bytes) 4)
  where
    out : nat_lt (length bytes) (size_of known.0 bytes) ≡ true
    out = grind (arith, known.2)

    by : (b : Bool) → (if b then Err SourceOut else size_by (layout_of (source_type bytes)) bytes) ≡ Err SourceOut
    by true = refl
    by false = rw (known.1, out) refl
