-- Bytes that agree in a table's or a block's own bytes are read in the same way.
use Rattle.std.proofs.Common.{◌≡◌, ℕ, ◌+◌, ◌≤◌, ◌∙◌, true, false, nat_eq, nat_lt, List, length, take, drop, codes, Result, refl, sym, ap, arith}
use Rattle.std.specs.List.{starts_with}
use Rattle.std.specs.Cmp.Lexicographic.{pointwise}
use Rattle.std.proofs.lemmas.List.{length-take, take-take, drop-take}
use Rattle.ras_base.specs.LittleEndian.{number_at}
use Rattle.apei_sources.specs.declared.refusals.TableRefused.{TableRefused}
use Rattle.ras_base.specs.Chaining.{◌>>=◌}
use Rattle.ras_base.specs.AcpiTable.{table_length, own_bytes, has_length}
use Rattle.apei_sources.specs.Tables.{table_of}
use Rattle.apei_sources.specs.Hest.{hest_of, sources_of}
use Rattle.apei_sources.specs.Bert.{bert_of}
use Rattle.apei_sources.specs.Blocks.{block_status, data_length, data_of, block_of}
use Rattle.ras_base.specs.Steps.LittleEndianLemmas.{number_at-take}

-- Two lists with one front
module _ (n : ℕ) (bytes others : List ℕ) (inside : n ≤ length bytes) (same : take n others ≡ take n bytes) where
  pub also_inside : n ≤ length others
  also_inside = omega (arith, length-take n bytes, length-take n others, ap (λ (xs : List ℕ). length xs) same)

  pub same_number : (place width : ℕ) → place + width ≤ n → number_at place width others ≡ number_at place width bytes
  same_number place width within =
      sym (number_at-take n place width others within) ∙ ap (λ xs. number_at place width xs) same
      ∙ number_at-take n place width bytes within

  pub same_front : (k : ℕ) → k ≤ n → take k others ≡ take k bytes
  same_front k within = sym (take-take k n others within) ∙ ap (λ xs. take k xs) same ∙ take-take k n bytes within

module _ (signature : List ℕ) (fixed : ℕ) (bytes others : List ℕ) (header : 8 ≤ fixed) (signed : length signature ≤ fixed)
    (whole : fixed ≤ table_length bytes) (inside : table_length bytes ≤ length bytes)
    (same : take (table_length bytes) others ≡ take (table_length bytes) bytes) where
  pub same_table : table_of signature fixed others ≡ table_of signature fixed bytes
  unfolding table_of
  same_table =
      let long : table_length bytes ≤ length others = also_inside (table_length bytes) bytes others inside same in
      let told : table_length others ≡ table_length bytes =
      same_number (table_length bytes) bytes others inside same 4 4 (omega arith) in
      let enough : nat_lt (length bytes) fixed ≡ false = grind arith in
      let also_enough : nat_lt (length others) fixed ≡ false = grind arith in
      let begins : starts_with nat_eq others signature ≡ starts_with nat_eq bytes signature =
      ap (λ xs. pointwise nat_eq signature xs)
      (same_front (table_length bytes) bytes others inside same (length signature) (omega arith)) in
      let fits : has_length fixed bytes ≡ true = grind arith in
      let also_fits : has_length fixed others ≡ true = grind (arith, told) in
      let own : own_bytes others ≡ own_bytes bytes = ap (λ k. take k others) told ∙ same in
      rw (enough, also_enough, begins, fits, also_fits, own) refl

pub same_hest : (bytes others : List ℕ) → 40 ≤ table_length bytes → table_length bytes ≤ length bytes
    → take (table_length bytes) others ≡ take (table_length bytes) bytes → hest_of others ≡ hest_of bytes
unfolding hest_of
same_hest bytes others whole inside same =
    ap (λ (table : Result (List ℕ) TableRefused). table >>= sources_of)
    (same_table (codes "HEST") 40 bytes others (omega arith) (omega arith) whole inside same)

pub same_bert : (bytes others : List ℕ) → 48 ≤ table_length bytes → table_length bytes ≤ length bytes
    → take (table_length bytes) others ≡ take (table_length bytes) bytes → bert_of others ≡ bert_of bytes
unfolding bert_of
same_bert bytes others whole inside same =
    rw (same_table (codes "BERT") 48 bytes others (omega arith) (omega arith) whole inside same) refl

pub same_block : (bytes others : List ℕ) → 20 + data_length bytes ≤ length bytes
    → take (20 + data_length bytes) others ≡ take (20 + data_length bytes) bytes → block_of others ≡ block_of bytes
unfolding block_of
same_block bytes others inside same =
    let long : 20 + data_length bytes ≤ length others =
    also_inside (20 + data_length bytes) bytes others inside same in
    let status : block_status others ≡ block_status bytes =
    same_number (20 + data_length bytes) bytes others inside same 0 4 (omega arith) in
    let told : data_length others ≡ data_length bytes =
    same_number (20 + data_length bytes) bytes others inside same 12 4 (omega arith) in
    let enough : nat_lt (length bytes) 20 ≡ false = grind arith in
    let also_enough : nat_lt (length others) 20 ≡ false = grind arith in
    let fits : nat_lt (length bytes) (20 + data_length bytes) ≡ false = grind arith in
    let also_fits : nat_lt (length others) (20 + data_length others) ≡ false = grind (arith, told) in
    let held : data_of others ≡ data_of bytes =
    ap (λ k. take k (drop 20 others)) told ∙ sym (drop-take 20 (data_length bytes) others)
    ∙ ap (λ xs. drop 20 xs) same ∙ drop-take 20 (data_length bytes) bytes in
    rw (enough, also_enough, fits, also_fits, status, held) refl

pub silent_block : (bytes others : List ℕ) → 20 ≤ length bytes → 20 ≤ length others → block_status bytes ≡ 0
    → block_status others ≡ 0 → block_of others ≡ block_of bytes
unfolding block_of
silent_block bytes others inside also_inside status also_status =
    let enough : nat_lt (length bytes) 20 ≡ false = grind arith in
    let also_enough : nat_lt (length others) 20 ≡ false = grind arith in
    rw (enough, also_enough, status, also_status) refl
