-- In a line that kernels print, the first prefix is the one right after the head.
use Rattle.std.proofs.Common.{◌≡◌, ℕ, zero, suc, ◌+◌, ◌-◌, ◌<◌, ◌≤◌, List, [], ◌∷◌, ◌++◌, length, drop, get_or, refl, sym, ap, ◌∙◌, arith, inl, inr, length-append, Option, None, Some}
use Rattle.std.proofs.lemmas.Bool.{cases_lt, false≢true}
use Rattle.memchr.specs.Find.{OccursAt}
use Rattle.ras_script.specs.SplittingLaws.{Lacks}
use Rattle.bank_lines.specs.EdacLines.{edac_mark}
use Rattle.bank_lines.specs.LogHeads.{mark_place}
use Rattle.bank_lines.specs.LogKernel.{HasNo}
use Rattle.bank_lines.specs.LogLines.{log_mark, mark_by, mark_of}
use Rattle.bank_lines.specs.declared.mark.LogMark.TheVariants.{AtPlain, AtEdac}
use Rattle.bank_lines.proofs.LogHeadLemmas.{at_starts, place-at, place-none}
use Rattle.bank_lines.proofs.NumeralLemmas.{lack_both, literal_lacks}

-- ---- bytes at places

lacks_at : (byte : ℕ) (text : List ℕ) (i : ℕ) → Lacks byte text → i < length text → get_or text i 0 ≡ byte → ⊥
lacks_at byte [] i lacks inside is = omega (arith, inside)
lacks_at byte (b ∷ text) zero lacks inside is = lacks.0 is
lacks_at byte (b ∷ text) (suc i) lacks inside is = lacks_at byte text i lacks.1 (omega (arith, inside)) is

front_at : (front back : List ℕ) (i : ℕ) → i < length front → get_or (front ++ back) i 0 ≡ get_or front i 0
front_at [] back i inside = absurd (omega (arith, inside))
front_at (b ∷ front) back zero inside = refl
front_at (b ∷ front) back (suc i) inside = front_at front back i (omega (arith, inside))

back_at : (front back : List ℕ) (i : ℕ) → get_or (front ++ back) (length front + i) 0 ≡ get_or back i 0
back_at [] back i = let none : 0 + i ≡ i = omega arith in ap (λ (n : ℕ). get_or back n 0) none
back_at (b ∷ front) back i =
    let next : length (b ∷ front) + i ≡ suc (length front + i) = omega arith in
    ap (λ (n : ℕ). get_or (b ∷ (front ++ back)) n 0) next ∙ back_at front back i

-- ---- a text after a head without the prefix

module _ (mark head rest : List ℕ) (none : HasNo mark head) where
  abbrev line : List ℕ
  line = head ++ (mark ++ rest)

  -- the prefix isn't in the head
  not_within : (k : ℕ) → k + length mark ≤ length head → OccursAt line mark k → ⊥
  not_within k fits occurs =
      let here : OccursAt head mark k = record {
        fits = fits;
        reads = λ j inside. sym (front_at head (mark ++ rest) (k + j) (omega (arith, fits, inside))) ∙ occurs.reads j inside;
      } in
      false≢true (sym (none k) ∙ at_starts 0 mark head k here)

  -- the prefix doesn't begin in the head and end after it, if its first byte doesn't come again in it
  not_across : (k : ℕ) → 0 < length mark → Lacks (get_or mark 0 0) (drop 1 mark) → k < length head → length head < k + length mark → OccursAt line mark k → ⊥
  not_across k some others low high occurs =
      let i : ℕ = length head - k in
      let there : k + i ≡ length head + 0 = omega (arith, low) in
      let first : get_or line (k + i) 0 ≡ get_or mark 0 0 =
      ap (λ (n : ℕ). get_or line n 0) there ∙ back_at head (mark ++ rest) 0 ∙ front_at mark rest 0 some in
      let again : get_or mark i 0 ≡ get_or mark 0 0 = sym (occurs.reads i (omega (arith, low, high))) ∙ first in
      later mark i others (omega (arith, low)) (omega (arith, low, high)) again
    where
      later : (text : List ℕ) (i : ℕ) → Lacks (get_or mark 0 0) (drop 1 text) → 0 < i → i < length text → get_or text i 0 ≡ get_or mark 0 0 → ⊥
      later [] i lacks some inside is = omega (arith, inside)
      later (b ∷ text) zero lacks some inside is = omega (arith, some)
      later (b ∷ text) (suc i) lacks some inside is = lacks_at (get_or mark 0 0) text i lacks (omega (arith, inside)) is

  stands : OccursAt line mark (length head)
  stands = record {
    fits = omega (arith, length-append head (mark ++ rest), length-append mark rest);
    reads = λ j inside. back_at head (mark ++ rest) j ∙ front_at mark rest j inside;
  }

  pub first_behind : 0 < length mark → Lacks (get_or mark 0 0) (drop 1 mark) → mark_place mark line ≡ Some (length head)
  first_behind some others =
      place-at mark some line (length head) (record {
        low = omega arith;
        high = omega (arith, length-append head (mark ++ rest));
        before = λ k low high occurs. elim (cases_lt (length head) (k + length mark)) [
          | inl over ↦ not_across k some others high over occurs
          | inr within ↦ not_within k (omega (arith, within)) occurs
        ];
      }) stands

-- ---- EDAC's lines have no mark of the kernel's own text

module _ (head text : List ℕ) (none : HasNo log_mark head) (lacks : Lacks 93 text) where
  abbrev edac : List ℕ
  edac = edac_mark ++ text

  edac_lacks : Lacks 93 edac
  edac_lacks = lack_both 93 edac_mark text (literal_lacks 93 edac_mark refl) lacks

  -- the kernel's prefix isn't in a line of EDAC's: its bracket would be in the head, and so would what follows the
  -- bracket
  nowhere : (k : ℕ) → OccursAt (head ++ edac) log_mark k → ⊥
  nowhere k occurs = elim (cases_lt (k + 20) (length head)) [
    | inr behind ↦
        let i : ℕ = k + 20 - length head in
        let there : k + 20 ≡ length head + i = omega (arith, behind) in
        lacks_at 93 edac i edac_lacks (omega (arith, behind, occurs.fits, length-append head edac))
        (sym (back_at head edac i) ∙ ap (λ (n : ℕ). get_or (head ++ edac) n 0) (sym there) ∙ occurs.reads 20 (omega arith))
    | inl front ↦ elim (cases_lt (k + 22) (length head)) [
      | inl within ↦
          let here : OccursAt head log_mark k = record {
            fits = omega (arith, within);
            reads = λ j inside. sym (front_at head edac (k + j) (omega (arith, within, inside))) ∙ occurs.reads j inside;
          } in
          false≢true (sym (none k) ∙ at_starts 0 log_mark head k here)
      | inr across ↦ elim (cases_lt (k + 21) (length head)) [
        | inl last ↦
            let there : k + 22 ≡ length head + 0 = omega (arith, across, last) in
            let byte : ◌≡◌ {A = ℕ} 69 32 = sym (back_at head edac 0) ∙ ap (λ (n : ℕ). get_or (head ++ edac) n 0) (sym there) ∙ occurs.reads 22 (omega arith) in
            omega (arith, byte)
        | inr both ↦
            let there : k + 21 ≡ length head + 0 = omega (arith, front, both) in
            let byte : ◌≡◌ {A = ℕ} 69 58 = sym (back_at head edac 0) ∙ ap (λ (n : ℕ). get_or (head ++ edac) n 0) (sym there) ∙ occurs.reads 21 (omega arith) in
            omega (arith, byte)
      ]
    ]
  ]

  no_plain : mark_place log_mark (head ++ edac) ≡ None
  no_plain = place-none log_mark (head ++ edac) (λ k low high occurs. nowhere k occurs)

-- ---- the marks

plain_others : Lacks 109 (drop 1 log_mark)
plain_others = literal_lacks 109 (drop 1 log_mark) refl

edac_others : Lacks 69 (drop 1 edac_mark)
edac_others = literal_lacks 69 (drop 1 edac_mark) refl

pub plain_marked : (head rest : List ℕ) → HasNo log_mark head → mark_of (head ++ (log_mark ++ rest)) ≡ Some (AtPlain (length head))
plain_marked head rest none =
    ap (λ (place : Option ℕ). mark_by place (mark_place edac_mark (head ++ (log_mark ++ rest)))) (first_behind log_mark head rest none (omega arith) plain_others)

pub edac_marked : (head rest : List ℕ) → HasNo log_mark head → HasNo edac_mark head → Lacks 93 rest → mark_of (head ++ (edac_mark ++ rest)) ≡ Some (AtEdac (length head))
edac_marked head rest plain edac lacks =
    ap (λ (place : Option ℕ). mark_by place (mark_place edac_mark (head ++ (edac_mark ++ rest)))) (no_plain head rest plain lacks)
    ∙ ap (λ (place : Option ℕ). mark_by None place) (first_behind edac_mark head rest edac (omega arith) edac_others)
