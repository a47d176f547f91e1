-- The search for the prefixes of a line.
use Rattle.std.proofs.Common.{◌≡◌, ℕ, ◌+◌, ◌-◌, ◌<◌, ◌≤◌, ◌==◌, false, List, length, take, drop, get_or, ap, ◌∙◌, subst, arith, Option, None, Some}
use Rattle.memchr.specs.Find.{FindsNeedle, OccursAt}
use Rattle.bank_lines.specs.EdacLines.{edac_mark}
use Rattle.bank_lines.specs.LogHeads.{mark_place}
use Rattle.bank_lines.specs.LogLines.{log_mark, mark_by, mark_of}
use Rattle.bank_lines.specs.Steps.Marks.{FirstBelow}
use Rattle.bank_lines.specs.declared.mark.LogMark.TheVariants.{AtPlain}
use Rattle.bank_lines.proofs.LogHeadLemmas.{NoneBelow, none_at_all, none_passed, none_round, place_is}

-- ---- EDAC's first mark

-- a search for the letter E skips no prefix
pub first_passed : (line : List ℕ) (from passed : ℕ) (below : Option ℕ) → from + passed ≤ length line → FirstBelow line from below
    → ((k : ℕ) → k < passed → (get_or (take (length line - from) (drop from line)) k 0 == 69) ≡ false) → FirstBelow line (from + passed) below
first_passed line from passed None inside first other = none_passed 0 edac_mark line from passed (omega arith) inside first other
first_passed line from passed (Some place) inside first other = first

-- a step past a letter that begins no prefix skips none
pub first_round : (line : List ℕ) (place : ℕ) (below : Option ℕ) → FirstBelow line place below → ¬ ((0 ≤ place) × OccursAt line edac_mark (place - 0)) → FirstBelow line (place + 1) below
first_round line place None first not = none_round 0 edac_mark line place first not
first_round line place (Some p) first not = first

pub first_here : (line : List ℕ) (place : ℕ) → FirstBelow line place None → OccursAt line edac_mark (place - 0) → FirstBelow line (place + 1) (Some place)
first_here line place first occurs =
    let same : place - 0 ≡ place = omega arith in
    let here : OccursAt line edac_mark place = subst (OccursAt line edac_mark) same occurs in
    (record { low = omega arith; high = omega (arith, here.fits); before = λ k low high. first k (omega (arith, high)) }, here)

-- a prefix that was found stays the first one
pub first_stays : (line : List ℕ) (place found : ℕ) → FirstBelow line place (Some found) → FirstBelow line (place + 1) (Some found)
first_stays line place found first = first

-- the search is complete at the line's end
pub first_finds : (line : List ℕ) (below : Option ℕ) → FirstBelow line (length line) below → FindsNeedle line edac_mark 0 below
first_finds line None first = none_at_all 0 edac_mark line (omega arith) first
first_finds line (Some place) first = first

-- ---- the mark

pub at_plain : (line : List ℕ) (place : ℕ) → FindsNeedle line log_mark 0 (Some place) → Some (AtPlain place) ≡ mark_of line
at_plain line place finds =
    ap (λ (plain : Option ℕ). mark_by plain (mark_place edac_mark line)) (place_is log_mark line (omega arith) (Some place) finds)

pub by_edac : (line : List ℕ) (edac : Option ℕ) → NoneBelow 15 log_mark line (length line) → FirstBelow line (length line) edac → mark_by None edac ≡ mark_of line
by_edac line edac plain first =
    ap (λ (place : Option ℕ). mark_by None place) (place_is edac_mark line (omega arith) edac (first_finds line edac first))
    ∙ ap (λ (place : Option ℕ). mark_by place (mark_place edac_mark line)) (place_is log_mark line (omega arith) None (none_at_all 15 log_mark line (omega arith) plain))
