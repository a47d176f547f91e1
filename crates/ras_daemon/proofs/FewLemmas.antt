-- How much of its source a run takes at most.
use Rattle.std.proofs.Common.{◌≡◌, ℕ, ◌+◌, ◌≤◌, Bool, true, false, List, [], ◌∷◌, ◌++◌, length, Option, None, Some, IfSome, IsSomeAnd, Result, Ok, Err, refl, ap, sym, ◌∙◌, append_assoc, length-append, arith, inl, inr}
use Rattle.ras_script.specs.declared.reader.TheConstants.{LONGEST_SCRIPT}
use Rattle.ras_script.specs.Reader.{AreTaken, Moves, MovesLine, Reader}
use Rattle.ras_exit.specs.declared.exit.Exit.{Exit}
use Rattle.ras_exit.specs.declared.exit.Exit.TheVariants.{Done}
use Rattle.ras_daemon.specs.Ahead.{TakesBy}

-- this many bytes were taken of what the source had at first
pub record Takes (count : ℕ) (script left : List ℕ) : Type 0 where
  pub taken : List ℕ
  pub splits : taken ++ left ≡ script
  pub size : length taken ≡ count

abbrev pub TakesOf : ℕ → Option (List ℕ) → Option (List ℕ) → Type 0
TakesOf count first now = IfSome first (λ script. IsSomeAnd now (Takes count script))

pub takes_none : (first : Option (List ℕ)) → TakesOf 0 first first
takes_none None = tt
takes_none (Some script) = record { taken = []; splits = refl; size = refl }

more_bytes : (bytes : List ℕ) (count more : ℕ) (first now later : Option (List ℕ)) → TakesOf count first now → AreTaken bytes now later → more ≡ count + length bytes → TakesOf more first later
more_bytes bytes count more None now later takes taken is = tt
more_bytes bytes count more (Some script) None later takes taken is = absurd takes
more_bytes bytes count more (Some script) (Some left) None takes taken is = absurd taken
more_bytes bytes count more (Some script) (Some left) (Some rest) takes taken is = record {
  taken = takes.taken ++ bytes;
  splits = append_assoc takes.taken bytes rest ∙ ap (λ l. takes.taken ++ l) (sym taken) ∙ takes.splits;
  size = length-append takes.taken bytes ∙ ap (λ n. n + length bytes) takes.size ∙ sym is;
}

went : (given : List ℕ) (old new : Reader) (first now later : Option (List ℕ)) → TakesOf old.taken first now → Moves given old new now later → TakesOf new.taken first later
went given old new first now later takes moved = more_bytes moved.bytes old.taken new.taken first now later takes moved.taken moved.count

-- what was taken after a line was asked for
pub takes_more : (result : Result Bool Exit) (old new : Reader) (first now later : Option (List ℕ)) → TakesOf old.taken first now → MovesLine result old new now later → TakesOf new.taken first later
takes_more (Ok true) old new first now later takes (inl moved) = went (new.line ++ 10 ∷ []) old new first now later takes moved
takes_more (Ok true) old new first now later takes (inr (moved, end)) = went new.line old new first now later takes moved
takes_more (Ok false) old new first now later takes (moved, end) = went [] old new first now later takes moved
takes_more (Err why) old new first now later takes moved = went [] old new first now later takes moved

pub takes_by : (exit : Exit) (count : ℕ) (first now : Option (List ℕ)) → count ≤ LONGEST_SCRIPT + 1 → (exit ≡ Done → IfSome now (λ rest. rest ≡ [])) → TakesOf count first now → TakesBy exit first now
takes_by exit count None now few all takes = tt
takes_by exit count (Some script) None few all takes = absurd takes
takes_by exit count (Some script) (Some left) few all takes = record { taken = takes.taken; splits = takes.splits; few = (let size = takes.size in omega arith); all = all }

-- nothing was taken
pub takes_no_byte : (exit : Exit) (first : Option (List ℕ)) → (exit ≡ Done → ⊥) → TakesBy exit first first
takes_no_byte exit first cut = takes_by exit 0 first first (omega arith) (λ done. absurd (cut done)) (takes_none first)

-- the same bytes were taken, and the call ends with another exit
pub takes_as : (one other : Exit) (first now : Option (List ℕ)) → (other ≡ Done → one ≡ Done) → TakesBy one first now → TakesBy other first now
takes_as one other None now back takes = tt
takes_as one other (Some script) None back takes = absurd takes
takes_as one other (Some script) (Some left) back takes = record { taken = takes.taken; splits = takes.splits; few = takes.few; all = λ done. takes.all (back done) }
