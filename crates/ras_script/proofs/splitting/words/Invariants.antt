use Rattle.std.proofs.Common.{◌≡◌, ◌-◌, ◌≤◌, ◌++◌, length, map, take, drop}
use Rattle.ras_script.specs.Splitting.{words_of}
use Rattle.ras_script.specs.Steps.Places.{StandsNowhere}
use Rattle.ras_script.specs.declared.splitting.TheConstants.{HELD_WORDS}
use Rattle.ras_script.proofs.splitting.words.Given as goal

-- The stored words and the words from `start` on are the line's, and there is no space from `start` to `at`.
abbrev pub invariant-loop-at : goal.invariant-loop-at
invariant-loop-at l = record {
  ordered : l.start ≤ l.at;
  within : l.at ≤ length l.line;
  unbroken : StandsNowhere 32 l.line l.start l.at;
  held : take HELD_WORDS (map (λ word. word.now) l.words.items ++ words_of (drop l.start l.line)) ≡ take HELD_WORDS (words_of l.line);
}

abbrev pub decreases-loop-at : goal.decreases-loop-at
decreases-loop-at l = length l.line - l.at
