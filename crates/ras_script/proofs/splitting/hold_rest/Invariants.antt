use Rattle.std.proofs.Common.{◌≡◌, ◌≤◌, ◌++◌, map, take, drop}
use Rattle.ras_script.specs.Splitting.{words_of}
use Rattle.ras_script.specs.Steps.Places.{StandsNowhere}
use Rattle.ras_script.specs.declared.splitting.TheConstants.{HELD_WORDS}
use Rattle.ras_script.proofs.splitting.hold_rest.Given as goal

-- The stored words and the words from `start` on are the line's, and there is no space from `start` to `place`.
abbrev pub invariant-loop-place : goal.invariant-loop-place
invariant-loop-place l = record {
  inside : l.start ≤ l.place;
  unbroken : StandsNowhere 32 l.line l.start l.place;
  held : take HELD_WORDS (map (λ word. word.now) l.words.items ++ words_of (drop l.start l.line)) ≡ take HELD_WORDS (map (λ word. word.now) l.initial.words.items ++ words_of (drop l.first l.line));
}
