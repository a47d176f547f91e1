use Rattle.std.proofs.Common.{◌≡◌, ◌+◌, ◌≤◌, ◌++◌, map, take, drop}
use Rattle.ras_script.specs.Splitting.{words_of}
use Rattle.ras_script.specs.Steps.Places.{ArePlaces, StandsNowhere}
use Rattle.ras_script.specs.declared.splitting.TheConstants.{HELD_WORDS}
use Rattle.ras_script.specs.declared.blocks.TheConstants.{BLOCK_BYTES}
use Rattle.ras_script.proofs.splitting.hold_in_block.Given as goal

-- The stored words and the words from `start` on are the line's, and the bits give the spaces from `start` on.
abbrev pub invariant-loop-spaces : goal.invariant-loop-spaces
invariant-loop-spaces l = record {
  ordered : l.start ≤ l.at + BLOCK_BYTES;
  unbroken : StandsNowhere 32 l.line l.start l.at;
  spaces : ArePlaces 32 l.line l.at l.start l.spaces;
  held : take HELD_WORDS (map (λ word. word.now) l.words.items ++ words_of (drop l.start l.line)) ≡ take HELD_WORDS (map (λ word. word.now) l.initial.words.items ++ words_of (drop l.first l.line));
}

abbrev pub decreases-loop-spaces : goal.decreases-loop-spaces
decreases-loop-spaces l = l.spaces
