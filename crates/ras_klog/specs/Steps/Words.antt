-- The words of a text that are left.
use Rattle.std.specs.Prelude.{ℕ, List, []}
use Rattle.std.specs.Option.{option_map_or}
use Rattle.ras_klog.specs.declared.words.Words.{Words}
use Rattle.ras_klog.specs.Reading.{parts_of}

abbrev pub words_in : Words → List (List ℕ)
words_in words = option_map_or (λ text. parts_of text.now) words.rest []
