-- What the command `klog` prints for a kernel log, by the groups of its lines.
use Rattle.std.specs.Prelude.{ℕ, List, [], ◌∷◌, ◌++◌, drop, length, map, Result, Ok}
use Rattle.std.specs.List.{flat_map}
use Rattle.ras_script.specs.declared.line.LineRefused.{LineRefused}
use Rattle.line_filters.specs.Filter.{Filter}
use Rattle.ras_klog.specs.declared.state.KlogOut.{KlogOut}
use Rattle.ras_klog.specs.Groups.{told_of_groups, without_open}
use Rattle.ras_klog.specs.Reading.{klog_line_of}
use Rattle.ras_klog.specs.Texts.{klog_end_line, out_text}

-- the results of the groups of a log's lines, in order
abbrev pub klog_outs : ℕ → ℕ → List (List ℕ) → List KlogOut
klog_outs boot cap lines = told_of_groups boot cap (map klog_line_of lines)

-- the text of all groups
abbrev pub klog_text : ℕ → ℕ → List (List ℕ) → List ℕ
klog_text boot cap lines = flat_map out_text (klog_outs boot cap lines)

-- the part of the groups' text that is printed before the log's end is known
abbrev pub early_text : ℕ → ℕ → List (List ℕ) → List ℕ
early_text boot cap lines = flat_map out_text (without_open (klog_outs boot cap lines))

-- what a text adds to its beginning
abbrev pub added : List ℕ → List ℕ → List ℕ
added begun text = drop (length begun) text

-- the text of each line, after the lines `before`: what the line adds to their text. No line is rejected.
abbrev pub answers_after : ℕ → ℕ → List (List ℕ) → List (List ℕ) → List (Result (List ℕ) LineRefused)
answers_after boot cap before [] = []
answers_after boot cap before (line ∷ lines) =
    Ok (added (early_text boot cap before) (early_text boot cap (before ++ line ∷ [])))
    ∷ answers_after boot cap (before ++ line ∷ []) lines

abbrev pub klog_answers : ℕ → ℕ → List (List ℕ) → List (Result (List ℕ) LineRefused)
klog_answers boot cap lines = answers_after boot cap [] lines

-- the text after all lines: that the last group is incomplete
abbrev pub klog_rest : ℕ → ℕ → List (List ℕ) → List ℕ
klog_rest boot cap lines = added (early_text boot cap lines) (klog_text boot cap lines)

-- the line that a whole log ends with
abbrev pub klog_last : ℕ → ℕ → List (List ℕ) → List ℕ
klog_last boot cap lines = klog_end_line (klog_outs boot cap lines)

-- what is printed for a log of this boot, of processors with this IA32_MCG_CAP
abbrev pub klog_filter : ℕ → ℕ → Filter
klog_filter boot cap =
    record { answers = klog_answers boot cap; rest = klog_rest boot cap; last = klog_last boot cap }
