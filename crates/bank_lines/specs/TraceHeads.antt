-- What tracers print before the text of an event, up to its name.
use Rattle.std.specs.Prelude.{ℕ, ◌-◌, ◌<◌, ◌≤◌, List, [], ◌∷◌, ◌++◌, codes, decimal, length, replicate}
use Rattle.bank_lines.specs.LogKernel.{HasNo}
use Rattle.bank_lines.specs.Trace.{behind_name}
use Rattle.bank_lines.specs.declared.stamp.TheConstants.{MOST_SECONDS}

-- the kernel's file trace_pipe, `trace-cmd report`, and `perf script`, which prints the event's system before its
-- name
pub data Tracer : Type 0 where
  trace_pipe : Tracer
  trace_cmd : Tracer
  perf : Tracer

abbrev pub system_of : Tracer → List ℕ
system_of perf = codes "mce:"
system_of tracer = []

-- a number with zeros before it, up to a width
abbrev pub digits_of : ℕ → ℕ → List ℕ
digits_of width n = replicate (width - length (decimal n)) 48 ++ decimal n

-- `12.500001`
abbrev pub clock : ℕ → ℕ → List ℕ
clock seconds micros = decimal seconds ++ 46 ∷ digits_of 6 micros

-- What trace_pipe prints before the clock, `%16s-%-7d ` and more: the name of a process, whatever its bytes
-- are, the number of the process, and the processor and flags.
abbrev pub pipe_front : List ℕ → ℕ → List ℕ → List ℕ
pipe_front name process rest =
    (replicate (16 - length name) 32 ++ name) ++ 45 ∷ (decimal process ++ 32 ∷ rest)

-- The process, the processor and the flags come first, then a space, the clock, a colon and a space; more spaces may
-- come before the system.
abbrev pub head_of : Tracer → List ℕ → ℕ → ℕ → ℕ → List ℕ
head_of tracer front seconds micros spaces =
    front ++ 32 ∷ (clock seconds micros ++ 58 ∷ 32 ∷ (replicate spaces 32 ++ system_of tracer))

-- The text before the clock has no colon that a space follows, except in a name in columns; the numbers fit a clock.
pub record IsFront (front : List ℕ) (seconds micros : ℕ) : Type 0 where
  pub text : HasNo (codes ": ") (behind_name front ++ 32 ∷ [])
  pub most : seconds ≤ MOST_SECONDS
  pub six : micros < 1000000
