-- Results of functions that aren't public.
use Rattle.std.specs.Prelude.{◌≡◌, Result, Ok, Err}
use Rattle.apei_sources.specs.declared.refusals.TableRefused.{TableRefused}
use Rattle.apei_sources.specs.declared.refusals.TableRefused.TheVariants.{NoMemory}

-- This view of the result is what is read.
abbrev pub Reads : {X Y E : Type 0} → (X → Y) → Result X E → Result Y E → Type 0
Reads view (Ok value) answer = answer ≡ Ok (view value)
Reads view (Err why) answer = answer ≡ Err why

-- Reading fails for this reason, or memory ran out.
abbrev pub Fails : {Y : Type 0} → TableRefused → Result Y TableRefused → Type 0
Fails NoMemory answer = Unit {0}
Fails why answer = answer ≡ Err why

abbrev pub Gives : {X Y : Type 0} → (X → Y) → Result X TableRefused → Result Y TableRefused → Type 0
Gives view (Ok value) answer = answer ≡ Ok (view value)
Gives view (Err why) answer = Fails why answer
