-- The front of a buffer contains an input's first bytes, read after read.
use Rattle.std.proofs.Common.{◌≡◌, ℕ, ◌+◌, ◌-◌, ◌≤◌, List, [], ◌++◌, length, take, drop, Option, None, Some, Ok, Err, IfSome, IsSomeAnd, sym, ap, subst, ◌∙◌, arith, inl, inr, length-append, length-drop, length-take}
use Rattle.std.specs.Prelude.{◌⊎◌}
use Rattle.std.proofs.lemmas.List.{drop-drop, drop_all, length-take-le, take-append-drop, take_all}
use Rattle.board_core.specs.Clock.{Adds, Clock}
use Rattle.board_core.specs.Takes.{Takes}
use Rattle.board_core.specs.Told.{Relates, Told}
use Rattle.board_core.specs.declared.source.Failed.{Failed}
use Rattle.ras_exit.specs.Causes.{SourceCause}
use Rattle.ras_exit.specs.Telling.{PrintMoment}
use Rattle.ras_exit.specs.declared.exit.Exit.{Exit}
use Rattle.ras_exit.specs.declared.exit.Exit.TheVariants.{Done, NoMemory, PrintFault, SourceFault}
use Rattle.ras_script.proofs.WindowLemmas.{written_front, written_part}
use Rattle.bank_lines.specs.Saved.Printing.{IsRecordExit, PrintsText, StopsPrinting, TakesRecord}
use Rattle.bank_lines.specs.Saved.Records.{record_output, record_text}
use Rattle.bank_lines.specs.Steps.Reading.{Holds, HoldsOf, IsPrintExit, ReadsFront}
use borrow.Rule.Slice.PartMut.{put_mid, post_of}
use lib.Seq.{take-add}

-- ---- one read more

-- a read after the bytes that the buffer contains adds to them
holds_more : (n k : ℕ) (old buffer input : List ℕ) (left new : Option (List ℕ)) → Holds n old input left → n + k ≤ 129 → take n buffer ≡ take n old → Takes k (drop n buffer) left new → Holds (n + k) buffer input new
holds_more n k old buffer input left new holds room front takes =
    let rest : Takes k (drop n buffer) (Some (drop n input)) new = subst (λ (l : Option (List ℕ)). Takes k (drop n buffer) l new) holds.left takes in
    record {
      few = room;
      within = omega (arith, holds.within, rest.2, length-drop n input);
      left = rest.0 ∙ ap Some (drop-drop k n input);
      front = take-add n k buffer ∙ ap (λ (t : List ℕ). t ++ take k (drop n buffer)) (front ∙ holds.front) ∙ ap (λ (t : List ℕ). take n input ++ t) rest.1 ∙ sym (take-add n k input);
    }

pub holds_on : (n k m : ℕ) (old piece : List ℕ) (first left new : Option (List ℕ)) → HoldsOf n old first left → n ≤ length old → n + k ≤ 129 → k ≤ length piece → Takes k piece left new
    → HoldsOf (n + k) (put_mid n m old piece) first new
holds_on n k m old piece None left new holds inside room fits takes = tt
holds_on n k m old piece (Some input) left new holds inside room fits takes =
    holds_more n k old (put_mid n m old piece) input left new holds room (written_front old piece n m inside) (written_part old piece n m k left new inside fits takes)

pub long_on : (n m : ℕ) (old piece : List ℕ) → n ≤ length old → length piece ≡ length old - n → length old - n ≤ m → length (put_mid n m old piece) ≡ length old
long_on n m old piece inside size all =
    omega (arith, size, all, length-append (take n old) (piece ++ post_of n m old), length-append piece (post_of n m old), length-take-le n old inside, length-drop m (drop n old), length-drop n old)

-- a read of no bytes means that the buffer contains the whole input
pub reads_all : (n k m : ℕ) (old piece : List ℕ) (first left new : Option (List ℕ)) → HoldsOf n old first left → n ≤ length old → k ≡ 0 → Takes k piece left new
    → ReadsFront (Ok n) (put_mid n m old piece) first new
reads_all n k m old piece None left new holds inside none takes = tt
reads_all n k m old piece (Some input) left new holds inside none takes =
    let rest : Takes k piece (Some (drop n input)) new = subst (λ (l : Option (List ℕ)). Takes k piece l new) holds.left takes in
    let ended : drop n input ≡ [] = rest.3 none in (
      record {
        few = holds.few;
        within = holds.within;
        left = rest.0 ∙ ap (λ (i : ℕ). Some (drop i (drop n input))) none;
        front = written_front old piece n m inside ∙ holds.front;
      },
      inl (omega (arith, holds.within, length-drop n input, ap length ended)),
    )

-- ---- a call

all_read : (n : ℕ) (input : List ℕ) → (n ≡ length input) ⊎ (n ≡ 129) → n ≤ 129 → take n input ≡ take 129 input
all_read n input (inl is) few = take_all n input (omega (arith, is)) ∙ sym (take_all 129 input (omega (arith, is, few)))
all_read n input (inr is) few = ap (λ (i : ℕ). take i input) is

bytes_are : (n : ℕ) (buffer input : List ℕ) (now : Option (List ℕ)) → ReadsFront (Ok n) buffer (Some input) now → take n buffer ≡ take 129 input
bytes_are n buffer input now reads = reads.0.front ∙ all_read n input reads.1 reads.0.few

pub prints_input : (boot n : ℕ) (buffer : List ℕ) (result : Exit) (left now : Option (List ℕ)) (old new : Option Told) → ReadsFront (Ok n) buffer left now
    → Relates (PrintsText (record_text boot (take n buffer)) result) old new → IfSome left (λ input. Relates (PrintsText (record_output boot input) result) old new)
prints_input boot n buffer result None now old new reads prints = tt
prints_input boot n buffer result (Some input) now old new reads prints =
    subst (λ (bytes : List ℕ). Relates (PrintsText (record_text boot bytes) result) old new) (bytes_are n buffer input now reads) prints

pub stops_input : (boot n : ℕ) (buffer : List ℕ) (left now : Option (List ℕ)) (a b : Clock) → ReadsFront (Ok n) buffer left now → Adds (PrintMoment a (record_text boot (take n buffer))) a b → StopsPrinting boot left a b
stops_input boot n buffer None now a b reads stops = tt
stops_input boot n buffer (Some input) now a b reads stops = subst (λ (bytes : List ℕ). Adds (PrintMoment a (record_text boot bytes)) a b) (bytes_are n buffer input now reads) stops

ended : (n : ℕ) (input : List ℕ) → n ≤ length input → (n ≡ length input) ⊎ (n ≡ 129) → (drop n input ≡ []) ⊎ (length (take n input) ≡ 129)
ended n input within (inl is) = inl (drop_all n input (omega (arith, is)))
ended n input within (inr is) = inr (length-take-le n input within ∙ is)

pub takes_input : (n : ℕ) (buffer : List ℕ) (result : Exit) (left now : Option (List ℕ)) → ReadsFront (Ok n) buffer left now → IfSome left (λ input. IsSomeAnd now (TakesRecord result input))
takes_input n buffer result None now reads = tt
takes_input n buffer result (Some input) now reads =
    rw (reads.0.left) (record {
      taken = take n input;
      splits = take-append-drop n input;
      few = omega (arith, reads.0.few, length-take n input);
      all = λ done. ended n input reads.0.within reads.1;
    })

pub takes_part : (failed : Failed) (buffer : List ℕ) (left now : Option (List ℕ)) → ReadsFront (Err failed) buffer left now → IfSome left (λ input. IsSomeAnd now (TakesRecord SourceFault input))
takes_part failed buffer None now reads = tt
takes_part failed buffer (Some input) now (n, holds) =
    rw (holds.left) (record {
      taken = take n input;
      splits = take-append-drop n input;
      few = omega (arith, holds.few, length-take n input);
      all = λ done. absurd cc;
    })

pub source_same : (exit : Exit) (before now : ℕ) → IsPrintExit exit → now ≡ before → SourceCause exit before now
source_same Done before now is same = same
source_same PrintFault before now is same = same
source_same NoMemory before now is same = same
source_same exit before now is same = absurd is

pub record_exit : (exit : Exit) → IsPrintExit exit → IsRecordExit exit
record_exit Done is = tt
record_exit PrintFault is = tt
record_exit NoMemory is = tt
record_exit exit is = absurd is
