-- Each test on the record's own bytes has the result that it has on all bytes.
use Rattle.std.proofs.Common.{◌≡◌, ◌≤◌, ℕ, List, length, take, refl, sym, arith, nat_lt, true, false}
use Rattle.std.proofs.lemmas.List.{length-take}
use Rattle.cper_records.specs.Header.{record_length, has_record_length}
use Rattle.cper_records.specs.Records.{record_of}
use Rattle.cper_records.proofs.FrontLemmas.{own_length, own_signatures, own_bytes}
use Rattle.cper_records.proofs.laws.only_own_bytes.Goals as goal

own : (bytes : List ℕ) (n : ℕ) → n ≡ record_length bytes → 128 ≤ n → n ≤ length bytes → record_of (take n bytes) ≡ record_of bytes
unfolding record_of
own bytes n is header inside =
    let long : nat_lt (length bytes) 128 ≡ false = grind arith in
    let own_long : nat_lt (length (take n bytes)) 128 ≡ false = grind (arith, length-take n bytes) in
    let fits : has_record_length bytes ≡ true = grind arith in
    let own_fits : has_record_length (take n bytes) ≡ true = grind (arith, length-take n bytes, own_length bytes n header inside) in
    rw (long, own_long, own_signatures bytes n header inside, fits, own_fits, own_length bytes n header inside, sym is, own_bytes bytes n inside) refl

pub returns : goal.returns
returns c = λ bytes header inside. own bytes (record_length bytes) refl header inside
