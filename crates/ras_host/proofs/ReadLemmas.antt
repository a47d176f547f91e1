-- What a report read of a file is what the file has.
use Rattle.std.proofs.Common.{◌≡◌, ℕ, ◌+◌, ◌-◌, ◌<◌, ◌≤◌, List, ◌++◌, length, take, drop, Some, sym, ap, ◌∙◌, arith}
use Rattle.std.specs.Prelude.{min, Option, None, IfSome, Result, Ok, Err}
use Rattle.std.specs.List.{slice_range}
use Rattle.std.specs.Option.{ok_or, option_map}
use Rattle.std.proofs.lemmas.List.{drop-take, length-append, length-drop, length-take, take-take, take_all, take_at}
use Rattle.board_core.specs.Stop.{file_in}
use Rattle.board_core.specs.Told.{ReadsBytes}
use Rattle.board_core.specs.declared.board.FileNo.{FileNo}
use Rattle.board_core.specs.declared.board.FileNo.TheVariants.{Zero, One}
use Rattle.host_system.specs.FolderPast.{FolderPast, bytes_or, length_told}
use Rattle.host_system.specs.View.{seen_now}
use Rattle.host_system.specs.declared.system.FileName.TheVariants.{Journal}
use Rattle.ras_host.specs.JournalFiles.{IsRead, most_read}
use Rattle.ras_host.specs.declared.reading.ReadFile.{ReadFile}

-- An offset in the beginning of a file.
part_of_front : (place count most : ℕ) (file : List ℕ) → place + count ≤ most → take count (drop place (take most file)) ≡ take count (drop place file)
part_of_front place count most file within =
    let parts : most ≡ place + (most - place) = omega arith in
    ap (λ (n : ℕ). take count (drop place (take n file))) parts
    ∙ (ap (take count) (drop-take place (most - place) file) ∙ take-take count (most - place) (drop place file) (omega arith))

pub reads_found : (place count most : ℕ) (buf found copied bytes file : List ℕ) → bytes ≡ take most file → place + count ≤ length bytes
    → found ≡ slice_range bytes place (place + count) → length found + place ≡ place + count → copied ≡ found → count ≤ length buf → count ≡ min (length file - place) (length buf)
    → ReadsBytes place count (copied ++ drop count buf) file
reads_found place count most buf found copied bytes file is within finds size copies room counts =
    let most_is : length bytes ≡ min most (length file) = ap length is ∙ length-take most file in
    let all : length copied ≡ count = ap length copies ∙ omega arith in
    let whole : length (copied ++ drop count buf) ≡ length buf = length-append copied (drop count buf) ∙ (ap (λ (n : ℕ). length copied + n) (length-drop count buf) ∙ omega arith) in
    let parts : place + count - place ≡ count = omega arith in
    record {
      count = omega arith;
      bytes = take_at copied (drop count buf) count all ∙ (copies ∙ (finds ∙ (ap (λ (n : ℕ). take n (drop place bytes)) parts
          ∙ (ap (λ (l : List ℕ). take count (drop place l)) is ∙ part_of_front place count most file (omega arith)))));
    }

-- A file of which fewer bytes were read than the most was read whole.
short_fits : (bytes file : List ℕ) (most : ℕ) → bytes ≡ take most file → length bytes < most → bytes ≡ file
short_fits bytes file most is short =
    let most_is : length bytes ≡ min most (length file) = ap length is ∙ length-take most file in
    is ∙ take_all most file (omega arith)

pub short_read : (read : ReadFile) (file : List ℕ) → read.length ≡ length read.bytes.items → read.bytes.items ≡ take most_read file → length read.bytes.items < most_read → IsRead read file
short_read read file size is short = record { size = size ∙ ap length (short_fits read.bytes.items file most_read is short); items = is }

length_or : (n : ℕ) (o : Option (List ℕ)) → Some n ≡ option_map length o → n ≡ length (bytes_or o)
length_or n None e = absurd (no e)
  where
    no : Some n ≡ None → ⊥
    no e = cc
length_or n (Some bytes) e = cc

pub found_length : (file : FileNo) (n : ℕ) (p : FolderPast) → Some n ≡ length_told (Journal file) p → n ≡ length (file_in file (seen_now p))
found_length Zero n p is = length_or n _ is
found_length One n p is = length_or n _ is

-- over a modelled folder
pub told_short : (file : FileNo) (read : ReadFile) (told : Option FolderPast) → read.length ≡ length read.bytes.items → length read.bytes.items < most_read → IfSome told (λ p. read.bytes.items ≡ take most_read (file_in file (seen_now p)))
    → IfSome told (λ p. IsRead read (file_in file (seen_now p)))
told_short file read None size short is = tt
told_short file read (Some p) size short is = short_read read (file_in file (seen_now p)) size is short

err_ok : {E : Type 0} (e : E) (n : ℕ) → ◌≡◌ {A = Result ℕ E} (Err e) (Ok n) → ⊥
err_ok e n is = cc

ok_some : {E : Type 0} (m n : ℕ) → ◌≡◌ {A = Result ℕ E} (Ok m) (Ok n) → Some m ≡ Some n
ok_some m n is = cc

found_some : {E : Type 0} (found : Option ℕ) (e : E) (answer : Result ℕ E) (n : ℕ) → answer ≡ ok_or found e → answer ≡ Ok n → found ≡ Some n
found_some None e answer n is ok = absurd (err_ok e n (sym is ∙ ok))
found_some (Some m) e answer n is ok = ok_some m n (sym is ∙ ok)

pub told_found : {E : Type 0} (file : FileNo) (read : ReadFile) (found : Option ℕ) (e : E) (answer : Result ℕ E) (told : Option FolderPast) → answer ≡ ok_or found e → answer ≡ Ok read.length → IfSome told (λ p. found ≡ length_told (Journal file) p)
    → IfSome told (λ p. read.bytes.items ≡ take most_read (file_in file (seen_now p))) → IfSome told (λ p. IsRead read (file_in file (seen_now p)))
told_found file read found e answer None value ok length_is is = tt
told_found file read found e answer (Some p) value ok length_is is =
    record { size = found_length file read.length p (sym (found_some found e answer read.length value ok) ∙ length_is); items = is }
