-- A name that is written over bytes in place.
use Rattle.std.proofs.Common.{◌≡◌, ◌∙◌, ℕ, ◌+◌, ◌≤◌, List, ◌++◌, length, take, sym, ap, append_assoc, length-append, arith}
use Rattle.std.proofs.lemmas.List.{take_at, length-take-le}
use borrow.Rule.Slice.PartMut.{put_mid, post_of}

pub spelled_over : (place k end : ℕ) (room piece spelled : List ℕ) → place ≤ length room → end ≡ place + length piece → piece ≡ spelled → take end (put_mid place k room piece) ≡ take place room ++ spelled
spelled_over place k end room piece spelled within is same =
    let front : length (take place room) ≡ place = length-take-le place room within in
    let long : length (take place room ++ piece) ≡ end = omega (arith, length-append (take place room) piece) in
    ap (λ (l : List ℕ). take end l) (sym (append_assoc (take place room) piece (post_of place k room)))
    ∙ (take_at (take place room ++ piece) (post_of place k room) end long ∙ ap (λ (l : List ℕ). take place room ++ l) same)
