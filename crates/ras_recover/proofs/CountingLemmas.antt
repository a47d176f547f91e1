-- Which disk calls acts on one file make, and that the acts change only that file.
use Rattle.std.proofs.Common.{◌≡◌, ◌∙◌, ℕ, List, [], ◌∷◌, ◌++◌, length, refl, sym, ap, subst, inl, inr, append_assoc, append-nil}
use Rattle.ras_base.specs.Prefix.{IsPrefixOf}
use Rattle.board_core.specs.declared.board.FileNo.{FileNo}
use Rattle.board_core.specs.declared.board.FileNo.TheVariants.{Zero, One}
use Rattle.board_core.specs.declared.board.DiskCall.{DiskCall}
use Rattle.board_core.specs.declared.board.DiskCall.TheVariants.{WriteAt, Sync}
use Rattle.board_core.specs.Cause.{Kind}
use Rattle.board_core.specs.Doing.{Act, FailsActs, after_acts, calls, calls_of, device, prints, through, writes}
use Rattle.board_core.specs.Told.{Told, FailsThrough, overlay, file_of, with_file, after_write_through}
use Rattle.ras_recover.specs.DiskCalls.{with_calls}
use Rattle.ras_recover.specs.Steps.Looking.{WritesIn}

-- All acts are writes of this file with their syncs.
abbrev pub AreThrough : FileNo → List Act → Type 0
AreThrough file [] = Unit {0}
AreThrough file (through other place bytes ∷ acts) = (other ≡ file) × AreThrough file acts
AreThrough file (act ∷ acts) = ⊥

with_calls_more : (file : FileNo) (one other : List ℕ) (xs ys : List DiskCall) (t : Told) → with_calls ys (with_file file other (with_calls xs (with_file file one t))) ≡ with_calls (xs ++ ys) (with_file file other t)
with_calls_more Zero one other xs ys t = ap (λ (l : List DiskCall). record (with_file Zero other t) { disk_calls = l }) (append_assoc t.disk_calls xs ys)
with_calls_more One one other xs ys t = ap (λ (l : List DiskCall). record (with_file One other t) { disk_calls = l }) (append_assoc t.disk_calls xs ys)

no_calls : (t : Told) → with_calls [] t ≡ t
no_calls t = ap (λ (l : List DiskCall). record t { disk_calls = l }) (append-nil t.disk_calls)

same_file : (file : FileNo) (t : Told) → with_file file (file_of file t) t ≡ t
same_file Zero t = refl
same_file One t = refl

writes_none : (file : FileNo) (Are : List DiskCall → Type 0) → Are [] → (t : Told) → WritesIn file Are t t
writes_none file Are none t = record {
  bytes = file_of file t;
  made = [];
  is = sym (no_calls (with_file file (file_of file t) t) ∙ same_file file t);
  are = none;
}

writes_then : (file : FileNo) (P Q R : List DiskCall → Type 0) → ((xs ys : List DiskCall) → P xs → Q ys → R (xs ++ ys)) → (x y z : Told) → WritesIn file P x y → WritesIn file Q y z → WritesIn file R x z
writes_then file P Q R joins x y z first second = record {
  bytes = second.bytes;
  made = first.made ++ second.made;
  is = second.is ∙ (ap (λ (t : Told). with_calls second.made (with_file file second.bytes t)) first.is ∙ with_calls_more file first.bytes second.bytes first.made second.made x);
  are = joins first.made second.made first.are second.are;
}

listed_twice : (file : FileNo) (place : ℕ) (bytes : List ℕ) (t : Told) → after_write_through file place bytes t ≡ with_calls (WriteAt file place (length bytes) ∷ Sync file ∷ []) (with_file file (overlay place bytes (file_of file t)) t)
listed_twice file place bytes t =
    ap (λ (l : List DiskCall). record (with_file file (overlay place bytes (file_of file t)) t) { disk_calls = l })
    (append_assoc t.disk_calls (WriteAt file place (length bytes) ∷ []) (Sync file ∷ []))

module _ (file : FileNo) (place : ℕ) (bytes : List ℕ) where
  abbrev both : List DiskCall
  both = WriteAt file place (length bytes) ∷ Sync file ∷ []

  written : (t : Told) → WritesIn file (λ made. made ≡ both) t (after_write_through file place bytes t)
  written t = record { bytes = overlay place bytes (file_of file t); made = both; is = listed_twice file place bytes t; are = refl }

  -- A failed call is the last call.
  not_written : (old new : Told) → FailsThrough file place bytes old new → WritesIn file (λ made. IsPrefixOf made both) old new
  not_written old new (inl (torn, is_torn, inl is)) = record { bytes = torn; made = []; is = is ∙ sym (no_calls (with_file file torn old)); are = (both, refl) }
  not_written old new (inl (torn, is_torn, inr is)) = record { bytes = torn; made = WriteAt file place (length bytes) ∷ []; is = is; are = (Sync file ∷ [], refl) }
  not_written old new (inr (inl is)) = record {
    bytes = overlay place bytes (file_of file old);
    made = WriteAt file place (length bytes) ∷ [];
    is = is;
    are = (Sync file ∷ [], refl);
  }
  not_written old new (inr (inr is)) = record { bytes = overlay place bytes (file_of file old); made = both; is = is ∙ listed_twice file place bytes old; are = ([], refl) }

  one_more : (acts : List Act) (made : List DiskCall) → IsPrefixOf made (calls_of acts) → (xs : List DiskCall) → xs ≡ both → IsPrefixOf (xs ++ made) (calls_of (through file place bytes ∷ acts))
  one_more acts made begins xs is = (begins.0, append_assoc xs made begins.0 ∙ (ap (λ (l : List DiskCall). l ++ (made ++ begins.0)) is ∙ ap (λ (l : List DiskCall). both ++ l) begins.1))

-- All of the acts were done.
pub acts_write : (file : FileNo) (acts : List Act) → AreThrough file acts → (t : Told) → WritesIn file (λ made. IsPrefixOf made (calls_of acts)) t (after_acts acts t)
acts_write file [] are t = writes_none file (λ made. IsPrefixOf made []) ([], refl) t
acts_write file (through other place bytes ∷ acts) (is, are) t =
    let there = after_write_through other place bytes t in
    let first = subst (λ (f : FileNo). WritesIn f (λ made. made ≡ both other place bytes) t there) is (written other place bytes t) in
    writes_then file (λ made. made ≡ both other place bytes) (λ made. IsPrefixOf made (calls_of acts)) (λ made. IsPrefixOf made (calls_of (through other place bytes ∷ acts)))
    (λ xs ys one begins. one_more other place bytes acts ys begins xs one) t there (after_acts acts there) first (acts_write file acts are there)
acts_write file (writes other place bytes ∷ acts) are t = absurd are
acts_write file (prints bytes ∷ acts) are t = absurd are
acts_write file (calls call ∷ acts) are t = absurd are
acts_write file (device call ∷ acts) are t = absurd are

-- One of the acts failed.
pub fails_write : (kind : Kind) (file : FileNo) (acts : List Act) → AreThrough file acts → (t u : Told) → FailsActs kind acts t u → WritesIn file (λ made. IsPrefixOf made (calls_of acts)) t u
fails_write kind file [] are t u never = absurd never
fails_write kind file (through other place bytes ∷ acts) (is, are) t u (inl now) =
    let w = not_written other place bytes t u now.1 in
    subst (λ (f : FileNo). WritesIn f (λ made. IsPrefixOf made (calls_of (through other place bytes ∷ acts))) t u) is (record {
      bytes = w.bytes;
      made = w.made;
      is = w.is;
      are = (w.are.0 ++ calls_of acts, sym (append_assoc w.made w.are.0 (calls_of acts)) ∙ ap (λ (l : List DiskCall). l ++ calls_of acts) w.are.1);
    })
fails_write kind file (through other place bytes ∷ acts) (is, are) t u (inr later) =
    let there = after_write_through other place bytes t in
    let first = subst (λ (f : FileNo). WritesIn f (λ made. made ≡ both other place bytes) t there) is (written other place bytes t) in
    writes_then file (λ made. made ≡ both other place bytes) (λ made. IsPrefixOf made (calls_of acts)) (λ made. IsPrefixOf made (calls_of (through other place bytes ∷ acts)))
    (λ xs ys one begins. one_more other place bytes acts ys begins xs one) t there u first (fails_write kind file acts are there u later)
fails_write kind file (writes other place bytes ∷ acts) are t u fails = absurd are
fails_write kind file (prints bytes ∷ acts) are t u fails = absurd are
fails_write kind file (calls call ∷ acts) are t u fails = absurd are
fails_write kind file (device call ∷ acts) are t u fails = absurd are
