-- What a crash of the machine leaves, and how it may differ from what an earlier crash would have left.
use Rattle.std.specs.Prelude.{◌≡◌, ℕ, ◌⊎◌, List, ◌++◌}
use Rattle.erst_store.specs.Store.{Stored}
use Rattle.board_core.specs.declared.board.FileNo.{FileNo}
use Rattle.board_core.specs.declared.board.FileNo.TheVariants.{Zero, One}

-- what a crash leaves: the bytes of both files, the record store, and the printed text
pub record Left : Type 0 where
  pub file0 : List ℕ
  pub file1 : List ℕ
  pub store : List Stored
  pub out : List ℕ

abbrev pub file_in : FileNo → Left → List ℕ
file_in Zero left = left.file0
file_in One left = left.file1

abbrev pub with_file_in : FileNo → List ℕ → Left → Left
with_file_in Zero bytes left = record left { file0 = bytes }
with_file_in One bytes left = record left { file1 = bytes }

-- A relation of one part is lifted to the whole: all other parts are unchanged.

-- Nothing differs.
abbrev pub Same : Left → Left → Type 0
Same old new = new ≡ old

-- Only one file differs, in this way.
pub record InFile (file : FileNo) (Step : List ℕ → List ℕ → Type 0) (old new : Left) : Type 0 where
  pub bytes : List ℕ
  pub step : Step (file_in file old) bytes
  pub rest : new ≡ with_file_in file bytes old

-- Only the record store differs, in this way.
pub record InStore (Step : List Stored → List Stored → Type 0) (old new : Left) : Type 0 where
  pub store : List Stored
  pub step : Step old.store store
  pub rest : new ≡ record old { store = store }

-- A store is unchanged, or has become this one.
abbrev pub Becomes : List Stored → List Stored → List Stored → Type 0
Becomes store old new = (new ≡ old) ⊎ (new ≡ store)

-- Only the printed text differs, in this way.
pub record InOut (Step : List ℕ → List ℕ → Type 0) (old new : Left) : Type 0 where
  pub text : List ℕ
  pub step : Step old.out text
  pub rest : new ≡ record old { out = text }

-- A beginning of a piece, maybe nothing and maybe all of it, was appended to a text.
pub record Begins (piece old new : List ℕ) : Type 0 where
  pub part : List ℕ
  pub missing : List ℕ
  pub splits : part ++ missing ≡ piece
  pub is : new ≡ old ++ part

-- A piece was appended to a text.
abbrev pub Appends : List ℕ → List ℕ → List ℕ → Type 0
Appends piece old new = new ≡ old ++ piece
