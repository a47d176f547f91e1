-- What a system in memory notes, and the folder that it then has.
use Rattle.std.proofs.Common.{◌≡◌, ℕ, ◌++◌, ◌∷◌, [], List, refl, ap, sym, ◌∙◌, subst, arith, append-nil, if◌then◌else◌}
use Rattle.std.specs.Prelude.{true, false, Option, Vec, Result, Ok, Err, IfOk}
use Rattle.std.specs.Result.{is_ok, is_err}
use Rattle.std.specs.declared.alloc.Global.{Global}
use Rattle.board_core.specs.declared.board.FileNo.TheVariants.{Zero, One}
use Rattle.mem_system.specs.declared.left_folder.LeftFolder.{LeftFolder}
use Rattle.mem_system.specs.declared.mem_files.MemFiles.{MemFiles}
use Rattle.mem_system.specs.declared.mem_system.Kept.{Kept}
use Rattle.mem_system.specs.declared.mem_system.Kept.TheVariants.{Nothing, Folder as AFolder, NoMemory}
use Rattle.host_system.specs.declared.system.FileName.{FileName}
use Rattle.host_system.specs.declared.system.FileName.TheVariants.{Journal, Store, New}
use Rattle.host_system.specs.Folder.{Folder, NameEntry, FolderChange, folder_after, change_name, Stopped, FileUse, FolderFile, renewed, used, MayLeaveFolder, settled_folder}
use Rattle.host_system.specs.FolderPast.{FolderPast, changed_by, folder_of, MayLeaveFolderSince}
use Rattle.host_system.specs.Steps.FolderPastLemmas.{folder_of-more, since_kept, now_counts}
use Rattle.mem_system.specs.Steps.Kept.{IsCopied, IsOfPast, Holds}
use Rattle.mem_system.specs.MemSystem.{Choice, MemState, with_change, as_stopped, name_numbered, change_numbered, change_noted, changes_noted, past_noted}
use Rattle.mem_system.specs.Steps.MemFiles.{Uses, number_of, held_in, uses_of, with_use, IsChanged, IsRenewed, AreHeld}

named_again : (name : FileName) → name_numbered (number_of name) ≡ name
named_again (Journal Zero) = refl
named_again (Journal One) = refl
named_again Store = refl
named_again New = refl

noted_more : (calls : List (List ℕ × List ℕ)) (call : List ℕ × List ℕ) → changes_noted (calls ++ call ∷ []) ≡ changes_noted calls ++ change_noted call.0 call.1 ∷ []
noted_more [] call = refl
noted_more (x ∷ xs) call = ap (λ (cs : List FolderChange). change_noted x.0 x.1 ∷ cs) (noted_more xs call)

pub noted : (first : Stopped) (n : ℕ) (name : FileName) (place count : ℕ) (bytes : List ℕ) (old new : List (List ℕ × List ℕ)) → new ≡ old ++ ((n ∷ number_of name ∷ place ∷ count ∷ []), bytes) ∷ []
    → past_noted first new ≡ changed_by (change_numbered n name place count bytes) (past_noted first old)
noted first n name place count bytes old new is =
    ap (past_noted first) is
    ∙ (ap (λ (cs : List FolderChange). record (past_noted first old) { changes = cs }) (noted_more old ((n ∷ number_of name ∷ place ∷ count ∷ []), bytes))
    ∙ ap (λ (m : FileName). changed_by (change_numbered n m place count bytes) (past_noted first old)) (named_again name))

-- ---- after a change

pub noted_state : (change : FolderChange) (past next : FolderPast) (fails : List Choice) (made starved faults : ℕ) (now : MemState) → next ≡ changed_by change past
    → record { past = past; fails = fails; made = made; starved = starved; faults = faults } ≡ now → record { past = next; fails = fails; made = made; starved = starved; faults = faults } ≡ with_change change now
noted_state change past next fails made starved faults now step is =
    ap (λ (p : FolderPast). record { past = p; fails = fails; made = made; starved = starved; faults = faults }) step ∙ ap (with_change change) is

-- The stored copy stays one of the past's moments.
before_on : (change : FolderChange) (past : FolderPast) (kept : Kept) → IsOfPast past kept → IsOfPast (changed_by change past) kept
before_on change past Nothing of = tt
before_on change past (AFolder files text) of = λ uses left may. since_kept (settled_folder past.first) past.changes change 0 left (of uses left may)
before_on change past NoMemory of = tt

-- The system has the folder after the change.
pub held_after : (change : FolderChange) (past next : FolderPast) (files after : MemFiles) (out text : List ℕ) (kept : Kept) → next ≡ changed_by change past
    → ((uses : Uses) → held_in after text (uses_of (folder_after change (held_in files out uses))) ≡ folder_after change (held_in files out uses))
    → Holds past files out kept → Holds next after text kept
held_after change past next files after out text kept is step holds =
    subst (λ (p : FolderPast). Holds p after text kept) (sym is) (record {
      held = subst (λ (f : Folder). held_in after text (uses_of f) ≡ f) (sym (folder_of-more change past))
          (subst (λ (f : Folder). held_in after text (uses_of (folder_after change f)) ≡ folder_after change f) holds.held (step (uses_of (folder_of past))));
      before = before_on change past kept holds.before;
    })

-- What a crash leaves doesn't depend on how a run has the files open.
any_uses : (files : MemFiles) (out : List ℕ) (uses other : Uses) (left : Stopped) → MayLeaveFolder (held_in files out uses) left → MayLeaveFolder (held_in files out other) left
any_uses files out uses other left may = record { zero = may.zero; one = may.one; store = may.store; new = may.new; out = may.out }

-- The present folder is stored.
pub kept_now : (past : FolderPast) (files : MemFiles) (out : List ℕ) (kept : Kept) → AreHeld past files out → IsCopied files out kept → IsOfPast past kept
kept_now past files out Nothing held is = tt
kept_now past files out (AFolder kept text) held is = λ uses left may.
    now_counts (settled_folder past.first) past.changes 0 left (omega arith)
    (subst (λ (f : Folder). MayLeaveFolder f left) held (any_uses files out uses (uses_of (folder_of past)) left (subst (λ (f : Folder). MayLeaveFolder f left) (is uses) may)))
kept_now past files out NoMemory held is = tt

uses_named : (name : FileName) (step : NameEntry → NameEntry) → ((entry : NameEntry) → (step entry).how ≡ entry.how) → (folder : Folder) → uses_of (change_name name step folder) ≡ uses_of folder
uses_named (Journal Zero) step keeps folder = ap (λ (how : FileUse). record (uses_of folder) { zero = how }) (keeps folder.zero)
uses_named (Journal One) step keeps folder = ap (λ (how : FileUse). record (uses_of folder) { one = how }) (keeps folder.one)
uses_named Store step keeps folder = ap (λ (how : FileUse). record (uses_of folder) { store = how }) (keeps folder.store)
uses_named New step keeps folder = ap (λ (how : FileUse). record (uses_of folder) { new = how }) (keeps folder.new)

-- One name changed.
pub changed_held : (name : FileName) (step : NameEntry → NameEntry) → ((entry : NameEntry) → (step entry).how ≡ entry.how) → (files after : MemFiles) (out : List ℕ) → IsChanged name step files after
    → (uses : Uses) → held_in after out (uses_of (change_name name step (held_in files out uses))) ≡ change_name name step (held_in files out uses)
changed_held name step keeps files after out is uses = ap (held_in after out) (uses_named name step keeps (held_in files out uses)) ∙ is out uses

uses_renewed : (name : FileName) (file : Option FolderFile) (how : FileUse) (files : MemFiles) (out : List ℕ) (uses : Uses) → uses_of (change_name name (renewed file how) (held_in files out uses)) ≡ with_use name how uses
uses_renewed (Journal Zero) file how files out uses = refl
uses_renewed (Journal One) file how files out uses = refl
uses_renewed Store file how files out uses = refl
uses_renewed New file how files out uses = refl

-- One name refers to another file now, or to no file.
pub renewed_held : (name : FileName) (file : Option FolderFile) (how : FileUse) (files after : MemFiles) (out : List ℕ) → IsRenewed name file files after
    → (uses : Uses) → held_in after out (uses_of (change_name name (renewed file how) (held_in files out uses))) ≡ change_name name (renewed file how) (held_in files out uses)
renewed_held name file how files after out is uses = ap (held_in after out) (uses_renewed name file how files out uses) ∙ is out uses how

-- A run has a file in another way.
pub used_held : (name : FileName) (how : FileUse) (files : MemFiles) (out : List ℕ) (uses : Uses)
    → held_in files out (uses_of (change_name name (used how) (held_in files out uses))) ≡ change_name name (used how) (held_in files out uses)
used_held (Journal Zero) how files out uses = refl
used_held (Journal One) how files out uses = refl
used_held Store how files out uses = refl
used_held New how files out uses = refl

-- Nothing was printed.
pub no_text : (files : MemFiles) (out : List ℕ) (uses : Uses) → held_in files out uses ≡ record (held_in files out uses) { out = out ++ [] }
no_text files out uses = ap (λ (o : List ℕ). held_in files o uses) (sym (append-nil out))

-- ---- what a stop leaves

pub left_now : {E : Type 0} (made : Result LeftFolder E) (past now : FolderPast) (files : MemFiles) (out seen : List ℕ) → past ≡ now → AreHeld past files out → seen ≡ out
    → IfOk made (λ left. (uses : Uses) → MayLeaveFolder (held_in files seen uses) (as_stopped left)) → IfOk made (λ left. MayLeaveFolder (folder_of now) (as_stopped left))
left_now (Ok left) past now files out seen is held same may =
    subst (λ (p : FolderPast). MayLeaveFolder (folder_of p) (as_stopped left)) is
    (subst (λ (f : Folder). MayLeaveFolder f (as_stopped left)) held
    (subst (λ (o : List ℕ). MayLeaveFolder (held_in files o (uses_of (folder_of past))) (as_stopped left)) same (may (uses_of (folder_of past)))))
left_now (Err e) past now files out seen is held same may = tt

pub left_then : (past now : FolderPast) (kept : Kept) (files : MemFiles) (text : Vec ℕ Global) (seen : List ℕ) (left : Stopped) → past ≡ now → IsOfPast past kept → kept ≡ AFolder files text → seen ≡ text.items
    → ((uses : Uses) → MayLeaveFolder (held_in files seen uses) left) → MayLeaveFolderSince (settled_folder now.first) now.changes 0 left
left_then past now kept files text seen left same of is all may =
    let uses : Uses = uses_of (settled_folder past.first) in
    let moment : IsOfPast past (AFolder files text) = subst (λ (k : Kept). IsOfPast past k) is of in
    subst (λ (p : FolderPast). MayLeaveFolderSince (settled_folder p.first) p.changes 0 left) same
    (moment uses left (subst (λ (o : List ℕ). MayLeaveFolder (held_in files o uses) left) all (may uses)))

-- ---- what a call answers

pub of_err : {T E X : Type 0} (r : Result T E) (x y : X) → is_err r ≡ true → (if is_ok r then x else y) ≡ y
of_err (Ok v) x y is = cc
of_err (Err e) x y is = refl

pub of_ok : {T E X : Type 0} (r : Result T E) (x y : X) → is_err r ≡ false → (if is_ok r then x else y) ≡ x
of_ok (Ok v) x y is = refl
of_ok (Err e) x y is = cc
