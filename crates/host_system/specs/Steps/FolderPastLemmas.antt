-- How the moments of a folder continue over one more change.
use Rattle.std.specs.Prelude.{◌≡◌, ℕ, zero, suc, ◌≤◌, ◌⊎◌, List, [], ◌∷◌, ◌++◌, length, Some, refl}
use Rattle.std.proofs.Common.{sym, ◌∙◌, subst, inl, inr, arith, append-nil, length-append}
use Rattle.board_core.specs.Clock.{Clock, After, Passes, Leads}
use Rattle.board_core.specs.Stop.{Left}
use Rattle.host_system.specs.Folder.{Folder, FolderChange, wrote, synced, made, opens, locks, loses, removed, renamed, synced_names, printed, folder_after, folder_after_all, Stopped, MayLeaveFolder, During, settled_folder, here_in}
use Rattle.host_system.specs.Steps.FolderLemmas.{AreConsistent, consistent_after_all, settled_consistent, here_may, AfterFolder}
use Rattle.host_system.specs.FolderPast.{FolderPast, changed_by, folder_of, MayLeaveFolderSince}
use Rattle.host_system.specs.View.{seen_as, clock_over}

pub folder_after_all-more : (changes : List FolderChange) (change : FolderChange) (folder : Folder) → folder_after_all (changes ++ change ∷ []) folder ≡ folder_after change (folder_after_all changes folder)
folder_after_all-more [] change folder = refl
folder_after_all-more (x ∷ xs) change folder = folder_after_all-more xs change (folder_after x folder)

pub folder_of-more : (change : FolderChange) (past : FolderPast) → folder_of (changed_by change past) ≡ folder_after change (folder_of past)
folder_of-more change past = folder_after_all-more past.changes change (settled_folder past.first)

-- The present folder is consistent, and a crash may leave it.
pub consistent_of : (past : FolderPast) → AreConsistent (folder_of past)
consistent_of past = consistent_after_all past.changes (settled_folder past.first) (settled_consistent past.first)

pub here_left : (past : FolderPast) → MayLeaveFolder (folder_of past) (here_in (folder_of past))
here_left past = here_may (folder_of past) (consistent_of past)

no_part : (folder : Folder) (left : Stopped) → MayLeaveFolder folder left → MayLeaveFolder (folder_after (printed []) folder) left
no_part folder left may = record { zero = may.zero; one = may.one; store = may.store; new = may.new; out = may.out ∙ sym (append-nil folder.out) }

-- What a crash between changes may leave, a crash during each change may leave.
pub during_more : (change : FolderChange) (folder : Folder) (left : Stopped) → MayLeaveFolder folder left → During change folder left
during_more (wrote name place count bytes) folder left may = inl may
during_more (synced name) folder left may = inl may
during_more (made name) folder left may = inl may
during_more (opens name) folder left may = inl may
during_more (locks name) folder left may = inl may
during_more (loses name) folder left may = inl may
during_more (removed name) folder left may = inl may
during_more renamed folder left may = inl may
during_more synced_names folder left may = inl may
during_more (printed piece) folder left may = ([], piece, refl, no_part folder left may)

pub since_split : (folder : Folder) (changes : List FolderChange) (change : FolderChange) (t : ℕ) (left : Stopped) → t ≤ length changes → MayLeaveFolderSince folder (changes ++ change ∷ []) t left
    → MayLeaveFolderSince folder changes t left ⊎ (During change (folder_after_all changes folder) left ⊎ MayLeaveFolder (folder_after change (folder_after_all changes folder)) left)
since_split folder [] change zero left within may = inr may
since_split folder [] change (suc t) left within may = absurd (omega arith)
since_split folder (x ∷ xs) change zero left within (inl may) = inl (inl may)
since_split folder (x ∷ xs) change zero left within (inr may) =
    elim (since_split (folder_after x folder) xs change zero left (omega arith) may) [ inl before ↦ inl (inr before) | inr last ↦ inr last ]
since_split folder (x ∷ xs) change (suc t) left within may = since_split (folder_after x folder) xs change t left (omega arith) may

pub since_kept : (folder : Folder) (changes : List FolderChange) (change : FolderChange) (t : ℕ) (left : Stopped) → MayLeaveFolderSince folder changes t left → MayLeaveFolderSince folder (changes ++ change ∷ []) t left
since_kept folder [] change zero left may = inl (during_more change folder left may)
since_kept folder [] change (suc t) left may = absurd may
since_kept folder (x ∷ xs) change zero left (inl may) = inl may
since_kept folder (x ∷ xs) change zero left (inr may) = inr (since_kept (folder_after x folder) xs change zero left may)
since_kept folder (x ∷ xs) change (suc t) left may = since_kept (folder_after x folder) xs change t left may

pub now_only : (folder : Folder) (changes : List FolderChange) (left : Stopped) → MayLeaveFolderSince folder changes (length changes) left → MayLeaveFolder (folder_after_all changes folder) left
now_only folder [] left may = may
now_only folder (x ∷ xs) left may = now_only (folder_after x folder) xs left may

pub now_counts : (folder : Folder) (changes : List FolderChange) (t : ℕ) (left : Stopped) → t ≤ length changes → MayLeaveFolder (folder_after_all changes folder) left → MayLeaveFolderSince folder changes t left
now_counts folder [] zero left within may = may
now_counts folder [] (suc t) left within may = absurd (omega arith)
now_counts folder (x ∷ xs) zero left within may = inr (now_counts (folder_after x folder) xs zero left (omega arith) may)
now_counts folder (x ∷ xs) (suc t) left within may = now_counts (folder_after x folder) xs t left (omega arith) may

pub since_earlier : (folder : Folder) (changes : List FolderChange) (s t : ℕ) (left : Stopped) → s ≤ t → MayLeaveFolderSince folder changes t left → MayLeaveFolderSince folder changes s left
since_earlier folder [] zero zero left within may = may
since_earlier folder [] zero (suc t) left within may = absurd may
since_earlier folder [] (suc s) zero left within may = absurd (omega arith)
since_earlier folder [] (suc s) (suc t) left within may = absurd may
since_earlier folder (x ∷ xs) zero zero left within may = may
since_earlier folder (x ∷ xs) zero (suc t) left within may = inr (since_earlier (folder_after x folder) xs zero t left (omega arith) may)
since_earlier folder (x ∷ xs) (suc s) zero left within may = absurd (omega arith)
since_earlier folder (x ∷ xs) (suc s) (suc t) left within may = since_earlier (folder_after x folder) xs s t left (omega arith) may

-- ---- the clock of a board goes on over one change

to_after : (past : FolderPast) (Step : Left → Left → Type 0) (stopped : Stopped) (left : Left) → left ≡ seen_as stopped → AfterFolder (folder_of past) Step stopped → After (clock_over (Some past)) Step left
to_after past Step stopped left is step = record {
  from = seen_as step.from;
  was = record { stopped = step.from; may = now_counts (settled_folder past.first) past.changes (length past.changes) step.from (omega arith) step.was; is = refl };
  by = subst (λ (l : Left). Step (seen_as step.from) l) (sym is) step.by;
}

pub leads_change : (past : FolderPast) (change : FolderChange) (Step : Left → Left → Type 0)
    → ((left : Stopped) → MayLeaveFolder (folder_after change (folder_of past)) left → AfterFolder (folder_of past) Step left)
    → Leads Step (clock_over (Some past)) (clock_over (Some (changed_by change past)))
leads_change past change Step ends left now =
    to_after past Step now.stopped left now.is (ends now.stopped (subst (λ (f : Folder). MayLeaveFolder f now.stopped) (folder_of-more change past) (now_only (settled_folder past.first) (past.changes ++ change ∷ []) now.stopped now.may)))

pub passes_change : (past : FolderPast) (change : FolderChange) (Step : Left → Left → Type 0)
    → ((left : Stopped) → During change (folder_of past) left → AfterFolder (folder_of past) Step left)
    → ((left : Stopped) → MayLeaveFolder (folder_after change (folder_of past)) left → AfterFolder (folder_of past) Step left)
    → Passes Step (clock_over (Some past)) (clock_over (Some (changed_by change past)))
passes_change past change Step during ends = record {
  later = simp length-append (omega arith);
  kept = λ t left within may. record { stopped = may.stopped; may = since_kept (settled_folder past.first) past.changes change t may.stopped may.may; is = may.is };
  each = λ t left within may. elim (since_split (settled_folder past.first) past.changes change t may.stopped within may.may) [
    | inl before ↦ inl (record { stopped = may.stopped; may = before; is = may.is })
    | inr last ↦ inr (to_after past Step may.stopped left may.is (elim last [ inl here_in ↦ during may.stopped here_in | inr behind ↦ ends may.stopped behind ]))
  ];
  ends = leads_change past change Step ends;
}

-- ---- calls one after another

pub passes_then : (R S T : Left → Left → Type 0) (a b c : Clock) → ((x y : Left) → R x y → T x y) → ((x y z : Left) → R x y → S y z → T x z) → Passes R a b → Passes S b c → Passes T a c
passes_then R S T a b c one both first second =
    let last : (left : Left) → After b S left → After a T left =
    λ left folder_after. (let before : After a R folder_after.from = first.ends folder_after.from folder_after.was in record { from = before.from; was = before.was; by = both before.from folder_after.from left before.by folder_after.by }) in
    record {
      later = (let x : a.now ≤ b.now = first.later in let y : b.now ≤ c.now = second.later in omega arith);
      kept = λ t left within may. (let x : a.now ≤ b.now = first.later in second.kept t left (omega arith) (first.kept t left within may));
      each = λ t left within may. (let x : a.now ≤ b.now = first.later in elim (second.each t left (omega arith) may) [
        | inl before ↦ elim (first.each t left within before) [ inl earlier ↦ inl earlier | inr folder_after ↦ inr (record { from = folder_after.from; was = folder_after.was; by = one folder_after.from left folder_after.by }) ]
        | inr folder_after ↦ inr (last left folder_after)
      ]);
      ends = λ left now. last left (second.ends left now);
    }

pub stands : (Step : Left → Left → Type 0) (clock : Clock) → ((left : Left) → Step left left) → Passes Step clock clock
stands Step clock same = record {
  later = omega arith;
  kept = λ t left within may. may;
  each = λ t left within may. inl may;
  ends = λ left now. record { from = left; was = now; by = same left };
}
