-- The fields of a file, read from a large enough piece of it.
use Rattle.std.proofs.Common.{◌≡◌, ◌∙◌, ℕ, ◌+◌, ◌-◌, ◌≤◌, ◌<◌, min, List, length, take, drop, Option, None, Some, Result, Ok, Err, refl, sym, ap, subst, arith, inl, inr}
use Rattle.std.specs.Prelude.{Bool, true, false, if◌then◌else◌, slice_index}
use Rattle.std.specs.Option.{option_and_then}
use Rattle.std.proofs.lemmas.Bool.{cases_lt}
use Rattle.std.proofs.lemmas.Bool.Decides.{nat_tests}
use Rattle.std.proofs.lemmas.List.{length-take, length-drop, take-take, drop-drop, get_or-take}
use Rattle.ras_base.specs.Chaining.{◌>>=◌}
use Rattle.journal_format.specs.CheckpointReading.{checkpoint_of}
use Rattle.ras_journal.specs.Fields.{part, field, some_or, number_of, is_open_of, version_of, generation_of, entries_by}
use Rattle.ras_journal.specs.File.{FileFront, has_open_gate, with_link, front_behind_link, first_front, next_front}
use Rattle.ras_journal.specs.Recovered.{is_shut}
use Rattle.ras_journal.proofs.PartLemmas.{part_within, field_same, field_cut}
use Rattle.ras_recover.specs.Steps.Windows.{IsHeld, LinkHeld, FrontHeld}
use Rattle.ras_recover.proofs.ReadingLemmas.{field_made_of}

-- ---- a field in a piece

pub field_piece : {A : Type 0} (make : List ℕ → Option A) (place count held : ℕ) (bytes : List ℕ) → IsHeld (place + count) held bytes → field make place count (take held bytes) ≡ field make place count bytes
field_piece {A} make place count held bytes is = elim (cases_lt (length bytes) (place + count)) [
  | inl cut ↦ field_cut make place count (take held bytes) (omega (arith, length-take held bytes)) ∙ sym (field_cut make place count bytes cut)
  | inr within ↦ elim is [
    | inl enough ↦ field_same make (place + count) place count (take held bytes) bytes (take-take (place + count) held bytes enough) within (omega arith)
    | inr cut ↦ absurd (omega arith)
  ]
]

bind_same : {A B E : Type 0} (r s : Result A E) (f g : A → Result B E) → r ≡ s → ((x : A) → s ≡ Ok x → f x ≡ g x) → (r >>= f) ≡ (s >>= g)
bind_same {A} {B} {E} r (Ok x) f g same each = ap (λ (q : Result A E). q >>= f) same ∙ each x refl
bind_same {A} {B} {E} r (Err why) f g same each = ap (λ (q : Result A E). q >>= f) same

-- A field near the file's start is in the piece.
pub early : (most count held : ℕ) (bytes : List ℕ) → count ≤ most → min most (length bytes) ≤ held → IsHeld count held bytes
early most count held bytes few enough = elim (cases_lt (length bytes) count) [ inl cut ↦ inr cut | inr within ↦ inl (omega arith) ]

-- ---- the front of a file

pub gate_held : (held : ℕ) (bytes : List ℕ) → min 25 (length bytes) ≤ held → (has_open_gate (take held bytes) ≡ has_open_gate bytes) × (is_shut (take held bytes) ≡ is_shut bytes)
gate_held held bytes enough =
    let long : length (take held bytes) ≡ min held (length bytes) = length-take held bytes in
    elim (cases_lt 1 (length bytes)) [
      | inl some ↦ (let byte : slice_index (take held bytes) 0 ≡ slice_index bytes 0 = get_or-take held bytes 0 0 (omega arith) in
          let one : 1 < length (take held bytes) = omega arith in
          (both some one byte))
      | inr none ↦ (let one : length (take held bytes) ≤ 1 = omega arith in short none one)
    ]
  where
    both : 1 < length bytes → 1 < length (take held bytes) → slice_index (take held bytes) 0 ≡ slice_index bytes 0 → (has_open_gate (take held bytes) ≡ has_open_gate bytes) × (is_shut (take held bytes) ≡ is_shut bytes)
    both some one byte = (grind (arith, nat_tests), grind (arith, nat_tests))

    short : length bytes ≤ 1 → length (take held bytes) ≤ 1 → (has_open_gate (take held bytes) ≡ has_open_gate bytes) × (is_shut (take held bytes) ≡ is_shut bytes)
    short none one = (grind (arith, nat_tests), grind (arith, nat_tests))

pub first_held : (taken : Option ℕ) (held : ℕ) (bytes : List ℕ) → FrontHeld held bytes → has_open_gate bytes ≡ true → first_front taken (take held bytes) ≡ first_front taken bytes
unfolding first_front
first_held taken held bytes is stands =
    bind_same _ _ _ _ (field_piece version_of 1 8 held bytes (early 25 9 held bytes (omega arith) is.fields)) (λ version version_is.
    bind_same _ _ _ _ (field_piece (generation_of taken) 9 8 held bytes (early 25 17 held bytes (omega arith) is.fields)) (λ generation generation_is.
    bind_same _ _ _ _ (field_piece (number_of 8) 17 8 held bytes (early 25 25 held bytes (omega arith) is.fields)) (λ count count_is.
    bind_same _ _ _ _ (field_piece (checkpoint_of version) 25 count held bytes (is.checkpoint count version stands version_is count_is)) (λ account account_is. refl))))

-- ---- a link

abbrev pub at_front : FileFront → FileFront
at_front front = record front { gate = 0 }

pub next_held : (front : FileFront) (held : ℕ) (bytes : List ℕ) → LinkHeld held bytes → next_front (at_front front) (take held bytes) ≡ next_front (at_front front) bytes
unfolding next_front
next_held front held bytes is = bind_same _ _ _ _ (field_piece is_open_of 0 1 held bytes (early 5 1 held bytes (omega arith) is.gate)) by_gate
  where
    on : List ℕ → Bool → Result (Option FileFront) ℕ
    on from is_open = if is_open then (front_behind_link (at_front front) from >>= λ next. Ok (Some next)) else Ok None

    by_gate : (is_open : Bool) → field is_open_of 0 1 bytes ≡ Ok is_open → on (take held bytes) is_open ≡ on bytes is_open
    by_gate false open_is = refl
    by_gate true open_is =
        bind_same _ _ _ _ (bind_same _ _ _ _ (field_piece (number_of 4) 1 4 held bytes (early 5 5 held bytes (omega arith) is.gate)) (λ count count_is.
        bind_same _ _ _ _ (field_piece (entries_by front.version front.account) 5 count held bytes (is.payload count open_is count_is)) (λ entries entries_is. refl)))
        (λ next next_is. refl)

-- ---- a file from an offset on

abbrev pub err_behind : {A : Type 0} → ℕ → Result A ℕ → Result A ℕ
err_behind before (Ok x) = Ok x
err_behind before (Err place) = Err (before + place)

abbrev pub behind : ℕ → FileFront → FileFront
behind before front = record front { gate = before + front.gate }

abbrev pub front_behind : ℕ → Result FileFront ℕ → Result FileFront ℕ
front_behind before (Ok front) = Ok (behind before front)
front_behind before (Err place) = Err (before + place)

abbrev pub next_behind : ℕ → Result (Option FileFront) ℕ → Result (Option FileFront) ℕ
next_behind before (Ok None) = Ok None
next_behind before (Ok (Some front)) = Ok (Some (behind before front))
next_behind before (Err place) = Err (before + place)

made_behind : {A : Type 0} (before place at : ℕ) (o : Option A) → at ≡ before + place → some_or at o ≡ err_behind before (some_or place o)
made_behind {A} before place at None is = ap (λ (n : ℕ). Err n) is
made_behind before place at (Some x) is = refl

field_behind : {A : Type 0} (make : List ℕ → Option A) (before place count at : ℕ) (bytes : List ℕ) → at ≡ before + place → before ≤ length bytes → field make at count bytes ≡ err_behind before (field make place count (drop before bytes))
field_behind {A} make before place count at bytes is within =
    let rest : length (drop before bytes) ≡ length bytes - before = length-drop before bytes in
    elim (cases_lt (length bytes) (at + count)) [
      | inl cut ↦ field_cut make at count bytes cut ∙ (made_behind before place at None is ∙ sym (ap (λ (r : Result A ℕ). err_behind before r) (field_cut make place count (drop before bytes) (omega arith))))
      | inr there ↦ (let same : drop place (drop before bytes) ≡ drop at bytes = drop-drop place before bytes ∙ ap (λ (n : ℕ). drop n bytes) (omega arith) in
          let piece = take count (drop at bytes) in
          field_made_of make at count bytes piece (make piece) (part_within at count bytes there) refl
          ∙ (made_behind before place at (make piece) is
          ∙ sym (ap (λ (r : Result A ℕ). err_behind before r)
          (field_made_of make place count (drop before bytes) (take count (drop place (drop before bytes))) (make piece) (part_within place count (drop before bytes) (omega arith)) (ap (λ (l : List ℕ). make (take count l)) same)))))
    ]

bind_front : {A : Type 0} (before : ℕ) (r s : Result A ℕ) (f g : A → Result FileFront ℕ) → r ≡ err_behind before s → ((x : A) → f x ≡ front_behind before (g x)) → (r >>= f) ≡ front_behind before (s >>= g)
bind_front {A} before r (Ok x) f g same each = ap (λ (q : Result A ℕ). q >>= f) same ∙ each x
bind_front {A} before r (Err place) f g same each = ap (λ (q : Result A ℕ). q >>= f) same

bind_next : {A : Type 0} (before : ℕ) (r s : Result A ℕ) (f g : A → Result (Option FileFront) ℕ) → r ≡ err_behind before s → ((x : A) → f x ≡ next_behind before (g x)) → (r >>= f) ≡ next_behind before (s >>= g)
bind_next {A} before r (Ok x) f g same each = ap (λ (q : Result A ℕ). q >>= f) same ∙ each x
bind_next {A} before r (Err place) f g same each = ap (λ (q : Result A ℕ). q >>= f) same

some_behind : (before : ℕ) (r s : Result FileFront ℕ) → r ≡ front_behind before s → (r >>= λ next. Ok (Some next)) ≡ next_behind before (s >>= λ next. Ok (Some next))
some_behind before r (Ok front) same = ap (λ (q : Result FileFront ℕ). q >>= λ next. Ok (Some next)) same
some_behind before r (Err place) same = ap (λ (q : Result FileFront ℕ). q >>= λ next. Ok (Some next)) same

link_behind : (front : FileFront) (bytes : List ℕ) → front.gate ≤ length bytes → front_behind_link front bytes ≡ front_behind front.gate (front_behind_link (at_front front) (drop front.gate bytes))
link_behind front bytes within =
    bind_front front.gate _ _ _ _ (field_behind (number_of 4) front.gate 1 4 (front.gate + 1) bytes refl within) (λ count.
    bind_front front.gate _ _ _ _ (field_behind (entries_by front.version front.account) front.gate 5 count (front.gate + 5) bytes refl within) (λ entries.
    ap (λ (n : ℕ). Ok (record (with_link front count entries) { gate = n })) (omega arith)))

pub next_from : (front : FileFront) (bytes : List ℕ) → front.gate ≤ length bytes → next_front front bytes ≡ next_behind front.gate (next_front (at_front front) (drop front.gate bytes))
unfolding next_front
next_from front bytes within = bind_next front.gate _ _ _ _ (field_behind is_open_of front.gate 0 1 front.gate bytes (omega arith) within) by_gate
  where
    on : FileFront → List ℕ → Bool → Result (Option FileFront) ℕ
    on from list is_open = if is_open then (front_behind_link from list >>= λ next. Ok (Some next)) else Ok None

    by_gate : (is_open : Bool) → on front bytes is_open ≡ next_behind front.gate (on (at_front front) (drop front.gate bytes) is_open)
    by_gate false = refl
    by_gate true = some_behind front.gate (front_behind_link front bytes) (front_behind_link (at_front front) (drop front.gate bytes)) (link_behind front bytes within)

-- ---- the damage's offset isn't far after the gate

field_err : {A : Type 0} (make : List ℕ → Option A) (place count at : ℕ) (bytes : List ℕ) → field make place count bytes ≡ Err at → at ≡ place
unfolding field
field_err {A} make place count at bytes e = by (option_and_then make (part place count bytes)) e
  where
    by : (o : Option A) → some_or place o ≡ Err at → at ≡ place
    by None e = cc
    by (Some x) e = absurd cc

bind_near : {A B : Type 0} (most : ℕ) (r : Result A ℕ) (f : A → Result B ℕ) (at : ℕ) → ((place : ℕ) → r ≡ Err place → place ≤ most) → ((x : A) → f x ≡ Err at → at ≤ most) → (r >>= f) ≡ Err at → at ≤ most
bind_near most (Ok x) f at first rest e = rest x e
bind_near {A} {B} most (Err place) f at first rest e = (let same : place ≡ at = cc in subst (λ (n : ℕ). n ≤ most) same (first place refl))

near : {A : Type 0} (make : List ℕ → Option A) (place count most : ℕ) (bytes : List ℕ) → place ≤ most → (at : ℕ) → field make place count bytes ≡ Err at → at ≤ most
near make place count most bytes few at e = (let is : at ≡ place = field_err make place count at bytes e in omega arith)

pub damage_near : (front : FileFront) (bytes : List ℕ) (at : ℕ) → next_front (at_front front) bytes ≡ Err at → at ≤ 5
unfolding next_front
damage_near front bytes at e = bind_near 5 _ _ at (near is_open_of 0 1 5 bytes (omega arith)) by_gate e
  where
    no_err : {A : Type 0} (x : A) → ◌≡◌ {A = Result A ℕ} (Ok x) (Err at) → at ≤ 5
    no_err x e = absurd cc

    by_gate : (is_open : Bool) → (if is_open then (front_behind_link (at_front front) bytes >>= λ next. Ok (Some next)) else Ok None) ≡ Err at → at ≤ 5
    by_gate false e = absurd cc
    by_gate true e =
        bind_near 5 (front_behind_link (at_front front) bytes) (λ next. Ok (Some next)) at
        (λ place broken. bind_near 5 _ _ place (near (number_of 4) 1 4 5 bytes (omega arith)) (λ count counted.
        bind_near 5 _ _ place (near (entries_by front.version front.account) 5 count 5 bytes (omega arith)) (λ entries ok. absurd cc) counted) broken)
        (λ next ok. absurd cc) e
