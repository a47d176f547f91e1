-- How the fronts of a file follow each other, and which bytes of a file decide them.
use Rattle.std.proofs.Common.{◌≡◌, ◌∙◌, ℕ, zero, suc, ◌+◌, ◌≤◌, ◌<◌, List, [], ◌++◌, length, take, Option, None, Some, Result, Ok, Err, refl, sym, ap, arith}
use Rattle.std.proofs.lemmas.List.Sums.{fold-append}
use Rattle.std.specs.Prelude.{Bool, true, false, if◌then◌else◌}
use Rattle.ras_base.specs.Chaining.{◌>>=◌}
use Rattle.ras_facts.specs.declared.entry.Entry.{Entry}
use Rattle.ras_account.specs.Account.{State}
use Rattle.ras_account.specs.Continued.{account_after, account_after_all}
use Rattle.journal_format.specs.CheckpointReading.{checkpoint_of}
use Rattle.ras_journal.specs.Fields.{field, version_of, number_of, generation_of, is_open_of, entries_by}
use Rattle.ras_journal.specs.File.{FileFront, has_open_gate, first_front, with_link, front_behind_link, next_front, whole_front, front_of}
use Rattle.ras_journal.proofs.PartLemmas.{bind_ok, bind_of, bind_err, same_ok, reaches, field_same, field_within, field_cut}

-- ---- the first front

pub record FirstFront (taken : Option ℕ) (file : List ℕ) (front : FileFront) : Type 0 where
  pub count : ℕ
  pub magic : field version_of 1 8 file ≡ Ok front.version
  pub generation : field (generation_of taken) 9 8 file ≡ Ok front.generation
  pub size : field (number_of 8) 17 8 file ≡ Ok count
  pub checkpoint : field (checkpoint_of front.version) 25 count file ≡ Ok front.account
  pub gate : front.gate ≡ 25 + count
  pub links : front.links ≡ 0

pub first_parts : (taken : Option ℕ) (file : List ℕ) (front : FileFront) → first_front taken file ≡ Ok front → FirstFront taken file front
unfolding first_front
first_parts taken file front e =
    let v = bind_ok (field version_of 1 8 file) _ front e in
    let g = bind_ok (field (generation_of taken) 9 8 file) _ front v.2 in
    let n = bind_ok (field (number_of 8) 17 8 file) _ front g.2 in
    let a = bind_ok (field (checkpoint_of v.0) 25 n.0 file) _ front n.2 in
    let is : record { version = v.0; generation = g.0; gate = 25 + n.0; links = 0; account = a.0 } ≡ front = same_ok _ _ a.2 in
    record {
      count = n.0;
      magic = v.1 ∙ ap (λ (f : FileFront). Ok f.version) is;
      generation = g.1 ∙ ap (λ (f : FileFront). Ok f.generation) is;
      size = n.1;
      checkpoint = ap (λ (f : FileFront). field (checkpoint_of f.version) 25 n.0 file) (sym is) ∙ (a.1 ∙ ap (λ (f : FileFront). Ok f.account) is);
      gate = ap (λ (f : FileFront). f.gate) (sym is);
      links = ap (λ (f : FileFront). f.links) (sym is);
    }

pub first_whole : (taken : Option ℕ) (file : List ℕ) (front : FileFront) → FirstFront taken file front → first_front taken file ≡ Ok front
unfolding first_front
first_whole taken file front f =
    bind_of _ _ _ f.magic ∙ (bind_of _ _ _ f.generation ∙ (bind_of _ _ _ f.size ∙ (bind_of _ _ _ f.checkpoint ∙ last)))
  where
    last : ◌≡◌ {A = Result FileFront ℕ} (Ok (record { version = front.version; generation = front.generation; gate = 25 + f.count; links = 0; account = front.account })) (Ok front)
    last = ap (λ (g : ℕ). Ok (record { version = front.version; generation = front.generation; gate = g; links = 0; account = front.account })) (sym f.gate)
        ∙ ap (λ (n : ℕ). Ok (record { version = front.version; generation = front.generation; gate = front.gate; links = n; account = front.account })) (sym f.links)

pub first_within : (taken : Option ℕ) (file : List ℕ) (front : FileFront) → first_front taken file ≡ Ok front → (25 ≤ front.gate) × (front.gate ≤ length file)
first_within taken file front e =
    let f = first_parts taken file front e in
    let within : 25 + f.count ≤ length file = field_within (checkpoint_of front.version) 25 f.count file front.account f.checkpoint in
    let gate : front.gate ≡ 25 + f.count = f.gate in
    (omega arith, omega arith)

-- Bytes from the front's gate on don't matter.
pub first_same : (taken : Option ℕ) (gate : ℕ) (one other : List ℕ) (front : FileFront) → first_front taken other ≡ Ok front → take gate one ≡ take gate other → gate ≤ length other → front.gate ≤ gate
    → first_front taken one ≡ Ok front
first_same taken gate one other front e same long within =
    let f = first_parts taken other front e in
    let place : front.gate ≡ 25 + f.count = f.gate in
    first_whole taken one front (record {
      count = f.count;
      magic = field_same version_of gate 1 8 one other same long (omega arith) ∙ f.magic;
      generation = field_same (generation_of taken) gate 9 8 one other same long (omega arith) ∙ f.generation;
      size = field_same (number_of 8) gate 17 8 one other same long (omega arith) ∙ f.size;
      checkpoint = field_same (checkpoint_of front.version) gate 25 f.count one other same long (omega arith) ∙ f.checkpoint;
      gate = f.gate;
      links = f.links;
    })

-- ---- the next front

-- The gate is open, and after it is a link whose entries can continue the account.
pub record NextFront (file : List ℕ) (front next : FileFront) : Type 0 where
  pub count : ℕ
  pub entries : List Entry
  pub gate : field is_open_of front.gate 1 file ≡ Ok true
  pub size : field (number_of 4) (front.gate + 1) 4 file ≡ Ok count
  pub payload : field (entries_by front.version front.account) (front.gate + 5) count file ≡ Ok entries
  pub is : next ≡ with_link front count entries

abbrev pub some_front : FileFront → Result (Option FileFront) ℕ
some_front front = Ok (Some front)

open_parts : (b : Bool) (r : Result FileFront ℕ) (next : FileFront) → ◌≡◌ {A = Result (Option FileFront) ℕ} (if b then (r >>= λ n. Ok (Some n)) else Ok None) (Ok (Some next)) → (b ≡ true) × (r ≡ Ok next)
open_parts true r next e =
    let x = bind_ok r (some_front) (Some next) e in
    let same : x.0 ≡ next = some_is x.0 next x.2 in
    (refl, x.1 ∙ ap (λ (f : FileFront). Ok f) same)
  where
    some_is : (one other : FileFront) → ◌≡◌ {A = Result (Option FileFront) ℕ} (Ok (Some one)) (Ok (Some other)) → one ≡ other
    some_is one other same = cc
open_parts false r next e = absurd cc

shut_parts : (b : Bool) (r : Result FileFront ℕ) → ◌≡◌ {A = Result (Option FileFront) ℕ} (if b then (r >>= λ n. Ok (Some n)) else Ok None) (Ok None) → b ≡ false
shut_parts true r e =
    let x = bind_ok r (some_front) None e in
    absurd (no_front x.0 x.2)
  where
    no_front : (one : FileFront) → ◌≡◌ {A = Result (Option FileFront) ℕ} (Ok (Some one)) (Ok None) → ⊥
    no_front one same = cc
shut_parts false r e = refl

pub next_parts : (front next : FileFront) (file : List ℕ) → next_front front file ≡ Ok (Some next) → NextFront file front next
unfolding next_front
next_parts front next file e =
    let o = bind_ok (field is_open_of front.gate 1 file) _ (Some next) e in
    let x = open_parts o.0 (front_behind_link front file) next o.2 in
    let n = bind_ok (field (number_of 4) (front.gate + 1) 4 file) _ next x.1 in
    let p = bind_ok (field (entries_by front.version front.account) (front.gate + 5) n.0 file) _ next n.2 in
    record {
      count = n.0;
      entries = p.0;
      gate = o.1 ∙ ap (λ (b : Bool). Ok b) x.0;
      size = n.1;
      payload = p.1;
      is = sym (same_ok _ _ p.2);
    }

pub next_whole : (front next : FileFront) (file : List ℕ) → NextFront file front next → next_front front file ≡ Ok (Some next)
unfolding next_front
next_whole front next file n =
    bind_of _ _ _ n.gate ∙ (bind_of (front_behind_link front file) _ _ behind ∙ refl)
  where
    behind : front_behind_link front file ≡ Ok next
    behind = bind_of _ _ _ n.size ∙ (bind_of _ _ _ n.payload ∙ ap (λ (f : FileFront). Ok f) (sym n.is))

pub closed_parts : (front : FileFront) (file : List ℕ) → next_front front file ≡ Ok None → field is_open_of front.gate 1 file ≡ Ok false
unfolding next_front
closed_parts front file e =
    let o = bind_ok (field is_open_of front.gate 1 file) _ None e in
    o.1 ∙ ap (λ (b : Bool). Ok b) (shut_parts o.0 (front_behind_link front file) o.2)

pub closed_whole : (front : FileFront) (file : List ℕ) → field is_open_of front.gate 1 file ≡ Ok false → next_front front file ≡ Ok None
unfolding next_front
closed_whole front file gate = bind_of _ _ _ gate

pub next_within : (front next : FileFront) (file : List ℕ) → next_front front file ≡ Ok (Some next) → (front.gate + 5 ≤ next.gate) × (next.gate ≤ length file)
next_within front next file e =
    let n = next_parts front next file e in
    let within : front.gate + 5 + n.count ≤ length file = field_within (entries_by front.version front.account) (front.gate + 5) n.count file n.entries n.payload in
    let place : next.gate ≡ front.gate + 5 + n.count = ap (λ (f : FileFront). f.gate) n.is in
    (omega arith, omega arith)

pub next_same : (gate : ℕ) (one other : List ℕ) (front next : FileFront) → next_front front other ≡ Ok (Some next) → take gate one ≡ take gate other → gate ≤ length other → next.gate ≤ gate
    → next_front front one ≡ Ok (Some next)
next_same gate one other front next e same long within =
    let n = next_parts front next other e in
    let place : next.gate ≡ front.gate + 5 + n.count = ap (λ (f : FileFront). f.gate) n.is in
    next_whole front next one (record {
      count = n.count;
      entries = n.entries;
      gate = field_same is_open_of gate front.gate 1 one other same long (omega arith) ∙ n.gate;
      size = field_same (number_of 4) gate (front.gate + 1) 4 one other same long (omega arith) ∙ n.size;
      payload = field_same (entries_by front.version front.account) gate (front.gate + 5) n.count one other same long (omega arith) ∙ n.payload;
      is = n.is;
    })

-- ---- the whole front

-- A walk that ended, ended at a closed gate within the file, at or after its start.
pub record Ended (file : List ℕ) (first whole : FileFront) : Type 0 where
  pub closed : next_front whole file ≡ Ok None
  pub within : whole.gate < length file
  pub later : first.gate ≤ whole.gate
  pub links : whole.links + first.gate ≤ whole.gate + first.links

gate_within : (front : FileFront) (file : List ℕ) → next_front front file ≡ Ok None → front.gate < length file
gate_within front file e =
    let within : front.gate + 1 ≤ length file = field_within is_open_of front.gate 1 file false (closed_parts front file e) in omega arith

pub walk_ended : (most : ℕ) (front whole : FileFront) (file : List ℕ) → whole_front most front file ≡ Ok whole → Ended file front whole
unfolding whole_front
walk_ended zero front whole file e = absurd cc
walk_ended (suc most) front whole file e = by (λ longer rest. walk_ended most longer whole file rest) (next_front front file) refl e
  where
    on : Result (Option FileFront) ℕ → Result FileFront ℕ
    on r = r >>= λ next. elim next [ None ↦ Ok front | Some longer ↦ whole_front most longer file ]

    by : ((longer : FileFront) → whole_front most longer file ≡ Ok whole → Ended file longer whole) → (r : Result (Option FileFront) ℕ) → next_front front file ≡ r → on r ≡ Ok whole → Ended file front whole
    by rest_of (Err place) is e = absurd cc
    by rest_of (Ok None) is e =
        let same : front ≡ whole = same_ok front whole e in
        let closed : next_front whole file ≡ Ok None = ap (λ (f : FileFront). next_front f file) (sym same) ∙ is in
        let gates : front.gate ≡ whole.gate = ap (λ (f : FileFront). f.gate) same in
        let links : front.links ≡ whole.links = ap (λ (f : FileFront). f.links) same in
        record { closed = closed; within = gate_within whole file closed; later = omega arith; links = omega arith }
    by rest_of (Ok (Some longer)) is e =
        let rest = rest_of longer e in
        let step = next_within front longer file is in
        let n = next_parts front longer file is in
        let links : longer.links ≡ front.links + 1 = ap (λ (f : FileFront). f.links) n.is in
        let later : longer.gate ≤ whole.gate = rest.later in
        let counted : whole.links + longer.gate ≤ whole.gate + longer.links = rest.links in
        let behind : front.gate + 5 ≤ longer.gate = step.0 in
        record { closed = rest.closed; within = rest.within; later = omega arith; links = omega arith }

-- The walk along another file with the same beginning continues from there.
pub record GoesOn (file : List ℕ) (most : ℕ) (first whole : FileFront) : Type 0 where
  pub left : ℕ
  pub enough : length file ≤ left + whole.gate
  pub on : whole_front most first file ≡ whole_front left whole file

-- one step of such a walk, if the rest continues
step_on : (whole : FileFront) (one : List ℕ) (front longer : FileFront) → ((most : ℕ) → length one ≤ most + longer.gate → GoesOn one most longer whole) → (most : ℕ) → length one ≤ most + front.gate → next_front front one ≡ Ok (Some longer)
    → front.gate + 5 ≤ longer.gate → whole.gate ≤ length one → longer.gate ≤ whole.gate → GoesOn one most front whole
unfolding whole_front
step_on whole one front longer goes zero enough here behind reaching later = absurd (omega arith)
step_on whole one front longer goes (suc most) enough here behind reaching later =
    let rest = goes most (omega arith) in
    record { left = rest.left; enough = rest.enough; on = bind_of (next_front front one) _ (Some longer) here ∙ rest.on }

pub walk_same : (steps : ℕ) (front whole : FileFront) (one other : List ℕ) → whole_front steps front other ≡ Ok whole → take whole.gate one ≡ take whole.gate other
    → (most : ℕ) → length one ≤ most + front.gate → GoesOn one most front whole
unfolding whole_front
walk_same zero front whole one other e same most enough = absurd cc
walk_same (suc steps) front whole one other e same most enough = by (λ longer rest k c. walk_same steps longer whole one other rest same k c) (next_front front other) refl e
  where
    on : Result (Option FileFront) ℕ → Result FileFront ℕ
    on r = r >>= λ next. elim next [ None ↦ Ok front | Some longer ↦ whole_front steps longer other ]

    by : ((longer : FileFront) → whole_front steps longer other ≡ Ok whole → (k : ℕ) → length one ≤ k + longer.gate → GoesOn one k longer whole) → (r : Result (Option FileFront) ℕ) → next_front front other ≡ r → on r ≡ Ok whole → GoesOn one most front whole
    by rest_of (Err place) is e = absurd cc
    by rest_of (Ok None) is e =
        let begins : front ≡ whole = same_ok front whole e in
        let gates : front.gate ≡ whole.gate = ap (λ (f : FileFront). f.gate) begins in
        record { left = most; enough = omega arith; on = ap (λ (f : FileFront). whole_front most f one) begins }
    by rest_of (Ok (Some longer)) is e =
        let ended = walk_ended steps longer whole other e in
        let step = next_within front longer other is in
        let within : whole.gate < length other = ended.within in
        let later : longer.gate ≤ whole.gate = ended.later in
        let behind : front.gate + 5 ≤ longer.gate = step.0 in
        let reaching : whole.gate ≤ length one = reaches whole.gate one other same (omega arith) in
        let here : next_front front one ≡ Ok (Some longer) = next_same whole.gate one other front longer is same (omega arith) later in
        step_on whole one front longer (rest_of longer e) most enough here behind reaching later

-- ---- the front of a file

pub ends_closed : (most : ℕ) (front : FileFront) (file : List ℕ) → next_front front file ≡ Ok None → length file ≤ most + front.gate → whole_front most front file ≡ Ok front
unfolding whole_front
ends_closed zero front file closed enough = absurd (let within : front.gate < length file = gate_within front file closed in omega arith)
ends_closed (suc most) front file closed enough = bind_of (next_front front file) _ None closed

pub ends_behind : (most : ℕ) (front next : FileFront) (file : List ℕ) → next_front front file ≡ Ok (Some next) → next_front next file ≡ Ok None → length file ≤ most + front.gate → whole_front most front file ≡ Ok next
unfolding whole_front
ends_behind zero front next file is closed enough = absurd (let step = next_within front next file is in let a : front.gate + 5 ≤ next.gate = step.0 in let b : next.gate ≤ length file = step.1 in omega arith)
ends_behind (suc most) front next file is closed enough =
    let step = next_within front next file is in
    let behind : front.gate + 5 ≤ next.gate = step.0 in
    bind_of (next_front front file) _ (Some next) is ∙ ends_closed most next file closed (omega arith)

-- The bytes after the gate are damaged.
pub ends_broken : (most : ℕ) (front : FileFront) (file : List ℕ) (place : ℕ) → next_front front file ≡ Err place → front.gate < length file → length file ≤ most + front.gate → whole_front most front file ≡ Err place
unfolding whole_front
ends_broken zero front file place broken more enough = absurd (omega arith)
ends_broken (suc most) front file place broken more enough = bind_err (next_front front file) _ place broken

-- The file ends at the gate's offset.
pub gate_cut : (front : FileFront) (file : List ℕ) → length file ≡ front.gate → next_front front file ≡ Err front.gate
unfolding next_front
gate_cut front file ends = bind_err (field is_open_of front.gate 1 file) _ front.gate (field_cut is_open_of front.gate 1 file (omega arith))

cut_at_gate : (most : ℕ) (front : FileFront) (file : List ℕ) → length file ≡ front.gate → whole_front most front file ≡ Err front.gate
unfolding whole_front
cut_at_gate zero front file ends = refl
cut_at_gate (suc most) front file ends = bind_err (next_front front file) _ front.gate (gate_cut front file ends)

pub ends_at_gate : (most : ℕ) (front next : FileFront) (file : List ℕ) → next_front front file ≡ Ok (Some next) → length file ≡ next.gate → length file ≤ most + front.gate → whole_front most front file ≡ Err next.gate
unfolding whole_front
ends_at_gate zero front next file is ends enough = absurd (let step = next_within front next file is in let behind : front.gate + 5 ≤ next.gate = step.0 in omega arith)
ends_at_gate (suc most) front next file is ends enough = bind_of (next_front front file) _ (Some next) is ∙ cut_at_gate most next file ends

-- A link follows the gate, or the walk ends there. The rest of the walk continues the account.
pub record Continues (from to : FileFront) : Type 0 where
  pub more : List Entry
  pub account : to.account ≡ account_after_all from.account more
  pub generation : to.generation ≡ from.generation

pub walk_continues : (most : ℕ) (front whole : FileFront) (file : List ℕ) → whole_front most front file ≡ Ok whole → Continues front whole
unfolding whole_front
walk_continues zero front whole file e = absurd cc
walk_continues (suc most) front whole file e = by (λ longer rest. walk_continues most longer whole file rest) (next_front front file) refl e
  where
    on : Result (Option FileFront) ℕ → Result FileFront ℕ
    on r = r >>= λ next. elim next [ None ↦ Ok front | Some longer ↦ whole_front most longer file ]

    by : ((longer : FileFront) → whole_front most longer file ≡ Ok whole → Continues longer whole) → (r : Result (Option FileFront) ℕ) → next_front front file ≡ r → on r ≡ Ok whole → Continues front whole
    by rest_of (Err place) is e = absurd cc
    by rest_of (Ok None) is e = record {
      more = [];
      account = sym (ap (λ (f : FileFront). f.account) (same_ok front whole e));
      generation = sym (ap (λ (f : FileFront). f.generation) (same_ok front whole e));
    }
    by rest_of (Ok (Some longer)) is e =
        let rest = rest_of longer e in
        let n = next_parts front longer file is in
        let here : longer.account ≡ account_after_all front.account n.entries = ap (λ (f : FileFront). f.account) n.is in
        record {
          more = n.entries ++ rest.more;
          account = rest.account ∙ (ap (λ (a : State). account_after_all a rest.more) here ∙ sym (fold-append account_after front.account n.entries rest.more));
          generation = rest.generation ∙ ap (λ (f : FileFront). f.generation) n.is;
        }

-- a walk past an open gate
pub record Past (file : List ℕ) (front whole : FileFront) : Type 0 where
  pub next : FileFront
  pub step : next_front front file ≡ Ok (Some next)
  pub on : Continues next whole

pub walks_past : (most : ℕ) (front whole : FileFront) (file : List ℕ) → field is_open_of front.gate 1 file ≡ Ok true → whole_front most front file ≡ Ok whole → Past file front whole
unfolding whole_front
walks_past zero front whole file gate e = absurd cc
walks_past (suc most) front whole file gate e = by (next_front front file) refl e
  where
    on : Result (Option FileFront) ℕ → Result FileFront ℕ
    on r = r >>= λ next. elim next [ None ↦ Ok front | Some longer ↦ whole_front most longer file ]

    not_closed : ◌≡◌ {A = Result Bool ℕ} (Ok true) (Ok false) → ⊥
    not_closed e = cc

    by : (r : Result (Option FileFront) ℕ) → next_front front file ≡ r → on r ≡ Ok whole → Past file front whole
    by (Err place) is e = absurd cc
    by (Ok None) is e = absurd (not_closed (sym gate ∙ closed_parts front file is))
    by (Ok (Some longer)) is e = record { next = longer; step = is; on = walk_continues most longer whole file e }

-- A valid file was read to its closed gate.
pub record Stands (taken : Option ℕ) (file : List ℕ) (whole : FileFront) : Type 0 where
  pub first : FileFront
  pub open_gate : has_open_gate file ≡ true
  pub begins : first_front taken file ≡ Ok first
  pub walks : whole_front (length file) first file ≡ Ok whole

pub front_parts : (taken : Option ℕ) (file : List ℕ) (whole : FileFront) → front_of taken file ≡ Ok (Some whole) → Stands taken file whole
unfolding front_of
front_parts taken file whole e = by (has_open_gate file) refl e
  where
    walked : Result FileFront ℕ
    walked = first_front taken file >>= λ first. whole_front (length file) first file

    on : Bool → Result (Option FileFront) ℕ
    on b = if b then (first_front taken file >>= λ first. whole_front (length file) first file >>= λ w. Ok (Some w)) else Ok None

    by : (b : Bool) → has_open_gate file ≡ b → on b ≡ Ok (Some whole) → Stands taken file whole
    by false is e = absurd cc
    by true is e =
        let f = bind_ok (first_front taken file) _ (Some whole) e in
        let w = bind_ok (whole_front (length file) f.0 file) _ (Some whole) f.2 in
        let same : w.0 ≡ whole = some_same w.0 whole w.2 in
        record { first = f.0; open_gate = is; begins = f.1; walks = w.1 ∙ ap (λ (g : FileFront). Ok g) same }
      where
        some_same : (one other : FileFront) → ◌≡◌ {A = Result (Option FileFront) ℕ} (Ok (Some one)) (Ok (Some other)) → one ≡ other
        some_same one other same = cc

pub front_begun : (taken : Option ℕ) (file : List ℕ) (first : FileFront) → has_open_gate file ≡ true → first_front taken file ≡ Ok first → front_of taken file ≡ (whole_front (length file) first file >>= some_front)
unfolding front_of
front_begun taken file first is begins = rw is (bind_of _ _ _ begins)

pub front_whole : (taken : Option ℕ) (file : List ℕ) (whole : FileFront) → Stands taken file whole → front_of taken file ≡ Ok (Some whole)
unfolding front_of
front_whole taken file whole s = rw s.open_gate (bind_of _ _ _ s.begins ∙ bind_of _ _ _ s.walks)
