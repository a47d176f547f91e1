-- Joined lists of disk calls, and the model after them.
use Rattle.std.proofs.Common.{◌∙◌, List, [], ◌∷◌, ◌++◌, Option, None, Some, refl, sym, ap, subst, inl, inr, append_assoc}
use Rattle.std.specs.Prelude.{All, Any, IfSome}
use Rattle.std.proofs.lemmas.List.{append-nil}
use Rattle.std.proofs.lemmas.List.Elements.{All-append, All-cons, All-nil, Contains-append_left, Contains-append_right}
use Rattle.board_core.specs.declared.board.DiskCall.{DiskCall}
use Rattle.board_core.specs.declared.board.FileNo.TheVariants.{Zero, One}
use Rattle.board_core.specs.Stop.{Left}
use Rattle.board_core.specs.Told.{Told, Steps, Relates, MayList, with_call}
use Rattle.ras_recover.specs.DiskCalls.{Calls, IsReading, Makes, ReadsPlace, with_calls}
use Rattle.ras_recover.specs.OpeningCalls.{ReadsBoth}

-- ---- over a modelled board

pub relates_then : (R S Q : Told → Told → Type 0) → ((x y z : Told) → R x y → S y z → Q x z) → (a b c : Option Told) → Relates R a b → Relates S b c → Relates Q a c
relates_then R S Q joins None b c first second = subst (λ (o : Option Told). Relates S o c) first second
relates_then R S Q joins (Some x) None c first second = absurd first
relates_then R S Q joins (Some x) (Some y) None first second = second
relates_then R S Q joins (Some x) (Some y) (Some z) first second = joins x y z first second

pub relates_weaker : (R Q : Told → Told → Type 0) → ((x y : Told) → R x y → Q x y) → (a b : Option Told) → Relates R a b → Relates Q a b
relates_weaker R Q weaker None b is = is
relates_weaker R Q weaker (Some x) None is = is
relates_weaker R Q weaker (Some x) (Some y) is = weaker x y is

pub relates_both : (R S : Told → Told → Type 0) (a b : Option Told) → Relates R a b → Relates S a b → Relates (λ x y. R x y × S x y) a b
relates_both R S None b one other = one
relates_both R S (Some x) None one other = one
relates_both R S (Some x) (Some y) one other = (one, other)

pub relates_if : (P : Told → Type 0) (R : Told → Told → Type 0) (a b : Option Told) → IfSome a P → Relates R a b → Relates (λ x y. P x × R x y) a b
relates_if P R None b holds is = is
relates_if P R (Some x) None holds is = is
relates_if P R (Some x) (Some y) holds is = (holds, is)

pub relates_same : (R : Told → Told → Type 0) → ((x : Told) → R x x) → (a : Option Told) → Relates R a a
relates_same R same None = refl
relates_same R same (Some x) = same x

pub relates_steps : (R : Told → Told → Type 0) (step : Told → Told) → ((x : Told) → R x (step x)) → (a b : Option Told) → Steps step a b → Relates R a b
relates_steps R step each None b is = is
relates_steps R step each (Some x) b is = subst (Relates R (Some x)) (sym is) (each x)

-- ---- calls that change nothing else

pub nothing_called : (Are : List DiskCall → Type 0) → Are [] → (x : Told) → Calls Are x x
nothing_called Are none x = record { made = []; is = ap (λ (l : List DiskCall). record x { disk_calls = l }) (sym (append-nil x.disk_calls)); are = none }

pub calls_then : (P Q R : List DiskCall → Type 0) → ((xs ys : List DiskCall) → P xs → Q ys → R (xs ++ ys)) → (x y z : Told) → Calls P x y → Calls Q y z → Calls R x z
calls_then P Q R joins x y z first second = record {
  made = first.made ++ second.made;
  is = second.is
      ∙ (ap (λ (t : Told). with_calls second.made t) first.is ∙ ap (λ (l : List DiskCall). record x { disk_calls = l }) (append_assoc x.disk_calls first.made second.made));
  are = joins first.made second.made first.are second.are;
}

pub calls_weaker : (P Q : List DiskCall → Type 0) → ((xs : List DiskCall) → P xs → Q xs) → (x y : Told) → Calls P x y → Calls Q x y
calls_weaker P Q weaker x y calls = record { made = calls.made; is = calls.is; are = weaker calls.made calls.are }

called_once : (Are : List DiskCall → Type 0) (call : DiskCall) → Are (call ∷ []) → (x : Told) → Calls Are x (with_call call x)
called_once Are call one x = record { made = call ∷ []; is = refl; are = one }

listed_or_not : (Are : List DiskCall → Type 0) (call : DiskCall) → Are [] → Are (call ∷ []) → (x y : Told) → MayList call x y → Calls Are x y
listed_or_not Are call none one x y (inl same) = subst (λ (t : Told). Calls Are x t) (sym same) (nothing_called Are none x)
listed_or_not Are call none one x y (inr listed) = subst (λ (t : Told). Calls Are x t) (sym listed) (called_once Are call one x)

-- A call was made and succeeded.
pub call_done : (Are : List DiskCall → Type 0) (call : DiskCall) → Are (call ∷ []) → (a b : Option Told) → Steps (with_call call) a b → Relates (Calls Are) a b
call_done Are call one a b told = relates_steps (Calls Are) (with_call call) (called_once Are call one) a b told

-- a call failed
pub call_failed : (Are : List DiskCall → Type 0) (call : DiskCall) → Are [] → Are (call ∷ []) → (a b : Option Told) → Relates (MayList call) a b → Relates (Calls Are) a b
call_failed Are call none one a b failed = relates_weaker (MayList call) (Calls Are) (listed_or_not Are call none one) a b failed

pub calls_seen : (P Q : List DiskCall → Type 0) → ((xs : List DiskCall) → P xs → Q xs) → (a b : Option Told) → Relates (Calls P) a b → Relates (Calls Q) a b
calls_seen P Q weaker a b calls = relates_weaker (Calls P) (Calls Q) (calls_weaker P Q weaker) a b calls

pub none_called : (Are : List DiskCall → Type 0) → Are [] → (a : Option Told) → Relates (Calls Are) a a
none_called Are none a = relates_same (Calls Are) (nothing_called Are none) a

-- ---- reads

pub one_reads : (call : DiskCall) → IsReading call → All IsReading (call ∷ [])
one_reads call reads = All-cons IsReading call [] reads (All-nil IsReading)

pub both_read_alone : (xs ys : List DiskCall) → All IsReading xs → All IsReading ys → All IsReading (xs ++ ys)
both_read_alone xs ys first second = All-append IsReading xs ys first second

pub any_left : (P : DiskCall → Type 0) (xs ys : List DiskCall) → Any P xs → Any P (xs ++ ys)
any_left P xs ys (k, call, within, at, holds) =
    let there = Contains-append_left xs ys call (k, within, at) in
    (there.0, call, there.1, there.2, holds)

pub any_right : (P : DiskCall → Type 0) (xs ys : List DiskCall) → Any P ys → Any P (xs ++ ys)
any_right P xs ys (k, call, within, at, holds) =
    let there = Contains-append_right xs ys call (k, within, at) in
    (there.0, call, there.1, there.2, holds)

-- ---- lists that only grow at their end

pub makes_more : (P Q R : List DiskCall → Type 0) → ((xs ys : List DiskCall) → P xs → Q ys → R (xs ++ ys)) → (x y z : Told) → Makes P x y → Makes Q y z → Makes R x z
makes_more P Q R joins x y z first second = record {
  made = first.made ++ second.made;
  listed = second.listed ∙ (ap (λ (l : List DiskCall). l ++ second.made) first.listed ∙ append_assoc x.disk_calls first.made second.made);
  are = joins first.made second.made first.are second.are;
}

pub makes_calls : (P : List DiskCall → Type 0) (x y : Told) → Calls P x y → Makes P x y
makes_calls P x y calls = record { made = calls.made; listed = ap (λ (t : Told). t.disk_calls) calls.is; are = calls.are }

pub makes_weaker : (P Q : List DiskCall → Type 0) → ((xs : List DiskCall) → P xs → Q xs) → (x y : Told) → Makes P x y → Makes Q x y
makes_weaker P Q weaker x y makes = record { made = makes.made; listed = makes.listed; are = weaker makes.made makes.are }

-- ---- what was read of both files

-- If both files were read, they are also read after other calls.
pub both_later : (here : Left) (xs ys : List DiskCall) → ReadsBoth here ys → ReadsBoth here (xs ++ ys)
both_later here xs ys reads = record {
  zero = λ taken front place stands early. any_right (ReadsPlace Zero place) xs ys (reads.zero taken front place stands early);
  one = λ taken front place stands early. any_right (ReadsPlace One place) xs ys (reads.one taken front place stands early);
}
