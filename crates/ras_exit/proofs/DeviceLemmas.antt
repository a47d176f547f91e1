-- Prints don't change the device, even if a crash before might have left something other than the board's model says.
use Rattle.std.proofs.Common.{◌≡◌, ℕ, List, Option, None, Some, ap, refl, sym, ◌∙◌}
use Rattle.erst_store.specs.Store.{Stored}
use Rattle.board_core.specs.Clock.{After, Clock, IsStored, Passes}
use Rattle.board_core.specs.Steps.ClockLemmas.{adds_after, adds_both, adds_none, adds_weaker}
use Rattle.board_core.specs.Stop.{Left, InOut}
use Rattle.board_core.specs.Told.{Told, Relates, Steps, FailsPrint, after_print}
use Rattle.board_core.specs.Device.{KeepsDevice, LeavesDevice, LeavesStore}

-- ---- what is told

pub same_device : (t : Told) → KeepsDevice t t
same_device t = record { store = refl; volatile = refl; accesses = refl }

device_then : (a b c : Told) → KeepsDevice a b → KeepsDevice b c → KeepsDevice a c
device_then a b c one two = record {
  store = two.store ∙ one.store;
  volatile = two.volatile ∙ one.volatile;
  accesses = two.accesses ∙ one.accesses;
}

-- ---- calls one after another

pub device_stays : (told : Option Told) (clock : Clock) → LeavesDevice told told clock clock
device_stays None clock = tt
device_stays (Some t) clock = (same_device t, λ stored. record { since = adds_none (λ left. left.store ≡ t.here.store) clock; now = stored })

pub device_goes_on : (first mid last : Option Told) (a b c : Clock) → LeavesDevice first mid a b → LeavesDevice mid last b c → LeavesDevice first last a c
device_goes_on None mid last a b c one two = tt
device_goes_on (Some t) None last a b c one two = absurd one.0
device_goes_on (Some t) (Some m) None a b c one two = absurd two.0
device_goes_on (Some t) (Some m) (Some n) a b c one two = (
  device_then t m n one.0 two.0,
  λ stored.
      (let first : LeavesStore t.here.store a b = one.1 stored in
      let next : LeavesStore m.here.store b c = two.1 (λ left now. first.now left now ∙ sym one.0.store) in
      record {
        since = adds_both (λ left. left.store ≡ t.here.store) a b c first.since
            (adds_weaker (λ left. left.store ≡ m.here.store) (λ left. left.store ≡ t.here.store) b c next.since (λ left is. is ∙ one.0.store));
        now = λ left now. next.now left now ∙ one.0.store;
      }),
)

-- If a step changes the model, the models before and after are related by it.
pub steps_relate : (step : Told → Told) (told new : Option Told) → Steps step told new → Relates (λ old now. now ≡ step old) told new
steps_relate step None new steps = steps
steps_relate step (Some t) new steps = rw steps refl

-- Calls whose effect on the model is known, after which a crash leaves the model's store if a crash before did.
pub device_by : (P : Told → Told → Type 0) (told new : Option Told) (a b : Clock) → ((u v : Told) → P u v → KeepsDevice u v) → Relates P told new
    → ((t : Told) → told ≡ Some t → IsStored t.here.store a → LeavesStore t.here.store a b) → LeavesDevice told new a b
device_by P None new a b keeps told leaves = tt
device_by P (Some t) None a b keeps told leaves = absurd told
device_by P (Some t) (Some n) a b keeps told leaves = (keeps t n told, leaves t refl)

-- ---- a print

out_kept : (piece : List ℕ → List ℕ → Type 0) (a b : Clock) → Passes (InOut piece) a b → (store : List Stored) → IsStored store a → LeavesStore store a b
out_kept piece a b passes store stored = record {
  since = adds_after (InOut piece) (λ left. left.store ≡ store) a b passes kept;
  now = λ left now. kept left (passes.ends left now);
}
  where
    kept : (left : Left) → After a (InOut piece) left → left.store ≡ store
    kept left after = ap (λ (l : Left). l.store) after.by.rest ∙ stored after.from after.was

print_keeps : (bytes : List ℕ) (u v : Told) → v ≡ after_print bytes u → KeepsDevice u v
print_keeps bytes u v is = rw is (record { store = refl; volatile = refl; accesses = refl })

pub device_printed : (bytes : List ℕ) (piece : List ℕ → List ℕ → Type 0) (told new : Option Told) (a b : Clock) → Steps (after_print bytes) told new → Passes (InOut piece) a b → LeavesDevice told new a b
device_printed bytes piece told new a b steps passes =
    device_by (λ old now. now ≡ after_print bytes old) told new a b (print_keeps bytes) (steps_relate (after_print bytes) told new steps) (λ t is. out_kept piece a b passes t.here.store)

pub device_not_printed : (bytes : List ℕ) (piece : List ℕ → List ℕ → Type 0) (told new : Option Told) (a b : Clock) → Relates (FailsPrint bytes) told new → Passes (InOut piece) a b → LeavesDevice told new a b
device_not_printed bytes piece told new a b fails passes =
    device_by (FailsPrint bytes) told new a b (λ u v failed. print_keeps failed.0 u v failed.3) fails (λ t is. out_kept piece a b passes t.here.store)
