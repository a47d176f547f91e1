-- The laws of a board over a system.
use Rattle.std.specs.Prelude.{◌≡◌, ℕ, ◌≤◌, Option, None, Some}
use Rattle.std.specs.Option.{option_map}
use Rattle.std.proofs.Common.{ap}
use Rattle.board_core.specs.Clock.{LeftNow}
use Rattle.board_core.specs.Stop.{Left}
use Rattle.board_core.specs.Told.{Told}
use Rattle.host_system.specs.View.{told_over}
use Rattle.host_system.specs.Steps.LawLemmas.{told_left, text_left, earlier_left}
use Rattle.ras_host.specs.BoardState.{BoardState}
use Rattle.ras_host.specs.Steps.Telling.{told_with, told_of, clock_of}

none_some : (t : Told) → None ≡ Some t → ⊥
none_some t e = cc

some_is : (s t : Told) → Some s ≡ Some t → s ≡ t
some_is s t e = cc

-- The model has what a board sees of the folder.
seen : (b : BoardState) (o : Option Left) (t : Told) → option_map (told_with b) o ≡ Some t → o ≡ Some t.here
seen b None t is = absurd (none_some t is)
seen b (Some here) t is = ap (λ (s : Told). Some s.here) (some_is (told_with b here) t is)

pub board_told_left : (b : BoardState) (t : Told) → told_of b ≡ Some t → LeftNow (clock_of b) t.here
board_told_left b t is = told_left b.past t.here (seen b (told_over b.past) t is)

pub board_text_left : (b : BoardState) (t : Told) (left : Left) → told_of b ≡ Some t → LeftNow (clock_of b) left → left.out ≡ t.here.out
board_text_left b t left is now = text_left b.past t.here left (seen b (told_over b.past) t is) now

pub board_earlier_left : (b : BoardState) (s t : ℕ) (left : Left) → s ≤ t → (clock_of b).may_leave_since t left → (clock_of b).may_leave_since s left
board_earlier_left b s t left within may = earlier_left b.past s t left within may
