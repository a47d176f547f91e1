-- What crashes leave while parts of a text are printed one after another.
use Rattle.std.proofs.Common.{◌≡◌, ℕ, List, [], ◌++◌, sym, ap, ◌∙◌, refl, append_assoc, append-nil}
use Rattle.board_core.specs.Clock.{Adds, After, Clock, Leads, Passes}
use Rattle.board_core.specs.Steps.ClockLemmas.{adds_after, adds_both}
use Rattle.board_core.specs.Stop.{Appends, Begins, InOut, Left}
use Rattle.ras_exit.specs.Telling.{PrintMoment}

pub leads_none : (clock : Clock) → Leads (InOut (Appends [])) clock clock
leads_none clock left now = record { from = left; was = now; by = record { text = left.out; step = sym (append-nil left.out); rest = refl } }

pub leads_more : (one two : List ℕ) (a b c : Clock) → Leads (InOut (Appends one)) a b → Leads (InOut (Appends two)) b c → Leads (InOut (Appends (one ++ two))) a c
leads_more one two a b c first second left now =
    let after : After b (InOut (Appends two)) left = second left now in
    let before : After a (InOut (Appends one)) after.from = first after.from after.was in
    record {
      from = before.from;
      was = before.was;
      by = record {
        text = after.by.text;
        step = after.by.step ∙ ap (λ (l : Left). l.out ++ two) before.by.rest ∙ ap (λ out. out ++ two) before.by.step ∙ append_assoc before.from.out one two;
        rest = after.by.rest ∙ ap (λ (l : Left). record l { out = after.by.text }) before.by.rest;
      };
    }

-- What was printed, with a beginning of the next part, is a beginning of the whole text.
pub begun_more : (whole one text later : List ℕ) (a b : Clock) → one ++ (text ++ later) ≡ whole → Leads (InOut (Appends one)) a b → (left : Left) → After b (InOut (Begins text)) left → PrintMoment a whole left
begun_more whole one text later a b is first left after =
    let before : After a (InOut (Appends one)) after.from = first after.from after.was in
    let begins : Begins text after.from.out after.by.text = after.by.step in
    record {
      from = before.from;
      was = before.was;
      by = record {
        text = after.by.text;
        step = record {
          part = one ++ begins.part;
          missing = begins.missing ++ later;
          splits = append_assoc one begins.part (begins.missing ++ later) ∙ ap (λ out. one ++ out) (sym (append_assoc begins.part begins.missing later) ∙ ap (λ part. part ++ later) begins.splits) ∙ is;
          is = begins.is ∙ ap (λ (l : Left). l.out ++ begins.part) before.by.rest ∙ ap (λ out. out ++ begins.part) before.by.step ∙ append_assoc before.from.out one begins.part;
        };
        rest = after.by.rest ∙ ap (λ (l : Left). record l { out = after.by.text }) before.by.rest;
      };
    }

pub stops_more : (whole one text later : List ℕ) (a b c : Clock) → one ++ (text ++ later) ≡ whole → Adds (PrintMoment a whole) a b → Leads (InOut (Appends one)) a b → Passes (InOut (Begins text)) b c → Adds (PrintMoment a whole) a c
stops_more whole one text later a b c is adds first passes =
    adds_both (PrintMoment a whole) a b c adds (adds_after (InOut (Begins text)) (PrintMoment a whole) b c passes (begun_more whole one text later a b is first))
