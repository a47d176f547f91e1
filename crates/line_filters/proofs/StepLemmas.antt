-- Lines are taken one after another; their texts wait or are printed.
use Rattle.std.proofs.Common.{◌≡◌, ℕ, suc, ◌+◌, ◌-◌, ◌≤◌, List, [], ◌∷◌, ◌++◌, length, map, take, Ok, refl, ap, sym, ◌∙◌, append_assoc, append-nil, length-append, arith, inl, inr}
use Rattle.std.specs.Prelude.{◌⊎◌}
use Rattle.std.specs.List.{flat_map}
use Rattle.std.proofs.lemmas.Grind.{flat_map-append}
use Rattle.std.proofs.lemmas.List.{map-append}
use Rattle.board_core.specs.Clock.{Clock, Leads, Passes}
use Rattle.board_core.specs.Steps.ClockLemmas.{adds_none}
use Rattle.board_core.specs.Stop.{Appends, Begins, InOut}
use Rattle.board_core.specs.Told.{Told, after_print}
use Rattle.ras_base.specs.Prefix.{IsPrefixOf}
use Rattle.ras_script.specs.declared.reader.TheConstants.{LONGEST_LINE}
use Rattle.ras_script.specs.Lines.{Lines, script_lines, with_line}
use Rattle.ras_script.specs.Reader.{given_count, lines_to_come}
use Rattle.ras_exit.specs.declared.exit.Exit.{Exit}
use Rattle.ras_exit.specs.declared.exit.Exit.TheVariants.{Done}
use Rattle.ras_exit.specs.ScriptEnd.{ending_exit}
use Rattle.ras_exit.specs.StopLine.{stop_line}
use Rattle.ras_exit.specs.Telling.{PrintMoment}
use Rattle.line_filters.specs.Filter.{Filter, Took}
use Rattle.line_filters.specs.Filters.{PrintsOn, closing_text, exit_among, exit_unless, filter_output, line_feeds, output_among, refusal_in, texts_in}
use Rattle.line_filters.specs.Numbered.{Numbered, no_lines}
use Rattle.line_filters.specs.Steps.Reading.{HasGiven, HasTaken}
use Rattle.line_filters.specs.Steps.Filtering.{Along, Said}
use Rattle.line_filters.proofs.MomentLemmas.{leads_more, leads_none, stops_more}

-- ---- what is to come

module _ (line : List ℕ) (old new : Filter) (out text : List ℕ) (took : Took line old new out text) where
  exit-step : (count : ℕ) (lines : Lines) → exit_among count old (with_line line lines) ≡ exit_among (count + 1) new lines
  exit-step count lines =
      let texts : List (List ℕ) = texts_in (new.answers lines.whole) in
      let one : count + suc (length texts) + 1 ≡ count + 1 + length texts + 1 = omega arith in
      let two : count + suc (length lines.whole) ≡ count + 1 + length lines.whole = omega arith in
      rw (took.answers lines.whole)
      (ap (λ n. exit_unless (refusal_in (new.answers lines.whole)) n (ending_exit (count + suc (length lines.whole)) lines.ending)) one
      ∙ ap (λ n. exit_unless (refusal_in (new.answers lines.whole)) (count + 1 + length texts + 1) (ending_exit n lines.ending)) two)

  closing-step : (lines : List (List ℕ)) (exit : Exit) → closing_text old (line ∷ lines) exit ≡ closing_text new lines exit
  closing-step lines Done = ap (λ rest. rest ++ old.last (line ∷ lines)) (took.rest lines) ∙ ap (λ last. new.rest lines ++ last) (took.last lines)
  closing-step lines exit = ap (λ rest. rest ++ stop_line exit) (took.rest lines)

  output-step : (count : ℕ) (lines : Lines) → output_among count old (with_line line lines) ≡ took.text ++ output_among (count + 1) new lines
  output-step count lines =
      let texts : List (List ℕ) = texts_in (new.answers lines.whole) in
      let exit : Exit = exit_among (count + 1) new lines in
      ap (λ answers. flat_map (λ text. text) (texts_in answers) ++ closing_text old (take (length (texts_in answers)) (line ∷ lines.whole)) (exit_among count old (with_line line lines))) (took.answers lines.whole)
      ∙ ap (λ exit. (took.text ++ flat_map (λ text. text) texts) ++ closing_text old (line ∷ take (length texts) lines.whole) exit) (exit-step count lines)
      ∙ ap (λ closing. (took.text ++ flat_map (λ text. text) texts) ++ closing) (closing-step (take (length texts) lines.whole) exit)
      ∙ append_assoc took.text (flat_map (λ text. text) texts) (closing_text new (take (length texts) lines.whole) exit)

-- ---- what is said

pub print-both : (one two : List ℕ) (t : Told) → after_print two (after_print one t) ≡ after_print (one ++ two) t
print-both one two t = ap (λ out. record t { here = record t.here { out = out } }) (append_assoc t.here.out one two)

said_none : (text : List ℕ) (t : Told) (clock : Clock) → Said text t clock [] [] t clock
said_none text t clock = record {
  is = ap (λ out. record t { here = record t.here { out = out } }) (sym (append-nil t.here.out));
  begins = (text, refl);
  stops = adds_none (PrintMoment clock text) clock;
  leads = leads_none clock;
}

-- the waiting texts were printed
pub said_more : (text : List ℕ) (before : Told) (a : Clock) (printed waiting : List ℕ) (now : Told) (b c : Clock) → Said text before a printed waiting now b → Passes (InOut (Begins waiting)) b c → Leads (InOut (Appends waiting)) b c
    → Said text before a (printed ++ waiting) [] (after_print waiting now) c
said_more text before a printed waiting now b c said passes leads = record {
  is = ap (after_print waiting) said.is ∙ print-both printed waiting before;
  begins = (said.begins.0, ap (λ out. out ++ said.begins.0) (append-nil (printed ++ waiting)) ∙ said.begins.1);
  stops = stops_more text printed waiting said.begins.0 a b c (sym (append_assoc printed waiting said.begins.0) ∙ said.begins.1) said.stops said.leads passes;
  leads = leads_more printed waiting a b c said.leads leads;
}

-- another text waits
said_as : (text : List ℕ) (before : Told) (a : Clock) (printed waiting other : List ℕ) (now : Told) (b : Clock) → Said text before a printed waiting now b → IsPrefixOf (printed ++ other) text → Said text before a printed other now b
said_as text before a printed waiting other now b said begins = record { is = said.is; begins = begins; stops = said.stops; leads = said.leads }

-- ---- how far ahead

pub on_more : (Failed Later : Type 0) (filter : Filter) (script taken printed part : List ℕ) → (Later → Failed) → PrintsOn Failed filter script taken printed → PrintsOn Later filter script taken (printed ++ part)
on_more Failed Later filter script taken printed part back on = record {
  lines = on.lines;
  first = on.first;
  texts = on.texts;
  made = on.made;
  more = on.more ++ part;
  text = ap (λ out. out ++ part) on.text ∙ append_assoc (flat_map (λ text. text) on.texts) on.more part;
  ahead = on.ahead;
  all = λ later. on.all (back later);
}

pub on_as : (Failed Later : Type 0) (filter : Filter) (script taken printed : List ℕ) → (Later → Failed) → PrintsOn Failed filter script taken printed → PrintsOn Later filter script taken printed
on_as Failed Later filter script taken printed back on = record {
  lines = on.lines;
  first = on.first;
  texts = on.texts;
  made = on.made;
  more = on.more;
  text = on.text;
  ahead = on.ahead;
  all = λ later. on.all (back later);
}

on_taken : (filter : Filter) (script taken other printed : List ℕ) → length other ≤ length taken → PrintsOn ⊥ filter script taken printed → PrintsOn ⊥ filter script other printed
on_taken filter script taken other printed few on = record {
  lines = on.lines;
  first = on.first;
  texts = on.texts;
  made = on.made;
  more = on.more;
  text = on.text;
  ahead = (let ahead = on.ahead in omega arith);
  all = λ never. absurd never;
}

-- ---- the steps

module _ (whole : Filter) (script : List ℕ) (before : Told) (a : Clock) (lines : Numbered) (filter : Filter) (waiting left : List ℕ) (now : Told) (b : Clock) (along : Along whole script before a lines filter waiting left now b) where
  -- If nothing waits, the texts of all lines are printed.
  pub printed_all : (Failed : Type 0) → filter.answers [] ≡ [] → waiting ≡ [] → (taken : List ℕ) → length taken ≤ given_count lines.reader + (LONGEST_LINE + 1) → (Failed → line_feeds taken ≤ length along.done)
      → PrintsOn Failed whole script taken along.printed
  printed_all Failed nothing none taken few all = record {
    lines = along.done;
    first = ((lines_to_come lines.reader left).whole, sym (ap (λ (l : Lines). l.whole) along.given.come));
    texts = along.texts;
    made = ap whole.answers (sym (append-nil along.done)) ∙ along.made [] ∙ ap (λ answers. map Ok along.texts ++ answers) nothing ∙ append-nil (map Ok along.texts);
    more = [];
    text = sym (append-nil (flat_map (λ text. text) along.texts) ∙ along.all ∙ ap (λ out. along.printed ++ out) none ∙ append-nil along.printed);
    ahead = (let known = along.given.known in omega arith);
    all = all;
  }

  -- the waiting texts were printed, while lines are taken
  pub along_printed : (c : Clock) → Passes (InOut (Begins waiting)) b c → Leads (InOut (Appends waiting)) b c → Along whole script before a lines filter [] left (after_print waiting now) c
  along_printed c passes leads = record {
    done = along.done;
    given = along.given;
    printed = along.printed ++ waiting;
    said = said_more (filter_output whole script) before a along.printed waiting now b c along.said passes leads;
    exit = along.exit;
    output = along.output ∙ ap (λ out. out ++ output_among lines.number filter (lines_to_come lines.reader left)) (sym (append-nil (along.printed ++ waiting)));
    texts = along.texts;
    made = along.made;
    all = along.all ∙ sym (append-nil (along.printed ++ waiting));
    ahead = on_more ⊥ ⊥ whole script along.given.took.taken along.printed waiting (λ never. never) along.ahead;
  }

  -- The reader was asked for a line while nothing waited, or while its buffer had a line.
  pub ahead_next : (Held : Type 0) (new : Numbered) (rest : List ℕ) (took : HasTaken script new.reader rest) → filter.answers [] ≡ [] → (waiting ≡ []) ⊎ Held → (Held → rest ≡ left) → length lines.reader.held + (new.reader.taken - lines.reader.taken) ≤ LONGEST_LINE + 1
      → PrintsOn ⊥ whole script took.taken along.printed
  ahead_next Held new rest took nothing (inl none) same few = printed_all ⊥ nothing none took.taken (let count = took.count in omega arith) (λ never. absurd never)
  ahead_next Held new rest took nothing (inr held) same few =
      let sizes : length took.taken + length rest ≡ length along.given.took.taken + length left =
      sym (length-append took.taken rest) ∙ ap length took.splits ∙ sym (ap length along.given.took.splits) ∙ length-append along.given.took.taken left in
      let kept : length rest ≡ length left = ap length (same held) in
      on_taken whole script along.given.took.taken took.taken along.printed (omega arith) along.ahead

  -- a line was taken, and its text waits
  pub along_line : (new : Numbered) (rest : List ℕ) (after : Filter) (longer : List ℕ) (given : HasGiven script new rest (along.done ++ new.reader.line ∷ [])) → new.number ≡ lines.number + 1
      → lines_to_come lines.reader left ≡ with_line new.reader.line (lines_to_come new.reader rest) → Took new.reader.line filter after waiting longer → PrintsOn ⊥ whole script given.took.taken along.printed
      → Along whole script before a new after longer rest now b
  along_line new rest after longer given number gives took ahead =
      let come : Lines = lines_to_come new.reader rest in
      let line : List ℕ = new.reader.line in
      let later : List ℕ = output_among new.number after come in
      let longer_is : along.printed ++ longer ≡ (along.printed ++ waiting) ++ took.text = ap (λ out. along.printed ++ out) took.out ∙ sym (append_assoc along.printed waiting took.text) in
      let output : filter_output whole script ≡ (along.printed ++ longer) ++ later =
      along.output
      ∙ ap (λ lines_left. (along.printed ++ waiting) ++ output_among lines.number filter lines_left) gives
      ∙ ap (λ bytes. (along.printed ++ waiting) ++ bytes) (output-step line filter after waiting longer took lines.number come)
      ∙ ap (λ n. (along.printed ++ waiting) ++ (took.text ++ output_among n after come)) (sym number)
      ∙ sym (append_assoc (along.printed ++ waiting) took.text later)
      ∙ ap (λ out. out ++ later) (sym longer_is) in
      record {
        done = along.done ++ line ∷ [];
        given = given;
        printed = along.printed;
        said = said_as (filter_output whole script) before a along.printed waiting longer now b along.said (later, sym output);
        exit = along.exit ∙ ap (exit_among lines.number filter) gives ∙ exit-step line filter after waiting longer took lines.number come ∙ ap (λ n. exit_among n after come) (sym number);
        output = output;
        texts = along.texts ++ took.text ∷ [];
        made = λ more. (
            ap whole.answers (append_assoc along.done (line ∷ []) more)
            ∙ along.made (line ∷ more)
            ∙ ap (λ answers. map Ok along.texts ++ answers) (took.answers more)
            ∙ sym (append_assoc (map Ok along.texts) (Ok took.text ∷ []) (after.answers more))
            ∙ ap (λ oks. oks ++ after.answers more) (sym (map-append Ok along.texts (took.text ∷ []))));
        all =
            flat_map-append (λ text. text) along.texts (took.text ∷ [])
            ∙ ap (λ text. flat_map (λ text. text) along.texts ++ text) (append-nil took.text)
            ∙ ap (λ out. out ++ took.text) along.all
            ∙ sym longer_is;
        ahead = ahead;
      }

-- the start of a call
pub along_none : (whole : Filter) (script : List ℕ) (t : Told) (lines : Numbered) (clock : Clock) → lines ≡ no_lines → whole.answers [] ≡ [] → Along whole script t clock lines whole [] script t clock
along_none whole script t lines clock fresh nothing = rw fresh (record {
  done = [];
  given = record {
    took = record { taken = []; splits = refl; count = refl };
    number = refl;
    come = refl;
    known = omega arith;
    feeds = (let empty : line_feeds [] ≡ 0 = refl in omega arith);
  };
  printed = [];
  said = said_none (filter_output whole script) t clock;
  exit = refl;
  output = refl;
  texts = [];
  made = λ more. refl;
  all = refl;
  ahead = record { lines = []; first = ((script_lines script).whole, refl); texts = []; made = nothing; more = []; text = refl; ahead = omega arith; all = λ never. absurd never };
})
