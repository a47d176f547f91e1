use Rattle.std.proofs.Common.{◌≡◌, ◌+◌, length, List, arith, ap, take, slice_range, sym, ◌∙◌, length-drop, ℕ}
use Rattle.std.proofs.lemmas.List.{with_items_is}
use Rattle.std.proofs.lemmas.Result.{err_from_is_err_and}
use Rattle.ras_script.specs.Steps.Feeds.{line_feed_in}
use Rattle.ras_script.proofs.WindowLemmas.{found_held, gained, kept}
use Rattle.ras_script.proofs.window.Window.read_from.Goals as goal

pub returns-in_err-count-clause-unread : goal.returns-in_err-count-clause-unread
returns-in_err-count-clause-unread g c =
    let w = c.args.self.now in
    let size : length c.read_after.new.bytes ≡ w.bytes.len = omega (arith, c.read_after.auto.bytes, ap length c.deref_mut.ensures.value, w.bytes.ok.0) in
    let p = err_from_is_err_and c.from_residual.result c.from_residual.ensures.1 in
    rw p.1 (rw (with_items_is w.bytes c.read_after.new.bytes size) (kept w.bytes.items c.read_after.new.bytes w.start w.end w.ordered (c.in_err-count.ensures.front ∙ ap (take w.end) c.deref_mut.ensures.value)))

pub returns-clause-gained : goal.returns-clause-gained
returns-clause-gained g c =
    let w = c.args.self.now in
    let size : length c.read_after.new.bytes ≡ w.bytes.len = omega (arith, c.read_after.auto.bytes, ap length c.deref_mut.ensures.value, w.bytes.ok.0) in
    rw (with_items_is w.bytes c.read_after.new.bytes size) (gained w.bytes.items c.read_after.new.bytes w.start w.end c.in_ok-count.count _ _ w.ordered (c.in_ok-count.ensures.front ∙ ap (take w.end) c.deref_mut.ensures.value) (omega (arith, c.in_ok-count.ensures.within, c.requires.room, w.size, size, w.bytes.ok.0, length-drop w.end c.read_after.new.bytes)) c.in_ok-count.ensures.taken)

pub line_feed_past-requires : goal.line_feed_past-requires
line_feed_past-requires g c =
    let w = c.args.self.now in
    let size : length c.read_after.new.bytes ≡ w.bytes.len = omega (arith, c.read_after.auto.bytes, ap length c.deref_mut.ensures.value, w.bytes.ok.0) in
    let items : c.deref.result.now ≡ c.read_after.new.bytes = c.deref.ensures.value ∙ with_items_is w.bytes c.read_after.new.bytes size in
    let known = found_held w.bytes.items c.read_after.new.bytes w.start w.end c.in_ok-count.count w.line_feed w.ordered (c.in_ok-count.ensures.front ∙ ap (take w.end) c.deref_mut.ensures.value) (omega (arith, c.in_ok-count.ensures.within, c.requires.room, w.size, size, w.bytes.ok.0)) w.found in
    record { inside = rw items known.0; found = rw items known.1 }

pub invariant_of-self : goal.invariant_of-self
invariant_of-self g c =
    let w = c.args.self.now in
    let size : length c.read_after.new.bytes ≡ w.bytes.len = omega (arith, c.read_after.auto.bytes, ap length c.deref_mut.ensures.value, w.bytes.ok.0) in
    let same : slice_range c.read_after.new.bytes w.start w.end ≡ slice_range w.bytes.items w.start w.end =
    kept w.bytes.items c.read_after.new.bytes w.start w.end w.ordered (c.in_err-count.ensures.front ∙ ap (take w.end) c.deref_mut.ensures.value) in
    record {
      size = w.size;
      line_ordered = w.line_ordered;
      line_within = w.line_within;
      ordered = w.ordered;
      within = w.within;
      found = rw (with_items_is w.bytes c.read_after.new.bytes size) (w.found ∙ ap (λ (held : List ℕ). w.start + line_feed_in held) (sym same));
    }

pub invariant_of-self-2-clause-found : goal.invariant_of-self-2-clause-found
invariant_of-self-2-clause-found g c =
    let w = c.args.self.now in
    ap (λ place. w.start + place) (c.line_feed_past.ensures.place ∙ ap (λ (items : List ℕ). line_feed_in (slice_range items w.start (w.end + c.in_ok-count.count))) c.deref.ensures.value)
