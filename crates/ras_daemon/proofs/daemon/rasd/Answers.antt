-- Each clause of a run follows from what the run did.
use Rattle.std.proofs.Common.{◌≡◌, Some, ap, refl, sym, ◌∙◌}
use Rattle.ras_exit.specs.StopLine.{stop_line}
use Rattle.ras_exit.specs.declared.exit.Exit.TheVariants.{Done, Usage}
use Rattle.ras_daemon.specs.Help.{help_text, version_line}
use Rattle.ras_daemon.specs.Promises.{Ran, RunStops, StillTell}
use Rattle.ras_daemon.specs.Task.{task_of}
use Rattle.ras_daemon.proofs.CallLemmas.{run-ran, run-stops}
use Rattle.ras_daemon.proofs.FilterLemmas.{feeds_as, filters_as, stops_as, stops_feeding_as}
use Rattle.ras_daemon.proofs.RunLemmas.{over_comes}
use Rattle.ras_daemon.proofs.SaidLemmas.{says_causes, says_printed}
use Rattle.ras_daemon.proofs.TellingLemmas.{printed_commands}
use Rattle.ras_daemon.proofs.daemon.rasd.Goals as goal

pub returns-in-Some-Run-clause-ran : goal.returns-in-Some-Run-clause-ran
returns-in-Some-Run-clause-ran g c =
    let see = g.B.Board.seen in
    over_comes see (c.run.new.source ≡ c.args.source.now)
    (λ start script told. StillTell (Ran c.run.result (c.run.new.source ≡ c.args.source.now) start script told) (g.S.Source.left c.run.new.source) (g.B.Board.seen c.run.new.board).told)
    (task_of c.args.words.now) (g.S.Source.left c.args.source.now) (g.S.Source.left c.run.new.source) (g.B.Board.seen c.args.board.now).told c.run.result c.args.board.now c.run.new.board
    (sym c.task_of.ensures.task ∙ c.in-Some-Run.is ∙ ap Some c.in-Some-Run.field-0-is)
    (λ account script t left is recovers comes. run-ran see (c.run.new.source ≡ c.args.source.now) account script c.run.result t (g.S.Source.left c.run.new.source) c.args.board.now c.run.new.board is recovers
    (record {
      text = λ u rest here may. g.met.B.Board.text_is_left c.args.board.now u rest here may;
      now = λ u here. g.met.B.Board.told_may_be_left c.args.board.now u here;
      earlier = λ m n rest within may. g.met.B.Board.counts_earlier c.args.board.now m n rest within may;
    })
    comes
    (record {
      text = λ u rest here may. g.met.B.Board.text_is_left c.run.new.board u rest here may;
      now = λ u here. g.met.B.Board.told_may_be_left c.run.new.board u here;
      earlier = λ m n rest within may. g.met.B.Board.counts_earlier c.run.new.board m n rest within may;
    })
    (λ same. ap g.S.Source.left same ∙ left))
    c.run.ensures.comes

pub returns-in-Some-Run-clause-stops : goal.returns-in-Some-Run-clause-stops
returns-in-Some-Run-clause-stops g c =
    let see = g.B.Board.seen in
    over_comes see (c.run.new.source ≡ c.args.source.now)
    (λ start script told. RunStops g.B.Board.seen c.run.result (c.run.new.source ≡ c.args.source.now) start script told c.args.board.now c.run.new.board)
    (task_of c.args.words.now) (g.S.Source.left c.args.source.now) (g.S.Source.left c.run.new.source) (g.B.Board.seen c.args.board.now).told c.run.result c.args.board.now c.run.new.board
    (sym c.task_of.ensures.task ∙ c.in-Some-Run.is ∙ ap Some c.in-Some-Run.field-0-is)
    (λ account script t left is recovers comes. run-stops see (c.run.new.source ≡ c.args.source.now) account script c.run.result t (g.S.Source.left c.run.new.source) c.args.board.now c.run.new.board is recovers
    (record {
      text = λ u rest here may. g.met.B.Board.text_is_left c.args.board.now u rest here may;
      now = λ u here. g.met.B.Board.told_may_be_left c.args.board.now u here;
      earlier = λ m n rest within may. g.met.B.Board.counts_earlier c.args.board.now m n rest within may;
    })
    comes)
    c.run.ensures.comes

pub returns-in-Some-Klog-clause-commands : goal.returns-in-Some-Klog-clause-commands
returns-in-Some-Klog-clause-commands g c =
    let exit = c.filter_lines-in-Some-Klog.result in
    rw (sym c.task_of.ensures.task ∙ c.in-Some-Klog.is ∙ ap Some c.in-Some-Klog.field-0-is)
    (record {
      tells = filters_as _ _ exit _ _ _ _ c.new-filter-in-Some-Klog.ensures.makes c.filter_lines-in-Some-Klog.ensures.filters;
      stops = stops_as _ _ _ _ _ _ c.new-filter-in-Some-Klog.ensures.makes c.filter_lines-in-Some-Klog.ensures.stops;
      device = c.filter_lines-in-Some-Klog.ensures.device;
    })

pub returns-in-Some-TraceFeed-clause-commands : goal.returns-in-Some-TraceFeed-clause-commands
returns-in-Some-TraceFeed-clause-commands g c =
    let exit = c.feed_lines.result in
    rw (sym c.task_of.ensures.task ∙ c.in-Some-TraceFeed.is ∙ ap Some c.in-Some-TraceFeed.field-0-is)
    (record {
      tells = feeds_as _ _ exit _ _ _ _ c.new-filter-in-Some-TraceFeed.ensures.makes c.feed_lines.ensures.feeds;
      stops = stops_feeding_as _ _ _ _ _ _ c.new-filter-in-Some-TraceFeed.ensures.makes c.feed_lines.ensures.stops;
      device = c.feed_lines.ensures.device;
    })

pub returns-in-Some-LogFeed-clause-commands : goal.returns-in-Some-LogFeed-clause-commands
returns-in-Some-LogFeed-clause-commands g c =
    let exit = c.feed_lines-in-Some-LogFeed.result in
    rw (sym c.task_of.ensures.task ∙ c.in-Some-LogFeed.is ∙ ap Some c.in-Some-LogFeed.field-0-is)
    (record {
      tells = feeds_as _ _ exit _ _ _ _ c.new-filter-in-Some-LogFeed.ensures.makes c.feed_lines-in-Some-LogFeed.ensures.feeds;
      stops = stops_feeding_as _ _ _ _ _ _ c.new-filter-in-Some-LogFeed.ensures.makes c.feed_lines-in-Some-LogFeed.ensures.stops;
      device = c.feed_lines-in-Some-LogFeed.ensures.device;
    })

pub returns-in-Some-TraceLines-clause-commands : goal.returns-in-Some-TraceLines-clause-commands
returns-in-Some-TraceLines-clause-commands g c =
    let exit = c.filter_lines-in-Some-TraceLines.result in
    rw (sym c.task_of.ensures.task ∙ c.in-Some-TraceLines.is ∙ ap Some c.in-Some-TraceLines.field-0-is)
    (record {
      tells = filters_as _ _ exit _ _ _ _ c.new-filter-in-Some-TraceLines.ensures.makes c.filter_lines-in-Some-TraceLines.ensures.filters;
      stops = stops_as _ _ _ _ _ _ c.new-filter-in-Some-TraceLines.ensures.makes c.filter_lines-in-Some-TraceLines.ensures.stops;
      device = c.filter_lines-in-Some-TraceLines.ensures.device;
    })

pub returns-in-Some-KlogLines-clause-commands : goal.returns-in-Some-KlogLines-clause-commands
returns-in-Some-KlogLines-clause-commands g c =
    let exit = c.filter_lines-in-Some-KlogLines.result in
    rw (sym c.task_of.ensures.task ∙ c.in-Some-KlogLines.is ∙ ap Some c.in-Some-KlogLines.field-0-is)
    (record {
      tells = filters_as _ _ exit _ _ _ _ c.new-filter-in-Some-KlogLines.ensures.makes c.filter_lines-in-Some-KlogLines.ensures.filters;
      stops = stops_as _ _ _ _ _ _ c.new-filter-in-Some-KlogLines.ensures.makes c.filter_lines-in-Some-KlogLines.ensures.stops;
      device = c.filter_lines-in-Some-KlogLines.ensures.device;
    })

pub returns-in-Some-GhesLines-clause-commands : goal.returns-in-Some-GhesLines-clause-commands
returns-in-Some-GhesLines-clause-commands g c =
    let exit = c.filter_lines-in-Some-GhesLines.result in
    rw (sym c.task_of.ensures.task ∙ c.in-Some-GhesLines.is ∙ ap Some c.in-Some-GhesLines.field-0-is)
    (record {
      tells = filters_as _ _ exit _ _ _ _ c.new-filter-in-Some-GhesLines.ensures.makes c.filter_lines-in-Some-GhesLines.ensures.filters;
      stops = stops_as _ _ _ _ _ _ c.new-filter-in-Some-GhesLines.ensures.makes c.filter_lines-in-Some-GhesLines.ensures.stops;
      device = c.filter_lines-in-Some-GhesLines.ensures.device;
    })

pub returns-in-Some-Help-clause-commands : goal.returns-in-Some-Help-clause-commands
returns-in-Some-Help-clause-commands g c =
    rw (sym c.task_of.ensures.task ∙ c.in-Some-Help.is ∙ ap Some c.in-Some-Help.field-0-is)
    (printed_commands Done c.last_line.result help_text _ _ _ _
    (says_printed g.B.Board.seen Done c.last_line.result help_text c.args.board.now c.last_line.new.board (rw c.help_text.ensures at c.last_line.ensures.says))
    (rw c.help_text.ensures at c.last_line.ensures.stops) c.last_line.ensures.device)

pub returns-in-Some-Help-clause-causes : goal.returns-in-Some-Help-clause-causes
returns-in-Some-Help-clause-causes g c =
    says_causes g.B.Board.seen Done c.last_line.result help_text c.args.board.now c.last_line.new.board _ refl (rw c.help_text.ensures at c.last_line.ensures.says)

pub returns-in-Some-Version-clause-commands : goal.returns-in-Some-Version-clause-commands
returns-in-Some-Version-clause-commands g c =
    rw (sym c.task_of.ensures.task ∙ c.in-Some-Version.is ∙ ap Some c.in-Some-Version.field-0-is)
    (printed_commands Done c.last_line-in-Some-Version.result version_line _ _ _ _
    (says_printed g.B.Board.seen Done c.last_line-in-Some-Version.result version_line c.args.board.now c.last_line-in-Some-Version.new.board (rw c.version_line.ensures at c.last_line-in-Some-Version.ensures.says))
    (rw c.version_line.ensures at c.last_line-in-Some-Version.ensures.stops) c.last_line-in-Some-Version.ensures.device)

pub returns-in-Some-Version-clause-causes : goal.returns-in-Some-Version-clause-causes
returns-in-Some-Version-clause-causes g c =
    says_causes g.B.Board.seen Done c.last_line-in-Some-Version.result version_line c.args.board.now c.last_line-in-Some-Version.new.board _ refl (rw c.version_line.ensures at c.last_line-in-Some-Version.ensures.says)

pub returns-in-None-clause-commands : goal.returns-in-None-clause-commands
returns-in-None-clause-commands g c =
    rw (sym c.task_of.ensures.task ∙ c.in-None.is)
    (printed_commands Usage c.last_line-in-None.result (stop_line Usage) _ _ _ _
    (says_printed g.B.Board.seen Usage c.last_line-in-None.result (stop_line Usage) c.args.board.now c.last_line-in-None.new.board (rw c.usage_line.ensures at c.last_line-in-None.ensures.says))
    (rw c.usage_line.ensures at c.last_line-in-None.ensures.stops) c.last_line-in-None.ensures.device)

pub returns-in-None-clause-causes : goal.returns-in-None-clause-causes
returns-in-None-clause-causes g c =
    says_causes g.B.Board.seen Usage c.last_line-in-None.result (stop_line Usage) c.args.board.now c.last_line-in-None.new.board _ refl (rw c.usage_line.ensures at c.last_line-in-None.ensures.says)
