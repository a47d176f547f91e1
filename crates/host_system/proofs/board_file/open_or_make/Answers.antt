use Rattle.std.proofs.Common.{rules}
use Rattle.std.specs.Prelude.{IfSome}
use Rattle.host_system.specs.declared.system.FileName.TheVariants.{Journal}
use Rattle.host_system.specs.BoardFile.{IsOpenable}
use Rattle.host_system.specs.FolderPast.{HasFile, IsMissing}
use Rattle.host_system.proofs.FileLemmas.{none_same, none_after, opened_end, made_end}
use Rattle.host_system.proofs.UseLemmas.{kept_same, opens_openable, opens_there, opens_open, made_openable, made_there, made_open}
use Rattle.host_system.proofs.board_file.open_or_make.Goals as goal

pub returns-in-Some-clause-told : goal.returns-in-Some-clause-told
returns-in-Some-clause-told g c =
    (none_after c.args.file _ _ _ (none_same c.args.file _ _ c.find.ensures.told) (opened_end c.args.file c.open.result _ _ c.open.ensures.told c.open.ensures.failed)).told

pub returns-in-Some-clause-keeps : goal.returns-in-Some-clause-keeps
returns-in-Some-clause-keeps g c =
    (none_after c.args.file _ _ _ (none_same c.args.file _ _ c.find.ensures.told) (opened_end c.args.file c.open.result _ _ c.open.ensures.told c.open.ensures.failed)).keeps

pub returns-in-Some-clause-stops : goal.returns-in-Some-clause-stops
returns-in-Some-clause-stops g c =
    (none_after c.args.file _ _ _ (none_same c.args.file _ _ c.find.ensures.told) (opened_end c.args.file c.open.result _ _ c.open.ensures.told c.open.ensures.failed)).stops

pub returns-in-Some-clause-openable : goal.returns-in-Some-clause-openable
returns-in-Some-clause-openable g c =
    let there : IfSome (g.S.System.told c.find.new.self) (HasFile (Journal c.args.file)) = search rules in
    opens_openable c.args.file c.open.result _ _ there (kept_same (IsOpenable c.args.file) _ _ c.find.ensures.told c.requires) c.open.ensures.told c.open.ensures.failed

pub returns-in-Some-clause-there : goal.returns-in-Some-clause-there
returns-in-Some-clause-there g c =
    let there : IfSome (g.S.System.told c.find.new.self) (HasFile (Journal c.args.file)) = search rules in
    opens_there c.args.file c.open.result _ _ there c.open.ensures.told

pub returns-in-Some-clause-opened : goal.returns-in-Some-clause-opened
returns-in-Some-clause-opened g c =
    let there : IfSome (g.S.System.told c.find.new.self) (HasFile (Journal c.args.file)) = search rules in
    opens_open c.args.file c.open.result _ _ there c.open.ensures.told

pub returns-in-None-clause-told : goal.returns-in-None-clause-told
returns-in-None-clause-told g c =
    let missing : IfSome (g.S.System.told c.find.new.self) (IsMissing (Journal c.args.file)) = search rules in
    (none_after c.args.file _ _ _ (none_same c.args.file _ _ c.find.ensures.told) (made_end c.args.file c.make.result _ _ missing c.make.ensures.told c.make.ensures.failed)).told

pub returns-in-None-clause-keeps : goal.returns-in-None-clause-keeps
returns-in-None-clause-keeps g c =
    let missing : IfSome (g.S.System.told c.find.new.self) (IsMissing (Journal c.args.file)) = search rules in
    (none_after c.args.file _ _ _ (none_same c.args.file _ _ c.find.ensures.told) (made_end c.args.file c.make.result _ _ missing c.make.ensures.told c.make.ensures.failed)).keeps

pub returns-in-None-clause-stops : goal.returns-in-None-clause-stops
returns-in-None-clause-stops g c =
    let missing : IfSome (g.S.System.told c.find.new.self) (IsMissing (Journal c.args.file)) = search rules in
    (none_after c.args.file _ _ _ (none_same c.args.file _ _ c.find.ensures.told) (made_end c.args.file c.make.result _ _ missing c.make.ensures.told c.make.ensures.failed)).stops

pub returns-in-None-clause-openable : goal.returns-in-None-clause-openable
returns-in-None-clause-openable g c = made_openable c.args.file c.make.result _ _ (kept_same (IsOpenable c.args.file) _ _ c.find.ensures.told c.requires) c.make.ensures.told c.make.ensures.failed

pub returns-in-None-clause-there : goal.returns-in-None-clause-there
returns-in-None-clause-there g c = made_there c.args.file c.make.result _ _ c.make.ensures.told

pub returns-in-None-clause-opened : goal.returns-in-None-clause-opened
returns-in-None-clause-opened g c = made_open c.args.file c.make.result _ _ c.make.ensures.told
