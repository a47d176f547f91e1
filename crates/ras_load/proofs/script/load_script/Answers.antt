use Rattle.std.proofs.Common.{◌≡◌, ◌∙◌, ◌++◌, ap, map}
use Rattle.std.specs.String.{string_bytes}
use Rattle.ras_load.specs.LoadScript.{bank_lines}
use Rattle.ras_load.proofs.ScriptLemmas.{machine_bytes, script_is}
use Rattle.ras_script.specs.LineLaws.{line_text}
use Rattle.ras_script.specs.SplittingLaws.{script_of}
use Rattle.ras_load.proofs.script.load_script.Goals as goal

pub returns : goal.returns
returns c =
    let machine : string_bytes c.push_str.new.self ≡ string_bytes c.in_ok-script.script ++ machine_bytes = c.in_ok-push_str.ensures.bytes in
    let start : string_bytes c.push_str.new.self ≡ machine_bytes = machine ∙ ap (λ text. text ++ machine_bytes) c.in_ok-script.ensures.bytes in
    ap (λ vec. vec.items) c.into_bytes.ensures.value ∙ c.in_ok-push_banks.ensures
    ∙ ap (λ text. text ++ script_of (map line_text (bank_lines c.args.n))) start ∙ script_is c.args.n
