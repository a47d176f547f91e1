use Rattle.std.proofs.Common.{◌≡◌, ℕ, List, [], ◌∷◌, ◌++◌, ap, ◌∙◌}
use Rattle.std.proofs.lemmas.List.{map-append}
use Rattle.board_core.specs.declared.board.DiskCall.{DiskCall}
use Rattle.ras_host.specs.Steps.Listed.{disk_call_noted, disk_calls_noted}
use Rattle.ras_host.proofs.listed.list_disk_call.Goals as goal

noted : (calls more : List (List ℕ × List ℕ)) (numbers bytes : List ℕ) (call : DiskCall) → more ≡ calls ++ (numbers, bytes) ∷ [] → disk_call_noted numbers ≡ call → disk_calls_noted more ≡ disk_calls_noted calls ++ call ∷ []
noted calls more numbers bytes call is means =
    ap (λ (list : List (List ℕ × List ℕ)). disk_calls_noted list) is
    ∙ (map-append (λ (c : List ℕ × List ℕ). disk_call_noted c.0) calls ((numbers, bytes) ∷ [])
    ∙ ap (λ (x : DiskCall). disk_calls_noted calls ++ x ∷ []) means)

pub returns : goal.returns
returns c = noted c.args.calls.now.calls _ _ _ c.args.call c.note.ensures c.disk_call_in_numbers.ensures
