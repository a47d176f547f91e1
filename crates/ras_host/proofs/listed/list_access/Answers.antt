use Rattle.std.proofs.Common.{◌≡◌, ℕ, List, [], ◌∷◌, ◌++◌, ap, ◌∙◌}
use Rattle.std.proofs.lemmas.List.{map-append}
use Rattle.board_core.specs.declared.board.Access.{Access}
use Rattle.ras_host.specs.Steps.Listed.{access_noted, accesses_noted}
use Rattle.ras_host.proofs.listed.list_access.Goals as goal

noted : (calls more : List (List ℕ × List ℕ)) (numbers bytes : List ℕ) (call : Access) → more ≡ calls ++ (numbers, bytes) ∷ [] → access_noted numbers ≡ call → accesses_noted more ≡ accesses_noted calls ++ call ∷ []
noted calls more numbers bytes call is means =
    ap (λ (list : List (List ℕ × List ℕ)). accesses_noted list) is
    ∙ (map-append (λ (c : List ℕ × List ℕ). access_noted c.0) calls ((numbers, bytes) ∷ [])
    ∙ ap (λ (x : Access). accesses_noted calls ++ x ∷ []) means)

pub returns : goal.returns
returns c = noted c.args.accesses.now.calls _ _ _ c.args.access c.note.ensures c.access_in_numbers.ensures
