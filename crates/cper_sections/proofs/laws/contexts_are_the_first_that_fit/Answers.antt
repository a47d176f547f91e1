-- The contexts begin where the structures end.
use Rattle.std.proofs.Common.{◌≡◌, ◌+◌, length, take, drop, sum_by, arith, sym, ap, ◌∙◌, List, ℕ}
use Rattle.std.proofs.lemmas.List.{drop-drop, length-drop, take_all}
use Rattle.cper_sections.specs.X64.{x64_validation, stated_contexts, contexts_at, contexts_of, has_context, bytes_taken, ContextParts}
use Rattle.cper_sections.proofs.ContextLemmas.{contexts_inside, contexts_ended}
use Rattle.cper_sections.proofs.laws.contexts_are_the_first_that_fit.Goals as goal

pub returns-clause-inside : goal.returns-clause-inside
returns-clause-inside c = λ bytes inside.
    omega (arith, inside, contexts_inside (stated_contexts (x64_validation bytes)) (drop (contexts_at bytes) bytes), length-drop (contexts_at bytes) bytes)

pub returns-clause-ended : goal.returns-clause-ended
returns-clause-ended c = λ bytes fewer.
    let contexts = contexts_of bytes in
    let all : take (length contexts) contexts ≡ contexts = take_all (length contexts) contexts (omega arith) in
    ap (λ (before : List ContextParts). has_context (drop (contexts_at bytes + sum_by bytes_taken before) bytes)) all
    ∙ ap (λ (left : List ℕ). has_context left) (sym (drop-drop (sum_by bytes_taken contexts) (contexts_at bytes) bytes))
    ∙ contexts_ended (stated_contexts (x64_validation bytes)) (drop (contexts_at bytes) bytes) fewer
