use Rattle.std.proofs.Common.{◌≡◌, ◌-◌, ℕ, List, Ok, ap, ◌∙◌, sym, take, drop, length}
use Rattle.std.proofs.lemmas.List.{length-map, take_rest}
use Rattle.erst_interp.specs.declared.entries.InstructionEntry.{InstructionEntry}
use Rattle.erst_interp.specs.Table.{instructions_in, lists_of, lists_in, instructions_at, entry_count}
use Rattle.erst_interp.proofs.ListLemmas.{all_actions}
use Rattle.erst_interp.proofs.table.read_erst.Goals as goal

pub returns-clause-answer : goal.returns-clause-answer
returns-clause-answer c =
    let table : List ℕ = c.in_ok-table.table.now in
    let rest : List ℕ = take (length table - 48) (drop 48 table) in
    let same : instructions_at c.u32_at.result rest ≡ instructions_in table =
    ap (λ (n : ℕ). instructions_at n rest) c.u32_at.ensures ∙ ap (λ (bytes : List ℕ). instructions_at (entry_count table) bytes) (take_rest table 48) in
    ap (λ ls. Ok ls) (c.in_ok-lists.ensures ∙ ap (λ (entries : List InstructionEntry). lists_of entries) same) ∙ sym (ap (λ r. lists_in r) c.in_ok-table.ensures.answer)

pub invariant_of-result : goal.invariant_of-result
invariant_of-result c =
    sym (length-map c.in_ok-lists.lists.items (λ v. v.items)) ∙ ap length c.in_ok-lists.ensures ∙ all_actions (instructions_at c.u32_at.result (take (length c.in_ok-table.table.now - 48) (drop 48 c.in_ok-table.table.now)))
