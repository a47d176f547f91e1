use Rattle.std.proofs.Common.{◌≡◌, ◌∙◌, ◌-◌, ◌++◌, ℕ, List, length, take, drop, ap, arith, length-append}
use Rattle.ras_base.specs.LittleEndian.{u64_bytes}
use Rattle.entry_format.specs.declared.version.Version.TheVariants.{Two}
use Rattle.journal_format.specs.Checkpoints.{checkpoint_bytes}
use Rattle.ras_journal.specs.Laws.{magic}
use Rattle.ras_recover.proofs.FormattingLemmas.{behind_is, put_within}
use Rattle.ras_recover.proofs.formatting.next_bytes.Goals as goal

pub put_count-requires : goal.put_count-requires
put_count-requires c =
    let checkpoint = checkpoint_bytes Two c.args.account.now.state in
    let named = c.in_ok-extend_from_slice.ensures.items ∙ ap (λ (l : List ℕ). l ++ magic Two) c.in_ok-bytes.ensures.items in
    let numbered = c.in_ok-push_u64.ensures.ok ∙ ap (λ (l : List ℕ). l ++ u64_bytes c.args.generation) named in
    let room = c.in_ok-push_u64-2.ensures.ok ∙ ap (λ (l : List ℕ). l ++ u64_bytes 0) numbered in
    put_within c.args.generation c.deref_mut.result.now checkpoint (c.deref_mut.ensures.value ∙ (c.in_ok-push_checkpoint.ensures.bytes ∙ ap (λ (l : List ℕ). l ++ checkpoint) room))

pub returns-clause-is : goal.returns-clause-is
returns-clause-is c =
    let checkpoint = checkpoint_bytes Two c.args.account.now.state in
    let before = c.deref_mut.result.now in
    let named = c.in_ok-extend_from_slice.ensures.items ∙ ap (λ (l : List ℕ). l ++ magic Two) c.in_ok-bytes.ensures.items in
    let numbered = c.in_ok-push_u64.ensures.ok ∙ ap (λ (l : List ℕ). l ++ u64_bytes c.args.generation) named in
    let room = c.in_ok-push_u64-2.ensures.ok ∙ ap (λ (l : List ℕ). l ++ u64_bytes 0) numbered in
    let begun = c.deref_mut.ensures.value ∙ (c.in_ok-push_checkpoint.ensures.bytes ∙ ap (λ (l : List ℕ). l ++ checkpoint) room) in
    let count : c.len.result - c.len-front.result ≡ length checkpoint =
    omega (arith, c.len.ensures, c.len-front.ensures, ap length c.in_ok-push_checkpoint.ensures.bytes, length-append c.push_u64-2.new.out.items checkpoint) in
    let put = c.put_count.ensures ∙ ap (λ (n : ℕ). take 16 before ++ (u64_bytes n ++ drop 8 (drop 16 before))) count in
    c.in_ok-push.ensures.items ∙ behind_is c.args.generation c.push_checkpoint.new.bytes.len before c.put_count.new.bytes _ checkpoint begun put c.deref_mut.ensures.len
