use Rattle.std.proofs.Common.{ℕ, ◌++◌, List, [], arith, subst, sym}
use Rattle.bank_lines.specs.Naming.{IsNamed, keys_of, names_of}
use Rattle.bank_lines.proofs.CountLemmas.{all_names}
use Rattle.bank_lines.proofs.NamingLemmas.{are_distinct, counts_both, is_few, is_given, keys_both, mixed_all, mixed_no_more}
use Rattle.bank_lines.proofs.naming_laws.errors_have_one_name.Goals as goal

pub returns-clause-distinct : goal.returns-clause-distinct
returns-clause-distinct c = λ reports. are_distinct [] (keys_of reports)

pub returns-clause-given : goal.returns-clause-given
returns-clause-given c = λ reports key k less. is_given [] (keys_of reports) key k (omega arith) (omega (arith, less))

pub returns-clause-few : goal.returns-clause-few
returns-clause-few c = λ reports key k named. omega (arith, is_few [] (keys_of reports) key k named)

pub returns-clause-alike : goal.returns-clause-alike
returns-clause-alike c = λ log trace key k same named.
    is_given [] (keys_of trace) key k (omega arith) (omega (arith, is_few [] (keys_of log) key k named, same))

pub returns-clause-within : goal.returns-clause-within
returns-clause-within c = λ log trace key k more named.
    is_given [] (keys_of trace) key k (omega arith) (omega (arith, is_few [] (keys_of log) key k named, more))

pub returns-clause-later : goal.returns-clause-later
returns-clause-later c = λ before after key k named.
    let both : List ℕ = keys_of before ++ keys_of after in
    subst (λ (keys : List ℕ). IsNamed key k (names_of keys)) (sym (keys_both before after)) (
    is_given [] both key k (omega arith) (omega (arith, is_few [] (keys_of after) key k named, counts_both key (keys_of before) (keys_of after))))

pub returns-clause-both : goal.returns-clause-both
returns-clause-both c = λ log trace given key k mixed less. mixed_all (keys_of log) (keys_of trace) given key k mixed less

pub returns-clause-no_more : goal.returns-clause-no_more
returns-clause-no_more c = λ log trace given key k mixed named. mixed_no_more (keys_of log) (keys_of trace) given key k mixed named

pub returns-clause-named : goal.returns-clause-named
returns-clause-named c = λ boot reports all few. all_names boot reports all few
