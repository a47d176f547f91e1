pub mod ItemLemmas
pub mod BankLemmas
pub mod LabelLemmas
