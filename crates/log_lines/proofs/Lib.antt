pub mod JoinLemmas
pub mod LimitLemmas
pub mod TookLemmas
pub mod DimmLemmas
mod DimmTextLemmas
mod DimmRangeLemmas
mod SayingLemmas
mod LawLemmas
mod WholeLemmas
mod CheckLemmas
mod BorderLemmas
mod LogDimmLemmas
