mod FileLemmas
mod UseLemmas
mod OpenLemmas
mod WriteLemmas
mod QuietLemmas
mod StoreLemmas
mod PrintLemmas
pub mod CallLemmas
