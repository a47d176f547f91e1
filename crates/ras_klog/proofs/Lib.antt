mod LineLemmas
mod GroupLemmas
mod FilterLemmas
mod TakeLemmas
mod TextLemmas
mod OutputLemmas
