mod BitLemmas
mod CountLemmas
mod ReportLemmas
mod CountedLemmas
mod FilterLemmas
mod LineLemmas
mod TotalLemmas
mod TextLemmas
