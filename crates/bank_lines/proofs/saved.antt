mod LayoutLemmas
mod ReadingLemmas
mod LawLemmas
mod TextLemmas
mod PrintingLemmas
