mod ControllerLemmas
mod FilterLemmas
mod GuidLemmas
mod TracedLemmas
mod FlagLemmas
mod AerLemmas
mod RawLemmas
mod SectionEventLemmas
mod PlaceLemmas
mod PlacedLemmas
mod UnnamedLemmas
mod KindLemmas
mod MemoryLemmas
mod DriverLemmas
pub mod DimmLemmas
mod ExtlogLemmas
mod LineLemmas
mod NameLemmas
pub mod SectionLemmas
mod MemoryBlockLemmas
pub mod EventTextLemmas
