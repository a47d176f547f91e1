pub mod OwnerLemmas
pub mod TopologyLemmas
pub mod NamedLemmas
pub mod RoomLemmas
pub mod RangeLemmas
pub mod TableLemmas
pub mod LocationLemmas
