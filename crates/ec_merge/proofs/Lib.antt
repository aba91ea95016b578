pub mod BytesLemmas
pub mod FrameLemmas
pub mod Laws
