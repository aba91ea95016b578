pub mod ApplicationLemmas
pub mod DeviceLemmas
