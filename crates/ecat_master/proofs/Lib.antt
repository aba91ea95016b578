mod CourseLemmas
mod CountsLemmas
mod StartLemmas
mod LeavingLemmas
mod OverLemmas
mod GoodRunLemmas
mod EndedLemmas
mod ScanLemmas
mod IdentityLemmas
mod StartTripsLemmas
mod OverRingLemmas
mod FoundLemmas
pub mod Laws
