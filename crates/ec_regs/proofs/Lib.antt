pub mod BitLemmas
pub mod RecordLemmas
pub mod PairLemmas
pub mod BitRunLemmas
pub mod PlanLemmas
pub mod AlLemmas
pub mod Laws
