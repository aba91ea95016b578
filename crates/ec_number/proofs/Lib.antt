pub mod CopyLemmas
pub mod NumberLemmas
pub mod UnderLemmas
pub mod Laws
