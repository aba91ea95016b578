pub mod RoundLemmas
mod CommandLemmas
mod LinkLemmas
