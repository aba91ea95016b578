pub mod CommandLemmas
