mod ChangeLemmas
mod SetLemmas
