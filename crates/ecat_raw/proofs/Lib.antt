mod AroundLemmas
mod HeaderLemmas
