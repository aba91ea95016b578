mod HistoryLemmas
mod OwnLemmas
