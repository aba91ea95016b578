mod FrontLemmas
mod HexLemmas
mod HistogramLemmas
mod LineLemmas
mod PassedLemmas
mod SecondsLemmas
mod StatsLemmas
mod TallyLemmas
