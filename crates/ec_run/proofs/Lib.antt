mod AskLemmas
mod AlongLemmas
mod StepLemmas
mod RecoveryLemmas
mod StatesLemmas
mod OutputLemmas
mod InputsLemmas
mod ImagesLemmas
mod TravelsLemmas
mod EndLemmas
mod CycleTripsLemmas
mod TallyLemmas
mod AlikeLemmas
mod AlikeTurnLemmas
mod AlikeCycleLemmas
pub mod Laws
