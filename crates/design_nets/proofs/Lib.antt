pub mod NetLemmas
mod PinLemmas
