mod Gathered
mod NamedLists
mod NearShapes
mod ShortSteps
mod TouchingLemmas
