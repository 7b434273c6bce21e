pub mod Answers
pub mod Densities
pub mod DrawnNets
pub mod Exchanges
pub mod MeasuredNets
pub mod NetMeasures
pub mod NetWalks
