pub mod Ops
pub mod Ranking
pub mod Beside
pub mod Rebalancing
