pub mod Splits
pub mod Grounds
pub mod Cliques
