pub mod Counts
pub mod EveryRank
pub mod Narrowing
pub mod Lex
