-- The hardest song of n bytes: how many thefts it has, that none has more, and that ours has them.
pub mod Hardest
