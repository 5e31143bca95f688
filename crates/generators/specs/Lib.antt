-- The generators: what each is, and how one is assigned.
pub mod Generators
