pub mod BestFraction
pub mod ComplexFolds
pub mod Folds
pub mod LiteralValues
pub mod OneForm
pub mod Splits
pub mod Stored
