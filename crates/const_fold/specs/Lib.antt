pub mod Exponents
pub mod Folds
pub mod MatrixProducts
pub mod OperatorTexts
