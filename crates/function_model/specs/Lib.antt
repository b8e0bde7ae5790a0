pub mod FunctionGrammar
pub mod FunctionMeaning
pub mod FunctionText
pub mod FunctionValue
