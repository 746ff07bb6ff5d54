pub mod Examples
pub mod LineExamples
pub mod RuleExamples
pub mod SessionCases
pub mod Widest
pub mod WrongRules
pub mod Zeros
