pub mod RuleTexts
pub mod Rows
