pub mod Rules
pub mod RuleWords
pub mod Plans
pub mod RuleText
pub mod RunFaults
pub mod RuleLines
