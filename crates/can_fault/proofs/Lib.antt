pub mod VerdictMaps
pub mod NamedSets
pub mod Sayings
pub mod ScriptLaws
pub mod LineGrammar
