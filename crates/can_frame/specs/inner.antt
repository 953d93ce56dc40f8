pub mod DigitPairs
