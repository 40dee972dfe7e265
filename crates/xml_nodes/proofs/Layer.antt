-- The two laws of the crates below on which the proofs here rest: a text is one token's, and it is scanned to its end.
pub use Rattle.xml_tokens.proofs.TokenLaws.{one_token}
pub use Rattle.xml_tokenizer.proofs.WholeScans.{scans}
