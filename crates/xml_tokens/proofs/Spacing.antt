-- What a byte of a value gives, where it gives itself.
use Rattle.std.proofs.Common.{◌≡◌, ℕ, true, refl, arith}
use Rattle.std.proofs.lemmas.Bool.Decides.{nat_tests}
use Rattle.xml_tokens.specs.Seen.{byte_given}
use Rattle.xml_tokens.specs.TokenAt.{gives_itself}
use Rattle.xml_tokens.specs.declared.values.Spaces.{Spaces}
use Rattle.xml_tokens.specs.declared.values.Spaces.TheVariants as spaces

pub same_given : (s : Spaces) (c : ℕ) → gives_itself c ≡ true → byte_given s c ≡ c
same_given spaces.Kept c e = refl
same_given spaces.Spaced c e = grind (arith, nat_tests)
