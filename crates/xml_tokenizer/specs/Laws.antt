-- What holds of the scan, and of runs.
use Rattle.std.specs.Prelude.{◌≡◌, ℕ, List, [], ◌++◌}
use Rattle.std.specs.Str.{chars}
use Rattle.xml_tokens.specs.Tokens.{Token, IsToken, AreTokens}
use Rattle.xml_tokenizer.specs.Runs.{IsRun, characters}
use Rattle.xml_tokenizer.specs.Scanning.{scanned}
use Rattle.xml_tokenizer.specs.declared.scan.Scan.TheVariants.{Idle}
use Rattle.xml_tokenizer.specs.declared.scan.Step.{Step}
use Rattle.xml_tokenizer.specs.declared.scan.Step.TheVariants.{On, Whole}

-- every token's text is scanned to its end, and not before
abbrev pub Scans : Type 0
Scans = (t : Token) (x : List ℕ) → IsToken t x → scanned (On Idle) x ≡ Whole

-- two texts that are scanned to their ends in the same bytes are one
abbrev pub OneCut : Type 0
OneCut = (s : Step) (x y a b : List ℕ) → scanned s x ≡ Whole → scanned s y ≡ Whole → x ++ a ≡ y ++ b → (x ≡ y) × (a ≡ b)

-- bytes are cut into tokens in one way
abbrev pub OneCutting : Type 0
OneCutting = (ts us : List Token) (bytes : List ℕ) → AreTokens ts bytes [] → AreTokens us bytes [] → ts ≡ us

-- a run is its characters, each a token
abbrev pub CharactersAreTokens : Type 0
CharactersAreTokens = (x after : List ℕ) → IsRun x → AreTokens (characters (chars x)) (x ++ after) after
