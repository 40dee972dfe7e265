-- What a tokenizer has read, and where bytes break.
use Rattle.std.specs.Prelude.{◌≡◌, ℕ, ◌+◌, false, List, [], ◌∷◌, ◌++◌, length, ◌⊎◌, Option, Some, None}
use Rattle.xml_tokens.specs.Tokens.{Token, IsToken, AreTokens}
use Rattle.xml_tokenizer.specs.LineEnds.{line_ends, line_ends_after, ends_in_return, is_dropped, begins_dropped, line_end_of, Become}
use Rattle.xml_tokenizer.specs.Scanning.{scanned, scan_step}
use Rattle.xml_tokenizer.specs.Taking.{taken}
use Rattle.xml_tokenizer.specs.declared.scan.Scan.{Scan}
use Rattle.xml_tokenizer.specs.declared.scan.Scan.TheVariants.{Idle}
use Rattle.xml_tokenizer.specs.declared.scan.Step.TheVariants.{On, Whole, Dead}
use Rattle.xml_tokenizer.specs.declared.tokenizer.Tokenizer.{Tokenizer}

-- The bytes at the front are these tokens; the raw bytes behind them begin one token more and are held, with line ends done, and over
-- them the scan has come this far.
pub record StandsAt (front raw held : List ℕ) (scan : Scan) (tokens : List Token) : Type 0 where
  pub cut : AreTokens tokens (line_ends front) []
  pub rest : held ≡ line_ends_after (ends_in_return false front) raw
  pub kept : begins_dropped (ends_in_return false front) raw ≡ false
  pub waits : scanned (On Idle) held ≡ On scan

-- these bytes were fed, so many; they are these tokens up to the start of the one that is held
pub record HasRead (held : List ℕ) (scan : Scan) (count start : ℕ) (tokens : List Token) (fed : List ℕ) : Type 0 where
  pub front : List ℕ
  pub raw : List ℕ
  pub whole : fed ≡ front ++ raw
  pub behind : StandsAt front raw held scan tokens
  pub counted : count ≡ length fed
  pub begins : start ≡ length front

abbrev pub Holds : Tokenizer → List Token → List ℕ → Type 0
Holds t tokens fed = HasRead t.held.items t.scan t.count t.start tokens fed

-- the tokenizer was fed these bytes, and has given these tokens
pub record Stands (t : Tokenizer) (tokens : List Token) (fed : List ℕ) : Type 0 where
  pub read : Holds t tokens fed
  pub returned : t.after_return ≡ ends_in_return false fed

module _ {State : Type 0} (step : State → Token → Option State) where
  -- behind these tokens more were taken, which led from now to next; R holds of them all
  pub record GoesOn (R : List Token → Type 0) (now next : State) (tokens : List Token) : Type 0 where
    pub more : List Token
    pub took : taken step now more ≡ Some next
    pub holds : R (tokens ++ more)

  -- behind the bytes held this one is bad: no token has it there, or it ends what is no token that may stand there
  abbrev pub IsBad : State → List ℕ → Scan → ℕ → Type 0
  IsBad now held scan c = (scan_step scan c ≡ Dead) ⊎ ((scan_step scan c ≡ Whole) × ((t : Token) → IsToken t (held ++ c ∷ []) → step now t ≡ None))

  -- The bytes break in the token that begins at this place: those in front of it are tokens that were taken, more of them behind these,
  -- and one of its bytes is bad.
  pub record BreaksAt (now : State) (tokens : List Token) (bytes : List ℕ) (at : ℕ) : Type 0 where
    pub more : List Token
    pub last : State
    pub took : taken step now more ≡ Some last
    pub front : List ℕ
    pub raw : List ℕ
    pub held : List ℕ
    pub scan : Scan
    pub behind : StandsAt front raw held scan (tokens ++ more)
    pub c : ℕ
    pub rest : List ℕ
    pub whole : bytes ≡ (front ++ raw) ++ c ∷ rest
    pub kept : is_dropped (ends_in_return false (front ++ raw)) c ≡ false
    pub bad : IsBad last held scan (line_end_of c)
    pub begins : at ≡ length front

  -- no bytes that begin so are tokens that go on behind these and may stand there
  abbrev pub NoneFollow : State → List Token → List ℕ → Type 0
  NoneFollow now tokens bytes =
      (next : List ℕ) (more : List Token) (last : State) → AreTokens (tokens ++ more) (line_ends (bytes ++ next)) [] → taken step now more ≡ Some last → ⊥

  -- From the one tokenizer and state to the other the front of the bytes was taken, whose line ends are done; after is left.
  pub record Advances (old new : Tokenizer) (now next : State) (bytes after : List ℕ) : Type 0 where
    pub front : List ℕ
    pub whole : bytes ≡ front ++ after
    pub counts : new.count + length after ≡ old.count + length bytes
    pub goes : (tokens : List Token) (fed raw : List ℕ) → Become (ends_in_return false fed) raw front → Holds old tokens fed
        → GoesOn (λ ts. Holds new ts (fed ++ raw)) now next tokens

  -- and here they break
  abbrev pub Breaks : Tokenizer → ℕ → State → List ℕ → Type 0
  Breaks old at now bytes = (tokens : List Token) (fed raw : List ℕ) → Become (ends_in_return false fed) raw bytes → Holds old tokens fed → BreaksAt now tokens (fed ++ raw) at

  -- from the one tokenizer and state to the other the front of the raw bytes was taken, and after is left
  pub record ReadsPiece (old new : Tokenizer) (now next : State) (piece after : List ℕ) : Type 0 where
    pub front : List ℕ
    pub whole : piece ≡ front ++ after
    pub counts : new.count + length after ≡ old.count + length piece
    pub goes : (tokens : List Token) (fed : List ℕ) → Stands old tokens fed → GoesOn (λ ts. Stands new ts (fed ++ front)) now next tokens
