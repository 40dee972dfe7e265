-- Bytes that break, behind the state in which a reader began.
use Rattle.std.specs.Prelude.{◌≡◌, ℕ, false, List, ◌∷◌, ◌++◌, length}
use Rattle.xml_tokenizer.specs.LineEnds.{ends_in_return, is_dropped, line_end_of}
use Rattle.xml_tokenizer.specs.declared.scan.Scan.{Scan}
use Rattle.xml_nodes.specs.Machine.{State, Event}
use Rattle.xml_nodes.specs.Stands.{StandsFrom, Refuses}
use Rattle.xml_profile.specs.Reading.{StandsFrom as HasRead}
use Rattle.xml_profile.specs.declared.reader.Reader.{Reader}

-- The bytes break in the token that begins at this place: those in front of it are tokens that lead the machine on, and one of its
-- bytes is refused.
pub record BreaksFrom (from : State) (bytes : List ℕ) (at : ℕ) : Type 0 where
  pub front : List ℕ
  pub raw : List ℕ
  pub held : List ℕ
  pub scan : Scan
  pub now : State
  pub log : List Event
  pub behind : StandsFrom from front raw held scan now log
  pub c : ℕ
  pub rest : List ℕ
  pub whole : bytes ≡ (front ++ raw) ++ c ∷ rest
  pub kept : is_dropped (ends_in_return false (front ++ raw)) c ≡ false
  pub bad : Refuses held scan now (line_end_of c)
  pub begins : at ≡ length front

-- behind these calls more were made, which a builder's log shows; in all they are those of these bytes
pub record ReadsOn (from : State) (r : Reader) (before after calls : List Event) (fed : List ℕ) : Type 0 where
  pub more : List Event
  pub logged : after ≡ before ++ more
  pub stands : HasRead from r (calls ++ more) fed
