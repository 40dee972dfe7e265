-- Which tokens spell which model.
use Rattle.std.specs.Prelude.{ℕ, List, [], ◌∷◌}
use Rattle.content_models.specs.Models.{Model, Named, Nothing, Then, Either, Optional, Any, Some}

-- the tokens of a model
pub data Token : Type 0 where
  Word : (name : List ℕ) → Token
  Open : Token
  Close : Token
  Comma : Token
  Bar : Token
  Question : Token
  Star : Token
  Plus : Token

mutual
  -- the front of the first list spells the model, and the second list follows
  pub data IsModel : Model → List Token → List Token → Type 0 where
    one_sequence : (m : Model) (a b : List Token) → IsSequence m a b → IsModel m a b
    more_sequences : (m n : Model) (a b c : List Token) → IsModel m a (Bar ∷ b) → IsSequence n b c → IsModel (Either m n) a c

  pub data IsSequence : Model → List Token → List Token → Type 0 where
    one_item : (m : Model) (a b : List Token) → IsItem m a b → IsSequence m a b
    more_items : (m n : Model) (a b c : List Token) → IsSequence m a (Comma ∷ b) → IsItem n b c → IsSequence (Then m n) a c

  pub data IsItem : Model → List Token → List Token → Type 0 where
    plain : (m : Model) (a b : List Token) → IsAtom m a b → IsItem m a b
    optional : (m : Model) (a b : List Token) → IsAtom m a (Question ∷ b) → IsItem (Optional m) a b
    any : (m : Model) (a b : List Token) → IsAtom m a (Star ∷ b) → IsItem (Any m) a b
    some : (m : Model) (a b : List Token) → IsAtom m a (Plus ∷ b) → IsItem (Some m) a b

  pub data IsAtom : Model → List Token → List Token → Type 0 where
    name : (w : List ℕ) (a : List Token) → IsAtom (Named w) (Word w ∷ a) a
    empty : (a : List Token) → IsAtom Nothing (Open ∷ Close ∷ a) a
    inside : (m : Model) (a b : List Token) → IsModel m a (Close ∷ b) → IsAtom m (Open ∷ a) b

-- all tokens spell the model
abbrev pub Spells : List Token → Model → Type 0
Spells ts m = IsModel m ts []
