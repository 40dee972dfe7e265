-- What a reader has read, and where bytes go wrong.
use Rattle.std.specs.Prelude.{◌≡◌, ℕ, false, List, [], ◌++◌, length, Option, Some, None, Result, Ok, Err}
use Rattle.plain_tree.specs.Tree.{Tree, Trees}
use Rattle.xml_tokens.specs.Tokens.{Token, AreTokens}
use Rattle.xml_tokenizer.specs.LineEnds.{line_ends}
use Rattle.xml_tokenizer.specs.Standing.{Stands as HasCut}
use Rattle.xml_nodes.specs.Content.{IsContent}
use Rattle.xml_nodes.specs.Machine.{State, Event, events, events_all, steps, start}
use Rattle.xml_nodes.specs.Place.{IsPlace, IsListPlace, IsValuePlace}
use Rattle.xml_nodes.specs.Spelling.{Spells, SpellsList, SpellsValue}
use Rattle.xml_nodes.specs.StateOf.{state_of}
use Rattle.xml_profile.specs.declared.error.XmlError.{XmlError}
use Rattle.xml_profile.specs.declared.error.XmlError.TheVariants.{Bad, Memory}
use Rattle.xml_profile.specs.declared.reader.Reader.{Reader}

-- the bytes spell no document, and this is the place where they go wrong
pub record IsBad (bytes : List ℕ) (at : ℕ) : Type 0 where
  pub none : (tree : Tree) → Spells bytes tree → ⊥
  pub place : IsPlace bytes at

-- so with fragments
pub record IsBadList (bytes : List ℕ) (at : ℕ) : Type 0 where
  pub none : (nodes : Trees) → SpellsList bytes nodes → ⊥
  pub place : IsListPlace bytes at

-- and with values
pub record IsBadValue (bytes : List ℕ) (at : ℕ) : Type 0 where
  pub none : (value : List ℕ) → SpellsValue bytes value → ⊥
  pub place : IsValuePlace bytes at

-- The reader, which began in the state from, was fed these bytes: up to a token that is not whole they are tokens, and these are the
-- calls that the tokens make.
pub record StandsFrom (from : State) (r : Reader) (calls : List Event) (fed : List ℕ) : Type 0 where
  pub tokens : List Token
  pub cut : HasCut r.tokenizer tokens fed
  pub stepped : steps from tokens ≡ Some (state_of r.machine, calls)

-- the reader of a document was fed these bytes, and made these calls
abbrev pub Stands : Reader → List Event → List ℕ → Type 0
Stands = StandsFrom start

abbrev pub IsFedSo : Option XmlError → Reader → List Event → List ℕ → Type 0
IsFedSo None r calls fed = Stands r calls fed
IsFedSo (Some (Bad at)) r calls fed = (next : List ℕ) → IsBad (fed ++ next) at
IsFedSo (Some Memory) r calls fed = Unit {0}

-- The reader of a document was fed these bytes, and made these calls of them; behind `Bad` they go wrong at its place, however they go
-- on, and behind `Memory` nothing is known of them.
abbrev pub IsFed : Reader → List Event → List ℕ → Type 0
IsFed r calls fed = IsFedSo r.failed r calls fed

-- behind these calls more were made, which a builder's log shows, unless the reader failed; in all they are those of these bytes
pub record IsFedOn (r : Reader) (before after calls : List Event) (bytes : List ℕ) : Type 0 where
  pub more : List Event
  pub logged : r.failed ≡ None → after ≡ before ++ more
  pub fed : IsFed r (calls ++ more) bytes

-- how many bytes were fed
abbrev pub count_of : Reader → ℕ
count_of r = r.tokenizer.count

-- how many elements are open
abbrev pub depth_of : Reader → ℕ
depth_of r = length (state_of r.machine).names

-- the bytes spell a document with these calls, and nothing is open any more
pub record EndsDocument (r : Reader) (calls : List Event) (fed : List ℕ) : Type 0 where
  pub tree : Tree
  pub spelled : Spells fed tree
  pub logged : calls ≡ events tree []
  pub closed : depth_of r ≡ 0

-- The bytes are a content, which gives these nodes; the builder got those of their calls that it had not got yet. Where there are
-- nodes, the bytes spell them.
pub record EndsContent (before after calls : List Event) (fed : List ℕ) : Type 0 where
  pub nodes : Trees
  pub tokens : List Token
  pub cut : AreTokens tokens (line_ends fed) []
  pub content : IsContent nodes false tokens []
  pub more : List Event
  pub logged : after ≡ before ++ more
  pub all : calls ++ more ≡ events_all nodes []

-- what a call answers, by how the reader failed
abbrev pub answer_of : Option XmlError → Result (Unit {0}) XmlError
answer_of None = Ok tt
answer_of (Some e) = Err e
