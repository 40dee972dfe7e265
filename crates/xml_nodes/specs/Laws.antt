-- What holds between bytes, tokens, trees and a builder's calls.
use Rattle.std.specs.Prelude.{◌≡◌, ◌≢◌, ◌≤◌, ℕ, false, List, [], ◌∷◌, ◌++◌, Some, length}
use Rattle.std.specs.List.{AllByRecursion}
use Rattle.plain_tree.specs.Tree.{Tree, Trees, node_count, node_count_all}
use Rattle.plain_tree.specs.Lawful.{IsDocument, IsFragment}
use Rattle.plain_tree.specs.Joined.{joined, joined_all}
use Rattle.xml_tokens.specs.Tokens.{Token, End}
use Rattle.xml_nodes.specs.Content.{AreDocument, IsContent}
use Rattle.xml_nodes.specs.Spelling.{Spells, SpellsList, SpellsValue}
use Rattle.xml_nodes.specs.Saved.{saved_bytes}
use Rattle.xml_nodes.specs.Machine.{State, Event, events, events_all, steps, start, end, fragment_start}
use Rattle.xml_nodes.specs.declared.stage.Stage.TheVariants.{Epilog}

-- bytes spell at most one document, one fragment, one value
abbrev pub SpellsOne : Type 0
SpellsOne = (bytes : List ℕ) (s t : Tree) → Spells bytes s → Spells bytes t → s ≡ t

abbrev pub SpellsOneList : Type 0
SpellsOneList = (bytes : List ℕ) (s t : Trees) → SpellsList bytes s → SpellsList bytes t → s ≡ t

abbrev pub SpellsOneValue : Type 0
SpellsOneValue = (bytes v w : List ℕ) → SpellsValue bytes v → SpellsValue bytes w → v ≡ w

-- what bytes spell is a lawful document of at most as many nodes as there are bytes, and no two of its texts are neighbours
abbrev pub SpellsDocument : Type 0
SpellsDocument = (bytes : List ℕ) (t : Tree) → Spells bytes t → IsDocument t × (node_count t ≤ length bytes) × (joined t ≡ t)

-- and so with fragments
abbrev pub SpellsFragment : Type 0
SpellsFragment = (bytes : List ℕ) (nodes : Trees) → SpellsList bytes nodes → IsFragment nodes × (node_count_all nodes ≤ length bytes) × (joined_all nodes ≡ nodes)

-- the saved bytes of a lawful document spell it, with neighbouring texts joined
abbrev pub SavedIsSpelled : Type 0
SavedIsSpelled = (t : Tree) → IsDocument t → Spells (saved_bytes t) (joined t)

-- the tokens of a document lead the machine from the start to the end, through the calls of its tree
abbrev pub DocumentLeads : Type 0
DocumentLeads = (tokens : List Token) (tree : Tree) → AreDocument tokens tree → steps start tokens ≡ Some (end, events tree [])

-- the tokens are a document with these calls
pub record IsLogged (tokens : List Token) (calls : List Event) : Type 0 where
  pub tree : Tree
  pub are : AreDocument tokens tree
  pub logged : calls ≡ events tree []

-- tokens that lead the machine from the start to its last stage are a document, and its calls are those
abbrev pub LeadsToDocument : Type 0
LeadsToDocument = (tokens : List Token) (last : State) (calls : List Event) → steps start tokens ≡ Some (last, calls) → last.stage ≡ Epilog → IsLogged tokens calls

-- no end tag is without a name
abbrev pub HasName : Token → Type 0
HasName t = t ≢ End []

-- the tokens of a fragment, and then the end of the element without a name, lead the machine through the calls of its nodes
abbrev pub FragmentLeads : Type 0
FragmentLeads = (tokens : List Token) (nodes : Trees) → IsContent nodes false tokens []
    → steps fragment_start (tokens ++ End [] ∷ []) ≡ Some (end, events_all nodes (Event.Closed ∷ []))

-- the tokens are a content with these calls
pub record IsLoggedList (tokens : List Token) (calls : List Event) : Type 0 where
  pub nodes : Trees
  pub are : IsContent nodes false tokens []
  pub logged : calls ≡ events_all nodes (Event.Closed ∷ [])

-- and tokens that lead there are a content with those calls
abbrev pub LeadsToFragment : Type 0
LeadsToFragment = (tokens : List Token) (last : State) (calls : List Event) → AllByRecursion HasName tokens
    → steps fragment_start (tokens ++ End [] ∷ []) ≡ Some (last, calls) → last.stage ≡ Epilog → IsLoggedList tokens calls
