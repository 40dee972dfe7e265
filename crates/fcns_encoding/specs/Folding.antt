-- What a folder's fields tell of its calls.
use Rattle.std.specs.Prelude.{◌≡◌, ℕ, ◌+◌, Bool, true, List, [], ◌∷◌, ◌++◌, Option, Some, None, slice_get, get_or}
use Rattle.plain_tree.specs.declared.kind.Kind.TheVariants as kind
use Rattle.plain_tree.specs.Tree.{Tree, node, Trees}
use Rattle.xml_nodes.specs.Machine.{Event, Opened, Leaf, Closed, events, events_all, IsShaped, AreShaped}
use Rattle.xml_nodes.specs.Taking.{Built}
use Rattle.slt_grammar.specs.Terms.{Term, Leaf as Bottom, Node, Hole}
use Rattle.slt_grammar.specs.Coding.{Codes}
use Rattle.fcns_encoding.specs.Calls.{begun_pairs, event_texts, valued}
use Rattle.fcns_encoding.specs.Cells.{terms_of, AreUsed}
use Rattle.fcns_encoding.specs.Interning.{Pair, Interns, tree_pair}
use Rattle.fcns_encoding.specs.declared.part.Part.{Part}
use Rattle.fcns_encoding.specs.declared.part.Part.TheVariants.{Begun, Whole}
use Rattle.fcns_encoding.specs.declared.subterms.Cell.{Cell}

abbrev pub kids_of : Tree → Trees
kids_of (node kind name value kids) = kids

-- The calls made the parts of the stack, from its bottom: an element that was begun, by its symbol, or a whole node, by its
-- symbol and the number of its kids' code.
abbrev pub Builds : List Pair → List Term → List Part → List Event → Type 0
Builds names terms [] log = log ≡ []
Builds names terms (Begun symbol ∷ parts) log =
    (name : List ℕ) × (rest : List Event) × (slice_get names symbol ≡ Some (kind.Element, name)) × (log ≡ Opened name ∷ rest) × Builds names terms parts rest
Builds names terms (Whole symbol below ∷ parts) log =
    (t : Tree) × (term : Term) × (rest : List Event) × IsShaped t × (slice_get names symbol ≡ Some (tree_pair t))
    × (slice_get terms below ≡ Some term) × Codes names (kids_of t) term × (log ≡ events t rest) × Builds names terms parts rest

-- these names, terms, texts and parts tell these calls
pub record Tells (names : List Pair) (terms : List Term) (values : List (List ℕ)) (stack : List Part) (log : List Event) : Type 0 where
  pub named : Interns [] (begun_pairs log) names
  pub texts : values ≡ event_texts log
  pub built : Builds names terms stack log

-- the pair of a symbol
abbrev pub pair_at : List Pair → ℕ → Pair
pair_at names symbol = get_or names symbol (kind.Text, [])

-- a node's calls without its value: those inside it, or those behind it where it is a leaf
abbrev pub node_calls : Pair → List Event → List Event → List Event
node_calls (kind.Element, name) inside behind = Opened name ∷ inside
node_calls (k, name) inside behind = Leaf k name [] ∷ behind

-- the calls of a code, without values, and then these
abbrev pub term_calls : List Pair → Term → List Event → List Event
term_calls names Bottom next = next
term_calls names (Node symbol a b) next = node_calls (pair_at names symbol) (term_calls names a (Closed ∷ term_calls names b next)) (term_calls names b next)
term_calls names (Hole i) next = next

-- the calls that made a stack, without values
abbrev pub stack_calls : List Pair → List Term → List Part → List Event
stack_calls names terms [] = []
stack_calls names terms (Begun symbol ∷ parts) = Opened (pair_at names symbol).1 ∷ stack_calls names terms parts
stack_calls names terms (Whole symbol below ∷ parts) =
    node_calls (pair_at names symbol) (term_calls names (get_or terms below Bottom) (Closed ∷ stack_calls names terms parts)) (stack_calls names terms parts)

-- the calls that a folder got, by what it keeps
abbrev pub told : List Pair → List Cell → List (List ℕ) → List Part → List Event
told names cells values stack = valued (stack_calls names (terms_of cells) stack) values

-- how many elements were begun and not closed
abbrev pub begun_in : List Part → ℕ
begun_in [] = 0
begun_in (Begun symbol ∷ parts) = begun_in parts + 1
begun_in (Whole symbol below ∷ parts) = begun_in parts

-- the numbers that whole nodes wait with
abbrev pub waiting : List Part → List ℕ
waiting [] = []
waiting (Begun symbol ∷ parts) = waiting parts
waiting (Whole symbol below ∷ parts) = below ∷ waiting parts

-- what contracts see of a folder
abbrev pub folded_by : List Pair → List Cell → List (List ℕ) → List Part → Bool → Built
folded_by names cells values stack sound = record { log = told names cells values stack; sound = sound; depth = begun_in stack }

-- the fields tell their calls, and no cell is without use
pub record IsFolding (names : List Pair) (cells : List Cell) (values : List (List ℕ)) (stack : List Part) : Type 0 where
  pub tells : Tells names (terms_of cells) values stack (told names cells values stack)
  pub used : AreUsed cells (waiting stack)

-- a folder whose calls were not refused
abbrev pub IsFolder : List Pair → List Cell → List (List ℕ) → List Part → Bool → Type 0
IsFolder names cells values stack sound = sound ≡ true → IsFolding names cells values stack

-- The last kids of what the stack holds were taken from it, and a number has their code.
pub record Taking (names : List Pair) (terms : List Term) (stack : List Part) (log : List Event) (number : ℕ) : Type 0 where
  pub front : List Event
  pub kids : Trees
  pub term : Term
  pub shaped : AreShaped kids
  pub whole : log ≡ front ++ events_all kids []
  pub value : slice_get terms number ≡ Some term
  pub codes : Codes names kids term
  pub built : Builds names terms stack front

-- what stood before the last kids was taken too: an element that was begun, or nothing
abbrev pub Stood : List Pair → List Term → List Part → List Event → Option ℕ → Type 0
Stood names terms stack log None = (stack ≡ []) × (log ≡ [])
Stood names terms stack log (Some symbol) =
    (name : List ℕ) × (before : List Event) × (slice_get names symbol ≡ Some (kind.Element, name)) × (log ≡ before ++ Opened name ∷ []) × Builds names terms stack before

-- the same, with what stood before them
pub record Taken (names : List Pair) (terms : List Term) (stack : List Part) (log : List Event) (number : ℕ) (begun : Option ℕ) : Type 0 where
  pub front : List Event
  pub kids : Trees
  pub term : Term
  pub shaped : AreShaped kids
  pub whole : log ≡ front ++ events_all kids []
  pub value : slice_get terms number ≡ Some term
  pub codes : Codes names kids term
  pub stood : Stood names terms stack front begun

-- each pair keeps its place
abbrev pub KeepsPairs : List Pair → List Pair → Type 0
KeepsPairs old new = (i : ℕ) (pair : Pair) → slice_get old i ≡ Some pair → slice_get new i ≡ Some pair
