-- Copies of a rule's nodes over the arguments of a call.
use Rattle.std.specs.Prelude.{◌≡◌, ℕ, zero, suc, ◌+◌, ◌≤◌, List, [], ◌∷◌, ◌++◌, drop, length, get_or, Some, IsSome, slice_get, ◌⊎◌, None}
use Rattle.rule_arena.specs.Preorder.{terms, span, with_subterm}
use Rattle.rule_arena.specs.Terms.{Node, Terms, term_at, key_in, kids_of, Apart}
use Rattle.rule_arena.specs.declared.key.Key.{Key}
use Rattle.rule_arena.specs.declared.label.Label.{Label}
use Rattle.rule_arena.specs.declared.label.Label.TheVariants.{Bottom, Symbol, Call, Param}
use Rattle.slt_grammar.specs.Holding.{terms_of, Changed, IsIn}

-- one for a parameter
abbrev pub hole : Label → ℕ
hole Bottom = 0
hole (Symbol f) = 0
hole (Call q) = 0
hole Param = 1

-- how many parameters there are
abbrev pub holes_in : List Node → ℕ
holes_in [] = 0
holes_in (n ∷ ns) = hole n.label + holes_in ns

-- a node that can be copied: at most eight children, and none below a parameter
pub record IsShape (n : Node) : Type 0 where
  pub few : n.kids ≤ 8
  pub leaf : n.label ≡ Param → n.kids ≡ 0

-- a node under another key before what follows it, or an argument in a parameter's place
abbrev pub copied_node : Label → Node → Key → List (List Node) → List Node → List Node
copied_node Param n k given rest = get_or given 0 [] ++ rest
copied_node Bottom n k given rest = record n { key = k } ∷ rest
copied_node (Symbol f) n k given rest = record n { key = k } ∷ rest
copied_node (Call q) n k given rest = record n { key = k } ∷ rest

-- the nodes under other keys, with the arguments in the places of the parameters
abbrev pub copied : List Node → List (List Node) → List Key → List Node
copied [] given keys = []
copied (n ∷ ns) given keys = copied_node n.label n (get_or keys 0 n.key) given (copied ns (drop (hole n.label) given) (drop 1 keys))

-- how many children the node at a place has
abbrev pub kids_at : List Node → ℕ → ℕ
kids_at [] p = 0
kids_at (n ∷ ns) zero = n.kids
kids_at (n ∷ ns) (suc p) = kids_at ns p

-- the terms of its children, and what follows them
abbrev pub args_at : List Node → ℕ → List (List Node)
args_at ns p = terms kids_of (kids_at ns p) (drop (p + 1) ns)

abbrev pub back_at : List Node → ℕ → List Node
back_at ns p = drop (span kids_of (kids_at ns p) (drop (p + 1) ns)) (drop (p + 1) ns)

-- the nodes with a copy of a rule's nodes over the children of the call at a place
abbrev pub inlined_nodes : List Node → ℕ → List Node → List Key → List Node
inlined_nodes ns p callee keys = with_subterm kids_of ns p (copied callee (args_at ns p) keys)

-- a key stands at most once among nodes
abbrev pub StandsOnce : List Node → Key → Type 0
StandsOnce ns key = (p q : ℕ) → key_in ns p ≡ Some key → key_in ns q ≡ Some key → p ≡ q

-- a copy of the nodes stands over the arguments; each node of the copied ones, an argument's root in a parameter's place, has
-- its key in a list
pub record Built (a b : Terms) (ns : List Node) (args : List Key) (root follow followed : Key) : Type 0 where
  pub keys : List Key
  pub many : length keys ≡ length ns
  pub term : term_at b root.number ≡ Some (copied ns (terms_of a args) keys)
  pub follows : StandsOnce ns follow → (q : ℕ) → key_in ns q ≡ Some follow → slice_get keys q ≡ Some followed
  pub origin : (term_at a root.number ≡ None) ⊎ IsIn args root
  pub others : (r : ℕ) → IsSome (term_at a r) → Apart args r → term_at b r ≡ term_at a r

-- a new term stands over the arguments, under a new root or one of theirs
pub record Made (a b : Terms) (args : List Key) (root : Key) (ms : List Node) : Type 0 where
  pub term : term_at b root.number ≡ Some ms
  pub origin : (term_at a root.number ≡ None) ⊎ IsIn args root
  pub others : (r : ℕ) → IsSome (term_at a r) → Apart args r → term_at b r ≡ term_at a r

-- a call gave way to a copy of nodes over its children, under this root; each of the copied ones, a child in a parameter's place, has
-- its key in a list
pub record InlinedAt (a b : Terms) (roots news : List Key) (r : ℕ) (ns : List Node) (p : ℕ) (callee : List Node) (follow followed root : Key) : Type 0 where
  pub keys : List Key
  pub many : length keys ≡ length callee
  pub changed : Changed a b roots news r (inlined_nodes ns p callee keys)
  pub follows : (q : ℕ) → key_in callee q ≡ Some follow → slice_get keys q ≡ Some followed
  pub first : key_in (inlined_nodes ns p callee keys) p ≡ Some root
