-- Nodes that came in the place of a call: copies of a rule's nodes, with the call's arguments in the places of its parameters.
use Rattle.std.specs.Prelude.{◌≡◌, ◌≤◌, ◌+◌, ◌⊎◌, ℕ, List, [], ◌∷◌, ◌++◌, length, drop, get_or, Option, Some, IsSome}
use Rattle.rule_arena.specs.Preorder.{AreTerms, span}
use Rattle.rule_arena.specs.Terms.{Node, kids_of}
use Rattle.rule_arena.specs.declared.key.Key.{Key}
use Rattle.rule_arena.specs.declared.label.Label.{Label}
use Rattle.rule_arena.specs.declared.label.Label.TheVariants.{Bottom, Symbol, Call, Param}
use Rattle.slt_grammar.specs.Copying.{copied, hole, holes_in}
use Rattle.slt_grammar.specs.Keyed.{Keyed, key_at, nodes_at}
use Rattle.slt_grammar.specs.KeyedEdits.{Stands}
use Rattle.digram_index.specs.Linked.{Linked}
use Rattle.digram_index.specs.Partly.{IsPartOf, IsRight}

-- the place behind the term of the node at a place
abbrev pub end_of : List Node → ℕ → ℕ
end_of ns p = p + span kids_of 1 (drop p ns)

-- each of these is one term
abbrev pub AreEachTerms : List (List Node) → Type 0
AreEachTerms [] = Unit {0}
AreEachTerms (g ∷ given) = AreTerms kids_of 1 g × AreEachTerms given

-- how many nodes come in the place of one with this label: a copy, or the whole argument of a parameter
abbrev pub width : Label → List (List Node) → ℕ
width Bottom given = 1
width (Symbol f) given = 1
width (Call q) given = 1
width Param given = length (get_or given 0 [])

-- a place in a copy over arguments where a copied node stands, or the root of an argument
abbrev pub Meets : List Node → List (List Node) → ℕ → Type 0
Meets [] given t = ⊥
Meets (n ∷ ns) given t = (t ≡ 0) ⊎ ((u : ℕ) × ((t ≡ width n.label given + u) × Meets ns (drop (hole n.label) given) u))

-- the index has each occurrence of the grammar, but for those of a copy of a rule's body from a node of that body on
pub record IsCopyLinked (g : Keyed) (I : Linked) (q : ℕ) (model copy : Option Key) : Type 0 where
  pub at : ℕ
  pub rule : ℕ
  pub place : ℕ
  pub given : List (List Node)
  pub keys : List Key
  pub back : List Node
  pub model_at : key_at g.rules q at ≡ model
  pub copy_at : IsSome model → key_at g.rules rule place ≡ copy
  pub within : at ≤ length (nodes_at g.rules q)
  pub rest : drop place (nodes_at g.rules rule) ≡ copied (drop at (nodes_at g.rules q)) given keys ++ back
  pub terms : AreEachTerms given
  pub many : length given ≡ holes_in (drop at (nodes_at g.rules q))
  pub part : IsPartOf g I
  pub todo : (key : Key) → Stands g.rules key → IsRight g.rules I key ⊎ ((t : ℕ) × (Meets (drop at (nodes_at g.rules q)) given t × (key_at g.rules rule (place + t) ≡ Some key)))
