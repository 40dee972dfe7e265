-- Grammars whose values differ in one place.
use Rattle.std.specs.Prelude.{◌≡◌, ℕ, ◌-◌, List, [], ◌∷◌, length, get_or}
use Rattle.rule_arena.specs.Preorder.{with_subterm}
use Rattle.rule_arena.specs.declared.label.Label.{Label}
use Rattle.rule_arena.specs.declared.label.Label.TheVariants.{Bottom, Symbol, Param}
use Rattle.slt_grammar.specs.Algebras.{meaning, ranks_of, all_meanings}
use Rattle.slt_grammar.specs.Bodies.{arity}
use Rattle.slt_grammar.specs.Grammars.{body_at, value}
use Rattle.slt_grammar.specs.Terms.{Term, Node, Hole, substitute, term_algebra, holes, holes_of}
use Rattle.slt_grammar.specs.declared.rules.Rule.{Rule}

-- the body of the start
abbrev pub start_body : List Rule → List Label
start_body G = body_at G (length G - 1)

-- the term of the start's body around the node at a place: a parameter stands there, whose hole is the term's only one
abbrev pub term_around : List Rule → ℕ → Term
term_around G place =
    meaning term_algebra (ranks_of G) (all_meanings term_algebra G) (with_subterm (arity (ranks_of G)) (start_body G) place (Param ∷ [])) (holes 0 1)

-- around the node at a place of the start's body the values are the same, and there the first has this term and the second that
pub record DifferAt (G H : List Rule) (place : ℕ) (this that : Term) : Type 0 where
  pub once : holes_of (term_around G place) ≡ Hole 0 ∷ []
  pub first : value G ≡ substitute (term_around G place) (this ∷ [])
  pub second : value H ≡ substitute (term_around G place) (that ∷ [])

-- in the value the node at a place of the start's body has another symbol over the same terms
pub record ChangesSymbol (G H : List Rule) (place symbol : ℕ) : Type 0 where
  pub was : ℕ
  pub left : Term
  pub right : Term
  pub label : get_or (start_body G) place Bottom ≡ Symbol was
  pub differ : DifferAt G H place (Node was left right) (Node symbol left right)

-- in the value the node at a place of the start's body gives way to its second term
pub record GivesWay (G H : List Rule) (place : ℕ) : Type 0 where
  pub was : ℕ
  pub left : Term
  pub right : Term
  pub label : get_or (start_body G) place Bottom ≡ Symbol was
  pub differ : DifferAt G H place (Node was left right) right

-- in the value the term of the node at a place of the start's body stands in the hole of the term of another body
pub record StandsWithin (G H : List Rule) (place : ℕ) (body : List Label) : Type 0 where
  pub term : Term
  pub differ : DifferAt G H place term (substitute (meaning term_algebra (ranks_of G) (all_meanings term_algebra G) body (holes 0 1)) (term ∷ []))
