-- Rules that are put among others.
use Rattle.std.specs.Prelude.{◌≡◌, ◌≤◌, ℕ, List, [], ◌∷◌, length, map, Some, None, slice_get}
use Rattle.rule_arena.specs.Terms.{Node, Terms, AreDistinctKeys, term_at}
use Rattle.rule_arena.specs.declared.key.Key.{Key}
use Rattle.rule_arena.specs.declared.label.Label.{Label}
use Rattle.rule_arena.specs.declared.label.Label.TheVariants.{Param}
use Rattle.slt_grammar.specs.Algebras.{ranks_of}
use Rattle.slt_grammar.specs.Bodies.{params, CallsBelow, IsTerm}
use Rattle.slt_grammar.specs.Building.{TermsStay}
use Rattle.slt_grammar.specs.Copying.{copied, holes_in}
use Rattle.slt_grammar.specs.Keyed.{KeyedRule, labels_of}
use Rattle.slt_grammar.specs.KeyedEdits.{rule_put}
use Rattle.slt_grammar.specs.declared.rules.Rule.{Rule}

-- a lawful body and rank of a rule before the one at a place
pub record IsLawfulBefore (G : List Rule) (place rank : ℕ) (body : List Label) : Type 0 where
  pub earlier : CallsBelow place body
  pub term : IsTerm (ranks_of G) body
  pub small : rank ≤ 8
  pub linear : params body ≡ rank

-- a rule of this rank and body, whose nodes have some keys, was put before the one at a place
pub record IsPut (G H : List KeyedRule) (place rank : ℕ) (body : List Label) : Type 0 where
  pub nodes : List Node
  pub labels : labels_of nodes ≡ body
  pub rules : H ≡ rule_put G place (record { rank = rank; nodes = nodes })

-- a parameter as a term
abbrev pub param_of : Key → List Node
param_of k = record { key = k; label = Param; kids = 0 } ∷ []

-- each key is the new root of a parameter, and the terms of before stay
pub record AreNewParams (a b : Terms) (keys : List Key) : Type 0 where
  pub stand : (i : ℕ) (k : Key) → slice_get keys i ≡ Some k → term_at b k.number ≡ Some (param_of k)
  pub new : (i : ℕ) (k : Key) → slice_get keys i ≡ Some k → term_at a k.number ≡ None
  pub distinct : AreDistinctKeys keys
  pub keeps : TermsStay a b

-- a copy of nodes stands under a new root, with parameters in the places of its parameters, and the terms of before stay
pub record IsLaid (a b : Terms) (ns : List Node) (root : Key) : Type 0 where
  pub leaves : List Key
  pub enough : length leaves ≡ holes_in ns
  pub keys : List Key
  pub term : term_at b root.number ≡ Some (copied ns (map param_of leaves) keys)
  pub new : term_at a root.number ≡ None
  pub keeps : TermsStay a b
