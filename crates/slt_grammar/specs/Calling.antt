-- Terms that begin with a rule's body, and calls of the rule in their place.
use Rattle.std.specs.Prelude.{◌≡◌, ◌≢◌, ◌<◌, ℕ, List, ◌∷◌, length}
use Rattle.std.specs.List.{flat_map}
use Rattle.rule_arena.specs.Preorder.{subterm, with_subterm}
use Rattle.rule_arena.specs.Terms.{Node, kids_of}
use Rattle.rule_arena.specs.declared.key.Key.{Key}
use Rattle.rule_arena.specs.declared.label.Label.{Label}
use Rattle.rule_arena.specs.declared.label.Label.TheVariants.{Param}
use Rattle.slt_grammar.specs.Copying.{copied, holes_in}
use Rattle.slt_grammar.specs.Detaching.{AreArgs}
use Rattle.slt_grammar.specs.Keyed.{KeyedRule, nodes_at}
use Rattle.slt_grammar.specs.KeyedEdits.{Stands, label_at}

-- the term at a key is the body of an earlier rule, with terms of these roots in the places of its parameters
pub record BeginsWith (G : List KeyedRule) (at : Key) (rule : ℕ) (arguments : List Key) : Type 0 where
  pub here : Stands G at
  pub earlier : rule < here.rule
  -- the body is no parameter alone
  pub real : label_at G rule 0 ≢ Param
  pub args : List (List Node)
  pub roots : AreArgs arguments args
  pub enough : length args ≡ holes_in (nodes_at G rule)
  -- the keys of the body's nodes here
  pub keys : List Key
  pub many : length keys ≡ length (nodes_at G rule)
  pub term : subterm kids_of (nodes_at G here.rule) here.place ≡ copied (nodes_at G rule) args keys

-- the nodes with a call over these terms in the place of the term at a place
abbrev pub called_nodes : List Node → ℕ → Key → Label → List (List Node) → List Node
called_nodes ns p key label args = with_subterm kids_of ns p (record { key = key; label = label; kids = length args } ∷ flat_map (λ zs. zs) args)

-- these nodes are a body over terms of these roots
pub record IsBodyOver (body xs : List Node) (found : List Key) : Type 0 where
  pub args : List (List Node)
  pub keys : List Key
  pub roots : AreArgs found args
  pub enough : length args ≡ holes_in body
  pub many : length keys ≡ length body
  pub is : xs ≡ copied body args keys
