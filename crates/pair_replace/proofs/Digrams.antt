-- What an occurrence says of its digram.
use Rattle.std.proofs.Common.{◌≡◌, ◌≢◌, ℕ, ◌<◌, ◌≤◌, List, [], ◌∷◌, length, Some, slice_get, sym, ap, ◌∙◌, subst, arith}
use Rattle.rule_arena.specs.Terms.{Node, kids_in}
use Rattle.rule_arena.specs.declared.key.Key.{Key}
use Rattle.rule_arena.specs.declared.label.Label.{Label}
use Rattle.rule_arena.proofs.ChildLemmas.{length-kids}
use Rattle.rule_arena.proofs.NodeLemmas.{key_of_node}
use Rattle.slt_grammar.specs.Names.{Bottom, Symbol, Call, Param}
use Rattle.slt_grammar.specs.Algebras.{ranks_of}
use Rattle.slt_grammar.specs.Bodies.{arity, CallsBelow}
use Rattle.slt_grammar.specs.Grammars.{body_at}
use Rattle.slt_grammar.specs.Keyed.{Keyed, IsKeyed, nodes_at, rules_of}
use Rattle.slt_grammar.specs.KeyedEdits.{label_at}
use Rattle.slt_grammar.specs.declared.digram.Digram.{Digram}
use Rattle.slt_grammar.proofs.Agreeing.{agree-of}
use Rattle.slt_grammar.proofs.FoldedRules.{agree-node}
use Rattle.slt_grammar.proofs.KeptLemmas.{below-get, below-two}
use Rattle.slt_grammar.proofs.KeyedLemmas.{key_at-within, nodes-are-term, label-there, length-rules_of}
use Rattle.digram_index.specs.Digrams.{Cell, OccursAt, occurrence_under, occurrence_below}
use Rattle.digram_index.specs.Settled.{HasTwoDisjoint}
use Rattle.digram_index.proofs.Apartness.{Stands, stands}
use Rattle.digram_index.proofs.ParentLemmas.{parent-key, keyed_place}
use Rattle.digram_index.proofs.PlainDigrams.{keyed-occurs}
use Rattle.pair_replace.proofs.KidLinks.{key-within}
use Rattle.digram_index.proofs.Kids.{child-of, IsChildOf}
use Rattle.pair_replace.proofs.NextFolds.{get-of, under-real}

module _ (g : Keyed) (K : IsKeyed g) (key : Key) (o : Cell) (O : OccursAt g.rules key o) where
  abbrev ranks : List ℕ
  ranks = ranks_of (rules_of g.rules)

  abbrev ns : List Node
  ns = nodes_at g.rules O.rule

  S : Stands g.rules O.rule O.place key o
  S = stands g.rules O.rule O.place key o O.there O.here

  pub within : O.rule < length g.rules
  within = (key_at-within g.rules O.rule O.place key O.there).0

  child : IsChildOf ns O.place (S.up.key, o.digram.place)
  child = child-of ns O.place (S.up.key, o.digram.place) (nodes-are-term g K O.rule within) (parent-key ns O.place ∙ ap keyed_place S.parent)

  -- its place is one of the upper label's
  pub place-first : 1 ≤ o.digram.place
  place-first = let e = child.place in omega (arith, e)

  pub place-last : o.digram.place ≤ arity ranks o.digram.upper
  place-last =
      let z : child.above ≡ S.above = (K.once S.up.key O.rule child.above O.rule S.above child.there (key_of_node ns S.above S.up S.there)).1 in
      let w = key-within (kids_in ns child.above) child.child key (child.is_child ∙ O.there) in
      let n = length-kids 1 ns S.above S.up (nodes-are-term g K O.rule within) S.there in
      let a : S.up.kids ≡ arity ranks S.up.label = agree-node ranks ns S.above S.up (agree-of ranks ns (K.arities O.rule)) S.there in
      let e = child.place in
      let y : length (kids_in ns child.above) ≡ arity ranks o.digram.upper = ap (λ (j : ℕ). length (kids_in ns j)) z ∙ n ∙ a ∙ ap (arity ranks) S.high in
      omega (arith, w, e, y)

  -- its rule may call what its labels call
  pub labels-below : CallsBelow O.rule (o.digram.upper ∷ o.digram.lower ∷ [])
  labels-below =
      let b : CallsBelow O.rule (body_at (rules_of g.rules) O.rule) = (K.grammar.each O.rule (omega (arith, within, length-rules_of g.rules))).earlier in
      let u = get-of (body_at (rules_of g.rules) O.rule) S.above o.digram.upper (label-there g.rules O.rule S.above S.up S.there ∙ ap Some S.high) in
      let l = get-of (body_at (rules_of g.rules) O.rule) O.place o.digram.lower (label-there g.rules O.rule O.place S.node S.here ∙ ap Some S.low) in
      subst (λ (x : Label). CallsBelow O.rule (x ∷ o.digram.lower ∷ [])) u (subst (λ (x : Label). CallsBelow O.rule (label_at g.rules O.rule S.above ∷ x ∷ [])) l
      (below-two O.rule (label_at g.rules O.rule S.above) (label_at g.rules O.rule O.place) (below-get O.rule (body_at (rules_of g.rules) O.rule) S.above b) (below-get O.rule (body_at (rules_of g.rules) O.rule) O.place b)))

  pub lower-real : o.digram.lower ≢ Param
  lower-real z =
      let e : occurrence_under ranks S.up o.digram.place S.node.label ≡ Some o =
      sym (ap (λ u. occurrence_below ranks u (slice_get ns O.place)) S.parent ∙ ap (λ n. occurrence_below ranks (Some (S.up, o.digram.place)) n) S.here) ∙ O.here in
      under-real ranks S.up o.digram.place S.node.label o e (S.low ∙ z)

  pub upper-real : o.digram.upper ≢ Param
  upper-real z = absurd (let f = place-first in let l = place-last in let e = ap (arity ranks) z in omega (arith, f, l, e))

pub upper-small : (r : ℕ) (u l : Label) → CallsBelow r (u ∷ l ∷ []) → (q : ℕ) → u ≡ Call q → q < r
upper-small r u l b q e = (subst (λ (x : Label). CallsBelow r (x ∷ l ∷ [])) e b).0

pub lower-small : (r : ℕ) (u l : Label) → CallsBelow r (u ∷ l ∷ []) → (q : ℕ) → l ≡ Call q → q < r
lower-small r Bottom l b q e = (subst (λ (x : Label). CallsBelow r (x ∷ [])) e b).0
lower-small r (Symbol f) l b q e = (subst (λ (x : Label). CallsBelow r (x ∷ [])) e b).0
lower-small r (Call p) l b q e = (subst (λ (x : Label). CallsBelow r (x ∷ [])) e b.1).0
lower-small r Param l b q e = (subst (λ (x : Label). CallsBelow r (x ∷ [])) e b).0

-- what is said of the digram of an occurrence that is there
pub record IsSound (g : Keyed) (d : Digram) : Type 0 where
  pub first : 1 ≤ d.place
  pub last : d.place ≤ arity (ranks_of (rules_of g.rules)) d.upper
  pub rule : ℕ
  pub within : rule < length g.rules
  pub below : CallsBelow rule (d.upper ∷ d.lower ∷ [])
  pub upper : d.upper ≢ Param
  pub lower : d.lower ≢ Param

pub sound : (g : Keyed) → IsKeyed g → (d : Digram) → HasTwoDisjoint (rules_of g.rules) d → IsSound g d
sound g K d T =
    let P = keyed-occurs g K d T.first T.occurs_first in
    let A = P.1.0 in
    let o = A.occurrence in
    subst (λ (x : Digram). IsSound g x) A.digram (record {
      first = place-first g K A.key o A.at;
      last = place-last g K A.key o A.at;
      rule = A.at.rule;
      within = within g K A.key o A.at;
      below = labels-below g K A.key o A.at;
      upper = upper-real g K A.key o A.at;
      lower = lower-real g K A.key o A.at;
    })
