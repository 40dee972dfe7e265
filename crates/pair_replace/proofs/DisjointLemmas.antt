-- Occurrences that share no node, before a replacement and behind it.
use Rattle.std.proofs.Common.{◌≡◌, ◌⊎◌, inl, inr, ◌-◌, ℕ, suc, List, [], ◌∷◌, length, Some, refl, ap, sym, ◌∙◌, arith}
use Rattle.std.proofs.lemmas.Bool.{cases_eq}
use Rattle.rule_arena.specs.declared.key.Key.{Key}
use Rattle.slt_grammar.specs.Algebras.{ranks_of}
use Rattle.slt_grammar.specs.Digrams.{Occurrence, Occurs}
use Rattle.slt_grammar.specs.Keyed.{Keyed, KeyedRule, IsKeyed, rules_of}
use Rattle.slt_grammar.specs.KeyedEdits.{digram_body}
use Rattle.slt_grammar.specs.declared.digram.Digram.{Digram}
use Rattle.slt_grammar.specs.declared.rules.Rule.{Rule}
use Rattle.digram_index.specs.Keeping.{IsIndexBut}
use Rattle.digram_index.specs.Linked.{Linked}
use Rattle.digram_index.specs.Settled.{NodePair, OccursBetween, SharesNone, OccurApart, HasApart}
use Rattle.digram_index.proofs.Apartness.{one-key}
use Rattle.digram_index.proofs.PlainDigrams.{Shows, keyed-occurs, disjoint-apart}
use Rattle.pair_replace.specs.Chains.{IsLinkedAs}
use Rattle.pair_replace.specs.Disjoint.{IsDisjointFrom, OccurDisjoint}
use Rattle.pair_replace.specs.NewRules.{IsNewRule, IsRuleOf}

module _ (g : Keyed) (K : IsKeyed g) (d : Digram) where
  -- the nodes of occurrences
  abbrev pairs : (os : List Occurrence) → OccurDisjoint (rules_of g.rules) d os → List NodePair
  pairs [] D = []
  pairs (o ∷ os) D = (keyed-occurs g K d o D.0).0 ∷ pairs os D.1.1

  length-pairs : (os : List Occurrence) (D : OccurDisjoint (rules_of g.rules) d os) → length (pairs os D) ≡ length os
  length-pairs [] D = refl
  length-pairs (o ∷ os) D = ap suc (length-pairs os D.1.1)

  share-none : (o : Occurrence) (n : NodePair) → Shows g.rules o n → (os : List Occurrence) (D : OccurDisjoint (rules_of g.rules) d os) → IsDisjointFrom o os → SharesNone n (pairs os D)
  share-none o n S [] D P = tt
  share-none o n S (p ∷ ps) D P = (disjoint-apart g K o p n (keyed-occurs g K d p D.0).0 S (keyed-occurs g K d p D.0).1.1 P.0, share-none o n S ps D.1.1 P.1)

  occur-apart : (os : List Occurrence) (D : OccurDisjoint (rules_of g.rules) d os) → OccurApart g.rules d (pairs os D)
  occur-apart [] D = tt
  occur-apart (o ∷ os) D =
      let O = keyed-occurs g K d o D.0 in
      (O.1.0, (share-none o O.0 O.1.1 os D.1.1 D.1.0, occur-apart os D.1.1))

  -- occurrences that share no node are so many among nodes with keys
  pub all-apart : (os : List Occurrence) → OccurDisjoint (rules_of g.rules) d os → HasApart g.rules d (length os)
  all-apart os D = (pairs os D, (occur-apart os D, let e = length-pairs os D in omega (arith, e)))

  -- where no occurrence is linked but that of the new rule, which is left out, the digram occurs there alone
  pub occurs-there : (rule : ℕ) (own : Key) → IsNewRule g.rules d rule own → (I : Linked) → IsIndexBut g I (λ k. k ≡ own.number) → ((k : ℕ) → IsLinkedAs I d k → ⊥)
      → (o : Occurrence) → Occurs (rules_of g.rules) d o → o.rule ≡ rule
  occurs-there rule own N I B none o O = at (cases_eq n.key.number own.number)
    where
      w : (p : NodePair) × (OccursBetween g.rules d p × Shows g.rules o p)
      w = keyed-occurs g K d o O

      n : OccursBetween g.rules d w.0
      n = w.1.0

      at : (n.key.number ≡ own.number) ⊎ (n.key.number ≡ own.number → ⊥) → o.rule ≡ rule
      at (inl z) =
          let k : w.1.1.low ≡ own = one-key w.1.1.low own (w.1.1.low_is ∙ sym n.low ∙ z) in
          (K.once own o.rule o.lower rule d.place (w.1.1.low_there ∙ ap Some k) N.there).0
      at (inr f) = absurd (none n.key.number (n.occurrence, (B.all n.at.rule n.at.place n.key n.at.there f ∙ n.at.here, n.digram)))

-- folding leaves the new rule as it was
pub rule-stays : (G : List Rule) (M H : List KeyedRule) (d : Digram) (rule : ℕ) (a b : Key) → IsNewRule M d rule a → IsNewRule H d rule b → ranks_of (rules_of H) ≡ ranks_of (rules_of M)
    → IsRuleOf G (rules_of M) d rule → IsRuleOf G (rules_of H) d rule
rule-stays G M H d rule a b N O e R = record {
  behind = R.behind;
  body = O.body ∙ ap (λ (ranks : List ℕ). digram_body ranks d.upper (d.place - 1) d.lower) e ∙ sym N.body ∙ R.body;
  ranks = e ∙ R.ranks;
}
