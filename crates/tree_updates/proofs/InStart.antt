-- A node of the start's body that is changed, by its number.
use Rattle.std.proofs.Common.{◌≡◌, ℕ, zero, suc, ◌+◌, ◌-◌, ◌<◌, ◌≤◌, List, [], ◌∷◌, ◌++◌, length, take, drop, slice_get, refl, sym, ap, ◌∙◌, arith}
use Rattle.rule_arena.specs.Terms.{Node}
use Rattle.rule_arena.specs.declared.key.Key.{Key}
use Rattle.segment_counts.specs.Weights.{node_weight}
use Rattle.slt_grammar.specs.ChangedValues.{DifferAt, term_around}
use Rattle.slt_grammar.specs.Grammars.{rank_at, value, value_at}
use Rattle.slt_grammar.specs.Keyed.{KeyedRule, rules_of}
use Rattle.slt_grammar.specs.KeyedEdits.{StandsInStart, with_nodes}
use Rattle.slt_grammar.specs.RuleValues.{HaveOtherValues}
use Rattle.slt_grammar.specs.Terms.{Term}
use Rattle.slt_grammar.specs.declared.rules.Rule.{Rule}
use Rattle.slt_grammar.proofs.KeyedEdits.{length-with_nodes}
use Rattle.slt_grammar.proofs.KeyedLemmas.{key_at-within}
use Rattle.path_isolation.specs.Isolations.{DifferInStart}
use Rattle.tree_updates.specs.Differences.{DifferThere, hole_at}
use Rattle.tree_updates.specs.Numbered.{IsNodeIsolated}

pub last : (H : List KeyedRule) (n : ℕ) (key : Key) → IsNodeIsolated H n key → length H - 1 + 1 ≡ length H
last H n key I = let h = (key_at-within H (length H - 1) I.place key I.there).0 in omega (arith, h)

-- the node as one that `lift` and `relabel` take
abbrev pub in-start : (H : List KeyedRule) (n : ℕ) (key : Key) → IsNodeIsolated H n key → StandsInStart H key
in-start H n key I = record {
  node = record { here = record { rule = length H - 1; place = I.place; there = I.there }; symbol = I.symbol; label = I.label };
  start = last H n key I;
}

-- rules of the same values have the same value
pub same-value : (G H : List Rule) → length H ≡ length G → ((r : ℕ) → value_at H r ≡ value_at G r) → value H ≡ value G
same-value G H n v = v (length H - 1) ∙ ap (λ (k : ℕ). value_at G (k - 1)) n

pub differ-number : (G H K : List Rule) (place n : ℕ) (this that : Term) → value H ≡ value G → DifferAt H K place this that → hole_at node_weight (term_around H place) ≡ n → DifferThere node_weight G K n this that
differ-number G H K place n this that v D b = record { around = term_around H place; once = D.once; before = b; first = sym v ∙ D.first; second = D.second }

-- what stays of the values of rules where the start's alone is another
pub others-stay : (G H K : List Rule) → length H ≡ length G → ((r : ℕ) → value_at H r ≡ value_at G r) → HaveOtherValues (length H - 1) H K → HaveOtherValues (length G - 1) G K
others-stay G H K n v o = record {
  rules = o.rules ∙ n;
  values = λ r d h. o.values r (λ e. d (e ∙ ap (λ (k : ℕ). k - 1) n)) (omega (arith, h, n)) ∙ v r;
}

before-rule : (G : List KeyedRule) (r s : ℕ) (rest : List KeyedRule) → r ≤ length G → s < r → slice_get (take r G ++ rest) s ≡ slice_get G s
before-rule [] r s rest h l = absurd (omega (arith, h, l))
before-rule (R ∷ G) zero s rest h l = absurd (omega (arith, l))
before-rule (R ∷ G) (suc r) zero rest h l = refl
before-rule (R ∷ G) (suc r) (suc s) rest h l = before-rule G r s rest (omega (arith, h)) (omega (arith, l))

-- rules whose start gets other nodes still differ in the start alone
pub lifted-others : (G H K : List KeyedRule) (r : ℕ) (ns : List Node) → r + 1 ≡ length H → DifferInStart G H → K ≡ with_nodes H r ns → DifferInStart G K
lifted-others G H K r ns e D new = record {
  many = ap length new ∙ length-with_nodes H r ns (omega (arith, e)) ∙ D.many;
  others = λ s h.
      let many = D.many in
      ap (λ L. slice_get L s) new ∙ before-rule H r s (record { rank = rank_at (rules_of H) r; nodes = ns } ∷ drop (r + 1) H) (omega (arith, e)) (omega (arith, h, e, many)) ∙ D.others s h;
}
