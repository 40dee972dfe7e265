-- What a replacement leaves.
use Rattle.std.proofs.Common.{◌≡◌, ◌≢◌, ◌⊎◌, inl, inr, ℕ, zero, suc, ◌+◌, ◌-◌, ◌<◌, ◌≤◌, List, [], ◌∷◌, length, sym, ap, ◌∙◌, Some, None, arith}
use Rattle.std.proofs.lemmas.Bool.{cases_eq, cases_lt}
use Rattle.rule_arena.specs.declared.key.Key.{Key}
use Rattle.slt_grammar.specs.Bodies.{calls_in}
use Rattle.slt_grammar.specs.Editing.{shifted}
use Rattle.slt_grammar.specs.Grammars.{calls_of, value, value_at, IsSwept}
use Rattle.slt_grammar.specs.Keyed.{Keyed, KeyedRule, IsKeyed, rules_of, key_at}
use Rattle.slt_grammar.specs.KeyedEdits.{Stands}
use Rattle.slt_grammar.specs.declared.digram.Digram.{Digram}
use Rattle.slt_grammar.proofs.Keeping.{shifted-before, shifted-behind}
use Rattle.slt_grammar.proofs.KeyedLemmas.{length-rules_of}
use Rattle.digram_index.specs.Digrams.{occurrence_at}
use Rattle.digram_index.specs.Keeping.{IsIndexBut}
use Rattle.digram_index.specs.Linked.{Linked, IsIndexOf, cell}
use Rattle.digram_index.proofs.Apartness.{one-key}
use Rattle.pair_replace.specs.NewRules.{IsNewRule}
use Rattle.digram_index.specs.Partly.{IsPartOf, IsRight}
use Rattle.pair_replace.proofs.FoldedCalls.{labels-called}

-- the values of all rules are the value
pub value-same : (G H : List KeyedRule) → ((r : ℕ) → value_at (rules_of H) r ≡ value_at (rules_of G) r) → length H ≡ length G → value (rules_of H) ≡ value (rules_of G)
value-same G H values many =
    let z : length (rules_of H) - 1 ≡ length (rules_of G) - 1 = ap (λ (n : ℕ). n - 1) (length-rules_of H ∙ many ∙ sym (length-rules_of G)) in
    ap (λ (n : ℕ). value_at (rules_of H) n) z ∙ values (length (rules_of G) - 1)

-- an index that lacks one node has part of the occurrences
pub but-part : (g : Keyed) (I : Linked) (own : Key) → IsIndexBut g I (λ k. k ≡ own.number) → IsPartOf g I
but-part g I own B = record {
  rules = B.rules;
  part = λ r p key k. by r p key k (cases_eq key.number own.number);
  only = λ k x. let w = B.only k x in (w.0, (record { rule = w.1.0; place = w.1.1.0; there = w.1.1.1.0 }, w.1.1.1.1));
}
  where
    by : (r p : ℕ) (key : Key) → key_at g.rules r p ≡ Some key → (key.number ≡ own.number) ⊎ (key.number ≡ own.number → ⊥) → (cell I key.number ≡ None) ⊎ (cell I key.number ≡ occurrence_at g.rules r p)
    by r p key k (inl z) = inl (B.free key.number z)
    by r p key k (inr d) = inr (B.all r p key k d)

pub new-stands : (G : List KeyedRule) (d : Digram) (rule : ℕ) (own : Key) → IsNewRule G d rule own → Stands G own
new-stands G d rule own R = record { rule = rule; place = d.place; there = R.there }

-- once that node is linked, it is the grammar's
pub last-linked : (g : Keyed) (I J : Linked) (own : Key) → IsIndexBut g I (λ k. k ≡ own.number) → IsPartOf g J → IsRight g.rules J own → ((k : ℕ) → k ≢ own.number → cell J k ≡ cell I k) → IsIndexOf g J
last-linked g I J own B P right others = record {
  rules = P.rules;
  all = λ r p key k. by r p key k (cases_eq key.number own.number);
  only = λ k x. let w = P.only k x in (w.0, (w.1.0.rule, (w.1.0.place, (w.1.0.there, w.1.1))));
}
  where
    by : (r p : ℕ) (key : Key) → key_at g.rules r p ≡ Some key → (key.number ≡ own.number) ⊎ (key.number ≡ own.number → ⊥) → cell J key.number ≡ occurrence_at g.rules r p
    by r p key k (inl z) = ap (λ (n : ℕ). cell J n) z ∙ right r p (k ∙ ap Some (one-key key own z))
    by r p key k (inr d) = others key.number d ∙ B.all r p key k d

-- each rule that was called still is, by the new rule where its labels call it, and the new rule is
pub all-called : (G M : List KeyedRule) (g : Keyed) (K : IsKeyed g) (d : Digram) (rule : ℕ) (own : Key) (R : IsNewRule g.rules d rule own) → length M ≡ length G + 1 → length g.rules ≡ length M → rule < length G
    → ((q : ℕ) → calls_of (rules_of M) (shifted rule q) ≡ calls_of (rules_of G) q + calls_in q (d.upper ∷ d.lower ∷ []))
    → ((r : ℕ) → calls_in r (d.upper ∷ d.lower ∷ []) ≡ 0 → calls_of (rules_of M) r ≤ calls_of (rules_of g.rules) r) → 2 ≤ calls_of (rules_of g.rules) rule → IsSwept (rules_of G) → IsSwept (rules_of g.rules)
all-called G M g K d rule own R more many within adds keeps two swept = λ r h. at r (omega (arith, h, length-rules_of g.rules)) (cases_eq r rule) (cases_lt r rule)
  where
    old : (r q : ℕ) → shifted rule q ≡ r → q + 1 < length G → 0 < calls_of (rules_of g.rules) r
    old r q e h = by (cases_eq (calls_in r (d.upper ∷ d.lower ∷ [])) 0)
      where
        by : (calls_in r (d.upper ∷ d.lower ∷ []) ≡ 0) ⊎ (calls_in r (d.upper ∷ d.lower ∷ []) ≡ 0 → ⊥) → 0 < calls_of (rules_of g.rules) r
        by (inl z) =
            let s = swept q (omega (arith, h, length-rules_of G)) in
            let a = adds q in
            let k = keeps r z in
            let f = ap (calls_of (rules_of M)) e in
            omega (arith, s, a, k, f)
        by (inr n) = let c = labels-called g K d rule own R r in omega (arith, c, n)

    at : (r : ℕ) → r + 1 < length g.rules → (r ≡ rule) ⊎ (r ≡ rule → ⊥) → (r < rule) ⊎ (rule ≤ r) → 0 < calls_of (rules_of g.rules) r
    at r h (inl z) l = let f = ap (calls_of (rules_of g.rules)) z in omega (arith, two, f)
    at r h (inr n) (inl l) = old r r (shifted-before rule r l) (omega (arith, l, within))
    at zero h (inr n) (inr l) = absurd (omega (arith, n, l))
    at (suc r) h (inr n) (inr l) = old (suc r) r (shifted-behind rule r (omega (arith, n, l))) (omega (arith, h, more, many))
