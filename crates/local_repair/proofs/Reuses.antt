-- A grammar in which a rule was used again is no larger.
use Rattle.std.proofs.Common.{◌≡◌, ◌≢◌, ℕ, zero, suc, ◌+◌, ◌-◌, ◌<◌, List, [], ◌∷◌, length, get_or, Option, Some, None, refl, sym, ap, ◌∙◌, subst, arith}
use Rattle.rule_arena.specs.Preorder.{AreTerms}
use Rattle.rule_arena.specs.Terms.{Node, kids_of, parent_in}
use Rattle.rule_arena.specs.declared.key.Key.{Key}
use Rattle.rule_arena.specs.declared.label.Label.{Label}
use Rattle.rule_arena.specs.declared.label.Label.TheVariants.{Bottom, Symbol, Call, Param}
use Rattle.slt_grammar.specs.Algebras.{ranks_of}
use Rattle.slt_grammar.specs.Bodies.{calls_in, real_nodes}
use Rattle.slt_grammar.specs.Calling.{BeginsWith, called_nodes}
use Rattle.slt_grammar.specs.Grammars.{IsSwept, body_at, calls_of, size, value_at}
use Rattle.slt_grammar.specs.Holding.{IsLawful}
use Rattle.slt_grammar.specs.Keyed.{Keyed, KeyedRule, IsKeyed, key_at, labels_of, nodes_at, rules_of}
use Rattle.slt_grammar.specs.KeyedEdits.{Stands, with_nodes}
use Rattle.slt_grammar.specs.Ranks.{greatest_rank}
use Rattle.slt_grammar.proofs.CalledRules.{called-ranks, called-weighs, in-list}
use Rattle.slt_grammar.proofs.KeyedEdits.{length-with_nodes, nodes-others, rules-with_nodes}
use Rattle.slt_grammar.proofs.KeyedLemmas.{body_at-rules_of, length-rules_of, nodes-are-term}
use Rattle.slt_grammar.proofs.RankBounds.{rank-same}
use Rattle.slt_grammar.proofs.Removals.{none-calls}
use Rattle.slt_grammar.proofs.Weights.{call_weight, calls-total, calls-weigh, real_weight, real-weigh, total, total-with_body, weigh}
use Rattle.digram_index.specs.Linked.{IsIndexOf, Linked, cell}
use Rattle.digram_index.proofs.Apartness.{one-key}
use Rattle.digram_index.proofs.RootClimbs.{climbs-on}
use Rattle.local_repair.specs.Settling.{IsNoLarger}

-- a body has a node that is no parameter where its first one is none
some-real : (ns : List Node) → AreTerms kids_of 1 ns → get_or (labels_of ns) 0 Bottom ≢ Param → 0 < real_nodes (labels_of ns)
some-real [] t d = absurd t
some-real (n ∷ ns) t d = omega (arith, real-weigh (n.label ∷ labels_of ns), by n.label refl)
  where
    by : (l : Label) → n.label ≡ l → 0 < real_weight n.label
    by Bottom e = rw e (omega arith)
    by (Symbol f) e = rw e (omega arith)
    by (Call q) e = rw e (omega arith)
    by Param e = absurd (d e)

module _ (g h : Keyed) (K : IsKeyed g) (at : Key) (q : ℕ) (arguments : List Key) (B : BeginsWith g.rules at q arguments) (call : Key)
    (made : h.rules ≡ with_nodes g.rules B.here.rule (called_nodes (nodes_at g.rules B.here.rule) B.here.place call (Call q) B.args)) where
  abbrev G : List KeyedRule
  G = g.rules

  abbrev r : ℕ
  r = B.here.rule

  abbrev callee : List Node
  callee = nodes_at g.rules q

  abbrev ms : List Node
  ms = called_nodes (nodes_at g.rules B.here.rule) B.here.place call (Call q) B.args

  L : IsLawful g.rules
  L = record { grammar = K.grammar; arities = K.arities }

  in-r : r < length G
  in-r = in-list G at q arguments call L B

  rules-are : rules_of h.rules ≡ rules_of (with_nodes G r ms)
  rules-are = ap (λ (H : List KeyedRule). rules_of H) made

  as-many : length h.rules ≡ length G
  as-many = ap (λ (H : List KeyedRule). length H) made ∙ length-with_nodes G r ms in-r

  -- the calls of what went are counted off, and the new one counted
  moved-calls : (s : ℕ) → calls_of (rules_of h.rules) s + calls_in s (labels_of callee) ≡ calls_of (rules_of G) s + calls_in s (Call q ∷ [])
  moved-calls s =
      omega (
        arith,
        (called-weighs G at q arguments call L B (call_weight s) refl).0,
        calls-weigh s (labels_of callee),
        calls-weigh s (Call q ∷ []),
        calls-total s (rules_of G),
        calls-total s (rules_of h.rules),
        ap (total (call_weight s)) rules-are,
        ap (total (call_weight s)) (rules-with_nodes G r ms),
        total-with_body (call_weight s) (rules_of G) r (labels_of ms) (omega (arith, in-r, length-rules_of G)),
        ap (weigh (call_weight s)) (body_at-rules_of G r),
      )

  -- a rule that is called in what went is called in the rule's body, which stays
  still-swept : IsSwept (rules_of G) → IsSwept (rules_of h.rules)
  still-swept S s l = by (calls_of (rules_of h.rules) s) refl
    where
      stays : body_at (rules_of h.rules) q ≡ labels_of callee
      stays =
          body_at-rules_of h.rules q ∙ ap (λ (H : List KeyedRule). labels_of (nodes_at H q)) made
          ∙ ap labels_of (nodes-others G r q ms in-r (λ z. let e = B.earlier in omega (arith, z, e)))

      by : (n : ℕ) → calls_of (rules_of h.rules) s ≡ n → 0 < calls_of (rules_of h.rules) s
      by (suc n) e = omega (arith, e)
      by zero e =
          let none : calls_in s (labels_of callee) ≡ 0 = ap (calls_in s) (sym stays) ∙ none-calls s (rules_of h.rules) e q in
          let some = S s (omega (arith, l, as-many, length-rules_of G, length-rules_of h.rules)) in
          absurd (omega (arith, e, none, some, moved-calls s))

  some-nodes : 0 < real_nodes (body_at (rules_of G) q)
  some-nodes =
      let d : get_or (labels_of callee) 0 Bottom ≢ Param = subst (λ (ls : List Label). get_or ls 0 Bottom ≢ Param) (body_at-rules_of G q) B.real in
      subst (λ (ls : List Label). 0 < real_nodes ls) (sym (body_at-rules_of G q)) (some-real callee (nodes-are-term g K q (let e = B.earlier in omega (arith, e, in-r))) d)

  pub no-larger-called : ((s : ℕ) → value_at (rules_of h.rules) s ≡ value_at (rules_of G) s) → size (rules_of h.rules) + real_nodes (body_at (rules_of G) q) ≡ size (rules_of G) + 1 → IsNoLarger (rules_of G) (rules_of h.rules)
  no-larger-called values sizes = record {
    same = values (length (rules_of h.rules) - 1) ∙ ap (λ (n : ℕ). value_at (rules_of G) (n - 1)) (length-rules_of h.rules ∙ as-many ∙ sym (length-rules_of G));
    nodes = omega (arith, sizes, some-nodes);
    together = omega (arith, sizes, some-nodes, as-many, length-rules_of G, length-rules_of h.rules);
    swept = still-swept;
  }

  pub rank-called : greatest_rank (rules_of h.rules) ≡ greatest_rank (rules_of G)
  rank-called = rank-same (rules_of G) (rules_of h.rules) (ap (λ (H : List KeyedRule). ranks_of (rules_of H)) made ∙ called-ranks G at q arguments call L B)

-- the parent of a node stands in the grammar
pub parent-stands : (g : Keyed) → IsKeyed g → (key : Key) → Stands g.rules key → (parent : Option (Key × ℕ)) → ((r p : ℕ) → key_at g.rules r p ≡ Some key → parent_in (nodes_at g.rules r) p ≡ parent)
    → (up : Key) (c : ℕ) → parent ≡ Some (up, c) → Stands g.rules up
parent-stands g K key S parent told up c e =
    let w = (climbs-on g K key key (record { low = S; at = S.place; there = S.there }) parent told up c e).0 in
    record { rule = w.low.rule; place = w.at; there = w.there }

-- what is linked stands in the grammar
pub linked-stands : (g : Keyed) (I : Linked) → IsIndexOf g I → (key : Key) → cell I key.number ≢ None → Stands g.rules key
linked-stands g I A key x =
    let w = A.only key.number x in
    record { rule = w.1.0; place = w.1.1.0; there = w.1.1.1.0 ∙ ap Some (one-key w.0 key w.1.1.1.1) }
