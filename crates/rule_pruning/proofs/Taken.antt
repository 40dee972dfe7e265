-- A rule whose calls were inlined is dropped.
use Rattle.std.proofs.Common.{◌≡◌, ◌≢◌, inl, inr, ℕ, zero, suc, ◌+◌, ◌-◌, ◌*◌, ◌<◌, ◌≤◌, List, [], ◌∷◌, length, map, remove, refl, sym, ap, ◌∙◌, subst, arith}
use Rattle.std.proofs.Math.ListN.{get_or-map}
use Rattle.std.proofs.lemmas.Bool.{cases_lt}
use Rattle.std.proofs.lemmas.List.{length-map}
use Rattle.rule_arena.specs.Terms.{Node}
use Rattle.rule_arena.specs.declared.label.Label.{Label}
use Rattle.rule_arena.specs.declared.label.Label.TheVariants.{Bottom, Symbol, Call, Param}
use Rattle.slt_grammar.specs.Algebras.{ranks_of}
use Rattle.slt_grammar.specs.Bodies.{calls_in, real_nodes}
use Rattle.slt_grammar.specs.Digrams.{Saves}
use Rattle.slt_grammar.specs.Editing.{shifted}
use Rattle.slt_grammar.specs.Grammars.{IsSwept, body_at, calls_of, size, value, value_at}
use Rattle.slt_grammar.specs.Keyed.{Keyed, KeyedRule, IsKeyed, labels_of, nodes_at, rules_of}
use Rattle.slt_grammar.specs.KeyedEdits.{rule_dropped, unshifted_keyed}
use Rattle.slt_grammar.specs.Placing.{unshifted_node}
use Rattle.slt_grammar.specs.Ranks.{greatest_rank}
use Rattle.slt_grammar.specs.declared.rules.Rule.{Rule}
use Rattle.slt_grammar.proofs.Keeping.{shifted-before, shifted-behind}
use Rattle.slt_grammar.proofs.KeyedLemmas.{body_at-rules_of, length-rules_of}
use Rattle.slt_grammar.proofs.KeyedRemovals.{rules-dropped}
use Rattle.slt_grammar.proofs.RankBounds.{rank-dropped, rank-same}
use Rattle.slt_grammar.proofs.Removals.{calls-past, calls-removed, get-left, length-left}
use Rattle.rule_pruning.proofs.SavingLemmas.{saves-more}

-- all n calls of a rule were inlined
pub record AreInlined (F G : List KeyedRule) (q n : ℕ) : Type 0 where
  pub rules : length G ≡ length F
  pub ranks : ranks_of (rules_of G) ≡ ranks_of (rules_of F)
  pub uncalled : calls_of (rules_of G) q ≡ 0
  pub before : (r : ℕ) → r ≤ q → nodes_at G r ≡ nodes_at F r
  pub called : (t : ℕ) → t ≢ q → calls_of (rules_of G) t ≡ calls_of (rules_of F) t + n * calls_in t (body_at (rules_of F) q)
  pub values : (r : ℕ) → value_at (rules_of G) r ≡ value_at (rules_of F) r
  pub size : size (rules_of G) + n ≡ size (rules_of F) + n * real_nodes (body_at (rules_of F) q)

real-unshifted : (q : ℕ) (ns : List Node) → real_nodes (labels_of (map (unshifted_node q) ns)) ≡ real_nodes (labels_of ns)
real-unshifted q [] = refl
real-unshifted q (n ∷ ns) = at n.label (real-unshifted q ns)
  where
    at : (l : Label) → real_nodes (labels_of (map (unshifted_node q) ns)) ≡ real_nodes (labels_of ns)
        → real_nodes ((unshifted_node q (record { key = n.key; label = l; kids = n.kids })).label ∷ labels_of (map (unshifted_node q) ns)) ≡ real_nodes (l ∷ labels_of ns)
    at Bottom e = ap suc e
    at (Symbol f) e = ap suc e
    at (Call c) e = ap suc e
    at Param e = e

-- a rule that saves nothing brings no nodes
brings-none : (n s : ℕ) → (s < n * (s - 1) → ⊥) → n * s ≤ n + s
brings-none n zero f = omega arith
brings-none n (suc m) f =
    let e : suc m - 1 ≡ m = omega arith in
    elim (cases_lt (suc m) (n * m)) [ inl l ↦ absurd (f (subst (λ (x : ℕ). suc m < n * x) (sym e) l)) | inr l ↦ omega (arith, l) ]

module _ (F : List KeyedRule) (g : Keyed) (K : IsKeyed g) (q n : ℕ) (I : AreInlined F g.rules q n) (h : q + 1 < length F) (many : n ≡ calls_of (rules_of F) q) (swept : IsSwept (rules_of F)) where
  abbrev pub H : List KeyedRule
  H = rule_dropped g.rules q

  in-mid : q + 1 < length (rules_of g.rules)
  in-mid = omega (arith, h, I.rules, length-rules_of g.rules)

  pub length-taken : length H + 1 ≡ length F
  length-taken = omega (arith, length-map (remove g.rules q) (unshifted_keyed q), length-left g.rules q (omega (arith, h, I.rules)), I.rules)

  nodes-taken : (r : ℕ) → nodes_at H r ≡ map (unshifted_node q) (nodes_at g.rules (shifted q r))
  nodes-taken r =
      let none : KeyedRule = record { rank = 0; nodes = [] } in
      ap (λ (R : KeyedRule). R.nodes) (get_or-map (unshifted_keyed q) (remove g.rules q) r none) ∙ ap (λ (R : KeyedRule). map (unshifted_node q) R.nodes) (get-left g.rules q r none)

  calls-taken : (t : ℕ) → calls_of (rules_of H) t + calls_in (shifted q t) (body_at (rules_of g.rules) q) ≡ calls_of (rules_of g.rules) (shifted q t)
  calls-taken t = omega (arith, calls-removed (rules_of g.rules) q K.grammar in-mid I.uncalled t, ap (λ (Q : List Rule). calls_of Q t) (rules-dropped g.rules q))

  body-same : (r : ℕ) → r ≤ q → body_at (rules_of g.rules) r ≡ body_at (rules_of F) r
  body-same r l = body_at-rules_of g.rules r ∙ ap labels_of (I.before r l) ∙ sym (body_at-rules_of F r)

  pub some-calls : 0 < n
  some-calls = omega (arith, many, swept q (omega (arith, h, length-rules_of F)))

  -- earlier rules keep their bodies, and lose no calls
  pub called-before : (r : ℕ) → r < q → calls_of (rules_of F) r ≤ calls_of (rules_of H) r
  called-before r l =
      let c : ℕ = calls_in r (body_at (rules_of F) q) in
      omega (
        arith,
        calls-taken r,
        ap (λ (x : ℕ). calls_of (rules_of g.rules) x) (shifted-before q r l),
        ap (λ (x : ℕ). calls_in x (body_at (rules_of g.rules) q)) (shifted-before q r l),
        ap (calls_in r) (body-same q (omega arith)),
        I.called r (λ e. omega (arith, e, l)),
        once n c some-calls,
      )
    where
      once : (a b : ℕ) → 0 < a → b ≤ a * b
      once zero b l = absurd (omega (arith, l))
      once (suc a) b l = omega arith

  real-before : (r : ℕ) → r < q → real_nodes (body_at (rules_of H) r) ≡ real_nodes (body_at (rules_of F) r)
  real-before r l =
      ap real_nodes (body_at-rules_of H r ∙ ap labels_of (nodes-taken r ∙ ap (λ (x : ℕ). map (unshifted_node q) (nodes_at g.rules x)) (shifted-before q r l))) ∙ real-unshifted q (nodes_at g.rules r)
      ∙ ap real_nodes (sym (body_at-rules_of g.rules r) ∙ body-same r (omega (arith, l)))

  pub saves-taken : (r : ℕ) → r < q → Saves (rules_of F) r → Saves (rules_of H) r
  saves-taken r l s =
      subst (λ (x : ℕ). x < calls_of (rules_of H) r * (x - 1)) (sym (real-before r l))
      (saves-more (calls_of (rules_of F) r) (calls_of (rules_of H) r) (real_nodes (body_at (rules_of F) r)) (called-before r l) s)

  -- later rules keep their calls
  pub called-behind : (t : ℕ) → q ≤ t → t < length H → calls_of (rules_of H) t ≡ calls_of (rules_of F) (suc t)
  called-behind t l k =
      let e = shifted-behind q t l in
      let past : calls_in (suc t) (body_at (rules_of F) q) ≡ 0 =
      ap (calls_in (suc t)) (sym (body-same q (omega arith))) ∙ calls-past q (suc t) (body_at (rules_of g.rules) q) (K.grammar.each q (omega (arith, in-mid))).earlier (omega (arith, l)) in
      omega (
        arith,
        calls-taken t,
        ap (λ (x : ℕ). calls_of (rules_of g.rules) x) e,
        ap (λ (x : ℕ). calls_in x (body_at (rules_of g.rules) q)) e,
        ap (calls_in (suc t)) (body-same q (omega arith)),
        past,
        I.called (suc t) (λ z. omega (arith, z, l)),
        ap (λ (x : ℕ). n * x) past,
      )

  pub swept-taken : IsSwept (rules_of H)
  swept-taken t k =
      let m = omega-length in
      elim (cases_lt t q) [
        | inl l ↦ omega (arith, called-before t l, swept t (omega (arith, k, m, length-taken, length-rules_of F)))
        | inr l ↦ omega (arith, called-behind t l (omega (arith, k, m)), swept (suc t) (omega (arith, k, m, length-taken, length-rules_of F)))
      ]
    where
      omega-length : length (rules_of H) ≡ length H
      omega-length = length-rules_of H

  pub size-taken : (Saves (rules_of F) q → ⊥) → size (rules_of H) + real_nodes (body_at (rules_of g.rules) q) ≡ size (rules_of g.rules) → size (rules_of H) ≤ size (rules_of F)
  size-taken useless e =
      omega (
        arith,
        e,
        ap real_nodes (body-same q (omega arith)),
        I.size,
        brings-none n (real_nodes (body_at (rules_of F) q)) (λ s. useless (subst (λ (c : ℕ). real_nodes (body_at (rules_of F) q) < c * (real_nodes (body_at (rules_of F) q) - 1)) many s)),
      )

  pub value-mid : value (rules_of g.rules) ≡ value (rules_of F)
  value-mid = ap (λ (x : ℕ). value_at (rules_of g.rules) (x - 1)) (length-rules_of g.rules ∙ I.rules ∙ sym (length-rules_of F)) ∙ I.values (length (rules_of F) - 1)

-- what is told once a rule is gone
pub record IsTaken (F H : List KeyedRule) (q : ℕ) : Type 0 where
  pub rules : length H + 1 ≡ length F
  pub swept : IsSwept (rules_of H)
  pub save : (r : ℕ) → r < q → Saves (rules_of F) r → Saves (rules_of H) r
  pub size : (Saves (rules_of F) q → ⊥) → size (rules_of H) ≤ size (rules_of F)
  pub ranks : greatest_rank (rules_of H) ≤ greatest_rank (rules_of F)

pub taken : (F : List KeyedRule) (g : Keyed) → IsKeyed g → (q n : ℕ) → AreInlined F g.rules q n → q + 1 < length F → n ≡ calls_of (rules_of F) q → IsSwept (rules_of F)
    → (H : List KeyedRule) → H ≡ rule_dropped g.rules q → size (rules_of H) + real_nodes (body_at (rules_of g.rules) q) ≡ size (rules_of g.rules) → IsTaken F H q
taken F g K q n I h many swept H e left =
    subst (λ (X : List KeyedRule). IsTaken F X q) (sym e)
    (record {
      rules = length-taken F g K q n I h many swept;
      swept = swept-taken F g K q n I h many swept;
      save = saves-taken F g K q n I h many swept;
      size = λ useless. size-taken F g K q n I h many swept useless (subst (λ (X : List KeyedRule). size (rules_of X) + real_nodes (body_at (rules_of g.rules) q) ≡ size (rules_of g.rules)) e left);
      ranks = omega (arith, rank-dropped g.rules q, rank-same (rules_of F) (rules_of g.rules) I.ranks);
    })
