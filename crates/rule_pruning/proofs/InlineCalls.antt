-- The calls of a rule are inlined one after another.
use Rattle.std.proofs.Common.{◌≡◌, ◌≢◌, ℕ, suc, ◌+◌, ◌-◌, ◌*◌, ◌<◌, ◌≤◌, List, length, get_or, Some, refl, sym, ap, ◌∙◌, subst, arith}
use Rattle.rule_arena.specs.declared.key.Key.{Key}
use Rattle.rule_arena.specs.declared.label.Label.TheVariants.{Bottom}
use Rattle.slt_grammar.specs.Algebras.{ranks_of}
use Rattle.slt_grammar.specs.Bodies.{calls_in, real_nodes}
use Rattle.slt_grammar.specs.Grammars.{body_at, calls_of, size, value_at}
use Rattle.slt_grammar.specs.Keyed.{Keyed, KeyedRule, IsKeyed, labels_of, nodes_at, rules_of}
use Rattle.slt_grammar.specs.KeyedEdits.{IsInlined, StandsAsCall}
use Rattle.slt_grammar.proofs.Agreeing.{label-is}
use Rattle.slt_grammar.proofs.KeyedLemmas.{body_at-rules_of}
use Rattle.slt_grammar.proofs.TourWalking.{node-key}
use Rattle.rule_pruning.specs.Calls.{StandsAsCallOf}
use Rattle.digram_index.proofs.Inlined.{callee-before, length-after, nodes-after, ranks-after}
use Rattle.rule_pruning.proofs.Inlined.{fewer-after, others-after}

-- so many of a rule's calls are inlined
pub record IsInlining (F G : List KeyedRule) (q i : ℕ) : Type 0 where
  pub rules : length G ≡ length F
  pub ranks : ranks_of (rules_of G) ≡ ranks_of (rules_of F)
  pub before : (r : ℕ) → r ≤ q → nodes_at G r ≡ nodes_at F r
  pub left : calls_of (rules_of G) q + i ≡ calls_of (rules_of F) q
  pub called : (t : ℕ) → t ≢ q → calls_of (rules_of G) t ≡ calls_of (rules_of F) t + i * calls_in t (body_at (rules_of F) q)
  pub values : (r : ℕ) → value_at (rules_of G) r ≡ value_at (rules_of F) r
  pub size : size (rules_of G) + i ≡ size (rules_of F) + i * real_nodes (body_at (rules_of F) q)

-- the same in the grammar's own words
abbrev pub as-call : (G : List KeyedRule) (q : ℕ) (key : Key) → StandsAsCallOf G q key → StandsAsCall G key
as-call G q key S = record {
  here = record { rule = S.rule; place = S.place; there = node-key (nodes_at G S.rule) S.place S.node S.there ∙ ap (λ (k : Key). Some k) S.named };
  called = q;
  label = ap (λ ls. get_or ls S.place Bottom) (body_at-rules_of G S.rule) ∙ label-is (nodes_at G S.rule) S.place S.node S.there ∙ S.label;
}

pub inlining-begins : (G : List KeyedRule) (q : ℕ) → IsInlining G G q 0
inlining-begins G q = record {
  rules = refl;
  ranks = refl;
  before = λ r h. refl;
  left = omega arith;
  called = λ t d. omega arith;
  values = λ r. refl;
  size = omega arith;
}

-- room for all of the bodies is room for those that are left
pub room-left : (n i s spare : ℕ) → i < n → n * s ≤ spare + i * s → s ≤ spare
room-left n i s spare h k =
    let e : n ≡ suc i + (n - suc i) = omega (arith, h) in
    let m : n * s ≡ suc i * s + (n - suc i) * s = subst (λ (x : ℕ). x * s ≡ suc i * s + (n - suc i) * s) (sym e) (spread (suc i) (n - suc i) s) in
    omega (arith, k, m, one i s)
  where
    spread : (a b s : ℕ) → (a + b) * s ≡ a * s + b * s
    spread a b s = omega arith

    one : (i s : ℕ) → suc i * s ≡ i * s + s
    one i s = omega arith

pub room-next : (total i s old new : ℕ) → total ≤ old + i * s → old ≤ new + s → total ≤ new + (i + 1) * s
room-next total i s old new h k = omega (arith, h, k, one i s)
  where
    one : (i s : ℕ) → (i + 1) * s ≡ i * s + s
    one i s = omega arith

module _ (F : List KeyedRule) (g : Keyed) (K : IsKeyed g) (q i : ℕ) (I : IsInlining F g.rules q i) (call : Key) (S : StandsAsCallOf g.rules q call) where
  abbrev pub C : StandsAsCall g.rules call
  C = as-call g.rules q call S

  body-same : body_at (rules_of g.rules) q ≡ body_at (rules_of F) q
  body-same = body_at-rules_of g.rules q ∙ ap labels_of (I.before q (omega arith)) ∙ sym (body_at-rules_of F q)

  pub inlining-next : (H : List KeyedRule) (follow moved : Key) → IsInlined g.rules H C.here.rule C.here.place C.called follow moved
      → ((r : ℕ) → value_at (rules_of H) r ≡ value_at (rules_of g.rules) r)
      → size (rules_of H) + 1 ≡ size (rules_of g.rules) + real_nodes (body_at (rules_of g.rules) C.called) → IsInlining F H q (i + 1)
  inlining-next H follow moved J values sizes =
      let b = callee-before g K call C J.keys in
      record {
        rules = ap length J.rules ∙ length-after g K call C J.keys ∙ I.rules;
        ranks = ap (λ (X : List KeyedRule). ranks_of (rules_of X)) J.rules ∙ ranks-after g K call C J.keys ∙ I.ranks;
        before = λ r h. ap (λ (X : List KeyedRule). nodes_at X r) J.rules ∙ nodes-after g K call C J.keys r (λ e. omega (arith, b, h, e)) ∙ I.before r h;
        left = omega (arith, ap (λ (X : List KeyedRule). calls_of (rules_of X) q) J.rules, fewer-after g K call C J.keys, I.left);
        called = λ t d.
            omega (
              arith,
              ap (λ (X : List KeyedRule). calls_of (rules_of X) t) J.rules,
              others-after g K call C J.keys t d,
              ap (calls_in t) body-same,
              I.called t d,
              more i (calls_in t (body_at (rules_of F) q)),
            );
        values = λ r. values r ∙ I.values r;
        size = omega (arith, sizes, ap real_nodes body-same, I.size, more i (real_nodes (body_at (rules_of F) q)));
      }
    where
      more : (m n : ℕ) → (m + 1) * n ≡ m * n + n
      more m n = omega arith
