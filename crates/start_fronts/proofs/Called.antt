-- A term that begins with a rule's body and becomes a call keeps what stands before all other nodes.
use Rattle.std.proofs.Common.{◌≡◌, ◌≢◌, ℕ, suc, ◌<◌, List, [], ◌∷◌, ◌++◌, All, length, map, take, drop, Some, refl, sym, ap, ◌∙◌, subst, arith}
use Rattle.rule_arena.specs.Preorder.{span}
use Rattle.rule_arena.specs.Terms.{Node, key_of, kids_of}
use Rattle.rule_arena.specs.declared.key.Key.{Key}
use Rattle.rule_arena.specs.declared.label.Label.TheVariants.{Call}
use Rattle.rule_arena.proofs.PreorderLemmas.{split_at}
use Rattle.slt_grammar.specs.Algebras.{ranks_of}
use Rattle.slt_grammar.specs.Bodies.{params}
use Rattle.slt_grammar.specs.Calling.{BeginsWith, called_nodes}
use Rattle.slt_grammar.specs.Copying.{copied}
use Rattle.slt_grammar.specs.Editing.{put}
use Rattle.slt_grammar.specs.Holding.{IsLawful}
use Rattle.slt_grammar.specs.Keyed.{Keyed, KeyedRule, IsKeyed, key_at, nodes_at, rules_of}
use Rattle.slt_grammar.specs.KeyedEdits.{with_nodes}
use Rattle.slt_grammar.specs.Terms.{term_algebra}
use Rattle.slt_grammar.proofs.Agreeing.{Agree, agree-of, agree-parts}
use Rattle.slt_grammar.proofs.CalledRules.{called-lawful, called-means, called-ranks, in-list}
use Rattle.slt_grammar.proofs.FoldedRules.{flat}
use Rattle.slt_grammar.proofs.InlinedRules.{holes-params}
use Rattle.slt_grammar.proofs.KeyedEdits.{length-with_nodes, nodes-with_nodes}
use Rattle.slt_grammar.proofs.KeyedLemmas.{body_at-rules_of, length-rules_of}
use Rattle.start_fronts.specs.Before.{KeepsBefore, copied_keys}
use Rattle.start_fronts.proofs.Copies.{all-given, flagged-copied, times-copied}
use Rattle.start_fronts.proofs.Exchanges.{Exchange}
use Rattle.start_fronts.proofs.Flags.{flagged, has-key, has-other, one_if, stands-times, times, times-append}
use Rattle.start_fronts.proofs.Keeping.{Once, at-most-once, keeps-changed, lawful, once-in}
use Rattle.start_fronts.proofs.Staying.{stays-called, values-same}

-- a key that isn't among those of nodes
times-none : (key : Key) (xs : List Node) → All (λ k. k ≢ key) (map key_of xs) → times key xs ≡ 0
times-none key [] a = refl
times-none key (x ∷ xs) a = omega (arith, ap one_if (has-other key x (a 0 key (omega arith))), times-none key xs (λ k d h. a (suc k) d (omega (arith, h))))

module _ (G : List KeyedRule) (at : Key) (q : ℕ) (arguments : List Key) (new : Key) (L : IsLawful G) (B : BeginsWith G at q arguments) where
  abbrev r : ℕ
  r = B.here.rule

  abbrev p : ℕ
  p = B.here.place

  abbrev ns : List Node
  ns = nodes_at G r

  abbrev callee : List Node
  callee = nodes_at G q

  abbrev call : Node
  call = record { key = new; label = Call q; kids = length B.args }

  abbrev ms : List Node
  ms = called_nodes ns p new (Call q) B.args

  abbrev H : List KeyedRule
  H = with_nodes G r ms

  abbrev tail : List Node
  tail = drop (span kids_of 1 (drop p ns)) (drop p ns)

  abbrev copy : List Node
  copy = copied callee B.args B.keys

  in-rules : r < length G
  in-rules = in-list G at q arguments new L B

  calls-are : nodes_at H r ≡ take p ns ++ (call ∷ (flat B.args ++ tail))
  calls-are = nodes-with_nodes G r ms in-rules

  bodies-are : ns ≡ take p ns ++ (copy ++ tail)
  bodies-are = sym (split_at kids_of ns p) ∙ ap (λ (zs : List Node). take p ns ++ (zs ++ tail)) B.term

  M : IsLawful H
  M = called-lawful G at q arguments new L B

  same-ranks : ranks_of (rules_of H) ≡ ranks_of (rules_of G)
  same-ranks = called-ranks G at q arguments new L B

  args-agree : Agree (ranks_of (rules_of G)) (flat B.args)
  args-agree =
      let ranks = ranks_of (rules_of G) in
      let a : Agree ranks (nodes_at H r) = subst (λ (ks : List ℕ). Agree ks (nodes_at H r)) same-ranks (agree-of (ranks_of (rules_of H)) (nodes_at H r) (M.arities r)) in
      let b = agree-parts ranks (take p ns) (call ∷ (flat B.args ++ tail)) (subst (λ (xs : List Node). Agree ranks xs) calls-are a) in
      (agree-parts ranks (flat B.args) tail b.1.1).0

  module _ (key : Key) (none : times key (copied callee [] B.keys) ≡ 0) where
    -- the new key is none of a node that stays
    other : (i : ℕ) → key_at G r i ≡ Some key → Once H r → new ≢ key
    other i there once e =
        absurd (
        omega (
          arith,
          none,
          stands-times key ns i there,
          at-most-once H r once key,
          ap (times key) bodies-are,
          ap (times key) calls-are,
          times-append key (take p ns) (copy ++ tail),
          times-append key copy tail,
          times-copied key callee B.args B.keys B.enough,
          times-append key (take p ns) (call ∷ (flat B.args ++ tail)),
          times-append key (flat B.args) tail,
          ap one_if (has-key key call e),
        ))

    exchange : new ≢ key → Exchange (rules_of G) q key (nodes_at H r) ns
    exchange d =
        let early = B.earlier in
        let inside : q < length (rules_of G) = omega (arith, early, in-rules, length-rules_of G) in
        record {
          front = take p ns;
          call = call;
          args = B.args;
          body = copy;
          back = tail;
          calls_are = calls-are;
          bodies_are = bodies-are;
          called = inside;
          label = refl;
          terms = all-given (ranks_of (rules_of G)) arguments B.args B.roots args-agree;
          many = B.enough ∙ holes-params callee ∙ ap params (sym (body_at-rules_of G q)) ∙ (L.grammar.each q inside).linear;
          other = d;
          times_body = omega (arith, times-copied key callee B.args B.keys B.enough, none);
          flagged_body = λ f. flagged-copied key f callee B.args B.keys B.enough none ∙ ap (λ ls. put ls (map (flagged key f) B.args)) (sym (body_at-rules_of G q));
        }

  pub keeps-called : Once G r → Once H r → KeepsBefore (copied_keys callee B.keys) G H
  keeps-called old once =
      let means = called-means G at q arguments new L B term_algebra in
      keeps-changed G r ms (copied_keys callee B.keys) L M in-rules means
      (λ i key there apart.
      let none : times key (copied callee [] B.keys) ≡ 0 = times-none key (copied callee [] B.keys) apart in
      stays-called G H L M same-ranks (values-same (rules_of G) (rules_of H) same-ranks means) r in-rules (omega (arith, in-rules, length-with_nodes G r ms in-rules)) q key
      (exchange key none (other key none i there once)) (at-most-once G r old key) i there)

pub keeps-calling : (g h : Keyed) → IsKeyed g → IsKeyed h → (at : Key) (rule : ℕ) (arguments : List Key) (call : Key) (B : BeginsWith g.rules at rule arguments)
    → h.rules ≡ with_nodes g.rules B.here.rule (called_nodes (nodes_at g.rules B.here.rule) B.here.place call (Call rule) B.args) → KeepsBefore (copied_keys (nodes_at g.rules rule) B.keys) g.rules h.rules
keeps-calling g h K M at rule arguments call B e =
    let r = B.here.rule in
    subst (λ (Q : List KeyedRule). KeepsBefore (copied_keys (nodes_at g.rules rule) B.keys) g.rules Q) (sym e)
    (keeps-called g.rules at rule arguments call (lawful g K) B (once-in g K r)
    (subst (λ (Q : List KeyedRule). Once Q r) e (once-in h M r)))
