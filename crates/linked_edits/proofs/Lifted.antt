-- An index while a node of the start gives way to its second child.
use Rattle.std.proofs.Common.{◌≡◌, ◌≢◌, ◌⊎◌, ℕ, zero, suc, List, [], ◌∷◌, length, get_or, Option, Some, None, IsSome, slice_get, refl, sym, ap, ◌∙◌, subst, arith}
use Rattle.rule_arena.specs.Terms.{Node, kids_in}
use Rattle.rule_arena.specs.declared.key.Key.{Key}
use Rattle.rule_arena.specs.declared.label.Label.{Label}
use Rattle.rule_arena.specs.declared.label.Label.TheVariants.{Bottom}
use Rattle.slt_grammar.specs.Algebras.{ranks_of}
use Rattle.slt_grammar.specs.Bodies.{arity}
use Rattle.slt_grammar.specs.Copying.{kids_at}
use Rattle.slt_grammar.specs.Keyed.{IsKeyed, Keyed, key_at, nodes_at, rules_of}
use Rattle.slt_grammar.specs.KeyedEdits.{Stands, StandsAsSymbol, StandsInStart, lifted_nodes, with_nodes}
use Rattle.slt_grammar.proofs.Agreeing.{agree-of}
use Rattle.slt_grammar.proofs.InlinedRules.{kids-label}
use Rattle.slt_grammar.proofs.KeyedLemmas.{body_at-rules_of}
use Rattle.digram_index.specs.Keeping.{IsIndexBut}
use Rattle.digram_index.specs.Linked.{IsIndexOf, Linked, cell}
use Rattle.digram_index.specs.Partly.{IsPartOf, IsRight}
use Rattle.digram_index.proofs.Kept.{near-kept}
use Rattle.linked_edits.specs.Runs.{IsBetween, IsRun, start_of}
use Rattle.linked_edits.proofs.Between.{between}
use Rattle.linked_edits.proofs.Kept.{but-near, one-linked, part-of}
use Rattle.linked_edits.proofs.NearLifts.{apart, last-near, lifted-near, low-there, second-there}

same-node : (a b : Node) → Some a ≡ Some b → a ≡ b
same-node a b e = cc

kids-of-node : (ns : List Node) (p : ℕ) (n : Node) → slice_get ns p ≡ Some n → kids_at ns p ≡ n.kids
kids-of-node [] p n e = absurd (let z : None ≡ Some n = e in cc)
kids-of-node (m ∷ ns) zero n e = ap (λ (x : Node). x.kids) (same-node m n e)
kids-of-node (m ∷ ns) (suc p) n e = kids-of-node ns p n e

number : (a b : Key) → Some a ≡ Some b → a.number ≡ b.number
number a b e = let w : a ≡ b = cc in ap (λ (v : Key). v.number) w

-- a symbol has two children
pub kids-two : (g : Keyed) → IsKeyed g → (at : Key) (S : StandsAsSymbol g.rules at) (n : Node) → slice_get (nodes_at g.rules S.here.rule) S.here.place ≡ Some n → n.kids ≡ 2
kids-two g K at S n e =
    let ranks : List ℕ = ranks_of (rules_of g.rules) in
    let ns : List Node = nodes_at g.rules S.here.rule in
    sym (kids-of-node ns S.here.place n e) ∙ kids-label ranks ns S.here.place at (agree-of ranks ns (K.arities S.here.rule)) S.here.there
    ∙ ap (λ (ls : List Label). arity ranks (get_or ls S.here.place Bottom)) (sym (body_at-rules_of g.rules S.here.rule)) ∙ ap (arity ranks) S.label

pub some-second : (ks : List Key) (o : Option Key) → length ks ≡ 2 → o ≡ slice_get ks 1 → IsSome o
some-second [] o n e = absurd (omega (arith, n))
some-second (a ∷ []) o n e = absurd (omega (arith, n))
some-second (a ∷ b ∷ ks) o n e = let z : Some b ≡ o = sym e in subst (λ (x : Option Key). IsSome x) z refl

module _ (g : Keyed) (K : IsKeyed g) (at key : Key) (T : StandsInStart g.rules at) (N : Node) (node : slice_get (nodes_at g.rules T.node.here.rule) T.node.here.place ≡ Some N) (two : N.kids ≡ 2)
    (sec : slice_get (kids_in (nodes_at g.rules T.node.here.rule) T.node.here.place) 1 ≡ Some key) where
  abbrev p : ℕ
  p = T.node.here.place

  is-start : T.node.here.rule ≡ start_of g.rules
  is-start = omega (arith, T.start)

  pub there : key_at g.rules (start_of g.rules) T.node.here.place ≡ Some at
  there = ap (λ r. key_at g.rules r T.node.here.place) (sym is-start) ∙ T.node.here.there

  pub node' : slice_get (nodes_at g.rules (start_of g.rules)) T.node.here.place ≡ Some N
  node' = ap (λ r. slice_get (nodes_at g.rules r) T.node.here.place) (sym is-start) ∙ node

  pub sec' : slice_get (kids_in (nodes_at g.rules (start_of g.rules)) T.node.here.place) 1 ≡ Some key
  sec' = ap (λ r. slice_get (kids_in (nodes_at g.rules r) T.node.here.place) 1) (sym is-start) ∙ sec

  abbrev pub lifted-run : IsRun g.rules at key
  lifted-run = record {
    place = T.node.here.place;
    more = suc (length (apart g K at key T.node.here.place there N node' two sec').before);
    first = there;
    last = low-there g K at key T.node.here.place there N node' two sec';
  }

  module _ (h : Keyed) (new : h.rules ≡ with_nodes g.rules T.node.here.rule (lifted_nodes (nodes_at g.rules T.node.here.rule) T.node.here.place)) where
    pub new' : h.rules ≡ with_nodes g.rules (start_of g.rules) (lifted_nodes (nodes_at g.rules (start_of g.rules)) T.node.here.place)
    new' = new ∙ ap (λ r. with_nodes g.rules r (lifted_nodes (nodes_at g.rules r) T.node.here.place)) is-start

    pub lifted-there : Stands h.rules key
    lifted-there = record { rule = start_of g.rules; place = T.node.here.place; there = second-there g K at key T.node.here.place there N node' two sec' h new' }

    abbrev pub near : ℕ → Type 0
    near n = IsBetween g.rules T.node.here.place (suc (length (apart g K at key T.node.here.place there N node' two sec').before)) n

    module _ (I mid : Linked) (A : IsIndexOf g I) (free : (n : ℕ) → near n → cell mid n ≡ None) (others : (n : ℕ) → (near n → ⊥) → cell mid n ≡ cell I n) (rules : mid.rules ≡ I.rules) where
      test : (n : ℕ) → near n ⊎ (near n → ⊥)
      test n = between g.rules T.node.here.place (suc (length (apart g K at key T.node.here.place there N node' two sec').before)) n

      after : IsIndexBut h mid near
      after = near-kept g h mid near (but-near g near I mid A rules free others test) (lifted-near g K at key T.node.here.place there N node' two sec' h new')

      pub lifted-part : IsPartOf h mid
      lifted-part = part-of h near mid after test

      pub lifted-index : (J : Linked) → IsPartOf h J → IsRight h.rules J key → ((n : ℕ) → n ≢ key.number → cell J n ≡ cell mid n) → IsIndexOf h J
      lifted-index J P right far = one-linked h near mid after test J key P right one far
        where
          one : (r t : ℕ) (k : Key) → key_at h.rules r t ≡ Some k → near k.number → k.number ≡ key.number
          one r t k e n = number k key (
              let w = last-near g K at key T.node.here.place there N node' two sec' h new' r t k e n in
              let z : Some k ≡ Some key = sym e ∙ ap (λ i. key_at h.rules i t) w.0 ∙ ap (key_at h.rules (start_of g.rules)) w.1 ∙ second-there g K at key T.node.here.place there N node' two sec' h new' in
              z)
