-- Rules that are kept, once a call gave way to a copy of its rule's nodes.
use Rattle.std.proofs.Common.{◌≡◌, ℕ, zero, suc, ◌+◌, ◌-◌, ◌<◌, ◌≤◌, List, [], ◌∷◌, All, length, get_or, Option, Some, IsSome, slice_get, sym, ap, ◌∙◌, subst, arith}
use Rattle.std.proofs.lemmas.List.{length-map}
use Rattle.rule_arena.specs.Terms.{Node, Terms, At, key_in, term_at}
use Rattle.rule_arena.specs.declared.key.Key.{Key}
use Rattle.rule_arena.specs.declared.label.Label.{Label}
use Rattle.rule_arena.specs.declared.label.Label.TheVariants.{Bottom, Symbol, Call, Param}
use Rattle.slt_grammar.specs.Algebras.{ranks_of, all_meanings}
use Rattle.slt_grammar.specs.Bodies.{arity, calls_in, real_nodes}
use Rattle.slt_grammar.specs.Copying.{InlinedAt, IsShape, holes_in, kids_at, inlined_nodes}
use Rattle.slt_grammar.specs.Grammars.{body_at, rank_at, size, value_at}
use Rattle.slt_grammar.specs.Holding.{seen, terms_of, IsKept, IsLawful, AreCounted, AllKnown}
use Rattle.slt_grammar.specs.Keyed.{KeyedRule, key_at, nodes_at, rules_of, labels_of}
use Rattle.slt_grammar.specs.KeyedEdits.{StandsAsCall, IsInlined, with_nodes}
use Rattle.slt_grammar.specs.Ordering.{place_of}
use Rattle.slt_grammar.specs.Placing.{placed, placed_node, placed_label, AreKnown}
use Rattle.slt_grammar.specs.Terms.{Term, Leaf, term_algebra, holes}
use Rattle.slt_grammar.proofs.Agreeing.{Agree, label-is}
use Rattle.slt_grammar.proofs.Changes.{kept-changed, seen-changed}
use Rattle.slt_grammar.proofs.CopiesPlaced.{placed-inlined, kids-placed, holes-placed, known-inlined}
use Rattle.slt_grammar.proofs.Held.{node-is, some-at, key-is, nodes-are, rule-within, body-stands}
use Rattle.slt_grammar.proofs.InlinedRules.{in-list, earlier, callee-agree, kids-holes, inlined-lawful, inlined-means, inlined-ranks, inlined-weighs}
use Rattle.slt_grammar.proofs.KeptLemmas.{lawful, counted, known-body, enough, size-enough}
use Rattle.slt_grammar.proofs.KeyedEdits.{counted-with, nodes-with_nodes}
use Rattle.slt_grammar.proofs.KeyedLemmas.{body_at-rules_of}
use Rattle.slt_grammar.proofs.RuleMeanings.{rank_at-ranks_of}
use Rattle.slt_grammar.proofs.Seen.{key-placed, node-placed}
use Rattle.slt_grammar.proofs.Storing.{ranks-small, terms-same}
use Rattle.slt_grammar.proofs.TourWalking.{key-node}
use Rattle.slt_grammar.proofs.Weights.{weigh}

-- nodes of a lawful rule can be copied
pub shapes-of : (ranks order : List ℕ) (ns : List Node) → ((q : ℕ) → get_or ranks q 0 ≤ 8) → Agree ranks (placed order ns) → All IsShape ns
shapes-of ranks order [] s a k d h = absurd (omega arith)
shapes-of ranks order (n ∷ ns) s a (suc k) d h = shapes-of ranks order ns s a.1 k d (omega arith)
shapes-of ranks order (n ∷ ns) s a zero d h = record { few = few n.label a.0; leaf = λ e. leaf n.label e a.0 }
  where
    few : (l : Label) → n.kids ≡ arity ranks (placed_label order l) → n.kids ≤ 8
    few Bottom e = omega (arith, e)
    few (Symbol f) e = omega (arith, e)
    few (Call c) e = omega (arith, e, s (place_of order c))
    few Param e = omega (arith, e)

    leaf : (l : Label) → l ≡ Param → n.kids ≡ arity ranks (placed_label order l) → n.kids ≡ 0
    leaf Bottom z e = e
    leaf (Symbol f) z e = absurd (cc)
    leaf (Call c) z e = absurd (cc)
    leaf Param z e = e

-- an arena whose terms are the same keeps the same rules
pub kept-same : (a b : Terms) (roots : List Key) (ranks calls order : List ℕ) (nodes : ℕ) → ((r : ℕ) → term_at b r ≡ term_at a r) → IsKept a roots ranks calls order nodes
    → IsKept b roots ranks calls order nodes × (terms_of b roots ≡ terms_of a roots)
kept-same a b roots ranks calls order nodes e K =
    let t : terms_of b roots ≡ terms_of a roots = terms-same a b roots (λ i k f. e k.number) in
    let R = K.rules in (
      record {
        rules = record {
          held = record { stands = λ i k f. subst (λ (o : Option (List Node)). IsSome o) (sym (e k.number)) (R.held.stands i k f); distinct = R.held.distinct };
          ranked = R.ranked;
          ordered = R.ordered;
          known = subst (AllKnown order) (sym t) R.known;
        };
        lawful = subst (λ (bs : List (List Node)). IsLawful (seen order ranks bs)) (sym t) K.lawful;
        counted = subst (λ (bs : List (List Node)). AreCounted (seen order ranks bs) calls nodes) (sym t) K.counted;
      },
      t,
    )

module _ (a : Terms) (roots : List Key) (ranks calls order : List ℕ) (nodes : ℕ) (G : List KeyedRule) (K : IsKept a roots ranks calls order nodes) (see : seen order ranks (terms_of a roots) ≡ G)
    (call : Key) (C : StandsAsCall G call) where
  abbrev pub r : ℕ
  r = C.here.rule

  abbrev pub p : ℕ
  p = C.here.place

  abbrev pub q : ℕ
  q = C.called

  abbrev pub raw : ℕ → List Node
  raw s = get_or (terms_of a roots) s []

  pub L : IsLawful G
  L = lawful a roots ranks calls order nodes G K see

  abbrev pub call-at : At a call
  call-at = node-is a roots ranks order G K.rules see r p call C.here.there

  nodes_s : (s : ℕ) → nodes_at G s ≡ placed order (raw s)
  nodes_s s = nodes-are a roots ranks order G K.rules see s

  pub lt : q < r
  lt = earlier G r p q call [] L C.here.there C.label

  pub in-rules : r < length G
  in-rules = in-list G r p q call [] L C.here.there C.label

  pub within : r < length roots
  within = rule-within a roots ranks order G K.rules see r p call C.here.there

  pub callee-within : q < length roots
  callee-within = omega (arith, within, lt)

  abbrev pub callee-root : (k : Key) × (slice_get roots q ≡ Some k)
  callee-root = some-at roots q (omega (arith, callee-within))

  pub root-stands : (k : Key) → slice_get roots q ≡ Some k → term_at a k.number ≡ Some (raw q)
  root-stands k e = body-stands a roots ranks order G K.rules see q k e

  pub callee-shapes : All IsShape (raw q)
  callee-shapes = shapes-of (ranks_of (rules_of G)) order (raw q) (ranks-small (rules_of G) L.grammar) (subst (Agree (ranks_of (rules_of G))) (nodes_s q) (callee-agree G r p q call [] L C.here.there C.label))

  pub callee-kids : kids_at (raw r) p ≡ holes_in (raw q)
  callee-kids =
      sym (kids-placed order (raw r) p) ∙ ap (λ (ns : List Node). kids_at ns p) (sym (nodes_s r)) ∙ kids-holes G r p q call [] L C.here.there C.label
      ∙ ap holes_in (nodes_s q) ∙ holes-placed order (raw q)

  pub called-node : (n : Node) × (slice_get (raw r) p ≡ Some n) × (placed_label order n.label ≡ Call q)
  called-node =
      let n = key-node (raw r) p call (key-is a roots ranks order G K.rules see r p call C.here.there) in
      let e : slice_get (nodes_at G r) p ≡ Some (placed_node order n.0) = ap (λ (ns : List Node). slice_get ns p) (nodes_s r) ∙ node-placed order (raw r) p n.0 n.1 in
      (n.0, n.1, sym (label-is (nodes_at G r) p (placed_node order n.0) e) ∙ ap (λ ls. get_or ls p Bottom) (sym (body_at-rules_of G r)) ∙ C.label)

  pub callee-known : AreKnown order (raw q)
  callee-known = known-body a roots ranks calls order nodes G K see q

  pub call-known : AreKnown order (raw r)
  call-known = known-body a roots ranks calls order nodes G K see r

  pub length-callee : length (raw q) ≡ length (nodes_at G q)
  length-callee = sym (length-map (raw q) (placed_node order)) ∙ ap length (sym (nodes_s q))

  labels-seen : labels_of (placed order (raw q)) ≡ labels_of (nodes_at G q)
  labels-seen = ap labels_of (sym (nodes_s q))

  call-part : (w : Label → ℕ) → w Param ≡ 0 → weigh w (Call q ∷ []) ≤ weigh w (labels_of (nodes_at G r))
  call-part w z = (inlined-weighs G r p q call [] L C.here.there C.label w z).1

  pub call-counted : (s : ℕ) → s < length calls → calls_in s (Call q ∷ []) ≤ get_or calls s 0
  call-counted s h = enough a roots ranks calls order nodes G K see r (Call q ∷ []) in-rules call-part s h

  pub size-there : 1 ≤ nodes
  size-there = size-enough a roots ranks calls order nodes G K see r (Call q ∷ []) in-rules call-part

  module _ (b : Terms) (ss : List Key) (calls' : List ℕ) (come : ℕ) (follow moved root : Key) (I : InlinedAt a b roots ss r (raw r) p (raw q) follow moved root) where
    ms-seen : placed order (inlined_nodes (raw r) p (raw q) I.keys) ≡ inlined_nodes (nodes_at G r) p (nodes_at G q) I.keys
    ms-seen =
        placed-inlined order (raw r) p (raw q) I.keys ∙ ap (λ (ns : List Node). inlined_nodes ns p (placed order (raw q)) I.keys) (sym (nodes_s r))
        ∙ ap (λ (ns : List Node). inlined_nodes (nodes_at G r) p ns I.keys) (sym (nodes_s q))

    abbrev pub news : List KeyedRule
    news = with_nodes G r (inlined_nodes (nodes_at G r) p (nodes_at G q) I.keys)

    pub seen-inlined : seen order ranks (terms_of b ss) ≡ news
    seen-inlined = seen-changed a b roots ss ranks order r (inlined_nodes (raw r) p (raw q) I.keys) K.rules I.changed within G see ∙ ap (λ (ns : List Node). with_nodes G r ns) ms-seen

    pub inlined-is : IsInlined G (seen order ranks (terms_of b ss)) r p q follow moved
    inlined-is = record {
      keys = I.keys;
      many = I.many ∙ length-callee;
      rules = seen-inlined;
      follows = λ j e. I.follows j (key-is a roots ranks order G K.rules see q j follow e);
    }

    pub root-inlined : key_at (seen order ranks (terms_of b ss)) r p ≡ Some root
    root-inlined =
        ap (λ (H : List KeyedRule). key_at H r p) seen-inlined ∙ ap (λ (ns : List Node). key_in ns p) (nodes-with_nodes G r (inlined_nodes (nodes_at G r) p (nodes_at G q) I.keys) in-rules ∙ sym ms-seen)
        ∙ key-placed order (inlined_nodes (raw r) p (raw q) I.keys) p ∙ I.first

    pub kept-inlined : length calls' ≡ length calls → ((s : ℕ) → s < length calls → get_or calls' s 0 + calls_in s (Call q ∷ []) ≡ get_or calls s 0 + calls_in s (labels_of (placed order (raw q)))) → come ≡ real_nodes (labels_of (placed order (raw q)))
        → IsKept b ss ranks calls' order (nodes + come - 1)
    kept-inlined len moves real =
        let m = ap (λ (ns : List Node). with_nodes G r ns) ms-seen in
        let n = counted-with G r (inlined_nodes (nodes_at G r) p (nodes_at G q) I.keys) L in-rules calls calls' nodes (nodes + come - 1) (Call q ∷ []) (labels_of (nodes_at G q)) (counted a roots ranks calls order nodes G K see)
        (λ w z. (inlined-weighs G r p q call I.keys L C.here.there C.label w z).0) len (λ s h. omega (arith, moves s h, ap (calls_in s) labels-seen)) (omega (arith, real, ap real_nodes labels-seen, size-there)) in
        kept-changed a b roots ss ranks order r (inlined_nodes (raw r) p (raw q) I.keys) K.rules I.changed within G calls' (nodes + come - 1) see (known-inlined order (raw r) p (raw q) I.keys call-known callee-known)
        (subst IsLawful (sym m) (inlined-lawful G r p q call I.keys L C.here.there C.label)) (subst (λ (H : List KeyedRule). AreCounted H calls' (nodes + come - 1)) (sym m) n)

    pub size-inlined : length calls' ≡ length calls → ((s : ℕ) → s < length calls → get_or calls' s 0 + calls_in s (Call q ∷ []) ≡ get_or calls s 0 + calls_in s (labels_of (placed order (raw q)))) → come ≡ real_nodes (labels_of (placed order (raw q)))
        → size (rules_of (seen order ranks (terms_of b ss))) + 1 ≡ size (rules_of G) + real_nodes (body_at (rules_of G) q)
    size-inlined len moves real =
        omega (
          arith,
          (kept-inlined len moves real).counted.real,
          (counted a roots ranks calls order nodes G K see).real,
          size-there,
          real,
          ap real_nodes labels-seen,
          ap real_nodes (body_at-rules_of G q),
        )

    pub values-inlined : (s : ℕ) → value_at (rules_of (seen order ranks (terms_of b ss))) s ≡ value_at (rules_of G) s
    values-inlined s =
        let e = inlined-ranks G r p q call I.keys L C.here.there C.label in
        ap (λ (H : List KeyedRule). value_at (rules_of H) s) seen-inlined
        ∙ ap (λ (k : ℕ). get_or (all_meanings term_algebra (rules_of news)) s (λ _. Leaf) (holes 0 k)) (sym (rank_at-ranks_of (rules_of news) s) ∙ ap (λ (rs : List ℕ). get_or rs s 0) e ∙ rank_at-ranks_of (rules_of G) s)
        ∙ ap (λ (fs : List (List Term → Term)). get_or fs s (λ _. Leaf) (holes 0 (rank_at (rules_of G) s))) (inlined-means G r p q call I.keys L C.here.there C.label term_algebra)
