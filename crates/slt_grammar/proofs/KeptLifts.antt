-- Rules that are kept, once a node of the start rule gave way to its second child.
use Rattle.std.proofs.Common.{◌≡◌, ◌≢◌, ℕ, suc, ◌+◌, ◌-◌, ◌<◌, ◌≤◌, ◌^◌, List, [], ◌∷◌, ◌++◌, length, get_or, take, drop, Some, slice_get, refl, sym, ap, ◌∙◌, subst, arith}
use Rattle.std.proofs.lemmas.List.{take-map, drop-map, take-append-drop}
use Rattle.rule_arena.specs.Laws.{IsKeyedTerm}
use Rattle.rule_arena.specs.Children.{ChildAt}
use Rattle.rule_arena.specs.Preorder.{span, terms, subterm}
use Rattle.rule_arena.specs.Terms.{Node, Terms, At, Apart, IsSound, node_count, term_at, kids_in, kids_of}
use Rattle.rule_arena.specs.declared.key.Key.{Key}
use Rattle.rule_arena.specs.declared.label.Label.{Label}
use Rattle.rule_arena.specs.declared.label.Label.TheVariants.{Bottom, Symbol}
use Rattle.rule_arena.proofs.ChildLemmas.{length-kids}
use Rattle.rule_arena.proofs.PreorderLemmas.{split_at}
use Rattle.rule_arena.proofs.TakingLaws.{child_apart}
use Rattle.slt_grammar.specs.Algebras.{ranks_of}
use Rattle.slt_grammar.specs.Bodies.{arity, params, real_nodes, calls_in, CallsBelow}
use Rattle.slt_grammar.specs.Grammars.{size}
use Rattle.slt_grammar.specs.Holding.{seen, terms_of, IsKept, IsLawful, AreCounted, Changed}
use Rattle.slt_grammar.specs.Keyed.{KeyedRule, nodes_at, rules_of, labels_of}
use Rattle.slt_grammar.specs.KeyedEdits.{StandsInStart, with_nodes, lifted_nodes, first_child_nodes}
use Rattle.slt_grammar.specs.Placing.{placed, placed_node, AreKnown}
use Rattle.slt_grammar.proofs.Agreeing.{Agree, agree-of, agree-take, agree-drop, labels-append, labels-terms, label-is}
use Rattle.slt_grammar.proofs.Changes.{changed-cut, kept-changed, seen-changed}
use Rattle.slt_grammar.proofs.FoldedRules.{keyed-body, agree-node}
use Rattle.slt_grammar.proofs.Held.{node-is, key-is, nodes-are, rule-within}
use Rattle.slt_grammar.proofs.Keeping.{CallsBelow-take, CallsBelow-drop}
use Rattle.slt_grammar.proofs.KeptLemmas.{lawful, counted, known-body, body-below, enough, size-enough, once}
use Rattle.slt_grammar.proofs.KeyedEdits.{lawful-with_subterm, counted-with}
use Rattle.slt_grammar.proofs.KeyedLemmas.{body_at-rules_of, length-rules_of}
use Rattle.slt_grammar.proofs.Lifted.{two-terms, second-is-term}
use Rattle.slt_grammar.proofs.Meanings.{params-append}
use Rattle.slt_grammar.proofs.Placed.{lifted-placed, known-lifted, term-placed, known-term, known-drop}
use Rattle.slt_grammar.proofs.Seen.{node-placed, known-node}
use Rattle.slt_grammar.proofs.TourWalking.{key-node}
use Rattle.slt_grammar.proofs.Weights.{weigh, weigh-append}

params-take : (n : ℕ) (ls : List Label) → params (take n ls) ≤ params ls
params-take n ls = omega (arith, params-append (take n ls) (drop n ls), ap params (take-append-drop n ls))

params-drop : (n : ℕ) (ls : List Label) → params (drop n ls) ≤ params ls
params-drop n ls = omega (arith, params-append (take n ls) (drop n ls), ap params (take-append-drop n ls))

labels-take : (n : ℕ) (ns : List Node) → labels_of (take n ns) ≡ take n (labels_of ns)
labels-take n ns = sym (take-map (λ (m : Node). m.label) n ns)

labels-drop : (n : ℕ) (ns : List Node) → labels_of (drop n ns) ≡ drop n (labels_of ns)
labels-drop n ns = sym (drop-map (λ (m : Node). m.label) n ns)

-- a stretch of a body
pub record IsPart (ranks : List ℕ) (r : ℕ) (ns : List Node) : Type 0 where
  pub agree : Agree ranks ns
  pub below : CallsBelow r (labels_of ns)
  pub closed : params (labels_of ns) ≡ 0

pub part-take : (ranks : List ℕ) (r n : ℕ) (ns : List Node) → IsPart ranks r ns → IsPart ranks r (take n ns)
part-take ranks r n ns P = record {
  agree = agree-take ranks n ns P.agree;
  below = subst (λ ls. CallsBelow r ls) (sym (labels-take n ns)) (CallsBelow-take r n (labels_of ns) P.below);
  closed = omega (arith, P.closed, ap params (labels-take n ns), params-take n (labels_of ns));
}

pub part-drop : (ranks : List ℕ) (r n : ℕ) (ns : List Node) → IsPart ranks r ns → IsPart ranks r (drop n ns)
part-drop ranks r n ns P = record {
  agree = agree-drop ranks n ns P.agree;
  below = subst (λ ls. CallsBelow r ls) (sym (labels-drop n ns)) (CallsBelow-drop r n (labels_of ns) P.below);
  closed = omega (arith, P.closed, ap params (labels-drop n ns), params-drop n (labels_of ns));
}

module _ (a : Terms) (roots : List Key) (ranks calls order : List ℕ) (nodes : ℕ) (G : List KeyedRule) (K : IsKept a roots ranks calls order nodes) (see : seen order ranks (terms_of a roots) ≡ G)
    (S : IsSound a) (few : node_count a ≤ 2 ^ 32) (at : Key) (T : StandsInStart G at) where
  abbrev pub r : ℕ
  r = T.node.here.rule

  abbrev pub p : ℕ
  p = T.node.here.place

  abbrev pub raw : List Node
  raw = get_or (terms_of a roots) r []

  abbrev pub ns : List Node
  ns = nodes_at G r

  pub L : IsLawful G
  L = lawful a roots ranks calls order nodes G K see

  abbrev pub at-here : At a at
  at-here = node-is a roots ranks order G K.rules see r p at T.node.here.there

  abbrev pub raw-node : (n : Node) × (slice_get raw p ≡ Some n) × (n.key ≡ at)
  raw-node = key-node raw p at (key-is a roots ranks order G K.rules see r p at T.node.here.there)

  abbrev pub N : Node
  N = placed_node order raw-node.0

  nodes_r : nodes_at G r ≡ placed order raw
  nodes_r = nodes-are a roots ranks order G K.rules see r

  node-there : slice_get ns p ≡ Some N
  node-there = ap (λ (zs : List Node). slice_get zs p) nodes_r ∙ node-placed order raw p raw-node.0 raw-node.1

  in-list : r < length G
  in-list = let e = T.start in omega arith

  pub within : r < length roots
  within = rule-within a roots ranks order G K.rules see r p at T.node.here.there

  rs : List ℕ
  rs = ranks_of (rules_of G)

  agree : Agree (ranks_of (rules_of G)) ns
  agree = agree-of (ranks_of (rules_of G)) ns (L.arities r)

  pub two : raw-node.0.kids ≡ 2
  two =
      agree-node (ranks_of (rules_of G)) ns p N agree node-there
      ∙ ap (arity (ranks_of (rules_of G))) (sym (label-is ns p N node-there) ∙ ap (λ ls. get_or ls p Bottom) (sym (body_at-rules_of G r)) ∙ T.node.label)

  one-term : IsKeyedTerm ns
  one-term = keyed-body G r L in-list (λ i j k e f. once a roots ranks calls order nodes G K see S few r i j k e f)

  second-key : (k : Key) × (slice_get (kids_in ns p) 1 ≡ Some k)
  second-key = some (kids_in ns p) (omega (arith, length-kids 1 ns p N one-term.term node-there, two))
    where
      some : (ks : List Key) → 1 < length ks → (k : Key) × (slice_get ks 1 ≡ Some k)
      some [] h = absurd (omega arith)
      some (x ∷ []) h = absurd (omega arith)
      some (x ∷ (y ∷ ks)) h = (y, refl)

  C : ChildAt ns p N 1 second-key.0
  C = child_apart ns p N 1 second-key.0 one-term node-there second-key.1

  abbrev pub first : List Node
  first = get_or (terms kids_of 2 (drop (p + 1) ns)) 0 []

  abbrev pub second : List Node
  second = get_or (terms kids_of 2 (drop (p + 1) ns)) 1 []

  part : IsPart (ranks_of (rules_of G)) r ns
  part =
      let w = L.grammar.each r (omega (arith, in-list, length-rules_of G)) in record {
        agree = agree;
        below = body-below a roots ranks calls order nodes G K see r in-list;
        closed = sym (ap params (body_at-rules_of G r)) ∙ w.linear ∙ w.shaped.start (T.start ∙ sym (length-rules_of G));
      }

  second-part : IsPart (ranks_of (rules_of G)) r second
  second-part =
      let q = ranks_of (rules_of G) in
      let d = part-drop q r (p + 1) ns part in
      let e = part-drop q r (span kids_of 1 (drop (p + 1) ns)) (drop (p + 1) ns) d in
      part-take q r (span kids_of 1 (drop (span kids_of 1 (drop (p + 1) ns)) (drop (p + 1) ns))) (drop (span kids_of 1 (drop (p + 1) ns)) (drop (p + 1) ns)) e

  whole-part : IsPart (ranks_of (rules_of G)) r (subterm kids_of ns p)
  whole-part = let q = ranks_of (rules_of G) in part-take q r (span kids_of 1 (drop p ns)) (drop p ns) (part-drop q r p ns part)

  abbrev pub news : List KeyedRule
  news = with_nodes G r (lifted_nodes ns p)

  lifted-lawful : IsLawful news
  lifted-lawful =
      lawful-with_subterm G r p at second L T.node.here.there second-part.below (labels-terms (ranks_of (rules_of G)) 1 second second-part.agree (second-is-term ns p N second-key.0 one-term C two))
      (second-part.closed ∙ sym whole-part.closed) second-part.agree

  -- what goes
  abbrev pub gone : List Label
  gone = N.label ∷ labels_of first

  weighs : (w : Label → ℕ) → (weigh w (labels_of (lifted_nodes ns p)) + weigh w gone ≡ weigh w (labels_of ns) + weigh w []) × (weigh w gone ≤ weigh w (labels_of ns))
  weighs w =
      let tail : List Node = drop (span kids_of 1 (drop p ns)) (drop p ns) in
      let sum : (xs ys : List Node) → weigh w (labels_of (xs ++ ys)) ≡ weigh w (labels_of xs) + weigh w (labels_of ys) = λ xs ys. ap (weigh w) (labels-append xs ys) ∙ weigh-append w (labels_of xs) (labels_of ys) in
      let o : weigh w (labels_of ns) ≡ weigh w (labels_of (take p ns ++ ((N ∷ (first ++ second)) ++ tail))) =
      ap (λ (zs : List Node). weigh w (labels_of zs)) (sym (split_at kids_of ns p) ∙ ap (λ (zs : List Node). take p ns ++ (zs ++ tail)) (two-terms ns p N second-key.0 one-term C two)) in
      let h1 = sum (take p ns) (second ++ tail) in
      let h2 = sum second tail in
      let h3 = sum (take p ns) ((N ∷ (first ++ second)) ++ tail) in
      let h4 = sum (N ∷ (first ++ second)) tail in
      let h5 = sum first second in
      (omega (arith, o, h1, h2, h3, h4, h5), omega (arith, o, h1, h2, h3, h4, h5))

  -- the term that is freed, as it is seen
  abbrev pub raw-gone : List Node
  raw-gone = record raw-node.0 { kids = 1 } ∷ get_or (terms kids_of 2 (drop (p + 1) raw)) 0 []

  pub gone-seen : labels_of (placed order raw-gone) ≡ gone
  gone-seen = ap (λ (zs : List Node). N.label ∷ labels_of zs) (term-placed order 2 raw (p + 1) 0 ∙ ap (λ (zs : List Node). get_or (terms kids_of 2 (drop (p + 1) zs)) 0 []) (sym nodes_r))

  pub gone-known : AreKnown order raw-gone
  gone-known =
      let k = known-body a roots ranks calls order nodes G K see r in
      (known-node order raw p raw-node.0 raw-node.1 k, known-term order 2 (drop (p + 1) raw) (known-drop order (p + 1) raw k) 0)

  pub gone-counted : (q : ℕ) → q < length calls → calls_in q (labels_of (placed order raw-gone)) ≤ get_or calls q 0
  gone-counted q h = omega (arith, ap (calls_in q) gone-seen, enough a roots ranks calls order nodes G K see r gone in-list (λ w z. (weighs w).1) q h)

  pub gone-real : real_nodes (labels_of (placed order raw-gone)) ≡ 1 + real_nodes (labels_of (first_child_nodes ns p))
  gone-real =
      let e : N.label ≡ Symbol T.node.symbol = sym (label-is ns p N node-there) ∙ ap (λ (ls : List Label). get_or ls p Bottom) (sym (body_at-rules_of G r)) ∙ T.node.label in
      let f : real_nodes gone ≡ suc (real_nodes (labels_of first)) = ap (λ (l : Label). real_nodes (l ∷ labels_of first)) e in
      omega (arith, ap real_nodes gone-seen, f)

  pub gone-size : real_nodes (labels_of (placed order raw-gone)) ≤ nodes
  gone-size = omega (arith, ap real_nodes gone-seen, size-enough a roots ranks calls order nodes G K see r gone in-list (λ w z. (weighs w).1))

  module _ (b c : Terms) (ss : List Key) (calls' : List ℕ) (left : ℕ) (changed : Changed a b roots ss r (lifted_nodes raw p)) (apart : Apart ss at.number)
      (others : (s : ℕ) → s ≢ at.number → term_at c s ≡ term_at b s) where
    done : Changed a c roots ss r (lifted_nodes raw p)
    done = changed-cut a b c roots ss r (lifted_nodes raw p) at changed apart others

    nodes-seen : placed order (lifted_nodes raw p) ≡ lifted_nodes ns p
    nodes-seen = lifted-placed order raw p ∙ ap (λ (zs : List Node). lifted_nodes zs p) (sym nodes_r)

    pub seen-lifted : seen order ranks (terms_of c ss) ≡ news
    seen-lifted = seen-changed a c roots ss ranks order r (lifted_nodes raw p) K.rules done within G see ∙ ap (λ (zs : List Node). with_nodes G r zs) nodes-seen

    pub kept-lifted : length calls' ≡ length calls → ((q : ℕ) → q < length calls → get_or calls' q 0 + calls_in q (labels_of (placed order raw-gone)) ≡ get_or calls q 0) → left ≡ real_nodes (labels_of (placed order raw-gone))
        → IsKept c ss ranks calls' order (nodes - left)
    kept-lifted len moved real =
        let m = ap (λ (zs : List Node). with_nodes G r zs) nodes-seen in
        let n = counted-with G r (lifted_nodes ns p) L in-list calls calls' nodes (nodes - left) gone [] (counted a roots ranks calls order nodes G K see) (λ w z. (weighs w).0) len
        (λ q h. omega (arith, moved q h, ap (calls_in q) gone-seen)) (omega (arith, real, ap real_nodes gone-seen, gone-size)) in
        kept-changed a c roots ss ranks order r (lifted_nodes raw p) K.rules done within G calls' (nodes - left) see (known-lifted order raw p (known-body a roots ranks calls order nodes G K see r))
        (subst IsLawful (sym m) lifted-lawful) (subst (λ (H : List KeyedRule). AreCounted H calls' (nodes - left)) (sym m) n)

    pub size-lifted : length calls' ≡ length calls → ((q : ℕ) → q < length calls → get_or calls' q 0 + calls_in q (labels_of (placed order raw-gone)) ≡ get_or calls q 0) → left ≡ real_nodes (labels_of (placed order raw-gone))
        → size (rules_of (seen order ranks (terms_of c ss))) + (1 + real_nodes (labels_of (first_child_nodes ns p))) ≡ size (rules_of G)
    size-lifted len moved real =
        omega (arith, (kept-lifted len moved real).counted.real, (counted a roots ranks calls order nodes G K see).real, gone-size, gone-real, real)
