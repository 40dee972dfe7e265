-- Rules that are kept, once a term gave way to a call of a rule with whose body it began.
use Rattle.std.proofs.Common.{◌≡◌, ℕ, ◌+◌, ◌-◌, ◌<◌, ◌≤◌, List, [], ◌∷◌, ◌++◌, length, get_or, take, drop, map, Some, slice_get, refl, sym, ap, ◌∙◌, subst, arith}
use Rattle.std.proofs.lemmas.List.{length-map, length-take-le}
use Rattle.rule_arena.specs.Preorder.{AreTerms, span, subterm, with_subterm}
use Rattle.rule_arena.specs.Terms.{Node, Terms, At, IsSound, term_at, kids_of}
use Rattle.rule_arena.specs.declared.key.Key.{Key}
use Rattle.rule_arena.specs.declared.label.Label.{Label}
use Rattle.rule_arena.specs.declared.label.Label.TheVariants.{Bottom, Call, Param}
use Rattle.rule_arena.proofs.PreorderLemmas.{AreTerms-with, split_at}
use Rattle.slt_grammar.specs.Algebras.{ranks_of, all_meanings}
use Rattle.slt_grammar.specs.Bodies.{calls_in, real_nodes, IsTerm}
use Rattle.slt_grammar.specs.Calling.{BeginsWith, called_nodes}
use Rattle.slt_grammar.specs.Copying.{copied, holes_in, inlined_nodes}
use Rattle.slt_grammar.specs.Detaching.{AreArgs, Laced, between}
use Rattle.slt_grammar.specs.Grammars.{body_at, rank_at, size, value_at}
use Rattle.slt_grammar.specs.Holding.{seen, terms_of, IsKept, IsLawful, AreCounted, Changed}
use Rattle.slt_grammar.specs.Keyed.{KeyedRule, nodes_at, rules_of, labels_of}
use Rattle.slt_grammar.specs.KeyedEdits.{with_nodes}
use Rattle.slt_grammar.specs.Ordering.{IsThere, place_of}
use Rattle.slt_grammar.specs.Placing.{placed, placed_node, AreKnown}
use Rattle.slt_grammar.specs.Terms.{Term, Leaf, term_algebra, holes}
use Rattle.slt_grammar.proofs.Agreeing.{agree-of, kids-terms}
use Rattle.slt_grammar.proofs.CalledRules.{in-list, called-lawful, called-means, called-ranks, called-weighs, inlines-back}
use Rattle.slt_grammar.proofs.Changes.{kept-changed, seen-changed}
use Rattle.slt_grammar.proofs.Detachings.{flat}
use Rattle.slt_grammar.proofs.Held.{node-is, nodes-are, rule-within, body-stands}
use Rattle.slt_grammar.proofs.Inlinings.{inside}
use Rattle.slt_grammar.proofs.KeptLemmas.{lawful, counted, known-body, enough, size-enough}
use Rattle.slt_grammar.proofs.KeyedEdits.{counted-with}
use Rattle.slt_grammar.proofs.KeyedLemmas.{body_at-rules_of, length-rules_of}
use Rattle.slt_grammar.proofs.Placed.{known-with, known-subterm, with-placed, subterm-placed}
use Rattle.slt_grammar.proofs.RuleMeanings.{rank_at-ranks_of}
use Rattle.slt_grammar.proofs.Weaving.{Begun, begun, Unwoven, unwoven, headed, args-raw, placed-flat, known-between}
use Rattle.slt_grammar.proofs.Weights.{weigh}

module _ (a : Terms) (roots : List Key) (ranks calls order : List ℕ) (nodes : ℕ) (G : List KeyedRule) (K : IsKept a roots ranks calls order nodes) (see : seen order ranks (terms_of a roots) ≡ G)
    (S : IsSound a) (at : Key) (q : ℕ) (arguments : List Key) (B : BeginsWith G at q arguments) where
  abbrev pub r : ℕ
  r = B.here.rule

  abbrev pub p : ℕ
  p = B.here.place

  abbrev pub raw : ℕ → List Node
  raw s = get_or (terms_of a roots) s []

  pub L : IsLawful G
  L = lawful a roots ranks calls order nodes G K see

  abbrev pub at-here : At a at
  at-here = node-is a roots ranks order G K.rules see r p at B.here.there

  pub within : r < length roots
  within = rule-within a roots ranks order G K.rules see r p at B.here.there

  pub called-within : q < length roots
  called-within = let e = B.earlier in omega (arith, within)

  nodes_s : (s : ℕ) → nodes_at G s ≡ placed order (raw s)
  nodes_s s = nodes-are a roots ranks order G K.rules see s

  pub root-stands : (k : Key) → slice_get roots q ≡ Some k → term_at a k.number ≡ Some (raw q)
  root-stands k e = body-stands a roots ranks order G K.rules see q k e

  in-rules : r < length G
  in-rules = in-list G at q arguments at L B

  callee-term : AreTerms kids_of 1 (nodes_at G q)
  callee-term =
      let rs : List ℕ = ranks_of (rules_of G) in
      kids-terms rs 1 (nodes_at G q) (agree-of rs (nodes_at G q) (L.arities q))
      (subst (IsTerm rs) (body_at-rules_of G q) (L.grammar.each q (let e = B.earlier in omega (arith, in-rules, length-rules_of G))).shaped.term)

  pub pieces : Begun (copied (nodes_at G q) B.args B.keys) B.args
  pieces = at-node (nodes_at G q) refl callee-term B.enough
    where
      at-node : (ns : List Node) → nodes_at G q ≡ ns → AreTerms kids_of 1 ns → length B.args ≡ holes_in ns → Begun (copied ns B.args B.keys) B.args
      at-node [] e t h = absurd t
      at-node (n ∷ ns) e t h = begun n ns B.args B.keys (λ z. B.real (ap (λ ls. get_or ls 0 Bottom) (body_at-rules_of G q) ∙ ap (λ (ms : List Node). get_or (labels_of ms) 0 Bottom) e ∙ z)) h

  pub woven-raw : Unwoven (placed_node order) (subterm kids_of (raw r) p) ((pieces.begin ∷ pieces.first) ∷ pieces.more) B.args
  woven-raw =
      unwoven (placed_node order) (subterm kids_of (raw r) p) ((pieces.begin ∷ pieces.first) ∷ pieces.more) B.args (let e = pieces.enough in omega arith)
      (subterm-placed order (raw r) p ∙ ap (λ (ns : List Node). subterm kids_of ns p) (sym (nodes_s r)) ∙ B.term ∙ pieces.is)

  -- the arguments as they lie
  abbrev pub given : List (List Node)
  given = woven-raw.args

  pub args-given : AreArgs arguments given
  args-given = args-raw order arguments given (subst (λ (gs : List (List Node)). AreArgs arguments gs) (sym woven-raw.args_are) B.roots)

  many-given : length given ≡ length B.args
  many-given = sym (length-map given (λ zs. map (placed_node order) zs)) ∙ ap length woven-raw.args_are

  pub laced : Laced (raw r) p given
  laced =
      let h = headed (placed_node order) woven-raw.pieces pieces.begin pieces.first pieces.more woven-raw.pieces_are in
      let ns : List Node = raw r in
      let tail : List Node = drop (span kids_of 1 (drop p ns)) (drop p ns) in
      let l : p < length ns = inside ns p at at-here.there in
      let e : subterm kids_of ns p ≡ between ((h.0 ∷ h.1) ∷ h.2) given = woven-raw.is ∙ ap (λ (us : List (List Node)). between us given) h.3 in
      let t : AreTerms kids_of 1 ns = S.term at-here.root ns at-here.stands in
      record {
        front = take p ns;
        begin = h.0;
        first = h.1;
        more = h.2;
        back = tail;
        whole = sym (split_at kids_of ns p) ∙ ap (λ (zs : List Node). take p ns ++ (zs ++ tail)) e;
        place = length-take-le p ns (omega (arith, l));
        one = subst (λ (zs : List Node). AreTerms kids_of 1 zs) e (AreTerms-with kids_of 1 ns p ns t l t).0;
        enough = (let k = pieces.enough in omega (arith, h.4, many-given));
      }

  pub callee-known : AreKnown order (raw q)
  callee-known = known-body a roots ranks calls order nodes G K see q

  labels-seen : labels_of (placed order (raw q)) ≡ labels_of (nodes_at G q)
  labels-seen = ap labels_of (sym (nodes_s q))

  part : (w : Label → ℕ) → w Param ≡ 0 → weigh w (labels_of (nodes_at G q)) ≤ weigh w (labels_of (nodes_at G r))
  part w z = (called-weighs G at q arguments at L B w z).1

  pub body-counted : (s : ℕ) → s < length calls → calls_in s (labels_of (placed order (raw q))) ≤ get_or calls s 0
  body-counted s h = omega (arith, ap (calls_in s) labels-seen, enough a roots ranks calls order nodes G K see r (labels_of (nodes_at G q)) in-rules part s h)

  pub size-there : real_nodes (labels_of (placed order (raw q))) ≤ nodes
  size-there = omega (arith, ap real_nodes labels-seen, size-enough a roots ranks calls order nodes G K see r (labels_of (nodes_at G q)) in-rules part)

  known-given : AreKnown order (flat given)
  known-given =
      known-between order woven-raw.pieces given
      (let k = pieces.enough in let e = ap length woven-raw.pieces_are in omega (arith, many-given, length-map woven-raw.pieces (λ zs. map (placed_node order) zs)))
      (subst (λ (zs : List Node). AreKnown order zs) woven-raw.is (known-subterm order (raw r) p (known-body a roots ranks calls order nodes G K see r)))

  module _ (b : Terms) (ss : List Key) (calls' : List ℕ) (key : Key) (id gone : ℕ) (there : IsThere order id) (place : place_of order id ≡ q)
      (changed : Changed a b roots ss r (called_nodes (raw r) p key (Call id) given)) where
    abbrev pub news : List KeyedRule
    news = with_nodes G r (called_nodes (nodes_at G r) p key (Call q) B.args)

    ms-seen : placed order (called_nodes (raw r) p key (Call id) given) ≡ called_nodes (nodes_at G r) p key (Call q) B.args
    ms-seen =
        with-placed order (raw r) p (record { key = key; label = Call id; kids = length given } ∷ flat given)
        ∙ ap (λ (ns : List Node). with_subterm kids_of ns p (placed order (record { key = key; label = Call id; kids = length given } ∷ flat given))) (sym (nodes_s r))
        ∙ ap (λ (i : ℕ). with_subterm kids_of (nodes_at G r) p (record { key = key; label = Call i; kids = length given } ∷ placed order (flat given))) place
        ∙ ap (λ (k : ℕ). with_subterm kids_of (nodes_at G r) p (record { key = key; label = Call q; kids = k } ∷ placed order (flat given))) many-given
        ∙ ap (λ (zs : List Node). with_subterm kids_of (nodes_at G r) p (record { key = key; label = Call q; kids = length B.args } ∷ zs)) (placed-flat order given ∙ ap flat woven-raw.args_are)

    known : AreKnown order (called_nodes (raw r) p key (Call id) given)
    known = known-with order (raw r) p (record { key = key; label = Call id; kids = length given } ∷ flat given) (known-body a roots ranks calls order nodes G K see r) ((there, known-given))

    pub seen-called : seen order ranks (terms_of b ss) ≡ news
    seen-called = seen-changed a b roots ss ranks order r (called_nodes (raw r) p key (Call id) given) K.rules changed within G see ∙ ap (λ (ns : List Node). with_nodes G r ns) ms-seen

    pub back-called : G ≡ with_nodes (seen order ranks (terms_of b ss)) r (inlined_nodes (nodes_at (seen order ranks (terms_of b ss)) r) p (nodes_at (seen order ranks (terms_of b ss)) q) B.keys)
    back-called = inlines-back G at q arguments key L B ∙ ap (λ (H : List KeyedRule). with_nodes H r (inlined_nodes (nodes_at H r) p (nodes_at H q) B.keys)) (sym seen-called)

    pub values-called : (s : ℕ) → value_at (rules_of (seen order ranks (terms_of b ss))) s ≡ value_at (rules_of G) s
    values-called s =
        let e = called-ranks G at q arguments key L B in
        ap (λ (H : List KeyedRule). value_at (rules_of H) s) seen-called
        ∙ ap (λ (k : ℕ). get_or (all_meanings term_algebra (rules_of news)) s (λ _. Leaf) (holes 0 k)) (sym (rank_at-ranks_of (rules_of news) s) ∙ ap (λ (rs : List ℕ). get_or rs s 0) e ∙ rank_at-ranks_of (rules_of G) s)
        ∙ ap (λ (fs : List (List Term → Term)). get_or fs s (λ _. Leaf) (holes 0 (rank_at (rules_of G) s))) (called-means G at q arguments key L B term_algebra)

    pub kept-called : length calls' ≡ length calls → ((s : ℕ) → s < length calls → get_or calls' s 0 + calls_in s (labels_of (placed order (raw q))) ≡ get_or calls s 0 + calls_in s (Call q ∷ [])) → gone ≡ real_nodes (labels_of (placed order (raw q)))
        → IsKept b ss ranks calls' order (nodes + 1 - gone)
    kept-called len moves real =
        let m = ap (λ (ns : List Node). with_nodes G r ns) ms-seen in
        let n = counted-with G r (called_nodes (nodes_at G r) p key (Call q) B.args) L in-rules calls calls' nodes (nodes + 1 - gone) (labels_of (nodes_at G q)) (Call q ∷ []) (counted a roots ranks calls order nodes G K see)
        (λ w z. (called-weighs G at q arguments key L B w z).0) len (λ s h. omega (arith, moves s h, ap (calls_in s) labels-seen)) (omega (arith, real, ap real_nodes labels-seen, size-there)) in
        kept-changed a b roots ss ranks order r (called_nodes (raw r) p key (Call id) given) K.rules changed within G calls' (nodes + 1 - gone) see known
        (subst IsLawful (sym m) (called-lawful G at q arguments key L B)) (subst (λ (H : List KeyedRule). AreCounted H calls' (nodes + 1 - gone)) (sym m) n)

    pub size-called : length calls' ≡ length calls → ((s : ℕ) → s < length calls → get_or calls' s 0 + calls_in s (labels_of (placed order (raw q))) ≡ get_or calls s 0 + calls_in s (Call q ∷ [])) → gone ≡ real_nodes (labels_of (placed order (raw q)))
        → size (rules_of (seen order ranks (terms_of b ss))) + real_nodes (body_at (rules_of G) q) ≡ size (rules_of G) + 1
    size-called len moves real =
        omega (
          arith,
          (kept-called len moves real).counted.real,
          (counted a roots ranks calls order nodes G K see).real,
          size-there,
          real,
          ap real_nodes labels-seen,
          ap real_nodes (body_at-rules_of G q),
        )
