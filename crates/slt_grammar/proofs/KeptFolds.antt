-- Rules that are kept, once a node was folded with its parent.
use Rattle.std.proofs.Common.{◌≡◌, ◌≢◌, ℕ, suc, ◌+◌, ◌-◌, ◌<◌, ◌≤◌, ◌^◌, List, [], ◌∷◌, length, get_or, Option, Some, IsSome, slice_get, refl, sym, ap, ◌∙◌, subst, arith}
use Rattle.rule_arena.specs.Terms.{Node, Terms, At, IsSound, node_count, term_at, key_in, kids_in, parent_in}
use Rattle.rule_arena.specs.declared.key.Key.{Key}
use Rattle.rule_arena.specs.declared.label.Label.{Label}
use Rattle.rule_arena.specs.declared.label.Label.TheVariants.{Bottom, Symbol, Call, Param}
use Rattle.rule_arena.proofs.ChildLemmas.{length-kids}
use Rattle.slt_grammar.specs.Algebras.{all_meanings}
use Rattle.slt_grammar.specs.Bodies.{calls_in, real_nodes, CallsBelow}
use Rattle.slt_grammar.specs.Grammars.{rank_at, value_at, size}
use Rattle.slt_grammar.specs.Holding.{seen, terms_of, IsKept, IsLawful, AreCounted, Changed, IsFoldable}
use Rattle.slt_grammar.specs.Keyed.{KeyedRule, key_at, nodes_at, rules_of, labels_of}
use Rattle.slt_grammar.specs.KeyedEdits.{FoldsInto, with_nodes, label_at, folded_nodes}
use Rattle.slt_grammar.specs.Ordering.{IsThere, place_of}
use Rattle.slt_grammar.specs.Placing.{placed, placed_node, placed_label, AreKnown}
use Rattle.slt_grammar.specs.Terms.{Term, Leaf, term_algebra, holes}
use Rattle.slt_grammar.proofs.CallCounts.{below-more}
use Rattle.slt_grammar.proofs.Changes.{changed-one, kept-changed, seen-changed}
use Rattle.slt_grammar.proofs.FoldedRules.{N, D, C, low-node, in-rules, one-term, high, low-place, upper-label, lower-label, upper-real, lower-real, few-kids, folded-lawful, folded-means, folded-ranks, folded-weighs, gone-within}
use Rattle.slt_grammar.proofs.Held.{node-is, root-at, key-is, nodes-are, many-rules, rule-within}
use Rattle.slt_grammar.proofs.KeptLemmas.{lawful, counted, many-calls, known-body, body-below, enough, size-enough, once, below-get, below-two}
use Rattle.slt_grammar.proofs.KeyedEdits.{counted-with}
use Rattle.slt_grammar.proofs.KeyedLemmas.{body_at-rules_of}
use Rattle.slt_grammar.proofs.Parents.{child-parent}
use Rattle.slt_grammar.proofs.Placed.{folded-placed, known-folded}
use Rattle.slt_grammar.proofs.RuleMeanings.{rank_at-ranks_of}
use Rattle.slt_grammar.proofs.Seen.{node-placed, kids_in-placed, parent-placed}
use Rattle.slt_grammar.proofs.TourWalking.{key-node}

module _ (a : Terms) (roots : List Key) (ranks calls order : List ℕ) (nodes : ℕ) (G : List KeyedRule) (K : IsKept a roots ranks calls order nodes) (see : seen order ranks (terms_of a roots) ≡ G)
    (S : IsSound a) (few : node_count a ≤ 2 ^ 32) (lower : Key) (q : ℕ) (F : FoldsInto G lower q) where
  abbrev pub r : ℕ
  r = F.here.rule

  abbrev pub raw : List Node
  raw = get_or (terms_of a roots) r []

  pub L : IsLawful G
  L = lawful a roots ranks calls order nodes G K see

  pub once_r : (i j : ℕ) (k : Key) → key_at G r i ≡ Some k → key_at G r j ≡ Some k → i ≡ j
  once_r i j k e f = once a roots ranks calls order nodes G K see S few r i j k e f

  abbrev pub upper-node : Node
  upper-node = N G lower q L F once_r

  abbrev pub lower-node : Node
  lower-node = (D G lower q L F once_r).node

  abbrev pub low-at : At a lower
  low-at = node-is a roots ranks order G K.rules see r F.here.place lower F.here.there

  abbrev pub high-at : At a F.upper
  high-at = node-is a roots ranks order G K.rules see r F.place F.upper F.above

  nodes_r : nodes_at G r ≡ placed order raw
  nodes_r = nodes-are a roots ranks order G K.rules see r

  kids-same : (p : ℕ) → kids_in raw p ≡ kids_in (nodes_at G r) p
  kids-same p = sym (kids_in-placed order raw p) ∙ ap (λ (ns : List Node). kids_in ns p) (sym nodes_r)

  pub in-list : r < length G
  in-list = in-rules G lower q L F once_r

  pub foldable : IsFoldable a F.upper lower
  foldable = record {
    here = low-at;
    place = F.place;
    above = key-is a roots ranks order G K.rules see r F.place F.upper F.above;
    child = F.child;
    is_child = ap (λ (ks : List Key). slice_get ks F.child) (kids-same F.place) ∙ F.is_child;
    few =
        let t = one-term G lower q L F once_r in
        let u = length-kids 1 (nodes_at G r) F.place upper-node t.term (high G lower q L F once_r).1 in
        let l = length-kids 1 (nodes_at G r) F.here.place lower-node t.term low-there in
        omega (arith, few-kids G lower q L F once_r, u, l, ap length (kids-same F.place), ap length (kids-same F.here.place));
  }
    where
      low-there : slice_get (nodes_at G r) F.here.place ≡ Some lower-node
      low-there = low-node G lower q L F once_r

  pub parent : parent_in raw F.here.place ≡ Some (F.upper, suc F.child)
  parent =
      sym (parent-placed order raw F.here.place) ∙ ap (λ (ns : List Node). parent_in ns F.here.place) (sym nodes_r)
      ∙ child-parent (nodes_at G r) F.place upper-node F.child lower (C G lower q L F once_r) F.here.place (low-place G lower q L F once_r)
      ∙ ap (λ (k : Key). let o : Option (Key × ℕ) = Some (k, suc F.child) in o) (high G lower q L F once_r).2

  -- the label of a node as it is seen
  label-seen : (p : ℕ) (n m : Node) → slice_get raw p ≡ Some n → slice_get (nodes_at G r) p ≡ Some m → placed_label order n.label ≡ m.label
  label-seen p n m e f =
      let g : slice_get (nodes_at G r) p ≡ Some (placed_node order n) = ap (λ (ns : List Node). slice_get ns p) nodes_r ∙ node-placed order raw p n e in
      one (slice_get (nodes_at G r) p) (placed_node order n) m g f
    where
      one : (o : Option Node) (x y : Node) → o ≡ Some x → o ≡ Some y → x.label ≡ y.label
      one o x y e f = let z : x ≡ y = cc in ap (λ (w : Node). w.label) z

  pub upper-read : (l : Label) → ((x : At a F.upper) (n : Node) → slice_get x.nodes x.place ≡ Some n → l ≡ placed_label order n.label) → l ≡ upper-node.label
  upper-read l read =
      let n = key-node raw F.place F.upper (key-is a roots ranks order G K.rules see r F.place F.upper F.above) in
      read high-at n.0 n.1 ∙ label-seen F.place n.0 upper-node n.1 (high G lower q L F once_r).1

  pub lower-read : (l : Label) → ((x : At a lower) (n : Node) → slice_get x.nodes x.place ≡ Some n → l ≡ placed_label order n.label) → l ≡ lower-node.label
  lower-read l read =
      let n = key-node raw F.here.place lower (key-is a roots ranks order G K.rules see r F.here.place lower F.here.there) in
      read low-at n.0 n.1 ∙ label-seen F.here.place n.0 lower-node n.1 (low-node G lower q L F once_r)

  abbrev pub gone : List Label
  gone = upper-node.label ∷ lower-node.label ∷ []

  pub gone-there : CallsBelow (length calls) gone
  gone-there =
      let n = many-calls a roots ranks calls order nodes G K see in
      let m = many-rules a roots ranks order G K.rules see in
      let b : CallsBelow r (labels_of (nodes_at G r)) = body-below a roots ranks calls order nodes G K see r in-list in
      let up : (k : Label) (p : ℕ) → label_at G r p ≡ k → CallsBelow (length calls) (k ∷ []) =
      λ k p e. subst (λ l. CallsBelow (length calls) (l ∷ [])) (sym (ap (λ ls. get_or ls p Bottom) (body_at-rules_of G r)) ∙ e)
      (below-more r (length calls) (get_or (labels_of (nodes_at G r)) p Bottom ∷ []) (omega (arith, n, m, in-list)) (below-get r (labels_of (nodes_at G r)) p b)) in
      below-two (length calls) upper-node.label lower-node.label (up upper-node.label F.place (upper-label G lower q L F once_r)) (up lower-node.label F.here.place (lower-label G lower q L F once_r))

  pub called-there : q < length calls
  called-there = let e = F.earlier in omega (arith, many-calls a roots ranks calls order nodes G K see, many-rules a roots ranks order G K.rules see, in-list)

  pub gone-counted : (p : ℕ) → p < length calls → calls_in p gone ≤ get_or calls p 0
  gone-counted = enough a roots ranks calls order nodes G K see r gone in-list (λ w z. gone-within G lower q L F once_r w)

  two-real : real_nodes gone ≡ 2
  two-real = real-both upper-node.label lower-node.label (upper-real G lower q L F once_r) (lower-real G lower q L F once_r)
    where
      real-both : (u l : Label) → u ≢ Param → l ≢ Param → real_nodes (u ∷ l ∷ []) ≡ 2
      real-both Param l n m = absurd (n refl)
      real-both Bottom Param n m = absurd (m refl)
      real-both Bottom Bottom n m = refl
      real-both Bottom (Symbol g) n m = refl
      real-both Bottom (Call p) n m = refl
      real-both (Symbol f) Param n m = absurd (m refl)
      real-both (Symbol f) Bottom n m = refl
      real-both (Symbol f) (Symbol g) n m = refl
      real-both (Symbol f) (Call p) n m = refl
      real-both (Call f) Param n m = absurd (m refl)
      real-both (Call f) Bottom n m = refl
      real-both (Call f) (Symbol g) n m = refl
      real-both (Call f) (Call p) n m = refl

  pub size-there : 2 ≤ nodes
  size-there = omega (arith, two-real, size-enough a roots ranks calls order nodes G K see r gone in-list (λ w z. gone-within G lower q L F once_r w))

  abbrev pub news : List KeyedRule
  news = with_nodes G r (folded_nodes (nodes_at G r) F.place F.upper F.here.place (Call q))

  module _ (b : Terms) (id : ℕ) (calls' : List ℕ) (there : IsThere order id) (place : place_of order id ≡ q)
      (folded : (x : At a lower) (p : ℕ) → key_in x.nodes p ≡ Some F.upper → term_at b x.root ≡ Some (folded_nodes x.nodes p F.upper x.place (Call id)))
      (others : (x : At a lower) (s : ℕ) → IsSome (term_at a s) → s ≢ x.root → term_at b s ≡ term_at a s)
      (len : length calls' ≡ length calls) (moved : (p : ℕ) → p < length calls → get_or calls' p 0 + calls_in p gone ≡ get_or calls p 0 + calls_in p (Call q ∷ [])) where
    raws : List Node
    raws = folded_nodes raw F.place F.upper F.here.place (Call id)

    changed : Changed a b roots roots r (folded_nodes raw F.place F.upper F.here.place (Call id))
    changed =
        let k = root-at a roots ranks order G K.rules see r F.here.place lower F.here.there in
        changed-one a b roots r k.0 (folded_nodes raw F.place F.upper F.here.place (Call id)) K.rules.held k.1
        (folded low-at F.place (key-is a roots ranks order G K.rules see r F.place F.upper F.above)) (λ s h d. others low-at s h d)

    seen-nodes : placed order (folded_nodes raw F.place F.upper F.here.place (Call id)) ≡ folded_nodes (nodes_at G r) F.place F.upper F.here.place (Call q)
    seen-nodes =
        folded-placed order raw F.place F.upper F.here.place (Call id)
        ∙ ap (λ (p : ℕ). folded_nodes (placed order raw) F.place F.upper F.here.place (Call p)) place
        ∙ ap (λ (ns : List Node). folded_nodes ns F.place F.upper F.here.place (Call q)) (sym nodes_r)

    within : r < length roots
    within = rule-within a roots ranks order G K.rules see r F.here.place lower F.here.there

    known : AreKnown order (folded_nodes raw F.place F.upper F.here.place (Call id))
    known = known-folded order raw F.place F.upper F.here.place (Call id) (known-body a roots ranks calls order nodes G K see r) there

    pub seen-folded : seen order ranks (terms_of b roots) ≡ news
    seen-folded = seen-changed a b roots roots ranks order r (folded_nodes raw F.place F.upper F.here.place (Call id)) K.rules changed within G see ∙ ap (λ (ns : List Node). with_nodes G r ns) seen-nodes

    news-counted : AreCounted news calls' (nodes - 1)
    news-counted =
        counted-with G r (folded_nodes (nodes_at G r) F.place F.upper F.here.place (Call q)) L in-list calls calls' nodes (nodes - 1) gone (Call q ∷ []) (counted a roots ranks calls order nodes G K see)
        (λ w z. folded-weighs G lower q L F once_r w) len moved (omega (arith, two-real, size-there))

    pub kept-folded : IsKept b roots ranks calls' order (nodes - 1)
    kept-folded =
        let m = ap (λ (ns : List Node). with_nodes G r ns) seen-nodes in
        kept-changed a b roots roots ranks order r (folded_nodes raw F.place F.upper F.here.place (Call id)) K.rules changed within G calls' (nodes - 1) see known
        (subst IsLawful (sym m) (folded-lawful G lower q L F once_r)) (subst (λ (H : List KeyedRule). AreCounted H calls' (nodes - 1)) (sym m) news-counted)

    pub values-folded : (s : ℕ) → value_at (rules_of (seen order ranks (terms_of b roots))) s ≡ value_at (rules_of G) s
    values-folded s =
        let e = folded-ranks G lower q L F once_r in
        ap (λ (H : List KeyedRule). value_at (rules_of H) s) seen-folded
        ∙ ap (λ (k : ℕ). get_or (all_meanings term_algebra (rules_of news)) s (λ _. Leaf) (holes 0 k)) (sym (rank_at-ranks_of (rules_of news) s) ∙ ap (λ (rs : List ℕ). get_or rs s 0) e ∙ rank_at-ranks_of (rules_of G) s)
        ∙ ap (λ (fs : List (List Term → Term)). get_or fs s (λ _. Leaf) (holes 0 (rank_at (rules_of G) s))) (folded-means G lower q L F once_r term_algebra)

    pub size-folded : size (rules_of (seen order ranks (terms_of b roots))) + 1 ≡ size (rules_of G)
    size-folded =
        let c = (counted a roots ranks calls order nodes G K see).real in
        omega (arith, ap (λ (H : List KeyedRule). size (rules_of H)) seen-folded, news-counted.real, c, size-there)
