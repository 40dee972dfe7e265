-- What a fold leaves: all nodes but those near it tell the same.
use Rattle.std.proofs.Common.{◌≡◌, ◌⊎◌, inl, inr, ℕ, suc, ◌+◌, List, ◌∷◌, ◌++◌, length, Option, Some, slice_get, refl, sym, ap, ◌∙◌, subst, arith, append_assoc}
use Rattle.std.proofs.lemmas.Bool.{cases_eq}
use Rattle.rule_arena.specs.Preorder.{AreTerms, with_subterm}
use Rattle.rule_arena.specs.Terms.{Node, kids_of, key_in, kids_in, parent_in}
use Rattle.rule_arena.specs.Children.{ChildAt, Child}
use Rattle.rule_arena.specs.declared.key.Key.{Key}
use Rattle.rule_arena.proofs.NodeLemmas.{key_of_node, node_of, same_key}
use Rattle.rule_arena.proofs.PreorderLemmas.{AreTerms-append, with_subterm-split, slice_get-right}
use Rattle.slt_grammar.specs.Names.{Call}
use Rattle.slt_grammar.specs.Algebras.{ranks_of}
use Rattle.slt_grammar.specs.Holding.{IsLawful}
use Rattle.slt_grammar.specs.Keyed.{Keyed, KeyedRule, IsKeyed, key_at, nodes_at, rules_of}
use Rattle.slt_grammar.specs.KeyedEdits.{FoldsInto, with_nodes, folded_nodes}
use Rattle.slt_grammar.proofs.FoldedRules.{N, C, high, in-rules, one-term, merged-is, folded-ranks}
use Rattle.slt_grammar.proofs.KeyedEdits.{nodes-with_nodes, nodes-others, length-with_nodes}
use Rattle.slt_grammar.proofs.KeyedLemmas.{key_at-within, nodes-are-term}
use Rattle.digram_index.specs.Keeping.{TellsSame, IsNear}
use Rattle.digram_index.proofs.Apartness.{one-key}
use Rattle.digram_index.specs.Partly.{IsAmong}
use Rattle.pair_replace.specs.Near.{IsAround}
use Rattle.pair_replace.proofs.FoldedParents.{IsBelow, upper, lower, Came, came, stays, low-there}
use Rattle.digram_index.proofs.Kids.{child-of, kid-there, kid-parent}

module _ (g h : Keyed) (K : IsKeyed g) (low : Key) (q : ℕ) (F : FoldsInto g.rules low q)
    (made : h.rules ≡ with_nodes g.rules F.here.rule (folded_nodes (nodes_at g.rules F.here.rule) F.place F.upper F.here.place (Call q))) where
  abbrev G : List KeyedRule
  G = g.rules

  abbrev r : ℕ
  r = F.here.rule

  abbrev ns : List Node
  ns = nodes_at G r

  lawful : IsLawful G
  lawful = record { grammar = K.grammar; arities = K.arities }

  once : (i j : ℕ) (k : Key) → key_at G r i ≡ Some k → key_at G r j ≡ Some k → i ≡ j
  once i j k e f = (K.once k r i r j e f).1

  abbrev U : Node
  U = N G low q lawful F once

  abbrev at : ChildAt ns F.place U F.child low
  at = C G low q lawful F once

  abbrev T : Child at.rest U.kids F.child low
  T = at.child

  abbrev merge : Node
  merge = record { key = U.key; label = Call q; kids = F.child + (T.node.kids + T.more) }

  abbrev below-high : List Node
  below-high = T.before ++ ((T.node ∷ T.below) ++ T.after)

  whole : ns ≡ at.front ++ (U ∷ (T.before ++ (T.node ∷ (T.below ++ (T.after ++ T.back)))))
  whole = at.split ∙ ap (λ (zs : List Node). at.front ++ (U ∷ zs)) T.split

  high-term : AreTerms kids_of 1 (U ∷ below-high)
  high-term =
      let z : F.child + suc T.more ≡ U.kids + 0 = let m = T.many in omega arith in
      let b : AreTerms kids_of (suc T.more) ((T.node ∷ T.below) ++ T.after) = AreTerms-append kids_of T.node.kids T.more T.below T.after T.below_terms T.after_terms in
      subst (λ (k : ℕ). AreTerms kids_of k below-high) z (AreTerms-append kids_of F.child (suc T.more) T.before ((T.node ∷ T.below) ++ T.after) T.before_terms b)

  folded : folded_nodes ns F.place F.upper F.here.place (Call q) ≡ at.front ++ (merge ∷ (T.before ++ (T.below ++ (T.after ++ T.back))))
  folded =
      let a : ns ≡ at.front ++ ((U ∷ below-high) ++ T.back) =
      whole ∙ ap (λ (zs : List Node). at.front ++ (U ∷ zs)) (ap (λ (zs : List Node). T.before ++ zs) (sym (append_assoc (T.node ∷ T.below) T.after T.back)) ∙ sym (append_assoc T.before ((T.node ∷ T.below) ++ T.after) T.back)) in
      merged-is G low q lawful F once (Call q)
      ∙ ap (λ (zs : List Node). with_subterm kids_of zs F.place (merge ∷ (T.before ++ (T.below ++ T.after)))) a
      ∙ with_subterm-split kids_of at.front (U ∷ below-high) T.back (merge ∷ (T.before ++ (T.below ++ T.after))) F.place at.at high-term
      ∙ ap (λ (zs : List Node). at.front ++ (merge ∷ zs)) (append_assoc T.before (T.below ++ T.after) T.back ∙ ap (λ (zs : List Node). T.before ++ zs) (append_assoc T.below T.after T.back))

  nodes-r : nodes_at h.rules r ≡ at.front ++ (merge ∷ (T.before ++ (T.below ++ (T.after ++ T.back))))
  nodes-r = ap (λ (H : List KeyedRule). nodes_at H r) made ∙ nodes-with_nodes G r (folded_nodes ns F.place F.upper F.here.place (Call q)) (in-rules G low q lawful F once) ∙ folded

  nodes-s : (s : ℕ) → (s ≡ r → ⊥) → nodes_at h.rules s ≡ nodes_at G s
  nodes-s s d = ap (λ (H : List KeyedRule). nodes_at H s) made ∙ nodes-others G r s (folded_nodes ns F.place F.upper F.here.place (Call q)) (in-rules G low q lawful F once) d

  -- the nodes near the fold
  abbrev pub near : ℕ → Type 0
  near n = IsAround F.upper (kids_in ns F.place) (kids_in ns F.here.place) n

  upper-key : U.key ≡ F.upper
  upper-key = (high G low q lawful F once).2

  low-key : T.node.key ≡ low
  low-key = T.named

  -- a child of the two nodes is near
  child-near : (p : ℕ) (key up : Key) (c s : ℕ) → key_in ns p ≡ Some key → parent_in ns p ≡ Some (up, c) → key_in ns s ≡ Some up → IsAmong (kids_in ns s) key.number
  child-near p key up c s k e there =
      let t = child-of ns p (up, c) (one-term G low q lawful F once).term e in
      let z : t.above ≡ s = once t.above s up t.there there in
      (t.child, (key, (subst (λ (j : ℕ). slice_get (kids_in ns j) t.child ≡ Some key) z (t.is_child ∙ k), refl)))

  pub ranks : ranks_of (rules_of h.rules) ≡ ranks_of (rules_of G)
  ranks = ap (λ (H : List KeyedRule). ranks_of (rules_of H)) made ∙ folded-ranks G low q lawful F once

  pub rules : length h.rules ≡ length G
  rules = ap length made ∙ length-with_nodes G r (folded_nodes ns F.place F.upper F.here.place (Call q)) (in-rules G low q lawful F once)

  abbrev olds : List Node
  olds = at.front ++ (U ∷ (T.before ++ (T.node ∷ (T.below ++ (T.after ++ T.back)))))

  abbrev news : List Node
  news = at.front ++ (merge ∷ (T.before ++ (T.below ++ (T.after ++ T.back))))

  abbrev Arrived : (p : ℕ) → Type 0
  Arrived p = Came at.front U T.before T.node T.below T.after T.back merge F.child T.more refl T.many refl T.before_terms T.below_terms T.after_terms p

  arrived : (p : ℕ) → Arrived p
  arrived p = came at.front U T.before T.node T.below T.after T.back merge F.child T.more refl T.many refl T.before_terms T.below_terms T.after_terms p

  one : (a b : Key) → Some a ≡ Some b → a ≡ b
  one a b z = cc

  one-node : (a b : Node) → Some a ≡ Some b → a ≡ b
  one-node a b z = cc

  one-up : (a b : Key × ℕ) → Some a ≡ Some b → a ≡ b
  one-up a b z = cc

  -- what stands at a place of the old nodes
  in-olds : (p : ℕ) (key : Key) → key_in olds p ≡ Some key → key_in ns p ≡ Some key
  in-olds p key e = ap (λ (zs : List Node). key_in zs p) whole ∙ e

  -- a node below one of the two is near
  upper-near : (p : ℕ) (key : Key) (i : ℕ) → key_in ns p ≡ Some key → parent_in ns p ≡ Some (U.key, i) → near key.number
  upper-near p key i k e = inr (inl (child-near p key U.key i F.place k e (F.above ∙ ap Some (sym upper-key))))

  below-near : (p : ℕ) (key : Key) (f : Option (Key × ℕ)) → key_in ns p ≡ Some key → IsBelow U.key T.node.key (parent_in ns p) f → near key.number
  below-near p key f k (upper i j e z) = upper-near p key i k e
  below-near p key f k (lower i j e z) = inr (inr (child-near p key T.node.key i F.here.place k e (F.here.there ∙ ap Some (sym low-key))))

  -- the parent of a node that is not near
  parent-same : (p : ℕ) (key : Key) (A : Arrived p) → key_in ns A.place ≡ Some key → (near key.number → ⊥) → parent_in news p ≡ parent_in ns A.place
  parent-same p key A k far = by A.parent
    where
      by : (parent_in olds A.place ≡ parent_in news p) ⊎ IsBelow U.key T.node.key (parent_in olds A.place) (parent_in news p) → parent_in news p ≡ parent_in ns A.place
      by (inl e) = sym e ∙ ap (λ (zs : List Node). parent_in zs A.place) (sym whole)
      by (inr b) = absurd (far (below-near A.place key (parent_in news p) k (subst (λ (zs : List Node). IsBelow U.key T.node.key (parent_in zs A.place) (parent_in news p)) (sym whole) b)))

  -- the label of its parent
  above-same : (p : ℕ) (key : Key) (A : Arrived p) → key_in ns A.place ≡ Some key → (near key.number → ⊥) → (a b : ℕ) (m n : Node) → slice_get news a ≡ Some m → slice_get ns b ≡ Some n → m.key ≡ n.key → (c : ℕ) → parent_in news p ≡ Some (m.key, c) → m.label ≡ n.label
  above-same p key A k far a b m n f e same c up = by (arrived a)
    where
      by : Arrived a → m.label ≡ n.label
      by B = at-node B.node
        where
          at-node : (slice_get news a ≡ slice_get olds B.place) ⊎ ((slice_get news a ≡ Some merge) × (slice_get olds B.place ≡ Some U)) → m.label ≡ n.label
          at-node (inr w) =
              let z : m.key ≡ U.key = ap (λ (x : Node). x.key) (one-node m merge (sym f ∙ w.0)) in
              let v : parent_in ns A.place ≡ Some (U.key, c) = sym (parent-same p key A k far) ∙ up ∙ ap (λ (x : Key). let o : Option (Key × ℕ) = Some (x, c) in o) z in
              absurd (far (upper-near A.place key c k v))
          at-node (inl w) =
              let v : slice_get ns B.place ≡ Some m = ap (λ (zs : List Node). slice_get zs B.place) whole ∙ sym w ∙ f in
              let z : B.place ≡ b = once B.place b m.key (key_of_node ns B.place m v) (key_of_node ns b n e ∙ ap Some (sym same)) in
              ap (λ (x : Node). x.label) (one-node m n (sym v ∙ ap (λ (j : ℕ). slice_get ns j) z ∙ e))

  abbrev Tells : (s p : ℕ) (key : Key) → Type 0
  Tells s p key = (t : ℕ) × ((j : ℕ) × ((key_at G t j ≡ Some key) × TellsSame h.rules G s p t j))

  -- where a node was that is not near
  same-r : (p : ℕ) (key : Key) → key_in news p ≡ Some key → (near key.number → ⊥) → Tells r p key
  same-r p key k far = by (arrived p)
    where
      by : Arrived p → Tells r p key
      by A = at-node A.node
        where
          at-node : (slice_get news p ≡ slice_get olds A.place) ⊎ ((slice_get news p ≡ Some merge) × (slice_get olds A.place ≡ Some U)) → Tells r p key
          at-node (inr w) = absurd (far (inl (ap (λ (x : Key). x.number) (one key merge.key (sym k ∙ key_of_node news p merge w.0) ∙ upper-key))))
          at-node (inl w) =
              let n = node_of news p key k in
              let there : key_in ns A.place ≡ Some key = in-olds A.place key (sym (same_key news olds p A.place w) ∙ k) in
              let here : slice_get ns A.place ≡ Some n.0 = ap (λ (zs : List Node). slice_get zs A.place) whole ∙ sym w ∙ n.1.0 in (
                r,
                (
                  A.place,
                  (
                    there,
                    record {
                      node = n.0;
                      other = n.0;
                      here = ap (λ (zs : List Node). slice_get zs p) nodes-r ∙ n.1.0;
                      there = here;
                      label = refl;
                      parent = ap (λ (zs : List Node). parent_in zs p) nodes-r ∙ parent-same p key A there far;
                      above = λ a b m n' f e same c up.
                          above-same p key A there far a b m n' (ap (λ (zs : List Node). slice_get zs a) (sym nodes-r) ∙ f) e same c (ap (λ (zs : List Node). parent_in zs p) (sym nodes-r) ∙ up);
                    },
                  ),
                ),
              )

  -- another rule
  same-s : (s p : ℕ) (key : Key) → (s ≡ r → ⊥) → key_at h.rules s p ≡ Some key → Tells s p key
  same-s s p key d k =
      let z = nodes-s s d in
      let there : key_at G s p ≡ Some key = ap (λ (zs : List Node). key_in zs p) (sym z) ∙ k in
      let n = node_of (nodes_at G s) p key there in (
        s,
        (
          p,
          (
            there,
            record {
              node = n.0;
              other = n.0;
              here = ap (λ (zs : List Node). slice_get zs p) z ∙ n.1.0;
              there = n.1.0;
              label = refl;
              parent = ap (λ (zs : List Node). parent_in zs p) z;
              above = λ a b m n' f e same c up.
                  let f' : slice_get (nodes_at G s) a ≡ Some m = ap (λ (zs : List Node). slice_get zs a) (sym z) ∙ f in
                  let y : a ≡ b = (K.once m.key s a s b (key_of_node (nodes_at G s) a m f') (key_of_node (nodes_at G s) b n' e ∙ ap Some (sym same))).1 in
                  ap (λ (x : Node). x.label) (one-node m n' (sym f' ∙ ap (λ (j : ℕ). slice_get (nodes_at G s) j) y ∙ e));
            },
          ),
        ),
      )

  stay-r : (p : ℕ) (key : Key) → key_in ns p ≡ Some key → (key ≡ low → ⊥) → (j : ℕ) × (key_at h.rules r j ≡ Some key)
  stay-r p key k d =
      let s = stays at.front U T.before T.node T.below T.after T.back merge F.child T.more refl T.many refl T.before_terms T.below_terms T.after_terms p key (ap (λ (zs : List Node). key_in zs p) (sym whole) ∙ k) (λ z. d (z ∙ low-key)) in
      (s.0, ap (λ (zs : List Node). key_in zs s.0) nodes-r ∙ s.1)

  pub low-near : near low.number
  low-near = inr (inl (F.child, (low, (F.is_child, refl))))

  -- each other node stays
  pub stay : (s p : ℕ) (key : Key) → key_at G s p ≡ Some key → (key ≡ low → ⊥) → (t : ℕ) × ((j : ℕ) × (key_at h.rules t j ≡ Some key))
  stay s p key k d = by (cases_eq s r)
    where
      by : (s ≡ r) ⊎ (s ≡ r → ⊥) → (t : ℕ) × ((j : ℕ) × (key_at h.rules t j ≡ Some key))
      by (inl z) = (r, stay-r p key (subst (λ (t : ℕ). key_at G t p ≡ Some key) z k) d)
      by (inr x) = (s, (p, ap (λ (zs : List Node). key_in zs p) (nodes-s s x) ∙ k))

  pub fold-near : IsNear g h near
  fold-near = record {
    ranks = ranks;
    rules = rules;
    same = λ s p key k far. by s p key k far (cases_eq s r);
    stay = λ s p key k far. stay s p key k (λ z. far (subst (λ (x : Key). near x.number) (sym z) low-near));
  }
    where
      by : (s p : ℕ) (key : Key) → key_at h.rules s p ≡ Some key → (near key.number → ⊥) → (s ≡ r) ⊎ (s ≡ r → ⊥) → Tells s p key
      by s p key k far (inl z) = subst (λ (t : ℕ). Tells t p key) (sym z) (same-r p key (ap (λ (zs : List Node). key_in zs p) (sym nodes-r) ∙ subst (λ (t : ℕ). key_at h.rules t p ≡ Some key) z k) far)
      by s p key k far (inr d) = same-s s p key d k

  -- a key of the new rules was in the same rule, and was not the lower node's
  pub arrives : (s p : ℕ) (key : Key) → key_at h.rules s p ≡ Some key → (j : ℕ) × ((key_at G s j ≡ Some key) × (key ≡ low → ⊥))
  arrives s p key k = by (cases_eq s r)
    where
      from : Arrived p → key_in news p ≡ Some key → (j : ℕ) × ((key_in ns j ≡ Some key) × (key ≡ low → ⊥))
      from A e = at-node A.node
        where
          there-low : key_in ns (length (at.front ++ (U ∷ T.before))) ≡ Some low
          there-low = in-olds (length (at.front ++ (U ∷ T.before))) low (low-there at.front U T.before T.node T.below T.after T.back merge F.child T.more refl T.many refl T.before_terms T.below_terms T.after_terms ∙ ap Some low-key)

          found : key_in ns A.place ≡ Some key → (j : ℕ) × ((key_in ns j ≡ Some key) × (key ≡ low → ⊥))
          found f = (A.place, (f, λ z. A.gone (once A.place (length (at.front ++ (U ∷ T.before))) low (f ∙ ap Some z) there-low)))

          at-node : (slice_get news p ≡ slice_get olds A.place) ⊎ ((slice_get news p ≡ Some merge) × (slice_get olds A.place ≡ Some U)) → (j : ℕ) × ((key_in ns j ≡ Some key) × (key ≡ low → ⊥))
          at-node (inl w) = found (in-olds A.place key (sym (same_key news olds p A.place w) ∙ e))
          at-node (inr w) = found (in-olds A.place key (key_of_node olds A.place U w.1 ∙ sym (key_of_node news p merge w.0) ∙ e))

      by : (s ≡ r) ⊎ (s ≡ r → ⊥) → (j : ℕ) × ((key_at G s j ≡ Some key) × (key ≡ low → ⊥))
      by (inl z) =
          let e : key_in news p ≡ Some key = ap (λ (zs : List Node). key_in zs p) (sym nodes-r) ∙ subst (λ (t : ℕ). key_at h.rules t p ≡ Some key) z k in
          subst (λ (t : ℕ). (j : ℕ) × ((key_at G t j ≡ Some key) × (key ≡ low → ⊥))) (sym z) (from (arrived p) e)
      by (inr d) =
          let e : key_at G s p ≡ Some key = ap (λ (zs : List Node). key_in zs p) (sym (nodes-s s d)) ∙ k in
          (p, (e, λ z. d (K.once low s p r F.here.place (e ∙ ap Some z) F.here.there).0))

  -- what is near stands in the rule
  pub near-there : (n : ℕ) → near n → (p : ℕ) × ((key : Key) × ((key_in ns p ≡ Some key) × (key.number ≡ n)))
  near-there n (inl z) = (F.place, (F.upper, (F.above, sym z)))
  near-there n (inr (inl (i, (key, (e, z))))) =
      let t = kid-there ns F.place F.upper i key (one-term G low q lawful F once) F.above e in
      (t.0, (key, (t.1, z)))
  near-there n (inr (inr (i, (key, (e, z))))) =
      let t = kid-there ns F.here.place low i key (one-term G low q lawful F once) F.here.there e in
      (t.0, (key, (t.1, z)))

  -- the node that stands for both
  pub merge-label : (K' : IsKeyed h) (s p : ℕ) (n : Node) → slice_get (nodes_at h.rules s) p ≡ Some n → n.key ≡ F.upper → n.label ≡ Call q
  merge-label K' s p n e k =
      let there : slice_get (nodes_at h.rules r) (length at.front + 0) ≡ Some merge = ap (λ (zs : List Node). slice_get zs (length at.front + 0)) nodes-r ∙ slice_get-right at.front (merge ∷ (T.before ++ (T.below ++ (T.after ++ T.back)))) 0 in
      let o = K'.once F.upper s p r (length at.front + 0) (key_of_node (nodes_at h.rules s) p n e ∙ ap Some k) (key_of_node (nodes_at h.rules r) (length at.front + 0) merge there ∙ ap Some upper-key) in
      let z : slice_get (nodes_at h.rules r) (length at.front + 0) ≡ Some n = subst (λ (t : ℕ). slice_get (nodes_at h.rules t) (length at.front + 0) ≡ Some n) o.0 (subst (λ (t : ℕ). slice_get (nodes_at h.rules s) t ≡ Some n) o.1 e) in
      ap (λ (x : Node). x.label) (one-node n merge (sym z ∙ there))

  abbrev IsUnder : (s p : ℕ) → Type 0
  IsUnder s p = (j : ℕ) × (parent_in (nodes_at h.rules s) p ≡ Some (F.upper, j))

  -- the other near nodes are its children
  pub near-parent : (K' : IsKeyed h) (s p : ℕ) (key : Key) → key_at h.rules s p ≡ Some key → near key.number → (key ≡ F.upper → ⊥) → (j : ℕ) × (parent_in (nodes_at h.rules s) p ≡ Some (F.upper, j))
  near-parent K' s p key k close other = by close
    where
      -- a child of one of the two in the old rule
      from : (t i : ℕ) (up : Key) → key_in ns t ≡ Some key → parent_in ns t ≡ Some (up, i) → (up ≡ F.upper) ⊎ (up ≡ low) → IsUnder s p
      from t i up there e which = at-r (K.once key s (arrives s p key k).0 r t (arrives s p key k).1.0 there).0
        where
          at-r : s ≡ r → IsUnder s p
          at-r z = subst (λ (x : ℕ). IsUnder x p) (sym z) (of (arrived p))
            where
              k' : key_at h.rules r p ≡ Some key
              k' = subst (λ (x : ℕ). key_at h.rules x p ≡ Some key) z k

              here : key_in news p ≡ Some key
              here = ap (λ (zs : List Node). key_in zs p) (sym nodes-r) ∙ k'

              end : (j : ℕ) → parent_in news p ≡ Some (U.key, j) → IsUnder r p
              end j x = (j, ap (λ (zs : List Node). parent_in zs p) nodes-r ∙ x ∙ ap (λ (y : Key). let o : Option (Key × ℕ) = Some (y, j) in o) upper-key)

              kept : parent_in news p ≡ Some (up, i) → (up ≡ F.upper) ⊎ (up ≡ low) → IsUnder r p
              kept x (inl y) = end i (x ∙ ap (λ (v : Key). let o : Option (Key × ℕ) = Some (v, i) in o) (y ∙ sym upper-key))
              kept x (inr y) =
                  let v : parent_in (nodes_at h.rules r) p ≡ Some (low, i) = ap (λ (zs : List Node). parent_in zs p) nodes-r ∙ x ∙ ap (λ (w : Key). let o : Option (Key × ℕ) = Some (w, i) in o) y in
                  let c = child-of (nodes_at h.rules r) p (low, i) (nodes-are-term h K' r (key_at-within h.rules r p key k').0) v in
                  absurd ((arrives r c.above low c.there).1.1 refl)

              of : Arrived p → IsUnder r p
              of A = at-node A.node
                where
                  at-node : (slice_get news p ≡ slice_get olds A.place) ⊎ ((slice_get news p ≡ Some merge) × (slice_get olds A.place ≡ Some U)) → IsUnder r p
                  at-node (inr w) = absurd (other (one key merge.key (sym here ∙ key_of_node news p merge w.0) ∙ upper-key))
                  at-node (inl w) = moved A.parent
                    where
                      same : A.place ≡ t
                      same = once A.place t key (in-olds A.place key (sym (same_key news olds p A.place w) ∙ here)) there

                      moved : (parent_in olds A.place ≡ parent_in news p) ⊎ IsBelow U.key T.node.key (parent_in olds A.place) (parent_in news p) → IsUnder r p
                      moved (inl x) = kept (sym x ∙ ap (λ (zs : List Node). parent_in zs A.place) (sym whole) ∙ ap (λ (j : ℕ). parent_in ns j) same ∙ e) which
                      moved (inr (upper i' j x y)) = end j y
                      moved (inr (lower i' j x y)) = end j y

      child : (t : ℕ) (up key' : Key) (i : ℕ) → key_in ns t ≡ Some up → (up ≡ F.upper) ⊎ (up ≡ low) → slice_get (kids_in ns t) i ≡ Some key' → key'.number ≡ key.number → IsUnder s p
      child t up key' i there which e z =
          let K1 = one-term G low q lawful F once in
          let c = kid-there ns t up i key' K1 there e in
          let y = kid-parent ns t c.0 up i key' K1 there e c.1 in
          from c.0 (suc i) up (c.1 ∙ ap Some (one-key key' key z)) y which

      by : near key.number → IsUnder s p
      by (inl z) = absurd (other (one-key key F.upper z))
      by (inr (inl (i, (key', (e, z))))) = child F.place F.upper key' i F.above (inl refl) e z
      by (inr (inr (i, (key', (e, z))))) = child F.here.place low key' i F.here.there (inr refl) e z
