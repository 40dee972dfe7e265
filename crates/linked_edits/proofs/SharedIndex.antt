-- An index while a term of the start becomes a rule of its own.
use Rattle.std.proofs.Common.{◌≡◌, ◌≢◌, ◌⊎◌, inl, inr, ℕ, zero, suc, ◌+◌, ◌<◌, List, [], ◌∷◌, ◌++◌, length, take, drop, map, Some, None, slice_get, refl, sym, ap, ◌∙◌, subst, arith}
use Rattle.std.proofs.lemmas.Bool.{cases_eq}
use Rattle.std.proofs.lemmas.List.{length-map, length-take-le}
use Rattle.rule_arena.specs.Preorder.{AreTerms, span, subterm, with_subterm}
use Rattle.rule_arena.specs.Terms.{Node, key_in, kids_of}
use Rattle.rule_arena.specs.declared.key.Key.{Key}
use Rattle.rule_arena.specs.declared.label.Label.TheVariants.{Call}
use Rattle.rule_arena.proofs.NodeLemmas.{same_key}
use Rattle.rule_arena.proofs.PreorderLemmas.{AreTerms-with, split_at}
use Rattle.slt_grammar.specs.Algebras.{ranks_of}
use Rattle.slt_grammar.specs.Editing.{shifted}
use Rattle.slt_grammar.specs.Holding.{IsLawful}
use Rattle.slt_grammar.specs.Keyed.{IsKeyed, Keyed, KeyedRule, key_at, nodes_at, rules_of}
use Rattle.slt_grammar.specs.KeyedEdits.{rule_put, rule_shared, shifted_keyed, with_nodes}
use Rattle.slt_grammar.proofs.Additions.{get-new, get-shifted, put-lawful, put-length}
use Rattle.slt_grammar.proofs.Keeping.{shifted-behind}
use Rattle.slt_grammar.proofs.KeyedEdits.{length-with_nodes, nodes-others, nodes-with_nodes, ranks-with}
use Rattle.slt_grammar.proofs.KeyedLemmas.{key_at-within, key_in-within, nodes-are-term}
use Rattle.slt_grammar.proofs.SharedRules.{fits, new-rule, put-same, shared-is}
use Rattle.digram_index.specs.Digrams.{occurrence_at, occurrence_below, parent_node}
use Rattle.digram_index.specs.Keeping.{IsIndexBut}
use Rattle.digram_index.specs.Linked.{IsIndexOf, Linked, cell, shifted_cell}
use Rattle.digram_index.proofs.Apartness.{one-key}
use Rattle.digram_index.proofs.BuildLemmas.{none-left}
use Rattle.digram_index.proofs.MovedRules.{occurrence-put, place_cases}
use Rattle.digram_index.proofs.Sides.{Side, first, second, side}
use Rattle.linked_edits.proofs.NodeUps.{parts, same-back, same-front, same-sub}

abbrev pub no_rule : KeyedRule
no_rule = record { rank = 0; nodes = [] }

module _ (g h : Keyed) (K : IsKeyed g) (K' : IsKeyed h) (at call : Key) (r p : ℕ) (start : r + 1 ≡ length g.rules) (there : key_at g.rules r p ≡ Some at) (new : h.rules ≡ rule_shared g.rules r p call) where
  L : IsLawful g.rules
  L = record { grammar = K.grammar; arities = K.arities }

  abbrev ns : List Node
  ns = nodes_at g.rules r

  abbrev sub : List Node
  sub = subterm kids_of (nodes_at g.rules r) p

  abbrev front : List Node
  front = take p (nodes_at g.rules r)

  abbrev back : List Node
  back = drop (span kids_of 1 (drop p (nodes_at g.rules r))) (drop p (nodes_at g.rules r))

  abbrev leaf : Node
  leaf = record { key = call; label = Call r; kids = 0 }

  abbrev left : List Node
  left = with_subterm kids_of (nodes_at g.rules r) p (record { key = call; label = Call r; kids = 0 } ∷ [])

  abbrev P : List KeyedRule
  P = rule_put g.rules r (record { rank = 0; nodes = subterm kids_of (nodes_at g.rules r) p })

  in-list : r < length g.rules
  in-list = omega (arith, start)

  length-put : length P ≡ suc (length g.rules)
  length-put = put-length g.rules r (new-rule g.rules r p at call L start there) L in-list (fits g.rules r p at call L start there)

  PL : IsLawful P
  PL = put-lawful g.rules r (new-rule g.rules r p at call L start there) L in-list (fits g.rules r p at call L start there)

  in-put : r + 1 < length P
  in-put = omega (arith, start, length-put)

  new' : h.rules ≡ with_nodes P (r + 1) left
  new' = new ∙ sym (shared-is g.rules r p at call L start there)

  same-ranks : ranks_of (rules_of h.rules) ≡ ranks_of (rules_of P)
  same-ranks = ap (λ (H : List KeyedRule). ranks_of (rules_of H)) new' ∙ ranks-with P (r + 1) left PL in-put

  pub one-more : length h.rules ≡ length g.rules + 1
  one-more = omega (arith, ap length new', length-with_nodes P (r + 1) left in-put, length-put)

  put-nodes : (s : ℕ) → nodes_at P (shifted r s) ≡ nodes_at g.rules s
  put-nodes s =
      ap (λ (H : List KeyedRule). nodes_at H (shifted r s)) (put-same g.rules r p at call L start there)
      ∙ ap (λ (R : KeyedRule). R.nodes) (get-shifted g.rules r s (record { rank = 0; nodes = subterm kids_of (nodes_at g.rules r) p }) no_rule (omega (arith, in-list)))

  start-place : shifted r r ≡ r + 1
  start-place = omega (arith, shifted-behind r r (omega arith))

  -- the nodes of the new rules
  sub-nodes : nodes_at h.rules r ≡ sub
  sub-nodes =
      ap (λ (H : List KeyedRule). nodes_at H r) new' ∙ nodes-others P (r + 1) r left in-put (λ e. omega (arith, e))
      ∙ ap (λ (R : KeyedRule). R.nodes) (get-new (map (shifted_keyed r) g.rules) r (record { rank = 0; nodes = subterm kids_of (nodes_at g.rules r) p }) no_rule (omega (arith, in-list, length-map g.rules (shifted_keyed r))))

  start-nodes : nodes_at h.rules (r + 1) ≡ front ++ (leaf ∷ back)
  start-nodes = ap (λ (H : List KeyedRule). nodes_at H (r + 1)) new' ∙ nodes-with_nodes P (r + 1) left in-put

  behind-is : (s : ℕ) → s ≢ r → shifted r s ≢ r + 1
  behind-is s d e = d (back-from r s (e ∙ sym start-place))
    where
      back-from : (i s : ℕ) → shifted i s ≡ shifted i i → s ≡ i
      back-from zero s e = omega (arith, e)
      back-from (suc i) zero e = absurd (let z : zero ≡ suc (shifted i i) = e in omega (arith, z))
      back-from (suc i) (suc s) e = ap suc (back-from i s (let z : suc (shifted i s) ≡ suc (shifted i i) = e in omega (arith, z)))

  other-nodes : (s : ℕ) → s ≢ r → nodes_at h.rules (shifted r s) ≡ nodes_at g.rules s
  other-nodes s d = ap (λ (H : List KeyedRule). nodes_at H (shifted r s)) new' ∙ nodes-others P (r + 1) (shifted r s) left in-put (behind-is s d) ∙ put-nodes s

  -- the old start in parts
  old-nodes : front ++ (sub ++ back) ≡ ns
  old-nodes = split_at kids_of (nodes_at g.rules r) p

  inside : p < length (nodes_at g.rules r)
  inside = (key_at-within g.rules r p at there).1

  front-is : length front ≡ p
  front-is = length-take-le p (nodes_at g.rules r) (omega (arith, inside))

  one : AreTerms kids_of 1 sub
  one = (AreTerms-with kids_of 1 (nodes_at g.rules r) p (leaf ∷ []) (nodes-are-term g K r in-list) inside tt).0

  -- a node of the old rules is told the same at a place of the new ones
  record IsTold (q t s u : ℕ) : Type 0 where
    node : slice_get (nodes_at h.rules q) t ≡ slice_get (nodes_at g.rules s) u
    parent : parent_node (nodes_at h.rules q) t ≡ parent_node (nodes_at g.rules s) u

  of-lists : (q s : ℕ) (xs ys : List Node) (t u : ℕ) → nodes_at h.rules q ≡ xs → nodes_at g.rules s ≡ ys → slice_get xs t ≡ slice_get ys u → parent_node xs t ≡ parent_node ys u → IsTold q t s u
  of-lists q s xs ys t u e f a b = record {
    node = ap (λ (zs : List Node). slice_get zs t) e ∙ a ∙ sym (ap (λ (zs : List Node). slice_get zs u) f);
    parent = ap (λ (zs : List Node). parent_node zs t) e ∙ b ∙ sym (ap (λ (zs : List Node). parent_node zs u) f);
  }

  told-front : (t : ℕ) → t < p → IsTold (r + 1) t r t
  told-front t l = let w = same-front front sub back leaf refl one t (omega (arith, l, front-is)) in of-lists (r + 1) r (front ++ (leaf ∷ back)) (front ++ (sub ++ back)) t t start-nodes (sym old-nodes) w.0 w.1

  told-back : (t u v : ℕ) → t ≡ p + suc v → u ≡ p + (length sub + v) → IsTold (r + 1) t r u
  told-back t u v e f =
      let w = same-back front sub back leaf refl one v in
      let t' : length front + suc v ≡ t = omega (arith, e, front-is) in
      let u' : length front + (length sub + v) ≡ u = omega (arith, f, front-is) in
      subst (λ i. IsTold (r + 1) i r u) t' (subst (λ j. IsTold (r + 1) (length front + suc v) r j) u'
      (of-lists (r + 1) r (front ++ (leaf ∷ back)) (front ++ (sub ++ back)) (length front + suc v) (length front + (length sub + v)) start-nodes (sym old-nodes) w.0 w.1))

  told-sub : (u x : ℕ) → x ≡ p + suc u → suc u < length sub → IsTold r (suc u) r x
  told-sub u x e l =
      let w = same-sub front sub back leaf refl one u l in
      let x' : length front + suc u ≡ x = omega (arith, e, front-is) in
      subst (λ j. IsTold r (suc u) r j) x' (of-lists r r sub (front ++ (sub ++ back)) (suc u) (length front + suc u) sub-nodes (sym old-nodes) w.0 w.1)

  told-other : (s t : ℕ) → s ≢ r → IsTold (shifted r s) t s t
  told-other s t d = of-lists (shifted r s) s (nodes_at g.rules s) (nodes_at g.rules s) t t (other-nodes s d) refl refl refl

  -- what is told the same is the same occurrence, with the new places
  told-occurs : (q t s u : ℕ) → IsTold q t s u → occurrence_at h.rules q t ≡ shifted_cell r (occurrence_at g.rules s u)
  told-occurs q t s u T =
      ap (λ v. occurrence_below (ranks_of (rules_of h.rules)) v (slice_get (nodes_at h.rules q) t)) T.parent
      ∙ ap (λ v. occurrence_below (ranks_of (rules_of h.rules)) (parent_node (nodes_at g.rules s) u) v) T.node
      ∙ ap (λ rs. occurrence_below rs (parent_node (nodes_at g.rules s) u) (slice_get (nodes_at g.rules s) u)) same-ranks
      ∙ sym (ap (λ (xs : List Node). occurrence_below (ranks_of (rules_of P)) (parent_node xs u) (slice_get xs u)) (put-nodes s))
      ∙ occurrence-put g.rules r (record { rank = 0; nodes = subterm kids_of (nodes_at g.rules r) p }) (omega (arith, in-list)) s u

  told-key : (q t s u : ℕ) → IsTold q t s u → key_at h.rules q t ≡ key_at g.rules s u
  told-key q t s u T = same_key (nodes_at h.rules q) (nodes_at g.rules s) t u T.node

  -- the call, and the root of the new rule
  pub call-there : key_at h.rules (r + 1) p ≡ Some call
  call-there =
      ap (λ (xs : List Node). key_in xs p) start-nodes
      ∙ same_key (front ++ (leaf ∷ back)) (leaf ∷ back) p 0 ((parts (None ∷ []) front (leaf ∷ back)).right p 0 (omega (arith, front-is))).0

  wide : 0 < length sub
  wide = some sub one
    where
      some : (xs : List Node) → AreTerms kids_of 1 xs → 0 < length xs
      some [] t = absurd t
      some (x ∷ xs) t = omega arith

  root-there : key_at h.rules r 0 ≡ Some at
  root-there =
      ap (λ (xs : List Node). key_in xs 0) sub-nodes
      ∙ same_key sub (sub ++ back) 0 0 (sym ((parts (None ∷ []) sub back).left 0 wide).0)
      ∙ same_key (sub ++ back) (front ++ (sub ++ back)) 0 p (sym ((parts (None ∷ []) front (sub ++ back)).right p 0 (omega (arith, front-is))).0)
      ∙ ap (λ (xs : List Node). key_in xs p) old-nodes ∙ there

  root-none : occurrence_at h.rules r 0 ≡ None
  root-none = ap (λ v. occurrence_below (ranks_of (rules_of h.rules)) v (slice_get (nodes_at h.rules r) 0)) (rootless (nodes_at h.rules r))
    where
      rootless : (xs : List Node) → parent_node xs 0 ≡ None
      rootless [] = refl
      rootless (x ∷ xs) = refl

  -- each old node stands in the new rules, and not in the call's place
  record Goes (key : Key) : Type 0 where
    rule : ℕ
    spot : ℕ
    stands : key_at h.rules rule spot ≡ Some key
    apart : rule ≡ r + 1 → spot ≢ p

  goes : (s u : ℕ) (key : Key) → key_at g.rules s u ≡ Some key → Goes key
  goes s u key k = by (cases_eq s r) (side p u)
    where
      by : (s ≡ r) ⊎ (s ≡ r → ⊥) → Side p u → Goes key
      by (inr d) z = record { rule = shifted r s; spot = u; stands = told-key (shifted r s) u s u (told-other s u d) ∙ k; apart = λ e. absurd (behind-is s d e) }
      by (inl e) (first l) = record { rule = r + 1; spot = u; stands = told-key (r + 1) u r u (told-front u l) ∙ ap (λ i. key_at g.rules i u) (sym e) ∙ k; apart = λ z y. omega (arith, y, l) }
      by (inl e) (second zero z) =
          let y : u ≡ p = omega (arith, z) in
          record { rule = r; spot = 0; stands = root-there ∙ sym there ∙ ap (key_at g.rules r) (sym y) ∙ ap (λ i. key_at g.rules i u) (sym e) ∙ k; apart = λ x. absurd (omega (arith, x)) }
      by (inl e) (second (suc v) z) = of (side (length sub) (suc v))
        where
          of : Side (length sub) (suc v) → Goes key
          of (first l) = record { rule = r; spot = suc v; stands = told-key r (suc v) r u (told-sub v u z l) ∙ ap (λ i. key_at g.rules i u) (sym e) ∙ k; apart = λ x. absurd (omega (arith, x)) }
          of (second w y) = record {
            rule = r + 1;
            spot = p + suc w;
            stands = told-key (r + 1) (p + suc w) r u (told-back (p + suc w) u w refl (omega (arith, z, y))) ∙ ap (λ i. key_at g.rules i u) (sym e) ∙ k;
            apart = λ x v. omega (arith, v);
          }

  -- a node of the new rules is the call, the root of the new rule, or told as an old node that is not that one
  data Comes (q t : ℕ) : Type 0 where
    is_call : q ≡ r + 1 → t ≡ p → Comes q t
    is_root : q ≡ r → t ≡ 0 → Comes q t
    was : (s u : ℕ) → IsTold q t s u → (s ≡ r → u ≢ p) → Comes q t

  comes : (q t : ℕ) (key : Key) → key_at h.rules q t ≡ Some key → Comes q t
  comes q t key k = by (place_cases r q)
    where
      in-sub : (t : ℕ) → t < length sub → Comes r t
      in-sub zero l = is_root refl refl
      in-sub (suc u) l = was r (p + suc u) (told-sub u (p + suc u) refl l) (λ e z. omega (arith, z))

      in-start : Side p t → Comes (r + 1) t
      in-start (first l) = was r t (told-front t l) (λ e z. omega (arith, z, l))
      in-start (second zero z) = is_call refl (omega (arith, z))
      in-start (second (suc v) z) = was r (p + (length sub + v)) (told-back t (p + (length sub + v)) v z refl) (λ e y. omega (arith, y, wide))

      by : (q ≡ r) ⊎ ((s : ℕ) × (q ≡ shifted r s)) → Comes q t
      by (inl e) =
          let k' : key_in sub t ≡ Some key = ap (λ (xs : List Node). key_in xs t) (sym sub-nodes) ∙ ap (λ i. key_at h.rules i t) (sym e) ∙ k in
          subst (λ i. Comes i t) (sym e) (in-sub t (key_in-within sub t key k'))
      by (inr (s, e)) = of (cases_eq s r)
        where
          of : (s ≡ r) ⊎ (s ≡ r → ⊥) → Comes q t
          of (inl z) = subst (λ i. Comes i t) (sym (e ∙ ap (shifted r) z ∙ start-place)) (in-start (side p t))
          of (inr d) = subst (λ i. Comes i t) (sym e) (was s t (told-other s t d) (λ z. absurd (d z)))

  abbrev pub near : ℕ → Type 0
  near n = n ≡ call.number

  pub test : (n : ℕ) → near n ⊎ (near n → ⊥)
  test n = cases_eq n call.number

  -- once a number was given to the new rule and the node was unlinked
  module _ (I J mid : Linked) (A : IsIndexOf g I) (more : J.rules ≡ I.rules + 1) (cells : (k : ℕ) → cell J k ≡ shifted_cell r (cell I k)) (free : cell mid at.number ≡ None) (others : (k : ℕ) → k ≢ at.number → cell mid k ≡ cell J k)
      (rules : mid.rules ≡ J.rules) where
    known : (k : ℕ) → cell mid k ≢ None → (k ≡ at.number) ⊎ (k ≡ at.number → ⊥) → cell I k ≢ None
    known k x (inl e) = absurd (x (ap (cell mid) e ∙ free))
    known k x (inr d) = λ z. x (others k d ∙ cells k ∙ ap (shifted_cell r) z)

    stays : (k : ℕ) → cell mid k ≢ None → (key : Key) × (Goes key × (key.number ≡ k))
    stays k x =
        let w = A.only k (known k x (cases_eq k at.number)) in
        (w.0, (goes w.1.0 w.1.1.0 w.0 w.1.1.1.0, w.1.1.1.1))

    pub shared-but : IsIndexBut h mid near
    shared-but = record {
      rules = omega (arith, rules, more, A.rules, one-more);
      all = λ q t key k far. by q t key k far (comes q t key k);
      free = λ k e. none-left (cell mid k) (fresh k e);
      only = λ k x. let w = stays k x in (w.0, (w.1.0.rule, (w.1.0.spot, (w.1.0.stands, w.1.1))));
    }
      where
        fresh : (k : ℕ) → k ≡ call.number → cell mid k ≢ None → ⊥
        fresh k e x =
            let w = stays k x in
            let o = K'.once call w.1.0.rule w.1.0.spot (r + 1) p (w.1.0.stands ∙ ap (λ (y : Key). Some y) (one-key w.0 call (w.1.1 ∙ e))) call-there in
            w.1.0.apart o.0 o.1

        number : (a b : Key) → Some a ≡ Some b → a.number ≡ b.number
        number a b e = let w : a ≡ b = cc in ap (λ (v : Key). v.number) w

        by : (q t : ℕ) (key : Key) → key_at h.rules q t ≡ Some key → (near key.number → ⊥) → Comes q t → cell mid key.number ≡ occurrence_at h.rules q t
        by q t key k far (is_call e f) = absurd (far (number key call (sym k ∙ ap (λ i. key_at h.rules i t) e ∙ ap (key_at h.rules (r + 1)) f ∙ call-there)))
        by q t key k far (is_root e f) =
            ap (cell mid) (number key at (sym k ∙ ap (λ i. key_at h.rules i t) e ∙ ap (key_at h.rules r) f ∙ root-there)) ∙ free
            ∙ sym (ap (λ i. occurrence_at h.rules i t) e ∙ ap (occurrence_at h.rules r) f ∙ root-none)
        by q t key k far (was s u T d) =
            let k' : key_at g.rules s u ≡ Some key = sym (told-key q t s u T) ∙ k in
            let n : key.number ≢ at.number = λ e. apart s u k' d e in
            others key.number n ∙ cells key.number ∙ ap (shifted_cell r) (A.all s u key k') ∙ sym (told-occurs q t s u T)
          where
            apart : (s u : ℕ) → key_at g.rules s u ≡ Some key → (s ≡ r → u ≢ p) → key.number ≡ at.number → ⊥
            apart s u k' d e =
                let o = K.once key s u r p k' (there ∙ ap (λ (y : Key). Some y) (sym (one-key key at e))) in
                d o.0 o.1
