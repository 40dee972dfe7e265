-- Each occurrence of a digram is a call of its rule, or is left in the value but for these calls.
use Rattle.std.proofs.Common.{◌≡◌, ◌≢◌, ◌⊎◌, inl, inr, ℕ, zero, suc, ◌+◌, ◌-◌, ◌<◌, List, [], ◌∷◌, ◌++◌, Option, Some, None, length, get_or, drop, refl, ap, sym, ◌∙◌, arith}
use Rattle.std.proofs.Math.Path.{fun_ext}
use Rattle.rule_arena.specs.declared.label.Label.{Label}
use Rattle.rule_arena.specs.declared.label.Label.TheVariants.{Bottom, Symbol, Call, Param}
use Rattle.slt_grammar.specs.Algebras.{Algebra, meaning, all_meanings, ranks_of}
use Rattle.slt_grammar.specs.Bodies.{params, calls_in}
use Rattle.slt_grammar.specs.Grammars.{IsGrammar, body_at, rank_at}
use Rattle.slt_grammar.specs.KeyedEdits.{digram_body}
use Rattle.slt_grammar.specs.declared.digram.Digram.{Digram}
use Rattle.slt_grammar.specs.declared.rules.Rule.{Rule}
use Rattle.slt_grammar.proofs.Carrying.{up-value_at}
use Rattle.slt_grammar.proofs.RuleMeanings.{rank_at-ranks_of}
use Rattle.border_repair.specs.Digrams.{is, occurrences, IsEnd, IsSymbol}
use Rattle.border_repair.specs.Edges.{all_edges}
use Rattle.border_repair.specs.ValueBut.{but_meanings, value_but, nones, unknown, pairs_in}
use Rattle.border_repair.specs.Weighing.{Scale, Above, hung, Weighed, weight_algebra, Rim, hung_all}
use Rattle.border_repair.proofs.EdgeLemmas.{is-tells}
use Rattle.border_repair.proofs.Opaque.{opaque}
use Rattle.border_repair.proofs.ValueBut.{but-weighs}

-- the rules mean what they do where the first one means what its body does
all-but : {S : Type 0} (A : Algebra S) (G : List Rule) → 0 < length G → all_meanings A G ≡ but_meanings A (meaning A (ranks_of G) [] (body_at G 0)) G
all-but A [] l = absurd (omega (arith, l))
all-but A (R ∷ G) l = refl

-- so many places under a symbol where no digram is
abbrev safe : ℕ → ℕ → List Above
safe f zero = []
safe f (suc n) = Some (f, 0) ∷ safe f n

abbrev sum_first : ℕ → List Weighed → Weighed → ℕ
sum_first zero ks none = 0
sum_first (suc n) ks none = (get_or ks 0 none).weight + sum_first n (drop 1 ks) none

length-safe : (f n : ℕ) → length (safe f n) ≡ n
length-safe f zero = refl
length-safe f (suc n) = ap suc (length-safe f n)

sum-none : (n : ℕ) (none : Weighed) → none.weight ≡ 0 → sum_first n [] none ≡ 0
sum-none zero none z = refl
sum-none (suc n) none z = omega (arith, z, sum-none n none z)

hung-safe : (e : Scale) (f n : ℕ) (ks : List Weighed) (none : Weighed) → none.weight ≡ 0 → ((r : Option Label) → hung e (Some (f, 0)) r ≡ 0) → hung_all e (safe f n) ks ≡ sum_first n ks none
hung-safe e f zero ks none z h = refl
hung-safe e f (suc n) [] none z h = sym (sum-none (suc n) none z)
hung-safe e f (suc n) (k ∷ ks) none z h = omega (arith, h k.root, hung-safe e f n ks none z h)

module _ (d : Digram) where
  abbrev hung_d : Above → Option Label → ℕ
  hung_d = hung (is d)

  hung-none : (c : Above) → hung (is d) c None ≡ 0
  hung-none None = refl
  hung-none (Some (f, i)) = refl

  hung-own : (f i : ℕ) (l : Label) → d ≡ record { upper = Symbol f; place = i; lower = l } → is d f i l ≡ 1
  hung-own f i l e = by_digram (is-tells d (record { upper = f; place = i; lower = l })) where
    by_digram : ((is d f i l ≡ 1) × (d ≡ record { upper = Symbol f; place = i; lower = l })) ⊎ ((is d f i l ≡ 0) × (d ≢ record { upper = Symbol f; place = i; lower = l })) → is d f i l ≡ 1
    by_digram (inl x) = x.0
    by_digram (inr x) = absurd (x.1 e)

  -- nothing weighs anything there
  pub hung-other : (f i : ℕ) → ((d.upper ≡ Symbol f) → d.place ≡ i → ⊥) → (r : Option Label) → hung (is d) (Some (f, i)) r ≡ 0
  hung-other f i n None = refl
  hung-other f i n (Some l) = by_digram (is-tells d (record { upper = f; place = i; lower = l })) where
    by_digram : ((is d f i l ≡ 1) × (d ≡ record { upper = Symbol f; place = i; lower = l })) ⊎ ((is d f i l ≡ 0) × (d ≢ record { upper = Symbol f; place = i; lower = l })) → is d f i l ≡ 0
    by_digram (inl x) = absurd (n (ap (λ (z : Digram). z.upper) x.1) (ap (λ (z : Digram). z.place) x.1))
    by_digram (inr x) = x.0

  -- the upper label weighs nothing
  pub hung-upper : d.upper ≢ d.lower → (c : Above) → hung (is d) c (Some d.upper) ≡ 0
  hung-upper a None = refl
  hung-upper a (Some (f, i)) = by_digram (is-tells d (record { upper = f; place = i; lower = d.upper })) where
    by_digram : ((is d f i d.upper ≡ 1) × (d ≡ record { upper = Symbol f; place = i; lower = d.upper })) ⊎ ((is d f i d.upper ≡ 0) × (d ≢ record { upper = Symbol f; place = i; lower = d.upper })) → is d f i d.upper ≡ 0
    by_digram (inl x) = absurd (a (sym (ap (λ (z : Digram). z.lower) x.1)))
    by_digram (inr x) = x.0

  symbol-same : (f g : ℕ) → Symbol f ≡ Symbol g → f ≡ g
  symbol-same f g e = cc

  module _ (f : ℕ) (u : d.upper ≡ Symbol f) (apart : d.upper ≢ d.lower) (ranks : List ℕ) where
    at_zero : (d.place ≡ 1) ⊎ (d.place ≡ 2) → (r : Option Label) → hung (is d) (Some (f, 0)) r ≡ 0
    at_zero (inl p) = hung-other f 0 (λ x y. omega (arith, p, y))
    at_zero (inr p) = hung-other f 0 (λ x y. omega (arith, p, y))

    -- the other child's place, and the places under the lower node
    beside : (i : ℕ) → d.place ≢ i → (r : Option Label) → hung (is d) (Some (f, i)) r ≡ 0
    beside i n = hung-other f i (λ x y. n y)

    under_lower : (g : ℕ) → d.lower ≡ Symbol g → (i : ℕ) (r : Option Label) → hung (is d) (Some (g, i)) r ≡ 0
    under_lower g l i = hung-other g i (λ x y. apart (x ∙ sym l))

    abbrev none : Weighed
    none = (weight_algebra (is d)).bottom

    abbrev top_rim : ℕ → Rim
    top_rim n = record { root = Some (Symbol f); borders = safe f n }

    made : (w v : ℕ) → w ≡ v → ◌≡◌ {A = Weighed} (record { root = Some (Symbol f); weight = w }) (record { root = Some (Symbol f); weight = v })
    made w v e = ap (λ (k : ℕ). record { root = Some (Symbol f); weight = k }) e

    abbrev kid0 : List Weighed → Weighed
    kid0 kids = get_or kids 0 none

    abbrev kid1 : List Weighed → Weighed
    kid1 kids = get_or (drop 1 kids) 0 none

    abbrev kid2 : List Weighed → Weighed
    kid2 kids = get_or (drop 1 (drop 1 kids)) 0 none

    -- the digram's rule weighs one, and what hangs from it
    pub first-opaque : (p : (d.place ≡ 1) ⊎ (d.place ≡ 2)) → IsEnd d.lower → (n : ℕ) → n ≡ params (digram_body ranks (Symbol f) (d.place - 1) d.lower) → (kids : List Weighed)
        → meaning (weight_algebra (is d)) ranks [] (digram_body ranks (Symbol f) (d.place - 1) d.lower) kids ≡ opaque (is d) (top_rim n) 1 kids
    first-opaque p l n m kids = by_place p l where
      own : (i : ℕ) (x : Label) → d.place ≡ i → d.lower ≡ x → is d f i x ≡ 1
      own i x q y = hung-own f i x (rw (sym u, sym q, sym y) refl)

      by_place : (d.place ≡ 1) ⊎ (d.place ≡ 2) → IsEnd d.lower → meaning (weight_algebra (is d)) ranks [] (digram_body ranks (Symbol f) (d.place - 1) d.lower) kids ≡ opaque (is d) (top_rim n) 1 kids
      by_place (inl q) (inl (g, y)) =
          let b : digram_body ranks (Symbol f) (d.place - 1) d.lower ≡ Symbol f ∷ Symbol g ∷ Param ∷ Param ∷ Param ∷ [] = rw (q, y) refl in
          let three : n ≡ 3 = m ∙ ap params b in
          ap (λ ls. meaning (weight_algebra (is d)) ranks [] ls kids) b
          ∙ made (hung_d (Some (f, 1)) (Some (Symbol g)) + (hung_d (Some (f, 2)) (kid2 kids).root + ((hung_d (Some (g, 1)) (kid0 kids).root + (hung_d (Some (g, 2)) (kid1 kids).root + ((kid0 kids).weight + (kid1 kids).weight))) + (kid2 kids).weight))) (1 + hung_all (is d) (safe f 3) kids)
          (omega (arith, own 1 (Symbol g) q y, beside 2 (λ z. omega (arith, q, z)) (kid2 kids).root, under_lower g y 1 (kid0 kids).root, under_lower g y 2 (kid1 kids).root, hung-safe (is d) f 3 kids none refl (at_zero p)))
          ∙ ap (λ (k : ℕ). opaque (is d) (top_rim k) 1 kids) (sym three)
      by_place (inl q) (inr y) =
          let b : digram_body ranks (Symbol f) (d.place - 1) d.lower ≡ Symbol f ∷ Bottom ∷ Param ∷ [] = rw (q, y) refl in
          let one : n ≡ 1 = m ∙ ap params b in
          ap (λ ls. meaning (weight_algebra (is d)) ranks [] ls kids) b
          ∙ made (hung_d (Some (f, 1)) (Some Bottom) + (hung_d (Some (f, 2)) (kid0 kids).root + (0 + (kid0 kids).weight))) (1 + hung_all (is d) (safe f 1) kids)
          (omega (arith, own 1 Bottom q y, beside 2 (λ z. omega (arith, q, z)) (kid0 kids).root, hung-safe (is d) f 1 kids none refl (at_zero p)))
          ∙ ap (λ (k : ℕ). opaque (is d) (top_rim k) 1 kids) (sym one)
      by_place (inr q) (inl (g, y)) =
          let b : digram_body ranks (Symbol f) (d.place - 1) d.lower ≡ Symbol f ∷ Param ∷ Symbol g ∷ Param ∷ Param ∷ [] = rw (q, y) refl in
          let three : n ≡ 3 = m ∙ ap params b in
          let two : drop 2 kids ≡ drop 1 (drop 1 kids) = drop_twice kids in
          ap (λ ls. meaning (weight_algebra (is d)) ranks [] ls kids) b
          ∙ made (hung_d (Some (f, 1)) (kid0 kids).root + (hung_d (Some (f, 2)) (Some (Symbol g)) + ((kid0 kids).weight + (hung_d (Some (g, 1)) (kid1 kids).root + (hung_d (Some (g, 2)) (kid2 kids).root + ((kid1 kids).weight + (kid2 kids).weight)))))) (1 + hung_all (is d) (safe f 3) kids)
          (omega (arith, own 2 (Symbol g) q y, beside 1 (λ z. omega (arith, q, z)) (kid0 kids).root, under_lower g y 1 (kid1 kids).root, under_lower g y 2 (kid2 kids).root, hung-safe (is d) f 3 kids none refl (at_zero p)))
          ∙ ap (λ (k : ℕ). opaque (is d) (top_rim k) 1 kids) (sym three)
        where
          drop_twice : (ks : List Weighed) → drop 2 ks ≡ drop 1 (drop 1 ks)
          drop_twice [] = refl
          drop_twice (k ∷ ks) = refl
      by_place (inr q) (inr y) =
          let b : digram_body ranks (Symbol f) (d.place - 1) d.lower ≡ Symbol f ∷ Param ∷ Bottom ∷ [] = rw (q, y) refl in
          let one : n ≡ 1 = m ∙ ap params b in
          ap (λ ls. meaning (weight_algebra (is d)) ranks [] ls kids) b
          ∙ made (hung_d (Some (f, 1)) (kid0 kids).root + (hung_d (Some (f, 2)) (Some Bottom) + ((kid0 kids).weight + 0))) (1 + hung_all (is d) (safe f 1) kids)
          (omega (arith, own 2 Bottom q y, beside 1 (λ z. omega (arith, q, z)) (kid0 kids).root, hung-safe (is d) f 1 kids none refl (at_zero p)))
          ∙ ap (λ (k : ℕ). opaque (is d) (top_rim k) 1 kids) (sym one)

  -- places where the same weighs
  abbrev pub Alike : List Above → List Above → Type 0
  Alike [] [] = Unit {0}
  Alike [] (b ∷ bs) = ⊥
  Alike (c ∷ cs) [] = ⊥
  Alike (c ∷ cs) (b ∷ bs) = ((r : Option Label) → hung (is d) c r ≡ hung (is d) b r) × Alike cs bs

  alike-append : (xs ys cs bs : List Above) → Alike xs ys → Alike cs bs → Alike (xs ++ cs) (ys ++ bs)
  alike-append [] [] cs bs h k = k
  alike-append [] (y ∷ ys) cs bs h k = absurd h
  alike-append (x ∷ xs) [] cs bs h k = absurd h
  alike-append (x ∷ xs) (y ∷ ys) cs bs h k = (h.0, alike-append xs ys cs bs h.1 k)

  -- where nothing weighs anything above and below calls, only edges of symbols weigh
  module _ (ranks : List ℕ) (s : ℕ → Rim) (upper : (q : ℕ) (c : Above) → hung (is d) c ((s q).root) ≡ 0) (at : (q : ℕ) → Alike ((s q).borders) (nones (get_or ranks q 0))) where
    pub same-edges : (ls : List Label) (cs bs : List Above) → Alike cs bs → all_edges (is d) s cs ls ≡ all_edges (is d) (unknown ranks) bs ls
    same-edges [] [] [] h = refl
    same-edges [] [] (b ∷ bs) h = absurd h
    same-edges [] (c ∷ cs) [] h = absurd h
    same-edges [] (c ∷ cs) (b ∷ bs) h = refl
    same-edges (l ∷ ls) [] [] h = refl
    same-edges (l ∷ ls) [] (b ∷ bs) h = absurd h
    same-edges (l ∷ ls) (c ∷ cs) [] h = absurd h
    same-edges (Bottom ∷ ls) (c ∷ cs) (b ∷ bs) h = omega (arith, h.0 (Some Bottom), same-edges ls cs bs h.1)
    same-edges (Param ∷ ls) (c ∷ cs) (b ∷ bs) h = omega (arith, same-edges ls cs bs h.1)
    same-edges (Symbol g ∷ ls) (c ∷ cs) (b ∷ bs) h =
        omega (arith, h.0 (Some (Symbol g)), same-edges ls (Some (g, 1) ∷ Some (g, 2) ∷ cs) (Some (g, 1) ∷ Some (g, 2) ∷ bs) (λ r. refl, (λ r. refl, h.1)))
    same-edges (Call q ∷ ls) (c ∷ cs) (b ∷ bs) h =
        omega (arith, upper q c, hung-none b, same-edges ls ((s q).borders ++ cs) (nones (get_or ranks q 0) ++ bs) (alike-append ((s q).borders) (nones (get_or ranks q 0)) cs bs (at q) h.1))

  module _ (f : ℕ) (upper : (c : Above) → hung (is d) c (Some (Symbol f)) ≡ 0) (at : (r : Option Label) → hung (is d) (Some (f, 0)) r ≡ 0) (ranks : List ℕ) where
    abbrev shown : ℕ → Rim
    shown q = record { root = Some (Symbol f); borders = safe f (get_or ranks q 0) }

    alike-safe : (n : ℕ) → Alike (safe f n) (nones n)
    alike-safe zero = tt
    alike-safe (suc n) = (at, alike-safe n)

-- each occurrence is a call of the first rule, or is left
pub calls-and-left : (d : Digram) → IsSymbol d.upper → IsEnd d.lower → d.upper ≢ d.lower → (d.place ≡ 1) ⊎ (d.place ≡ 2) → (G : List Rule) → IsGrammar G → body_at G 0 ≡ digram_body (ranks_of G) d.upper (d.place - 1) d.lower
    → calls_in 0 (value_but G) + pairs_in d (ranks_of G) (value_but G) ≡ occurrences d G
calls-and-left d (f, u) l apart p G g body =
    let e : Scale = is d in
    let A = weight_algebra (is d) in
    let last = length G - 1 in
    let there : last < length G = omega (arith, g.some) in
    let rank : rank_at G (length G - 1) ≡ 0 = (g.each (length G - 1) there).shaped.start (omega (arith, g.some)) in
    let n = get_or (ranks_of G) 0 0 in
    let b : body_at G 0 ≡ digram_body (ranks_of G) (Symbol f) (d.place - 1) d.lower = body ∙ ap (λ (k : Label). digram_body (ranks_of G) k (d.place - 1) d.lower) u in
    let many : get_or (ranks_of G) 0 0 ≡ params (digram_body (ranks_of G) (Symbol f) (d.place - 1) d.lower) = rank_at-ranks_of G 0 ∙ sym (g.each 0 g.some).linear ∙ ap params b in
    let s = shown d f (λ c. ap (λ (k : Label). hung (is d) c (Some k)) (sym u) ∙ hung-upper d apart c) (at_zero d f u apart (ranks_of G) p) (ranks_of G) in
    let same : meaning (weight_algebra (is d)) (ranks_of G) [] (body_at G 0) ≡ opaque (is d) (s 0) 1 =
    fun_ext (λ kids. ap (λ ls. meaning (weight_algebra (is d)) (ranks_of G) [] ls kids) b ∙ first-opaque d f u apart (ranks_of G) p l (get_or (ranks_of G) 0 0) many kids) in
    let w = but-weighs (is d) s 1 G g (length-safe f (get_or (ranks_of G) 0 0) ∙ rank_at-ranks_of G 0) in
    let all = ap (λ (fs : List (List Weighed → Weighed)). (get_or fs (length G - 1) (λ _. (weight_algebra (is d)).bottom) []).weight) (all-but (weight_algebra (is d)) G g.some ∙ ap (λ (first : List Weighed → Weighed). but_meanings (weight_algebra (is d)) first G) same) in
    let up = ap (λ (m : Weighed). m.weight) (up-value_at (weight_algebra (is d)) G (length G - 1) [] (sym rank)) in
    let top = λ (c : Above). ap (λ (k : Label). hung (is d) c (Some k)) (sym u) ∙ hung-upper d apart c in
    let edges = same-edges d (ranks_of G) (shown d f top (at_zero d f u apart (ranks_of G) p) (ranks_of G)) (λ q. top) (λ q. alike-safe d f top (at_zero d f u apart (ranks_of G) p) (ranks_of G) (get_or (ranks_of G) q 0)) (value_but G) (None ∷ []) (None ∷ []) (λ r. refl, tt) in
    omega (arith, w, all, up, edges)
