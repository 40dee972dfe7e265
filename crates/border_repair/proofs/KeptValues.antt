-- Rules that are exposed and then folded stand for the value they stood for.
use Rattle.std.proofs.Common.{◌≡◌, ◌≢◌, ◌⊎◌, inl, inr, ℕ, zero, suc, ◌+◌, ◌-◌, ◌<◌, ◌≤◌, List, [], ◌∷◌, ◌++◌, length, get_or, Option, Some, None, refl, ap, sym, subst, ◌∙◌, arith, append-nil}
use Rattle.std.proofs.lemmas.Bool.{cases_lt}
use Rattle.std.proofs.lemmas.List.{get_or_past}
use Rattle.rule_arena.specs.Preorder.{AreTerms}
use Rattle.rule_arena.specs.declared.label.Label.{Label}
use Rattle.rule_arena.specs.declared.label.Label.TheVariants.{Bottom, Symbol, Param}
use Rattle.slt_grammar.specs.Algebras.{Algebra, meanings, ranks_of, all_meanings}
use Rattle.slt_grammar.specs.Bodies.{arity, IsTerm}
use Rattle.slt_grammar.specs.Grammars.{IsGrammar, body_at, rank_at, no_rule, value}
use Rattle.slt_grammar.specs.KeyedEdits.{parameters, digram_body}
use Rattle.slt_grammar.specs.Terms.{Term, Leaf, Node, Hole, term_algebra, holes, up}
use Rattle.slt_grammar.specs.declared.digram.Digram.{Digram}
use Rattle.slt_grammar.specs.declared.rules.Rule.{Rule}
use Rattle.slt_grammar.proofs.RuleMeanings.{memo-at, rank_at-ranks_of}
use Rattle.border_repair.specs.Digrams.{is, occurrences, rank_of, IsEnd, IsSymbol}
use Rattle.border_repair.specs.Expanding.{IsExposed}
use Rattle.border_repair.specs.Folding.{HasPairRank, AreFolded}
use Rattle.border_repair.specs.Weighing.{hung, weight_algebra}
use Rattle.border_repair.proofs.EdgeLemmas.{is-tells}
use Rattle.border_repair.proofs.Expand.{start-means, start-term}
use Rattle.border_repair.proofs.Folds.{folded-means}
use Rattle.border_repair.proofs.ReadSteps.{end-arity}
use Rattle.border_repair.proofs.Split.{Mean}

-- a digram that occurs has the place of a child of a symbol
module _ (d : Digram) where
  abbrev Placed : Type 0
  Placed = (d.place ≡ 1) ⊎ (d.place ≡ 2)

  hung-placed : (f i : ℕ) (l : Option Label) → (i ≡ 1) ⊎ (i ≡ 2) → 0 < hung (is d) (Some (f, i)) l → Placed
  hung-placed f i None p s = absurd (omega (arith, s))
  hung-placed f i (Some l) p s = by_digram (is-tells d (record { upper = f; place = i; lower = l })) where
    by_digram : {P : Type 0} → ((is d f i l ≡ 1) × (d ≡ record { upper = Symbol f; place = i; lower = l })) ⊎ ((is d f i l ≡ 0) × P) → Placed
    by_digram (inl x) = let e : d.place ≡ i = ap (λ z. z.place) x.1 in subst (λ (k : ℕ). (k ≡ 1) ⊎ (k ≡ 2)) (sym e) p
    by_digram (inr x) = let y = x.0 in absurd (omega (arith, s))

  weighs-placed : (t : Term) → 0 < (up (weight_algebra (is d)) t []).weight → Placed
  weighs-placed Leaf s = absurd (omega (arith, s))
  weighs-placed (Hole i) s = absurd (omega (arith, s))
  weighs-placed (Node f a b) s =
      by_first (cases_lt 0 (hung (is d) (Some (f, 1)) (up (weight_algebra (is d)) a []).root)) (cases_lt 0 (hung (is d) (Some (f, 2)) (up (weight_algebra (is d)) b []).root))
      (cases_lt 0 (up (weight_algebra (is d)) a []).weight) (weighs-placed a) (weighs-placed b) where
        by_first : (0 < hung (is d) (Some (f, 1)) (up (weight_algebra (is d)) a []).root) ⊎ (hung (is d) (Some (f, 1)) (up (weight_algebra (is d)) a []).root ≤ 0)
            → (0 < hung (is d) (Some (f, 2)) (up (weight_algebra (is d)) b []).root) ⊎ (hung (is d) (Some (f, 2)) (up (weight_algebra (is d)) b []).root ≤ 0)
            → (0 < (up (weight_algebra (is d)) a []).weight) ⊎ ((up (weight_algebra (is d)) a []).weight ≤ 0)
            → (0 < (up (weight_algebra (is d)) a []).weight → Placed) → (0 < (up (weight_algebra (is d)) b []).weight → Placed) → Placed
        by_first (inl x) y z ka kb = hung-placed f 1 (up (weight_algebra (is d)) a []).root (inl refl) x
        by_first (inr x) (inl y) z ka kb = hung-placed f 2 (up (weight_algebra (is d)) b []).root (inr refl) y
        by_first (inr x) (inr y) (inl z) ka kb = ka z
        by_first (inr x) (inr y) (inr z) ka kb = kb (omega (arith, s, x, y, z))

pub occurs-placed : (d : Digram) (G : List Rule) → 0 < occurrences d G → (d.place ≡ 1) ⊎ (d.place ≡ 2)
occurs-placed d G s = weighs-placed d (value G) s

symbol-arity : (ranks : List ℕ) (l : Label) → IsSymbol l → arity ranks l ≡ 2
symbol-arity ranks l (f, e) = ap (arity ranks) e

no-param : (l : Label) → IsEnd l → l ≢ Param
no-param l (inl (f, e)) p = symbol-param (sym e ∙ p) where
  symbol-param : Symbol f ≡ Param → ⊥
  symbol-param z = cc
no-param l (inr e) p = bottom-param (sym e ∙ p) where
  bottom-param : Bottom ≡ Param → ⊥
  bottom-param z = cc

-- the digram's rule has the rank that folding asks for
pub pair-ranked : (H : List Rule) (d : Digram) → IsSymbol d.upper → IsEnd d.lower → rank_at H 0 ≡ rank_of d → HasPairRank (ranks_of H) d
pair-ranked H d u l r =
    let a = symbol-arity (ranks_of H) d.upper u in
    let b = symbol-arity [] d.upper u in
    let c = end-arity (ranks_of H) [] d.lower l in
    let e = rank_at-ranks_of H 0 in
    record { rank = omega (arith, a, b, c, e, r) }

pub placed-below : (ranks : List ℕ) (d : Digram) → IsSymbol d.upper → (d.place ≡ 1) ⊎ (d.place ≡ 2) → d.place ≤ arity ranks d.upper
placed-below ranks d u (inl p) = let a = symbol-arity ranks d.upper u in omega arith
placed-below ranks d u (inr p) = let a = symbol-arity ranks d.upper u in omega arith

-- and the same body, whatever ranks the other rules have
pub pair-same : (ranks others : List ℕ) (d : Digram) → IsSymbol d.upper → IsEnd d.lower → digram_body ranks d.upper (d.place - 1) d.lower ≡ digram_body others d.upper (d.place - 1) d.lower
pair-same ranks others d u l =
    ap (λ k. d.upper ∷ (parameters (d.place - 1) ++ (d.lower ∷ parameters (k + (arity ranks d.upper - suc (d.place - 1)))))) (end-arity ranks others d.lower l)
    ∙ ap (λ k. d.upper ∷ (parameters (d.place - 1) ++ (d.lower ∷ parameters (arity others d.lower + (k - suc (d.place - 1)))))) (end-arity ranks others d.upper (inl u))

module _ (d : Digram) (u : IsSymbol d.upper) (l : IsEnd d.lower) (G H K : List Rule) (g : IsGrammar G) (k : IsGrammar K) (outside : ℕ → List Label) (x : IsExposed G H outside)
    (pair : HasPairRank (ranks_of H) d) (body : body_at H 0 ≡ digram_body (ranks_of H) d.upper (d.place - 1) d.lower) (f : AreFolded d H K) where
  module _ {S : Type 0} (A : Algebra S) where
    -- each rule means what its body does
    own : (q : ℕ) → q < length H → (kids : List S) → get_or (all_meanings A K) q (λ _. A.bottom) kids ≡ get_or (meanings A (ranks_of H) (all_meanings A K) kids (body_at K q) []) 0 A.bottom
    own q b kids =
        let many = f.many in
        memo-at A K k q (omega arith) kids ∙ ap (λ rs. get_or (meanings A rs (all_meanings A K) kids (body_at K q) []) 0 A.bottom) f.ranks

    own-first : (kids : List S) → get_or (all_meanings A K) 0 (λ _. A.bottom) kids ≡ get_or (meanings A (ranks_of H) (all_meanings A K) kids (body_at H 0) []) 0 A.bottom
    own-first kids =
        let some = x.some in
        own 0 (omega arith) kids ∙ ap (λ ls. get_or (meanings A (ranks_of H) (all_meanings A K) kids ls []) 0 A.bottom) f.first

    own-pair : (kids : List S) → get_or (all_meanings A K) 0 (λ _. A.bottom) kids ≡ get_or (meanings A (ranks_of H) (all_meanings A K) kids (digram_body (ranks_of H) d.upper (d.place - 1) d.lower) []) 0 A.bottom
    own-pair kids = own-first kids ∙ ap (λ ls. get_or (meanings A (ranks_of H) (all_meanings A K) kids ls []) 0 A.bottom) body

    -- and what it did before it was folded
    own-before : (q : ℕ) → 0 < q → q < length H → IsTerm (ranks_of H) (body_at H q) → (kids : List S)
        → get_or (all_meanings A K) q (λ _. A.bottom) kids ≡ get_or (meanings A (ranks_of H) (all_meanings A K) kids (body_at H q) []) 0 A.bottom
    own-before q a b t kids =
        own q b kids
        ∙ ap (λ ls. get_or (meanings A (ranks_of H) (all_meanings A K) kids ls []) 0 A.bottom) (sym (append-nil (body_at K q)))
        ∙ ap (λ z. get_or z 0 A.bottom) (folded-means (ranks_of H) d (no-param d.upper (inl u)) (no-param d.lower l) pair A (all_meanings A K) own-pair (body_at H q) (body_at K q ∷ []) (f.others q a b t) kids)

    mean : Mean A (ranks_of H) (all_meanings A K) (body_at H)
    mean zero t kids = own-first kids
    mean (suc q) t kids = by_place (cases_lt (suc q) (length H)) where
      by_place : (suc q < length H) ⊎ (length H ≤ suc q) → get_or (all_meanings A K) (suc q) (λ _. A.bottom) kids ≡ get_or (meanings A (ranks_of H) (all_meanings A K) kids (body_at H (suc q)) []) 0 A.bottom
      by_place (inl b) = own-before (suc q) (omega arith) b t kids
      by_place (inr b) =
          let none : body_at H (suc q) ≡ [] = ap (λ (R : Rule). R.body) (get_or_past H (suc q) no_rule b) in
          absurd (subst (AreTerms (arity (ranks_of H)) 1) none t)

    -- so does the start
    starts-mean : get_or (all_meanings A K) (length K - 1) (λ _. A.bottom) [] ≡ get_or (all_meanings A G) (length G - 1) (λ _. A.bottom) []
    starts-mean =
        let some = x.some in
        ap (λ n. get_or (all_meanings A K) (n - 1) (λ _. A.bottom) []) f.many
        ∙ own-before (length H - 1) (omega arith) (omega arith) (start-term A G H g (all_meanings A K) mean outside x) []
        ∙ ap (λ z. get_or z 0 A.bottom) (start-means A G H g (all_meanings A K) mean outside x)
        ∙ sym (memo-at A G g (length G - 1) (omega (arith, g.some)) [])

  -- the value stays
  pub kept-value : value K ≡ value G
  kept-value =
      let none : rank_at K (length K - 1) ≡ 0 = (k.each (length K - 1) (omega (arith, k.some))).shaped.start (omega (arith, k.some)) in
      let same : rank_at G (length G - 1) ≡ 0 = (g.each (length G - 1) (omega (arith, g.some))).shaped.start (omega (arith, g.some)) in
      ap (λ n. get_or (all_meanings term_algebra K) (length K - 1) (λ _. Leaf) (holes 0 n)) none
      ∙ starts-mean term_algebra
      ∙ sym (ap (λ n. get_or (all_meanings term_algebra G) (length G - 1) (λ _. Leaf) (holes 0 n)) same)

  -- the first rule is the digram's
  pub kept-pair : body_at K 0 ≡ digram_body (ranks_of K) d.upper (d.place - 1) d.lower
  kept-pair = f.first ∙ body ∙ pair-same (ranks_of H) (ranks_of K) d u l
