-- In a swept grammar no rule's value is larger than the whole.
use Rattle.std.proofs.Common.{◌≡◌, ℕ, zero, suc, ◌+◌, ◌-◌, ◌<◌, ◌≤◌, List, [], ◌∷◌, ◌++◌, length, get_or, refl, ap, sym, ◌∙◌, arith, length-append, sum_by, ◌⊎◌, inl, inr, Bool, true, false}
use Rattle.std.specs.Prelude.{eqb, if◌then◌else◌}
use Rattle.std.proofs.lemmas.Bool.{cases_lt, eqb-true}
use Rattle.std.proofs.lemmas.List.Sums.{sum_by-cons, sum_by-append}
use Rattle.rule_arena.specs.Preorder.{AreTerms}
use Rattle.rule_arena.specs.declared.label.Label.{Label}
use Rattle.rule_arena.specs.declared.label.Label.TheVariants.{Bottom, Symbol, Call, Param}
use Rattle.slt_grammar.specs.Algebras.{ranks_of}
use Rattle.slt_grammar.specs.Bodies.{arity, params, CallsBelow, calls_in}
use Rattle.slt_grammar.specs.Grammars.{IsGrammar, IsSwept, body_at}
use Rattle.slt_grammar.specs.Segments.{segment, preorder, piece, spread, body_tour}
use Rattle.slt_grammar.specs.Tours.{Stop, stop, opened_kids, once_closed, tour}
use Rattle.slt_grammar.specs.declared.rules.Rule.{Rule}
use Rattle.slt_grammar.proofs.RuleMeanings.{rank_at-ranks_of}
use Rattle.slt_grammar.proofs.Spreads.{IsPlain, preorder-tour}
use Rattle.slt_grammar.proofs.TourLemmas.{params-preorder}
use Rattle.segment_counts.specs.Weights.{segments_sum}
use Rattle.segment_counts.proofs.Numbers.{segments_sum-param, segment-now, segments_sum-later}

-- the parts of a node from part i on
abbrev pub part_sum : (Stop Label → ℕ) → Label → ℕ → ℕ → ℕ
part_sum W l i zero = 0
part_sum W l i (suc n) = W (stop l i) + part_sum W l (suc i) n

abbrev sums_all : (Stop Label → ℕ) → List (List (Stop Label)) → ℕ
sums_all W [] = 0
sums_all W (a ∷ after) = sum_by W a + sums_all W after

abbrev pub node_sum : (Stop Label → ℕ) → List ℕ → List Label → ℕ
node_sum W ranks [] = 0
node_sum W ranks (l ∷ ls) = part_sum W l 0 (suc (arity ranks l)) + node_sum W ranks ls

module _ (W : Stop Label → ℕ) where
  all-append : (xs ys : List (List (Stop Label))) → sums_all W (xs ++ ys) ≡ sums_all W xs + sums_all W ys
  all-append [] ys = omega arith
  all-append (x ∷ xs) ys = omega (arith, all-append xs ys)

  all-opened_kids : (l : Label) (i n : ℕ) (a : List (Stop Label)) → sums_all W (opened_kids l i n a) + sum_by W (once_closed n a) ≡ part_sum W l i n + sum_by W a
  all-opened_kids l i zero a = omega arith
  all-opened_kids l i (suc zero) a = omega (arith, sum_by-cons W (stop l i) a)
  all-opened_kids l i (suc (suc n)) a = omega (arith, all-opened_kids l (suc i) (suc n) a, sum_by-cons W (stop l i) [])

  length-opened_kids : (l : Label) (i n : ℕ) (a : List (Stop Label)) → length (opened_kids l i n a) ≡ n
  length-opened_kids l i zero a = refl
  length-opened_kids l i (suc zero) a = refl
  length-opened_kids l i (suc (suc n)) a = ap suc (length-opened_kids l (suc i) (suc n) a)

  -- a tour has each part of each node once
  pub sum-tour : (ranks : List ℕ) (n : ℕ) (ls : List Label) (after : List (List (Stop Label))) → AreTerms (arity ranks) n ls → length after ≡ n → sum_by W (tour (arity ranks) after ls) ≡ node_sum W ranks ls + sums_all W after
  sum-tour ranks zero [] [] t e = refl
  sum-tour ranks zero [] (a ∷ after) t e = absurd (omega arith)
  sum-tour ranks zero (l ∷ ls) after t e = absurd t
  sum-tour ranks (suc n) [] after t e = absurd t
  sum-tour ranks (suc n) (l ∷ ls) [] t e = absurd (omega arith)
  sum-tour ranks (suc n) (l ∷ ls) (a ∷ after) t e =
      let k : ℕ = arity ranks l in
      let rest = opened_kids l 1 k a ++ after in
      let o = length-opened_kids l 1 k a in
      let ih = sum-tour ranks (k + n) ls rest t (omega (arith, length-append (opened_kids l 1 k a) after, o)) in
      omega (arith, ih, all-append (opened_kids l 1 k a) after, all-opened_kids l 1 k a, sum_by-append W (once_closed k a) (tour (arity ranks) rest ls), sum_by-cons W (stop l 0) (once_closed k a ++ tour (arity ranks) rest ls))

  -- a call's parts are among those of the body
  call-among : (ranks : List ℕ) (q : ℕ) (ls : List Label) → 0 < calls_in q ls → part_sum W (Call q) 0 (suc (get_or ranks q 0)) ≤ node_sum W ranks ls
  call-among ranks q [] h = absurd (omega arith)
  call-among ranks q (Bottom ∷ ls) h = omega (arith, call-among ranks q ls h)
  call-among ranks q (Symbol f ∷ ls) h = omega (arith, call-among ranks q ls h)
  call-among ranks q (Param ∷ ls) h = omega (arith, call-among ranks q ls h)
  call-among ranks q (Call p ∷ ls) h = by_test (eqb p q) refl h (λ k. call-among ranks q ls k)
    where
      by_test : (b : Bool) → eqb p q ≡ b → 0 < (if b then 1 else 0) + calls_in q ls → (0 < calls_in q ls → part_sum W (Call q) 0 (suc (get_or ranks q 0)) ≤ node_sum W ranks ls) → part_sum W (Call q) 0 (suc (get_or ranks q 0)) ≤ part_sum W (Call p) 0 (suc (get_or ranks p 0)) + node_sum W ranks ls
      by_test true e h ih = let s : p ≡ q = eqb-true p q e in omega (arith, ap (λ k. part_sum W (Call k) 0 (suc (get_or ranks k 0))) s)
      by_test false e h ih = omega (arith, ih (omega arith))

call-later : (k q : ℕ) (ls : List Label) → CallsBelow k ls → 0 < calls_in q ls → q < k
call-later k q [] c h = absurd (omega arith)
call-later k q (Bottom ∷ ls) c h = call-later k q ls c h
call-later k q (Symbol f ∷ ls) c h = call-later k q ls c h
call-later k q (Param ∷ ls) c h = call-later k q ls c h
call-later k q (Call p ∷ ls) c h = by_test (eqb p q) refl h (λ d. call-later k q ls c.1 d)
  where
    by_test : (b : Bool) → eqb p q ≡ b → 0 < (if b then 1 else 0) + calls_in q ls → (0 < calls_in q ls → q < k) → q < k
    by_test true e h ih = omega (arith, eqb-true p q e, c.0)
    by_test false e h ih = ih (omega arith)

-- some rule calls it
caller : (q : ℕ) (G : List Rule) → 0 < sum_by (λ R. calls_in q R.body) G → (s : ℕ) × (s < length G) × (0 < calls_in q (body_at G s))
caller q [] h = absurd (omega arith)
caller q (R ∷ G) h = by_place (cases_lt 0 (calls_in q R.body)) (λ k. caller q G k)
  where
    by_place : (0 < calls_in q R.body) ⊎ (calls_in q R.body ≤ 0) → (0 < sum_by (λ R. calls_in q R.body) G → (s : ℕ) × (s < length G) × (0 < calls_in q (body_at G s))) → (s : ℕ) × (s < length (R ∷ G)) × (0 < calls_in q (body_at (R ∷ G) s))
    by_place (inl l) ih = (0, omega arith, l)
    by_place (inr g) ih = let f = ih (omega (arith, sum_by-cons (λ (S : Rule). calls_in q S.body) R G)) in (suc f.0, omega (arith, f.1), f.2)

module _ (w : Label → ℕ) (none : w Param ≡ 0) where
  plain-segments_sum : (l : Label) → IsPlain l → (T : List Label) → sum_by w T ≡ segments_sum w T 0 (suc (params T)) → sum_by w (l ∷ T) ≡ segments_sum w (l ∷ T) 0 (suc (params T))
  plain-segments_sum l p T ih = omega (arith, ih, sum_by-cons w l T, sum_by-cons w l (segment 0 T), ap (sum_by w) (segment-now w l p T), segments_sum-later w l p T 0 (params T))

  -- a preorder weighs what its segments weigh
  pub all-segments_sum : (T : List Label) → sum_by w T ≡ segments_sum w T 0 (suc (params T))
  all-segments_sum [] = refl
  all-segments_sum (Param ∷ T) = omega (arith, none, all-segments_sum T, sum_by-cons w Param T, segments_sum-param w T 0 (suc (params T)))
  all-segments_sum (Bottom ∷ T) = plain-segments_sum Bottom tt T (all-segments_sum T)
  all-segments_sum (Symbol f ∷ T) = plain-segments_sum (Symbol f) tt T (all-segments_sum T)
  all-segments_sum (Call q ∷ T) = plain-segments_sum (Call q) tt T (all-segments_sum T)

  parts-segments_sum : (G : List Rule) (q i n : ℕ) → part_sum (λ m. sum_by w (piece G m)) (Call q) i n ≡ segments_sum w (preorder G q) i n
  parts-segments_sum G q i zero = refl
  parts-segments_sum G q i (suc n) = ap (λ k. sum_by w (segment i (preorder G q)) + k) (parts-segments_sum G q (suc i) n)

  weight-stops : (G : List Rule) (ms : List (Stop Label)) → sum_by w (spread (piece G) ms []) ≡ sum_by (λ m. sum_by w (piece G m)) ms
  weight-stops G [] = refl
  weight-stops G (m ∷ ms) = sum_by-append w (piece G m) (spread (piece G) ms []) ∙ ap (λ n. sum_by w (piece G m) + n) (weight-stops G ms) ∙ sym (sum_by-cons (λ (k : Stop Label). sum_by w (piece G k)) m ms)

  module _ (G : List Rule) (g : IsGrammar G) where
    -- a caller's value is not smaller
    not-smaller : (q s : ℕ) → q < length G → s < length G → 0 < calls_in q (body_at G s) → sum_by w (preorder G q) ≤ sum_by w (preorder G s)
    not-smaller q s b h c =
        let V : Stop Label → ℕ = λ m. sum_by w (piece G m) in
        let t = ap (sum_by w) (preorder-tour G s g h) ∙ weight-stops G (body_tour G s) in
        let u = sum-tour V (ranks_of G) 1 (body_at G s) ([] ∷ []) (g.each s h).shaped.term refl in
        let v = call-among V (ranks_of G) q (body_at G s) c in
        let x = parts-segments_sum G q 0 (suc (get_or (ranks_of G) q 0)) in
        let y = all-segments_sum (preorder G q) ∙ ap (λ k. segments_sum w (preorder G q) 0 (suc k)) (params-preorder G q g b ∙ sym (rank_at-ranks_of G q)) in
        omega (arith, t, u, v, x, y)

    larger-step : (r s : ℕ) → r < s → s < length G → 0 < calls_in r (body_at G s) → sum_by w (preorder G s) ≤ sum_by w (preorder G (length G - 1)) → sum_by w (preorder G r) ≤ sum_by w (preorder G (length G - 1))
    larger-step r s l h c ih = omega (arith, not-smaller r s (omega arith) h c, ih)

    pub none-larger : IsSwept G → (most r : ℕ) → r < length G → length G ≤ r + most → sum_by w (preorder G r) ≤ sum_by w (preorder G (length G - 1))
    none-larger swept zero r h e = absurd (omega arith)
    none-larger swept (suc most) r h e = by_place (cases_lt (r + 1) (length G)) (λ s l k. none-larger swept most s k (omega arith))
      where
        by_place : (r + 1 < length G) ⊎ (length G ≤ r + 1) → ((s : ℕ) → r < s → s < length G → sum_by w (preorder G s) ≤ sum_by w (preorder G (length G - 1))) → sum_by w (preorder G r) ≤ sum_by w (preorder G (length G - 1))
        by_place (inl l) ih =
            let c = caller r G (swept r l) in
            let b = call-later c.0 r (body_at G c.0) (g.each c.0 c.1).earlier c.2 in
            larger-step r c.0 b c.1 c.2 (ih c.0 b c.1)
        by_place (inr k) ih =
            let z : r ≡ length G - 1 = omega arith in
            omega (arith, ap (λ x. sum_by w (preorder G x)) z)
