-- In a folded body no edge weighs anything but above its root.
use Rattle.std.proofs.Common.{◌≡◌, ◌≢◌, ◌⊎◌, inl, inr, ℕ, zero, suc, List, [], ◌∷◌, ◌++◌, Some, None, length, refl, ap, sym, subst, ◌∙◌, arith, append_assoc, length-append, true}
use Rattle.std.specs.Prelude.{Bool}
use Rattle.rule_arena.specs.declared.label.Label.{Label}
use Rattle.rule_arena.specs.declared.label.Label.TheVariants.{Bottom, Symbol, Call, Param}
use Rattle.slt_grammar.specs.Bodies.{arity}
use Rattle.slt_grammar.specs.declared.digram.Digram.{Digram}
use Rattle.slt_grammar.proofs.Substitutions.{joined}
use Rattle.border_repair.specs.Digrams.{is}
use Rattle.border_repair.specs.Edges.{IsHarmless, no_flags, kid_tops, kid_flags, IsOpenEdge, Calm, weighs_at}
use Rattle.border_repair.specs.Folding.{IsPair, Folds, nothing, parameter, kept, made, HasPairRank}
use Rattle.border_repair.specs.ValueBut.{nones}
use Rattle.border_repair.specs.Weighing.{Above, Rim, arisen}
use Rattle.border_repair.proofs.Cleaned.{AreShown, arisen-edges}
use Rattle.border_repair.proofs.Cleaning.{edges-append}
use Rattle.border_repair.proofs.EdgeLemmas.{is-tells}
use Rattle.border_repair.proofs.Quiet.{first_of, IsStill, Still, Quiet, AllQuiet, TopsStill, TopsOpen, AreSafe, flags-same, quiet-parts, still-joined, open-still, open-cut, quiet-none, safe_still}

module _ (d : Digram) (s : ℕ → Rim) (ranks : List ℕ) (same : (l : Label) → length (kid_tops (is d) s l) ≡ arity ranks l) where
  -- other places above terms, where nothing weighs anything
  retop : (xs : List Label) (common cs ds : List Above) (cf fs gs : List Bool) → length common ≡ length cf → length cs ≡ length ds → length cs ≡ length fs → length cs ≡ length gs → AreSafe (is d) s ranks same ds
      → Still (is d) s ranks same (common ++ cs) (cf ++ fs) xs → Still (is d) s ranks same (common ++ ds) (cf ++ gs) xs
  retop xs [] cs ds (f ∷ cf) fs gs m n k j h x = absurd (omega arith)
  retop xs (a ∷ common) cs ds [] fs gs m n k j h x = absurd (omega arith)
  retop [] (a ∷ common) cs ds (f ∷ cf) fs gs m n k j h x = absurd x
  retop [] [] [] [] [] [] [] m n k j h x = tt
  retop [] [] [] (a ∷ ds) [] fs gs m n k j h x = absurd (omega arith)
  retop [] [] [] [] [] (f ∷ fs) gs m n k j h x = absurd (omega arith)
  retop [] [] [] [] [] [] (g ∷ gs) m n k j h x = absurd (omega arith)
  retop [] [] (c ∷ cs) ds [] [] gs m n k j h x = absurd (omega arith)
  retop [] [] (c ∷ cs) ds [] (f ∷ fs) gs m n k j h x = absurd x
  retop (l ∷ xs) (a ∷ common) cs ds (f ∷ cf) fs gs m n k j h x =
      let y = subst (λ v. Still (is d) s ranks same v (kid_flags (is d) s l ++ (cf ++ fs)) xs) (sym (append_assoc (kid_tops (is d) s l) common cs)) x.1 in
      let z = subst (λ v. Still (is d) s ranks same ((kid_tops (is d) s l ++ common) ++ cs) v xs) (sym (append_assoc (kid_flags (is d) s l) cf fs)) y in
      let r = retop xs (kid_tops (is d) s l ++ common) cs ds (kid_flags (is d) s l ++ cf) fs gs (omega (arith, length-append (kid_tops (is d) s l) common, length-append (kid_flags (is d) s l) cf, same l, flags-same (is d) s ranks same l)) n k j h z in
      (x.0, subst (λ v. Still (is d) s ranks same v (kid_flags (is d) s l ++ (cf ++ gs)) xs) (append_assoc (kid_tops (is d) s l) common ds) (subst (λ v. Still (is d) s ranks same ((kid_tops (is d) s l ++ common) ++ ds) v xs) (append_assoc (kid_flags (is d) s l) cf gs) r))
  retop (l ∷ xs) [] [] ds [] [] gs m n k j h x = absurd x
  retop (l ∷ xs) [] [] ds [] (f ∷ fs) gs m n k j h x = absurd (omega arith)
  retop (l ∷ xs) [] (c ∷ cs) [] [] fs gs m n k j h x = absurd (omega arith)
  retop (l ∷ xs) [] (c ∷ cs) (a ∷ ds) [] [] gs m n k j h x = absurd (omega arith)
  retop (l ∷ xs) [] (c ∷ cs) (a ∷ ds) [] (f ∷ fs) [] m n k j h x = absurd (omega arith)
  retop (l ∷ xs) [] (c ∷ cs) (a ∷ ds) [] (f ∷ fs) (g ∷ gs) m n k j h x =
      (safe_still (is d) s ranks same a l h.0, retop xs (kid_tops (is d) s l) cs ds (kid_flags (is d) s l) fs gs (same l ∙ sym (flags-same (is d) s ranks same l)) (omega arith) (omega arith) (omega arith) h.1 x.1)

  nones-still : (ts : List (List Label)) → TopsStill (is d) s ranks same (nones (length ts)) ts
  nones-still [] = tt
  nones-still (t ∷ ts) = (under_none (first_of t), nones-still ts) where
    under_none : (l : Label) → weighs_at (is d) s None l ≡ 0
    under_none Bottom = refl
    under_none (Symbol f) = refl
    under_none (Call q) = refl
    under_none Param = refl

  length-nones : (n : ℕ) → length (nones n) ≡ n
  length-nones zero = refl
  length-nones (suc n) = ap suc (length-nones n)

  length-flags : (cs : List Above) → length (no_flags cs) ≡ length cs
  length-flags [] = refl
  length-flags (c ∷ cs) = ap suc (length-flags cs)

  -- an open edge to a kid that is no pair's lower node weighs nothing
  no-pair : (g i : ℕ) (kids before after : List (List Label)) (t : List Label) → kids ≡ before ++ t ∷ after → suc (length before) ≡ i → (IsPair d (Symbol g) kids → ⊥) → Quiet (is d) s ranks same t
      → IsOpenEdge (is d) s (Some (g, i)) true (first_of t) → weighs_at (is d) s (Some (g, i)) (first_of t) ≡ 0
  no-pair g i kids before after t k at none q edge = subst (λ l. weighs_at (is d) s (Some (g, i)) l ≡ 0) (sym (ap first_of q.whole)) (by_label q.label q.whole (subst (IsOpenEdge (is d) s (Some (g, i)) true) (ap first_of q.whole) edge)) where
    by_digram : (l : Label) → t ≡ l ∷ q.below → ((is d g i l ≡ 1) × (d ≡ record { upper = Symbol g; place = i; lower = l })) ⊎ ((is d g i l ≡ 0) × (d ≢ record { upper = Symbol g; place = i; lower = l })) → is d g i l ≡ 0
    by_digram l w (inl x) = absurd (none (record {
      upper = sym (ap (λ (z : Digram). z.upper) x.1);
      before = before;
      below = q.below;
      after = after;
      kids_are = k ∙ ap (λ v. before ++ v ∷ after) (w ∙ ap (λ v. v ∷ q.below) (sym (ap (λ (z : Digram). z.lower) x.1)));
      place = at ∙ sym (ap (λ (z : Digram). z.place) x.1);
    }))
    by_digram l w (inr x) = x.0

    by_label : (l : Label) → t ≡ l ∷ q.below → IsOpenEdge (is d) s (Some (g, i)) true l → weighs_at (is d) s (Some (g, i)) l ≡ 0
    by_label Bottom w o = by_digram Bottom w (is-tells d (record { upper = g; place = i; lower = Bottom }))
    by_label (Symbol h) w o = by_digram (Symbol h) w (is-tells d (record { upper = g; place = i; lower = Symbol h }))
    by_label (Call p) w o = o
    by_label Param w o = refl

  kept-still : (l : Label) (kids : List (List Label)) → l ≢ Param → (IsPair d l kids → ⊥) → AllQuiet (is d) s ranks same kids → TopsOpen (is d) s ranks same (kid_tops (is d) s l) (kid_flags (is d) s l) kids
      → TopsStill (is d) s ranks same (kid_tops (is d) s l) kids
  kept-still Param kids p none q o = absurd (p refl)
  kept-still Bottom [] p none q o = tt
  kept-still Bottom (t ∷ ts) p none q o = absurd o
  kept-still (Call r) kids p none q o = open-still (is d) s ranks same kids (s r).borders o
  kept-still (Symbol g) [] p none q o = absurd o
  kept-still (Symbol g) (t ∷ []) p none q o = absurd o.1
  kept-still (Symbol g) (t ∷ u ∷ v ∷ ts) p none q o = absurd o.1.1
  kept-still (Symbol g) (t ∷ u ∷ []) p none q o =
      (no-pair g 1 (t ∷ u ∷ []) [] (u ∷ []) t refl refl none q.0 o.0, (no-pair g 2 (t ∷ u ∷ []) (t ∷ []) [] u refl refl none q.1.0 o.1.0, tt))

  module _ (hx : IsHarmless (is d) (s 0).root) (safe : AreSafe (is d) s ranks same (s 0).borders) (pair : HasPairRank ranks d) where
    -- what is made of a pair is quiet
    made-quiet : (kids : List (List Label)) (p : IsPair d d.upper kids) → length kids ≡ arity ranks d.upper → AllQuiet (is d) s ranks same kids → Quiet (is d) s ranks same (Call 0 ∷ (joined p.before ++ (p.below ++ joined p.after)))
    made-quiet kids p n q =
        let v = quiet-parts (is d) s ranks same p.before ((d.lower ∷ p.below) ∷ p.after) (subst (AllQuiet (is d) s ranks same) p.kids_are q) in
        let top : d.lower ≡ v.1.0.label = let w = v.1.0.whole in cc in
        let rest : p.below ≡ v.1.0.below = let w = v.1.0.whole in cc in
        let inside : Still (is d) s ranks same (kid_tops (is d) s d.lower) (kid_flags (is d) s d.lower) p.below =
        subst (λ k. Still (is d) s ranks same (kid_tops (is d) s k) (kid_flags (is d) s k) p.below) (sym top) (subst (Still (is d) s ranks same (kid_tops (is d) s v.1.0.label) (kid_flags (is d) s v.1.0.label)) (sym rest) v.1.0.inside) in
        let A = nones (length p.before) in
        let C = nones (length p.after) in
        let a = still-joined (is d) s ranks same p.before (nones (length p.before)) (no_flags (nones (length p.before))) (length-flags (nones (length p.before))) (nones-still p.before) v.0 in
        let c = still-joined (is d) s ranks same p.after (nones (length p.after)) (no_flags (nones (length p.after))) (length-flags (nones (length p.after))) (nones-still p.after) v.1.1 in
        let b = edges-append (is d) s (IsStill (is d) s ranks same) p.below (joined p.after) (kid_tops (is d) s d.lower) (nones (length p.after)) (kid_flags (is d) s d.lower) (no_flags (nones (length p.after))) inside c in
        let all = edges-append (is d) s (IsStill (is d) s ranks same) (joined p.before) (p.below ++ joined p.after) (nones (length p.before)) (kid_tops (is d) s d.lower ++ nones (length p.after)) (no_flags (nones (length p.before)))
        (kid_flags (is d) s d.lower ++ no_flags (nones (length p.after))) a b in
        let cs = A ++ (kid_tops (is d) s d.lower ++ C) in
        let fs = no_flags A ++ (kid_flags (is d) s d.lower ++ no_flags C) in
        let many : length (A ++ (kid_tops (is d) s d.lower ++ C)) ≡ length (s 0).borders = omega (
          arith,
          length-append A (kid_tops (is d) s d.lower ++ C),
          length-append (kid_tops (is d) s d.lower) C,
          length-nones (length p.before),
          length-nones (length p.after),
          same d.lower,
          same (Call 0),
          pair.rank,
          n,
          ap length p.kids_are,
          length-append p.before ((d.lower ∷ p.below) ∷ p.after),
        ) in
        let flags : length (A ++ (kid_tops (is d) s d.lower ++ C)) ≡ length (no_flags A ++ (kid_flags (is d) s d.lower ++ no_flags C)) = omega (
          arith,
          length-append A (kid_tops (is d) s d.lower ++ C),
          length-append (kid_tops (is d) s d.lower) C,
          length-append (no_flags A) (kid_flags (is d) s d.lower ++ no_flags C),
          length-append (kid_flags (is d) s d.lower) (no_flags C),
          length-flags A,
          length-flags C,
          same d.lower,
          flags-same (is d) s ranks same d.lower,
        ) in
        record {
          label = Call 0;
          below = joined p.before ++ (p.below ++ joined p.after);
          whole = refl;
          inside = retop (joined p.before ++ (p.below ++ joined p.after)) [] cs (s 0).borders [] fs (no_flags (s 0).borders) refl many flags (many ∙ sym (length-flags (s 0).borders)) safe all;
        }

    -- the terms of a folded body are quiet
    pub folded-quiet : (ls : List Label) (ts : List (List Label)) → Folds ranks 0 d ls ts → (cs : List Above) (bs : List Bool) → Calm (is d) s cs bs ls → AllQuiet (is d) s ranks same ts × TopsOpen (is d) s ranks same cs bs ts
    folded-quiet _ _ nothing [] [] c = (tt, tt)
    folded-quiet _ _ nothing [] (b ∷ bs) c = absurd c
    folded-quiet _ _ nothing (a ∷ cs) [] c = absurd c
    folded-quiet _ _ nothing (a ∷ cs) (b ∷ bs) c = absurd c
    folded-quiet _ _ (parameter ls ts x) [] [] c = absurd c
    folded-quiet _ _ (parameter ls ts x) [] (b ∷ bs) c = absurd c
    folded-quiet _ _ (parameter ls ts x) (a ∷ cs) [] c = absurd c
    folded-quiet _ _ (parameter ls ts x) (a ∷ cs) (b ∷ bs) c =
        let r = folded-quiet ls ts x cs bs c.1 in
        ((record { label = Param; below = []; whole = refl; inside = tt }, r.0), (tt, r.1))
    folded-quiet _ _ (kept l ls kids ts p n none x) [] [] c = absurd c
    folded-quiet _ _ (kept l ls kids ts p n none x) [] (b ∷ bs) c = absurd c
    folded-quiet _ _ (kept l ls kids ts p n none x) (a ∷ cs) [] c = absurd c
    folded-quiet _ _ (kept l ls kids ts p n none x) (a ∷ cs) (b ∷ bs) c =
        let r = folded-quiet ls (kids ++ ts) x (kid_tops (is d) s l ++ cs) (kid_flags (is d) s l ++ bs) c.1 in
        let u = quiet-parts (is d) s ranks same kids ts r.0 in
        let o = open-cut (is d) s ranks same kids ts (kid_tops (is d) s l) cs (kid_flags (is d) s l) bs (same l ∙ sym n) (flags-same (is d) s ranks same l ∙ sym n) r.1 in
        let y = still-joined (is d) s ranks same kids (kid_tops (is d) s l) (kid_flags (is d) s l) (flags-same (is d) s ranks same l ∙ sym (same l)) (kept-still l kids p none u.0 o.0) u.0 in
        ((record { label = l; below = joined kids; whole = refl; inside = y }, u.1), (c.0, o.1))
    folded-quiet _ _ (made ls kids ts p n x) [] [] c = absurd c
    folded-quiet _ _ (made ls kids ts p n x) [] (b ∷ bs) c = absurd c
    folded-quiet _ _ (made ls kids ts p n x) (a ∷ cs) [] c = absurd c
    folded-quiet _ _ (made ls kids ts p n x) (a ∷ cs) (b ∷ bs) c =
        let l = d.upper in
        let r = folded-quiet ls (kids ++ ts) x (kid_tops (is d) s d.upper ++ cs) (kid_flags (is d) s d.upper ++ bs) c.1 in
        let u = quiet-parts (is d) s ranks same kids ts r.0 in
        let o = open-cut (is d) s ranks same kids ts (kid_tops (is d) s d.upper) cs (kid_flags (is d) s d.upper) bs (same d.upper ∙ sym n) (flags-same (is d) s ranks same d.upper ∙ sym n) r.1 in
        ((made-quiet kids p n u.0, u.1), (hx a, o.1))

    -- so nothing arises in it
    pub folded-none : AreShown (is d) s → (body folded : List Label) → Calm (is d) s (None ∷ []) (true ∷ []) body → Folds ranks 0 d body (folded ∷ []) → arisen s (is d) (None ∷ []) folded ≡ 0
    folded-none h body folded c x = arisen-edges (is d) s h folded (None ∷ []) ∙ quiet-none (is d) s ranks same folded (folded-quiet body (folded ∷ []) x (None ∷ []) (true ∷ []) c).0.0
