-- The rules that are made of triples are a grammar, and its value is what becomes of the value.
use Rattle.std.proofs.Common.{◌≡◌, ℕ, zero, suc, ◌+◌, ◌-◌, ◌<◌, ◌≤◌, List, [], ◌∷◌, ◌++◌, length, get_or, take, map, false, Some, slice_get, refl, ap, sym, ◌∙◌, arith}
use Rattle.std.proofs.lemmas.Option.{slice_get_within, slice_get-get_or}
use Rattle.std.proofs.lemmas.List.{get_or_push, length_push}
use Rattle.rule_arena.proofs.ListLemmas.{get-take, length-take-within}
use Rattle.rule_arena.specs.declared.label.Label.{Label}
use Rattle.slt_grammar.specs.Algebras.{Algebra, ranks_of, meanings, all_meanings}
use Rattle.slt_grammar.specs.Automata.{Downward, handed}
use Rattle.slt_grammar.specs.Bodies.{params}
use Rattle.slt_grammar.specs.Terms.{Term, Leaf, holes, up, term_algebra}
use Rattle.slt_grammar.specs.Grammars.{IsGrammar, IsLawfulAt, body_at, rank_at, value_at, value}
use Rattle.slt_grammar.specs.declared.rules.Rule.{Rule}
use Rattle.slt_grammar.proofs.Meanings.{meanings-whole, only}
use Rattle.slt_grammar.proofs.RuleMeanings.{memo-at, rank_at-ranks_of}
use Rattle.rule_runs.specs.Reached.{RuleStates}
use Rattle.rule_runs.specs.Walks.{param_downs}
use Rattle.rule_runs.proofs.Handing.{linear}
use Rattle.rule_runs.proofs.Descents.{handed-value, length-handed-value}
use Rattle.bulk_rewrite.specs.Rewriting.{Rewriting, IsLawful, rewritten, kept_terms, kept_count}
use Rattle.bulk_rewrite.specs.Making.{making, AreNamed, AreMade}
use Rattle.bulk_rewrite.proofs.Kept.{kept_count-most}
use Rattle.bulk_rewrite.proofs.Bodies.{made-terms, made-params, made-calls}
use Rattle.bulk_rewrite.proofs.Values.{bodies, AreRight, made-means}

module _ {S D : Type 0} (A : Algebra S) (W : Downward S D) (G : List Rule) (g : IsGrammar G) (R : Rewriting D) (law : IsLawful W R) (ts : List (RuleStates S × D)) (H : List Rule) (m : AreMade A W G R ts H) where
  rank-made : (i : ℕ) (k : RuleStates S) (d : D) → slice_get ts i ≡ Some (k, d) → get_or (ranks_of H) i 0 ≡ kept_count R (handed A W (value_at G k.0) k.1 d)
  rank-made i k d at = rank_at-ranks_of H i ∙ (m.each i k d at).rank

  -- they have no more parameters than those that they are made of
  pub small-made : (i : ℕ) (k : RuleStates S) (d : D) → slice_get ts i ≡ Some (k, d) → rank_at H i ≤ rank_at G k.0
  small-made i k d at =
      let made = m.each i k d at in
      omega (arith, made.rank, kept_count-most R (handed A W (value_at G k.0) k.1 d), length-handed-value A W G g k made.pair d)

  pub lawful-made : (i : ℕ) (k : RuleStates S) (d : D) → slice_get ts i ≡ Some (k, d) → (i + 1 ≡ length H → rank_at G k.0 ≡ 0) → IsLawfulAt H i
  lawful-made i k d at start =
      let made = m.each i k d at in
      let before : List (RuleStates S × D) = take i ts in
      let lin = linear G g in
      let old = g.each k.0 made.pair.there in
      let body : List Label = body_at H i in
      let known : (j : ℕ) (q : RuleStates S) (e : D) → slice_get before j ≡ Some (q, e) → get_or (ranks_of H) j 0 ≡ kept_count R (handed A W (value_at G q.0) q.1 e) =
      λ j q e h. rank-made j q e (get-take i ts j (q, e) h).1 in
      let one : kept_count R (d ∷ []) ≡ 1 = rw made.here refl in
      let small = small-made i k d at in
      let some : rank_at G k.0 ≤ 8 = old.shaped.small in
      record {
        earlier = rw (length-take-within i ts (k, d) at) at (made-calls A W G lin R law before (body_at G k.0) k.1 (d ∷ []) body made.body);
        shaped = record {
          term = rw one at (made-terms A W G lin R law before (ranks_of H) known 1 (body_at G k.0) k.1 (d ∷ []) body old.shaped.term refl made.body);
          small = omega arith;
          start = λ e. let z = start e in omega arith;
        };
        linear = made-params A W G lin R law before 1 (body_at G k.0) k.1 (d ∷ []) body old.shaped.term refl made.body ∙ ap (kept_count R) (handed-value A W G g k made.pair d) ∙ sym made.rank;
      }

  module _ (start : (before : List (RuleStates S × D)) × (ts ≡ before ++ ((length G - 1, []), W.start) ∷ [])) where
    some-made : 0 < length H
    some-made = omega (arith, m.many, ap length start.1, length_push start.0 ((length G - 1, []), W.start))

    rank-start : rank_at G (length G - 1) ≡ 0
    rank-start = let some = g.some in (g.each (length G - 1) (omega arith)).shaped.start (omega arith)

    triple-last : (i : ℕ) (k : RuleStates S) (d : D) → slice_get ts i ≡ Some (k, d) → i + 1 ≡ length H → (k ≡ (length G - 1, [])) × (d ≡ W.start)
    triple-last i k d at e =
        let last : RuleStates S × D = ((length G - 1, []), W.start) in
        let n : length ts ≡ length start.0 + 1 = ap length start.1 ∙ length_push start.0 last in
        let z : get_or ts i last ≡ last = ap (λ xs. get_or xs i last) start.1 ∙ get_or_push start.0 last last i (omega (arith, m.many)) in
        let y : slice_get ts i ≡ Some last = slice_get-get_or ts i last (omega (arith, m.many)) ∙ ap (λ (t : RuleStates S × D). Some t) z in
        let x : ◌≡◌ {A = RuleStates S × D} (k, d) last = cc in
        (ap (λ (t : RuleStates S × D). t.0) x, ap (λ (t : RuleStates S × D). t.1) x)

    at : (i : ℕ) → i < length H → (t : RuleStates S × D) × (slice_get ts i ≡ Some t)
    at i lt = let last : RuleStates S × D = ((length G - 1, []), W.start) in (get_or ts i last, slice_get-get_or ts i last (omega (arith, m.many)))

    pub grammar-made : IsGrammar H
    grammar-made = record {
      some = some-made;
      each = λ i lt. let t = at i lt in lawful-made i t.0.0 t.0.1 t.1 (λ e. let l = triple-last i t.0.0 t.0.1 t.1 e in ap (λ (k : RuleStates S). rank_at G k.0) l.0 ∙ rank-start);
    }

    module _ (states : List S) where
      -- each rule means what becomes of what its triple's rule means
      made-mean : (n i : ℕ) → i < n → (k : RuleStates S) (d : D) → slice_get ts i ≡ Some (k, d) → R.lost d ≡ false → (xs : List Term) → length xs ≡ get_or (ranks_of G) k.0 0 → map (λ t. up A t states) xs ≡ k.1
          → get_or (all_meanings term_algebra H) i (λ _. Leaf) (kept_terms A W R xs states (handed A W (value_at G k.0) k.1 d)) ≡ rewritten A W R (get_or (all_meanings term_algebra G) k.0 (λ _. Leaf) xs) states d
      made-mean zero i lt k d at here xs l u = absurd (omega arith)
      made-mean (suc n) i lt k d at here xs l u =
          let made = m.each i k d at in
          let before : List (RuleStates S × D) = take i ts in
          let lin = linear G g in
          let old = g.each k.0 made.pair.there in
          let body : List Label = body_at G k.0 in
          let hs = handed A W (value_at G k.0) k.1 d in
          let right : AreRight A W G lin R law states before (ranks_of H) (all_meanings term_algebra H) = record {
            rank = λ j q e h. rank-made j q e (get-take i ts j (q, e) h).1;
            mean = λ j q e h f ys c v. let w = get-take i ts j (q, e) h in made-mean n j (omega (arith, w.0)) q e w.1 f ys c v;
          } in
          let p : length xs ≡ params body = l ∙ rank_at-ranks_of G k.0 ∙ sym old.linear in
          let b : AreNamed before (making A W G R (map (λ t. up A t states) xs) (d ∷ []) body) (body_at H i) = rw u made.body in
          let v = made-means A W G lin R law states before (ranks_of H) (all_meanings term_algebra H) right 1 body xs (d ∷ []) (body_at H i) old.shaped.term refl p b in
          let q : param_downs A W G (map (λ t. up A t states) xs) (d ∷ []) body ≡ hs = ap (λ us. param_downs A W G us (d ∷ []) body) u ∙ handed-value A W G g k made.pair d in
          let one = only Leaf (bodies A W G lin R law states xs body) (meanings-whole term_algebra (ranks_of G) (all_meanings term_algebra G) 1 xs body [] old.shaped.term).1 in
          let value : bodies A W G lin R law states xs body ≡ get_or (all_meanings term_algebra G) k.0 (λ _. Leaf) xs ∷ [] = one ∙ ap (λ t. t ∷ []) (sym (memo-at term_algebra G g k.0 made.pair.there xs)) in
          let there : i < length H = omega (arith, m.many, slice_get_within ts i (k, d) at) in
          memo-at term_algebra H grammar-made i there (kept_terms A W R xs states hs)
          ∙ ap (λ ms. get_or ms 0 Leaf) (ap (λ es. meanings term_algebra (ranks_of H) (all_meanings term_algebra H) (kept_terms A W R xs states es) (body_at H i) []) (sym q) ∙ v ∙ ap (λ vs. kept_terms A W R vs states (d ∷ [])) value)
          ∙ rw here refl

    -- the new value is what becomes of the value
    pub value-made : value H ≡ rewritten A W R (value G) [] W.start
    value-made =
        let i : ℕ = length H - 1 in
        let last : RuleStates S × D = ((length G - 1, []), W.start) in
        let some = some-made in
        let n : length ts ≡ length start.0 + 1 = ap length start.1 ∙ length_push start.0 last in
        let z : get_or ts i last ≡ last = ap (λ xs. get_or xs i last) start.1 ∙ get_or_push start.0 last last i (omega (arith, m.many)) in
        let y : slice_get ts i ≡ Some last = slice_get-get_or ts i last (omega (arith, m.many)) ∙ ap (λ (t : RuleStates S × D). Some t) z in
        let v = made-mean [] (suc i) i (omega arith) (length G - 1, []) W.start y law.start [] (sym (rank_at-ranks_of G (length G - 1) ∙ rank-start)) refl in
        let r : rank_at H i ≡ 0 = (grammar-made.each i (omega arith)).shaped.start (omega arith) in
        ap (λ n. get_or (all_meanings term_algebra H) i (λ _. Leaf) (holes 0 n)) r ∙ v ∙ ap (λ n. rewritten A W R (get_or (all_meanings term_algebra G) (length G - 1) (λ _. Leaf) (holes 0 n)) [] W.start) (sym rank-start)
