use Rattle.std.proofs.Common.{◌≡◌, ◌+◌, suc, ◌∷◌, ◌++◌, [], ◌∙◌, Bool, true, false, ℕ, List, sym, ap, arith, take, take_all}
use Rattle.std.proofs.Math.Seq.{take-suc}
use Rattle.bulk_rewrite.specs.Rewriting.{Rewriting, kept_count, counted}
use Rattle.bulk_rewrite.proofs.Kept.{kept_count-append}
use Rattle.bulk_rewrite.proofs.frame.count_kept.Goals as goal
use Rattle.bulk_rewrite.proofs.frame.count_kept.Goals.{then-not-is_lost, else-not-is_lost}

-- one more is counted, unless it is lost
one-more : {D : Type 0} (R : Rewriting D) (ds : List D) (i n : ℕ) (d : D) (b : Bool) → i + 1 ≡ suc i → take (suc i) ds ≡ take i ds ++ d ∷ [] → R.lost d ≡ b → n ≡ kept_count R (take i ds) → kept_count R (take (i + 1) ds) ≡ n + counted b 0
one-more R ds i n d b s t l e = ap (λ j. kept_count R (take j ds)) s ∙ ap (kept_count R) t ∙ kept_count-append R (take i ds) (d ∷ []) ∙ ap (λ m. m + counted (R.lost d) 0) (sym e) ∙ ap (λ c. n + counted c 0) l

pub returns : goal.returns
returns g c = c.downs.invariant.counted ∙ ap (kept_count (g.A.Rewriter.rewriting c.args.automaton.now)) (take_all c.downs.down-index c.args.downs.now c.downs-test.false)

pub downs-preserved : goal.downs-preserved
downs-preserved g c =
    let R = g.A.Rewriter.rewriting c.args.automaton.now in
    let i = c.downs.down-index in
    let d = c.down-item.result in
    let t : take (suc i) c.args.downs.now ≡ take i c.args.downs.now ++ d ∷ [] = take-suc c.args.downs.now i d c.downs-test.true ∙ ap (λ x. take i c.args.downs.now ++ x ∷ []) (sym c.down-item.is) in
    let m = λ (b : Bool) (l : c.is_lost.result ≡ b). one-more R c.args.downs.now i c.downs.count d b (omega arith) t (sym c.is_lost.ensures ∙ l) c.downs.invariant.counted in
    let f = c.downs.invariant.few in
    elim c.if-not-is_lost.branch [
      | then-not-is_lost w ↦ record { counted = w.count-is ∙ sym (m false w.if-not-is_lost.true); few = (let k = w.count-is in omega arith) }
      | else-not-is_lost w ↦ record { counted = w.count-is ∙ omega_zero c.downs.count ∙ sym (m true w.if-not-is_lost.false); few = (let k = w.count-is in omega arith) }
    ]
  where
    omega_zero : (n : ℕ) → n ≡ n + 0
    omega_zero n = omega arith

pub overflow_add-count : goal.overflow_add-count
overflow_add-count g c = (let f = c.downs.invariant.few in let t = c.downs-test.true in omega arith)
