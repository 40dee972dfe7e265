use Rattle.std.proofs.Common.{◌≡◌, ◌<◌, ◌≤◌, ◌+◌, ◌∙◌, ◌⊎◌, inl, inr, ℕ, length, arith}
use Rattle.std.proofs.lemmas.List.{length-set}
use Rattle.slt_grammar.proofs.Orders.{below-index, get-any, written}
use Rattle.slt_grammar.proofs.order.renumber.Goals as goal

pub index_mut-requires : goal.index_mut-requires
index_mut-requires c =
    let h : c.loop-p.p < length c.args.ids.now.items = omega (arith, c.loop-p-test.true, c.requires.within) in
    let e = c.index.ensures ∙ get-any c.args.ids.now.items c.loop-p.p c.index.result.now 0 h in
    omega (arith, e, below-index (length c.args.places.now.items) c.args.ids.now.items c.loop-p.p c.requires.below h, c.loop-p.invariant.len, c.loop-p.places.ok)

pub loop-p-preserved : goal.loop-p-preserved
loop-p-preserved c =
    let h : c.loop-p.p < length c.args.ids.now.items = omega (arith, c.loop-p-test.true, c.requires.within) in
    let e = c.index.ensures ∙ get-any c.args.ids.now.items c.loop-p.p c.index.result.now 0 h in
    let b : c.index.result.now < length c.loop-p.places.items = omega (arith, e, below-index (length c.args.places.now.items) c.args.ids.now.items c.loop-p.p c.requires.below h, c.loop-p.invariant.len) in
    record {
      done = λ q m k. written c.args.ids.now.items c.loop-p.places.items c.loop-p.p c.index.result.now c.requires.distinct b h e q k
          (λ n. c.loop-p.invariant.done q (before q m n) k);
      len = length-set c.loop-p.places.items c.index.result.now c.loop-p.p ∙ c.loop-p.invariant.len;
    }
  where
    before : (q : ℕ) → (q < c.loop-p.p + 1) ⊎ (c.args.to ≤ q) → (q ≡ c.loop-p.p → ⊥) → (q < c.loop-p.p) ⊎ (c.args.to ≤ q)
    before q (inl l) n = inl (omega arith)
    before q (inr l) n = inr l
