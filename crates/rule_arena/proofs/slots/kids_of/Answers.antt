use Rattle.std.proofs.Common.{◌≡◌, ◌+◌, ◌-◌, ◌∙◌, ℕ, suc, List, [], ◌∷◌, ◌++◌, length, IsSome, arith, ap, sym, subst}
use Rattle.slab.specs.Slab.{get}
use Rattle.rule_arena.specs.Siblings.{row, step, seen}
use Rattle.rule_arena.specs.declared.key.Key.{Key}
use Rattle.rule_arena.proofs.SeenLemmas.{length-row, row-push, step-next}
use Rattle.rule_arena.proofs.slots.kids_of.Goals as goal

pub cell_of-requires : goal.cell_of-requires
cell_of-requires c =
    subst (λ (k : Key). IsSome (get (seen c.args.slots.now) k.number)) (sym c.loop-i.invariant.last)
    (c.requires (c.loop-i._i - 1) (omega (arith, c.loop-i-test.true, c.count-i-end.ensures.value)))

pub push-requires-in-loop-i : goal.push-requires-in-loop-i
push-requires-in-loop-i c =
    omega (arith, ap length c.loop-i.invariant.kids, length-row (get c.args.slots.now) c.loop-i._i c.args.cell.now.first, c.loop-i-test.true, c.count-i-end.ensures.few)

pub loop-i-init : goal.loop-i-init
loop-i-init c = record {
  kids = c.push.ensures ∙ ap (λ (xs : List Key). xs ++ c.first-at.result ∷ []) c.new-kids.ensures ∙ ap (λ (k : Key). k ∷ []) c.first-at.ensures;
  last = c.first-at.ensures;
}

pub loop-i-preserved : goal.loop-i-preserved
loop-i-preserved c =
    let n : c.loop-i._i - 1 + 1 ≡ c.loop-i._i = omega (arith, c.loop-i.auto._i) in
    let m : c.loop-i._i + 1 ≡ suc c.loop-i._i = omega arith in
    let b : c.loop-i._i + 1 - 1 ≡ c.loop-i._i = omega arith in
    let e : c.next-at.result ≡ step (get c.args.slots.now) c.loop-i._i c.args.cell.now.first =
    c.next-at.ensures ∙ step-next c.args.slots.now (c.loop-i._i - 1) c.args.cell.now.first c.loop-i.at c.cell_of.result.now c.loop-i.invariant.last c.cell_of.ensures.raw ∙ ap (λ (i : ℕ). step (get c.args.slots.now) i c.args.cell.now.first) n in
    record {
      kids =
          c.push-in-loop-i.ensures ∙ ap (λ (xs : List Key). xs ++ c.next-at.result ∷ []) c.loop-i.invariant.kids ∙ ap (λ (k : Key). row (get c.args.slots.now) c.loop-i._i c.args.cell.now.first ++ k ∷ []) e
          ∙ sym (row-push (get c.args.slots.now) c.loop-i._i c.args.cell.now.first) ∙ ap (λ (i : ℕ). row (get c.args.slots.now) i c.args.cell.now.first) (sym m);
      last = e ∙ ap (λ (i : ℕ). step (get c.args.slots.now) i c.args.cell.now.first) (sym b);
    }

pub returns : goal.returns
returns c =
    let n : c.loop-i._i ≡ c.args.cell.now.count = omega (arith, c.loop-i-test.false, c.count-i-end.ensures.value, c.count.ensures.value, c.if-count-eq0.false, c.loop-i.auto._i, c.loop-i.auto._i-end) in
    c.loop-i.invariant.kids ∙ ap (λ (i : ℕ). row (get c.args.slots.now) i c.args.cell.now.first) n
