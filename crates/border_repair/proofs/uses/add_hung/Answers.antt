use Rattle.std.proofs.Common.{◌≡◌, ◌<◌, ◌+◌, ◌*◌, ◌^◌, ℕ, Some, ◌∙◌, ap, arith, subst}
use Rattle.border_repair.specs.Counted.{counted, digram_of}
use Rattle.border_repair.specs.Digrams.{is}
use Rattle.border_repair.specs.Weighing.{hung, Above}
use Rattle.border_repair.specs.declared.edge.Edge.{Edge}
use Rattle.border_repair.proofs.EdgeLemmas.{own-weighs}
use Rattle.border_repair.proofs.uses.add_hung.Goals as goal

pub add-requires : goal.add-requires
add-requires c =
    let x : Edge = record { upper = c.in-Some.upper; place = c.in-Some.place; lower = c.in-Some-root.lower } in
    let d = digram_of x in
    let few = c.requires d in
    let one : hung (is d) c.args.above c.args.root ≡ 1 = ap (λ (b : Above). hung (is d) b c.args.root) c.in-Some.is ∙ ap (hung (is d) (Some (c.in-Some.upper, c.in-Some.place))) c.in-Some-root.is ∙ own-weighs x in
    fits (counted c.args.counts.now.entries d) c.args.times (hung (is d) c.args.above c.args.root) one few
  where
    fits : (a t h : ℕ) → h ≡ 1 → a + t * h < 2 ^ 64 → a + t < 2 ^ 64
    fits a t h e l = let m : a + t * 1 < 2 ^ 64 = subst (λ k. a + t * k < 2 ^ 64) e l in omega arith
