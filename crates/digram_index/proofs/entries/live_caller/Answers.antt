use Rattle.std.proofs.Common.{◌≡◌, ◌<◌, ℕ, Option, None, Some, ap, sym, ◌∙◌, subst, arith}
use Rattle.std.proofs.lemmas.Option.{slice_get_within}
use Rattle.digram_index.proofs.ChainLemmas.{length_of, shorter, passes-one}
use Rattle.digram_index.proofs.entries.live_caller.Goals as goal

pub first-requires : goal.first-requires
first-requires c =
    let C = c.loop-next.invariant.calls c.in-Some.entry c.in-Some.is in
    let w = slice_get_within c.args.patterns.now.patterns c.in-Some.entry C.pattern C.there in
    let g = c.requires.groups in
    omega arith

pub loop-next-smaller : goal.loop-next-smaller
loop-next-smaller c =
    let C = c.loop-next.invariant.calls c.in-Some.entry c.in-Some.is in
    subst (λ (o : Option ℕ). length_of c.caller_before-next.result < length_of o) (sym c.in-Some.is)
    (shorter c.args.patterns.now.patterns c.args.number c.in-Some.entry c.caller_before-next.result (c.caller_before-next.ensures c.args.number C))

pub loop-next-preserved : goal.loop-next-preserved
loop-next-preserved c =
    let I = c.loop-next.invariant in
    let L = c.caller_before-next.ensures c.args.number (I.calls c.in-Some.entry c.in-Some.is) in
    record {
      calls = λ e x. (L.calls e x).1;
      left = λ before k e F l C g.
          let w = I.left before k e F l C g in
          let q : w.0 ≡ c.in-Some.entry = same w.0 c.in-Some.entry (sym w.1.0 ∙ c.in-Some.is) in
          passes-one c.args.patterns.now.patterns c.args.number c.in-Some.entry c.caller_before-next.result L e
          (λ z. c.in_default-first.ensures.none k (g ∙ ap (λ (x : ℕ). Some x) z)) (let m = w.1.1 in omega arith) C;
    }
  where
    same : (a b : ℕ) → Some a ≡ Some b → a ≡ b
    same a b e = cc

pub returns-clause-none : goal.returns-clause-none
returns-clause-none c = λ before k e F l C g.
    let w = c.loop-next.invariant.left before k e F l C g in
    let z : None ≡ Some w.0 = sym c.in_default.is ∙ w.1.0 in
    cc
