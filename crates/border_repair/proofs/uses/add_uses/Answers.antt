use Rattle.std.proofs.Common.{◌<◌, ◌*◌, ◌+◌, ◌-◌, ◌^◌, length, min, ap, sym, ◌∙◌, arith, get_or, ◌∷◌, length-set}
use Rattle.slt_grammar.specs.Bodies.{calls_in}
use Rattle.border_repair.proofs.UseSteps.{set-fits, uses-called, uses-end}
use Rattle.border_repair.proofs.uses.add_uses.Goals as goal

pub labels-preserved-then-called-uses : goal.labels-preserved-then-called-uses
labels-preserved-then-called-uses g c =
    let us = c.labels.uses in
    let walk = c.in-Some.ensures.label ∙ ap (λ k. k ∷ c.next.new.self) c.in-Call.is in
    record {
      used = λ q l.
          let m : q < length us = simp length-set at l in
          c.labels.invariant.used q m ∙ ap (λ ls. min (get_or us q 0 + c.args.times * calls_in q ls) (2 ^ 64 - 1)) walk
          ∙ uses-called (2 ^ 64 - 1) c.args.times c.in-Call.called q us c.next.new.self c.saturating_add.result c.if-called-uses.true c.saturating_add.ensures;
      fits = λ q. set-fits (2 ^ 64) us c.in-Call.called q c.saturating_add.result c.labels.invariant.fits c.saturating_add.type_inv;
    }

pub returns : goal.returns
returns g c q l =
    let m : q < length c.labels.uses = omega (arith, c.labels.auto.uses) in
    let fits : get_or c.labels.uses q 0 < 2 ^ 64 = c.labels.invariant.fits q in
    sym (c.labels.invariant.used q m ∙ ap (λ ls. min (get_or c.labels.uses q 0 + c.args.times * calls_in q ls) (2 ^ 64 - 1)) c.in_default.ensures.label.0 ∙ uses-end (2 ^ 64 - 1) c.args.times q c.labels.uses (omega arith))
