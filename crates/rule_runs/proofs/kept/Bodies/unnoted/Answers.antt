use Rattle.std.proofs.Common.{◌≡◌, ◌∙◌, None, ap, arith, replicate}
use Rattle.rule_runs.specs.Notes.{kept_of}
use Rattle.rule_runs.proofs.KeptNotes.{kept-none}
use Rattle.rule_runs.proofs.kept.Bodies.unnoted.Goals as goal

pub returns : goal.returns
returns g c =
    let end : c.pairs._i ≡ c.args.pairs = omega (arith, c.pairs-test.false, c.pairs.auto._i-end) in
    ap (kept_of c.new.result) (c.pairs.invariant ∙ ap (λ n. replicate n None) end) ∙ kept-none c.new.result c.args.pairs
