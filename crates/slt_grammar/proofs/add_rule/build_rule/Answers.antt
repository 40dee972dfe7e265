use Rattle.std.proofs.Common.{arith}
use Rattle.std.proofs.lemmas.List.{length-take-le}
use Rattle.slt_grammar.proofs.NewParams.{laid-over, holes-few}
use Rattle.slt_grammar.proofs.add_rule.build_rule.Goals as goal

pub add_params-requires-clause-room : goal.add_params-requires-clause-room
add_params-requires-clause-room c = omega (arith, c.requires.room, c.requires.linear, holes-few c.args.shapes.now)

pub returns-clause-laid : goal.returns-clause-laid
returns-clause-laid c =
    laid-over _ _ _ _ _ _ _ _ c.add_params.ensures.params c.build_over.ensures.built
    (omega (arith, c.requires.linear, length-take-le c.args.rank c.add_params.new.keys (omega (arith, c.add_params.ensures.len, c.requires.few))))
