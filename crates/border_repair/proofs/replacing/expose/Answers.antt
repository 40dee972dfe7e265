use Rattle.std.proofs.Common.{◌++◌, ◌∷◌, [], List, ap, sym, subst, ◌∙◌, arith}
use Rattle.slt_grammar.specs.declared.rules.Rule.{Rule}
use Rattle.border_repair.specs.Cuts.{AreCalm}
use Rattle.border_repair.proofs.ExposeSteps.{first-calm}
use Rattle.slt_grammar.specs.Ranks.{greatest_rank}
use Rattle.border_repair.proofs.PartRanks.{rank-some, ranks-push}
use Rattle.border_repair.proofs.replacing.expose.Goals as goal

pub add_exposed-requires-clause-calm : goal.add_exposed-requires-clause-calm
add_exposed-requires-clause-calm c =
    let R : Rule = record { rank = c.pair_rank.result; body = c.in_ok-body.body } in
    subst (AreCalm c.args.digram) (sym (c.in_ok-push.ensures.ok ∙ ap (λ (G : List Rule). G ++ R ∷ []) c.new-rules.ensures)) (first-calm c.args.digram R c.requires.upper c.in_ok-body.ensures)

pub returns-clause-ranks : goal.returns-clause-ranks
returns-clause-ranks c =
    let R : Rule = record { rank = c.pair_rank.result; body = c.in_ok-body.body } in
    omega (arith, c.in_ok-add_exposed.ensures.ranks, ap greatest_rank c.in_ok-push.ensures.ok, ranks-push c.new-rules.result R, ap greatest_rank c.new-rules.ensures, c.pair_rank.ensures, rank-some c.args.digram c.requires.upper)
