use Rattle.std.proofs.Common.{sym, subst, ◌∙◌}
use Rattle.indexmap.specs.IndexMap.{keys}
use Rattle.fcns_encoding.specs.Pairs.{AreFound}
use Rattle.fcns_encoding.proofs.PairShapes.{shares}
use Rattle.fcns_encoding.proofs.RankLemmas.{ranks-with_pairs}
use Rattle.fcns_encoding.proofs.pair_rules.share_pairs.Goals as goal

pub returns : goal.returns
returns c =
    let before = c.in-Some.before.now in
    let start = c.in-Some.start.now in
    let pairs = keys c.in_ok-pairs.pairs in
    let found : AreFound before start.body pairs = subst (λ ls. AreFound before ls pairs) c.as_slice-2.ensures c.in_ok-pairs.ensures.found in
    let all = shares c.args.rules before c.in_ok-shared.shared start pairs (sym c.as_slice.ensures ∙ c.in-Some.ensures.cases.0) c.requires.grammar c.requires.swept found c.in_ok-pairs.ensures.apart c.in_ok-shared.ensures in
    record { value = all.value; grammar = all.grammar; swept = all.swept; ranks = ranks-with_pairs pairs before c.in_ok-shared.shared c.args.rules start (sym c.as_slice.ensures ∙ c.in-Some.ensures.cases.0) c.in_ok-shared.ensures }
