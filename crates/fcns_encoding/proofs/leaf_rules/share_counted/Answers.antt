use Rattle.std.proofs.Common.{◌<◌, ◌^◌, subst}
use Rattle.fcns_encoding.proofs.LeafShapes.{calls-small, shares}
use Rattle.fcns_encoding.proofs.RankLemmas.{ranks-with_leaves}
use Rattle.fcns_encoding.proofs.leaf_rules.share_counted.Goals as goal

pub join_rules-requires : goal.join_rules-requires
join_rules-requires c = record { calls = calls-small c.args.rules.now c.requires.grammar (subst (λ n. n < 2 ^ 63) c.rule_count-few.ensures.value c.rule_count-few.ensures.few) }

pub returns : goal.returns
returns c =
    let all = shares c.args.rules.now c.args.counts.now c.leaf_rules.new.places c.in_ok-leaves.leaves c.in_ok-shared.shared c.requires.grammar c.requires.swept c.requires.seen c.in_ok-leaves.ensures c.in_ok-shared.ensures in
    record { value = all.value; grammar = all.grammar; swept = all.swept; ranks = ranks-with_leaves c.args.counts.now c.leaf_rules.new.places c.in_ok-leaves.leaves c.in_ok-shared.shared c.args.rules.now c.in_ok-leaves.ensures c.in_ok-shared.ensures }
