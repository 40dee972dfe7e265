use Rattle.std.proofs.Common.{refl, arith}
use Rattle.digram_index.proofs.Marks.{keeps-still, keeps-then}
use Rattle.local_repair.proofs.Reuses.{no-larger-called, rank-called}
use Rattle.local_repair.proofs.reusing.reuse_at.Goals as goal

pub call_linked-requires-clause-begins : goal.call_linked-requires-clause-begins
call_linked-requires-clause-begins c =
    let F = c.in-Some-find_rule.ensures in
    let S = c.in-Some.ensures in
    rw c.in_ok-reserve.ensures.rules (F.begins S (omega (arith, F.before, c.if-not-stands_in_start.ensures refl S)))

pub returns-clause-kept : goal.returns-clause-kept
returns-clause-kept c =
    let F = c.in-Some-find_rule.ensures in
    let S = c.in-Some.ensures in
    let B = F.begins S (omega (arith, F.before, c.if-not-stands_in_start.ensures refl S)) in
    let rules = rw c.in_ok-reserve.ensures.rules at c.call_linked.ensures.rules in
    let values = rw c.in_ok-reserve.ensures.rules at c.call_linked.ensures.values in
    let size = rw c.in_ok-reserve.ensures.rules at c.call_linked.ensures.size in
    no-larger-called c.args.grammar.now c.call_linked.new.grammar c.limit-limit.ensures.keyed c.in-Some.upper c.in-Some-find_rule.found.rule c.in-Some-find_rule.found.arguments B c.call_linked.result (rules B) values size

pub returns-clause-ranks : goal.returns-clause-ranks
returns-clause-ranks c =
    let F = c.in-Some-find_rule.ensures in
    let S = c.in-Some.ensures in
    let B = F.begins S (omega (arith, F.before, c.if-not-stands_in_start.ensures refl S)) in
    let rules = rw c.in_ok-reserve.ensures.rules at c.call_linked.ensures.rules in
    rank-called c.args.grammar.now c.call_linked.new.grammar c.limit-limit.ensures.keyed c.in-Some.upper c.in-Some-find_rule.found.rule c.in-Some-find_rule.found.arguments B c.call_linked.result (rules B)

pub returns-clause-marks : goal.returns-clause-marks
returns-clause-marks c =
    let M = rw c.in_ok-reserve.ensures.rules at c.call_linked.ensures.marks in
    keeps-then c.args.grammar.now.rules c.args.grammar.now.rules c.call_linked.new.grammar.rules c.args.index.now c.reserve-2.new.self c.call_linked.new.index
    (keeps-still c.args.grammar.now.rules c.args.index.now c.reserve-2.new.self c.in_ok-reserve-2.ensures.marks) M
