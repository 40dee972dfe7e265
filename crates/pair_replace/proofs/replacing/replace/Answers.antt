use Rattle.std.proofs.Common.{length, arith}
use Rattle.slt_grammar.specs.Keyed.{rules_of}
use Rattle.slt_grammar.proofs.RankBounds.{rank-added, rank-same}
use Rattle.digram_index.proofs.PlainDigrams.{two-apart, three-apart}
use Rattle.pair_replace.proofs.DisjointLemmas.{all-apart, occurs-there, rule-stays}
use Rattle.pair_replace.proofs.Ends.{all-called, last-linked}
use Rattle.pair_replace.proofs.KeptMarks.{keeps-both}
use Rattle.pair_replace.proofs.replacing.replace.Goals as goal

pub fold_all-count-requires-clause-two : goal.fold_all-count-requires-clause-two
fold_all-count-requires-clause-two c = c.in_ok-new.ensures.apart 2 (two-apart c.args.grammar.now c.limit-limit.ensures.keyed c.args.digram c.requires.two)

pub returns-in_err-count-clause-index : goal.returns-in_err-count-clause-index
returns-in_err-count-clause-index c =
    let f = c.fold_all-count.ensures in
    let l = c.link_node.ensures in
    last-linked c.fold_all-count.new.grammar c.fold_all-count.new.index c.link_node.new.index c.in_ok-new.new.lower f.index l.part l.right l.others

pub returns-in_err-count-clause-swept : goal.returns-in_err-count-clause-swept
returns-in_err-count-clause-swept c =
    let n = c.in_ok-new.ensures in
    let f = c.fold_all-count.ensures in
    all-called c.args.grammar.now.rules c.add_new_rule.new.grammar.rules c.fold_all-count.new.grammar c.limit-folded.ensures.keyed c.args.digram c.in_ok-new.new.place c.in_ok-new.new.lower f.new n.rules f.rules n.place n.calls f.calls f.called

pub returns-clause-index : goal.returns-clause-index
returns-clause-index c =
    let f = c.fold_all-count.ensures in
    let l = c.link_node.ensures in
    last-linked c.fold_all-count.new.grammar c.fold_all-count.new.index c.link_node.new.index c.in_ok-new.new.lower f.index l.part l.right l.others

pub returns-clause-swept : goal.returns-clause-swept
returns-clause-swept c =
    let n = c.in_ok-new.ensures in
    let f = c.fold_all-count.ensures in
    all-called c.args.grammar.now.rules c.add_new_rule.new.grammar.rules c.fold_all-count.new.grammar c.limit-folded.ensures.keyed c.args.digram c.in_ok-new.new.place c.in_ok-new.new.lower f.new n.rules f.rules n.place n.calls f.calls f.called

pub returns-clause-count : goal.returns-clause-count
returns-clause-count c =
    let t = c.in_ok-new.ensures.apart 2 (two-apart c.args.grammar.now c.limit-limit.ensures.keyed c.args.digram c.requires.two) in
    let m = t.1.1 in
    let n = c.in_ok-count.ensures.count t.0 t.1.0 in
    omega (arith, m, n)

pub returns-clause-three : goal.returns-clause-three
returns-clause-three c = λ three.
    let t = c.in_ok-new.ensures.apart 3 (three-apart c.args.grammar.now c.limit-limit.ensures.keyed c.args.digram three) in
    let m = t.1.1 in
    let n = c.in_ok-count.ensures.count t.0 t.1.0 in
    omega (arith, m, n)

pub returns-clause-body : goal.returns-clause-body
returns-clause-body c =
    let n = c.in_ok-new.ensures in
    let f = c.fold_all-count.ensures in
    rule-stays (rules_of c.args.grammar.now.rules) c.add_new_rule.new.grammar.rules c.fold_all-count.new.grammar.rules c.args.digram c.in_ok-new.new.place c.in_ok-new.new.lower c.in_ok-new.new.lower n.new f.new f.ranks n.made

pub returns-clause-only : goal.returns-clause-only
returns-clause-only c =
    let f = c.fold_all-count.ensures in
    occurs-there c.fold_all-count.new.grammar c.limit-folded.ensures.keyed c.args.digram c.in_ok-new.new.place c.in_ok-new.new.lower f.new c.fold_all-count.new.index f.index c.in_ok-count.ensures.none

pub returns-clause-most : goal.returns-clause-most
returns-clause-most c = λ os D.
    let t = c.in_ok-new.ensures.apart (length os) (all-apart c.args.grammar.now c.limit-limit.ensures.keyed c.args.digram os D) in
    let m = t.1.1 in
    let n = c.in_ok-count.ensures.count t.0 t.1.0 in
    omega (arith, m, n)

pub returns-clause-ranks : goal.returns-clause-ranks
returns-clause-ranks c =
    let old = rules_of c.args.grammar.now.rules in
    let made = rules_of c.add_new_rule.new.grammar.rules in
    omega (
      arith,
      rank-added old made c.in_ok-new.new.place _ c.in_ok-new.ensures.made.ranks,
      rank-same made (rules_of c.fold_all-count.new.grammar.rules) c.fold_all-count.ensures.ranks,
    )

pub returns-in_err-count-clause-ranks : goal.returns-in_err-count-clause-ranks
returns-in_err-count-clause-ranks c =
    let old = rules_of c.args.grammar.now.rules in
    let made = rules_of c.add_new_rule.new.grammar.rules in
    omega (
      arith,
      rank-added old made c.in_ok-new.new.place _ c.in_ok-new.ensures.made.ranks,
      rank-same made (rules_of c.fold_all-count.new.grammar.rules) c.fold_all-count.ensures.ranks,
    )

pub returns-in_err-count-clause-marks : goal.returns-in_err-count-clause-marks
returns-in_err-count-clause-marks c =
    keeps-both c.args.grammar.now.rules c.add_new_rule.new.grammar.rules c.fold_all-count.new.grammar.rules c.args.index.now c.add_new_rule.new.index c.fold_all-count.new.index c.link_node.new.index
    c.add_new_rule.ensures.marks c.fold_all-count.ensures.marks c.link_node.ensures.marks

pub returns-clause-marks : goal.returns-clause-marks
returns-clause-marks c =
    keeps-both c.args.grammar.now.rules c.add_new_rule.new.grammar.rules c.fold_all-count.new.grammar.rules c.args.index.now c.add_new_rule.new.index c.fold_all-count.new.index c.link_node.new.index
    c.add_new_rule.ensures.marks c.fold_all-count.ensures.marks c.link_node.ensures.marks
