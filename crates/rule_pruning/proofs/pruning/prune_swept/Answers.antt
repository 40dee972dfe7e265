use Rattle.std.proofs.Common.{◌+◌, ◌<◌, ℕ, List, length, arith}
use Rattle.slt_grammar.specs.Keyed.{KeyedRule}
use Rattle.slt_grammar.proofs.KeyedLemmas.{length-rules_of}
use Rattle.digram_index.proofs.Marks.{keeps-still, keeps-then}
use Rattle.digram_index.proofs.Numbered.{fewer-same}
use Rattle.rule_pruning.proofs.Taken.{IsTaken}
use Rattle.rule_pruning.proofs.Turns.{pruning-begins, pruning-stays, pruning-takes}
use Rattle.rule_pruning.proofs.pruning.prune_swept.Goals as goal
use Rattle.rule_pruning.proofs.pruning.prune_swept.Goals.{then-saves, else-saves+in_ok-take_away}

pub loop-init : goal.loop-init
loop-init c = record {
  pruning = pruning-begins c.args.grammar.now.rules (omega (arith, c.rules-last.ensures.grammar.some, length-rules_of c.args.grammar.now.rules)) c.requires.swept;
  index = c.requires.index;
  marks = keeps-still c.args.grammar.now.rules c.args.index.now c.args.index.now (fewer-same c.args.index.now);
}

pub loop-preserved : goal.loop-preserved
loop-preserved c =
    let F : List KeyedRule = c.args.grammar.now.rules in
    let G : List KeyedRule = c.loop.grammar.rules in
    let turn : ℕ = c.loop.counter in
    let rule : ℕ = c.loop.rule in
    let I = c.loop.invariant in
    let more : turn + 1 < length F = omega (arith, c.loop-test.true, c.rules-last.ensures.value) in
    elim c.if-saves.branch [
      | then-saves w ↦ rw (w.grammar-is, w.index-is, w.rule-is) (record { pruning = pruning-stays F G rule turn I.pruning more w.if-saves.ensures; index = I.index; marks = I.marks })
      | else-saves+in_ok-take_away w ↦
          let E = w.in_ok-take_away.ensures in
          let T : IsTaken G w.take_away.new.grammar.rules rule = record { rules = E.rules; swept = E.swept; save = E.save; size = E.size; ranks = E.ranks } in
          rw (w.grammar-is, w.index-is, w.rule-is) (record { pruning = pruning-takes F G rule turn I.pruning more w.take_away.new.grammar.rules T w.if-saves.ensures E.value; index = E.index; marks = keeps-then F G w.take_away.new.grammar.rules c.args.index.now c.loop.index w.take_away.new.index I.marks E.marks })
    ]

pub returns-in_err-take_away-clause-marks : goal.returns-in_err-take_away-clause-marks
returns-in_err-take_away-clause-marks c =
    keeps-then c.args.grammar.now.rules c.loop.grammar.rules c.take_away.new.grammar.rules c.args.index.now c.loop.index c.take_away.new.index c.loop.invariant.marks c.in_err-take_away.ensures.marks
