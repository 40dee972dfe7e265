use Rattle.std.proofs.Common.{◌-◌, arith}
use Rattle.slt_grammar.specs.Keyed.{rules_of}
use Rattle.bulk_rewrite.specs.Joining.{joining_run, texts_in}
use Rattle.bulk_rewrite.proofs.FewReads.{falls-both, runs-known, runs-none}
use Rattle.bulk_rewrite.proofs.deleting_all.take_out.Goals as goal

pub returns-in_err-left-clause-reads : goal.returns-in_err-left-clause-reads
returns-in_err-left-clause-reads g c =
    let A = g.A.Rising.algebra c.args.automaton.now in
    let W = joining_run (g.A.Falling.downward c.args.automaton.now) (texts_in c.args.kinds.now) in
    let G = rules_of c.args.grammar.now.rules in
    falls-both A W G 1 1 0 (c.left_texts.new.steps - c.args.steps.now) (c.left_texts.new.steps - c.args.steps.now) (runs-none A G 1 0 (omega arith)) c.left_texts.ensures.reads (omega arith)

pub returns-in_err-rules-clause-reads : goal.returns-in_err-rules-clause-reads
returns-in_err-rules-clause-reads g c =
    let A = g.A.Rising.algebra c.args.automaton.now in
    let W = joining_run (g.A.Falling.downward c.args.automaton.now) (texts_in c.args.kinds.now) in
    let G = rules_of c.args.grammar.now.rules in
    let made = runs-known A G c.args.risen.now.known 1 (c.rewrite.new.steps - c.left_texts.new.steps) c.requires.run.run (omega (arith, c.rewrite.ensures.reads)) in
    falls-both A W G 1 1 (c.rewrite.new.steps - c.left_texts.new.steps) (c.left_texts.new.steps - c.args.steps.now) (c.rewrite.new.steps - c.args.steps.now) made c.left_texts.ensures.reads
    (omega (arith, c.left_texts.ensures.counted, c.rewrite.ensures.counted))

pub returns-clause-reads : goal.returns-clause-reads
returns-clause-reads g c =
    let A = g.A.Rising.algebra c.args.automaton.now in
    let W = joining_run (g.A.Falling.downward c.args.automaton.now) (texts_in c.args.kinds.now) in
    let G = rules_of c.args.grammar.now.rules in
    let made = runs-known A G c.args.risen.now.known 1 (c.rewrite.new.steps - c.left_texts.new.steps) c.requires.run.run (omega (arith, c.rewrite.ensures.reads)) in
    falls-both A W G 1 1 (c.rewrite.new.steps - c.left_texts.new.steps) (c.left_texts.new.steps - c.args.steps.now) (c.rewrite.new.steps - c.args.steps.now) made c.left_texts.ensures.reads
    (omega (arith, c.left_texts.ensures.counted, c.rewrite.ensures.counted))
