use Rattle.std.proofs.Common.{◌-◌, arith}
use Rattle.slt_grammar.specs.Grammars.{value}
use Rattle.slt_grammar.specs.Keyed.{rules_of}
use Rattle.bulk_rewrite.specs.Joining.{joining_run, texts_in, valued_in}
use Rattle.bulk_rewrite.specs.Tags.{tagging}
use Rattle.bulk_rewrite.proofs.FewReads.{falls-made, falls-not, falls-one, runs-known}
use Rattle.bulk_rewrite.proofs.Tags.{as-many, some-told}
use Rattle.bulk_rewrite.proofs.value_fates.value_fates.Goals as goal

pub fall-requires-clause-small : goal.fall-requires-clause-small
fall-requires-clause-small g c =
    let A = g.A.Rising.algebra c.args.automaton.now in
    let W = g.A.Falling.downward c.args.automaton.now in
    let kinds = c.args.kinds.now in
    let small = c.requires.small in
    rw (as-many A W (valued_in kinds) (texts_in kinds) (value (rules_of c.args.grammar.now.rules)) (value (rules_of c.in_ok-tagged.tagged.rules)) c.in_ok-tagged.ensures.value) small

pub returns-clause-told : goal.returns-clause-told
returns-clause-told g c =
    let A = g.A.Rising.algebra c.args.automaton.now in
    let W = g.A.Falling.downward c.args.automaton.now in
    let kinds = c.args.kinds.now in
    some-told A W (valued_in kinds) (texts_in kinds) (value (rules_of c.args.grammar.now.rules)) (value (rules_of c.in_ok-tagged.tagged.rules)) c.in_ok-tagged.ensures.value c.in_ok-fallen.fallen.hits c.in_ok-fallen.ensures.hits c.in_ok-fallen.ensures.symbols

pub returns-in_err-tagged-clause-reads : goal.returns-in_err-tagged-clause-reads
returns-in_err-tagged-clause-reads g c =
    let A = g.A.Rising.algebra c.args.automaton.now in
    let W = joining_run (g.A.Falling.downward c.args.automaton.now) (texts_in c.args.kinds.now) in
    let G = rules_of c.args.grammar.now.rules in
    falls-not A W G 1 _ (runs-known A G c.args.risen.now.known 1 (c.rewrite.new.steps - c.args.steps.now) c.requires.run.run (omega (arith, c.rewrite.ensures.reads)))

pub returns-in_err-states-clause-reads : goal.returns-in_err-states-clause-reads
returns-in_err-states-clause-reads g c =
    let A = g.A.Rising.algebra c.args.automaton.now in
    let W = joining_run (g.A.Falling.downward c.args.automaton.now) (texts_in c.args.kinds.now) in
    let G = rules_of c.args.grammar.now.rules in
    falls-not A W G 1 _ (runs-known A G c.args.risen.now.known 1 (c.rewrite.new.steps - c.args.steps.now) c.requires.run.run (omega (arith, c.rewrite.ensures.reads)))

pub returns-in_err-fallen-clause-reads : goal.returns-in_err-fallen-clause-reads
returns-in_err-fallen-clause-reads g c =
    let A = g.A.Rising.algebra c.args.automaton.now in
    let W = joining_run (g.A.Falling.downward c.args.automaton.now) (texts_in c.args.kinds.now) in
    let G = rules_of c.args.grammar.now.rules in
    let H = rules_of c.in_ok-tagged.tagged.rules in
    let once = c.in_ok-tagged.ensures.made in
    let made = runs-known A G c.args.risen.now.known 1 (c.rewrite.new.steps - c.args.steps.now) c.requires.run.run (omega (arith, c.rewrite.ensures.reads)) in
    let falls = falls-made A W G (tagging (valued_in c.args.kinds.now) (texts_in c.args.kinds.now)) H once (c.fall.new.steps - c.rewrite.new.steps) (omega (arith, c.fall.ensures.reads, c.in_ok-states.ensures.nodes)) in
    falls-one A W G once.triples 1 (c.rewrite.new.steps - c.args.steps.now) (c.fall.new.steps - c.rewrite.new.steps) (c.fall.new.steps - c.args.steps.now) made falls (omega (arith, c.rewrite.ensures.counted, c.fall.ensures.counted))

pub returns-clause-reads : goal.returns-clause-reads
returns-clause-reads g c =
    let A = g.A.Rising.algebra c.args.automaton.now in
    let W = joining_run (g.A.Falling.downward c.args.automaton.now) (texts_in c.args.kinds.now) in
    let G = rules_of c.args.grammar.now.rules in
    let H = rules_of c.in_ok-tagged.tagged.rules in
    let once = c.in_ok-tagged.ensures.made in
    let made = runs-known A G c.args.risen.now.known 1 (c.rewrite.new.steps - c.args.steps.now) c.requires.run.run (omega (arith, c.rewrite.ensures.reads)) in
    let falls = falls-made A W G (tagging (valued_in c.args.kinds.now) (texts_in c.args.kinds.now)) H once (c.fall.new.steps - c.rewrite.new.steps) (omega (arith, c.fall.ensures.reads, c.in_ok-states.ensures.nodes)) in
    falls-one A W G once.triples 1 (c.rewrite.new.steps - c.args.steps.now) (c.fall.new.steps - c.rewrite.new.steps) (c.fall.new.steps - c.args.steps.now) made falls (omega (arith, c.rewrite.ensures.counted, c.fall.ensures.counted))
