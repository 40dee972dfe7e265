use Rattle.std.proofs.Common.{◌∙◌, arith}
use Rattle.slt_grammar.specs.Grammars.{value}
use Rattle.slt_grammar.specs.Keyed.{rules_of}
use Rattle.segment_counts.proofs.Coded.{weight-coded}
use Rattle.record_generator.specs.Records.{generated}
use Rattle.record_generator.proofs.Lawful.{documents}
use Rattle.store_core.proofs.generating.generate_document.Goals as goal

pub store_of-requires-clause-fold : goal.store_of-requires-clause-fold
store_of-requires-clause-fold c =
    let small = (documents c.args.records c.requires.few).1 in
    (generated c.args.records, (c.in_ok-folded.ensures, omega (arith, small, c.requires.few)))

pub returns-clause-encoded : goal.returns-clause-encoded
returns-clause-encoded c = c.in_ok-store.ensures.encoded (generated c.args.records) c.in_ok-folded.ensures

pub returns-clause-count : goal.returns-clause-count
returns-clause-count c =
    let t = generated c.args.records in
    let s = c.in_ok-store.store in
    let rules = rules_of s.grammar.rules in
    c.total-count.ensures.nodes s.names rules c.in_ok-store.ensures.counted.counts c.in_ok-store.ensures.grammar
    ∙ weight-coded s.names t (value rules) (c.in_ok-store.ensures.encoded t c.in_ok-folded.ensures).stand.code

pub returns-clause-held : goal.returns-clause-held
returns-clause-held c =
    let encoded = c.in_ok-store.ensures.encoded (generated c.args.records) c.in_ok-folded.ensures in
    let small = (documents c.args.records c.requires.few).1 in
    record {
      tree = generated c.args.records;
      stand = encoded.stand;
      small = omega (arith, small, c.requires.few);
      grammar = c.in_ok-store.ensures.grammar;
      swept = encoded.settled.swept;
    }
