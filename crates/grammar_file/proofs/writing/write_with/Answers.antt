use Rattle.std.proofs.Common.{rules, arith}
use Rattle.tree_outside.specs.Outside.{Gets}
use Rattle.grammar_file.specs.BufferOf.{seen}
use Rattle.grammar_file.specs.FileBytes.{listed_file_bytes}
use Rattle.slt_grammar.specs.Keyed.{rules_of}
use Rattle.grammar_file.proofs.Putting.{adds_all}
use Rattle.grammar_file.proofs.writing.write_with.Goals as goal

pub returns-clause-written : goal.returns-clause-written
returns-clause-written g c =
    let bytes = listed_file_bytes c.args.names.now (rules_of c.args.grammar.now.rules) c.args.dictionary.now in
    let all : Gets (g.K.Sink.got c.args.sink.now) (g.K.Sink.got c.write_file.new.out.sink.now) bytes = rw c.new-out.ensures.same_sink at (adds_all (seen g.K.Sink c.new-out.result) (seen g.K.Sink c.write_file.new.out) bytes c.in_ok-write_file.ensures.puts.content c.new-out.ensures.held c.in_ok-write_file.ensures.empty) in search rules

pub returns-clause-count : goal.returns-clause-count
returns-clause-count g c = omega (arith, c.in_ok-write_file.ensures.puts.count, c.in_ok-write_file.ensures.small, c.count.ensures, c.new-out.ensures.count)
