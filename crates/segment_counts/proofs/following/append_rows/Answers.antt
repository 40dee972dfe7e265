use Rattle.std.proofs.Common.{◌<◌, ◌∙◌, arith, ap, get_or, length}
use Rattle.slt_grammar.specs.Keyed.{rules_of}
use Rattle.segment_counts.specs.Counting.{no_row}
use Rattle.segment_counts.proofs.Followed.{behind-more, first-kept}
use Rattle.segment_counts.proofs.Rows.{length-row}
use Rattle.segment_counts.proofs.following.append_rows.Goals as goal

pub loop-rule-preserved : goal.loop-rule-preserved
loop-rule-preserved g c =
    let i = c.loop-rule.invariant in
    let C = c.loop-rule.counts in
    let D = c.append_row.new.counts in
    let R = get_or D.rows C.rules no_row in
    let b = length c.args.before.now in
    let free : C.rules < length C.rows = omega (arith, i.rules, i.room, c.requires.room, c.loop-rule-test.true, c.saturating_sub-rule-end.ensures, c.requires.numbered) in
    let rows = c.append_row.ensures.rows in
    record {
      counts = behind-more c.args.names.now (rules_of c.args.grammar.now.rules) b c.loop-rule.rule C D R i.rules free rows i.counts c.append_row.ensures.row;
      first = λ q h. first-kept c.args.names.now (rules_of c.args.grammar.now.rules) b c.loop-rule.rule C D R i.rules free rows q h ∙ i.first q h;
      rules = omega (arith, c.append_row.ensures.rules, i.rules);
      room = ap length rows ∙ length-row C.rows C.rules R ∙ i.room;
    }
