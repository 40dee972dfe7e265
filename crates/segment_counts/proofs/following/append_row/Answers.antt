use Rattle.std.proofs.Common.{◌≡◌, List, ap, sym, ◌∙◌, get_or, subst}
use Rattle.std.proofs.lemmas.List.{get_or-set_same}
use Rattle.slt_grammar.specs.Grammars.{value_at}
use Rattle.slt_grammar.specs.Keyed.{rules_of}
use Rattle.segment_counts.specs.Changes.{IsRowOf}
use Rattle.segment_counts.specs.Counting.{no_row}
use Rattle.segment_counts.specs.Tallies.{row_of}
use Rattle.segment_counts.specs.declared.counts.Weights.{Weights}
use Rattle.segment_counts.proofs.Rows.{few-row}
use Rattle.segment_counts.proofs.following.append_row.Goals as goal

pub returns-clause-row : goal.returns-clause-row
returns-clause-row g c =
    let C = c.args.counts.now in
    let value = value_at (rules_of c.args.grammar.now.rules) c.args.rule in
    let there : get_or c.push.new.self.rows C.rules no_row ≡ row_of c.in-Some-tally_rule.tallies =
    ap (λ (X : List (List Weights)). get_or X C.rules no_row) c.push.ensures.rows ∙ get_or-set_same C.rows C.rules c.row.result.now no_row c.requires.room ∙ c.row.ensures in
    subst (λ (R : List Weights). IsRowOf c.args.names.now value R) (sym there) (few-row c.args.names.now value (row_of c.in-Some-tally_rule.tallies) c.in-Some-tally_rule.ensures.row c.in-Some-tally_rule.ensures.few)
