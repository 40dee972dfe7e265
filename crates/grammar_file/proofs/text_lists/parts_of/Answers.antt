use Rattle.std.proofs.Common.{sym, ap, ◌∙◌}
use Rattle.grammar_file.specs.TextLists.{segment_parts}
use Rattle.grammar_file.proofs.PartLemmas.{parts-there, parts-past, segment-there, segment-past}
use Rattle.grammar_file.proofs.text_lists.parts_of.Goals as goal

pub returns-in-Some-get : goal.returns-in-Some-get
returns-in-Some-get c =
    let outer = parts-there c.args.lists.now c.args.rule c.args.segment c.in-Some.segments.now c.in-Some.ensures.lookup.3.0 c.in-Some.ensures.lookup.1 in
    let inner = segment-there c.as_slice.result.now c.args.segment c.in-Some-get.parts.now c.in-Some-get.ensures.lookup.3.0 c.in-Some-get.ensures.lookup.1 in
    c.as_slice-in-Some-get.ensures.value ∙ sym inner ∙ ap (λ Ls. segment_parts Ls c.args.segment) c.as_slice.ensures.value ∙ sym outer

pub returns-in-None-get : goal.returns-in-None-get
returns-in-None-get c =
    let outer = parts-there c.args.lists.now c.args.rule c.args.segment c.in-Some.segments.now c.in-Some.ensures.lookup.3.0 c.in-Some.ensures.lookup.1 in
    let inner = segment-past c.as_slice.result.now c.args.segment c.in-None-get.ensures.lookup.3 in
    sym inner ∙ ap (λ Ls. segment_parts Ls c.args.segment) c.as_slice.ensures.value ∙ sym outer

pub returns-in-None : goal.returns-in-None
returns-in-None c = sym (parts-past c.args.lists.now c.args.rule c.args.segment c.in-None.ensures.lookup.3)
