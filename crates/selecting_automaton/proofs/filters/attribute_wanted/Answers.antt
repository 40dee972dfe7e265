use Rattle.std.proofs.Common.{◌+◌, ◌*◌, ap, ◌∙◌}
use Rattle.xpath_parser.specs.declared.query.Axis.TheVariants.{Attribute}
use Rattle.text_list.specs.Marking.{mark_of}
use Rattle.selecting_automaton.proofs.PlacesFound.{exactly-found, exactly-absent}
use Rattle.selecting_automaton.proofs.filters.attribute_wanted.Goals as goal

pub returns-in_default : goal.returns-in_default
returns-in_default c =
    exactly-absent c.args.names.now (mark_of c.args.literals.now) Attribute c.args.name.now c.args.value.now c.mark_of-mark.result c.mark_of-mark.ensures c.if-mark-eq0.false c.in_default.ensures.none

pub returns-in-Some-with_mark : goal.returns-in-Some-with_mark
returns-in-Some-with_mark c =
    exactly-found c.args.names.now (mark_of c.args.literals.now) Attribute c.args.name.now c.args.value.now c.in-Some.place c.mark_of-mark.result c.in-Some-with_mark.symbol
    c.mark_of-mark.ensures c.if-mark-eq0.false c.in-Some.ensures.some c.in-Some.ensures.distinct (c.in-Some-with_mark.ensures ∙ ap (λ n. c.in-Some.place + n * c.mark_of-mark.result) c.len.ensures.value)
