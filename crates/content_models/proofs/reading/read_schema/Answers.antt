use Rattle.std.proofs.Common.{ap, subst}
use Rattle.xml_tokens.specs.Seen.{seen_part}
use Rattle.content_models.proofs.ReadLines.{Lines, lines-on, lines-answer, lines-large}
use Rattle.content_models.proofs.reading.read_schema.Goals as goal

pub loop-rest-preserved : goal.loop-rest-preserved
loop-rest-preserved c = lines-on c.args.bytes.now c.in-Some.lines.now (seen_part c.in-Ok.next) c.loop-rest.reader c.take_first.new.self c.in-Ok.ensures.taken (subst (λ x. Lines c.args.bytes.now (seen_part x) c.loop-rest.reader) c.in-Some.is c.loop-rest.invariant)

pub returns-clause-spelled : goal.returns-clause-spelled
returns-clause-spelled c = lines-answer c.args.bytes.now (seen_part c.loop-rest.rest) c.loop-rest.reader c.finish.result (ap seen_part c.in_default.is) c.loop-rest.invariant c.finish.ensures.kept

pub returns-clause-large : goal.returns-clause-large
returns-clause-large c = λ e.
    let parts = lines-large c.args.bytes.now (seen_part c.loop-rest.rest) c.loop-rest.reader (ap seen_part c.in_default.is) c.loop-rest.invariant (c.finish.ensures.large e) in
    ((parts.0.0, parts.0.1), parts.1)
