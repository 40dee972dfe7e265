use Rattle.std.proofs.Common.{◌≡◌}
use Rattle.content_models.specs.declared.error.SchemaError.TheVariants as schema
use Rattle.content_models.proofs.ReadLines.{error-bad, refused-line, refused-name, takes-none, takes-some}
use Rattle.content_models.proofs.reading.Reader.take_first.Goals as goal

pub returns-in-Ok-clause-taken : goal.returns-in-Ok-clause-taken
returns-in-Ok-clause-taken c =
    takes-some c.args.lines.now c.skip_to-after.result.now c.args.self.now c.take.new.self _ c.in-Ok-Some.field-0 c.in-Ok-Some.line c.in-Ok-Some.field-0-is c.skip_to-after.ensures.left c.behind_feed.ensures.found c.in-Ok-Some.ensures.given c.in-Ok.ensures.held c.in-Ok.ensures.new

pub returns-in-Err-take-clause-bad : goal.returns-in-Err-take-clause-bad
returns-in-Err-take-clause-bad c = λ e.
    refused-name c.args.lines.now c.skip_to-after.result.now c.args.self.now c.in-Ok-Some.field-0 c.in-Ok-Some.line c.in-Ok-Some.field-0-is c.skip_to-after.ensures.left c.in-Ok-Some.ensures.given (c.in-Err-take.ensures.bad cc)

pub returns-in-Ok-None-clause-taken : goal.returns-in-Ok-None-clause-taken
returns-in-Ok-None-clause-taken c =
    takes-none c.args.lines.now c.skip_to-after.result.now c.args.self.now _ c.in-Ok-None.field-0 c.in-Ok-None.field-0-is c.skip_to-after.ensures.left c.behind_feed-in-Ok-None.ensures.found c.in-Ok-None.ensures.given

pub returns-in-Err-clause-bad : goal.returns-in-Err-clause-bad
returns-in-Err-clause-bad c = λ e.
    let bad : c.from.result ≡ schema.Bad = cc in
    let same = error-bad c.in-Err.error c.from.result c.from.ensures bad in
    refused-line c.args.lines.now c.skip_to-after.result.now c.args.self.now c.skip_to-after.ensures.left (c.in-Err.ensures.bad cc)
