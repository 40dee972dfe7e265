use Rattle.xml_tokens.specs.Seen.{seen_part}
use Rattle.content_models.proofs.ReadLines.{Lines, left}
use Rattle.content_models.proofs.reading.read_schema.Given as goal

abbrev pub invariant-loop-rest : goal.invariant-loop-rest
invariant-loop-rest l = Lines l.bytes (seen_part l.rest) l.reader

abbrev pub decreases-loop-rest : goal.decreases-loop-rest
decreases-loop-rest l = left (seen_part l.rest)
