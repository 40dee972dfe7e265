use Rattle.std.proofs.Common.{◌≡◌, length}
use Rattle.std.specs.Prelude.{None}
use Rattle.xml_tokens.specs.Seen.{byte_given}
use Rattle.xml_tokens.specs.TokenAt.{put, value_in}
use Rattle.xml_tokens.proofs.values.made_of.Given as goal

abbrev pub invariant-loop-value : goal.invariant-loop-value
invariant-loop-value l = put l.value.items (value_in (byte_given l.spaces) None l.rest) ≡ value_in (byte_given l.spaces) None l.inner

abbrev pub decreases-loop-value : goal.decreases-loop-value
decreases-loop-value l = length l.rest
