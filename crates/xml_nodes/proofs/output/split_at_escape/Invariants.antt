use Rattle.std.proofs.Common.{◌≡◌, take}
use Rattle.std.specs.List.{flat_map}
use Rattle.xml_nodes.specs.Escapes.{escaped}
use Rattle.xml_nodes.proofs.output.split_at_escape.Given as goal

abbrev pub invariant-loop-place : goal.invariant-loop-place
invariant-loop-place l = flat_map (escaped l.quoted) (take l.place l.bytes) ≡ take l.place l.bytes
