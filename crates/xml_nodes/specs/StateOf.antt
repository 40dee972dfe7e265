-- The state for which the machine stands.
use Rattle.std.specs.Prelude.{reverse}
use Rattle.xml_nodes.specs.Machine.{State}
use Rattle.xml_nodes.specs.declared.machine.Machine.{Machine}

-- the innermost name is the last of the code's list
abbrev pub state_of : Machine → State
state_of m = record { stage = m.stage; names = reverse m.names.items; text = m.text.items; brackets = m.brackets }
