-- The form that was read.
use Rattle.store_core.specs.Acts.{AsksFewRecords}
use Rattle.store_core.specs.CommandOf.{act_of}
use Rattle.store_shell.specs.Forms.{Form, Empty, Long, Bad, Quit, Command}
use Rattle.store_shell.specs.declared.parse.Parsed.{Parsed}
use Rattle.store_shell.specs.declared.parse.Parsed.TheVariants as read

abbrev pub form_of : Parsed → Form
form_of read.Empty = Empty
form_of read.Long = Long
form_of read.Bad = Bad
form_of read.Quit = Quit
form_of (read.Command command) = Command (act_of command)

-- a command asks for no more records than there may be
abbrev pub HasFewRecords : Form → Type 0
HasFewRecords (Command act) = AsksFewRecords act
HasFewRecords form = Unit {0}
