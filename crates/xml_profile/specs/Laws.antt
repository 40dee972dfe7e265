-- What holds of every reader of a document.
use Rattle.std.specs.Prelude.{◌≡◌, ℕ, List, [], ◌++◌}
use Rattle.plain_tree.specs.Tree.{Tree}
use Rattle.xml_nodes.specs.Machine.{Event, events}
use Rattle.xml_nodes.specs.Spelling.{Spells}
use Rattle.xml_profile.specs.Reading.{Stands}
use Rattle.xml_profile.specs.declared.reader.Reader.{Reader}

-- readers that were fed the same bytes have made the same calls
abbrev pub CallsAreOne : Type 0
CallsAreOne = (r s : Reader) (calls others : List Event) (fed : List ℕ) → Stands r calls fed → Stands s others fed → calls ≡ others

-- the calls so far begin those of each document that begins with the bytes fed
abbrev pub CallsBegin : Type 0
CallsBegin =
    (r : Reader) (calls : List Event) (fed next : List ℕ) (t : Tree) → Stands r calls fed → Spells (fed ++ next) t → (rest : List Event) × (events t [] ≡ calls ++ rest)
