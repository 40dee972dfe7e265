-- What is known while the open file is fed to a reader of XML.
use Rattle.std.specs.Prelude.{◌≡◌, ◌<◌, ◌^◌, ℕ, List, length, Option, IfSome, Some, None}
use Rattle.tree_outside.specs.Files.{Told}
use Rattle.plain_tree.specs.Tree.{Tree}
use Rattle.xml_nodes.specs.Machine.{Event}
use Rattle.xml_nodes.specs.Spelling.{Spells}
use Rattle.xml_nodes.specs.StateOf.{state_of}
use Rattle.xml_nodes.specs.Taking.{Built, IsReady}
use Rattle.xml_profile.specs.Reading.{IsFed, count_of}
use Rattle.xml_profile.specs.declared.reader.Reader.{Reader}

-- the reader was fed these bytes, and unless it failed the builder got their calls and may get more
pub record HasFed (reader : Reader) (built : Built) (bytes : List ℕ) : Type 0 where
  pub calls : List Event
  pub fed : IsFed reader calls bytes
  pub logged : reader.failed ≡ None → built.log ≡ calls
  pub ready : reader.failed ≡ None → IsReady (state_of reader.machine) built
  pub count : reader.failed ≡ None → count_of reader ≡ length bytes

-- these bytes, fewer than 2^30, are left of the open file, where the shelf tells that
pub record HasLeft (told : Option Told) (bytes : List ℕ) : Type 0 where
  pub short : length bytes < 2 ^ 30
  pub whole : IfSome told (λ t. t.left ≡ bytes)

-- nothing changes but what is left of the open file
abbrev pub OnlyReads : Option Told → Option Told → Type 0
OnlyReads old new = IfSome old (λ t. (rest : List ℕ) × (new ≡ Some (record t { left = rest })))

-- all that was left of the open file was fed
pub record FeedsFile (told : Option Told) (reader : Reader) (built : Built) : Type 0 where
  pub bytes : List ℕ
  pub left : HasLeft told bytes
  pub fed : HasFed reader built bytes

-- what was left of the open file spells the document
pub record ReadsDocument (told : Option Told) (document : Tree) : Type 0 where
  pub bytes : List ℕ
  pub left : HasLeft told bytes
  pub spelled : Spells bytes document
