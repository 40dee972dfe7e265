-- The lines that commands print.
use Rattle.std.specs.Prelude.{ℕ, zero, suc, List, [], ◌∷◌, ◌++◌, Result, Ok, Err, slice_get, codes, decimal}
use Rattle.std.specs.Option.{option_map_or}
use Rattle.plain_tree.specs.declared.kind.Kind.{Kind}
use Rattle.plain_tree.specs.declared.kind.Kind.TheVariants as kinds
use Rattle.plain_tree.specs.Numbers.{nodes}
use Rattle.plain_tree.specs.Tree.{Tree, node}
use Rattle.xml_nodes.specs.Saved.{saved_bytes, spelling}
use Rattle.store_core.specs.declared.answer.Answer.{Answer}
use Rattle.store_core.specs.declared.answer.Answer.TheVariants as ok
use Rattle.store_core.specs.declared.answer.Refusal.{Refusal}
use Rattle.store_core.specs.declared.answer.Refusal.TheVariants as no

-- what a command prints that was done
abbrev pub answer_line : Answer → List ℕ
answer_line (ok.Nodes n) = codes "ok nodes " ++ decimal n ++ codes "\n"
answer_line (ok.Unsettled n) = codes "ok nodes " ++ decimal n ++ codes " unsettled\n"
answer_line (ok.Bytes n) = codes "ok bytes " ++ decimal n ++ codes "\n"
answer_line (ok.Grammar rules size bytes) =
    codes "ok rules " ++ decimal rules ++ codes " size " ++ decimal size ++ codes " bytes " ++ decimal bytes ++ codes "\n"
answer_line (ok.Repaired rules size) = codes "ok rules " ++ decimal rules ++ codes " size " ++ decimal size ++ codes "\n"
answer_line (ok.RepairedWide weight rules size) =
    codes "ok weight " ++ decimal weight ++ codes " rules " ++ decimal rules ++ codes " size " ++ decimal size ++ codes "\n"
answer_line (ok.Selected n) = codes "ok selected " ++ decimal n ++ codes "\n"
answer_line ok.Shown = codes "ok shown\n"
answer_line (ok.ShownAll n) = codes "ok shown " ++ decimal n ++ codes "\n"
answer_line ok.Valid = codes "ok valid\n"
answer_line (ok.Invalid count first) = codes "ok invalid " ++ decimal count ++ codes " first " ++ decimal first ++ codes "\n"

abbrev pub refusal_line : Refusal → List ℕ
refusal_line no.NoDocument = codes "! no-document\n"
refusal_line no.ReadFault = codes "! read-fault\n"
refusal_line no.NoFile = codes "! no-file\n"
refusal_line no.WriteFault = codes "! write-fault\n"
refusal_line no.LongFile = codes "! long-file\n"
refusal_line (no.BadXml at) = codes "! bad-xml " ++ decimal at ++ codes "\n"
refusal_line no.BadGrammar = codes "! bad-grammar\n"
refusal_line no.BadSchema = codes "! bad-schema\n"
refusal_line no.LargeSchema = codes "! large-schema\n"
refusal_line no.BadQuery = codes "! bad-query\n"
refusal_line no.LargeQuery = codes "! large-query\n"
refusal_line no.ValueQuery = codes "! value-query\n"
refusal_line no.NoNode = codes "! no-node\n"
refusal_line no.BadName = codes "! bad-name\n"
refusal_line no.BadFragment = codes "! bad-fragment\n"
refusal_line no.BadValue = codes "! bad-value\n"
refusal_line no.NotAllowed = codes "! not-allowed\n"
refusal_line no.TooMany = codes "! too-many\n"
refusal_line no.Memory = codes "! memory\n"

-- the line of what a command came to
abbrev pub line_of : Result Answer Refusal → List ℕ
line_of (Ok answer) = answer_line answer
line_of (Err refusal) = refusal_line refusal

-- the word for a kind, and the space before a name where nodes of the kind have one
abbrev pub kind_word : Kind → List ℕ
kind_word kinds.Document = codes "document"
kind_word kinds.Element = codes "element "
kind_word kinds.Attribute = codes "attribute "
kind_word kinds.Text = codes "text"
kind_word kinds.Comment = codes "comment"
kind_word kinds.Instruction = codes "instruction "

-- the line of a node with this number, kind and name; the name is empty where nodes of the kind have none
abbrev pub node_line : ℕ → Kind × List ℕ → List ℕ
node_line number (kind, name) = decimal number ++ codes " " ++ kind_word kind ++ name ++ codes "\n"

abbrev pub pair_of : Tree → Kind × List ℕ
pair_of (node kind name value kids) = (kind, name)

-- the line of the node of a document with this number
abbrev pub selected_line : Tree → ℕ → List ℕ
selected_line tree number = option_map_or (λ s. node_line number (pair_of s)) (slice_get (nodes tree) number) []

-- what shows the node of a document with this number: its spelling and a line feed, and of the document itself its saved bytes
abbrev pub shown_bytes : Tree → ℕ → List ℕ
shown_bytes tree zero = saved_bytes tree
shown_bytes tree (suc n) = option_map_or (λ s. spelling s ++ 10 ∷ []) (slice_get (nodes tree) (suc n)) []
