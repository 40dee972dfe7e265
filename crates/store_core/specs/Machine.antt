-- One step of the plain tree machine: what a command prints and what it leaves.
use Rattle.std.specs.Prelude.{◌≡◌, ◌≤◌, ◌<◌, ◌⊎◌, ◌^◌, ℕ, max, List, [], ◌++◌, length, Option, Some, IfSome, Result, MatchResult}
use Rattle.std.specs.FinMap.{insert}
use Rattle.std.specs.List.{flat_map}
use Rattle.tree_outside.specs.Outside.{Gets, GetsFront, Stays}
use Rattle.plain_tree.specs.Numbers.{nodes}
use Rattle.plain_tree.specs.Tree.{Tree, node_count}
use Rattle.xml_nodes.specs.Spelling.{Spells}
use Rattle.xml_nodes.specs.Saved.{saved_bytes}
use Rattle.slt_grammar.specs.declared.rules.Rule.{Rule}
use Rattle.slt_grammar.specs.Digrams.{IsSettled}
use Rattle.slt_grammar.specs.Grammars.{size}
use Rattle.slt_grammar.specs.Ranks.{greatest_rank}
use Rattle.fcns_encoding.specs.Interning.{Interns, pairs_of_tree}
use Rattle.record_generator.specs.Records.{generated}
use Rattle.grammar_file.specs.FileBytes.{file_bytes}
use Rattle.content_models.specs.Models.{Model}
use Rattle.content_models.specs.Wrong.{AreWrong}
use Rattle.store_core.specs.Acts.{Act, Load, LoadGrammar, Save, SaveGrammar, Show, Query, ShowAll, Count, Rename, Insert, Append, Delete, Value, Attr, Copy, RenameAll, DeleteAll, Check, Repair, RepairWide, Generate}
use Rattle.store_core.specs.BulkEditing.{EditsAll, KeepsNamesOfAll}
use Rattle.store_core.specs.Editing.{Edits, KeepsNames}
use Rattle.store_core.specs.GrammarFiles.{IsFileOfDocument}
use Rattle.store_core.specs.Repairing.{IsGreatestWeight}
use Rattle.store_core.specs.Schemas.{HoldsSchema, verdict}
use Rattle.store_core.specs.Selecting.{Selects}
use Rattle.store_core.specs.Worlds.{Parts, parts_in, unedited, with_rules, PartsStandFor, IsLawfulState, World, Same, HasFile}
use Rattle.store_core.specs.Texts.{answer_line, line_of, selected_line, shown_bytes}
use Rattle.store_core.specs.Refusals.{Cause}
use Rattle.store_core.specs.declared.answer.Answer.{Answer}
use Rattle.store_core.specs.declared.answer.Answer.TheVariants as ok
use Rattle.store_core.specs.declared.answer.Refusal.{Refusal}
use Rattle.store_core.specs.declared.answer.Refusal.TheVariants as no
use Rattle.store_words.specs.declared.words.Settings.{Settings}

-- what a loading makes of a document: names in the order of their first nodes, and a grammar that is settled for a rank and has no
-- rule of a greater one
pub record Encodes (rank : ℕ) (tree : Tree) (parts : Parts) : Type 0 where
  pub stand : PartsStandFor parts tree
  pub names : Interns [] (pairs_of_tree tree) parts.names
  pub settled : IsSettled parts.rules rank
  pub ranks : greatest_rank parts.rules ≤ rank

-- the document is the one that the file's bytes, fewer than 2^30, spell
pub record HoldsDocument (name : List ℕ) (w : World) (tree : Tree) : Type 0 where
  pub bytes : List ℕ
  pub file : HasFile w name bytes
  pub short : length bytes < 2 ^ 30
  pub spelled : Spells bytes tree

-- the document becomes that of the file
pub record Loads (rank : ℕ) (name : List ℕ) (old : World) (out : List ℕ) (new : World) : Type 0 where
  pub tree : Tree
  pub parts : Parts
  pub held : HoldsDocument name old tree
  pub encoded : Encodes rank tree parts
  pub state : new.state ≡ Some (unedited parts)
  pub files : Stays old.files new.files
  pub printed : out ≡ answer_line (ok.Nodes (node_count tree))

-- the document becomes the one that is made with so many records
pub record Generates (rank records : ℕ) (old : World) (out : List ℕ) (new : World) : Type 0 where
  pub parts : Parts
  pub encoded : Encodes rank (generated records) parts
  pub state : new.state ≡ Some (unedited parts)
  pub files : Stays old.files new.files
  pub printed : out ≡ answer_line (ok.Nodes (node_count (generated records)))

-- the document becomes that of the grammar file: its parts are those of which the file's bytes are
pub record LoadsGrammar (name : List ℕ) (old : World) (out : List ℕ) (new : World) : Type 0 where
  pub bytes : List ℕ
  pub parts : Parts
  pub tree : Tree
  pub held : HasFile old name bytes
  pub short : length bytes < 2 ^ 30
  pub file : IsFileOfDocument bytes parts tree
  pub state : new.state ≡ Some (unedited parts)
  pub files : Stays old.files new.files
  pub printed : out ≡ answer_line (ok.Nodes (node_count tree))

-- the file has these bytes, and nothing else changes
pub record WritesFile (name bytes : List ℕ) (old new : World) : Type 0 where
  pub state : new.state ≡ old.state
  pub files : IfSome old.files (λ files. new.files ≡ Some (insert files name bytes))

-- the file has the document's saved bytes
pub record Saves (name : List ℕ) (old : World) (out : List ℕ) (new : World) : Type 0 where
  pub parts : Parts
  pub tree : Tree
  pub held : parts_in old.state ≡ Some parts
  pub stand : PartsStandFor parts tree
  pub written : WritesFile name (saved_bytes tree) old new
  pub printed : out ≡ answer_line (ok.Bytes (length (saved_bytes tree)))

-- the file has the names, the grammar and the texts
pub record SavesGrammar (name : List ℕ) (old : World) (out : List ℕ) (new : World) : Type 0 where
  pub parts : Parts
  pub held : parts_in old.state ≡ Some parts
  pub written : WritesFile name (file_bytes parts.names parts.rules parts.texts) old new
  pub printed : out ≡ answer_line (ok.Grammar (length parts.rules) (size parts.rules) (length (file_bytes parts.names parts.rules parts.texts)))

-- the node, which is there, is printed, and nothing changes
pub record Shows (number : ℕ) (old : World) (out : List ℕ) (new : World) : Type 0 where
  pub parts : Parts
  pub tree : Tree
  pub held : parts_in old.state ≡ Some parts
  pub stand : PartsStandFor parts tree
  pub there : number < node_count tree
  pub same : Same old new
  pub printed : out ≡ shown_bytes tree number ++ answer_line ok.Shown

-- the nodes that the query selects are listed in document order, and nothing changes
pub record Queries (query : List ℕ) (old : World) (out : List ℕ) (new : World) : Type 0 where
  pub tree : Tree
  pub answer : List ℕ
  pub selects : Selects query old tree answer
  pub same : Same old new
  pub printed : out ≡ flat_map (selected_line tree) answer ++ answer_line (ok.Selected (length answer))

-- they are printed, each with all below it, in document order, and nothing changes
pub record ShowsAll (query : List ℕ) (old : World) (out : List ℕ) (new : World) : Type 0 where
  pub tree : Tree
  pub answer : List ℕ
  pub selects : Selects query old tree answer
  pub same : Same old new
  pub printed : out ≡ flat_map (shown_bytes tree) answer ++ answer_line (ok.ShownAll (length answer))

-- they are counted, and nothing changes
pub record Counts (query : List ℕ) (old : World) (out : List ℕ) (new : World) : Type 0 where
  pub tree : Tree
  pub answer : List ℕ
  pub selects : Selects query old tree answer
  pub same : Same old new
  pub printed : out ≡ answer_line (ok.Selected (length answer))

-- the elements of the document that is held which are wrong under the schema in the file are counted, and the number of the first of them
-- is told; nothing changes
pub record Checks (name : List ℕ) (old : World) (out : List ℕ) (new : World) : Type 0 where
  pub parts : Parts
  pub tree : Tree
  pub schema : List (List ℕ × Model)
  pub wrong : List ℕ
  pub held : parts_in old.state ≡ Some parts
  pub stand : PartsStandFor parts tree
  pub file : HoldsSchema name old schema
  pub are : AreWrong schema 0 (nodes tree) wrong
  pub same : Same old new
  pub printed : out ≡ answer_line (verdict wrong)

-- The rules become ones that are settled for a rank, stand for the same document and have no more nodes; none has a rank that is greater
-- than that one and than all there were. No edit was made since then. Nothing else changes.
pub record Repairs (rank : ℕ) (old : World) (out : List ℕ) (new : World) : Type 0 where
  pub parts : Parts
  pub tree : Tree
  pub rules : List Rule
  pub held : parts_in old.state ≡ Some parts
  pub stand : PartsStandFor parts tree
  pub state : new.state ≡ Some (unedited (with_rules parts rules))
  pub still : PartsStandFor (with_rules parts rules) tree
  pub settled : IsSettled rules rank
  pub ranks : greatest_rank rules ≤ max rank (greatest_rank parts.rules)
  pub smaller : size rules ≤ size parts.rules
  pub files : Stays old.files new.files
  pub printed : out ≡ answer_line (ok.Repaired (length rules) (size rules))

-- The rules become ones that are settled for a rank, stand for the same document and have no more nodes; none has a rank that is greater
-- than that one and than all there were. The greatest weight that a digram of at most that rank had is told. No edit was made since then.
-- Nothing else changes.
pub record RepairsWide (rank : ℕ) (old : World) (out : List ℕ) (new : World) : Type 0 where
  pub parts : Parts
  pub tree : Tree
  pub rules : List Rule
  pub weight : ℕ
  pub held : parts_in old.state ≡ Some parts
  pub stand : PartsStandFor parts tree
  pub state : new.state ≡ Some (unedited (with_rules parts rules))
  pub still : PartsStandFor (with_rules parts rules) tree
  pub settled : IsSettled rules rank
  pub ranks : greatest_rank rules ≤ max rank (greatest_rank parts.rules)
  pub smaller : size rules ≤ size parts.rules
  pub heaviest : IsGreatestWeight rank parts.rules weight
  pub files : Stays old.files new.files
  pub printed : out ≡ answer_line (ok.RepairedWide weight (length rules) (size rules))

-- the command is done, by these settings
abbrev pub Does : Settings → Act → World → List ℕ → World → Type 0
Does settings (Load name) old out new = Loads settings.rank name old out new
Does settings (LoadGrammar name) old out new = LoadsGrammar name old out new
Does settings (Save name) old out new = Saves name old out new
Does settings (SaveGrammar name) old out new = SavesGrammar name old out new
Does settings (Show number) old out new = Shows number old out new
Does settings (Query query) old out new = Queries query old out new
Does settings (ShowAll query) old out new = ShowsAll query old out new
Does settings (Count query) old out new = Counts query old out new
Does settings (Rename number name) old out new = Edits settings (Rename number name) old out new
Does settings (Insert number bytes) old out new = Edits settings (Insert number bytes) old out new
Does settings (Append number bytes) old out new = Edits settings (Append number bytes) old out new
Does settings (Delete number) old out new = Edits settings (Delete number) old out new
Does settings (Value number bytes) old out new = Edits settings (Value number bytes) old out new
Does settings (Attr number name bytes) old out new = Edits settings (Attr number name bytes) old out new
Does settings (Copy number) old out new = Edits settings (Copy number) old out new
Does settings (RenameAll name query) old out new = EditsAll settings (RenameAll name query) old out new
Does settings (DeleteAll query) old out new = EditsAll settings (DeleteAll query) old out new
Does settings (Check name) old out new = Checks name old out new
Does settings Repair old out new = Repairs settings.rank old out new
Does settings RepairWide old out new = RepairsWide settings.rank old out new
Does settings (Generate records) old out new = Generates settings.rank records old out new

-- the text is what is printed of some first nodes that the query selects
pub record PrintsFirst (print : Tree → ℕ → List ℕ) (query : List ℕ) (old : World) (text : List ℕ) : Type 0 where
  pub tree : Tree
  pub first : List ℕ
  pub later : List ℕ
  pub selects : Selects query old tree (first ++ later)
  pub printed : text ≡ flat_map (print tree) first

-- what a refused command printed before its line: nothing, or where a query found no memory some of its first nodes
abbrev pub Begins : Act → Refusal → World → List ℕ → Type 0
Begins (Query query) refusal old text = (text ≡ []) ⊎ ((refusal ≡ no.Memory) × PrintsFirst selected_line query old text)
Begins (ShowAll query) refusal old text = (text ≡ []) ⊎ ((refusal ≡ no.Memory) × PrintsFirst shown_bytes query old text)
Begins act refusal old text = text ≡ []

-- what a refused command leaves: all is as before, but that an edit which found no memory may leave names
abbrev pub Leaves : Act → Refusal → World → World → Type 0
Leaves act refusal old new = Same old new ⊎ ((refusal ≡ no.Memory) × (KeepsNames act old new ⊎ KeepsNamesOfAll act old new))

-- the command is refused for this cause; it printed this text before its line
pub record Refuses (act : Act) (refusal : Refusal) (old : World) (text : List ℕ) (new : World) : Type 0 where
  pub begins : Begins act refusal old text
  pub cause : Cause refusal act old new
  pub leaves : Leaves act refusal old new

-- what a command comes to that printed this text before its line: it is done, or it is refused
abbrev pub Comes : Settings → Act → World → List ℕ → Result Answer Refusal → World → Type 0
Comes settings act old text outcome new = MatchResult outcome
    (λ answer. Does settings act old (text ++ answer_line answer) new)
    (λ refusal. Refuses act refusal old text new)

-- it printed the text before its line, or the sink failed and got a front of what it prints
abbrev pub Prints : {E : Type 0} → Settings → Act → World → Option (List ℕ) → Option (List ℕ) → Result (Result Answer Refusal) E → World → Type 0
Prints settings act old got now result new = MatchResult result
    (λ outcome. (text : List ℕ) × Gets got now text × Comes settings act old text outcome new)
    (λ _. (text : List ℕ) × (outcome : Result Answer Refusal) × GetsFront got now (text ++ line_of outcome) × Comes settings act old text outcome new)

-- One command: the states before and after it are lawful, the count of the shelf's faults doesn't fall, and the command comes to this
-- outcome, an answer or a refusal. It prints a text and the outcome's line.
pub record Step (settings : Settings) (act : Act) (old : World) (out : List ℕ) (new : World) : Type 0 where
  pub before : IsLawfulState old.state
  pub after : IsLawfulState new.state
  pub later : old.count ≤ new.count
  pub outcome : Result Answer Refusal
  pub text : List ℕ
  pub comes : Comes settings act old text outcome new
  pub printed : out ≡ text ++ line_of outcome
