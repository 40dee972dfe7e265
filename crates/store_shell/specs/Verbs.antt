-- The words that begin commands with arguments, and what ends them.
use Rattle.std.specs.Prelude.{◌==◌, ℕ, Bool, List, [], Option, Some, None, codes}
use Rattle.store_core.specs.Acts.{Act, Load, LoadGrammar, Save, SaveGrammar, Show, Query, ShowAll, Count, Rename, Insert, Append, Delete, Value, Attr, Copy, RenameAll, DeleteAll, Check, Repair, RepairWide, Generate}
use Rattle.store_shell.specs.declared.verb.Verb.{Verb}
use Rattle.store_shell.specs.declared.verb.Verb.TheVariants as verb

abbrev pub verb_word : Verb → List ℕ
verb_word verb.Load = codes "load"
verb_word verb.LoadGrammar = codes "load-grammar"
verb_word verb.Save = codes "save"
verb_word verb.SaveGrammar = codes "save-grammar"
verb_word verb.Show = codes "show"
verb_word verb.Query = codes "query"
verb_word verb.ShowAll = codes "show-all"
verb_word verb.Count = codes "count"
verb_word verb.Rename = codes "rename"
verb_word verb.Insert = codes "insert"
verb_word verb.Append = codes "append"
verb_word verb.Delete = codes "delete"
verb_word verb.Value = codes "value"
verb_word verb.Attr = codes "attr"
verb_word verb.Copy = codes "copy"
verb_word verb.RenameAll = codes "rename-all"
verb_word verb.DeleteAll = codes "delete-all"
verb_word verb.Check = codes "check"
verb_word verb.Generate = codes "generate"

-- the verb of a command, if it has arguments
abbrev pub verb_of : Act → Option Verb
verb_of (Load name) = Some verb.Load
verb_of (LoadGrammar name) = Some verb.LoadGrammar
verb_of (Save name) = Some verb.Save
verb_of (SaveGrammar name) = Some verb.SaveGrammar
verb_of (Show number) = Some verb.Show
verb_of (Query query) = Some verb.Query
verb_of (ShowAll query) = Some verb.ShowAll
verb_of (Count query) = Some verb.Count
verb_of (Rename number name) = Some verb.Rename
verb_of (Insert number bytes) = Some verb.Insert
verb_of (Append number bytes) = Some verb.Append
verb_of (Delete number) = Some verb.Delete
verb_of (Value number bytes) = Some verb.Value
verb_of (Attr number name bytes) = Some verb.Attr
verb_of (Copy number) = Some verb.Copy
verb_of (RenameAll name query) = Some verb.RenameAll
verb_of (DeleteAll query) = Some verb.DeleteAll
verb_of (Check name) = Some verb.Check
verb_of Repair = None
verb_of RepairWide = None
verb_of (Generate records) = Some verb.Generate

-- the word of a command that has none
abbrev pub lone_word : Act → List ℕ
lone_word Repair = codes "repair"
lone_word RepairWide = codes "repair-wide"
lone_word act = []

abbrev pub is_blank : ℕ → Bool
is_blank byte = byte == 32
