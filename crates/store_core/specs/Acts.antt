-- Commands, as the machine sees them.
use Rattle.std.specs.Prelude.{◌≤◌, ℕ, Bool, true, false, List, Option, IfSome, Some, None}

pub data Act : Type 0 where
  -- the document becomes that of the file with this name
  Load : (name : List ℕ) → Act
  -- the document becomes that of the grammar file with this name
  LoadGrammar : (name : List ℕ) → Act
  -- the document is written to the file with this name
  Save : (name : List ℕ) → Act
  -- the names, the grammar and the texts are written to the file with this name
  SaveGrammar : (name : List ℕ) → Act
  -- the node with this number is printed
  Show : (number : ℕ) → Act
  -- the nodes that the query selects are listed, and counted
  Query : (query : List ℕ) → Act
  -- they are printed with all below them, and counted
  ShowAll : (query : List ℕ) → Act
  -- they are counted
  Count : (query : List ℕ) → Act
  -- the node with this number gets this name
  Rename : (number : ℕ) (name : List ℕ) → Act
  -- the nodes that these bytes spell come to stand before the node with this number
  Insert : (number : ℕ) (bytes : List ℕ) → Act
  -- they come to stand behind its last kid
  Append : (number : ℕ) (bytes : List ℕ) → Act
  -- the node with this number is deleted, with all below it
  Delete : (number : ℕ) → Act
  -- the node with this number gets the value that these bytes spell
  Value : (number : ℕ) (bytes : List ℕ) → Act
  -- the attribute with this name of the node with this number gets the value that these bytes spell
  Attr : (number : ℕ) (name bytes : List ℕ) → Act
  -- an equal node comes to stand before the node with this number, with all below it
  Copy : (number : ℕ) → Act
  -- the nodes that the query selects get this name
  RenameAll : (name query : List ℕ) → Act
  -- they are deleted, with all below them
  DeleteAll : (query : List ℕ) → Act
  -- the elements that the schema in the file with this name does not allow are counted
  Check : (name : List ℕ) → Act
  -- the grammar is settled
  Repair : Act
  -- the heaviest digram of the whole document becomes a rule, and the grammar is settled
  RepairWide : Act
  -- the document becomes the one that is made with so many records
  Generate : (records : ℕ) → Act

-- whether the command needs a document that is loaded
abbrev pub needs_document : Act → Bool
needs_document (Load name) = false
needs_document (LoadGrammar name) = false
needs_document (Generate records) = false
needs_document act = true

-- the name of the file in which the command reads a document
abbrev pub document_read : Act → Option (List ℕ)
document_read (Load name) = Some name
document_read act = None

-- the name of the file in which the command reads a grammar
abbrev pub grammar_read : Act → Option (List ℕ)
grammar_read (LoadGrammar name) = Some name
grammar_read act = None

-- the name of the file in which the command reads a schema
abbrev pub schema_read : Act → Option (List ℕ)
schema_read (Check name) = Some name
schema_read act = None

-- the name of the file that the command reads, whatever it reads there
abbrev pub file_read : Act → Option (List ℕ)
file_read (Load name) = Some name
file_read (LoadGrammar name) = Some name
file_read (Check name) = Some name
file_read act = None

-- whether the command writes a file
abbrev pub writes_file : Act → Bool
writes_file (Save name) = true
writes_file (SaveGrammar name) = true
writes_file act = false

-- the number of the node that the command asks for
abbrev pub node_asked : Act → Option ℕ
node_asked (Show number) = Some number
node_asked (Rename number name) = Some number
node_asked (Insert number bytes) = Some number
node_asked (Append number bytes) = Some number
node_asked (Delete number) = Some number
node_asked (Value number bytes) = Some number
node_asked (Attr number name bytes) = Some number
node_asked (Copy number) = Some number
node_asked act = None

-- the query whose nodes the command asks for
abbrev pub query_asked : Act → Option (List ℕ)
query_asked (Query query) = Some query
query_asked (ShowAll query) = Some query
query_asked (Count query) = Some query
query_asked (RenameAll name query) = Some query
query_asked (DeleteAll query) = Some query
query_asked act = None

-- the query whose nodes it lists, prints or counts
abbrev pub query_answered : Act → Option (List ℕ)
query_answered (Query query) = Some query
query_answered (ShowAll query) = Some query
query_answered (Count query) = Some query
query_answered act = None

-- the query whose nodes it lists or counts, without printing what is below them
abbrev pub query_listed : Act → Option (List ℕ)
query_listed (Query query) = Some query
query_listed (Count query) = Some query
query_listed act = None

-- the query all of whose nodes it edits
abbrev pub query_edited : Act → Option (List ℕ)
query_edited (RenameAll name query) = Some query
query_edited (DeleteAll query) = Some query
query_edited act = None

-- the name that the command gives a node, the attribute of one, or all nodes of a query
abbrev pub name_given : Act → Option (List ℕ)
name_given (Rename number name) = Some name
name_given (Attr number name bytes) = Some name
name_given (RenameAll name query) = Some name
name_given act = None

-- the bytes of the nodes that it brings
abbrev pub fragment_given : Act → Option (List ℕ)
fragment_given (Insert number bytes) = Some bytes
fragment_given (Append number bytes) = Some bytes
fragment_given act = None

-- the bytes of the value that it gives
abbrev pub value_given : Act → Option (List ℕ)
value_given (Value number bytes) = Some bytes
value_given (Attr number name bytes) = Some bytes
value_given act = None

-- how many records it asks for
abbrev pub records_asked : Act → Option ℕ
records_asked (Generate records) = Some records
records_asked act = None

-- they are 1 to 200,000
abbrev pub AsksFewRecords : Act → Type 0
AsksFewRecords act = IfSome (records_asked act) (λ records. (1 ≤ records) × (records ≤ 200000))
