-- What an opened file says of the files.
use Rattle.std.specs.Prelude.{◌≡◌, ◌≤◌, ◌<◌, ◌^◌, ℕ, List, [], length, replicate, true, false, Option, Some, None, IfSome, IsSome, is_some, unwrap_or, refl}
use Rattle.std.proofs.Common.{ap, sym, ◌∙◌, subst, arith}
use Rattle.std.proofs.lemmas.List.{length-replicate}
use Rattle.std.specs.FinMap.{get}
use Rattle.tree_outside.specs.Files.{Told}
use Rattle.tree_outside.specs.Shelf.{Becomes, file_opened}
use Rattle.store_core.specs.Acts.{Act, Load, LoadGrammar, Check, file_read}
use Rattle.store_core.specs.Opening.{Finds, ReadsFile}
use Rattle.store_core.specs.Worlds.{State, World, HasFile, HasNoFile, world}
use Rattle.store_core.specs.Refusals.{HasDocument, IsReady, IsInput, Cause}
use Rattle.store_core.specs.Feeding.{HasLeft, ReadsDocument}
use Rattle.store_core.specs.Machine.{HoldsDocument}
use Rattle.store_core.specs.Stopping.{StopsDocument, StopsReading}
use Rattle.plain_tree.specs.Tree.{Tree, node_count}
use Rattle.plain_tree.specs.Lawful.{IsDocument}
use Rattle.xml_nodes.proofs.Bytes.{spells-document}
use Rattle.store_core.specs.declared.answer.Refusal.{Refusal}
use Rattle.store_core.specs.declared.answer.Refusal.TheVariants as no

is_none : (o : Option (List ℕ)) → false ≡ is_some o → o ≡ None
is_none None e = refl
is_none (Some x) e = cc

is_value : (o : Option (List ℕ)) (bytes : List ℕ) → true ≡ is_some o → unwrap_or o [] ≡ bytes → o ≡ Some bytes
is_value None bytes e h = cc
is_value (Some x) bytes e h = ap Some h

-- an opening that found no file says that there is none
pub no_file : (told : Option Told) (name : List ℕ) (state : State) (count : ℕ) → Finds told name false → HasNoFile (world state told count) name
no_file None name state count finds = tt
no_file (Some t) name state count finds = is_none (get t.files name) finds

-- one that found a file says that there is one
pub some_file : (told : Option Told) (name : List ℕ) (state : State) (count : ℕ) → Finds told name true → (bytes : List ℕ) × HasFile (world state told count) name bytes
some_file None name state count finds = ([], tt)
some_file (Some t) name state count finds = (unwrap_or (get t.files name) [], is_value (get t.files name) (unwrap_or (get t.files name) []) finds refl)

-- with the file that it reads, a command that has its document is ready
pub ready_to_load : (act : Act) (old : World) (name bytes : List ℕ) → ReadsFile act name old.state → HasFile old name bytes → IsReady act old
ready_to_load act old name bytes reads has = record {
  document = reads.document;
  file = λ other same. let e : Some name ≡ Some other = sym reads.reads ∙ same in let n : name ≡ other = cc in subst (λ n. (bytes : List ℕ) × HasFile old n bytes) n (bytes, has);
}

-- loadings read their files, and so does a check where a document is held
pub load_reads : (name : List ℕ) (state : State) → ReadsFile (Load name) name state
load_reads name state = record { document = λ needs. absurd (cc); reads = refl }

pub load_grammar_reads : (name : List ℕ) (state : State) → ReadsFile (LoadGrammar name) name state
load_grammar_reads name state = record { document = λ needs. absurd (cc); reads = refl }

pub check_reads : (name : List ℕ) (state : State) → IsSome state → ReadsFile (Check name) name state
check_reads name state some = record { document = λ needs. some; reads = refl }

-- so is one whose file was found
pub found_to_load : (act : Act) (told : Option Told) (name : List ℕ) (state : State) (count : ℕ) → ReadsFile act name state → Finds told name true → IsReady act (world state told count)
found_to_load act told name state count reads finds = let some = some_file told name state count finds in ready_to_load act (world state told count) name some.0 reads some.1

-- a list that is long enough
some_long : (n : ℕ) → (xs : List ℕ) × (n ≤ length xs)
some_long n = let zero : ℕ = 0 in (replicate n zero, omega (arith, length-replicate n zero))

-- a file that gave so many bytes is a long one
long_file :
    (act : Act) (old opening : Option Told) (name : List ℕ) (state : State) (count : ℕ) → ReadsFile act name state → Finds old name true → Becomes old opening (file_opened name)
    → IfSome opening (λ t. 2 ^ 30 ≤ length t.left) → (bytes : List ℕ) × IsInput (file_read act) (world state old count) bytes × HasDocument act (world state old count) × (2 ^ 30 ≤ length bytes)
long_file act None opening name state count reads finds opens left =
    let some = some_long (2 ^ 30) in
    (some.0, record { name = name; reads = reads.reads; file = tt }, reads.document, some.1)
long_file act (Some t) opening name state count reads finds opens left =
    let P : Option Told → Type 0 = λ o. IfSome o (λ t. 2 ^ 30 ≤ length t.left) in
    let bytes = unwrap_or (get t.files name) [] in
    (bytes, record { name = name; reads = reads.reads; file = is_value (get t.files name) bytes finds refl }, reads.document, subst P opens left)

-- what was left of the file that was opened are its bytes
pub found_file : (old opening : Option Told) (name : List ℕ) (state : State) (count : ℕ) (bytes : List ℕ) → Finds old name true → Becomes old opening (file_opened name)
    → HasLeft opening bytes → HasFile (world state old count) name bytes
found_file None opening name state count bytes finds opens left = tt
found_file (Some t) opening name state count bytes finds opens left =
    let P : Option Told → Type 0 = λ o. IfSome o (λ t. t.left ≡ bytes) in
    is_value (get t.files name) bytes finds (subst P opens left.whole)

-- the document that was read of an opened file is the one that it holds
pub holds_document : (old opening : Option Told) (name : List ℕ) (state : State) (count : ℕ) (document : Tree) → Finds old name true → Becomes old opening (file_opened name)
    → ReadsDocument opening document → HoldsDocument name (world state old count) document
holds_document old opening name state count document finds opens reads = record {
  bytes = reads.bytes;
  file = found_file old opening name state count reads.bytes finds opens reads.left;
  short = reads.left.short;
  spelled = reads.spelled;
}

-- it is lawful, and has few nodes
pub read_lawful : (told : Option Told) (document : Tree) → ReadsDocument told document → IsDocument document × (node_count document < 2 ^ 30)
read_lawful told document reads =
    let lawful = spells-document reads.bytes document reads.spelled in
    (lawful.0, omega (arith, lawful.1, reads.left.short))

-- what stops the reading of a file that was found is a cause to refuse the command
pub stops_loading :
    (refusal : Refusal) (act : Act) (old opening : Option Told) (name : List ℕ) (state : State) (count before now : ℕ) (new : World) → ReadsFile act name state → Finds old name true
    → Becomes old opening (file_opened name) → count ≤ before → now ≤ new.count → StopsReading refusal opening before now → Cause refusal act (world state old count) new
stops_loading no.ReadFault act old opening name state count before now new reads finds opens b n stops = (rw reads.reads refl, reads.document, omega (arith, stops))
stops_loading no.LongFile act old opening name state count before now new reads finds opens b n stops = long_file act old opening name state count reads finds opens stops
stops_loading no.Memory act old opening name state count before now new reads finds opens b n stops = found_to_load act old name state count reads finds
stops_loading refusal act old opening name state count before now new reads finds opens b n stops = absurd stops

-- and so is what stops the reading of a document
pub stops_document :
    (refusal : Refusal) (old opening : Option Told) (name : List ℕ) (state : State) (count before now : ℕ) (new : World) → Finds old name true
    → Becomes old opening (file_opened name) → count ≤ before → now ≤ new.count → StopsDocument refusal opening before now → Cause refusal (Load name) (world state old count) new
stops_document (no.BadXml at) old opening name state count before now new finds opens b n (bytes, left, bad) =
    (bytes, record { input = record { name = name; reads = refl; file = found_file old opening name state count bytes finds opens left }; short = left.short }, bad)
stops_document no.ReadFault old opening name state count before now new finds opens b n stops = stops_loading no.ReadFault (Load name) old opening name state count before now new (load_reads name state) finds opens b n stops
stops_document no.LongFile old opening name state count before now new finds opens b n stops = stops_loading no.LongFile (Load name) old opening name state count before now new (load_reads name state) finds opens b n stops
stops_document no.Memory old opening name state count before now new finds opens b n stops = stops_loading no.Memory (Load name) old opening name state count before now new (load_reads name state) finds opens b n stops
stops_document refusal old opening name state count before now new finds opens b n stops = absurd stops
