-- Where the token that begins the bytes ends: a scan with no memory but its state. It is the least that finds the end; whether the
-- bytes spell a token is for the reader of the whole text.
use Rattle.std.specs.Prelude.{ℕ, ◌==◌, Bool, not, ◌||◌, nat_lt, List, [], ◌∷◌, if◌then◌else◌}
use Rattle.plain_tree.specs.XmlNames.{is_within}
use Rattle.xml_tokenizer.specs.declared.scan.Scan.{Scan}
use Rattle.xml_tokenizer.specs.declared.scan.Scan.TheVariants.{Idle, One, Two, Three, Reference, Open, Tag, Double, Single, Bang, Dash, Comment, CommentDash, CommentEnd, Section, Bracket, Brackets, Doctype, DoctypeDouble, DoctypeSingle, Instruction, InstructionEnd}
use Rattle.xml_tokenizer.specs.declared.scan.Step.{Step}
use Rattle.xml_tokenizer.specs.declared.scan.Step.TheVariants.{On, Whole, Dead}

-- [UTF-8] how many bytes follow this first byte
abbrev pub first_step : ℕ → Step
first_step c =
    if nat_lt c 128 then Whole else (if is_within 194 223 c then On One else (if is_within 224 239 c then On Two else (if is_within 240 244 c then On Three else Dead)))

-- [UTF-8] a further byte
abbrev pub next_step : ℕ → Step → Step
next_step c then_this = if is_within 128 191 c then then_this else Dead

-- this byte alone
abbrev pub only : ℕ → Step → ℕ → Step
only wanted step c = if c == wanted then step else Dead

-- here until the byte that leads on
abbrev pub until : ℕ → Scan → Scan → ℕ → Step
until stop next here c = if c == stop then On next else On here

-- in the quotes of a value, where < never stands
abbrev pub in_quotes : ℕ → Scan → Scan → ℕ → Step
in_quotes quote behind here c = if c == quote then On behind else (if c == 60 then Dead else On here)

-- between < and >, where quotes may open
abbrev pub in_tag : Scan → Scan → Scan → ℕ → Step
in_tag double single here c = if c == 62 then Whole else (if c == 34 then On double else (if c == 39 then On single else (if c == 60 then Dead else On here)))

-- at a sign that closes with the > behind it, and may stand many times
abbrev pub at_close : ℕ → Scan → Scan → ℕ → Step
at_close sign here back c = if c == 62 then Whole else (if c == sign then On here else On back)

abbrev pub scan_step : Scan → ℕ → Step
-- < and & begin markup and references, every other byte a character
scan_step Idle c = if c == 60 then On Open else (if c == 38 then On Reference else first_step c)
scan_step One c = next_step c Whole
scan_step Two c = next_step c (On One)
scan_step Three c = next_step c (On Two)
-- up to ;
scan_step Reference c = if c == 59 then Whole else (if c == 60 then Dead else On Reference)
-- behind <, where ! and ? lead to all that isn't a tag
scan_step Open c = if c == 33 then On Bang else (if c == 63 then On Instruction else (if c == 60 then Dead else On Tag))
scan_step Tag c = in_tag Double Single Tag c
scan_step Double c = in_quotes 34 Tag Double c
scan_step Single c = in_quotes 39 Tag Single c
-- behind <!, where - leads to a comment, [ to a section and D to a DOCTYPE
scan_step Bang c = if c == 45 then On Dash else (if c == 91 then On Section else (if c == 68 then On Doctype else Dead))
scan_step Dash c = only 45 (On Comment) c
scan_step Comment c = until 45 CommentDash Comment c
scan_step CommentDash c = until 45 CommentEnd Comment c
scan_step CommentEnd c = only 62 Whole c
scan_step Section c = until 93 Bracket Section c
scan_step Bracket c = until 93 Brackets Section c
scan_step Brackets c = at_close 93 Brackets Section c
scan_step Doctype c = in_tag DoctypeDouble DoctypeSingle Doctype c
scan_step DoctypeDouble c = until 34 Doctype DoctypeDouble c
scan_step DoctypeSingle c = until 39 Doctype DoctypeSingle c
scan_step Instruction c = until 63 InstructionEnd Instruction c
scan_step InstructionEnd c = at_close 63 InstructionEnd Instruction c

-- the scan over bytes: Whole exactly where it ends at the last of them
abbrev pub scanned : Step → List ℕ → Step
scanned s [] = s
scanned (On t) (c ∷ cs) = scanned (scan_step t c) cs
scanned Whole (c ∷ cs) = Dead
scanned Dead (c ∷ cs) = Dead

-- a byte inside a tag that neither ends it nor begins quotes
abbrev pub is_tag_byte : ℕ → Bool
is_tag_byte c = not (c == 62 || c == 34 || c == 39 || c == 60)

-- a byte between quotes that leaves the scan there
abbrev pub is_between : ℕ → ℕ → Bool
is_between quote c = not (c == quote || c == 60)
