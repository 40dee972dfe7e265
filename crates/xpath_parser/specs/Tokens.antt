-- The tokens of a query (XPath 1.0, 3.7), a function of its bytes: the longest token is taken each time.
use Rattle.std.specs.Prelude.{ℕ, ◌==◌, ◌-◌, ◌≡◌, ◌||◌, Bool, true, false, not, List, [], ◌∷◌, Option, Some, None, if◌then◌else◌, length, take, codes}
use Rattle.std.specs.Borrow.{Bor}
use Rattle.std.specs.Str.{bytes_eq}
use Rattle.xpath_parser.specs.declared.query.Axis.{Axis}
use Rattle.xpath_parser.specs.declared.query.Axis.TheVariants as axes
use Rattle.xpath_parser.specs.declared.token.Asked.TheVariants as tests
use Rattle.xpath_parser.specs.declared.token.Operand.{Operand}
use Rattle.xpath_parser.specs.declared.token.Operand.TheVariants as operands
use Rattle.xpath_parser.specs.declared.token.Span.{Span}
use Rattle.xpath_parser.specs.declared.token.Token.{Token}
use Rattle.xpath_parser.specs.declared.token.Token.TheVariants as tokens
use Rattle.plain_tree.specs.XmlNames.{are_chars, is_space}
use Rattle.xml_tokens.specs.Cutting.{back}
use Rattle.xpath_parser.specs.Names.{is_start_byte, behind_byte, behind_name}

-- AxisName (XPath 1.0, 2.2), those of this profile
abbrev pub axis_of : List ℕ → Option Axis
axis_of name =
    if bytes_eq name (codes "child") then Some axes.Child
    else (if bytes_eq name (codes "descendant") then Some axes.Descendant
    else (if bytes_eq name (codes "descendant-or-self") then Some axes.DescendantOrSelf
    else (if bytes_eq name (codes "self") then Some axes.SelfNode
    else (if bytes_eq name (codes "following-sibling") then Some axes.FollowingSibling
    else (if bytes_eq name (codes "attribute") then Some axes.Attribute
    else None)))))

-- what a name with `(` and `)` is: NodeType (2.3), or a truth (4.3)
abbrev pub call_of : List ℕ → Option Token
call_of name =
    if bytes_eq name (codes "node") then Some (tokens.Asks tests.AnyNode)
    else (if bytes_eq name (codes "text") then Some (tokens.Asks tests.TextNode)
    else (if bytes_eq name (codes "comment") then Some (tokens.Asks tests.CommentNode)
    else (if bytes_eq name (codes "processing-instruction") then Some (tokens.Asks tests.InstructionNode)
    else (if bytes_eq name (codes "true") then Some (tokens.Truth true)
    else (if bytes_eq name (codes "false") then Some (tokens.Truth false)
    else None)))))

-- a name alone; `and` and `or` can be signs
abbrev pub word_of : List ℕ → Span → Token
word_of name s = if bytes_eq name (codes "and") then tokens.AndWord s else (if bytes_eq name (codes "or") then tokens.OrWord s else tokens.Word s)

-- a token, if there is one, and what follows it
abbrev pub Found : Type 0
Found = Option (Token × List ℕ)

-- with what follows it
abbrev pub found : Token → Option (List ℕ) → Found
found token None = None
found token (Some rest) = Some (token, rest)

-- the place of what stands before the rest of the last bytes of a query of so many
abbrev pub span_before : ℕ → List ℕ → List ℕ → Span
span_before total bs rest = record { from = total - length bs; to = total - length rest }

-- A comparison (3.4) is one token, up to the end of its literal:
-- comparison = ('child' '::')? 'text' '(' ')' '=' literal | ('@' | 'attribute' '::') qname '=' literal
-- Literal (3.7): any characters but its quote between two quotes

abbrev pub is_other_than : ℕ → ℕ → Bool
is_other_than quote c = not (c == quote)

-- behind the first quote the characters up to the other, if they are such
abbrev pub quoted : Operand → ℕ → ℕ → List ℕ → List ℕ → Found
quoted operand total quote cs rest =
    if are_chars (take (length cs - length rest) cs) then found (tokens.Compares operand (span_before total cs rest)) (behind_byte quote rest) else None

abbrev pub literal : Operand → ℕ → List ℕ → Found
literal operand total [] = None
literal operand total (c ∷ cs) = if (c == 34) || (c == 39) then quoted operand total c cs (back (is_other_than c) cs) else None

-- where `=` comes behind the operand, a literal does, and else this is another token
abbrev pub equal_to : Operand → ℕ → Option (List ℕ) → Token → List ℕ → Found
equal_to operand total None token after = Some (token, after)
equal_to operand total (Some more) token after = literal operand total (back is_space more)

abbrev pub compared : Operand → ℕ → List ℕ → Token → List ℕ → Found
compared operand total rest token after = equal_to operand total (behind_byte 61 (back is_space rest)) token after

-- `)` belongs to the token
abbrev pub closed : ℕ → Token → Option (List ℕ) → Found
closed total token None = None
closed total (tokens.Asks tests.TextNode) (Some rest) = compared operands.Texts total rest (tokens.Asks tests.TextNode) rest
closed total token (Some rest) = Some (token, rest)

abbrev pub call_closed : ℕ → Option Token → List ℕ → Found
call_closed total None more = None
call_closed total (Some token) more = closed total token (behind_byte 41 (back is_space more))

-- a name before `(`, of which `or` and `and` can be signs
abbrev pub called : ℕ → List ℕ → Span → List ℕ → List ℕ → Found
called total name s rest more =
    if bytes_eq name (codes "not") then Some (tokens.NotOpen, more)
    else (if bytes_eq name (codes "and") then Some (tokens.AndWord s, rest)
    else (if bytes_eq name (codes "or") then Some (tokens.OrWord s, rest)
    else call_closed total (call_of name) more))

-- what follows `text` with its parentheses, and the name
abbrev pub behind_parens : Option (List ℕ) → Option (List ℕ)
behind_parens None = None
behind_parens (Some more) = behind_byte 41 (back is_space more)

abbrev pub behind_text_name : List ℕ → Option (List ℕ) → Option (List ℕ)
behind_text_name bs None = None
behind_text_name bs (Some rest) = if bytes_eq (take (length bs - length rest) bs) (codes "text") then behind_parens (behind_byte 40 (back is_space rest)) else None

abbrev pub behind_text : List ℕ → Option (List ℕ)
behind_text bs = behind_text_name bs (behind_name bs)

-- the token of an axis, unless what follows is compared
abbrev pub along_child : ℕ → List ℕ → Option (List ℕ) → Found
along_child total more None = Some (tokens.Along axes.Child, more)
along_child total more (Some rest) = compared operands.Texts total rest (tokens.Along axes.Child) more

abbrev pub along_attribute : ℕ → List ℕ → Option (List ℕ) → Found
along_attribute total more None = Some (tokens.Along axes.Attribute, more)
along_attribute total more (Some rest) = compared (operands.Attributes (span_before total (back is_space more) rest)) total rest (tokens.Along axes.Attribute) more

-- `::` belongs to the token of its axis
abbrev pub along : ℕ → Option Axis → List ℕ → Found
along total None more = None
along total (Some axes.Child) more = along_child total more (behind_text (back is_space more))
along total (Some axes.Attribute) more = along_attribute total more (behind_name (back is_space more))
along total (Some x) more = Some (tokens.Along x, more)

-- behind another colon
abbrev pub behind_again : Option (List ℕ) → Option (List ℕ)
behind_again None = None
behind_again (Some more) = behind_byte 58 more

-- what follows the name and white space: two colons, a parenthesis, or neither
abbrev pub named_before : ℕ → List ℕ → Span → List ℕ → Option (List ℕ) → Option (List ℕ) → Found
named_before total name s rest (Some more) parens = along total (axis_of name) more
named_before total name s rest None (Some more) = called total name s rest more
named_before total name s rest None None = Some (word_of name s, rest)

-- the token of a name, with what follows it
abbrev pub named : ℕ → List ℕ → Span → List ℕ → Found
named total name s rest = named_before total name s rest (behind_again (behind_byte 58 (back is_space rest))) (behind_byte 40 (back is_space rest))

-- `/` or `//`
abbrev pub slash : List ℕ → Option (List ℕ) → Found
slash cs None = Some (tokens.Slash, cs)
slash cs (Some more) = Some (tokens.Slashes, more)

-- a token that is no name
abbrev pub sign : ℕ → ℕ → List ℕ → Found
sign total c cs =
    if c == 47 then slash cs (behind_byte 47 cs)
    else (if c == 46 then Some (tokens.Dot, cs)
    else (if c == 64 then along total (Some axes.Attribute) cs
    else (if c == 124 then Some (tokens.Bar, cs)
    else (if c == 91 then Some (tokens.OpenFilter, cs)
    else (if c == 93 then Some (tokens.CloseFilter, cs)
    else (if c == 40 then Some (tokens.Open, cs)
    else (if c == 41 then Some (tokens.Close, cs)
    else (if c == 42 then Some (tokens.Asks tests.Star, cs)
    else None))))))))

-- the token of a name in front of the rest, in a query of so many bytes
abbrev pub named_at : ℕ → List ℕ → Option (List ℕ) → Found
named_at total bs None = None
named_at total bs (Some rest) = named total (take (length bs - length rest) bs) (span_before total bs rest) rest

-- the token at the front, and what follows it
unfoldable pub token_at : ℕ → List ℕ → Found
token_at total [] = None
token_at total (c ∷ cs) = if is_start_byte c then named_at total (c ∷ cs) (behind_name (c ∷ cs)) else sign total c cs

-- the bytes of a query of so many are these tokens, with any white space between them
pub data AreTokens : ℕ → List ℕ → List Token → Type 0 where
  at_end : (total : ℕ) (bs : List ℕ) → back is_space bs ≡ [] → AreTokens total bs []
  then_token : (total : ℕ) (bs rest : List ℕ) (t : Token) (ts : List Token) → token_at total (back is_space bs) ≡ Some (t, rest) → AreTokens total rest ts → AreTokens total bs (t ∷ ts)

-- what the program found
abbrev pub seen : Option (Token × Bor (List ℕ)) → Found
seen None = None
seen (Some p) = Some (p.0, p.1.now)
