-- What queries see of a document, by the numbers of its nodes in document order; the document is number 0.
use Rattle.std.specs.Prelude.{ℕ, ◌==◌, ◌-◌, Bool, true, false, ◌&&◌, List, slice_get}
use Rattle.std.specs.Option.{option_map_or}
use Rattle.std.specs.Str.{bytes_eq}
use Rattle.plain_tree.specs.declared.kind.Kind.{Kind}
use Rattle.plain_tree.specs.declared.kind.Kind.TheVariants as kinds
use Rattle.plain_tree.specs.Tree.{Tree, node, node_count, kind_code}
use Rattle.plain_tree.specs.Numbers.{nodes, kind_of}
use Rattle.xpath_parser.specs.declared.query.Axis.{Axis}
use Rattle.xpath_parser.specs.declared.query.Axis.TheVariants as axes
use Rattle.xpath_parser.specs.Queries.{Test, Star, Name, AnyNode, TextNode, CommentNode, InstructionNode, TextOf, NameOf}

-- whether a node is of a kind, has a name, and has a value
abbrev pub is_kind : Kind → Tree → Bool
is_kind k t = kind_code (kind_of t) == kind_code k

abbrev pub has_name : List ℕ → Tree → Bool
has_name n (node kind name value kids) = bytes_eq name n

abbrev pub has_text : List ℕ → Tree → Bool
has_text v (node kind name value kids) = bytes_eq value v

-- the principal node type of an axis (XPath 1.0, 2.3)
abbrev pub principal : Axis → Kind
principal axes.Attribute = kinds.Attribute
principal _ = kinds.Element

-- whether a node passes a test (2.3)
abbrev pub passes_test : Axis → Test → Tree → Bool
passes_test a Star t = is_kind (principal a) t
passes_test a (Name n) t = is_kind (principal a) t && has_name n t
passes_test a AnyNode t = true
passes_test a TextNode t = is_kind kinds.Text t
passes_test a CommentNode t = is_kind kinds.Comment t
passes_test a InstructionNode t = is_kind kinds.Instruction t
passes_test a (TextOf v) t = is_kind kinds.Text t && has_text v t
passes_test a (NameOf x v) t = is_kind kinds.Attribute t && (has_name x t && has_text v t)

-- how many nodes there are, how many are below each, which are attributes, and which pass a test
pub record Numbering : Type 0 where
  pub count : ℕ
  pub extent : ℕ → ℕ
  pub attribute : ℕ → Bool
  pub passes : Axis → Test → ℕ → Bool

-- a document by its numbers
abbrev pub numbered : Tree → Numbering
numbered t = record {
  count = node_count t;
  extent = λ n. option_map_or (λ s. node_count s - 1) (slice_get (nodes t) n) 0;
  attribute = λ n. option_map_or (is_kind kinds.Attribute) (slice_get (nodes t) n) false;
  passes = λ a test n. option_map_or (passes_test a test) (slice_get (nodes t) n) false;
}
