-- Which bytes spell which document, which fragment and which value. Line ends are made even first (XML 1.0, fifth edition, 2.11).
use Rattle.std.specs.Prelude.{◌≡◌, ◌≢◌, ℕ, List, [], true, false}
use Rattle.std.specs.List.{list_all, flat_map}
use Rattle.plain_tree.specs.Tree.{Tree, Trees, none}
use Rattle.xml_tokens.specs.Tokens.{Token, AreTokens}
use Rattle.xml_tokenizer.specs.LineEnds.{line_ends}
use Rattle.xml_nodes.specs.Content.{AreDocument, IsContent, is_value_piece, given}

-- the bytes spell the document
pub record Spells (bytes : List ℕ) (tree : Tree) : Type 0 where
  pub tokens : List Token
  pub cut : AreTokens tokens (line_ends bytes) []
  pub document : AreDocument tokens tree

-- the bytes spell these nodes, as a fragment
pub record SpellsList (bytes : List ℕ) (nodes : Trees) : Type 0 where
  pub tokens : List Token
  pub cut : AreTokens tokens (line_ends bytes) []
  pub content : IsContent nodes false tokens []
  pub some : nodes ≢ none

-- the bytes spell the value
pub record SpellsValue (bytes value : List ℕ) : Type 0 where
  pub tokens : List Token
  pub cut : AreTokens tokens (line_ends bytes) []
  pub each : list_all is_value_piece tokens ≡ true
  pub gives : value ≡ flat_map given tokens
