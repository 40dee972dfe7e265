-- The tokens of the saved bytes of a document.
use Rattle.std.specs.Prelude.{ℕ, ◌==◌, Bool, true, false, ◌||◌, List, [], ◌∷◌, ◌++◌, map, if◌then◌else◌}
use Rattle.std.specs.Str.{chars}
use Rattle.plain_tree.specs.declared.kind.Kind.TheVariants as kind
use Rattle.plain_tree.specs.Tree.{Tree, node, Trees, none, more}
use Rattle.xml_tokens.specs.Tokens.{Token, Character, Reference, Start, Empty, End, Comment, Instruction}
use Rattle.xml_nodes.specs.Content.{attributes_among}

-- a character of a text: & < > and #xD by a reference
abbrev pub text_token : ℕ → Token
text_token c = if c == 38 || c == 60 || c == 62 || c == 13 then Reference c else Character c

abbrev pub text_tokens : List ℕ → List Token
text_tokens value = map text_token (chars value)

-- some kid is no attribute
abbrev pub has_content : Trees → Bool
has_content none = false
has_content (more (node kind.Attribute n v ks) ts) = has_content ts
has_content (more t ts) = true

abbrev mutual
  -- the tokens of a node, and then these; an attribute has none of its own
  pub tree_tokens : Tree → List Token → List Token
  tree_tokens (node kind.Element n v ks) next =
      if has_content ks then Start n (attributes_among ks) ∷ all_tokens ks (End n ∷ next) else Empty n (attributes_among ks) ∷ next
  tree_tokens (node kind.Text n v ks) next = text_tokens v ++ next
  tree_tokens (node kind.Comment n v ks) next = Comment v ∷ next
  tree_tokens (node kind.Instruction n v ks) next = Instruction n v ∷ next
  tree_tokens t next = next

  pub all_tokens : Trees → List Token → List Token
  all_tokens none next = next
  all_tokens (more t ts) next = tree_tokens t (all_tokens ts next)

-- each tree, followed by a line feed
abbrev pub line_tokens : Trees → List Token
line_tokens none = []
line_tokens (more t ts) = tree_tokens t (Character 10 ∷ line_tokens ts)

abbrev pub saved_tokens : Tree → List Token
saved_tokens (node k n v ks) = line_tokens ks
