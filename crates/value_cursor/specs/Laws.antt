-- The law of cursors.
use Rattle.std.specs.Prelude.{◌≡◌, ℕ, List, Some, slice_get}
use Rattle.plain_tree.specs.declared.kind.Kind.{Kind}
use Rattle.plain_tree.specs.Numbers.{nodes}
use Rattle.plain_tree.specs.Tree.{Tree, none, more}
use Rattle.slt_grammar.specs.Coding.{Codes}
use Rattle.slt_grammar.specs.Grammars.{value}
use Rattle.slt_grammar.specs.Keyed.{KeyedRule, rules_of}
use Rattle.value_cursor.specs.Cursors.{BeginsAtNode, tokens_of}
use Rattle.value_cursor.specs.Tokens.{Tells}
use Rattle.value_cursor.specs.declared.cursor.Cursor.{Cursor}

-- where the value is a tree's code, a cursor that begins at a number gives the tokens of the tree's node with that number
abbrev pub CursorsTellSubtrees : Type 0
CursorsTellSubtrees = (G : List KeyedRule) (names : List (Kind × List ℕ)) (t : Tree) (number : ℕ) (c : Cursor)
    → Codes names (more t none) (value (rules_of G)) → BeginsAtNode G number c
    → (s : Tree) × (slice_get (nodes t) number ≡ Some s) × Tells names s (tokens_of G c)
