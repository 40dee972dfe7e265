-- Which symbols steps take, where symbols are places in a table of kinds and names.
use Rattle.std.specs.Prelude.{ℕ, suc, ◌+◌, ◌*◌, ◌/◌, ◌%◌, length, List, [], ◌∷◌, Bool, true, false, ◌==◌, ◌&&◌, Option, Some, None, get_or, map, if◌then◌else◌}
use Rattle.std.specs.Option.{option_map_or}
use Rattle.std.specs.Str.{bytes_eq}
use Rattle.plain_tree.specs.declared.kind.Kind.{Kind}
use Rattle.plain_tree.specs.declared.kind.Kind.TheVariants as kinds
use Rattle.plain_tree.specs.Tree.{kind_code}
use Rattle.xpath_parser.specs.declared.query.Axis.{Axis}
use Rattle.xpath_parser.specs.Queries.{Test, Star, Name, AnyNode, TextNode, CommentNode, InstructionNode, TextOf, NameOf}
use Rattle.xpath_parser.specs.Numbering.{principal}
use Rattle.selecting_automaton.specs.declared.turns.Wanted.{Wanted}
use Rattle.selecting_automaton.specs.declared.turns.Wanted.TheVariants.{Nothing, Anything, OfKind, Named, TextWith, Exactly}
use Rattle.selecting_automaton.specs.Turning.{Eyes}

-- the first place, from i on, of a kind and a name
abbrev pub place_from : ℕ → Kind → List ℕ → List (Kind × List ℕ) → Option ℕ
place_from i kind name [] = None
place_from i kind name ((k, n) ∷ pairs) = if (kind_code k == kind_code kind) && bytes_eq n name then Some i else place_from (suc i) kind name pairs

-- what a step takes: a name that the table hasn't, and a value without a mark, nothing
module _ (names : List (Kind × List ℕ)) (mark : List ℕ → ℕ) where
  abbrev pub wanted : Axis → Test → Wanted
  wanted a Star = OfKind (principal a)
  wanted a (Name n) = option_map_or Named (place_from 0 (principal a) n names) Nothing
  wanted a AnyNode = Anything
  wanted a TextNode = OfKind kinds.Text
  wanted a CommentNode = OfKind kinds.Comment
  wanted a InstructionNode = OfKind kinds.Instruction
  wanted a (TextOf v) = if mark v == 0 then Nothing else TextWith (mark v)
  wanted a (NameOf x v) = if mark v == 0 then Nothing else option_map_or (λ s. Exactly (s + length names * mark v)) (place_from 0 kinds.Attribute x names) Nothing

-- a symbol without its mark, and the mark: the symbols of a mark stand behind all those of the marks before it
abbrev pub base_of : List Kind → ℕ → ℕ
base_of ks f = f % length ks

abbrev pub mark_in : List Kind → ℕ → ℕ
mark_in ks f = f / length ks

abbrev pub kind_in : List Kind → ℕ → Kind
kind_in ks f = get_or ks (base_of ks f) kinds.Document

abbrev pub takes_symbol : List Kind → Wanted → ℕ → Bool
takes_symbol ks Nothing f = false
takes_symbol ks Anything f = true
takes_symbol ks (OfKind k) f = kind_code k == kind_code (kind_in ks f)
takes_symbol ks (Named s) f = s == base_of ks f
takes_symbol ks (TextWith m) f = (kind_code kinds.Text == kind_code (kind_in ks f)) && (m == mark_in ks f)
takes_symbol ks (Exactly s) f = s == f

-- symbols as places in a list of kinds
abbrev pub eyes : List Kind → Eyes
eyes ks = record {
  attribute = λ f. kind_code (kind_in ks f) == 2;
  takes = takes_symbol ks;
}

abbrev pub kinds_of : List (Kind × List ℕ) → List Kind
kinds_of = map (λ (pair : Kind × List ℕ). pair.0)
