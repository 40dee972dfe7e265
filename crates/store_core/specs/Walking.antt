-- A walk over the tokens of a node, with its memory.
use Rattle.std.specs.Prelude.{◌≡◌, ◌<◌, ◌^◌, ◌+◌, ◌-◌, ℕ, List, [], ◌∷◌, drop, length, reverse, vec_capacity}
use Rattle.value_cursor.specs.Cursors.{BeginsAtNode, IsInside, tokens_of}
use Rattle.value_cursor.specs.Finders.{IsSearch}
use Rattle.value_cursor.specs.declared.cursor.Cursor.{Cursor}
use Rattle.value_cursor.specs.declared.cursor.Token.{Token}
use Rattle.value_cursor.specs.declared.cursor.Token.TheVariants.{Open, Close}
use Rattle.store_core.specs.Saving.{Place, tokens_text}
use Rattle.tree_updates.specs.declared.store.Store.{Store}
use Rattle.store_core.specs.declared.showing_all.NodeSearch.{NodeSearch}
use Rattle.store_core.specs.declared.walking.NodeWalk.{NodeWalk}
use Rattle.store_core.specs.declared.walking.TokenPlace.{TokenPlace}

-- there is a place for the node that the token begins, if one, beside n open nodes
abbrev pub HasPlace : ℕ → ℕ → Token → Type 0
HasPlace room n (Open f) = n < room
HasPlace room n Close = Unit {0}

-- how many nodes are open behind the token
abbrev pub open_after : ℕ → Token → ℕ
open_after n (Open f) = n + 1
open_after n Close = n - 1

-- beside n open nodes there is a place for each node that these tokens begin
abbrev pub HasRoom : ℕ → ℕ → List Token → Type 0
HasRoom room n [] = Unit {0}
HasRoom room n (t ∷ ts) = HasPlace room n t × HasRoom room (open_after n t) ts

-- so many places are enough for the nodes that are open while a cursor gives the tokens from the node with this number on
abbrev pub AreEnough : Store → ℕ → ℕ → Type 0
AreEnough s number places = (c : Cursor) → BeginsAtNode s.grammar.rules number c → HasRoom places 0 (tokens_of s.grammar.rules c)

-- how many nodes begin
abbrev pub opens : List Token → ℕ
opens [] = 0
opens (Open f ∷ ts) = 1 + opens ts
opens (Close ∷ ts) = opens ts

-- the texts that were not used are left
abbrev pub place_of : Store → TokenPlace → Place
place_of s p = record { outer = reverse p.outer.items; texts = drop p.used s.texts.texts }

-- the walk is before its first token, and needs no more memory
pub record IsReady (s : Store) (w : NodeWalk) : Type 0 where
  pub inside : IsInside s.grammar.rules w.cursor
  pub none_open : w.place.outer.items ≡ []
  pub room : HasRoom (vec_capacity w.place.outer) 0 (tokens_of s.grammar.rules w.cursor)

-- the walk may begin anew at any node without memory
pub record GoesAnywhere (s : Store) (w : NodeWalk) : Type 0 where
  pub inside : IsInside s.grammar.rules w.cursor
  pub enough : (number : ℕ) → AreEnough s number (vec_capacity w.place.outer)

-- a search with its walk may go on to any node without memory
pub record IsSearching (s : Store) (n : NodeSearch) : Type 0 where
  pub search : IsSearch s.names s.grammar.rules n.finder
  pub walk : GoesAnywhere s n.walk

-- what is written of the node, with a line feed behind each outermost item
abbrev pub walk_text : Store → NodeWalk → List ℕ
walk_text s w = tokens_text s.names (drop w.place.used s.texts.texts) (tokens_of s.grammar.rules w.cursor)

-- so few nodes and texts that 128 bits hold the count of what is written
pub record IsCountable (s : Store) (w : NodeWalk) : Type 0 where
  pub nodes : opens (tokens_of s.grammar.rules w.cursor) < 2 ^ 63
  pub texts : length s.texts.texts < 2 ^ 60
