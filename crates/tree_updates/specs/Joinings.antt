-- Texts that meet where trees come before a node, and the edits one after another that this comes to.
use Rattle.std.specs.Prelude.{◌≡◌, ℕ, ◌+◌, ◌-◌, ◌<◌, ◌^◌, Bool, true, false, List, [], ◌∷◌, ◌++◌, length, Option, None, Some, is_some, drop, take, slice_set}
use Rattle.plain_tree.specs.declared.edit.Edit.{Edit}
use Rattle.plain_tree.specs.declared.edit.Edit.TheVariants.{Insert, Value}
use Rattle.plain_tree.specs.declared.kind.Kind.TheVariants.{Text}
use Rattle.plain_tree.specs.EditLaws.{IsEditOf}
use Rattle.plain_tree.specs.Edits.{edited, placed}
use Rattle.plain_tree.specs.InTurn.{all_but_last, first_text, insert_any, last_text, text_before_node}
use Rattle.plain_tree.specs.Numbers.{texts_all}
use Rattle.plain_tree.specs.Siblings.{from_node}
use Rattle.plain_tree.specs.Tree.{Tree, node, Trees, none, more, trees, node_count}
use Rattle.fcns_encoding.specs.declared.coding.Coded.{Coded}
use Rattle.preorder_address.specs.TreeNumbers.{text_rank_at}
use Rattle.tree_updates.specs.Extents.{LeavesDocument}
use Rattle.tree_updates.specs.Fragments.{IsCodeOf}
use Rattle.tree_updates.specs.declared.joining.Joined.{Joined}
use Rattle.tree_updates.specs.declared.joining.Seams.{Seams}
use Rattle.tree_updates.specs.declared.store.Store.{Store}

-- the value of two texts that meet, where both are there
abbrev pub joined_value : Option (List ℕ) → Option (List ℕ) → Option (List ℕ)
joined_value (Some x) (Some y) = Some (x ++ y)
joined_value x y = None

-- of the text before node n and the first of the trees
abbrev pub front_value : Tree → ℕ → List Tree → Option (List ℕ)
front_value t n F = joined_value (text_before_node n (more t none)) (first_text (trees F))

-- and of the last of them and node n
abbrev pub back_value : Tree → ℕ → List Tree → Option (List ℕ)
back_value t n F = joined_value (last_text (trees F)) (first_text (from_node n (more t none)))

-- the trees without the first, where it is one with another text
abbrev pub without_first : Option (List ℕ) → List Tree → List Tree
without_first None F = F
without_first (Some w) F = drop 1 F

-- and without the last
abbrev pub without_last : Option (List ℕ) → List Tree → List Tree
without_last None F = F
without_last (Some w) F = all_but_last F

-- the edits, and before them that a node gets this value, if there is one
abbrev pub value_first : ℕ → Option (List ℕ) → List Edit → List Edit
value_first n None es = es
value_first n (Some w) es = Value n w ∷ es

-- the node just before node n and node n get these values, and then the trees come before node n
abbrev pub joined_edits : ℕ → Option (List ℕ) → Option (List ℕ) → List Tree → List Edit
joined_edits n front back F = value_first (n - 1) front (value_first n back (insert_any n F))

-- what texts come to where they meet
abbrev pub if_meets : Bool → Option (List ℕ) → Option (List ℕ)
if_meets true value = value
if_meets false value = None

-- so many where texts meet
abbrev pub ends : Bool → ℕ → ℕ
ends true many = many
ends false many = 0

-- the items but for so many at the front and so many at the back
abbrev pub middle : {X : Type 0} → ℕ → ℕ → List X → List X
middle front back xs = take (length xs - (front + back)) (drop front xs)

-- the texts, of which the one at a place has this value, if there is one
abbrev pub valued_texts : List (List ℕ) → ℕ → Option (List ℕ) → List (List ℕ)
valued_texts texts place None = texts
valued_texts texts place (Some w) = slice_set texts place w

-- the seams are those of the trees before node n
pub record AreSeams (t : Tree) (n : ℕ) (F : List Tree) (z : Seams) : Type 0 where
  pub front_is : z.front ≡ is_some (front_value t n F)
  pub back_is : z.back ≡ is_some (back_value t n F)

-- it is not so that one tree meets texts on both its sides
abbrev pub AreApart : Option (List ℕ) → Option (List ℕ) → List Tree → Type 0
AreApart front back F = (w v : List ℕ) (s : Tree) → front ≡ Some w → back ≡ Some v → F ≡ s ∷ [] → ⊥

-- each of the edits in turn leaves a document of fewer than 2^63 nodes, but for texts that meet
abbrev pub LeaveEach : Tree → List Edit → Type 0
LeaveEach t [] = Unit {0}
LeaveEach t (e ∷ es) = LeavesDocument t e × (node_count (placed t e) < 2 ^ 63) × LeaveEach (placed t e) es

-- a text stands just before node n
pub record HasTextBefore (t : Tree) (n : ℕ) : Type 0 where
  pub before : ℕ
  pub value : List ℕ
  pub next : Tree
  pub behind : Trees
  pub number : n ≡ before + 1
  pub from_is : from_node before (more t none) ≡ more (node Text [] value none) (more next behind)

-- node n is a text
pub record IsTextAt (t : Tree) (n : ℕ) : Type 0 where
  pub value : List ℕ
  pub behind : Trees
  pub from_is : from_node n (more t none) ≡ more (node Text [] value none) behind

-- The texts that get other values are there, the edits leave documents, and these are the code and the texts of the trees that are to come before
-- node n, whose texts begin at this rank.
pub record MayJoin (s : Store) (t : Tree) (n rank : ℕ) (F : List Tree) (j : Joined) : Type 0 where
  pub leave : LeaveEach t (joined_edits n j.front j.back F)
  pub rank_is : Some rank ≡ text_rank_at t n
  pub front_text : (w : List ℕ) → j.front ≡ Some w → HasTextBefore t n
  pub back_text : (w : List ℕ) → j.back ≡ Some w → IsTextAt t n
  pub code : IsCodeOf s.names F j.rest.body
  pub texts_are : j.rest.texts ≡ texts_all (trees F)

-- These are the code and the texts of a fragment that may be inserted before node n, whose texts begin at this rank, and the seams there.
pub record MayInsert (s : Store) (t : Tree) (n rank : ℕ) (z : Seams) (F : List Tree) (c : Coded) : Type 0 where
  pub edit_is : IsEditOf t (Insert n F)
  pub small : node_count (edited t (Insert n F)) < 2 ^ 63
  pub rank_is : Some rank ≡ text_rank_at t n
  pub seams : AreSeams t n F z
  pub code : IsCodeOf s.names F c.body
  pub texts_are : c.texts ≡ texts_all (trees F)

-- The fragment is one text, which may be inserted before node n, whose texts begin at this rank, and stands between two texts then.
pub record MayInsertBetween (t : Tree) (n rank : ℕ) (F : List Tree) (added : List (List ℕ)) : Type 0 where
  pub edit_is : IsEditOf t (Insert n F)
  pub rank_is : Some rank ≡ text_rank_at t n
  pub before : List ℕ
  pub value : List ℕ
  pub here : List ℕ
  pub one : F ≡ node Text [] value none ∷ []
  pub before_is : text_before_node n (more t none) ≡ Some before
  pub here_is : first_text (from_node n (more t none)) ≡ Some here
  pub added_is : added ≡ texts_all (trees F)
