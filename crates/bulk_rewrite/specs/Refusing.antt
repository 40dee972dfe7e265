-- Which nodes may not be renamed, found by a run downward.
use Rattle.std.specs.Prelude.{◌≡◌, ◌≢◌, ℕ, ◌&&◌, ◌||◌, not, List, Bool, true, false, Some, slice_get, slice_index_or}
use Rattle.plain_tree.specs.declared.kind.Kind.{Kind}
use Rattle.plain_tree.specs.declared.kind.Kind.TheVariants.{Document, Element, Attribute, Text, Comment, Instruction}
use Rattle.plain_tree.specs.Tree.{node, Trees, none, more}
use Rattle.plain_tree.specs.Lawful.{IsLawfulName, IsNew}
use Rattle.plain_tree.specs.NodePairs.{Pair}
use Rattle.slt_grammar.specs.Algebras.{Algebra}
use Rattle.slt_grammar.specs.Automata.{Downward}
use Rattle.slt_grammar.specs.Terms.{Term, Leaf, Node, Hole, up}
use Rattle.slt_grammar.specs.declared.automata.Fell.{Fell}
use Rattle.bulk_rewrite.specs.declared.refusing.Sign.{Sign}
use Rattle.bulk_rewrite.specs.declared.refusing.NameCame.{NameCame}

-- elements, attributes and instructions have names
abbrev pub is_renamable : Kind → Bool
is_renamable Document = false
is_renamable Element = true
is_renamable Attribute = true
is_renamable Text = false
is_renamable Comment = false
is_renamable Instruction = true

abbrev pub is_attribute : Kind → Bool
is_attribute Document = false
is_attribute Element = false
is_attribute Attribute = true
is_attribute Text = false
is_attribute Comment = false
is_attribute Instruction = false

-- what symbols tell for a new name, as functions
pub record Signs : Type 0 where
  pub allowed : ℕ → Bool
  pub attributes : ℕ → Bool
  pub same : ℕ → Bool

-- those of a list, where other symbols tell nothing
abbrev pub no_sign : Sign
no_sign = record { allowed = false; attribute = false; same = false }

abbrev pub signs_of : List Sign → Signs
signs_of signs = record {
  allowed = λ f. (slice_index_or signs f no_sign).allowed;
  attributes = λ f. (slice_index_or signs f no_sign).attribute;
  same = λ f. (slice_index_or signs f no_sign).same;
}

-- a sign tells whether a node of a kind and name may have a new name, is an attribute, and has it already
pub record IsSignFor (name : List ℕ) (p : Pair) (sign : Sign) : Type 0 where
  pub may : sign.allowed ≡ true → (is_renamable p.0 ≡ true) × IsLawfulName p.0 name
  pub must : is_renamable p.0 ≡ true → IsLawfulName p.0 name → sign.allowed ≡ true
  pub attribute : sign.attribute ≡ is_attribute p.0
  pub alike : sign.same ≡ true → p.1 ≡ name
  pub unlike : sign.same ≡ false → p.1 ≢ name

pub record AreSigns (names : List (Kind × List ℕ)) (name : List ℕ) (signs : Signs) : Type 0 where
  pub may : (f : ℕ) (kind : Kind) (old : List ℕ) → slice_get names f ≡ Some (kind, old) → signs.allowed f ≡ true → (is_renamable kind ≡ true) × IsLawfulName kind name
  pub must : (f : ℕ) (kind : Kind) (old : List ℕ) → slice_get names f ≡ Some (kind, old) → is_renamable kind ≡ true → IsLawfulName kind name → signs.allowed f ≡ true
  pub attribute : (f : ℕ) (kind : Kind) (old : List ℕ) → slice_get names f ≡ Some (kind, old) → signs.attributes f ≡ is_attribute kind
  pub alike : (f : ℕ) (kind : Kind) (old : List ℕ) → slice_get names f ≡ Some (kind, old) → signs.same f ≡ true → old ≡ name
  pub unlike : (f : ℕ) (kind : Kind) (old : List ℕ) → slice_get names f ≡ Some (kind, old) → signs.same f ≡ false → old ≢ name

-- an attribute has the new name afterwards
abbrev pub gets : Signs → ℕ → Bool → Bool
gets signs f hit = signs.attributes f && (hit || signs.same f)

-- a step of the run that hits what may not be
abbrev pub refusing_step : {D : Type 0} → Signs → ℕ → Bool → Fell D → Fell (NameCame D)
refusing_step signs f came s = record {
  hit = (s.hit && not (signs.allowed f)) || (gets signs f s.hit && came);
  left = record { down = s.left; came = false };
  right = record { down = s.right; came = came || gets signs f s.hit };
}

abbrev pub refusing_run : {S D : Type 0} → Downward S D → Signs → Downward S (NameCame D)
refusing_run W signs = record { start = record { down = W.start; came = false }; step = λ f o k r. refusing_step signs f o.came (W.step f o.down k r) }

-- nothing is hit of a term
abbrev pub NoneHit : {S D : Type 0} → Algebra S → Downward S D → Term → List S → D → Type 0
NoneHit A W Leaf states d = Unit {0}
NoneHit A W (Hole i) states d = Unit {0}
NoneHit A W (Node f a b) states d =
    let s = W.step f d (up A a states) (up A b states) in
    (s.hit ≡ false) × NoneHit A W a states s.left × NoneHit A W b states s.right

-- the attributes among siblings have different names
abbrev pub AttributesDiffer : Trees → Type 0
AttributesDiffer none = Unit {0}
AttributesDiffer (more (node kind name value kids) ts) = (kind ≡ Attribute → IsNew name ts) × AttributesDiffer ts
