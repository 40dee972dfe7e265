-- What becomes of the texts of a document whose nodes are taken out.
use Rattle.std.specs.Prelude.{ℕ, ◌&&◌, List, [], ◌∷◌, ◌++◌, Bool, true, false, if◌then◌else◌}
use Rattle.plain_tree.specs.Joined.{front_text}
use Rattle.slt_grammar.specs.Algebras.{Algebra}
use Rattle.slt_grammar.specs.Automata.{Downward}
use Rattle.slt_grammar.specs.Terms.{Term, Leaf, Node, Hole, up}
use Rattle.bulk_rewrite.specs.Joining.{Before, NoText, JustText, GapText, is_gap, Marked, Lost, At, step_joining, Rests, begins_met, joined_rests}
pub use Rattle.bulk_rewrite.specs.declared.tagging.Fate.{Fate}
pub use Rattle.bulk_rewrite.specs.declared.tagging.Fate.TheVariants.{Stays, Joins, Drops}

abbrev pub fate_of : {D : Type 0} → Marked D → Bool → Bool → Fate
fate_of Lost hit text = Drops
fate_of (At d m) hit text = if hit then Drops else (if text && is_gap m then Joins else Stays)

abbrev pub one_fate : Bool → Fate → List Fate
one_fate true x = x ∷ []
one_fate false x = []

-- the fates of the values of a term's nodes, in document order, where these symbols have values and those are texts
module _ {S D : Type 0} (A : Algebra S) (W : Downward S D) (valued texts : ℕ → Bool) where
  abbrev pub fates : Term → List S → Marked D → List Fate
  fates Leaf states o = []
  fates (Hole i) states o = []
  fates (Node f a b) states o =
      let s = step_joining W texts f o (up A a states) (up A b states) in
      one_fate (valued f) (fate_of o s.hit (texts f)) ++ (fates a states s.left ++ fates b states s.right)

-- what values become: what goes to the text before them, and the new values
pub record Redone : Type 0 where
  pub front : List ℕ
  pub values : List (List ℕ)

abbrev pub redone_one : Fate → List ℕ → Redone → Redone
redone_one Drops v r = r
redone_one Joins v r = record { front = v ++ r.front; values = r.values }
redone_one Stays v r = record { front = []; values = (v ++ r.front) ∷ r.values }

abbrev pub redone : List Fate → List (List ℕ) → Redone
redone [] vs = record { front = []; values = [] }
redone (x ∷ xs) [] = record { front = []; values = [] }
redone (x ∷ xs) (v ∷ vs) = redone_one x v (redone xs vs)

-- the same of values that all have one fate, before others
abbrev pub redone_alike : Fate → List (List ℕ) → Redone → Redone
redone_alike x [] r = r
redone_alike x (v ∷ vs) r = redone_one x v (redone_alike x vs r)

-- what of trees is a part of the text before them
abbrev pub met_front : Before → Rests → List ℕ
met_front NoText ts = []
met_front JustText ts = if begins_met ts then front_text (joined_rests ts) else []
met_front GapText ts = if begins_met ts then front_text (joined_rests ts) else []
