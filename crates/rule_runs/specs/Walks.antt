-- The walk of a body from its root, and what it tells.
use Rattle.std.specs.Prelude.{ℕ, suc, List, [], ◌∷◌, ◌++◌, get_or, take, drop}
use Rattle.rule_arena.specs.declared.label.Label.{Label}
use Rattle.rule_arena.specs.declared.label.Label.TheVariants.{Bottom, Symbol, Call, Param}
use Rattle.slt_grammar.specs.Algebras.{Algebra, ranks_of}
use Rattle.slt_grammar.specs.Automata.{Downward, handed}
use Rattle.slt_grammar.specs.Grammars.{value_at}
use Rattle.rule_runs.specs.Reached.{states_of}
use Rattle.slt_grammar.specs.Terms.{Term}
use Rattle.slt_grammar.specs.declared.rules.Rule.{Rule}
use Rattle.rule_runs.specs.Cuts.{Stretch, nothing, one, beside, before, joined, cut}

-- what is still open on the way through a body: terms with their down states, and stretches of calls behind their arguments
pub data Open (D : Type 0) : Type 0 where
  Place : D → Open D
  Piece : Stretch → Open D

-- the stretches that stand before the next place
abbrev pub absorbed : {D : Type 0} → Stretch → List (Open D) → Stretch
absorbed here [] = here
absorbed here (Place d ∷ ms) = here
absorbed here (Piece s ∷ ms) = absorbed (beside here s) ms

-- what is open behind the next place
abbrev pub after : {D : Type 0} → List (Open D) → List (Open D)
after [] = []
after (Place d ∷ ms) = ms
after (Piece s ∷ ms) = after ms

-- the down state of the next place
abbrev pub down_at : {D : Type 0} → D → List (Open D) → D
down_at start [] = start
down_at start (Place d ∷ ms) = d
down_at start (Piece s ∷ ms) = down_at start ms

-- how many places are open, and their down states
abbrev pub places : {D : Type 0} → List (Open D) → ℕ
places [] = 0
places (Place d ∷ ms) = suc (places ms)
places (Piece s ∷ ms) = places ms

abbrev pub downs_of : {D : Type 0} → List (Open D) → List D
downs_of [] = []
downs_of (Place d ∷ ms) = d ∷ downs_of ms
downs_of (Piece s ∷ ms) = downs_of ms

-- what a call opens: its arguments' places, with the called rule's stretches behind each
abbrev pub woven_marks : {D : Type 0} → List D → List Stretch → List (Open D)
woven_marks [] ss = []
woven_marks (d ∷ ds) [] = Place d ∷ woven_marks ds []
woven_marks (d ∷ ds) (s ∷ ss) = Place d ∷ Piece s ∷ woven_marks ds ss

module _ {S D : Type 0} (A : Algebra S) (W : Downward S D) (G : List Rule) where
  -- the states of a call's arguments, where these labels stand behind it
  abbrev pub kids_of : ℕ → List S → List Label → List S
  kids_of q args ls = take (get_or (ranks_of G) q 0) (states_of A G args ls)

  -- the stretches of a body between its parameters, from its root on
  abbrev pub told : List S → Stretch → List (Open D) → List Label → List Stretch
  told args here ms [] = absorbed here ms ∷ []
  told args here ms (Param ∷ ls) = absorbed here ms ∷ told (drop 1 args) nothing (after ms) ls
  told args here ms (Bottom ∷ ls) = told args (absorbed here ms) (after ms) ls
  told args here ms (Symbol f ∷ ls) =
      let kids = states_of A G args ls in
      let s = W.step f (down_at W.start ms) (get_or kids 0 A.bottom) (get_or kids 1 A.bottom) in
      told args (beside (absorbed here ms) (one s.hit f)) (Place s.left ∷ Place s.right ∷ after ms) ls
  told args here ms (Call q ∷ ls) =
      let kids = kids_of q args ls in
      let d = down_at W.start ms in
      let ss = cut A W (value_at G q) kids d in
      told args (beside (absorbed here ms) (get_or ss 0 nothing)) (woven_marks (handed A W (value_at G q) kids d) (drop 1 ss) ++ after ms) ls

  -- the down states of a body's parameters, in their order, from those of the terms that its labels are
  abbrev pub param_downs : List S → List D → List Label → List D
  param_downs args ds [] = []
  param_downs args ds (Param ∷ ls) = get_or ds 0 W.start ∷ param_downs (drop 1 args) (drop 1 ds) ls
  param_downs args ds (Bottom ∷ ls) = param_downs args (drop 1 ds) ls
  param_downs args ds (Symbol f ∷ ls) =
      let kids = states_of A G args ls in
      let s = W.step f (get_or ds 0 W.start) (get_or kids 0 A.bottom) (get_or kids 1 A.bottom) in
      param_downs args (s.left ∷ s.right ∷ drop 1 ds) ls
  param_downs args ds (Call q ∷ ls) = param_downs args (handed A W (value_at G q) (kids_of q args ls) (get_or ds 0 W.start) ++ drop 1 ds) ls

  -- what terms tell whose places are open, as a body's walk tells it of its labels
  abbrev pub woven : List S → Stretch → List (Open D) → List Term → List Stretch
  woven states here [] ts = here ∷ []
  woven states here (Piece s ∷ ms) ts = woven states (beside here s) ms ts
  woven states here (Place d ∷ ms) [] = here ∷ []
  woven states here (Place d ∷ ms) (t ∷ ts) = before here (joined (cut A W t states d) (woven states nothing ms ts))
