-- Bodies label by label: how many texts terms have, and what a label becomes.
use Rattle.std.specs.Prelude.{◌≡◌, ℕ, ◌+◌, List, [], ◌∷◌, ◌++◌, take, drop, get_or, map, Option, Some, None, slice_get, true, ◌⊎◌}
use Rattle.rule_arena.specs.declared.label.Label.{Label}
use Rattle.rule_arena.specs.declared.label.Label.TheVariants.{Bottom, Symbol, Call, Param}
use Rattle.slt_grammar.specs.Algebras.{apply, ranks_of, all_meanings}
use Rattle.slt_grammar.specs.Automata.{handed}
use Rattle.slt_grammar.specs.Bodies.{arity}
use Rattle.slt_grammar.specs.Grammars.{value_at}
use Rattle.slt_grammar.specs.declared.rules.Rule.{Rule}
use Rattle.value_tests.specs.Relabelled.{Spot, Serves, AreRelabelled, states_of}
use Rattle.value_tests.specs.Marking.{is_marked}
use Rattle.value_tests.specs.TextPlaces.{sizes, placing, marked}

-- a spot without a marked text
abbrev pub IsPlainSpot : List (Spot ℕ (Option ℕ)) → ℕ → ℕ → Type 0
IsPlainSpot spots id q = (s : Spot ℕ (Option ℕ)) × (slice_get spots id ≡ Some s) × (s.rule ≡ q) × (s.down ≡ None)

module _ (w : Label → ℕ) (G : List Rule) where
  -- how many texts the terms have that labels are, with parameters of these sizes among them
  abbrev pub sizes_of : List ℕ → List Label → List ℕ
  sizes_of = states_of (sizes w) G

  -- what is noted of a label over the sizes behind it: of a symbol how many texts its first child has, of a call those of its arguments
  abbrev pub kid_notes : Label → List ℕ → List ℕ
  kid_notes (Symbol f) ss = take 1 ss
  kid_notes (Call q) ss = take (get_or (ranks_of G) q 0) ss
  kid_notes l ss = []

  -- the notes of labels
  abbrev pub notes_of : List ℕ → List Label → List ℕ
  notes_of args [] = []
  notes_of args (Param ∷ ls) = notes_of (drop 1 args) ls
  notes_of args (l ∷ ls) = kid_notes l (sizes_of args ls) ++ notes_of args ls

  -- the sizes from a label on, which is no parameter
  abbrev pub sized : Label → List ℕ → List ℕ
  sized l ss = apply (sizes w) (all_meanings (sizes w) G) l (take (arity (ranks_of G) l) ss) ∷ drop (arity (ranks_of G) l) ss

  module _ (symbols : ℕ) (marks : ℕ → ℕ) (spots : List (Spot ℕ (Option ℕ))) where
    -- the spot of a marked instance
    abbrev pub IsMarkedSpot : ℕ → ℕ → List ℕ → Option ℕ → Type 0
    IsMarkedSpot id q kids d = (slice_get spots id ≡ Some (record { rule = q; states = kids; down = d })) × (is_marked w marks G q kids d ≡ true)

    -- a spot has the value of a rule at a place, and is without marks or of this very instance, which is marked
    pub record ServesAt (id q : ℕ) (kids : List ℕ) (d : Option ℕ) : Type 0 where
      pub serves : Serves (sizes w) (placing w) (marked w symbols marks) G spots id q kids d
      pub kind : IsPlainSpot spots id q ⊎ IsMarkedSpot id q kids d

    -- a body becomes another, from sizes of its parameters and the places of its terms
    abbrev pub Becomes : List ℕ → List (Option ℕ) → List Label → List Label → Type 0
    Becomes = AreRelabelled (sizes w) (placing w) (marked w symbols marks) G ServesAt

    -- what a label at a place becomes, over the sizes behind it, and the places that it opens
    abbrev pub StepsTo : Label → ℕ → List ℕ → Label → List ℕ → Type 0
    StepsTo Bottom p ss m opened = (m ≡ Bottom) × (opened ≡ [])
    StepsTo Param p ss m opened = (m ≡ Param) × (opened ≡ [])
    StepsTo (Symbol f) p ss m opened = (m ≡ Symbol (marked w symbols marks f (Some p))) × (opened ≡ (p + w (Symbol f)) ∷ (p + (w (Symbol f) + get_or ss 0 0)) ∷ [])
    StepsTo (Call q) p ss m opened =
        let kids = take (get_or (ranks_of G) q 0) ss in
        ((id : ℕ) × (m ≡ Call id) × ServesAt id q kids (Some p)) × (map Some opened ≡ handed (sizes w) (placing w) (value_at G q) kids (Some p))

-- a label where no text is marked becomes another
abbrev pub IsPlainStep : List (Spot ℕ (Option ℕ)) → Label → Label → Type 0
IsPlainStep spots (Call q) m = (id : ℕ) × (m ≡ Call id) × IsPlainSpot spots id q
IsPlainStep spots l m = m ≡ l

-- a list with more behind it
abbrev pub Extends : {X : Type 0} → List X → List X → Type 0
Extends {X} old new = (more : List X) × (new ≡ old ++ more)
