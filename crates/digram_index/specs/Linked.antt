-- What contracts see of an index, and how it is kept.
use Rattle.slt_grammar.specs.contracts.digram.DigramPartialEq.TheImpl as eqs
use Rattle.std.specs.Prelude.{◌≡◌, ◌≢◌, ◌<◌, ◌≤◌, ◌+◌, if◌then◌else◌, ℕ, List, [], ◌∷◌, length, get_or, Option, Some, None, Bool, false, IsTrue}
use Rattle.rule_arena.specs.declared.key.Key.{Key}
use Rattle.rule_arena.specs.declared.label.Label.{Label}
use Rattle.rule_arena.specs.declared.label.Label.TheVariants.{Bottom, Symbol, Call, Param}
use Rattle.slt_grammar.specs.Editing.{shifted_label}
use Rattle.slt_grammar.specs.Keyed.{Keyed, key_at}
use Rattle.slt_grammar.specs.Placing.{unshifted_label}
use Rattle.digram_index.specs.declared.patterns.Mark.{Mark}
use Rattle.digram_index.specs.declared.patterns.Mark.TheVariants.{Bottom as NoMark, Symbol as SymbolMark, Call as CallMark, Param as ParamMark}
use Rattle.digram_index.specs.declared.patterns.Pattern.{Pattern}
use Rattle.slt_grammar.specs.declared.digram.Digram.{Digram}
use Rattle.digram_index.specs.Numbers.{Numbering, place_of, IsGiven}
use Rattle.digram_index.specs.Spots.{Spot, Entered, spot_at}
use Rattle.digram_index.specs.Digrams.{Cell, occurrence_at}

-- how many rules the index knows, for each rule the number that it has for life, below which number all were given so far, for each
-- number of a node the occurrence that is linked there and whether the node is marked, and for how many more occurrences and rules there
-- is room
pub record Linked : Type 0 where
  pub rules : ℕ
  pub numbers : List ℕ
  pub given : ℕ
  pub cells : List (Option Cell)
  pub marked : List Bool
  pub spare_links : ℕ
  pub spare_rules : ℕ

abbrev pub cell : Linked → ℕ → Option Cell
cell I k = get_or I.cells k None

-- the number of the rule at a place
abbrev pub number_at : Linked → ℕ → ℕ
number_at I r = get_or I.numbers r 0

-- whether the node with a number is marked
abbrev pub is_marked : Linked → ℕ → Bool
is_marked I k = get_or I.marked k false

-- the node with a number is the lower one of a linked occurrence there, and calls the rule
abbrev pub IsCallLinked : Linked → ℕ → ℕ → Type 0
IsCallLinked I rule k = (o : Cell) × ((cell I k ≡ Some o) × (o.digram.lower ≡ Call rule))

-- how many cells have the digram
abbrev pub cell_count : Digram → List (Option Cell) → ℕ
cell_count d [] = 0
cell_count d (None ∷ cs) = cell_count d cs
cell_count d (Some o ∷ cs) = (if eqs.eq-value.it o.digram d then 1 else 0) + cell_count d cs

-- the index has each occurrence of the grammar, and nothing else
pub record IsIndexOf (G : Keyed) (I : Linked) : Type 0 where
  pub rules : I.rules ≡ length G.rules
  pub all : (r p : ℕ) (key : Key) → key_at G.rules r p ≡ Some key → cell I key.number ≡ occurrence_at G.rules r p
  pub only : (k : ℕ) → cell I k ≢ None → (key : Key) × ((r : ℕ) × ((p : ℕ) × ((key_at G.rules r p ≡ Some key) × (key.number ≡ k))))

-- a label from a rule's number
abbrev pub label_of : List ℕ → Mark → Label
label_of ns NoMark = Bottom
label_of ns (SymbolMark f) = Symbol f
label_of ns (CallMark n) = Call (place_of ns n)
label_of ns ParamMark = Param

abbrev pub IsKnown : List ℕ → Mark → Type 0
IsKnown ns NoMark = Unit {0}
IsKnown ns (SymbolMark f) = Unit {0}
IsKnown ns (CallMark n) = IsGiven ns n
IsKnown ns ParamMark = Unit {0}

abbrev pub digram_of : List ℕ → Pattern → Digram
digram_of ns p = record { upper = label_of ns p.upper; place = p.place; lower = label_of ns p.lower }

abbrev pub cell_of : List ℕ → Option Spot → Option Cell
cell_of ns None = None
cell_of ns (Some s) = Some (record { digram = digram_of ns s.pattern; rank = s.pattern.rank; upper = s.upper })

-- the calls of linked digrams are of rules that the index knows, and each number that was given may be called
pub record AreKnown (n : Numbering) (e : Entered) : Type 0 where
  pub callees : n.given ≤ e.callees
  pub upper : (k : ℕ) (s : Spot) → spot_at e k ≡ Some s → IsKnown n.numbers s.pattern.upper
  pub lower : (k : ℕ) (s : Spot) → spot_at e k ≡ Some s → IsKnown n.numbers s.pattern.lower
  pub small : (k : ℕ) (s : Spot) → spot_at e k ≡ Some s → s.pattern.rank < 16

-- what is marked is linked
abbrev pub AreMarksLinked : Entered → List Bool → Type 0
AreMarksLinked e marked = (k : ℕ) → IsTrue (get_or marked k false) → spot_at e k ≢ None

pub record IsKept (n : Numbering) (e : Entered) (marked : List Bool) : Type 0 where
  pub known : AreKnown n e
  pub marks : AreMarksLinked e marked

-- an occurrence once a rule was put before the rule at place
abbrev pub shifted_digram : ℕ → Digram → Digram
shifted_digram place d = record { upper = shifted_label place d.upper; place = d.place; lower = shifted_label place d.lower }

abbrev pub shifted_cell : ℕ → Option Cell → Option Cell
shifted_cell place None = None
shifted_cell place (Some o) = Some (record { digram = shifted_digram place o.digram; rank = o.rank; upper = o.upper })

-- an occurrence once the rule at place is gone
abbrev pub unshifted_cell : ℕ → Option Cell → Option Cell
unshifted_cell place None = None
unshifted_cell place (Some o) = Some (record {
  digram = record { upper = unshifted_label place o.digram.upper; place = o.digram.place; lower = unshifted_label place o.digram.lower };
  rank = o.rank;
  upper = o.upper;
})

-- no label of a linked digram is a call of the rule at place
abbrev pub Lacks : Linked → ℕ → Type 0
Lacks I place = (k : ℕ) (o : Cell) → cell I k ≡ Some o → (o.digram.upper ≢ Call place) × (o.digram.lower ≢ Call place)
