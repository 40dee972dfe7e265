-- The automaton of turns with its states in words: bit i is of the i-th part that is sought, or of the i-th step of the paths.
use Rattle.std.specs.Prelude.{ℕ, zero, suc, ◌+◌, ◌*◌, ◌/◌, ◌%◌, ◌==◌, List, [], ◌∷◌, map, length, Bool, true, false}
use Rattle.plain_tree.specs.declared.kind.Kind.{Kind}
use Rattle.slt_grammar.specs.Algebras.{Algebra}
use Rattle.slt_grammar.specs.Automata.{Downward}
use Rattle.slt_grammar.specs.declared.automata.Fell.{Fell}
use Rattle.selecting_automaton.specs.declared.states.Up.{Up}
use Rattle.selecting_automaton.specs.declared.states.Down.{Down}
use Rattle.selecting_automaton.specs.declared.turns.Turn.{Turn}
use Rattle.selecting_automaton.specs.Turning.{Known, Marks, Given, Fallen, nothing_known, nothing_marked, rise, fall}
use Rattle.selecting_automaton.specs.Wanting.{eyes}

abbrev pub truth : Bool → ℕ
truth true = 1
truth false = 0

-- the word of truths, the first lowest
abbrev pub word : List Bool → ℕ
word [] = 0
word (b ∷ bs) = truth b + 2 * word bs

-- the first truth of a word
abbrev pub lowest : ℕ → Bool
lowest w = w % 2 == 1

abbrev pub up_of : List Known → Up
up_of xs = record { chain = word (map (λ (x : Known). x.chain) xs); code = word (map (λ (x : Known). x.code) xs) }

-- the first part of a state, and the state of the others
abbrev pub first_known : Up → Known
first_known u = record { chain = lowest u.chain; code = lowest u.code }

abbrev pub later_known : Up → Up
later_known u = record { chain = u.chain / 2; code = u.code / 2 }

-- n parts of a state
abbrev pub known_of : ℕ → Up → List Known
known_of zero u = []
known_of (suc n) u = first_known u ∷ known_of n (later_known u)

abbrev pub down_of : Fallen → Down
down_of d = record {
  start = d.start;
  parent = word (map (λ (m : Marks). m.parent) d.marks);
  above = word (map (λ (m : Marks). m.above) d.marks);
  before = word (map (λ (m : Marks). m.before) d.marks);
}

-- what a node hands down, in words
abbrev pub fallen : Given → Fell Down
fallen g = record { hit = g.hit; left = down_of (record { start = false; marks = g.kids }); right = down_of (record { start = false; marks = g.rest }) }

-- the first step's marks, and those of the others
abbrev pub first_marks : Down → Marks
first_marks d = record { parent = lowest d.parent; above = lowest d.above; before = lowest d.before }

abbrev pub later_marks : Down → Down
later_marks d = record { start = d.start; parent = d.parent / 2; above = d.above / 2; before = d.before / 2 }

-- n steps' marks
abbrev pub marks_of : ℕ → Down → List Marks
marks_of zero d = []
marks_of (suc n) d = first_marks d ∷ marks_of n (later_marks d)

-- how many parts of filters are sought, and how many steps the paths have
abbrev pub seeks : List Turn → ℕ
seeks ts = length (nothing_known ts)

abbrev pub walks : List Turn → ℕ
walks ts = length (nothing_marked ts)

-- what a selector is: the kinds of the symbols, and turns
pub record Selection : Type 0 where
  pub kinds : List Kind
  pub turns : List Turn

abbrev pub word_algebra : Selection → Algebra Up
word_algebra s = record {
  bottom = record { chain = 0; code = 0 };
  node = λ f x y. up_of (rise (eyes s.kinds) f s.turns [] (known_of (seeks s.turns) x) (known_of (seeks s.turns) y));
}

abbrev pub word_downward : Selection → Downward Up Down
word_downward s = record {
  start = record { start = true; parent = 0; above = 0; before = 0 };
  step = λ f d x y. fallen (fall (eyes s.kinds) f s.turns [] (known_of (seeks s.turns) x) (known_of (seeks s.turns) y) d.start false (marks_of (walks s.turns) d));
}
