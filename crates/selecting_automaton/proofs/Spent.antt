-- From a down state in which no path is on its way nothing is hit.
use Rattle.std.proofs.Common.{◌≡◌, ℕ, List, [], ◌∷◌, Bool, false, refl, ap, sym, ◌∙◌, drop}
use Rattle.std.specs.Prelude.{◌&&◌}
use Rattle.xpath_parser.specs.declared.query.Axis.{Axis}
use Rattle.xpath_parser.specs.declared.query.Axis.TheVariants.{Child, Descendant, DescendantOrSelf, SelfNode, FollowingSibling, Attribute}
use Rattle.slt_grammar.specs.Automata.{IsSpent}
use Rattle.slt_grammar.specs.declared.automata.Fell.{Fell}
use Rattle.selecting_automaton.specs.declared.states.Down.{Down}
use Rattle.selecting_automaton.specs.declared.turns.Turn.{Turn}
use Rattle.selecting_automaton.specs.declared.turns.Turn.TheVariants as turns
use Rattle.selecting_automaton.specs.Turning.{Eyes, Known, Marks, Given, unmarked, top, arrives, giving, hitting, fall, nothing_marked}
use Rattle.selecting_automaton.specs.Wanting.{eyes}
use Rattle.selecting_automaton.specs.Words.{known_of, fallen, seeks, Selection, word_downward}
use Rattle.selecting_automaton.proofs.Packing.{zeros, none_marked, marks_again}

module _ (E : Eyes) (f : ℕ) where
  -- no step ends here that begins nowhere
  none-arrives : (a : Axis) → arrives E a f false unmarked ≡ false
  none-arrives Child = refl
  none-arrives Descendant = refl
  none-arrives DescendantOrSelf = refl
  none-arrives SelfNode = refl
  none-arrives FollowingSibling = refl
  none-arrives Attribute = refl

  abbrev nothing_given : List Turn → Given
  nothing_given ts = record { hit = false; kids = nothing_marked ts; rest = nothing_marked ts }

  -- where no step may begin, nothing is hit, and none may begin at the kids and at the later siblings
  nothing-falls : (ts : List Turn) (st : List Bool) (xs ys : List Known) → fall E f ts st xs ys false false (nothing_marked ts) ≡ nothing_given ts
  nothing-falls [] st xs ys = refl
  nothing-falls (turns.Truth b ∷ ts) st xs ys = nothing-falls ts _ xs ys
  nothing-falls (turns.Not ∷ ts) st xs ys = nothing-falls ts _ xs ys
  nothing-falls (turns.Or ∷ ts) st xs ys = nothing-falls ts _ xs ys
  nothing-falls (turns.And ∷ ts) st xs ys = nothing-falls ts _ xs ys
  nothing-falls (turns.Seek a w ∷ ts) st xs ys = nothing-falls ts _ _ _
  nothing-falls (turns.Begin ∷ ts) st xs ys = nothing-falls ts st xs ys
  nothing-falls (turns.Walk a w ∷ ts) st xs ys =
      ap (λ (b : Bool). giving unmarked unmarked (fall E f ts (drop 1 st) xs ys false (b && (E.takes w f && top st)) (nothing_marked ts))) (none-arrives a)
      ∙ ap (giving unmarked unmarked) (nothing-falls ts (drop 1 st) xs ys)
  nothing-falls (turns.End ∷ ts) st xs ys = ap (hitting false) (nothing-falls ts st xs ys)

-- the same in words: without a start and a mark the down state is spent
pub zeros-spent : (s : Selection) → IsSpent (word_downward s) (zeros false)
zeros-spent s f x y =
    let xs = known_of (seeks s.turns) x in
    let ys = known_of (seeks s.turns) y in
    ap (λ (d : Down). (word_downward s).step f d x y) (none_marked false s.turns)
    ∙ ap (λ (ms : List Marks). fallen (fall (eyes s.kinds) f s.turns [] xs ys false false ms)) (marks_again false (nothing_marked s.turns))
    ∙ ap fallen (nothing-falls (eyes s.kinds) f s.turns [] xs ys)
    ∙ ap (λ (d : Down). let r : Fell Down = record { hit = false; left = d; right = d } in r) (sym (none_marked false s.turns))
