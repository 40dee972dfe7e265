-- The hits of a selector that asks for nothing of the nodes below, where the query has no filters.
use Rattle.std.proofs.Common.{◌≡◌, ◌<◌, ℕ, zero, suc, ◌+◌, List, [], ◌∷◌, ◌++◌, Bool, true, false, IsTrue, if◌then◌else◌, refl, sym, ap, ◌∙◌, arith}
use Rattle.slt_grammar.specs.Automata.{hits_from, nodes_in}
use Rattle.slt_grammar.specs.Terms.{Term, Leaf, Node, Hole, up}
use Rattle.slt_grammar.specs.declared.automata.Fell.{Fell}
use Rattle.selecting_automaton.specs.declared.states.Down.{Down}
use Rattle.selecting_automaton.specs.declared.states.Up.{Up}
use Rattle.selecting_automaton.specs.Turning.{fall}
use Rattle.selecting_automaton.specs.Unfiltered.{blind_algebra, blind_downward, HitsBlindly}
use Rattle.selecting_automaton.specs.Wanting.{eyes}
use Rattle.selecting_automaton.specs.Words.{Selection, fallen, known_of, marks_of, seeks, walks, word_algebra, word_downward}

pub none-above : (n : ℕ) (b : Bool) → (0 < n → IsTrue b) → b ≡ false → n ≡ 0
none-above zero b h e = refl
none-above (suc n) true h e = absurd (cc)
none-above (suc n) false h e = absurd (let z : IsTrue false = h (omega arith) in cc)

module _ (s : Selection) (unfiltered : seeks s.turns ≡ 0) where
  -- no step depends on what is known of the nodes below
  same-step : (f : ℕ) (d : Down) (x y : Up) → (word_downward s).step f d (word_algebra s).bottom (word_algebra s).bottom ≡ (word_downward s).step f d x y
  same-step f d x y =
      let step : ℕ → Up → Up → Fell Down = λ n u v. fallen (fall (eyes s.kinds) f s.turns [] (known_of n u) (known_of n v) d.start false (marks_of (walks s.turns) d)) in
      let b = (word_algebra s).bottom in
      ap (λ n. step n b b) unfiltered ∙ sym (ap (λ n. step n x y) unfiltered)

  same-hits : (n : ℕ) (t : Term) (d : Down) → hits_from blind_algebra (blind_downward s) n t [] d ≡ hits_from (word_algebra s) (word_downward s) n t [] d
  same-hits n Leaf d = refl
  same-hits n (Hole i) d = refl
  same-hits n (Node f a b) d =
      let x = up (word_algebra s) a [] in
      let y = up (word_algebra s) b [] in
      let w = (word_downward s).step f d x y in
      let told : Fell Down → List ℕ = λ z. (if z.hit then n ∷ [] else []) ++ (hits_from blind_algebra (blind_downward s) (suc n) a [] z.left ++ hits_from blind_algebra (blind_downward s) (suc n + nodes_in a) b [] z.right) in
      ap told (same-step f d x y)
      ∙ ap (λ hs. (if w.hit then n ∷ [] else []) ++ (hs ++ hits_from blind_algebra (blind_downward s) (suc n + nodes_in a) b [] w.right)) (same-hits (suc n) a w.left)
      ∙ ap (λ hs. (if w.hit then n ∷ [] else []) ++ (hits_from (word_algebra s) (word_downward s) (suc n) a [] w.left ++ hs)) (same-hits (suc n + nodes_in a) b w.right)

  pub hits-blindly : HitsBlindly s
  hits-blindly t = same-hits 0 t (word_downward s).start
