-- Runs over states in words are runs over lists.
use Rattle.std.proofs.Common.{◌≡◌, ℕ, suc, ◌+◌, ◌*◌, ◌^◌, ◌<◌, List, [], ◌∷◌, ◌++◌, Bool, true, false, refl, ap, sym, ◌∙◌, subst, lit<, drop, length, map}
use Rattle.std.specs.Prelude.{if◌then◌else◌}
use Rattle.std.proofs.lemmas.List.{length-map}
use Rattle.slt_grammar.specs.Algebras.{Algebra}
use Rattle.slt_grammar.specs.Automata.{Downward, hits, hits_from, nodes_in}
use Rattle.slt_grammar.specs.Terms.{Term, Leaf, Node, Hole, up}
use Rattle.slt_grammar.specs.declared.automata.Fell.{Fell}
use Rattle.selecting_automaton.specs.declared.states.Up.{Up}
use Rattle.selecting_automaton.specs.declared.states.Down.{Down}
use Rattle.selecting_automaton.specs.declared.turns.Turn.{Turn}
use Rattle.selecting_automaton.specs.declared.turns.Turn.TheVariants as turns
use Rattle.selecting_automaton.specs.Turning.{Eyes, Known, Marks, Fallen, nothing_known, nothing_marked, rise, fall, list_algebra, list_downward}
use Rattle.selecting_automaton.specs.Wanting.{eyes}
use Rattle.selecting_automaton.specs.Words.{word, up_of, later_known, known_of, down_of, fallen, later_marks, marks_of, seeks, walks, Selection, word_algebra, word_downward}
use Rattle.selecting_automaton.specs.Bounds.{IsUpOf, AreMarksBelow, HasFewStates}
use Rattle.selecting_automaton.proofs.Stacks.{lowest-first, half-first, below-first}
use Rattle.selecting_automaton.proofs.Climbing.{length-risen}

-- the parts and marks of a state in words are those that were put into it
same_known : (a b c d : Bool) → a ≡ b → c ≡ d → ◌≡◌ {A = Known} (record { chain = a; code = c }) (record { chain = b; code = d })
same_known a b c d e f = cc

same_up : (a b c d : ℕ) → a ≡ b → c ≡ d → ◌≡◌ {A = Up} (record { chain = a; code = c }) (record { chain = b; code = d })
same_up a b c d e f = cc

pub known_again : (xs : List Known) → known_of (length xs) (up_of xs) ≡ xs
known_again [] = refl
known_again (x ∷ xs) =
    let p = word (map (λ (y : Known). y.chain) xs) in
    let q = word (map (λ (y : Known). y.code) xs) in
    ap (λ (k : Known). k ∷ known_of (length xs) (later_known (up_of (x ∷ xs)))) (same_known _ x.chain _ x.code (lowest-first x.chain p) (lowest-first x.code q))
    ∙ ap (λ u. x ∷ known_of (length xs) u) (same_up _ p _ q (half-first x.chain p) (half-first x.code q))
    ∙ ap (λ l. x ∷ l) (known_again xs)

same_marks : (a b c d e f : Bool) → a ≡ b → c ≡ d → e ≡ f → ◌≡◌ {A = Marks} (record { parent = a; above = c; before = e }) (record { parent = b; above = d; before = f })
same_marks a b c d e f p q r = cc

same_down : (s : Bool) (a b c d e f : ℕ) → a ≡ b → c ≡ d → e ≡ f → ◌≡◌ {A = Down} (record { start = s; parent = a; above = c; before = e }) (record { start = s; parent = b; above = d; before = f })
same_down s a b c d e f p q r = cc

pub marks_again : (s : Bool) (ms : List Marks) → marks_of (length ms) (down_of (record { start = s; marks = ms })) ≡ ms
marks_again s [] = refl
marks_again s (m ∷ ms) =
    let p = word (map (λ (y : Marks). y.parent) ms) in
    let q = word (map (λ (y : Marks). y.above) ms) in
    let r = word (map (λ (y : Marks). y.before) ms) in
    ap (λ (k : Marks). k ∷ marks_of (length ms) (later_marks (down_of (record { start = s; marks = m ∷ ms }))))
    (same_marks _ m.parent _ m.above _ m.before (lowest-first m.parent p) (lowest-first m.above q) (lowest-first m.before r))
    ∙ ap (λ d. m ∷ marks_of (length ms) d) (same_down s _ p _ q _ r (half-first m.parent p) (half-first m.above q) (half-first m.before r))
    ∙ ap (λ l. m ∷ l) (marks_again s ms)

-- a state for which nothing is known, or from which nothing begins, is zeros
none_known : (ts : List Turn) → record { chain = 0; code = 0 } ≡ up_of (nothing_known ts)
none_known [] = refl
none_known (turns.Truth b ∷ ts) = none_known ts
none_known (turns.Not ∷ ts) = none_known ts
none_known (turns.Or ∷ ts) = none_known ts
none_known (turns.And ∷ ts) = none_known ts
none_known (turns.Seek a w ∷ ts) = same_up 0 _ 0 _ (ap (λ (u : Up). 0 + 2 * u.chain) (none_known ts)) (ap (λ (u : Up). 0 + 2 * u.code) (none_known ts))
none_known (turns.Begin ∷ ts) = none_known ts
none_known (turns.Walk a w ∷ ts) = none_known ts
none_known (turns.End ∷ ts) = none_known ts

abbrev pub zeros : Bool → Down
zeros s = record { start = s; parent = 0; above = 0; before = 0 }

pub none_marked : (s : Bool) (ts : List Turn) → zeros s ≡ down_of (record { start = s; marks = nothing_marked ts })
none_marked s [] = refl
none_marked s (turns.Truth b ∷ ts) = none_marked s ts
none_marked s (turns.Not ∷ ts) = none_marked s ts
none_marked s (turns.Or ∷ ts) = none_marked s ts
none_marked s (turns.And ∷ ts) = none_marked s ts
none_marked s (turns.Seek a w ∷ ts) = none_marked s ts
none_marked s (turns.Begin ∷ ts) = none_marked s ts
none_marked s (turns.Walk a w ∷ ts) =
    same_down s 0 _ 0 _ 0 _ (ap (λ (u : Down). 0 + 2 * u.parent) (none_marked s ts)) (ap (λ (u : Down). 0 + 2 * u.above) (none_marked s ts)) (ap (λ (u : Down). 0 + 2 * u.before) (none_marked s ts))
none_marked s (turns.End ∷ ts) = none_marked s ts

-- the run upward
module _ (s : Selection) where
  abbrev E : Eyes
  E = eyes s.kinds

  abbrev known_at : Term → List Known
  known_at t = up (list_algebra E s.turns) t []

  length-known_at : (t : Term) → length (known_at t) ≡ seeks s.turns
  length-known_at Leaf = refl
  length-known_at (Hole i) = refl
  length-known_at (Node f a b) = length-risen E f s.turns [] (known_at a) (known_at b)

  again : (t : Term) (u : Up) → u ≡ up_of (known_at t) → known_of (seeks s.turns) u ≡ known_at t
  again t u e = ap (known_of (seeks s.turns)) e ∙ ap (λ n. known_of n (up_of (known_at t))) (sym (length-known_at t)) ∙ known_again (known_at t)

  pub ups-known : (t : Term) → up (word_algebra s) t [] ≡ up_of (known_at t)
  ups-known Leaf = none_known s.turns
  ups-known (Hole i) = none_known s.turns
  ups-known (Node f a b) =
      ap (λ x. up_of (rise E f s.turns [] x (known_of (seeks s.turns) (up (word_algebra s) b [])))) (again a (up (word_algebra s) a []) (ups-known a))
      ∙ ap (λ y. up_of (rise E f s.turns [] (known_at a) y)) (again b (up (word_algebra s) b []) (ups-known b))

length-kids : (E : Eyes) (f : ℕ) (ts : List Turn) (st : List Bool) (xs ys : List Known) (start here : Bool) (ms : List Marks)
    → (length (fall E f ts st xs ys start here ms).kids ≡ walks ts) × (length (fall E f ts st xs ys start here ms).rest ≡ walks ts)
length-kids E f [] st xs ys start here ms = (refl, refl)
length-kids E f (turns.Truth b ∷ ts) st xs ys start here ms = length-kids E f ts (b ∷ st) xs ys start here ms
length-kids E f (turns.Not ∷ ts) st xs ys start here ms = length-kids E f ts _ xs ys start here ms
length-kids E f (turns.Or ∷ ts) st xs ys start here ms = length-kids E f ts _ xs ys start here ms
length-kids E f (turns.And ∷ ts) st xs ys start here ms = length-kids E f ts _ xs ys start here ms
length-kids E f (turns.Seek a w ∷ ts) st xs ys start here ms = length-kids E f ts _ _ _ start here ms
length-kids E f (turns.Begin ∷ ts) st xs ys start here ms = length-kids E f ts st xs ys start start ms
length-kids E f (turns.Walk a w ∷ ts) st xs ys start here ms = let h = length-kids E f ts (drop 1 st) xs ys start _ (drop 1 ms) in (ap suc h.0, ap suc h.1)
length-kids E f (turns.End ∷ ts) st xs ys start here ms = length-kids E f ts st xs ys start false ms

-- the run downward
module _ (s : Selection) where
  abbrev A : Algebra (List Known)
  A = list_algebra (eyes s.kinds) s.turns

  abbrev V : Downward (List Known) Fallen
  V = list_downward (eyes s.kinds) s.turns

  steps-same : (f : ℕ) (d : Fallen) (a b : Term) → length d.marks ≡ walks s.turns
      → (word_downward s).step f (down_of d) (up (word_algebra s) a []) (up (word_algebra s) b []) ≡ fallen (fall (eyes s.kinds) f s.turns [] (known_at s a) (known_at s b) d.start false d.marks)
  steps-same f d a b e =
      ap (λ x. fallen (fall (eyes s.kinds) f s.turns [] x (known_of (seeks s.turns) (up (word_algebra s) b [])) d.start false (marks_of (walks s.turns) (down_of d)))) (again s a (up (word_algebra s) a []) (ups-known s a))
      ∙ ap (λ y. fallen (fall (eyes s.kinds) f s.turns [] (known_at s a) y d.start false (marks_of (walks s.turns) (down_of d)))) (again s b (up (word_algebra s) b []) (ups-known s b))
      ∙ ap (λ ms. fallen (fall (eyes s.kinds) f s.turns [] (known_at s a) (known_at s b) d.start false ms)) (ap (λ n. marks_of n (down_of d)) (sym e) ∙ marks_again d.start d.marks)

  hits-same : (t : Term) (number : ℕ) (d : Fallen) (w : Down) → w ≡ down_of d → length d.marks ≡ walks s.turns
      → hits_from (word_algebra s) (word_downward s) number t [] w ≡ hits_from A V number t [] d
  hits-same Leaf number d w e h = refl
  hits-same (Hole i) number d w e h = refl
  hits-same (Node f a b) number d w e h =
      let g = V.step f d (known_at s a) (known_at s b) in
      let l = length-kids (eyes s.kinds) f s.turns [] (known_at s a) (known_at s b) d.start false d.marks in
      ap (λ (r : Fell Down). (if r.hit then number ∷ [] else []) ++ (hits_from (word_algebra s) (word_downward s) (suc number) a [] r.left ++ hits_from (word_algebra s) (word_downward s) (suc number + nodes_in a) b [] r.right))
      (ap (λ x. (word_downward s).step f x (up (word_algebra s) a []) (up (word_algebra s) b [])) e ∙ steps-same f d a b h)
      ∙ ap (λ n. (if g.hit then number ∷ [] else []) ++ (n ++ hits_from (word_algebra s) (word_downward s) (suc number + nodes_in a) b [] (down_of g.right))) (hits-same a (suc number) g.left (down_of g.left) refl l.0)
      ∙ ap (λ n. (if g.hit then number ∷ [] else []) ++ (hits_from A V (suc number) a [] g.left ++ n)) (hits-same b (suc number + nodes_in a) g.right (down_of g.right) refl l.1)

  -- hits are the same
  pub word-hits : (t : Term) → hits (word_algebra s) (word_downward s) t ≡ hits A V t
  word-hits t = hits-same t 0 V.start (zeros true) (none_marked true s.turns) refl

-- words are below the power of their length
word-below : (bs : List Bool) → word bs < 2 ^ length bs
word-below [] = lit< tt
word-below (b ∷ bs) = below-first (word bs) (length bs) b (word-below bs)

known-below : (xs : List Known) (n : ℕ) → length xs ≡ n → IsUpOf n (up_of xs)
known-below xs n e = record {
  chain = subst (λ k. word (map (λ (x : Known). x.chain) xs) < 2 ^ k) (length-map xs _ ∙ e) (word-below _);
  code = subst (λ k. word (map (λ (x : Known). x.code) xs) < 2 ^ k) (length-map xs _ ∙ e) (word-below _);
}

marks-below : (s : Bool) (ms : List Marks) (n : ℕ) → length ms ≡ n → AreMarksBelow n (down_of (record { start = s; marks = ms }))
marks-below s ms n e = record {
  parent = subst (λ k. word (map (λ (m : Marks). m.parent) ms) < 2 ^ k) (length-map ms _ ∙ e) (word-below _);
  above = subst (λ k. word (map (λ (m : Marks). m.above) ms) < 2 ^ k) (length-map ms _ ∙ e) (word-below _);
  before = subst (λ k. word (map (λ (m : Marks). m.before) ms) < 2 ^ k) (length-map ms _ ∙ e) (word-below _);
}

pub few-states : (s : Selection) → HasFewStates (word_algebra s) (word_downward s) (seeks s.turns) (walks s.turns)
few-states s = record {
  bottom = subst (IsUpOf (seeks s.turns)) (sym (none_known s.turns)) (known-below (nothing_known s.turns) (seeks s.turns) refl);
  node = λ f x y. known-below _ _ (length-risen (eyes s.kinds) f s.turns [] _ _);
  start = subst (AreMarksBelow (walks s.turns)) (sym (none_marked true s.turns)) (marks-below true (nothing_marked s.turns) (walks s.turns) refl);
  left = λ f d x y. marks-below false _ _ (length-kids (eyes s.kinds) f s.turns [] _ _ d.start false _).0;
  right = λ f d x y. marks-below false _ _ (length-kids (eyes s.kinds) f s.turns [] _ _ d.start false _).1;
}
