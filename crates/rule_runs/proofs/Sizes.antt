-- No called rule has a larger value than the rule that calls it.
use Rattle.std.proofs.Common.{◌≡◌, ℕ, zero, suc, ◌+◌, ◌-◌, ◌<◌, ◌≤◌, List, [], ◌∷◌, ◌++◌, length, get_or, take, drop, map, Some, slice_get, sum_by, refl, sym, ap, ◌∙◌, arith}
use Rattle.std.proofs.lemmas.List.{map-append, length-take-le}
use Rattle.std.proofs.lemmas.List.Sums.{sum_by-append}
use Rattle.rule_arena.specs.Preorder.{AreTerms}
use Rattle.rule_arena.specs.declared.label.Label.{Label}
use Rattle.rule_arena.specs.declared.label.Label.TheVariants.{Bottom, Symbol, Call, Param}
use Rattle.slt_grammar.specs.Algebras.{Algebra, meanings, ranks_of, all_meanings}
use Rattle.slt_grammar.specs.Automata.{Downward, nodes_in}
use Rattle.slt_grammar.specs.Bodies.{arity, CallsBelow}
use Rattle.slt_grammar.specs.Grammars.{IsGrammar, body_at, rank_at, value, value_at}
use Rattle.slt_grammar.specs.Segments.{listed}
use Rattle.slt_grammar.specs.Terms.{Term, Leaf, Node, Hole, holes_of, up}
use Rattle.slt_grammar.specs.declared.rules.Rule.{Rule}
use Rattle.slt_grammar.proofs.Carrying.{up-holes, up-value_at}
use Rattle.slt_grammar.proofs.Linear.{value_at-linear}
use Rattle.slt_grammar.proofs.Meanings.{meanings-whole}
use Rattle.slt_grammar.proofs.RuleMeanings.{memo-at, rank_at-ranks_of, call-earlier}
use Rattle.rule_runs.specs.Reached.{Falls, at_start, at_call}
use Rattle.rule_runs.proofs.Lists.{slice_get-at}

-- what counts nodes
abbrev counts : Algebra ℕ
counts = record { bottom = 0; node = λ f a b. suc (a + b) }

abbrev total : List ℕ → ℕ
total [] = 0
total (n ∷ ns) = n + total ns

total-append : (ms ns : List ℕ) → total (ms ++ ns) ≡ total ms + total ns
total-append [] ns = omega arith
total-append (m ∷ ms) ns = omega (arith, total-append ms ns)

total-split : (k : ℕ) (ns : List ℕ) → total (take k ns) + total (drop k ns) ≡ total ns
total-split zero [] = refl
total-split zero (n ∷ ns) = omega arith
total-split (suc k) [] = refl
total-split (suc k) (n ∷ ns) = omega (arith, total-split k ns)

zeros : ℕ → List ℕ
zeros zero = []
zeros (suc k) = 0 ∷ zeros k

length-zeros : (k : ℕ) → length (zeros k) ≡ k
unfolding zeros
length-zeros zero = refl
length-zeros (suc k) = ap suc (length-zeros k)

total-zeros : (k : ℕ) → total (zeros k) ≡ 0
unfolding zeros
total-zeros zero = refl
total-zeros (suc k) = omega (arith, total-zeros k)

total-two : (ns : List ℕ) → get_or (take 2 ns) 0 0 + get_or (take 2 ns) 1 0 + total (drop 2 ns) ≡ total ns
total-two [] = refl
total-two (m ∷ []) = omega arith
total-two (m ∷ n ∷ ns) = omega arith

-- a term's nodes and what is counted for its holes
up-counts : (t : Term) (args : List ℕ) → up counts t args ≡ nodes_in t + total (map (λ h. up counts h args) (holes_of t))
up-counts Leaf args = refl
up-counts (Hole i) args = omega arith
up-counts (Node f a b) args =
    omega (arith, up-counts a args, up-counts b args, total-append (map (λ h. up counts h args) (holes_of a)) (map (λ h. up counts h args) (holes_of b)), ap total (map-append (λ h. up counts h args) (holes_of a) (holes_of b)))

module _ (G : List Rule) (g : IsGrammar G) where
  abbrev counted : List ℕ → List Label → List ℕ
  counted args ls = meanings counts (ranks_of G) (all_meanings counts G) args ls []

  -- a rule counts its own nodes and its arguments
  value-counts : (q : ℕ) (kids : List ℕ) → q < length G → length kids ≡ rank_at G q → get_or (all_meanings counts G) q (λ _. 0) kids ≡ nodes_in (value_at G q) + total kids
  value-counts q kids h n =
      let v : Term = value_at G q in
      let hs : map (λ t. up counts t kids) (holes_of v) ≡ kids = rw (value_at-linear G q g h, ← n) (up-holes counts [] kids) in
      sym (up-value_at counts G q kids n) ∙ up-counts v kids ∙ ap (λ ns. nodes_in v + total ns) hs

  call-counts : (n : ℕ) (args : List ℕ) (q : ℕ) (ls : List Label) → q < length G → AreTerms (arity (ranks_of G)) (get_or (ranks_of G) q 0 + n) ls → total (counted args (Call q ∷ ls)) ≡ nodes_in (value_at G q) + total (counted args ls)
  call-counts n args q ls h t =
      let k : ℕ = get_or (ranks_of G) q 0 in
      let all : List ℕ = counted args ls in
      let m = meanings-whole counts (ranks_of G) (all_meanings counts G) (k + n) args ls [] t in
      let l : length (take k all) ≡ rank_at G q = length-take-le k all (omega (arith, m.1)) ∙ rank_at-ranks_of G q in
      omega (arith, value-counts q (take k all) h l, total-split k all)

  -- terms count at least what a rule does that is called in them
  grows : (r : ℕ) → r < length G → (n : ℕ) (args : List ℕ) (ls : List Label) → AreTerms (arity (ranks_of G)) n ls → CallsBelow r ls
      → (place q : ℕ) → slice_get ls place ≡ Some (Call q) → nodes_in (value_at G q) ≤ total (counted args ls)
  grows r h n args [] t b place q e = absurd (cc)
  grows r h zero args (l ∷ ls) t b place q e = absurd t
  grows r h (suc n) args (Param ∷ ls) t b zero q e = absurd (cc)
  grows r h (suc n) args (Bottom ∷ ls) t b zero q e = absurd (cc)
  grows r h (suc n) args (Symbol f ∷ ls) t b zero q e = absurd (cc)
  grows r h (suc n) args (Call p ∷ ls) t b zero q e =
      let same : p ≡ q = cc in
      let c = call-counts n args p ls (let l = b.0 in omega arith) t in
      let v : nodes_in (value_at G p) ≡ nodes_in (value_at G q) = ap (λ x. nodes_in (value_at G x)) same in
      omega (arith, c, v)
  grows r h (suc n) args (Param ∷ ls) t b (suc place) q e = omega (arith, grows r h (0 + n) (drop 1 args) ls t b place q e)
  grows r h (suc n) args (Bottom ∷ ls) t b (suc place) q e = omega (arith, grows r h (0 + n) args ls t b place q e, total-split 0 (counted args ls))
  grows r h (suc n) args (Symbol f ∷ ls) t b (suc place) q e = omega (arith, grows r h (2 + n) args ls t b place q e, total-two (counted args ls))
  grows r h (suc n) args (Call p ∷ ls) t b (suc place) q e =
      omega (arith, grows r h (get_or (ranks_of G) p 0 + n) args ls t b.1 place q e, call-counts n args p ls (let l = b.0 in omega arith) t)

  pub called-smaller : (r : ℕ) → r < length G → (place q : ℕ) → slice_get (body_at G r) place ≡ Some (Call q) → nodes_in (value_at G q) ≤ nodes_in (value_at G r)
  called-smaller r h place q e =
      let zs : List ℕ = zeros (rank_at G r) in
      let body : List Label = body_at G r in
      let term = (g.each r h).shaped.term in
      let all : List ℕ = counted zs body in
      let m = meanings-whole counts (ranks_of G) (all_meanings counts G) 1 zs body [] term in
      let v = value-counts r zs h (length-zeros (rank_at G r)) in
      let one : total all ≡ get_or all 0 0 = single all m.1 in
      let root : get_or (all_meanings counts G) r (λ _. 0) zs ≡ get_or all 0 0 = memo-at counts G g r h zs in
      omega (arith, grows r h 1 zs body term (g.each r h).earlier place q e, v, one, root, total-zeros (rank_at G r))
    where
      single : (ns : List ℕ) → length ns ≡ 1 → total ns ≡ get_or ns 0 0
      single [] n = refl
      single (n ∷ []) e = omega arith
      single (n ∷ m ∷ ns) e = absurd (omega arith)

  -- what a run downward meets is no larger than the whole
  pub met-within : {S D : Type 0} (A : Algebra S) (W : Downward S D) (r : ℕ) (args : List S) (d : D) → Falls S D A W G r args d → (r < length G) × (nodes_in (value_at G r) ≤ nodes_in (value G))
  met-within A W _ _ _ (at_start r e) =
      let last : r ≡ length G - 1 = omega arith in
      (omega arith, rw last (omega arith))
  met-within A W _ _ _ (at_call r rs d place q f e) =
      let m = met-within A W r rs d f in
      let s = called-smaller r m.0 place q e in
      let k = slice_get-at (body_at G r) place (Call q) Bottom e in
      let c = call-earlier r place q (body_at G r) (g.each r m.0).earlier k.1 in
      (let a = m.0 in omega arith, let b = m.1 in omega arith)

-- the nodes of a term as those who weigh its labels count them: a symbol weighs 1, and nothing else does
module _ (weigh : Label → ℕ) (symbols : (f : ℕ) → weigh (Symbol f) ≡ 1) (bottoms : weigh Bottom ≡ 0) (params : weigh Param ≡ 0) where
  listed-weighs : (t : Term) (rest : List Label) → sum_by weigh (listed t rest) ≡ nodes_in t + sum_by weigh rest
  listed-weighs Leaf rest = omega (arith, bottoms, sum_by-append weigh (Bottom ∷ []) rest)
  listed-weighs (Hole i) rest = omega (arith, params, sum_by-append weigh (Param ∷ []) rest)
  listed-weighs (Node f a b) rest = omega (arith, symbols f, sum_by-append weigh (Symbol f ∷ []) (listed a (listed b rest)), listed-weighs a (listed b rest), listed-weighs b rest)

  pub nodes-weigh : (t : Term) → nodes_in t ≡ sum_by weigh (listed t [])
  nodes-weigh t = omega (arith, listed-weighs t [])
