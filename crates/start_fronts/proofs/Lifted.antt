-- A node of the start that gives way to its second child: what stands before it is the same, and what stands from that child on.
use Rattle.std.proofs.Common.{◌≡◌, ◌⊎◌, inr, ℕ, zero, suc, ◌+◌, ◌-◌, ◌<◌, ◌≤◌, List, [], ◌∷◌, ◌++◌, drop, get_or, length, take, refl, sym, ap, ◌∙◌, subst, arith, sum_by}
use Rattle.std.proofs.lemmas.List.{drop-drop, drop_at, take-append-drop, take_at}
use Rattle.std.proofs.lemmas.List.Sums.{sum_by-append}
use Rattle.rule_arena.specs.Preorder.{AreTerms, span, terms}
use Rattle.rule_arena.specs.Terms.{Node, kids_of}
use Rattle.rule_arena.specs.declared.key.Key.{Key}
use Rattle.rule_arena.specs.declared.label.Label.{Label}
use Rattle.rule_arena.specs.declared.label.Label.TheVariants.{Bottom, Symbol}
use Rattle.rule_arena.proofs.PreorderLemmas.{AreTerms-rest, AreTerms-split, span-add}
use Rattle.slt_grammar.specs.Algebras.{ranks_of}
use Rattle.slt_grammar.specs.Bodies.{arity}
use Rattle.slt_grammar.specs.Keyed.{IsKeyed, Keyed, labels_of, nodes_at, rules_of}
use Rattle.slt_grammar.specs.KeyedEdits.{StandsInStart, lifted_nodes, with_nodes}
use Rattle.slt_grammar.specs.Segments.{part_of}
use Rattle.slt_grammar.specs.Tours.{Stop, stop, opened_kids, tour}
use Rattle.slt_grammar.specs.declared.rules.Rule.{Rule}
use Rattle.slt_grammar.proofs.Agreeing.{agree-of, agree-parts, Agree}
use Rattle.slt_grammar.proofs.KeyedLemmas.{body_at-rules_of, nodes-are-term}
use Rattle.start_fronts.specs.Moved.{MovesBefore, weight_before}
use Rattle.start_fronts.proofs.Alike.{Behind, first-append}
use Rattle.start_fronts.proofs.Starts.{Around, around-at, label-behind, nodes-new, start-is, values-below}
use Rattle.start_fronts.proofs.Stacks.{opens, opens-term, tour-append}
use Rattle.start_fronts.proofs.Windows.{moves-around, spelt}

-- a node over two terms, of which the second stays
drop-behind : (xs : List Node) (n : Node) (ys : List Node) → drop (length xs + 1) (xs ++ (n ∷ ys)) ≡ ys
drop-behind [] n ys = refl
drop-behind (x ∷ xs) n ys = let z : suc (length xs) + 1 ≡ suc (length xs + 1) = omega arith in ap (λ i. drop i (x ∷ (xs ++ (n ∷ ys)))) z ∙ drop-behind xs n ys

behind-two : (ns : List Node) (k : ℕ) → k ≡ 2 → drop (span kids_of (k + 0) ns) ns ≡ drop (span kids_of 1 (drop (span kids_of 1 ns) ns)) (drop (span kids_of 1 ns) ns)
behind-two ns k e =
    let two : k + 0 ≡ 1 + 1 = omega (arith, e) in
    let rest : List Node = drop (span kids_of 1 ns) ns in
    ap (λ i. drop (span kids_of i ns) ns) two
    ∙ ap (λ i. drop i ns) (span-add kids_of 1 1 ns)
    ∙ sym (drop-drop (span kids_of 1 rest) (span kids_of 1 ns) ns)

pub lifted-is : (A : List Node) (N : Node) (back : List Node) → N.kids ≡ 2 → lifted_nodes (A ++ (N ∷ back)) (length A) ≡ A ++ drop (span kids_of 1 back) back
lifted-is A N back e =
    let ns : List Node = A ++ (N ∷ back) in
    let rest : List Node = drop (span kids_of 1 back) back in
    ap (λ xs. take (length A) ns ++ (get_or (terms kids_of 2 xs) 1 [] ++ drop (span kids_of 1 (drop (length A) ns)) (drop (length A) ns))) (drop-behind A N back)
    ∙ ap (λ xs. xs ++ (take (span kids_of 1 rest) rest ++ drop (span kids_of 1 (drop (length A) ns)) (drop (length A) ns))) (take_at A (N ∷ back) (length A) refl)
    ∙ ap (λ xs. A ++ (take (span kids_of 1 rest) rest ++ drop (span kids_of 1 xs) xs)) (drop_at A (N ∷ back) (length A) refl)
    ∙ ap (λ xs. A ++ (take (span kids_of 1 rest) rest ++ xs)) (behind-two back N.kids e)
    ∙ ap (λ xs. A ++ xs) (take-append-drop (span kids_of 1 rest) rest)

some-terms : (n : ℕ) (ns : List Node) → AreTerms kids_of n ns → 0 < length ns → (m : ℕ) × AreTerms kids_of (suc m) ns
some-terms zero [] t h = absurd (omega (arith, h))
some-terms zero (x ∷ ns) t h = absurd t
some-terms (suc m) ns t h = (m, t)

get-next : {X : Type 0} (st : List (List X)) (i : ℕ) → get_or st (suc i) [] ≡ get_or (drop 1 st) i []
get-next [] i = refl
get-next (a ∷ st) i = refl

-- a symbol and its first term leave open what was open
symbol-leaves : (X Y : List Rule) (N : Node) (symbol : ℕ) (first : List Node) → N.label ≡ Symbol symbol → N.kids ≡ 2 → AreTerms kids_of 1 first
    → (st : List (List (Stop Node))) → Behind X Y st st → Behind X Y (opens kids_of st (N ∷ first)) st
symbol-leaves X Y N symbol first e two t st b = subst (λ (os : List (List (Stop Node))). Behind X Y os st) (sym opened) same
  where
    opened : opens kids_of st (N ∷ first) ≡ (stop N 2 ∷ get_or st 0 []) ∷ drop 1 st
    opened =
        ap (λ k. opens kids_of (opened_kids N 1 k (get_or st 0 []) ++ drop 1 st) first) two
        ∙ opens-term kids_of ((stop N 1 ∷ []) ∷ ((stop N 2 ∷ get_or st 0 []) ∷ drop 1 st)) first t

    same : Behind X Y ((stop N 2 ∷ get_or st 0 []) ∷ drop 1 st) st
    same zero = b 0 ∙ ap (λ l. part_of X l 2 ++ spelt X (get_or st 0 [])) (sym e)
    same (suc i) = b (suc i) ∙ ap (spelt X) (get-next st i)

module _ (g h : Keyed) (K : IsKeyed g) (M : IsKeyed h) (key : Key) (S : StandsInStart g.rules key)
    (is : h.rules ≡ with_nodes g.rules S.node.here.rule (lifted_nodes (nodes_at g.rules S.node.here.rule) S.node.here.place)) where
  abbrev r : ℕ
  r = S.node.here.rule

  abbrev p : ℕ
  p = S.node.here.place

  abbrev ns : List Node
  ns = nodes_at g.rules r

  abbrev X : List Rule
  X = rules_of g.rules

  abbrev a : Around ns p key
  a = around-at ns p key S.node.here.there

  abbrev first : List Node
  first = take (span kids_of 1 a.back) a.back

  abbrev rest : List Node
  rest = drop (span kids_of 1 a.back) a.back

  label : a.node.label ≡ Symbol S.node.symbol
  label =
      sym (label-behind a.front a.node a.back)
      ∙ ap (λ xs. get_or (labels_of xs) (length a.front) Bottom) (sym a.whole)
      ∙ ap (λ i. get_or (labels_of ns) i Bottom) a.at
      ∙ ap (λ ls. get_or ls p Bottom) (sym (body_at-rules_of g.rules r))
      ∙ S.node.label

  in-rules : r < length g.rules
  in-rules = let e = S.start in omega (arith, e)

  agree : Agree (ranks_of X) (a.front ++ (a.node ∷ a.back))
  agree = subst (λ (xs : List Node). Agree (ranks_of X) xs) a.whole (agree-of (ranks_of X) ns (K.arities r))

  two : a.node.kids ≡ 2
  two = (agree-parts (ranks_of X) a.front (a.node ∷ a.back) agree).1.0 ∙ ap (arity (ranks_of X)) label

  back-terms : (m : ℕ) × AreTerms kids_of (1 + (1 + m)) a.back
  back-terms =
      let t = AreTerms-rest kids_of 1 a.front (a.node ∷ a.back) (subst (λ (xs : List Node). AreTerms kids_of 1 xs) a.whole (nodes-are-term g K r in-rules)) in
      let u = some-terms t.0 (a.node ∷ a.back) t.1 (omega arith) in
      let z : a.node.kids + u.0 ≡ 1 + (1 + u.0) = omega (arith, two) in
      (u.0, subst (λ (k : ℕ). AreTerms kids_of k a.back) z u.1)

  first-term : AreTerms kids_of 1 first
  first-term = (AreTerms-split kids_of 1 (1 + back-terms.0) a.back back-terms.1).0

  -- no part of what goes weighs more
  inside : (w : Label → ℕ) (st : List (List (Stop Node))) (i : ℕ) → i < length (a.node ∷ first)
      → (sum_by w (spelt X (tour kids_of st (take i (a.node ∷ first)))) ≡ 0) ⊎ (sum_by w (spelt X (tour kids_of st (take i (a.node ∷ first)))) + 0 ≤ sum_by w (spelt X (tour kids_of st (a.node ∷ first))))
  inside w st i l =
      let gone : List Node = a.node ∷ first in
      let q = opens kids_of st (take i gone) in
      inr (
      omega (
        arith,
        ap (λ xs. sum_by w (spelt X (tour kids_of st xs))) (sym (take-append-drop i gone)),
        ap (λ ms. sum_by w (spelt X ms)) (tour-append kids_of st (take i gone) (drop i gone)),
        ap (sum_by w) (first-append X X (tour kids_of st (take i gone)) (tour kids_of q (drop i gone))),
        sum_by-append w (spelt X (tour kids_of st (take i gone))) (spelt X (tour kids_of q (drop i gone))),
      ))

  pub moves-lifted : (w : Label → ℕ) → MovesBefore w [] (weight_before w g.rules p) g.rules h.rules
  moves-lifted w =
      let ms : List Node = lifted_nodes ns p in
      let start = start-is g h K r ms S.start is in
      let old : nodes_at g.rules (length g.rules - 1) ≡ a.front ++ ((a.node ∷ first) ++ rest) =
      ap (nodes_at g.rules) (sym start) ∙ a.whole ∙ ap (λ xs. a.front ++ (a.node ∷ xs)) (sym (take-append-drop (span kids_of 1 a.back) a.back)) in
      let new : nodes_at h.rules (length h.rules - 1) ≡ a.front ++ ([] ++ rest) =
      nodes-new g h K r ms S.start is
      ∙ ap (λ xs. lifted_nodes xs p) a.whole
      ∙ ap (λ i. lifted_nodes (a.front ++ (a.node ∷ a.back)) i) (sym a.at)
      ∙ lifted-is a.front a.node a.back two in
      subst (λ (i : ℕ). MovesBefore w [] (weight_before w g.rules i) g.rules h.rules) a.at
      (moves-around g h K M a.front (a.node ∷ first) [] rest old new
      (values-below g h K r ms S.start is)
      (symbol-leaves (rules_of g.rules) (rules_of h.rules) a.node S.node.symbol first label two first-term (opens kids_of ([] ∷ []) a.front))
      w (inside w (opens kids_of ([] ∷ []) a.front)))
