-- What a run downward hits of a whole term: the numbers are those of the run, and each symbol is its node's.
use Rattle.std.proofs.Common.{◌≡◌, ℕ, suc, ◌+◌, ◌^◌, ◌<◌, List, [], ◌∷◌, ◌++◌, length, map, Some, slice_get, Bool, true, false, if◌then◌else◌, All, refl, sym, ap, ◌∙◌, arith, append_assoc, append-nil, length-append}
use Rattle.std.proofs.lemmas.List.{map-append, length_push}
use Rattle.std.proofs.lemmas.List.Elements.{All-append, All-nil, All-weaker}
use Rattle.rule_arena.proofs.PreorderLemmas.{slice_get-right}
use Rattle.slt_grammar.specs.Algebras.{Algebra}
use Rattle.slt_grammar.specs.Automata.{Downward, hits, hits_from, nodes_in}
use Rattle.slt_grammar.specs.Terms.{Term, Leaf, Node, Hole, up}
use Rattle.rule_runs.specs.declared.listing.Hit.{Hit}
use Rattle.rule_runs.specs.Hits.{numbers, raised, symbols_in}
use Rattle.rule_runs.proofs.Lists.{all-one, slice_get-at}
use Rattle.rule_runs.proofs.Symbols.{length-symbols}

-- a node where it is hit, and nothing where it is not
abbrev pub if_hit : Bool → ℕ → ℕ → List Hit
if_hit hit number f = if hit then record { number = number; symbol = f } ∷ [] else []

hit-raised : (p q f : ℕ) (b : Bool) → if_hit b (p + q) f ≡ map (raised p) (if_hit b q f)
hit-raised p q f true = refl
hit-raised p q f false = refl

hit-number : (n f : ℕ) (b : Bool) → numbers (if_hit b n f) ≡ (if b then n ∷ [] else [])
hit-number n f true = refl
hit-number n f false = refl

module _ {S D : Type 0} (A : Algebra S) (W : Downward S D) where
  -- the nodes that are hit, where the root has this number and this down state
  abbrev pub found_from : ℕ → Term → List S → D → List Hit
  found_from number Leaf states d = []
  found_from number (Hole i) states d = []
  found_from number (Node f a b) states d =
      let s = W.step f d (up A a states) (up A b states) in
      if_hit s.hit number f ++ (found_from (suc number) a states s.left ++ found_from (suc number + nodes_in a) b states s.right)

  -- the nodes of a whole term that are hit
  abbrev pub found : Term → List Hit
  found t = found_from 0 t [] W.start

  pub found-raised : (p q : ℕ) (t : Term) (states : List S) (d : D) → found_from (p + q) t states d ≡ map (raised p) (found_from q t states d)
  found-raised p q Leaf states d = refl
  found-raised p q (Hole i) states d = refl
  found-raised p q (Node f a b) states d =
      let s = W.step f d (up A a states) (up A b states) in
      let own : List Hit = if_hit s.hit q f in
      let left : List Hit = found_from (suc q) a states s.left in
      let right : List Hit = found_from (suc q + nodes_in a) b states s.right in
      let e1 : suc (p + q) ≡ p + suc q = omega arith in
      let e2 : suc (p + q) + nodes_in a ≡ p + (suc q + nodes_in a) = omega arith in
      let l : found_from (suc (p + q)) a states s.left ≡ map (raised p) left = ap (λ x. found_from x a states s.left) e1 ∙ found-raised p (suc q) a states s.left in
      let r : found_from (suc (p + q) + nodes_in a) b states s.right ≡ map (raised p) right = ap (λ x. found_from x b states s.right) e2 ∙ found-raised p (suc q + nodes_in a) b states s.right in
      rw (l, r, hit-raised p q f s.hit, map-append (raised p) own (left ++ right), map-append (raised p) left right) refl

  found-numbers : (n : ℕ) (t : Term) (states : List S) (d : D) → numbers (found_from n t states d) ≡ hits_from A W n t states d
  found-numbers n Leaf states d = refl
  found-numbers n (Hole i) states d = refl
  found-numbers n (Node f a b) states d =
      let s = W.step f d (up A a states) (up A b states) in
      let left : List Hit = found_from (suc n) a states s.left in
      let right : List Hit = found_from (suc n + nodes_in a) b states s.right in
      map-append (λ (h : Hit). h.number) (if_hit s.hit n f) (left ++ right)
      ∙ ap (λ x. x ++ numbers (left ++ right)) (hit-number n f s.hit)
      ∙ ap (λ x. (if s.hit then n ∷ [] else []) ++ x) (map-append (λ (h : Hit). h.number) left right ∙ ap (λ x. x ++ numbers right) (found-numbers (suc n) a states s.left) ∙ ap (λ x. hits_from A W (suc n) a states s.left ++ x) (found-numbers (suc n + nodes_in a) b states s.right))

  pub found-hits : (t : Term) → numbers (found t) ≡ hits A W t
  found-hits t = found-numbers 0 t [] W.start

  -- in a list of symbols that has those of the term from the root's number on
  found-symbols : (all before after : List ℕ) (n : ℕ) (t : Term) (states : List S) (d : D) → n ≡ length before → all ≡ before ++ (symbols_in t ++ after) → All (λ h. slice_get all h.number ≡ Some h.symbol) (found_from n t states d)
  found-symbols all before after n Leaf states d len e = All-nil (λ (h : Hit). slice_get all h.number ≡ Some h.symbol)
  found-symbols all before after n (Hole i) states d len e = All-nil (λ (h : Hit). slice_get all h.number ≡ Some h.symbol)
  found-symbols all before after n (Node f a b) states d len e =
      let s = W.step f d (up A a states) (up A b states) in
      let P : Hit → Type 0 = λ h. slice_get all h.number ≡ Some h.symbol in
      let sa : List ℕ = symbols_in a in
      let sb : List ℕ = symbols_in b in
      let left : List Hit = found_from (suc n) a states s.left in
      let right : List Hit = found_from (suc n + nodes_in a) b states s.right in
      let z : n ≡ length before + 0 = omega arith in
      let here : slice_get all n ≡ Some f = ap (slice_get all) z ∙ ap (λ x. slice_get x (length before + 0)) e ∙ slice_get-right before (f ∷ ((sa ++ sb) ++ after)) 0 in
      let rest : all ≡ before ++ (f ∷ (sa ++ (sb ++ after))) = e ∙ ap (λ x. before ++ (f ∷ x)) (append_assoc sa sb after) in
      let el : all ≡ (before ++ f ∷ []) ++ (sa ++ (sb ++ after)) = rest ∙ sym (append_assoc before (f ∷ []) (sa ++ (sb ++ after))) in
      let er : all ≡ (before ++ f ∷ sa) ++ (sb ++ after) = rest ∙ sym (append_assoc before (f ∷ sa) (sb ++ after)) in
      All-append P (if_hit s.hit n f) (left ++ right) (own s.hit here)
      (All-append P left right
      (found-symbols all (before ++ f ∷ []) (sb ++ after) (suc n) a states s.left (omega (arith, length_push before f)) el)
      (found-symbols all (before ++ f ∷ sa) after (suc n + nodes_in a) b states s.right (omega (arith, length-append before (f ∷ sa), length-symbols a)) er))
    where
      own : (hit : Bool) → slice_get all n ≡ Some f → All (λ h. slice_get all h.number ≡ Some h.symbol) (if_hit hit n f)
      own true here = all-one (λ (h : Hit). slice_get all h.number ≡ Some h.symbol) (record { number = n; symbol = f }) here
      own false here = All-nil (λ (h : Hit). slice_get all h.number ≡ Some h.symbol)

  pub found-right : (t : Term) → All (λ h. slice_get (symbols_in t) h.number ≡ Some h.symbol) (found t)
  found-right t = found-symbols (symbols_in t) [] [] 0 t [] W.start refl (sym (append-nil (symbols_in t)))

  pub found-small : (t : Term) → nodes_in t < 2 ^ 63 → All (λ h. h.number < 2 ^ 64) (found t)
  found-small t small =
      All-weaker (λ (h : Hit). slice_get (symbols_in t) h.number ≡ Some h.symbol) (λ (h : Hit). h.number < 2 ^ 64) (λ h e. let k = (slice_get-at (symbols_in t) h.number h.symbol 0 e).0 in omega (arith, length-symbols t)) (found t) (found-right t)
