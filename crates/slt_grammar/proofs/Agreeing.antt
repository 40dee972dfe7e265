-- Nodes that have as many children as their labels say, beside their labels.
use Rattle.std.proofs.Common.{◌≡◌, ℕ, zero, suc, ◌+◌, List, [], ◌∷◌, ◌++◌, get_or, take, drop, map, Some, slice_get, refl, sym, ap, ◌∙◌, subst, arith}
use Rattle.std.proofs.lemmas.List.{map-append, take-map, drop-map}
use Rattle.rule_arena.specs.Preorder.{AreTerms, span, terms, subterm, with_subterm}
use Rattle.rule_arena.specs.Terms.{Node, kids_of}
use Rattle.rule_arena.specs.declared.label.Label.{Label}
use Rattle.rule_arena.specs.declared.label.Label.TheVariants.{Bottom}
use Rattle.rule_arena.proofs.PreorderLemmas.{span-map}
use Rattle.slt_grammar.specs.Bodies.{arity}
use Rattle.slt_grammar.specs.Keyed.{labels_of, HasArities}

-- nodes have the arities of their labels
abbrev pub Agree : List ℕ → List Node → Type 0
Agree ranks [] = Unit {0}
Agree ranks (n ∷ ns) = (n.kids ≡ arity ranks n.label) × Agree ranks ns

pub agree-of : (ranks : List ℕ) (ns : List Node) → HasArities ranks ns → Agree ranks ns
agree-of ranks [] a = tt
agree-of ranks (n ∷ ns) a = (a 0 n (omega arith), agree-of ranks ns (λ k d h. a (suc k) d (omega arith)))

pub of-agree : (ranks : List ℕ) (ns : List Node) → Agree ranks ns → HasArities ranks ns
of-agree ranks [] a k d h = absurd (omega arith)
of-agree ranks (n ∷ ns) a zero d h = a.0
of-agree ranks (n ∷ ns) a (suc k) d h = of-agree ranks ns a.1 k d (omega arith)

pub agree-append : (ranks : List ℕ) (xs ys : List Node) → Agree ranks xs → Agree ranks ys → Agree ranks (xs ++ ys)
agree-append ranks [] ys a b = b
agree-append ranks (x ∷ xs) ys a b = (a.0, agree-append ranks xs ys a.1 b)

pub agree-parts : (ranks : List ℕ) (xs ys : List Node) → Agree ranks (xs ++ ys) → Agree ranks xs × Agree ranks ys
agree-parts ranks [] ys a = (tt, a)
agree-parts ranks (x ∷ xs) ys a = let h = agree-parts ranks xs ys a.1 in ((a.0, h.0), h.1)

pub agree-take : (ranks : List ℕ) (n : ℕ) (xs : List Node) → Agree ranks xs → Agree ranks (take n xs)
agree-take ranks zero xs a = tt
agree-take ranks (suc n) [] a = tt
agree-take ranks (suc n) (x ∷ xs) a = (a.0, agree-take ranks n xs a.1)

pub agree-drop : (ranks : List ℕ) (n : ℕ) (xs : List Node) → Agree ranks xs → Agree ranks (drop n xs)
agree-drop ranks zero xs a = a
agree-drop ranks (suc n) [] a = tt
agree-drop ranks (suc n) (x ∷ xs) a = agree-drop ranks n xs a.1

pub agree-with : (ranks : List ℕ) (ns : List Node) (p : ℕ) (ms : List Node) → Agree ranks ns → Agree ranks ms → Agree ranks (with_subterm kids_of ns p ms)
agree-with ranks ns p ms a b =
    let back : List Node = drop (span kids_of 1 (drop p ns)) (drop p ns) in
    agree-append ranks (take p ns) (ms ++ back) (agree-take ranks p ns a)
    (agree-append ranks ms back b (agree-drop ranks (span kids_of 1 (drop p ns)) (drop p ns) (agree-drop ranks p ns a)))

pub span-agree : (ranks : List ℕ) (n : ℕ) (xs : List Node) → Agree ranks xs → span kids_of n xs ≡ span (λ m. arity ranks m.label) n xs
span-agree ranks zero xs a = refl
span-agree ranks (suc n) [] a = refl
span-agree ranks (suc n) (x ∷ xs) a =
    ap suc (span-agree ranks (x.kids + n) xs a.1 ∙ ap (λ k. span (λ m. arity ranks m.label) (k + n) xs) a.0)

pub terms-agree : (ranks : List ℕ) (n : ℕ) (xs : List Node) → Agree ranks xs → terms kids_of n xs ≡ terms (λ m. arity ranks m.label) n xs
terms-agree ranks zero xs a = refl
terms-agree ranks (suc n) xs a =
    let s = span-agree ranks 1 xs a in
    rw (s, terms-agree ranks n (drop (span (λ m. arity ranks m.label) 1 xs) xs) (agree-drop ranks (span (λ m. arity ranks m.label) 1 xs) xs a)) refl

-- terms by the numbers of children, and by the labels
pub kids-terms : (ranks : List ℕ) (n : ℕ) (ns : List Node) → Agree ranks ns → AreTerms (arity ranks) n (labels_of ns) → AreTerms kids_of n ns
kids-terms ranks zero [] a t = tt
kids-terms ranks zero (m ∷ ns) a t = absurd t
kids-terms ranks (suc n) [] a t = absurd t
kids-terms ranks (suc n) (m ∷ ns) a t = kids-terms ranks (m.kids + n) ns a.1 (subst (λ k. AreTerms (arity ranks) (k + n) (labels_of ns)) (sym a.0) t)

pub labels-terms : (ranks : List ℕ) (n : ℕ) (ns : List Node) → Agree ranks ns → AreTerms kids_of n ns → AreTerms (arity ranks) n (labels_of ns)
labels-terms ranks zero [] a t = tt
labels-terms ranks zero (m ∷ ns) a t = absurd t
labels-terms ranks (suc n) [] a t = absurd t
labels-terms ranks (suc n) (m ∷ ns) a t = subst (λ k. AreTerms (arity ranks) (k + n) (labels_of ns)) a.0 (labels-terms ranks (m.kids + n) ns a.1 t)

pub labels-append : (xs ys : List Node) → labels_of (xs ++ ys) ≡ labels_of xs ++ labels_of ys
labels-append xs ys = map-append (λ (n : Node). n.label) xs ys

-- labels of subterms
module _ (ranks : List ℕ) (ns : List Node) (p : ℕ) (agree : Agree ranks ns) where
  span-labels : span (arity ranks) 1 (drop p (labels_of ns)) ≡ span kids_of 1 (drop p ns)
  span-labels =
      ap (λ ls. span (arity ranks) 1 ls) (drop-map (λ (n : Node). n.label) p ns) ∙ span-map (λ (n : Node). n.label) (arity ranks) 1 (drop p ns)
      ∙ sym (span-agree ranks 1 (drop p ns) (agree-drop ranks p ns agree))

  pub labels-subterm : subterm (arity ranks) (labels_of ns) p ≡ labels_of (subterm kids_of ns p)
  labels-subterm =
      let f : Node → Label = λ n. n.label in
      ap (λ k. take k (drop p (labels_of ns))) span-labels ∙ ap (λ ls. take (span kids_of 1 (drop p ns)) ls) (drop-map f p ns) ∙ take-map f (span kids_of 1 (drop p ns)) (drop p ns)

  pub labels-with : (ms : List Node) → labels_of (with_subterm kids_of ns p ms) ≡ with_subterm (arity ranks) (labels_of ns) p (labels_of ms)
  labels-with ms =
      let f : Node → Label = λ n. n.label in
      let k : ℕ = span kids_of 1 (drop p ns) in
      map-append f (take p ns) (ms ++ drop k (drop p ns)) ∙ ap (λ ls. map f (take p ns) ++ ls) (map-append f ms (drop k (drop p ns)))
      ∙ ap (λ ls. ls ++ (labels_of ms ++ labels_of (drop k (drop p ns)))) (sym (take-map f p ns))
      ∙ ap (λ ls. take p (labels_of ns) ++ (labels_of ms ++ ls)) (sym (drop-map f k (drop p ns)) ∙ ap (λ ls. drop k ls) (sym (drop-map f p ns)) ∙ ap (λ m. drop m (drop p (labels_of ns))) (sym span-labels))

-- the label of a node
pub label-is : (ns : List Node) (p : ℕ) (n : Node) → slice_get ns p ≡ Some n → get_or (labels_of ns) p Bottom ≡ n.label
label-is [] p n e = absurd (cc)
label-is (m ∷ ns) zero n e = let q : m ≡ n = cc in ap (λ (x : Node). x.label) q
label-is (m ∷ ns) (suc p) n e = label-is ns p n e
