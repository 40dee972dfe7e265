-- One argument of a call after another.
use Rattle.std.proofs.Common.{◌≡◌, ℕ, suc, ◌+◌, ◌-◌, ◌<◌, List, [], ◌∷◌, ◌++◌, length, get_or, drop, take, reverse, insert, refl, ap, sym, subst, ◌∙◌, arith, add-one, Option, Some, None, MatchOption}
use Rattle.std.proofs.Math.Seq.{take-append_seam, drop-append_seam}
use Rattle.std.proofs.lemmas.List.{drop_more, drop_all, reverse-append, reverse-reverse}
use Rattle.std.proofs.lemmas.List.Edits.{insert-append_right}
use Rattle.plain_tree.specs.declared.kind.Kind.{Kind}
use Rattle.rule_arena.specs.declared.label.Label.TheVariants.{Call}
use Rattle.segment_counts.specs.Counting.{AreCounts, CountTable, told}
use Rattle.segment_counts.specs.declared.counts.Measure.TheVariants.{Texts}
use Rattle.segment_counts.specs.Weights.{text_weight}
use Rattle.slt_grammar.specs.Algebras.{ranks_of}
use Rattle.slt_grammar.specs.Grammars.{IsGrammar, rank_at}
use Rattle.slt_grammar.specs.declared.rules.Rule.{Rule}
use Rattle.slt_grammar.proofs.RuleMeanings.{rank_at-ranks_of}
use Rattle.value_tests.specs.Steps.{sized}
use Rattle.value_tests.specs.TextPlaces.{IsClear, places, whole_size, AreClear}
use Rattle.value_tests.proofs.Stepping.{size-told}

pub reverse-push : {X : Type 0} (xs : List X) (x : X) → reverse (xs ++ x ∷ []) ≡ x ∷ reverse xs
reverse-push xs x = reverse-append xs (x ∷ [])

-- nothing is taken off an empty list
pub none-empty : {X : Type 0} (o : Option X) (n m : ℕ) (P : Type 0) → MatchOption o ((n ≡ 0) × (m ≡ 0)) (λ _. P) → o ≡ None → n ≡ 0
none-empty None n m P h e = h.0
none-empty (Some x) n m P h e = absurd (cc)

pub empty-reverse : {X : Type 0} (xs : List X) → length xs ≡ 0 → reverse xs ≡ []
empty-reverse [] e = refl
empty-reverse (x ∷ xs) e = absurd (omega arith)

pub opened-more : (old done : List ℕ) (n x : ℕ) → n ≡ length old → insert (old ++ reverse done) n x ≡ old ++ reverse (done ++ x ∷ [])
opened-more old done n x e =
    let z : n - length old ≡ 0 = omega arith in
    rw (insert-append_right old (reverse done) (length old) n x refl (omega arith), z, reverse-push done x) refl

pub opened-reverse : (old done new : List ℕ) → new ≡ old ++ reverse done → reverse new ≡ done ++ reverse old
opened-reverse old done new e = ap reverse e ∙ reverse-append old (reverse done) ∙ ap (λ xs. xs ++ reverse old) (reverse-reverse done)

module _ (c : ℕ → ℕ) (kids : List ℕ) (i : ℕ) (h : i < length kids) (here first second : ℕ) (e : first ≡ here + c i) (f : second ≡ first + get_or kids i 0) where
  next-place : here + c i + get_or kids i 0 ≡ second
  next-place = omega arith

  pub places-next : places c i (drop i kids) here ≡ first ∷ places c (i + 1) (drop (i + 1) kids) second
  places-next = rw (drop_more kids i 0 h, next-place, ← e, add-one i) refl

  pub clear-next : (marks : ℕ → ℕ) → IsClear marks here (c i) → AreClear c marks (i + 1) (drop (i + 1) kids) second → AreClear c marks i (drop i kids) here
  clear-next marks a b = rw (drop_more kids i 0 h) (a, rw (next-place, ← add-one i) b)

  pub next-clear : (marks : ℕ → ℕ) → AreClear c marks i (drop i kids) here → IsClear marks here (c i) × AreClear c marks (i + 1) (drop (i + 1) kids) second
  next-clear marks a =
      let b = rw (drop_more kids i 0 h) at a in
      (b.0, subst (λ n. AreClear c marks n (drop (i + 1) kids) second) (sym (add-one i)) (subst (AreClear c marks (suc i) (drop (i + 1) kids)) next-place b.1))

pub last-clear : (c : ℕ → ℕ) (kids : List ℕ) (i : ℕ) → i ≡ length kids → (marks : ℕ → ℕ) (p : ℕ) → AreClear c marks i (drop i kids) p → IsClear marks p (c (length kids))
last-clear c kids i e marks p a = rw (e, drop_all (length kids) kids (omega arith)) at a

pub clear-last : (c : ℕ → ℕ) (kids : List ℕ) (i : ℕ) → i ≡ length kids → (marks : ℕ → ℕ) (p : ℕ) → IsClear marks p (c (length kids)) → AreClear c marks i (drop i kids) p
clear-last c kids i e marks p a = rw (e, drop_all (length kids) kids (omega arith)) a

-- the size of a call over the sizes behind it
pub call-sized : (names : List (Kind × List ℕ)) (G : List Rule) (g : IsGrammar G) (C : CountTable) (k : AreCounts names G C) (q : ℕ) (h : q < length G) (kids left all : List ℕ)
    → length kids ≡ rank_at G q → kids ++ left ≡ all → whole_size (told Texts C.rows q) 0 kids ∷ left ≡ sized (text_weight names) G (Call q) all
call-sized names G g C k q h kids left all n e =
    let r : get_or (ranks_of G) q 0 ≡ length kids = rank_at-ranks_of G q ∙ sym n in
    let a : take (length kids) all ≡ kids = ap (take (length kids)) (sym e) ∙ take-append_seam kids left in
    let b : drop (length kids) all ≡ left = ap (drop (length kids)) (sym e) ∙ drop-append_seam kids left in
    rw (r, a, b, size-told names G g C k q h kids n) refl
