-- Texts and symbols, one after another.
use Rattle.std.proofs.Common.{◌≡◌, ◌∙◌, ℕ, ◌+◌, ◌≤◌, nat_eq, List, [], ◌∷◌, length, drop, Option, Some, None, refl, sym, ap, subst, arith, length-drop}
use Rattle.std.specs.Prelude.{slice_get, IsTrue, ◌↔◌}
use Rattle.std.proofs.lemmas.Bool.Decides.{nat_tests}
use Rattle.plain_tree.specs.declared.kind.Kind.{Kind}
use Rattle.rule_arena.specs.declared.label.Label.{Label}
use Rattle.grammar_file.specs.Marks.{marks, valued, Thins}
use Rattle.grammar_file.specs.TextSymbols.{text_symbols, AreTextsOf, IsTextOf}
use Rattle.grammar_file.specs.Unlike.{AreBehind, AreRightTexts, GoOn, HasCome}
use Rattle.grammar_file.specs.declared.attributes.Attributes.{Attributes}
use Rattle.grammar_file.specs.declared.text_lists.Mark.{Mark}
use Rattle.grammar_file.specs.declared.text_lists.Mark.TheVariants.{Valued, Bare}
use Rattle.grammar_file.proofs.MarkLemmas.{going-same, thins-valued, unlike-same, valued-marks}
use Rattle.grammar_file.proofs.ListLemmas.{drop-at, drop-none}

empty : {X : Type 0} (xs : List X) → length xs ≡ 0 → xs ≡ []
empty [] e = refl
empty (x ∷ xs) e = absurd (omega arith)

drop-end : {X : Type 0} (xs : List X) (n : ℕ) → length xs ≤ n → drop n xs ≡ []
drop-end xs n le = empty (drop n xs) (omega (arith, length-drop n xs))

drop-short : {X : Type 0} (xs : List X) (n : ℕ) → drop n xs ≡ [] → length xs ≤ n
drop-short xs n e = let l : length (drop n xs) ≡ 0 = ap length e in omega (arith, length-drop n xs)

same-numbers : (a b : ℕ) → IsTrue (nat_eq a b) → a ≡ b
same-numbers a b e = grind (arith, nat_tests)

numbers-same : (a b : ℕ) → a ≡ b → IsTrue (nat_eq a b)
numbers-same a b e = grind (arith, nat_tests)

module _ (names : List (Kind × List ℕ)) (texts : List (List ℕ)) where
  -- the first text is that of the first symbol
  fit-first : (fs : List ℕ) (f at : ℕ) (t : List ℕ) → slice_get texts at ≡ Some t → AreTextsOf names (f ∷ fs) (drop at texts) → AreTextsOf names (f ∷ fs) (t ∷ drop (at + 1) texts)
  fit-first fs f at t s h = subst (AreTextsOf names (f ∷ fs)) (drop-at texts at t s) h

  fit-next : (fs : List ℕ) (f at : ℕ) (t : List ℕ) → slice_get texts at ≡ Some t → IsTextOf (slice_get names f) t → AreTextsOf names (f ∷ fs) (drop at texts) ↔ AreTextsOf names fs (drop (at + 1) texts)
  fit-next fs f at t s is = ((λ h. (fit-first fs f at t s h).1), (λ h. subst (AreTextsOf names (f ∷ fs)) (sym (drop-at texts at t s)) (is, h)))

  -- no text is
  fit-not : (fs : List ℕ) (f at : ℕ) → ((t : List ℕ) → slice_get texts at ≡ Some t → IsTextOf (slice_get names f) t → ⊥) → AreTextsOf names (f ∷ fs) (drop at texts) → ⊥
  fit-not fs f at none-fits h = by_text (slice_get texts at) refl
    where
      by_text : (o : Option (List ℕ)) → slice_get texts at ≡ o → ⊥
      by_text None s = subst (AreTextsOf names (f ∷ fs)) (drop-none texts at s) h
      by_text (Some t) s = none-fits t s (fit-first fs f at t s h).0

  none-left : (vs : List (List ℕ)) → AreTextsOf names [] vs → vs ≡ []
  none-left [] h = refl
  none-left (v ∷ vs) h = absurd h

  -- no symbol is left
  fit-end : (at n : ℕ) → at ≤ length texts → n ≡ length texts → IsTrue (nat_eq at n) ↔ AreTextsOf names [] (drop at texts)
  fit-end at n within count = (
    (λ t. let a = same-numbers at n t in
        subst (AreTextsOf names []) (sym (drop-end texts at (omega arith))) tt),
    (λ h. let s = drop-short texts at (none-left (drop at texts) h) in
        numbers-same at n (omega arith)),
  )

pub iff-over : {A B C : Type 0} → A ↔ B → B ↔ C → A ↔ C
iff-over h k = ((λ a. k.0 (h.0 a)), (λ c. h.1 (k.1 c)))

-- what is left of the texts is that of the marks to come, and their attributes are unlike those that came
pub record Fits (names : List (Kind × List ℕ)) (texts : List (List ℕ)) (at : ℕ) (a : Attributes) (ms : List Mark) : Type 0 where
  pub fit : AreTextsOf names (valued ms) (drop at texts)
  pub going : GoOn names a ms

module _ (names : List (Kind × List ℕ)) (texts : List (List ℕ)) where
  -- at first no attributes came
  pub fits-start : (labels : List Label) (a : Attributes) (ws : List Mark) → AreBehind a (length names) 0 → Thins ws (marks names labels) → AreRightTexts names labels texts ↔ Fits names texts 0 a ws
  fits-start labels a ws behind thin = (
    (λ r. record { fit = subst (λ fs. AreTextsOf names fs texts) (sym same) r.fit; going = record { come = λ f c. absurd (none f c); coming = (unlike-same names ws (marks names labels) thin).0 r.unlike } }),
    (λ h. record { fit = subst (λ fs. AreTextsOf names fs texts) same h.fit; unlike = (unlike-same names ws (marks names labels) thin).1 h.going.coming }),
  )
    where
      same : valued ws ≡ text_symbols names labels
      same = thins-valued ws (marks names labels) thin ∙ valued-marks names labels

      none : (f : ℕ) → HasCome a f → ⊥
      none f c = let e = behind.each f in omega arith

  -- bare marks that are left out say nothing
  pub fits-thin : (at : ℕ) (a : Attributes) (ws ms : List Mark) → Thins ws ms → Fits names texts at a ms ↔ Fits names texts at a ws
  fits-thin at a ws ms thin = (
    (λ h. record { fit = subst (λ fs. AreTextsOf names fs (drop at texts)) (sym (thins-valued ws ms thin)) h.fit; going = (going-same names a ws ms thin).0 h.going }),
    (λ h. record { fit = subst (λ fs. AreTextsOf names fs (drop at texts)) (thins-valued ws ms thin) h.fit; going = (going-same names a ws ms thin).1 h.going }),
  )

  -- a node more: without a text, and with its text
  pub fits-bare : (at : ℕ) (a b : Attributes) (ms : List Mark) → GoOn names a (Bare ∷ ms) ↔ GoOn names b ms → Fits names texts at a (Bare ∷ ms) ↔ Fits names texts at b ms
  fits-bare at a b ms go = ((λ h. record { fit = h.fit; going = go.0 h.going }), (λ h. record { fit = h.fit; going = go.1 h.going }))

  pub fits-valued : (at : ℕ) (a b : Attributes) (f : ℕ) (ms : List Mark) (t : List ℕ) → GoOn names a (Valued f ∷ ms) ↔ GoOn names b ms → slice_get texts at ≡ Some t → IsTextOf (slice_get names f) t
      → Fits names texts at a (Valued f ∷ ms) ↔ Fits names texts (at + 1) b ms
  fits-valued at a b f ms t go s is =
      let next = fit-next names texts (valued ms) f at t s is in
      ((λ h. record { fit = next.0 h.fit; going = go.0 h.going }), (λ h. record { fit = next.1 h.fit; going = go.1 h.going }))

  -- no text is that of the next node
  pub fits-not : (at : ℕ) (a : Attributes) (f : ℕ) (ms : List Mark) → ((t : List ℕ) → slice_get texts at ≡ Some t → IsTextOf (slice_get names f) t → ⊥) → Fits names texts at a (Valued f ∷ ms) → ⊥
  fits-not at a f ms none h = fit-not names texts (valued ms) f at none h.fit

  -- no node is left
  pub fits-end : (at n : ℕ) (a : Attributes) (ms : List Mark) → ms ≡ [] → at ≤ length texts → n ≡ length texts → IsTrue (nat_eq at n) ↔ Fits names texts at a ms
  fits-end at n a ms e within count =
      let end = fit-end names texts at n within count in (
        (λ t. subst (Fits names texts at a) (sym e) (record { fit = end.0 t; going = record { come = λ f c. tt; coming = tt } })),
        (λ h. end.1 (subst (Fits names texts at a) e h).fit),
      )
