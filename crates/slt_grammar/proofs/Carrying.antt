-- What an algebra makes of a rule's value is what it makes of the rule along the list of rules.
use Rattle.std.proofs.Common.{◌≡◌, ℕ, zero, suc, List, [], ◌∷◌, ◌++◌, length, get_or, map, refl, ap, sym, ◌∙◌, arith, length-append, append_assoc}
use Rattle.std.proofs.lemmas.List.{get_or_at}
use Rattle.rule_arena.specs.declared.label.Label.{Label}
use Rattle.slt_grammar.specs.Algebras.{Algebra, meanings, meaning, rule_meanings, ranks_of, all_meanings}
use Rattle.slt_grammar.specs.Terms.{Term, Leaf, substitute, term_algebra, up, holes}
use Rattle.slt_grammar.specs.Grammars.{rank_at, value_at}
use Rattle.slt_grammar.specs.declared.rules.Rule.{Rule}
use Rattle.slt_grammar.proofs.Meanings.{Carries, meanings-carried, get_or-carried}
use Rattle.slt_grammar.proofs.Substitutions.{substitute-up}

-- each function of the first list is carried to that of the second
abbrev pub AllCarried : {S T : Type 0} → (S → T) → List (List S → S) → List (List T → T) → Type 0
AllCarried h [] [] = Unit {0}
AllCarried h (f ∷ fs) [] = ⊥
AllCarried h [] (g ∷ gs) = ⊥
AllCarried {S} {T} h (f ∷ fs) (g ∷ gs) = ((xs : List S) → h (f xs) ≡ g (map h xs)) × AllCarried h fs gs

module _ {S T : Type 0} (h : S → T) (A : Algebra S) (B : Algebra T) (bottom : h A.bottom ≡ B.bottom) (node : (f : ℕ) (a b : S) → h (A.node f a b) ≡ B.node f (h a) (h b)) where
  pub carried-at : (fs : List (List S → S)) (gs : List (List T → T)) → AllCarried h fs gs → (q : ℕ) (xs : List S) → h (get_or fs q (λ _. A.bottom) xs) ≡ get_or gs q (λ _. B.bottom) (map h xs)
  carried-at [] [] c q xs = bottom
  carried-at (f ∷ fs) [] c q xs = absurd c
  carried-at [] (g ∷ gs) c q xs = absurd c
  carried-at (f ∷ fs) (g ∷ gs) c zero xs = c.0 xs
  carried-at (f ∷ fs) (g ∷ gs) c (suc q) xs = carried-at fs gs c.1 q xs

  pub carries : (fs : List (List S → S)) (gs : List (List T → T)) → AllCarried h fs gs → Carries h A B fs gs
  carries fs gs c = record { bottom = bottom; node = node; rules = carried-at fs gs c }

  pub carried-push : (fs : List (List S → S)) (gs : List (List T → T)) (f : List S → S) (g : List T → T) → AllCarried h fs gs → ((xs : List S) → h (f xs) ≡ g (map h xs)) → AllCarried h (fs ++ f ∷ []) (gs ++ g ∷ [])
  carried-push [] [] f g c e = (e, tt)
  carried-push (f' ∷ fs) [] f g c e = absurd c
  carried-push [] (g' ∷ gs) f g c e = absurd c
  carried-push (f' ∷ fs) (g' ∷ gs) f g c e = (c.0, carried-push fs gs f g c.1 e)

  pub meaning-carried : (ranks : List ℕ) (fs : List (List S → S)) (gs : List (List T → T)) (body : List Label) → AllCarried h fs gs → (xs : List S) → h (meaning A ranks fs body xs) ≡ meaning B ranks gs body (map h xs)
  meaning-carried ranks fs gs body c xs =
      get_or-carried h A B fs gs (carries fs gs c) (meanings A ranks fs xs body []) 0
      ∙ ap (λ ms. get_or ms 0 B.bottom) (meanings-carried h A B fs gs (carries fs gs c) ranks xs body [])

  pub rule_meanings-carried : (ranks : List ℕ) (fs : List (List S → S)) (gs : List (List T → T)) (G : List Rule) → AllCarried h fs gs → AllCarried h (rule_meanings A ranks fs G) (rule_meanings B ranks gs G)
  rule_meanings-carried ranks fs gs [] c = c
  rule_meanings-carried ranks fs gs (R ∷ Rs) c = rule_meanings-carried ranks (fs ++ meaning A ranks fs R.body ∷ []) (gs ++ meaning B ranks gs R.body ∷ []) Rs (carried-push fs gs _ _ c (meaning-carried ranks fs gs R.body c))

-- what an algebra makes of terms carries the terms' meanings to the algebra's
pub up-carries : {S : Type 0} (A : Algebra S) (G : List Rule) (states : List S) → Carries (λ t. up A t states) term_algebra A (all_meanings term_algebra G) (all_meanings A G)
up-carries A G states =
    carries (λ t. up A t states) term_algebra A refl (λ f a b. refl) (all_meanings term_algebra G) (all_meanings A G)
    (rule_meanings-carried (λ t. up A t states) term_algebra A refl (λ f a b. refl) (ranks_of G) [] [] G tt)

-- what an algebra makes of a rule's term over some terms
pub up-values : {S : Type 0} (A : Algebra S) (states : List S) (G : List Rule) (q : ℕ) (ts : List Term) → up A (get_or (all_meanings term_algebra G) q (λ _. Leaf) ts) states ≡ get_or (all_meanings A G) q (λ _. A.bottom) (map (λ t. up A t states) ts)
up-values A states G q ts = (up-carries A G states).rules q ts

pub up-holes : {S : Type 0} (A : Algebra S) (before states : List S) → map (λ t. up A t (before ++ states)) (holes (length before) (length states)) ≡ states
up-holes A before [] = refl
up-holes A before (s ∷ states) =
    let n : length (before ++ s ∷ []) ≡ suc (length before) = omega (arith, length-append before (s ∷ [])) in
    let ih = up-holes A (before ++ s ∷ []) states in
    let ih' : map (λ t. up A t (before ++ s ∷ states)) (holes (suc (length before)) (length states)) ≡ states = rw (n, append_assoc before (s ∷ []) states) at ih in
    rw (get_or_at before s states A.bottom (length before) refl, ih')

pub up-value_at : {S : Type 0} (A : Algebra S) (G : List Rule) (r : ℕ) (states : List S) → length states ≡ rank_at G r → up A (value_at G r) states ≡ get_or (all_meanings A G) r (λ _. A.bottom) states
up-value_at A G r states e =
    up-values A states G r (holes 0 (rank_at G r)) ∙ ap (get_or (all_meanings A G) r (λ _. A.bottom)) (rw (← e) (up-holes A [] states))

-- a rule's term over its arguments is its value with the arguments in the holes
pub values-substitute : (G : List Rule) (q : ℕ) (kids : List Term) → length kids ≡ rank_at G q → get_or (all_meanings term_algebra G) q (λ _. Leaf) kids ≡ substitute (value_at G q) kids
values-substitute G q kids n = sym (substitute-up (value_at G q) kids ∙ up-value_at term_algebra G q kids n)
