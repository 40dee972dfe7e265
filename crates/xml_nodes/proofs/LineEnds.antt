-- Bytes without #xD, and line ends that are done.
use Rattle.std.proofs.Common.{◌≡◌, ℕ, Bool, true, false, List, [], ◌∷◌, ◌++◌, refl, ap, arith, length, sym, ◌≤◌, ◌∙◌}
use Rattle.std.specs.Prelude.{◌==◌, ◌&&◌, not}
use Rattle.xml_tokenizer.specs.LineEnds.{line_ends_after, begins_dropped}
use Rattle.plain_tree.specs.Lawful.{has_no_return}
use Rattle.xml_nodes.proofs.CharacterLemmas.{and_true}
use Rattle.std.proofs.lemmas.List.Folds.{list_all-append}

-- bytes without #xD stay as they are
pub no_return_stays : (x : List ℕ) → has_no_return x ≡ true → line_ends_after false x ≡ x
no_return_stays [] e = refl
no_return_stays (c ∷ x) e = by_test (c == 13) refl e (λ f. no_return_stays x f) where
  by_test : (b : Bool) → (c == 13) ≡ b → has_no_return (c ∷ x) ≡ true → (has_no_return x ≡ true → line_ends_after false x ≡ x) → line_ends_after false (c ∷ x) ≡ c ∷ x
  by_test true t e next = let bad = rw t at e in cc
  by_test false t e next = rw t (ap (λ z. c ∷ z) (next (rw t at e)))

-- what begins with < too, also behind a #xD
pub tag_stays : (b : Bool) (x : List ℕ) → has_no_return x ≡ true → line_ends_after b (60 ∷ x) ≡ 60 ∷ x
tag_stays true x e = ap (λ z. 60 ∷ z) (no_return_stays x e)
tag_stays false x e = ap (λ z. 60 ∷ z) (no_return_stays x e)

-- a byte that isn't dropped gives a byte
pub record Gives (b : Bool) (c : ℕ) (x : List ℕ) : Type 0 where
  pub first : ℕ
  pub others : List ℕ
  pub are : line_ends_after b (c ∷ x) ≡ first ∷ others

pub gives_byte : (b : Bool) (c : ℕ) (x : List ℕ) → begins_dropped b (c ∷ x) ≡ false → Gives b c x
gives_byte b c x e = by_test (c == 13) refl where
  by_test : (t : Bool) → (c == 13) ≡ t → Gives b c x
  by_test true t = record { first = 10; others = line_ends_after true x; are = rw t refl }
  by_test false t = record { first = c; others = line_ends_after false x; are = rw (t, e) refl }

-- no #xD is left
pub no_returns : (b : Bool) (x : List ℕ) → has_no_return (line_ends_after b x) ≡ true
no_returns b [] = refl
no_returns b (c ∷ x) = by_test (c == 13) (b && (c == 10)) refl refl (λ d. no_returns d x) where
  by_test : (s t : Bool) → (c == 13) ≡ s → (b && (c == 10)) ≡ t → ((d : Bool) → has_no_return (line_ends_after d x) ≡ true) → has_no_return (line_ends_after b (c ∷ x)) ≡ true
  by_test true t e f next = rw e (next true)
  by_test false true e f next = rw (e, f) (next false)
  by_test false false e f next = rw (e, f) (rw (e, next false) refl)

pub line_ends-shorter : (b : Bool) (x : List ℕ) → length (line_ends_after b x) ≤ length x
line_ends-shorter b [] = omega arith
line_ends-shorter b (c ∷ x) = by_test (c == 13) (b && (c == 10)) refl refl (λ d. line_ends-shorter d x) where
  by_test : (s t : Bool) → (c == 13) ≡ s → (b && (c == 10)) ≡ t → ((d : Bool) → length (line_ends_after d x) ≤ length x) → length (line_ends_after b (c ∷ x)) ≤ length (c ∷ x)
  by_test true t e f next = let k = next true in rw e (omega (arith, k))
  by_test false true e f next = let k = next false in rw (e, f) (omega (arith, k))
  by_test false false e f next = let k = next false in rw (e, f) (omega (arith, k))

pub both_no_return : (x y : List ℕ) → has_no_return (x ++ y) ≡ true → (has_no_return x ≡ true) × (has_no_return y ≡ true)
both_no_return x y e = and_true (has_no_return x) (has_no_return y) (sym (list_all-append (λ c. not (c == 13)) x y) ∙ e)
