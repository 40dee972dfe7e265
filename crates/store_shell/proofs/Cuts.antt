-- Bytes that are cut into lines.
use Rattle.std.specs.Prelude.{◌≡◌, ◌==◌, ℕ, List, [], ◌∷◌, ◌++◌, Bool, true, false, refl}
use Rattle.std.proofs.Common.{sym, ap, ◌∙◌, subst, arith}
use Rattle.std.specs.List.{flat_map}
use Rattle.std.proofs.lemmas.Bool.Decides.{nat_tests}
use Rattle.std.proofs.lemmas.List.{append_assoc, append-nil}
use Rattle.std.proofs.lemmas.List.Concat.{flat_map-append}
use Rattle.std.proofs.lemmas.List.Elements.{All-nil, All-cons, All-append}
use Rattle.store_shell.specs.Lines.{IsOneLine, IsCut, ended}

pub nothing : IsOneLine []
nothing = All-nil (λ byte. byte ≡ 10 → ⊥)

pub one_more : (part : List ℕ) (byte : ℕ) → IsOneLine part → (byte ≡ 10 → ⊥) → IsOneLine (part ++ byte ∷ [])
one_more part byte h ne =
    All-append (λ byte. byte ≡ 10 → ⊥) part (byte ∷ []) h (All-cons (λ byte. byte ≡ 10 → ⊥) byte [] ne nothing)

-- no line ends
pub cut_none : (part : List ℕ) → IsOneLine part → IsCut part [] part
cut_none part h = record { whole = refl; each = All-nil IsOneLine; rest = h }

-- one line ends
pub cut_one : (part : List ℕ) → IsOneLine part → IsCut (part ++ 10 ∷ []) (part ∷ []) []
cut_one part h = record {
  whole = sym (append-nil (ended part ++ []) ∙ append-nil (ended part));
  each = All-cons IsOneLine part [] h (All-nil IsOneLine);
  rest = nothing;
}

pub cut_append : (p a b : List ℕ) (ls ms : List (List ℕ)) (t u : List ℕ) → IsCut (p ++ a) ls t → IsCut (t ++ b) ms u → IsCut (p ++ (a ++ b)) (ls ++ ms) u
cut_append p a b ls ms t u h k = record {
  whole =
      sym (append_assoc p a b)
      ∙ (ap (λ z. z ++ b) h.whole
      ∙ (append_assoc (flat_map ended ls) t b
      ∙ (ap (λ z. flat_map ended ls ++ z) k.whole
      ∙ (sym (append_assoc (flat_map ended ls) (flat_map ended ms) u) ∙ ap (λ z. z ++ u) (sym (flat_map-append ended ls ms))))));
  each = All-append IsOneLine ls ms h.each k.each;
  rest = k.rest;
}

is_ten : (b : Bool) (x : ℕ) (A : Type 0) → (x == 10) ≡ b → (x ≡ 10 → A) → ((x ≡ 10 → ⊥) → A) → A
is_ten true x A e f g = f (grind (arith, nat_tests))
is_ten false x A e f g = g (λ ten. grind (arith, nat_tests))

pub record Cut (bytes : List ℕ) : Type 0 where
  pub lines : List (List ℕ)
  pub tail : List ℕ
  pub cut : IsCut bytes lines tail

-- all bytes can be cut
pub cut_of : (t b : List ℕ) → IsOneLine t → Cut (t ++ b)
cut_of t [] h = record { lines = []; tail = t; cut = subst (λ (bytes : List ℕ). IsCut bytes [] t) (sym (append-nil t)) (cut_none t h) }
cut_of t (x ∷ b) h =
    is_ten (x == 10) x (Cut (t ++ x ∷ b)) refl
    (λ e. let r = cut_of [] b nothing in
    let P : ℕ → Type 0 = λ byte. IsCut (t ++ byte ∷ b) (t ∷ r.lines) r.tail in
    record { lines = t ∷ r.lines; tail = r.tail; cut = subst P (sym e) (cut_append t (10 ∷ []) b (t ∷ []) r.lines [] r.tail (cut_one t h) r.cut) })
    (λ ne. let r = cut_of (t ++ x ∷ []) b (one_more t x h ne) in
    record { lines = r.lines; tail = r.tail; cut = subst (λ (bytes : List ℕ). IsCut bytes r.lines r.tail) (append_assoc t (x ∷ []) b) r.cut })
