-- The scan cuts bytes in one place only.
use Rattle.std.proofs.Common.{◌≡◌, ℕ, Bool, true, List, [], ◌∷◌, ◌++◌, refl, ap, sym, ◌∙◌, subst}
use Rattle.std.specs.List.{list_all}
use Rattle.xml_tokenizer.specs.Scanning.{scan_step, scanned}
use Rattle.xml_tokenizer.specs.declared.scan.Scan.{Scan}
use Rattle.xml_tokenizer.specs.declared.scan.Step.{Step}
use Rattle.xml_tokenizer.specs.declared.scan.Step.TheVariants.{On, Whole, Dead}
use Rattle.xml_tokens.proofs.Lists.{and_true}

pub dead : (x : List ℕ) → scanned Dead x ≡ Dead
dead [] = refl
dead (c ∷ x) = refl

pub scanned-append : (s : Step) (x y : List ℕ) → scanned s (x ++ y) ≡ scanned (scanned s x) y
scanned-append s [] y = refl
scanned-append (On t) (c ∷ x) y = scanned-append (scan_step t c) x y
scanned-append Whole (c ∷ x) y = sym (dead y)
scanned-append Dead (c ∷ x) y = sym (dead y)

-- a scan that comes as far as this over x
pub then_scanned : (s t : Step) (x y : List ℕ) → scanned s x ≡ t → scanned s (x ++ y) ≡ scanned t y
then_scanned s t x y e = scanned-append s x y ∙ ap (λ z. scanned z y) e

-- two tokens at the front of the same bytes are one
pub one_cut : (s : Step) (x y a b : List ℕ) → scanned s x ≡ Whole → scanned s y ≡ Whole → x ++ a ≡ y ++ b → (x ≡ y) × (a ≡ b)
one_cut s [] [] a b p q e = (refl, e)
one_cut (On t) [] (d ∷ ys) a b p q e = cc
one_cut Whole [] (d ∷ ys) a b p q e = cc
one_cut Dead [] (d ∷ ys) a b p q e = cc
one_cut (On t) (c ∷ xs) [] a b p q e = cc
one_cut Whole (c ∷ xs) [] a b p q e = cc
one_cut Dead (c ∷ xs) [] a b p q e = cc
one_cut (On t) (c ∷ xs) (d ∷ ys) a b p q e =
    let heads : c ≡ d = cc in
    let rest : xs ++ a ≡ ys ++ b = cc in
    let below = one_cut (scan_step t c) xs ys a b p (subst (λ z. scanned (scan_step t z) ys ≡ Whole) (sym heads) q) rest in
    (cc, below.1)
one_cut Whole (c ∷ xs) (d ∷ ys) a b p q e = cc
one_cut Dead (c ∷ xs) (d ∷ ys) a b p q e = cc

-- where the scan over the bytes held dies at the next, no token stands at the front, however the bytes go on
pub no_token : (s : Step) (held x a next : List ℕ) (t : Scan) (c : ℕ) → scanned s held ≡ On t → scan_step t c ≡ Dead → scanned s x ≡ Whole
    → x ++ a ≡ held ++ c ∷ next → ⊥
no_token s [] [] a next t c h d w e = cc
no_token s [] (k ∷ xs) a next t c h d w e =
    let heads : k ≡ c = cc in
    let w2 = subst (λ z. scanned z (k ∷ xs) ≡ Whole) h w in
    let w3 = subst (λ z. scanned (scan_step t z) xs ≡ Whole) heads w2 in
    let w4 = subst (λ z. scanned z xs ≡ Whole) d w3 in
    let died = dead xs in cc
no_token (On u) (k ∷ held) [] a next t c h d w e = cc
no_token Whole (k ∷ held) x a next t c h d w e = cc
no_token Dead (k ∷ held) x a next t c h d w e = cc
no_token (On u) (k ∷ held) (m ∷ xs) a next t c h d w e =
    let heads : m ≡ k = cc in
    let rest : xs ++ a ≡ held ++ c ∷ next = cc in
    no_token (scan_step u k) held xs a next t c h d (subst (λ z. scanned (scan_step u z) xs ≡ Whole) heads w) rest

-- bytes at which the scan stays where it is
pub stays : (s : Scan) (p : ℕ → Bool) → ((c : ℕ) → p c ≡ true → scan_step s c ≡ On s) → (x : List ℕ) → list_all p x ≡ true → scanned (On s) x ≡ On s
stays s p h [] e = refl
stays s p h (c ∷ x) e =
    let both = and_true (p c) (list_all p x) e in
    ap (λ z. scanned z x) (h c both.0) ∙ stays s p h x both.1
