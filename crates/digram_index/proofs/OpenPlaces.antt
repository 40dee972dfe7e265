-- Open places, from which the parents of nodes in preorder come.
use Rattle.std.proofs.Common.{◌≡◌, ◌⊎◌, inl, inr, ℕ, zero, suc, ◌+◌, ◌<◌, List, [], ◌∷◌, ◌++◌, length, get_or, drop, Option, Some, None, refl, ap, ◌∙◌, arith, length-append, append_assoc}
use Rattle.rule_arena.specs.Preorder.{AreTerms, places, parents}
use Rattle.rule_arena.specs.Terms.{Node, key_of, kids_of}
use Rattle.rule_arena.specs.declared.key.Key.{Key}

abbrev pub Opens : Type 0
Opens = List (Option (Key × ℕ))

abbrev pub ups : Opens → List Node → Opens
ups os ns = parents kids_of key_of os ns

pub length-places : (up : Key) (place n : ℕ) → length (places up place n) ≡ n
length-places up place zero = refl
length-places up place (suc n) = ap suc (length-places up (suc place) n)

pub length-ups : (os : Opens) (ns : List Node) → length (ups os ns) ≡ length ns
length-ups os [] = refl
length-ups os (n ∷ ns) = ap suc (length-ups (places n.key 1 n.kids ++ drop 1 os) ns)

pub get-drop : (os : Opens) (k : ℕ) → get_or (drop 1 os) k None ≡ get_or os (suc k) None
get-drop [] k = refl
get-drop (o ∷ os) k = refl

-- the open places behind some nodes
abbrev pub open_behind : Opens → List Node → Opens
open_behind os [] = os
open_behind os (n ∷ ns) = open_behind (places n.key 1 n.kids ++ drop 1 os) ns

pub ups-append : (os : Opens) (xs ys : List Node) → ups os (xs ++ ys) ≡ ups os xs ++ ups (open_behind os xs) ys
ups-append os [] ys = refl
ups-append os (x ∷ xs) ys = ap (λ (zs : Opens). get_or os 0 None ∷ zs) (ups-append (places x.key 1 x.kids ++ drop 1 os) xs ys)

drop-add : (m n : ℕ) (xs ys : Opens) → length xs ≡ m → drop (m + n) (xs ++ ys) ≡ drop n ys
drop-add zero n [] ys e = let z : zero + n ≡ n = omega arith in ap (λ (k : ℕ). drop k ys) z
drop-add zero n (x ∷ xs) ys e = absurd (omega arith)
drop-add (suc m) n [] ys e = absurd (omega arith)
drop-add (suc m) n (x ∷ xs) ys e = let z : suc m + n ≡ suc (m + n) = omega arith in ap (λ (k : ℕ). drop k (x ∷ (xs ++ ys))) z ∙ drop-add m n xs ys (omega arith)

-- so many whole terms use so many open places
pub behind-terms : (n : ℕ) (os : Opens) (xs : List Node) → AreTerms kids_of n xs → open_behind os xs ≡ drop n os
behind-terms zero os [] t = refl
behind-terms zero os (x ∷ xs) t = absurd t
behind-terms (suc n) os [] t = absurd t
behind-terms (suc n) os (x ∷ xs) t =
    behind-terms (x.kids + n) (places x.key 1 x.kids ++ drop 1 os) xs t
    ∙ drop-add x.kids n (places x.key 1 x.kids) (drop 1 os) (length-places x.key 1 x.kids) ∙ next n os
  where
    next : (n : ℕ) (os : Opens) → drop n (drop 1 os) ≡ drop (suc n) os
    next zero [] = refl
    next (suc n) [] = refl
    next zero (o ∷ os) = refl
    next (suc n) (o ∷ os) = refl

pub drop-places : (up : Key) (i m n : ℕ) (rest : Opens) → drop m (places up i (m + n) ++ rest) ≡ places up (i + m) n ++ rest
drop-places up i zero n rest =
    let z : zero + n ≡ n = omega arith in
    let y : i ≡ i + 0 = omega arith in
    ap (λ (k : ℕ). places up i k ++ rest) z ∙ ap (λ (k : ℕ). places up k n ++ rest) y
drop-places up i (suc m) n rest =
    let z : suc m + n ≡ suc (m + n) = omega arith in
    let y : suc i + m ≡ i + suc m = omega arith in
    ap (λ (k : ℕ). drop (suc m) (places up i k ++ rest)) z ∙ drop-places up (suc i) m n rest ∙ ap (λ (k : ℕ). places up k n ++ rest) y

-- the places of two runs below one node
pub places-append : (up : Key) (i m n : ℕ) → places up i (m + n) ≡ places up i m ++ places up (i + m) n
places-append up i zero n =
    let z : zero + n ≡ n = omega arith in
    let y : i ≡ i + 0 = omega arith in
    ap (λ (k : ℕ). places up i k) z ∙ ap (λ (k : ℕ). places up k n) y
places-append up i (suc m) n =
    let z : suc m + n ≡ suc (m + n) = omega arith in
    let y : suc i + m ≡ i + suc m = omega arith in
    ap (λ (k : ℕ). places up i k) z ∙ ap (λ (os : Opens). Some (up, i) ∷ os) (places-append up (suc i) m n ∙ ap (λ (k : ℕ). places up (suc i) m ++ places up k n) y)

-- one of the first so many open places, in one list and in another
pub record AreOpen (A B : Opens) (n : ℕ) (e f : Option (Key × ℕ)) : Type 0 where
  pub at : ℕ
  pub few : at < n
  pub first : e ≡ get_or A at None
  pub second : f ≡ get_or B at None

-- the roots of terms have the open places as parents, and what stands below them does not depend on these
pub below-roots : (k n : ℕ) (S A B : Opens) (xs : List Node) → k ≡ length S + n → AreTerms kids_of k xs → (p : ℕ)
    → (get_or (ups (S ++ A) xs) p None ≡ get_or (ups (S ++ B) xs) p None) ⊎ AreOpen A B n (get_or (ups (S ++ A) xs) p None) (get_or (ups (S ++ B) xs) p None)
below-roots k n S A B [] e t p = inl refl
below-roots zero n S A B (x ∷ xs) e t p = absurd t
below-roots (suc k) n (s ∷ S) A B (x ∷ xs) e t zero = inl refl
below-roots (suc k) n (s ∷ S) A B (x ∷ xs) e t (suc p) =
    let P : Opens = places x.key 1 x.kids in
    let l : x.kids + k ≡ length (P ++ S) + n = omega (arith, e, length-append P S, length-places x.key 1 x.kids) in
    rw (append_assoc P S A, append_assoc P S B) at (below-roots (x.kids + k) n (P ++ S) A B xs l t p)
below-roots (suc k) zero [] A B (x ∷ xs) e t p = absurd (omega (arith, e))
below-roots (suc k) (suc n) [] A B (x ∷ xs) e t zero = inr (record { at = 0; few = omega arith; first = refl; second = refl })
below-roots (suc k) (suc n) [] A B (x ∷ xs) e t (suc p) =
    up (below-roots (x.kids + k) n (places x.key 1 x.kids) (drop 1 A) (drop 1 B) xs (omega (arith, e, length-places x.key 1 x.kids)) t p)
  where
    up : (get_or (ups (places x.key 1 x.kids ++ drop 1 A) xs) p None ≡ get_or (ups (places x.key 1 x.kids ++ drop 1 B) xs) p None) ⊎ AreOpen (drop 1 A) (drop 1 B) n (get_or (ups (places x.key 1 x.kids ++ drop 1 A) xs) p None) (get_or (ups (places x.key 1 x.kids ++ drop 1 B) xs) p None)
        → (get_or (ups (places x.key 1 x.kids ++ drop 1 A) xs) p None ≡ get_or (ups (places x.key 1 x.kids ++ drop 1 B) xs) p None) ⊎ AreOpen A B (suc n) (get_or (ups (places x.key 1 x.kids ++ drop 1 A) xs) p None) (get_or (ups (places x.key 1 x.kids ++ drop 1 B) xs) p None)
    up (inl h) = inl h
    up (inr o) = inr (record { at = suc o.at; few = let w = o.few in omega arith; first = o.first ∙ get-drop A o.at; second = o.second ∙ get-drop B o.at })

pub get-places : (up : Key) (i n c : ℕ) (rest : Opens) → c < n → get_or (places up i n ++ rest) c None ≡ Some (up, i + c)
get-places up i zero c rest h = absurd (omega arith)
get-places up i (suc n) zero rest h = let z : i ≡ i + 0 = omega arith in ap (λ (k : ℕ). let o : Option (Key × ℕ) = Some (up, k) in o) z
get-places up i (suc n) (suc c) rest h = let z : suc i + c ≡ i + suc c = omega arith in get-places up (suc i) n c rest (omega arith) ∙ ap (λ (k : ℕ). let o : Option (Key × ℕ) = Some (up, k) in o) z
