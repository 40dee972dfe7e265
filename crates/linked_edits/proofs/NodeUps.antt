-- Nodes above nodes, where a list of nodes is in parts.
use Rattle.std.proofs.Common.{◌≡◌, ℕ, zero, suc, ◌+◌, ◌<◌, List, [], ◌∷◌, ◌++◌, length, get_or, drop, Option, None, slice_get, refl, sym, ap, ◌∙◌, arith, append_assoc, length-append}
use Rattle.rule_arena.specs.Preorder.{AreTerms, places, parents}
use Rattle.rule_arena.specs.Terms.{Node, kids_of}
use Rattle.digram_index.specs.Digrams.{parent_node}

abbrev pub Ups : Type 0
Ups = List (Option (Node × ℕ))

abbrev pub above : Ups → List Node → Ups
above os ns = parents kids_of (λ n. n) os ns

abbrev pub behind : Ups → List Node → Ups
behind os [] = os
behind os (n ∷ ns) = behind (places n 1 n.kids ++ drop 1 os) ns

length-places : (up : Node) (place n : ℕ) → length (places up place n) ≡ n
length-places up place zero = refl
length-places up place (suc n) = ap suc (length-places up (suc place) n)

length-above : (os : Ups) (ns : List Node) → length (above os ns) ≡ length ns
length-above os [] = refl
length-above os (n ∷ ns) = ap suc (length-above (places n 1 n.kids ++ drop 1 os) ns)

above-append : (os : Ups) (xs ys : List Node) → above os (xs ++ ys) ≡ above os xs ++ above (behind os xs) ys
above-append os [] ys = refl
above-append os (x ∷ xs) ys = ap (λ (zs : Ups). get_or os 0 None ∷ zs) (above-append (places x 1 x.kids ++ drop 1 os) xs ys)

drop-add : (m n : ℕ) (xs ys : Ups) → length xs ≡ m → drop (m + n) (xs ++ ys) ≡ drop n ys
drop-add zero n [] ys e = let z : zero + n ≡ n = omega arith in ap (λ (k : ℕ). drop k ys) z
drop-add zero n (x ∷ xs) ys e = absurd (omega arith)
drop-add (suc m) n [] ys e = absurd (omega arith)
drop-add (suc m) n (x ∷ xs) ys e = let z : suc m + n ≡ suc (m + n) = omega arith in ap (λ (k : ℕ). drop k (x ∷ (xs ++ ys))) z ∙ drop-add m n xs ys (omega arith)

pub behind-terms : (n : ℕ) (os : Ups) (xs : List Node) → AreTerms kids_of n xs → behind os xs ≡ drop n os
behind-terms zero os [] t = refl
behind-terms zero os (x ∷ xs) t = absurd t
behind-terms (suc n) os [] t = absurd t
behind-terms (suc n) os (x ∷ xs) t =
    behind-terms (x.kids + n) (places x 1 x.kids ++ drop 1 os) xs t
    ∙ drop-add x.kids n (places x 1 x.kids) (drop 1 os) (length-places x 1 x.kids) ∙ next n os
  where
    next : (n : ℕ) (os : Ups) → drop n (drop 1 os) ≡ drop (suc n) os
    next zero [] = refl
    next (suc n) [] = refl
    next zero (o ∷ os) = refl
    next (suc n) (o ∷ os) = refl

-- terms take as many open places as they are, and no more
pub same-above : (k : ℕ) (S A B : Ups) (xs : List Node) → length S ≡ k → AreTerms kids_of k xs → above (S ++ A) xs ≡ above (S ++ B) xs
same-above zero S A B [] e t = refl
same-above zero S A B (x ∷ xs) e t = absurd t
same-above (suc k) S A B [] e t = refl
same-above (suc k) [] A B (x ∷ xs) e t = absurd (omega arith)
same-above (suc k) (s ∷ S) A B (x ∷ xs) e t =
    let l : length (places x 1 x.kids ++ S) ≡ x.kids + k = omega (arith, e, length-append (places x 1 x.kids) S, length-places x 1 x.kids) in
    ap (λ (zs : Ups). s ∷ above zs xs) (sym (append_assoc (places x 1 x.kids) S A)) ∙ ap (λ (zs : Ups). s ∷ zs) (same-above (x.kids + k) (places x 1 x.kids ++ S) A B xs l t)
    ∙ ap (λ (zs : Ups). s ∷ above zs xs) (append_assoc (places x 1 x.kids) S B)

-- below the root of a term the open places play no part
pub below-root : (os : Ups) (g : List Node) (s : ℕ) → AreTerms kids_of 1 g → get_or (above os g) (suc s) None ≡ get_or (above (None ∷ []) g) (suc s) None
below-root os [] s t = absurd t
below-root os (x ∷ g) s t = ap (λ (zs : Ups). get_or zs s None) (same-above (x.kids + 0) (places x 1 x.kids) (drop 1 os) [] g (omega (arith, length-places x 1 x.kids)) t)

get-left : (xs ys : Ups) (p : ℕ) → p < length xs → get_or (xs ++ ys) p None ≡ get_or xs p None
get-left [] ys p h = absurd (omega arith)
get-left (x ∷ xs) ys zero h = refl
get-left (x ∷ xs) ys (suc p) h = get-left xs ys p (omega arith)

get-right : (xs ys : Ups) (p q : ℕ) → p ≡ length xs + q → get_or (xs ++ ys) p None ≡ get_or ys q None
get-right [] ys p q e = let z : p ≡ q = omega arith in ap (λ (k : ℕ). get_or ys k None) z
get-right (x ∷ xs) ys zero q e = absurd (omega arith)
get-right (x ∷ xs) ys (suc p) q e = get-right xs ys p q (omega arith)

item-left : (xs ys : List Node) (p : ℕ) → p < length xs → slice_get (xs ++ ys) p ≡ slice_get xs p
item-left [] ys p h = absurd (omega arith)
item-left (x ∷ xs) ys zero h = refl
item-left (x ∷ xs) ys (suc p) h = item-left xs ys p (omega arith)

item-right : (xs ys : List Node) (p q : ℕ) → p ≡ length xs + q → slice_get (xs ++ ys) p ≡ slice_get ys q
item-right [] ys p q e = let z : p ≡ q = omega arith in ap (λ (k : ℕ). slice_get ys k) z
item-right (x ∷ xs) ys zero q e = absurd (omega arith)
item-right (x ∷ xs) ys (suc p) q e = item-right xs ys p q (omega arith)

pub record AreParts (os : Ups) (front back : List Node) : Type 0 where
  pub left : (t : ℕ) → t < length front → (slice_get (front ++ back) t ≡ slice_get front t) × (get_or (above os (front ++ back)) t None ≡ get_or (above os front) t None)
  pub right : (t u : ℕ) → t ≡ length front + u → (slice_get (front ++ back) t ≡ slice_get back u) × (get_or (above os (front ++ back)) t None ≡ get_or (above (behind os front) back) u None)

pub parts : (os : Ups) (front back : List Node) → AreParts os front back
parts os front back = record {
  left = λ t h. (item-left front back t h, ap (λ (zs : Ups). get_or zs t None) (above-append os front back) ∙ get-left (above os front) (above (behind os front) back) t (omega (arith, h, length-above os front)));
  right = λ t u z. (item-right front back t u z, ap (λ (zs : Ups). get_or zs t None) (above-append os front back) ∙ get-right (above os front) (above (behind os front) back) t u (omega (arith, z, length-above os front)));
}

-- a term that gives way to a leaf, and the term alone: where the nodes stood, and what stood above them
module _ (front sub back : List Node) (leaf : Node) (bare : leaf.kids ≡ 0) (one : AreTerms kids_of 1 sub) where
  abbrev pub IsSame : List Node → ℕ → List Node → ℕ → Type 0
  IsSame xs t ys u = (slice_get xs t ≡ slice_get ys u) × (parent_node xs t ≡ parent_node ys u)

  pub same-front : (t : ℕ) → t < length front → IsSame (front ++ (leaf ∷ back)) t (front ++ (sub ++ back)) t
  same-front t l =
      let x = (parts (None ∷ []) front (leaf ∷ back)).left t l in
      let y = (parts (None ∷ []) front (sub ++ back)).left t l in
      (x.0 ∙ sym y.0, x.1 ∙ sym y.1)

  pub same-back : (v : ℕ) → IsSame (front ++ (leaf ∷ back)) (length front + suc v) (front ++ (sub ++ back)) (length front + (length sub + v))
  same-back v =
      let os : Ups = behind (None ∷ []) front in
      let x = (parts (None ∷ []) front (leaf ∷ back)).right (length front + suc v) (suc v) refl in
      let y = (parts (None ∷ []) front (sub ++ back)).right (length front + (length sub + v)) (length sub + v) refl in
      let z = (parts os sub back).right (length sub + v) v refl in
      let l : get_or (above (places leaf 1 leaf.kids ++ drop 1 os) back) v None ≡ get_or (above (drop 1 os) back) v None = ap (λ (k : ℕ). get_or (above (places leaf 1 k ++ drop 1 os) back) v None) bare in
      let b : get_or (above (behind os sub) back) v None ≡ get_or (above (drop 1 os) back) v None = ap (λ (o : Ups). get_or (above o back) v None) (behind-terms 1 os sub one) in
      (x.0 ∙ sym z.0 ∙ sym y.0, x.1 ∙ l ∙ sym b ∙ sym z.1 ∙ sym y.1)

  pub same-sub : (u : ℕ) → suc u < length sub → IsSame sub (suc u) (front ++ (sub ++ back)) (length front + suc u)
  same-sub u l =
      let os : Ups = behind (None ∷ []) front in
      let y = (parts (None ∷ []) front (sub ++ back)).right (length front + suc u) (suc u) refl in
      let z = (parts os sub back).left (suc u) l in
      (sym z.0 ∙ sym y.0, sym (below-root os sub u one) ∙ sym z.1 ∙ sym y.1)
