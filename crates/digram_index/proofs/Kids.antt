-- A node is a child of its parent.
use Rattle.std.proofs.Common.{◌≡◌, ℕ, zero, suc, ◌+◌, ◌<◌, List, [], ◌∷◌, ◌++◌, length, map, get_or, drop, Option, Some, None, slice_get, refl, sym, ap, ◌∙◌, subst, arith}
use Rattle.std.proofs.lemmas.List.{map-append}
use Rattle.rule_arena.specs.Preorder.{AreTerms, span, roots, places}
use Rattle.rule_arena.specs.Terms.{Node, key_of, kids_of, key_in, kids_in, parent_in}
use Rattle.rule_arena.specs.declared.key.Key.{Key}
use Rattle.rule_arena.specs.Laws.{IsKeyedTerm}
use Rattle.rule_arena.proofs.ChildLemmas.{length-roots, child_place}
use Rattle.rule_arena.proofs.NodeLemmas.{node_of}
use Rattle.rule_arena.proofs.TakingLaws.{child_apart}
use Rattle.slt_grammar.proofs.Parents.{child-there, child-parent}
use Rattle.rule_arena.proofs.PreorderLemmas.{AreTerms-split, span-add}
use Rattle.digram_index.proofs.OpenPlaces.{Opens, ups, get-drop, get-places}
use Rattle.digram_index.proofs.Sides.{Side, first, second, side, get-right, key-left, key-right}

drop-none : (k : ℕ) → let xs : List Node = [] in drop k xs ≡ xs
drop-none zero = refl
drop-none (suc k) = refl

drop-plus : (a b : ℕ) (xs : List Node) → drop (a + b) xs ≡ drop b (drop a xs)
drop-plus zero b xs = let z : zero + b ≡ b = omega arith in ap (λ (k : ℕ). drop k xs) z
drop-plus (suc a) b [] = drop-none (suc a + b) ∙ sym (drop-none b)
drop-plus (suc a) b (x ∷ xs) = let z : suc a + b ≡ suc (a + b) = omega arith in ap (λ (k : ℕ). drop k (x ∷ xs)) z ∙ drop-plus a b xs

roots-add : (m n : ℕ) (ns : List Node) → AreTerms kids_of (m + n) ns → roots kids_of (m + n) ns ≡ roots kids_of m ns ++ roots kids_of n (drop (span kids_of m ns) ns)
roots-add zero n ns t = let z : zero + n ≡ n = omega arith in ap (λ (k : ℕ). roots kids_of k ns) z
roots-add (suc m) n [] t = absurd (let z : suc m + n ≡ suc (m + n) = omega arith in subst (λ (k : ℕ). AreTerms kids_of k []) z t)
roots-add (suc m) n (x ∷ ns) t =
    let z : suc m + n ≡ suc (m + n) = omega arith in
    let t' : AreTerms kids_of (x.kids + (m + n)) ns = subst (λ (k : ℕ). AreTerms kids_of k (x ∷ ns)) z t in
    let D : List Node = drop (span kids_of x.kids ns) ns in
    let r = roots-add m n D (AreTerms-split kids_of x.kids (m + n) ns t').1 in
    let e : drop (span kids_of m D) D ≡ drop (span kids_of (x.kids + m) ns) ns = sym (drop-plus (span kids_of x.kids ns) (span kids_of m D) ns) ∙ ap (λ (k : ℕ). drop k ns) (sym (span-add kids_of x.kids m ns)) in
    ap (λ (k : ℕ). roots kids_of k (x ∷ ns)) z ∙ ap (λ (zs : List Node). x ∷ zs) (r ∙ ap (λ (zs : List Node). roots kids_of m D ++ roots kids_of n zs) e)

-- where the parent of a node comes from: an open place, or a node whose child it is
pub data Origin (os : Opens) (n : ℕ) (ns : List Node) (p : ℕ) (e : Key × ℕ) : Type 0 where
  open_place : (i : ℕ) → get_or os i None ≡ Some e → slice_get (map key_of (roots kids_of n ns)) i ≡ key_in ns p → Origin os n ns p e
  node : (q i : ℕ) → q < p → key_in ns q ≡ Some e.0 → e.1 ≡ suc i → slice_get (kids_in ns q) i ≡ key_in ns p → Origin os n ns p e

pub origin : (n : ℕ) (os : Opens) (ns : List Node) (p : ℕ) (e : Key × ℕ) → AreTerms kids_of n ns → get_or (ups os ns) p None ≡ Some e → Origin os n ns p e
origin n os [] p e t h = absurd (let z : None ≡ Some e = h in cc)
origin zero os (x ∷ ns) p e t h = absurd t
origin (suc n) os (x ∷ ns) zero e t h = open_place 0 h refl
origin (suc n) os (x ∷ ns) (suc p) e t h = up (origin (x.kids + n) (places x.key 1 x.kids ++ drop 1 os) ns p e t h)
  where
    all : map key_of (roots kids_of (x.kids + n) ns) ≡ map key_of (roots kids_of x.kids ns) ++ map key_of (roots kids_of n (drop (span kids_of x.kids ns) ns))
    all = ap (λ (zs : List Node). map key_of zs) (roots-add x.kids n ns t) ∙ map-append key_of (roots kids_of x.kids ns) (roots kids_of n (drop (span kids_of x.kids ns) ns))

    many : length (map key_of (roots kids_of x.kids ns)) ≡ x.kids
    many = length-roots x.kids n ns t

    pair : (a b : Key × ℕ) → Some a ≡ Some b → a ≡ b
    pair a b z = cc

    at : (i : ℕ) → Side x.kids i → get_or (places x.key 1 x.kids ++ drop 1 os) i None ≡ Some e → slice_get (map key_of (roots kids_of (x.kids + n) ns)) i ≡ key_in ns p → Origin os (suc n) (x ∷ ns) (suc p) e
    at i (first w) g r =
        let y : (x.key, 1 + i) ≡ e = pair (x.key, 1 + i) e (sym (get-places x.key 1 x.kids i (drop 1 os) w) ∙ g) in
        let s : 1 + i ≡ suc i = omega arith in
        node 0 i (omega arith) (ap (λ (v : Key × ℕ). Some v.0) y) (ap (λ (v : Key × ℕ). v.1) (sym y) ∙ s)
        (sym (key-left (map key_of (roots kids_of x.kids ns)) (map key_of (roots kids_of n (drop (span kids_of x.kids ns) ns))) i (omega (arith, many, w))) ∙ ap (λ (ks : List Key). slice_get ks i) (sym all) ∙ r)
    at i (second j w) g r =
        open_place (suc j) (sym (get-drop os j) ∙ sym (get-right (places x.key 1 x.kids) (drop 1 os) i j (omega (arith, w, length-places' x.key 1 x.kids))) ∙ g)
        (sym (key-right (map key_of (roots kids_of x.kids ns)) (map key_of (roots kids_of n (drop (span kids_of x.kids ns) ns))) i j (omega (arith, many, w))) ∙ ap (λ (ks : List Key). slice_get ks i) (sym all) ∙ r)
      where
        length-places' : (up : Key) (place n : ℕ) → length (places up place n) ≡ n
        length-places' up place zero = refl
        length-places' up place (suc n) = ap suc (length-places' up (suc place) n)

    up : Origin (places x.key 1 x.kids ++ drop 1 os) (x.kids + n) ns p e → Origin os (suc n) (x ∷ ns) (suc p) e
    up (open_place i g r) = at i (side x.kids i) g r
    up (node q i a b d f) = node (suc q) i (omega arith) b d f

-- a node is a child of its parent, which stands before it
pub record IsChildOf (ns : List Node) (p : ℕ) (e : Key × ℕ) : Type 0 where
  pub above : ℕ
  pub child : ℕ
  pub before : above < p
  pub there : key_in ns above ≡ Some e.0
  pub place : e.1 ≡ suc child
  pub is_child : slice_get (kids_in ns above) child ≡ key_in ns p

pub child-of : (ns : List Node) (p : ℕ) (e : Key × ℕ) → AreTerms kids_of 1 ns → parent_in ns p ≡ Some e → IsChildOf ns p e
child-of ns p e t h = at (origin 1 (None ∷ []) ns p e t h)
  where
    no : (i : ℕ) → get_or (None ∷ []) i None ≡ Some e → ⊥
    no zero z = let w : None ≡ Some e = z in cc
    no (suc i) z = let w : None ≡ Some e = z in cc

    at : Origin (None ∷ []) 1 ns p e → IsChildOf ns p e
    at (open_place i g r) = absurd (no i g)
    at (node q i a b d f) = record { above = q; child = i; before = a; there = b; place = d; is_child = f }

-- a child of a node stands in its nodes
pub kid-there : (ns : List Node) (s : ℕ) (up : Key) (c : ℕ) (key : Key) → IsKeyedTerm ns → key_in ns s ≡ Some up → slice_get (kids_in ns s) c ≡ Some key → (p : ℕ) × (key_in ns p ≡ Some key)
kid-there ns s up c key t k e =
    let n = node_of ns s up k in
    let C = child_apart ns s n.0 c key t n.1.0 e in
    let p : ℕ = suc (s + length C.child.before) in
    (p, child-there ns s n.0 c key C p refl)

-- its parent is that node
pub kid-parent : (ns : List Node) (s p : ℕ) (up : Key) (c : ℕ) (key : Key) → IsKeyedTerm ns → key_in ns s ≡ Some up → slice_get (kids_in ns s) c ≡ Some key → key_in ns p ≡ Some key → parent_in ns p ≡ Some (up, suc c)
kid-parent ns s p up c key t k e f =
    let n = node_of ns s up k in
    let C = child_apart ns s n.0 c key t n.1.0 e in
    child-parent ns s n.0 c key C p (child_place ns s n.0 c key C p f (λ i j a b. t.once i j key a b)) ∙ ap (λ (x : Key). let o : Option (Key × ℕ) = Some (x, suc c) in o) n.1.1
