-- Parents of nodes in preorder.
use Rattle.std.proofs.Common.{◌≡◌, ℕ, zero, suc, ◌+◌, ◌<◌, List, [], ◌∷◌, ◌++◌, length, get_or, drop, Option, Some, None, IsSome, IsTrue, Bool, true, false, is_some, not, slice_get, refl, sym, ap, ◌∙◌, subst, arith, length-append}
use Rattle.rule_arena.specs.Preorder.{AreTerms, places, parents}
use Rattle.rule_arena.specs.Terms.{Node, key_in, key_of, parent_in, kids_of}
use Rattle.rule_arena.specs.Children.{ChildAt}
use Rattle.rule_arena.specs.declared.key.Key.{Key}

places-some : (up : Key) (place n : ℕ) (i : ℕ) (o : Option (Key × ℕ)) → slice_get (places up place n) i ≡ Some o → IsSome o
places-some up place zero i o e = absurd (cc)
places-some up place (suc n) zero o e = let q : Some (up, place) ≡ o = cc in subst (λ (x : Option (Key × ℕ)). IsSome x) q refl
places-some up place (suc n) (suc i) o e = places-some up (suc place) n i o e

length-places : (up : Key) (place n : ℕ) → length (places up place n) ≡ n
length-places up place zero = refl
length-places up place (suc n) = ap suc (length-places up (suc place) n)

both : (xs ys : List (Option (Key × ℕ))) → ((i : ℕ) (o : Option (Key × ℕ)) → slice_get xs i ≡ Some o → IsSome o) → ((i : ℕ) (o : Option (Key × ℕ)) → slice_get ys i ≡ Some o → IsSome o)
    → (i : ℕ) (o : Option (Key × ℕ)) → slice_get (xs ++ ys) i ≡ Some o → IsSome o
both [] ys f g i o e = g i o e
both (x ∷ xs) ys f g zero o e = f 0 o e
both (x ∷ xs) ys f g (suc i) o e = both xs ys (λ j p q. f (suc j) p q) g i o e

parents-some : (opens : List (Option (Key × ℕ))) (ns : List Node) → AreTerms kids_of (length opens) ns → ((i : ℕ) (o : Option (Key × ℕ)) → slice_get opens i ≡ Some o → IsSome o)
    → (p : ℕ) → p < length ns → IsSome (get_or (parents kids_of key_of opens ns) p None)
parents-some opens [] t f p h = absurd (omega arith)
parents-some [] (n ∷ ns) t f p h = absurd t
parents-some (o ∷ os) (n ∷ ns) t f zero h = f 0 o refl
parents-some (o ∷ os) (n ∷ ns) t f (suc p) h =
    let l : n.kids + length os ≡ length (places n.key 1 n.kids ++ os) = omega (arith, length-append (places n.key 1 n.kids) os, length-places n.key 1 n.kids) in
    parents-some (places n.key 1 n.kids ++ os) ns (subst (λ (m : ℕ). AreTerms kids_of m ns) l t) (both (places n.key 1 n.kids) os (places-some n.key 1 n.kids) (λ i q e. f (suc i) q e)) p (omega arith)

pub parent-inner : (ns : List Node) (p : ℕ) → AreTerms kids_of 1 ns → p < length ns → 0 < p → IsSome (parent_in ns p)
parent-inner [] p t h z = absurd (omega arith)
parent-inner (n ∷ ns) zero t h z = absurd (omega arith)
parent-inner (n ∷ ns) (suc p) t h z =
    let l : n.kids + 0 ≡ length (places n.key 1 n.kids ++ []) = omega (arith, length-append (places n.key 1 n.kids) [], length-places n.key 1 n.kids) in
    parents-some (places n.key 1 n.kids ++ []) ns (subst (λ (m : ℕ). AreTerms kids_of m ns) l t) (both (places n.key 1 n.kids) [] (places-some n.key 1 n.kids) (λ i q e. absurd (cc))) p (omega arith)

pub parent-root : (ns : List Node) → parent_in ns 0 ≡ None
parent-root [] = refl
parent-root (n ∷ ns) = refl

-- a node without a parent is the root
pub none-root : (ns : List Node) (p q : ℕ) (o : Option (Key × ℕ)) (b : Bool) → AreTerms kids_of 1 ns → p < length ns → parent_in ns p ≡ o → q ≡ p → is_some o ≡ not b → (IsTrue b → q ≡ 0) × (q ≡ 0 → IsTrue b)
none-root ns p q o true t h e f i = (λ w. f ∙ zero-by p h (λ z. no o (subst (λ (y : Option (Key × ℕ)). IsSome y) e (parent-inner ns p t h z)) i), λ w. refl)
  where
    zero-by : (p : ℕ) → p < length ns → (0 < p → ⊥) → p ≡ 0
    zero-by zero h d = refl
    zero-by (suc p) h d = absurd (d (omega arith))

    no : (o : Option (Key × ℕ)) → IsSome o → is_some o ≡ not true → ⊥
    no None s w = let u : Option (Key × ℕ) = None in let v : IsSome u = s in cc
    no (Some y) s w = cc
none-root ns p q o false t h e f i = (
  λ w. absurd (let z : false ≡ true = w in cc),
  λ w. absurd (none o (sym e ∙ ap (λ (j : ℕ). parent_in ns j) (sym f ∙ w) ∙ parent-root ns) i),
)
  where
    none : (o : Option (Key × ℕ)) → o ≡ None → is_some o ≡ not false → ⊥
    none None s w = cc
    none (Some y) s w = cc

drop-add : {X : Type 0} (m n : ℕ) (xs ys : List X) → length xs ≡ m → drop (m + n) (xs ++ ys) ≡ drop n ys
drop-add zero n [] ys e = let z : zero + n ≡ n = omega arith in ap (λ (k : ℕ). drop k ys) z
drop-add zero n (x ∷ xs) ys e = absurd (omega arith)
drop-add (suc m) n [] ys e = absurd (omega arith)
drop-add (suc m) n (x ∷ xs) ys e = let z : suc m + n ≡ suc (m + n) = omega arith in ap (λ (k : ℕ). drop k (x ∷ (xs ++ ys))) z ∙ drop-add m n xs ys (omega arith)

get-places : (up : Key) (i n c : ℕ) (rest : List (Option (Key × ℕ))) → c < n → get_or (drop c (places up i n ++ rest)) 0 None ≡ Some (up, i + c)
get-places up i zero c rest h = absurd (omega arith)
get-places up i (suc n) zero rest h = let z : i ≡ i + 0 = omega arith in ap (λ (k : ℕ). let o : Option (Key × ℕ) = Some (up, k) in o) z
get-places up i (suc n) (suc c) rest h = let z : suc i + c ≡ i + suc c = omega arith in get-places up (suc i) n c rest (omega arith) ∙ ap (λ (k : ℕ). let o : Option (Key × ℕ) = Some (up, k) in o) z

-- whole terms use as many of the open places as they are
parents-past : (n : ℕ) (opens : List (Option (Key × ℕ))) (xs ys : List Node) → AreTerms kids_of n xs → parents kids_of key_of opens (xs ++ ys) ≡ parents kids_of key_of opens xs ++ parents kids_of key_of (drop n opens) ys
parents-past zero opens [] ys t = refl
parents-past zero opens (x ∷ xs) ys t = absurd t
parents-past (suc n) opens [] ys t = absurd t
parents-past (suc n) opens (x ∷ xs) ys t =
    let os : List (Option (Key × ℕ)) = places x.key 1 x.kids ++ drop 1 opens in
    let d : drop (x.kids + n) os ≡ drop (suc n) opens = drop-add x.kids n (places x.key 1 x.kids) (drop 1 opens) (length-places x.key 1 x.kids) ∙ next n opens in
    ap (λ (zs : List (Option (Key × ℕ))). get_or opens 0 None ∷ zs) (parents-past (x.kids + n) os xs ys t ∙ ap (λ (zs : List (Option (Key × ℕ))). parents kids_of key_of os xs ++ parents kids_of key_of zs ys) d)
  where
    next : (n : ℕ) (os : List (Option (Key × ℕ))) → drop n (drop 1 os) ≡ drop (suc n) os
    next zero [] = refl
    next (suc n) [] = refl
    next zero (o ∷ os) = refl
    next (suc n) (o ∷ os) = refl

-- behind any nodes some places are open
parents-behind : (opens : List (Option (Key × ℕ))) (xs ys : List Node) → (os : List (Option (Key × ℕ))) × (parents kids_of key_of opens (xs ++ ys) ≡ parents kids_of key_of opens xs ++ parents kids_of key_of os ys)
parents-behind opens [] ys = (opens, refl)
parents-behind opens (x ∷ xs) ys =
    let r = parents-behind (places x.key 1 x.kids ++ drop 1 opens) xs ys in
    (r.0, ap (λ (zs : List (Option (Key × ℕ))). get_or opens 0 None ∷ zs) r.1)

length-parents : (opens : List (Option (Key × ℕ))) (xs : List Node) → length (parents kids_of key_of opens xs) ≡ length xs
length-parents opens [] = refl
length-parents opens (x ∷ xs) = ap suc (length-parents (places x.key 1 x.kids ++ drop 1 opens) xs)

get-right : (xs ys : List (Option (Key × ℕ))) (p : ℕ) → get_or (xs ++ ys) (length xs + p) None ≡ get_or ys p None
get-right [] ys p = let z : 0 + p ≡ p = omega arith in ap (λ (k : ℕ). get_or ys k None) z
get-right (x ∷ xs) ys p = let z : suc (length xs) + p ≡ suc (length xs + p) = omega arith in ap (λ (k : ℕ). get_or (x ∷ (xs ++ ys)) k None) z ∙ get-right xs ys p

-- a child's parent is the node whose child it is
pub child-parent : (ns : List Node) (q : ℕ) (N : Node) (c : ℕ) (key : Key) (C : ChildAt ns q N c key) (p : ℕ) → p ≡ suc (q + length C.child.before) → parent_in ns p ≡ Some (N.key, suc c)
child-parent ns q N c key C p e =
    let D = C.child in
    let opens : List (Option (Key × ℕ)) = None ∷ [] in
    let f = parents-behind opens C.front (N ∷ C.rest) in
    let tail : List Node = (D.node ∷ D.below) ++ (D.after ++ D.back) in
    let os : List (Option (Key × ℕ)) = places N.key 1 N.kids ++ drop 1 f.0 in
    let g : parents kids_of key_of os C.rest ≡ parents kids_of key_of os D.before ++ parents kids_of key_of (drop c os) tail = ap (parents kids_of key_of os) D.split ∙ parents-past c os D.before tail D.before_terms in
    let whole : parents kids_of key_of opens ns ≡ parents kids_of key_of opens C.front ++ (get_or f.0 0 None ∷ (parents kids_of key_of os D.before ++ parents kids_of key_of (drop c os) tail)) =
    ap (parents kids_of key_of opens) C.split ∙ f.1 ∙ ap (λ (zs : List (Option (Key × ℕ))). parents kids_of key_of opens C.front ++ (get_or f.0 0 None ∷ zs)) g in
    let z : p ≡ length (parents kids_of key_of opens C.front) + suc (length (parents kids_of key_of os D.before) + 0) = omega (arith, e, C.at, length-parents opens C.front, length-parents os D.before) in
    let w : 1 + c ≡ suc c = omega arith in
    ap (λ (k : ℕ). get_or (parents kids_of key_of opens ns) k None) z
    ∙ ap (λ (zs : List (Option (Key × ℕ))). get_or zs (length (parents kids_of key_of opens C.front) + suc (length (parents kids_of key_of os D.before) + 0)) None) whole
    ∙ get-right (parents kids_of key_of opens C.front) (get_or f.0 0 None ∷ (parents kids_of key_of os D.before ++ parents kids_of key_of (drop c os) tail)) (suc (length (parents kids_of key_of os D.before) + 0))
    ∙ get-right (parents kids_of key_of os D.before) (parents kids_of key_of (drop c os) tail) 0
    ∙ get-places N.key 1 N.kids c (drop 1 f.0) (omega (arith, D.many))
    ∙ ap (λ (k : ℕ). let o : Option (Key × ℕ) = Some (N.key, k) in o) w

-- and where it stands
pub child-there : (ns : List Node) (q : ℕ) (N : Node) (c : ℕ) (key : Key) (C : ChildAt ns q N c key) (p : ℕ) → p ≡ suc (q + length C.child.before) → key_in ns p ≡ Some key
child-there ns q N c key C p e =
    let D = C.child in
    let z : p ≡ length C.front + suc (length D.before + 0) = omega (arith, e, C.at) in
    ap (λ (ms : List Node). key_in ms p) (C.split ∙ ap (λ (ms : List Node). C.front ++ (N ∷ ms)) D.split) ∙ ap (λ (k : ℕ). key_in (C.front ++ (N ∷ (D.before ++ ((D.node ∷ D.below) ++ (D.after ++ D.back))))) k) z
    ∙ key-right C.front (N ∷ (D.before ++ ((D.node ∷ D.below) ++ (D.after ++ D.back)))) (suc (length D.before + 0))
    ∙ key-right D.before ((D.node ∷ D.below) ++ (D.after ++ D.back)) 0 ∙ ap Some D.named
  where
    key-right : (xs ys : List Node) (p : ℕ) → key_in (xs ++ ys) (length xs + p) ≡ key_in ys p
    key-right [] ys p = let z : 0 + p ≡ p = omega arith in ap (λ (k : ℕ). key_in ys k) z
    key-right (x ∷ xs) ys p = let z : suc (length xs) + p ≡ suc (length xs + p) = omega arith in ap (λ (k : ℕ). key_in (x ∷ (xs ++ ys)) k) z ∙ key-right xs ys p
