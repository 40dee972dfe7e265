-- The places of a copy over arguments: where copied nodes and the roots of arguments stand, and where the nodes below these roots do.
use Rattle.std.proofs.Common.{◌≡◌, ◌≢◌, ◌⊎◌, inl, inr, ℕ, zero, suc, ◌+◌, ◌<◌, List, [], ◌∷◌, ◌++◌, length, get_or, drop, Option, Some, None, slice_get, refl, sym, ap, ◌∙◌, subst, arith, length-append}
use Rattle.rule_arena.specs.Preorder.{AreTerms, places}
use Rattle.rule_arena.specs.Terms.{Node, key_in, kids_of}
use Rattle.rule_arena.specs.declared.key.Key.{Key}
use Rattle.rule_arena.specs.declared.label.Label.{Label}
use Rattle.rule_arena.specs.declared.label.Label.TheVariants.{Bottom, Symbol, Call, Param}
use Rattle.rule_arena.proofs.PreorderLemmas.{AreTerms-append, slice_get-left, slice_get-right}
use Rattle.slt_grammar.specs.Bodies.{arity}
use Rattle.slt_grammar.specs.Copying.{copied, copied_node, hole, holes_in}
use Rattle.slt_grammar.specs.Detaching.{AreArgs}
use Rattle.slt_grammar.proofs.Agreeing.{Agree}
use Rattle.slt_grammar.proofs.FoldedRules.{flat}
use Rattle.digram_index.proofs.OpenPlaces.{Opens, AreOpen, ups, length-ups, length-places, open_behind, ups-append, below-roots}
use Rattle.digram_index.proofs.Sides.{Side, first, second, side, get-left, get-right}
use Rattle.digram_index.specs.Copies.{AreEachTerms, Meets, width}

-- what comes in the place of one node
abbrev pub piece : Label → Node → Key → List (List Node) → List Node
piece Bottom n k given = record n { key = k } ∷ []
piece (Symbol f) n k given = record n { key = k } ∷ []
piece (Call q) n k given = record n { key = k } ∷ []
piece Param n k given = get_or given 0 []

pub piece-first : (l : Label) (n : Node) (k : Key) (given : List (List Node)) (rest : List Node) → copied_node l n k given rest ≡ piece l n k given ++ rest
piece-first Bottom n k given rest = refl
piece-first (Symbol f) n k given rest = refl
piece-first (Call q) n k given rest = refl
piece-first Param n k given rest = refl

pub piece-width : (l : Label) (n : Node) (k : Key) (given : List (List Node)) → length (piece l n k given) ≡ width l given
piece-width Bottom n k given = refl
piece-width (Symbol f) n k given = refl
piece-width (Call q) n k given = refl
piece-width Param n k given = refl

-- a node that is met, and what stands below it where it is an argument's root
pub data Kind (n : Node) (given : List (List Node)) : Type 0 where
  as_copy : hole n.label ≡ 0 → n.label ≢ Param → width n.label given ≡ 1 → ((k : Key) → piece n.label n k given ≡ record n { key = k } ∷ []) → Kind n given
  as_argument : (g : List Node) (more : List (List Node)) → n.label ≡ Param → hole n.label ≡ 1 → given ≡ g ∷ more → Kind n given

pub kind-of : (n : Node) (ns : List Node) (given : List (List Node)) → length given ≡ holes_in (n ∷ ns) → Kind n given
kind-of n ns given h = at n.label refl given h
  where
    at : (l : Label) → n.label ≡ l → (given : List (List Node)) → length given ≡ holes_in (n ∷ ns) → Kind n given
    at Bottom e given h = as_copy (ap hole e) (λ z. let w : Bottom ≡ Param = sym e ∙ z in cc) (ap (λ (l : Label). width l given) e) (λ k. ap (λ (l : Label). piece l n k given) e)
    at (Symbol f) e given h = as_copy (ap hole e) (λ z. let w : Symbol f ≡ Param = sym e ∙ z in cc) (ap (λ (l : Label). width l given) e) (λ k. ap (λ (l : Label). piece l n k given) e)
    at (Call q) e given h = as_copy (ap hole e) (λ z. let w : Call q ≡ Param = sym e ∙ z in cc) (ap (λ (l : Label). width l given) e) (λ k. ap (λ (l : Label). piece l n k given) e)
    at Param e [] h = absurd (omega (arith, h, ap hole e))
    at Param e (g ∷ given) h = as_argument g given e (ap hole e) refl

-- what comes for the first node, and for the others
abbrev pub first-of : Node → List (List Node) → List Key → List Node
first-of n given keys = piece n.label n (get_or keys 0 n.key) given

abbrev pub rest-of : Node → List Node → List (List Node) → List Key → List Node
rest-of n ns given keys = copied ns (drop (hole n.label) given) (drop 1 keys)

-- a copy begins with what comes for its first node
pub copied-first : (n : Node) (ns : List Node) (given : List (List Node)) (keys : List Key)
    → copied (n ∷ ns) given keys ≡ first-of n given keys ++ rest-of n ns given keys
copied-first n ns given keys = piece-first n.label n (get_or keys 0 n.key) given (rest-of n ns given keys)

pub each-drop : (k : ℕ) (given : List (List Node)) → AreEachTerms given → AreEachTerms (drop k given)
each-drop zero given t = t
each-drop (suc k) [] t = t
each-drop (suc k) (g ∷ given) t = each-drop k given t.1

pub length-drop-holes : (n : Node) (ns : List Node) (given : List (List Node)) → length given ≡ holes_in (n ∷ ns) → length (drop (hole n.label) given) ≡ holes_in ns
length-drop-holes n ns given h = at n.label refl given h
  where
    at : (l : Label) → n.label ≡ l → (given : List (List Node)) → length given ≡ holes_in (n ∷ ns) → length (drop (hole n.label) given) ≡ holes_in ns
    at Bottom e given h = let z = ap hole e in rw z (omega (arith, h, z))
    at (Symbol f) e given h = let z = ap hole e in rw z (omega (arith, h, z))
    at (Call q) e given h = let z = ap hole e in rw z (omega (arith, h, z))
    at Param e [] h = absurd (omega (arith, h, ap hole e))
    at Param e (g ∷ given) h = let z = ap hole e in rw z (omega (arith, h, z))

-- what comes for a node is not nothing
pub some-wide : (n : Node) (ns : List Node) (given : List (List Node)) → length given ≡ holes_in (n ∷ ns) → AreEachTerms given → 0 < width n.label given
some-wide n ns given h t = at (kind-of n ns given h)
  where
    some : (g : List Node) → AreTerms kids_of 1 g → 0 < length g
    some [] t = absurd t
    some (x ∷ g) t = omega arith

    at : Kind n given → 0 < width n.label given
    at (as_copy a b w p) = omega (arith, w)
    at (as_argument g more e a z) =
        let w : width n.label given ≡ length g = ap (λ (l : Label). width l given) e ∙ ap (λ (xs : List (List Node)). length (get_or xs 0 [])) z in
        let u = subst AreEachTerms z t in
        omega (arith, w, some g u.0)

-- a copy of terms over terms
pub copied-terms : (ranks : List ℕ) (k : ℕ) (ns : List Node) (given : List (List Node)) (keys : List Key) → Agree ranks ns → AreTerms kids_of k ns → AreEachTerms given → length given ≡ holes_in ns
    → AreTerms kids_of k (copied ns given keys)
copied-terms ranks zero [] given keys a t g h = tt
copied-terms ranks (suc k) [] given keys a t g h = absurd t
copied-terms ranks zero (n ∷ ns) given keys a t g h = absurd t
copied-terms ranks (suc k) (n ∷ ns) given keys a t g h =
    let rest : List Node = rest-of n ns given keys in
    subst (λ (xs : List Node). AreTerms kids_of (suc k) xs) (sym (copied-first n ns given keys))
    (at (kind-of n ns given h) (copied-terms ranks (n.kids + k) ns (drop (hole n.label) given) (drop 1 keys) a.1 t (each-drop (hole n.label) given g) (length-drop-holes n ns given h)))
  where
    at : Kind n given → AreTerms kids_of (n.kids + k) (rest-of n ns given keys) → AreTerms kids_of (suc k) (first-of n given keys ++ rest-of n ns given keys)
    at (as_copy b c w p) ih =
        subst (λ (xs : List Node). AreTerms kids_of (suc k) (xs ++ rest-of n ns given keys)) (sym (p (get_or keys 0 n.key))) ih
    at (as_argument x more e b z) ih =
        let leaf : n.kids + k ≡ k = let q : n.kids ≡ 0 = a.0 ∙ ap (arity ranks) e in omega (arith, q) in
        let xs : first-of n given keys ≡ x = ap (λ (l : Label). piece l n (get_or keys 0 n.key) given) e ∙ ap (λ (ys : List (List Node)). get_or ys 0 []) z in
        let o : 1 + k ≡ suc k = omega arith in
        let u = subst AreEachTerms z g in
        subst (λ (ys : List Node). AreTerms kids_of (suc k) (ys ++ rest-of n ns given keys)) (sym xs)
        (subst (λ (j : ℕ). AreTerms kids_of j (x ++ rest-of n ns given keys)) o
        (AreTerms-append kids_of 1 k x (rest-of n ns given keys) u.0 (subst (λ (j : ℕ). AreTerms kids_of j (rest-of n ns given keys)) leaf ih)))

-- the first so many items of a copy
pub length-copied : (n : Node) (ns : List Node) (given : List (List Node)) (keys : List Key) → length (copied (n ∷ ns) given keys) ≡ width n.label given + length (rest-of n ns given keys)
length-copied n ns given keys =
    let p : List Node = first-of n given keys in
    let rest : List Node = rest-of n ns given keys in
    omega (arith, ap length (copied-first n ns given keys), length-append p rest, piece-width n.label n (get_or keys 0 n.key) given)

pub meets-within : (ns : List Node) (given : List (List Node)) (keys : List Key) (t : ℕ) → AreEachTerms given → length given ≡ holes_in ns → Meets ns given t → t < length (copied ns given keys)
meets-within [] given keys t g h m = absurd m
meets-within (n ∷ ns) given keys t g h (inl z) = omega (arith, z, length-copied n ns given keys, some-wide n ns given h g)
meets-within (n ∷ ns) given keys t g h (inr (u, (z, m))) =
    omega (arith, z, length-copied n ns given keys, meets-within ns (drop (hole n.label) given) (drop 1 keys) u (each-drop (hole n.label) given g) (length-drop-holes n ns given h) m)

-- a node and its parent, below the root of an argument
pub record IsBelowRoot (given : List (List Node)) (node : Option Node) (parent : Option (Key × ℕ)) : Type 0 where
  pub i : ℕ
  pub g : List Node
  pub s : ℕ
  pub there : slice_get given i ≡ Some g
  pub within : suc s < length g
  pub is_node : slice_get g (suc s) ≡ node
  pub is_parent : get_or (ups (None ∷ []) g) (suc s) None ≡ parent

-- below a root the open places play no part
below-one : (os : Opens) (g : List Node) (s : ℕ) → AreTerms kids_of 1 g → get_or (ups os g) (suc s) None ≡ get_or (ups (None ∷ []) g) (suc s) None
below-one os [] s t = absurd t
below-one os (x ∷ g) s t = by (below-roots (x.kids + 0) 0 (places x.key 1 x.kids) (drop 1 os) [] g (omega (arith, length-places x.key 1 x.kids)) t s)
  where
    by : (get_or (ups (places x.key 1 x.kids ++ drop 1 os) g) s None ≡ get_or (ups (places x.key 1 x.kids ++ []) g) s None)
        ⊎ AreOpen (drop 1 os) [] 0 (get_or (ups (places x.key 1 x.kids ++ drop 1 os) g) s None) (get_or (ups (places x.key 1 x.kids ++ []) g) s None)
        → get_or (ups (places x.key 1 x.kids ++ drop 1 os) g) s None ≡ get_or (ups (places x.key 1 x.kids ++ []) g) s None
    by (inl e) = e
    by (inr o) = absurd (let w = o.few in omega (arith, w))

-- a list in two parts, item by item with its parents
pub record AreSplit (os : Opens) (xs front back : List Node) : Type 0 where
  pub left : (t : ℕ) → t < length front → (slice_get xs t ≡ slice_get front t) × (get_or (ups os xs) t None ≡ get_or (ups os front) t None)
  pub right : (t u : ℕ) → t ≡ length front + u → (slice_get xs t ≡ slice_get back u) × (get_or (ups os xs) t None ≡ get_or (ups (open_behind os front) back) u None)

pub split : (os : Opens) (xs front back : List Node) → xs ≡ front ++ back → AreSplit os xs front back
split os xs front back e = record {
  left = λ t h. (
    ap (λ (zs : List Node). slice_get zs t) e ∙ slice_get-left front back t h,
    whole t ∙ get-left (ups os front) (ups (open_behind os front) back) t (omega (arith, h, length-ups os front)),
  );
  right = λ t u z. (
    ap (λ (zs : List Node). slice_get zs t) e ∙ ap (λ (j : ℕ). slice_get (front ++ back) j) z ∙ slice_get-right front back u,
    whole t ∙ get-right (ups os front) (ups (open_behind os front) back) t u (omega (arith, z, length-ups os front)),
  );
}
  where
    whole : (t : ℕ) → get_or (ups os xs) t None ≡ get_or (ups os front ++ ups (open_behind os front) back) t None
    whole t = ap (λ (zs : List Node). get_or (ups os zs) t None) e ∙ ap (λ (zs : Opens). get_or zs t None) (ups-append os front back)

split-first : (n : Node) (ns : List Node) (given : List (List Node)) (keys : List Key) (os : Opens)
    → AreSplit os (copied (n ∷ ns) given keys) (first-of n given keys) (rest-of n ns given keys)
split-first n ns given keys os = split os (copied (n ∷ ns) given keys) (first-of n given keys) (rest-of n ns given keys) (copied-first n ns given keys)

-- what comes for a parameter
pub piece-argument : (n : Node) (k : Key) (given : List (List Node)) (g : List Node) (more : List (List Node)) → n.label ≡ Param → given ≡ g ∷ more → piece n.label n k given ≡ g
piece-argument n k given g more e z = ap (λ (l : Label). piece l n k given) e ∙ ap (λ (ys : List (List Node)). get_or ys 0 []) z

-- one argument more before them
deeper : (k : ℕ) (given : List (List Node)) (item : Option Node) (parent : Option (Key × ℕ)) → IsBelowRoot (drop k given) item parent → IsBelowRoot given item parent
deeper k given item parent B = record { i = k + B.i; g = B.g; s = B.s; there = dropped k given B.i ∙ B.there; within = B.within; is_node = B.is_node; is_parent = B.is_parent }
  where
    none : (i : ℕ) → let xs : List (List Node) = [] in slice_get xs i ≡ None
    none zero = refl
    none (suc i) = refl

    dropped : (k : ℕ) (xs : List (List Node)) (i : ℕ) → slice_get xs (k + i) ≡ slice_get (drop k xs) i
    dropped zero xs i = let z : zero + i ≡ i = omega arith in ap (λ (j : ℕ). slice_get xs j) z
    dropped (suc k) [] i = none (suc k + i) ∙ sym (none i)
    dropped (suc k) (x ∷ xs) i = let z : suc k + i ≡ suc (k + i) = omega arith in ap (λ (j : ℕ). slice_get (x ∷ xs) j) z ∙ dropped k xs i

-- a node of a copy is met, or stands below an argument's root
abbrev pub IsTold : List Node → List (List Node) → List Key → Opens → ℕ → Type 0
IsTold ns given keys os t = Meets ns given t ⊎ IsBelowRoot given (slice_get (copied ns given keys) t) (get_or (ups os (copied ns given keys)) t None)

pub told : (ns : List Node) (given : List (List Node)) (keys : List Key) (os : Opens) (t : ℕ) → AreEachTerms given → length given ≡ holes_in ns → t < length (copied ns given keys)
    → Meets ns given t ⊎ IsBelowRoot given (slice_get (copied ns given keys) t) (get_or (ups os (copied ns given keys)) t None)
told [] given keys os t g h l = absurd (omega (arith, l))
told (n ∷ ns) given keys os t g h l =
    at (side (length (first-of n given keys)) t) (λ later u w. told ns (drop (hole n.label) given) (drop 1 keys) later u (each-drop (hole n.label) given g) (length-drop-holes n ns given h) w)
  where
    S : AreSplit os (copied (n ∷ ns) given keys) (first-of n given keys) (rest-of n ns given keys)
    S = split-first n ns given keys os

    in-piece : (t : ℕ) → t < length (first-of n given keys) → Kind n given → IsTold (n ∷ ns) given keys os t
    in-piece zero w k = inl (inl refl)
    in-piece (suc s) w (as_copy a b c d) = absurd (omega (arith, w, ap length (d (get_or keys 0 n.key))))
    in-piece (suc s) w (as_argument x more e a z) =
        let q : first-of n given keys ≡ x = piece-argument n (get_or keys 0 n.key) given x more e z in
        let u = subst AreEachTerms z g in
        inr (record {
          i = 0;
          g = x;
          s = s;
          there = ap (λ (ys : List (List Node)). slice_get ys 0) z;
          within = omega (arith, w, ap length q);
          is_node = sym ((S.left (suc s) w).0 ∙ ap (λ (xs : List Node). slice_get xs (suc s)) q);
          is_parent = sym ((S.left (suc s) w).1 ∙ ap (λ (xs : List Node). get_or (ups os xs) (suc s) None) q ∙ below-one os x s u.0);
        })

    at : Side (length (first-of n given keys)) t → ((later : Opens) (u : ℕ) → u < length (rest-of n ns given keys) → Meets ns (drop (hole n.label) given) u ⊎ IsBelowRoot (drop (hole n.label) given) (slice_get (rest-of n ns given keys) u) (get_or (ups later (rest-of n ns given keys)) u None)) → IsTold (n ∷ ns) given keys os t
    at (first w) ih = in-piece t w (kind-of n ns given h)
    at (second u z) ih = up (ih (open_behind os (first-of n given keys)) u (omega (arith, z, l, ap length (copied-first n ns given keys), length-append (first-of n given keys) (rest-of n ns given keys))))
      where
        up : Meets ns (drop (hole n.label) given) u ⊎ IsBelowRoot (drop (hole n.label) given) (slice_get (rest-of n ns given keys) u) (get_or (ups (open_behind os (first-of n given keys)) (rest-of n ns given keys)) u None) → IsTold (n ∷ ns) given keys os t
        up (inl m) = inl (inr (u, (omega (arith, z, piece-width n.label n (get_or keys 0 n.key) given), m)))
        up (inr B) =
            inr (deeper (hole n.label) given (slice_get (copied (n ∷ ns) given keys) t) (get_or (ups os (copied (n ∷ ns) given keys)) t None)
            (record { i = B.i; g = B.g; s = B.s; there = B.there; within = B.within; is_node = B.is_node ∙ sym (S.right t u z).0; is_parent = B.is_parent ∙ sym (S.right t u z).1 }))

-- where a node from below an argument's root stands
pub record IsPlaced (ns : List Node) (given : List (List Node)) (keys : List Key) (os : Opens) (node : Option Node) (parent : Option (Key × ℕ)) : Type 0 where
  pub at : ℕ
  pub within : at < length (copied ns given keys)
  pub is_node : slice_get (copied ns given keys) at ≡ node
  pub is_parent : get_or (ups os (copied ns given keys)) at None ≡ parent
  pub unmet : Meets ns given at → ⊥

-- each node below an argument's root stands in a copy, and is not met
pub placed : (ns : List Node) (given : List (List Node)) (keys : List Key) (os : Opens) (item : Option Node) (parent : Option (Key × ℕ)) → AreEachTerms given → length given ≡ holes_in ns → IsBelowRoot given item parent
    → IsPlaced ns given keys os item parent
placed [] [] keys os item parent g h B = absurd (let z : None ≡ Some B.g = B.there in cc)
placed [] (x ∷ given) keys os item parent g h B = absurd (omega (arith, h))
placed (n ∷ ns) given keys os item parent g h B =
    at (kind-of n ns given h) (λ later C. placed ns (drop (hole n.label) given) (drop 1 keys) later item parent (each-drop (hole n.label) given g) (length-drop-holes n ns given h) C)
  where
    S : AreSplit os (copied (n ∷ ns) given keys) (first-of n given keys) (rest-of n ns given keys)
    S = split-first n ns given keys os

    wide : length (first-of n given keys) ≡ width n.label given
    wide = piece-width n.label n (get_or keys 0 n.key) given

    whole : length (copied (n ∷ ns) given keys) ≡ length (first-of n given keys) + length (rest-of n ns given keys)
    whole = ap length (copied-first n ns given keys) ∙ length-append (first-of n given keys) (rest-of n ns given keys)

    -- it stands behind what comes for the first node
    behind : IsPlaced ns (drop (hole n.label) given) (drop 1 keys) (open_behind os (first-of n given keys)) item parent → IsPlaced (n ∷ ns) given keys os item parent
    behind P =
        let t : ℕ = length (first-of n given keys) + P.at in
        record {
          at = t;
          within = let w = P.within in omega (arith, w, whole);
          is_node = (S.right t P.at refl).0 ∙ P.is_node;
          is_parent = (S.right t P.at refl).1 ∙ P.is_parent;
          unmet = no;
        }
      where
        no : Meets (n ∷ ns) given (length (first-of n given keys) + P.at) → ⊥
        no (inl z) = omega (arith, z, wide, some-wide n ns given h g)
        no (inr (u, (z, m))) = let e : u ≡ P.at = omega (arith, z, wide) in P.unmet (subst (Meets ns (drop (hole n.label) given)) e m)

    at : Kind n given → ((later : Opens) → IsBelowRoot (drop (hole n.label) given) item parent → IsPlaced ns (drop (hole n.label) given) (drop 1 keys) later item parent) → IsPlaced (n ∷ ns) given keys os item parent
    at (as_copy a b c d) ih =
        behind (ih (open_behind os (first-of n given keys)) (subst (λ (k : ℕ). IsBelowRoot (drop k given) item parent) (sym a) B))
    at (as_argument x more e a z) ih = by B.i refl
      where
        q : first-of n given keys ≡ x
        q = piece-argument n (get_or keys 0 n.key) given x more e z

        by : (i : ℕ) → B.i ≡ i → IsPlaced (n ∷ ns) given keys os item parent
        by zero w =
            let f : Some x ≡ Some B.g = ap (λ (ys : List (List Node)). slice_get ys 0) (sym z) ∙ ap (λ (j : ℕ). slice_get given j) (sym w) ∙ B.there in
            let y : x ≡ B.g = cc in
            let l : suc B.s < length (first-of n given keys) = let b = B.within in omega (arith, b, ap length q, ap length y) in
            let u = subst AreEachTerms z g in
            record {
              at = suc B.s;
              within = omega (arith, l, whole);
              is_node = (S.left (suc B.s) l).0 ∙ ap (λ (xs : List Node). slice_get xs (suc B.s)) (q ∙ y) ∙ B.is_node;
              is_parent = (S.left (suc B.s) l).1 ∙ ap (λ (xs : List Node). get_or (ups os xs) (suc B.s) None) q ∙ below-one os x B.s u.0 ∙ ap (λ (xs : List Node). get_or (ups (None ∷ []) xs) (suc B.s) None) y ∙ B.is_parent;
              unmet = no l;
            }
          where
            no : suc B.s < length (first-of n given keys) → Meets (n ∷ ns) given (suc B.s) → ⊥
            no l (inl v) = omega (arith, v)
            no l (inr (u, (v, m))) = omega (arith, v, l, wide)
        by (suc j) w =
            behind (ih (open_behind os (first-of n given keys)) (subst (λ (ys : List (List Node)). IsBelowRoot ys item parent) (sym (ap (λ (k : ℕ). drop k given) a ∙ ap (λ (ys : List (List Node)). drop 1 ys) z)) (record {
              i = j;
              g = B.g;
              s = B.s;
              there = ap (λ (ys : List (List Node)). slice_get ys (suc j)) (sym z) ∙ ap (λ (k : ℕ). slice_get given k) (sym w) ∙ B.there;
              within = B.within;
              is_node = B.is_node;
              is_parent = B.is_parent;
            })))

-- parameters, one for each argument
abbrev pub leaves : Node → List (List Node) → List Node
leaves n [] = []
leaves n (g ∷ given) = record n { label = Param; kids = 0 } ∷ leaves n given

pub copied-leaves : (n : Node) (given : List (List Node)) (keys : List Key) → copied (leaves n given) given keys ≡ flat given
copied-leaves n [] keys = refl
copied-leaves n (g ∷ given) keys = ap (λ (xs : List Node). g ++ xs) (copied-leaves n given (drop 1 keys))

pub holes-leaves : (n : Node) (given : List (List Node)) → length given ≡ holes_in (leaves n given)
holes-leaves n [] = refl
holes-leaves n (g ∷ given) = omega (arith, holes-leaves n given)

-- an argument's root is what is met of arguments
pub met-root : (n : Node) (ks : List Key) (given : List (List Node)) (t : ℕ) → AreArgs ks given → Meets (leaves n given) given t → (i : ℕ) × ((k : Key) × ((slice_get ks i ≡ Some k) × (key_in (flat given) t ≡ Some k)))
met-root n [] [] t A m = absurd m
met-root n [] (g ∷ given) t A m = absurd A
met-root n (k ∷ ks) [] t A m = absurd A
met-root n (k ∷ ks) (g ∷ given) t A (inl z) = (0, (k, (refl, ap (λ (j : ℕ). key_in (g ++ flat given) j) z ∙ first-key g A.1)))
  where
    first-key : (g : List Node) → key_in g 0 ≡ Some k → key_in (g ++ flat given) 0 ≡ Some k
    first-key [] e = absurd (let z : None ≡ Some k = e in cc)
    first-key (x ∷ g) e = e
met-root n (k ∷ ks) (g ∷ given) t A (inr (u, (z, m))) =
    let h = met-root n ks given u A.2 m in
    (suc h.0, (h.1.0, (h.1.1.0, ap (λ (j : ℕ). key_in (g ++ flat given) j) z ∙ key-behind g (flat given) u ∙ h.1.1.1)))
  where
    key-behind : (xs ys : List Node) (p : ℕ) → key_in (xs ++ ys) (length xs + p) ≡ key_in ys p
    key-behind [] ys p = let z : 0 + p ≡ p = omega arith in ap (λ (k : ℕ). key_in ys k) z
    key-behind (x ∷ xs) ys p = let z : suc (length xs) + p ≡ suc (length xs + p) = omega arith in ap (λ (k : ℕ). key_in (x ∷ (xs ++ ys)) k) z ∙ key-behind xs ys p

pub root-met : (n : Node) (ks : List Key) (given : List (List Node)) (i : ℕ) (k : Key) → AreArgs ks given → slice_get ks i ≡ Some k → (t : ℕ) × (Meets (leaves n given) given t × (key_in (flat given) t ≡ Some k))
root-met n [] given i k A e = absurd (let z : None ≡ Some k = e in cc)
root-met n (x ∷ ks) [] i k A e = absurd A
root-met n (x ∷ ks) (g ∷ given) zero k A e = (0, (inl refl, first-key g A.1 ∙ e))
  where
    first-key : (g : List Node) → key_in g 0 ≡ Some x → key_in (g ++ flat given) 0 ≡ Some x
    first-key [] e = absurd (let z : None ≡ Some x = e in cc)
    first-key (y ∷ g) e = e
root-met n (x ∷ ks) (g ∷ given) (suc i) k A e =
    let h = root-met n ks given i k A.2 e in
    (length g + h.0, (inr (h.0, (refl, h.1.0)), key-behind g (flat given) h.0 ∙ h.1.1))
  where
    key-behind : (xs ys : List Node) (p : ℕ) → key_in (xs ++ ys) (length xs + p) ≡ key_in ys p
    key-behind [] ys p = let z : 0 + p ≡ p = omega arith in ap (λ (k : ℕ). key_in ys k) z
    key-behind (x ∷ xs) ys p = let z : suc (length xs) + p ≡ suc (length xs + p) = omega arith in ap (λ (k : ℕ). key_in (x ∷ (xs ++ ys)) k) z ∙ key-behind xs ys p
