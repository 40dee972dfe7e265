-- A node and the terms of its children.
use Rattle.std.proofs.Common.{◌≡◌, ℕ, zero, suc, ◌+◌, ◌<◌, List, [], ◌∷◌, ◌++◌, length, take, drop, map, Some, refl, sym, ap, ◌∙◌, subst, arith, add-zero}
use Rattle.std.proofs.lemmas.List.{length-take-le, take-append-drop}
use Rattle.rule_arena.specs.Preorder.{AreTerms, span, terms, roots}
use Rattle.rule_arena.specs.Terms.{Node, key_in, key_of, kids_in, kids_of}
use Rattle.rule_arena.specs.declared.key.Key.{Key}
use Rattle.rule_arena.proofs.PreorderLemmas.{AreTerms-append, AreTerms-split, AreTerms-rest, joined-terms, length-terms}
use Rattle.slt_grammar.specs.Copying.{kids_at, args_at, back_at}
use Rattle.slt_grammar.specs.Detaching.{AreArgs, Laced, between}
use Rattle.slt_grammar.proofs.Detachings.{flat}

-- terms and their roots
pub are-args : (c m : ℕ) (xs : List Node) → AreTerms kids_of (c + m) xs → AreArgs (map key_of (roots kids_of c xs)) (terms kids_of c xs)
are-args zero m xs t = tt
are-args (suc c) m [] t = absurd (let e : suc c + m ≡ suc (c + m) = omega arith in subst (λ (n : ℕ). AreTerms kids_of n []) e t)
are-args (suc c) m (y ∷ ys) t =
    let e : suc c + m ≡ 1 + (c + m) = omega arith in
    let u : AreTerms kids_of (1 + (c + m)) (y ∷ ys) = subst (λ (n : ℕ). AreTerms kids_of n (y ∷ ys)) e t in
    let s = AreTerms-split kids_of 1 (c + m) (y ∷ ys) u in
    let z : y.kids + 0 ≡ y.kids = add-zero y.kids in
    let d : drop (span kids_of 1 (y ∷ ys)) (y ∷ ys) ≡ drop (span kids_of y.kids ys) ys = ap (λ (n : ℕ). drop (span kids_of n ys) ys) z in
    let ih = are-args c m (drop (span kids_of 1 (y ∷ ys)) (y ∷ ys)) s.1 in
    (s.0, refl, subst (λ (zs : List Node). AreArgs (map key_of (roots kids_of c zs)) (terms kids_of c (drop (span kids_of 1 (y ∷ ys)) (y ∷ ys)))) d ih)

pub length-args : (ks : List Key) (xs : List (List Node)) → AreArgs ks xs → length ks ≡ length xs
length-args [] [] A = refl
length-args [] (x ∷ xs) A = absurd A
length-args (k ∷ ks) [] A = absurd A
length-args (k ∷ ks) (x ∷ xs) A = ap suc (length-args ks xs A.2)

pub terms-flat : (ks : List Key) (xs : List (List Node)) → AreArgs ks xs → AreTerms kids_of (length ks) (flat xs)
terms-flat [] [] A = tt
terms-flat [] (x ∷ xs) A = absurd A
terms-flat (k ∷ ks) [] A = absurd A
terms-flat (k ∷ ks) (x ∷ xs) A =
    let e : 1 + length ks ≡ suc (length ks) = omega arith in
    subst (λ (n : ℕ). AreTerms kids_of n (x ++ flat xs)) e (AreTerms-append kids_of 1 (length ks) x (flat xs) A.0 (terms-flat ks xs A.2))

-- the node at a place
pub node-at : (ns : List Node) (p : ℕ) (key : Key) → key_in ns p ≡ Some key
    → (n : Node) × ((n.key ≡ key) × ((kids_at ns p ≡ n.kids) × ((kids_in ns p ≡ map key_of (roots kids_of n.kids (drop (p + 1) ns))) × (drop p ns ≡ n ∷ drop (p + 1) ns))))
node-at [] p key e = absurd (let z : key_in [] p ≡ Some key = e in cc)
node-at (n ∷ ns) zero key e = (n, (let z : Some n.key ≡ Some key = e in cc, (refl, (refl, refl))))
node-at (n ∷ ns) (suc p) key e =
    let h = node-at ns p key e in
    let z : suc p + 1 ≡ suc (p + 1) = omega arith in
    (h.0, (h.1.0, (h.1.1.0, (rw z h.1.1.1.0, rw z h.1.1.1.1))))

-- a list of nodes round the node at a place, with its children's terms
pub record Cut (ns : List Node) (p : ℕ) (key : Key) : Type 0 where
  pub node : Node
  pub is : node.key ≡ key
  pub kids : kids_at ns p ≡ node.kids
  pub args : AreArgs (kids_in ns p) (args_at ns p)
  pub whole : ns ≡ take p ns ++ (node ∷ (flat (args_at ns p) ++ back_at ns p))
  pub many : length (kids_in ns p) ≡ node.kids
  pub place : length (take p ns) ≡ p

pub inside : (ns : List Node) (p : ℕ) (key : Key) → key_in ns p ≡ Some key → p < length ns
inside [] p key e = absurd (let z : key_in [] p ≡ Some key = e in cc)
inside (n ∷ ns) zero key e = omega arith
inside (n ∷ ns) (suc p) key e = omega (arith, inside ns p key e)

pub cut-at : (ns : List Node) (p : ℕ) (key : Key) → AreTerms kids_of 1 ns → key_in ns p ≡ Some key → Cut ns p key
cut-at ns p key t e =
    let h = node-at ns p key e in
    let n = h.0 in
    let rest : List Node = drop (p + 1) ns in
    let k : kids_at ns p ≡ n.kids = h.1.1.0 in
    let s = AreTerms-rest kids_of 1 (take p ns) (drop p ns) (subst (λ (ms : List Node). AreTerms kids_of 1 ms) (sym (take-append-drop p ns)) t) in
    let b = below s.0 n rest (subst (λ (ms : List Node). AreTerms kids_of s.0 ms) h.1.1.1.1 s.1) in
    let A : AreArgs (map key_of (roots kids_of n.kids rest)) (terms kids_of n.kids rest) = are-args n.kids b.0 rest b.1 in
    let A' : AreArgs (kids_in ns p) (args_at ns p) =
    subst (λ (ks : List Key). AreArgs ks (args_at ns p)) (sym h.1.1.1.0) (subst (λ (c : ℕ). AreArgs (map key_of (roots kids_of n.kids rest)) (terms kids_of c rest)) (sym k) A) in
    record {
      node = n;
      is = h.1.0;
      kids = k;
      args = A';
      whole = sym (take-append-drop p ns) ∙ ap (λ (ms : List Node). take p ns ++ ms) (h.1.1.1.1 ∙ ap (λ (ms : List Node). n ∷ ms) (sym (joined-terms kids_of (kids_at ns p) rest)));
      many = length-args (kids_in ns p) (args_at ns p) A' ∙ length-terms kids_of (kids_at ns p) rest ∙ k;
      place = length-take-le p ns (let w = inside ns p key e in omega arith);
    }
  where
    below : (m : ℕ) (n : Node) (rest : List Node) → AreTerms kids_of m (n ∷ rest) → (m' : ℕ) × AreTerms kids_of (n.kids + m') rest
    below zero n rest t = absurd t
    below (suc m) n rest t = (m, t)

-- nothing between terms
abbrev pub blanks : ℕ → List (List Node)
blanks zero = []
blanks (suc m) = [] ∷ blanks m

length-blanks : (m : ℕ) → length (blanks m) ≡ m
length-blanks zero = refl
length-blanks (suc m) = ap suc (length-blanks m)

between-blanks : (w : List Node) (gs : List (List Node)) → between (w ∷ blanks (length gs)) gs ≡ w ++ flat gs
between-blanks w [] = refl
between-blanks w (g ∷ gs) = ap (λ (us : List Node). w ++ (g ++ us)) (between-blanks [] gs)

-- a node stands before its children's terms, one after another
pub laced-cut : (ns : List Node) (p : ℕ) (key : Key) → Cut ns p key → Laced ns p (args_at ns p)
laced-cut ns p key C =
    let args : List (List Node) = args_at ns p in
    let e : between ((C.node ∷ []) ∷ blanks (length args)) args ≡ C.node ∷ flat args = between-blanks (C.node ∷ []) args in
    let y : length (kids_in ns p) ≡ C.node.kids + 0 = omega (arith, C.many) in
    let t : AreTerms kids_of 1 (C.node ∷ flat args) = subst (λ (n : ℕ). AreTerms kids_of n (flat args)) y (terms-flat (kids_in ns p) args C.args) in
    record {
      front = take p ns;
      begin = C.node;
      first = [];
      more = blanks (length args);
      back = back_at ns p;
      whole = C.whole ∙ ap (λ (zs : List Node). take p ns ++ (zs ++ back_at ns p)) (sym e);
      place = C.place;
      one = subst (λ (zs : List Node). AreTerms kids_of 1 zs) (sym e) t;
      enough = omega (arith, length-blanks (length args));
    }

-- the children of a call as they were told
pub told-args : (ns : List Node) (p : ℕ) (key : Key) (ks kids : List Key) (C : Cut ns p key) → kids_in ns p ≡ ks → kids ≡ ks → AreArgs kids (args_at ns p) × (length kids ≡ C.node.kids)
told-args ns p key ks kids C e f =
    let z : kids_in ns p ≡ kids = e ∙ sym f in
    (subst (λ (xs : List Key). AreArgs xs (args_at ns p)) z C.args, sym (ap length z) ∙ C.many)
