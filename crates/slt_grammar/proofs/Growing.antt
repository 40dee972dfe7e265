-- A node that is put over the first of some roots.
use Rattle.std.proofs.Common.{◌≡◌, ◌≢◌, ℕ, zero, suc, ◌+◌, ◌-◌, ◌<◌, ◌≤◌, List, [], ◌∷◌, ◌++◌, length, get_or, take, drop, set, Option, Some, None, IsSome, slice_get, refl, sym, ap, ◌∙◌, subst, arith, append_assoc, length-append, length-drop}
use Rattle.std.proofs.lemmas.List.{drop_more, drop_all, take-append-drop, drop-drop, drop-set, length-take-le}
use Rattle.std.proofs.lemmas.List.Elements.{All-cons}
use Rattle.std.proofs.lemmas.Option.{slice_get_within}
use Rattle.rule_arena.specs.Preorder.{AreTerms}
use Rattle.rule_arena.specs.Terms.{Node, Terms, term_at, or_nothing, joined}
use Rattle.rule_arena.specs.declared.key.Key.{Key}
use Rattle.rule_arena.specs.declared.label.Label.{Label}
use Rattle.rule_arena.specs.declared.label.Label.TheVariants.{Bottom}
use Rattle.rule_arena.proofs.PreorderLemmas.{AreTerms-one, AreTerms-rest, slice_get-left, slice_get-right}
use Rattle.slt_grammar.specs.Bodies.{arity, IsTerm}
use Rattle.slt_grammar.specs.Keyed.{labels_of, HasArities}
use Rattle.slt_grammar.specs.Building.{AreBuilt, TermsStay}
use Rattle.slt_grammar.proofs.Scans.{terms-few}

-- these keys were no roots
abbrev pub WereNone : Terms → List Key → Type 0
WereNone a keys = (i : ℕ) (k : Key) → slice_get keys i ≡ Some k → term_at a k.number ≡ None

-- what an add says of the arena before and after it
pub record IsAdded (a b : Terms) (l : Label) (kids : List Key) (key : Key) : Type 0 where
  pub vacant : term_at a key.number ≡ None
  pub term : term_at b key.number ≡ Some (record { key = key; label = l; kids = length kids } ∷ joined a kids)
  pub others : (r : ℕ) → r ≢ key.number → ((i : ℕ) (k : Key) → slice_get kids i ≡ Some k → k.number ≢ r) → term_at b r ≡ term_at a r

-- a term cannot stand and not stand
pub some_none : (o : Option (List Node)) → IsSome o → o ≡ None → ⊥
some_none None s e = let n : Option (List Node) = None in let x : IsSome n = s in cc
some_none (Some ns) s e = cc

joined-append : (a : Terms) (xs ys : List Key) → joined a (xs ++ ys) ≡ joined a xs ++ joined a ys
joined-append a [] ys = refl
joined-append a (x ∷ xs) ys = rw (joined-append a xs ys) (sym (append_assoc (or_nothing (term_at a x.number)) (joined a xs) (joined a ys)))

joined-same : (a b : Terms) (ks : List Key) → ((i : ℕ) (k : Key) → slice_get ks i ≡ Some k → term_at b k.number ≡ term_at a k.number) → joined b ks ≡ joined a ks
joined-same a b [] same = refl
joined-same a b (k ∷ ks) same = rw (same 0 k refl, joined-same a b ks (λ i m e. same (suc i) m e)) refl

module _ (ranks : List ℕ) (a b : Terms) (l : Label) (kids rest : List Key) (labels : List Label) (key : Key)
    (built : AreBuilt ranks a (kids ++ rest) labels) (n : length kids ≡ arity ranks l) (added : IsAdded a b l kids key) where
  -- the other roots stand as before
  rest-same : (i : ℕ) (k : Key) → slice_get rest i ≡ Some k → term_at b k.number ≡ term_at a k.number
  rest-same i k e =
      let there : slice_get (kids ++ rest) (length kids + i) ≡ Some k = slice_get-right kids rest i ∙ e in
      added.others k.number
      (λ h. some_none (term_at a k.number) (built.stand (length kids + i) k there) (ap (λ (m : ℕ). term_at a m) h ∙ added.vacant))
      (λ j m f h.
      let w = slice_get_within kids j m f in
      let d = built.distinct j (length kids + i) m k (slice_get-left kids rest j w ∙ f) there h in
      absurd (omega arith))

  apart : (i : ℕ) (k : Key) → slice_get rest i ≡ Some k → key.number ≡ k.number → ⊥
  apart i k e h =
      some_none (term_at a k.number) (built.stand (length kids + i) k (slice_get-right kids rest i ∙ e)) (ap (λ (m : ℕ). term_at a m) (sym h) ∙ added.vacant)

  nodes-are : joined b (key ∷ rest) ≡ record { key = key; label = l; kids = length kids } ∷ joined a (kids ++ rest)
  nodes-are =
      let node : Node = record { key = key; label = l; kids = length kids } in
      ap (λ (o : Option (List Node)). or_nothing o ++ joined b rest) added.term
      ∙ ap (λ (ns : List Node). node ∷ (joined a kids ++ ns)) (joined-same a b rest rest-same)
      ∙ ap (λ (ns : List Node). node ∷ ns) (sym (joined-append a kids rest))

  pub grown : AreBuilt ranks b (key ∷ rest) (l ∷ labels)
  grown = record {
    stand = stand;
    distinct = distinct;
    labelled = ap labels_of nodes-are ∙ ap (λ (ls : List Label). l ∷ ls) built.labelled;
    arities = subst (λ (ns : List Node). HasArities ranks ns) (sym nodes-are)
        (All-cons (λ (m : Node). m.kids ≡ arity ranks m.label) (record { key = key; label = l; kids = length kids }) (joined a (kids ++ rest)) n built.arities);
    terms = let h : length (kids ++ rest) ≡ arity ranks l + length rest = omega (arith, length-append kids rest) in rw h at built.terms;
  }
    where
      stand : (i : ℕ) (k : Key) → slice_get (key ∷ rest) i ≡ Some k → IsSome (term_at b k.number)
      stand zero k e = let h : key ≡ k = cc in subst (λ (m : Key). IsSome (term_at b m.number)) h (subst (λ (o : Option (List Node)). IsSome o) (sym added.term) refl)
      stand (suc i) k e = subst (λ (o : Option (List Node)). IsSome o) (sym (rest-same i k e)) (built.stand (length kids + i) k (slice_get-right kids rest i ∙ e))

      distinct : (i j : ℕ) (k m : Key) → slice_get (key ∷ rest) i ≡ Some k → slice_get (key ∷ rest) j ≡ Some m → k.number ≡ m.number → i ≡ j
      distinct zero zero k m e f h = refl
      distinct zero (suc j) k m e f h = absurd (let q : key ≡ k = cc in apart j m f (ap (λ (x : Key). x.number) q ∙ h))
      distinct (suc i) zero k m e f h = absurd (let q : key ≡ m = cc in apart i k e (ap (λ (x : Key). x.number) q ∙ sym h))
      distinct (suc i) (suc j) k m e f h =
          let d = built.distinct (length kids + i) (length kids + j) k m (slice_get-right kids rest i ∙ e) (slice_get-right kids rest j ∙ f) h in
          omega arith

-- what stood before the body still stands
module _ (old a b : Terms) (l : Label) (kids rest : List Key) (key : Key) (keeps : TermsStay old a) (new : WereNone old (kids ++ rest)) (added : IsAdded a b l kids key) where
  pub kept-on : TermsStay old b
  kept-on r s =
      added.others r
      (λ h. some_none (term_at old r) s (sym (keeps r s) ∙ ap (λ (m : ℕ). term_at a m) h ∙ added.vacant))
      (λ j m f h.
      let w = slice_get_within kids j m f in
      some_none (term_at old r) s (ap (λ (x : ℕ). term_at old x) (sym h) ∙ new j m (slice_get-left kids rest j w ∙ f)))
      ∙ keeps r s

  pub none-on : WereNone old (key ∷ rest)
  none-on zero k e = let h : key ≡ k = cc in subst (λ (m : Key). term_at old m.number ≡ None) h (at (term_at old key.number) refl)
    where
      at : (o : Option (List Node)) → term_at old key.number ≡ o → term_at old key.number ≡ None
      at None t = t
      at (Some ns) t = sym (keeps key.number (subst (λ (o : Option (List Node)). IsSome o) (sym t) refl)) ∙ added.vacant
  none-on (suc i) k e = new (length kids + i) k (slice_get-right kids rest i ∙ e)

-- before terms stands a label that takes some of them
pub taken : (ranks : List ℕ) (body : List Label) (n j : ℕ) → j < length body → IsTerm ranks body → AreTerms (arity ranks) n (drop (j + 1) body) → arity ranks (get_or body j Bottom) ≤ n
taken ranks body n j h t u =
    let s = AreTerms-rest (arity ranks) 1 (take j body) (drop j body) (subst (λ (ls : List Label). IsTerm ranks ls) (sym (take-append-drop j body)) t) in
    at s.0 (subst (λ (ls : List Label). AreTerms (arity ranks) s.0 ls) (drop_more body j Bottom h) s.1)
  where
    at : (m : ℕ) → AreTerms (arity ranks) m (get_or body j Bottom ∷ drop (j + 1) body) → arity ranks (get_or body j Bottom) ≤ n
    at zero v = absurd v
    at (suc m) v = omega (arith, AreTerms-one (arity ranks) (arity ranks (get_or body j Bottom) + m) n (drop (j + 1) body) v u)

pub slice_get-take : {X : Type 0} (n : ℕ) (xs : List X) (i : ℕ) (x : X) → slice_get (take n xs) i ≡ Some x → slice_get xs i ≡ Some x
slice_get-take n xs i x e =
    let w = slice_get_within (take n xs) i x e in
    ap (λ zs. slice_get zs i) (sym (take-append-drop n xs)) ∙ slice_get-left (take n xs) (drop n xs) i w ∙ e

-- the stack before the label at i - 1, which takes n of the roots: those of the terms so far lie from the top on
pub record IsStack (ranks : List ℕ) (body : List Label) (a : Terms) (stack : List Key) (top i n : ℕ) : Type 0 where
  pub whole : IsTerm ranks body
  pub built : AreBuilt ranks a (drop top stack) (drop i body)
  pub room : top ≤ length stack
  pub fits : length body ≤ length stack
  pub more : 0 < i
  pub there : i ≤ length body
  pub takes : n ≡ arity ranks (get_or body (i - 1) Bottom)

module _ (ranks : List ℕ) (body : List Label) (a : Terms) (stack : List Key) (top i n : ℕ) (S : IsStack ranks body a stack top i n) where
  pub end-there : top + n ≤ length stack
  end-there =
      let h = S.more in
      let j : i ≡ i - 1 + 1 = omega arith in
      let u : AreTerms (arity ranks) (length (drop top stack)) (drop (i - 1 + 1) body) = subst (λ (m : ℕ). AreTerms (arity ranks) (length (drop top stack)) (drop m body)) j S.built.terms in
      omega (arith, S.room, S.takes, taken ranks body (length (drop top stack)) (i - 1) (omega (arith, S.there)) S.whole u, length-drop top stack)

  pub some-there : 1 ≤ top + n
  some-there = omega (arith, S.room, S.fits, S.more, S.there, terms-few ranks (length (drop top stack)) (drop i body) S.built.terms, length-drop top stack, length-drop i body)

  count : length (take (top + n - top) (drop top stack)) ≡ n
  count = omega (arith, length-take-le (top + n - top) (drop top stack) (omega (arith, end-there, length-drop top stack)))

  split : take (top + n - top) (drop top stack) ++ drop (top + n) stack ≡ drop top stack
  split =
      let m : top + (top + n - top) ≡ top + n = omega arith in
      ap (λ (r : ℕ). take (top + n - top) (drop top stack) ++ drop r stack) (sym m)
      ∙ ap (λ (ks : List Key). take (top + n - top) (drop top stack) ++ ks) (sym (drop-drop (top + n - top) top stack))
      ∙ take-append-drop (top + n - top) (drop top stack)

  pub stand-there : (j : ℕ) (x : Key) → slice_get (take (top + n - top) (drop top stack)) j ≡ Some x → IsSome (term_at a x.number)
  stand-there j x g = S.built.stand j x (slice_get-take (top + n - top) (drop top stack) j x g)

  pub differ-there : (j m : ℕ) (x y : Key) → slice_get (take (top + n - top) (drop top stack)) j ≡ Some x → slice_get (take (top + n - top) (drop top stack)) m ≡ Some y → x.number ≡ y.number → j ≡ m
  differ-there j m x y f g q = S.built.distinct j m x y (slice_get-take (top + n - top) (drop top stack) j x f) (slice_get-take (top + n - top) (drop top stack) m y g) q

  module _ (old b : Terms) (key : Key) (keeps : TermsStay old a) (new : WereNone old (drop top stack)) (added : IsAdded a b (get_or body (i - 1) Bottom) (take (top + n - top) (drop top stack)) key) where
    stack-is : key ∷ drop (top + n) stack ≡ drop (top + n - 1) (set stack (top + n - 1) key)
    stack-is =
        let m : top + n ≡ top + n - 1 + 1 = omega (arith, some-there) in
        ap (λ (r : ℕ). key ∷ drop r stack) m ∙ sym (drop-set stack (top + n - 1) key (omega (arith, end-there, some-there)))

    labels-are : get_or body (i - 1) Bottom ∷ drop i body ≡ drop (i - 1) body
    labels-are =
        let j : i ≡ i - 1 + 1 = omega (arith, S.more) in
        ap (λ (r : ℕ). get_or body (i - 1) Bottom ∷ drop r body) j ∙ sym (drop_more body (i - 1) Bottom (omega (arith, S.more, S.there)))

    pub built-on : AreBuilt ranks b (drop (top + n - 1) (set stack (top + n - 1) key)) (drop (i - 1) body)
    built-on =
        let u = subst (λ (ks : List Key). AreBuilt ranks a ks (drop i body)) (sym split) S.built in
        let g = grown ranks a b (get_or body (i - 1) Bottom) (take (top + n - top) (drop top stack)) (drop (top + n) stack) (drop i body) key u (count ∙ S.takes) added in
        subst (λ (ls : List Label). AreBuilt ranks b (drop (top + n - 1) (set stack (top + n - 1) key)) ls) labels-are
        (subst (λ (ks : List Key). AreBuilt ranks b ks (get_or body (i - 1) Bottom ∷ drop i body)) stack-is g)

    pub keeps-on : TermsStay old b
    keeps-on = kept-on old a b (get_or body (i - 1) Bottom) (take (top + n - top) (drop top stack)) (drop (top + n) stack) key keeps (subst (λ (ks : List Key). WereNone old ks) (sym split) new) added

    pub new-on : WereNone old (drop (top + n - 1) (set stack (top + n - 1) key))
    new-on =
        subst (λ (ks : List Key). WereNone old ks) stack-is
        (none-on old a b (get_or body (i - 1) Bottom) (take (top + n - top) (drop top stack)) (drop (top + n) stack) key keeps (subst (λ (ks : List Key). WereNone old ks) (sym split) new) added)

-- at the end one root is left
pub one-left : (ranks : List ℕ) (body : List Label) (a : Terms) (stack : List Key) (top i : ℕ) (key : Key) → IsTerm ranks body → AreBuilt ranks a (drop top stack) (drop i body) → i ≡ 0 → key ≡ get_or stack top key
    → (top < length stack) × (drop top stack ≡ key ∷ []) × AreBuilt ranks a (key ∷ []) body
one-left ranks body a stack top i key whole built z e =
    let b = subst (λ (m : ℕ). AreBuilt ranks a (drop top stack) (drop m body)) z built in
    let n : length (drop top stack) ≡ 1 = AreTerms-one (arity ranks) (length (drop top stack)) 1 body b.terms whole in
    let h : top < length stack = omega (arith, length-drop top stack) in
    let rest : drop (top + 1) stack ≡ [] = drop_all (top + 1) stack (omega (arith, length-drop top stack)) in
    let s : drop top stack ≡ key ∷ [] = drop_more stack top key h ∙ ap (λ (ks : List Key). get_or stack top key ∷ ks) rest ∙ ap (λ (x : Key). x ∷ []) (sym e) in
    (h, s, subst (λ (ks : List Key). AreBuilt ranks a ks body) s b)
