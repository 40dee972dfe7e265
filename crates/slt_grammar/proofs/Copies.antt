-- Terms that are built over roots from their end: one more node, or one more argument.
use Rattle.std.proofs.Common.{◌≡◌, ◌⊎◌, inl, inr, ℕ, zero, suc, ◌+◌, ◌-◌, ◌<◌, ◌≤◌, List, [], ◌∷◌, ◌++◌, length, get_or, take, drop, set, Option, Some, None, IsSome, slice_get, refl, sym, ap, ◌∙◌, subst, arith, append_assoc, length-append, length-drop}
use Rattle.std.proofs.lemmas.List.{take-append-drop, drop-drop, append-nil}
use Rattle.std.proofs.lemmas.Option.{slice_get_within}
use Rattle.rule_arena.specs.Preorder.{AreTerms}
use Rattle.rule_arena.specs.Terms.{Node, Terms, At, Apart, AreDistinctKeys, IsSound, term_at, key_in, or_nothing, kids_of, joined}
use Rattle.rule_arena.specs.declared.key.Key.{Key}
use Rattle.rule_arena.specs.declared.label.Label.{Label}
use Rattle.rule_arena.specs.declared.label.Label.TheVariants.{Bottom, Symbol, Call, Param}
use Rattle.rule_arena.proofs.PathLemmas.{key_in-append, key_in-left, key_in-right}
use Rattle.rule_arena.proofs.PreorderLemmas.{slice_get-left, slice_get-right, AreTerms-one, AreTerms-rest}
use Rattle.slt_grammar.proofs.Growing.{IsAdded, some_none}
use Rattle.slt_grammar.specs.Copying.{Built, hole, holes_in, copied, copied_node, StandsOnce}
use Rattle.slt_grammar.specs.Holding.{terms_of, IsIn}
use Rattle.slt_grammar.specs.Growing.{IsGrown}

pub joined-append : (a : Terms) (xs ys : List Key) → joined a (xs ++ ys) ≡ joined a xs ++ joined a ys
joined-append a [] ys = refl
joined-append a (x ∷ xs) ys = rw (joined-append a xs ys) (sym (append_assoc (or_nothing (term_at a x.number)) (joined a xs) (joined a ys)))

pub joined-same : (a b : Terms) (ks : List Key) → ((i : ℕ) (k : Key) → slice_get ks i ≡ Some k → term_at b k.number ≡ term_at a k.number) → joined b ks ≡ joined a ks
joined-same a b [] same = refl
joined-same a b (k ∷ ks) same = rw (same 0 k refl, joined-same a b ks (λ i m e. same (suc i) m e)) refl

-- where a key stands in the terms of roots, it stands in the arena
pub at-joined : (a : Terms) (ks : List Key) → ((i : ℕ) (k : Key) → slice_get ks i ≡ Some k → IsSome (term_at a k.number)) → (p : ℕ) (x : Key) → key_in (joined a ks) p ≡ Some x → At a x
at-joined a [] stand p x e = absurd (let y : key_in [] p ≡ Some x = e in cc)
at-joined a (k ∷ ks) stand p x e =
    elim (key_in-append (or_nothing (term_at a k.number)) (joined a ks) p x e) [
      | inl h ↦ here (term_at a k.number) refl h
      | inr h ↦ at-joined a ks (λ i m s. stand (suc i) m s) (p - length (or_nothing (term_at a k.number))) x h.1
    ]
  where
    here : (o : Option (List Node)) → term_at a k.number ≡ o → key_in (or_nothing (term_at a k.number)) p ≡ Some x → At a x
    here None t h = absurd (let y : key_in (or_nothing None) p ≡ Some x = subst (λ (o : Option (List Node)). key_in (or_nothing o) p ≡ Some x) t h in let z : key_in [] p ≡ Some x = y in cc)
    here (Some ns) t h = record { root = k.number; nodes = ns; place = p; stands = t; there = subst (λ (o : Option (List Node)). key_in (or_nothing o) p ≡ Some x) t h }

-- a node that is no parameter is copied under its new key
pub copied-real : (n : Node) (ns : List Node) (given : List (List Node)) (k : Key) (keys : List Key) → hole n.label ≡ 0
    → copied (n ∷ ns) given (k ∷ keys) ≡ record { key = k; label = n.label; kids = n.kids } ∷ copied ns given keys
copied-real n ns given k keys h = at n.label refl
  where
    at : (l : Label) → n.label ≡ l → copied_node n.label n k given (copied ns (drop (hole n.label) given) keys) ≡ record { key = k; label = n.label; kids = n.kids } ∷ copied ns given keys
    at Bottom e = rw e refl
    at (Symbol f) e = rw e refl
    at (Call q) e = rw e refl
    at Param e = absurd (omega (arith, h, ap hole e))

pub copied-hole : (n : Node) (ns : List Node) (given : List (List Node)) (k : Key) (keys : List Key) → hole n.label ≡ 1
    → copied (n ∷ ns) given (k ∷ keys) ≡ get_or given 0 [] ++ copied ns (drop 1 given) keys
copied-hole n ns given k keys h = at n.label refl
  where
    at : (l : Label) → n.label ≡ l → copied_node n.label n k given (copied ns (drop (hole n.label) given) keys) ≡ get_or given 0 [] ++ copied ns (drop 1 given) keys
    at Bottom e = absurd (omega (arith, h, ap hole e))
    at (Symbol f) e = absurd (omega (arith, h, ap hole e))
    at (Call q) e = absurd (omega (arith, h, ap hole e))
    at Param e = rw e refl

module _ (o a b : Terms) (n : Node) (ns : List Node) (args : List Key) (left : ℕ) (kids rest keys : List Key) (key : Key)
    (G : IsGrown o a ns args left (kids ++ rest) keys) (count : n.kids ≡ length kids) (real : hole n.label ≡ 0) (added : IsAdded a b n.label kids key) (fresh : At a key → ⊥) where
  -- the other roots stand as before
  rest-same : (i : ℕ) (k : Key) → slice_get rest i ≡ Some k → term_at b k.number ≡ term_at a k.number
  rest-same i k e =
      let there : slice_get (kids ++ rest) (length kids + i) ≡ Some k = slice_get-right kids rest i ∙ e in
      added.others k.number
      (λ h. some_none (term_at a k.number) (G.stand (length kids + i) k there) (ap (λ (m : ℕ). term_at a m) h ∙ added.vacant))
      (λ j m f h.
      let w = slice_get_within kids j m f in
      let d = G.distinct j (length kids + i) m k (slice_get-left kids rest j w ∙ f) there h in
      absurd (omega arith))

  apart : (i : ℕ) (k : Key) → slice_get rest i ≡ Some k → key.number ≡ k.number → ⊥
  apart i k e h =
      some_none (term_at a k.number) (G.stand (length kids + i) k (slice_get-right kids rest i ∙ e)) (ap (λ (m : ℕ). term_at a m) (sym h) ∙ added.vacant)

  nodes-are : joined b (key ∷ rest) ≡ record { key = key; label = n.label; kids = length kids } ∷ joined a (kids ++ rest)
  nodes-are =
      let node : Node = record { key = key; label = n.label; kids = length kids } in
      ap (λ (t : Option (List Node)). or_nothing t ++ joined b rest) added.term
      ∙ ap (λ (ms : List Node). node ∷ (joined a kids ++ ms)) (joined-same a b rest rest-same)
      ∙ ap (λ (ms : List Node). node ∷ ms) (sym (joined-append a kids rest))

  -- a root of before is no new key
  not-key : (k : Key) → IsIn (drop left args) k → key.number ≡ k.number → ⊥
  not-key k m h =
      let w = G.inside k m in
      let e : k ≡ key = ap (λ (x : ℕ). let z : Key = record { number = x } in z) (sym h) in
      fresh (at-joined a (kids ++ rest) G.stand w.0 key (w.1 ∙ ap (λ (x : Key). Some x) e))

  old-none : term_at o key.number ≡ None
  old-none = at (term_at o key.number) refl
    where
      at : (t : Option (List Node)) → term_at o key.number ≡ t → term_at o key.number ≡ None
      at None e = e
      at (Some ms) e =
          let s : IsSome (term_at o key.number) = subst (λ (t : Option (List Node)). IsSome t) (sym e) refl in
          let same = G.others key.number s (λ i k f h. not-key k (i, f) (sym h)) in
          sym same ∙ added.vacant

  others : (r : ℕ) → IsSome (term_at o r) → Apart (drop left args) r → term_at b r ≡ term_at o r
  others r s d =
      let same : term_at a r ≡ term_at o r = G.others r s d in
      added.others r
      (λ h. some_none (term_at o r) s (sym same ∙ ap (λ (m : ℕ). term_at a m) h ∙ added.vacant))
      (λ i k f h.
      let w = slice_get_within kids i k f in
      elim (G.origin i k (slice_get-left kids rest i w ∙ f)) [
        | inl z ↦ some_none (term_at o r) s (ap (λ (m : ℕ). term_at o m) (sym h) ∙ z)
        | inr z ↦ d z.0 k z.1 h
      ])
      ∙ same

  pub grown-node : IsGrown o b (n ∷ ns) args left (key ∷ rest) (key ∷ keys)
  grown-node = record {
    given = G.given;
    apart = G.apart;
    nodes = nodes-are ∙ ap (λ (m : ℕ). record { key = key; label = n.label; kids = m } ∷ joined a (kids ++ rest)) (sym count)
        ∙ ap (λ (ms : List Node). record { key = key; label = n.label; kids = n.kids } ∷ ms) G.nodes
        ∙ sym (copied-real n ns (terms_of o (drop left args)) key keys real);
    many = ap suc G.many;
    terms = let h : length (kids ++ rest) ≡ n.kids + length rest = omega (arith, length-append kids rest, count) in rw h at G.terms;
    used = omega (arith, G.used, real);
    stand = stand;
    distinct = distinct;
    origin = origin;
    inside = λ k m. let w = G.inside k m in (suc w.0, ap (λ (ms : List Node). key_in ms (suc w.0)) nodes-are ∙ w.1);
    others = others;
  }
    where
      stand : (i : ℕ) (k : Key) → slice_get (key ∷ rest) i ≡ Some k → IsSome (term_at b k.number)
      stand zero k e = let h : key ≡ k = cc in subst (λ (m : Key). IsSome (term_at b m.number)) h (subst (λ (t : Option (List Node)). IsSome t) (sym added.term) refl)
      stand (suc i) k e = subst (λ (t : Option (List Node)). IsSome t) (sym (rest-same i k e)) (G.stand (length kids + i) k (slice_get-right kids rest i ∙ e))

      distinct : (i j : ℕ) (k m : Key) → slice_get (key ∷ rest) i ≡ Some k → slice_get (key ∷ rest) j ≡ Some m → k.number ≡ m.number → i ≡ j
      distinct zero zero k m e f h = refl
      distinct zero (suc j) k m e f h = absurd (let q : key ≡ k = cc in apart j m f (ap (λ (x : Key). x.number) q ∙ h))
      distinct (suc i) zero k m e f h = absurd (let q : key ≡ m = cc in apart i k e (ap (λ (x : Key). x.number) q ∙ sym h))
      distinct (suc i) (suc j) k m e f h =
          let d = G.distinct (length kids + i) (length kids + j) k m (slice_get-right kids rest i ∙ e) (slice_get-right kids rest j ∙ f) h in
          omega arith

      origin : (i : ℕ) (k : Key) → slice_get (key ∷ rest) i ≡ Some k → (term_at o k.number ≡ None) ⊎ IsIn (drop left args) k
      origin zero k e = inl (let h : key ≡ k = cc in subst (λ (m : Key). term_at o m.number ≡ None) h old-none)
      origin (suc i) k e = G.origin (length kids + i) k (slice_get-right kids rest i ∙ e)

drop-there : {X : Type 0} (xs : List X) (i : ℕ) (x : X) → slice_get xs i ≡ Some x → drop i xs ≡ x ∷ drop (suc i) xs
drop-there [] i x e = absurd (cc)
drop-there (y ∷ xs) zero x e = let q : y ≡ x = cc in ap (λ z. z ∷ xs) q
drop-there (y ∷ xs) (suc i) x e = drop-there xs i x e

slice_get-drop : {X : Type 0} (n : ℕ) (xs : List X) (i : ℕ) → slice_get (drop n xs) i ≡ slice_get xs (n + i)
slice_get-drop zero xs i = let e : i ≡ 0 + i = omega arith in ap (λ (j : ℕ). slice_get xs j) e
slice_get-drop (suc n) [] i = refl
slice_get-drop (suc n) (x ∷ xs) i = let e : suc (n + i) ≡ suc n + i = omega arith in slice_get-drop n xs i ∙ ap (λ (j : ℕ). slice_get (x ∷ xs) j) e

module _ (o a : Terms) (n : Node) (ns : List Node) (args : List Key) (left : ℕ) (roots keys : List Key) (key : Key)
    (sound : IsSound a) (G : IsGrown o a ns args (suc left) roots keys) (leaf : n.kids ≡ 0) (param : hole n.label ≡ 1) (there : slice_get args left ≡ Some key) where
  behind : drop left args ≡ key ∷ drop (suc left) args
  behind = drop-there args left key there

  key-apart : Apart (drop (suc left) args) key.number
  key-apart i k e h =
      let d = G.apart (suc left + i) left k key (sym (slice_get-drop (suc left) args i) ∙ e) there h in
      omega arith

  key-same : term_at a key.number ≡ term_at o key.number
  key-same = G.others key.number (G.given left key there) key-apart

  arg-nodes : joined a (key ∷ roots) ≡ copied (n ∷ ns) (terms_of o (drop left args)) (key ∷ keys)
  arg-nodes =
      ap (λ (t : Option (List Node)). or_nothing t ++ joined a roots) key-same
      ∙ ap (λ (ms : List Node). or_nothing (term_at o key.number) ++ ms) G.nodes
      ∙ sym (copied-hole n ns (terms_of o (key ∷ drop (suc left) args)) key keys param)
      ∙ ap (λ (ks : List Key). copied (n ∷ ns) (terms_of o ks) (key ∷ keys)) (sym behind)

  -- the first node of a root is the root
  first : (p : ℕ) × (key_in (or_nothing (term_at a key.number)) p ≡ Some key)
  first = at (term_at a key.number) refl
    where
      at : (t : Option (List Node)) → term_at a key.number ≡ t → (p : ℕ) × (key_in (or_nothing (term_at a key.number)) p ≡ Some key)
      at None e = absurd (some_none (term_at o key.number) (G.given left key there) (sym key-same ∙ e))
      at (Some ms) e = (0, ap (λ (t : Option (List Node)). key_in (or_nothing t) 0) e ∙ sound.first key.number ms e)

  pub grown-arg : IsGrown o a (n ∷ ns) args left (key ∷ roots) (key ∷ keys)
  grown-arg = record {
    given = G.given;
    apart = G.apart;
    nodes = arg-nodes;
    many = ap suc G.many;
    terms = let h : length roots ≡ n.kids + length roots = omega (arith, leaf) in rw h at G.terms;
    used = omega (arith, G.used, param);
    stand = stand;
    distinct = distinct;
    origin = origin;
    inside = λ k m. inside k (subst (λ (ks : List Key). IsIn ks k) behind m);
    others = λ r s d. G.others r s (λ i k e. d (suc i) k (ap (λ (ks : List Key). slice_get ks (suc i)) behind ∙ e));
  }
    where
      stand : (i : ℕ) (k : Key) → slice_get (key ∷ roots) i ≡ Some k → IsSome (term_at a k.number)
      stand zero k e = let h : key ≡ k = cc in subst (λ (m : Key). IsSome (term_at a m.number)) h (subst (λ (t : Option (List Node)). IsSome t) (sym key-same) (G.given left key there))
      stand (suc i) k e = G.stand i k e

      clash : (i : ℕ) (k : Key) → slice_get roots i ≡ Some k → key.number ≡ k.number → ⊥
      clash i k e h = elim (G.origin i k e) [
        | inl z ↦ some_none (term_at o key.number) (G.given left key there) (ap (λ (m : ℕ). term_at o m) h ∙ z)
        | inr z ↦ key-apart z.0 k z.1 (sym h)
      ]

      distinct : (i j : ℕ) (k m : Key) → slice_get (key ∷ roots) i ≡ Some k → slice_get (key ∷ roots) j ≡ Some m → k.number ≡ m.number → i ≡ j
      distinct zero zero k m e f h = refl
      distinct zero (suc j) k m e f h = absurd (let q : key ≡ k = cc in clash j m f (ap (λ (x : Key). x.number) q ∙ h))
      distinct (suc i) zero k m e f h = absurd (let q : key ≡ m = cc in clash i k e (ap (λ (x : Key). x.number) q ∙ sym h))
      distinct (suc i) (suc j) k m e f h = ap suc (G.distinct i j k m e f h)

      more : (k : Key) → IsIn (drop (suc left) args) k → IsIn (drop left args) k
      more k m = (suc m.0, ap (λ (ks : List Key). slice_get ks (suc m.0)) behind ∙ m.1)

      origin : (i : ℕ) (k : Key) → slice_get (key ∷ roots) i ≡ Some k → (term_at o k.number ≡ None) ⊎ IsIn (drop left args) k
      origin zero k e = inr (0, ap (λ (ks : List Key). slice_get ks 0) behind ∙ e)
      origin (suc i) k e = elim (G.origin i k e) [ inl z ↦ inl z | inr z ↦ inr (more k z) ]

      inside : (k : Key) → IsIn (key ∷ drop (suc left) args) k → (p : ℕ) × (key_in (joined a (key ∷ roots)) p ≡ Some k)
      inside k m = by m.0 m.1
        where
          by : (j : ℕ) → slice_get (key ∷ drop (suc left) args) j ≡ Some k → (p : ℕ) × (key_in (joined a (key ∷ roots)) p ≡ Some k)
          by zero e = (first.0, key_in-left (or_nothing (term_at a key.number)) (joined a roots) first.0 k (first.1 ∙ e))
          by (suc j) e = let w = G.inside k (j, e) in (length (or_nothing (term_at a key.number)) + w.0, key_in-right (or_nothing (term_at a key.number)) (joined a roots) w.0 k w.1)

-- terms have a node each at least
pub few-terms : (n : ℕ) (ns : List Node) → AreTerms kids_of n ns → n ≤ length ns
few-terms zero ns t = omega arith
few-terms (suc n) [] t = absurd t
few-terms (suc n) (m ∷ ns) t = omega (arith, few-terms (m.kids + n) ns t)

-- before terms stands a node that takes some of them
pub taken : (ns : List Node) (n i : ℕ) (m : Node) → AreTerms kids_of 1 ns → slice_get ns i ≡ Some m → AreTerms kids_of n (drop (suc i) ns) → m.kids ≤ n
taken ns n i m t h u =
    let s = AreTerms-rest kids_of 1 (take i ns) (drop i ns) (subst (λ (ms : List Node). AreTerms kids_of 1 ms) (sym (take-append-drop i ns)) t) in
    at s.0 (subst (λ (ms : List Node). AreTerms kids_of s.0 ms) (drop-there ns i m h) s.1)
  where
    at : (k : ℕ) → AreTerms kids_of k (m ∷ drop (suc i) ns) → m.kids ≤ n
    at zero v = absurd v
    at (suc k) v = omega (arith, AreTerms-one kids_of (m.kids + k) n (drop (suc i) ns) v u)

split : (stack : List Key) (top c : ℕ) → take (top + c - top) (drop top stack) ++ drop (top + c) stack ≡ drop top stack
split stack top c =
    let e : top + c - top ≡ c = omega arith in
    ap (λ (m : ℕ). take m (drop top stack) ++ drop (top + c) stack) e
    ∙ ap (λ (m : ℕ). take c (drop top stack) ++ drop m stack) (let f : top + c ≡ top + c = refl in f)
    ∙ ap (λ (ks : List Key). take c (drop top stack) ++ ks) (sym (drop-drop c top stack))
    ∙ take-append-drop c (drop top stack)

-- a node over the first roots of a stack
pub step-node : (o a b : Terms) (n : Node) (l : Label) (ns : List Node) (args : List Key) (left : ℕ) (stack : List Key) (top c : ℕ) (keys : List Key) (key : Key)
    → IsGrown o a ns args left (drop top stack) keys → n.kids ≡ c → n.label ≡ l → top + c ≤ length stack → hole n.label ≡ 0
    → IsAdded a b l (take (top + c - top) (drop top stack)) key → (At a key → ⊥) → IsGrown o b (n ∷ ns) args left (key ∷ drop (top + c) stack) (key ∷ keys)
step-node o a b n l ns args left stack top c keys key G count lab room real added fresh =
    let s = split stack top c in
    let len : n.kids ≡ length (take (top + c - top) (drop top stack)) = omega (arith, count, ap length s, length-append (take (top + c - top) (drop top stack)) (drop (top + c) stack), length-drop top stack, length-drop (top + c) stack) in
    grown-node o a b n ns args left (take (top + c - top) (drop top stack)) (drop (top + c) stack) keys key
    (subst (λ (ks : List Key). IsGrown o a ns args left ks keys) (sym s) G) len real
    (subst (λ (m : Label). IsAdded a b m (take (top + c - top) (drop top stack)) key) (sym lab) added) fresh

-- nothing is built yet
pub grown-none : (a : Terms) (args : List Key) (left : ℕ) (ns : List Node) (stack : List Key) (i top : ℕ) → left ≡ length args → i ≡ length ns → top ≡ length stack
    → ((i : ℕ) (k : Key) → slice_get args i ≡ Some k → IsSome (term_at a k.number)) → AreDistinctKeys args → IsGrown a a (drop i ns) args left (drop top stack) []
grown-none a args left ns stack i top l n t given apart =
    let e : drop i ns ≡ [] = drop-end i ns n in
    let f : drop top stack ≡ [] = drop-end top stack t in
    let g : drop left args ≡ [] = drop-end left args l in
    subst (λ (ms : List Node). IsGrown a a ms args left (drop top stack) []) (sym e)
    (subst (λ (ks : List Key). IsGrown a a [] args left ks []) (sym f)
    (record {
      given = given;
      apart = apart;
      nodes = refl;
      many = refl;
      terms = tt;
      used = omega (arith, l);
      stand = λ i k h. absurd (cc);
      distinct = λ i j k m h. absurd (cc);
      origin = λ i k h. absurd (cc);
      inside = λ k m. absurd (let z : slice_get (drop left args) m.0 ≡ Some k = m.1 in none m.0 k (ap (λ (ks : List Key). slice_get ks m.0) (sym g) ∙ z));
      others = λ r s d. refl;
    }))
  where
    drop-end : {X : Type 0} (i : ℕ) (xs : List X) → i ≡ length xs → drop i xs ≡ []
    drop-end zero [] e = refl
    drop-end zero (x ∷ xs) e = absurd (omega arith)
    drop-end (suc i) [] e = absurd (omega arith)
    drop-end (suc i) (x ∷ xs) e = drop-end i xs (omega arith)

    none : (j : ℕ) (k : Key) → slice_get [] j ≡ Some k → ⊥
    none j k h = cc

pub drop-before : {X : Type 0} (xs : List X) (i : ℕ) (x : X) → 0 < i → slice_get xs (i - 1) ≡ Some x → drop (i - 1) xs ≡ x ∷ drop i xs
drop-before xs zero x h e = absurd (omega arith)
drop-before xs (suc i) x h e =
    let s : suc i - 1 ≡ i = omega arith in
    ap (λ (j : ℕ). drop j xs) s ∙ drop-there xs i x (ap (λ (j : ℕ). slice_get xs j) (sym s) ∙ e)

pub drop-put : {X : Type 0} (xs : List X) (t : ℕ) (x : X) → t < length xs → drop t (set xs t x) ≡ x ∷ drop (t + 1) xs
drop-put [] t x h = absurd (omega arith)
drop-put (y ∷ xs) zero x h = refl
drop-put (y ∷ xs) (suc t) x h = let e : suc t + 1 ≡ suc (t + 1) = omega arith in rw e (drop-put xs t x (omega arith))

holes-append : (xs ys : List Node) → holes_in (xs ++ ys) ≡ holes_in xs + holes_in ys
holes-append [] ys = omega arith
holes-append (x ∷ xs) ys = omega (arith, holes-append xs ys)

pub hole-le : (l : Label) → hole l ≤ 1
hole-le Bottom = omega arith
hole-le (Symbol f) = omega arith
hole-le (Call q) = omega arith
hole-le Param = omega arith

holes-le : (n : ℕ) (xs : List Node) → holes_in (take n xs) ≤ n
holes-le zero xs = omega arith
holes-le (suc n) [] = omega arith
holes-le (suc n) (x ∷ xs) = omega (arith, hole-le x.label, holes-le n xs)

-- the arguments that have no place yet are those of the parameters before
pub holes-left : (ns : List Node) (i left m : ℕ) (n : Node) → holes_in ns ≡ m → left + holes_in (drop i ns) ≡ m → 0 < i → slice_get ns (i - 1) ≡ Some n → (hole n.label ≤ left) × (left ≤ hole n.label + (i - 1))
holes-left ns i left m n e f h t =
    let d : holes_in (drop (i - 1) ns) ≡ hole n.label + holes_in (drop i ns) = ap holes_in (drop-before ns i n h t) in
    let s = holes-append (take (i - 1) ns) (drop (i - 1) ns) in
    let w = ap holes_in (take-append-drop (i - 1) ns) in
    (omega (arith, d, s, w), omega (arith, d, s, w, holes-le (i - 1) ns))

pub one-left : (xs : List Key) (t : ℕ) (x : Key) → length (drop t xs) ≡ 1 → slice_get xs t ≡ Some x → drop t xs ≡ x ∷ []
one-left xs t x n e =
    let d = drop-there xs t x e in
    let z : length (drop (suc t) xs) ≡ 0 = omega (arith, n, ap length d) in
    d ∙ ap (λ (ks : List Key). x ∷ ks) (empty (drop (suc t) xs) z)
  where
    empty : (ys : List Key) → length ys ≡ 0 → ys ≡ []
    empty [] e = refl
    empty (y ∷ ys) e = absurd (omega arith)

-- one root is left, over all arguments
pub all-built : (o b : Terms) (ns : List Node) (args : List Key) (left : ℕ) (stack : List Key) (top : ℕ) (keys : List Key) (root follow followed : Key)
    → IsGrown o b ns args left (drop top stack) keys → AreTerms kids_of 1 ns → holes_in ns ≡ length args → slice_get stack top ≡ Some root
    → (StandsOnce ns follow → (q : ℕ) → key_in ns q ≡ Some follow → slice_get keys q ≡ Some followed) → Built o b ns args root follow followed
all-built o b ns args left stack top keys root follow followed G t h e fs =
    let one : length (drop top stack) ≡ 1 = AreTerms-one kids_of (length (drop top stack)) 1 ns G.terms t in
    let d : drop top stack ≡ root ∷ [] = one-left stack top root one e in
    let z : left ≡ 0 = let u = G.used in omega arith in
    let all : drop left args ≡ args = ap (λ (m : ℕ). drop m args) z in
    record {
      keys = keys;
      many = G.many;
      term = is (term_at b root.number) refl (G.stand 0 root (ap (λ (ks : List Key). slice_get ks 0) d))
          (sym (append-nil (or_nothing (term_at b root.number))) ∙ ap (λ (ks : List Key). joined b ks) (sym d) ∙ G.nodes ∙ ap (λ (ks : List Key). copied ns (terms_of o ks) keys) all);
      follows = fs;
      origin = elim (G.origin 0 root (ap (λ (ks : List Key). slice_get ks 0) d)) [ inl n ↦ inl n | inr m ↦ inr (subst (λ (ks : List Key). IsIn ks root) all m) ];
      others = λ r s a. G.others r s (subst (λ (ks : List Key). Apart ks r) (sym all) a);
    }
  where
    is : (t : Option (List Node)) → term_at b root.number ≡ t → IsSome (term_at b root.number) → or_nothing (term_at b root.number) ≡ copied ns (terms_of o args) keys → term_at b root.number ≡ Some (copied ns (terms_of o args) keys)
    is None e s n = absurd (some_none (term_at b root.number) s e)
    is (Some ms) e s n = e ∙ ap (λ (ks : List Node). Some ks) (ap or_nothing (sym e) ∙ n)

-- no node, no key to follow
pub more-follows : (ns : List Node) (follow : Key) {followed : Key} (q : ℕ) → key_in (drop (length ns) ns) q ≡ Some follow → slice_get [] q ≡ Some followed
more-follows [] follow q e = absurd (let z : key_in [] q ≡ Some follow = e in cc)
more-follows (n ∷ ns) follow q e = more-follows ns follow q e

key_in-drop : (j : ℕ) (ns : List Node) (q : ℕ) → key_in (drop j ns) q ≡ key_in ns (j + q)
key_in-drop zero ns q = let e : q ≡ 0 + q = omega arith in ap (λ (m : ℕ). key_in ns m) e
key_in-drop (suc j) [] q = refl
key_in-drop (suc j) (n ∷ ns) q = let e : suc (j + q) ≡ suc j + q = omega arith in key_in-drop j ns q ∙ ap (λ (m : ℕ). key_in (n ∷ ns) m) e

-- the node to follow, or those behind it
pub new-follows : (S : List Node) (i : ℕ) (n : Node) (follow followed root : Key) (keys : List Key) → 0 < i → slice_get S (i - 1) ≡ Some n
    → ((p q : ℕ) → key_in S p ≡ Some follow → key_in S q ≡ Some follow → p ≡ q)
    → ((q : ℕ) → key_in (drop i S) q ≡ Some follow → slice_get keys q ≡ Some followed)
    → (now : Key) → (n.key ≡ follow → now ≡ root) → ((n.key ≡ follow → ⊥) → now ≡ followed)
    → (n.key ≡ follow) ⊎ (n.key ≡ follow → ⊥)
    → (q : ℕ) → key_in (drop (i - 1) S) q ≡ Some follow → slice_get (root ∷ keys) q ≡ Some now
new-follows S i n follow followed root keys z e once fs now same other side zero h =
    let d = drop-before S i n z e in
    let k : Some n.key ≡ Some follow = ap (λ (ms : List Node). key_in ms 0) (sym d) ∙ h in
    let m : n.key ≡ follow = cc in
    ap (λ (x : Key). Some x) (sym (same m))
new-follows S i n follow followed root keys z e once fs now same other side (suc q) h =
    let d = drop-before S i n z e in
    let k : key_in (drop i S) q ≡ Some follow = ap (λ (ms : List Node). key_in ms (suc q)) (sym d) ∙ h in
    elim side [
      | inl m ↦ absurd (
          let a : key_in S (i - 1 + 0) ≡ Some follow = sym (key_in-drop (i - 1) S 0) ∙ ap (λ (ms : List Node). key_in ms 0) d ∙ ap (λ (x : Key). Some x) m in
          let b : key_in S (i - 1 + suc q) ≡ Some follow = sym (key_in-drop (i - 1) S (suc q)) ∙ h in
          omega (arith, once (i - 1 + 0) (i - 1 + suc q) a b)
          )
      | inr m ↦ fs q k ∙ ap (λ (x : Key). Some x) (sym (other m))
    ]
