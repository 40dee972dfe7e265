-- The parents of nodes once a node was folded with one of its children.
use Rattle.std.proofs.Common.{◌≡◌, ◌⊎◌, inl, inr, ℕ, zero, suc, ◌+◌, ◌<◌, List, [], ◌∷◌, ◌++◌, length, get_or, drop, Option, Some, None, slice_get, refl, sym, ap, ◌∙◌, subst, arith, length-append, append_assoc}
use Rattle.rule_arena.specs.Preorder.{AreTerms, places}
use Rattle.rule_arena.specs.Terms.{Node, kids_of, key_in, parent_in}
use Rattle.rule_arena.specs.declared.key.Key.{Key}
use Rattle.rule_arena.proofs.NodeLemmas.{same_key}
use Rattle.rule_arena.proofs.PreorderLemmas.{slice_get-left, slice_get-right}
use Rattle.digram_index.proofs.Sides.{Side, first, second, side, get-left, get-right}
use Rattle.digram_index.proofs.OpenPlaces.{Opens, ups, AreOpen, get-places, length-ups, open_behind, ups-append, behind-terms, drop-places, places-append, below-roots}

-- a place below one of two nodes becomes one below the first of them
pub data IsBelow (u l : Key) (e f : Option (Key × ℕ)) : Type 0 where
  upper : (i j : ℕ) → e ≡ Some (u, i) → f ≡ Some (u, j) → IsBelow u l e f
  lower : (i j : ℕ) → e ≡ Some (l, i) → f ≡ Some (u, j) → IsBelow u l e f

-- parents that are the same but for some that were one of two nodes and are the first of them
pub record AreClose (u l : Key) (old new : Opens) : Type 0 where
  pub many : length old ≡ length new
  pub each : (p : ℕ) → (get_or old p None ≡ get_or new p None) ⊎ IsBelow u l (get_or old p None) (get_or new p None)

close-append : (u l : Key) (ws bs cs ds : Opens) → AreClose u l ws bs → AreClose u l cs ds → AreClose u l (ws ++ cs) (bs ++ ds)
close-append u l ws bs cs ds C D = record {
  many = let m = C.many in let n = D.many in omega (arith, length-append ws cs, length-append bs ds);
  each = λ p. at p (side (length ws) p);
}
  where
    at : (p : ℕ) → Side (length ws) p → (get_or (ws ++ cs) p None ≡ get_or (bs ++ ds) p None) ⊎ IsBelow u l (get_or (ws ++ cs) p None) (get_or (bs ++ ds) p None)
    at p (first h) =
        let e = get-left ws cs p h in
        let f = get-left bs ds p (let m = C.many in omega arith) in
        rw (e, f) (C.each p)
    at p (second q h) =
        let e = get-right ws cs p q h in
        let f = get-right bs ds p q (let m = C.many in omega arith) in
        rw (e, f) (D.each q)

close-same : (u l : Key) (os : Opens) → AreClose u l os os
close-same u l os = record { many = refl; each = λ p. inl refl }

-- terms below one of the two nodes, before and behind
close-terms : (u l : Key) (n : ℕ) (A B : Opens) (xs : List Node) → AreTerms kids_of n xs → ((at : ℕ) → at < n → IsBelow u l (get_or A at None) (get_or B at None)) → AreClose u l (ups A xs) (ups B xs)
close-terms u l n A B xs t from = record {
  many = length-ups A xs ∙ sym (length-ups B xs);
  each = λ p. up p (below-roots n n [] A B xs (omega arith) t p);
}
  where
    up : (p : ℕ) → (get_or (ups A xs) p None ≡ get_or (ups B xs) p None) ⊎ AreOpen A B n (get_or (ups A xs) p None) (get_or (ups B xs) p None)
        → (get_or (ups A xs) p None ≡ get_or (ups B xs) p None) ⊎ IsBelow u l (get_or (ups A xs) p None) (get_or (ups B xs) p None)
    up p (inl h) = inl h
    up p (inr o) =
        inr (subst (λ (e : Option (Key × ℕ)). IsBelow u l e (get_or (ups B xs) p None)) (sym o.first)
        (subst (λ (f : Option (Key × ℕ)). IsBelow u l (get_or A o.at None) f) (sym o.second) (from o.at o.few)))

module _ (front : List Node) (N : Node) (before : List Node) (L : Node) (below after back : List Node) (M : Node) (c more : ℕ) (named : M.key ≡ N.key) (kids : N.kids ≡ c + suc more) (kids' : M.kids ≡ c + (L.kids + more))
    (tb : AreTerms kids_of c before) (tl : AreTerms kids_of L.kids below) (ta : AreTerms kids_of more after) where
  abbrev os : Opens
  os = open_behind (None ∷ []) front

  abbrev rest : Opens
  rest = drop 1 os

  abbrev u : Key
  u = N.key

  abbrev l : Key
  l = L.key

  -- the places below the upper node that are open behind the children before the lower one
  after-before : (k m : ℕ) → k ≡ c + m → open_behind (places u 1 k ++ rest) before ≡ places u (1 + c) m ++ rest
  after-before k m e = ap (λ (j : ℕ). open_behind (places u 1 j ++ rest) before) e ∙ behind-terms c (places u 1 (c + m) ++ rest) before tb ∙ drop-places u 1 c m rest

  after-terms : (up : Key) (i n : ℕ) (xs : List Node) (qs : Opens) → AreTerms kids_of n xs → open_behind (places up i n ++ qs) xs ≡ qs
  after-terms up i n xs qs t =
      let z : n ≡ n + 0 = omega arith in
      ap (λ (j : ℕ). open_behind (places up i j ++ qs) xs) z ∙ behind-terms n (places up i (n + 0) ++ qs) xs t ∙ drop-places up i n 0 qs

  -- the parents of the nodes behind the lower one
  abbrev pub old_tail : Opens
  old_tail = ups (places l 1 L.kids ++ (places u (2 + c) more ++ rest)) below ++ (ups (places u (2 + c) more ++ rest) after ++ ups rest back)

  abbrev pub new_tail : Opens
  new_tail = ups (places u (1 + c) L.kids ++ (places u (1 + c + L.kids) more ++ rest)) below ++ (ups (places u (1 + c + L.kids) more ++ rest) after ++ ups rest back)

  tail : (A : Opens) (i : ℕ) → open_behind A below ≡ places u i more ++ rest → ups A (below ++ (after ++ back)) ≡ ups A below ++ (ups (places u i more ++ rest) after ++ ups rest back)
  tail A i e =
      let a : ups (open_behind A below) (after ++ back) ≡ ups (places u i more ++ rest) after ++ ups rest back =
      ap (λ (qs : Opens). ups qs (after ++ back)) e ∙ ups-append (places u i more ++ rest) after back ∙ ap (λ (qs : Opens). ups (places u i more ++ rest) after ++ ups qs back) (after-terms u i more after rest ta) in
      ups-append A below (after ++ back) ∙ ap (λ (qs : Opens). ups A below ++ qs) a

  abbrev pub old_head : Opens
  old_head = ups (None ∷ []) front ++ (get_or os 0 None ∷ ups (places u 1 N.kids ++ rest) before)

  abbrev pub new_head : Opens
  new_head = ups (None ∷ []) front ++ (get_or os 0 None ∷ ups (places u 1 M.kids ++ rest) before)

  pub old-parents : ups (None ∷ []) (front ++ (N ∷ (before ++ ((L ∷ below) ++ (after ++ back))))) ≡ old_head ++ (Some (u, 1 + c) ∷ old_tail)
  old-parents =
      let a : ups (places u 1 N.kids ++ rest) (before ++ (L ∷ (below ++ (after ++ back)))) ≡ ups (places u 1 N.kids ++ rest) before ++ (Some (u, 1 + c) ∷ old_tail) =
      ups-append (places u 1 N.kids ++ rest) before (L ∷ (below ++ (after ++ back)))
      ∙ ap (λ (qs : Opens). ups (places u 1 N.kids ++ rest) before ++ ups qs (L ∷ (below ++ (after ++ back)))) (after-before N.kids (suc more) kids)
      ∙ ap (λ (qs : Opens). ups (places u 1 N.kids ++ rest) before ++ (Some (u, 1 + c) ∷ qs)) (shape ∙ tail (places l 1 L.kids ++ (places u (2 + c) more ++ rest)) (2 + c) (after-terms l 1 L.kids below (places u (2 + c) more ++ rest) tl)) in
      ups-append (None ∷ []) front (N ∷ (before ++ (L ∷ (below ++ (after ++ back)))))
      ∙ ap (λ (qs : Opens). ups (None ∷ []) front ++ (get_or os 0 None ∷ qs)) a
      ∙ sym (append_assoc (ups (None ∷ []) front) (get_or os 0 None ∷ ups (places u 1 N.kids ++ rest) before) (Some (u, 1 + c) ∷ old_tail))
    where
      shape : ups (places l 1 L.kids ++ (places u (suc (1 + c)) more ++ rest)) (below ++ (after ++ back)) ≡ ups (places l 1 L.kids ++ (places u (2 + c) more ++ rest)) (below ++ (after ++ back))
      shape = let z : suc (1 + c) ≡ 2 + c = omega arith in ap (λ (j : ℕ). ups (places l 1 L.kids ++ (places u j more ++ rest)) (below ++ (after ++ back))) z

  pub new-parents : ups (None ∷ []) (front ++ (M ∷ (before ++ (below ++ (after ++ back))))) ≡ new_head ++ new_tail
  new-parents =
      let k : open_behind (places u 1 M.kids ++ rest) before ≡ places u (1 + c) L.kids ++ (places u (1 + c + L.kids) more ++ rest) =
      after-before M.kids (L.kids + more) kids' ∙ ap (λ (qs : Opens). qs ++ rest) (places-append u (1 + c) L.kids more) ∙ append_assoc (places u (1 + c) L.kids) (places u (1 + c + L.kids) more) rest in
      let a : ups (places u 1 M.kids ++ rest) (before ++ (below ++ (after ++ back))) ≡ ups (places u 1 M.kids ++ rest) before ++ new_tail =
      ups-append (places u 1 M.kids ++ rest) before (below ++ (after ++ back))
      ∙ ap (λ (qs : Opens). ups (places u 1 M.kids ++ rest) before ++ ups qs (below ++ (after ++ back))) k
      ∙ ap (λ (qs : Opens). ups (places u 1 M.kids ++ rest) before ++ qs) (tail (places u (1 + c) L.kids ++ (places u (1 + c + L.kids) more ++ rest)) (1 + c + L.kids) (after-terms u (1 + c) L.kids below (places u (1 + c + L.kids) more ++ rest) tl)) in
      ups-append (None ∷ []) front (M ∷ (before ++ (below ++ (after ++ back))))
      ∙ ap (λ (x : Key). ups (None ∷ []) front ++ (get_or os 0 None ∷ ups (places x 1 M.kids ++ rest) (before ++ (below ++ (after ++ back))))) named
      ∙ ap (λ (qs : Opens). ups (None ∷ []) front ++ (get_or os 0 None ∷ qs)) a
      ∙ sym (append_assoc (ups (None ∷ []) front) (get_or os 0 None ∷ ups (places u 1 M.kids ++ rest) before) new_tail)

  pub heads-close : AreClose u l old_head new_head
  heads-close =
      close-append u l (ups (None ∷ []) front) (ups (None ∷ []) front) (get_or os 0 None ∷ ups (places u 1 N.kids ++ rest) before) (get_or os 0 None ∷ ups (places u 1 M.kids ++ rest) before) (close-same u l (ups (None ∷ []) front))
      (close-append u l (get_or os 0 None ∷ []) (get_or os 0 None ∷ []) (ups (places u 1 N.kids ++ rest) before) (ups (places u 1 M.kids ++ rest) before) (close-same u l (get_or os 0 None ∷ []))
      (close-terms u l c (places u 1 N.kids ++ rest) (places u 1 M.kids ++ rest) before tb (λ i h. upper (1 + i) (1 + i) (get-places u 1 N.kids i rest (omega (arith, kids))) (get-places u 1 M.kids i rest (omega (arith, kids'))))))

  pub tails-close : AreClose u l old_tail new_tail
  tails-close =
      close-append u l (ups (places l 1 L.kids ++ (places u (2 + c) more ++ rest)) below) (ups (places u (1 + c) L.kids ++ (places u (1 + c + L.kids) more ++ rest)) below)
      (ups (places u (2 + c) more ++ rest) after ++ ups rest back) (ups (places u (1 + c + L.kids) more ++ rest) after ++ ups rest back)
      (close-terms u l L.kids (places l 1 L.kids ++ (places u (2 + c) more ++ rest)) (places u (1 + c) L.kids ++ (places u (1 + c + L.kids) more ++ rest)) below tl
      (λ i h. lower (1 + i) (1 + c + i) (get-places l 1 L.kids i (places u (2 + c) more ++ rest) h) (get-places u (1 + c) L.kids i (places u (1 + c + L.kids) more ++ rest) h)))
      (close-append u l (ups (places u (2 + c) more ++ rest) after) (ups (places u (1 + c + L.kids) more ++ rest) after) (ups rest back) (ups rest back)
      (close-terms u l more (places u (2 + c) more ++ rest) (places u (1 + c + L.kids) more ++ rest) after ta (λ i h. upper (2 + c + i) (1 + c + L.kids + i) (get-places u (2 + c) more i rest h) (get-places u (1 + c + L.kids) more i rest h))) (close-same u l (ups rest back)))

  abbrev pub behind : List Node
  behind = below ++ (after ++ back)

  abbrev pub old : List Node
  old = front ++ (N ∷ (before ++ (L ∷ behind)))

  abbrev pub new : List Node
  new = front ++ (M ∷ (before ++ behind))

  -- where a node of the new nodes was, and that its parent was one of the two and is the new one, or is the same
  pub record Came (j : ℕ) : Type 0 where
    pub place : ℕ
    pub node : (slice_get new j ≡ slice_get old place) ⊎ ((slice_get new j ≡ Some M) × (slice_get old place ≡ Some N))
    pub parent : (parent_in old place ≡ parent_in new j) ⊎ IsBelow u l (parent_in old place) (parent_in new j)
    pub gone : place ≡ length (front ++ (N ∷ before)) → ⊥

  heads-nodes : (fs : List Node) (j : ℕ) → (slice_get (fs ++ (M ∷ before)) j ≡ slice_get (fs ++ (N ∷ before)) j) ⊎ ((slice_get (fs ++ (M ∷ before)) j ≡ Some M) × (slice_get (fs ++ (N ∷ before)) j ≡ Some N))
  heads-nodes [] zero = inr (refl, refl)
  heads-nodes [] (suc j) = inl refl
  heads-nodes (f ∷ fs) zero = inl refl
  heads-nodes (f ∷ fs) (suc j) = heads-nodes fs j

  abbrev heads : List Node
  heads = front ++ (N ∷ before)

  abbrev heads' : List Node
  heads' = front ++ (M ∷ before)

  old-is : old ≡ heads ++ (L ∷ behind)
  old-is = sym (append_assoc front (N ∷ before) (L ∷ behind))

  new-is : new ≡ heads' ++ behind
  new-is = sym (append_assoc front (M ∷ before) behind)

  length-heads : length heads ≡ length front + suc (length before)
  length-heads = length-append front (N ∷ before)

  length-heads' : length heads' ≡ length heads
  length-heads' = length-append front (M ∷ before) ∙ sym (length-append front (N ∷ before))

  length-head : length old_head ≡ length heads
  length-head =
      let a = length-append (ups (None ∷ []) front) (get_or os 0 None ∷ ups (places u 1 N.kids ++ rest) before) in
      let b = length-ups (None ∷ []) front in
      let d = length-ups (places u 1 N.kids ++ rest) before in
      omega (arith, length-heads)

  length-head' : length new_head ≡ length heads
  length-head' = sym heads-close.many ∙ length-head

  pub came : (j : ℕ) → Came j
  came j = at (side (length heads) j)
    where
      at : Side (length heads) j → Came j
      at (first h) =
          let h' : j < length heads' = omega (arith, length-heads', h) in
          let a : slice_get new j ≡ slice_get heads' j = ap (λ (xs : List Node). slice_get xs j) new-is ∙ slice_get-left heads' behind j h' in
          let b : slice_get old j ≡ slice_get heads j = ap (λ (xs : List Node). slice_get xs j) old-is ∙ slice_get-left heads (L ∷ behind) j h in
          let p : parent_in old j ≡ get_or old_head j None = ap (λ (xs : Opens). get_or xs j None) old-parents ∙ get-left old_head (Some (u, 1 + c) ∷ old_tail) j (omega (arith, length-head, h)) in
          let q : parent_in new j ≡ get_or new_head j None = ap (λ (xs : Opens). get_or xs j None) new-parents ∙ get-left new_head new_tail j (omega (arith, length-head', h)) in
          record {
            place = j;
            node = rw (a, b) (heads-nodes front j);
            parent = rw (p, q) (heads-close.each j);
            gone = λ w. omega (arith, h, w);
          }
      at (second i e) =
          let z : j ≡ length heads' + i = omega (arith, length-heads', e) in
          let y : suc j ≡ length heads + suc i = omega (arith, e) in
          let a : slice_get new j ≡ slice_get behind i = ap (λ (xs : List Node). slice_get xs j) new-is ∙ ap (λ (k : ℕ). slice_get (heads' ++ behind) k) z ∙ slice_get-right heads' behind i in
          let b : slice_get old (suc j) ≡ slice_get behind i = ap (λ (xs : List Node). slice_get xs (suc j)) old-is ∙ ap (λ (k : ℕ). slice_get (heads ++ (L ∷ behind)) k) y ∙ slice_get-right heads (L ∷ behind) (suc i) in
          let p : parent_in old (suc j) ≡ get_or old_tail i None = ap (λ (xs : Opens). get_or xs (suc j) None) old-parents ∙ get-right old_head (Some (u, 1 + c) ∷ old_tail) (suc j) (suc i) (omega (arith, length-head, e)) in
          let q : parent_in new j ≡ get_or new_tail i None = ap (λ (xs : Opens). get_or xs j None) new-parents ∙ get-right new_head new_tail j i (omega (arith, length-head', e)) in
          record {
            place = suc j;
            node = inl (a ∙ sym b);
            parent = rw (p, q) (tails-close.each i);
            gone = λ w. omega (arith, e, w);
          }

  -- the lower node's place
  pub low-there : key_in old (length heads) ≡ Some l
  low-there =
      let z : length heads + 0 ≡ length heads = omega arith in
      same_key old (L ∷ behind) (length heads) 0 (ap (λ (xs : List Node). slice_get xs (length heads)) old-is ∙ ap (λ (k : ℕ). slice_get (heads ++ (L ∷ behind)) k) (sym z) ∙ slice_get-right heads (L ∷ behind) 0)

  -- all keys stay but that of the lower node
  pub stays : (p : ℕ) (key : Key) → key_in old p ≡ Some key → (key ≡ l → ⊥) → (j : ℕ) × (key_in new j ≡ Some key)
  stays p key e d = at (side (length heads) p)
    where
      same : (fs : List Node) (j : ℕ) → key_in (fs ++ (M ∷ before)) j ≡ key_in (fs ++ (N ∷ before)) j
      same [] zero = ap Some named
      same [] (suc j) = refl
      same (f ∷ fs) zero = refl
      same (f ∷ fs) (suc j) = same fs j

      at : Side (length heads) p → (j : ℕ) × (key_in new j ≡ Some key)
      at (first h) =
          let h' : p < length heads' = omega (arith, length-heads', h) in
          let a : slice_get new p ≡ slice_get heads' p = ap (λ (xs : List Node). slice_get xs p) new-is ∙ slice_get-left heads' behind p h' in
          let b : slice_get old p ≡ slice_get heads p = ap (λ (xs : List Node). slice_get xs p) old-is ∙ slice_get-left heads (L ∷ behind) p h in
          (p, same_key new heads' p p a ∙ same front p ∙ sym (same_key old heads p p b) ∙ e)
      at (second zero f) =
          let y : p ≡ length heads + 0 = omega (arith, f) in
          let b : slice_get old p ≡ slice_get (L ∷ behind) 0 = ap (λ (xs : List Node). slice_get xs p) old-is ∙ ap (λ (k : ℕ). slice_get (heads ++ (L ∷ behind)) k) y ∙ slice_get-right heads (L ∷ behind) 0 in
          absurd (d (one key l (sym e ∙ same_key old (L ∷ behind) p 0 b)))
        where
          one : (a b : Key) → Some a ≡ Some b → a ≡ b
          one a b z = cc
      at (second (suc i) f) =
          let y : p ≡ length heads + suc i = omega (arith, f) in
          let b : slice_get old p ≡ slice_get behind i = ap (λ (xs : List Node). slice_get xs p) old-is ∙ ap (λ (k : ℕ). slice_get (heads ++ (L ∷ behind)) k) y ∙ slice_get-right heads (L ∷ behind) (suc i) in
          let a : slice_get new (length heads' + i) ≡ slice_get behind i = ap (λ (xs : List Node). slice_get xs (length heads' + i)) new-is ∙ slice_get-right heads' behind i in
          (length heads' + i, same_key new old (length heads' + i) p (a ∙ sym b) ∙ e)
