-- A new pair in a table that agrees with its maps.
use Rattle.std.proofs.Common.{◌≡◌, ◌≢◌, ℕ, zero, suc, ◌<◌, Bool, true, false, cond, List, [], ◌∷◌, ◌++◌, length, refl, ap, sym, ◌∙◌, subst, arith, ◌⊎◌, inl, inr}
use Rattle.std.specs.Prelude.{Option, Some, None, slice_get, slice_set, slice_index_or, nat_eq, ◌&&◌}
use Rattle.std.proofs.lemmas.Bool.Decides.{nat_tests}
use Rattle.std.proofs.lemmas.List.{get_or-set_same, get_or-set_other}
use lib.Pointwise.{pointwise}
use Rattle.plain_tree.specs.declared.kind.Kind.{Kind}
use Rattle.plain_tree.specs.Tree.{kind_code, kind_code-inj}
use Rattle.plain_tree.specs.NamePlaces.{place_of}
use Rattle.plain_tree.specs.NameTable.{Agrees, map_at, pairs_of, pair_of}
use Rattle.plain_tree.specs.declared.names.Pair.{Pair}

number_is : (x y : ℕ) → nat_eq x y ≡ true → x ≡ y
number_is x y e = grind (arith, nat_tests)

number_same : (x : ℕ) → nat_eq x x ≡ true
number_same x = grind (arith, nat_tests)

first_true : (a b : Bool) → (a && b) ≡ true → (a ≡ true) × (b ≡ true)
first_true true b e = (refl, e)
first_true false b e = cc

bytes_are : (a b : List ℕ) → pointwise nat_eq a b ≡ true → a ≡ b
bytes_are [] [] e = refl
bytes_are [] (y ∷ ys) e = cc
bytes_are (x ∷ xs) [] e = cc
bytes_are (x ∷ xs) (y ∷ ys) e =
    let both = first_true (nat_eq x y) (pointwise nat_eq xs ys) e in
    let here = number_is x y both.0 in
    let rest = bytes_are xs ys both.1 in
    cc

bytes_same : (a : List ℕ) → pointwise nat_eq a a ≡ true
bytes_same [] = refl
bytes_same (x ∷ xs) = rw (number_same x, bytes_same xs) refl

kept_place : (nm : List ℕ) (ps qs : List (List ℕ × ℕ)) (i : ℕ) → place_of nm ps ≡ Some i → place_of nm (ps ++ qs) ≡ Some i
kept_place nm [] qs i e = cc
kept_place nm (p ∷ ps) qs i e = by (pointwise nat_eq nm p.0) (place_of nm ps) (place_of nm (ps ++ qs)) e (kept_place nm ps qs i) where
  by : (b : Bool) (o r : Option ℕ) → cond b (Some p.1) o ≡ Some i → (o ≡ Some i → r ≡ Some i) → cond b (Some p.1) r ≡ Some i
  by true o r h go = h
  by false o r h go = go h

new_place : (nm : List ℕ) (ps qs : List (List ℕ × ℕ)) → place_of nm ps ≡ None → place_of nm (ps ++ qs) ≡ place_of nm qs
new_place nm [] qs e = refl
new_place nm (p ∷ ps) qs e = by (pointwise nat_eq nm p.0) (place_of nm ps) (place_of nm (ps ++ qs)) e (new_place nm ps qs) where
  by : (b : Bool) (o r : Option ℕ) → cond b (Some p.1) o ≡ None → (o ≡ None → r ≡ place_of nm qs) → cond b (Some p.1) r ≡ place_of nm qs
  by true o r h go = cc
  by false o r h go = go h

pub pairs_of-push : (ps : List Pair) (p : Pair) → pairs_of (ps ++ p ∷ []) ≡ pairs_of ps ++ pair_of p ∷ []
pairs_of-push [] p = refl
pairs_of-push (q ∷ ps) p = ap (λ z. pair_of q ∷ z) (pairs_of-push ps p)

pub pushed_pairs : (new before old : List Pair) (k : Kind) (made name : List ℕ) → new ≡ before ++ record { kind = k; name = made } ∷ [] → before ≡ old → made ≡ name
    → pairs_of new ≡ pairs_of old ++ (k, name) ∷ []
pushed_pairs new before old k made name a b d = rw (a, b, pairs_of-push old (record { kind = k; name = made }), d) refl

-- the maps after an addition, by what it was told
pub grown_maps : (new maps : List (List (List ℕ × ℕ))) (n code place len : ℕ) (key name : List ℕ)
    → new ≡ slice_set maps n (slice_index_or maps n [] ++ (key, place) ∷ []) → n ≡ code → key ≡ name → place ≡ len
    → new ≡ slice_set maps code (slice_index_or maps code [] ++ (name, len) ∷ [])
grown_maps new maps n code place len key name a b d e = rw (a, b, d, e) refl

pub length-pairs_of : (ps : List Pair) → length (pairs_of ps) ≡ length ps
length-pairs_of [] = refl
length-pairs_of (q ∷ ps) = ap suc (length-pairs_of ps)

module _ {X : Type 0} where
  pub kept_item : (xs ys : List X) (i : ℕ) (x : X) → slice_get xs i ≡ Some x → slice_get (xs ++ ys) i ≡ Some x
  kept_item [] ys i x e = cc
  kept_item (y ∷ xs) ys zero x e = e
  kept_item (y ∷ xs) ys (suc i) x e = kept_item xs ys i x e

  pub last_item : (xs : List X) (x : X) → slice_get (xs ++ x ∷ []) (length xs) ≡ Some x
  last_item [] x = refl
  last_item (y ∷ xs) x = last_item xs x

  pub item_of_push : (xs : List X) (y : X) (i : ℕ) (x : X) → slice_get (xs ++ y ∷ []) i ≡ Some x → (slice_get xs i ≡ Some x) ⊎ ((i ≡ length xs) × (y ≡ x))
  item_of_push [] y zero x e = inr (refl, cc)
  item_of_push [] y (suc i) x e = cc
  item_of_push (z ∷ xs) y zero x e = inl e
  item_of_push (z ∷ xs) y (suc i) x e = elim (item_of_push xs y i x e) [ inl w ↦ inl w | inr w ↦ inr (ap suc w.0, w.1) ]

module _ (pairs : List (Kind × List ℕ)) (maps : List (List (List ℕ × ℕ))) (kind : Kind) (name : List ℕ)
    (agrees : Agrees pairs (map_at maps)) (room : kind_code kind < length maps) (absent : place_of name (map_at maps kind) ≡ None) where
  abbrev pub grown : List (List (List ℕ × ℕ))
  grown = slice_set maps (kind_code kind) (map_at maps kind ++ (name, length pairs) ∷ [])

  grown_here : map_at grown kind ≡ map_at maps kind ++ (name, length pairs) ∷ []
  grown_here = get_or-set_same maps (kind_code kind) (map_at maps kind ++ (name, length pairs) ∷ []) [] room

  grown_there : (k : Kind) → (kind_code k ≢ kind_code kind) → map_at grown k ≡ map_at maps k
  grown_there k other = get_or-set_other maps (kind_code kind) (kind_code k) (map_at maps kind ++ (name, length pairs) ∷ []) [] other

  -- the same kind, or another
  kinds : (k : Kind) → (k ≡ kind) ⊎ (kind_code k ≢ kind_code kind)
  kinds k = by (nat_eq (kind_code k) (kind_code kind)) refl where
    by : (b : Bool) → nat_eq (kind_code k) (kind_code kind) ≡ b → (k ≡ kind) ⊎ (kind_code k ≢ kind_code kind)
    by true e = inl (kind_code-inj k kind (number_is (kind_code k) (kind_code kind) e))
    by false e = inr (λ same. let t = subst (λ z. nat_eq (kind_code k) z ≡ true) same (number_same (kind_code k)) in cc)

  found_here : (nm : List ℕ) (i : ℕ) (o : Option ℕ) → place_of nm (map_at maps kind) ≡ o → place_of nm (map_at maps kind ++ (name, length pairs) ∷ []) ≡ Some i
      → slice_get (pairs ++ (kind, name) ∷ []) i ≡ Some (kind, nm)
  found_here nm i (Some j) e is =
      let kept = kept_place nm (map_at maps kind) ((name, length pairs) ∷ []) j e in
      let same : j ≡ i = cc in
      kept_item pairs ((kind, name) ∷ []) i (kind, nm) (agrees.found kind nm i (e ∙ ap (λ z. Some z) same))
  found_here nm i None e is =
      let here = sym (new_place nm (map_at maps kind) ((name, length pairs) ∷ []) e) ∙ is in
      by (pointwise nat_eq nm name) refl here where
        by : (b : Bool) → pointwise nat_eq nm name ≡ b → cond b (Some (length pairs)) None ≡ Some i → slice_get (pairs ++ (kind, name) ∷ []) i ≡ Some (kind, nm)
        by true t is =
            let n : length pairs ≡ i = cc in
            let same = bytes_are nm name t in
            subst (λ z. slice_get (pairs ++ (kind, name) ∷ []) z ≡ Some (kind, nm)) n (last_item pairs (kind, name) ∙ ap (λ z. Some (kind, z)) (sym same))
        by false t is = cc

  pub agrees_added : Agrees (pairs ++ (kind, name) ∷ []) (map_at grown)
  agrees_added = record {
    found = λ k nm i is. elim (kinds k) [
      | inl same ↦ subst (λ z. place_of nm (map_at grown z) ≡ Some i → slice_get (pairs ++ (kind, name) ∷ []) i ≡ Some (z, nm)) (sym same)
          (λ h. found_here nm i (place_of nm (map_at maps kind)) refl (rw grown_here at h)) is
      | inr other ↦ kept_item pairs ((kind, name) ∷ []) i (k, nm) (agrees.found k nm i (rw (grown_there k other) at is))
    ];
    placed = λ k nm i at. elim (item_of_push pairs (kind, name) i (k, nm) at) [
      | inl old ↦ elim (kinds k) [
        | inl same ↦ rw (ap (λ z. map_at grown z) same ∙ grown_here) (kept_place nm (map_at maps kind) ((name, length pairs) ∷ []) i (subst (λ z. place_of nm (map_at maps z) ≡ Some i) same (agrees.placed k nm i old)))
        | inr other ↦ rw (grown_there k other) (agrees.placed k nm i old)
      ]
      | inr new ↦
          let k_is : kind ≡ k = ap (λ p. p.0) new.1 in
          let nm_is : name ≡ nm = ap (λ p. p.1) new.1 in
          subst (λ z. place_of z (map_at grown k) ≡ Some i) nm_is
          (rw (ap (λ z. map_at grown z) (sym k_is) ∙ grown_here, new_place name (map_at maps kind) ((name, length pairs) ∷ []) absent, bytes_same name, new.0) refl)
    ];
  }
