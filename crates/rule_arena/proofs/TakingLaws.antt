-- The laws of terms out of which a node is taken.
use Rattle.std.proofs.Common.{◌≡◌, ◌<◌, ℕ, zero, suc, ◌+◌, arith, List, [], ◌∷◌, ◌++◌, length, drop, Some, slice_get, refl, sym, ap, ◌∙◌, subst, append_assoc}
use Rattle.rule_arena.specs.declared.key.Key.{Key}
use Rattle.rule_arena.specs.declared.label.Label.{Label}
use Rattle.rule_arena.specs.Preorder.{subterm, with_subterm}
use Rattle.rule_arena.specs.Terms.{Node, key_in, kids_in, kids_of, labelled}
use Rattle.rule_arena.specs.Taking.{regrown, without_term, without_node}
use Rattle.rule_arena.specs.Children.{Child, ChildAt, merged}
use Rattle.rule_arena.specs.Laws.{IsKeyedTerm}
use Rattle.rule_arena.proofs.CellLemmas.{key_is}
use Rattle.rule_arena.proofs.NodeLemmas.{key_of_node}
use Rattle.rule_arena.proofs.ChildLemmas.{child_at, child_place, length-kids}
use Rattle.rule_arena.proofs.PreorderLemmas.{slice_get-right}
use Rattle.rule_arena.proofs.Merging.{merging, covered}

pub child_apart : (ns : List Node) (q : ℕ) (N : Node) (c : ℕ) (key : Key) → IsKeyedTerm ns → slice_get ns q ≡ Some N → slice_get (kids_in ns q) c ≡ Some key → ChildAt ns q N c key
child_apart ns q N c key t e h = child_at 1 ns q N c key t.term e h

regrown_stays : (ns : List Node) (up key : Key) (n p i : ℕ) (ms : List Node) → key_in ns p ≡ Some key → i < p → key_in (with_subterm kids_of (regrown ns up n) p ms) i ≡ key_in ns i
regrown_stays [] up key n p i ms e w = absurd (cc)
regrown_stays (x ∷ ns) up key n zero i ms e w = absurd (omega arith)
regrown_stays (x ∷ ns) up key n (suc p) zero ms e w = refl
regrown_stays (x ∷ ns) up key n (suc p) (suc i) ms e w = regrown_stays ns up key n p i ms e (omega (arith, w))

pub keys_stay : (ns : List Node) (up key : Key) (p i : ℕ) → key_in ns p ≡ Some key → i < p → (key_in (without_term ns up p) i ≡ key_in ns i) × (key_in (without_node ns up p) i ≡ key_in ns i)
keys_stay ns up key p i e w = (
  regrown_stays ns up key 0 p i [] e w,
  regrown_stays ns up key (length (kids_in ns p)) p i (drop 1 (subterm kids_of ns p)) e w,
)

module _ (ns : List Node) (q p : ℕ) (N : Node) (c : ℕ) (low : Key) (t : IsKeyedTerm ns) (C : ChildAt ns q N c low) (low_there : key_in ns p ≡ Some low) where
  abbrev D : Child C.rest N.kids c low
  D = C.child

  whole : ns ≡ C.front ++ ((N ∷ (D.before ++ ((D.node ∷ D.below) ++ D.after))) ++ D.back)
  whole =
      C.split ∙ ap (λ (zs : List Node). C.front ++ (N ∷ zs)) (D.split
      ∙ ap (λ (zs : List Node). D.before ++ zs) (sym (append_assoc (D.node ∷ D.below) D.after D.back)) ∙ sym (append_assoc D.before ((D.node ∷ D.below) ++ D.after) D.back))

  high_there : slice_get ns q ≡ Some N
  high_there =
      let z : length C.front + 0 ≡ q = omega (arith, C.at) in
      ap (λ (ms : List Node). slice_get ms q) C.split ∙ ap (λ (i : ℕ). slice_get (C.front ++ (N ∷ C.rest)) i) (sym z) ∙ slice_get-right C.front (N ∷ C.rest) 0

  one : (i : ℕ) (k : Key) → key_in (C.front ++ ((N ∷ (D.before ++ ((D.node ∷ D.below) ++ D.after))) ++ D.back)) i ≡ Some k → k.number ≡ N.key.number → i ≡ q
  one i k e h =
      let f : key_in ns i ≡ Some k = subst (λ (zs : List Node). key_in zs i ≡ Some k) (sym whole) e in
      t.once i q N.key (f ∙ ap Some (key_is k N.key.number h)) (key_of_node ns q N high_there)

  place : p ≡ suc (q + length D.before)
  place = child_place ns q N c low C p low_there (λ i j e f. t.once i j low e f)

  low_is : slice_get ns p ≡ Some D.node
  low_is =
      let z : length D.before + 0 ≡ length D.before = omega arith in
      let f : slice_get C.rest (length D.before) ≡ Some D.node = subst (λ (zs : List Node). slice_get zs (length D.before) ≡ Some D.node) (sym D.split) (rw z at (slice_get-right D.before ((D.node ∷ D.below) ++ (D.after ++ D.back)) 0)) in
      let g : slice_get ns (length C.front + suc (length D.before)) ≡ Some D.node = subst (λ (zs : List Node). slice_get zs (length C.front + suc (length D.before)) ≡ Some D.node) (sym C.split) (slice_get-right C.front (N ∷ C.rest) (suc (length D.before)) ∙ f) in
      let w : p ≡ length C.front + suc (length D.before) = omega (arith, place, C.at) in
      ap (λ (i : ℕ). slice_get ns i) w ∙ g

  pub dissolving : (l : Label) → labelled (without_node ns N.key p) q l ≡ with_subterm kids_of ns q (merged N C.rest c low D l)
  dissolving l =
      ap (λ (k : ℕ). labelled (with_subterm kids_of (regrown ns N.key k) p (drop 1 (subterm kids_of ns p))) q l) (length-kids 1 ns p D.node t.term low_is)
      ∙ subst (λ (zs : List Node). labelled (with_subterm kids_of (regrown zs N.key D.node.kids) p (drop 1 (subterm kids_of zs p))) q l ≡ with_subterm kids_of zs q (merged N C.rest c low D l)) (sym whole)
      (merging C.front N D.before D.node D.below D.after D.back c D.more q p C.at place D.before_terms D.below_terms D.after_terms D.many one l)

  pub detaching : (ms : List Node) → with_subterm kids_of (without_term ns N.key p) q ms ≡ with_subterm kids_of ns q ms
  detaching ms =
      subst (λ (zs : List Node). with_subterm kids_of (without_term zs N.key p) q ms ≡ with_subterm kids_of zs q ms) (sym whole)
      (covered C.front N D.before D.node D.below D.after D.back c D.more q p C.at place D.before_terms D.below_terms D.after_terms D.many one ms)
