-- The place at which a table of distinct names has a name is the first one.
use Rattle.std.proofs.Common.{◌≡◌, ◌≢◌, ℕ, zero, suc, ◌+◌, ◌*◌, length, List, [], ◌∷◌, Bool, true, false, Option, Some, None, refl, ap, sym, ◌∙◌, arith, slice_get}
use Rattle.std.proofs.Math.Bool.{true≢false}
use Rattle.std.proofs.lemmas.Bool.Decides.{Decides-and, Decides-eqb}
use Rattle.std.proofs.lemmas.Slice.Eq.{bytes_eq-Decides}
use Rattle.std.specs.Prelude.{◌==◌, ◌&&◌, if◌then◌else◌}
use Rattle.std.specs.Option.{option_map_or}
use Rattle.std.specs.Str.{bytes_eq}
use Rattle.plain_tree.specs.declared.kind.Kind.{Kind}
use Rattle.plain_tree.specs.declared.kind.Kind.TheVariants as kinds
use Rattle.plain_tree.specs.Tree.{kind_code, kind_code-inj}
use Rattle.plain_tree.specs.NameTable.{AreDistinct}
use Rattle.xpath_parser.specs.declared.query.Axis.{Axis}
use Rattle.xpath_parser.specs.declared.query.Test.{Test}
use Rattle.xpath_parser.specs.declared.query.Test.TheVariants as tests
use Rattle.xpath_parser.specs.Numbering.{principal}
use Rattle.xpath_parser.specs.Queries.{NameOf}
use Rattle.xpath_parser.specs.Shown.{test_of}
use Rattle.selecting_automaton.specs.declared.turns.Wanted.TheVariants.{Nothing, Named, Exactly}
use Rattle.selecting_automaton.specs.Wanting.{place_from, wanted}
use Rattle.selecting_automaton.proofs.Truths.{none_equal}

if_true : {A : Type 0} (b : Bool) (x y : A) → b ≡ true → (if b then x else y) ≡ x
if_true true x y e = refl
if_true false x y e = absurd (true≢false (sym e))

if_false : {A : Type 0} (b : Bool) (x y : A) → b ≡ false → (if b then x else y) ≡ y
if_false false x y e = refl
if_false true x y e = absurd (true≢false e)

some_same : {A : Type 0} (x y : A) → ◌≡◌ {A = Option A} (Some x) (Some y) → x ≡ y
some_same x y e = cc

module _ (kind : Kind) (name : List ℕ) where
  abbrev pair : Kind × List ℕ
  pair = (kind, name)

  abbrev is_pair : Kind × List ℕ → Bool
  is_pair p = (kind_code p.0 == kind_code kind) && bytes_eq p.1 name

  pair_is : (p : Kind × List ℕ) → is_pair p ≡ true → p ≡ pair
  pair_is (k, n) e =
      let h = (Decides-and (kind_code k == kind_code kind) (bytes_eq n name) (Decides-eqb (kind_code k) (kind_code kind)) (bytes_eq-Decides n name)).0 e in
      same (kind_code-inj k kind h.0) h.1 where
        same : k ≡ kind → n ≡ name → ◌≡◌ {A = Kind × List ℕ} (k, n) pair
        same u v = cc

  is_itself : (p : Kind × List ℕ) → p ≡ pair → is_pair p ≡ true
  is_itself p e = ap is_pair e ∙ (Decides-and (kind_code kind == kind_code kind) (bytes_eq name name) (Decides-eqb (kind_code kind) (kind_code kind)) (bytes_eq-Decides name name)).1 (refl, refl)

  abbrev IsFound : ℕ → List (Kind × List ℕ) → Type 0
  IsFound i pairs = (k : ℕ) × (place_from i kind name pairs ≡ Some (i + k)) × (slice_get pairs k ≡ Some pair)

  found_by : (b : Bool) (p : Kind × List ℕ) (pairs : List (Kind × List ℕ)) (i j : ℕ) → is_pair p ≡ b → slice_get (p ∷ pairs) j ≡ Some pair
      → ((m : ℕ) → slice_get pairs m ≡ Some pair → IsFound (suc i) pairs) → IsFound i (p ∷ pairs)
  found_by true p pairs i j t e hyp =
      let at : i ≡ i + 0 = omega arith in
      (0, if_true (is_pair p) (Some i) (place_from (suc i) kind name pairs) t ∙ ap Some at, ap Some (pair_is p t))
  found_by false p pairs i zero t e hyp = absurd (true≢false (sym (is_itself p (some_same p pair e)) ∙ t))
  found_by false p pairs i (suc j) t e hyp =
      let h = hyp j e in
      let at : suc i + h.0 ≡ i + suc h.0 = omega arith in
      (suc h.0, if_false (is_pair p) (Some i) (place_from (suc i) kind name pairs) t ∙ h.1 ∙ ap Some at, h.2)

  found : (pairs : List (Kind × List ℕ)) (i j : ℕ) → slice_get pairs j ≡ Some pair → IsFound i pairs
  found [] i j e = absurd (cc)
  found (p ∷ pairs) i j e = found_by (is_pair p) p pairs i j refl e (λ m. found pairs (suc i) m)

  absent_by : (b : Bool) (p : Kind × List ℕ) (pairs : List (Kind × List ℕ)) (i : ℕ) → is_pair p ≡ b → (p ≡ pair → ⊥) → place_from (suc i) kind name pairs ≡ None → place_from i kind name (p ∷ pairs) ≡ None
  absent_by true p pairs i t e hyp = absurd (e (pair_is p t))
  absent_by false p pairs i t e hyp = if_false (is_pair p) (Some i) (place_from (suc i) kind name pairs) t ∙ hyp

  absent : (pairs : List (Kind × List ℕ)) (i : ℕ) → ((j : ℕ) → slice_get pairs j ≢ Some pair) → place_from i kind name pairs ≡ None
  absent [] i e = refl
  absent (p ∷ pairs) i e = absent_by (is_pair p) p pairs i refl (λ q. e 0 (ap Some q)) (absent pairs (suc i) (λ j. e (suc j)))

module _ (names : List (Kind × List ℕ)) (mark : List ℕ → ℕ) (a : Axis) where
  -- what a step with a name wants
  pub wanted-found : (test : Test) (kind : Kind) (name bytes : List ℕ) (place : ℕ) → test ≡ tests.Name name → kind ≡ principal a → bytes ≡ name → slice_get names place ≡ Some (kind, bytes) → AreDistinct names
      → Named place ≡ wanted names mark a (test_of test)
  wanted-found test kind name bytes place t k b e d =
      let f = found kind bytes names 0 place e in
      let same : place ≡ f.0 = d kind bytes place f.0 e f.2 in
      let at : 0 + f.0 ≡ f.0 = omega arith in
      ap Named (same ∙ sym at) ∙ ap (λ o. option_map_or Named o Nothing) (sym f.1)
      ∙ ap (λ x. option_map_or Named (place_from 0 x bytes names) Nothing) k ∙ ap (λ x. option_map_or Named (place_from 0 (principal a) x names) Nothing) b ∙ ap (λ x. wanted names mark a (test_of x)) (sym t)

  pub wanted-absent : (test : Test) (kind : Kind) (name bytes : List ℕ) → test ≡ tests.Name name → kind ≡ principal a → bytes ≡ name → ((i : ℕ) → slice_get names i ≢ Some (kind, bytes)) → Nothing ≡ wanted names mark a (test_of test)
  wanted-absent test kind name bytes t k b e =
      ap (λ o. option_map_or Named o Nothing) (sym (absent kind bytes names 0 e))
      ∙ ap (λ x. option_map_or Named (place_from 0 x bytes names) Nothing) k ∙ ap (λ x. option_map_or Named (place_from 0 (principal a) x names) Nothing) b ∙ ap (λ x. wanted names mark a (test_of x)) (sym t)

  -- what a comparison with an attribute wants
  module _ (x v : List ℕ) where
    marked-exactly : (o : Option ℕ) → (mark v ≡ 0 → ⊥) → place_from 0 kinds.Attribute x names ≡ o → wanted names mark a (NameOf x v) ≡ option_map_or (λ (s : ℕ). Exactly (s + length names * mark v)) o Nothing
    marked-exactly o n e =
        if_false (mark v == 0) Nothing (option_map_or (λ (s : ℕ). Exactly (s + length names * mark v)) (place_from 0 kinds.Attribute x names) Nothing) (none_equal (mark v) 0 n)
        ∙ ap (λ p. option_map_or (λ (s : ℕ). Exactly (s + length names * mark v)) p Nothing) e

    pub exactly-found : (place m symbol : ℕ) → m ≡ mark v → (m ≡ 0 → ⊥) → slice_get names place ≡ Some (kinds.Attribute, x) → AreDistinct names → symbol ≡ place + length names * m → Exactly symbol ≡ wanted names mark a (NameOf x v)
    exactly-found place m symbol k n e d s =
        let f = found kinds.Attribute x names 0 place e in
        let same : place ≡ f.0 = d kinds.Attribute x place f.0 e f.2 in
        let at : symbol ≡ 0 + f.0 + length names * mark v = omega (arith, s, same, ap (λ i. length names * i) k) in
        ap Exactly at ∙ sym (marked-exactly (Some (0 + f.0)) (λ z. n (k ∙ z)) f.1)

    pub exactly-absent : (m : ℕ) → m ≡ mark v → (m ≡ 0 → ⊥) → ((i : ℕ) → slice_get names i ≢ Some (kinds.Attribute, x)) → Nothing ≡ wanted names mark a (NameOf x v)
    exactly-absent m k n e = sym (marked-exactly None (λ z. n (k ∙ z)) (absent kinds.Attribute x names 0 e))
