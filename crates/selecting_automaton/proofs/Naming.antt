-- A symbol of a table of distinct names, with the mark of a node's text, is taken where the node passes the test.
use Rattle.std.proofs.Common.{◌≡◌, ℕ, zero, suc, ◌+◌, ◌*◌, ◌<◌, length, List, [], ◌∷◌, Bool, true, false, refl, ap, sym, ◌∙◌, arith, get_or}
use Rattle.std.specs.Option.{option_map_or}
use Rattle.std.specs.Prelude.{◌&&◌, ◌==◌, ◌/◌, ◌%◌, Option, Some, None, slice_get, if◌then◌else◌}
use Rattle.std.specs.Str.{bytes_eq}
use Rattle.std.proofs.lemmas.Bool.Decides.{Decides-eqb}
use Rattle.std.proofs.lemmas.List.{length-map}
use Rattle.std.proofs.lemmas.List.Elements.{All-head}
use Rattle.std.proofs.lemmas.Option.{get_or_from_slice_get, slice_get_within}
use Rattle.std.proofs.Math.Nat.{add-mul-mod_self_left, add-mul-div_left, mod-eq_of_lt, div-eq_of_lt}
use Rattle.std.proofs.Math.ListN.{get_or-map}
use Rattle.std.proofs.lemmas.Slice.Eq.{bytes_eq-Decides}
use Rattle.plain_tree.specs.declared.kind.Kind.{Kind}
use Rattle.plain_tree.specs.declared.kind.Kind.TheVariants as kinds
use Rattle.plain_tree.specs.NameTable.{AreDistinct}
use Rattle.plain_tree.specs.Tree.{node, Trees, kind_code, kind_code-inj}
use Rattle.xpath_parser.specs.declared.query.Axis.{Axis}
use Rattle.xpath_parser.specs.Comparing.{literals_of_test}
use Rattle.xpath_parser.specs.Numbering.{principal, passes_test}
use Rattle.xpath_parser.specs.Queries.{Test, Star, Name, AnyNode, TextNode, CommentNode, InstructionNode, TextOf, NameOf}
use Rattle.selecting_automaton.specs.declared.turns.Wanted.TheVariants.{Nothing, Named, OfKind, TextWith, Exactly}
use Rattle.selecting_automaton.proofs.Literals.{TellsTexts, AreMarked}
use Rattle.value_tests.specs.MarkedCodes.{node_mark}
use Rattle.selecting_automaton.specs.Wanting.{place_from, wanted, base_of, mark_in, kind_in, takes_symbol, kinds_of}
use Rattle.selecting_automaton.proofs.Truths.{both_true, none_equal, same_number, turned, and_assoc3, all_and, none_and}

abbrev Pair : Type 0
Pair = Kind × List ℕ

-- whether a kind and a name are these
abbrev is_pair : Kind → List ℕ → Pair → Bool
is_pair kind name p = (kind_code p.0 == kind_code kind) && bytes_eq p.1 name

same-pair : (kind : Kind) (name : List ℕ) (p : Pair) → is_pair kind name p ≡ true → p ≡ (kind, name)
same-pair kind name (k, n) e =
    let b = both_true (kind_code k == kind_code kind) (bytes_eq n name) e in
    let kinds : k ≡ kind = kind_code-inj k kind ((Decides-eqb (kind_code k) (kind_code kind)).0 b.0) in
    let names : n ≡ name = (bytes_eq-Decides n name).0 b.1 in
    cc

own-pair : (kind : Kind) (name : List ℕ) → is_pair kind name (kind, name) ≡ true
own-pair kind name = rw (same_number (kind_code kind), (bytes_eq-Decides name name).1 refl) refl

some-pair : (p q : Pair) → Some p ≡ Some q → p ≡ q
some-pair p q e = cc

-- the first place of a pair has it; where there is none, no place has it
abbrev Placed : Kind → List ℕ → ℕ → List Pair → Option ℕ → Type 0
Placed kind name i pairs None = (j : ℕ) (p : Pair) → slice_get pairs j ≡ Some p → is_pair kind name p ≡ false
Placed kind name i pairs (Some s) = (j : ℕ) × (s ≡ i + j) × (slice_get pairs j ≡ Some (kind, name))

placed-later : (kind : Kind) (name : List ℕ) (i : ℕ) (p : Pair) (pairs : List Pair) (o : Option ℕ) → is_pair kind name p ≡ false → Placed kind name (suc i) pairs o → Placed kind name i (p ∷ pairs) o
placed-later kind name i p pairs None e later = by_place where
  by_place : (j : ℕ) (r : Pair) → slice_get (p ∷ pairs) j ≡ Some r → is_pair kind name r ≡ false
  by_place zero r g = ap (is_pair kind name) (sym (some-pair p r g)) ∙ e
  by_place (suc j) r g = later j r g
placed-later kind name i p pairs (Some s) e later = (suc later.0, omega (arith, later.1), later.2)

place-placed : (kind : Kind) (name : List ℕ) (i : ℕ) (pairs : List Pair) → Placed kind name i pairs (place_from i kind name pairs)
place-placed kind name i [] = λ j p g. absurd (none-some p g) where
  none-some : (p : Pair) → ◌≡◌ {A = Option Pair} None (Some p) → ⊥
  none-some p g = cc
place-placed kind name i ((k, n) ∷ pairs) = by_test (place-placed kind name (suc i) pairs) (is_pair kind name (k, n)) refl where
  later : Option ℕ
  later = place_from (suc i) kind name pairs

  by_test : Placed kind name (suc i) pairs later → (b : Bool) → is_pair kind name (k, n) ≡ b → Placed kind name i ((k, n) ∷ pairs) (if b then Some i else later)
  by_test placed true e = (0, omega arith, ap Some (same-pair kind name (k, n) e))
  by_test placed false e = placed-later kind name i (k, n) pairs later e placed

true-false : ◌≡◌ {A = Bool} true false → ⊥
true-false h = cc

-- a number behind so many, for each mark
module _ (n s a : ℕ) (within : s < n) where
  pub base-behind : (s + n * a) % n ≡ s
  base-behind = add-mul-mod_self_left s n a ∙ mod-eq_of_lt within

  pub mark-behind : (s + n * a) / n ≡ a
  mark-behind = let none : 0 + a ≡ a = omega arith in add-mul-div_left s a (omega (arith, within)) ∙ ap (λ k. k + a) (div-eq_of_lt within) ∙ none

same-behind : (n s f a b : ℕ) → s < n → f < n → s + n * a ≡ f + n * b → (s ≡ f) × (a ≡ b)
same-behind n s f a b h g e =
    (sym (base-behind n s a h) ∙ ap (λ k. k % n) e ∙ base-behind n f b g, sym (mark-behind n s a h) ∙ ap (λ k. k / n) e ∙ mark-behind n f b g)

-- at one place, marks alone tell
marks-tell : (n s f a b : ℕ) → s ≡ f → f < n → (s + n * a == f + n * b) ≡ (a == b)
marks-tell n s f a b e h = by_test (a == b) refl where
  by_test : (t : Bool) → (a == b) ≡ t → (s + n * a == f + n * b) ≡ t
  by_test true g = (Decides-eqb (s + n * a) (f + n * b)).1 (ap (λ k. k + n * a) e ∙ ap (λ k. f + n * k) ((Decides-eqb a b).0 g))
  by_test false g = none_equal (s + n * a) (f + n * b) (λ k. true-false (sym ((Decides-eqb a b).1 (same-behind n s f a b (omega (arith, e, h)) h k).1) ∙ g))

module _ (names : List Pair) (mark : List ℕ → ℕ) (tells : TellsTexts mark) (one : AreDistinct names) (f : ℕ) (kind : Kind) (name value : List ℕ) (at : slice_get names f ≡ Some (kind, name)) where
  abbrev m : ℕ
  m = node_mark names mark kind value

  -- the symbol with its mark
  abbrev marked : ℕ
  marked = f + length names * m

  within : f < length names
  within = slice_get_within names f (kind, name) at

  count : length (kinds_of names) ≡ length names
  count = length-map names (λ (p : Pair). p.0)

  base-is : base_of (kinds_of names) marked ≡ f
  base-is = ap (λ n. marked % n) count ∙ base-behind (length names) f m within

  mark-is : mark_in (kinds_of names) marked ≡ m
  mark-is = ap (λ n. marked / n) count ∙ mark-behind (length names) f m within

  pub kind-at : kind_in (kinds_of names) marked ≡ kind
  kind-at =
      let none : Pair = (kinds.Document, []) in
      ap (λ s. get_or (kinds_of names) s kinds.Document) base-is
      ∙ get_or-map (λ (p : Pair). p.0) names f none ∙ ap (λ (p : Pair). p.0) (get_or_from_slice_get names f (kind, name) none at)

  -- a pair's place is this one where this pair is that one
  same-place : (k : Kind) (n : List ℕ) (s : ℕ) → Placed k n 0 names (Some s) → (s == f) ≡ is_pair k n (kind, name)
  same-place k n s p = by_test (is_pair k n (kind, name)) refl where
    place : s ≡ p.0
    place = omega (arith, p.1)

    by_test : (b : Bool) → is_pair k n (kind, name) ≡ b → (s == f) ≡ b
    by_test true e = (Decides-eqb s f).1 (place ∙ one k n p.0 f p.2 (at ∙ ap Some (same-pair k n (kind, name) e)))
    by_test false e = none_equal s f (λ h.
        let same : ◌≡◌ {A = Pair} (k, n) (kind, name) = some-pair (k, n) (kind, name) (sym p.2 ∙ ap (slice_get names) (sym place ∙ h) ∙ at) in
        let yes : is_pair k n (kind, name) ≡ true = ap (is_pair k n) (sym same) ∙ own-pair k n in
        true-false (sym yes ∙ e))

  -- the symbol at the place of a pair is taken where its own pair is that one
  takes-named : (k : Kind) (n : List ℕ) (o : Option ℕ) → Placed k n 0 names o → takes_symbol (kinds_of names) (option_map_or Named o Nothing) marked ≡ is_pair k n (kind, name)
  takes-named k n None p = sym (p f (kind, name) at)
  takes-named k n (Some s) p = ap (λ g. s == g) base-is ∙ same-place k n s p

  of-kind : (k : Kind) → takes_symbol (kinds_of names) (OfKind k) marked ≡ (kind_code kind == kind_code k)
  of-kind k = ap (λ (j : Kind). kind_code k == kind_code j) kind-at ∙ turned (kind_code k) (kind_code kind)

  -- a value that has a mark, by the mark
  module _ (v : List ℕ) (has : 0 < mark v) where
    same-value : (mark v == mark value) ≡ bytes_eq value v
    same-value = by_test (bytes_eq value v) refl where
      by_test : (b : Bool) → bytes_eq value v ≡ b → (mark v == mark value) ≡ b
      by_test true e = (Decides-eqb (mark v) (mark value)).1 (ap mark (sym ((bytes_eq-Decides value v).0 e)))
      by_test false e = none_equal (mark v) (mark value) (λ g. true-false (sym ((bytes_eq-Decides value v).1 (tells value v has (sym g))) ∙ e))

    is-marked : (mark v == 0) ≡ false
    is-marked = none_equal (mark v) 0 (λ e. absurd (omega (arith, has, e)))

    text-marked : (k : Kind) → ((kind_code kinds.Text == kind_code k) && (mark v == node_mark names mark k value)) ≡ ((kind_code k == kind_code kinds.Text) && bytes_eq value v)
    text-marked kinds.Document = refl
    text-marked kinds.Element = refl
    text-marked kinds.Attribute = refl
    text-marked kinds.Text = same-value
    text-marked kinds.Comment = refl
    text-marked kinds.Instruction = refl

    takes-text : (a : Axis) → takes_symbol (kinds_of names) (wanted names mark a (TextOf v)) marked ≡ ((kind_code kind == kind_code kinds.Text) && bytes_eq value v)
    takes-text a =
        ap (λ (b : Bool). takes_symbol (kinds_of names) (if b then Nothing else TextWith (mark v)) marked) is-marked
        ∙ ap (λ (j : Kind). (kind_code kinds.Text == kind_code j) && (mark v == mark_in (kinds_of names) marked)) kind-at
        ∙ ap (λ n. (kind_code kinds.Text == kind_code kind) && (mark v == n)) mark-is ∙ text-marked kind

    -- the one symbol of a mark at a place is taken where its own pair is that one, and its value the one with the mark
    takes-exactly : (x : List ℕ) (o : Option ℕ) → Placed kinds.Attribute x 0 names o
        → takes_symbol (kinds_of names) (option_map_or (λ (s : ℕ). Exactly (s + length names * mark v)) o Nothing) marked ≡ (is_pair kinds.Attribute x (kind, name) && bytes_eq value v)
    takes-exactly x None p = sym (none_and (bytes_eq value v) (p f (kind, name) at))
    takes-exactly x (Some s) p = by_test (is_pair kinds.Attribute x (kind, name)) refl where
      by_test : (b : Bool) → is_pair kinds.Attribute x (kind, name) ≡ b → (s + length names * mark v == marked) ≡ (is_pair kinds.Attribute x (kind, name) && bytes_eq value v)
      by_test true e =
          let place : s ≡ f = (Decides-eqb s f).0 (same-place kinds.Attribute x s p ∙ e) in
          let own : m ≡ mark value = ap (λ (q : Pair). node_mark names mark q.0 value) (same-pair kinds.Attribute x (kind, name) e) in
          marks-tell (length names) s f (mark v) m place within ∙ ap (λ k. mark v == k) own ∙ same-value ∙ sym (all_and e)
      by_test false e =
          none_equal (s + length names * mark v) marked (λ g.
          let inside : s < length names = omega (arith, p.1, slice_get_within names p.0 (kinds.Attribute, x) p.2) in
          let place : s ≡ f = (same-behind (length names) s f (mark v) m inside within g).0 in
          true-false (sym ((Decides-eqb s f).1 place) ∙ same-place kinds.Attribute x s p ∙ e))
          ∙ sym (none_and (bytes_eq value v) e)

    takes-attribute : (a : Axis) (x : List ℕ) → takes_symbol (kinds_of names) (wanted names mark a (NameOf x v)) marked ≡ ((kind_code kind == kind_code kinds.Attribute) && (bytes_eq name x && bytes_eq value v))
    takes-attribute a x =
        ap (λ (b : Bool). takes_symbol (kinds_of names) (if b then Nothing else option_map_or (λ (s : ℕ). Exactly (s + length names * mark v)) (place_from 0 kinds.Attribute x names) Nothing) marked) is-marked
        ∙ takes-exactly x (place_from 0 kinds.Attribute x names) (place-placed kinds.Attribute x 0 names)
        ∙ and_assoc3 (kind_code kind == kind_code kinds.Attribute) (bytes_eq name x) (bytes_eq value v)

  pub takes-passes : (kids : Trees) (a : Axis) (t : Test) → AreMarked mark (literals_of_test t) → takes_symbol (kinds_of names) (wanted names mark a t) marked ≡ passes_test a t (node kind name value kids)
  takes-passes kids a Star h = of-kind (principal a)
  takes-passes kids a (Name n) h = takes-named (principal a) n (place_from 0 (principal a) n names) (place-placed (principal a) n 0 names)
  takes-passes kids a AnyNode h = refl
  takes-passes kids a TextNode h = of-kind kinds.Text
  takes-passes kids a CommentNode h = of-kind kinds.Comment
  takes-passes kids a InstructionNode h = of-kind kinds.Instruction
  takes-passes kids a (TextOf v) h = takes-text v (All-head (λ (u : List ℕ). 0 < mark u) v [] h) a
  takes-passes kids a (NameOf x v) h = takes-attribute v (All-head (λ (u : List ℕ). 0 < mark u) v [] h) a x
