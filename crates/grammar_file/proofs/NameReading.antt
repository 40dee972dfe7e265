-- The names that are read.
use Rattle.std.proofs.Common.{◌≡◌, ◌≢◌, ℕ, zero, suc, ◌+◌, ◌<◌, List, [], ◌∷◌, ◌++◌, length, Some, None, slice_get, refl, sym, ap, ◌∙◌, subst, arith, length-append}
use Rattle.std.specs.List.{flat_map}
use Rattle.std.specs.Option.{is_some}
use Rattle.std.specs.Prelude.{Option, IfSome, IfNone, true, false}
use Rattle.plain_tree.specs.declared.kind.Kind.{Kind}
use Rattle.plain_tree.specs.Lawful.{IsLawfulName}
use Rattle.plain_tree.specs.Tree.{kind_code}
use Rattle.grammar_file.specs.FileBytes.{name_bytes, text_bytes}
use Rattle.grammar_file.specs.Files.{AreNames}
use Rattle.grammar_file.specs.Reading.{BeginsNone}
use Rattle.grammar_file.proofs.Reading.{IsReading, Counted, reading_begins, reading_goes, reading_fails}
use Rattle.grammar_file.proofs.Unique.{name-unique}

abbrev pub Pair : Type 0
Pair = Kind × List ℕ

-- ---- places in a list of pairs
at-front : (ps : List Pair) (p : Pair) (qs : List Pair) (i : ℕ) (q : Pair) → slice_get ps i ≡ Some q → slice_get (ps ++ p ∷ qs) i ≡ Some q
at-front [] p qs i q e = cc
at-front (r ∷ ps) p qs zero q e = e
at-front (r ∷ ps) p qs (suc i) q e = at-front ps p qs i q e

at-middle : (ps : List Pair) (p : Pair) (qs : List Pair) → slice_get (ps ++ p ∷ qs) (length ps) ≡ Some p
at-middle [] p qs = refl
at-middle (r ∷ ps) p qs = at-middle ps p qs

within : (ps : List Pair) (i : ℕ) (q : Pair) → slice_get ps i ≡ Some q → i < length ps
within [] i q e = cc
within (r ∷ ps) zero q e = omega arith
within (r ∷ ps) (suc i) q e = omega (arith, within ps i q e)

-- a place in a list with one pair more
data AtPlace (ps : List Pair) (p : Pair) (i : ℕ) (q : Pair) : Type 0 where
  InFront : slice_get ps i ≡ Some q → AtPlace ps p i q
  AtEnd : i ≡ length ps → p ≡ q → AtPlace ps p i q

at-place : (ps : List Pair) (p : Pair) (i : ℕ) (q : Pair) → slice_get (ps ++ p ∷ []) i ≡ Some q → AtPlace ps p i q
at-place [] p zero q e = AtEnd refl cc
at-place [] p (suc i) q e = cc
at-place (r ∷ ps) p zero q e = InFront e
at-place (r ∷ ps) p (suc i) q e = elim (at-place ps p i q e) [ InFront f ↦ InFront f | AtEnd n f ↦ AtEnd (ap suc n) f ]

abbrev pub IsAbsent : Pair → List Pair → Type 0
IsAbsent p ps = (i : ℕ) → slice_get ps i ≢ Some p

names-more : (names : List Pair) (kind : Kind) (name : List ℕ) → AreNames names → IsLawfulName kind name → IsAbsent (kind, name) names → AreNames (names ++ (kind, name) ∷ [])
names-more names kind name h lawful absent = record {
  distinct = λ k n i j e f. elim (at-place names (kind, name) i (k, n) e) [
    | InFront a ↦ elim (at-place names (kind, name) j (k, n) f) [ InFront b ↦ h.distinct k n i j a b | AtEnd at is ↦ absurd (absent i (a ∙ ap Some (sym is))) ]
    | AtEnd at is ↦ elim (at-place names (kind, name) j (k, n) f) [ InFront b ↦ absurd (absent j (b ∙ ap Some (sym is))) | AtEnd to also ↦ at ∙ sym to ]
  ];
  lawful = λ i k n e. elim (at-place names (kind, name) i (k, n) e) [
    | InFront a ↦ h.lawful i k n a
    | AtEnd at is ↦ subst (λ (p : Pair). IsLawfulName p.0 p.1) is lawful
  ];
}

pub record IsReadingNames (count : ℕ) (start : List ℕ) (names : List Pair) (counter : ℕ) (left : List ℕ) : Type 0 where
  pub reading : IsReading (Counted AreNames count) name_bytes start names left
  pub lawful : AreNames names
  pub counted : length names ≡ counter

module _ (count : ℕ) (start : List ℕ) where
  pub names_begin : IsReadingNames count start [] 0 start
  names_begin = record {
    reading = reading_begins (Counted AreNames count) name_bytes start;
    lawful = record { distinct = λ k n i j e f. cc; lawful = λ i k n e. cc };
    counted = refl;
  }

  module _ (names : List Pair) (counter : ℕ) (left : List ℕ) (h : IsReadingNames count start names counter left) (more_to_come : counter < count) where
    ends-not : Counted AreNames count names → ⊥
    ends-not s = omega (arith, s.1, h.counted)

    pub names_go : (new : List ℕ) (kind : Kind) (name : List ℕ) → IsLawfulName kind name → left ≡ name_bytes (kind, name) ++ new → IsAbsent (kind, name) names
        → IsReadingNames count start (names ++ (kind, name) ∷ []) (counter + 1) new
    names_go new kind name lawful e absent = record {
      reading = reading_goes (Counted AreNames count) name_bytes start names left new (kind, name) h.reading e ends-not (λ y rest more s is. name-unique (kind, name) y new more is);
      lawful = names-more names kind name h.lawful lawful absent;
      counted = omega (arith, length-append names ((kind, name) ∷ []), h.counted);
    }

    -- no lawful name comes next
    pub names_break : BeginsNone (λ (p : Pair). IsLawfulName p.0 p.1) name_bytes left → BeginsNone (Counted AreNames count) (flat_map name_bytes) start
    names_break bad =
        reading_fails (Counted AreNames count) name_bytes start names left (λ (p : Pair). IsLawfulName p.0 p.1) h.reading ends-not
        (λ (kind, name) rest s. s.0.lawful (length names) kind name (at-middle names (kind, name) rest)) bad

    -- the pair that comes next was there
    pub names_repeat : (new : List ℕ) (kind : Kind) (name : List ℕ) (found : Option ℕ) → left ≡ name_bytes (kind, name) ++ new → true ≡ is_some found
        → IfSome found (λ i. slice_get names i ≡ Some (kind, name)) → BeginsNone (Counted AreNames count) (flat_map name_bytes) start
    names_repeat new kind name None e some there = cc
    names_repeat new kind name (Some i) e some there =
        reading_fails (Counted AreNames count) name_bytes start names left (λ p. p ≡ (kind, name) → ⊥) h.reading ends-not
        (λ p rest s is.
        let first = at-front names p rest i (kind, name) there in
        let second = at-middle names p rest ∙ ap Some is in
        omega (arith, within names i (kind, name) there, s.0.distinct kind name i (length names) first second))
        (λ p more other is. other (name-unique p (kind, name) more new (sym is ∙ e)).0)

pub is_absent : (names : List Pair) (kind : Kind) (name : List ℕ) (found : Option ℕ) → false ≡ is_some found → IfNone found ((i : ℕ) → slice_get names i ≢ Some (kind, name)) → IsAbsent (kind, name) names
is_absent names kind name None none h = h
is_absent names kind name (Some i) none h = cc

-- ---- one name
pub name_some : (p : Pair) → 0 < length (name_bytes p)
name_some (kind, name) = omega arith

-- the name is not lawful for its kind
pub name_is_lawless : (old behind new : List ℕ) (kind : Kind) (name : List ℕ) → old ≡ kind_code kind ∷ behind → behind ≡ text_bytes name ++ new → (IsLawfulName kind name → ⊥)
    → BeginsNone (λ (p : Pair). IsLawfulName p.0 p.1) name_bytes old
name_is_lawless old behind new kind name is follows lawless (other, word) more lawful e =
    let front : old ≡ name_bytes (kind, name) ++ new = is ∙ ap (λ z. kind_code kind ∷ z) follows in
    let told = name-unique (kind, name) (other, word) new more (sym front ∙ e) in
    lawless (subst (λ (p : Pair). IsLawfulName p.0 p.1) (sym told.0) lawful)
