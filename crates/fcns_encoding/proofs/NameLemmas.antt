-- The names of what was begun.
use Rattle.std.proofs.Common.{◌≡◌, ℕ, List, [], ◌∷◌, ◌++◌, length, Some, slice_get, refl, ap, sym, subst, inl, inr, arith}
use Rattle.plain_tree.specs.declared.kind.Kind.TheVariants as kind
use Rattle.xml_nodes.specs.Machine.{Event}
use Rattle.fcns_encoding.specs.Calls.{begun_pairs, started_pairs}
use Rattle.fcns_encoding.specs.Interning.{Pair, Interns}
use Rattle.fcns_encoding.proofs.InternLemmas.{Interns-keeps}

has : (p : Pair) (ps new : List Pair) → Interns [] (p ∷ ps) new → (i : ℕ) × (slice_get new i ≡ Some p)
has p ps new h =
    elim h [
      | inl w ↦ (w.0.0, Interns-keeps [] ps new w.1 w.0.0 p w.0.1)
      | inr w ↦ (0, Interns-keeps ([] ++ p ∷ []) ps new w.1 0 p refl)
    ]

empty : (xs : List Pair) (i : ℕ) (p : Pair) → length xs ≡ 0 → slice_get xs i ≡ Some p → ⊥
empty [] i p e h = cc
empty (x ∷ xs) i p e h = omega (arith, e)

-- where there were no names, the document's pair comes first
pub started_first : (log : List Event) (old new : List Pair) → length old ≡ 0 → Interns old ((kind.Document, []) ∷ []) new → Interns [] (begun_pairs log) old → Interns [] (started_pairs log) new
started_first [] old new e i h = subst (λ o. Interns o ((kind.Document, []) ∷ []) new) h i
started_first (f ∷ es) old new e i h = let w = has (kind.Document, []) _ old h in absurd (empty old w.0 (kind.Document, []) e w.1)

-- where there are names, it is there
pub started_already : (log : List Event) (names : List Pair) → (length names ≡ 0 → ⊥) → Interns [] (begun_pairs log) names → Interns [] (started_pairs log) names
started_already [] names some h = absurd (some (ap length h))
started_already (f ∷ es) names some h = h

pub keeps_both : (a b c : List Pair) (p : Pair) → ((i : ℕ) (q : Pair) → slice_get a i ≡ Some q → slice_get b i ≡ Some q) → Interns b (p ∷ []) c → (i : ℕ) (q : Pair) → slice_get a i ≡ Some q → slice_get c i ≡ Some q
keeps_both a b c p k h i q e = Interns-keeps b (p ∷ []) c h i q (k i q e)

-- some pairs came, and then others
split : (old new : List Pair) (ps qs : List Pair) → Interns old (ps ++ qs) new → (mid : List Pair) × Interns old ps mid × Interns mid qs new
split old new [] qs h = (old, refl, h)
split old new (p ∷ ps) qs h =
    elim h [
      | inl w ↦ let s = split old new ps qs w.1 in (s.0, inl (w.0, s.1), s.2)
      | inr w ↦ let s = split (old ++ p ∷ []) new ps qs w.1 in (s.0, inr (w.0, s.1), s.2)
    ]

-- the document's pair changes nothing when it comes again
pub document_again : (log : List Event) (new : List Pair) → Interns [] (started_pairs log ++ (kind.Document, []) ∷ []) new → Interns [] (started_pairs log) new
document_again log new h =
    let s = split [] new (started_pairs log) ((kind.Document, []) ∷ []) h in
    elim s.2 [
      | inl w ↦ subst (λ ns. Interns [] (started_pairs log) ns) (sym w.1) s.1
      | inr w ↦ absurd (w.0 (has (kind.Document, []) _ s.0 s.1))
    ]
