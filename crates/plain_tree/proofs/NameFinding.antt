-- Look-ups and additions in a table that agrees with its maps.
use Rattle.std.proofs.Common.{◌≡◌, ◌≢◌, ℕ, List, refl, sym}
use Rattle.std.specs.Prelude.{Option, Some, None, IfSome, IfNone, slice_get}
use Rattle.plain_tree.specs.declared.kind.Kind.{Kind}
use Rattle.plain_tree.specs.NamePlaces.{place_of}
use Rattle.plain_tree.specs.NameTable.{Agrees, AreDistinct}

module _ (pairs : List (Kind × List ℕ)) (places : Kind → List (List ℕ × ℕ)) (agrees : Agrees pairs places) where
  pub found_some : (kind : Kind) (name : List ℕ) (o : Option ℕ) → o ≡ place_of name (places kind) → IfSome o (λ i. slice_get pairs i ≡ Some (kind, name))
  found_some kind name None e = tt
  found_some kind name (Some i) e = agrees.found kind name i (sym e)

  pub found_none : (kind : Kind) (name : List ℕ) (o : Option ℕ) → o ≡ place_of name (places kind) → IfNone o ((i : ℕ) → slice_get pairs i ≢ Some (kind, name))
  found_none kind name (Some i) e = tt
  found_none kind name None e = λ i at. let there = agrees.placed kind name i at in cc

  pub distinct : AreDistinct pairs
  distinct kind name i j p q =
      let a = agrees.placed kind name i p in
      let b = agrees.placed kind name j q in
      cc

  -- a pair that is nowhere has no place
  pub no_place : (kind : Kind) (name : List ℕ) → ((i : ℕ) → slice_get pairs i ≢ Some (kind, name)) → place_of name (places kind) ≡ None
  no_place kind name absent = by (place_of name (places kind)) refl where
    by : (o : Option ℕ) → place_of name (places kind) ≡ o → place_of name (places kind) ≡ None
    by None e = e
    by (Some i) e = absurd (absent i (agrees.found kind name i e))
