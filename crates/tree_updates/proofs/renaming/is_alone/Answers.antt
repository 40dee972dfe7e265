use Rattle.std.proofs.Common.{◌≡◌, ◌≢◌, ℕ, Bool, true, false, Option, Some, ap, sym, ◌∙◌, subst, refl}
use Rattle.std.specs.Prelude.{IfNone, not, slice_get}
use Rattle.plain_tree.specs.Siblings.{first_kids, from_node}
use Rattle.plain_tree.specs.Tree.{none, more}
use Rattle.plain_tree.specs.declared.kind.Kind.TheVariants.{Attribute}
use Rattle.tree_updates.proofs.AloneNames.{allowed-free, free-allowed, own-allowed, parent-low, parent-other, unnamed-allowed}
use Rattle.tree_updates.proofs.AttributeNumbers.{place-has}
use Rattle.tree_updates.proofs.renaming.is_alone.Goals as goal

not-true : (b : Bool) → not b ≡ true → b ≡ false
not-true true e = cc
not-true false e = refl

pub returns-in_default-clause-allowed : goal.returns-in_default-clause-allowed
returns-in_default-clause-allowed g c = λ t i told.
    let s = c.args.store.now in
    let x = c.args.name.now in
    let unnamed = subst (λ (o : Option ℕ). IfNone o ((j : ℕ) → slice_get s.names j ≢ Some (Attribute, x))) c.in_default.is c.find.ensures.none in
    (λ _. unnamed-allowed s t i c.args.number told c.args.spot.now c.requires.spot x unnamed, λ _. refl)

pub returns-then-symbol-clause-allowed : goal.returns-then-symbol-clause-allowed
returns-then-symbol-clause-allowed g c = λ t i told.
    (λ _. own-allowed c.args.store.now t i c.args.number told c.args.spot.now c.requires.spot c.args.name.now c.in-Some.symbol c.in-Some.ensures.some (sym c.symbol.ensures ∙ c.if-symbol.true), λ _. refl)

pub find_attribute-requires-clause-store : goal.find_attribute-requires-clause-store
find_attribute-requires-clause-store g c =
    let s = c.args.store.now in
    let r = c.requires.store in
    let element : ℕ = c.in_ok-element.element in
    let parent = c.in_ok-element.ensures.parent r.0 r.1 r.2 in
    (r.0, r.1, parent-low s r.0 r.1 c.args.number r.2 c.args.spot.now c.requires.spot element parent, parent-other s r.0 r.1 c.args.number r.2 c.args.spot.now c.requires.spot element parent)

pub returns-clause-allowed : goal.returns-clause-allowed
returns-clause-allowed g c = λ t i told.
    let s = c.args.store.now in
    let x = c.args.name.now in
    let has : Bool = c.in_ok-place.place.found in
    let element : ℕ = c.in_ok-element.element in
    let pair = c.in-Some.ensures.some in
    let parent = c.in_ok-element.ensures.parent t i told in
    let apart = λ (e : c.args.spot.now.symbol ≡ c.in-Some.symbol). c.if-symbol.false (c.symbol.ensures ∙ e) in
    let other = parent-other s t i c.args.number told c.args.spot.now c.requires.spot element parent in
    let tells = place-has x (first_kids (from_node element (more t none))) c.in_ok-place.place (c.in_ok-place.ensures.place t i other) in (
      λ h. free-allowed s t i c.args.number told c.args.spot.now c.requires.spot x c.in-Some.symbol pair apart element parent has tells (not-true has h),
      λ a. ap not (allowed-free s t i c.args.number told c.args.spot.now c.requires.spot x c.in-Some.symbol pair apart element parent has tells a),
    )
