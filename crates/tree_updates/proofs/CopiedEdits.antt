-- A copy of a node is what comes of inserting an equal node before it.
use Rattle.std.proofs.Common.{◌≡◌, ◌≢◌, ℕ, zero, suc, ◌-◌, ◌<◌, List, [], ◌∷◌, refl, ap, sym, ◌∙◌, subst, arith, false, Some, None}
use Rattle.std.specs.Prelude.{MatchOption}
use Rattle.plain_tree.specs.declared.kind.Kind.{Kind}
use Rattle.plain_tree.specs.declared.kind.Kind.TheVariants.{Document, Element, Attribute, Text, Comment, Instruction}
use Rattle.plain_tree.specs.declared.edit.Edit.TheVariants.{Copy, Insert}
use Rattle.plain_tree.specs.Allowed.{IsAllowed, IsAllowedAt, IsSpare, MayStandUnder}
use Rattle.plain_tree.specs.Edits.{alone, before, chained, changed, edited, first_or, made, merged, placed}
use Rattle.plain_tree.specs.Joined.{join_front}
use Rattle.plain_tree.specs.Numbers.{kind_of}
use Rattle.plain_tree.specs.Lawful.{AreKids, AreLawfulTrees, IsDocument, IsFragment}
use Rattle.plain_tree.specs.Places.{Place, place_at, place_in}
use Rattle.plain_tree.specs.Siblings.{from_node}
use Rattle.plain_tree.specs.Tree.{Tree, node, Trees, none, more, trees, node_count, node_count_all}
use Rattle.plain_tree.proofs.Changing.{each-node, changed-inside, changed-later, chained-chained, from-inside, from-later}
use Rattle.plain_tree.proofs.EditedDocuments.{place-from}
use Rattle.plain_tree.proofs.KidLaws.{ends-roots}
use Rattle.plain_tree.proofs.LawfulDocuments.{place-low, stands}
use Rattle.plain_tree.proofs.LawfulEdits.{place-inside, place-later}
use Rattle.plain_tree.proofs.SeamTexts.{text}
use Rattle.plain_tree.proofs.TextsAt.{lawful-from}
use Rattle.tree_updates.specs.Extents.{LeavesDocument}
use Rattle.tree_updates.proofs.ParentKids.{never-none}

-- changes that make the same of the siblings from node n on, however trees are put together
alike : (put : Tree → Trees → Trees) (f g : Trees → Trees) (n : ℕ) (ts : Trees) → n < node_count_all ts → f (from_node n ts) ≡ g (from_node n ts) → changed put f n ts ≡ changed put g n ts
alike put f g = each-node (λ n ts. f (from_node n ts) ≡ g (from_node n ts) → changed put f n ts ≡ changed put g n ts)
    (λ t ts e. e)
    (λ k m v ks ts n h r e.
    changed-inside put f k m v ks ts n h ∙ ap (λ us. more (node k m v us) ts) (r (subst (λ us. f us ≡ g us) (from-inside k m v ks ts n h) e)) ∙ sym (changed-inside put g k m v ks ts n h))
    (λ k m v ks ts d h r e.
    changed-later put f k m v ks ts d ∙ ap (before put d (node k m v ks)) (r (subst (λ us. f us ≡ g us) (from-later k m v ks ts d) e)) ∙ sym (changed-later put g k m v ks ts d))

module _ (t : Tree) (n : ℕ) (low : n < node_count t) (here : Tree) (behind : Trees) (is : from_node n (more t none) ≡ more here behind) where
  made-same : (put : Tree → Trees → Trees) → made put (Copy n) (more t none) ≡ made put (Insert n (here ∷ [])) (more t none)
  made-same put =
      let f : Trees → Trees = λ us. chained put (alone us) us in
      let g : Trees → Trees = chained put (more here none) in
      alike put f g n (more t none) (omega (arith, low)) (ap f is ∙ ap g (sym is))

  pub edited-same : edited t (Copy n) ≡ edited t (Insert n (here ∷ []))
  edited-same = ap (first_or t) (made-same join_front)

  pub placed-same : placed t (Copy n) ≡ placed t (Insert n (here ∷ []))
  placed-same = ap (first_or t) (made-same more)

  pub merged-same : merged t (Copy n) ≡ merged t (Insert n (here ∷ []))
  merged-same = ap (λ u. node_count u - node_count (edited t (Copy n))) placed-same ∙ ap (λ u. node_count (placed t (Insert n (here ∷ []))) - node_count u) edited-same

  pub leaves-same : LeavesDocument t (Copy n) → LeavesDocument t (Insert n (here ∷ []))
  leaves-same l = record { alone = sym (made-same more) ∙ l.alone ∙ ap (λ u. more u none) placed-same; document = subst IsDocument placed-same l.document }

-- what a node stands under has it among its lawful kids
record IsKidOf (p : Place) : Type 0 where
  kind : Kind
  above_is : p.above ≡ Some kind
  kids : AreKids kind (chained more p.before (more p.here p.behind))

one-place : (p q : Place) → Some p ≡ Some q → p ≡ q
one-place p q e = cc

abbrev HasLawfulKids : ℕ → Trees → Type 0
HasLawfulKids n ts = (K : Kind) (before : Trees) → AreKids K (chained more before ts) → AreLawfulTrees ts → (p : Place) → place_in (Some K) before n ts ≡ Some p → IsKidOf p

lawful-kids : (n : ℕ) (ts : Trees) → n < node_count_all ts → HasLawfulKids n ts
lawful-kids = each-node HasLawfulKids
    (λ t ts K before a l p e.
    subst IsKidOf (one-place (record { above = Some K; before = before; here = t; behind = ts }) p e) (record { kind = K; above_is = refl; kids = a }))
    (λ k m v ks ts n h r K before a l p e. r k none l.0.1 l.0.2 p (sym (place-inside (Some K) before k m v ks ts n h) ∙ e))
    (λ k m v ks ts d h r K before a l p e.
    r K (chained more before (more (node k m v ks) none)) (subst (AreKids K) (sym (chained-chained before (more (node k m v ks) none) ts)) a) l.1 p (sym (place-later (Some K) before k m v ks ts d) ∙ e))

-- a text is a kid of an element alone
under-element : (K : Kind) (front : Trees) (z : List ℕ) (us : Trees) → AreKids K (chained more front (more (text z) us)) → K ≡ Element
under-element Element front z us h = refl
under-element Document front z us h = absurd ((ends-roots false front (more (text z) us) h).end)
under-element Attribute front z us h = absurd (never-none front (text z) us (sym h))
under-element Text front z us h = absurd (never-none front (text z) us (sym h))
under-element Comment front z us h = absurd (never-none front (text z) us (sym h))
under-element Instruction front z us h = absurd (never-none front (text z) us (sym h))

pub first-is : (s t : Tree) (us vs : Trees) → more s us ≡ more t vs → s ≡ t
first-is s t us vs e = cc

module _ (t : Tree) (d : IsDocument t) (n : ℕ) (z : List ℕ) (us : Trees) (is : from_node n (more t none) ≡ more (text z) us) where
  kid-of : (p : Place) → place_at t n ≡ Some p → IsSpare p → IsKidOf p
  kid-of p e spare = of t d n e
    where
      no-root : (p : Place) → IsSpare p → p.above ≡ None → ⊥
      no-root p h e = subst (λ o. MatchOption o ⊥ (λ kind. kind ≡ Document → kind_of p.here ≢ Element)) e h

      of : (t : Tree) → IsDocument t → (n : ℕ) → place_at t n ≡ Some p → IsKidOf p
      of t d zero e = absurd (no-root p spare (ap (λ (q : Place). q.above) (sym (one-place (record { above = None; before = none; here = t; behind = none }) p e))))
      of (node k m v ks) d (suc i) e =
          let low = place-low None none (suc i) (more (node k m v ks) none) p e in
          let inside : i < node_count_all ks = omega (arith, low) in
          lawful-kids i ks inside k none d.lawful.1 d.lawful.2 p (sym (place-inside None none k m v ks none i inside) ∙ e)

  -- an equal text may come before a text that may be copied
  pub text-beside : IsAllowed t (Copy n) → IsAllowed t (Insert n (text z ∷ []))
  text-beside allowed =
      let s = stands t (Copy n) allowed in
      let p : Place = s.place in
      let kid = kid-of p s.there s.allowed.1 in
      let here : p.here ≡ text z = first-is p.here (text z) p.behind us (sym (place-from None none n (more t none) p s.there) ∙ is) in
      let element = under-element kid.kind p.before z p.behind (subst (λ r. AreKids kid.kind (chained more p.before (more r p.behind))) here kid.kids) in
      let F : Trees = more (text z) none in
      subst (λ o. MatchOption o ⊥ (IsAllowedAt (Insert n (text z ∷ [])))) (sym s.there)
      (s.allowed.0, subst (λ o. MatchOption o ⊥ (λ K. MayStandUnder K F)) (sym kid.above_is) (subst (λ K. MayStandUnder K F) (sym element) tt))

  pub text-fragment : n < node_count t → IsFragment (trees (text z ∷ []))
  text-fragment low =
      let l = subst AreLawfulTrees is (lawful-from n (more t none) (omega (arith, low)) (d.lawful, tt)) in
      ((λ e. cc), (tt, (l.0, tt)))
