-- A document is a document after an edit, also where texts meet by it.
use Rattle.std.proofs.Common.{◌≡◌, ◌≢◌, ℕ, zero, suc, ◌+◌, ◌-◌, ◌<◌, List, [], ◌∷◌, refl, ap, sym, ◌∙◌, subst, arith, Option, Some, None, inl, inr}
use Rattle.std.proofs.lemmas.Bool.{cases_lt}
use Rattle.plain_tree.specs.declared.kind.Kind.{Kind}
use Rattle.plain_tree.specs.declared.kind.Kind.TheVariants.{Document, Element, Attribute, Text, Comment, Instruction}
use Rattle.plain_tree.specs.Joined.{join_front}
use Rattle.plain_tree.specs.Lawful.{AreLawfulTrees, IsDocument}
use Rattle.plain_tree.specs.Numbers.{kind_of}
use Rattle.plain_tree.specs.Tree.{Tree, node, Trees, none, more, trees, node_count_all}
use Rattle.plain_tree.specs.Edits.{chained, with_first, with_kids, others, alone, made, placed, edited, first_or}
use Rattle.plain_tree.specs.Meetings.{below_at, seams, joined_at_each}
use Rattle.plain_tree.specs.Siblings.{first_kids, joined_first, joined_at}
use Rattle.plain_tree.specs.Allowed.{MayStandUnder, IsAllowed, IsAllowedAt, AreLawfulParts}
use Rattle.plain_tree.specs.Places.{Place, place_in}
use Rattle.plain_tree.specs.declared.edit.Edit.{Edit}
use Rattle.plain_tree.specs.declared.edit.Edit.TheVariants.{Rename, Insert, Append, Delete, Value, Attr, Copy}
use Rattle.plain_tree.proofs.Changing.{from_node, if-below, if-from, before-stays, count-chained, some-node}
use Rattle.plain_tree.proofs.Seams.{HaveLeafTexts, leaf-texts, leaf-from, meets-before, insert-meets, copy-meets, append-meets}
use Rattle.plain_tree.proofs.LawfulDocuments.{BecomesDocument, Stands, stands, place-low, root-place, joined-document, placed-becomes, placed-alone}

-- the siblings from a place on
pub place-from : (above : Option Kind) (before : Trees) (n : ℕ) (ts : Trees) (p : Place) → place_in above before n ts ≡ Some p → from_node n ts ≡ more p.here p.behind
place-from above before n none p e = cc
place-from above before zero (more (node k m v ks) ts) p e = at-front (record { above = above; before = before; here = node k m v ks; behind = ts }) p e
  where
    at-front : (q p : Place) → Some q ≡ Some p → more q.here q.behind ≡ more p.here p.behind
    at-front q p e = let f : q ≡ p = cc in ap (λ (r : Place). more r.here r.behind) f
place-from above before (suc n) (more (node k m v ks) ts) p e =
    let front : Trees = chained more before (more (node k m v ks) none) in
    elim (cases_lt n (node_count_all ks)) [
      | inl low ↦
          if-below n (node_count_all ks) (from_node n ks) (from_node (n - node_count_all ks) ts) low
          ∙ place-from (Some k) none n ks p (sym (if-below n (node_count_all ks) (place_in (Some k) none n ks) (place_in above front (n - node_count_all ks) ts) low) ∙ e)
      | inr high ↦
          if-from n (node_count_all ks) (from_node n ks) (from_node (n - node_count_all ks) ts) high
          ∙ place-from above front (n - node_count_all ks) ts p (sym (if-from n (node_count_all ks) (place_in (Some k) none n ks) (place_in above front (n - node_count_all ks) ts) high) ∙ e)
    ]

some-trees : (F : Trees) → F ≢ none → 0 < node_count_all F
some-trees none h = absurd (h refl)
some-trees (more t ts) h = omega (arith, some-node t)

no-text-under : (k : Kind) (F : Trees) → MayStandUnder k F → k ≡ Text → ⊥
no-text-under Document F h e = absurd (no e)
  where
    no : Document ≡ Text → ⊥
    no f = absurd cc
no-text-under Element F h e = absurd (no e)
  where
    no : Element ≡ Text → ⊥
    no f = absurd cc
no-text-under Attribute F h e = absurd h
no-text-under Text F h e = absurd h
no-text-under Comment F h e = absurd h
no-text-under Instruction F h e = absurd h

-- each of the nodes is there when it is joined
abbrev pub AreWithin : List ℕ → Trees → Type 0
AreWithin [] ts = Unit {0}
AreWithin (n ∷ ns) ts = (n < node_count_all ts) × AreWithin ns (joined_at n ts)

joins-become : (ns : List ℕ) (ts : Trees) → AreWithin ns ts → BecomesDocument ts → BecomesDocument (joined_at_each ns ts)
joins-become [] ts w b = b
joins-become (n ∷ ns) ts w b = joins-become ns (joined_at n ts) w.1 (joined-document ts n b w.0)

-- trees that come of others by joining the texts at these nodes
abbrev pub ComesByJoins : List ℕ → Trees → Trees → Type 0
ComesByJoins ns ts us = AreWithin ns ts × (us ≡ joined_at_each ns ts)

one-join : (n m : ℕ) (ts us : Trees) → n ≡ m → n < node_count_all ts → us ≡ joined_at n ts → ComesByJoins (m ∷ []) ts us
one-join n m ts us same low is = subst (λ (i : ℕ). ComesByJoins (i ∷ []) ts us) same ((low, tt), is)

two-joins : (n m a b : ℕ) (ts us : Trees) → n ≡ a → m ≡ b → n < node_count_all ts → m < node_count_all (joined_at n ts) → us ≡ joined_at m (joined_at n ts) → ComesByJoins (a ∷ b ∷ []) ts us
two-joins n m a b ts us first second low in-first is =
    subst (λ (i : ℕ). ComesByJoins (i ∷ b ∷ []) ts us) first (subst (λ (i : ℕ). ComesByJoins (n ∷ i ∷ []) ts us) second ((low, (in-first, tt)), is))

module _ (t : Tree) (d : IsDocument t) where
  all-lawful : AreLawfulTrees (more t none)
  all-lawful = (d.lawful, tt)

  leaves : HaveLeafTexts (more t none)
  leaves = leaf-texts (more t none) all-lawful

  -- what an edit makes comes, of what it makes but for texts that meet, by joining those
  pub edited-joins : (e : Edit) → IsAllowed t e → AreLawfulParts e → ComesByJoins (seams t e) (made more e (more t none)) (made join_front e (more t none))
  edited-joins e allowed parts = of e (stands t e allowed) parts
    where
      of : (e : Edit) → Stands t e → AreLawfulParts e → ComesByJoins (seams t e) (made more e (more t none)) (made join_front e (more t none))
      of (Rename n x) s parts = (tt, refl)
      of (Value n w) s parts = (tt, refl)
      of (Attr n x w) s parts = (tt, refl)
      of (Delete zero) s parts = absurd (subst (IsAllowedAt (Delete zero)) (root-place t d s.place s.there) s.allowed)
      of (Delete (suc i)) s parts =
          let low : suc i < node_count_all (more t none) = place-low None none (suc i) (more t none) s.place s.there in
          let stays = before-stays others (suc i) (more t none) low in
          let X : Trees = made more (Delete (suc i)) (more t none) in
          one-join i (suc i - 1) X (made join_front (Delete (suc i)) (more t none)) (omega arith) (omega (arith, stays)) (meets-before others i (more t none) low leaves)
      of (Insert zero F) s parts = absurd ((subst (IsAllowedAt (Insert zero F)) (root-place t d s.place s.there) s.allowed).1)
      of (Insert (suc i) F) s parts =
          let low : suc i < node_count_all (more t none) = place-low None none (suc i) (more t none) s.place s.there in
          let some : 0 < node_count_all (trees F) = some-trees (trees F) parts.0 in
          let c : ℕ = node_count_all (trees F) - 1 in
          let X : Trees = made more (Insert (suc i) F) (more t none) in
          let in-X : suc i + c < node_count_all X = omega (arith, before-stays (chained more (trees F)) (suc i) (more t none) low, count-chained (trees F) (from_node (suc i) (more t none)), some) in
          let Y : Trees = joined_at (suc i + c) X in
          let in-Y : i < node_count_all Y = omega (arith, before-stays joined_first (suc i + c) X in-X) in
          two-joins (suc i + c) i (suc i + (node_count_all (trees F) - 1)) (suc i - 1) X (made join_front (Insert (suc i) F) (more t none)) refl (omega arith) in-X in-Y
          (insert-meets (trees F) c i (more t none) (omega (arith, some)) low (leaf-texts (trees F) parts.1.1) leaves)
      of (Copy zero) s parts = absurd ((subst (IsAllowedAt (Copy zero)) (root-place t d s.place s.there) s.allowed).1)
      of (Copy (suc i)) s parts =
          let low : suc i < node_count_all (more t none) = place-low None none (suc i) (more t none) s.place s.there in
          copy-there s.place.here (place-from None none (suc i) (more t none) s.place s.there) low
        where
          copy-there : (r : Tree) → from_node (suc i) (more t none) ≡ more r s.place.behind → suc i < node_count_all (more t none) → ComesByJoins (seams t (Copy (suc i))) (made more (Copy (suc i)) (more t none)) (made join_front (Copy (suc i)) (more t none))
          copy-there (node k m v ks) here low =
              let below : below_at t (suc i) ≡ node_count_all ks = ap (λ us. node_count_all (first_kids us)) here in
              let l : HaveLeafTexts (more (node k m v ks) s.place.behind) = subst HaveLeafTexts here (leaf-from (suc i) (more t none) low leaves) in
              let g : Trees → Trees = λ us. chained more (alone us) us in
              let c : ℕ = node_count_all ks in
              let X : Trees = made more (Copy (suc i)) (more t none) in
              let size : node_count_all (g (from_node (suc i) (more t none))) ≡ node_count_all (more (node k m v ks) (more (node k m v ks) s.place.behind)) = ap (λ us. node_count_all (g us)) here in
              let in-X : suc i + c < node_count_all X = omega (arith, before-stays g (suc i) (more t none) low, size) in
              let Y : Trees = joined_at (suc i + c) X in
              let in-Y : i < node_count_all Y = omega (arith, before-stays joined_first (suc i + c) X in-X) in
              two-joins (suc i + c) i (suc i + below_at t (suc i)) (suc i - 1) X (made join_front (Copy (suc i)) (more t none)) (omega (arith, below)) (omega arith) in-X in-Y
              (copy-meets k m v ks s.place.behind i (more t none) low here l.0 l.1 leaves)
      of (Append n F) s parts = append-there s.place.here (place-from None none n (more t none) s.place s.there) (place-low None none n (more t none) s.place s.there) s.allowed
        where
          append-there : (r : Tree) → from_node n (more t none) ≡ more r s.place.behind → n < node_count_all (more t none) → MayStandUnder (kind_of r) (trees F) → ComesByJoins (seams t (Append n F)) (made more (Append n F) (more t none)) (made join_front (Append n F) (more t none))
          append-there (node k m v ks) here low may =
              let below : below_at t n ≡ node_count_all ks = ap (λ us. node_count_all (first_kids us)) here in
              let l : HaveLeafTexts (more (node k m v ks) s.place.behind) = subst HaveLeafTexts here (leaf-from n (more t none) low leaves) in
              let g : Trees → Trees = with_first (with_kids (λ kids. chained more kids (trees F))) in
              let X : Trees = made more (Append n F) (more t none) in
              let size : node_count_all (g (from_node n (more t none))) ≡ node_count_all (more (node k m v (chained more ks (trees F))) s.place.behind) = ap (λ us. node_count_all (g us)) here in
              let in-X : n + node_count_all ks < node_count_all X = omega (arith, before-stays g n (more t none) low, size, count-chained ks (trees F)) in
              one-join (n + node_count_all ks) (n + below_at t n) X (made join_front (Append n F) (more t none)) (omega (arith, below)) in-X
              (append-meets (trees F) k m v ks s.place.behind n (more t none) low here (no-text-under k (trees F) may) l.1)

  pub edited-becomes : (e : Edit) → IsAllowed t e → AreLawfulParts e → BecomesDocument (made join_front e (more t none))
  edited-becomes e allowed parts =
      let j = edited-joins e allowed parts in
      subst BecomesDocument (sym j.1) (joins-become (seams t e) (made more e (more t none)) j.0 (placed-becomes t d e allowed parts))

  -- the document after an edit that is allowed
  pub edited-alone : (e : Edit) → IsAllowed t e → AreLawfulParts e → (made join_front e (more t none) ≡ more (edited t e) none) × IsDocument (edited t e)
  edited-alone e allowed parts =
      let b = edited-becomes e allowed parts in
      let same : edited t e ≡ b.tree = ap (first_or t) b.is in
      (b.is ∙ ap (λ s. more s none) (sym same), subst IsDocument (sym same) b.document)

  -- of the document with the edit but for texts that meet
  pub edited-at-seams : (e : Edit) → IsAllowed t e → AreLawfulParts e → more (edited t e) none ≡ joined_at_each (seams t e) (more (placed t e) none)
  edited-at-seams e allowed parts =
      sym (edited-alone e allowed parts).0 ∙ (edited-joins e allowed parts).1 ∙ ap (joined_at_each (seams t e)) (placed-alone t d e allowed parts).0
