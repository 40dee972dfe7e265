-- The steps of an edit by which texts meet: each makes a document of a document.
use Rattle.std.proofs.Common.{◌≡◌, ◌≢◌, ℕ, suc, ◌+◌, ◌<◌, List, [], ◌∷◌, ◌++◌, false, ap, sym, ◌∙◌, subst, arith, Some, None}
use Rattle.plain_tree.specs.declared.kind.Kind.{Kind}
use Rattle.plain_tree.specs.declared.kind.Kind.TheVariants.{Document, Element, Text}
use Rattle.plain_tree.specs.Joined.{join_front}
use Rattle.plain_tree.specs.Lawful.{AreChars, IsDocument}
use Rattle.plain_tree.specs.Numbers.{kind_of}
use Rattle.plain_tree.specs.Tree.{Tree, node, Trees, none, more, node_count, node_count_all}
use Rattle.plain_tree.specs.Edits.{with_first, with_value, others, made, placed, edited, first_or}
use Rattle.plain_tree.specs.Allowed.{MayHaveValue, IsAllowed, AreLawfulParts}
use Rattle.plain_tree.specs.Places.{place_at}
use Rattle.plain_tree.specs.declared.edit.Edit.{Edit}
use Rattle.plain_tree.specs.declared.edit.Edit.TheVariants.{Copy, Delete, Insert, Value}
use Rattle.plain_tree.proofs.Changing.{from_node, from-changed, from-deeper, from-later, before-stays}
use Rattle.plain_tree.proofs.LawfulEdits.{keeps-others, keeps-valued}
use Rattle.plain_tree.proofs.LawfulDocuments.{BecomesDocument, becomes}
use Rattle.plain_tree.proofs.EditedDocuments.{place-from, edited-becomes}
use Rattle.plain_tree.proofs.SeamTexts.{text, text_before}
use Rattle.plain_tree.proofs.PlainEdits.{copy-text, delete-between, insert-between, valued_at}
use Rattle.plain_tree.proofs.Seams.{HaveLeafTexts}

first-of : (s t : Tree) (us vs : Trees) → more s us ≡ more t vs → s ≡ t
first-of s t us vs e = cc

no-document : (K : Kind) → K ≡ Document → K ≡ Text → ⊥
no-document K e f = let g : Document ≡ Text = sym e ∙ f in absurd cc

no-element : (K : Kind) → K ≡ Text → K ≡ Element → ⊥
no-element K e f = let g : Text ≡ Element = sym e ∙ f in absurd cc

module _ (t : Tree) (d : IsDocument t) (i : ℕ) (low : suc i < node_count t) (x : List ℕ) (us : Trees) (here : from_node (suc i) (more t none) ≡ more (text x) us) where
  -- what stands at the place is the text
  there : (L : Kind) (front : Trees) (s : Tree) (vs : Trees) → place_at t (suc i) ≡ Some (record { above = Some L; before = front; here = s; behind = vs }) → s ≡ text x
  there L front s vs e = first-of s (text x) vs us (sym (place-from None none (suc i) (more t none) (record { above = Some L; before = front; here = s; behind = vs }) e) ∙ here)

  -- a text may get another value, and go
  pub valued-document : (w : List ℕ) → AreChars w → w ≢ [] → BecomesDocument (made more (Value (suc i) w) (more t none))
  valued-document w chars some =
      becomes (with_first (with_value w)) i t d low (λ L front s vs e. keeps-valued w L front s vs (subst (λ r. MayHaveValue w (kind_of r)) (sym (there L front s vs e)) (chars, some)) chars)

  pub deleted-document : BecomesDocument (made more (Delete (suc i)) (more t none))
  deleted-document = becomes others i t d low (λ L front s vs e. keeps-others L front s vs (λ f g. no-element (kind_of s) (ap kind_of (there L front s vs e)) g))

-- an edit by which texts meet is the last of its steps, made of what the steps before it made
pub edited-by : (t r : Tree) (d : IsDocument t) (e last : Edit) → IsAllowed t e → AreLawfulParts e → made join_front e (more t none) ≡ made more last (more r none)
    → BecomesDocument (made more last (more r none)) × (edited t e ≡ placed r last)
edited-by t r d e last allowed parts same =
    let b = edited-becomes t d e allowed parts in
    let c : BecomesDocument (made more last (more r none)) = subst BecomesDocument same b in
    (c, ap (first_or t) b.is ∙ first-of b.tree c.tree none none (sym b.is ∙ same ∙ c.is) ∙ sym (ap (first_or r) c.is))

-- what a step made is its tree alone
pub step-alone : (t : Tree) (e : Edit) → BecomesDocument (made more e (more t none)) → (made more e (more t none) ≡ more (placed t e) none) × IsDocument (placed t e)
step-alone t e b =
    let same : placed t e ≡ b.tree = ap (first_or t) b.is in
    (b.is ∙ ap (λ s. more s none) (sym same), subst IsDocument (sym same) b.document)

-- Two texts meet where a node between them goes: the left gets the value of both, the right goes, and then the node.
module _ (t : Tree) (d : IsDocument t) (i : ℕ) (x y : List ℕ) (k : Kind) (m v : List ℕ) (ks us : Trees)
    (here : from_node (suc i) (more t none) ≡ more (text x) (more (node k m v ks) (more (text y) us))) (low : suc (suc i) < node_count t) where
  w : List ℕ
  w = x ++ y

  abbrev pub V : Trees
  V = valued_at (x ++ y) (suc i) (more t none)

  abbrev right : ℕ
  right = suc (suc i) + suc (node_count_all ks)

  pub low-all : suc i < node_count_all (more t none)
  low-all = omega arith

  valued-is : with_first (with_value (x ++ y)) (from_node (suc i) (more t none)) ≡ more (text (x ++ y)) (more (node k m v ks) (more (text y) us))
  valued-is = ap (with_first (with_value (x ++ y))) here

  -- the right text keeps its number while the left one gets its value
  pub right-there : (suc (suc i) + suc (node_count_all ks) < node_count_all V) × (from_node (suc (suc i) + suc (node_count_all ks)) V ≡ more (text y) us)
  right-there =
      let f : Trees → Trees = with_first (with_value (x ++ y)) in
      let c : ℕ = node_count_all ks in
      let all : Trees = more (text (x ++ y)) (more (node k m v ks) (more (text y) us)) in
      let size : node_count_all (f (from_node (suc i) (more t none))) ≡ node_count_all all = ap node_count_all valued-is in
      let b = before-stays f (suc i) (more t none) low-all in
      let at : from_node (suc i) V ≡ all = from-changed f (suc i) (more t none) low-all (omega (arith, size)) ∙ valued-is in
      let in-V : suc i < node_count_all V = omega (arith, b, size) in
      let z : suc (suc i) + suc c ≡ suc i + suc (suc c) = omega arith in
      let z2 : suc (suc c) ≡ suc (0 + suc c) = omega arith in
      let z3 : suc c ≡ suc (c + 0) = omega arith in (
        omega (arith, b, size),
        ap (λ (j : ℕ). from_node j V) z ∙ from-deeper (suc i) V in-V (suc c) (rw at (omega arith)) ∙ ap (from_node (suc (suc c))) at
            ∙ ap (λ (j : ℕ). from_node j all) z2 ∙ from-later Text [] (x ++ y) none (more (node k m v ks) (more (text y) us)) (suc c)
            ∙ ap (λ (j : ℕ). from_node j (more (node k m v ks) (more (text y) us))) z3 ∙ from-later k m v ks (more (text y) us) 0,
      )

  module _ (chars : AreChars (x ++ y)) (some : (x ++ y) ≢ []) (allowed : IsAllowed t (Delete (suc (suc i)))) where
    pub left-becomes : BecomesDocument (made more (Value (suc i) (x ++ y)) (more t none))
    left-becomes = valued-document t d i (omega arith) x (more (node k m v ks) (more (text y) us)) here (x ++ y) chars some

    abbrev pub t1 : Tree
    t1 = placed t (Value (suc i) (x ++ y))

    pub first-alone : (made more (Value (suc i) (x ++ y)) (more t none) ≡ more t1 none) × IsDocument t1
    first-alone = step-alone t (Value (suc i) (x ++ y)) left-becomes

    pub right-becomes : BecomesDocument (made more (Delete (suc (suc i) + suc (node_count_all ks))) (more t1 none))
    right-becomes =
        let j : ℕ = suc i + suc (node_count_all ks) in
        let z : suc (suc i) + suc (node_count_all ks) ≡ suc j = omega arith in
        let r = right-there in
        let at : from_node (suc j) (more t1 none) ≡ more (text y) us = ap (from_node (suc j)) (sym first-alone.0) ∙ ap (λ (n : ℕ). from_node n V) (sym z) ∙ r.1 in
        let low1 : suc j < node_count t1 = let n = ap node_count_all first-alone.0 in omega (arith, r.0, n) in
        subst (λ (n : ℕ). BecomesDocument (made more (Delete n) (more t1 none))) (sym z) (deleted-document t1 first-alone.1 j low1 y us at)

    abbrev pub t2 : Tree
    t2 = placed t1 (Delete (suc (suc i) + suc (node_count_all ks)))

    pub second-alone : (made more (Delete (suc (suc i) + suc (node_count_all ks))) (more t1 none) ≡ more t2 none) × IsDocument t2
    second-alone = step-alone t1 (Delete (suc (suc i) + suc (node_count_all ks))) right-becomes

    pub delete-by-steps : BecomesDocument (made more (Delete (suc (suc i))) (more t2 none)) × (edited t (Delete (suc (suc i))) ≡ placed t2 (Delete (suc (suc i))))
    delete-by-steps =
        let right-is : made more (Delete (suc (suc i) + suc (node_count_all ks))) (made more (Value (suc i) (x ++ y)) (more t none)) ≡ more t2 none =
        ap (made more (Delete (suc (suc i) + suc (node_count_all ks)))) first-alone.0 ∙ second-alone.0 in
        edited-by t t2 d (Delete (suc (suc i))) (Delete (suc (suc i))) allowed tt
        (delete-between (suc i) (more t none) (omega arith) x k m v ks us y here ∙ ap (made more (Delete (suc (suc i)))) right-is)

module _ (t : Tree) (d : IsDocument t) (e : Edit) (allowed : IsAllowed t e) (parts : AreLawfulParts e) where
  -- an edit that is one plain edit, or two, the first of which leaves a document
  pub one-step : (last : Edit) → made join_front e (more t none) ≡ made more last (more t none) → BecomesDocument (made more last (more t none)) × (edited t e ≡ placed t last)
  one-step last same = edited-by t t d e last allowed parts same

  pub two-steps : (first last : Edit) → BecomesDocument (made more first (more t none)) → made join_front e (more t none) ≡ made more last (made more first (more t none))
      → BecomesDocument (made more last (more (placed t first) none)) × (edited t e ≡ placed (placed t first) last)
  two-steps first last b same = edited-by t (placed t first) d e last allowed parts (same ∙ ap (made more last) (step-alone t first b).0)

-- one text comes between two: the left gets the value of all three, and the right goes
pub insert-by-steps : (t : Tree) (d : IsDocument t) (i : ℕ) (x y z : List ℕ) (us : Trees) → from_node (suc i) (more t none) ≡ more (text x) (more (text z) us) → suc (suc i) < node_count t
    → AreChars (x ++ (y ++ z)) → (x ++ (y ++ z)) ≢ [] → (allowed : IsAllowed t (Insert (suc (suc i)) (text y ∷ []))) → AreLawfulParts (Insert (suc (suc i)) (text y ∷ []))
    → BecomesDocument (made more (Delete (suc (suc i))) (more (placed t (Value (suc i) (x ++ (y ++ z)))) none)) × (edited t (Insert (suc (suc i)) (text y ∷ [])) ≡ placed (placed t (Value (suc i) (x ++ (y ++ z)))) (Delete (suc (suc i))))
insert-by-steps t d i x y z us here low chars some allowed parts =
    let w : List ℕ = x ++ (y ++ z) in
    two-steps t d (Insert (suc (suc i)) (text y ∷ [])) allowed parts (Value (suc i) w) (Delete (suc (suc i))) (valued-document t d i (omega arith) x (more (text z) us) here w chars some)
    (insert-between (suc i) (more t none) (omega arith) x z us here y)

-- a text is copied where none is before it
pub copy-by-step : (t : Tree) (d : IsDocument t) (i : ℕ) (z : List ℕ) (us : Trees) → from_node (suc i) (more t none) ≡ more (text z) us → suc i < node_count t → text_before (from_node i (more t none)) ≡ false → HaveLeafTexts (more t none)
    → IsAllowed t (Copy (suc i)) → edited t (Copy (suc i)) ≡ placed t (Value (suc i) (z ++ z))
copy-by-step t d i z us here low apart leaves allowed =
    (one-step t d (Copy (suc i)) allowed tt (Value (suc i) (z ++ z)) (copy-text i (more t none) (omega arith) leaves apart z us here)).1
