-- A node that goes from between two texts: the left one gets the value of both, the right one goes, and then the node.
use Rattle.std.proofs.Common.{◌≡◌, ◌≢◌, ℕ, zero, suc, ◌+◌, ◌-◌, ◌<◌, List, [], ◌∷◌, ◌++◌, refl, ap, sym, ◌∙◌, subst, arith, None, Some}
use Rattle.std.specs.Prelude.{slice_set}
use Rattle.plain_tree.specs.declared.kind.Kind.{Kind}
use Rattle.plain_tree.specs.declared.kind.Kind.TheVariants.{Text}
use Rattle.plain_tree.specs.declared.edit.Edit.TheVariants.{Delete, Value}
use Rattle.plain_tree.specs.Allowed.{IsAllowed}
use Rattle.plain_tree.specs.Edits.{edited, made, merged, placed}
use Rattle.plain_tree.specs.Lawful.{AreChars, AreLawfulTrees}
use Rattle.plain_tree.specs.Siblings.{from_node}
use Rattle.plain_tree.specs.Tree.{Tree, node, Trees, none, more, node_count, node_count_all}
use Rattle.plain_tree.proofs.Changing.{from-deeper, from-later}
use Rattle.plain_tree.proofs.EditCounts.{count-deleted, count-valued, merged-counts}
use Rattle.plain_tree.proofs.EditSteps.{delete-by-steps, first-alone, right-there, second-alone, step-alone, t1, t2}
use Rattle.plain_tree.proofs.LawfulDocuments.{placed-alone, place-low, stands}
use Rattle.plain_tree.proofs.LawfulEdits.{more-chars}
use Rattle.plain_tree.proofs.SeamTexts.{text}
use Rattle.plain_tree.proofs.TextsAt.{lawful-from}
use Rattle.slt_grammar.specs.Standing.{StandsFor}
use Rattle.slt_grammar.specs.declared.rules.Rule.{Rule}
use Rattle.preorder_address.specs.TreeNumbers.{text_rank_at}
use Rattle.tree_updates.specs.Extents.{IsExtentOf, LeavesDocument, StandsBetween}
use Rattle.tree_updates.specs.declared.node_extent.Extent.{Extent}
use Rattle.tree_updates.proofs.DeletedStore.{first-stands, node-here, node-rank}
use Rattle.tree_updates.proofs.RankedValues.{rank-valued}
use Rattle.tree_updates.proofs.Ranks.{rank-told}
use Rattle.tree_updates.proofs.StoreSteps.{low-at}
use Rattle.tree_updates.proofs.Texts.{rank_in}

-- the texts before and behind the node
pub record AreTexts (t : Tree) (n right : ℕ) (b : StandsBetween t n right) : Type 0 where
  pub behind : 0 < n
  pub right_is : from_node right (more t none) ≡ more (text b.after) b.behind

module _ (t : Tree) (x y : List ℕ) (us : Trees) where
  none-first : (h : Tree) → more t none ≡ more (text x) (more h (more (text y) us)) → ⊥
  none-first h e = cc

  right-text : (a right : ℕ) (here : Tree) → from_node a (more t none) ≡ more (text x) (more here (more (text y) us)) → right ≡ suc a + node_count here → from_node right (more t none) ≡ more (text y) us
  right-text a right (node k m v ks) e r =
      let c : ℕ = node_count_all ks in
      let all : Trees = more (text x) (more (node k m v ks) (more (text y) us)) in
      let low = low-at a (more t none) Text [] x none (more (node k m v ks) (more (text y) us)) e in
      let z : right ≡ a + suc (suc c) = omega (arith, r) in
      let z2 : suc (suc c) ≡ suc (0 + suc c) = omega arith in
      let z3 : suc c ≡ suc (c + 0) = omega arith in
      ap (λ (j : ℕ). from_node j (more t none)) z ∙ from-deeper a (more t none) low (suc c) (rw e (omega arith)) ∙ ap (from_node (suc (suc c))) e
      ∙ ap (λ (j : ℕ). from_node j all) z2 ∙ from-later Text [] x none (more (node k m v ks) (more (text y) us)) (suc c)
      ∙ ap (λ (j : ℕ). from_node j (more (node k m v ks) (more (text y) us))) z3 ∙ from-later k m v ks (more (text y) us) 0

pub between-texts : (t : Tree) (n right : ℕ) (b : StandsBetween t n right) → AreTexts t n right b
between-texts t zero right b =
    let z : 0 - 1 ≡ 0 = omega arith in
    absurd (none-first t b.before b.after b.behind b.here (sym (ap (λ (j : ℕ). from_node j (more t none)) z) ∙ b.from_is))
between-texts t (suc a) right b =
    let z : suc a - 1 ≡ a = omega arith in
    record { behind = omega arith; right_is = right-text t b.before b.after b.behind a right b.here (sym (ap (λ (j : ℕ). from_node j (more t none)) z) ∙ b.from_is) b.right_is }

-- the document once the left text has the value of both, and then without the right one
abbrev pub valued_left : Tree → ℕ → List ℕ → Tree
valued_left t a w = placed t (Value a w)

abbrev pub without_right : Tree → ℕ → ℕ → List ℕ → Tree
without_right t a right w = placed (placed t (Value a w)) (Delete right)

-- each step leaves a document with no more nodes, and the last one the edited document
pub record AreSteps (G : List Rule) (names : List (Kind × List ℕ)) (values : List (List ℕ)) (t : Tree) (a n right : ℕ) (w : List ℕ) : Type 0 where
  pub left_stands : StandsFor G names (slice_set values (rank_in a (more t none)) w) (valued_left t a w)
  pub left_low : a < node_count t
  pub low : n < node_count t
  pub left_count : node_count (valued_left t a w) ≡ node_count t
  pub right_leaves : LeavesDocument (valued_left t a w) (Delete right)
  pub right_low : right < node_count (valued_left t a w)
  pub right_extent : (rank : ℕ) → Some rank ≡ text_rank_at t right → IsExtentOf (valued_left t a w) right (record { nodes = 1; rank = rank; texts = 1 })
  pub node_leaves : LeavesDocument (without_right t a right w) (Delete n)
  pub node_low : n < node_count (without_right t a right w)
  pub node_extent : (e : Extent) → IsExtentOf t n e → IsExtentOf (without_right t a right w) n e
  pub edited_is : edited t (Delete n) ≡ placed (without_right t a right w) (Delete n)
  pub one_merged : merged t (Delete n) ≡ 1

first-same : (s r : Tree) (us vs : Trees) → more s us ≡ more r vs → s ≡ r
first-same s r us vs e = cc

some-and : (x y : List ℕ) → x ≢ [] → (x ++ y) ≢ []
some-and [] y h = absurd (h refl)
some-and (c ∷ x) y h = λ e. cc

module _ (G : List Rule) (names : List (Kind × List ℕ)) (values : List (List ℕ)) (t : Tree) (s : StandsFor G names values t) (i : ℕ) (x y : List ℕ) (k : Kind) (m v : List ℕ) (ks us : Trees)
    (here : from_node (suc i) (more t none) ≡ more (text x) (more (node k m v ks) (more (text y) us))) (allowed : IsAllowed t (Delete (suc (suc i)))) where
  low : suc (suc i) < node_count t
  low = let p = stands t (Delete (suc (suc i))) allowed in let h = place-low None none (suc (suc i)) (more t none) p.place p.there in omega (arith, h)

  lawful : AreLawfulTrees (more (text x) (more (node k m v ks) (more (text y) us)))
  lawful = let h = low in subst AreLawfulTrees here (lawful-from (suc i) (more t none) (omega (arith, h)) (s.document.lawful, tt))

  chars : AreChars (x ++ y)
  chars = more-chars x y lawful.0.0.1.0 lawful.1.1.0.0.1.0

  some : (x ++ y) ≢ []
  some = some-and x y lawful.0.0.1.1

  abbrev right : ℕ
  right = suc (suc i) + suc (node_count_all ks)

  there : from_node (suc (suc i)) (more t none) ≡ more (node k m v ks) (more (text y) us)
  there =
      let z : suc i + 1 ≡ suc (suc i) = omega arith in
      let h = low in
      let all : Trees = more (text x) (more (node k m v ks) (more (text y) us)) in
      ap (λ (j : ℕ). from_node j (more t none)) (sym z) ∙ from-deeper (suc i) (more t none) (omega (arith, h)) 0 (rw here (omega arith)) ∙ ap (from_node 1) here ∙ second
    where
      second : from_node 1 (more (text x) (more (node k m v ks) (more (text y) us))) ≡ more (node k m v ks) (more (text y) us)
      second = refl

  one-alone : made more (Value (suc i) (x ++ y)) (more t none) ≡ more (t1 t s.document i x y k m v ks us here low chars some allowed) none
  one-alone = (first-alone t s.document i x y k m v ks us here low chars some allowed).0

  left-count : node_count (t1 t s.document i x y k m v ks us here low chars some allowed) ≡ node_count t
  left-count =
      let h = low in
      omega (arith, ap node_count_all one-alone, count-valued (suc i) (more t none) (omega (arith, h)) Text [] x none (more (node k m v ks) (more (text y) us)) here (x ++ y))

  right-here : (suc (suc i) + suc (node_count_all ks) < node_count (t1 t s.document i x y k m v ks us here low chars some allowed))
      × (from_node (suc (suc i) + suc (node_count_all ks)) (more (t1 t s.document i x y k m v ks us here low chars some allowed) none) ≡ more (text y) us)
  right-here =
      let r = right-there t s.document i x y k m v ks us here low in
      let e = one-alone in
      (omega (arith, r.0, ap node_count_all e), ap (from_node (suc (suc i) + suc (node_count_all ks))) (sym e) ∙ r.1)

  two-alone : made more (Delete (suc (suc i) + suc (node_count_all ks))) (more (t1 t s.document i x y k m v ks us here low chars some allowed) none) ≡ more (t2 t s.document i x y k m v ks us here low chars some allowed) none
  two-alone = (second-alone t s.document i x y k m v ks us here low chars some allowed).0

  two-count : node_count (t2 t s.document i x y k m v ks us here low chars some allowed) + 1 ≡ node_count t
  two-count =
      let r = right-here in
      omega (
        arith,
        ap node_count_all two-alone,
        left-count,
        count-deleted (suc (suc i) + suc (node_count_all ks)) (more (t1 t s.document i x y k m v ks us here low chars some allowed) none) (omega (arith, r.0)) Text [] y none us r.1,
      )

  node-there : from_node (suc (suc i)) (more (t2 t s.document i x y k m v ks us here low chars some allowed) none) ≡ more (node k m v ks) us
  node-there = node-here G names values t s i x y k m v ks us here low chars some allowed

  last : LeavesDocument (t2 t s.document i x y k m v ks us here low chars some allowed) (Delete (suc (suc i)))
  last =
      let b = delete-by-steps t s.document i x y k m v ks us here low chars some allowed in
      let a = step-alone (t2 t s.document i x y k m v ks us here low chars some allowed) (Delete (suc (suc i))) b.0 in
      record { alone = a.0; document = a.1 }

  merges : merged t (Delete (suc (suc i))) ≡ 1
  merges =
      let n : ℕ = suc (suc i) in
      let h = low in
      let l = last in
      let r = right-here in
      let b = delete-by-steps t s.document i x y k m v ks us here low chars some allowed in
      omega (
        arith,
        (merged-counts t (Delete n) s.document allowed tt).0,
        ap node_count_all (placed-alone t s.document (Delete n) allowed tt).0,
        count-deleted n (more t none) (omega (arith, h)) k m v ks (more (text y) us) there,
        ap node_count b.1,
        ap node_count_all l.alone,
        count-deleted n (more (t2 t s.document i x y k m v ks us here low chars some allowed) none) (let c = two-count in omega (arith, c, left-count, r.0)) k m v ks us node-there,
        two-count,
      )

  two-low : suc (suc i) < node_count (t2 t s.document i x y k m v ks us here low chars some allowed)
  two-low = let r = right-here in let c = two-count in omega (arith, c, left-count, r.0)

  -- the right text keeps its rank, and node n all
  right-extent : (rank : ℕ) → Some rank ≡ text_rank_at t (suc (suc i) + suc (node_count_all ks))
      → IsExtentOf (t1 t s.document i x y k m v ks us here low chars some allowed) (suc (suc i) + suc (node_count_all ks)) (record { nodes = 1; rank = rank; texts = 1 })
  right-extent rank e =
      let one : Tree = t1 t s.document i x y k m v ks us here low chars some allowed in
      let n : ℕ = suc (suc i) + suc (node_count_all ks) in
      let r = right-here in
      let h = low in
      let same : rank_in n (more one none) ≡ rank_in n (more t none) = ap (rank_in n) (sym one-alone) ∙ rank-valued (x ++ y) (suc i) (more t none) (omega (arith, h)) n in
      record {
        here = text y;
        behind = us;
        from_is = r.1;
        nodes = refl;
        rank = rank-told one n r.0 ∙ ap (λ (j : ℕ). Some j) same ∙ sym (rank-told t n (omega (arith, r.0, left-count))) ∙ sym e;
        texts_are = refl;
      }

  node-extent : (e : Extent) → IsExtentOf t (suc (suc i)) e → IsExtentOf (t2 t s.document i x y k m v ks us here low chars some allowed) (suc (suc i)) e
  node-extent e X =
      let two : Tree = t2 t s.document i x y k m v ks us here low chars some allowed in
      let n : ℕ = suc (suc i) in
      let same : X.here ≡ node k m v ks = first-same X.here (node k m v ks) X.behind (more (text y) us) (sym X.from_is ∙ there) in
      record {
        here = X.here;
        behind = us;
        from_is = node-there ∙ ap (λ r. more r us) (sym same);
        nodes = X.nodes;
        rank = rank-told two n two-low ∙ ap (λ (j : ℕ). Some j) (node-rank G names values t s i x y k m v ks us here low chars some allowed) ∙ sym (rank-told t n low) ∙ X.rank;
        texts_are = X.texts_are;
      }

  steps-are : AreSteps G names values t (suc i) (suc (suc i)) (suc (suc i) + suc (node_count_all ks)) (x ++ y)
  steps-are =
      let r = right-here in
      let c = two-count in
      let b = second-alone t s.document i x y k m v ks us here low chars some allowed in
      record {
        left_stands = first-stands G names values t s i x y k m v ks us here low chars some allowed;
        left_low = (let h = low in omega (arith, h));
        low = low;
        left_count = left-count;
        right_leaves = record { alone = b.0; document = b.1 };
        right_low = r.0;
        right_extent = right-extent;
        node_leaves = last;
        node_low = two-low;
        node_extent = node-extent;
        edited_is = (delete-by-steps t s.document i x y k m v ks us here low chars some allowed).1;
        one_merged = merges;
      }

  pub steps-at : (right : ℕ) → right ≡ suc (suc i) + node_count (node k m v ks) → AreSteps G names values t (suc i) (suc (suc i)) right (x ++ y)
  steps-at right e =
      let z : suc (suc i) + suc (node_count_all ks) ≡ right = omega (arith, e) in
      subst (λ (j : ℕ). AreSteps G names values t (suc i) (suc (suc i)) j (x ++ y)) z steps-are

module _ (G : List Rule) (names : List (Kind × List ℕ)) (values : List (List ℕ)) (t : Tree) (s : StandsFor G names values t) where
  by-node : (i right : ℕ) (x y : List ℕ) (here : Tree) (us : Trees) → from_node (suc i) (more t none) ≡ more (text x) (more here (more (text y) us)) → right ≡ suc (suc i) + node_count here
      → IsAllowed t (Delete (suc (suc i))) → AreSteps G names values t (suc i) (suc (suc i)) right (x ++ y)
  by-node i right x y (node k m v ks) us e r a = steps-at G names values t s i x y k m v ks us e a right r

  pub between-steps : (n right : ℕ) (b : StandsBetween t n right) → IsAllowed t (Delete n) → AreSteps G names values t (n - 1) n right (b.before ++ b.after)
  between-steps zero right b a =
      let z : 0 - 1 ≡ 0 = omega arith in
      absurd (none-first t b.before b.after b.behind b.here (sym (ap (λ (j : ℕ). from_node j (more t none)) z) ∙ b.from_is))
  between-steps (suc zero) right b a =
      let z : suc zero - 1 ≡ 0 = omega arith in
      absurd (none-first t b.before b.after b.behind b.here (sym (ap (λ (j : ℕ). from_node j (more t none)) z) ∙ b.from_is))
  between-steps (suc (suc i)) right b a =
      let z : suc (suc i) - 1 ≡ suc i = omega arith in
      subst (λ (j : ℕ). AreSteps G names values t j (suc (suc i)) right (b.before ++ b.after)) (sym z)
      (by-node i right b.before b.after b.here b.behind (sym (ap (λ (j : ℕ). from_node j (more t none)) z) ∙ b.from_is) b.right_is a)

-- the right text is a node of the document
pub right-low : (t : Tree) (n right : ℕ) (b : StandsBetween t n right) → right < node_count t
right-low t n right b =
    let h = low-at right (more t none) Text [] b.after none b.behind (between-texts t n right b).right_is in
    omega (arith, h)
