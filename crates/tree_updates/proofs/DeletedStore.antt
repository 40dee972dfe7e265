-- A node that goes from between two texts: rules, names and texts once the left one has the value of both, and the node once the right one went.
use Rattle.std.proofs.Common.{◌≡◌, ◌≢◌, ℕ, suc, ◌+◌, ◌<◌, List, [], ◌++◌, ap, sym, ◌∙◌, refl, arith}
use Rattle.std.specs.Prelude.{slice_set}
use Rattle.plain_tree.specs.declared.kind.Kind.{Kind}
use Rattle.plain_tree.specs.declared.kind.Kind.TheVariants.{Text}
use Rattle.plain_tree.specs.Lawful.{AreChars}
use Rattle.plain_tree.specs.Tree.{Tree, node, Trees, none, more, node_count, node_count_all}
use Rattle.slt_grammar.specs.Standing.{StandsFor}
use Rattle.slt_grammar.specs.declared.rules.Rule.{Rule}
use Rattle.plain_tree.specs.Allowed.{IsAllowed}
use Rattle.plain_tree.specs.Edits.{changed, others}
use Rattle.plain_tree.specs.Siblings.{from_node}
use Rattle.plain_tree.specs.declared.edit.Edit.TheVariants.{Delete}
use Rattle.plain_tree.proofs.Changing.{from-changed, changed-deeper, more-later}
use Rattle.plain_tree.proofs.SeamTexts.{text, valued-from}
use Rattle.plain_tree.proofs.PlainEdits.{valued_at}
use Rattle.tree_updates.proofs.RankedValues.{rank-valued}
use Rattle.tree_updates.proofs.Stands.{stands-valued}
use Rattle.plain_tree.proofs.EditSteps.{t1, t2, low-all, right-there, left-becomes, first-alone, second-alone}
use Rattle.tree_updates.proofs.Texts.{rank-stays, rank_in}

module _ (G : List Rule) (names : List (Kind × List ℕ)) (values : List (List ℕ)) (t : Tree) (s : StandsFor G names values t) (i : ℕ) (x y : List ℕ) (k : Kind) (m v : List ℕ) (ks us : Trees)
    (here : from_node (suc i) (more t none) ≡ more (text x) (more (node k m v ks) (more (text y) us))) (low : suc (suc i) < node_count t) (chars : AreChars (x ++ y)) (some : (x ++ y) ≢ []) (allowed : IsAllowed t (Delete (suc (suc i)))) where
  abbrev n : ℕ
  n = suc (suc i)

  abbrev right : ℕ
  right = suc (suc i) + suc (node_count_all ks)

  abbrev one : Tree
  one = t1 t s.document i x y k m v ks us here low chars some allowed

  abbrev two : Tree
  two = t2 t s.document i x y k m v ks us here low chars some allowed

  abbrev first_texts : List (List ℕ)
  first_texts = slice_set values (rank_in (suc i) (more t none)) (x ++ y)

  pub first-stands : StandsFor G names first_texts one
  first-stands =
      stands-valued G G names values t s (suc i) (x ++ y) Text [] x none (more (node k m v ks) (more (text y) us)) refl (low-all t s.document i x y k m v ks us here low) here refl
      (left-becomes t s.document i x y k m v ks us here low chars some allowed)

  one-alone : valued_at (x ++ y) (suc i) (more t none) ≡ more one none
  one-alone = (first-alone t s.document i x y k m v ks us here low chars some allowed).0

  -- once the left text has the value of both node n stands as before
  valued-there : (n < node_count_all (valued_at (x ++ y) (suc i) (more t none))) × (from_node n (valued_at (x ++ y) (suc i) (more t none)) ≡ more (node k m v ks) (more (text y) us))
  valued-there = (
    (let r = right-there t s.document i x y k m v ks us here low in omega (arith, r.0)),
    valued-from (suc i) (more t none) x (node k m v ks) (more (text y) us) here (low-all t s.document i x y k m v ks us here low) (x ++ y),
  )

  -- the right text goes from behind node n
  abbrev gone : Trees → Trees
  gone = changed more others (suc (node_count_all ks))

  two-is : more two none ≡ changed more gone n (valued_at (x ++ y) (suc i) (more t none))
  two-is =
      sym (second-alone t s.document i x y k m v ks us here low chars some allowed).0 ∙ ap (changed more others right) (sym one-alone)
      ∙ changed-deeper more others n (valued_at (x ++ y) (suc i) (more t none)) valued-there.0 (node_count_all ks) (rw valued-there.1 (omega arith))

  -- node n stands before what stood behind that
  pub node-here : from_node n (more two none) ≡ more (node k m v ks) us
  node-here =
      let W : Trees = valued_at (x ++ y) (suc i) (more t none) in
      let c : ℕ = node_count_all ks in
      let all : Trees = more (node k m v ks) (more (text y) us) in
      let z : suc c ≡ suc (c + 0) = omega arith in
      let left : gone all ≡ more (node k m v ks) us = ap (λ (j : ℕ). changed more others j all) z ∙ more-later others k m v ks (more (text y) us) 0 in
      let made-gone : gone (from_node n W) ≡ more (node k m v ks) us = ap gone valued-there.1 ∙ left in
      ap (from_node n) two-is ∙ from-changed gone n W valued-there.0 (rw made-gone (omega arith)) ∙ made-gone

  -- and as many texts stand before it as before
  pub node-rank : rank_in n (more two none) ≡ rank_in n (more t none)
  node-rank =
      let W : Trees = valued_at (x ++ y) (suc i) (more t none) in
      ap (rank_in n) two-is ∙ rank-stays gone n W valued-there.0 ∙ rank-valued (x ++ y) (suc i) (more t none) (low-all t s.document i x y k m v ks us here low) n
