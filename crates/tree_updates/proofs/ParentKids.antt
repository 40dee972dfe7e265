-- The parent of a node, which has it among its kids.
use Rattle.std.proofs.Common.{◌≡◌, ℕ, suc, ◌+◌, ◌<◌, List, length, length-append, refl, ap, sym, ◌∙◌, arith, Option, Some, None}
use Rattle.std.specs.Prelude.{slice_get}
use Rattle.plain_tree.specs.declared.kind.Kind.{Kind}
use Rattle.plain_tree.specs.declared.kind.Kind.TheVariants.{Document, Attribute}
use Rattle.plain_tree.specs.Edits.{chained}
use Rattle.plain_tree.specs.Lawful.{IsDocument, IsOfKind}
use Rattle.plain_tree.specs.Numbers.{kind_of}
use Rattle.plain_tree.specs.Places.{Place, place_in, place_at}
use Rattle.plain_tree.specs.Siblings.{first_kids, from_node}
use Rattle.plain_tree.specs.Tree.{Tree, node, Trees, none, more, node_count, node_count_all}
use Rattle.plain_tree.proofs.Changing.{each-node, chained-more, chained-chained, count-chained, from-inside, from-later}
use Rattle.plain_tree.proofs.LawfulEdits.{place-inside, place-later}
use Rattle.preorder_address.specs.TreeNumbers.{parents, parent_at}
use Rattle.preorder_address.proofs.TreePlaces.{get-right}
use Rattle.rule_arena.proofs.PreorderLemmas.{slice_get-left}

length-parents : (up : Option ℕ) (first : ℕ) (ts : Trees) → length (parents up first ts) ≡ node_count_all ts
length-parents up first none = refl
length-parents up first (more (node k m v ks) ts) =
    omega (
      arith,
      length-append (parents (Some first) (first + 1) ks) (parents up (first + 1 + node_count_all ks) ts),
      length-parents (Some first) (first + 1) ks,
      length-parents up (first + 1 + node_count_all ks) ts,
    )

-- node n stands in the list itself, or among the kids of node m, which is told as its parent, and all below the kids before it stand between
data IsKid (before : Trees) (up : Option ℕ) (first : ℕ) (ts : Trees) (n : ℕ) (p : Place) : Type 0 where
  in_list : slice_get (parents up first ts) n ≡ Some up → chained more before ts ≡ chained more p.before (more p.here p.behind) → n + node_count_all before ≡ node_count_all p.before → IsKid before up first ts n p
  in_node : (m : ℕ) → m < node_count_all ts → slice_get (parents up first ts) n ≡ Some (Some (first + m)) → first_kids (from_node m ts) ≡ chained more p.before (more p.here p.behind)
      → n ≡ m + 1 + node_count_all p.before → IsKid before up first ts n p

abbrev HasParent : ℕ → Trees → Type 0
HasParent n ts = (above : Option Kind) (before : Trees) (up : Option ℕ) (first : ℕ) (p : Place) → place_in above before n ts ≡ Some p → IsKid before up first ts n p

kid-first : (t : Tree) (ts : Trees) → HasParent 0 (more t ts)
kid-first (node k m v ks) ts above before up first p e =
    let q : Place = record { above = above; before = before; here = node k m v ks; behind = ts } in
    in_list refl (same q p e) (omega (arith, same-count q p e))
  where
    same-count : (q p : Place) → Some q ≡ Some p → node_count_all q.before ≡ node_count_all p.before
    same-count q p e = let f : q ≡ p = cc in ap (λ (r : Place). node_count_all r.before) f

    same : (q p : Place) → Some q ≡ Some p → chained more q.before (more q.here q.behind) ≡ chained more p.before (more p.here p.behind)
    same q p e = let f : q ≡ p = cc in ap (λ (r : Place). chained more r.before (more r.here r.behind)) f

kid-inside : (k : Kind) (m v : List ℕ) (ks ts : Trees) (n : ℕ) → n < node_count_all ks → HasParent n ks → HasParent (suc n) (more (node k m v ks) ts)
kid-inside k m v ks ts n low r above before up first p e =
    let there : slice_get (parents up first (more (node k m v ks) ts)) (suc n) ≡ slice_get (parents (Some first) (first + 1) ks) n =
    slice_get-left (parents (Some first) (first + 1) ks) (parents up (first + 1 + node_count_all ks) ts) n (omega (arith, length-parents (Some first) (first + 1) ks)) in
    elim (r (Some k) none (Some first) (first + 1) p (sym (place-inside above before k m v ks ts n low) ∙ e)) [
      | in_list u q c ↦ let z : first ≡ first + 0 = omega arith in in_node 0 (omega arith) (there ∙ u ∙ ap (λ (i : ℕ). Some (Some i)) z) q (omega (arith, c))
      | in_node j h u q c ↦
          let z : first + 1 + j ≡ first + suc j = omega arith in
          in_node (suc j) (omega (arith, h)) (there ∙ u ∙ ap (λ (i : ℕ). Some (Some i)) z) (ap first_kids (from-inside k m v ks ts j h) ∙ q) (omega (arith, c))
    ]

kid-later : (k : Kind) (m v : List ℕ) (ks ts : Trees) (d : ℕ) → d < node_count_all ts → HasParent d ts → HasParent (suc (node_count_all ks + d)) (more (node k m v ks) ts)
kid-later k m v ks ts d low r above before up first p e =
    let size : ℕ = node_count_all ks in
    let front : Trees = chained more before (more (node k m v ks) none) in
    let there : slice_get (parents up first (more (node k m v ks) ts)) (suc (size + d)) ≡ slice_get (parents up (first + 1 + size) ts) d =
    get-right (parents (Some first) (first + 1) ks) (parents up (first + 1 + size) ts) size d (sym (length-parents (Some first) (first + 1) ks)) in
    elim (r above front up (first + 1 + size) p (sym (place-later above before k m v ks ts d) ∙ e)) [
      | in_list u q c ↦ in_list (there ∙ u) (sym (chained-chained before (more (node k m v ks) none) ts) ∙ q) (omega (arith, c, count-chained before (more (node k m v ks) none)))
      | in_node j h u q c ↦
          let z : first + 1 + size + j ≡ first + suc (size + j) = omega arith in
          in_node (suc (size + j)) (omega (arith, h)) (there ∙ u ∙ ap (λ (i : ℕ). Some (Some i)) z) (ap first_kids (from-later k m v ks ts j) ∙ q) (omega (arith, c))
    ]

pub never-none : (ss : Trees) (t : Tree) (us : Trees) → none ≡ chained more ss (more t us) → ⊥
never-none none t us e = cc
never-none (more s ss) t us e = let f : none ≡ more s (chained more ss (more t us)) = e ∙ chained-more s ss (more t us) in absurd cc

alone-is : (t : Tree) (ss : Trees) (s : Tree) (us : Trees) → more t none ≡ chained more ss (more s us) → t ≡ s
alone-is t none s us e = cc
alone-is t (more r ss) s us e =
    let f : more t none ≡ more r (chained more ss (more s us)) = e ∙ chained-more r ss (more s us) in
    let g : none ≡ chained more ss (more s us) = cc in
    absurd (never-none ss s us g)

no-attribute : (t : Tree) → IsOfKind Document t → kind_of t ≡ Attribute → ⊥
no-attribute (node k m v ks) d e = let f : Document ≡ Attribute = sym d ∙ e in absurd cc

-- node n has a parent, and stands between these of its kids, behind all below those before it
pub record IsAmongKids (t : Tree) (n : ℕ) (before : Trees) (here : Tree) (behind : Trees) : Type 0 where
  pub parent : ℕ
  pub told : parent_at (more t none) n ≡ Some (Some parent)
  pub low : parent < node_count t
  pub number : n ≡ parent + 1 + node_count_all before
  pub kids : first_kids (from_node parent (more t none)) ≡ chained more before (more here behind)

-- an attribute has a parent
pub parent-kids : (t : Tree) → IsDocument t → (n : ℕ) (p : Place) → n < node_count t → place_at t n ≡ Some p → kind_of p.here ≡ Attribute → IsAmongKids t n p.before p.here p.behind
parent-kids t d n p low e attribute = by_kid (each-node HasParent kid-first kid-inside kid-later n (more t none) (omega (arith, low)) None none None 0 p e)
  where
    by_kid : IsKid none None 0 (more t none) n p → IsAmongKids t n p.before p.here p.behind
    by_kid (in_list u q c) = absurd (no-attribute t d.is_document (ap kind_of (alone-is t p.before p.here p.behind q) ∙ attribute))
    by_kid (in_node j h u q c) = let z : 0 + j ≡ j = omega arith in record { parent = j; told = u ∙ ap (λ (i : ℕ). Some (Some i)) z; low = omega (arith, h); number = c; kids = q }
