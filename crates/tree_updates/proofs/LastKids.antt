-- Whether the last kid of a node is a text, by places.
use Rattle.std.proofs.Common.{◌≡◌, ℕ, zero, suc, ◌+◌, ◌-◌, ◌*◌, ◌<◌, ◌≤◌, List, [], length, refl, ap, sym, ◌∙◌, arith, append-nil, Bool, true, false, Some}
use Rattle.std.specs.Prelude.{slice_get, option_map}
use Rattle.plain_tree.specs.declared.kind.Kind.{Kind}
use Rattle.plain_tree.specs.declared.kind.Kind.TheVariants.{Document, Element, Attribute, Text, Comment, Instruction}
use Rattle.std.proofs.lemmas.Bool.{false≢true}
use Rattle.plain_tree.specs.Numbers.{nodes, nodes_all, kind_of}
use Rattle.plain_tree.specs.Tree.{Tree, node, Trees, none, more, node_count_all}
use Rattle.plain_tree.proofs.NodeCounts.{length-nodes_all}
use Rattle.preorder_address.specs.Spots.{place_at}
use Rattle.preorder_address.specs.TreeNumbers.{kind_at, placed}
use Rattle.plain_tree.specs.Edits.{chained}
use Rattle.plain_tree.specs.Siblings.{from_node}
use Rattle.plain_tree.proofs.SeamTexts.{ends_text}
use Rattle.plain_tree.proofs.Seams.{HaveLeafTexts}
use Rattle.plain_tree.proofs.Changing.{each-node, from-inside, from-later, chained-more, some-node}
use Rattle.rule_arena.proofs.PreorderLemmas.{slice_get-left}
use Rattle.preorder_address.proofs.TreePlaces.{get-right, length-placed}
use Rattle.tree_updates.proofs.KidPlaces.{placed-within}
use Rattle.tree_updates.proofs.SpotPlaces.{some-first, told-there}

-- the last node of some trees is the last of them, and has no kids
pub record EndsWith (ks : Trees) (c : ℕ) : Type 0 where
  pub front : Trees
  pub kind : Kind
  pub name : List ℕ
  pub value : List ℕ
  pub is : ks ≡ chained more front (more (node kind name value none) none)
  pub number : c ≡ node_count_all front

-- that is so where just its own bottom stands behind it
last-root : (ks : Trees) (b q c : ℕ) (s : Tree) → suc c ≡ node_count_all ks → slice_get (placed b ks) c ≡ Some (q, s) → q + 2 ≡ b + 2 * suc c → EndsWith ks c
last-root none b q c s h f e = absurd (omega (arith, h))
last-root (more (node k m v none) none) b q zero s h f e = record { front = none; kind = k; name = m; value = v; is = refl; number = refl }
last-root (more (node k m v none) none) b q (suc c) s h f e = absurd (omega (arith, h))
last-root (more (node k m v (more t js)) none) b q zero s h f e = absurd (omega (arith, h, some-node t))
last-root (more (node k m v (more t js)) none) b q (suc c) s h f e =
    let ks : Trees = more t js in
    let there : slice_get (placed (b + 1) ks) c ≡ Some (q, s) = sym (slice_get-left (placed (b + 1) ks) [] c (omega (arith, h, length-placed (b + 1) ks))) ∙ f in
    let w = placed-within ks (b + 1) c q s there in
    absurd (omega (arith, w.1, some-node s, e, h))
last-root (more (node k m v js) (more t ss)) b q c s h f e =
    let us : Trees = more t ss in
    let d : ℕ = node_count_all us - 1 in
    let size : suc d ≡ node_count_all us = omega (arith, some-node t) in
    let z : c ≡ suc (node_count_all js + d) = omega (arith, h, size) in
    let b' : ℕ = b + 2 + 2 * node_count_all js in
    let there : slice_get (placed b' us) d ≡ Some (q, s) =
    sym (get-right (placed (b + 1) js) (placed b' us) (node_count_all js) d (sym (length-placed (b + 1) js))) ∙ ap (slice_get (placed b (more (node k m v js) us))) (sym z) ∙ f in
    let r = last-root (more t ss) b' q d s size there (omega (arith, e, z)) in
    record {
      front = more (node k m v js) r.front;
      kind = r.kind;
      name = r.name;
      value = r.value;
      is = ap (more (node k m v js)) r.is ∙ sym (chained-more (node k m v js) r.front (more (node r.kind r.name r.value none) none));
      number = omega (arith, z, r.number);
    }

-- the kids of node n by their numbers
pub record KidsOf (n : ℕ) (ts : Trees) : Type 0 where
  pub kids : Trees
  pub behind : Trees
  pub kind : Kind
  pub name : List ℕ
  pub value : List ℕ
  pub from_is : from_node n ts ≡ more (node kind name value kids) behind
  pub kid_places : (b q : ℕ) (s : Tree) → slice_get (placed b ts) n ≡ Some (q, s) → (c : ℕ) → c < node_count_all kids → slice_get (placed b ts) (n + suc c) ≡ slice_get (placed (q + 1) kids) c
  pub kid_nodes : (c : ℕ) → c < node_count_all kids → slice_get (nodes_all ts) (n + suc c) ≡ slice_get (nodes_all kids) c
  pub within : n + suc (node_count_all kids) ≤ node_count_all ts

kids-first : (t : Tree) (ts : Trees) → KidsOf 0 (more t ts)
kids-first (node k m v ks) ts = record {
  kids = ks;
  behind = ts;
  kind = k;
  name = m;
  value = v;
  from_is = refl;
  kid_places = λ b q s e c h.
      let z : 0 + suc c ≡ suc c = omega arith in
      let y : b ≡ q = some-first b q (node k m v ks) s e in
      ap (slice_get (placed b (more (node k m v ks) ts))) z ∙ slice_get-left (placed (b + 1) ks) (placed (b + 2 + 2 * node_count_all ks) ts) c (omega (arith, h, length-placed (b + 1) ks))
      ∙ ap (λ (i : ℕ). slice_get (placed (i + 1) ks) c) y;
  kid_nodes = λ c h. let z : 0 + suc c ≡ suc c = omega arith in ap (slice_get (nodes_all (more (node k m v ks) ts))) z ∙ slice_get-left (nodes_all ks) (nodes_all ts) c (omega (arith, h, length-nodes_all ks));
  within = omega arith;
}

pub kids-of : (n : ℕ) (ts : Trees) → n < node_count_all ts → KidsOf n ts
kids-of = each-node KidsOf kids-first
    (λ k m v ks ts n h r. record {
      kids = r.kids;
      behind = r.behind;
      kind = r.kind;
      name = r.name;
      value = r.value;
      from_is = from-inside k m v ks ts n h ∙ r.from_is;
      kid_places = λ b q s e c l.
          let z : suc n + suc c ≡ suc (n + suc c) = omega arith in
          let xs : List (ℕ × Tree) = placed (b + 1) ks in
          let ys : List (ℕ × Tree) = placed (b + 2 + 2 * node_count_all ks) ts in
          let w = r.within in
          ap (slice_get (placed b (more (node k m v ks) ts))) z ∙ slice_get-left xs ys (n + suc c) (omega (arith, length-placed (b + 1) ks, w, l))
          ∙ r.kid_places (b + 1) q s (sym (slice_get-left xs ys n (omega (arith, h, length-placed (b + 1) ks))) ∙ e) c l;
      kid_nodes = λ c l.
          let z : suc n + suc c ≡ suc (n + suc c) = omega arith in
          let w = r.within in
          ap (slice_get (nodes_all (more (node k m v ks) ts))) z ∙ slice_get-left (nodes_all ks) (nodes_all ts) (n + suc c) (omega (arith, length-nodes_all ks, w, l)) ∙ r.kid_nodes c l;
      within = let w = r.within in omega (arith, w);
    })
    (λ k m v ks ts d h r. record {
      kids = r.kids;
      behind = r.behind;
      kind = r.kind;
      name = r.name;
      value = r.value;
      from_is = from-later k m v ks ts d ∙ r.from_is;
      kid_places = λ b q s e c l.
          let z : suc (node_count_all ks + d) + suc c ≡ suc (node_count_all ks + (d + suc c)) = omega arith in
          let xs : List (ℕ × Tree) = placed (b + 1) ks in
          let ys : List (ℕ × Tree) = placed (b + 2 + 2 * node_count_all ks) ts in
          let size : node_count_all ks ≡ length xs = sym (length-placed (b + 1) ks) in
          ap (slice_get (placed b (more (node k m v ks) ts))) z ∙ get-right xs ys (node_count_all ks) (d + suc c) size
          ∙ r.kid_places (b + 2 + 2 * node_count_all ks) q s (sym (get-right xs ys (node_count_all ks) d size) ∙ e) c l;
      kid_nodes = λ c l.
          let z : suc (node_count_all ks + d) + suc c ≡ suc (node_count_all ks + (d + suc c)) = omega arith in
          ap (slice_get (nodes_all (more (node k m v ks) ts))) z ∙ get-right (nodes_all ks) (nodes_all ts) (node_count_all ks) (d + suc c) (sym (length-nodes_all ks)) ∙ r.kid_nodes c l;
      within = let w = r.within in omega (arith, w);
    })

-- trees that end with a text have it as their last node, behind which just its own bottom stands
ends-there : (ks : Trees) (b c : ℕ) → HaveLeafTexts ks → ends_text ks ≡ true → suc c ≡ node_count_all ks
    → ((s : Tree) × (slice_get (placed b ks) c ≡ Some (b + 2 * c, s))) × (option_map kind_of (slice_get (nodes_all ks) c) ≡ Some Text)
ends-there none b c l e s = absurd (omega (arith, s))
ends-there (more (node Text m v none) none) b zero l e s = ((node Text m v none, let z : b ≡ b + 2 * 0 = omega arith in ap (λ (i : ℕ). Some (i, node Text m v none)) z), refl)
ends-there (more (node Text m v none) none) b (suc c) l e s = absurd (omega (arith, s))
ends-there (more (node Text m v (more t ts)) none) b c l e s = absurd (let f : more t ts ≡ none = l.0 refl in cc)
ends-there (more (node Document m v js) none) b c l e s = absurd (false≢true e)
ends-there (more (node Element m v js) none) b c l e s = absurd (false≢true e)
ends-there (more (node Attribute m v js) none) b c l e s = absurd (false≢true e)
ends-there (more (node Comment m v js) none) b c l e s = absurd (false≢true e)
ends-there (more (node Instruction m v js) none) b c l e s = absurd (false≢true e)
ends-there (more (node k m v js) (more t ss)) b c l e s =
    let us : Trees = more t ss in
    let d : ℕ = node_count_all us - 1 in
    let z : c ≡ suc (node_count_all js + d) = omega (arith, s, some-node t) in
    let b' : ℕ = b + 2 + 2 * node_count_all js in
    let r = ends-there (more t ss) b' d l.2 e (omega (arith, some-node t)) in
    let y : b' + 2 * d ≡ b + 2 * c = omega (arith, z) in (
      (
        r.0.0,
        ap (slice_get (placed b (more (node k m v js) us))) z ∙ get-right (placed (b + 1) js) (placed b' us) (node_count_all js) d (sym (length-placed (b + 1) js)) ∙ r.0.1 ∙ ap (λ (i : ℕ). Some (i, r.0.0)) y,
      ),
      ap (λ (i : ℕ). option_map kind_of (slice_get (nodes_all (more (node k m v js) us)) i)) z
          ∙ ap (option_map kind_of) (get-right (nodes_all js) (nodes_all us) (node_count_all js) d (sym (length-nodes_all js))) ∙ r.1,
    )

module _ (t : Tree) (n : ℕ) (low : n < node_count_all (more t none)) (c : ℕ) (size : suc c ≡ node_count_all (kids-of n (more t none) low).kids) (p q : ℕ) (place : Some p ≡ place_at t n) (last : Some q ≡ place_at t (n + suc c)) where
  abbrev K : KidsOf n (more t none)
  K = kids-of n (more t none) low

  kid-place : (s : Tree) × (slice_get (placed (p + 1) K.kids) c ≡ Some (q, s))
  kid-place =
      let r = told-there (slice_get (placed 0 (more t none)) n) p place in
      let l = told-there (slice_get (placed 0 (more t none)) (n + suc c)) q last in
      (l.0, sym (K.kid_places 0 p r.0 r.1 c (omega (arith, size))) ∙ l.1)

  -- the last node below node n, where just two bottoms stand behind it, is its last kid, and has no kids
  pub last-kid-told : q + 1 ≡ p + 2 * suc c → EndsWith K.kids c
  last-kid-told e = last-root K.kids (p + 1) q c kid-place.0 size kid-place.1 (omega (arith, e))

  -- so where it is no text, or more stands behind it, the kids don't end with one
  pub told-no-end : HaveLeafTexts K.kids → ((kind_at t (n + suc c) ≡ Some Text) × (q + 1 ≡ p + 2 * suc c) → ⊥) → ends_text K.kids ≡ false
  told-no-end l h = by_end (ends_text K.kids) refl
    where
      by_end : (b : Bool) → ends_text K.kids ≡ b → b ≡ false
      by_end false e = refl
      by_end true e =
          let x = ends-there K.kids (p + 1) c l e size in
          let same : q ≡ p + 1 + 2 * c = some-first q (p + 1 + 2 * c) kid-place.0 x.0.0 (sym kid-place.1 ∙ x.0.1) in
          absurd (h (ap (λ xs. option_map kind_of (slice_get xs (n + suc c))) (sym (append-nil (nodes t))) ∙ ap (option_map kind_of) (K.kid_nodes c (omega (arith, size))) ∙ x.1, omega (arith, same)))
