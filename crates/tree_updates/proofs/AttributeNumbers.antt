-- The numbers of the attributes of an element, which follow it.
use Rattle.std.proofs.Common.{◌≡◌, ℕ, suc, ◌+◌, ◌<◌, ◌≤◌, List, Bool, true, false, refl, ap, sym, ◌∙◌, subst, arith, Some, append-nil, inl, inr}
use Rattle.std.specs.Prelude.{slice_get, option_map, ◌||◌}
use Rattle.std.specs.Str.{bytes_eq}
use Rattle.std.proofs.lemmas.Bool.{cases_lt}
use Rattle.std.proofs.lemmas.Slice.Eq.{bytes_eq-Decides}
use Rattle.plain_tree.specs.declared.kind.Kind.{Kind}
use Rattle.plain_tree.specs.declared.kind.Kind.TheVariants.{Document, Element, Attribute, Text, Comment, Instruction}
use Rattle.plain_tree.specs.Additions.{has_attribute}
use Rattle.plain_tree.specs.Edits.{chained}
use Rattle.plain_tree.specs.Lawful.{AreDocumentKids, AreElementKids, AreKids, AreLawfulTrees, IsDocument, IsLawfulTree}
use Rattle.plain_tree.specs.Numbers.{kind_of, nodes, nodes_all}
use Rattle.plain_tree.specs.Siblings.{first_kids, from_node}
use Rattle.plain_tree.specs.Tree.{Tree, node, Trees, none, more, node_count, node_count_all}
use Rattle.plain_tree.proofs.Changing.{chained-more, chained-none, count-chained, each-node, from-inside, from-later, some-from}
use Rattle.plain_tree.proofs.NodeCounts.{length-nodes_all}
use Rattle.preorder_address.specs.TreeNumbers.{kind_at}
use Rattle.preorder_address.proofs.TreeAttributes.{lawful-at}
use Rattle.preorder_address.proofs.TreePlaces.{get-right}
use Rattle.rule_arena.proofs.PreorderLemmas.{slice_get-left}
use Rattle.tree_updates.specs.ElementAttributes.{AreOtherAttributes, IsAttributeAt, IsAttributePlace, IsNextAttribute}
use Rattle.tree_updates.specs.declared.kid_attributes.AttributePlace.{AttributePlace}
use Rattle.tree_updates.proofs.Numbers.{node-at}

-- so many of the kids are attributes of other names, and the others follow
pub record AttributesPassed (x : List ℕ) (kids : Trees) (before : ℕ) : Type 0 where
  pub passed : Trees
  pub left : Trees
  pub split : kids ≡ chained more passed left
  pub others : AreOtherAttributes x passed
  pub count : before ≡ node_count_all passed

pub passed-none : (x : List ℕ) (kids : Trees) → AttributesPassed x kids 0
passed-none x kids = record { passed = none; left = kids; split = refl; others = tt; count = refl }

-- a node that is told to be an attribute has no kids
pub attribute-bare : (t : Tree) → IsDocument t → (n : ℕ) (k : Kind) (m v : List ℕ) (ks : Trees) → slice_get (nodes t) n ≡ Some (node k m v ks) → k ≡ Attribute → IsAttributeAt t n m
attribute-bare t d n k m v ks is e =
    let l : IsLawfulTree (node Attribute m v ks) = subst (λ (j : Kind). IsLawfulTree (node j m v ks)) e (lawful-at t d.lawful n (node k m v ks) is) in
    (v, is ∙ ap (λ (j : Kind). Some (node j m v ks)) e ∙ ap (λ (js : Trees). Some (node Attribute m v js)) l.1)

kids-few : (us : Trees) → 0 < node_count_all us → node_count_all (first_kids us) < node_count_all us
kids-few none h = omega (arith, h)
kids-few (more (node k m v ks) us) h = omega arith

-- no node has as many kids as there are nodes
kids-within : (t : Tree) (n : ℕ) → n < node_count t → n + 1 + node_count_all (first_kids (from_node n (more t none))) ≤ node_count t
kids-within t n low =
    let h : n < node_count_all (more t none) = omega (arith, low) in
    let s = some-from n (more t none) h in
    omega (arith, kids-few (from_node n (more t none)) s.0, s.1)

-- the nodes below a node follow it
abbrev FollowsKids : ℕ → Trees → Type 0
FollowsKids n ts = (j : ℕ) → j < node_count_all (first_kids (from_node n ts)) → slice_get (nodes_all ts) (n + suc j) ≡ slice_get (nodes_all (first_kids (from_node n ts))) j

pub node-below : (n : ℕ) (ts : Trees) → n < node_count_all ts → FollowsKids n ts
node-below = each-node FollowsKids first
    (λ k m v ks ts n h r j low.
    let z : suc n + suc j ≡ suc (n + suc j) = omega arith in
    let few : j < node_count_all (first_kids (from_node n ks)) = subst (λ (us : Trees). j < node_count_all (first_kids us)) (from-inside k m v ks ts n h) low in
    let s = some-from n ks h in
    ap (slice_get (nodes_all (more (node k m v ks) ts))) z
    ∙ slice_get-left (nodes_all ks) (nodes_all ts) (n + suc j) (omega (arith, length-nodes_all ks, kids-few (from_node n ks) s.0, s.1, few))
    ∙ r j few ∙ ap (λ (us : Trees). slice_get (nodes_all (first_kids us)) j) (sym (from-inside k m v ks ts n h)))
    (λ k m v ks ts d h r j low.
    let z : suc (node_count_all ks + d) + suc j ≡ suc (node_count_all ks + (d + suc j)) = omega arith in
    let few : j < node_count_all (first_kids (from_node d ts)) = subst (λ (us : Trees). j < node_count_all (first_kids us)) (from-later k m v ks ts d) low in
    ap (slice_get (nodes_all (more (node k m v ks) ts))) z
    ∙ get-right (nodes_all ks) (nodes_all ts) (node_count_all ks) (d + suc j) (sym (length-nodes_all ks))
    ∙ r j few ∙ ap (λ (us : Trees). slice_get (nodes_all (first_kids us)) j) (sym (from-later k m v ks ts d)))
  where
    first : (t : Tree) (ts : Trees) → FollowsKids 0 (more t ts)
    first (node k m v ks) ts j low =
        let z : 0 + suc j ≡ suc j = omega arith in
        ap (slice_get (nodes_all (more (node k m v ks) ts))) z ∙ slice_get-left (nodes_all ks) (nodes_all ts) j (omega (arith, length-nodes_all ks, low))

-- no attribute is the first
abbrev IsNoAttributeFirst : Trees → Type 0
IsNoAttributeFirst none = Unit {0}
IsNoAttributeFirst (more t ts) = kind_of t ≡ Attribute → ⊥

-- attributes stand before all others
abbrev AreAttributesAhead : Trees → Type 0
AreAttributesAhead none = Unit {0}
AreAttributesAhead (more t ts) = ((kind_of t ≡ Attribute → ⊥) → IsNoAttributeFirst ts) × AreAttributesAhead ts

none-first : (ts : Trees) → AreElementKids false ts → IsNoAttributeFirst ts
none-first none h = tt
none-first (more (node Document m v ks) ts) h = λ e. cc
none-first (more (node Element m v ks) ts) h = λ e. cc
none-first (more (node Attribute m v ks) ts) h = let f : false ≡ true = h.0 in absurd cc
none-first (more (node Text m v ks) ts) h = λ e. cc
none-first (more (node Comment m v ks) ts) h = λ e. cc
none-first (more (node Instruction m v ks) ts) h = λ e. cc

element-ahead : (b : Bool) (ts : Trees) → AreElementKids b ts → AreAttributesAhead ts
element-ahead b none h = tt
element-ahead b (more (node Document m v ks) ts) h = absurd h
element-ahead b (more (node Element m v ks) ts) h = ((λ o. none-first ts h), element-ahead false ts h)
element-ahead b (more (node Attribute m v ks) ts) h = ((λ o. absurd (o refl)), element-ahead true ts h.2)
element-ahead b (more (node Text m v ks) ts) h = ((λ o. none-first ts h), element-ahead false ts h)
element-ahead b (more (node Comment m v ks) ts) h = ((λ o. none-first ts h), element-ahead false ts h)
element-ahead b (more (node Instruction m v ks) ts) h = ((λ o. none-first ts h), element-ahead false ts h)

root-first : (b : Bool) (ts : Trees) → AreDocumentKids b ts → IsNoAttributeFirst ts
root-first b none h = tt
root-first b (more (node Document m v ks) ts) h = λ e. cc
root-first b (more (node Element m v ks) ts) h = λ e. cc
root-first b (more (node Attribute m v ks) ts) h = absurd h
root-first b (more (node Text m v ks) ts) h = λ e. cc
root-first b (more (node Comment m v ks) ts) h = λ e. cc
root-first b (more (node Instruction m v ks) ts) h = λ e. cc

root-ahead : (b : Bool) (ts : Trees) → AreDocumentKids b ts → AreAttributesAhead ts
root-ahead b none h = tt
root-ahead b (more (node Document m v ks) ts) h = absurd h
root-ahead b (more (node Element m v ks) ts) h = ((λ o. root-first true ts h.1), root-ahead true ts h.1)
root-ahead b (more (node Attribute m v ks) ts) h = absurd h
root-ahead b (more (node Text m v ks) ts) h = absurd h
root-ahead b (more (node Comment m v ks) ts) h = ((λ o. root-first b ts h), root-ahead b ts h)
root-ahead b (more (node Instruction m v ks) ts) h = ((λ o. root-first b ts h), root-ahead b ts h)

none-ahead : (ts : Trees) → ts ≡ none → AreAttributesAhead ts
none-ahead none e = tt
none-ahead (more t ts) e = absurd cc

kids-ahead : (k : Kind) (ts : Trees) → AreKids k ts → AreAttributesAhead ts
kids-ahead Document ts h = root-ahead false ts h
kids-ahead Element ts h = element-ahead true ts h
kids-ahead Attribute ts h = none-ahead ts h
kids-ahead Text ts h = none-ahead ts h
kids-ahead Comment ts h = none-ahead ts h
kids-ahead Instruction ts h = none-ahead ts h

-- what has a node below it is no attribute
no-parent : (k : Kind) (m v : List ℕ) (ks : Trees) → IsLawfulTree (node k m v ks) → 0 < node_count_all ks → k ≡ Attribute → ⊥
no-parent k m v ks l h e =
    let a : IsLawfulTree (node Attribute m v ks) = subst (λ (j : Kind). IsLawfulTree (node j m v ks)) e l in
    let z = ap node_count_all a.1 in
    omega (arith, h, z)

first-node : (ts : Trees) (s : Tree) → slice_get (nodes_all ts) 0 ≡ Some s → IsNoAttributeFirst ts → kind_of s ≡ Attribute → ⊥
first-node none s e o k = cc
first-node (more (node j m v ks) ts) s e o k = let f : node j m v ks ≡ s = cc in o (ap kind_of f ∙ k)

-- behind all that is below a node that is none comes no attribute
abbrev EndsAttributes : ℕ → Trees → Type 0
EndsAttributes n ts = AreAttributesAhead ts → AreLawfulTrees ts → IsNoAttributeFirst (from_node n ts) → (s : Tree)
    → slice_get (nodes_all ts) (n + suc (node_count_all (first_kids (from_node n ts)))) ≡ Some s → kind_of s ≡ Attribute → ⊥

none-behind : (n : ℕ) (ts : Trees) → n < node_count_all ts → EndsAttributes n ts
none-behind = each-node EndsAttributes first inside
    (λ k m v ks ts d h r a l o s e.
    let c : ℕ = node_count_all (first_kids (from_node d ts)) in
    let same : node_count_all (first_kids (from_node (suc (node_count_all ks + d)) (more (node k m v ks) ts))) ≡ c = ap (λ (us : Trees). node_count_all (first_kids us)) (from-later k m v ks ts d) in
    let z : suc (node_count_all ks + (d + suc c)) ≡ suc (node_count_all ks + d) + suc (node_count_all (first_kids (from_node (suc (node_count_all ks + d)) (more (node k m v ks) ts)))) = omega (arith, same) in
    r a.1 l.1 (subst IsNoAttributeFirst (from-later k m v ks ts d) o) s
    (sym (get-right (nodes_all ks) (nodes_all ts) (node_count_all ks) (d + suc c) (sym (length-nodes_all ks))) ∙ ap (slice_get (nodes_all (more (node k m v ks) ts))) z ∙ e))
  where
    behind-kids : (k : Kind) (m v : List ℕ) (ks ts : Trees) (i : ℕ) → i ≡ suc (node_count_all ks) → slice_get (nodes_all (more (node k m v ks) ts)) i ≡ slice_get (nodes_all ts) 0
    behind-kids k m v ks ts i e =
        let z : i ≡ suc (node_count_all ks + 0) = omega (arith, e) in
        ap (slice_get (nodes_all (more (node k m v ks) ts))) z ∙ get-right (nodes_all ks) (nodes_all ts) (node_count_all ks) 0 (sym (length-nodes_all ks))

    first : (t : Tree) (ts : Trees) → EndsAttributes 0 (more t ts)
    first (node k m v ks) ts a l o s e = first-node ts s (sym (behind-kids k m v ks ts (0 + suc (node_count_all ks)) (omega arith)) ∙ e) (a.0 o)

    inside : (k : Kind) (m v : List ℕ) (ks ts : Trees) (n : ℕ) → n < node_count_all ks → EndsAttributes n ks → EndsAttributes (suc n) (more (node k m v ks) ts)
    inside k m v ks ts n h r a l o s e =
        let c : ℕ = node_count_all (first_kids (from_node n ks)) in
        let same : node_count_all (first_kids (from_node (suc n) (more (node k m v ks) ts))) ≡ c = ap (λ (us : Trees). node_count_all (first_kids us)) (from-inside k m v ks ts n h) in
        let z : suc (n + suc c) ≡ suc n + suc (node_count_all (first_kids (from_node (suc n) (more (node k m v ks) ts)))) = omega (arith, same) in
        let at : slice_get (nodes_all (more (node k m v ks) ts)) (suc (n + suc c)) ≡ Some s = ap (slice_get (nodes_all (more (node k m v ks) ts))) z ∙ e in
        let w = some-from n ks h in
        elim (cases_lt (n + suc c) (node_count_all ks)) [
          | inl low ↦ r (kids-ahead k ks l.0.1) l.0.2 (subst IsNoAttributeFirst (from-inside k m v ks ts n h) o) s (sym (slice_get-left (nodes_all ks) (nodes_all ts) (n + suc c) (omega (arith, low, length-nodes_all ks))) ∙ at)
          | inr high ↦
              let end : suc (n + suc c) ≡ suc (node_count_all ks) = omega (arith, high, kids-few (from_node n ks) w.0, w.1) in
              first-node ts s (sym (behind-kids k m v ks ts (suc (n + suc c)) end) ∙ at) (a.0 (no-parent k m v ks l.0 (omega (arith, h))))
        ]

others-kids : (x : List ℕ) (A : Trees) (s : Tree) (us : Trees) → slice_get (nodes_all (chained more A (more s us))) (node_count_all A) ≡ Some s
others-kids x none (node k m v ks) us = refl
others-kids x (more (node j n w js) A) s us =
    let z : node_count_all (more (node j n w js) A) ≡ suc (node_count_all js + node_count_all A) = omega arith in
    ap (λ (ts : Trees). slice_get (nodes_all ts) (node_count_all (more (node j n w js) A))) (chained-more (node j n w js) A (more s us))
    ∙ ap (slice_get (nodes_all (more (node j n w js) (chained more A (more s us))))) z
    ∙ get-right (nodes_all js) (nodes_all (chained more A (more s us))) (node_count_all js) (node_count_all A) (sym (length-nodes_all js)) ∙ others-kids x A s us

-- one more of other names
others-more : (x n v : List ℕ) (A : Trees) → AreOtherAttributes x A → bytes_eq n x ≡ false → AreOtherAttributes x (chained more A (more (node Attribute n v none) none))
others-more x n v none h f = (refl, f, tt)
others-more x n v (more (node j m w js) A) h f = subst (AreOtherAttributes x) (sym (chained-more (node j m w js) A (more (node Attribute n v none) none))) (h.0, h.1, others-more x n v A h.2 f)

passed-more : (A : Trees) (s : Tree) (us : Trees) → chained more A (more s us) ≡ chained more (chained more A (more s none)) us
passed-more none s us = refl
passed-more (more t A) s us =
    chained-more t A (more s us) ∙ ap (more t) (passed-more A s us) ∙ sym (chained-more t (chained more A (more s none)) us) ∙ ap (λ ts. chained more ts us) (sym (chained-more t A (more s none)))

next-none : (x : List ℕ) (us : Trees) → IsNoAttributeFirst us → IsNextAttribute x us false
next-none x none o = refl
next-none x (more (node Document m v ks) us) o = refl
next-none x (more (node Element m v ks) us) o = refl
next-none x (more (node Attribute m v ks) us) o = absurd (o refl)
next-none x (more (node Text m v ks) us) o = refl
next-none x (more (node Comment m v ks) us) o = refl
next-none x (more (node Instruction m v ks) us) o = refl

module _ (t : Tree) (d : IsDocument t) (n : ℕ) (low : n < node_count t) (other : kind_at t n ≡ Some Attribute → ⊥) (x : List ℕ) (before : ℕ) (a : AttributesPassed x (first_kids (from_node n (more t none))) before) where
  abbrev kids : Trees
  kids = first_kids (from_node n (more t none))

  there : n < node_count_all (more t none)
  there = omega (arith, low)

  in-tree : (i : ℕ) → slice_get (nodes t) i ≡ slice_get (nodes_all (more t none)) i
  in-tree i = ap (λ (xs : List Tree). slice_get xs i) (sym (append-nil (nodes t)))

  -- the node itself is none
  own-other : IsNoAttributeFirst (from_node n (more t none))
  own-other =
      let q = node-at n (more t none) there in
      subst IsNoAttributeFirst (sym q.from_is) (λ e. other (ap (option_map kind_of) (in-tree n ∙ q.node_is) ∙ ap Some e))

  -- the first that is left has the number
  left-first : (s : Tree) (us : Trees) → a.left ≡ more s us → slice_get (nodes t) (n + 1 + before) ≡ Some s
  left-first s us e =
      let z : n + 1 + before ≡ n + suc before = omega arith in
      let split : kids ≡ chained more a.passed (more s us) = a.split ∙ ap (chained more a.passed) e in
      in-tree (n + 1 + before) ∙ ap (slice_get (nodes_all (more t none))) z ∙ node-below n (more t none) there before (omega (arith, few s us split))
      ∙ ap (λ (i : ℕ). slice_get (nodes_all kids) i) a.count ∙ ap (λ (ts : Trees). slice_get (nodes_all ts) (node_count_all a.passed)) split ∙ others-kids x a.passed s us
    where
      some : (s : Tree) (us : Trees) → 0 < node_count_all (more s us)
      some (node k m v ks) us = omega arith

      few : (s : Tree) (us : Trees) → kids ≡ chained more a.passed (more s us) → before < node_count_all kids
      few s us e = omega (arith, a.count, ap node_count_all e, count-chained a.passed (more s us), some s us)

  -- where none is left the node with the number is no attribute
  left-none : a.left ≡ none → (y : List ℕ) → IsAttributeAt t (n + 1 + before) y → ⊥
  left-none e y h =
      let all : kids ≡ a.passed = a.split ∙ ap (chained more a.passed) e ∙ chained-none a.passed in
      let z : n + suc (node_count_all kids) ≡ n + 1 + before = omega (arith, ap node_count_all all, a.count) in
      none-behind n (more t none) there ((λ o. tt), tt) (d.lawful, tt) own-other (node Attribute y h.0 none) (ap (slice_get (nodes_all (more t none))) z ∙ sym (in-tree (n + 1 + before)) ∙ h.1) refl

  pub before-fits : before < node_count t
  before-fits = omega (arith, kids-within t n low, ap node_count_all a.split, count-chained a.passed a.left, a.count)

  -- an attribute that is there is the next kid
  next-kid : (y : List ℕ) → IsAttributeAt t (n + 1 + before) y → (v : List ℕ) × (us : Trees) × (a.left ≡ more (node Attribute y v none) us)
  next-kid y h = by_left a.left refl
    where
      same : (s r : Tree) (us : Trees) → Some s ≡ Some r → a.left ≡ more s us → a.left ≡ more r us
      same s r us e f = let g : s ≡ r = cc in f ∙ ap (λ (t : Tree). more t us) g

      by_left : (left : Trees) → a.left ≡ left → (v : List ℕ) × (us : Trees) × (a.left ≡ more (node Attribute y v none) us)
      by_left none e = absurd (left-none e y h)
      by_left (more s us) e = (h.0, us, same s (node Attribute y h.0 none) us (sym (left-first s us e) ∙ h.1) e)

  -- it has the name
  pub found-there : (y : List ℕ) → IsAttributeAt t (n + 1 + before) y → y ≡ x → IsAttributePlace x kids (record { before = before; found = true })
  found-there y h e =
      let q = next-kid y h in
      record {
        front = a.passed;
        behind = more (node Attribute y q.0 none) q.1;
        split = a.split ∙ ap (chained more a.passed) q.2;
        others = a.others;
        next = (e, refl);
        before = a.count;
      }

  -- it has another
  pub passed-next : (y : List ℕ) → IsAttributeAt t (n + 1 + before) y → bytes_eq y x ≡ false → AttributesPassed x kids (before + 1)
  passed-next y h e =
      let q = next-kid y h in
      record {
        passed = chained more a.passed (more (node Attribute y q.0 none) none);
        left = q.1;
        split = a.split ∙ ap (chained more a.passed) q.2 ∙ passed-more a.passed (node Attribute y q.0 none) q.1;
        others = others-more x y q.0 a.passed a.others e;
        count = omega (arith, a.count, count-chained a.passed (more (node Attribute y q.0 none) none));
      }

  -- and where no attribute is there, no more are left
  pub found-none : ((y : List ℕ) → IsAttributeAt t (n + 1 + before) y → ⊥) → IsAttributePlace x kids (record { before = before; found = false })
  found-none h = record { front = a.passed; behind = a.left; split = a.split; others = a.others; next = by_left a.left refl; before = a.count }
    where
      none-left : (s : Tree) (us : Trees) → a.left ≡ more s us → kind_of s ≡ Attribute → ⊥
      none-left (node k m v ks) us e f = h m (attribute-bare t d (n + 1 + before) k m v ks (left-first (node k m v ks) us e) f)

      by_left : (left : Trees) → a.left ≡ left → IsNextAttribute x left false
      by_left none e = refl
      by_left (more s us) e = next-none x (more s us) (none-left s us e)

-- whether one is found tells whether there is one
pub place-has : (x : List ℕ) (all : Trees) (p : AttributePlace) → IsAttributePlace x all p → p.found ≡ has_attribute x all
place-has x all p h = sym (ap (has_attribute x) h.split ∙ by_front h.front h.others ∙ by_behind h.behind h.next)
  where
    by_front : (A : Trees) → AreOtherAttributes x A → has_attribute x (chained more A h.behind) ≡ has_attribute x h.behind
    by_front none o = refl
    by_front (more (node k m v ks) A) o =
        ap (has_attribute x) (chained-more (node k m v ks) A h.behind) ∙ subst (λ (j : Kind). has_attribute x (more (node j m v ks) (chained more A h.behind)) ≡ has_attribute x (chained more A h.behind)) (sym o.0)
        (ap (λ (b : Bool). b || has_attribute x (chained more A h.behind)) o.1) ∙ by_front A o.2

    by_behind : (us : Trees) → IsNextAttribute x us p.found → has_attribute x us ≡ p.found
    by_behind none n = sym n
    by_behind (more (node Attribute m v ks) us) n = ap (λ (b : Bool). b || has_attribute x us) ((bytes_eq-Decides m x).1 n.0) ∙ sym n.1
    by_behind (more (node Document m v ks) us) n = sym n
    by_behind (more (node Element m v ks) us) n = sym n
    by_behind (more (node Text m v ks) us) n = sym n
    by_behind (more (node Comment m v ks) us) n = sym n
    by_behind (more (node Instruction m v ks) us) n = sym n
