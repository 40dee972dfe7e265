-- The element of an attribute: the last node before it that is no attribute.
use Rattle.std.proofs.Common.{◌≡◌, ℕ, zero, suc, ◌+◌, ◌-◌, ◌<◌, ◌≤◌, List, Bool, true, false, refl, ap, sym, ◌∙◌, subst, arith, append-nil, Option, None, Some, ◌⊎◌, inl, inr}
use Rattle.std.specs.Prelude.{slice_get, option_map}
use Rattle.std.proofs.Math.Bool.{true≢false}
use Rattle.std.proofs.lemmas.Bool.{cases_lt}
use Rattle.plain_tree.specs.declared.kind.Kind.{Kind}
use Rattle.plain_tree.specs.declared.kind.Kind.TheVariants.{Document, Element, Attribute, Text, Comment, Instruction}
use Rattle.plain_tree.specs.Edits.{chained}
use Rattle.plain_tree.specs.Lawful.{AreElementKids, AreLawfulTrees, IsDocument}
use Rattle.plain_tree.specs.Numbers.{kind_of, nodes, nodes_all}
use Rattle.plain_tree.specs.Siblings.{first_kids, from_node}
use Rattle.plain_tree.specs.Tree.{Tree, node, Trees, none, more, node_count_all}
use Rattle.plain_tree.proofs.Changing.{chained-more, count-chained}
use Rattle.plain_tree.proofs.TextsAt.{lawful-from}
use Rattle.preorder_address.specs.TreeNumbers.{kind_at, parent_at}
use Rattle.tree_updates.specs.ElementAttributes.{IsAttributeAt}
use Rattle.tree_updates.proofs.AttributeNames.{lawful-kids}
use Rattle.tree_updates.proofs.AttributeNumbers.{attribute-bare, node-below}
use Rattle.tree_updates.proofs.NameableNodes.{at-told, here-is, told-low}
use Rattle.tree_updates.proofs.Numbers.{node-at}
use Rattle.tree_updates.proofs.ParentKids.{IsAmongKids, never-none, parent-kids}

-- this is the parent of node n, or stands between the two
pub record IsBetween (t : Tree) (n here : ℕ) : Type 0 where
  pub parent : ℕ
  pub told : Some (Some parent) ≡ parent_at (more t none) n
  pub from : parent ≤ here
  pub to : here < n

-- a node that is told to be an attribute is one
pub attribute-there : (t : Tree) → IsDocument t → (n : ℕ) → kind_at t n ≡ Some Attribute → (y : List ℕ) × IsAttributeAt t n y
attribute-there t d n told = by_node (slice_get (nodes t) n) refl told
  where
    by_kind : (s : Tree) → slice_get (nodes t) n ≡ Some s → kind_of s ≡ Attribute → (y : List ℕ) × IsAttributeAt t n y
    by_kind (node k m v ks) is e = (m, attribute-bare t d n k m v ks is e)

    by_node : (o : Option Tree) → slice_get (nodes t) n ≡ o → option_map kind_of o ≡ Some Attribute → (y : List ℕ) × IsAttributeAt t n y
    by_node None is e = cc
    by_node (Some s) is e = by_kind s is cc

same-told : (m n : ℕ) → Some (Some m) ≡ Some (Some n) → m ≡ n
same-told m n e = cc

attribute-shape : (s : Tree) → kind_of s ≡ Attribute → (m v : List ℕ) × (ks : Trees) × (s ≡ node Attribute m v ks)
attribute-shape (node k m v ks) e = (m, v, ks, ap (λ (j : Kind). node j m v ks) e)

-- behind another kid no attribute comes
none-later : (A : Trees) (m v : List ℕ) (ks us : Trees) → AreElementKids false (chained more A (more (node Attribute m v ks) us)) → ⊥
none-later none m v ks us h = true≢false (sym h.0)
none-later (more (node k n w ls) A) m v ks us h = by_kind k (subst (AreElementKids false) (chained-more (node k n w ls) A (more (node Attribute m v ks) us)) h) (none-later A m v ks us)
  where
    by_kind : (j : Kind) → AreElementKids false (more (node j n w ls) (chained more A (more (node Attribute m v ks) us))) → (AreElementKids false (chained more A (more (node Attribute m v ks) us)) → ⊥) → ⊥
    by_kind Document g never = g
    by_kind Attribute g never = true≢false (sym g.0)
    by_kind Element g never = never g
    by_kind Text g never = never g
    by_kind Comment g never = never g
    by_kind Instruction g never = never g

-- node i of some trees is an attribute
abbrev IsAttributeIn : ℕ → Trees → Type 0
IsAttributeIn i ts = (y v : List ℕ) × (slice_get (nodes_all ts) i ≡ Some (node Attribute y v none))

-- the nodes up to an attribute among kids are attributes
front-attributes : (b : Bool) (A : Trees) (m v : List ℕ) (ks us : Trees) → AreElementKids b (chained more A (more (node Attribute m v ks) us)) → AreLawfulTrees (chained more A (more (node Attribute m v ks) us))
    → (i : ℕ) → i ≤ node_count_all A → IsAttributeIn i (chained more A (more (node Attribute m v ks) us))
front-attributes b none m v ks us h l zero low = (m, v, ap (λ (js : Trees). Some (node Attribute m v js)) l.0.1)
front-attributes b none m v ks us h l (suc i) low = absurd (omega (arith, low))
front-attributes b (more (node k n w ls) A) m v ks us h l i low =
    let same = chained-more (node k n w ls) A (more (node Attribute m v ks) us) in
    subst (IsAttributeIn i) (sym same) (by_kind k (chained more A (more (node Attribute m v ks) us)) (none-later A m v ks us) (front-attributes true A m v ks us) (subst (AreElementKids b) same h) (subst AreLawfulTrees same l) i (omega (arith, low)))
  where
    below : (rest : Trees) → ((i : ℕ) → i ≤ node_count_all A → IsAttributeIn i rest) → ls ≡ none → (i : ℕ) → i ≤ 1 + node_count_all ls + node_count_all A → IsAttributeIn i (more (node Attribute n w ls) rest)
    below rest r bare zero low = (n, w, ap (λ (js : Trees). Some (node Attribute n w js)) bare)
    below rest r bare (suc i) low =
        let q = r i (omega (arith, low, ap node_count_all bare)) in
        (q.0, q.1, ap (λ (js : Trees). slice_get (nodes_all (more (node Attribute n w js) rest)) (suc i)) bare ∙ q.2)

    by_kind : (j : Kind) (rest : Trees) → (AreElementKids false rest → ⊥) → (AreElementKids true rest → AreLawfulTrees rest → (i : ℕ) → i ≤ node_count_all A → IsAttributeIn i rest)
        → AreElementKids b (more (node j n w ls) rest) → AreLawfulTrees (more (node j n w ls) rest) → (i : ℕ) → i ≤ 1 + node_count_all ls + node_count_all A → IsAttributeIn i (more (node j n w ls) rest)
    by_kind Document rest never r g l i low = absurd g
    by_kind Element rest never r g l i low = absurd (never g)
    by_kind Text rest never r g l i low = absurd (never g)
    by_kind Comment rest never r g l i low = absurd (never g)
    by_kind Instruction rest never r g l i low = absurd (never g)
    by_kind Attribute rest never r g l i low = below rest (r g.2 l.1) l.0.1 i low

first-lawful : (us : Trees) → AreLawfulTrees us → AreLawfulTrees (first_kids us)
first-lawful none l = tt
first-lawful (more (node k m v ks) us) l = l.0.2

-- so are those from a node on up to one of its kids that is one
kid-attribute : (ts : Trees) → AreLawfulTrees ts → (p : ℕ) → p < node_count_all ts → (A : Trees) (s : Tree) (us : Trees) → first_kids (from_node p ts) ≡ chained more A (more s us) → kind_of s ≡ Attribute
    → (i : ℕ) → i ≤ node_count_all A → IsAttributeIn (p + suc i) ts
kid-attribute ts l p low A s us is e i few =
    let own = attribute-shape s e in
    let kids : Trees = chained more A (more (node Attribute own.0 own.1 own.2) us) in
    let same : first_kids (from_node p ts) ≡ kids = is ∙ ap (λ (r : Tree). chained more A (more r us)) own.3 in
    let lawful = lawful-from p ts low l in
    let r = front-attributes true A own.0 own.1 own.2 us (lawful-kids (from_node p ts) A own.0 own.1 own.2 us lawful same) (subst AreLawfulTrees same (first-lawful (from_node p ts) lawful)) i few in
    let size : i < node_count_all (first_kids (from_node p ts)) = omega (arith, few, ap node_count_all same, count-chained A (more (node Attribute own.0 own.1 own.2) us)) in
    (r.0, r.1, node-below p ts low i size ∙ ap (λ (js : Trees). slice_get (nodes_all js) i) same ∙ r.2)

module _ (t : Tree) (d : IsDocument t) (n : ℕ) (told : Some Attribute ≡ kind_at t n) where
  abbrev before : Trees
  before = (at-told t n Attribute told).place.before

  abbrev here : Tree
  here = (at-told t n Attribute told).place.here

  abbrev behind : Trees
  behind = (at-told t n Attribute told).place.behind

  pub element : IsAmongKids t n before here behind
  element = parent-kids t d n (at-told t n Attribute told).place (told-low t n Attribute told) (at-told t n Attribute told).there (here-is t n Attribute told)

  low : element.parent < node_count_all (more t none)
  low = omega (arith, element.low)

  in-tree : (i : ℕ) → slice_get (nodes t) i ≡ slice_get (nodes_all (more t none)) i
  in-tree i = ap (λ (xs : List Tree). slice_get xs i) (sym (append-nil (nodes t)))

  attribute-in : (i : ℕ) → IsAttributeIn i (more t none) → (y : List ℕ) × IsAttributeAt t i y
  attribute-in i h = (h.0, (h.1, in-tree i ∙ h.2))

  -- it is no attribute
  pub element-none : (y : List ℕ) → IsAttributeAt t element.parent y → ⊥
  element-none y h =
      let a = node-at element.parent (more t none) low in
      never-none before here behind (sym (bare a.here (node Attribute y h.0 none) a.behind (sym a.node_is ∙ sym (in-tree element.parent) ∙ h.1) refl) ∙ ap first_kids (sym a.from_is) ∙ element.kids)
    where
      bare : (s r : Tree) (us : Trees) → Some s ≡ Some r → first_kids (more r us) ≡ none → first_kids (more s us) ≡ none
      bare s r us e f = let g : s ≡ r = cc in ap (λ (q : Tree). first_kids (more q us)) g ∙ f

  -- and all nodes behind it up to the attribute are
  pub between : (j : ℕ) → element.parent < j → j ≤ n → (y : List ℕ) × IsAttributeAt t j y
  between j above up =
      let i : ℕ = j - 1 - element.parent in
      let z : element.parent + suc i ≡ j = omega (arith, above) in
      let few : i ≤ node_count_all before = omega (arith, up, z, element.number) in
      attribute-in j (subst (λ (k : ℕ). IsAttributeIn k (more t none)) z (kid-attribute (more t none) (d.lawful, tt) element.parent low before here behind element.kids (here-is t n Attribute told) i few))

  same-parent : (m : ℕ) → Some (Some m) ≡ parent_at (more t none) n → m ≡ element.parent
  same-parent m e = same-told m element.parent (e ∙ element.told)

  pub has-before : 1 ≤ n
  has-before = omega (arith, element.number)

  -- the node before it
  pub between-first : IsBetween t n (n - 1)
  between-first = record { parent = element.parent; told = sym element.told; from = omega (arith, element.number); to = omega (arith, element.number) }

  module _ (i : ℕ) (b : IsBetween t n i) where
    -- an attribute has one before it
    module _ (y : List ℕ) (h : IsAttributeAt t i y) where
      above : b.parent < i
      above = by_same (cases_lt b.parent i)
        where
          by_same : (b.parent < i) ⊎ (i ≤ b.parent) → b.parent < i
          by_same (inl low) = low
          by_same (inr high) =
              let same : i ≡ element.parent = omega (arith, high, b.from, same-parent b.parent b.told) in
              absurd (element-none y (subst (λ (j : ℕ). IsAttributeAt t j y) same h))

      pub above-none : 1 ≤ i
      above-none = omega (arith, above)

      pub between-next : IsBetween t n (i - 1)
      between-next = record { parent = b.parent; told = b.told; from = omega (arith, above); to = omega (arith, b.to) }

    -- and what is none is the element
    pub between-end : ((y : List ℕ) → IsAttributeAt t i y → ⊥) → Some (Some i) ≡ parent_at (more t none) n
    between-end h = by_same (cases_lt element.parent i)
      where
        by_same : (element.parent < i) ⊎ (i ≤ element.parent) → Some (Some i) ≡ parent_at (more t none) n
        by_same (inl low) = let r = between i low (omega (arith, b.to)) in absurd (h r.0 r.1)
        by_same (inr high) =
            let same : i ≡ element.parent = omega (arith, high, b.from, same-parent b.parent b.told) in
            ap (λ (j : ℕ). Some (Some j)) same ∙ sym element.told
