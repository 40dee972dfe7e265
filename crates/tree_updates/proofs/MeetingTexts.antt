-- The texts that meet where a node goes.
use Rattle.std.proofs.Common.{◌≡◌, ◌≢◌, ℕ, zero, suc, ◌+◌, ◌-◌, ◌<◌, Bool, true, false, List, refl, ap, sym, ◌∙◌, arith, Option, Some, None}
use Rattle.std.specs.Prelude.{if◌then◌else◌, option_map}
use Rattle.std.proofs.Math.Bool.{true≢false}
use Rattle.plain_tree.specs.declared.kind.Kind.{Kind}
use Rattle.plain_tree.specs.declared.kind.Kind.TheVariants.{Document, Element, Attribute, Text, Comment, Instruction}
use Rattle.plain_tree.specs.declared.edit.Edit.TheVariants.{Delete}
use Rattle.plain_tree.specs.Edits.{edited, first_or, placed}
use Rattle.plain_tree.specs.InTurn.{first_text}
use Rattle.plain_tree.specs.Lawful.{IsDocument}
use Rattle.plain_tree.specs.Numbers.{kind_of}
use Rattle.plain_tree.specs.Siblings.{begins_text, from_node, text_before}
use Rattle.plain_tree.specs.Tree.{Tree, node, Trees, none, more, node_count}
use Rattle.plain_tree.proofs.Changing.{from-deeper, some-node}
use Rattle.plain_tree.proofs.PlainEdits.{delete-apart, delete-aside}
use Rattle.plain_tree.proofs.Seams.{HaveLeafTexts, leaf-texts}
use Rattle.plain_tree.proofs.SeamTexts.{text}
use Rattle.plain_tree.proofs.TextsAt.{TextBefore, lawful-from, some-before}
use Rattle.preorder_address.specs.Spots.{place_at}
use Rattle.preorder_address.specs.TreeNumbers.{kind_at}
use Rattle.tree_updates.specs.Extents.{StandsBetween}
use Rattle.tree_updates.specs.CallAnswers.{is_text}
use Rattle.tree_updates.proofs.Numbers.{at, from-behind, in-tree, no-text-begins, told-alone, told-before, told-no-text, told-text}
use Rattle.tree_updates.proofs.SpotPlaces.{last-behind, next-behind}

first-there : (us : Trees) → text_before us ≡ true → (v : List ℕ) × (first_text us ≡ Some v)
first-there none b = absurd (true≢false (sym b))
first-there (more (node Text m w ks) us) b = (w, refl)
first-there (more (node Document m w ks) us) b = absurd (true≢false (sym b))
first-there (more (node Element m w ks) us) b = absurd (true≢false (sym b))
first-there (more (node Attribute m w ks) us) b = absurd (true≢false (sym b))
first-there (more (node Comment m w ks) us) b = absurd (true≢false (sym b))
first-there (more (node Instruction m w ks) us) b = absurd (true≢false (sym b))

others-same : (s t : Tree) (us vs : Trees) → more s us ≡ more t vs → us ≡ vs
others-same s t us vs e = cc

first-same : (s t : Tree) (us vs : Trees) → more s us ≡ more t vs → s ≡ t
first-same s t us vs e = cc

module _ (t : Tree) (d : IsDocument t) (a : ℕ) (low : suc a < node_count t) where
  leaf : HaveLeafTexts (more t none)
  leaf = leaf-texts (more t none) (d.lawful, tt)

  -- no text stands before the node
  apart-before : text_before (from_node a (more t none)) ≡ false → edited t (Delete (suc a)) ≡ placed t (Delete (suc a))
  apart-before e = ap (first_or t) (delete-apart a (more t none) (omega (arith, low)) leaf e)

  module _ (here : Tree) (behind : Trees) (from_is : from_node (suc a) (more t none) ≡ more here behind) where
    module _ (before : text_before (from_node a (more t none)) ≡ true) where
      left : TextBefore (from_node a (more t none)) (first-there (from_node a (more t none)) before).0
      left =
          let us : Trees = from_node a (more t none) in
          let f = first-there us before in
          some-before us f.0 (lawful-from a (more t none) (omega (arith, low)) (d.lawful, tt)) (ap (λ b. if b then (first_text us) else None) before ∙ f.1)

      -- the text and the node are neighbours
      here-is : from_node (suc a) (more t none) ≡ more left.next left.behind
      here-is =
          let z : a + 1 ≡ suc a = omega arith in
          ap (λ (j : ℕ). from_node j (more t none)) (sym z) ∙ from-deeper a (more t none) (omega (arith, low)) 0 (rw left.is (omega (arith, some-node left.next))) ∙ ap (from_node 1) left.is ∙ second left.next
        where
          second : (s : Tree) → from_node 1 (more (text (first-there (from_node a (more t none)) before).0) (more s left.behind)) ≡ more s left.behind
          second (node k m v ks) = refl

      same-behind : behind ≡ left.behind
      same-behind = others-same here left.next behind left.behind (sym from_is ∙ here-is)

      same-here : here ≡ left.next
      same-here = first-same here left.next behind left.behind (sym from_is ∙ here-is)

      aside : begins_text behind ≡ false → edited t (Delete (suc a)) ≡ placed t (Delete (suc a))
      aside e =
          ap (first_or t)
          (delete-aside a (more t none) (omega (arith, low)) (first-there (from_node a (more t none)) before).0 left.next left.behind left.is (ap begins_text (sym same-behind) ∙ e))

      between : (v : List ℕ) (us : Trees) → behind ≡ more (text v) us → (right : ℕ) → right ≡ suc a + node_count here → StandsBetween t (suc a) right
      between v us e right r =
          let first : suc a - 1 ≡ a = omega arith in
          let x : List ℕ = (first-there (from_node a (more t none)) before).0 in
          record {
            before = (first-there (from_node a (more t none)) before).0;
            here = left.next;
            after = v;
            behind = us;
            from_is = ap (λ (j : ℕ). from_node j (more t none)) first ∙ left.is ∙ ap (λ ws. more (text x) (more left.next ws)) (sym same-behind ∙ e);
            right_is = r ∙ ap (λ s. suc a + node_count s) same-here;
          }

    -- no text stands behind it
    apart-behind : begins_text behind ≡ false → edited t (Delete (suc a)) ≡ placed t (Delete (suc a))
    apart-behind e = by_before (text_before (from_node a (more t none))) refl
      where
        by_before : (b : Bool) → text_before (from_node a (more t none)) ≡ b → edited t (Delete (suc a)) ≡ placed t (Delete (suc a))
        by_before false f = apart-before f
        by_before true f = aside f e

pub text-told : (k : Option Kind) → is_text k ≡ true → k ≡ Some Text
text-told None e = absurd (true≢false (sym e))
text-told (Some Text) e = refl
text-told (Some Document) e = absurd (true≢false (sym e))
text-told (Some Element) e = absurd (true≢false (sym e))
text-told (Some Attribute) e = absurd (true≢false (sym e))
text-told (Some Comment) e = absurd (true≢false (sym e))
text-told (Some Instruction) e = absurd (true≢false (sym e))

-- the same at a node's number
module _ (t : Tree) (d : IsDocument t) where
  before-is : (a : ℕ) → text_before (from_node (suc a - 1) (more t none)) ≡ text_before (from_node a (more t none))
  before-is a = let z : suc a - 1 ≡ a = omega arith in ap (λ (j : ℕ). text_before (from_node j (more t none))) z

  pub no-text-before : (n : ℕ) → 0 < n → n < node_count t → text_before (from_node (n - 1) (more t none)) ≡ false → edited t (Delete n) ≡ placed t (Delete n)
  no-text-before zero some low e = absurd (omega (arith, some))
  no-text-before (suc a) some low e = apart-before t d a low (sym (before-is a) ∙ e)

  pub no-text-behind : (n : ℕ) → 0 < n → n < node_count t → (here : Tree) (behind : Trees) → from_node n (more t none) ≡ more here behind → begins_text behind ≡ false → edited t (Delete n) ≡ placed t (Delete n)
  no-text-behind zero some low here behind f e = absurd (omega (arith, some))
  no-text-behind (suc a) some low here behind f e = apart-behind t d a low here behind f e

  pub texts-meet : (n : ℕ) → 0 < n → n < node_count t → (here : Tree) (behind : Trees) → from_node n (more t none) ≡ more here behind → text_before (from_node (n - 1) (more t none)) ≡ true → (v : List ℕ) (us : Trees) → behind ≡ more (text v) us
      → (right : ℕ) → right ≡ n + node_count here → StandsBetween t n right
  texts-meet zero some low here behind f b v us e right r = absurd (omega (arith, some))
  texts-meet (suc a) some low here behind f b v us e right r = between t d a low here behind f (sym (before-is a) ∙ b) v us e right r

-- whether a text stands before node n, by what is told of the node with the number before
module _ (t : Tree) (d : IsDocument t) (n : ℕ) (some : 0 < n) (low : n < node_count t) (kind : Option Kind) (kind-is : kind ≡ kind_at t (n - 1)) where
  low-before : n - 1 < node_count t
  low-before = omega (arith, low)

  pub other-before : is_text kind ≡ false → text_before (from_node (n - 1) (more t none)) ≡ false
  other-before e = told-no-text t d.lawful (n - 1) low-before (λ f. true≢false (sym (ap is_text (kind-is ∙ f)) ∙ e))

  module _ (is : is_text kind ≡ true) (p q : ℕ) (place : Some p ≡ place_at t (n - 1)) (here : Some q ≡ place_at t n) where
    there : (v : List ℕ) × (from_node (n - 1) (more t none) ≡ more (text v) (at t d.lawful (n - 1) low-before).behind)
    there = told-text t d.lawful (n - 1) low-before (sym kind-is ∙ text-told kind is)

    next : Some q ≡ place_at t (n - 1 + node_count (text there.0))
    next = let z : n ≡ n - 1 + node_count (text there.0) = omega (arith, some) in here ∙ ap (place_at t) z

    pub is-before : p + 2 ≡ q → text_before (from_node (n - 1) (more t none)) ≡ true
    is-before e =
        told-before t d.lawful (n - 1) low-before (sym kind-is ∙ text-told kind is)
        (next-behind t (n - 1) low-before (text there.0) (at t d.lawful (n - 1) low-before).behind there.1 p q place next (omega (arith, e)))

    pub not-before : p + 2 ≢ q → text_before (from_node (n - 1) (more t none)) ≡ false
    not-before h =
        told-alone t d.lawful (n - 1) low-before
        (last-behind t (n - 1) low-before (text there.0) (at t d.lawful (n - 1) low-before).behind there.1 p q place next (λ f. h (omega (arith, f))))

-- whether one stands behind it, by what is told of the first node behind all below it
module _ (t : Tree) (d : IsDocument t) (n : ℕ) (low : n < node_count t) (here : Tree) (behind : Trees) (from_is : from_node n (more t none) ≡ more here behind) (kind : Option Kind) (kind-is : kind ≡ kind_at t (n + node_count here)) where
  never : (s : Tree) (us : Trees) → more s us ≢ none
  never s us e = cc

  pub other-behind : is_text kind ≡ false → begins_text behind ≡ false
  other-behind e = by_behind behind refl
    where
      by_behind : (us : Trees) → behind ≡ us → begins_text us ≡ false
      by_behind none f = refl
      by_behind (more s us) f =
          let r = from-behind t n low here behind from_is (λ g. never s us (sym f ∙ g)) in
          let B = at t d.lawful (n + node_count here) r.0 in
          let k = kind-is ∙ ap (option_map kind_of) (in-tree t d.lawful (n + node_count here) r.0) in
          ap begins_text (sym f ∙ sym r.1 ∙ B.from_is) ∙ no-text-begins B.here B.behind (λ g. true≢false (sym (ap is_text (k ∙ ap (λ (j : Kind). Some j) g)) ∙ e))

  pub text-behind : is_text kind ≡ true → behind ≢ none → (v : List ℕ) × (us : Trees) × (behind ≡ more (text v) us)
  text-behind is h =
      let r = from-behind t n low here behind from_is h in
      let x = told-text t d.lawful (n + node_count here) r.0 (sym kind-is ∙ text-told kind is) in
      (x.0, (at t d.lawful (n + node_count here) r.0).behind, sym r.1 ∙ x.1)
