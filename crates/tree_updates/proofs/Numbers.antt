-- What numbers tell of the siblings from a node on.
use Rattle.std.proofs.Common.{◌≡◌, ◌≢◌, ℕ, suc, ◌+◌, ◌<◌, List, [], true, false, refl, ap, sym, ◌∙◌, arith, append-nil, Some}
use Rattle.std.specs.Prelude.{slice_get, option_map}
use Rattle.plain_tree.specs.declared.kind.Kind.{Kind}
use Rattle.plain_tree.specs.declared.kind.Kind.TheVariants.{Document, Element, Attribute, Text, Comment, Instruction}
use Rattle.plain_tree.specs.Lawful.{IsLawfulTree, AreLawfulTrees}
use Rattle.plain_tree.specs.Numbers.{nodes, nodes_all, kind_of}
use Rattle.plain_tree.specs.Tree.{Tree, node, Trees, none, more, node_count, node_count_all}
use Rattle.plain_tree.proofs.NodeCounts.{length-nodes_all}
use Rattle.preorder_address.specs.TreeNumbers.{kind_at}
use Rattle.plain_tree.proofs.Changing.{each-node, some-from, some-node, from_node, from-inside, from-later, from-deeper}
use Rattle.rule_arena.proofs.PreorderLemmas.{slice_get-left}
use Rattle.preorder_address.proofs.TreePlaces.{get-right}
use Rattle.plain_tree.proofs.SeamTexts.{text, begins_text, text_before}

-- node n, with the siblings behind it
pub record NodeAt (n : ℕ) (ts : Trees) : Type 0 where
  pub here : Tree
  pub behind : Trees
  pub node_is : slice_get (nodes_all ts) n ≡ Some here
  pub from_is : from_node n ts ≡ more here behind
  pub lawful : AreLawfulTrees ts → IsLawfulTree here × AreLawfulTrees behind

node-first : (t : Tree) (ts : Trees) → NodeAt 0 (more t ts)
node-first (node k m v ks) ts = record { here = node k m v ks; behind = ts; node_is = refl; from_is = refl; lawful = λ l. (l.0, l.1) }

pub node-at : (n : ℕ) (ts : Trees) → n < node_count_all ts → NodeAt n ts
node-at = each-node NodeAt node-first
    (λ k m v ks ts n h r. record {
      here = r.here;
      behind = r.behind;
      node_is = slice_get-left (nodes_all ks) (nodes_all ts) n (omega (arith, length-nodes_all ks)) ∙ r.node_is;
      from_is = from-inside k m v ks ts n h ∙ r.from_is;
      lawful = λ l. r.lawful l.0.2;
    })
    (λ k m v ks ts d h r. record {
      here = r.here;
      behind = r.behind;
      node_is = get-right (nodes_all ks) (nodes_all ts) (node_count_all ks) d (sym (length-nodes_all ks)) ∙ r.node_is;
      from_is = from-later k m v ks ts d ∙ r.from_is;
      lawful = λ l. r.lawful l.1;
    })

-- a lawful text has no name and no kids
text-is : (m v : List ℕ) (ks : Trees) → IsLawfulTree (node Text m v ks) → node Text m v ks ≡ text v
text-is m v ks l = let name : m ≡ [] = l.0.0 in let kids : ks ≡ none = l.1 in cc

some-kind : (k l : Kind) → Some k ≡ Some l → k ≡ l
some-kind k l e = cc

is-text : (t : Tree) → IsLawfulTree t → kind_of t ≡ Text → (v : List ℕ) × (t ≡ text v)
is-text (node Text m v ks) l e = (v, text-is m v ks l)
is-text (node Document m v ks) l e = cc
is-text (node Element m v ks) l e = cc
is-text (node Attribute m v ks) l e = cc
is-text (node Comment m v ks) l e = cc
is-text (node Instruction m v ks) l e = cc

no-text-before : (t : Tree) (us : Trees) → (kind_of t ≡ Text → ⊥) → text_before (more t us) ≡ false
no-text-before (node Text m v ks) us h = absurd (h refl)
no-text-before (node Document m v ks) us h = refl
no-text-before (node Element m v ks) us h = refl
no-text-before (node Attribute m v ks) us h = refl
no-text-before (node Comment m v ks) us h = refl
no-text-before (node Instruction m v ks) us h = refl

pub no-text-begins : (t : Tree) (us : Trees) → (kind_of t ≡ Text → ⊥) → begins_text (more t us) ≡ false
no-text-begins (node Text m v ks) us h = absurd (h refl)
no-text-begins (node Document m v ks) us h = refl
no-text-begins (node Element m v ks) us h = refl
no-text-begins (node Attribute m v ks) us h = refl
no-text-begins (node Comment m v ks) us h = refl
no-text-begins (node Instruction m v ks) us h = refl

alone-before : (t : Tree) → text_before (more t none) ≡ false
alone-before (node Text m v ks) = refl
alone-before (node Document m v ks) = refl
alone-before (node Element m v ks) = refl
alone-before (node Attribute m v ks) = refl
alone-before (node Comment m v ks) = refl
alone-before (node Instruction m v ks) = refl

module _ (t : Tree) (l : IsLawfulTree t) (n : ℕ) (low : n < node_count t) where
  abbrev ts : Trees
  ts = more t none

  pub at : NodeAt n (more t none)
  at = node-at n (more t none) (omega arith)

  pub in-tree : slice_get (nodes t) n ≡ Some at.here
  in-tree = ap (λ xs. slice_get xs n) (sym (append-nil (nodes t))) ∙ at.node_is

  kind-told : kind_at t n ≡ Some (kind_of at.here)
  kind-told = ap (option_map kind_of) in-tree

  pub all-lawful : IsLawfulTree at.here × AreLawfulTrees at.behind
  all-lawful = at.lawful (l, tt)

  -- a node that is told to be a text is one
  pub told-text : kind_at t n ≡ Some Text → (v : List ℕ) × (from_node n (more t none) ≡ more (text v) at.behind)
  told-text e =
      let r = is-text at.here all-lawful.0 (some-kind (kind_of at.here) Text (sym kind-told ∙ e)) in
      (r.0, at.from_is ∙ ap (λ s. more s at.behind) r.1)

  -- no text stands before another node where node n is none
  pub told-no-text : (kind_at t n ≡ Some Text → ⊥) → text_before (from_node n (more t none)) ≡ false
  told-no-text h = ap text_before at.from_is ∙ no-text-before at.here at.behind (λ e. h (kind-told ∙ ap Some e))

  -- or has no sibling behind it
  pub told-alone : at.behind ≡ none → text_before (from_node n (more t none)) ≡ false
  told-alone e = ap text_before (at.from_is ∙ ap (more at.here) e) ∙ alone-before at.here

  -- a text with a sibling behind it stands before another node
  pub told-before : kind_at t n ≡ Some Text → at.behind ≢ none → text_before (from_node n (more t none)) ≡ true
  told-before e h = let r = told-text e in ap text_before r.1 ∙ by_behind r.0 at.behind h
    where
      by_behind : (v : List ℕ) (us : Trees) → us ≢ none → text_before (more (text v) us) ≡ true
      by_behind v none h = absurd (h refl)
      by_behind v (more s us) h = refl

-- the siblings behind a node begin behind all that is below it
pub from-behind : (t : Tree) (n : ℕ) → n < node_count t → (here : Tree) (behind : Trees) → from_node n (more t none) ≡ more here behind → behind ≢ none
    → (n + node_count here < node_count t) × (from_node (n + node_count here) (more t none) ≡ behind)
from-behind t n low here none f h = absurd (h refl)
from-behind t n low (node k x v ks) (more r us) f h =
    let c : ℕ = node_count_all ks in
    let size : suc c < node_count_all (from_node n (more t none)) = rw f (omega (arith, some-node r)) in
    let i : n + (c + 1) ≡ n + suc c = omega arith in
    let z : suc c ≡ suc (c + 0) = omega arith in (
      omega (arith, (some-from n (more t none) (omega (arith, low))).1, size),
      ap (λ (j : ℕ). from_node j (more t none)) i ∙ from-deeper n (more t none) (omega (arith, low)) c size ∙ ap (from_node (suc c)) f
          ∙ ap (λ (j : ℕ). from_node j (more (node k x v ks) (more r us))) z ∙ from-later k x v ks (more r us) 0,
    )
