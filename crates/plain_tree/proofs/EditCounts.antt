-- How many nodes an edit leaves.
use Rattle.std.proofs.Common.{◌≡◌, ℕ, ◌+◌, ◌<◌, ◌≤◌, Bool, true, false, List, [], ◌∷◌, length, refl, ap, sym, ◌∙◌, subst, arith, None}
use Rattle.std.specs.Prelude.{◌||◌, if◌then◌else◌}
use Rattle.std.specs.Str.{bytes_eq}
use Rattle.plain_tree.specs.Additions.{has_attribute, nodes_come, nodes_go}
use Rattle.plain_tree.specs.EditLaws.{EditsAreCounted}
use Rattle.plain_tree.specs.declared.kind.Kind.{Kind}
use Rattle.plain_tree.specs.declared.kind.Kind.TheVariants.{Document, Element, Attribute, Text, Comment, Instruction}
use Rattle.plain_tree.specs.Joined.{join_front}
use Rattle.plain_tree.specs.Lawful.{IsDocument}
use Rattle.plain_tree.specs.Tree.{Tree, node, Trees, none, more, trees, node_count, node_count_all}
use Rattle.plain_tree.specs.Edits.{number_of, changed, chained, with_first, with_kids, with_name, with_value, with_attribute, others, alone, made, placed, edited, merged}
use Rattle.plain_tree.specs.Meetings.{seams, joined_at_each}
use Rattle.plain_tree.specs.Siblings.{first_kids, joined_first, joined_at}
use Rattle.plain_tree.specs.Allowed.{IsAllowed, AreLawfulParts}
use Rattle.plain_tree.specs.declared.edit.Edit.{Edit}
use Rattle.plain_tree.specs.declared.edit.Edit.TheVariants.{Rename, Insert, Append, Delete, Value, Attr, Copy}
use Rattle.plain_tree.proofs.Changing.{from_node, count-changed, count-chained}
use Rattle.plain_tree.proofs.Seams.{HaveLeafTexts, leaf-from, leaf-texts}
use Rattle.plain_tree.proofs.LawfulDocuments.{BecomesDocument, stands, place-low, joined-document, placed-becomes, placed-alone}
use Rattle.plain_tree.proofs.EditedDocuments.{AreWithin, place-from, edited-joins, edited-alone}
use Rattle.plain_tree.proofs.PlainEdits.{inserted, appended, valued_at, deleted}

-- a text that is one with the text before it is one node less
front-counts : (t : Tree) (us : Trees) → HaveLeafTexts us → (node_count_all (join_front t us) ≤ node_count t + node_count_all us) × (node_count t + node_count_all us ≤ node_count_all (join_front t us) + 1)
front-counts (node Document m v ks) us l = (omega arith, omega arith)
front-counts (node Element m v ks) us l = (omega arith, omega arith)
front-counts (node Attribute m v ks) us l = (omega arith, omega arith)
front-counts (node Comment m v ks) us l = (omega arith, omega arith)
front-counts (node Instruction m v ks) us l = (omega arith, omega arith)
front-counts (node Text m v ks) none l = (omega arith, omega arith)
front-counts (node Text m v ks) (more (node Text n w ls) us) l = let c : node_count_all ls ≡ 0 = ap node_count_all (l.0 refl) in (omega arith, omega (arith, c))
front-counts (node Text m v ks) (more (node Document n w ls) us) l = (omega arith, omega arith)
front-counts (node Text m v ks) (more (node Element n w ls) us) l = (omega arith, omega arith)
front-counts (node Text m v ks) (more (node Attribute n w ls) us) l = (omega arith, omega arith)
front-counts (node Text m v ks) (more (node Comment n w ls) us) l = (omega arith, omega arith)
front-counts (node Text m v ks) (more (node Instruction n w ls) us) l = (omega arith, omega arith)

first-counts : (us : Trees) → HaveLeafTexts us → (node_count_all (joined_first us) ≤ node_count_all us) × (node_count_all us ≤ node_count_all (joined_first us) + 1)
first-counts none l = (omega arith, omega arith)
first-counts (more (node k m v ks) us) l = front-counts (node k m v ks) us l.2

-- a seam takes at most one node
pub joined-counts : (a : ℕ) (ts : Trees) → a < node_count_all ts → HaveLeafTexts ts → (node_count_all (joined_at a ts) ≤ node_count_all ts) × (node_count_all ts ≤ node_count_all (joined_at a ts) + 1)
joined-counts a ts low l =
    let f = first-counts (from_node a ts) (leaf-from a ts low l) in
    let c = count-changed joined_first a ts low in
    (omega (arith, f.0, c), omega (arith, f.1, c))

module _ (n : ℕ) (ts : Trees) (low : n < node_count_all ts) where
  pub count-inserted : (F : Trees) → node_count_all (inserted more F n ts) ≡ node_count_all ts + node_count_all F
  count-inserted F = omega (arith, count-changed (chained more F) n ts low, count-chained F (from_node n ts))

  module _ (k : Kind) (m v : List ℕ) (ks us : Trees) (here : from_node n ts ≡ more (node k m v ks) us) where
    pub count-deleted : node_count_all (deleted n ts) + (node_count_all ks + 1) ≡ node_count_all ts
    count-deleted = omega (arith, count-changed others n ts low, ap node_count_all here, ap (λ xs. node_count_all (others xs)) here)

    pub count-valued : (w : List ℕ) → node_count_all (valued_at w n ts) ≡ node_count_all ts
    count-valued w = omega (arith, count-changed (with_first (with_value w)) n ts low, ap node_count_all here, ap (λ xs. node_count_all (with_first (with_value w) xs)) here)

    pub count-appended : (F : Trees) → node_count_all (appended more F n ts) ≡ node_count_all ts + node_count_all F
    count-appended F =
        let g : Trees → Trees = with_first (with_kids (λ kids. chained more kids F)) in
        omega (arith, count-changed g n ts low, ap node_count_all here, ap (λ xs. node_count_all (g xs)) here, count-chained ks F)

    pub count-copied : node_count_all (made more (Copy n) ts) ≡ node_count_all ts + (node_count_all ks + 1)
    count-copied =
        let g : Trees → Trees = λ us. chained more (alone us) us in
        omega (arith, count-changed g n ts low, ap node_count_all here, ap (λ xs. node_count_all (g xs)) here)

document-leaves : (ts : Trees) → BecomesDocument ts → HaveLeafTexts ts
document-leaves ts b = subst HaveLeafTexts (sym b.is) (leaf-texts (more b.tree none) (b.document.lawful, tt))

joins-counts : (ns : List ℕ) (ts : Trees) → AreWithin ns ts → BecomesDocument ts → (node_count_all (joined_at_each ns ts) ≤ node_count_all ts) × (node_count_all ts ≤ node_count_all (joined_at_each ns ts) + length ns)
joins-counts [] ts w b = (omega arith, omega arith)
joins-counts (n ∷ ns) ts w b =
    let c = joined-counts n ts w.0 (document-leaves ts b) in
    let r = joins-counts ns (joined_at n ts) w.1 (joined-document ts n b w.0) in
    (omega (arith, c.0, r.0), omega (arith, c.1, r.1))

-- the edited document has as many nodes fewer as texts became one with the text before them, and these are few
pub merged-counts : (t : Tree) (e : Edit) → IsDocument t → IsAllowed t e → AreLawfulParts e → (node_count (edited t e) + merged t e ≡ node_count (placed t e)) × (merged t e ≤ length (seams t e))
merged-counts t e d allowed parts =
    let p = placed-alone t d e allowed parts in
    let r = edited-alone t d e allowed parts in
    let j = edited-joins t d e allowed parts in
    let c = joins-counts (seams t e) (made more e (more t none)) j.0 (placed-becomes t d e allowed parts) in
    let np : node_count_all (made more e (more t none)) ≡ node_count (placed t e) + 0 = ap node_count_all p.0 in
    let nr : node_count_all (joined_at_each (seams t e) (made more e (more t none))) ≡ node_count (edited t e) + 0 = ap node_count_all (sym j.1 ∙ r.0) in
    (omega (arith, c.0, np, nr), omega (arith, c.1, np, nr))

-- a new attribute is a node more
count-attribute : (name value : List ℕ) (ks : Trees) → node_count_all (with_attribute name value ks) ≡ node_count_all ks + (if has_attribute name ks then 0 else 1)
count-attribute name value none = refl
count-attribute name value (more (node Document m v ks) ts) = omega arith
count-attribute name value (more (node Element m v ks) ts) = omega arith
count-attribute name value (more (node Text m v ks) ts) = omega arith
count-attribute name value (more (node Comment m v ks) ts) = omega arith
count-attribute name value (more (node Instruction m v ks) ts) = omega arith
count-attribute name value (more (node Attribute m v ks) ts) = by_test (bytes_eq m name) (has_attribute name ts) (count-attribute name value ts)
  where
    by_test : (b c : Bool) → node_count_all (with_attribute name value ts) ≡ node_count_all ts + (if c then 0 else 1)
        → node_count_all (if b then (more (node Attribute m value ks) ts) else more (node Attribute m v ks) (with_attribute name value ts))
        ≡ node_count_all (more (node Attribute m v ks) ts) + (if b || c then 0 else 1)
    by_test true c e = omega arith
    by_test false true e = omega (arith, e)
    by_test false false e = omega (arith, e)

-- the first of some siblings becomes another
count-first : (F : Tree → Tree) (n : ℕ) (ts : Trees) → n < node_count_all ts → (s : Tree) (us : Trees) → from_node n ts ≡ more s us
    → node_count_all (changed more (with_first F) n ts) + node_count s ≡ node_count_all ts + node_count (F s)
count-first F n ts low s us here =
    omega (arith, count-changed (with_first F) n ts low, ap node_count_all here, ap (λ xs. node_count_all (with_first F xs)) here)

-- how many nodes there are after an edit but for texts that meet
made-counts : (t : Tree) (e : Edit) (s : Tree) (us : Trees) → from_node (number_of e) (more t none) ≡ more s us → number_of e < node_count t
    → node_count_all (made more e (more t none)) + nodes_go t e ≡ node_count t + nodes_come t e
made-counts t (Rename n x) (node k m v ks) us here low = omega (arith, count-first (with_name x) n (more t none) (omega (arith, low)) (node k m v ks) us here)
made-counts t (Value n w) (node k m v ks) us here low = omega (arith, count-first (with_value w) n (more t none) (omega (arith, low)) (node k m v ks) us here)
made-counts t (Attr n x w) (node k m v ks) us here low =
    omega (
      arith,
      count-first (with_kids (with_attribute x w)) n (more t none) (omega (arith, low)) (node k m v ks) us here,
      count-attribute x w ks,
      ap {B = ℕ} (λ xs. if has_attribute x (first_kids xs) then 0 else 1) here,
    )
made-counts t (Insert n F) s us here low = omega (arith, count-inserted n (more t none) (omega (arith, low)) (trees F))
made-counts t (Append n F) (node k m v ks) us here low = omega (arith, count-appended n (more t none) (omega (arith, low)) k m v ks us here (trees F))
made-counts t (Delete n) (node k m v ks) us here low = omega (arith, count-deleted n (more t none) (omega (arith, low)) k m v ks us here, ap (λ xs. node_count_all (first_kids xs)) here)
made-counts t (Copy n) (node k m v ks) us here low = omega (arith, count-copied n (more t none) (omega (arith, low)) k m v ks us here, ap (λ xs. node_count_all (first_kids xs)) here)

pub edits-are-counted : EditsAreCounted
edits-are-counted t e h =
    let s = stands t e h.allowed in
    let low = place-low None none (number_of e) (more t none) s.place s.there in
    let alone = placed-alone t h.document_is e h.allowed h.parts in
    let n = ap node_count_all alone.0 in
    omega (arith, n, made-counts t e s.place.here s.place.behind (place-from None none (number_of e) (more t none) s.place s.there) (omega (arith, low)))
