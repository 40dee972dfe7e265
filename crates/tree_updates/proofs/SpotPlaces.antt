-- What places tell, which are counted with the bottoms: which node stands next behind another, and under what a node stands.
use Rattle.std.proofs.Common.{◌≡◌, ◌≢◌, ℕ, zero, suc, ◌+◌, ◌-◌, ◌*◌, ◌<◌, ◌≤◌, List, ◌++◌, length, Option, Some, None, Bool, true, false, refl, ap, sym, ◌∙◌, subst, arith, ◌⊎◌, inl, inr}
use Rattle.std.specs.Prelude.{option_map, slice_get}
use Rattle.std.proofs.lemmas.Bool.{cases_lt}
use Rattle.std.proofs.lemmas.Option.{same_Some}
use Rattle.plain_tree.specs.declared.kind.Kind.{Kind}
use Rattle.plain_tree.specs.declared.kind.Kind.TheVariants.{Document, Element, Attribute, Text, Comment, Instruction}
use Rattle.plain_tree.specs.Edits.{chained}
use Rattle.plain_tree.specs.Lawful.{AreDocumentKids, AreElementKids, AreKids, AreLawfulTrees, IsDocument}
use Rattle.plain_tree.specs.Numbers.{kind_of}
use Rattle.plain_tree.specs.Places.{Place, place_in}
use Rattle.plain_tree.specs.Siblings.{from_node}
use Rattle.plain_tree.specs.Tree.{Tree, node, Trees, none, more, node_count, node_count_all}
use Rattle.plain_tree.proofs.Changing.{each-node, from-inside, from-later, some-from, some-node}
use Rattle.plain_tree.proofs.LawfulEdits.{place-inside, place-later}
use Rattle.preorder_address.specs.Spots.{place_at}
use Rattle.preorder_address.specs.TreeNumbers.{placed}
use Rattle.preorder_address.proofs.TreePlaces.{get-right, length-placed}
use Rattle.rule_arena.proofs.PreorderLemmas.{slice_get-left}
use Rattle.tree_updates.specs.CallAnswers.{above_at}
use Rattle.tree_updates.proofs.KidPlaces.{placed-within}
use Rattle.tree_updates.proofs.ListCuts.{get-front}
use Rattle.tree_updates.proofs.NodePlaces.{some-place}
use Rattle.tree_updates.proofs.Numbers.{node-at}

-- Node n, with this behind it, takes a place. Its next sibling, if there is one, is the first node behind all below it and takes the place behind;
-- else that node takes a later one.
record TakesPlace (n : ℕ) (ts : Trees) (here : Tree) (behind : Trees) : Type 0 where
  own : ℕ
  place : (b : ℕ) → slice_get (placed b ts) n ≡ Some (b + own, here)
  next : (s : Tree) (us : Trees) → behind ≡ more s us → (b : ℕ) → slice_get (placed b ts) (n + node_count here) ≡ Some (b + own + 2 * node_count here, s)
  last : behind ≡ none → (b q : ℕ) (s : Tree) → slice_get (placed b ts) (n + node_count here) ≡ Some (q, s) → b + own + 2 * node_count here < q

abbrev HasPlaces : ℕ → Trees → Type 0
HasPlaces n ts = (here : Tree) (behind : Trees) → from_node n ts ≡ more here behind → TakesPlace n ts here behind

pub placed-first : (b : ℕ) (t : Tree) (ts : Trees) → slice_get (placed b (more t ts)) 0 ≡ Some (b, t)
placed-first b (node k m v ks) ts = refl

own-places : (t : Tree) (ts : Trees) → TakesPlace 0 (more t ts) t ts
own-places (node k m v ks) ts =
    let t : Tree = node k m v ks in
    let c : ℕ = node_count_all ks in
    let i : 0 + node_count t ≡ suc (c + 0) = omega arith in
    let there : (b : ℕ) → slice_get (placed b (more t ts)) (0 + node_count t) ≡ slice_get (placed (b + 2 + 2 * c) ts) 0 =
    λ b. ap (slice_get (placed b (more t ts))) i ∙ get-right (placed (b + 1) ks) (placed (b + 2 + 2 * c) ts) c 0 (sym (length-placed (b + 1) ks)) in
    record {
      own = 0;
      place = λ b. let z : b ≡ b + 0 = omega arith in ap (λ (j : ℕ). Some (j, t)) z;
      next = λ s us e b.
          let z : b + 2 + 2 * c ≡ b + 0 + 2 * node_count t = omega arith in
          there b ∙ ap (λ (xs : Trees). slice_get (placed (b + 2 + 2 * c) xs) 0) e ∙ placed-first (b + 2 + 2 * c) s us ∙ ap (λ (j : ℕ). Some (j, s)) z;
      last = λ e b q s f. absurd (nothing (b + 2 + 2 * c) ts q s e (sym (there b) ∙ f));
    }
  where
    nothing : (b : ℕ) (ts : Trees) (q : ℕ) (s : Tree) → ts ≡ none → slice_get (placed b ts) 0 ≡ Some (q, s) → ⊥
    nothing b none q s e f = cc
    nothing b (more t ts) q s e f = cc

places-first : (t : Tree) (ts : Trees) → HasPlaces 0 (more t ts)
places-first t ts here behind e =
    let f : t ≡ here = cc in
    let g : ts ≡ behind = cc in
    subst (λ (s : Tree). TakesPlace 0 (more t ts) s behind) f (subst (λ (us : Trees). TakesPlace 0 (more t ts) t us) g (own-places t ts))

places-inside : (k : Kind) (m v : List ℕ) (ks ts : Trees) (n : ℕ) → n < node_count_all ks → HasPlaces n ks → HasPlaces (suc n) (more (node k m v ks) ts)
places-inside k m v ks ts n low r here behind e =
    let c : ℕ = node_count here in
    let all : Trees = more (node k m v ks) ts in
    let x = r here behind (sym (from-inside k m v ks ts n low) ∙ e) in
    let i : suc n + c ≡ suc (n + c) = omega arith in
    let kids : ℕ → List (ℕ × Tree) = λ b. placed (b + 1) ks in
    let others : ℕ → List (ℕ × Tree) = λ b. placed (b + 2 + 2 * node_count_all ks) ts in
    record {
      own = 1 + x.own;
      place = λ b.
          let z : b + 1 + x.own ≡ b + (1 + x.own) = omega arith in
          slice_get-left (kids b) (others b) n (omega (arith, length-placed (b + 1) ks)) ∙ x.place (b + 1) ∙ ap (λ (j : ℕ). Some (j, here)) z;
      next = λ s us f b.
          let z : b + 1 + x.own + 2 * c ≡ b + (1 + x.own) + 2 * c = omega arith in
          ap (slice_get (placed b all)) i ∙ get-front (kids b) (others b) (n + c) (b + 1 + x.own + 2 * c, s) (x.next s us f (b + 1)) ∙ ap (λ (j : ℕ). Some (j, s)) z;
      last = λ f b q s g.
          let there : slice_get (kids b ++ others b) (n + c) ≡ Some (q, s) = ap (slice_get (placed b all)) (sym i) ∙ g in
          elim (cases_lt (n + c) (length (kids b))) [
            | inl h ↦ let l = x.last f (b + 1) q s (sym (slice_get-left (kids b) (others b) (n + c) h) ∙ there) in omega (arith, l)
            | inr h ↦
                let d : ℕ = n + c - length (kids b) in
                let y : n + c ≡ length (kids b) + d = omega (arith, h) in
                let w = placed-within ts (b + 2 + 2 * node_count_all ks) d q s (sym (get-right (kids b) (others b) (length (kids b)) d refl) ∙ ap (slice_get (kids b ++ others b)) (sym y) ∙ there) in
                let u = placed-within ks (b + 1) n (b + 1 + x.own) here (x.place (b + 1)) in
                omega (arith, w.0, u.1)
          ];
    }

places-later : (k : Kind) (m v : List ℕ) (ks ts : Trees) (d : ℕ) → d < node_count_all ts → HasPlaces d ts → HasPlaces (suc (node_count_all ks + d)) (more (node k m v ks) ts)
places-later k m v ks ts d low r here behind e =
    let c : ℕ = node_count here in
    let a : ℕ = node_count_all ks in
    let all : Trees = more (node k m v ks) ts in
    let x = r here behind (sym (from-later k m v ks ts d) ∙ e) in
    let i : suc (a + d) + c ≡ suc (a + (d + c)) = omega arith in
    let right : (b j : ℕ) → slice_get (placed b all) (suc (a + j)) ≡ slice_get (placed (b + 2 + 2 * a) ts) j = λ b j. get-right (placed (b + 1) ks) (placed (b + 2 + 2 * a) ts) a j (sym (length-placed (b + 1) ks)) in
    record {
      own = 2 + 2 * a + x.own;
      place = λ b. let z : b + 2 + 2 * a + x.own ≡ b + (2 + 2 * a + x.own) = omega arith in right b d ∙ x.place (b + 2 + 2 * a) ∙ ap (λ (j : ℕ). Some (j, here)) z;
      next = λ s us f b.
          let z : b + 2 + 2 * a + x.own + 2 * c ≡ b + (2 + 2 * a + x.own) + 2 * c = omega arith in
          ap (slice_get (placed b all)) i ∙ right b (d + c) ∙ x.next s us f (b + 2 + 2 * a) ∙ ap (λ (j : ℕ). Some (j, s)) z;
      last = λ f b q s g. let l = x.last f (b + 2 + 2 * a) q s (sym (right b (d + c)) ∙ ap (slice_get (placed b all)) (sym i) ∙ g) in omega (arith, l);
    }

-- a place that is told is one of a node
pub told-there : (o : Option (ℕ × Tree)) (p : ℕ) → Some p ≡ option_map (λ (e : ℕ × Tree). e.0) o → (s : Tree) × (o ≡ Some (p, s))
told-there None p e = cc
told-there (Some x) p e = let f : p ≡ x.0 = same_Some p x.0 e in (x.1, ap (λ (j : ℕ). Some (j, x.1)) (sym f))

pub some-first : (p q : ℕ) (s r : Tree) → ◌≡◌ {A = Option (ℕ × Tree)} (Some (p, s)) (Some (q, r)) → p ≡ q
some-first p q s r e = ap (λ (x : ℕ × Tree). x.0) (same_Some (p, s) (q, r) e)

-- node n of a tree, with this behind it
module _ (t : Tree) (n : ℕ) (low : n < node_count t) (here : Tree) (behind : Trees) (from_is : from_node n (more t none) ≡ more here behind) where
  takes : TakesPlace n (more t none) here behind
  takes = each-node HasPlaces places-first places-inside places-later n (more t none) (omega (arith, low)) here behind from_is

  own-is : (p : ℕ) → Some p ≡ place_at t n → p ≡ takes.own
  own-is p e =
      let r = told-there (slice_get (placed 0 (more t none)) n) p e in
      omega (arith, some-first p (0 + takes.own) r.0 here (sym r.1 ∙ takes.place 0))

  -- the labels of it and of all below it are those of the tree
  pub place-fits : (p : ℕ) → Some p ≡ place_at t n → p + 2 * node_count here ≤ 2 * node_count t
  place-fits p e = let w = placed-within (more t none) 0 n (0 + takes.own) here (takes.place 0) in omega (arith, w.1, own-is p e)

  -- no node is behind the last
  pub none-behind : node_count t ≤ n + node_count here → behind ≡ none
  none-behind h = by_behind behind refl
    where
      by_behind : (us : Trees) → behind ≡ us → us ≡ none
      by_behind none e = refl
      by_behind (more s us) e = absurd (omega (arith, h, some-node s, some-from n (more t none) (omega (arith, low)), ap node_count_all (from_is ∙ ap (more here) e)))

  module _ (p q : ℕ) (place : Some p ≡ place_at t n) (next : Some q ≡ place_at t (n + node_count here)) where
    -- the first node behind it takes the place behind exactly where it is its next sibling
    pub next-behind : p + 2 * node_count here ≡ q → behind ≢ none
    next-behind h e =
        let r = told-there (slice_get (placed 0 (more t none)) (n + node_count here)) q next in
        omega (arith, takes.last e 0 q r.0 r.1, own-is p place, h)

    pub last-behind : p + 2 * node_count here ≢ q → behind ≡ none
    last-behind h = by_behind behind refl
      where
        by_behind : (us : Trees) → behind ≡ us → us ≡ none
        by_behind none e = refl
        by_behind (more s us) e =
            let r = told-there (slice_get (placed 0 (more t none)) (n + node_count here)) q next in
            absurd (h (omega (arith, some-first q (0 + takes.own + 2 * node_count here) r.0 s (sym r.1 ∙ takes.next s us e 0), own-is p place)))

-- a place and the two of its node fit
pub place-small : (t : Tree) (n p : ℕ) → n < node_count t → Some p ≡ place_at t n → p + 2 ≤ 2 * node_count t
place-small t n p low e =
    let a = node-at n (more t none) (omega (arith, low)) in
    omega (arith, place-fits t n low a.here a.behind a.from_is p e, some-node a.here)

-- no document stands below another
abbrev NoDocuments : Trees → Type 0
NoDocuments none = Unit {0}
NoDocuments (more t ts) = (kind_of t ≢ Document) × NoDocuments ts

element-kids : (b : Bool) (ts : Trees) → AreElementKids b ts → NoDocuments ts
element-kids b none a = tt
element-kids b (more (node Document m v ks) ts) a = absurd a
element-kids b (more (node Attribute m v ks) ts) a = ((λ e. cc), element-kids true ts a.2)
element-kids b (more (node Element m v ks) ts) a = ((λ e. cc), element-kids false ts a)
element-kids b (more (node Text m v ks) ts) a = ((λ e. cc), element-kids false ts a)
element-kids b (more (node Comment m v ks) ts) a = ((λ e. cc), element-kids false ts a)
element-kids b (more (node Instruction m v ks) ts) a = ((λ e. cc), element-kids false ts a)

document-kids : (b : Bool) (ts : Trees) → AreDocumentKids b ts → NoDocuments ts
document-kids b none a = tt
document-kids b (more (node Document m v ks) ts) a = absurd a
document-kids b (more (node Attribute m v ks) ts) a = absurd a
document-kids b (more (node Text m v ks) ts) a = absurd a
document-kids b (more (node Element m v ks) ts) a = ((λ e. cc), document-kids true ts a.1)
document-kids b (more (node Comment m v ks) ts) a = ((λ e. cc), document-kids b ts a)
document-kids b (more (node Instruction m v ks) ts) a = ((λ e. cc), document-kids b ts a)

no-kids : (n : ℕ) (ks : Trees) → n < node_count_all ks → ks ≡ none → ⊥
no-kids n none h e = absurd (omega (arith, h))
no-kids n (more t ts) h e = cc

-- what has kids and is no document is an element
holds-kids : (k : Kind) (ks : Trees) (n : ℕ) → n < node_count_all ks → AreKids k ks → k ≢ Document → (k ≡ Element) × NoDocuments ks
holds-kids Document ks n h a d = absurd (d refl)
holds-kids Element ks n h a d = (refl, element-kids true ks a)
holds-kids Attribute ks n h a d = absurd (no-kids n ks h a)
holds-kids Text ks n h a d = absurd (no-kids n ks h a)
holds-kids Comment ks n h a d = absurd (no-kids n ks h a)
holds-kids Instruction ks n h a d = absurd (no-kids n ks h a)

-- Before a node of the list itself each node stands with its bottom, and before one under an element fewer bottoms stand.
abbrev HasDepth : ℕ → Trees → Type 0
HasDepth n ts = AreLawfulTrees ts → NoDocuments ts → (above : Option Kind) (before : Trees) (p : Place) → place_in above before n ts ≡ Some p → (b q : ℕ) (s : Tree) → slice_get (placed b ts) n ≡ Some (q, s)
    → ((p.above ≡ above) × (q ≡ b + 2 * n)) ⊎ ((p.above ≡ Some Element) × (q < b + 2 * n))

depth-first : (t : Tree) (ts : Trees) → HasDepth 0 (more t ts)
depth-first t ts lawful plain above before p e b q s f =
    let at : Place = record { above = above; before = before; here = t; behind = ts } in
    inl (same at p e, omega (arith, some-first b q t s (sym (placed-first b t ts) ∙ f)))
  where
    same : (at p : Place) → Some at ≡ Some p → p.above ≡ at.above
    same at p e = let f : p ≡ at = cc in ap (λ (r : Place). r.above) f

depth-inside : (k : Kind) (m v : List ℕ) (ks ts : Trees) (n : ℕ) → n < node_count_all ks → HasDepth n ks → HasDepth (suc n) (more (node k m v ks) ts)
depth-inside k m v ks ts n low r lawful plain above before p e b q s f =
    let h = holds-kids k ks n low lawful.0.1 plain.0 in
    elim (r lawful.0.2 h.1 (Some k) none p (sym (place-inside above before k m v ks ts n low) ∙ e) (b + 1) q s
    (sym (slice_get-left (placed (b + 1) ks) (placed (b + 2 + 2 * node_count_all ks) ts) n (omega (arith, low, length-placed (b + 1) ks))) ∙ f)) [
      | inl d ↦ inr (d.0 ∙ ap (λ (j : Kind). Some j) h.0, omega (arith, d.1))
      | inr d ↦ inr (d.0, omega (arith, d.1))
    ]

depth-later : (k : Kind) (m v : List ℕ) (ks ts : Trees) (d : ℕ) → d < node_count_all ts → HasDepth d ts → HasDepth (suc (node_count_all ks + d)) (more (node k m v ks) ts)
depth-later k m v ks ts d low r lawful plain above before p e b q s f =
    elim (r lawful.1 plain.1 above (chained more before (more (node k m v ks) none)) p (sym (place-later above before k m v ks ts d) ∙ e) (b + 2 + 2 * node_count_all ks) q s
    (sym (get-right (placed (b + 1) ks) (placed (b + 2 + 2 * node_count_all ks) ts) (node_count_all ks) d (sym (length-placed (b + 1) ks))) ∙ f)) [
      | inl c ↦ inl (c.0, omega (arith, c.1))
      | inr c ↦ inr (c.0, omega (arith, c.1))
    ]

-- what stands above a node of a document, by its place
pub record IsUnder (t : Tree) (n q : ℕ) : Type 0 where
  pub document : q ≡ 2 * n - 1 → above_at t n ≡ Some (Some Document)
  pub element : q ≢ 2 * n - 1 → above_at t n ≡ Some (Some Element)

pub is-under : (t : Tree) (n q : ℕ) → IsDocument t → 0 < n → n < node_count t → Some q ≡ place_at t n → IsUnder t n q
is-under t zero q d some low e = absurd (omega (arith, some))
is-under (node k m v ks) (suc i) q d some low e =
    let t : Tree = node k m v ks in
    let within : i < node_count_all ks = omega (arith, low) in
    let r = told-there (slice_get (placed 0 (more t none)) (suc i)) q e in
    let kids : slice_get (placed (0 + 1) ks) i ≡ Some (q, r.0) = sym (slice_get-left (placed (0 + 1) ks) (placed (0 + 2 + 2 * node_count_all ks) none) i (omega (arith, within, length-placed (0 + 1) ks))) ∙ r.1 in
    let plain : NoDocuments ks = document-kids false ks (subst (λ (j : Kind). AreKids j ks) d.is_document d.lawful.1) in
    let P = some-place (Some k) none i ks within in
    let above : above_at t (suc i) ≡ Some P.0.above = ap (option_map (λ (p : Place). p.above)) (place-inside None none k m v ks none i within ∙ P.1) in
    elim (each-node HasDepth depth-first depth-inside depth-later i ks within d.lawful.2 plain (Some k) none P.0 P.1 (0 + 1) q r.0 kids) [
      | inl c ↦ record {
        document = λ f. above ∙ ap (λ (o : Option Kind). Some o) (c.0 ∙ ap (λ (j : Kind). Some j) d.is_document);
        element = λ f. absurd (f (omega (arith, c.1)));
      }
      | inr c ↦ record {
        document = λ f. absurd (omega (arith, c.1, f));
        element = λ f. above ∙ ap (λ (o : Option Kind). Some o) c.0;
      }
    ]
