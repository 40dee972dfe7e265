-- Places among the kids of a node, counted with the bottoms: a node takes one before its kids and one behind them.
use Rattle.std.proofs.Common.{◌≡◌, ℕ, zero, suc, ◌+◌, ◌-◌, ◌*◌, ◌<◌, ◌≤◌, List, [], ◌∷◌, ◌++◌, length, Some, Bool, true, false, refl, ap, sym, ◌∙◌, subst, arith, append-nil, map, sum_by}
use Rattle.std.proofs.lemmas.List.Sums.{sum_by-cons}
use Rattle.std.specs.Prelude.{slice_get, if◌then◌else◌}
use Rattle.std.specs.Str.{bytes_eq}
use Rattle.std.proofs.Math.Bool.{true≢false}
use Rattle.plain_tree.specs.declared.kind.Kind.{Kind}
use Rattle.plain_tree.specs.declared.kind.Kind.TheVariants.{Document, Element, Attribute, Text, Comment, Instruction}
use Rattle.plain_tree.specs.Tree.{Tree, node, Trees, none, more, node_count, node_count_all}
use Rattle.rule_arena.specs.declared.label.Label.TheVariants.{Symbol}
use Rattle.slt_grammar.specs.Coding.{Codes, CodesTo}
use Rattle.slt_grammar.proofs.Linear.{all_holes, holes_of-substitute}
use Rattle.slt_grammar.specs.Segments.{listed}
use Rattle.slt_grammar.specs.Terms.{Term, Leaf, Node, Hole, substitute, holes_of}
use Rattle.segment_counts.specs.Weights.{all_weight}
use Rattle.preorder_address.specs.TreeNumbers.{placed, kids_of, attribute_places}
use Rattle.rule_arena.proofs.PreorderLemmas.{slice_get-left}
use Rattle.preorder_address.proofs.TreePlaces.{get-right, length-placed, all-coded}
use Rattle.plain_tree.specs.Edits.{changed, chained, with_first, with_kids, with_attribute, made}
use Rattle.plain_tree.specs.declared.edit.Edit.TheVariants.{Attr}
use Rattle.plain_tree.proofs.Changing.{each-node, changed-inside, changed-alike, from_node, more-later, chained-more, chained-none, if-below, if-from}
use Rattle.tree_updates.proofs.CodeEdits.{codes-whole, code-chained}
use Rattle.tree_updates.specs.Differences.{hole_at}
use Rattle.tree_updates.proofs.CodeChanges.{replaced, reached, codes-there, CodesThere}
use Rattle.plain_tree.proofs.PlainEdits.{appended}

-- how many places a list of trees has, with that behind it
abbrev pub places : Trees → ℕ
places ts = 2 * node_count_all ts + 1

module _ (vs : Trees) (k : Kind) (m v : List ℕ) (ks ts : Trees) where
  pub replaced-inside : (p : ℕ) → p < places ks → replaced places vs (suc p) (more (node k m v ks) ts) ≡ more (node k m v (replaced places vs p ks)) ts
  replaced-inside p h = if-below p (places ks) (more (node k m v (replaced places vs p ks)) ts) (more (node k m v ks) (replaced places vs (p - places ks) ts)) h

  pub replaced-later : (d : ℕ) → replaced places vs (suc (places ks + d)) (more (node k m v ks) ts) ≡ more (node k m v ks) (replaced places vs d ts)
  replaced-later d =
      let p : ℕ = places ks + d in
      let e : p - places ks ≡ d = omega arith in
      if-from p (places ks) (more (node k m v (replaced places vs p ks)) ts) (more (node k m v ks) (replaced places vs (p - places ks) ts)) (omega arith)
      ∙ ap (λ (i : ℕ). more (node k m v ks) (replaced places vs i ts)) e

  pub reached-inside : (p : ℕ) → p < places ks → reached places (suc p) (more (node k m v ks) ts) ≡ reached places p ks
  reached-inside p h = if-below p (places ks) (reached places p ks) (reached places (p - places ks) ts) h

  pub reached-later : (d : ℕ) → reached places (suc (places ks + d)) (more (node k m v ks) ts) ≡ reached places d ts
  reached-later d =
      let p : ℕ = places ks + d in
      let e : p - places ks ≡ d = omega arith in
      if-from p (places ks) (reached places p ks) (reached places (p - places ks) ts) (omega arith) ∙ ap (λ (i : ℕ). reached places i ts) e

some-one : (p q : ℕ × Tree) → Some p ≡ Some q → p ≡ q
some-one p q e = cc

-- a number is below another, or so much above it
data Side (n c : ℕ) : Type 0 where
  is_low : n < c → Side n c
  is_high : (d : ℕ) → c + d ≡ n → Side n c

side : (n c : ℕ) → Side n c
side n zero = is_high n (omega arith)
side zero (suc c) = is_low (omega arith)
side (suc n) (suc c) = elim (side n c) [ is_low h ↦ is_low (omega arith) | is_high d h ↦ is_high d (omega arith) ]

-- a node and its kids take places of their list
pub placed-within : (ts : Trees) (b n q : ℕ) (s : Tree) → slice_get (placed b ts) n ≡ Some (q, s) → (b ≤ q) × (q + 2 * node_count s ≤ b + 2 * node_count_all ts)
placed-within none b n q s e = cc
placed-within (more (node k m v ks) ts) b zero q s e =
    let t : Tree = node k m v ks in
    let i : b ≡ q = ap (λ (x : ℕ × Tree). x.0) (some-one (b, t) (q, s) e) in
    let j : s ≡ t = sym (ap (λ (x : ℕ × Tree). x.1) (some-one (b, t) (q, s) e)) in
    let c : node_count s ≡ node_count t = ap node_count j in
    (omega arith, omega (arith, c))
placed-within (more (node k m v ks) ts) b (suc n) q s e = by_side (placed-within ks (b + 1)) (placed-within ts (b + 2 + 2 * node_count_all ks)) (side n (length (placed (b + 1) ks)))
  where
    by_side : ((n q : ℕ) (s : Tree) → slice_get (placed (b + 1) ks) n ≡ Some (q, s) → (b + 1 ≤ q) × (q + 2 * node_count s ≤ b + 1 + 2 * node_count_all ks))
        → ((n q : ℕ) (s : Tree) → slice_get (placed (b + 2 + 2 * node_count_all ks) ts) n ≡ Some (q, s) → (b + 2 + 2 * node_count_all ks ≤ q) × (q + 2 * node_count s ≤ b + 2 + 2 * node_count_all ks + 2 * node_count_all ts))
        → Side n (length (placed (b + 1) ks)) → (b ≤ q) × (q + 2 * node_count s ≤ b + 2 * node_count_all (more (node k m v ks) ts))
    by_side A B (is_low h) = let r = A n q s (sym (slice_get-left (placed (b + 1) ks) (placed (b + 2 + 2 * node_count_all ks) ts) n h) ∙ e) in (omega (arith, r.0), omega (arith, r.1))
    by_side A B (is_high d h) =
        let r = B d q s (sym (get-right (placed (b + 1) ks) (placed (b + 2 + 2 * node_count_all ks) ts) (length (placed (b + 1) ks)) d refl) ∙ ap (slice_get (placed (b + 1) ks ++ placed (b + 2 + 2 * node_count_all ks) ts)) h ∙ e) in
        (omega (arith, r.0), omega (arith, r.1))

-- a place among the kids of node n
abbrev KidPlace : Trees → ℕ → Trees → Type 0
KidPlace vs n ts = (b q : ℕ) (s : Tree) → slice_get (placed b ts) n ≡ Some (q, s) → (j : ℕ) → j < places (kids_of s) → (p : ℕ) → b + p ≡ q + 1 + j
    → (replaced places vs p ts ≡ changed more (with_first (with_kids (replaced places vs j))) n ts) × (reached places p ts ≡ reached places j (kids_of s))

kids-first : (vs : Trees) (t : Tree) (ts : Trees) → KidPlace vs 0 (more t ts)
kids-first vs (node k m v ks) ts b q s e j h p i =
    let t : Tree = node k m v ks in
    let b-is : b ≡ q = ap (λ (x : ℕ × Tree). x.0) (some-one (b, t) (q, s) e) in
    let s-is : s ≡ t = sym (ap (λ (x : ℕ × Tree). x.1) (some-one (b, t) (q, s) e)) in
    let kids : kids_of s ≡ ks = ap kids_of s-is in
    let p-is : p ≡ suc j = omega arith in
    let h' : j < places ks = subst (λ us. j < places us) kids h in (
      ap (λ (i : ℕ). replaced places vs i (more t ts)) p-is ∙ replaced-inside vs k m v ks ts j h',
      ap (λ (i : ℕ). reached places i (more t ts)) p-is ∙ reached-inside vs k m v ks ts j h' ∙ ap (reached places j) (sym kids),
    )

kids-inside : (vs : Trees) (k : Kind) (m v : List ℕ) (ks ts : Trees) (n : ℕ) → n < node_count_all ks → KidPlace vs n ks → KidPlace vs (suc n) (more (node k m v ks) ts)
kids-inside vs k m v ks ts n low r b q s e j h p i =
    let e' : slice_get (placed (b + 1) ks) n ≡ Some (q, s) = sym (slice_get-left (placed (b + 1) ks) (placed (b + 2 + 2 * node_count_all ks) ts) n (omega (arith, length-placed (b + 1) ks))) ∙ e in
    let within = placed-within ks (b + 1) n q s e' in
    let p' : ℕ = q + 1 + j - (b + 1) in
    let p-is : p ≡ suc p' = omega (arith, within.0) in
    let fit : 2 * node_count_all (kids_of s) + 2 ≤ 2 * node_count s = count-kids s in
    let h' : p' < places ks = omega (arith, within.0, within.1, fit) in
    let x = r (b + 1) q s e' j h p' (omega (arith, within.0)) in (
      ap (λ (i : ℕ). replaced places vs i (more (node k m v ks) ts)) p-is ∙ replaced-inside vs k m v ks ts p' h' ∙ ap (λ us. more (node k m v us) ts) x.0
          ∙ sym (changed-inside more (with_first (with_kids (replaced places vs j))) k m v ks ts n low),
      ap (λ (i : ℕ). reached places i (more (node k m v ks) ts)) p-is ∙ reached-inside vs k m v ks ts p' h' ∙ x.1,
    )
  where
    count-kids : (s : Tree) → 2 * node_count_all (kids_of s) + 2 ≤ 2 * node_count s
    count-kids (node k m v ks) = omega arith

kids-later : (vs : Trees) (k : Kind) (m v : List ℕ) (ks ts : Trees) (d : ℕ) → d < node_count_all ts → KidPlace vs d ts → KidPlace vs (suc (node_count_all ks + d)) (more (node k m v ks) ts)
kids-later vs k m v ks ts d low r b q s e j h p i =
    let b' : ℕ = b + 2 + 2 * node_count_all ks in
    let e' : slice_get (placed b' ts) d ≡ Some (q, s) = sym (get-right (placed (b + 1) ks) (placed b' ts) (node_count_all ks) d (sym (length-placed (b + 1) ks))) ∙ e in
    let within = placed-within ts b' d q s e' in
    let p' : ℕ = q + 1 + j - b' in
    let p-is : p ≡ suc (places ks + p') = omega (arith, within.0) in
    let x = r b' q s e' j h p' (omega (arith, within.0)) in (
      ap (λ (i : ℕ). replaced places vs i (more (node k m v ks) ts)) p-is ∙ replaced-later vs k m v ks ts p' ∙ ap (more (node k m v ks)) x.0
          ∙ sym (more-later (with_first (with_kids (replaced places vs j))) k m v ks ts d),
      ap (λ (i : ℕ). reached places i (more (node k m v ks) ts)) p-is ∙ reached-later vs k m v ks ts p' ∙ x.1,
    )

pub kid-place : (vs : Trees) (n : ℕ) (ts : Trees) → n < node_count_all ts → KidPlace vs n ts
kid-place vs = each-node (KidPlace vs) (kids-first vs) (kids-inside vs) (kids-later vs)

-- what comes to the place behind all trees stands behind them
pub replaced-end : (vs ks : Trees) → replaced places vs (2 * node_count_all ks) ks ≡ chained more ks vs
replaced-end vs none = refl
replaced-end vs (more (node k m v js) us) =
    let e : 2 * node_count_all (more (node k m v js) us) ≡ suc (places js + 2 * node_count_all us) = omega arith in
    ap (λ (i : ℕ). replaced places vs i (more (node k m v js) us)) e ∙ replaced-later vs k m v js us (2 * node_count_all us) ∙ ap (more (node k m v js)) (replaced-end vs us) ∙ sym (chained-more (node k m v js) us vs)

pub reached-end : (ks : Trees) → reached places (2 * node_count_all ks) ks ≡ none
reached-end none = refl
reached-end (more (node k m v js) us) =
    let e : 2 * node_count_all (more (node k m v js) us) ≡ suc (places js + 2 * node_count_all us) = omega arith in
    ap (λ (i : ℕ). reached places i (more (node k m v js) us)) e ∙ reached-later none k m v js us (2 * node_count_all us) ∙ reached-end us

-- those behind the attributes at the front
abbrev pub behind_attributes : Trees → Trees
behind_attributes (more (node Attribute m v ks) ts) = behind_attributes ts
behind_attributes ts = ts

-- no attribute at the front has the name
abbrev pub HasNoAttribute : List ℕ → Trees → Type 0
HasNoAttribute name (more (node Attribute m v ks) ts) = (bytes_eq m name ≡ false) × HasNoAttribute name ts
HasNoAttribute name ts = Unit {0}

pub replaced-attribute : (name value : List ℕ) (ks : Trees) → HasNoAttribute name ks
    → replaced places (more (node Attribute name value none) (behind_attributes ks)) (attribute_places ks) ks ≡ with_attribute name value ks
replaced-attribute name value none h = refl
replaced-attribute name value (more (node Document m v ks) ts) h = refl
replaced-attribute name value (more (node Element m v ks) ts) h = refl
replaced-attribute name value (more (node Text m v ks) ts) h = refl
replaced-attribute name value (more (node Comment m v ks) ts) h = refl
replaced-attribute name value (more (node Instruction m v ks) ts) h = refl
replaced-attribute name value (more (node Attribute m v ks) ts) h =
    let vs : Trees = more (node Attribute name value none) (behind_attributes ts) in
    let e : 2 * node_count_all ks + 2 + attribute_places ts ≡ suc (places ks + attribute_places ts) = omega arith in
    ap (λ (i : ℕ). replaced places vs i (more (node Attribute m v ks) ts)) e ∙ replaced-later vs Attribute m v ks ts (attribute_places ts) ∙ ap (more (node Attribute m v ks)) (replaced-attribute name value ts h.1)
    ∙ other (bytes_eq m name) h.0
  where
    other : (b : Bool) → b ≡ false → more (node Attribute m v ks) (with_attribute name value ts) ≡ (if b then (more (node Attribute m value ks) ts) else more (node Attribute m v ks) (with_attribute name value ts))
    other false e = refl
    other true e = absurd (true≢false e)

pub reached-attributes : (ks : Trees) → reached places (attribute_places ks) ks ≡ behind_attributes ks
reached-attributes none = refl
reached-attributes (more (node Document m v ks) ts) = refl
reached-attributes (more (node Element m v ks) ts) = refl
reached-attributes (more (node Text m v ks) ts) = refl
reached-attributes (more (node Comment m v ks) ts) = refl
reached-attributes (more (node Instruction m v ks) ts) = refl
reached-attributes (more (node Attribute m v ks) ts) =
    let e : 2 * node_count_all ks + 2 + attribute_places ts ≡ suc (places ks + attribute_places ts) = omega arith in
    ap (λ (i : ℕ). reached places i (more (node Attribute m v ks) ts)) e ∙ reached-later none Attribute m v ks ts (attribute_places ts) ∙ reached-attributes ts

pub attribute-low : (ks : Trees) → attribute_places ks < places ks
attribute-low none = omega arith
attribute-low (more (node Document m v ks) ts) = omega arith
attribute-low (more (node Element m v ks) ts) = omega arith
attribute-low (more (node Text m v ks) ts) = omega arith
attribute-low (more (node Comment m v ks) ts) = omega arith
attribute-low (more (node Instruction m v ks) ts) = omega arith
attribute-low (more (node Attribute m v ks) ts) = omega (arith, attribute-low ts)

module _ (names : List (Kind × List ℕ)) (ts : Trees) (C this : Term) (once : holes_of C ≡ Hole 0 ∷ []) (code : Codes names ts (substitute C (this ∷ []))) where
  no-hole : holes_of this ≡ []
  no-hole =
      sym (append-nil (holes_of this)) ∙ sym (holes_of-substitute C (this ∷ []) ∙ ap (λ hs. all_holes (map (λ h. substitute h (this ∷ [])) hs)) once)
      ∙ codes-whole names ts (substitute C (this ∷ [])) code

  some : (t : Term) → holes_of t ≡ [] → 0 < sum_by all_weight (listed t [])
  some Leaf e = omega arith
  some (Node f l r) e = omega (arith, sum_by-cons all_weight (Symbol f) (listed l (listed r [])))
  some (Hole i) e = absurd (let n = ap length e in omega (arith, n))

  -- in the code of trees a term stands at a place counted with the bottoms
  pub place-there : CodesThere names places C this (hole_at all_weight C) ts
  place-there = codes-there names all_weight places (λ f. refl) (λ us term c. omega (arith, all-coded names us term c [])) this (some this no-hole) C ts once code

  -- node n, whose place is q, begins here
  module _ (n : ℕ) (low : n < node_count_all ts) (q : ℕ) (k : Kind) (m v : List ℕ) (ks us : Trees) (here : from_node n ts ≡ more (node k m v ks) us) (placed_there : slice_get (placed 0 ts) n ≡ Some (q, node k m v ks)) where
    -- no more than a bottom stands behind its kids
    pub end-leaf : hole_at all_weight C ≡ q + 1 + 2 * node_count_all ks → this ≡ Leaf
    end-leaf at =
        let r = kid-place none n ts low 0 q (node k m v ks) placed_there (2 * node_count_all ks) (omega arith) (hole_at all_weight C) (omega (arith, at)) in
        subst (λ us. Codes names us this) (r.1 ∙ reached-end ks) place-there.codes

    -- what stands at the bottom behind its kids comes behind its last kid
    pub code-appended : hole_at all_weight C ≡ q + 1 + 2 * node_count_all ks → this ≡ Leaf → (F : Trees) (front : Term) → CodesTo names (Hole 0) F front
        → Codes names (appended more F n ts) (substitute C (substitute front (Leaf ∷ []) ∷ []))
    code-appended at leaf F front d =
        let j : ℕ = 2 * node_count_all ks in
        let p : ℕ = hole_at all_weight C in
        let r = kid-place F n ts low 0 q (node k m v ks) placed_there j (omega arith) p (omega (arith, at)) in
        let F' : Codes names F (substitute front (Leaf ∷ [])) = subst (λ us. Codes names us (substitute front (Leaf ∷ []))) (chained-none F) (code-chained names F none Leaf front Leaf d refl) in
        let e : changed more (with_first (with_kids (replaced places F j))) n ts ≡ appended more F n ts =
        changed-alike (with_first (with_kids (replaced places F j))) (with_first (with_kids (λ kids. chained more kids F))) n ts low
        (ap (with_first (with_kids (replaced places F j))) here ∙ ap (λ xs. more (node k m v xs) us) (replaced-end F ks) ∙ sym (ap (with_first (with_kids (λ kids. chained more kids F))) here)) in
        subst (λ us. Codes names us (substitute C (substitute front (Leaf ∷ []) ∷ []))) (r.0 ∙ e) (place-there.changes F (substitute front (Leaf ∷ [])) F')

    -- an attribute comes to the place behind its attributes
    pub code-attribute : hole_at all_weight C ≡ q + 1 + attribute_places ks → (name value : List ℕ) → HasNoAttribute name ks → (a : ℕ) → slice_get names a ≡ Some (Attribute, name)
        → Codes names (made more (Attr n name value) ts) (substitute C (Node a Leaf this ∷ []))
    code-attribute at name value new a s =
        let j : ℕ = attribute_places ks in
        let p : ℕ = hole_at all_weight C in
        let vs : Trees = more (node Attribute name value none) (behind_attributes ks) in
        let r = kid-place vs n ts low 0 q (node k m v ks) placed_there j (attribute-low ks) p (omega (arith, at)) in
        let behind : Codes names (behind_attributes ks) this = subst (λ us. Codes names us this) (r.1 ∙ reached-attributes ks) place-there.codes in
        let e : changed more (with_first (with_kids (replaced places vs j))) n ts ≡ made more (Attr n name value) ts =
        changed-alike (with_first (with_kids (replaced places vs j))) (with_first (with_kids (with_attribute name value))) n ts low
        (ap (with_first (with_kids (replaced places vs j))) here ∙ ap (λ xs. more (node k m v xs) us) (replaced-attribute name value ks new) ∙ sym (ap (with_first (with_kids (with_attribute name value))) here)) in
        subst (λ us. Codes names us (substitute C (Node a Leaf this ∷ []))) (r.0 ∙ e) (place-there.changes vs (Node a Leaf this) (a, Leaf, this, s, refl, behind, refl))
