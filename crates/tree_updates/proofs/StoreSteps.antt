-- Rules and texts that change by an edit by which no texts meet, and by several, one after another.
use Rattle.std.proofs.Common.{◌≡◌, ℕ, zero, suc, ◌+◌, ◌-◌, ◌*◌, ◌<◌, List, [], ◌∷◌, ◌++◌, length, refl, ap, sym, ◌∙◌, subst, arith, Some, ◌⊎◌, inl, inr}
use Rattle.std.proofs.lemmas.Bool.{cases_lt}
use Rattle.std.specs.Prelude.{slice_get, slice_set, option_map, true}
use Rattle.std.specs.List.{insert_slice, remove_range}
use Rattle.plain_tree.specs.declared.edit.Edit.{Edit}
use Rattle.plain_tree.specs.declared.edit.Edit.TheVariants.{Rename, Insert, Append, Delete, Value, Attr, Copy}
use Rattle.plain_tree.specs.declared.kind.Kind.{Kind}
use Rattle.plain_tree.specs.declared.kind.Kind.TheVariants.{Attribute}
use Rattle.plain_tree.specs.EditLaws.{IsEditOf}
use Rattle.plain_tree.specs.Edits.{chained, made, placed, edited}
use Rattle.plain_tree.specs.InTurn.{plain_edits, in_turn}
use Rattle.plain_tree.specs.Numbers.{has_value, texts_all}
use Rattle.plain_tree.specs.Siblings.{from_node}
use Rattle.plain_tree.specs.Tree.{Tree, node, Trees, none, more, trees, node_count, node_count_all}
use Rattle.plain_tree.proofs.Changing.{each-node, if-from, from-inside, from-later, from-deeper, count-chained}
use Rattle.plain_tree.proofs.EditTurns.{AreAlone, plain-edits-alone, plain-edits-in-turn}
use Rattle.plain_tree.proofs.LawfulDocuments.{BecomesDocument}
use Rattle.plain_tree.proofs.PlainEdits.{valued_at}
use Rattle.plain_tree.proofs.TextsAt.{from-end}
use Rattle.rule_arena.proofs.PreorderLemmas.{slice_get-left}
use Rattle.slt_grammar.specs.Coding.{Codes, CodesTo}
use Rattle.slt_grammar.specs.Grammars.{value}
use Rattle.slt_grammar.specs.Standing.{StandsFor}
use Rattle.slt_grammar.specs.Terms.{Term, Leaf, Node, Hole, substitute}
use Rattle.slt_grammar.specs.declared.rules.Rule.{Rule}
use Rattle.slt_grammar.proofs.Standing.{own, texts-one}
use Rattle.segment_counts.specs.Weights.{node_weight, all_weight}
use Rattle.preorder_address.specs.TreeNumbers.{placed as placed_nodes, end_at, attribute_places, kids_of, after_attributes_at}
use Rattle.preorder_address.proofs.TreePlaces.{get-right, length-placed}
use Rattle.tree_updates.specs.Differences.{DifferThere}
use Rattle.tree_updates.specs.ElementAttributes.{AreOtherAttributes}
use Rattle.tree_updates.proofs.Attributes.{front_attributes, attr-old, texts-attribute}
use Rattle.tree_updates.proofs.CodeEdits.{code-kept}
use Rattle.tree_updates.proofs.KidPlaces.{HasNoAttribute}
use Rattle.tree_updates.proofs.Stands.{stands-placed, stands-deleted, stands-named, stands-inserted, stands-copied, stands-valued, stands-appended, stands-attribute}
use Rattle.tree_updates.proofs.Texts.{rank_in, texts-valued}

-- node n of a tree, with the siblings behind it
pub record NodeOf (n : ℕ) (t : Tree) : Type 0 where
  pub kind : Kind
  pub name : List ℕ
  pub content : List ℕ
  pub kids : Trees
  pub behind : Trees
  pub here : from_node n (more t none) ≡ more (node kind name content kids) behind

-- the texts of a node and of all below it
abbrev pub node_texts : {n : ℕ} {t : Tree} → NodeOf n t → List (List ℕ)
node_texts a = own a.kind a.content ++ texts_all a.kids

abbrev pub rank_of : ℕ → Tree → ℕ
rank_of n t = rank_in n (more t none)

-- an attribute of the node with this name
pub record OldAttribute (kids : Trees) (name : List ℕ) : Type 0 where
  pub before : Trees
  pub content : List ℕ
  pub below : Trees
  pub behind : Trees
  pub is : kids ≡ chained more before (more (node Attribute name content below) behind)
  pub others : AreOtherAttributes name before

-- The rules change at the node, or at the place behind its last kid or behind its attributes, as the code of the edited tree wants it, and the
-- texts at the node's rank.
abbrev pub StoreChanges : List (Kind × List ℕ) → Tree → Edit → List Rule → List Rule → List (List ℕ) → List (List ℕ) → Type 0
StoreChanges names t (Rename n x) G H old new =
    (a : NodeOf n t) × (f : ℕ) × (g : ℕ) × (left : Term) × (right : Term) × DifferThere node_weight G H n (Node f left right) (Node g left right)
    × (slice_get names g ≡ Some (a.kind, x)) × (new ≡ old)
StoreChanges names t (Insert n F) G H old new =
    (a : NodeOf n t) × (f : ℕ) × (front : Term) × (left : Term) × (right : Term) × DifferThere node_weight G H n (Node f left right) (substitute front (Node f left right ∷ []))
    × CodesTo names (Hole 0) (trees F) front × (new ≡ insert_slice old (rank_of n t) (texts_all (trees F)))
StoreChanges names t (Append n F) G H old new =
    (a : NodeOf n t) × (p : ℕ) × (front : Term) × DifferThere all_weight G H p Leaf (substitute front (Leaf ∷ []))
    × (end_at t n ≡ Some p) × CodesTo names (Hole 0) (trees F) front × (new ≡ insert_slice old (rank_of n t + length (node_texts a)) (texts_all (trees F)))
StoreChanges names t (Delete n) G H old new =
    (a : NodeOf n t) × (f : ℕ) × (left : Term) × (right : Term) × DifferThere node_weight G H n (Node f left right) right × (new ≡ remove_range old (rank_of n t) (rank_of n t + length (node_texts a)))
StoreChanges names t (Value n w) G H old new = (a : NodeOf n t) × (value H ≡ value G) × (has_value a.kind ≡ true) × (new ≡ slice_set old (rank_of n t) w)
StoreChanges names t (Attr n x w) G H old new =
    ((a : NodeOf n t) × (p : ℕ) × (g : ℕ) × (this : Term) × DifferThere all_weight G H p this (Node g Leaf this)
    × (after_attributes_at t n ≡ Some p) × HasNoAttribute x a.kids × (slice_get names g ≡ Some (Attribute, x))
    × (new ≡ insert_slice old (rank_of n t + (length (own a.kind a.content) + length (texts_all (front_attributes a.kids)))) (w ∷ [])))
    ⊎ ((a : NodeOf n t) × (o : OldAttribute a.kids x) × (value H ≡ value G) × (new ≡ slice_set old (rank_of (n + suc (node_count_all o.before)) t) w))
StoreChanges names t (Copy n) G H old new =
    (a : NodeOf n t) × (f : ℕ) × (left : Term) × (right : Term) × DifferThere node_weight G H n (Node f left right) (Node f left (Node f left right)) × (new ≡ insert_slice old (rank_of n t) (node_texts a))

-- after several such edits
abbrev pub StoreChangesInTurn : List (Kind × List ℕ) → Tree → List Edit → List Rule → List Rule → List (List ℕ) → List (List ℕ) → Type 0
StoreChangesInTurn names t [] G H old new = (H ≡ G) × (new ≡ old)
StoreChangesInTurn names t (e ∷ es) G H old new = (K : List Rule) × (mid : List (List ℕ)) × StoreChanges names t e G K old mid × StoreChangesInTurn names (placed t e) es K H mid new

-- the place of a node
place-there : (n : ℕ) (ts : Trees) → n < node_count_all ts → (b : ℕ) → (q : ℕ) × (s : Tree) × (us : Trees) × (slice_get (placed_nodes b ts) n ≡ Some (q, s)) × (from_node n ts ≡ more s us)
place-there = each-node (λ n ts. (b : ℕ) → (q : ℕ) × (s : Tree) × (us : Trees) × (slice_get (placed_nodes b ts) n ≡ Some (q, s)) × (from_node n ts ≡ more s us))
    first
    (λ k m v ks ts n h r b.
    let i = r (b + 1) in
    (i.0, i.1, i.2, slice_get-left (placed_nodes (b + 1) ks) (placed_nodes (b + 2 + 2 * node_count_all ks) ts) n (omega (arith, h, length-placed (b + 1) ks)) ∙ i.3, from-inside k m v ks ts n h ∙ i.4))
    (λ k m v ks ts d h r b.
    let b' : ℕ = b + 2 + 2 * node_count_all ks in
    let i = r b' in
    (i.0, i.1, i.2, get-right (placed_nodes (b + 1) ks) (placed_nodes b' ts) (node_count_all ks) d (sym (length-placed (b + 1) ks)) ∙ i.3, from-later k m v ks ts d ∙ i.4))
  where
    first : (t : Tree) (ts : Trees) (b : ℕ) → (q : ℕ) × (s : Tree) × (us : Trees) × (slice_get (placed_nodes b (more t ts)) 0 ≡ Some (q, s)) × (from_node 0 (more t ts) ≡ more s us)
    first (node k m v ks) ts b = (b, node k m v ks, ts, refl, refl)

first-is : (s t : Tree) (us vs : Trees) → more s us ≡ more t vs → s ≡ t
first-is s t us vs e = cc

some-is : (p q : ℕ) → Some p ≡ Some q → p ≡ q
some-is p q e = cc

-- where a node stands there is one
pub low-at : (n : ℕ) (ts : Trees) (k : Kind) (m v : List ℕ) (ks us : Trees) → from_node n ts ≡ more (node k m v ks) us → n < node_count_all ts
low-at zero none k m v ks us e = absurd cc
low-at zero (more (node k' m' v' ks') ts) k m v ks us e = omega arith
low-at (suc n) none k m v ks us e = absurd cc
low-at (suc n) (more (node k' m' v' ks') ts) k m v ks us e =
    elim (cases_lt n (node_count_all ks')) [
      | inl inside ↦ omega arith
      | inr later ↦
          let r = low-at (n - node_count_all ks') ts k m v ks us (sym (if-from n (node_count_all ks') (from_node n ks') (from_node (n - node_count_all ks') ts) later) ∙ e) in
          omega (arith, r)
    ]

module _ (n : ℕ) (t : Tree) (a : NodeOf n t) where
  low : n < node_count_all (more t none)
  low = low-at n (more t none) a.kind a.name a.content a.kids a.behind a.here

  abbrev this-node : Tree
  this-node = node a.kind a.name a.content a.kids

  pub place-of : (q : ℕ) × (slice_get (placed_nodes 0 (more t none)) n ≡ Some (q, this-node))
  place-of =
      let r = place-there n (more t none) low 0 in
      (r.0, r.3 ∙ ap (λ x. Some (r.0, x)) (first-is r.1 this-node r.2 a.behind (sym r.4 ∙ a.here)))

  end-place : (p : ℕ) → end_at t n ≡ Some p → p ≡ place-of.0 + 1 + 2 * node_count_all a.kids
  end-place p e =
      let f : Some (place-of.0 + 2 * node_count this-node - 1) ≡ Some p = sym (ap (option_map (λ x. x.0 + 2 * node_count x.1 - 1)) place-of.1) ∙ e in
      let g = some-is (place-of.0 + 2 * node_count this-node - 1) p f in
      omega (arith, g)

  attributes-place : (p : ℕ) → after_attributes_at t n ≡ Some p → p ≡ place-of.0 + 1 + attribute_places a.kids
  attributes-place p e =
      let f : Some (place-of.0 + 1 + attribute_places a.kids) ≡ Some p = sym (ap (option_map (λ x. x.0 + 1 + attribute_places (kids_of x.1))) place-of.1) ∙ e in
      sym (some-is (place-of.0 + 1 + attribute_places a.kids) p f)

  -- the node of an attribute
  module _ (x : List ℕ) (o : OldAttribute a.kids x) where
    abbrev c : ℕ
    c = node_count_all o.before

    kids-size : node_count_all a.kids ≡ c + node_count_all (more (node Attribute x o.content o.below) o.behind)
    kids-size = ap node_count_all o.is ∙ count-chained o.before (more (node Attribute x o.content o.below) o.behind)

    pub attribute-here : from_node (n + suc c) (more t none) ≡ more (node Attribute x o.content o.below) o.behind
    attribute-here =
        from-deeper n (more t none) low c (rw a.here (omega (arith, kids-size))) ∙ ap (from_node (suc c)) a.here ∙ from-inside a.kind a.name a.content a.kids a.behind c (omega (arith, kids-size))
        ∙ ap (from_node c) o.is ∙ from-end o.before (more (node Attribute x o.content o.below) o.behind)

    attribute-low : n + suc c < node_count_all (more t none)
    attribute-low = low-at (n + suc c) (more t none) Attribute x o.content o.below o.behind attribute-here

    pub here-kids : from_node n (more t none) ≡ more (node a.kind a.name a.content (chained more o.before (more (node Attribute x o.content o.below) o.behind))) a.behind
    here-kids = a.here ∙ ap (λ ks. more (node a.kind a.name a.content ks) a.behind) o.is

-- What changes so stands for the edited tree.
module _ (names : List (Kind × List ℕ)) (t : Tree) (G H : List Rule) (old new : List (List ℕ)) (s : StandsFor G names old t) where
  with-texts : (e : Edit) (list : List (List ℕ)) → new ≡ list → StandsFor H names list (placed t e) → StandsFor H names new (placed t e)
  with-texts e list is h = subst (λ xs. StandsFor H names xs (placed t e)) (sym is) h

  were-texts : texts_all (more t none) ≡ old
  were-texts = texts-one t ∙ sym s.texts

  pub change-stands : (e : Edit) → StoreChanges names t e G H old new → BecomesDocument (made more e (more t none)) → StandsFor H names new (placed t e)
  change-stands (Rename n x) (a, f, g, left, right, d, pair, list) b =
      with-texts (Rename n x) old list (stands-named G H names old t s n f left right (Node g left right) d a.kind a.name a.content a.kids a.behind a.here g x refl pair b)
  change-stands (Insert n F) (a, f, front, left, right, d, code, list) b =
      with-texts (Insert n F) (insert_slice old (rank_of n t) (texts_all (trees F))) list
      (stands-inserted G H names old t s n f left right (substitute front (Node f left right ∷ [])) d a.kind a.name a.content a.kids a.behind a.here F front refl code b)
  change-stands (Append n F) (a, p, front, d, end, code, list) b =
      with-texts (Append n F) (insert_slice old (rank_of n t + length (node_texts a)) (texts_all (trees F))) list
      (stands-appended G H names old t s n (place-of n t a).0 p Leaf (substitute front (Leaf ∷ [])) d a.kind a.name a.content a.kids a.behind (low n t a) a.here (place-of n t a).1 F front (end-place n t a p end) refl refl code b)
  change-stands (Delete n) (a, f, left, right, d, list) b =
      with-texts (Delete n) (remove_range old (rank_of n t) (rank_of n t + length (node_texts a))) list (stands-deleted G H names old t s n f left right right d a.kind a.name a.content a.kids a.behind a.here refl b)
  change-stands (Value n w) (a, same, has, list) b =
      with-texts (Value n w) (slice_set old (rank_of n t) w) list (stands-valued G H names old t s n w a.kind a.name a.content a.kids a.behind same (low n t a) a.here has b)
  change-stands (Copy n) (a, f, left, right, d, list) b =
      with-texts (Copy n) (insert_slice old (rank_of n t) (node_texts a)) list (stands-copied G H names old t s n f left right (Node f left (Node f left right)) d a.kind a.name a.content a.kids a.behind a.here refl b)
  change-stands (Attr n x w) (inl (a, p, g, this, d, at, absent, pair, list)) b =
      stands-attribute G H names old t s n (place-of n t a).0 p this (Node g Leaf this) d a.kind a.name a.content a.kids a.behind (low n t a) a.here (place-of n t a).1 x w g new (attributes-place n t a p at) absent pair refl b
      (list ∙ ap (λ xs. insert_slice xs (rank_of n t + (length (own a.kind a.content) + length (texts_all (front_attributes a.kids)))) (w ∷ [])) (sym were-texts)
      ∙ sym (texts-attribute n (more t none) (low n t a) a.kind a.name a.content a.kids a.behind a.here x w absent))
  change-stands (Attr n x w) (inr (a, o, same, list)) b =
      let m : ℕ = n + suc (node_count_all o.before) in
      let T : Trees = more t none in
      let is : made more (Attr n x w) T ≡ valued_at w m T = attr-old n T (low n t a) a.kind a.name a.content x w o.content o.below o.before o.behind a.behind o.others (here-kids n t a x o) in
      stands-placed G H names old t s (Attr n x w) new b
      (subst (λ us. Codes names us (value H)) (sym is) (subst (Codes names (valued_at w m T)) (sym same) (code-kept names T (value G) w m (attribute-low n t a x o) s.code)))
      (list ∙ ap (λ xs. slice_set xs (rank_of m t) w) (sym were-texts) ∙ sym (texts-valued m T (attribute-low n t a x o) Attribute x o.content o.below o.behind (attribute-here n t a x o) w refl) ∙ ap texts_all (sym is))

pub changes-stand : (names : List (Kind × List ℕ)) (es : List Edit) (t : Tree) (G H : List Rule) (old new : List (List ℕ)) → StandsFor G names old t → AreAlone t es → StoreChangesInTurn names t es G H old new → StandsFor H names new (in_turn t es)
changes-stand names [] t G H old new s b c = subst (λ xs. StandsFor H names xs t) (sym c.1) (subst (λ K. StandsFor K names old t) (sym c.0) s)
changes-stand names (e ∷ es) t G H old new s b c = changes-stand names es (placed t e) c.0 H c.1 new (change-stands names t G c.0 old c.1 s e c.2 b.0) b.1 c.3

-- rules and texts that change by the edits that an edit comes to stand for the edited document
pub edited-stands : (names : List (Kind × List ℕ)) (t : Tree) (e : Edit) (G H : List Rule) (old new : List (List ℕ)) → StandsFor G names old t → IsEditOf t e → StoreChangesInTurn names t (plain_edits t e) G H old new
    → StandsFor H names new (edited t e)
edited-stands names t e G H old new s h c =
    subst (StandsFor H names new) (plain-edits-in-turn t e h).1 (changes-stand names (plain_edits t e) t G H old new s (plain-edits-alone t e h) c)
