-- Where the attributes of an element stand, and where a new one comes.
use Rattle.std.proofs.Common.{◌≡◌, ℕ, ◌+◌, ◌*◌, ◌<◌, ◌≤◌, ◌^◌, List, [], ◌∷◌, ◌++◌, length, Bool, true, false, refl, ap, sym, ◌∙◌, subst, arith, Some, length-append}
use Rattle.std.specs.Prelude.{◌||◌, if◌then◌else◌, option_map}
use Rattle.std.specs.List.{insert_slice}
use Rattle.std.specs.Str.{bytes_eq}
use Rattle.std.proofs.Math.Bool.{true≢false}
use Rattle.std.proofs.lemmas.Option.{same_Some}
use Rattle.plain_tree.specs.declared.edit.Edit.{Edit}
use Rattle.plain_tree.specs.declared.edit.Edit.TheVariants.{Attr}
use Rattle.plain_tree.specs.declared.kind.Kind.{Kind}
use Rattle.plain_tree.specs.declared.kind.Kind.TheVariants.{Document, Element, Attribute, Text, Comment, Instruction}
use Rattle.plain_tree.specs.Additions.{has_attribute}
use Rattle.plain_tree.specs.Allowed.{IsAllowed}
use Rattle.plain_tree.specs.EditLaws.{IsEditOf}
use Rattle.plain_tree.specs.Edits.{chained, edited, made}
use Rattle.plain_tree.specs.Lawful.{AreLawfulTrees, IsLawfulTree}
use Rattle.plain_tree.specs.NodePairs.{Pair}
use Rattle.plain_tree.specs.Numbers.{kind_of, texts, texts_all}
use Rattle.plain_tree.specs.Siblings.{first_kids, from_node}
use Rattle.plain_tree.specs.Tree.{Tree, node, Trees, none, more, node_count, node_count_all}
use Rattle.plain_tree.proofs.Changing.{chained-more, count-chained, some-from}
use Rattle.plain_tree.proofs.EditCounts.{edits-are-counted}
use Rattle.plain_tree.proofs.LawfulDocuments.{placed-alone}
use Rattle.plain_tree.proofs.TextsAt.{lawful-from}
use Rattle.rule_arena.specs.declared.label.Label.{Label}
use Rattle.rule_arena.specs.declared.label.Label.TheVariants.{Bottom, Symbol, Param}
use Rattle.slt_grammar.specs.Coding.{Codes}
use Rattle.slt_grammar.specs.Terms.{Leaf, Node, Hole, substitute}
use Rattle.slt_grammar.proofs.Standing.{own, texts-one, texts_all-more}
use Rattle.preorder_address.specs.Spots.{place_at}
use Rattle.preorder_address.specs.TreeNumbers.{attribute_places, kind_at, kids_of, text_rank_at}
use Rattle.tree_updates.specs.CodePlaces.{IsBodyOf}
use Rattle.tree_updates.specs.ElementAttributes.{AreOtherAttributes, IsAttributePlace, IsNextAttribute}
use Rattle.tree_updates.specs.Growths.{GrowsInto}
use Rattle.tree_updates.specs.NewAttributes.{IsAttributeGrowth, IsAttributeSite}
use Rattle.tree_updates.specs.declared.growing.Growth.{Growth}
use Rattle.tree_updates.specs.declared.growing.Site.{Site}
use Rattle.tree_updates.specs.declared.kid_attributes.AttributePlace.{AttributePlace}
use Rattle.tree_updates.proofs.AttributeNumbers.{place-has}
use Rattle.tree_updates.proofs.Attributes.{front_attributes, texts-attribute}
use Rattle.tree_updates.proofs.KidPlaces.{HasNoAttribute, attribute-low, code-attribute, placed-within}
use Rattle.tree_updates.proofs.NodeExtents.{texts-fit}
use Rattle.tree_updates.proofs.NameableNodes.{at-told, here-is}
use Rattle.tree_updates.proofs.NodePlaces.{placed as place-of-node, allowed-there, there-allowed}
use Rattle.tree_updates.proofs.NodesThere.{allowed-low, node-there}
use Rattle.tree_updates.proofs.Ranks.{rank-told}
use Rattle.tree_updates.proofs.StoreSteps.{NodeOf, place-of}
use Rattle.tree_updates.proofs.Texts.{rank_in, texts_all-chained}

-- attributes at the front, which have no kids: the places that they have, and their texts
record AreCounted (front behind : Trees) : Type 0 where
  pub places : attribute_places (chained more front behind) ≡ 2 * node_count_all front
  pub front_is : front_attributes (chained more front behind) ≡ front
  pub values : length (texts_all front) ≡ node_count_all front

counted-none : (name : List ℕ) (us : Trees) → IsNextAttribute name us false → AreCounted none us
counted-none name none n = record { places = refl; front_is = refl; values = refl }
counted-none name (more (node Document m v ks) us) n = record { places = refl; front_is = refl; values = refl }
counted-none name (more (node Element m v ks) us) n = record { places = refl; front_is = refl; values = refl }
counted-none name (more (node Attribute m v ks) us) n = absurd (true≢false (sym n.1))
counted-none name (more (node Text m v ks) us) n = record { places = refl; front_is = refl; values = refl }
counted-none name (more (node Comment m v ks) us) n = record { places = refl; front_is = refl; values = refl }
counted-none name (more (node Instruction m v ks) us) n = record { places = refl; front_is = refl; values = refl }

valued-more : (m v : List ℕ) (ks A : Trees) → ks ≡ none → length (texts_all A) ≡ node_count_all A → length (texts_all (more (node Attribute m v ks) A)) ≡ node_count_all (more (node Attribute m v ks) A)
valued-more m v ks A bare values = omega (
  arith,
  ap length (texts_all-more Attribute m v ks A),
  length-append (own Attribute v) (texts_all ks ++ texts_all A),
  length-append (texts_all ks) (texts_all A),
  ap (λ us. length (texts_all us)) bare,
  ap node_count_all bare,
  values,
)

-- attributes have a text each
pub attribute-texts : (name : List ℕ) (A us : Trees) → AreOtherAttributes name A → AreLawfulTrees (chained more A us) → length (texts_all A) ≡ node_count_all A
attribute-texts name none us o l = refl
attribute-texts name (more (node k m v ks) A) us o l =
    let all : AreLawfulTrees (more (node k m v ks) (chained more A us)) = subst AreLawfulTrees (chained-more (node k m v ks) A us) l in
    let one : IsLawfulTree (node Attribute m v ks) = subst (λ (j : Kind). IsLawfulTree (node j m v ks)) o.0 all.0 in
    subst (λ (j : Kind). length (texts_all (more (node j m v ks) A)) ≡ node_count_all (more (node j m v ks) A)) (sym o.0) (valued-more m v ks A one.1 (attribute-texts name A us o.2 all.1))

counted-more : (m v : List ℕ) (ks A us : Trees) → IsLawfulTree (node Attribute m v ks) → AreCounted A us → AreCounted (more (node Attribute m v ks) A) us
counted-more m v ks A us l r =
    let bare : ks ≡ none = l.1 in
    let split = chained-more (node Attribute m v ks) A us in
    record {
      places = omega (arith, ap attribute_places split, r.places, ap node_count_all bare);
      front_is = ap front_attributes split ∙ ap (more (node Attribute m v ks)) r.front_is;
      values = valued-more m v ks A bare r.values;
    }

counted : (name : List ℕ) (A us : Trees) → AreOtherAttributes name A → AreLawfulTrees (chained more A us) → IsNextAttribute name us false → AreCounted A us
counted name none us o l n = counted-none name us n
counted name (more (node k m v ks) A) us o l n =
    let all : AreLawfulTrees (more (node k m v ks) (chained more A us)) = subst AreLawfulTrees (chained-more (node k m v ks) A us) l in
    let one : IsLawfulTree (node Attribute m v ks) = subst (λ (j : Kind). IsLawfulTree (node j m v ks)) o.0 all.0 in
    subst (λ (j : Kind). AreCounted (more (node j m v ks) A) us) (sym o.0) (counted-more m v ks A us one (counted name A us o.2 all.1 n))

has-none : (x : List ℕ) (kids : Trees) → has_attribute x kids ≡ false → HasNoAttribute x kids
has-none x none e = tt
has-none x (more (node Document m v ks) ts) e = tt
has-none x (more (node Element m v ks) ts) e = tt
has-none x (more (node Text m v ks) ts) e = tt
has-none x (more (node Comment m v ks) ts) e = tt
has-none x (more (node Instruction m v ks) ts) e = tt
has-none x (more (node Attribute m v ks) ts) e = by_test (bytes_eq m x) refl e (has-none x ts)
  where
    by_test : (b : Bool) → bytes_eq m x ≡ b → (b || has_attribute x ts) ≡ false → (has_attribute x ts ≡ false → HasNoAttribute x ts) → (bytes_eq m x ≡ false) × HasNoAttribute x ts
    by_test true is f others = absurd (true≢false f)
    by_test false is f others = (is, others f)

attribute-body : (f : ℕ) (body : List Label) → body ≡ Symbol f ∷ Bottom ∷ Param ∷ [] → IsBodyOf (Node f Leaf (Hole 0)) body
attribute-body f body e = subst (IsBodyOf (Node f Leaf (Hole 0))) (sym e) (record { plain = tt; term = λ ranks. tt; linear = refl; last = record { front = Symbol f ∷ Bottom ∷ []; is = refl }; means = λ ranks rules. refl })

same-kind : (r s : Tree) (us vs : Trees) → more r us ≡ more s vs → kind_of r ≡ kind_of s
same-kind r s us vs e = let f : r ≡ s = cc in ap kind_of f

-- an element alone may get an attribute
module _ (t : Tree) (n : ℕ) (kind : Kind) (told : Some kind ≡ kind_at t n) (name value : List ℕ) where
  pub element-allowed : kind ≡ Element → IsAllowed t (Attr n name value)
  element-allowed e = allowed-there t (Attr n name value) (at-told t n kind told) (here-is t n kind told ∙ e)

  pub allowed-element : IsAllowed t (Attr n name value) → kind ≡ Element
  allowed-element h = sym (here-is t n kind told) ∙ there-allowed t (Attr n name value) (at-told t n kind told) h

-- what gets an attribute is none
pub element-other : (t : Tree) (n : ℕ) (name value : List ℕ) → IsAllowed t (Attr n name value) → kind_at t n ≡ Some Attribute → ⊥
element-other t n name value h e = let f : Attribute ≡ Element = allowed-element t n Attribute (sym e) name value h in absurd cc

pub no-own : (k : Kind) (v : List ℕ) → k ≡ Element → length (own k v) ≡ 0
no-own k v e = ap (λ (j : Kind). length (own j v)) e

module _ (t : Tree) (n : ℕ) (name value : List ℕ) (edit : IsEditOf t (Attr n name value)) where
  abbrev e : Edit
  e = Attr n name value

  abbrev ts : Trees
  ts = more t none

  pub element-low : n < node_count t
  element-low = allowed-low t (Attr n name value) edit.allowed

  pub element : NodeOf n t
  element = node-there t n element-low

  pub its-kind : element.kind ≡ Element
  its-kind =
      let p = place-of-node t n element-low in
      same-kind (node element.kind element.name element.content element.kids) p.place.here element.behind p.place.behind (sym element.here ∙ p.from) ∙ there-allowed t (Attr n name value) p edit.allowed

  its-kids : first_kids (from_node n (more t none)) ≡ element.kids
  its-kids = ap first_kids element.here

  pub lawful-kids : AreLawfulTrees element.kids
  lawful-kids =
      let l = lawful-from n (more t none) (omega (arith, element-low)) (edit.document_is.lawful, tt) in
      let here : AreLawfulTrees (more (node element.kind element.name element.content element.kids) element.behind) = subst AreLawfulTrees element.here l in
      here.0.2

  made-one : made more (Attr n name value) (more t none) ≡ more (edited t (Attr n name value)) none
  made-one = (placed-alone t edit.document_is (Attr n name value) edit.allowed edit.parts).0

  -- where attributes of other names alone are found, a new one comes behind them
  module _ (p : AttributePlace) (h : IsAttributePlace name (first_kids (from_node n (more t none))) p) where
    pub kids-split : element.kids ≡ chained more h.front h.behind
    kids-split = sym its-kids ∙ h.split

    -- they are fewer than all nodes
    pub before-low : n + 1 + p.before ≤ node_count t
    before-low =
        let low : n < node_count_all (more t none) = omega (arith, element-low) in
        omega (arith, some-from n (more t none) low, ap node_count_all element.here, ap node_count_all kids-split, count-chained h.front h.behind, h.before)

    module _ (absent : p.found ≡ false) where
      front : AreCounted h.front h.behind
      front = counted name h.front h.behind h.others (subst AreLawfulTrees kids-split lawful-kids) (subst (IsNextAttribute name h.behind) absent h.next)

      none-there : has_attribute name (first_kids (from_node n (more t none))) ≡ false
      none-there = sym (place-has name (first_kids (from_node n (more t none))) p h) ∙ absent

      values-before : length (texts_all (front_attributes element.kids)) ≡ p.before
      values-before = ap (λ us. length (texts_all us)) (ap front_attributes kids-split ∙ front.front_is) ∙ omega (arith, front.values, h.before)

      texts-here : length (texts (node element.kind element.name element.content element.kids)) ≡ length (texts_all h.front) + length (texts_all h.behind)
      texts-here = omega (
        arith,
        ap length (sym (texts-one (node element.kind element.name element.content element.kids)) ∙ texts_all-more element.kind element.name element.content element.kids none),
        length-append (own element.kind element.content) (texts_all element.kids ++ []),
        length-append (texts_all element.kids) [],
        no-own element.kind element.content its-kind,
        ap (λ us. length (texts_all us)) kids-split,
        ap length (texts_all-chained h.front h.behind),
        length-append (texts_all h.front) (texts_all h.behind),
      )

      -- its place is one of the document's, and its rank one of the texts or the next
      pub place-within : (place : ℕ) → Some place ≡ place_at t n → place + 1 + 2 * p.before < 2 * node_count t
      place-within place at =
          let q = place-of n t element in
          let place-is : place ≡ q.0 = same_Some place q.0 (at ∙ ap (option_map (λ (x : ℕ × Tree). x.0)) q.1) in
          let w = placed-within (more t none) 0 n q.0 (node element.kind element.name element.content element.kids) q.1 in
          omega (arith, place-is, w.1, ap node_count_all kids-split, count-chained h.front h.behind, h.before)

      pub rank-within : (rank : ℕ) → Some rank ≡ text_rank_at t n → rank + p.before ≤ length (texts t)
      rank-within rank told =
          let rank-is : rank ≡ rank_in n (more t none) = same_Some rank (rank_in n (more t none)) (told ∙ rank-told t n element-low) in
          omega (arith, rank-is, texts-fit t n element-low (node element.kind element.name element.content element.kids) element.behind element.here, texts-here, front.values, h.before)

      pub site-is : (place rank : ℕ) → Some place ≡ place_at t n → Some rank ≡ text_rank_at t n → IsAttributeSite t n name value (record { place = place + 1 + 2 * p.before; rank = rank + p.before })
      site-is place rank at told =
          let q = place-of n t element in
          let place-is : place ≡ q.0 = same_Some place q.0 (at ∙ ap (option_map (λ (x : ℕ × Tree). x.0)) q.1) in
          let rank-is : rank ≡ rank_in n (more t none) = same_Some rank (rank_in n (more t none)) (told ∙ rank-told t n element-low) in
          let places : attribute_places element.kids ≡ 2 * p.before = ap attribute_places kids-split ∙ front.places ∙ omega (arith, h.before) in
          let new-rank : rank_in n (more t none) + (length (own element.kind element.content) + length (texts_all (front_attributes element.kids))) ≡ rank + p.before =
          omega (arith, rank-is, values-before, no-own element.kind element.content its-kind) in
          let low : n < node_count_all (more t none) = omega (arith, element-low) in
          record {
            absent = none-there;
            place = ap (option_map (λ (x : ℕ × Tree). x.0 + 1 + attribute_places (kids_of x.1))) q.1 ∙ ap (λ (i : ℕ). Some i) (omega (arith, place-is, places));
            fits = rank-within rank told;
            texts_are =
                sym (texts-one (edited t (Attr n name value))) ∙ ap texts_all (sym made-one)
                ∙ texts-attribute n (more t none) low element.kind element.name element.content element.kids element.behind element.here name value (has-none name element.kids (sym (ap (has_attribute name) its-kids) ∙ none-there))
                ∙ ap (λ (i : ℕ). insert_slice (texts_all (more t none)) i (value ∷ [])) new-rank ∙ ap (λ xs. insert_slice xs (rank + p.before) (value ∷ [])) (texts-one t);
          }

  -- a new attribute makes the document the edited one
  module _ (names : List Pair) (site : Site) (h : IsAttributeSite t n name value site) where
    kids-bare : HasNoAttribute name element.kids
    kids-bare = has-none name element.kids (sym (ap (has_attribute name) its-kids) ∙ h.absent)

    pub one-more : node_count (edited t (Attr n name value)) ≡ node_count t + 1
    one-more =
        let come : Bool → ℕ = λ b. if b then 0 else 1 in
        omega (arith, edits-are-counted t (Attr n name value) edit, ap come h.absent)

    site-place : site.place ≡ (place-of n t element).0 + 1 + attribute_places element.kids
    site-place =
        let q = place-of n t element in
        same_Some site.place (q.0 + 1 + attribute_places element.kids) (sym h.place ∙ ap (option_map (λ (x : ℕ × Tree). x.0 + 1 + attribute_places (kids_of x.1))) q.1)

    pub place-fits : site.place < 2 * node_count t + 1
    place-fits =
        let q = place-of n t element in
        let w = placed-within (more t none) 0 n q.0 (node element.kind element.name element.content element.kids) q.1 in
        omega (arith, w.1, site-place, attribute-low element.kids)

    module _ (g : Growth) (x : IsAttributeGrowth names name value site g) where
      pub attribute-grows : node_count t + 1 < 2 ^ 63 → GrowsInto names t (edited t (Attr n name value)) g
      attribute-grows few =
          let q = place-of n t element in
          let low : n < node_count_all (more t none) = omega (arith, element-low) in
          record {
            front = Node x.body.0 Leaf (Hole 0);
            body = attribute-body x.body.0 g.body x.body.2;
            place = omega (arith, ap (λ (w : Site). w.place) x.site_is, place-fits);
            code = λ around this once before c.
                subst (λ us. Codes names us (substitute around (Node x.body.0 Leaf this ∷ []))) made-one
                (code-attribute names (more t none) around this once c n low q.0 element.kind element.name element.content element.kids element.behind element.here q.1 (before ∙ ap (λ (w : Site). w.place) x.site_is ∙ site-place) name value kids-bare x.body.0 x.body.1);
            rank = omega (arith, ap (λ (w : Site). w.rank) x.site_is, h.fits);
            texts_are = h.texts_are ∙ ap (λ (w : Site). insert_slice (texts t) w.rank (value ∷ [])) (sym x.site_is) ∙ ap (insert_slice (texts t) g.site.rank) (sym x.texts);
            nodes = omega (arith, one-more, x.nodes);
            document = (placed-alone t edit.document_is (Attr n name value) edit.allowed edit.parts).1;
            small = omega (arith, few, one-more);
          }
