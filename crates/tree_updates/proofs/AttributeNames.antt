-- Names of the attributes of an element, of which one is at a place.
use Rattle.std.proofs.Common.{◌≡◌, ◌≢◌, ℕ, ◌<◌, List, Bool, true, false, refl, ap, sym, ◌∙◌, subst, arith, Some}
use Rattle.std.specs.Prelude.{slice_get, ◌||◌}
use Rattle.std.specs.Str.{bytes_eq}
use Rattle.std.proofs.Math.Bool.{true≢false}
use Rattle.std.proofs.lemmas.Slice.Eq.{bytes_eq-Decides}
use Rattle.plain_tree.specs.declared.kind.Kind.{Kind}
use Rattle.plain_tree.specs.declared.kind.Kind.TheVariants.{Document, Element, Attribute, Text, Comment, Instruction}
use Rattle.plain_tree.specs.Additions.{has_attribute}
use Rattle.plain_tree.specs.Edits.{chained}
use Rattle.plain_tree.specs.Lawful.{IsNew, AreElementKids, AreKids, IsDocument, AreLawfulTrees}
use Rattle.plain_tree.specs.NodePairs.{Pair}
use Rattle.plain_tree.specs.Siblings.{first_kids, from_node}
use Rattle.plain_tree.specs.Tree.{Tree, node, Trees, none, more, node_count_all}
use Rattle.plain_tree.proofs.Changing.{each-node, chained-more, from-inside, from-later}
use Rattle.plain_tree.proofs.KidLaws.{ends-roots, new-both, new-chained, no-attributes-new}
use Rattle.plain_tree.proofs.TextsAt.{lawful-from}
use Rattle.slt_grammar.specs.Coding.{Codes}
use Rattle.slt_grammar.specs.Terms.{Term}
use Rattle.tree_updates.proofs.ParentKids.{IsAmongKids, never-none}

-- an attribute stands among the kids of an element
element-kids : (k : Kind) (ss : Trees) (m v : List ℕ) (ks us : Trees) → AreKids k (chained more ss (more (node Attribute m v ks) us)) → AreElementKids true (chained more ss (more (node Attribute m v ks) us))
element-kids Element ss m v ks us h = h
element-kids Document ss m v ks us h = absurd ((ends-roots false ss (more (node Attribute m v ks) us) h).end)
element-kids Attribute ss m v ks us h = absurd (never-none ss (node Attribute m v ks) us (sym h))
element-kids Text ss m v ks us h = absurd (never-none ss (node Attribute m v ks) us (sym h))
element-kids Comment ss m v ks us h = absurd (never-none ss (node Attribute m v ks) us (sym h))
element-kids Instruction ss m v ks us h = absurd (never-none ss (node Attribute m v ks) us (sym h))

-- no attribute has the name where none is found
none-new : (x : List ℕ) (b : Bool) (kids : Trees) → AreElementKids b kids → has_attribute x kids ≡ false → IsNew x kids
none-new x b none h e = tt
none-new x b (more (node Document m v ks) ts) h e = absurd h
none-new x b (more (node Element m v ks) ts) h e = ((λ f. cc), no-attributes-new x ts h)
none-new x b (more (node Text m v ks) ts) h e = ((λ f. cc), no-attributes-new x ts h)
none-new x b (more (node Comment m v ks) ts) h e = ((λ f. cc), no-attributes-new x ts h)
none-new x b (more (node Instruction m v ks) ts) h e = ((λ f. cc), no-attributes-new x ts h)
none-new x b (more (node Attribute m v ks) ts) h e = by_test (bytes_eq m x) refl e (none-new x true ts h.2)
  where
    by_test : (test : Bool) → bytes_eq m x ≡ test → (test || has_attribute x ts) ≡ false → (has_attribute x ts ≡ false → IsNew x ts) → IsNew x (more (node Attribute m v ks) ts)
    by_test true is f others = absurd (true≢false f)
    by_test false is f others = ((λ k s. true≢false (sym ((bytes_eq-Decides m x).1 (sym s)) ∙ is)), others f)

new-none : (x : List ℕ) (kids : Trees) → IsNew x kids → has_attribute x kids ≡ false
new-none x none h = refl
new-none x (more (node Document m v ks) ts) h = refl
new-none x (more (node Element m v ks) ts) h = refl
new-none x (more (node Text m v ks) ts) h = refl
new-none x (more (node Comment m v ks) ts) h = refl
new-none x (more (node Instruction m v ks) ts) h = refl
new-none x (more (node Attribute m v ks) ts) h = by_test (bytes_eq m x) refl (new-none x ts h.1)
  where
    by_test : (test : Bool) → bytes_eq m x ≡ test → has_attribute x ts ≡ false → (bytes_eq m x || has_attribute x ts) ≡ false
    by_test true is others = absurd (h.0 refl (sym ((bytes_eq-Decides m x).0 is)))
    by_test false is others = ap (λ (c : Bool). c || has_attribute x ts) is ∙ others

-- the others have no name of an attribute that is there
own-new : (x : List ℕ) (b : Bool) (ss : Trees) (v : List ℕ) (ks us : Trees) → AreElementKids b (chained more ss (more (node Attribute x v ks) us)) → IsNew x ss × IsNew x us
own-new x b none v ks us h = (tt, h.1)
own-new x b (more (node k m w ls) ss) v ks us h =
    by_kind k (subst (AreElementKids b) (chained-more (node k m w ls) ss (more (node Attribute x v ks) us)) h) (own-new x true ss v ks us)
  where
    aside : AreElementKids false (chained more ss (more (node Attribute x v ks) us)) → IsNew x (more (node k m w ls) ss) × IsNew x us
    aside g = let r = new-both x ss (more (node Attribute x v ks) us) (no-attributes-new x (chained more ss (more (node Attribute x v ks) us)) g) in absurd (r.1.0 refl refl)

    by_kind : (j : Kind) → AreElementKids b (more (node j m w ls) (chained more ss (more (node Attribute x v ks) us))) → (AreElementKids true (chained more ss (more (node Attribute x v ks) us)) → IsNew x ss × IsNew x us) → IsNew x (more (node k m w ls) ss) × IsNew x us
    by_kind Document g others = absurd g
    by_kind Element g others = aside g
    by_kind Text g others = aside g
    by_kind Comment g others = aside g
    by_kind Instruction g others = aside g
    by_kind Attribute g others =
        let other = (new-both m ss (more (node Attribute x v ks) us) g.1).1.0 in
        let r = others g.2 in
        (((λ e s. other refl (sym s)), r.0), r.1)

-- codes of kids
pub coded-from : (names : List Pair) (n : ℕ) (ts : Trees) → n < node_count_all ts → (term : Term) → Codes names ts term → (u : Term) × Codes names (from_node n ts) u
coded-from names n ts low = each-node (λ n ts. (term : Term) → Codes names ts term → (u : Term) × Codes names (from_node n ts) u)
    (λ t ts term c. (term, c))
    (λ k m v ks ts n h r term c. let q = r c.1 c.4 in (q.0, subst (λ (us : Trees). Codes names us q.0) (sym (from-inside k m v ks ts n h)) q.1))
    (λ k m v ks ts d h r term c. let q = r c.2 c.5 in (q.0, subst (λ (us : Trees). Codes names us q.0) (sym (from-later k m v ks ts d)) q.1))
    n ts low

kids-coded : (names : List Pair) (us : Trees) (term : Term) → Codes names us term → (u : Term) × Codes names (first_kids us) u
kids-coded names none term c = (term, c)
kids-coded names (more (node k m v ks) us) term c = (c.1, c.4)

-- a name that no symbol has is no attribute's
unnamed-none : (names : List Pair) (x : List ℕ) → ((i : ℕ) → slice_get names i ≢ Some (Attribute, x)) → (kids : Trees) (term : Term) → Codes names kids term → has_attribute x kids ≡ false
unnamed-none names x h none term c = refl
unnamed-none names x h (more (node Document m v ks) ts) term c = refl
unnamed-none names x h (more (node Element m v ks) ts) term c = refl
unnamed-none names x h (more (node Text m v ks) ts) term c = refl
unnamed-none names x h (more (node Comment m v ks) ts) term c = refl
unnamed-none names x h (more (node Instruction m v ks) ts) term c = refl
unnamed-none names x h (more (node Attribute m v ks) ts) term c = by_test (bytes_eq m x) refl (unnamed-none names x h ts c.2 c.5)
  where
    by_test : (test : Bool) → bytes_eq m x ≡ test → has_attribute x ts ≡ false → (bytes_eq m x || has_attribute x ts) ≡ false
    by_test true is others = absurd (h c.0 (c.3 ∙ ap (λ (n : List ℕ). Some (Attribute, n)) ((bytes_eq-Decides m x).0 is)))
    by_test false is others = ap (λ (b : Bool). b || has_attribute x ts) is ∙ others

pub unnamed-kids : (names : List Pair) (x : List ℕ) → ((i : ℕ) → slice_get names i ≢ Some (Attribute, x)) → (m : ℕ) (ts : Trees) → m < node_count_all ts → (term : Term) → Codes names ts term → has_attribute x (first_kids (from_node m ts)) ≡ false
unnamed-kids names x h m ts low term c =
    let a = coded-from names m ts low term c in
    let b = kids-coded names (from_node m ts) a.0 a.1 in
    unnamed-none names x h (first_kids (from_node m ts)) b.0 b.1

pub lawful-kids : (us : Trees) (ss : Trees) (m v : List ℕ) (ks vs : Trees) → AreLawfulTrees us → first_kids us ≡ chained more ss (more (node Attribute m v ks) vs) → AreElementKids true (chained more ss (more (node Attribute m v ks) vs))
lawful-kids none ss m v ks vs l e = absurd (never-none ss (node Attribute m v ks) vs e)
lawful-kids (more (node k n w ls) us) ss m v ks vs l e = element-kids k ss m v ks vs (subst (AreKids k) e l.0.1)

-- what is so of an attribute's name, and of the others
module _ (t : Tree) (d : IsDocument t) (n : ℕ) (ss : Trees) (m v : List ℕ) (ks us : Trees) (k : IsAmongKids t n ss (node Attribute m v ks) us) (x : List ℕ) where
  element : AreElementKids true (chained more ss (more (node Attribute m v ks) us))
  element =
      let low = k.low in
      lawful-kids (from_node k.parent (more t none)) ss m v ks us (lawful-from k.parent (more t none) (omega (arith, low)) (d.lawful, tt)) k.kids

  -- none of the others has the name that no kid has
  pub free-there : has_attribute x (first_kids (from_node k.parent (more t none))) ≡ false → IsNew x ss × IsNew x us
  free-there e =
      let r = new-both x ss (more (node Attribute m v ks) us) (none-new x true (chained more ss (more (node Attribute m v ks) us)) element (ap (has_attribute x) (sym k.kids) ∙ e)) in
      (r.0, r.1.1)

  -- where none of them has it, and its own is another, no kid has it
  pub there-free : (m ≡ x → ⊥) → IsNew x ss → IsNew x us → has_attribute x (first_kids (from_node k.parent (more t none))) ≡ false
  there-free apart a b =
      ap (has_attribute x) k.kids
      ∙ new-none x (chained more ss (more (node Attribute m v ks) us)) (new-chained x ss (more (node Attribute m v ks) us) a ((λ f s. apart (sym s)), b))

  -- none of them has its own
  pub own-there : m ≡ x → IsNew x ss × IsNew x us
  own-there e = own-new x true ss v ks us (subst (λ (y : List ℕ). AreElementKids true (chained more ss (more (node Attribute y v ks) us))) e element)
