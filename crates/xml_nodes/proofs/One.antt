-- Tokens are at most one document: the machine's calls are those of each, and calls are at most one tree's.
use Rattle.std.proofs.Common.{◌≡◌, ℕ, Bool, true, false, List, [], ◌∷◌, refl, ap, sym, ◌∙◌, subst, inl, inr}
use Rattle.std.specs.Prelude.{Option, Some, None}
use Rattle.plain_tree.specs.declared.kind.Kind.{Kind}
use Rattle.plain_tree.specs.declared.kind.Kind.TheVariants as kind
use Rattle.plain_tree.specs.Tree.{Tree, node, Trees, none, more}
use Rattle.xml_nodes.proofs.Documents.{document_leads}
use Rattle.xml_tokens.specs.Tokens.{Token}
use Rattle.xml_nodes.specs.Content.{AreAllAttributes, IsMarkup, AreBehindRun, IsContent, Part, Space, Typed, Kid, kids_of, AreParts, AreDocument}
use Rattle.xml_nodes.specs.Machine.{Event, Opened, Leaf, Closed, State, events, events_all, IsShaped, AreShaped}

-- no tree's calls begin here
abbrev pub Stops : List Event → Type 0
Stops [] = Unit {0}
Stops (Closed ∷ es) = Unit {0}
Stops (Opened n ∷ es) = ⊥
Stops (Leaf k n v ∷ es) = ⊥

goes_on : (t : Tree) (next : List Event) → IsShaped t → Stops (events t next) → ⊥
goes_on (node kind.Element n v ks) next s h = h
goes_on (node kind.Attribute n v ks) next s h = h
goes_on (node kind.Text n v ks) next s h = h
goes_on (node kind.Comment n v ks) next s h = h
goes_on (node kind.Instruction n v ks) next s h = h
goes_on (node kind.Document n v ks) next s h = s

leaf_is : (k l : Kind) (n m v w : List ℕ) (x y : List Event) → Leaf k n v ∷ x ≡ Leaf l m w ∷ y → (n ≡ m) × (v ≡ w) × (x ≡ y)
leaf_is k l n m v w x y e = (cc, cc, cc)

leaf_node : (k : Kind) (n m v w : List ℕ) (ks ls : Trees) → n ≡ m → v ≡ w → ks ≡ none → ls ≡ none → node k n v ks ≡ node k m w ls
leaf_node k n m v w ks ls e f g h = cc

mutual
  events-inj : (s t : Tree) (x y : List Event) → IsShaped s → IsShaped t → events s x ≡ events t y → (s ≡ t) × (x ≡ y)
  events-inj (node kind.Element n v ks) (node kind.Element m w ls) x y p q e =
      let names : n ≡ m = cc in
      let inner : events_all ks (Closed ∷ x) ≡ events_all ls (Closed ∷ y) = cc in
      let below = all-inj ks ls (Closed ∷ x) (Closed ∷ y) p.1 q.1 tt tt inner in
      let kids = below.0 in
      let rest = below.1 in
      let v_is = p.0 in
      let w_is = q.0 in
      (cc, cc)
  events-inj (node kind.Attribute n v ks) (node kind.Attribute m w ls) x y p q e =
      let same = leaf_is kind.Attribute kind.Attribute n m v w x y e in (leaf_node kind.Attribute n m v w ks ls same.0 same.1 p q, same.2)
  events-inj (node kind.Text n v ks) (node kind.Text m w ls) x y p q e =
      let same = leaf_is kind.Text kind.Text n m v w x y e in (leaf_node kind.Text n m v w ks ls same.0 same.1 p q, same.2)
  events-inj (node kind.Comment n v ks) (node kind.Comment m w ls) x y p q e =
      let same = leaf_is kind.Comment kind.Comment n m v w x y e in (leaf_node kind.Comment n m v w ks ls same.0 same.1 p q, same.2)
  events-inj (node kind.Instruction n v ks) (node kind.Instruction m w ls) x y p q e =
      let same = leaf_is kind.Instruction kind.Instruction n m v w x y e in (leaf_node kind.Instruction n m v w ks ls same.0 same.1 p q, same.2)
  events-inj (node kind.Document n v ks) t x y p q e = absurd p
  events-inj s (node kind.Document m w ls) x y p q e = absurd q
  events-inj _ _ x y p q e = cc

  pub all-inj : (ss ts : Trees) (x y : List Event) → AreShaped ss → AreShaped ts → Stops x → Stops y → events_all ss x ≡ events_all ts y → (ss ≡ ts) × (x ≡ y)
  all-inj none none x y p q h k e = (refl, e)
  all-inj none (more t ts) x y p q h k e = absurd (goes_on t (events_all ts y) q.0 (subst Stops e h))
  all-inj (more s ss) none x y p q h k e = absurd (goes_on s (events_all ss x) p.0 (subst Stops (sym e) k))
  all-inj (more s ss) (more t ts) x y p q h k e =
      let first = events-inj s t (events_all ss x) (events_all ts y) p.0 q.0 e in
      let others = all-inj ss ts x y p.1 q.1 h k first.1 in
      let here = first.0 in
      let there = others.0 in
      (cc, others.1)

attributes_shaped : (ks : Trees) → AreAllAttributes ks → AreShaped ks
attributes_shaped none a = tt
attributes_shaped (more (node k n v ks) ts) a = (subst (λ z. IsShaped (node z n v ks)) (sym a.0) a.1, attributes_shaped ts a.2)

mutual
  item_shaped : (t : Tree) (tokens after : List Token) → IsMarkup t tokens after → IsShaped t
  item_shaped (node kind.Element n v ks) tokens after (e, inl l) = (e, attributes_shaped ks l.no_content)
  item_shaped (node kind.Element n v ks) tokens after (e, inr p) = (e, content_shaped ks true p.inner _ p.content)
  item_shaped (node kind.Comment n v ks) tokens after i = i.1
  item_shaped (node kind.Instruction n v ks) tokens after i = i.0
  item_shaped (node kind.Document n v ks) tokens after i = i
  item_shaped (node kind.Attribute n v ks) tokens after i = absurd i
  item_shaped (node kind.Text n v ks) tokens after i = absurd i

  items_shaped : (ts : Trees) (tokens after : List Token) → AreBehindRun ts tokens after → AreShaped ts
  items_shaped none tokens after a = tt
  items_shaped (more t ts) tokens after (mid, i, c) = (item_shaped t tokens mid i, content_shaped ts false mid after c)

  pub content_shaped : (ts : Trees) (in_tag : Bool) (tokens after : List Token) → IsContent ts in_tag tokens after → AreShaped ts
  content_shaped none in_tag tokens after c = tt
  content_shaped (more (node kind.Attribute n v ks) ts) true tokens after c = (c.0, content_shaped ts true tokens after c.1)
  content_shaped (more (node kind.Attribute n v ks) ts) false tokens after c = absurd c
  content_shaped (more (node kind.Document n v ks) ts) in_tag tokens after c = absurd c
  content_shaped (more (node kind.Text n v ks) ts) in_tag tokens after c = (c.no_kids, items_shaped ts c.mid after c.others)
  content_shaped (more (node kind.Element n v ks) ts) in_tag tokens after c =
      (item_shaped (node kind.Element n v ks) c.mid c.others.0 c.others.1, content_shaped ts false c.others.0 after c.others.2)
  content_shaped (more (node kind.Comment n v ks) ts) in_tag tokens after c =
      (item_shaped (node kind.Comment n v ks) c.mid c.others.0 c.others.1, content_shaped ts false c.others.0 after c.others.2)
  content_shaped (more (node kind.Instruction n v ks) ts) in_tag tokens after c =
      (item_shaped (node kind.Instruction n v ks) c.mid c.others.0 c.others.1, content_shaped ts false c.others.0 after c.others.2)

pub parts_shaped : (ps : List Part) (typed rooted : Bool) (tokens : List Token) → AreParts typed rooted ps tokens → AreShaped (kids_of ps)
parts_shaped [] typed rooted tokens a = tt
parts_shaped (Space c ∷ ps) typed rooted tokens a = parts_shaped ps typed rooted a.0 a.3
parts_shaped (Typed ∷ ps) typed rooted tokens a = parts_shaped ps true rooted a.0 a.3
parts_shaped (Kid (node kind.Element n v ks) ∷ ps) typed rooted tokens a = (item_shaped (node kind.Element n v ks) tokens a.0 a.2, parts_shaped ps true true a.0 a.3)
parts_shaped (Kid (node kind.Comment n v ks) ∷ ps) typed rooted tokens a = (item_shaped (node kind.Comment n v ks) tokens a.0 a.1, parts_shaped ps typed rooted a.0 a.2)
parts_shaped (Kid (node kind.Instruction n v ks) ∷ ps) typed rooted tokens a = (item_shaped (node kind.Instruction n v ks) tokens a.0 a.1, parts_shaped ps typed rooted a.0 a.2)
parts_shaped (Kid (node kind.Document n v ks) ∷ ps) typed rooted tokens a = absurd a.1
parts_shaped (Kid (node kind.Attribute n v ks) ∷ ps) typed rooted tokens a = absurd a.1
parts_shaped (Kid (node kind.Text n v ks) ∷ ps) typed rooted tokens a = absurd a.1

abbrev calls_of : Option (State × List Event) → List Event
calls_of None = []
calls_of (Some r) = r.1

pub one-document : (tokens : List Token) (s t : Tree) → AreDocument tokens s → AreDocument tokens t → s ≡ t
one-document tokens s t p q =
    let ps = kids_of p.parts in
    let qs = kids_of q.parts in
    let same : events s [] ≡ events t [] = ap calls_of (sym (document_leads tokens s p) ∙ document_leads tokens t q) in
    let kids : events_all ps [] ≡ events_all qs [] = sym (ap (λ z. events z []) p.is) ∙ same ∙ ap (λ z. events z []) q.is in
    let is = (all-inj ps qs [] [] (parts_shaped p.parts false false p.declared p.are_parts) (parts_shaped q.parts false false q.declared q.are_parts) tt tt kids).0 in
    p.is ∙ ap (λ z. node kind.Document [] [] z) is ∙ sym q.is
