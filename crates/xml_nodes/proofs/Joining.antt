-- No two texts of what tokens spell are neighbours.
use Rattle.std.proofs.Common.{◌≡◌, ℕ, Bool, true, false, List, [], ◌∷◌, refl, ap, ◌∙◌, inl, inr, append-nil}
use Rattle.plain_tree.specs.declared.kind.Kind.TheVariants as kind
use Rattle.plain_tree.specs.Tree.{Tree, node, Trees, none, more}
use Rattle.xml_tokens.specs.Tokens.{Token}
use Rattle.plain_tree.specs.Joined.{front_text, behind_text, joined, joined_all}
use Rattle.xml_nodes.specs.Content.{AreAllAttributes, IsMarkup, AreBehindRun, IsContent, Part, Space, Typed, Kid, kids_of, AreParts, AreDocument}

no_text : (ts : Trees) (tokens after : List Token) → AreBehindRun ts tokens after → (front_text ts ≡ []) × (behind_text ts ≡ ts)
no_text none tokens after a = (refl, refl)
no_text (more (node kind.Element n v ks) ts) tokens after a = (refl, refl)
no_text (more (node kind.Comment n v ks) ts) tokens after a = (refl, refl)
no_text (more (node kind.Instruction n v ks) ts) tokens after a = (refl, refl)
no_text (more (node kind.Document n v ks) ts) tokens after a = (refl, refl)
no_text (more (node kind.Attribute n v ks) ts) tokens after a = (refl, refl)
no_text (more (node kind.Text n v ks) ts) tokens after a = absurd a.1

text_joined : (n v : List ℕ) (ks ts : Trees) (tokens after : List Token) → ks ≡ none → AreBehindRun ts tokens after → joined_all ts ≡ ts
    → joined_all (more (node kind.Text n v ks) ts) ≡ more (node kind.Text n v ks) ts
text_joined n v ks ts tokens after e a f =
    let own = no_text ts tokens after a in
    rw (f, own.0, own.1, e, append-nil v) refl

-- a node that is no text
item_first : (t : Tree) (ts : Trees) (tokens mid : List Token) → IsMarkup t tokens mid → joined t ≡ t → joined_all ts ≡ ts → joined_all (more t ts) ≡ more t ts
item_first (node kind.Element n v ks) ts tokens mid i e f = ap (λ z. more z (joined_all ts)) e ∙ ap (λ z. more (node kind.Element n v ks) z) f
item_first (node kind.Comment n v ks) ts tokens mid i e f = ap (λ z. more z (joined_all ts)) e ∙ ap (λ z. more (node kind.Comment n v ks) z) f
item_first (node kind.Instruction n v ks) ts tokens mid i e f = ap (λ z. more z (joined_all ts)) e ∙ ap (λ z. more (node kind.Instruction n v ks) z) f
item_first (node kind.Document n v ks) ts tokens mid i e f = absurd i
item_first (node kind.Attribute n v ks) ts tokens mid i e f = absurd i
item_first (node kind.Text n v ks) ts tokens mid i e f = absurd i

attribute_first : (n v : List ℕ) (ks ts : Trees) → ks ≡ none → joined_all ts ≡ ts → joined_all (more (node kind.Attribute n v ks) ts) ≡ more (node kind.Attribute n v ks) ts
attribute_first n v ks ts e f = rw (e, f) refl

attributes_joined : (ts : Trees) → AreAllAttributes ts → joined_all ts ≡ ts
attributes_joined none a = refl
attributes_joined (more (node kind.Attribute n v ks) ts) a = attribute_first n v ks ts a.1 (attributes_joined ts a.2)
attributes_joined (more (node kind.Document n v ks) ts) a = let bad = a.0 in cc
attributes_joined (more (node kind.Element n v ks) ts) a = let bad = a.0 in cc
attributes_joined (more (node kind.Text n v ks) ts) a = let bad = a.0 in cc
attributes_joined (more (node kind.Comment n v ks) ts) a = let bad = a.0 in cc
attributes_joined (more (node kind.Instruction n v ks) ts) a = let bad = a.0 in cc

mutual
  item_joined : (t : Tree) (tokens after : List Token) → IsMarkup t tokens after → joined t ≡ t
  item_joined (node kind.Element n v ks) tokens after (e, inl l) = ap (λ z. node kind.Element n v z) (attributes_joined ks l.no_content)
  item_joined (node kind.Element n v ks) tokens after (e, inr p) = ap (λ z. node kind.Element n v z) (content_joined ks true p.inner _ p.content)
  item_joined (node kind.Comment n v ks) tokens after i = let kids = i.1 in rw kids refl
  item_joined (node kind.Instruction n v ks) tokens after i = let kids = i.0 in rw kids refl
  item_joined (node kind.Document n v ks) tokens after i = absurd i
  item_joined (node kind.Attribute n v ks) tokens after i = absurd i
  item_joined (node kind.Text n v ks) tokens after i = absurd i

  items_joined : (ts : Trees) (tokens after : List Token) → AreBehindRun ts tokens after → joined_all ts ≡ ts
  items_joined none tokens after a = refl
  items_joined (more t ts) tokens after (mid, i, c) = item_first t ts tokens mid i (item_joined t tokens mid i) (content_joined ts false mid after c)

  pub content_joined : (ts : Trees) (in_tag : Bool) (tokens after : List Token) → IsContent ts in_tag tokens after → joined_all ts ≡ ts
  content_joined none in_tag tokens after c = refl
  content_joined (more (node kind.Attribute n v ks) ts) true tokens after c = attribute_first n v ks ts c.0 (content_joined ts true tokens after c.1)
  content_joined (more (node kind.Attribute n v ks) ts) false tokens after c = absurd c
  content_joined (more (node kind.Document n v ks) ts) in_tag tokens after c = absurd c
  content_joined (more (node kind.Text n v ks) ts) in_tag tokens after c = text_joined n v ks ts c.mid after c.no_kids c.others (items_joined ts c.mid after c.others)
  content_joined (more (node kind.Element n v ks) ts) in_tag tokens after c =
      item_first (node kind.Element n v ks) ts c.mid c.others.0 c.others.1 (item_joined (node kind.Element n v ks) c.mid c.others.0 c.others.1)
      (content_joined ts false c.others.0 after c.others.2)
  content_joined (more (node kind.Comment n v ks) ts) in_tag tokens after c =
      item_first (node kind.Comment n v ks) ts c.mid c.others.0 c.others.1 (item_joined (node kind.Comment n v ks) c.mid c.others.0 c.others.1)
      (content_joined ts false c.others.0 after c.others.2)
  content_joined (more (node kind.Instruction n v ks) ts) in_tag tokens after c =
      item_first (node kind.Instruction n v ks) ts c.mid c.others.0 c.others.1 (item_joined (node kind.Instruction n v ks) c.mid c.others.0 c.others.1)
      (content_joined ts false c.others.0 after c.others.2)

parts_joined : (ps : List Part) (typed rooted : Bool) (tokens : List Token) → AreParts typed rooted ps tokens → joined_all (kids_of ps) ≡ kids_of ps
parts_joined [] typed rooted tokens a = refl
parts_joined (Space c ∷ ps) typed rooted tokens a = parts_joined ps typed rooted a.0 a.3
parts_joined (Typed ∷ ps) typed rooted tokens a = parts_joined ps true rooted a.0 a.3
parts_joined (Kid (node kind.Element n v ks) ∷ ps) typed rooted tokens a =
    item_first (node kind.Element n v ks) (kids_of ps) tokens a.0 a.2 (item_joined (node kind.Element n v ks) tokens a.0 a.2) (parts_joined ps true true a.0 a.3)
parts_joined (Kid (node kind.Comment n v ks) ∷ ps) typed rooted tokens a =
    item_first (node kind.Comment n v ks) (kids_of ps) tokens a.0 a.1 (item_joined (node kind.Comment n v ks) tokens a.0 a.1) (parts_joined ps typed rooted a.0 a.2)
parts_joined (Kid (node kind.Instruction n v ks) ∷ ps) typed rooted tokens a =
    item_first (node kind.Instruction n v ks) (kids_of ps) tokens a.0 a.1 (item_joined (node kind.Instruction n v ks) tokens a.0 a.1) (parts_joined ps typed rooted a.0 a.2)
parts_joined (Kid (node kind.Document n v ks) ∷ ps) typed rooted tokens a = absurd a.1
parts_joined (Kid (node kind.Attribute n v ks) ∷ ps) typed rooted tokens a = absurd a.1
parts_joined (Kid (node kind.Text n v ks) ∷ ps) typed rooted tokens a = absurd a.1

pub document-is_joined : (tokens : List Token) (tree : Tree) → AreDocument tokens tree → joined tree ≡ tree
document-is_joined tokens tree d = rw d.is (ap (λ z. node kind.Document [] [] z) (parts_joined d.parts false false d.declared d.are_parts))
