-- Trees as their tokens make them: an element from its tags, a text from its run.
use Rattle.std.proofs.Common.{◌≡◌, ℕ, Bool, true, List, [], ◌∷◌, ◌++◌, refl, ap, sym, ◌∙◌, subst, inl, inr, append_assoc}
use Rattle.plain_tree.specs.declared.kind.Kind.TheVariants as kind
use Rattle.plain_tree.specs.Tree.{Tree, node, Trees, none, more}
use Rattle.xml_tokens.specs.Tokens.{Token, Start, Empty, End}
use Rattle.xml_nodes.specs.Content.{RunGives, attributes_among, AreAllAttributes, IsMarkup, AreBehindRun, IsContent}
use Rattle.xml_nodes.specs.Machine.{Event, Opened, Leaf, Closed, events, events_all, attribute_leaves, text_leaf}

-- the kids behind a text, where there is any
abbrev pub with_text_kid : List ℕ → Trees → Trees
with_text_kid [] ts = ts
with_text_kid (c ∷ cs) ts = more (node kind.Text [] (c ∷ cs) none) ts

-- and behind attributes
abbrev pub with_attribute_kids : List (List ℕ × List ℕ) → Trees → Trees
with_attribute_kids [] ts = ts
with_attribute_kids (a ∷ attrs) ts = more (node kind.Attribute a.0 a.1 none) (with_attribute_kids attrs ts)

abbrev pub element : List ℕ → List (List ℕ × List ℕ) → List ℕ → Trees → Tree
element name attrs text items = node kind.Element name [] (with_attribute_kids attrs (with_text_kid text items))

pub text_events : (v : List ℕ) (ts : Trees) (next : List Event) → events_all (with_text_kid v ts) next ≡ text_leaf v ++ events_all ts next
text_events [] ts next = refl
text_events (c ∷ v) ts next = refl

pub attribute_events : (attrs : List (List ℕ × List ℕ)) (ts : Trees) (next : List Event) → events_all (with_attribute_kids attrs ts) next ≡ attribute_leaves attrs ++ events_all ts next
attribute_events [] ts next = refl
attribute_events (a ∷ attrs) ts next = ap (λ z. Leaf kind.Attribute a.0 a.1 ∷ z) (attribute_events attrs ts next)

pub no_attributes : (items : Trees) (tokens after : List Token) → AreBehindRun items tokens after → attributes_among items ≡ []
no_attributes none tokens after a = refl
no_attributes (more (node kind.Element n v ks) ts) tokens after a = refl
no_attributes (more (node kind.Comment n v ks) ts) tokens after a = refl
no_attributes (more (node kind.Instruction n v ks) ts) tokens after a = refl
no_attributes (more (node kind.Document n v ks) ts) tokens after a = refl
no_attributes (more (node kind.Text n v ks) ts) tokens after a = refl
no_attributes (more (node kind.Attribute n v ks) ts) tokens after a = absurd a.1

attributes_behind : (v : List ℕ) (items : Trees) → attributes_among items ≡ [] → attributes_among (with_text_kid v items) ≡ []
attributes_behind [] items e = e
attributes_behind (c ∷ v) items e = refl

attributes_made : (attrs : List (List ℕ × List ℕ)) (ts : Trees) → attributes_among ts ≡ [] → attributes_among (with_attribute_kids attrs ts) ≡ attrs
attributes_made [] ts e = e
attributes_made (a ∷ attrs) ts e = ap (λ z. (a.0, a.1) ∷ z) (attributes_made attrs ts e)

are_attributes : (attrs : List (List ℕ × List ℕ)) → AreAllAttributes (with_attribute_kids attrs none)
are_attributes [] = tt
are_attributes (a ∷ attrs) = (refl, refl, are_attributes attrs)

behind_attributes : (attrs : List (List ℕ × List ℕ)) (ts : Trees) (tokens after : List Token) → IsContent ts true tokens after → IsContent (with_attribute_kids attrs ts) true tokens after
behind_attributes [] ts tokens after c = c
behind_attributes (a ∷ attrs) ts tokens after c = (refl, behind_attributes attrs ts tokens after c)

-- a run of pieces and then items are a content
pub content_made : (v : List ℕ) (items : Trees) (in_tag : Bool) (tokens mid after : List Token) → RunGives v tokens mid → AreBehindRun items mid after → IsContent (with_text_kid v items) in_tag tokens after
content_made [] none in_tag tokens mid after r a = subst (λ z. RunGives [] tokens z) a r
content_made [] (more (node kind.Element n v ks) ts) in_tag tokens mid after r a = record { mid = mid; run = r; others = a }
content_made [] (more (node kind.Comment n v ks) ts) in_tag tokens mid after r a = record { mid = mid; run = r; others = a }
content_made [] (more (node kind.Instruction n v ks) ts) in_tag tokens mid after r a = record { mid = mid; run = r; others = a }
content_made [] (more (node kind.Document n v ks) ts) in_tag tokens mid after r a = absurd a.1
content_made [] (more (node kind.Text n v ks) ts) in_tag tokens mid after r a = absurd a.1
content_made [] (more (node kind.Attribute n v ks) ts) in_tag tokens mid after r a = absurd a.1
content_made (c ∷ cs) items in_tag tokens mid after r a = record { no_name = refl; no_kids = refl; some = λ e. cc; mid = mid; run = r; others = a }

-- an element as its tags and its content make it
module _ (n : List ℕ) (attrs : List (List ℕ × List ℕ)) where
  pub empty_made : (after : List Token) → IsMarkup (element n attrs [] none) (Empty n attrs ∷ after) after
  empty_made after =
      (refl, inl (record { no_content = are_attributes attrs; tag = ap (λ z. Empty n z ∷ after) (sym (attributes_made attrs none refl)) }))

  pub empty_events : (next : List Event) → (Opened n ∷ (attribute_leaves attrs ++ Closed ∷ [])) ++ next ≡ events (element n attrs [] none) next
  empty_events next =
      ap (λ z. Opened n ∷ z) (append_assoc (attribute_leaves attrs) (Closed ∷ []) next ∙ sym (attribute_events attrs none (Closed ∷ next)))

  pub start_made : (v : List ℕ) (items : Trees) (inner mid after : List Token) → RunGives v inner mid → AreBehindRun items mid (End n ∷ after)
      → IsMarkup (element n attrs v items) (Start n attrs ∷ inner) after
  start_made v items inner mid after r a = (
    refl,
    inr (record {
      inner = inner;
      start_tag = ap (λ z. Start n z ∷ inner) (sym (attributes_made attrs (with_text_kid v items) (attributes_behind v items (no_attributes items mid (End n ∷ after) a))));
      content = behind_attributes attrs (with_text_kid v items) inner (End n ∷ after) (content_made v items true inner mid (End n ∷ after) r a);
    }),
  )

  pub start_events : (v : List ℕ) (items : Trees) (next : List Event)
      → (Opened n ∷ attribute_leaves attrs) ++ (text_leaf v ++ events_all items (Closed ∷ next)) ≡ events (element n attrs v items) next
  start_events v items next =
      ap (λ z. Opened n ∷ z) (ap (λ z. attribute_leaves attrs ++ z) (sym (text_events v items (Closed ∷ next))) ∙ sym (attribute_events attrs (with_text_kid v items) (Closed ∷ next)))
