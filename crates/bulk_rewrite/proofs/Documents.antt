-- A document without nodes, but with its root element, and with texts that meet as one, is a document.
use Rattle.std.proofs.Common.{◌≡◌, ◌≢◌, ℕ, suc, ◌+◌, ◌&&◌, List, [], ◌∷◌, ◌++◌, Bool, true, false, if◌then◌else◌, refl, ap}
use Rattle.std.specs.List.{list_all}
use Rattle.std.specs.Str.{is_utf8, chars}
use Rattle.std.proofs.lemmas.List.Folds.{list_all-append}
use Rattle.std.proofs.lemmas.Str.{chars-append, IsUtf8-append, IsUtf8-from_is_utf8, is_utf8-from_IsUtf8}
use Rattle.plain_tree.specs.XmlNames.{is_char, are_chars}
use Rattle.plain_tree.specs.declared.kind.Kind.{Kind}
use Rattle.plain_tree.specs.declared.kind.Kind.TheVariants.{Document, Element, Attribute, Text, Comment, Instruction}
use Rattle.plain_tree.specs.Tree.{Tree, node, Trees, none, more, node_count_all}
use Rattle.plain_tree.specs.Joined.{front_text, behind_text, join_front}
use Rattle.plain_tree.specs.Lawful.{IsNew, AreElementKids, AreDocumentKids, AreKids, IsLawfulTree, AreLawfulTrees, IsDocument}
use Rattle.bulk_rewrite.specs.Joining.{Rests, begins_met, joined_rests, deleted, kept_rests, RootStays, MayDelete}

both : (a b : Bool) → a && b ≡ true → (a ≡ true) × (b ≡ true)
both true b e = (refl, e)
both false b e = absurd (cc)

chars_both : (x y : List ℕ) → are_chars x ≡ true → are_chars y ≡ true → are_chars (x ++ y) ≡ true
chars_both x y e f =
    let a = both (is_utf8 x) (list_all is_char (chars x)) e in
    let b = both (is_utf8 y) (list_all is_char (chars y)) f in
    let u = IsUtf8-from_is_utf8 x a.0 in
    let v = IsUtf8-from_is_utf8 y b.0 in
    rw (is_utf8-from_IsUtf8 (x ++ y) (IsUtf8-append x y u v), chars-append x y u, list_all-append is_char (chars x) (chars y), a.1, b.1) refl

some-longer : (x y : List ℕ) → x ≢ [] → x ++ y ≢ []
some-longer [] y h e = h refl
some-longer (c ∷ x) y h e = absurd (cc)

no-chars : are_chars [] ≡ true
unfolding is_utf8 chars
no-chars = refl

front-chars : (ts : Trees) → AreLawfulTrees ts → are_chars (front_text ts) ≡ true
front-chars none l = no-chars
front-chars (more (node Text n v ks) ts) l = l.0.0.1.0
front-chars (more (node Document n v ks) ts) l = no-chars
front-chars (more (node Element n v ks) ts) l = no-chars
front-chars (more (node Attribute n v ks) ts) l = no-chars
front-chars (more (node Comment n v ks) ts) l = no-chars
front-chars (more (node Instruction n v ks) ts) l = no-chars

behind-lawful : (ts : Trees) → AreLawfulTrees ts → AreLawfulTrees (behind_text ts)
behind-lawful none l = l
behind-lawful (more (node Text n v ks) ts) l = l.1
behind-lawful (more (node Document n v ks) ts) l = l
behind-lawful (more (node Element n v ks) ts) l = l
behind-lawful (more (node Attribute n v ks) ts) l = l
behind-lawful (more (node Comment n v ks) ts) l = l
behind-lawful (more (node Instruction n v ks) ts) l = l

behind-new : (name : List ℕ) (ts : Trees) → IsNew name ts → IsNew name (behind_text ts)
behind-new name none l = l
behind-new name (more (node Text n v ks) ts) l = l.1
behind-new name (more (node Document n v ks) ts) l = l
behind-new name (more (node Element n v ks) ts) l = l
behind-new name (more (node Attribute n v ks) ts) l = l
behind-new name (more (node Comment n v ks) ts) l = l
behind-new name (more (node Instruction n v ks) ts) l = l

behind-element : (ts : Trees) → AreElementKids false ts → AreElementKids false (behind_text ts)
behind-element none l = l
behind-element (more (node Text n v ks) ts) l = l
behind-element (more (node Document n v ks) ts) l = l
behind-element (more (node Element n v ks) ts) l = l
behind-element (more (node Attribute n v ks) ts) l = l
behind-element (more (node Comment n v ks) ts) l = l
behind-element (more (node Instruction n v ks) ts) l = l

to-tag : (tag : Bool) (ts : Trees) → AreElementKids false ts → AreElementKids tag ts
to-tag tag none k = tt
to-tag tag (more (node Document n v ks) ts) k = absurd k
to-tag tag (more (node Attribute n v ks) ts) k = let e = k.0 in absurd (cc)
to-tag tag (more (node Element n v ks) ts) k = k
to-tag tag (more (node Text n v ks) ts) k = k
to-tag tag (more (node Comment n v ks) ts) k = k
to-tag tag (more (node Instruction n v ks) ts) k = k

-- a kept node in front
front-new : (b : Bool) (name n v : List ℕ) (ks ts : Trees) → IsNew name ts → IsNew name (if b then join_front (node Text n v ks) ts else more (node Text n v ks) ts)
front-new true name n v ks ts i = (λ e. absurd (cc), behind-new name ts i)
front-new false name n v ks ts i = (λ e. absurd (cc), i)

placed-new : (name : List ℕ) (gap : Bool) (kind : Kind) (n v : List ℕ) (ks : Trees) (l : Rests) → (kind ≡ Attribute → name ≢ n) → IsNew name (joined_rests l) → IsNew name (joined_rests ((gap, node kind n v ks) ∷ l))
placed-new name gap Text n v ks l a i = front-new (begins_met l) name n v ks (joined_rests l) i
placed-new name gap Document n v ks l a i = (a, i)
placed-new name gap Element n v ks l a i = (a, i)
placed-new name gap Attribute n v ks l a i = (a, i)
placed-new name gap Comment n v ks l a i = (a, i)
placed-new name gap Instruction n v ks l a i = (a, i)

front-element : (b tag : Bool) (n v : List ℕ) (ks ts : Trees) → AreElementKids false ts → AreElementKids tag (if b then join_front (node Text n v ks) ts else more (node Text n v ks) ts)
front-element true tag n v ks ts k = behind-element ts k
front-element false tag n v ks ts k = k

front-lawful : (b : Bool) (n v : List ℕ) (ks ts : Trees) → IsLawfulTree (node Text n v ks) → AreLawfulTrees ts → AreLawfulTrees (if b then join_front (node Text n v ks) ts else more (node Text n v ks) ts)
front-lawful true n v ks ts t l = (((t.0.0, (chars_both v (front_text ts) t.0.1.0 (front-chars ts l), some-longer v (front_text ts) t.0.1.1)), t.1, t.2), behind-lawful ts l)
front-lawful false n v ks ts t l = (t, l)

placed-lawful : (gap : Bool) (kind : Kind) (n v : List ℕ) (ks : Trees) (l : Rests) → IsLawfulTree (node kind n v ks) → AreLawfulTrees (joined_rests l) → AreLawfulTrees (joined_rests ((gap, node kind n v ks) ∷ l))
placed-lawful gap Text n v ks l t i = front-lawful (begins_met l) n v ks (joined_rests l) t i
placed-lawful gap Document n v ks l t i = (t, i)
placed-lawful gap Element n v ks l t i = (t, i)
placed-lawful gap Attribute n v ks l t i = (t, i)
placed-lawful gap Comment n v ks l t i = (t, i)
placed-lawful gap Instruction n v ks l t i = (t, i)

by_taken : (P : Rests → Type 0) (b : Bool) (l m : Rests) → P l → P m → P (if b then l else m)
by_taken P true l m p q = p
by_taken P false l m p q = q

abbrev NoDocuments : Trees → Type 0
NoDocuments none = Unit {0}
NoDocuments (more (node kind name value kids) ts) = (kind ≢ Document) × NoDocuments ts

element-none : (tag : Bool) (ts : Trees) → AreElementKids tag ts → NoDocuments ts
element-none tag none k = tt
element-none tag (more (node Document n v ks) ts) k = absurd k
element-none tag (more (node Attribute n v ks) ts) k = (λ e. absurd (cc), element-none true ts k.2)
element-none tag (more (node Element n v ks) ts) k = (λ e. absurd (cc), element-none false ts k)
element-none tag (more (node Text n v ks) ts) k = (λ e. absurd (cc), element-none false ts k)
element-none tag (more (node Comment n v ks) ts) k = (λ e. absurd (cc), element-none false ts k)
element-none tag (more (node Instruction n v ks) ts) k = (λ e. absurd (cc), element-none false ts k)

document-none : (rooted : Bool) (ts : Trees) → AreDocumentKids rooted ts → NoDocuments ts
document-none rooted none k = tt
document-none rooted (more (node Element n v ks) ts) k = (λ e. absurd (cc), document-none true ts k.1)
document-none rooted (more (node Comment n v ks) ts) k = (λ e. absurd (cc), document-none rooted ts k)
document-none rooted (more (node Instruction n v ks) ts) k = (λ e. absurd (cc), document-none rooted ts k)
document-none rooted (more (node Document n v ks) ts) k = absurd k
document-none rooted (more (node Attribute n v ks) ts) k = absurd k
document-none rooted (more (node Text n v ks) ts) k = absurd k

kids-none : (kind : Kind) (kids : Trees) → AreKids kind kids → NoDocuments kids
kids-none Document kids k = document-none false kids k
kids-none Element kids k = element-none true kids k
kids-none Attribute kids k = rw k tt
kids-none Text kids k = rw k tt
kids-none Comment kids k = rw k tt
kids-none Instruction kids k = rw k tt

module _ (taken : ℕ → Bool) where
  -- what is kept of the kids of a node
  abbrev rest : ℕ → Bool → Trees → Trees
  rest n gap ts = joined_rests (kept_rests taken n gap ts)

  new-kept : (name : List ℕ) (n : ℕ) (gap : Bool) (ts : Trees) → IsNew name ts → IsNew name (rest n gap ts)
  new-kept name n gap none i = tt
  new-kept name n gap (more (node kind o v ks) ts) i =
      let next : ℕ = n + (node_count_all ks + 1) in
      by_taken (λ l. IsNew name (joined_rests l)) (taken n) (kept_rests taken next true ts) ((gap, deleted taken n (node kind o v ks)) ∷ kept_rests taken next false ts)
      (new-kept name next true ts i.1) (placed-new name gap kind o v (rest (suc n) false ks) (kept_rests taken next false ts) i.0 (new-kept name next false ts i.1))

  element-kept : (tag : Bool) (n : ℕ) (gap : Bool) (ts : Trees) → AreElementKids tag ts → AreElementKids tag (rest n gap ts)
  element-kept tag n gap none k = tt
  element-kept tag n gap (more (node Document o v ks) ts) k = absurd k
  element-kept tag n gap (more (node Attribute o v ks) ts) k =
      let next : ℕ = n + (node_count_all ks + 1) in
      by_taken (λ l. AreElementKids tag (joined_rests l)) (taken n) (kept_rests taken next true ts) ((gap, deleted taken n (node Attribute o v ks)) ∷ kept_rests taken next false ts)
      (rw k.0 (element-kept true next true ts k.2)) (k.0, new-kept o next false ts k.1, element-kept true next false ts k.2)
  element-kept tag n gap (more (node Element o v ks) ts) k =
      let next : ℕ = n + (node_count_all ks + 1) in
      by_taken (λ l. AreElementKids tag (joined_rests l)) (taken n) (kept_rests taken next true ts) ((gap, deleted taken n (node Element o v ks)) ∷ kept_rests taken next false ts)
      (to-tag tag (rest next true ts) (element-kept false next true ts k)) (element-kept false next false ts k)
  element-kept tag n gap (more (node Comment o v ks) ts) k =
      let next : ℕ = n + (node_count_all ks + 1) in
      by_taken (λ l. AreElementKids tag (joined_rests l)) (taken n) (kept_rests taken next true ts) ((gap, deleted taken n (node Comment o v ks)) ∷ kept_rests taken next false ts)
      (to-tag tag (rest next true ts) (element-kept false next true ts k)) (element-kept false next false ts k)
  element-kept tag n gap (more (node Instruction o v ks) ts) k =
      let next : ℕ = n + (node_count_all ks + 1) in
      by_taken (λ l. AreElementKids tag (joined_rests l)) (taken n) (kept_rests taken next true ts) ((gap, deleted taken n (node Instruction o v ks)) ∷ kept_rests taken next false ts)
      (to-tag tag (rest next true ts) (element-kept false next true ts k)) (element-kept false next false ts k)
  element-kept tag n gap (more (node Text o v ks) ts) k =
      let next : ℕ = n + (node_count_all ks + 1) in
      by_taken (λ l. AreElementKids tag (joined_rests l)) (taken n) (kept_rests taken next true ts) ((gap, deleted taken n (node Text o v ks)) ∷ kept_rests taken next false ts)
      (to-tag tag (rest next true ts) (element-kept false next true ts k)) (front-element (begins_met (kept_rests taken next false ts)) tag o v (rest (suc n) false ks) (rest next false ts) (element-kept false next false ts k))

  document-kept : (rooted : Bool) (n : ℕ) (gap : Bool) (ts : Trees) → AreDocumentKids rooted ts → RootStays taken n ts → AreDocumentKids rooted (rest n gap ts)
  document-kept rooted n gap none k r = k
  document-kept rooted n gap (more (node Element o v ks) ts) k r = rw r.0 (k.0, document-kept true (n + (node_count_all ks + 1)) false ts k.1 r.1)
  document-kept rooted n gap (more (node Comment o v ks) ts) k r =
      let next : ℕ = n + (node_count_all ks + 1) in
      by_taken (λ l. AreDocumentKids rooted (joined_rests l)) (taken n) (kept_rests taken next true ts) ((gap, deleted taken n (node Comment o v ks)) ∷ kept_rests taken next false ts)
      (document-kept rooted next true ts k r) (document-kept rooted next false ts k r)
  document-kept rooted n gap (more (node Instruction o v ks) ts) k r =
      let next : ℕ = n + (node_count_all ks + 1) in
      by_taken (λ l. AreDocumentKids rooted (joined_rests l)) (taken n) (kept_rests taken next true ts) ((gap, deleted taken n (node Instruction o v ks)) ∷ kept_rests taken next false ts)
      (document-kept rooted next true ts k r) (document-kept rooted next false ts k r)
  document-kept rooted n gap (more (node Document o v ks) ts) k r = absurd k
  document-kept rooted n gap (more (node Attribute o v ks) ts) k r = absurd k
  document-kept rooted n gap (more (node Text o v ks) ts) k r = absurd k

  kids-kept : (kind : Kind) (n : ℕ) (kids : Trees) → kind ≢ Document → AreKids kind kids → AreKids kind (rest n false kids)
  kids-kept Document n kids h k = absurd (h refl)
  kids-kept Element n kids h k = element-kept true n false kids k
  kids-kept Attribute n kids h k = ap (rest n false) k
  kids-kept Text n kids h k = ap (rest n false) k
  kids-kept Comment n kids h k = ap (rest n false) k
  kids-kept Instruction n kids h k = ap (rest n false) k

  lawful-kept : (n : ℕ) (gap : Bool) (ts : Trees) → NoDocuments ts → AreLawfulTrees ts → AreLawfulTrees (rest n gap ts)
  lawful-kept n gap none d l = tt
  lawful-kept n gap (more (node kind o v ks) ts) d l =
      let next : ℕ = n + (node_count_all ks + 1) in
      let inner : AreLawfulTrees (rest (suc n) false ks) = lawful-kept (suc n) false ks (kids-none kind ks l.0.1) l.0.2 in
      by_taken (λ l. AreLawfulTrees (joined_rests l)) (taken n) (kept_rests taken next true ts) ((gap, deleted taken n (node kind o v ks)) ∷ kept_rests taken next false ts)
      (lawful-kept next true ts d.1 l.1) (placed-lawful gap kind o v (rest (suc n) false ks) (kept_rests taken next false ts) (l.0.0, kids-kept kind (suc n) ks d.0 l.0.1, inner) (lawful-kept next false ts d.1 l.1))

  pub document-deleted : (t : Tree) → IsDocument t → MayDelete taken t → IsDocument (deleted taken 0 t)
  document-deleted (node Document name value kids) t m = record {
    is_document = refl;
    lawful = (t.lawful.0, document-kept false 1 false kids t.lawful.1 m.1, lawful-kept 1 false kids (document-none false kids t.lawful.1) t.lawful.2);
  }
  document-deleted (node Element name value kids) t m = let e = t.is_document in absurd (cc)
  document-deleted (node Attribute name value kids) t m = let e = t.is_document in absurd (cc)
  document-deleted (node Text name value kids) t m = let e = t.is_document in absurd (cc)
  document-deleted (node Comment name value kids) t m = let e = t.is_document in absurd (cc)
  document-deleted (node Instruction name value kids) t m = let e = t.is_document in absurd (cc)
