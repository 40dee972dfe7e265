-- What lawful tokens spell is a lawful document, and not larger than they are.
use Rattle.std.proofs.Common.{◌≡◌, ◌≢◌, ℕ, ◌+◌, ◌≤◌, Bool, true, false, List, [], ◌∷◌, ◌++◌, length, refl, ap, sym, ◌∙◌, subst, inl, inr, arith}
use Rattle.std.specs.List.{list_all, flat_map, AllByRecursion}
use Rattle.plain_tree.specs.declared.kind.Kind.TheVariants as kind
use Rattle.plain_tree.specs.Tree.{Tree, node, Trees, none, more, node_count, node_count_all}
use Rattle.xml_nodes.proofs.CharacterLemmas.{and_true, no_chars, more_chars, one_char}
use Rattle.plain_tree.specs.Lawful.{AreChars, IsNew, AreElementKids, AreDocumentKids, IsLawfulTree, AreLawfulTrees, IsDocument}
use Rattle.xml_tokens.specs.Tokens.{Token, Character, Reference, Section, Start, Empty, End, Comment, Instruction, Declaration, Doctype}
use Rattle.xml_nodes.specs.LawfulTokens.{AreLawfulAttributes, IsLawfulToken, AreLawfulTokens, least, least_all}
use Rattle.xml_nodes.specs.Content.{is_text_piece, given, RunGives, attributes_among, AreAllAttributes, IsMarkup, AreBehindRun, IsContent, Part, Space, Typed, Kid, kids_of, AreParts, MayBegin, AreDocument}

-- the characters of a run
given_chars : (p : Token) → is_text_piece p ≡ true → IsLawfulToken p → AreChars (given p)
given_chars (Character c) e l = one_char c l
given_chars (Reference c) e l = one_char c l
given_chars (Section v) e l = l
given_chars (Start n attrs) e l = cc
given_chars (Empty n attrs) e l = cc
given_chars (End n) e l = cc
given_chars (Comment v) e l = cc
given_chars (Instruction n v) e l = cc
given_chars Declaration e l = cc
given_chars Doctype e l = cc

piece_least : (p : Token) → is_text_piece p ≡ true → least p ≡ 1
piece_least (Character c) e = refl
piece_least (Reference c) e = refl
piece_least (Section v) e = refl
piece_least (Start n attrs) e = cc
piece_least (Empty n attrs) e = cc
piece_least (End n) e = cc
piece_least (Comment v) e = cc
piece_least (Instruction n v) e = cc
piece_least Declaration e = cc
piece_least Doctype e = cc

-- pieces in front of tokens
record Pieces (value : List ℕ) (count : ℕ) (tokens after : List Token) : Type 0 where
  text : AreChars value
  rest : AreLawfulTokens after
  small : count + least_all after ≡ least_all tokens

pieces_sound : (ps after : List Token) → list_all is_text_piece ps ≡ true → AreLawfulTokens (ps ++ after) → Pieces (flat_map given ps) (length ps) (ps ++ after) after
pieces_sound [] after e l = record { text = no_chars; rest = l; small = omega arith }
pieces_sound (p ∷ ps) after e l =
    let both = and_true (is_text_piece p) (list_all is_text_piece ps) e in
    let below = pieces_sound ps after both.1 l.1 in
    record {
      text = more_chars (given p) (flat_map given ps) (given_chars p both.0 l.0) below.text;
      rest = below.rest;
      small = omega (arith, piece_least p both.0, below.small);
    }

some_piece : (ps : List Token) → flat_map given ps ≢ [] → 1 ≤ length ps
some_piece [] h = absurd (h refl)
some_piece (p ∷ ps) h = omega arith

record RunSound (value : List ℕ) (tokens after : List Token) : Type 0 where
  text : AreChars value
  rest : AreLawfulTokens after
  small : least_all after ≤ least_all tokens
  smaller : value ≢ [] → 1 + least_all after ≤ least_all tokens

run_sound : (value : List ℕ) (tokens after : List Token) → RunGives value tokens after → AreLawfulTokens tokens → RunSound value tokens after
run_sound value tokens after r l =
    let p = pieces_sound r.pieces after r.each (subst AreLawfulTokens r.whole l) in
    let whole : least_all tokens ≡ least_all (r.pieces ++ after) = ap least_all r.whole in
    record {
      text = subst AreChars (sym r.gives) p.text;
      rest = p.rest;
      small = omega (arith, whole, p.small);
      smaller = λ h.
          let some : 1 ≤ length r.pieces = some_piece r.pieces (λ e. h (r.gives ∙ e)) in
          omega (arith, whole, p.small, some);
    }

-- attributes
none_new : (n : List ℕ) (ts : Trees) → AreElementKids false ts → IsNew n ts
none_new n none a = tt
none_new n (more (node kind.Document m v ks) ts) a = absurd a
none_new n (more (node kind.Attribute m v ks) ts) a = let bad = a.0 in cc
none_new n (more (node kind.Element m v ks) ts) a = (λ e. cc, none_new n ts a)
none_new n (more (node kind.Text m v ks) ts) a = (λ e. cc, none_new n ts a)
none_new n (more (node kind.Comment m v ks) ts) a = (λ e. cc, none_new n ts a)
none_new n (more (node kind.Instruction m v ks) ts) a = (λ e. cc, none_new n ts a)

is_new : (n : List ℕ) (ts : Trees) → AreElementKids true ts → AllByRecursion (λ b. n ≢ b.0) (attributes_among ts) → IsNew n ts
is_new n none a all = tt
is_new n (more (node kind.Document m v ks) ts) a all = absurd a
is_new n (more (node kind.Attribute m v ks) ts) a all = (λ _. all.0, is_new n ts a.2 all.1)
is_new n (more (node kind.Element m v ks) ts) a all = (λ e. cc, none_new n ts a)
is_new n (more (node kind.Text m v ks) ts) a all = (λ e. cc, none_new n ts a)
is_new n (more (node kind.Comment m v ks) ts) a all = (λ e. cc, none_new n ts a)
is_new n (more (node kind.Instruction m v ks) ts) a all = (λ e. cc, none_new n ts a)

rest_of : (a : List ℕ × List ℕ) (attrs : List (List ℕ × List ℕ)) → AreLawfulAttributes (a ∷ attrs) → AreLawfulAttributes attrs
rest_of a attrs l = record { each = l.each.1; distinct = l.distinct.1 }

pub no_lawful_attributes : AreLawfulAttributes []
no_lawful_attributes = record { each = tt; distinct = tt }

-- an attribute in front of kids
pub record KidsSound (in_tag : Bool) (ts : Trees) : Type 0 where
  pub ordered : AreElementKids in_tag ts
  pub lawful : AreLawfulTrees ts

attribute_more : (n v : List ℕ) (ks ts : Trees) → ks ≡ none → AreLawfulAttributes ((n, v) ∷ attributes_among ts) → KidsSound true ts
    → KidsSound true (more (node kind.Attribute n v ks) ts)
attribute_more n v ks ts e l k = record {
  ordered = (refl, is_new n ts k.ordered l.distinct.0, k.ordered);
  lawful = ((l.each.0, e, subst AreLawfulTrees (sym e) tt), k.lawful);
}

attributes_sound : (ts : Trees) → AreAllAttributes ts → AreLawfulAttributes (attributes_among ts) → KidsSound true ts × (node_count_all ts ≡ length (attributes_among ts))
attributes_sound none a l = (record { ordered = tt; lawful = tt }, refl)
attributes_sound (more (node kind.Attribute n v ks) ts) a l =
    let below = attributes_sound ts a.2 (rest_of (n, v) (attributes_among ts) l) in
    let kids = a.1 in
    (attribute_more n v ks ts kids l below.0, rw kids (omega (arith, below.1)))
attributes_sound (more (node kind.Document n v ks) ts) a l = let bad = a.0 in cc
attributes_sound (more (node kind.Element n v ks) ts) a l = let bad = a.0 in cc
attributes_sound (more (node kind.Text n v ks) ts) a l = let bad = a.0 in cc
attributes_sound (more (node kind.Comment n v ks) ts) a l = let bad = a.0 in cc
attributes_sound (more (node kind.Instruction n v ks) ts) a l = let bad = a.0 in cc

-- a node that is no text, and the nodes of a content
record ItemSound (t : Tree) (tokens after : List Token) : Type 0 where
  lawful : IsLawfulTree t
  rest : AreLawfulTokens after
  small : node_count t + 1 + least_all after ≤ least_all tokens

pub record ContentSound (in_tag : Bool) (ts : Trees) (attributes : ℕ) (tokens after : List Token) : Type 0 where
  pub kids : KidsSound in_tag ts
  pub rest : AreLawfulTokens after
  pub small : node_count_all ts + least_all after ≤ attributes + least_all tokens

-- the item is neither an attribute nor a document
item_more : (t : Tree) (ts : Trees) (in_tag : Bool) (tokens mid : List Token) → IsMarkup t tokens mid → IsLawfulTree t → KidsSound false ts → KidsSound in_tag (more t ts)
item_more (node kind.Element n v ks) ts in_tag tokens mid i l k = record { ordered = k.ordered; lawful = (l, k.lawful) }
item_more (node kind.Comment n v ks) ts in_tag tokens mid i l k = record { ordered = k.ordered; lawful = (l, k.lawful) }
item_more (node kind.Instruction n v ks) ts in_tag tokens mid i l k = record { ordered = k.ordered; lawful = (l, k.lawful) }
item_more (node kind.Document n v ks) ts in_tag tokens mid i l k = absurd i
item_more (node kind.Attribute n v ks) ts in_tag tokens mid i l k = absurd i
item_more (node kind.Text n v ks) ts in_tag tokens mid i l k = absurd i

item_first : (t : Tree) (ts : Trees) (in_tag : Bool) (tokens mid after : List Token) → IsMarkup t tokens mid → ItemSound t tokens mid → ContentSound false ts 0 mid after
    → ContentSound in_tag (more t ts) 0 tokens after
item_first t ts in_tag tokens mid after i s c = record {
  kids = item_more t ts in_tag tokens mid i s.lawful c.kids;
  rest = c.rest;
  small = omega (arith, s.small, c.small);
}

behind_run : (value : List ℕ) (ts : Trees) (in_tag : Bool) (tokens mid after : List Token) → RunSound value tokens mid → ContentSound in_tag ts 0 mid after → ContentSound in_tag ts 0 tokens after
behind_run value ts in_tag tokens mid after r c = record { kids = c.kids; rest = c.rest; small = omega (arith, r.small, c.small) }

-- the attributes at the front, where they may come
abbrev pub own_of : Bool → Trees → List (List ℕ × List ℕ)
own_of true ts = attributes_among ts
own_of false ts = []

more_own : (in_tag : Bool) (ts : Trees) (tokens after : List Token) → ContentSound in_tag ts 0 tokens after → ContentSound in_tag ts (length (own_of in_tag ts)) tokens after
more_own in_tag ts tokens after c = record { kids = c.kids; rest = c.rest; small = omega (arith, c.small) }

text_first : (n v : List ℕ) (ks ts : Trees) (in_tag : Bool) (tokens mid after : List Token) → n ≡ [] → ks ≡ none → v ≢ [] → RunSound v tokens mid
    → ContentSound false ts 0 mid after → ContentSound in_tag (more (node kind.Text n v ks) ts) 0 tokens after
text_first n v ks ts in_tag tokens mid after e f some r c = record {
  kids = record { ordered = c.kids.ordered; lawful = (((e, (r.text, some)), f, subst AreLawfulTrees (sym f) tt), c.kids.lawful) };
  rest = c.rest;
  small = let smaller = r.smaller some in rw f (omega (arith, smaller, c.small));
}

leaf_sound : (n v : List ℕ) (ks : Trees) (tokens after : List Token) → v ≡ [] → AreAllAttributes ks → tokens ≡ Empty n (attributes_among ks) ∷ after → AreLawfulTokens tokens
    → ItemSound (node kind.Element n v ks) tokens after
leaf_sound n v ks tokens after e a tag l =
    let own = subst AreLawfulTokens tag l in
    let below = attributes_sound ks a own.0.1 in
    let whole : least_all tokens ≡ least_all (Empty n (attributes_among ks) ∷ after) = ap least_all tag in
    record {
      lawful = ((own.0.0, e), below.0.ordered, below.0.lawful);
      rest = own.1;
      small = omega (arith, whole, below.1);
    }

parent_sound : (n v : List ℕ) (ks : Trees) (tokens inner after : List Token) → v ≡ [] → tokens ≡ Start n (attributes_among ks) ∷ inner → AreLawfulTokens tokens
    → ContentSound true ks (length (attributes_among ks)) inner (End n ∷ after) → ItemSound (node kind.Element n v ks) tokens after
parent_sound n v ks tokens inner after e tag l c =
    let own = subst AreLawfulTokens tag l in
    let whole : least_all tokens ≡ least_all (Start n (attributes_among ks) ∷ inner) = ap least_all tag in
    record {
      lawful = ((own.0.0, e), c.kids.ordered, c.kids.lawful);
      rest = c.rest.1;
      small = omega (arith, whole, c.small);
    }

mutual
  item_sound : (t : Tree) (tokens after : List Token) → IsMarkup t tokens after → AreLawfulTokens tokens → ItemSound t tokens after
  item_sound (node kind.Element n v ks) tokens after (e, inl i) l = leaf_sound n v ks tokens after e i.no_content i.tag l
  item_sound (node kind.Element n v ks) tokens after (e, inr p) l =
      let own = subst AreLawfulTokens p.start_tag l in
      parent_sound n v ks tokens p.inner after e p.start_tag l (content_sound ks true p.inner (End n ∷ after) p.content own.1 own.0.1)
  item_sound (node kind.Comment n v ks) tokens after i l =
      let own = subst AreLawfulTokens i.2 l in
      let whole : least_all tokens ≡ least_all (Comment v ∷ after) = ap least_all i.2 in
      let kids = i.1 in
      record { lawful = ((i.0, own.0), kids, subst AreLawfulTrees (sym kids) tt); rest = own.1; small = rw kids (omega (arith, whole)) }
  item_sound (node kind.Instruction n v ks) tokens after i l =
      let own = subst AreLawfulTokens i.1 l in
      let whole : least_all tokens ≡ least_all (Instruction n v ∷ after) = ap least_all i.1 in
      let kids = i.0 in
      record { lawful = (own.0, kids, subst AreLawfulTrees (sym kids) tt); rest = own.1; small = rw kids (omega (arith, whole)) }
  item_sound (node kind.Document n v ks) tokens after i l = absurd i
  item_sound (node kind.Attribute n v ks) tokens after i l = absurd i
  item_sound (node kind.Text n v ks) tokens after i l = absurd i

  items_sound : (ts : Trees) (in_tag : Bool) (tokens after : List Token) → AreBehindRun ts tokens after → AreLawfulTokens tokens → ContentSound in_tag ts 0 tokens after
  items_sound none in_tag tokens after a l = record { kids = record { ordered = tt; lawful = tt }; rest = subst AreLawfulTokens a l; small = rw a (omega arith) }
  items_sound (more t ts) in_tag tokens after (mid, i, c) l =
      let first = item_sound t tokens mid i l in
      item_first t ts in_tag tokens mid after i first (content_sound ts false mid after c first.rest no_lawful_attributes)

  pub content_sound : (ts : Trees) (in_tag : Bool) (tokens after : List Token) → IsContent ts in_tag tokens after → AreLawfulTokens tokens → AreLawfulAttributes (own_of in_tag ts)
      → ContentSound in_tag ts (length (own_of in_tag ts)) tokens after
  content_sound none in_tag tokens after c l own =
      let r = run_sound [] tokens after c l in
      record { kids = record { ordered = tt; lawful = tt }; rest = r.rest; small = omega (arith, r.small) }
  content_sound (more (node kind.Attribute n v ks) ts) true tokens after c l own =
      let below = content_sound ts true tokens after c.1 l (rest_of (n, v) (attributes_among ts) own) in
      let kids = c.0 in
      record { kids = attribute_more n v ks ts kids own below.kids; rest = below.rest; small = rw kids (omega (arith, below.small)) }
  content_sound (more (node kind.Attribute n v ks) ts) false tokens after c l own = absurd c
  content_sound (more (node kind.Document n v ks) ts) in_tag tokens after c l own = absurd c
  content_sound (more (node kind.Text n v ks) ts) in_tag tokens after c l own =
      let r = run_sound v tokens c.mid c.run l in
      more_own in_tag (more (node kind.Text n v ks) ts) tokens after
      (text_first n v ks ts in_tag tokens c.mid after c.no_name c.no_kids c.some r (items_sound ts false c.mid after c.others r.rest))
  content_sound (more (node kind.Element n v ks) ts) in_tag tokens after c l own =
      let r = run_sound [] tokens c.mid c.run l in
      let first = item_sound (node kind.Element n v ks) c.mid c.others.0 c.others.1 r.rest in
      more_own in_tag (more (node kind.Element n v ks) ts) tokens after
      (behind_run [] (more (node kind.Element n v ks) ts) in_tag tokens c.mid after r
      (item_first (node kind.Element n v ks) ts in_tag c.mid c.others.0 after c.others.1 first (content_sound ts false c.others.0 after c.others.2 first.rest no_lawful_attributes)))
  content_sound (more (node kind.Comment n v ks) ts) in_tag tokens after c l own =
      let r = run_sound [] tokens c.mid c.run l in
      let first = item_sound (node kind.Comment n v ks) c.mid c.others.0 c.others.1 r.rest in
      more_own in_tag (more (node kind.Comment n v ks) ts) tokens after
      (behind_run [] (more (node kind.Comment n v ks) ts) in_tag tokens c.mid after r
      (item_first (node kind.Comment n v ks) ts in_tag c.mid c.others.0 after c.others.1 first (content_sound ts false c.others.0 after c.others.2 first.rest no_lawful_attributes)))
  content_sound (more (node kind.Instruction n v ks) ts) in_tag tokens after c l own =
      let r = run_sound [] tokens c.mid c.run l in
      let first = item_sound (node kind.Instruction n v ks) c.mid c.others.0 c.others.1 r.rest in
      more_own in_tag (more (node kind.Instruction n v ks) ts) tokens after
      (behind_run [] (more (node kind.Instruction n v ks) ts) in_tag tokens c.mid after r
      (item_first (node kind.Instruction n v ks) ts in_tag c.mid c.others.0 after c.others.1 first (content_sound ts false c.others.0 after c.others.2 first.rest no_lawful_attributes)))

-- the kids of a document; the root brings one byte more than it has nodes
abbrev missing : Bool → ℕ
missing true = 0
missing false = 1

record PartsSound (rooted : Bool) (ts : Trees) (tokens : List Token) : Type 0 where
  kids : AreDocumentKids rooted ts
  lawful : AreLawfulTrees ts
  small : node_count_all ts + missing rooted ≤ least_all tokens

passed_by : (rooted : Bool) (t : Token) (ts : Trees) (tokens mid : List Token) → tokens ≡ t ∷ mid → PartsSound rooted ts mid → PartsSound rooted ts tokens
passed_by rooted t ts tokens mid e p = record {
  kids = p.kids;
  lawful = p.lawful;
  small = let whole : least_all tokens ≡ least_all (t ∷ mid) = ap least_all e in omega (arith, whole, p.small);
}

ended : (rooted : Bool) (tokens : List Token) → rooted ≡ true → tokens ≡ [] → PartsSound rooted none tokens
ended rooted tokens e f = record { kids = e; lawful = tt; small = rw (e, f) (omega arith) }

root_first : (rooted : Bool) (n v : List ℕ) (ks ts : Trees) (tokens mid : List Token) → rooted ≡ false → ItemSound (node kind.Element n v ks) tokens mid → PartsSound true ts mid
    → PartsSound rooted (more (node kind.Element n v ks) ts) tokens
root_first rooted n v ks ts tokens mid e s p = record { kids = (e, p.kids); lawful = (s.lawful, p.lawful); small = rw e (omega (arith, s.small, p.small)) }

parts_sound : (ps : List Part) (typed rooted : Bool) (tokens : List Token) → AreParts typed rooted ps tokens → AreLawfulTokens tokens → PartsSound rooted (kids_of ps) tokens
parts_sound [] typed rooted tokens a l = ended rooted tokens a.0 a.1
parts_sound (Space c ∷ ps) typed rooted tokens a l =
    passed_by rooted (Character c) (kids_of ps) tokens a.0 a.2 (parts_sound ps typed rooted a.0 a.3 (subst AreLawfulTokens a.2 l).1)
parts_sound (Typed ∷ ps) typed rooted tokens a l = passed_by rooted Doctype (kids_of ps) tokens a.0 a.2 (parts_sound ps true rooted a.0 a.3 (subst AreLawfulTokens a.2 l).1)
parts_sound (Kid (node kind.Element n v ks) ∷ ps) typed rooted tokens a l =
    let s = item_sound (node kind.Element n v ks) tokens a.0 a.2 l in
    root_first rooted n v ks (kids_of ps) tokens a.0 a.1 s (parts_sound ps true true a.0 a.3 s.rest)
parts_sound (Kid (node kind.Comment n v ks) ∷ ps) typed rooted tokens a l =
    let s = item_sound (node kind.Comment n v ks) tokens a.0 a.1 l in
    let p = parts_sound ps typed rooted a.0 a.2 s.rest in
    record { kids = p.kids; lawful = (s.lawful, p.lawful); small = omega (arith, s.small, p.small) }
parts_sound (Kid (node kind.Instruction n v ks) ∷ ps) typed rooted tokens a l =
    let s = item_sound (node kind.Instruction n v ks) tokens a.0 a.1 l in
    let p = parts_sound ps typed rooted a.0 a.2 s.rest in
    record { kids = p.kids; lawful = (s.lawful, p.lawful); small = omega (arith, s.small, p.small) }
parts_sound (Kid (node kind.Document n v ks) ∷ ps) typed rooted tokens a l = absurd a.1
parts_sound (Kid (node kind.Attribute n v ks) ∷ ps) typed rooted tokens a l = absurd a.1
parts_sound (Kid (node kind.Text n v ks) ∷ ps) typed rooted tokens a l = absurd a.1

record BehindSound (tokens after : List Token) : Type 0 where
  rest : AreLawfulTokens after
  small : least_all after ≤ least_all tokens

behind_sound : (t : Token) (tokens after : List Token) → MayBegin t tokens after → AreLawfulTokens tokens → BehindSound tokens after
behind_sound t tokens after (inl e) l = record {
  rest = (subst AreLawfulTokens e l).1;
  small = let whole : least_all tokens ≡ least_all (t ∷ after) = ap least_all e in omega (arith, whole);
}
behind_sound t tokens after (inr e) l = record { rest = subst AreLawfulTokens e l; small = rw e (omega arith) }

pub document-is_lawful : (tokens : List Token) (tree : Tree) → AreDocument tokens tree → AreLawfulTokens tokens → IsDocument tree × (node_count tree ≤ least_all tokens)
document-is_lawful tokens tree d l =
    let m = behind_sound (Character 0xFEFF) tokens d.marked d.mark l in
    let n = behind_sound Declaration d.marked d.declared d.declaration m.rest in
    let p = parts_sound d.parts false false d.declared d.are_parts n.rest in (
      rw d.is (record { is_document = refl; lawful = ((refl, refl), p.kids, p.lawful) }),
      rw d.is (omega (arith, m.small, n.small, p.small)),
    )
