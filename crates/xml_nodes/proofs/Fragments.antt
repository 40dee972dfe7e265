-- A content knows nothing of the tokens behind it; so fragments are read as the content of an element without a name.
use Rattle.std.proofs.Common.{◌≡◌, ℕ, Bool, true, false, List, [], ◌∷◌, ◌++◌, refl, ap, sym, ◌∙◌, subst, inl, inr, append_assoc, append-nil, arith, ◌≤◌}
use Rattle.std.specs.Prelude.{Some, None}
use Rattle.std.specs.List.{flat_map, AllByRecursion}
use Rattle.plain_tree.specs.declared.kind.Kind.TheVariants as kind
use Rattle.plain_tree.specs.Tree.{Tree, node, Trees, none, more, node_count_all}
use Rattle.xml_nodes.proofs.LawfulTrees.{content_sound, no_lawful_attributes}
use Rattle.xml_nodes.proofs.Joining.{content_joined}
use Rattle.xml_nodes.proofs.Stack.{Ends}
use Rattle.xml_nodes.proofs.Trees.{inner_events, content_closes, no_front}
use Rattle.xml_nodes.proofs.Grammar.{inside_fills, run_of}
use Rattle.xml_nodes.proofs.One.{all-inj, content_shaped}
use Rattle.xml_tokens.specs.Tokens.{Token, Start, Empty, End, Comment, Instruction}
use Rattle.xml_nodes.specs.Content.{given, RunGives, attributes_among, IsLeaf, IsMarkup, AreBehindRun, IsContent, Part, Space, Typed, Kid, kids_of, AreParts}
use Rattle.xml_nodes.specs.Machine.{Event, Closed, Stepped, steps, events_all, end, fragment_start}
use Rattle.xml_nodes.specs.Laws.{FragmentLeads, LeadsToFragment, HasName}
use Rattle.plain_tree.specs.Lawful.{AreFragmentNodes}
use Rattle.plain_tree.specs.Joined.{joined_all}
use Rattle.xml_nodes.specs.LawfulTokens.{AreLawfulTokens, least_all}
use Rattle.xml_nodes.proofs.Made.{with_text_kid, content_made, text_events}

-- it stands at the front of the tokens, whatever follows
record Tail (P : List Token → List Token → Type 0) (tokens after : List Token) : Type 0 where
  front : List Token
  whole : tokens ≡ front ++ after
  other : (x : List Token) → P (front ++ x) x

-- one behind the other
both : (P Q R : List Token → List Token → Type 0) (tokens mid after : List Token) → ((a b c : List Token) → P a b → Q b c → R a c) → Tail P tokens mid → Tail Q mid after → Tail R tokens after
both P Q R tokens mid after join p q = record {
  front = p.front ++ q.front;
  whole = p.whole ∙ ap (λ z. p.front ++ z) q.whole ∙ sym (append_assoc p.front q.front after);
  other = λ x. subst (λ z. R z x) (sym (append_assoc p.front q.front x)) (join (p.front ++ (q.front ++ x)) (q.front ++ x) x (p.other (q.front ++ x)) (q.other x));
}

run_tail : (v : List ℕ) (tokens after : List Token) → RunGives v tokens after → Tail (RunGives v) tokens after
run_tail v tokens after r = record {
  front = r.pieces;
  whole = r.whole;
  other = λ x. record { pieces = r.pieces; each = r.each; whole = refl; gives = r.gives; lawful = r.lawful };
}

module _ (n v : List ℕ) (ks : Trees) where
  leaf_tail : (tokens after : List Token) → v ≡ [] → IsLeaf n ks tokens after → Tail (IsMarkup (node kind.Element n v ks)) tokens after
  leaf_tail tokens after e l = record {
    front = Empty n (attributes_among ks) ∷ [];
    whole = l.tag;
    other = λ x. (e, inl (record { no_content = l.no_content; tag = refl }));
  }

  parent_tail : (tokens inner after : List Token) → v ≡ [] → tokens ≡ Start n (attributes_among ks) ∷ inner → Tail (IsContent ks true) inner (End n ∷ after)
      → Tail (IsMarkup (node kind.Element n v ks)) tokens after
  parent_tail tokens inner after e tag t = record {
    front = Start n (attributes_among ks) ∷ (t.front ++ End n ∷ []);
    whole = tag ∙ ap (λ z. Start n (attributes_among ks) ∷ z) (t.whole ∙ sym (append_assoc t.front (End n ∷ []) after));
    other = λ x. (
      e,
      inr (record {
        inner = (t.front ++ End n ∷ []) ++ x;
        start_tag = refl;
        content = subst (λ z. IsContent ks true z (End n ∷ x)) (sym (append_assoc t.front (End n ∷ []) x)) (t.other (End n ∷ x));
      }),
    );
  }

mutual
  item_tail : (t : Tree) (tokens after : List Token) → IsMarkup t tokens after → Tail (IsMarkup t) tokens after
  item_tail (node kind.Element n v ks) tokens after (e, inl l) = leaf_tail n v ks tokens after e l
  item_tail (node kind.Element n v ks) tokens after (e, inr p) = parent_tail n v ks tokens p.inner after e p.start_tag (content_tail ks true p.inner (End n ∷ after) p.content)
  item_tail (node kind.Comment n v ks) tokens after i = record { front = Comment v ∷ []; whole = i.2; other = λ x. (i.0, i.1, refl) }
  item_tail (node kind.Instruction n v ks) tokens after i = record { front = Instruction n v ∷ []; whole = i.1; other = λ x. (i.0, refl) }
  item_tail (node kind.Document n v ks) tokens after i = absurd i
  item_tail (node kind.Attribute n v ks) tokens after i = absurd i
  item_tail (node kind.Text n v ks) tokens after i = absurd i

  items_tail : (ts : Trees) (tokens after : List Token) → AreBehindRun ts tokens after → Tail (AreBehindRun ts) tokens after
  items_tail none tokens after a = record { front = []; whole = a; other = λ x. refl }
  items_tail (more t ts) tokens after (mid, i, c) =
      both (IsMarkup t) (IsContent ts false) (AreBehindRun (more t ts)) tokens mid after (λ a b d p q. (b, p, q)) (item_tail t tokens mid i) (content_tail ts false mid after c)

  content_tail : (ts : Trees) (in_tag : Bool) (tokens after : List Token) → IsContent ts in_tag tokens after → Tail (IsContent ts in_tag) tokens after
  content_tail none in_tag tokens after c = run_tail [] tokens after c
  content_tail (more (node kind.Attribute n v ks) ts) true tokens after c =
      let t = content_tail ts true tokens after c.1 in
      record { front = t.front; whole = t.whole; other = λ x. (c.0, t.other x) }
  content_tail (more (node kind.Attribute n v ks) ts) false tokens after c = absurd c
  content_tail (more (node kind.Document n v ks) ts) in_tag tokens after c = absurd c
  content_tail (more (node kind.Text n v ks) ts) in_tag tokens after c =
      both (RunGives v) (AreBehindRun ts) (IsContent (more (node kind.Text n v ks) ts) in_tag) tokens c.mid after
      (λ a b d p q. record { no_name = c.no_name; no_kids = c.no_kids; some = c.some; mid = b; run = p; others = q })
      (run_tail v tokens c.mid c.run) (items_tail ts c.mid after c.others)
  content_tail (more (node kind.Element n v ks) ts) in_tag tokens after c =
      both (RunGives []) (AreBehindRun (more (node kind.Element n v ks) ts)) (IsContent (more (node kind.Element n v ks) ts) in_tag) tokens c.mid after
      (λ a b d p q. record { mid = b; run = p; others = q }) (run_tail [] tokens c.mid c.run)
      (both (IsMarkup (node kind.Element n v ks)) (IsContent ts false) (AreBehindRun (more (node kind.Element n v ks) ts)) c.mid c.others.0 after (λ a b d p q. (b, p, q))
      (item_tail (node kind.Element n v ks) c.mid c.others.0 c.others.1) (content_tail ts false c.others.0 after c.others.2))
  content_tail (more (node kind.Comment n v ks) ts) in_tag tokens after c =
      both (RunGives []) (AreBehindRun (more (node kind.Comment n v ks) ts)) (IsContent (more (node kind.Comment n v ks) ts) in_tag) tokens c.mid after
      (λ a b d p q. record { mid = b; run = p; others = q }) (run_tail [] tokens c.mid c.run)
      (both (IsMarkup (node kind.Comment n v ks)) (IsContent ts false) (AreBehindRun (more (node kind.Comment n v ks) ts)) c.mid c.others.0 after (λ a b d p q. (b, p, q))
      (item_tail (node kind.Comment n v ks) c.mid c.others.0 c.others.1) (content_tail ts false c.others.0 after c.others.2))
  content_tail (more (node kind.Instruction n v ks) ts) in_tag tokens after c =
      both (RunGives []) (AreBehindRun (more (node kind.Instruction n v ks) ts)) (IsContent (more (node kind.Instruction n v ks) ts) in_tag) tokens c.mid after
      (λ a b d p q. record { mid = b; run = p; others = q }) (run_tail [] tokens c.mid c.run)
      (both (IsMarkup (node kind.Instruction n v ks)) (IsContent ts false) (AreBehindRun (more (node kind.Instruction n v ks) ts)) c.mid c.others.0 after (λ a b d p q. (b, p, q))
      (item_tail (node kind.Instruction n v ks) c.mid c.others.0 c.others.1) (content_tail ts false c.others.0 after c.others.2))

pub fragment-leads : FragmentLeads
fragment-leads tokens nodes c =
    let t = content_tail nodes false tokens [] c in
    let is : tokens ≡ t.front = t.whole ∙ append-nil t.front in
    let framed : IsContent nodes false (tokens ++ End [] ∷ []) (End [] ∷ []) = subst (λ z. IsContent nodes false (z ++ End [] ∷ []) (End [] ∷ [])) (sym is) (t.other (End [] ∷ [])) in
    content_closes nodes false [] [] (tokens ++ End [] ∷ []) [] framed
    ∙ ap (λ z. Some (end, z)) (append-nil (inner_events nodes (Closed ∷ [])) ∙ no_front nodes tokens [] (Closed ∷ []) c)

abbrev calls_of : Stepped → List Event
calls_of None = []
calls_of (Some r) = r.1

pub one-fragment : (tokens : List Token) (s t : Trees) → IsContent s false tokens [] → IsContent t false tokens [] → s ≡ t
one-fragment tokens s t p q =
    let same : events_all s (Closed ∷ []) ≡ events_all t (Closed ∷ []) = calls_are (fragment-leads tokens s p) (fragment-leads tokens t q) in
    (all-inj s t (Closed ∷ []) (Closed ∷ []) (content_shaped s false tokens [] p) (content_shaped t false tokens [] q) tt tt same).0 where
      calls_are : {x y : List Event} → steps fragment_start (tokens ++ End [] ∷ []) ≡ Some (end, x) → steps fragment_start (tokens ++ End [] ∷ []) ≡ Some (end, y) → x ≡ y
      calls_are e f = ap calls_of (sym e ∙ f)

-- the only end tag without a name is the last token
last_one : (tokens front after : List Token) → AllByRecursion HasName tokens → tokens ++ End [] ∷ [] ≡ front ++ End [] ∷ after → (tokens ≡ front) × (after ≡ [])
last_one [] [] after n e = (refl, cc)
last_one [] (u ∷ front) after n e = nothing front (cc) where
  nothing : (x : List Token) → [] ≡ x ++ End [] ∷ after → ([] ≡ u ∷ front) × (after ≡ [])
  nothing [] f = cc
  nothing (d ∷ x) f = cc
last_one (t ∷ tokens) [] after n e = absurd (n.0 (cc))
last_one (t ∷ tokens) (u ∷ front) after n e =
    let heads : t ≡ u = cc in
    let rest : tokens ++ End [] ∷ [] ≡ front ++ End [] ∷ after = cc in
    let below = last_one tokens front after n.1 rest in
    let same = below.0 in
    (cc, below.1)

-- behind the last token nothing is left
no_calls_left : (after : List Token) (calls : List Event) → after ≡ [] → Ends true true after calls → calls ≡ []
no_calls_left after calls e ends = ends.logged ∙ by_parts ends.parts (subst (λ z. AreParts true true ends.parts z) e ends.are) where
  by_parts : (ps : List Part) → AreParts true true ps [] → events_all (kids_of ps) [] ≡ []
  by_parts [] a = refl
  by_parts (Space c ∷ ps) a = let bad = a.2 in cc
  by_parts (Typed ∷ ps) a = let bad = a.1 in cc
  by_parts (Kid (node kind.Element n v ks) ∷ ps) a = let bad = a.1 in cc
  by_parts (Kid (node kind.Comment n v ks) ∷ ps) a = let bad = a.1.2 in cc
  by_parts (Kid (node kind.Instruction n v ks) ∷ ps) a = let bad = a.1.1 in cc
  by_parts (Kid (node kind.Document n v ks) ∷ ps) a = absurd a.1
  by_parts (Kid (node kind.Attribute n v ks) ∷ ps) a = absurd a.1
  by_parts (Kid (node kind.Text n v ks) ∷ ps) a = absurd a.1

pub leads-fragment : LeadsToFragment
leads-fragment tokens last calls names e ended =
    let f = inside_fills last ended (tokens ++ End [] ∷ []) [] [] [] 0 calls e in
    let v = flat_map given f.pieces in
    let nodes = with_text_kid v f.items in
    let content = content_made v f.items false (tokens ++ End [] ∷ []) f.mid (End [] ∷ f.after) (run_of [] [] (tokens ++ End [] ∷ []) calls _ f) f.content in
    let t = content_tail nodes false (tokens ++ End [] ∷ []) (End [] ∷ f.after) content in
    let ends = last_one tokens t.front f.after names t.whole in
    let alone = subst (λ z. IsContent nodes false z []) (append-nil t.front ∙ sym ends.0) (t.other []) in
    record {
      nodes = nodes;
      are = alone;
      logged = f.logged ∙ sym (text_events v f.items (Closed ∷ f.others)) ∙ ap (λ z. events_all nodes (Closed ∷ z)) (no_calls_left f.after f.others ends.1 f.next);
    }

-- what lawful tokens spell is lawful nodes of a fragment, no more than the tokens have bytes, without neighbouring texts
pub fragment-is_lawful : (tokens : List Token) (nodes : Trees) → IsContent nodes false tokens [] → AreLawfulTokens tokens
    → AreFragmentNodes nodes × (node_count_all nodes ≤ least_all tokens) × (joined_all nodes ≡ nodes)
fragment-is_lawful tokens nodes c l =
    let own = content_sound nodes false tokens [] c l no_lawful_attributes in
    ((own.kids.ordered, own.kids.lawful), omega (arith, own.small), content_joined nodes false tokens [] c)
