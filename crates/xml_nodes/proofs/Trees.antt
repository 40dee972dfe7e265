-- The tokens of a tree lead the machine through the calls of that tree.
use Rattle.std.proofs.Common.{◌≡◌, ◌≢◌, ℕ, Bool, true, false, List, [], ◌∷◌, ◌++◌, refl, ap, sym, ◌∙◌, subst, inl, inr, append_assoc, arith}
use Rattle.std.specs.Prelude.{◌==◌, bytes_eq}
use Rattle.std.proofs.lemmas.Bool.Decides.{nat_tests}
use Rattle.plain_tree.specs.declared.kind.Kind.TheVariants as kind
use Rattle.plain_tree.specs.Tree.{Tree, node, Trees, none, more}
use Rattle.xml_nodes.proofs.Steps.{calls_none}
use Rattle.xml_nodes.proofs.Runs.{inside, run_taken}
use Rattle.xml_tokens.specs.Tokens.{Token, Start, End}
use Rattle.xml_nodes.specs.Content.{RunGives, attributes_among, AreAllAttributes, IsLeaf, IsMarkup, AreBehindRun, IsContent}
use Rattle.xml_nodes.specs.Machine.{Event, Opened, Leaf, Closed, steps, calls_before, opened_at, events, events_all, attribute_leaves, text_leaf, left}

-- the calls of the kids behind the attributes
abbrev pub inner_events : Trees → List Event → List Event
inner_events none next = next
inner_events (more (node kind.Attribute n v ks) ts) next = inner_events ts next
inner_events (more (node kind.Document n v ks) ts) next = events_all (more (node kind.Document n v ks) ts) next
inner_events (more (node kind.Element n v ks) ts) next = events_all (more (node kind.Element n v ks) ts) next
inner_events (more (node kind.Text n v ks) ts) next = events_all (more (node kind.Text n v ks) ts) next
inner_events (more (node kind.Comment n v ks) ts) next = events_all (more (node kind.Comment n v ks) ts) next
inner_events (more (node kind.Instruction n v ks) ts) next = events_all (more (node kind.Instruction n v ks) ts) next

pub split_events : (ts : Trees) (next : List Event) → events_all ts next ≡ attribute_leaves (attributes_among ts) ++ inner_events ts next
split_events none next = refl
split_events (more (node kind.Attribute n v ks) ts) next = ap (λ z. Leaf kind.Attribute n v ∷ z) (split_events ts next)
split_events (more (node kind.Document n v ks) ts) next = refl
split_events (more (node kind.Element n v ks) ts) next = refl
split_events (more (node kind.Text n v ks) ts) next = refl
split_events (more (node kind.Comment n v ks) ts) next = refl
split_events (more (node kind.Instruction n v ks) ts) next = refl

pub no_inner : (ts : Trees) (next : List Event) → AreAllAttributes ts → inner_events ts next ≡ next
no_inner none next a = refl
no_inner (more (node kind.Attribute n v ks) ts) next a = no_inner ts next a.2
no_inner (more (node kind.Document n v ks) ts) next a = let bad = a.0 in cc
no_inner (more (node kind.Element n v ks) ts) next a = let bad = a.0 in cc
no_inner (more (node kind.Text n v ks) ts) next a = let bad = a.0 in cc
no_inner (more (node kind.Comment n v ks) ts) next a = let bad = a.0 in cc
no_inner (more (node kind.Instruction n v ks) ts) next a = let bad = a.0 in cc

pub no_front : (ts : Trees) (tokens after : List Token) (next : List Event) → IsContent ts false tokens after → inner_events ts next ≡ events_all ts next
no_front none tokens after next c = refl
no_front (more (node kind.Attribute n v ks) ts) tokens after next c = absurd c
no_front (more (node kind.Document n v ks) ts) tokens after next c = refl
no_front (more (node kind.Element n v ks) ts) tokens after next c = refl
no_front (more (node kind.Text n v ks) ts) tokens after next c = refl
no_front (more (node kind.Comment n v ks) ts) tokens after next c = refl
no_front (more (node kind.Instruction n v ks) ts) tokens after next c = refl

mutual
  pub events-next : (t : Tree) (next : List Event) → events t next ≡ events t [] ++ next
  events-next (node kind.Element n v ks) next =
      ap (λ z. Opened n ∷ z) (all-next ks (Closed ∷ next) ∙ sym (ap (λ z. z ++ next) (all-next ks (Closed ∷ [])) ∙ append_assoc (events_all ks []) (Closed ∷ []) next))
  events-next (node kind.Document n v ks) next = all-next ks next
  events-next (node kind.Attribute n v ks) next = refl
  events-next (node kind.Text n v ks) next = refl
  events-next (node kind.Comment n v ks) next = refl
  events-next (node kind.Instruction n v ks) next = refl

  pub all-next : (ts : Trees) (next : List Event) → events_all ts next ≡ events_all ts [] ++ next
  all-next none next = refl
  all-next (more t ts) next =
      ap (λ z. events t z) (all-next ts next) ∙ events-next t (events_all ts [] ++ next)
      ∙ sym (append_assoc (events t []) (events_all ts []) next) ∙ ap (λ z. z ++ next) (sym (events-next t (events_all ts [])))

pub same_name : (n : List ℕ) → bytes_eq n n ≡ true
same_name [] = refl
same_name (c ∷ n) = rw (same_byte c) (same_name n) where
  same_byte : (c : ℕ) → (c == c) ≡ true
  same_byte c = grind (arith, nat_tests)

-- with an element open, the tokens have these calls, and it is closed
abbrev pub Closes : List (List ℕ) → List ℕ → ℕ → List ℕ → List Token → List Token → List Event → Type 0
Closes names v b n tokens after calls = steps (inside (n ∷ names) v b) tokens ≡ calls_before calls (steps (opened_at (left names) names) after)

end_here : (names : List (List ℕ)) (v : List ℕ) (b : ℕ) (n : List ℕ) (after : List Token) → Closes names v b n (End n ∷ after) after (text_leaf v ++ Closed ∷ [])
end_here names v b n after = rw (same_name n) refl

by_run : (names : List (List ℕ)) (n value : List ℕ) (tokens mid after : List Token) (calls : List Event) → RunGives value tokens mid
    → ((b : ℕ) → Closes names value b n mid after calls) → Closes names [] 0 n tokens after calls
by_run names n value tokens mid after calls r next =
    let ran = run_taken (n ∷ names) mid r.pieces r.each r.lawful in
    ap (λ z. steps (inside (n ∷ names) [] 0) z) r.whole ∙ ran.1 ∙ ap (λ z. steps (inside (n ∷ names) z ran.0) mid) (sym r.gives) ∙ next ran.0

-- what an item's tokens do inside an element
abbrev Passes : List (List ℕ) → Tree → List Token → List Token → Type 0
Passes names t tokens after = (v : List ℕ) (b : ℕ) → steps (inside names v b) tokens ≡ calls_before (text_leaf v ++ events t []) (steps (inside names [] 0) after)

then_others : (names : List (List ℕ)) (n v : List ℕ) (b : ℕ) (t : Tree) (ts : Trees) (tokens mid after : List Token) → Passes (n ∷ names) t tokens mid
    → IsContent ts false mid (End n ∷ after) → Closes names [] 0 n mid after (inner_events ts (Closed ∷ [])) → Closes names v b n tokens after (text_leaf v ++ events t (events_all ts (Closed ∷ [])))
then_others names n v b t ts tokens mid after p c others =
    p v b ∙ ap (λ z. calls_before (text_leaf v ++ events t []) z) others ∙ calls_none (text_leaf v ++ events t []) (inner_events ts (Closed ∷ [])) _
    ∙ ap (λ z. calls_before z (steps (opened_at (left names) names) after))
    (append_assoc (text_leaf v) (events t []) (inner_events ts (Closed ∷ [])) ∙ ap (λ z. text_leaf v ++ z)
    (ap (λ z. events t [] ++ z) (no_front ts mid (End n ∷ after) (Closed ∷ []) c) ∙ sym (events-next t (events_all ts (Closed ∷ [])))))

leaf_passes : (names : List (List ℕ)) (n : List ℕ) (v : List ℕ) (ks : Trees) (tokens after : List Token) → IsLeaf n ks tokens after → Passes names (node kind.Element n v ks) tokens after
leaf_passes names n w ks tokens after l = λ v b.
    ap (λ z. steps (inside names v b) z) l.tag
    ∙ ap (λ z. calls_before (text_leaf v ++ Opened n ∷ z) (steps (inside names [] 0) after))
    (sym (split_events ks (Closed ∷ []) ∙ ap (λ z. attribute_leaves (attributes_among ks) ++ z) (no_inner ks (Closed ∷ []) l.no_content)))

parent_passes : (m : List ℕ) (names : List (List ℕ)) (n w : List ℕ) (ks : Trees) (tokens inner after : List Token) → tokens ≡ Start n (attributes_among ks) ∷ inner
    → Closes (m ∷ names) [] 0 n inner after (inner_events ks (Closed ∷ [])) → Passes (m ∷ names) (node kind.Element n w ks) tokens after
parent_passes m names n w ks tokens inner after e c = λ v b.
    ap (λ z. steps (inside (m ∷ names) v b) z) e
    ∙ ap (λ z. calls_before (text_leaf v ++ Opened n ∷ attribute_leaves (attributes_among ks)) z) c
    ∙ calls_none (text_leaf v ++ Opened n ∷ attribute_leaves (attributes_among ks)) (inner_events ks (Closed ∷ [])) _
    ∙ ap (λ z. calls_before z (steps (inside (m ∷ names) [] 0) after))
    (append_assoc (text_leaf v) (Opened n ∷ attribute_leaves (attributes_among ks)) (inner_events ks (Closed ∷ []))
    ∙ ap (λ z. text_leaf v ++ Opened n ∷ z) (sym (split_events ks (Closed ∷ []))))

text_first : (v : List ℕ) (n : List ℕ) (next : List Event) → v ≢ [] → n ≡ [] → text_leaf v ++ next ≡ Leaf kind.Text n v ∷ next
text_first [] n next s e = absurd (s refl)
text_first (c ∷ v) n next s e = rw e refl

mutual
  item_passes : (t : Tree) (m : List ℕ) (names : List (List ℕ)) (tokens after : List Token) → IsMarkup t tokens after → Passes (m ∷ names) t tokens after
  item_passes (node kind.Element n w ks) m names tokens after (e, inl l) = leaf_passes (m ∷ names) n w ks tokens after l
  item_passes (node kind.Element n w ks) m names tokens after (e, inr p) =
      parent_passes m names n w ks tokens p.inner after p.start_tag (content_closes ks true (m ∷ names) n p.inner after p.content)
  item_passes (node kind.Comment n w ks) m names tokens after i = λ v b. ap (λ z. steps (inside (m ∷ names) v b) z) i.2 ∙ rw i.0 refl
  item_passes (node kind.Instruction n w ks) m names tokens after i = λ v b. ap (λ z. steps (inside (m ∷ names) v b) z) i.1
  item_passes (node kind.Document n w ks) m names tokens after i = absurd i
  item_passes (node kind.Attribute n w ks) m names tokens after i = absurd i
  item_passes (node kind.Text n w ks) m names tokens after i = absurd i

  items_close : (ts : Trees) (names : List (List ℕ)) (n v : List ℕ) (b : ℕ) (tokens after : List Token) → AreBehindRun ts tokens (End n ∷ after)
      → Closes names v b n tokens after (text_leaf v ++ events_all ts (Closed ∷ []))
  items_close none names n v b tokens after a = ap (λ z. steps (inside (n ∷ names) v b) z) a ∙ end_here names v b n after
  items_close (more t ts) names n v b tokens after (mid, i, c) =
      then_others names n v b t ts tokens mid after (item_passes t n names tokens mid i) c (content_closes ts false names n mid after c)

  pub content_closes : (ts : Trees) (in_tag : Bool) (names : List (List ℕ)) (n : List ℕ) (tokens after : List Token) → IsContent ts in_tag tokens (End n ∷ after)
      → Closes names [] 0 n tokens after (inner_events ts (Closed ∷ []))
  content_closes none in_tag names n tokens after c = by_run names n [] tokens (End n ∷ after) after (Closed ∷ []) c (λ b. end_here names [] b n after)
  content_closes (more (node kind.Attribute k w ks) ts) true names n tokens after c = content_closes ts true names n tokens after c.1
  content_closes (more (node kind.Attribute k w ks) ts) false names n tokens after c = absurd c
  content_closes (more (node kind.Document k w ks) ts) in_tag names n tokens after c = absurd c
  content_closes (more (node kind.Text k w ks) ts) in_tag names n tokens after c =
      by_run names n w tokens c.mid after (Leaf kind.Text k w ∷ events_all ts (Closed ∷ [])) c.run
      (λ b. subst (λ z. Closes names w b n c.mid after z) (text_first w k (events_all ts (Closed ∷ [])) c.some c.no_name) (items_close ts names n w b c.mid after c.others))
  content_closes (more (node kind.Element k w ks) ts) in_tag names n tokens after c =
      let o = c.others in
      by_run names n [] tokens c.mid after (events (node kind.Element k w ks) (events_all ts (Closed ∷ []))) c.run
      (λ b. then_others names n [] b (node kind.Element k w ks) ts c.mid o.0 after (item_passes (node kind.Element k w ks) n names c.mid o.0 o.1) o.2
      (content_closes ts false names n o.0 after o.2))
  content_closes (more (node kind.Comment k w ks) ts) in_tag names n tokens after c =
      let o = c.others in
      by_run names n [] tokens c.mid after (events (node kind.Comment k w ks) (events_all ts (Closed ∷ []))) c.run
      (λ b. then_others names n [] b (node kind.Comment k w ks) ts c.mid o.0 after (item_passes (node kind.Comment k w ks) n names c.mid o.0 o.1) o.2
      (content_closes ts false names n o.0 after o.2))
  content_closes (more (node kind.Instruction k w ks) ts) in_tag names n tokens after c =
      let o = c.others in
      by_run names n [] tokens c.mid after (events (node kind.Instruction k w ks) (events_all ts (Closed ∷ []))) c.run
      (λ b. then_others names n [] b (node kind.Instruction k w ks) ts c.mid o.0 after (item_passes (node kind.Instruction k w ks) n names c.mid o.0 o.1) o.2
      (content_closes ts false names n o.0 after o.2))
