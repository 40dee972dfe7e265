-- The tokens of a document lead the machine from the start to the end, through the calls of its tree.
use Rattle.std.proofs.Common.{◌≡◌, ℕ, Bool, true, false, List, [], ◌∷◌, ◌++◌, refl, ap, sym, ◌∙◌, subst, inl, inr, append_assoc}
use Rattle.std.specs.Prelude.{Some}
use Rattle.plain_tree.specs.declared.kind.Kind.TheVariants as kind
use Rattle.plain_tree.specs.Tree.{Tree, node, Trees}
use Rattle.xml_nodes.specs.declared.stage.Stage.{Stage}
use Rattle.xml_nodes.specs.declared.stage.Stage.TheVariants as at
use Rattle.xml_nodes.proofs.Trees.{split_events, no_inner, events-next, inner_events, content_closes}
use Rattle.xml_tokens.specs.Tokens.{Token, Character, Start, Empty, Comment, Instruction, Declaration, Doctype}
use Rattle.xml_nodes.specs.Content.{Part, Space, Typed, Kid, kids_of, AreParts, IsLeaf, MayBegin, attributes_among}
use Rattle.xml_nodes.specs.Machine.{Event, Opened, Leaf, Closed, step, outer_step, steps, then_on, calls_before, opened_at, events, events_all, attribute_leaves, passed, may_root, may_type}
use Rattle.xml_nodes.specs.Laws.{DocumentLeads}

-- where a stage stands for what has come
abbrev fits : Bool → Bool → Stage → Bool
fits typed rooted at.Inside = false
fits false false at.Front = true
fits false false at.Marked = true
fits false false at.Prolog = true
fits false false at.Typed = false
fits false false at.Epilog = false
fits true false at.Front = false
fits true false at.Marked = false
fits true false at.Prolog = false
fits true false at.Typed = true
fits true false at.Epilog = false
fits typed true at.Front = false
fits typed true at.Marked = false
fits typed true at.Prolog = false
fits typed true at.Typed = false
fits false true at.Epilog = false
fits true true at.Epilog = true

outer_is : (typed rooted : Bool) (stage : Stage) (t : Token) → fits typed rooted stage ≡ true → step (opened_at stage []) t ≡ outer_step (opened_at stage []) t
outer_is typed rooted at.Front t f = refl
outer_is typed rooted at.Marked t f = refl
outer_is typed rooted at.Prolog t f = refl
outer_is typed rooted at.Typed t f = refl
outer_is typed rooted at.Epilog t f = refl
outer_is typed rooted at.Inside t f = cc

passed_fits : (typed rooted : Bool) (stage : Stage) → fits typed rooted stage ≡ true → fits typed rooted (passed stage) ≡ true
passed_fits false false at.Front f = refl
passed_fits false false at.Marked f = refl
passed_fits false false at.Prolog f = refl
passed_fits true false at.Typed f = refl
passed_fits typed true at.Epilog f = f
passed_fits typed rooted at.Inside f = cc
passed_fits false false at.Typed f = cc
passed_fits false false at.Epilog f = cc
passed_fits true false at.Front f = cc
passed_fits true false at.Marked f = cc
passed_fits true false at.Prolog f = cc
passed_fits true false at.Epilog f = cc
passed_fits typed true at.Front f = cc
passed_fits typed true at.Marked f = cc
passed_fits typed true at.Prolog f = cc
passed_fits typed true at.Typed f = cc

root_fits : (typed : Bool) (stage : Stage) → fits typed false stage ≡ true → may_root stage ≡ true
root_fits typed at.Front f = refl
root_fits typed at.Marked f = refl
root_fits typed at.Prolog f = refl
root_fits typed at.Typed f = refl
root_fits false at.Epilog f = cc
root_fits true at.Epilog f = cc
root_fits typed at.Inside f = cc

type_fits : (stage : Stage) → fits false false stage ≡ true → may_type stage ≡ true
type_fits at.Front f = refl
type_fits at.Marked f = refl
type_fits at.Prolog f = refl
type_fits at.Typed f = cc
type_fits at.Epilog f = cc
type_fits at.Inside f = cc

no_type : (stage : Stage) → fits false true stage ≡ true → ⊥
no_type at.Front f = cc
no_type at.Marked f = cc
no_type at.Prolog f = cc
no_type at.Typed f = cc
no_type at.Epilog f = cc
no_type at.Inside f = cc

ended : (typed rooted : Bool) (stage : Stage) → rooted ≡ true → fits typed rooted stage ≡ true → stage ≡ at.Epilog
ended typed rooted at.Epilog e f = refl
ended typed rooted at.Inside e f = cc
ended typed rooted at.Front e f = let g = subst (λ z. fits typed z at.Front ≡ true) e f in cc
ended typed rooted at.Marked e f = let g = subst (λ z. fits typed z at.Marked ≡ true) e f in cc
ended typed rooted at.Prolog e f = let g = subst (λ z. fits typed z at.Prolog ≡ true) e f in cc
ended typed rooted at.Typed e f = let g = subst (λ z. fits typed z at.Typed ≡ true) e f in cc

-- the calls to the end of a document
abbrev Leads : Stage → List Token → List Event → Type 0
Leads stage tokens calls = steps (opened_at stage []) tokens ≡ Some (opened_at at.Epilog [], calls)

then_leads : (stage next : Stage) (t : Token) (tokens mid : List Token) (calls others : List Event) → tokens ≡ t ∷ mid → step (opened_at stage []) t ≡ Some (opened_at next [], calls)
    → Leads next mid others → Leads stage tokens (calls ++ others)
then_leads stage next t tokens mid calls others e f g =
    ap (λ z. steps (opened_at stage []) z) e ∙ ap (λ z. then_on z (λ s. steps s mid)) f ∙ ap (λ z. calls_before calls z) g

leaf_leads : (typed : Bool) (stage : Stage) (n v : List ℕ) (ks : Trees) (tokens mid : List Token) (others : List Event) → fits typed false stage ≡ true → IsLeaf n ks tokens mid
    → Leads at.Epilog mid others → Leads stage tokens (events (node kind.Element n v ks) [] ++ others)
leaf_leads typed stage n v ks tokens mid others f l g =
    then_leads stage at.Epilog (Empty n (attributes_among ks)) tokens mid (events (node kind.Element n v ks) []) others l.tag
    (outer_is typed false stage (Empty n (attributes_among ks)) f ∙ rw (root_fits typed stage f)
    (ap (λ z. Some (opened_at at.Epilog [], Opened n ∷ z)) (sym (split_events ks (Closed ∷ []) ∙ ap (λ z. attribute_leaves (attributes_among ks) ++ z) (no_inner ks (Closed ∷ []) l.no_content)))))
    g

parent_leads : (typed : Bool) (stage : Stage) (n v : List ℕ) (ks : Trees) (tokens inner mid : List Token) (others : List Event) → fits typed false stage ≡ true
    → tokens ≡ Start n (attributes_among ks) ∷ inner → steps (opened_at at.Inside (n ∷ [])) inner ≡ calls_before (inner_events ks (Closed ∷ [])) (steps (opened_at at.Epilog []) mid)
    → Leads at.Epilog mid others → Leads stage tokens (events (node kind.Element n v ks) [] ++ others)
parent_leads typed stage n v ks tokens inner mid others f e c g =
    let opens : step (opened_at stage []) (Start n (attributes_among ks)) ≡ Some (opened_at at.Inside (n ∷ []), Opened n ∷ attribute_leaves (attributes_among ks)) =
    outer_is typed false stage (Start n (attributes_among ks)) f ∙ rw (root_fits typed stage f) refl in
    ap (λ z. steps (opened_at stage []) z) e ∙ ap (λ z. then_on z (λ s. steps s inner)) opens
    ∙ ap (λ z. calls_before (Opened n ∷ attribute_leaves (attributes_among ks)) z) (c ∙ ap (λ z. calls_before (inner_events ks (Closed ∷ [])) z) g)
    ∙ ap (λ z. Some (opened_at at.Epilog [], z))
    (sym (append_assoc (Opened n ∷ attribute_leaves (attributes_among ks)) (inner_events ks (Closed ∷ [])) others)
    ∙ ap (λ z. (Opened n ∷ z) ++ others) (sym (split_events ks (Closed ∷ []))))

regroup : (stage : Stage) (tokens : List Token) (t : Tree) (others : List Event) → Leads stage tokens (events t [] ++ others) → Leads stage tokens (events t others)
regroup stage tokens t others l = subst (λ z. Leads stage tokens z) (sym (events-next t others)) l

parts_lead : (ps : List Part) (typed rooted : Bool) (stage : Stage) (tokens : List Token) → fits typed rooted stage ≡ true → AreParts typed rooted ps tokens
    → Leads stage tokens (events_all (kids_of ps) [])
parts_lead [] typed rooted stage tokens f a = rw (ended typed rooted stage a.0 f, a.1) refl
parts_lead (Space c ∷ ps) typed rooted stage tokens f a =
    then_leads stage (passed stage) (Character c) tokens a.0 [] (events_all (kids_of ps) []) a.2 (outer_is typed rooted stage (Character c) f ∙ rw a.1 refl)
    (parts_lead ps typed rooted (passed stage) a.0 (passed_fits typed rooted stage f) a.3)
parts_lead (Typed ∷ ps) typed false stage tokens f a =
    let g = subst (λ z. fits z false stage ≡ true) a.1 f in
    then_leads stage at.Typed Doctype tokens a.0 [] (events_all (kids_of ps) []) a.2 (outer_is false false stage Doctype g ∙ rw (type_fits stage g) refl)
    (parts_lead ps true false at.Typed a.0 refl a.3)
parts_lead (Typed ∷ ps) typed true stage tokens f a = absurd (no_type stage (subst (λ z. fits z true stage ≡ true) a.1 f))
parts_lead (Kid (node kind.Element n v ks) ∷ ps) typed rooted stage tokens f (mid, r, (e, inl l), rest) =
    regroup stage tokens (node kind.Element n v ks) (events_all (kids_of ps) [])
    (leaf_leads typed stage n v ks tokens mid (events_all (kids_of ps) []) (subst (λ z. fits typed z stage ≡ true) r f) l (parts_lead ps true true at.Epilog mid refl rest))
parts_lead (Kid (node kind.Element n v ks) ∷ ps) typed rooted stage tokens f (mid, r, (e, inr p), rest) =
    regroup stage tokens (node kind.Element n v ks) (events_all (kids_of ps) [])
    (parent_leads typed stage n v ks tokens p.inner mid (events_all (kids_of ps) []) (subst (λ z. fits typed z stage ≡ true) r f) p.start_tag
    (content_closes ks true [] n p.inner mid p.content) (parts_lead ps true true at.Epilog mid refl rest))
parts_lead (Kid (node kind.Comment n v ks) ∷ ps) typed rooted stage tokens f (mid, i, rest) =
    then_leads stage (passed stage) (Comment v) tokens mid (Leaf kind.Comment n v ∷ []) (events_all (kids_of ps) []) i.2 (outer_is typed rooted stage (Comment v) f ∙ rw i.0 refl)
    (parts_lead ps typed rooted (passed stage) mid (passed_fits typed rooted stage f) rest)
parts_lead (Kid (node kind.Instruction n v ks) ∷ ps) typed rooted stage tokens f (mid, i, rest) =
    then_leads stage (passed stage) (Instruction n v) tokens mid (Leaf kind.Instruction n v ∷ []) (events_all (kids_of ps) []) i.1 (outer_is typed rooted stage (Instruction n v) f)
    (parts_lead ps typed rooted (passed stage) mid (passed_fits typed rooted stage f) rest)
parts_lead (Kid (node kind.Document n v ks) ∷ ps) typed rooted stage tokens f a = absurd a.1
parts_lead (Kid (node kind.Attribute n v ks) ∷ ps) typed rooted stage tokens f a = absurd a.1
parts_lead (Kid (node kind.Text n v ks) ∷ ps) typed rooted stage tokens f a = absurd a.1

declared_leads : (stage : Stage) (tokens after : List Token) (calls : List Event) → step (opened_at stage []) Declaration ≡ Some (opened_at at.Prolog [], [])
    → MayBegin Declaration tokens after → ((next : Stage) → fits false false next ≡ true → Leads next after calls) → fits false false stage ≡ true → Leads stage tokens calls
declared_leads stage tokens after calls s (inl e) rest f = then_leads stage at.Prolog Declaration tokens after [] calls e s (rest at.Prolog refl)
declared_leads stage tokens after calls s (inr e) rest f = subst (λ z. Leads stage z calls) (sym e) (rest stage f)

marked_leads : (tokens after declared : List Token) (calls : List Event) → MayBegin (Character 0xFEFF) tokens after → MayBegin Declaration after declared
    → ((next : Stage) → fits false false next ≡ true → Leads next declared calls) → Leads at.Front tokens calls
marked_leads tokens after declared calls (inl e) d rest =
    then_leads at.Front at.Marked (Character 0xFEFF) tokens after [] calls e refl (declared_leads at.Marked after declared calls refl d rest refl)
marked_leads tokens after declared calls (inr e) d rest = subst (λ z. Leads at.Front z calls) (sym e) (declared_leads at.Front after declared calls refl d rest refl)

pub document_leads : DocumentLeads
document_leads tokens tree d =
    subst (λ z. Leads at.Front tokens (events z [])) (sym d.is)
    (marked_leads tokens d.marked d.declared (events_all (kids_of d.parts) []) d.mark d.declaration
    (λ next f. parts_lead d.parts false false next d.declared f d.are_parts))
