-- Where texts meet by an edit, and how they become one by numbers.
use Rattle.std.proofs.Common.{◌≡◌, ℕ, zero, suc, ◌+◌, ◌-◌, ◌<◌, List, refl, ap, sym, ◌∙◌, arith, append-nil}
use Rattle.plain_tree.specs.declared.kind.Kind.{Kind}
use Rattle.plain_tree.specs.declared.kind.Kind.TheVariants.{Document, Element, Attribute, Text, Comment, Instruction}
use Rattle.plain_tree.specs.Joined.{join_front}
use Rattle.plain_tree.specs.Lawful.{AreLawfulTrees, AreKids}
use Rattle.plain_tree.specs.Tree.{Tree, node, Trees, none, more, node_count_all}
use Rattle.plain_tree.specs.Edits.{changed, chained, with_first, with_kids, alone}
use Rattle.plain_tree.specs.Siblings.{joined_first, joined_at}
use Rattle.plain_tree.proofs.Changing.{each-node, changed-inside, changed-later, more-later, from_node, from-inside, from-later, changed-alike, changed-within, before-stays, count-chained}

-- texts have no kids
abbrev pub HaveLeafTexts : Trees → Type 0
HaveLeafTexts none = Unit {0}
HaveLeafTexts (more (node k m v ks) ts) = (k ≡ Text → ks ≡ none) × HaveLeafTexts ks × HaveLeafTexts ts

no-kids : (k : Kind) (ks : Trees) → AreKids k ks → k ≡ Text → ks ≡ none
no-kids Text ks l e = l
no-kids Document ks l e = cc
no-kids Element ks l e = cc
no-kids Attribute ks l e = cc
no-kids Comment ks l e = cc
no-kids Instruction ks l e = cc

pub leaf-texts : (ts : Trees) → AreLawfulTrees ts → HaveLeafTexts ts
leaf-texts none l = tt
leaf-texts (more (node k m v ks) ts) l = (no-kids k ks l.0.1, leaf-texts ks l.0.2, leaf-texts ts l.1)

-- a node that is no text joins nothing
pub join-other : (k : Kind) (m v : List ℕ) (ks ts : Trees) → (k ≡ Text → ⊥) → join_front (node k m v ks) ts ≡ more (node k m v ks) ts
join-other Text m v ks ts h = absurd (h refl)
join-other Document m v ks ts h = refl
join-other Element m v ks ts h = refl
join-other Attribute m v ks ts h = refl
join-other Comment m v ks ts h = refl
join-other Instruction m v ks ts h = refl

pub join-none : (t : Tree) → join_front t none ≡ more t none
join-none (node Text m v ks) = ap (λ w. more (node Text m w ks) none) (append-nil v)
join-none (node Document m v ks) = refl
join-none (node Element m v ks) = refl
join-none (node Attribute m v ks) = refl
join-none (node Comment m v ks) = refl
join-none (node Instruction m v ks) = refl

with-kids-other : (k : Kind) (ks : Trees) → (k ≡ Text → ks ≡ none) → 0 < node_count_all ks → k ≡ Text → ⊥
with-kids-other k ks l h e = let n : node_count_all ks ≡ 0 = ap node_count_all (l e) in absurd (omega arith)

pub none-of : (ts : Trees) → node_count_all ts ≡ 0 → ts ≡ none
none-of none e = refl
none-of (more (node k m v ks) ts) e = absurd (omega arith)

-- the last node has no sibling behind it
pub last-stays : (ts : Trees) → HaveLeafTexts ts → (c : ℕ) → suc c ≡ node_count_all ts → joined_at c ts ≡ ts
last-stays none l c e = absurd (omega arith)
last-stays (more (node k m v ks) none) l zero e = join-none (node k m v ks)
last-stays (more (node k m v ks) (more s ts)) l zero e = absurd (let z : more s ts ≡ none = none-of (more s ts) (omega arith) in cc)
last-stays (more (node k m v ks) none) l (suc c) e = changed-inside more joined_first k m v ks none c (omega arith) ∙ ap (λ us. more (node k m v us) none) (last-stays ks l.1 c (omega arith))
last-stays (more (node k m v ks) (more (node k' m' v' ks') ts)) l (suc c) e =
    let d : ℕ = node_count_all (more (node k' m' v' ks') ts) - 1 in
    let z : suc c ≡ suc (node_count_all ks + d) = omega arith in
    ap (λ (i : ℕ). joined_at i (more (node k m v ks) (more (node k' m' v' ks') ts))) z ∙ more-later joined_first k m v ks (more (node k' m' v' ks') ts) d
    ∙ ap (more (node k m v ks)) (last-stays (more (node k' m' v' ks') ts) l.2 d (omega arith))

-- a tree comes before others: a text is one with the first of them; what is last in it joins nothing
pub joined-before : (k : Kind) (m v : List ℕ) (ks us : Trees) → (k ≡ Text → ks ≡ none) → HaveLeafTexts ks → join_front (node k m v ks) us ≡ joined_at (node_count_all ks) (more (node k m v ks) us)
joined-before k m v none us l ls = refl
joined-before k m v (more (node k' m' v' ks') ts) us l ls =
    let ks : Trees = more (node k' m' v' ks') ts in
    let c : ℕ = node_count_all ks - 1 in
    let z : node_count_all ks ≡ suc c = omega arith in
    join-other k m v ks us (with-kids-other k ks l (omega arith)) ∙ ap (λ xs. more (node k m v xs) us) (sym (last-stays ks ls c (sym z)))
    ∙ sym (changed-inside more joined_first k m v ks us c (omega arith)) ∙ ap (λ (i : ℕ). joined_at i (more (node k m v ks) us)) (sym z)

-- the sibling before a node meets what stands in the node's place now
abbrev MeetsBefore : (Trees → Trees) → ℕ → Trees → Type 0
MeetsBefore change zero ts = Unit {0}
MeetsBefore change (suc n) ts = HaveLeafTexts ts → changed join_front change (suc n) ts ≡ joined_at n (changed more change (suc n) ts)

meets-inside : (change : Trees → Trees) (k : Kind) (m v : List ℕ) (ks ts : Trees) (n : ℕ) → n < node_count_all ks → MeetsBefore change n ks → MeetsBefore change (suc n) (more (node k m v ks) ts)
meets-inside change k m v ks ts zero h e l =
    let there : changed more change 1 (more (node k m v ks) ts) ≡ more (node k m v (change ks)) ts = changed-inside more change k m v ks ts 0 h in
    changed-inside join_front change k m v ks ts 0 h ∙ sym (join-other k m v (change ks) ts (with-kids-other k ks l.0 h)) ∙ ap joined_first (sym there)
meets-inside change k m v ks ts (suc n) h e l =
    let there : changed more change (suc (suc n)) (more (node k m v ks) ts) ≡ more (node k m v (changed more change (suc n) ks)) ts = changed-inside more change k m v ks ts (suc n) h in
    changed-inside join_front change k m v ks ts (suc n) h ∙ ap (λ us. more (node k m v us) ts) (e l.1)
    ∙ sym (changed-inside more joined_first k m v (changed more change (suc n) ks) ts n (omega (arith, before-stays change (suc n) ks h))) ∙ ap (joined_at (suc n)) (sym there)

meets-later : (change : Trees → Trees) (k : Kind) (m v : List ℕ) (ks ts : Trees) (d : ℕ) → d < node_count_all ts → MeetsBefore change d ts → MeetsBefore change (suc (node_count_all ks + d)) (more (node k m v ks) ts)
meets-later change k m v ks ts zero h e l =
    let z : node_count_all ks ≡ node_count_all ks + 0 = omega arith in
    changed-later join_front change k m v ks ts 0 ∙ joined-before k m v ks (change ts) l.0 l.1 ∙ ap (λ (i : ℕ). joined_at i (more (node k m v ks) (change ts))) z
    ∙ ap (joined_at (node_count_all ks + 0)) (sym (more-later change k m v ks ts 0))
meets-later change k m v ks ts (suc d) h e l =
    let z : node_count_all ks + suc d ≡ suc (node_count_all ks + d) = omega arith in
    changed-later join_front change k m v ks ts (suc d) ∙ ap (more (node k m v ks)) (e l.2) ∙ sym (more-later joined_first k m v ks (changed more change (suc d) ts) d)
    ∙ ap (λ (i : ℕ). joined_at i (more (node k m v ks) (changed more change (suc d) ts))) (sym z) ∙ ap (joined_at (node_count_all ks + suc d)) (sym (more-later change k m v ks ts (suc d)))

pub meets-before : (change : Trees → Trees) (n : ℕ) (ts : Trees) → suc n < node_count_all ts → HaveLeafTexts ts → changed join_front change (suc n) ts ≡ joined_at n (changed more change (suc n) ts)
meets-before change n ts h = each-node (MeetsBefore change) (λ t ts. tt) (meets-inside change) (meets-later change) (suc n) ts h

-- the last of some trees meets those behind it
pub meets-behind : (ss us : Trees) (c : ℕ) → HaveLeafTexts ss → suc c ≡ node_count_all ss → chained join_front ss us ≡ joined_at c (chained more ss us)
meets-behind none us c l e = absurd (omega arith)
meets-behind (more (node k m v ks) none) us c l e =
    let z : node_count_all ks ≡ c = omega arith in
    joined-before k m v ks us l.0 l.1 ∙ ap (λ (i : ℕ). joined_at i (more (node k m v ks) us)) z
meets-behind (more (node k m v ks) (more (node k' m' v' ks') ss)) us c l e =
    let d : ℕ = node_count_all (more (node k' m' v' ks') ss) - 1 in
    let z : suc (node_count_all ks + d) ≡ c = omega arith in
    ap (more (node k m v ks)) (meets-behind (more (node k' m' v' ks') ss) us d l.2 (omega arith)) ∙ sym (more-later joined_first k m v ks (chained more (more (node k' m' v' ks') ss) us) d)
    ∙ ap (λ (i : ℕ). joined_at i (more (node k m v ks) (chained more (more (node k' m' v' ks') ss) us))) z

-- By an insertion the sibling before node n meets the first that comes, and the last that comes meets node n.
pub insert-meets : (F : Trees) (c i : ℕ) (ts : Trees) → suc c ≡ node_count_all F → suc i < node_count_all ts → HaveLeafTexts F → HaveLeafTexts ts
    → changed join_front (chained join_front F) (suc i) ts ≡ joined_at i (joined_at (suc i + c) (changed more (chained more F) (suc i) ts))
insert-meets F c i ts size low leaf-F leaf-ts =
    let us : Trees = from_node (suc i) ts in
    meets-before (chained join_front F) i ts low leaf-ts
    ∙ ap (joined_at i)
    (changed-alike (chained join_front F) (λ vs. joined_at c (chained more F vs)) (suc i) ts low (meets-behind F us c leaf-F size)
    ∙ sym (changed-within (chained more F) joined_first (suc i) ts low c (omega (arith, count-chained F us))))

-- by a copy the sibling before node n meets the copy, and the copy meets node n
pub copy-meets : (k : Kind) (m v : List ℕ) (ks us : Trees) (i : ℕ) (ts : Trees) → suc i < node_count_all ts → from_node (suc i) ts ≡ more (node k m v ks) us → (k ≡ Text → ks ≡ none) → HaveLeafTexts ks → HaveLeafTexts ts
    → changed join_front (λ vs. chained join_front (alone vs) vs) (suc i) ts ≡ joined_at i (joined_at (suc i + node_count_all ks) (changed more (λ vs. chained more (alone vs) vs) (suc i) ts))
copy-meets k m v ks us i ts low here leaf leaf-ks leaf-ts =
    let c : ℕ = node_count_all ks in
    let f : Trees → Trees = λ vs. chained join_front (alone vs) vs in
    let g : Trees → Trees = λ vs. chained more (alone vs) vs in
    let t : Tree = node k m v ks in
    meets-before f i ts low leaf-ts
    ∙ ap (joined_at i)
    (changed-alike f (λ vs. joined_at c (g vs)) (suc i) ts low (ap f here ∙ joined-before k m v ks (more t us) leaf leaf-ks ∙ sym (ap (λ vs. joined_at c (g vs)) here))
    ∙ sym (changed-within g joined_first (suc i) ts low c (rw here (omega arith))))

-- by an appending the former last kid meets the first that comes
pub append-meets : (F : Trees) (k : Kind) (m v : List ℕ) (ks us : Trees) (n : ℕ) (ts : Trees) → n < node_count_all ts → from_node n ts ≡ more (node k m v ks) us → (k ≡ Text → ⊥) → HaveLeafTexts ks
    → changed more (with_first (with_kids (λ kids. chained join_front kids F))) n ts ≡ joined_at (n + node_count_all ks) (changed more (with_first (with_kids (λ kids. chained more kids F))) n ts)
append-meets F k m v ks us n ts low here other leaf =
    let f : Trees → Trees = with_first (with_kids (λ kids. chained join_front kids F)) in
    let g : Trees → Trees = with_first (with_kids (λ kids. chained more kids F)) in
    let c : ℕ = node_count_all ks in
    changed-alike f (λ vs. joined_at c (g vs)) n ts low (ap f here ∙ at-last ks leaf ∙ sym (ap (λ vs. joined_at c (g vs)) here))
    ∙ sym (changed-within g joined_first n ts low c (rw here (omega (arith, count-chained ks F))))
  where
    at-last : (ks : Trees) → HaveLeafTexts ks → more (node k m v (chained join_front ks F)) us ≡ joined_at (node_count_all ks) (more (node k m v (chained more ks F)) us)
    at-last none l = sym (join-other k m v F us other)
    at-last (more (node j n w ls) ss) l =
        let ks : Trees = more (node j n w ls) ss in
        let c : ℕ = node_count_all ks - 1 in
        let z : node_count_all ks ≡ suc c = omega arith in
        ap (λ xs. more (node k m v xs) us) (meets-behind ks F c l (sym z)) ∙ sym (changed-inside more joined_first k m v (chained more ks F) us c (omega (arith, count-chained ks F)))
        ∙ ap (λ (i : ℕ). joined_at i (more (node k m v (chained more ks F)) us)) (sym z)

pub leaf-from : (n : ℕ) (ts : Trees) → n < node_count_all ts → HaveLeafTexts ts → HaveLeafTexts (from_node n ts)
leaf-from = each-node (λ n ts. HaveLeafTexts ts → HaveLeafTexts (from_node n ts)) (λ t ts l. l) (λ k m v ks ts n h e l. rw (from-inside k m v ks ts n h) (e l.1)) (λ k m v ks ts d h e l. rw (from-later k m v ks ts d) (e l.2))
