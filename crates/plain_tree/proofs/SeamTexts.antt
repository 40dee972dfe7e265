-- Edits by which texts meet, as edits one after another by which none do.
use Rattle.std.proofs.Common.{◌≡◌, ℕ, zero, suc, ◌+◌, ◌<◌, List, [], ◌++◌, Bool, false, refl, ap, sym, ◌∙◌, subst, arith, append-nil}
use Rattle.std.proofs.Math.Bool.{true≢false}
use Rattle.plain_tree.specs.declared.kind.Kind.{Kind}
use Rattle.plain_tree.specs.declared.kind.Kind.TheVariants.{Document, Element, Attribute, Text, Comment, Instruction}
use Rattle.plain_tree.specs.Joined.{join_front}
use Rattle.plain_tree.specs.Tree.{Tree, node, Trees, none, more, node_count, node_count_all}
use Rattle.plain_tree.specs.Edits.{changed, chained, with_first, with_value}
use Rattle.plain_tree.proofs.Changing.{each-node, changed-inside, changed-later, more-later, from_node, from-inside, from-later, changed-alike, changed-within, changed-deeper, before-stays, from-deeper, from-changed, chained-more}
pub use Rattle.plain_tree.specs.Siblings.{begins_text, text_before}
use Rattle.plain_tree.proofs.Seams.{HaveLeafTexts, join-other}

abbrev pub text : List ℕ → Tree
text v = node Text [] v none

pub join-apart : (t : Tree) (ts : Trees) → begins_text ts ≡ false → join_front t ts ≡ more t ts
join-apart (node Document m v ks) ts e = refl
join-apart (node Element m v ks) ts e = refl
join-apart (node Attribute m v ks) ts e = refl
join-apart (node Comment m v ks) ts e = refl
join-apart (node Instruction m v ks) ts e = refl
join-apart (node Text m v ks) none e = ap (λ w. more (node Text m w ks) none) (append-nil v)
join-apart (node Text m v ks) (more (node Text n w ls) ts) e = absurd (true≢false e)
join-apart (node Text m v ks) (more (node Document n w ls) ts) e = ap (λ x. more (node Text m x ks) (more (node Document n w ls) ts)) (append-nil v)
join-apart (node Text m v ks) (more (node Element n w ls) ts) e = ap (λ x. more (node Text m x ks) (more (node Element n w ls) ts)) (append-nil v)
join-apart (node Text m v ks) (more (node Attribute n w ls) ts) e = ap (λ x. more (node Text m x ks) (more (node Attribute n w ls) ts)) (append-nil v)
join-apart (node Text m v ks) (more (node Comment n w ls) ts) e = ap (λ x. more (node Text m x ks) (more (node Comment n w ls) ts)) (append-nil v)
join-apart (node Text m v ks) (more (node Instruction n w ls) ts) e = ap (λ x. more (node Text m x ks) (more (node Instruction n w ls) ts)) (append-nil v)

no-text : (k : Kind) (m v : List ℕ) (ks : Trees) (s : Tree) (ts : Trees) → text_before (more (node k m v ks) (more s ts)) ≡ false → k ≡ Text → ⊥
no-text Text m v ks s ts e f = absurd (true≢false e)
no-text Document m v ks s ts e f = cc
no-text Element m v ks s ts e f = cc
no-text Attribute m v ks s ts e f = cc
no-text Comment m v ks s ts e f = cc
no-text Instruction m v ks s ts e f = cc

-- where no text stands just before node n, nothing meets what comes to its place
abbrev pub MeetsNothing : (Trees → Trees) → ℕ → Trees → Type 0
MeetsNothing f zero ts = Unit {0}
MeetsNothing f (suc n) ts = HaveLeafTexts ts → text_before (from_node n ts) ≡ false → changed join_front f (suc n) ts ≡ changed more f (suc n) ts

nothing-inside : (f : Trees → Trees) (k : Kind) (m v : List ℕ) (ks ts : Trees) (n : ℕ) → n < node_count_all ks → MeetsNothing f n ks → MeetsNothing f (suc n) (more (node k m v ks) ts)
nothing-inside f k m v ks ts zero h e l b = changed-inside join_front f k m v ks ts 0 h ∙ sym (changed-inside more f k m v ks ts 0 h)
nothing-inside f k m v ks ts (suc n) h e l b =
    changed-inside join_front f k m v ks ts (suc n) h ∙ ap (λ us. more (node k m v us) ts) (e l.1 (subst (λ us. text_before us ≡ false) (from-inside k m v ks ts n (omega arith)) b))
    ∙ sym (changed-inside more f k m v ks ts (suc n) h)

nothing-later : (f : Trees → Trees) (k : Kind) (m v : List ℕ) (ks ts : Trees) (d : ℕ) → d < node_count_all ts → MeetsNothing f d ts → MeetsNothing f (suc (node_count_all ks + d)) (more (node k m v ks) ts)
nothing-later f k m v ks none zero h e l b = absurd (omega arith)
nothing-later f k m v none (more s ts) zero h e l b =
    changed-later join_front f k m v none (more s ts) 0 ∙ join-other k m v none (f (more s ts)) (no-text k m v none s ts b) ∙ sym (more-later f k m v none (more s ts) 0)
nothing-later f k m v (more (node k' m' v' ks') us) (more s ts) zero h e l b =
    let ks : Trees = more (node k' m' v' ks') us in
    changed-later join_front f k m v ks (more s ts) 0
    ∙ join-other k m v ks (f (more s ts)) (λ t. let z : node_count_all ks ≡ 0 = ap node_count_all (l.0 t) in absurd (omega arith)) ∙ sym (more-later f k m v ks (more s ts) 0)
nothing-later f k m v ks ts (suc d) h e l b =
    let z : node_count_all ks + suc d ≡ suc (node_count_all ks + d) = omega arith in
    let there : from_node (node_count_all ks + suc d) (more (node k m v ks) ts) ≡ from_node d ts = ap (λ (i : ℕ). from_node i (more (node k m v ks) ts)) z ∙ from-later k m v ks ts d in
    changed-later join_front f k m v ks ts (suc d) ∙ ap (more (node k m v ks)) (e l.2 (subst (λ us. text_before us ≡ false) there b)) ∙ sym (more-later f k m v ks ts (suc d))

pub meets-nothing : (f : Trees → Trees) (n : ℕ) (ts : Trees) → suc n < node_count_all ts → HaveLeafTexts ts → text_before (from_node n ts) ≡ false → changed join_front f (suc n) ts ≡ changed more f (suc n) ts
meets-nothing f n ts h = each-node (MeetsNothing f) (λ t ts. tt) (nothing-inside f) (nothing-later f) (suc n) ts h

-- the text x stands just before node n, which is t
module _ (a : ℕ) (ts : Trees) (x : List ℕ) (t : Tree) (us : Trees) (here : from_node a ts ≡ more (text x) (more t us)) (low : a < node_count_all ts) where
  some-behind : 1 < node_count_all (from_node a ts)
  some-behind = rw here (omega (arith, some-one t))
    where
      some-one : (s : Tree) → 0 < node_count s
      some-one (node k m v ks) = omega arith

  -- what comes to the place of node n and of those behind it meets the text
  pub text-meets : (f : Trees → Trees) → changed join_front f (suc a) ts ≡ changed more (λ _. join_front (text x) (f (more t us))) a ts
  text-meets f =
      let z : a + 1 ≡ suc a = omega arith in
      ap (λ (i : ℕ). changed join_front f i ts) (sym z) ∙ changed-deeper join_front f a ts low 0 some-behind
      ∙ changed-alike (changed join_front f 1) (λ _. join_front (text x) (f (more t us))) a ts low (ap (changed join_front f 1) here)

  -- the text has another value, and then there is a change from node n on
  pub valued-then : (w : List ℕ) (f : Trees → Trees) → changed more f (suc a) (changed more (with_first (with_value w)) a ts) ≡ changed more (λ _. more (text w) (f (more t us))) a ts
  valued-then w f =
      let z : a + 1 ≡ suc a = omega arith in
      let valued : with_first (with_value w) (from_node a ts) ≡ more (text w) (more t us) = ap (with_first (with_value w)) here in
      let some : 1 < node_count_all (with_first (with_value w) (from_node a ts)) = rw valued (let n = subst (λ vs. 1 < node_count_all vs) here some-behind in omega (arith, n)) in
      ap (λ (i : ℕ). changed more f i (changed more (with_first (with_value w)) a ts)) (sym z) ∙ changed-within (with_first (with_value w)) f a ts low 1 some
      ∙ changed-alike (λ vs. changed more f 1 (with_first (with_value w) vs)) (λ _. more (text w) (f (more t us))) a ts low (ap (changed more f 1) valued)

  pub valued-alone : (w : List ℕ) → changed more (with_first (with_value w)) a ts ≡ changed more (λ _. more (text w) (more t us)) a ts
  valued-alone w = changed-alike (with_first (with_value w)) (λ _. more (text w) (more t us)) a ts low (ap (with_first (with_value w)) here)

  -- nothing joins the text where something else comes to its side
  pub text-apart : (f : Trees → Trees) → begins_text (f (more t us)) ≡ false → changed join_front f (suc a) ts ≡ changed more f (suc a) ts
  text-apart f e =
      let z : a + 1 ≡ suc a = omega arith in
      text-meets f ∙ ap (λ vs. changed more (λ _. vs) a ts) (join-apart (text x) (f (more t us)) e)
      ∙ sym (changed-alike (changed more f 1) (λ _. more (text x) (f (more t us))) a ts low (ap (changed more f 1) here)) ∙ sym (changed-deeper more f a ts low 0 some-behind)
      ∙ ap (λ (i : ℕ). changed more f i ts) z

  -- where the text was given a value, node n stands as before
  pub valued-from : (w : List ℕ) → from_node (suc a) (changed more (with_first (with_value w)) a ts) ≡ more t us
  valued-from w =
      let V : Trees = changed more (with_first (with_value w)) a ts in
      let z : a + 1 ≡ suc a = omega arith in
      let n : 1 < node_count_all (more (text x) (more t us)) = subst (λ vs. 1 < node_count_all vs) here some-behind in
      let valued : with_first (with_value w) (from_node a ts) ≡ more (text w) (more t us) = ap (with_first (with_value w)) here in
      let some : 0 < node_count_all (with_first (with_value w) (from_node a ts)) = rw valued (omega (arith, n)) in
      let there : from_node a V ≡ more (text w) (more t us) = from-changed (with_first (with_value w)) a ts low some ∙ valued in
      let in-V : a < node_count_all V = let b = before-stays (with_first (with_value w)) a ts low in omega (arith, b, some) in
      ap (λ (i : ℕ). from_node i V) (sym z) ∙ from-deeper a V in-V 0 (rw there (omega (arith, n))) ∙ ap (from_node 1) there

-- trees that are put together, where texts meet and where none do
abbrev pub ends_text : Trees → Bool
ends_text none = false
ends_text (more t none) = begins_text (more t none)
ends_text (more t (more s ts)) = ends_text (more s ts)

pub begins-joined : (t : Tree) (us : Trees) → begins_text (join_front t us) ≡ begins_text (more t none)
begins-joined (node Text m v ks) us = refl
begins-joined (node Document m v ks) us = refl
begins-joined (node Element m v ks) us = refl
begins-joined (node Attribute m v ks) us = refl
begins-joined (node Comment m v ks) us = refl
begins-joined (node Instruction m v ks) us = refl

pub begins-first : (t : Tree) (us vs : Trees) → begins_text (more t us) ≡ begins_text (more t vs)
begins-first (node Text m v ks) us vs = refl
begins-first (node Document m v ks) us vs = refl
begins-first (node Element m v ks) us vs = refl
begins-first (node Attribute m v ks) us vs = refl
begins-first (node Comment m v ks) us vs = refl
begins-first (node Instruction m v ks) us vs = refl

-- what is put together begins as its first trees do
pub begins-chained : (t : Tree) (ss us : Trees) → begins_text (chained join_front (more t ss) us) ≡ begins_text (more t ss)
begins-chained t none us = begins-joined t us
begins-chained t (more s ss) us = begins-first t (chained join_front (more s ss) us) (more s ss)

pub not-begins : (t : Tree) (us : Trees) → begins_text (more t none) ≡ false → join_front t us ≡ more t us
not-begins (node Text m v ks) us e = absurd (true≢false e)
not-begins (node Document m v ks) us e = refl
not-begins (node Element m v ks) us e = refl
not-begins (node Attribute m v ks) us e = refl
not-begins (node Comment m v ks) us e = refl
not-begins (node Instruction m v ks) us e = refl

-- nothing meets behind trees of which the last is no text
pub chained-apart : (ss us : Trees) → ends_text ss ≡ false → chained join_front ss us ≡ chained more ss us
chained-apart none us e = refl
chained-apart (more t none) us e = not-begins t us e
chained-apart (more t (more s ss)) us e = ap (more t) (chained-apart (more s ss) us e)

-- nor before trees of which the first is none
pub chained-aside : (ss us : Trees) → begins_text us ≡ false → chained join_front ss us ≡ chained more ss us
chained-aside none us e = refl
chained-aside (more t none) us e = join-apart t us e
chained-aside (more t (more s ss)) us e = ap (more t) (chained-aside (more s ss) us e)

-- two texts that meet
pub chained-meet : (ss us : Trees) (y z : List ℕ) → chained join_front (chained more ss (more (text y) none)) (more (text z) us) ≡ chained more ss (more (text (y ++ z)) us)
chained-meet none us y z = refl
chained-meet (more t none) us y z = refl
chained-meet (more t (more s ss)) us y z =
    ap (λ xs. chained join_front (more t xs) (more (text z) us)) (chained-more s ss (more (text y) none))
    ∙ ap (λ xs. more t (chained join_front xs (more (text z) us))) (sym (chained-more s ss (more (text y) none)))
    ∙ ap (more t) (chained-meet (more s ss) us y z)
