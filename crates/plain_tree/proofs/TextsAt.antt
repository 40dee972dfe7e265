-- Texts at the ends of lists of siblings.
use Rattle.std.proofs.Common.{◌≡◌, ◌≢◌, ℕ, suc, ◌+◌, ◌<◌, List, [], ◌∷◌, Bool, true, false, refl, ap, sym, ◌∙◌, subst, arith, Some, None}
use Rattle.std.specs.Prelude.{if◌then◌else◌}
use Rattle.std.proofs.Math.Bool.{true≢false}
use Rattle.plain_tree.specs.declared.kind.Kind.TheVariants.{Document, Element, Attribute, Text, Comment, Instruction}
use Rattle.plain_tree.specs.InTurn.{first_text, last_text, all_but_last}
use Rattle.plain_tree.specs.Edits.{chained}
use Rattle.plain_tree.specs.Lawful.{AreChars, IsLawfulTree, AreLawfulTrees}
use Rattle.plain_tree.specs.Siblings.{from_node, begins_text, text_before}
use Rattle.plain_tree.specs.Tree.{Tree, node, Trees, none, more, trees, node_count_all}
use Rattle.plain_tree.proofs.Changing.{each-node, from-inside, from-later, chained-more}
use Rattle.plain_tree.proofs.SeamTexts.{text, ends_text}

text-is : (m v : List ℕ) (ks : Trees) → IsLawfulTree (node Text m v ks) → node Text m v ks ≡ text v
text-is m v ks l = ap (λ x. node Text x v ks) l.0.0 ∙ ap (λ xs. node Text [] v xs) l.1

pub lawful-from : (n : ℕ) (ts : Trees) → n < node_count_all ts → AreLawfulTrees ts → AreLawfulTrees (from_node n ts)
lawful-from = each-node (λ n ts. AreLawfulTrees ts → AreLawfulTrees (from_node n ts)) (λ t ts l. l)
    (λ k m v ks ts n h e l. subst AreLawfulTrees (sym (from-inside k m v ks ts n h)) (e l.0.2))
    (λ k m v ks ts d h e l. subst AreLawfulTrees (sym (from-later k m v ks ts d)) (e l.1))

-- a text that is the first of some trees
pub record FirstText (us : Trees) (v : List ℕ) : Type 0 where
  pub behind : Trees
  pub is : us ≡ more (text v) behind
  pub chars : AreChars v
  pub some : v ≢ []

pub first-text-is : (us : Trees) (v : List ℕ) → AreLawfulTrees us → first_text us ≡ Some v → FirstText us v
first-text-is none v l e = absurd cc
first-text-is (more (node Text m w ks) us) v l e =
    let same : w ≡ v = cc in
    record {
      behind = us;
      is = ap (λ t. more t us) (text-is m w ks l.0) ∙ ap (λ x. more (text x) us) same;
      chars = subst AreChars same l.0.0.1.0;
      some = subst (λ x. x ≢ []) same l.0.0.1.1;
    }
first-text-is (more (node Document m w ks) us) v l e = absurd cc
first-text-is (more (node Element m w ks) us) v l e = absurd cc
first-text-is (more (node Attribute m w ks) us) v l e = absurd cc
first-text-is (more (node Comment m w ks) us) v l e = absurd cc
first-text-is (more (node Instruction m w ks) us) v l e = absurd cc

pub no-first-text : (us : Trees) → first_text us ≡ None → begins_text us ≡ false
no-first-text none e = refl
no-first-text (more (node Text m w ks) us) e = absurd cc
no-first-text (more (node Document m w ks) us) e = refl
no-first-text (more (node Element m w ks) us) e = refl
no-first-text (more (node Attribute m w ks) us) e = refl
no-first-text (more (node Comment m w ks) us) e = refl
no-first-text (more (node Instruction m w ks) us) e = refl

-- a text that is the first of some trees, with others behind it
pub record TextBefore (us : Trees) (v : List ℕ) : Type 0 where
  pub next : Tree
  pub behind : Trees
  pub is : us ≡ more (text v) (more next behind)
  pub chars : AreChars v
  pub some : v ≢ []

text-before-is : (us : Trees) (v : List ℕ) → AreLawfulTrees us → text_before us ≡ true → first_text us ≡ Some v → TextBefore us v
text-before-is none v l b e = absurd cc
text-before-is (more (node Text m w ks) none) v l b e = absurd (true≢false (sym b))
text-before-is (more (node Text m w ks) (more s us)) v l b e =
    let f = first-text-is (more (node Text m w ks) (more s us)) v l e in
    let rest : more s us ≡ f.behind = let g = f.is in cc in
    record { next = s; behind = us; is = f.is ∙ ap (more (text v)) (sym rest); chars = f.chars; some = f.some }
text-before-is (more (node Document m w ks) us) v l b e = absurd cc
text-before-is (more (node Element m w ks) us) v l b e = absurd cc
text-before-is (more (node Attribute m w ks) us) v l b e = absurd cc
text-before-is (more (node Comment m w ks) us) v l b e = absurd cc
text-before-is (more (node Instruction m w ks) us) v l b e = absurd cc

text-is-first : (us : Trees) → text_before us ≡ true → first_text us ≡ None → ⊥
text-is-first none b e = absurd (true≢false (sym b))
text-is-first (more (node Text m w ks) us) b e = absurd cc
text-is-first (more (node Document m w ks) us) b e = absurd (true≢false (sym b))
text-is-first (more (node Element m w ks) us) b e = absurd (true≢false (sym b))
text-is-first (more (node Attribute m w ks) us) b e = absurd (true≢false (sym b))
text-is-first (more (node Comment m w ks) us) b e = absurd (true≢false (sym b))
text-is-first (more (node Instruction m w ks) us) b e = absurd (true≢false (sym b))

-- by what is told of the text before a node
pub some-before : (us : Trees) (v : List ℕ) → AreLawfulTrees us → (if text_before us then (first_text us) else None) ≡ Some v → TextBefore us v
some-before us v l = by (text_before us) refl
  where
    by : (b : Bool) → text_before us ≡ b → (if b then (first_text us) else None) ≡ Some v → TextBefore us v
    by true b e = text-before-is us v l b e
    by false b e = absurd cc

pub none-before : (us : Trees) → (if text_before us then (first_text us) else None) ≡ None → text_before us ≡ false
none-before us = by (text_before us) refl
  where
    by : (b : Bool) → text_before us ≡ b → (if b then (first_text us) else None) ≡ None → text_before us ≡ false
    by true b e = absurd (text-is-first us b e)
    by false b e = b

-- a text that is the last of some trees
pub record LastText (us : Trees) (v : List ℕ) : Type 0 where
  pub front : Trees
  pub is : us ≡ chained more front (more (text v) none)
  pub chars : AreChars v
  pub some : v ≢ []

pub last-text-is : (us : Trees) (v : List ℕ) → AreLawfulTrees us → last_text us ≡ Some v → LastText us v
last-text-is none v l e = absurd cc
last-text-is (more t none) v l e =
    let f = first-text-is (more t none) v l e in
    let same : t ≡ text v = let g = f.is in cc in
    record { front = none; is = ap (λ s. more s none) same; chars = f.chars; some = f.some }
last-text-is (more t (more s us)) v l e =
    let r = last-text-is (more s us) v l.1 e in
    record { front = more t r.front; is = ap (more t) r.is ∙ sym (chained-more t r.front (more (text v) none)); chars = r.chars; some = r.some }

pub no-last-text : (us : Trees) → last_text us ≡ None → ends_text us ≡ false
no-last-text none e = refl
no-last-text (more t none) e = no-first-text (more t none) e
no-last-text (more t (more s us)) e = no-last-text (more s us) e

pub all-but-last-is : (ts : List Tree) (v : List ℕ) → AreLawfulTrees (trees ts) → last_text (trees ts) ≡ Some v → trees ts ≡ chained more (trees (all_but_last ts)) (more (text v) none)
all-but-last-is [] v l e = absurd cc
all-but-last-is (t ∷ []) v l e =
    let f = first-text-is (more t none) v l e in
    let same : t ≡ text v = let g = f.is in cc in
    ap (λ s. more s none) same
all-but-last-is (t ∷ s ∷ ts) v l e = ap (more t) (all-but-last-is (s ∷ ts) v l.1 e) ∙ sym (chained-more t (trees (all_but_last (s ∷ ts))) (more (text v) none))

-- the end of trees that are put together
pub from-end : (ss us : Trees) → from_node (node_count_all ss) (chained more ss us) ≡ us
from-end none us = refl
from-end (more (node k m v ks) ss) us =
    let i : node_count_all (more (node k m v ks) ss) ≡ suc (node_count_all ks + node_count_all ss) = omega arith in
    ap (from_node (node_count_all (more (node k m v ks) ss))) (chained-more (node k m v ks) ss us) ∙ ap (λ (j : ℕ). from_node j (more (node k m v ks) (chained more ss us))) i
    ∙ from-later k m v ks (chained more ss us) (node_count_all ss) ∙ from-end ss us
