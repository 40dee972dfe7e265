-- Texts that meet, by what calls tell.
use Rattle.std.proofs.Common.{◌≡◌, ℕ, zero, suc, ◌-◌, ◌<◌, Bool, true, false, List, [], ◌∷◌, length, refl, ap, sym, ◌∙◌, arith, Option, Some, None}
use Rattle.std.specs.Prelude.{◌&&◌, if◌then◌else◌, is_some, option_map, slice_get}
use Rattle.plain_tree.specs.declared.kind.Kind.{Kind}
use Rattle.plain_tree.specs.declared.kind.Kind.TheVariants.{Document, Element, Attribute, Text, Comment, Instruction}
use Rattle.plain_tree.specs.InTurn.{first_text, last_text, text_before_node}
use Rattle.plain_tree.specs.Lawful.{IsDocument}
use Rattle.plain_tree.specs.Numbers.{kind_of}
use Rattle.plain_tree.specs.Siblings.{from_node, text_before}
use Rattle.plain_tree.specs.Tree.{Tree, node, Trees, none, more, trees, node_count}
use Rattle.preorder_address.specs.TreeNumbers.{kind_at}
use Rattle.tree_updates.specs.CallAnswers.{is_text}
use Rattle.tree_updates.specs.Joinings.{back_value, front_value, joined_value}
use Rattle.tree_updates.proofs.Numbers.{at, in-tree}

one-kind : (s : Tree) (us : Trees) → is_text (Some (kind_of s)) ≡ is_some (first_text (more s us))
one-kind (node Document m v ks) us = refl
one-kind (node Element m v ks) us = refl
one-kind (node Attribute m v ks) us = refl
one-kind (node Text m v ks) us = refl
one-kind (node Comment m v ks) us = refl
one-kind (node Instruction m v ks) us = refl

first-kind : (F : List Tree) → is_text (option_map kind_of (slice_get F 0)) ≡ is_some (first_text (trees F))
first-kind [] = refl
first-kind (s ∷ F) = one-kind s (trees F)

last-kind : (F : List Tree) → is_text (option_map kind_of (slice_get F (length F - 1))) ≡ is_some (last_text (trees F))
last-kind [] = refl
last-kind (s ∷ []) = one-kind s none
last-kind (s ∷ r ∷ F) =
    let z : length (s ∷ r ∷ F) - 1 ≡ suc (length (r ∷ F) - 1) = omega arith in
    ap (λ (k : ℕ). is_text (option_map kind_of (slice_get (s ∷ r ∷ F) k))) z ∙ last-kind (r ∷ F)

before-some : (us : Trees) → text_before us ≡ is_some (if text_before us then (first_text us) else None)
before-some none = refl
before-some (more (node Document m v ks) us) = refl
before-some (more (node Element m v ks) us) = refl
before-some (more (node Attribute m v ks) us) = refl
before-some (more (node Comment m v ks) us) = refl
before-some (more (node Instruction m v ks) us) = refl
before-some (more (node Text m v ks) none) = refl
before-some (more (node Text m v ks) (more s us)) = refl

before-there : (n : ℕ) (ts : Trees) → 0 < n → text_before (from_node (n - 1) ts) ≡ is_some (text_before_node n ts)
before-there zero ts h = absurd (omega (arith, h))
before-there (suc a) ts h = let z : suc a - 1 ≡ a = omega arith in ap (λ (i : ℕ). text_before (from_node i ts)) z ∙ before-some (from_node a ts)

joined-some : (o p : Option (List ℕ)) → is_some (joined_value o p) ≡ is_some o && is_some p
joined-some None p = refl
joined-some (Some x) None = refl
joined-some (Some x) (Some y) = refl

and-false : (b : Bool) → (b && false) ≡ false
and-false true = refl
and-false false = refl

and-true : (b : Bool) → (b && true) ≡ b
and-true true = refl
and-true false = refl

module _ (t : Tree) (d : IsDocument t) (n : ℕ) (low : n < node_count t) (F : List Tree) where
  here-kind : is_text (kind_at t n) ≡ is_some (first_text (from_node n (more t none)))
  here-kind =
      let A = at t d.lawful n low in
      ap (λ o. is_text (option_map kind_of o)) (in-tree t d.lawful n low) ∙ one-kind A.here A.behind ∙ ap (λ us. is_some (first_text us)) (sym A.from_is)

  -- the fragment begins with no text
  pub no-front : (k : Option Kind) → k ≡ option_map kind_of (slice_get F 0) → is_text k ≡ false → false ≡ is_some (front_value t n F)
  no-front k e f =
      let none-first : is_some (first_text (trees F)) ≡ false = sym (first-kind F) ∙ ap is_text (sym e) ∙ f in
      sym (joined-some (text_before_node n (more t none)) (first_text (trees F)) ∙ ap (λ (b : Bool). is_some (text_before_node n (more t none)) && b) none-first ∙ and-false (is_some (text_before_node n (more t none))))

  pub front-found : 0 < n → (before : Bool) (k : Option Kind) → k ≡ option_map kind_of (slice_get F 0) → is_text k ≡ true → before ≡ text_before (from_node (n - 1) (more t none)) → before ≡ is_some (front_value t n F)
  front-found some before k e f b =
      let first : is_some (first_text (trees F)) ≡ true = sym (first-kind F) ∙ ap is_text (sym e) ∙ f in
      b ∙ before-there n (more t none) some ∙ sym (and-true (is_some (text_before_node n (more t none)))) ∙ ap (λ (x : Bool). is_some (text_before_node n (more t none)) && x) (sym first)
      ∙ sym (joined-some (text_before_node n (more t none)) (first_text (trees F)))

  pub back-found : (last here : Bool) (k m : Option Kind) (place : ℕ) → place ≡ length F - 1 → last ≡ is_text k → k ≡ option_map kind_of (slice_get F place) → here ≡ is_text m → m ≡ kind_at t n → (r : Bool) → r ≡ last && here → r ≡ is_some (back_value t n F)
  back-found last here k m place z l e h f r is =
      is ∙ ap (λ (x : Bool). x && here) (l ∙ ap is_text e ∙ ap (λ (i : ℕ). is_text (option_map kind_of (slice_get F i))) z ∙ last-kind F)
      ∙ ap (λ (x : Bool). is_some (last_text (trees F)) && x) (h ∙ ap is_text f ∙ here-kind)
      ∙ sym (joined-some (last_text (trees F)) (first_text (from_node n (more t none))))
