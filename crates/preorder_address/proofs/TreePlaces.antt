-- The node at a number of a tree's code, and what stands before it and behind it there.
use Rattle.std.proofs.Common.{◌≡◌, ℕ, zero, suc, ◌+◌, ◌*◌, List, [], ◌∷◌, ◌++◌, length, take, drop, refl, ap, sym, ◌∙◌, arith, Some, sum_by, ◌⊎◌, inl, inr, subst, append_assoc, length-append}
use Rattle.std.specs.Prelude.{slice_get}
use Rattle.std.proofs.lemmas.List.Sums.{sum_by-cons, sum_by-append}
use Rattle.plain_tree.specs.declared.kind.Kind.{Kind}
use Rattle.plain_tree.specs.declared.kind.Kind.TheVariants.{Document, Element, Attribute, Text, Comment, Instruction}
use Rattle.plain_tree.specs.Tree.{Tree, node, Trees, none, more, node_count_all}
use Rattle.plain_tree.specs.Numbers.{nodes_all, values_of, texts_all}
use Rattle.plain_tree.proofs.NodeCounts.{length-nodes_all}
use Rattle.rule_arena.specs.declared.label.Label.{Label}
use Rattle.rule_arena.specs.declared.label.Label.TheVariants.{Bottom, Symbol}
use Rattle.slt_grammar.specs.Coding.{Codes}
use Rattle.slt_grammar.specs.Segments.{listed}
use Rattle.slt_grammar.specs.Terms.{Term, Leaf, Node, Hole}
use Rattle.slt_grammar.proofs.Standing.{values_of-append, texts_all-more, own}
use Rattle.segment_counts.specs.Weights.{node_weight, text_weight, all_weight, valued}
use Rattle.segment_counts.proofs.Coded.{nodes-coded}
use Rattle.preorder_address.specs.TreeNumbers.{placed, siblings_behind}

listed-before : (t : Term) (j k : List Label) → listed t j ++ k ≡ listed t (j ++ k)
listed-before Leaf j k = refl
listed-before (Hole i) j k = refl
listed-before (Node f a b) j k = ap (λ ls. Symbol f ∷ ls) (listed-before a (listed b j) k ∙ ap (listed a) (listed-before b j k))

-- what is listed before other labels
pub listed-append : (t : Term) (k : List Label) → listed t k ≡ listed t [] ++ k
listed-append t k = sym (listed-before t [] k)

pub weight-listed : (w : Label → ℕ) (t : Term) (k : List Label) → sum_by w (listed t k) ≡ sum_by w (listed t []) + sum_by w k
weight-listed w t k = ap (sum_by w) (listed-append t k) ∙ sum_by-append w (listed t []) k

pub get-right : {X : Type 0} (xs ys : List X) (n i : ℕ) → n ≡ length xs → slice_get (xs ++ ys) (n + i) ≡ slice_get ys i
get-right [] ys n i e = let z : n + i ≡ i = omega arith in ap (slice_get ys) z
get-right (x ∷ xs) ys zero i e = absurd (omega arith)
get-right (x ∷ xs) ys (suc n) i e = let z : suc n + i ≡ suc (n + i) = omega arith in ap (slice_get (x ∷ (xs ++ ys))) z ∙ get-right xs ys n i (omega arith)

take-right : {X : Type 0} (xs ys : List X) (n i : ℕ) → n ≡ length xs → take (n + i) (xs ++ ys) ≡ xs ++ take i ys
take-right [] ys n i e = let z : n + i ≡ i = omega arith in ap (λ k. take k ys) z
take-right (x ∷ xs) ys zero i e = absurd (omega arith)
take-right (x ∷ xs) ys (suc n) i e = let z : suc n + i ≡ suc (n + i) = omega arith in ap (λ k. take k (x ∷ (xs ++ ys))) z ∙ ap (λ zs. x ∷ zs) (take-right xs ys n i (omega arith))

drop-right : {X : Type 0} (xs ys : List X) (n i : ℕ) → n ≡ length xs → drop (suc (n + i)) (xs ++ ys) ≡ drop (suc i) ys
drop-right [] ys n i e = let z : suc (n + i) ≡ suc i = omega arith in ap (λ k. drop k ys) z
drop-right (x ∷ xs) ys zero i e = absurd (omega arith)
drop-right (x ∷ xs) ys (suc n) i e = let z : suc (suc n + i) ≡ suc (suc (n + i)) = omega arith in ap (λ k. drop k (x ∷ (xs ++ ys))) z ∙ drop-right xs ys n i (omega arith)

take-all : {X : Type 0} (xs ys : List X) (n : ℕ) → n ≡ length xs → take n (xs ++ ys) ≡ xs
take-all [] ys n e = let z : n ≡ 0 = e in ap (λ k. take k ys) z
take-all (x ∷ xs) ys zero e = absurd (omega arith)
take-all (x ∷ xs) ys (suc n) e = ap (λ zs. x ∷ zs) (take-all xs ys n (omega arith))

pub length-placed : (b : ℕ) (ts : Trees) → length (placed b ts) ≡ node_count_all ts
length-placed b none = refl
length-placed b (more (node k n v ks) ts) = omega (arith, length-append (placed (b + 1) ks) (placed (b + 2 + 2 * node_count_all ks) ts), length-placed (b + 1) ks, length-placed (b + 2 + 2 * node_count_all ks) ts)

pub length-siblings : (ts : Trees) → length (siblings_behind ts) ≡ node_count_all ts
length-siblings none = refl
length-siblings (more (node k n v ks) ts) = omega (arith, length-append (siblings_behind ks) (siblings_behind ts), length-siblings ks, length-siblings ts)

-- a node with a value has one text
own-valued : (names : List (Kind × List ℕ)) (f : ℕ) (k : Kind) (n v : List ℕ) → slice_get names f ≡ Some (k, n) → text_weight names (Symbol f) ≡ length (own k v)
own-valued names f Document n v e = ap valued e
own-valued names f Element n v e = ap valued e
own-valued names f Attribute n v e = ap valued e
own-valued names f Text n v e = ap valued e
own-valued names f Comment n v e = ap valued e
own-valued names f Instruction n v e = ap valued e

pub own-first : (k : Kind) (n v : List ℕ) (ks : Trees) → length (values_of (node k n v ks ∷ [])) ≡ length (own k v)
own-first Document n v ks = refl
own-first Element n v ks = refl
own-first Attribute n v ks = refl
own-first Text n v ks = refl
own-first Comment n v ks = refl
own-first Instruction n v ks = refl

module _ (names : List (Kind × List ℕ)) where
  -- the code of a list of trees has, with the bottoms, twice as many labels as the trees have nodes, and one
  pub all-coded : (ts : Trees) (term : Term) → Codes names ts term → (k : List Label) → sum_by all_weight (listed term k) ≡ 2 * node_count_all ts + 1 + sum_by all_weight k
  all-coded none term c k = ap (λ t. sum_by all_weight (listed t k)) c ∙ omega (arith, sum_by-cons all_weight Bottom k)
  all-coded (more (node kind n v ks) ts) term c k =
      ap (λ t. sum_by all_weight (listed t k)) c.6 ∙ omega (arith, sum_by-cons all_weight (Symbol c.0) (listed c.1 (listed c.2 k)), all-coded ks c.1 c.4 (listed c.2 k), all-coded ts c.2 c.5 k)

  -- and as many texts as the trees
  pub texts-coded : (ts : Trees) (term : Term) → Codes names ts term → (k : List Label) → sum_by (text_weight names) (listed term k) ≡ length (texts_all ts) + sum_by (text_weight names) k
  texts-coded none term c k = ap (λ t. sum_by (text_weight names) (listed t k)) c ∙ omega (arith, sum_by-cons (text_weight names) Bottom k)
  texts-coded (more (node kind n v ks) ts) term c k =
      ap (λ t. sum_by (text_weight names) (listed t k)) c.6
      ∙ omega (
        arith,
        sum_by-cons (text_weight names) (Symbol c.0) (listed c.1 (listed c.2 k)),
        texts-coded ks c.1 c.4 (listed c.2 k),
        texts-coded ts c.2 c.5 k,
        own-valued names c.0 kind n v c.3,
        ap length (texts_all-more kind n v ks ts),
        length-append (own kind v) (texts_all ks ++ texts_all ts),
        length-append (texts_all ks) (texts_all ts),
      )

  -- the node of these trees at the number of what stands before a symbol, its place, the siblings and the texts
  pub record NodePlace (ts : Trees) (before : List Label) (f : ℕ) (after : List Label) : Type 0 where
    pub kind : Kind
    pub name : List ℕ
    pub value : List ℕ
    pub kids : Trees
    pub others : Trees
    pub below : Term
    pub behind : Term
    pub rest : List Label
    pub pair : slice_get names f ≡ Some (kind, name)
    pub codes_kids : Codes names kids below
    pub codes_others : Codes names others behind
    pub follows : after ≡ listed below (listed behind rest)
    pub there : (xs : List Tree) → slice_get (nodes_all ts ++ xs) (sum_by node_weight before) ≡ Some (node kind name value kids)
    pub place : (b : ℕ) (xs : List (ℕ × Tree)) → slice_get (placed b ts ++ xs) (sum_by node_weight before) ≡ Some (b + sum_by all_weight before, node kind name value kids)
    pub siblings : (xs : List Trees) → slice_get (siblings_behind ts ++ xs) (sum_by node_weight before) ≡ Some others
    pub inside : (xs : List Tree) → take (node_count_all kids) (drop (suc (sum_by node_weight before)) (nodes_all ts ++ xs)) ≡ nodes_all kids
    pub texts : (xs : List Tree) → length (values_of (take (sum_by node_weight before) (nodes_all ts ++ xs))) ≡ sum_by (text_weight names) before

  -- or the symbol stands behind the code
  abbrev Later : Term → List Label → List Label → ℕ → List Label → Type 0
  Later term k before f after = (b : List Label) × (before ≡ listed term [] ++ b) × (k ≡ b ++ Symbol f ∷ after)

  -- a node of the kids
  of-kids : (kind : Kind) (n v : List ℕ) (ks ts : Trees) (s : ℕ) → slice_get names s ≡ Some (kind, n) → (before : List Label) (f : ℕ) (after : List Label) → NodePlace ks before f after → NodePlace (more (node kind n v ks) ts) (Symbol s ∷ before) f after
  of-kids kind n v ks ts s e before f after p =
      let m : sum_by node_weight (Symbol s ∷ before) ≡ suc (sum_by node_weight before) = omega (arith, sum_by-cons node_weight (Symbol s) before) in
      record {
        kind = p.kind;
        name = p.name;
        value = p.value;
        kids = p.kids;
        others = p.others;
        below = p.below;
        behind = p.behind;
        rest = p.rest;
        pair = p.pair;
        codes_kids = p.codes_kids;
        codes_others = p.codes_others;
        follows = p.follows;
        there = λ xs. ap (slice_get (nodes_all (more (node kind n v ks) ts) ++ xs)) m ∙ ap (λ ys. slice_get ys (sum_by node_weight before)) (append_assoc (nodes_all ks) (nodes_all ts) xs) ∙ p.there (nodes_all ts ++ xs);
        place = λ b xs.
            let bs = placed (b + 2 + 2 * node_count_all ks) ts in
            let a : b + 1 + sum_by all_weight before ≡ b + sum_by all_weight (Symbol s ∷ before) = omega (arith, sum_by-cons all_weight (Symbol s) before) in
            ap (slice_get (placed b (more (node kind n v ks) ts) ++ xs)) m ∙ ap (λ ys. slice_get ys (sum_by node_weight before)) (append_assoc (placed (b + 1) ks) bs xs) ∙ p.place (b + 1) (bs ++ xs)
            ∙ ap (λ i. Some (i, node p.kind p.name p.value p.kids)) a;
        siblings = λ xs. ap (slice_get (siblings_behind (more (node kind n v ks) ts) ++ xs)) m ∙ ap (λ ys. slice_get ys (sum_by node_weight before)) (append_assoc (siblings_behind ks) (siblings_behind ts) xs) ∙ p.siblings (siblings_behind ts ++ xs);
        inside = λ xs.
            ap (λ i. take (node_count_all p.kids) (drop (suc i) (nodes_all (more (node kind n v ks) ts) ++ xs))) m
            ∙ ap (λ ys. take (node_count_all p.kids) (drop (suc (sum_by node_weight before)) ys)) (append_assoc (nodes_all ks) (nodes_all ts) xs) ∙ p.inside (nodes_all ts ++ xs);
        texts = λ xs.
            ap (λ i. length (values_of (take i (nodes_all (more (node kind n v ks) ts) ++ xs)))) m
            ∙ ap (λ ys. length (values_of (node kind n v ks ∷ take (sum_by node_weight before) ys))) (append_assoc (nodes_all ks) (nodes_all ts) xs)
            ∙ omega (
              arith,
              ap length (values_of-append (node kind n v ks ∷ []) (take (sum_by node_weight before) (nodes_all ks ++ (nodes_all ts ++ xs)))),
              length-append (values_of (node kind n v ks ∷ [])) (values_of (take (sum_by node_weight before) (nodes_all ks ++ (nodes_all ts ++ xs)))),
              p.texts (nodes_all ts ++ xs),
              own-first kind n v ks,
              own-valued names s kind n v e,
              sum_by-cons (text_weight names) (Symbol s) before,
            );
      }

  -- a node of the siblings
  of-others : (kind : Kind) (n v : List ℕ) (ks ts : Trees) (s : ℕ) → slice_get names s ≡ Some (kind, n) → (below : Term) → Codes names ks below → (before : List Label) (f : ℕ) (after : List Label) → NodePlace ts before f after
      → NodePlace (more (node kind n v ks) ts) (Symbol s ∷ (listed below [] ++ before)) f after
  of-others kind n v ks ts s e below c before f after p =
      let lb : List Label = listed below [] ++ before in
      let m : sum_by node_weight (Symbol s ∷ lb) ≡ suc (node_count_all ks + sum_by node_weight before) =
      omega (arith, sum_by-cons node_weight (Symbol s) lb, sum_by-append node_weight (listed below []) before, nodes-coded names ks below c []) in
      record {
        kind = p.kind;
        name = p.name;
        value = p.value;
        kids = p.kids;
        others = p.others;
        below = p.below;
        behind = p.behind;
        rest = p.rest;
        pair = p.pair;
        codes_kids = p.codes_kids;
        codes_others = p.codes_others;
        follows = p.follows;
        there = λ xs.
            ap (slice_get (nodes_all (more (node kind n v ks) ts) ++ xs)) m ∙ ap (λ ys. slice_get ys (node_count_all ks + sum_by node_weight before)) (append_assoc (nodes_all ks) (nodes_all ts) xs)
            ∙ get-right (nodes_all ks) (nodes_all ts ++ xs) (node_count_all ks) (sum_by node_weight before) (sym (length-nodes_all ks)) ∙ p.there xs;
        place = λ b xs.
            let bs = placed (b + 2 + 2 * node_count_all ks) ts in
            let a : b + 2 + 2 * node_count_all ks + sum_by all_weight before ≡ b + sum_by all_weight (Symbol s ∷ lb) =
            omega (arith, sum_by-cons all_weight (Symbol s) lb, sum_by-append all_weight (listed below []) before, all-coded ks below c []) in
            ap (slice_get (placed b (more (node kind n v ks) ts) ++ xs)) m ∙ ap (λ ys. slice_get ys (node_count_all ks + sum_by node_weight before)) (append_assoc (placed (b + 1) ks) bs xs)
            ∙ get-right (placed (b + 1) ks) (bs ++ xs) (node_count_all ks) (sum_by node_weight before) (sym (length-placed (b + 1) ks)) ∙ p.place (b + 2 + 2 * node_count_all ks) xs
            ∙ ap (λ i. Some (i, node p.kind p.name p.value p.kids)) a;
        siblings = λ xs.
            ap (slice_get (siblings_behind (more (node kind n v ks) ts) ++ xs)) m ∙ ap (λ ys. slice_get ys (node_count_all ks + sum_by node_weight before)) (append_assoc (siblings_behind ks) (siblings_behind ts) xs)
            ∙ get-right (siblings_behind ks) (siblings_behind ts ++ xs) (node_count_all ks) (sum_by node_weight before) (sym (length-siblings ks)) ∙ p.siblings xs;
        inside = λ xs.
            ap (λ i. take (node_count_all p.kids) (drop (suc i) (nodes_all (more (node kind n v ks) ts) ++ xs))) m
            ∙ ap (λ ys. take (node_count_all p.kids) (drop (suc (node_count_all ks + sum_by node_weight before)) ys)) (append_assoc (nodes_all ks) (nodes_all ts) xs)
            ∙ ap (take (node_count_all p.kids)) (drop-right (nodes_all ks) (nodes_all ts ++ xs) (node_count_all ks) (sum_by node_weight before) (sym (length-nodes_all ks))) ∙ p.inside xs;
        texts = λ xs.
            let rest : List Tree = take (sum_by node_weight before) (nodes_all ts ++ xs) in
            ap (λ i. length (values_of (take i (nodes_all (more (node kind n v ks) ts) ++ xs)))) m
            ∙ ap (λ ys. length (values_of (node kind n v ks ∷ take (node_count_all ks + sum_by node_weight before) ys))) (append_assoc (nodes_all ks) (nodes_all ts) xs)
            ∙ ap (λ ys. length (values_of (node kind n v ks ∷ ys))) (take-right (nodes_all ks) (nodes_all ts ++ xs) (node_count_all ks) (sum_by node_weight before) (sym (length-nodes_all ks)))
            ∙ omega (
              arith,
              ap length (values_of-append (node kind n v ks ∷ []) (nodes_all ks ++ rest)),
              length-append (values_of (node kind n v ks ∷ [])) (values_of (nodes_all ks ++ rest)),
              ap length (values_of-append (nodes_all ks) rest),
              length-append (values_of (nodes_all ks)) (values_of rest),
              p.texts xs,
              own-first kind n v ks,
              own-valued names s kind n v e,
              sum_by-cons (text_weight names) (Symbol s) lb,
              sum_by-append (text_weight names) (listed below []) before,
              texts-coded ks below c [],
            );
      }

  -- a symbol in the code of trees and what follows is one of their nodes, or comes later
  trees-at : (ts : Trees) (term : Term) → Codes names ts term → (k before : List Label) (f : ℕ) (after : List Label) → listed term k ≡ before ++ Symbol f ∷ after → NodePlace ts before f after ⊎ Later term k before f after
  trees-at none term c k [] f after e = absurd (let g : listed Leaf k ≡ Symbol f ∷ after = sym (ap (λ t. listed t k) c) ∙ e in cc)
  trees-at none term c k (b ∷ before) f after e =
      let g : listed Leaf k ≡ b ∷ (before ++ Symbol f ∷ after) = sym (ap (λ t. listed t k) c) ∙ e in
      let h : Bottom ≡ b = cc in
      let t : k ≡ before ++ Symbol f ∷ after = cc in
      inr (before, ap (λ l. l ∷ before) (sym h) ∙ sym (ap (λ u. listed u [] ++ before) c), t)
  trees-at (more (node kind n v ks) ts) term c k [] f after e =
      let g : Symbol c.0 ∷ listed c.1 (listed c.2 k) ≡ Symbol f ∷ after = sym (ap (λ t. listed t k) c.6) ∙ e in
      let h : c.0 ≡ f = cc in
      let t : listed c.1 (listed c.2 k) ≡ after = cc in
      inl (record {
        kind = kind;
        name = n;
        value = v;
        kids = ks;
        others = ts;
        below = c.1;
        behind = c.2;
        rest = k;
        pair = sym (ap (slice_get names) h) ∙ c.3;
        codes_kids = c.4;
        codes_others = c.5;
        follows = sym t;
        there = λ xs. refl;
        place = λ b xs. let z : b ≡ b + 0 = omega arith in ap (λ i. Some (i, node kind n v ks)) z;
        siblings = λ xs. refl;
        inside = λ xs. ap (take (node_count_all ks)) (append_assoc (nodes_all ks) (nodes_all ts) xs) ∙ take-all (nodes_all ks) (nodes_all ts ++ xs) (node_count_all ks) (sym (length-nodes_all ks));
        texts = λ xs. refl;
      })
  trees-at (more (node kind n v ks) ts) term c k (b ∷ before) f after e =
      let g : Symbol c.0 ∷ listed c.1 (listed c.2 k) ≡ b ∷ (before ++ Symbol f ∷ after) = sym (ap (λ t. listed t k) c.6) ∙ e in
      let h : Symbol c.0 ≡ b = cc in
      let t : listed c.1 (listed c.2 k) ≡ before ++ Symbol f ∷ after = cc in
      by_kids (trees-at ks c.1 c.4 (listed c.2 k) before f after t) (λ d u. trees-at ts c.2 c.5 k d f after u) h
    where
      by_others : (d : List Label) → before ≡ listed c.1 [] ++ d → Symbol c.0 ≡ b → NodePlace ts d f after ⊎ Later c.2 k d f after → NodePlace (more (node kind n v ks) ts) (b ∷ before) f after ⊎ Later term k (b ∷ before) f after
      by_others d u h (inl p) =
          inl (subst (λ (ls : List Label). NodePlace (more (node kind n v ks) ts) ls f after) (ap (λ ls. Symbol c.0 ∷ ls) (sym u) ∙ ap (λ l. l ∷ before) h) (of-others kind n v ks ts c.0 c.3 c.1 c.4 d f after p))
      by_others d u h (inr l) =
          inr (
            l.0,
            ap (λ x. x ∷ before) (sym h) ∙ ap (λ ls. Symbol c.0 ∷ ls) (u ∙ ap (λ ls. listed c.1 [] ++ ls) l.1 ∙ sym (append_assoc (listed c.1 []) (listed c.2 []) l.0) ∙ ap (λ ls. ls ++ l.0) (sym (listed-append c.1 (listed c.2 []))))
                ∙ sym (ap (λ u. listed u [] ++ l.0) c.6),
            l.2,
          )

      by_kids : NodePlace ks before f after ⊎ Later c.1 (listed c.2 k) before f after → ((d : List Label) → listed c.2 k ≡ d ++ Symbol f ∷ after → NodePlace ts d f after ⊎ Later c.2 k d f after) → Symbol c.0 ≡ b
          → NodePlace (more (node kind n v ks) ts) (b ∷ before) f after ⊎ Later term k (b ∷ before) f after
      by_kids (inl p) ih h = inl (subst (λ (l : Label). NodePlace (more (node kind n v ks) ts) (l ∷ before) f after) h (of-kids kind n v ks ts c.0 c.3 before f after p))
      by_kids (inr l) ih h = by_others l.0 l.1 h (ih l.0 l.2)

  none-later : (b : List Label) (f : ℕ) (after : List Label) → [] ≡ b ++ Symbol f ∷ after → ⊥
  none-later [] f after e = cc
  none-later (x ∷ b) f after e = cc

  -- each symbol of the code of trees is the node whose number is that of the nodes before it: the code of its kids follows, and then that of the
  -- siblings behind it
  pub node-place : (ts : Trees) (term : Term) → Codes names ts term → (before : List Label) (f : ℕ) (after : List Label) → listed term [] ≡ before ++ Symbol f ∷ after → NodePlace ts before f after
  node-place ts term c before f after e = by_place (trees-at ts term c [] before f after e)
    where
      by_place : NodePlace ts before f after ⊎ Later term [] before f after → NodePlace ts before f after
      by_place (inl p) = p
      by_place (inr l) = absurd (none-later l.0 f after l.2)
