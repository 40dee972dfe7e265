-- The code of a list of trees after an edit by which no texts meet.
use Rattle.std.proofs.Common.{◌≡◌, ℕ, suc, ◌+◌, ◌<◌, List, [], ◌∷◌, ◌++◌, Some, slice_get, refl, ap, sym, ◌∙◌, subst, arith, sum_by}
use Rattle.std.proofs.lemmas.List.Sums.{sum_by-cons}
use Rattle.plain_tree.specs.declared.kind.Kind.{Kind}
use Rattle.plain_tree.specs.Tree.{Tree, node, Trees, none, more, node_count_all}
use Rattle.rule_arena.specs.declared.label.Label.TheVariants.{Symbol}
use Rattle.slt_grammar.specs.Coding.{Codes, CodesTo}
use Rattle.slt_grammar.specs.Segments.{listed}
use Rattle.slt_grammar.specs.Terms.{Term, Leaf, Node, Hole, substitute, holes_of}
use Rattle.segment_counts.specs.Weights.{node_weight}
use Rattle.segment_counts.proofs.Coded.{nodes-coded}
use Rattle.plain_tree.specs.Edits.{changed, chained, with_first, with_name, with_value, others, alone, made}
use Rattle.plain_tree.specs.declared.edit.Edit.TheVariants.{Rename, Copy}
use Rattle.plain_tree.proofs.Changing.{each-node, changed-inside, more-later, from_node, changed-by, chained-more}
use Rattle.tree_updates.specs.Differences.{hole_at}
use Rattle.tree_updates.proofs.CodeChanges.{replaced, replaced-numbers, reached-numbers, weight-put, codes-there, CodesThere, whole-stays}
use Rattle.plain_tree.proofs.PlainEdits.{inserted, valued_at, deleted}

module _ (names : List (Kind × List ℕ)) where
  pub codes-whole : (ts : Trees) (term : Term) → Codes names ts term → holes_of term ≡ []
  codes-whole none term c = ap holes_of c
  codes-whole (more (node k n v ks) ts) term c = ap holes_of c.6 ∙ ap (λ hs. hs ++ holes_of c.2) (codes-whole ks c.1 c.4) ∙ codes-whole ts c.2 c.5

  -- a code that ends in a parameter, with the code of other trees in its place, codes its trees and then the others
  pub code-chained : (ss us : Trees) (last front back : Term) → CodesTo names (Hole 0) ss front → CodesTo names last us back → CodesTo names last (chained more ss us) (substitute front (back ∷ []))
  code-chained none us last front back c d = subst (CodesTo names last us) (sym (ap (λ t. substitute t (back ∷ [])) c)) d
  code-chained (more (node k n v ks) ss) us last front back c d =
      let args : List Term = back ∷ [] in
      let below : substitute c.1 args ≡ c.1 = whole-stays c.1 args (codes-whole ks c.1 c.4) in
      subst (λ ts. CodesTo names last ts (substitute front args)) (sym (chained-more (node k n v ks) ss us)) (
        c.0,
        c.1,
        substitute c.2 args,
        c.3,
        c.4,
        code-chained ss us last c.2 back c.5 d,
        ap (λ t. substitute t args) c.6 ∙ ap (λ t. Node c.0 t (substitute c.2 args)) below,
      )

  leaf-node : (term : Term) (f : ℕ) (a b : Term) → term ≡ Leaf → term ≡ Node f a b → ⊥
  leaf-node term f a b d e = let h : Leaf ≡ Node f a b = sym d ∙ e in absurd cc

  -- a symbol over two codes is the code of a node and its later siblings
  pub record BeginsWith (f : ℕ) (l r : Term) (ts : Trees) : Type 0 where
    pub kind : Kind
    pub name : List ℕ
    pub value : List ℕ
    pub kids : Trees
    pub behind : Trees
    pub is : ts ≡ more (node kind name value kids) behind
    pub pair : slice_get names f ≡ Some (kind, name)
    pub below : Codes names kids l
    pub rest : Codes names behind r

  pub begins-with : (f : ℕ) (l r : Term) (ts : Trees) → Codes names ts (Node f l r) → BeginsWith f l r ts
  begins-with f l r none c = absurd (leaf-node (Node f l r) f l r c refl)
  begins-with f l r (more (node k m v ks) us) c =
      let same : Node c.0 c.1 c.2 ≡ Node f l r = sym c.6 in
      let f-is : c.0 ≡ f = cc in
      let l-is : c.1 ≡ l = cc in
      let r-is : c.2 ≡ r = cc in
      record { kind = k; name = m; value = v; kids = ks; behind = us; is = refl; pair = ap (slice_get names) (sym f-is) ∙ c.3; below = subst (Codes names ks) l-is c.4; rest = subst (Codes names us) r-is c.5 }

  numbered : (f : ℕ) → node_weight (Symbol f) ≡ 1
  numbered f = refl

  wide : (ts : Trees) (term : Term) → Codes names ts term → sum_by node_weight (listed term []) ≡ node_count_all ts
  wide ts term c = omega (arith, nodes-coded names ts term c [])

  -- in the code of trees a symbol stands in the one hole of a context, in which n symbols come before it
  module _ (ts : Trees) (C : Term) (f : ℕ) (l r : Term) (once : holes_of C ≡ Hole 0 ∷ []) (code : Codes names ts (substitute C (Node f l r ∷ []))) where
    abbrev pub number : ℕ
    number = hole_at node_weight C

    some : 0 < sum_by node_weight (listed (Node f l r) [])
    some = omega (arith, sum_by-cons node_weight (Symbol f) (listed l (listed r [])))

    there : CodesThere names node_count_all C (Node f l r) (hole_at node_weight C) ts
    there = codes-there names node_weight node_count_all numbered wide (Node f l r) some C ts once code

    pub number-low : hole_at node_weight C < node_count_all ts
    number-low = omega (arith, weight-put node_weight numbered C (Node f l r) once, some, wide ts (substitute C (Node f l r ∷ [])) code)

    -- it is node n's
    pub node-there : BeginsWith f l r (from_node (hole_at node_weight C) ts)
    node-there = begins-with f l r (from_node number ts) (subst (λ us. Codes names us (Node f l r)) (reached-numbers number ts) there.codes)

    -- what codes the changed siblings in its place codes the changed trees
    pub code-changed : (F : Trees → Trees) (that : Term) → Codes names (F (from_node (hole_at node_weight C) ts)) that → Codes names (changed more F (hole_at node_weight C) ts) (substitute C (that ∷ []))
    code-changed F that d =
        let vs : Trees = F (from_node number ts) in
        let e : replaced node_count_all vs number ts ≡ changed more F number ts = replaced-numbers vs number ts ∙ sym (changed-by F number ts number-low) in
        subst (λ us. Codes names us (substitute C (that ∷ []))) e (there.changes vs that d)

    pub code-deleted : Codes names (deleted (hole_at node_weight C) ts) (substitute C (r ∷ []))
    code-deleted = let b = node-there in code-changed others r (subst (λ us. Codes names (others us) r) (sym b.is) b.rest)

    pub code-named : (g : ℕ) (x : List ℕ) → slice_get names g ≡ Some (node-there.kind, x) → Codes names (made more (Rename (hole_at node_weight C) x) ts) (substitute C (Node g l r ∷ []))
    code-named g x s = let b = node-there in code-changed (with_first (with_name x)) (Node g l r) (subst (λ us. Codes names (with_first (with_name x) us) (Node g l r)) (sym b.is) (g, l, r, s, b.below, b.rest, refl))

    pub code-valued : (w : List ℕ) → Codes names (valued_at w (hole_at node_weight C) ts) (substitute C (Node f l r ∷ []))
    code-valued w = let b = node-there in code-changed (with_first (with_value w)) (Node f l r) (subst (λ us. Codes names (with_first (with_value w) us) (Node f l r)) (sym b.is) (f, l, r, b.pair, b.below, b.rest, refl))

    pub code-inserted : (F : Trees) (front : Term) → CodesTo names (Hole 0) F front → Codes names (inserted more F (hole_at node_weight C) ts) (substitute C (substitute front (Node f l r ∷ []) ∷ []))
    code-inserted F front d =
        code-changed (chained more F) (substitute front (Node f l r ∷ [])) (code-chained F (from_node number ts) Leaf front (Node f l r) d (subst (λ us. Codes names us (Node f l r)) (reached-numbers number ts) there.codes))

    pub code-copied : Codes names (made more (Copy (hole_at node_weight C)) ts) (substitute C (Node f l (Node f l r) ∷ []))
    code-copied =
        let b = node-there in
        let t : Tree = node b.kind b.name b.value b.kids in
        code-changed (λ us. chained more (alone us) us) (Node f l (Node f l r))
        (subst (λ us. Codes names (chained more (alone us) us) (Node f l (Node f l r))) (sym b.is) (f, l, Node f l r, b.pair, b.below, (f, l, r, b.pair, b.below, b.rest, refl), refl))

-- no value stands in a code
pub code-kept : (names : List (Kind × List ℕ)) (ts : Trees) (term : Term) (w : List ℕ) (n : ℕ) → n < node_count_all ts → Codes names ts term → Codes names (valued_at w n ts) term
code-kept names ts term w n low c = each-node (λ n ts. (term : Term) → Codes names ts term → Codes names (valued_at w n ts) term) first inside later n ts low term c
  where
    F : Trees → Trees
    F = with_first (with_value w)

    first : (t : Tree) (ts : Trees) (term : Term) → Codes names (more t ts) term → Codes names (valued_at w 0 (more t ts)) term
    first (node k m v ks) ts term c = c

    inside : (k : Kind) (m v : List ℕ) (ks ts : Trees) (n : ℕ) → n < node_count_all ks → ((term : Term) → Codes names ks term → Codes names (valued_at w n ks) term) → (term : Term) → Codes names (more (node k m v ks) ts) term
        → Codes names (valued_at w (suc n) (more (node k m v ks) ts)) term
    inside k m v ks ts n h r term c =
        subst (λ us. Codes names us term) (sym (changed-inside more (with_first (with_value w)) k m v ks ts n h)) (c.0, c.1, c.2, c.3, r c.1 c.4, c.5, c.6)

    later : (k : Kind) (m v : List ℕ) (ks ts : Trees) (d : ℕ) → d < node_count_all ts → ((term : Term) → Codes names ts term → Codes names (valued_at w d ts) term) → (term : Term) → Codes names (more (node k m v ks) ts) term
        → Codes names (valued_at w (suc (node_count_all ks + d)) (more (node k m v ks) ts)) term
    later k m v ks ts d h r term c =
        subst (λ us. Codes names us term) (sym (more-later (with_first (with_value w)) k m v ks ts d)) (c.0, c.1, c.2, c.3, c.4, r c.2 c.5, c.6)
