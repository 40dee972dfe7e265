-- Rules, names and texts that stand for a document stand for the edited one after a change at its node.
use Rattle.std.proofs.Common.{◌≡◌, ℕ, ◌+◌, ◌*◌, ◌<◌, List, [], ◌∷◌, ◌++◌, length, ap, sym, ◌∙◌, subst, Some, append-nil}
use Rattle.std.specs.Prelude.{slice_get, slice_set, true}
use Rattle.std.specs.List.{insert_slice, remove_range}
use Rattle.plain_tree.specs.declared.kind.Kind.{Kind}
use Rattle.plain_tree.specs.declared.kind.Kind.TheVariants.{Attribute}
use Rattle.plain_tree.specs.Lawful.{IsDocument}
use Rattle.plain_tree.specs.Numbers.{kind_of, has_value, texts_all}
use Rattle.plain_tree.specs.Tree.{Tree, node, Trees, none, more, trees, node_count_all}
use Rattle.slt_grammar.specs.ChangedValues.{DifferAt, term_around}
use Rattle.slt_grammar.specs.Coding.{Codes, CodesTo}
use Rattle.slt_grammar.specs.Grammars.{value}
use Rattle.slt_grammar.specs.Standing.{StandsFor}
use Rattle.rule_arena.specs.declared.label.Label.{Label}
use Rattle.slt_grammar.specs.Terms.{Term, Leaf, Node, Hole, substitute}
use Rattle.slt_grammar.specs.declared.rules.Rule.{Rule}
use Rattle.slt_grammar.proofs.Standing.{own, texts-one, texts_all-more}
use Rattle.segment_counts.specs.Weights.{node_weight, all_weight}
use Rattle.preorder_address.specs.TreeNumbers.{placed as placed_nodes, attribute_places}
use Rattle.plain_tree.specs.Edits.{alone, chained, made, placed, first_or}
use Rattle.plain_tree.specs.declared.edit.Edit.{Edit}
use Rattle.plain_tree.specs.declared.edit.Edit.TheVariants.{Rename, Insert, Append, Delete, Value, Attr, Copy}
use Rattle.plain_tree.proofs.Changing.{from_node, changed-alike}
use Rattle.tree_updates.specs.Differences.{DifferThere, hole_at}
use Rattle.tree_updates.proofs.CodeEdits.{node-there, number-low, code-kept, code-deleted, code-named, code-inserted, code-copied}
use Rattle.tree_updates.proofs.KidPlaces.{HasNoAttribute, code-appended, code-attribute}
use Rattle.plain_tree.proofs.LawfulDocuments.{BecomesDocument}
use Rattle.plain_tree.proofs.PlainEdits.{inserted, appended, valued_at, deleted}
use Rattle.tree_updates.proofs.Texts.{rank_in, texts-inserted, texts-deleted, texts-valued, texts-named, texts-appended}

-- where terms differ at a place of the start's body
pub differ-there : (w : Label → ℕ) (G H : List Rule) (place n : ℕ) (this that : Term) → DifferAt G H place this that → hole_at w (term_around G place) ≡ n → DifferThere w G H n this that
differ-there w G H place n this that d e = record { around = term_around G place; once = d.once; before = e; first = d.first; second = d.second }

module _ (G H : List Rule) (names : List (Kind × List ℕ)) (values : List (List ℕ)) (t : Tree) (s : StandsFor G names values t) where
  -- what the code and the texts come to
  pub stands-placed : (e : Edit) (new : List (List ℕ)) → BecomesDocument (made more e (more t none)) → Codes names (made more e (more t none)) (value H) → new ≡ texts_all (made more e (more t none)) → StandsFor H names new (placed t e)
  stands-placed e new b code list =
      let same : placed t e ≡ b.tree = ap (first_or t) b.is in
      let p : made more e (more t none) ≡ more (placed t e) none = b.is ∙ ap (λ r. more r none) (sym same) in
      record {
        document = subst IsDocument (sym same) b.document;
        distinct = s.distinct;
        lawful = s.lawful;
        code = subst (λ us. Codes names us (value H)) p code;
        texts = list ∙ ap texts_all p ∙ texts-one (placed t e);
      }

  were : texts_all (more t none) ≡ values
  were = texts-one t ∙ sym s.texts

  -- where node n, which is this one, changes in the start's value
  module _ (n f : ℕ) (left right that : Term) (c : DifferThere node_weight G H n (Node f left right) that) (k : Kind) (m v : List ℕ) (ks us : Trees) (here : from_node n (more t none) ≡ more (node k m v ks) us) where
    abbrev ts : Trees
    ts = more t none

    abbrev C : Term
    C = c.around

    abbrev own_texts : List (List ℕ)
    own_texts = own k v ++ texts_all ks

    coded : Codes names (more t none) (substitute c.around (Node f left right ∷ []))
    coded = subst (Codes names (more t none)) c.first s.code

    low : n < node_count_all (more t none)
    low = subst (λ (i : ℕ). i < node_count_all (more t none)) c.before (number-low names ts C f left right c.once coded)

    value-after : (e : ℕ → Trees) → Codes names (e (hole_at node_weight c.around)) (substitute c.around (that ∷ [])) → Codes names (e n) (value H)
    value-after e code = subst (λ (i : ℕ). Codes names (e i) (value H)) c.before (subst (Codes names (e (hole_at node_weight c.around))) (sym c.second) code)

    its-kind : (node-there names (more t none) c.around f left right c.once coded).kind ≡ k
    its-kind =
        let b = node-there names (more t none) c.around f left right c.once coded in
        same-kind (node b.kind b.name b.value b.kids) (node k m v ks) b.behind us (sym b.is ∙ ap (λ (i : ℕ). from_node i (more t none)) c.before ∙ here)
      where
        same-kind : (x y : Tree) (xs ys : Trees) → more x xs ≡ more y ys → kind_of x ≡ kind_of y
        same-kind x y xs ys e = let f : x ≡ y = cc in ap kind_of f

    pub stands-deleted : that ≡ right → BecomesDocument (made more (Delete n) (more t none)) → StandsFor H names (remove_range values (rank_in n (more t none)) (rank_in n (more t none) + length (own k v ++ texts_all ks))) (placed t (Delete n))
    stands-deleted is allowed =
        stands-placed (Delete n) (remove_range values (rank_in n ts) (rank_in n ts + length own_texts)) allowed
        (value-after (λ i. deleted i ts) (subst (λ x. Codes names (deleted (hole_at node_weight C) ts) (substitute C (x ∷ []))) (sym is) (code-deleted names ts C f left right c.once coded)))
        (ap (λ xs. remove_range xs (rank_in n ts) (rank_in n ts + length own_texts)) (sym were) ∙ sym (texts-deleted n ts low k m v ks us here))

    pub stands-named : (g : ℕ) (x : List ℕ) → that ≡ Node g left right → slice_get names g ≡ Some (k, x) → BecomesDocument (made more (Rename n x) (more t none)) → StandsFor H names values (placed t (Rename n x))
    stands-named g x is pair allowed =
        stands-placed (Rename n x) values allowed
        (value-after (λ i. made more (Rename i x) ts)
        (subst (λ y. Codes names (made more (Rename (hole_at node_weight C) x) ts) (substitute C (y ∷ []))) (sym is)
        (code-named names ts C f left right c.once coded g x (pair ∙ ap (λ K. Some (K, x)) (sym its-kind)))))
        (sym were ∙ sym (texts-named n ts low k m v ks us here x))

    pub stands-inserted : (F : List Tree) (front : Term) → that ≡ substitute front (Node f left right ∷ []) → CodesTo names (Hole 0) (trees F) front → BecomesDocument (made more (Insert n F) (more t none))
        → StandsFor H names (insert_slice values (rank_in n (more t none)) (texts_all (trees F))) (placed t (Insert n F))
    stands-inserted F front is code allowed =
        stands-placed (Insert n F) (insert_slice values (rank_in n ts) (texts_all (trees F))) allowed
        (value-after (λ i. inserted more (trees F) i ts)
        (subst (λ y. Codes names (inserted more (trees F) (hole_at node_weight C) ts) (substitute C (y ∷ []))) (sym is) (code-inserted names ts C f left right c.once coded (trees F) front code)))
        (ap (λ xs. insert_slice xs (rank_in n ts) (texts_all (trees F))) (sym were) ∙ sym (texts-inserted n ts low (trees F)))

    pub stands-copied : that ≡ Node f left (Node f left right) → BecomesDocument (made more (Copy n) (more t none)) → StandsFor H names (insert_slice values (rank_in n (more t none)) (own k v ++ texts_all ks)) (placed t (Copy n))
    stands-copied is allowed =
        let g : Trees → Trees = λ vs. chained more (alone vs) vs in
        let one : Trees = more (node k m v ks) none in
        let same : made more (Copy n) ts ≡ inserted more one n ts = changed-alike g (chained more one) n ts low (ap g here ∙ ap (chained more one) (sym here)) in
        let list : texts_all one ≡ own k v ++ texts_all ks = texts_all-more k m v ks none ∙ ap (λ xs. own k v ++ xs) (append-nil (texts_all ks)) in
        stands-placed (Copy n) (insert_slice values (rank_in n ts) own_texts) allowed
        (value-after (λ i. made more (Copy i) ts) (subst (λ x. Codes names (made more (Copy (hole_at node_weight C)) ts) (substitute C (x ∷ []))) (sym is) (code-copied names ts C f left right c.once coded)))
        (ap (λ xs. insert_slice xs (rank_in n ts) own_texts) (sym were) ∙ ap (insert_slice (texts_all ts) (rank_in n ts)) (sym list) ∙ sym (texts-inserted n ts low one) ∙ ap texts_all (sym same))

  -- a value changes in the texts alone
  pub stands-valued : (n : ℕ) (w : List ℕ) (k : Kind) (m v : List ℕ) (ks us : Trees) → value H ≡ value G → n < node_count_all (more t none) → from_node n (more t none) ≡ more (node k m v ks) us → has_value k ≡ true
      → BecomesDocument (made more (Value n w) (more t none)) → StandsFor H names (slice_set values (rank_in n (more t none)) w) (placed t (Value n w))
  stands-valued n w k m v ks us same low here has allowed =
      stands-placed (Value n w) (slice_set values (rank_in n (more t none)) w) allowed
      (subst (Codes names (valued_at w n (more t none))) (sym same) (code-kept names (more t none) (value G) w n low s.code))
      (ap (λ xs. slice_set xs (rank_in n (more t none)) w) (sym were) ∙ sym (texts-valued n (more t none) low k m v ks us here w has))

  -- a bottom behind the last kid of node n, or what stands behind its attributes, changes in the start's value
  module _ (n q p : ℕ) (this that : Term) (c : DifferThere all_weight G H p this that) (k : Kind) (m v : List ℕ) (ks us : Trees) (low : n < node_count_all (more t none))
      (here : from_node n (more t none) ≡ more (node k m v ks) us) (place_is : slice_get (placed_nodes 0 (more t none)) n ≡ Some (q, node k m v ks)) where
    place-coded : Codes names (more t none) (substitute c.around (this ∷ []))
    place-coded = subst (Codes names (more t none)) c.first s.code

    pub stands-appended : (F : List Tree) (front : Term) → p ≡ q + 1 + 2 * node_count_all ks → this ≡ Leaf → that ≡ substitute front (Leaf ∷ []) → CodesTo names (Hole 0) (trees F) front
        → BecomesDocument (made more (Append n F) (more t none)) → StandsFor H names (insert_slice values (rank_in n (more t none) + length (own k v ++ texts_all ks)) (texts_all (trees F))) (placed t (Append n F))
    stands-appended F front at leaf is code allowed =
        let r : ℕ = rank_in n (more t none) + length (own k v ++ texts_all ks) in
        let C : Term = c.around in
        stands-placed (Append n F) (insert_slice values r (texts_all (trees F))) allowed
        (subst (Codes names (appended more (trees F) n (more t none))) (sym c.second)
        (subst (λ y. Codes names (appended more (trees F) n (more t none)) (substitute C (y ∷ []))) (sym is)
        (code-appended names (more t none) C this c.once place-coded n low q k m v ks us here place_is (c.before ∙ at) leaf (trees F) front code)))
        (ap (λ xs. insert_slice xs r (texts_all (trees F))) (sym were) ∙ sym (texts-appended n (more t none) low k m v ks us here (trees F)))

    pub stands-attribute : (name w : List ℕ) (a : ℕ) (new : List (List ℕ)) → p ≡ q + 1 + attribute_places ks → HasNoAttribute name ks → slice_get names a ≡ Some (Attribute, name)
        → that ≡ Node a Leaf this → BecomesDocument (made more (Attr n name w) (more t none)) → new ≡ texts_all (made more (Attr n name w) (more t none)) → StandsFor H names new (placed t (Attr n name w))
    stands-attribute name w a new at none-there pair is allowed list =
        let C : Term = c.around in
        stands-placed (Attr n name w) new allowed
        (subst (Codes names (made more (Attr n name w) (more t none))) (sym c.second)
        (subst (λ y. Codes names (made more (Attr n name w) (more t none)) (substitute C (y ∷ []))) (sym is)
        (code-attribute names (more t none) C this c.once place-coded n low q k m v ks us here place_is (c.before ∙ at) name w none-there a pair)))
        list
