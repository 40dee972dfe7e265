-- The code of a node that comes once more before itself.
use Rattle.std.proofs.Common.{◌≡◌, ℕ, ◌+◌, ◌-◌, ◌<◌, List, [], ◌∷◌, ◌++◌, length, refl, ap, sym, ◌∙◌, subst, arith, Some, length-append}
use Rattle.std.specs.Prelude.{slice_get}
use Rattle.plain_tree.specs.declared.kind.Kind.{Kind}
use Rattle.plain_tree.specs.declared.kind.Kind.TheVariants.{Document, Element, Attribute, Text, Comment, Instruction}
use Rattle.plain_tree.specs.Lawful.{IsLawfulTree}
use Rattle.plain_tree.specs.NodePairs.{Pair}
use Rattle.plain_tree.specs.Numbers.{nodes, texts, texts_all}
use Rattle.plain_tree.specs.Siblings.{from_node}
use Rattle.plain_tree.specs.Tree.{Tree, node, Trees, none, more, trees, node_count, node_count_all}
use Rattle.rule_arena.specs.declared.label.Label.{Label}
use Rattle.rule_arena.specs.declared.label.Label.TheVariants.{Bottom}
use Rattle.slt_grammar.specs.Coding.{Codes, CodesTo}
use Rattle.slt_grammar.specs.Grammars.{value_at}
use Rattle.slt_grammar.specs.Keyed.{KeyedRule, rules_of}
use Rattle.slt_grammar.specs.Standing.{StandsFor}
use Rattle.slt_grammar.specs.Terms.{Term, Leaf, Node, Hole, substitute}
use Rattle.slt_grammar.specs.declared.rules.Rule.{Rule}
use Rattle.slt_grammar.proofs.Standing.{own, texts-one, texts_all-more}
use Rattle.segment_counts.specs.Changes.{IsWeighed}
use Rattle.segment_counts.proofs.Coded.{nodes-coded}
use Rattle.preorder_address.specs.Spots.{IsSpot}
use Rattle.preorder_address.specs.declared.spot.Spot.{Spot}
use Rattle.preorder_address.proofs.TreePlaces.{texts-coded}
use Rattle.tree_updates.specs.Copies.{IsTwinBody, MayCopy, SharesBelow}
use Rattle.tree_updates.specs.Fragments.{IsCodeOf}
use Rattle.tree_updates.specs.declared.node_extent.Extent.{Extent}
use Rattle.tree_updates.proofs.CodeEdits.{node-there}
use Rattle.tree_updates.proofs.CopiedEdits.{first-is}
use Rattle.tree_updates.proofs.CopiedTexts.{spot-pair}
use Rattle.tree_updates.proofs.NodeExtents.{code-closed}
use Rattle.tree_updates.proofs.Numbers.{all-lawful, at, in-tree}

no-kids : (names : List Pair) (ks : Trees) → node_count_all ks ≡ 0 → Codes names ks Leaf
no-kids names none e = refl
no-kids names (more (node k m v ks) ts) e = absurd (omega (arith, e))

leaf-counts : (ks : Trees) → ks ≡ none → node_count_all ks ≡ 0
leaf-counts ks e = ap node_count_all e

-- a node with something below it has no text
own-none : (k : Kind) (m v : List ℕ) (ks : Trees) → IsLawfulTree (node k m v ks) → 0 < node_count_all ks → length (own k v) ≡ 0
own-none Document m v ks l h = refl
own-none Element m v ks l h = refl
own-none Attribute m v ks l h = absurd (omega (arith, h, leaf-counts ks l.1))
own-none Text m v ks l h = absurd (omega (arith, h, leaf-counts ks l.1))
own-none Comment m v ks l h = absurd (omega (arith, h, leaf-counts ks l.1))
own-none Instruction m v ks l h = absurd (omega (arith, h, leaf-counts ks l.1))

module _ (K : List KeyedRule) (names : List Pair) (values : List (List ℕ)) (t : Tree) (s : StandsFor (rules_of K) names values t) (n : ℕ) (low : n < node_count t) (e : Extent) (M : MayCopy t n e)
    (spot : Spot) (S : IsSpot names K n spot) where
  abbrev here : Tree
  here = M.extent.here

  here-is : (at t s.document.lawful n low).here ≡ M.extent.here
  here-is = let A = at t s.document.lawful n low in first-is A.here M.extent.here A.behind M.extent.behind (sym A.from_is ∙ M.extent.from_is)

  told : slice_get (nodes t) n ≡ Some M.extent.here
  told = in-tree t s.document.lawful n low ∙ ap Some here-is

  lawful : IsLawfulTree M.extent.here
  lawful = subst IsLawfulTree here-is (all-lawful t s.document.lawful n low).0

  -- where nothing is below it
  alone-codes : e.nodes ≡ 1 → CodesTo names (Hole 0) (trees (M.extent.here ∷ [])) (Node spot.symbol Leaf (Hole 0))
  alone-codes one = of here told (sym M.extent.nodes ∙ one)
    where
      of : (r : Tree) → slice_get (nodes t) n ≡ Some r → node_count r ≡ 1 → CodesTo names (Hole 0) (trees (r ∷ [])) (Node spot.symbol Leaf (Hole 0))
      of (node k m v ks) is c = (spot.symbol, Leaf, Hole 0, spot-pair names K t n spot s.code S k m v ks is, no-kids names ks (omega (arith, c)), refl, refl)

  pub alone-code : e.nodes ≡ 1 → (body : List Label) → IsTwinBody spot.symbol Bottom body → IsCodeOf names (M.extent.here ∷ []) body
  alone-code one body is = record { front = Node spot.symbol Leaf (Hole 0); codes = alone-codes one; is = is }

  -- where what is below it became a rule
  module _ (H : List Rule) (rule : ℕ) (X : SharesBelow (rules_of K) H rule n spot.symbol) where
    pub shared-stands : StandsFor X.shared names values t
    shared-stands = record { document = s.document; distinct = s.distinct; lawful = s.lawful; code = subst (Codes names (more t none)) (sym X.same) s.code; texts = s.texts }

    -- the node, by the code of what is below it
    record IsOver : Type 0 where
      kind : Kind
      name : List ℕ
      content : List ℕ
      kids : Trees
      is : M.extent.here ≡ node kind name content kids
      below : Codes names kids (value_at X.shared rule)

    over : IsOver
    over =
        let D = X.gets.differ in
        let coded : Codes names (more t none) (substitute D.around (Node X.gets.symbol X.gets.left X.gets.right ∷ [])) = subst (Codes names (more t none)) D.first shared-stands.code in
        let B = node-there names (more t none) D.around X.gets.symbol X.gets.left X.gets.right D.once coded in
        record {
          kind = B.kind;
          name = B.name;
          content = B.value;
          kids = B.kids;
          is = first-is here (node B.kind B.name B.value B.kids) M.extent.behind B.behind (sym M.extent.from_is ∙ ap (λ (i : ℕ). from_node i (more t none)) (sym D.before) ∙ B.is);
          below = subst (Codes names B.kids) X.left_is B.below;
        }

    pub over-codes : CodesTo names (Hole 0) (trees (M.extent.here ∷ [])) (Node spot.symbol (value_at X.shared rule) (Hole 0))
    over-codes =
        let O = over in
        let pair = spot-pair names K t n spot s.code S O.kind O.name O.content O.kids (told ∙ ap Some O.is) in
        subst (λ r. CodesTo names (Hole 0) (trees (r ∷ [])) (Node spot.symbol (value_at X.shared rule) (Hole 0))) (sym O.is)
        (spot.symbol, value_at X.shared rule, Hole 0, pair, O.below, refl, refl)

    -- how much the rule weighs
    pub rule-weighs : 1 < e.nodes → IsWeighed names (value_at X.shared rule) (e.nodes - 1) e.texts
    rule-weighs some =
        let O = over in
        let v : Term = value_at X.shared rule in
        let count : e.nodes ≡ node_count_all O.kids + 1 = M.extent.nodes ∙ ap node_count O.is in
        let none-own = own-none O.kind O.name O.content O.kids (subst IsLawfulTree O.is lawful) (omega (arith, some, count)) in
        let its : length (texts here) ≡ length (own O.kind O.content ++ (texts_all O.kids ++ [])) = ap (λ r. length (texts r)) O.is ∙ ap length (sym (texts-one (node O.kind O.name O.content O.kids)) ∙ texts_all-more O.kind O.name O.content O.kids none) in
        record {
          closed = code-closed names O.kids v O.below;
          nodes_are = omega (arith, nodes-coded names O.kids v O.below [], count);
          texts_are = omega (
            arith,
            texts-coded names O.kids v O.below [],
            M.extent.texts_are,
            its,
            length-append (own O.kind O.content) (texts_all O.kids ++ []),
            length-append (texts_all O.kids) [],
            none-own,
          );
        }
