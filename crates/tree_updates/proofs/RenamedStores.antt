-- A store in which one node got another name.
use Rattle.std.proofs.Common.{◌≡◌, ℕ, ◌+◌, ◌-◌, ◌*◌, ◌<◌, ◌≤◌, List, [], ◌∷◌, length, take, refl, ap, sym, ◌∙◌, subst, arith, inr, Some, None}
use Rattle.std.specs.Prelude.{slice_get}
use Rattle.std.proofs.lemmas.Nat.{mul-le}
use Rattle.plain_tree.specs.declared.kind.Kind.{Kind}
use Rattle.plain_tree.specs.declared.edit.Edit.{Edit}
use Rattle.plain_tree.specs.declared.edit.Edit.TheVariants.{Rename}
use Rattle.plain_tree.specs.Additions.{new_pairs, renamed_pair}
use Rattle.plain_tree.specs.Allowed.{IsAllowed}
use Rattle.plain_tree.specs.EditLaws.{IsEditOf}
use Rattle.plain_tree.specs.Edits.{edited, merged}
use Rattle.plain_tree.specs.Lawful.{IsName}
use Rattle.plain_tree.specs.NodePairs.{Pair}
use Rattle.plain_tree.specs.Numbers.{kind_of}
use Rattle.plain_tree.specs.Siblings.{from_node}
use Rattle.plain_tree.specs.Tree.{Tree, node, Trees, none, more, node_count_all}
use Rattle.plain_tree.proofs.EditCounts.{edits-are-counted}
use Rattle.plain_tree.proofs.LawfulDocuments.{placed-becomes, place-low, stands}
use Rattle.slt_grammar.specs.Coding.{Codes}
use Rattle.slt_grammar.specs.Grammars.{size, value, IsGrammar, IsSwept}
use Rattle.slt_grammar.specs.Keyed.{Keyed, KeyedRule, key_at, rules_of}
use Rattle.slt_grammar.specs.Ranks.{greatest_rank}
use Rattle.slt_grammar.specs.RuleValues.{HaveOtherValues}
use Rattle.slt_grammar.specs.Standing.{StandsFor}
use Rattle.slt_grammar.specs.Terms.{Node, substitute}
use Rattle.slt_grammar.specs.declared.rules.Rule.{Rule}
use Rattle.fcns_encoding.specs.Interning.{Interns}
use Rattle.segment_counts.specs.Counting.{AreCounts, CountTable}
use Rattle.segment_counts.specs.Weights.{node_weight, valued}
use Rattle.digram_index.specs.Digrams.{occurrence_at}
use Rattle.digram_index.specs.Linked.{IsIndexOf, Linked, cell}
use Rattle.preorder_address.specs.TreeNumbers.{kind_at}
use Rattle.tree_updates.specs.Differences.{DifferThere}
use Rattle.tree_updates.specs.Numbered.{GetsSymbol}
use Rattle.tree_updates.specs.Stores.{IsEdited, IsRefused, IsStoreFor}
use Rattle.tree_updates.specs.declared.store.Store.{Store}
use Rattle.tree_updates.specs.declared.store.EditError.TheVariants.{Memory}
use Rattle.tree_updates.proofs.CodeEdits.{node-there}
use Rattle.tree_updates.proofs.GrownNames.{stands-with-new-names}
use Rattle.tree_updates.proofs.NodePlaces.{IsPlaced, placed, kind-there}
use Rattle.tree_updates.proofs.RegrownNames.{counts-grown, counts-relabelled}
use Rattle.tree_updates.proofs.Stands.{stands-named}

-- the index of a grammar is that of one with the same rules, whatever there is room for
pub index-again : (g h : Keyed) (I J : Linked) → IsIndexOf g I → h.rules ≡ g.rules → J.rules ≡ I.rules → ((k : ℕ) → cell J k ≡ cell I k) → IsIndexOf h J
index-again g h I J i e n c = record {
  rules = n ∙ i.rules ∙ ap length (sym e);
  all = λ r p key k. c key.number ∙ i.all r p key (ap (λ (R : List KeyedRule). key_at R r p) (sym e) ∙ k) ∙ ap (λ (R : List KeyedRule). occurrence_at R r p) (sym e);
  only = λ k d. let w = i.only k (λ z. d (c k ∙ z)) in (w.0, (w.1.0, (w.1.1.0, (ap (λ (R : List KeyedRule). key_at R w.1.0 w.1.1.0) e ∙ w.1.1.1.0, w.1.1.1.1))));
}

first-kind : (s r : Tree) (us vs : Trees) → more s us ≡ more r vs → kind_of s ≡ kind_of r
first-kind s r us vs e = let f : s ≡ r = cc in ap kind_of f

module _ (old : Store) (t : Tree) (i : IsStoreFor old t) (n : ℕ) (x : List ℕ) (name : IsName x) (allowed : IsAllowed t (Rename n x)) (kind : Kind) (told : Some kind ≡ kind_at t n)
    (names : List Pair) (grown : Interns old.names ((kind, x) ∷ []) names) (lawful : IsGrammar (rules_of old.grammar.rules)) where
  abbrev e : Edit
  e = Rename n x

  abbrev G : List Rule
  G = rules_of old.grammar.rules

  low : n < node_count_all (more t none)
  low = let s = stands t e allowed in place-low None none n (more t none) s.place s.there

  at : IsPlaced t n
  at = placed t n (omega (arith, low))

  kind-is : kind_of at.place.here ≡ kind
  kind-is = kind-there t n at kind told

  pairs-are : new_pairs t e ≡ (kind, x) ∷ []
  pairs-are = ap (renamed_pair x) at.there ∙ ap (λ (K : Kind). (K, x) ∷ []) kind-is

  edit-of : IsEditOf t e
  edit-of = record { document_is = i.stand.document; allowed = allowed; parts = name }

  grown-by : Interns old.names (new_pairs t e) names
  grown-by = subst (λ (ps : List Pair). Interns old.names ps names) (sym pairs-are) grown

  stands-still : StandsFor G names old.texts.texts t
  stands-still = stands-with-new-names G old.names names old.texts.texts t e i.stand edit-of grown-by

  counts-still : AreCounts names G old.counts
  counts-still = counts-grown G old.names ((kind, x) ∷ []) names t old.counts lawful i.swept i.stand.code grown i.counts

  -- memory was wanting once the name was there
  pub refused-grown : (grammar : Keyed) (index : Linked) → grammar.rules ≡ old.grammar.rules → IsIndexOf grammar index → IsRefused t e Memory old (record { grammar = grammar; names = names; texts = old.texts; counts = old.counts; index = index; marks = old.marks })
  refused-grown grammar index same indexed = record {
    cause = tt;
    store = record {
      stand = subst (λ (R : List KeyedRule). StandsFor (rules_of R) names old.texts.texts t) (sym same) stands-still;
      small = i.small;
      swept = subst (λ (R : List KeyedRule). IsSwept (rules_of R)) (sym same) i.swept;
      counts = subst (λ (R : List KeyedRule). AreCounts names (rules_of R) old.counts) (sym same) counts-still;
      index = indexed;
    };
    rules = ap rules_of same;
    texts = refl;
    names = inr (allowed, (1, subst (λ (ps : List Pair). Interns old.names (take 1 ps) names) (sym pairs-are) grown));
  }

  -- the node gets the symbol of the kind with the name
  module _ (H : List Rule) (symbol : ℕ) (pair : slice_get names symbol ≡ Some (kind, x)) (gets : GetsSymbol G H n symbol) where
    own-pair : (m : List ℕ) × (slice_get names gets.was ≡ Some (kind, m))
    own-pair =
        let d = gets.differ in
        let code : Codes names (more t none) (substitute d.around (Node gets.was gets.left gets.right ∷ [])) = subst (Codes names (more t none)) d.first stands-still.code in
        let b = node-there names (more t none) d.around gets.was gets.left gets.right d.once code in
        let k : b.kind ≡ kind_of at.place.here =
        first-kind (node b.kind b.name b.value b.kids) at.place.here b.behind at.place.behind (sym b.is ∙ ap (λ (j : ℕ). from_node j (more t none)) d.before ∙ at.from) in
        (b.name, b.pair ∙ ap (λ (K : Kind). Some (K, b.name)) (k ∙ kind-is))

    same-value : valued (slice_get names gets.was) ≡ valued (slice_get names symbol)
    same-value = ap valued own-pair.1 ∙ sym (ap valued pair)

    pub counts-after : HaveOtherValues (length G - 1) G H → AreCounts names H old.counts
    counts-after others = counts-relabelled names G H n gets.was symbol gets.left gets.right gets.differ others same-value old.counts counts-still

    module _ (K : List Rule) (same : value K ≡ value H) where
      differ : DifferThere node_weight G K n (Node gets.was gets.left gets.right) (Node symbol gets.left gets.right)
      differ = let d = gets.differ in record { around = d.around; once = d.once; before = d.before; first = d.first; second = same ∙ d.second }

      stands-after : StandsFor K names old.texts.texts (edited t e)
      stands-after = by_here at.place.here at.from kind-is
        where
          by_here : (s : Tree) → from_node n (more t none) ≡ more s at.place.behind → kind_of s ≡ kind → StandsFor K names old.texts.texts (edited t e)
          by_here (node k m v ks) f h =
              stands-named G K names old.texts.texts t stands-still n gets.was gets.left gets.right (Node symbol gets.left gets.right) differ k m v ks at.place.behind f symbol x refl (pair ∙ ap (λ (J : Kind). Some (J, x)) (sym h))
              (placed-becomes t i.stand.document e allowed name)

    pub renamed-store : (grammar : Keyed) (index : Linked) (counts : CountTable) → value (rules_of grammar.rules) ≡ value H → IsSwept (rules_of grammar.rules) → AreCounts names (rules_of grammar.rules) counts → IsIndexOf grammar index
        → size (rules_of grammar.rules) ≤ 2 * size G → greatest_rank (rules_of grammar.rules) ≤ greatest_rank G → IsEdited t e old (record { grammar = grammar; names = names; texts = old.texts; counts = counts; index = index; marks = old.marks })
    renamed-store grammar index counts same swept counted indexed small ranks = record {
      allowed = allowed;
      store = record {
        stand = stands-after (rules_of grammar.rules) same;
        small = omega (arith, edits-are-counted t e edit-of, i.small);
        swept = swept;
        counts = counted;
        index = indexed;
      };
      names = grown-by;
      ranks = ranks;
      size = omega (arith, small, mul-le 2 (size G) (2 + merged t e) (size G) (omega arith) (omega arith));
    }
