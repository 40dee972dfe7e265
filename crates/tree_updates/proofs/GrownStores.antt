-- Stores into which nodes and texts come, and stores whose names have grown.
use Rattle.std.proofs.Common.{◌≡◌, ℕ, ◌+◌, ◌*◌, ◌<◌, ◌≤◌, ◌^◌, List, [], ◌∷◌, ◌++◌, length, take, drop, ap, sym, ◌∙◌, subst, arith, length-append}
use Rattle.std.specs.Prelude.{slice_set}
use Rattle.std.specs.List.{insert_slice}
use Rattle.std.proofs.lemmas.List.{length-take-le, length-drop}
use Rattle.plain_tree.specs.NodePairs.{Pair}
use Rattle.plain_tree.specs.Numbers.{nodes, texts, values_of}
use Rattle.plain_tree.specs.Tree.{Tree, node, none, more, node_count}
use Rattle.plain_tree.specs.declared.kind.Kind.TheVariants.{Document, Element, Attribute, Text, Comment, Instruction}
use Rattle.plain_tree.proofs.NodeCounts.{length-nodes}
use Rattle.slt_grammar.specs.Coding.{Codes}
use Rattle.slt_grammar.specs.Grammars.{IsGrammar, value}
use Rattle.slt_grammar.specs.Keyed.{Keyed, KeyedRule, rules_of}
use Rattle.digram_index.specs.Linked.{IsIndexOf}
use Rattle.slt_grammar.specs.Standing.{StandsFor}
use Rattle.slt_grammar.specs.declared.rules.Rule.{Rule}
use Rattle.fcns_encoding.specs.Interning.{Interns}
use Rattle.fcns_encoding.specs.Laws.{AreLawful}
use Rattle.segment_counts.specs.Changes.{HasMore, start_weights}
use Rattle.segment_counts.specs.Counting.{AreCounts, CountTable}
use Rattle.segment_counts.specs.declared.counts.Measure.TheVariants.{Nodes, Texts, All}
use Rattle.segment_counts.proofs.Coded.{nodes-coded}
use Rattle.segment_counts.proofs.Telling.{total-told}
use Rattle.preorder_address.proofs.TreePlaces.{all-coded, texts-coded}
use Rattle.slt_grammar.proofs.Standing.{texts-one}
use Rattle.tree_updates.specs.CodePlaces.{ComesAround}
use Rattle.tree_updates.specs.Extents.{IsUnsweptFor}
use Rattle.tree_updates.specs.Growths.{GetsText, GrowsInto}
use Rattle.tree_updates.specs.Stores.{IsStoreFor}
use Rattle.tree_updates.specs.declared.deleting_between.JoinedText.{JoinedText}
use Rattle.tree_updates.specs.declared.growing.Growth.{Growth}
use Rattle.tree_updates.specs.declared.store.Store.{Store}
use Rattle.tree_updates.proofs.GrownNames.{stands-grown}
use Rattle.tree_updates.proofs.Recounted.{has-more}
use Rattle.tree_updates.proofs.RegrownNames.{counts-grown}

length-inserted : (xs ys : List (List ℕ)) (r : ℕ) → r ≤ length xs → length (insert_slice xs r ys) ≡ length xs + length ys
length-inserted xs ys r h = omega (arith, h, length-append (take r xs ++ ys) (drop r xs), length-append (take r xs) ys, length-take-le r xs h, length-drop r xs)

-- no node has more than one text
values-few : (ts : List Tree) → length (values_of ts) ≤ length ts
values-few [] = omega arith
values-few (node Document m v ks ∷ ts) = omega (arith, values-few ts)
values-few (node Element m v ks ∷ ts) = omega (arith, values-few ts)
values-few (node Attribute m v ks ∷ ts) = omega (arith, values-few ts)
values-few (node Text m v ks ∷ ts) = omega (arith, values-few ts)
values-few (node Comment m v ks ∷ ts) = omega (arith, values-few ts)
values-few (node Instruction m v ks ∷ ts) = omega (arith, values-few ts)

pub texts-few : (t : Tree) → length (texts t) ≤ node_count t
texts-few t = omega (arith, values-few (nodes t), length-nodes t)

module _ (G H : List Rule) (names : List Pair) (values : List (List ℕ)) (t u : Tree) (s : StandsFor G names values t) (g : Growth) (x : GrowsInto names t u g) where
  pub rank-fits : g.site.rank ≤ length values
  rank-fits = omega (arith, x.rank, ap length s.texts)

  length-after : length (insert_slice values g.site.rank g.texts) ≡ length values + length g.texts
  length-after = length-inserted values g.texts g.site.rank rank-fits

  module _ (c : ComesAround G H g.site.place x.front) where
    pub grown-stands : StandsFor H names (insert_slice values g.site.rank g.texts) u
    grown-stands = record {
      document = x.document;
      distinct = s.distinct;
      lawful = s.lawful;
      code = let d = c.differ in subst (Codes names (more u none)) (sym d.second) (x.code d.around c.this d.once d.before (subst (Codes names (more t none)) d.first s.code));
      texts = ap (λ vs. insert_slice vs g.site.rank g.texts) s.texts ∙ sym x.texts_are;
    }

    pub grown-more : HasMore names (value G) (value H) g.nodes (length g.texts)
    grown-more = has-more G H names values (insert_slice values g.site.rank g.texts) t u g.nodes (length g.texts) s grown-stands x.nodes length-after

  -- the counts have room for what comes
  module _ (C : CountTable) (a : AreCounts names G C) (l : IsGrammar G) where
    pub nodes-come : (start_weights C).nodes + g.nodes < 2 ^ 64
    nodes-come = omega (arith, x.small, x.nodes, nodes-coded names (more t none) (value G) s.code [], total-told names G C a l Nodes)

    pub all-come : (start_weights C).all + 2 * g.nodes < 2 ^ 64
    all-come = omega (arith, x.small, x.nodes, all-coded names (more t none) (value G) s.code [], total-told names G C a l All)

    pub texts-come : (start_weights C).texts + length g.texts < 2 ^ 64
    texts-come = omega (
      arith,
      x.small,
      texts-few u,
      ap length x.texts_are,
      length-inserted (texts t) g.texts g.site.rank x.rank,
      texts-coded names (more t none) (value G) s.code [],
      ap length (texts-one t),
      total-told names G C a l Texts,
    )

-- the texts that come are fewer than all
pub growth-few : (names : List Pair) (t u : Tree) (g : Growth) → GrowsInto names t u g → length g.texts < 2 ^ 63
growth-few names t u g x = omega (arith, x.small, texts-few u, ap length x.texts_are, length-inserted (texts t) g.texts g.site.rank x.rank)

-- a store with names that have grown
pub with-names : (s : Store) (t : Tree) (i : IsStoreFor s t) (pairs new : List Pair) → Interns s.names pairs new → AreLawful pairs → IsGrammar (rules_of s.grammar.rules)
    → IsStoreFor (record { grammar = s.grammar; names = new; texts = s.texts; counts = s.counts; index = s.index; marks = s.marks }) t
with-names s t i pairs new grown lawful g = record {
  stand = stands-grown (rules_of s.grammar.rules) s.names pairs new s.texts.texts t i.stand grown lawful;
  small = i.small;
  swept = i.swept;
  counts = counts-grown (rules_of s.grammar.rules) s.names pairs new t s.counts g i.swept i.stand.code grown i.counts;
  index = i.index;
}

-- a store in which a text has got another value
pub with-text : (s : Store) (t one : Tree) (i : IsStoreFor s t) (j : JoinedText) (h : GetsText s t j one) (new : Store) → new.grammar ≡ s.grammar → new.names ≡ s.names → new.counts ≡ s.counts → new.index ≡ s.index → new.texts.texts ≡ slice_set s.texts.texts j.rank j.value
    → IsUnsweptFor new one
with-text s t one i j h new grammar names counts index list =
    let stand : StandsFor (rules_of s.grammar.rules) s.names new.texts.texts one = record {
      document = h.coded.document;
      distinct = i.stand.distinct;
      lawful = i.stand.lawful;
      code = h.coded.code;
      texts = list ∙ ap (λ vs. slice_set vs j.rank j.value) i.stand.texts ∙ sym h.texts_are;
    } in
    record {
      stand = subst (λ (g : Keyed). StandsFor (rules_of g.rules) new.names new.texts.texts one) (sym grammar) (subst (λ ps. StandsFor (rules_of s.grammar.rules) ps new.texts.texts one) (sym names) stand);
      small = omega (arith, h.count, i.small);
      counts = subst (λ (g : Keyed). AreCounts new.names (rules_of g.rules) new.counts) (sym grammar)
          (subst (λ ps. AreCounts ps (rules_of s.grammar.rules) new.counts) (sym names) (subst (λ cs. AreCounts s.names (rules_of s.grammar.rules) cs) (sym counts) i.counts));
      index = subst (λ (g : Keyed). IsIndexOf g new.index) (sym grammar) (subst (λ x. IsIndexOf s.grammar x) (sym index) i.index);
    }

-- the same of a store with more room
pub text-stays : (s new : Store) (t one : Tree) (j : JoinedText) → new.texts.texts ≡ s.texts.texts → new.names ≡ s.names → new.grammar.rules ≡ s.grammar.rules → GetsText s t j one → GetsText new t j one
text-stays s new t one j texts names rules h = record {
  within = omega (arith, h.within, ap length texts);
  texts_are = h.texts_are;
  coded = record {
    document = h.coded.document;
    code = subst (λ (R : List KeyedRule). Codes new.names (more one none) (value (rules_of R))) (sym rules) (subst (λ ps. Codes ps (more one none) (value (rules_of s.grammar.rules))) (sym names) h.coded.code);
  };
  count = h.count;
}
