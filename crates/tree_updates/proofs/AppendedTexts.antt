-- A fragment of which the first text becomes one with the text behind which it comes.
use Rattle.std.proofs.Common.{◌≡◌, ◌≢◌, ℕ, zero, suc, ◌+◌, ◌-◌, ◌*◌, ◌<◌, ◌≤◌, ◌^◌, List, [], ◌∷◌, ◌++◌, length, take, drop, get_or, true, false, refl, ap, sym, ◌∙◌, subst, arith, Option, Some, inl}
use Rattle.std.specs.Prelude.{slice_set}
use Rattle.std.proofs.lemmas.List.{take_all}
use Rattle.std.proofs.Math.Bool.{true≢false}
use Rattle.plain_tree.specs.declared.edit.Edit.TheVariants.{Append, Value}
use Rattle.plain_tree.specs.declared.kind.Kind.{Kind}
use Rattle.plain_tree.specs.declared.kind.Kind.TheVariants.{Document, Element, Attribute, Text, Comment, Instruction}
use Rattle.plain_tree.specs.Additions.{new_pairs}
use Rattle.plain_tree.specs.Allowed.{IsAllowed, MayHaveValue}
use Rattle.plain_tree.specs.EditLaws.{IsEditOf}
use Rattle.plain_tree.specs.Edits.{chained, edited, first_or, made, placed}
use Rattle.plain_tree.specs.Joined.{join_front}
use Rattle.plain_tree.specs.Lawful.{AreChars, AreLawfulTrees, IsDocument}
use Rattle.plain_tree.specs.NodePairs.{Pair, pairs_of_trees}
use Rattle.plain_tree.specs.NodeTree.{tree_of, trees_of}
use Rattle.plain_tree.specs.declared.nodes.Node.{Node}
use Rattle.plain_tree.specs.Numbers.{kind_of, texts, value_of}
use Rattle.plain_tree.specs.Siblings.{begins_text, from_node}
use Rattle.plain_tree.specs.Tree.{Tree, node, Trees, none, more, trees, node_count, node_count_all}
use Rattle.plain_tree.proofs.Changing.{count-chained, from-deeper, from-inside}
use Rattle.plain_tree.proofs.EditCounts.{count-appended, edits-are-counted}
use Rattle.plain_tree.proofs.EditedDocuments.{edited-alone}
use Rattle.plain_tree.proofs.LawfulDocuments.{placed-alone}
use Rattle.plain_tree.proofs.LawfulEdits.{more-chars}
use Rattle.plain_tree.proofs.PlainEdits.{appended, append-apart, append-aside, append-meets, valued_at}
use Rattle.plain_tree.proofs.SeamTexts.{ends_text, text}
use Rattle.plain_tree.proofs.Seams.{leaf-texts}
use Rattle.plain_tree.proofs.TextsAt.{from-end, lawful-from}
use Rattle.slt_grammar.specs.Coding.{Codes}
use Rattle.fcns_encoding.specs.Interning.{Interns, IsIn}
use Rattle.preorder_address.specs.Spots.{place_at}
use Rattle.preorder_address.specs.TreeNumbers.{extent_at, kind_at, text_rank_at}
use Rattle.tree_updates.specs.CallAnswers.{is_text}
use Rattle.tree_updates.specs.FragmentGrowths.{IsEndSite, IsFragmentGrowth, MeetsAtEnd}
use Rattle.tree_updates.specs.Growths.{GetsText, GrowsInto}
use Rattle.tree_updates.specs.Stores.{IsStoreFor}
use Rattle.tree_updates.specs.declared.deleting_between.JoinedText.{JoinedText}
use Rattle.tree_updates.specs.declared.growing.Growth.{Growth}
use Rattle.tree_updates.specs.declared.growing.Site.{Site}
use Rattle.tree_updates.specs.declared.store.Store.{Store}
use Rattle.tree_updates.proofs.AppendedStores.{fragment-grows}
use Rattle.tree_updates.proofs.AttributeNames.{coded-from}
use Rattle.tree_updates.proofs.LastKids.{KidsOf, kids-of, last-kid-told, told-no-end}
use Rattle.tree_updates.proofs.MeetingTexts.{text-told}
use Rattle.tree_updates.proofs.NodePlaces.{placed as place-of-node, allowed-there}
use Rattle.tree_updates.proofs.NodesThere.{allowed-low, node-there}
use Rattle.tree_updates.proofs.Numbers.{told-text}
use Rattle.tree_updates.proofs.SpotExtents.{IsMeasured, measured}
use Rattle.tree_updates.proofs.StoreSteps.{low-at}
use Rattle.tree_updates.proofs.ValuedStores.{rank-within, stands-after}

-- what stands behind the first kids of node n
pub kid-there : (n : ℕ) (ts : Trees) → n < node_count_all ts → (k : Kind) (m v : List ℕ) (front rest us : Trees) → from_node n ts ≡ more (node k m v (chained more front rest)) us → 0 < node_count_all rest
    → from_node (n + suc (node_count_all front)) ts ≡ rest
kid-there n ts low k m v front rest us here some =
    let c : ℕ = node_count_all front in
    let kids : Trees = chained more front rest in
    let size : node_count_all (chained more front rest) ≡ c + node_count_all rest = count-chained front rest in
    from-deeper n ts low c (omega (arith, ap node_count_all here, size, some)) ∙ ap (from_node (suc c)) here ∙ from-inside k m v kids us c (omega (arith, size, some)) ∙ from-end front rest

-- the text that ends the kids of node n
pub end-there : (t : Tree) (n last : ℕ) (F : List Tree) (M : MeetsAtEnd t n last F) → from_node last (more t none) ≡ more (node Text [] M.before none) none
end-there t n last F M =
    let E = M.ends in
    let low = low-at n (more t none) E.kind E.name E.content (chained more E.front (more (node Text [] M.before none) none)) E.behind E.from_is in
    ap (λ (j : ℕ). from_node j (more t none)) E.last_is ∙ kid-there n (more t none) low E.kind E.name E.content E.front (more (node Text [] M.before none) none) E.behind E.from_is (omega arith)

first-same : (s r : Tree) (us vs : Trees) → more s us ≡ more r vs → s ≡ r
first-same s r us vs e = cc

-- a fragment that begins with a text
record BeginsText (F : List Tree) : Type 0 where
  pub value : List ℕ
  pub others : List Tree
  pub is : F ≡ node Text [] value none ∷ others

begins : (F : List Tree) → AreLawfulTrees (trees F) → begins_text (trees F) ≡ true → BeginsText F
begins [] l e = absurd (true≢false (sym e))
begins (node Text m v ks ∷ F) l e =
    let name : m ≡ [] = l.0.0.0 in
    let kids : ks ≡ none = l.0.1 in
    record { value = v; others = F; is = ap (λ (x : List ℕ). node Text x v ks ∷ F) name ∙ ap (λ (js : Trees). node Text [] v js ∷ F) kids }
begins (node Document m v ks ∷ F) l e = absurd (true≢false (sym e))
begins (node Element m v ks ∷ F) l e = absurd (true≢false (sym e))
begins (node Attribute m v ks ∷ F) l e = absurd (true≢false (sym e))
begins (node Comment m v ks ∷ F) l e = absurd (true≢false (sym e))
begins (node Instruction m v ks ∷ F) l e = absurd (true≢false (sym e))

pub kind-begins : (k : Kind) (m v : List ℕ) (ks us : Trees) → is_text (Some k) ≡ begins_text (more (node k m v ks) us)
kind-begins Text m v ks us = refl
kind-begins Document m v ks us = refl
kind-begins Element m v ks us = refl
kind-begins Attribute m v ks us = refl
kind-begins Comment m v ks us = refl
kind-begins Instruction m v ks us = refl

none-of : (ks : Trees) → node_count_all ks ≡ 0 → ks ≡ none
none-of none e = refl
none-of (more (node k m v js) us) e = absurd (omega (arith, e))

module _ (t : Tree) (n : ℕ) (F : List Tree) (edit : IsEditOf t (Append n F)) where
  low : n < node_count t
  low = allowed-low t (Append n F) edit.allowed

  all-low : n < node_count_all (more t none)
  all-low = omega (arith, low)

  lawful-all : AreLawfulTrees (more t none)
  lawful-all = (edit.document_is.lawful, tt)

  abbrev K : KidsOf n (more t none)
  K = kids-of n (more t none) all-low

  -- the fragment begins with no text
  pub no-first : begins_text (trees F) ≡ false → edited t (Append n F) ≡ placed t (Append n F)
  no-first e = ap (first_or t) (append-aside (trees F) n (more t none) all-low e)

  -- the kids end with none
  no-end : ends_text K.kids ≡ false → edited t (Append n F) ≡ placed t (Append n F)
  no-end e = ap (first_or t) (append-apart (trees F) n (more t none) all-low K.kind K.name K.value K.behind K.kids K.from_is e)

  module _ (below : ℕ) (told : Some below ≡ extent_at t n) where
    m : IsMeasured t n below
    m = measured t n below edit.document_is low told

    size : below ≡ node_count_all K.kids
    size = omega (arith, m.many, ap node_count (first-same m.here (node K.kind K.name K.value K.kids) m.behind K.behind (sym m.from_is ∙ K.from_is)))

    pub no-kids : below ≡ 0 → edited t (Append n F) ≡ placed t (Append n F)
    no-kids e = no-end (ap ends_text (none-of K.kids (omega (arith, e, size))))

    pub last-low : n + below < node_count t
    last-low = omega (arith, m.within)

    lawful-kids : AreLawfulTrees K.kids
    lawful-kids = let l : AreLawfulTrees (more (node K.kind K.name K.value K.kids) K.behind) = subst AreLawfulTrees K.from_is (lawful-from n (more t none) all-low lawful-all) in l.0.2

    one-less : below ≢ 0 → (c : ℕ) × (below ≡ suc c)
    one-less h = by_cases below refl
      where
        by_cases : (b : ℕ) → below ≡ b → (c : ℕ) × (below ≡ suc c)
        by_cases zero e = absurd (h e)
        by_cases (suc c) e = (c, e)

    -- what is told of the last node below: its kind, its place, and that of node n
    module _ (some : below ≢ 0) (kind : Option Kind) (kind-is : kind ≡ kind_at t (n + below)) (p q : ℕ) (place : Some p ≡ place_at t n) (last : Some q ≡ place_at t (n + below)) where
      abbrev c : ℕ
      c = (one-less some).0

      is : n + below ≡ n + suc c
      is = ap (λ (j : ℕ). n + j) (one-less some).1

      counted : suc c ≡ node_count_all K.kids
      counted = omega (arith, (one-less some).1, size)

      -- it is not a text and a kid
      told-apart : ((kind_at t (n + below) ≡ Some Text) × (q + 1 ≡ p + 2 * below) → ⊥) → edited t (Append n F) ≡ placed t (Append n F)
      told-apart h =
          no-end (told-no-end t n all-low c counted p q place (last ∙ ap (place_at t) is) (leaf-texts K.kids lawful-kids) (λ x. h (ap (kind_at t) is ∙ x.0, omega (arith, x.1, (one-less some).1))))

      pub no-text : is_text kind ≡ false → edited t (Append n F) ≡ placed t (Append n F)
      no-text e = told-apart (λ x. true≢false (sym (ap is_text (kind-is ∙ x.0)) ∙ e))

      pub no-kid : q + 1 ≢ p + 2 * below → edited t (Append n F) ≡ placed t (Append n F)
      no-kid h = told-apart (λ x. h x.1)

      -- it is a text, and a kid
      pub kid-meets : begins_text (trees F) ≡ true → is_text kind ≡ true → q + 1 ≡ p + 2 * below → MeetsAtEnd t n (n + below) F
      kid-meets first is-text is-kid =
          let W = last-kid-told t n all-low c counted p q place (last ∙ ap (place_at t) is) (omega (arith, is-kid, (one-less some).1)) in
          let B = begins F edit.parts.1.1 first in
          let X = told-text t edit.document_is.lawful (n + below) last-low (sym kind-is ∙ text-told kind is-text) in
          let here : from_node n (more t none) ≡ more (node K.kind K.name K.value (chained more W.front (more (node W.kind W.name W.value none) none))) K.behind =
          K.from_is ∙ ap (λ ks. more (node K.kind K.name K.value ks) K.behind) W.is in
          let there = kid-there n (more t none) all-low K.kind K.name K.value W.front (more (node W.kind W.name W.value none) none) K.behind here (omega arith) in
          let number : n + below ≡ n + suc (node_count_all W.front) = omega (arith, (one-less some).1, W.number) in
          let same : node W.kind W.name W.value none ≡ text X.0 = first-same (node W.kind W.name W.value none) (text X.0) none _ (sym there ∙ ap (λ (j : ℕ). from_node j (more t none)) (sym number) ∙ X.1) in
          record {
            before = X.0;
            first = B.value;
            others = B.others;
            ends = record {
              kind = K.kind;
              name = K.name;
              content = K.value;
              front = W.front;
              behind = K.behind;
              from_is = here ∙ ap (λ (r : Tree). more (node K.kind K.name K.value (chained more W.front (more r none))) K.behind) same;
              last_is = number;
            };
            begins = B.is;
          }

some-and : (x y : List ℕ) → x ≢ [] → (x ++ y) ≢ []
some-and [] y h = absurd (h refl)
some-and (c ∷ x) y h = λ e. cc

-- the steps: the text gets the value of both, and the others come behind it
module _ (s : Store) (t : Tree) (i : IsStoreFor s t) (n last : ℕ) (F : List Tree) (edit : IsEditOf t (Append n F)) (M : MeetsAtEnd t n last F) where
  host-low : n < node_count_all (more t none)
  host-low = let l = allowed-low t (Append n F) edit.allowed in omega (arith, l)

  last-there : from_node last (more t none) ≡ more (node Text [] M.before none) none
  last-there = end-there t n last F M

  last-within : last < node_count_all (more t none)
  last-within = low-at last (more t none) Text [] M.before none none last-there

  lawful-last : AreLawfulTrees (more (node Text [] M.before none) none)
  lawful-last = subst AreLawfulTrees last-there (lawful-from last (more t none) last-within (edit.document_is.lawful, tt))

  lawful-first : AreLawfulTrees (trees (node Text [] M.first none ∷ M.others))
  lawful-first = subst (λ (ts : List Tree). AreLawfulTrees (trees ts)) M.begins edit.parts.1.1

  chars : AreChars (M.before ++ M.first)
  chars = more-chars M.before M.first lawful-last.0.0.1.0 lawful-first.0.0.1.0

  some : (M.before ++ M.first) ≢ []
  some = some-and M.before M.first lawful-last.0.0.1.1

  value-allowed : IsAllowed t (Value last (M.before ++ M.first))
  value-allowed =
      let at = place-of-node t last (omega (arith, last-within)) in
      let same : node Text [] M.before none ≡ at.place.here = first-same (node Text [] M.before none) at.place.here none at.place.behind (sym last-there ∙ at.from) in
      allowed-there t (Value last (M.before ++ M.first)) at (subst (MayHaveValue (M.before ++ M.first)) (ap kind_of same) (chars, some))

  value-edit : IsEditOf t (Value last (M.before ++ M.first))
  value-edit = record { document_is = edit.document_is; allowed = value-allowed; parts = chars }

  one-alone : (made more (Value last (M.before ++ M.first)) (more t none) ≡ more (placed t (Value last (M.before ++ M.first))) none) × IsDocument (placed t (Value last (M.before ++ M.first)))
  one-alone = placed-alone t edit.document_is (Value last (M.before ++ M.first)) value-allowed chars

  pub one-count : node_count (placed t (Value last (M.before ++ M.first))) ≡ node_count t
  one-count = omega (arith, edits-are-counted t (Value last (M.before ++ M.first)) value-edit)

  edited-one : (made join_front (Append n F) (more t none) ≡ more (edited t (Append n F)) none) × IsDocument (edited t (Append n F))
  edited-one = edited-alone t edit.document_is (Append n F) edit.allowed edit.parts

  -- then the others come behind it
  others-come : made more (Append n M.others) (more (placed t (Value last (M.before ++ M.first))) none) ≡ more (edited t (Append n F)) none
  others-come =
      let E = M.ends in
      ap (appended more (trees M.others) n) (sym one-alone.0)
      ∙ ap (λ (j : ℕ). appended more (trees M.others) n (valued_at (M.before ++ M.first) j (more t none))) E.last_is
      ∙ sym (append-meets (trees M.others) n (more t none) host-low E.kind E.name E.content E.behind E.front M.before M.first E.from_is)
      ∙ ap (λ (ts : List Tree). appended join_front (trees ts) n (more t none)) (sym M.begins) ∙ edited-one.0

  one-low : n < node_count (placed t (Value last (M.before ++ M.first)))
  one-low = let l = allowed-low t (Append n F) edit.allowed in omega (arith, l, one-count)

  pub joined-count : node_count (edited t (Append n F)) ≡ node_count t + node_count_all (trees M.others)
  joined-count =
      let a = node-there (placed t (Value last (M.before ++ M.first))) n one-low in
      let low : n < node_count_all (more (placed t (Value last (M.before ++ M.first))) none) = omega (arith, one-low) in
      omega (arith, one-count, ap node_count_all others-come, count-appended n (more (placed t (Value last (M.before ++ M.first))) none) low a.kind a.name a.content a.kids a.behind a.here (trees M.others))

  -- the text in the list
  module _ (j : JoinedText) (rank : Some j.rank ≡ text_rank_at t last) (value : j.value ≡ M.before ++ M.first) where
    pub joined-text : GetsText s t j (placed t (Value last (M.before ++ M.first)))
    joined-text =
        let stand = stands-after s t i last (M.before ++ M.first) chars value-allowed j.rank rank in
        record {
          within = rank-within s t i last (M.before ++ M.first) chars value-allowed j.rank rank;
          texts_are = sym stand.texts ∙ ap (λ vs. slice_set vs j.rank (M.before ++ M.first)) i.stand.texts ∙ ap (slice_set (texts t) j.rank) (sym value);
          coded = record { document = stand.document; code = stand.code };
          count = one-count;
        }

  module _ (names : List Pair) (count : ℕ) (size : count ≡ node_count_all (trees M.others)) (site : Site) (h : IsEndSite (placed t (Value last (M.before ++ M.first))) n site) (g : Growth) (x : IsFragmentGrowth names M.others count site g) where
    pub joined-grows : node_count t + count < 2 ^ 63 → GrowsInto names (placed t (Value last (M.before ++ M.first))) (edited t (Append n F)) g
    joined-grows few =
        fragment-grows (placed t (Value last (M.before ++ M.first))) n one-low names M.others count size site h g x (edited t (Append n F)) others-come edited-one.1 (omega (arith, few, one-count))

  -- the pair of a text is in the table already
  text-in : IsIn (Text, []) s.names
  text-in =
      let a = coded-from s.names last (more t none) last-within _ i.stand.code in
      let c = subst (λ us. Codes s.names us a.0) last-there a.1 in
      (c.0, c.3)

  pairs-are : new_pairs t (Append n F) ≡ (Text, []) ∷ pairs_of_trees (trees M.others)
  pairs-are = ap (λ (ts : List Tree). pairs_of_trees (trees ts)) M.begins

  pub others-named : (names : List Pair) → Interns s.names (pairs_of_trees (trees M.others)) names → Interns s.names (new_pairs t (Append n F)) names
  others-named names grown = subst (λ (ps : List Pair). Interns s.names ps names) (sym pairs-are) (inl (text-in, grown))

  pub some-named : (k : ℕ) (names : List Pair) → Interns s.names (take k (pairs_of_trees (trees M.others))) names → Interns s.names (take (suc k) (new_pairs t (Append n F))) names
  some-named k names grown = subst (λ (ps : List Pair). Interns s.names (take (suc k) ps) names) (sym pairs-are) (inl (text-in, grown))

same-others : (s r : Tree) (ss rs : List Tree) → s ∷ ss ≡ r ∷ rs → ss ≡ rs
same-others s r ss rs e = cc

same-first : (s r : Tree) (ss rs : List Tree) → s ∷ ss ≡ r ∷ rs → s ≡ r
same-first s r ss rs e = cc

-- the nodes of such a fragment behind the first, and the value of that
pub others-are : (x : Node) (xs : List Node) (F : List Tree) (y : List ℕ) (R : List Tree) → trees_of (x ∷ xs) ≡ F → F ≡ node Text [] y none ∷ R → (trees_of xs ≡ R) × (x.value ≡ y)
others-are x xs F y R e b =
    let all : tree_of x ∷ trees_of xs ≡ node Text [] y none ∷ R = e ∙ b in
    (same-others (tree_of x) (node Text [] y none) (trees_of xs) R all, ap value_of (same-first (tree_of x) (node Text [] y none) (trees_of xs) R all))

-- a slice of them behind the first, and the value of that
pub others-behind : (ns : List Node) (F : List Tree) (y : List ℕ) (R : List Tree) → 1 ≤ length ns → trees_of ns ≡ F → F ≡ node Text [] y none ∷ R → trees_of (take (length ns - 1) (drop 1 ns)) ≡ R
others-behind [] F y R h e b = absurd (omega (arith, h))
others-behind (x ∷ xs) F y R h e b = ap trees_of (take_all (length (x ∷ xs) - 1) xs (omega arith)) ∙ (others-are x xs F y R e b).0

pub first-value : (ns : List Node) (F : List Tree) (y : List ℕ) (R : List Tree) → 1 ≤ length ns → trees_of ns ≡ F → F ≡ node Text [] y none ∷ R → (d : Node) → (get_or ns 0 d).value ≡ y
first-value [] F y R h e b d = absurd (omega (arith, h))
first-value (x ∷ xs) F y R h e b d = (others-are x xs F y R e b).1
