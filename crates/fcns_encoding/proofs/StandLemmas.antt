-- What a folder that is finished got.
use Rattle.std.proofs.Common.{◌≡◌, ℕ, ◌*◌, ◌≤◌, false, List, [], ◌∷◌, ◌++◌, map, length, Some, slice_get, refl, ap, sym, ◌∙◌, subst, append-nil}
use Rattle.std.specs.Prelude.{Option, None}
use Rattle.std.specs.Prelude.{Result, Ok, Err, IfOk}
use Rattle.plain_tree.specs.declared.kind.Kind.TheVariants as kind
use Rattle.plain_tree.specs.Lawful.{IsDocument}
use Rattle.plain_tree.specs.Numbers.{nodes_all, texts, values_of}
use Rattle.plain_tree.specs.Tree.{Tree, node, Trees, none, more}
use Rattle.slt_grammar.proofs.Standing.{code-one}
use Rattle.slt_grammar.specs.Coding.{Codes}
use Rattle.slt_grammar.specs.Grammars.{size, value}
use Rattle.slt_grammar.specs.Standing.{StandsFor}
use Rattle.slt_grammar.specs.Terms.{Term, Leaf, Node}
use Rattle.slt_grammar.specs.declared.rules.Rule.{Rule}
use Rattle.xml_nodes.proofs.One.{all-inj}
use Rattle.xml_nodes.specs.Machine.{Event, events, events_all, AreShaped}
use Rattle.fcns_encoding.specs.Calls.{started_pairs, event_texts}
use Rattle.fcns_encoding.specs.Folding.{Taken, Stood}
use Rattle.fcns_encoding.specs.Interning.{Pair, Interns, tree_pair, pairs_of_tree}
use Rattle.fcns_encoding.specs.Subterms.{AreSubterms}
use Rattle.fcns_encoding.specs.declared.part.Part.{Part}
use Rattle.fcns_encoding.proofs.EventLemmas.{trees-texts, trees-pairs}
use Rattle.fcns_encoding.proofs.InternLemmas.{KeepsPlaces, Codes-keeps, Interns-distinct}
use Rattle.fcns_encoding.proofs.LawfulLemmas.{names-lawful}
use Rattle.fcns_encoding.proofs.ShapeLemmas.{document_kids_shaped}

-- a lawful document is one over shaped kids
record IsOver (t : Tree) : Type 0 where
  kids : Trees
  is : t ≡ node kind.Document [] [] kids
  shaped : AreShaped kids

over : (t : Tree) → IsDocument t → IsOver t
over (node kind.Document n v ks) d =
    let l = d.lawful in
    let name : n ≡ [] = l.0.0 in
    let value : v ≡ [] = l.0.1 in
    record { kids = ks; is = cc; shaped = document_kids_shaped ks false l.1 l.2 }
over (node kind.Element n v ks) d = let e : kind.Element ≡ kind.Document = d.is_document in cc
over (node kind.Attribute n v ks) d = let e : kind.Attribute ≡ kind.Document = d.is_document in cc
over (node kind.Text n v ks) d = let e : kind.Text ≡ kind.Document = d.is_document in cc
over (node kind.Comment n v ks) d = let e : kind.Comment ≡ kind.Document = d.is_document in cc
over (node kind.Instruction n v ks) d = let e : kind.Instruction ≡ kind.Document = d.is_document in cc

-- A grammar has the code of a document whose kids have these calls, with their names and texts.
pub record Folds (G : List Rule) (names : List Pair) (values : List (List ℕ)) (log : List Event) : Type 0 where
  pub kids : Trees
  pub shaped : AreShaped kids
  pub whole : log ≡ events_all kids []
  pub code : Codes names (more (node kind.Document [] [] kids) none) (value G)
  pub named : Interns [] (started_pairs log) names
  pub texts : values ≡ event_texts log

pub folds : (G : List Rule) (told names : List Pair) (terms : List Term) (values : List (List ℕ)) (parts : List Part) (log : List Event) (number document : ℕ) (begun : Option ℕ)
    → begun ≡ None → (w : Taken told terms parts log number begun) → KeepsPlaces told names → Interns [] (started_pairs log) names → slice_get names document ≡ Some (kind.Document, []) → values ≡ event_texts log
    → value G ≡ Node document w.term Leaf → Folds G names values log
folds G told names terms values parts log number document begun eb w keeps named place texts v =
    record {
      kids = w.kids;
      shaped = w.shaped;
      whole = w.whole ∙ ap (λ es. es ++ events_all w.kids []) (nothing begun eb w.stood);
      code = (document, w.term, Leaf, place, Codes-keeps told names keeps w.kids w.term w.codes, refl, v);
      named = named;
      texts = texts;
    }
  where
    nothing : (b : Option ℕ) → b ≡ None → Stood told terms parts w.front b → w.front ≡ []
    nothing None e s = s.1
    nothing (Some x) e s = cc

module _ (G : List Rule) (names : List Pair) (values : List (List ℕ)) (log : List Event) (f : Folds G names values log) (t : Tree) (doc : IsDocument t) (calls : log ≡ events t []) where
  same_kids : f.kids ≡ (over t doc).kids
  same_kids =
      let o = over t doc in
      (all-inj f.kids o.kids [] [] f.shaped o.shaped tt tt (sym f.whole ∙ calls ∙ ap (λ u. events u []) o.is)).0

  same_tree : node kind.Document [] [] f.kids ≡ t
  same_tree = ap (node kind.Document [] []) same_kids ∙ sym (over t doc).is

  pub folded-names : Interns [] (pairs_of_tree t) names
  folded-names =
      let pairs : started_pairs log ≡ pairs_of_tree t =
      ap started_pairs f.whole ∙ ap (λ ps. (kind.Document, []) ∷ ps) (trees-pairs f.kids [] f.shaped ∙ append-nil (map tree_pair (nodes_all f.kids))) ∙ ap pairs_of_tree same_tree in
      subst (λ ps. Interns [] ps names) pairs f.named

  pub folded-stands : StandsFor G names values t
  folded-stands =
      record {
        document = doc;
        distinct = Interns-distinct [] (pairs_of_tree t) names folded-names (λ k n i j a b. cc);
        lawful = names-lawful t [] names doc folded-names (λ i k n e. cc);
        code = subst (λ u. Codes names (more u none) (value G)) same_tree f.code;
        texts = f.texts ∙ ap event_texts f.whole ∙ trees-texts f.kids [] f.shaped ∙ append-nil (values_of (nodes_all f.kids)) ∙ ap texts same_tree;
      }

  -- the grammar is at most three times as large as the document's code has subterms
  pub folded-small : (term : Term) (terms : List Term) → Codes names (more t none) term → AreSubterms terms term → ((all : List Term) → AreSubterms all (value G) → size G ≤ 3 * length all) → size G ≤ 3 * length terms
  folded-small term terms code are small =
      let s = folded-stands in small terms (subst (AreSubterms terms) (code-one names s.distinct (more t none) term (value G) code s.code) are)

-- what two facts of a value come to
pub follows : {T E : Type 0} (P Q R : T → Type 0) (r : Result T E) → IfOk r P → IfOk r Q → ((x : T) → P x → Q x → R x) → IfOk r R
follows P Q R (Ok x) p q h = h x p q
follows P Q R (Err e) p q h = tt
