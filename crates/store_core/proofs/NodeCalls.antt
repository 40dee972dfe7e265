-- What the tokens of a tree ask for.
use Rattle.std.proofs.Common.{◌≡◌, ℕ, false, List, [], ◌∷◌, ◌++◌, map, filter, Some, None, slice_get, refl, ap, sym, ◌∙◌, append_assoc, append-nil}
use Rattle.std.proofs.lemmas.List.{map-append}
use Rattle.std.proofs.lemmas.List.Elements.{filter-append}
use Rattle.plain_tree.specs.declared.kind.Kind.{Kind}
use Rattle.plain_tree.specs.declared.kind.Kind.TheVariants.{Document, Element, Attribute, Text, Comment, Instruction}
use Rattle.plain_tree.specs.Tree.{Tree, node, Trees, none, more}
use Rattle.plain_tree.specs.Numbers.{nodes, nodes_all, has_value, kind_of, value_of, values_of, texts, texts_all}
use Rattle.plain_tree.specs.Lawful.{IsDocument}
use Rattle.value_cursor.specs.Tokens.{Tells, TellsAll}
use Rattle.value_cursor.specs.declared.cursor.Token.{Token}
use Rattle.value_cursor.specs.declared.cursor.Token.TheVariants.{Open, Close}
use Rattle.xml_nodes.specs.Machine.{IsShaped, AreShaped}
use Rattle.xml_nodes.specs.Pen.{Leaf as LeafCall, calls, calls_all, document_calls}
use Rattle.xml_nodes.specs.Saved.{saved_bytes}
use Rattle.xml_nodes.proofs.Written.{calls-save_document}
use Rattle.store_core.specs.Saving.{Place, start_place, begin_call, end_call, texts_past, token_calls, tokens_text}
use Rattle.store_core.proofs.Shapes.{document_kids_shaped}

pub values_of-append : (xs ys : List Tree) → values_of (xs ++ ys) ≡ values_of xs ++ values_of ys
values_of-append xs ys = ap (map value_of) (filter-append (λ s. has_value (kind_of s)) xs ys) ∙ map-append value_of (filter (λ s. has_value (kind_of s)) xs) (filter (λ s. has_value (kind_of s)) ys)

abbrev place : List ℕ → List (List ℕ) → Place
place outer texts = record { outer = outer; texts = texts }

module _ (names : List (Kind × List ℕ)) where
  -- tokens ask for what a tree asks for, and what comes behind them for the same as before
  abbrev AskFor : Tree → List Token → List ℕ → List (List ℕ) → List Token → Type 0
  AskFor t ts outer later rest = token_calls names (place outer (texts t ++ later)) (ts ++ rest) ≡ calls t (token_calls names (place outer later) rest)

  -- a node that is written whole
  leaf_calls :
      (k : Kind) (n v : List ℕ) (f : ℕ) (outer : List ℕ) (later : List (List ℕ)) (rest : List Token) → slice_get names f ≡ Some (k, n)
      → begin_call (Some (k, n)) (v ∷ later) ≡ Some (LeafCall k n v) → texts_past (Some (k, n)) (v ∷ later) ≡ later → end_call (Some (k, n)) ≡ None
      → token_calls names (place outer (v ∷ later)) (Open f ∷ Close ∷ rest) ≡ LeafCall k n v ∷ token_calls names (place outer later) rest
  leaf_calls k n v f outer later rest named begins past ends = rw (named, begins, past, ends) refl

  leaf_told :
      (k : Kind) (n v : List ℕ) (ks : Trees) (f : ℕ) (outer : List ℕ) (later : List (List ℕ)) (rest : List Token) → slice_get names f ≡ Some (k, n)
      → begin_call (Some (k, n)) (v ∷ later) ≡ Some (LeafCall k n v) → texts_past (Some (k, n)) (v ∷ later) ≡ later → end_call (Some (k, n)) ≡ None → ks ≡ none
      → token_calls names (place outer (v ∷ (texts_all ks ++ later))) (Open f ∷ Close ∷ rest) ≡ LeafCall k n v ∷ token_calls names (place outer later) rest
  leaf_told k n v ks f outer later rest named begins past ends no_kids = rw no_kids (leaf_calls k n v f outer later rest named begins past ends)

  -- it has no tokens between its own
  whole_tokens : (k : Kind) (n v : List ℕ) (ks : Trees) (ts : List Token) → (told : Tells names (node k n v ks) ts) → ks ≡ none → ts ≡ Open told.0 ∷ Close ∷ []
  whole_tokens k n v ks ts told no_kids =
      let inner : TellsAll names none told.1 = rw no_kids at told.3 in
      told.4 ∙ ap (λ xs. Open told.0 ∷ xs ++ Close ∷ []) inner

  mutual
    pub told_calls : (t : Tree) (ts : List Token) (outer : List ℕ) (later : List (List ℕ)) (rest : List Token) → Tells names t ts → IsShaped t → AskFor t ts outer later rest
    told_calls (node Element n v ks) ts outer later rest told shaped =
        let kids = told_all ks told.1 (told.0 ∷ outer) later (Close ∷ rest) told.3 shaped.1 in
        rw (told.4, told.2, append_assoc told.1 (Close ∷ []) rest, kids, told.2) refl
    told_calls (node Document n v ks) ts outer later rest told shaped = absurd shaped
    told_calls (node Attribute n v ks) ts outer later rest told shaped =
        rw (whole_tokens Attribute n v ks ts told shaped) (leaf_told Attribute n v ks told.0 outer later rest told.2 refl refl refl shaped)
    told_calls (node Text n v ks) ts outer later rest told shaped =
        rw (whole_tokens Text n v ks ts told shaped) (leaf_told Text n v ks told.0 outer later rest told.2 refl refl refl shaped)
    told_calls (node Comment n v ks) ts outer later rest told shaped =
        rw (whole_tokens Comment n v ks ts told shaped) (leaf_told Comment n v ks told.0 outer later rest told.2 refl refl refl shaped)
    told_calls (node Instruction n v ks) ts outer later rest told shaped =
        rw (whole_tokens Instruction n v ks ts told shaped) (leaf_told Instruction n v ks told.0 outer later rest told.2 refl refl refl shaped)

    told_all : (trees : Trees) (ts : List Token) (outer : List ℕ) (later : List (List ℕ)) (rest : List Token) → TellsAll names trees ts → AreShaped trees
        → token_calls names (place outer (texts_all trees ++ later)) (ts ++ rest) ≡ calls_all trees (token_calls names (place outer later) rest)
    told_all none ts outer later rest told shaped = rw told refl
    told_all (more t trees) ts outer later rest told shaped =
        let others = told_all trees told.1 outer later rest told.3 shaped.1 in
        rw (told.4, append_assoc told.0 told.1 rest, values_of-append (nodes t) (nodes_all trees), append_assoc (texts t) (texts_all trees) later)
        (told_calls t told.0 outer (texts_all trees ++ later) (told.1 ++ rest) told.2 shaped.0 ∙ ap (calls t) others)

  -- the tokens of a document ask for the document's calls
  document_told : (t : Tree) (ts : List Token) → IsDocument t → Tells names t ts → token_calls names (start_place (texts t)) ts ≡ document_calls t
  document_told (node Document n v ks) ts is told =
      let kids = told_all ks told.1 (told.0 ∷ []) [] (Close ∷ []) told.3 (document_kids_shaped ks false is.lawful.1 is.lawful.2) in
      let all : texts (node Document n v ks) ≡ texts_all ks ++ [] = sym (append-nil (texts_all ks)) in
      rw (all, told.4, told.2, kids, told.2) refl
  document_told (node _ n v ks) ts is told = cc

-- what is written of a document's tokens is its saved bytes
pub document_saves : (names : List (Kind × List ℕ)) (t : Tree) (ts : List Token) → IsDocument t → Tells names t ts → tokens_text names (texts t) ts ≡ saved_bytes t
document_saves names t ts is told = rw (document_told names t ts is told) (calls-save_document t)
