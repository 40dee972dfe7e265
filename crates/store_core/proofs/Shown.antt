-- A node in document order, and what is written of it.
use Rattle.std.proofs.Common.{◌≡◌, ℕ, zero, suc, true, false, ◌+◌, ◌-◌, ◌<◌, ◌≤◌, ◌⊎◌, inl, inr, List, [], ◌∷◌, ◌++◌, length, take, drop, Some, None, slice_get, Option, refl, ap, sym, ◌∙◌, subst, append_assoc, append-nil, arith}
use Rattle.std.specs.Option.{option_map_or}
use Rattle.std.proofs.lemmas.Bool.{cases_lt}
use Rattle.std.proofs.lemmas.List.{drop-append-le, take-append-drop}
use Rattle.std.proofs.lemmas.Option.{slice_get-get_or, slice_get_within}
use Rattle.std.proofs.Math.Seq.{drop-append_seam, drop-append-add}
use Rattle.plain_tree.specs.declared.kind.Kind.{Kind}
use Rattle.plain_tree.specs.declared.kind.Kind.TheVariants.{Document, Element, Attribute, Text, Comment, Instruction}
use Rattle.plain_tree.specs.Numbers.{nodes, nodes_all, values_of, texts}
use Rattle.plain_tree.specs.Tree.{Tree, node, Trees, none, more, node_count}
use Rattle.plain_tree.proofs.NodeCounts.{length-nodes}
use Rattle.preorder_address.specs.TreeNumbers.{text_rank_at}
use Rattle.rule_arena.proofs.PreorderLemmas.{slice_get-left, slice_get-right}
use Rattle.value_cursor.specs.Cursors.{BeginsAtNode, tokens_of}
use Rattle.value_cursor.specs.Tokens.{Tells}
use Rattle.value_cursor.specs.declared.cursor.Token.{Token}
use Rattle.value_cursor.proofs.Subtrees.{cursors-tell-subtrees}
use Rattle.xml_nodes.specs.Machine.{IsShaped, AreShaped}
use Rattle.xml_nodes.specs.Pen.{calls, calls_text, new_pen}
use Rattle.xml_nodes.specs.Saved.{spelling}
use Rattle.xml_nodes.proofs.Written.{calls-write_tree}
use Rattle.store_core.specs.Saving.{start_place, token_calls, tokens_text}
use Rattle.store_core.specs.StoreOf.{parts_of}
use Rattle.store_core.specs.Texts.{shown_bytes}
use Rattle.store_core.specs.Walking.{walk_text}
use Rattle.store_core.specs.Worlds.{PartsStandFor}
use Rattle.tree_updates.specs.declared.store.Store.{Store}
use Rattle.store_core.specs.declared.walking.NodeWalk.{NodeWalk}
use Rattle.store_core.proofs.NodeCalls.{told_calls, values_of-append}
use Rattle.store_core.proofs.Shapes.{document_kids_shaped}
use Rattle.store_core.proofs.Walks.{walk_saves}

-- the node with this number, and the nodes below it, are next behind the nodes before it
pub record NodeIn (all : List Tree) (n : ℕ) (s : Tree) : Type 0 where
  pub after : List Tree
  pub there : drop n all ≡ nodes s ++ after
  pub shaped : IsShaped s

in-first : (xs ys : List Tree) (n : ℕ) (s : Tree) → n < length xs → NodeIn xs n s → NodeIn (xs ++ ys) n s
in-first xs ys n s h p = record {
  after = p.after ++ ys;
  there = drop-append-le n xs ys (omega arith) ∙ ap (λ zs. zs ++ ys) p.there ∙ append_assoc (nodes s) p.after ys;
  shaped = p.shaped;
}

in-later : (xs ys : List Tree) (n : ℕ) (s : Tree) → NodeIn ys n s → NodeIn (xs ++ ys) (length xs + n) s
in-later xs ys n s p = record { after = p.after; there = drop-append-add xs ys n ∙ p.there; shaped = p.shaped }

in-either :
    (xs ys : List Tree) (n : ℕ) (s : Tree) → ((m : ℕ) → slice_get xs m ≡ Some s → NodeIn xs m s) → ((m : ℕ) → slice_get ys m ≡ Some s → NodeIn ys m s)
    → slice_get (xs ++ ys) n ≡ Some s → (n < length xs) ⊎ (length xs ≤ n) → NodeIn (xs ++ ys) n s
in-either xs ys n s first later e (inl h) = in-first xs ys n s h (first n (sym (slice_get-left xs ys n h) ∙ e))
in-either xs ys n s first later e (inr h) =
    let m : ℕ = n - length xs in
    let same : length xs + m ≡ n = omega arith in
    subst (λ (i : ℕ). NodeIn (xs ++ ys) i s) same (in-later xs ys m s (later m (sym (slice_get-right xs ys m) ∙ (ap (slice_get (xs ++ ys)) same ∙ e))))

kids_shaped : (k : Kind) (n v : List ℕ) (ks : Trees) → IsShaped (node k n v ks) → AreShaped ks
kids_shaped Document n v ks shaped = absurd shaped
kids_shaped Element n v ks shaped = shaped.1
kids_shaped Attribute n v ks shaped = rw shaped tt
kids_shaped Text n v ks shaped = rw shaped tt
kids_shaped Comment n v ks shaped = rw shaped tt
kids_shaped Instruction n v ks shaped = rw shaped tt

mutual
  in_tree : (t : Tree) (n : ℕ) (s : Tree) → IsShaped t → slice_get (nodes t) n ≡ Some s → NodeIn (nodes t) n s
  in_tree (node k name v ks) zero s shaped e =
      let same : node k name v ks ≡ s = cc in
      subst (λ (r : Tree). NodeIn (node k name v ks ∷ nodes_all ks) 0 r) same (record { after = []; there = sym (append-nil (node k name v ks ∷ nodes_all ks)); shaped = shaped })
  in_tree (node k name v ks) (suc n) s shaped e =
      let p = in_trees ks n s (kids_shaped k name v ks shaped) e in
      record { after = p.after; there = p.there; shaped = p.shaped }

  in_trees : (ts : Trees) (n : ℕ) (s : Tree) → AreShaped ts → slice_get (nodes_all ts) n ≡ Some s → NodeIn (nodes_all ts) n s
  in_trees none n s shaped e = let past = slice_get_within [] n s e in absurd (omega arith)
  in_trees (more t ts) n s shaped e =
      in-either (nodes t) (nodes_all ts) n s (λ m. in_tree t m s shaped.0) (λ m. in_trees ts m s shaped.1) e (cases_lt n (length (nodes t)))

-- what is written of the tokens of a node below the document
told_text : (names : List (Kind × List ℕ)) (s : Tree) (ts : List Token) (later : List (List ℕ)) → IsShaped s → Tells names s ts → tokens_text names (texts s ++ later) ts ≡ spelling s ++ 10 ∷ []
told_text names s ts later shaped told =
    let all : token_calls names (start_place (texts s ++ later)) ts ≡ calls s [] =
    ap (token_calls names (start_place (texts s ++ later))) (sym (append-nil ts)) ∙ told_calls names s ts [] later [] told shaped in
    ap (calls_text (new_pen true)) all ∙ (calls-write_tree s (new_pen true) [] ∙ append-nil (spelling s ++ 10 ∷ []))

-- behind the texts of the nodes before it come its own
own_texts : (t : Tree) (n : ℕ) (s : Tree) (used : ℕ) → NodeIn (nodes t) n s → slice_get (nodes t) n ≡ Some s → text_rank_at t n ≡ Some used → (later : List (List ℕ)) × (drop used (texts t) ≡ texts s ++ later)
own_texts t n s used p e rank =
    let front = values_of (take n (nodes t)) in
    let own = texts s ++ values_of p.after in
    let many : Some (length front) ≡ Some used = rw e at rank in
    let same : length front ≡ used = cc in
    let split : texts t ≡ front ++ own =
    ap values_of (sym (take-append-drop n (nodes t)) ∙ ap (λ ys. take n (nodes t) ++ ys) p.there)
    ∙ (values_of-append (take n (nodes t)) (nodes s ++ p.after) ∙ ap (λ ys. front ++ ys) (values_of-append (nodes s) p.after)) in
    (values_of p.after, ap (drop used) split ∙ (ap (λ k. drop k (front ++ own)) (sym same) ∙ drop-append_seam front own))

no_texts : (t : Tree) (used : ℕ) → text_rank_at t 0 ≡ Some used → used ≡ 0
no_texts (node k n v ks) used e = cc

-- a number that isn't below a count is at least that
pub not_below : (n count : ℕ) → (n < count → ⊥) → count ≤ n
not_below n count never = past (cases_lt n count) where
  past : (n < count) ⊎ (count ≤ n) → count ≤ n
  past (inl h) = absurd (never h)
  past (inr h) = h

-- only numbers past the nodes have no texts before them
pub no_rank : (t : Tree) (n : ℕ) → None ≡ text_rank_at t n → node_count t ≤ n
no_rank t n e = not_below n (node_count t) (λ h.
    let there = slice_get-get_or (nodes t) n t (omega (arith, length-nodes t)) in
    let none = rw there at e in
    cc)

-- a number that has texts before it is below the count of nodes
pub ranked-there : (t : Tree) (n used : ℕ) → text_rank_at t n ≡ Some used → n < node_count t
ranked-there t n used e = there (slice_get (nodes t) n) refl
  where
    there : (found : Option Tree) → slice_get (nodes t) n ≡ found → n < node_count t
    there None is = let none = rw is at e in cc
    there (Some s) is = omega (arith, slice_get_within (nodes t) n s is, length-nodes t)

-- what is written of the node with a number is what shows it
pub walk_shows : (s : Store) (w : NodeWalk) (t : Tree) (number : ℕ) → PartsStandFor (parts_of s) t → BeginsAtNode s.grammar.rules number w.cursor → text_rank_at t number ≡ Some w.place.used → walk_text s w ≡ shown_bytes t number
walk_shows s w t zero stand begins rank = walk_saves s w t stand begins (no_texts t w.place.used rank)
walk_shows s w (node Document n v ks) (suc m) stand begins rank =
    let t : Tree = node Document n v ks in
    let found = cursors-tell-subtrees s.grammar.rules s.names t (suc m) w.cursor stand.code begins in
    let kid = in_trees ks m found.0 (document_kids_shaped ks false stand.document.lawful.1 stand.document.lawful.2) found.1 in
    let from = own_texts t (suc m) found.0 w.place.used (record { after = kid.after; there = kid.there; shaped = kid.shaped }) found.1 rank in
    (ap (λ xs. tokens_text s.names xs (tokens_of s.grammar.rules w.cursor)) (ap (drop w.place.used) stand.texts ∙ from.1) ∙ told_text s.names found.0 (tokens_of s.grammar.rules w.cursor) from.0 kid.shaped found.2) ∙ sym (ap (λ o. option_map_or (λ r. spelling r ++ 10 ∷ []) o []) found.1)
walk_shows s w (node _ n v ks) (suc m) stand begins rank = let is = stand.document.is_document in cc
