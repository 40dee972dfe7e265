-- The texts of trees that change from a node on.
use Rattle.std.proofs.Common.{◌≡◌, ℕ, suc, ◌+◌, ◌<◌, ◌≤◌, List, [], ◌∷◌, ◌++◌, length, take, drop, true, refl, ap, sym, ◌∙◌, arith, append-nil, append_assoc, length-append}
use Rattle.std.specs.Prelude.{slice_set}
use Rattle.std.specs.List.{insert_slice, remove_range}
use Rattle.std.proofs.Math.Seq.{take-append_seam, drop-append_seam, take-append-add, drop-append-add}
use Rattle.std.proofs.lemmas.List.{take-append-le}
use Rattle.plain_tree.specs.declared.kind.Kind.{Kind}
use Rattle.plain_tree.specs.declared.kind.Kind.TheVariants.{Document, Element, Attribute, Text, Comment, Instruction}
use Rattle.plain_tree.specs.Numbers.{nodes, nodes_all, has_value, values_of, texts, texts_all}
use Rattle.plain_tree.specs.Tree.{Tree, node, Trees, none, more, node_count_all}
use Rattle.plain_tree.proofs.NodeCounts.{length-nodes_all}
use Rattle.slt_grammar.proofs.Standing.{own, values_of-append, texts_all-more}
use Rattle.plain_tree.specs.Edits.{changed, chained, with_first, with_kids, with_name, with_value, others, made}
use Rattle.plain_tree.specs.declared.edit.Edit.TheVariants.{Rename}
use Rattle.preorder_address.proofs.TreePlaces.{own-first}
use Rattle.plain_tree.proofs.Changing.{before-stays, each-node, changed-inside, more-later, from_node, from-inside, from-later, chained-more}
use Rattle.plain_tree.proofs.PlainEdits.{inserted, appended, valued_at, deleted}

-- how many texts belong to the nodes before node n
abbrev pub rank_in : ℕ → Trees → ℕ
rank_in n ts = length (values_of (take n (nodes_all ts)))

rank-more : (k : Kind) (m v : List ℕ) (ks : Trees) (xs : List Tree) → length (values_of (node k m v ks ∷ xs)) ≡ length (own k v) + length (values_of xs)
rank-more k m v ks xs =
    omega (arith, ap length (values_of-append (node k m v ks ∷ []) xs), length-append (values_of (node k m v ks ∷ [])) (values_of xs), own-first k m v ks)

rank-inside : (k : Kind) (m v : List ℕ) (ks ts : Trees) (n : ℕ) → n ≤ node_count_all ks → rank_in (suc n) (more (node k m v ks) ts) ≡ length (own k v) + rank_in n ks
rank-inside k m v ks ts n h =
    ap (λ xs. length (values_of (node k m v ks ∷ xs))) (take-append-le n (nodes_all ks) (nodes_all ts) (omega (arith, h, length-nodes_all ks))) ∙ rank-more k m v ks (take n (nodes_all ks))

rank-later : (k : Kind) (m v : List ℕ) (ks ts : Trees) (d : ℕ) → rank_in (suc (node_count_all ks + d)) (more (node k m v ks) ts) ≡ length (own k v) + (length (texts_all ks) + rank_in d ts)
rank-later k m v ks ts d =
    let i : node_count_all ks + d ≡ length (nodes_all ks) + d = omega (arith, length-nodes_all ks) in
    let t : take (node_count_all ks + d) (nodes_all ks ++ nodes_all ts) ≡ nodes_all ks ++ take d (nodes_all ts) = ap (λ (j : ℕ). take j (nodes_all ks ++ nodes_all ts)) i ∙ take-append-add (nodes_all ks) (nodes_all ts) d in
    ap (λ xs. length (values_of (node k m v ks ∷ xs))) t ∙ rank-more k m v ks (nodes_all ks ++ take d (nodes_all ts))
    ∙ omega (arith, ap length (values_of-append (nodes_all ks) (take d (nodes_all ts))), length-append (values_of (nodes_all ks)) (values_of (take d (nodes_all ts))))

-- the texts before and behind those of the siblings from node n on, whatever these become
pub record TextsAround (n : ℕ) (ts : Trees) : Type 0 where
  pub front : List (List ℕ)
  pub back : List (List ℕ)
  pub rank : length front ≡ rank_in n ts
  pub were : texts_all ts ≡ front ++ (texts_all (from_node n ts) ++ back)
  pub are : (f : Trees → Trees) → texts_all (changed more f n ts) ≡ front ++ (texts_all (f (from_node n ts)) ++ back)

inside-is : (o front mid back behind all : List (List ℕ)) → all ≡ o ++ ((front ++ (mid ++ back)) ++ behind) → all ≡ (o ++ front) ++ (mid ++ (back ++ behind))
inside-is o front mid back behind all e = e ∙ simp append_assoc

later-is : (o kids front mid back all : List (List ℕ)) → all ≡ o ++ (kids ++ (front ++ (mid ++ back))) → all ≡ (o ++ (kids ++ front)) ++ (mid ++ back)
later-is o kids front mid back all e = e ∙ simp append_assoc

pub texts-around : (n : ℕ) (ts : Trees) → n < node_count_all ts → TextsAround n ts
texts-around = each-node TextsAround
    (λ t ts. record { front = []; back = []; rank = refl; were = sym (append-nil (texts_all (more t ts))); are = λ f. sym (append-nil (texts_all (f (more t ts)))) })
    (λ k m v ks ts n h r. record {
      front = own k v ++ r.front;
      back = r.back ++ texts_all ts;
      rank = omega (arith, rank-inside k m v ks ts n (omega (arith, h)), r.rank, length-append (own k v) r.front);
      were = inside-is (own k v) r.front (texts_all (from_node (suc n) (more (node k m v ks) ts))) r.back (texts_all ts) (texts_all (more (node k m v ks) ts))
          (texts_all-more k m v ks ts ∙ ap (λ xs. own k v ++ (xs ++ texts_all ts)) (r.were ∙ ap (λ us. r.front ++ (texts_all us ++ r.back)) (sym (from-inside k m v ks ts n h))));
      are = λ f.
          inside-is (own k v) r.front (texts_all (f (from_node (suc n) (more (node k m v ks) ts)))) r.back (texts_all ts) (texts_all (changed more f (suc n) (more (node k m v ks) ts)))
          (ap texts_all (changed-inside more f k m v ks ts n h) ∙ texts_all-more k m v (changed more f n ks) ts
          ∙ ap (λ xs. own k v ++ (xs ++ texts_all ts)) (r.are f ∙ ap (λ us. r.front ++ (texts_all (f us) ++ r.back)) (sym (from-inside k m v ks ts n h))));
    })
    (λ k m v ks ts d h r. record {
      front = own k v ++ (texts_all ks ++ r.front);
      back = r.back;
      rank = omega (arith, rank-later k m v ks ts d, r.rank, length-append (own k v) (texts_all ks ++ r.front), length-append (texts_all ks) r.front);
      were = later-is (own k v) (texts_all ks) r.front (texts_all (from_node (suc (node_count_all ks + d)) (more (node k m v ks) ts))) r.back (texts_all (more (node k m v ks) ts))
          (texts_all-more k m v ks ts ∙ ap (λ xs. own k v ++ (texts_all ks ++ xs)) (r.were ∙ ap (λ us. r.front ++ (texts_all us ++ r.back)) (sym (from-later k m v ks ts d))));
      are = λ f.
          later-is (own k v) (texts_all ks) r.front (texts_all (f (from_node (suc (node_count_all ks + d)) (more (node k m v ks) ts)))) r.back (texts_all (changed more f (suc (node_count_all ks + d)) (more (node k m v ks) ts)))
          (ap texts_all (more-later f k m v ks ts d) ∙ texts_all-more k m v ks (changed more f d ts)
          ∙ ap (λ xs. own k v ++ (texts_all ks ++ xs)) (r.are f ∙ ap (λ us. r.front ++ (texts_all (f us) ++ r.back)) (sym (from-later k m v ks ts d))));
    })

-- a change from a node on leaves its rank
pub rank-stays : (f : Trees → Trees) (n : ℕ) (ts : Trees) → n < node_count_all ts → rank_in n (changed more f n ts) ≡ rank_in n ts
rank-stays f = each-node (λ n ts. rank_in n (changed more f n ts) ≡ rank_in n ts)
    (λ t ts. refl)
    (λ k m v ks ts n h r.
    ap (rank_in (suc n)) (changed-inside more f k m v ks ts n h) ∙ rank-inside k m v (changed more f n ks) ts n (omega (arith, before-stays f n ks h)) ∙ ap (λ (i : ℕ). length (own k v) + i) r
    ∙ sym (rank-inside k m v ks ts n (omega (arith, h))))
    (λ k m v ks ts d h r.
    ap (rank_in (suc (node_count_all ks + d))) (more-later f k m v ks ts d) ∙ rank-later k m v ks (changed more f d ts) d ∙ ap (λ (i : ℕ). length (own k v) + (length (texts_all ks) + i)) r
    ∙ sym (rank-later k m v ks ts d))

-- lists that are changed behind a front
set-at : (front rest : List (List ℕ)) (v w : List ℕ) (r : ℕ) → length front ≡ r → slice_set (front ++ v ∷ rest) r w ≡ front ++ w ∷ rest
set-at [] rest v w r e = ap (λ (i : ℕ). slice_set (v ∷ rest) i w) (sym e)
set-at (x ∷ front) rest v w r e = ap (λ (i : ℕ). slice_set (x ∷ (front ++ v ∷ rest)) i w) (sym e) ∙ ap (λ xs. x ∷ xs) (set-at front rest v w (length front) refl)

pub insert-at : (front rest new : List (List ℕ)) (r : ℕ) → length front ≡ r → insert_slice (front ++ rest) r new ≡ front ++ (new ++ rest)
insert-at front rest new r e =
    ap (λ (i : ℕ). insert_slice (front ++ rest) i new) (sym e) ∙ ap (λ xs. (xs ++ new) ++ drop (length front) (front ++ rest)) (take-append_seam front rest)
    ∙ ap (λ xs. (front ++ new) ++ xs) (drop-append_seam front rest) ∙ append_assoc front new rest

remove-at : (front gone rest : List (List ℕ)) (r c : ℕ) → length front ≡ r → length gone ≡ c → remove_range (front ++ (gone ++ rest)) r (r + c) ≡ front ++ rest
remove-at front gone rest r c e g =
    let i : length front + length gone ≡ r + c = omega arith in
    ap (λ (j : ℕ). take j (front ++ (gone ++ rest)) ++ drop (r + c) (front ++ (gone ++ rest))) (sym e) ∙ ap (λ (j : ℕ). take (length front) (front ++ (gone ++ rest)) ++ drop j (front ++ (gone ++ rest))) (sym i)
    ∙ ap (λ xs. xs ++ drop (length front + length gone) (front ++ (gone ++ rest))) (take-append_seam front (gone ++ rest))
    ∙ ap (λ xs. front ++ xs) (drop-append-add front (gone ++ rest) (length gone) ∙ drop-append_seam gone rest)

pub texts_all-chained : (ss us : Trees) → texts_all (chained more ss us) ≡ texts_all ss ++ texts_all us
texts_all-chained none us = refl
texts_all-chained (more t ss) us =
    ap texts_all (chained-more t ss us) ∙ values_of-append (nodes t) (nodes_all (chained more ss us)) ∙ ap (λ xs. texts t ++ xs) (texts_all-chained ss us)
    ∙ sym (append_assoc (texts t) (texts_all ss) (texts_all us)) ∙ ap (λ xs. xs ++ texts_all us) (sym (values_of-append (nodes t) (nodes_all ss)))

own-one : (k : Kind) (v : List ℕ) → has_value k ≡ true → own k v ≡ v ∷ []
own-one Document v e = cc
own-one Element v e = cc
own-one Attribute v e = refl
own-one Text v e = refl
own-one Comment v e = refl
own-one Instruction v e = refl

module _ (n : ℕ) (ts : Trees) (low : n < node_count_all ts) where
  around : TextsAround n ts
  around = texts-around n ts low

  r : ℕ
  r = rank_in n ts

  pub texts-inserted : (F : Trees) → texts_all (inserted more F n ts) ≡ insert_slice (texts_all ts) (rank_in n ts) (texts_all F)
  texts-inserted F =
      let A = around in
      let X : List (List ℕ) = texts_all (from_node n ts) in
      A.are (chained more F) ∙ ap (λ xs. A.front ++ (xs ++ A.back)) (texts_all-chained F (from_node n ts)) ∙ ap (λ xs. A.front ++ xs) (append_assoc (texts_all F) X A.back)
      ∙ sym (insert-at A.front (X ++ A.back) (texts_all F) (rank_in n ts) A.rank) ∙ ap (λ xs. insert_slice xs (rank_in n ts) (texts_all F)) (sym A.were)

  module _ (k : Kind) (m v : List ℕ) (ks us : Trees) (here : from_node n ts ≡ more (node k m v ks) us) where
    -- the texts of node n and of those below it
    abbrev pub its : List (List ℕ)
    its = own k v ++ texts_all ks

    texts-here : texts_all (from_node n ts) ≡ (own k v ++ texts_all ks) ++ texts_all us
    texts-here = ap texts_all here ∙ texts_all-more k m v ks us ∙ sym (append_assoc (own k v) (texts_all ks) (texts_all us))

    pub texts-deleted : texts_all (deleted n ts) ≡ remove_range (texts_all ts) (rank_in n ts) (rank_in n ts + length (own k v ++ texts_all ks))
    texts-deleted =
        let A = around in
        let X : List (List ℕ) = own k v ++ texts_all ks in
        A.are others ∙ ap (λ xs. A.front ++ (texts_all (others xs) ++ A.back)) here
        ∙ sym (remove-at A.front X (texts_all us ++ A.back) (rank_in n ts) (length X) A.rank refl)
        ∙ ap (λ xs. remove_range (A.front ++ xs) (rank_in n ts) (rank_in n ts + length X)) (sym (append_assoc X (texts_all us) A.back) ∙ ap (λ xs. xs ++ A.back) (sym texts-here))
        ∙ ap (λ xs. remove_range xs (rank_in n ts) (rank_in n ts + length X)) (sym A.were)

    pub texts-valued : (w : List ℕ) → has_value k ≡ true → texts_all (valued_at w n ts) ≡ slice_set (texts_all ts) (rank_in n ts) w
    texts-valued w h =
        let A = around in
        let rest : List (List ℕ) = (texts_all ks ++ texts_all us) ++ A.back in
        let new : texts_all (more (node k m w ks) us) ≡ w ∷ (texts_all ks ++ texts_all us) = texts_all-more k m w ks us ∙ ap (λ xs. xs ++ (texts_all ks ++ texts_all us)) (own-one k w h) in
        let old : texts_all (from_node n ts) ≡ v ∷ (texts_all ks ++ texts_all us) = ap texts_all here ∙ texts_all-more k m v ks us ∙ ap (λ xs. xs ++ (texts_all ks ++ texts_all us)) (own-one k v h) in
        A.are (with_first (with_value w)) ∙ ap (λ xs. A.front ++ (texts_all (with_first (with_value w) xs) ++ A.back)) here ∙ ap (λ xs. A.front ++ (xs ++ A.back)) new
        ∙ sym (set-at A.front rest v w (rank_in n ts) A.rank) ∙ ap (λ xs. slice_set (A.front ++ (xs ++ A.back)) (rank_in n ts) w) (sym old) ∙ ap (λ xs. slice_set xs (rank_in n ts) w) (sym A.were)

    pub texts-named : (x : List ℕ) → texts_all (made more (Rename n x) ts) ≡ texts_all ts
    texts-named x =
        let A = around in
        A.are (with_first (with_name x)) ∙ ap (λ xs. A.front ++ (texts_all (with_first (with_name x) xs) ++ A.back)) here
        ∙ ap (λ xs. A.front ++ (xs ++ A.back)) (texts_all-more k x v ks us ∙ sym (texts_all-more k m v ks us) ∙ ap texts_all (sym here)) ∙ sym A.were

    pub texts-appended : (F : Trees) → texts_all (appended more F n ts) ≡ insert_slice (texts_all ts) (rank_in n ts + length (own k v ++ texts_all ks)) (texts_all F)
    texts-appended F =
        let A = around in
        let X : List (List ℕ) = own k v ++ texts_all ks in
        let front : List (List ℕ) = A.front ++ X in
        let size : length front ≡ rank_in n ts + length X = omega (arith, length-append A.front X, A.rank) in
        let new : texts_all (more (node k m v (chained more ks F)) us) ≡ X ++ (texts_all F ++ texts_all us) =
        texts_all-more k m v (chained more ks F) us ∙ ap (λ xs. own k v ++ (xs ++ texts_all us)) (texts_all-chained ks F) ∙ simp append_assoc in
        let old : A.front ++ (texts_all (from_node n ts) ++ A.back) ≡ front ++ (texts_all us ++ A.back) = ap (λ xs. A.front ++ (xs ++ A.back)) texts-here ∙ simp append_assoc in
        A.are (with_first (with_kids (λ kids. chained more kids F))) ∙ ap (λ xs. A.front ++ (texts_all (with_first (with_kids (λ kids. chained more kids F)) xs) ++ A.back)) here ∙ ap (λ xs. A.front ++ (xs ++ A.back)) new
        ∙ regroup A.front X (texts_all F) (texts_all us) A.back ∙ sym (insert-at front (texts_all us ++ A.back) (texts_all F) (rank_in n ts + length X) size)
        ∙ ap (λ xs. insert_slice xs (rank_in n ts + length X) (texts_all F)) (sym old ∙ sym A.were)
      where
        regroup : (a x f u b : List (List ℕ)) → a ++ ((x ++ (f ++ u)) ++ b) ≡ (a ++ x) ++ (f ++ (u ++ b))
        regroup a x f u b = simp append_assoc
