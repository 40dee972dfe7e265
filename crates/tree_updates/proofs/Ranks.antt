-- Text ranks: how many texts belong to the nodes before a number.
use Rattle.std.proofs.Common.{◌≡◌, ℕ, suc, ◌+◌, ◌<◌, List, [], ◌∷◌, ◌++◌, length, take, refl, ap, sym, ◌∙◌, arith, append-nil, append_assoc, length-append, Some}
use Rattle.std.specs.Prelude.{slice_get, option_map}
use Rattle.std.proofs.Math.Seq.{take-append_seam, take-append-add}
use Rattle.plain_tree.specs.declared.kind.Kind.{Kind}
use Rattle.plain_tree.specs.declared.kind.Kind.TheVariants.{Document, Element, Attribute, Text, Comment, Instruction}
use Rattle.plain_tree.specs.Edits.{chained}
use Rattle.plain_tree.specs.Numbers.{nodes, nodes_all, values_of, texts_all}
use Rattle.plain_tree.specs.Tree.{Tree, node, Trees, none, more, node_count, node_count_all}
use Rattle.plain_tree.proofs.NodeCounts.{length-nodes, length-nodes_all}
use Rattle.slt_grammar.proofs.Standing.{own, values_of-append, texts_all-more, texts-one}
use Rattle.preorder_address.specs.TreeNumbers.{text_rank_at}
use Rattle.plain_tree.proofs.Changing.{chained-more, each-node, from_node, from-inside, from-later}
use Rattle.rule_arena.proofs.PreorderLemmas.{slice_get-left}
use Rattle.preorder_address.proofs.TreePlaces.{get-right}
use Rattle.tree_updates.proofs.Texts.{rank_in}

-- the nodes before and behind those of the siblings from node n on
pub record NodesAround (n : ℕ) (ts : Trees) : Type 0 where
  pub front : List Tree
  pub back : List Tree
  pub number : length front ≡ n
  pub were : nodes_all ts ≡ front ++ (nodes_all (from_node n ts) ++ back)

inside-is : (t : Tree) (front mid back behind all : List Tree) → all ≡ t ∷ ((front ++ (mid ++ back)) ++ behind) → all ≡ (t ∷ front) ++ (mid ++ (back ++ behind))
inside-is t front mid back behind all e = e ∙ ap (λ xs. t ∷ xs) (append_assoc front (mid ++ back) behind ∙ ap (λ xs. front ++ xs) (append_assoc mid back behind))

later-is : (t : Tree) (kids front mid back all : List Tree) → all ≡ t ∷ (kids ++ (front ++ (mid ++ back))) → all ≡ (t ∷ (kids ++ front)) ++ (mid ++ back)
later-is t kids front mid back all e = e ∙ ap (λ xs. t ∷ xs) (sym (append_assoc kids front (mid ++ back)))

pub nodes-around : (n : ℕ) (ts : Trees) → n < node_count_all ts → NodesAround n ts
nodes-around = each-node NodesAround
    (λ t ts. record { front = []; back = []; number = refl; were = sym (append-nil (nodes_all (more t ts))) })
    (λ k m v ks ts n h r. record {
      front = node k m v ks ∷ r.front;
      back = r.back ++ nodes_all ts;
      number = ap suc r.number;
      were = inside-is (node k m v ks) r.front (nodes_all (from_node (suc n) (more (node k m v ks) ts))) r.back (nodes_all ts) (nodes_all (more (node k m v ks) ts))
          (ap (λ xs. node k m v ks ∷ (xs ++ nodes_all ts)) (r.were ∙ ap (λ us. r.front ++ (nodes_all us ++ r.back)) (sym (from-inside k m v ks ts n h))));
    })
    (λ k m v ks ts d h r. record {
      front = node k m v ks ∷ (nodes_all ks ++ r.front);
      back = r.back;
      number = omega (arith, length-append (nodes_all ks) r.front, length-nodes_all ks, r.number);
      were = later-is (node k m v ks) (nodes_all ks) r.front (nodes_all (from_node (suc (node_count_all ks + d)) (more (node k m v ks) ts))) r.back (nodes_all (more (node k m v ks) ts))
          (ap (λ xs. node k m v ks ∷ (nodes_all ks ++ xs)) (r.were ∙ ap (λ us. r.front ++ (nodes_all us ++ r.back)) (sym (from-later k m v ks ts d))));
    })

-- behind node n and all below it, its texts come before
pub rank-behind : (n : ℕ) (ts : Trees) → n < node_count_all ts → (k : Kind) (m v : List ℕ) (ks us : Trees) → from_node n ts ≡ more (node k m v ks) us
    → rank_in (n + (node_count_all ks + 1)) ts ≡ rank_in n ts + length (own k v ++ texts_all ks)
rank-behind n ts low k m v ks us here =
    let r = nodes-around n ts low in
    let t : Tree = node k m v ks in
    let rest : List Tree = nodes_all us ++ r.back in
    let all : nodes_all ts ≡ r.front ++ (nodes t ++ rest) = r.were ∙ ap (λ xs. r.front ++ (nodes_all xs ++ r.back)) here ∙ ap (λ xs. r.front ++ xs) (append_assoc (nodes t) (nodes_all us) r.back) in
    let i : n + (node_count_all ks + 1) ≡ length r.front + length (nodes t) = omega (arith, r.number, length-nodes t) in
    let front : take n (nodes_all ts) ≡ r.front = ap (take n) all ∙ ap (λ (j : ℕ). take j (r.front ++ (nodes t ++ rest))) (sym r.number) ∙ take-append_seam r.front (nodes t ++ rest) in
    let both : take (n + (node_count_all ks + 1)) (nodes_all ts) ≡ r.front ++ nodes t =
    ap (take (n + (node_count_all ks + 1))) all ∙ ap (λ (j : ℕ). take j (r.front ++ (nodes t ++ rest))) i ∙ take-append-add r.front (nodes t ++ rest) (length (nodes t))
    ∙ ap (λ xs. r.front ++ xs) (take-append_seam (nodes t) rest) in
    let its : values_of (nodes t) ≡ own k v ++ texts_all ks = sym (texts-one t) ∙ texts_all-more k m v ks none ∙ ap (λ xs. own k v ++ xs) (append-nil (texts_all ks)) in
    omega (
      arith,
      ap (λ xs. length (values_of xs)) front,
      ap (λ xs. length (values_of xs)) both,
      ap length (values_of-append r.front (nodes t)),
      length-append (values_of r.front) (values_of (nodes t)),
      ap length its,
    )

own-first : (k : Kind) (m v : List ℕ) (ks : Trees) (xs : List Tree) → values_of (node k m v ks ∷ xs) ≡ own k v ++ values_of xs
own-first Document m v ks xs = refl
own-first Element m v ks xs = refl
own-first Attribute m v ks xs = refl
own-first Text m v ks xs = refl
own-first Comment m v ks xs = refl
own-first Instruction m v ks xs = refl

nodes-chained : (ss us : Trees) → nodes_all (chained more ss us) ≡ nodes_all ss ++ nodes_all us
nodes-chained none us = refl
nodes-chained (more t ss) us = ap nodes_all (chained-more t ss us) ∙ ap (λ xs. nodes t ++ xs) (nodes-chained ss us) ∙ sym (append_assoc (nodes t) (nodes_all ss) (nodes_all us))

-- behind the first kids of node n, its own text and theirs come before
pub rank-inside : (n : ℕ) (ts : Trees) → n < node_count_all ts → (k : Kind) (m v : List ℕ) (first others us : Trees) → from_node n ts ≡ more (node k m v (chained more first others)) us
    → rank_in (n + suc (node_count_all first)) ts ≡ rank_in n ts + length (own k v ++ texts_all first)
rank-inside n ts low k m v first others us here =
    let r = nodes-around n ts low in
    let t : Tree = node k m v (chained more first others) in
    let rest : List Tree = nodes_all others ++ (nodes_all us ++ r.back) in
    let all : nodes_all ts ≡ r.front ++ ((t ∷ nodes_all first) ++ rest) =
    r.were ∙ ap (λ xs. r.front ++ (nodes_all xs ++ r.back)) here ∙ ap (λ xs. r.front ++ (t ∷ ((xs ++ nodes_all us) ++ r.back))) (nodes-chained first others)
    ∙ ap (λ xs. r.front ++ (t ∷ xs)) (append_assoc (nodes_all first ++ nodes_all others) (nodes_all us) r.back ∙ append_assoc (nodes_all first) (nodes_all others) (nodes_all us ++ r.back)) in
    let i : n + suc (node_count_all first) ≡ length r.front + length (t ∷ nodes_all first) = omega (arith, r.number, length-nodes_all first) in
    let front : take n (nodes_all ts) ≡ r.front =
    ap (take n) all ∙ ap (λ (j : ℕ). take j (r.front ++ ((t ∷ nodes_all first) ++ rest))) (sym r.number) ∙ take-append_seam r.front ((t ∷ nodes_all first) ++ rest) in
    let both : take (n + suc (node_count_all first)) (nodes_all ts) ≡ r.front ++ (t ∷ nodes_all first) =
    ap (take (n + suc (node_count_all first))) all ∙ ap (λ (j : ℕ). take j (r.front ++ ((t ∷ nodes_all first) ++ rest))) i ∙ take-append-add r.front ((t ∷ nodes_all first) ++ rest) (length (t ∷ nodes_all first))
    ∙ ap (λ xs. r.front ++ xs) (take-append_seam (t ∷ nodes_all first) rest) in
    omega (
      arith,
      ap (λ xs. length (values_of xs)) front,
      ap (λ xs. length (values_of xs)) both,
      ap length (values_of-append r.front (t ∷ nodes_all first)),
      length-append (values_of r.front) (values_of (t ∷ nodes_all first)),
      ap length (own-first k m v (chained more first others) (nodes_all first)),
    )

-- what text_rank tells
pub rank-told : (t : Tree) (n : ℕ) → n < node_count t → text_rank_at t n ≡ Some (rank_in n (more t none))
rank-told t n low =
    let a = nodes-around n (more t none) (omega arith) in
    told (node-there (more t none) n (omega arith))
  where
    node-there : (ts : Trees) (n : ℕ) → n < node_count_all ts → (s : Tree) × (slice_get (nodes_all ts) n ≡ Some s)
    node-there ts n low = each-node (λ n ts. (s : Tree) × (slice_get (nodes_all ts) n ≡ Some s)) first inside later n ts low
      where
        first : (t : Tree) (ts : Trees) → (s : Tree) × (slice_get (nodes_all (more t ts)) 0 ≡ Some s)
        first (node k m v ks) ts = (node k m v ks, refl)

        inside : (k : Kind) (m v : List ℕ) (ks ts : Trees) (n : ℕ) → n < node_count_all ks → (s : Tree) × (slice_get (nodes_all ks) n ≡ Some s) → (s : Tree) × (slice_get (nodes_all (more (node k m v ks) ts)) (suc n) ≡ Some s)
        inside k m v ks ts n h r = (r.0, slice_get-left (nodes_all ks) (nodes_all ts) n (omega (arith, length-nodes_all ks)) ∙ r.1)

        later : (k : Kind) (m v : List ℕ) (ks ts : Trees) (d : ℕ) → d < node_count_all ts → (s : Tree) × (slice_get (nodes_all ts) d ≡ Some s) → (s : Tree) × (slice_get (nodes_all (more (node k m v ks) ts)) (suc (node_count_all ks + d)) ≡ Some s)
        later k m v ks ts d h r = (r.0, get-right (nodes_all ks) (nodes_all ts) (node_count_all ks) d (sym (length-nodes_all ks)) ∙ r.1)

    told : (s : Tree) × (slice_get (nodes_all (more t none)) n ≡ Some s) → text_rank_at t n ≡ Some (rank_in n (more t none))
    told r =
        ap (option_map (λ s. length (values_of (take n (nodes t))))) (ap (λ xs. slice_get xs n) (sym (append-nil (nodes t))) ∙ r.1)
        ∙ ap (λ xs. Some (length (values_of (take n xs)))) (sym (append-nil (nodes t)))
