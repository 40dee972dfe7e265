-- Text ranks where a node gets another value.
use Rattle.std.proofs.Common.{◌≡◌, ℕ, suc, ◌+◌, ◌<◌, List, [], ◌∷◌, ◌++◌, length, map, take, refl, ap, sym, ◌∙◌, arith}
use Rattle.std.proofs.lemmas.List.{length-map, map-append, take-map}
use Rattle.plain_tree.specs.declared.kind.Kind.{Kind}
use Rattle.plain_tree.specs.declared.kind.Kind.TheVariants.{Document, Element, Attribute, Text, Comment, Instruction}
use Rattle.plain_tree.specs.Edits.{with_first, with_value}
use Rattle.plain_tree.specs.Numbers.{kind_of, nodes_all, values_of}
use Rattle.plain_tree.specs.Tree.{Tree, node, Trees, more, node_count_all}
use Rattle.plain_tree.proofs.Changing.{changed-inside, each-node, more-later}
use Rattle.plain_tree.proofs.NodeCounts.{length-nodes_all}
use Rattle.plain_tree.proofs.PlainEdits.{valued_at}
use Rattle.tree_updates.proofs.Texts.{rank_in}

kinds-more : (k : Kind) (m v : List ℕ) (ks ts : Trees) → map kind_of (nodes_all (more (node k m v ks) ts)) ≡ k ∷ (map kind_of (nodes_all ks) ++ map kind_of (nodes_all ts))
kinds-more k m v ks ts = ap (λ xs. k ∷ xs) (map-append kind_of (nodes_all ks) (nodes_all ts))

-- the nodes have the kinds that they had
same-kinds : (w : List ℕ) (n : ℕ) (ts : Trees) → n < node_count_all ts → map kind_of (nodes_all (valued_at w n ts)) ≡ map kind_of (nodes_all ts)
same-kinds w = each-node (λ n ts. map kind_of (nodes_all (valued_at w n ts)) ≡ map kind_of (nodes_all ts)) first inside later
  where
    first : (t : Tree) (ts : Trees) → map kind_of (nodes_all (valued_at w 0 (more t ts))) ≡ map kind_of (nodes_all (more t ts))
    first (node k m v ks) ts = refl

    inside : (k : Kind) (m v : List ℕ) (ks ts : Trees) (n : ℕ) → n < node_count_all ks → map kind_of (nodes_all (valued_at w n ks)) ≡ map kind_of (nodes_all ks)
        → map kind_of (nodes_all (valued_at w (suc n) (more (node k m v ks) ts))) ≡ map kind_of (nodes_all (more (node k m v ks) ts))
    inside k m v ks ts n h r =
        ap (λ us. map kind_of (nodes_all us)) (changed-inside more (with_first (with_value w)) k m v ks ts n h) ∙ kinds-more k m v (valued_at w n ks) ts
        ∙ ap (λ xs. k ∷ (xs ++ map kind_of (nodes_all ts))) r ∙ sym (kinds-more k m v ks ts)

    later : (k : Kind) (m v : List ℕ) (ks ts : Trees) (d : ℕ) → d < node_count_all ts → map kind_of (nodes_all (valued_at w d ts)) ≡ map kind_of (nodes_all ts)
        → map kind_of (nodes_all (valued_at w (suc (node_count_all ks + d)) (more (node k m v ks) ts))) ≡ map kind_of (nodes_all (more (node k m v ks) ts))
    later k m v ks ts d h r =
        ap (λ us. map kind_of (nodes_all us)) (more-later (with_first (with_value w)) k m v ks ts d) ∙ kinds-more k m v ks (valued_at w d ts)
        ∙ ap (λ xs. k ∷ (map kind_of (nodes_all ks) ++ xs)) r ∙ sym (kinds-more k m v ks ts)

-- nodes of these kinds have so many values
abbrev values-in : List Kind → ℕ
values-in [] = 0
values-in (Document ∷ ks) = values-in ks
values-in (Element ∷ ks) = values-in ks
values-in (Attribute ∷ ks) = suc (values-in ks)
values-in (Text ∷ ks) = suc (values-in ks)
values-in (Comment ∷ ks) = suc (values-in ks)
values-in (Instruction ∷ ks) = suc (values-in ks)

values-many : (xs : List Tree) → length (values_of xs) ≡ values-in (map kind_of xs)
values-many [] = refl
values-many (node Document m v ks ∷ xs) = values-many xs
values-many (node Element m v ks ∷ xs) = values-many xs
values-many (node Attribute m v ks ∷ xs) = ap suc (values-many xs)
values-many (node Text m v ks ∷ xs) = ap suc (values-many xs)
values-many (node Comment m v ks ∷ xs) = ap suc (values-many xs)
values-many (node Instruction m v ks ∷ xs) = ap suc (values-many xs)

-- each node has the rank that it had
pub rank-valued : (w : List ℕ) (a : ℕ) (ts : Trees) → a < node_count_all ts → (n : ℕ) → rank_in n (valued_at w a ts) ≡ rank_in n ts
rank-valued w a ts low n =
    values-many (take n (nodes_all (valued_at w a ts))) ∙ ap values-in (sym (take-map kind_of n (nodes_all (valued_at w a ts))) ∙ ap (take n) (same-kinds w a ts low) ∙ take-map kind_of n (nodes_all ts))
    ∙ sym (values-many (take n (nodes_all ts)))

-- and there are as many nodes
pub count-any : (w : List ℕ) (a : ℕ) (ts : Trees) → a < node_count_all ts → node_count_all (valued_at w a ts) ≡ node_count_all ts
count-any w a ts low =
    omega (
      arith,
      ap length (same-kinds w a ts low),
      length-map (nodes_all (valued_at w a ts)) kind_of,
      length-map (nodes_all ts) kind_of,
      length-nodes_all (valued_at w a ts),
      length-nodes_all ts,
    )
