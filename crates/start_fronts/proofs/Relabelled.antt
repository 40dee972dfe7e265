-- A node of the start that gets another symbol: what stands before it is the same, and what stands behind it.
use Rattle.std.proofs.Common.{◌≡◌, ◌⊎◌, inl, ℕ, zero, suc, ◌+◌, ◌-◌, ◌<◌, ◌≤◌, List, [], ◌∷◌, ◌++◌, drop, get_or, length, take, refl, sym, ap, ◌∙◌, subst, arith, sum_by}
use Rattle.rule_arena.specs.Terms.{Node, kids_of, labelled}
use Rattle.rule_arena.specs.declared.key.Key.{Key}
use Rattle.rule_arena.specs.declared.label.Label.{Label}
use Rattle.rule_arena.specs.declared.label.Label.TheVariants.{Bottom, Symbol}
use Rattle.slt_grammar.specs.Keyed.{IsKeyed, Keyed, labels_of, nodes_at, rules_of}
use Rattle.slt_grammar.specs.KeyedEdits.{StandsInStart, with_nodes}
use Rattle.slt_grammar.specs.Segments.{part_of}
use Rattle.slt_grammar.specs.Tours.{Stop, tour}
use Rattle.slt_grammar.specs.declared.rules.Rule.{Rule}
use Rattle.slt_grammar.proofs.KeyedLemmas.{body_at-rules_of}
use Rattle.start_fronts.specs.Moved.{MovesBefore, weight_before}
use Rattle.start_fronts.proofs.Alike.{Behind, behind-opened, dropped-same}
use Rattle.start_fronts.proofs.Stacks.{opens}
use Rattle.start_fronts.proofs.Starts.{around-at, label-behind, nodes-new, start-is, values-below}
use Rattle.start_fronts.proofs.Windows.{moves-around, spelt}

labelled-at : (xs : List Node) (n : Node) (ys : List Node) (l : Label) → labelled (xs ++ (n ∷ ys)) (length xs) l ≡ xs ++ (record n { label = l } ∷ ys)
labelled-at [] n ys l = refl
labelled-at (x ∷ xs) n ys l = ap (λ ns. x ∷ ns) (labelled-at xs n ys l)

-- two symbols over as many children
symbols-alike : (X Y : List Rule) (n : Node) (was symbol : ℕ) → n.label ≡ Symbol was → (st : List (List (Stop Node))) → Behind X Y st st
    → Behind X Y (opens kids_of st (n ∷ [])) (opens kids_of st (record n { label = Symbol symbol } ∷ []))
symbols-alike X Y n was symbol e st b =
    behind-opened X Y n (record n { label = Symbol symbol }) (λ i. sym (ap (λ l. part_of X l (suc i)) e)) 0 n.kids
    (get_or st 0 []) (get_or st 0 []) (drop 1 st) (drop 1 st) (b 0) (dropped-same X Y st st b)

-- there is one node
first-alone : (w : Label → ℕ) (X : List Rule) (st : List (List (Stop Node))) (n : Node) (come gone i : ℕ) → i < length (n ∷ [])
    → (sum_by w (spelt X (tour kids_of st (take i (n ∷ [])))) ≡ 0) ⊎ (sum_by w (spelt X (tour kids_of st (take i (n ∷ [])))) + come ≤ gone)
first-alone w X st n come gone zero h = inl refl
first-alone w X st n come gone (suc i) h = absurd (omega (arith, h))

pub moves-relabelled : (g h : Keyed) → IsKeyed g → IsKeyed h → (key : Key) (symbol : ℕ) (S : StandsInStart g.rules key)
    → h.rules ≡ with_nodes g.rules S.node.here.rule (labelled (nodes_at g.rules S.node.here.rule) S.node.here.place (Symbol symbol))
    → (w : Label → ℕ) → MovesBefore w [] (weight_before w g.rules S.node.here.place) g.rules h.rules
moves-relabelled g h K M key symbol S is w =
    let r : ℕ = S.node.here.rule in
    let p : ℕ = S.node.here.place in
    let ns : List Node = nodes_at g.rules r in
    let a = around-at ns p key S.node.here.there in
    let N : Node = a.node in
    let label : N.label ≡ Symbol S.node.symbol =
    sym (label-behind a.front N a.back)
    ∙ ap (λ xs. get_or (labels_of xs) (length a.front) Bottom) (sym a.whole)
    ∙ ap (λ i. get_or (labels_of ns) i Bottom) a.at
    ∙ ap (λ ls. get_or ls p Bottom) (sym (body_at-rules_of g.rules r))
    ∙ S.node.label in
    let start = start-is g h K r (labelled ns p (Symbol symbol)) S.start is in
    let old : nodes_at g.rules (length g.rules - 1) ≡ a.front ++ ((N ∷ []) ++ a.back) = ap (nodes_at g.rules) (sym start) ∙ a.whole in
    let new : nodes_at h.rules (length h.rules - 1) ≡ a.front ++ ((record N { label = Symbol symbol } ∷ []) ++ a.back) =
    nodes-new g h K r (labelled ns p (Symbol symbol)) S.start is
    ∙ ap (λ xs. labelled xs p (Symbol symbol)) a.whole
    ∙ ap (λ i. labelled (a.front ++ (N ∷ a.back)) i (Symbol symbol)) (sym a.at)
    ∙ labelled-at a.front N a.back (Symbol symbol) in
    subst (λ (i : ℕ). MovesBefore w [] (weight_before w g.rules i) g.rules h.rules) a.at
    (moves-around g h K M a.front (N ∷ []) (record N { label = Symbol symbol } ∷ []) a.back old new
    (values-below g h K r (labelled ns p (Symbol symbol)) S.start is)
    (symbols-alike (rules_of g.rules) (rules_of h.rules) N S.node.symbol symbol label (opens kids_of ([] ∷ []) a.front))
    w (first-alone w (rules_of g.rules) (opens kids_of ([] ∷ []) a.front) N _ _))
