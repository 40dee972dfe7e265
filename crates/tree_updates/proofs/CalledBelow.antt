-- A node of the start's body whose first child is a call without children, once a symbol over the same call was put before it.
use Rattle.std.proofs.Common.{◌≡◌, ℕ, ◌+◌, ◌-◌, ◌<◌, List, [], ◌∷◌, length, get_or, take, drop, refl, ap, sym, ◌∙◌, subst}
use Rattle.std.proofs.lemmas.List.{drop_more}
use Rattle.rule_arena.specs.Preorder.{AreTerms, span, subterm}
use Rattle.rule_arena.specs.declared.label.Label.{Label}
use Rattle.rule_arena.specs.declared.label.Label.TheVariants.{Bottom, Symbol, Call, Param}
use Rattle.slt_grammar.specs.Algebras.{meaning, meanings, ranks_of, all_meanings}
use Rattle.slt_grammar.specs.Bodies.{arity}
use Rattle.slt_grammar.specs.ChangedValues.{DifferAt, StandsWithin, start_body, term_around}
use Rattle.slt_grammar.specs.Grammars.{IsGrammar, rank_at, value, value_at}
use Rattle.slt_grammar.specs.RuleValues.{HasRuleMore, HaveOtherValues}
use Rattle.slt_grammar.specs.Terms.{Term, Leaf, Node, Hole, holes, substitute, term_algebra}
use Rattle.slt_grammar.specs.Wrapping.{IsWrapper}
use Rattle.slt_grammar.specs.declared.rules.Rule.{Rule}
use Rattle.slt_grammar.proofs.ChangedValues.{differ-at}
use Rattle.slt_grammar.proofs.RuleMeanings.{rank_at-ranks_of}
use Rattle.slt_grammar.proofs.Values.{with_start}
use Rattle.segment_counts.specs.Weights.{node_weight}
use Rattle.tree_updates.specs.Copies.{IsTwinBody, SharesBelow}
use Rattle.tree_updates.specs.Differences.{hole_at}
use Rattle.tree_updates.proofs.WrappedNodes.{one-filling}

module _ (S : List Rule) (q : ℕ) (rank : rank_at S q ≡ 0) (s : ℕ) where
  abbrev fs : List (List Term → Term)
  fs = all_meanings term_algebra S

  no-kids : get_or (ranks_of S) q 0 ≡ 0
  no-kids = rank_at-ranks_of S q ∙ rank

  value-is : get_or (all_meanings term_algebra S) q (λ _. Leaf) [] ≡ value_at S q
  value-is = ap (λ (k : ℕ). get_or (all_meanings term_algebra S) q (λ _. Leaf) (holes 0 k)) (sym rank)

  -- the body is one that can be put around a node
  pub twin-wraps : q < length S - 1 → IsWrapper S (Symbol s ∷ Call q ∷ Param ∷ [])
  twin-wraps low = record {
    earlier = (low, tt);
    term = subst (λ (k : ℕ). AreTerms (arity (ranks_of S)) (k + 1) (Param ∷ [])) (sym no-kids) tt;
    linear = refl;
  }

  -- and means the symbol over the called rule's value
  twin-means : meaning term_algebra (ranks_of S) (all_meanings term_algebra S) (Symbol s ∷ Call q ∷ Param ∷ []) (holes 0 1) ≡ Node s (value_at S q) (Hole 0)
  twin-means =
      let hs : List Term = Hole 0 ∷ [] in
      ap (λ (k : ℕ). Node s (get_or fs q (λ _. Leaf) (take k hs)) (get_or (take 1 (drop k hs)) 0 Leaf)) no-kids
      ∙ ap (λ (v : Term). Node s v (Hole 0)) value-is

  module _ (g : IsGrammar S) (p f : ℕ) (here_there : p < length (start_body S)) (here : get_or (start_body S) p Bottom ≡ Symbol f) (next_there : p + 1 < length (start_body S))
      (next : get_or (start_body S) (p + 1) Bottom ≡ Call q) where
    abbrev ar : Label → ℕ
    ar = arity (ranks_of S)

    abbrev rest : List Label
    rest = drop (p + 1 + 1) (start_body S)

    abbrev zs : List Label
    zs = take (span ar (get_or (ranks_of S) q 0 + 1) rest) rest

    abbrev means : List Label → List Term
    means ls = meanings term_algebra (ranks_of S) fs [] ls []

    abbrev right : Term
    right = get_or (take 1 (means zs)) 0 Leaf

    from : drop p (start_body S) ≡ Symbol f ∷ (Call q ∷ rest)
    from =
        drop_more (start_body S) p Bottom here_there ∙ ap (λ (l : Label). l ∷ drop (p + 1) (start_body S)) here
        ∙ ap (λ (ls : List Label). Symbol f ∷ ls) (drop_more (start_body S) (p + 1) Bottom next_there ∙ ap (λ (l : Label). l ∷ rest) next)

    sub-is : subterm ar (start_body S) p ≡ Symbol f ∷ (Call q ∷ zs)
    sub-is = ap (λ (ls : List Label). take (span ar 1 ls) ls) from

    -- the node is its symbol over that value
    sub-means : meaning term_algebra (ranks_of S) (all_meanings term_algebra S) (subterm ar (start_body S) p) [] ≡ Node f (value_at S q) right
    sub-means =
        ap (λ (ls : List Label). meaning term_algebra (ranks_of S) fs ls []) sub-is
        ∙ ap (λ (k : ℕ). Node f (get_or fs q (λ _. Leaf) (take k (means zs))) (get_or (take 1 (drop k (means zs))) 0 Leaf)) no-kids
        ∙ ap (λ (v : Term). Node f v right) value-is

    differ : DifferAt S (with_start S p (Bottom ∷ [])) p (meaning term_algebra (ranks_of S) (all_meanings term_algebra S) (subterm ar (start_body S) p) [])
        (meaning term_algebra (ranks_of S) (all_meanings term_algebra S) (Bottom ∷ []) [])
    differ = differ-at S g p here_there (Bottom ∷ []) tt tt refl

    first : value S ≡ substitute (term_around S p) (Node f (value_at S q) right ∷ [])
    first = differ.first ∙ ap (λ (x : Term). substitute (term_around S p) (x ∷ [])) sub-means

    -- so before it came its twin
    pub shares-below : (G K : List Rule) (n : ℕ) → hole_at node_weight (term_around S p) ≡ n → HasRuleMore q G S → value S ≡ value G → HaveOtherValues (length S - 1) S K → (body : List Label) → IsTwinBody s (Call q) body → StandsWithin S K p body
        → SharesBelow G K q n s
    shares-below G K n before more same others body is W =
        let C : Term = term_around S p in
        let this : Term = Node f (value_at S q) right in
        let front : Term = Node s (value_at S q) (Hole 0) in
        let whole : W.term ≡ this = one-filling C W.term this W.differ.once (sym W.differ.first ∙ first) in
        let m : meaning term_algebra (ranks_of S) fs body (holes 0 1) ≡ front = ap (λ (ls : List Label). meaning term_algebra (ranks_of S) fs ls (holes 0 1)) is ∙ twin-means in
        record {
          shared = S;
          lawful = g;
          more = more;
          same = same;
          others = others;
          gets = record {
            symbol = f;
            left = value_at S q;
            right = right;
            differ = record {
              around = C;
              once = W.differ.once;
              before = before;
              first = first;
              second = W.differ.second ∙ ap (λ (x : Term). substitute C (substitute x (W.term ∷ []) ∷ [])) m ∙ ap (λ (x : Term). substitute C (substitute front (x ∷ []) ∷ [])) whole;
            };
          };
          left_is = refl;
        }
