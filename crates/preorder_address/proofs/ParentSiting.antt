-- One level of a way to a node: the node's parent in the called rule's value.
use Rattle.std.proofs.Common.{◌≡◌, ℕ, zero, suc, ◌+◌, ◌<◌, List, [], ◌∷◌, ◌++◌, length, get_or, drop, refl, ap, ◌∙◌, arith, Option, None, Some, sum_by}
use Rattle.std.specs.Prelude.{slice_get}
use Rattle.rule_arena.specs.Terms.{Node}
use Rattle.rule_arena.specs.declared.label.Label.{Label}
use Rattle.rule_arena.specs.declared.label.Label.TheVariants.{Symbol, Call}
use Rattle.slt_grammar.specs.Bodies.{params}
use Rattle.slt_grammar.specs.Editing.{put}
use Rattle.slt_grammar.specs.Keyed.{Keyed, IsKeyed, nodes_at, rules_of}
use Rattle.slt_grammar.specs.Segments.{preorder}
use Rattle.slt_grammar.specs.declared.rules.Rule.{Rule}
use Rattle.segment_counts.specs.Weights.{count, count_before, node_weight}
use Rattle.preorder_address.specs.Parents.{parent_among, parent_behind, parents_behind}
use Rattle.preorder_address.specs.Sites.{laden, labels_before}
use Rattle.preorder_address.proofs.Listings.{fronts, listings, weave}
use Rattle.preorder_address.proofs.Loads.{put-term}
use Rattle.preorder_address.proofs.ParentLists.{among-append, among-put, among-top}
use Rattle.preorder_address.proofs.Siting.{call-params, inner-there, kid_args, kids-terms, kids_at, number-is, outer, outer-there, two, value-call, value-here, value-symbol, value-term}

module _ (g : Keyed) (K : IsKeyed g) (r : ℕ) (args : List ℕ) (p : ℕ) (x : Node) (e : slice_get (nodes_at g.rules r) p ≡ Some x) where
  abbrev H : List Rule
  H = rules_of g.rules

  abbrev base : List Label
  base = labels_before g.rules r p

  abbrev kids : List (List Label)
  kids = kids_at g K node_weight refl r args p x e

  module _ (k : ℕ) (up : Option ℕ) where
    same-first : (j : ℕ) → j < 1 → get_or (parents_behind args k (up ∷ []) base) j None ≡ get_or (parent_behind args k up base ∷ []) j None
    same-first zero h = refl
    same-first (suc j) h = absurd (omega arith)

    module _ (q : ℕ) (is_call : x.label ≡ Call q) (passed : List Label) (part first offset n : ℕ) (placed : passed ≡ base ++ fronts H x.label (listings H (drop (suc p) (nodes_at g.rules r))) part)
        (is_first : first ≡ sum_by node_weight passed) (is_number : n ≡ first + offset) (inside : offset < count node_weight H q part) where
      -- where the number falls into a call, it is that of a node of the called rule's value
      pub among-call : parent_among args k (up ∷ []) (preorder H r) n
          ≡ parent_among (kid_args g K node_weight refl r args p x e) (k + laden node_weight args base) (parent_behind args k up base ∷ []) (preorder H q) (count_before node_weight H q part + offset)
      among-call =
          let us = drop (params base) args in
          let j : ℕ = k + laden node_weight args base in
          let S = parents_behind args k (up ∷ []) base in
          let T = preorder H q in
          let o : ℕ = outer g K node_weight refl r args p x e q is_call passed part first offset n placed is_first is_number inside in
          let c = call-params g K node_weight refl r args p x e q is_call in
          let t = kids-terms g K node_weight refl r args p x e in
          let rest = (value-here g K node_weight refl r args p x e).0 in
          ap (λ ls. parent_among args k (up ∷ []) ls n) (value-call g K node_weight refl r args p x e q is_call passed part first offset n placed is_first is_number inside)
          ∙ among-append args k (up ∷ []) base (put T kids ++ rest) n o us j (number-is g K node_weight refl r args p x e q is_call passed part first offset n placed is_first is_number inside) refl refl
          ∙ among-top 1 us j S (parent_behind args k up base ∷ []) (put T kids) rest o (put-term 1 T kids (value-term g K node_weight refl r args p x e q is_call) t c)
          (outer-there g K node_weight refl r args p x e q is_call passed part first offset n placed is_first is_number inside) same-first
          ∙ among-put us j (parent_behind args k up base ∷ []) T kids o (count_before node_weight H q part + offset) c t refl (inner-there g K node_weight refl r args p x e q is_call passed part first offset n placed is_first is_number inside)

    -- where it is a symbol's number, the parent is that of what stands there
    module _ (f : ℕ) (is_symbol : x.label ≡ Symbol f) (n : ℕ) (is_number : n ≡ sum_by node_weight base) where
      pub among-symbol : parent_among args k (up ∷ []) (preorder H r) n ≡ parent_behind args k up base
      among-symbol =
          let us = drop (params base) args in
          let j : ℕ = k + laden node_weight args base in
          let rest = (value-here g K node_weight refl r args p x e).0 in
          ap (λ ls. parent_among args k (up ∷ []) ls n) (value-symbol g K node_weight refl r args p x e f is_symbol n is_number)
          ∙ among-append args k (up ∷ []) base (weave H (Symbol f) 0 kids ++ rest) n 0 us j (omega arith) refl refl
          ∙ by_kids kids (two g K node_weight refl r args p x e f is_symbol n is_number) us j
        where
          by_kids : (cs : List (List Label)) → length cs ≡ 2 → (us : List ℕ) (j : ℕ) → parent_among us j (parents_behind args k (up ∷ []) base) (weave H (Symbol f) 0 cs ++ (value-here g K node_weight refl r args p x e).0) 0 ≡ parent_behind args k up base
          by_kids [] n us j = absurd (omega arith)
          by_kids (c ∷ cs) n us j = refl
