-- The node at a place of the start, by what is above it.
use Rattle.std.proofs.Common.{◌≡◌, ℕ, zero, suc, ◌-◌, ◌<◌, ◌≤◌, List, length, Option, Some, None, IsSome, slice_get, refl, sym, ap, ◌∙◌, subst, arith}
use Rattle.rule_arena.specs.Preorder.{AreTerms}
use Rattle.rule_arena.specs.Terms.{kids_in, kids_of, parent_in}
use Rattle.rule_arena.specs.declared.key.Key.{Key}
use Rattle.slt_grammar.specs.Keyed.{IsKeyed, Keyed, key_at, nodes_at}
use Rattle.slt_grammar.proofs.KeyedLemmas.{key_in-there, length-rules_of, nodes-are-term}
use Rattle.slt_grammar.proofs.Parents.{parent-inner}
use Rattle.digram_index.proofs.Kids.{IsChildOf, child-of}
use Rattle.linked_edits.specs.Endings.{IsBelow}
use Rattle.linked_edits.specs.Runs.{start_of}

-- there is a start
pub some-rules : (g : Keyed) → IsKeyed g → 0 < length g.rules
some-rules g K = let s = K.grammar.some in omega (arith, s, length-rules_of g.rules)

module _ (g : Keyed) (K : IsKeyed g) (some : 0 < length g.rules) (place : ℕ) where
  terms : AreTerms kids_of 1 (nodes_at g.rules (start_of g.rules))
  terms = nodes-are-term g K (start_of g.rules) (omega (arith, some))

  -- without a parent it is the root
  pub root-below : (root : Key) → IsBelow g.rules place None → key_at g.rules (start_of g.rules) 0 ≡ Some root → key_at g.rules (start_of g.rules) place ≡ Some root
  root-below root B e = by place B.inside B.parent
    where
      by : (p : ℕ) → p < length (nodes_at g.rules (start_of g.rules)) → parent_in (nodes_at g.rules (start_of g.rules)) p ≡ None → key_at g.rules (start_of g.rules) p ≡ Some root
      by zero l n = e
      by (suc p) l n = absurd (no (parent_in (nodes_at g.rules (start_of g.rules)) (suc p)) n (parent-inner (nodes_at g.rules (start_of g.rules)) (suc p) terms l (omega arith)))
        where
          no : (o : Option (Key × ℕ)) → o ≡ None → IsSome o → ⊥
          no None e s = cc
          no (Some x) e s = cc

  module _ (up : Key) (under : ℕ) (B : IsBelow g.rules place (Some (up, under))) where
    child : IsChildOf (nodes_at g.rules (start_of g.rules)) place (up, under)
    child = child-of (nodes_at g.rules (start_of g.rules)) place (up, under) terms B.parent

    pub parent-stands : (r : ℕ) × ((p : ℕ) × (key_at g.rules r p ≡ Some up))
    parent-stands = (start_of g.rules, (child.above, child.there))

    pub under-some : 1 ≤ under
    under-some = omega (arith, child.place)

    -- it is the parent's child there
    pub child-below : (kids : List Key) → ((r p : ℕ) → key_at g.rules r p ≡ Some up → kids_in (nodes_at g.rules r) p ≡ kids) → slice_get kids (under - 1) ≡ key_at g.rules (start_of g.rules) place
    child-below kids told =
        let z : under - 1 ≡ child.child = omega (arith, child.place) in
        ap (slice_get kids) z ∙ ap (λ (ks : List Key). slice_get ks child.child) (sym (told (start_of g.rules) child.above child.there)) ∙ child.is_child

    pub some-below : (o : Option Key) → o ≡ key_at g.rules (start_of g.rules) place → IsSome o
    some-below o e =
        let w = key_in-there (nodes_at g.rules (start_of g.rules)) place B.inside in
        subst (λ (x : Option Key). IsSome x) (sym (e ∙ w.1)) refl
