-- The stop of a walk along a tour, by the item that was read there.
use Rattle.std.proofs.Common.{◌≡◌, ℕ, suc, zero, ◌<◌, List, [], ◌∷◌, length, ap, ◌∙◌, arith, subst, Some}
use Rattle.std.specs.Prelude.{slice_get}
use Rattle.rule_arena.specs.Terms.{Node}
use Rattle.rule_arena.specs.declared.label.Label.{Label}
use Rattle.rule_arena.specs.declared.label.Label.TheVariants.{Bottom, Symbol, Call, Param}
use Rattle.slt_grammar.specs.Bodies.{CallsBelow}
use Rattle.slt_grammar.specs.Keyed.{key_at, Keyed, IsKeyed, nodes_at, labels_of}
use Rattle.slt_grammar.specs.Tours.{Stop, stop}
use Rattle.slt_grammar.specs.TourWalks.{StandsBefore}
use Rattle.slt_grammar.specs.declared.tour_walk.TourWalk.{TourWalk}
use Rattle.slt_grammar.proofs.KeyedLemmas.{body_at-rules_of, length-rules_of}
use Rattle.slt_grammar.proofs.TourWalking.{current, node-is}

first-call : (k : ℕ) (l : Label) (ls : List Label) → CallsBelow k (l ∷ ls) → CallsBelow k (l ∷ [])
first-call k Bottom ls c = tt
first-call k (Symbol f) ls c = tt
first-call k (Call q) ls c = (c.0, tt)
first-call k Param ls c = tt

other-calls : (k : ℕ) (l : Label) (ls : List Label) → CallsBelow k (l ∷ ls) → CallsBelow k ls
other-calls k Bottom ls c = c
other-calls k (Symbol f) ls c = c
other-calls k (Call q) ls c = c.1
other-calls k Param ls c = c

calls-at : (k : ℕ) (ns : List Node) (p : ℕ) (x : Node) → CallsBelow k (labels_of ns) → slice_get ns p ≡ Some x → CallsBelow k (x.label ∷ [])
calls-at k [] p x c e = cc
calls-at k (n ∷ ns) zero x c e = let same : n ≡ x = cc in subst (λ (y : Node). CallsBelow k (y.label ∷ [])) same (first-call k n.label (labels_of ns) c)
calls-at k (n ∷ ns) (suc p) x c e = calls-at k ns p x (other-calls k n.label (labels_of ns) c) e

-- a node's call is below its rule
pub call-below : (g : Keyed) → IsKeyed g → (r p : ℕ) (x : Node) → r < length g.rules → slice_get (nodes_at g.rules r) p ≡ Some x → CallsBelow r (x.label ∷ [])
call-below g k r p x h e =
    let l = (k.grammar.each r (omega (arith, length-rules_of g.rules))).earlier in
    calls-at r (nodes_at g.rules r) p x (subst (λ (ls : List Label). CallsBelow r ls) (body_at-rules_of g.rules r) l) e

-- a walk stands at a stop, and x is the node that its item tells
module _ (g : Keyed) (k : IsKeyed g) (r : ℕ) (h : r < length g.rules) (walk : TourWalk) (here : Stop Node) (left : List (Stop Node)) (s : StandsBefore g.rules r walk (here ∷ left))
    (x : Node) (item : (r p : ℕ) → key_at g.rules r p ≡ Some walk.key → slice_get (nodes_at g.rules r) p ≡ Some x) where
  is : s.node ≡ x
  is = node-is g.rules r walk (here ∷ left) s x item

  pub stop-is : here ≡ stop x walk.part
  stop-is = current g.rules r walk here left s ∙ ap (λ (y : Node). stop y walk.part) is

  pub calls-here : CallsBelow r (x.label ∷ [])
  calls-here = subst (λ (y : Node). CallsBelow r (y.label ∷ [])) is (call-below g k r s.place s.node h s.there)
