-- The labels that a body becomes along its tour.
use Rattle.std.proofs.Common.{◌≡◌, ℕ, ◌+◌, ◌*◌, ◌<◌, ◌≤◌, List, [], ◌∷◌, ◌++◌, length, get_or, ap, sym, ◌∙◌, arith, subst, Some, append_assoc, append-nil}
use Rattle.std.specs.Prelude.{slice_get}
use Rattle.rule_arena.specs.Terms.{Node}
use Rattle.rule_arena.specs.declared.label.Label.{Label}
use Rattle.rule_arena.specs.declared.label.Label.TheVariants.{Bottom, Symbol, Call, Param}
use Rattle.slt_grammar.specs.Algebras.{ranks_of}
use Rattle.slt_grammar.specs.Bodies.{params, CallsBelow}
use Rattle.slt_grammar.specs.Grammars.{body_at}
use Rattle.slt_grammar.specs.Keyed.{key_at, Keyed, KeyedRule, IsKeyed, rules_of, nodes_at}
use Rattle.slt_grammar.specs.Segments.{node_tour, spread, body_tour}
use Rattle.slt_grammar.specs.Tours.{Stop}
use Rattle.slt_grammar.specs.TourWalks.{StandsBefore}
use Rattle.slt_grammar.specs.declared.rules.Rule.{Rule}
use Rattle.slt_grammar.specs.declared.tour_walk.TourWalk.{TourWalk}
use Rattle.slt_grammar.proofs.KeyedLemmas.{length-rules_of}
use Rattle.slt_grammar.proofs.StopLemmas.{stop-is}
use Rattle.slt_grammar.proofs.TourLemmas.{stops_map, body_tour-nodes}
use Rattle.border_repair.specs.Expanding.{Expands, expanded_part, expanded_stop}
use Rattle.border_repair.proofs.Touring.{HaveRanks, one-toured}

-- what stops with keys become
abbrev pub spelled : (ℕ → List Label) → List (Stop Node) → List Label
spelled outside ms = spread (expanded_stop outside) (stops_map (λ n. n.label) ms) []

-- a walk with the labels so far
pub record IsExpanding (G : List KeyedRule) (outside : ℕ → List Label) (r : ℕ) (walk : TourWalk) (labels : List Label) (first steps : ℕ) : Type 0 where
  pub here : Stop Node
  pub left : List (Stop Node)
  pub stands : StandsBefore G r walk (here ∷ left)
  pub spells : labels ++ spelled outside (here ∷ left) ≡ spelled outside (node_tour G r)
  pub few : steps + 2 * length left + 2 ≤ first + 2 * length (node_tour G r)

have-ranks : (ranks : List ℕ) (outside : ℕ → List Label) (k : ℕ) → ((q : ℕ) → q < k → params (outside q) ≡ get_or ranks q 0) → (ls : List Label) → CallsBelow k ls → HaveRanks ranks outside ls
have-ranks ranks outside k h [] b = tt
have-ranks ranks outside k h (Bottom ∷ ls) b = (tt, have-ranks ranks outside k h ls b)
have-ranks ranks outside k h (Symbol f ∷ ls) b = (tt, have-ranks ranks outside k h ls b)
have-ranks ranks outside k h (Param ∷ ls) b = (tt, have-ranks ranks outside k h ls b)
have-ranks ranks outside k h (Call q ∷ ls) b = (h q b.0, have-ranks ranks outside k h ls b.1)

module _ (g : Keyed) (k : IsKeyed g) (outside : ℕ → List Label) (r : ℕ) (h : r < length g.rules) where
  expanding : (walk : TourWalk) (labels : List Label) (first steps : ℕ) (ms : List (Stop Node)) → StandsBefore g.rules r walk ms → labels ++ spelled outside ms ≡ spelled outside (node_tour g.rules r)
      → steps + 2 * length ms ≤ first + 2 * length (node_tour g.rules r) → IsExpanding g.rules outside r walk labels first steps
  expanding walk labels first steps [] s e f = let l = s.are_left in absurd (cc)
  expanding walk labels first steps (here ∷ left) s e f = record { here = here; left = left; stands = s; spells = e; few = omega arith }

  pub expanding-start : (walk : TourWalk) (labels : List Label) (steps : ℕ) → StandsBefore g.rules r walk (node_tour g.rules r) → labels ≡ [] → IsExpanding g.rules outside r walk labels steps steps
  expanding-start walk labels steps s e = expanding walk labels steps steps (node_tour g.rules r) s (ap (λ ls. ls ++ spelled outside (node_tour g.rules r)) e) (omega arith)

  -- a turn of the loop
  module _ (walk : TourWalk) (labels more : List Label) (first steps : ℕ) (i : IsExpanding g.rules outside r walk labels first steps)
      (x : Node) (item : (r p : ℕ) → key_at g.rules r p ≡ Some walk.key → slice_get (nodes_at g.rules r) p ≡ Some x) (added : more ≡ labels ++ expanded_part outside x.label walk.part) where
    spelled-here : more ++ spelled outside i.left ≡ spelled outside (node_tour g.rules r)
    spelled-here =
        ap (λ ls. ls ++ spelled outside i.left) added ∙ append_assoc labels (expanded_part outside x.label walk.part) (spelled outside i.left)
        ∙ ap (λ (s : Stop Node). labels ++ spelled outside (s ∷ i.left)) (sym (stop-is g k r h walk i.here i.left i.stands x item)) ∙ i.spells

    pub expanding-next : (next : TourWalk) (now : ℕ) → StandsBefore g.rules r next i.left → now ≤ steps + 2 → IsExpanding g.rules outside r next more first now
    expanding-next next now s l = expanding next more first now i.left s spelled-here (omega (arith, i.few))

    -- all stops are done
    pub expanding-end : i.left ≡ [] → ((q : ℕ) → q < r → params (outside q) ≡ get_or (ranks_of (rules_of g.rules)) q 0) → Expands (ranks_of (rules_of g.rules)) outside (body_at (rules_of g.rules) r) (more ∷ [])
    expanding-end e ranks =
        let G : List Rule = rules_of g.rules in
        let b : r < length G = omega (arith, length-rules_of g.rules) in
        let law = k.grammar.each r b in
        let all : spread (expanded_stop outside) (body_tour G r) [] ≡ more =
        ap (λ ms. spread (expanded_stop outside) ms []) (body_tour-nodes g.rules r (k.arities r)) ∙ sym spelled-here ∙ ap (λ ms. more ++ spelled outside ms) e ∙ append-nil more in
        subst (λ (ls : List Label). Expands (ranks_of G) outside (body_at G r) (ls ∷ [])) all
        (one-toured (ranks_of G) outside (body_at G r) law.shaped.term (have-ranks (ranks_of G) outside r ranks (body_at G r) law.earlier))
