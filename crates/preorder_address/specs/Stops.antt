-- The stops of the levels, with the walks that stand there.
use Rattle.std.specs.Prelude.{◌≡◌, ℕ, ◌+◌, ◌<◌, List, [], ◌∷◌, ◌++◌, Option, Some, None, sum_by}
use Rattle.rule_arena.specs.Terms.{Node}
use Rattle.rule_arena.specs.declared.label.Label.{Label}
use Rattle.rule_arena.specs.declared.label.Label.TheVariants.{Call}
use Rattle.slt_grammar.specs.Bodies.{CallsBelow}
use Rattle.slt_grammar.specs.Keyed.{KeyedRule, rules_of}
use Rattle.slt_grammar.specs.Segments.{node_tour}
use Rattle.slt_grammar.specs.Tours.{Stop}
use Rattle.slt_grammar.specs.TourWalks.{StandsBefore}
use Rattle.slt_grammar.specs.declared.level.Level.{Level}
use Rattle.slt_grammar.specs.declared.tour_walk.TourWalk.{TourWalk}
use Rattle.segment_counts.specs.Weights.{count_before}
use Rattle.preorder_address.specs.Numberings.{weigh_by}
use Rattle.preorder_address.specs.Routes.{stop_weight}
use Rattle.preorder_address.specs.declared.descent.Descent.{Descent}
use Rattle.preorder_address.specs.declared.descent.RuleStop.{RuleStop}
use Rattle.preorder_address.specs.declared.descent.Wanted.{Wanted}

-- the level of a stop
abbrev pub level_of : RuleStop → Level
level_of s = record { rule = s.rule; key = s.walk.key }

-- number n of a rule falls into this stop of its tour, by such weights of stops, where the walk stands, and the offset is left there
pub record FallsBy (W : Stop Node → ℕ) (G : List KeyedRule) (r n : ℕ) (walk : TourWalk) (here : Stop Node) (offset : ℕ) : Type 0 where
  pub passed : List (Stop Node)
  pub rest : List (Stop Node)
  pub split : node_tour G r ≡ passed ++ here ∷ rest
  pub stands : StandsBefore G r walk (here ∷ rest)
  pub number : n ≡ sum_by W passed + offset
  pub inside : offset < W here

abbrev pub FallsAt : (Label → ℕ) → List KeyedRule → ℕ → ℕ → TourWalk → Stop Node → ℕ → Type 0
FallsAt w G r n walk here offset = FallsBy (stop_weight w G) G r n walk here offset

-- what is wanted of a rule that is called, where a number falls into a part of the call with this offset
abbrev pub wanted_below : (Label → ℕ) → List KeyedRule → Label → ℕ → ℕ → Option Wanted
wanted_below w G (Call q) i o = Some (record { rule = q; number = count_before w (rules_of G) q i + o })
wanted_below w G l i o = None

-- what is wanted falls into the stop, and what is wanted next is below it
pub record FallsInto (w : Label → ℕ) (G : List KeyedRule) (wanted : Wanted) (stop : RuleStop) (next : Option Wanted) : Type 0 where
  pub rule : stop.rule ≡ wanted.rule
  pub here : Stop Node
  pub offset : ℕ
  pub falls : FallsAt w G wanted.rule wanted.number stop.walk here offset
  pub earlier : CallsBelow wanted.rule (here.item.label ∷ [])
  pub onward : next ≡ wanted_below w G here.item.label here.part offset

-- a descent went on through a stop, and without one nothing was wanted
abbrev pub GoesThrough : List KeyedRule → Option RuleStop → Descent → Descent → Type 0
GoesThrough G None old new = (old.next ≡ None) × (new.next ≡ None)
GoesThrough G (Some s) old new = (wanted : Wanted) × (old.next ≡ Some wanted) × FallsInto (weigh_by old.by) G wanted s new.next × (new.by ≡ old.by)
