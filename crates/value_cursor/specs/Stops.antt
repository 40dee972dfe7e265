-- What is left of a rule's tour from a stop on, and of the rules around it.
use Rattle.std.specs.Prelude.{◌≡◌, ℕ, zero, ◌-◌, ◌<◌, List, [], ◌∷◌, ◌++◌, drop, slice_get, Some, Bool, ◌==◌, ◌&&◌, if◌then◌else◌}
use Rattle.rule_arena.specs.Terms.{Node, parent_in}
use Rattle.rule_arena.specs.declared.key.Key.{Key}
use Rattle.rule_arena.specs.declared.label.Label.{Label}
use Rattle.rule_arena.specs.declared.label.Label.TheVariants.{Bottom, Symbol, Param}
use Rattle.rule_arena.specs.declared.item.Site.{Site}
use Rattle.slt_grammar.specs.Keyed.{KeyedRule, key_at, nodes_at, rules_of}
use Rattle.slt_grammar.specs.Segments.{node_tour, part_of, segment, spread}
use Rattle.slt_grammar.specs.Tours.{Stop}
use Rattle.slt_grammar.specs.TourWalks.{StandsBefore}
use Rattle.preorder_address.specs.declared.descent.RuleStop.{RuleStop}

-- a stop is at this part of the node with this key
abbrev pub is_stop : Key → ℕ → Stop Node → Bool
is_stop key part m = (m.item.key.number == key.number) && (m.part == part)

-- the stops from that one on
abbrev pub stops_from : Key → ℕ → List (Stop Node) → List (Stop Node)
stops_from key part [] = []
stops_from key part (m ∷ ms) = if is_stop key part m then m ∷ ms else stops_from key part ms

-- the tour of a stop's rule from the stop on
abbrev pub stops_of : List KeyedRule → RuleStop → List (Stop Node)
stops_of G s = stops_from s.walk.key s.walk.part (node_tour G s.rule)

-- the walk stands there
abbrev pub IsAtStop : List KeyedRule → RuleStop → Type 0
IsAtStop G s = StandsBefore G s.rule s.walk (stops_of G s)

-- the stop's node has this label
abbrev pub IsLabelOf : List KeyedRule → RuleStop → Label → Type 0
IsLabelOf G s l = (r p : ℕ) → key_at G r p ≡ Some s.walk.key → (n : ℕ) × (slice_get (nodes_at G r) p ≡ Some (record { key = s.walk.key; label = l; kids = n }))

-- and this is what stands there
pub record IsSiteOf (G : List KeyedRule) (s : RuleStop) (site : Site) : Type 0 where
  pub node : (r p : ℕ) → key_at G r p ≡ Some s.walk.key → slice_get (nodes_at G r) p ≡ Some (record { key = s.walk.key; label = site.label; kids = site.arity })
  pub parent : (r p : ℕ) → key_at G r p ≡ Some s.walk.key → parent_in (nodes_at G r) p ≡ site.parent

-- what stops stand for up to the next parameter
abbrev pub segment_left : List KeyedRule → List (Stop Node) → List Label
segment_left G ms = segment 0 (spread (λ m. part_of (rules_of G) m.item.label m.part) ms [])

-- a stop with this label and part gives no token
abbrev pub IsSilent : Label → ℕ → Type 0
IsSilent Bottom zero = ⊥
IsSilent (Symbol f) zero = ⊥
IsSilent l i = Unit {0}

-- how many of n parameters come behind a stop with this label, which may be the first of them
abbrev pub later_params : Label → ℕ → ℕ
later_params Param n = n - 1
later_params l n = n

-- what is left behind calls, the outermost first, and then the rest
abbrev pub behind : List KeyedRule → List RuleStop → List Label → List Label
behind G [] rest = rest
behind G (s ∷ ss) rest = behind G ss (segment_left G (drop 1 (stops_of G s)) ++ rest)

-- stops at which walks stand, each of a rule before that of the stop before it
abbrev pub AreStops : List KeyedRule → ℕ → List RuleStop → Type 0
AreStops G limit [] = Unit {0}
AreStops G limit (s ∷ ss) = (s.rule < limit) × IsAtStop G s × AreStops G s.rule ss
