-- The laws: what keeps the labels before the nodes of a grammar's start.
use Rattle.std.specs.Prelude.{◌≡◌, ℕ, ◌+◌, ◌-◌, ◌<◌, List, [], ◌∷◌, ◌++◌, length}
use Rattle.rule_arena.specs.declared.key.Key.{Key}
use Rattle.rule_arena.specs.declared.label.Label.TheVariants.{Call}
use Rattle.rule_arena.specs.Terms.{Node}
use Rattle.slt_grammar.specs.Calling.{BeginsWith, called_nodes}
use Rattle.slt_grammar.specs.Grammars.{calls_of, value_at}
use Rattle.slt_grammar.specs.Keyed.{IsKeyed, Keyed, KeyedRule, nodes_at, rules_of}
use Rattle.slt_grammar.specs.KeyedEdits.{DropsTo, FoldsInto, IsInlined, StandsAsCall, folded_nodes, rule_dropped, rule_put, with_nodes}
use Rattle.slt_grammar.specs.RuleValues.{HasRuleMore}
use Rattle.start_fronts.specs.Alike.{AreAlike}
use Rattle.start_fronts.specs.Before.{KeepsBefore, copied_keys}

-- one change after another
abbrev pub ChangesCompose : Type 0
ChangesCompose =
    (first second : List Key) (G H K : List KeyedRule) → KeepsBefore first G H → KeepsBefore second H K → KeepsBefore (first ++ second) G K

-- each node of the start stands for what it stood for
abbrev pub AlikeStartsKeepBefore : Type 0
AlikeStartsKeepBefore =
    (G H : List KeyedRule) → AreAlike (rules_of G) (rules_of H) (nodes_at G (length G - 1)) (nodes_at H (length H - 1)) → KeepsBefore [] G H

-- a rule that isn't the start changes, and no rule's value
abbrev pub OtherRulesKeepBefore : Type 0
OtherRulesKeepBefore =
    (G H : List KeyedRule) (rule : ℕ) (ns : List Node) → rule + 1 < length G → H ≡ with_nodes G rule ns
    → ((r : ℕ) → value_at (rules_of H) r ≡ value_at (rules_of G) r) → KeepsBefore [] G H

-- a rule comes
abbrev pub PuttingKeepsBefore : Type 0
PuttingKeepsBefore =
    (old : Keyed) (H : List KeyedRule) → IsKeyed old → (place : ℕ) (R : KeyedRule) → place < length old.rules → H ≡ rule_put old.rules place R
    → HasRuleMore place (rules_of old.rules) (rules_of H) → KeepsBefore [] old.rules H

-- a rule goes that isn't called
abbrev pub DroppingKeepsBefore : Type 0
DroppingKeepsBefore =
    (old : Keyed) → IsKeyed old → (rule : ℕ) → rule + 1 < length old.rules → calls_of (rules_of old.rules) rule ≡ 0
    → KeepsBefore [] old.rules (rule_dropped old.rules rule)

-- all such rules go
abbrev pub SweepingKeepsBefore : Type 0
SweepingKeepsBefore = (old : Keyed) (H : List KeyedRule) → IsKeyed old → DropsTo old.rules H → KeepsBefore [] old.rules H

-- a node and its parent become a call, whose key is the parent's: the node's key is gone
abbrev pub FoldingKeepsBefore : Type 0
FoldingKeepsBefore =
    (old new : Keyed) → IsKeyed old → (lower : Key) (called : ℕ) (F : FoldsInto old.rules lower called)
    → new.rules ≡ with_nodes old.rules F.here.rule (folded_nodes (nodes_at old.rules F.here.rule) F.place F.upper F.here.place (Call called))
    → KeepsBefore (lower ∷ []) old.rules new.rules

-- a call gives way to its rule's body: the call's key is gone
abbrev pub InliningKeepsBefore : Type 0
InliningKeepsBefore =
    (old new : Keyed) → IsKeyed old → IsKeyed new → (call : Key) (C : StandsAsCall old.rules call) (follow moved : Key)
    → IsInlined old.rules new.rules C.here.rule C.here.place C.called follow moved → KeepsBefore (call ∷ []) old.rules new.rules

-- a rule's body over arguments becomes a call of the rule: the keys of the body's nodes are gone
abbrev pub CallingKeepsBefore : Type 0
CallingKeepsBefore =
    (old new : Keyed) → IsKeyed old → IsKeyed new → (at : Key) (rule : ℕ) (arguments : List Key) (call : Key) (B : BeginsWith old.rules at rule arguments)
    → new.rules ≡ with_nodes old.rules B.here.rule (called_nodes (nodes_at old.rules B.here.rule) B.here.place call (Call rule) B.args)
    → KeepsBefore (copied_keys (nodes_at old.rules rule) B.keys) old.rules new.rules
