-- Nodes whose calls hold identities of rules, seen with the rules' places.
use Rattle.std.specs.Prelude.{◌≡◌, ℕ, zero, suc, ◌-◌, List, [], ◌∷◌, map}
use Rattle.rule_arena.specs.Terms.{Node}
use Rattle.rule_arena.specs.declared.label.Label.{Label}
use Rattle.rule_arena.specs.declared.label.Label.TheVariants.{Bottom, Symbol, Call, Param}
use Rattle.slt_grammar.specs.Editing.{shifted_label}
use Rattle.slt_grammar.specs.Ordering.{place_of, IsThere}

abbrev pub placed_label : List ℕ → Label → Label
placed_label order Bottom = Bottom
placed_label order (Symbol f) = Symbol f
placed_label order (Call id) = Call (place_of order id)
placed_label order Param = Param

-- the node with the place of the rule that it calls
abbrev pub placed_node : List ℕ → Node → Node
placed_node order n = record n { label = placed_label order n.label }

abbrev pub placed : List ℕ → List Node → List Node
placed order = map (placed_node order)

-- the calls are of rules that are there
abbrev pub IsKnown : List ℕ → Label → Type 0
IsKnown order Bottom = Unit {0}
IsKnown order (Symbol f) = Unit {0}
IsKnown order (Call id) = IsThere order id
IsKnown order Param = Unit {0}

abbrev pub AreKnown : List ℕ → List Node → Type 0
AreKnown order [] = Unit {0}
AreKnown order (n ∷ ns) = IsKnown order n.label × AreKnown order ns

-- a node once a rule was put before the rule at place
abbrev pub shifted_node : ℕ → Node → Node
shifted_node place n = record n { label = shifted_label place n.label }

-- a rule's place once the rule at a place, which is another, was taken away
abbrev pub unshifted : ℕ → ℕ → ℕ
unshifted zero q = q - 1
unshifted (suc place) zero = zero
unshifted (suc place) (suc q) = suc (unshifted place q)

abbrev pub unshifted_label : ℕ → Label → Label
unshifted_label place Bottom = Bottom
unshifted_label place (Symbol f) = Symbol f
unshifted_label place (Call q) = Call (unshifted place q)
unshifted_label place Param = Param

abbrev pub unshifted_node : ℕ → Node → Node
unshifted_node place n = record n { label = unshifted_label place n.label }

-- the rule at a place is not called
abbrev pub DoesNotCall : ℕ → Label → Type 0
DoesNotCall place Bottom = Unit {0}
DoesNotCall place (Symbol f) = Unit {0}
DoesNotCall place (Call q) = q ≡ place → ⊥
DoesNotCall place Param = Unit {0}

abbrev pub DoNotCall : ℕ → List Node → Type 0
DoNotCall place [] = Unit {0}
DoNotCall place (n ∷ ns) = DoesNotCall place n.label × DoNotCall place ns
