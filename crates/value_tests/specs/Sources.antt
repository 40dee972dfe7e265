-- What bodies are made from, and what they are then.
use Rattle.std.specs.Prelude.{ℕ, List, [], ◌∷◌, ◌++◌, All, Option, Some, length}
use Rattle.rule_arena.specs.declared.label.Label.{Label}
use Rattle.segment_counts.specs.Counting.{AreCounts}
use Rattle.segment_counts.specs.Weights.{text_weight}
use Rattle.slt_grammar.specs.Grammars.{body_at}
use Rattle.slt_grammar.specs.Keyed.{rules_of}
use Rattle.slt_grammar.specs.declared.rules.Rule.{Rule}
use Rattle.value_tests.specs.Assembled.{IsBodyFor, IsRuleAt, AreRulesFor}
use Rattle.value_tests.specs.Becoming.{CallTurns, LabelTurns}
use Rattle.value_tests.specs.MarkLists.{mark_at}
use Rattle.value_tests.specs.Relabelled.{Spot}
use Rattle.value_tests.specs.Steps.{notes_of, Becomes}
use Rattle.value_tests.specs.declared.assemble.Made.{Made}
use Rattle.value_tests.specs.declared.source.Source.{Source}

module _ (s : Source) where
  abbrev pub rules_in : List Rule
  rules_in = rules_of s.grammar.now.rules

  -- how many texts a label has
  abbrev pub texts_at : Label → ℕ
  texts_at = text_weight s.names.now

  -- how many symbols there are without marks
  abbrev pub symbol_count : ℕ
  symbol_count = length s.names.now

  -- the mark of the text at a place
  abbrev pub mark_in : ℕ → ℕ
  mark_in = mark_at s.marks.now

  abbrev pub HasCounts : Type 0
  HasCounts = AreCounts s.names.now rules_in s.counts.now

  -- what is noted of a rule's body over parameters of these sizes
  abbrev pub notes_in : List ℕ → ℕ → List ℕ
  notes_in args rule = notes_of texts_at rules_in args (body_at rules_in rule)

  -- a call of a rule at a place becomes one of the spot of a number
  abbrev pub CallTurnsIn : ℕ → ℕ → List ℕ → List (Spot ℕ (Option ℕ)) → ℕ → List ℕ → List ℕ → List ℕ → Type 0
  CallTurnsIn = CallTurns texts_at rules_in symbol_count mark_in

  -- a label at a place becomes another
  abbrev pub LabelTurnsIn : Label → ℕ → List ℕ → List (Spot ℕ (Option ℕ)) → Label → List ℕ → List ℕ → List ℕ → Type 0
  LabelTurnsIn = LabelTurns texts_at rules_in symbol_count mark_in

  -- a rule's body over parameters of these sizes becomes another where its first text has this place, whatever spots come later
  abbrev pub BodyTurnsIn : ℕ → List ℕ → ℕ → List (Spot ℕ (Option ℕ)) → List Label → Type 0
  BodyTurnsIn rule args place spots body =
      (later : List (Spot ℕ (Option ℕ))) → Becomes texts_at rules_in symbol_count mark_in (spots ++ later) args (Some place ∷ []) (body_at rules_in rule) body

  -- a body was made for the spot of a number
  abbrev pub IsMadeFor : List (Spot ℕ (Option ℕ)) → ℕ → List Label → Type 0
  IsMadeFor = IsBodyFor texts_at rules_in symbol_count mark_in

  abbrev pub AreMadeFor : List (Spot ℕ (Option ℕ)) → List Made → Type 0
  AreMadeFor spots = All (λ m. IsMadeFor spots m.spot m.body.items)

  -- a rule is made of the spot that its origin names, among those of all that are made
  abbrev pub IsRuleIn : List (Spot ℕ (Option ℕ)) → List ℕ → ℕ → Rule → Type 0
  IsRuleIn = IsRuleAt texts_at rules_in symbol_count mark_in

  abbrev pub AreRulesIn : List (Spot ℕ (Option ℕ)) → List ℕ → List Rule → Type 0
  AreRulesIn = AreRulesFor texts_at rules_in symbol_count mark_in
