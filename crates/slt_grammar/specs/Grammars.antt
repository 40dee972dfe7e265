-- Straight-line linear tree grammars with ranked parameters (Lohrey, Maneth, Mennicke: XML tree structure compression using RePair, 2013).
use Rattle.std.specs.Prelude.{◌≡◌, ℕ, ◌+◌, ◌-◌, ◌<◌, ◌≤◌, List, [], length, get_or, sum_by}
use Rattle.rule_arena.specs.declared.label.Label.{Label}
use Rattle.slt_grammar.specs.Bodies.{IsTerm, params, real_nodes, CallsBelow, calls_in}
use Rattle.slt_grammar.specs.Algebras.{ranks_of, all_meanings}
use Rattle.slt_grammar.specs.Terms.{Term, Leaf, term_algebra, holes}
use Rattle.slt_grammar.specs.declared.rules.Rule.{Rule}

-- where no rule is
abbrev pub no_rule : Rule
no_rule = record { rank = 0; body = [] }

abbrev pub body_at : List Rule → ℕ → List Label
body_at G r = (get_or G r no_rule).body

abbrev pub rank_at : List Rule → ℕ → ℕ
rank_at G r = (get_or G r no_rule).rank

-- the body is one term, and the rank is at most 8, and 0 for the last rule
pub record IsShapedAt (G : List Rule) (r : ℕ) : Type 0 where
  pub term : IsTerm (ranks_of G) (body_at G r)
  pub small : rank_at G r ≤ 8
  pub start : r + 1 ≡ length G → rank_at G r ≡ 0

-- it calls earlier rules alone, and has as many parameters as its rank says
pub record IsLawfulAt (G : List Rule) (r : ℕ) : Type 0 where
  pub earlier : CallsBelow r (body_at G r)
  pub shaped : IsShapedAt G r
  pub linear : params (body_at G r) ≡ rank_at G r

-- at least one rule, and each lawful; the last one is the start
pub record IsGrammar (G : List Rule) : Type 0 where
  pub some : 0 < length G
  pub each : (r : ℕ) → r < length G → IsLawfulAt G r

-- how often a rule is called
abbrev pub calls_of : List Rule → ℕ → ℕ
calls_of G r = sum_by (λ R. calls_in r R.body) G

-- every rule but the last is called
abbrev pub IsSwept : List Rule → Type 0
IsSwept G = (r : ℕ) → r + 1 < length G → 0 < calls_of G r

-- the nodes of all bodies, without parameters and with them
abbrev pub size : List Rule → ℕ
size G = sum_by (λ R. real_nodes R.body) G

abbrev pub whole : List Rule → ℕ
whole G = sum_by (λ R. length R.body) G

-- the term of a rule once all calls are replaced, with a hole for each parameter
abbrev pub value_at : List Rule → ℕ → Term
value_at G r = get_or (all_meanings term_algebra G) r (λ _. Leaf) (holes 0 (rank_at G r))

-- what the grammar stands for: the value of the last rule
abbrev pub value : List Rule → Term
value G = value_at G (length G - 1)
