-- What becomes of the values of nodes, as symbols of the nodes.
use Rattle.std.specs.Prelude.{ℕ, List, map, Bool, true, false, Some, not, eqb, if◌then◌else◌}
use Rattle.slt_grammar.specs.Algebras.{Algebra}
use Rattle.slt_grammar.specs.Automata.{Downward}
use Rattle.rule_runs.specs.declared.listing.Hit.{Hit}
use Rattle.bulk_rewrite.specs.Fates.{Fate, Stays, Joins, Drops, fate_of}
use Rattle.bulk_rewrite.specs.Joining.{Marked}
use Rattle.bulk_rewrite.specs.Rewriting.{Rewriting}
use Rattle.bulk_rewrite.specs.declared.value_hits.OneState.{OneState}

abbrev pub tag_of : Fate → ℕ
tag_of Stays = 1
tag_of Joins = 2
tag_of Drops = 3

-- the fate that a tag tells
abbrev pub told_fate : ℕ → Fate
told_fate tag = if eqb tag 1 then Stays else (if eqb tag 2 then Joins else Drops)

-- the tag of a node with a value or without one
abbrev pub node_tag : Bool → Fate → ℕ
node_tag true fate = tag_of fate
node_tag false fate = 0

-- each node gets its tag for a symbol, where these symbols have values and those are texts
abbrev pub tagging : {D : Type 0} → (ℕ → Bool) → (ℕ → Bool) → Rewriting (Marked D)
tagging valued texts = record { lost = λ o. false; becomes = λ f o hit. Some (node_tag (valued f) (fate_of o hit (texts f))) }

abbrev pub one_state : OneState
one_state = record {}

abbrev pub one_algebra : Algebra OneState
one_algebra = record { bottom = one_state; node = λ f k r. one_state }

-- the run that hits the nodes with a value, by their tags
abbrev pub value_run : Downward OneState OneState
value_run = record { start = one_state; step = λ f d k r. record { hit = not (eqb f 0); left = one_state; right = one_state } }

-- what hits tell by their tags
abbrev pub told_fates : List Hit → List Fate
told_fates = map (λ h. told_fate h.symbol)
