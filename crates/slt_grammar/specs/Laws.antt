-- The laws of grammars on which the steps above stand.
use Rattle.std.specs.Prelude.{◌≡◌, ℕ, ◌<◌, ◌≤◌, List, [], length, get_or, map}
use Rattle.rule_arena.specs.declared.label.Label.TheVariants.{Bottom, Call}
use Rattle.plain_tree.specs.declared.kind.Kind.{Kind}
use Rattle.plain_tree.specs.Tree.{Tree}
use Rattle.slt_grammar.specs.Algebras.{Algebra, ranks_of, all_meanings}
use Rattle.slt_grammar.specs.Terms.{Term, substitute, up, holes, holes_of}
use Rattle.slt_grammar.specs.Grammars.{IsGrammar, body_at, rank_at, value_at}
use Rattle.slt_grammar.specs.Editing.{inlined, with_body, rule_added, shifted}
use Rattle.slt_grammar.specs.Segments.{preorder, piece, spread, body_tour}
use Rattle.slt_grammar.specs.Standing.{StandsFor}
use Rattle.slt_grammar.specs.declared.rules.Rule.{Rule}

-- a call that is replaced by its rule's body changes no rule's meaning, in any algebra
abbrev pub InliningKeepsMeanings : {S : Type 0} → Algebra S → Type 0
InliningKeepsMeanings {S} A =
    (G : List Rule) (r place q : ℕ) → IsGrammar G → r < length G → place < length (body_at G r) → get_or (body_at G r) place Bottom ≡ Call q
    → all_meanings A (with_body G r (inlined (ranks_of G) (rank_at G q) (body_at G q) (body_at G r) place)) ≡ all_meanings A G

-- arguments put in one after the other are arguments with arguments put in
abbrev pub SubstitutionsCompose : Type 0
SubstitutionsCompose = (t : Term) (args more : List Term) → substitute (substitute t args) more ≡ substitute t (map (λ a. substitute a more) args)

-- what an algebra makes of a rule's value is what it makes of the rule along the list of rules
abbrev pub SharedRunIsExpandedRun : {S : Type 0} → Algebra S → Type 0
SharedRunIsExpandedRun {S} A =
    (G : List Rule) (r : ℕ) (states : List S) → length states ≡ rank_at G r → up A (value_at G r) states ≡ get_or (all_meanings A G) r (λ _. A.bottom) states

-- a rule that nobody calls, put in with renumbering, changes no other rule's meaning
abbrev pub AddingKeepsMeanings : {S : Type 0} → Algebra S → Type 0
AddingKeepsMeanings {S} A =
    (G : List Rule) (place : ℕ) (R : Rule) → IsGrammar G → place ≤ length G → (r : ℕ) → r < length G
    → get_or (all_meanings A (rule_added G place R)) (shifted place r) (λ _. A.bottom) ≡ get_or (all_meanings A G) r (λ _. A.bottom)

-- the holes of a rule's value are its parameters, each once and in their order
abbrev pub ValuesAreLinear : Type 0
ValuesAreLinear = (G : List Rule) (r : ℕ) → IsGrammar G → r < length G → holes_of (value_at G r) ≡ holes 0 (rank_at G r)

-- rules, names and texts stand for at most one document
abbrev pub StandsForOne : Type 0
StandsForOne = (G : List Rule) (names : List (Kind × List ℕ)) (values : List (List ℕ)) (s t : Tree)
    → StandsFor G names values s → StandsFor G names values t → s ≡ t

-- what the stops of a body's tour stand for, one after another, is the preorder of the rule's value
abbrev pub ToursSpellValues : Type 0
ToursSpellValues = (G : List Rule) (r : ℕ) → IsGrammar G → r < length G → preorder G r ≡ spread (piece G) (body_tour G r) []
