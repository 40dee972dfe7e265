-- What encode answers, as the body of the one rule, stands for the document.
use Rattle.std.proofs.Common.{◌≡◌, List, [], ◌∷◌, sym, subst}
use Rattle.rule_arena.specs.declared.label.Label.{Label}
use Rattle.plain_tree.specs.Tree.{Tree, none, more}
use Rattle.plain_tree.specs.Numbers.{texts}
use Rattle.plain_tree.specs.Lawful.{IsDocument}
use Rattle.plain_tree.specs.NameTable.{AreDistinct}
use Rattle.slt_grammar.specs.Terms.{Term}
use Rattle.slt_grammar.specs.Grammars.{IsGrammar, IsSwept}
use Rattle.slt_grammar.specs.Coding.{Codes}
use Rattle.slt_grammar.specs.Standing.{StandsFor}
use Rattle.slt_grammar.specs.declared.rules.Rule.{Rule}
use Rattle.fcns_encoding.specs.Labels.{term_labels}
use Rattle.fcns_encoding.specs.Interning.{Pair, Interns, pairs_of_tree}
use Rattle.fcns_encoding.specs.Laws.{AreLawful}
use Rattle.fcns_encoding.proofs.LabelLemmas.{one-rule-stands}
use Rattle.fcns_encoding.proofs.InternLemmas.{Interns-distinct}
use Rattle.fcns_encoding.proofs.LawfulLemmas.{names-lawful}

pub encoded-stands :
    (t : Tree) (old new : List Pair) (body : List Label) → IsDocument t → AreDistinct old → AreLawful old → Interns old (pairs_of_tree t) new
    → ((term : Term) × Codes new (more t none) term × (body ≡ term_labels term)) → let G : List Rule = record { rank = 0; body = body } ∷ [] in IsGrammar G × IsSwept G × StandsFor G new (texts t) t
encoded-stands t old new body is one lawful grown (term, code, labels) =
    let P : List Label → Type 0 = λ ls. let G : List Rule = record { rank = 0; body = ls } ∷ [] in IsGrammar G × IsSwept G × StandsFor G new (texts t) t in
    subst P (sym labels) (one-rule-stands t new term is (Interns-distinct old (pairs_of_tree t) new grown one) (names-lawful t old new is grown lawful) code)
