-- A document that was made from a number, folded.
use Rattle.std.proofs.Common.{◌≡◌, ◌≤◌, List, [], Result, Ok, Err}
use Rattle.std.specs.Prelude.{IfOk}
use Rattle.plain_tree.specs.Tree.{Tree}
use Rattle.plain_tree.specs.Lawful.{IsDocument}
use Rattle.xml_nodes.specs.Machine.{Event, events}
use Rattle.slt_grammar.specs.Grammars.{IsGrammar, IsSwept}
use Rattle.slt_grammar.specs.Keyed.{rules_of}
use Rattle.slt_grammar.specs.Ranks.{greatest_rank}
use Rattle.slt_grammar.specs.Standing.{StandsFor}
use Rattle.fcns_encoding.specs.Interning.{Interns, pairs_of_tree}
use Rattle.fcns_encoding.specs.declared.folder.Folded.{Folded}
use Rattle.store_core.specs.Folding.{IsFoldOf}

-- what a folder that got a document's calls is folded into stands for the document
pub folded-calls : {E : Type 0} (r : Result Folded E) (log : List Event) (t : Tree) → IsDocument t → log ≡ events t []
    → IfOk r (λ f. (t : Tree) → IsDocument t → log ≡ events t [] → StandsFor (rules_of f.grammar.rules) f.names f.texts.texts t)
    → IfOk r (λ f. (t : Tree) → IsDocument t → log ≡ events t [] → Interns [] (pairs_of_tree t) f.names)
    → IfOk r (λ f. IsGrammar (rules_of f.grammar.rules)) → IfOk r (λ f. IsSwept (rules_of f.grammar.rules)) → IfOk r (λ f. greatest_rank (rules_of f.grammar.rules) ≤ 1)
    → IfOk r (IsFoldOf t)
folded-calls (Ok f) log t document logged stand names grammar swept ranks =
    record { stand = stand t document logged; names = names t document logged; grammar = grammar; swept = swept; ranks = ranks }
folded-calls (Err e) log t document logged stand names grammar swept ranks = tt
