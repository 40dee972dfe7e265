use Rattle.slt_grammar.specs.Automata.{hits}
use Rattle.slt_grammar.specs.Grammars.{value}
use Rattle.slt_grammar.specs.Keyed.{rules_of}
use Rattle.content_models.specs.Checking.{checking_algebra, checking_downward}
use Rattle.content_models.specs.Rules.{rules_of as models_of}
use Rattle.store_core.specs.StoreOf.{parts_of}
use Rattle.store_core.proofs.Asked.{few-nodes}
use Rattle.store_core.proofs.Checked.{finds-wrong}
use Rattle.store_core.proofs.checking.wrong_elements.Goals as goal

pub fall-requires-clause-small : goal.fall-requires-clause-small
fall-requires-clause-small g c = few-nodes (parts_of c.args.store.now) c.requires.held

pub returns : goal.returns
returns g c =
    let e = c.fall.ensures in
    let checker = c.in_ok-checker.checker in
    let t = value (rules_of c.args.store.now.grammar.rules) in
    finds-wrong (models_of c.args.schema.now) (parts_of c.args.store.now) (hits (checking_algebra checker) (checking_downward checker) t) c.fall.result (λ tree stand. c.in_ok-checker.ensures tree t stand.code) e.listed e.hits
