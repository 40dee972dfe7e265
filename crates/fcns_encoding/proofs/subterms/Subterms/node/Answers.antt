use Rattle.fcns_encoding.proofs.CellLemmas.{inserted, extends_keeps, extends_term}
use Rattle.fcns_encoding.proofs.subterms.Subterms.node.Goals as goal

pub invariant_of-self-2 : goal.invariant_of-self-2
invariant_of-self-2 c =
    (inserted c.self.inside.cells.keys c.args.self.now c.insert_full.new.self.keys (record { symbol = c.args.symbol; first = c.args.first; second = c.args.second }) c.in_ok-index.index c.self.view_is c.self.invariant
    c.requires.first c.requires.second c.in_ok-index.ensures.keys c.in_ok-index.ensures.stored).cells

pub invariant_of-self-in_err-number : goal.invariant_of-self-in_err-number
invariant_of-self-in_err-number c =
    (inserted c.self.inside.cells.keys c.args.self.now c.insert_full.new.self.keys (record { symbol = c.args.symbol; first = c.args.first; second = c.args.second }) c.in_ok-index.index c.self.view_is c.self.invariant
    c.requires.first c.requires.second c.in_ok-index.ensures.keys c.in_ok-index.ensures.stored).cells

pub returns-clause-term : goal.returns-clause-term
returns-clause-term c a b ea eb =
    let g = inserted c.self.inside.cells.keys c.args.self.now c.insert_full.new.self.keys (record { symbol = c.args.symbol; first = c.args.first; second = c.args.second }) c.in_ok-index.index c.self.view_is c.self.invariant
    c.requires.first c.requires.second c.in_ok-index.ensures.keys c.in_ok-index.ensures.stored in
    extends_term _ _ _ _ (g.extends c.in_ok-number.number c.in_ok-number.ensures) a b g.cells.earlier ea eb

pub returns-clause-keeps : goal.returns-clause-keeps
returns-clause-keeps c =
    let g = inserted c.self.inside.cells.keys c.args.self.now c.insert_full.new.self.keys (record { symbol = c.args.symbol; first = c.args.first; second = c.args.second }) c.in_ok-index.index c.self.view_is c.self.invariant
    c.requires.first c.requires.second c.in_ok-index.ensures.keys c.in_ok-index.ensures.stored in
    extends_keeps _ _ _ _ (g.extends c.in_ok-number.number c.in_ok-number.ensures)

pub returns-clause-extends : goal.returns-clause-extends
returns-clause-extends c =
    (inserted c.self.inside.cells.keys c.args.self.now c.insert_full.new.self.keys (record { symbol = c.args.symbol; first = c.args.first; second = c.args.second }) c.in_ok-index.index c.self.view_is c.self.invariant
    c.requires.first c.requires.second c.in_ok-index.ensures.keys c.in_ok-index.ensures.stored).extends c.in_ok-number.number c.in_ok-number.ensures
