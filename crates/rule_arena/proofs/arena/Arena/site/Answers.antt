use Rattle.std.proofs.Common.{◌≡◌, ◌∙◌, ap, sym, length, Some}
use Rattle.slab.specs.Slab.{get}
use Rattle.rule_arena.specs.Linked.{Cell}
use Rattle.rule_arena.specs.Siblings.{linked, seen}
use Rattle.rule_arena.specs.Terms.{Node}
use Rattle.rule_arena.proofs.Told.{told}
use Rattle.rule_arena.proofs.SeenLemmas.{length-row}
use Rattle.rule_arena.proofs.arena.Arena.site.Goals as goal
use Rattle.rule_arena.proofs.CellLemmas.{has, same_cell}

pub read-cell-requires : goal.read-cell-requires
read-cell-requires g c =
    let t = told (seen c.self.inside.slots) c.self.inside.standing c.args.self.now c.self.view_is c.args.key c.requires in
    has _ t.cell t.slot

pub returns-clause-node : goal.returns-clause-node
returns-clause-node g c = λ x.
    let t = told (seen c.self.inside.slots) c.self.inside.standing c.args.self.now c.self.view_is c.args.key x in
    let d : Cell = linked (get c.self.inside.slots) c.read-cell.result.now in
    let e : t.cell ≡ d = same_cell t.cell d (get (seen c.self.inside.slots) c.args.key.number) t.slot c.read-cell.ensures.cell in
    let n : c.count.result ≡ length d.kids = c.count.ensures.value ∙ sym (length-row (get c.self.inside.slots) c.read-cell.result.now.count c.read-cell.result.now.first) in
    rw (c.label.ensures, n) (t.node ∙ ap (λ (y : Cell). let n : Node = record { key = c.args.key; label = y.label; kids = length y.kids } in Some n) e)

pub returns-clause-parent : goal.returns-clause-parent
returns-clause-parent g c = λ x.
    let t = told (seen c.self.inside.slots) c.self.inside.standing c.args.self.now c.self.view_is c.args.key x in
    let d : Cell = linked (get c.self.inside.slots) c.read-cell.result.now in
    let e : t.cell ≡ d = same_cell t.cell d (get (seen c.self.inside.slots) c.args.key.number) t.slot c.read-cell.ensures.cell in
    t.parent ∙ ap (λ (y : Cell). y.parent) e ∙ sym c.parent.ensures.value
