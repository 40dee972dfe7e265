use Rattle.std.proofs.Common.{◌∷◌, List, Option, ap, refl, sym, ◌∙◌, subst}
use Rattle.slt_grammar.specs.declared.level.Level.{Level}
use Rattle.preorder_address.specs.Marks.{MarksFirst}
use Rattle.preorder_address.specs.Starting.{started}
use Rattle.preorder_address.specs.Told.{AreTold, told_levels}
use Rattle.preorder_address.specs.declared.descent.Descent.{Descent}
use Rattle.segment_counts.specs.Counting.{CountTable}
use Rattle.tree_updates.specs.Ways.{levels_to}
use Rattle.tree_updates.proofs.Fronts.{cut-stay}
use Rattle.tree_updates.proofs.taking_out.way_to.Goals as goal

pub returns-clause-ready : goal.returns-clause-ready
returns-clause-ready g c =
    let G = c.args.grammar.now in
    let n = c.args.names.now in
    let ready = c.behind.ensures.ready G c.limit-limit.ensures.keyed (n, c.requires.counts) c.begin_node-level.ensures.inside in
    subst (λ (C : CountTable). AreTold c.behind.result.rest.descent.by C G.rules c.behind.result.rest.descent.next) (sym c.behind.ensures.counts)
    (subst (λ (d : Descent). AreTold d.by c.args.counts.now G.rules d.next) (sym c.behind.ensures.descent) ready)

pub returns-clause-levels : goal.returns-clause-levels
returns-clause-levels g c =
    let G = c.args.grammar.now in
    let n = c.args.names.now in
    let told = c.behind.ensures.levels G c.limit-limit.ensures.keyed (n, c.requires.counts) c.begin_node-level.ensures.inside in
    let rest = c.behind.result.rest.descent in
    ap (λ (o : Option Level). started o (told_levels rest.by c.behind.result.rest.counts.now G.rules rest.next)) c.behind.ensures.first
    ∙ ap (λ (C : CountTable). c.begin_node-level.result.level ∷ told_levels rest.by C G.rules rest.next) c.behind.ensures.counts
    ∙ ap (λ (d : Descent). c.begin_node-level.result.level ∷ told_levels d.by c.args.counts.now G.rules d.next) c.behind.ensures.descent
    ∙ ap (λ (ls : List Level). c.begin_node-level.result.level ∷ ls) told ∙ sym c.begin_node-level.ensures.levels

pub returns-clause-marks : goal.returns-clause-marks
returns-clause-marks g c =
    let G = c.args.grammar.now in
    let n = c.args.names.now in
    let first = c.begin_node-level.result.first in
    let own = subst (λ (ls : List Level). MarksFirst n G.rules ls first) (sym c.begin_node-level.ensures.levels) c.begin_node-level.ensures.first in
    cut-stay n G (levels_to G.rules c.args.number) first first c.begin_node-level.new.marks c.cut.new.self c.cut.ensures c.limit-limit.ensures.keyed c.begin_node-level.ensures.marks refl own
