use Rattle.std.proofs.Common.{sym, ◌∙◌}
use Rattle.tree_updates.proofs.FoundSeams.{front-found, no-front}
use Rattle.tree_updates.proofs.NodeExtents.{spot-low}
use Rattle.tree_updates.proofs.finding_seams.meets_front.Goals as goal

pub returns-then-not-is_text-clause-meets : goal.returns-then-not-is_text-clause-meets
returns-then-not-is_text-clause-meets g c = λ t s.
    let a = c.args.store.now in
    let n = c.args.number in
    let low = spot-low a.names a.grammar.rules t n c.args.spot.now s.stand.code c.requires.spot in
    no-front t s.stand.document n low c.args.fragment.now c.kind_in.result c.kind_in.ensures (sym c.is_text.ensures ∙ c.if-not-is_text.true)

pub returns-clause-meets : goal.returns-clause-meets
returns-clause-meets g c = λ t s.
    let a = c.args.store.now in
    let n = c.args.number in
    let low = spot-low a.names a.grammar.rules t n c.args.spot.now s.stand.code c.requires.spot in
    front-found t s.stand.document n low c.args.fragment.now c.requires.behind c.is_some.result c.kind_in.result c.kind_in.ensures (sym c.is_text.ensures ∙ c.if-not-is_text.false) (c.is_some.ensures ∙ c.in_ok-before.ensures.before t s)
