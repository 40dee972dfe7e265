use Rattle.std.proofs.Common.{◌-◌, ap, ◌∙◌}
use Rattle.tree_updates.proofs.FoundSeams.{back-found}
use Rattle.tree_updates.proofs.NodeExtents.{spot-low}
use Rattle.tree_updates.proofs.finding_seams.find_seams.Goals as goal

pub returns-clause-seams : goal.returns-clause-seams
returns-clause-seams g c = λ t s.
    let a = c.args.store.now in
    let n = c.args.number in
    let F = c.args.fragment.now in
    let low = spot-low a.names a.grammar.rules t n c.args.spot.now s.stand.code c.requires.spot in
    record {
      front_is = c.in_ok-front.ensures.meets t s;
      back_is = back-found t s.stand.document n low F c.is_text-last.result c.is_text-here.result c.kind_in.result c.kind.result c.saturating_sub.result (c.saturating_sub.ensures ∙ ap (λ k. k - 1) c.len.ensures) c.is_text-last.ensures c.kind_in.ensures c.is_text-here.ensures
          (c.kind.ensures a.grammar.rules n t c.requires.spot s.stand.code) c.both.result c.both.ensures;
    }
