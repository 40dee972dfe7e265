use Rattle.std.proofs.Common.{Some, ap, sym, ◌∙◌}
use Rattle.digram_index.specs.Digrams.{Cell}
use Rattle.digram_index.specs.Linked.{Linked, cell}
use Rattle.digram_index.proofs.index.Index.link_reserved.Goals as goal

pub returns-clause-linked : goal.returns-clause-linked
returns-clause-linked c = λ o O.
    ap (λ (l : Linked). cell l c.args.lower.number) c.note_touched.ensures
    ∙ rw (← c.number.ensures) c.enter.ensures.here
    ∙ ap (λ (x : Cell). Some x) (sym (c.read-reading.ensures.told o O))
