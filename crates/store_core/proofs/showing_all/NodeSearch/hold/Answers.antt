use Rattle.std.proofs.Common.{◌≡◌, sym, ◌∙◌}
use Rattle.store_core.specs.Texts.{shown_bytes}
use Rattle.store_core.specs.Walking.{walk_text}
use Rattle.store_core.proofs.Held.{held-again, held-more}
use Rattle.store_core.proofs.showing_all.NodeSearch.hold.Goals.{then-is_err, else-is_err}
use Rattle.store_core.proofs.showing_all.NodeSearch.hold.Goals as goal

pub returns-clause-holds : goal.returns-clause-holds
returns-clause-holds g c = λ t stand.
    let old = c.args.held.now.bytes.items in
    let mid = c.write_node-done.new.sink.bytes.items in
    let text = walk_text c.args.store.now c.begin.new.self.walk in
    let shown = shown_bytes t c.args.number in
    let shows : shown ≡ text = rw c.if-not-begin.false at (c.begin.ensures.shows t stand) in
    elim c.if-is_err.branch [
      | then-is_err w ↦ rw w.held-is (w.truncate.ensures.items ∙ held-again c.write_node-done.result old mid text shown c.len-before.result c.is_ok.result (sym c.is_err.ensures.value ∙ w.if-is_err.true) c.is_ok.ensures.value c.len-before.ensures.value c.write_node-done.ensures.written)
      | else-is_err w ↦ rw w.held-is (held-more c.write_node-done.result old mid text shown c.is_ok.result (sym c.is_err.ensures.value ∙ w.if-is_err.false) c.is_ok.ensures.value shows c.write_node-done.ensures.written)
    ]
