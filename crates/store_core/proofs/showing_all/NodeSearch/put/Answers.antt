use Rattle.std.proofs.Common.{[], List, ℕ, subst, ◌∙◌}
use Rattle.std.proofs.lemmas.Result.{err_from_is_err_and}
use Rattle.tree_outside.specs.Outside.{Gets, GetsFront}
use Rattle.tree_outside.proofs.Sinks.{Gets-nil, GetsFront-first}
use Rattle.store_core.specs.Texts.{shown_bytes}
use Rattle.store_core.proofs.Gathering.{passes-written}
use Rattle.store_core.proofs.Held.{held-behind, held-still}
use Rattle.store_core.proofs.showing_all.NodeSearch.put.Goals as goal

pub returns-then-hold-clause-passes : goal.returns-then-hold-clause-passes
returns-then-hold-clause-passes g c = λ t stand.
    ([], Gets-nil (g.K.Sink.got c.args.sink.now), held-behind c.hold.result c.args.held.now.bytes.items c.hold.new.held.bytes.items (shown_bytes t c.args.number) c.if-hold.true (c.hold.ensures.holds t stand))

pub returns-in_err-write_to-clause-passes : goal.returns-in_err-write_to-clause-passes
returns-in_err-write_to-clause-passes g c = λ t stand.
    let p = err_from_is_err_and c.from_residual.result c.from_residual.ensures.1 in
    let still = held-still c.hold.result c.args.held.now.bytes.items c.hold.new.held.bytes.items (shown_bytes t c.args.number) c.if-hold.false (c.hold.ensures.holds t stand) in
    rw p.1 (GetsFront-first (g.K.Sink.got c.args.sink.now) (g.K.Sink.got c.write_to.new.sink) c.args.held.now.bytes.items (shown_bytes t c.args.number)
    (subst (λ (bs : List ℕ). GetsFront (g.K.Sink.got c.args.sink.now) (g.K.Sink.got c.write_to.new.sink) bs) still c.in_err-write_to.ensures.written))

pub returns-clause-passes : goal.returns-clause-passes
returns-clause-passes g c = λ t stand.
    let still = held-still c.hold.result c.args.held.now.bytes.items c.hold.new.held.bytes.items (shown_bytes t c.args.number) c.if-hold.false (c.hold.ensures.holds t stand) in
    let none = held-still c.hold-2.result c.write_to.new.self.bytes.items c.hold-2.new.held.bytes.items (shown_bytes t c.args.number) c.if-hold-2.false (c.hold-2.ensures.holds t stand) ∙ c.in_ok-write_to.ensures.empty in
    let written = subst (λ (bs : List ℕ). Gets (g.K.Sink.got c.args.sink.now) (g.K.Sink.got c.write_to.new.sink) bs) still c.in_ok-write_to.ensures.written in
    passes-written (g.K.Sink.got c.args.sink.now) (g.K.Sink.got c.write_to.new.sink) (g.K.Sink.got c.write.new.sink) c.args.held.now.bytes.items (shown_bytes t c.args.number) c.hold-2.new.held.bytes.items c.write.result written none (c.write.ensures.written t stand)
