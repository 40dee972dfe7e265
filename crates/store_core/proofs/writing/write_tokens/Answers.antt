use Rattle.std.proofs.Common.{◌≡◌, ℕ, drop, length, length-drop, refl, sym, subst, ◌∙◌, ap, arith}
use Rattle.std.specs.Prelude.{Result, Err, vec_capacity, vec_len}
use Rattle.std.proofs.lemmas.Result.{err_from_is_err_and}
use Rattle.tree_outside.proofs.Beside.{Keeps-refl, Keeps-trans, Loses-after}
use Rattle.tree_outside.specs.declared.traits.Failed.{Failed}
use Rattle.value_cursor.specs.Cursors.{tokens_of}
use Rattle.xml_nodes.specs.Pen.{Pen}
use Rattle.xml_nodes.specs.WriterOf.{sink_of}
use Rattle.store_core.specs.Walking.{HasRoom}
use Rattle.store_core.proofs.Saves.{writing_begins, writing_ends, writing_fails, writing_goes}
use Rattle.store_core.proofs.writing.write_tokens.Goals as goal

pub loop-token-init : goal.loop-token-init
loop-token-init g c =
    let ready = c.requires.ready in
    let all = tokens_of c.args.store.now.grammar.rules c.args.walk.now.cursor in
    let none : vec_len c.args.walk.now.place.outer ≡ 0 = omega (arith, c.args.walk.now.place.outer.ok.0, ap length ready.none_open) in
    record {
      writing = rw (ready.none_open, c.requires.pen, c.requires.count) (writing_begins c.args.store.now.names (drop c.args.walk.now.place.used c.args.store.now.texts.texts) all (g.K.Sink.got (sink_of c.args.writer.now)));
      inside = ready.inside;
      room = subst (λ (n : ℕ). HasRoom (vec_capacity c.args.walk.now.place.outer) n all) (sym none) ready.room;
      capacity = refl;
      same = refl;
      kept = Keeps-refl (g.K.Sink.kept (sink_of c.args.writer.now));
      later = omega arith;
    }

pub loop-token-preserved : goal.loop-token-preserved
loop-token-preserved g c =
    let e = c.in_ok-write_token.ensures in
    let room = rw c.in-Some.ensures.token at c.loop-token.invariant.room in
    record {
      writing = rw (e.makes.pen, e.makes.count)
          (writing_goes _ _ _ _ _ _ c.in-Some.token _ _ _ _ _ _ c.loop-token.invariant.writing c.in-Some.ensures.token e.makes.written e.makes.short e.place (sym (ap (λ (p : Pen). p.depth) e.makes.pen) ∙ e.depth));
      inside = c.in-Some.ensures.inside;
      room = rw (e.room, e.opened) room.1;
      capacity = e.room ∙ c.loop-token.invariant.capacity;
      same = e.makes.same_reference ∙ c.loop-token.invariant.same;
      kept = Keeps-trans _ _ _ c.loop-token.invariant.kept e.makes.kept;
      later = omega (arith, e.makes.later);
    }

pub write_token-requires-clause-room : goal.write_token-requires-clause-room
write_token-requires-clause-room g c = (rw c.in-Some.ensures.token at c.loop-token.invariant.room).0

pub write_token-requires-clause-depth : goal.write_token-requires-clause-depth
write_token-requires-clause-depth g c = c.loop-token.invariant.writing.depth

pub returns-clause-written : goal.returns-clause-written
returns-clause-written g c = (writing_ends _ _ _ _ _ _ _ _ _ c.loop-token.invariant.writing c.in_default.ensures.token.0).0

pub returns-clause-count : goal.returns-clause-count
returns-clause-count g c = λ countable.
    (writing_ends _ _ _ _ _ _ _ _ _ c.loop-token.invariant.writing c.in_default.ensures.token.0).1
    (omega (arith, countable.nodes, countable.texts, length-drop c.args.walk.now.place.used c.args.store.now.texts.texts))

pub returns-in_err-write_token-clause-written : goal.returns-in_err-write_token-clause-written
returns-in_err-write_token-clause-written g c =
    let failed = err_from_is_err_and c.from_residual.result c.from_residual.ensures.1 in
    rw failed.1 (writing_fails _ _ _ _ _ _ c.in-Some.token _ _ _ _ _ c.loop-token.invariant.writing c.in-Some.ensures.token c.in_err-write_token.ensures.makes.written)

pub returns-in_err-write_token-clause-lost : goal.returns-in_err-write_token-clause-lost
returns-in_err-write_token-clause-lost g c =
    let failed = err_from_is_err_and c.from_residual.result c.from_residual.ensures.1 in
    let w = c.loop-token.invariant.writing in
    let e = c.in_err-write_token.ensures.makes in
    let stopped : Result (Unit {0}) Failed = Err failed.0 in
    rw failed.1
    (Loses-after _ _ _ _ (g.K.Sink.got (sink_of c.write_token.new.writer)) stopped w.done c.loop-token.invariant.kept w.got e.lost)
