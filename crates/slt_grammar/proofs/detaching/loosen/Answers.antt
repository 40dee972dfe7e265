use Rattle.std.proofs.Common.{◌∙◌, ◌<◌, List, IsSome, Option, length, sym, subst, refl, arith}
use Rattle.std.proofs.lemmas.Option.{slice_get_read}
use Rattle.rule_arena.specs.Terms.{Node}
use Rattle.slt_grammar.proofs.Inlinings.{length-args}
use Rattle.slt_grammar.proofs.Detachings.{arg-at, none-loose, child, one-looser, all-loose}
use Rattle.slt_grammar.proofs.detaching.loosen.Goals as goal

pub loop-i-init : goal.loop-i-init
loop-i-init c = record {
  loosening = λ r ns p args e L A. none-loose c.args.arena.now r ns p args L c.args.keys.now e;
  spare = omega arith;
  limit = refl;
}

pub detach-requires-clause-room : goal.detach-requires-clause-room
detach-requires-clause-room c = omega (arith, c.loop-i.invariant.spare, c.requires.room, c.loop-i-test.true)

pub detach-requires-clause-inner : goal.detach-requires-clause-inner
detach-requires-clause-inner c =
    let t = c.requires.there in
    let D = c.loop-i.invariant.loosening t.0 t.1 t.2 t.3 t.4 t.5 t.6 in
    let e = slice_get_read c.args.keys.now (length c.args.keys.now) c.loop-i.i c.index-keys-i.result refl c.loop-i-test.true c.index-keys-i.is in
    let h = arg-at c.args.keys.now t.3 c.loop-i.i c.index-keys-i.result t.6 e in
    let few : c.loop-i.i < length t.3 = omega (arith, c.loop-i-test.true, length-args c.args.keys.now t.3 t.6) in
    let x = child c.args.arena.now c.loop-i.arena t.0 t.1 t.2 t.3 t.5 c.args.keys.now c.loop-i.i c.index-keys-i.result D e c.limit-limit.ensures.sound (subst (λ (o : Option (List Node)). IsSome o) (sym t.4) refl) few h.0 h.1.0 h.1.1 h.1.2 h.1.3 in
    (x.0, x.1.0)

pub loop-i-preserved : goal.loop-i-preserved
loop-i-preserved c = record {
  loosening = λ r ns p args q L A.
      let D = c.loop-i.invariant.loosening r ns p args q L A in
      let e = slice_get_read c.args.keys.now (length c.args.keys.now) c.loop-i.i c.index-keys-i.result refl c.loop-i-test.true c.index-keys-i.is in
      let h = arg-at c.args.keys.now args c.loop-i.i c.index-keys-i.result A e in
      let few : c.loop-i.i < length args = omega (arith, c.loop-i-test.true, length-args c.args.keys.now args A) in
      one-looser c.args.arena.now c.loop-i.arena r ns p args L c.args.keys.now c.loop-i.i c.index-keys-i.result D e c.limit-limit.ensures.sound (subst (λ (o : Option (List Node)). IsSome o) (sym q) refl) few h.0 h.1.0 h.1.1 h.1.2 h.1.3
      c.detach.new.arena c.detach.ensures.moved c.detach.ensures.freed c.detach.ensures.others;
  spare = omega (arith, c.loop-i.invariant.spare, c.detach.ensures.spare);
  limit = c.detach.ensures.limit ∙ c.loop-i.invariant.limit;
}

pub returns-clause-loosened : goal.returns-clause-loosened
returns-clause-loosened c = λ r ns p args q L A.
    all-loose c.args.arena.now c.loop-i.arena r ns p args L c.args.keys.now c.loop-i.i (c.loop-i.invariant.loosening r ns p args q L A) A (omega (arith, c.loop-i-test.false, c.loop-i.auto.i-end))
