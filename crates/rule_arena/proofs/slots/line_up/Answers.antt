use Rattle.std.proofs.Common.{◌≡◌, ◌+◌, ◌-◌, ◌∙◌, List, ◌∷◌, Some, IsSome, drop, slice_get, arith, ap, sym, subst}
use Rattle.slab.specs.Slab.{Slab, get}
use Rattle.rule_arena.specs.Linked.{Raw}
use Rattle.rule_arena.specs.Linking.{first_key}
use Rattle.rule_arena.specs.declared.key.Key.{Key}
use Rattle.rule_arena.proofs.AddLemmas.{get_there}
use Rattle.rule_arena.proofs.FreeLemmas.{before}
use Rattle.rule_arena.proofs.SeenLemmas.{raw_some, lined-some, lined_step}
use Rattle.rule_arena.proofs.slots.line_up.Goals as goal

pub hang-requires-clause-there : goal.hang-requires-clause-there
hang-requires-clause-there c =
    let e : slice_get c.args.kids.now (c.loop-i.i - 1) ≡ Some c.index-kids-i.result = get_there c.args.kids.now (c.loop-i.i - 1) c.index-kids-i.result (omega arith) ∙ ap Some (sym c.index-kids-i.is) in
    subst (λ (s : Slab Raw). IsSome (get s c.index-kids-i.result.number)) (sym c.loop-i.invariant.slots)
    (lined-some c.args.slots.now c.args.up (c.loop-i.i + 1) (drop c.loop-i.i c.args.kids.now) c.index-kids-i.result.number
    (raw_some c.args.slots.now c.index-kids-i.result.number (c.requires.there (c.loop-i.i - 1) c.index-kids-i.result e)))

pub loop-i-preserved : goal.loop-i-preserved
loop-i-preserved c =
    let e : slice_get c.args.kids.now (c.loop-i.i - 1) ≡ Some c.index-kids-i.result = get_there c.args.kids.now (c.loop-i.i - 1) c.index-kids-i.result (omega arith) ∙ ap Some (sym c.index-kids-i.is) in
    let d : drop (c.loop-i.i - 1) c.args.kids.now ≡ c.index-kids-i.result ∷ drop c.loop-i.i c.args.kids.now = before c.args.kids.now c.loop-i.i c.index-kids-i.result c.loop-i-test.true e in
    record {
      slots = lined_step c.args.slots.now c.loop-i.slots c.hang.new.slots c.args.up c.args.kids.now c.loop-i.next c.loop-i.i c.index-kids-i.result d c.loop-i-test.true c.loop-i.invariant.slots c.loop-i.invariant.first c.hang.ensures;
      first = ap (λ (ks : List Key). first_key ks) (sym d);
    }
