use Rattle.std.proofs.Common.{◌≡◌, arith, suc, ◌-◌, reverse}
use Rattle.content_models.specs.declared.postfix.Op.TheVariants.{PushNothing}
use Rattle.content_models.specs.Compiling.{no_front}
use Rattle.content_models.proofs.Placing.{default-here, placed-on, placed-room, read-here, top-reverse}
use Rattle.content_models.proofs.compiling.read_places.Goals as goal

pub add_place-requires-clause-room : goal.add_place-requires-clause-room
add_place-requires-clause-room c =
    let k = c.loop-left.left - 1 in
    let p = c.loop-left.invariant in
    let test = c.loop-left-test.true in
    let l : c.loop-left.left ≡ suc k = omega (arith, test) in
    placed-room c.args.names.now c.args.model c.args.code.now c.args.fronts.now c.args.rows.now.items c.loop-left.rows.items c.loop-left.at (reverse c.loop-left.ways.items) (reverse c.pop.new.self.items) c.in-Some.way c.loop-left.left k c.index-code-left.result
    c.requires.places (top-reverse c.loop-left.ways.items c.pop.new.self.items c.in-Some.way c.in-Some.ensures.items) l
    (read-here c.args.code.now k c.index-code-left.result PushNothing (omega (arith, l, p.within)) c.index-code-left.is) p.placed

pub loop-left-preserved : goal.loop-left-preserved
loop-left-preserved c =
    let k = c.loop-left.left - 1 in
    let p = c.loop-left.invariant in
    let test = c.loop-left-test.true in
    let l : c.loop-left.left ≡ suc k = omega (arith, test) in
    let e = c.in_ok-at.ensures.at in
    record {
      placed =
          placed-on c.args.names.now c.args.model c.args.code.now c.args.fronts.now c.args.rows.now.items c.loop-left.rows.items c.add_place.new.rows.items c.loop-left.at c.in_ok-at.at (reverse c.loop-left.ways.items) (reverse c.pop.new.self.items) (reverse c.push_ways.new.ways.items) c.in-Some.way c.loop-left.left k c.index-code-left.result _
          (top-reverse c.loop-left.ways.items c.pop.new.self.items c.in-Some.way c.in-Some.ensures.items) l
          (read-here c.args.code.now k c.index-code-left.result PushNothing (omega (arith, l, p.within)) c.index-code-left.is)
          (default-here c.args.fronts.now k _ no_front (omega (arith, l, p.within, c.requires.all)))
          e c.in_ok-at.ensures.added c.in_ok-at.ensures.rows c.in_ok-push_ways.ensures p.placed;
      within = omega (arith, l, p.within);
      small = omega (arith, e, p.small);
    }
