use Rattle.std.proofs.Common.{ℕ, ◌≤◌, List, ap, sym, subst, arith}
use Rattle.value_cursor.specs.Cursors.{left_of, tokens_of}
use Rattle.value_cursor.specs.declared.cursor.Token.{Token}
use Rattle.store_core.specs.Walking.{HasRoom, open_after, opens}
use Rattle.store_core.proofs.Rooms.{open-few, opens-few, place-behind}
use Rattle.store_core.proofs.walking.deepest.Goals as goal

pub depth_behind-depth-requires : goal.depth_behind-depth-requires
depth_behind-depth-requires g c =
    let e = ap opens c.in-Some.ensures.token in
    omega (arith, e, open-few c.loop-token.depth c.in-Some.token (tokens_of c.args.grammar.now.rules c.next.new.self))

pub loop-token-init : goal.loop-token-init
loop-token-init g c = record {
  inside = c.requires;
  few = omega (arith, opens-few c.args.cursor.opened (left_of c.args.grammar.now.rules c.args.cursor), c.requires.few);
  room = λ room h r. r;
}

pub loop-token-preserved : goal.loop-token-preserved
loop-token-preserved g c =
    let rules = c.args.grammar.now.rules in
    let rest = tokens_of rules c.next.new.self in
    let e = c.in-Some.ensures.token in
    record {
      inside = c.in-Some.ensures.inside;
      few = omega (arith, ap opens e, open-few c.loop-token.depth c.in-Some.token rest, c.depth_behind-depth.ensures);
      room = λ room h r.
          let behind : HasRoom room (open_after c.loop-token.depth c.in-Some.token) rest = subst (λ (n : ℕ). HasRoom room n rest) c.depth_behind-depth.ensures r in
          let here : open_after c.loop-token.depth c.in-Some.token ≤ room = omega (arith, c.depth_behind-depth.ensures, c.larger-most.ensures.first, c.larger-most.ensures.second) in
          c.loop-token.invariant.room room (omega (arith, c.larger-most.ensures.first, c.larger-most.ensures.second)) (subst (λ (ts : List Token). HasRoom room c.loop-token.depth ts) (sym e) (place-behind room c.loop-token.depth c.in-Some.token here, behind));
    }
