use Rattle.std.proofs.Common.{◌++◌, ◌∷◌, ap, sym, ◌∙◌}
use Rattle.value_cursor.specs.Cursors.{found, left_at}
use Rattle.value_cursor.specs.Kept.{again_of, label_of, labels_of}
use Rattle.value_cursor.proofs.Leaving.{last-key}
use Rattle.value_cursor.proofs.Telling.{left-now, same-at, stops-now, token-left}
use Rattle.value_cursor.proofs.cursor.Cursor.next_left.Goals as goal

pub label-label-requires : goal.label-label-requires
label-label-requires g c =
    let G = c.args.grammar.now.rules in
    last-key c.args.grammar.now c.requires.keyed c.loop-self.self.calls.items c.in-Some-here.here (stops-now G c.args.self.now c.loop-self.self c.loop-self.invariant c.in-Some-here.here c.in-Some-here.is)

pub returns-in-Some-token_at-clause-token : goal.returns-in-Some-token_at-clause-token
returns-in-Some-token_at-clause-token g c =
    let G = c.args.grammar.now.rules in
    let now = c.loop-self.self in
    let s = c.in-Some-here.here in
    let later = c.keep_stop.new.self in
    let t = c.in-Some-token_at.token in
    let a = stops-now G c.args.self.now now c.loop-self.invariant s c.in-Some-here.is in
    let first = left-now G c.args.self.now now c.loop-self.invariant s c.in-Some-here.is in
    let told = token-left c.args.grammar.now c.requires.keyed now.calls.items s a c.label-label.result c.label-label.ensures.node t c.in-Some-token_at.ensures.some.0 c.in-Some-token_at.ensures.some.1 in
    let at = same-at G later (found c.pass-there.result c.pass-there.new.here) c.pass-there.new.calls.items c.keep_stop.ensures.here c.keep_stop.ensures.calls ∙ c.pass-there.ensures.left in
    let left = ap (λ k. labels_of (again_of k) ++ left_at G later.here later.calls.items) c.keep_stop.ensures.kept ∙ ap (λ ls. ls ++ left_at G later.here later.calls.items) c.loop-self.invariant.none ∙ at in
    first ∙ told ∙ ap (λ ls. label_of t ∷ ls) (sym left)
