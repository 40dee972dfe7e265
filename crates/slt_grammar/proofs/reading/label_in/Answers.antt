use Rattle.std.proofs.Common.{◌≡◌, ◌∙◌, Some, Option, slice_get, ap}
use Rattle.rule_arena.specs.Terms.{Node}
use Rattle.slt_grammar.specs.Placing.{placed_label}
use Rattle.slt_grammar.proofs.Seen.{known-node}
use Rattle.slt_grammar.proofs.reading.label_in.Goals as goal

pub place_label-requires : goal.place_label-requires
place_label-requires c =
    let x = c.requires.there in
    let n = c.pass.ensures.label x in
    known-node c.args.order.now.order x.nodes x.place (record { key = c.args.key; label = c.pass.result.0; kids = n.0 }) n.1 (c.requires.known x)

same : (o : Option Node) (n m : Node) → o ≡ Some n → o ≡ Some m → n ≡ m
same o n m e f = cc

pub returns : goal.returns
returns c = λ x n e.
    let m = c.pass.ensures.label x in
    let k : Node = record { key = c.args.key; label = c.pass.result.0; kids = m.0 } in
    c.place_label.ensures ∙ ap (λ (z : Node). placed_label c.args.order.now.order z.label) (same (slice_get x.nodes x.place) k n m.1 e)
