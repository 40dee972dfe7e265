use Rattle.std.proofs.Common.{◌≡◌, [], ◌∷◌, reverse, ap, ◌∙◌, arith}
use Rattle.std.proofs.lemmas.List.{length-reverse, reverse-append}
use Rattle.store_core.proofs.Rooms.{depth-few}
use Rattle.store_core.proofs.writing.write_token.Goals as goal

pub begin_node-requires : goal.begin_node-requires
begin_node-requires g c =
    let outer = c.args.place.now.outer in
    omega (arith, depth-few c.args.store.now.names (reverse outer.items), length-reverse outer.items, c.requires.depth, outer.small, outer.ok)

pub returns-in-Some-clause-makes : goal.returns-in-Some-clause-makes
returns-in-Some-clause-makes g c =
    let outer : reverse c.args.place.now.outer.items ≡ c.in-Some.symbol ∷ reverse c.pop.new.self.items = ap reverse c.in-Some.ensures.items ∙ reverse-append c.pop.new.self.items (c.in-Some.symbol ∷ []) in
    rw (c.in-Close.is, outer) c.end_node.ensures.makes
