use Rattle.std.proofs.Common.{◌≡◌, Ok, Some, ap, sym, ◌∙◌}
use Rattle.std.proofs.lemmas.Result.{err_from_is_err_and}
use Rattle.std.specs.Option.{option_map}
use Rattle.store_core.specs.StoreOf.{held_of, parts_of}
use Rattle.store_core.specs.Texts.{answer_line}
use Rattle.store_core.specs.Walking.{walk_text}
use Rattle.store_core.specs.Worlds.{AreLawfulParts, parts_in, world}
use Rattle.store_core.specs.declared.answer.Answer.TheVariants.{Shown}
use Rattle.store_core.proofs.Printing.{node_shown}
use Rattle.tree_outside.proofs.Sinks.{GetsFront-first}
use Rattle.store_core.proofs.session.Session.show.Goals as goal

pub returns-in_err-write_node-clause-prints : goal.returns-in_err-write_node-clause-prints
returns-in_err-write_node-clause-prints g c = λ settings told count.
    let p = err_from_is_err_and c.from_residual.result c.from_residual.ensures.1 in
    let parts = parts_of c.in-Some.loaded.store in
    let text = walk_text c.in-Some.loaded.store c.in-Ok.walk in
    let held : parts_in c.args.self.now ≡ Some parts = ap parts_in (sym c.self.view_is ∙ ap (option_map held_of) c.in-Some.is) in
    let lawful : AreLawfulParts parts = (rw c.in-Some.is at c.self.invariant.0).parts in
    rw p.1 (
      text,
      Ok Shown,
      GetsFront-first _ _ text (answer_line Shown) c.in_err-write_node.ensures.written,
      node_shown parts c.args.number text (world c.args.self.now told count) lawful held c.in-Ok.ensures.shows,
    )

pub returns-clause-prints : goal.returns-clause-prints
returns-clause-prints g c = λ settings told count.
    let parts = parts_of c.in-Some.loaded.store in
    let text = walk_text c.in-Some.loaded.store c.in-Ok.walk in
    let held : parts_in c.args.self.now ≡ Some parts = ap parts_in (sym c.self.view_is ∙ ap (option_map held_of) c.in-Some.is) in
    let lawful : AreLawfulParts parts = (rw c.in-Some.is at c.self.invariant.0).parts in
    (text, c.in_ok-write_node.ensures.written, node_shown parts c.args.number text (world c.args.self.now told count) lawful held c.in-Ok.ensures.shows)
