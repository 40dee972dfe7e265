use Rattle.std.proofs.Common.{◌∷◌, [], List, ap, sym, ◌∙◌, ◌++◌}
use Rattle.slt_grammar.specs.declared.level.Level.{Level}
use Rattle.preorder_address.specs.Descents.{levels_of}
use Rattle.tree_updates.proofs.place_spots.find_place.Goals as goal

pub returns-clause-spot : goal.returns-clause-spot
returns-clause-spot g c =
    let rest = levels_of c.args.store.now.grammar.rules c.begin_place-level.result.rest in
    let is = c.in_ok-push_levels.ensures.levels ∙ ap (λ (ls : List Level). ls ++ rest) (c.in_ok-push.ensures.items ∙ ap (λ (ls : List Level). ls ++ c.begin_place-level.result.level ∷ []) c.new-levels.ensures.items) in
    record { located = is ∙ sym c.begin_place-level.ensures.levels; low = c.requires.low }
