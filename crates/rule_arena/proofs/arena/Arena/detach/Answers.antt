use Rattle.std.proofs.Common.{◌∙◌, None, sym}
use Rattle.slab.specs.Slab.{get}
use Rattle.rule_arena.specs.Changing.{hung}
use Rattle.rule_arena.specs.Siblings.{linked, seen}
use Rattle.rule_arena.proofs.TakenOut as taken
use Rattle.rule_arena.proofs.Detached.{kids_there, distinct, apart, free, at_still, stands, tied, moved, freed, others, same_room, same_limit}
use Rattle.rule_arena.proofs.TiedLemmas.{tied_filled}
use Rattle.rule_arena.proofs.FitLemmas.{fit-changed, fit-kids}
use Rattle.rule_arena.proofs.arena.Arena.detach.Goals as goal

pub cell_of-requires : goal.cell_of-requires
cell_of-requires c =
    taken.at_there (seen c.self.inside.slots) c.self.inside.standing c.args.self.now c.self.view_is c.args.at c.requires

pub unwrap-up-requires : goal.unwrap-up-requires
unwrap-up-requires c =
    taken.has_parent (seen c.self.inside.slots) c.self.inside.standing c.args.self.now c.self.view_is c.args.at c.requires (linked (get c.self.inside.slots) c.cell_of.result.now) c.parent.result c.cell_of.ensures.cell c.parent.ensures.value

pub cell_of-requires-2 : goal.cell_of-requires-2
cell_of-requires-2 c =
    taken.up_there (seen c.self.inside.slots) c.self.inside.standing c.args.self.now c.self.view_is c.args.at c.requires (linked (get c.self.inside.slots) c.cell_of.result.now) c.cell_of.ensures.cell c.unwrap-up.result (sym c.parent.ensures.value ∙ c.unwrap-up.ensures)

pub kids_of-above-requires : goal.kids_of-above-requires
kids_of-above-requires c =
    tied_filled c.self.inside.slots c.self.inside.tied c.unwrap-up.result.0.number c.cell_of-2.result.now c.cell_of-2.ensures.raw

pub without-kids-requires : goal.without-kids-requires
without-kids-requires c =
    rw c.kids_of-above.ensures (taken.within (seen c.self.inside.slots) c.self.inside.standing c.args.self.now c.self.view_is c.args.at c.requires (linked (get c.self.inside.slots) c.cell_of.result.now) c.cell_of.ensures.cell c.unwrap-up.result (sym c.parent.ensures.value ∙ c.unwrap-up.ensures) (linked (get c.self.inside.slots) c.cell_of-2.result.now) c.cell_of-2.ensures.cell)

pub set_kids-requires-clause-there : goal.set_kids-requires-clause-there
set_kids-requires-clause-there c =
    taken.up_there (seen c.self.inside.slots) c.self.inside.standing c.args.self.now c.self.view_is c.args.at c.requires (linked (get c.self.inside.slots) c.cell_of.result.now) c.cell_of.ensures.cell c.unwrap-up.result (sym c.parent.ensures.value ∙ c.unwrap-up.ensures)

pub set_kids-requires-clause-kids_there : goal.set_kids-requires-clause-kids_there
set_kids-requires-clause-kids_there c =
    kids_there (seen c.self.inside.slots) c.self.inside.standing c.args.self.now c.self.view_is c.args.at c.requires (linked (get c.self.inside.slots) c.cell_of.result.now) c.cell_of.ensures.cell c.unwrap-up.result (sym c.parent.ensures.value ∙ c.unwrap-up.ensures) (linked (get c.self.inside.slots) c.cell_of-2.result.now) c.cell_of-2.ensures.cell c.kids_of-above.result c.kids_of-above.ensures c.as_slice.result.now (c.as_slice.ensures.value ∙ c.without-kids.ensures)

pub set_kids-requires-clause-distinct : goal.set_kids-requires-clause-distinct
set_kids-requires-clause-distinct c =
    distinct (seen c.self.inside.slots) c.self.inside.standing c.args.self.now c.self.view_is c.args.at c.requires (linked (get c.self.inside.slots) c.cell_of.result.now) c.cell_of.ensures.cell c.unwrap-up.result (sym c.parent.ensures.value ∙ c.unwrap-up.ensures) (linked (get c.self.inside.slots) c.cell_of-2.result.now) c.cell_of-2.ensures.cell c.kids_of-above.result c.kids_of-above.ensures c.as_slice.result.now (c.as_slice.ensures.value ∙ c.without-kids.ensures)

pub set_kids-requires-clause-apart : goal.set_kids-requires-clause-apart
set_kids-requires-clause-apart c =
    apart (seen c.self.inside.slots) c.self.inside.standing c.args.self.now c.self.view_is c.args.at c.requires (linked (get c.self.inside.slots) c.cell_of.result.now) c.cell_of.ensures.cell c.unwrap-up.result (sym c.parent.ensures.value ∙ c.unwrap-up.ensures) (linked (get c.self.inside.slots) c.cell_of-2.result.now) c.cell_of-2.ensures.cell c.kids_of-above.result c.kids_of-above.ensures c.as_slice.result.now (c.as_slice.ensures.value ∙ c.without-kids.ensures)

pub set_kids-requires-clause-free : goal.set_kids-requires-clause-free
set_kids-requires-clause-free c =
    free (seen c.self.inside.slots) c.self.inside.standing c.args.self.now c.self.view_is c.args.at c.requires (linked (get c.self.inside.slots) c.cell_of.result.now) c.cell_of.ensures.cell c.unwrap-up.result (sym c.parent.ensures.value ∙ c.unwrap-up.ensures) (linked (get c.self.inside.slots) c.cell_of-2.result.now) c.cell_of-2.ensures.cell c.kids_of-above.result c.kids_of-above.ensures c.as_slice.result.now (c.as_slice.ensures.value ∙ c.without-kids.ensures) c.self.inside.tied

pub set_parent-requires-clause-there : goal.set_parent-requires-clause-there
set_parent-requires-clause-there c =
    at_still (seen c.self.inside.slots) c.self.inside.standing c.args.self.now c.self.view_is c.args.at c.requires (linked (get c.self.inside.slots) c.cell_of.result.now) c.cell_of.ensures.cell c.unwrap-up.result (sym c.parent.ensures.value ∙ c.unwrap-up.ensures) (linked (get c.self.inside.slots) c.cell_of-2.result.now) c.cell_of-2.ensures.cell c.kids_of-above.result c.kids_of-above.ensures c.as_slice.result.now (c.as_slice.ensures.value ∙ c.without-kids.ensures) (seen c.set_kids.new.slots) c.set_kids.ensures

pub invariant_of-self-inside : goal.invariant_of-self-inside
invariant_of-self-inside c = (
  stands (seen c.self.inside.slots) c.self.inside.standing c.args.self.now c.self.view_is c.args.at c.requires (linked (get c.self.inside.slots) c.cell_of.result.now) c.cell_of.ensures.cell c.unwrap-up.result (sym c.parent.ensures.value ∙ c.unwrap-up.ensures) (linked (get c.self.inside.slots) c.cell_of-2.result.now) c.cell_of-2.ensures.cell c.kids_of-above.result c.kids_of-above.ensures c.as_slice.result.now (c.as_slice.ensures.value ∙ c.without-kids.ensures) (seen c.set_kids.new.slots) c.set_kids.ensures (seen c.set_parent.new.slots) c.set_parent.ensures,
  (
    fit-changed (seen c.set_kids.new.slots) (seen c.set_parent.new.slots) c.args.at.number (hung None) c.set_parent.ensures
        (fit-kids (seen c.self.inside.slots) (seen c.set_kids.new.slots) c.unwrap-up.result.0 c.as_slice.result.now c.set_kids.ensures c.self.inside.fitting),
    (tied (seen c.self.inside.slots) c.self.inside.standing c.args.self.now c.self.view_is c.args.at c.requires (linked (get c.self.inside.slots) c.cell_of.result.now) c.cell_of.ensures.cell c.unwrap-up.result (sym c.parent.ensures.value ∙ c.unwrap-up.ensures) (linked (get c.self.inside.slots) c.cell_of-2.result.now) c.cell_of-2.ensures.cell c.kids_of-above.result c.kids_of-above.ensures c.as_slice.result.now (c.as_slice.ensures.value ∙ c.without-kids.ensures) (seen c.set_kids.new.slots) c.set_kids.ensures (seen c.set_parent.new.slots) c.set_parent.ensures c.self.inside.tied, tt),
  ),
)

pub returns-clause-moved : goal.returns-clause-moved
returns-clause-moved c =
    λ y up i e. moved (seen c.self.inside.slots) c.self.inside.standing c.args.self.now c.self.view_is c.args.at c.requires (linked (get c.self.inside.slots) c.cell_of.result.now) c.cell_of.ensures.cell c.unwrap-up.result (sym c.parent.ensures.value ∙ c.unwrap-up.ensures) (linked (get c.self.inside.slots) c.cell_of-2.result.now) c.cell_of-2.ensures.cell c.kids_of-above.result c.kids_of-above.ensures c.as_slice.result.now (c.as_slice.ensures.value ∙ c.without-kids.ensures) (seen c.set_kids.new.slots) c.set_kids.ensures (seen c.set_parent.new.slots) c.set_parent.ensures y up i e _

pub returns-clause-freed : goal.returns-clause-freed
returns-clause-freed c =
    λ y. freed (seen c.self.inside.slots) c.self.inside.standing c.args.self.now c.self.view_is c.args.at c.requires (linked (get c.self.inside.slots) c.cell_of.result.now) c.cell_of.ensures.cell c.unwrap-up.result (sym c.parent.ensures.value ∙ c.unwrap-up.ensures) (linked (get c.self.inside.slots) c.cell_of-2.result.now) c.cell_of-2.ensures.cell c.kids_of-above.result c.kids_of-above.ensures c.as_slice.result.now (c.as_slice.ensures.value ∙ c.without-kids.ensures) (seen c.set_kids.new.slots) c.set_kids.ensures (seen c.set_parent.new.slots) c.set_parent.ensures y _

pub returns-clause-others : goal.returns-clause-others
returns-clause-others c =
    λ y k nk na. others (seen c.self.inside.slots) c.self.inside.standing c.args.self.now c.self.view_is c.args.at c.requires (linked (get c.self.inside.slots) c.cell_of.result.now) c.cell_of.ensures.cell c.unwrap-up.result (sym c.parent.ensures.value ∙ c.unwrap-up.ensures) (linked (get c.self.inside.slots) c.cell_of-2.result.now) c.cell_of-2.ensures.cell c.kids_of-above.result c.kids_of-above.ensures c.as_slice.result.now (c.as_slice.ensures.value ∙ c.without-kids.ensures) (seen c.set_kids.new.slots) c.set_kids.ensures (seen c.set_parent.new.slots) c.set_parent.ensures y k nk na _

pub returns-clause-spare : goal.returns-clause-spare
returns-clause-spare c =
    same_room (seen c.self.inside.slots) c.self.inside.standing c.args.self.now c.self.view_is c.args.at c.requires (linked (get c.self.inside.slots) c.cell_of.result.now) c.cell_of.ensures.cell c.unwrap-up.result (sym c.parent.ensures.value ∙ c.unwrap-up.ensures) (linked (get c.self.inside.slots) c.cell_of-2.result.now) c.cell_of-2.ensures.cell c.kids_of-above.result c.kids_of-above.ensures c.as_slice.result.now (c.as_slice.ensures.value ∙ c.without-kids.ensures) (seen c.set_kids.new.slots) c.set_kids.ensures (seen c.set_parent.new.slots) c.set_parent.ensures

pub returns-clause-limit : goal.returns-clause-limit
returns-clause-limit c =
    same_limit (seen c.self.inside.slots) c.self.inside.standing c.args.self.now c.self.view_is c.args.at c.requires (linked (get c.self.inside.slots) c.cell_of.result.now) c.cell_of.ensures.cell c.unwrap-up.result (sym c.parent.ensures.value ∙ c.unwrap-up.ensures) (linked (get c.self.inside.slots) c.cell_of-2.result.now) c.cell_of-2.ensures.cell c.kids_of-above.result c.kids_of-above.ensures c.as_slice.result.now (c.as_slice.ensures.value ∙ c.without-kids.ensures) (seen c.set_kids.new.slots) c.set_kids.ensures (seen c.set_parent.new.slots) c.set_parent.ensures
