use Rattle.std.proofs.Common.{◌∙◌, ◌∷◌, [], refl}
use Rattle.rule_arena.specs.Terms.{Node}
use Rattle.rule_arena.specs.declared.label.Label.TheVariants.{Bottom}
use Rattle.slt_grammar.proofs.Detachings.{not-leaf, still, stands-some, at-still}
use Rattle.slt_grammar.proofs.Replacements.{no-root}
use Rattle.slt_grammar.proofs.detaching.detach.Goals as goal

pub splice-requires-clause-inner : goal.splice-requires-clause-inner
splice-requires-clause-inner c =
    let x = c.requires.inner.0 in (
      at-still c.args.arena.now c.add-leaf.new.self c.args.at c.add-leaf.result c.add-leaf.ensures.vacant c.add-leaf.ensures.others x,
      (
        c.requires.inner.1,
        not-leaf c.args.arena.now c.add-leaf.new.self c.args.at c.add-leaf.result c.add-leaf.ensures.vacant c.add-leaf.ensures.others x.root
            (stands-some c.args.arena.now c.add-leaf.new.self c.args.at c.add-leaf.result c.add-leaf.ensures.vacant c.add-leaf.ensures.others x),
      ),
    )

pub returns-clause-moved : goal.returns-clause-moved
returns-clause-moved c = λ x.
    let n : Node = record { key = c.add-leaf.result; label = Bottom; kids = 0 } in (
      n,
      (refl, c.splice.ensures.moved (at-still c.args.arena.now c.add-leaf.new.self c.args.at c.add-leaf.result c.add-leaf.ensures.vacant c.add-leaf.ensures.others x) (n ∷ []) c.add-leaf.ensures.term),
    )

pub returns-clause-freed : goal.returns-clause-freed
returns-clause-freed c = λ x. c.splice.ensures.freed (at-still c.args.arena.now c.add-leaf.new.self c.args.at c.add-leaf.result c.add-leaf.ensures.vacant c.add-leaf.ensures.others x)

pub returns-clause-others : goal.returns-clause-others
returns-clause-others c = λ x r s d.
    c.splice.ensures.others (at-still c.args.arena.now c.add-leaf.new.self c.args.at c.add-leaf.result c.add-leaf.ensures.vacant c.add-leaf.ensures.others x) r d
    (no-root c.args.arena.now c.args.at r c.limit-limit.ensures.sound c.requires.inner.0 c.requires.inner.1 s)
    (not-leaf c.args.arena.now c.add-leaf.new.self c.args.at c.add-leaf.result c.add-leaf.ensures.vacant c.add-leaf.ensures.others r s)
    ∙ still c.args.arena.now c.add-leaf.new.self c.args.at c.add-leaf.result c.add-leaf.ensures.vacant c.add-leaf.ensures.others r s
