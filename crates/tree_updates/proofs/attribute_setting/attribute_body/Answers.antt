use Rattle.std.proofs.Common.{refl}
use Rattle.plain_tree.specs.declared.kind.Kind.TheVariants.{Attribute}
use Rattle.fcns_encoding.proofs.InternLemmas.{interned, on-err}
use Rattle.tree_updates.proofs.attribute_setting.attribute_body.Goals as goal

pub returns-in_err-push-clause-refused : goal.returns-in_err-push-clause-refused
returns-in_err-push-clause-refused c =
    let x = c.args.name.now in
    on-err c.from_residual-in_err-push.result (1, interned c.args.names.now c.intern.new.self Attribute x x refl c.in_ok-symbol.ensures.kept c.in_ok-symbol.ensures.added)

pub returns-in_err-push-2-clause-refused : goal.returns-in_err-push-2-clause-refused
returns-in_err-push-2-clause-refused c =
    let x = c.args.name.now in
    on-err c.from_residual-in_err-push-2.result (1, interned c.args.names.now c.intern.new.self Attribute x x refl c.in_ok-symbol.ensures.kept c.in_ok-symbol.ensures.added)

pub returns-in_err-push-3-clause-refused : goal.returns-in_err-push-3-clause-refused
returns-in_err-push-3-clause-refused c =
    let x = c.args.name.now in
    on-err c.from_residual-in_err-push-3.result (1, interned c.args.names.now c.intern.new.self Attribute x x refl c.in_ok-symbol.ensures.kept c.in_ok-symbol.ensures.added)

pub returns-clause-grown : goal.returns-clause-grown
returns-clause-grown c =
    let x = c.args.name.now in
    interned c.args.names.now c.intern.new.self Attribute x x refl c.in_ok-symbol.ensures.kept c.in_ok-symbol.ensures.added
