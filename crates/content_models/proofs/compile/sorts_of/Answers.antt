use Rattle.std.proofs.Common.{sym, map}
use Rattle.content_models.specs.Rules.{rule_of}
use Rattle.content_models.proofs.Compiles.{sorts-next}
use Rattle.content_models.proofs.compile.sorts_of.Goals as goal

pub names-preserved : goal.names-preserved
names-preserved c =
    sorts-next (map rule_of c.args.declarations.now) c.args.names.now c.names.place c.in-Some.kind c.in-Some.name.now c.names.sorts.items c.push.new.self.items c.sort_of.result (sym c.in-Some.ensures) c.names.invariant c.sort_of.ensures c.in_ok-push.ensures.items
