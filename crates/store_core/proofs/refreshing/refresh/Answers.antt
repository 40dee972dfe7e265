use Rattle.std.proofs.Common.{refl, sym, subst}
use Rattle.slt_grammar.specs.Digrams.{IsSettled}
use Rattle.slt_grammar.specs.Keyed.{rules_of}
use Rattle.store_core.specs.Worlds.{Parts}
use Rattle.store_core.proofs.Encoded.{either-way, store-with}
use Rattle.store_core.proofs.refreshing.refresh.Goals as goal

pub returns-clause-settled : goal.returns-clause-settled
returns-clause-settled c =
    let done = c.take_over.ensures in
    either-way c.take_over.result done.replaced done.refused
    (λ replaced. subst (λ (parts : Parts). IsSettled parts.rules c.args.rank) (sym replaced) c.in-Ok.ensures.settles.settled)
    (λ refused. subst (λ (parts : Parts). IsSettled parts.rules c.args.rank) (sym refused) c.requires.settled)

pub returns-clause-store : goal.returns-clause-store
returns-clause-store c = λ t i.
    let old = c.args.store.now in
    let new = c.take_over.new.store in
    let done = c.take_over.ensures in
    let anew = c.in-Ok.ensures in
    either-way c.take_over.result done.replaced done.refused
    (λ replaced. store-with old new t (rules_of c.in-Ok.settled.grammar.rules) i anew.settles.same anew.swept replaced done.counted)
    (λ refused. store-with old new t (rules_of old.grammar.rules) i refl i.swept refused done.counted)
