use Rattle.std.proofs.Common.{[]}
use Rattle.tree_outside.proofs.Sinks.{Gets-nil}
use Rattle.store_core.proofs.session.Session.outcome.Goals as goal

pub returns-in-Load-clause-prints : goal.returns-in-Load-clause-prints
returns-in-Load-clause-prints g c = rw c.in-Load.is ([], Gets-nil (g.K.Sink.got c.args.sink.now), c.load.ensures.comes)

pub returns-in-LoadGrammar-clause-prints : goal.returns-in-LoadGrammar-clause-prints
returns-in-LoadGrammar-clause-prints g c = rw c.in-LoadGrammar.is ([], Gets-nil (g.K.Sink.got c.args.sink.now), c.load_grammar.ensures.comes c.args.settings)

pub returns-in-Save-clause-prints : goal.returns-in-Save-clause-prints
returns-in-Save-clause-prints g c = rw c.in-Save.is ([], Gets-nil (g.K.Sink.got c.args.sink.now), c.save.ensures.comes c.args.settings)

pub returns-in-SaveGrammar-clause-prints : goal.returns-in-SaveGrammar-clause-prints
returns-in-SaveGrammar-clause-prints g c = rw c.in-SaveGrammar.is ([], Gets-nil (g.K.Sink.got c.args.sink.now), c.save_grammar.ensures.comes c.args.settings)

pub returns-in-Check-clause-prints : goal.returns-in-Check-clause-prints
returns-in-Check-clause-prints g c = rw c.in-Check.is ([], Gets-nil (g.K.Sink.got c.args.sink.now), c.check.ensures.comes c.args.settings)

pub returns-in-Repair-clause-prints : goal.returns-in-Repair-clause-prints
returns-in-Repair-clause-prints g c =
    rw c.in-Repair.is ([], Gets-nil (g.K.Sink.got c.args.sink.now), c.repair.ensures.comes (g.F.Shelf.told c.args.shelf.now) (g.F.Shelf.faults c.args.shelf.now))

pub returns-in-RepairWide-clause-prints : goal.returns-in-RepairWide-clause-prints
returns-in-RepairWide-clause-prints g c =
    rw c.in-RepairWide.is ([], Gets-nil (g.K.Sink.got c.args.sink.now), c.repair_wide.ensures.comes (g.F.Shelf.told c.args.shelf.now) (g.F.Shelf.faults c.args.shelf.now))

pub returns-in-Count-clause-prints : goal.returns-in-Count-clause-prints
returns-in-Count-clause-prints g c =
    rw c.in-Count.is ([], Gets-nil (g.K.Sink.got c.args.sink.now), c.count.ensures.comes c.args.settings (g.F.Shelf.told c.args.shelf.now) (g.F.Shelf.faults c.args.shelf.now))

pub returns-in-Query-clause-reads : goal.returns-in-Query-clause-reads
returns-in-Query-clause-reads g c = rw c.in-Query.is c.query.ensures.reads

pub returns-in-Count-clause-reads : goal.returns-in-Count-clause-reads
returns-in-Count-clause-reads g c = rw c.in-Count.is c.count.ensures.reads

pub returns-in-Rename-clause-prints : goal.returns-in-Rename-clause-prints
returns-in-Rename-clause-prints g c =
    ([], Gets-nil (g.K.Sink.got c.args.sink.now), c.edit.ensures.comes (g.F.Shelf.told c.args.shelf.now) (g.F.Shelf.faults c.args.shelf.now))

pub returns-in-RenameAll-clause-prints : goal.returns-in-RenameAll-clause-prints
returns-in-RenameAll-clause-prints g c =
    ([], Gets-nil (g.K.Sink.got c.args.sink.now), c.edit_all.ensures.comes (g.F.Shelf.told c.args.shelf.now) (g.F.Shelf.faults c.args.shelf.now))

pub generate-requires-clause-few : goal.generate-requires-clause-few
generate-requires-clause-few g c = (rw c.in-Generate.is at c.requires.records).1

pub returns-in-Generate-clause-prints : goal.returns-in-Generate-clause-prints
returns-in-Generate-clause-prints g c =
    rw c.in-Generate.is ([], Gets-nil (g.K.Sink.got c.args.sink.now), c.generate.ensures.comes (g.F.Shelf.told c.args.shelf.now) (g.F.Shelf.faults c.args.shelf.now))
