use Rattle.store_core.proofs.FoundFiles.{no_file}
use Rattle.store_core.proofs.file_reading.open_file.Goals as goal

pub returns-in-Ok-false-clause-refused : goal.returns-in-Ok-false-clause-refused
returns-in-Ok-false-clause-refused g c = λ a state loads.
    let finds = rw c.in-Ok-false.field-0-test at c.in-Ok-false.ensures.content.1 in
    (c.args.name.now, loads.reads, loads.document, no_file _ c.args.name.now state (g.F.Shelf.faults c.args.shelf.now) finds)
