use Rattle.store_core.specs.StoreOf.{parts_of}
use Rattle.store_core.proofs.Asked.{few-nodes}
use Rattle.store_core.proofs.selecting.run_plain.Goals as goal

pub run-requires-clause-small : goal.run-requires-clause-small
run-requires-clause-small g c = few-nodes (parts_of c.args.store.now) c.requires.held
