use Rattle.store_core.proofs.Walks.{stays-anywhere}
use Rattle.store_core.proofs.writing.write_node.Goals as goal

pub returns-in_err-done-clause-anywhere : goal.returns-in_err-done-clause-anywhere
returns-in_err-done-clause-anywhere g c = stays-anywhere c.args.store.now c.args.walk.now c.write_tokens-done.new.walk c.write_tokens-done.ensures.inside c.write_tokens-done.ensures.room

pub returns-clause-anywhere : goal.returns-clause-anywhere
returns-clause-anywhere g c = stays-anywhere c.args.store.now c.args.walk.now c.write_tokens-done.new.walk c.write_tokens-done.ensures.inside c.write_tokens-done.ensures.room
