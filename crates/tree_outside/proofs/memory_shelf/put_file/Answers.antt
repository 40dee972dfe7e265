use Rattle.std.proofs.Common.{ap, ◌∙◌}
use Rattle.std.specs.FinMap.{insert}
use Rattle.std.specs.Prelude.{string_bytes}
use Rattle.tree_outside.specs.MemoryFiles.{files_of}
use Rattle.tree_outside.proofs.TreeFiles.{files_of-insert}
use Rattle.tree_outside.proofs.memory_shelf.put_file.Goals as goal

pub returns-clause-ok : goal.returns-clause-ok
returns-clause-ok c =
    files_of-insert c.args.files.now c.insert.new.self (string_bytes c.in_ok-key.key) c.args.bytes c.in_ok-insert.ensures.updates
    ∙ ap (λ k. insert (files_of c.args.files.now) k c.args.bytes.items) c.in_ok-key.ensures.ok
