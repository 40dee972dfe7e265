use Rattle.std.proofs.Common.{[], ◌++◌, ap, ◌∙◌}
use Rattle.xml_nodes.specs.Machine.{events}
use Rattle.record_generator.specs.Records.{generated}
use Rattle.record_generator.proofs.Lawful.{documents}
use Rattle.store_core.proofs.Generated.{folded-calls}
use Rattle.store_core.proofs.generating.fold_records.Goals as goal

pub returns : goal.returns
returns c =
    let e = c.finish_with.ensures in
    folded-calls c.finish_with.result _ (generated c.args.records) (documents c.args.records c.requires).0 (c.in_ok-generate.ensures.calls ∙ ap (λ es. es ++ events (generated c.args.records) []) c.new-folder.ensures.log) e.stand e.names e.grammar e.swept e.ranks
