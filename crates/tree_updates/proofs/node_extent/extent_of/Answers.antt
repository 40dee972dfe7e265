use Rattle.tree_updates.proofs.node_extent.extent_of.Goals as goal

pub returns-clause-extent : goal.returns-clause-extent
returns-clause-extent g c = λ t s. (c.in_ok-span.ensures.span t s).extent
