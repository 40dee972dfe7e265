use Rattle.std.proofs.Common.{refl}
use Rattle.slt_grammar.proofs.KeyedLemmas.{key_in-within}
use Rattle.slt_grammar.proofs.Parents.{none-root}
use Rattle.slt_grammar.proofs.lift.root_and_second.Goals as goal

pub returns-clause-root : goal.returns-clause-root
returns-clause-root c = λ x.
    none-root x.nodes x.place x.place c.look-item.result.parent c.is_none.result (c.limit-limit.ensures.sound.term x.root x.nodes x.stands) (key_in-within x.nodes x.place c.args.at x.there) (c.look-item.ensures.parent x) refl c.is_none.ensures
