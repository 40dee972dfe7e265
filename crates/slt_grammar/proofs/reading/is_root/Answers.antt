use Rattle.std.proofs.Common.{refl}
use Rattle.slt_grammar.proofs.KeyedLemmas.{key_in-within}
use Rattle.slt_grammar.proofs.Parents.{none-root}
use Rattle.slt_grammar.proofs.reading.is_root.Goals as goal

pub returns : goal.returns
returns c = λ x.
    none-root x.nodes x.place x.place c.site.result.parent c.is_none.result (c.limit-limit.ensures.sound.term x.root x.nodes x.stands) (key_in-within x.nodes x.place c.args.key x.there) (c.site.ensures.parent x) refl c.is_none.ensures
