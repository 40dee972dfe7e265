use Rattle.std.proofs.Common.{arith}
use Rattle.digram_index.proofs.Moving.{count-within}
use Rattle.digram_index.proofs.entries.rekey.Goals as goal

pub place-requires-clause-bucket : goal.place-requires-clause-bucket
place-requires-clause-bucket c =
    let n = c.requires.counted in
    let w = count-within c.args.entry c.args.occurrences.now.held in
    let k = c.key_of-key.ensures.few in
    c.requires.buckets.all c.args.pattern.rank c.key_of-key.result c.bucket.result (omega arith) c.bucket.ensures.bucket
