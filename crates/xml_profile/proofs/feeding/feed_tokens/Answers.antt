use Rattle.std.proofs.Common.{rules}
use Rattle.std.specs.Prelude.{OnOk}
use Rattle.xml_nodes.specs.StateOf.{state_of}
use Rattle.xml_nodes.specs.Taking.{built}
use Rattle.xml_profile.specs.Feeding.{joint, TakesPiece}
use Rattle.xml_profile.proofs.FeedLemmas.{on-ok}
use Rattle.xml_profile.proofs.feeding.feed_tokens.Goals as goal

pub returns-clause-ok : goal.returns-clause-ok
returns-clause-ok g c =
    let ok : OnOk c.feed.result (TakesPiece c.args.tokenizer.now c.feed.new.self (joint (state_of c.args.machine.now) (built g.B.Builder c.args.builder.now))
    (joint (state_of c.feed.new.sink.machine.now) (built g.B.Builder c.feed.new.sink.builder.now)) c.args.piece.now) = on-ok c.feed.result (λ h. record { goes = h }) c.feed.ensures.ok in
    search (rules, ok)
