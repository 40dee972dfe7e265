use Rattle.slt_grammar.proofs.TourWalking.{node-here}
use Rattle.value_cursor.proofs.entering.advance_past.Goals as goal

pub site-site-requires : goal.site-site-requires
site-site-requires g c =
    let (r, left, stands) = c.requires.there in
    (r, stands.place, node-here c.args.grammar.now.rules r c.args.walk.now left stands)
