use Rattle.std.proofs.Common.{refl}
use Rattle.slt_grammar.specs.Keyed.{rules_of}
use Rattle.rule_runs.specs.Notes.{HasBody}
use Rattle.rule_runs.specs.Risen.{keys}
use Rattle.rule_runs.proofs.Lists.{no_more}
use Rattle.rule_runs.proofs.Triples.{pair-of}
use Rattle.bulk_rewrite.proofs.Driving.{opened, opened-less, ended}
use Rattle.bulk_rewrite.proofs.making.turn.Goals as goal

pub unreachable-requires : goal.unreachable-requires
unreachable-requires g c =
    let m = c.args.making.now in
    let none : HasBody m.bodies m.frame.spot.pair → ⊥ = rw (no_more c.notes.result c.in_default.not-Some) at c.notes.ensures.none in
    none c.requires.way.read

pub open-requires-clause-there : goal.open-requires-clause-there
open-requires-clause-there g c = (c.in_ok-spot.ensures.waits c.in-Some-2.spot c.in-Some-2.is).there

pub returns-in_ok-open-in-Some-2-clause-way : goal.returns-in_ok-open-in-Some-2-clause-way
returns-in_ok-open-in-Some-2-clause-way g c = λ goes.
    let A = g.A.Rising.algebra c.args.automaton.now in
    let W = g.A.Falling.downward c.args.automaton.now in
    let R = g.A.Rewriter.rewriting c.args.automaton.now in
    let G = rules_of c.args.grammar.now.rules in
    let es = c.args.risen.now.known in
    let ks = keys es in
    let m = c.args.making.now in
    let spot = c.in-Some-2.spot in
    let asks = c.in_ok-spot.ensures.waits spot c.in-Some-2.is in
    let h = c.in_ok-open-in-Some-2.ensures in
    opened A W G R ks c.requires.run.distinct m c.open.new.making c.advance.new.frame spot c.requires.way asks c.advance.ensures.same (c.in_ok-spot.ensures.new spot c.in-Some-2.is)
    c.open.ensures.kept c.open.ensures.stays h.read c.open.ensures.known c.open.ensures.rules h.frames h.spot h.stands

pub returns-in_ok-open-in-Some-2-clause-less : goal.returns-in_ok-open-in-Some-2-clause-less
returns-in_ok-open-in-Some-2-clause-less g c = λ goes.
    let A = g.A.Rising.algebra c.args.automaton.now in
    let W = g.A.Falling.downward c.args.automaton.now in
    let R = g.A.Rewriter.rewriting c.args.automaton.now in
    let G = rules_of c.args.grammar.now.rules in
    let es = c.args.risen.now.known in
    let ks = keys es in
    let m = c.args.making.now in
    let spot = c.in-Some-2.spot in
    let asks = c.in_ok-spot.ensures.waits spot c.in-Some-2.is in
    let h = c.in_ok-open-in-Some-2.ensures in
    opened-less A W G R ks m c.open.new.making c.advance.new.frame spot (pair-of A W G es c.requires.run spot.pair asks.there) asks c.advance.ensures.same h.frames h.spot h.cost

pub close-requires-clause-whole : goal.close-requires-clause-whole
close-requires-clause-whole g c =
    let A = g.A.Rising.algebra c.args.automaton.now in
    let W = g.A.Falling.downward c.args.automaton.now in
    let R = g.A.Rewriter.rewriting c.args.automaton.now in
    let G = rules_of c.args.grammar.now.rules in
    let ks = keys c.args.risen.now.known in
    let m = c.args.making.now in
    record {
      tables = ended A W G R ks m _ c.requires.way.tables refl refl refl refl c.advance.ensures.same;
      here = c.in_ok-spot.ensures.hands c.in-None.is;
      named = c.in_ok-spot.ensures.named c.in-None.is;
    }
