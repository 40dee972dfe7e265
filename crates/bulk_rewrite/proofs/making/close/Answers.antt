use Rattle.std.proofs.Common.{◌∙◌, ap, sym, refl, arith}
use Rattle.std.proofs.lemmas.List.{nil_from_length}
use Rattle.rule_runs.proofs.Lists.{no_more}
use Rattle.slt_grammar.specs.Keyed.{rules_of}
use Rattle.rule_runs.specs.Risen.{keys}
use Rattle.rule_runs.proofs.Triples.{pair-of}
use Rattle.bulk_rewrite.proofs.Driving.{closed, closed-less, ended}
use Rattle.bulk_rewrite.proofs.Waits.{spot-apart}
use Rattle.bulk_rewrite.proofs.making.close.Goals as goal

pub hand_back-requires : goal.hand_back-requires
hand_back-requires g c =
    let A = g.A.Rising.algebra c.args.automaton.now in
    let W = g.A.Falling.downward c.args.automaton.now in
    let R = g.A.Rewriter.rewriting c.args.automaton.now in
    let G = rules_of c.args.grammar.now.rules in
    let es = c.args.risen.now.known in
    let ks = keys es in
    let m = c.args.making.now in
    record { new = rw c.replace-done.ensures.value (spot-apart A W G R ks m.known m.frame.spot _ c.requires.whole.tables.distinct) }

pub returns-clause-way : goal.returns-clause-way
returns-clause-way g c = λ goes.
    let A = g.A.Rising.algebra c.args.automaton.now in
    let W = g.A.Falling.downward c.args.automaton.now in
    let R = g.A.Rewriter.rewriting c.args.automaton.now in
    let G = rules_of c.args.grammar.now.rules in
    let es = c.args.risen.now.known in
    let ks = keys es in
    let m = c.args.making.now in
    let pair = pair-of A W G es c.requires.run m.frame.spot.pair c.requires.whole.tables.there in
    let after = c.replace-done.ensures.after in
    let done = c.replace-done.ensures.value in
    let h = c.in_ok-hand_back.ensures in
    closed A W G R ks c.rules-rules.ensures.grammar m c.hand_back.new.making c.in-Some.below c.pop.new.self.items pair c.requires.whole c.in-Some.ensures.items (ap (λ v. v.items) c.hand_back.ensures.frames) c.hand_back.ensures.bodies
    (rw done at h.rules) (rw done at h.known) (c.hand_back.ensures.spot ∙ ap (λ f. f.spot) after) (c.hand_back.ensures.left ∙ ap (λ f. f.left) after) (c.hand_back.ensures.handed ∙ ap (λ f. f.handed) after) (rw after at h.body) (rw (after, done) at h.opened)

pub returns-clause-less : goal.returns-clause-less
returns-clause-less g c = λ goes.
    let A = g.A.Rising.algebra c.args.automaton.now in
    let W = g.A.Falling.downward c.args.automaton.now in
    let R = g.A.Rewriter.rewriting c.args.automaton.now in
    let G = rules_of c.args.grammar.now.rules in
    let es = c.args.risen.now.known in
    let ks = keys es in
    let m = c.args.making.now in
    let after = c.replace-done.ensures.after in
    closed-less A W G R ks m c.hand_back.new.making c.in-Some.below c.pop.new.self.items c.in-Some.ensures.items (ap (λ v. v.items) c.hand_back.ensures.frames) (c.hand_back.ensures.spot ∙ ap (λ f. f.spot) after) (c.hand_back.ensures.left ∙ ap (λ f. f.left) after)

pub returns-in_default-clause-whole : goal.returns-in_default-clause-whole
returns-in_default-clause-whole g c = λ goes.
    let A = g.A.Rising.algebra c.args.automaton.now in
    let W = g.A.Falling.downward c.args.automaton.now in
    let R = g.A.Rewriter.rewriting c.args.automaton.now in
    let G = rules_of c.args.grammar.now.rules in
    let ks = keys c.args.risen.now.known in
    let m = c.args.making.now in
    let w = c.requires.whole in
    let z = rw (no_more c.pop.result c.in_default.not-Some) at c.pop.ensures.cases in
    let old = nil_from_length m.frames.items (omega (arith, z.0, m.frames.ok.0)) in
    let new = nil_from_length c.pop.new.self.items (omega (arith, z, z.0, m.frames.ok.0, c.pop.new.self.ok.0)) in
    record { tables = ended A W G R ks m _ w.tables refl refl refl (new ∙ sym old) refl; here = w.here; named = w.named }
