use Rattle.std.proofs.Common.{◌≡◌, ◌<◌, ◌∙◌, ◌++◌, ◌∷◌, [], Bool, true, false, not, refl, ap, sym, subst, arith, length, add-one}
use Rattle.segment_counts.specs.Weights.{count, node_weight}
use Rattle.slt_grammar.specs.Automata.{IsSpent}
use Rattle.slt_grammar.specs.Grammars.{rank_at}
use Rattle.slt_grammar.specs.Keyed.{rules_of}
use Rattle.rule_runs.specs.Risen.{keys, pair_at}
use Rattle.rule_runs.specs.Tellings.{unhit_told}
use Rattle.rule_runs.proofs.Resting.{handed_from, handed-push, spent-outcome}
use Rattle.rule_runs.proofs.Triples.{pair-of}
use Rattle.rule_runs.proofs.spent.spent_outcome.Goals as goal

is-true : (b : Bool) → false ≡ not b → b ≡ true
is-true true e = refl
is-true false e = absurd (cc)

pub segments-preserved : goal.segments-preserved
segments-preserved g c =
    let A = g.A.Rising.algebra c.args.automaton.now in
    let W = g.A.Falling.downward c.args.automaton.now in
    let G = rules_of c.args.grammar.now.rules in
    let es = c.args.risen.now.known in
    let kn = ap (λ r. r.known) c.risen.view_is in
    let rule = c.in-Some-pair.rule in
    let k : (rule, c.in-Some-pair.field-0-1.now) ≡ pair_at (keys es) c.args.spot.now.pair = c.in-Some-pair.ensures.pair ∙ ap (λ x. pair_at (keys x) c.args.spot.now.pair) kn in
    let r : rule ≡ (pair_at (keys es) c.args.spot.now.pair).0 = ap (λ x. x.0) k in
    let p = pair-of A W G es c.requires.run c.args.spot.now.pair c.requires.there in
    let lt : rule < length G = omega (arith, p.there, r) in
    let counts = rw c.in-Some.is at c.requires.counts in
    let told = c.told.ensures counts.0 G counts.1 lt in
    let d = c.in-Some.spent.now.down in
    let i = c.segments.segment in
    rw (add-one i, handed-push (count node_weight G rule) d 0 i i (omega arith)) (c.in_ok-push.ensures.items ∙ ap (λ hs. hs ++ record { before = c.told.result; down = c.in_ok-copy.field-0 } ∷ []) c.segments.invariant
    ∙ ap (λ t. handed_from (count node_weight G rule) d 0 i ++ record { before = t; down = c.in_ok-copy.field-0 } ∷ []) told ∙ ap (λ y. handed_from (count node_weight G rule) d 0 i ++ record { before = unhit_told (count node_weight G rule i); down = y } ∷ []) c.in_ok-copy.ensures)

pub returns : goal.returns
returns g c = λ lists.
    let A = g.A.Rising.algebra c.args.automaton.now in
    let W = g.A.Falling.downward c.args.automaton.now in
    let G = rules_of c.args.grammar.now.rules in
    let es = c.args.risen.now.known in
    let kn = ap (λ r. r.known) c.risen.view_is in
    let rule = c.in-Some-pair.rule in
    let spot = c.args.spot.now in
    let k : (rule, c.in-Some-pair.field-0-1.now) ≡ pair_at (keys es) spot.pair = c.in-Some-pair.ensures.pair ∙ ap (λ x. pair_at (keys x) spot.pair) kn in
    let r : rule ≡ (pair_at (keys es) spot.pair).0 = ap (λ x. x.0) k in
    let p = pair-of A W G es c.requires.run spot.pair c.requires.there in
    let lt : rule < length G = omega (arith, p.there, r) in
    let counts = rw c.in-Some.is at c.requires.counts in
    let rest : IsSpent W c.in-Some.spent.now.down = rw c.in-Some.is at c.requires.spent in
    let n : c.segments.segment ≡ rank_at G rule = omega (arith, c.segments-test.false, c.segments.auto.segment-end, c.rank-rank.ensures) in
    let last = c.told-2.ensures counts.0 G counts.1 lt ∙ ap (λ i. unhit_told (count node_weight G rule i)) c.rank-rank.ensures in
    let same : spot.down ≡ c.in-Some.spent.now.down = g.met.A.Down.RunState.identical spot.down c.in-Some.spent.now.down (is-true (g.A.Down.PartialEq.eq spot.down c.in-Some.spent.now.down) (sym c.if-ne.false ∙ c.ne.ensures)) in
    spent-outcome A W G c.rules-rules.ensures.grammar (keys es) lists spot _ rule c.requires.there p (subst (IsSpent W) (sym same) rest) r (c.segments.invariant ∙ ap (handed_from (count node_weight G rule) c.in-Some.spent.now.down 0) n ∙ ap (λ d. handed_from (count node_weight G rule) d 0 (rank_at G rule)) (sym same)) last
