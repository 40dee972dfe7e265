use Rattle.std.proofs.Common.{◌≡◌, ◌+◌, ◌-◌, ◌∙◌, ℕ, arith, ap}
use Rattle.slt_grammar.specs.Grammars.{size}
use Rattle.slt_grammar.specs.Keyed.{rules_of}
use Rattle.slt_grammar.specs.Algebras.{ranks_of}
use Rattle.slt_grammar.specs.Bodies.{real_nodes}
use Rattle.pair_replace.proofs.Bodies.{digram-lawful}
use Rattle.pair_replace.proofs.DigramBodies.{two-real}
use Rattle.pair_replace.proofs.Digrams.{sound, upper-small, lower-small}
use Rattle.pair_replace.proofs.PutDigrams.{added}
use Rattle.pair_replace.proofs.new_rule.put_rule.Goals as goal

pub body_of-requires-clause-first : goal.body_of-requires-clause-first
body_of-requires-clause-first c =
    let s = sound c.args.grammar.now c.limit-limit.ensures.keyed c.args.digram c.requires.two in
    s.first

pub body_of-requires-clause-last : goal.body_of-requires-clause-last
body_of-requires-clause-last c =
    let s = sound c.args.grammar.now c.limit-limit.ensures.keyed c.args.digram c.requires.two in
    s.last

pub place_for-place-requires-clause-upper : goal.place_for-place-requires-clause-upper
place_for-place-requires-clause-upper c =
    let s = sound c.args.grammar.now c.limit-limit.ensures.keyed c.args.digram c.requires.two in
    λ q e. let h = upper-small s.rule c.args.digram.upper c.args.digram.lower s.below q e in let w = s.within in omega arith

pub place_for-place-requires-clause-lower : goal.place_for-place-requires-clause-lower
place_for-place-requires-clause-lower c =
    let s = sound c.args.grammar.now c.limit-limit.ensures.keyed c.args.digram c.requires.two in
    λ q e. let h = lower-small s.rule c.args.digram.upper c.args.digram.lower s.below q e in let w = s.within in omega arith

pub add_rule-requires-clause-place : goal.add_rule-requires-clause-place
add_rule-requires-clause-place c =
    let s = sound c.args.grammar.now c.limit-limit.ensures.keyed c.args.digram c.requires.two in
    let p = c.place_for-place.ensures.least s.rule s.below in let w = s.within in omega arith

pub add_rule-requires-clause-body : goal.add_rule-requires-clause-body
add_rule-requires-clause-body c =
    let s = sound c.args.grammar.now c.limit-limit.ensures.keyed c.args.digram c.requires.two in
    let f = s.first in let l = s.last in digram-lawful (rules_of c.args.grammar.now.rules) c.place_for-place.result (c.args.digram.place - 1) (c.len-rank.result - 2) c.args.digram.upper c.args.digram.lower c.in_ok-body.body c.in_ok-body.ensures (omega arith) (omega arith) c.requires.rank s.upper s.lower c.place_for-place.ensures.below

pub returns-clause-added : goal.returns-clause-added
returns-clause-added c =
    added c.args.grammar.now c.add_rule.new.self c.limit-limit.ensures.keyed c.limit-grown.ensures.keyed c.args.digram c.requires.two c.requires.rank c.place_for-place.result (c.len-rank.result - 2)
    c.place_for-place.ensures.below c.place_for-place.ensures.least c.in_ok-body.body c.in_ok-body.ensures (omega arith) c.in_ok-add_rule.ensures.rules

pub returns-clause-size : goal.returns-clause-size
returns-clause-size c =
    let s = sound c.args.grammar.now c.limit-limit.ensures.keyed c.args.digram c.requires.two in
    let t : real_nodes c.in_ok-body.body ≡ 2 = ap real_nodes c.in_ok-body.ensures ∙ two-real (ranks_of (rules_of c.args.grammar.now.rules)) c.args.digram.upper c.args.digram.lower (c.args.digram.place - 1) s.upper s.lower in
    c.in_ok-add_rule.ensures.size ∙ ap (λ (k : ℕ). size (rules_of c.args.grammar.now.rules) + k) t
