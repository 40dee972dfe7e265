use Rattle.std.proofs.Common.{arith, ◌+◌, ◌∙◌, ap, drop, take, get_or}
use Rattle.slt_grammar.specs.Keyed.{nodes_at, rules_of}
use Rattle.segment_counts.specs.Weights.{node_weight}
use Rattle.preorder_address.specs.Sites.{term_weights}
use Rattle.slt_grammar.proofs.KeyedLemmas.{key_at-within}
use Rattle.slt_grammar.proofs.TourLemmas.{length-node_tour}
use Rattle.slt_grammar.proofs.TourWalking.{node-key}
use Rattle.std.proofs.Common.{Some}
use Rattle.preorder_address.proofs.Weighers.{plain-of}
use Rattle.preorder_address.proofs.Framing.{frame-before, frame-key, frame-kids}
use Rattle.preorder_address.proofs.parent.frame_at.Goals as goal

pub pass_to-passed-requires-clause-there : goal.pass_to-passed-requires-clause-there
pass_to-passed-requires-clause-there g c =
    let a = c.args in
    let h = c.requires.there in
    (h.0, frame-key a.grammar.now c.requires.keyed a.rule a.frame.now.args a.key h.0 h.1 h.2 h.3 (plain-of h.1.label h.4))

pub overflow_add-result : goal.overflow_add-result
overflow_add-result g c =
    let a = c.args in
    let h = c.requires.there in
    let k = frame-key a.grammar.now c.requires.keyed a.rule a.frame.now.args a.key h.0 h.1 h.2 h.3 (plain-of h.1.label h.4) in
    omega (arith, c.requires.small, frame-before a.grammar.now c.requires.keyed a.rule a.frame.now.args a.key h.0 h.1 h.2 h.3 (plain-of h.1.label h.4), c.pass_to-passed.ensures.weight h.0 k)

pub kid_weights-requires-clause-there : goal.kid_weights-requires-clause-there
kid_weights-requires-clause-there g c =
    let a = c.args in
    let h = c.requires.there in
    (a.rule, h.0, frame-key a.grammar.now c.requires.keyed a.rule a.frame.now.args a.key h.0 h.1 h.2 h.3 (plain-of h.1.label h.4))

pub kid_weights-requires-clause-small : goal.kid_weights-requires-clause-small
kid_weights-requires-clause-small g c = λ r p x e f.
    let a = c.args in
    let h = c.requires.there in
    let k = frame-key a.grammar.now c.requires.keyed a.rule a.frame.now.args a.key h.0 h.1 h.2 h.3 (plain-of h.1.label h.4) in
    let v = frame-kids a.grammar.now c.requires.keyed a.rule a.frame.now.args a.key h.0 h.1 h.2 h.3 (plain-of h.1.label h.4) c.pass_to-passed.result.params (c.pass_to-passed.ensures.params h.0 k) r p x e f in
    omega (arith, c.requires.small, v)

pub returns-clause-args : goal.returns-clause-args
returns-clause-args g c = λ p x e f j.
    let a = c.args in
    let k = node-key (nodes_at a.grammar.now.rules a.rule) p x e ∙ ap Some f in
    c.kid_weights.ensures.weights a.rule p x e f j
    ∙ ap (λ n. get_or (take x.kids (term_weights node_weight (rules_of a.grammar.now.rules) (drop n a.frame.now.args) (drop (p + 1) (nodes_at a.grammar.now.rules a.rule)))) j 0) (c.pass_to-passed.ensures.params p k)

pub returns-clause-steps : goal.returns-clause-steps
returns-clause-steps g c =
    let a = c.args in
    let h = c.requires.there in
    let k = frame-key a.grammar.now c.requires.keyed a.rule a.frame.now.args a.key h.0 h.1 h.2 h.3 (plain-of h.1.label h.4) in
    let n = length-node_tour a.grammar.now c.requires.keyed a.rule (key_at-within a.grammar.now.rules a.rule h.0 a.key k).0 in
    omega (arith, n, c.pass_to-passed.ensures.steps, c.kid_weights.ensures.steps a.rule h.0 k)
