use Rattle.std.proofs.Common.{◌≡◌, arith, sym}
use Rattle.slt_grammar.specs.Bodies.{params}
use Rattle.slt_grammar.specs.Keyed.{nodes_at, rules_of}
use Rattle.slt_grammar.specs.Segments.{preorder}
use Rattle.slt_grammar.proofs.KeyedLemmas.{key_at-within, length-rules_of}
use Rattle.slt_grammar.proofs.TourLemmas.{params-preorder}
use Rattle.slt_grammar.proofs.TourWalking.{key-node}
use Rattle.preorder_address.proofs.RangeSums.{laden-small, none-before}
use Rattle.preorder_address.proofs.spot_extent.params_before.Goals as goal

pub returns-then-rank-eq0-clause-params : goal.returns-then-rank-eq0-clause-params
returns-then-rank-eq0-clause-params g c = λ p e.
    let a = c.args in
    let x = key-node (nodes_at a.grammar.now.rules a.rule) p a.key e in
    let h = key_at-within a.grammar.now.rules a.rule p a.key e in
    let z : params (preorder (rules_of a.grammar.now.rules) a.rule) ≡ 0 =
    omega (arith, params-preorder (rules_of a.grammar.now.rules) a.rule c.requires.keyed.grammar (omega (arith, h.0, length-rules_of a.grammar.now.rules)), c.rank.ensures, c.if-rank-eq0.true) in
    sym (none-before a.grammar.now c.requires.keyed a.rule p x.0 x.1 z)

pub pass_to-requires-clause-small : goal.pass_to-requires-clause-small
pass_to-requires-clause-small g c =
    let a = c.args in
    let t = c.requires.there in
    let h = key_at-within a.grammar.now.rules a.rule t.0 a.key t.1 in
    laden-small (rules_of a.grammar.now.rules) a.counts.now c.requires.counts a.rule (omega (arith, h.0, length-rules_of a.grammar.now.rules))
