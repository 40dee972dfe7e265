use Rattle.std.proofs.Common.{arith}
use Rattle.slt_grammar.proofs.TourLemmas.{length-node_tour}
use Rattle.preorder_address.proofs.Descending.{nodes-below, nodes-within}
use Rattle.preorder_address.proofs.EntrySteps.{call-earlier, entry-key, entry-next, entry-plain, entry-rule, kid-there, never-none, symbol-is}
use Rattle.preorder_address.proofs.ParentRises.{plain-not}
use Rattle.preorder_address.proofs.parent.number_of.Goals as goal

pub frame_at-frame-requires-clause-there : goal.frame_at-frame-requires-clause-there
frame_at-frame-requires-clause-there g c =
    let a = c.args in
    let w = c.requires.tells in
    let t = c.loop-at.invariant.tells w.0 w.1 w.3 in
    (t.place, t.node, t.is_entry.there, t.is_entry.key, plain-not t.node.label (entry-plain a.grammar.now c.requires.keyed w.0 c.loop-at.at w.1 t))

pub frame_at-frame-requires-clause-small : goal.frame_at-frame-requires-clause-small
frame_at-frame-requires-clause-small g c =
    let w = c.requires.tells in
    let t = c.loop-at.invariant.tells w.0 w.1 w.3 in
    omega (arith, t.small, w.2)

pub returns-in_default-clause-number : goal.returns-in_default-clause-number
returns-in_default-clause-number g c = λ limit up t.
    let a = c.args in
    let s = c.loop-at.invariant.tells limit up t in
    symbol-is a.grammar.now c.requires.keyed limit c.loop-at.at up s c.frame_at-frame.result.before (c.frame_at-frame.ensures.before s.place (entry-key a.grammar.now c.requires.keyed limit c.loop-at.at up s)) c.in_default.not-Call

pub returns-in_default-clause-steps : goal.returns-in_default-clause-steps
returns-in_default-clause-steps g c =
    let a = c.args in
    omega (arith, c.loop-at.invariant.few, c.frame_at-frame.ensures.steps, nodes-within a.grammar.now.rules c.loop-at.at.rule)

pub param_at-param-requires-clause-rule : goal.param_at-param-requires-clause-rule
param_at-param-requires-clause-rule g c =
    let a = c.args in
    let w = c.requires.tells in
    let t = c.loop-at.invariant.tells w.0 w.1 w.3 in
    omega (arith, call-earlier a.grammar.now c.requires.keyed w.0 c.loop-at.at w.1 t c.in-Call.rule c.in-Call.is, entry-rule a.grammar.now c.requires.keyed w.0 c.loop-at.at w.1 t)

pub param_at-param-requires-clause-number : goal.param_at-param-requires-clause-number
param_at-param-requires-clause-number g c =
    let a = c.args in
    let w = c.requires.tells in
    let t = c.loop-at.invariant.tells w.0 w.1 w.3 in
    kid-there a.grammar.now c.requires.keyed w.0 c.loop-at.at w.1 t c.in-Call.rule c.in-Call.is

pub unreachable-requires : goal.unreachable-requires
unreachable-requires g c =
    let a = c.args in
    let w = c.requires.tells in
    let t = c.loop-at.invariant.tells w.0 w.1 w.3 in
    let p = c.param_at-param.ensures.there in
    never-none a.grammar.now c.requires.keyed w.0 c.loop-at.at w.1 t c.in-Call.rule c.in-Call.is p.0 p.2 (c.in_default-first_child_above.ensures.tells c.in-Call.rule p.0 p.1)

pub loop-at-smaller : goal.loop-at-smaller
loop-at-smaller g c =
    let a = c.args in
    let w = c.requires.tells in
    let t = c.loop-at.invariant.tells w.0 w.1 w.3 in
    call-earlier a.grammar.now c.requires.keyed w.0 c.loop-at.at w.1 t c.in-Call.rule c.in-Call.is

pub loop-at-preserved : goal.loop-at-preserved
loop-at-preserved g c =
    let a = c.args in
    let w = c.requires.tells in
    let i = c.loop-at.invariant in
    let p = c.param_at-param.ensures.there in
    let q = c.in-Call.rule in
    let f = c.frame_at-frame in
    let s = i.tells w.0 w.1 w.3 in
    let early = call-earlier a.grammar.now c.requires.keyed w.0 c.loop-at.at w.1 s q c.in-Call.is in
    let h = entry-rule a.grammar.now c.requires.keyed w.0 c.loop-at.at w.1 s in
    let n = length-node_tour a.grammar.now c.requires.keyed q (omega (arith, early, h)) in
    record {
      tells = λ limit up t.
          let s = i.tells limit up t in
          entry-next a.grammar.now c.requires.keyed limit c.loop-at.at up s q c.in-Call.is p.0 p.2 c.in-Some.edge f.result (c.in-Some.ensures.tells q p.0 p.1) (f.ensures.before s.place (entry-key a.grammar.now c.requires.keyed limit c.loop-at.at up s))
          (f.ensures.args s.place s.node s.is_entry.there s.is_entry.key);
      few = omega (arith, i.few, f.ensures.steps, c.param_at-param.ensures.steps, c.in-Some.ensures.steps q p.0 p.1, n, nodes-below a.grammar.now.rules q c.loop-at.at.rule early);
    }
