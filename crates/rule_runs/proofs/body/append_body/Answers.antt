use Rattle.std.proofs.Common.{◌≡◌, ◌+◌, ◌-◌, ◌++◌, [], ◌∷◌, length, arith, ap, sym, ◌∙◌, add-one, append_assoc}
use Rattle.std.proofs.lemmas.List.{length_push}
use Rattle.slt_grammar.specs.Keyed.{nodes_at, labels_of}
use Rattle.slt_grammar.proofs.KeyedLemmas.{key_in-within, body_at-rules_of, label-there}
use Rattle.rule_runs.proofs.Bodies.{taken-all, taken-more, length-body}
use Rattle.rule_runs.proofs.Lists.{no_more}
use Rattle.rule_runs.proofs.body.append_body.Goals as goal

pub returns-in_err-push-clause-steps : goal.returns-in_err-push-clause-steps
returns-in_err-push-clause-steps g c =
    let n = length c.nodes.labels.items - length c.args.labels.now.items in
    let w = key_in-within (nodes_at c.args.grammar.now.rules c.args.rule) n c.in-Some.key (c.nodes.invariant.here ∙ c.in-Some.is) in
    omega (arith, w, c.label.ensures.step, c.nodes.invariant.steps, length-body c.args.grammar.now.rules c.args.rule)

pub nodes-smaller : goal.nodes-smaller
nodes-smaller g c =
    let n = length c.nodes.labels.items - length c.args.labels.now.items in
    let w = key_in-within (nodes_at c.args.grammar.now.rules c.args.rule) n c.in-Some.key (c.nodes.invariant.here ∙ c.in-Some.is) in
    omega (arith, w, c.nodes.invariant.more, ap length c.in_ok-push.ensures.items, length_push c.nodes.labels.items c.label.result)

pub nodes-preserved : goal.nodes-preserved
nodes-preserved g c =
    let G = c.args.grammar.now.rules in
    let ns = nodes_at G c.args.rule in
    let before = c.args.labels.now.items in
    let n = length c.nodes.labels.items - length before in
    let k = c.nodes.invariant.here ∙ c.in-Some.is in
    let w = key_in-within ns n c.in-Some.key k in
    let there = label-there G c.args.rule n _ (c.label.ensures.node c.args.rule n k).1 in
    let l = taken-more (labels_of ns) n c.label.result (rw (body_at-rules_of G c.args.rule) at there) in
    let m : length c.push.new.self.items ≡ length c.nodes.labels.items + 1 = ap length c.in_ok-push.ensures.items ∙ length_push c.nodes.labels.items c.label.result in
    let o = c.nodes.invariant.more in
    let d : length c.push.new.self.items - length before ≡ n + 1 = omega arith in
    record {
      here = rw d (c.next_in_preorder-next.ensures.next c.args.rule n k);
      read = rw (d, add-one n, l) (c.in_ok-push.ensures.items ∙ ap (λ ls. ls ++ c.label.result ∷ []) c.nodes.invariant.read ∙ append_assoc before _ (c.label.result ∷ []));
      few = omega (arith, d, w);
      more = omega (arith, m, o);
      steps = omega (arith, d, c.label.ensures.step, c.next_in_preorder-next.ensures.step, c.nodes.invariant.steps);
    }

pub returns-clause-labels : goal.returns-clause-labels
returns-clause-labels g c =
    let ns = nodes_at c.args.grammar.now.rules c.args.rule in
    let before = c.args.labels.now.items in
    let n = length c.nodes.labels.items - length before in
    c.nodes.invariant.read ∙ ap (λ ls. before ++ ls) (taken-all ns n (c.nodes.invariant.here ∙ no_more c.nodes.next c.in_default.not-Some) ∙ sym (body_at-rules_of c.args.grammar.now.rules c.args.rule))
