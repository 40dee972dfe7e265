use Rattle.std.proofs.Common.{◌≡◌, false, rules, sym, ◌∙◌}
use Rattle.pair_replace.proofs.ChainLemmas.{upper-before, linked-upper, head-differing}
use Rattle.pair_replace.proofs.occurrences.head.Goals as goal

pub loop-first-init : goal.loop-first-init
loop-first-init c =
    let w = c.requires.linked in
    record {
      linked = w;
      upper = sym (c.read-above.ensures.upper w.0 (c.requires.occurrences c.args.lower w.0 w.1.0)) ∙ sym (linked-upper c.args.index.now c.args.digram c.args.lower.number w.0 w.1.0);
    }

pub loop-first-smaller : goal.loop-first-smaller
loop-first-smaller c =
    let w = c.loop-first.invariant.linked in
    upper-before c.args.grammar.now c.limit-limit.ensures.keyed c.loop-first.first w.0 (c.requires.occurrences c.loop-first.first w.0 w.1.0) c.loop-first.above
    (c.loop-first.invariant.upper ∙ linked-upper c.args.index.now c.args.digram c.loop-first.first.number w.0 w.1.0)

pub loop-first-preserved : goal.loop-first-preserved
loop-first-preserved c =
    let w = c.loop-first-test.ensures in
    record {
      linked = w;
      upper = sym (c.read-above-in-loop-first.ensures.upper w.0 (c.requires.occurrences c.loop-first.above w.0 w.1.0)) ∙ sym (linked-upper c.args.index.now c.args.digram c.loop-first.above.number w.0 w.1.0);
    }

pub returns-then-not-can_chain : goal.returns-then-not-can_chain
returns-then-not-can_chain c =
    let x : c.can_chain.result ≡ false = search rules in
    head-differing c.args.grammar.now c.limit-limit.ensures.keyed c.args.index.now c.args.digram c.requires.occurrences (c.can_chain.ensures x) c.args.lower c.requires.linked
