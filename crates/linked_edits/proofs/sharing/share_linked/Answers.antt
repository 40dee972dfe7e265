use Rattle.std.proofs.Common.{◌≡◌, ◌+◌, ◌-◌, ℕ, subst, arith}
use Rattle.digram_index.specs.Linked.{cell, shifted_cell}
use Rattle.linked_edits.proofs.Kept.{one-linked, part-of}
use Rattle.linked_edits.proofs.SharedIndex.{call-there, near, shared-but, test}
use Rattle.linked_edits.proofs.sharing.share_linked.Goals as goal

pub link_node-requires-clause-part : goal.link_node-requires-clause-part
link_node-requires-clause-part c =
    let T = c.requires.there in
    let S = T.here in
    let new = rw c.unwrap-call.ensures at c.share.ensures.rules in
    let more = rw c.unwrap.ensures at c.insert_rule.ensures.rules in
    let told = rw c.unwrap.ensures at c.insert_rule.ensures.cells in
    let place : c.rules-start.result - 1 ≡ S.rule = omega (arith, T.start, c.rules-start.ensures.value) in
    let cells = subst (λ (i : ℕ). (k : ℕ) → cell c.insert_rule.new.self k ≡ shifted_cell i (cell c.args.index.now k)) place told in
    let g = c.args.grammar.now in
    let h = c.share.new.self in
    let K = c.limit-before.ensures.keyed in
    let K' = c.limit-after.ensures.keyed in
    let U = c.unlink_node.ensures in
    let B = shared-but g h K K' c.args.at c.unwrap-call.result S.rule S.place T.start S.there (new S) c.args.index.now c.insert_rule.new.self c.unlink_node.new.index c.requires.index more cells U.free U.others U.rules in
    part-of h (near g h K K' c.args.at c.unwrap-call.result S.rule S.place T.start S.there (new S)) c.unlink_node.new.index B (test g h K K' c.args.at c.unwrap-call.result S.rule S.place T.start S.there (new S))

pub link_node-requires-clause-there : goal.link_node-requires-clause-there
link_node-requires-clause-there c =
    let T = c.requires.there in
    let S = T.here in
    let new = rw c.unwrap-call.ensures at c.share.ensures.rules in
    record { rule = S.rule + 1; place = S.place; there = call-there c.args.grammar.now c.share.new.self c.limit-before.ensures.keyed c.limit-after.ensures.keyed c.args.at c.unwrap-call.result S.rule S.place T.start S.there (new S) }

pub returns-clause-index : goal.returns-clause-index
returns-clause-index c =
    let T = c.requires.there in
    let S = T.here in
    let new = rw c.unwrap-call.ensures at c.share.ensures.rules in
    let more = rw c.unwrap.ensures at c.insert_rule.ensures.rules in
    let told = rw c.unwrap.ensures at c.insert_rule.ensures.cells in
    let place : c.rules-start.result - 1 ≡ S.rule = omega (arith, T.start, c.rules-start.ensures.value) in
    let cells = subst (λ (i : ℕ). (k : ℕ) → cell c.insert_rule.new.self k ≡ shifted_cell i (cell c.args.index.now k)) place told in
    let g = c.args.grammar.now in
    let h = c.share.new.self in
    let K = c.limit-before.ensures.keyed in
    let K' = c.limit-after.ensures.keyed in
    let U = c.unlink_node.ensures in
    let B = shared-but g h K K' c.args.at c.unwrap-call.result S.rule S.place T.start S.there (new S) c.args.index.now c.insert_rule.new.self c.unlink_node.new.index c.requires.index more cells U.free U.others U.rules in
    let J = c.link_node.ensures in
    one-linked h (near g h K K' c.args.at c.unwrap-call.result S.rule S.place T.start S.there (new S)) c.unlink_node.new.index B (test g h K K' c.args.at c.unwrap-call.result S.rule S.place T.start S.there (new S))
    c.link_node.new.index c.unwrap-call.result J.part J.right (λ r p key k n. n) J.others
