use Rattle.std.proofs.Common.{◌≡◌, ◌∷◌, ℕ, List, [], inl, refl, Some, IsTrue, length, ap, sym, ◌∙◌, subst, arith}
use Rattle.rule_arena.specs.Terms.{Node}
use Rattle.rule_arena.specs.declared.key.Key.{Key}
use Rattle.slt_grammar.specs.Keyed.{key_at, nodes_at}
use Rattle.start_fronts.proofs.Inlined.{keeps-inlining}
use Rattle.digram_index.specs.Linked.{is_marked}
use Rattle.digram_index.specs.Copies.{IsCopyLinked}
use Rattle.digram_index.proofs.Inlined.{callee-in}
use Rattle.digram_index.proofs.InlinedIndex.{copy-ready}
use Rattle.digram_index.proofs.Marks.{all-more, all-none, keeps-unlinked}
use Rattle.digram_index.proofs.NearInlines.{callee-same, in-new}
use Rattle.digram_index.proofs.Numbered.{same-many}
use Rattle.digram_index.proofs.inlining.inline_linked.Goals as goal

pub kids_of-arguments-requires : goal.kids_of-arguments-requires
kids_of-arguments-requires c = (c.requires.call.here.rule, c.requires.call.here.place, c.requires.call.here.there)

pub unwrap-inlined-requires : goal.unwrap-inlined-requires
unwrap-inlined-requires c = c.inline.ensures.succeeds c.requires.call (c.requires.nodes c.requires.call)

pub link_copy-requires-clause-rule : goal.link_copy-requires-clause-rule
link_copy-requires-clause-rule c =
    let C = c.requires.call in
    let J = rw c.unwrap-inlined.ensures at c.inline.ensures.rules in
    omega (arith, c.called_rule-rule.ensures C, callee-in c.args.grammar.now c.limit-before.ensures.keyed c.args.call C [], in-new c.args.grammar.now c.inline.new.self c.limit-before.ensures.keyed c.limit-after.ensures.keyed c.args.call C c.args.follow c.unwrap-inlined.result.followed (J C))

pub link_copy-requires-clause-copy : goal.link_copy-requires-clause-copy
link_copy-requires-clause-copy c = λ root e.
    let C = c.requires.call in
    let J = rw c.unwrap-inlined.ensures at c.inline.ensures.rules in
    let R = rw c.unwrap-inlined.ensures at c.inline.ensures.root in
    let U = c.unlink_call.ensures in
    let q = c.called_rule-rule.ensures C in
    let e' = subst (λ (x : ℕ). key_at c.inline.new.self.rules x 0 ≡ Some root) (sym q) e in
    subst (λ (x : ℕ). IsCopyLinked c.inline.new.self c.unlink_call.new.index x (Some root) (Some c.unwrap-inlined.result.root)) q
    (copy-ready c.args.grammar.now c.inline.new.self c.limit-before.ensures.keyed c.limit-after.ensures.keyed c.args.call C c.args.follow c.unwrap-inlined.result.followed (J C) c.kids_of-arguments.result (c.kids_of-arguments.ensures C.here.rule C.here.place C.here.there) c.args.index.now c.unlink_call.new.index c.requires.index U.free U.others U.stays U.rules root
    c.unwrap-inlined.result.root e' (R C))

pub link_copy-requires-clause-room : goal.link_copy-requires-clause-room
link_copy-requires-clause-room c =
    let C = c.requires.call in
    let J = rw c.unwrap-inlined.ensures at c.inline.ensures.rules in
    let s = ap (λ (ns : List Node). length ns) (callee-same c.args.grammar.now c.inline.new.self c.limit-before.ensures.keyed c.limit-after.ensures.keyed c.args.call C c.args.follow c.unwrap-inlined.result.followed (J C)) in
    let e = ap (λ (q : ℕ). length (nodes_at c.inline.new.self.rules q)) (c.called_rule-rule.ensures C) in
    omega (arith, c.requires.links C, c.unlink_call.ensures.spares.0, s, e)

pub link_copy-requires-clause-cells : goal.link_copy-requires-clause-cells
link_copy-requires-clause-cells c =
    let C = c.requires.call in
    omega (arith, c.inline.ensures.stays C (c.requires.nodes C), c.requires.cells, c.unlink_call.ensures.room)

pub returns-clause-rules : goal.returns-clause-rules
returns-clause-rules c = rw c.unwrap-inlined.ensures at c.inline.ensures.rules

pub returns-clause-root : goal.returns-clause-root
returns-clause-root c = rw c.unwrap-inlined.ensures at c.inline.ensures.root

pub returns-clause-size : goal.returns-clause-size
returns-clause-size c = rw c.unwrap-inlined.ensures at c.inline.ensures.size

pub returns-clause-spare_nodes : goal.returns-clause-spare_nodes
returns-clause-spare_nodes c = rw c.unwrap-inlined.ensures at c.inline.ensures.spare_nodes

pub returns-clause-links : goal.returns-clause-links
returns-clause-links c = λ C.
    let J = rw c.unwrap-inlined.ensures at c.inline.ensures.rules in
    let s = ap (λ (ns : List Node). length ns) (callee-same c.args.grammar.now c.inline.new.self c.limit-before.ensures.keyed c.limit-after.ensures.keyed c.args.call C c.args.follow c.unwrap-inlined.result.followed (J C)) in
    let e = ap (λ (q : ℕ). length (nodes_at c.inline.new.self.rules q)) (c.called_rule-rule.ensures C) in
    omega (arith, c.link_copy.ensures.spare, c.unlink_call.ensures.spares.0, s, e)

pub returns-clause-numbers : goal.returns-clause-numbers
returns-clause-numbers c = c.link_copy.ensures.spare_rules ∙ c.unlink_call.ensures.spares.1

pub returns-clause-limit : goal.returns-clause-limit
returns-clause-limit c = c.inline.ensures.stays c.requires.call (c.requires.nodes c.requires.call)

pub returns-clause-cells : goal.returns-clause-cells
returns-clause-cells c = omega (arith, c.unlink_call.ensures.room, c.link_copy.ensures.cells)

pub returns-clause-marks : goal.returns-clause-marks
returns-clause-marks c =
    let C = c.requires.call in
    let J = rw c.unwrap-inlined.ensures at c.inline.ensures.rules in
    let U = c.unlink_call.ensures in
    let gone = λ (k : Key). IsTrue (is_marked c.unlink_call.new.index k.number) → ⊥ in
    keeps-unlinked (c.args.call ∷ []) c.args.grammar.now.rules c.inline.new.self.rules c.args.index.now c.unlink_call.new.index c.link_copy.new.index
    (keeps-inlining c.args.grammar.now c.inline.new.self c.limit-before.ensures.keyed c.limit-after.ensures.keyed c.args.call C c.args.follow c.unwrap-inlined.result.followed (J C))
    U.marks c.link_copy.ensures.marks
    (all-more gone c.args.call [] (λ m. c.is_marked-marked.ensures.linked c.args.call.number m (U.free c.args.call.number (inl refl))) (all-none gone))
    (same-many c.args.grammar.now.rules c.inline.new.self.rules c.args.call C.here _ (J C).rules) c.inline.ensures.values
