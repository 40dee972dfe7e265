use Rattle.std.proofs.Common.{sym, ◌-◌, List, ℕ, arith, subst}
use Rattle.slt_grammar.specs.declared.level.Level.{Level}
use Rattle.preorder_address.specs.Marks.{MarksFirst}
use Rattle.preorder_address.specs.Spots.{StandsAfter}
use Rattle.preorder_address.specs.declared.numbering.Numbering.TheVariants.{Nodes}
use Rattle.preorder_address.proofs.Marking.{first-found}
use Rattle.preorder_address.proofs.SpotFinding.{falls-passed, none_passed}
use Rattle.preorder_address.proofs.Spotting.{Spotting, spotting-start, passed-small, told-within, called-below, spotting-next, spotting-steps, only-symbol, spotted}
use Rattle.preorder_address.proofs.spot.descend.Goals as goal

pub down-init : goal.down-init
down-init g c =
    let a = c.args in
    record {
      spots =
          subst (λ (k : ℕ). Spotting a.names.now a.grammar.now a.number a.levels.now.items (k - 1) none_passed a.steps.now a.steps.now) (sym c.rules-rule.ensures.value)
          (spotting-start a.names.now a.grammar.now c.requires.keyed a.counts.now c.requires.counts a.number a.levels.now.items c.requires.empty c.requires.number a.steps.now);
      marks = c.requires.marks;
      first = tt;
      none = λ _. c.requires.empty;
    }

pub returns-in_err-push-clause-steps : goal.returns-in_err-push-clause-steps
returns-in_err-push-clause-steps g c =
    let a = c.args in
    spotting-steps a.names.now a.grammar.now c.requires.keyed a.counts.now c.requires.counts a.number c.down.levels.items c.down.rule c.down.before a.steps.now c.down.steps c.down.invariant.spots c.find_stop-walk.result c.find_stop-walk.ensures.falls c.find_stop-walk.ensures.calls c.find_stop-walk.new.steps c.find_stop-walk.ensures.steps

pub symbol_of-requires : goal.symbol_of-requires
symbol_of-requires g c =
    let a = c.args in
    only-symbol a.names.now a.grammar.now c.requires.keyed a.counts.now c.requires.counts a.number c.down.levels.items c.down.rule c.down.before a.steps.now c.down.steps c.down.invariant.spots c.find_stop-walk.result c.find_stop-walk.ensures.falls c.find_stop-walk.ensures.calls (c.in_default.ensures.none)

pub plus-requires : goal.plus-requires
plus-requires g c =
    let a = c.args in
    passed-small a.names.now a.grammar.now c.requires.keyed a.counts.now c.requires.counts a.number c.down.levels.items c.down.rule c.down.before a.steps.now c.down.steps c.down.invariant.spots c.find_stop-walk.result c.find_stop-walk.ensures.falls c.find_stop-walk.ensures.calls

pub returns-in_default-clause-spot : goal.returns-in_default-clause-spot
returns-in_default-clause-spot g c =
    let a = c.args in
    subst (λ (ls : List Level). StandsAfter a.names.now a.grammar.now.rules a.number ls c.symbol_of.result c.plus.result) (sym c.in_ok-push.ensures.items)
    (spotted a.names.now a.grammar.now c.requires.keyed a.counts.now c.requires.counts a.number c.down.levels.items c.down.rule c.down.before a.steps.now c.down.steps c.down.invariant.spots c.find_stop-walk.result c.find_stop-walk.ensures.falls c.find_stop-walk.ensures.calls c.symbol_of.result c.symbol_of.ensures c.requires.number c.plus.result c.plus.ensures)

pub returns-in_default-clause-steps : goal.returns-in_default-clause-steps
returns-in_default-clause-steps g c =
    let a = c.args in
    spotting-steps a.names.now a.grammar.now c.requires.keyed a.counts.now c.requires.counts a.number c.down.levels.items c.down.rule c.down.before a.steps.now c.down.steps c.down.invariant.spots c.find_stop-walk.result c.find_stop-walk.ensures.falls c.find_stop-walk.ensures.calls c.find_stop-walk.new.steps c.find_stop-walk.ensures.steps

pub before_rule-before-requires-clause-fits : goal.before_rule-before-requires-clause-fits
before_rule-before-requires-clause-fits g c =
    let a = c.args in
    passed-small a.names.now a.grammar.now c.requires.keyed a.counts.now c.requires.counts a.number c.down.levels.items c.down.rule c.down.before a.steps.now c.down.steps c.down.invariant.spots c.find_stop-walk.result c.find_stop-walk.ensures.falls c.find_stop-walk.ensures.calls

pub before_rule-before-requires-clause-segments : goal.before_rule-before-requires-clause-segments
before_rule-before-requires-clause-segments g c =
    let a = c.args in
    told-within a.names.now a.grammar.now c.requires.keyed a.counts.now c.requires.counts a.number c.down.levels.items c.down.rule c.down.before a.steps.now c.down.steps c.down.invariant.spots c.find_stop-walk.result c.find_stop-walk.ensures.falls c.find_stop-walk.ensures.calls c.in-Some.called c.in-Some.ensures.call

pub returns-in_default-clause-first : goal.returns-in_default-clause-first
returns-in_default-clause-first g c =
    let a = c.args in
    let s = c.down.invariant in
    let walk = c.find_stop-walk in
    let met = falls-passed a.names.now a.grammar.now.rules Nodes c.down.rule (a.number - c.down.before.nodes) walk.result walk.ensures.falls in
    subst (λ (ls : List Level). MarksFirst a.names.now a.grammar.now.rules ls c.first_mark-first.result) (sym c.in_ok-push.ensures.items)
    (first-found a.names.now a.grammar.now.rules c.down.levels.items (record { rule = c.down.rule; key = walk.result.walk.key }) c.down.first c.first_mark-first.result c.down.rule s.spots.there s.first s.none
    (λ e. c.first_mark-first.ensures.start a.names.now e met) c.first_mark-first.ensures.below)

pub down-preserved : goal.down-preserved
down-preserved g c =
    let a = c.args in
    let s = c.down.invariant in
    let walk = c.find_stop-walk in
    let met = falls-passed a.names.now a.grammar.now.rules Nodes c.down.rule (a.number - c.down.before.nodes) walk.result walk.ensures.falls in
    let lower = called-below a.names.now a.grammar.now c.requires.keyed a.counts.now c.requires.counts a.number c.down.levels.items c.down.rule c.down.before a.steps.now c.down.steps s.spots walk.result walk.ensures.falls walk.ensures.calls c.in-Some.called c.in-Some.ensures.call in
    record {
      spots =
          subst (λ (ls : List Level). Spotting a.names.now a.grammar.now a.number ls c.in-Some.called c.before_rule-before.result a.steps.now walk.new.steps) (sym c.in_ok-push.ensures.items)
          (spotting-next a.names.now a.grammar.now c.requires.keyed a.counts.now c.requires.counts a.number c.down.levels.items c.down.rule c.down.before a.steps.now c.down.steps s.spots walk.result walk.ensures.falls walk.ensures.calls c.in-Some.called c.in-Some.ensures.call c.before_rule-before.result c.before_rule-before.ensures walk.new.steps walk.ensures.steps);
      marks = walk.ensures.marks;
      first =
          subst (λ (ls : List Level). MarksFirst a.names.now a.grammar.now.rules ls c.first_mark-first.result) (sym c.in_ok-push.ensures.items)
          (first-found a.names.now a.grammar.now.rules c.down.levels.items (record { rule = c.down.rule; key = walk.result.walk.key }) c.down.first c.first_mark-first.result c.down.rule s.spots.there s.first s.none
          (λ e. c.first_mark-first.ensures.start a.names.now e met) c.first_mark-first.ensures.below);
      none = λ e. absurd (omega (arith, e, lower, s.spots.there));
    }
