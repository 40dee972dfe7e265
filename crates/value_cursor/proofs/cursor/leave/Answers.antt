use Rattle.std.proofs.Common.{[], List, length, refl, ap, sym, ◌∙◌, arith, subst}
use Rattle.std.proofs.lemmas.List.{nil_from_length}
use Rattle.preorder_address.specs.declared.descent.RuleStop.{RuleStop}
use Rattle.value_cursor.specs.Stops.{AreStops, behind}
use Rattle.value_cursor.specs.Work.{work_behind}
use Rattle.value_cursor.proofs.Leaving.{last-key, last-stands, leaves-more, moved-behind, moved-stops, moved-work_behind}
use Rattle.value_cursor.proofs.cursor.leave.Goals as goal

pub loop-call-init : goal.loop-call-init
loop-call-init g c = (record { stops = c.requires.stops; left = refl; work = omega arith }, refl)

pub site-requires : goal.site-requires
site-requires g c =
    let G = c.args.grammar.now in
    let a = subst (λ (ss : List RuleStop). AreStops G.rules (length G.rules) ss) c.in-Some.ensures.items c.loop-call.invariant.0.stops in
    last-key G c.requires.keyed c.pop.new.self.items c.in-Some.call a

pub advance-requires-clause-there : goal.advance-requires-clause-there
advance-requires-clause-there g c =
    let G = c.args.grammar.now in
    let a = subst (λ (ss : List RuleStop). AreStops G.rules (length G.rules) ss) c.in-Some.ensures.items c.loop-call.invariant.0.stops in
    last-stands G c.requires.keyed c.pop.new.self.items c.in-Some.call a

pub returns-then-advance-clause-left : goal.returns-then-advance-clause-left
returns-then-advance-clause-left g c =
    let G = c.args.grammar.now in
    let i = c.loop-call.invariant.0 in
    let a = subst (λ (ss : List RuleStop). AreStops G.rules (length G.rules) ss) c.in-Some.ensures.items i.stops in
    moved-behind G c.requires.keyed c.pop.new.self.items c.in-Some.call a c.advance.new.self c.if-advance.ensures.next
    ∙ sym (i.left ∙ ap (λ (ss : List RuleStop). behind G.rules ss []) c.in-Some.ensures.items)

pub returns-then-advance-clause-stops : goal.returns-then-advance-clause-stops
returns-then-advance-clause-stops g c =
    let G = c.args.grammar.now in
    let a = subst (λ (ss : List RuleStop). AreStops G.rules (length G.rules) ss) c.in-Some.ensures.items c.loop-call.invariant.0.stops in
    moved-stops G c.requires.keyed c.pop.new.self.items c.in-Some.call a c.advance.new.self c.if-advance.ensures.next

pub returns-then-advance-clause-room : goal.returns-then-advance-clause-room
returns-then-advance-clause-room g c = c.pop.ensures.capacity ∙ c.loop-call.invariant.1

pub returns-then-advance-clause-work : goal.returns-then-advance-clause-work
returns-then-advance-clause-work g c =
    let G = c.args.grammar.now in
    let i = c.loop-call.invariant.0 in
    let a = subst (λ (ss : List RuleStop). AreStops G.rules (length G.rules) ss) c.in-Some.ensures.items i.stops in
    let m = moved-work_behind G c.requires.keyed c.pop.new.self.items c.in-Some.call a c.advance.new.self c.if-advance.ensures.next in
    omega (arith, m, i.work, ap (work_behind G.rules) c.in-Some.ensures.items)

pub loop-call-preserved : goal.loop-call-preserved
loop-call-preserved g c =
    (leaves-more c.args.grammar.now c.requires.keyed c.args.calls.now.items c.loop-call.calls.items c.pop.new.self.items c.in-Some.call c.in-Some.ensures.items c.loop-call.invariant.0 c.advance.new.self c.if-advance.ensures.next, c.pop.ensures.capacity ∙ c.loop-call.invariant.1)

pub returns-clause-left : goal.returns-clause-left
returns-clause-left g c =
    sym (c.loop-call.invariant.0.left ∙ ap (λ (ss : List RuleStop). behind c.args.grammar.now.rules ss []) (nil_from_length c.loop-call.calls.items (sym c.loop-call.calls.ok.0 ∙ c.in_default.ensures.cases.0)))

pub returns-clause-room : goal.returns-clause-room
returns-clause-room g c = c.pop.ensures.capacity ∙ c.loop-call.invariant.1
