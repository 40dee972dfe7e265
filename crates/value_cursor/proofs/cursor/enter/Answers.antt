use Rattle.std.proofs.Common.{◌≡◌, ◌++◌, ◌<◌, [], ◌∷◌, List, length, ap, sym, subst, ◌∙◌, arith, Some}
use Rattle.std.specs.Prelude.{if◌then◌else◌, is_ok}
use Rattle.preorder_address.specs.declared.descent.RuleStop.{RuleStop}
use Rattle.value_cursor.specs.Cursors.{left_at}
use Rattle.value_cursor.specs.Stops.{AreStops}
use Rattle.value_cursor.specs.Work.{work_at}
use Rattle.value_cursor.proofs.Going.{call-below, calls-few, entered-left, entered-stops, entered-work, passed-left}
use Rattle.value_cursor.proofs.Leaving.{last-below}
use Rattle.value_cursor.proofs.cursor.enter.Goals as goal

pub segment_start-requires-clause-rule : goal.segment_start-requires-clause-rule
segment_start-requires-clause-rule g c =
    omega (arith, call-below c.args.grammar.now c.requires.keyed c.args.calls.now.items c.args.here.now c.requires.stops c.args.rule c.requires.call, last-below c.args.grammar.now c.requires.keyed c.args.calls.now.items c.args.here.now c.requires.stops)

pub unwrap-requires : goal.unwrap-requires
unwrap-requires g c = c.push.ensures.succeeds (omega (arith, calls-few c.args.grammar.now c.requires.keyed c.args.calls.now.items c.args.here.now c.requires.stops, c.args.calls.now.ok.0, c.requires.room))

pub returns-in-Some-clause-left : goal.returns-in-Some-clause-left
returns-in-Some-clause-left g c =
    let e : c.push.new.self.items ≡ c.args.calls.now.items ++ c.args.here.now ∷ [] = c.push.ensures.items ∙ ap (λ b. if b then c.args.calls.now.items ++ c.args.here.now ∷ [] else c.args.calls.now.items) (ap is_ok c.unwrap.ensures) in
    ap (λ (ss : List RuleStop). left_at c.args.grammar.now.rules (Some c.in-Some.first) ss) e
    ∙ entered-left c.args.grammar.now c.requires.keyed c.args.calls.now.items c.args.here.now c.requires.stops c.args.rule c.requires.call c.in-Some.first c.in-Some.ensures.rule c.in-Some.ensures.at c.in-Some.ensures.some

pub returns-in-Some-clause-stops : goal.returns-in-Some-clause-stops
returns-in-Some-clause-stops g c =
    let e : c.push.new.self.items ≡ c.args.calls.now.items ++ c.args.here.now ∷ [] = c.push.ensures.items ∙ ap (λ b. if b then c.args.calls.now.items ++ c.args.here.now ∷ [] else c.args.calls.now.items) (ap is_ok c.unwrap.ensures) in
    subst (λ (ss : List RuleStop). AreStops c.args.grammar.now.rules (length c.args.grammar.now.rules) (ss ++ c.in-Some.first ∷ [])) (sym e) (entered-stops c.args.grammar.now c.requires.keyed c.args.calls.now.items c.args.here.now c.requires.stops c.args.rule c.requires.call c.in-Some.first c.in-Some.ensures.rule c.in-Some.ensures.at c.in-Some.ensures.some)

pub returns-in-Some-clause-work : goal.returns-in-Some-clause-work
returns-in-Some-clause-work g c =
    let e : c.push.new.self.items ≡ c.args.calls.now.items ++ c.args.here.now ∷ [] = c.push.ensures.items ∙ ap (λ b. if b then c.args.calls.now.items ++ c.args.here.now ∷ [] else c.args.calls.now.items) (ap is_ok c.unwrap.ensures) in
    subst (λ (ss : List RuleStop). work_at c.args.grammar.now.rules (Some c.in-Some.first) ss < work_at c.args.grammar.now.rules (Some c.args.here.now) c.args.calls.now.items) (sym e) (entered-work c.args.grammar.now c.requires.keyed c.args.calls.now.items c.args.here.now c.requires.stops c.args.rule c.requires.call c.in-Some.first c.in-Some.ensures.rule c.in-Some.ensures.at c.in-Some.ensures.some)

pub returns-in-None-clause-left : goal.returns-in-None-clause-left
returns-in-None-clause-left g c =
    c.pass.ensures.left ∙ sym (passed-left c.args.grammar.now c.requires.keyed c.args.calls.now.items c.args.here.now c.requires.stops c.args.rule c.requires.call c.in-None.ensures.none)
