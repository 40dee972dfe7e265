use Rattle.std.proofs.Common.{◌≡◌, ◌-◌, List, length, sym, subst, ◌∙◌, arith, refl, None}
use Rattle.std.specs.Prelude.{vec_capacity}
use Rattle.std.proofs.lemmas.List.{nil_from_length}
use Rattle.slt_grammar.specs.Keyed.{rules_of}
use Rattle.slt_grammar.proofs.KeyedLemmas.{length-rules_of}
use Rattle.segment_counts.specs.declared.counts.Measure.TheVariants.{Nodes}
use Rattle.segment_counts.proofs.Telling.{total-told}
use Rattle.preorder_address.specs.declared.descent.RuleStop.{RuleStop}
use Rattle.value_cursor.specs.declared.cursor.Cursor.{Cursor}
use Rattle.value_cursor.proofs.Beginning.{Descends, begins, descends-more, descends-start, inside-now}
use Rattle.value_cursor.proofs.cursor.Cursor.new.Goals as goal

pub returns-in_default-clause-some : goal.returns-in_default-clause-some
returns-in_default-clause-some g c =
    let e = total-told c.requires.0 (rules_of c.args.grammar.now.rules) c.args.counts.now c.requires.1 c.limit-limit.ensures.keyed.grammar Nodes in
    (λ h. cc, λ h. c.in_default.ensures.some.1 (omega (arith, h, e)))

pub loop-stop-init : goal.loop-stop-init
loop-stop-init g c =
    descends-start c.args.grammar.now c.limit-limit.ensures.keyed c.args.number c.args.counts.now c.requires c.in-Some.descent c.in-Some.ensures.descent
    (c.in-Some.ensures.leads c.args.grammar.now c.limit-limit.ensures.keyed c.requires).inside c.in_ok-calls.calls.items (vec_capacity c.in_ok-calls.calls) c.in_ok-calls.ensures.items
    (omega (arith, c.in_ok-calls.ensures.capacity, c.rules-rules.ensures.value))

pub loop-stop-preserved : goal.loop-stop-preserved
loop-stop-preserved g c =
    subst (λ (ss : List RuleStop). Descends c.args.grammar.now.rules c.args.number c.next_stop.new.self ss (vec_capacity c.push.new.self)) (sym c.in_ok-push.ensures.items)
    (descends-more c.args.grammar.now c.limit-limit.ensures.keyed c.args.number c.loop-stop.descent c.next_stop.new.self c.loop-stop.calls.items (vec_capacity c.loop-stop.calls) (vec_capacity c.push.new.self) c.loop-stop.invariant c.in-Some-next_stop.stop c.in-Some-next_stop.ensures.through c.in-Some-next_stop.ensures.inside c.push.ensures.capacity)

pub returns-clause-inside : goal.returns-clause-inside
returns-clause-inside g c =
    let G = c.args.grammar.now in
    let n = length-rules_of G.rules in
    let small = c.requires.1.numbers.small Nodes (length G.rules - 1) (omega (arith, n, c.limit-limit.ensures.keyed.grammar.some)) in
    let now : Cursor = record { here = c.pop-here.result; calls = c.pop-here.new.self; opened = 0; kept = c.in_ok-kept.kept } in
    inside-now G c.limit-limit.ensures.keyed c.args.number c.loop-stop.descent c.loop-stop.calls.items (vec_capacity c.loop-stop.calls) c.loop-stop.invariant c.in_default-next_stop.ensures.through.0 now c.pop-here.ensures.items (λ (e : c.pop-here.result ≡ None). let z = rw e at c.pop-here.ensures.cases in nil_from_length c.loop-stop.calls.items (sym c.loop-stop.calls.ok.0 ∙ z.0)) refl c.in_ok-kept.ensures.again small (omega (arith, c.loop-stop.invariant.room, c.pop-here.ensures.capacity)) (c.in_ok-kept.ensures.kept G.rules (omega (arith, c.rules-rules.ensures.value)))

pub returns-clause-begins : goal.returns-clause-begins
returns-clause-begins g c =
    let now : Cursor = record { here = c.pop-here.result; calls = c.pop-here.new.self; opened = 0; kept = c.in_ok-kept.kept } in
    begins c.args.grammar.now c.limit-limit.ensures.keyed c.args.number c.loop-stop.descent c.loop-stop.calls.items (vec_capacity c.loop-stop.calls) c.loop-stop.invariant c.in_default-next_stop.ensures.through.0 now c.pop-here.ensures.items (λ (e : c.pop-here.result ≡ None). let z = rw e at c.pop-here.ensures.cases in nil_from_length c.loop-stop.calls.items (sym c.loop-stop.calls.ok.0 ∙ z.0)) refl c.in_ok-kept.ensures.again
