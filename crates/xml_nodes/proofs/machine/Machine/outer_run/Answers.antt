use Rattle.std.proofs.Common.{◌≡◌, ◌∙◌, sym, ap, subst, arith, rules}
use Rattle.bstr.specs.Utf8.{decoded}
use Rattle.xml_nodes.specs.StateOf.{state_of}
use Rattle.xml_nodes.specs.Taking.{RefusesRun}
use Rattle.xml_nodes.proofs.LongestNames.{seen_rest}
use Rattle.xml_nodes.proofs.OuterRuns.{none_taken, never_none, outer_fits, outer_some, outer_more, outer_refused, outer_all}
use Rattle.xml_nodes.proofs.machine.Machine.outer_run.Goals as goal

pub loop-at-init : goal.loop-at-init
loop-at-init c = none_taken (state_of c.args.self.now) c.args.text.now c.requires.run c.requires.outside

pub overflow_add-at : goal.overflow_add-at
overflow_add-at c =
    let seen = seen_rest c.args.text.now c.loop-at.at in
    let fits = outer_fits _ c.args.text.now c.loop-at.at _ c.loop-at.invariant c.loop-at-test.true c.in-Some-default.c c.decode.result.1
    (sym (c.decode.ensures.char ∙ ap (λ z. (decoded z).char) seen) ∙ c.in-Some-default.is-0) (sym (c.decode.ensures.size ∙ ap (λ z. (decoded z).size) seen)) in
    search rules

pub loop-at-smaller : goal.loop-at-smaller
loop-at-smaller c =
    let seen = seen_rest c.args.text.now c.loop-at.at in
    let char = sym (c.decode.ensures.char ∙ ap (λ z. (decoded z).char) seen) ∙ c.in-Some-default.is-0 in
    let size = sym (c.decode.ensures.size ∙ ap (λ z. (decoded z).size) seen) in
    let fits = outer_fits _ c.args.text.now c.loop-at.at _ c.loop-at.invariant c.loop-at-test.true c.in-Some-default.c c.decode.result.1 char size in
    let some = outer_some _ c.args.text.now c.loop-at.at _ c.loop-at.invariant c.loop-at-test.true c.in-Some-default.c c.decode.result.1 char size in
    omega (arith, fits, some)

pub loop-at-preserved : goal.loop-at-preserved
loop-at-preserved c =
    let seen = seen_rest c.args.text.now c.loop-at.at in
    outer_more _ c.args.text.now c.loop-at.at _ c.loop-at.invariant c.loop-at-test.true c.in-Some-default.c c.decode.result.1
    (sym (c.decode.ensures.char ∙ ap (λ z. (decoded z).char) seen) ∙ c.in-Some-default.is-0) (sym (c.decode.ensures.size ∙ ap (λ z. (decoded z).size) seen))
    (state_of c.outer_character.new.self) c.in-Ok.ensures.ok

pub returns-in-Err-clause-refused : goal.returns-in-Err-clause-refused
returns-in-Err-clause-refused c = λ at e.
    let seen = seen_rest c.args.text.now c.loop-at.at in
    let refused = outer_refused _ c.args.text.now c.loop-at.at _ c.loop-at.invariant c.loop-at-test.true c.in-Some-default.c c.decode.result.1
    (sym (c.decode.ensures.char ∙ ap (λ z. (decoded z).char) seen) ∙ c.in-Some-default.is-0) (sym (c.decode.ensures.size ∙ ap (λ z. (decoded z).size) seen)) c.in-Err.ensures.bad in
    let same : c.loop-at.at ≡ at = cc in
    subst (λ z. RefusesRun (state_of c.args.self.now) c.args.text.now z) same refused

pub unreachable-requires : goal.unreachable-requires
unreachable-requires c =
    let seen = seen_rest c.args.text.now c.loop-at.at in
    never_none _ c.args.text.now c.loop-at.at _ c.loop-at.invariant c.loop-at-test.true (sym (c.decode.ensures.char ∙ ap (λ z. (decoded z).char) seen) ∙ c.in-None-default.is-0)

pub returns-clause-ok : goal.returns-clause-ok
returns-clause-ok c = outer_all _ c.args.text.now c.loop-at.at _ c.loop-at.invariant (let past = c.loop-at-test.false in omega (arith, past))
