use Rattle.std.proofs.Common.{[], ◌+◌, arith, sym}
use Rattle.std.proofs.lemmas.Option.{MatchOption-at_none, MatchOption-at_some}
use Rattle.std.proofs.lemmas.Slice.Eq.{bytes_eq-Decides}
use Rattle.plain_tree.specs.Tree.{none, more}
use Rattle.segment_counts.proofs.Coded.{nodes-coded}
use Rattle.slt_grammar.specs.Grammars.{value}
use Rattle.slt_grammar.specs.Keyed.{rules_of}
use Rattle.tree_updates.proofs.AttributeNumbers.{before-fits, found-none, found-there, passed-next}
use Rattle.tree_updates.proofs.AttributeSpots.{attribute-within}
use Rattle.tree_updates.proofs.kid_attributes.find_attribute.Goals as goal

pub overflow_add-number-in-loop-own : goal.overflow_add-number-in-loop-own
overflow_add-number-in-loop-own g c =
    let r = c.requires.store in
    omega (arith, r.1.small, r.2, before-fits r.0 r.1.stand.document c.args.number r.2 r.3 c.args.name.now c.loop-own.before (c.loop-own.invariant.passed r.0 r.1 r.3))

pub returns-then-eq-clause-place : goal.returns-then-eq-clause-place
returns-then-eq-clause-place g c = λ t i other.
    let x = c.args.name.now in
    let y = c.in-Some.own.now in
    let here = MatchOption-at_some _ _ c.in-Some.own c.in-Some.is c.in_ok-own.ensures.yes t i in
    let low = attribute-within t (c.args.number + 1 + c.loop-own.before) y here in
    found-there t i.stand.document c.args.number (omega (arith, low)) other x c.loop-own.before (c.loop-own.invariant.passed t i other) y here ((bytes_eq-Decides y x).0 (sym c.if-eq.ensures))

pub overflow_add-before : goal.overflow_add-before
overflow_add-before g c =
    let r = c.requires.store in
    omega (arith, r.1.small, before-fits r.0 r.1.stand.document c.args.number r.2 r.3 c.args.name.now c.loop-own.before (c.loop-own.invariant.passed r.0 r.1 r.3))

pub loop-own-preserved : goal.loop-own-preserved
loop-own-preserved g c = record {
  passed = λ t i other.
      let y = c.in-Some.own.now in
      let here = MatchOption-at_some _ _ c.in-Some.own c.in-Some.is c.in_ok-own.ensures.yes t i in
      let low = attribute-within t (c.args.number + 1 + c.loop-own.before) y here in
      passed-next t i.stand.document c.args.number (omega (arith, low)) other c.args.name.now c.loop-own.before (c.loop-own.invariant.passed t i other) y here (sym c.if-eq.ensures);
  marks = c.attribute_at.ensures.marks;
}

pub returns-clause-place : goal.returns-clause-place
returns-clause-place g c = λ t i other.
    let s = c.args.store.now in
    let r = c.requires.store in
    let n = nodes-coded s.names (more r.0 none) (value (rules_of s.grammar.rules)) r.1.stand.code [] in
    let m = nodes-coded s.names (more t none) (value (rules_of s.grammar.rules)) i.stand.code [] in
    let last = MatchOption-at_none _ _ c.in_default.is c.in_ok-own.ensures.no in
    found-none t i.stand.document c.args.number (omega (arith, n, m, r.2)) other c.args.name.now c.loop-own.before (c.loop-own.invariant.passed t i other) (λ y. last t y i)
