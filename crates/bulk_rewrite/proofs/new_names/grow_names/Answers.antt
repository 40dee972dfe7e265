use Rattle.std.proofs.Common.{List, ◌*◌, sym, subst, arith}
use Rattle.plain_tree.specs.NodePairs.{Pair}
use Rattle.fcns_encoding.proofs.InternLemmas.{on-err}
use Rattle.slt_grammar.specs.Automata.{hits}
use Rattle.slt_grammar.specs.Grammars.{value}
use Rattle.slt_grammar.specs.Keyed.{rules_of}
use Rattle.bulk_rewrite.specs.NewNames.{AreIn}
use Rattle.bulk_rewrite.specs.RenamedAll.{nodes_with, renamed_pairs}
use Rattle.bulk_rewrite.proofs.FewReads.{nodes_met}
use Rattle.bulk_rewrite.proofs.GrowingNames.{first-renamable, grown-code, grows-more, grows-none, grows-some, grows-whole, lacks-out}
use Rattle.bulk_rewrite.proofs.LackingKinds.{lack-fewer, named-fewer, paid, pays, unpaid}
use Rattle.bulk_rewrite.proofs.new_names.grow_names.Goals as goal

pub kinds-init : goal.kinds-init
kinds-init g c = record {
  grown = λ t code. grows-none c.args.names.now _;
  paid = λ t code may. unpaid c.args.names.now c.args.name.now c.args.steps.now (2 * nodes_met (rules_of c.args.grammar.now.rules) c.args.risen.now.known);
  counted = omega arith;
}

pub first_lacking-requires-clause-coded : goal.first_lacking-requires-clause-coded
first_lacking-requires-clause-coded g c =
    let r = c.requires.coded in
    (r.0, grown-code _ _ _ r.0 (value (rules_of c.args.grammar.now.rules)) (c.kinds.invariant.grown r.0 r.1) r.1)

pub kinds-preserved : goal.kinds-preserved
kinds-preserved g c =
    let v = value (rules_of c.args.grammar.now.rules) in
    let hit = hits (g.A.Rising.algebra c.args.automaton.now) (g.A.Falling.downward c.args.automaton.now) v in
    let name = c.args.name.now in
    let p : Pair = (c.in-Some.lacking.kind, name) in
    record {
      grown = λ t code.
          let grown = c.kinds.invariant.grown t code in
          let first = (rw c.in-Some.is at c.in_ok-lacking.ensures.first) t (grown-code _ _ _ t v grown code) in
          grows-more _ _ _ _ p grown first (c.in_ok-intern.ensures.added (λ i e. lacks-out _ _ p first (i, e)));
      paid = λ t code may.
          let grown = c.kinds.invariant.grown t code in
          let first = (rw c.in-Some.is at c.in_ok-lacking.ensures.first) t (grown-code _ _ _ t v grown code) in
          let out = lacks-out _ _ p first in
          let fewer = named-fewer _ _ name c.in-Some.lacking.kind out (c.in_ok-intern.ensures.added (λ i e. out (i, e))) (first-renamable _ name (nodes_with hit t) p may.named first) in
          pays c.args.steps.now c.kinds.steps c.first_lacking.new.steps _ _ (2 * nodes_met (rules_of c.args.grammar.now.rules) c.args.risen.now.known) (c.kinds.invariant.paid t code may) c.in_ok-lacking.ensures.reads fewer;
      counted = omega (arith, c.kinds.invariant.counted, c.in_ok-lacking.ensures.counted);
    }

pub kinds-smaller : goal.kinds-smaller
kinds-smaller g c =
    let r = c.requires.coded in
    let v = value (rules_of c.args.grammar.now.rules) in
    let grown = c.kinds.invariant.grown r.0 r.1 in
    let p : Pair = (c.in-Some.lacking.kind, c.args.name.now) in
    let first = (rw c.in-Some.is at c.in_ok-lacking.ensures.first) r.0 (grown-code _ _ _ r.0 v grown r.1) in
    let out = lacks-out _ _ p first in
    lack-fewer _ _ c.args.name.now c.in-Some.lacking.kind out (c.in_ok-intern.ensures.added (λ i e. out (i, e)))

pub returns-clause-grown : goal.returns-clause-grown
returns-clause-grown g c = λ t code.
    let v = value (rules_of c.args.grammar.now.rules) in
    let grown = c.kinds.invariant.grown t code in
    grows-whole _ _ _ grown ((rw c.in_default.is at c.in_ok-lacking.ensures.none) t (grown-code _ _ _ t v grown code))

pub returns-in_err-lacking-clause-some : goal.returns-in_err-lacking-clause-some
returns-in_err-lacking-clause-some g c = on-err c.from_residual.result (λ t code. grows-some _ _ _ (c.kinds.invariant.grown t code))

pub returns-in_err-intern-clause-some : goal.returns-in_err-intern-clause-some
returns-in_err-intern-clause-some g c = on-err c.from_residual-in_err-intern.result (λ t code. rw c.in_err-intern.ensures.err (grows-some _ _ _ (c.kinds.invariant.grown t code)))

pub returns-then-lacking-clause-grown : goal.returns-then-lacking-clause-grown
returns-then-lacking-clause-grown g c = λ t code.
    let v = value (rules_of c.args.grammar.now.rules) in
    let grown = c.kinds.invariant.grown t code in
    let p : Pair = (c.in-Some.lacking.kind, c.args.name.now) in
    let here = grown-code _ _ _ t v grown code in
    let first = (rw c.in-Some.is at c.in_ok-lacking.ensures.first) t here in
    let added = c.in_ok-intern.ensures.added (λ i e. lacks-out _ _ p first (i, e)) in
    let only = (rw c.in-Some.is at c.in_ok-lacking.ensures.only) c.if-lacking.true t here in
    let pairs : List Pair = renamed_pairs (hits (g.A.Rising.algebra c.args.automaton.now) (g.A.Falling.downward c.args.automaton.now) v) c.args.name.now t in
    grows-whole _ pairs _ (grows-more _ pairs _ _ p grown first added) (subst (λ ns. AreIn ns pairs) (sym added) only)

pub returns-clause-reads : goal.returns-clause-reads
returns-clause-reads g c = λ t code may. paid c.args.steps.now c.kinds.steps c.first_lacking.new.steps _ (2 * nodes_met (rules_of c.args.grammar.now.rules) c.args.risen.now.known) (c.kinds.invariant.paid t code may) c.in_ok-lacking.ensures.reads

pub returns-in_err-lacking-clause-reads : goal.returns-in_err-lacking-clause-reads
returns-in_err-lacking-clause-reads g c = λ t code may. paid c.args.steps.now c.kinds.steps c.first_lacking.new.steps _ (2 * nodes_met (rules_of c.args.grammar.now.rules) c.args.risen.now.known) (c.kinds.invariant.paid t code may) c.in_err-lacking.ensures.reads

pub returns-in_err-intern-clause-reads : goal.returns-in_err-intern-clause-reads
returns-in_err-intern-clause-reads g c = λ t code may. paid c.args.steps.now c.kinds.steps c.first_lacking.new.steps _ (2 * nodes_met (rules_of c.args.grammar.now.rules) c.args.risen.now.known) (c.kinds.invariant.paid t code may) c.in_ok-lacking.ensures.reads

pub returns-then-lacking-clause-reads : goal.returns-then-lacking-clause-reads
returns-then-lacking-clause-reads g c = λ t code may. paid c.args.steps.now c.kinds.steps c.first_lacking.new.steps _ (2 * nodes_met (rules_of c.args.grammar.now.rules) c.args.risen.now.known) (c.kinds.invariant.paid t code may) c.in_ok-lacking.ensures.reads
