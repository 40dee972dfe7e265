use Rattle.std.proofs.Common.{ap, arith}
use Rattle.rule_arena.specs.declared.key.Key.{Key}
use Rattle.digram_index.specs.Linked.{Linked}
use Rattle.digram_index.proofs.CellLemmas.{spot-within}
use Rattle.digram_index.proofs.LinkedCalls.{call-linked, linked-call}
use Rattle.digram_index.proofs.index.Index.call_of.Goals as goal

pub of-requires : goal.of-requires
of-requires c =
    let l = c.len-len.ensures.value in
    let f = c.len-len.ensures.few in
    let S = c.in-Some.ensures.some in
    let w = spot-within c.self.inside.entries c.in-Some.lower S.0 S.1.0 in
    omega arith

pub returns-in-Some-clause-some : goal.returns-in-Some-clause-some
returns-in-Some-clause-some c = rw (← c.self.view_is, ap (λ (k : Key). k.number) c.of.ensures) (
    call-linked c.self.inside.numbers c.self.inside.entries c.args.rule c.number.result c.number.ensures.back c.in-Some.lower c.in-Some.ensures.some)

pub returns-in-None-clause-none : goal.returns-in-None-clause-none
returns-in-None-clause-none c = rw (← c.self.view_is) (λ k L.
    let h = c.requires in
    let v = ap (λ (l : Linked). l.rules) c.self.view_is in
    c.in-None.ensures.none k (linked-call c.self.inside.numbers c.self.inside.entries c.args.rule c.number.result c.number.ensures.back c.self.invariant.known (omega arith) k L.0 L.1.0 L.1.1))
