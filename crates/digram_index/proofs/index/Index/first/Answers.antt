use Rattle.std.proofs.Common.{ap, sym, ◌∙◌, arith}
use Rattle.rule_arena.specs.declared.key.Key.{Key}
use Rattle.slt_grammar.specs.declared.digram.Digram.{Digram}
use Rattle.digram_index.specs.Linked.{Linked}
use Rattle.digram_index.proofs.CellLemmas.{spot-within, spot-linked, unknown-nowhere}
use Rattle.digram_index.proofs.RankLemmas.{unknown-label}
use Rattle.digram_index.proofs.Tops.{digram-is, are-cells, first-none}
use Rattle.digram_index.proofs.index.Index.first.Goals as goal

pub returns-then-not-is_known-clause-none : goal.returns-then-not-is_known-clause-none
returns-then-not-is_known-clause-none c = rw (← c.self.view_is) (
    let u = c.if-not-is_known.ensures in
    unknown-nowhere c.self.inside.numbers c.self.inside.entries c.args.digram c.self.invariant.known
    (λ p ku kl e. unknown-label c.self.inside.numbers.numbers p.upper u.0 ku u.1.1 (ap (λ (d : Digram). d.upper) e ∙ u.1.0)))

pub returns-then-not-is_known-2-clause-none : goal.returns-then-not-is_known-2-clause-none
returns-then-not-is_known-2-clause-none c = rw (← c.self.view_is) (
    let u = c.if-not-is_known-2.ensures in
    unknown-nowhere c.self.inside.numbers c.self.inside.entries c.args.digram c.self.invariant.known
    (λ p ku kl e. unknown-label c.self.inside.numbers.numbers p.lower u.0 kl u.1.1 (ap (λ (d : Digram). d.lower) e ∙ u.1.0)))

pub of-requires : goal.of-requires
of-requires c =
    let l = c.len-len.ensures.value in
    let f = c.len-len.ensures.few in
    let w = spot-within c.self.inside.entries c.in-Some.number _ c.in-Some.ensures.some.1 in
    omega arith

pub returns-in-Some-clause-some : goal.returns-in-Some-clause-some
returns-in-Some-clause-some c = rw (← c.self.view_is) (
    spot-linked c.self.inside.numbers c.self.inside.entries c.in-Some.number c.of.result c.in-Some.ensures.some.0
    (record { upper = c.mark_of.result; place = c.args.digram.place; lower = c.mark_of-2.result; rank = c.rank_of.result }) c.args.digram c.in-Some.ensures.some.1 (ap (λ (x : Key). x.number) c.of.ensures)
    (digram-is c.args.digram.place _ _ c.args.digram.upper c.args.digram.lower (sym c.mark_of.ensures.label) (sym c.mark_of-2.ensures.label)))

pub returns-in-Some-clause-occurs : goal.returns-in-Some-clause-occurs
returns-in-Some-clause-occurs c =
    let s = returns-in-Some-clause-some c in
    (s.0, (c.requires c.of.result s.0 s.1.0, s.1.1))

pub returns-in-None-clause-none : goal.returns-in-None-clause-none
returns-in-None-clause-none c =
    let C = are-cells c.args.grammar.now c.args.self.now c.self.inside.numbers c.self.inside.entries c.requires (ap (λ (l : Linked). l.cells) c.self.view_is) in
    rw (← c.self.view_is) (
    first-none c.args.grammar.now c.limit-limit.ensures.keyed c.self.inside.numbers c.self.inside.entries c.self.invariant.known C c.args.digram
    (record { upper = c.mark_of.result; place = c.args.digram.place; lower = c.mark_of-2.result; rank = c.rank_of.result })
    (digram-is c.args.digram.place _ _ c.args.digram.upper c.args.digram.lower (sym c.mark_of.ensures.label) (sym c.mark_of-2.ensures.label))
    c.mark_of.ensures.known c.mark_of-2.ensures.known c.rank_of.ensures c.in-None.ensures.none)
