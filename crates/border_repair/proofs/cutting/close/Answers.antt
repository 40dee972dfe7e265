use Rattle.std.proofs.Common.{◌≡◌, rules, length, ◌∷◌, ◌++◌, drop, arith, length-append, List, reverse, ap, sym, subst, ◌∙◌}
use Rattle.std.proofs.lemmas.List.{length-reverse}
use Rattle.rule_arena.specs.declared.label.Label.TheVariants.{Call}
use Rattle.slt_grammar.specs.Bodies.{real_nodes}
use Rattle.slt_grammar.specs.Grammars.{size}
use Rattle.slt_grammar.specs.declared.rules.Rule.{Rule}
use Rattle.border_repair.specs.Cutting.{IsClosed}
use Rattle.border_repair.proofs.Closing.{held, first, closed-bare, closed-part}
use Rattle.slt_grammar.specs.Bodies.{params}
use Rattle.slt_grammar.specs.Ranks.{greatest_rank}
use Rattle.border_repair.proofs.PartRanks.{params-drop, params-reverse, params-take, ranks-push}
use Rattle.border_repair.proofs.SizeLemmas.{real-cut, real-reverse, real-insert, size-push}
use Rattle.border_repair.proofs.StackLemmas.{slice-end, stack-take, stack-drop, stack-insert, stack-popped}
use Rattle.border_repair.proofs.cutting.close.Goals as goal

pub returns-then-mark-clause-closed : goal.returns-then-mark-clause-closed
returns-then-mark-clause-closed c w =
    let o = c.args.cutter.now in
    let m = c.in-Some.mark in
    let now = reverse c.pop.new.self.items in
    let popped = stack-popped o.marks.items c.pop.new.self.items m c.in-Some.ensures.items in
    let h = held c.args.rules.now (reverse o.marks.items) now (reverse o.parts.items) (reverse o.args.items) c.args.end m w popped in
    let f = first c.args.rules.now (reverse o.marks.items) now (reverse o.parts.items) (reverse o.args.items) c.args.end m w popped in
    closed-bare c.args.rules.now (reverse o.marks.items) now (reverse o.parts.items) (reverse o.args.items) c.args.end m w popped (reverse c.truncate.new.self.items) c.if-mark.true
    (ap reverse c.truncate.ensures.items ∙ stack-take o.parts.items w.piece.part h.0 m.part f.parts_split f.part)

pub returns-clause-closed : goal.returns-clause-closed
returns-clause-closed c w =
    let o = c.args.cutter.now in
    let m = c.in-Some.mark in
    let now = reverse c.pop.new.self.items in
    let popped = stack-popped o.marks.items c.pop.new.self.items m c.in-Some.ensures.items in
    let h = held c.args.rules.now (reverse o.marks.items) now (reverse o.parts.items) (reverse o.args.items) c.args.end m w popped in
    let f = first c.args.rules.now (reverse o.marks.items) now (reverse o.parts.items) (reverse o.args.items) c.args.end m w popped in
    let R : Rule = record { rank = c.count_params-rank.result; body = c.in_ok-part.part } in
    let body = c.in_ok-part.ensures ∙ ap reverse (slice-end c.as_slice.result.now o.parts.items m.part c.as_slice.ensures.value) ∙ stack-drop o.parts.items w.piece.part h.0 m.part f.parts_split f.part in
    let parts = ap reverse c.truncate-2.ensures.items ∙ stack-take o.parts.items w.piece.part h.0 m.part f.parts_split f.part in
    let args = ap reverse c.in_ok-insert.ensures.items ∙ stack-insert o.args.items w.front w.behind c.args.end _ w.args_are w.ends ∙ ap (λ (G : List Rule). w.front ++ Call (length G) ∷ w.behind) c.as_slice-rule.ensures in
    subst (λ (G : List Rule). IsClosed c.args.rules.now G now (reverse c.truncate-2.new.self.items) (reverse c.insert.new.self.items) w.front w.piece w.pieces m.args) (sym c.in_ok-push.ensures.ok)
    (closed-part c.args.rules.now (reverse o.marks.items) now (reverse o.parts.items) (reverse o.args.items) c.args.end m w popped R (reverse c.truncate-2.new.self.items) (reverse c.insert.new.self.items) (search rules)
    body (search rules) parts args)

pub insert-requires : goal.insert-requires
insert-requires c =
    let o = c.args.cutter.now in
    omega (arith, c.requires.ends, ap length c.requires.args_are, length-append c.requires.front c.requires.behind, length-reverse o.args.items, o.args.ok.0)

pub returns-then-mark-clause-off : goal.returns-then-mark-clause-off
returns-then-mark-clause-off c =
    let o = c.args.cutter.now in
    record {
      left = sym (ap (drop 1) (stack-popped o.marks.items c.pop.new.self.items c.in-Some.mark c.in-Some.ensures.items));
      ruled = omega (arith, ap real_nodes c.truncate.ensures.items, real-cut c.in-Some.mark.part o.parts.items);
      called = omega arith;
    }

pub returns-clause-off : goal.returns-clause-off
returns-clause-off c =
    let o = c.args.cutter.now in
    let m = c.in-Some.mark in
    let R : Rule = record { rank = c.count_params-rank.result; body = c.in_ok-part.part } in
    let body = c.in_ok-part.ensures ∙ ap reverse (slice-end c.as_slice.result.now o.parts.items m.part c.as_slice.ensures.value) in
    record {
      left = sym (ap (drop 1) (stack-popped o.marks.items c.pop.new.self.items m c.in-Some.ensures.items));
      ruled = omega (arith, ap real_nodes c.truncate-2.ensures.items, real-cut m.part o.parts.items, ap size c.in_ok-push.ensures.ok, size-push c.args.rules.now R, ap real_nodes body, real-reverse (drop m.part o.parts.items));
      called = omega (arith, ap real_nodes c.in_ok-insert.ensures.items, real-insert o.args.items c.args.end (Call (length c.as_slice-rule.result.now)));
    }

pub returns-then-mark-clause-ranks : goal.returns-then-mark-clause-ranks
returns-then-mark-clause-ranks c = record { ruled = omega arith; left = omega (arith, ap params c.truncate.ensures.items, params-take c.in-Some.mark.part c.args.cutter.now.parts.items) }

pub returns-clause-ranks : goal.returns-clause-ranks
returns-clause-ranks c =
    let o = c.args.cutter.now in
    let m = c.in-Some.mark in
    let R : Rule = record { rank = c.count_params-rank.result; body = c.in_ok-part.part } in
    let body = c.in_ok-part.ensures ∙ ap reverse (slice-end c.as_slice.result.now o.parts.items m.part c.as_slice.ensures.value) in
    let rank : R.rank ≡ params R.body = search rules in
    record {
      ruled = omega (
        arith,
        ap greatest_rank c.in_ok-push.ensures.ok,
        ranks-push c.args.rules.now R,
        rank,
        ap params body,
        params-reverse (drop m.part o.parts.items),
        params-drop m.part o.parts.items,
      );
      left = omega (arith, ap params c.truncate-2.ensures.items, params-take m.part o.parts.items);
    }
