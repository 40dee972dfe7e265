use Rattle.std.proofs.Common.{◌++◌, List, [], Some, length, ap, sym, ◌∙◌, arith}
use Rattle.rule_arena.specs.declared.label.Label.{Label}
use Rattle.value_cursor.specs.Cursors.{found, left_at}
use Rattle.value_cursor.specs.Stops.{behind}
use Rattle.value_cursor.proofs.CallLemmas.{stops-front}
use Rattle.value_cursor.proofs.Leaving.{last-stands, moved-left, moved-stops, moved-work, none-left, some-work}
use Rattle.value_cursor.proofs.Searching.{part-ends, part-passed, site-label}
use Rattle.value_cursor.proofs.finder.go_past.Goals as goal

pub leave-requires-clause-stops : goal.leave-requires-clause-stops
leave-requires-clause-stops g c = stops-front c.args.grammar.now.rules (length c.args.grammar.now.rules) c.args.calls.now.items c.args.here.now c.requires.stops

pub returns-in-Param-clause-left : goal.returns-in-Param-clause-left
returns-in-Param-clause-left g c =
    let a = c.args in
    let G = a.grammar.now in
    part-ends G c.requires.keyed a.calls.now.items a.here.now c.requires.stops a.site.now.label (site-label G.rules a.here.now a.site.now c.requires.site) c.in-Param.is
    (left_at G.rules (found c.leave.result c.leave.new.here) c.leave.new.calls.items) c.leave.ensures.left

pub returns-in-Param-clause-work : goal.returns-in-Param-clause-work
returns-in-Param-clause-work g c = omega (arith, c.leave.ensures.work, some-work c.args.grammar.now c.requires.keyed c.args.calls.now.items c.args.here.now c.requires.stops)

pub returns-then-here-eq0 : goal.returns-then-here-eq0
returns-then-here-eq0 g c =
    let a = c.args in
    let G = a.grammar.now in
    let e = c.skip.ensures in
    record {
      left = part-passed G c.requires.keyed a.calls.now.items a.here.now c.requires.stops a.site.now.label (site-label G.rules a.here.now a.site.now c.requires.site) c.in_default.not-Param
          (left_at G.rules (found c.skip.result c.skip.new.here) c.skip.new.calls.items) e.left;
      stops = e.stops;
      room = e.room;
      work = e.work;
    }

pub advance-requires : goal.advance-requires
advance-requires g c = record {
  there = last-stands c.args.grammar.now c.requires.keyed c.args.calls.now.items c.args.here.now c.requires.stops;
  node = c.requires.site.node;
  parent = c.requires.site.parent;
}

pub returns-then-advance-clause-left : goal.returns-then-advance-clause-left
returns-then-advance-clause-left g c =
    let a = c.args in
    let G = a.grammar.now in
    part-passed G c.requires.keyed a.calls.now.items a.here.now c.requires.stops a.site.now.label (site-label G.rules a.here.now a.site.now c.requires.site) c.in_default.not-Param
    (left_at G.rules (Some (record { rule = a.here.now.rule; walk = c.advance.new.self })) a.calls.now.items)
    (moved-left G c.requires.keyed a.calls.now.items a.here.now c.requires.stops c.advance.new.self c.if-advance.ensures.next)

pub returns-then-advance-clause-stops : goal.returns-then-advance-clause-stops
returns-then-advance-clause-stops g c = moved-stops c.args.grammar.now c.requires.keyed c.args.calls.now.items c.args.here.now c.requires.stops c.advance.new.self c.if-advance.ensures.next

pub returns-then-advance-clause-work : goal.returns-then-advance-clause-work
returns-then-advance-clause-work g c = moved-work c.args.grammar.now c.requires.keyed c.args.calls.now.items c.args.here.now c.requires.stops c.advance.new.self c.if-advance.ensures.next

pub leave-requires-2-clause-stops : goal.leave-requires-2-clause-stops
leave-requires-2-clause-stops g c = stops-front c.args.grammar.now.rules (length c.args.grammar.now.rules) c.args.calls.now.items c.args.here.now c.requires.stops

pub returns-clause-left : goal.returns-clause-left
returns-clause-left g c =
    let a = c.args in
    let G = a.grammar.now in
    part-passed G c.requires.keyed a.calls.now.items a.here.now c.requires.stops a.site.now.label (site-label G.rules a.here.now a.site.now c.requires.site) c.in_default.not-Param
    (left_at G.rules (found c.leave-2.result c.leave-2.new.here) c.leave-2.new.calls.items)
    (c.leave-2.ensures.left ∙ sym (ap (λ (ls : List Label). ls ++ behind G.rules a.calls.now.items []) (none-left G c.requires.keyed a.calls.now.items a.here.now c.requires.stops c.advance.new.self c.if-advance.ensures.next)))

pub returns-clause-work : goal.returns-clause-work
returns-clause-work g c = omega (arith, c.leave-2.ensures.work, some-work c.args.grammar.now c.requires.keyed c.args.calls.now.items c.args.here.now c.requires.stops)
