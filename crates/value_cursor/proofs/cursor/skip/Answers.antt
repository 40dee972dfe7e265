use Rattle.std.proofs.Common.{◌++◌, [], List, length, ap, sym, ◌∙◌, arith}
use Rattle.rule_arena.specs.declared.label.Label.{Label}
use Rattle.value_cursor.specs.Stops.{behind}
use Rattle.value_cursor.proofs.CallLemmas.{stops-front}
use Rattle.value_cursor.proofs.FirstRule.{skips-left, skips-none, skips-stops, skips-work}
use Rattle.value_cursor.proofs.Leaving.{last-stands, some-work}
use Rattle.value_cursor.proofs.cursor.skip.Goals as goal

pub advance_to_node-requires : goal.advance_to_node-requires
advance_to_node-requires g c = record { there = last-stands c.args.grammar.now c.requires.keyed c.args.calls.now.items c.args.here.now c.requires.stops }

pub leave-requires-clause-stops : goal.leave-requires-clause-stops
leave-requires-clause-stops g c = stops-front c.args.grammar.now.rules (length c.args.grammar.now.rules) c.args.calls.now.items c.args.here.now c.requires.stops

pub returns-then-advance_to_node-clause-left : goal.returns-then-advance_to_node-clause-left
returns-then-advance_to_node-clause-left g c =
    skips-left c.args.grammar.now c.requires.keyed c.args.calls.now.items c.args.here.now c.requires.stops c.requires.first c.advance_to_node.new.self c.if-advance_to_node.ensures.next

pub returns-then-advance_to_node-clause-stops : goal.returns-then-advance_to_node-clause-stops
returns-then-advance_to_node-clause-stops g c =
    skips-stops c.args.grammar.now c.requires.keyed c.args.calls.now.items c.args.here.now c.requires.stops c.requires.first c.advance_to_node.new.self c.if-advance_to_node.ensures.next

pub returns-then-advance_to_node-clause-work : goal.returns-then-advance_to_node-clause-work
returns-then-advance_to_node-clause-work g c =
    skips-work c.args.grammar.now c.requires.keyed c.args.calls.now.items c.args.here.now c.requires.stops c.requires.first c.advance_to_node.new.self c.if-advance_to_node.ensures.next

pub returns-clause-left : goal.returns-clause-left
returns-clause-left g c =
    c.leave.ensures.left
    ∙ sym (ap (λ (ls : List Label). ls ++ behind c.args.grammar.now.rules c.args.calls.now.items []) (skips-none c.args.grammar.now c.requires.keyed c.args.calls.now.items c.args.here.now c.requires.stops c.requires.first c.advance_to_node.new.self c.if-advance_to_node.ensures.next))

pub returns-clause-work : goal.returns-clause-work
returns-clause-work g c =
    omega (arith, c.leave.ensures.work, some-work c.args.grammar.now c.requires.keyed c.args.calls.now.items c.args.here.now c.requires.stops)
