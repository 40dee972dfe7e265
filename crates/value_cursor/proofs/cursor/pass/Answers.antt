use Rattle.std.proofs.Common.{◌++◌, [], List, length, ap, sym, ◌∙◌, arith}
use Rattle.rule_arena.specs.declared.label.Label.{Label}
use Rattle.value_cursor.specs.Stops.{behind}
use Rattle.value_cursor.proofs.CallLemmas.{stops-front}
use Rattle.value_cursor.proofs.Leaving.{last-key, last-stands, moved-left, moved-stops, moved-work, none-left, some-work}
use Rattle.value_cursor.proofs.cursor.pass.Goals as goal

pub site-requires : goal.site-requires
site-requires g c = last-key c.args.grammar.now c.requires.keyed c.args.calls.now.items c.args.here.now c.requires.stops

pub advance-requires-clause-there : goal.advance-requires-clause-there
advance-requires-clause-there g c = last-stands c.args.grammar.now c.requires.keyed c.args.calls.now.items c.args.here.now c.requires.stops

pub leave-requires-clause-stops : goal.leave-requires-clause-stops
leave-requires-clause-stops g c = stops-front c.args.grammar.now.rules (length c.args.grammar.now.rules) c.args.calls.now.items c.args.here.now c.requires.stops

pub returns-then-advance-clause-left : goal.returns-then-advance-clause-left
returns-then-advance-clause-left g c =
    moved-left c.args.grammar.now c.requires.keyed c.args.calls.now.items c.args.here.now c.requires.stops c.advance.new.self c.if-advance.ensures.next

pub returns-then-advance-clause-stops : goal.returns-then-advance-clause-stops
returns-then-advance-clause-stops g c =
    moved-stops c.args.grammar.now c.requires.keyed c.args.calls.now.items c.args.here.now c.requires.stops c.advance.new.self c.if-advance.ensures.next

pub returns-then-advance-clause-work : goal.returns-then-advance-clause-work
returns-then-advance-clause-work g c =
    moved-work c.args.grammar.now c.requires.keyed c.args.calls.now.items c.args.here.now c.requires.stops c.advance.new.self c.if-advance.ensures.next

pub returns-clause-left : goal.returns-clause-left
returns-clause-left g c =
    c.leave.ensures.left
    ∙ sym (ap (λ (ls : List Label). ls ++ behind c.args.grammar.now.rules c.args.calls.now.items []) (none-left c.args.grammar.now c.requires.keyed c.args.calls.now.items c.args.here.now c.requires.stops c.advance.new.self c.if-advance.ensures.next))

pub returns-clause-work : goal.returns-clause-work
returns-clause-work g c =
    omega (arith, c.leave.ensures.work, some-work c.args.grammar.now c.requires.keyed c.args.calls.now.items c.args.here.now c.requires.stops)
