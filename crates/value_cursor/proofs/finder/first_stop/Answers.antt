use Rattle.std.proofs.Common.{◌-◌, ap}
use Rattle.value_cursor.proofs.Searching.{first-left, first-stops}
use Rattle.value_cursor.proofs.finder.first_stop.Goals as goal

pub returns-clause-stops : goal.returns-clause-stops
returns-clause-stops c = first-stops c.args.grammar.now c.requires.keyed (c.rules-rule.result - 1) (ap (λ n. n - 1) c.rules-rule.ensures.value) c.new.result c.new.ensures.stands

pub returns-clause-whole : goal.returns-clause-whole
returns-clause-whole c = first-left c.args.grammar.now c.requires.keyed (c.rules-rule.result - 1) (ap (λ n. n - 1) c.rules-rule.ensures.value) c.new.result c.new.ensures.stands
