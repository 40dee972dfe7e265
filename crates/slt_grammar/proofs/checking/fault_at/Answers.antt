use Rattle.std.proofs.Math.ListN.{get_or-map}
use Rattle.slt_grammar.specs.Grammars.{no_rule}
use Rattle.slt_grammar.specs.declared.rules.Rule.{Rule}
use Rattle.slt_grammar.proofs.checking.fault_at.Goals as goal

pub is_shaped-requires-clause-small : goal.is_shaped-requires-clause-small
is_shaped-requires-clause-small c = λ q h. rw (get_or-map (λ (R : Rule). R.rank) c.args.rules.now q no_rule) (c.requires.before q h).shaped.small
