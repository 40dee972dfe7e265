use Rattle.std.proofs.Common.{ap, sym, ◌∙◌}
use Rattle.slt_grammar.specs.Names.{Call}
use Rattle.rule_pruning.proofs.FoundCalls.{label-calls, calls-label, told-equal, same-rule}
use Rattle.rule_pruning.proofs.call_search.is_call.Goals as goal

pub returns-in-Call : goal.returns-in-Call
returns-in-Call c =
    told-equal c.in-Call.called c.args.rule _ _
    (λ e. label-calls c.args.grammar.now.rules c.args.rule c.args.key c.site.result.label c.site.result.arity (c.requires.0, (c.requires.1, c.requires.2)) c.site.ensures.node (c.in-Call.is ∙ ap Call e))
    (λ d S. d (same-rule c.in-Call.called c.args.rule (sym c.in-Call.is ∙ calls-label c.args.grammar.now.rules c.args.rule c.args.key c.site.result.label c.site.result.arity c.site.ensures.node S)))

pub returns-in_default : goal.returns-in_default
returns-in_default c = λ S. c.in_default.not-Call c.args.rule (calls-label c.args.grammar.now.rules c.args.rule c.args.key c.site.result.label c.site.result.arity c.site.ensures.node S)
