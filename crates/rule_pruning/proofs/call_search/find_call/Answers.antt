use Rattle.rule_pruning.proofs.FoundCalls.{call-somewhere, found-at-root, linked-stands}
use Rattle.rule_pruning.proofs.call_search.find_call.Goals as goal

pub returns-in-Some-call_of : goal.returns-in-Some-call_of
returns-in-Some-call_of c = linked-stands c.args.grammar.now c.limit-limit.ensures.keyed c.args.index.now c.requires.index c.args.rule c.in-Some-call_of.found.key c.in-Some-call_of.ensures.some

pub unwrap-caller-requires : goal.unwrap-caller-requires
unwrap-caller-requires c =
    found-at-root c.args.grammar.now c.limit-limit.ensures.keyed c.args.index.now c.requires.index c.args.rule c.root_caller-2.result
    (call-somewhere c.args.rule c.args.grammar.now.rules c.requires.called) c.in_default-call_of.ensures.none c.root_caller-2.ensures.none
