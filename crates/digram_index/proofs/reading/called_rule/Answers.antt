use Rattle.std.proofs.Common.{◌≡◌, sym, ◌∙◌}
use Rattle.rule_arena.specs.declared.label.Label.TheVariants.{Call}
use Rattle.digram_index.proofs.Inlined.{call-label}
use Rattle.digram_index.proofs.reading.called_rule.Goals as goal

pub returns-in-Call : goal.returns-in-Call
returns-in-Call c = λ C.
    let n = call-label c.args.grammar.now.rules c.args.key C in
    let e : Call C.called ≡ Call c.in-Call.rule = sym n.1.1.1 ∙ c.label_of.ensures C.here.rule C.here.place n.0 n.1.0 n.1.1.0 ∙ c.in-Call.is in
    cc

pub returns-in_default : goal.returns-in_default
returns-in_default c = λ C.
    let n = call-label c.args.grammar.now.rules c.args.key C in
    absurd (c.in_default.not-Call C.called (sym (c.label_of.ensures C.here.rule C.here.place n.0 n.1.0 n.1.1.0) ∙ n.1.1.1))
