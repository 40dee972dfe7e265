use Rattle.std.proofs.Common.{◌≡◌, ℕ, ◌-◌, ◌++◌, List, arith, length, ap, vec_len, Vec, Global}
use Rattle.std.proofs.lemmas.List.{length-append}
use Rattle.rule_arena.specs.declared.label.Label.{Label}
use Rattle.slt_grammar.specs.Grammars.{body_at}
use Rattle.slt_grammar.specs.Keyed.{rules_of}
use Rattle.rule_runs.proofs.Frames.{begin-stands, begin-labels}
use Rattle.rule_runs.proofs.frame.begin.Goals as goal

-- how many labels were appended
appended : (old new : Vec Label Global) (body : List Label) (n m : ℕ) → n ≡ vec_len old → m ≡ vec_len new → new.items ≡ old.items ++ body → m - n ≡ length body
appended old new body n m before after e = omega (arith, old.ok.0, new.ok.0, ap length e, length-append old.items body)

pub returns-clause-stands : goal.returns-clause-stands
returns-clause-stands g c = λ A.
    let G = rules_of c.args.grammar.now.rules in
    let whole = appended c.args.labels.now c.append_body.new.labels (body_at G c.args.pair.rule) _ _ c.len-others.ensures c.len.ensures c.in_ok-append_body.ensures.labels in
    (begin-stands G c.rules-rules.ensures.grammar (record { pair = c.args.pair; left = c.len.result - c.len-others.result; waiting = c.len-2.result }) c.requires whole A (omega (arith, c.len-2.ensures, c.args.pair.states.ok.0))).0

pub returns-clause-none : goal.returns-clause-none
returns-clause-none g c = λ A.
    let G = rules_of c.args.grammar.now.rules in
    let whole = appended c.args.labels.now c.append_body.new.labels (body_at G c.args.pair.rule) _ _ c.len-others.ensures c.len.ensures c.in_ok-append_body.ensures.labels in
    (begin-stands G c.rules-rules.ensures.grammar (record { pair = c.args.pair; left = c.len.result - c.len-others.result; waiting = c.len-2.result }) c.requires whole A (omega (arith, c.len-2.ensures, c.args.pair.states.ok.0))).1

pub returns-clause-labels : goal.returns-clause-labels
returns-clause-labels g c =
    let G = rules_of c.args.grammar.now.rules in
    let whole = appended c.args.labels.now c.append_body.new.labels (body_at G c.args.pair.rule) _ _ c.len-others.ensures c.len.ensures c.in_ok-append_body.ensures.labels in
    begin-labels G c.rules-rules.ensures.grammar (record { pair = c.args.pair; left = c.len.result - c.len-others.result; waiting = c.len-2.result }) c.requires whole c.args.labels.now.items c.append_body.new.labels.items c.in_ok-append_body.ensures.labels
