use Rattle.std.proofs.Common.{◌≡◌, ◌∙◌, ◌++◌, ◌∷◌, [], add-one, sym, ap, arith, length, take_all}
use Rattle.std.specs.Prelude.{replicate}
use Rattle.slt_grammar.specs.Grammars.{rank_at, value, whole}
use Rattle.slt_grammar.specs.Keyed.{rules_of}
use Rattle.slt_grammar.proofs.KeyedLemmas.{length-rules_of}
use Rattle.rule_runs.proofs.Keeping.{noted-none}
use Rattle.rule_runs.proofs.OneState.{table, table-new, table-nodes, table-run, up-bottom}
use Rattle.rule_runs.proofs.one_state.rise_in_one_state.Goals as goal

pub note-requires : goal.note-requires
note-requires g c =
    let A = g.A.Rising.algebra c.args.automaton.now in
    let G = rules_of c.args.grammar.now.rules in
    let e : c.fill.new.states.items ≡ replicate (rank_at G c.rules.rule) A.bottom = c.in_ok-fill.ensures ∙ ap (λ n. replicate n A.bottom) c.rank.ensures in
    rw (c.rules.invariant, e) (table-new A G c.rules.rule)

pub rules-preserved : goal.rules-preserved
rules-preserved g c =
    let A = g.A.Rising.algebra c.args.automaton.now in
    let G = rules_of c.args.grammar.now.rules in
    let r = c.rules.rule in
    let e : c.fill.new.states.items ≡ replicate (rank_at G r) A.bottom = c.in_ok-fill.ensures ∙ ap (λ n. replicate n A.bottom) c.rank.ensures in
    rw (add-one r) (c.in_ok-note.ensures.ok
    ∙ ap (λ known. known ++ ((r, c.fill.new.states.items), c.in_ok-bottom.field-0) ∷ []) c.rules.invariant
    ∙ ap (λ xs. table A G r ++ ((r, xs), c.in_ok-bottom.field-0) ∷ []) e
    ∙ ap (λ state. table A G r ++ ((r, replicate (rank_at G r) A.bottom), state) ∷ []) c.in_ok-bottom.ensures)

pub returns-clause-top : goal.returns-clause-top
returns-clause-top g c =
    let A = g.A.Rising.algebra c.args.automaton.now in
    let G = rules_of c.args.grammar.now.rules in
    c.in_ok-bottom-2.ensures ∙ sym (up-bottom A c.requires.one (value G))

pub returns-clause-run : goal.returns-clause-run
returns-clause-run g c =
    let A = g.A.Rising.algebra c.args.automaton.now in
    let G = rules_of c.args.grammar.now.rules in
    let n : c.rules.rule ≡ length G = omega (arith, c.rules-rules.ensures.value, length-rules_of c.args.grammar.now.rules, c.rules-test.false, c.rules.auto.rule-end) in
    let k = c.rules.invariant ∙ ap (table A G) n in
    rw (c.known-2.view_is, k, c.new-2.ensures) (record { run = table-run A c.requires.one G c.rules-rules.ensures.grammar c.requires.swept; noted = noted-none A G _ })

pub returns-clause-nodes : goal.returns-clause-nodes
returns-clause-nodes g c =
    let A = g.A.Rising.algebra c.args.automaton.now in
    let G = rules_of c.args.grammar.now.rules in
    let n : c.rules.rule ≡ length G = omega (arith, c.rules-rules.ensures.value, length-rules_of c.args.grammar.now.rules, c.rules-test.false, c.rules.auto.rule-end) in
    let k = c.rules.invariant ∙ ap (table A G) n in
    rw (c.known-2.view_is, k) (table-nodes A G (length G) (omega arith) ∙ ap whole (take_all (length G) G (omega arith)))
