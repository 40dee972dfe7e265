use Rattle.std.proofs.Common.{arith, List, ℕ, map, subst, ◌∙◌, ◌^◌}
use Rattle.std.specs.Prelude.{IfOk}
use Rattle.slt_grammar.specs.Automata.{hits}
use Rattle.slt_grammar.specs.Grammars.{value}
use Rattle.slt_grammar.specs.Keyed.{rules_of}
use Rattle.selecting_automaton.specs.Words.{word_algebra, word_downward}
use Rattle.text_list.specs.Marking.{mark_of}
use Rattle.value_tests.specs.MarkedInstances.{marked_nodes}
use Rattle.value_tests.specs.MarkedValues.{marked_value}
use Rattle.store_core.specs.Selecting.{Finds}
use Rattle.store_core.specs.StoreOf.{parts_of}
use Rattle.store_core.proofs.Asked.{few-nodes}
use Rattle.store_core.proofs.Finding.{finds-marked}
use Rattle.store_core.proofs.StateCounts.{made-most, up-states}
use Rattle.store_core.proofs.selecting.run_marked.Goals as goal

pub new-requires-clause-small : goal.new-requires-clause-small
new-requires-clause-small g c = few-nodes (parts_of c.args.store.now) c.requires.held

pub returns-clause-finds : goal.returns-clause-finds
returns-clause-finds g c =
    let parts = parts_of c.args.store.now in
    let h = c.requires.held in
    let e = c.new.ensures in
    let same = c.in_ok-marks-2.ensures ∙ c.in_ok-marks.ensures in
    let found : List ℕ → List ℕ = λ ms. hits (word_algebra c.args.selector.now) (word_downward c.args.selector.now) (marked_value parts.names ms parts.rules) in
    subst (λ (ms : List ℕ). IfOk c.new.result (Finds (found ms) (value parts.rules) c.args.listed)) same (finds-marked parts h.tree h.stand (found c.in_ok-marks-2.marks) c.args.listed c.new.result e.count e.listed e.hits e.symbols)

pub returns-clause-reads : goal.returns-clause-reads
returns-clause-reads g c = λ parts outer few.
    let s = c.args.store.now in
    let G = rules_of s.grammar.rules in
    let same = c.in_ok-marks-2.ensures ∙ c.in_ok-marks.ensures in
    let reads = rw same at c.new.ensures.few (4 ^ parts) (up-states (word_algebra c.args.selector.now) (word_downward c.args.selector.now) parts outer few) in
    omega (arith, reads, made-most G parts outer (marked_nodes s.names (map (mark_of c.args.literals.now) s.texts.texts) G))
