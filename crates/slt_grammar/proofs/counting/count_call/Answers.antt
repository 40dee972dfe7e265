use Rattle.std.proofs.Common.{◌≡◌, ℕ, List, length, get_or, ap, ◌∙◌, arith}
use Rattle.rule_arena.specs.Terms.{term_at}
use Rattle.rule_arena.proofs.CellLemmas.{some_of}
use Rattle.slt_grammar.proofs.counting.count_call.Goals as goal

pub add_calls-requires-clause-few : goal.add_calls-requires-clause-few
add_calls-requires-clause-few c = λ q h.
    let t = some_of (term_at c.args.arena.now c.args.root.number) c.requires.root in
    let v : c.as_mut_slice-counts.result.now ≡ c.args.calls.now.items = c.as_mut_slice-counts.ensures.value in
    let l : length c.drop_term-gone.new.calls ≡ length c.args.calls.now.items = c.drop_term-gone.auto.calls ∙ ap length v in
    omega (arith, c.drop_term-gone.ensures.calls t.0 t.1 q (omega (arith, h, l, ap length v)), ap (λ (xs : List ℕ). get_or xs q 0) v, c.requires.few q (omega (arith, h, l)))
