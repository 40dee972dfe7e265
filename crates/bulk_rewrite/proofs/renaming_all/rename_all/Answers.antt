use Rattle.std.proofs.Common.{inl, inr, refl, ◌-◌, arith}
use Rattle.std.proofs.lemmas.Result.{err_from_is_err_and}
use Rattle.slt_grammar.specs.Keyed.{rules_of}
use Rattle.bulk_rewrite.specs.Lawful.{renaming-lawful}
use Rattle.bulk_rewrite.proofs.FewReads.{runs-more, runs-risen}
use Rattle.bulk_rewrite.proofs.GrowingNames.{some-grown}
use Rattle.bulk_rewrite.proofs.MadeRanks.{few-ranks}
use Rattle.bulk_rewrite.proofs.RenamingAll.{all-renamed, few-made}
use Rattle.bulk_rewrite.proofs.renaming_all.rename_all.Goals as goal

pub returns-in-Ok-clause-renamed : goal.returns-in-Ok-clause-renamed
returns-in-Ok-clause-renamed g c = λ values t st.
    let A = g.A.Rising.algebra c.args.automaton.now in
    let W = g.A.Falling.downward c.args.automaton.now in
    let G = rules_of c.args.grammar.now.rules in
    let p = c.in_ok-symbols.ensures in
    all-renamed A W G (rules_of c.in-Ok.new.rules) c.args.names.now _ values t st c.args.name.now c.in_ok-symbols.symbols.items (p.allowed values t st) (p.names values t st) p.symbols c.in-Ok.ensures.value

pub returns-in-Ok-clause-few : goal.returns-in-Ok-clause-few
returns-in-Ok-clause-few g c =
    let A = g.A.Rising.algebra c.args.automaton.now in
    let W = g.A.Falling.downward c.args.automaton.now in
    few-made A W (rules_of c.args.grammar.now.rules) c.rules-rules.ensures.grammar _ (renaming-lawful W _) (rules_of c.in-Ok.new.rules) c.in-Ok.ensures.made

pub returns-in-Ok-clause-ranks : goal.returns-in-Ok-clause-ranks
returns-in-Ok-clause-ranks g c =
    let A = g.A.Rising.algebra c.args.automaton.now in
    let W = g.A.Falling.downward c.args.automaton.now in
    let G = rules_of c.args.grammar.now.rules in
    let H = rules_of c.in-Ok.new.rules in
    few-ranks A W G H (few-made A W G c.rules-rules.ensures.grammar _ (renaming-lawful W _) H c.in-Ok.ensures.made)

pub returns-clause-refused : goal.returns-clause-refused
returns-clause-refused g c = λ values t st. inr (c.in_ok-symbols.ensures.allowed values t st, some-grown _ _ _ (c.in_ok-symbols.ensures.names values t st))

pub returns-in_err-risen : goal.returns-in_err-risen
returns-in_err-risen g c =
    let p = err_from_is_err_and c.from_residual.result c.from_residual.ensures.1 in
    let up = c.in_err-risen.ensures.steps in
    let reads = runs-more (g.A.Rising.algebra c.args.automaton.now) (rules_of c.args.grammar.now.rules) 6 up.0 (c.rise.new.steps - c.args.steps.now) up.1 in
    rw (p.1, p.2) (record { renamed = tt; few = tt; ranks = tt; swept = tt; refused = λ values t st. inl refl; reads = reads; counted = c.in_err-risen.ensures.counted })

pub returns-in_err-symbols-clause-reads : goal.returns-in_err-symbols-clause-reads
returns-in_err-symbols-clause-reads g c =
    let up = c.in_ok-risen.ensures.steps in
    runs-risen (g.A.Rising.algebra c.args.automaton.now) (rules_of c.args.grammar.now.rules) up.0 c.in_ok-risen.risen.known 6 (c.rise.new.steps - c.args.steps.now) (c.prepare.new.steps - c.rise.new.steps) (c.prepare.new.steps - c.args.steps.now) up.1 c.in_ok-risen.ensures.run.run
    (omega (arith, c.prepare.ensures.reads)) (omega (arith, c.in_ok-risen.ensures.counted, c.prepare.ensures.counted))

pub returns-in-Ok-clause-reads : goal.returns-in-Ok-clause-reads
returns-in-Ok-clause-reads g c =
    let up = c.in_ok-risen.ensures.steps in
    runs-risen (g.A.Rising.algebra c.args.automaton.now) (rules_of c.args.grammar.now.rules) up.0 c.in_ok-risen.risen.known 6 (c.rise.new.steps - c.args.steps.now) (c.rewrite.new.steps - c.rise.new.steps) (c.rewrite.new.steps - c.args.steps.now) up.1 c.in_ok-risen.ensures.run.run
    (omega (arith, c.prepare.ensures.reads, c.rewrite.ensures.reads)) (omega (arith, c.in_ok-risen.ensures.counted, c.prepare.ensures.counted, c.rewrite.ensures.counted))

pub returns-clause-reads : goal.returns-clause-reads
returns-clause-reads g c =
    let up = c.in_ok-risen.ensures.steps in
    runs-risen (g.A.Rising.algebra c.args.automaton.now) (rules_of c.args.grammar.now.rules) up.0 c.in_ok-risen.risen.known 6 (c.rise.new.steps - c.args.steps.now) (c.rewrite.new.steps - c.rise.new.steps) (c.rewrite.new.steps - c.args.steps.now) up.1 c.in_ok-risen.ensures.run.run
    (omega (arith, c.prepare.ensures.reads, c.rewrite.ensures.reads)) (omega (arith, c.in_ok-risen.ensures.counted, c.prepare.ensures.counted, c.rewrite.ensures.counted))
