use Rattle.std.proofs.Common.{subst, ◌∙◌, ◌-◌, arith}
use Rattle.slt_grammar.specs.Grammars.{value}
use Rattle.slt_grammar.specs.Keyed.{rules_of}
use Rattle.bulk_rewrite.specs.DeletedAll.{deleting_run}
use Rattle.bulk_rewrite.specs.Joining.{joining, joining_run, texts_in}
use Rattle.bulk_rewrite.specs.Lawful.{joining-lawful}
use Rattle.bulk_rewrite.specs.Making.{AreFew}
use Rattle.bulk_rewrite.specs.Reads.{ReadsInRunsAndFall}
use Rattle.bulk_rewrite.proofs.DeletingAll.{all-deleted, may-spared, spared-may}
use Rattle.bulk_rewrite.proofs.FewReads.{falls-both, falls-not, runs-more, runs-none, runs-risen}
use Rattle.bulk_rewrite.proofs.MadeRanks.{few-ranks}
use Rattle.bulk_rewrite.proofs.RenamingAll.{few-made, few-nodes}
use Rattle.bulk_rewrite.proofs.deleting_all.delete_all.Goals as goal

pub spares-requires : goal.spares-requires
spares-requires g c =
    let r = c.requires.stands in
    record { run = c.in_ok-risen.ensures.run; small = few-nodes c.args.names.now (value (rules_of c.args.grammar.now.rules)) r.0 r.1.code r.2 }

pub take_out-requires : goal.take_out-requires
take_out-requires g c =
    let r = c.requires.stands in
    record { run = c.in_ok-risen.ensures.run; small = few-nodes c.args.names.now (value (rules_of c.args.grammar.now.rules)) r.0 r.1.code r.2 }

pub returns-then-not-spared-clause-refused : goal.returns-then-not-spared-clause-refused
returns-then-not-spared-clause-refused g c = λ t st may.
    let A = g.A.Rising.algebra c.args.automaton.now in
    let W = g.A.Falling.downward c.args.automaton.now in
    let h = c.in_ok-spared.ensures.spared.1 (may-spared A W (rules_of c.args.grammar.now.rules) c.args.names.now c.args.texts.now.texts t st c.as_slice-kinds.result.now (c.as_slice-kinds.ensures.value ∙ c.in_ok-table.ensures) may) in
    let no = c.if-not-spared.true in
    absurd (cc)

pub returns-in-Ok-clause-deleted : goal.returns-in-Ok-clause-deleted
returns-in-Ok-clause-deleted g c = λ t st.
    let A = g.A.Rising.algebra c.args.automaton.now in
    let W = g.A.Falling.downward c.args.automaton.now in
    let G = rules_of c.args.grammar.now.rules in
    let kinds = c.as_slice-kinds.result.now in
    let are = c.as_slice-kinds.ensures.value ∙ c.in_ok-table.ensures in
    let new = c.in-Ok.ensures in
    all-deleted A W G c.args.names.now c.args.texts.now.texts t st kinds are (rules_of c.in-Ok.new.grammar.rules) c.in-Ok.new.texts.texts (spared-may A W G c.args.names.now c.args.texts.now.texts t st kinds are (c.in_ok-spared.ensures.spared.0 c.if-not-spared.false)) new.value new.texts

pub returns-in-Ok-clause-few : goal.returns-in-Ok-clause-few
returns-in-Ok-clause-few g c =
    let A = g.A.Rising.algebra c.args.automaton.now in
    let W = g.A.Falling.downward c.args.automaton.now in
    let G = rules_of c.args.grammar.now.rules in
    let H = rules_of c.in-Ok.new.grammar.rules in
    let kinds = c.as_slice-kinds.result.now in
    let few = few-made A (joining_run W (texts_in kinds)) G c.rules-rules.ensures.grammar (joining (texts_in kinds)) (joining-lawful W (texts_in kinds)) H c.in-Ok.ensures.made in
    subst (λ ks. AreFew A (joining_run W (texts_in ks)) G H) (c.as_slice-kinds.ensures.value ∙ c.in_ok-table.ensures) few

pub returns-in-Ok-clause-ranks : goal.returns-in-Ok-clause-ranks
returns-in-Ok-clause-ranks g c =
    let A = g.A.Rising.algebra c.args.automaton.now in
    let W = g.A.Falling.downward c.args.automaton.now in
    let G = rules_of c.args.grammar.now.rules in
    let H = rules_of c.in-Ok.new.grammar.rules in
    let texts = texts_in c.as_slice-kinds.result.now in
    few-ranks A (joining_run W texts) G H (few-made A (joining_run W texts) G c.rules-rules.ensures.grammar (joining texts) (joining-lawful W texts) H c.in-Ok.ensures.made)

pub returns-in_err-table-clause-reads : goal.returns-in_err-table-clause-reads
returns-in_err-table-clause-reads g c =
    let A = g.A.Rising.algebra c.args.automaton.now in
    let W = deleting_run (g.A.Falling.downward c.args.automaton.now) c.args.names.now in
    let G = rules_of c.args.grammar.now.rules in
    falls-not A W G 4 _ (runs-none A G 4 _ (omega arith))

pub returns-in_err-risen-clause-reads : goal.returns-in_err-risen-clause-reads
returns-in_err-risen-clause-reads g c =
    let A = g.A.Rising.algebra c.args.automaton.now in
    let W = deleting_run (g.A.Falling.downward c.args.automaton.now) c.args.names.now in
    let G = rules_of c.args.grammar.now.rules in
    let up = c.in_err-risen.ensures.steps in
    falls-not A W G 4 _ (runs-more A G 3 up.0 (c.rise.new.steps - c.args.steps.now) up.1)

pub returns-in_err-spared-clause-reads : goal.returns-in_err-spared-clause-reads
returns-in_err-spared-clause-reads g c =
    let A = g.A.Rising.algebra c.args.automaton.now in
    let W = deleting_run (g.A.Falling.downward c.args.automaton.now) c.args.names.now in
    let G = rules_of c.args.grammar.now.rules in
    let up = c.in_ok-risen.ensures.steps in
    let reads = runs-risen A G up.0 c.in_ok-risen.risen.known 3 (c.rise.new.steps - c.args.steps.now) (c.spares.new.steps - c.rise.new.steps) (c.spares.new.steps - c.args.steps.now) up.1 c.in_ok-risen.ensures.run.run
    (omega (arith, c.spares.ensures.reads)) (omega (arith, c.in_ok-risen.ensures.counted, c.spares.ensures.counted)) in
    falls-not A W G 4 _ reads

pub returns-then-not-spared-clause-reads : goal.returns-then-not-spared-clause-reads
returns-then-not-spared-clause-reads g c =
    let A = g.A.Rising.algebra c.args.automaton.now in
    let W = deleting_run (g.A.Falling.downward c.args.automaton.now) c.args.names.now in
    let G = rules_of c.args.grammar.now.rules in
    let up = c.in_ok-risen.ensures.steps in
    let reads = runs-risen A G up.0 c.in_ok-risen.risen.known 3 (c.rise.new.steps - c.args.steps.now) (c.spares.new.steps - c.rise.new.steps) (c.spares.new.steps - c.args.steps.now) up.1 c.in_ok-risen.ensures.run.run
    (omega (arith, c.spares.ensures.reads)) (omega (arith, c.in_ok-risen.ensures.counted, c.spares.ensures.counted)) in
    falls-not A W G 4 _ reads

pub returns-in-Ok-clause-reads : goal.returns-in-Ok-clause-reads
returns-in-Ok-clause-reads g c =
    let A = g.A.Rising.algebra c.args.automaton.now in
    let W = deleting_run (g.A.Falling.downward c.args.automaton.now) c.args.names.now in
    let G = rules_of c.args.grammar.now.rules in
    let up = c.in_ok-risen.ensures.steps in
    let before = runs-risen A G up.0 c.in_ok-risen.risen.known 1 (c.rise.new.steps - c.args.steps.now) (c.spares.new.steps - c.rise.new.steps) (c.spares.new.steps - c.args.steps.now) up.1 c.in_ok-risen.ensures.run.run
    (omega (arith, c.spares.ensures.reads)) (omega (arith, c.in_ok-risen.ensures.counted, c.spares.ensures.counted)) in
    let rest = subst (λ ks. ReadsInRunsAndFall A (joining_run (g.A.Falling.downward c.args.automaton.now) (texts_in ks)) G 2 (c.take_out.new.steps - c.spares.new.steps)) (c.as_slice-kinds.ensures.value ∙ c.in_ok-table.ensures) c.take_out.ensures.reads in
    falls-both A W G 2 2 (c.spares.new.steps - c.args.steps.now) (c.take_out.new.steps - c.spares.new.steps) (c.take_out.new.steps - c.args.steps.now) before rest
    (omega (arith, c.in_ok-risen.ensures.counted, c.spares.ensures.counted, c.take_out.ensures.counted))

pub returns-clause-reads : goal.returns-clause-reads
returns-clause-reads g c =
    let A = g.A.Rising.algebra c.args.automaton.now in
    let W = deleting_run (g.A.Falling.downward c.args.automaton.now) c.args.names.now in
    let G = rules_of c.args.grammar.now.rules in
    let up = c.in_ok-risen.ensures.steps in
    let before = runs-risen A G up.0 c.in_ok-risen.risen.known 1 (c.rise.new.steps - c.args.steps.now) (c.spares.new.steps - c.rise.new.steps) (c.spares.new.steps - c.args.steps.now) up.1 c.in_ok-risen.ensures.run.run
    (omega (arith, c.spares.ensures.reads)) (omega (arith, c.in_ok-risen.ensures.counted, c.spares.ensures.counted)) in
    let rest = subst (λ ks. ReadsInRunsAndFall A (joining_run (g.A.Falling.downward c.args.automaton.now) (texts_in ks)) G 2 (c.take_out.new.steps - c.spares.new.steps)) (c.as_slice-kinds.ensures.value ∙ c.in_ok-table.ensures) c.take_out.ensures.reads in
    falls-both A W G 2 2 (c.spares.new.steps - c.args.steps.now) (c.take_out.new.steps - c.spares.new.steps) (c.take_out.new.steps - c.args.steps.now) before rest
    (omega (arith, c.in_ok-risen.ensures.counted, c.spares.ensures.counted, c.take_out.ensures.counted))
