use Rattle.std.proofs.Common.{refl, ap, ◌∙◌}
use Rattle.std.proofs.lemmas.Result.{err_from_is_err_and}
use Rattle.slt_grammar.specs.Grammars.{value}
use Rattle.slt_grammar.specs.Keyed.{rules_of}
use Rattle.store_core.specs.declared.answer.Answer.TheVariants.{Nodes}
use Rattle.store_core.specs.StoreOf.{parts_of}
use Rattle.store_core.specs.Texts.{answer_line}
use Rattle.store_core.proofs.GrammarFiles.{no_store}
use Rattle.segment_counts.proofs.Coded.{weight-coded}
use Rattle.store_core.proofs.grammar_loading.load_grammar.Goals as goal

pub returns-in_err-store-clause-refused : goal.returns-in_err-store-clause-refused
returns-in_err-store-clause-refused g c =
    let p = err_from_is_err_and c.from_residual-in_err-store.result c.from_residual-in_err-store.ensures.1 in
    let file = c.in_ok-bytes.ensures in
    rw (p.1, p.2) (λ state. no_store c.in_err-store.field-0.0 c.args.name.now c.deref.result.now _ _ (rw c.deref.ensures.value (file.held state)) (rw c.deref.ensures.value file.short) c.in_err-store.ensures.refused)

pub returns-clause-loads : goal.returns-clause-loads
returns-clause-loads g c = λ state.
    let file = c.in_ok-bytes.ensures in
    let s = c.in_ok-store.ensures.store in
    let store = c.in_ok-store.store in
    record {
      bytes = c.deref.result.now;
      parts = parts_of store;
      tree = s.tree;
      held = rw c.deref.ensures.value (file.held state);
      short = rw c.deref.ensures.value file.short;
      file = s.file;
      state = refl;
      files = file.files;
      printed = ap (λ n. answer_line (Nodes n))
          (c.total-count.ensures.nodes store.names (rules_of store.grammar.rules) s.counted.counts s.file.file.grammar.grammar
          ∙ weight-coded store.names s.tree (value (rules_of store.grammar.rules)) s.file.stand.code);
    }
