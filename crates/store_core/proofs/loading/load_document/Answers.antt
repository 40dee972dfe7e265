use Rattle.std.proofs.Common.{refl, ap, ◌∙◌}
use Rattle.std.proofs.lemmas.Result.{err_from_is_err_and}
use Rattle.slt_grammar.specs.Grammars.{value}
use Rattle.slt_grammar.specs.Keyed.{rules_of}
use Rattle.store_core.specs.declared.answer.Answer.TheVariants.{Nodes}
use Rattle.store_core.specs.Acts.{Load}
use Rattle.store_core.specs.StoreOf.{parts_of}
use Rattle.store_core.specs.Texts.{answer_line}
use Rattle.store_core.proofs.FoundFiles.{ready_to_load, load_reads}
use Rattle.segment_counts.proofs.Coded.{weight-coded}
use Rattle.store_core.proofs.loading.load_document.Goals as goal

pub returns-clause-loads : goal.returns-clause-loads
returns-clause-loads g c = λ state. record {
  tree = c.in_ok-folded.ensures.document.tree;
  parts = parts_of c.in_ok-store.store;
  held = c.in_ok-folded.ensures.document.held state;
  encoded = c.in_ok-store.ensures.encoded c.in_ok-folded.ensures.document.tree c.in_ok-folded.ensures.document.fold;
  state = refl;
  files = c.in_ok-folded.ensures.files;
  printed = ap (λ n. answer_line (Nodes n))
      (c.total-count.ensures.nodes c.in_ok-store.store.names (rules_of c.in_ok-store.store.grammar.rules) c.in_ok-store.ensures.counted.counts c.in_ok-store.ensures.grammar
      ∙ weight-coded c.in_ok-store.store.names c.in_ok-folded.ensures.document.tree (value (rules_of c.in_ok-store.store.grammar.rules)) (c.in_ok-store.ensures.encoded c.in_ok-folded.ensures.document.tree c.in_ok-folded.ensures.document.fold).stand.code);
}

pub returns-in_err-store-clause-refused : goal.returns-in_err-store-clause-refused
returns-in_err-store-clause-refused g c =
    let p = err_from_is_err_and c.from_residual-in_err-store.result c.from_residual-in_err-store.ensures.1 in
    rw (p.1, p.2) (λ state. let held = c.in_ok-folded.ensures.document.held state in ready_to_load (Load c.args.name.now) _ c.args.name.now held.bytes (load_reads c.args.name.now state) held.file)
