use Rattle.std.proofs.Common.{ap, inl, refl}
use Rattle.std.proofs.lemmas.Result.{err_from_is_err_and}
use Rattle.slt_grammar.specs.Keyed.{Keyed, rules_of}
use Rattle.bulk_rewrite.specs.declared.renaming_all.BulkError.TheVariants.{Memory}
use Rattle.selecting_automaton.specs.Words.{word_algebra, word_downward}
use Rattle.tree_updates.proofs.AppliedMarks.{marked, store-marked}
use Rattle.store_core.specs.BulkEditing.{Deletion, edited_all}
use Rattle.store_core.specs.BulkStores.{hits_in}
use Rattle.store_core.proofs.BulkEdits.{all-deleted-store, cleared-marks, deletion-refused, edited-marked, few-edited, few-weighed, left-as-it-was, left-marked}
use Rattle.store_core.proofs.EditReads.{deleted-few}
use Rattle.store_core.proofs.bulk_editing.delete_hits.Goals as goal

pub delete_all-requires : goal.delete_all-requires
delete_all-requires g c = let s = c.requires.store in record { stands = (s.0, s.1.stand, s.1.small) }

pub put_rules-requires-clause-few : goal.put_rules-requires-clause-few
put_rules-requires-clause-few g c =
    let s = c.args.store.now in
    let r = c.requires.store in
    let numbers = hits_in c.args.selector.now s in
    let made = c.in_ok-grammar.ensures.deleted r.0 r.1.stand in
    few-weighed (rules_of c.in_ok-grammar.field-0.grammar.rules) s.names c.in_ok-grammar.field-0.texts.texts (edited_all Deletion numbers r.0) made.stand (few-edited Deletion numbers r.0 r.1.small)

pub returns-in_err-grammar-clause-applies : goal.returns-in_err-grammar-clause-applies
returns-in_err-grammar-clause-applies g c =
    let p = err_from_is_err_and c.from_residual.result c.from_residual.ensures.1 in
    let s = c.args.store.now in
    let error = c.in_err-grammar.field-0.0 in
    rw (p.1, p.2) (λ t i.
    let m = c.clear.new.self in
    left-marked Deletion c.args.selector.now s t m error _ (left-as-it-was Deletion c.args.selector.now (marked s m) t (store-marked s m t i) error (marked s m) (deletion-refused error (hits_in c.args.selector.now s) t s.names (c.in_err-grammar.ensures.refused t i.stand)) refl))

pub returns-in_err-put_rules-clause-applies : goal.returns-in_err-put_rules-clause-applies
returns-in_err-put_rules-clause-applies g c =
    let p = err_from_is_err_and c.from_residual-in_err-put_rules.result c.from_residual-in_err-put_rules.ensures.1 in
    rw (p.1, p.2) (λ t i.
    let s = c.args.store.now in
    let m = c.clear.new.self in
    left-marked Deletion c.args.selector.now s t m Memory c.put_rules.new.store (left-as-it-was Deletion c.args.selector.now (marked s m) t (store-marked s m t i) Memory c.put_rules.new.store (inl refl) c.in_err-put_rules.ensures.refused))

pub returns-clause-applies : goal.returns-clause-applies
returns-clause-applies g c =
    let made = c.in_ok-grammar.ensures in
    let put = c.in_ok-put_rules.ensures in
    λ t i.
    let s = c.args.store.now in
    let m = c.clear.new.self in
    edited-marked Deletion c.args.selector.now s t m _
    (all-deleted-store (marked s m) t (store-marked s m t i) c.args.selector.now (rules_of c.in_ok-grammar.field-0.grammar.rules) made.swept c.put_rules.new.store (ap (λ (x : Keyed). rules_of x.rules) put.rules) put.counts put.index made.ranks
    c.in_ok-grammar.field-0.texts (made.deleted t i.stand) made.few put.names)

pub returns-in_err-put_rules-clause-marks : goal.returns-in_err-put_rules-clause-marks
returns-in_err-put_rules-clause-marks g c = cleared-marks c.put_rules.new.store c.clear.new.self c.put_rules.ensures.marks c.clear.ensures

pub returns-clause-marks : goal.returns-clause-marks
returns-clause-marks g c =
    let s = c.put_rules.new.store in
    cleared-marks (record s { texts = c.in_ok-grammar.field-0.texts }) c.clear.new.self c.put_rules.ensures.marks c.clear.ensures

pub returns-in_err-grammar-clause-reads : goal.returns-in_err-grammar-clause-reads
returns-in_err-grammar-clause-reads g c = λ parts outer few.
    deleted-few (word_algebra c.args.selector.now) (word_downward c.args.selector.now) (rules_of c.args.store.now.grammar.rules) c.rules-rules.ensures.grammar parts outer few c.args.store.now.names c.args.steps.now c.delete_all.new.steps c.delete_all.ensures.reads c.delete_all.ensures.counted

pub returns-in_err-put_rules-clause-reads : goal.returns-in_err-put_rules-clause-reads
returns-in_err-put_rules-clause-reads g c = λ parts outer few.
    deleted-few (word_algebra c.args.selector.now) (word_downward c.args.selector.now) (rules_of c.args.store.now.grammar.rules) c.rules-rules.ensures.grammar parts outer few c.args.store.now.names c.args.steps.now c.delete_all.new.steps c.delete_all.ensures.reads c.delete_all.ensures.counted

pub returns-clause-reads : goal.returns-clause-reads
returns-clause-reads g c = λ parts outer few.
    deleted-few (word_algebra c.args.selector.now) (word_downward c.args.selector.now) (rules_of c.args.store.now.grammar.rules) c.rules-rules.ensures.grammar parts outer few c.args.store.now.names c.args.steps.now c.delete_all.new.steps c.delete_all.ensures.reads c.delete_all.ensures.counted
