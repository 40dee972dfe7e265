use Rattle.std.proofs.Common.{ℕ, List, sym, subst, arith}
use Rattle.plain_tree.specs.declared.edit.Edit.TheVariants.{Copy}
use Rattle.plain_tree.specs.Edits.{placed}
use Rattle.slt_grammar.specs.Keyed.{rules_of}
use Rattle.slt_grammar.specs.Standing.{StandsFor}
use Rattle.tree_updates.proofs.CopiedStores.{copied-all, copied-fits, copied-more, copied-nodes, copied-stands, copied-texts}
use Rattle.tree_updates.proofs.NodeExtents.{extent-low}
use Rattle.tree_updates.proofs.copying.count_copy.Goals as goal

pub duplicate-requires : goal.duplicate-requires
duplicate-requires c =
    let a = c.args.store.now in
    let r = c.requires.store in
    let u = r.1 in
    omega (arith, copied-fits u.before a.names a.texts.texts r.0 u.stand c.args.number (extent-low r.0 c.args.number c.args.extent u.may.extent) c.args.extent u.may)

pub raise_start-requires-clause-nodes : goal.raise_start-requires-clause-nodes
raise_start-requires-clause-nodes c =
    let a = c.args.store.now in
    let r = c.requires.store in
    let u = r.1 in
    copied-nodes u.before a.names a.texts.texts r.0 u.stand c.args.number (extent-low r.0 c.args.number c.args.extent u.may.extent) c.args.extent u.may (rules_of a.grammar.rules) u.front u.codes u.gets a.counts u.counts u.lawful

pub raise_start-requires-clause-all : goal.raise_start-requires-clause-all
raise_start-requires-clause-all c =
    let a = c.args.store.now in
    let r = c.requires.store in
    let u = r.1 in
    copied-all u.before a.names a.texts.texts r.0 u.stand c.args.number (extent-low r.0 c.args.number c.args.extent u.may.extent) c.args.extent u.may (rules_of a.grammar.rules) u.front u.codes u.gets a.counts u.counts u.lawful

pub raise_start-requires-clause-texts : goal.raise_start-requires-clause-texts
raise_start-requires-clause-texts c =
    let a = c.args.store.now in
    let r = c.requires.store in
    let u = r.1 in
    copied-texts u.before a.names a.texts.texts r.0 u.stand c.args.number (extent-low r.0 c.args.number c.args.extent u.may.extent) c.args.extent u.may (rules_of a.grammar.rules) u.front u.codes u.gets a.counts u.counts u.lawful

pub returns-clause-store : goal.returns-clause-store
returns-clause-store c = λ t u.
    let a = c.args.store.now in
    let n = c.args.number in
    let x = c.args.extent in
    let H = rules_of a.grammar.rules in
    let low = extent-low t n x u.may.extent in
    let are = rw c.unwrap.ensures at c.duplicate.ensures.texts in
    record {
      stand = subst (λ (vs : List (List ℕ)). StandsFor H a.names vs (placed t (Copy n))) (sym are) (copied-stands u.before a.names a.texts.texts t u.stand n low x u.may H u.front u.codes u.gets);
      small = u.may.small;
      counts = c.raise_start.ensures.counts a.names u.before H u.counts u.others (copied-more u.before a.names a.texts.texts t u.stand n low x u.may H u.front u.codes u.gets);
      index = u.index;
    }
