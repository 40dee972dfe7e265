use Rattle.std.proofs.Common.{sym, subst}
use Rattle.plain_tree.specs.Tree.{none, more}
use Rattle.slt_grammar.specs.Coding.{Codes}
use Rattle.tree_updates.proofs.sweeping.sweep.Goals as goal

pub returns-clause-store : goal.returns-clause-store
returns-clause-store c = λ t s.
    let r = c.sweep_uncalled.ensures in
    record {
      stand = record {
        document = s.stand.document;
        distinct = s.stand.distinct;
        lawful = s.stand.lawful;
        code = subst (Codes c.args.store.now.names (more t none)) (sym r.value) s.stand.code;
        texts = s.stand.texts;
      };
      small = s.small;
      swept = r.swept;
      counts = r.counts c.args.store.now.names s.counts;
      index = r.index;
    }
