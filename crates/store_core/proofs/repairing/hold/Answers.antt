use Rattle.std.proofs.Common.{sym, subst}
use Rattle.slt_grammar.specs.Keyed.{rules_of}
use Rattle.store_core.specs.Worlds.{AreLawfulParts, Parts}
use Rattle.store_core.proofs.Encoded.{stands-same}
use Rattle.store_core.proofs.repairing.hold.Goals as goal

pub returns-clause-held : goal.returns-clause-held
returns-clause-held c =
    let store = c.args.loaded.now.store in
    let held = c.requires.held in
    let rules = rules_of c.args.settled.grammar.rules in
    subst (λ (parts : Parts). AreLawfulParts parts) (sym c.in_ok-take_over.ensures.replaced) (record {
      tree = held.tree;
      stand = stands-same (rules_of store.grammar.rules) rules store.names store.texts.texts held.tree c.requires.same held.stand;
      small = held.small;
      grammar = c.rules-rules.ensures.grammar;
      swept = c.requires.swept;
    })
