use Rattle.std.proofs.Common.{ap, sym, subst, ◌∙◌}
use Rattle.slt_grammar.specs.Ranks.{greatest_rank}
use Rattle.slt_grammar.specs.Standing.{StandsFor}
use Rattle.fcns_encoding.specs.Marks.{marks_of}
use Rattle.fcns_encoding.proofs.CellLemmas.{number_within}
use Rattle.fcns_encoding.proofs.FinishLemmas.{finished}
use Rattle.fcns_encoding.proofs.RankLemmas.{ranks-cells}
use Rattle.fcns_encoding.proofs.StandLemmas.{folded-names, folded-stands, folded-small}
use Rattle.fcns_encoding.proofs.folder.Folder.written.Goals as goal

pub node-requires-clause-first : goal.node-requires-clause-first
node-requires-clause-first c =
    let f = c.self.invariant (ap (λ b. b.sound) c.self.view_is ∙ c.requires.sound) in
    number_within _ _ _ (c.in_ok-kids.ensures.taken c.self.inside.names _ f.tells.built).value

pub returns : goal.returns
returns c =
    let f = c.self.invariant (ap (λ b. b.sound) c.self.view_is ∙ c.requires.sound) in
    let w = finished c.args.sharing c.self.inside.names c.symbol.new.names c.self.inside.subterms c.take_kids.new.subterms c.node.new.self c.self.inside.texts c.self.inside.stack.items c.take_kids.new.stack.items c.in_ok-kids.kids.code
    c.in_ok-document.document c.in_ok-node.field-0 c.in_ok-kids.kids.begun c.in_ok-rules.rules f (c.in_ok-kids.ensures.taken c.self.inside.names _ f.tells.built) c.in-None.is (c.in_ok-kids.ensures.used f.used)
    c.in_ok-document.ensures.keeps (c.in_ok-document.ensures.named _ f.tells.named) c.in_ok-document.ensures.place c.in_ok-node.ensures.extends c.in_ok-node.ensures.term c.in_ok-rules.ensures.earlier
    c.in_ok-rules.ensures.distinct c.in_ok-rules.ensures.rules in
    let log = ap (λ b. b.log) c.self.view_is in
    record {
      stand = λ t doc e. subst (λ ts. StandsFor c.in_ok-rules.rules c.symbol.new.names ts t) (sym c.new.ensures) (folded-stands _ _ _ _ w.folds t doc (log ∙ e));
      names = λ t doc e. folded-names _ _ _ _ w.folds t doc (log ∙ e);
      grammar = w.grammar;
      swept = w.swept;
      ranks = ap greatest_rank c.in_ok-rules.ensures.rules ∙ ranks-cells (marks_of c.args.sharing c.node.new.self) c.node.new.self;
      size = λ few t term terms doc e code are. folded-small _ _ _ _ w.folds t doc (log ∙ e) term terms code are (w.small few);
    }
