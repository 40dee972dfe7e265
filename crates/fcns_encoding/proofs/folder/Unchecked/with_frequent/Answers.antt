use Rattle.std.proofs.Common.{sym, subst, ◌∙◌}
use Rattle.plain_tree.specs.Tree.{none, more}
use Rattle.slt_grammar.specs.Coding.{Codes}
use Rattle.fcns_encoding.proofs.folder.Unchecked.with_frequent.Goals as goal

pub returns-clause-stand : goal.returns-clause-stand
returns-clause-stand c t s = record {
  document = s.document;
  distinct = s.distinct;
  lawful = s.lawful;
  code = subst (Codes c.args.self.names (more t none)) (sym (c.in_ok-rules.ensures.value ∙ c.in_ok-leaves.ensures.value)) s.code;
  texts = s.texts;
}
