use Rattle.std.proofs.Common.{rules, sym, subst}
use Rattle.std.proofs.lemmas.Fn.{filter_same}
use Rattle.digram_index.specs.Linked.{is_marked}
use Rattle.preorder_address.specs.Marks.{AreMarks}
use Rattle.preorder_address.specs.declared.marks.Mark.{Mark}
use Rattle.start_marks.proofs.Keeping.{marks-kept}
use Rattle.start_marks.proofs.marking.keep_marked.Goals as goal

pub returns-clause-kept : goal.returns-clause-kept
returns-clause-kept c = filter_same _ (λ (mark : Mark). is_marked c.args.index.now mark.key.number) _ (λ x b f' k. search rules) _ _ c.retain.ensures

pub returns-clause-stay : goal.returns-clause-stay
returns-clause-stay c = λ names G H before are keeps.
    subst (AreMarks names H) (sym (returns-clause-kept c)) (marks-kept names G H before c.args.index.now c.args.marks.now are keeps)
