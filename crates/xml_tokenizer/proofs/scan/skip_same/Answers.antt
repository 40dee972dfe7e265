use Rattle.std.proofs.Common.{sym, subst}
use Rattle.xml_tokenizer.specs.Ends.{Came}
use Rattle.xml_tokenizer.proofs.Ending.{came_tag, came_double, came_single, came_comment, came_section, came_instruction}
use Rattle.xml_tokenizer.proofs.scan.skip_same.Goals as goal

pub returns-in-Tag-clause-came : goal.returns-in-Tag-clause-came
returns-in-Tag-clause-came c = subst (λ z. Came z c.args.bytes.now z c.skip_tag.result.now) (sym c.in-Tag.is) (came_tag c.args.bytes.now c.skip_tag.result.now c.skip_tag.ensures.left)

pub returns-in-Double-clause-came : goal.returns-in-Double-clause-came
returns-in-Double-clause-came c = subst (λ z. Came z c.args.bytes.now z c.skip_between.result.now) (sym c.in-Double.is) (came_double c.args.bytes.now c.skip_between.result.now c.skip_between.ensures.left)

pub returns-in-Single-clause-came : goal.returns-in-Single-clause-came
returns-in-Single-clause-came c = subst (λ z. Came z c.args.bytes.now z c.skip_between-in-Single.result.now) (sym c.in-Single.is) (came_single c.args.bytes.now c.skip_between-in-Single.result.now c.skip_between-in-Single.ensures.left)

pub returns-in-Comment-clause-came : goal.returns-in-Comment-clause-came
returns-in-Comment-clause-came c = subst (λ z. Came z c.args.bytes.now z c.skip_to.result.now) (sym c.in-Comment.is) (came_comment c.args.bytes.now c.skip_to.result.now c.skip_to.ensures.left)

pub returns-in-Section-clause-came : goal.returns-in-Section-clause-came
returns-in-Section-clause-came c = subst (λ z. Came z c.args.bytes.now z c.skip_to-in-Section.result.now) (sym c.in-Section.is) (came_section c.args.bytes.now c.skip_to-in-Section.result.now c.skip_to-in-Section.ensures.left)

pub returns-in-Instruction-clause-came : goal.returns-in-Instruction-clause-came
returns-in-Instruction-clause-came c = subst (λ z. Came z c.args.bytes.now z c.skip_to-in-Instruction.result.now) (sym c.in-Instruction.is) (came_instruction c.args.bytes.now c.skip_to-in-Instruction.result.now c.skip_to-in-Instruction.ensures.left)
