use Rattle.std.proofs.Common.{◌<◌, ◌∷◌, [], Some, sym, subst, length}
use Rattle.slt_grammar.specs.Bodies.{CallsBelow}
use Rattle.slt_grammar.specs.Segments.{part_of}
use Rattle.grammar_file.specs.TextLists.{IsPartOf, parts_at}
use Rattle.grammar_file.specs.declared.text_lists.Part.TheVariants.{Segment}
use Rattle.grammar_file.proofs.PartLemmas.{not-empty, part-call}
use Rattle.grammar_file.proofs.text_lists.part_at.Goals as goal

pub returns-else-are_bare : goal.returns-else-are_bare
returns-else-are_bare c = λ G rule all below.
    let q = c.in-Call-default.rule in
    let is = c.in-Call-default.is-0 in
    let first = not-empty c.parts_of-parts.result.now c.if-is_empty.ensures in
    let some : 0 < length (parts_at c.args.lists.now q c.args.part) = subst (λ ps. 0 < length ps) c.parts_of-parts.ensures first in
    subst (λ l. IsPartOf c.args.names.now G rule (part_of G l c.args.part) (Some (Segment q c.args.part))) (sym is)
    (part-call c.args.names.now G rule q c.args.part c.args.lists.now all (subst (λ l. CallsBelow rule (l ∷ [])) is below) some)
