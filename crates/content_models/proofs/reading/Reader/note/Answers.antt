use Rattle.std.proofs.Common.{ap, sym, ◌∙◌, ◌++◌, ◌∷◌, [], Some, slice_get}
use Rattle.plain_tree.specs.declared.kind.Kind.TheVariants.{Element}
use Rattle.content_models.specs.Givens.{given_of}
use Rattle.content_models.proofs.Held.{has-name, names-more}
use Rattle.content_models.proofs.reading.Reader.note.Goals as goal

pub returns-clause-noted : goal.returns-clause-noted
returns-clause-noted c = λ gs h.
    let name = c.args.line.now.name in
    let same = c.as_slice.ensures in
    c.in_ok-intern.ensures.added (λ i e. c.requires gs h (has-name gs i name (ap (λ s. slice_get s i) (sym h.names) ∙ e ∙ ap (λ n. Some (Element, n)) same)))
    ∙ ap (λ n. c.args.self.now.seen ++ (Element, n) ∷ []) same
    ∙ ap (λ s. s ++ (Element, name) ∷ []) h.names
    ∙ sym (names-more gs (given_of c.args.line.now))
