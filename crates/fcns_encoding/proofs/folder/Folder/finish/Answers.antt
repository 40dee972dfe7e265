use Rattle.std.proofs.Common.{◌≡◌, ◌≤◌, ◌*◌, [], length, sym, subst, ◌∙◌}
use Rattle.std.proofs.lemmas.Bool.{le-leb}
use Rattle.plain_tree.specs.Tree.{none, more}
use Rattle.slt_grammar.specs.Coding.{Codes}
use Rattle.slt_grammar.specs.Grammars.{IsSwept, size}
use Rattle.slt_grammar.specs.Standing.{StandsFor}
use Rattle.fcns_encoding.specs.Interning.{Interns, pairs_of_tree}
use Rattle.fcns_encoding.proofs.StandLemmas.{follows}
use Rattle.fcns_encoding.proofs.folder.Folder.finish.Goals as goal

pub returns-clause-stand : goal.returns-clause-stand
returns-clause-stand c =
    let w = c.in_ok-written.field-0 in
    follows _ _ _ c.checked.result c.checked.ensures.rules
    (follows _ _ (λ f. (f.names ≡ w.names) × (f.texts ≡ w.texts)) c.checked.result c.checked.ensures.names c.checked.ensures.texts (λ f names texts. (names, texts)))
    (λ f rules same t doc e.
    subst (λ G. StandsFor G f.names f.texts.texts t) (sym rules)
    (subst (λ ns. StandsFor w.rules ns f.texts.texts t) (sym same.0) (subst (λ ts. StandsFor w.rules w.names ts.texts t) (sym same.1) (c.in_ok-written.ensures.stand t doc e))))

pub returns-clause-names : goal.returns-clause-names
returns-clause-names c = follows _ _ _ c.checked.result c.checked.ensures.names c.checked.ensures.names (λ f names again t doc e. subst (Interns [] (pairs_of_tree t)) (sym names) (c.in_ok-written.ensures.names t doc e))

pub returns-clause-swept : goal.returns-clause-swept
returns-clause-swept c = follows _ _ _ c.checked.result c.checked.ensures.rules c.checked.ensures.rules (λ f rules again. subst IsSwept (sym rules) c.in_ok-written.ensures.swept)

pub returns-clause-size : goal.returns-clause-size
returns-clause-size c =
    let small = c.in_ok-written.ensures.size (λ n labels h. c.of_uses.ensures n labels ∙ le-leb 2 n h) in
    follows _ _ _ c.checked.result c.checked.ensures.rules c.checked.ensures.names
    (λ f rules names t term terms doc e code are. subst (λ G. size G ≤ 3 * length terms) (sym rules) (small t term terms doc e (subst (λ ns. Codes ns (more t none) term) names code) are))
