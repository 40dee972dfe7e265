use Rattle.std.proofs.Common.{ap, sym, ◌∙◌, ◌++◌, ◌∷◌, [], refl, true, map}
use Rattle.std.proofs.lemmas.List.{map-append}
use Rattle.content_models.specs.Givens.{given_of}
use Rattle.content_models.specs.Rules.{rule_of}
use Rattle.content_models.proofs.Held.{keeps-large, keeps-past, keeps-push}
use Rattle.content_models.proofs.reading.Reader.keep.Goals as goal

pub returns-then-self-clause-kept : goal.returns-then-self-clause-kept
returns-then-self-clause-kept c = λ gs k. keeps-large c.args.self.now gs (given_of c.args.line) c.if-self.true k

pub returns-then-is_past-clause-kept : goal.returns-then-is_past-clause-kept
returns-then-is_past-clause-kept c = λ gs k.
    keeps-past c.args.self.now (record { seen = c.args.self.now.seen; kept = c.args.self.now.kept; large = true }) gs c.args.line c.requires c.if-self.false refl (sym c.is_past.ensures ∙ c.if-is_past.true) k

pub returns-clause-kept : goal.returns-clause-kept
returns-clause-kept c = λ gs k.
    keeps-push c.args.self.now (record { seen = c.args.self.now.seen; kept = c.push.new.self; large = c.args.self.now.large }) gs c.args.line c.requires c.if-self.false c.if-self.false (sym c.is_past.ensures ∙ c.if-is_past.false)
    (ap (map rule_of) c.in_ok-push.ensures.items ∙ map-append rule_of c.args.self.now.kept.items (c.declared.result ∷ []) ∙ ap (λ x. map rule_of c.args.self.now.kept.items ++ x ∷ []) c.declared.ensures) k
