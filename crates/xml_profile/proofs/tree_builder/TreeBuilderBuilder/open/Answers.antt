use Rattle.std.proofs.Common.{◌++◌, ◌∷◌, [], ◌∙◌, ap}
use Rattle.xml_nodes.specs.Machine.{Opened}
use Rattle.xml_profile.specs.Building.{built_log}
use Rattle.xml_profile.specs.declared.tree_builder.OpenElement.{OpenElement}
use Rattle.xml_profile.proofs.Built.{opened_log}
use Rattle.xml_profile.proofs.tree_builder.TreeBuilderBuilder.open.Goals as goal

pub returns-clause-log : goal.returns-clause-log
returns-clause-log c =
    let outer = c.self.inside.outer.items in
    let f : OpenElement = record { name = c.in_ok-name.name; kids = c.replace-kids.result } in
    ap (λ z. built_log c.push.new.self.items z) (c.replace-kids.ensures.after ∙ c.new.ensures) ∙ ap (λ z. built_log z []) c.in_ok-push.ensures.items ∙ opened_log outer f
    ∙ ap (λ z. built_log outer z ++ Opened c.in_ok-name.name ∷ []) c.replace-kids.ensures.value
    ∙ ap (λ z. built_log outer c.self.inside.kids ++ Opened z ∷ []) c.in_ok-name.ensures
    ∙ ap (λ b. b.log ++ Opened c.args.name.now ∷ []) c.self.view_is
