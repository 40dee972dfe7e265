use Rattle.std.proofs.Common.{◌++◌, ◌∷◌, ◌+◌, [], refl, ap, ◌∙◌}
use Rattle.xml_nodes.specs.Machine.{Opened}
use Rattle.fcns_encoding.proofs.FolderLemmas.{goes-open}
use Rattle.fcns_encoding.proofs.folder.FolderBuilder.open.Goals as goal

pub invariant_of-self-2 : goal.invariant_of-self-2
invariant_of-self-2 c _ =
    let f = c.self.invariant (ap (λ b. b.sound) c.self.view_is ∙ c.requires.sound) in
    (goes-open c.self.inside.names c.symbol.new.names c.self.inside.subterms c.self.inside.texts c.self.inside.stack.items c.push.new.self.items f c.in_ok-symbol.ensures.keeps c.in_ok-symbol.symbol
    c.args.kind c.args.name.now c.requires.element (c.in_ok-symbol.ensures.named _ f.tells.named) c.in_ok-symbol.ensures.place c.in_ok-push.ensures.items).folding

pub returns : goal.returns
returns c =
    let f = c.self.invariant (ap (λ b. b.sound) c.self.view_is ∙ c.requires.sound) in
    let go = goes-open c.self.inside.names c.symbol.new.names c.self.inside.subterms c.self.inside.texts c.self.inside.stack.items c.push.new.self.items f c.in_ok-symbol.ensures.keeps c.in_ok-symbol.symbol
    c.args.kind c.args.name.now c.requires.element (c.in_ok-symbol.ensures.named _ f.tells.named) c.in_ok-symbol.ensures.place c.in_ok-push.ensures.items in
    record { log = go.log ∙ ap (λ b. b.log ++ Opened c.args.name.now ∷ []) c.self.view_is; depth = go.depth ∙ ap (λ b. b.depth + 1) c.self.view_is; sound = refl; refused = tt }
