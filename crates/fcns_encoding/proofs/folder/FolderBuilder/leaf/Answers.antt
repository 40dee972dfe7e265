use Rattle.std.proofs.Common.{◌++◌, ◌∷◌, [], refl, ap, ◌∙◌}
use Rattle.xml_nodes.specs.Machine.{Leaf}
use Rattle.fcns_encoding.proofs.FolderLemmas.{goes-leaf}
use Rattle.fcns_encoding.proofs.folder.FolderBuilder.leaf.Goals as goal

pub invariant_of-self-2 : goal.invariant_of-self-2
invariant_of-self-2 c _ =
    let f = c.self.invariant (ap (λ b. b.sound) c.self.view_is ∙ c.requires.sound) in
    (goes-leaf c.self.inside.names c.symbol.new.names c.self.inside.subterms c.self.inside.texts c.self.inside.stack.items c.push-2.new.self.items f c.in_ok-symbol.ensures.keeps c.in_ok-symbol.symbol c.push.new.self
    c.args.kind c.args.name.now c.args.value.now c.requires.leaf (c.in_ok-symbol.ensures.named _ f.tells.named) c.in_ok-symbol.ensures.place c.in_ok-push.ensures.ok c.in_ok-push-2.ensures.items).folding

pub returns : goal.returns
returns c =
    let f = c.self.invariant (ap (λ b. b.sound) c.self.view_is ∙ c.requires.sound) in
    let go = goes-leaf c.self.inside.names c.symbol.new.names c.self.inside.subterms c.self.inside.texts c.self.inside.stack.items c.push-2.new.self.items f c.in_ok-symbol.ensures.keeps c.in_ok-symbol.symbol c.push.new.self
    c.args.kind c.args.name.now c.args.value.now c.requires.leaf (c.in_ok-symbol.ensures.named _ f.tells.named) c.in_ok-symbol.ensures.place c.in_ok-push.ensures.ok c.in_ok-push-2.ensures.items in
    record { log = go.log ∙ ap (λ b. b.log ++ Leaf c.args.kind c.args.name.now c.args.value.now ∷ []) c.self.view_is; depth = go.depth ∙ ap (λ b. b.depth) c.self.view_is; sound = refl; refused = tt }
