use Rattle.std.proofs.Common.{◌++◌, ◌∷◌, ◌-◌, [], refl, ap, ◌∙◌}
use Rattle.xml_nodes.specs.Machine.{Closed}
use Rattle.fcns_encoding.proofs.FolderLemmas.{goes-close}
use Rattle.fcns_encoding.proofs.folder.FolderBuilder.close.Goals as goal

pub invariant_of-self-2 : goal.invariant_of-self-2
invariant_of-self-2 c _ =
    let f = c.self.invariant (ap (λ b. b.sound) c.self.view_is ∙ c.requires.sound) in
    (goes-close c.self.inside.names c.self.inside.subterms c.take_kids.new.subterms c.self.inside.texts c.self.inside.stack.items c.take_kids.new.stack.items c.push.new.self.items c.in_ok-kids.kids.code c.in-Some.symbol
    c.in_ok-kids.kids.begun c.in-Some.is f (c.in_ok-kids.ensures.taken _ _ f.tells.built) (c.in_ok-kids.ensures.used f.used) c.in_ok-kids.ensures.depth c.in_ok-push.ensures.items).folding

pub returns : goal.returns
returns c =
    let f = c.self.invariant (ap (λ b. b.sound) c.self.view_is ∙ c.requires.sound) in
    let go = goes-close c.self.inside.names c.self.inside.subterms c.take_kids.new.subterms c.self.inside.texts c.self.inside.stack.items c.take_kids.new.stack.items c.push.new.self.items c.in_ok-kids.kids.code c.in-Some.symbol
    c.in_ok-kids.kids.begun c.in-Some.is f (c.in_ok-kids.ensures.taken _ _ f.tells.built) (c.in_ok-kids.ensures.used f.used) c.in_ok-kids.ensures.depth c.in_ok-push.ensures.items in
    record { log = go.log ∙ ap (λ b. b.log ++ Closed ∷ []) c.self.view_is; depth = go.depth ∙ ap (λ b. b.depth - 1) c.self.view_is; sound = refl; refused = tt }
