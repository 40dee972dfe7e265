use Rattle.std.proofs.Common.{◌≡◌, ◌-◌, ◌∷◌, ℕ, List, length, take, reverse, ap, ◌∙◌}
use Rattle.border_repair.specs.declared.folding.Root.{Root}
use Rattle.border_repair.proofs.StackLemmas.{stack-cut, stack-push}
use Rattle.border_repair.proofs.folding.add_root.Goals as goal

pub returns-clause-roots : goal.returns-clause-roots
returns-clause-roots c =
    let o = c.args.roots.now in
    let r : Root = record { at = c.len-at.result; label = c.args.label } in
    let s : Root = record { at = length c.args.labels.now.items; label = c.args.label } in
    let len : o.len ≡ length o.items = o.ok.0 in
    let at : c.len-at.result ≡ length c.args.labels.now.items = c.len-at.ensures ∙ c.args.labels.now.ok.0 in
    let n : c.len.result ≡ length o.items = c.len.ensures ∙ len in
    ap reverse c.in_ok-push.ensures.items ∙ stack-push c.truncate.new.self.items r ∙ ap (λ (i : ℕ). record { at = i; label = c.args.label } ∷ reverse c.truncate.new.self.items) at
    ∙ ap (λ (rs : List Root). s ∷ reverse rs) (c.truncate.ensures.items ∙ ap (λ (k : ℕ). take k o.items) (c.saturating_sub.ensures ∙ ap (λ (k : ℕ). k - c.args.kids) n)) ∙ ap (λ (rs : List Root). s ∷ rs) (stack-cut o.items c.args.kids)
