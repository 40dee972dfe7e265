use Rattle.std.proofs.Common.{◌≡◌, ℕ, List, Bor, Option, refl, sym, ap, ◌∙◌, None, Some}
use Rattle.std.specs.Prelude.{IsSome, option_map}
use Rattle.std.proofs.lemmas.Option.{same_Some}
use Rattle.tree_updates.proofs.BetweenStores.{text-there}
use Rattle.tree_updates.proofs.deleting_between.text_at.Goals as goal

lent-some : (o : Option (Bor (List ℕ))) (v : List ℕ) → option_map (λ x. x.now) o ≡ Some v → IsSome o
lent-some None v e = absurd cc
lent-some (Some x) v e = refl

pub unwrap-requires : goal.unwrap-requires
unwrap-requires c =
    let r = c.requires.store in
    let a = c.args.store.now in
    lent-some c.get.result r.2 (c.get.ensures ∙ text-there a r.0 r.4 r.1 c.text_rank.result r.2 r.3 r.6 (c.text_rank.ensures a.names a.grammar.rules r.1 r.0 r.5 r.4.stand.code))

pub returns : goal.returns
returns c = λ t n v us i s e.
    let a = c.args.store.now in
    same_Some c.unwrap.result.now v
    (ap (option_map (λ (x : Bor (List ℕ)). x.now)) (sym c.unwrap.ensures) ∙ c.get.ensures ∙ text-there a t i n c.text_rank.result v us e (c.text_rank.ensures a.names a.grammar.rules n t s i.stand.code))
