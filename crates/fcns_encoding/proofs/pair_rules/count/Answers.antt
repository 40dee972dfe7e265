use Rattle.std.proofs.Common.{inl, sym, ap, ◌∙◌, slice_get}
use Rattle.indexmap.proofs.CallerLemmas.{keys-with_value_at}
use Rattle.fcns_encoding.proofs.PairSteps.{key-inserted}
use Rattle.fcns_encoding.proofs.pair_rules.count.Goals as goal

pub returns-in-Some : goal.returns-in-Some
returns-in-Some c i p e = inl (ap (λ ks. slice_get ks i) (sym (keys-with_value_at c.args.pairs.now c.in-Some.index _)) ∙ e)

pub returns-in_ok-insert-in-None : goal.returns-in_ok-insert-in-None
returns-in_ok-insert-in-None c i p e = key-inserted c.args.pairs.now.entries c.insert.new.self.entries c.args.pair 1 c.in_ok-insert-in-None.ensures.entries i p e
