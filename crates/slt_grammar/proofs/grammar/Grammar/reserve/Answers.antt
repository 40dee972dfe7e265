use Rattle.std.proofs.Common.{ℕ, List, sym, subst}
use Rattle.rule_arena.specs.declared.key.Key.{Key}
use Rattle.slt_grammar.specs.Holding.{IsKept}
use Rattle.slt_grammar.proofs.KeptInlines.{kept-same}
use Rattle.slt_grammar.proofs.grammar.Grammar.reserve.Goals as goal

pub invariant_of-self-2 : goal.invariant_of-self-2
invariant_of-self-2 c =
    let I = c.self.inside in
    subst (λ (ks : List Key). IsKept c.reserve-6.new.self ks c.reserve-3.new.self.items c.reserve-4.new.self.items c.reserve.new.self.order I.size) (sym c.reserve-2.ensures.items)
    (subst (λ (rs : List ℕ). IsKept c.reserve-6.new.self I.roots.items rs c.reserve-4.new.self.items c.reserve.new.self.order I.size) (sym c.reserve-3.ensures.items)
    (subst (λ (cs : List ℕ). IsKept c.reserve-6.new.self I.roots.items I.ranks.items cs c.reserve.new.self.order I.size) (sym c.reserve-4.ensures.items)
    (subst (λ (o : List ℕ). IsKept c.reserve-6.new.self I.roots.items I.ranks.items I.calls.items o I.size) (sym c.reserve.ensures.order)
    (kept-same I.arena c.reserve-6.new.self I.roots.items I.ranks.items I.calls.items I.order.order I.size c.reserve-6.ensures.terms c.self.invariant).0)))
