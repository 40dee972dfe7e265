use Rattle.std.proofs.Common.{◌<◌, ℕ, List, length, get_or, ap, sym, ◌∙◌, subst, get_or-set_same, get_or-set_other}
use Rattle.std.proofs.lemmas.List.{map-set}
use Rattle.rule_arena.specs.declared.key.Key.{Key}
use Rattle.digram_index.specs.Uppers.{numbers_of}
use Rattle.digram_index.proofs.uppers.Uppers.set.Goals as goal

pub returns-clause-here : goal.returns-clause-here
returns-clause-here c =
    ap (λ (ns : List ℕ). get_or ns c.args.lower 0) (map-set (λ (k : Key). k.number) c.self.inside.keys.items c.args.lower c.args.upper)
    ∙ get_or-set_same (numbers_of c.self.inside.keys.items) c.args.lower c.args.upper.number 0 (subst (λ (ns : List ℕ). c.args.lower < length ns) (sym c.self.view_is) c.requires)

pub returns-clause-others : goal.returns-clause-others
returns-clause-others c = rw (← c.self.view_is) (λ k n.
    ap (λ (ns : List ℕ). get_or ns k 0) (map-set (λ (m : Key). m.number) c.self.inside.keys.items c.args.lower c.args.upper)
    ∙ get_or-set_other (numbers_of c.self.inside.keys.items) c.args.lower k c.args.upper.number 0 n)
