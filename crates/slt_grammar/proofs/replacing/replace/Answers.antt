use Rattle.std.proofs.Common.{List, Option, IsSome, sym, subst, refl, arith}
use Rattle.rule_arena.specs.Preorder.{subterm, with_subterm}
use Rattle.rule_arena.specs.Terms.{Node, kids_of}
use Rattle.slt_grammar.proofs.Changes.{changed-cut}
use Rattle.slt_grammar.proofs.replacing.replace.Goals as goal

pub cut-requires : goal.cut-requires
cut-requires c =
    let t = c.requires.there in
    subst (λ (o : Option (List Node)). IsSome o) (sym (c.swap.ensures.out t.0 t.1 t.2 t.3 t.4)) refl

pub returns-clause-changed : goal.returns-clause-changed
returns-clause-changed c = λ i k x ms e f s.
    changed-cut c.args.arena.now c.swap.new.arena c.cut.new.self c.args.roots.now c.swap.new.roots i (with_subterm kids_of x.nodes x.place ms) c.args.at (c.swap.ensures.changed i k x ms e f s) c.swap.ensures.apart c.cut.ensures.others

pub returns-clause-freed : goal.returns-clause-freed
returns-clause-freed c = λ i k x e f l.
    let g = c.cut.ensures.freed (subterm kids_of x.nodes x.place) (c.swap.ensures.out i k x e f) (omega (arith, l, c.swap.ensures.limit)) in
    omega (arith, g, c.swap.ensures.spare)
