use Rattle.std.proofs.Common.{◌∙◌, arith}
use Rattle.rule_arena.specs.Terms.{Node}
use Rattle.slt_grammar.proofs.TourWalking.{step-up, step-below, step-root, stands-next, stands-end, IsNextNew, no_more}
use Rattle.slt_grammar.proofs.tour_walk.TourWalk.advance.Goals as goal
use Rattle.slt_grammar.proofs.tour_walk.TourWalk.advance.Goals.{then-self-site+in_default, else-self-site}

pub returns-in-Some-clause-next : goal.returns-in-Some-clause-next
returns-in-Some-clause-next g c = λ r m left s.
    let a = c.args in
    let x : Node = record { key = a.self.now.key; label = a.site.now.label; kids = a.site.now.arity } in
    step-up a.grammar.now.rules r a.self.now m left s x c.requires.node a.site.now.parent c.requires.parent (omega (arith, c.if-self-site.true)) c.in-Some.key c.in-Some.part c.in-Some.is

pub returns-in-Some-next_in_preorder-clause-next : goal.returns-in-Some-next_in_preorder-clause-next
returns-in-Some-next_in_preorder-clause-next g c = λ r m left s.
    let a = c.args in
    let x : Node = record { key = a.self.now.key; label = a.site.now.label; kids = a.site.now.arity } in
    let n : IsNextNew a.grammar.now.rules r a.self.now m left s = elim c.if-self-site.branch [
      | then-self-site+in_default w ↦ step-root a.grammar.now.rules r a.self.now m left s x c.requires.node a.site.now.parent c.requires.parent
          (omega (arith, w.if-self-site.true)) (no_more a.site.now.parent w.in_default.not-Some)
      | else-self-site w ↦ step-below a.grammar.now.rules r a.self.now m left s x c.requires.node a.site.now.parent c.requires.parent (omega (arith, w.if-self-site.false))
    ] in
    stands-next a.grammar.now.rules r a.self.now m left s n c.in-Some-next_in_preorder.key (c.next_in_preorder.ensures.next r s.last s.last_there ∙ c.in-Some-next_in_preorder.is)

pub returns-in-None-clause-next : goal.returns-in-None-clause-next
returns-in-None-clause-next g c = λ r m left s.
    let a = c.args in
    let x : Node = record { key = a.self.now.key; label = a.site.now.label; kids = a.site.now.arity } in
    let n : IsNextNew a.grammar.now.rules r a.self.now m left s = elim c.if-self-site.branch [
      | then-self-site+in_default w ↦ step-root a.grammar.now.rules r a.self.now m left s x c.requires.node a.site.now.parent c.requires.parent
          (omega (arith, w.if-self-site.true)) (no_more a.site.now.parent w.in_default.not-Some)
      | else-self-site w ↦ step-below a.grammar.now.rules r a.self.now m left s x c.requires.node a.site.now.parent c.requires.parent (omega (arith, w.if-self-site.false))
    ] in
    stands-end a.grammar.now.rules r a.self.now m left s n (c.next_in_preorder.ensures.next r s.last s.last_there ∙ c.in-None.is)
