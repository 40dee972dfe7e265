use Rattle.std.proofs.Common.{◌≡◌, ℕ, Option, None, Some, ◌∙◌, arith, sym}
use Rattle.slab.specs.Slab.{get}
use Rattle.rule_arena.specs.Linked.{Cell}
use Rattle.rule_arena.specs.Siblings.{seen}
use Rattle.rule_arena.proofs.CellLemmas.{some_of}
use Rattle.rule_arena.proofs.RoomLemmas.{room-seen}
use Rattle.rule_arena.proofs.SeenLemmas.{none-seen, capacity-seen}
use Rattle.rule_arena.proofs.StandingLemmas.{stands_by, term_none}
use Rattle.rule_arena.proofs.TiedLemmas.{tied-empty}
use Rattle.rule_arena.proofs.arena.Arena.new.Goals as goal

nothing : (o : Option Cell) (c : Cell) → o ≡ None → o ≡ Some c → {X : Type 0} → X
nothing o c e f = absurd (let z : None ≡ Some c = sym e ∙ f in cc)

pub invariant_of-result : goal.invariant_of-result
invariant_of-result c =
    let none : (j : ℕ) → get (seen c.new.result) j ≡ None = none-seen c.new.result c.new.ensures.empty in (
      λ k. stands_by (get (seen c.new.result)) k (λ d e p. nothing (get (seen c.new.result) k) d (none k) e),
      (
        λ k h. let d = some_of (get (seen c.new.result) k) h in nothing (get (seen c.new.result) k) d.0 (none k) d.1,
        (tied-empty (seen c.new.result) none, tt),
      ),
    )

pub returns-clause-empty : goal.returns-clause-empty
returns-clause-empty c = λ r. term_none (seen c.new.result) _ r (none-seen c.new.result c.new.ensures.empty r)

pub returns-clause-spare : goal.returns-clause-spare
returns-clause-spare c = omega (arith, room-seen c.new.result (omega (arith, c.new.ensures.capacity)), c.new.ensures.capacity)

pub returns-clause-limit : goal.returns-clause-limit
returns-clause-limit c = capacity-seen c.new.result ∙ c.new.ensures.capacity
