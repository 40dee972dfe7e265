use Rattle.std.proofs.Common.{◌∙◌, arith, refl}
use Rattle.rule_runs.proofs.Lists.{no_more}
use Rattle.rule_runs.proofs.Marks.{absorbing-start, absorbing-piece, absorbing-term, absorbing-end}
use Rattle.rule_runs.proofs.descent.next_term.Goals as goal

pub marks-init : goal.marks-init
marks-init g c = record {
  absorbing = λ lists s ms i o. absorbing-start lists s ms c.args.marks.now.top c.args.here.now i o;
  room = c.requires;
  below = refl;
}

pub returns-in-Term-clause-next : goal.returns-in-Term-clause-next
returns-in-Term-clause-next g c = λ lists s ms i o.
    absorbing-term lists s ms c.in-Term.down c.pop.new.self.top c.marks.here (rw (c.in-Some.ensures.some, c.in-Term.is) at (c.marks.invariant.absorbing lists s ms i o))

pub absorb-requires : goal.absorb-requires
absorb-requires g c =
    let room = rw (c.in-Some.ensures.some, c.in-Piece.is) at c.marks.invariant.room in
    record { nodes = omega (arith, room.nodes); hits = omega (arith, room.hits) }

pub marks-preserved : goal.marks-preserved
marks-preserved g c =
    let room = rw (c.in-Some.ensures.some, c.in-Piece.is) at c.marks.invariant.room in
    record {
      absorbing = λ lists s ms i o. absorbing-piece lists s ms c.in-Piece.told c.pop.new.self.top c.marks.here c.absorb.new.self (rw (c.in-Some.ensures.some, c.in-Piece.is) at (c.marks.invariant.absorbing lists s ms i o)) (λ a b. c.in_ok-absorb-in-Piece.ensures.telling lists a b);
      room = record { nodes = omega (arith, room.nodes, c.in_ok-absorb-in-Piece.ensures.nodes); hits = omega (arith, room.hits, c.in_ok-absorb-in-Piece.ensures.hits) };
      below = c.pop.ensures.below ∙ c.marks.invariant.below;
    }

pub returns-clause-next : goal.returns-clause-next
returns-clause-next g c = λ lists s ms i o.
    let n = no_more c.pop.result c.in_default.not-Some in
    let a = rw n at c.pop.ensures.none in
    let b = rw n at c.pop.ensures.stays in
    rw b (absorbing-end lists s ms c.marks.here (rw a at (c.marks.invariant.absorbing lists s ms i o)))
