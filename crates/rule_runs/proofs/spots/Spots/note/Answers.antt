use Rattle.std.proofs.Common.{◌≢◌, ◌∙◌, ap, arith, All}
use Rattle.std.proofs.lemmas.Result.{on_ok_weaker}
use Rattle.rule_runs.specs.declared.spots.Passed.{Passed}
use Rattle.rule_runs.specs.Outcomes.{outcomes_of}
use Rattle.rule_runs.proofs.Passing.{absent-entry, outcomes-noted}
use Rattle.rule_runs.proofs.Places.{test, same-spot, looked-up-none}
use Rattle.rule_runs.proofs.spots.Spots.note.Goals as goal

pub note-requires : goal.note-requires
note-requires g c =
    let absent : All (λ e. e.0 ≢ c.args.spot) (outcomes_of c.self.inside.handed.items c.self.inside.table) = rw c.self.view_is c.requires in
    looked-up-none (test g.D.PartialEq.eq) (same-spot g.D.PartialEq.eq g.met.D.RunState.identical) c.args.spot c.self.inside.table (absent-entry c.self.inside.handed.items c.args.spot c.self.inside.table absent)

pub returns : goal.returns
returns g c =
    let old = c.self.inside.handed in
    let new = c.append.new.self in
    let passed : Passed = record { handed = c.in_ok-handed.handed; last = c.args.last } in
    record {
      ok = on_ok_weaker c.note.result (λ noted. ap (outcomes_of new.items) noted
          ∙ outcomes-noted old.items c.args.handed.now.items new.items c.self.inside.table c.args.self.now c.args.spot passed c.self.invariant c.self.view_is c.in_ok-append.ensures.items (omega (arith, c.in_ok-handed.ensures.begin, c.len-begin.ensures, old.ok.0)) (omega (arith, c.in_ok-handed.ensures.end, c.len.ensures, new.ok.0))) c.note.ensures.ok;
    }
