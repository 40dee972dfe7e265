use Rattle.std.proofs.Common.{◌≡◌, ◌+◌, ◌-◌, ◌∙◌, refl, arith, length, get_or}
use Rattle.std.proofs.lemmas.List.{length-map}
use Rattle.rule_runs.proofs.Marks.{woven-more, woven-none, told-last, told-before, down-handed, length-tolds}
use Rattle.rule_runs.proofs.Tellings.{told-at}
use Rattle.rule_runs.specs.Cuts.{nothing}
use Rattle.rule_runs.specs.Outcomes.{outcome, tolds, downs_handed}
use Rattle.std.proofs.lemmas.Result.{on_ok_weaker}
use Rattle.rule_runs.proofs.descent.enter_call.Goals as goal

pub arguments-init : goal.arguments-init
arguments-init g c =
    let o = outcome c.args.handed.now c.args.last in
    record {
      open_so_far = λ lists ms ss opened told. woven-none o lists (length o.handed) c.args.marks.now.top ms ss refl opened;
      behind = told-last o (length o.handed) refl;
      within = omega arith;
      below = refl;
    }

pub arguments-preserved : goal.arguments-preserved
arguments-preserved g c =
    let o = outcome c.args.handed.now c.args.last in
    let left = c.arguments.left - 1 in
    let e : left + 1 ≡ c.arguments.left = omega arith in
    let h = c.arguments.invariant.within in
    let d : c.in_ok-copy.field-0 ≡ get_or (downs_handed o.handed) left c.in_ok-copy.field-0 = down-handed o left c.index-handed-left.result c.in_ok-copy.field-0 (omega arith) c.index-handed-left.is c.in_ok-copy.ensures in
    let b : c.arguments.behind ≡ get_or (tolds o) (left + 1) c.arguments.behind = rw e c.arguments.invariant.behind in
    record {
      open_so_far = λ lists ms ss opened told. rw (c.in_ok-push-2.ensures.top, c.in_ok-push.ensures.top) (woven-more lists (tolds o) (downs_handed o.handed) left c.arguments.marks.top ms ss c.in_ok-copy.field-0 c.arguments.behind told (length-tolds o) (omega (arith, length-map o.handed (λ h. h.down))) d b (rw e (c.arguments.invariant.open_so_far lists ms ss opened told)));
      behind = told-before o left c.index-handed-left.result (omega arith) c.index-handed-left.is;
      within = omega arith;
      below = c.in_ok-push-2.ensures.below ∙ c.in_ok-push.ensures.below ∙ c.arguments.invariant.below;
    }

pub returns-clause-entered : goal.returns-clause-entered
returns-clause-entered g c = λ lists s ms ss i opened told.
    let o = outcome c.args.handed.now c.args.last in
    let z : c.arguments.left ≡ 0 = omega arith in
    let w = rw z at (c.arguments.invariant.open_so_far lists ms ss opened told) in
    let b : c.arguments.behind ≡ get_or (tolds o) 0 c.arguments.behind = rw z at c.arguments.invariant.behind in
    let k = told-at lists (tolds o) ss 0 c.arguments.behind told (omega (arith, length-tolds o)) b in
    on_ok_weaker c.absorb.result (λ p. (p, w)) (c.absorb.ensures.telling lists s (get_or ss 0 nothing) i k)

pub absorb-requires : goal.absorb-requires
absorb-requires g c =
    let z : c.arguments.left ≡ 0 = omega arith in
    c.requires.room c.arguments.behind (rw z at c.arguments.invariant.behind)
