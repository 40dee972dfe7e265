use Rattle.std.proofs.Common.{◌≡◌, ◌++◌, ◌∷◌, [], ◌<◌, List, Contains, length, sym, subst, ◌∙◌, arith}
use Rattle.arrayvec.specs.ArrayVec.{ArrayVec}
use Rattle.rule_runs.specs.declared.index.TheConstants.{FEW}
use Rattle.rule_runs.specs.Tables.{Grows, places_at}
use Rattle.rule_runs.proofs.Tables.{grows-trans, grows-push, grows-kept, kept-there, kept-full, push-there}
use Rattle.rule_runs.proofs.index.keep_first.Goals as goal

-- one more list of places at the end
grows-more : (a b c : List (ArrayVec _)) (p : ArrayVec _) → c ≡ b ++ p ∷ [] → Grows a b → Grows a c
grows-more a b c p e g = grows-trans a b c g (subst (Grows b) (sym e) (grows-push b p))

pub returns-in_err-push-clause-grows : goal.returns-in_err-push-clause-grows
returns-in_err-push-clause-grows c =
    subst (Grows c.args.first.now.items) (sym c.in_err-push.ensures.items) c.loop-i.invariant.grows

pub loop-i-preserved : goal.loop-i-preserved
loop-i-preserved c =
    record {
      count = omega (arith, c.in_ok-push.ensures.len, c.loop-i.invariant.count);
      grows = grows-more c.args.first.now.items c.loop-i.first.items _ c.new.result c.in_ok-push.ensures.items c.loop-i.invariant.grows;
    }

pub returns-then-number-len-clause-grows : goal.returns-then-number-len-clause-grows
returns-then-number-len-clause-grows c =
    let l : c.args.number < length c.loop-i.first.items = omega (arith, c.if-number-len.true, c.len.ensures) in
    grows-kept c.try_push.result c.loop-i.first.items c.args.number c.args.place c.index_mut.result.now c.try_push.new.self l c.args.first.now.items c.loop-i.invariant.grows c.index_mut.ensures.value c.try_push.ensures.ok c.try_push.ensures.err

pub returns-then-number-len-clause-kept : goal.returns-then-number-len-clause-kept
returns-then-number-len-clause-kept c =
    let l : c.args.number < length c.loop-i.first.items = omega (arith, c.if-number-len.true, c.len.ensures) in
    λ t. kept-there c.try_push.result c.loop-i.first.items c.args.number c.args.place c.index_mut.result.now c.try_push.new.self l (sym c.is_ok.ensures.value ∙ t) c.try_push.ensures.ok

pub returns-then-number-len-clause-full : goal.returns-then-number-len-clause-full
returns-then-number-len-clause-full c =
    let l : c.args.number < length c.loop-i.first.items = omega (arith, c.if-number-len.true, c.len.ensures) in
    λ f. kept-full c.try_push.result c.loop-i.first.items c.args.number c.args.place c.index_mut.result.now c.try_push.new.self l FEW (sym c.is_ok.ensures.value ∙ f) c.try_push.ensures.err c.try_push.ensures.full

pub returns-in_err-push-2-clause-grows : goal.returns-in_err-push-2-clause-grows
returns-in_err-push-2-clause-grows c =
    subst (Grows c.args.first.now.items) (sym c.in_err-push-2.ensures.items) c.loop-i.invariant.grows

pub returns-clause-grows : goal.returns-clause-grows
returns-clause-grows c =
    grows-more c.args.first.now.items c.loop-i.first.items _ c.push-2.new.self c.in_ok-push-2.ensures.items c.loop-i.invariant.grows

pub returns-clause-kept : goal.returns-clause-kept
returns-clause-kept c =
    let n : c.args.number ≡ length c.loop-i.first.items = omega (arith, c.if-number-len.false, c.len.ensures, c.loop-i-test.false, c.loop-i.invariant.count) in
    let there = push-there c.loop-i.first.items c.args.number c.push-2.new.self c.new-places.result.items c.args.place n c.push-2.ensures.items in
    λ t. subst (λ first. Contains (places_at first c.args.number) c.args.place) (sym c.in_ok-push-2.ensures.items) there
