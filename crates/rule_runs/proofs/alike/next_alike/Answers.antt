use Rattle.std.proofs.Common.{◌∙◌, ◌≡◌, suc, ◌<◌, ◌^◌, ◌∷◌, All, length, sym, ap, arith, reverse, drop, take, subst}
use Rattle.std.specs.Prelude.{slice_set}
use Rattle.rule_runs.specs.Alike.{symbols}
use Rattle.rule_runs.specs.Listing.{parts_at, list_hits, coming, AreWithin}
use Rattle.rule_runs.proofs.Listings.{parts-at, rest, below, told-all, told-list, told-cost, list-fits, list-there}
use Rattle.rule_runs.proofs.AlikeRuns.{top-read, top-set, top-under, part-at, part-is, behind, run-rest, run-small, run-told, first-some}
use Rattle.rule_runs.proofs.alike.next_alike.Goals as goal

pub levels-preserved-then-level-parts : goal.levels-preserved-then-level-parts
levels-preserved-then-level-parts c =
    let lists = c.args.lists.now in
    let level = c.index-level.result.now in
    let top = c.in-Some.top in
    let items = c.levels.levels.items in
    let ls = reverse (take top items) in
    let last : length items ≡ suc top = omega (arith, c.len.ensures, c.in-Some.ensures, c.levels.levels.ok) in
    let e : reverse items ≡ level ∷ ls = top-read items top last level c.index-level.ensures in
    let w : AreWithin lists (level ∷ ls) = rw e at c.levels.invariant.within in
    let v = c.index-lists-level.result in
    let t = told-all lists level ls v w.0 c.index-lists-level.is (omega (arith, c.if-level-parts.true, ap length c.as_slice-parts.ensures.value)) in
    rw c.truncate.ensures.items (record { same = sym t ∙ ap (coming lists) (sym e) ∙ c.levels.invariant.same; within = w.1 })

pub returns-in-Some-alike_part-clause-next : goal.returns-in-Some-alike_part-clause-next
returns-in-Some-alike_part-clause-next c =
    let lists = c.args.lists.now in
    let level = c.index-level.result.now in
    let top = c.in-Some.top in
    let items = c.levels.levels.items in
    let ls = reverse (take top items) in
    let last : length items ≡ suc top = omega (arith, c.len.ensures, c.in-Some.ensures, c.levels.levels.ok) in
    let e : reverse items ≡ level ∷ ls = top-read items top last level c.index-level.ensures in
    let w : AreWithin lists (level ∷ ls) = rw e at c.levels.invariant.within in
    let v = c.index-lists-level.result in
    let ps = c.as_slice-parts.result.now in
    let are : parts_at lists level.list ≡ ps = parts-at lists level.list v w.0 c.index-lists-level.is ∙ sym c.as_slice-parts.ensures.value in
    let more : level.next < length ps = omega (arith, c.if-level-parts.false, c.as_slice-parts.ensures.len) in
    let first = c.in-Some-alike_part.first in
    let alike = c.in-Some-alike_part.ensures.alike (list_hits lists) c.requires.known in
    let end = c.run_of-run.result.end in
    let q : reverse (slice_set items top (behind lists level ls ps are end)) ≡ behind lists level ls ps are end ∷ ls = top-set items top last (behind lists level ls ps are end) in
    let t = run-told lists level ls ps are end more first alike c.run_of-run.result.hits c.run_of-run.ensures.end (c.run_of-run.ensures.told (list_hits lists) c.requires.known) in
    ap symbols (sym c.levels.invariant.same ∙ ap (coming lists) e) ∙ rw q t

pub returns-in-Some-alike_part-clause-rest : goal.returns-in-Some-alike_part-clause-rest
returns-in-Some-alike_part-clause-rest c =
    let lists = c.args.lists.now in
    let level = c.index-level.result.now in
    let top = c.in-Some.top in
    let items = c.levels.levels.items in
    let ls = reverse (take top items) in
    let last : length items ≡ suc top = omega (arith, c.len.ensures, c.in-Some.ensures, c.levels.levels.ok) in
    let e : reverse items ≡ level ∷ ls = top-read items top last level c.index-level.ensures in
    let w : AreWithin lists (level ∷ ls) = rw e at c.levels.invariant.within in
    let v = c.index-lists-level.result in
    let ps = c.as_slice-parts.result.now in
    let are : parts_at lists level.list ≡ ps = parts-at lists level.list v w.0 c.index-lists-level.is ∙ sym c.as_slice-parts.ensures.value in
    let more : level.next < length ps = omega (arith, c.if-level-parts.false, c.as_slice-parts.ensures.len) in
    let first = c.in-Some-alike_part.first in
    let alike = c.in-Some-alike_part.ensures.alike (list_hits lists) c.requires.known in
    let end = c.run_of-run.result.end in
    let hits = c.run_of-run.result.hits in
    let q : reverse (slice_set items top (behind lists level ls ps are end)) ≡ behind lists level ls ps are end ∷ ls = top-set items top last (behind lists level ls ps are end) in
    let t = run-rest lists level ls ps are end more first alike hits c.run_of-run.ensures.end (c.run_of-run.ensures.told (list_hits lists) c.requires.known) in
    ap (coming lists) q ∙ t ∙ ap (λ hs. drop hits.count hs) (ap (coming lists) (sym e) ∙ c.levels.invariant.same)

pub returns-in-Some-alike_part-clause-some : goal.returns-in-Some-alike_part-clause-some
returns-in-Some-alike_part-clause-some c =
    let lists = c.args.lists.now in
    let level = c.index-level.result.now in
    let top = c.in-Some.top in
    let items = c.levels.levels.items in
    let ls = reverse (take top items) in
    let last : length items ≡ suc top = omega (arith, c.len.ensures, c.in-Some.ensures, c.levels.levels.ok) in
    let e : reverse items ≡ level ∷ ls = top-read items top last level c.index-level.ensures in
    let w : AreWithin lists (level ∷ ls) = rw e at c.levels.invariant.within in
    let v = c.index-lists-level.result in
    let ps = c.as_slice-parts.result.now in
    let are : parts_at lists level.list ≡ ps = parts-at lists level.list v w.0 c.index-lists-level.is ∙ sym c.as_slice-parts.ensures.value in
    let more : level.next < length ps = omega (arith, c.if-level-parts.false, c.as_slice-parts.ensures.len) in
    let first = c.in-Some-alike_part.first in
    let alike = c.in-Some-alike_part.ensures.alike (list_hits lists) c.requires.known in
    let some = first-some lists level ls ps are c.run_of-run.result.end more first alike c.requires.coming.earlier w.0 in
    omega (arith, some, c.run_of-run.ensures.some)

pub returns-in-Some-alike_part-clause-coming : goal.returns-in-Some-alike_part-clause-coming
returns-in-Some-alike_part-clause-coming c =
    let lists = c.args.lists.now in
    let level = c.index-level.result.now in
    let top = c.in-Some.top in
    let items = c.levels.levels.items in
    let ls = reverse (take top items) in
    let last : length items ≡ suc top = omega (arith, c.len.ensures, c.in-Some.ensures, c.levels.levels.ok) in
    let e : reverse items ≡ level ∷ ls = top-read items top last level c.index-level.ensures in
    let w : AreWithin lists (level ∷ ls) = rw e at c.levels.invariant.within in
    let v = c.index-lists-level.result in
    let ps = c.as_slice-parts.result.now in
    let are : parts_at lists level.list ≡ ps = parts-at lists level.list v w.0 c.index-lists-level.is ∙ sym c.as_slice-parts.ensures.value in
    let more : level.next < length ps = omega (arith, c.if-level-parts.false, c.as_slice-parts.ensures.len) in
    let small : All (λ h. h.number < 2 ^ 64) (coming lists (level ∷ ls)) = subst (λ hs. All (λ h. h.number < 2 ^ 64) hs) (sym c.levels.invariant.same ∙ ap (coming lists) e) c.requires.coming.small in
    let end = c.run_of-run.result.end in
    let q : reverse (slice_set items top (behind lists level ls ps are end)) ≡ behind lists level ls ps are end ∷ ls = top-set items top last (behind lists level ls ps are end) in
    record {
      earlier = c.requires.coming.earlier;
      within = rw q (w.0, w.1);
      small = rw q (run-small lists level ls ps are end (omega (arith, c.run_of-run.ensures.end)) small);
    }

pub overflow_add-level-in-List : goal.overflow_add-level-in-List
overflow_add-level-in-List c =
    let lists = c.args.lists.now in
    let level = c.index-level.result.now in
    let top = c.in-Some.top in
    let items = c.levels.levels.items in
    let ls = reverse (take top items) in
    let last : length items ≡ suc top = omega (arith, c.len.ensures, c.in-Some.ensures, c.levels.levels.ok) in
    let e : reverse items ≡ level ∷ ls = top-read items top last level c.index-level.ensures in
    let w : AreWithin lists (level ∷ ls) = rw e at c.levels.invariant.within in
    let v = c.index-lists-level.result in
    let ps = c.as_slice-parts.result.now in
    let are : parts_at lists level.list ≡ ps = parts-at lists level.list v w.0 c.index-lists-level.is ∙ sym c.as_slice-parts.ensures.value in
    let more : level.next < length ps = omega (arith, c.if-level-parts.false, c.as_slice-parts.ensures.len) in
    let small : All (λ h. h.number < 2 ^ 64) (coming lists (level ∷ ls)) = subst (λ hs. All (λ h. h.number < 2 ^ 64) hs) (sym c.levels.invariant.same ∙ ap (coming lists) e) c.requires.coming.small in
    let p = part-at ps level.next in
    let whole : level.next < length v.items = omega (arith, more, ap length c.as_slice-parts.ensures.value) in
    let p-is = part-is ps v.items level.next c.as_slice-parts.ensures.value more in
    let at = c.in-List.at in
    let list = c.in-List.list in
    let fits = list-fits lists level ls v w.0 c.index-lists-level.is p whole p-is c.requires.coming.earlier at list c.in-List.is small in
    omega (arith, fits)

pub levels-smaller-in-List : goal.levels-smaller-in-List
levels-smaller-in-List c =
    let lists = c.args.lists.now in
    let level = c.index-level.result.now in
    let top = c.in-Some.top in
    let items = c.levels.levels.items in
    let ls = reverse (take top items) in
    let last : length items ≡ suc top = omega (arith, c.len.ensures, c.in-Some.ensures, c.levels.levels.ok) in
    let e : reverse items ≡ level ∷ ls = top-read items top last level c.index-level.ensures in
    let w : AreWithin lists (level ∷ ls) = rw e at c.levels.invariant.within in
    let v = c.index-lists-level.result in
    let ps = c.as_slice-parts.result.now in
    let are : parts_at lists level.list ≡ ps = parts-at lists level.list v w.0 c.index-lists-level.is ∙ sym c.as_slice-parts.ensures.value in
    let more : level.next < length ps = omega (arith, c.if-level-parts.false, c.as_slice-parts.ensures.len) in
    let p = part-at ps level.next in
    let whole : level.next < length v.items = omega (arith, more, ap length c.as_slice-parts.ensures.value) in
    let p-is = part-is ps v.items level.next c.as_slice-parts.ensures.value more in
    let at = c.in-List.at in
    let list = c.in-List.list in
    let b = below lists level ls v w.0 c.index-lists-level.is p whole p-is c.requires.coming.earlier at list c.in-List.is in
    let z = rest lists level ls v w.0 c.index-lists-level.is p whole p-is in
    let q : reverse (slice_set c.push.new.self.items top z) ≡ b ∷ z ∷ ls = ap (λ ys. reverse (slice_set ys top z)) c.in_ok-push.ensures.items ∙ top-under items top last b z in
    rw (e, q) (told-cost lists level ls v w.0 c.index-lists-level.is p whole p-is c.requires.coming.earlier at list c.in-List.is)

pub levels-preserved-in-List : goal.levels-preserved-in-List
levels-preserved-in-List c =
    let lists = c.args.lists.now in
    let level = c.index-level.result.now in
    let top = c.in-Some.top in
    let items = c.levels.levels.items in
    let ls = reverse (take top items) in
    let last : length items ≡ suc top = omega (arith, c.len.ensures, c.in-Some.ensures, c.levels.levels.ok) in
    let e : reverse items ≡ level ∷ ls = top-read items top last level c.index-level.ensures in
    let w : AreWithin lists (level ∷ ls) = rw e at c.levels.invariant.within in
    let v = c.index-lists-level.result in
    let ps = c.as_slice-parts.result.now in
    let are : parts_at lists level.list ≡ ps = parts-at lists level.list v w.0 c.index-lists-level.is ∙ sym c.as_slice-parts.ensures.value in
    let more : level.next < length ps = omega (arith, c.if-level-parts.false, c.as_slice-parts.ensures.len) in
    let p = part-at ps level.next in
    let whole : level.next < length v.items = omega (arith, more, ap length c.as_slice-parts.ensures.value) in
    let p-is = part-is ps v.items level.next c.as_slice-parts.ensures.value more in
    let at = c.in-List.at in
    let list = c.in-List.list in
    let b = below lists level ls v w.0 c.index-lists-level.is p whole p-is c.requires.coming.earlier at list c.in-List.is in
    let z = rest lists level ls v w.0 c.index-lists-level.is p whole p-is in
    let q : reverse (slice_set c.push.new.self.items top z) ≡ b ∷ z ∷ ls = ap (λ ys. reverse (slice_set ys top z)) c.in_ok-push.ensures.items ∙ top-under items top last b z in
    let lt = list-there lists level ls v w.0 c.index-lists-level.is p whole p-is c.requires.coming.earlier at list c.in-List.is in
    let t = told-list lists level ls v w.0 c.index-lists-level.is p whole p-is c.requires.coming.earlier at list c.in-List.is in
    record {
      same = rw q (sym t ∙ ap (coming lists) (sym e) ∙ c.levels.invariant.same);
      within = rw q ((let a = w.0 in omega arith), (w.0, w.1));
    }
