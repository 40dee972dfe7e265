use Rattle.std.proofs.Common.{◌∙◌, ◌≡◌, ◌<◌, ◌^◌, ◌∷◌, All, sym, ap, arith, reverse, subst}
use Rattle.std.proofs.lemmas.List.Elements.{All-tail}
use Rattle.rule_runs.proofs.Lists.{reverse-push}
use Rattle.rule_runs.specs.Listing.{coming, AreWithin}
use Rattle.rule_runs.proofs.Listings.{told-all, told-node, told-list, told-cost, node-fits, list-fits, list-there}
use Rattle.rule_runs.proofs.listing.next_hit.Goals as goal

pub overflow_add-number : goal.overflow_add-number
overflow_add-number c =
    let r : c.reserve.new.self.items ≡ c.levels.levels.items = c.in_ok-reserve.ensures.items in
    let e : reverse c.levels.levels.items ≡ c.in-Some.level ∷ reverse c.pop.new.self.items = ap reverse (sym r ∙ c.in-Some.ensures.items) ∙ reverse-push c.pop.new.self.items c.in-Some.level in
    let w : AreWithin c.args.lists.now (c.in-Some.level ∷ reverse c.pop.new.self.items) = rw e at c.levels.invariant.within in
    let small : All (λ h. h.number < 2 ^ 64) (coming c.args.lists.now (c.in-Some.level ∷ reverse c.pop.new.self.items)) = subst (λ hs. All (λ h. h.number < 2 ^ 64) hs) (sym c.levels.invariant.same ∙ ap (coming c.args.lists.now) e) c.requires.small in
    let fits = node-fits c.args.lists.now c.in-Some.level (reverse c.pop.new.self.items) c.index-lists-level.result w.0 c.index-lists-level.is c.index-part.result.now (let f = c.if-level-len.true in let n = c.len.ensures in omega (arith, c.index-lists-level.result.ok.0)) c.index-part.ensures c.in-Node.at c.in-Node.symbol c.in-Node.is small in
    omega (arith, fits)

pub overflow_add-from : goal.overflow_add-from
overflow_add-from c =
    let r : c.reserve.new.self.items ≡ c.levels.levels.items = c.in_ok-reserve.ensures.items in
    let e : reverse c.levels.levels.items ≡ c.in-Some.level ∷ reverse c.pop.new.self.items = ap reverse (sym r ∙ c.in-Some.ensures.items) ∙ reverse-push c.pop.new.self.items c.in-Some.level in
    let w : AreWithin c.args.lists.now (c.in-Some.level ∷ reverse c.pop.new.self.items) = rw e at c.levels.invariant.within in
    let small : All (λ h. h.number < 2 ^ 64) (coming c.args.lists.now (c.in-Some.level ∷ reverse c.pop.new.self.items)) = subst (λ hs. All (λ h. h.number < 2 ^ 64) hs) (sym c.levels.invariant.same ∙ ap (coming c.args.lists.now) e) c.requires.small in
    let fits = list-fits c.args.lists.now c.in-Some.level (reverse c.pop.new.self.items) c.index-lists-level.result w.0 c.index-lists-level.is c.index-part.result.now (let f = c.if-level-len.true in let n = c.len.ensures in omega (arith, c.index-lists-level.result.ok.0)) c.index-part.ensures c.requires.earlier c.in-List.at c.in-List.list c.in-List.is small in
    omega (arith, fits)

pub returns-in-Node-clause-next : goal.returns-in-Node-clause-next
returns-in-Node-clause-next c =
    let r : c.reserve.new.self.items ≡ c.levels.levels.items = c.in_ok-reserve.ensures.items in
    let e : reverse c.levels.levels.items ≡ c.in-Some.level ∷ reverse c.pop.new.self.items = ap reverse (sym r ∙ c.in-Some.ensures.items) ∙ reverse-push c.pop.new.self.items c.in-Some.level in
    let w : AreWithin c.args.lists.now (c.in-Some.level ∷ reverse c.pop.new.self.items) = rw e at c.levels.invariant.within in
    let t = told-node c.args.lists.now c.in-Some.level (reverse c.pop.new.self.items) c.index-lists-level.result w.0 c.index-lists-level.is c.index-part.result.now (let f = c.if-level-len.true in let n = c.len.ensures in omega (arith, c.index-lists-level.result.ok.0)) c.index-part.ensures c.in-Node.at c.in-Node.symbol c.in-Node.is in
    let p = ap reverse c.in_ok-push.ensures.items ∙ reverse-push c.pop.new.self.items _ in
    sym c.levels.invariant.same ∙ ap (coming c.args.lists.now) e ∙ rw p t

pub returns-in-Node-clause-coming : goal.returns-in-Node-clause-coming
returns-in-Node-clause-coming c =
    let r : c.reserve.new.self.items ≡ c.levels.levels.items = c.in_ok-reserve.ensures.items in
    let e : reverse c.levels.levels.items ≡ c.in-Some.level ∷ reverse c.pop.new.self.items = ap reverse (sym r ∙ c.in-Some.ensures.items) ∙ reverse-push c.pop.new.self.items c.in-Some.level in
    let w : AreWithin c.args.lists.now (c.in-Some.level ∷ reverse c.pop.new.self.items) = rw e at c.levels.invariant.within in
    let small : All (λ h. h.number < 2 ^ 64) (coming c.args.lists.now (c.in-Some.level ∷ reverse c.pop.new.self.items)) = subst (λ hs. All (λ h. h.number < 2 ^ 64) hs) (sym c.levels.invariant.same ∙ ap (coming c.args.lists.now) e) c.requires.small in
    let t = told-node c.args.lists.now c.in-Some.level (reverse c.pop.new.self.items) c.index-lists-level.result w.0 c.index-lists-level.is c.index-part.result.now (let f = c.if-level-len.true in let n = c.len.ensures in omega (arith, c.index-lists-level.result.ok.0)) c.index-part.ensures c.in-Node.at c.in-Node.symbol c.in-Node.is in
    let p = ap reverse c.in_ok-push.ensures.items ∙ reverse-push c.pop.new.self.items _ in
    let after = subst (λ hs. All (λ h. h.number < 2 ^ 64) hs) t small in
    record {
      earlier = c.requires.earlier;
      within = rw p (w.0, w.1);
      small = rw p (All-tail (λ h. h.number < 2 ^ 64) _ _ after);
    }

pub levels-smaller-in-Continue-branch-3 : goal.levels-smaller-in-Continue-branch-3
levels-smaller-in-Continue-branch-3 c =
    let r : c.reserve.new.self.items ≡ c.levels.levels.items = c.in_ok-reserve.ensures.items in
    let e : reverse c.levels.levels.items ≡ c.in-Some.level ∷ reverse c.pop.new.self.items = ap reverse (sym r ∙ c.in-Some.ensures.items) ∙ reverse-push c.pop.new.self.items c.in-Some.level in
    let w : AreWithin c.args.lists.now (c.in-Some.level ∷ reverse c.pop.new.self.items) = rw e at c.levels.invariant.within in
    let t = told-cost c.args.lists.now c.in-Some.level (reverse c.pop.new.self.items) c.index-lists-level.result w.0 c.index-lists-level.is c.index-part.result.now (let f = c.if-level-len.true in let n = c.len.ensures in omega (arith, c.index-lists-level.result.ok.0)) c.index-part.ensures c.requires.earlier c.in-List.at c.in-List.list c.in-List.is in
    let p = ap reverse c.in_ok-push.ensures.items ∙ reverse-push c.pop.new.self.items _ in
    let q = ap reverse c.in_ok-push-in-List.ensures.items ∙ reverse-push c.push.new.self.items _ in
    rw (e, q, p) t

pub levels-preserved-in-Continue-branch-3 : goal.levels-preserved-in-Continue-branch-3
levels-preserved-in-Continue-branch-3 c =
    let r : c.reserve.new.self.items ≡ c.levels.levels.items = c.in_ok-reserve.ensures.items in
    let e : reverse c.levels.levels.items ≡ c.in-Some.level ∷ reverse c.pop.new.self.items = ap reverse (sym r ∙ c.in-Some.ensures.items) ∙ reverse-push c.pop.new.self.items c.in-Some.level in
    let w : AreWithin c.args.lists.now (c.in-Some.level ∷ reverse c.pop.new.self.items) = rw e at c.levels.invariant.within in
    let lt = list-there c.args.lists.now c.in-Some.level (reverse c.pop.new.self.items) c.index-lists-level.result w.0 c.index-lists-level.is c.index-part.result.now (let f = c.if-level-len.true in let n = c.len.ensures in omega (arith, c.index-lists-level.result.ok.0)) c.index-part.ensures c.requires.earlier c.in-List.at c.in-List.list c.in-List.is in
    let t = told-list c.args.lists.now c.in-Some.level (reverse c.pop.new.self.items) c.index-lists-level.result w.0 c.index-lists-level.is c.index-part.result.now (let f = c.if-level-len.true in let n = c.len.ensures in omega (arith, c.index-lists-level.result.ok.0)) c.index-part.ensures c.requires.earlier c.in-List.at c.in-List.list c.in-List.is in
    let p = ap reverse c.in_ok-push.ensures.items ∙ reverse-push c.pop.new.self.items _ in
    let q = ap reverse c.in_ok-push-in-List.ensures.items ∙ reverse-push c.push.new.self.items _ in
    record {
      same = rw (q, p) (sym t ∙ ap (coming c.args.lists.now) (sym e) ∙ c.levels.invariant.same);
      within = rw (q, p) ((let a = w.0 in omega arith), (w.0, w.1));
    }

pub levels-preserved : goal.levels-preserved
levels-preserved c =
    let r : c.reserve.new.self.items ≡ c.levels.levels.items = c.in_ok-reserve.ensures.items in
    let e : reverse c.levels.levels.items ≡ c.in-Some.level ∷ reverse c.pop.new.self.items = ap reverse (sym r ∙ c.in-Some.ensures.items) ∙ reverse-push c.pop.new.self.items c.in-Some.level in
    let w : AreWithin c.args.lists.now (c.in-Some.level ∷ reverse c.pop.new.self.items) = rw e at c.levels.invariant.within in
    let t = told-all c.args.lists.now c.in-Some.level (reverse c.pop.new.self.items) c.index-lists-level.result w.0 c.index-lists-level.is (let f = c.if-level-len.false in let n = c.len.ensures in omega (arith, c.index-lists-level.result.ok.0)) in
    record { same = sym t ∙ ap (coming c.args.lists.now) (sym e) ∙ c.levels.invariant.same; within = w.1 }
