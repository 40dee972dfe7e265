use Rattle.std.proofs.Common.{◌≡◌, ◌∙◌, ◌++◌, ◌∷◌, [], length, refl, sym, ap, subst, arith}
use Rattle.rule_runs.specs.declared.index.TheConstants.{FEW}
use Rattle.rule_runs.specs.declared.memo.Pair.{Pair}
use Rattle.rule_runs.specs.Entries.{are_equal, entries_of, IsMemo}
use Rattle.rule_runs.specs.Tables.{IsFound}
use Rattle.rule_runs.proofs.Entries.{entries-push, memo-named, memo-grows, memo-push}
use Rattle.rule_runs.proofs.memo.Memo.note.Goals as goal

pub invariant_of-self : goal.invariant_of-self
invariant_of-self g c =
    let self = c.self.inside in
    memo-named g.S.PartialEq.eq g.met.S.RunState.identical FEW self.arguments.items self.entries.items self.index.first.items self.index.others.entries c.self.invariant c.name.new.self.first.items c.name.new.self.others.entries c.args.self.now c.args.pair.now
    c.self.view_is c.requires c.in_err-name.ensures.keeps

pub invariant_of-self-in_err-append : goal.invariant_of-self-in_err-append
invariant_of-self-in_err-append g c =
    let self = c.self.inside in
    let states = self.arguments.items in
    let named = memo-named g.S.PartialEq.eq g.met.S.RunState.identical FEW states self.entries.items self.index.first.items self.index.others.entries c.self.invariant c.name.new.self.first.items c.name.new.self.others.entries c.args.self.now c.args.pair.now
    c.self.view_is c.requires c.in_ok-name.ensures.keeps in
    subst (λ xs. IsMemo g.S.PartialEq.eq FEW xs self.entries.items c.name.new.self.first.items c.name.new.self.others.entries) (sym c.in_err-append.ensures.items) named

pub invariant_of-self-in_err-arguments : goal.invariant_of-self-in_err-arguments
invariant_of-self-in_err-arguments g c =
    let self = c.self.inside in
    let states = self.arguments.items in
    let first = c.name.new.self.first.items in
    let others = c.name.new.self.others.entries in
    let named = memo-named g.S.PartialEq.eq g.met.S.RunState.identical FEW states self.entries.items self.index.first.items self.index.others.entries c.self.invariant first others c.args.self.now c.args.pair.now
    c.self.view_is c.requires c.in_ok-name.ensures.keeps in
    memo-grows g.S.PartialEq.eq g.met.S.RunState.identical FEW states self.entries.items first others named c.append.new.self.items c.args.pair.now.states.items c.in_ok-append.ensures.items

pub invariant_of-self-in_err-push : goal.invariant_of-self-in_err-push
invariant_of-self-in_err-push g c =
    let self = c.self.inside in
    let states = self.arguments.items in
    let first = c.name.new.self.first.items in
    let others = c.name.new.self.others.entries in
    let named = memo-named g.S.PartialEq.eq g.met.S.RunState.identical FEW states self.entries.items self.index.first.items self.index.others.entries c.self.invariant first others c.args.self.now c.args.pair.now
    c.self.view_is c.requires c.in_ok-name.ensures.keeps in
    let grown = memo-grows g.S.PartialEq.eq g.met.S.RunState.identical FEW states self.entries.items first others named c.append.new.self.items c.args.pair.now.states.items c.in_ok-append.ensures.items in
    subst (λ es. IsMemo g.S.PartialEq.eq FEW c.append.new.self.items es first others) (sym c.in_err-push.ensures.items) grown

pub invariant_of-self-2 : goal.invariant_of-self-2
invariant_of-self-2 g c =
    let self = c.self.inside in
    let states = self.arguments.items in
    let es = self.entries.items in
    let first = c.name.new.self.first.items in
    let others = c.name.new.self.others.entries in
    let pair = c.args.pair.now in
    let named = memo-named g.S.PartialEq.eq g.met.S.RunState.identical FEW states es self.index.first.items self.index.others.entries c.self.invariant first others c.args.self.now pair c.self.view_is c.requires c.in_ok-name.ensures.keeps in
    let n : c.len.result ≡ length es = omega (arith, c.len.ensures, self.entries.ok.0) in
    let found = subst (λ place. IsFound (are_equal g.S.PartialEq.eq) (λ (p : Pair _). p.rule) FEW first others place pair) n c.in_ok-name.ensures.found in
    subst (λ es. IsMemo g.S.PartialEq.eq FEW c.append.new.self.items es first others) (sym c.in_ok-push.ensures.items)
    (memo-push g.S.PartialEq.eq g.met.S.RunState.identical FEW states es first others named g.met.S.Eq.laws.refl c.append.new.self.items pair _ c.in_ok-append.ensures.items refl (omega (arith, c.in_ok-arguments.ensures.begin, c.len-begin.ensures, self.arguments.ok.0)) (omega (arith, c.in_ok-arguments.ensures.end, c.len-2.ensures, c.append.new.self.ok.0)) found)

pub returns : goal.returns
returns g c =
    let self = c.self.inside in
    let pair = c.args.pair.now in
    let states = self.arguments.items in
    record {
      ok =
          ap (entries_of c.append.new.self.items) c.in_ok-push.ensures.items
          ∙ entries-push states pair.states.items c.append.new.self.items self.entries.items _ c.self.invariant.within c.in_ok-append.ensures.items (omega (arith, c.in_ok-arguments.ensures.begin, c.len-begin.ensures, self.arguments.ok.0)) (omega (arith, c.in_ok-arguments.ensures.end, c.len-2.ensures, c.append.new.self.ok.0))
          ∙ ap (λ known. known ++ ((pair.rule, pair.states.items), c.args.state) ∷ []) c.self.view_is;
    }
