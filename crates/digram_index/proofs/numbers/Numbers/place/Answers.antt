use Rattle.std.proofs.Common.{◌<◌, ℕ, List, length, get_or, arith, ap, ◌∙◌}
use Rattle.slt_grammar.proofs.Orders.{get-any}
use Rattle.digram_index.proofs.NumberLemmas.{number-back, told-place}
use Rattle.digram_index.proofs.numbers.Numbers.place.Goals as goal

pub returns-then-place-len-clause-none : goal.returns-then-place-len-clause-none
returns-then-place-len-clause-none c = rw (← c.self.view_is) (λ h.
    let t = told-place c.self.inside.numbers.items c.self.inside.places.items c.args.number c.self.invariant.told h in
    let v = c.number_at-place.ensures ∙ ap (λ (xs : List ℕ). get_or xs c.args.number 0) c.as_slice.ensures.value ∙ t in
    omega arith)

pub returns-then-index-number-clause-none : goal.returns-then-index-number-clause-none
returns-then-index-number-clause-none c = rw (← c.self.view_is) (λ h.
    let t = told-place c.self.inside.numbers.items c.self.inside.places.items c.args.number c.self.invariant.told h in
    let v = c.number_at-place.ensures ∙ ap (λ (xs : List ℕ). get_or xs c.args.number 0) c.as_slice.ensures.value ∙ t in
    let b = number-back c.self.inside.numbers.items c.args.number h in
    let l : c.number_at-place.result < length c.self.inside.numbers.items = omega arith in
    let e = c.index.ensures ∙ get-any c.self.inside.numbers.items c.number_at-place.result c.index.result.now 0 l ∙ ap (λ (p : ℕ). get_or c.self.inside.numbers.items p 0) v ∙ b in
    c.if-index-number.true e)
