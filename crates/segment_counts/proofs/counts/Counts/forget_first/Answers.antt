use Rattle.std.proofs.Common.{◌≡◌, ◌≤◌, ℕ, List, arith, ap, length, get_or, drop, ◌∷◌, ◌∙◌}
use Rattle.segment_counts.specs.Counting.{CountTable}
use Rattle.segment_counts.proofs.Cuts.{room-is, table-length}
use Rattle.segment_counts.proofs.Forgotten.{end-within, left-kept, left-length, left-rows, rest-fit}
use Rattle.segment_counts.proofs.counts.Counts.forget_first.Goals as goal

pub keep_from-requires : goal.keep_from-requires
keep_from-requires c =
    let h : c.args.rules ≤ length c.self.inside.ends.items = omega (arith, c.requires, ap (λ (K : CountTable). K.rules) c.self.view_is) in
    let end_is : c.start_of-end.result ≡ get_or (0 ∷ c.self.inside.ends.items) c.args.rules 0 = c.start_of-end.ensures ∙ ap (λ (xs : List ℕ). get_or (0 ∷ xs) c.args.rules 0) c.as_slice.ensures.value in
    (end-within c.self.inside.segments.items c.self.inside.ends.items c.args.rules c.start_of-end.result _ _ c.self.inside.room c.self.invariant h end_is)

pub move_ends-requires-clause-fit : goal.move_ends-requires-clause-fit
move_ends-requires-clause-fit c =
    let h : c.args.rules ≤ length c.self.inside.ends.items = omega (arith, c.requires, ap (λ (K : CountTable). K.rules) c.self.view_is) in
    let end_is : c.start_of-end.result ≡ get_or (0 ∷ c.self.inside.ends.items) c.args.rules 0 = c.start_of-end.ensures ∙ ap (λ (xs : List ℕ). get_or (0 ∷ xs) c.args.rules 0) c.as_slice.ensures.value in
    let rest : c.keep_from-2.new.items.items ≡ drop c.args.rules c.self.inside.ends.items = c.keep_from-2.ensures.items in
    rw rest (rest-fit c.self.inside.segments.items c.self.inside.ends.items c.args.rules c.start_of-end.result _ _ c.self.inside.room c.self.invariant h end_is)

pub invariant_of-self : goal.invariant_of-self
invariant_of-self c =
    let h : c.args.rules ≤ length c.self.inside.ends.items = omega (arith, c.requires, ap (λ (K : CountTable). K.rules) c.self.view_is) in
    let end_is : c.start_of-end.result ≡ get_or (0 ∷ c.self.inside.ends.items) c.args.rules 0 = c.start_of-end.ensures ∙ ap (λ (xs : List ℕ). get_or (0 ∷ xs) c.args.rules 0) c.as_slice.ensures.value in
    let cut : c.keep_from.new.items.items ≡ drop c.start_of-end.result c.self.inside.segments.items = c.keep_from.ensures.items in
    let rest : c.keep_from-2.new.items.items ≡ drop c.args.rules c.self.inside.ends.items = c.keep_from-2.ensures.items in
    rw (cut, rw rest at c.move_ends.ensures.items) (left-kept c.self.inside.segments.items c.self.inside.ends.items c.args.rules c.start_of-end.result _ _ c.self.inside.room c.self.invariant h end_is _ _ (omega (arith, c.keep_from.ensures.capacity)) (omega (arith, c.move_ends.ensures.capacity, c.keep_from-2.ensures.capacity)))

pub returns-clause-rows : goal.returns-clause-rows
returns-clause-rows c =
    let h : c.args.rules ≤ length c.self.inside.ends.items = omega (arith, c.requires, ap (λ (K : CountTable). K.rules) c.self.view_is) in
    let end_is : c.start_of-end.result ≡ get_or (0 ∷ c.self.inside.ends.items) c.args.rules 0 = c.start_of-end.ensures ∙ ap (λ (xs : List ℕ). get_or (0 ∷ xs) c.args.rules 0) c.as_slice.ensures.value in
    let cut : c.keep_from.new.items.items ≡ drop c.start_of-end.result c.self.inside.segments.items = c.keep_from.ensures.items in
    let rest : c.keep_from-2.new.items.items ≡ drop c.args.rules c.self.inside.ends.items = c.keep_from-2.ensures.items in
    rw (cut, rw rest at c.move_ends.ensures.items) (left-rows c.self.inside.segments.items c.self.inside.ends.items c.args.rules c.start_of-end.result _ _ c.self.inside.room c.self.invariant h end_is c.args.self.now c.self.view_is)

pub returns-clause-rules : goal.returns-clause-rules
returns-clause-rules c =
    let h : c.args.rules ≤ length c.self.inside.ends.items = omega (arith, c.requires, ap (λ (K : CountTable). K.rules) c.self.view_is) in
    let end_is : c.start_of-end.result ≡ get_or (0 ∷ c.self.inside.ends.items) c.args.rules 0 = c.start_of-end.ensures ∙ ap (λ (xs : List ℕ). get_or (0 ∷ xs) c.args.rules 0) c.as_slice.ensures.value in
    let cut : c.keep_from.new.items.items ≡ drop c.start_of-end.result c.self.inside.segments.items = c.keep_from.ensures.items in
    let rest : c.keep_from-2.new.items.items ≡ drop c.args.rules c.self.inside.ends.items = c.keep_from-2.ensures.items in
    rw (rw rest at c.move_ends.ensures.items) (omega (arith, left-length c.self.inside.segments.items c.self.inside.ends.items c.args.rules c.start_of-end.result _ _ c.self.inside.room c.self.invariant h end_is, h, ap (λ (K : CountTable). K.rules) c.self.view_is))

pub returns-clause-room : goal.returns-clause-room
returns-clause-room c =
    let h : c.args.rules ≤ length c.self.inside.ends.items = omega (arith, c.requires, ap (λ (K : CountTable). K.rules) c.self.view_is) in
    let end_is : c.start_of-end.result ≡ get_or (0 ∷ c.self.inside.ends.items) c.args.rules 0 = c.start_of-end.ensures ∙ ap (λ (xs : List ℕ). get_or (0 ∷ xs) c.args.rules 0) c.as_slice.ensures.value in
    let cut : c.keep_from.new.items.items ≡ drop c.start_of-end.result c.self.inside.segments.items = c.keep_from.ensures.items in
    let rest : c.keep_from-2.new.items.items ≡ drop c.args.rules c.self.inside.ends.items = c.keep_from-2.ensures.items in
    rw (cut, rw rest at c.move_ends.ensures.items) (table-length _ _ c.self.inside.room (omega (arith, left-length c.self.inside.segments.items c.self.inside.ends.items c.args.rules c.start_of-end.result _ _ c.self.inside.room c.self.invariant h end_is, c.self.invariant.within)) ∙ room-is _ _ _ _ _ c.self.invariant c.args.self.now c.self.view_is)
