use Rattle.std.proofs.Common.{◌≡◌, ◌<◌, ℕ, List, arith, ap, length, get_or, ◌∷◌, ◌∙◌}
use Rattle.std.proofs.lemmas.List.{get_or_default}
use Rattle.segment_counts.specs.Counting.{CountTable}
use Rattle.segment_counts.proofs.Rows.{length-row}
use Rattle.segment_counts.proofs.RowMoves.{ends-fit, row-range, row-room, set-room, set-rows, set-rules}
use Rattle.segment_counts.proofs.counts.Counts.set_row.Goals as goal

pub put_between-requires-clause-start : goal.put_between-requires-clause-start
put_between-requires-clause-start c =
    let h : c.args.rule < length c.self.inside.ends.items = omega (arith, c.requires.rule, ap (λ (K : CountTable). K.rules) c.self.view_is) in
    let from_is : c.start_of-from.result ≡ get_or (0 ∷ c.self.inside.ends.items) c.args.rule 0 = c.start_of-from.ensures ∙ ap (λ (xs : List ℕ). get_or (0 ∷ xs) c.args.rule 0) c.as_slice.ensures.value in
    let to_is : c.index.result.now ≡ get_or c.self.inside.ends.items c.args.rule 0 = c.index.ensures ∙ get_or_default c.self.inside.ends.items c.args.rule c.index.result.now 0 h in
    (row-range c.self.inside.segments.items c.args.row.now c.self.inside.ends.items c.args.rule c.start_of-from.result c.index.result.now _ _ c.self.inside.room c.self.invariant h c.requires.width from_is to_is).0

pub put_between-requires-clause-end : goal.put_between-requires-clause-end
put_between-requires-clause-end c =
    let h : c.args.rule < length c.self.inside.ends.items = omega (arith, c.requires.rule, ap (λ (K : CountTable). K.rules) c.self.view_is) in
    let from_is : c.start_of-from.result ≡ get_or (0 ∷ c.self.inside.ends.items) c.args.rule 0 = c.start_of-from.ensures ∙ ap (λ (xs : List ℕ). get_or (0 ∷ xs) c.args.rule 0) c.as_slice.ensures.value in
    let to_is : c.index.result.now ≡ get_or c.self.inside.ends.items c.args.rule 0 = c.index.ensures ∙ get_or_default c.self.inside.ends.items c.args.rule c.index.result.now 0 h in
    (row-range c.self.inside.segments.items c.args.row.now c.self.inside.ends.items c.args.rule c.start_of-from.result c.index.result.now _ _ c.self.inside.room c.self.invariant h c.requires.width from_is to_is).1

pub put_between-requires-clause-room : goal.put_between-requires-clause-room
put_between-requires-clause-room c =
    let h : c.args.rule < length c.self.inside.ends.items = omega (arith, c.requires.rule, ap (λ (K : CountTable). K.rules) c.self.view_is) in
    let from_is : c.start_of-from.result ≡ get_or (0 ∷ c.self.inside.ends.items) c.args.rule 0 = c.start_of-from.ensures ∙ ap (λ (xs : List ℕ). get_or (0 ∷ xs) c.args.rule 0) c.as_slice.ensures.value in
    let to_is : c.index.result.now ≡ get_or c.self.inside.ends.items c.args.rule 0 = c.index.ensures ∙ get_or_default c.self.inside.ends.items c.args.rule c.index.result.now 0 h in
    row-room c.self.inside.segments.items c.args.row.now c.self.inside.ends.items c.args.rule c.start_of-from.result c.index.result.now _ _ c.self.inside.room c.self.invariant h c.requires.width from_is to_is

pub overflow_add-from : goal.overflow_add-from
overflow_add-from c =
    let h : c.args.rule < length c.self.inside.ends.items = omega (arith, c.requires.rule, ap (λ (K : CountTable). K.rules) c.self.view_is) in
    let from_is : c.start_of-from.result ≡ get_or (0 ∷ c.self.inside.ends.items) c.args.rule 0 = c.start_of-from.ensures ∙ ap (λ (xs : List ℕ). get_or (0 ∷ xs) c.args.rule 0) c.as_slice.ensures.value in
    let to_is : c.index.result.now ≡ get_or c.self.inside.ends.items c.args.rule 0 = c.index.ensures ∙ get_or_default c.self.inside.ends.items c.args.rule c.index.result.now 0 h in
    let w = row-range c.self.inside.segments.items c.args.row.now c.self.inside.ends.items c.args.rule c.start_of-from.result c.index.result.now _ _ c.self.inside.room c.self.invariant h c.requires.width from_is to_is in omega (arith, w.0, w.1, c.requires.width, row-room c.self.inside.segments.items c.args.row.now c.self.inside.ends.items c.args.rule c.start_of-from.result c.index.result.now _ _ c.self.inside.room c.self.invariant h c.requires.width from_is to_is, c.self.inside.segments.ok.0)

pub move_ends-requires-clause-fit : goal.move_ends-requires-clause-fit
move_ends-requires-clause-fit c =
    let h : c.args.rule < length c.self.inside.ends.items = omega (arith, c.requires.rule, ap (λ (K : CountTable). K.rules) c.self.view_is) in
    let from_is : c.start_of-from.result ≡ get_or (0 ∷ c.self.inside.ends.items) c.args.rule 0 = c.start_of-from.ensures ∙ ap (λ (xs : List ℕ). get_or (0 ∷ xs) c.args.rule 0) c.as_slice.ensures.value in
    let to_is : c.index.result.now ≡ get_or c.self.inside.ends.items c.args.rule 0 = c.index.ensures ∙ get_or_default c.self.inside.ends.items c.args.rule c.index.result.now 0 h in
    ends-fit c.self.inside.segments.items c.args.row.now c.self.inside.ends.items c.args.rule c.start_of-from.result c.index.result.now _ _ c.self.inside.room c.self.invariant h c.requires.width from_is to_is

pub invariant_of-self : goal.invariant_of-self
invariant_of-self c =
    let h : c.args.rule < length c.self.inside.ends.items = omega (arith, c.requires.rule, ap (λ (K : CountTable). K.rules) c.self.view_is) in
    let from_is : c.start_of-from.result ≡ get_or (0 ∷ c.self.inside.ends.items) c.args.rule 0 = c.start_of-from.ensures ∙ ap (λ (xs : List ℕ). get_or (0 ∷ xs) c.args.rule 0) c.as_slice.ensures.value in
    let to_is : c.index.result.now ≡ get_or c.self.inside.ends.items c.args.rule 0 = c.index.ensures ∙ get_or_default c.self.inside.ends.items c.args.rule c.index.result.now 0 h in
    rw (c.put_between.ensures.items, c.move_ends.ensures.items) (set-room c.self.inside.segments.items c.args.row.now c.self.inside.ends.items c.args.rule c.start_of-from.result c.index.result.now _ _ c.self.inside.room c.self.invariant h c.requires.width from_is to_is _ _ c.put_between.ensures.capacity (omega (arith, c.move_ends.ensures.capacity)))

pub returns-clause-rows : goal.returns-clause-rows
returns-clause-rows c =
    let h : c.args.rule < length c.self.inside.ends.items = omega (arith, c.requires.rule, ap (λ (K : CountTable). K.rules) c.self.view_is) in
    let from_is : c.start_of-from.result ≡ get_or (0 ∷ c.self.inside.ends.items) c.args.rule 0 = c.start_of-from.ensures ∙ ap (λ (xs : List ℕ). get_or (0 ∷ xs) c.args.rule 0) c.as_slice.ensures.value in
    let to_is : c.index.result.now ≡ get_or c.self.inside.ends.items c.args.rule 0 = c.index.ensures ∙ get_or_default c.self.inside.ends.items c.args.rule c.index.result.now 0 h in
    rw (c.put_between.ensures.items, c.move_ends.ensures.items) (set-rows c.self.inside.segments.items c.args.row.now c.self.inside.ends.items c.args.rule c.start_of-from.result c.index.result.now _ _ c.self.inside.room c.self.invariant h c.requires.width from_is to_is c.args.self.now c.self.view_is)

pub returns-clause-room : goal.returns-clause-room
returns-clause-room c =
    let h : c.args.rule < length c.self.inside.ends.items = omega (arith, c.requires.rule, ap (λ (K : CountTable). K.rules) c.self.view_is) in
    let from_is : c.start_of-from.result ≡ get_or (0 ∷ c.self.inside.ends.items) c.args.rule 0 = c.start_of-from.ensures ∙ ap (λ (xs : List ℕ). get_or (0 ∷ xs) c.args.rule 0) c.as_slice.ensures.value in
    let to_is : c.index.result.now ≡ get_or c.self.inside.ends.items c.args.rule 0 = c.index.ensures ∙ get_or_default c.self.inside.ends.items c.args.rule c.index.result.now 0 h in
    ap length (rw (c.put_between.ensures.items, c.move_ends.ensures.items) (set-rows c.self.inside.segments.items c.args.row.now c.self.inside.ends.items c.args.rule c.start_of-from.result c.index.result.now _ _ c.self.inside.room c.self.invariant h c.requires.width from_is to_is c.args.self.now c.self.view_is)) ∙ length-row c.args.self.now.rows c.args.rule c.args.row.now

pub returns-clause-rules : goal.returns-clause-rules
returns-clause-rules c =
    let h : c.args.rule < length c.self.inside.ends.items = omega (arith, c.requires.rule, ap (λ (K : CountTable). K.rules) c.self.view_is) in
    let from_is : c.start_of-from.result ≡ get_or (0 ∷ c.self.inside.ends.items) c.args.rule 0 = c.start_of-from.ensures ∙ ap (λ (xs : List ℕ). get_or (0 ∷ xs) c.args.rule 0) c.as_slice.ensures.value in
    let to_is : c.index.result.now ≡ get_or c.self.inside.ends.items c.args.rule 0 = c.index.ensures ∙ get_or_default c.self.inside.ends.items c.args.rule c.index.result.now 0 h in
    rw c.move_ends.ensures.items (set-rules c.self.inside.segments.items c.args.row.now c.self.inside.ends.items c.args.rule c.start_of-from.result c.index.result.now _ _ c.self.inside.room c.self.invariant h c.requires.width from_is to_is c.args.self.now c.self.view_is)
