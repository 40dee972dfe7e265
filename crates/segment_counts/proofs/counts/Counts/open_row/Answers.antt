use Rattle.std.proofs.Common.{◌≡◌, ◌<◌, ◌≤◌, ℕ, List, arith, ap, length, get_or, ◌∷◌, ◌∙◌}
use Rattle.segment_counts.specs.Counting.{CountTable}
use Rattle.segment_counts.proofs.Cuts.{cut-narrow, free-is, room-is, table-length}
use Rattle.segment_counts.proofs.RowMoves.{opened-length, opened-room, opened-rows, start-within}
use Rattle.segment_counts.proofs.counts.Counts.open_row.Goals as goal

pub overflow_cast-start : goal.overflow_cast-start
overflow_cast-start c =
    let h : c.args.place ≤ length c.self.inside.ends.items = omega (arith, c.requires.place, ap (λ (K : CountTable). K.rules) c.self.view_is) in
    let free : length c.self.inside.ends.items < c.self.inside.room = free-is _ _ _ _ _ c.self.invariant c.args.self.now c.self.view_is c.requires.room in
    let start_is : c.start_of-start.result ≡ get_or (0 ∷ c.self.inside.ends.items) c.args.place 0 = c.start_of-start.ensures ∙ ap (λ (xs : List ℕ). get_or (0 ∷ xs) c.args.place 0) c.as_slice.ensures.value in
    omega (arith, start_is, start-within c.self.inside.segments.items 0 c.self.inside.ends.items c.args.place c.self.invariant.cut (omega arith) h, cut-narrow _ _ _ c.self.invariant.cut, c.self.invariant.within, c.self.invariant.small)

pub unwrap-requires : goal.unwrap-requires
unwrap-requires c =
    let h : c.args.place ≤ length c.self.inside.ends.items = omega (arith, c.requires.place, ap (λ (K : CountTable). K.rules) c.self.view_is) in
    let free : length c.self.inside.ends.items < c.self.inside.room = free-is _ _ _ _ _ c.self.invariant c.args.self.now c.self.view_is c.requires.room in
    let start_is : c.start_of-start.result ≡ get_or (0 ∷ c.self.inside.ends.items) c.args.place 0 = c.start_of-start.ensures ∙ ap (λ (xs : List ℕ). get_or (0 ∷ xs) c.args.place 0) c.as_slice.ensures.value in
    c.insert.ensures.succeeds (omega (arith, c.self.inside.ends.ok.0, c.self.invariant.end_places, free))

pub invariant_of-self : goal.invariant_of-self
invariant_of-self c =
    let h : c.args.place ≤ length c.self.inside.ends.items = omega (arith, c.requires.place, ap (λ (K : CountTable). K.rules) c.self.view_is) in
    let free : length c.self.inside.ends.items < c.self.inside.room = free-is _ _ _ _ _ c.self.invariant c.args.self.now c.self.view_is c.requires.room in
    let start_is : c.start_of-start.result ≡ get_or (0 ∷ c.self.inside.ends.items) c.args.place 0 = c.start_of-start.ensures ∙ ap (λ (xs : List ℕ). get_or (0 ∷ xs) c.args.place 0) c.as_slice.ensures.value in
    rw (rw c.unwrap.ensures at c.insert.ensures.items) (opened-room c.self.inside.segments.items c.self.inside.ends.items c.args.place c.start_of-start.result _ _ c.self.inside.room c.self.invariant free h start_is _ c.insert.ensures.capacity)

pub returns-clause-rows : goal.returns-clause-rows
returns-clause-rows c =
    let h : c.args.place ≤ length c.self.inside.ends.items = omega (arith, c.requires.place, ap (λ (K : CountTable). K.rules) c.self.view_is) in
    let free : length c.self.inside.ends.items < c.self.inside.room = free-is _ _ _ _ _ c.self.invariant c.args.self.now c.self.view_is c.requires.room in
    let start_is : c.start_of-start.result ≡ get_or (0 ∷ c.self.inside.ends.items) c.args.place 0 = c.start_of-start.ensures ∙ ap (λ (xs : List ℕ). get_or (0 ∷ xs) c.args.place 0) c.as_slice.ensures.value in
    rw (rw c.unwrap.ensures at c.insert.ensures.items) (opened-rows c.self.inside.segments.items c.self.inside.ends.items c.args.place c.start_of-start.result _ _ c.self.inside.room c.self.invariant free h start_is c.args.self.now c.self.view_is)

pub returns-clause-room : goal.returns-clause-room
returns-clause-room c =
    let h : c.args.place ≤ length c.self.inside.ends.items = omega (arith, c.requires.place, ap (λ (K : CountTable). K.rules) c.self.view_is) in
    let free : length c.self.inside.ends.items < c.self.inside.room = free-is _ _ _ _ _ c.self.invariant c.args.self.now c.self.view_is c.requires.room in
    let start_is : c.start_of-start.result ≡ get_or (0 ∷ c.self.inside.ends.items) c.args.place 0 = c.start_of-start.ensures ∙ ap (λ (xs : List ℕ). get_or (0 ∷ xs) c.args.place 0) c.as_slice.ensures.value in
    rw (rw c.unwrap.ensures at c.insert.ensures.items) (table-length c.self.inside.segments.items _ c.self.inside.room (omega (arith, opened-length c.self.inside.segments.items c.self.inside.ends.items c.args.place c.start_of-start.result _ _ c.self.inside.room c.self.invariant free h start_is, free)) ∙ room-is _ _ _ _ _ c.self.invariant c.args.self.now c.self.view_is)

pub returns-clause-rules : goal.returns-clause-rules
returns-clause-rules c =
    let h : c.args.place ≤ length c.self.inside.ends.items = omega (arith, c.requires.place, ap (λ (K : CountTable). K.rules) c.self.view_is) in
    let free : length c.self.inside.ends.items < c.self.inside.room = free-is _ _ _ _ _ c.self.invariant c.args.self.now c.self.view_is c.requires.room in
    let start_is : c.start_of-start.result ≡ get_or (0 ∷ c.self.inside.ends.items) c.args.place 0 = c.start_of-start.ensures ∙ ap (λ (xs : List ℕ). get_or (0 ∷ xs) c.args.place 0) c.as_slice.ensures.value in
    rw (rw c.unwrap.ensures at c.insert.ensures.items) (omega (arith, opened-length c.self.inside.segments.items c.self.inside.ends.items c.args.place c.start_of-start.result _ _ c.self.inside.room c.self.invariant free h start_is, ap (λ (K : CountTable). K.rules) c.self.view_is))
