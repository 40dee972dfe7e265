use Rattle.std.proofs.Common.{◌≡◌, ◌<◌, ◌+◌, ◌-◌, ℕ, List, arith, ap, length, get_or, ◌∷◌, ◌∙◌}
use Rattle.std.specs.Prelude.{vec_capacity}
use Rattle.std.proofs.lemmas.List.{get_or_default}
use Rattle.segment_counts.specs.Counting.{CountTable}
use Rattle.segment_counts.proofs.Cuts.{free-is}
use Rattle.segment_counts.proofs.Forgotten.{copied-kept, copied-range, copied-room, copied-rows, copied-small}
use Rattle.segment_counts.proofs.counts.Counts.push_again.Goals as goal

pub overflow_sub-end : goal.overflow_sub-end
overflow_sub-end c =
    let h : c.args.rule < length c.self.inside.ends.items = omega (arith, c.requires.rule, ap (λ (K : CountTable). K.rules) c.self.view_is) in
    let free = free-is _ _ _ _ _ c.self.invariant c.args.self.now c.self.view_is c.requires.room in
    let from_is : c.start_of-from.result ≡ get_or (0 ∷ c.self.inside.ends.items) c.args.rule 0 = c.start_of-from.ensures ∙ ap (λ (xs : List ℕ). get_or (0 ∷ xs) c.args.rule 0) c.as_slice.ensures.value in
    let to_is : c.index.result.now ≡ get_or c.self.inside.ends.items c.args.rule 0 = c.index.ensures ∙ get_or_default c.self.inside.ends.items c.args.rule c.index.result.now 0 h in
    (copied-range c.self.inside.segments.items c.self.inside.ends.items c.args.rule c.start_of-from.result c.index.result.now _ _ c.self.inside.room c.self.invariant free h from_is to_is).0

pub extend_from_within-requires-clause-start_le_end : goal.extend_from_within-requires-clause-start_le_end
extend_from_within-requires-clause-start_le_end c =
    let h : c.args.rule < length c.self.inside.ends.items = omega (arith, c.requires.rule, ap (λ (K : CountTable). K.rules) c.self.view_is) in
    let free = free-is _ _ _ _ _ c.self.invariant c.args.self.now c.self.view_is c.requires.room in
    let from_is : c.start_of-from.result ≡ get_or (0 ∷ c.self.inside.ends.items) c.args.rule 0 = c.start_of-from.ensures ∙ ap (λ (xs : List ℕ). get_or (0 ∷ xs) c.args.rule 0) c.as_slice.ensures.value in
    let to_is : c.index.result.now ≡ get_or c.self.inside.ends.items c.args.rule 0 = c.index.ensures ∙ get_or_default c.self.inside.ends.items c.args.rule c.index.result.now 0 h in
    (copied-range c.self.inside.segments.items c.self.inside.ends.items c.args.rule c.start_of-from.result c.index.result.now _ _ c.self.inside.room c.self.invariant free h from_is to_is).0

pub extend_from_within-requires-clause-in_bounds : goal.extend_from_within-requires-clause-in_bounds
extend_from_within-requires-clause-in_bounds c =
    let h : c.args.rule < length c.self.inside.ends.items = omega (arith, c.requires.rule, ap (λ (K : CountTable). K.rules) c.self.view_is) in
    let free = free-is _ _ _ _ _ c.self.invariant c.args.self.now c.self.view_is c.requires.room in
    let from_is : c.start_of-from.result ≡ get_or (0 ∷ c.self.inside.ends.items) c.args.rule 0 = c.start_of-from.ensures ∙ ap (λ (xs : List ℕ). get_or (0 ∷ xs) c.args.rule 0) c.as_slice.ensures.value in
    let to_is : c.index.result.now ≡ get_or c.self.inside.ends.items c.args.rule 0 = c.index.ensures ∙ get_or_default c.self.inside.ends.items c.args.rule c.index.result.now 0 h in
    omega (arith, c.self.inside.segments.ok.0, (copied-range c.self.inside.segments.items c.self.inside.ends.items c.args.rule c.start_of-from.result c.index.result.now _ _ c.self.inside.room c.self.invariant free h from_is to_is).1)

pub unwrap-requires : goal.unwrap-requires
unwrap-requires c =
    let h : c.args.rule < length c.self.inside.ends.items = omega (arith, c.requires.rule, ap (λ (K : CountTable). K.rules) c.self.view_is) in
    let free = free-is _ _ _ _ _ c.self.invariant c.args.self.now c.self.view_is c.requires.room in
    let from_is : c.start_of-from.result ≡ get_or (0 ∷ c.self.inside.ends.items) c.args.rule 0 = c.start_of-from.ensures ∙ ap (λ (xs : List ℕ). get_or (0 ∷ xs) c.args.rule 0) c.as_slice.ensures.value in
    let to_is : c.index.result.now ≡ get_or c.self.inside.ends.items c.args.rule 0 = c.index.ensures ∙ get_or_default c.self.inside.ends.items c.args.rule c.index.result.now 0 h in
    c.extend_from_within.ensures.succeeds (omega (arith, c.self.inside.segments.ok.0, copied-room c.self.inside.segments.items c.self.inside.ends.items c.args.rule c.start_of-from.result c.index.result.now _ _ c.self.inside.room c.self.invariant free h from_is to_is))

pub overflow_cast-end : goal.overflow_cast-end
overflow_cast-end c =
    let h : c.args.rule < length c.self.inside.ends.items = omega (arith, c.requires.rule, ap (λ (K : CountTable). K.rules) c.self.view_is) in
    let free = free-is _ _ _ _ _ c.self.invariant c.args.self.now c.self.view_is c.requires.room in
    let from_is : c.start_of-from.result ≡ get_or (0 ∷ c.self.inside.ends.items) c.args.rule 0 = c.start_of-from.ensures ∙ ap (λ (xs : List ℕ). get_or (0 ∷ xs) c.args.rule 0) c.as_slice.ensures.value in
    let to_is : c.index.result.now ≡ get_or c.self.inside.ends.items c.args.rule 0 = c.index.ensures ∙ get_or_default c.self.inside.ends.items c.args.rule c.index.result.now 0 h in
    omega (arith, ap length c.as_slice-2.ensures.value, copied-small c.self.inside.segments.items c.self.inside.ends.items c.args.rule c.start_of-from.result c.index.result.now _ _ c.self.inside.room c.self.invariant free h from_is to_is)

pub push_reserved-requires : goal.push_reserved-requires
push_reserved-requires c =
    let h : c.args.rule < length c.self.inside.ends.items = omega (arith, c.requires.rule, ap (λ (K : CountTable). K.rules) c.self.view_is) in
    let free = free-is _ _ _ _ _ c.self.invariant c.args.self.now c.self.view_is c.requires.room in
    let from_is : c.start_of-from.result ≡ get_or (0 ∷ c.self.inside.ends.items) c.args.rule 0 = c.start_of-from.ensures ∙ ap (λ (xs : List ℕ). get_or (0 ∷ xs) c.args.rule 0) c.as_slice.ensures.value in
    let to_is : c.index.result.now ≡ get_or c.self.inside.ends.items c.args.rule 0 = c.index.ensures ∙ get_or_default c.self.inside.ends.items c.args.rule c.index.result.now 0 h in
    omega (arith, c.self.inside.ends.ok.0, c.self.invariant.end_places, free)

pub invariant_of-self : goal.invariant_of-self
invariant_of-self c =
    let h : c.args.rule < length c.self.inside.ends.items = omega (arith, c.requires.rule, ap (λ (K : CountTable). K.rules) c.self.view_is) in
    let free = free-is _ _ _ _ _ c.self.invariant c.args.self.now c.self.view_is c.requires.room in
    let from_is : c.start_of-from.result ≡ get_or (0 ∷ c.self.inside.ends.items) c.args.rule 0 = c.start_of-from.ensures ∙ ap (λ (xs : List ℕ). get_or (0 ∷ xs) c.args.rule 0) c.as_slice.ensures.value in
    let to_is : c.index.result.now ≡ get_or c.self.inside.ends.items c.args.rule 0 = c.index.ensures ∙ get_or_default c.self.inside.ends.items c.args.rule c.index.result.now 0 h in
    copied-kept c.self.inside.segments.items c.self.inside.ends.items c.args.rule c.start_of-from.result c.index.result.now _ _ c.self.inside.room c.self.invariant free h from_is to_is _ _ (length c.as_slice-2.result.now + (c.index.result.now - c.start_of-from.result)) _ (vec_capacity c.push_reserved.new.self) (rw c.unwrap.ensures at c.extend_from_within.ensures.items) (omega (arith, ap length c.as_slice-2.ensures.value)) c.push_reserved.ensures.items c.extend_from_within.ensures.capacity (omega (arith, c.push_reserved.ensures.capacity))

pub returns-clause-rows : goal.returns-clause-rows
returns-clause-rows c =
    let h : c.args.rule < length c.self.inside.ends.items = omega (arith, c.requires.rule, ap (λ (K : CountTable). K.rules) c.self.view_is) in
    let free = free-is _ _ _ _ _ c.self.invariant c.args.self.now c.self.view_is c.requires.room in
    let from_is : c.start_of-from.result ≡ get_or (0 ∷ c.self.inside.ends.items) c.args.rule 0 = c.start_of-from.ensures ∙ ap (λ (xs : List ℕ). get_or (0 ∷ xs) c.args.rule 0) c.as_slice.ensures.value in
    let to_is : c.index.result.now ≡ get_or c.self.inside.ends.items c.args.rule 0 = c.index.ensures ∙ get_or_default c.self.inside.ends.items c.args.rule c.index.result.now 0 h in
    copied-rows c.self.inside.segments.items c.self.inside.ends.items c.args.rule c.start_of-from.result c.index.result.now _ _ c.self.inside.room c.self.invariant free h from_is to_is _ _ (length c.as_slice-2.result.now + (c.index.result.now - c.start_of-from.result)) _ (vec_capacity c.push_reserved.new.self) (rw c.unwrap.ensures at c.extend_from_within.ensures.items) (omega (arith, ap length c.as_slice-2.ensures.value)) c.push_reserved.ensures.items c.extend_from_within.ensures.capacity (omega (arith, c.push_reserved.ensures.capacity)) c.args.self.now c.self.view_is
