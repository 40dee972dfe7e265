-- How few nodes a run reads over rules of which those of marked instances are apart.
use Rattle.std.proofs.Common.{◌≡◌, ℕ, ◌+◌, ◌*◌, ◌^◌, ◌<◌, ◌≤◌, Bool, true, false, if◌then◌else◌, List, [], length, All, Some, slice_get, refl, sym, ap, subst, ◌∙◌, arith, ◌⊎◌, inl, inr}
use Rattle.std.proofs.lemmas.List.Elements.{All-weaker}
use Rattle.std.proofs.Math.Nat.{mul-le-mul_left}
use Rattle.plain_tree.specs.declared.kind.Kind.{Kind}
use Rattle.rule_arena.specs.declared.label.Label.TheVariants.{Bottom, Call}
use Rattle.slt_grammar.specs.Algebras.{Algebra}
use Rattle.slt_grammar.specs.Grammars.{body_at, rank_at, whole}
use Rattle.slt_grammar.specs.Ranks.{greatest_rank}
use Rattle.slt_grammar.specs.declared.rules.Rule.{Rule}
use Rattle.slt_grammar.proofs.RuleMeanings.{call-earlier}
use Rattle.rule_runs.specs.Reached.{RuleStates, Uses, at_start, at_call, argument_states, ReadsOnce}
use Rattle.rule_runs.proofs.Lists.{slice_get-at}
use Rattle.value_tests.specs.Isolated.{sum_below, IsIsolated}
use Rattle.value_tests.specs.MarkedInstances.{marked_nodes}
use Rattle.value_runs.specs.States.{HasUpStates}
use Rattle.value_tests.proofs.Occurrences.{one-place}
use Rattle.value_tests.proofs.Sums.{sum_below-split}
use Rattle.value_runs.proofs.Distinct.{sum-places}
use Rattle.value_runs.proofs.StateLists.{IsState, list_number, list-within, list-told}
use Rattle.value_runs.proofs.StatesWithin.{KeepsUp, used-kept, used-there}

module _ {S : Type 0} (A : Algebra S) (names : List (Kind × List ℕ)) (marks : List ℕ) (G H : List Rule) (i : IsIsolated names marks G H) where
  call-below : (r place q : ℕ) → r < length H → slice_get (body_at H r) place ≡ Some (Call q) → q < r
  call-below r place q l e = call-earlier r place q (body_at H r) (i.grammar.each r l).earlier (slice_get-at (body_at H r) place (Call q) Bottom e).1

  -- the pair of a run is the start's, or called by one
  abbrev IsStart : ℕ → List S → Type 0
  IsStart q xs = (q + 1 ≡ length H) × (xs ≡ [])

  record IsCalled (q : ℕ) (xs : List S) : Type 0 where
    pub r : ℕ
    pub args : List S
    pub place : ℕ
    pub used : Uses S A H r args
    pub there : slice_get (body_at H r) place ≡ Some (Call q)
    pub states : argument_states A H q args (body_at H r) place ≡ xs

  met : (q : ℕ) (xs : List S) → Uses S A H q xs → IsStart q xs ⊎ IsCalled q xs
  met _ _ (at_start r e) = inl (omega (arith, e), refl)
  met _ _ (at_call r args place q u e) = inr (record { r = r; args = args; place = place; used = u; there = e; states = refl })

  abbrev IsOnce : ℕ → Type 0
  IsOnce q = (i.is_alone q ≡ true) ⊎ (q + 1 ≡ length H)

  -- the start isn't called
  not-start : (q r place : ℕ) → r < length H → slice_get (body_at H r) place ≡ Some (Call q) → q + 1 ≡ length H → ⊥
  not-start q r place l e s = absurd (let b = call-below r place q l e in omega arith)

  start-states : (q : ℕ) (ys : List S) → q + 1 ≡ length H → IsStart q ys ⊎ IsCalled q ys → [] ≡ ys
  start-states q ys s (inl b) = sym b.1
  start-states q ys s (inr c) = absurd (not-start q c.r c.place (used-there A H i.grammar c.r c.args c.used).0 c.there s)

  called-states : (r place q : ℕ) (args ys : List S) → r < length H → slice_get (body_at H r) place ≡ Some (Call q) → IsOnce q
      → ((zs : List S) → IsOnce r → Uses S A H r zs → args ≡ zs) → IsStart q ys ⊎ IsCalled q ys → argument_states A H q args (body_at H r) place ≡ ys
  called-states r place q args ys l e (inr s) earlier m = absurd (not-start q r place l e s)
  called-states r place q args ys l e (inl a) earlier (inl s) = absurd (not-start q r place l e s.0)
  called-states r place q args ys l e (inl a) earlier (inr c) =
      let b = call-below r place q l e in
      let same = one-place q H r place c.r c.place (i.once q (omega arith) a) e c.there in
      let used : Uses S A H r c.args = subst (λ p. Uses S A H p c.args) (sym same.0) c.used in
      let args_same = earlier c.args (i.callers r q place l a e) used in
      ap (λ (xs : List S). argument_states A H q xs (body_at H r) place) args_same
      ∙ ap (λ p. argument_states A H q c.args (body_at H p) place) same.0
      ∙ ap (λ p. argument_states A H q c.args (body_at H c.r) p) same.1
      ∙ c.states

  -- a rule of a marked instance is met with one list of states only
  one-list : (q : ℕ) (xs ys : List S) → Uses S A H q xs → IsOnce q → Uses S A H q ys → xs ≡ ys
  one-list _ _ ys (at_start r e) o v = start-states r ys (omega (arith, e)) (met r ys v)
  one-list _ _ ys (at_call r args place q u e) o v = called-states r place q args ys (used-there A H i.grammar r args u).0 e o (λ zs p w. one-list r args zs u p w) (met q ys v)

  module _ (count : ℕ) (few : HasUpStates A count) where
    abbrev lists : ℕ
    lists = count ^ greatest_rank G

    abbrev often : ℕ → ℕ
    often q = if i.is_alone q then 1 else lists

    pair_number : RuleStates S → ℕ
    pair_number p = if i.is_alone p.0 then 0 else list_number A count few p.1

    abbrev IsUsed : RuleStates S → Type 0
    IsUsed p = Uses S A H p.0 p.1

    states-kept : (p : RuleStates S) → IsUsed p → All (IsState A count few) p.1
    states-kept p u =
        let keeps : KeepsUp A (IsState A count few) = record { bottom = few.bottom; node = few.node } in
        used-kept A (IsState A count few) keeps H p.0 p.1 u

    pair-small : (p : RuleStates S) → IsUsed p → pair_number p < often p.0
    unfolding pair_number
    pair-small p u = by (i.is_alone p.0) refl
      where
        by : (b : Bool) → b ≡ i.is_alone p.0 → (if i.is_alone p.0 then 0 else list_number A count few p.1) < (if i.is_alone p.0 then 1 else lists)
        by true e = rw (← e) (omega arith)
        by false e =
            let t = used-there A H i.grammar p.0 p.1 u in
            rw (← e) (list-within A count few (greatest_rank G) p.1 (omega (arith, t.1, i.ranks p.0)) (states-kept p u))

    pair-told : (p q : RuleStates S) → IsUsed p → IsUsed q → p.0 ≡ q.0 → pair_number p ≡ pair_number q → p ≡ q
    unfolding pair_number
    pair-told p q u v e n = ap (λ r. (r, p.1)) e ∙ ap (λ (xs : List S). (q.0, xs)) (by (i.is_alone p.0) refl)
      where
        w : Uses S A H p.0 q.1
        w = subst (λ r. Uses S A H r q.1) (sym e) v

        by : (b : Bool) → b ≡ i.is_alone p.0 → p.1 ≡ q.1
        by true a = one-list p.0 p.1 q.1 u (inl (sym a)) w
        by false a =
            let same : pair_number p ≡ (if i.is_alone p.0 then 0 else list_number A count few q.1) = n ∙ ap (λ r. if i.is_alone r then 0 else list_number A count few q.1) (sym e) in
            let x : list_number A count few p.1 ≡ list_number A count few q.1 = rw (← a) at same in
            list-told A count few p.1 q.1 ((used-there A H i.grammar p.0 p.1 u).1 ∙ (ap (rank_at H) e ∙ sym (used-there A H i.grammar q.0 q.1 v).1)) (states-kept p u) (states-kept q v) x

    -- so few nodes are read
    pub reads-few : (pairs : List (RuleStates S)) (steps : ℕ) → ReadsOnce A H pairs steps → steps ≤ 2 * (marked_nodes names marks G + lists * whole G)
    reads-few pairs steps reads =
        let there : All (λ p. p.0 < length H) pairs = All-weaker IsUsed (λ (p : RuleStates S). p.0 < length H) (λ p u. (used-there A H i.grammar p.0 p.1 u).0) pairs reads.met in
        let sum = sum-places pair_number (λ q. length (body_at H q)) (λ p. p.0) IsUsed often pair-told pair-small (length H) pairs reads.distinct reads.met there in
        let split = sum_below-split (length H) lists i.is_alone (λ q. length (body_at H q)) in
        let others : lists * sum_below (length H) (λ r. if i.is_alone r then 0 else length (body_at H r)) ≤ lists * whole G = mul-le-mul_left lists i.others in
        let alone = i.alone in
        let bound = reads.bound in
        omega (arith, sum, split, others, alone, bound)
