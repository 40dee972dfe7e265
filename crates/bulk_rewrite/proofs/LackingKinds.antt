-- How many kinds lack a name in a table.
use Rattle.std.proofs.Common.{◌≡◌, ◌<◌, ◌≤◌, ◌+◌, ◌*◌, ℕ, List, [], ◌∷◌, ◌++◌, length, true, Some, slice_get, sym, subst, arith, ◌⊎◌, inl, inr}
use Rattle.std.proofs.Math.Nat.{mul-le-mul_right}
use Rattle.plain_tree.specs.declared.kind.Kind.{Kind}
use Rattle.plain_tree.specs.declared.kind.Kind.TheVariants.{Document, Element, Attribute, Text, Comment, Instruction}
use Rattle.plain_tree.specs.NodePairs.{Pair}
use Rattle.fcns_encoding.specs.Interning.{IsIn}
use Rattle.fcns_encoding.proofs.InternLemmas.{is_in, get-front}
use Rattle.bulk_rewrite.specs.Refusing.{is_renamable}
use Rattle.bulk_rewrite.proofs.GrowingNames.{get-last}

abbrev one_if_not : {P : Type 0} → P ⊎ (P → ⊥) → ℕ
one_if_not (inl p) = 0
one_if_not (inr n) = 1

no-more : {P Q : Type 0} → (P → Q) → (a : P ⊎ (P → ⊥)) (b : Q ⊎ (Q → ⊥)) → one_if_not b ≤ one_if_not a
no-more f (inl p) (inl q) = omega arith
no-more f (inl p) (inr n) = absurd (n (f p))
no-more f (inr m) (inl q) = omega arith
no-more f (inr m) (inr n) = omega arith

one-less : {P Q : Type 0} → (P → ⊥) → Q → (a : P ⊎ (P → ⊥)) (b : Q ⊎ (Q → ⊥)) → one_if_not b < one_if_not a
one-less m q (inl p) b = absurd (m p)
one-less m q (inr l) (inl r) = omega arith
one-less m q (inr l) (inr n) = absurd (n q)

one-most : {P : Type 0} (a : P ⊎ (P → ⊥)) → one_if_not a ≤ 1
one-most (inl p) = omega arith
one-most (inr n) = omega arith

-- whether a kind lacks the name, as a number
abbrev lack : List Pair → List ℕ → Kind → ℕ
lack names name kind = one_if_not (is_in (kind, name) names)

abbrev pub lack_count : List Pair → List ℕ → ℕ
lack_count names name = lack names name Document + (lack names name Element + (lack names name Attribute + (lack names name Text + (lack names name Comment + lack names name Instruction))))

-- of the kinds that may be renamed
abbrev pub named_lacks : List Pair → List ℕ → ℕ
named_lacks names name = lack names name Element + (lack names name Attribute + lack names name Instruction)

pub named-most : (names : List Pair) (name : List ℕ) → named_lacks names name ≤ 3
named-most names name = omega (arith, one-most (is_in (Element, name) names), one-most (is_in (Attribute, name) names), one-most (is_in (Instruction, name) names))

-- with the name for a kind that lacks it there are fewer
module _ (names new : List Pair) (name : List ℕ) (kind : Kind) (out : IsIn (kind, name) names → ⊥) (e : new ≡ names ++ (kind, name) ∷ []) where
  keeps : (k : Kind) → lack new name k ≤ lack names name k
  keeps k = no-more (λ i. (i.0, subst (λ ns. slice_get ns i.0 ≡ Some (k, name)) (sym e) (get-front names ((kind, name) ∷ []) i.0 (k, name) i.1))) (is_in (k, name) names) (is_in (k, name) new)

  here : lack new name kind < lack names name kind
  here = one-less out (length names, subst (λ ns. slice_get ns (length names) ≡ Some (kind, name)) (sym e) (get-last names (kind, name))) (is_in (kind, name) names) (is_in (kind, name) new)

  pub lack-fewer : lack_count new name < lack_count names name
  lack-fewer = by_kind kind here
    where
      by_kind : (k : Kind) → lack new name k < lack names name k → lack_count new name < lack_count names name
      by_kind Document h = omega (arith, h, keeps Element, keeps Attribute, keeps Text, keeps Comment, keeps Instruction)
      by_kind Element h = omega (arith, h, keeps Document, keeps Attribute, keeps Text, keeps Comment, keeps Instruction)
      by_kind Attribute h = omega (arith, h, keeps Document, keeps Element, keeps Text, keeps Comment, keeps Instruction)
      by_kind Text h = omega (arith, h, keeps Document, keeps Element, keeps Attribute, keeps Comment, keeps Instruction)
      by_kind Comment h = omega (arith, h, keeps Document, keeps Element, keeps Attribute, keeps Text, keeps Instruction)
      by_kind Instruction h = omega (arith, h, keeps Document, keeps Element, keeps Attribute, keeps Text, keeps Comment)

  pub named-fewer : is_renamable kind ≡ true → named_lacks new name < named_lacks names name
  named-fewer may = by_kind kind may here
    where
      by_kind : (k : Kind) → is_renamable k ≡ true → lack new name k < lack names name k → named_lacks new name < named_lacks names name
      by_kind Element m h = omega (arith, h, keeps Attribute, keeps Instruction)
      by_kind Attribute m h = omega (arith, h, keeps Element, keeps Instruction)
      by_kind Instruction m h = omega (arith, h, keeps Element, keeps Attribute)
      by_kind Document m h = absurd (cc)
      by_kind Text m h = absurd (cc)
      by_kind Comment m h = absurd (cc)

-- each run that finds a kind that lacks the name is paid for by that kind
pub pays : (base steps next lacks fewer each : ℕ) → steps + lacks * each ≤ base + 3 * each → next ≤ steps + each → fewer < lacks → next + fewer * each ≤ base + 3 * each
pays base steps next lacks fewer each h le l =
    let m : (fewer + 1) * each ≤ lacks * each = mul-le-mul_right each (omega arith) in
    let d : (fewer + 1) * each ≡ fewer * each + each = grind arith in
    omega (arith, h, le, m, d)

-- and one more finds none
pub paid : (base steps next lacks each : ℕ) → steps + lacks * each ≤ base + 3 * each → next ≤ steps + each → next ≤ base + 4 * each
paid base steps next lacks each h le = omega (arith, h, le)

pub unpaid : (names : List Pair) (name : List ℕ) (base each : ℕ) → base + named_lacks names name * each ≤ base + 3 * each
unpaid names name base each =
    let m : named_lacks names name * each ≤ 3 * each = mul-le-mul_right each (named-most names name) in
    omega (arith, m)
