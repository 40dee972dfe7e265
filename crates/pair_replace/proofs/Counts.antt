-- How many occurrences of a digram are linked.
use Rattle.std.proofs.Common.{◌≡◌, ◌≢◌, ◌⊎◌, inl, inr, ℕ, ◌+◌, Option, Some, None, Bool, true, false, refl, sym, ap, ◌∙◌, arith}
use Rattle.slt_grammar.specs.declared.digram.Digram.{Digram}
use Rattle.slt_grammar.specs.contracts.digram.DigramPartialEq.TheImpl as eqs
use Rattle.digram_index.specs.Digrams.{Cell}
use Rattle.digram_index.specs.Linked.{Linked, cell, cell_count}
use Rattle.digram_index.proofs.CellCounts.{one_in, one-in-same, one-in-other, count-none, count-same, count-changed}
use Rattle.digram_index.proofs.RankLemmas.{digram-sound, digram-same}
use Rattle.pair_replace.specs.Chains.{IsLinkedAs}

-- a cell has the digram
abbrev Has : Digram → Option Cell → Type 0
Has d c = (o : Cell) × ((c ≡ Some o) × (o.digram ≡ d))

has-test : (d : Digram) (c : Option Cell) → (Has d c × (one_in d c ≡ 1)) ⊎ ((Has d c → ⊥) × (one_in d c ≡ 0))
has-test d None = inr (λ w. let z : None ≡ Some w.0 = w.1.0 in cc, refl)
has-test d (Some c) = by (eqs.eq-value.it c.digram d) refl
  where
    one : (x y : Cell) → Some x ≡ Some y → x ≡ y
    one x y z = cc

    by : (b : Bool) → eqs.eq-value.it c.digram d ≡ b → (Has d (Some c) × (one_in d (Some c) ≡ 1)) ⊎ ((Has d (Some c) → ⊥) × (one_in d (Some c) ≡ 0))
    by true e = let s = digram-sound c.digram d e in inl ((c, (refl, s)), one-in-same d c s)
    by false e =
        let no : c.digram ≢ d = λ z. let x = digram-same c.digram d z in let y : true ≡ false = sym x ∙ e in cc in
        inr (λ w. no (ap (λ (x : Cell). x.digram) (one c w.0 w.1.0) ∙ w.1.1), one-in-other d c no)

has-none : (d : Digram) (c : Option Cell) → (Has d c → ⊥) → one_in d c ≡ 0
has-none d c n = by (has-test d c)
  where
    by : (Has d c × (one_in d c ≡ 1)) ⊎ ((Has d c → ⊥) × (one_in d c ≡ 0)) → one_in d c ≡ 0
    by (inl w) = absurd (n w.0)
    by (inr w) = w.1

has-one : (d : Digram) (c : Option Cell) → Has d c → one_in d c ≡ 1
has-one d c h = by (has-test d c)
  where
    by : (Has d c × (one_in d c ≡ 1)) ⊎ ((Has d c → ⊥) × (one_in d c ≡ 0)) → one_in d c ≡ 1
    by (inl w) = w.1
    by (inr w) = absurd (w.0 h)

pub none-linked : (I : Linked) (d : Digram) → ((k : ℕ) → IsLinkedAs I d k → ⊥) → cell_count d I.cells ≡ 0
none-linked I d n = count-none d I.cells (λ j. has-none d (cell I j) (n j))

pub count-alike : (I J : Linked) (d : Digram) → ((k : ℕ) → cell J k ≡ cell I k) → cell_count d J.cells ≡ cell_count d I.cells
count-alike I J d same = count-same d I.cells J.cells (λ j. ap (one_in d) (same j))

-- where one occurrence of the digram is gone, and each other cell is as before or has it neither before nor then
pub one-gone : (I J : Linked) (d : Digram) (k : ℕ) → IsLinkedAs I d k → (IsLinkedAs J d k → ⊥) → ((j : ℕ) → j ≢ k → (cell J j ≡ cell I j) ⊎ ((IsLinkedAs I d j → ⊥) × (IsLinkedAs J d j → ⊥)))
    → cell_count d J.cells + 1 ≡ cell_count d I.cells
one-gone I J d k was gone others =
    let c = count-changed d I.cells J.cells k (λ j n. alike j (others j n)) in
    let a = has-one d (cell I k) was in
    let b = has-none d (cell J k) gone in
    omega (arith, c, a, b)
  where
    alike : (j : ℕ) → (cell J j ≡ cell I j) ⊎ ((IsLinkedAs I d j → ⊥) × (IsLinkedAs J d j → ⊥)) → one_in d (cell J j) ≡ one_in d (cell I j)
    alike j (inl e) = ap (one_in d) e
    alike j (inr w) = has-none d (cell J j) w.1 ∙ sym (has-none d (cell I j) w.0)
