-- How many cells have a digram, where one cell is changed.
use Rattle.std.proofs.Common.{◌≡◌, ◌≢◌, ◌+◌, ℕ, zero, suc, List, [], ◌∷◌, get_or, Option, Some, None, Bool, true, false, if◌then◌else◌, refl, ap, sym, ◌∙◌, arith}
use Rattle.slt_grammar.specs.declared.digram.Digram.{Digram}
use Rattle.slt_grammar.specs.contracts.digram.DigramPartialEq.TheImpl as eqs
use Rattle.digram_index.specs.Digrams.{Cell}
use Rattle.digram_index.specs.Linked.{cell_count}
use Rattle.digram_index.proofs.RankLemmas.{digram-sound, digram-same}

-- what a cell adds
abbrev pub one_in : Digram → Option Cell → ℕ
one_in d None = 0
one_in d (Some c) = if eqs.eq-value.it c.digram d then 1 else 0

count-cons : (d : Digram) (c : Option Cell) (cs : List (Option Cell)) → cell_count d (c ∷ cs) ≡ one_in d c + cell_count d cs
count-cons d None cs = omega arith
count-cons d (Some c) cs = refl

-- where no cell has it
pub count-none : (d : Digram) (cs : List (Option Cell)) → ((j : ℕ) → one_in d (get_or cs j None) ≡ 0) → cell_count d cs ≡ 0
count-none d [] h = refl
count-none d (c ∷ cs) h =
    let z = count-cons d c cs in
    let n = count-none d cs (λ j. h (suc j)) in
    let o = h 0 in
    omega arith

-- where each cell has it as before
pub count-same : (d : Digram) (cs ds : List (Option Cell)) → ((j : ℕ) → one_in d (get_or ds j None) ≡ one_in d (get_or cs j None)) → cell_count d ds ≡ cell_count d cs
count-same d [] ds h = count-none d ds h
count-same d (c ∷ cs) [] h = sym (count-none d (c ∷ cs) (λ j. sym (h j)))
count-same d (c ∷ cs) (e ∷ ds) h =
    let x = count-cons d c cs in
    let y = count-cons d e ds in
    let o = h 0 in
    let n = count-same d cs ds (λ j. h (suc j)) in
    omega arith

-- where all cells but one have it as before, the count changes by what that one adds
pub count-changed : (d : Digram) (cs ds : List (Option Cell)) (k : ℕ) → ((j : ℕ) → j ≢ k → one_in d (get_or ds j None) ≡ one_in d (get_or cs j None))
    → cell_count d ds + one_in d (get_or cs k None) ≡ cell_count d cs + one_in d (get_or ds k None)
count-changed d [] [] k h = refl
count-changed d [] (e ∷ ds) zero h =
    let y = count-cons d e ds in
    let n = count-none d ds (λ j. h (suc j) (λ z. omega arith)) in
    omega arith
count-changed d [] (e ∷ ds) (suc k) h =
    let y = count-cons d e ds in
    let o = h 0 (λ z. omega arith) in
    let n = count-changed d [] ds k (λ j x. h (suc j) (λ z. x (omega arith))) in
    omega arith
count-changed d (c ∷ cs) [] zero h =
    let x = count-cons d c cs in
    let n = count-none d cs (λ j. sym (h (suc j) (λ z. omega arith))) in
    omega arith
count-changed d (c ∷ cs) [] (suc k) h =
    let x = count-cons d c cs in
    let o = h 0 (λ z. omega arith) in
    let n = count-changed d cs [] k (λ j x. h (suc j) (λ z. x (omega arith))) in
    omega arith
count-changed d (c ∷ cs) (e ∷ ds) zero h =
    let x = count-cons d c cs in
    let y = count-cons d e ds in
    let n = count-same d cs ds (λ j. h (suc j) (λ z. omega arith)) in
    omega arith
count-changed d (c ∷ cs) (e ∷ ds) (suc k) h =
    let x = count-cons d c cs in
    let y = count-cons d e ds in
    let o = h 0 (λ z. omega arith) in
    let n = count-changed d cs ds k (λ j x. h (suc j) (λ z. x (omega arith))) in
    omega arith

-- a cell of the digram adds one, another one nothing
pub one-in-same : (d : Digram) (c : Cell) → c.digram ≡ d → one_in d (Some c) ≡ 1
one-in-same d c e = ap (λ (b : Bool). if b then 1 else 0) (digram-same c.digram d e)

pub one-in-other : (d : Digram) (c : Cell) → c.digram ≢ d → one_in d (Some c) ≡ 0
one-in-other d c n = at (eqs.eq-value.it c.digram d) refl
  where
    at : (b : Bool) → eqs.eq-value.it c.digram d ≡ b → one_in d (Some c) ≡ 0
    at true e = absurd (n (digram-sound c.digram d e))
    at false e = ap (λ (b : Bool). if b then 1 else 0) e

-- where a cell of the digram is freed there is one fewer
pub count-freed : (d : Digram) (cs ds : List (Option Cell)) (k : ℕ) (c : Cell) → get_or cs k None ≡ Some c → c.digram ≡ d → get_or ds k None ≡ None → ((j : ℕ) → j ≢ k → get_or ds j None ≡ get_or cs j None)
    → cell_count d ds + 1 ≡ cell_count d cs
count-freed d cs ds k c a e b h =
    let z = count-changed d cs ds k (λ j x. ap (one_in d) (h j x)) in
    let o = ap (one_in d) a ∙ one-in-same d c e in
    let n = ap (one_in d) b in
    omega arith

-- and where it is filled, one more
pub count-filled : (d : Digram) (cs ds : List (Option Cell)) (k : ℕ) (c : Cell) → get_or cs k None ≡ None → get_or ds k None ≡ Some c → c.digram ≡ d → ((j : ℕ) → j ≢ k → get_or ds j None ≡ get_or cs j None)
    → cell_count d ds ≡ cell_count d cs + 1
count-filled d cs ds k c a b e h =
    let z = count-changed d cs ds k (λ j x. ap (one_in d) (h j x)) in
    let o = ap (one_in d) b ∙ one-in-same d c e in
    let n = ap (one_in d) a in
    omega arith
