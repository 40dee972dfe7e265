-- How many cells have a digram, once a rule was put behind those that its labels call.
use Rattle.std.proofs.Common.{◌≡◌, ◌≢◌, ◌+◌, ℕ, suc, List, [], ◌∷◌, get_or, Option, Some, None, Bool, true, false, refl, ap, sym, ◌∙◌, arith}
use Rattle.rule_arena.specs.declared.label.Label.{Label}
use Rattle.slt_grammar.specs.Names.{Bottom, Symbol, Call, Param}
use Rattle.slt_grammar.specs.Bodies.{CallsBelow}
use Rattle.slt_grammar.specs.Editing.{shifted, shifted_label}
use Rattle.slt_grammar.specs.declared.digram.Digram.{Digram}
use Rattle.slt_grammar.specs.contracts.digram.DigramPartialEq.TheImpl as eqs
use Rattle.slt_grammar.proofs.Keeping.{shifted-before}
use Rattle.slt_grammar.proofs.Removals.{shifted-same-place}
use Rattle.digram_index.specs.Digrams.{Cell}
use Rattle.digram_index.specs.Linked.{cell_count, shifted_cell, shifted_digram}
use Rattle.digram_index.proofs.CellCounts.{one_in, one-in-same, one-in-other}
use Rattle.digram_index.proofs.RankLemmas.{digram-sound, digram-same}
use Rattle.digram_index.proofs.Tops.{call-same}

count-cons : (d : Digram) (c : Option Cell) (cs : List (Option Cell)) → cell_count d (c ∷ cs) ≡ one_in d c + cell_count d cs
count-cons d None cs = omega arith
count-cons d (Some c) cs = refl

count-none : (d : Digram) (cs : List (Option Cell)) → ((j : ℕ) → one_in d (get_or cs j None) ≡ 0) → cell_count d cs ≡ 0
count-none d [] h = refl
count-none d (c ∷ cs) h =
    let z = count-cons d c cs in
    let n = count-none d cs (λ j. h (suc j)) in
    let o = h 0 in
    omega arith

-- where each cell adds as much, the counts are equal
count-alike : (d : Digram) (cs ds : List (Option Cell)) → ((j : ℕ) → one_in d (get_or ds j None) ≡ one_in d (get_or cs j None)) → cell_count d ds ≡ cell_count d cs
count-alike d [] ds h = count-none d ds h
count-alike d (c ∷ cs) [] h = sym (count-none d (c ∷ cs) (λ j. sym (h j)))
count-alike d (c ∷ cs) (e ∷ ds) h =
    let x = count-cons d c cs in
    let y = count-cons d e ds in
    let o = h 0 in
    let n = count-alike d cs ds (λ j. h (suc j)) in
    omega arith

-- different labels stay different
label-same : (place : ℕ) (l m : Label) → shifted_label place l ≡ shifted_label place m → l ≡ m
label-same place Bottom Bottom e = refl
label-same place Bottom (Symbol g) e = absurd (let z : Bottom ≡ Symbol g = e in cc)
label-same place Bottom (Call r) e = absurd (let z : Bottom ≡ Call (shifted place r) = e in cc)
label-same place Bottom Param e = absurd (let z : Bottom ≡ Param = e in cc)
label-same place (Symbol f) Bottom e = absurd (let z : Symbol f ≡ Bottom = e in cc)
label-same place (Symbol f) (Symbol g) e = e
label-same place (Symbol f) (Call r) e = absurd (let z : Symbol f ≡ Call (shifted place r) = e in cc)
label-same place (Symbol f) Param e = absurd (let z : Symbol f ≡ Param = e in cc)
label-same place (Call q) Bottom e = absurd (let z : Call (shifted place q) ≡ Bottom = e in cc)
label-same place (Call q) (Symbol g) e = absurd (let z : Call (shifted place q) ≡ Symbol g = e in cc)
label-same place (Call q) (Call r) e = ap (λ (x : ℕ). Call x) (shifted-same-place place q r (call-same (shifted place q) (shifted place r) e))
label-same place (Call q) Param e = absurd (let z : Call (shifted place q) ≡ Param = e in cc)
label-same place Param Bottom e = absurd (let z : Param ≡ Bottom = e in cc)
label-same place Param (Symbol g) e = absurd (let z : Param ≡ Symbol g = e in cc)
label-same place Param (Call r) e = absurd (let z : Param ≡ Call (shifted place r) = e in cc)
label-same place Param Param e = refl

digram-fields : (x y : Digram) → x.upper ≡ y.upper → x.place ≡ y.place → x.lower ≡ y.lower → x ≡ y
digram-fields x y u p l =
    ap (λ (m : Label). let d : Digram = record { upper = m; place = x.place; lower = x.lower } in d) u
    ∙ ap (λ (c : ℕ). let d : Digram = record { upper = y.upper; place = c; lower = x.lower } in d) p
    ∙ ap (λ (m : Label). let d : Digram = record { upper = y.upper; place = y.place; lower = m } in d) l

shifted-apart : (place : ℕ) (d e : Digram) → shifted_digram place d ≡ shifted_digram place e → d ≡ e
shifted-apart place d e h =
    digram-fields d e (label-same place d.upper e.upper (ap (λ (x : Digram). x.upper) h)) (ap (λ (x : Digram). x.place) h) (label-same place d.lower e.lower (ap (λ (x : Digram). x.lower) h))

lower-stays : (place : ℕ) (l : Label) → CallsBelow place (l ∷ []) → shifted_label place l ≡ l
lower-stays place Bottom b = refl
lower-stays place (Symbol f) b = refl
lower-stays place (Call q) b = ap (λ (x : ℕ). Call x) (shifted-before place q b.0)
lower-stays place Param b = refl

both-below : (place : ℕ) (u l : Label) → CallsBelow place (u ∷ l ∷ []) → CallsBelow place (u ∷ []) × CallsBelow place (l ∷ [])
both-below place Bottom l b = (tt, b)
both-below place (Symbol f) l b = (tt, b)
both-below place (Call q) l b = ((b.0, tt), b.1)
both-below place Param l b = (tt, b)

-- a digram whose labels call rules before the place alone stays
pub digram-stays : (place : ℕ) (d : Digram) → CallsBelow place (d.upper ∷ d.lower ∷ []) → shifted_digram place d ≡ d
digram-stays place d b =
    let h = both-below place d.upper d.lower b in
    digram-fields (shifted_digram place d) d (lower-stays place d.upper h.0) refl (lower-stays place d.lower h.1)

-- so its count stays
pub count-put : (place : ℕ) (d : Digram) (cs ds : List (Option Cell)) → CallsBelow place (d.upper ∷ d.lower ∷ []) → ((j : ℕ) → get_or ds j None ≡ shifted_cell place (get_or cs j None)) → cell_count d ds ≡ cell_count d cs
count-put place d cs ds b h = count-alike d cs ds (λ j. ap (one_in d) (h j) ∙ one (get_or cs j None))
  where
    one : (o : Option Cell) → one_in d (shifted_cell place o) ≡ one_in d o
    one None = refl
    one (Some c) = at (eqs.eq-value.it c.digram d) refl
      where
        at : (t : Bool) → eqs.eq-value.it c.digram d ≡ t → one_in d (shifted_cell place (Some c)) ≡ one_in d (Some c)
        at true e =
            let z : c.digram ≡ d = digram-sound c.digram d e in
            one-in-same d (record { digram = shifted_digram place c.digram; rank = c.rank; upper = c.upper }) (ap (shifted_digram place) z ∙ digram-stays place d b)
            ∙ sym (one-in-same d c z)
        at false e =
            let n : c.digram ≢ d = λ z. let y : false ≡ true = sym e ∙ digram-same c.digram d z in cc in
            one-in-other d (record { digram = shifted_digram place c.digram; rank = c.rank; upper = c.upper }) (λ z. n (shifted-apart place c.digram d (z ∙ sym (digram-stays place d b))))
            ∙ sym (one-in-other d c n)
