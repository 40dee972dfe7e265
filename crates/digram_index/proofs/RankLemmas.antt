-- Occurrences of a digram, whatever their ranks.
use Rattle.std.proofs.Common.{◌≡◌, ◌≢◌, ◌<◌, ◌≤◌, ◌+◌, ◌⊎◌, inl, inr, ℕ, zero, suc, List, [], ◌∷◌, map, length, get_or, Option, Some, None, Bool, true, false, refl, ap, sym, ◌∙◌, arith}
use Rattle.std.proofs.lemmas.Bool.{cases_eq}
use Rattle.slt_grammar.specs.Names.{Bottom as BottomLabel, Symbol as SymbolLabel, Call as CallLabel, Param as ParamLabel}
use Rattle.slt_grammar.specs.declared.digram.Digram.{Digram}
use Rattle.digram_index.specs.declared.patterns.Mark.{Mark}
use Rattle.digram_index.specs.declared.patterns.Mark.TheVariants.{Bottom, Symbol, Call, Param}
use Rattle.digram_index.specs.declared.patterns.Pattern.{Pattern}
use Rattle.slt_grammar.specs.contracts.digram.DigramPartialEq.TheImpl as eqs
use Rattle.digram_index.specs.Numbers.{place_of}
use Rattle.digram_index.specs.Spots.{Spot, with_rank, ranks_total}
use Rattle.digram_index.specs.Linked.{label_of, IsKnown, digram_of, cell_of, cell_count}
use Rattle.digram_index.proofs.SpotCounts.{one_of, one-spot, one-spot-same, one-spot-other, one-spot-few, spot-cons}
use Rattle.digram_index.proofs.Tops.{label-injective, call-same}
use Rattle.std.proofs.Common.{rules}

pub digram-sound : (d e : Digram) → eqs.eq-value.it d e ≡ true → d ≡ e
digram-sound d e x = search rules

pub digram-same : (d e : Digram) → d ≡ e → eqs.eq-value.it d e ≡ true
digram-same d e x = search rules

-- how often an occurrence counts
hits : ℕ → Pattern → Spot → ℕ
hits zero p s = 0
hits (suc n) p s = hits n p s + one-spot s.pattern (with_rank p n)

hits-more : (n : ℕ) (p : Pattern) (s : Spot) → hits (suc n) p s ≡ hits n p s + one-spot s.pattern (with_rank p n)
unfolding hits
hits-more n p s = refl

hits-none : (p : Pattern) (s : Spot) → hits 0 p s ≡ 0
unfolding hits
hits-none p s = refl

total-none : (n : ℕ) (p : Pattern) (ss : List (Option Spot)) → ranks_total n p (None ∷ ss) ≡ ranks_total n p ss
total-none zero p ss = refl
total-none (suc n) p ss = let z = total-none n p ss in omega arith

total-some : (n : ℕ) (p : Pattern) (s : Spot) (ss : List (Option Spot)) → ranks_total n p (Some s ∷ ss) ≡ hits n p s + ranks_total n p ss
total-some zero p s ss = let z = hits-none p s in omega arith
total-some (suc n) p s ss = let z = total-some n p s ss in let c = spot-cons (with_rank p n) s ss in let h = hits-more n p s in omega arith

total-empty : (n : ℕ) (p : Pattern) → ranks_total n p [] ≡ 0
total-empty zero p = refl
total-empty (suc n) p = let z = total-empty n p in omega arith

-- an occurrence of another digram does not count
miss : (n : ℕ) (p : Pattern) (s : Spot) → ((r : ℕ) → r < n → s.pattern ≢ with_rank p r) → hits n p s ≡ 0
miss zero p s h = hits-none p s
miss (suc n) p s h = let z = miss n p s (λ r l. h r (omega arith)) in let o = one-spot-other s.pattern (with_rank p n) (h n (omega arith)) in let m = hits-more n p s in omega arith

-- one of this digram counts once
hit : (n : ℕ) (p : Pattern) (s : Spot) → s.pattern.rank < n → s.pattern ≡ with_rank p s.pattern.rank → hits n p s ≡ 1
hit zero p s h e = absurd (omega arith)
hit (suc n) p s h e = at (hit n p s) (cases_eq s.pattern.rank n)
  where
    at : (s.pattern.rank < n → s.pattern ≡ with_rank p s.pattern.rank → hits n p s ≡ 1) → (s.pattern.rank ≡ n) ⊎ (s.pattern.rank ≡ n → ⊥) → hits (suc n) p s ≡ 1
    at again (inl x) =
        let o = one-spot-same s.pattern (with_rank p n) (e ∙ ap (with_rank p) x) in
        let m = miss n p s (λ r l z. let w = ap (λ (q : Pattern). q.rank) z in omega arith) in
        let k = hits-more n p s in
        omega arith
    at again (inr x) =
        let a = again (omega arith) e in
        let o = one-spot-other s.pattern (with_rank p n) (λ z. x (ap (λ (q : Pattern). q.rank) z)) in
        let k = hits-more n p s in
        omega arith

few-hits : (n : ℕ) (p : Pattern) (s : Spot) → hits n p s ≤ 1
few-hits zero p s = let z = hits-none p s in omega arith
few-hits (suc n) p s = at (few-hits n p s) (cases_eq s.pattern.rank n)
  where
    at : hits n p s ≤ 1 → (s.pattern.rank ≡ n) ⊎ (s.pattern.rank ≡ n → ⊥) → hits (suc n) p s ≤ 1
    at again (inl x) =
        let m = miss n p s (λ r l z. let w = ap (λ (q : Pattern). q.rank) z in omega arith) in
        let k = hits-more n p s in
        let o = one-spot-few s.pattern (with_rank p n) in
        omega arith
    at again (inr x) =
        let o = one-spot-other s.pattern (with_rank p n) (λ z. x (ap (λ (q : Pattern). q.rank) z)) in
        let k = hits-more n p s in
        omega arith

pub total-within : (n : ℕ) (p : Pattern) (ss : List (Option Spot)) → ranks_total n p ss ≤ length ss
total-within n p [] = let z = total-empty n p in omega arith
total-within n p (None ∷ ss) = let z = total-none n p ss in let w = total-within n p ss in omega arith
total-within n p (Some s ∷ ss) = let z = total-some n p s ss in let w = total-within n p ss in let f = few-hits n p s in omega arith

-- all ranks together are all occurrences of the digram
pub total-cells : (ns : List ℕ) (p : Pattern) (d : Digram) (ss : List (Option Spot)) → digram_of ns p ≡ d → IsKnown ns p.upper → IsKnown ns p.lower
    → ((k : ℕ) (s : Spot) → get_or ss k None ≡ Some s → IsKnown ns s.pattern.upper × IsKnown ns s.pattern.lower × (s.pattern.rank < 16))
    → ranks_total 16 p ss ≡ cell_count d (map (cell_of ns) ss)
total-cells ns p d [] e ku kl K = total-empty 16 p
total-cells ns p d (None ∷ ss) e ku kl K = total-none 16 p ss ∙ total-cells ns p d ss e ku kl (λ k. K (suc k))
total-cells ns p d (Some s ∷ ss) e ku kl K =
    let again = total-cells ns p d ss e ku kl (λ k. K (suc k)) in
    let t = total-some 16 p s ss in
    let o = at (eqs.eq-value.it (digram_of ns s.pattern) d) refl (K 0 s refl) in
    omega arith
  where
    fields : (x y : Pattern) → x.upper ≡ y.upper → x.place ≡ y.place → x.lower ≡ y.lower → x ≡ with_rank y x.rank
    fields x y u c l =
        ap (λ (m : Mark). let z : Pattern = record { upper = m; place = x.place; lower = x.lower; rank = x.rank } in z) u
        ∙ ap (λ (c : ℕ). let z : Pattern = record { upper = y.upper; place = c; lower = x.lower; rank = x.rank } in z) c
        ∙ ap (λ (m : Mark). let z : Pattern = record { upper = y.upper; place = y.place; lower = m; rank = x.rank } in z) l

    at : (b : Bool) → eqs.eq-value.it (digram_of ns s.pattern) d ≡ b → IsKnown ns s.pattern.upper × IsKnown ns s.pattern.lower × (s.pattern.rank < 16) → hits 16 p s ≡ one_of (eqs.eq-value.it (digram_of ns s.pattern) d)
    at true x k =
        let q = digram-sound (digram_of ns s.pattern) d x ∙ sym e in
        let u = label-injective ns s.pattern.upper p.upper k.0 ku (ap (λ (v : Digram). v.upper) q) in
        let l = label-injective ns s.pattern.lower p.lower k.1 kl (ap (λ (v : Digram). v.lower) q) in
        let c : s.pattern.place ≡ p.place = ap (λ (v : Digram). v.place) q in
        hit 16 p s k.2 (fields s.pattern p u c l) ∙ ap one_of (sym x)
    at false x k = miss 16 p s (λ r h z. differ z) ∙ ap one_of (sym x)
      where
        differ : {r : ℕ} → s.pattern ≡ with_rank p r → ⊥
        differ z = let w = digram-same (digram_of ns s.pattern) d (ap (digram_of ns) z ∙ e) in let v : true ≡ false = sym w ∙ x in cc

-- a digram with a call of a rule that is not there is in no cell
pub no-cells : (ns : List ℕ) (d : Digram) (ss : List (Option Spot)) → ((p : Pattern) → IsKnown ns p.upper → IsKnown ns p.lower → digram_of ns p ≢ d)
    → ((k : ℕ) (s : Spot) → get_or ss k None ≡ Some s → IsKnown ns s.pattern.upper × IsKnown ns s.pattern.lower × (s.pattern.rank < 16))
    → cell_count d (map (cell_of ns) ss) ≡ 0
no-cells ns d [] h K = refl
no-cells ns d (None ∷ ss) h K = no-cells ns d ss h (λ k. K (suc k))
no-cells ns d (Some s ∷ ss) h K =
    let again = no-cells ns d ss h (λ k. K (suc k)) in
    let o = at (eqs.eq-value.it (digram_of ns s.pattern) d) refl in
    omega arith
  where
    at : (b : Bool) → eqs.eq-value.it (digram_of ns s.pattern) d ≡ b → one_of (eqs.eq-value.it (digram_of ns s.pattern) d) ≡ 0
    at true x = absurd (let k = K 0 s refl in h s.pattern k.0 k.1 (digram-sound (digram_of ns s.pattern) d x))
    at false x = ap one_of x

-- a label of a mark that is known is no call of a rule that is not there
pub unknown-label : (ns : List ℕ) (m : Mark) (q : ℕ) → IsKnown ns m → length ns ≤ q → label_of ns m ≡ CallLabel q → ⊥
unknown-label ns Bottom q k h e = let z : BottomLabel ≡ CallLabel q = e in cc
unknown-label ns (Symbol f) q k h e = let z : SymbolLabel f ≡ CallLabel q = e in cc
unknown-label ns (Call n) q k h e = let z = call-same (place_of ns n) q e in omega arith
unknown-label ns Param q k h e = let z : ParamLabel ≡ CallLabel q = e in cc
