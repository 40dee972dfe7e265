-- The body of a rule for a digram.
use Rattle.std.proofs.Common.{◌≡◌, ◌≢◌, ◌-◌, ◌≤◌, ℕ, length, length-append, subst, zero, suc, ◌+◌, List, [], ◌∷◌, ◌++◌, refl, sym, ap, ◌∙◌, arith, append_assoc}
use Rattle.rule_arena.specs.declared.label.Label.{Label}
use Rattle.rule_arena.specs.Preorder.{AreTerms}
use Rattle.slt_grammar.specs.Names.{Bottom, Symbol, Call, Param}
use Rattle.slt_grammar.specs.Bodies.{arity, params, CallsBelow}
use Rattle.slt_grammar.specs.RulePuts.{IsLawfulBefore}
use Rattle.slt_grammar.specs.declared.rules.Rule.{Rule}
use Rattle.slt_grammar.specs.Algebras.{ranks_of}
use Rattle.slt_grammar.specs.KeyedEdits.{parameters, digram_body}

parameters-next : (n : ℕ) → parameters n ++ Param ∷ [] ≡ parameters (suc n)
parameters-next zero = refl
parameters-next (suc n) = ap (λ (ls : List Label). Param ∷ ls) (parameters-next n)

-- one parameter more
pub parameter-pushed : (ls ms : List Label) (n : ℕ) → ms ≡ ls ++ parameters n → ms ++ Param ∷ [] ≡ ls ++ parameters (n + 1)
parameter-pushed ls ms n e =
    let z : suc n ≡ n + 1 = omega arith in
    ap (λ (x : List Label). x ++ Param ∷ []) e ∙ append_assoc ls (parameters n) (Param ∷ []) ∙ ap (λ (x : List Label). ls ++ x) (parameters-next n ∙ ap parameters z)

-- parameters are terms
terms-parameters : (ranks : List ℕ) (c n : ℕ) (ls : List Label) → AreTerms (arity ranks) n ls → AreTerms (arity ranks) (c + n) (parameters c ++ ls)
terms-parameters ranks zero n ls t = let z : n ≡ zero + n = omega arith in subst (λ (k : ℕ). AreTerms (arity ranks) k ls) z t
terms-parameters ranks (suc c) n ls t =
    let z : suc (c + n) ≡ suc c + n = omega arith in
    let y : c + n ≡ 0 + (c + n) = omega arith in
    subst (λ (k : ℕ). AreTerms (arity ranks) k (Param ∷ (parameters c ++ ls))) z (subst (λ (k : ℕ). AreTerms (arity ranks) k (parameters c ++ ls)) y (terms-parameters ranks c n ls t))

only-parameters : (ranks : List ℕ) (k : ℕ) → AreTerms (arity ranks) k (parameters k)
only-parameters ranks zero = tt
only-parameters ranks (suc k) = let y : k ≡ 0 + k = omega arith in subst (λ (n : ℕ). AreTerms (arity ranks) n (parameters k)) y (only-parameters ranks k)

params-append : (c : ℕ) (ls : List Label) → params (parameters c ++ ls) ≡ c + params ls
params-append zero ls = omega arith
params-append (suc c) ls = let e = params-append c ls in omega (arith, e)

params-only : (k : ℕ) → params (parameters k) ≡ k
params-only zero = refl
params-only (suc k) = ap suc (params-only k)

length-parameters : (k : ℕ) → length (parameters k) ≡ k
length-parameters zero = refl
length-parameters (suc k) = ap suc (length-parameters k)

pub length-digram : (ranks : List ℕ) (u l : Label) (c : ℕ) → length (digram_body ranks u c l) ≡ 2 + (c + (arity ranks l + (arity ranks u - suc c)))
length-digram ranks u l c =
    let k : ℕ = arity ranks l + (arity ranks u - suc c) in
    omega (arith, length-append (parameters c) (l ∷ parameters k), length-parameters c, length-parameters k)

params-real : (l : Label) (ls : List Label) → l ≢ Param → params (l ∷ ls) ≡ params ls
params-real Bottom ls n = refl
params-real (Symbol f) ls n = refl
params-real (Call q) ls n = refl
params-real Param ls n = absurd (n refl)

below-parameters : (n c : ℕ) (ls : List Label) → CallsBelow n ls → CallsBelow n (parameters c ++ ls)
below-parameters n zero ls b = b
below-parameters n (suc c) ls b = below-parameters n c ls b

below-only : (n k : ℕ) → CallsBelow n (parameters k)
below-only n zero = tt
below-only n (suc k) = below-only n k

below-both : (n : ℕ) (u l : Label) (c k : ℕ) → CallsBelow n (u ∷ l ∷ []) → CallsBelow n (u ∷ (parameters c ++ (l ∷ parameters k)))
below-both n u l c k b = upper u b
  where
    lower : (l : Label) → CallsBelow n (l ∷ []) → CallsBelow n (parameters c ++ (l ∷ parameters k))
    lower Bottom b = below-parameters n c (Bottom ∷ parameters k) (below-only n k)
    lower (Symbol f) b = below-parameters n c (Symbol f ∷ parameters k) (below-only n k)
    lower (Call q) b = below-parameters n c (Call q ∷ parameters k) (b.0, below-only n k)
    lower Param b = below-parameters n c (Param ∷ parameters k) (below-only n k)

    upper : (u : Label) → CallsBelow n (u ∷ l ∷ []) → CallsBelow n (u ∷ (parameters c ++ (l ∷ parameters k)))
    upper Bottom b = lower l b
    upper (Symbol f) b = lower l b
    upper (Call q) b = (b.0, lower l b.1)
    upper Param b = lower l b

-- a digram over parameters is a lawful body
pub digram-lawful : (G : List Rule) (place c n : ℕ) (u l : Label) (body : List Label) → body ≡ digram_body (ranks_of G) u c l → n ≡ length body - 2 → suc c ≤ arity (ranks_of G) u → arity (ranks_of G) u + arity (ranks_of G) l - 1 ≤ 8 → u ≢ Param → l ≢ Param
    → CallsBelow place (u ∷ l ∷ []) → IsLawfulBefore G place n body
digram-lawful G place c n u l body e len fits small up low below =
    let ranks : List ℕ = ranks_of G in
    let k : ℕ = arity ranks l + (arity ranks u - suc c) in
    let made : List Label = u ∷ (parameters c ++ (l ∷ parameters k)) in
    let z : c + suc (arity ranks u - suc c) ≡ arity ranks u + 0 = omega (arith, fits) in
    let t : AreTerms (arity ranks) (suc (arity ranks u - suc c)) (l ∷ parameters k) = only-parameters ranks k in
    let p : params made ≡ c + k = params-real u (parameters c ++ (l ∷ parameters k)) up ∙ params-append c (l ∷ parameters k) ∙ ap (λ (j : ℕ). c + j) (params-real l (parameters k) low ∙ params-only k) in
    let s : length made ≡ 2 + (c + k) = length-digram ranks u l c in
    let v : n ≡ c + k = omega (arith, len, ap length e, s) in
    subst (λ (ls : List Label). IsLawfulBefore G place n ls) (sym e) (record {
      earlier = below-both place u l c k below;
      term = subst (λ (j : ℕ). AreTerms (arity ranks) j (parameters c ++ (l ∷ parameters k))) z (terms-parameters ranks c (suc (arity ranks u - suc c)) (l ∷ parameters k) t);
      small = omega (arith, v, small, fits);
      linear = p ∙ sym v;
    })
