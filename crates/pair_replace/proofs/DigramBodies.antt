-- What stands in a digram over parameters.
use Rattle.std.proofs.Common.{◌≡◌, ◌≢◌, ◌+◌, ◌-◌, ◌⊎◌, inl, inr, ℕ, zero, suc, List, [], ◌∷◌, ◌++◌, map, drop, Some, slice_get, refl, ap, sym, ◌∙◌, arith}
use Rattle.std.specs.Prelude.{if◌then◌else◌, eqb}
use Rattle.rule_arena.specs.Preorder.{roots, span}
use Rattle.rule_arena.specs.Terms.{Node, kids_of, key_of, key_in, kids_in}
use Rattle.rule_arena.specs.declared.key.Key.{Key}
use Rattle.rule_arena.specs.declared.label.Label.{Label}
use Rattle.slt_grammar.specs.Names.{Bottom, Symbol, Call, Param}
use Rattle.slt_grammar.specs.Bodies.{arity, calls_in, real_nodes}
use Rattle.slt_grammar.specs.Keyed.{labels_of}
use Rattle.slt_grammar.specs.KeyedEdits.{parameters, digram_body}
use Rattle.slt_grammar.proofs.Agreeing.{Agree}

real-parameters : (c : ℕ) (ls : List Label) → real_nodes (parameters c ++ ls) ≡ real_nodes ls
real-parameters zero ls = refl
real-parameters (suc c) ls = real-parameters c ls

real-only : (k : ℕ) → real_nodes (parameters k) ≡ 0
real-only zero = refl
real-only (suc k) = real-only k

real-one : (l : Label) (ls : List Label) → l ≢ Param → real_nodes (l ∷ ls) ≡ suc (real_nodes ls)
real-one Bottom ls n = refl
real-one (Symbol f) ls n = refl
real-one (Call q) ls n = refl
real-one Param ls n = absurd (n refl)

-- it has two nodes that are no parameters
pub two-real : (ranks : List ℕ) (u l : Label) (c : ℕ) → u ≢ Param → l ≢ Param → real_nodes (digram_body ranks u c l) ≡ 2
two-real ranks u l c a b =
    let k : ℕ = arity ranks l + (arity ranks u - suc c) in
    let x = real-one u (parameters c ++ (l ∷ parameters k)) a in
    let y = real-parameters c (l ∷ parameters k) in
    let z = real-one l (parameters k) b in
    let w = real-only k in
    omega arith

calls-parameters : (q c : ℕ) (ls : List Label) → calls_in q (parameters c ++ ls) ≡ calls_in q ls
calls-parameters q zero ls = refl
calls-parameters q (suc c) ls = calls-parameters q c ls

calls-only : (q k : ℕ) → calls_in q (parameters k) ≡ 0
calls-only q zero = refl
calls-only q (suc k) = calls-only q k

calls-behind : (q : ℕ) (l : Label) (ls ms : List Label) → calls_in q ls ≡ calls_in q ms → calls_in q (l ∷ ls) ≡ calls_in q (l ∷ ms)
calls-behind q Bottom ls ms e = e
calls-behind q (Symbol f) ls ms e = e
calls-behind q (Call x) ls ms e = ap (λ (k : ℕ). (if eqb x q then 1 else 0) + k) e
calls-behind q Param ls ms e = e

-- it calls what its two labels call
pub calls-digram : (ranks : List ℕ) (u l : Label) (c q : ℕ) → calls_in q (digram_body ranks u c l) ≡ calls_in q (u ∷ l ∷ [])
calls-digram ranks u l c q =
    let k : ℕ = arity ranks l + (arity ranks u - suc c) in
    calls-behind q u (parameters c ++ (l ∷ parameters k)) (l ∷ []) (calls-parameters q c (l ∷ parameters k) ∙ calls-behind q l (parameters k) [] (calls-only q k))

in-parameters : (k p : ℕ) (m : Label) → slice_get (parameters k) p ≡ Some m → m ≡ Param
in-parameters zero p m e = absurd (cc)
in-parameters (suc k) zero m e = let z : Param ≡ m = cc in sym z
in-parameters (suc k) (suc p) m e = in-parameters k p m e

behind-root : (c k p : ℕ) (l m : Label) → slice_get (parameters c ++ (l ∷ parameters k)) p ≡ Some m → (p ≡ c) ⊎ (m ≡ Param)
behind-root zero k zero l m e = inl refl
behind-root zero k (suc p) l m e = inr (in-parameters k p m e)
behind-root (suc c) k zero l m e = inr (let z : Param ≡ m = cc in sym z)
behind-root (suc c) k (suc p) l m e = up (behind-root c k p l m e)
  where
    up : (p ≡ c) ⊎ (m ≡ Param) → (suc p ≡ suc c) ⊎ (m ≡ Param)
    up (inl x) = inl (ap suc x)
    up (inr x) = inr x

-- each label but those two is a parameter
pub others-parameters : (ranks : List ℕ) (u l m : Label) (c p : ℕ) → slice_get (digram_body ranks u c l) p ≡ Some m → (p ≡ 0) ⊎ ((p ≡ suc c) ⊎ (m ≡ Param))
others-parameters ranks u l m c zero e = inl refl
others-parameters ranks u l m c (suc p) e = inr (up (behind-root c (arity ranks l + (arity ranks u - suc c)) p l m e))
  where
    up : (p ≡ c) ⊎ (m ≡ Param) → (suc p ≡ suc c) ⊎ (m ≡ Param)
    up (inl x) = inl (ap suc x)
    up (inr x) = inr x

drop-none : (ns : List Node) → drop 0 ns ≡ ns
drop-none [] = refl
drop-none (n ∷ ns) = refl

-- a root behind parameters stands at its place among the roots
behind-parameters : (ranks : List ℕ) (c n : ℕ) (ns : List Node) (l : Label) (ms : List Label) (key : Key) → labels_of ns ≡ parameters c ++ (l ∷ ms) → Agree ranks ns
    → slice_get (map key_of (roots kids_of n ns)) c ≡ Some key → key_in ns c ≡ Some key
behind-parameters ranks c zero ns l ms key e a s = absurd (cc)
behind-parameters ranks c (suc n) [] l ms key e a s = absurd (cc)
behind-parameters ranks zero (suc n) (x ∷ ns) l ms key e a s = s
behind-parameters ranks (suc c) (suc n) (x ∷ ns) l ms key e a s =
    let p : x.label ≡ Param = cc in
    let f : labels_of ns ≡ parameters c ++ (l ∷ ms) = cc in
    let k : x.kids ≡ 0 = a.0 ∙ ap (arity ranks) p in
    let d : drop (span kids_of x.kids ns) ns ≡ ns = ap (λ (j : ℕ). drop (span kids_of j ns) ns) k ∙ drop-none ns in
    behind-parameters ranks c n ns l ms key f a.1 (ap (λ (xs : List Node). slice_get (map key_of (roots kids_of n xs)) c) (sym d) ∙ s)

-- the lower node of the digram is the root's child at the place
pub lower-key : (ranks ranks' : List ℕ) (u l : Label) (c : ℕ) (ns : List Node) (key : Key) → labels_of ns ≡ digram_body ranks' u c l → Agree ranks ns
    → slice_get (kids_in ns 0) c ≡ Some key → key_in ns (suc c) ≡ Some key
lower-key ranks ranks' u l c [] key e a s = absurd (cc)
lower-key ranks ranks' u l c (x ∷ ns) key e a s =
    let f : labels_of ns ≡ parameters c ++ (l ∷ parameters (arity ranks' l + (arity ranks' u - suc c))) = cc in
    behind-parameters ranks c x.kids ns l (parameters (arity ranks' l + (arity ranks' u - suc c))) key f a.1 s
