-- Nodes of which those with one key are flagged: a symbol over a bottom stands above each.
use Rattle.std.proofs.Common.{◌≡◌, ◌≢◌, ℕ, zero, suc, ◌+◌, ◌≤◌, List, [], ◌∷◌, ◌++◌, map, take, Some, Bool, true, false, refl, ap, ◌∙◌, subst, arith, eqb}
use Rattle.std.proofs.lemmas.Bool.{eq-eqb, eqb-true, ne_eqb}
use Rattle.rule_arena.specs.Preorder.{AreTerms}
use Rattle.rule_arena.specs.Terms.{Node, key_in}
use Rattle.rule_arena.specs.declared.key.Key.{Key}
use Rattle.rule_arena.specs.declared.label.Label.{Label}
use Rattle.rule_arena.specs.declared.label.Label.TheVariants.{Bottom, Symbol, Call, Param}
use Rattle.rule_arena.proofs.CellLemmas.{key_is}
use Rattle.slt_grammar.specs.Bodies.{arity, params}
use Rattle.slt_grammar.specs.Keyed.{labels_of}
use Rattle.slt_grammar.proofs.FoldedRules.{flat}
use Rattle.slt_grammar.proofs.Substitutions.{joined}

-- whether a node has the key
abbrev pub has_key : Key → Node → Bool
has_key key n = eqb n.key.number key.number

abbrev pub flag : Bool → ℕ → List Label → List Label
flag true f ls = Symbol f ∷ Bottom ∷ ls
flag false f ls = ls

-- the labels of nodes, with a flag above each node of this key
abbrev pub flagged : Key → ℕ → List Node → List Label
flagged key f [] = []
flagged key f (n ∷ ns) = flag (has_key key n) f (n.label ∷ flagged key f ns)

abbrev pub one_if : Bool → ℕ
one_if true = 1
one_if false = 0

-- how often a key stands among nodes
abbrev pub times : Key → List Node → ℕ
times key [] = 0
times key (n ∷ ns) = one_if (has_key key n) + times key ns

pub same-key : (a b : Key) → a.number ≡ b.number → a ≡ b
same-key a b e = key_is a b.number e

pub has-key : (key : Key) (n : Node) → n.key ≡ key → has_key key n ≡ true
has-key key n e = eq-eqb n.key.number key.number (ap (λ (k : Key). k.number) e)

pub has-other : (key : Key) (n : Node) → n.key ≢ key → has_key key n ≡ false
has-other key n d = ne_eqb n.key.number key.number (λ e. d (same-key n.key key e))

-- lists one after another
flag-append : (b : Bool) (f : ℕ) (xs ys : List Label) → flag b f (xs ++ ys) ≡ flag b f xs ++ ys
flag-append true f xs ys = refl
flag-append false f xs ys = refl

pub flagged-append : (key : Key) (f : ℕ) (xs ys : List Node) → flagged key f (xs ++ ys) ≡ flagged key f xs ++ flagged key f ys
flagged-append key f [] ys = refl
flagged-append key f (x ∷ xs) ys =
    ap (λ ls. flag (has_key key x) f (x.label ∷ ls)) (flagged-append key f xs ys)
    ∙ flag-append (has_key key x) f (x.label ∷ flagged key f xs) (flagged key f ys)

pub flagged-flat : (key : Key) (f : ℕ) (gs : List (List Node)) → flagged key f (flat gs) ≡ joined (map (flagged key f) gs)
flagged-flat key f [] = refl
flagged-flat key f (g ∷ gs) = flagged-append key f g (flat gs) ∙ ap (λ ls. flagged key f g ++ ls) (flagged-flat key f gs)

pub times-append : (key : Key) (xs ys : List Node) → times key (xs ++ ys) ≡ times key xs + times key ys
times-append key [] ys = omega arith
times-append key (x ∷ xs) ys = omega (arith, times-append key xs ys)

-- a node of another key
pub flagged-other : (key : Key) (f : ℕ) (n : Node) (ns : List Node) → n.key ≢ key → flagged key f (n ∷ ns) ≡ n.label ∷ flagged key f ns
flagged-other key f n ns d = ap (λ b. flag b f (n.label ∷ flagged key f ns)) (has-other key n d)

pub times-other : (key : Key) (n : Node) (ns : List Node) → n.key ≢ key → times key (n ∷ ns) ≡ times key ns
times-other key n ns d = omega (arith, ap one_if (has-other key n d))

-- where the key stands
pub stands-times : (key : Key) (ns : List Node) (p : ℕ) → key_in ns p ≡ Some key → 1 ≤ times key ns
stands-times key [] p e = absurd (let z : key_in [] p ≡ Some key = e in cc)
stands-times key (n ∷ ns) zero e = let z : n.key ≡ key = (let y : Some n.key ≡ Some key = e in cc) in omega (arith, ap one_if (has-key key n z))
stands-times key (n ∷ ns) (suc p) e = omega (arith, stands-times key ns p e)

pub times-stands : (key : Key) (ns : List Node) → 1 ≤ times key ns → (p : ℕ) × (key_in ns p ≡ Some key)
times-stands key [] h = absurd (omega arith)
times-stands key (n ∷ ns) h = at (has_key key n) refl (λ l. times-stands key ns l)
  where
    at : (b : Bool) → has_key key n ≡ b → (1 ≤ times key ns → (p : ℕ) × (key_in ns p ≡ Some key)) → (p : ℕ) × (key_in (n ∷ ns) p ≡ Some key)
    at true e ih = (0, ap (λ (k : Key). Some k) (same-key n.key key (eqb-true n.key.number key.number e)))
    at false e ih = let s = ih (omega (arith, h, ap one_if e)) in (suc s.0, s.1)

-- a key that stands at one place at most
pub times-once : (key : Key) (ns : List Node) → ((i j : ℕ) → key_in ns i ≡ Some key → key_in ns j ≡ Some key → i ≡ j) → times key ns ≤ 1
times-once key [] once = omega arith
times-once key (n ∷ ns) once = at (has_key key n) refl (times-once key ns (λ i j a b. let e : suc i ≡ suc j = once (suc i) (suc j) a b in omega (arith, e)))
  where
    none : (m : ℕ) → times key ns ≡ m → n.key ≡ key → m ≡ 0
    none zero e k = refl
    none (suc m) e k =
        let s = times-stands key ns (omega (arith, e)) in
        absurd (let z : 0 ≡ suc s.0 = once 0 (suc s.0) (ap (λ (x : Key). Some x) k) s.1 in omega (arith, z))

    at : (b : Bool) → has_key key n ≡ b → times key ns ≤ 1 → one_if (has_key key n) + times key ns ≤ 1
    at true e ih = let z = none (times key ns) refl (same-key n.key key (eqb-true n.key.number key.number e)) in omega (arith, z, ap one_if e)
    at false e ih = omega (arith, ih, ap one_if e)

-- the flag of a key that stands once comes behind the labels before it
pub flagged-split : (key : Key) (f : ℕ) (ns : List Node) (p : ℕ) → key_in ns p ≡ Some key → times key ns ≤ 1 → (rest : List Label) × (flagged key f ns ≡ labels_of (take p ns) ++ (Symbol f ∷ rest))
flagged-split key f [] p e h = absurd (let z : key_in [] p ≡ Some key = e in cc)
flagged-split key f (n ∷ ns) zero e h =
    let z : n.key ≡ key = (let y : Some n.key ≡ Some key = e in cc) in
    (Bottom ∷ (n.label ∷ flagged key f ns), ap (λ b. flag b f (n.label ∷ flagged key f ns)) (has-key key n z))
flagged-split key f (n ∷ ns) (suc p) e h = at (has_key key n) refl (λ l. flagged-split key f ns p e l)
  where
    at : (b : Bool) → has_key key n ≡ b → (times key ns ≤ 1 → (rest : List Label) × (flagged key f ns ≡ labels_of (take p ns) ++ (Symbol f ∷ rest)))
        → (rest : List Label) × (flagged key f (n ∷ ns) ≡ labels_of (take (suc p) (n ∷ ns)) ++ (Symbol f ∷ rest))
    at true b ih = absurd (omega (arith, h, stands-times key ns p e, ap one_if b))
    at false b ih =
        let s = ih (omega (arith, h, ap one_if b)) in
        (s.0, ap (λ x. flag x f (n.label ∷ flagged key f ns)) b ∙ ap (λ ls. n.label ∷ ls) s.1)

-- flagged terms are terms, with the same parameters
flag-terms : (ranks : List ℕ) (b : Bool) (f n : ℕ) (ls : List Label) → AreTerms (arity ranks) (suc n) ls → AreTerms (arity ranks) (suc n) (flag b f ls)
flag-terms ranks true f n ls t =
    let ar = arity ranks in
    let a : suc n ≡ 0 + suc n = omega arith in
    let b : suc (suc n) ≡ 2 + n = omega arith in
    let inner : AreTerms ar (suc (suc n)) (Bottom ∷ ls) = subst (λ (m : ℕ). AreTerms ar m ls) a t in
    subst (λ (m : ℕ). AreTerms ar m (Bottom ∷ ls)) b inner
flag-terms ranks false f n ls t = t

pub flagged-terms : (ranks : List ℕ) (key : Key) (f n : ℕ) (ns : List Node) → AreTerms (arity ranks) n (labels_of ns) → AreTerms (arity ranks) n (flagged key f ns)
flagged-terms ranks key f zero [] t = tt
flagged-terms ranks key f zero (m ∷ ns) t = absurd t
flagged-terms ranks key f (suc n) [] t = absurd t
flagged-terms ranks key f (suc n) (m ∷ ns) t = flag-terms ranks (has_key key m) f n (m.label ∷ flagged key f ns) (flagged-terms ranks key f (arity ranks m.label + n) ns t)

flag-params : (b : Bool) (f : ℕ) (ls : List Label) → params (flag b f ls) ≡ params ls
flag-params true f ls = refl
flag-params false f ls = refl

pub flagged-params : (key : Key) (f : ℕ) (ns : List Node) → params (flagged key f ns) ≡ params (labels_of ns)
flagged-params key f [] = refl
flagged-params key f (n ∷ ns) = flag-params (has_key key n) f (n.label ∷ flagged key f ns) ∙ at n.label (flagged-params key f ns)
  where
    at : (l : Label) → params (flagged key f ns) ≡ params (labels_of ns) → params (l ∷ flagged key f ns) ≡ params (l ∷ labels_of ns)
    at Bottom ih = ih
    at (Symbol g) ih = ih
    at (Call q) ih = ih
    at Param ih = ap suc ih
