-- Scans of a body from a place on.
use Rattle.std.proofs.Common.{◌≡◌, ℕ, zero, suc, ◌+◌, ◌-◌, ◌<◌, ◌≤◌, List, [], ◌∷◌, length, get_or, drop, ap, arith, ◌↔◌, length-drop}
use Rattle.std.proofs.lemmas.List.{drop_more}
use Rattle.rule_arena.specs.Preorder.{AreTerms}
use Rattle.rule_arena.specs.declared.label.Label.{Label}
use Rattle.rule_arena.specs.declared.label.Label.TheVariants.{Bottom, Symbol, Call, Param}
use Rattle.slt_grammar.specs.Bodies.{arity, CallsBelow}

-- terms have labels, each one at least
pub terms-few : (ranks : List ℕ) (n : ℕ) (ls : List Label) → AreTerms (arity ranks) n ls → n ≤ length ls
terms-few ranks zero ls t = omega arith
terms-few ranks (suc n) [] t = absurd t
terms-few ranks (suc n) (l ∷ ls) t = omega (arith, terms-few ranks (arity ranks l + n) ls t)

terms-step : (ranks : List ℕ) (n : ℕ) (l : Label) (ls : List Label) → 0 < n → AreTerms (arity ranks) n (l ∷ ls) ≡ AreTerms (arity ranks) (n - 1 + arity ranks l) ls
terms-step ranks zero l ls h = absurd (omega arith)
terms-step ranks (suc n) l ls h = let e : arity ranks l + n ≡ suc n - 1 + arity ranks l = omega arith in ap (λ k. AreTerms (arity ranks) k ls) e

terms-next : (ranks : List ℕ) (n i : ℕ) (body : List Label) (d : Label) → 0 < n → i < length body
    → AreTerms (arity ranks) n (drop i body) ≡ AreTerms (arity ranks) (n - 1 + arity ranks (get_or body i d)) (drop (i + 1) body)
terms-next ranks n i body d h k = rw (drop_more body i d k) (terms-step ranks n (get_or body i d) (drop (i + 1) body) h)

-- where the calls name earlier rules of small ranks, no node has many children
pub arity-small : (ranks : List ℕ) (rule : ℕ) (i : ℕ) (body : List Label) → CallsBelow rule body → ((q : ℕ) → q < rule → get_or ranks q 0 ≤ 8) → arity ranks (get_or body i Bottom) ≤ 8
arity-small ranks rule i [] c s = omega arith
arity-small ranks rule zero (Bottom ∷ ls) c s = omega arith
arity-small ranks rule zero (Symbol f ∷ ls) c s = omega arith
arity-small ranks rule zero (Param ∷ ls) c s = omega arith
arity-small ranks rule zero (Call q ∷ ls) c s = s q c.0
arity-small ranks rule (suc i) (Bottom ∷ ls) c s = arity-small ranks rule i ls c s
arity-small ranks rule (suc i) (Symbol f ∷ ls) c s = arity-small ranks rule i ls c s
arity-small ranks rule (suc i) (Param ∷ ls) c s = arity-small ranks rule i ls c s
arity-small ranks rule (suc i) (Call q ∷ ls) c s = arity-small ranks rule i ls c.1 s

pub none_left : (ranks : List ℕ) (n i : ℕ) (body : List Label) → n ≡ 0 → i < length body → AreTerms (arity ranks) n (drop i body) → ⊥
none_left ranks n i body e h t =
    let u : AreTerms (arity ranks) 0 (drop i body) = rw e at t in
    rw (drop_more body i Bottom h) at u

pub too_many : (ranks : List ℕ) (n i : ℕ) (body : List Label) → length body - i < n → AreTerms (arity ranks) n (drop i body) → ⊥
too_many ranks n i body h t = absurd (omega (arith, terms-few ranks n (drop i body) t, length-drop i body))

pub kept : (ranks : List ℕ) (n i a : ℕ) (body : List Label) (d : Label) (P : Type 0) → (n ≡ 0 → ⊥) → i < length body → a ≡ arity ranks (get_or body i d)
    → AreTerms (arity ranks) n (drop i body) ↔ P → AreTerms (arity ranks) (n - 1 + a) (drop (i + 1) body) ↔ P
kept ranks n i a body d P h k e r =
    let p : 0 < n = omega arith in
    rw (e, ← terms-next ranks n i body d p k) r
