-- Tables by place of a pair and down state: equal keys are identical.
use Rattle.std.specs.Map.{lookup}
use Rattle.std.proofs.lemmas.List.Elements.{All-cons, All-head, All-nil, All-tail}
use Rattle.std.proofs.lemmas.Bool.{eqb-true, eq-eqb}
use Rattle.std.proofs.lemmas.Option.{slice_get_within, get_or_from_slice_get}
use Rattle.std.proofs.Common.{◌≡◌, ◌≢◌, ◌&&◌, Bool, true, false, nat_eq, ℕ, List, [], ◌∷◌, Some, None, Contains, slice_get, refl, sym, ap, ◌∙◌, cond, All}
use Rattle.rule_runs.specs.declared.spots.Spot.{Spot}
use Rattle.rule_runs.proofs.Entries.{both}

-- whether spots are equal
abbrev pub test : {D : Type 0} → (D → D → Bool) → Spot D → Spot D → Bool
test E p q = nat_eq p.pair q.pair && E p.down q.down

pub same-spot : {D : Type 0} (E : D → D → Bool) → ((a b : D) → E a b ≡ true → a ≡ b) → (p q : Spot D) → test E p q ≡ true → p ≡ q
same-spot E same p q e =
    let b = both (nat_eq p.pair q.pair) (E p.down q.down) e in
    let r : p.pair ≡ q.pair = eqb-true p.pair q.pair b.0 in
    let s = same p.down q.down b.1 in
    ap (λ (x : ℕ). record { pair = x; down = p.down }) r ∙ ap (λ (y : _). record { pair = q.pair; down = y }) s

pub spot-same : {D : Type 0} (E : D → D → Bool) → ((a : D) → E a a ≡ true) → (p q : Spot D) → p ≡ q → test E p q ≡ true
spot-same {D} E same p q e =
    rw e (rw (eq-eqb q.pair q.pair refl, same q.down) refl)

module _ {K X : Type 0} (E : K → K → Bool) where
  -- an entry that is found by its key
  pub found-in : ((a b : K) → E a b ≡ true → a ≡ b) → (p k : K) (es : List (K × X)) (i : ℕ) (x : X) → slice_get es i ≡ Some (k, x) → E p k ≡ true → Contains es (p, x)
  found-in same p k es i x e t = (i, slice_get_within es i (k, x) e, get_or_from_slice_get es i (k, x) (p, x) e ∙ ap (λ (k : K). (k, x)) (sym (same p k t)))

  cons-absent : (b : Bool) (p : K) (e : K × X) (es : List (K × X)) → (p ≡ e.0 → b ≡ true) → cond b (Some e.1) (lookup (E p) es) ≡ None → (lookup (E p) es ≡ None → All (λ e. e.0 ≢ p) es) → All (λ e. e.0 ≢ p) (e ∷ es)
  cons-absent true p e es k f rest = absurd (cc)
  cons-absent false p e es k f rest = All-cons (λ (e : K × X). e.0 ≢ p) e es (λ h. let c = k (sym h) in absurd (cc)) (rest f)

  pub absent-from : ((a b : K) → a ≡ b → E a b ≡ true) → (p : K) (es : List (K × X)) → lookup (E p) es ≡ None → All (λ e. e.0 ≢ p) es
  absent-from alike p [] f = All-nil (λ (e : K × X). e.0 ≢ p)
  absent-from alike p (e ∷ es) f = cons-absent (E p e.0) p e es (alike p e.0) f (absent-from alike p es)

  cons-none : (b : Bool) (p : K) (e : K × X) (es : List (K × X)) → (b ≡ true → p ≡ e.0) → (e.0 ≢ p) → lookup (E p) es ≡ None → cond b (Some e.1) (lookup (E p) es) ≡ None
  cons-none true p e es k n r = absurd (n (sym (k refl)))
  cons-none false p e es k n r = r

  pub looked-up-none : ((a b : K) → E a b ≡ true → a ≡ b) → (p : K) (es : List (K × X)) → All (λ e. e.0 ≢ p) es → lookup (E p) es ≡ None
  looked-up-none same p [] a = refl
  looked-up-none same p (e ∷ es) a =
      let P : K × X → Type 0 = λ e. e.0 ≢ p in
      cons-none (E p e.0) p e es (same p e.0) (All-head P e es a) (looked-up-none same p es (All-tail P e es a))
