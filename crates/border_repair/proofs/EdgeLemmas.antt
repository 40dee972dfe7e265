-- Edges and digrams that are told apart by tests.
use Rattle.std.proofs.Common.{rules, ◌≡◌, ◌≢◌, ◌⊎◌, inl, inr, ℕ, suc, ◌+◌, ◌*◌, List, [], ◌∷◌, Bool, true, false, cond, Some, slice_get, eqb, refl, ap, sym, ◌∙◌, arith}
use Rattle.std.proofs.lemmas.Bool.Decides.{eqb_tells}
use Rattle.std.specs.Map.{lookup}
use Rattle.std.specs.Option.{unwrap_or}
use Rattle.rule_arena.specs.declared.label.Label.{Label}
use Rattle.rule_arena.specs.declared.label.Label.TheVariants.{Bottom, Symbol, Call, Param}
use Rattle.slt_grammar.specs.declared.digram.Digram.{Digram}
use Rattle.border_repair.specs.Counted.{counted, counted_edge, counted_under, digram_of}
use Rattle.border_repair.specs.Digrams.{same_label, is}
use Rattle.border_repair.specs.SameEdges.{is_same}
use Rattle.border_repair.specs.declared.edge.Edge.{Edge}

pub same_edge : (x y : Edge) → is_same x y ≡ true → x ≡ y
same_edge x y e = search rules

pub same_itself : (x : Edge) → is_same x x ≡ true
same_itself x = search rules

abbrev Tells : Bool → Type 0 → Type 0
Tells b P = ((b ≡ true) × P) ⊎ ((b ≡ false) × (P → ⊥))

number-tells : {X : Type 0} (make : ℕ → X) → ((a b : ℕ) → make a ≡ make b → a ≡ b) → (a b : ℕ) → Tells (eqb a b) (make a ≡ make b)
number-tells make one a b = by_test (eqb_tells a b) where
  by_test : ((eqb a b ≡ true) × (a ≡ b)) ⊎ ((eqb a b ≡ false) × (a ≢ b)) → Tells (eqb a b) (make a ≡ make b)
  by_test (inl x) = inl (x.0, ap make x.1)
  by_test (inr x) = inr (x.0, λ e. x.1 (one a b e))

label-tells : (a b : Label) → Tells (same_label a b) (a ≡ b)
label-tells Bottom Bottom = inl (refl, refl)
label-tells Bottom (Symbol g) = inr (refl, λ e. cc)
label-tells Bottom (Call p) = inr (refl, λ e. cc)
label-tells Bottom Param = inr (refl, λ e. cc)
label-tells (Symbol f) Bottom = inr (refl, λ e. cc)
label-tells (Symbol f) (Symbol g) = number-tells Symbol (λ a b e. cc) f g
label-tells (Symbol f) (Call p) = inr (refl, λ e. cc)
label-tells (Symbol f) Param = inr (refl, λ e. cc)
label-tells (Call q) Bottom = inr (refl, λ e. cc)
label-tells (Call q) (Symbol g) = inr (refl, λ e. cc)
label-tells (Call q) (Call p) = number-tells Call (λ a b e. cc) q p
label-tells (Call q) Param = inr (refl, λ e. cc)
label-tells Param Bottom = inr (refl, λ e. cc)
label-tells Param (Symbol g) = inr (refl, λ e. cc)
label-tells Param (Call p) = inr (refl, λ e. cc)
label-tells Param Param = inl (refl, refl)

same-digram : (d : Digram) (x : Edge) → d.upper ≡ Symbol x.upper → d.place ≡ x.place → d.lower ≡ x.lower → d ≡ digram_of x
same-digram d x u p l = λ i. record { upper = u i; place = p i; lower = l i }

-- a digram weighs one at itself and nothing elsewhere
pub is-tells : (d : Digram) (x : Edge) → ((is d x.upper x.place x.lower ≡ 1) × (d ≡ digram_of x)) ⊎ ((is d x.upper x.place x.lower ≡ 0) × (d ≢ digram_of x))
is-tells d x = by_tests (label-tells d.upper (Symbol x.upper)) (eqb_tells d.place x.place) (label-tells d.lower x.lower) where
  goal : Type 0
  goal = ((is d x.upper x.place x.lower ≡ 1) × (d ≡ digram_of x)) ⊎ ((is d x.upper x.place x.lower ≡ 0) × (d ≢ digram_of x))

  by_tests : Tells (same_label d.upper (Symbol x.upper)) (d.upper ≡ Symbol x.upper) → ((eqb d.place x.place ≡ true) × (d.place ≡ x.place)) ⊎ ((eqb d.place x.place ≡ false) × (d.place ≢ x.place))
      → Tells (same_label d.lower x.lower) (d.lower ≡ x.lower) → ((is d x.upper x.place x.lower ≡ 1) × (d ≡ digram_of x)) ⊎ ((is d x.upper x.place x.lower ≡ 0) × (d ≢ digram_of x))
  by_tests (inl a) (inl b) (inl c) = inl (rw (a.0, b.0, c.0) refl, same-digram d x a.1 b.1 c.1)
  by_tests (inl a) (inl b) (inr c) = inr (rw (a.0, b.0, c.0) refl, λ e. c.1 (ap (λ (z : Digram). z.lower) e))
  by_tests (inl a) (inr b) c = inr (rw (a.0, b.0) refl, λ e. b.1 (ap (λ (z : Digram). z.place) e))
  by_tests (inr a) b c = inr (rw a.0 refl, λ e. a.1 (ap (λ (z : Digram). z.upper) e))

pub counted-digram : (es : List (Edge × ℕ)) (x : Edge) → counted es (digram_of x) ≡ counted_edge es x
counted-digram es x = refl

-- a digram whose upper label is no symbol weighs nothing, and every other one is an edge
pub as-edge : (d : Digram) → ((x : Edge) × (d ≡ digram_of x)) ⊎ ((es : List (Edge × ℕ)) → counted es d ≡ 0)
as-edge d = by_upper d.upper refl where
  by_upper : (u : Label) → d.upper ≡ u → ((x : Edge) × (d ≡ digram_of x)) ⊎ ((es : List (Edge × ℕ)) → counted es d ≡ 0)
  by_upper Bottom e = inr (λ es. ap (λ u. counted_under es u d.place d.lower) e)
  by_upper (Symbol f) e = inl (record { upper = f; place = d.place; lower = d.lower }, same-digram d (record { upper = f; place = d.place; lower = d.lower }) e refl refl)
  by_upper (Call q) e = inr (λ es. ap (λ u. counted_under es u d.place d.lower) e)
  by_upper Param e = inr (λ es. ap (λ u. counted_under es u d.place d.lower) e)

-- an edge that is counted once more so often
pub counted-more : (es fs : List (Edge × ℕ)) (x : Edge) (n : ℕ) → ((q : Edge) → lookup (is_same q) fs ≡ cond (is_same x q) (Some (counted_edge es x + n)) (lookup (is_same q) es))
    → (d : Digram) → counted fs d ≡ counted es d + n * is d x.upper x.place x.lower
counted-more es fs x n h d = by_digram (is-tells d x) (as-edge d) where
  at : (y : Edge) → counted_edge fs y ≡ unwrap_or (cond (is_same x y) (Some (counted_edge es x + n)) (lookup (is_same y) es)) 0
  at y = ap (λ o. unwrap_or o 0) (h y)

  other : (y : Edge) (b : Bool) → is_same x y ≡ b → (x ≢ y) → counted_edge fs y ≡ counted_edge es y
  other y true e ne = absurd (ne (same_edge x y e))
  other y false e ne = at y ∙ ap (λ (b : Bool). unwrap_or (cond b (Some (counted_edge es x + n)) (lookup (is_same y) es)) 0) e

  own : counted_edge fs x ≡ counted_edge es x + n
  own = at x ∙ ap (λ (b : Bool). unwrap_or (cond b (Some (counted_edge es x + n)) (lookup (is_same x) es)) 0) (same_itself x)

  by_digram : ((is d x.upper x.place x.lower ≡ 1) × (d ≡ digram_of x)) ⊎ ((is d x.upper x.place x.lower ≡ 0) × (d ≢ digram_of x)) → ((y : Edge) × (d ≡ digram_of y)) ⊎ ((gs : List (Edge × ℕ)) → counted gs d ≡ 0)
      → counted fs d ≡ counted es d + n * is d x.upper x.place x.lower
  by_digram (inl a) b = let e = ap (counted fs) a.1 in let f = ap (counted es) a.1 in rw a.0 (omega (arith, e, f, own))
  by_digram (inr a) (inl (y, b)) =
      let ne : x ≢ y = λ e. a.1 (b ∙ sym (ap digram_of e)) in
      let o = other y (is_same x y) refl ne in
      let e = ap (counted fs) b in let f = ap (counted es) b in rw a.0 (omega (arith, e, f, o))
  by_digram (inr a) (inr b) = rw a.0 (omega (arith, b es, b fs))

-- where a look-up finds a value
pub looked-up : (es : List (Edge × ℕ)) (x : Edge) → (counted_edge es x ≡ 0) ⊎ ((k : ℕ) × (slice_get es k ≡ Some (x, counted_edge es x)))
looked-up [] x = inl refl
looked-up ((y, n) ∷ es) x = by_test (is_same x y) refl (looked-up es x) where
  step : (b : Bool) → is_same x y ≡ b → counted_edge ((y, n) ∷ es) x ≡ unwrap_or (cond b (Some n) (lookup (is_same x) es)) 0
  step b e = ap (λ (c : Bool). unwrap_or (cond c (Some n) (lookup (is_same x) es)) 0) e

  by_test : (b : Bool) → is_same x y ≡ b → (counted_edge es x ≡ 0) ⊎ ((k : ℕ) × (slice_get es k ≡ Some (x, counted_edge es x)))
      → (counted_edge ((y, n) ∷ es) x ≡ 0) ⊎ ((k : ℕ) × (slice_get ((y, n) ∷ es) k ≡ Some (x, counted_edge ((y, n) ∷ es) x)))
  by_test true e ih = let s = same_edge x y e in inr (0, ap (λ (p : Edge × ℕ). Some p) (let k : n ≡ counted_edge ((y, n) ∷ es) x = sym (step true e) in cc))
  by_test false e (inl z) = inl (step false e ∙ z)
  by_test false e (inr (k, there)) = inr (suc k, there ∙ ap (λ m. Some (x, m)) (sym (step false e)))

-- an edge weighs one at its own digram
pub own-weighs : (x : Edge) → is (digram_of x) x.upper x.place x.lower ≡ 1
own-weighs x = by_digram (is-tells (digram_of x) x) where
  by_digram : ((is (digram_of x) x.upper x.place x.lower ≡ 1) × (digram_of x ≡ digram_of x)) ⊎ ((is (digram_of x) x.upper x.place x.lower ≡ 0) × (digram_of x ≢ digram_of x)) → is (digram_of x) x.upper x.place x.lower ≡ 1
  by_digram (inl a) = a.0
  by_digram (inr a) = absurd (a.1 refl)
