-- What the nodes of the value weigh is what arises in the rules, as often as they are used.
use Rattle.std.proofs.Common.{◌≡◌, ◌≢◌, ◌⊎◌, inl, inr, ℕ, zero, suc, ◌+◌, ◌*◌, ◌-◌, ◌<◌, ◌≤◌, List, [], ◌∷◌, None, length, refl, ap, sym, ◌∙◌, arith, if◌then◌else◌, eqb, true, false}
use Rattle.std.proofs.lemmas.Bool.Decides.{eqb_tells}
use Rattle.rule_arena.specs.declared.label.Label.{Label}
use Rattle.rule_arena.specs.declared.label.Label.TheVariants.{Bottom, Symbol, Call, Param}
use Rattle.slt_grammar.specs.Bodies.{CallsBelow, calls_in}
use Rattle.slt_grammar.specs.Grammars.{IsGrammar, body_at}
use Rattle.slt_grammar.specs.declared.rules.Rule.{Rule}
use Rattle.border_repair.specs.Using.{start_used, used_with, arises_before}
use Rattle.border_repair.specs.Weighing.{Scale, Rim, weight, arisen, called, AreRims}
use Rattle.border_repair.proofs.RimLemmas.{AreWeights, weight-told}

-- the sum over the numbers below k
abbrev pub sum_below : ℕ → (ℕ → ℕ) → ℕ
sum_below zero f = 0
sum_below (suc k) f = f k + sum_below k f

pub sum-same : (k : ℕ) (f g : ℕ → ℕ) → ((q : ℕ) → q < k → f q ≡ g q) → sum_below k f ≡ sum_below k g
sum-same zero f g h = refl
sum-same (suc k) f g h = omega (arith, h k (omega arith), sum-same k f g (λ q b. h q (omega arith)))

pub sum-add : (k : ℕ) (f g : ℕ → ℕ) → sum_below k (λ q. f q + g q) ≡ sum_below k f + sum_below k g
sum-add zero f g = refl
sum-add (suc k) f g = omega (arith, sum-add k f g)

sum-none : (k : ℕ) → sum_below k (λ q. 0) ≡ 0
sum-none zero = refl
sum-none (suc k) = omega (arith, sum-none k)

pub sum-times : (k n : ℕ) (f : ℕ → ℕ) → sum_below k (λ q. n * f q) ≡ n * sum_below k f
sum-times zero n f = omega arith
sum-times (suc k) n f = omega (arith, sum-times k n f)

at-other : (p w q : ℕ) → p ≢ q → (if eqb p q then 1 else 0) * w ≡ 0
at-other p w q n = by_test (eqb_tells p q) where
  by_test : ((eqb p q ≡ true) × (p ≡ q)) ⊎ ((eqb p q ≡ false) × (p ≢ q)) → (if eqb p q then 1 else 0) * w ≡ 0
  by_test (inl x) = absurd (n x.1)
  by_test (inr x) = rw x.0 (omega arith)

at-own : (p w : ℕ) → (if eqb p p then 1 else 0) * w ≡ w
at-own p w = by_test (eqb_tells p p) where
  by_test : ((eqb p p ≡ true) × (p ≡ p)) ⊎ ((eqb p p ≡ false) × (p ≢ p)) → (if eqb p p then 1 else 0) * w ≡ w
  by_test (inl x) = rw x.0 (omega arith)
  by_test (inr x) = absurd (x.1 refl)

sum-past : (k p : ℕ) (f : ℕ → ℕ) → k ≤ p → sum_below k (λ q. (if eqb p q then 1 else 0) * f q) ≡ 0
sum-past zero p f l = refl
sum-past (suc k) p f l = omega (arith, at-other p (f k) k (omega arith), sum-past k p f (omega arith))

pub sum-one : (k p : ℕ) (f : ℕ → ℕ) → p < k → sum_below k (λ q. (if eqb p q then 1 else 0) * f q) ≡ f p
sum-one zero p f l = absurd (omega arith)
sum-one (suc k) p f l = by_place (eqb_tells p k) (sum-one k p f) where
  by_place : ((eqb p k ≡ true) × (p ≡ k)) ⊎ ((eqb p k ≡ false) × (p ≢ k)) → (p < k → sum_below k (λ q. (if eqb p q then 1 else 0) * f q) ≡ f p)
      → (if eqb p k then 1 else 0) * f k + sum_below k (λ q. (if eqb p q then 1 else 0) * f q) ≡ f p
  by_place (inl x) ih = rw x.0 (omega (arith, sum-past k p f (omega arith), ap f x.1))
  by_place (inr x) ih = rw x.0 (omega (arith, ih (omega arith)))

-- the called rules weigh what each weighs as often as it is called
pub called-sum : (ws : ℕ → ℕ) (k : ℕ) (ls : List Label) → CallsBelow k ls → called ws ls ≡ sum_below k (λ q. calls_in q ls * ws q)
called-sum ws k [] b = sym (sum-same k (λ q. 0 * ws q) (λ q. 0) (λ q h. omega arith) ∙ sum-none k)
called-sum ws k (Bottom ∷ ls) b = called-sum ws k ls b
called-sum ws k (Symbol f ∷ ls) b = called-sum ws k ls b
called-sum ws k (Param ∷ ls) b = called-sum ws k ls b
called-sum ws k (Call p ∷ ls) b =
    let w = λ (q : ℕ). ws q in
    let cut = sum-same k (λ q. ((if eqb p q then 1 else 0) + calls_in q ls) * w q) (λ q. (if eqb p q then 1 else 0) * w q + calls_in q ls * w q) (λ q h. times (if eqb p q then 1 else 0) (calls_in q ls) (w q)) in
    omega (arith, called-sum ws k ls b.1, cut, sum-add k (λ q. (if eqb p q then 1 else 0) * w q) (λ q. calls_in q ls * w q), sum-one k p w b.0) where
      times : (a b c : ℕ) → (a + b) * c ≡ a * c + b * c
      times a b c = omega arith

module _ (e : Scale) (G : List Rule) (g : IsGrammar G) (rims : ℕ → Rim) (ws : ℕ → ℕ) (are : AreRims G rims) (weigh : AreWeights e G rims ws) where
  -- as often as they are used, rules weigh what arises in them and in those before them
  used-weigh : (k : ℕ) (used : ℕ → ℕ) → k ≤ length G → sum_below k (λ q. used q * ws q) ≡ arises_before e G rims k used
  used-weigh zero used l = refl
  used-weigh (suc k) used l =
      let body = body_at G k in
      let w = λ (q : ℕ). ws q in
      let here : w k ≡ arisen rims e (None ∷ []) body + called ws body = weigh k (omega arith) in
      let calls = called-sum ws k body (g.each k (omega arith)).earlier in
      let ih = used-weigh k (used_with G k used) (omega arith) in
      let cut = sum-same k (λ q. (used q + used k * calls_in q body) * w q) (λ q. used q * w q + used k * (calls_in q body * w q)) (λ q h. spread (used q) (used k) (calls_in q body) (w q)) in
      let add = sum-add k (λ q. used q * w q) (λ q. used k * (calls_in q body * w q)) in
      let times = sum-times k (used k) (λ q. calls_in q body * w q) in
      last (used k) (w k) (arisen rims e (None ∷ []) body) (called ws body) (sum_below k (λ q. calls_in q body * w q)) (sum_below k (λ q. used q * w q)) (arises_before e G rims k (used_with G k used)) here calls (sym ih ∙ cut ∙ add ∙ ap (λ n. sum_below k (λ q. used q * w q) + n) times) where
        spread : (a b c d : ℕ) → (a + b * c) * d ≡ a * d + b * (c * d)
        spread a b c d = grind arith

        last : (u w a c s t r : ℕ) → w ≡ a + c → c ≡ s → r ≡ t + u * s → u * w + t ≡ u * a + r
        last u w a c s t r x y z = rw (x, y, z) (distribute u a s t)
          where
            distribute : (u a s t : ℕ) → u * (a + s) + t ≡ u * a + (t + u * s)
            distribute u a s t = omega arith

  -- the law of weights: with the start used once, each rule gives what arises in it as often as it is used
  pub weight-arises : weight e G ≡ arises_before e G rims (length G) (start_used (length G - 1))
  weight-arises =
      let start = length G - 1 in
      let w = λ (q : ℕ). ws q in
      weight-told e G g rims ws are weigh ∙ sym (sum-same (length G) (λ q. start_used start q * w q) (λ q. (if eqb start q then 1 else 0) * w q) (λ q h. ap (λ n. n * w q) (turned q start)) ∙ sum-one (length G) start w (omega (arith, g.some)))
      ∙ used-weigh (length G) (start_used start) (omega arith) where
        turned : (a b : ℕ) → ◌≡◌ {A = ℕ} (if eqb a b then 1 else 0) (if eqb b a then 1 else 0)
        turned a b = by_tests (eqb_tells a b) (eqb_tells b a) where
          by_tests : ((eqb a b ≡ true) × (a ≡ b)) ⊎ ((eqb a b ≡ false) × (a ≢ b)) → ((eqb b a ≡ true) × (b ≡ a)) ⊎ ((eqb b a ≡ false) × (b ≢ a)) → ◌≡◌ {A = ℕ} (if eqb a b then 1 else 0) (if eqb b a then 1 else 0)
          by_tests (inl x) (inl y) = rw (x.0, y.0) refl
          by_tests (inl x) (inr y) = absurd (y.1 (sym x.1))
          by_tests (inr x) (inl y) = absurd (x.1 (sym y.1))
          by_tests (inr x) (inr y) = rw (x.0, y.0) refl
