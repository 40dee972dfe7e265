-- The down states of a run that takes nodes out, from those of the run that hits them.
use Rattle.std.proofs.Common.{◌≡◌, ℕ, ◌+◌, ◌*◌, ◌<◌, Bool, true, false, if◌then◌else◌, refl, ap, ◌∙◌, arith}
use Rattle.slt_grammar.specs.Automata.{Downward}
use Rattle.bulk_rewrite.specs.Joining.{Before, NoText, JustText, GapText, Marked, Lost, At, gives_way, step_joining}

-- a property of the state of the run that hits, unless all there is taken out
abbrev pub AtEach : {D : Type 0} → (D → Type 0) → Marked D → Type 0
AtEach P Lost = Unit {0}
AtEach P (At d m) = P d

at-if : {D : Type 0} (P : D → Type 0) (out : Bool) (d : D) → P d → AtEach P (if out then Lost else At d NoText)
at-if P true d h = tt
at-if P false d h = h

-- what the run that hits keeps is kept
module _ {S D : Type 0} (W : Downward S D) (texts : ℕ → Bool) (P : S → Type 0) (Q : D → Type 0) where
  pub marked-left : ((f : ℕ) (d : D) (k r : S) → Q d → P k → P r → Q (W.step f d k r).left) → (f : ℕ) (o : Marked D) (k r : S) → AtEach Q o → P k → P r → AtEach Q (step_joining W texts f o k r).left
  marked-left left f Lost k r q p s = tt
  marked-left left f (At d m) k r q p s = at-if Q (gives_way (W.step f d k r).hit (texts f) m) (W.step f d k r).left (left f d k r q p s)

  pub marked-right : ((f : ℕ) (d : D) (k r : S) → Q d → P k → P r → Q (W.step f d k r).right) → (f : ℕ) (o : Marked D) (k r : S) → AtEach Q o → P k → P r → AtEach Q (step_joining W texts f o k r).right
  marked-right right f Lost k r q p s = tt
  marked-right right f (At d m) k r q p s = right f d k r q p s

-- what stands before, as a number
before_code : Before → ℕ
before_code NoText = 1
before_code JustText = 2
before_code GapText = 3

before-some : (m : Before) → (0 < before_code m) × (before_code m < 4)
unfolding before_code
before-some NoText = (omega arith, omega arith)
before-some JustText = (omega arith, omega arith)
before-some GapText = (omega arith, omega arith)

before-one : (m n : Before) → before_code m ≡ before_code n → m ≡ n
unfolding before_code
before-one NoText NoText e = refl
before-one NoText JustText e = absurd (omega (arith, e))
before-one NoText GapText e = absurd (omega (arith, e))
before-one JustText NoText e = absurd (omega (arith, e))
before-one JustText JustText e = refl
before-one JustText GapText e = absurd (omega (arith, e))
before-one GapText NoText e = absurd (omega (arith, e))
before-one GapText JustText e = absurd (omega (arith, e))
before-one GapText GapText e = refl

-- numbers of the states by numbers of those of the run that hits
module _ {D : Type 0} (Q : D → Type 0) (code : D → ℕ) where
  pub marked_code : Marked D → ℕ
  marked_code Lost = 0
  marked_code (At d m) = before_code m + 4 * code d

  -- there are four times as many
  pub marked-lt : (n : ℕ) → 0 < n → ((d : D) → Q d → code d < n) → (o : Marked D) → AtEach Q o → marked_code o < 4 * n
  unfolding marked_code
  marked-lt n some lt Lost h = omega arith
  marked-lt n some lt (At d m) h = omega (arith, lt d h, (before-some m).1)

  -- and they tell the states apart
  pub marked-one : ((d e : D) → Q d → Q e → code d ≡ code e → d ≡ e) → (o p : Marked D) → AtEach Q o → AtEach Q p → marked_code o ≡ marked_code p → o ≡ p
  unfolding marked_code
  marked-one one Lost Lost h k e = refl
  marked-one one Lost (At d m) h k e = absurd (omega (arith, e, (before-some m).0))
  marked-one one (At d m) Lost h k e = absurd (omega (arith, e, (before-some m).0))
  marked-one one (At d m) (At c n) h k e =
      let a = before-some m in
      let b = before-some n in
      let same : before_code m ≡ before_code n = omega (arith, e, a.1, b.1) in
      let states : code d ≡ code c = omega (arith, e, same) in
      ap (λ x. At x m) (one d c h k states) ∙ ap (λ y. At c y) (before-one m n same)
