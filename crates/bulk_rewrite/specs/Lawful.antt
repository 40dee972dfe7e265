-- The down states of the rewritings tell what is lost.
use Rattle.std.proofs.Common.{◌≡◌, ℕ, Bool, true, false, Option, Some, None, if◌then◌else◌, refl}
use Rattle.slt_grammar.specs.Automata.{Downward}
use Rattle.bulk_rewrite.specs.Rewriting.{IsLawful}
use Rattle.bulk_rewrite.specs.Renaming.{renaming}
use Rattle.bulk_rewrite.specs.Joining.{NoText, Marked, Lost, At, is_lost, gives_way, joining_run, joining, kept_symbol}
use Rattle.bulk_rewrite.specs.Tags.{tagging}

pub renaming-lawful : {S D : Type 0} (W : Downward S D) (new : ℕ → ℕ) → IsLawful W (renaming new)
renaming-lawful W new = record {
  start = refl;
  out = λ f d hit e. absurd (cc);
  lost_left = λ f d k r e. absurd (cc);
  lost_right = λ f d k r e. absurd (cc);
  taken = λ f d k r e. absurd (cc);
  kept = λ f g d k r e. refl;
  behind = λ f d k r e. refl;
}

lost-if : {D : Type 0} (out : Bool) (f : ℕ) (l : D) → ◌≡◌ {A = Option ℕ} (if out then None else Some f) None → is_lost (if out then Lost else At l NoText) ≡ true
lost-if true f l e = refl
lost-if false f l e = absurd (cc)

kept-if : {D : Type 0} (out : Bool) (f g : ℕ) (l : D) → ◌≡◌ {A = Option ℕ} (if out then None else Some f) (Some g) → is_lost (if out then Lost else At l NoText) ≡ false
kept-if true f g l e = absurd (cc)
kept-if false f g l e = refl

module _ {S D : Type 0} (W : Downward S D) (texts : ℕ → Bool) where
  joining-out : (f : ℕ) (o : Marked D) (hit : Bool) → (joining {D = D} texts).lost o ≡ true → kept_symbol texts f o hit ≡ None
  joining-out f Lost hit e = refl
  joining-out f (At d m) hit e = absurd (cc)

  joining-left : (f : ℕ) (o : Marked D) (k r : S) → (joining {D = D} texts).lost o ≡ true → ((joining_run W texts).step f o k r).left ≡ o
  joining-left f Lost k r e = refl
  joining-left f (At d m) k r e = absurd (cc)

  joining-right : (f : ℕ) (o : Marked D) (k r : S) → (joining {D = D} texts).lost o ≡ true → ((joining_run W texts).step f o k r).right ≡ o
  joining-right f Lost k r e = refl
  joining-right f (At d m) k r e = absurd (cc)

  joining-taken : (f : ℕ) (o : Marked D) (k r : S) → kept_symbol texts f o ((joining_run W texts).step f o k r).hit ≡ None → (joining {D = D} texts).lost ((joining_run W texts).step f o k r).left ≡ true
  joining-taken f Lost k r e = refl
  joining-taken f (At d m) k r e = lost-if (gives_way (W.step f d k r).hit (texts f) m) f (W.step f d k r).left e

  joining-kept : (f g : ℕ) (o : Marked D) (k r : S) → kept_symbol texts f o ((joining_run W texts).step f o k r).hit ≡ Some g → (joining {D = D} texts).lost ((joining_run W texts).step f o k r).left ≡ false
  joining-kept f g Lost k r e = absurd (cc)
  joining-kept f g (At d m) k r e = kept-if (gives_way (W.step f d k r).hit (texts f) m) f g (W.step f d k r).left e

  joining-behind : (f : ℕ) (o : Marked D) (k r : S) → (joining {D = D} texts).lost o ≡ false → (joining {D = D} texts).lost ((joining_run W texts).step f o k r).right ≡ false
  joining-behind f Lost k r e = absurd (cc)
  joining-behind f (At d m) k r e = refl

  pub joining-lawful : IsLawful (joining_run W texts) (joining {D = D} texts)
  joining-lawful = record { start = refl; out = joining-out; lost_left = joining-left; lost_right = joining-right; taken = joining-taken; kept = joining-kept; behind = joining-behind }

  -- where nodes get tags nothing is lost
  pub tagging-lawful : (valued : ℕ → Bool) → IsLawful (joining_run W texts) (tagging {D = D} valued texts)
  tagging-lawful valued = record {
    start = refl;
    out = λ f o hit e. absurd (cc);
    lost_left = λ f o k r e. absurd (cc);
    lost_right = λ f o k r e. absurd (cc);
    taken = λ f o k r e. absurd (cc);
    kept = λ f g o k r e. refl;
    behind = λ f o k r e. refl;
  }
