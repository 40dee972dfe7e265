-- Equal down states are identical.
use Rattle.std.proofs.Common.{◌≡◌, ◌&&◌, Bool, true, false, refl, sym, ap, ◌∙◌}
use Rattle.std.proofs.Math.Bool.{beq, true≢false}
use Rattle.bulk_rewrite.specs.declared.refusing.NameCame.{NameCame}
use Rattle.bulk_rewrite.specs.declared.joining.Before.{Before}
use Rattle.bulk_rewrite.specs.declared.joining.Before.TheVariants.{NoText, JustText, GapText}
use Rattle.bulk_rewrite.specs.declared.joining.Marked.{Marked}
use Rattle.bulk_rewrite.specs.declared.joining.Marked.TheVariants.{Lost, At}
use Rattle.bulk_rewrite.specs.declared.sparing.Depth.{Depth}
use Rattle.bulk_rewrite.specs.declared.sparing.Depth.TheVariants.{AtTop, AtRoot, Below}
use Rattle.bulk_rewrite.specs.declared.sparing.AtDepth.{AtDepth}
use Rattle.bulk_rewrite.specs.contracts.joining.BeforePartialEq.TheImpl.{eq-value as before_eq}
use Rattle.bulk_rewrite.specs.contracts.sparing.DepthPartialEq.TheImpl.{eq-value as depth_eq}

same_bool : (b c : Bool) → beq b c ≡ true → b ≡ c
same_bool true true e = refl
same_bool true false e = absurd (true≢false (sym e))
same_bool false true e = absurd (true≢false (sym e))
same_bool false false e = refl

both_true : (b c : Bool) → b && c ≡ true → (b ≡ true) × (c ≡ true)
both_true true c e = (refl, e)
both_true false c e = absurd (true≢false (sym e))

pub same_came : {D : Type 0} (E : D → D → Bool) → ((a b : D) → E a b ≡ true → a ≡ b) → (a b : NameCame D) → E a.down b.down && beq a.came b.came ≡ true → a ≡ b
same_came {D} E same a b e =
    let h = both_true (E a.down b.down) (beq a.came b.came) e in
    ap (λ (d : D). record { down = d; came = a.came }) (same a.down b.down h.0) ∙ ap (λ (c : Bool). record { down = b.down; came = c }) (same_bool a.came b.came h.1)

different : false ≡ true → ⊥
different e = cc

same_before : (a b : Before) → before_eq.it a b ≡ true → a ≡ b
same_before NoText NoText e = refl
same_before JustText JustText e = refl
same_before GapText GapText e = refl
same_before a b e = absurd (different e)

same_depth : (a b : Depth) → depth_eq.it a b ≡ true → a ≡ b
same_depth AtTop AtTop e = refl
same_depth AtRoot AtRoot e = refl
same_depth Below Below e = refl
same_depth a b e = absurd (different e)

pub same_at : {D : Type 0} (E : D → D → Bool) → ((a b : D) → E a b ≡ true → a ≡ b) → (a b : AtDepth D) → E a.down b.down && depth_eq.it a.depth b.depth ≡ true → a ≡ b
same_at {D} E same a b e =
    let h = both_true (E a.down b.down) (depth_eq.it a.depth b.depth) e in
    ap (λ (d : D). record { down = d; depth = a.depth }) (same a.down b.down h.0) ∙ ap (λ (x : Depth). record { down = b.down; depth = x }) (same_depth a.depth b.depth h.1)

-- for a comparison that looks at the parts
pub same_marked : {D : Type 0} (E : D → D → Bool) → ((a b : D) → E a b ≡ true → a ≡ b) → (F : Marked D → Marked D → Bool) → ((d f : D) (m n : Before) → F (At d m) (At f n) ≡ E d f && before_eq.it m n)
    → ((d : D) (m : Before) → F Lost (At d m) ≡ false) → ((d : D) (m : Before) → F (At d m) Lost ≡ false) → (a b : Marked D) → F a b ≡ true → a ≡ b
same_marked E same F both lost found Lost Lost e = refl
same_marked E same F both lost found (At d m) (At f n) e =
    let h = both_true (E d f) (before_eq.it m n) (sym (both d f m n) ∙ e) in
    ap (λ x. At x m) (same d f h.0) ∙ ap (λ y. At f y) (same_before m n h.1)
same_marked E same F both lost found Lost (At d m) e = absurd (different (sym (lost d m) ∙ e))
same_marked E same F both lost found (At d m) Lost e = absurd (different (sym (found d m) ∙ e))
