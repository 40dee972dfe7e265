-- Equal chains are identical.
use Rattle.std.specs.Prelude.{◌≡◌, ℕ, true, false, ◌&&◌, refl}
use Rattle.std.specs.Prelude.{◌==◌}
use Rattle.std.proofs.Common.{ap, ◌∙◌}
use Rattle.std.proofs.lemmas.Bool.{and_parts, eqb-true}
use Rattle.content_models.specs.declared.states.Chain.{Chain}
use Rattle.content_models.specs.declared.states.Chain.TheVariants.{Empty, Stuck, Near, Far}
use Rattle.content_models.specs.contracts.states.ChainPartialEq.TheImpl.{eq-value}
use Rattle.content_models.specs.SameSets.{same_sets}

different : false ≡ true → ⊥
different e = cc

near_same : (f g v w : ℕ) → ((f == g) && (v == w)) ≡ true → Near f v ≡ Near g w
near_same f g v w e = let h = and_parts (f == g) (v == w) e in ap (λ x. Near x v) (eqb-true f g h.0) ∙ ap (Near g) (eqb-true v w h.1)

pub same_chain : (a b : Chain) → eq-value.it a b ≡ true → a ≡ b
same_chain Empty Empty e = refl
same_chain Stuck Stuck e = refl
same_chain (Near f v) (Near g w) e = near_same f g v w e
same_chain (Far a) (Far b) e = ap Far (same_sets a b e)
same_chain a b e = absurd (different e)
