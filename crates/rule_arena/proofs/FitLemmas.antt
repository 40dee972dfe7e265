-- Numbers of filled slots that fit a key.
use Rattle.std.proofs.Common.{◌≡◌, inl, inr, ℕ, suc, ◌^◌, ◌<◌, List, [], ◌∷◌, Option, Some, None, IsSome, refl, sym, ap, ◌∙◌, subst}
use Rattle.std.proofs.lemmas.Bool.{cases_eq}
use Rattle.slab.specs.Slab.{Slab, get, ContainsKey, Updates}
use Rattle.rule_arena.specs.Changing.{changed, hung, adopted, with_kids}
use Rattle.rule_arena.specs.Cutting.{Freed}
use Rattle.rule_arena.specs.Slots.{KeysFit}
use Rattle.rule_arena.specs.Terms.{Node}
use Rattle.rule_arena.specs.declared.key.Key.{Key}
use Rattle.rule_arena.specs.Linked.{Cell}
use Rattle.rule_arena.proofs.CellLemmas.{has, some_of}
use Rattle.rule_arena.proofs.ChangeLemmas.{changed-none}
use Rattle.rule_arena.proofs.CutLemmas.{among}

-- where no slot is filled
fit_from : (s t : Slab Cell) → ((j : ℕ) → get s j ≡ None → get t j ≡ None) → KeysFit s → KeysFit t
fit_from s t empty fit = λ j filled. by j filled (get s j) refl
  where
    by : (j : ℕ) → ContainsKey t j → (o : Option Cell) → get s j ≡ o → j < 2 ^ 32
    by j filled (Some c) e = fit j (has _ c e)
    by j filled None e = let c = some_of (get t j) filled in absurd (let z : None ≡ Some c.0 = sym (empty j e) ∙ c.1 in cc)

pub fit-changed : (s t : Slab Cell) (k : ℕ) (f : Cell → Cell) → t ≡ changed s k f → KeysFit s → KeysFit t
fit-changed s t k f e = fit_from s t (λ j h. ap (λ (x : Slab Cell). get x j) e ∙ changed-none s k f j h)

adopted-none : (s : Slab Cell) (up : Key) (place : ℕ) (ks : List Key) (j : ℕ) → get s j ≡ None → get (adopted s up place ks) j ≡ None
adopted-none s up place [] j h = h
adopted-none s up place (k ∷ ks) j h = adopted-none (changed s k.number (hung (Some (up, place)))) up (suc place) ks j (changed-none s k.number (hung (Some (up, place))) j h)

pub fit-adopted : (s t : Slab Cell) (up : Key) (ks : List Key) → t ≡ adopted s up 1 ks → KeysFit s → KeysFit t
fit-adopted s t up ks e = fit_from s t (λ j h. ap (λ (x : Slab Cell). get x j) e ∙ adopted-none s up 1 ks j h)

pub fit-kids : (s t : Slab Cell) (up : Key) (ks : List Key) → t ≡ changed (adopted s up 1 ks) up.number (with_kids ks) → KeysFit s → KeysFit t
fit-kids s t up ks e fit = fit-changed (adopted s up 1 ks) t up.number (with_kids ks) e (fit-adopted s (adopted s up 1 ks) up ks refl fit)

pub fit-inserted : (s t : Slab Cell) (k : ℕ) (c : Cell) → Updates s t k (Some c) → k < 2 ^ 32 → KeysFit s → KeysFit t
fit-inserted s t k c u w fit j filled = elim (cases_eq j k) [
  | inl e ↦ subst (λ (i : ℕ). i < 2 ^ 32) (sym e) w
  | inr d ↦ fit j (subst (λ (o : Option Cell). IsSome o) (u.others j d) filled)
]

pub fit-freed : (s t : Slab Cell) (ns : List Node) → Freed s t ns → KeysFit s → KeysFit t
fit-freed s t ns F = fit_from s t (λ j h. elim (among ns j) [ inl l ↦ F.others j l ∙ h | inr x ↦ F.gone x.0 (record { number = j }) x.1 ])

pub fit-same : (s t : Slab Cell) → ((j : ℕ) → get t j ≡ get s j) → KeysFit s → KeysFit t
fit-same s t same = fit_from s t (λ j h. same j ∙ h)
