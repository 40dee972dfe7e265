-- Rules that are made of spots have the spots' values.
use Rattle.std.proofs.Common.{◌≡◌, ℕ, zero, suc, ◌-◌, ◌<◌, List, [], ◌∷◌, ◌++◌, length, get_or, refl, ap, sym, ◌∙◌, arith, subst, Some, Option, slice_get, append_assoc, append-nil, ◌⊎◌, inl, inr}
use Rattle.std.proofs.lemmas.List.{length-map}
use Rattle.std.proofs.lemmas.Option.{get_or_from_slice_get, slice_get-get_or, slice_get-map, slice_get_within}
use Rattle.std.specs.Prelude.{option_map}
use Rattle.std.specs.List.{AllZip}
use Rattle.rule_arena.specs.declared.label.Label.{Label}
use Rattle.slt_grammar.specs.Grammars.{IsGrammar, body_at, rank_at, no_rule, value}
use Rattle.slt_grammar.specs.declared.rules.Rule.{Rule}
use Rattle.value_tests.specs.Relabelled.{Spot, Serves, relabelled, IsMade, AreMade}
use Rattle.value_tests.specs.TextPlaces.{sizes, placing, marked}
use Rattle.value_tests.specs.Steps.{Extends, ServesAt, IsPlainSpot, IsMarkedSpot}
use Rattle.value_tests.specs.Renumbered.{IsRenumbered}
use Rattle.value_tests.specs.Assembled.{no_spot, spots_at, start_spot, IsBodyFor, IsRuleFor, IsRuleAt, AreRulesFor}
use Rattle.value_tests.proofs.Becoming.{get-front}
use Rattle.value_tests.proofs.Renumbering.{renumbered-body, served-too}
use Rattle.value_tests.proofs.RuleValues.{values-made}

pub same-spot : (a b : Spot ℕ (Option ℕ)) → Some a ≡ Some b → a ≡ b
same-spot a b e = cc

pub origin-spot : (spots : List (Spot ℕ (Option ℕ))) (origins : List ℕ) (p id : ℕ) (s : Spot ℕ (Option ℕ)) → slice_get origins p ≡ Some id → slice_get spots id ≡ Some s → slice_get (spots_at spots origins) p ≡ Some s
origin-spot spots origins p id s o t = slice_get-map (λ i. get_or spots i no_spot) origins p ∙ ap (option_map (λ i. get_or spots i no_spot)) o ∙ ap Some (get_or_from_slice_get spots id s no_spot t)

module _ (w : Label → ℕ) (G : List Rule) (symbols : ℕ) (marks : ℕ → ℕ) where
  -- later spots change nothing
  pub body-later : (spots new : List (Spot ℕ (Option ℕ))) (id : ℕ) (body : List Label) → Extends spots new → IsBodyFor w G symbols marks spots id body → IsBodyFor w G symbols marks new id body
  body-later spots new id body x b = record {
    spot = b.spot;
    there = ap (λ xs. slice_get xs id) x.1 ∙ get-front spots x.0 id b.spot b.there;
    old = b.old;
    states = b.states;
    becomes = λ later.
        let all : new ++ later ≡ spots ++ (x.0 ++ later) = ap (λ xs. xs ++ later) x.1 ∙ append_assoc spots x.0 later in
        rw all (b.becomes (x.0 ++ later));
  }

  -- the rule of a spot serves as the spot did
  serves-renumbered : (spots : List (Spot ℕ (Option ℕ))) (origins : List ℕ) (p id q : ℕ) (kids : List ℕ) (d : Option ℕ) → slice_get origins p ≡ Some id → ServesAt w G symbols marks spots id q kids d → ServesAt w G symbols marks (spots_at spots origins) p q kids d
  serves-renumbered spots origins p id q kids d o s = record {
    serves = record { spot = s.serves.spot; there = origin-spot spots origins p id s.serves.spot o s.serves.there; rule = s.serves.rule; same = s.serves.same };
    kind = by s.kind;
  }
    where
      by : IsPlainSpot spots id q ⊎ IsMarkedSpot w G symbols marks spots id q kids d → IsPlainSpot (spots_at spots origins) p q ⊎ IsMarkedSpot w G symbols marks (spots_at spots origins) p q kids d
      by (inl k) = inl (k.0, origin-spot spots origins p id k.0 o k.1, k.2, k.3)
      by (inr k) = inr (origin-spot spots origins p id (record { rule = q; states = kids; down = d }) o k.0, k.1)

  -- a body that is renamed is that of a rule
  pub rule-for : (spots : List (Spot ℕ (Option ℕ))) (origins : List ℕ) (id : ℕ) (body : List Label) (b : IsBodyFor w G symbols marks spots id body) (R : Rule) → R.rank ≡ rank_at G b.spot.rule → AllZip (IsRenumbered origins) body R.body
      → IsRuleFor w G symbols marks (spots_at spots origins) b.spot R
  rule-for spots origins id body b R rank n = record {
    old = b.old;
    states = b.states;
    rank = rank;
    body = renumbered-body (sizes w) (placing w) (marked w symbols marks) G (ServesAt w G symbols marks spots) (ServesAt w G symbols marks (spots_at spots origins)) origins (serves-renumbered spots origins) b.spot.states (b.spot.down ∷ []) (body_at G b.spot.rule) body R.body (rw (append-nil spots) at (b.becomes [])) n;
  }

  pub are-made : (spots : List (Spot ℕ (Option ℕ))) (origins : List ℕ) (H : List Rule) → length H ≡ length origins → AreRulesFor w G symbols marks spots origins H
      → AreMade (sizes w) (placing w) (marked w symbols marks) G (spots_at spots origins) H
  are-made spots origins H n r p s e =
      let in_spots = slice_get_within (spots_at spots origins) p s e in
      let l : p < length H = omega (arith, in_spots, n, length-map origins (λ id. get_or spots id no_spot)) in
      let k = r p (get_or H p no_rule) (slice_get-get_or H p no_rule l) in
      let same : s ≡ k.spot = same-spot s k.spot (sym e ∙ origin-spot spots origins p k.id k.spot k.origin k.there) in
      subst (IsMade (sizes w) (placing w) (marked w symbols marks) G (spots_at spots origins) H p) (sym same) (record { new = l; old = k.rule.old; states = k.rule.states; rank = k.rule.rank; body = served-too (sizes w) (placing w) (marked w symbols marks) G (ServesAt w G symbols marks (spots_at spots origins)) (Serves (sizes w) (placing w) (marked w symbols marks) G (spots_at spots origins)) (λ o q kids d s. s.serves) k.spot.states (k.spot.down ∷ []) (body_at G k.spot.rule) (body_at H p) k.rule.body })

  -- Rules that are made of spots, the last of the start's from the first text on: their value is the old one with the new symbols.
  pub assembled-value : (spots : List (Spot ℕ (Option ℕ))) (origins : List ℕ) (H : List Rule) → IsGrammar G → IsGrammar H → length H ≡ length origins → AreRulesFor w G symbols marks spots origins H
      → slice_get origins (length H - 1) ≡ Some 0 → slice_get spots 0 ≡ Some (start_spot G)
      → value H ≡ relabelled (sizes w) (placing w) (marked w symbols marks) (value G) [] (Some 0)
  assembled-value spots origins H g h n r last start =
      values-made (sizes w) (placing w) (marked w symbols marks) G H g h (spots_at spots origins) (are-made spots origins H n r) (length H - 1) (start_spot G) (origin-spot spots origins (length H - 1) 0 (start_spot G) last start)

-- one rule more
pub rules-push : (w : Label → ℕ) (G : List Rule) (symbols : ℕ) (marks : ℕ → ℕ) (spots : List (Spot ℕ (Option ℕ))) (origins : List ℕ) (H : List Rule) (R : Rule)
    → AreRulesFor w G symbols marks spots origins H → IsRuleAt w G symbols marks spots origins (length H) R → AreRulesFor w G symbols marks spots origins (H ++ R ∷ [])
rules-push w G symbols marks spots origins H R r new p Q e = by_place (split H R p Q e)
  where
    split : (xs : List Rule) (x : Rule) (i : ℕ) (y : Rule) → slice_get (xs ++ x ∷ []) i ≡ Some y → (slice_get xs i ≡ Some y) ⊎ ((i ≡ length xs) × (x ≡ y))
    split [] x zero y h = inr (refl, cc)
    split [] x (suc i) y h = absurd (cc)
    split (z ∷ xs) x zero y h = inl h
    split (z ∷ xs) x (suc i) y h = later (split xs x i y h)
      where
        later : (slice_get xs i ≡ Some y) ⊎ ((i ≡ length xs) × (x ≡ y)) → (slice_get xs i ≡ Some y) ⊎ ((suc i ≡ suc (length xs)) × (x ≡ y))
        later (inl k) = inl k
        later (inr k) = inr (ap suc k.0, k.1)

    by_place : (slice_get H p ≡ Some Q) ⊎ ((p ≡ length H) × (R ≡ Q)) → IsRuleAt w G symbols marks spots origins p Q
    by_place (inl h) = r p Q h
    by_place (inr h) = subst (λ i. IsRuleAt w G symbols marks spots origins i Q) (sym h.0) (subst (IsRuleAt w G symbols marks spots origins (length H)) h.1 new)
