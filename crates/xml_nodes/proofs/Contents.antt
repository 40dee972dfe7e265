-- Where the content of the element without a name may end.
use Rattle.std.proofs.Common.{◌≡◌, ℕ, Bool, true, false, List, [], ◌∷◌, ◌++◌, refl, ap, sym, ◌∙◌}
use Rattle.std.specs.Prelude.{Some, None, bytes_eq, reverse, if◌then◌else◌}
use Rattle.std.proofs.lemmas.List.{reverse-reverse}
use Rattle.xml_tokens.specs.Tokens.{End}
use Rattle.xml_tokens.proofs.Lists.{same_bytes}
use Rattle.xml_nodes.specs.declared.stage.Stage.{Stage}
use Rattle.xml_nodes.specs.declared.stage.Stage.TheVariants as at
use Rattle.xml_nodes.specs.Machine.{State, Event, Stepped, step, end_step, opened_at, left, text_leaf, end}
use Rattle.xml_nodes.proofs.Grammar.{some_is}

none_some : (p : State × List Event) → ◌≡◌ {A = Stepped} None (Some p) → ⊥
none_some p e = cc

ends_one : (names : List (List ℕ)) (text : List ℕ) (calls : List Event) → end_step names text [] ≡ Some (end, calls) → names ≡ [] ∷ []
ends_one [] text calls e = absurd (none_some (end, calls) e)
ends_one (m ∷ names) text calls e = by_test (bytes_eq m []) refl e where
  by_test : (b : Bool) → bytes_eq m [] ≡ b
      → ◌≡◌ {A = Stepped} (if b then Some (opened_at (left names) names, text_leaf text ++ Event.Closed ∷ []) else None) (Some (end, calls)) → m ∷ names ≡ [] ∷ []
  by_test true f g =
      let same = ap (λ z. z.0) (some_is (opened_at (left names) names, text_leaf text ++ Event.Closed ∷ []) (end, calls) g) in
      ap (λ z. z ∷ names) (same_bytes m [] f) ∙ ap (λ z. [] ∷ z) (ap (λ z. z.names) same)
  by_test false f g = absurd (none_some (end, calls) g)

-- the machine comes to its end only where that element is the only one that is open
pub ends_in_content : (s : State) (calls : List Event) → step s (End []) ≡ Some (end, calls) → (s.stage ≡ at.Inside) × (s.names ≡ [] ∷ [])
ends_in_content s calls e = by_stage s.stage refl where
  by_stage : (z : Stage) → s.stage ≡ z → (s.stage ≡ at.Inside) × (s.names ≡ [] ∷ [])
  by_stage at.Inside f = (f, ends_one s.names s.text calls (rw f at e))
  by_stage at.Front f = absurd (none_some (end, calls) (rw f at e))
  by_stage at.Marked f = absurd (none_some (end, calls) (rw f at e))
  by_stage at.Prolog f = absurd (none_some (end, calls) (rw f at e))
  by_stage at.Typed f = absurd (none_some (end, calls) (rw f at e))
  by_stage at.Epilog f = absurd (none_some (end, calls) (rw f at e))

-- and its list of names, the innermost last, has one
pub one_name : (items : List (List ℕ)) → reverse items ≡ [] ∷ [] → items ≡ [] ∷ []
one_name items e = sym (reverse-reverse items) ∙ ap reverse e
