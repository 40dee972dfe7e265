-- The place of a bad value.
use Rattle.std.proofs.Common.{◌≡◌, ℕ, true, false, List, [], ◌∷◌, ◌++◌, length, refl, ap, sym, ◌∙◌, subst, ◌⊎◌, inl, inr, append_assoc, append-nil}
use Rattle.std.specs.Prelude.{◌==◌, ◌&&◌}
use Rattle.std.specs.List.{list_all, flat_map}
use Rattle.std.proofs.lemmas.List.Folds.{list_all-append}
use Rattle.xml_tokenizer.specs.declared.scan.Scan.{Scan}
use Rattle.xml_tokenizer.specs.declared.scan.Scan.TheVariants as at
use Rattle.xml_tokenizer.specs.declared.scan.Step.TheVariants.{On, Whole, Dead}
use Rattle.xml_nodes.proofs.CharacterLemmas.{and_true}
use Rattle.xml_nodes.proofs.LineEnds.{gives_byte}
use Rattle.xml_nodes.proofs.Fed.{scan_more, goes_on, cut_further, held_goes_on}
use Rattle.xml_nodes.proofs.Place.{greatest_at, front_is}
use Rattle.xml_tokenizer.specs.LineEnds.{line_ends, line_ends_after, ends_in_return, begins_dropped, line_end_of}
use Rattle.xml_tokens.specs.Tokens.{Token, AreTokens, IsToken}
use Rattle.xml_nodes.specs.Content.{is_value_piece, given}
use Rattle.xml_tokenizer.specs.Scanning.{scanned, scan_step}
use Rattle.xml_nodes.specs.Spelling.{SpellsValue}
use Rattle.xml_nodes.specs.Place.{IsValuePlace}
use Rattle.xml_tokenizer.proofs.ScanLaws.{one_cut, no_token}
use Rattle.xml_nodes.proofs.Layer.{scans}
use Rattle.xml_tokenizer.proofs.LineEndLaws.{line_ends-append, kept_byte}
use Rattle.xml_tokenizer.proofs.Cuts.{tokens_more}

-- The bytes at the front are characters and references; the raw bytes behind them begin one more and are held.
pub record StandsValue (front raw held : List ℕ) (scan : Scan) : Type 0 where
  pub tokens : List Token
  pub each : list_all is_value_piece tokens ≡ true
  pub cut : AreTokens tokens (line_ends front) []
  pub rest : held ≡ line_ends_after (ends_in_return false front) raw
  pub kept : begins_dropped (ends_in_return false front) raw ≡ false
  pub waits : scanned (On at.Idle) held ≡ On scan

-- behind these bytes held a value can't go on with this byte
abbrev pub RefusesValue : List ℕ → Scan → ℕ → Type 0
RefusesValue held scan c = (scan_step scan c ≡ Dead) ⊎ ((scan_step scan c ≡ Whole) × ((t : Token) → IsToken t (held ++ c ∷ []) → is_value_piece t ≡ false))

abbrev IsSomeValue : List ℕ → Type 0
IsSomeValue x = (value : List ℕ) × SpellsValue x value

module _ (front raw held : List ℕ) (scan : Scan) (s : StandsValue front raw held scan) where
  here : IsSomeValue front
  here = (flat_map given s.tokens, record { tokens = s.tokens; cut = s.cut; each = s.each; gives = refl })

  -- no front of the bytes held spells a value
  front_closed : (c : ℕ) (x y : List ℕ) → raw ≡ (c ∷ x) ++ y → IsSomeValue (front ++ c ∷ x) → ⊥
  front_closed c x y e (value, p) =
      let cr = ends_in_return false front in
      let g = gives_byte cr c x (subst (λ z. begins_dropped cr z ≡ false) e s.kept) in
      let whole : (g.first ∷ g.others) ++ line_ends_after (ends_in_return cr (c ∷ x)) y ≡ held =
      ap (λ z. z ++ line_ends_after (ends_in_return cr (c ∷ x)) y) (sym g.are) ∙ sym (line_ends-append (c ∷ x) y cr) ∙ ap (λ z. line_ends_after cr z) (sym e) ∙ sym s.rest in
      let on = goes_on (g.first ∷ g.others) (line_ends_after (ends_in_return cr (c ∷ x)) y) (On at.Idle) scan (ap (λ z. scanned (On at.Idle) z) whole ∙ s.waits) in
      let lines : line_ends (front ++ c ∷ x) ≡ line_ends front ++ (g.first ∷ g.others) = line_ends-append front (c ∷ x) false ∙ ap (λ z. line_ends front ++ z) g.are in
      let v = cut_further s.tokens p.tokens (line_ends front) [] (g.first ∷ g.others) s.cut (subst (λ z. AreTokens p.tokens z []) lines p.cut) in
      let over = (held_goes_on v.0 g.first g.others [] on.0 on.1 (subst (λ z. AreTokens v.0 z []) (sym (append-nil (g.first ∷ g.others))) v.2)).1 in
      nothing over.over over.after on.0 over.rest over.ends where
        nothing : (o a : List ℕ) (u : Scan) → [] ≡ o ++ a → scanned (On u) o ≡ Whole → ⊥
        nothing [] a u e w = cc
        nothing (d ∷ o) a u e w = cc

  pub value_broken_off : IsValuePlace (front ++ raw) (length front)
  value_broken_off = greatest_at (IsSomeValue) front raw here (λ x y c e may. front_closed c x y e may)

  module _ (c : ℕ) (kept : (ends_in_return false (front ++ raw) && (c == 10)) ≡ false) (r : RefusesValue held scan (line_end_of c)) where
    refused_first : (u : Token) (us : List Token) (next : List ℕ) → is_value_piece u ≡ true → AreTokens (u ∷ us) (held ++ line_end_of c ∷ next) [] → ⊥
    refused_first u us next e a = by_case r where
      by_case : RefusesValue held scan (line_end_of c) → ⊥
      by_case (inl dead) = no_token (On at.Idle) held a.0 a.1 next scan (line_end_of c) s.waits dead (scans u a.0 a.2) (sym a.3)
      by_case (inr (w, none)) =
          let same = one_cut (On at.Idle) a.0 (held ++ line_end_of c ∷ []) a.1 next (scans u a.0 a.2) (scan_more held scan (line_end_of c) Whole s.waits w)
          (sym a.3 ∙ sym (append_assoc held (line_end_of c ∷ []) next)) in
          let bad = sym (none u (subst (λ z. IsToken u z) same.0 a.2)) ∙ e in
          cc

    pub refused_spells_no_value : (next value : List ℕ) → SpellsValue ((front ++ raw) ++ c ∷ next) value → ⊥
    refused_spells_no_value next value p =
        let fed : line_ends (front ++ raw) ≡ line_ends front ++ held = line_ends-append front raw false ∙ ap (λ z. line_ends front ++ z) (sym s.rest) in
        let lines : line_ends ((front ++ raw) ++ c ∷ next) ≡ (line_ends front ++ held) ++ line_end_of c ∷ line_ends_after (c == 13) next =
        line_ends-append (front ++ raw) (c ∷ next) false ∙ ap (λ z. z ++ line_ends_after (ends_in_return false (front ++ raw)) (c ∷ next)) fed
        ∙ ap (λ z. (line_ends front ++ held) ++ z) (kept_byte (ends_in_return false (front ++ raw)) c next kept) in
        let v = cut_further s.tokens p.tokens (line_ends front ++ held) held (line_end_of c ∷ line_ends_after (c == 13) next)
        (tokens_more s.tokens (line_ends front) [] held s.cut) (subst (λ z. AreTokens p.tokens z []) lines p.cut) in
        by_tokens v.0 v.1 v.2 where
          nothing : (x y : List ℕ) → x ++ line_end_of c ∷ y ≡ [] → ⊥
          nothing [] y e = cc
          nothing (d ∷ x) y e = cc

          by_tokens : (vs : List Token) → p.tokens ≡ s.tokens ++ vs → AreTokens vs (held ++ line_end_of c ∷ line_ends_after (c == 13) next) [] → ⊥
          by_tokens [] e a = nothing held (line_ends_after (c == 13) next) a
          by_tokens (u ∷ us) e a =
              let each = sym (list_all-append is_value_piece s.tokens (u ∷ us)) ∙ ap (λ z. list_all is_value_piece z) (sym e) ∙ p.each in
              let own = (and_true (is_value_piece u) (list_all is_value_piece us) (and_true (list_all is_value_piece s.tokens) (list_all is_value_piece (u ∷ us)) each).1).0 in
              refused_first u us (line_ends_after (c == 13) next) own a

    pub value_refused_at : (next : List ℕ) → IsValuePlace ((front ++ raw) ++ c ∷ next) (length front)
    value_refused_at next =
        subst (λ z. IsValuePlace z (length front)) (sym (append_assoc front raw (c ∷ next)))
        (greatest_at (IsSomeValue) front (raw ++ c ∷ next) here (λ x y d e may. by_front d x y e (front_is (d ∷ x) y raw (c ∷ next) (sym e)) may)) where
          by_front : (d : ℕ) (x y : List ℕ) → raw ++ c ∷ next ≡ (d ∷ x) ++ y
              → ((z : List ℕ) × (raw ≡ (d ∷ x) ++ z)) ⊎ ((k : ℕ) × (z : List ℕ) × (d ∷ x ≡ raw ++ k ∷ z) × (c ∷ next ≡ k ∷ (z ++ y))) → IsSomeValue (front ++ d ∷ x) → ⊥
          by_front d x y e (inl (z, f)) may = front_closed d x z f may
          by_front d x y e (inr (k, z, f, g)) (value, p) =
              let heads : k ≡ c = cc in
              let shape : front ++ d ∷ x ≡ (front ++ raw) ++ c ∷ z = ap (λ w. front ++ w) (f ∙ ap (λ w. raw ++ w ∷ z) heads) ∙ sym (append_assoc front raw (c ∷ z)) in
              refused_spells_no_value z value (subst (λ w. SpellsValue w value) shape p)
