-- Laws of names and of wrong elements.
use Rattle.std.proofs.Common.{◌≡◌, ◌⊎◌, inl, inr, ℕ, suc, List, [], ◌∷◌, ◌++◌, Bool, true, false, Option, Some, None, refl, ap, sym, ◌∙◌, if◌then◌else◌}
use Rattle.plain_tree.specs.Tree.{Tree}
use Rattle.plain_tree.specs.XmlNames.{is_name}
use Rattle.xml_tokens.specs.Cutting.{front, back}
use Rattle.xml_tokens.specs.NameBytes.{is_name_byte}
use Rattle.xml_tokens.proofs.Lists.{front-back}
use Rattle.content_models.specs.Laws.{begins_name, NamesAreNames, WrongOne}
use Rattle.content_models.specs.Models.{Model}
use Rattle.content_models.specs.Tokens.{name_at}
use Rattle.content_models.specs.Wrong.{AreWrong}

none_some : (p : List ℕ × List ℕ) → ◌≡◌ {A = Option (List ℕ × List ℕ)} None (Some p) → ⊥
none_some p e = cc

some_same : (p q : List ℕ × List ℕ) → ◌≡◌ {A = Option (List ℕ × List ℕ)} (Some p) (Some q) → p ≡ q
some_same p q e = ap (λ (o : Option (List ℕ × List ℕ)). elim o [ Some r ↦ r | None ↦ q ]) e

behind-stops : (bytes : List ℕ) → begins_name (back is_name_byte bytes) ≡ false
behind-stops [] = refl
behind-stops (c ∷ cs) = by_case (is_name_byte c) refl (behind-stops cs) where
  by_case : (b : Bool) → is_name_byte c ≡ b → begins_name (back is_name_byte cs) ≡ false → begins_name (if b then back is_name_byte cs else c ∷ cs) ≡ false
  by_case true e h = h
  by_case false e h = e

pub names-are : NamesAreNames
unfolding name_at
names-are bytes name rest e = by_case (is_name (front is_name_byte bytes)) refl e where
  own : List ℕ × List ℕ
  own = (front is_name_byte bytes, back is_name_byte bytes)

  by_case : (b : Bool) → is_name (front is_name_byte bytes) ≡ b → (if b then Some own else None) ≡ Some (name, rest) → (is_name name ≡ true) × (bytes ≡ name ++ rest) × (begins_name rest ≡ false)
  by_case true h f =
      let same = some_same own (name, rest) f in
      let one : front is_name_byte bytes ≡ name = ap (λ (p : List ℕ × List ℕ). p.0) same in
      let two : back is_name_byte bytes ≡ rest = ap (λ (p : List ℕ × List ℕ). p.1) same in
      (ap is_name (sym one) ∙ h, sym (front-back is_name_byte bytes) ∙ ap (λ x. x ++ back is_name_byte bytes) one ∙ ap (λ x. name ++ x) two, ap begins_name (sym two) ∙ behind-stops bytes)
  by_case false h f = absurd (none_some (name, rest) f)

pub wrong-same : WrongOne
wrong-same S from [] ms ns a b = a ∙ sym b
wrong-same S from (t ∷ ts) ms ns (inl (w, (l, a, e))) (inl (v, (k, b, f))) = e ∙ ap (λ z. from ∷ z) (wrong-same S (suc from) ts l k a b) ∙ sym f
wrong-same S from (t ∷ ts) ms ns (inl (w, x)) (inr (n, b)) = absurd (n w)
wrong-same S from (t ∷ ts) ms ns (inr (n, a)) (inl (w, x)) = absurd (n w)
wrong-same S from (t ∷ ts) ms ns (inr (n, a)) (inr (k, b)) = wrong-same S (suc from) ts ms ns a b
