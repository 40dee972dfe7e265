-- Tokens spell at most one model.
use Rattle.std.proofs.Common.{◌≡◌, List, [], refl, ap, sym, ◌∙◌}
use Rattle.std.specs.Prelude.{Some as Just}
use Rattle.content_models.specs.Models.{Model, Named, Nothing, Then, Either, Optional, Any, Some}
use Rattle.content_models.specs.declared.postfix.Op.{Op}
use Rattle.content_models.specs.Postfix.{code_on}
use Rattle.content_models.specs.Spelled.{Token, Spells}
use Rattle.content_models.proofs.Complete.{complete}

-- a model's code tells the model, and what stands before
pub one_code : (m n : Model) (o p : List Op) → code_on m o ≡ code_on n p → (m ≡ n) × (o ≡ p)
one_code (Named v) (Named w) o p e = (cc, cc)
one_code Nothing Nothing o p e = (refl, cc)
one_code (Then a b) (Then c d) o p e =
    let t : code_on b (code_on a o) ≡ code_on d (code_on c p) = cc in
    let second = one_code b d (code_on a o) (code_on c p) t in
    let first = one_code a c o p second.1 in
    (ap (λ z. Then z b) first.0 ∙ ap (Then c) second.0, first.1)
one_code (Either a b) (Either c d) o p e =
    let t : code_on b (code_on a o) ≡ code_on d (code_on c p) = cc in
    let second = one_code b d (code_on a o) (code_on c p) t in
    let first = one_code a c o p second.1 in
    (ap (λ z. Either z b) first.0 ∙ ap (Either c) second.0, first.1)
one_code (Optional a) (Optional c) o p e = let t : code_on a o ≡ code_on c p = cc in let h = one_code a c o p t in (ap Optional h.0, h.1)
one_code (Any a) (Any c) o p e = let t : code_on a o ≡ code_on c p = cc in let h = one_code a c o p t in (ap Any h.0, h.1)
one_code (Some a) (Some c) o p e = let t : code_on a o ≡ code_on c p = cc in let h = one_code a c o p t in (ap Some h.0, h.1)
one_code _ _ o p e = cc

pub spells_one : (ts : List Token) (m n : Model) → Spells ts m → Spells ts n → m ≡ n
spells_one ts m n a b =
    let x = complete m ts a in
    let y = complete n ts b in
    let same : Just (code_on m []) ≡ Just (code_on n []) = sym x ∙ y in
    (one_code m n [] [] (let t : code_on m [] ≡ code_on n [] = cc in t)).0
