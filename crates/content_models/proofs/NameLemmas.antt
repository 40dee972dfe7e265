-- The name at the front of bytes.
use Rattle.std.proofs.Common.{◌≡◌, ℕ, zero, suc, ◌-◌, ◌<◌, List, true, false, Some, None, refl, sym, ◌∙◌, ap, length, take, arith, if◌then◌else◌}
use Rattle.plain_tree.specs.XmlNames.{is_name}
use Rattle.xml_tokens.specs.Cutting.{front, back}
use Rattle.xml_tokens.specs.NameBytes.{is_name_byte}
use Rattle.xml_tokens.proofs.Lists.{take-front}
use Rattle.xml_tokens.proofs.Texts.{not_named}
use Rattle.content_models.specs.Tokens.{name_at}

cut_front : (bytes rest : List ℕ) → rest ≡ back is_name_byte bytes → take (length bytes - length rest) bytes ≡ front is_name_byte bytes
cut_front bytes rest e = ap (λ x. take (length bytes - length x) bytes) e ∙ take-front is_name_byte bytes

pub name_found : (bytes rest : List ℕ) → rest ≡ back is_name_byte bytes → is_name (take (length bytes - length rest) bytes) ≡ true → name_at bytes ≡ Some (take (length bytes - length rest) bytes, rest)
unfolding name_at
name_found bytes rest e h =
    let cut = cut_front bytes rest e in
    ap (λ b. if b then Some (front is_name_byte bytes, back is_name_byte bytes) else None) (ap is_name (sym cut) ∙ h)
    ∙ ap (λ x. Some (x, back is_name_byte bytes)) (sym cut) ∙ ap (λ x. Some (take (length bytes - length rest) bytes, x)) (sym e)

pub name_missing : (bytes rest : List ℕ) → rest ≡ back is_name_byte bytes → is_name (take (length bytes - length rest) bytes) ≡ false → name_at bytes ≡ None
unfolding name_at
name_missing bytes rest e h =
    ap (λ b. if b then Some (front is_name_byte bytes, back is_name_byte bytes) else None) (ap is_name (sym (cut_front bytes rest e)) ∙ h)

-- a name has a byte
pub name_shorter : (bytes rest : List ℕ) → is_name (take (length bytes - length rest) bytes) ≡ true → length rest < length bytes
name_shorter bytes rest h = shorter (length bytes - length rest) refl h where
  shorter : (n : ℕ) → length bytes - length rest ≡ n → is_name (take n bytes) ≡ true → length rest < length bytes
  shorter zero e g = absurd (not_named g)
  shorter (suc n) e g = omega arith
