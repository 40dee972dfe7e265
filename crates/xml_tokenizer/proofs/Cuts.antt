-- Bytes are cut into tokens in one way.
use Rattle.std.proofs.Common.{◌≡◌, ℕ, List, [], ◌∷◌, ◌++◌, refl, ap, sym, ◌∙◌, subst, append_assoc, append-nil}
use Rattle.xml_tokens.specs.Tokens.{Token, IsToken, AreTokens}
use Rattle.xml_tokenizer.specs.declared.scan.Scan.TheVariants.{Idle}
use Rattle.xml_tokenizer.specs.declared.scan.Step.TheVariants.{On}
use Rattle.xml_tokens.proofs.TokenLaws.{one_token}
use Rattle.xml_tokenizer.proofs.ScanLaws.{one_cut}
use Rattle.xml_tokenizer.proofs.WholeScans.{scans}

pub tokens_more : (ts : List Token) (bytes after z : List ℕ) → AreTokens ts bytes after → AreTokens ts (bytes ++ z) (after ++ z)
tokens_more [] bytes after z e = ap (λ x. x ++ z) e
tokens_more (t ∷ ts) bytes after z (x, mid, is, e, others) = (x, mid ++ z, is, ap (λ y. y ++ z) e ∙ append_assoc x mid z, tokens_more ts mid after z others)

pub tokens_then : (ts us : List Token) (bytes mid after : List ℕ) → AreTokens ts bytes mid → AreTokens us mid after → AreTokens (ts ++ us) bytes after
tokens_then [] us bytes mid after e f = subst (λ z. AreTokens us z after) (sym e) f
tokens_then (t ∷ ts) us bytes mid after (x, m, is, e, others) f = (x, m, is, e, tokens_then ts us m mid after others f)

no_empty_token : (t : Token) → IsToken t [] → ⊥
no_empty_token t is = let whole = scans t [] is in cc

empty : (x m : List ℕ) → x ++ m ≡ [] → x ≡ []
empty [] m e = refl
empty (c ∷ x) m e = cc

-- tokens at the front of bytes that are tokens are the first of these
pub cut_prefix : (ts us : List Token) (bytes mid : List ℕ) → AreTokens ts bytes mid → AreTokens us bytes [] → (vs : List Token) × (us ≡ ts ++ vs) × AreTokens vs mid []
cut_prefix [] us bytes mid e f = (us, refl, subst (λ z. AreTokens us z []) e f)
cut_prefix (t ∷ ts) [] bytes mid (x, m, is, e, others) f = absurd (no_empty_token t (subst (IsToken t) (empty x m (sym e ∙ f)) is))
cut_prefix (t ∷ ts) (u ∷ us) bytes mid (x, m, is, e, others) (y, n, was, f, rest) =
    let same = one_cut (On Idle) x y m n (scans t x is) (scans u y was) (sym e ∙ f) in
    let first = one_token t u x is (subst (IsToken u) (sym same.0) was) in
    let below = cut_prefix ts us m mid others (subst (λ z. AreTokens us z []) (sym same.1) rest) in
    (below.0, ap (λ z. z ∷ us) (sym first) ∙ ap (λ z. t ∷ z) below.1, below.2)

pub one_cutting : (ts us : List Token) (bytes : List ℕ) → AreTokens ts bytes [] → AreTokens us bytes [] → ts ≡ us
one_cutting ts us bytes a b =
    let p = cut_prefix ts us bytes [] a b in
    by p.0 p.1 p.2 where
      by : (vs : List Token) → us ≡ ts ++ vs → AreTokens vs [] [] → ts ≡ us
      by [] e f = sym (e ∙ append-nil ts)
      by (v ∷ vs) e (x, m, is, f, others) = absurd (no_empty_token v (subst (IsToken v) (empty x m (sym f)) is))

-- the first token of what follows
pub record First (bytes : List ℕ) : Type 0 where
  pub token : Token
  pub others : List Token
  pub text : List ℕ
  pub mid : List ℕ
  pub spelled : IsToken token text
  pub whole : bytes ≡ text ++ mid
