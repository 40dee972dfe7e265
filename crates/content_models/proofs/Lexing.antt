-- The tokens of a model from the front.
use Rattle.std.proofs.Common.{◌≡◌, ℕ, List, [], ◌∷◌, ◌++◌, Bool, true, false, Some, None, refl, sym, ◌∙◌, ap, subst, if◌then◌else◌, length, arith}
use Rattle.std.proofs.lemmas.List.{append-nil, append_assoc}
use Rattle.xml_tokens.specs.Cutting.{back}
use Rattle.content_models.specs.Spelled.{Token}
use Rattle.content_models.specs.Tokens.{Found, token_at, is_blank, AreTokens, at_end, then_token}

back-from : (p : ℕ → Bool) (c : ℕ) (cs : List ℕ) (b : Bool) → p c ≡ b → back p (back p cs) ≡ back p cs → back p (if b then back p cs else c ∷ cs) ≡ (if b then back p cs else c ∷ cs)
back-from p c cs true e h = h
back-from p c cs false e h = rw e refl

pub back-back : (p : ℕ → Bool) (bs : List ℕ) → back p (back p bs) ≡ back p bs
back-back p [] = refl
back-back p (c ∷ cs) = back-from p c cs (p c) refl (back-back p cs)

skipped-tokens : (bs x : List ℕ) (us : List Token) → x ≡ back is_blank bs → AreTokens x us → AreTokens bs us
skipped-tokens bs _ _ e (at_end x h) = at_end bs (sym (ap (back is_blank) e ∙ back-back is_blank bs) ∙ h)
skipped-tokens bs _ _ e (then_token x rest t ts h r) = then_token bs rest t ts (ap token_at (sym (ap (back is_blank) e ∙ back-back is_blank bs)) ∙ h) r

tokens-skipped : (bs : List ℕ) (us : List Token) → AreTokens bs us → AreTokens (back is_blank bs) us
tokens-skipped _ _ (at_end bs h) = at_end (back is_blank bs) (back-back is_blank bs ∙ h)
tokens-skipped _ _ (then_token bs rest t ts h r) = then_token (back is_blank bs) rest t ts (ap token_at (back-back is_blank bs) ∙ h) r

some_pair : (t s : Token) (x y : List ℕ) → ◌≡◌ {A = Found} (Some (t, x)) (Some (s, y)) → x ≡ y
some_pair t s x y e = ap (λ (f : Found). elim f [ Some p ↦ p.1 | None ↦ y ]) e

some_token : (t s : Token) (x y : List ℕ) → ◌≡◌ {A = Found} (Some (t, x)) (Some (s, y)) → t ≡ s
some_token t s x y e = ap (λ (f : Found). elim f [ Some p ↦ p.0 | None ↦ s ]) e

none_pair : (s : Token) (y : List ℕ) → ◌≡◌ {A = Found} None (Some (s, y)) → ⊥
none_pair s y e = cc

opaque-nothing : token_at [] ≡ None
unfolding token_at
opaque-nothing = refl

-- the tokens begin with the one at the front
one-token : (bs rest : List ℕ) (t : Token) (us : List Token) → token_at (back is_blank bs) ≡ Some (t, rest) → AreTokens bs us → (vs : List Token) × AreTokens rest vs × (us ≡ t ∷ vs)
one-token _ rest t _ e (at_end bs h) = absurd (none_pair t rest (sym opaque-nothing ∙ ap token_at (sym h) ∙ e))
one-token _ rest t _ e (then_token bs x u ts h r) =
    (ts, subst (λ y. AreTokens y ts) (some_pair u t x rest (sym h ∙ e)) r, ap (λ y. y ∷ ts) (some_token u t x rest (sym h ∙ e)))

no-tokens : (bs : List ℕ) (us : List Token) → back is_blank bs ≡ [] → AreTokens bs us → us ≡ []
no-tokens _ _ e (at_end bs h) = refl
no-tokens _ _ e (then_token bs rest t ts h r) = absurd (none_pair t rest (sym opaque-nothing ∙ ap token_at (sym e) ∙ h))

-- the bytes have one list of tokens
pub tokens-one : (bs : List ℕ) (ts us : List Token) → AreTokens bs ts → AreTokens bs us → ts ≡ us
tokens-one _ _ us (at_end bs h) g = sym (no-tokens bs us h g)
tokens-one _ _ us (then_token bs rest t ts h r) g = let o = one-token bs rest t us h g in ap (λ x. t ∷ x) (tokens-one rest ts o.0 r o.1) ∙ sym o.2

-- so many tokens were read from the bytes, and these are left
pub record Reading (bytes rest : List ℕ) (ts : List Token) : Type 0 where
  pub skipped : back is_blank rest ≡ rest
  pub on : (us : List Token) → AreTokens rest us → AreTokens bytes (ts ++ us)
  pub off : (us : List Token) → AreTokens bytes us → (vs : List Token) × AreTokens rest vs × (us ≡ ts ++ vs)

pub reading-begins : (bytes rest : List ℕ) → rest ≡ back is_blank bytes → Reading bytes rest []
reading-begins bytes rest e = record {
  skipped = ap (back is_blank) e ∙ back-back is_blank bytes ∙ sym e;
  on = λ us h. skipped-tokens bytes rest us e h;
  off = λ us h. (us, subst (λ x. AreTokens x us) (sym e) (tokens-skipped bytes us h), refl);
}

pub reading-on : (bytes rest after next : List ℕ) (ts : List Token) (t : Token) → token_at rest ≡ Some (t, after) → next ≡ back is_blank after → Reading bytes rest ts → Reading bytes next (ts ++ t ∷ [])
reading-on bytes rest after next ts t e k r = record {
  skipped = ap (back is_blank) k ∙ back-back is_blank after ∙ sym k;
  on = λ us h. subst (λ x. AreTokens bytes x) (sym (append_assoc ts (t ∷ []) us))
      (r.on (t ∷ us) (then_token rest after t us (ap token_at r.skipped ∙ e) (skipped-tokens after next us k h)));
  off = λ us h.
      let v = r.off us h in
      let a = one-token rest after t v.0 (ap token_at r.skipped ∙ e) v.1 in
      (a.0, subst (λ x. AreTokens x a.0) (sym k) (tokens-skipped after a.0 a.1), v.2 ∙ ap (λ x. ts ++ x) a.2 ∙ sym (append_assoc ts (t ∷ []) a.0));
}

pub reading-ends : (bytes rest : List ℕ) (ts : List Token) → rest ≡ [] → Reading bytes rest ts → AreTokens bytes ts
reading-ends bytes rest ts e r = subst (λ x. AreTokens bytes x) (append-nil ts) (r.on [] (at_end rest (r.skipped ∙ e)))

-- where bytes are left that begin with no token, the whole has none
pub reading-fails : (bytes rest : List ℕ) (ts us : List Token) → (rest ≡ [] → ⊥) → token_at rest ≡ None → Reading bytes rest ts → AreTokens bytes us → ⊥
reading-fails bytes rest ts us n e r h = let v = r.off us h in no-token rest v.0 v.1 n r.skipped e where
  no-token : (left : List ℕ) (vs : List Token) → AreTokens left vs → (left ≡ [] → ⊥) → back is_blank left ≡ left → token_at left ≡ None → ⊥
  no-token _ _ (at_end left g) n s f = n (sym s ∙ g)
  no-token _ _ (then_token left x u ws g q) n s f = none_pair u x (sym f ∙ ap token_at (sym s) ∙ g)

pub none-left : (xs : List ℕ) → length xs ≡ 0 → xs ≡ []
none-left [] e = refl
none-left (x ∷ xs) e = grind (arith)
