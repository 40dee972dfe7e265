-- Bytes that go on behind whole tokens and the front of one token more.
use Rattle.std.proofs.Common.{◌≡◌, ℕ, List, [], ◌∷◌, ◌++◌, refl, ap, sym, ◌∙◌, subst, inl, inr, append_assoc}
use Rattle.std.specs.Prelude.{Some, None}
use Rattle.xml_tokenizer.specs.declared.scan.Scan.{Scan}
use Rattle.xml_tokenizer.specs.declared.scan.Scan.TheVariants.{Idle}
use Rattle.xml_tokenizer.specs.declared.scan.Step.{Step}
use Rattle.xml_tokenizer.specs.declared.scan.Step.TheVariants.{On, Whole, Dead}
use Rattle.xml_nodes.proofs.Steps.{no_step}
use Rattle.xml_tokens.specs.Tokens.{Token, AreTokens, IsToken}
use Rattle.xml_nodes.specs.Machine.{State, Event, Stepped, steps}
use Rattle.xml_tokenizer.specs.Scanning.{scanned, scan_step}
use Rattle.xml_nodes.specs.Stands.{Refuses}
use Rattle.xml_tokenizer.proofs.ScanLaws.{scanned-append, one_cut, no_token, dead}
use Rattle.xml_nodes.proofs.Layer.{scans}
use Rattle.xml_tokenizer.proofs.Cuts.{cut_prefix, tokens_more}

pub scan_more : (held : List ℕ) (scan : Scan) (c : ℕ) (next : Step) → scanned (On Idle) held ≡ On scan → scan_step scan c ≡ next → scanned (On Idle) (held ++ c ∷ []) ≡ next
scan_more held scan c next w e = scanned-append (On Idle) held (c ∷ []) ∙ ap (λ z. scanned z (c ∷ [])) w ∙ e

-- a scan that goes on over more bytes goes on over the first of them
pub goes_on : (x y : List ℕ) (s : Step) (t : Scan) → scanned s (x ++ y) ≡ On t → (u : Scan) × (scanned s x ≡ On u)
goes_on x y s t e = by_step (scanned s x) refl where
  by_step : (r : Step) → scanned s x ≡ r → (u : Scan) × (scanned s x ≡ On u)
  by_step (On u) f = (u, f)
  by_step Whole f = ends y (sym (scanned-append s x y ∙ ap (λ z. scanned z y) f) ∙ e) where
    ends : (y : List ℕ) → scanned Whole y ≡ On t → (u : Scan) × (scanned s x ≡ On u)
    ends [] g = cc
    ends (c ∷ y) g = cc
  by_step Dead f =
      let bad : Dead ≡ On t = sym (dead y) ∙ sym (scanned-append s x y ∙ ap (λ z. scanned z y) f) ∙ e in
      cc

-- a token that stands where bytes are held goes on behind them
pub record Behind (held more text : List ℕ) (scan : Scan) : Type 0 where
  pub over : List ℕ
  pub after : List ℕ
  pub is : text ≡ held ++ over
  pub rest : more ≡ over ++ after
  pub ends : scanned (On scan) over ≡ Whole

pub over_held : (s : Step) (held more text mid : List ℕ) (scan : Scan) → scanned s held ≡ On scan → scanned s text ≡ Whole → held ++ more ≡ text ++ mid → Behind held more text scan
over_held s [] more text mid scan h w e = record { over = text; after = mid; is = refl; rest = e; ends = subst (λ z. scanned z text ≡ Whole) h w }
over_held (On u) (k ∷ held) more [] mid scan h w e = cc
over_held Dead (k ∷ held) more text mid scan h w e = cc
over_held Whole (k ∷ held) more text mid scan h w e = cc
over_held (On u) (k ∷ held) more (m ∷ text) mid scan h w e =
    let heads : k ≡ m = cc in
    let rest : held ++ more ≡ text ++ mid = cc in
    let below = over_held (scan_step u k) held more text mid scan h (subst (λ z. scanned (scan_step u z) text ≡ Whole) (sym heads) w) rest in
    record { over = below.over; after = below.after; is = ap (λ z. z ∷ text) (sym heads) ∙ ap (λ z. k ∷ z) below.is; rest = below.rest; ends = below.ends }

-- a token has bytes
some_bytes : (t : Token) (x a : List ℕ) → IsToken t x → [] ≡ x ++ a → ⊥
some_bytes t [] a is e = let w = scans t [] is in cc
some_bytes t (c ∷ x) a is e = cc

-- the tokens of bytes that go on
pub cut_further : (ts us : List Token) (bytes held more : List ℕ) → AreTokens ts bytes held → AreTokens us (bytes ++ more) []
    → (vs : List Token) × (us ≡ ts ++ vs) × AreTokens vs (held ++ more) []
cut_further ts us bytes held more a b = cut_prefix ts us (bytes ++ more) (held ++ more) (tokens_more ts bytes held more a) b

-- no tokens of a document begin with this
refused_first : (from : State) (ts us : List Token) (u : Token) (held next : List ℕ) (scan : Scan) (now r : State) (log es : List Event) (c : ℕ) → scanned (On Idle) held ≡ On scan
    → Refuses held scan now c → steps from ts ≡ Some (now, log) → AreTokens (u ∷ us) (held ++ c ∷ next) [] → steps from (ts ++ u ∷ us) ≡ Some (r, es) → ⊥
refused_first from ts us u held next scan now r log es c h (inl e) f a g = no_token (On Idle) held a.0 a.1 next scan c h e (scans u a.0 a.2) (sym a.3)
refused_first from ts us u held next scan now r log es c h (inr (w, none)) f a g =
    let same = one_cut (On Idle) a.0 (held ++ c ∷ []) a.1 next (scans u a.0 a.2) (scan_more held scan c Whole h w) (sym a.3 ∙ sym (append_assoc held (c ∷ []) next)) in
    let stops = no_step from now ts u us log f (none u (subst (λ z. IsToken u z) same.0 a.2)) in
    let bad : ◌≡◌ {A = Stepped} None (Some (r, es)) = sym stops ∙ g in
    cc

-- behind whole tokens and bytes held, a refused byte leads nowhere, whatever follows it
pub refused : (from : State) (ts us : List Token) (bytes held next : List ℕ) (scan : Scan) (now r : State) (log es : List Event) (c : ℕ) → AreTokens ts bytes held
    → scanned (On Idle) held ≡ On scan → steps from ts ≡ Some (now, log) → Refuses held scan now c
    → AreTokens us (bytes ++ c ∷ next) [] → steps from us ≡ Some (r, es) → ⊥
refused from ts us bytes held next scan now r log es c a h f refuses b g =
    let p = cut_further ts us bytes held (c ∷ next) a b in
    go p.0 p.1 p.2 where
      nothing : (x : List ℕ) → x ++ c ∷ next ≡ [] → ⊥
      nothing [] e = cc
      nothing (d ∷ x) e = cc

      go : (vs : List Token) → us ≡ ts ++ vs → AreTokens vs (held ++ c ∷ next) [] → ⊥
      go [] e a = nothing held a
      go (v ∷ vs) e a = refused_first from ts vs v held next scan now r log es c h refuses f a (subst (λ z. steps from z ≡ Some (r, es)) e g)

-- bytes held are the front of a token, so the bytes behind them end it
pub held_goes_on : (us : List Token) (k : ℕ) (held more : List ℕ) (scan : Scan) → scanned (On Idle) (k ∷ held) ≡ On scan → AreTokens us ((k ∷ held) ++ more) []
    → (text : List ℕ) × Behind (k ∷ held) more text scan
held_goes_on [] k held more scan h a = cc
held_goes_on (u ∷ us) k held more scan h a = (a.0, over_held (On Idle) (k ∷ held) more a.0 a.1 scan h (scans u a.0 a.2) a.3)
