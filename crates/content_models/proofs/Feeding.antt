-- The machine is fed the tokens of a model, one by one.
use Rattle.std.proofs.Common.{◌≡◌, ℕ, List, [], ◌∷◌, ◌++◌, Option, Some, None, refl, sym, ◌∙◌, ap, subst, append_assoc}
use Rattle.std.proofs.lemmas.List.{append-nil}
use Rattle.xml_tokens.specs.Cutting.{back}
use Rattle.content_models.specs.declared.model_reading.Nesting.{Nesting}
use Rattle.content_models.specs.declared.postfix.Op.{Op}
use Rattle.content_models.specs.Feeding.{Refuses, Takes}
use Rattle.content_models.specs.Lines.{SpellsModel}
use Rattle.content_models.specs.Machine.{At, ended, run, start}
use Rattle.content_models.specs.Models.{Model}
use Rattle.content_models.specs.Nesting.{deepest, deepest_from}
use Rattle.content_models.specs.Postfix.{code_on}
use Rattle.content_models.specs.Spelled.{Token, Spells}
use Rattle.content_models.specs.Tokens.{Found, token_at, is_blank}
use Rattle.content_models.proofs.Codes.{spells_one}
use Rattle.content_models.proofs.Complete.{complete}
use Rattle.content_models.proofs.Lexing.{Reading, reading-begins, reading-on, reading-ends, reading-fails, tokens-one}
use Rattle.content_models.proofs.Sound.{sound}

none_some : (code : List Op) → ◌≡◌ {A = Option (List Op)} None (Some code) → ⊥
none_some code e = cc

abbrev no_nesting : Nesting
no_nesting = record { current = 0; most = 0 }

-- the machine has read the tokens of the bytes up to the rest
pub record Fed (bytes rest : List ℕ) (m : At) (n : Nesting) : Type 0 where
  pub tokens : List Token
  pub reading : Reading bytes rest tokens
  pub ran : (us : List Token) → run (Some m) us ≡ run start (tokens ++ us)
  pub deep : (us : List Token) → deepest_from n us ≡ deepest (tokens ++ us)

pub fed-begins : (bytes rest : List ℕ) (m : At) → rest ≡ back is_blank bytes → Some m ≡ start → Fed bytes rest m no_nesting
fed-begins bytes rest m e s = record { tokens = []; reading = reading-begins bytes rest e; ran = λ us. ap (λ x. run x us) s; deep = λ us. refl }

pub fed-on : (bytes rest next : List ℕ) (m l : At) (n k : Nesting) → Takes m l n k (token_at rest) next → Fed bytes rest m n → Fed bytes next l k
fed-on bytes rest next m l n k t f = record {
  tokens = f.tokens ++ t.token ∷ [];
  reading = reading-on bytes rest t.left next f.tokens t.token t.is t.skipped f.reading;
  ran = λ us. ap (λ x. run x us) (sym t.read) ∙ f.ran (t.token ∷ us) ∙ ap (run start) (sym (append_assoc f.tokens (t.token ∷ []) us));
  deep = λ us. ap (λ x. deepest_from x us) t.nesting ∙ f.deep (t.token ∷ us) ∙ ap deepest (sym (append_assoc f.tokens (t.token ∷ []) us));
}

-- a refusal is no model
pub fed-refuses : (bytes rest : List ℕ) (m : At) (n : Nesting) (found : Found) → token_at rest ≡ found → Refuses m found → (rest ≡ [] → ⊥) → Fed bytes rest m n
    → (model : Model) (depth : ℕ) → SpellsModel bytes model depth → ⊥
fed-refuses bytes rest m n None e r some f model depth s = reading-fails bytes rest f.tokens s.tokens some e f.reading s.cut
fed-refuses bytes rest m n (Some p) e r some f model depth s =
    let g = reading-on bytes rest p.1 (back is_blank p.1) f.tokens p.0 e refl f.reading in
    let v = g.off s.tokens s.cut in
    let whole : s.tokens ≡ f.tokens ++ p.0 ∷ v.0 = v.2 ∙ append_assoc f.tokens (p.0 ∷ []) v.0 in
    none_some (code_on model []) (ap (λ x. run x v.0) (sym r) ∙ f.ran (p.0 ∷ v.0) ∙ ap (run start) (sym whole) ∙ complete model s.tokens s.spelled)

ran-whole : (bytes rest : List ℕ) (m : At) (n : Nesting) (f : Fed bytes rest m n) → ended m ≡ run start f.tokens
ran-whole bytes rest m n f = f.ran [] ∙ ap (run start) (append-nil f.tokens)

-- the bytes spell a model of this code
pub fed-ends : (bytes rest : List ℕ) (m : At) (n : Nesting) (code : List Op) → rest ≡ [] → ended m ≡ Some code → Fed bytes rest m n
    → (model : Model) × SpellsModel bytes model n.most × (code ≡ code_on model [])
fed-ends bytes rest m n code e h f =
    let s = sound f.tokens code (sym (ran-whole bytes rest m n f) ∙ h) in
    (s.0, record { tokens = f.tokens; cut = reading-ends bytes rest f.tokens e f.reading; spelled = s.1; deep = f.deep [] ∙ ap deepest (append-nil f.tokens) }, s.2)

pub fed-open : (bytes rest : List ℕ) (m : At) (n : Nesting) → rest ≡ [] → ended m ≡ None → Fed bytes rest m n → (model : Model) (depth : ℕ) → SpellsModel bytes model depth → ⊥
fed-open bytes rest m n e h f model depth s =
    let same = tokens-one bytes s.tokens f.tokens s.cut (reading-ends bytes rest f.tokens e f.reading) in
    none_some (code_on model []) (sym h ∙ ran-whole bytes rest m n f ∙ ap (run start) (sym same) ∙ complete model s.tokens s.spelled)

-- bytes spell one model
pub model-one : (bytes : List ℕ) (m n : Model) (c d : ℕ) → SpellsModel bytes m c → SpellsModel bytes n d → (m ≡ n) × (c ≡ d)
model-one bytes m n c d s t =
    let same = tokens-one bytes s.tokens t.tokens s.cut t.cut in
    (spells_one t.tokens m n (subst (λ x. Spells x m) same s.spelled) t.spelled, s.deep ∙ ap deepest same ∙ sym t.deep)
