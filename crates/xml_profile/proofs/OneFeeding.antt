-- Bytes lead each reader through the same calls.
use Rattle.std.proofs.Common.{◌≡◌, ℕ, false, List, [], ◌∷◌, ◌++◌, refl, ap, sym, ◌∙◌, subst}
use Rattle.std.specs.Prelude.{Some}
use Rattle.xml_tokens.specs.Tokens.{Token, AreTokens, IsToken}
use Rattle.xml_tokens.proofs.TokenLaws.{one_token}
use Rattle.xml_tokenizer.specs.LineEnds.{line_ends}
use Rattle.xml_tokenizer.specs.Scanning.{scanned}
use Rattle.xml_tokenizer.specs.Standing.{HasRead}
use Rattle.xml_tokenizer.specs.declared.scan.Scan.{Scan}
use Rattle.xml_tokenizer.specs.declared.scan.Scan.TheVariants.{Idle}
use Rattle.xml_tokenizer.specs.declared.scan.Step.TheVariants.{On, Whole}
use Rattle.xml_tokenizer.proofs.Cuts.{tokens_more}
use Rattle.xml_tokenizer.proofs.LineEndLaws.{line_ends-append}
use Rattle.xml_tokenizer.proofs.ScanLaws.{one_cut}
use Rattle.xml_tokenizer.proofs.WholeScans.{scans}
use Rattle.xml_nodes.specs.Machine.{Stepped, steps, start}
use Rattle.xml_nodes.specs.Spelling.{Spells}
use Rattle.xml_nodes.specs.StateOf.{state_of}
use Rattle.xml_nodes.proofs.Bytes.{calls_begin}
use Rattle.xml_nodes.proofs.Fed.{goes_on}
use Rattle.xml_nodes.proofs.Grammar.{some_is}
use Rattle.xml_profile.specs.Laws.{CallsAreOne, CallsBegin}

-- no token stands whole where one has only begun
not_begun : (u : Token) (us : List Token) (bytes rest : List ℕ) (scan : Scan) → scanned (On Idle) bytes ≡ On scan → AreTokens (u ∷ us) bytes rest → ⊥
not_begun u us bytes rest scan w a =
    let on = goes_on a.0 a.1 (On Idle) scan (ap (λ z. scanned (On Idle) z) (sym a.3) ∙ w) in
    let bad : Whole ≡ On on.0 = sym (scans u a.0 a.2) ∙ on.1 in
    cc

-- bytes are cut in one way, up to a token that has begun
one_front : (ts us : List Token) (bytes x y : List ℕ) (s t : Scan) → AreTokens ts bytes x → AreTokens us bytes y → scanned (On Idle) x ≡ On s → scanned (On Idle) y ≡ On t → ts ≡ us
one_front [] [] bytes x y s t a b v w = refl
one_front [] (u ∷ us) bytes x y s t a b v w = absurd (not_begun u us bytes y s (ap (λ z. scanned (On Idle) z) a ∙ v) b)
one_front (u ∷ us) [] bytes x y s t a b v w = absurd (not_begun u us bytes x t (ap (λ z. scanned (On Idle) z) b ∙ w) a)
one_front (u ∷ us) (k ∷ ks) bytes x y s t a b v w =
    let same = one_cut (On Idle) a.0 b.0 a.1 b.1 (scans u a.0 a.2) (scans k b.0 b.2) (sym a.3 ∙ b.3) in
    let first = one_token u k a.0 a.2 (subst (λ z. IsToken k z) (sym same.0) b.2) in
    let rest = one_front us ks a.1 x y s t a.4 (subst (λ z. AreTokens ks z y) (sym same.1) b.4) v w in
    ap (λ z. z ∷ us) first ∙ ap (λ z. k ∷ z) rest

-- the tokens so far of the bytes fed, and what is held
cut_of : (held : List ℕ) (scan : Scan) (count start : ℕ) (tokens : List Token) (fed : List ℕ) → HasRead held scan count start tokens fed → AreTokens tokens (line_ends fed) held
cut_of held scan count _ tokens fed h =
    let lines : line_ends fed ≡ line_ends h.front ++ held =
    ap line_ends h.whole ∙ line_ends-append h.front h.raw false ∙ ap (λ z. line_ends h.front ++ z) (sym h.behind.rest) in
    subst (λ z. AreTokens tokens z held) (sym lines) (tokens_more tokens (line_ends h.front) [] held h.behind.cut)

pub calls-one : CallsAreOne
calls-one r s calls others fed a b =
    let same = one_front a.tokens b.tokens (line_ends fed) r.tokenizer.held.items s.tokenizer.held.items r.tokenizer.scan s.tokenizer.scan
    (cut_of _ _ _ _ a.tokens fed a.cut.read) (cut_of _ _ _ _ b.tokens fed b.cut.read) a.cut.read.behind.waits b.cut.read.behind.waits in
    let both : ◌≡◌ {A = Stepped} (Some (state_of r.machine, calls)) (Some (state_of s.machine, others)) = sym a.stepped ∙ ap (λ z. steps start z) same ∙ b.stepped in
    ap (λ z. z.1) (some_is (state_of r.machine, calls) (state_of s.machine, others) both)

pub calls-begin : CallsBegin
calls-begin r calls fed next t s p =
    let read = s.cut.read in
    calls_begin read.front read.raw r.tokenizer.held.items r.tokenizer.scan (state_of r.machine) calls (record { tokens = s.tokens; read = read.behind; stepped = s.stepped }) next t
    (subst (λ z. Spells (z ++ next) t) read.whole p)
