-- A call that is replaced by its rule's body changes no meaning.
use Rattle.std.proofs.Common.{◌≡◌, ℕ, zero, suc, ◌+◌, ◌<◌, List, [], ◌∷◌, ◌++◌, length, get_or, take, drop, refl, ap, sym, ◌∙◌, arith, get_or-take, take-add}
use Rattle.std.proofs.Math.Numerals.{one-add}
use Rattle.std.proofs.lemmas.List.{drop_more, take_at, drop_at, take-append-drop, length-take-le}
use Rattle.rule_arena.specs.Preorder.{AreTerms, span, terms}
use Rattle.rule_arena.proofs.PreorderLemmas.{span-add, length-terms}
use Rattle.rule_arena.specs.declared.label.Label.{Label}
use Rattle.rule_arena.specs.declared.label.Label.TheVariants.{Bottom, Call}
use Rattle.slt_grammar.specs.Bodies.{arity, params, IsTerm}
use Rattle.slt_grammar.specs.Algebras.{Algebra, meanings, meaning, rule_meanings, ranks_of, all_meanings}
use Rattle.slt_grammar.specs.Grammars.{IsGrammar, body_at, rank_at, no_rule}
use Rattle.slt_grammar.specs.Editing.{put, inlined, with_body}
use Rattle.slt_grammar.specs.declared.rules.Rule.{Rule}
use Rattle.slt_grammar.proofs.Meanings.{meanings-append, meanings-whole, only}
use Rattle.slt_grammar.proofs.Substitutions.{joined, AllTerms, params-put, meanings-put, AreTerms-joined, AllTerms-terms}
use Rattle.slt_grammar.proofs.RuleMeanings.{rank_at-ranks_of, rule-means, rule_meanings-same, call-earlier}

-- the first terms, one after another, are the first items
pub joined-terms : (ranks : List ℕ) (n : ℕ) (ls : List Label) → joined (terms (arity ranks) n ls) ≡ take (span (arity ranks) n ls) ls
joined-terms ranks zero ls = refl
joined-terms ranks (suc n) ls =
    let ar = arity ranks in
    let s = span ar 1 ls in
    let e : span ar (suc n) ls ≡ s + span ar n (drop s ls) = rw (← one-add n) (span-add ar 1 n ls) in
    rw (joined-terms ranks n (drop s ls), e) (sym (take-add s (span ar n (drop s ls)) ls))

module _ {S : Type 0} (A : Algebra S) (ranks : List ℕ) (fs : List (List S → S)) where
  meanings-inline-here : (args : List S) (q : ℕ) (body : List Label) (given : List (List Label)) (back : List Label) (rest : List S)
      → IsTerm ranks body → AllTerms ranks given → length given ≡ params body → get_or ranks q 0 ≡ params body
      → ((vs : List S) → get_or fs q (λ _. A.bottom) vs ≡ get_or (meanings A ranks fs vs body []) 0 A.bottom)
      → meanings A ranks fs args (put body given ++ back) rest ≡ meanings A ranks fs args (Call q ∷ (joined given ++ back)) rest
  meanings-inline-here args q body given back rest b t e k r =
      let M : List S = meanings A ranks fs (drop (params (joined given)) args) back rest in
      let vs : List S = meanings A ranks fs args (joined given) [] in
      let v = meanings-whole A ranks fs (length given) args (joined given) M (AreTerms-joined ranks given t) in
      let w = meanings-whole A ranks fs 1 vs body M b in
      let o = only A.bottom (meanings A ranks fs vs body []) w.1 in
      let n : length vs ≡ get_or ranks q 0 = v.1 ∙ e ∙ sym k in
      let left : meanings A ranks fs args (put body given ++ back) rest ≡ get_or (meanings A ranks fs vs body []) 0 A.bottom ∷ M =
      rw (meanings-append A ranks fs args (put body given) back rest, params-put body given e, meanings-put A ranks fs args body given M t e, w.0, o) in
      let right : meanings A ranks fs args (joined given ++ back) rest ≡ vs ++ M = meanings-append A ranks fs args (joined given) back rest ∙ v.0 in
      left ∙ sym (rw (right, take_at vs M (get_or ranks q 0) n, drop_at vs M (get_or ranks q 0) n, r vs))

  -- a call means what its rule's body means with the arguments in the places of its parameters, whatever stands around
  pub meanings-inline : (args : List S) (front : List Label) (q : ℕ) (body : List Label) (given : List (List Label)) (back : List Label) (rest : List S)
      → IsTerm ranks body → AllTerms ranks given → length given ≡ params body → get_or ranks q 0 ≡ params body
      → ((vs : List S) → get_or fs q (λ _. A.bottom) vs ≡ get_or (meanings A ranks fs vs body []) 0 A.bottom)
      → meanings A ranks fs args (front ++ (put body given ++ back)) rest ≡ meanings A ranks fs args (front ++ (Call q ∷ (joined given ++ back))) rest
  meanings-inline args front q body given back rest b t e k r =
      rw (meanings-append A ranks fs args front (put body given ++ back) rest, meanings-append A ranks fs args front (Call q ∷ (joined given ++ back)) rest, meanings-inline-here (drop (params front) args) q body given back rest b t e k r)

-- what stands behind a label of a term
terms-behind : (ranks : List ℕ) (n : ℕ) (front : List Label) (l : Label) (back : List Label) → AreTerms (arity ranks) n (front ++ l ∷ back) → (m : ℕ) × AreTerms (arity ranks) (arity ranks l + m) back
terms-behind ranks zero [] l back t = absurd t
terms-behind ranks (suc n) [] l back t = (n, t)
terms-behind ranks zero (x ∷ front) l back t = absurd t
terms-behind ranks (suc n) (x ∷ front) l back t = terms-behind ranks (arity ranks x + n) front l back t

module _ {S : Type 0} (A : Algebra S) (ranks : List ℕ) where
  -- a body in which a call was replaced means what it meant
  pub meanings-inlined : (fs : List (List S → S)) (body callee : List Label) (place q : ℕ) (args : List S)
      → IsTerm ranks body → place < length body → get_or body place Bottom ≡ Call q
      → IsTerm ranks callee → params callee ≡ get_or ranks q 0
      → ((vs : List S) → get_or fs q (λ _. A.bottom) vs ≡ get_or (meanings A ranks fs vs callee []) 0 A.bottom)
      → meanings A ranks fs args (inlined ranks (get_or ranks q 0) callee body place) [] ≡ meanings A ranks fs args body []
  meanings-inlined fs body callee place q args t h at tc pc r =
      let ar = arity ranks in
      let k : ℕ = get_or ranks q 0 in
      let rest : List Label = drop (place + 1) body in
      let given = terms ar k rest in
      let back = drop (span ar k rest) rest in
      let d : drop place body ≡ Call q ∷ rest = rw (← at) (drop_more body place Bottom h) in
      let whole : take place body ++ (Call q ∷ rest) ≡ body = rw (← d) (take-append-drop place body) in
      let v = terms-behind ranks 1 (take place body) (Call q) rest (rw whole t) in
      let al = AllTerms-terms ranks k v.0 rest v.1 in
      let j : joined given ++ back ≡ rest = rw (joined-terms ranks k rest) (take-append-drop (span ar k rest) rest) in
      meanings-inline A ranks fs args (take place body) q callee given back [] tc al (length-terms ar k rest ∙ sym pc) (sym pc) r
      ∙ ap (λ ls. meanings A ranks fs args ls []) (ap (λ ls. take place body ++ (Call q ∷ ls)) j ∙ whole)

-- another body changes no rank
pub ranks-with_body : (G : List Rule) (r : ℕ) (body : List Label) → r < length G → ranks_of (with_body G r body) ≡ ranks_of G
ranks-with_body [] r body h = absurd (omega arith)
ranks-with_body (R ∷ Rs) zero body h = refl
ranks-with_body (R ∷ Rs) (suc r) body h = let e : suc r + 1 ≡ suc (r + 1) = omega arith in rw e (ap (λ ns. R.rank ∷ ns) (ranks-with_body Rs r body (omega arith)))

-- a body of the same meaning over the rules before it changes no rule's meaning
pub with_body-keeps : {S : Type 0} (A : Algebra S) (G : List Rule) (r : ℕ) (body : List Label) → r < length G
    → ((args : List S) → meaning A (ranks_of G) (rule_meanings A (ranks_of G) [] (take r G)) body args ≡ meaning A (ranks_of G) (rule_meanings A (ranks_of G) [] (take r G)) (body_at G r) args)
    → all_meanings A (with_body G r body) ≡ all_meanings A G
with_body-keeps A G r body h same =
    let ranks : List ℕ = ranks_of G in
    let G' : take r G ++ get_or G r no_rule ∷ drop (r + 1) G ≡ G = rw (← drop_more G r no_rule h) (take-append-drop r G) in
    ap (λ ns. rule_meanings A ns [] (with_body G r body)) (ranks-with_body G r body h)
    ∙ rule_meanings-same A ranks [] (take r G) (get_or G r no_rule) (record { rank = rank_at G r; body = body }) (drop (r + 1) G) same ∙ ap (rule_meanings A ranks []) G'

-- the rules with a call replaced mean what they meant
pub inlining-keeps : {S : Type 0} (A : Algebra S) (G : List Rule) (r place q : ℕ) → IsGrammar G → r < length G → place < length (body_at G r) → get_or (body_at G r) place Bottom ≡ Call q
    → all_meanings A (with_body G r (inlined (ranks_of G) (rank_at G q) (body_at G q) (body_at G r) place)) ≡ all_meanings A G
inlining-keeps {S} A G r place q g h p e =
    let ranks : List ℕ = ranks_of G in
    let lt : q < r = call-earlier r place q (body_at G r) (g.each r h).earlier e in
    let lq = g.each q (omega arith) in
    let H : List Rule = take r G in
    let n : length H ≡ r = length-take-le r G (omega arith) in
    let b : body_at H q ≡ body_at G q = ap (λ (R : Rule). R.body) (get_or-take r G q no_rule lt) in
    let k : get_or ranks q 0 ≡ rank_at G q = rank_at-ranks_of G q in
    let means : (vs : List S) → get_or (rule_meanings A ranks [] H) q (λ _. A.bottom) vs ≡ get_or (meanings A ranks (rule_meanings A ranks [] H) vs (body_at G q) []) 0 A.bottom =
    λ vs. rw b at (rule-means A ranks H q vs (omega arith) (rw b lq.earlier)) in
    with_body-keeps A G r (inlined ranks (rank_at G q) (body_at G q) (body_at G r) place) h
    (λ args. ap (λ ms. get_or ms 0 A.bottom) (rw k at (meanings-inlined A ranks (rule_meanings A ranks [] H) (body_at G r) (body_at G q) place q args (g.each r h).shaped.term p e lq.shaped.term (lq.linear ∙ sym k) means)))
