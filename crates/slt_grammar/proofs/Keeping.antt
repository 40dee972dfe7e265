-- Rules with another body, with a call inlined or with a rule added are a grammar still.
use Rattle.std.proofs.Common.{◌≡◌, ℕ, zero, suc, ◌+◌, ◌-◌, ◌<◌, ◌≤◌, List, [], ◌∷◌, ◌++◌, length, get_or, take, drop, map, refl, ap, sym, ◌∙◌, subst, arith, ◌⊎◌, inl, inr, length-append, length-drop}
use Rattle.std.proofs.Math.Numerals.{one-add}
use Rattle.std.proofs.Math.ListN.{get_or-map}
use Rattle.std.proofs.lemmas.Bool.{cases_lt, cases_eq, cases_order}
use Rattle.std.proofs.lemmas.List.{drop_more, take-append-drop, length-take-le, length-map, get_or-take, get_or_append_left, get_or-append_right, get_or-drop, get_or_at}
use Rattle.rule_arena.specs.Preorder.{AreTerms, span, terms, subterm, with_subterm}
use Rattle.rule_arena.proofs.PreorderLemmas.{AreTerms-rest, AreTerms-append, AreTerms-split, AreTerms-with, length-terms, split_at}
use Rattle.rule_arena.specs.declared.label.Label.{Label}
use Rattle.rule_arena.specs.declared.label.Label.TheVariants.{Bottom, Symbol, Call, Param}
use Rattle.slt_grammar.specs.Bodies.{arity, params, CallsBelow, IsTerm}
use Rattle.slt_grammar.specs.Algebras.{ranks_of}
use Rattle.slt_grammar.specs.Grammars.{IsGrammar, IsLawfulAt, body_at, rank_at, no_rule}
use Rattle.slt_grammar.specs.Editing.{put, inlined, with_body, shifted, shifted_label, shifted_rule, rule_added}
use Rattle.slt_grammar.specs.declared.rules.Rule.{Rule}
use Rattle.slt_grammar.proofs.Meanings.{params-append}
use Rattle.slt_grammar.proofs.Substitutions.{joined, params-put, AreTerms-put, AllTerms-terms}
use Rattle.slt_grammar.proofs.RuleMeanings.{rank_at-ranks_of, call-earlier}
use Rattle.slt_grammar.proofs.Adding.{CallsBelow-le, get_or-shifted, ranks-before, ranks-behind}
use Rattle.slt_grammar.proofs.Inlining.{joined-terms, ranks-with_body}

-- calls of lists one after another
pub CallsBelow-append : (n : ℕ) (xs ys : List Label) → CallsBelow n xs → CallsBelow n ys → CallsBelow n (xs ++ ys)
CallsBelow-append n [] ys c d = d
CallsBelow-append n (Bottom ∷ xs) ys c d = CallsBelow-append n xs ys c d
CallsBelow-append n (Symbol f ∷ xs) ys c d = CallsBelow-append n xs ys c d
CallsBelow-append n (Param ∷ xs) ys c d = CallsBelow-append n xs ys c d
CallsBelow-append n (Call q ∷ xs) ys c d = (c.0, CallsBelow-append n xs ys c.1 d)

pub CallsBelow-parts : (n : ℕ) (xs ys : List Label) → CallsBelow n (xs ++ ys) → CallsBelow n xs × CallsBelow n ys
CallsBelow-parts n [] ys c = (tt, c)
CallsBelow-parts n (Bottom ∷ xs) ys c = CallsBelow-parts n xs ys c
CallsBelow-parts n (Symbol f ∷ xs) ys c = CallsBelow-parts n xs ys c
CallsBelow-parts n (Param ∷ xs) ys c = CallsBelow-parts n xs ys c
CallsBelow-parts n (Call q ∷ xs) ys c = let ih = CallsBelow-parts n xs ys c.1 in ((c.0, ih.0), ih.1)

pub CallsBelow-take : (n i : ℕ) (ls : List Label) → CallsBelow n ls → CallsBelow n (take i ls)
CallsBelow-take n i ls c = (CallsBelow-parts n (take i ls) (drop i ls) (rw (take-append-drop i ls) c)).0

pub CallsBelow-drop : (n i : ℕ) (ls : List Label) → CallsBelow n ls → CallsBelow n (drop i ls)
CallsBelow-drop n i ls c = (CallsBelow-parts n (take i ls) (drop i ls) (rw (take-append-drop i ls) c)).1

pub CallsBelow-put : (n : ℕ) (ls : List Label) (given : List (List Label)) → CallsBelow n ls → CallsBelow n (joined given) → CallsBelow n (put ls given)
CallsBelow-put n [] given c d = tt
CallsBelow-put n (Param ∷ ls) [] c d = CallsBelow-put n ls [] c d
CallsBelow-put n (Param ∷ ls) (a ∷ given) c d = let p = CallsBelow-parts n a (joined given) d in CallsBelow-append n a (put ls given) p.0 (CallsBelow-put n ls given c p.1)
CallsBelow-put n (Bottom ∷ ls) given c d = CallsBelow-put n ls given c d
CallsBelow-put n (Symbol f ∷ ls) given c d = CallsBelow-put n ls given c d
CallsBelow-put n (Call q ∷ ls) given c d = (c.0, CallsBelow-put n ls given c.1 d)

pub CallsBelow-with : (n : ℕ) (ar : Label → ℕ) (ls : List Label) (p : ℕ) (ys : List Label) → CallsBelow n ls → CallsBelow n ys → CallsBelow n (with_subterm ar ls p ys)
CallsBelow-with n ar ls p ys c d =
    CallsBelow-append n (take p ls) (ys ++ drop (span ar 1 (drop p ls)) (drop p ls)) (CallsBelow-take n p ls c)
    (CallsBelow-append n ys (drop (span ar 1 (drop p ls)) (drop p ls)) d (CallsBelow-drop n (span ar 1 (drop p ls)) (drop p ls) (CallsBelow-drop n p ls c)))

-- the rule at a place, once a body was changed
pub length-with_body : (G : List Rule) (r : ℕ) (body : List Label) → r < length G → length (with_body G r body) ≡ length G
length-with_body G r body h =
    sym (length-map (with_body G r body) (λ (R : Rule). R.rank)) ∙ ap length (ranks-with_body G r body h) ∙ length-map G (λ (R : Rule). R.rank)

pub rank_at-with_body : (G : List Rule) (r : ℕ) (body : List Label) (q : ℕ) → r < length G → rank_at (with_body G r body) q ≡ rank_at G q
rank_at-with_body G r body q h = sym (rank_at-ranks_of (with_body G r body) q) ∙ ap (λ ns. get_or ns q 0) (ranks-with_body G r body h) ∙ rank_at-ranks_of G q

pub body_at-with_body : (G : List Rule) (r : ℕ) (body : List Label) → r < length G → body_at (with_body G r body) r ≡ body
body_at-with_body [] r body h = absurd (omega arith)
body_at-with_body (R ∷ Rs) zero body h = refl
body_at-with_body (R ∷ Rs) (suc r) body h = let e : suc r + 1 ≡ suc (r + 1) = omega arith in rw e (body_at-with_body Rs r body (omega arith))

pub body_at-other : (G : List Rule) (r : ℕ) (body : List Label) (q : ℕ) → r < length G → (q ≡ r → ⊥) → body_at (with_body G r body) q ≡ body_at G q
body_at-other [] r body q h n = absurd (omega arith)
body_at-other (R ∷ Rs) zero body zero h n = absurd (n refl)
body_at-other (R ∷ Rs) zero body (suc q) h n = refl
body_at-other (R ∷ Rs) (suc r) body zero h n = refl
body_at-other (R ∷ Rs) (suc r) body (suc q) h n = let e : suc r + 1 ≡ suc (r + 1) = omega arith in rw e (body_at-other Rs r body q (omega arith) (λ x. n (ap suc x)))

-- a rule that has another body, but the rank and the ranks it had
lawful-by : (G G' : List Rule) (q : ℕ) → length G' ≡ length G → ranks_of G' ≡ ranks_of G → IsLawfulAt G q → CallsBelow q (body_at G' q) → IsTerm (ranks_of G) (body_at G' q) → params (body_at G' q) ≡ rank_at G q → IsLawfulAt G' q
lawful-by G G' q n e l c t p =
    let k : rank_at G' q ≡ rank_at G q = sym (rank_at-ranks_of G' q) ∙ ap (λ ns. get_or ns q 0) e ∙ rank_at-ranks_of G q in
    let small = l.shaped.small in
    record {
      earlier = c;
      shaped = record { term = rw e t; small = omega (arith, k, small); start = λ z. k ∙ l.shaped.start (z ∙ n) };
      linear = p ∙ sym k;
    }

-- a lawful body in a rule's place
pub grammar-with_body : (G : List Rule) (r : ℕ) (body : List Label) → IsGrammar G → r < length G → CallsBelow r body → IsTerm (ranks_of G) body → params body ≡ rank_at G r → IsGrammar (with_body G r body)
grammar-with_body G r body g h c t p =
    let some = g.some in
    record { some = omega (arith, n, some); each = λ q l. by_place q (omega (arith, n, l)) (cases_eq q r) }
  where
    n : length (with_body G r body) ≡ length G
    n = length-with_body G r body h

    by_place : (q : ℕ) → q < length G → (q ≡ r) ⊎ (q ≡ r → ⊥) → IsLawfulAt (with_body G r body) q
    by_place q l (inl e) =
        let b : body_at (with_body G r body) q ≡ body = ap (body_at (with_body G r body)) e ∙ body_at-with_body G r body h in
        lawful-by G (with_body G r body) q n (ranks-with_body G r body h) (g.each q l) (rw (b, e) c) (rw b t) (rw b (p ∙ ap (rank_at G) (sym e)))
    by_place q l (inr d) =
        let b : body_at (with_body G r body) q ≡ body_at G q = body_at-other G r body q h d in
        let w = g.each q l in
        lawful-by G (with_body G r body) q n (ranks-with_body G r body h) w (rw b w.earlier) (rw b w.shaped.term) (rw b w.linear)

-- another term in a subterm's place
pub grammar-with_subterm : (G : List Rule) (r p : ℕ) (ys : List Label) → IsGrammar G → r < length G → p < length (body_at G r) → CallsBelow r ys → IsTerm (ranks_of G) ys
    → params ys ≡ params (subterm (arity (ranks_of G)) (body_at G r) p) → IsGrammar (with_body G r (with_subterm (arity (ranks_of G)) (body_at G r) p ys))
grammar-with_subterm G r p ys g h l c t e =
    let w = g.each r h in
    let ar = arity (ranks_of G) in
    let ls : List Label = body_at G r in
    let back : List Label = drop (span ar 1 (drop p ls)) (drop p ls) in
    let same : params (with_subterm ar ls p ys) ≡ params ls =
    omega (arith, e, params-append (take p ls) (ys ++ back), params-append ys back, ap params (split_at ar ls p), params-append (take p ls) (subterm ar ls p ++ back), params-append (subterm ar ls p) back) in
    grammar-with_body G r (with_subterm ar ls p ys) g h (CallsBelow-with r ar ls p ys w.earlier c) (AreTerms-with ar 1 ls p ys w.shaped.term l t).1 (same ∙ w.linear)

-- what stands behind a place
abbrev behind : ℕ → List Label → List Label
behind place body = drop (place + 1) body

module _ (ranks : List ℕ) (k : ℕ) (callee body : List Label) (place q : ℕ) (term : IsTerm ranks body) (there : place < length body) (at : get_or body place Bottom ≡ Call q)
    (rank : k ≡ get_or ranks q 0) (called : IsTerm ranks callee) (linear : params callee ≡ k) where
  whole : take place body ++ (Call q ∷ (behind place body)) ≡ body
  whole = let d : drop place body ≡ Call q ∷ behind place body = rw (← at) (drop_more body place Bottom there) in rw (← d) (take-append-drop place body)

  parts : joined (terms (arity ranks) k (behind place body)) ++ drop (span (arity ranks) k (behind place body)) (behind place body) ≡ (behind place body)
  parts = rw (joined-terms ranks k (behind place body)) (take-append-drop (span (arity ranks) k (behind place body)) (behind place body))

  given-many : length (terms (arity ranks) k (behind place body)) ≡ params callee
  given-many = length-terms (arity ranks) k (behind place body) ∙ sym linear

  -- a body with a call inlined is one term
  pub term-inlined : IsTerm ranks (inlined ranks k callee body place)
  term-inlined =
      let r = AreTerms-rest (arity ranks) 1 (take place body) (Call q ∷ (behind place body)) (rw whole term) in
      r.2 (put callee (terms (arity ranks) k (behind place body)) ++ drop (span (arity ranks) k (behind place body)) (behind place body)) (filled r.0 r.1)
    where
      filled : (m : ℕ) → AreTerms (arity ranks) m (Call q ∷ (behind place body)) → AreTerms (arity ranks) m (put callee (terms (arity ranks) k (behind place body)) ++ drop (span (arity ranks) k (behind place body)) (behind place body))
      filled zero t = absurd t
      filled (suc m) t =
          let u : AreTerms (arity ranks) (k + m) (behind place body) = subst (λ j. AreTerms (arity ranks) (j + m) (behind place body)) (sym rank) t in
          let s = AreTerms-split (arity ranks) k m (behind place body) u in
          let all = AllTerms-terms ranks k m (behind place body) u in
          rw one-add at (AreTerms-append (arity ranks) 1 m (put callee (terms (arity ranks) k (behind place body))) (drop (span (arity ranks) k (behind place body)) (behind place body)) (AreTerms-put ranks 1 callee (terms (arity ranks) k (behind place body)) called all given-many) s.1)

  -- and has its parameters
  pub params-inlined : params (inlined ranks k callee body place) ≡ params body
  params-inlined =
      let given = terms (arity ranks) k (behind place body) in
      let back : List Label = drop (span (arity ranks) k (behind place body)) (behind place body) in
      let e : params (take place body ++ (put callee given ++ back)) ≡ params body = omega (
        arith,
        params-append (take place body) (put callee given ++ back),
        params-append (put callee given) back,
        params-put callee given given-many,
        ap params (sym whole),
        params-append (take place body) (Call q ∷ (behind place body)),
        ap params (sym parts),
        params-append (joined given) back,
      ) in
      e

  pub CallsBelow-inlined : (n : ℕ) → CallsBelow n body → CallsBelow n callee → CallsBelow n (inlined ranks k callee body place)
  CallsBelow-inlined n c d =
      let given = terms (arity ranks) k (behind place body) in
      let back : List Label = drop (span (arity ranks) k (behind place body)) (behind place body) in
      let r : CallsBelow n (behind place body) = CallsBelow-drop n (place + 1) body c in
      let p = CallsBelow-parts n (joined given) back (rw parts r) in
      CallsBelow-append n (take place body) (put callee given ++ back) (CallsBelow-take n place body c) (CallsBelow-append n (put callee given) back (CallsBelow-put n callee given d p.0) p.1)

-- a grammar with a call inlined
pub grammar-inlined : (G : List Rule) (r place q : ℕ) → IsGrammar G → r < length G → place < length (body_at G r) → get_or (body_at G r) place Bottom ≡ Call q
    → IsGrammar (with_body G r (inlined (ranks_of G) (rank_at G q) (body_at G q) (body_at G r) place))
grammar-inlined G r place q g h p e =
    let w = g.each r h in
    let lt : q < r = call-earlier r place q (body_at G r) w.earlier e in
    let v = g.each q (omega arith) in
    let k : rank_at G q ≡ get_or (ranks_of G) q 0 = sym (rank_at-ranks_of G q) in
    grammar-with_body G r (inlined (ranks_of G) (rank_at G q) (body_at G q) (body_at G r) place) g h
    (CallsBelow-inlined (ranks_of G) (rank_at G q) (body_at G q) (body_at G r) place q w.shaped.term p e k v.shaped.term v.linear r w.earlier (CallsBelow-le q r (body_at G q) (omega arith) v.earlier))
    (term-inlined (ranks_of G) (rank_at G q) (body_at G q) (body_at G r) place q w.shaped.term p e k v.shaped.term v.linear)
    (params-inlined (ranks_of G) (rank_at G q) (body_at G q) (body_at G r) place q w.shaped.term p e k v.shaped.term v.linear ∙ w.linear)

-- places that are renumbered
pub shifted-before : (place q : ℕ) → q < place → shifted place q ≡ q
shifted-before zero q h = absurd (omega arith)
shifted-before (suc place) zero h = refl
shifted-before (suc place) (suc q) h = ap suc (shifted-before place q (omega arith))

pub shifted-behind : (place q : ℕ) → place ≤ q → shifted place q ≡ suc q
shifted-behind zero q h = refl
shifted-behind (suc place) zero h = absurd (omega arith)
shifted-behind (suc place) (suc q) h = ap suc (shifted-behind place q (omega arith))

pub shifted-less : (place q r : ℕ) → q < r → shifted place q < shifted place r
shifted-less zero q r h = omega arith
shifted-less (suc place) q zero h = absurd (omega arith)
shifted-less (suc place) zero (suc r) h = omega arith
shifted-less (suc place) (suc q) (suc r) h = omega (arith, shifted-less place q r (omega arith))

pub CallsBelow-shifted : (place n : ℕ) (ls : List Label) → CallsBelow n ls → CallsBelow (shifted place n) (map (shifted_label place) ls)
CallsBelow-shifted place n [] c = tt
CallsBelow-shifted place n (Bottom ∷ ls) c = CallsBelow-shifted place n ls c
CallsBelow-shifted place n (Symbol f ∷ ls) c = CallsBelow-shifted place n ls c
CallsBelow-shifted place n (Param ∷ ls) c = CallsBelow-shifted place n ls c
CallsBelow-shifted place n (Call q ∷ ls) c = (shifted-less place q n c.0, CallsBelow-shifted place n ls c.1)

pub params-shifted : (place : ℕ) (ls : List Label) → params (map (shifted_label place) ls) ≡ params ls
params-shifted place [] = refl
params-shifted place (Bottom ∷ ls) = params-shifted place ls
params-shifted place (Symbol f ∷ ls) = params-shifted place ls
params-shifted place (Call q ∷ ls) = params-shifted place ls
params-shifted place (Param ∷ ls) = ap suc (params-shifted place ls)

-- labels that call rules before the place alone stay
pub shifted-same : (place : ℕ) (ls : List Label) → CallsBelow place ls → map (shifted_label place) ls ≡ ls
shifted-same place [] c = refl
shifted-same place (Bottom ∷ ls) c = ap (λ ms. Bottom ∷ ms) (shifted-same place ls c)
shifted-same place (Symbol f ∷ ls) c = ap (λ ms. Symbol f ∷ ms) (shifted-same place ls c)
shifted-same place (Param ∷ ls) c = ap (λ ms. Param ∷ ms) (shifted-same place ls c)
shifted-same place (Call q ∷ ls) c = rw (shifted-before place q c.0, shifted-same place ls c.1)

-- terms by other ranks that agree
AreTerms-shifted : (ranks ranks' : List ℕ) (place : ℕ) → ((q : ℕ) → get_or ranks' (shifted place q) 0 ≡ get_or ranks q 0) → (n : ℕ) (ls : List Label) → AreTerms (arity ranks) n ls → AreTerms (arity ranks') n (map (shifted_label place) ls)
AreTerms-shifted ranks ranks' place e zero [] t = tt
AreTerms-shifted ranks ranks' place e zero (l ∷ ls) t = absurd t
AreTerms-shifted ranks ranks' place e (suc n) [] t = absurd t
AreTerms-shifted ranks ranks' place e (suc n) (Bottom ∷ ls) t = AreTerms-shifted ranks ranks' place e (0 + n) ls t
AreTerms-shifted ranks ranks' place e (suc n) (Param ∷ ls) t = AreTerms-shifted ranks ranks' place e (0 + n) ls t
AreTerms-shifted ranks ranks' place e (suc n) (Symbol f ∷ ls) t = AreTerms-shifted ranks ranks' place e (2 + n) ls t
AreTerms-shifted ranks ranks' place e (suc n) (Call q ∷ ls) t = subst (λ k. AreTerms (arity ranks') (k + n) (map (shifted_label place) ls)) (sym (e q)) (AreTerms-shifted ranks ranks' place e (get_or ranks q 0 + n) ls t)

AreTerms-before : (ranks ranks' : List ℕ) (place : ℕ) → ((q : ℕ) → q < place → get_or ranks' q 0 ≡ get_or ranks q 0) → (n : ℕ) (ls : List Label) → CallsBelow place ls → AreTerms (arity ranks) n ls → AreTerms (arity ranks') n ls
AreTerms-before ranks ranks' place e zero [] c t = tt
AreTerms-before ranks ranks' place e zero (l ∷ ls) c t = absurd t
AreTerms-before ranks ranks' place e (suc n) [] c t = absurd t
AreTerms-before ranks ranks' place e (suc n) (Bottom ∷ ls) c t = AreTerms-before ranks ranks' place e (0 + n) ls c t
AreTerms-before ranks ranks' place e (suc n) (Param ∷ ls) c t = AreTerms-before ranks ranks' place e (0 + n) ls c t
AreTerms-before ranks ranks' place e (suc n) (Symbol f ∷ ls) c t = AreTerms-before ranks ranks' place e (2 + n) ls c t
AreTerms-before ranks ranks' place e (suc n) (Call q ∷ ls) c t = subst (λ k. AreTerms (arity ranks') (k + n) ls) (sym (e q c.0)) (AreTerms-before ranks ranks' place e (get_or ranks q 0 + n) ls c.1 t)

pub length-rule_added : (G : List Rule) (place : ℕ) (R : Rule) → place ≤ length G → length (rule_added G place R) ≡ length G + 1
length-rule_added G place R p =
    omega (arith, length-append (take place G) (R ∷ map (shifted_rule place) (drop place G)), length-take-le place G p, length-map (drop place G) (shifted_rule place), length-drop place G)

-- the new rule stands at its place
pub rule-added : (G : List Rule) (place : ℕ) (R : Rule) → place ≤ length G → get_or (rule_added G place R) place no_rule ≡ R
rule-added G place R p = get_or_at (take place G) R (map (shifted_rule place) (drop place G)) no_rule place (length-take-le place G p)

-- the others stand at their new places, with new places in their calls
pub rule-shifted : (G : List Rule) (place : ℕ) (R : Rule) → IsGrammar G → place ≤ length G → (r : ℕ) → r < length G → get_or (rule_added G place R) (shifted place r) no_rule ≡ shifted_rule place (get_or G r no_rule)
rule-shifted G place R g p r h =
    ap (λ k. get_or (take place G ++ R ∷ map (shifted_rule place) (drop place G)) (shifted k r) no_rule) (sym n)
    ∙ get_or-shifted (take place G) R (map (shifted_rule place) (drop place G)) r no_rule ∙ by_side (cases_lt r place)
  where
    n : length (take place G) ≡ place
    n = length-take-le place G p

    by_side : (r < place) ⊎ (place ≤ r) → get_or (take place G ++ map (shifted_rule place) (drop place G)) r no_rule ≡ shifted_rule place (get_or G r no_rule)
    by_side (inl l) =
        let b : map (shifted_label place) (body_at G r) ≡ body_at G r = shifted-same place (body_at G r) (CallsBelow-le r place (body_at G r) (omega arith) (g.each r h).earlier) in
        get_or_append_left (take place G) (map (shifted_rule place) (drop place G)) no_rule r (omega (arith, n)) ∙ get_or-take place G r no_rule l
        ∙ sym (ap (λ ls. record { rank = rank_at G r; body = ls }) b)
    by_side (inr l) =
        let i : place + (r - place) ≡ r = omega arith in
        get_or-append_right (take place G) (map (shifted_rule place) (drop place G)) place r no_rule n l
        ∙ get_or-map (shifted_rule place) (drop place G) (r - place) no_rule
        ∙ ap (shifted_rule place) (get_or-drop place G (r - place) no_rule ∙ ap (λ j. get_or G j no_rule) i)

-- a lawful rule that nobody calls, put in before the last
pub grammar-added : (G : List Rule) (place : ℕ) (R : Rule) → IsGrammar G → place < length G → CallsBelow place R.body → IsTerm (ranks_of G) R.body → R.rank ≤ 8 → params R.body ≡ R.rank → IsGrammar (rule_added G place R)
grammar-added G place R g p c t small linear =
    record { some = omega (arith, n); each = λ q l. by_place q l (cases_order q place) }
  where
    le : place ≤ length G
    le = omega arith

    n : length (rule_added G place R) ≡ length G + 1
    n = length-rule_added G place R le

    added : IsLawfulAt (rule_added G place R) place
    added =
        let e = rule-added G place R le in
        let b : body_at (rule_added G place R) place ≡ R.body = ap (λ (Q : Rule). Q.body) e in
        let k : rank_at (rule_added G place R) place ≡ R.rank = ap (λ (Q : Rule). Q.rank) e in
        record {
          earlier = rw b c;
          shaped = record {
            term = rw b (AreTerms-before (ranks_of G) (ranks_of (rule_added G place R)) place (ranks-before G place R le) 1 R.body c t);
            small = omega (arith, k, small);
            start = λ z. absurd (omega (arith, n, z));
          };
          linear = ap params b ∙ linear ∙ sym k;
        }

    others : (r : ℕ) → r < length G → IsLawfulAt (rule_added G place R) (shifted place r)
    others r h =
        let e = rule-shifted G place R g le r h in
        let b : body_at (rule_added G place R) (shifted place r) ≡ map (shifted_label place) (body_at G r) = ap (λ (Q : Rule). Q.body) e in
        let k : rank_at (rule_added G place R) (shifted place r) ≡ rank_at G r = ap (λ (Q : Rule). Q.rank) e in
        let w = g.each r h in
        let w-small = w.shaped.small in
        record {
          earlier = rw b (CallsBelow-shifted place r (body_at G r) w.earlier);
          shaped = record {
            term = rw b (AreTerms-shifted (ranks_of G) (ranks_of (rule_added G place R)) place (ranks-behind G place R le) 1 (body_at G r) w.shaped.term);
            small = omega (arith, k, w-small);
            start = λ z. k ∙ w.shaped.start (by_last r h z (cases_lt r place));
          };
          linear = ap params b ∙ params-shifted place (body_at G r) ∙ w.linear ∙ sym k;
        }
      where
        by_last : (r : ℕ) → r < length G → shifted place r + 1 ≡ length (rule_added G place R) → (r < place) ⊎ (place ≤ r) → r + 1 ≡ length G
        by_last r h z (inl l) = absurd (omega (arith, shifted-before place r l, n, z))
        by_last r h z (inr l) = omega (arith, shifted-behind place r l, n, z)

    by_place : (q : ℕ) → q < length (rule_added G place R) → (q ≡ place) ⊎ ((q < place) ⊎ (place < q)) → IsLawfulAt (rule_added G place R) q
    by_place q l (inl e) = subst (IsLawfulAt (rule_added G place R)) (sym e) added
    by_place q l (inr (inl h)) = subst (IsLawfulAt (rule_added G place R)) (shifted-before place q h) (others q (omega arith))
    by_place zero l (inr (inr h)) = absurd (omega arith)
    by_place (suc q) l (inr (inr h)) = subst (IsLawfulAt (rule_added G place R)) (shifted-behind place q (omega arith)) (others q (omega (arith, n)))
