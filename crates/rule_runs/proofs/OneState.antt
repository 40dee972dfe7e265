-- Runs upward of automata that give every node the state of bottom.
use Rattle.std.proofs.Common.{◌≡◌, ◌≢◌, ℕ, zero, suc, ◌+◌, ◌-◌, ◌<◌, ◌≤◌, List, [], ◌∷◌, ◌++◌, length, get_or, take, drop, Some, slice_get, inl, inr, refl, sym, ap, ◌∙◌, arith, subst, sum_by, All, AllPairs, Bool, true, false, get_or-drop}
use Rattle.std.specs.Prelude.{replicate, eqb, if◌then◌else◌}
use Rattle.std.proofs.lemmas.List.Elements.{All-append, All-map, All-nil}
use Rattle.std.proofs.lemmas.List.Sums.{sum_by-cons, sum_by_more, sum_by_push}
use Rattle.std.proofs.lemmas.List.{map-append, append-nil, length-take-le, length-replicate}
use Rattle.std.proofs.lemmas.Bool.{cases_lt, eqb-true}
use Rattle.rule_arena.specs.declared.label.Label.{Label}
use Rattle.rule_arena.specs.declared.label.Label.TheVariants.{Bottom, Symbol, Call, Param}
use Rattle.slt_grammar.specs.Algebras.{Algebra, apply, meanings, meaning, rule_meanings, ranks_of, all_meanings}
use Rattle.slt_grammar.specs.Bodies.{params, calls_in}
use Rattle.slt_grammar.specs.Grammars.{IsGrammar, IsSwept, no_rule, body_at, rank_at, calls_of, whole}
use Rattle.slt_grammar.specs.OneState.{HasOneState}
use Rattle.slt_grammar.specs.Terms.{Term, Leaf, Node, Hole, up}
use Rattle.slt_grammar.specs.declared.rules.Rule.{Rule}
use Rattle.slt_grammar.proofs.RuleMeanings.{rank_at-ranks_of, call-earlier}
use Rattle.rule_runs.specs.Reached.{RuleStates, Uses, at_start, at_call, states_from, argument_states}
use Rattle.rule_runs.specs.Risen.{IsPair, IsRun, state_at, keys, IsKnown, AreKnown}
use Rattle.rule_runs.specs.Frames.{IsEvaluated}
use Rattle.rule_runs.proofs.Closing.{known-more, known-last}
use Rattle.rule_runs.proofs.Evaluation.{enough}
use Rattle.rule_runs.proofs.Lists.{all-one, distinct-insert, slice_get-at}

-- ---- calls
-- a rule that is called is called in some body
caller : (G : List Rule) (q : ℕ) → 0 < calls_of G q → (r : ℕ) × (r < length G) × (0 < calls_in q (body_at G r))
caller [] q h = absurd (omega arith)
caller (R ∷ Rs) q h = elim (cases_lt 0 (calls_in q R.body)) [
  | inl some ↦ (0, omega arith, some)
  | inr other ↦
      let fewer : 0 < calls_of Rs q = omega (arith, sum_by-cons (λ (S : Rule). calls_in q S.body) R Rs) in
      let found = caller Rs q fewer in
      (suc found.0, omega (arith, found.1), found.2)
]

-- and at some place of it
call-place : (q : ℕ) (ls : List Label) → 0 < calls_in q ls → (place : ℕ) × (slice_get ls place ≡ Some (Call q))
call-place q [] some = absurd (omega arith)
call-place q (Bottom ∷ ls) some = let r = call-place q ls some in (suc r.0, r.1)
call-place q (Param ∷ ls) some = let r = call-place q ls some in (suc r.0, r.1)
call-place q (Symbol f ∷ ls) some = let r = call-place q ls some in (suc r.0, r.1)
call-place q (Call p ∷ ls) some = by (eqb p q) refl some (λ l. call-place q ls l)
  where
    by : (test : Bool) → eqb p q ≡ test → 0 < (if test then 1 else 0) + calls_in q ls → (0 < calls_in q ls → (place : ℕ) × (slice_get ls place ≡ Some (Call q)))
        → (place : ℕ) × (slice_get (Call p ∷ ls) place ≡ Some (Call q))
    by true e less others = (0, ap (λ x. Some (Call x)) (eqb-true p q e))
    by false e less others = let r = others (omega arith) in (suc r.0, r.1)

module _ {S : Type 0} (A : Algebra S) where
  -- ---- states that are all bottom's
  abbrev AreBottoms : List S → Type 0
  AreBottoms xs = (i : ℕ) → get_or xs i A.bottom ≡ A.bottom

  bottoms-cons : (x : S) (xs : List S) → x ≡ A.bottom → AreBottoms xs → AreBottoms (x ∷ xs)
  bottoms-cons x xs e b zero = e
  bottoms-cons x xs e b (suc i) = b i

  bottoms-drop : (n : ℕ) (xs : List S) → AreBottoms xs → AreBottoms (drop n xs)
  bottoms-drop n xs b i = get_or-drop n xs i A.bottom ∙ b (n + i)

  bottoms-take : (n : ℕ) (xs : List S) → AreBottoms xs → AreBottoms (take n xs)
  bottoms-take zero xs b i = refl
  bottoms-take (suc n) [] b i = refl
  bottoms-take (suc n) (x ∷ xs) b zero = b 0
  bottoms-take (suc n) (x ∷ xs) b (suc i) = bottoms-take n xs (λ j. b (suc j)) i

  bottoms-replicate : (n : ℕ) → AreBottoms (replicate n A.bottom)
  bottoms-replicate zero i = refl
  bottoms-replicate (suc n) zero = refl
  bottoms-replicate (suc n) (suc i) = bottoms-replicate n i

  are-replicate : (xs : List S) (n : ℕ) → length xs ≡ n → AreBottoms xs → xs ≡ replicate n A.bottom
  are-replicate [] zero e b = refl
  are-replicate [] (suc n) e b = absurd (omega arith)
  are-replicate (x ∷ xs) zero e b = absurd (omega arith)
  are-replicate (x ∷ xs) (suc n) e b =
      let first : x ≡ A.bottom = b 0 in
      let others : xs ≡ replicate n A.bottom = are-replicate xs n (omega arith) (λ i. b (suc i)) in
      cc

  -- ---- the table
  abbrev pub pair : List Rule → ℕ → RuleStates S
  pair G r = (r, replicate (rank_at G r) A.bottom)

  -- the pairs of the rules below a number, in their order
  abbrev pub table : List Rule → ℕ → List (RuleStates S × S)
  table G zero = []
  table G (suc n) = table G n ++ (pair G n, A.bottom) ∷ []

  pub table-all : (G : List Rule) (P : RuleStates S × S → Type 0) (n : ℕ) → ((r : ℕ) → r < n → P (pair G r, A.bottom)) → All P (table G n)
  table-all G P zero h = All-nil P
  table-all G P (suc n) h = All-append P (table G n) ((pair G n, A.bottom) ∷ []) (table-all G P n (λ r l. h r (omega arith))) (all-one P (pair G n, A.bottom) (h n (omega arith)))

  keys-all : (G : List Rule) (P : RuleStates S → Type 0) (n : ℕ) → ((r : ℕ) → r < n → P (pair G r)) → All P (keys (table G n))
  keys-all G P n h = All-map P (λ (e : RuleStates S × S). e.0) (table G n) (table-all G (λ (e : RuleStates S × S). P e.0) n h)

  keys-more : (G : List Rule) (n : ℕ) → keys (table G (suc n)) ≡ keys (table G n) ++ pair G n ∷ []
  keys-more G n = map-append (λ (e : RuleStates S × S). e.0) (table G n) ((pair G n, A.bottom) ∷ [])

  others : (G : List Rule) (n r : ℕ) → r < n → pair G r ≢ pair G n
  others G n r l h = let k : r ≡ n = ap (λ (k : RuleStates S). k.0) h in absurd (omega arith)

  -- the next rule is not there yet
  pub table-new : (G : List Rule) (n : ℕ) → All (λ e. e.0 ≢ pair G n) (table G n)
  table-new G n = table-all G (λ (e : RuleStates S × S). e.0 ≢ pair G n) n (others G n)

  table-knows : (G : List Rule) (n q : ℕ) → q < n → IsKnown (table G n) (pair G q)
  table-knows G zero q l = absurd (omega arith)
  table-knows G (suc n) q l = elim (cases_lt q n) [
    | inl less ↦ known-more (table G n) ((pair G n, A.bottom) ∷ []) (pair G q) (table-knows G n q less)
    | inr other ↦ let e : n ≡ q = omega arith in subst (λ k. IsKnown (table G (suc n)) (pair G k)) e (known-last (table G n) (pair G n) A.bottom)
  ]

  -- the bodies of the pairs have as many nodes as those of the rules
  pub table-nodes : (G : List Rule) (n : ℕ) → n ≤ length G → sum_by (λ (k : RuleStates S). length (body_at G k.0)) (keys (table G n)) ≡ whole (take n G)
  table-nodes G zero l = refl
  table-nodes G (suc n) l =
      let on : n + 1 ≡ suc n = omega arith in
      ap (sum_by (λ (k : RuleStates S). length (body_at G k.0))) (keys-more G n) ∙ sum_by_push (λ (k : RuleStates S). length (body_at G k.0)) (keys (table G n)) (pair G n)
      ∙ ap (λ m. m + length (body_at G n)) (table-nodes G n (omega arith))
      ∙ sym (ap (λ m. whole (take m G)) (sym on) ∙ sum_by_more (λ (R : Rule). length R.body) G n no_rule (omega arith))

  table-distinct : (G : List Rule) (n : ℕ) → AllPairs (λ p q. p ≢ q) (keys (table G n))
  table-distinct G zero = λ i j d lt le. absurd (omega arith)
  table-distinct G (suc n) =
      let ks : List (RuleStates S) = keys (table G n) in
      let same : ks ++ [] ≡ ks = append-nil ks in
      let before : AllPairs (λ p q. p ≢ q) (ks ++ []) = subst (AllPairs (λ (p q : RuleStates S). p ≢ q)) (sym same) (table-distinct G n) in
      let apart : All (λ k. k ≢ pair G n) (ks ++ []) = subst (All (λ (k : RuleStates S). k ≢ pair G n)) (sym same) (keys-all G (λ (k : RuleStates S). k ≢ pair G n) n (others G n)) in
      subst (AllPairs (λ (p q : RuleStates S). p ≢ q)) (sym (keys-more G n)) (distinct-insert ks (pair G n) [] before apart)

  module _ (one : HasOneState A) where
    -- ---- what labels and rules mean
    abbrev GiveBottom : List (List S → S) → Type 0
    GiveBottom fs = (q : ℕ) (xs : List S) → AreBottoms xs → get_or fs q (λ _. A.bottom) xs ≡ A.bottom

    apply-bottom : (fs : List (List S → S)) → GiveBottom fs → (l : Label) (kids : List S) → AreBottoms kids → apply A fs l kids ≡ A.bottom
    apply-bottom fs h Bottom kids b = refl
    apply-bottom fs h (Symbol f) kids b = one f (get_or kids 0 A.bottom) (get_or kids 1 A.bottom)
    apply-bottom fs h (Call q) kids b = h q kids b
    apply-bottom fs h Param kids b = refl

    step-bottoms : (fs : List (List S → S)) → GiveBottom fs → (n : ℕ) (l : Label) (all : List S) → AreBottoms all → AreBottoms (apply A fs l (take n all) ∷ drop n all)
    step-bottoms fs h n l all b = bottoms-cons (apply A fs l (take n all)) (drop n all) (apply-bottom fs h l (take n all) (bottoms-take n all b)) (bottoms-drop n all b)

    meanings-bottoms : (ranks : List ℕ) (fs : List (List S → S)) → GiveBottom fs → (args : List S) (ls : List Label) → AreBottoms args → AreBottoms (meanings A ranks fs args ls [])
    meanings-bottoms ranks fs h args [] b = λ i. refl
    meanings-bottoms ranks fs h args (Param ∷ ls) b = bottoms-cons (get_or args 0 A.bottom) (meanings A ranks fs (drop 1 args) ls []) (b 0) (meanings-bottoms ranks fs h (drop 1 args) ls (bottoms-drop 1 args b))
    meanings-bottoms ranks fs h args (Bottom ∷ ls) b = step-bottoms fs h 0 Bottom (meanings A ranks fs args ls []) (meanings-bottoms ranks fs h args ls b)
    meanings-bottoms ranks fs h args (Symbol f ∷ ls) b = step-bottoms fs h 2 (Symbol f) (meanings A ranks fs args ls []) (meanings-bottoms ranks fs h args ls b)
    meanings-bottoms ranks fs h args (Call q ∷ ls) b = step-bottoms fs h (get_or ranks q 0) (Call q) (meanings A ranks fs args ls []) (meanings-bottoms ranks fs h args ls b)

    give-more : (fs : List (List S → S)) (f : List S → S) → GiveBottom fs → ((xs : List S) → AreBottoms xs → f xs ≡ A.bottom) → GiveBottom (fs ++ f ∷ [])
    give-more [] f h k zero xs b = k xs b
    give-more [] f h k (suc q) xs b = refl
    give-more (e ∷ fs) f h k zero xs b = h 0 xs b
    give-more (e ∷ fs) f h k (suc q) xs b = give-more fs f (λ p. h (suc p)) k q xs b

    rules-give : (ranks : List ℕ) (fs : List (List S → S)) (G : List Rule) → GiveBottom fs → GiveBottom (rule_meanings A ranks fs G)
    rules-give ranks fs [] h = h
    rules-give ranks fs (R ∷ Rs) h = rules-give ranks (fs ++ meaning A ranks fs R.body ∷ []) Rs (give-more fs (meaning A ranks fs R.body) h (λ xs b. meanings-bottoms ranks fs h xs R.body b 0))

    all-give : (G : List Rule) → GiveBottom (all_meanings A G)
    all-give G = rules-give (ranks_of G) [] G (λ q xs b. refl)

    pub up-bottom : (t : Term) → up A t [] ≡ A.bottom
    up-bottom Leaf = refl
    up-bottom (Node f a b) = one f (up A a []) (up A b [])
    up-bottom (Hole i) = refl

    module _ (G : List Rule) (g : IsGrammar G) where
      -- ---- each rule is met with bottoms alone
      states-called : (r place q : ℕ) → r < length G → slice_get (body_at G r) place ≡ Some (Call q) → argument_states A G q (replicate (rank_at G r) A.bottom) (body_at G r) place ≡ replicate (rank_at G q) A.bottom
      states-called r place q there is =
          let body = body_at G r in
          let args : List S = replicate (rank_at G r) A.bottom in
          let at = slice_get-at body place (Call q) (Call q) is in
          let states : List S = states_from A G (suc place) args body in
          let evaluated : IsEvaluated A G args body (suc place) (params (take (suc place) body)) states = record { are = refl; before = refl; within = omega (arith, at.0) } in
          let is_pair : IsPair G (r, args) = record { there = there; args = length-replicate (rank_at G r) A.bottom } in
          let i : suc place - 1 ≡ place = omega arith in
          let here : Call q ≡ get_or body (suc place - 1) (Call q) = rw i (sym at.1) in
          let many : get_or (ranks_of G) q 0 ≤ length states = enough A G g (r, args) is_pair body refl (suc place) (params (take (suc place) body)) states evaluated (omega arith) (Call q) here in
          let b : AreBottoms states = meanings-bottoms (ranks_of G) (all_meanings A G) (all-give G) (drop (params (take (suc place) body)) args) (drop (suc place) body) (bottoms-drop (params (take (suc place) body)) args (bottoms-replicate (rank_at G r))) in
          are-replicate (take (rank_at G q) states) (rank_at G q) (length-take-le (rank_at G q) states (omega (arith, many, rank_at-ranks_of G q))) (bottoms-take (rank_at G q) states b)

      start-met : (r : ℕ) → r < length G → length G ≤ r + 1 → Uses S A G r (replicate (rank_at G r) A.bottom)
      start-met r there near =
          let none : rank_at G r ≡ 0 = (g.each r there).shaped.start (omega arith) in
          subst (λ n. Uses S A G r (replicate n A.bottom)) (sym none) (at_start r (omega arith))

      -- the start, and what a later rule calls
      all-met : (fuel r : ℕ) → IsSwept G → r < length G → length G ≤ fuel + (r + 1) → Uses S A G r (replicate (rank_at G r) A.bottom)
      all-met zero r swept there near = start-met r there (omega arith)
      all-met (suc fuel) r swept there near = elim (cases_lt (r + 1) (length G)) [
        | inr other ↦ start-met r there other
        | inl before ↦
            let c = caller G r (swept r before) in
            let p = call-place r (body_at G c.0) c.2 in
            let later : r < c.0 = call-earlier c.0 p.0 r (body_at G c.0) (g.each c.0 c.1).earlier (slice_get-at (body_at G c.0) p.0 (Call r) Bottom p.1).1 in
            let met = all-met fuel c.0 swept c.1 (omega arith) in
            subst (Uses S A G r) (states-called c.0 p.0 r c.1 p.1) (at_call c.0 (replicate (rank_at G c.0) A.bottom) p.0 r met p.1)
      ]

      all-known : (r : ℕ) → r < length G → AreKnown A G (table G (length G)) (pair G r) 0
      all-known r there = λ place q le is.
          let earlier : q < r = call-earlier r place q (body_at G r) (g.each r there).earlier (slice_get-at (body_at G r) place (Call q) Bottom is).1 in
          subst (λ states. IsKnown (table G (length G)) (q, states)) (sym (states-called r place q there is)) (table-knows G (length G) q (omega arith))

      start-last : (n m : ℕ) → n ≡ suc m → rank_at G m ≡ 0 → keys (table G n) ≡ keys (table G m) ++ (m, []) ∷ []
      start-last n m e none = ap (λ k. keys (table G k)) e ∙ keys-more G m ∙ ap (λ k. keys (table G m) ++ (m, replicate k A.bottom) ∷ []) none

      -- the table of all rules is a whole run
      pub table-run : IsSwept G → IsRun A G (table G (length G))
      table-run swept =
          let some = g.some in
          let last = length G - 1 in
          record {
            right = table-all G (λ (e : RuleStates S × S). e.1 ≡ state_at A G e.0) (length G) (λ r there. sym (all-give G r (replicate (rank_at G r) A.bottom) (bottoms-replicate (rank_at G r))));
            pairs = keys-all G (IsPair G) (length G) (λ r there. record { there = there; args = length-replicate (rank_at G r) A.bottom });
            met = keys-all G (λ (k : RuleStates S). Uses S A G k.0 k.1) (length G) (λ r there. all-met (length G) r swept there (omega arith));
            distinct = table-distinct G (length G);
            closed = keys-all G (λ (k : RuleStates S). AreKnown A G (table G (length G)) k 0) (length G) all-known;
            start = (keys (table G last), start-last (length G) last (omega arith) ((g.each last (omega arith)).shaped.start (omega arith)));
          }
