-- What the rules that are made of spots have: how many nodes, and which rules call those of marked instances.
use Rattle.std.proofs.Common.{◌≡◌, ℕ, zero, suc, ◌+◌, ◌-◌, ◌<◌, ◌≤◌, Bool, true, false, if◌then◌else◌, List, [], ◌∷◌, ◌++◌, length, get_or, take, drop, refl, ap, sym, ◌∙◌, arith, subst, Some, None, Option, slice_get, ◌⊎◌, inl, inr}
use Rattle.std.proofs.lemmas.Bool.{cases_lt}
use Rattle.std.proofs.lemmas.List.{get_or_past}
use Rattle.std.proofs.lemmas.Option.{get_or_from_slice_get}
use Rattle.rule_arena.specs.Preorder.{AreTerms}
use Rattle.rule_arena.specs.declared.label.Label.{Label}
use Rattle.rule_arena.specs.declared.label.Label.TheVariants.{Bottom, Symbol, Call, Param}
use Rattle.slt_grammar.specs.Algebras.{ranks_of}
use Rattle.slt_grammar.specs.Automata.{handed}
use Rattle.slt_grammar.specs.Bodies.{arity, CallsBelow}
use Rattle.slt_grammar.specs.Grammars.{IsGrammar, IsSwept, body_at, rank_at, no_rule, value_at}
use Rattle.slt_grammar.specs.Ranks.{greatest_rank}
use Rattle.slt_grammar.specs.Terms.{holes_of}
use Rattle.slt_grammar.specs.declared.rules.Rule.{Rule}
use Rattle.value_tests.specs.Assembled.{no_spot, IsRuleFor}
use Rattle.value_tests.specs.Isolated.{sum_below}
use Rattle.value_tests.specs.MarkedInstances.{calls_sum, nodes_from}
use Rattle.value_tests.specs.Marking.{is_marked}
use Rattle.value_tests.specs.Relabelled.{Spot}
use Rattle.value_tests.specs.Steps.{sizes_of, ServesAt, Becomes, IsPlainSpot, IsMarkedSpot}
use Rattle.value_tests.specs.TextPlaces.{sizes, placing}
use Rattle.value_tests.proofs.CallSums.{given, own-within}
use Rattle.value_tests.proofs.Occurrences.{AllCalls, call-at, called-at}
use Rattle.value_tests.proofs.Stepping.{nones, nones-append, nones-map, holes-count}
use Rattle.value_tests.proofs.TextPlaces.{handed-none}

-- no rank is greater than the greatest
pub rank-greatest : (G : List Rule) (r : ℕ) → rank_at G r ≤ greatest_rank G
rank-greatest [] r = omega arith
rank-greatest (R ∷ G) zero = omega arith
rank-greatest (R ∷ G) (suc r) = omega (arith, rank-greatest G r)

module _ (w : Label → ℕ) (marks : ℕ → ℕ) (G : List Rule) (g : IsGrammar G) where
  calls-same : (f k : ℕ → List ℕ → Option ℕ → ℕ) (r : ℕ) → ((q : ℕ) (kids : List ℕ) (d : Option ℕ) → q < r → f q kids d ≡ k q kids d) → (args : List ℕ) (ds : List (Option ℕ)) (ls : List Label) → CallsBelow r ls
      → calls_sum w marks G f args ds ls ≡ calls_sum w marks G k args ds ls
  calls-same f k r e args ds [] c = refl
  calls-same f k r e args ds (Param ∷ ls) c = calls-same f k r e (drop 1 args) (drop 1 ds) ls c
  calls-same f k r e args ds (Bottom ∷ ls) c = calls-same f k r e args (drop 1 ds) ls c
  calls-same f k r e args ds (Symbol s ∷ ls) c = calls-same f k r e args _ ls c
  calls-same f k r e args ds (Call q ∷ ls) c =
      let d : Option ℕ = get_or ds 0 (Some 0) in
      let kids : List ℕ = take (get_or (ranks_of G) q 0) (sizes_of w G args ls) in
      omega (arith, e q kids d c.0, calls-same f k r e args (handed (sizes w) (placing w) (value_at G q) kids d ++ drop 1 ds) ls c.1)

  calls-earlier : (q : ℕ) → CallsBelow q (body_at G q)
  calls-earlier q = by (cases_lt q (length G))
    where
      by : (q < length G) ⊎ (length G ≤ q) → CallsBelow q (body_at G q)
      by (inl l) = (g.each q l).earlier
      by (inr l) = subst (λ (R : Rule). CallsBelow q R.body) (sym (get_or_past G q no_rule l)) tt

  -- longer lists of calls than there are rules lead nowhere
  fuel : (n m q : ℕ) (kids : List ℕ) (d : Option ℕ) → q < n → q < m → nodes_from w marks G n q kids d ≡ nodes_from w marks G m q kids d
  fuel zero m q kids d l k = absurd (omega arith)
  fuel (suc n) zero q kids d l k = absurd (omega arith)
  fuel (suc n) (suc m) q kids d l k =
      ap (λ x. (if is_marked w marks G q kids d then length (body_at G q) else 0) + x)
      (calls-same (nodes_from w marks G n) (nodes_from w marks G m) q (λ o ks e b. fuel n m o ks e (omega arith) (omega arith)) kids (d ∷ []) (body_at G q) (calls-earlier q))

  -- the nodes of marked instances from one on, if it has a place
  abbrev pub down_nodes : ℕ → List ℕ → Option ℕ → ℕ
  down_nodes q kids None = 0
  down_nodes q kids (Some p) = nodes_from w marks G (suc q) q kids (Some p)

  down-fuel : (r q : ℕ) (kids : List ℕ) (d : Option ℕ) → q < r → down_nodes q kids d ≤ nodes_from w marks G r q kids d
  down-fuel r q kids None l = omega arith
  down-fuel r q kids (Some p) l = omega (arith, fuel (suc q) r q kids (Some p) (omega arith) l)

  module _ (symbols : ℕ) (spots : List (Spot ℕ (Option ℕ))) where
    -- the spot of a rule
    abbrev pub spot : ℕ → Spot ℕ (Option ℕ)
    spot p = get_or spots p no_spot

    -- whether it is marked, and how many nodes those marked have from it on
    abbrev pub is_alone : ℕ → Bool
    is_alone p = is_marked w marks G (spot p).rule (spot p).states (spot p).down

    abbrev pub spot_nodes : ℕ → ℕ
    spot_nodes p = down_nodes (spot p).rule (spot p).states (spot p).down

    abbrev pub IsPlain : ℕ → Type 0
    IsPlain p = (spot p).down ≡ None

    abbrev pub IsEntered : ℕ → Type 0
    IsEntered p = IsPlain p ⊎ (is_alone p ≡ true)

    unmarked : (p : ℕ) → IsPlain p → is_alone p ≡ true → ⊥
    unmarked p e m = absurd (let f : is_alone p ≡ false = rw e refl in cc)

    plain-down : (p q : ℕ) → IsPlainSpot spots p q → IsPlain p
    plain-down p q k = ap (λ (s : Spot ℕ (Option ℕ)). s.down) (get_or_from_slice_get spots p k.0 no_spot k.1) ∙ k.3

    marked-spot : (p q : ℕ) (kids : List ℕ) (d : Option ℕ) → IsMarkedSpot w G symbols marks spots p q kids d → spot p ≡ record { rule = q; states = kids; down = d }
    marked-spot p q kids d k = get_or_from_slice_get spots p (record { rule = q; states = kids; down = d }) no_spot k.0

    -- the body has as many labels as that it is made of
    same-length : (args : List ℕ) (ds : List (Option ℕ)) (ls ms : List Label) → Becomes w G symbols marks spots args ds ls ms → length ms ≡ length ls
    same-length args ds [] [] b = refl
    same-length args ds [] (m ∷ ms) b = absurd b
    same-length args ds (l ∷ ls) [] b = absurd b
    same-length args ds (Param ∷ ls) (m ∷ ms) b = ap suc (same-length (drop 1 args) (drop 1 ds) ls ms b.1)
    same-length args ds (Bottom ∷ ls) (m ∷ ms) b = ap suc (same-length args (drop 1 ds) ls ms b.1)
    same-length args ds (Symbol s ∷ ls) (m ∷ ms) b = ap suc (same-length args _ ls ms b.1)
    same-length args ds (Call q ∷ ls) (m ∷ ms) b = ap suc (same-length args _ ls ms b.1)

    call-entered : (p q : ℕ) (kids : List ℕ) (d : Option ℕ) → ServesAt w G symbols marks spots p q kids d → IsEntered p
    call-entered p q kids d s = by s.kind
      where
        by : IsPlainSpot spots p q ⊎ IsMarkedSpot w G symbols marks spots p q kids d → IsEntered p
        by (inl k) = inl (plain-down p q k)
        by (inr k) = inr (ap (λ (s : Spot ℕ (Option ℕ)). is_marked w marks G s.rule s.states s.down) (marked-spot p q kids d k) ∙ k.1)

    -- each call is of a rule without marks, or of one for a marked instance
    entered : (args : List ℕ) (ds : List (Option ℕ)) (ls ms : List Label) → Becomes w G symbols marks spots args ds ls ms → AllCalls IsEntered ms
    entered args ds [] [] b = tt
    entered args ds [] (m ∷ ms) b = absurd b
    entered args ds (l ∷ ls) [] b = absurd b
    entered args ds (Param ∷ ls) (m ∷ ms) b = rw b.0 (entered (drop 1 args) (drop 1 ds) ls ms b.1)
    entered args ds (Bottom ∷ ls) (m ∷ ms) b = rw b.0 (entered args (drop 1 ds) ls ms b.1)
    entered args ds (Symbol s ∷ ls) (m ∷ ms) b = rw b.0 (entered args _ ls ms b.1)
    entered args ds (Call q ∷ ls) (m ∷ ms) b = rw b.0.1 (call-entered b.0.0 q _ _ b.0.2, entered args _ ls ms b.1)

    call-plain : (p q : ℕ) (kids : List ℕ) → ServesAt w G symbols marks spots p q kids None → IsPlain p
    call-plain p q kids s = by s.kind
      where
        by : IsPlainSpot spots p q ⊎ IsMarkedSpot w G symbols marks spots p q kids None → IsPlain p
        by (inl k) = plain-down p q k
        by (inr k) = absurd (let e : false ≡ true = k.1 in cc)

    -- where no text is marked, no call is of a rule with marks
    plain-calls : (n : ℕ) (args : List ℕ) (ls ms : List Label) → AreTerms (arity (ranks_of G)) n ls → Becomes w G symbols marks spots args (nones n) ls ms → AllCalls IsPlain ms
    plain-calls n args [] [] t b = tt
    plain-calls n args [] (m ∷ ms) t b = absurd b
    plain-calls n args (l ∷ ls) [] t b = absurd b
    plain-calls zero args (l ∷ ls) (m ∷ ms) t b = absurd t
    plain-calls (suc n) args (Param ∷ ls) (m ∷ ms) t b = rw b.0 (let e : 0 + n ≡ n = omega arith in plain-calls n (drop 1 args) ls ms (subst (λ k. AreTerms (arity (ranks_of G)) k ls) e t) b.1)
    plain-calls (suc n) args (Bottom ∷ ls) (m ∷ ms) t b = rw b.0 (let e : 0 + n ≡ n = omega arith in plain-calls n args ls ms (subst (λ k. AreTerms (arity (ranks_of G)) k ls) e t) b.1)
    plain-calls (suc n) args (Symbol s ∷ ls) (m ∷ ms) t b = rw b.0 (let e : 2 + n ≡ suc (suc n) = omega arith in plain-calls (suc (suc n)) args ls ms (subst (λ k. AreTerms (arity (ranks_of G)) k ls) e t) b.1)
    plain-calls (suc n) args (Call q ∷ ls) (m ∷ ms) t b =
        let k : ℕ = get_or (ranks_of G) q 0 in
        let kids : List ℕ = take k (sizes_of w G args ls) in
        let h : handed (sizes w) (placing w) (value_at G q) kids None ≡ nones k = handed-none w (value_at G q) kids ∙ nones-map (holes_of (value_at G q)) k (holes-count G g q) in
        let more : handed (sizes w) (placing w) (value_at G q) kids None ++ nones n ≡ nones (k + n) = ap (λ xs. xs ++ nones n) h ∙ nones-append k n in
        rw b.0.1 (call-plain b.0.0 q kids b.0.2, plain-calls (k + n) args ls ms t (subst (λ xs. Becomes w G symbols marks spots args xs ls ms) more b.1))

    given-plain : (ms : List Label) → AllCalls IsPlain ms → given spot_nodes ms ≡ 0
    given-plain [] a = refl
    given-plain (Param ∷ ms) a = given-plain ms a
    given-plain (Bottom ∷ ms) a = given-plain ms a
    given-plain (Symbol s ∷ ms) a = given-plain ms a
    given-plain (Call p ∷ ms) a =
        let z : spot_nodes p ≡ 0 = rw a.0 refl in
        omega (arith, z, given-plain ms a.1)

    -- the calls of a body give no more than those of the instance that it is for
    call-within : (r p q : ℕ) (kids : List ℕ) (d : Option ℕ) → q < r → ServesAt w G symbols marks spots p q kids d → spot_nodes p ≤ nodes_from w marks G r q kids d
    call-within r p q kids d l s = by s.kind
      where
        by : IsPlainSpot spots p q ⊎ IsMarkedSpot w G symbols marks spots p q kids d → spot_nodes p ≤ nodes_from w marks G r q kids d
        by (inl k) =
            let z : spot_nodes p ≡ 0 = rw (plain-down p q k) refl in
            omega (arith, z)
        by (inr k) =
            let e : spot_nodes p ≡ down_nodes q kids d = ap (λ (s : Spot ℕ (Option ℕ)). down_nodes s.rule s.states s.down) (marked-spot p q kids d k) in
            omega (arith, e, down-fuel r q kids d l)

    given-within : (r : ℕ) (args : List ℕ) (ds : List (Option ℕ)) (ls ms : List Label) → Becomes w G symbols marks spots args ds ls ms → CallsBelow r ls → given spot_nodes ms ≤ calls_sum w marks G (nodes_from w marks G r) args ds ls
    given-within r args ds [] [] b c = omega arith
    given-within r args ds [] (m ∷ ms) b c = absurd b
    given-within r args ds (l ∷ ls) [] b c = absurd b
    given-within r args ds (Param ∷ ls) (m ∷ ms) b c = rw b.0 (given-within r (drop 1 args) (drop 1 ds) ls ms b.1 c)
    given-within r args ds (Bottom ∷ ls) (m ∷ ms) b c = rw b.0 (given-within r args (drop 1 ds) ls ms b.1 c)
    given-within r args ds (Symbol s ∷ ls) (m ∷ ms) b c = rw b.0 (given-within r args _ ls ms b.1 c)
    given-within r args ds (Call q ∷ ls) (m ∷ ms) b c =
        let d : Option ℕ = get_or ds 0 (Some 0) in
        let kids : List ℕ = take (get_or (ranks_of G) q 0) (sizes_of w G args ls) in
        let one = call-within r b.0.0 q kids d c.0 b.0.2 in
        let rest = given-within r args (handed (sizes w) (placing w) (value_at G q) kids d ++ drop 1 ds) ls ms b.1 c.1 in
        rw b.0.1 (omega (arith, one, rest))

    module _ (H : List Rule) (h : IsGrammar H) (swept : IsSwept H) (rules : (p : ℕ) → p < length H → IsRuleFor w G symbols marks spots (spot p) (get_or H p no_rule)) where
      pub rule-length : (p : ℕ) → p < length H → length (body_at H p) ≡ length (body_at G (spot p).rule)
      rule-length p l = same-length (spot p).states ((spot p).down ∷ []) (body_at G (spot p).rule) (body_at H p) (rules p l).body

      plain-body-calls : (p : ℕ) → p < length H → IsPlain p → AllCalls IsPlain (body_at H p)
      plain-body-calls p l e =
          let R = rules p l in
          plain-calls 1 (spot p).states (body_at G (spot p).rule) (body_at H p) (g.each (spot p).rule R.old).shaped.term
          (subst (λ x. Becomes w G symbols marks spots (spot p).states (x ∷ []) (body_at G (spot p).rule) (body_at H p)) e R.body)

      -- a rule's own nodes and what those give that it calls
      enough : (p : ℕ) → p < length H → (if is_alone p then length (body_at H p) else 0) + given spot_nodes (body_at H p) ≤ spot_nodes p
      enough p l = by (spot p).down refl
        where
          by : (d : Option ℕ) → d ≡ (spot p).down → (if is_alone p then length (body_at H p) else 0) + given spot_nodes (body_at H p) ≤ spot_nodes p
          by None e =
              let z = given-plain (body_at H p) (plain-body-calls p l (sym e)) in
              let o : ◌≡◌ {A = ℕ} (if is_alone p then length (body_at H p) else 0) 0 = rw (← e) refl in
              omega (arith, z, o)
          by (Some x) e =
              let q : ℕ = (spot p).rule in
              let kids : List ℕ = (spot p).states in
              let R = rules p l in
              let within = given-within q kids ((spot p).down ∷ []) (body_at G q) (body_at H p) R.body (g.each q R.old).earlier in
              let first : ◌≡◌ {A = ℕ} (if is_alone p then length (body_at H p) else 0) (if is_marked w marks G q kids (spot p).down then length (body_at G q) else 0) = ap (λ n. if is_alone p then n else 0) (rule-length p l) in
              let all : spot_nodes p ≡ (if is_marked w marks G q kids (spot p).down then length (body_at G q) else 0) + calls_sum w marks G (nodes_from w marks G q) kids ((spot p).down ∷ []) (body_at G q) = rw (← e) refl in
              omega (arith, within, first, all)

      -- those for marked instances have no more nodes together than all marked instances from the start's on
      pub alone-few : sum_below (length H) (λ p. if is_alone p then length (body_at H p) else 0) ≤ spot_nodes (length H - 1)
      alone-few = own-within spot_nodes H (λ p. if is_alone p then length (body_at H p) else 0) h swept enough

      entered-rule : (p : ℕ) → p + 1 < length H → IsEntered p
      entered-rule p l =
          let c = called-at p H (swept p l) in
          let R = rules c.0 c.2 in
          call-at IsEntered (body_at H c.0) c.1 p (entered (spot c.0).states ((spot c.0).down ∷ []) (body_at G (spot c.0).rule) (body_at H c.0) R.body) c.3

      -- those are called by others or by the start
      pub alone-callers : (r q place : ℕ) → r < length H → is_alone q ≡ true → slice_get (body_at H r) place ≡ Some (Call q) → (is_alone r ≡ true) ⊎ (r + 1 ≡ length H)
      alone-callers r q place l m e = by (cases_lt (r + 1) (length H))
        where
          caller : IsEntered r → (is_alone r ≡ true) ⊎ (r + 1 ≡ length H)
          caller (inl p) = absurd (unmarked q (call-at IsPlain (body_at H r) place q (plain-body-calls r l p) e) m)
          caller (inr a) = inl a

          by : (r + 1 < length H) ⊎ (length H ≤ r + 1) → (is_alone r ≡ true) ⊎ (r + 1 ≡ length H)
          by (inl k) = caller (entered-rule r k)
          by (inr k) = inr (omega arith)

      -- the others before the start are without marks
      pub others-plain : (p : ℕ) → p + 1 < length H → is_alone p ≡ false → IsPlain p
      others-plain p l m = by (entered-rule p l)
        where
          by : IsEntered p → IsPlain p
          by (inl k) = k
          by (inr k) = absurd (cc)

      pub ranks-few : (p : ℕ) → rank_at H p ≤ greatest_rank G
      ranks-few p = by (cases_lt p (length H))
        where
          by : (p < length H) ⊎ (length H ≤ p) → rank_at H p ≤ greatest_rank G
          by (inl l) = let R = rules p l in omega (arith, R.rank, rank-greatest G (spot p).rule)
          by (inr l) = let z : rank_at H p ≡ 0 = ap (λ (R : Rule). R.rank) (get_or_past H p no_rule l) in omega (arith, z)
