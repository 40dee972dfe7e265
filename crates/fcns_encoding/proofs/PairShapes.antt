-- The rules with those of pairs are a swept grammar.
use Rattle.std.proofs.Common.{◌≡◌, ℕ, zero, suc, ◌+◌, ◌-◌, ◌<◌, ◌≤◌, List, [], ◌∷◌, ◌++◌, length, get_or, map, slice_get, Option, Some, None, refl, ap, sym, ◌∙◌, subst, ◌⊎◌, inl, inr, arith}
use Rattle.std.specs.Prelude.{Bool, if◌then◌else◌}
use Rattle.std.proofs.lemmas.Bool.{cases_lt, eq-eqb}
use Rattle.std.proofs.lemmas.Bool.Decides.{eqb_tells}
use Rattle.std.proofs.lemmas.List.{get_or_at, length-map}
use Rattle.std.proofs.lemmas.List.Sums.{sum_by-append, sum_by-cons, get_or-le-sum_by}
use Rattle.rule_arena.specs.Preorder.{AreTerms}
use Rattle.rule_arena.specs.declared.label.Label.{Label}
use Rattle.rule_arena.specs.declared.label.Label.TheVariants.{Bottom, Symbol, Call, Param}
use Rattle.slt_grammar.specs.Algebras.{ranks_of}
use Rattle.slt_grammar.specs.Bodies.{arity, params, CallsBelow, calls_in}
use Rattle.slt_grammar.specs.Grammars.{IsGrammar, IsLawfulAt, IsSwept, body_at, calls_of, no_rule, value}
use Rattle.slt_grammar.specs.declared.rules.Rule.{Rule}
use Rattle.fcns_encoding.specs.declared.pair_rules.Pair.{Pair}
use Rattle.fcns_encoding.specs.Pairs.{pair_rule, place_of, pair_before, paired, paired_rule, with_pairs, AreFound, AreApart}
use Rattle.fcns_encoding.proofs.CellLemmas.{got_map, got_within, has_get}
use Rattle.fcns_encoding.proofs.LeafShapes.{Shares}
use Rattle.fcns_encoding.proofs.PairSteps.{place-told}
use Rattle.fcns_encoding.proofs.PairLemmas.{length-before, length-with_pairs, rank-before, rank-pair, rule-before, rule-low, rule-pair, rule-plain, rule-start, same-value, start-calls}

-- a label more takes no call away
call-keeps : (r q : ℕ) (ls : List Label) → calls_in r ls ≤ calls_in r (Call q ∷ ls)
call-keeps r q ls = omega arith

call-counts : (r : ℕ) (ls : List Label) → 0 < calls_in r (Call r ∷ ls)
call-counts r ls =
    let here : calls_in r (Call r ∷ ls) ≡ 1 + calls_in r ls = ap (λ (b : Bool). (if b then 1 else 0) + calls_in r ls) (eq-eqb r r refl) in omega (arith, here)

call-split : (r q : ℕ) (ls : List Label) → 0 < calls_in r (Call q ∷ ls) → (q ≡ r) ⊎ (0 < calls_in r ls)
call-split r q ls h =
    elim (eqb_tells q r) [
      | inl w ↦ inl w.1
      | inr w ↦ let other : calls_in r (Call q ∷ ls) ≡ 0 + calls_in r ls = ap (λ (b : Bool). (if b then 1 else 0) + calls_in r ls) w.0 in inr (omega (arith, h, other))
    ]

module _ (ranks ranks' : List ℕ) (above : ℕ) (same : (q : ℕ) → q < above → get_or ranks' q 0 ≡ get_or ranks q 0) where
  -- a body that calls earlier rules is a term by other ranks of later ones
  terms-same : (n : ℕ) (ls : List Label) → CallsBelow above ls → AreTerms (arity ranks) n ls → AreTerms (arity ranks') n ls
  terms-same zero [] c t = tt
  terms-same zero (l ∷ ls) c t = absurd t
  terms-same (suc n) [] c t = absurd t
  terms-same (suc n) (Bottom ∷ ls) c t = terms-same (0 + n) ls c t
  terms-same (suc n) (Symbol f ∷ ls) c t = terms-same (2 + n) ls c t
  terms-same (suc n) (Call q ∷ ls) c t = subst (λ k. AreTerms (arity ranks') (k + n) ls) (sym (same q c.0)) (terms-same (get_or ranks q 0 + n) ls c.1 t)
  terms-same (suc n) (Param ∷ ls) c t = terms-same (0 + n) ls c t

  module _ (pairs : List Pair) (single : (i : ℕ) (p : Pair) → slice_get pairs i ≡ Some p → get_or ranks' (above + i) 0 ≡ 1) (plain : (i : ℕ) (p : Pair) → slice_get pairs i ≡ Some p → get_or ranks p.rule 0 ≡ 0) where
    pair-terms : (o : Option ℕ) (p : Pair) (n : ℕ) (ls : List Label) → ((i : ℕ) → o ≡ Some i → slice_get pairs i ≡ Some p) → p.rule < above → AreTerms (arity ranks') (2 + n) (Call p.rule ∷ ls)
        → AreTerms (arity ranks') (suc n) (pair_before o above p ls)
    pair-terms None p n ls told low t = t
    pair-terms (Some i) p n ls told low t =
        let two : 2 + n ≡ suc (suc n) = omega arith in
        let s : AreTerms (arity ranks') (suc (suc n)) (Call p.rule ∷ ls) = subst (λ k. AreTerms (arity ranks') k (Call p.rule ∷ ls)) two t in
        let one : get_or ranks' p.rule 0 + suc n ≡ get_or ranks' (above + i) 0 + n = omega (arith, single i p (told i refl), same p.rule low, plain i p (told i refl)) in
        subst (λ k. AreTerms (arity ranks') k ls) one s

    call-terms : (q n : ℕ) (ls ls' : List Label) → q < above → ((m : ℕ) → AreTerms (arity ranks) m ls → AreTerms (arity ranks') m ls') → AreTerms (arity ranks) (suc n) (Call q ∷ ls) → AreTerms (arity ranks') (suc n) (Call q ∷ ls')
    call-terms q n ls ls' low rest t = subst (λ k. AreTerms (arity ranks') (k + n) ls') (sym (same q low)) (rest (get_or ranks q 0 + n) t)

    paired-terms : (n : ℕ) (ls : List Label) → CallsBelow above ls → AreTerms (arity ranks) n ls → AreTerms (arity ranks') n (paired pairs above ls)
    paired-terms zero [] c t = tt
    paired-terms zero (l ∷ ls) c t = absurd t
    paired-terms (suc n) [] c t = absurd t
    paired-terms (suc n) (Bottom ∷ ls) c t = paired-terms (0 + n) ls c t
    paired-terms (suc n) (Param ∷ ls) c t = paired-terms (0 + n) ls c t
    paired-terms (suc n) (Call q ∷ ls) c t = call-terms q n ls (paired pairs above ls) c.0 (λ m s. paired-terms m ls c.1 s) t
    paired-terms (suc n) (Symbol f ∷ []) c t = terms-same (2 + n) [] tt t
    paired-terms (suc n) (Symbol f ∷ Bottom ∷ ls) c t = paired-terms (2 + n) (Bottom ∷ ls) c t
    paired-terms (suc n) (Symbol f ∷ Symbol g ∷ ls) c t = paired-terms (2 + n) (Symbol g ∷ ls) c t
    paired-terms (suc n) (Symbol f ∷ Param ∷ ls) c t = paired-terms (2 + n) (Param ∷ ls) c t
    paired-terms (suc n) (Symbol f ∷ Call q ∷ ls) c t =
        let p : Pair = record { symbol = f; rule = q } in
        let two : 2 + n ≡ suc (suc n) = omega arith in
        let s : AreTerms (arity ranks) (suc (suc n)) (Call q ∷ ls) = subst (λ k. AreTerms (arity ranks) k (Call q ∷ ls)) two t in
        let s' : AreTerms (arity ranks') (suc (suc n)) (Call q ∷ paired pairs above ls) = call-terms q (suc n) ls (paired pairs above ls) c.0 (λ m x. paired-terms m ls c.1 x) s in
        pair-terms (place_of pairs p) p n (paired pairs above ls) (place-told pairs p) c.0 (subst (λ k. AreTerms (arity ranks') k (Call q ∷ paired pairs above ls)) (sym two) s')

module _ (pairs : List Pair) (above : ℕ) where
  pair-params : (o : Option ℕ) (p : Pair) (ls : List Label) → params (pair_before o above p ls) ≡ params ls
  pair-params None p ls = refl
  pair-params (Some i) p ls = refl

  paired-params : (ls : List Label) → params (paired pairs above ls) ≡ params ls
  paired-params [] = refl
  paired-params (Bottom ∷ ls) = paired-params ls
  paired-params (Param ∷ ls) = ap suc (paired-params ls)
  paired-params (Call q ∷ ls) = paired-params ls
  paired-params (Symbol f ∷ []) = refl
  paired-params (Symbol f ∷ Bottom ∷ ls) = paired-params (Bottom ∷ ls)
  paired-params (Symbol f ∷ Symbol g ∷ ls) = paired-params (Symbol g ∷ ls)
  paired-params (Symbol f ∷ Param ∷ ls) = paired-params (Param ∷ ls)
  paired-params (Symbol f ∷ Call q ∷ ls) =
      let p : Pair = record { symbol = f; rule = q } in pair-params (place_of pairs p) p (paired pairs above ls) ∙ paired-params ls

  pair-below : (o : Option ℕ) (p : Pair) (ls : List Label) → ((i : ℕ) → o ≡ Some i → slice_get pairs i ≡ Some p) → p.rule < above → CallsBelow (above + length pairs) ls → CallsBelow (above + length pairs) (pair_before o above p ls)
  pair-below None p ls told low c = (omega (arith, low), c)
  pair-below (Some i) p ls told low c = (omega (arith, got_within pairs i p (told i refl)), c)

  paired-below : (ls : List Label) → CallsBelow above ls → CallsBelow (above + length pairs) (paired pairs above ls)
  paired-below [] c = tt
  paired-below (Bottom ∷ ls) c = paired-below ls c
  paired-below (Param ∷ ls) c = paired-below ls c
  paired-below (Call q ∷ ls) c = (omega (arith, c.0), paired-below ls c.1)
  paired-below (Symbol f ∷ []) c = tt
  paired-below (Symbol f ∷ Bottom ∷ ls) c = paired-below (Bottom ∷ ls) c
  paired-below (Symbol f ∷ Symbol g ∷ ls) c = paired-below (Symbol g ∷ ls) c
  paired-below (Symbol f ∷ Param ∷ ls) c = paired-below (Param ∷ ls) c
  paired-below (Symbol f ∷ Call q ∷ ls) c =
      let p : Pair = record { symbol = f; rule = q } in pair-below (place_of pairs p) p (paired pairs above ls) (place-told pairs p) c.0 (paired-below ls c.1)

  -- a call that goes is in the rule of a pair
  abbrev pub IsCalled : ℕ → List Label → Type 0
  IsCalled r ls = (0 < calls_in r ls) ⊎ ((i : ℕ) × (p : Pair) × (slice_get pairs i ≡ Some p) × (p.rule ≡ r))

  called-behind : (r q : ℕ) (ls : List Label) → IsCalled r ls → IsCalled r (Call q ∷ ls)
  called-behind r q ls c = elim c [ inl h ↦ inl (omega (arith, h, call-keeps r q ls)) | inr w ↦ inr w ]

  call-called : (r q : ℕ) (ls ls' : List Label) → (0 < calls_in r ls → IsCalled r ls') → 0 < calls_in r (Call q ∷ ls) → IsCalled r (Call q ∷ ls')
  call-called r q ls ls' rest h =
      elim (call-split r q ls h) [
        | inl e ↦ inl (subst (λ k. 0 < calls_in r (Call k ∷ ls')) (sym e) (call-counts r ls'))
        | inr more ↦ called-behind r q ls' (rest more)
      ]

  pair-kept : (r : ℕ) (o : Option ℕ) (p : Pair) (ls ls' : List Label) → ((i : ℕ) → o ≡ Some i → slice_get pairs i ≡ Some p) → (0 < calls_in r ls → IsCalled r ls') → 0 < calls_in r (Call p.rule ∷ ls) → IsCalled r (pair_before o above p ls')
  pair-kept r None p ls ls' told rest h = call-called r p.rule ls ls' rest h
  pair-kept r (Some i) p ls ls' told rest h = elim (call-split r p.rule ls h) [ inl e ↦ inr (i, p, told i refl, e) | inr more ↦ called-behind r (above + i) ls' (rest more) ]

  paired-kept : (r : ℕ) (ls : List Label) → 0 < calls_in r ls → IsCalled r (paired pairs above ls)
  paired-kept r [] h = absurd (omega (arith, h))
  paired-kept r (Bottom ∷ ls) h = paired-kept r ls h
  paired-kept r (Param ∷ ls) h = paired-kept r ls h
  paired-kept r (Call q ∷ ls) h = call-called r q ls (paired pairs above ls) (λ x. paired-kept r ls x) h
  paired-kept r (Symbol f ∷ []) h = absurd (omega (arith, h))
  paired-kept r (Symbol f ∷ Bottom ∷ ls) h = paired-kept r (Bottom ∷ ls) h
  paired-kept r (Symbol f ∷ Symbol g ∷ ls) h = paired-kept r (Symbol g ∷ ls) h
  paired-kept r (Symbol f ∷ Param ∷ ls) h = paired-kept r (Param ∷ ls) h
  paired-kept r (Symbol f ∷ Call q ∷ ls) h =
      let p : Pair = record { symbol = f; rule = q } in pair-kept r (place_of pairs p) p ls (paired pairs above ls) (place-told pairs p) (λ x. paired-kept r ls x) h

  -- a pair is a call of its rule
  pair-keeps : (r : ℕ) (o : Option ℕ) (p : Pair) (ls : List Label) → calls_in r ls ≤ calls_in r (pair_before o above p ls)
  pair-keeps r None p ls = omega arith
  pair-keeps r (Some i) p ls = omega arith

  pair-called : (p : Pair) (i k : ℕ) (ls : List Label) → place_of pairs p ≡ Some i → slice_get ls k ≡ Some (Symbol p.symbol) → slice_get ls (suc k) ≡ Some (Call p.rule) → 0 < calls_in (above + i) (paired pairs above ls)
  pair-called p i k [] h e b = cc
  pair-called p i zero (l ∷ []) h e b = cc
  pair-called p i zero (l ∷ m ∷ ls) h e b =
      let first : l ≡ Symbol p.symbol = cc in
      let second : m ≡ Call p.rule = cc in
      let is : paired pairs above (l ∷ m ∷ ls) ≡ Call (above + i) ∷ paired pairs above ls =
      ap (λ x. paired pairs above (x ∷ m ∷ ls)) first ∙ ap (λ x. paired pairs above (Symbol p.symbol ∷ x ∷ ls)) second ∙ ap (λ o. pair_before o above p (paired pairs above ls)) h in
      subst (λ ls. 0 < calls_in (above + i) ls) (sym is) (call-counts (above + i) (paired pairs above ls))
  pair-called p i (suc k) (Bottom ∷ ls) h e b = pair-called p i k ls h e b
  pair-called p i (suc k) (Param ∷ ls) h e b = pair-called p i k ls h e b
  pair-called p i (suc k) (Call q ∷ ls) h e b = omega (arith, pair-called p i k ls h e b, call-keeps (above + i) q (paired pairs above ls))
  pair-called p i (suc k) (Symbol f ∷ []) h e b = cc
  pair-called p i (suc k) (Symbol f ∷ Bottom ∷ ls) h e b = pair-called p i k (Bottom ∷ ls) h e b
  pair-called p i (suc k) (Symbol f ∷ Symbol g ∷ ls) h e b = pair-called p i k (Symbol g ∷ ls) h e b
  pair-called p i (suc k) (Symbol f ∷ Param ∷ ls) h e b = pair-called p i k (Param ∷ ls) h e b
  pair-called p i (suc zero) (Symbol f ∷ Call q ∷ ls) h e b = cc
  pair-called p i (suc (suc k)) (Symbol f ∷ Call q ∷ ls) h e b =
      let own : Pair = record { symbol = f; rule = q } in omega (arith, pair-called p i k ls h e b, pair-keeps (above + i) (place_of pairs own) own (paired pairs above ls))

module _ (pairs : List Pair) (before : List Rule) (start : Rule) (g : IsGrammar (before ++ start ∷ [])) (found : AreFound before start.body pairs) where
  -- a place is one before the start, of a pair's rule or of the start
  place-of-three : (r : ℕ) → r < length (with_pairs pairs before start) → (r < length before) ⊎ (((i : ℕ) × (p : Pair) × (slice_get pairs i ≡ Some p) × (r ≡ length before + i)) ⊎ (r ≡ length before + length pairs))
  place-of-three r h =
      elim (cases_lt r (length before)) [
        | inl low ↦ inl low
        | inr high ↦ elim (cases_lt (r - length before) (length pairs)) [
          | inl l ↦ let i = r - length before in inr (inl (i, get_or pairs i no_pair, has_get pairs i no_pair l, omega (arith, high)))
          | inr m ↦ inr (inr (omega (arith, h, high, m, length-with_pairs pairs before start)))
        ]
      ]
    where
      no_pair : Pair
      no_pair = record { symbol = 0; rule = 0 }

  lawful-before : (r : ℕ) → r < length before → IsLawfulAt (with_pairs pairs before start) r
  lawful-before r h =
      let H = with_pairs pairs before start in
      let G = before ++ start ∷ [] in
      let is : get_or G r no_rule ≡ get_or H r no_rule = sym (rule-before pairs before start r h) in
      let old = g.each r (omega (arith, h, length-before pairs before start)) in
      let same : (q : ℕ) → q < r → get_or (ranks_of H) q 0 ≡ get_or (ranks_of G) q 0 = λ q l. rank-before pairs before start q (omega (arith, l, h)) in
      record {
        earlier = subst (λ (R : Rule). CallsBelow r R.body) is old.earlier;
        shaped = record {
          term = subst (λ (R : Rule). AreTerms (arity (ranks_of H)) 1 R.body) is (terms-same (ranks_of G) (ranks_of H) r same 1 (body_at G r) old.earlier old.shaped.term);
          small = subst (λ (R : Rule). R.rank ≤ 8) is old.shaped.small;
          start = λ last. absurd (omega (arith, last, h, length-with_pairs pairs before start));
        };
        linear = subst (λ (R : Rule). params R.body ≡ R.rank) is old.linear;
      }

  lawful-pair : (i : ℕ) (p : Pair) → slice_get pairs i ≡ Some p → IsLawfulAt (with_pairs pairs before start) (length before + i)
  lawful-pair i p e =
      let H = with_pairs pairs before start in
      let is = rule-pair pairs before start i p e in
      let low = rule-low pairs before start g found i p e in
      let plainly : 0 ≡ get_or (ranks_of H) p.rule 0 = sym (rank-before pairs before start p.rule low ∙ rule-plain pairs before start g found i p e) in
      record {
        earlier = subst (λ (R : Rule). CallsBelow (length before + i) R.body) (sym is) (omega (arith, low), tt);
        shaped = record {
          term = subst (λ (R : Rule). AreTerms (arity (ranks_of H)) 1 R.body) (sym is) (subst (λ n. AreTerms (arity (ranks_of H)) (n + 1) (Param ∷ [])) plainly tt);
          small = omega (arith, ap (λ (R : Rule). R.rank) is);
          start = λ last. absurd (omega (arith, last, length-with_pairs pairs before start, got_within pairs i p e));
        };
        linear = subst (λ (R : Rule). params R.body ≡ R.rank) (sym is) refl;
      }

  lawful-start : IsLawfulAt (with_pairs pairs before start) (length before + length pairs)
  lawful-start =
      let H = with_pairs pairs before start in
      let G = before ++ start ∷ [] in
      let is = rule-start pairs before start in
      let was : get_or G (length before) no_rule ≡ start = get_or_at before start [] no_rule (length before) refl in
      let old = g.each (length before) (omega (arith, length-before pairs before start)) in
      let calls = start-calls pairs before start g found in
      let term : AreTerms (arity (ranks_of G)) 1 start.body = subst (λ (R : Rule). AreTerms (arity (ranks_of G)) 1 R.body) was old.shaped.term in
      let rank : start.rank ≡ 0 = subst (λ (R : Rule). R.rank ≡ 0) was (old.shaped.start (omega (arith, length-before pairs before start))) in
      let linear : params start.body ≡ start.rank = subst (λ (R : Rule). params R.body ≡ R.rank) was old.linear in
      record {
        earlier = subst (λ (R : Rule). CallsBelow (length before + length pairs) R.body) (sym is) (paired-below pairs (length before) start.body calls);
        shaped = record {
          term = subst (λ (R : Rule). AreTerms (arity (ranks_of H)) 1 R.body) (sym is)
              (paired-terms (ranks_of G) (ranks_of H) (length before) (rank-before pairs before start) pairs (rank-pair pairs before start) (rule-plain pairs before start g found) 1 start.body calls term);
          small = omega (arith, ap (λ (R : Rule). R.rank) is, rank);
          start = λ last. ap (λ (R : Rule). R.rank) is ∙ rank;
        };
        linear = subst (λ (R : Rule). params R.body ≡ R.rank) (sym is) (paired-params pairs (length before) start.body ∙ linear);
      }

  pub with-grammar : IsGrammar (with_pairs pairs before start)
  with-grammar =
      record {
        some = omega (arith, length-with_pairs pairs before start);
        each = λ r h. elim (place-of-three r h) [
          | inl low ↦ lawful-before r low
          | inr w ↦ elim w [ inl v ↦ subst (IsLawfulAt (with_pairs pairs before start)) (sym v.3) (lawful-pair v.0 v.1 v.2) | inr e ↦ subst (IsLawfulAt (with_pairs pairs before start)) (sym e) lawful-start ]
        ];
      }

  calls-sum : (r : ℕ) → calls_of (with_pairs pairs before start) r ≡ (calls_of before r + calls_of (map pair_rule pairs) r) + calls_in r (paired pairs (length before) start.body)
  calls-sum r =
      let last : Rule = paired_rule pairs (length before) start in
      omega (
        arith,
        sum_by-append (λ (R : Rule). calls_in r R.body) (before ++ map pair_rule pairs) (last ∷ []),
        sum_by-append (λ (R : Rule). calls_in r R.body) before (map pair_rule pairs),
        sum_by-cons (λ (R : Rule). calls_in r R.body) last [],
      )

  calls-were : (r : ℕ) → calls_of (before ++ start ∷ []) r ≡ calls_of before r + calls_in r start.body
  calls-were r = omega (arith, sum_by-append (λ (R : Rule). calls_in r R.body) before (start ∷ []), sum_by-cons (λ (R : Rule). calls_in r R.body) start [])

  pair-calls : (r i : ℕ) (p : Pair) → slice_get pairs i ≡ Some p → p.rule ≡ r → 0 < calls_of (map pair_rule pairs) r
  pair-calls r i p e is =
      let one : 0 < calls_in r (pair_rule p).body = subst (λ k. 0 < calls_in r (Symbol p.symbol ∷ Call k ∷ Param ∷ [])) (sym is) (call-counts r (Param ∷ [])) in
      omega (
        arith,
        one,
        ap (λ (R : Rule). calls_in r R.body) (got_map pair_rule pairs i p no_rule e),
        get_or-le-sum_by (λ (R : Rule). calls_in r R.body) (map pair_rule pairs) i no_rule (omega (arith, got_within pairs i p e, length-map pairs pair_rule)),
      )

  swept-before : (r : ℕ) → 0 < calls_of (before ++ start ∷ []) r → 0 < calls_of (with_pairs pairs before start) r
  swept-before r h =
      elim (cases_lt 0 (calls_of before r)) [
        | inl l ↦ omega (arith, l, calls-sum r)
        | inr n ↦ elim (paired-kept pairs (length before) r start.body (omega (arith, h, n, calls-were r))) [
          | inl k ↦ omega (arith, k, calls-sum r)
          | inr w ↦ omega (arith, pair-calls r w.0 w.1 w.2 w.3, calls-sum r)
        ]
      ]

  swept-pair : (i : ℕ) (p : Pair) → slice_get pairs i ≡ Some p → place_of pairs p ≡ Some i → 0 < calls_of (with_pairs pairs before start) (length before + i)
  swept-pair i p e h =
      let f = found i p e in
      let next : f.at + 1 ≡ suc f.at = omega arith in
      let called = pair-called pairs (length before) p i f.at start.body h f.stands.0 (subst (λ k. slice_get start.body k ≡ Some (Call p.rule)) next f.stands.1) in
      omega (arith, called, calls-sum (length before + i))

  pub with-swept : AreApart pairs → IsSwept (before ++ start ∷ []) → IsSwept (with_pairs pairs before start)
  with-swept apart swept r h =
      elim (place-of-three r (omega (arith, h))) [
        | inl low ↦ swept-before r (swept r (omega (arith, low, length-before pairs before start)))
        | inr w ↦ elim w [
          | inl v ↦ subst (λ k. 0 < calls_of (with_pairs pairs before start) k) (sym v.3) (swept-pair v.0 v.1 v.2 (apart v.0 v.1 v.2))
          | inr e ↦ absurd (omega (arith, h, e, length-with_pairs pairs before start))
        ]
      ]

pub shares : (rules before new : List Rule) (start : Rule) (pairs : List Pair) → rules ≡ before ++ start ∷ [] → IsGrammar rules → IsSwept rules → AreFound before start.body pairs → AreApart pairs → new ≡ with_pairs pairs before start → Shares rules new
shares rules before new start pairs is g swept found apart made =
    let g' = subst IsGrammar is g in
    subst (λ G. Shares rules G) (sym made) (record {
      value = same-value pairs before start g' found ∙ ap value (sym is);
      grammar = with-grammar pairs before start g' found;
      swept = with-swept pairs before start g' found apart (subst IsSwept is swept);
    })
