-- What tests of the rules that are made of spots tell.
use Rattle.std.proofs.Common.{◌≡◌, ℕ, zero, suc, ◌+◌, ◌-◌, ◌<◌, ◌≤◌, Bool, true, false, if◌then◌else◌, List, [], ◌∷◌, length, get_or, take, sum_by, refl, ap, sym, ◌∙◌, arith, subst, Some, None, Option, slice_get, ◌⊎◌, inl, inr}
use Rattle.std.proofs.lemmas.Bool.{cases_lt}
use Rattle.std.proofs.lemmas.List.{take_all}
use Rattle.std.proofs.lemmas.List.Sums.{sum_by-append}
use Rattle.std.proofs.lemmas.Option.{get_or_from_slice_get, slice_get-get_or}
use Rattle.std.proofs.Math.Seq.{take-suc}
use Rattle.plain_tree.specs.declared.kind.Kind.{Kind}
use Rattle.segment_counts.specs.Weights.{text_weight}
use Rattle.slt_grammar.specs.Grammars.{IsGrammar, IsSwept, body_at, calls_of, no_rule, whole}
use Rattle.slt_grammar.specs.declared.rules.Rule.{Rule}
use Rattle.value_tests.specs.Assembled.{no_spot, spots_at, start_spot, if_plain, plain_nodes, RisesTo, IsCalledOnce, IsRuleFor, AreRulesFor}
use Rattle.value_tests.specs.Isolated.{sum_below, IsIsolated}
use Rattle.value_tests.specs.MarkLists.{mark_at}
use Rattle.value_tests.specs.MarkedInstances.{marked_nodes, nodes_from}
use Rattle.value_tests.specs.Relabelled.{Spot}
use Rattle.value_tests.proofs.Assembling.{origin-spot}
use Rattle.value_tests.proofs.Isolating.{down_nodes, is_alone, spot_nodes, rule-length, alone-few, alone-callers, others-plain, ranks-few}
use Rattle.value_tests.proofs.Sums.{sum_below-le}

-- the bodies before a rule and its own
whole-taken : (G : List Rule) (r : ℕ) → r < length G → whole (take (suc r) G) ≡ whole (take r G) + length (body_at G r)
whole-taken G r h =
    let one : sum_by (λ (R : Rule). length R.body) (get_or G r no_rule ∷ []) ≡ length (body_at G r) = omega arith in
    let joined = sum_by-append (λ (R : Rule). length R.body) (take r G) (get_or G r no_rule ∷ []) in
    let next = ap whole (take-suc G r no_rule (omega arith)) in
    omega (arith, one, joined, next)

whole-taken-le : (G : List Rule) (r s : ℕ) → r ≤ s → s ≤ length G → whole (take r G) ≤ whole (take s G)
whole-taken-le G r zero l h = let z : r ≡ 0 = omega arith in rw z (omega arith)
whole-taken-le G r (suc s) l h = by (cases_lt s r) (λ k. whole-taken-le G r s k (omega arith))
  where
    by : (s < r) ⊎ (r ≤ s) → (r ≤ s → whole (take r G) ≤ whole (take s G)) → whole (take r G) ≤ whole (take (suc s) G)
    by (inl k) before = let same : r ≡ suc s = omega arith in rw same (omega arith)
    by (inr k) before = let m = before k in let t = whole-taken G s (omega arith) in omega (arith, m, t)

-- the spot of a rule
spot-at : (spots : List (Spot ℕ (Option ℕ))) (origins : List ℕ) (p : ℕ) (s : Spot ℕ (Option ℕ)) → p < length origins → slice_get spots (get_or origins p 0) ≡ Some s → get_or (spots_at spots origins) p no_spot ≡ s
spot-at spots origins p s l e =
    get_or_from_slice_get (spots_at spots origins) p s no_spot (origin-spot spots origins p (get_or origins p 0) s (slice_get-get_or origins p 0 l) e)

module _ (G : List Rule) (spots : List (Spot ℕ (Option ℕ))) (origins : List ℕ) (p : ℕ) (s : Spot ℕ (Option ℕ)) (l : p < length origins) (there : slice_get spots (get_or origins p 0) ≡ Some s) where
  plain-here : plain_nodes G (spots_at spots origins) p ≡ if_plain s.down (length (body_at G s.rule))
  plain-here = ap (λ (x : Spot ℕ (Option ℕ)). if_plain x.down (length (body_at G x.rule))) (spot-at spots origins p s l there)

  -- a rule without marks, of a later rule than those before it
  rising-more : (next : ℕ) → s.down ≡ None → next ≤ s.rule → s.rule < length G → sum_below p (plain_nodes G (spots_at spots origins)) ≤ whole (take next G)
      → sum_below (p + 1) (plain_nodes G (spots_at spots origins)) ≤ whole (take (s.rule + 1) G)
  rising-more next n r h sum =
      let here : plain_nodes G (spots_at spots origins) p ≡ length (body_at G s.rule) = plain-here ∙ ap (λ (d : Option ℕ). if_plain d (length (body_at G s.rule))) n in
      let before = whole-taken-le G next s.rule r (omega arith) in
      let e : p + 1 ≡ suc p = omega arith in
      let f : s.rule + 1 ≡ suc s.rule = omega arith in
      rw (e, f) (omega (arith, here, before, sum, whole-taken G s.rule h))

  -- a rule for a marked instance
  rising-marked : (next place : ℕ) → s.down ≡ Some place → sum_below p (plain_nodes G (spots_at spots origins)) ≤ whole (take next G) → sum_below (p + 1) (plain_nodes G (spots_at spots origins)) ≤ whole (take next G)
  rising-marked next place n sum =
      let here : plain_nodes G (spots_at spots origins) p ≡ 0 = plain-here ∙ ap (λ (d : Option ℕ). if_plain d (length (body_at G s.rule))) n in
      let e : p + 1 ≡ suc p = omega arith in
      rw e (omega (arith, here, sum))

  -- one rule more
  pub rising-next : (start next after : ℕ) → start ≤ length G → RisesTo s start next after → sum_below p (plain_nodes G (spots_at spots origins)) ≤ whole (take next G)
      → sum_below (p + 1) (plain_nodes G (spots_at spots origins)) ≤ whole (take after G)
  rising-next start next after few (inl r) sum =
      let within : s.rule < length G = (let b = r.2 in omega arith) in
      rw r.3 (rising-more next r.0 r.1 within sum)
  rising-next start next after few (inr r) sum = rw r.2 (rising-marked next r.0 r.1 sum)

  pub once-next : (H : List Rule) → (s.down ≡ None) ⊎ (calls_of H p ≤ 1) → IsCalledOnce H (spots_at spots origins) p
  once-next H o = rw (spot-at spots origins p s l there) o

pub rises-within : (s : Spot ℕ (Option ℕ)) (start next after : ℕ) → RisesTo s start next after → next ≤ start → after ≤ start
rises-within s start next after (inl r) l = let b = r.2 in omega (arith, r.3)
rises-within s start next after (inr r) l = omega (arith, r.2)

-- the start's rule is the last
pub rising-end : (G : List Rule) (next : ℕ) (sum : ℕ) → IsGrammar G → next ≤ length G - 1 → sum ≤ whole (take next G) → sum + length (body_at G (length G - 1)) ≤ whole G
rising-end G next sum g l h =
    let some = g.some in
    let last : ℕ = length G - 1 in
    let before = whole-taken-le G next last l (omega arith) in
    let all = whole-taken G last (omega arith) in
    let e : suc last ≡ length G = omega arith in
    let full : whole (take (suc last) G) ≡ whole G = ap (λ n. whole (take n G)) e ∙ ap whole (take_all (length G) G (omega arith)) in
    omega (arith, h, before, all, full)

-- one rule more
pub once-more : (H : List Rule) (spots : List (Spot ℕ (Option ℕ))) (n : ℕ) → ((p : ℕ) → p < n → IsCalledOnce H spots p) → IsCalledOnce H spots n → (p : ℕ) → p < n + 1 → IsCalledOnce H spots p
once-more H spots n before here p l = by (cases_lt p n)
  where
    by : (p < n) ⊎ (n ≤ p) → IsCalledOnce H spots p
    by (inl k) = before p k
    by (inr k) = let same : n ≡ p = omega arith in subst (IsCalledOnce H spots) same here

-- Rules that are made of spots and pass the tests are apart.
module _ (names : List (Kind × List ℕ)) (marks : List ℕ) (G H : List Rule) (g : IsGrammar G) (h : IsGrammar H) (swept : IsSwept H) (spots : List (Spot ℕ (Option ℕ))) (origins : List ℕ) (n : length H ≡ length origins)
    (made : AreRulesFor (text_weight names) G (length names) (mark_at marks) spots origins H) where
  abbrev rule_spots : List (Spot ℕ (Option ℕ))
  rule_spots = spots_at spots origins

  abbrev is_apart : ℕ → Bool
  is_apart = is_alone (text_weight names) (mark_at marks) G g (length names) rule_spots

  rules : (p : ℕ) → p < length H → IsRuleFor (text_weight names) G (length names) (mark_at marks) rule_spots (get_or rule_spots p no_spot) (get_or H p no_rule)
  rules p l =
      let k = made p (get_or H p no_rule) (slice_get-get_or H p no_rule l) in
      let same : get_or rule_spots p no_spot ≡ k.spot = get_or_from_slice_get rule_spots p k.spot no_spot (origin-spot spots origins p k.id k.spot k.origin k.there) in
      subst (λ (s : Spot ℕ (Option ℕ)). IsRuleFor (text_weight names) G (length names) (mark_at marks) rule_spots s (get_or H p no_rule)) (sym same) k.rule

  -- the rules that aren't apart are the start or plain
  others-few : (start : get_or rule_spots (length H - 1) no_spot ≡ start_spot G) → sum_below (length origins - 1) (plain_nodes G rule_spots) + length (body_at G (length G - 1)) ≤ whole G
      → sum_below (length H) (λ p. if is_apart p then 0 else length (body_at H p)) ≤ whole G
  others-few start rising =
      let some = h.some in
      let m : ℕ = length H - 1 in
      let e : length H ≡ suc m = omega arith in
      let o : length origins - 1 ≡ m = omega (arith, n) in
      let front = sum_below-le m (λ p. if is_apart p then 0 else length (body_at H p)) (plain_nodes G rule_spots) (λ p l. before p (omega arith) (is_apart p) refl) in
      let last = rule-length (text_weight names) (mark_at marks) G g (length names) rule_spots H h swept rules m (omega arith) ∙ ap (λ (s : Spot ℕ (Option ℕ)). length (body_at G s.rule)) start in
      let end = at_most (is_apart m) (length (body_at H m)) in
      let split : sum_below (length H) (λ p. if is_apart p then 0 else length (body_at H p)) ≡ sum_below m (λ p. if is_apart p then 0 else length (body_at H p)) + (if is_apart m then 0 else length (body_at H m)) = ap (λ k. sum_below k (λ p. if is_apart p then 0 else length (body_at H p))) e in
      let same : sum_below (length origins - 1) (plain_nodes G rule_spots) ≡ sum_below m (plain_nodes G rule_spots) = ap (λ k. sum_below k (plain_nodes G rule_spots)) o in
      omega (arith, front, last, end, split, same, rising)
    where
      at_most : (b : Bool) (k : ℕ) → (if b then 0 else k) ≤ k
      at_most true k = omega arith
      at_most false k = omega arith

      before : (p : ℕ) → p + 1 < length H → (b : Bool) → b ≡ is_apart p → (if is_apart p then 0 else length (body_at H p)) ≤ plain_nodes G rule_spots p
      before p l true e = let z : ◌≡◌ {A = ℕ} (if is_apart p then 0 else length (body_at H p)) 0 = rw (← e) refl in omega (arith, z)
      before p l false e =
          let z : ◌≡◌ {A = ℕ} (if is_apart p then 0 else length (body_at H p)) (length (body_at H p)) = rw (← e) refl in
          let d = others-plain (text_weight names) (mark_at marks) G g (length names) rule_spots H h swept rules p l (sym e) in
          let k : plain_nodes G rule_spots p ≡ length (body_at G (get_or rule_spots p no_spot).rule) = rw d refl in
          omega (arith, z, k, rule-length (text_weight names) (mark_at marks) G g (length names) rule_spots H h swept rules p (omega arith))

  alone-once : (p : ℕ) → IsCalledOnce H rule_spots p → is_apart p ≡ true → calls_of H p ≤ 1
  alone-once p (inl d) e = absurd (let f : is_apart p ≡ false = rw d refl in cc)
  alone-once p (inr k) e = k

  pub is-isolated : slice_get origins (length H - 1) ≡ Some 0 → slice_get spots 0 ≡ Some (start_spot G) → sum_below (length origins - 1) (plain_nodes G rule_spots) + length (body_at G (length G - 1)) ≤ whole G
      → ((p : ℕ) → p < length origins → IsCalledOnce H rule_spots p) → IsIsolated names marks G H
  is-isolated last first rising once =
      let some = g.some in
      let start : get_or rule_spots (length H - 1) no_spot ≡ start_spot G = get_or_from_slice_get rule_spots (length H - 1) (start_spot G) no_spot (origin-spot spots origins (length H - 1) 0 (start_spot G) last first) in
      let few = alone-few (text_weight names) (mark_at marks) G g (length names) rule_spots H h swept rules in
      let e : suc (length G - 1) ≡ length G = omega arith in
      let all : spot_nodes (text_weight names) (mark_at marks) G g (length names) rule_spots (length H - 1) ≡ marked_nodes names marks G =
      ap (λ (s : Spot ℕ (Option ℕ)). down_nodes (text_weight names) (mark_at marks) G g s.rule s.states s.down) start ∙ ap (λ k. nodes_from (text_weight names) (mark_at marks) G k (length G - 1) [] (Some 0)) e in
      record {
        grammar = h;
        is_alone = is_apart;
        alone = omega (arith, few, all);
        others = others-few start rising;
        once = λ r l m. alone-once r (once r (omega (arith, l, n))) m;
        callers = λ r q place l m at. alone-callers (text_weight names) (mark_at marks) G g (length names) rule_spots H h swept rules r q place l m at;
        ranks = λ r. ranks-few (text_weight names) (mark_at marks) G g (length names) rule_spots H h swept rules r;
      }
