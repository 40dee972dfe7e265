-- Rules once a term of the start became a rule of its own.
use Rattle.std.proofs.Common.{◌≡◌, ◌⊎◌, inl, inr, ℕ, zero, suc, ◌+◌, ◌-◌, ◌<◌, ◌≤◌, List, [], ◌∷◌, ◌++◌, length, get_or, take, drop, map, Bool, refl, sym, ap, ◌∙◌, subst, arith, insert}
use Rattle.std.proofs.lemmas.Bool.{cases_order, eq-eqb, ne_eqb}
use Rattle.std.proofs.lemmas.List.{length-map}
use Rattle.std.specs.Prelude.{Some, if◌then◌else◌}
use Rattle.rule_arena.specs.Preorder.{AreTerms, span, subterm, with_subterm}
use Rattle.rule_arena.specs.Terms.{Node, key_in, kids_of}
use Rattle.rule_arena.specs.declared.key.Key.{Key}
use Rattle.rule_arena.specs.declared.label.Label.{Label}
use Rattle.rule_arena.specs.declared.label.Label.TheVariants.{Bottom, Symbol, Call, Param}
use Rattle.rule_arena.proofs.PreorderLemmas.{AreTerms-with}
use Rattle.slt_grammar.specs.Algebras.{ranks_of, all_meanings}
use Rattle.slt_grammar.specs.Bodies.{arity, params, calls_in, CallsBelow, IsTerm}
use Rattle.slt_grammar.specs.Editing.{put, shifted, with_body}
use Rattle.slt_grammar.specs.Grammars.{body_at, rank_at, calls_of, size, value, value_at}
use Rattle.slt_grammar.specs.Holding.{IsLawful, AreCounted}
use Rattle.slt_grammar.specs.Keyed.{KeyedRule, key_at, nodes_at, rules_of, labels_of}
use Rattle.slt_grammar.specs.KeyedEdits.{with_nodes, shifted_keyed, rule_put, rule_shared}
use Rattle.slt_grammar.specs.Terms.{Term, Leaf, term_algebra, holes}
use Rattle.slt_grammar.specs.RuleValues.{HasRuleMore}
use Rattle.slt_grammar.specs.declared.rules.Rule.{Rule}
use Rattle.slt_grammar.proofs.Additions.{Fits, get-new, get-shifted, length-insert, put-lawful, put-value, put-values, put-calls, put-uncalled, put-size, put-length, nodes-same, never-there, calls-before}
use Rattle.slt_grammar.proofs.Adding.{CallsBelow-le}
use Rattle.slt_grammar.proofs.Agreeing.{Agree, agree-of, labels-subterm, labels-with}
use Rattle.slt_grammar.proofs.Folding.{folding-keeps}
use Rattle.slt_grammar.proofs.Keeping.{shifted-before, shifted-behind, length-with_body, rank_at-with_body}
use Rattle.slt_grammar.proofs.KeyedEdits.{rules-with_nodes, length-with_nodes, lawful-with_subterm}
use Rattle.slt_grammar.proofs.KeyedLemmas.{length-rules_of, body_at-rules_of, key_at-within}
use Rattle.slt_grammar.proofs.KeptLifts.{IsPart, part-take, part-drop}
use Rattle.slt_grammar.proofs.Removals.{calls-past}
use Rattle.slt_grammar.proofs.RuleMeanings.{rank_at-ranks_of}
use Rattle.slt_grammar.proofs.Weights.{weigh, call_weight, real_weight, calls-weigh, real-weigh, weigh-with, total, calls-total, size-total, total-with_body}

put-none : (ls : List Label) → put ls [] ≡ ls
put-none [] = refl
put-none (Bottom ∷ ls) = ap (λ ms. Bottom ∷ ms) (put-none ls)
put-none (Symbol f ∷ ls) = ap (λ ms. Symbol f ∷ ms) (put-none ls)
put-none (Call q ∷ ls) = ap (λ ms. Call q ∷ ms) (put-none ls)
put-none (Param ∷ ls) = ap (λ ms. Param ∷ ms) (put-none ls)

-- rules that call none from a place on stay as they are
pub none-shifted : (p : ℕ) (G : List KeyedRule) → ((q : ℕ) → CallsBelow p (labels_of (nodes_at G q))) → map (shifted_keyed p) G ≡ G
none-shifted p [] c = refl
none-shifted p (R ∷ G) c =
    ap (λ (ns : List Node). record { rank = R.rank; nodes = ns } ∷ map (shifted_keyed p) G) (nodes-same p R.nodes (c 0))
    ∙ ap (λ (H : List KeyedRule). R ∷ H) (none-shifted p G (λ q. c (suc q)))

behind-new : (G : List KeyedRule) (i : ℕ) (S : KeyedRule) → i ≤ length G → nodes_at (insert G i S) (i + 1) ≡ nodes_at G i
behind-new G i S h =
    let d : KeyedRule = record { rank = 0; nodes = [] } in
    let e : i + 1 ≡ shifted i i = omega (arith, shifted-behind i i (omega arith)) in
    ap (nodes_at (insert G i S)) e ∙ ap (λ (R : KeyedRule). R.nodes) (get-shifted G i i S d h)

at-new : (G : List KeyedRule) (i : ℕ) (S : KeyedRule) → i ≤ length G → nodes_at (insert G i S) i ≡ S.nodes
at-new G i S h = ap (λ (R : KeyedRule). R.nodes) (get-new G i S (record { rank = 0; nodes = [] }) h)

-- two rules in the place of the last one
last-two : (G : List KeyedRule) (i : ℕ) (S : KeyedRule) (ms : List Node) → i + 1 ≡ length G
    → with_nodes (insert G i S) (i + 1) ms ≡ take i G ++ S ∷ record { rank = rank_at (rules_of G) i; nodes = ms } ∷ []
last-two [] i S ms h = absurd (omega arith)
last-two (R ∷ []) zero S ms h = refl
last-two (R ∷ (T ∷ G)) zero S ms h = absurd (omega arith)
last-two (R ∷ G) (suc i) S ms h =
    let e : suc i + 1 ≡ suc (i + 1) = omega arith in
    let f : suc (i + 1) + 1 ≡ suc (i + 1 + 1) = omega arith in
    rw (e, f) (ap (λ (H : List KeyedRule). R ∷ H) (last-two G i S ms (omega arith)))

module _ (G : List KeyedRule) (r p : ℕ) (at call : Key) (L : IsLawful G) (start : r + 1 ≡ length G) (there : key_at G r p ≡ Some at) where
  abbrev pub ns : List Node
  ns = nodes_at G r

  abbrev pub sub : List Node
  sub = subterm kids_of (nodes_at G r) p

  abbrev pub new-rule : KeyedRule
  new-rule = record { rank = 0; nodes = subterm kids_of (nodes_at G r) p }

  abbrev pub leaf : Node
  leaf = record { key = call; label = Call r; kids = 0 }

  abbrev pub left : List Node
  left = with_subterm kids_of (nodes_at G r) p (record { key = call; label = Call r; kids = 0 } ∷ [])

  abbrev pub ranks : List ℕ
  ranks = ranks_of (rules_of G)

  in-list : r < length G
  in-list = omega arith

  in-rules : r < length (rules_of G)
  in-rules = omega (arith, start, length-rules_of G)

  pub rank-none : rank_at (rules_of G) r ≡ 0
  rank-none = (L.grammar.each r in-rules).shaped.start (start ∙ sym (length-rules_of G))

  body-is : body_at (rules_of G) r ≡ labels_of ns
  body-is = body_at-rules_of G r

  agree : Agree ranks ns
  agree = agree-of ranks ns (L.arities r)

  part : IsPart ranks r ns
  part =
      let w = L.grammar.each r in-rules in record {
        agree = agree;
        below = subst (CallsBelow r) body-is w.earlier;
        closed = sym (ap params body-is) ∙ w.linear ∙ rank-none;
      }

  pub sub-part : IsPart (ranks_of (rules_of G)) r (subterm kids_of (nodes_at G r) p)
  sub-part = part-take ranks r (span kids_of 1 (drop p ns)) (drop p ns) (part-drop ranks r p ns part)

  pub fits : Fits G r new-rule
  fits = record {
    below = sub-part.below;
    term =
        let t : IsTerm ranks (labels_of ns) = subst (IsTerm ranks) body-is (L.grammar.each r in-rules).shaped.term in
        let l : p < length (labels_of ns) = omega (arith, (key_at-within G r p at there).1, length-map ns (λ (n : Node). n.label)) in
        subst (IsTerm ranks) (labels-subterm ranks ns p agree) (AreTerms-with (arity ranks) 1 (labels_of ns) p (Bottom ∷ []) t l tt).0;
    small = omega arith;
    linear = sub-part.closed;
    agree = sub-part.agree;
  }

  abbrev pub P : List KeyedRule
  P = rule_put G r new-rule

  -- nothing is shifted
  pub put-same : rule_put G r new-rule ≡ insert G r new-rule
  put-same = ap (λ (H : List KeyedRule). insert H r new-rule) (none-shifted r G (λ q. by q (cases_order q r)))
    where
      by : (q : ℕ) → (q ≡ r) ⊎ ((q < r) ⊎ (r < q)) → CallsBelow r (labels_of (nodes_at G q))
      by q (inl e) = subst (λ (j : ℕ). CallsBelow r (labels_of (nodes_at G j))) (sym e) part.below
      by q (inr (inl l)) =
          subst (CallsBelow r) (body_at-rules_of G q) (CallsBelow-le q r (body_at (rules_of G) q) (omega arith) (L.grammar.each q (omega (arith, in-rules))).earlier)
      by q (inr (inr l)) = subst (λ (ms : List Node). CallsBelow r (labels_of ms)) (sym (beyond G q (omega arith))) tt
        where
          beyond : (F : List KeyedRule) (q : ℕ) → length F ≤ q → nodes_at F q ≡ []
          beyond [] q h = refl
          beyond (R ∷ F) zero h = absurd (omega arith)
          beyond (R ∷ F) (suc q) h = beyond F q (omega arith)

  put-start : nodes_at P (r + 1) ≡ ns
  put-start = ap (λ (H : List KeyedRule). nodes_at H (r + 1)) put-same ∙ behind-new G r new-rule (omega arith)

  put-new : nodes_at P r ≡ sub
  put-new = ap (λ (H : List KeyedRule). nodes_at H r) put-same ∙ at-new G r new-rule (omega arith)

  PL : IsLawful P
  PL = put-lawful G r new-rule L in-list fits

  plain-rules : List Rule
  plain-rules = rules_of P

  in-put : r + 1 < length P
  in-put = omega (arith, start, put-length G r new-rule L in-list fits)

  in-plain : r + 1 < length (rules_of P)
  in-plain = omega (arith, in-put, length-rules_of P)

  there-put : key_at P (r + 1) p ≡ Some at
  there-put = ap (λ (ms : List Node). key_in ms p) put-start ∙ there

  rank-new : rank_at (rules_of P) r ≡ 0
  rank-new = sym (PL.grammar.each r (omega (arith, in-plain))).linear ∙ ap params (body_at-rules_of P r ∙ ap labels_of put-new) ∙ sub-part.closed

  call-rank : get_or (ranks_of (rules_of P)) r 0 ≡ 0
  call-rank = rank_at-ranks_of (rules_of P) r ∙ rank-new

  abbrev pub shared : List KeyedRule
  shared = with_nodes P (r + 1) left

  left-is : with_subterm kids_of (nodes_at P (r + 1)) p (leaf ∷ []) ≡ left
  left-is = ap (λ (ms : List Node). with_subterm kids_of ms p (leaf ∷ [])) put-start

  one-call : AreTerms (arity (ranks_of (rules_of P))) 1 (Call r ∷ [])
  one-call = let e : get_or (ranks_of (rules_of P)) r 0 + 0 ≡ 0 = omega (arith, call-rank) in subst (λ (n : ℕ). AreTerms (arity (ranks_of (rules_of P))) n []) (sym e) tt

  pub shared-lawful : IsLawful shared
  shared-lawful =
      subst (λ (ms : List Node). IsLawful (with_nodes P (r + 1) ms)) left-is
      (lawful-with_subterm P (r + 1) p at (leaf ∷ []) PL there-put (omega arith, tt) one-call
      (sym (ap (λ (ms : List Node). params (labels_of (subterm kids_of ms p))) put-start ∙ sub-part.closed)) (sym call-rank, tt))

  agree-start : Agree (ranks_of (rules_of P)) (nodes_at P (r + 1))
  agree-start = agree-of (ranks_of (rules_of P)) (nodes_at P (r + 1)) (PL.arities (r + 1))

  start-body : body_at (rules_of P) (r + 1) ≡ labels_of ns
  start-body = body_at-rules_of P (r + 1) ∙ ap labels_of put-start

  agree-ns : Agree (ranks_of (rules_of P)) ns
  agree-ns = subst (Agree (ranks_of (rules_of P))) put-start agree-start

  labels-left : labels_of left ≡ with_subterm (arity (ranks_of (rules_of P))) (body_at (rules_of P) (r + 1)) p (Call r ∷ [])
  labels-left = labels-with (ranks_of (rules_of P)) ns p agree-ns (leaf ∷ []) ∙ ap (λ ls. with_subterm (arity (ranks_of (rules_of P))) ls p (Call r ∷ [])) (sym start-body)

  labels-sub : subterm (arity (ranks_of (rules_of P))) (body_at (rules_of P) (r + 1)) p ≡ labels_of sub
  labels-sub = ap (λ ls. subterm (arity (ranks_of (rules_of P))) ls p) start-body ∙ labels-subterm (ranks_of (rules_of P)) ns p agree-ns

  rules-are : rules_of shared ≡ with_body (rules_of P) (r + 1) (with_subterm (arity (ranks_of (rules_of P))) (body_at (rules_of P) (r + 1)) p (Call r ∷ []))
  rules-are = rules-with_nodes P (r + 1) left ∙ ap (with_body (rules_of P) (r + 1)) labels-left

  -- the call means what the term in its place meant
  same-meanings : all_meanings term_algebra (with_body (rules_of P) (r + 1) (with_subterm (arity (ranks_of (rules_of P))) (body_at (rules_of P) (r + 1)) p (Call r ∷ []))) ≡ all_meanings term_algebra (rules_of P)
  same-meanings =
      let Q : List Rule = rules_of P in
      let inside : p < length (body_at Q (r + 1)) = omega (arith, ap length start-body, (key_at-within G r p at there).1, length-map ns (λ (n : Node). n.label)) in
      let is : subterm (arity (ranks_of Q)) (body_at Q (r + 1)) p ≡ put (body_at Q r) [] = labels-sub ∙ sym (put-none (body_at Q r) ∙ body_at-rules_of P r ∙ ap labels_of put-new) in
      folding-keeps Q (r + 1) p r [] PL.grammar in-plain (omega arith) inside tt (sym rank-new) is term_algebra

  value_at-shared : (s : ℕ) → value_at (rules_of shared) s ≡ value_at (rules_of P) s
  value_at-shared s =
      let Q : List Rule = rules_of P in
      let body : List Label = with_subterm (arity (ranks_of Q)) (body_at Q (r + 1)) p (Call r ∷ []) in
      ap (λ (R : List Rule). value_at R s) rules-are
      ∙ ap (λ (k : ℕ). get_or (all_meanings term_algebra (with_body Q (r + 1) body)) s (λ _. Leaf) (holes 0 k)) (rank_at-with_body Q (r + 1) body s in-plain)
      ∙ ap (λ (fs : List (List Term → Term)). get_or fs s (λ _. Leaf) (holes 0 (rank_at Q s))) same-meanings

  many-shared : length (rules_of shared) ≡ length (rules_of P)
  many-shared = ap length rules-are ∙ length-with_body (rules_of P) (r + 1) (with_subterm (arity (ranks_of (rules_of P))) (body_at (rules_of P) (r + 1)) p (Call r ∷ [])) in-plain

  pub shared-value : value (rules_of shared) ≡ value (rules_of G)
  shared-value = ap (λ (n : ℕ). value_at (rules_of shared) (n - 1)) many-shared ∙ value_at-shared (length (rules_of P) - 1) ∙ put-value G r new-rule L in-list fits

  pub shared-values : HasRuleMore r (rules_of G) (rules_of shared)
  shared-values =
      let V = put-values G r new-rule L in-list fits in
      record { within = V.within; more = many-shared ∙ V.more; values = λ s l. value_at-shared (shifted r s) ∙ V.values s l }

  moved : (w : Label → ℕ) → total w (rules_of shared) + weigh w (labels_of sub) ≡ total w (rules_of P) + weigh w (Call r ∷ [])
  moved w =
      let Q : List Rule = rules_of P in
      let body : List Label = with_subterm (arity (ranks_of Q)) (body_at Q (r + 1)) p (Call r ∷ []) in
      omega (
        arith,
        ap (total w) rules-are,
        total-with_body w Q (r + 1) body in-plain,
        weigh-with w (arity (ranks_of Q)) (body_at Q (r + 1)) p (Call r ∷ []),
        ap (weigh w) labels-sub,
      )

  moved-calls : (q : ℕ) → calls_of (rules_of shared) q + calls_in q (labels_of sub) ≡ calls_of (rules_of P) q + calls_in q (Call r ∷ [])
  moved-calls q =
      omega (
        arith,
        moved (call_weight q),
        calls-total q (rules_of shared),
        calls-total q (rules_of P),
        calls-weigh q (labels_of sub),
        calls-weigh q (Call r ∷ []),
      )

  pub shared-size : size (rules_of shared) ≡ size (rules_of G) + 1
  shared-size =
      omega (
        arith,
        moved real_weight,
        size-total (rules_of shared),
        size-total (rules_of P),
        real-weigh (labels_of sub),
        put-size G r new-rule L in-list fits,
      )

  pub shared-counted : (calls : List ℕ) (nodes : ℕ) → AreCounted G calls nodes → AreCounted shared (insert calls r 1) (nodes + 1)
  shared-counted calls nodes C =
      let n : length shared ≡ suc (length G) = length-with_nodes P (r + 1) left in-put ∙ put-length G r new-rule L in-list fits in
      record {
        many = omega (arith, n, length-insert calls r 1, C.many);
        each = λ q h. by q (omega (arith, n)) (cases_order q r);
        real = omega (arith, C.real, shared-size);
      }
    where
      not-called : (q : ℕ) → calls_in (shifted r q) (Call r ∷ []) ≡ 0
      not-called q = ap (λ (b : Bool). (if b then 1 else 0) + 0) (ne_eqb r (shifted r q) (λ z. never-there r q (sym z)))

      other : (q : ℕ) → q < length G → get_or (insert calls r 1) (shifted r q) 0 ≡ calls_of (rules_of shared) (shifted r q)
      other q h =
          omega (
            arith,
            get-shifted calls r q 1 0 (omega (arith, start, C.many)),
            C.each q h,
            put-calls G r new-rule L in-list fits q,
            moved-calls (shifted r q),
            calls-before r q (labels_of sub) sub-part.below,
            not-called q,
          )

      by : (q : ℕ) → q < suc (length G) → (q ≡ r) ⊎ ((q < r) ⊎ (r < q)) → get_or (insert calls r 1) q 0 ≡ calls_of (rules_of shared) q
      by q h (inl e) =
          let one : calls_in r (Call r ∷ []) ≡ 1 = ap (λ (b : Bool). (if b then 1 else 0) + 0) (eq-eqb r r refl) in
          subst (λ (j : ℕ). get_or (insert calls r 1) j 0 ≡ calls_of (rules_of shared) j) (sym e)
          (omega (
            arith,
            get-new calls r 1 0 (omega (arith, start, C.many)),
            put-uncalled G r new-rule L in-list fits,
            moved-calls r,
            calls-past r r (labels_of sub) sub-part.below (omega arith),
            one,
          ))
      by q h (inr (inl l)) = subst (λ (j : ℕ). get_or (insert calls r 1) j 0 ≡ calls_of (rules_of shared) j) (shifted-before r q l) (other q (omega arith))
      by zero h (inr (inr l)) = absurd (omega arith)
      by (suc q) h (inr (inr l)) = subst (λ (j : ℕ). get_or (insert calls r 1) j 0 ≡ calls_of (rules_of shared) j) (shifted-behind r q (omega arith)) (other q (omega arith))

  pub shared-is : shared ≡ rule_shared G r p call
  shared-is =
      ap (λ (H : List KeyedRule). with_nodes H (r + 1) left) put-same ∙ last-two G r new-rule left start
      ∙ ap (λ (k : ℕ). take r G ++ new-rule ∷ record { rank = k; nodes = left } ∷ []) rank-none
