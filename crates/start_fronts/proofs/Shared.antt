-- A term of the start that becomes a rule of its own: what stands before the other nodes is the same.
use Rattle.std.proofs.Common.{◌≡◌, ◌≢◌, ℕ, zero, suc, ◌-◌, ◌<◌, List, [], ◌∷◌, ◌++◌, All, drop, get_or, length, map, take, Some, refl, sym, ap, ◌∙◌, subst, arith, append-nil}
use Rattle.std.proofs.lemmas.List.{length-take-le}
use Rattle.rule_arena.specs.Preorder.{AreTerms, span, subterm, with_subterm}
use Rattle.rule_arena.specs.Terms.{Node, key_in, key_of, kids_of}
use Rattle.rule_arena.specs.declared.key.Key.{Key}
use Rattle.rule_arena.specs.declared.label.Label.{Label}
use Rattle.rule_arena.specs.declared.label.Label.TheVariants.{Call}
use Rattle.rule_arena.proofs.PreorderLemmas.{AreTerms-with, split_at}
use Rattle.slt_grammar.specs.Algebras.{ranks_of}
use Rattle.slt_grammar.specs.Bodies.{params}
use Rattle.slt_grammar.specs.Grammars.{value_at}
use Rattle.slt_grammar.specs.Keyed.{IsKeyed, Keyed, KeyedRule, labels_of, nodes_at, rules_of}
use Rattle.slt_grammar.specs.KeyedEdits.{rule_shared}
use Rattle.slt_grammar.specs.RuleValues.{HasRuleMore}
use Rattle.slt_grammar.specs.Segments.{preorder, segment}
use Rattle.slt_grammar.specs.Tours.{Stop, tour}
use Rattle.slt_grammar.specs.Wrapping.{IsInStart}
use Rattle.slt_grammar.specs.declared.rules.Rule.{Rule}
use Rattle.slt_grammar.proofs.Keeping.{shifted-before}
use Rattle.slt_grammar.proofs.KeptLifts.{IsPart}
use Rattle.slt_grammar.proofs.KeyedLemmas.{body_at-rules_of, key_at-within, length-rules_of, nodes-are-term}
use Rattle.slt_grammar.proofs.SharedRules.{shared-is, shared-values, sub-part}
use Rattle.slt_grammar.proofs.TourLemmas.{params-preorder, preorder-nodes, segment-first}
use Rattle.start_fronts.specs.Before.{KeepsBefore}
use Rattle.start_fronts.proofs.Alike.{Behind, dropped-same, first-append, none-behind, tours-same}
use Rattle.start_fronts.proofs.Exchanges.{spread-stops}
use Rattle.start_fronts.proofs.Keeping.{lawful}
use Rattle.start_fronts.proofs.Stacks.{opens, opens-term, tour-term}
use Rattle.start_fronts.proofs.Windows.{alike-below, keeps-around, spelt}

nodes-last : (xs : List KeyedRule) (R Q : KeyedRule) → nodes_at (xs ++ R ∷ Q ∷ []) (suc (length xs)) ≡ Q.nodes
nodes-last [] R Q = refl
nodes-last (x ∷ xs) R Q = nodes-last xs R Q

nodes-before-last : (xs : List KeyedRule) (R Q : KeyedRule) → nodes_at (xs ++ R ∷ Q ∷ []) (length xs) ≡ R.nodes
nodes-before-last [] R Q = refl
nodes-before-last (x ∷ xs) R Q = nodes-before-last xs R Q

-- labels without parameters are one segment
whole-segment : (ls : List Label) → params ls ≡ 0 → segment 0 ls ≡ ls
whole-segment ls z = ap (segment 0) (sym (append-nil ls)) ∙ segment-first ls [] z ∙ append-nil ls

-- a key among nodes
not-apart : (ns : List Node) (key : Key) (i : ℕ) → key_in ns i ≡ Some key → All (λ k. k ≢ key) (map key_of ns) → ⊥
not-apart [] key i e a = let z : key_in [] i ≡ Some key = e in cc
not-apart (n ∷ ns) key zero e a = a 0 key (omega arith) (let z : Some n.key ≡ Some key = e in cc)
not-apart (n ∷ ns) key (suc i) e a = not-apart ns key i e (λ k d h. a (suc k) d (omega (arith, h)))

module _ (g h : Keyed) (K : IsKeyed g) (M : IsKeyed h) (key call : Key) (S : IsInStart g.rules key) (is : h.rules ≡ rule_shared g.rules S.here.rule S.here.place call) where
  abbrev r : ℕ
  r = S.here.rule

  abbrev p : ℕ
  p = S.here.place

  abbrev ns : List Node
  ns = nodes_at g.rules r

  abbrev X : List Rule
  X = rules_of g.rules

  abbrev Y : List Rule
  Y = rules_of h.rules

  abbrev A : List Node
  A = take p ns

  abbrev term : List Node
  term = subterm kids_of ns p

  abbrev back : List Node
  back = drop (span kids_of 1 (drop p ns)) (drop p ns)

  abbrev node : Node
  node = record { key = call; label = Call r; kids = 0 }

  in-rules : r < length g.rules
  in-rules = let e = S.start in omega (arith, e)

  more : HasRuleMore r X Y
  more =
      subst (λ (Q : List KeyedRule). HasRuleMore r X (rules_of Q))
      (shared-is g.rules r p key call (lawful g K) S.start S.here.there ∙ sym is)
      (shared-values g.rules r p key call (lawful g K) S.start S.here.there)

  values : (q : ℕ) → q < r → value_at Y q ≡ value_at X q
  values q l = ap (value_at Y) (sym (shifted-before r q l)) ∙ more.values q (omega (arith, l, in-rules, length-rules_of g.rules))

  part : IsPart (ranks_of X) r term
  part = sub-part g.rules r p key call (lawful g K) S.start S.here.there

  front-long : length (take r g.rules) ≡ r
  front-long = length-take-le r g.rules (omega (arith, in-rules))

  new-term : nodes_at h.rules r ≡ term
  new-term =
      let R : KeyedRule = record { rank = 0; nodes = term } in
      let Q : KeyedRule = record { rank = 0; nodes = with_subterm kids_of ns p (node ∷ []) } in
      ap (λ (H : List KeyedRule). nodes_at H r) is
      ∙ ap (nodes_at (take r g.rules ++ R ∷ Q ∷ [])) (sym front-long)
      ∙ nodes-before-last (take r g.rules) R Q

  new-start : nodes_at h.rules (length h.rules - 1) ≡ A ++ ((node ∷ []) ++ back)
  new-start =
      let R : KeyedRule = record { rank = 0; nodes = term } in
      let Q : KeyedRule = record { rank = 0; nodes = with_subterm kids_of ns p (node ∷ []) } in
      let last : length h.rules - 1 ≡ suc (length (take r g.rules)) = (let m = more.more in let s = S.start in omega (arith, s, m, front-long, length-rules_of g.rules, length-rules_of h.rules)) in
      ap (nodes_at h.rules) last
      ∙ ap (λ (H : List KeyedRule). nodes_at H (suc (length (take r g.rules)))) is
      ∙ nodes-last (take r g.rules) R Q

  start-is : r ≡ length g.rules - 1
  start-is = let s = S.start in omega (arith, s)

  old-start : nodes_at g.rules (length g.rules - 1) ≡ A ++ (term ++ back)
  old-start = ap (nodes_at g.rules) (sym start-is) ∙ sym (split_at kids_of ns p)

  one-term : AreTerms kids_of 1 term
  one-term = (AreTerms-with kids_of 1 ns p (node ∷ []) (nodes-are-term g K r in-rules) (key_at-within g.rules r p key S.here.there).1 tt).0

  in-new : r < length Y
  in-new = let m = more.more in omega (arith, m, in-rules, length-rules_of g.rules)

  none : params (preorder Y r) ≡ 0
  none =
      params-preorder Y r M.grammar in-new
      ∙ sym (M.grammar.each r in-new).linear
      ∙ ap params (body_at-rules_of h.rules r ∙ ap labels_of new-term)
      ∙ part.closed

  -- the call stands for what the term stood for
  call-is : segment 0 (preorder Y r) ≡ spelt X (tour kids_of ([] ∷ []) term)
  call-is =
      whole-segment (preorder Y r) none
      ∙ preorder-nodes h M r (omega (arith, in-new, length-rules_of h.rules))
      ∙ sym (spread-stops Y (tour kids_of ([] ∷ []) (nodes_at h.rules r)) [])
      ∙ ap (λ xs. spelt Y (tour kids_of ([] ∷ []) xs)) new-term
      ∙ tours-same X Y term term ([] ∷ []) ([] ∷ []) (alike-below X Y r values term part.below) (none-behind X Y)

  same-window : (st : List (List (Stop Node))) → Behind X Y st st → spelt Y (tour kids_of st (node ∷ [])) ≡ spelt X (tour kids_of st term)
  same-window st b =
      ap (λ ms. segment 0 (preorder Y r) ++ spelt Y ms) (append-nil (get_or st 0 []))
      ∙ ap (λ ls. segment 0 (preorder Y r) ++ ls) (b 0)
      ∙ ap (λ ls. ls ++ spelt X (get_or st 0 [])) call-is
      ∙ sym (first-append X X (tour kids_of ([] ∷ []) term) (get_or st 0 []))
      ∙ ap (spelt X) (sym (tour-term kids_of st term one-term))

  pub keeps-shared : KeepsBefore (map key_of (subterm kids_of (nodes_at g.rules S.here.rule) S.here.place)) g.rules h.rules
  keeps-shared =
      keeps-around g h K M A term (node ∷ []) back old-start new-start
      (λ q l. values q (omega (arith, l, start-is)))
      (λ b. subst (λ (os : List (List (Stop Node))). Behind X Y os (drop 1 (opens kids_of ([] ∷ []) A))) (sym (opens-term kids_of (opens kids_of ([] ∷ []) A) term one-term))
      (dropped-same X Y (opens kids_of ([] ∷ []) A) (opens kids_of ([] ∷ []) A) b))
      (same-window (opens kids_of ([] ∷ []) A)) (map key_of term) (not-apart term)
