-- Rules among which another was put that nobody calls.
use Rattle.std.proofs.Common.{◌≡◌, ℕ, zero, suc, ◌+◌, ◌<◌, ◌≤◌, List, [], ◌∷◌, ◌++◌, length, get_or, take, drop, map, Bool, refl, sym, ap, ◌∙◌, subst, arith, insert}
use Rattle.std.proofs.Math.ListN.{get_or-map}
use Rattle.std.proofs.lemmas.Bool.{ne_eqb}
use Rattle.std.proofs.lemmas.List.{length-map}
use Rattle.std.specs.Prelude.{if◌then◌else◌, eqb}
use Rattle.rule_arena.specs.Terms.{Node}
use Rattle.rule_arena.specs.declared.label.Label.{Label}
use Rattle.rule_arena.specs.declared.label.Label.TheVariants.{Bottom, Symbol, Call, Param}
use Rattle.slt_grammar.specs.Algebras.{ranks_of}
use Rattle.slt_grammar.specs.Bodies.{arity, params, real_nodes, calls_in, CallsBelow, IsTerm}
use Rattle.slt_grammar.specs.Editing.{shifted, shifted_label, shifted_rule, rule_added}
use Rattle.slt_grammar.specs.Grammars.{IsGrammar, body_at, calls_of, size, value, value_at}
use Rattle.slt_grammar.specs.Holding.{IsLawful}
use Rattle.slt_grammar.specs.Keyed.{KeyedRule, HasArities, nodes_at, rules_of, labels_of}
use Rattle.slt_grammar.specs.KeyedEdits.{shifted_keyed, rule_put}
use Rattle.slt_grammar.specs.Placing.{shifted_node}
use Rattle.slt_grammar.specs.RuleValues.{HasRuleMore}
use Rattle.slt_grammar.specs.declared.rules.Rule.{Rule}
use Rattle.slt_grammar.proofs.Adding.{CallsBelow-le, ranks-before, ranks-behind}
use Rattle.slt_grammar.proofs.Agreeing.{Agree, agree-of, of-agree}
use Rattle.slt_grammar.proofs.Keeping.{shifted-before, shifted-same, grammar-added, length-rule_added}
use Rattle.slt_grammar.proofs.KeyedLemmas.{length-rules_of}
use Rattle.slt_grammar.proofs.Removals.{same-test, shifted-same-place, calls-past}
use Rattle.slt_grammar.proofs.Values.{value-added, value_at-added}
use Rattle.slt_grammar.proofs.Weights.{weigh, call_weight, real_weight, calls-weigh, real-weigh, total, calls-total, size-total}

-- a rule without its keys
abbrev pub plain : KeyedRule → Rule
plain R = record { rank = R.rank; body = labels_of R.nodes }

-- a list with one item more
pub length-insert : {X : Type 0} (xs : List X) (i : ℕ) (y : X) → length (insert xs i y) ≡ suc (length xs)
length-insert xs zero y = refl
length-insert [] (suc i) y = refl
length-insert (x ∷ xs) (suc i) y = ap suc (length-insert xs i y)

pub get-new : {X : Type 0} (xs : List X) (i : ℕ) (y d : X) → i ≤ length xs → get_or (insert xs i y) i d ≡ y
get-new xs zero y d h = refl
get-new [] (suc i) y d h = absurd (omega arith)
get-new (x ∷ xs) (suc i) y d h = get-new xs i y d (omega arith)

pub get-shifted : {X : Type 0} (xs : List X) (i q : ℕ) (y d : X) → i ≤ length xs → get_or (insert xs i y) (shifted i q) d ≡ get_or xs q d
get-shifted xs zero q y d h = refl
get-shifted [] (suc i) q y d h = absurd (omega arith)
get-shifted (x ∷ xs) (suc i) zero y d h = refl
get-shifted (x ∷ xs) (suc i) (suc q) y d h = get-shifted xs i q y d (omega arith)

-- what holds of all nodes holds with the new rule's
each-put : (P : List Node → Type 0) (G : List KeyedRule) (i : ℕ) (R : KeyedRule) → ((r : ℕ) → P (nodes_at G r)) → P R.nodes → (r : ℕ) → P (nodes_at (insert G i R) r)
each-put P G zero R h p zero = p
each-put P G zero R h p (suc r) = h r
each-put P [] (suc i) R h p zero = p
each-put P [] (suc i) R h p (suc r) = h r
each-put P (S ∷ G) (suc i) R h p zero = h 0
each-put P (S ∷ G) (suc i) R h p (suc r) = each-put P G i R (λ s. h (suc s)) p r

-- labels with the new places
pub labels-shifted : (p : ℕ) (ns : List Node) → labels_of (map (shifted_node p) ns) ≡ map (shifted_label p) (labels_of ns)
labels-shifted p [] = refl
labels-shifted p (n ∷ ns) = ap (λ ls. shifted_label p n.label ∷ ls) (labels-shifted p ns)

-- nodes that call rules before the new one alone
pub nodes-same : (p : ℕ) (ns : List Node) → CallsBelow p (labels_of ns) → map (shifted_node p) ns ≡ ns
nodes-same p [] c = refl
nodes-same p (n ∷ ns) c = at n.label refl c (nodes-same p ns)
  where
    at : (l : Label) → n.label ≡ l → CallsBelow p (l ∷ labels_of ns) → (CallsBelow p (labels_of ns) → map (shifted_node p) ns ≡ ns)
        → let m : Node = record n { label = shifted_label p l } in m ∷ map (shifted_node p) ns ≡ n ∷ ns
    at Bottom e d ih = rw (ih d, ← e) refl
    at (Symbol f) e d ih = rw (ih d, ← e) refl
    at (Call q) e d ih = rw (ih d.1, shifted-before p q d.0, ← e) refl
    at Param e d ih = rw (ih d, ← e) refl

calls-shifted : (p q : ℕ) (ls : List Label) → calls_in (shifted p q) (map (shifted_label p) ls) ≡ calls_in q ls
calls-shifted p q [] = refl
calls-shifted p q (Bottom ∷ ls) = calls-shifted p q ls
calls-shifted p q (Symbol f ∷ ls) = calls-shifted p q ls
calls-shifted p q (Param ∷ ls) = calls-shifted p q ls
calls-shifted p q (Call x ∷ ls) =
    let t = same-test (shifted p x) (shifted p q) x q (λ z. shifted-same-place p x q z, λ z. ap (shifted p) z) in
    ap (λ (k : ℕ). k + calls_in (shifted p q) (map (shifted_label p) ls)) t ∙ ap (λ (k : ℕ). (if eqb x q then 1 else 0) + k) (calls-shifted p q ls)

pub never-there : (p x : ℕ) → shifted p x ≡ p → ⊥
never-there zero x e = absurd (omega arith)
never-there (suc p) zero e = absurd (omega arith)
never-there (suc p) (suc x) e = never-there p x (omega arith)

calls-new : (p : ℕ) (ls : List Label) → calls_in p (map (shifted_label p) ls) ≡ 0
calls-new p [] = refl
calls-new p (Bottom ∷ ls) = calls-new p ls
calls-new p (Symbol f ∷ ls) = calls-new p ls
calls-new p (Param ∷ ls) = calls-new p ls
calls-new p (Call x ∷ ls) =
    ap (λ (b : Bool). (if b then 1 else 0) + calls_in p (map (shifted_label p) ls)) (ne_eqb (shifted p x) p (never-there p x)) ∙ omega (arith, calls-new p ls)

real-shifted : (p : ℕ) (ls : List Label) → real_nodes (map (shifted_label p) ls) ≡ real_nodes ls
real-shifted p [] = refl
real-shifted p (Bottom ∷ ls) = ap suc (real-shifted p ls)
real-shifted p (Symbol f ∷ ls) = ap suc (real-shifted p ls)
real-shifted p (Call x ∷ ls) = ap suc (real-shifted p ls)
real-shifted p (Param ∷ ls) = real-shifted p ls

-- a body that calls rules before the new one alone
pub calls-before : (p q : ℕ) (ls : List Label) → CallsBelow p ls → calls_in (shifted p q) ls ≡ calls_in q ls
calls-before p q ls c = ap (calls_in (shifted p q)) (sym (shifted-same p ls c)) ∙ calls-shifted p q ls

-- all bodies
total-put : (w : Label → ℕ) (G : List Rule) (i : ℕ) (R : Rule) → total w (insert G i R) ≡ total w G + weigh w R.body
total-put w G zero R = omega arith
total-put w [] (suc i) R = omega arith
total-put w (S ∷ G) (suc i) R = omega (arith, total-put w G i R)

total-shifted : (p : ℕ) (w v : Label → ℕ) → ((ls : List Label) → weigh w (map (shifted_label p) ls) ≡ weigh v ls) → (G : List Rule) → total w (map (shifted_rule p) G) ≡ total v G
total-shifted p w v h [] = refl
total-shifted p w v h (R ∷ G) = omega (arith, h R.body, total-shifted p w v h G)

total-none : (p : ℕ) (w : Label → ℕ) → ((ls : List Label) → weigh w (map (shifted_label p) ls) ≡ 0) → (G : List Rule) → total w (map (shifted_rule p) G) ≡ 0
total-none p w h [] = refl
total-none p w h (R ∷ G) = omega (arith, h R.body, total-none p w h G)

rules-shifted : (p : ℕ) (G : List KeyedRule) → rules_of (map (shifted_keyed p) G) ≡ map (shifted_rule p) (rules_of G)
rules-shifted p [] = refl
rules-shifted p (R ∷ G) =
    ap (λ ls. record { rank = R.rank; body = ls } ∷ rules_of (map (shifted_keyed p) G)) (labels-shifted p R.nodes)
    ∙ ap (λ (Q : List Rule). record { rank = R.rank; body = map (shifted_label p) (labels_of R.nodes) } ∷ Q) (rules-shifted p G)

rules-insert : (G : List KeyedRule) (i : ℕ) (R : KeyedRule) → rules_of (insert G i R) ≡ insert (rules_of G) i (plain R)
rules-insert G zero R = refl
rules-insert [] (suc i) R = refl
rules-insert (S ∷ G) (suc i) R = ap (λ (Q : List Rule). plain S ∷ Q) (rules-insert G i R)

pub rules-put : (G : List KeyedRule) (p : ℕ) (R : KeyedRule) → rules_of (rule_put G p R) ≡ insert (map (shifted_rule p) (rules_of G)) p (plain R)
rules-put G p R = rules-insert (map (shifted_keyed p) G) p R ∙ ap (λ (Q : List Rule). insert Q p (plain R)) (rules-shifted p G)

-- the rules before the new one are the same
added-is : (G : List Rule) (i p : ℕ) (R : Rule) → i ≤ length G → ((r : ℕ) → r < i → CallsBelow p (body_at G r)) → insert (map (shifted_rule p) G) i R ≡ take i G ++ R ∷ map (shifted_rule p) (drop i G)
added-is G zero p R h c = refl
added-is [] (suc i) p R h c = absurd (omega arith)
added-is (S ∷ G) (suc i) p R h c =
    ap (λ ls. record { rank = S.rank; body = ls } ∷ insert (map (shifted_rule p) G) i R) (shifted-same p S.body (c 0 (omega arith)))
    ∙ ap (λ (Q : List Rule). S ∷ Q) (added-is G i p R (omega arith) (λ r l. c (suc r) (omega arith)))

agree-shifted : (ranks ranks' : List ℕ) (p : ℕ) → ((q : ℕ) → get_or ranks' (shifted p q) 0 ≡ get_or ranks q 0) → (ns : List Node) → Agree ranks ns → Agree ranks' (map (shifted_node p) ns)
agree-shifted ranks ranks' p e [] a = tt
agree-shifted ranks ranks' p e (n ∷ ns) a = (at n.label a.0, agree-shifted ranks ranks' p e ns a.1)
  where
    at : (l : Label) → n.kids ≡ arity ranks l → n.kids ≡ arity ranks' (shifted_label p l)
    at Bottom k = k
    at (Symbol f) k = k
    at Param k = k
    at (Call x) k = k ∙ sym (e x)

agree-before : (ranks ranks' : List ℕ) (p : ℕ) → ((q : ℕ) → q < p → get_or ranks' q 0 ≡ get_or ranks q 0) → (ns : List Node) → CallsBelow p (labels_of ns) → Agree ranks ns → Agree ranks' ns
agree-before ranks ranks' p e [] c a = tt
agree-before ranks ranks' p e (n ∷ ns) c a = at n.label c a.0 (λ d. agree-before ranks ranks' p e ns d a.1)
  where
    at : (l : Label) → CallsBelow p (l ∷ labels_of ns) → n.kids ≡ arity ranks l → (CallsBelow p (labels_of ns) → Agree ranks' ns) → (n.kids ≡ arity ranks' l) × Agree ranks' ns
    at Bottom d k ih = (k, ih d)
    at (Symbol f) d k ih = (k, ih d)
    at Param d k ih = (k, ih d)
    at (Call x) d k ih = (k ∙ sym (e x d.0), ih d.1)

-- a rule that can stand before the rule at a place
pub record Fits (G : List KeyedRule) (p : ℕ) (R : KeyedRule) : Type 0 where
  pub below : CallsBelow p (labels_of R.nodes)
  pub term : IsTerm (ranks_of (rules_of G)) (labels_of R.nodes)
  pub small : R.rank ≤ 8
  pub linear : params (labels_of R.nodes) ≡ R.rank
  pub agree : Agree (ranks_of (rules_of G)) R.nodes

module _ (G : List KeyedRule) (p : ℕ) (R : KeyedRule) (L : IsLawful G) (h : p < length G) (F : Fits G p R) where
  there : p < length (rules_of G)
  there = omega (arith, h, length-rules_of G)

  pub put-is : rules_of (rule_put G p R) ≡ rule_added (rules_of G) p (plain R)
  put-is = rules-put G p R ∙ added-is (rules_of G) p p (plain R) (omega (arith, there)) (λ r l. CallsBelow-le r p (body_at (rules_of G) r) (omega arith) (L.grammar.each r (omega (arith, there))).earlier)

  abbrev pub more : List ℕ
  more = ranks_of (rule_added (rules_of G) p (plain R))

  pub put-lawful : IsLawful (rule_put G p R)
  put-lawful =
      let ranks : List ℕ = ranks_of (rules_of G) in
      let le : p ≤ length (rules_of G) = omega (arith, there) in
      let node : (r : ℕ) → nodes_at (map (shifted_keyed p) G) r ≡ map (shifted_node p) (nodes_at G r) = λ r. ap (λ (Q : KeyedRule). Q.nodes) (get_or-map (shifted_keyed p) G r (record { rank = 0; nodes = [] })) in
      let all = each-put (Agree more) (map (shifted_keyed p) G) p R
      (λ r. subst (Agree more) (sym (node r)) (agree-shifted ranks more p (ranks-behind (rules_of G) p (plain R) le) (nodes_at G r) (agree-of ranks (nodes_at G r) (L.arities r))))
      (agree-before ranks more p (ranks-before (rules_of G) p (plain R) le) R.nodes F.below F.agree) in
      record {
        grammar = subst IsGrammar (sym put-is) (grammar-added (rules_of G) p (plain R) L.grammar there F.below F.term F.small F.linear);
        arities = λ r. subst (λ rs. HasArities rs (nodes_at (rule_put G p R) r)) (sym (ap ranks_of put-is)) (of-agree more (nodes_at (rule_put G p R) r) (all r));
      }

  pub put-value : value (rules_of (rule_put G p R)) ≡ value (rules_of G)
  put-value = ap value put-is ∙ value-added (rules_of G) p (plain R) L.grammar there

  pub put-values : HasRuleMore p (rules_of G) (rules_of (rule_put G p R))
  put-values = record {
    within = omega (arith, there);
    more = ap length put-is ∙ length-rule_added (rules_of G) p (plain R) (omega (arith, there));
    values = λ r l. ap (λ (Q : List Rule). value_at Q (shifted p r)) put-is ∙ value_at-added (rules_of G) p (plain R) r L.grammar (omega (arith, there)) l;
  }

  pub put-calls : (q : ℕ) → calls_of (rules_of (rule_put G p R)) (shifted p q) ≡ calls_of (rules_of G) q + calls_in q (labels_of R.nodes)
  put-calls q =
      omega (
        arith,
        ap (λ (Q : List Rule). calls_of Q (shifted p q)) (rules-put G p R),
        calls-total (shifted p q) (insert (map (shifted_rule p) (rules_of G)) p (plain R)),
        total-put (call_weight (shifted p q)) (map (shifted_rule p) (rules_of G)) p (plain R),
        total-shifted p (call_weight (shifted p q)) (call_weight q) (λ ls. sym (calls-weigh (shifted p q) (map (shifted_label p) ls)) ∙ calls-shifted p q ls ∙ calls-weigh q ls) (rules_of G),
        calls-total q (rules_of G),
        calls-weigh (shifted p q) (labels_of R.nodes),
        calls-before p q (labels_of R.nodes) F.below,
      )

  pub put-uncalled : calls_of (rules_of (rule_put G p R)) p ≡ 0
  put-uncalled =
      omega (
        arith,
        ap (λ (Q : List Rule). calls_of Q p) (rules-put G p R),
        calls-total p (insert (map (shifted_rule p) (rules_of G)) p (plain R)),
        total-put (call_weight p) (map (shifted_rule p) (rules_of G)) p (plain R),
        total-none p (call_weight p) (λ ls. sym (calls-weigh p (map (shifted_label p) ls)) ∙ calls-new p ls) (rules_of G),
        calls-weigh p (labels_of R.nodes),
        calls-past p p (labels_of R.nodes) F.below (omega arith),
      )

  pub put-size : size (rules_of (rule_put G p R)) ≡ size (rules_of G) + real_nodes (labels_of R.nodes)
  put-size =
      omega (
        arith,
        ap size (rules-put G p R),
        size-total (insert (map (shifted_rule p) (rules_of G)) p (plain R)),
        total-put real_weight (map (shifted_rule p) (rules_of G)) p (plain R),
        total-shifted p real_weight real_weight (λ ls. sym (real-weigh (map (shifted_label p) ls)) ∙ real-shifted p ls ∙ real-weigh ls) (rules_of G),
        size-total (rules_of G),
        real-weigh (labels_of R.nodes),
      )

  pub put-length : length (rule_put G p R) ≡ suc (length G)
  put-length = length-insert (map (shifted_keyed p) G) p R ∙ ap suc (length-map G (shifted_keyed p))
