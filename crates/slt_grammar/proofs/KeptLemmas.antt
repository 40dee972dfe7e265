-- What is known of rules that are kept.
use Rattle.std.proofs.Common.{◌≡◌, ℕ, zero, suc, ◌<◌, ◌≤◌, ◌^◌, List, [], ◌∷◌, ◌++◌, length, get_or, take, drop, Some, refl, sym, ap, ◌∙◌, subst, arith}
use Rattle.std.specs.Prelude.{Result, Ok, Err, OnErr}
use Rattle.std.proofs.lemmas.List.{take_at}
use Rattle.std.proofs.lemmas.List.Sums.{sum_by-cons}
use Rattle.rule_arena.specs.Terms.{Terms, IsSound, node_count}
use Rattle.rule_arena.specs.declared.key.Key.{Key}
use Rattle.rule_arena.specs.declared.label.Label.{Label}
use Rattle.rule_arena.specs.declared.label.Label.TheVariants.{Bottom, Symbol, Call, Param}
use Rattle.slt_grammar.specs.Bodies.{calls_in, real_nodes, CallsBelow}
use Rattle.slt_grammar.specs.Grammars.{body_at, calls_of, size, whole}
use Rattle.slt_grammar.specs.Holding.{seen, terms_of, IsKept, IsLawful, AreCounted}
use Rattle.slt_grammar.specs.Keyed.{KeyedRule, key_at, nodes_at, rules_of, labels_of}
use Rattle.slt_grammar.specs.Placing.{AreKnown}
use Rattle.slt_grammar.specs.declared.rules.Rule.{Rule}
use Rattle.slt_grammar.proofs.CallCounts.{calls_in-few, real_nodes-are}
use Rattle.slt_grammar.proofs.Held.{node-is, root-at, many-rules, whole-within}
use Rattle.slt_grammar.proofs.KeyedLemmas.{length-rules_of, body_at-rules_of}
use Rattle.slt_grammar.proofs.Seen.{known-at}
use Rattle.slt_grammar.proofs.Weights.{weigh, call_weight, real_weight, calls-weigh, real-weigh, total, calls-total, size-total}

-- a label of a body
pub below-get : (n : ℕ) (ls : List Label) (p : ℕ) → CallsBelow n ls → CallsBelow n (get_or ls p Bottom ∷ [])
below-get n [] p b = tt
below-get n (Bottom ∷ ls) zero b = tt
below-get n (Symbol f ∷ ls) zero b = tt
below-get n (Call q ∷ ls) zero b = (b.0, tt)
below-get n (Param ∷ ls) zero b = tt
below-get n (Bottom ∷ ls) (suc p) b = below-get n ls p b
below-get n (Symbol f ∷ ls) (suc p) b = below-get n ls p b
below-get n (Call q ∷ ls) (suc p) b = below-get n ls p b.1
below-get n (Param ∷ ls) (suc p) b = below-get n ls p b

pub below-two : (n : ℕ) (l m : Label) → CallsBelow n (l ∷ []) → CallsBelow n (m ∷ []) → CallsBelow n (l ∷ m ∷ [])
below-two n Bottom m a b = b
below-two n (Symbol f) m a b = b
below-two n (Call q) m a b = (a.0, b)
below-two n Param m a b = b

total-part : (w : Label → ℕ) (G : List Rule) (r : ℕ) → r < length G → weigh w (body_at G r) ≤ total w G
total-part w [] r h = absurd (omega arith)
total-part w (R ∷ G) zero h = omega arith
total-part w (R ∷ G) (suc r) h = let ih = total-part w G r (omega arith) in omega arith

calls_of-few : (q : ℕ) (G : List Rule) → calls_of G q ≤ whole G
calls_of-few q [] = omega arith
calls_of-few q (R ∷ G) =
    omega (arith, sum_by-cons (λ (S : Rule). calls_in q S.body) R G, sum_by-cons (λ (S : Rule). length S.body) R G, calls_in-few q R.body, calls_of-few q G)

size_of-few : (G : List Rule) → size G ≤ whole G
size_of-few [] = omega arith
size_of-few (R ∷ G) =
    omega (arith, sum_by-cons (λ (S : Rule). real_nodes S.body) R G, sum_by-cons (λ (S : Rule). length S.body) R G, real_nodes-are R.body, size_of-few G)

module _ (a : Terms) (roots : List Key) (ranks calls order : List ℕ) (nodes : ℕ) (G : List KeyedRule) (K : IsKept a roots ranks calls order nodes) (see : seen order ranks (terms_of a roots) ≡ G) where
  pub lawful : IsLawful G
  lawful = subst IsLawful see K.lawful

  pub counted : AreCounted G calls nodes
  counted = subst (λ (H : List KeyedRule). AreCounted H calls nodes) see K.counted

  pub many-calls : length calls ≡ length roots
  many-calls = counted.many ∙ many-rules a roots ranks order G K.rules see

  pub many-order : length order ≡ length calls
  many-order = K.rules.ordered ∙ sym many-calls

  pub known-body : (r : ℕ) → AreKnown order (get_or (terms_of a roots) r [])
  known-body r = known-at order (terms_of a roots) r K.rules.known

  pub body-below : (r : ℕ) → r < length G → CallsBelow r (labels_of (nodes_at G r))
  body-below r h = subst (λ ls. CallsBelow r ls) (body_at-rules_of G r) (lawful.grammar.each r (omega (arith, length-rules_of G))).earlier

  -- what is part of a rule was counted
  pub enough : (r : ℕ) (gone : List Label) → r < length G → ((w : Label → ℕ) → w Param ≡ 0 → weigh w gone ≤ weigh w (labels_of (nodes_at G r))) → (q : ℕ) → q < length calls → calls_in q gone ≤ get_or calls q 0
  enough r gone h part q k =
      omega (
        arith,
        part (call_weight q) refl,
        calls-weigh q gone,
        ap (weigh (call_weight q)) (body_at-rules_of G r),
        total-part (call_weight q) (rules_of G) r (omega (arith, length-rules_of G)),
        calls-total q (rules_of G),
        counted.each q (omega (arith, counted.many)),
      )

  pub size-enough : (r : ℕ) (gone : List Label) → r < length G → ((w : Label → ℕ) → w Param ≡ 0 → weigh w gone ≤ weigh w (labels_of (nodes_at G r))) → real_nodes gone ≤ nodes
  size-enough r gone h part =
      omega (
        arith,
        part real_weight refl,
        real-weigh gone,
        ap (weigh real_weight) (body_at-rules_of G r),
        total-part real_weight (rules_of G) r (omega (arith, length-rules_of G)),
        size-total (rules_of G),
        counted.real,
      )

  module _ (S : IsSound a) (few : node_count a ≤ 2 ^ 32) where
    pub once : (r i j : ℕ) (k : Key) → key_at G r i ≡ Some k → key_at G r j ≡ Some k → i ≡ j
    once r i j k e f = (S.once k (node-is a roots ranks order G K.rules see r i k e) (node-is a roots ranks order G K.rules see r j k f)).1

    pub calls-few : (q : ℕ) → q < length calls → get_or calls q 0 ≤ 2 ^ 32
    calls-few q h =
        omega (
          arith,
          few,
          counted.each q (omega (arith, counted.many)),
          calls_of-few q (rules_of G),
          whole-within a roots ranks order K.rules,
          ap (λ (H : List KeyedRule). whole (rules_of H)) see,
        )

    pub size-few : nodes ≤ 2 ^ 32
    size-few =
        omega (
          arith,
          few,
          counted.real,
          size_of-few (rules_of G),
          whole-within a roots ranks order K.rules,
          ap (λ (H : List KeyedRule). whole (rules_of H)) see,
        )

    -- a key stands at one place of one rule
    pub once-both : (key : Key) (r i s j : ℕ) → key_at G r i ≡ Some key → key_at G s j ≡ Some key → (r ≡ s) × (i ≡ j)
    once-both key r i s j e f =
        let o = S.once key (node-is a roots ranks order G K.rules see r i key e) (node-is a roots ranks order G K.rules see s j key f) in
        let u = root-at a roots ranks order G K.rules see r i key e in
        let v = root-at a roots ranks order G K.rules see s j key f in
        (K.rules.held.distinct r s u.0 v.0 u.1 v.1 o.0, o.1)

-- a list that was written through a slice of it
pub written-back : {X : Type 0} (n : ℕ) (xs ys : List X) → n ≡ length ys → length xs ≡ length ys → take n (xs ++ drop (length xs) ys) ≡ xs
written-back n xs ys e l = take_at xs (drop (length xs) ys) n (omega (arith, l))

-- what holds holds after an error
pub on-any-error : {T E : Type 0} (P : Type 0) (r : Result T E) → P → OnErr r P
on-any-error P (Ok x) p = tt
on-any-error P (Err e) p = p
