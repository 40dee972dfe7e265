-- What is counted over bodies and rules.
use Rattle.std.proofs.Common.{◌≡◌, ℕ, zero, suc, ◌+◌, ◌-◌, ◌<◌, ◌≤◌, List, [], ◌∷◌, length, get_or, take, drop, refl, sym, ap, ◌∙◌, arith, inl, inr, eq-eqb, subst, length-drop, Bool, true, false, set}
use Rattle.std.specs.Prelude.{if◌then◌else◌, eqb}
use Rattle.std.specs.List.{sum_by}
use Rattle.std.proofs.lemmas.List.Sums.{sum_by-cons, sum_by_push}
use Rattle.std.proofs.lemmas.List.{take_more, drop_more, get_or-set_same, get_or-set_other}
use Rattle.std.proofs.lemmas.Bool.{cases_eq, ne_eqb}
use Rattle.std.proofs.lemmas.Bool.Decides.{nat_tests}
use Rattle.rule_arena.specs.declared.label.Label.{Label}
use Rattle.rule_arena.specs.declared.label.Label.TheVariants.{Bottom, Symbol, Call, Param}
use Rattle.slt_grammar.specs.Bodies.{params, real_nodes, calls_in, CallsBelow}
use Rattle.slt_grammar.specs.Grammars.{no_rule, body_at, calls_of, size, whole}
use Rattle.slt_grammar.specs.declared.rules.Rule.{Rule}

pub real_nodes-are : (ls : List Label) → real_nodes ls + params ls ≡ length ls
real_nodes-are [] = refl
real_nodes-are (Bottom ∷ ls) = omega (arith, real_nodes-are ls)
real_nodes-are (Symbol f ∷ ls) = omega (arith, real_nodes-are ls)
real_nodes-are (Call q ∷ ls) = omega (arith, real_nodes-are ls)
real_nodes-are (Param ∷ ls) = omega (arith, real_nodes-are ls)

-- a sum over one rule more
pub sum-more : (f : Rule → ℕ) (rules : List Rule) (r : ℕ) → r < length rules → sum_by f (take (r + 1) rules) ≡ sum_by f (take r rules) + f (get_or rules r no_rule)
sum-more f rules r h = rw (take_more rules r no_rule h) (sum_by_push f (take r rules) (get_or rules r no_rule))

pub calls_in-few : (q : ℕ) (ls : List Label) → calls_in q ls ≤ length ls
calls_in-few q [] = omega arith
calls_in-few q (Bottom ∷ ls) = omega (arith, calls_in-few q ls)
calls_in-few q (Symbol f ∷ ls) = omega (arith, calls_in-few q ls)
calls_in-few q (Param ∷ ls) = omega (arith, calls_in-few q ls)
calls_in-few q (Call p ∷ ls) = grind (arith, nat_tests, calls_in-few q ls)

-- the calls before a rule, and its nodes, are among all nodes
pub calls-room : (q : ℕ) (rules : List Rule) (r : ℕ) → r < length rules → calls_of (take r rules) q + length (body_at rules r) ≤ whole rules
calls-room q [] r h = absurd (omega arith)
calls-room q (R ∷ Rs) zero h = omega (arith, sum_by-cons (λ (S : Rule). length S.body) R Rs)
calls-room q (R ∷ Rs) (suc r) h =
    omega (
      arith,
      calls-room q Rs r (omega arith),
      calls_in-few q R.body,
      sum_by-cons (λ (S : Rule). length S.body) R Rs,
      sum_by-cons (λ (S : Rule). calls_in q S.body) R (take r Rs),
    )

-- the nodes before a rule, and its labels, are among all labels
pub nodes-room : (rules : List Rule) (r : ℕ) → r < length rules → size (take r rules) + length (body_at rules r) ≤ whole rules
nodes-room [] r h = absurd (omega arith)
nodes-room (R ∷ Rs) zero h = omega (arith, sum_by-cons (λ (S : Rule). length S.body) R Rs)
nodes-room (R ∷ Rs) (suc r) h =
    omega (
      arith,
      nodes-room Rs r (omega arith),
      real_nodes-are R.body,
      sum_by-cons (λ (S : Rule). length S.body) R Rs,
      sum_by-cons (λ (S : Rule). real_nodes S.body) R (take r Rs),
    )

-- one more label
calls-next : (q i : ℕ) (body : List Label) → i < length body → calls_in q (drop i body) ≡ calls_in q (get_or body i Bottom ∷ []) + calls_in q (drop (i + 1) body)
calls-next q i body h = rw (drop_more body i Bottom h) (cons (get_or body i Bottom))
  where
    cons : (l : Label) → calls_in q (l ∷ drop (i + 1) body) ≡ calls_in q (l ∷ []) + calls_in q (drop (i + 1) body)
    cons Bottom = omega arith
    cons (Symbol f) = omega arith
    cons (Call p) = omega arith
    cons Param = omega arith

calls_in-one : (q rule : ℕ) → calls_in q (Call rule ∷ []) ≡ (if eqb rule q then 1 else 0)
calls_in-one q rule = omega arith

one-more : (calls : List ℕ) (rule q : ℕ) → rule < length calls → get_or (set calls rule (get_or calls rule 0 + 1)) q 0 ≡ get_or calls q 0 + (if eqb rule q then 1 else 0)
one-more calls rule q h = elim (cases_eq rule q) [
  | inl e ↦ rw e (get_or-set_same calls q _ 0 (rw e at h) ∙ sym (ap (λ b. get_or calls q 0 + (if b then 1 else 0)) (eq-eqb q q refl)))
  | inr n ↦
      let x : (if eqb rule q then 1 else 0) ≤ 0 = off (eqb rule q) (ne_eqb rule q n) in
      omega (arith, get_or-set_other calls rule q (get_or calls rule 0 + 1) 0 (λ e. n (sym e)))
]
  where
    off : (b : Bool) → b ≡ false → (if b then 1 else 0) ≤ 0
    off true e = absurd (cc)
    off false e = omega arith

pub below-next : (n i : ℕ) (body : List Label) → i < length body → CallsBelow n (drop i body) → CallsBelow n (drop (i + 1) body)
below-next n i body h b = rest (get_or body i Bottom) (rw (drop_more body i Bottom h) at b)
  where
    rest : (l : Label) → CallsBelow n (l ∷ drop (i + 1) body) → CallsBelow n (drop (i + 1) body)
    rest Bottom b = b
    rest (Symbol f) b = b
    rest (Call p) b = b.1
    rest Param b = b

-- a call that is counted
pub counted : (q i rule : ℕ) (body : List Label) (old new : List ℕ) → i < length body → get_or body i Bottom ≡ Call rule → rule < length old → new ≡ set old rule (get_or old rule 0 + 1)
    → (get_or new q 0 + calls_in q (drop (i + 1) body) ≡ get_or old q 0 + calls_in q (drop i body)) × (get_or new q 0 ≤ get_or old q 0 + 1)
counted q i rule body old new h e k n =
    let a : calls_in q (get_or body i Bottom ∷ []) ≡ (if eqb rule q then 1 else 0) = ap (λ l. calls_in q (l ∷ [])) e ∙ calls_in-one q rule in
    let b : get_or new q 0 ≡ get_or old q 0 + (if eqb rule q then 1 else 0) = ap (λ xs. get_or xs q 0) n ∙ one-more old rule q k in
    let c = calls-next q i body h in
    let d = few (eqb rule q) in
    (omega arith, omega arith)
  where
    few : (b : Bool) → (if b then 1 else 0) ≤ 1
    few true = omega arith
    few false = omega arith

-- another label
pub not-counted : (q i : ℕ) (body : List Label) → i < length body → ((rule : ℕ) → get_or body i Bottom ≡ Call rule → ⊥) → calls_in q (drop (i + 1) body) ≡ calls_in q (drop i body)
not-counted q i body h n = omega (arith, calls-next q i body h, none (get_or body i Bottom) n)
  where
    none : (l : Label) → ((rule : ℕ) → l ≡ Call rule → ⊥) → calls_in q (l ∷ []) ≡ 0
    none Bottom n = refl
    none (Symbol f) n = refl
    none (Call p) n = absurd (n p refl)
    none Param n = refl

pub length-next : {X : Type 0} (i : ℕ) (xs : List X) → i < length xs → length (drop i xs) ≡ suc (length (drop (i + 1) xs))
length-next i xs h = omega (arith, length-drop i xs, length-drop (i + 1) xs)

pub below-call : (n i rule : ℕ) (body : List Label) → i < length body → get_or body i Bottom ≡ Call rule → CallsBelow n (drop i body) → rule < n
below-call n i rule body h e b =
    let c : CallsBelow n (get_or body i Bottom ∷ drop (i + 1) body) = rw (drop_more body i Bottom h) at b in
    (subst (λ l. CallsBelow n (l ∷ drop (i + 1) body)) e c).0

pub below-more : (m n : ℕ) (ls : List Label) → m ≤ n → CallsBelow m ls → CallsBelow n ls
below-more m n [] h b = tt
below-more m n (Bottom ∷ ls) h b = below-more m n ls h b
below-more m n (Symbol f ∷ ls) h b = below-more m n ls h b
below-more m n (Call q ∷ ls) h b = (omega (arith, b.0), below-more m n ls h b.1)
below-more m n (Param ∷ ls) h b = below-more m n ls h b

one-less : (calls : List ℕ) (rule q : ℕ) → rule < length calls → 0 < get_or calls rule 0 → get_or (set calls rule (get_or calls rule 0 - 1)) q 0 + (if eqb rule q then 1 else 0) ≡ get_or calls q 0
one-less calls rule q h p =
    let one : ℕ = 1 in
    let none : ℕ = 0 in
    elim (cases_eq rule q) [
      | inl e ↦
          let x : one ≡ (if eqb rule q then 1 else 0) = sym (ap (λ b. if b then 1 else 0) (eq-eqb rule q e)) in
          let y : get_or (set calls rule (get_or calls rule 0 - 1)) q 0 ≡ get_or calls rule 0 - 1 = ap (λ j. get_or (set calls rule (get_or calls rule 0 - 1)) j 0) (sym e) ∙ get_or-set_same calls rule (get_or calls rule 0 - 1) 0 h in
          omega (arith, x, y, p, ap (λ j. get_or calls j 0) e)
      | inr n ↦
          let x : none ≡ (if eqb rule q then 1 else 0) = sym (ap (λ b. if b then 1 else 0) (ne_eqb rule q n)) in
          omega (arith, x, get_or-set_other calls rule q (get_or calls rule 0 - 1) 0 (λ e. n (sym e)))
    ]

-- a call that is taken away
pub uncounted : (q i rule : ℕ) (body : List Label) (old new : List ℕ) → i < length body → get_or body i Bottom ≡ Call rule → rule < length old → 0 < get_or old rule 0 → new ≡ set old rule (get_or old rule 0 - 1)
    → get_or new q 0 + calls_in q (drop i body) ≡ get_or old q 0 + calls_in q (drop (i + 1) body)
uncounted q i rule body old new h e k p n =
    let a : calls_in q (get_or body i Bottom ∷ []) ≡ (if eqb rule q then 1 else 0) = ap (λ l. calls_in q (l ∷ [])) e ∙ calls_in-one q rule in
    omega (arith, a, ap (λ xs. get_or xs q 0) n, one-less old rule q k p, calls-next q i body h)

pub call-here : (i rule : ℕ) (body : List Label) → i < length body → get_or body i Bottom ≡ Call rule → 0 < calls_in rule (drop i body)
call-here i rule body h e =
    let a : calls_in rule (get_or body i Bottom ∷ []) ≡ (if eqb rule rule then 1 else 0) = ap (λ l. calls_in rule (l ∷ [])) e ∙ calls_in-one rule rule in
    let one : ℕ = 1 in
    let x : one ≡ (if eqb rule rule then 1 else 0) = sym (ap (λ b. if b then 1 else 0) (eq-eqb rule rule refl)) in
    omega (arith, a, x, calls-next rule i body h)
