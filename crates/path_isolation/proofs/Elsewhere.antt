-- Rules that differ in the start alone: what is counted of the others, and how much the ways through them want.
use Rattle.std.proofs.Common.{◌≡◌, ℕ, suc, ◌+◌, ◌-◌, ◌<◌, ◌≤◌, List, [], ◌∷◌, length, Some, slice_get, ap, subst, arith}
use Rattle.std.specs.List.{sum_by}
use Rattle.std.proofs.lemmas.List.Sums.{sum_by-cons}
use Rattle.rule_arena.specs.declared.label.Label.{Label}
use Rattle.slt_grammar.specs.Grammars.{body_at, whole}
use Rattle.slt_grammar.specs.Holding.{IsLawful}
use Rattle.slt_grammar.specs.Keyed.{KeyedRule, labels_of, nodes_at, rules_of}
use Rattle.slt_grammar.specs.KeyedEdits.{label_at}
use Rattle.slt_grammar.specs.declared.level.Level.{Level}
use Rattle.slt_grammar.specs.declared.rules.Rule.{Rule}
use Rattle.slt_grammar.proofs.KeyedLemmas.{length-rules_of}
use Rattle.path_isolation.specs.Chains.{IsChain, Leads}
use Rattle.path_isolation.specs.Isolations.{DifferInStart, room_along, start_of}
use Rattle.path_isolation.proofs.ChainLemmas.{weight-all}
use Rattle.path_isolation.proofs.Walks.{length-body}

same-head : (R S : KeyedRule) → Some R ≡ Some S → R ≡ S
same-head R S e = cc

abbrev bodies : (List Label → ℕ) → List Rule → ℕ
bodies w R = sum_by (λ (Q : Rule). w Q.body) R

-- what is counted over all rules differs by what is counted of the starts
others-sum : (w : List Label → ℕ) (G H : List KeyedRule) → length H ≡ length G → ((r : ℕ) → r + 1 < length G → slice_get H r ≡ slice_get G r) → 0 < length G
    → bodies w (rules_of H) + w (body_at (rules_of G) (length G - 1)) ≡ bodies w (rules_of G) + w (body_at (rules_of H) (length G - 1))
others-sum w [] H n o h = absurd (omega arith)
others-sum w (R ∷ G) [] n o h = absurd (omega arith)
others-sum w (R ∷ []) (S ∷ []) n o h =
    let f : Rule → ℕ = λ Q. w Q.body in
    let r : Rule = record { rank = R.rank; body = labels_of R.nodes } in
    let s : Rule = record { rank = S.rank; body = labels_of S.nodes } in
    omega (arith, sum_by-cons f r [], sum_by-cons f s [])
others-sum w (R ∷ []) (S ∷ T ∷ H) n o h = absurd (omega arith)
others-sum w (R ∷ P ∷ G) (S ∷ []) n o h = absurd (omega arith)
others-sum w (R ∷ P ∷ G) (S ∷ T ∷ H) n o h =
    let f : Rule → ℕ = λ Q. w Q.body in
    let r : Rule = record { rank = R.rank; body = labels_of R.nodes } in
    let s : Rule = record { rank = S.rank; body = labels_of S.nodes } in
    let same : S ≡ R = same-head S R (o 0 (omega arith)) in
    let e : length (R ∷ P ∷ G) - 1 ≡ suc (length (P ∷ G) - 1) = omega arith in
    let ih = others-sum w (P ∷ G) (T ∷ H) (omega (arith, n)) (λ k l. o (suc k) (omega (arith, l))) (omega arith) in
    rw e (omega (arith, ih, sum_by-cons f r (rules_of (P ∷ G)), sum_by-cons f s (rules_of (T ∷ H)), ap (λ (Q : KeyedRule). w (labels_of Q.nodes)) same))

pub others-count : (w : List Label → ℕ) (G H : List KeyedRule) → DifferInStart G H → 0 < length G
    → bodies w (rules_of H) + w (body_at (rules_of G) (start_of G)) ≡ bodies w (rules_of G) + w (body_at (rules_of H) (start_of G))
others-count w G H D h = others-sum w G H D.many D.others h

-- a way wants no more than the bodies of the others have
pub room-elsewhere : (G H : List KeyedRule) (levels : List Level) (ps : List ℕ) → DifferInStart G H → IsLawful H → IsChain H levels ps
    → room_along H levels + length (nodes_at G (start_of G)) ≤ whole (rules_of G)
room-elsewhere G H [] ps D L c = absurd c
room-elsewhere G H (l ∷ ls) [] D L c = absurd c
room-elsewhere G H (l ∷ ls) (p ∷ ps) D L c =
    let e : l.rule ≡ start_of H = omega (arith, c.0) in
    let s : start_of H ≡ start_of G = ap (λ (n : ℕ). n - 1) D.many in
    let some = L.grammar.some in
    let many = D.many in
    omega (
      arith,
      weight-all length H p ls ps L.grammar (subst (λ r. Leads H (label_at H r p) ls ps) e c.2),
      others-count length G H D (omega (arith, some, many, length-rules_of H)),
      ap (λ (r : ℕ). length (body_at (rules_of H) r)) s,
      length-body G (start_of G),
    )
