-- The work that is left falls.
use Rattle.std.proofs.Common.{◌≡◌, ℕ, zero, suc, ◌+◌, ◌-◌, ◌*◌, ◌^◌, ◌<◌, ◌≤◌, List, [], ◌∷◌, ◌++◌, length, arith}
use Rattle.std.proofs.lemmas.List.{length-map}
use Rattle.std.proofs.lemmas.List.Sums.{sum_by-cons}
use Rattle.std.proofs.Math.Nat.{one-le-pow, pow-succ', pow-le-pow_right, mul-le-mul_right}
use Rattle.rule_arena.specs.Terms.{Node}
use Rattle.slt_grammar.specs.Grammars.{whole}
use Rattle.slt_grammar.specs.Keyed.{Keyed, KeyedRule, IsKeyed, labels_of, nodes_at, rules_of}
use Rattle.slt_grammar.specs.Segments.{node_tour}
use Rattle.slt_grammar.specs.declared.rules.Rule.{Rule}
use Rattle.slt_grammar.proofs.TourLemmas.{length-node_tour}
use Rattle.preorder_address.specs.declared.descent.RuleStop.{RuleStop}
use Rattle.value_cursor.specs.Stops.{IsAtStop, stops_of}
use Rattle.value_cursor.specs.Work.{width, work_behind, work_in}
use Rattle.value_cursor.proofs.StopSteps.{stops-within}

body-few : (G : List KeyedRule) (r : ℕ) → length (nodes_at G r) ≤ whole (rules_of G)
body-few [] r = omega arith
body-few (R ∷ G) zero =
    omega (arith, sum_by-cons (λ (S : Rule). length S.body) (record { rank = R.rank; body = labels_of R.nodes }) (rules_of G), length-map R.nodes (λ (n : Node). n.label))
body-few (R ∷ G) (suc r) =
    omega (arith, body-few G r, sum_by-cons (λ (S : Rule). length S.body) (record { rank = R.rank; body = labels_of R.nodes }) (rules_of G))

tour-few : (g : Keyed) → IsKeyed g → (r : ℕ) → r < length g.rules → length (node_tour g.rules r) < width g.rules
tour-few g k r h = omega (arith, length-node_tour g k r h, body-few g.rules r)

pub work_behind-snoc : (G : List KeyedRule) (ss : List RuleStop) (s : RuleStop) → work_behind G (ss ++ s ∷ []) ≡ work_behind G ss + work_in G s (length (stops_of G s) - 1)
work_behind-snoc G [] s = omega arith
work_behind-snoc G (t ∷ ss) s = omega (arith, work_behind-snoc G ss s)

-- fewer stops of a rule are less work
pub work-fewer : (G : List KeyedRule) (s : RuleStop) (m n : ℕ) → m < n → work_in G s m < work_in G s n
work-fewer G s m n h =
    let p = one-le-pow s.rule (width G) (omega arith) in
    let q : suc m * width G ^ s.rule ≤ n * width G ^ s.rule = mul-le-mul_right (width G ^ s.rule) h in
    omega (arith, p, q)

-- and all stops of an earlier rule than one
pub work-below : (g : Keyed) → IsKeyed g → (s t : RuleStop) → t.rule < s.rule → t.rule < length g.rules → IsAtStop g.rules t → work_in g.rules t (length (stops_of g.rules t)) < work_in g.rules s 1
work-below g k s t h b a =
    let w = width g.rules in
    let n = length (stops_of g.rules t) in
    let few : n < w = omega (arith, stops-within g k t b a, tour-few g k t.rule b) in
    let p = one-le-pow t.rule w (omega arith) in
    let q : suc n * w ^ t.rule ≤ w * w ^ t.rule = mul-le-mul_right (w ^ t.rule) few in
    let u : w ^ suc t.rule ≤ w ^ s.rule = pow-le-pow_right (omega arith) h in
    omega (arith, p, q, u, pow-succ' w t.rule)
