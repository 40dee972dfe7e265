-- The greatest rank of rules that change.
use Rattle.std.proofs.Common.{◌≡◌, ◌≤◌, ◌∙◌, ℕ, zero, suc, max, List, [], ◌∷◌, ◌++◌, take, drop, insert, remove, refl, ap, arith}
use Rattle.std.proofs.lemmas.List.{take-append-drop}
use Rattle.slt_grammar.specs.Algebras.{ranks_of}
use Rattle.slt_grammar.specs.Keyed.{KeyedRule, rules_of}
use Rattle.slt_grammar.specs.KeyedEdits.{rule_dropped}
use Rattle.slt_grammar.specs.Ranks.{greatest_rank}
use Rattle.slt_grammar.specs.declared.rules.Rule.{Rule}
use Rattle.slt_grammar.proofs.KeyedRemovals.{rules-dropped}
use Rattle.slt_grammar.proofs.Removals.{ranks-left}

abbrev top : List ℕ → ℕ
top [] = 0
top (n ∷ ns) = max n (top ns)

top-of : (G : List Rule) → greatest_rank G ≡ top (ranks_of G)
top-of [] = refl
top-of (R ∷ G) = ap (max R.rank) (top-of G)

top-append : (xs ys : List ℕ) → top (xs ++ ys) ≡ max (top xs) (top ys)
top-append [] ys = omega arith
top-append (x ∷ xs) ys = omega (arith, top-append xs ys)

top-drop : (i : ℕ) (xs : List ℕ) → top (drop i xs) ≤ top xs
top-drop zero xs = omega arith
top-drop (suc i) [] = omega arith
top-drop (suc i) (x ∷ xs) = omega (arith, top-drop i xs)

-- the same ranks
pub rank-same : (G H : List Rule) → ranks_of H ≡ ranks_of G → greatest_rank H ≡ greatest_rank G
rank-same G H e = omega (arith, top-of G, top-of H, ap top e)

-- one rank more
pub rank-added : (G H : List Rule) (place rank : ℕ) → ranks_of H ≡ insert (ranks_of G) place rank → greatest_rank H ≡ max rank (greatest_rank G)
rank-added G H place rank e =
    let before : List ℕ = take place (ranks_of G) in
    let behind : List ℕ = drop place (ranks_of G) in
    omega (arith, top-of G, top-of H, ap top e, top-append before (rank ∷ behind), top-append before behind, ap top (take-append-drop place (ranks_of G)))

-- a rule less
pub rank-dropped : (G : List KeyedRule) (place : ℕ) → greatest_rank (rules_of (rule_dropped G place)) ≤ greatest_rank (rules_of G)
rank-dropped G place =
    let ranks : List ℕ = ranks_of (rules_of G) in
    let e : ranks_of (rules_of (rule_dropped G place)) ≡ remove ranks place = ap ranks_of (rules-dropped G place) ∙ ranks-left (rules_of G) place in
    omega (
      arith,
      top-of (rules_of G),
      top-of (rules_of (rule_dropped G place)),
      ap top e,
      top-append (take place ranks) (drop (suc place) ranks),
      top-drop (suc place) ranks,
      top-append (take place ranks) (drop place ranks),
      ap top (take-append-drop place ranks),
    )
