-- The greatest rank of rules that are made of a document: leaves and pairs have one parameter, and other rules none.
use Rattle.std.specs.Prelude.{◌≡◌, ◌≤◌, ℕ, suc, max, Option, Bool, true, false, List, [], ◌∷◌, ◌++◌, length, map, if◌then◌else◌, refl}
use Rattle.std.proofs.Common.{arith, ap, ◌∙◌, subst, sym}
use Rattle.slt_grammar.specs.Ranks.{greatest_rank}
use Rattle.slt_grammar.specs.declared.rules.Rule.{Rule}
use Rattle.fcns_encoding.specs.Leaves.{leaf_rule, joined_rule, AreLeafRules}
use Rattle.fcns_encoding.specs.Pairs.{pair_rule, paired_rule, with_pairs}
use Rattle.fcns_encoding.specs.Sharing.{is_ruled, rule_of, rules_for, rules_of_cells}
use Rattle.fcns_encoding.specs.declared.pair_rules.Pair.{Pair}
use Rattle.fcns_encoding.specs.declared.subterms.Cell.{Cell}

ranks-append : (G H : List Rule) → greatest_rank (G ++ H) ≡ max (greatest_rank G) (greatest_rank H)
ranks-append [] H = omega arith
ranks-append (R ∷ G) H = omega (arith, ranks-append G H)

ranks-leaves : (symbols : List ℕ) → greatest_rank (map leaf_rule symbols) ≤ 1
ranks-leaves [] = omega arith
ranks-leaves (f ∷ fs) = omega (arith, ranks-leaves fs)

ranks-joined : (places : List (Option ℕ)) (leaves : ℕ) (G : List Rule) → greatest_rank (map (joined_rule places leaves) G) ≡ greatest_rank G
ranks-joined places leaves [] = refl
ranks-joined places leaves (R ∷ G) = omega (arith, ranks-joined places leaves G)

-- with rules for leaves
pub ranks-with_leaves : (counts : List ℕ) (places : List (Option ℕ)) (leaves shared G : List Rule) → AreLeafRules counts places leaves → shared ≡ leaves ++ map (joined_rule places (length leaves)) G
    → greatest_rank shared ≤ max 1 (greatest_rank G)
ranks-with_leaves counts places leaves shared G are same =
    omega (arith, ap greatest_rank same, ranks-append leaves (map (joined_rule places (length leaves)) G), ap greatest_rank are.are, ranks-leaves are.symbols, ranks-joined places (length leaves) G)

ranks-pairs : (pairs : List Pair) → greatest_rank (map pair_rule pairs) ≤ 1
ranks-pairs [] = omega arith
ranks-pairs (p ∷ ps) = omega (arith, ranks-pairs ps)

-- with rules for pairs
pub ranks-with_pairs : (pairs : List Pair) (before shared G : List Rule) (start : Rule) → G ≡ before ++ start ∷ [] → shared ≡ with_pairs pairs before start → greatest_rank shared ≤ max 1 (greatest_rank G)
ranks-with_pairs pairs before shared G start whole same =
    omega (
      arith,
      ap greatest_rank whole,
      ap greatest_rank same,
      ranks-append before (start ∷ []),
      ranks-append (before ++ map pair_rule pairs) (paired_rule pairs (length before) start ∷ []),
      ranks-append before (map pair_rule pairs),
      ranks-pairs pairs,
    )

ranks-with_one : (b : Bool) (R : Rule) (G : List Rule) → R.rank ≡ 0 → greatest_rank G ≡ 0 → greatest_rank ((if b then R ∷ [] else []) ++ G) ≡ 0
ranks-with_one true R G none rest = omega (arith, none, rest)
ranks-with_one false R G none rest = rest

ranks-for : (marks : List Bool) (all : List Cell) (number : ℕ) (cells : List Cell) → greatest_rank (rules_for marks all number cells) ≡ 0
ranks-for marks all number [] = refl
ranks-for marks all number (c ∷ cs) =
    ranks-with_one (is_ruled marks all number) (rule_of marks all c) (rules_for marks all (suc number) cs) refl (ranks-for marks all (suc number) cs)

-- the rules of subterms
pub ranks-cells : (marks : List Bool) (cells : List Cell) → greatest_rank (rules_of_cells marks cells) ≡ 0
ranks-cells marks cells = ranks-for marks cells 1 cells
