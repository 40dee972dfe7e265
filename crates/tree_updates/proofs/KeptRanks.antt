-- The greatest rank of rules that an edit changes.
use Rattle.std.proofs.Common.{◌≡◌, ◌⊎◌, inl, inr, ℕ, zero, suc, ◌+◌, ◌-◌, ◌<◌, ◌≤◌, max, List, [], ◌∷◌, ◌++◌, length, take, drop, slice_get, Option, Some, None, refl, ap, sym, ◌∙◌, arith}
use Rattle.std.proofs.lemmas.Bool.{cases_lt}
use Rattle.std.proofs.lemmas.List.{map-append, take-append-drop, take-map}
use Rattle.rule_arena.specs.Preorder.{subterm, with_subterm}
use Rattle.rule_arena.specs.Terms.{Node, kids_of}
use Rattle.rule_arena.specs.declared.key.Key.{Key}
use Rattle.rule_arena.specs.declared.label.Label.{Label}
use Rattle.slt_grammar.specs.Grammars.{IsGrammar, rank_at}
use Rattle.slt_grammar.specs.Keyed.{KeyedRule, labels_of, nodes_at, rules_of}
use Rattle.slt_grammar.specs.KeyedEdits.{rule_shared, with_nodes}
use Rattle.slt_grammar.specs.Names.{Call}
use Rattle.slt_grammar.specs.Ranks.{greatest_rank}
use Rattle.slt_grammar.specs.Wrapping.{IsWrapped}
use Rattle.slt_grammar.specs.declared.rules.Rule.{Rule}
use Rattle.slt_grammar.proofs.KeyedEdits.{rules-with_nodes}
use Rattle.slt_grammar.proofs.KeyedLemmas.{length-rules_of}
use Rattle.path_isolation.specs.Isolations.{DifferInStart}

-- no rank is greater than the greatest
pub rank-within : (G : List Rule) (r : ℕ) → rank_at G r ≤ greatest_rank G
rank-within [] r = omega arith
rank-within (R ∷ G) zero = omega arith
rank-within (R ∷ G) (suc r) = omega (arith, rank-within G r)

-- nor is the greatest above a bound of all
pub rank-most : (G : List Rule) (most : ℕ) → ((r : ℕ) → r < length G → rank_at G r ≤ most) → greatest_rank G ≤ most
rank-most [] most h = omega arith
rank-most (R ∷ G) most h = omega (arith, h 0 (omega arith), rank-most G most (λ r l. h (suc r) (omega (arith, l))))

ranks-append : (G H : List Rule) → greatest_rank (G ++ H) ≡ max (greatest_rank G) (greatest_rank H)
ranks-append [] H = omega arith
ranks-append (R ∷ G) H = omega (arith, ranks-append G H)

ranks-take : (n : ℕ) (G : List Rule) → greatest_rank (take n G) ≤ greatest_rank G
ranks-take n G = omega (arith, ranks-append (take n G) (drop n G), ap greatest_rank (take-append-drop n G))

ranks-drop : (n : ℕ) (G : List Rule) → greatest_rank (drop n G) ≤ greatest_rank G
ranks-drop n G = omega (arith, ranks-append (take n G) (drop n G), ap greatest_rank (take-append-drop n G))

abbrev rank_in : Option KeyedRule → ℕ
rank_in None = 0
rank_in (Some R) = R.rank

rank-told : (G : List KeyedRule) (r : ℕ) → rank_at (rules_of G) r ≡ rank_in (slice_get G r)
rank-told [] r = refl
rank-told (R ∷ G) zero = refl
rank-told (R ∷ G) (suc r) = rank-told G r

-- only the start differs, which has no parameters
pub ranks-in-start : (G H : List KeyedRule) → DifferInStart G H → IsGrammar (rules_of H) → greatest_rank (rules_of H) ≤ greatest_rank (rules_of G)
ranks-in-start G H D g = rank-most (rules_of H) (greatest_rank (rules_of G)) each
  where
    by_place : (r : ℕ) → r < length (rules_of H) → (r + 1 < length G) ⊎ (length G ≤ r + 1) → rank_at (rules_of H) r ≤ greatest_rank (rules_of G)
    by_place r l (inl b) = omega (arith, rank-within (rules_of G) r, rank-told H r, ap rank_in (D.others r b), rank-told G r)
    by_place r l (inr b) =
        let many = D.many in
        let e : r + 1 ≡ length (rules_of H) = omega (arith, l, b, many, length-rules_of H) in
        omega (arith, (g.each r l).shaped.start e)

    each : (r : ℕ) → r < length (rules_of H) → rank_at (rules_of H) r ≤ greatest_rank (rules_of G)
    each r l = by_place r l (cases_lt (r + 1) (length G))

-- a rule has other nodes
pub ranks-with-nodes : (G H : List KeyedRule) (r : ℕ) (ns : List Node) → H ≡ with_nodes G r ns → greatest_rank (rules_of H) ≤ greatest_rank (rules_of G)
ranks-with-nodes G H r ns new =
    let R : Rule = record { rank = rank_at (rules_of G) r; body = labels_of ns } in
    omega (
      arith,
      ap (λ (K : List KeyedRule). greatest_rank (rules_of K)) new,
      ap greatest_rank (rules-with_nodes G r ns),
      ranks-append (take r (rules_of G)) (R ∷ drop (r + 1) (rules_of G)),
      ranks-take r (rules_of G),
      ranks-drop (r + 1) (rules_of G),
      rank-within (rules_of G) r,
    )

-- or a body around one of its nodes
pub ranks-wrapped : (G H : List KeyedRule) (r p : ℕ) (key : Key) (body : List Label) → IsWrapped G H r p key body → greatest_rank (rules_of H) ≤ greatest_rank (rules_of G)
ranks-wrapped G H r p key body W = ranks-with-nodes G H r _ W.rules

-- a term of the start became a rule, which has no parameters either
pub ranks-shared : (G H : List KeyedRule) (start p : ℕ) (key : Key) → H ≡ rule_shared G start p key → greatest_rank (rules_of H) ≤ greatest_rank (rules_of G)
ranks-shared G H start p key new =
    let f : KeyedRule → Rule = λ R. record { rank = R.rank; body = labels_of R.nodes } in
    let call : Node = record { key = key; label = Call start; kids = 0 } in
    let own : KeyedRule = record { rank = 0; nodes = subterm kids_of (nodes_at G start) p } in
    let rest : KeyedRule = record { rank = 0; nodes = with_subterm kids_of (nodes_at G start) p (call ∷ []) } in
    omega (
      arith,
      ap (λ (K : List KeyedRule). greatest_rank (rules_of K)) new,
      ap greatest_rank (map-append f (take start G) (own ∷ rest ∷ [])),
      ranks-append (rules_of (take start G)) (f own ∷ f rest ∷ []),
      ap greatest_rank (take-map f start G),
      ranks-take start (rules_of G),
    )
