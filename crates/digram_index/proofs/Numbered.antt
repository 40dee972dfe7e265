-- Rules that keep their numbers and values through changes of a grammar and its index.
use Rattle.std.proofs.Common.{◌≡◌, ◌+◌, ◌<◌, ◌≤◌, ◌⊎◌, inl, inr, ℕ, zero, suc, List, length, get_or, refl, ap, sym, ◌∙◌, arith}
use Rattle.rule_arena.specs.Terms.{Node}
use Rattle.rule_arena.specs.declared.key.Key.{Key}
use Rattle.slt_grammar.specs.Editing.{shifted}
use Rattle.slt_grammar.specs.Grammars.{value_at}
use Rattle.slt_grammar.specs.Keyed.{KeyedRule, rules_of}
use Rattle.slt_grammar.specs.KeyedEdits.{Stands, with_nodes}
use Rattle.slt_grammar.specs.RuleValues.{HasRuleMore}
use Rattle.slt_grammar.proofs.KeyedEdits.{length-with_nodes}
use Rattle.slt_grammar.proofs.KeyedLemmas.{key_at-within, length-rules_of}
use Rattle.digram_index.specs.Linked.{Linked, number_at}
use Rattle.digram_index.specs.Marking.{HasNumberLess, HasNumberMore, HasStayed, KeepsRules, MarksFewer}
use Rattle.digram_index.specs.Numbers.{AreBelow, AreDistinct, place_of}
use Rattle.digram_index.proofs.MovedRules.{place_cases}

pub fewer-same : (I : Linked) → MarksFewer I I
fewer-same I = record { fewer = λ k m. m; numbers = refl; given = omega arith }

pub fewer-both : (I J K : Linked) → MarksFewer I J → MarksFewer J K → MarksFewer I K
fewer-both I J K a b = record { fewer = λ k m. a.fewer k (b.fewer k m); numbers = b.numbers ∙ a.numbers; given = omega (arith, a.given, b.given) }

number-same : (I J : Linked) → MarksFewer I J → (r : ℕ) → number_at J r ≡ number_at I r
number-same I J a r = ap (λ (ns : List ℕ). get_or ns r 0) a.numbers

-- a rule that goes once the index alone changed
pub less-behind : (place : ℕ) (I J K : Linked) → MarksFewer I J → HasNumberLess place J K → HasNumberLess place I K
less-behind place I J K a b = record { numbers = λ r. b.numbers r ∙ number-same I J a (shifted place r); given = omega (arith, a.given, b.given) }

-- one body changes
pub same-many : (G H : List KeyedRule) (key : Key) (S : Stands G key) (ns : List Node) → H ≡ with_nodes G S.rule ns → length H ≡ length G
same-many G H key S ns e = ap length e ∙ length-with_nodes G S.rule ns (key_at-within G S.rule S.place key S.there).0

-- bodies change, and no value
pub rules-valued : (G H : List KeyedRule) (I J : Linked) → MarksFewer I J → length H ≡ length G → ((r : ℕ) → value_at (rules_of H) r ≡ value_at (rules_of G) r) → KeepsRules G I H J
rules-valued G H I J a many values = record {
  each = λ r l. inl (record { before = r; there = omega (arith, l, many); number = number-same I J a r; value = values r });
  given = a.given;
}

pub rules-still : (G : List KeyedRule) (I J : Linked) → MarksFewer I J → KeepsRules G I G J
rules-still G I J a = rules-valued G G I J a refl (λ r. refl)

-- one change after another
pub rules-then : (G H K : List KeyedRule) (I J L : Linked) → KeepsRules G I H J → KeepsRules H J K L → KeepsRules G I K L
rules-then G H K I J L a b = record { each = λ r l. second r (b.each r l); given = omega (arith, a.given, b.given) }
  where
    first : (r : ℕ) (s : HasStayed H J K L r) → HasStayed G I H J s.before ⊎ (I.given ≤ number_at J s.before) → HasStayed G I K L r ⊎ (I.given ≤ number_at L r)
    first r s (inl t) = inl (record { before = t.before; there = t.there; number = s.number ∙ t.number; value = s.value ∙ t.value })
    first r s (inr n) = inr (omega (arith, n, s.number))

    second : (r : ℕ) → HasStayed H J K L r ⊎ (J.given ≤ number_at L r) → HasStayed G I K L r ⊎ (I.given ≤ number_at L r)
    second r (inl s) = first r s (a.each s.before s.there)
    second r (inr n) = inr (omega (arith, n, a.given))

shifted-next : (place r n : ℕ) → place ≤ n → shifted place r < n + 1 → r < n
shifted-next zero r n a b = omega (arith, b)
shifted-next (suc place) zero n a b = omega (arith, a)
shifted-next (suc place) (suc r) zero a b = absurd (omega (arith, a))
shifted-next (suc place) (suc r) (suc n) a b = omega (arith, shifted-next place r n (omega (arith, a)) (omega (arith, b)))

shifted-few : (place r : ℕ) → shifted place r ≤ r + 1
shifted-few zero r = omega arith
shifted-few (suc place) zero = omega arith
shifted-few (suc place) (suc r) = omega (arith, shifted-few place r)

-- a rule came
pub rules-more : (place : ℕ) (G H : List KeyedRule) (I J : Linked) → HasRuleMore place (rules_of G) (rules_of H) → HasNumberMore place I J → KeepsRules G I H J
rules-more place G H I J V N = record { each = λ r l. at r l (place_cases place r); given = N.given }
  where
    at : (r : ℕ) → r < length H → (r ≡ place) ⊎ ((s : ℕ) × (r ≡ shifted place s)) → HasStayed G I H J r ⊎ (I.given ≤ number_at J r)
    at r l (inl e) = inr (omega (arith, N.fresh, ap (number_at J) e))
    at r l (inr (s, e)) =
        let within : s < length (rules_of G) = shifted-next place s (length (rules_of G)) V.within (omega (arith, l, e, V.more, length-rules_of H)) in
        inl (record {
          before = s;
          there = omega (arith, within, length-rules_of G);
          number = ap (number_at J) e ∙ N.numbers s;
          value = ap (value_at (rules_of H)) e ∙ V.values s within;
        })

-- a rule went
pub rules-less : (place : ℕ) (G H : List KeyedRule) (I J : Linked) → HasRuleMore place (rules_of H) (rules_of G) → HasNumberLess place I J → KeepsRules G I H J
rules-less place G H I J V N = record {
  each = λ r l. inl (record {
    before = shifted place r;
    there = omega (arith, l, shifted-few place r, V.more, length-rules_of G, length-rules_of H);
    number = N.numbers r;
    value = sym (V.values r (omega (arith, l, length-rules_of H)));
  });
  given = N.given;
}

-- where no two rules had one number, rules with the same number before and behind have the same value
pub same-values : (G : List KeyedRule) (I : Linked) (H : List KeyedRule) (J : Linked) → KeepsRules G I H J → length I.numbers ≡ length G → AreDistinct I.numbers → AreBelow I.numbers I.given
    → (q r : ℕ) → q < length H → r < length G → number_at J q ≡ number_at I r → value_at (rules_of H) q ≡ value_at (rules_of G) r
same-values G I H J K many distinct below q r hq hr e = at (K.each q hq)
  where
    at : HasStayed G I H J q ⊎ (I.given ≤ number_at J q) → value_at (rules_of H) q ≡ value_at (rules_of G) r
    at (inl s) =
        let one : s.before ≡ r =
        sym (distinct s.before (omega (arith, s.there, many))) ∙ ap (place_of I.numbers) (sym s.number ∙ e) ∙ distinct r (omega (arith, hr, many)) in
        s.value ∙ ap (value_at (rules_of G)) one
    at (inr n) = absurd (omega (arith, n, e, below r (omega (arith, hr, many))))
