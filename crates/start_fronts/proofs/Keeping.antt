-- Changes of one rule that keep what stands before its nodes keep what stands before the start's nodes.
use Rattle.std.proofs.Common.{◌≡◌, ◌≢◌, ◌⊎◌, inl, inr, ℕ, ◌-◌, ◌<◌, ◌≤◌, List, [], ◌∷◌, All, length, take, Some, sym, ap, ◌∙◌, subst, arith}
use Rattle.std.proofs.lemmas.Bool.{cases_eq}
use Rattle.rule_arena.specs.Terms.{Node, key_in}
use Rattle.rule_arena.specs.declared.key.Key.{Key}
use Rattle.slt_grammar.specs.Algebras.{ranks_of, all_meanings}
use Rattle.slt_grammar.specs.Holding.{IsLawful}
use Rattle.slt_grammar.specs.Keyed.{Keyed, KeyedRule, IsKeyed, key_at, nodes_at, rules_of}
use Rattle.slt_grammar.specs.KeyedEdits.{with_nodes}
use Rattle.slt_grammar.specs.Terms.{term_algebra}
use Rattle.slt_grammar.proofs.KeyedEdits.{length-with_nodes, nodes-others, ranks-with}
use Rattle.slt_grammar.proofs.KeyedLemmas.{key_at-within}
use Rattle.start_fronts.specs.Before.{KeepsBefore, StandsBehindSame, labels_before}
use Rattle.start_fronts.proofs.Flags.{times, times-once}
use Rattle.start_fronts.proofs.Staying.{Stays, stays-in-front, values-same}

pub lawful : (g : Keyed) → IsKeyed g → IsLawful g.rules
lawful g K = record { grammar = K.grammar; arities = K.arities }

-- a key stands at one place of a rule
abbrev pub Once : List KeyedRule → ℕ → Type 0
Once G r = (key : Key) (i j : ℕ) → key_at G r i ≡ Some key → key_at G r j ≡ Some key → i ≡ j

pub once-in : (g : Keyed) → IsKeyed g → (r : ℕ) → Once g.rules r
once-in g K r key i j a b = (K.once key r i r j a b).1

pub at-most-once : (G : List KeyedRule) (r : ℕ) → Once G r → (key : Key) → times key (nodes_at G r) ≤ 1
at-most-once G r once key = times-once key (nodes_at G r) (once key)

pub not-gone : (gone key : Key) → All (λ k. k ≢ key) (gone ∷ []) → gone ≢ key
not-gone gone key a = a 0 gone (omega arith)

stands-behind : (G H : List KeyedRule) → length H ≡ length G → (p : ℕ) (key : Key) → Stays G H (length G - 1) p key → StandsBehindSame G H p key
stands-behind G H len p key s = record {
  now = s.now;
  there = ap (λ n. key_at H (n - 1) s.now) len ∙ s.there;
  same = ap (λ n. labels_before H (n - 1) s.now) len ∙ s.same;
}

module _ (G : List KeyedRule) (r : ℕ) (ms : List Node) (gone : List Key) (L : IsLawful G) (M : IsLawful (with_nodes G r ms)) (h : r < length G)
    (means : all_meanings term_algebra (rules_of (with_nodes G r ms)) ≡ all_meanings term_algebra (rules_of G)) where
  abbrev H : List KeyedRule
  H = with_nodes G r ms

  len : length H ≡ length G
  len = length-with_nodes G r ms h

  ranks : ranks_of (rules_of H) ≡ ranks_of (rules_of G)
  ranks = ranks-with G r ms L h

  -- another rule is as it was
  stays-elsewhere : (s p : ℕ) (key : Key) → (s ≡ r → ⊥) → key_at G s p ≡ Some key → Stays G H s p key
  stays-elsewhere s p key d there =
      let same : nodes_at H s ≡ nodes_at G s = nodes-others G r s ms h d in
      let within = (key_at-within G s p key there).0 in
      stays-in-front G H L M ranks (values-same (rules_of G) (rules_of H) ranks means) s within (omega (arith, len, within)) p key
      (ap (λ (xs : List Node). key_in xs p) same ∙ there) (ap (take p) same)

  pub keeps-changed : ((p : ℕ) (key : Key) → key_at G r p ≡ Some key → All (λ k. k ≢ key) gone → Stays G H r p key) → KeepsBefore gone G H
  keeps-changed here key place there apart = by (cases_eq (length G - 1) r)
    where
      by : (length G - 1 ≡ r) ⊎ (length G - 1 ≡ r → ⊥) → StandsBehindSame G H place key
      by (inl e) = stands-behind G H len place key (subst (λ (s : ℕ). Stays G H s place key) (sym e) (here place key (ap (λ s. key_at G s place) (sym e) ∙ there) apart))
      by (inr d) = stands-behind G H len place key (stays-elsewhere (length G - 1) place key d there)
