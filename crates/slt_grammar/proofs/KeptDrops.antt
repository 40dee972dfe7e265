-- Rules that are kept, once one that is not called was dropped.
use Rattle.std.proofs.Common.{◌≡◌, ◌≢◌, ℕ, ◌+◌, ◌-◌, ◌<◌, ◌≤◌, List, [], length, get_or, remove, Some, slice_get, refl, sym, ap, ◌∙◌, subst, arith}
use Rattle.std.proofs.lemmas.List.{length-map}
use Rattle.std.proofs.lemmas.Option.{slice_get_read}
use Rattle.rule_arena.specs.Terms.{Node, Terms, term_at, or_nothing}
use Rattle.rule_arena.specs.declared.key.Key.{Key}
use Rattle.slt_grammar.specs.Bodies.{calls_in, real_nodes}
use Rattle.slt_grammar.specs.Grammars.{body_at, calls_of, size, value}
use Rattle.slt_grammar.specs.Holding.{seen, terms_of, AllKnown, AreHeld, IsKept, IsLawful, AreCounted, AreRules}
use Rattle.slt_grammar.specs.Keyed.{KeyedRule, nodes_at, rules_of, labels_of}
use Rattle.slt_grammar.specs.KeyedEdits.{rule_dropped}
use Rattle.slt_grammar.specs.Placing.{placed, AreKnown, DoNotCall}
use Rattle.slt_grammar.specs.RuleValues.{HasRuleMore}
use Rattle.slt_grammar.proofs.Held.{nodes-are, many-rules, body-stands}
use Rattle.slt_grammar.proofs.KeyedLemmas.{body_at-rules_of}
use Rattle.slt_grammar.proofs.KeptLemmas.{lawful, counted, known-body, enough, size-enough}
use Rattle.slt_grammar.proofs.Placings.{seen-left, all-left}
use Rattle.slt_grammar.proofs.KeyedRemovals.{never, do-not-call, dropped-lawful, dropped-counted, value-dropped, values-dropped}
use Rattle.slt_grammar.proofs.Removals.{length-left, held-left, terms-left}

module _ (a : Terms) (roots : List Key) (ranks calls order : List ℕ) (nodes : ℕ) (G : List KeyedRule) (K : IsKept a roots ranks calls order nodes) (see : seen order ranks (terms_of a roots) ≡ G)
    (rule : ℕ) (h : rule + 1 < length G) (u : calls_of (rules_of G) rule ≡ 0) where
  pub within : rule < length roots
  within = omega (arith, many-rules a roots ranks order G K.rules see)

  L : IsLawful G
  L = lawful a roots ranks calls order nodes G K see

  abbrev pub raw : List Node
  raw = get_or (terms_of a roots) rule []

  nodes_r : nodes_at G rule ≡ placed order raw
  nodes_r = nodes-are a roots ranks order G K.rules see rule

  pub gone-known : AreKnown order raw
  gone-known = known-body a roots ranks calls order nodes G K see rule

  in-list : rule < length G
  in-list = omega arith

  labels_r : labels_of (placed order raw) ≡ labels_of (nodes_at G rule)
  labels_r = ap labels_of (sym nodes_r)

  pub gone-counted : (q : ℕ) → q < length calls → calls_in q (labels_of (placed order raw)) ≤ get_or calls q 0
  gone-counted q k = omega (arith, ap (calls_in q) labels_r, enough a roots ranks calls order nodes G K see rule (labels_of (nodes_at G rule)) in-list (λ w z. omega arith) q k)

  pub gone-size : real_nodes (labels_of (placed order raw)) ≤ nodes
  gone-size = omega (arith, ap real_nodes labels_r, size-enough a roots ranks calls order nodes G K see rule (labels_of (nodes_at G rule)) in-list (λ w z. omega arith))

  -- the root of the rule
  module _ (root : Key) (read : root ≡ get_or roots rule root) where
    pub root-there : slice_get roots rule ≡ Some root
    root-there = slice_get_read roots (length roots) rule root refl within read

    pub root-stands : term_at a root.number ≡ Some raw
    root-stands = body-stands a roots ranks order G K.rules see rule root root-there

    module _ (b : Terms) (roots' : List Key) (ranks' mid calls' order' : List ℕ) (left : ℕ) (others : (s : ℕ) → s ≢ root.number → term_at b s ≡ term_at a s)
        (er : roots' ≡ remove roots rule) (ek : ranks' ≡ remove ranks rule) (ec : calls' ≡ remove mid rule) (eo : order' ≡ remove order rule) where
      bodies-many : length (terms_of a roots) ≡ length roots
      bodies-many = length-map roots (λ (k : Key). or_nothing (term_at a k.number))

      uncalled : (r : ℕ) → DoNotCall rule (nodes_at (seen order ranks (terms_of a roots)) r)
      uncalled r = subst (λ (F : List KeyedRule). DoNotCall rule (nodes_at F r)) (sym see) (do-not-call rule (nodes_at G r) (never G rule L h u r))

      terms-are : terms_of b roots' ≡ remove (terms_of a roots) rule
      terms-are = ap (terms_of b) er ∙ terms-left a b roots rule root K.rules.held root-there others

      pub seen-dropped : seen order' ranks' (terms_of b roots') ≡ rule_dropped G rule
      seen-dropped =
          ap (λ (o : List ℕ). seen o ranks' (terms_of b roots')) eo ∙ ap (λ (rs : List ℕ). seen (remove order rule) rs (terms_of b roots')) ek
          ∙ ap (λ (bs : List (List Node)). seen (remove order rule) (remove ranks rule) bs) terms-are
          ∙ seen-left order ranks (terms_of a roots) rule uncalled rule ∙ ap (λ (F : List KeyedRule). rule_dropped F rule) see

      rules-dropped : AreRules b roots' ranks' order'
      rules-dropped =
          let nr = length-left roots rule within in
          let R = K.rules in
          record {
            held = subst (λ (ks : List Key). AreHeld b ks) (sym er) (held-left a b roots rule root R.held root-there others);
            ranked = omega (arith, ap length ek, ap length er, nr, R.ranked, length-left ranks rule (omega (arith, R.ranked, within)));
            ordered = omega (arith, ap length eo, ap length er, nr, R.ordered, length-left order rule (omega (arith, R.ordered, within)));
            known = subst (λ (o : List ℕ). AllKnown o (terms_of b roots')) (sym eo)
                (subst (λ (bs : List (List Node)). AllKnown (remove order rule) bs) (sym terms-are) (all-left order ranks (terms_of a roots) rule (R.ranked ∙ sym bodies-many) R.known uncalled rule));
          }

      pub kept-dropped : length mid ≡ length calls → ((q : ℕ) → q < length calls → get_or mid q 0 + calls_in q (labels_of (placed order raw)) ≡ get_or calls q 0) → left ≡ real_nodes (labels_of (placed order raw))
          → IsKept b roots' ranks' calls' order' (nodes - left)
      kept-dropped len moved real = record {
        rules = rules-dropped;
        lawful = subst IsLawful (sym seen-dropped) (dropped-lawful G rule L h u);
        counted = subst (λ (F : List KeyedRule). AreCounted F calls' (nodes - left)) (sym seen-dropped) (subst (λ (cs : List ℕ). AreCounted (rule_dropped G rule) cs (nodes - left)) (sym ec)
            (dropped-counted G rule L h u calls mid nodes left (counted a roots ranks calls order nodes G K see) len (λ q k. omega (arith, moved q k, ap (calls_in q) labels_r)) (real ∙ ap real_nodes labels_r)));
      }

      pub size-dropped : length mid ≡ length calls → ((q : ℕ) → q < length calls → get_or mid q 0 + calls_in q (labels_of (placed order raw)) ≡ get_or calls q 0) → left ≡ real_nodes (labels_of (placed order raw))
          → size (rules_of (seen order' ranks' (terms_of b roots'))) + real_nodes (body_at (rules_of G) rule) ≡ size (rules_of G)
      size-dropped len moved real =
          omega (
            arith,
            (kept-dropped len moved real).counted.real,
            (counted a roots ranks calls order nodes G K see).real,
            gone-size,
            real,
            ap real_nodes labels_r,
            ap real_nodes (body_at-rules_of G rule),
          )

      pub value-kept : value (rules_of (seen order' ranks' (terms_of b roots'))) ≡ value (rules_of G)
      value-kept = ap (λ (F : List KeyedRule). value (rules_of F)) seen-dropped ∙ value-dropped G rule L h u

      pub values-kept : HasRuleMore rule (rules_of (seen order' ranks' (terms_of b roots'))) (rules_of G)
      values-kept = subst (λ (F : List KeyedRule). HasRuleMore rule (rules_of F) (rules_of G)) (sym seen-dropped) (values-dropped G rule L h u)
