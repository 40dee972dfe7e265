-- Rules that are kept, once a term of the start became a rule of its own.
use Rattle.std.proofs.Common.{◌≡◌, ℕ, zero, suc, ◌+◌, ◌-◌, ◌<◌, ◌≤◌, List, [], ◌∷◌, length, get_or, set, map, Option, Some, IsSome, refl, sym, ap, ◌∙◌, subst, arith, insert}
use Rattle.std.proofs.lemmas.List.{length-map, length-set}
use Rattle.rule_arena.specs.Preorder.{subterm, with_subterm}
use Rattle.rule_arena.specs.Terms.{Node, Terms, Apart, term_at, or_nothing, kids_of}
use Rattle.rule_arena.specs.declared.key.Key.{Key}
use Rattle.rule_arena.specs.declared.label.Label.TheVariants.{Call}
use Rattle.slt_grammar.specs.Bodies.{CallsBelow}
use Rattle.slt_grammar.specs.Grammars.{value, size}
use Rattle.slt_grammar.specs.Holding.{seen, terms_of, AllKnown, AreHeld, IsKept, IsLawful, AreCounted, AreRules, Changed}
use Rattle.slt_grammar.specs.Keyed.{KeyedRule, key_at, nodes_at, rules_of, labels_of}
use Rattle.slt_grammar.specs.KeyedEdits.{with_nodes, shifted_keyed, rule_put, rule_shared}
use Rattle.slt_grammar.specs.Ordering.{Fresh}
use Rattle.slt_grammar.specs.Placing.{placed, AreKnown, shifted_node}
use Rattle.slt_grammar.specs.RuleValues.{HasRuleMore}
use Rattle.slt_grammar.proofs.Additions.{nodes-same, length-insert}
use Rattle.slt_grammar.proofs.Changes.{seen-set, known-set}
use Rattle.slt_grammar.proofs.Held.{nodes-are, many-rules}
use Rattle.slt_grammar.proofs.KeptLemmas.{lawful, counted, known-body, body-below}
use Rattle.slt_grammar.proofs.Placed.{known-with, known-subterm, with-placed, subterm-placed}
use Rattle.slt_grammar.proofs.Placings.{placed-inserted}
use Rattle.slt_grammar.proofs.Puts.{held-put, terms-put, seen-put, known-put, all-put, place-put}
use Rattle.slt_grammar.proofs.SharedRules.{new-rule, left, shared, shared-is, shared-lawful, shared-counted, shared-value, shared-values, shared-size}

-- a rule that is put in before one that is changed
insert-set : (bs : List (List Node)) (r : ℕ) (x b : List Node) → r < length bs → insert (set bs r x) r b ≡ set (insert bs r b) (r + 1) x
insert-set [] r x b l = absurd (omega arith)
insert-set (c ∷ bs) zero x b l = refl
insert-set (c ∷ bs) (suc r) x b l = let e : suc r + 1 ≡ suc (r + 1) = omega arith in rw e (ap (λ (xs : List (List Node)). c ∷ xs) (insert-set bs r x b (omega arith)))

module _ (a : Terms) (roots : List Key) (ranks calls order : List ℕ) (nodes : ℕ) (G : List KeyedRule) (K : IsKept a roots ranks calls order nodes) (see : seen order ranks (terms_of a roots) ≡ G)
    (r p : ℕ) (at : Key) (start : r + 1 ≡ length G) (there : key_at G r p ≡ Some at) where
  abbrev pub raw : List Node
  raw = get_or (terms_of a roots) r []

  abbrev pub L : IsLawful G
  L = lawful a roots ranks calls order nodes G K see

  in-list : r < length G
  in-list = omega arith

  pub within : r + 1 ≡ length roots
  within = omega (arith, start, many-rules a roots ranks order G K.rules see)

  nodes_r : nodes_at G r ≡ placed order raw
  nodes_r = nodes-are a roots ranks order G K.rules see r

  known : AreKnown order raw
  known = known-body a roots ranks calls order nodes G K see r

  below : CallsBelow r (labels_of (nodes_at G r))
  below = body-below a roots ranks calls order nodes G K see r in-list

  module _ (b c : Terms) (ss roots' : List Key) (ranks' calls' order' : List ℕ) (id : ℕ) (call : Key) (fresh : Fresh id order) (same : terms_of b roots ≡ terms_of a roots)
      (C : Changed b c roots ss r (with_subterm kids_of raw p (record { key = call; label = Call id; kids = 0 } ∷ []))) (out : term_at c at.number ≡ Some (subterm kids_of raw p)) (apart : Apart ss at.number)
      (er : roots' ≡ insert ss r at) (ek : ranks' ≡ insert ranks r 0) (ec : calls' ≡ insert calls r 1) (eo : order' ≡ insert order r id) where
    abbrev pub leaf : Node
    leaf = record { key = call; label = Call id; kids = 0 }

    abbrev pub raw-left : List Node
    raw-left = with_subterm kids_of raw p (leaf ∷ [])

    abbrev pub raw-sub : List Node
    raw-sub = subterm kids_of raw p

    abbrev pub bodies : List (List Node)
    bodies = terms_of a roots

    bodies-many : length bodies ≡ length roots
    bodies-many = length-map roots (λ (k : Key). or_nothing (term_at a k.number))

    in-order : r ≤ length order
    in-order = omega (arith, within, K.rules.ordered)

    many-ss : length ss ≡ length roots
    many-ss =
        sym (length-map ss (λ (k : Key). or_nothing (term_at c k.number))) ∙ ap length C.bodies ∙ length-set (terms_of b roots) r raw-left ∙ ap length same
        ∙ bodies-many

    terms-are : terms_of c roots' ≡ set (insert bodies r raw-sub) (r + 1) raw-left
    terms-are =
        ap (terms_of c) er ∙ terms-put c ss r at ∙ ap (λ (t : Option (List Node)). insert (terms_of c ss) r (or_nothing t)) out
        ∙ ap (λ (bs : List (List Node)). insert bs r raw-sub) (C.bodies ∙ ap (λ (bs : List (List Node)). set bs r raw-left) same)
        ∙ insert-set bodies r raw-left raw-sub (omega (arith, bodies-many, within))

    raw-is : placed (insert order r id) raw ≡ nodes_at G r
    raw-is = placed-inserted order r id in-order fresh raw known ∙ ap (map (shifted_node r)) (sym nodes_r) ∙ nodes-same r (nodes_at G r) below

    sub-is : placed (insert order r id) raw-sub ≡ subterm kids_of (nodes_at G r) p
    sub-is = subterm-placed (insert order r id) raw p ∙ ap (λ (ns : List Node). subterm kids_of ns p) raw-is

    left-is : placed (insert order r id) raw-left ≡ left G r p at call L start there
    left-is =
        with-placed (insert order r id) raw p (leaf ∷ []) ∙ ap (λ (ns : List Node). with_subterm kids_of ns p (placed (insert order r id) (leaf ∷ []))) raw-is
        ∙ ap (λ (q : ℕ). with_subterm kids_of (nodes_at G r) p (record { key = call; label = Call q; kids = 0 } ∷ [])) (place-put order r id in-order fresh).1

    seen-is : seen order' ranks' (terms_of c roots') ≡ shared G r p at call L start there
    seen-is =
        let o : List ℕ = insert order r id in
        let n : length (insert ranks r 0) ≡ length (insert bodies r raw-sub) = omega (arith, length-insert ranks r 0, length-insert bodies r raw-sub, bodies-many, K.rules.ranked) in
        ap (λ (x : List ℕ). seen x ranks' (terms_of c roots')) eo ∙ ap (λ (x : List ℕ). seen o x (terms_of c roots')) ek
        ∙ ap (λ (bs : List (List Node)). seen o (insert ranks r 0) bs) terms-are
        ∙ seen-set o (insert ranks r 0) (insert bodies r raw-sub) (r + 1) raw-left n (omega (arith, length-insert bodies r raw-sub, bodies-many, within))
        ∙ ap (λ (H : List KeyedRule). with_nodes H (r + 1) (placed o raw-left))
        (seen-put order ranks bodies r id 0 raw-sub (K.rules.ranked ∙ sym bodies-many) in-order fresh K.rules.known r (omega (arith, bodies-many, within))
        ∙ ap (λ (H : List KeyedRule). insert (map (shifted_keyed r) H) r (record { rank = 0; nodes = placed o raw-sub })) see
        ∙ ap (λ (ns : List Node). rule_put G r (record { rank = 0; nodes = ns })) sub-is)
        ∙ ap (λ (ns : List Node). with_nodes (rule_put G r (new-rule G r p at call L start there)) (r + 1) ns) left-is

    pub seen-shared : seen order' ranks' (terms_of c roots') ≡ rule_shared G r p call
    seen-shared = seen-is ∙ shared-is G r p at call L start there

    rules-shared : AreRules c roots' ranks' order'
    rules-shared =
        let o : List ℕ = insert order r id in
        let k : AllKnown o (set (insert bodies r raw-sub) (r + 1) raw-left) =
        known-set o (insert bodies r raw-sub) (r + 1) raw-left
        (all-put order r id bodies raw-sub K.rules.known (known-put order r id raw-sub (known-subterm order raw p known)) r)
        (known-with o raw p (leaf ∷ []) (known-put order r id raw known) ((place-put order r id in-order fresh).0, tt)) in
        record {
          held = subst (AreHeld c) (sym er) (held-put c ss r at C.held (omega (arith, many-ss, within)) (subst (λ (t : Option (List Node)). IsSome t) (sym out) refl) apart);
          ranked = omega (arith, ap length ek, ap length er, length-insert ranks r 0, length-insert ss r at, many-ss, K.rules.ranked);
          ordered = omega (arith, ap length eo, ap length er, length-insert order r id, length-insert ss r at, many-ss, K.rules.ordered);
          known = subst (λ (x : List ℕ). AllKnown x (terms_of c roots')) (sym eo) (subst (AllKnown o) (sym terms-are) k);
        }

    pub kept-shared : IsKept c roots' ranks' calls' order' (nodes + 1)
    kept-shared = record {
      rules = rules-shared;
      lawful = subst IsLawful (sym seen-is) (shared-lawful G r p at call L start there);
      counted = subst (λ (F : List KeyedRule). AreCounted F calls' (nodes + 1)) (sym seen-is)
          (subst (λ (cs : List ℕ). AreCounted (shared G r p at call L start there) cs (nodes + 1)) (sym ec) (shared-counted G r p at call L start there calls nodes (counted a roots ranks calls order nodes G K see)));
    }

    pub value-shared : value (rules_of (seen order' ranks' (terms_of c roots'))) ≡ value (rules_of G)
    value-shared = ap (λ (F : List KeyedRule). value (rules_of F)) seen-is ∙ shared-value G r p at call L start there

    pub values-shared : HasRuleMore (length G - 1) (rules_of G) (rules_of (seen order' ranks' (terms_of c roots')))
    values-shared =
        let last : r ≡ length G - 1 = omega (arith, start) in
        subst (λ (n : ℕ). HasRuleMore n (rules_of G) (rules_of (seen order' ranks' (terms_of c roots')))) last
        (subst (λ (F : List KeyedRule). HasRuleMore r (rules_of G) (rules_of F)) (sym seen-is) (shared-values G r p at call L start there))

    pub size-shared : size (rules_of (seen order' ranks' (terms_of c roots'))) ≡ size (rules_of G) + 1
    size-shared = ap (λ (F : List KeyedRule). size (rules_of F)) seen-is ∙ shared-size G r p at call L start there
