-- Rules that are kept, once another was put among them.
use Rattle.std.proofs.Common.{◌≡◌, ◌⊎◌, inl, inr, ℕ, zero, suc, ◌+◌, ◌<◌, ◌≤◌, List, [], ◌∷◌, All, length, get_or, map, Option, IsSome, refl, sym, ap, ◌∙◌, subst, arith, insert}
use Rattle.std.proofs.lemmas.Bool.{cases_order}
use Rattle.std.proofs.lemmas.List.{length-map}
use Rattle.rule_arena.specs.Preorder.{AreTerms}
use Rattle.rule_arena.specs.Terms.{Node, Terms, Apart, term_at, or_nothing, kids_of}
use Rattle.rule_arena.specs.declared.key.Key.{Key}
use Rattle.rule_arena.specs.declared.label.Label.{Label}
use Rattle.rule_arena.specs.declared.label.Label.TheVariants.{Bottom, Symbol, Call, Param}
use Rattle.rule_arena.proofs.PreorderLemmas.{AreTerms-unmap}
use Rattle.slt_grammar.specs.Algebras.{ranks_of}
use Rattle.slt_grammar.specs.Bodies.{arity, params, real_nodes, calls_in, CallsBelow, IsTerm}
use Rattle.slt_grammar.specs.Copying.{IsShape, copied, holes_in}
use Rattle.slt_grammar.specs.Editing.{put, shifted}
use Rattle.slt_grammar.specs.Grammars.{calls_of, size, value}
use Rattle.slt_grammar.specs.Holding.{seen, terms_of, AllKnown, AreHeld, IsKept, IsLawful, AreCounted, AreRules}
use Rattle.slt_grammar.specs.Keyed.{KeyedRule, rules_of, labels_of}
use Rattle.slt_grammar.specs.KeyedEdits.{rule_put, shifted_keyed}
use Rattle.slt_grammar.specs.Ordering.{Fresh}
use Rattle.slt_grammar.specs.Placing.{placed, placed_node, AreKnown, shifted_node}
use Rattle.slt_grammar.specs.RulePuts.{IsLaid, IsLawfulBefore, IsPut, param_of}
use Rattle.slt_grammar.specs.RuleValues.{HasRuleMore}
use Rattle.slt_grammar.specs.Wrapping.{nodes_of}
use Rattle.slt_grammar.proofs.Additions.{Fits, get-new, get-shifted, length-insert, nodes-same, put-lawful, put-value, put-values, put-calls, put-uncalled, put-size, put-length}
use Rattle.slt_grammar.proofs.Agreeing.{Agree, kids-terms}
use Rattle.slt_grammar.proofs.CallCounts.{below-more}
use Rattle.slt_grammar.proofs.CopiesPlaced.{copied-changed, hole-placed, holes-placed, known-copied}
use Rattle.slt_grammar.proofs.Growing.{some_none}
use Rattle.slt_grammar.proofs.Held.{many-rules, many-ranks}
use Rattle.slt_grammar.proofs.InlinedRules.{agree-copied, holes-params, labels-copied}
use Rattle.slt_grammar.proofs.Keeping.{shifted-before, shifted-behind}
use Rattle.slt_grammar.proofs.KeptInlines.{shapes-of}
use Rattle.slt_grammar.proofs.KeptLemmas.{lawful, counted, many-calls}
use Rattle.slt_grammar.proofs.KeptWraps.{agree-nodes_of, labels-nodes_of}
use Rattle.slt_grammar.proofs.Placings.{placed-inserted}
use Rattle.slt_grammar.proofs.Puts.{held-put, terms-put, seen-put, known-put, all-put}
use Rattle.slt_grammar.proofs.Seen.{ranks-seen}
use Rattle.slt_grammar.proofs.Storing.{ranks-small, terms-same}

-- parameters in the places of parameters
put-params : (ls : List Label) (ks : List Key) → length ks ≡ params ls → put ls (map labels_of (map param_of ks)) ≡ ls
put-params [] ks e = refl
put-params (Bottom ∷ ls) ks e = ap (λ ms. Bottom ∷ ms) (put-params ls ks e)
put-params (Symbol f ∷ ls) ks e = ap (λ ms. Symbol f ∷ ms) (put-params ls ks e)
put-params (Call q ∷ ls) ks e = ap (λ ms. Call q ∷ ms) (put-params ls ks e)
put-params (Param ∷ ls) [] e = absurd (omega arith)
put-params (Param ∷ ls) (k ∷ ks) e = ap (λ ms. Param ∷ ms) (put-params ls ks (omega arith))

placed-params : (order : List ℕ) (ks : List Key) → map (λ zs. placed order zs) (map param_of ks) ≡ map param_of ks
placed-params order [] = refl
placed-params order (k ∷ ks) = ap (λ (gs : List (List Node)). param_of k ∷ gs) (placed-params order ks)

known-params : (order : List ℕ) (ks : List Key) (i : ℕ) → AreKnown order (get_or (map param_of ks) i [])
known-params order [] i = tt
known-params order (k ∷ ks) zero = (tt, tt)
known-params order (k ∷ ks) (suc i) = known-params order ks i

agree-params : (ranks : List ℕ) (ks : List Key) (i : ℕ) → Agree ranks (get_or (map param_of ks) i [])
agree-params ranks [] i = tt
agree-params ranks (k ∷ ks) zero = (refl, tt)
agree-params ranks (k ∷ ks) (suc i) = agree-params ranks ks i

module _ (a : Terms) (roots : List Key) (ranks calls order : List ℕ) (nodes : ℕ) (G : List KeyedRule) (K : IsKept a roots ranks calls order nodes) (see : seen order ranks (terms_of a roots) ≡ G)
    (place rank : ℕ) (body : List Label) (h : place < length G) (W : IsLawfulBefore (rules_of G) place rank body) where
  abbrev pub rs : List ℕ
  rs = ranks_of (rules_of G)

  abbrev pub L : IsLawful G
  L = lawful a roots ranks calls order nodes G K see

  pub within : place < length roots
  within = omega (arith, h, many-rules a roots ranks order G K.rules see)

  ranks-are : rs ≡ ranks
  ranks-are = sym (ap (λ (H : List KeyedRule). ranks_of (rules_of H)) see) ∙ ranks-seen order ranks (terms_of a roots) (many-ranks a roots ranks order G K.rules see)

  pub below-order : CallsBelow (length order) body
  below-order = below-more place (length order) body (let w = within in let o = K.rules.ordered in omega (arith, w, o)) W.earlier

  pub below-calls : CallsBelow (length calls) body
  below-calls = below-more place (length calls) body (let w = within in let o = many-calls a roots ranks calls order nodes G K see in omega (arith, w, o)) W.earlier

  module _ (key : Key) (shapes : List Node) (read : placed order shapes ≡ nodes_of ranks key body) (known : AreKnown order shapes) where
    abbrev pub bare : List Node
    bare = nodes_of rs key body

    is-bare : placed order shapes ≡ bare
    is-bare = read ∙ ap (λ (q : List ℕ). nodes_of q key body) (sym ranks-are)

    shapes-agree : Agree rs (placed order shapes)
    shapes-agree = subst (λ (xs : List Node). Agree rs xs) (sym is-bare) (agree-nodes_of rs key body)

    shapes-labels : labels_of (placed order shapes) ≡ body
    shapes-labels = ap labels_of is-bare ∙ labels-nodes_of rs key body

    pub length-shapes : length shapes ≡ length body
    length-shapes = sym (length-map shapes (placed_node order)) ∙ ap length is-bare ∙ length-map body (λ (l : Label). let n : Node = record { key = key; label = l; kids = arity rs l } in n)

    pub shapes-term : AreTerms kids_of 1 shapes
    shapes-term = AreTerms-unmap (placed_node order) kids_of 1 shapes (kids-terms rs 1 (placed order shapes) shapes-agree (subst (IsTerm rs) (sym shapes-labels) W.term))

    pub shapes-shaped : All IsShape shapes
    shapes-shaped = shapes-of rs order shapes (ranks-small (rules_of G) L.grammar) shapes-agree

    pub shapes-linear : holes_in shapes ≡ rank
    shapes-linear = sym (holes-placed order shapes) ∙ holes-params (placed order shapes) ∙ ap params shapes-labels ∙ W.linear

    module _ (b : Terms) (root : Key) (D : IsLaid a b shapes root) where
      abbrev pub raw : List Node
      raw = copied shapes (map param_of D.leaves) D.keys

      abbrev pub made : List Node
      made = copied bare (map param_of D.leaves) D.keys

      abbrev pub new-rule : KeyedRule
      new-rule = record { rank = rank; nodes = made }

      raw-seen : placed order raw ≡ made
      raw-seen =
          copied-changed (placed_node order) (λ n. refl) (λ n. refl) (λ n. hole-placed order n.label) (λ n k. refl) shapes (map param_of D.leaves) D.keys
          ∙ ap (λ (gs : List (List Node)). copied (placed order shapes) gs D.keys) (placed-params order D.leaves)
          ∙ ap (λ (xs : List Node). copied xs (map param_of D.leaves) D.keys) is-bare

      raw-known : AreKnown order raw
      raw-known = known-copied order shapes (map param_of D.leaves) D.keys known (known-params order D.leaves)

      many-leaves : length D.leaves ≡ rank
      many-leaves = D.enough ∙ shapes-linear

      pub made-labels : labels_of made ≡ body
      made-labels =
          labels-copied bare (map param_of D.leaves) D.keys (length-map D.leaves param_of ∙ many-leaves ∙ sym (holes-params bare ∙ ap params (labels-nodes_of rs key body) ∙ W.linear))
          ∙ ap (λ ls. put ls (map labels_of (map param_of D.leaves))) (labels-nodes_of rs key body)
          ∙ put-params body D.leaves (many-leaves ∙ sym W.linear)

      pub fits : Fits G place new-rule
      fits = record {
        below = subst (CallsBelow place) (sym made-labels) W.earlier;
        term = subst (IsTerm rs) (sym made-labels) W.term;
        small = W.small;
        linear = ap params made-labels ∙ W.linear;
        agree = agree-copied rs bare (map param_of D.leaves) D.keys (agree-nodes_of rs key body) (agree-params rs D.leaves);
      }

      pub put-counted : (mid : List ℕ) (more : ℕ) → length mid ≡ length calls → ((q : ℕ) → q < length calls → get_or mid q 0 ≡ get_or calls q 0 + calls_in q body) → more ≡ real_nodes body
          → AreCounted (rule_put G place new-rule) (insert mid place 0) (nodes + more)
      put-counted mid more len moves real =
          let C = counted a roots ranks calls order nodes G K see in
          let n = put-length G place new-rule L h fits in
          record {
            many = omega (arith, n, length-insert mid place 0, len, C.many);
            each = λ q l. by q (omega (arith, n)) (cases_order q place);
            real = omega (arith, C.real, put-size G place new-rule L h fits, real, ap real_nodes made-labels);
          }
        where
          there : place ≤ length mid
          there = let C = counted a roots ranks calls order nodes G K see in omega (arith, len, C.many, h)

          other : (q : ℕ) → q < length G → get_or (insert mid place 0) (shifted place q) 0 ≡ calls_of (rules_of (rule_put G place new-rule)) (shifted place q)
          other q l =
              let C = counted a roots ranks calls order nodes G K see in
              omega (arith, get-shifted mid place q 0 0 there, moves q (omega (arith, C.many)), C.each q l, put-calls G place new-rule L h fits q, ap (calls_in q) made-labels)

          by : (q : ℕ) → q < suc (length G) → (q ≡ place) ⊎ ((q < place) ⊎ (place < q)) → get_or (insert mid place 0) q 0 ≡ calls_of (rules_of (rule_put G place new-rule)) q
          by q l (inl e) =
              subst (λ (j : ℕ). get_or (insert mid place 0) j 0 ≡ calls_of (rules_of (rule_put G place new-rule)) j) (sym e)
              (omega (arith, get-new mid place 0 0 there, put-uncalled G place new-rule L h fits))
          by q l (inr (inl o)) = subst (λ (j : ℕ). get_or (insert mid place 0) j 0 ≡ calls_of (rules_of (rule_put G place new-rule)) j) (shifted-before place q o) (other q (omega (arith, h)))
          by zero l (inr (inr o)) = absurd (omega arith)
          by (suc q) l (inr (inr o)) =
              subst (λ (j : ℕ). get_or (insert mid place 0) j 0 ≡ calls_of (rules_of (rule_put G place new-rule)) j) (shifted-behind place q (omega arith)) (other q (omega arith))

      module _ (id : ℕ) (fresh : Fresh id order) (roots' : List Key) (ranks' mid calls' order' : List ℕ) (more : ℕ)
          (er : roots' ≡ insert roots place root) (ek : ranks' ≡ insert ranks place rank) (ec : calls' ≡ insert mid place 0) (eo : order' ≡ insert order place id) where
        bodies : length (terms_of a roots) ≡ length roots
        bodies = length-map roots (λ (k : Key). or_nothing (term_at a k.number))

        in-order : place ≤ length order
        in-order = omega (arith, within, K.rules.ordered)

        same : terms_of b roots ≡ terms_of a roots
        same = terms-same a b roots (λ i k e. D.keeps k.number (K.rules.held.stands i k e))

        terms-are : terms_of b roots' ≡ insert (terms_of a roots) place raw
        terms-are =
            ap (terms_of b) er ∙ terms-put b roots place root ∙ ap (λ (bs : List (List Node)). insert bs place (or_nothing (term_at b root.number))) same
            ∙ ap (λ (t : Option (List Node)). insert (terms_of a roots) place (or_nothing t)) D.term

        made-seen : placed (insert order place id) raw ≡ made
        made-seen =
            placed-inserted order place id in-order fresh raw raw-known ∙ ap (map (shifted_node place)) raw-seen
            ∙ nodes-same place made fits.below

        seen-is : seen order' ranks' (terms_of b roots') ≡ rule_put G place new-rule
        seen-is =
            let o : List ℕ = insert order place id in
            ap (λ (x : List ℕ). seen x ranks' (terms_of b roots')) eo ∙ ap (λ (x : List ℕ). seen o x (terms_of b roots')) ek
            ∙ ap (λ (bs : List (List Node)). seen o (insert ranks place rank) bs) terms-are
            ∙ seen-put order ranks (terms_of a roots) place id rank raw (K.rules.ranked ∙ sym bodies) in-order fresh K.rules.known place (omega (arith, bodies, within))
            ∙ ap (λ (H : List KeyedRule). insert (map (shifted_keyed place) H) place (record { rank = rank; nodes = placed o raw })) see
            ∙ ap (λ (ns : List Node). rule_put G place (record { rank = rank; nodes = ns })) made-seen

        pub put-is : IsPut G (seen order' ranks' (terms_of b roots')) place rank body
        put-is = record { nodes = made; labels = made-labels; rules = seen-is }

        apart : Apart roots root.number
        apart i k e z = some_none (term_at a k.number) (K.rules.held.stands i k e) (ap (λ (q : ℕ). term_at a q) z ∙ D.new)

        still-held : AreHeld b roots
        still-held = record {
          stands = λ i k e. subst (λ (t : Option (List Node)). IsSome t) (sym (D.keeps k.number (K.rules.held.stands i k e))) (K.rules.held.stands i k e);
          distinct = K.rules.held.distinct;
        }

        rules-put : AreRules b roots' ranks' order'
        rules-put = record {
          held = subst (AreHeld b) (sym er) (held-put b roots place root still-held (omega (arith, within)) (subst (λ (t : Option (List Node)). IsSome t) (sym D.term) refl) apart);
          ranked = omega (arith, ap length ek, ap length er, length-insert ranks place rank, length-insert roots place root, K.rules.ranked);
          ordered = omega (arith, ap length eo, ap length er, length-insert order place id, length-insert roots place root, K.rules.ordered);
          known = subst (λ (x : List ℕ). AllKnown x (terms_of b roots')) (sym eo) (subst (AllKnown (insert order place id)) (sym terms-are) (all-put order place id (terms_of a roots) raw K.rules.known (known-put order place id raw raw-known) place));
        }

        pub kept-put : length mid ≡ length calls → ((q : ℕ) → q < length calls → get_or mid q 0 ≡ get_or calls q 0 + calls_in q body) → more ≡ real_nodes body → IsKept b roots' ranks' calls' order' (nodes + more)
        kept-put len moves real = record {
          rules = rules-put;
          lawful = subst IsLawful (sym seen-is) (put-lawful G place new-rule L h fits);
          counted = subst (λ (F : List KeyedRule). AreCounted F calls' (nodes + more)) (sym seen-is)
              (subst (λ (cs : List ℕ). AreCounted (rule_put G place new-rule) cs (nodes + more)) (sym ec) (put-counted mid more len moves real));
        }

        pub value-put : value (rules_of (seen order' ranks' (terms_of b roots'))) ≡ value (rules_of G)
        value-put = ap (λ (F : List KeyedRule). value (rules_of F)) seen-is ∙ put-value G place new-rule L h fits

        pub values-put : HasRuleMore place (rules_of G) (rules_of (seen order' ranks' (terms_of b roots')))
        values-put = subst (λ (F : List KeyedRule). HasRuleMore place (rules_of G) (rules_of F)) (sym seen-is) (put-values G place new-rule L h fits)

        pub size-put : size (rules_of (seen order' ranks' (terms_of b roots'))) ≡ size (rules_of G) + real_nodes body
        size-put = ap (λ (F : List KeyedRule). size (rules_of F)) seen-is ∙ put-size G place new-rule L h fits ∙ ap (λ (ls : List Label). size (rules_of G) + real_nodes ls) made-labels
