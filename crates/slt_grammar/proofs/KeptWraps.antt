-- Rules that are kept, once a body was put around a node of the start rule.
use Rattle.std.proofs.Common.{◌≡◌, ℕ, zero, suc, ◌+◌, ◌-◌, ◌<◌, ◌≤◌, List, [], ◌∷◌, All, length, get_or, Some, refl, sym, ap, ◌∙◌, subst, arith, append-nil}
use Rattle.std.proofs.lemmas.List.{length-map}
use Rattle.rule_arena.specs.Preorder.{AreTerms, subterm, with_subterm}
use Rattle.rule_arena.specs.Terms.{Node, Terms, At, key_in, kids_of}
use Rattle.rule_arena.specs.declared.key.Key.{Key}
use Rattle.rule_arena.specs.declared.label.Label.{Label}
use Rattle.rule_arena.specs.declared.label.Label.TheVariants.{Param}
use Rattle.rule_arena.proofs.PreorderLemmas.{AreTerms-unmap, subterm-map}
use Rattle.slt_grammar.specs.Algebras.{ranks_of}
use Rattle.slt_grammar.specs.Bodies.{arity, params, real_nodes, calls_in, CallsBelow, IsTerm}
use Rattle.slt_grammar.specs.ChangedValues.{StandsWithin, start_body}
use Rattle.slt_grammar.specs.Copying.{IsShape, copied, holes_in}
use Rattle.slt_grammar.specs.Editing.{put}
use Rattle.slt_grammar.specs.Grammars.{size}
use Rattle.slt_grammar.specs.Holding.{seen, terms_of, IsKept, IsLawful, AreCounted}
use Rattle.slt_grammar.specs.Keyed.{KeyedRule, nodes_at, rules_of, labels_of}
use Rattle.slt_grammar.specs.KeyedEdits.{with_nodes}
use Rattle.slt_grammar.specs.Placing.{placed, placed_node, AreKnown}
use Rattle.slt_grammar.specs.Wrapping.{IsInStart, IsWrapper, IsWrapped, Wrapped, nodes_of, around}
use Rattle.slt_grammar.proofs.Agreeing.{Agree, agree-of, agree-take, agree-drop, kids-terms, labels-with, labels-subterm}
use Rattle.slt_grammar.proofs.CallCounts.{below-more}
use Rattle.slt_grammar.proofs.ChangedValues.{body-is, in-body, last}
use Rattle.slt_grammar.proofs.Changes.{kept-changed, seen-changed}
use Rattle.slt_grammar.proofs.CopiesPlaced.{copied-changed, hole-placed, holes-placed, known-copied, placed-with}
use Rattle.slt_grammar.proofs.Held.{node-is, many-ranks, nodes-are, rule-within}
use Rattle.slt_grammar.proofs.InlinedRules.{agree-copied, holes-params, labels-copied, weigh-put}
use Rattle.slt_grammar.proofs.KeptInlines.{shapes-of}
use Rattle.slt_grammar.proofs.KeptLemmas.{lawful, counted, many-calls, known-body}
use Rattle.slt_grammar.proofs.KeyedEdits.{counted-with, lawful-with_subterm}
use Rattle.slt_grammar.proofs.KeyedLemmas.{key_at-within, length-rules_of}
use Rattle.slt_grammar.proofs.Placed.{known-with, known-subterm}
use Rattle.slt_grammar.proofs.Seen.{key-placed, ranks-seen}
use Rattle.slt_grammar.proofs.Storing.{ranks-small}
use Rattle.slt_grammar.proofs.Weights.{weigh, weigh-with}
use Rattle.slt_grammar.proofs.WrappedValues.{around-below, around-term, around-params, wrapping-changes}

-- a body's nodes under one key
pub agree-nodes_of : (ranks : List ℕ) (key : Key) (ls : List Label) → Agree ranks (nodes_of ranks key ls)
agree-nodes_of ranks key [] = tt
agree-nodes_of ranks key (l ∷ ls) = (refl, agree-nodes_of ranks key ls)

pub labels-nodes_of : (ranks : List ℕ) (key : Key) (ls : List Label) → labels_of (nodes_of ranks key ls) ≡ ls
labels-nodes_of ranks key [] = refl
labels-nodes_of ranks key (l ∷ ls) = ap (λ ms. l ∷ ms) (labels-nodes_of ranks key ls)

pub key-nodes_of : (ranks : List ℕ) (key : Key) (ls : List Label) (q : ℕ) (k : Key) → key_in (nodes_of ranks key ls) q ≡ Some k → k ≡ key
key-nodes_of ranks key [] q k e = absurd (let z : key_in [] q ≡ Some k = e in cc)
key-nodes_of ranks key (l ∷ ls) zero k e = let z : Some key ≡ Some k = e in cc
key-nodes_of ranks key (l ∷ ls) (suc q) k e = key-nodes_of ranks key ls q k e

module _ (a : Terms) (roots : List Key) (ranks calls order : List ℕ) (nodes : ℕ) (G : List KeyedRule) (K : IsKept a roots ranks calls order nodes) (see : seen order ranks (terms_of a roots) ≡ G)
    (at : Key) (T : IsInStart G at) (body : List Label) (W : IsWrapper (rules_of G) body) where
  abbrev pub r : ℕ
  r = T.here.rule

  abbrev pub p : ℕ
  p = T.here.place

  abbrev pub raw : List Node
  raw = get_or (terms_of a roots) r []

  abbrev pub ns : List Node
  ns = nodes_at G r

  abbrev pub rs : List ℕ
  rs = ranks_of (rules_of G)

  L : IsLawful G
  L = lawful a roots ranks calls order nodes G K see

  abbrev pub at-here : At a at
  at-here = node-is a roots ranks order G K.rules see r p at T.here.there

  pub within : r < length roots
  within = rule-within a roots ranks order G K.rules see r p at T.here.there

  in-nodes : p < length ns
  in-nodes = (key_at-within G r p at T.here.there).1

  in-list : r < length G
  in-list = (key_at-within G r p at T.here.there).0

  in-rules : r + 1 ≡ length (rules_of G)
  in-rules = T.start ∙ sym (length-rules_of G)

  nodes_r : ns ≡ placed order raw
  nodes_r = nodes-are a roots ranks order G K.rules see r

  ranks-are : rs ≡ ranks
  ranks-are = sym (ap (λ (H : List KeyedRule). ranks_of (rules_of H)) see) ∙ ranks-seen order ranks (terms_of a roots) (many-ranks a roots ranks order G K.rules see)

  pub below-all : (n : ℕ) → r ≤ n → CallsBelow n body
  below-all n h = let i = in-rules in below-more (length (rules_of G) - 1) n body (omega (arith, i, h)) W.earlier

  pub below-order : CallsBelow (length order) body
  below-order = below-all (length order) (let w = within in let o = K.rules.ordered in omega (arith, w, o))

  pub below-calls : CallsBelow (length calls) body
  below-calls = below-all (length calls) (let w = within in let o = many-calls a roots ranks calls order nodes G K see in omega (arith, w, o))

  agree : Agree rs ns
  agree = agree-of rs ns (L.arities r)

  abbrev pub part : List Node
  part = subterm kids_of ns p

  labels-part : labels_of part ≡ subterm (arity rs) (labels_of ns) p
  labels-part = sym (labels-subterm rs ns p agree)

  start-part : subterm (arity rs) (start_body (rules_of G)) p ≡ labels_of part
  start-part = ap (λ ls. subterm (arity rs) ls p) (body-is G r p T.start in-nodes) ∙ sym labels-part

  module _ (shapes : List Node) (read : placed order shapes ≡ nodes_of ranks at body) (known : AreKnown order shapes) where
    abbrev pub bare : List Node
    bare = nodes_of rs at body

    is-bare : placed order shapes ≡ bare
    is-bare = read ∙ ap (λ (q : List ℕ). nodes_of q at body) (sym ranks-are)

    shapes-agree : Agree rs (placed order shapes)
    shapes-agree = subst (λ (xs : List Node). Agree rs xs) (sym is-bare) (agree-nodes_of rs at body)

    pub shapes-labels : labels_of (placed order shapes) ≡ body
    shapes-labels = ap labels_of is-bare ∙ labels-nodes_of rs at body

    pub length-shapes : length shapes ≡ length body
    length-shapes = sym (length-map shapes (placed_node order)) ∙ ap length is-bare ∙ length-map body (λ (l : Label). let n : Node = record { key = at; label = l; kids = arity rs l } in n)

    pub shapes-term : AreTerms kids_of 1 shapes
    shapes-term = AreTerms-unmap (placed_node order) kids_of 1 shapes (kids-terms rs 1 (placed order shapes) shapes-agree (subst (IsTerm rs) (sym shapes-labels) W.term))

    pub shapes-shaped : All IsShape shapes
    shapes-shaped = shapes-of rs order shapes (ranks-small (rules_of G) L.grammar) shapes-agree

    pub shapes-linear : holes_in shapes ≡ 1
    shapes-linear = sym (holes-placed order shapes) ∙ holes-params (placed order shapes) ∙ ap params shapes-labels ∙ W.linear

    pub shapes-keys : (q : ℕ) (k : Key) → key_in shapes q ≡ Some k → k ≡ at
    shapes-keys q k e = key-nodes_of rs at body q k (ap (λ (xs : List Node). key_in xs q) (sym is-bare) ∙ key-placed order shapes q ∙ e)

    module _ (b : Terms) (news : List Key) (calls' : List ℕ) (more : ℕ) (V : Wrapped a b roots news r raw p shapes) where
      abbrev pub copy : List Node
      copy = copied bare (part ∷ []) V.keys

      abbrev pub ms : List Node
      ms = around ns p bare V.keys

      ms-seen : placed order (around raw p shapes V.keys) ≡ ms
      ms-seen =
          placed-with order raw p (copied shapes (subterm kids_of raw p ∷ []) V.keys)
          ∙ ap (λ (xs : List Node). with_subterm kids_of (placed order raw) p xs) (
          copied-changed (placed_node order) (λ n. refl) (λ n. refl) (λ n. hole-placed order n.label) (λ n k. refl) shapes (subterm kids_of raw p ∷ []) V.keys
          ∙ ap (λ (xs : List Node). copied xs (placed order (subterm kids_of raw p) ∷ []) V.keys) is-bare
          ∙ ap (λ (xs : List Node). copied bare (xs ∷ []) V.keys) (sym (subterm-map (placed_node order) kids_of raw p)))
          ∙ ap (λ (xs : List Node). around xs p bare V.keys) (sym nodes_r)

      abbrev pub after : List KeyedRule
      after = with_nodes G r ms

      pub seen-wrapped : seen order ranks (terms_of b news) ≡ after
      seen-wrapped = seen-changed a b roots news ranks order r (around raw p shapes V.keys) K.rules V.changed within G see ∙ ap (λ (xs : List Node). with_nodes G r xs) ms-seen

      pub wrapped-is : IsWrapped G (seen order ranks (terms_of b news)) r p at body
      wrapped-is = record { keys = V.keys; many = V.many ∙ length-shapes; rules = seen-wrapped }

      copy-labels : labels_of copy ≡ put body (labels_of part ∷ [])
      copy-labels =
          labels-copied bare (part ∷ []) V.keys (sym (holes-params bare ∙ ap params (labels-nodes_of rs at body) ∙ W.linear))
          ∙ ap (λ ls. put ls (labels_of part ∷ [])) (labels-nodes_of rs at body)

      start-copy : put body (subterm (arity rs) (start_body (rules_of G)) p ∷ []) ≡ labels_of copy
      start-copy = ap (λ ls. put body (ls ∷ [])) start-part ∙ sym copy-labels

      part-agree : (i : ℕ) → Agree rs (get_or (part ∷ []) i [])
      part-agree zero = agree-take rs _ _ (agree-drop rs p ns agree)
      part-agree (suc i) = tt

      copy-agree : Agree rs copy
      copy-agree = agree-copied rs bare (part ∷ []) V.keys (agree-nodes_of rs at body) part-agree

      wrapped-lawful : IsLawful after
      wrapped-lawful =
          let g = L.grammar in
          let h = in-body G r p T.start in-nodes in
          lawful-with_subterm G r p at copy L T.here.there
          (subst (λ ls. CallsBelow r ls) start-copy (subst (λ n. CallsBelow n (put body (subterm (arity rs) (start_body (rules_of G)) p ∷ []))) (sym (last G r p T.start in-nodes)) (around-below (rules_of G) g p h body W.earlier W.term W.linear)))
          (subst (IsTerm rs) start-copy (around-term (rules_of G) g p h body W.earlier W.term W.linear))
          (ap params (sym start-copy) ∙ around-params (rules_of G) g p h body W.earlier W.term W.linear ∙ ap params start-part)
          copy-agree

      ms-labels : labels_of ms ≡ with_subterm (arity rs) (labels_of ns) p (put body (subterm (arity rs) (labels_of ns) p ∷ []))
      ms-labels = labels-with rs ns p agree copy ∙ ap (λ ls. with_subterm (arity rs) (labels_of ns) p ls) (copy-labels ∙ ap (λ ls. put body (ls ∷ [])) labels-part)

      pub value-wrapped : StandsWithin (rules_of G) (rules_of (seen order ranks (terms_of b news))) p body
      value-wrapped =
          wrapping-changes G (seen order ranks (terms_of b news)) r p at body ms L T.here.there T.start
          (below-all r (omega arith)) W.term W.linear ms-labels seen-wrapped

      wrapped-weighs : (w : Label → ℕ) → w Param ≡ 0 → weigh w (labels_of ms) + weigh w [] ≡ weigh w (labels_of ns) + weigh w body
      wrapped-weighs w z =
          omega (
            arith,
            ap (weigh w) (labels-with rs ns p agree copy),
            weigh-with w (arity rs) (labels_of ns) p (labels_of copy),
            ap (weigh w) copy-labels,
            weigh-put w z body (labels_of part ∷ []) (sym W.linear),
            ap (weigh w) (append-nil (labels_of part)),
            ap (weigh w) labels-part,
          )

      wrapped-counted : length calls' ≡ length calls → ((q : ℕ) → q < length calls → get_or calls' q 0 ≡ get_or calls q 0 + calls_in q body) → more ≡ real_nodes body → AreCounted after calls' (nodes + more)
      wrapped-counted len moves real =
          counted-with G r ms L in-list calls calls' nodes (nodes + more) [] body (counted a roots ranks calls order nodes G K see) wrapped-weighs len (λ q h. omega (arith, moves q h)) (omega (arith, real))

      wrapped-known : AreKnown order (around raw p shapes V.keys)
      wrapped-known =
          let k = known-body a roots ranks calls order nodes G K see r in
          known-with order raw p (copied shapes (subterm kids_of raw p ∷ []) V.keys) k (known-copied order shapes (subterm kids_of raw p ∷ []) V.keys known (one (known-subterm order raw p k)))
        where
          one : AreKnown order (subterm kids_of raw p) → (i : ℕ) → AreKnown order (get_or (subterm kids_of raw p ∷ []) i [])
          one k zero = k
          one k (suc i) = tt

      pub kept-wrapped : length calls' ≡ length calls → ((q : ℕ) → q < length calls → get_or calls' q 0 ≡ get_or calls q 0 + calls_in q body) → more ≡ real_nodes body
          → IsKept b news ranks calls' order (nodes + more)
      kept-wrapped len moves real =
          let m = ap (λ (xs : List Node). with_nodes G r xs) ms-seen in
          kept-changed a b roots news ranks order r (around raw p shapes V.keys) K.rules V.changed within G calls' (nodes + more) see wrapped-known
          (subst IsLawful (sym m) wrapped-lawful) (subst (λ (H : List KeyedRule). AreCounted H calls' (nodes + more)) (sym m) (wrapped-counted len moves real))

      pub size-wrapped : length calls' ≡ length calls → ((q : ℕ) → q < length calls → get_or calls' q 0 ≡ get_or calls q 0 + calls_in q body) → more ≡ real_nodes body
          → size (rules_of (seen order ranks (terms_of b news))) ≡ size (rules_of G) + real_nodes body
      size-wrapped len moves real =
          omega (arith, ap (λ (H : List KeyedRule). size (rules_of H)) seen-wrapped, (wrapped-counted len moves real).real, (counted a roots ranks calls order nodes G K see).real, real)
