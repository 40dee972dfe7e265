-- A call that gives way to a copy of its rule's body keeps what stands before all other nodes.
use Rattle.std.proofs.Common.{◌≡◌, ◌≢◌, ℕ, ◌+◌, ◌<◌, List, [], ◌∷◌, ◌++◌, length, get_or, map, take, drop, Some, sym, ap, ◌∙◌, subst, arith}
use Rattle.std.proofs.lemmas.List.{get_or_at, length-map}
use Rattle.rule_arena.specs.Preorder.{AreTerms}
use Rattle.rule_arena.specs.Terms.{Node, kids_of}
use Rattle.rule_arena.specs.declared.key.Key.{Key}
use Rattle.rule_arena.specs.declared.label.Label.{Label}
use Rattle.rule_arena.specs.declared.label.Label.TheVariants.{Bottom, Call}
use Rattle.rule_arena.proofs.PreorderLemmas.{length-terms}
use Rattle.slt_grammar.specs.Algebras.{ranks_of}
use Rattle.slt_grammar.specs.Bodies.{IsTerm, params}
use Rattle.slt_grammar.specs.Copying.{args_at, back_at, copied, holes_in, inlined_nodes, kids_at}
use Rattle.slt_grammar.specs.Editing.{put}
use Rattle.slt_grammar.specs.Grammars.{rank_at}
use Rattle.slt_grammar.specs.Holding.{IsLawful}
use Rattle.slt_grammar.specs.Keyed.{Keyed, KeyedRule, IsKeyed, key_at, labels_of, nodes_at, rules_of}
use Rattle.slt_grammar.specs.KeyedEdits.{IsInlined, StandsAsCall, label_at, with_nodes}
use Rattle.slt_grammar.specs.Terms.{term_algebra}
use Rattle.slt_grammar.proofs.Agreeing.{Agree, agree-parts, kids-terms, labels-append}
use Rattle.slt_grammar.proofs.FoldedRules.{flat}
use Rattle.slt_grammar.proofs.InlinedRules.{agree, behind, earlier, holes-params, in-list, inlined-lawful, inlined-means, inlined-ranks, kids-holes}
use Rattle.slt_grammar.proofs.Inlinings.{Cut, cut-at}
use Rattle.slt_grammar.proofs.KeyedEdits.{length-with_nodes, nodes-with_nodes}
use Rattle.slt_grammar.proofs.KeyedLemmas.{body_at-rules_of, length-rules_of}
use Rattle.start_fronts.specs.Before.{KeepsBefore}
use Rattle.start_fronts.proofs.Copies.{all-given, flagged-copied, times-copied}
use Rattle.start_fronts.proofs.Exchanges.{Exchange}
use Rattle.start_fronts.proofs.Flags.{flagged, stands-times, times, times-append, times-other}
use Rattle.start_fronts.proofs.Keeping.{Once, at-most-once, keeps-changed, lawful, not-gone, once-in}
use Rattle.start_fronts.proofs.Staying.{stays-inlined, values-same}

module _ (G : List KeyedRule) (r p q : ℕ) (call : Key) (keys : List Key) (L : IsLawful G) (there : key_at G r p ≡ Some call) (label : label_at G r p ≡ Call q) where
  abbrev ns : List Node
  ns = nodes_at G r

  abbrev callee : List Node
  callee = nodes_at G q

  abbrev ms : List Node
  ms = inlined_nodes ns p callee keys

  abbrev H : List KeyedRule
  H = with_nodes G r ms

  abbrev args : List (List Node)
  args = args_at ns p

  in-rules : r < length G
  in-rules = in-list G r p q call keys L there label

  below : q < r
  below = earlier G r p q call keys L there label

  fits : Agree (ranks_of (rules_of G)) ns
  fits = agree G r p q call keys L there label

  one-term : AreTerms kids_of 1 ns
  one-term =
      kids-terms (ranks_of (rules_of G)) 1 ns fits
      (subst (λ (ls : List Label). IsTerm (ranks_of (rules_of G)) ls) (body_at-rules_of G r) (L.grammar.each r (omega (arith, in-rules, length-rules_of G))).shaped.term)

  cut : Cut ns p call
  cut = cut-at ns p call one-term there

  holes : kids_at ns p ≡ holes_in callee
  holes = kids-holes G r p q call keys L there label

  enough : length args ≡ holes_in callee
  enough = length-terms kids_of (kids_at ns p) (drop (p + 1) ns) ∙ holes

  many : length args ≡ rank_at (rules_of G) q
  many =
      enough ∙ holes-params callee ∙ ap params (sym (body_at-rules_of G q))
      ∙ (L.grammar.each q (omega (arith, below, in-rules, length-rules_of G))).linear

  label-is : cut.node.label ≡ Call q
  label-is =
      sym (get_or_at (labels_of (take p ns)) cut.node.label (labels_of (flat args ++ back_at ns p)) Bottom p (length-map (take p ns) (λ (m : Node). m.label) ∙ cut.place))
      ∙ ap (λ ls. get_or ls p Bottom) (sym (labels-append (take p ns) (cut.node ∷ (flat args ++ back_at ns p))))
      ∙ ap (λ (xs : List Node). get_or (labels_of xs) p Bottom) (sym cut.whole)
      ∙ ap (λ ls. get_or ls p Bottom) (sym (body_at-rules_of G r))
      ∙ label

  copy-is : nodes_at H r ≡ take p ns ++ (copied callee args keys ++ back_at ns p)
  copy-is =
      nodes-with_nodes G r ms in-rules
      ∙ ap (λ (xs : List Node). take p ns ++ (copied callee args keys ++ xs)) (behind (ranks_of (rules_of G)) ns p call callee keys fits there holes)

  -- the key of a node that stays is none of the copy's
  pub not-new : Once H r → (i : ℕ) (key : Key) → key_at G r i ≡ Some key → call ≢ key → times key (copied callee [] keys) ≡ 0
  not-new once i key e d =
      omega (
        arith,
        stands-times key ns i e,
        at-most-once H r once key,
        ap (times key) cut.whole,
        ap (times key) copy-is,
        times-append key (take p ns) (cut.node ∷ (flat args ++ back_at ns p)),
        times-other key cut.node (flat args ++ back_at ns p) (λ z. d (sym cut.is ∙ z)),
        times-append key (flat args) (back_at ns p),
        times-append key (take p ns) (copied callee args keys ++ back_at ns p),
        times-append key (copied callee args keys) (back_at ns p),
        times-copied key callee args keys enough,
      )

  exchange : Once H r → (i : ℕ) (key : Key) → key_at G r i ≡ Some key → call ≢ key → Exchange (rules_of G) q key ns (nodes_at H r)
  exchange once i key e d =
      let a = agree-parts (ranks_of (rules_of G)) (take p ns) (cut.node ∷ (flat args ++ back_at ns p)) (subst (λ (xs : List Node). Agree (ranks_of (rules_of G)) xs) cut.whole fits) in
      let none = not-new once i key e d in
      record {
        front = take p ns;
        call = cut.node;
        args = args;
        body = copied callee args keys;
        back = back_at ns p;
        calls_are = cut.whole;
        bodies_are = copy-is;
        called = omega (arith, below, in-rules, length-rules_of G);
        label = label-is;
        terms = all-given (ranks_of (rules_of G)) _ args cut.args (agree-parts (ranks_of (rules_of G)) (flat args) (back_at ns p) a.1.1).0;
        many = many;
        other = λ z. d (sym cut.is ∙ z);
        times_body = omega (arith, times-copied key callee args keys enough, none);
        flagged_body = λ f. flagged-copied key f callee args keys enough none ∙ ap (λ ls. put ls (map (flagged key f) args)) (sym (body_at-rules_of G q));
      }

  pub keeps-inlined : Once G r → Once H r → KeepsBefore (call ∷ []) G H
  keeps-inlined old new =
      let M : IsLawful H = inlined-lawful G r p q call keys L there label in
      let means = inlined-means G r p q call keys L there label term_algebra in
      let ranks = inlined-ranks G r p q call keys L there label in
      keeps-changed G r ms (call ∷ []) L M in-rules means
      (λ i key e apart. stays-inlined G H L M ranks (values-same (rules_of G) (rules_of H) ranks means) r in-rules (omega (arith, in-rules, length-with_nodes G r ms in-rules)) q key
      (exchange new i key e (not-gone call key apart)) (at-most-once G r old key) i e)

pub keeps-inlining : (g h : Keyed) → IsKeyed g → IsKeyed h → (call : Key) (C : StandsAsCall g.rules call) (follow moved : Key)
    → IsInlined g.rules h.rules C.here.rule C.here.place C.called follow moved → KeepsBefore (call ∷ []) g.rules h.rules
keeps-inlining g h K M call C follow moved I =
    let r = C.here.rule in
    let H = with_nodes g.rules r (inlined_nodes (nodes_at g.rules r) C.here.place (nodes_at g.rules C.called) I.keys) in
    subst (λ (Q : List KeyedRule). KeepsBefore (call ∷ []) g.rules Q) (sym I.rules)
    (keeps-inlined g.rules r C.here.place C.called call I.keys (lawful g K) C.here.there C.label (once-in g K r)
    (subst (λ (Q : List KeyedRule). Once Q r) I.rules (once-in h M r)))
