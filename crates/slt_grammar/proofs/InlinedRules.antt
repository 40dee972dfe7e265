-- What nodes with a copy over a call's children are without their keys: the body with the call inlined.
use Rattle.std.proofs.Common.{◌≡◌, ℕ, zero, suc, ◌+◌, ◌<◌, ◌≤◌, List, [], ◌∷◌, ◌++◌, length, get_or, take, drop, map, Some, refl, sym, ap, ◌∙◌, subst, arith, add-zero}
use Rattle.std.proofs.lemmas.List.{map-append, take-map, drop-map, length-map, get_or_at}
use Rattle.rule_arena.specs.Preorder.{AreTerms, span, terms}
use Rattle.rule_arena.specs.Terms.{Node, key_in, kids_of}
use Rattle.rule_arena.specs.declared.key.Key.{Key}
use Rattle.rule_arena.specs.declared.label.Label.{Label}
use Rattle.rule_arena.specs.declared.label.Label.TheVariants.{Bottom, Symbol, Call, Param}
use Rattle.rule_arena.proofs.PreorderLemmas.{span-map, length-terms}
use Rattle.slt_grammar.specs.Algebras.{Algebra, ranks_of, all_meanings}
use Rattle.slt_grammar.specs.Bodies.{arity, params, IsTerm}
use Rattle.slt_grammar.specs.Copying.{hole, holes_in, copied, copied_node, kids_at, args_at, back_at, inlined_nodes}
use Rattle.slt_grammar.specs.Editing.{put, inlined, with_body}
use Rattle.slt_grammar.specs.Grammars.{IsGrammar, body_at, rank_at}
use Rattle.slt_grammar.specs.Holding.{IsLawful}
use Rattle.slt_grammar.specs.Keyed.{KeyedRule, key_at, nodes_at, rules_of, labels_of}
use Rattle.slt_grammar.specs.KeyedEdits.{with_nodes}
use Rattle.slt_grammar.proofs.Agreeing.{Agree, agree-of, agree-append, agree-take, agree-drop, span-agree, terms-agree, kids-terms, labels-append}
use Rattle.slt_grammar.proofs.FoldedRules.{flat, joined-labels}
use Rattle.slt_grammar.proofs.Inlining.{inlining-keeps}
use Rattle.slt_grammar.proofs.Inlinings.{node-at, cut-at}
use Rattle.slt_grammar.proofs.Keeping.{grammar-inlined}
use Rattle.slt_grammar.proofs.KeyedEdits.{rules-with_nodes, arities-with, ranks-with}
use Rattle.slt_grammar.proofs.KeyedLemmas.{length-rules_of, body_at-rules_of, key_at-within}
use Rattle.slt_grammar.proofs.RuleMeanings.{rank_at-ranks_of, call-earlier}
use Rattle.slt_grammar.proofs.Substitutions.{joined}
use Rattle.slt_grammar.proofs.Weights.{weigh, weigh-append}

pub terms-map : {X Y : Type 0} (f : X → Y) (ar : Y → ℕ) (n : ℕ) (xs : List X) → terms ar n (map f xs) ≡ map (λ zs. map f zs) (terms (λ x. ar (f x)) n xs)
terms-map f ar zero xs = refl
terms-map f ar (suc n) xs =
    let s : ℕ = span (λ x. ar (f x)) 1 xs in
    rw (span-map f ar 1 xs, take-map f s xs, drop-map f s xs, terms-map f ar n (drop s xs)) refl

pub holes-params : (ns : List Node) → holes_in ns ≡ params (labels_of ns)
holes-params [] = refl
holes-params (n ∷ ns) = at n.label (holes-params ns)
  where
    at : (l : Label) → holes_in ns ≡ params (labels_of ns) → hole l + holes_in ns ≡ params (l ∷ labels_of ns)
    at Bottom ih = omega (arith, ih)
    at (Symbol f) ih = omega (arith, ih)
    at (Call q) ih = omega (arith, ih)
    at Param ih = omega (arith, ih)

-- a lawful node's children
pub kids-label : (ranks : List ℕ) (ns : List Node) (p : ℕ) (key : Key) → Agree ranks ns → key_in ns p ≡ Some key → kids_at ns p ≡ arity ranks (get_or (labels_of ns) p Bottom)
kids-label ranks [] p key a e = absurd (let z : key_in [] p ≡ Some key = e in cc)
kids-label ranks (n ∷ ns) zero key a e = a.0
kids-label ranks (n ∷ ns) (suc p) key a e = kids-label ranks ns p key a.1 e

-- a copy's labels are those of the copied nodes, with those of the arguments put in
pub labels-copied : (ns : List Node) (given : List (List Node)) (keys : List Key) → length given ≡ holes_in ns → labels_of (copied ns given keys) ≡ put (labels_of ns) (map labels_of given)
labels-copied [] given keys h = refl
labels-copied (n ∷ ns) given keys h = at n.label refl given h (λ g q. labels-copied ns g (drop 1 keys) q)
  where
    at : (l : Label) → n.label ≡ l → (given : List (List Node)) → length given ≡ holes_in (n ∷ ns)
        → ((g : List (List Node)) → length g ≡ holes_in ns → labels_of (copied ns g (drop 1 keys)) ≡ put (labels_of ns) (map labels_of g))
        → labels_of (copied_node n.label n (get_or keys 0 n.key) given (copied ns (drop (hole n.label) given) (drop 1 keys))) ≡ put (n.label ∷ labels_of ns) (map labels_of given)
    at Bottom e given h ih = let q : length given ≡ holes_in ns = omega (arith, h, ap hole e) in rw e (ap (λ ls. Bottom ∷ ls) (ih given q))
    at (Symbol f) e given h ih = let q : length given ≡ holes_in ns = omega (arith, h, ap hole e) in rw e (ap (λ ls. Symbol f ∷ ls) (ih given q))
    at (Call c) e given h ih = let q : length given ≡ holes_in ns = omega (arith, h, ap hole e) in rw e (ap (λ ls. Call c ∷ ls) (ih given q))
    at Param e [] h ih = absurd (omega (arith, h, ap hole e))
    at Param e (g ∷ given) h ih =
        let q : length given ≡ holes_in ns = omega (arith, h, ap hole e) in
        rw e (map-append (λ (m : Node). m.label) g (copied ns given (drop 1 keys)) ∙ ap (λ ls. labels_of g ++ ls) (ih given q))

-- and they have their arities
pub agree-copied : (ranks : List ℕ) (ns : List Node) (given : List (List Node)) (keys : List Key) → Agree ranks ns → ((i : ℕ) → Agree ranks (get_or given i [])) → Agree ranks (copied ns given keys)
agree-copied ranks [] given keys a g = tt
agree-copied ranks (n ∷ ns) given keys a g =
    at n.label refl (agree-copied ranks ns given (drop 1 keys) a.1 g) (agree-copied ranks ns (drop 1 given) (drop 1 keys) a.1 (λ i. dropped given i g))
  where
    dropped : (xs : List (List Node)) (i : ℕ) → ((i : ℕ) → Agree ranks (get_or xs i [])) → Agree ranks (get_or (drop 1 xs) i [])
    dropped [] i g = tt
    dropped (x ∷ xs) i g = g (suc i)

    at : (l : Label) → n.label ≡ l → Agree ranks (copied ns given (drop 1 keys)) → Agree ranks (copied ns (drop 1 given) (drop 1 keys))
        → Agree ranks (copied_node n.label n (get_or keys 0 n.key) given (copied ns (drop (hole n.label) given) (drop 1 keys)))
    at Bottom e x y = rw e ((a.0 ∙ ap (arity ranks) e, x))
    at (Symbol f) e x y = rw e ((a.0 ∙ ap (arity ranks) e, x))
    at (Call c) e x y = rw e ((a.0 ∙ ap (arity ranks) e, x))
    at Param e x y = rw e (agree-append ranks (get_or given 0 []) (copied ns (drop 1 given) (drop 1 keys)) (g 0) y)

agree-terms : (ranks : List ℕ) (n : ℕ) (xs : List Node) → Agree ranks xs → (i : ℕ) → Agree ranks (get_or (terms kids_of n xs) i [])
agree-terms ranks zero xs a i = tt
agree-terms ranks (suc n) xs a zero = agree-take ranks (span kids_of 1 xs) xs a
agree-terms ranks (suc n) xs a (suc i) = agree-terms ranks n (drop (span kids_of 1 xs) xs) (agree-drop ranks (span kids_of 1 xs) xs a) i

module _ (ranks : List ℕ) (ns : List Node) (p : ℕ) (call : Key) (callee : List Node) (keys : List Key)
    (agree : Agree ranks ns) (there : key_in ns p ≡ Some call) (many : kids_at ns p ≡ holes_in callee) where
  -- what follows the call
  pub behind : drop (span kids_of 1 (drop p ns)) (drop p ns) ≡ back_at ns p
  behind =
      let h = node-at ns p call there in
      let rest : List Node = drop (p + 1) ns in
      ap (λ (ms : List Node). drop (span kids_of 1 ms) ms) h.1.1.1.1
      ∙ ap (λ (k : ℕ). drop (span kids_of k rest) rest) (add-zero h.0.kids ∙ sym h.1.1.0)

  pub labels-inlined : labels_of (inlined_nodes ns p callee keys) ≡ inlined ranks (holes_in callee) (labels_of callee) (labels_of ns) p
  labels-inlined =
      let f : Node → Label = λ m. m.label in
      let k : ℕ = kids_at ns p in
      let rest : List Node = drop (p + 1) ns in
      let a = agree-drop ranks (p + 1) ns agree in
      let s : span kids_of k rest ≡ span (arity ranks) k (map f rest) = span-agree ranks k rest a ∙ sym (span-map f (arity ranks) k rest) in
      let r : map f rest ≡ drop (p + 1) (labels_of ns) = sym (drop-map f (p + 1) ns) in
      let t : map labels_of (args_at ns p) ≡ terms (arity ranks) k (map f rest) = ap (map labels_of) (terms-agree ranks k rest a) ∙ sym (terms-map f (arity ranks) k rest) in
      let c : labels_of (copied callee (args_at ns p) keys) ≡ put (labels_of callee) (terms (arity ranks) k (map f rest)) =
      labels-copied callee (args_at ns p) keys (length-terms kids_of k rest ∙ many) ∙ ap (put (labels_of callee)) t in
      let b : labels_of (back_at ns p) ≡ drop (span (arity ranks) k (map f rest)) (map f rest) = sym (drop-map f (span kids_of k rest) rest) ∙ ap (λ m. drop m (map f rest)) s in
      ap (λ (ms : List Node). labels_of (take p ns ++ (copied callee (args_at ns p) keys ++ ms))) behind
      ∙ map-append f (take p ns) (copied callee (args_at ns p) keys ++ back_at ns p)
      ∙ ap (λ ls. map f (take p ns) ++ ls) (map-append f (copied callee (args_at ns p) keys) (back_at ns p))
      ∙ ap (λ ls. ls ++ (labels_of (copied callee (args_at ns p) keys) ++ labels_of (back_at ns p))) (sym (take-map f p ns))
      ∙ ap (λ ls. take p (labels_of ns) ++ (ls ++ labels_of (back_at ns p))) c
      ∙ ap (λ ls. take p (labels_of ns) ++ (put (labels_of callee) (terms (arity ranks) k (map f rest)) ++ ls)) b
      ∙ ap (λ ls. take p (labels_of ns) ++ (put (labels_of callee) (terms (arity ranks) k ls) ++ drop (span (arity ranks) k ls) ls)) r
      ∙ ap (λ m. inlined ranks m (labels_of callee) (labels_of ns) p) many

  pub agree-inlined : Agree ranks callee → Agree ranks (inlined_nodes ns p callee keys)
  agree-inlined b =
      let rest : List Node = drop (p + 1) ns in
      let a = agree-drop ranks (p + 1) ns agree in
      agree-append ranks (take p ns) (copied callee (args_at ns p) keys ++ drop (span kids_of 1 (drop p ns)) (drop p ns)) (agree-take ranks p ns agree)
      (agree-append ranks (copied callee (args_at ns p) keys) (drop (span kids_of 1 (drop p ns)) (drop p ns))
      (agree-copied ranks callee (args_at ns p) keys b (agree-terms ranks (kids_at ns p) rest a))
      (agree-drop ranks (span kids_of 1 (drop p ns)) (drop p ns) (agree-drop ranks p ns agree)))

pub weigh-put : (w : Label → ℕ) → w Param ≡ 0 → (ls : List Label) (given : List (List Label)) → length given ≡ params ls → weigh w (put ls given) ≡ weigh w ls + weigh w (joined given)
weigh-put w z [] [] e = omega arith
weigh-put w z [] (a ∷ given) e = absurd (omega arith)
weigh-put w z (Param ∷ ls) [] e = absurd (omega arith)
weigh-put w z (Param ∷ ls) (a ∷ given) e = omega (arith, weigh-append w a (put ls given), weigh-append w a (joined given), weigh-put w z ls given (omega arith), z)
weigh-put w z (Bottom ∷ ls) given e = omega (arith, weigh-put w z ls given e)
weigh-put w z (Symbol f ∷ ls) given e = omega (arith, weigh-put w z ls given e)
weigh-put w z (Call q ∷ ls) given e = omega (arith, weigh-put w z ls given e)

-- a call that gives way to a copy of its rule's nodes
module _ (G : List KeyedRule) (r p q : ℕ) (call : Key) (keys : List Key) (L : IsLawful G) (there : key_at G r p ≡ Some call) (label : get_or (body_at (rules_of G) r) p Bottom ≡ Call q) where
  abbrev pub ranks : List ℕ
  ranks = ranks_of (rules_of G)

  pub in-list : r < length G
  in-list = (key_at-within G r p call there).0

  in-rules : r < length (rules_of G)
  in-rules = omega (arith, in-list, length-rules_of G)

  pub earlier : q < r
  earlier = call-earlier r p q (body_at (rules_of G) r) (L.grammar.each r in-rules).earlier label

  b : body_at (rules_of G) r ≡ labels_of (nodes_at G r)
  b = body_at-rules_of G r

  cb : body_at (rules_of G) q ≡ labels_of (nodes_at G q)
  cb = body_at-rules_of G q

  pub agree : Agree (ranks_of (rules_of G)) (nodes_at G r)
  agree = agree-of (ranks_of (rules_of G)) (nodes_at G r) (L.arities r)

  pub callee-agree : Agree (ranks_of (rules_of G)) (nodes_at G q)
  callee-agree = agree-of (ranks_of (rules_of G)) (nodes_at G q) (L.arities q)

  linear : params (body_at (rules_of G) q) ≡ rank_at (rules_of G) q
  linear = (L.grammar.each q (omega (arith, earlier, in-rules))).linear

  -- a call has as many children as its rule has parameters
  pub kids-holes : kids_at (nodes_at G r) p ≡ holes_in (nodes_at G q)
  kids-holes =
      kids-label (ranks_of (rules_of G)) (nodes_at G r) p call agree there ∙ ap (λ ls. arity (ranks_of (rules_of G)) (get_or ls p Bottom)) (sym b) ∙ ap (arity (ranks_of (rules_of G))) label
      ∙ rank_at-ranks_of (rules_of G) q ∙ sym linear ∙ ap params cb ∙ sym (holes-params (nodes_at G q))

  holes-rank : holes_in (nodes_at G q) ≡ rank_at (rules_of G) q
  holes-rank = holes-params (nodes_at G q) ∙ ap params (sym cb) ∙ linear

  abbrev pub ms : List Node
  ms = inlined_nodes (nodes_at G r) p (nodes_at G q) keys

  labels-are : labels_of ms ≡ inlined (ranks_of (rules_of G)) (rank_at (rules_of G) q) (body_at (rules_of G) q) (body_at (rules_of G) r) p
  labels-are =
      labels-inlined (ranks_of (rules_of G)) (nodes_at G r) p call (nodes_at G q) keys agree there kids-holes
      ∙ ap (λ n. inlined (ranks_of (rules_of G)) n (labels_of (nodes_at G q)) (labels_of (nodes_at G r)) p) holes-rank
      ∙ ap (λ ls. inlined (ranks_of (rules_of G)) (rank_at (rules_of G) q) ls (labels_of (nodes_at G r)) p) (sym cb)
      ∙ ap (λ ls. inlined (ranks_of (rules_of G)) (rank_at (rules_of G) q) (body_at (rules_of G) q) ls p) (sym b)

  rules-are : rules_of (with_nodes G r ms) ≡ with_body (rules_of G) r (inlined (ranks_of (rules_of G)) (rank_at (rules_of G) q) (body_at (rules_of G) q) (body_at (rules_of G) r) p)
  rules-are = rules-with_nodes G r ms ∙ ap (with_body (rules_of G) r) labels-are

  in-body : p < length (body_at (rules_of G) r)
  in-body = omega (arith, (key_at-within G r p call there).1, ap length b, length-map (nodes_at G r) (λ (n : Node). n.label))

  pub inlined-lawful : IsLawful (with_nodes G r ms)
  inlined-lawful = record {
    grammar = subst IsGrammar (sym rules-are) (grammar-inlined (rules_of G) r p q L.grammar in-rules in-body label);
    arities = arities-with G r ms L in-list (agree-inlined (ranks_of (rules_of G)) (nodes_at G r) p call (nodes_at G q) keys agree there kids-holes callee-agree);
  }

  pub inlined-means : {S : Type 0} (A : Algebra S) → all_meanings A (rules_of (with_nodes G r ms)) ≡ all_meanings A (rules_of G)
  inlined-means A = ap (all_meanings A) rules-are ∙ inlining-keeps A (rules_of G) r p q L.grammar in-rules in-body label

  pub inlined-ranks : ranks_of (rules_of (with_nodes G r ms)) ≡ ranks_of (rules_of G)
  inlined-ranks = ranks-with G r ms L in-list

  term : AreTerms kids_of 1 (nodes_at G r)
  term = kids-terms (ranks_of (rules_of G)) 1 (nodes_at G r) agree (subst (IsTerm (ranks_of (rules_of G))) b (L.grammar.each r in-rules).shaped.term)

  -- what went and what came
  pub inlined-weighs : (w : Label → ℕ) → w Param ≡ 0 → (weigh w (labels_of ms) + weigh w (Call q ∷ []) ≡ weigh w (labels_of (nodes_at G r)) + weigh w (labels_of (nodes_at G q))) × (weigh w (Call q ∷ []) ≤ weigh w (labels_of (nodes_at G r)))
  inlined-weighs w z =
      let ns : List Node = nodes_at G r in
      let C = cut-at ns p call term there in
      let args : List (List Node) = args_at ns p in
      let back : List Node = back_at ns p in
      let copy : List Node = copied (nodes_at G q) args keys in
      let sum : (xs ys : List Node) → weigh w (labels_of (xs ++ ys)) ≡ weigh w (labels_of xs) + weigh w (labels_of ys) = λ xs ys. ap (weigh w) (labels-append xs ys) ∙ weigh-append w (labels_of xs) (labels_of ys) in
      let given : length (map labels_of args) ≡ params (labels_of (nodes_at G q)) = length-map args labels_of ∙ length-terms kids_of (kids_at ns p) (drop (p + 1) ns) ∙ kids-holes ∙ holes-params (nodes_at G q) in
      let c : weigh w (labels_of copy) ≡ weigh w (labels_of (nodes_at G q)) + weigh w (labels_of (flat args)) =
      ap (weigh w) (labels-copied (nodes_at G q) args keys (length-terms kids_of (kids_at ns p) (drop (p + 1) ns) ∙ kids-holes)) ∙ weigh-put w z (labels_of (nodes_at G q)) (map labels_of args) given
      ∙ ap (λ ls. weigh w (labels_of (nodes_at G q)) + weigh w ls) (joined-labels args) in
      let old : weigh w (labels_of ns) ≡ weigh w (labels_of (take p ns ++ (C.node ∷ (flat args ++ back)))) = ap (λ (xs : List Node). weigh w (labels_of xs)) C.whole in
      let new : weigh w (labels_of ms) ≡ weigh w (labels_of (take p ns ++ (copy ++ back))) = ap (λ (xs : List Node). weigh w (labels_of (take p ns ++ (copy ++ xs)))) (behind (ranks_of (rules_of G)) ns p call (nodes_at G q) keys agree there kids-holes) in
      let l : C.node.label ≡ Call q = sym (node-label C.node (flat args ++ back) C.whole C.place) ∙ ap (λ ls. get_or ls p Bottom) (sym b) ∙ label in
      let h1 = sum (take p ns) (C.node ∷ (flat args ++ back)) in
      let h2 = sum (flat args) back in
      let h3 = sum (take p ns) (copy ++ back) in
      let h4 = sum copy back in
      (omega (arith, old, new, c, h1, h2, h3, h4, ap w l), omega (arith, old, h1, ap w l))
    where
      node-label : (n : Node) (rest : List Node) → nodes_at G r ≡ take p (nodes_at G r) ++ (n ∷ rest) → length (take p (nodes_at G r)) ≡ p → get_or (labels_of (nodes_at G r)) p Bottom ≡ n.label
      node-label n rest e l =
          ap (λ (xs : List Node). get_or (labels_of xs) p Bottom) e ∙ ap (λ ls. get_or ls p Bottom) (labels-append (take p (nodes_at G r)) (n ∷ rest))
          ∙ get_or_at (labels_of (take p (nodes_at G r))) n.label (labels_of rest) Bottom p (length-map (take p (nodes_at G r)) (λ (m : Node). m.label) ∙ l)
