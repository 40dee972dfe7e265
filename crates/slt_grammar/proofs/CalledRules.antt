-- A term that begins with a rule's body is, without the keys, the body over arguments: a call in its place keeps what the rules mean.
use Rattle.std.proofs.Common.{◌≡◌, ℕ, zero, suc, ◌+◌, ◌<◌, ◌≤◌, List, [], ◌∷◌, ◌++◌, length, get_or, take, drop, map, refl, sym, ap, ◌∙◌, subst, arith, append_assoc}
use Rattle.std.proofs.Math.Seq.{take-append_seam, drop-append_seam}
use Rattle.std.proofs.lemmas.List.{length-map, length-take-le}
use Rattle.rule_arena.specs.Preorder.{AreTerms, span, terms, subterm, with_subterm}
use Rattle.rule_arena.specs.Terms.{Node, kids_of}
use Rattle.rule_arena.specs.declared.key.Key.{Key}
use Rattle.rule_arena.specs.declared.label.Label.{Label}
use Rattle.rule_arena.specs.declared.label.Label.TheVariants.{Bottom, Symbol, Call, Param}
use Rattle.rule_arena.proofs.PreorderLemmas.{span-append, with_subterm-same, with_subterm-twice}
use Rattle.slt_grammar.specs.Algebras.{Algebra, ranks_of, all_meanings}
use Rattle.slt_grammar.specs.Bodies.{arity, params}
use Rattle.slt_grammar.specs.Calling.{BeginsWith, called_nodes}
use Rattle.slt_grammar.specs.Copying.{hole, holes_in, copied, copied_node, kids_at, args_at, inlined_nodes}
use Rattle.slt_grammar.specs.Detaching.{AreArgs}
use Rattle.slt_grammar.specs.Editing.{put, with_body}
use Rattle.slt_grammar.specs.Grammars.{IsGrammar, body_at, rank_at}
use Rattle.slt_grammar.specs.Holding.{IsLawful}
use Rattle.slt_grammar.specs.Keyed.{KeyedRule, nodes_at, rules_of, labels_of}
use Rattle.slt_grammar.specs.KeyedEdits.{with_nodes}
use Rattle.slt_grammar.proofs.Agreeing.{Agree, agree-of, agree-parts, agree-take, agree-drop, agree-append, agree-with, labels-subterm, labels-with}
use Rattle.slt_grammar.proofs.FoldedRules.{flat, Each, all-terms, joined-labels}
use Rattle.slt_grammar.proofs.Folding.{folding-keeps, grammar-folded}
use Rattle.slt_grammar.proofs.InlinedRules.{holes-params, labels-copied, weigh-put}
use Rattle.slt_grammar.proofs.Inlinings.{length-args, terms-flat}
use Rattle.slt_grammar.proofs.KeyedEdits.{rules-with_nodes, nodes-with_nodes, nodes-others, arities-with, ranks-with}
use Rattle.slt_grammar.proofs.KeyedLemmas.{length-rules_of, body_at-rules_of, key_at-within}
use Rattle.slt_grammar.proofs.RuleMeanings.{rank_at-ranks_of}
use Rattle.slt_grammar.proofs.Substitutions.{joined}
use Rattle.slt_grammar.proofs.Weights.{weigh, weigh-with}

-- what stands in the places of parameters has its arities
each-given : (ranks : List ℕ) (ns : List Node) (ks : List Key) (given : List (List Node)) (keys : List Key) → AreArgs ks given → length given ≡ holes_in ns → Agree ranks (copied ns given keys) → Each ranks given
each-given ranks [] ks [] keys A h a = tt
each-given ranks [] ks (g ∷ given) keys A h a = absurd (omega arith)
each-given ranks (n ∷ ns) ks given keys A h a = at n.label refl ks given A h a (λ k g b i c. each-given ranks ns k g (drop 1 keys) b i c)
  where
    at : (l : Label) → n.label ≡ l → (ks : List Key) (given : List (List Node)) → AreArgs ks given → length given ≡ holes_in (n ∷ ns)
        → Agree ranks (copied_node n.label n (get_or keys 0 n.key) given (copied ns (drop (hole n.label) given) (drop 1 keys))) → ((k : List Key) (g : List (List Node)) → AreArgs k g → length g ≡ holes_in ns → Agree ranks (copied ns g (drop 1 keys)) → Each ranks g) → Each ranks given
    at Bottom e ks given A h a ih =
        let b : Agree ranks (copied_node Bottom n (get_or keys 0 n.key) given (copied ns given (drop 1 keys))) = subst (λ (l : Label). Agree ranks (copied_node l n (get_or keys 0 n.key) given (copied ns (drop (hole l) given) (drop 1 keys)))) e a in
        ih ks given A (omega (arith, h, ap hole e)) b.1
    at (Symbol f) e ks given A h a ih =
        let b : Agree ranks (copied_node (Symbol f) n (get_or keys 0 n.key) given (copied ns given (drop 1 keys))) = subst (λ (l : Label). Agree ranks (copied_node l n (get_or keys 0 n.key) given (copied ns (drop (hole l) given) (drop 1 keys)))) e a in
        ih ks given A (omega (arith, h, ap hole e)) b.1
    at (Call c) e ks given A h a ih =
        let b : Agree ranks (copied_node (Call c) n (get_or keys 0 n.key) given (copied ns given (drop 1 keys))) = subst (λ (l : Label). Agree ranks (copied_node l n (get_or keys 0 n.key) given (copied ns (drop (hole l) given) (drop 1 keys)))) e a in
        ih ks given A (omega (arith, h, ap hole e)) b.1
    at Param e ks [] A h a ih = tt
    at Param e [] (g ∷ given) A h a ih = absurd A
    at Param e (k ∷ ks) (g ∷ given) A h a ih =
        let b : Agree ranks (g ++ copied ns given (drop 1 keys)) = subst (λ (l : Label). Agree ranks (copied_node l n (get_or keys 0 n.key) (g ∷ given) (copied ns (drop (hole l) (g ∷ given)) (drop 1 keys)))) e a in
        let p = agree-parts ranks g (copied ns given (drop 1 keys)) b in
        (A.0, p.0, ih ks given A.2 (omega (arith, h, ap hole e)) p.1)

-- terms one after another are the terms of what they are together
pub terms-of-flat : (ks : List Key) (gs : List (List Node)) (back : List Node) → AreArgs ks gs → terms kids_of (length gs) (flat gs ++ back) ≡ gs
terms-of-flat [] [] back A = refl
terms-of-flat [] (g ∷ gs) back A = absurd A
terms-of-flat (k ∷ ks) [] back A = absurd A
terms-of-flat (k ∷ ks) (g ∷ gs) back A =
    let a : (g ++ flat gs) ++ back ≡ g ++ (flat gs ++ back) = append_assoc g (flat gs) back in
    let s : span kids_of 1 (g ++ (flat gs ++ back)) ≡ length g = span-append kids_of 1 g (flat gs ++ back) A.0 in
    rw (a, s, take-append_seam g (flat gs ++ back), drop-append_seam g (flat gs ++ back), terms-of-flat ks gs back A.2) refl

-- a rule's nodes given twice, and given back
with-twice : (G : List KeyedRule) (r : ℕ) (ms ns : List Node) → r < length G → with_nodes (with_nodes G r ms) r ns ≡ with_nodes G r ns
with-twice [] r ms ns h = absurd (omega arith)
with-twice (R ∷ G) zero ms ns h = refl
with-twice (R ∷ G) (suc r) ms ns h = let e : suc r + 1 ≡ suc (r + 1) = omega arith in rw e (ap (λ (H : List KeyedRule). R ∷ H) (with-twice G r ms ns (omega arith)))

with-own : (G : List KeyedRule) (r : ℕ) → r < length G → with_nodes G r (nodes_at G r) ≡ G
with-own [] r h = absurd (omega arith)
with-own (R ∷ G) zero h = refl
with-own (R ∷ G) (suc r) h = let e : suc r + 1 ≡ suc (r + 1) = omega arith in rw e (ap (λ (H : List KeyedRule). R ∷ H) (with-own G r (omega arith)))

-- the node at a place behind other nodes
kids-behind : (front : List Node) (n : Node) (rest : List Node) (p : ℕ) → length front ≡ p → (kids_at (front ++ (n ∷ rest)) p ≡ n.kids) × (drop (p + 1) (front ++ (n ∷ rest)) ≡ rest)
kids-behind [] n rest zero e = (refl, refl)
kids-behind [] n rest (suc p) e = absurd (omega arith)
kids-behind (m ∷ front) n rest zero e = absurd (omega arith)
kids-behind (m ∷ front) n rest (suc p) e = let z : suc p + 1 ≡ suc (p + 1) = omega arith in let h = kids-behind front n rest p (omega arith) in (h.0, rw z h.1)

module _ (G : List KeyedRule) (at : Key) (q : ℕ) (arguments : List Key) (key : Key) (L : IsLawful G) (B : BeginsWith G at q arguments) where
  abbrev pub ranks : List ℕ
  ranks = ranks_of (rules_of G)

  abbrev pub r : ℕ
  r = B.here.rule

  abbrev pub p : ℕ
  p = B.here.place

  abbrev pub ns : List Node
  ns = nodes_at G r

  abbrev pub callee : List Node
  callee = nodes_at G q

  pub in-list : r < length G
  in-list = (key_at-within G r p at B.here.there).0

  in-rules : r < length (rules_of G)
  in-rules = omega (arith, in-list, length-rules_of G)

  pub in-nodes : p < length ns
  in-nodes = (key_at-within G r p at B.here.there).1

  in-body : p < length (body_at (rules_of G) r)
  in-body = omega (arith, in-nodes, ap length (body_at-rules_of G r), length-map ns (λ (n : Node). n.label))

  agree : Agree (ranks_of (rules_of G)) ns
  agree = agree-of (ranks_of (rules_of G)) ns (L.arities r)

  each : Each (ranks_of (rules_of G)) B.args
  each =
      let rs : List ℕ = ranks_of (rules_of G) in
      each-given rs callee arguments B.args B.keys B.roots B.enough
      (subst (Agree rs) B.term (agree-take rs (span kids_of 1 (drop p ns)) (drop p ns) (agree-drop rs p ns agree)))

  abbrev given : List (List Label)
  given = map labels_of B.args

  put-is : subterm (arity (ranks_of (rules_of G))) (body_at (rules_of G) r) p ≡ put (body_at (rules_of G) q) (map labels_of B.args)
  put-is =
      let rs : List ℕ = ranks_of (rules_of G) in
      ap (λ ls. subterm (arity rs) ls p) (body_at-rules_of G r) ∙ labels-subterm rs ns p agree ∙ ap labels_of B.term
      ∙ labels-copied callee B.args B.keys B.enough ∙ ap (λ ls. put ls (map labels_of B.args)) (sym (body_at-rules_of G q))

  linear : params (body_at (rules_of G) q) ≡ rank_at (rules_of G) q
  linear = (L.grammar.each q (let e = B.earlier in omega (arith, in-rules))).linear

  holes-are : holes_in callee ≡ rank_at (rules_of G) q
  holes-are = holes-params callee ∙ ap params (sym (body_at-rules_of G q)) ∙ linear

  many : length (map labels_of B.args) ≡ rank_at (rules_of G) q
  many = length-map B.args labels_of ∙ B.enough ∙ holes-are

  -- a call has at most eight arguments
  pub few-args : length arguments ≤ 8
  few-args = omega (arith, length-args arguments B.args B.roots, B.enough, holes-are, (L.grammar.each q (let e = B.earlier in omega (arith, in-rules))).shaped.small)

  abbrev pub node : Node
  node = record { key = key; label = Call q; kids = length B.args }

  abbrev pub ms : List Node
  ms = called_nodes ns p key (Call q) B.args

  rules-are : rules_of (with_nodes G r ms) ≡ with_body (rules_of G) r (with_subterm (arity (ranks_of (rules_of G))) (body_at (rules_of G) r) p (Call q ∷ joined (map labels_of B.args)))
  rules-are =
      let rs : List ℕ = ranks_of (rules_of G) in
      rules-with_nodes G r ms
      ∙ ap (with_body (rules_of G) r) (labels-with rs ns p agree (node ∷ flat B.args)
      ∙ ap (λ ls. with_subterm (arity rs) ls p (Call q ∷ labels_of (flat B.args))) (sym (body_at-rules_of G r))
      ∙ ap (λ ls. with_subterm (arity rs) (body_at (rules_of G) r) p (Call q ∷ ls)) (sym (joined-labels B.args)))

  agree-flat : (gs : List (List Node)) → Each (ranks_of (rules_of G)) gs → Agree (ranks_of (rules_of G)) (flat gs)
  agree-flat [] e = tt
  agree-flat (g ∷ gs) e = agree-append (ranks_of (rules_of G)) g (flat gs) e.1 (agree-flat gs e.2)

  pub called-lawful : IsLawful (with_nodes G r ms)
  called-lawful =
      let rs : List ℕ = ranks_of (rules_of G) in
      let fits : length B.args ≡ arity rs (Call q) = B.enough ∙ holes-are ∙ sym (rank_at-ranks_of (rules_of G) q) in
      let a : Agree rs ms = agree-with rs ns p (node ∷ flat B.args) agree ((fits, agree-flat B.args each)) in
      record {
        grammar = subst IsGrammar (sym rules-are) (grammar-folded (rules_of G) r p q (map labels_of B.args) L.grammar in-rules B.earlier in-body (all-terms rs B.args each) many put-is);
        arities = arities-with G r ms L in-list a;
      }

  pub called-means : {S : Type 0} (A : Algebra S) → all_meanings A (rules_of (with_nodes G r ms)) ≡ all_meanings A (rules_of G)
  called-means A = ap (all_meanings A) rules-are ∙ folding-keeps (rules_of G) r p q (map labels_of B.args) L.grammar in-rules B.earlier in-body (all-terms (ranks_of (rules_of G)) B.args each) many put-is A

  pub called-ranks : ranks_of (rules_of (with_nodes G r ms)) ≡ ranks_of (rules_of G)
  called-ranks = ranks-with G r ms L in-list

  -- what went and what came
  pub called-weighs : (w : Label → ℕ) → w Param ≡ 0 → (weigh w (labels_of ms) + weigh w (labels_of callee) ≡ weigh w (labels_of ns) + weigh w (Call q ∷ [])) × (weigh w (labels_of callee) ≤ weigh w (labels_of ns))
  called-weighs w z =
      let rs : List ℕ = ranks_of (rules_of G) in
      let ls : List Label = labels_of ns in
      let sub : subterm (arity rs) ls p ≡ put (labels_of callee) (map labels_of B.args) = labels-subterm rs ns p agree ∙ ap labels_of B.term ∙ labels-copied callee B.args B.keys B.enough in
      let s = weigh-put w z (labels_of callee) (map labels_of B.args) (length-map B.args labels_of ∙ B.enough ∙ holes-params callee) in
      let m : weigh w (labels_of ms) ≡ weigh w (with_subterm (arity rs) ls p (Call q ∷ joined (map labels_of B.args))) = ap (weigh w) (labels-with rs ns p agree (node ∷ flat B.args)
      ∙ ap (λ js. with_subterm (arity rs) ls p (Call q ∷ js)) (sym (joined-labels B.args))) in
      let t = weigh-with w (arity rs) ls p (Call q ∷ joined (map labels_of B.args)) in
      let o = weigh-with w (arity rs) ls p [] in
      (omega (arith, ap (weigh w) sub, s, m, t), omega (arith, ap (weigh w) sub, s, o))

  one-term : AreTerms kids_of 1 (node ∷ flat B.args)
  one-term = let z : length arguments ≡ length B.args + 0 = omega (arith, length-args arguments B.args B.roots) in subst (λ (n : ℕ). AreTerms kids_of n (flat B.args)) z (terms-flat arguments B.args B.roots)

  -- the call's arguments
  pub args-are : args_at ms p ≡ B.args
  args-are =
      let tail : List Node = drop (span kids_of 1 (drop p ns)) (drop p ns) in
      let h = kids-behind (take p ns) node (flat B.args ++ tail) p (length-take-le p ns (let e = in-nodes in omega arith)) in
      ap (λ (k : ℕ). terms kids_of k (drop (p + 1) ms)) h.0 ∙ ap (λ (xs : List Node). terms kids_of (length B.args) xs) h.1 ∙ terms-of-flat arguments B.args tail B.roots

  -- inlining the call gives the rules of before
  pub inlines-back : G ≡ with_nodes (with_nodes G r ms) r (inlined_nodes (nodes_at (with_nodes G r ms) r) p (nodes_at (with_nodes G r ms) q) B.keys)
  inlines-back =
      let H : List KeyedRule = with_nodes G r ms in
      let e : nodes_at H r ≡ ms = nodes-with_nodes G r ms in-list in
      let f : nodes_at H q ≡ callee = nodes-others G r q ms in-list (λ z. let l = B.earlier in omega arith) in
      let back : inlined_nodes ms p callee B.keys ≡ ns =
      ap (λ (gs : List (List Node)). with_subterm kids_of ms p (copied callee gs B.keys)) args-are
      ∙ with_subterm-twice kids_of ns p (node ∷ flat B.args) (copied callee B.args B.keys) (let l = in-nodes in omega arith) one-term
      ∙ ap (λ (xs : List Node). with_subterm kids_of ns p xs) (sym B.term) ∙ with_subterm-same kids_of ns p in
      sym (ap (λ (xs : List Node). with_nodes H r (inlined_nodes xs p (nodes_at H q) B.keys)) e ∙ ap (λ (xs : List Node). with_nodes H r (inlined_nodes ms p xs B.keys)) f
      ∙ ap (λ (xs : List Node). with_nodes H r xs) back ∙ with-twice G r ms ns in-list ∙ with-own G r in-list)
