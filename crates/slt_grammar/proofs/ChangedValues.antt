-- The start's value once a node of its body has another symbol, or gives way to its second child.
use Rattle.std.proofs.Common.{◌≡◌, ℕ, zero, suc, ◌+◌, ◌-◌, ◌<◌, List, [], ◌∷◌, ◌++◌, length, get_or, take, drop, map, refl, sym, ap, ◌∙◌, subst, arith, append_assoc}
use Rattle.std.proofs.Math.ListN.{get_or-map}
use Rattle.std.proofs.lemmas.List.{drop_all, drop_more, take-append-drop, take-map, drop-map, length-map}
use Rattle.rule_arena.specs.Preorder.{AreTerms, span, terms, subterm, with_subterm}
use Rattle.rule_arena.specs.Terms.{Node as KeyedNode, kids_of, labelled}
use Rattle.rule_arena.specs.declared.key.Key.{Key}
use Rattle.rule_arena.specs.declared.label.Label.{Label}
use Rattle.rule_arena.specs.declared.label.Label.TheVariants.{Bottom, Symbol}
use Rattle.rule_arena.proofs.PreorderLemmas.{AreTerms-split, AreTerms-with, span-append, span-map}
use Rattle.slt_grammar.specs.Algebras.{meanings, meaning, ranks_of, all_meanings}
use Rattle.slt_grammar.specs.Bodies.{arity, params, CallsBelow, IsTerm}
use Rattle.slt_grammar.specs.ChangedValues.{start_body, DifferAt, ChangesSymbol, GivesWay}
use Rattle.slt_grammar.specs.Editing.{with_body}
use Rattle.slt_grammar.specs.Grammars.{IsGrammar, body_at}
use Rattle.slt_grammar.specs.Holding.{IsLawful}
use Rattle.slt_grammar.specs.Keyed.{KeyedRule, nodes_at, rules_of, labels_of}
use Rattle.slt_grammar.specs.KeyedEdits.{StandsInStart, with_nodes, lifted_nodes}
use Rattle.slt_grammar.specs.Terms.{Term, Leaf, Node, term_algebra}
use Rattle.slt_grammar.specs.declared.rules.Rule.{Rule}
use Rattle.slt_grammar.proofs.Agreeing.{Agree, agree-of, agree-drop, labels-with, terms-agree}
use Rattle.slt_grammar.proofs.Keeping.{CallsBelow-take, CallsBelow-drop}
use Rattle.slt_grammar.proofs.KeyedEdits.{rules-with_nodes}
use Rattle.slt_grammar.proofs.KeyedLemmas.{length-rules_of, body_at-rules_of, key_at-within}
use Rattle.slt_grammar.proofs.Lifted.{take-front, drop-front}
use Rattle.slt_grammar.proofs.Meanings.{params-append, meanings-append, meanings-whole, only}
use Rattle.slt_grammar.proofs.Values.{no-params, with_start, value-at-place, context-linear, value-with_start}

-- two terms mean what each of them means
two-meanings : (ranks : List ℕ) (fs : List (List Term → Term)) (xs ys : List Label) → IsTerm ranks xs → IsTerm ranks ys
    → meanings term_algebra ranks fs [] (xs ++ ys) [] ≡ meaning term_algebra ranks fs xs [] ∷ meaning term_algebra ranks fs ys [] ∷ []
two-meanings ranks fs xs ys t u =
    let v = meanings-whole term_algebra ranks fs 1 [] xs (meanings term_algebra ranks fs [] ys []) t in
    let w = meanings-whole term_algebra ranks fs 1 [] ys [] u in
    meanings-append term_algebra ranks fs [] xs ys []
    ∙ ap (λ (args : List Term). meanings term_algebra ranks fs [] xs (meanings term_algebra ranks fs args ys [])) (drop_all (params xs) [] (omega arith))
    ∙ v.0 ∙ ap (λ (ms : List Term). ms ++ meanings term_algebra ranks fs [] ys []) (only Leaf (meanings term_algebra ranks fs [] xs []) v.1)
    ∙ ap (λ (ms : List Term). meaning term_algebra ranks fs xs [] ∷ ms) (only Leaf (meanings term_algebra ranks fs [] ys []) w.1)

-- the second of two terms that stand before others
second-term : (ar : Label → ℕ) (xs ys back : List Label) → AreTerms ar 1 xs → AreTerms ar 1 ys → get_or (terms ar 2 (xs ++ (ys ++ back))) 1 [] ≡ ys
second-term ar xs ys back t u =
    let zs : List Label = xs ++ (ys ++ back) in
    let d : drop (span ar 1 zs) zs ≡ ys ++ back = ap (λ (k : ℕ). drop k zs) (span-append ar 1 xs (ys ++ back) t) ∙ drop-front xs (ys ++ back) in
    ap (λ (ls : List Label). take (span ar 1 ls) ls) d ∙ ap (λ (k : ℕ). take k (ys ++ back)) (span-append ar 1 ys back u) ∙ take-front ys back

module _ (G : List Rule) (g : IsGrammar G) (p : ℕ) (there : p < length (start_body G)) where
  -- another term at a place of the start's body
  pub differ-at : (ys : List Label) → CallsBelow (length G - 1) ys → IsTerm (ranks_of G) ys → params ys ≡ 0
      → DifferAt G (with_start G p ys) p (meaning term_algebra (ranks_of G) (all_meanings term_algebra G) (subterm (arity (ranks_of G)) (start_body G) p) [])
      (meaning term_algebra (ranks_of G) (all_meanings term_algebra G) ys [])
  differ-at ys c t e = record { once = context-linear G g p there; first = value-at-place G g p there; second = value-with_start G g p there ys c t e }

  module _ (f : ℕ) (is : get_or (start_body G) p Bottom ≡ Symbol f) where
    abbrev pub ar : Label → ℕ
    ar = arity (ranks_of G)

    abbrev pub rest : List Label
    rest = drop (p + 1) (start_body G)

    abbrev pub kids : List Label
    kids = take (span ar 2 rest) rest

    abbrev pub left : List Label
    left = take (span ar 1 kids) kids

    abbrev pub right : List Label
    right = drop (span ar 1 kids) kids

    from : drop p (start_body G) ≡ Symbol f ∷ rest
    from = drop_more (start_body G) p Bottom there ∙ ap (λ (l : Label). l ∷ rest) is

    sub-is : subterm ar (start_body G) p ≡ Symbol f ∷ kids
    sub-is = ap (λ (ls : List Label). take (span ar 1 ls) ls) from

    two : AreTerms ar 2 kids
    two =
        let last : length G - 1 < length G = let some = g.some in omega arith in
        subst (λ (ls : List Label). AreTerms ar 1 ls) sub-is (AreTerms-with ar 1 (start_body G) p (Bottom ∷ []) (g.each (length G - 1) last).shaped.term there tt).0

    parts : AreTerms ar 1 left × AreTerms ar 1 right
    parts = AreTerms-split ar 1 1 kids two

    halves : left ++ right ≡ kids
    halves = take-append-drop (span ar 1 kids) kids

    below : CallsBelow (length G - 1) kids
    below =
        let last : length G - 1 < length G = let some = g.some in omega arith in
        CallsBelow-take (length G - 1) (span ar 2 rest) rest (CallsBelow-drop (length G - 1) (p + 1) (start_body G) (g.each (length G - 1) last).earlier)

    none : params kids ≡ 0
    none = sym (ap params sub-is) ∙ (no-params G g p there).2

    abbrev pub mean : List Label → Term
    mean ls = meaning term_algebra (ranks_of G) (all_meanings term_algebra G) ls []

    -- a symbol over the children
    means-node : (symbol : ℕ) → mean (Symbol symbol ∷ kids) ≡ Node symbol (mean left) (mean right)
    means-node symbol =
        ap (λ (ms : List Term). Node symbol (get_or (take 2 ms) 0 Leaf) (get_or (take 2 ms) 1 Leaf))
        (ap (λ (ls : List Label). meanings term_algebra (ranks_of G) (all_meanings term_algebra G) [] ls []) (sym halves)
        ∙ two-meanings (ranks_of G) (all_meanings term_algebra G) left right parts.0 parts.1)

    before-is : mean (subterm ar (start_body G) p) ≡ Node f (mean left) (mean right)
    before-is = ap mean sub-is ∙ means-node f

    pub changes-symbol : (symbol : ℕ) → ChangesSymbol G (with_start G p (Symbol symbol ∷ kids)) p symbol
    changes-symbol symbol = record {
      was = f;
      left = mean left;
      right = mean right;
      label = is;
      differ = subst (λ (t : Term). DifferAt G (with_start G p (Symbol symbol ∷ kids)) p (Node f (mean left) (mean right)) t) (means-node symbol)
          (subst (λ (s : Term). DifferAt G (with_start G p (Symbol symbol ∷ kids)) p s (mean (Symbol symbol ∷ kids))) before-is (differ-at (Symbol symbol ∷ kids) below two none));
    }

    right-is : get_or (terms ar 2 rest) 1 [] ≡ right
    right-is =
        let back : List Label = drop (span ar 2 rest) rest in
        let e : rest ≡ left ++ (right ++ back) = sym (take-append-drop (span ar 2 rest) rest) ∙ ap (λ (ls : List Label). ls ++ back) (sym halves) ∙ append_assoc left right back in
        ap (λ (ls : List Label). get_or (terms ar 2 ls) 1 []) e ∙ second-term ar left right back parts.0 parts.1

    pub gives-way : GivesWay G (with_start G p right) p
    gives-way =
        let c = CallsBelow-drop (length G - 1) (span ar 1 kids) kids below in
        let e : params right ≡ 0 = omega (arith, none, ap params halves, params-append left right) in
        record {
          was = f;
          left = mean left;
          right = mean right;
          label = is;
          differ = subst (λ (s : Term). DifferAt G (with_start G p right) p s (mean right)) before-is (differ-at right c parts.1 e);
        }

    -- the body with the other symbol
    pub symbol-at : (l : Label) → take p (start_body G) ++ (l ∷ rest) ≡ with_subterm ar (start_body G) p (l ∷ kids)
    symbol-at l =
        ap (λ (ls : List Label). take p (start_body G) ++ (l ∷ ls)) (sym (take-append-drop (span ar 2 rest) rest))
        ∙ ap (λ (ls : List Label). take p (start_body G) ++ (l ∷ (kids ++ drop (span ar 1 ls) ls))) (sym from)

-- the labels of nodes of which one has another
labels-labelled : (ns : List KeyedNode) (p : ℕ) (l : Label) → p < length ns → labels_of (labelled ns p l) ≡ take p (labels_of ns) ++ (l ∷ drop (p + 1) (labels_of ns))
labels-labelled [] p l h = absurd (omega arith)
labels-labelled (n ∷ ns) zero l h = refl
labels-labelled (n ∷ ns) (suc p) l h = let e : suc p + 1 ≡ suc (p + 1) = omega arith in rw e (ap (λ (ls : List Label). n.label ∷ ls) (labels-labelled ns p l (omega arith)))

-- the labels of terms
terms-map : (ar : Label → ℕ) (n : ℕ) (ns : List KeyedNode) → terms ar n (labels_of ns) ≡ map labels_of (terms (λ (m : KeyedNode). ar m.label) n ns)
terms-map ar zero ns = refl
terms-map ar (suc n) ns =
    let f : KeyedNode → Label = λ m. m.label in
    let k : ℕ = span (λ (m : KeyedNode). ar m.label) 1 ns in
    ap (λ (j : ℕ). take j (labels_of ns) ∷ terms ar n (drop j (labels_of ns))) (span-map f ar 1 ns)
    ∙ ap (λ (ls : List Label). ls ∷ terms ar n (drop k (labels_of ns))) (take-map f k ns)
    ∙ ap (λ (ls : List Label). labels_of (take k ns) ∷ terms ar n ls) (drop-map f k ns)
    ∙ ap (λ (lss : List (List Label)). labels_of (take k ns) ∷ lss) (terms-map ar n (drop k ns))

module _ (K : List KeyedRule) (r p : ℕ) (start : r + 1 ≡ length K) (there : p < length (nodes_at K r)) where
  pub last : r ≡ length (rules_of K) - 1
  last = omega (arith, start, length-rules_of K)

  pub body-is : start_body (rules_of K) ≡ labels_of (nodes_at K r)
  body-is = ap (body_at (rules_of K)) (sym last) ∙ body_at-rules_of K r

  pub in-body : p < length (start_body (rules_of K))
  in-body = omega (arith, there, ap length body-is, length-map (nodes_at K r) (λ (n : KeyedNode). n.label))

  pub with-is : (ms : List KeyedNode) (ys : List Label) → labels_of ms ≡ with_subterm (arity (ranks_of (rules_of K))) (start_body (rules_of K)) p ys → rules_of (with_nodes K r ms) ≡ with_start (rules_of K) p ys
  with-is ms ys e =
      rules-with_nodes K r ms ∙ ap (λ (s : ℕ). with_body (rules_of K) s (labels_of ms)) last
      ∙ ap (with_body (rules_of K) (length (rules_of K) - 1)) e

  module _ (g : IsGrammar (rules_of K)) (f : ℕ) (is : get_or (body_at (rules_of K) r) p Bottom ≡ Symbol f) where
    is-there : get_or (start_body (rules_of K)) p Bottom ≡ Symbol f
    is-there = ap (λ (s : ℕ). get_or (body_at (rules_of K) s) p Bottom) (sym last) ∙ is

    -- a node with another symbol
    pub relabelled-value : (symbol : ℕ) → ChangesSymbol (rules_of K) (rules_of (with_nodes K r (labelled (nodes_at K r) p (Symbol symbol)))) p symbol
    relabelled-value symbol =
        subst (λ (H : List Rule). ChangesSymbol (rules_of K) H p symbol)
        (sym (with-is (labelled (nodes_at K r) p (Symbol symbol)) (Symbol symbol ∷ kids (rules_of K) g p in-body f is-there)
        (labels-labelled (nodes_at K r) p (Symbol symbol) there
        ∙ ap (λ (ls : List Label). take p ls ++ (Symbol symbol ∷ drop (p + 1) ls)) (sym body-is)
        ∙ symbol-at (rules_of K) g p in-body f is-there (Symbol symbol))))
        (changes-symbol (rules_of K) g p in-body f is-there symbol)

    -- a node that gives way to its second child
    pub lifted-value : Agree (ranks_of (rules_of K)) (nodes_at K r) → GivesWay (rules_of K) (rules_of (with_nodes K r (lifted_nodes (nodes_at K r) p))) p
    lifted-value agree =
        let ranks : List ℕ = ranks_of (rules_of K) in
        let ns : List KeyedNode = nodes_at K r in
        let ms : List KeyedNode = get_or (terms kids_of 2 (drop (p + 1) ns)) 1 [] in
        let e : labels_of ms ≡ get_or (terms (arity ranks) 2 (drop (p + 1) (labels_of ns))) 1 [] =
        ap (λ (tss : List (List KeyedNode)). labels_of (get_or tss 1 [])) (terms-agree ranks 2 (drop (p + 1) ns) (agree-drop ranks (p + 1) ns agree))
        ∙ sym (get_or-map labels_of (terms (λ (m : KeyedNode). arity ranks m.label) 2 (drop (p + 1) ns)) 1 [])
        ∙ ap (λ (lss : List (List Label)). get_or lss 1 []) (sym (terms-map (arity ranks) 2 (drop (p + 1) ns)))
        ∙ ap (λ (ls : List Label). get_or (terms (arity ranks) 2 ls) 1 []) (sym (drop-map (λ (n : KeyedNode). n.label) (p + 1) ns)) in
        let right-labels : labels_of ms ≡ right (rules_of K) g p in-body f is-there =
        e ∙ ap (λ (ls : List Label). get_or (terms (arity ranks) 2 (drop (p + 1) ls)) 1 []) (sym body-is) ∙ right-is (rules_of K) g p in-body f is-there in
        subst (λ (H : List Rule). GivesWay (rules_of K) H p)
        (sym (with-is (lifted_nodes ns p) (right (rules_of K) g p in-body f is-there)
        (labels-with ranks ns p agree ms ∙ ap (with_subterm (arity ranks) (labels_of ns) p) right-labels
        ∙ ap (λ (ls : List Label). with_subterm (arity ranks) ls p (right (rules_of K) g p in-body f is-there)) (sym body-is))))
        (gives-way (rules_of K) g p in-body f is-there)

-- what a relabelling makes of the start's value
pub relabelling-changes : (K H : List KeyedRule) (key : Key) (symbol : ℕ) → IsLawful K → (S : StandsInStart K key)
    → H ≡ with_nodes K S.node.here.rule (labelled (nodes_at K S.node.here.rule) S.node.here.place (Symbol symbol)) → ChangesSymbol (rules_of K) (rules_of H) S.node.here.place symbol
relabelling-changes K H key symbol L S e =
    let r : ℕ = S.node.here.rule in
    let p : ℕ = S.node.here.place in
    let there = (key_at-within K r p key S.node.here.there).1 in
    subst (λ (X : List KeyedRule). ChangesSymbol (rules_of K) (rules_of X) p symbol) (sym e) (relabelled-value K r p S.start there L.grammar S.node.symbol S.node.label symbol)

-- what lifting makes of it
pub lifting-changes : (K H : List KeyedRule) (key : Key) → IsLawful K → (S : StandsInStart K key)
    → H ≡ with_nodes K S.node.here.rule (lifted_nodes (nodes_at K S.node.here.rule) S.node.here.place) → GivesWay (rules_of K) (rules_of H) S.node.here.place
lifting-changes K H key L S e =
    let r : ℕ = S.node.here.rule in
    let p : ℕ = S.node.here.place in
    let there = (key_at-within K r p key S.node.here.there).1 in
    subst (λ (X : List KeyedRule). GivesWay (rules_of K) (rules_of X) p) (sym e)
    (lifted-value K r p S.start there L.grammar S.node.symbol S.node.label (agree-of (ranks_of (rules_of K)) (nodes_at K r) (L.arities r)))
