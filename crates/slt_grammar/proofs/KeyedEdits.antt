-- Rules with other nodes for one of them: when they are lawful, and what is counted of them.
use Rattle.std.proofs.Common.{◌≡◌, ◌⊎◌, inl, inr, ℕ, zero, suc, ◌+◌, ◌<◌, List, [], ◌∷◌, length, get_or, take, drop, Some, refl, sym, ap, ◌∙◌, subst, arith}
use Rattle.std.proofs.lemmas.List.{map-append, take-map, drop-map, length-map}
use Rattle.std.proofs.lemmas.Bool.{cases_eq}
use Rattle.rule_arena.specs.Preorder.{subterm, with_subterm}
use Rattle.rule_arena.specs.Terms.{Node, kids_of}
use Rattle.rule_arena.specs.declared.key.Key.{Key}
use Rattle.rule_arena.specs.declared.label.Label.{Label}
use Rattle.rule_arena.specs.declared.label.Label.TheVariants.{Param}
use Rattle.slt_grammar.specs.Algebras.{ranks_of}
use Rattle.slt_grammar.specs.Bodies.{arity, params, real_nodes, calls_in, CallsBelow, IsTerm}
use Rattle.slt_grammar.specs.Editing.{with_body}
use Rattle.slt_grammar.specs.Grammars.{IsGrammar, body_at, rank_at}
use Rattle.slt_grammar.specs.Holding.{IsLawful, AreCounted}
use Rattle.slt_grammar.specs.Keyed.{KeyedRule, HasArities, key_at, nodes_at, rules_of, labels_of}
use Rattle.slt_grammar.specs.KeyedEdits.{with_nodes}
use Rattle.slt_grammar.specs.declared.rules.Rule.{Rule}
use Rattle.slt_grammar.proofs.Agreeing.{Agree, agree-of, of-agree, agree-with, labels-with, labels-subterm}
use Rattle.slt_grammar.proofs.Inlining.{ranks-with_body}
use Rattle.slt_grammar.proofs.Keeping.{grammar-with_body, grammar-with_subterm, length-with_body}
use Rattle.slt_grammar.proofs.KeyedLemmas.{length-rules_of, body_at-rules_of, key_at-within}
use Rattle.slt_grammar.proofs.Weights.{weigh, call_weight, real_weight, calls-weigh, real-weigh, total, calls-total, size-total, total-with_body}

-- other nodes for a rule are another body
pub rules-with_nodes : (G : List KeyedRule) (r : ℕ) (ns : List Node) → rules_of (with_nodes G r ns) ≡ with_body (rules_of G) r (labels_of ns)
rules-with_nodes G r ns =
    let f : KeyedRule → Rule = λ R. record { rank = R.rank; body = labels_of R.nodes } in
    map-append f (take r G) (record { rank = rank_at (rules_of G) r; nodes = ns } ∷ drop (r + 1) G)
    ∙ rw (take-map f r G, drop-map f (r + 1) G) refl

pub nodes-with_nodes : (G : List KeyedRule) (r : ℕ) (ns : List Node) → r < length G → nodes_at (with_nodes G r ns) r ≡ ns
nodes-with_nodes [] r ns h = absurd (omega arith)
nodes-with_nodes (R ∷ G) zero ns h = refl
nodes-with_nodes (R ∷ G) (suc r) ns h = let e : suc r + 1 ≡ suc (r + 1) = omega arith in rw e (nodes-with_nodes G r ns (omega arith))

pub nodes-others : (G : List KeyedRule) (r s : ℕ) (ns : List Node) → r < length G → (s ≡ r → ⊥) → nodes_at (with_nodes G r ns) s ≡ nodes_at G s
nodes-others [] r s ns h d = absurd (omega arith)
nodes-others (R ∷ G) zero zero ns h d = absurd (d refl)
nodes-others (R ∷ G) zero (suc s) ns h d = refl
nodes-others (R ∷ G) (suc r) zero ns h d = refl
nodes-others (R ∷ G) (suc r) (suc s) ns h d = let e : suc r + 1 ≡ suc (r + 1) = omega arith in rw e (nodes-others G r s ns (omega arith) (λ z. d (ap suc z)))

pub length-with_nodes : (G : List KeyedRule) (r : ℕ) (ns : List Node) → r < length G → length (with_nodes G r ns) ≡ length G
length-with_nodes G r ns h =
    sym (length-rules_of (with_nodes G r ns)) ∙ ap length (rules-with_nodes G r ns) ∙ length-with_body (rules_of G) r (labels_of ns) (omega (arith, length-rules_of G)) ∙ length-rules_of G

module _ (G : List KeyedRule) (r : ℕ) (ms : List Node) (L : IsLawful G) (there : r < length G) where
  within : r < length (rules_of G)
  within = omega (arith, length-rules_of G)

  pub ranks-with : ranks_of (rules_of (with_nodes G r ms)) ≡ ranks_of (rules_of G)
  ranks-with = ap ranks_of (rules-with_nodes G r ms) ∙ ranks-with_body (rules_of G) r (labels_of ms) within

  pub arities-with : Agree (ranks_of (rules_of G)) ms → (s : ℕ) → HasArities (ranks_of (rules_of (with_nodes G r ms))) (nodes_at (with_nodes G r ms) s)
  arities-with a s =
      subst (λ ranks. HasArities ranks (nodes_at (with_nodes G r ms) s)) (sym ranks-with) (of-agree (ranks_of (rules_of G)) (nodes_at (with_nodes G r ms) s) (by (cases_eq s r)))
    where
      by : (s ≡ r) ⊎ (s ≡ r → ⊥) → Agree (ranks_of (rules_of G)) (nodes_at (with_nodes G r ms) s)
      by (inl z) = subst (λ j. Agree (ranks_of (rules_of G)) (nodes_at (with_nodes G r ms) j)) (sym z) (subst (Agree (ranks_of (rules_of G))) (sym (nodes-with_nodes G r ms there)) a)
      by (inr d) = subst (Agree (ranks_of (rules_of G))) (sym (nodes-others G r s ms there d)) (agree-of (ranks_of (rules_of G)) (nodes_at G s) (L.arities s))

  -- a lawful body
  pub lawful-with : CallsBelow r (labels_of ms) → IsTerm (ranks_of (rules_of G)) (labels_of ms) → params (labels_of ms) ≡ rank_at (rules_of G) r → Agree (ranks_of (rules_of G)) ms → IsLawful (with_nodes G r ms)
  lawful-with c t p a = record {
    grammar = subst IsGrammar (sym (rules-with_nodes G r ms)) (grammar-with_body (rules_of G) r (labels_of ms) L.grammar within c t p);
    arities = arities-with a;
  }

  -- what is counted: some labels went, and others came
  pub counted-with : (calls calls' : List ℕ) (nodes nodes' : ℕ) (gone come : List Label) → AreCounted G calls nodes → ((w : Label → ℕ) → w Param ≡ 0 → weigh w (labels_of ms) + weigh w gone ≡ weigh w (labels_of (nodes_at G r)) + weigh w come)
      → length calls' ≡ length calls → ((q : ℕ) → q < length calls → get_or calls' q 0 + calls_in q gone ≡ get_or calls q 0 + calls_in q come) → nodes' + real_nodes gone ≡ nodes + real_nodes come
      → AreCounted (with_nodes G r ms) calls' nodes'
  counted-with calls calls' nodes nodes' gone come C same len each real = record {
    many = len ∙ C.many ∙ sym (length-with_nodes G r ms there);
    each = λ q h.
        let k : q < length G = omega (arith, length-with_nodes G r ms there) in
        omega (arith, each q (omega (arith, C.many)), C.each q k, moved (call_weight q) refl, calls-weigh q gone, calls-weigh q come, calls-total q (rules_of G), calls-total q (rules_of (with_nodes G r ms)));
    real = omega (arith, real, C.real, moved real_weight refl, real-weigh gone, real-weigh come, size-total (rules_of G), size-total (rules_of (with_nodes G r ms)));
  }
    where
      moved : (w : Label → ℕ) → w Param ≡ 0 → total w (rules_of (with_nodes G r ms)) + weigh w gone ≡ total w (rules_of G) + weigh w come
      moved w z =
          omega (
            arith,
            same w z,
            ap (total w) (rules-with_nodes G r ms),
            total-with_body w (rules_of G) r (labels_of ms) within,
            ap (weigh w) (body_at-rules_of G r),
          )

-- another term in a subterm's place
pub lawful-with_subterm : (G : List KeyedRule) (r p : ℕ) (key : Key) (ys : List Node) → IsLawful G → key_at G r p ≡ Some key → CallsBelow r (labels_of ys) → IsTerm (ranks_of (rules_of G)) (labels_of ys)
    → params (labels_of ys) ≡ params (labels_of (subterm kids_of (nodes_at G r) p)) → Agree (ranks_of (rules_of G)) ys → IsLawful (with_nodes G r (with_subterm kids_of (nodes_at G r) p ys))
lawful-with_subterm G r p key ys L there c t e a =
    let R = rules_of G in
    let ranks : List ℕ = ranks_of R in
    let ns : List Node = nodes_at G r in
    let w = key_at-within G r p key there in
    let h : r < length R = omega (arith, w.0, length-rules_of G) in
    let b : body_at R r ≡ labels_of ns = body_at-rules_of G r in
    let agree = agree-of ranks ns (L.arities r) in
    let len : p < length (body_at R r) = omega (arith, w.1, ap length b, length-map ns (λ (n : Node). n.label)) in
    let same : subterm (arity ranks) (body_at R r) p ≡ labels_of (subterm kids_of ns p) = ap (λ ls. subterm (arity ranks) ls p) b ∙ labels-subterm ranks ns p agree in
    let made : labels_of (with_subterm kids_of ns p ys) ≡ with_subterm (arity ranks) (body_at R r) p (labels_of ys) = labels-with ranks ns p agree ys ∙ ap (λ ls. with_subterm (arity ranks) ls p (labels_of ys)) (sym b) in
    let f : rules_of (with_nodes G r (with_subterm kids_of ns p ys)) ≡ with_body R r (with_subterm (arity ranks) (body_at R r) p (labels_of ys)) = rules-with_nodes G r (with_subterm kids_of ns p ys) ∙ ap (with_body R r) made in
    record {
      grammar = subst IsGrammar (sym f) (grammar-with_subterm R r p (labels_of ys) L.grammar h len c t (e ∙ ap params (sym same)));
      arities = arities-with G r (with_subterm kids_of ns p ys) L w.0 (agree-with ranks ns p ys agree a);
    }
