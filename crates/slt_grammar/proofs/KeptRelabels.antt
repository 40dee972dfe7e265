-- Rules that are kept, once a node got another symbol.
use Rattle.std.proofs.Common.{◌≡◌, ◌≢◌, ℕ, zero, suc, ◌+◌, ◌<◌, List, [], ◌∷◌, length, get_or, Some, refl, sym, ap, ◌∙◌, subst, arith}
use Rattle.rule_arena.specs.Preorder.{AreTerms}
use Rattle.rule_arena.specs.Terms.{Node, Terms, At, term_at, labelled}
use Rattle.rule_arena.specs.declared.key.Key.{Key}
use Rattle.rule_arena.specs.declared.label.Label.{Label}
use Rattle.rule_arena.specs.declared.label.Label.TheVariants.{Bottom, Symbol, Call, Param}
use Rattle.slt_grammar.specs.Algebras.{ranks_of}
use Rattle.slt_grammar.specs.Bodies.{arity, params, CallsBelow, IsTerm}
use Rattle.slt_grammar.specs.Grammars.{body_at}
use Rattle.slt_grammar.specs.Holding.{seen, terms_of, IsKept, IsLawful, AreCounted, Changed}
use Rattle.slt_grammar.specs.Keyed.{KeyedRule, nodes_at, rules_of, labels_of}
use Rattle.slt_grammar.specs.KeyedEdits.{Stands, with_nodes}
use Rattle.slt_grammar.specs.Placing.{placed}
use Rattle.slt_grammar.proofs.Agreeing.{Agree, agree-of}
use Rattle.slt_grammar.proofs.Changes.{changed-one, kept-changed, seen-changed}
use Rattle.slt_grammar.proofs.Held.{node-is, root-at, nodes-are, many-rules, rule-within}
use Rattle.slt_grammar.proofs.KeptLemmas.{lawful, counted, known-body, body-below}
use Rattle.slt_grammar.proofs.KeyedEdits.{lawful-with, counted-with}
use Rattle.slt_grammar.proofs.KeyedLemmas.{body_at-rules_of, length-rules_of}
use Rattle.slt_grammar.proofs.Placed.{labelled-placed, known-labelled}
use Rattle.slt_grammar.proofs.Weights.{weigh}

-- a body where one symbol is another
module _ (f g : ℕ) where
  below-symbol : (n : ℕ) (ns : List Node) (p : ℕ) → get_or (labels_of ns) p Bottom ≡ Symbol f → CallsBelow n (labels_of ns) → CallsBelow n (labels_of (labelled ns p (Symbol g)))
  below-symbol n [] p e b = tt
  below-symbol n (m ∷ ns) zero e b = rest m.label b
    where
      rest : (l : Label) → CallsBelow n (l ∷ labels_of ns) → CallsBelow n (labels_of ns)
      rest Bottom b = b
      rest (Symbol h) b = b
      rest (Call q) b = b.1
      rest Param b = b
  below-symbol n (m ∷ ns) (suc p) e b = more m.label b (λ c. below-symbol n ns p e c)
    where
      more : (l : Label) → CallsBelow n (l ∷ labels_of ns) → (CallsBelow n (labels_of ns) → CallsBelow n (labels_of (labelled ns p (Symbol g)))) → CallsBelow n (l ∷ labels_of (labelled ns p (Symbol g)))
      more Bottom b ih = ih b
      more (Symbol h) b ih = ih b
      more (Call q) b ih = (b.0, ih b.1)
      more Param b ih = ih b

  terms-symbol : (ranks : List ℕ) (n : ℕ) (ns : List Node) (p : ℕ) → get_or (labels_of ns) p Bottom ≡ Symbol f → AreTerms (arity ranks) n (labels_of ns) → AreTerms (arity ranks) n (labels_of (labelled ns p (Symbol g)))
  terms-symbol ranks n [] p e t = t
  terms-symbol ranks zero (m ∷ ns) p e t = absurd t
  terms-symbol ranks (suc n) (m ∷ ns) zero e t = subst (λ (l : Label). AreTerms (arity ranks) (arity ranks l + n) (labels_of ns)) e t
  terms-symbol ranks (suc n) (m ∷ ns) (suc p) e t = terms-symbol ranks (arity ranks m.label + n) ns p e t

  weigh-symbol : (w : Label → ℕ) (ns : List Node) (p : ℕ) → get_or (labels_of ns) p Bottom ≡ Symbol f → weigh w (labels_of (labelled ns p (Symbol g))) + weigh w (Symbol f ∷ []) ≡ weigh w (labels_of ns) + weigh w (Symbol g ∷ [])
  weigh-symbol w [] p e = absurd (cc)
  weigh-symbol w (m ∷ ns) zero e = omega (arith, ap w e)
  weigh-symbol w (m ∷ ns) (suc p) e = omega (arith, weigh-symbol w ns p e)

  params-symbol : (ns : List Node) (p : ℕ) → get_or (labels_of ns) p Bottom ≡ Symbol f → params (labels_of (labelled ns p (Symbol g))) ≡ params (labels_of ns)
  params-symbol [] p e = refl
  params-symbol (m ∷ ns) zero e = ap (λ (l : Label). params (l ∷ labels_of ns)) (sym e)
  params-symbol (m ∷ ns) (suc p) e = more m.label (params-symbol ns p e)
    where
      more : (l : Label) → params (labels_of (labelled ns p (Symbol g))) ≡ params (labels_of ns) → params (l ∷ labels_of (labelled ns p (Symbol g))) ≡ params (l ∷ labels_of ns)
      more Bottom ih = ih
      more (Symbol h) ih = ih
      more (Call q) ih = ih
      more Param ih = ap suc ih

  agree-symbol : (ranks : List ℕ) (ns : List Node) (p : ℕ) → get_or (labels_of ns) p Bottom ≡ Symbol f → Agree ranks ns → Agree ranks (labelled ns p (Symbol g))
  agree-symbol ranks [] p e a = tt
  agree-symbol ranks (m ∷ ns) zero e a = (a.0 ∙ ap (arity ranks) e, a.1)
  agree-symbol ranks (m ∷ ns) (suc p) e a = (a.0, agree-symbol ranks ns p e a.1)

module _ (a : Terms) (roots : List Key) (ranks calls order : List ℕ) (nodes : ℕ) (G : List KeyedRule) (K : IsKept a roots ranks calls order nodes) (see : seen order ranks (terms_of a roots) ≡ G)
    (at : Key) (symbol : ℕ) (T : Stands G at) (b : Terms)
    (changed : (x : At a at) → term_at b x.root ≡ Some (labelled x.nodes x.place (Symbol symbol)))
    (others : (x : At a at) (r : ℕ) → r ≢ x.root → term_at b r ≡ term_at a r) where
  abbrev pub r : ℕ
  r = T.rule

  abbrev pub raw : List Node
  raw = get_or (terms_of a roots) r []

  abbrev pub at-here : At a at
  at-here = node-is a roots ranks order G K.rules see r T.place at T.there

  within : r < length roots
  within = rule-within a roots ranks order G K.rules see r T.place at T.there

  in-list : r < length G
  in-list = omega (arith, within, many-rules a roots ranks order G K.rules see)

  one : Changed a b roots roots r (labelled raw T.place (Symbol symbol))
  one =
      let k = root-at a roots ranks order G K.rules see r T.place at T.there in
      changed-one a b roots r k.0 (labelled raw T.place (Symbol symbol)) K.rules.held k.1 (changed at-here) (λ s h d. others at-here s d)

  nodes-seen : placed order (labelled raw T.place (Symbol symbol)) ≡ labelled (nodes_at G r) T.place (Symbol symbol)
  nodes-seen = labelled-placed order raw T.place (Symbol symbol) ∙ ap (λ (ns : List Node). labelled ns T.place (Symbol symbol)) (sym (nodes-are a roots ranks order G K.rules see r))

  pub seen-relabelled : seen order ranks (terms_of b roots) ≡ with_nodes G r (labelled (nodes_at G r) T.place (Symbol symbol))
  seen-relabelled = seen-changed a b roots roots ranks order r (labelled raw T.place (Symbol symbol)) K.rules one within G see ∙ ap (λ (ns : List Node). with_nodes G r ns) nodes-seen

  pub kept-relabelled : (old : ℕ) → get_or (body_at (rules_of G) T.rule) T.place Bottom ≡ Symbol old → IsKept b roots ranks calls order nodes
  kept-relabelled old label =
      let L = lawful a roots ranks calls order nodes G K see in
      let l : get_or (labels_of (nodes_at G r)) T.place Bottom ≡ Symbol old = ap (λ ls. get_or ls T.place Bottom) (sym (body_at-rules_of G r)) ∙ label in
      let w = L.grammar.each r (omega (arith, in-list, length-rules_of G)) in
      let rs : List ℕ = ranks_of (rules_of G) in
      let ms : List Node = labelled (nodes_at G r) T.place (Symbol symbol) in
      let m = ap (λ (ns : List Node). with_nodes G r ns) nodes-seen in
      let good = lawful-with G r ms L in-list (below-symbol old symbol r (nodes_at G r) T.place l (body-below a roots ranks calls order nodes G K see r in-list))
      (terms-symbol old symbol rs 1 (nodes_at G r) T.place l (subst (IsTerm rs) (body_at-rules_of G r) w.shaped.term))
      (params-symbol old symbol (nodes_at G r) T.place l ∙ sym (ap params (body_at-rules_of G r)) ∙ w.linear) (agree-symbol old symbol rs (nodes_at G r) T.place l (agree-of rs (nodes_at G r) (L.arities r))) in
      let many = counted-with G r ms L in-list calls calls nodes nodes (Symbol old ∷ []) (Symbol symbol ∷ []) (counted a roots ranks calls order nodes G K see)
      (λ w z. weigh-symbol old symbol w (nodes_at G r) T.place l) refl (λ q h. refl) refl in
      kept-changed a b roots roots ranks order r (labelled raw T.place (Symbol symbol)) K.rules one within G calls nodes see (known-labelled order raw T.place (Symbol symbol) (known-body a roots ranks calls order nodes G K see r) tt)
      (subst IsLawful (sym m) good) (subst (λ (H : List KeyedRule). AreCounted H calls nodes) (sym m) many)
