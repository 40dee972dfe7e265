-- A digram over parameters that was put among the rules.
use Rattle.std.proofs.Common.{◌≡◌, ◌+◌, ◌-◌, ◌<◌, ◌≤◌, ℕ, zero, suc, List, [], ◌∷◌, ◌++◌, length, insert, take, drop, map, get_or, refl, ap, sym, ◌∙◌, subst, arith}
use Rattle.std.proofs.Math.ListN.{get_or-map}
use Rattle.std.proofs.lemmas.List.{length-map, take-map, drop-map}
use Rattle.rule_arena.specs.Terms.{Node}
use Rattle.rule_arena.specs.declared.label.Label.{Label}
use Rattle.slt_grammar.specs.Names.{Bottom, Symbol, Call, Param}
use Rattle.slt_grammar.specs.Algebras.{ranks_of}
use Rattle.slt_grammar.specs.Bodies.{arity, calls_in, params, CallsBelow, IsTerm}
use Rattle.slt_grammar.specs.Digrams.{digram_rank}
use Rattle.slt_grammar.specs.Editing.{shifted}
use Rattle.slt_grammar.specs.Grammars.{body_at, calls_of, value_at}
use Rattle.slt_grammar.specs.Holding.{IsLawful}
use Rattle.slt_grammar.specs.Keyed.{Keyed, KeyedRule, IsKeyed, rules_of, labels_of, nodes_at}
use Rattle.slt_grammar.specs.KeyedEdits.{shifted_keyed, rule_put, digram_body, parameters}
use Rattle.slt_grammar.specs.RulePuts.{IsLawfulBefore, IsPut}
use Rattle.slt_grammar.specs.declared.digram.Digram.{Digram}
use Rattle.slt_grammar.specs.declared.rules.Rule.{Rule}
use Rattle.slt_grammar.proofs.Adding.{ranks-added}
use Rattle.slt_grammar.proofs.Additions.{Fits, get-new, get-shifted, plain, put-is, put-calls, put-uncalled, put-length}
use Rattle.slt_grammar.proofs.Agreeing.{Agree, agree-of}
use Rattle.slt_grammar.proofs.Keeping.{shifted-before}
use Rattle.slt_grammar.proofs.KeyedLemmas.{body_at-rules_of, length-rules_of}
use Rattle.slt_grammar.proofs.Values.{value_at-added}
use Rattle.digram_index.specs.Settled.{HasTwoDisjoint}
use Rattle.pair_replace.specs.NewRules.{IsAdded}
use Rattle.pair_replace.proofs.Bodies.{digram-lawful, length-digram}
use Rattle.pair_replace.proofs.DigramBodies.{calls-digram}
use Rattle.pair_replace.proofs.Digrams.{IsSound, sound}

abbrev no_nodes : KeyedRule
no_nodes = record { rank = 0; nodes = [] }

rank-there : (G : List KeyedRule) (q : ℕ) → get_or (ranks_of (rules_of G)) q 0 ≡ (get_or G q no_nodes).rank
rank-there [] q = refl
rank-there (R ∷ G) zero = refl
rank-there (R ∷ G) (suc q) = rank-there G q

-- nodes that call earlier rules alone have the arities that they had
agree-before : (ranks ranks' : List ℕ) (p : ℕ) → ((q : ℕ) → q < p → get_or ranks' q 0 ≡ get_or ranks q 0) → (ns : List Node) → CallsBelow p (labels_of ns) → Agree ranks ns → Agree ranks' ns
agree-before ranks ranks' p e [] c a = tt
agree-before ranks ranks' p e (n ∷ ns) c a = at n.label c a.0 (λ d. agree-before ranks ranks' p e ns d a.1)
  where
    at : (l : Label) → CallsBelow p (l ∷ labels_of ns) → n.kids ≡ arity ranks l → (CallsBelow p (labels_of ns) → Agree ranks' ns) → (n.kids ≡ arity ranks' l) × Agree ranks' ns
    at Bottom d k ih = (k, ih d)
    at (Symbol f) d k ih = (k, ih d)
    at Param d k ih = (k, ih d)
    at (Call x) d k ih = (k ∙ sym (e x d.0), ih d.1)

arity-before : (ranks ranks' : List ℕ) (p : ℕ) → ((q : ℕ) → q < p → get_or ranks' q 0 ≡ get_or ranks q 0) → (u l : Label) → CallsBelow p (u ∷ l ∷ []) → (arity ranks' u ≡ arity ranks u) × (arity ranks' l ≡ arity ranks l)
arity-before ranks ranks' p e u l c = upper u c
  where
    lower : (l : Label) → CallsBelow p (l ∷ []) → arity ranks' l ≡ arity ranks l
    lower Bottom c = refl
    lower (Symbol f) c = refl
    lower (Call q) c = e q c.0
    lower Param c = refl

    upper : (u : Label) → CallsBelow p (u ∷ l ∷ []) → (arity ranks' u ≡ arity ranks u) × (arity ranks' l ≡ arity ranks l)
    upper Bottom c = (refl, lower l c)
    upper (Symbol f) c = (refl, lower l c)
    upper (Call q) c = (e q c.0, lower l c.1)
    upper Param c = (refl, lower l c)

module _ (g h : Keyed) (K : IsKeyed g) (M : IsKeyed h) (d : Digram) (place rank : ℕ) (body : List Label) (there : place < length g.rules)
    (below : CallsBelow place (d.upper ∷ d.lower ∷ [])) (made : body ≡ digram_body (ranks_of (rules_of g.rules)) d.upper (d.place - 1) d.lower)
    (W : IsLawfulBefore (rules_of g.rules) place rank body) (P : IsPut g.rules h.rules place rank body) where
  abbrev pub new : KeyedRule
  new = record { rank = rank; nodes = P.nodes }

  abbrev old-ranks : List ℕ
  old-ranks = ranks_of (rules_of g.rules)

  abbrev new-ranks : List ℕ
  new-ranks = ranks_of (rules_of h.rules)

  enough : place ≤ length (map (shifted_keyed place) g.rules)
  enough = omega (arith, there, length-map g.rules (shifted_keyed place))

  ranks-same : (q : ℕ) → q < place → get_or new-ranks q 0 ≡ get_or old-ranks q 0
  ranks-same q l =
      rank-there h.rules q
      ∙ ap (λ (G : List KeyedRule). (get_or G q no_nodes).rank) P.rules
      ∙ ap (λ (k : ℕ). (get_or (rule_put g.rules place new) k no_nodes).rank) (sym (shifted-before place q l))
      ∙ ap (λ (S : KeyedRule). S.rank) (get-shifted (map (shifted_keyed place) g.rules) place q new no_nodes enough ∙ get_or-map (shifted_keyed place) g.rules q no_nodes)
      ∙ sym (rank-there g.rules q)

  pub nodes-new : nodes_at h.rules place ≡ P.nodes
  nodes-new =
      ap (λ (G : List KeyedRule). nodes_at G place) P.rules
      ∙ ap (λ (S : KeyedRule). S.nodes) (get-new (map (shifted_keyed place) g.rules) place new no_nodes enough)

  calls-below : CallsBelow place (labels_of P.nodes)
  calls-below = subst (CallsBelow place) (sym P.labels) W.earlier

  pub agree-new : Agree new-ranks P.nodes
  agree-new = subst (Agree new-ranks) nodes-new (agree-of new-ranks (nodes_at h.rules place) (M.arities place))

  L : IsLawful g.rules
  L = record { grammar = K.grammar; arities = K.arities }

  F : Fits g.rules place new
  F = record {
    below = calls-below;
    term = subst (IsTerm old-ranks) (sym P.labels) W.term;
    small = W.small;
    linear = ap params P.labels ∙ W.linear;
    agree = agree-before new-ranks old-ranks place (λ q l. sym (ranks-same q l)) P.nodes calls-below agree-new;
  }

  -- the body is the same by the new ranks
  pub body-new : body_at (rules_of h.rules) place ≡ digram_body new-ranks d.upper (d.place - 1) d.lower
  body-new =
      let a = arity-before old-ranks new-ranks place ranks-same d.upper d.lower below in
      body_at-rules_of h.rules place ∙ ap labels_of nodes-new ∙ P.labels ∙ made
      ∙ ap (λ (k : ℕ). d.upper ∷ (parameters (d.place - 1) ++ (d.lower ∷ parameters (arity old-ranks d.lower + (k - suc (d.place - 1)))))) (sym a.0)
      ∙ ap (λ (k : ℕ). d.upper ∷ (parameters (d.place - 1) ++ (d.lower ∷ parameters (k + (arity new-ranks d.upper - suc (d.place - 1)))))) (sym a.1)

  pub uncalled : calls_of (rules_of h.rules) place ≡ 0
  uncalled = ap (λ (G : List KeyedRule). calls_of (rules_of G) place) P.rules ∙ put-uncalled g.rules place new L there F

  pub one-more : length h.rules ≡ length g.rules + 1
  one-more = let n = put-length g.rules place new L there F in let e = ap length P.rules in omega arith

  pub values-stay : (q : ℕ) → q < length g.rules → value_at (rules_of h.rules) (shifted place q) ≡ value_at (rules_of g.rules) q
  values-stay q l =
      let n = length-rules_of g.rules in
      ap (λ (G : List Rule). value_at G (shifted place q)) (ap rules_of P.rules ∙ put-is g.rules place new L there F)
      ∙ value_at-added (rules_of g.rules) place (plain new) q K.grammar (omega arith) (omega arith)

  pub calls-more : (q : ℕ) → calls_of (rules_of h.rules) (shifted place q) ≡ calls_of (rules_of g.rules) q + calls_in q (d.upper ∷ d.lower ∷ [])
  calls-more q =
      let c : calls_in q (labels_of P.nodes) ≡ calls_in q (d.upper ∷ d.lower ∷ []) = ap (calls_in q) (P.labels ∙ made) ∙ calls-digram old-ranks d.upper d.lower (d.place - 1) q in
      ap (λ (G : List KeyedRule). calls_of (rules_of G) (shifted place q)) P.rules
      ∙ put-calls g.rules place new L there F q ∙ ap (λ (k : ℕ). calls_of (rules_of g.rules) q + k) c

  pub upper-same : arity new-ranks d.upper ≡ arity old-ranks d.upper
  upper-same = (arity-before old-ranks new-ranks place ranks-same d.upper d.lower below).0

  pub body-old : body_at (rules_of h.rules) place ≡ digram_body old-ranks d.upper (d.place - 1) d.lower
  body-old = body_at-rules_of h.rules place ∙ ap labels_of nodes-new ∙ P.labels ∙ made

  pub ranks-more : ranks_of (rules_of h.rules) ≡ insert old-ranks place rank
  ranks-more =
      let f : Rule → ℕ = λ S. S.rank in
      ap (λ (G : List KeyedRule). ranks_of (rules_of G)) P.rules ∙ ap ranks_of (put-is g.rules place new L there F)
      ∙ ranks-added (rules_of g.rules) place (plain new)
      ∙ ap (λ (ks : List ℕ). ks ++ rank ∷ ranks_of (drop place (rules_of g.rules))) (sym (take-map f place (rules_of g.rules)))
      ∙ ap (λ (ks : List ℕ). take place old-ranks ++ rank ∷ ks) (sym (drop-map f place (rules_of g.rules)))

-- a digram's rule that was put before one that its labels do not call
pub added : (g h : Keyed) → IsKeyed g → IsKeyed h → (d : Digram) → HasTwoDisjoint (rules_of g.rules) d → digram_rank (rules_of g.rules) d ≤ 8 → (place rank : ℕ) → CallsBelow place (d.upper ∷ d.lower ∷ [])
    → ((r : ℕ) → CallsBelow r (d.upper ∷ d.lower ∷ []) → place ≤ r) → (body : List Label) → body ≡ digram_body (ranks_of (rules_of g.rules)) d.upper (d.place - 1) d.lower → rank ≡ length body - 2
    → IsPut g.rules h.rules place rank body → IsAdded g.rules h.rules d place
added g h K M d T small place rank below least body made many P = record {
  there = there;
  below = below;
  made = record {
    behind = below;
    body = body-old g h K M d place rank body there below made W P;
    ranks = ranks-more g h K M d place rank body there below made W P ∙ ap (insert (ranks_of (rules_of g.rules)) place) rank-is;
  };
  rule = record { rank = rank; nodes = P.nodes };
  rules = P.rules;
  many = one-more g h K M d place rank body there below made W P;
  first = S.first;
  last = let k = upper-same g h K M d place rank body there below made W P in let l = S.last in omega arith;
  body = body-new g h K M d place rank body there below made W P;
  uncalled = uncalled g h K M d place rank body there below made W P;
  calls = calls-more g h K M d place rank body there below made W P;
  values = values-stay g h K M d place rank body there below made W P;
}
  where
    S : IsSound g d
    S = sound g K d T

    rank-is : rank ≡ digram_rank (rules_of g.rules) d
    rank-is =
        let ranks : List ℕ = ranks_of (rules_of g.rules) in
        let n = length-digram ranks d.upper d.lower (d.place - 1) in
        let e = ap length made in
        let f = S.first in
        let l = S.last in
        omega (arith, many, e, n, f, l)

    there : place < length g.rules
    there = let p = least S.rule S.below in let w = S.within in omega arith

    W : IsLawfulBefore (rules_of g.rules) place rank body
    W = let f = S.first in let l = S.last in digram-lawful (rules_of g.rules) place (d.place - 1) rank d.upper d.lower body made many (omega arith) small S.upper S.lower below
