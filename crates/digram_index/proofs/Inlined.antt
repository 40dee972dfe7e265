-- One call that gave way to a copy of its rule's body: which nodes stay.
use Rattle.std.proofs.Common.{◌≡◌, ◌≢◌, ◌⊎◌, inl, inr, ℕ, zero, suc, ◌+◌, ◌<◌, List, [], ◌∷◌, ◌++◌, length, get_or, take, drop, Some, None, slice_get, refl, sym, ap, ◌∙◌, subst, arith}
use Rattle.rule_arena.specs.Terms.{Node, kids_of}
use Rattle.rule_arena.specs.declared.key.Key.{Key}
use Rattle.rule_arena.specs.declared.label.Label.{Label}
use Rattle.rule_arena.specs.declared.label.Label.TheVariants.{Bottom, Symbol, Call, Param}
use Rattle.rule_arena.proofs.PreorderLemmas.{length-terms}
use Rattle.slt_grammar.specs.Algebras.{ranks_of}
use Rattle.slt_grammar.specs.Copying.{hole, holes_in, copied, copied_node, args_at, back_at, kids_at, inlined_nodes}
use Rattle.slt_grammar.specs.Grammars.{body_at}
use Rattle.slt_grammar.specs.Holding.{IsLawful}
use Rattle.slt_grammar.specs.Keyed.{KeyedRule, nodes_at, rules_of}
use Rattle.slt_grammar.specs.KeyedEdits.{StandsAsCall, with_nodes}
use Rattle.rule_arena.proofs.NodeLemmas.{node_of}
use Rattle.slt_grammar.proofs.Agreeing.{label-is}
use Rattle.slt_grammar.proofs.FoldedRules.{flat}
use Rattle.slt_grammar.proofs.InlinedRules.{agree, behind, earlier, in-list, kids-holes}
use Rattle.slt_grammar.proofs.KeyedEdits.{length-with_nodes, nodes-others, ranks-with}
use Rattle.slt_grammar.proofs.KeyedLemmas.{body_at-rules_of, nodes-are-term}
use Rattle.slt_grammar.specs.Keyed.{Keyed, IsKeyed}
use Rattle.slt_grammar.proofs.Inlinings.{cut-at}

pub split-append : {X : Type 0} (xs ys : List X) (i : ℕ) (x : X) → slice_get (xs ++ ys) i ≡ Some x → (slice_get xs i ≡ Some x) ⊎ ((j : ℕ) × ((i ≡ length xs + j) × (slice_get ys j ≡ Some x)))
split-append [] ys i x e = inr (i, (omega arith, e))
split-append (z ∷ xs) ys zero x e = inl e
split-append (z ∷ xs) ys (suc i) x e = elim (split-append xs ys i x e) [ inl h ↦ inl h | inr h ↦ inr (h.0, (let w = h.1.0 in omega arith, h.1.1)) ]

-- a node is one of these
abbrev pub Has : List Node → Node → Type 0
Has ns m = (p : ℕ) × (slice_get ns p ≡ Some m)

has-left : (xs ys : List Node) (m : Node) → Has xs m → Has (xs ++ ys) m
has-left [] ys m (p, e) = absurd (let z : None ≡ Some m = e in cc)
has-left (x ∷ xs) ys m (zero, e) = (zero, e)
has-left (x ∷ xs) ys m (suc p, e) = let h = has-left xs ys m (p, e) in (suc h.0, h.1)

has-right : (xs ys : List Node) (m : Node) → Has ys m → Has (xs ++ ys) m
has-right [] ys m h = h
has-right (x ∷ xs) ys m h = let k = has-right xs ys m h in (suc k.0, k.1)

has-split : (xs ys : List Node) (m : Node) → Has (xs ++ ys) m → Has xs m ⊎ Has ys m
has-split xs ys m h = elim (split-append xs ys h.0 m h.1) [ inl e ↦ inl (h.0, e) | inr e ↦ inr (e.0, e.1.1) ]

-- a copy has the nodes of all arguments
in-copied : (ns : List Node) (given : List (List Node)) (keys : List Key) (m : Node) → length given ≡ holes_in ns → Has (flat given) m → Has (copied ns given keys) m
in-copied [] [] keys m h i = i
in-copied [] (g ∷ given) keys m h i = absurd (omega (arith, h))
in-copied (n ∷ ns) given keys m h i = at n.label refl given h i (λ g q j. in-copied ns g (drop 1 keys) m q j)
  where
    there : (x : Node) (rest : List Node) → Has rest m → Has (x ∷ rest) m
    there x rest k = (suc k.0, k.1)

    at : (l : Label) → n.label ≡ l → (given : List (List Node)) → length given ≡ holes_in (n ∷ ns) → Has (flat given) m
        → ((g : List (List Node)) → length g ≡ holes_in ns → Has (flat g) m → Has (copied ns g (drop 1 keys)) m)
        → Has (copied_node n.label n (get_or keys 0 n.key) given (copied ns (drop (hole n.label) given) (drop 1 keys))) m
    at Bottom e given h i ih = let q : length given ≡ holes_in ns = omega (arith, h, ap hole e) in rw e (there _ _ (ih given q i))
    at (Symbol f) e given h i ih = let q : length given ≡ holes_in ns = omega (arith, h, ap hole e) in rw e (there _ _ (ih given q i))
    at (Call c) e given h i ih = let q : length given ≡ holes_in ns = omega (arith, h, ap hole e) in rw e (there _ _ (ih given q i))
    at Param e [] h i ih = absurd (omega (arith, h, ap hole e))
    at Param e (g ∷ given) h i ih =
        let q : length given ≡ holes_in ns = omega (arith, h, ap hole e) in
        let all : List Node = copied ns given (drop 1 keys) in
        rw e (elim (has-split g (flat given) m i) [ inl k ↦ has-left g all m k | inr k ↦ has-right g all m (ih given q k) ])

module _ (g : Keyed) (K : IsKeyed g) (call : Key) (C : StandsAsCall g.rules call) (keys : List Key) where
  abbrev pub G : List KeyedRule
  G = g.rules

  abbrev pub r : ℕ
  r = C.here.rule

  abbrev pub p : ℕ
  p = C.here.place

  abbrev pub q : ℕ
  q = C.called

  pub L : IsLawful g.rules
  L = record { grammar = K.grammar; arities = K.arities }

  abbrev pub ms : List Node
  ms = inlined_nodes (nodes_at g.rules C.here.rule) C.here.place (nodes_at g.rules C.called) keys

  abbrev pub H : List KeyedRule
  H = with_nodes g.rules C.here.rule (inlined_nodes (nodes_at g.rules C.here.rule) C.here.place (nodes_at g.rules C.called) keys)

  pub there-in : C.here.rule < length g.rules
  there-in = in-list g.rules C.here.rule C.here.place C.called call keys L C.here.there C.label

  pub callee-before : C.called < C.here.rule
  callee-before = earlier g.rules C.here.rule C.here.place C.called call keys L C.here.there C.label

  pub callee-in : C.called < length g.rules
  callee-in = let a = there-in in let b = callee-before in omega (arith, a, b)

  pub length-after : length H ≡ length g.rules
  length-after = length-with_nodes g.rules C.here.rule ms there-in

  pub ranks-after : ranks_of (rules_of H) ≡ ranks_of (rules_of g.rules)
  ranks-after = ranks-with g.rules C.here.rule ms L there-in

  pub nodes-after : (t : ℕ) → t ≢ C.here.rule → nodes_at H t ≡ nodes_at g.rules t
  nodes-after t d = nodes-others g.rules C.here.rule t ms there-in d

  -- each other node of the body stays
  pub stays : (m : Node) → Has (nodes_at g.rules C.here.rule) m → m.key ≢ call → Has ms m
  stays m h d =
      let ns : List Node = nodes_at g.rules C.here.rule in
      let cut = cut-at ns C.here.place call (nodes-are-term g K C.here.rule there-in) C.here.there in
      let args : List (List Node) = args_at ns C.here.place in
      let back : List Node = back_at ns C.here.place in
      let copy : List Node = copied (nodes_at g.rules C.called) args keys in
      let given : length args ≡ holes_in (nodes_at g.rules C.called) =
      length-terms kids_of (kids_at ns C.here.place) (drop (C.here.place + 1) ns) ∙ kids-holes g.rules C.here.rule C.here.place C.called call keys L C.here.there C.label in
      let same : ms ≡ take C.here.place ns ++ (copy ++ back) =
      ap (λ (xs : List Node). take C.here.place ns ++ (copy ++ xs))
      (behind (ranks_of (rules_of g.rules)) ns C.here.place call (nodes_at g.rules C.called) keys (agree g.rules C.here.rule C.here.place C.called call keys L C.here.there C.label) C.here.there
      (kids-holes g.rules C.here.rule C.here.place C.called call keys L C.here.there C.label)) in
      subst (λ (xs : List Node). Has xs m) (sym same)
      (elim (has-split (take C.here.place ns) (cut.node ∷ (flat args ++ back)) m (subst (λ (xs : List Node). Has xs m) cut.whole h)) [
        | inl k ↦ has-left (take C.here.place ns) (copy ++ back) m k
        | inr k ↦ has-right (take C.here.place ns) (copy ++ back) m (below cut.node (flat args) back copy cut.is (λ j. in-copied (nodes_at g.rules C.called) args keys m given j) k)
      ])
    where
      below : (n : Node) (args back copy : List Node) → n.key ≡ call → (Has args m → Has copy m) → Has (n ∷ (args ++ back)) m → Has (copy ++ back) m
      below n args back copy e f (zero, h) = absurd (d (let z : Some n ≡ Some m = h in let w : n ≡ m = cc in ap (λ (x : Node). x.key) (sym w) ∙ e))
      below n args back copy e f (suc i, h) = elim (has-split args back m (i, h)) [ inl k ↦ has-left copy back m (f k) | inr k ↦ has-right copy back m k ]

-- a key calls one rule, at one place
pub same-callee : (g : Keyed) → IsKeyed g → (key : Key) (C E : StandsAsCall g.rules key) → C.called ≡ E.called
same-callee g K key C E =
    let e = K.once key C.here.rule C.here.place E.here.rule E.here.place C.here.there E.here.there in
    let l : get_or (body_at (rules_of g.rules) C.here.rule) C.here.place Bottom ≡ get_or (body_at (rules_of g.rules) E.here.rule) E.here.place Bottom =
    ap (λ (r : ℕ). get_or (body_at (rules_of g.rules) r) C.here.place Bottom) e.0 ∙ ap (λ (p : ℕ). get_or (body_at (rules_of g.rules) E.here.rule) p Bottom) e.1 in
    let z : Call C.called ≡ Call E.called = sym C.label ∙ l ∙ E.label in
    cc

-- a call's node, with its label
pub call-label : (G : List KeyedRule) (key : Key) (C : StandsAsCall G key) → (n : Node) × ((slice_get (nodes_at G C.here.rule) C.here.place ≡ Some n) × ((n.key ≡ key) × (n.label ≡ Call C.called)))
call-label G key C =
    let w = node_of (nodes_at G C.here.rule) C.here.place key C.here.there in
    (w.0, (w.1.0, (w.1.1, sym (label-is (nodes_at G C.here.rule) C.here.place w.0 w.1.0) ∙ ap (λ ls. get_or ls C.here.place Bottom) (sym (body_at-rules_of G C.here.rule)) ∙ C.label)))
