-- An index while a term gives way to a call: what is unlinked before, and what is left to link behind it.
use Rattle.std.proofs.Common.{◌≡◌, ◌≢◌, ◌⊎◌, inl, inr, ℕ, zero, suc, ◌<◌, List, [], ◌∷◌, ◌++◌, length, get_or, take, drop, Some, None, slice_get, refl, sym, ap, ◌∙◌, subst, arith}
use Rattle.std.proofs.lemmas.List.{length-take-le}
use Rattle.rule_arena.specs.Preorder.{span}
use Rattle.rule_arena.specs.Terms.{Node, kids_in, kids_of}
use Rattle.rule_arena.specs.declared.key.Key.{Key}
use Rattle.rule_arena.specs.declared.label.Label.{Label}
use Rattle.rule_arena.specs.declared.label.Label.TheVariants.{Bottom, Call}
use Rattle.rule_arena.proofs.NodeLemmas.{key_of_node}
use Rattle.slt_grammar.specs.Calling.{BeginsWith, called_nodes}
use Rattle.slt_grammar.specs.Copying.{args_at, inlined_nodes}
use Rattle.slt_grammar.specs.Holding.{IsLawful}
use Rattle.slt_grammar.specs.Keyed.{Keyed, KeyedRule, IsKeyed, key_at, nodes_at}
use Rattle.slt_grammar.specs.KeyedEdits.{IsInlined, Stands, StandsAsCall, with_nodes}
use Rattle.slt_grammar.proofs.Agreeing.{label-is}
use Rattle.slt_grammar.proofs.CalledRules.{args-are, in-list, in-nodes}
use Rattle.slt_grammar.proofs.FoldedRules.{flat}
use Rattle.slt_grammar.proofs.KeyedEdits.{nodes-others, nodes-with_nodes}
use Rattle.slt_grammar.proofs.KeyedLemmas.{body_at-rules_of}
use Rattle.digram_index.specs.Calls.{IsOfBody}
use Rattle.digram_index.specs.Copies.{Meets}
use Rattle.digram_index.specs.Digrams.{occurrence_at}
use Rattle.digram_index.specs.Keeping.{IsIndexBut}
use Rattle.digram_index.specs.Linked.{IsIndexOf, Linked, cell}
use Rattle.digram_index.specs.Partly.{IsAmong, IsPartOf, IsRight}
use Rattle.digram_index.proofs.Apartness.{one-key}
use Rattle.digram_index.proofs.BuildLemmas.{none-left}
use Rattle.digram_index.proofs.Kept.{near-kept}
use Rattle.digram_index.proofs.NearInlines.{IsLeft, IsMet, IsNewMet, WasThere, left, near, near-inlined, reached}
use Rattle.digram_index.proofs.Turned.{near-turned}

node-behind : (front : List Node) (n : Node) (rest : List Node) (p : ℕ) → length front ≡ p → slice_get (front ++ (n ∷ rest)) p ≡ Some n
node-behind [] n rest zero e = refl
node-behind [] n rest (suc p) e = absurd (omega (arith, e))
node-behind (m ∷ front) n rest zero e = absurd (omega (arith, e))
node-behind (m ∷ front) n rest (suc p) e = node-behind front n rest p (omega (arith, e))

module _ (g h : Keyed) (K : IsKeyed g) (K' : IsKeyed h) (at : Key) (q : ℕ) (arguments : List Key) (B : BeginsWith g.rules at q arguments) (call : Key)
    (made : h.rules ≡ with_nodes g.rules B.here.rule (called_nodes (nodes_at g.rules B.here.rule) B.here.place call (Call q) B.args))
    (inverse : g.rules ≡ with_nodes h.rules B.here.rule (inlined_nodes (nodes_at h.rules B.here.rule) B.here.place (nodes_at h.rules q) B.keys)) where
  abbrev r : ℕ
  r = B.here.rule

  abbrev p : ℕ
  p = B.here.place

  abbrev ns : List Node
  ns = nodes_at g.rules B.here.rule

  abbrev ms : List Node
  ms = called_nodes (nodes_at g.rules B.here.rule) B.here.place call (Call q) B.args

  L : IsLawful g.rules
  L = record { grammar = K.grammar; arities = K.arities }

  in-r : r < length g.rules
  in-r = in-list g.rules at q arguments call L B

  nodes-r : nodes_at h.rules r ≡ ms
  nodes-r = ap (λ (H : List KeyedRule). nodes_at H r) made ∙ nodes-with_nodes g.rules r ms in-r

  nodes-q : nodes_at h.rules q ≡ nodes_at g.rules q
  nodes-q = ap (λ (H : List KeyedRule). nodes_at H q) made ∙ nodes-others g.rules r q ms in-r (λ z. let e = B.earlier in omega (arith, z, e))

  abbrev node : Node
  node = record { key = call; label = Call q; kids = length B.args }

  pub call-node : slice_get (nodes_at h.rules r) p ≡ Some node
  call-node =
      let tail : List Node = drop (span kids_of 1 (drop p ns)) (drop p ns) in
      let l = in-nodes g.rules at q arguments call L B in
      ap (λ (xs : List Node). slice_get xs p) nodes-r ∙ node-behind (take p ns) node (flat B.args ++ tail) p (length-take-le p ns (omega (arith, l)))

  -- the call stands where the term stood
  abbrev pub called : StandsAsCall h.rules call
  called = record {
    here = record { rule = r; place = p; there = key_of_node (nodes_at h.rules r) p node call-node };
    called = q;
    label = ap (λ (ls : List Label). get_or ls p Bottom) (body_at-rules_of h.rules r) ∙ label-is (nodes_at h.rules r) p node call-node;
  }

  inlined : IsInlined h.rules g.rules r p q call call
  inlined = record {
    keys = B.keys;
    many = B.many ∙ ap (λ (xs : List Node). length xs) (sym nodes-q);
    rules = inverse;
    follows = λ j e. absurd (let o = K'.once call q j r p e (key_of_node (nodes_at h.rules r) p node call-node) in let l = B.earlier in omega (arith, o.0, l));
  }

  given : args_at (nodes_at h.rules r) p ≡ B.args
  given = ap (λ (xs : List Node). args_at xs p) nodes-r ∙ args-are g.rules at q arguments call L B

  abbrev kids : List Key
  kids = kids_in (nodes_at h.rules B.here.rule) B.here.place

  -- the nodes near the call, forward and backward
  abbrev Near : ℕ → Type 0
  Near = near h g K' K call called call call inlined

  abbrev OfBody : ℕ → Type 0
  OfBody = IsOfBody g.rules at q arguments B

  abbrev Met : ℕ → Type 0
  Met = IsMet h g K' K call called call call inlined

  to-body : (n : ℕ) → Met n → OfBody n
  to-body n (u, (key, (m, e))) = (u, (key, (subst (λ (gs : List (List Node)). Meets (nodes_at g.rules q) gs u) given (subst (λ (xs : List Node). Meets xs (args_at (nodes_at h.rules r) p) u) nodes-q m), e)))

  from-body : (n : ℕ) → OfBody n → Met n
  from-body n (u, (key, (m, e))) =
      (u, (key, (subst (λ (xs : List Node). Meets xs (args_at (nodes_at h.rules r) p) u) (sym nodes-q) (subst (λ (gs : List (List Node)). Meets (nodes_at g.rules q) gs u) (sym given) m), e)))

  module _ (I mid : Linked) (A : IsIndexOf g I) (free : (n : ℕ) → IsOfBody g.rules at q arguments B n → cell mid n ≡ None)
      (others : (n : ℕ) → (IsOfBody g.rules at q arguments B n → ⊥) → cell mid n ≡ cell I n) (stays : (n : ℕ) → cell I n ≡ None → cell mid n ≡ None) (rules : mid.rules ≡ I.rules) where
    near-free : (n : ℕ) → Near n → cell mid n ≡ None
    near-free n z = none-left (cell mid n) (λ x. no x (A.only n (λ y. x (stays n y))))
      where
        no : cell mid n ≢ None → (k : Key) × ((s : ℕ) × ((t : ℕ) × ((key_at g.rules s t ≡ Some k) × (k.number ≡ n)))) → ⊥
        no x (k, (s, (t, (w, y)))) = by (reached h g K' K call called call call inlined s t k w)
          where
            by : ((s ≡ r) × IsNewMet h g K' K call called call call inlined t) ⊎ WasThere h g K' K call called call call inlined s t k → ⊥
            by (inl (e, (u, (f, m)))) =
                x (free n (to-body n (u, (k, (m, (ap (λ (j : ℕ). key_at g.rules r j) (sym f) ∙ ap (λ (i : ℕ). key_at g.rules i t) (sym e) ∙ w, y))))))
            by (inr W) = W.far (subst (λ (j : ℕ). Near j) (sym y) z)

    before : IsIndexBut g mid (near h g K' K call called call call inlined)
    before = record {
      rules = rules ∙ A.rules;
      all = λ s t key e n. others key.number (λ b. n (inr (inr (from-body key.number b)))) ∙ A.all s t key e;
      free = near-free;
      only = λ k x. A.only k (λ e. x (stays k e));
    }

    after : IsIndexBut h mid (near h g K' K call called call call inlined)
    after = near-kept g h mid Near before (near-turned h g Near K' (near-inlined h g K' K call called call call inlined))

    -- what is not right yet is the call, or an argument
    ready : (key : Key) → Stands h.rules key → IsRight h.rules mid key ⊎ ((key.number ≡ call.number) ⊎ IsAmong (kids_in (nodes_at h.rules B.here.rule) B.here.place) key.number)
    ready key S = by (left h g K' K call called call call inlined S.rule S.place key S.there)
      where
        by : ((key.number ≡ call.number) ⊎ IsAmong kids key.number) ⊎ IsLeft h g K' K call called call call inlined S.rule S.place key → IsRight h.rules mid key ⊎ ((key.number ≡ call.number) ⊎ IsAmong kids key.number)
        by (inl v) = inr v
        by (inr N) = inl (λ s t e. after.all s t key e far)
          where
            of : ((N.rule ≡ r) × IsNewMet h g K' K call called call call inlined N.at) ⊎ WasThere h g K' K call called call call inlined N.rule N.at key → Near key.number → ⊥
            of (inl (e, (u, (f, m)))) z = N.unmet e u f m
            of (inr W) z = W.far z

            far : Near key.number → ⊥
            far = of (reached h g K' K call called call call inlined N.rule N.at key N.there)

    pub part : IsPartOf h mid
    part = record {
      rules = after.rules;
      part = λ s t key e. by s t key e (ready key (record { rule = s; place = t; there = e }));
      only = λ k x. let w = after.only k x in (w.0, (record { rule = w.1.0; place = w.1.1.0; there = w.1.1.1.0 }, w.1.1.1.1));
    }
      where
        by : (s t : ℕ) (key : Key) → key_at h.rules s t ≡ Some key → IsRight h.rules mid key ⊎ ((key.number ≡ call.number) ⊎ IsAmong kids key.number) → (cell mid key.number ≡ None) ⊎ (cell mid key.number ≡ occurrence_at h.rules s t)
        by s t key e (inl R) = inr (R s t e)
        by s t key e (inr (inl z)) = inl (after.free key.number (inl z))
        by s t key e (inr (inr a)) = inl (after.free key.number (inr (inl a)))

    -- once these are linked, the index is the grammar's
    pub called-index : (J : Linked) → IsPartOf h J → IsRight h.rules J call
        → ((k : Key) → IsAmong (kids_in (nodes_at h.rules B.here.rule) B.here.place) k.number → IsRight h.rules J k)
        → ((k : Key) → IsRight h.rules mid k → IsRight h.rules J k) → IsIndexOf h J
    called-index J P right linked kept = record {
      rules = P.rules;
      all = λ s t key e. by s t key e (ready key (record { rule = s; place = t; there = e }));
      only = λ k x. let w = P.only k x in (w.0, (w.1.0.rule, (w.1.0.place, (w.1.0.there, w.1.1))));
    }
      where
        by : (s t : ℕ) (key : Key) → key_at h.rules s t ≡ Some key → IsRight h.rules mid key ⊎ ((key.number ≡ call.number) ⊎ IsAmong kids key.number) → cell J key.number ≡ occurrence_at h.rules s t
        by s t key e (inl R) = kept key R s t e
        by s t key e (inr (inl z)) = subst (λ (x : Key). IsRight h.rules J x) (sym (one-key key call z)) right s t e
        by s t key e (inr (inr a)) = linked key a s t e
