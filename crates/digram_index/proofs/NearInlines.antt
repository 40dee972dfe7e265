-- What an inlining leaves: all nodes but the call, its arguments and the copies tell the same.
use Rattle.std.proofs.Common.{◌≡◌, ◌≢◌, ◌⊎◌, inl, inr, ℕ, zero, suc, ◌+◌, ◌<◌, List, [], ◌∷◌, ◌++◌, length, get_or, take, drop, Option, Some, slice_get, refl, sym, ap, ◌∙◌, arith}
use Rattle.std.proofs.lemmas.Bool.{cases_eq}
use Rattle.rule_arena.specs.Preorder.{AreTerms}
use Rattle.rule_arena.specs.Terms.{Node, key_in, kids_in, kids_of, parent_in}
use Rattle.rule_arena.specs.declared.key.Key.{Key}
use Rattle.rule_arena.specs.declared.label.Label.{Label}
use Rattle.rule_arena.specs.declared.label.Label.TheVariants.{Bottom, Call}
use Rattle.rule_arena.proofs.NodeLemmas.{node_of, key_of_node, same_key}
use Rattle.rule_arena.proofs.PathLemmas.{key_in-left, key_in-right}
use Rattle.rule_arena.proofs.PreorderLemmas.{length-terms}
use Rattle.slt_grammar.specs.Algebras.{ranks_of}
use Rattle.slt_grammar.specs.Bodies.{arity}
use Rattle.slt_grammar.specs.Copying.{args_at, back_at, copied, holes_in, inlined_nodes, kids_at}
use Rattle.slt_grammar.specs.Detaching.{AreArgs}
use Rattle.slt_grammar.specs.Holding.{IsLawful}
use Rattle.slt_grammar.specs.Keyed.{Keyed, KeyedRule, IsKeyed, key_at, labels_of, nodes_at, rules_of}
use Rattle.slt_grammar.specs.KeyedEdits.{IsInlined, StandsAsCall}
use Rattle.slt_grammar.proofs.Agreeing.{Agree, label-is}
use Rattle.slt_grammar.proofs.FoldedRules.{flat}
use Rattle.slt_grammar.proofs.InlinedRules.{agree, behind, callee-agree, inlined-ranks, kids-holes, kids-label}
use Rattle.slt_grammar.proofs.Inlinings.{Cut, cut-at}
use Rattle.slt_grammar.proofs.KeyedEdits.{nodes-with_nodes}
use Rattle.slt_grammar.proofs.KeyedLemmas.{body_at-rules_of, key_at-within, key_in-within, nodes-are-term}
use Rattle.digram_index.specs.Keeping.{IsNear, TellsSame}
use Rattle.digram_index.proofs.Apartness.{one-key}
use Rattle.digram_index.proofs.LevelLemmas.{same_some}
use Rattle.digram_index.specs.Partly.{IsAmong}
use Rattle.digram_index.proofs.Kids.{child-of}
use Rattle.digram_index.specs.Copies.{AreEachTerms, Meets}
use Rattle.digram_index.proofs.CopyMoves.{HasMoved, around, moves}
use Rattle.digram_index.proofs.CopyPlaces.{copied-leaves, holes-leaves, leaves, met-root, root-met}
use Rattle.digram_index.proofs.Inlined.{callee-before, length-after, nodes-after, stays, there-in}

pub each-args : (ks : List Key) (args : List (List Node)) → AreArgs ks args → AreEachTerms args
each-args [] [] A = tt
each-args [] (g ∷ args) A = absurd A
each-args (k ∷ ks) [] A = absurd A
each-args (k ∷ ks) (g ∷ args) A = (A.0, each-args ks args A.2)

-- a call over parameters
abbrev pub bare : Key → ℕ → ℕ → List (List Node) → List Node
bare call q kids args = let n : Node = record { key = call; label = Call q; kids = kids } in n ∷ leaves n args

leaves-terms : (n : Node) (args : List (List Node)) (k : ℕ) → k ≡ length args → AreTerms kids_of k (leaves n args)
leaves-terms n [] zero e = tt
leaves-terms n [] (suc k) e = absurd (omega (arith, e))
leaves-terms n (g ∷ args) zero e = absurd (omega (arith, e))
leaves-terms n (g ∷ args) (suc k) e = leaves-terms n args (0 + k) (omega (arith, e))

leaves-agree : (ranks : List ℕ) (n : Node) (args : List (List Node)) → Agree ranks (leaves n args)
leaves-agree ranks n [] = tt
leaves-agree ranks n (g ∷ args) = (refl, leaves-agree ranks n args)

node-is : (n : Node) (k : Key) (l : Label) → n.key ≡ k → n.label ≡ l → let m : Node = record { key = k; label = l; kids = n.kids } in n ≡ m
node-is n k l e f =
    ap (λ (x : Key). let m : Node = record { key = x; label = n.label; kids = n.kids } in m) e ∙ ap (λ (x : Label). let m : Node = record { key = k; label = x; kids = n.kids } in m) f

-- the same key at two places is one node
one-node : (a b : Node) → Some a ≡ Some b → a ≡ b
one-node a b e = cc

module _ (g h : Keyed) (K : IsKeyed g) (K' : IsKeyed h) (call : Key) (C : StandsAsCall g.rules call) (follow moved : Key) (J : IsInlined g.rules h.rules C.here.rule C.here.place C.called follow moved) where
  abbrev pub G : List KeyedRule
  G = g.rules

  abbrev pub r : ℕ
  r = C.here.rule

  abbrev pub p : ℕ
  p = C.here.place

  abbrev pub q : ℕ
  q = C.called

  abbrev pub ns : List Node
  ns = nodes_at g.rules C.here.rule

  abbrev pub callee : List Node
  callee = nodes_at g.rules C.called

  abbrev pub kids : List Key
  kids = kids_in (nodes_at g.rules C.here.rule) C.here.place

  abbrev pub args : List (List Node)
  args = args_at (nodes_at g.rules C.here.rule) C.here.place

  abbrev pub back : List Node
  back = back_at (nodes_at g.rules C.here.rule) C.here.place

  abbrev pub front : List Node
  front = take C.here.place (nodes_at g.rules C.here.rule)

  L : IsLawful G
  L = record { grammar = K.grammar; arities = K.arities }

  in-r : r < length G
  in-r = there-in g K call C J.keys

  earlier : q < r
  earlier = callee-before g K call C J.keys

  pub cut : Cut ns p call
  cut = cut-at ns p call (nodes-are-term g K r in-r) C.here.there

  label-ns : get_or (labels_of ns) p Bottom ≡ Call q
  label-ns = ap (λ (ls : List Label). get_or ls p Bottom) (sym (body_at-rules_of G r)) ∙ C.label

  abbrev pattern : List Node
  pattern = bare call q (kids_at ns p) args

  caller-is : let m : Node = record { key = call; label = Call q; kids = kids_at ns p } in cut.node ≡ m
  caller-is =
      let w = node_of ns p call C.here.there in
      let z : length front + 0 ≡ p = omega (arith, cut.place) in
      let e : Some w.0 ≡ Some cut.node = sym w.1.0 ∙ at-front ∙ refl in
      let o : w.0 ≡ cut.node = one-node w.0 cut.node e in
      let l : cut.node.label ≡ Call q = ap (λ (x : Node). x.label) (sym o) ∙ sym (label-is ns p w.0 w.1.0) ∙ label-ns in
      node-is cut.node call (Call q) cut.is l ∙ ap (λ (k : ℕ). let m : Node = record { key = call; label = Call q; kids = k } in m) (sym cut.kids)
    where
      right : (xs ys : List Node) → slice_get (xs ++ ys) (length xs) ≡ slice_get ys 0
      right [] ys = refl
      right (x ∷ xs) ys = right xs ys

      at-front : slice_get ns p ≡ Some cut.node
      at-front = ap (λ (zs : List Node). slice_get zs p) cut.whole ∙ ap (λ (j : ℕ). slice_get (front ++ (cut.node ∷ (flat args ++ back))) j) (sym cut.place) ∙ right front (cut.node ∷ (flat args ++ back))

  pub olds : ns ≡ around front pattern args (call ∷ []) back
  olds =
      cut.whole ∙ ap (λ (n : Node). front ++ (n ∷ (flat args ++ back))) caller-is
      ∙ ap (λ (xs : List Node). front ++ (record { key = call; label = Call q; kids = kids_at ns p } ∷ (xs ++ back))) (sym (copied-leaves (record { key = call; label = Call q; kids = kids_at ns p }) args []))

  pub news : nodes_at h.rules r ≡ around front callee args J.keys back
  news =
      ap (λ (H : List KeyedRule). nodes_at H r) J.rules ∙ nodes-with_nodes G r (inlined_nodes ns p callee J.keys) in-r
      ∙ ap (λ (xs : List Node). front ++ (copied callee args J.keys ++ xs))
      (behind (ranks_of (rules_of G)) ns p call callee J.keys (agree G r p q call J.keys L C.here.there C.label) C.here.there (kids-holes G r p q call J.keys L C.here.there C.label))

  pub nodes-s : (s : ℕ) → (s ≡ r → ⊥) → nodes_at h.rules s ≡ nodes_at G s
  nodes-s s d = ap (λ (H : List KeyedRule). nodes_at H s) J.rules ∙ nodes-after g K call C J.keys s d

  pub in-new : length h.rules ≡ length G
  in-new = ap length J.rules ∙ length-after g K call C J.keys

  pub callee-same : nodes_at h.rules q ≡ callee
  callee-same = nodes-s q (λ e. omega (arith, e, earlier))

  pub terms : AreEachTerms args
  terms = each-args kids args cut.args

  length-args : length args ≡ kids_at ns p
  length-args = length-terms kids_of (kids_at ns p) (drop (p + 1) ns)

  pub many : length args ≡ holes_in callee
  many = length-args ∙ kids-holes G r p q call J.keys L C.here.there C.label

  many-bare : length args ≡ holes_in pattern
  many-bare = omega (arith, holes-leaves (record { key = call; label = Call q; kids = kids_at ns p }) args)

  agree-bare : Agree (ranks_of (rules_of G)) pattern
  agree-bare = (
    kids-label (ranks_of (rules_of G)) ns p call (agree G r p q call J.keys L C.here.there C.label) C.here.there ∙ ap (arity (ranks_of (rules_of G))) label-ns,
    leaves-agree (ranks_of (rules_of G)) (record { key = call; label = Call q; kids = kids_at ns p }) args,
  )

  one-bare : AreTerms kids_of 1 pattern
  one-bare = leaves-terms (record { key = call; label = Call q; kids = kids_at ns p }) args (kids_at ns p + 0) (omega (arith, length-args))

  callee-agrees : Agree (ranks_of (rules_of G)) callee
  callee-agrees = callee-agree G r p q call J.keys L C.here.there C.label

  one-callee : AreTerms kids_of 1 callee
  one-callee = nodes-are-term g K q (omega (arith, earlier, in-r))

  -- where nodes of the one body stand in the other
  record HasGone (t : ℕ) : Type 0 where
    at : ℕ
    is_node : slice_get (nodes_at h.rules r) at ≡ slice_get ns t
    is_parent : parent_in (nodes_at h.rules r) at ≡ parent_in ns t
    unmet : (u : ℕ) → at ≡ p + u → Meets callee args u → ⊥

  record HasCome (t : ℕ) : Type 0 where
    at : ℕ
    is_node : slice_get ns at ≡ slice_get (nodes_at h.rules r) t
    is_parent : parent_in ns at ≡ parent_in (nodes_at h.rules r) t
    unmet : (u : ℕ) → at ≡ p + u → Meets pattern args u → ⊥

  abbrev IsOldMet : ℕ → Type 0
  IsOldMet t = (u : ℕ) × ((t ≡ p + u) × Meets pattern args u)

  abbrev pub IsNewMet : ℕ → Type 0
  IsNewMet t = (u : ℕ) × ((t ≡ p + u) × Meets callee args u)

  goes : (t : ℕ) → t < length ns → IsOldMet t ⊎ HasGone t
  goes t l =
      by (moves (ranks_of (rules_of G)) front args back terms pattern callee (call ∷ []) J.keys agree-bare callee-agrees one-bare one-callee many-bare many t (omega (arith, l, ap length olds)))
    where
      by : ((u : ℕ) × ((t ≡ length front + u) × Meets pattern args u)) ⊎ HasMoved front callee args J.keys back (slice_get (around front pattern args (call ∷ []) back) t) (parent_in (around front pattern args (call ∷ []) back) t) → IsOldMet t ⊎ HasGone t
      by (inl (u, (e, m))) = inl (u, (omega (arith, e, cut.place), m))
      by (inr P) =
          inr (record {
            at = P.at;
            is_node = ap (λ (xs : List Node). slice_get xs P.at) news ∙ P.is_node ∙ sym (ap (λ (xs : List Node). slice_get xs t) olds);
            is_parent = ap (λ (xs : List Node). parent_in xs P.at) news ∙ P.is_parent ∙ sym (ap (λ (xs : List Node). parent_in xs t) olds);
            unmet = λ u e m. P.unmet u (omega (arith, e, cut.place)) m;
          })

  comes : (t : ℕ) → t < length (nodes_at h.rules r) → IsNewMet t ⊎ HasCome t
  comes t l =
      by (moves (ranks_of (rules_of G)) front args back terms callee pattern J.keys (call ∷ []) callee-agrees agree-bare one-callee one-bare many many-bare t (omega (arith, l, ap length news)))
    where
      by : ((u : ℕ) × ((t ≡ length front + u) × Meets callee args u)) ⊎ HasMoved front pattern args (call ∷ []) back (slice_get (around front callee args J.keys back) t) (parent_in (around front callee args J.keys back) t) → IsNewMet t ⊎ HasCome t
      by (inl (u, (e, m))) = inl (u, (omega (arith, e, cut.place), m))
      by (inr P) =
          inr (record {
            at = P.at;
            is_node = ap (λ (xs : List Node). slice_get xs P.at) olds ∙ P.is_node ∙ sym (ap (λ (xs : List Node). slice_get xs t) news);
            is_parent = ap (λ (xs : List Node). parent_in xs P.at) olds ∙ P.is_parent ∙ sym (ap (λ (xs : List Node). parent_in xs t) news);
            unmet = λ u e m. P.unmet u (omega (arith, e, cut.place)) m;
          })

  -- a copy or an argument's root has this number
  abbrev pub IsMet : ℕ → Type 0
  IsMet n = (u : ℕ) × ((key : Key) × (Meets callee args u × ((key_at h.rules r (p + u) ≡ Some key) × (key.number ≡ n))))

  -- the nodes near the call
  abbrev pub near : ℕ → Type 0
  near n = (n ≡ call.number) ⊎ (IsAmong kids n ⊎ IsMet n)

  -- what is met of the old body is the call, or an argument
  old-met : (t : ℕ) (key : Key) → key_at G r t ≡ Some key → IsOldMet t → (key.number ≡ call.number) ⊎ IsAmong kids key.number
  old-met t key e (u, (z, inl w)) =
      let y : Some key ≡ Some call = sym e ∙ ap (λ (j : ℕ). key_at G r j) (omega (arith, z, w)) ∙ C.here.there in
      inl (ap (λ (k : Key). k.number) (same_some key call y))
  old-met t key e (u, (z, inr (v, (w, m)))) =
      let M = met-root (record { key = call; label = Call q; kids = kids_at ns p }) kids args v cut.args m in
      let there : key_in (front ++ (cut.node ∷ (flat args ++ back))) (length front + suc v) ≡ Some M.1.0 =
      key_in-right front (cut.node ∷ (flat args ++ back)) (suc v) M.1.0 (key_in-left (flat args) back v M.1.0 M.1.1.1) in
      let y : Some key ≡ Some M.1.0 = sym e ∙ ap (λ (j : ℕ). key_in ns j) (omega (arith, z, w, cut.place)) ∙ ap (λ (xs : List Node). key_in xs (length front + suc v)) cut.whole ∙ there in
      inr (M.0, (key, (M.1.1.0 ∙ sym y, refl)))

  -- an argument is met in the old body
  kid-met : (i : ℕ) (k : Key) → slice_get kids i ≡ Some k → (t : ℕ) × (IsOldMet t × (key_at G r t ≡ Some k))
  kid-met i k e =
      let M = root-met (record { key = call; label = Call q; kids = kids_at ns p }) kids args i k cut.args e in
      let there : key_in (front ++ (cut.node ∷ (flat args ++ back))) (length front + suc M.0) ≡ Some k =
      key_in-right front (cut.node ∷ (flat args ++ back)) (suc M.0) k (key_in-left (flat args) back M.0 k M.1.1) in (
        p + suc M.0,
        (
          (suc M.0, (refl, inr (M.0, (omega arith, M.1.0)))),
          ap (λ (j : ℕ). key_in ns j) (omega (arith, cut.place)) ∙ ap (λ (xs : List Node). key_in xs (length front + suc M.0)) cut.whole ∙ there,
        ),
      )

  -- a node of the old grammar that is neither stays
  pub record IsLeft (s t : ℕ) (key : Key) : Type 0 where
    pub rule : ℕ
    pub at : ℕ
    pub there : key_at h.rules rule at ≡ Some key
    pub unmet : rule ≡ r → (u : ℕ) → at ≡ p + u → Meets callee args u → ⊥

  pub left : (s t : ℕ) (key : Key) → key_at G s t ≡ Some key → ((key.number ≡ call.number) ⊎ IsAmong kids key.number) ⊎ IsLeft s t key
  left s t key e = by (cases_eq s r)
    where
      by : (s ≡ r) ⊎ (s ≡ r → ⊥) → ((key.number ≡ call.number) ⊎ IsAmong kids key.number) ⊎ IsLeft s t key
      by (inr d) = inr (record { rule = s; at = t; there = ap (λ (xs : List Node). key_in xs t) (nodes-s s d) ∙ e; unmet = λ z u w m. d z })
      by (inl z) = of (goes t (key_in-within ns t key e'))
        where
          e' : key_at G r t ≡ Some key
          e' = ap (λ (x : ℕ). key_at G x t) (sym z) ∙ e

          of : IsOldMet t ⊎ HasGone t → ((key.number ≡ call.number) ⊎ IsAmong kids key.number) ⊎ IsLeft s t key
          of (inl m) = inl (old-met t key e' m)
          of (inr P) = inr (record { rule = r; at = P.at; there = same_key (nodes_at h.rules r) ns P.at t P.is_node ∙ e'; unmet = λ w. P.unmet })

  -- a node of the new grammar is met, or was there before and is not near
  pub record WasThere (s t : ℕ) (key : Key) : Type 0 where
    pub rule : ℕ
    pub at : ℕ
    pub there : key_at G rule at ≡ Some key
    pub is_node : slice_get (nodes_at h.rules s) t ≡ slice_get (nodes_at G rule) at
    pub is_parent : parent_in (nodes_at h.rules s) t ≡ parent_in (nodes_at G rule) at
    pub far : near key.number → ⊥

  pub reached : (s t : ℕ) (key : Key) → key_at h.rules s t ≡ Some key → ((s ≡ r) × IsNewMet t) ⊎ WasThere s t key
  reached s t key e = by (cases_eq s r)
    where
      by : (s ≡ r) ⊎ (s ≡ r → ⊥) → ((s ≡ r) × IsNewMet t) ⊎ WasThere s t key
      by (inr d) = inr (record { rule = s; at = t; there = e'; is_node = ap (λ (xs : List Node). slice_get xs t) (nodes-s s d); is_parent = ap (λ (xs : List Node). parent_in xs t) (nodes-s s d); far = far })
        where
          e' : key_at G s t ≡ Some key
          e' = ap (λ (xs : List Node). key_in xs t) (sym (nodes-s s d)) ∙ e

          far : near key.number → ⊥
          far (inl z) = d (K.once key s t r p e' (C.here.there ∙ ap Some (sym (one-key key call z)))).0
          far (inr (inl (i, (k, (w, z))))) = let m = kid-met i k w in d (K.once key s t r m.0 e' (m.1.1 ∙ ap Some (one-key k key z))).0
          far (inr (inr (u, (k, (m, (w, z)))))) = d (K'.once key s t r (p + u) e (w ∙ ap Some (one-key k key z))).0
      by (inl z) = of (comes t (key_in-within (nodes_at h.rules r) t key e'))
        where
          e' : key_at h.rules r t ≡ Some key
          e' = ap (λ (x : ℕ). key_at h.rules x t) (sym z) ∙ e

          of : IsNewMet t ⊎ HasCome t → ((s ≡ r) × IsNewMet t) ⊎ WasThere s t key
          of (inl m) = inl (z, m)
          of (inr P) =
              inr (record {
                rule = r;
                at = P.at;
                there = was;
                is_node = ap (λ (x : ℕ). slice_get (nodes_at h.rules x) t) z ∙ sym P.is_node;
                is_parent = ap (λ (x : ℕ). parent_in (nodes_at h.rules x) t) z ∙ sym P.is_parent;
                far = far;
              })
            where
              was : key_at G r P.at ≡ Some key
              was = same_key ns (nodes_at h.rules r) P.at t P.is_node ∙ e'

              met : (u : ℕ) → t ≡ p + u → Meets callee args u → IsOldMet P.at ⊎ HasGone P.at → ⊥
              met u y m (inl (v, (x, o))) = P.unmet v x o
              met u y m (inr Q) =
                  let here = same_key (nodes_at h.rules r) ns Q.at P.at Q.is_node ∙ was in
                  Q.unmet u ((K'.once key r Q.at r t here e').1 ∙ y) m

              far : near key.number → ⊥
              far (inl y) =
                  let o = (K.once key r P.at r p was (C.here.there ∙ ap Some (sym (one-key key call y)))).1 in
                  P.unmet 0 (omega (arith, o)) (inl refl)
              far (inr (inl (i, (k, (w, y))))) =
                  let m = kid-met i k w in
                  let o = (K.once key r P.at r m.0 was (m.1.1 ∙ ap Some (one-key k key y))).1 in
                  P.unmet m.1.0.0 (o ∙ m.1.0.1.0) m.1.0.1.1
              far (inr (inr (u, (k, (m, (w, y)))))) =
                  let o = (K'.once key r t r (p + u) e' (w ∙ ap Some (one-key k key y))).1 in
                  met u o m (goes P.at (key_in-within ns P.at key was))

  -- no node but the call is relabelled, nor any that is kept
  same-label : (s a : ℕ) (m : Node) (s' b : ℕ) (n : Node) → slice_get (nodes_at h.rules s) a ≡ Some m → slice_get (nodes_at G s') b ≡ Some n → m.key ≡ n.key → n.key ≢ call → m.label ≡ n.label
  same-label s a m s' b n e f k d = by (cases_eq s' r)
    where
      there : key_at h.rules s a ≡ Some n.key
      there = key_of_node (nodes_at h.rules s) a m e ∙ ap Some k

      found : (t c : ℕ) → slice_get (nodes_at h.rules t) c ≡ Some n → m.label ≡ n.label
      found t c y =
          let o = K'.once n.key s a t c there (key_of_node (nodes_at h.rules t) c n y) in
          let x : Some m ≡ Some n = sym e ∙ ap (λ (i : ℕ). slice_get (nodes_at h.rules i) a) o.0 ∙ ap (λ (j : ℕ). slice_get (nodes_at h.rules t) j) o.1 ∙ y in
          ap (λ (v : Node). v.label) (one-node m n x)

      by : (s' ≡ r) ⊎ (s' ≡ r → ⊥) → m.label ≡ n.label
      by (inr z) = found s' b (ap (λ (xs : List Node). slice_get xs b) (nodes-s s' z) ∙ f)
      by (inl z) =
          let w = stays g K call C J.keys n (b, ap (λ (x : ℕ). slice_get (nodes_at G x) b) (sym z) ∙ f) d in
          found r w.0 (ap (λ (xs : List Node). slice_get xs w.0) (ap (λ (H : List KeyedRule). nodes_at H r) J.rules ∙ nodes-with_nodes G r (inlined_nodes ns p callee J.keys) in-r) ∙ w.1)

  -- a child of the call is an argument
  call-child : (s w : ℕ) (key : Key) (c : ℕ) → key_at G s w ≡ Some key → parent_in (nodes_at G s) w ≡ Some (call, c) → s < length G → IsAmong kids key.number
  call-child s w key c e f l =
      let D = child-of (nodes_at G s) w (call, c) (nodes-are-term g K s l) f in
      let o = K.once call s D.above r p D.there C.here.there in
      (D.child, (key, (ap (λ (x : ℕ). slice_get (kids_in (nodes_at G x) p) D.child) (sym o.0) ∙ ap (λ (j : ℕ). slice_get (kids_in (nodes_at G s) j) D.child) (sym o.1) ∙ D.is_child ∙ e, refl)))

  tells : (s t : ℕ) (key : Key) → key_at h.rules s t ≡ Some key → (W : WasThere s t key) → TellsSame h.rules g.rules s t W.rule W.at
  tells s t key e W =
      let n = node_of (nodes_at h.rules s) t key e in
      record {
        node = n.0;
        other = n.0;
        here = n.1.0;
        there = sym W.is_node ∙ n.1.0;
        label = refl;
        parent = W.is_parent;
        above = λ a b m o x y k c z. above a b m o x y k c z (cases_eq o.key.number call.number);
      }
    where
      above : (a b : ℕ) (m n : Node) → slice_get (nodes_at h.rules s) a ≡ Some m → slice_get (nodes_at g.rules W.rule) b ≡ Some n → m.key ≡ n.key → (c : ℕ) → parent_in (nodes_at h.rules s) t ≡ Some (m.key, c)
          → (n.key.number ≡ call.number) ⊎ (n.key.number ≡ call.number → ⊥) → m.label ≡ n.label
      above a b m n x y k c z (inr d) = same-label s a m W.rule b n x y k (λ w. d (ap (λ (v : Key). v.number) w))
      above a b m n x y k c z (inl w) =
          let up : m.key ≡ call = k ∙ one-key n.key call w in
          let f : parent_in (nodes_at G W.rule) W.at ≡ Some (call, c) = sym W.is_parent ∙ z ∙ ap (λ (v : Key). let o : Option (Key × ℕ) = Some (v, c) in o) up in
          absurd (W.far (inr (inl (call-child W.rule W.at key c W.there f (in-rule W.rule W.at key W.there)))))
        where
          in-rule : (s w : ℕ) (key : Key) → key_at G s w ≡ Some key → s < length G
          in-rule s w key e = (key_at-within G s w key e).0

  -- all nodes but the near ones tell the same
  pub near-inlined : IsNear g h near
  near-inlined = record {
    ranks = ap (λ (H : List KeyedRule). ranks_of (rules_of H)) J.rules ∙ inlined-ranks G r p q call J.keys L C.here.there C.label;
    rules = in-new;
    same = λ s t key e n. same s t key e n (reached s t key e);
    stay = λ s t key e n. stay s t key e n (left s t key e);
  }
    where
      same : (s t : ℕ) (key : Key) → key_at h.rules s t ≡ Some key → (near key.number → ⊥) → ((s ≡ r) × IsNewMet t) ⊎ WasThere s t key → (s' : ℕ) × ((w : ℕ) × ((key_at g.rules s' w ≡ Some key) × TellsSame h.rules g.rules s t s' w))
      same s t key e n (inl (z, (u, (y, m)))) = absurd (n (inr (inr (u, (key, (m, (ap (λ (j : ℕ). key_at h.rules r j) (sym y) ∙ ap (λ (x : ℕ). key_at h.rules x t) (sym z) ∙ e, refl)))))))
      same s t key e n (inr W) = (W.rule, (W.at, (W.there, tells s t key e W)))

      stay : (s t : ℕ) (key : Key) → key_at g.rules s t ≡ Some key → (near key.number → ⊥) → ((key.number ≡ call.number) ⊎ IsAmong kids key.number) ⊎ IsLeft s t key → (s' : ℕ) × ((w : ℕ) × (key_at h.rules s' w ≡ Some key))
      stay s t key e n (inl (inl z)) = absurd (n (inl z))
      stay s t key e n (inl (inr z)) = absurd (n (inr (inl z)))
      stay s t key e n (inr W) = (W.rule, (W.at, W.there))
