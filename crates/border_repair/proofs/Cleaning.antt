-- After bodies are split, no edge with a call on one side weighs anything.
use Rattle.std.proofs.Common.{◌≡◌, ◌⊎◌, inl, inr, ℕ, suc, List, [], ◌∷◌, ◌++◌, Some, length, refl, ap, sym, subst, ◌∙◌, arith, append_assoc, append-nil, true, false}
use Rattle.std.specs.Prelude.{Bool}
use Rattle.rule_arena.specs.declared.label.Label.{Label}
use Rattle.rule_arena.specs.declared.label.Label.TheVariants.{Bottom, Symbol, Call, Param}
use Rattle.slt_grammar.proofs.Substitutions.{joined}
use Rattle.border_repair.specs.Digrams.{IsEnd}
use Rattle.border_repair.specs.Edges.{no_flags, kid_tops, kid_flags, IsOpenEdge, IsCleanEdge, AreEdges, Calm, Clean, tops_of, flagged, direct_at, weighs_at, direct, all_edges}
use Rattle.border_repair.specs.Cuts.{Cut, parameter, outer, inner, part_of, args_of, parts_of, all_args_of, Hangs, AllHang, SafeParameter, AreSafeParameters, Closed, AllClosed}
use Rattle.border_repair.specs.Weighing.{Scale, Above, Rim, hung}

module _ (e : Scale) (s : ℕ → Rim) where
  -- edges of terms, one after another
  pub edges-append : (P : Above → Bool → Label → Type 0) (xs ys : List Label) (tops cs : List Above) (fs bs : List Bool) → AreEdges e s P tops fs xs → AreEdges e s P cs bs ys → AreEdges e s P (tops ++ cs) (fs ++ bs) (xs ++ ys)
  edges-append P [] ys [] cs [] bs x y = y
  edges-append P [] ys [] cs (f ∷ fs) bs x y = absurd x
  edges-append P [] ys (a ∷ tops) cs [] bs x y = absurd x
  edges-append P [] ys (a ∷ tops) cs (f ∷ fs) bs x y = absurd x
  edges-append P (l ∷ xs) ys [] cs [] bs x y = absurd x
  edges-append P (l ∷ xs) ys [] cs (f ∷ fs) bs x y = absurd x
  edges-append P (l ∷ xs) ys (a ∷ tops) cs [] bs x y = absurd x
  edges-append P (l ∷ xs) ys (a ∷ tops) cs (f ∷ fs) bs x y = (
    x.0,
    subst (λ u. AreEdges e s P u (kid_flags e s l ++ (fs ++ bs)) (xs ++ ys)) (append_assoc (kid_tops e s l) tops cs)
        (subst (λ u. AreEdges e s P ((kid_tops e s l ++ tops) ++ cs) u (xs ++ ys)) (append_assoc (kid_flags e s l) fs bs)
        (edges-append P xs ys (kid_tops e s l ++ tops) cs (kid_flags e s l ++ fs) bs x.1 y)),
  )

  -- a clean edge is open
  pub open_edge : (c : Above) (b : Bool) (l : Label) → IsCleanEdge e s c b l → IsOpenEdge e s c b l
  open_edge c b Bottom x = x
  open_edge c b (Symbol f) x = x
  open_edge c b (Call q) x = x
  open_edge c b Param x = tt

  tops-append : (xs ys : List Label) (tops cs : List Above) (fs : List Bool) → Calm e s tops fs xs → tops_of e s (tops ++ cs) (xs ++ ys) ≡ tops_of e s tops xs ++ tops_of e s cs ys
  tops-append [] ys [] cs [] x = refl
  tops-append [] ys [] cs (f ∷ fs) x = absurd x
  tops-append [] ys (a ∷ tops) cs [] x = absurd x
  tops-append [] ys (a ∷ tops) cs (f ∷ fs) x = absurd x
  tops-append (l ∷ xs) ys [] cs [] x = absurd x
  tops-append (l ∷ xs) ys [] cs (f ∷ fs) x = absurd x
  tops-append (l ∷ xs) ys (a ∷ tops) cs [] x = absurd x
  tops-append (Param ∷ xs) ys (a ∷ tops) cs (f ∷ fs) x = ap (λ z. a ∷ z) (tops-append xs ys tops cs fs x.1)
  tops-append (Bottom ∷ xs) ys (a ∷ tops) cs (f ∷ fs) x = tops-append xs ys tops cs fs x.1
  tops-append (Symbol g ∷ xs) ys (a ∷ tops) cs (f ∷ fs) x = tops-append xs ys (Some (g, 1) ∷ Some (g, 2) ∷ tops) cs (true ∷ true ∷ fs) x.1
  tops-append (Call q ∷ xs) ys (a ∷ tops) cs (f ∷ fs) x =
      ap (λ u. tops_of e s u (xs ++ ys)) (sym (append_assoc ((s q).borders) tops cs)) ∙ tops-append xs ys ((s q).borders ++ tops) cs (no_flags ((s q).borders) ++ fs) x.1

  flags-append : (xs ys : List Above) → no_flags (xs ++ ys) ≡ no_flags xs ++ no_flags ys
  flags-append [] ys = refl
  flags-append (x ∷ xs) ys = ap (λ z. false ∷ z) (flags-append xs ys)

  -- where calm edges are, what arises is what is direct
  pub calm-direct : (ls : List Label) (cs : List Above) (bs : List Bool) → Calm e s cs bs ls → all_edges e s cs ls ≡ direct e s cs bs ls
  calm-direct [] [] [] x = refl
  calm-direct [] [] (b ∷ bs) x = absurd x
  calm-direct [] (c ∷ cs) [] x = absurd x
  calm-direct [] (c ∷ cs) (b ∷ bs) x = absurd x
  calm-direct (l ∷ ls) [] [] x = absurd x
  calm-direct (l ∷ ls) [] (b ∷ bs) x = absurd x
  calm-direct (l ∷ ls) (c ∷ cs) [] x = absurd x
  calm-direct (l ∷ ls) (c ∷ cs) (b ∷ bs) x = omega (arith, at_label c b l x.0, calm-direct ls (kid_tops e s l ++ cs) (kid_flags e s l ++ bs) x.1) where
    by_flag : (b : Bool) (n : ℕ) → (b ≡ true) ⊎ (n ≡ 0) → n ≡ flagged e s b n
    by_flag true n x = refl
    by_flag false n (inl x) = absurd (no x) where
      no : false ≡ true → ⊥
      no y = cc
    by_flag false n (inr x) = x

    at_label : (c : Above) (b : Bool) (l : Label) → IsOpenEdge e s c b l → weighs_at e s c l ≡ direct_at e s c b l
    at_label c b Bottom x = by_flag b (hung e c (Some Bottom)) x
    at_label c b (Symbol f) x = by_flag b (hung e c (Some (Symbol f))) x
    at_label c b (Call q) x = x
    at_label c b Param x = refl

  pub hang-parts : (kids ks : List Cut) (tops cs : List Above) (fs bs : List Bool) → length kids ≡ length tops → length kids ≡ length fs → AllHang e s (tops ++ cs) (fs ++ bs) (kids ++ ks) → AllHang e s tops fs kids × AllHang e s cs bs ks
  hang-parts [] ks [] cs [] bs m n h = (tt, h)
  hang-parts [] ks (a ∷ tops) cs fs bs m n h = absurd (omega arith)
  hang-parts [] ks [] cs (f ∷ fs) bs m n h = absurd (omega arith)
  hang-parts (k ∷ kids) ks [] cs fs bs m n h = absurd (omega arith)
  hang-parts (k ∷ kids) ks (a ∷ tops) cs [] bs m n h = absurd (omega arith)
  hang-parts (k ∷ kids) ks (a ∷ tops) cs (f ∷ fs) bs m n h = let r = hang-parts kids ks tops cs fs bs (omega arith) (omega arith) h.1 in ((h.0, r.0), r.1)

  -- edges of terms below nothing else
  pub alone : (P : Above → Bool → Label → Type 0) (cs : List Above) (bs : List Bool) (ls : List Label) → AreEdges e s P cs bs ls → AreEdges e s P (cs ++ []) (bs ++ []) ls
  alone P cs bs ls x = subst (λ u. AreEdges e s P u (bs ++ []) ls) (sym (append-nil cs)) (subst (λ u. AreEdges e s P cs u ls) (sym (append-nil bs)) x)

  -- what is in a part, and what hangs from it
  abbrev InPart : Above → Bool → Cut → Type 0
  InPart c b k = Calm e s (c ∷ []) (b ∷ []) (part_of k) × Clean e s (tops_of e s (c ∷ []) (part_of k)) (no_flags (tops_of e s (c ∷ []) (part_of k))) (args_of k)

  from_inner : (l : Label) (part args : List Label) → Clean e s (tops_of e s (kid_tops e s l) part) (no_flags (tops_of e s (kid_tops e s l) part)) args
      → Clean e s (tops_of e s (kid_tops e s l ++ []) part) (no_flags (tops_of e s (kid_tops e s l ++ []) part)) args
  from_inner l part args x = subst (λ u. Clean e s (tops_of e s u part) (no_flags (tops_of e s u part)) args) (sym (append-nil (kid_tops e s l))) x

  in_part : (c : Above) (b : Bool) (k : Cut) → Hangs e s c b k → SafeParameter e c k → InPart c b k
  in_part c b parameter h p = ((tt, tt), (inr p, tt))
  in_part c b (outer l t) h p = ((tt, tt), (harmless l h.0.0 p, alone (IsCleanEdge e s) (kid_tops e s l) (kid_flags e s l) t h.0.1)) where
    harmless : (l : Label) → IsEnd l → hung e c (Some l) ≡ 0 → IsCleanEdge e s c false l
    harmless Bottom n z = inr z
    harmless (Symbol f) n z = inr z
    harmless (Call q) (inl (f, x)) z = absurd (let y : Call q ≡ Symbol f = x in cc)
    harmless (Call q) (inr x) z = absurd (let y : Call q ≡ Bottom = x in cc)
    harmless Param (inl (f, x)) z = absurd (let y : Param ≡ Symbol f = x in cc)
    harmless Param (inr x) z = absurd (let y : Param ≡ Bottom = x in cc)
  in_part c b (inner Bottom part args) h p = ((h.1, alone (IsOpenEdge e s) [] [] part h.0.1), from_inner Bottom part args h.0.2)
  in_part c b (inner (Symbol f) part args) h p = ((h.1, alone (IsOpenEdge e s) (kid_tops e s (Symbol f)) (kid_flags e s (Symbol f)) part h.0.1), from_inner (Symbol f) part args h.0.2)
  in_part c b (inner (Call q) part args) h p = ((h.1, alone (IsOpenEdge e s) (kid_tops e s (Call q)) (kid_flags e s (Call q)) part h.0.1), from_inner (Call q) part args h.0.2)
  in_part c b (inner Param part args) h p = absurd (h.0.0 refl)

  pub all_in_part : (ks : List Cut) (cs : List Above) (bs : List Bool) → AllHang e s cs bs ks → AreSafeParameters e cs ks
      → Calm e s cs bs (parts_of ks) × Clean e s (tops_of e s cs (parts_of ks)) (no_flags (tops_of e s cs (parts_of ks))) (all_args_of ks)
  all_in_part [] [] [] h p = (tt, tt)
  all_in_part [] [] (b ∷ bs) h p = absurd h
  all_in_part [] (c ∷ cs) [] h p = absurd h
  all_in_part [] (c ∷ cs) (b ∷ bs) h p = absurd h
  all_in_part (k ∷ ks) [] [] h p = absurd h
  all_in_part (k ∷ ks) [] (b ∷ bs) h p = absurd h
  all_in_part (k ∷ ks) (c ∷ cs) [] h p = absurd h
  all_in_part (k ∷ ks) (c ∷ cs) (b ∷ bs) h p =
      let x = in_part c b k h.0 p.0 in
      let y = all_in_part ks cs bs h.1 p.1 in
      let t = tops-append (part_of k) (parts_of ks) (c ∷ []) cs (b ∷ []) x.0 in (
        edges-append (IsOpenEdge e s) (part_of k) (parts_of ks) (c ∷ []) cs (b ∷ []) bs x.0 y.0,
        subst (λ u. Clean e s u (no_flags u) (args_of k ++ all_args_of ks)) (sym t)
            (subst (λ v. Clean e s (tops_of e s (c ∷ []) (part_of k) ++ tops_of e s cs (parts_of ks)) v (args_of k ++ all_args_of ks)) (sym (flags-append (tops_of e s (c ∷ []) (part_of k)) (tops_of e s cs (parts_of ks))))
            (edges-append (IsCleanEdge e s) (args_of k) (all_args_of ks) (tops_of e s (c ∷ []) (part_of k)) (tops_of e s cs (parts_of ks)) (no_flags (tops_of e s (c ∷ []) (part_of k))) (no_flags (tops_of e s cs (parts_of ks))) x.1 y.1)),
      )

  -- a closed piece hangs there too
  pub close-clean : (c : Above) (b : Bool) (k : Cut) (t : List Label) → Hangs e s c b k → Closed e s c k t → Clean e s (c ∷ []) (b ∷ []) t
  close-clean c b parameter t h x = subst (Clean e s (c ∷ []) (b ∷ [])) (sym x) (h.1, tt)
  close-clean c b (outer l u) t h x = subst (Clean e s (c ∷ []) (b ∷ [])) (sym x) (h.1, alone (IsCleanEdge e s) (kid_tops e s l) (kid_flags e s l) u h.0.1)
  close-clean c b (inner l part args) t h (q, z, w, x) =
      subst (Clean e s (c ∷ []) (b ∷ [])) (sym x) (z, alone (IsCleanEdge e s) ((s q).borders) (no_flags ((s q).borders)) args (subst (λ u. Clean e s u (no_flags u) args) (sym w) h.0.2))

  pub all-close-clean : (ks : List Cut) (cs : List Above) (bs : List Bool) (ts : List (List Label)) → AllHang e s cs bs ks → AllClosed e s cs ks ts → Clean e s cs bs (joined ts)
  all-close-clean [] [] [] [] h x = tt
  all-close-clean [] [] (b ∷ bs) ts h x = absurd h
  all-close-clean [] (c ∷ cs) [] ts h x = absurd h
  all-close-clean [] (c ∷ cs) (b ∷ bs) ts h x = absurd h
  all-close-clean [] [] [] (t ∷ ts) h x = absurd x
  all-close-clean (k ∷ ks) [] [] ts h x = absurd h
  all-close-clean (k ∷ ks) [] (b ∷ bs) ts h x = absurd h
  all-close-clean (k ∷ ks) (c ∷ cs) [] ts h x = absurd h
  all-close-clean (k ∷ ks) (c ∷ cs) (b ∷ bs) [] h x = absurd x
  all-close-clean (k ∷ ks) (c ∷ cs) (b ∷ bs) (t ∷ ts) h x =
      edges-append (IsCleanEdge e s) t (joined ts) (c ∷ []) cs (b ∷ []) bs (close-clean c b k t h.0 x.0) (all-close-clean ks cs bs ts h.1 x.1)

  pub same-many : (l : Label) → length (kid_flags e s l) ≡ length (kid_tops e s l)
  same-many Bottom = refl
  same-many (Symbol f) = refl
  same-many Param = refl
  same-many (Call q) = flags-many ((s q).borders) where
    flags-many : (cs : List Above) → length (no_flags cs) ≡ length cs
    flags-many [] = refl
    flags-many (c ∷ cs) = ap suc (flags-many cs)
