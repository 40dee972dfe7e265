-- Rules that are expanded and cut have no edge with a call on one side that weighs anything.
use Rattle.std.proofs.Common.{◌≡◌, ◌⊎◌, inl, inr, ℕ, ◌+◌, List, [], ◌∷◌, ◌++◌, Some, None, length, get_or, refl, ap, sym, subst, ◌∙◌, arith, true}
use Rattle.std.specs.Prelude.{Bool}
use Rattle.rule_arena.specs.declared.label.Label.{Label}
use Rattle.rule_arena.specs.declared.label.Label.TheVariants.{Bottom, Symbol, Call, Param}
use Rattle.slt_grammar.specs.Bodies.{params}
use Rattle.slt_grammar.specs.Editing.{put}
use Rattle.border_repair.specs.Edges.{IsSafe, no_flags, kid_tops, kid_flags, IsOpenEdge, IsCleanEdge, Calm, Clean, IsCleanTerm, direct, all_edges}
use Rattle.border_repair.specs.Expanding.{Expands, nothing, parameter, bottom, symbol, call}
use Rattle.border_repair.specs.Weighing.{Scale, Above, AreKnown, hung, Rim, arisen}
use Rattle.border_repair.proofs.Cleaning.{edges-append, open_edge, calm-direct}
use Rattle.border_repair.proofs.RimLemmas.{known-under}

module _ (e : Scale) (s : ℕ → Rim) where
  abbrev pub AreCleanTerms : List (List Label) → Type 0
  AreCleanTerms [] = Unit {0}
  AreCleanTerms (t ∷ ts) = IsCleanTerm e s t × AreCleanTerms ts

  clean-parts : (xs ys : List (List Label)) → AreCleanTerms (xs ++ ys) → AreCleanTerms xs × AreCleanTerms ys
  clean-parts [] ys h = (tt, h)
  clean-parts (x ∷ xs) ys h = let r = clean-parts xs ys h.1 in ((h.0, r.0), r.1)

  -- a clean term may stand where nothing weighs anything
  anywhere : (c : Above) (b : Bool) (t : List Label) → IsSafe e c → Clean e s (c ∷ []) (true ∷ []) t → Clean e s (c ∷ []) (b ∷ []) t
  anywhere c b [] p x = absurd x
  anywhere c b (Bottom ∷ ls) p x = (inr (p (Some Bottom)), x.1)
  anywhere c b (Symbol f ∷ ls) p x = (inr (p (Some (Symbol f))), x.1)
  anywhere c b (Call q ∷ ls) p x = x
  anywhere c b (Param ∷ ls) p x = (inr p, x.1)

  at_parameter : (c : Above) (b : Bool) (t : List Label) → IsCleanTerm e s t → (b ≡ true) ⊎ IsSafe e c → Clean e s (c ∷ []) (b ∷ []) t
  at_parameter c b t h (inl x) = subst (λ z. Clean e s (c ∷ []) (z ∷ []) t) (sym x) (h c)
  at_parameter c b t h (inr x) = anywhere c b t x (h c)

  -- clean terms in the places of parameters
  put-clean : (ls : List Label) (kids : List (List Label)) (cs : List Above) (bs : List Bool) → length kids ≡ params ls → AreCleanTerms kids → Clean e s cs bs ls → Clean e s cs bs (put ls kids)
  put-clean [] [] cs bs n k x = x
  put-clean [] (t ∷ kids) cs bs n k x = absurd (omega arith)
  put-clean (l ∷ ls) kids [] [] n k x = absurd x
  put-clean (l ∷ ls) kids [] (b ∷ bs) n k x = absurd x
  put-clean (l ∷ ls) kids (c ∷ cs) [] n k x = absurd x
  put-clean (Param ∷ ls) [] (c ∷ cs) (b ∷ bs) n k x = absurd (omega arith)
  put-clean (Param ∷ ls) (t ∷ kids) (c ∷ cs) (b ∷ bs) n k x =
      edges-append e s (IsCleanEdge e s) t (put ls kids) (c ∷ []) cs (b ∷ []) bs (at_parameter c b t k.0 x.0) (put-clean ls kids cs bs (omega arith) k.1 x.1)
  put-clean (Bottom ∷ ls) kids (c ∷ cs) (b ∷ bs) n k x = (x.0, put-clean ls kids cs bs n k x.1)
  put-clean (Symbol f ∷ ls) kids (c ∷ cs) (b ∷ bs) n k x = (x.0, put-clean ls kids (Some (f, 1) ∷ Some (f, 2) ∷ cs) (true ∷ true ∷ bs) n k x.1)
  put-clean (Call q ∷ ls) kids (c ∷ cs) (b ∷ bs) n k x = (x.0, put-clean ls kids ((s q).borders ++ cs) (no_flags ((s q).borders) ++ bs) n k x.1)

  -- the outsides of the called rules are clean
  abbrev pub HaveClean : List ℕ → (ℕ → List Label) → List Label → Type 0
  HaveClean ranks outside [] = Unit {0}
  HaveClean ranks outside (Call q ∷ ls) = (IsCleanTerm e s (outside q) × (params (outside q) ≡ get_or ranks q 0)) × HaveClean ranks outside ls
  HaveClean ranks outside (l ∷ ls) = HaveClean ranks outside ls

  -- what is expanded is clean
  pub expanded-clean : (ranks : List ℕ) (outside : ℕ → List Label) (ls : List Label) (ts : List (List Label)) → Expands ranks outside ls ts → HaveClean ranks outside ls → AreCleanTerms ts
  expanded-clean ranks outside _ _ nothing h = tt
  expanded-clean ranks outside _ _ (parameter ls ts x) h = (λ c. (inl refl, tt), expanded-clean ranks outside ls ts x h)
  expanded-clean ranks outside _ _ (bottom ls ts x) h = (λ c. (inl refl, tt), expanded-clean ranks outside ls ts x h)
  expanded-clean ranks outside _ _ (symbol f ls a b ts x) h =
      let k = expanded-clean ranks outside ls (a ∷ b ∷ ts) x h in
      (λ c. (inl refl, edges-append e s (IsCleanEdge e s) a b (Some (f, 1) ∷ []) (Some (f, 2) ∷ []) (true ∷ []) (true ∷ []) (k.0 (Some (f, 1))) (k.1.0 (Some (f, 2)))), k.1.1)
  expanded-clean ranks outside _ _ (call q ls kids ts n x) h =
      let k = clean-parts kids ts (expanded-clean ranks outside ls (kids ++ ts) x h.1) in
      (λ c. put-clean (outside q) kids (c ∷ []) (true ∷ []) (n ∙ sym h.0.1) k.0 (h.0.0 c), k.1)

  -- nothing weighs anything where nothing is above
  pub open_top : (l : Label) → IsOpenEdge e s None true l
  open_top Bottom = inl refl
  open_top (Symbol f) = inl refl
  open_top (Call q) = refl
  open_top Param = tt

  clean-calm : (ls : List Label) (cs : List Above) (bs : List Bool) → Clean e s cs bs ls → Calm e s cs bs ls
  clean-calm [] [] [] x = tt
  clean-calm [] [] (b ∷ bs) x = absurd x
  clean-calm [] (c ∷ cs) [] x = absurd x
  clean-calm [] (c ∷ cs) (b ∷ bs) x = absurd x
  clean-calm (l ∷ ls) [] [] x = absurd x
  clean-calm (l ∷ ls) [] (b ∷ bs) x = absurd x
  clean-calm (l ∷ ls) (c ∷ cs) [] x = absurd x
  clean-calm (l ∷ ls) (c ∷ cs) (b ∷ bs) x = (open_edge e s c b l x.0, clean-calm ls (kid_tops e s l ++ cs) (kid_flags e s l ++ bs) x.1)

  -- a clean body, as the start's, is calm
  pub body-calm : (body : List Label) → IsCleanTerm e s body → Calm e s (None ∷ []) (true ∷ []) body
  body-calm body x = clean-calm body (None ∷ []) (true ∷ []) (x None)

  -- what is above the parameters of the rules is known
  abbrev pub AreShown : Type 0
  AreShown = (q : ℕ) → AreKnown (s q).borders

  pub arisen-edges : AreShown → (ls : List Label) (cs : List Above) → arisen s e cs ls ≡ all_edges e s cs ls
  arisen-edges h [] [] = refl
  arisen-edges h [] (c ∷ cs) = refl
  arisen-edges h (l ∷ ls) [] = refl
  arisen-edges h (Bottom ∷ ls) (c ∷ cs) = ap (λ n. hung e c (Some Bottom) + n) (arisen-edges h ls cs)
  arisen-edges h (Symbol f ∷ ls) (c ∷ cs) = ap (λ n. hung e c (Some (Symbol f)) + n) (arisen-edges h ls (Some (f, 1) ∷ Some (f, 2) ∷ cs))
  arisen-edges h (Param ∷ ls) (c ∷ cs) = arisen-edges h ls cs ∙ zero-plus (all_edges e s cs ls) where
    zero-plus : (n : ℕ) → n ≡ 0 + n
    zero-plus n = omega arith
  arisen-edges h (Call q ∷ ls) (c ∷ cs) =
      ap (λ bs. hung e c (s q).root + arisen s e (bs ++ cs) ls) (known-under c (s q).borders (h q)) ∙ ap (λ n. hung e c (s q).root + n) (arisen-edges h ls ((s q).borders ++ cs))

  -- what arises in a calm body are the edges between its own symbols
  pub arises-directly : AreShown → (body : List Label) → Calm e s (None ∷ []) (true ∷ []) body → arisen s e (None ∷ []) body ≡ direct e s (None ∷ []) (true ∷ []) body
  arises-directly h body x = arisen-edges h body (None ∷ []) ∙ calm-direct e s body (None ∷ []) (true ∷ []) x
