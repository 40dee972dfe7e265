-- Terms below whose roots no edge weighs anything.
use Rattle.std.proofs.Common.{◌≡◌, inl, inr, ℕ, zero, suc, ◌+◌, List, [], ◌∷◌, ◌++◌, Some, None, length, refl, ap, sym, subst, ◌∙◌, arith, append_assoc, append-nil, length-append, true, false}
use Rattle.std.specs.Prelude.{Bool}
use Rattle.rule_arena.specs.Preorder.{AreTerms}
use Rattle.rule_arena.specs.declared.label.Label.{Label}
use Rattle.rule_arena.specs.declared.label.Label.TheVariants.{Bottom, Symbol, Call, Param}
use Rattle.slt_grammar.specs.Bodies.{arity}
use Rattle.slt_grammar.proofs.Substitutions.{joined, AllTerms}
use Rattle.border_repair.specs.Edges.{IsSafe, no_flags, kid_tops, kid_flags, IsOpenEdge, AreEdges, direct_at, weighs_at, all_edges}
use Rattle.border_repair.specs.Weighing.{Scale, Above, Rim}
use Rattle.border_repair.proofs.Cleaning.{edges-append, alone}

-- the label at the root of a term
abbrev pub first_of : List Label → Label
first_of [] = Param
first_of (l ∷ ls) = l

module _ (e : Scale) (s : ℕ → Rim) (ranks : List ℕ) (same : (l : Label) → length (kid_tops e s l) ≡ arity ranks l) where
  abbrev pub IsStill : Above → Bool → Label → Type 0
  IsStill c b l = weighs_at e s c l ≡ 0

  abbrev pub Still : List Above → List Bool → List Label → Type 0
  Still = AreEdges e s IsStill

  pub flags-same : (l : Label) → length (kid_flags e s l) ≡ arity ranks l
  flags-same Bottom = same Bottom
  flags-same (Symbol f) = same (Symbol f)
  flags-same Param = same Param
  flags-same (Call q) = flags-many ((s q).borders) ∙ same (Call q) where
    flags-many : (cs : List Above) → length (no_flags cs) ≡ length cs
    flags-many [] = refl
    flags-many (c ∷ cs) = ap suc (flags-many cs)

  -- still terms, cut in two
  still-cut : (n : ℕ) (xs ys : List Label) (tops cs : List Above) (fs bs : List Bool) → AreTerms (arity ranks) n xs → length tops ≡ n → length fs ≡ n → Still (tops ++ cs) (fs ++ bs) (xs ++ ys) → Still tops fs xs × Still cs bs ys
  still-cut zero [] ys [] cs [] bs t m k x = (tt, x)
  still-cut zero [] ys [] cs (f ∷ fs) bs t m k x = absurd (omega arith)
  still-cut zero [] ys (a ∷ tops) cs fs bs t m k x = absurd (omega arith)
  still-cut zero (l ∷ xs) ys tops cs fs bs t m k x = absurd t
  still-cut (suc n) [] ys tops cs fs bs t m k x = absurd t
  still-cut (suc n) (l ∷ xs) ys [] cs fs bs t m k x = absurd (omega arith)
  still-cut (suc n) (l ∷ xs) ys (a ∷ tops) cs [] bs t m k x = absurd (omega arith)
  still-cut (suc n) (l ∷ xs) ys (a ∷ tops) cs (f ∷ fs) bs t m k x =
      let y = subst (λ u. Still u (kid_flags e s l ++ (fs ++ bs)) (xs ++ ys)) (sym (append_assoc (kid_tops e s l) tops cs)) x.1 in
      let z = subst (λ u. Still ((kid_tops e s l ++ tops) ++ cs) u (xs ++ ys)) (sym (append_assoc (kid_flags e s l) fs bs)) y in
      let r = still-cut (arity ranks l + n) xs ys (kid_tops e s l ++ tops) cs (kid_flags e s l ++ fs) bs t
      (omega (arith, length-append (kid_tops e s l) tops, same l)) (omega (arith, length-append (kid_flags e s l) fs, flags-same l)) z in
      ((x.0, r.0), r.1)

  -- a term that is still below its root
  pub record Quiet (t : List Label) : Type 0 where
    pub label : Label
    pub below : List Label
    pub whole : t ≡ label ∷ below
    pub inside : Still (kid_tops e s label) (kid_flags e s label) below

  abbrev pub AllQuiet : List (List Label) → Type 0
  AllQuiet [] = Unit {0}
  AllQuiet (t ∷ ts) = Quiet t × AllQuiet ts

  pub quiet-parts : (xs ys : List (List Label)) → AllQuiet (xs ++ ys) → AllQuiet xs × AllQuiet ys
  quiet-parts [] ys h = (tt, h)
  quiet-parts (x ∷ xs) ys h = let r = quiet-parts xs ys h.1 in ((h.0, r.0), r.1)

  quiet-append : (xs ys : List (List Label)) → AllQuiet xs → AllQuiet ys → AllQuiet (xs ++ ys)
  quiet-append [] ys h k = k
  quiet-append (x ∷ xs) ys h k = (h.0, quiet-append xs ys h.1 k)

  -- the edge above each term weighs nothing
  abbrev pub TopsStill : List Above → List (List Label) → Type 0
  TopsStill [] [] = Unit {0}
  TopsStill (c ∷ cs) (t ∷ ts) = (weighs_at e s c (first_of t) ≡ 0) × TopsStill cs ts
  TopsStill cs ts = ⊥

  -- quiet terms under still edges are still
  pub still-joined : (ts : List (List Label)) (cs : List Above) (bs : List Bool) → length bs ≡ length cs → TopsStill cs ts → AllQuiet ts → Still cs bs (joined ts)
  still-joined [] [] [] l h q = tt
  still-joined [] [] (b ∷ bs) l h q = absurd (omega arith)
  still-joined [] (c ∷ cs) bs l h q = absurd h
  still-joined (t ∷ ts) [] bs l h q = absurd h
  still-joined (t ∷ ts) (c ∷ cs) [] l h q = absurd (omega arith)
  still-joined (t ∷ ts) (c ∷ cs) (b ∷ bs) l h q =
      edges-append e s IsStill t (joined ts) (c ∷ []) cs (b ∷ []) bs
      (subst (Still (c ∷ []) (b ∷ [])) (sym q.0.whole) (ap (weighs_at e s c) (sym (ap first_of q.0.whole)) ∙ h.0, alone e s IsStill (kid_tops e s q.0.label) (kid_flags e s q.0.label) q.0.below q.0.inside))
      (still-joined ts cs bs (omega arith) h.1 q.1)

  -- from still terms each is quiet
  quiet-terms : (ts : List (List Label)) (cs : List Above) (bs : List Bool) → AllTerms ranks ts → length cs ≡ length ts → length bs ≡ length ts → Still cs bs (joined ts) → AllQuiet ts
  quiet-terms [] cs bs t m k x = tt
  quiet-terms (u ∷ ts) [] bs t m k x = absurd (omega arith)
  quiet-terms (u ∷ ts) (c ∷ cs) [] t m k x = absurd (omega arith)
  quiet-terms ([] ∷ ts) (c ∷ cs) (b ∷ bs) t m k x = absurd t.0
  quiet-terms ((l ∷ u) ∷ ts) (c ∷ cs) (b ∷ bs) t m k x =
      let r = still-cut 1 (l ∷ u) (joined ts) (c ∷ []) cs (b ∷ []) bs t.0 refl refl x in
      let y = subst (λ v. Still v (kid_flags e s l ++ []) u) (append-nil (kid_tops e s l)) r.0.1 in (
        record { label = l; below = u; whole = refl; inside = subst (λ v. Still (kid_tops e s l) v u) (append-nil (kid_flags e s l)) y },
        quiet-terms ts cs bs t.1 (omega arith) (omega arith) r.1,
      )

  -- an open edge of no direct weight weighs nothing
  open_still : (c : Above) (b : Bool) (l : Label) → IsOpenEdge e s c b l → direct_at e s c b l ≡ 0 → weighs_at e s c l ≡ 0
  open_still c true Bottom x d = d
  open_still c true (Symbol f) x d = d
  open_still c false Bottom (inl x) d = absurd (let n : false ≡ true = x in cc)
  open_still c false Bottom (inr x) d = x
  open_still c false (Symbol f) (inl x) d = absurd (let n : false ≡ true = x in cc)
  open_still c false (Symbol f) (inr x) d = x
  open_still c b (Call q) x d = x
  open_still c b Param x d = refl

  no_weight : (c : Above) (l : Label) → direct_at e s c false l ≡ 0
  no_weight c Bottom = refl
  no_weight c (Symbol f) = refl
  no_weight c (Call q) = refl
  no_weight c Param = refl

  -- the edges above terms are open
  abbrev pub TopsOpen : List Above → List Bool → List (List Label) → Type 0
  TopsOpen [] [] [] = Unit {0}
  TopsOpen (c ∷ cs) (b ∷ bs) (t ∷ ts) = IsOpenEdge e s c b (first_of t) × TopsOpen cs bs ts
  TopsOpen cs bs ts = ⊥

  -- above terms of which none is below a symbol of the body, open edges weigh nothing
  pub open-still : (ts : List (List Label)) (cs : List Above) → TopsOpen cs (no_flags cs) ts → TopsStill cs ts
  open-still [] [] h = tt
  open-still [] (c ∷ cs) h = absurd h
  open-still (t ∷ ts) [] h = absurd h
  open-still (t ∷ ts) (c ∷ cs) h = (open_still c false (first_of t) h.0 (no_weight c (first_of t)), open-still ts cs h.1)

  pub open-cut : (kids ts : List (List Label)) (tops cs : List Above) (fs bs : List Bool) → length tops ≡ length kids → length fs ≡ length kids → TopsOpen (tops ++ cs) (fs ++ bs) (kids ++ ts) → TopsOpen tops fs kids × TopsOpen cs bs ts
  open-cut [] ts [] cs [] bs m k x = (tt, x)
  open-cut [] ts [] cs (f ∷ fs) bs m k x = absurd (omega arith)
  open-cut [] ts (a ∷ tops) cs fs bs m k x = absurd (omega arith)
  open-cut (t ∷ kids) ts [] cs fs bs m k x = absurd (omega arith)
  open-cut (t ∷ kids) ts (a ∷ tops) cs [] bs m k x = absurd (omega arith)
  open-cut (t ∷ kids) ts (a ∷ tops) cs (f ∷ fs) bs m k x = let r = open-cut kids ts tops cs fs bs (omega arith) (omega arith) x.1 in ((x.0, r.0), r.1)

  -- nothing weighs anything above the arguments of x
  abbrev pub AreSafe : List Above → Type 0
  AreSafe [] = Unit {0}
  AreSafe (c ∷ cs) = IsSafe e c × AreSafe cs

  pub safe_still : (c : Above) (l : Label) → IsSafe e c → weighs_at e s c l ≡ 0
  safe_still c Bottom h = h (Some Bottom)
  safe_still c (Symbol f) h = h (Some (Symbol f))
  safe_still c (Call q) h = h ((s q).root)
  safe_still c Param h = refl

  safe-tops : (ts : List (List Label)) (cs : List Above) → length cs ≡ length ts → AreSafe cs → TopsStill cs ts
  safe-tops [] [] m h = tt
  safe-tops [] (c ∷ cs) m h = absurd (omega arith)
  safe-tops (t ∷ ts) [] m h = absurd (omega arith)
  safe-tops (t ∷ ts) (c ∷ cs) m h = (safe_still c (first_of t) h.0, safe-tops ts cs (omega arith) h.1)

  -- still edges weigh nothing together
  pub still-none : (ls : List Label) (cs : List Above) (bs : List Bool) → Still cs bs ls → all_edges e s cs ls ≡ 0
  still-none [] [] [] x = refl
  still-none [] [] (b ∷ bs) x = absurd x
  still-none [] (c ∷ cs) [] x = absurd x
  still-none [] (c ∷ cs) (b ∷ bs) x = absurd x
  still-none (l ∷ ls) [] [] x = absurd x
  still-none (l ∷ ls) [] (b ∷ bs) x = absurd x
  still-none (l ∷ ls) (c ∷ cs) [] x = absurd x
  still-none (l ∷ ls) (c ∷ cs) (b ∷ bs) x = omega (arith, x.0, still-none ls (kid_tops e s l ++ cs) (kid_flags e s l ++ bs) x.1)

  -- nothing arises in a quiet body
  pub quiet-none : (t : List Label) → Quiet t → all_edges e s (None ∷ []) t ≡ 0
  quiet-none t q =
      still-none t (None ∷ []) (true ∷ []) (subst (Still (None ∷ []) (true ∷ [])) (sym q.whole) (at_root q.label, alone e s IsStill (kid_tops e s q.label) (kid_flags e s q.label) q.below q.inside)) where
        at_root : (l : Label) → weighs_at e s None l ≡ 0
        at_root Bottom = refl
        at_root (Symbol f) = refl
        at_root (Call q) = refl
        at_root Param = refl
