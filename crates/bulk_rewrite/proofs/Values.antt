-- What the rules that are made of triples stand for is what becomes of what the rules stand for.
use Rattle.std.proofs.Common.{◌≡◌, ℕ, zero, suc, ◌+◌, ◌≤◌, List, [], ◌∷◌, ◌++◌, length, get_or, take, drop, map, Bool, true, false, Option, Some, None, slice_get, refl, ap, sym, ◌∙◌, arith, length-append}
use Rattle.std.proofs.Math.Seq.{take-append_seam, drop-append_seam}
use Rattle.std.proofs.lemmas.List.{length-take-le, take-append-drop, take-map}
use Rattle.rule_arena.specs.Preorder.{AreTerms}
use Rattle.rule_arena.specs.declared.label.Label.{Label}
use Rattle.rule_arena.specs.declared.label.Label.TheVariants.{Bottom, Symbol, Call, Param}
use Rattle.slt_grammar.specs.Algebras.{Algebra, ranks_of, meanings, all_meanings}
use Rattle.slt_grammar.specs.Automata.{Downward, handed}
use Rattle.slt_grammar.specs.Bodies.{arity, params}
use Rattle.slt_grammar.specs.Terms.{Term, Leaf, Node, holes_of, up, term_algebra}
use Rattle.slt_grammar.specs.Grammars.{value_at}
use Rattle.slt_grammar.specs.declared.automata.Fell.{Fell}
use Rattle.slt_grammar.specs.declared.rules.Rule.{Rule}
use Rattle.slt_grammar.proofs.Meanings.{meanings-whole}
use Rattle.rule_runs.specs.Reached.{RuleStates, states_of}
use Rattle.rule_runs.specs.Walks.{kids_of, param_downs}
use Rattle.rule_runs.proofs.Handing.{IsLinear, ups-meanings}
use Rattle.bulk_rewrite.specs.Rewriting.{Rewriting, IsLawful, unless, rewritten, kept_terms, kept_count}
use Rattle.bulk_rewrite.specs.Making.{Made, MadeBottom, MadeParam, MadeCall, making, AreNamed}
use Rattle.bulk_rewrite.proofs.Kept.{kept_terms-append, length-kept_terms, kept_terms-lost, lost-handed, holes-call, length-handed-call}
use Rattle.bulk_rewrite.proofs.Bodies.{named-unless, named-symbol, not-lost}

module _ {S D : Type 0} (A : Algebra S) (W : Downward S D) (G : List Rule) (lin : IsLinear G) (R : Rewriting D) (law : IsLawful W R) (states : List S) where
  abbrev pub ups : List Term → List S
  ups ts = map (λ t. up A t states) ts

  abbrev pub kept : List Term → List D → List Term
  kept ts ds = kept_terms A W R ts states ds

  -- what a rule means over terms
  abbrev pub means : ℕ → List Term → Term
  means q ts = get_or (all_meanings term_algebra G) q (λ _. Leaf) ts

  -- what labels mean over terms
  abbrev pub bodies : List Term → List Label → List Term
  bodies hs ls = meanings term_algebra (ranks_of G) (all_meanings term_algebra G) hs ls []

  -- what is made of a node is made of its two children
  kept-node : (f : ℕ) (d : D) (ds : List D) (a b : Term) (rest : List Term) (o : Option ℕ) (l : Bool) (ms : List Term)
      → R.becomes f d (W.step f d (up A a states) (up A b states)).hit ≡ o → R.lost d ≡ l
      → ms ≡ kept (a ∷ b ∷ rest) ((W.step f d (up A a states) (up A b states)).left ∷ (W.step f d (up A a states) (up A b states)).right ∷ ds)
      → (o ≡ None → ms ≡ kept (Node f a b ∷ rest) (d ∷ ds)) × ((g : ℕ) → o ≡ Some g → Node g (get_or (take 2 ms) 0 Leaf) (get_or (take 2 ms) 1 Leaf) ∷ drop 2 ms ≡ kept (Node f a b ∷ rest) (d ∷ ds))
  kept-node f d ds a b rest None true ms e l q =
      let k : S = up A a states in
      let r : S = up A b states in
      (λ n. q ∙ rw (law.lost_left f d k r l, law.lost_right f d k r l, l) refl, λ g n. absurd (cc))
  kept-node f d ds a b rest None false ms e l q =
      let k : S = up A a states in
      let r : S = up A b states in
      (λ n. q ∙ rw (law.taken f d k r e, law.behind f d k r l, l, e) refl, λ g n. absurd (cc))
  kept-node f d ds a b rest (Some g) l ms e i q =
      let k : S = up A a states in
      let r : S = up A b states in
      let y : R.lost d ≡ false = i ∙ not-lost W R law f g d (W.step f d k r).hit l e i in
      (λ n. absurd (cc), λ h n. rw (q, law.kept f g d k r e, law.behind f d k r y, y, e ∙ n) refl)

  kept-symbol : (f : ℕ) (d : D) (ds : List D) (all : List Term) (us : List S) → 2 ≤ length all → us ≡ ups all
      → (ms : List Term) → ms ≡ kept all ((W.step f d (get_or us 0 A.bottom) (get_or us 1 A.bottom)).left ∷ (W.step f d (get_or us 0 A.bottom) (get_or us 1 A.bottom)).right ∷ ds)
      → (R.becomes f d (W.step f d (get_or us 0 A.bottom) (get_or us 1 A.bottom)).hit ≡ None → ms ≡ kept (Node f (get_or (take 2 all) 0 Leaf) (get_or (take 2 all) 1 Leaf) ∷ drop 2 all) (d ∷ ds))
      × ((g : ℕ) → R.becomes f d (W.step f d (get_or us 0 A.bottom) (get_or us 1 A.bottom)).hit ≡ Some g → Node g (get_or (take 2 ms) 0 Leaf) (get_or (take 2 ms) 1 Leaf) ∷ drop 2 ms ≡ kept (Node f (get_or (take 2 all) 0 Leaf) (get_or (take 2 all) 1 Leaf) ∷ drop 2 all) (d ∷ ds))
  kept-symbol f d ds [] us h e = absurd (omega arith)
  kept-symbol f d ds (a ∷ []) us h e = absurd (omega arith)
  kept-symbol f d ds (a ∷ b ∷ rest) us h e = rw e (λ ms q. kept-node f d ds a b rest (R.becomes f d (W.step f d (up A a states) (up A b states)).hit) (R.lost d) ms refl refl q)

  -- what is made of a call is made of its arguments, and of what stands behind them
  kept-call : (q : ℕ) (d : D) (ds : List D) (all : List Term) → get_or (ranks_of G) q 0 ≤ length all
      → kept all (handed A W (value_at G q) (ups (take (get_or (ranks_of G) q 0) all)) d ++ ds)
      ≡ kept (take (get_or (ranks_of G) q 0) all) (handed A W (value_at G q) (ups (take (get_or (ranks_of G) q 0) all)) d) ++ kept (drop (get_or (ranks_of G) q 0) all) ds
  kept-call q d ds all h =
      let k : ℕ = get_or (ranks_of G) q 0 in
      let hs : List D = handed A W (value_at G q) (ups (take k all)) d in
      let n : length hs ≡ length (take k all) = length-handed-call A W G lin q (ups (take k all)) d ∙ sym (length-take-le k all h) in
      ap (λ ts. kept ts (hs ++ ds)) (sym (take-append-drop k all)) ∙ kept_terms-append A W R states (take k all) (drop k all) hs ds n

  kept-lost_call : (q : ℕ) (d : D) (all : List Term) → R.lost d ≡ true → get_or (ranks_of G) q 0 ≤ length all → kept (take (get_or (ranks_of G) q 0) all) (handed A W (value_at G q) (ups (take (get_or (ranks_of G) q 0) all)) d) ≡ []
  kept-lost_call q d all l h =
      let k : ℕ = get_or (ranks_of G) q 0 in
      ap (kept (take k all)) (lost-handed A W R law (ups (take k all)) d l (value_at G q)) ∙ kept_terms-lost A W R states d l (take k all) (holes_of (value_at G q)) (holes-call A W G lin q ∙ sym (length-take-le k all h))

  -- rules that are made of triples have their ranks, and mean what becomes of what the triples' rules mean
  pub record AreRight (ts : List (RuleStates S × D)) (ranks : List ℕ) (fs : List (List Term → Term)) : Type 0 where
    pub rank : (i : ℕ) (k : RuleStates S) (d : D) → slice_get ts i ≡ Some (k, d) → get_or ranks i 0 ≡ kept_count R (handed A W (value_at G k.0) k.1 d)
    pub mean : (i : ℕ) (k : RuleStates S) (d : D) → slice_get ts i ≡ Some (k, d) → R.lost d ≡ false → (xs : List Term) → length xs ≡ get_or (ranks_of G) k.0 0 → ups xs ≡ k.1
        → get_or fs i (λ _. Leaf) (kept xs (handed A W (value_at G k.0) k.1 d)) ≡ rewritten A W R (means k.0 xs) states d

  module _ (ts : List (RuleStates S × D)) (ranks : List ℕ) (fs : List (List Term → Term)) (right : AreRight ts ranks fs) where
    abbrev news : List Term → List Label → List Term
    news hs ls = meanings term_algebra ranks fs hs ls []

    -- what a made call means, and what stands behind it
    called : (i q : ℕ) (d : D) (kids xs : List Term) (ys ms : List Term) → slice_get ts i ≡ Some ((q, ups kids), d) → R.lost d ≡ false → length kids ≡ get_or (ranks_of G) q 0
        → xs ≡ kept kids (handed A W (value_at G q) (ups kids) d) → ms ≡ xs ++ ys
        → get_or fs i (λ _. Leaf) (take (get_or ranks i 0) ms) ∷ drop (get_or ranks i 0) ms ≡ rewritten A W R (means q kids) states d ∷ ys
    called i q d kids xs ys ms at here n e m =
        let hs : List D = handed A W (value_at G q) (ups kids) d in
        let c : length hs ≡ length kids = length-handed-call A W G lin q (ups kids) d ∙ sym n in
        let l : get_or ranks i 0 ≡ length xs = right.rank i (q, ups kids) d at ∙ sym (length-kept_terms A W R states kids hs c) ∙ ap length (sym e) in
        let w : get_or fs i (λ _. Leaf) xs ≡ rewritten A W R (means q kids) states d = ap (get_or fs i (λ _. Leaf)) e ∙ right.mean i (q, ups kids) d at here kids n refl in
        rw (l, m, take-append_seam xs ys, drop-append_seam xs ys, w) refl

    -- what a call's made labels mean
    kept-named : (q : ℕ) (d : D) (ds : List D) (all : List Term) (ms : List (Made S D)) (K : List Term) (out : List Label) (us : List S) → get_or (ranks_of G) q 0 ≤ length all → us ≡ ups (take (get_or (ranks_of G) q 0) all)
        → AreNamed ts (unless (R.lost d) (MadeCall (q, us) d) ms) out → ((o : List Label) → AreNamed ts ms o → news K o ≡ kept all (handed A W (value_at G q) us d ++ ds))
        → news K out ≡ kept (means q (take (get_or (ranks_of G) q 0) all) ∷ drop (get_or (ranks_of G) q 0) all) (d ∷ ds)
    kept-named q d ds all ms K out us many e =
        let k : ℕ = get_or (ranks_of G) q 0 in
        let kids : List Term = take k all in
        let hs : List D = handed A W (value_at G q) (ups kids) d in
        let c = kept-call q d ds all many in
        let P : List Label → Type 0 = λ o. news K o ≡ kept (means q kids ∷ drop k all) (d ∷ ds) in
        rw e (λ m ih.
        named-unless ts P (R.lost d) (MadeCall (q, ups kids) d) ms out m
        (λ l i. rw l (ih out i ∙ c ∙ ap (λ xs. xs ++ kept (drop k all) ds) (kept-lost_call q d all l many)))
        (λ p rest l i j. rw (i.1, l) (called i.0 q d kids (kept kids hs) (kept (drop k all) ds) (news K rest) i.2 l (length-take-le k all many) refl (ih rest j ∙ c))))

    -- what the made labels mean is what becomes of what the labels mean
    pub made-means : (n : ℕ) (ls : List Label) (hs : List Term) (ds : List D) (out : List Label) → AreTerms (arity (ranks_of G)) n ls → length ds ≡ n → length hs ≡ params ls → AreNamed ts (making A W G R (ups hs) ds ls) out
        → news (kept hs (param_downs A W G (ups hs) ds ls)) out ≡ kept (bodies hs ls) ds
    made-means n [] [] ds [] t e h m = refl
    made-means n [] (x ∷ hs) ds out t e h m = absurd (omega arith)
    made-means n [] [] ds (o ∷ out) t e h m = absurd m
    made-means zero (l ∷ ls) hs ds out t e h m = absurd t
    made-means (suc n) (l ∷ ls) hs [] out t e h m = absurd (omega arith)
    made-means (suc n) (Param ∷ ls) [] (d ∷ ds) out t e h m = absurd (omega arith)
    made-means (suc n) (Param ∷ ls) (x ∷ hs) (d ∷ ds) out t e h m =
        let y : Term = rewritten A W R x states d in
        let K : List Term = kept hs (param_downs A W G (ups hs) ds ls) in
        let P : List Label → Type 0 = λ o. news (unless (R.lost d) y K) o ≡ unless (R.lost d) y (kept (bodies hs ls) ds) in
        named-unless ts P (R.lost d) MadeParam (making A W G R (ups hs) ds ls) out m
        (λ l k. rw l (made-means (0 + n) ls hs ds out t (omega arith) (omega arith) k))
        (λ p rest l i k. rw (l, i) (ap (λ zs. y ∷ zs) (made-means (0 + n) ls hs ds rest t (omega arith) (omega arith) k)))
    made-means (suc n) (Bottom ∷ ls) hs (d ∷ ds) out t e h m =
        let K : List Term = kept hs (param_downs A W G (ups hs) ds ls) in
        let P : List Label → Type 0 = λ o. news K o ≡ unless (R.lost d) Leaf (kept (bodies hs ls) ds) in
        named-unless ts P (R.lost d) MadeBottom (making A W G R (ups hs) ds ls) out m
        (λ l k. rw l (made-means (0 + n) ls hs ds out t (omega arith) h k))
        (λ p rest l i k. rw (l, i) (ap (λ zs. Leaf ∷ zs) (made-means (0 + n) ls hs ds rest t (omega arith) h k)))
    made-means (suc n) (Symbol f ∷ ls) hs (d ∷ ds) out t e h m =
        let all : List Term = bodies hs ls in
        let us : List S = states_of A G (ups hs) ls in
        let u : us ≡ ups all = sym (ups-meanings A W G lin states hs ls) in
        let w = meanings-whole term_algebra (ranks_of G) (all_meanings term_algebra G) (2 + n) hs ls [] t in
        let s : Fell D = W.step f d (get_or us 0 A.bottom) (get_or us 1 A.bottom) in
        let K : List Term = kept hs (param_downs A W G (ups hs) (s.left ∷ s.right ∷ ds) ls) in
        let many : 2 ≤ length all = omega (arith, w.1) in
        let P : List Label → Type 0 = λ o. news K o ≡ kept (Node f (get_or (take 2 all) 0 Leaf) (get_or (take 2 all) 1 Leaf) ∷ drop 2 all) (d ∷ ds) in
        named-symbol ts P (R.becomes f d s.hit) (making A W G R (ups hs) (s.left ∷ s.right ∷ ds) ls) out m
        (λ o k. (kept-symbol f d ds all us many u (news K out) (made-means (2 + n) ls hs (s.left ∷ s.right ∷ ds) out t (omega arith) h k)).0 o)
        (λ g rest o k. (kept-symbol f d ds all us many u (news K rest) (made-means (2 + n) ls hs (s.left ∷ s.right ∷ ds) rest t (omega arith) h k)).1 g o)
    made-means (suc n) (Call q ∷ ls) hs (d ∷ ds) out t e h m =
        let k : ℕ = get_or (ranks_of G) q 0 in
        let all : List Term = bodies hs ls in
        let kids : List Term = take k all in
        let w = meanings-whole term_algebra (ranks_of G) (all_meanings term_algebra G) (k + n) hs ls [] t in
        let many : k ≤ length all = omega (arith, w.1) in
        let us : List S = kids_of A W G q (ups hs) ls in
        let u : us ≡ ups kids = ap (take k) (sym (ups-meanings A W G lin states hs ls)) ∙ take-map (λ x. up A x states) k all in
        kept-named q d ds all (making A W G R (ups hs) (handed A W (value_at G q) us d ++ ds) ls) (kept hs (param_downs A W G (ups hs) (handed A W (value_at G q) us d ++ ds) ls)) out us many u m
        (λ o i. made-means (k + n) ls hs (handed A W (value_at G q) us d ++ ds) o t (omega (arith, length-append (handed A W (value_at G q) us d) ds, length-handed-call A W G lin q us d)) h i)
