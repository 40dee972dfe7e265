-- The walk of a body from its root tells the stretches of what the body means.
use Rattle.std.proofs.Common.{◌≡◌, ℕ, zero, suc, ◌+◌, ◌<◌, ◌≤◌, List, [], ◌∷◌, ◌++◌, length, get_or, take, drop, map, refl, sym, ap, ◌∙◌, arith, length-drop}
use Rattle.std.proofs.lemmas.List.{length-map, length-take-le, take-append-drop, take-map}
use Rattle.rule_arena.specs.Preorder.{AreTerms}
use Rattle.rule_arena.specs.declared.label.Label.{Label}
use Rattle.rule_arena.specs.declared.label.Label.TheVariants.{Bottom, Symbol, Call, Param}
use Rattle.slt_grammar.specs.Bodies.{arity, params}
use Rattle.slt_grammar.specs.Algebras.{Algebra, meanings, ranks_of, all_meanings}
use Rattle.slt_grammar.specs.Terms.{Term, Leaf, Node, Hole, substitute, up, term_algebra, holes_of}
use Rattle.slt_grammar.specs.Automata.{Downward, handed}
use Rattle.slt_grammar.specs.Grammars.{value_at}
use Rattle.slt_grammar.specs.declared.rules.Rule.{Rule}
use Rattle.slt_grammar.proofs.Meanings.{meanings-whole}
use Rattle.rule_runs.specs.Cuts.{Stretch, nothing, one, beside, before, joined, cut, threaded}
use Rattle.rule_runs.specs.Walks.{Open, Place, Piece, absorbed, after, down_at, places, woven_marks, woven, told}
use Rattle.rule_runs.proofs.Handing.{length-handed, AllHoles, IsLinear, ups-meanings}
use Rattle.rule_runs.proofs.Cutting.{beside-nothing, before-nothing, before-twice, before-joined, joined-assoc, length-joined, length-cut, cut-some, cut-substitute, cuts, threaded-before, cuts-some, threaded-some}
use Rattle.rule_runs.proofs.Weaving.{woven-some, woven-before, woven-absorbed, woven-call}

pub places-after : {D : Type 0} (ms : List (Open D)) (n : ℕ) → places ms ≡ suc n → places (after ms) ≡ n
places-after [] n e = absurd (omega arith)
places-after (Place d ∷ ms) n e = omega arith
places-after (Piece s ∷ ms) n e = places-after ms n e

pub places-woven : {D : Type 0} (ds : List D) (ss : List Stretch) (ms : List (Open D)) → places (woven_marks ds ss ++ ms) ≡ length ds + places ms
places-woven [] ss ms = omega arith
places-woven (d ∷ ds) [] ms = omega (arith, places-woven ds [] ms)
places-woven (d ∷ ds) (s ∷ ss) ms = omega (arith, places-woven ds ss ms)

pub front : (ss : List Stretch) → 0 < length ss → ss ≡ get_or ss 0 nothing ∷ drop 1 ss
front [] h = absurd (omega arith)
front (s ∷ ss) h = refl

module _ {S D : Type 0} (A : Algebra S) (W : Downward S D) (G : List Rule) (lin : IsLinear G) (states : List S) where
  ups : List Term → List S
  ups ts = map (λ t. up A t states) ts

  woven-none : (here : Stretch) (ms : List (Open D)) (ts : List Term) → places ms ≡ 0 → woven A W G states here ms ts ≡ absorbed here ms ∷ []
  woven-none here [] ts e = refl
  woven-none here (Piece s ∷ ms) ts e = woven-none (beside here s) ms ts e
  woven-none here (Place d ∷ ms) ts e = absurd (omega arith)

  symbol-step : (f : ℕ) (a : Stretch) (d : D) (ms : List (Open D)) (all : List Term) (kids : List S) → 2 ≤ length all → kids ≡ map (λ t. up A t states) all
      → woven A W G states (beside a (one (W.step f d (get_or kids 0 A.bottom) (get_or kids 1 A.bottom)).hit f)) (Place (W.step f d (get_or kids 0 A.bottom) (get_or kids 1 A.bottom)).left ∷ Place (W.step f d (get_or kids 0 A.bottom) (get_or kids 1 A.bottom)).right ∷ ms) all
      ≡ before a (joined (cut A W (Node f (get_or (take 2 all) 0 Leaf) (get_or (take 2 all) 1 Leaf)) states d) (woven A W G states nothing ms (drop 2 all)))
  symbol-step f a d ms [] kids h e = absurd (omega arith)
  symbol-step f a d ms (x ∷ []) kids h e = absurd (omega arith)
  symbol-step f a d ms (x ∷ y ∷ all) kids h e =
      let s = W.step f d (up A x states) (up A y states) in
      let cx : List Stretch = cut A W x states s.left in
      let cy : List Stretch = cut A W y states s.right in
      let V : List Stretch = woven A W G states nothing ms all in
      let o : Stretch = one s.hit f in
      let ny : 0 < length (joined cy V) = length-joined cy V (cut-some A W y states s.right) in
      rw e (ap (λ z. before (beside a o) (joined cx z)) (before-nothing (joined cy V) ny)
      ∙ before-twice a o (joined cx (joined cy V)) (length-joined cx (joined cy V) (cut-some A W x states s.left))
      ∙ ap (λ z. before a (before o z)) (sym (joined-assoc cx cy V (cut-some A W y states s.right)))
      ∙ ap (before a) (before-joined o (joined cx cy) V (length-joined cx cy (cut-some A W x states s.left))))

  call-step : (q : ℕ) (a : Stretch) (d : D) (ms : List (Open D)) (all : List Term) (kids : List S) → get_or (ranks_of G) q 0 ≤ length all → kids ≡ map (λ t. up A t states) (take (get_or (ranks_of G) q 0) all)
      → woven A W G states (beside a (get_or (cut A W (value_at G q) kids d) 0 nothing)) (woven_marks (handed A W (value_at G q) kids d) (drop 1 (cut A W (value_at G q) kids d)) ++ ms) all
      ≡ before a (joined (cut A W (get_or (all_meanings term_algebra G) q (λ _. Leaf) (take (get_or (ranks_of G) q 0) all)) states d) (woven A W G states nothing ms (drop (get_or (ranks_of G) q 0) all)))
  call-step q a d ms all kids h e =
      let k : ℕ = get_or (ranks_of G) q 0 in
      let ts : List Term = take k all in
      let us : List Term = drop k all in
      let v : Term = value_at G q in
      let n : length ts ≡ k = length-take-le k all h in
      let o = lin.in_order q ts n in
      let ss : List Stretch = cut A W v kids d in
      let ds : List D = handed A W v kids d in
      let V : List Stretch = woven A W G states nothing ms us in
      let fr : length (holes_of v) ≡ length ts = sym (length-map (holes_of v) (λ h. substitute h ts)) ∙ ap length o in
      let lc = length-cut A W v kids d in
      let ld = length-handed A W v kids d in
      let sf : ss ≡ get_or ss 0 nothing ∷ drop 1 ss = front ss (cut-some A W v kids d) in
      let cs : List (List Stretch) = cuts A W states ts ds in
      let w = woven-call A W G states (beside a (get_or ss 0 nothing)) ds (drop 1 ss) ms ts us (omega arith) (omega (arith, length-drop 1 ss)) in
      let p : cut A W (get_or (all_meanings term_algebra G) q (λ _. Leaf) ts) states d ≡ threaded ss cs = rw (lin.puts q ts n, e) (cut-substitute A W v ts states d ∙ ap (λ x. threaded (cut A W v (map (λ t. up A t states) ts) d) (cuts A W states x (handed A W v (map (λ t. up A t states) ts) d))) o) in
      let b : threaded (beside a (get_or ss 0 nothing) ∷ drop 1 ss) cs ≡ before a (threaded ss cs) = ap (λ x. threaded (before a x) cs) (sym sf) ∙ threaded-before a ss cs (cut-some A W v kids d) (cuts-some A W states ts ds) in
      ap (λ x. woven A W G states (beside a (get_or ss 0 nothing)) (woven_marks ds (drop 1 ss) ++ ms) x) (sym (take-append-drop k all))
      ∙ w ∙ ap (λ x. joined x V) b ∙ sym (before-joined a (threaded ss cs) V (threaded-some ss cs (cut-some A W v kids d))) ∙ ap (λ x. before a (joined x V)) (sym p)

  -- the walk of a body from its root tells the stretches of what the body means
  pub told-woven : (n : ℕ) (ls : List Label) (hs : List Term) (here : Stretch) (ms : List (Open D)) → AreTerms (arity (ranks_of G)) n ls → places ms ≡ n → AllHoles hs → length hs ≡ params ls
      → told A W G (map (λ t. up A t states) hs) here ms ls ≡ woven A W G states here ms (meanings term_algebra (ranks_of G) (all_meanings term_algebra G) hs ls [])
  told-woven zero [] hs here ms t p a e = sym (woven-none here ms _ p)
  told-woven (suc n) [] hs here ms t p a e = absurd t
  told-woven zero (l ∷ ls) hs here ms t p a e = absurd t
  told-woven (suc n) (Param ∷ ls) [] here ms t p a e = absurd (omega arith)
  told-woven (suc n) (Param ∷ ls) (Leaf ∷ hs) here ms t p a e = absurd a
  told-woven (suc n) (Param ∷ ls) (Node f x y ∷ hs) here ms t p a e = absurd a
  told-woven (suc n) (Param ∷ ls) (Hole i ∷ hs) here ms t p a e =
      let all : List Term = meanings term_algebra (ranks_of G) (all_meanings term_algebra G) hs ls [] in
      let ih = told-woven (0 + n) ls hs nothing (after ms) t (places-after ms n p ∙ omega arith) a (omega arith) in
      let V : List Stretch = woven A W G states nothing (after ms) all in
      let w = woven-absorbed A W G states here ms (Hole i) all (omega arith) in
      ap (λ x. absorbed here ms ∷ x) (ih ∙ sym (before-nothing V (woven-some A W G states nothing (after ms) all))) ∙ ap (λ x. x ∷ before nothing V) (sym (beside-nothing (absorbed here ms))) ∙ sym w
  told-woven (suc n) (Bottom ∷ ls) hs here ms t p a e =
      let all : List Term = meanings term_algebra (ranks_of G) (all_meanings term_algebra G) hs ls [] in
      let ih = told-woven (0 + n) ls hs (absorbed here ms) (after ms) t (places-after ms n p ∙ omega arith) a e in
      let V : List Stretch = woven A W G states nothing (after ms) all in
      let w = woven-absorbed A W G states here ms Leaf all (omega arith) in
      ih ∙ ap (λ x. woven A W G states x (after ms) all) (sym (beside-nothing (absorbed here ms))) ∙ sym (woven-before A W G states (absorbed here ms) nothing (after ms) all) ∙ ap (before (absorbed here ms)) (sym (before-nothing V (woven-some A W G states nothing (after ms) all))) ∙ sym w
  told-woven (suc n) (Symbol f ∷ ls) hs here ms t p a e =
      let all : List Term = meanings term_algebra (ranks_of G) (all_meanings term_algebra G) hs ls [] in
      let m = meanings-whole term_algebra (ranks_of G) (all_meanings term_algebra G) (2 + n) hs ls [] t in
      let u = ups-meanings A W G lin states hs ls in
      let pa = places-after ms n p in
      let ih = told-woven (2 + n) ls hs _ (Place _ ∷ Place _ ∷ after ms) t (omega arith) a e in
      ih ∙ symbol-step f (absorbed here ms) (down_at W.start ms) (after ms) all _ (omega (arith, m.1)) (sym u) ∙ sym (woven-absorbed A W G states here ms _ (drop 2 all) (omega arith))
  told-woven (suc n) (Call q ∷ ls) hs here ms t p a e =
      let k : ℕ = get_or (ranks_of G) q 0 in
      let all : List Term = meanings term_algebra (ranks_of G) (all_meanings term_algebra G) hs ls [] in
      let m = meanings-whole term_algebra (ranks_of G) (all_meanings term_algebra G) (k + n) hs ls [] t in
      let h : k ≤ length all = omega (arith, m.1) in
      let u = ups-meanings A W G lin states hs ls in
      let kids : List S = take k (meanings A (ranks_of G) (all_meanings A G) (map (λ t. up A t states) hs) ls []) in
      let ke : kids ≡ map (λ t. up A t states) (take k all) = ap (take k) (sym u) ∙ take-map (λ t. up A t states) k all in
      let pa = places-after ms n p in
      let d : D = down_at W.start ms in
      let ds : List D = handed A W (value_at G q) kids d in
      let ss : List Stretch = cut A W (value_at G q) kids d in
      let fr = ap length (lin.in_order q (take k all) (length-take-le k all h)) in
      let pl : places (woven_marks ds (drop 1 ss) ++ after ms) ≡ k + n = omega (arith, places-woven ds (drop 1 ss) (after ms), length-handed A W (value_at G q) kids d, length-map (holes_of (value_at G q)) (λ h. substitute h (take k all)), fr, length-take-le k all h) in
      let ih = told-woven (k + n) ls hs (beside (absorbed here ms) (get_or ss 0 nothing)) (woven_marks ds (drop 1 ss) ++ after ms) t pl a e in
      ih ∙ call-step q (absorbed here ms) d (after ms) all kids h ke ∙ sym (woven-absorbed A W G states here ms _ (drop k all) (omega arith))
