-- What runs downward hand to holes and parameters.
use Rattle.std.proofs.Common.{◌≡◌, ℕ, zero, suc, ◌+◌, ◌<◌, ◌≤◌, List, [], ◌∷◌, ◌++◌, length, get_or, take, drop, map, refl, ap, sym, ◌∙◌, arith, append_assoc, append-nil, length-append, ◌⊎◌, inl, inr}
use Rattle.std.proofs.lemmas.List.{map-append, length-map, length-take-le, take-append-drop, take-map, get_or_past, nil_from_length}
use Rattle.std.proofs.lemmas.Bool.{cases_lt}
use Rattle.rule_arena.specs.Preorder.{AreTerms}
use Rattle.rule_arena.specs.declared.label.Label.{Label}
use Rattle.rule_arena.specs.declared.label.Label.TheVariants.{Bottom, Symbol, Call, Param}
use Rattle.slt_grammar.specs.Bodies.{arity, params}
use Rattle.slt_grammar.specs.Algebras.{Algebra, meanings, ranks_of, all_meanings}
use Rattle.slt_grammar.specs.Terms.{Term, Leaf, Node, Hole, substitute, up, term_algebra, holes, holes_of}
use Rattle.slt_grammar.specs.Automata.{Downward, handed}
use Rattle.slt_grammar.specs.Grammars.{IsGrammar, rank_at, value_at}
use Rattle.slt_grammar.specs.declared.automata.Fell.{Fell}
use Rattle.slt_grammar.specs.declared.rules.Rule.{Rule}
use Rattle.slt_grammar.proofs.Meanings.{meanings-carried, meanings-whole}
use Rattle.slt_grammar.proofs.RuleMeanings.{length-all_meanings, rank_at-ranks_of}
use Rattle.slt_grammar.proofs.Substitutions.{substitute-up, up-substitute}
use Rattle.slt_grammar.proofs.Carrying.{up-carries, up-value_at}
use Rattle.slt_grammar.proofs.Linear.{holes-take}
use Rattle.rule_runs.specs.Walks.{param_downs}

module _ {S D : Type 0} (A : Algebra S) (W : Downward S D) (states : List S) where
  -- what is handed to the holes of terms
  abbrev pub handed_all : List Term → List D → List D
  handed_all [] ds = []
  handed_all (t ∷ ts) ds = handed A W t states (get_or ds 0 W.start) ++ handed_all ts (drop 1 ds)

  pub handed_all-append : (ts us : List Term) (ds es : List D) → length ds ≡ length ts → handed_all (ts ++ us) (ds ++ es) ≡ handed_all ts ds ++ handed_all us es
  handed_all-append [] us [] es e = refl
  handed_all-append [] us (d ∷ ds) es e = absurd (omega arith)
  handed_all-append (t ∷ ts) us [] es e = absurd (omega arith)
  handed_all-append (t ∷ ts) us (d ∷ ds) es e = rw (handed_all-append ts us ds es (omega arith)) (sym (append_assoc (handed A W t states d) (handed_all ts ds) (handed_all us es)))

pub length-handed : {S D : Type 0} (A : Algebra S) (W : Downward S D) (t : Term) (states : List S) (d : D) → length (handed A W t states d) ≡ length (holes_of t)
length-handed A W Leaf states d = refl
length-handed A W (Hole i) states d = refl
length-handed A W (Node f a b) states d =
    let s = W.step f d (up A a states) (up A b states) in
    omega (arith, length-append (handed A W a states s.left) (handed A W b states s.right), length-append (holes_of a) (holes_of b), length-handed A W a states s.left, length-handed A W b states s.right)

-- down through substitute: what a tree hands to its holes goes on through the arguments there
pub handed-substitute : {S D : Type 0} (A : Algebra S) (W : Downward S D) (t : Term) (xs : List Term) (states : List S) (d : D)
    → handed A W (substitute t xs) states d ≡ handed_all A W states (map (λ h. substitute h xs) (holes_of t)) (handed A W t (map (λ x. up A x states) xs) d)
handed-substitute A W Leaf xs states d = refl
handed-substitute A W (Hole i) xs states d = sym (append-nil (handed A W (get_or xs i Leaf) states d))
handed-substitute {S} {D} A W (Node f a b) xs states d =
    let ups : List S = map (λ x. up A x states) xs in
    let s : Fell D = W.step f d (up A a ups) (up A b ups) in
    let at : List Term → List Term = map (λ h. substitute h xs) in
    let n : length (handed A W a ups s.left) ≡ length (at (holes_of a)) = length-handed A W a ups s.left ∙ sym (length-map (holes_of a) (λ h. substitute h xs)) in
    rw (up-substitute A a xs states, up-substitute A b xs states, handed-substitute A W a xs states s.left, handed-substitute A W b xs states s.right, map-append (λ h. substitute h xs) (holes_of a) (holes_of b))
    (sym (handed_all-append A W states (at (holes_of a)) (at (holes_of b)) (handed A W a ups s.left) (handed A W b ups s.right) n))

abbrev pub AllHoles : List Term → Type 0
AllHoles [] = Unit {0}
AllHoles (Leaf ∷ ts) = ⊥
AllHoles (Node f a b ∷ ts) = ⊥
AllHoles (Hole i ∷ ts) = AllHoles ts

-- what a called rule's value does with its arguments
pub record IsLinear (G : List Rule) : Type 0 where
  pub puts : (q : ℕ) (kids : List Term) → length kids ≡ get_or (ranks_of G) q 0 → get_or (all_meanings term_algebra G) q (λ _. Leaf) kids ≡ substitute (value_at G q) kids
  pub in_order : (q : ℕ) (kids : List Term) → length kids ≡ get_or (ranks_of G) q 0 → map (λ h. substitute h kids) (holes_of (value_at G q)) ≡ kids

module _ {S D : Type 0} (A : Algebra S) (W : Downward S D) (G : List Rule) (lin : IsLinear G) (states : List S) where
  ups : List Term → List S
  ups ts = map (λ t. up A t states) ts

  bodies : List Term → List Label → List Term
  bodies hs ls = meanings term_algebra (ranks_of G) (all_meanings term_algebra G) hs ls []

  pub fall-call : (q : ℕ) (all : List Term) (d : D) (ds : List D) → get_or (ranks_of G) q 0 ≤ length all
      → handed A W (get_or (all_meanings term_algebra G) q (λ _. Leaf) (take (get_or (ranks_of G) q 0) all)) states d ++ handed_all A W states (drop (get_or (ranks_of G) q 0) all) ds
      ≡ handed_all A W states all (handed A W (value_at G q) (map (λ t. up A t states) (take (get_or (ranks_of G) q 0) all)) d ++ ds)
  fall-call q all d ds h =
      let k : ℕ = get_or (ranks_of G) q 0 in
      let kids : List Term = take k all in
      let n : length kids ≡ k = length-take-le k all h in
      let v : Term = value_at G q in
      let us : List S = map (λ t. up A t states) kids in
      let o = lin.in_order q kids n in
      let e : handed A W (get_or (all_meanings term_algebra G) q (λ _. Leaf) kids) states d ≡ handed_all A W states kids (handed A W v us d) =
      rw (lin.puts q kids n) (handed-substitute A W v kids states d ∙ ap (λ ts. handed_all A W states ts (handed A W v us d)) o) in
      let m : length (handed A W v us d) ≡ length kids = length-handed A W v us d ∙ sym (length-map (holes_of v) (λ h. substitute h kids)) ∙ ap length o in
      ap (λ x. x ++ handed_all A W states (drop k all) ds) e ∙ sym (handed_all-append A W states kids (drop k all) (handed A W v us d) ds m)
      ∙ ap (λ ts. handed_all A W states ts (handed A W v us d ++ ds)) (take-append-drop k all)

  pub fall-symbol : (f : ℕ) (all : List Term) (d : D) (ds : List D) (us : List S) → 2 ≤ length all → us ≡ map (λ t. up A t states) all
      → handed A W (Node f (get_or (take 2 all) 0 Leaf) (get_or (take 2 all) 1 Leaf)) states d ++ handed_all A W states (drop 2 all) ds
      ≡ handed_all A W states all ((W.step f d (get_or us 0 A.bottom) (get_or us 1 A.bottom)).left ∷ (W.step f d (get_or us 0 A.bottom) (get_or us 1 A.bottom)).right ∷ ds)
  fall-symbol f [] d ds us h e = absurd (omega arith)
  fall-symbol f (a ∷ []) d ds us h e = absurd (omega arith)
  fall-symbol f (a ∷ b ∷ all) d ds us h e =
      let s : Fell D = W.step f d (up A a states) (up A b states) in
      rw e (append_assoc (handed A W a states s.left) (handed A W b states s.right) (handed_all A W states all ds))

  pub ups-meanings : (hs : List Term) (ls : List Label) → map (λ t. up A t states) (meanings term_algebra (ranks_of G) (all_meanings term_algebra G) hs ls []) ≡ meanings A (ranks_of G) (all_meanings A G) (map (λ t. up A t states) hs) ls []
  ups-meanings hs ls = meanings-carried (λ t. up A t states) term_algebra A (all_meanings term_algebra G) (all_meanings A G) (up-carries A G states) (ranks_of G) hs ls []

  -- the run of a body's value hands to the holes what the run over the body hands to its parameters
  pub fall-body : (n : ℕ) (ls : List Label) (hs : List Term) (waiting : List D) → AreTerms (arity (ranks_of G)) n ls → length waiting ≡ n → AllHoles hs → length hs ≡ params ls
      → handed_all A W states (meanings term_algebra (ranks_of G) (all_meanings term_algebra G) hs ls []) waiting ≡ param_downs A W G (map (λ t. up A t states) hs) waiting ls
  fall-body n [] hs waiting t w a e = refl
  fall-body zero (l ∷ ls) hs waiting t w a e = absurd t
  fall-body (suc n) (l ∷ ls) hs [] t w a e = absurd (omega arith)
  fall-body (suc n) (Param ∷ ls) [] (d ∷ ds) t w a e = absurd (omega arith)
  fall-body (suc n) (Param ∷ ls) (Leaf ∷ hs) (d ∷ ds) t w a e = absurd a
  fall-body (suc n) (Param ∷ ls) (Node f x y ∷ hs) (d ∷ ds) t w a e = absurd a
  fall-body (suc n) (Param ∷ ls) (Hole i ∷ hs) (d ∷ ds) t w a e = ap (λ es. d ∷ es) (fall-body (0 + n) ls hs ds t (omega arith) a (omega arith))
  fall-body (suc n) (Bottom ∷ ls) hs (d ∷ ds) t w a e = fall-body (0 + n) ls hs ds t (omega arith) a e
  fall-body (suc n) (Symbol f ∷ ls) hs (d ∷ ds) t w a e =
      let all : List Term = meanings term_algebra (ranks_of G) (all_meanings term_algebra G) hs ls [] in
      let u = ups-meanings hs ls in
      let m = meanings-whole term_algebra (ranks_of G) (all_meanings term_algebra G) (2 + n) hs ls [] t in
      let s = fall-symbol f all d ds (meanings A (ranks_of G) (all_meanings A G) (map (λ x. up A x states) hs) ls []) (omega (arith, m.1)) (sym u) in
      s ∙ fall-body (2 + n) ls hs (_ ∷ _ ∷ ds) t (omega arith) a e
  fall-body (suc n) (Call q ∷ ls) hs (d ∷ ds) t w a e =
      let k : ℕ = get_or (ranks_of G) q 0 in
      let all : List Term = meanings term_algebra (ranks_of G) (all_meanings term_algebra G) hs ls [] in
      let u = ups-meanings hs ls in
      let m = meanings-whole term_algebra (ranks_of G) (all_meanings term_algebra G) (k + n) hs ls [] t in
      let h : k ≤ length all = omega (arith, m.1) in
      let s = fall-call q all d ds h in
      let o = lin.in_order q (take k all) (length-take-le k all h) in
      let c : length (handed A W (value_at G q) (map (λ x. up A x states) (take k all)) d) ≡ k = length-handed A W (value_at G q) (map (λ x. up A x states) (take k all)) d ∙ sym (length-map (holes_of (value_at G q)) (λ h. substitute h (take k all))) ∙ ap length o ∙ length-take-le k all h in
      let ih = fall-body (k + n) ls hs (handed A W (value_at G q) (map (λ x. up A x states) (take k all)) d ++ ds) t (omega (arith, c, length-append (handed A W (value_at G q) (map (λ x. up A x states) (take k all)) d) ds)) a e in
      s ∙ ih ∙ ap (λ z. param_downs A W G (map (λ x. up A x states) hs) (handed A W (value_at G q) z d ++ ds) ls) (sym (take-map (λ x. up A x states) k all) ∙ ap (take k) u)

-- the values of a grammar's rules put each argument in one place, in their order
pub linear : (G : List Rule) → IsGrammar G → IsLinear G
linear G g = record { puts = λ q kids n. sym (substitute-up (value_at G q) kids ∙ up-value_at term_algebra G q kids (n ∙ rank_at-ranks_of G q)); in_order = in_order }
  where
    by_place : (q : ℕ) (kids : List Term) → length kids ≡ get_or (ranks_of G) q 0 → (q < length G) ⊎ (length G ≤ q) → map (λ h. substitute h kids) (holes_of (value_at G q)) ≡ kids
    by_place q kids n (inl l) = holes-take G q kids g l (n ∙ rank_at-ranks_of G q)
    by_place q kids n (inr m) =
        let v : value_at G q ≡ Leaf = ap (λ (f : List Term → Term). f (holes 0 (rank_at G q))) (get_or_past (all_meanings term_algebra G) q (λ _. Leaf) (omega (arith, length-all_meanings term_algebra G))) in
        let z : length kids ≡ 0 = n ∙ get_or_past (ranks_of G) q 0 (omega (arith, length-map G (λ (R : Rule). R.rank))) in
        rw v (sym (nil_from_length kids z))

    in_order : (q : ℕ) (kids : List Term) → length kids ≡ get_or (ranks_of G) q 0 → map (λ h. substitute h kids) (holes_of (value_at G q)) ≡ kids
    in_order q kids n = by_place q kids n (cases_lt q (length G))
