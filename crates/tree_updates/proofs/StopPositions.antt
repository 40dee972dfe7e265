-- Where a stop of a tour stands in the preorder over arguments.
use Rattle.std.proofs.Common.{◌≡◌, ℕ, zero, suc, ◌+◌, ◌<◌, ◌≤◌, ◌⊎◌, inl, inr, List, [], ◌∷◌, ◌++◌, length, get_or, take, drop, Some, slice_get, refl, ap, sym, ◌∙◌, subst, arith}
use Rattle.std.specs.List.{sum_by}
use Rattle.std.proofs.lemmas.List.Sums.{sum_by-cons, sum_by-append}
use Rattle.std.proofs.lemmas.List.{length-take-le}
use Rattle.rule_arena.specs.Preorder.{AreTerms}
use Rattle.rule_arena.specs.Terms.{Node}
use Rattle.rule_arena.specs.declared.label.Label.{Label}
use Rattle.rule_arena.specs.declared.label.Label.TheVariants.{Bottom, Symbol, Call, Param}
use Rattle.slt_grammar.specs.Algebras.{apply, meanings, ranks_of, all_meanings}
use Rattle.slt_grammar.specs.Bodies.{arity}
use Rattle.slt_grammar.specs.Copying.{hole}
use Rattle.slt_grammar.specs.Grammars.{IsGrammar}
use Rattle.slt_grammar.specs.Keyed.{labels_of}
use Rattle.slt_grammar.specs.Segments.{listed, part_of}
use Rattle.slt_grammar.specs.Terms.{Term, Leaf, term_algebra}
use Rattle.slt_grammar.specs.Tours.{Stop, stop, opened_kids, once_closed, entered, tour}
use Rattle.slt_grammar.specs.declared.rules.Rule.{Rule}
use Rattle.slt_grammar.proofs.Meanings.{drop-one, meanings-whole}
use Rattle.slt_grammar.proofs.Spreads.{IsPlain, around, listed-label}
use Rattle.tree_updates.specs.Marked.{kids_meaning}
use Rattle.tree_updates.proofs.HoleNumbers.{listed-append}
use Rattle.tree_updates.proofs.ListCuts.{Cut, cut, first-taken, head-is, nothing, others-taken}
use Rattle.tree_updates.proofs.ListCuts.Cut.{within, behind}

abbrev pub Stops : Type 0
Stops = List (Stop Node)

module _ (w : Label → ℕ) (light : w Param ≡ 0) (R : List Rule) (g : IsGrammar R) where
  abbrev pub part_weight : Label → ℕ → ℕ
  part_weight l i = sum_by w (part_of R l i)

  abbrev pub weight : Stop Node → ℕ
  weight m = sum_by w (part_of R m.item.label m.part)

  abbrev pub all_weight : Stops → ℕ
  all_weight ms = sum_by (λ (m : Stop Node). sum_by w (part_of R m.item.label m.part)) ms

  abbrev pub size_of : Term → ℕ
  size_of t = sum_by w (listed t [])

  abbrev pub ar : Node → ℕ
  ar n = arity (ranks_of R) n.label

  -- parameters among stops, and the arguments that they take
  abbrev pub params_in : Stops → ℕ
  params_in [] = 0
  params_in (m ∷ ms) = hole m.item.label + params_in ms

  abbrev pub sizes : ℕ → List Term → ℕ
  sizes zero args = 0
  sizes (suc k) args = sum_by w (listed (get_or args 0 Leaf) []) + sizes k (drop 1 args)

  abbrev pub args_behind : Label → List Term → List Term
  args_behind Param args = drop 1 args
  args_behind l args = args

  -- what a node has before its first child
  abbrev pub own : Label → List Term → ℕ
  own Param args = sum_by w (listed (get_or args 0 Leaf) [])
  own l args = sum_by w (part_of R l 0)

  own-is : (l : Label) (args : List Term) (k : ℕ) → part_weight l 0 + sizes (hole l + k) args ≡ own l args + sizes k (args_behind l args)
  own-is Bottom args k = let z : 0 + k ≡ k = omega arith in omega (arith, ap (λ (j : ℕ). sizes j args) z)
  own-is (Symbol f) args k = let z : 0 + k ≡ k = omega arith in omega (arith, ap (λ (j : ℕ). sizes j args) z)
  own-is (Call q) args k = let z : 0 + k ≡ k = omega arith in omega (arith, ap (λ (j : ℕ). sizes j args) z)
  own-is Param args k =
      let y : 1 + k ≡ suc k = omega arith in
      let z : part_weight Param 0 ≡ 0 = sum_by-cons w Param [] ∙ omega (arith, light) in
      omega (arith, z, ap (λ (j : ℕ). sizes j args) y)

  -- how much stands before a node
  abbrev pub before : List Term → List Stops → ℕ → List Node → ℕ
  before args afters zero xs = 0
  before args afters (suc p) [] = 0
  before args afters (suc p) (x ∷ xs) =
      own x.label args + (all_weight (once_closed (ar x) (get_or afters 0 [])) + before (args_behind x.label args) (entered (λ y. arity (ranks_of R) y.label) x afters) p xs)

  -- children with the parts behind them, so many, and up to one
  abbrev pub kids_with : Label → ℕ → ℕ → List Term → ℕ
  kids_with l i zero ts = 0
  kids_with l i (suc r) ts = sum_by w (listed (get_or ts 0 Leaf) []) + (sum_by w (part_of R l i) + kids_with l (suc i) r (drop 1 ts))

  abbrev pub kids_to : Label → ℕ → ℕ → List Term → ℕ
  kids_to l i zero ts = sum_by w (listed (get_or ts 0 Leaf) [])
  kids_to l i (suc j) ts = sum_by w (listed (get_or ts 0 Leaf) []) + (sum_by w (part_of R l i) + kids_to l (suc i) j (drop 1 ts))

  -- where a part of a node begins, from the node on
  abbrev pub part_start : Label → List Term → ℕ → ℕ
  part_start l kids zero = 0
  part_start l kids (suc j) = sum_by w (part_of R l 0) + kids_to l 1 j kids

  -- terms with the stops behind them, up to the end of one
  abbrev pub terms_to : List Term → List Stops → ℕ → ℕ
  terms_to ts afters zero = sum_by w (listed (get_or ts 0 Leaf) [])
  terms_to ts afters (suc j) = sum_by w (listed (get_or ts 0 Leaf) []) + (all_weight (get_or afters 0 []) + terms_to (drop 1 ts) (drop 1 afters) j)

  -- a stop among those behind a node's children or behind later terms
  data Opened (x : Node) (i r : ℕ) (a : Stops) (bs : List Stops) (ts : List Term) (front : Stops) (m : Stop Node) (position : ℕ) : Type 0 where
    own_part : (t : ℕ) → t < r → m ≡ stop x (i + t) → position ≡ kids_to x.label i t ts → Opened x i r a bs ts front m position
    through : (early late : Stops) → a ≡ early ++ m ∷ late → position ≡ kids_with x.label i r ts + all_weight early → Opened x i r a bs ts front m position
    later : (j : ℕ) (late : Stops) → get_or bs j [] ≡ front ++ m ∷ late → position ≡ kids_with x.label i r ts + (all_weight a + (terms_to (drop r ts) bs j + all_weight front)) → Opened x i r a bs ts front m position

  opened : (x : Node) (i r : ℕ) (a : Stops) (bs : List Stops) (ts : List Term) (j : ℕ) (front late : Stops) (m : Stop Node) → get_or (opened_kids x i (suc r) a ++ bs) j [] ≡ front ++ m ∷ late
      → Opened x i (suc r) a bs ts front m (terms_to ts (opened_kids x i (suc r) a ++ bs) j + all_weight front)
  opened x i zero a bs ts zero [] late m e =
      let h = head-is (stop x i) m a late e in
      let z : i ≡ i + 0 = omega arith in
      own_part 0 (omega arith) (sym h.0 ∙ ap (λ (k : ℕ). stop x k) z) (omega arith)
  opened x i zero a bs ts zero (s ∷ front) late m e =
      let h = head-is (stop x i) s a (front ++ m ∷ late) e in
      through front late h.1 (omega (arith, sum_by-cons weight s front, ap weight h.0))
  opened x i zero a bs ts (suc j) front late m e =
      later j late e (omega (arith, sum_by-cons weight (stop x i) a))
  opened x i (suc r) a bs ts zero [] late m e =
      let h = head-is (stop x i) m [] late e in
      let z : i ≡ i + 0 = omega arith in
      own_part 0 (omega arith) (sym h.0 ∙ ap (λ (k : ℕ). stop x k) z) (omega arith)
  opened x i (suc r) a bs ts zero (s ∷ front) late m e =
      let h = head-is (stop x i) s [] (front ++ m ∷ late) e in
      absurd (nothing m front late h.1)
  opened x i (suc r) a bs ts (suc j) front late m e = up (opened x (suc i) r a bs (drop 1 ts) j front late m e)
    where
      one : all_weight (stop x i ∷ []) ≡ part_weight x.label i
      one = sum_by-cons weight (stop x i) [] ∙ omega arith

      up : Opened x (suc i) (suc r) a bs (drop 1 ts) front m (terms_to (drop 1 ts) (opened_kids x (suc i) (suc r) a ++ bs) j + all_weight front)
          → Opened x i (suc (suc r)) a bs ts front m (size_of (get_or ts 0 Leaf) + (all_weight (stop x i ∷ []) + terms_to (drop 1 ts) (opened_kids x (suc i) (suc r) a ++ bs) j) + all_weight front)
      up (own_part t l q z) =
          let y : suc i + t ≡ i + suc t = omega arith in
          own_part (suc t) (omega (arith, l)) (q ∙ ap (λ (k : ℕ). stop x k) y) (omega (arith, z, one))
      up (through early later' q z) = through early later' q (omega (arith, z, one))
      up (later j late q z) = later j late q (omega (arith, z, one, ap (λ (us : List Term). terms_to us bs j) (drop-one (suc r) ts)))

  -- stops of nodes that are no parameters
  abbrev pub ArePlain : Stops → Type 0
  ArePlain [] = Unit {0}
  ArePlain (m ∷ ms) = (hole m.item.label ≡ 0) × ArePlain ms

  abbrev pub AreAllPlain : List Stops → Type 0
  AreAllPlain [] = Unit {0}
  AreAllPlain (a ∷ more) = ArePlain a × AreAllPlain more

  plain-params : (ms : Stops) → ArePlain ms → params_in ms ≡ 0
  plain-params [] h = refl
  plain-params (m ∷ ms) h = omega (arith, h.0, plain-params ms h.1)

  plain-front : (front late : Stops) (m : Stop Node) (a : Stops) → a ≡ front ++ m ∷ late → ArePlain a → params_in front ≡ 0
  plain-front [] late m a e h = refl
  plain-front (f ∷ front) late m [] e h = absurd (cc)
  plain-front (f ∷ front) late m (s ∷ a) e h =
      let q = head-is s f a (front ++ m ∷ late) e in
      omega (arith, h.0, ap (λ (y : Stop Node). hole y.item.label) q.0, plain-front front late m a q.1 h.1)

  params-append' : (xs ys : Stops) → params_in (xs ++ ys) ≡ params_in xs + params_in ys
  params-append' [] ys = omega arith
  params-append' (x ∷ xs) ys = omega (arith, params-append' xs ys)

  first-plain : (afters : List Stops) → AreAllPlain afters → ArePlain (get_or afters 0 [])
  first-plain [] h = tt
  first-plain (a ∷ more) h = h.0

  others-plain : (afters : List Stops) → AreAllPlain afters → AreAllPlain (drop 1 afters)
  others-plain [] h = tt
  others-plain (a ∷ more) h = h.1

  opened-plain : (x : Node) (i n : ℕ) (a : Stops) (bs : List Stops) → (0 < n → hole x.label ≡ 0) → ArePlain a → AreAllPlain bs → AreAllPlain (opened_kids x i n a ++ bs)
  opened-plain x i zero a bs p h t = t
  opened-plain x i (suc zero) a bs p h t = ((p (omega arith), h), t)
  opened-plain x i (suc (suc n)) a bs p h t = ((p (omega arith), tt), opened-plain x (suc i) (suc n) a bs (λ l. p (omega arith)) h t)

  parents-plain : (l : Label) → 0 < arity (ranks_of R) l → hole l ≡ 0
  parents-plain Bottom h = refl
  parents-plain (Symbol f) h = refl
  parents-plain (Call q) h = refl
  parents-plain Param h = absurd (omega (arith, h))

  -- what a node means over the terms behind it
  abbrev pub top : Label → List Term → List Term → Term
  top Param args ts = get_or args 0 Leaf
  top l args ts = apply term_algebra (all_meanings term_algebra R) l (take (arity (ranks_of R) l) ts)

  abbrev pub means : List Term → List Node → List Term
  means args xs = meanings term_algebra (ranks_of R) (all_meanings term_algebra R) args (labels_of xs) []

  means-cons : (args : List Term) (x : Node) (xs : List Node) → means args (x ∷ xs) ≡ top x.label args (means (args_behind x.label args) xs) ∷ drop (ar x) (means (args_behind x.label args) xs)
  means-cons args x xs = by x.label
    where
      by : (l : Label) → meanings term_algebra (ranks_of R) (all_meanings term_algebra R) args (l ∷ labels_of xs) [] ≡ top l args (means (args_behind l args) xs) ∷ drop (arity (ranks_of R) l) (means (args_behind l args) xs)
      by Bottom = refl
      by (Symbol f) = refl
      by (Call q) = refl
      by Param = refl

  weight-listed : (t : Term) (k : List Label) → sum_by w (listed t k) ≡ sum_by w (listed t []) + sum_by w k
  weight-listed t k = ap (sum_by w) (listed-append t k) ∙ sum_by-append w (listed t []) k

  around-weighs : (l : Label) (i r : ℕ) (ts : List Term) → r ≤ length ts → sum_by w (around R l i (take r ts) []) ≡ kids_with l i r ts
  around-weighs l i zero ts h = refl
  around-weighs l i (suc r) [] h = absurd (omega (arith, h))
  around-weighs l i (suc r) (t ∷ ts) h =
      let k : List Label = part_of R l i ++ around R l (suc i) (take r ts) [] in
      omega (arith, weight-listed t k, sum_by-append w (part_of R l i) (around R l (suc i) (take r ts) []), around-weighs l (suc i) r ts (omega (arith, h)))

  apply-weighs : (l : Label) → IsPlain l → (ts : List Term) → arity (ranks_of R) l ≤ length ts
      → sum_by w (listed (apply term_algebra (all_meanings term_algebra R) l (take (arity (ranks_of R) l) ts)) []) ≡ sum_by w (part_of R l 0) + kids_with l 1 (arity (ranks_of R) l) ts
  apply-weighs l p ts h =
      let r : ℕ = arity (ranks_of R) l in
      ap (sum_by w) (listed-label R g l (take r ts) [] p (length-take-le r ts h)) ∙ sum_by-append w (part_of R l 0) (around R l 1 (take r ts) []) ∙ ap (λ (k : ℕ). part_weight l 0 + k) (around-weighs l 1 r ts h)

  top-weighs : (l : Label) (args ts : List Term) → arity (ranks_of R) l ≤ length ts → sum_by w (listed (top l args ts) []) ≡ own l args + kids_with l 1 (arity (ranks_of R) l) ts
  top-weighs Param args ts h = omega arith
  top-weighs Bottom args ts h = apply-weighs Bottom tt ts h
  top-weighs (Symbol f) args ts h = apply-weighs (Symbol f) tt ts h
  top-weighs (Call q) args ts h = apply-weighs (Call q) tt ts h

  own-plain : (l : Label) (args : List Term) → hole l ≡ 0 → own l args ≡ sum_by w (part_of R l 0)
  own-plain Bottom args h = refl
  own-plain (Symbol f) args h = refl
  own-plain (Call q) args h = refl
  own-plain Param args h = absurd (omega (arith, h))

  kids_to-take : (l : Label) (i r t : ℕ) (ts : List Term) → t < r → kids_to l i t (take r ts) ≡ kids_to l i t ts
  kids_to-take l i zero t ts h = absurd (omega (arith, h))
  kids_to-take l i (suc r) zero ts h = ap size_of (first-taken r ts)
  kids_to-take l i (suc r) (suc t) ts h =
      omega (arith, ap size_of (first-taken r ts), ap (kids_to l (suc i) t) (others-taken r ts), kids_to-take l (suc i) r t (drop 1 ts) (omega (arith, h)))

  terms-labels : (n : ℕ) (xs : List Node) → AreTerms (λ (y : Node). arity (ranks_of R) y.label) n xs → AreTerms (arity (ranks_of R)) n (labels_of xs)
  terms-labels zero [] t = tt
  terms-labels zero (x ∷ xs) t = absurd t
  terms-labels (suc n) [] t = absurd t
  terms-labels (suc n) (x ∷ xs) t = terms-labels (arity (ranks_of R) x.label + n) xs t

  abbrev pub kids_at : List Term → ℕ → List Node → List Term
  kids_at args p xs = kids_meaning term_algebra (ranks_of R) (all_meanings term_algebra R) args p (labels_of xs) []

  kids-zero : (args : List Term) (x : Node) (xs : List Node) → kids_at args 0 (x ∷ xs) ≡ take (ar x) (means (args_behind x.label args) xs)
  kids-zero args x xs = by x.label
    where
      by : (l : Label) → take (arity (ranks_of R) l) (means args xs) ≡ take (arity (ranks_of R) l) (means (args_behind l args) xs)
      by Bottom = refl
      by (Symbol f) = refl
      by (Call q) = refl
      by Param = refl

  kids-later : (args : List Term) (p : ℕ) (x : Node) (xs : List Node) → kids_at args (suc p) (x ∷ xs) ≡ kids_at (args_behind x.label args) p xs
  kids-later args p x xs = by x.label
    where
      by : (l : Label) → kids_meaning term_algebra (ranks_of R) (all_meanings term_algebra R) args (suc p) (l ∷ labels_of xs) [] ≡ kids_at (args_behind l args) p xs
      by Bottom = refl
      by (Symbol f) = refl
      by (Call q) = refl
      by Param = refl

  get-later : (afters : List Stops) (j : ℕ) → get_or afters (suc j) [] ≡ get_or (drop 1 afters) j []
  get-later [] j = refl
  get-later (a ∷ more) j = refl

  -- a stop of one of the nodes, and where it stands
  pub record Inside (args : List Term) (afters : List Stops) (xs : List Node) (passed : Stops) (m : Stop Node) : Type 0 where
    pub place : ℕ
    pub there : slice_get xs place ≡ Some m.item
    pub position : before args afters place xs + part_start m.item.label (kids_at args place xs) m.part ≡ all_weight passed + sizes (params_in passed) args

  -- a stop behind one of the terms
  record Outside (args : List Term) (afters : List Stops) (xs : List Node) (passed : Stops) (m : Stop Node) : Type 0 where
    term : ℕ
    front : Stops
    late : Stops
    stops : get_or afters term [] ≡ front ++ m ∷ late
    position : terms_to (means args xs) afters term + all_weight front ≡ all_weight passed + sizes (params_in passed) args

  abbrev IsPlaced : List Term → List Stops → List Node → Stops → Stop Node → Type 0
  IsPlaced args afters xs passed m = Inside args afters xs passed m ⊎ Outside args afters xs passed m

  -- a node before others, given what holds of these
  module _ (n : ℕ) (args : List Term) (afters : List Stops) (x : Node) (xs : List Node) (s m : Stop Node) (passed rest : Stops) (h : AreAllPlain afters) (first : stop x 0 ≡ s)
      (ih : (as' : List Stops) (before' : Stops) → AreAllPlain as' → tour (λ (y : Node). arity (ranks_of R) y.label) as' xs ≡ before' ++ m ∷ rest → IsPlaced (args_behind x.label args) as' xs before' m) where
    abbrev more : List Term
    more = args_behind x.label args

    abbrev ts : List Term
    ts = means (args_behind x.label args) xs

    abbrev a : Stops
    a = get_or afters 0 []

    -- the front with the node's first stop
    counted : weight s + sizes (hole s.item.label + params_in passed) args ≡ own x.label args + sizes (params_in passed) (args_behind x.label args)
    counted =
        subst (λ (y : Stop Node). weight y + sizes (hole y.item.label + params_in passed) args ≡ own x.label args + sizes (params_in passed) (args_behind x.label args)) first (own-is x.label args (params_in passed))

    summed : all_weight (s ∷ passed) ≡ weight s + all_weight passed
    summed = sum_by-cons weight s passed

    top-is : (r : ℕ) → ar x ≡ r → r ≤ length ts → size_of (get_or (means args (x ∷ xs)) 0 Leaf) ≡ own x.label args + kids_with x.label 1 r ts
    top-is r e l =
        ap (λ (us : List Term). size_of (get_or us 0 Leaf)) (means-cons args x xs) ∙ top-weighs x.label args ts (omega (arith, e, l))
        ∙ ap (λ (k : ℕ). own x.label args + kids_with x.label 1 k ts) e

    rest-is : (r : ℕ) → ar x ≡ r → drop 1 (means args (x ∷ xs)) ≡ drop r ts
    rest-is r e = ap (λ (us : List Term). drop 1 us) (means-cons args x xs) ∙ ap (λ (k : ℕ). drop k ts) e

    inner : (r : ℕ) → ar x ≡ r → (before' : Stops) → all_weight passed ≡ all_weight (once_closed r a) + all_weight before' → params_in passed ≡ params_in before'
        → Inside more (opened_kids x 1 r a ++ drop 1 afters) xs before' m → Inside args afters (x ∷ xs) (s ∷ passed) m
    inner r e before' q k I =
        let b1 = ap (λ (j : ℕ). all_weight (once_closed j a)) e in
        let b2 = ap (λ (j : ℕ). before more (opened_kids x 1 j a ++ drop 1 afters) I.place xs) e in
        let b3 = ap (λ (us : List Term). part_start m.item.label us m.part) (kids-later args I.place x xs) in
        let b4 = ap (λ (j : ℕ). sizes j more) k in
        record { place = suc I.place; there = I.there; position = omega (arith, I.position, b1, b2, b3, b4, q, counted, summed) }

    on : (r : ℕ) → ar x ≡ r → r ≤ length ts → once_closed r a ++ tour (λ (y : Node). arity (ranks_of R) y.label) (opened_kids x 1 r a ++ drop 1 afters) xs ≡ passed ++ m ∷ rest → IsPlaced args afters (x ∷ xs) (s ∷ passed) m
    on zero e l q = by (cut a (tour (λ (y : Node). arity (ranks_of R) y.label) (drop 1 afters) xs) passed m rest q)
      where
        by : Cut a (tour (λ (y : Node). arity (ranks_of R) y.label) (drop 1 afters) xs) passed m rest → IsPlaced args afters (x ∷ xs) (s ∷ passed) m
        by (within late z) =
            let k = plain-front passed late m a z (first-plain afters h) in
            let c = ap (λ (j : ℕ). sizes j more) k in
            inr (record { term = 0; front = passed; late = late; stops = z; position = omega (arith, top-is 0 e l, counted, summed, c) })
        by (behind before' z z') =
            let k : params_in passed ≡ params_in before' = ap params_in z ∙ params-append' a before' ∙ omega (arith, plain-params a (first-plain afters h)) in
            let y = ap all_weight z ∙ sum_by-append weight a before' in
            up k y (ih (drop 1 afters) before' (others-plain afters h) z')
          where
            up : params_in passed ≡ params_in before' → all_weight passed ≡ all_weight a + all_weight before' → IsPlaced more (drop 1 afters) xs before' m → IsPlaced args afters (x ∷ xs) (s ∷ passed) m
            up k y (inl I) = inl (inner 0 e before' y k I)
            up k y (inr O) =
                let b4 = ap (λ (j : ℕ). sizes j more) k in
                let b5 = ap (λ (us : List Term). terms_to us (drop 1 afters) O.term) (rest-is 0 e) in
                inr (record { term = suc O.term; front = O.front; late = O.late; stops = get-later afters O.term ∙ O.stops; position = omega (arith, top-is 0 e l, b5, O.position, y, b4, counted, summed) })
    on (suc r) e l q =
        let p = parents-plain x.label (omega (arith, e)) in
        up p (ih (opened_kids x 1 (suc r) a ++ drop 1 afters) passed (opened-plain x 1 (suc r) a (drop 1 afters) (λ d. p) (first-plain afters h) (others-plain afters h)) q)
      where
        into : hole x.label ≡ 0 → (front : Stops) (position : ℕ) → position ≡ all_weight passed + sizes (params_in passed) more
            → Opened x 1 (suc r) a (drop 1 afters) ts front m position → IsPlaced args afters (x ∷ xs) (s ∷ passed) m
        into p front position y (own_part t d z v) =
            let K : List Term = kids_at args 0 (x ∷ xs) in
            let b1 : part_start m.item.label K m.part ≡ part_start x.label K (1 + t) = ap (λ (u : Stop Node). part_start u.item.label K u.part) z in
            let b2 : part_start x.label K (1 + t) ≡ part_start x.label K (suc t) = let o : 1 + t ≡ suc t = omega arith in ap (part_start x.label K) o in
            let b3 : kids_to x.label 1 t K ≡ kids_to x.label 1 t ts = ap (kids_to x.label 1 t) (kids-zero args x xs) ∙ kids_to-take x.label 1 (ar x) t ts (omega (arith, e, d)) in
            inl (record { place = 0; there = ap (λ (u : Stop Node). Some u.item) (sym z); position = omega (arith, b1, b2, b3, v, y, own-plain x.label args p, counted, summed) })
        into p front position y (through early late z v) = inr (record { term = 0; front = early; late = late; stops = z; position = omega (arith, top-is (suc r) e l, v, y, counted, summed) })
        into p front position y (later j late z v) =
            let b5 = ap (λ (us : List Term). terms_to us (drop 1 afters) j) (rest-is (suc r) e) in
            inr (record { term = suc j; front = front; late = late; stops = get-later afters j ∙ z; position = omega (arith, top-is (suc r) e l, b5, v, y, counted, summed) })

        up : hole x.label ≡ 0 → IsPlaced more (opened_kids x 1 (suc r) a ++ drop 1 afters) xs passed m → IsPlaced args afters (x ∷ xs) (s ∷ passed) m
        up p (inl I) = inl (inner (suc r) e passed (omega arith) refl I)
        up p (inr O) = into p O.front (terms_to ts (opened_kids x 1 (suc r) a ++ drop 1 afters) O.term + all_weight O.front) O.position (opened x 1 r a (drop 1 afters) ts O.term O.front O.late m O.stops)

  placed : (n : ℕ) (args : List Term) (afters : List Stops) (xs : List Node) (passed rest : Stops) (m : Stop Node) → AreTerms (λ (y : Node). arity (ranks_of R) y.label) n xs → AreAllPlain afters
      → tour (λ (y : Node). arity (ranks_of R) y.label) afters xs ≡ passed ++ m ∷ rest → IsPlaced args afters xs passed m
  placed n args afters [] passed rest m t h e = absurd (nothing m passed rest e)
  placed zero args afters (x ∷ xs) passed rest m t h e = absurd t
  placed (suc n) args afters (x ∷ xs) [] rest m t h e =
      let K : List Term = kids_at args 0 (x ∷ xs) in
      let q = head-is (stop x 0) m _ rest e in
      let b : part_start m.item.label K m.part ≡ 0 = ap (λ (u : Stop Node). part_start u.item.label K u.part) (sym q.0) in
      inl (record { place = 0; there = ap (λ (u : Stop Node). Some u.item) q.0; position = omega (arith, b) })
  placed (suc n) args afters (x ∷ xs) (s ∷ passed) rest m t h e =
      let q = head-is (stop x 0) s _ (passed ++ m ∷ rest) e in
      let w' = meanings-whole term_algebra (ranks_of R) (all_meanings term_algebra R) (ar x + n) (args_behind x.label args) (labels_of xs) [] (terms-labels (ar x + n) xs t) in
      on n args afters x xs s m passed rest h q.0 (λ as' before' h' e'. placed (ar x + n) (args_behind x.label args) as' xs before' rest m t h' e') (ar x) refl (omega (arith, w'.1)) q.1

  -- each stop of the tour of a term is one of a node
  pub stop-placed : (args : List Term) (xs : List Node) (passed rest : Stops) (m : Stop Node) → AreTerms (λ (y : Node). arity (ranks_of R) y.label) 1 xs
      → tour (λ (y : Node). arity (ranks_of R) y.label) ([] ∷ []) xs ≡ passed ++ m ∷ rest → Inside args ([] ∷ []) xs passed m
  stop-placed args xs passed rest m t e = by (placed 1 args ([] ∷ []) xs passed rest m t (tt, tt) e)
    where
      none : (j : ℕ) (front late : Stops) → get_or ([] ∷ []) j [] ≡ front ++ m ∷ late → ⊥
      none zero front late z = nothing m front late z
      none (suc j) front late z = nothing m front late z

      by : IsPlaced args ([] ∷ []) xs passed m → Inside args ([] ∷ []) xs passed m
      by (inl I) = I
      by (inr O) = absurd (none O.term O.front O.late O.stops)
