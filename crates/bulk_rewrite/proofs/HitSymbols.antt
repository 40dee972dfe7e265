-- The symbols of the nodes that are hit, and which nodes of the document these are.
use Rattle.std.proofs.Common.{◌≡◌, ℕ, zero, suc, ◌+◌, ◌&&◌, ◌||◌, not, List, [], ◌∷◌, ◌++◌, length, map, filter, cond, All, Bool, true, false, Some, slice_get, if◌then◌else◌, refl, sym, ap, ◌∙◌, arith, subst}
use Rattle.std.specs.List.{AllZip}
use Rattle.std.proofs.lemmas.List.Elements.{filter-append, All-head, All-tail}
use Rattle.plain_tree.specs.NodePairs.{Pair, tree_pair}
use Rattle.plain_tree.specs.Numbers.{nodes_all}
use Rattle.plain_tree.specs.Tree.{Tree, node, Trees, none, more}
use Rattle.plain_tree.proofs.NodeCounts.{length-nodes_all}
use Rattle.rule_arena.proofs.PreorderLemmas.{slice_get-right}
use Rattle.slt_grammar.specs.Algebras.{Algebra}
use Rattle.slt_grammar.specs.Automata.{Downward, hits_from, nodes_in}
use Rattle.slt_grammar.specs.Coding.{Codes}
use Rattle.slt_grammar.specs.Terms.{Term, Leaf, Node, Hole, up}
use Rattle.slt_grammar.specs.declared.automata.Fell.{Fell}
use Rattle.rule_runs.specs.Hits.{numbers, symbols_in}
use Rattle.rule_runs.specs.declared.listing.Hit.{Hit}
use Rattle.rule_runs.proofs.Symbols.{length-symbols}
use Rattle.bulk_rewrite.specs.Numbered.{AreHits, AllHit}
use Rattle.bulk_rewrite.specs.Refusing.{Signs, refusing_run}
use Rattle.bulk_rewrite.specs.RenamedAll.{taken_nodes}
use Rattle.bulk_rewrite.proofs.Numbered.{hits-here, hits-below, hits-after}
use Rattle.bulk_rewrite.proofs.Trees.{count-code}
use Rattle.bulk_rewrite.proofs.Zips.{zip-append, zip-weaker}

-- something holds of each item
abbrev pub Each : {X : Type 0} → (X → Type 0) → List X → Type 0
Each P [] = Unit {0}
Each P (x ∷ xs) = P x × Each P xs

each-split : {X : Type 0} (P : X → Type 0) (xs ys : List X) → Each P (xs ++ ys) → Each P xs × Each P ys
each-split P [] ys e = (tt, e)
each-split P (x ∷ xs) ys e = let r = each-split P xs ys e.1 in ((e.0, r.0), r.1)

each-join : {X : Type 0} (P : X → Type 0) (xs ys : List X) → Each P xs → Each P ys → Each P (xs ++ ys)
each-join P [] ys a b = b
each-join P (x ∷ xs) ys a b = (a.0, each-join P xs ys a.1 b)

each-one : (P : ℕ → Type 0) (hit : Bool) (f : ℕ) → Each P (if hit then f ∷ [] else []) → hit ≡ true → P f
each-one P true f e h = e.0
each-one P false f e h = absurd (cc)

one-each : (P : ℕ → Type 0) (hit : Bool) (f : ℕ) → (hit ≡ true → P f) → Each P (if hit then f ∷ [] else [])
one-each P true f h = (h refl, tt)
one-each P false f h = tt

-- a symbol stands at a node's number, where the first of the symbols has a number
abbrev StandsAt : List ℕ → ℕ → ℕ → ℕ → Type 0
StandsAt fs n m f = (i : ℕ) × (m ≡ n + i) × (slice_get fs i ≡ Some f)

one-stands : (hit : Bool) (n f : ℕ) (fs : List ℕ) → AllZip (StandsAt (f ∷ fs) n) (if hit then n ∷ [] else []) (if hit then f ∷ [] else [])
one-stands true n f fs = ((0, omega arith, refl), tt)
one-stands false n f fs = tt

stands-below : (f : ℕ) (fs gs : List ℕ) (n m g : ℕ) → StandsAt fs (suc n) m g → StandsAt (f ∷ (fs ++ gs)) n m g
stands-below f fs gs n m g (i, e, s) = (suc i, omega (arith, e), front fs i s)
  where
    front : (hs : List ℕ) (j : ℕ) → slice_get hs j ≡ Some g → slice_get (hs ++ gs) j ≡ Some g
    front [] j e = absurd (cc)
    front (h ∷ hs) zero e = e
    front (h ∷ hs) (suc j) e = front hs j e

stands-behind : (f : ℕ) (fs gs : List ℕ) (n k m g : ℕ) → length fs ≡ k → StandsAt gs (suc n + k) m g → StandsAt (f ∷ (fs ++ gs)) n m g
stands-behind f fs gs n k m g l (i, e, s) = (suc (length fs + i), omega (arith, e, l), slice_get-right fs gs i ∙ s)

module _ {S D : Type 0} (A : Algebra S) (W : Downward S D) (states : List S) where
  -- the symbols of the nodes of a term that are hit, in preorder
  abbrev pub hit_symbols : Term → D → List ℕ
  hit_symbols Leaf d = []
  hit_symbols (Hole i) d = []
  hit_symbols (Node f a b) d =
      let s = W.step f d (up A a states) (up A b states) in
      (if s.hit then f ∷ [] else []) ++ (hit_symbols a s.left ++ hit_symbols b s.right)

  pub each-hit : (P : ℕ → Type 0) (t : Term) (d : D) → Each P (hit_symbols t d) → AllHit A W P t states d
  each-hit P Leaf d e = tt
  each-hit P (Hole i) d e = tt
  each-hit P (Node f a b) d e =
      let s : Fell D = W.step f d (up A a states) (up A b states) in
      let p = each-split P (if s.hit then f ∷ [] else []) (hit_symbols a s.left ++ hit_symbols b s.right) e in
      let q = each-split P (hit_symbols a s.left) (hit_symbols b s.right) p.1 in
      (each-one P s.hit f p.0, each-hit P a s.left q.0, each-hit P b s.right q.1)

  pub hit-each : (P : ℕ → Type 0) (t : Term) (d : D) → AllHit A W P t states d → Each P (hit_symbols t d)
  hit-each P Leaf d h = tt
  hit-each P (Hole i) d h = tt
  hit-each P (Node f a b) d h =
      let s : Fell D = W.step f d (up A a states) (up A b states) in
      each-join P (if s.hit then f ∷ [] else []) (hit_symbols a s.left ++ hit_symbols b s.right) (one-each P s.hit f h.0)
      (each-join P (hit_symbols a s.left) (hit_symbols b s.right) (hit-each P a s.left h.1) (hit-each P b s.right h.2))

  -- they stand at the numbers of these nodes
  pub hits-stand : (t : Term) (n : ℕ) (d : D) → AllZip (StandsAt (symbols_in t) n) (hits_from A W n t states d) (hit_symbols t d)
  hits-stand Leaf n d = tt
  hits-stand (Hole i) n d = tt
  hits-stand (Node f a b) n d =
      let s : Fell D = W.step f d (up A a states) (up A b states) in
      let all : List ℕ = f ∷ (symbols_in a ++ symbols_in b) in
      let R = StandsAt all n in
      let below = zip-weaker (StandsAt (symbols_in a) (suc n)) R (stands-below f (symbols_in a) (symbols_in b) n) (hits_from A W (suc n) a states s.left) (hit_symbols a s.left) (hits-stand a (suc n) s.left) in
      let behind =
      zip-weaker (StandsAt (symbols_in b) (suc n + nodes_in a)) R (λ m g. stands-behind f (symbols_in a) (symbols_in b) n (nodes_in a) m g (length-symbols a)) (hits_from A W (suc n + nodes_in a) b states s.right) (hit_symbols b s.right) (hits-stand b (suc n + nodes_in a) s.right) in
      zip-append R (if s.hit then n ∷ [] else []) (hits_from A W (suc n) a states s.left ++ hits_from A W (suc n + nodes_in a) b states s.right) (if s.hit then f ∷ [] else []) (hit_symbols a s.left ++ hit_symbols b s.right)
      (one-stands s.hit n f (symbols_in a ++ symbols_in b))
      (zip-append R (hits_from A W (suc n) a states s.left) (hits_from A W (suc n + nodes_in a) b states s.right) (hit_symbols a s.left) (hit_symbols b s.right) below behind)

-- hits that are told with their symbols have these symbols
abbrev symbols_of : List Hit → List ℕ
symbols_of = map (λ h. h.symbol)

told : (fs : List ℕ) (found : List Hit) (ns gs : List ℕ) → AllZip (StandsAt fs 0) ns gs → numbers found ≡ ns → All (λ h. slice_get fs h.number ≡ Some h.symbol) found → symbols_of found ≡ gs
told fs [] [] [] z e a = refl
told fs [] [] (g ∷ gs) z e a = absurd z
told fs [] (n ∷ ns) gs z e a = absurd (cc)
told fs (h ∷ found) [] gs z e a = absurd (cc)
told fs (h ∷ found) (n ∷ ns) [] z e a = absurd z
told fs (h ∷ found) (n ∷ ns) (g ∷ gs) z e a =
    let P : Hit → Type 0 = λ h. slice_get fs h.number ≡ Some h.symbol in
    let one : h.number ≡ n = cc in
    let rest : numbers found ≡ ns = cc in
    let at : z.0.0 ≡ h.number = (let p = z.0.1 in omega (arith, one, p)) in
    let same : Some g ≡ Some h.symbol = sym z.0.2 ∙ ap (slice_get fs) at ∙ All-head P h found a in
    let q : h.symbol ≡ g = cc in
    let ih = told fs found ns gs z.1 rest (All-tail P h found a) in
    rw (q, ih) refl

pub told-symbols : {S D : Type 0} (A : Algebra S) (W : Downward S D) (t : Term) (d : D) (found : List Hit) → numbers found ≡ hits_from A W 0 t [] d → All (λ h. slice_get (symbols_in t) h.number ≡ Some h.symbol) found → map (λ h. h.symbol) found ≡ hit_symbols A W [] t d
told-symbols A W t d found e a = told (symbols_in t) found (hits_from A W 0 t [] d) (hit_symbols A W [] t d) (hits-stand A W [] t 0 d) e a

-- the nodes that are taken, of lists one behind the other
pub taken-append : (taken : ℕ → Bool) (n m : ℕ) (xs ys : List Tree) → m ≡ n + length xs → taken_nodes taken n (xs ++ ys) ≡ taken_nodes taken n xs ++ taken_nodes taken m ys
taken-append taken n m [] ys e = let z : n ≡ m = omega (arith, e) in ap (λ k. taken_nodes taken k ys) z
taken-append taken n m (x ∷ xs) ys e = one (taken n) (taken-append taken (suc n) m xs ys (omega (arith, e)))
  where
    one : (b : Bool) → taken_nodes taken (suc n) (xs ++ ys) ≡ taken_nodes taken (suc n) xs ++ taken_nodes taken m ys
        → (if b then x ∷ [] else []) ++ taken_nodes taken (suc n) (xs ++ ys) ≡ ((if b then x ∷ [] else []) ++ taken_nodes taken (suc n) xs) ++ taken_nodes taken m ys
    one true h = ap (λ zs. x ∷ zs) h
    one false h = h

-- a symbol is that of a node
abbrev pub IsOf : List Pair → ℕ → Tree → Type 0
IsOf names f s = slice_get names f ≡ Some (tree_pair s)

one-of : (names : List Pair) (hit : Bool) (f : ℕ) (s : Tree) → IsOf names f s → AllZip (IsOf names) (if hit then f ∷ [] else []) (if hit then s ∷ [] else [])
one-of names true f s e = (e, tt)
one-of names false f s e = tt

module _ {S D : Type 0} (A : Algebra S) (W : Downward S D) (states : List S) where
  -- they are those of the nodes that are hit
  pub hits-coded : (names : List Pair) (taken : ℕ → Bool) (ts : Trees) (term : Term) (n : ℕ) (d : D) → Codes names ts term → AreHits A W taken n term states d → AllZip (IsOf names) (hit_symbols A W states term d) (taken_nodes taken n (nodes_all ts))
  hits-coded names taken none term n d c h = rw c tt
  hits-coded names taken (more (node kind old value kids) ts) term n d (f, below, behind, at, cb, cr, e) h =
      let s : Fell D = W.step f d (up A below states) (up A behind states) in
      let t : Tree = node kind old value kids in
      let h' : AreHits A W taken n (Node f below behind) states d = rw e at h in
      let here : taken n ≡ s.hit = hits-here A W states taken n f below behind d h' in
      let next : ℕ = suc n + nodes_in below in
      let place : next ≡ suc n + length (nodes_all kids) = (let k = count-code names kids below cb in omega (arith, length-nodes_all kids)) in
      let first = hits-coded names taken kids below (suc n) s.left cb (hits-below A W states taken n f below behind d h') in
      let rest = hits-coded names taken ts behind next s.right cr (hits-after A W states taken n f below behind d h') in
      let fs : List ℕ = hit_symbols A W states below s.left in
      let gs : List ℕ = hit_symbols A W states behind s.right in
      let xs : List Tree = taken_nodes taken (suc n) (nodes_all kids) in
      let ys : List Tree = taken_nodes taken next (nodes_all ts) in
      let both = zip-append (IsOf names) fs gs xs ys first rest in
      let whole : AllZip (IsOf names) ((if s.hit then f ∷ [] else []) ++ (fs ++ gs)) ((if taken n then t ∷ [] else []) ++ taken_nodes taken (suc n) (nodes_all kids ++ nodes_all ts)) =
      rw (here, taken-append taken (suc n) next (nodes_all kids) (nodes_all ts) place) (zip-append (IsOf names) (if s.hit then f ∷ [] else []) (fs ++ gs) (if s.hit then t ∷ [] else []) (xs ++ ys) (one-of names s.hit f t at) both) in
      subst (λ u. AllZip (IsOf names) (hit_symbols A W states u d) (taken_nodes taken n (nodes_all (more t ts)))) (sym e) whole

  -- where signs tell nothing of attributes the refusing run hits what is hit and not allowed
  module _ (signs : Signs) (silent : (f : ℕ) → signs.attributes f ≡ false) where
    abbrev pub refused : ℕ → Bool
    refused f = not (signs.allowed f)

    one-refused : (f : ℕ) (hit came allowed attribute : Bool) → attribute ≡ false → (if (hit && not allowed) || ((attribute && (hit || signs.same f)) && came) then f ∷ [] else []) ≡ (if hit then cond (not allowed) (f ∷ []) [] else [])
    one-refused f true came true attribute e = rw e refl
    one-refused f true came false attribute e = refl
    one-refused f false came allowed attribute e = rw e refl

    filter-one : (f : ℕ) (hit : Bool) → filter refused (if hit then f ∷ [] else []) ≡ (if hit then cond (refused f) (f ∷ []) [] else [])
    filter-one f true = refl
    filter-one f false = refl

    pub refused-symbols : (t : Term) (d : D) (came : Bool) → hit_symbols A (refusing_run W signs) states t (record { down = d; came = came }) ≡ filter refused (hit_symbols A W states t d)
    refused-symbols Leaf d came = refl
    refused-symbols (Hole i) d came = refl
    refused-symbols (Node f a b) d came =
        let s : Fell D = W.step f d (up A a states) (up A b states) in
        let fs : List ℕ = hit_symbols A W states a s.left in
        let gs : List ℕ = hit_symbols A W states b s.right in
        let h : List ℕ = if s.hit then f ∷ [] else [] in
        let first = one-refused f s.hit came (signs.allowed f) (signs.attributes f) (silent f) ∙ sym (filter-one f s.hit) in
        let left = refused-symbols a s.left false in
        let right = refused-symbols b s.right (came || (signs.attributes f && (s.hit || signs.same f))) in
        let split : filter refused (h ++ (fs ++ gs)) ≡ filter refused h ++ (filter refused fs ++ filter refused gs) = filter-append refused h (fs ++ gs) ∙ ap (λ l. filter refused h ++ l) (filter-append refused fs gs) in
        let L : List ℕ = hit_symbols A (refusing_run W signs) states a (record { down = s.left; came = false }) in
        let R : List ℕ = hit_symbols A (refusing_run W signs) states b (record { down = s.right; came = came || (signs.attributes f && (s.hit || signs.same f)) }) in
        ap (λ l. l ++ (L ++ R)) first ∙ ap (λ l. filter refused h ++ (l ++ R)) left ∙ ap (λ l. filter refused h ++ (filter refused fs ++ l)) right ∙ sym split
