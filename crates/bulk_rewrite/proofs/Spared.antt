-- The runs that refuse hit nothing exactly where all nodes may be renamed or deleted.
use Rattle.std.proofs.Common.{◌≡◌, ℕ, suc, ◌+◌, ◌&&◌, List, [], ◌∷◌, ◌++◌, Bool, true, false, Some, slice_get, if◌then◌else◌, refl, sym, ◌∙◌, arith, subst}
use Rattle.plain_tree.specs.declared.kind.Kind.{Kind}
use Rattle.plain_tree.specs.declared.kind.Kind.TheVariants.{Document, Element, Attribute, Text, Comment, Instruction}
use Rattle.plain_tree.specs.Tree.{Tree, node, Trees, none, more, node_count_all}
use Rattle.plain_tree.specs.Lawful.{IsDocument, IsLawfulTree, AreDocumentKids}
use Rattle.slt_grammar.specs.Algebras.{Algebra}
use Rattle.slt_grammar.specs.Automata.{Downward, hits_from, hits, nodes_in}
use Rattle.slt_grammar.specs.Coding.{Codes}
use Rattle.slt_grammar.specs.Terms.{Term, Leaf, Node, Hole, up}
use Rattle.slt_grammar.specs.declared.automata.Fell.{Fell}
use Rattle.bulk_rewrite.specs.Numbered.{has, AreHits, AllHit}
use Rattle.bulk_rewrite.specs.Renaming.{renamed}
use Rattle.bulk_rewrite.specs.Refusing.{Signs, AreSigns, refusing_run, NoneHit}
use Rattle.bulk_rewrite.specs.Joining.{Depth, AtTop, AtRoot, Below, sparing_run, is_element, RootStays, MayDelete}
use Rattle.bulk_rewrite.proofs.Numbered.{hits-here, hits-below, hits-after}
use Rattle.bulk_rewrite.proofs.Trees.{count-code}
use Rattle.bulk_rewrite.proofs.Refusals.{HasName, lawful-renamed, named-renamed, none-refused}

empties : {X : Type 0} (xs ys : List X) → xs ++ ys ≡ [] → (xs ≡ []) × (ys ≡ [])
empties [] ys e = (refl, e)
empties (x ∷ xs) ys e = absurd (cc)

unhit : (hit : Bool) (n : ℕ) → ◌≡◌ {A = List ℕ} (if hit then n ∷ [] else []) [] → hit ≡ false
unhit true n e = absurd (cc)
unhit false n e = refl

module _ {S D : Type 0} (A : Algebra S) (W : Downward S D) (states : List S) where
  pub none-hits : (t : Term) (n : ℕ) (d : D) → NoneHit A W t states d → hits_from A W n t states d ≡ []
  none-hits Leaf n d h = refl
  none-hits (Hole i) n d h = refl
  none-hits (Node f a b) n d h =
      let s : Fell D = W.step f d (up A a states) (up A b states) in
      rw (h.0, none-hits a (suc n) s.left h.1, none-hits b (suc n + nodes_in a) s.right h.2) refl

  pub hits-none : (t : Term) (n : ℕ) (d : D) → hits_from A W n t states d ≡ [] → NoneHit A W t states d
  hits-none Leaf n d h = tt
  hits-none (Hole i) n d h = tt
  hits-none (Node f a b) n d h =
      let s : Fell D = W.step f d (up A a states) (up A b states) in
      let xs : List ℕ = if s.hit then n ∷ [] else [] in
      let ys : List ℕ = hits_from A W (suc n) a states s.left in
      let zs : List ℕ = hits_from A W (suc n + nodes_in a) b states s.right in
      let p = empties xs (ys ++ zs) h in
      let q = empties ys zs p.1 in
      (unhit s.hit n p.0, hits-none a (suc n) s.left q.0, hits-none b (suc n + nodes_in a) s.right q.1)

and-no : (a b : Bool) → a && b ≡ false → b ≡ true → a ≡ false
and-no true b e h = absurd (cc)
and-no false b e h = refl

and-none : (a b : Bool) → a ≡ false → a && b ≡ false
and-none a b e = rw e refl

and-zero : (a b : Bool) → b ≡ false → a && b ≡ false
and-zero true b e = e
and-zero false b e = refl

module _ {S D : Type 0} (A : Algebra S) (W : Downward S D) (names : List (Kind × List ℕ)) (term : Term) (t : Tree) (code : Codes names (more t none) term) (doc : IsDocument t) where
  abbrev pub hit_there : ℕ → Bool
  hit_there = has (hits A W term)

  module _ (name : List ℕ) (signs : Signs) (known : AreSigns names name signs) where
    -- only nodes with names are renamed, and the outcome is a document
    pub record MayRename : Type 0 where
      pub named : AllHit A W (HasName A W [] names hit_there name signs known) term [] W.start
      pub document : IsDocument (renamed hit_there name 0 t)

    of-kind : (u : Tree) → IsDocument u → IsLawfulTree (renamed hit_there name 0 u) → IsDocument (renamed hit_there name 0 u)
    of-kind (node kind old value kids) d l = record { is_document = d.is_document; lawful = l }

    pub refuses-none : hits A (refusing_run W signs) term ≡ [] → MayRename
    refuses-none e =
        let free = hits-none A (refusing_run W signs) [] term 0 (record { down = W.start; came = false }) e in
        record {
          named = named-renamed A W [] names hit_there name signs known term W.start false free;
          document = of-kind t doc (lawful-renamed A W [] names hit_there name signs known (more t none) term 0 W.start false code (λ k low high. refl) free (doc.lawful, tt)).0;
        }

    pub none-where-allowed : MayRename → hits A (refusing_run W signs) term ≡ []
    none-where-allowed m = by_tree t code m.named m.document
      where
        by_tree : (u : Tree) → Codes names (more u none) term → AllHit A W (HasName A W [] names hit_there name signs known) term [] W.start → IsDocument (renamed hit_there name 0 u) → hits A (refusing_run W signs) term ≡ []
        by_tree (node kind old value kids) c named d = none-hits A (refusing_run W signs) [] term 0 (record { down = W.start; came = false })
            (none-refused A W [] names hit_there name signs known (more (node kind old value kids) none) term 0 W.start false c (λ k low high. refl) named (d.lawful, tt) ((λ e. tt), tt) (λ e. absurd (cc)))

  module _ (elements : ℕ → Bool) (known : (f : ℕ) (kind : Kind) (n : List ℕ) → slice_get names f ≡ Some (kind, n) → elements f ≡ is_element kind) where
    abbrev Spared : Term → D → Depth → Type 0
    Spared u d m = NoneHit A (sparing_run W elements) u [] (record { down = d; depth = m })

    below-spared : (u : Term) (d : D) → Spared u d Below
    below-spared Leaf d = tt
    below-spared (Hole i) d = tt
    below-spared (Node f a b) d =
        let s : Fell D = W.step f d (up A a []) (up A b []) in
        (and-zero s.hit false refl, below-spared a s.left, below-spared b s.right)

    root-spared : (taken : ℕ → Bool) (rooted : Bool) (ts : Trees) (u : Term) (n : ℕ) (d : D) → Codes names ts u → AreHits A W taken n u [] d → AreDocumentKids rooted ts → RootStays taken n ts → Spared u d AtRoot
    root-spared taken rooted none u n d c h k r = rw c tt
    root-spared taken rooted (more (node Element old value kids) ts) u n d (f, below, behind, at, cb, cr, e) h k r =
        let s : Fell D = W.step f d (up A below []) (up A behind []) in
        let h' : AreHits A W taken n (Node f below behind) [] d = rw e at h in
        let here : taken n ≡ s.hit = hits-here A W [] taken n f below behind d h' in
        let z : n + (node_count_all kids + 1) ≡ suc n + nodes_in below = (let k = count-code names kids below cb in omega arith) in
        let right = root-spared taken true ts behind (suc n + nodes_in below) s.right cr (hits-after A W [] taken n f below behind d h') k.1 (rw z at r.1) in
        subst (λ v. Spared v d AtRoot) (sym e) (and-none s.hit (elements f) (sym here ∙ r.0), below-spared below s.left, right)
    root-spared taken rooted (more (node Comment old value kids) ts) u n d (f, below, behind, at, cb, cr, e) h k r =
        let s : Fell D = W.step f d (up A below []) (up A behind []) in
        let h' : AreHits A W taken n (Node f below behind) [] d = rw e at h in
        let here : taken n ≡ s.hit = hits-here A W [] taken n f below behind d h' in
        let z : n + (node_count_all kids + 1) ≡ suc n + nodes_in below = (let k = count-code names kids below cb in omega arith) in
        let right = root-spared taken rooted ts behind (suc n + nodes_in below) s.right cr (hits-after A W [] taken n f below behind d h') k (rw z at r) in
        subst (λ v. Spared v d AtRoot) (sym e) (and-zero s.hit (elements f) (known f Comment old at), below-spared below s.left, right)
    root-spared taken rooted (more (node Instruction old value kids) ts) u n d (f, below, behind, at, cb, cr, e) h k r =
        let s : Fell D = W.step f d (up A below []) (up A behind []) in
        let h' : AreHits A W taken n (Node f below behind) [] d = rw e at h in
        let here : taken n ≡ s.hit = hits-here A W [] taken n f below behind d h' in
        let z : n + (node_count_all kids + 1) ≡ suc n + nodes_in below = (let k = count-code names kids below cb in omega arith) in
        let right = root-spared taken rooted ts behind (suc n + nodes_in below) s.right cr (hits-after A W [] taken n f below behind d h') k (rw z at r) in
        subst (λ v. Spared v d AtRoot) (sym e) (and-zero s.hit (elements f) (known f Instruction old at), below-spared below s.left, right)
    root-spared taken rooted (more (node Document old value kids) ts) u n d (f, below, behind, at, cb, cr, e) h k r = absurd k
    root-spared taken rooted (more (node Attribute old value kids) ts) u n d (f, below, behind, at, cb, cr, e) h k r = absurd k
    root-spared taken rooted (more (node Text old value kids) ts) u n d (f, below, behind, at, cb, cr, e) h k r = absurd k

    root-stays : (taken : ℕ → Bool) (rooted : Bool) (ts : Trees) (u : Term) (n : ℕ) (d : D) → Codes names ts u → AreHits A W taken n u [] d → AreDocumentKids rooted ts → Spared u d AtRoot → RootStays taken n ts
    root-stays taken rooted none u n d c h k r = tt
    root-stays taken rooted (more (node Element old value kids) ts) u n d (f, below, behind, at, cb, cr, e) h k r =
        let s : Fell D = W.step f d (up A below []) (up A behind []) in
        let h' : AreHits A W taken n (Node f below behind) [] d = rw e at h in
        let r' : Spared (Node f below behind) d AtRoot = rw e at r in
        let here : taken n ≡ s.hit = hits-here A W [] taken n f below behind d h' in
        let z : n + (node_count_all kids + 1) ≡ suc n + nodes_in below = (let k = count-code names kids below cb in omega arith) in
        let right : RootStays taken (suc n + nodes_in below) ts = root-stays taken true ts behind (suc n + nodes_in below) s.right cr (hits-after A W [] taken n f below behind d h') k.1 r'.2 in
        (here ∙ and-no s.hit (elements f) r'.0 (known f Element old at), rw z right)
    root-stays taken rooted (more (node Comment old value kids) ts) u n d (f, below, behind, at, cb, cr, e) h k r =
        let s : Fell D = W.step f d (up A below []) (up A behind []) in
        let h' : AreHits A W taken n (Node f below behind) [] d = rw e at h in
        let r' : Spared (Node f below behind) d AtRoot = rw e at r in
        let here : taken n ≡ s.hit = hits-here A W [] taken n f below behind d h' in
        let z : n + (node_count_all kids + 1) ≡ suc n + nodes_in below = (let k = count-code names kids below cb in omega arith) in
        let right : RootStays taken (suc n + nodes_in below) ts = root-stays taken rooted ts behind (suc n + nodes_in below) s.right cr (hits-after A W [] taken n f below behind d h') k r'.2 in
        rw z right
    root-stays taken rooted (more (node Instruction old value kids) ts) u n d (f, below, behind, at, cb, cr, e) h k r =
        let s : Fell D = W.step f d (up A below []) (up A behind []) in
        let h' : AreHits A W taken n (Node f below behind) [] d = rw e at h in
        let r' : Spared (Node f below behind) d AtRoot = rw e at r in
        let here : taken n ≡ s.hit = hits-here A W [] taken n f below behind d h' in
        let z : n + (node_count_all kids + 1) ≡ suc n + nodes_in below = (let k = count-code names kids below cb in omega arith) in
        let right : RootStays taken (suc n + nodes_in below) ts = root-stays taken rooted ts behind (suc n + nodes_in below) s.right cr (hits-after A W [] taken n f below behind d h') k r'.2 in
        rw z right
    root-stays taken rooted (more (node Document old value kids) ts) u n d (f, below, behind, at, cb, cr, e) h k r = absurd k
    root-stays taken rooted (more (node Attribute old value kids) ts) u n d (f, below, behind, at, cb, cr, e) h k r = absurd k
    root-stays taken rooted (more (node Text old value kids) ts) u n d (f, below, behind, at, cb, cr, e) h k r = absurd k

    -- the run that spares hits nothing exactly where neither the document nor its root is taken
    pub spares-none : hits A (sparing_run W elements) term ≡ [] → MayDelete hit_there t
    spares-none e = by_tree t doc code (hits-none A (sparing_run W elements) [] term 0 (record { down = W.start; depth = AtTop }) e)
      where
        by_tree : (u : Tree) → IsDocument u → Codes names (more u none) term → Spared term W.start AtTop → MayDelete hit_there u
        by_tree (node Document old value kids) d (f, below, behind, at, cb, cr, e) free =
            let s : Fell D = W.step f W.start (up A below []) (up A behind []) in
            let h : AreHits A W hit_there 0 (Node f below behind) [] W.start = subst (λ v. AreHits A W hit_there 0 v [] W.start) e start-hits in
            let free' : Spared (Node f below behind) W.start AtTop = rw e at free in
            (hits-here A W [] hit_there 0 f below behind W.start h ∙ and-no s.hit true free'.0 refl, root-stays hit_there false kids below 1 s.left cb (hits-below A W [] hit_there 0 f below behind W.start h) d.lawful.1 free'.1)
          where
            start-hits : AreHits A W hit_there 0 term [] W.start
            start-hits k low high = refl
        by_tree (node Element old value kids) d c free = let f = d.is_document in absurd (cc)
        by_tree (node Attribute old value kids) d c free = let f = d.is_document in absurd (cc)
        by_tree (node Text old value kids) d c free = let f = d.is_document in absurd (cc)
        by_tree (node Comment old value kids) d c free = let f = d.is_document in absurd (cc)
        by_tree (node Instruction old value kids) d c free = let f = d.is_document in absurd (cc)

    pub none-where-stays : MayDelete hit_there t → hits A (sparing_run W elements) term ≡ []
    none-where-stays m = none-hits A (sparing_run W elements) [] term 0 (record { down = W.start; depth = AtTop }) (by_tree t doc code m)
      where
        start-hits : AreHits A W hit_there 0 term [] W.start
        start-hits k low high = refl

        none-top : (u : Term) (d : D) → u ≡ Leaf → Spared u d AtTop
        none-top u d e = rw e tt

        by_tree : (u : Tree) → IsDocument u → Codes names (more u none) term → MayDelete hit_there u → Spared term W.start AtTop
        by_tree (node Document old value kids) d (f, below, behind, at, cb, cr, e) m =
            let s : Fell D = W.step f W.start (up A below []) (up A behind []) in
            let h : AreHits A W hit_there 0 (Node f below behind) [] W.start = subst (λ v. AreHits A W hit_there 0 v [] W.start) e start-hits in
            let here : hit_there 0 ≡ s.hit = hits-here A W [] hit_there 0 f below behind W.start h in
            let free : Spared (Node f below behind) W.start AtTop =
            (and-none s.hit true (sym here ∙ m.0), root-spared hit_there false kids below 1 s.left cb (hits-below A W [] hit_there 0 f below behind W.start h) d.lawful.1 m.1, none-top behind s.right cr) in
            subst (λ v. Spared v W.start AtTop) (sym e) free
        by_tree (node Element old value kids) d c m = let f = d.is_document in absurd (cc)
        by_tree (node Attribute old value kids) d c m = let f = d.is_document in absurd (cc)
        by_tree (node Text old value kids) d c m = let f = d.is_document in absurd (cc)
        by_tree (node Comment old value kids) d c m = let f = d.is_document in absurd (cc)
        by_tree (node Instruction old value kids) d c m = let f = d.is_document in absurd (cc)
