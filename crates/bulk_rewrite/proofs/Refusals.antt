-- The run that refuses hits nothing exactly where only nodes with names are renamed and the outcome is lawful.
use Rattle.std.proofs.Common.{◌≡◌, ◌≢◌, ℕ, suc, ◌+◌, ◌&&◌, ◌||◌, not, List, Bool, true, false, Some, slice_get, if◌then◌else◌, refl, sym, ap, ◌∙◌, arith, subst}
use Rattle.plain_tree.specs.declared.kind.Kind.{Kind}
use Rattle.plain_tree.specs.declared.kind.Kind.TheVariants.{Document, Element, Attribute, Text, Comment, Instruction}
use Rattle.plain_tree.specs.Tree.{node, Trees, none, more, node_count_all}
use Rattle.plain_tree.specs.Lawful.{IsLawfulName, IsNew, AreElementKids, AreDocumentKids, AreKids, AreLawfulTrees}
use Rattle.slt_grammar.specs.Algebras.{Algebra}
use Rattle.slt_grammar.specs.Automata.{Downward, nodes_in}
use Rattle.slt_grammar.specs.Coding.{Codes}
use Rattle.slt_grammar.specs.Terms.{Term, Leaf, Node, Hole, up}
use Rattle.slt_grammar.specs.declared.automata.Fell.{Fell}
use Rattle.bulk_rewrite.specs.Numbered.{AreHits, AllHit}
use Rattle.bulk_rewrite.specs.Renaming.{renamed_all}
use Rattle.bulk_rewrite.specs.Refusing.{is_renamable, is_attribute, Signs, AreSigns, gets, refusing_run, NoneHit, AttributesDiffer}
use Rattle.bulk_rewrite.proofs.Numbered.{hits-here, hits-below, hits-after}
use Rattle.bulk_rewrite.proofs.Trees.{count-code}

or-none : (a b : Bool) → a || b ≡ false → (a ≡ false) × (b ≡ false)
or-none true b e = absurd (cc)
or-none false b e = (refl, e)

and-first : (a b : Bool) → a && b ≡ false → b ≡ true → a ≡ false
and-first true b e h = absurd (cc)
and-first false b e h = refl

and-second : (a b : Bool) → a && not b ≡ false → a ≡ true → b ≡ true
and-second true true e h = refl
and-second true false e h = absurd (cc)
and-second false b e h = absurd (cc)

or-true : (a : Bool) → a || true ≡ true
or-true true = refl
or-true false = refl

-- a name that differs from those of attributes and from the new one differs from theirs afterwards
new-renamed : (taken : ℕ → Bool) (name old : List ℕ) (n : ℕ) (ts : Trees) → IsNew old ts → old ≢ name → IsNew old (renamed_all taken name n ts)
new-renamed taken name old n none i u = tt
new-renamed taken name old n (more (node kind other value kids) ts) i u = (λ a. by_taken (taken n) (i.0 a), new-renamed taken name old (n + (node_count_all kids + 1)) ts i.1 u)
  where
    by_taken : (b : Bool) → old ≢ other → old ≢ (if b then name else other)
    by_taken true h = u
    by_taken false h = h

differ-element : (tag : Bool) (ts : Trees) → AreElementKids tag ts → AttributesDiffer ts
differ-element tag none k = tt
differ-element tag (more (node Document n v ks) ts) k = absurd k
differ-element tag (more (node Attribute n v ks) ts) k = (λ e. k.1, differ-element true ts k.2)
differ-element tag (more (node Element n v ks) ts) k = (λ e. absurd (cc), differ-element false ts k)
differ-element tag (more (node Text n v ks) ts) k = (λ e. absurd (cc), differ-element false ts k)
differ-element tag (more (node Comment n v ks) ts) k = (λ e. absurd (cc), differ-element false ts k)
differ-element tag (more (node Instruction n v ks) ts) k = (λ e. absurd (cc), differ-element false ts k)

differ-document : (rooted : Bool) (ts : Trees) → AreDocumentKids rooted ts → AttributesDiffer ts
differ-document rooted none k = tt
differ-document rooted (more (node Element n v ks) ts) k = (λ e. absurd (cc), differ-document true ts k.1)
differ-document rooted (more (node Comment n v ks) ts) k = (λ e. absurd (cc), differ-document rooted ts k)
differ-document rooted (more (node Instruction n v ks) ts) k = (λ e. absurd (cc), differ-document rooted ts k)
differ-document rooted (more (node Document n v ks) ts) k = absurd k
differ-document rooted (more (node Attribute n v ks) ts) k = absurd k
differ-document rooted (more (node Text n v ks) ts) k = absurd k

pub differ-kids : (kind : Kind) (kids : Trees) → AreKids kind kids → AttributesDiffer kids
differ-kids Document kids k = differ-document false kids k
differ-kids Element kids k = differ-element true kids k
differ-kids Attribute kids k = rw k tt
differ-kids Text kids k = rw k tt
differ-kids Comment kids k = rw k tt
differ-kids Instruction kids k = rw k tt

module _ (taken : ℕ → Bool) (name : List ℕ) where
  document-renamed : (rooted : Bool) (n : ℕ) (ts : Trees) → AreDocumentKids rooted ts → AreDocumentKids rooted (renamed_all taken name n ts)
  document-renamed rooted n none k = k
  document-renamed rooted n (more (node Element o v ks) ts) k = (k.0, document-renamed true (n + (node_count_all ks + 1)) ts k.1)
  document-renamed rooted n (more (node Comment o v ks) ts) k = document-renamed rooted (n + (node_count_all ks + 1)) ts k
  document-renamed rooted n (more (node Instruction o v ks) ts) k = document-renamed rooted (n + (node_count_all ks + 1)) ts k
  document-renamed rooted n (more (node Document o v ks) ts) k = absurd k
  document-renamed rooted n (more (node Attribute o v ks) ts) k = absurd k
  document-renamed rooted n (more (node Text o v ks) ts) k = absurd k

  element-renamed : (tag : Bool) (n : ℕ) (ts : Trees) → AreElementKids tag ts → AttributesDiffer (renamed_all taken name n ts) → AreElementKids tag (renamed_all taken name n ts)
  element-renamed tag n none k a = tt
  element-renamed tag n (more (node Document o v ks) ts) k a = absurd k
  element-renamed tag n (more (node Attribute o v ks) ts) k a = (k.0, a.0 refl, element-renamed true (n + (node_count_all ks + 1)) ts k.2 a.1)
  element-renamed tag n (more (node Element o v ks) ts) k a = element-renamed false (n + (node_count_all ks + 1)) ts k a.1
  element-renamed tag n (more (node Text o v ks) ts) k a = element-renamed false (n + (node_count_all ks + 1)) ts k a.1
  element-renamed tag n (more (node Comment o v ks) ts) k a = element-renamed false (n + (node_count_all ks + 1)) ts k a.1
  element-renamed tag n (more (node Instruction o v ks) ts) k a = element-renamed false (n + (node_count_all ks + 1)) ts k a.1

  kids-renamed : (kind : Kind) (n : ℕ) (kids : Trees) → AreKids kind kids → AttributesDiffer (renamed_all taken name n kids) → AreKids kind (renamed_all taken name n kids)
  kids-renamed Document n kids k a = document-renamed false n kids k
  kids-renamed Element n kids k a = element-renamed true n kids k a
  kids-renamed Attribute n kids k a = ap (renamed_all taken name n) k
  kids-renamed Text n kids k a = ap (renamed_all taken name n) k
  kids-renamed Comment n kids k a = ap (renamed_all taken name n) k
  kids-renamed Instruction n kids k a = ap (renamed_all taken name n) k

module _ {S D : Type 0} (A : Algebra S) (W : Downward S D) (states : List S) (names : List (Kind × List ℕ)) (taken : ℕ → Bool) (name : List ℕ) (signs : Signs) (known : AreSigns names name signs) where
  abbrev Free : Term → D → Bool → Type 0
  Free t d came = NoneHit A (refusing_run W signs) t states (record { down = d; came = came })

  -- what an attribute that doesn't get the new name is named
  spared : (f : ℕ) (kind : Kind) (old : List ℕ) (hit : Bool) → slice_get names f ≡ Some (kind, old) → kind ≡ Attribute → gets signs f hit ≡ false → name ≢ (if hit then name else old)
  spared f kind old hit at a g =
      let b : signs.attributes f ≡ true = known.attribute f kind old at ∙ ap is_attribute a in
      let c : hit || signs.same f ≡ false = rw b at g in
      let p = or-none hit (signs.same f) c in
      rw p.0 (λ e. known.unlike f kind old at p.1 (sym e))

  -- the name of an attribute is new behind it
  first-new : (f : ℕ) (old : List ℕ) (hit same came : Bool) (n : ℕ) (ts : Trees) → slice_get names f ≡ Some (Attribute, old) → signs.same f ≡ same → IsNew old ts
      → (came || gets signs f hit ≡ true → IsNew name (renamed_all taken name n ts)) → IsNew (if hit then name else old) (renamed_all taken name n ts)
  first-new f old true same came n ts at e i ih = ih (rw (known.attribute f Attribute old at) (or-true came))
  first-new f old false true came n ts at e i ih = let o : old ≡ name = known.alike f Attribute old at e in rw o (ih (rw (known.attribute f Attribute old at, e) (or-true came)))
  first-new f old false false came n ts at e i ih = new-renamed taken name old n ts i (known.unlike f Attribute old at e)

  -- where nothing is refused the attributes have different names afterwards
  differ-renamed : (ts : Trees) (term : Term) (n : ℕ) (d : D) (came : Bool) → Codes names ts term → AreHits A W taken n term states d → Free term d came → AttributesDiffer ts
      → AttributesDiffer (renamed_all taken name n ts) × (came ≡ true → IsNew name (renamed_all taken name n ts))
  differ-renamed none term n d came c h free a = (tt, λ e. tt)
  differ-renamed (more (node kind old value kids) ts) term n d came (f, below, behind, at, cb, cr, e) h free a =
      let s : Fell D = W.step f d (up A below states) (up A behind states) in
      let h' : AreHits A W taken n (Node f below behind) states d = rw e at h in
      let free' : Free (Node f below behind) d came = rw e at free in
      let here : taken n ≡ s.hit = hits-here A W states taken n f below behind d h' in
      let next : ℕ = n + (node_count_all kids + 1) in
      let z : next ≡ suc n + nodes_in below = (let k = count-code names kids below cb in omega arith) in
      let ih : AttributesDiffer (renamed_all taken name next ts) × (came || gets signs f s.hit ≡ true → IsNew name (renamed_all taken name next ts)) =
      rw z (differ-renamed ts behind (suc n + nodes_in below) s.right (came || gets signs f s.hit) cr (hits-after A W states taken n f below behind d h') free'.2 a.1) in
      let o = or-none (s.hit && not (signs.allowed f)) (gets signs f s.hit && came) free'.0 in
      let fresh : kind ≡ Attribute → IsNew (if s.hit then name else old) (renamed_all taken name next ts) =
      λ k. first-new f old s.hit (signs.same f) came next ts (at ∙ ap (λ (x : Kind). Some (x, old)) k) refl (a.0 k) ih.1 in
      let apart : came ≡ true → kind ≡ Attribute → name ≢ (if s.hit then name else old) = λ c k. spared f kind old s.hit at k (and-first (gets signs f s.hit) came o.1 c) in
      (rw here (fresh, ih.0), λ c. rw here (apart c, ih.1 (ap (λ x. x || gets signs f s.hit) c)))

  name-renamed : (f : ℕ) (kind : Kind) (old : List ℕ) (hit : Bool) → slice_get names f ≡ Some (kind, old) → hit && not (signs.allowed f) ≡ false → IsLawfulName kind old → IsLawfulName kind (if hit then name else old)
  name-renamed f kind old true at e l = (known.may f kind old at (and-second true (signs.allowed f) e refl)).1
  name-renamed f kind old false at e l = l

  -- where nothing is refused the trees are lawful afterwards
  pub lawful-renamed : (ts : Trees) (term : Term) (n : ℕ) (d : D) (came : Bool) → Codes names ts term → AreHits A W taken n term states d → Free term d came → AreLawfulTrees ts → AreLawfulTrees (renamed_all taken name n ts)
  lawful-renamed none term n d came c h free l = tt
  lawful-renamed (more (node kind old value kids) ts) term n d came (f, below, behind, at, cb, cr, e) h free l =
      let s : Fell D = W.step f d (up A below states) (up A behind states) in
      let h' : AreHits A W taken n (Node f below behind) states d = rw e at h in
      let free' : Free (Node f below behind) d came = rw e at free in
      let here : taken n ≡ s.hit = hits-here A W states taken n f below behind d h' in
      let z : n + (node_count_all kids + 1) ≡ suc n + nodes_in below = (let k = count-code names kids below cb in omega arith) in
      let hb = hits-below A W states taken n f below behind d h' in
      let o = or-none (s.hit && not (signs.allowed f)) (gets signs f s.hit && came) free'.0 in
      let inner = (differ-renamed kids below (suc n) s.left false cb hb free'.1 (differ-kids kind kids l.0.1)).0 in
      let named : IsLawfulName kind (if taken n then name else old) = rw here (name-renamed f kind old s.hit at o.0 l.0.0.0) in
      let rest : AreLawfulTrees (renamed_all taken name (n + (node_count_all kids + 1)) ts) = rw z (lawful-renamed ts behind (suc n + nodes_in below) s.right (came || gets signs f s.hit) cr (hits-after A W states taken n f below behind d h') free'.2 l.1) in
      (((named, l.0.0.1), kids-renamed taken name kind (suc n) kids l.0.1 inner, lawful-renamed kids below (suc n) s.left false cb hb free'.1 l.0.2), rest)

  -- and only nodes with names are renamed
  abbrev pub HasName : ℕ → Type 0
  HasName f = (kind : Kind) (old : List ℕ) → slice_get names f ≡ Some (kind, old) → is_renamable kind ≡ true

  pub named-renamed : (term : Term) (d : D) (came : Bool) → Free term d came → AllHit A W HasName term states d
  named-renamed Leaf d came free = tt
  named-renamed (Hole i) d came free = tt
  named-renamed (Node f a b) d came free =
      let s : Fell D = W.step f d (up A a states) (up A b states) in
      let o = or-none (s.hit && not (signs.allowed f)) (gets signs f s.hit && came) free.0 in
      (λ e kind old at. (known.may f kind old at (and-second s.hit (signs.allowed f) o.0 e)).0, named-renamed a s.left false free.1, named-renamed b s.right (came || gets signs f s.hit) free.2)

  allowed-none : (f : ℕ) (kind : Kind) (old : List ℕ) (hit : Bool) → slice_get names f ≡ Some (kind, old) → (hit ≡ true → HasName f) → IsLawfulName kind (if hit then name else old) → hit && not (signs.allowed f) ≡ false
  allowed-none f kind old true at a l = rw (known.must f kind old at (a refl kind old at) l) refl
  allowed-none f kind old false at a l = refl

  -- the name that an attribute gets
  got : (f : ℕ) (kind : Kind) (old : List ℕ) (hit attribute same : Bool) → slice_get names f ≡ Some (kind, old) → signs.attributes f ≡ attribute → signs.same f ≡ same → gets signs f hit ≡ true → (is_attribute kind ≡ true) × ((if hit then name else old) ≡ name)
  got f kind old hit false same at e g h = let k : false ≡ true = rw e at h in absurd (cc)
  got f kind old true true same at e g h = (sym (known.attribute f kind old at) ∙ e, refl)
  got f kind old false true true at e g h = (sym (known.attribute f kind old at) ∙ e, known.alike f kind old at g)
  got f kind old false true false at e g h = let k : false ≡ true = rw (e, g) at h in absurd (cc)

  attribute-is : (kind : Kind) → is_attribute kind ≡ true → kind ≡ Attribute
  attribute-is Attribute e = refl
  attribute-is Document e = absurd (cc)
  attribute-is Element e = absurd (cc)
  attribute-is Text e = absurd (cc)
  attribute-is Comment e = absurd (cc)
  attribute-is Instruction e = absurd (cc)

  not-both : (a b : Bool) → (a ≡ true → b ≡ true → ⊥) → a && b ≡ false
  not-both true true h = absurd (h refl refl)
  not-both true false h = refl
  not-both false b h = refl

  from-or : (a b : Bool) (P : Type 0) → (a ≡ true → P) → (b ≡ true → P) → a || b ≡ true → P
  from-or true b P l r e = l refl
  from-or false b P l r e = r e

  both-false : (a b : Bool) → a ≡ false → b ≡ false → a || b ≡ false
  both-false a b e f = rw (e, f) refl

  -- where the trees are lawful afterwards and only nodes with names are renamed, nothing is refused
  pub none-refused : (ts : Trees) (term : Term) (n : ℕ) (d : D) (came : Bool) → Codes names ts term → AreHits A W taken n term states d → AllHit A W HasName term states d
      → AreLawfulTrees (renamed_all taken name n ts) → AttributesDiffer (renamed_all taken name n ts) → (came ≡ true → IsNew name (renamed_all taken name n ts)) → Free term d came
  none-refused none term n d came c h all l a i = rw c tt
  none-refused (more (node kind old value kids) ts) term n d came (f, below, behind, at, cb, cr, e) h all l a i =
      let s : Fell D = W.step f d (up A below states) (up A behind states) in
      let h' : AreHits A W taken n (Node f below behind) states d = rw e at h in
      let all' : AllHit A W HasName (Node f below behind) states d = rw e at all in
      let here : taken n ≡ s.hit = hits-here A W states taken n f below behind d h' in
      let next : ℕ = n + (node_count_all kids + 1) in
      let z : next ≡ suc n + nodes_in below = (let k = count-code names kids below cb in omega arith) in
      let new : List ℕ = if s.hit then name else old in
      let same : (if taken n then name else old) ≡ new = ap (λ (x : Bool). if x then name else old) here in
      let fresh : kind ≡ Attribute → IsNew new (renamed_all taken name next ts) = rw same at a.0 in
      let apart : came ≡ true → (kind ≡ Attribute → name ≢ new) × IsNew name (renamed_all taken name next ts) = rw same at i in
      let named : IsLawfulName kind new = rw same at l.0.0.0 in
      let first : s.hit && not (signs.allowed f) ≡ false = allowed-none f kind old s.hit at all'.0 named in
      let get = λ (g : gets signs f s.hit ≡ true). got f kind old s.hit (signs.attributes f) (signs.same f) at refl refl g in
      let second : gets signs f s.hit && came ≡ false = not-both (gets signs f s.hit) came (λ g c. let w = get g in (apart c).0 (attribute-is kind w.0) (sym w.1)) in
      let went : came || gets signs f s.hit ≡ true → IsNew name (renamed_all taken name next ts) =
      from-or came (gets signs f s.hit) (IsNew name (renamed_all taken name next ts)) (λ c. (apart c).1) (λ g. let w = get g in subst (λ x. IsNew x (renamed_all taken name next ts)) w.1 (fresh (attribute-is kind w.0))) in
      let inner = differ-kids kind (renamed_all taken name (suc n) kids) l.0.1 in
      let left = none-refused kids below (suc n) s.left false cb (hits-below A W states taken n f below behind d h') all'.1 l.0.2 inner (λ k. absurd (cc)) in
      let right = none-refused ts behind (suc n + nodes_in below) s.right (came || gets signs f s.hit) cr (hits-after A W states taken n f below behind d h') all'.2 (rw z at l.1) (rw z at a.1) (rw z at went) in
      subst (λ t. Free t d came) (sym e) (both-false (s.hit && not (signs.allowed f)) (gets signs f s.hit && came) first second, left, right)
