-- Documents stay documents under edits.
use Rattle.std.proofs.Common.{◌≡◌, ◌≢◌, ℕ, suc, ◌+◌, ◌-◌, ◌<◌, List, [], ◌∷◌, ◌++◌, Bool, true, false, refl, ap, sym, ◌∙◌, subst, arith, Option, Some}
use Rattle.std.specs.Prelude.{if◌then◌else◌}
use Rattle.std.specs.List.{list_all}
use Rattle.std.specs.Str.{IsUtf8, is_utf8, chars, bytes_eq}
use Rattle.std.proofs.Math.Bool.{true≢false}
use Rattle.std.proofs.lemmas.Str.{IsUtf8-append, IsUtf8-from_is_utf8, is_utf8-from_IsUtf8, chars-append}
use Rattle.std.proofs.lemmas.List.Folds.{list_all-append}
use Rattle.std.proofs.lemmas.Slice.Eq.{bytes_eq-Decides}
use Rattle.std.specs.Prelude.{◌&&◌}
use Rattle.plain_tree.specs.declared.kind.Kind.{Kind}
use Rattle.plain_tree.specs.declared.kind.Kind.TheVariants.{Document, Element, Attribute, Text, Comment, Instruction}
use Rattle.plain_tree.specs.Joined.{join_front}
use Rattle.plain_tree.specs.Lawful.{AreChars, IsName, IsNew, IsLawfulName, IsLawfulValue, AreElementKids, AreDocumentKids, AreKids, AreLawfulTrees, IsFragment}
use Rattle.plain_tree.specs.Numbers.{kind_of}
use Rattle.plain_tree.specs.Tree.{Tree, node, Trees, none, more, node_count_all}
use Rattle.plain_tree.specs.XmlNames.{is_char}
use Rattle.plain_tree.specs.Edits.{changed, chained, with_first, with_kids, with_name, with_value, with_attribute, others, alone}
use Rattle.plain_tree.specs.Siblings.{joined_first}
use Rattle.plain_tree.specs.Allowed.{MayBeNamed, MayHaveValue, MayStandUnder}
use Rattle.plain_tree.specs.Places.{Place, place_in}
use Rattle.plain_tree.proofs.Changing.{each-node, changed-inside, more-later, if-below, if-from, chained-more, chained-chained}
use Rattle.plain_tree.proofs.SeamTexts.{join-apart}
use Rattle.plain_tree.proofs.KidLaws.{AreApart, apart-alike, weaken, strengthen, kids-behind, kids-chained, keeps-kids, keeps-first, aside-before, aside-behind, no-attributes-new, new-chained}

-- texts that are joined are Chars
and-true : (a b : Bool) → (a && b) ≡ true → (a ≡ true) × (b ≡ true)
and-true true b e = (refl, e)
and-true false b e = cc

chars-utf8 : (v : List ℕ) → AreChars v → IsUtf8 v
chars-utf8 v a = IsUtf8-from_is_utf8 v (and-true (is_utf8 v) (list_all is_char (chars v)) a).0

pub more-chars : (x y : List ℕ) → AreChars x → AreChars y → AreChars (x ++ y)
more-chars x y a b =
    let u = IsUtf8-append x y (chars-utf8 x a) (chars-utf8 y b) in
    let cx = (and-true (is_utf8 x) (list_all is_char (chars x)) a).1 in
    let cy = (and-true (is_utf8 y) (list_all is_char (chars y)) b).1 in
    let all : list_all is_char (chars (x ++ y)) ≡ true = rw (chars-append x y (chars-utf8 x a)) (list_all-append is_char (chars x) (chars y) ∙ rw (cx, cy) refl) in
    rw (is_utf8-from_IsUtf8 (x ++ y) u, all) refl

pub lawful-chained : (ss us : Trees) → AreLawfulTrees ss → AreLawfulTrees us → AreLawfulTrees (chained more ss us)
lawful-chained none us a b = b
lawful-chained (more t ss) us a b = subst AreLawfulTrees (sym (chained-more t ss us)) (a.0, lawful-chained ss us a.1 b)

pub place-inside : (above : Option Kind) (before : Trees) (k : Kind) (m v : List ℕ) (ks ts : Trees) (n : ℕ) → n < node_count_all ks → place_in above before (suc n) (more (node k m v ks) ts) ≡ place_in (Some k) none n ks
place-inside above before k m v ks ts n h =
    if-below n (node_count_all ks) (place_in (Some k) none n ks) (place_in above (chained more before (more (node k m v ks) none)) (n - node_count_all ks) ts) h

pub place-later : (above : Option Kind) (before : Trees) (k : Kind) (m v : List ℕ) (ks ts : Trees) (d : ℕ)
    → place_in above before (suc (node_count_all ks + d)) (more (node k m v ks) ts) ≡ place_in above (chained more before (more (node k m v ks) none)) d ts
place-later above before k m v ks ts d =
    let n : ℕ = node_count_all ks + d in
    let e : n - node_count_all ks ≡ d = omega arith in
    if-from n (node_count_all ks) (place_in (Some k) none n ks) (place_in above (chained more before (more (node k m v ks) none)) (n - node_count_all ks) ts) (omega arith)
    ∙ ap (λ (i : ℕ). place_in above (chained more before (more (node k m v ks) none)) i ts) e

-- what comes to the place of some siblings may stand there
abbrev pub KeepsAt : (Trees → Trees) → Kind → Trees → Trees → Type 0
KeepsAt f K front us = AreKids K (chained more front us) → AreLawfulTrees us → AreKids K (chained more front (f us)) × AreLawfulTrees (f us)

abbrev place_here : Kind → Trees → Tree → Trees → Place
place_here K front t us = record { above = Some K; before = front; here = t; behind = us }

-- where it may, the trees stay lawful
abbrev pub StaysLawful : (Trees → Trees) → ℕ → Trees → Type 0
StaysLawful f n ts =
    (K : Kind) (before : Trees) → AreKids K (chained more before ts) → AreLawfulTrees ts
    → ((L : Kind) (front : Trees) (t : Tree) (us : Trees) → place_in (Some K) before n ts ≡ Some (place_here L front t us) → KeepsAt f L front (more t us))
    → AreKids K (chained more before (changed more f n ts)) × AreLawfulTrees (changed more f n ts)

stays-inside : (f : Trees → Trees) (k : Kind) (m v : List ℕ) (ks ts : Trees) (n : ℕ) → n < node_count_all ks → StaysLawful f n ks → StaysLawful f (suc n) (more (node k m v ks) ts)
stays-inside f k m v ks ts n h r K before a l keeps =
    let inner = r k none l.0.1 l.0.2 (λ L front t us e. keeps L front t us (place-inside (Some K) before k m v ks ts n h ∙ e)) in
    let there = changed-inside more f k m v ks ts n h in
    let whole : AreKids K (chained more before (more (node k m v (changed more f n ks)) ts)) × AreLawfulTrees (more (node k m v (changed more f n ks)) ts) =
    (keeps-first K before k m v v ks (changed more f n ks) ts a, ((l.0.0, inner.0, inner.1), l.1)) in
    subst (λ us. AreKids K (chained more before us) × AreLawfulTrees us) (sym there) whole

stays-later : (f : Trees → Trees) (k : Kind) (m v : List ℕ) (ks ts : Trees) (d : ℕ) → d < node_count_all ts → StaysLawful f d ts → StaysLawful f (suc (node_count_all ks + d)) (more (node k m v ks) ts)
stays-later f k m v ks ts d h r K before a l keeps =
    let t : Tree = node k m v ks in
    let front : Trees = chained more before (more t none) in
    let inner = r K front (subst (AreKids K) (sym (chained-chained before (more t none) ts)) a) l.1 (λ L front t us e. keeps L front t us (place-later (Some K) before k m v ks ts d ∙ e)) in
    let there = more-later f k m v ks ts d in
    let whole : AreKids K (chained more before (more t (changed more f d ts))) × AreLawfulTrees (more t (changed more f d ts)) =
    (subst (AreKids K) (chained-chained before (more t none) (changed more f d ts)) inner.0, (l.0, inner.1)) in
    subst (λ us. AreKids K (chained more before us) × AreLawfulTrees us) (sym there) whole

pub stays-lawful : (f : Trees → Trees) (n : ℕ) (ts : Trees) → n < node_count_all ts → StaysLawful f n ts
stays-lawful f = each-node (StaysLawful f) (λ t ts K before a l keeps. keeps K before t ts refl a l) (stays-inside f) (stays-later f)

-- What each edit brings may stand there.
pub keeps-others : (L : Kind) (front : Trees) (t : Tree) (us : Trees) → (L ≡ Document → kind_of t ≢ Element) → KeepsAt others L front (more t us)
keeps-others L front (node k m v ks) us spare a l =
    (keeps-kids L front (more (node k m v ks) us) us (λ e. cc) (λ e b. roots k (spare e) b) (λ b. kids-behind b k m v ks us) (apart-alike front (more (node k m v ks) us) us (λ n h. h.1)) a, l.1)
  where
    roots : (k : Kind) → (k ≡ Element → ⊥) → (b : Bool) → AreDocumentKids b (more (node k m v ks) us) → AreDocumentKids b us
    roots Document o b h = absurd h
    roots Element o b h = absurd (o refl)
    roots Attribute o b h = absurd h
    roots Text o b h = absurd h
    roots Comment o b h = h
    roots Instruction o b h = h

pub keeps-inserted : (F : Trees) (L : Kind) (front : Trees) (t : Tree) (us : Trees) → kind_of t ≢ Attribute → MayStandUnder L F → IsFragment F → KeepsAt (chained more F) L front (more t us)
keeps-inserted F L front (node k m v ks) us plain may fragment a l =
    let all : Trees = more (node k m v ks) us in (
      keeps-kids L front all (chained more F all) (λ e. cc) (λ e b h. aside-before b F all (subst (λ K. MayStandUnder K F) e may) h)
          (λ b h. weaken b (chained more F all) (kids-chained false F all fragment.1.0 (strengthen b k m v ks us plain h)))
          (apart-alike front all (chained more F all) (λ n h. new-chained n F all (no-attributes-new n F fragment.1.0) h)) a,
      lawful-chained F all fragment.1.1 l,
    )

pub keeps-copied : (L : Kind) (front : Trees) (t : Tree) (us : Trees) → kind_of t ≢ Attribute → (L ≡ Document → kind_of t ≢ Element) → KeepsAt (λ us. chained more (alone us) us) L front (more t us)
keeps-copied L front (node k m v ks) us plain spare a l =
    let t : Tree = node k m v ks in
    let all : Trees = more t us in (
      keeps-kids L front all (more t all) (λ e. cc) (λ e b. roots k (spare e) b) (λ b h. kids k b plain h) (apart-alike front all (more t all) (λ n h. (h.0, h))) a,
      (l.0, l),
    )
  where
    roots : (k : Kind) → (k ≡ Element → ⊥) → (b : Bool) → AreDocumentKids b (more (node k m v ks) us) → AreDocumentKids b (more (node k m v ks) (more (node k m v ks) us))
    roots Document o b h = absurd h
    roots Element o b h = absurd (o refl)
    roots Attribute o b h = absurd h
    roots Text o b h = absurd h
    roots Comment o b h = h
    roots Instruction o b h = h

    kids : (k : Kind) (b : Bool) → (k ≡ Attribute → ⊥) → AreElementKids b (more (node k m v ks) us) → AreElementKids b (more (node k m v ks) (more (node k m v ks) us))
    kids Document b o h = absurd h
    kids Element b o h = h
    kids Attribute b o h = absurd (o refl)
    kids Text b o h = h
    kids Comment b o h = h
    kids Instruction b o h = h

pub keeps-valued : (w : List ℕ) (L : Kind) (front : Trees) (t : Tree) (us : Trees) → MayHaveValue w (kind_of t) → AreChars w → KeepsAt (with_first (with_value w)) L front (more t us)
keeps-valued w L front (node k m v ks) us may text a l = (keeps-first L front k m v w ks ks us a, (((l.0.0.0, value k may), l.0.1, l.0.2), l.1))
  where
    value : (k : Kind) → MayHaveValue w k → IsLawfulValue k w
    value Document h = absurd h
    value Element h = absurd h
    value Attribute h = text
    value Text h = h
    value Comment h = h
    value Instruction h = h

pub keeps-appended : (F : Trees) (L : Kind) (front : Trees) (t : Tree) (us : Trees) → MayStandUnder (kind_of t) F → IsFragment F → KeepsAt (with_first (with_kids (λ kids. chained more kids F))) L front (more t us)
keeps-appended F L front (node k m v ks) us may fragment a l =
    (keeps-first L front k m v v ks (chained more ks F) us a, ((l.0.0, kids k may l.0.1, lawful-chained ks F l.0.2 fragment.1.1), l.1))
  where
    kids : (k : Kind) → MayStandUnder k F → AreKids k ks → AreKids k (chained more ks F)
    kids Document may h = aside-behind false ks F h may
    kids Element may h = kids-chained true ks F h fragment.1.0
    kids Attribute may h = absurd may
    kids Text may h = absurd may
    kids Comment may h = absurd may
    kids Instruction may h = absurd may

roots-named : (x : List ℕ) (k : Kind) (m v : List ℕ) (ks us : Trees) (b : Bool) → AreDocumentKids b (more (node k m v ks) us) → AreDocumentKids b (more (node k x v ks) us)
roots-named x Document m v ks us b h = h
roots-named x Element m v ks us b h = h
roots-named x Attribute m v ks us b h = h
roots-named x Text m v ks us b h = h
roots-named x Comment m v ks us b h = h
roots-named x Instruction m v ks us b h = h

kids-named : (x : List ℕ) (front : Trees) (k : Kind) (m v : List ℕ) (ks us : Trees) → MayBeNamed x k front us → (b : Bool) → AreElementKids b (more (node k m v ks) us) → AreElementKids b (more (node k x v ks) us)
kids-named x front Document m v ks us may b h = h
kids-named x front Element m v ks us may b h = h
kids-named x front Attribute m v ks us may b h = (h.0, may.1, h.2)
kids-named x front Text m v ks us may b h = h
kids-named x front Comment m v ks us may b h = h
kids-named x front Instruction m v ks us may b h = h

attribute-new : (x : List ℕ) (k : Kind) (front us : Trees) → MayBeNamed x k front us → k ≡ Attribute → IsNew x front
attribute-new x Attribute front us may e = may.0
attribute-new x Document front us may e = cc
attribute-new x Element front us may e = absurd (let f : Element ≡ Attribute = e in no f)
  where
    no : Element ≡ Attribute → ⊥
    no f = absurd cc
attribute-new x Text front us may e = absurd may
attribute-new x Comment front us may e = absurd may
attribute-new x Instruction front us may e = absurd (no e)
  where
    no : Instruction ≡ Attribute → ⊥
    no f = absurd cc

apart-named : (x : List ℕ) (front : Trees) (k : Kind) (m v : List ℕ) (ks us : Trees) → (k ≡ Attribute → IsNew x front) → AreApart front (more (node k m v ks) us) → AreApart front (more (node k x v ks) us)
apart-named x none k m v ks us new a = tt
apart-named x (more (node j n w ls) ss) k m v ks us new a =
    ((λ e. ((λ f g. (new f).0 e (sym g)), (a.0 e).1)), apart-named x ss k m v ks us (λ f. (new f).1) a.1)

name-lawful : (x : List ℕ) (k : Kind) (front us : Trees) → MayBeNamed x k front us → IsName x → IsLawfulName k x
name-lawful x Document front us may h = absurd may
name-lawful x Element front us may h = h
name-lawful x Attribute front us may h = h
name-lawful x Text front us may h = absurd may
name-lawful x Comment front us may h = absurd may
name-lawful x Instruction front us may h = may

pub keeps-named : (x : List ℕ) (L : Kind) (front : Trees) (t : Tree) (us : Trees) → MayBeNamed x (kind_of t) front us → IsName x → KeepsAt (with_first (with_name x)) L front (more t us)
keeps-named x L front (node k m v ks) us may h a l = (
  keeps-kids L front (more (node k m v ks) us) (more (node k x v ks) us) (λ e. cc) (λ e b. roots-named x k m v ks us b) (λ b. kids-named x front k m v ks us may b)
      (apart-named x front k m v ks us (attribute-new x k front us may)) a,
  (((name-lawful x k front us may h, l.0.0.1), l.0.1, l.0.2), l.1),
)

-- an attribute that is set keeps the names apart
new-with : (n name value : List ℕ) (ks : Trees) → n ≢ name → IsNew n ks → IsNew n (with_attribute name value ks)
new-with n name value none o h = ((λ e. o), tt)
new-with n name value (more (node Document m v ks) ts) o h = ((λ e. o), h)
new-with n name value (more (node Element m v ks) ts) o h = ((λ e. o), h)
new-with n name value (more (node Text m v ks) ts) o h = ((λ e. o), h)
new-with n name value (more (node Comment m v ks) ts) o h = ((λ e. o), h)
new-with n name value (more (node Instruction m v ks) ts) o h = ((λ e. o), h)
new-with n name value (more (node Attribute m v ks) ts) o h = by_test (bytes_eq m name) (new-with n name value ts o h.1)
  where
    by_test : (b : Bool) → IsNew n (with_attribute name value ts) → IsNew n (if b then (more (node Attribute m value ks) ts) else more (node Attribute m v ks) (with_attribute name value ts))
    by_test true r = (h.0, h.1)
    by_test false r = (h.0, r)

abbrev AreLawfulKids : Trees → Type 0
AreLawfulKids ks = AreElementKids true ks × AreLawfulTrees ks

module _ (name value : List ℕ) (is : IsName name) (text : AreChars value) where
  before-others : (k : Kind) (m v : List ℕ) (ks ts : Trees) → (k ≡ Attribute → ⊥) → AreLawfulKids (more (node k m v ks) ts) → AreLawfulKids (more (node Attribute name value none) (more (node k m v ks) ts))
  before-others k m v ks ts o l =
      let all : Trees = more (node k m v ks) ts in
      ((refl, no-attributes-new name all (strengthen true k m v ks ts o l.0), l.0), (((is, text), refl, tt), l.1))

  with-lawful : (ks : Trees) → AreLawfulKids ks → AreLawfulKids (with_attribute name value ks)
  with-lawful none l = ((refl, tt, tt), (((is, text), refl, tt), tt))
  with-lawful (more (node Document m v ks) ts) l = before-others Document m v ks ts (λ e. cc) l
  with-lawful (more (node Element m v ks) ts) l = before-others Element m v ks ts (λ e. cc) l
  with-lawful (more (node Text m v ks) ts) l = before-others Text m v ks ts (λ e. cc) l
  with-lawful (more (node Comment m v ks) ts) l = before-others Comment m v ks ts (λ e. cc) l
  with-lawful (more (node Instruction m v ks) ts) l = before-others Instruction m v ks ts (λ e. cc) l
  with-lawful (more (node Attribute m v ks) ts) l = by_test (bytes_eq m name) refl (with-lawful ts (l.0.2, l.1.1))
    where
      by_test : (b : Bool) → bytes_eq m name ≡ b → AreLawfulKids (with_attribute name value ts)
          → AreLawfulKids (if b then (more (node Attribute m value ks) ts) else more (node Attribute m v ks) (with_attribute name value ts))
      by_test true e r = (l.0, (((l.1.0.0.0, text), l.1.0.1, l.1.0.2), l.1.1))
      by_test false e r =
          let other : m ≢ name = λ f. absurd (true≢false (sym ((bytes_eq-Decides m name).1 f) ∙ e)) in
          ((l.0.0, new-with m name value ts other l.0.1, r.0), (l.1.0, r.1))

  pub keeps-attribute : (L : Kind) (front : Trees) (t : Tree) (us : Trees) → kind_of t ≡ Element → KeepsAt (with_first (with_kids (with_attribute name value))) L front (more t us)
  keeps-attribute L front (node k m v ks) us e a l =
      let r = with-lawful ks (subst (λ K. AreKids K ks) e l.0.1, l.0.2) in
      (keeps-first L front k m v v ks (with_attribute name value ks) us a, ((l.0.0, subst (λ K. AreKids K (with_attribute name value ks)) (sym e) r.0, r.1), l.1))

-- two texts that become one
not-empty : (v w : List ℕ) → v ≢ [] → (v ++ w) ≢ []
not-empty [] w h e = h refl
not-empty (c ∷ cs) w h e = cc

same-there : (L : Kind) (front us vs : Trees) → vs ≡ us → AreKids L (chained more front us) → AreLawfulTrees us → AreKids L (chained more front vs) × AreLawfulTrees vs
same-there L front us vs e a l = subst (λ xs. AreKids L (chained more front xs) × AreLawfulTrees xs) (sym e) (a, l)

keeps-text : (L : Kind) (front : Trees) (m v : List ℕ) (ks us : Trees) → KeepsAt joined_first L front (more (node Text m v ks) us)
keeps-text L front m v ks none a l = same-there L front (more (node Text m v ks) none) (join_front (node Text m v ks) none) (join-apart (node Text m v ks) none refl) a l
keeps-text L front m v ks (more (node Document n w ls) ts) a l = let us : Trees = more (node Document n w ls) ts in same-there L front (more (node Text m v ks) us) (join_front (node Text m v ks) us) (join-apart (node Text m v ks) us refl) a l
keeps-text L front m v ks (more (node Element n w ls) ts) a l = let us : Trees = more (node Element n w ls) ts in same-there L front (more (node Text m v ks) us) (join_front (node Text m v ks) us) (join-apart (node Text m v ks) us refl) a l
keeps-text L front m v ks (more (node Attribute n w ls) ts) a l = let us : Trees = more (node Attribute n w ls) ts in same-there L front (more (node Text m v ks) us) (join_front (node Text m v ks) us) (join-apart (node Text m v ks) us refl) a l
keeps-text L front m v ks (more (node Comment n w ls) ts) a l = let us : Trees = more (node Comment n w ls) ts in same-there L front (more (node Text m v ks) us) (join_front (node Text m v ks) us) (join-apart (node Text m v ks) us refl) a l
keeps-text L front m v ks (more (node Instruction n w ls) ts) a l = let us : Trees = more (node Instruction n w ls) ts in same-there L front (more (node Text m v ks) us) (join_front (node Text m v ks) us) (join-apart (node Text m v ks) us refl) a l
keeps-text L front m v ks (more (node Text n w ls) ts) a l =
    let us : Trees = more (node Text m v ks) (more (node Text n w ls) ts) in (
      keeps-kids L front us (more (node Text m (v ++ w) ks) ts) (λ e. cc) (λ e b h. absurd h) (λ b h. h) (apart-alike front us (more (node Text m (v ++ w) ks) ts) (λ n h. (h.0, h.1.1))) a,
      (((l.0.0.0, (more-chars v w l.0.0.1.0 l.1.0.0.1.0, not-empty v w l.0.0.1.1)), l.0.1, l.0.2), l.1.1),
    )

pub keeps-joined : (L : Kind) (front : Trees) (t : Tree) (us : Trees) → KeepsAt joined_first L front (more t us)
keeps-joined L front (node Text m v ks) us a l = keeps-text L front m v ks us a l
keeps-joined L front (node Document m v ks) us a l = (a, l)
keeps-joined L front (node Element m v ks) us a l = (a, l)
keeps-joined L front (node Attribute m v ks) us a l = (a, l)
keeps-joined L front (node Comment m v ks) us a l = (a, l)
keeps-joined L front (node Instruction m v ks) us a l = (a, l)
