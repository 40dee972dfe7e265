-- Where no texts are neighbours, none are after an edit.
use Rattle.std.proofs.Common.{◌≡◌, ℕ, zero, suc, ◌+◌, ◌-◌, ◌<◌, ◌≤◌, List, Bool, true, false, refl, ap, sym, ◌∙◌, subst, arith, inl, inr, None}
use Rattle.std.specs.Prelude.{if◌then◌else◌}
use Rattle.std.specs.Str.{bytes_eq}
use Rattle.std.proofs.lemmas.Bool.{cases_lt}
use Rattle.plain_tree.specs.declared.kind.Kind.{Kind}
use Rattle.plain_tree.specs.declared.kind.Kind.TheVariants.{Document, Element, Attribute, Text, Comment, Instruction}
use Rattle.plain_tree.specs.Joined.{join_front, behind_text, joined, joined_all}
use Rattle.plain_tree.specs.Lawful.{IsDocument}
use Rattle.plain_tree.specs.Tree.{Tree, node, Trees, none, more, trees, node_count, node_count_all}
use Rattle.plain_tree.specs.Edits.{number_of, changed, before, chained, with_first, with_kids, with_name, with_value, with_attribute, others, alone, made, edited}
use Rattle.plain_tree.specs.Allowed.{IsAllowed, AreLawfulParts}
use Rattle.plain_tree.specs.declared.edit.Edit.{Edit}
use Rattle.plain_tree.specs.declared.edit.Edit.TheVariants.{Rename, Insert, Append, Delete, Value, Attr, Copy}
use Rattle.plain_tree.specs.EditLaws.{HasJoinedFragment, EditsKeepTextsJoined}
use Rattle.plain_tree.proofs.Changing.{each-node, changed-inside, changed-later, more-later, from_node, from-inside, from-later, if-below, if-from}
use Rattle.plain_tree.proofs.Seams.{join-none}
use Rattle.plain_tree.proofs.SeamTexts.{begins_text, join-apart, begins-joined, begins-chained, begins-first}
use Rattle.plain_tree.proofs.LawfulDocuments.{stands, place-low}
use Rattle.plain_tree.proofs.EditedDocuments.{edited-alone}

-- no text stands just before a text
abbrev pub HaveNoSeams : Trees → Type 0
HaveNoSeams none = Unit {0}
HaveNoSeams (more (node k m v ks) ts) = (k ≡ Text → begins_text ts ≡ false) × HaveNoSeams ks × HaveNoSeams ts

pub join-stays : (k : Kind) (m v : List ℕ) (ks ts : Trees) → (k ≡ Text → begins_text ts ≡ false) → join_front (node k m v ks) ts ≡ more (node k m v ks) ts
join-stays Text m v ks ts h = join-apart (node Text m v ks) ts (h refl)
join-stays Document m v ks ts h = refl
join-stays Element m v ks ts h = refl
join-stays Attribute m v ks ts h = refl
join-stays Comment m v ks ts h = refl
join-stays Instruction m v ks ts h = refl

-- such trees are joined already
pub apart-are-joined : (ts : Trees) → HaveNoSeams ts → joined_all ts ≡ ts
apart-are-joined none h = refl
apart-are-joined (more (node k m v ks) ts) h =
    ap (λ us. join_front (node k m v us) (joined_all ts)) (apart-are-joined ks h.1) ∙ ap (join_front (node k m v ks)) (apart-are-joined ts h.2) ∙ join-stays k m v ks ts h.0

count-front : (t : Tree) (us : Trees) → node_count_all (join_front t us) ≤ node_count t + node_count_all us
count-front (node Document m v ks) us = omega arith
count-front (node Element m v ks) us = omega arith
count-front (node Attribute m v ks) us = omega arith
count-front (node Comment m v ks) us = omega arith
count-front (node Instruction m v ks) us = omega arith
count-front (node Text m v ks) us = omega (arith, behind us)
  where
    behind : (us : Trees) → node_count_all (behind_text us) ≤ node_count_all us
    behind none = omega arith
    behind (more (node Text n w ls) us) = omega arith
    behind (more (node Document n w ls) us) = omega arith
    behind (more (node Element n w ls) us) = omega arith
    behind (more (node Attribute n w ls) us) = omega arith
    behind (more (node Comment n w ls) us) = omega arith
    behind (more (node Instruction n w ls) us) = omega arith

count-joined : (ts : Trees) → node_count_all (joined_all ts) ≤ node_count_all ts
count-joined none = omega arith
count-joined (more (node k m v ks) ts) = omega (arith, count-front (node k m v (joined_all ks)) (joined_all ts), count-joined ks, count-joined ts)

-- and what is joined already has no texts that are neighbours
pub joined-are-apart : (ts : Trees) → joined_all ts ≡ ts → HaveNoSeams ts
joined-are-apart none e = tt
joined-are-apart (more (node k m v ks) ts) e = by_kind k m v (joined-are-apart ks) (joined-are-apart ts) e
  where
    other : (k : Kind) (m v : List ℕ) → (k ≡ Text → ⊥) → (joined_all ks ≡ ks → HaveNoSeams ks) → (joined_all ts ≡ ts → HaveNoSeams ts) → more (node k m v (joined_all ks)) (joined_all ts) ≡ more (node k m v ks) ts
        → HaveNoSeams (more (node k m v ks) ts)
    other k m v o A B e = ((λ f. absurd (o f)), A cc, B cc)

    at-text : (m v : List ℕ) (js : Trees) → node_count_all js ≤ node_count_all ts → joined_all ts ≡ js → (joined_all ks ≡ ks → HaveNoSeams ks) → (joined_all ts ≡ ts → HaveNoSeams ts)
        → join_front (node Text m v (joined_all ks)) js ≡ more (node Text m v ks) ts → HaveNoSeams (more (node Text m v ks) ts)
    at-text m v none c j A B e = let f : none ≡ ts = cc in ((λ _. ap begins_text (sym f)), A cc, B (j ∙ f))
    at-text m v (more (node Text n w ls) js) c j A B e = absurd (let f : js ≡ ts = cc in let n = ap node_count_all f in omega (arith, c, n))
    at-text m v (more (node Document n w ls) js) c j A B e = let f : more (node Document n w ls) js ≡ ts = cc in ((λ _. ap begins_text (sym f)), A cc, B (j ∙ f))
    at-text m v (more (node Element n w ls) js) c j A B e = let f : more (node Element n w ls) js ≡ ts = cc in ((λ _. ap begins_text (sym f)), A cc, B (j ∙ f))
    at-text m v (more (node Attribute n w ls) js) c j A B e = let f : more (node Attribute n w ls) js ≡ ts = cc in ((λ _. ap begins_text (sym f)), A cc, B (j ∙ f))
    at-text m v (more (node Comment n w ls) js) c j A B e = let f : more (node Comment n w ls) js ≡ ts = cc in ((λ _. ap begins_text (sym f)), A cc, B (j ∙ f))
    at-text m v (more (node Instruction n w ls) js) c j A B e = let f : more (node Instruction n w ls) js ≡ ts = cc in ((λ _. ap begins_text (sym f)), A cc, B (j ∙ f))

    by_kind : (k : Kind) (m v : List ℕ) → (joined_all ks ≡ ks → HaveNoSeams ks) → (joined_all ts ≡ ts → HaveNoSeams ts) → join_front (node k m v (joined_all ks)) (joined_all ts) ≡ more (node k m v ks) ts → HaveNoSeams (more (node k m v ks) ts)
    by_kind Text m v A B e = at-text m v (joined_all ts) (count-joined ts) refl A B e
    by_kind Document m v A B e = other Document m v (λ f. cc) A B e
    by_kind Element m v A B e = other Element m v (λ f. cc) A B e
    by_kind Attribute m v A B e = other Attribute m v (λ f. cc) A B e
    by_kind Comment m v A B e = other Comment m v (λ f. cc) A B e
    by_kind Instruction m v A B e = other Instruction m v (λ f. cc) A B e

-- a tree comes before others, one with them where texts meet
pub apart-front : (k : Kind) (m v : List ℕ) (ks us : Trees) → HaveNoSeams ks → HaveNoSeams us → HaveNoSeams (join_front (node k m v ks) us)
apart-front Document m v ks us a b = ((λ e. cc), a, b)
apart-front Element m v ks us a b = ((λ e. cc), a, b)
apart-front Attribute m v ks us a b = ((λ e. cc), a, b)
apart-front Comment m v ks us a b = ((λ e. cc), a, b)
apart-front Instruction m v ks us a b = ((λ e. cc), a, b)
apart-front Text m v ks us a b = by_first us b
  where
    aside : (us : Trees) → begins_text us ≡ false → HaveNoSeams us → HaveNoSeams (join_front (node Text m v ks) us)
    aside us e b = subst HaveNoSeams (sym (join-apart (node Text m v ks) us e)) ((λ _. e), a, b)

    by_first : (us : Trees) → HaveNoSeams us → HaveNoSeams (join_front (node Text m v ks) us)
    by_first none b = aside none refl b
    by_first (more (node Text n w ls) us) b = ((λ _. b.0 refl), a, b.2)
    by_first (more (node Document n w ls) us) b = aside (more (node Document n w ls) us) refl b
    by_first (more (node Element n w ls) us) b = aside (more (node Element n w ls) us) refl b
    by_first (more (node Attribute n w ls) us) b = aside (more (node Attribute n w ls) us) refl b
    by_first (more (node Comment n w ls) us) b = aside (more (node Comment n w ls) us) refl b
    by_first (more (node Instruction n w ls) us) b = aside (more (node Instruction n w ls) us) refl b

pub apart-chained : (ss us : Trees) → HaveNoSeams ss → HaveNoSeams us → HaveNoSeams (chained join_front ss us)
apart-chained none us a b = b
apart-chained (more (node k m v ks) none) us a b = apart-front k m v ks us a.1 b
apart-chained (more (node k m v ks) (more s ss)) us a b = ((λ e. begins-chained s ss us ∙ a.0 e), a.1, apart-chained (more s ss) us a.2 b)

-- trees that change behind their first begin as before
begins-later : (put : Tree → Trees → Trees) → ((t : Tree) (us : Trees) → begins_text (put t us) ≡ begins_text (more t none)) → (f : Trees → Trees) (n : ℕ) (ts : Trees) → begins_text (changed put f (suc n) ts) ≡ begins_text ts
begins-later put first f n none = refl
begins-later put first f n (more (node k m v ks) ts) =
    let yes : Trees = more (node k m v (changed put f n ks)) ts in
    let no : Trees = before put (n - node_count_all ks) (node k m v ks) (changed put f (n - node_count_all ks) ts) in
    elim (cases_lt n (node_count_all ks)) [
      | inl low ↦ ap begins_text (if-below n (node_count_all ks) yes no low) ∙ same k
      | inr high ↦ ap begins_text (if-from n (node_count_all ks) yes no high) ∙ by_distance (n - node_count_all ks)
    ]
  where
    same : (k : Kind) → begins_text (more (node k m v (changed put f n ks)) ts) ≡ begins_text (more (node k m v ks) ts)
    same Document = refl
    same Element = refl
    same Attribute = refl
    same Text = refl
    same Comment = refl
    same Instruction = refl

    by_distance : (d : ℕ) → begins_text (before put d (node k m v ks) (changed put f d ts)) ≡ begins_text (more (node k m v ks) ts)
    by_distance zero = first (node k m v ks) (f ts) ∙ begins-first (node k m v ks) none ts
    by_distance (suc d) = begins-first (node k m v ks) (changed put f (suc d) ts) ts

pub apart-from-node : (n : ℕ) (ts : Trees) → n < node_count_all ts → HaveNoSeams ts → HaveNoSeams (from_node n ts)
apart-from-node = each-node (λ n ts. HaveNoSeams ts → HaveNoSeams (from_node n ts)) (λ t ts h. h) (λ k m v ks ts n h e l. rw (from-inside k m v ks ts n h) (e l.1)) (λ k m v ks ts d h e l. rw (from-later k m v ks ts d) (e l.2))

abbrev StaysApart : (Trees → Trees) → ℕ → Trees → Type 0
StaysApart f n ts = HaveNoSeams ts → HaveNoSeams (f (from_node n ts)) → HaveNoSeams (changed join_front f n ts)

apart-later : (f : Trees → Trees) (k : Kind) (m v : List ℕ) (ks ts : Trees) (d : ℕ) → d < node_count_all ts → StaysApart f d ts → StaysApart f (suc (node_count_all ks + d)) (more (node k m v ks) ts)
apart-later f k m v ks ts zero h r a b =
    let b' = subst (λ us. HaveNoSeams (f us)) (from-later k m v ks ts 0) b in
    subst HaveNoSeams (sym (changed-later join_front f k m v ks ts 0)) (apart-front k m v ks (f ts) a.1 b')
apart-later f k m v ks ts (suc d) h r a b =
    let b' = subst (λ us. HaveNoSeams (f us)) (from-later k m v ks ts (suc d)) b in
    subst HaveNoSeams (sym (changed-later join_front f k m v ks ts (suc d))) ((λ e. begins-later join_front begins-joined f d ts ∙ a.0 e), a.1, r a.2 b')

-- what joins at its front
pub stays-apart : (f : Trees → Trees) (n : ℕ) (ts : Trees) → n < node_count_all ts → StaysApart f n ts
stays-apart f = each-node (StaysApart f) (λ t ts a b. b)
    (λ k m v ks ts n h r a b. subst HaveNoSeams (sym (changed-inside join_front f k m v ks ts n h)) (a.0, r a.1 (subst (λ us. HaveNoSeams (f us)) (from-inside k m v ks ts n h) b), a.2))
    (apart-later f)

abbrev StaysBegun : (Trees → Trees) → ℕ → Trees → Type 0
StaysBegun f n ts = HaveNoSeams ts → HaveNoSeams (f (from_node n ts)) → begins_text (f (from_node n ts)) ≡ begins_text (from_node n ts) → HaveNoSeams (changed more f n ts)

begun-later : (f : Trees → Trees) (k : Kind) (m v : List ℕ) (ks ts : Trees) (d : ℕ) → d < node_count_all ts → StaysBegun f d ts → StaysBegun f (suc (node_count_all ks + d)) (more (node k m v ks) ts)
begun-later f k m v ks ts d h r a b e =
    let i = from-later k m v ks ts d in
    let b' = subst (λ us. HaveNoSeams (f us)) i b in
    let e' = subst (λ us. begins_text (f us) ≡ begins_text us) i e in
    subst HaveNoSeams (sym (more-later f k m v ks ts d)) ((λ t. begins d e' ∙ a.0 t), a.1, r a.2 b' e')
  where
    begins : (d : ℕ) → begins_text (f (from_node d ts)) ≡ begins_text (from_node d ts) → begins_text (changed more f d ts) ≡ begins_text ts
    begins zero e = e
    begins (suc d) e = begins-later more (λ t us. begins-first t us none) f d ts

-- what begins as before
pub stays-begun : (f : Trees → Trees) (n : ℕ) (ts : Trees) → n < node_count_all ts → StaysBegun f n ts
stays-begun f = each-node (StaysBegun f) (λ t ts a b e. b)
    (λ k m v ks ts n h r a b e.
    let i = from-inside k m v ks ts n h in
    subst HaveNoSeams (sym (changed-inside more f k m v ks ts n h)) (a.0, r a.1 (subst (λ us. HaveNoSeams (f us)) i b) (subst (λ us. begins_text (f us) ≡ begins_text us) i e), a.2))
    (begun-later f)

apart-attribute : (name value : List ℕ) (ks : Trees) → HaveNoSeams ks → HaveNoSeams (with_attribute name value ks)
apart-attribute name value none h = ((λ e. cc), tt, tt)
apart-attribute name value (more (node Document m v ks) ts) h = ((λ e. cc), tt, h)
apart-attribute name value (more (node Element m v ks) ts) h = ((λ e. cc), tt, h)
apart-attribute name value (more (node Text m v ks) ts) h = ((λ e. cc), tt, h)
apart-attribute name value (more (node Comment m v ks) ts) h = ((λ e. cc), tt, h)
apart-attribute name value (more (node Instruction m v ks) ts) h = ((λ e. cc), tt, h)
apart-attribute name value (more (node Attribute m v ks) ts) h = by_test (bytes_eq m name) (apart-attribute name value ts h.2)
  where
    by_test : (b : Bool) → HaveNoSeams (with_attribute name value ts) → HaveNoSeams (if b then (more (node Attribute m value ks) ts) else more (node Attribute m v ks) (with_attribute name value ts))
    by_test true r = ((λ e. cc), h.1, h.2)
    by_test false r = ((λ e. cc), h.1, r)

begins-named : (k : Kind) (m n v w : List ℕ) (ks ls us : Trees) → begins_text (more (node k n w ls) us) ≡ begins_text (more (node k m v ks) us)
begins-named Document m n v w ks ls us = refl
begins-named Element m n v w ks ls us = refl
begins-named Attribute m n v w ks ls us = refl
begins-named Text m n v w ks ls us = refl
begins-named Comment m n v w ks ls us = refl
begins-named Instruction m n v w ks ls us = refl

-- the fragment of an edit has no texts that are neighbours
abbrev pub HasFragmentApart : Edit → Type 0
HasFragmentApart (Insert n fragment) = HaveNoSeams (trees fragment)
HasFragmentApart (Append n fragment) = HaveNoSeams (trees fragment)
HasFragmentApart e = Unit {0}

module _ (ts : Trees) (apart : HaveNoSeams ts) where
  -- the first of some siblings becomes another of its kind
  first-apart : (F : Tree → Tree) (n : ℕ) → n < node_count_all ts
      → ((k : Kind) (m v : List ℕ) (ks : Trees) → HaveNoSeams ks → (m' : List ℕ) × (v' : List ℕ) × (ks' : Trees) × (F (node k m v ks) ≡ node k m' v' ks') × HaveNoSeams ks') → HaveNoSeams (changed more (with_first F) n ts)
  first-apart F n low keeps =
      let r = both (from_node n ts) (apart-from-node n ts low apart) in
      stays-begun (with_first F) n ts low apart r.0 r.1
    where
      both : (us : Trees) → HaveNoSeams us → HaveNoSeams (with_first F us) × (begins_text (with_first F us) ≡ begins_text us)
      both none h = (tt, refl)
      both (more (node k m v ks) us) h =
          let r = keeps k m v ks h.1 in
          (subst (λ t. HaveNoSeams (more t us)) (sym r.3) (h.0, r.4, h.2), ap (λ t. begins_text (more t us)) r.3 ∙ begins-named k m r.0 v r.1 ks r.2 us)

  pub made-apart : (e : Edit) → number_of e < node_count_all ts → HasFragmentApart e → HaveNoSeams (made join_front e ts)
  made-apart (Rename n x) low h = first-apart (with_name x) n low (λ k m v ks a. (x, v, ks, refl, a))
  made-apart (Value n w) low h = first-apart (with_value w) n low (λ k m v ks a. (m, w, ks, refl, a))
  made-apart (Attr n x w) low h = first-apart (with_kids (with_attribute x w)) n low (λ k m v ks a. (m, v, with_attribute x w ks, refl, apart-attribute x w ks a))
  made-apart (Append n F) low h = first-apart (with_kids (λ kids. chained join_front kids (trees F))) n low (λ k m v ks a. (m, v, chained join_front ks (trees F), refl, apart-chained ks (trees F) a h))
  made-apart (Insert n F) low h = stays-apart (chained join_front (trees F)) n ts low apart (apart-chained (trees F) (from_node n ts) h (apart-from-node n ts low apart))
  made-apart (Delete n) low h = stays-apart others n ts low apart (gone (from_node n ts) (apart-from-node n ts low apart))
    where
      gone : (us : Trees) → HaveNoSeams us → HaveNoSeams (others us)
      gone none a = tt
      gone (more (node k m v ks) us) a = a.2
  made-apart (Copy n) low h = stays-apart (λ us. chained join_front (alone us) us) n ts low apart (twice (from_node n ts) (apart-from-node n ts low apart))
    where
      twice : (us : Trees) → HaveNoSeams us → HaveNoSeams (chained join_front (alone us) us)
      twice none a = tt
      twice (more (node k m v ks) us) a = apart-front k m v ks (more (node k m v ks) us) a.1 a

one-tree : (t : Tree) → joined_all (more t none) ≡ more (joined t) none
one-tree (node k m v ks) = join-none (node k m v (joined_all ks))

first-tree : (s t : Tree) → more s none ≡ more t none → s ≡ t
first-tree s t e = cc

-- a document in which no texts are neighbours is one still after an edit that is allowed
pub edited-joined : (t : Tree) (e : Edit) → IsDocument t → IsAllowed t e → AreLawfulParts e → HasFragmentApart e → joined t ≡ t → joined (edited t e) ≡ edited t e
edited-joined t e d allowed parts fragment is =
    let r = edited-alone t d e allowed parts in
    let s = stands t e allowed in
    let low = place-low None none (number_of e) (more t none) s.place s.there in
    let apart : HaveNoSeams (more t none) = joined-are-apart (more t none) (one-tree t ∙ ap (λ u. more u none) is) in
    let after : HaveNoSeams (more (edited t e) none) = subst HaveNoSeams r.0 (made-apart (more t none) apart e low fragment) in
    first-tree (joined (edited t e)) (edited t e) (sym (one-tree (edited t e)) ∙ apart-are-joined (more (edited t e) none) after)

fragment-apart : (e : Edit) → HasJoinedFragment e → HasFragmentApart e
fragment-apart (Insert n F) h = joined-are-apart (trees F) h
fragment-apart (Append n F) h = joined-are-apart (trees F) h
fragment-apart (Rename n x) h = tt
fragment-apart (Delete n) h = tt
fragment-apart (Value n w) h = tt
fragment-apart (Attr n x w) h = tt
fragment-apart (Copy n) h = tt

pub stays-joined : EditsKeepTextsJoined
stays-joined t e h fragment = edited-joined t e h.document_is h.allowed h.parts (fragment-apart e fragment)
