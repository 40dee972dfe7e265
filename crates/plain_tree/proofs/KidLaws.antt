-- Lists of kids of which the end becomes another.
use Rattle.std.proofs.Common.{◌≡◌, ℕ, List, Bool, true, false, refl, sym, ◌∙◌, subst}
use Rattle.std.proofs.Math.Bool.{true≢false}
use Rattle.plain_tree.specs.declared.kind.Kind.{Kind}
use Rattle.plain_tree.specs.declared.kind.Kind.TheVariants.{Document, Element, Attribute, Text, Comment, Instruction}
use Rattle.plain_tree.specs.Lawful.{IsNew, AreElementKids, AreDocumentKids, AreKids}
use Rattle.plain_tree.specs.Tree.{node, Trees, none, more}
use Rattle.plain_tree.specs.Edits.{chained}
use Rattle.plain_tree.specs.Allowed.{AreAside}
use Rattle.plain_tree.proofs.Changing.{chained-more}

-- the attributes among the first have no names of attributes among the others
abbrev pub AreApart : Trees → Trees → Type 0
AreApart none us = Unit {0}
AreApart (more (node k n v ks) ts) us = (k ≡ Attribute → IsNew n us) × AreApart ts us

pub new-both : (n : List ℕ) (ss us : Trees) → IsNew n (chained more ss us) → IsNew n ss × IsNew n us
new-both n none us h = (tt, h)
new-both n (more (node k m v ks) ss) us h =
    let g = subst (IsNew n) (chained-more (node k m v ks) ss us) h in
    let r = new-both n ss us g.1 in
    ((g.0, r.0), r.1)

pub new-chained : (n : List ℕ) (ss us : Trees) → IsNew n ss → IsNew n us → IsNew n (chained more ss us)
new-chained n none us a b = b
new-chained n (more (node k m v ks) ss) us a b = subst (IsNew n) (sym (chained-more (node k m v ks) ss us)) (a.0, new-chained n ss us a.1 b)

-- behind a node that is no attribute none is
pub no-attributes-new : (n : List ℕ) (ts : Trees) → AreElementKids false ts → IsNew n ts
no-attributes-new n none h = tt
no-attributes-new n (more (node Document m v ks) ts) h = absurd h
no-attributes-new n (more (node Attribute m v ks) ts) h = absurd (true≢false (sym h.0))
no-attributes-new n (more (node Element m v ks) ts) h = ((λ e. cc), no-attributes-new n ts h)
no-attributes-new n (more (node Text m v ks) ts) h = ((λ e. cc), no-attributes-new n ts h)
no-attributes-new n (more (node Comment m v ks) ts) h = ((λ e. cc), no-attributes-new n ts h)
no-attributes-new n (more (node Instruction m v ks) ts) h = ((λ e. cc), no-attributes-new n ts h)

pub apart-from : (ss us : Trees) → AreElementKids false us → AreApart ss us
apart-from none us h = tt
apart-from (more (node k n v ks) ss) us h = ((λ e. no-attributes-new n us h), apart-from ss us h)

-- kids without attributes may come behind attributes too
pub weaken : (b : Bool) (ts : Trees) → AreElementKids false ts → AreElementKids b ts
weaken b none h = tt
weaken b (more (node Document m v ks) ts) h = absurd h
weaken b (more (node Attribute m v ks) ts) h = absurd (true≢false (sym h.0))
weaken b (more (node Element m v ks) ts) h = h
weaken b (more (node Text m v ks) ts) h = h
weaken b (more (node Comment m v ks) ts) h = h
weaken b (more (node Instruction m v ks) ts) h = h

pub strengthen : (b : Bool) (k : Kind) (m v : List ℕ) (ks ts : Trees) → (k ≡ Attribute → ⊥) → AreElementKids b (more (node k m v ks) ts) → AreElementKids false (more (node k m v ks) ts)
strengthen b Document m v ks ts o h = absurd h
strengthen b Attribute m v ks ts o h = absurd (o refl)
strengthen b Element m v ks ts o h = h
strengthen b Text m v ks ts o h = h
strengthen b Comment m v ks ts o h = h
strengthen b Instruction m v ks ts o h = h

-- and those behind the first are kids
pub kids-behind : (b : Bool) (k : Kind) (m v : List ℕ) (ks ts : Trees) → AreElementKids b (more (node k m v ks) ts) → AreElementKids b ts
kids-behind b Document m v ks ts h = absurd h
kids-behind b Attribute m v ks ts h = subst (λ c. AreElementKids c ts) (sym h.0) h.2
kids-behind b Element m v ks ts h = weaken b ts h
kids-behind b Text m v ks ts h = weaken b ts h
kids-behind b Comment m v ks ts h = weaken b ts h
kids-behind b Instruction m v ks ts h = weaken b ts h

pub kids-chained : (b : Bool) (ss us : Trees) → AreElementKids b ss → AreElementKids false us → AreElementKids b (chained more ss us)
kids-chained b none us h u = weaken b us u
kids-chained b (more (node Document m v ks) ss) us h u = absurd h
kids-chained b (more (node Attribute m v ks) ss) us h u =
    subst (AreElementKids b) (sym (chained-more (node Attribute m v ks) ss us)) (h.0, new-chained m ss us h.1 (no-attributes-new m us u), kids-chained true ss us h.2 u)
kids-chained b (more (node Element m v ks) ss) us h u = subst (AreElementKids b) (sym (chained-more (node Element m v ks) ss us)) (kids-chained false ss us h u)
kids-chained b (more (node Text m v ks) ss) us h u = subst (AreElementKids b) (sym (chained-more (node Text m v ks) ss us)) (kids-chained false ss us h u)
kids-chained b (more (node Comment m v ks) ss) us h u = subst (AreElementKids b) (sym (chained-more (node Comment m v ks) ss us)) (kids-chained false ss us h u)
kids-chained b (more (node Instruction m v ks) ss) us h u = subst (AreElementKids b) (sym (chained-more (node Instruction m v ks) ss us)) (kids-chained false ss us h u)

-- the end of an element's kids, and what may stand in its place
pub record EndsKids (b : Bool) (ss us : Trees) : Type 0 where
  pub in_tag : Bool
  pub end : AreElementKids in_tag us
  pub apart : AreApart ss us
  pub others : (vs : Trees) → AreElementKids in_tag vs → AreApart ss vs → AreElementKids b (chained more ss vs)

other-kind : (b : Bool) (k : Kind) (m v : List ℕ) (ks ss us : Trees) → (k ≡ Attribute → ⊥) → ((vs : Trees) → AreElementKids b (more (node k m v ks) vs) ≡ AreElementKids false vs)
    → EndsKids false ss us → EndsKids b (more (node k m v ks) ss) us
other-kind b k m v ks ss us o e r = record {
  in_tag = r.in_tag;
  end = r.end;
  apart = ((λ a. absurd (o a)), r.apart);
  others = λ vs h a.
      let inner : AreElementKids false (chained more ss vs) = r.others vs h a.1 in
      subst (AreElementKids b) (sym (chained-more (node k m v ks) ss vs)) (coe-back (AreElementKids false (chained more ss vs)) (AreElementKids b (more (node k m v ks) (chained more ss vs))) (e (chained more ss vs)) inner);
}
  where
    coe-back : (A B : Type 0) → B ≡ A → A → B
    coe-back A B e x = subst (λ (X : Type 0). X) (sym e) x

pub ends-kids : (b : Bool) (ss us : Trees) → AreElementKids b (chained more ss us) → EndsKids b ss us
ends-kids b none us h = record { in_tag = b; end = h; apart = tt; others = λ vs g a. g }
ends-kids b (more (node Document m v ks) ss) us h = absurd (subst (AreElementKids b) (chained-more (node Document m v ks) ss us) h)
ends-kids b (more (node Attribute m v ks) ss) us h =
    let g = subst (AreElementKids b) (chained-more (node Attribute m v ks) ss us) h in
    let r = ends-kids true ss us g.2 in
    let n = new-both m ss us g.1 in
    record {
      in_tag = r.in_tag;
      end = r.end;
      apart = ((λ e. n.1), r.apart);
      others = λ vs f a. subst (AreElementKids b) (sym (chained-more (node Attribute m v ks) ss vs)) (g.0, new-chained m ss vs n.0 (a.0 refl), r.others vs f a.1);
    }
ends-kids b (more (node Element m v ks) ss) us h = other-kind b Element m v ks ss us (λ e. cc) (λ vs. refl) (ends-kids false ss us (subst (AreElementKids b) (chained-more (node Element m v ks) ss us) h))
ends-kids b (more (node Text m v ks) ss) us h = other-kind b Text m v ks ss us (λ e. cc) (λ vs. refl) (ends-kids false ss us (subst (AreElementKids b) (chained-more (node Text m v ks) ss us) h))
ends-kids b (more (node Comment m v ks) ss) us h = other-kind b Comment m v ks ss us (λ e. cc) (λ vs. refl) (ends-kids false ss us (subst (AreElementKids b) (chained-more (node Comment m v ks) ss us) h))
ends-kids b (more (node Instruction m v ks) ss) us h = other-kind b Instruction m v ks ss us (λ e. cc) (λ vs. refl) (ends-kids false ss us (subst (AreElementKids b) (chained-more (node Instruction m v ks) ss us) h))

-- the end of the document's kids
pub record EndsRoots (b : Bool) (ss us : Trees) : Type 0 where
  pub rooted : Bool
  pub end : AreDocumentKids rooted us
  pub others : (vs : Trees) → AreDocumentKids rooted vs → AreDocumentKids b (chained more ss vs)

pub ends-roots : (b : Bool) (ss us : Trees) → AreDocumentKids b (chained more ss us) → EndsRoots b ss us
ends-roots b none us h = record { rooted = b; end = h; others = λ vs g. g }
ends-roots b (more (node Element m v ks) ss) us h =
    let g = subst (AreDocumentKids b) (chained-more (node Element m v ks) ss us) h in
    let r = ends-roots true ss us g.1 in
    record { rooted = r.rooted; end = r.end; others = λ vs f. subst (AreDocumentKids b) (sym (chained-more (node Element m v ks) ss vs)) (g.0, r.others vs f) }
ends-roots b (more (node Comment m v ks) ss) us h =
    let r = ends-roots b ss us (subst (AreDocumentKids b) (chained-more (node Comment m v ks) ss us) h) in
    record { rooted = r.rooted; end = r.end; others = λ vs f. subst (AreDocumentKids b) (sym (chained-more (node Comment m v ks) ss vs)) (r.others vs f) }
ends-roots b (more (node Instruction m v ks) ss) us h =
    let r = ends-roots b ss us (subst (AreDocumentKids b) (chained-more (node Instruction m v ks) ss us) h) in
    record { rooted = r.rooted; end = r.end; others = λ vs f. subst (AreDocumentKids b) (sym (chained-more (node Instruction m v ks) ss vs)) (r.others vs f) }
ends-roots b (more (node Document m v ks) ss) us h = absurd (subst (AreDocumentKids b) (chained-more (node Document m v ks) ss us) h)
ends-roots b (more (node Attribute m v ks) ss) us h = absurd (subst (AreDocumentKids b) (chained-more (node Attribute m v ks) ss us) h)
ends-roots b (more (node Text m v ks) ss) us h = absurd (subst (AreDocumentKids b) (chained-more (node Text m v ks) ss us) h)

-- comments and instructions may stand before and behind the document's kids
pub aside-before : (b : Bool) (ss us : Trees) → AreAside ss → AreDocumentKids b us → AreDocumentKids b (chained more ss us)
aside-before b none us a h = h
aside-before b (more (node Comment m v ks) ss) us a h = subst (AreDocumentKids b) (sym (chained-more (node Comment m v ks) ss us)) (aside-before b ss us a h)
aside-before b (more (node Instruction m v ks) ss) us a h = subst (AreDocumentKids b) (sym (chained-more (node Instruction m v ks) ss us)) (aside-before b ss us a h)
aside-before b (more (node Document m v ks) ss) us a h = absurd a
aside-before b (more (node Element m v ks) ss) us a h = absurd a
aside-before b (more (node Attribute m v ks) ss) us a h = absurd a
aside-before b (more (node Text m v ks) ss) us a h = absurd a

aside-alone : (ss : Trees) → AreAside ss → AreDocumentKids true ss
aside-alone none a = refl
aside-alone (more (node Comment m v ks) ss) a = aside-alone ss a
aside-alone (more (node Instruction m v ks) ss) a = aside-alone ss a
aside-alone (more (node Document m v ks) ss) a = absurd a
aside-alone (more (node Element m v ks) ss) a = absurd a
aside-alone (more (node Attribute m v ks) ss) a = absurd a
aside-alone (more (node Text m v ks) ss) a = absurd a

pub aside-behind : (b : Bool) (ss us : Trees) → AreDocumentKids b ss → AreAside us → AreDocumentKids b (chained more ss us)
aside-behind b none us h a = subst (λ c. AreDocumentKids c us) (sym h) (aside-alone us a)
aside-behind b (more (node Element m v ks) ss) us h a = subst (AreDocumentKids b) (sym (chained-more (node Element m v ks) ss us)) (h.0, aside-behind true ss us h.1 a)
aside-behind b (more (node Comment m v ks) ss) us h a = subst (AreDocumentKids b) (sym (chained-more (node Comment m v ks) ss us)) (aside-behind b ss us h a)
aside-behind b (more (node Instruction m v ks) ss) us h a = subst (AreDocumentKids b) (sym (chained-more (node Instruction m v ks) ss us)) (aside-behind b ss us h a)
aside-behind b (more (node Document m v ks) ss) us h a = absurd h
aside-behind b (more (node Attribute m v ks) ss) us h a = absurd h
aside-behind b (more (node Text m v ks) ss) us h a = absurd h

no-end : (ss us : Trees) → (us ≡ none → ⊥) → chained more ss us ≡ none → ⊥
no-end none us some e = some e
no-end (more t ss) us some e = let f : more t (chained more ss us) ≡ none = sym (chained-more t ss us) ∙ e in absurd cc

pub apart-alike : (ss us vs : Trees) → ((n : List ℕ) → IsNew n us → IsNew n vs) → AreApart ss us → AreApart ss vs
apart-alike none us vs f a = tt
apart-alike (more (node k n v ks) ss) us vs f a = ((λ e. f n (a.0 e)), apart-alike ss us vs f a.1)

-- What may come to the end of kids: a document's are told by the kinds at their end, an element's by the names of attributes too. No
-- other node has kids.
pub keeps-kids : (K : Kind) (ss us vs : Trees) → (us ≡ none → ⊥) → (K ≡ Document → (b : Bool) → AreDocumentKids b us → AreDocumentKids b vs)
    → ((b : Bool) → AreElementKids b us → AreElementKids b vs) → (AreApart ss us → AreApart ss vs) → AreKids K (chained more ss us) → AreKids K (chained more ss vs)
keeps-kids Document ss us vs some d e a h = let r = ends-roots false ss us h in r.others vs (d refl r.rooted r.end)
keeps-kids Element ss us vs some d e a h = let r = ends-kids true ss us h in r.others vs (e r.in_tag r.end) (a r.apart)
keeps-kids Attribute ss us vs some d e a h = absurd (no-end ss us some h)
keeps-kids Text ss us vs some d e a h = absurd (no-end ss us some h)
keeps-kids Comment ss us vs some d e a h = absurd (no-end ss us some h)
keeps-kids Instruction ss us vs some d e a h = absurd (no-end ss us some h)

-- kids are told by their kinds and names
pub same-roots : (k : Kind) (m v w : List ℕ) (ks ls ts : Trees) (b : Bool) → AreDocumentKids b (more (node k m v ks) ts) → AreDocumentKids b (more (node k m w ls) ts)
same-roots Document m v w ks ls ts b h = h
same-roots Element m v w ks ls ts b h = h
same-roots Attribute m v w ks ls ts b h = h
same-roots Text m v w ks ls ts b h = h
same-roots Comment m v w ks ls ts b h = h
same-roots Instruction m v w ks ls ts b h = h

pub same-kids : (k : Kind) (m v w : List ℕ) (ks ls ts : Trees) (b : Bool) → AreElementKids b (more (node k m v ks) ts) → AreElementKids b (more (node k m w ls) ts)
same-kids Document m v w ks ls ts b h = h
same-kids Element m v w ks ls ts b h = h
same-kids Attribute m v w ks ls ts b h = h
same-kids Text m v w ks ls ts b h = h
same-kids Comment m v w ks ls ts b h = h
same-kids Instruction m v w ks ls ts b h = h

pub keeps-first : (K : Kind) (ss : Trees) (k : Kind) (m v w : List ℕ) (ks ls ts : Trees) → AreKids K (chained more ss (more (node k m v ks) ts)) → AreKids K (chained more ss (more (node k m w ls) ts))
keeps-first K ss k m v w ks ls ts =
    keeps-kids K ss (more (node k m v ks) ts) (more (node k m w ls) ts) (λ e. cc) (λ e b. same-roots k m v w ks ls ts b) (λ b. same-kids k m v w ks ls ts b)
    (apart-alike ss (more (node k m v ks) ts) (more (node k m w ls) ts) (λ n h. h))
