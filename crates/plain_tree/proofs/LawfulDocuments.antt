-- A document is a document after an edit that is allowed.
use Rattle.std.proofs.Common.{◌≡◌, ℕ, zero, suc, ◌-◌, ◌<◌, List, false, refl, ap, sym, ◌∙◌, subst, arith, Option, Some, None, inl, inr}
use Rattle.std.specs.Prelude.{MatchOption}
use Rattle.std.proofs.lemmas.Bool.{cases_lt}
use Rattle.plain_tree.specs.declared.kind.Kind.{Kind}
use Rattle.plain_tree.specs.declared.kind.Kind.TheVariants.{Document, Element, Attribute, Text, Comment, Instruction}
use Rattle.plain_tree.specs.Joined.{join_front}
use Rattle.plain_tree.specs.Lawful.{AreKids, IsOfKind, IsDocument, IsFragment}
use Rattle.plain_tree.specs.Numbers.{kind_of}
use Rattle.plain_tree.specs.Tree.{Tree, node, Trees, none, more, trees, node_count, node_count_all}
use Rattle.plain_tree.specs.Edits.{number_of, changed, chained, with_first, with_kids, with_name, with_value, with_attribute, others, alone, made, placed, first_or}
use Rattle.plain_tree.specs.Siblings.{joined_first, joined_at}
use Rattle.plain_tree.specs.Allowed.{MayBeNamed, MayHaveValue, MayStandUnder, IsAllowed, IsAllowedAt, AreLawfulParts}
use Rattle.plain_tree.specs.Places.{Place, place_in, place_at}
use Rattle.plain_tree.specs.declared.edit.Edit.{Edit}
use Rattle.plain_tree.specs.declared.edit.Edit.TheVariants.{Rename, Insert, Append, Delete, Value, Attr, Copy}
use Rattle.plain_tree.proofs.Changing.{changed-inside, if-from}
use Rattle.plain_tree.proofs.KidLaws.{aside-behind}
use Rattle.plain_tree.proofs.LawfulEdits.{KeepsAt, place-inside, lawful-chained, stays-lawful, keeps-others, keeps-inserted, keeps-copied, keeps-valued, keeps-appended, keeps-named, keeps-attribute, keeps-joined}

-- the number of a place is a node's
pub place-low : (above : Option Kind) (before : Trees) (n : ℕ) (ts : Trees) (p : Place) → place_in above before n ts ≡ Some p → n < node_count_all ts
place-low above before n none p e = cc
place-low above before zero (more (node k m v ks) ts) p e = omega arith
place-low above before (suc n) (more (node k m v ks) ts) p e =
    elim (cases_lt n (node_count_all ks)) [
      | inl low ↦ omega arith
      | inr high ↦
          let front : Trees = chained more before (more (node k m v ks) none) in
          let there : place_in above front (n - node_count_all ks) ts ≡ Some p = sym (if-from n (node_count_all ks) (place_in (Some k) none n ks) (place_in above front (n - node_count_all ks) ts) high) ∙ e in
          omega (arith, place-low above front (n - node_count_all ks) ts p there)
    ]

-- an edit that is allowed has a place
pub record Stands (t : Tree) (e : Edit) : Type 0 where
  pub place : Place
  pub there : place_at t (number_of e) ≡ Some place
  pub allowed : IsAllowedAt e place

pub stands : (t : Tree) (e : Edit) → IsAllowed t e → Stands t e
stands t e = from (place_at t (number_of e)) refl
  where
    from : (o : Option Place) → place_at t (number_of e) ≡ o → MatchOption o ⊥ (IsAllowedAt e) → Stands t e
    from None is h = absurd h
    from (Some p) is h = record { place = p; there = is; allowed = h }

one-place : (p q : Place) → Some p ≡ Some q → p ≡ q
one-place p q e = cc

-- a change below the document, of what may be changed there
pub record BecomesDocument (ts : Trees) : Type 0 where
  pub tree : Tree
  pub is : ts ≡ more tree none
  pub document : IsDocument tree

pub becomes : (f : Trees → Trees) (i : ℕ) (t : Tree) → IsDocument t → suc i < node_count t
    → ((L : Kind) (front : Trees) (s : Tree) (us : Trees) → place_at t (suc i) ≡ Some (record { above = Some L; before = front; here = s; behind = us }) → KeepsAt f L front (more s us))
    → BecomesDocument (changed more f (suc i) (more t none))
becomes f i (node k m v ks) d low keeps =
    let inside : i < node_count_all ks = omega arith in
    let r = stays-lawful f i ks inside k none d.lawful.1 d.lawful.2 (λ L front s us e. keeps L front s us (place-inside None none k m v ks none i inside ∙ e)) in
    record {
      tree = node k m v (changed more f i ks);
      is = changed-inside more f k m v ks none i inside;
      document = record { is_document = d.is_document; lawful = (d.lawful.0, r.0, r.1) };
    }

-- where texts are joined it stays a document
pub joined-document : (ts : Trees) (a : ℕ) → BecomesDocument ts → a < node_count_all ts → BecomesDocument (joined_at a ts)
joined-document ts a b low = subst (λ us. BecomesDocument (joined_at a us)) (sym b.is) (by_number a b.tree b.document (let n = ap node_count_all b.is in omega (arith, n)))
  where
    by_number : (a : ℕ) (t : Tree) → IsDocument t → a < node_count t → BecomesDocument (joined_at a (more t none))
    by_number zero (node k m v ks) d low = record { tree = node k m v ks; is = stays k d.is_document; document = d }
      where
        stays : (k : Kind) → k ≡ Document → join_front (node k m v ks) none ≡ more (node k m v ks) none
        stays Document e = refl
        stays Element e = refl
        stays Attribute e = refl
        stays Text e = cc
        stays Comment e = refl
        stays Instruction e = refl
    by_number (suc i) t d low = becomes joined_first i t d low (λ L front s us e. keeps-joined L front s us)

module _ (t : Tree) (d : IsDocument t) where
  is-document : kind_of t ≡ Document
  is-document = of t d.is_document
    where
      of : (t : Tree) → IsOfKind Document t → kind_of t ≡ Document
      of (node k m v ks) e = e

  -- the place of the document itself
  pub root-place : (p : Place) → place_at t 0 ≡ Some p → p ≡ record { above = None; before = none; here = t; behind = none }
  root-place p e = sym (one-place (record { above = None; before = none; here = t; behind = none }) p e)

  at-root : (e : Edit) (p : Place) → place_at t 0 ≡ Some p → IsAllowedAt e p → IsAllowedAt e (record { above = None; before = none; here = t; behind = none })
  at-root e p is h = subst (IsAllowedAt e) (root-place p is) h

  low-place : (n : ℕ) (p : Place) → place_at t n ≡ Some p → n < node_count t
  low-place n p e = omega (arith, place-low None none n (more t none) p e)

  -- what is allowed at the place is allowed there
  at-place : (e : Edit) (n : ℕ) (p : Place) → place_at t n ≡ Some p → IsAllowedAt e p → (L : Kind) (front : Trees) (s : Tree) (us : Trees)
      → place_at t n ≡ Some (record { above = Some L; before = front; here = s; behind = us }) → IsAllowedAt e (record { above = Some L; before = front; here = s; behind = us })
  at-place e n p is h L front s us there = subst (IsAllowedAt e) (one-place p (record { above = Some L; before = front; here = s; behind = us }) (sym is ∙ there)) h

  no-root-name : (x : List ℕ) → MayBeNamed x (kind_of t) none none → ⊥
  no-root-name x h = subst (λ K. MayBeNamed x K none none) is-document h

  no-root-value : (w : List ℕ) → MayHaveValue w (kind_of t) → ⊥
  no-root-value w h = subst (MayHaveValue w) is-document h

  no-root-element : kind_of t ≡ Element → ⊥
  no-root-element h = let e : Document ≡ Element = sym is-document ∙ h in absurd cc

  append-root : (F : Trees) → MayStandUnder (kind_of t) F → IsFragment F → BecomesDocument (with_first (with_kids (λ kids. chained more kids F)) (more t none))
  append-root F may fragment = of t d may
    where
      of : (t : Tree) → IsDocument t → MayStandUnder (kind_of t) F → BecomesDocument (with_first (with_kids (λ kids. chained more kids F)) (more t none))
      of (node k m v ks) d may = record {
        tree = node k m v (chained more ks F);
        is = refl;
        document = record {
          is_document = d.is_document;
          lawful = (
            d.lawful.0,
            subst (λ K. AreKids K (chained more ks F)) (sym d.is_document) (aside-behind false ks F (subst (λ K. AreKids K ks) d.is_document d.lawful.1) (subst (λ K. MayStandUnder K F) d.is_document may)),
            lawful-chained ks F d.lawful.2 fragment.1.1,
          );
        };
      }

  pub placed-becomes : (e : Edit) → IsAllowed t e → AreLawfulParts e → BecomesDocument (made more e (more t none))
  placed-becomes e allowed parts = of e (stands t e allowed) parts
    where
      of : (e : Edit) → Stands t e → AreLawfulParts e → BecomesDocument (made more e (more t none))
      of (Rename zero x) s parts = absurd (no-root-name x (at-root (Rename zero x) s.place s.there s.allowed))
      of (Rename (suc i) x) s parts =
          becomes (with_first (with_name x)) i t d (low-place (suc i) s.place s.there) (λ L front r us e. keeps-named x L front r us (at-place (Rename (suc i) x) (suc i) s.place s.there s.allowed L front r us e) parts)
      of (Insert zero F) s parts = absurd ((at-root (Insert zero F) s.place s.there s.allowed).1)
      of (Insert (suc i) F) s parts =
          becomes (chained more (trees F)) i t d (low-place (suc i) s.place s.there)
          (λ L front r us e. let h = at-place (Insert (suc i) F) (suc i) s.place s.there s.allowed L front r us e in keeps-inserted (trees F) L front r us h.0 h.1 parts)
      of (Append zero F) s parts = append-root (trees F) (at-root (Append zero F) s.place s.there s.allowed) parts
      of (Append (suc i) F) s parts =
          becomes (with_first (with_kids (λ kids. chained more kids (trees F)))) i t d (low-place (suc i) s.place s.there)
          (λ L front r us e. keeps-appended (trees F) L front r us (at-place (Append (suc i) F) (suc i) s.place s.there s.allowed L front r us e) parts)
      of (Delete zero) s parts = absurd (at-root (Delete zero) s.place s.there s.allowed)
      of (Delete (suc i)) s parts =
          becomes others i t d (low-place (suc i) s.place s.there) (λ L front r us e. keeps-others L front r us (at-place (Delete (suc i)) (suc i) s.place s.there s.allowed L front r us e))
      of (Value zero w) s parts = absurd (no-root-value w (at-root (Value zero w) s.place s.there s.allowed))
      of (Value (suc i) w) s parts =
          becomes (with_first (with_value w)) i t d (low-place (suc i) s.place s.there) (λ L front r us e. keeps-valued w L front r us (at-place (Value (suc i) w) (suc i) s.place s.there s.allowed L front r us e) parts)
      of (Attr zero x w) s parts = absurd (no-root-element (at-root (Attr zero x w) s.place s.there s.allowed))
      of (Attr (suc i) x w) s parts =
          becomes (with_first (with_kids (with_attribute x w))) i t d (low-place (suc i) s.place s.there)
          (λ L front r us e. keeps-attribute x w parts.0 parts.1 L front r us (at-place (Attr (suc i) x w) (suc i) s.place s.there s.allowed L front r us e))
      of (Copy zero) s parts = absurd ((at-root (Copy zero) s.place s.there s.allowed).1)
      of (Copy (suc i)) s parts =
          becomes (λ us. chained more (alone us) us) i t d (low-place (suc i) s.place s.there)
          (λ L front r us e. let h = at-place (Copy (suc i)) (suc i) s.place s.there s.allowed L front r us e in keeps-copied L front r us h.0 h.1)

  -- the list of the document after the edit has it alone
  pub placed-alone : (e : Edit) → IsAllowed t e → AreLawfulParts e → (made more e (more t none) ≡ more (placed t e) none) × IsDocument (placed t e)
  placed-alone e allowed parts =
      let b = placed-becomes e allowed parts in
      let same : placed t e ≡ b.tree = ap (first_or t) b.is in
      (b.is ∙ ap (λ s. more s none) (sym same), subst IsDocument (sym same) b.document)
