-- Each node of a document has a place.
use Rattle.std.proofs.Common.{◌≡◌, ℕ, zero, suc, ◌-◌, ◌<◌, refl, ap, sym, ◌∙◌, subst, arith, append-nil, Option, Some, None, inl, inr}
use Rattle.std.specs.Prelude.{slice_get, option_map, MatchOption}
use Rattle.std.proofs.lemmas.Bool.{cases_lt}
use Rattle.plain_tree.specs.declared.kind.Kind.{Kind}
use Rattle.plain_tree.specs.declared.edit.Edit.{Edit}
use Rattle.plain_tree.specs.Allowed.{IsAllowed, IsAllowedAt}
use Rattle.plain_tree.specs.Edits.{chained, number_of}
use Rattle.plain_tree.specs.Numbers.{nodes, kind_of}
use Rattle.plain_tree.specs.Places.{Place, place_in, place_at}
use Rattle.plain_tree.specs.Siblings.{from_node}
use Rattle.plain_tree.specs.Tree.{Tree, node, Trees, none, more, node_count, node_count_all}
use Rattle.plain_tree.proofs.Changing.{if-below, if-from}
use Rattle.plain_tree.proofs.EditedDocuments.{place-from}
use Rattle.plain_tree.proofs.LawfulDocuments.{stands}
use Rattle.preorder_address.specs.TreeNumbers.{kind_at}
use Rattle.tree_updates.proofs.Numbers.{node-at}

pub some-place : (above : Option Kind) (before : Trees) (n : ℕ) (ts : Trees) → n < node_count_all ts → (p : Place) × (place_in above before n ts ≡ Some p)
some-place above before n none h = absurd (omega arith)
some-place above before zero (more t ts) h = (record { above = above; before = before; here = t; behind = ts }, refl)
some-place above before (suc n) (more (node k m v ks) ts) h =
    let front : Trees = chained more before (more (node k m v ks) none) in
    elim (cases_lt n (node_count_all ks)) [
      | inl low ↦
          let r = some-place (Some k) none n ks low in
          (r.0, if-below n (node_count_all ks) (place_in (Some k) none n ks) (place_in above front (n - node_count_all ks) ts) low ∙ r.1)
      | inr high ↦
          let r = some-place above front (n - node_count_all ks) ts (omega arith) in
          (r.0, if-from n (node_count_all ks) (place_in (Some k) none n ks) (place_in above front (n - node_count_all ks) ts) high ∙ r.1)
    ]

-- where node n stands, and its kind
pub record IsPlaced (t : Tree) (n : ℕ) : Type 0 where
  pub place : Place
  pub there : place_at t n ≡ Some place
  pub from : from_node n (more t none) ≡ more place.here place.behind
  pub kind : kind_at t n ≡ Some (kind_of place.here)

first-same : (s r : Tree) (us vs : Trees) → more s us ≡ more r vs → s ≡ r
first-same s r us vs e = cc

placed-by : (t : Tree) (n : ℕ) → n < node_count t → (p : Place) → place_at t n ≡ Some p → IsPlaced t n
placed-by t n low p e =
    let a = node-at n (more t none) (omega arith) in
    let f = place-from None none n (more t none) p e in
    let same : a.here ≡ p.here = first-same a.here p.here a.behind p.behind (sym a.from_is ∙ f) in
    record {
      place = p;
      there = e;
      from = f;
      kind = ap (option_map kind_of) (ap (λ xs. slice_get xs n) (sym (append-nil (nodes t))) ∙ a.node_is) ∙ ap (λ (s : Tree). Some (kind_of s)) same;
    }

pub placed : (t : Tree) (n : ℕ) → n < node_count t → IsPlaced t n
placed t n low = let r = some-place None none n (more t none) (omega arith) in placed-by t n low r.0 r.1

one-kind : (k l : Kind) → Some k ≡ Some l → k ≡ l
one-kind k l e = cc

-- the kind that is told is that of the node there
pub kind-there : (t : Tree) (n : ℕ) (p : IsPlaced t n) (kind : Kind) → Some kind ≡ kind_at t n → kind_of p.place.here ≡ kind
kind-there t n p kind e = sym (one-kind kind (kind_of p.place.here) (e ∙ p.kind))

-- what is allowed at the place is allowed
pub allowed-there : (t : Tree) (e : Edit) (p : IsPlaced t (number_of e)) → IsAllowedAt e p.place → IsAllowed t e
allowed-there t e p h = subst (λ (o : Option Place). MatchOption o ⊥ (IsAllowedAt e)) (sym p.there) h

one-place : (p q : Place) → Some p ≡ Some q → p ≡ q
one-place p q e = cc

-- and the other way
pub there-allowed : (t : Tree) (e : Edit) (p : IsPlaced t (number_of e)) → IsAllowed t e → IsAllowedAt e p.place
there-allowed t e p h = let s = stands t e h in subst (IsAllowedAt e) (one-place s.place p.place (sym s.there ∙ p.there)) s.allowed
