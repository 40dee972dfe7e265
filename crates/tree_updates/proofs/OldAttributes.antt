-- The value of an attribute that an element has.
use Rattle.std.proofs.Common.{◌≡◌, ℕ, zero, suc, ◌+◌, ◌<◌, ◌^◌, List, [], ◌∷◌, take, true, false, refl, ap, sym, ◌∙◌, subst, arith, inl, inr, Some, length-append}
use Rattle.std.specs.Prelude.{Result, Ok, Err}
use Rattle.std.proofs.Math.Bool.{true≢false}
use Rattle.std.proofs.lemmas.Nat.{mul-le}
use Rattle.std.proofs.lemmas.Option.{same_Some}
use Rattle.plain_tree.specs.declared.edit.Edit.TheVariants.{Attr, Value}
use Rattle.plain_tree.specs.declared.kind.Kind.TheVariants.{Document, Element, Attribute, Text, Comment, Instruction}
use Rattle.plain_tree.specs.Allowed.{IsAllowed, MayHaveValue}
use Rattle.plain_tree.specs.EditLaws.{IsEditOf}
use Rattle.plain_tree.specs.Edits.{chained, edited, first_or, merged}
use Rattle.plain_tree.specs.Lawful.{AreLawfulTrees}
use Rattle.plain_tree.specs.NodePairs.{Pair}
use Rattle.plain_tree.specs.Numbers.{kind_of, texts_all}
use Rattle.plain_tree.specs.Siblings.{first_kids, from_node}
use Rattle.plain_tree.specs.Tree.{Tree, node, Trees, none, more, node_count, node_count_all}
use Rattle.plain_tree.proofs.EditCounts.{edits-are-counted}
use Rattle.plain_tree.proofs.PlainEdits.{valued_at}
use Rattle.slt_grammar.specs.Grammars.{size}
use Rattle.slt_grammar.specs.Keyed.{rules_of}
use Rattle.slt_grammar.proofs.Standing.{own}
use Rattle.fcns_encoding.specs.Interning.{Interns, IsIn}
use Rattle.fcns_encoding.proofs.InternLemmas.{is_in}
use Rattle.preorder_address.specs.TreeNumbers.{text_rank_at}
use Rattle.tree_updates.specs.ElementAttributes.{IsAttributePlace, IsNextAttribute}
use Rattle.tree_updates.specs.Stores.{Applies, IsEdited, IsRefused, IsStoreFor, NamesAfter}
use Rattle.tree_updates.specs.declared.kid_attributes.AttributePlace.{AttributePlace}
use Rattle.tree_updates.specs.declared.store.EditError.{EditError}
use Rattle.tree_updates.specs.declared.store.EditError.TheVariants.{NoNode, NotAllowed, TooMany, Memory}
use Rattle.tree_updates.specs.declared.store.Store.{Store}
use Rattle.tree_updates.proofs.AttributeNames.{unnamed-kids}
use Rattle.tree_updates.proofs.AttributePlaces.{attribute-texts, element, element-low, its-kind, kids-split, lawful-kids, no-own}
use Rattle.tree_updates.proofs.AttributeNumbers.{place-has}
use Rattle.tree_updates.proofs.Attributes.{attr-old}
use Rattle.tree_updates.proofs.NodePlaces.{placed as place-of-node, allowed-there}
use Rattle.tree_updates.proofs.Ranks.{rank-inside, rank-told}
use Rattle.tree_updates.proofs.StoreSteps.{OldAttribute, attribute-here, here-kids, low-at}
use Rattle.tree_updates.proofs.Texts.{rank_in}

same-kind : (r s : Tree) (us vs : Trees) → more r us ≡ more s vs → kind_of r ≡ kind_of s
same-kind r s us vs e = let f : r ≡ s = cc in ap kind_of f

abbrev no-pairs : List Pair
no-pairs = []

take-none : (k : ℕ) → take k no-pairs ≡ []
take-none zero = refl
take-none (suc k) = refl

module _ (s : Store) (t : Tree) (i : IsStoreFor s t) (n : ℕ) (name value : List ℕ) (edit : IsEditOf t (Attr n name value)) (p : AttributePlace)
    (h : IsAttributePlace name (first_kids (from_node n (more t none))) p) (found : p.found ≡ true) where
  old-there : (o : OldAttribute (element t n name value edit).kids name) × (o.before ≡ h.front)
  old-there = by_behind h.behind h.next (kids-split t n name value edit p h)
    where
      never : {P : Type 0} → p.found ≡ false → P
      never e = absurd (true≢false (sym found ∙ e))

      by_behind : (us : Trees) → IsNextAttribute name us p.found → (element t n name value edit).kids ≡ chained more h.front us → (o : OldAttribute (element t n name value edit).kids name) × (o.before ≡ h.front)
      by_behind none e k = never e
      by_behind (more (node Attribute m v ks) us) e k = (
        record {
          before = h.front;
          content = v;
          below = ks;
          behind = us;
          is = k ∙ ap (λ (x : List ℕ). chained more h.front (more (node Attribute x v ks) us)) e.0;
          others = h.others;
        },
        refl,
      )
      by_behind (more (node Document m v ks) us) e k = never e
      by_behind (more (node Element m v ks) us) e k = never e
      by_behind (more (node Text m v ks) us) e k = never e
      by_behind (more (node Comment m v ks) us) e k = never e
      by_behind (more (node Instruction m v ks) us) e k = never e

  abbrev old : OldAttribute (element t n name value edit).kids name
  old = old-there.0

  low : n < node_count t
  low = element-low t n name value edit

  number-is : n + 1 + p.before ≡ n + suc (node_count_all old.before)
  number-is = omega (arith, h.before, ap node_count_all old-there.1)

  there : from_node (n + 1 + p.before) (more t none) ≡ more (node Attribute name old.content old.below) old.behind
  there = ap (λ (j : ℕ). from_node j (more t none)) number-is ∙ attribute-here n t (element t n name value edit) name old

  value-low : n + 1 + p.before < node_count t
  value-low = omega (arith, low-at (n + 1 + p.before) (more t none) Attribute name old.content old.below old.behind there)

  -- so it is the edit by which that node gets the value
  is-value : edited t (Attr n name value) ≡ edited t (Value (n + 1 + p.before) value)
  is-value =
      let a = element t n name value edit in
      let made = attr-old n (more t none) (omega (arith, low)) a.kind a.name a.content name value old.content old.below old.before old.behind a.behind old.others (here-kids n t a name old) in
      ap (first_or t) made ∙ ap (λ (j : ℕ). first_or t (valued_at value j (more t none))) (sym number-is)

  -- its value is as far behind the texts before the element as it is behind the first attribute
  pub old-rank : (rank : ℕ) → Some rank ≡ text_rank_at t n → Some (rank + p.before) ≡ text_rank_at t (n + 1 + p.before)
  old-rank rank told =
      let a = element t n name value edit in
      let others : Trees = more (node Attribute name old.content old.below) old.behind in
      let rank-is : rank ≡ rank_in n (more t none) = same_Some rank (rank_in n (more t none)) (told ∙ rank-told t n low) in
      let inside = rank-inside n (more t none) (omega (arith, low)) a.kind a.name a.content old.before others a.behind (here-kids n t a name old) in
      let values = attribute-texts name old.before others old.others (subst AreLawfulTrees old.is (lawful-kids t n name value edit)) in
      let its : rank + p.before ≡ rank_in (n + 1 + p.before) (more t none) =
      omega (
        arith,
        rank-is,
        ap (λ (j : ℕ). rank_in j (more t none)) number-is,
        inside,
        length-append (own a.kind a.content) (texts_all old.before),
        no-own a.kind a.content (its-kind t n name value edit),
        values,
        h.before,
        ap node_count_all old-there.1,
      ) in
      ap (λ (i : ℕ). Some i) its ∙ sym (rank-told t (n + 1 + p.before) value-low)

  pub value-allowed : IsAllowed t (Value (n + 1 + p.before) value)
  value-allowed =
      let at = place-of-node t (n + 1 + p.before) value-low in
      let kind : kind_of at.place.here ≡ Attribute = sym (same-kind (node Attribute name old.content old.below) at.place.here old.behind at.place.behind (sym there ∙ at.from)) in
      allowed-there t (Value (n + 1 + p.before) value) at (subst (MayHaveValue value) (sym kind) tt)

  value-edit : IsEditOf t (Value (n + 1 + p.before) value)
  value-edit = record { document_is = edit.document_is; allowed = value-allowed; parts = edit.parts.1 }

  none-merged : merged t (Value (n + 1 + p.before) value) ≡ 0
  none-merged = omega arith

  value-small : node_count (edited t (Value (n + 1 + p.before) value)) < 2 ^ 63
  value-small = omega (arith, edits-are-counted t (Value (n + 1 + p.before) value) value-edit, i.small)

  in-table : IsIn (Attribute, name) s.names
  in-table =
      elim (is_in (Attribute, name) s.names) [
        | inl w ↦ w
        | inr other ↦ absurd (true≢false (sym found ∙ place-has name (first_kids (from_node n (more t none))) p h ∙ unnamed-kids s.names name (λ j e. other (j, e)) n (more t none) (omega (arith, low)) _ i.stand.code))
      ]

  grown : (new : List Pair) → new ≡ s.names → Interns s.names ((Attribute, name) ∷ []) new
  grown new e = inl (in-table, e)

  revalued : (new : Store) → IsEdited t (Value (n + 1 + p.before) value) s new → IsEdited t (Attr n name value) s new
  revalued new x = record {
    allowed = edit.allowed;
    store = subst (IsStoreFor new) (sym is-value) x.store;
    names = grown new.names x.names;
    ranks = x.ranks;
    size =
        let S : ℕ = size (rules_of s.grammar.rules) in
        let M : ℕ = merged t (Attr n name value) in
        let V : ℕ = merged t (Value (n + 1 + p.before) value) in
        omega (arith, x.size, mul-le (2 + V) S (2 + M) S (omega (arith, none-merged)) (omega arith));
  }

  refused : (error : EditError) (new : Store) → IsRefused t (Value (n + 1 + p.before) value) error s new → IsRefused t (Attr n name value) error s new
  refused (NoNode count) new x = absurd (omega (arith, x.cause.1, value-low))
  refused (NotAllowed kind) new x = absurd (x.cause.1 value-allowed)
  refused TooMany new x = absurd (omega (arith, x.cause.1, value-small))
  refused Memory new x = record {
    cause = tt;
    store = x.store;
    rules = x.rules;
    texts = x.texts;
    names = of x.names;
  }
    where
      of : NamesAfter Memory t (Value (n + 1 + p.before) value) s.names new.names → NamesAfter Memory t (Attr n name value) s.names new.names
      of (inl same) = inl same
      of (inr (may, (k, some))) = inl (subst (λ (ps : List Pair). Interns s.names ps new.names) (take-none k) some)

  pub attribute-applies : (result : Result (Unit {0}) EditError) (new : Store) → Applies t (Value (n + 1 + p.before) value) s result new → Applies t (Attr n name value) s result new
  attribute-applies (Ok u) new x = revalued new x
  attribute-applies (Err error) new x = refused error new x
