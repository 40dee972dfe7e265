-- The edit attr: a value of an old attribute, or a new one behind the others.
use Rattle.std.proofs.Common.{◌≡◌, ℕ, suc, ◌+◌, ◌<◌, List, [], ◌∷◌, ◌++◌, length, Bool, true, false, refl, ap, sym, ◌∙◌, arith, append_assoc, length-append}
use Rattle.std.specs.Prelude.{if◌then◌else◌}
use Rattle.std.specs.List.{insert_slice}
use Rattle.std.specs.Str.{bytes_eq}
use Rattle.std.proofs.Math.Bool.{true≢false}
use Rattle.std.proofs.lemmas.Slice.Eq.{bytes_eq-Decides}
use Rattle.plain_tree.specs.declared.kind.Kind.{Kind}
use Rattle.plain_tree.specs.declared.kind.Kind.TheVariants.{Document, Element, Attribute, Text, Comment, Instruction}
use Rattle.plain_tree.specs.Numbers.{texts_all}
use Rattle.plain_tree.specs.Tree.{node, Trees, none, more, node_count_all}
use Rattle.slt_grammar.proofs.Standing.{own, texts_all-more}
use Rattle.plain_tree.specs.Edits.{changed, chained, with_first, with_kids, with_value, with_attribute, made}
use Rattle.plain_tree.specs.declared.edit.Edit.TheVariants.{Attr}
use Rattle.plain_tree.proofs.Changing.{changed-inside, changed-alike, changed-deeper, more-later, from_node, chained-more, count-chained}
use Rattle.tree_updates.specs.ElementAttributes.{AreOtherAttributes}
use Rattle.tree_updates.proofs.KidPlaces.{HasNoAttribute, behind_attributes}
use Rattle.plain_tree.proofs.PlainEdits.{valued_at}
use Rattle.tree_updates.proofs.Texts.{rank_in, texts-around, insert-at}

attribute-passed : (name value : List ℕ) (k : Kind) (m v : List ℕ) (ks ts : Trees) → k ≡ Attribute → bytes_eq m name ≡ false → with_attribute name value (more (node k m v ks) ts) ≡ more (node k m v ks) (with_attribute name value ts)
attribute-passed name value Attribute m v ks ts e f = by_test (bytes_eq m name) f
  where
    by_test : (b : Bool) → b ≡ false → (if b then (more (node Attribute m value ks) ts) else more (node Attribute m v ks) (with_attribute name value ts)) ≡ more (node Attribute m v ks) (with_attribute name value ts)
    by_test false e = refl
    by_test true e = absurd (true≢false e)
attribute-passed name value Document m v ks ts e f = absurd (let g : Document ≡ Attribute = e in no g)
  where
    no : Document ≡ Attribute → ⊥
    no g = absurd cc
attribute-passed name value Element m v ks ts e f = absurd (no e)
  where
    no : Element ≡ Attribute → ⊥
    no g = absurd cc
attribute-passed name value Text m v ks ts e f = absurd (no e)
  where
    no : Text ≡ Attribute → ⊥
    no g = absurd cc
attribute-passed name value Comment m v ks ts e f = absurd (no e)
  where
    no : Comment ≡ Attribute → ⊥
    no g = absurd cc
attribute-passed name value Instruction m v ks ts e f = absurd (no e)
  where
    no : Instruction ≡ Attribute → ⊥
    no g = absurd cc

-- the old one gets the value
old-attribute : (name value v : List ℕ) (ls A R : Trees) → AreOtherAttributes name A
    → with_attribute name value (chained more A (more (node Attribute name v ls) R)) ≡ changed more (with_first (with_value value)) (node_count_all A) (chained more A (more (node Attribute name v ls) R))
old-attribute name value v ls none R h = by_test (bytes_eq name name) ((bytes_eq-Decides name name).1 refl)
  where
    by_test : (b : Bool) → b ≡ true → (if b then (more (node Attribute name value ls) R) else more (node Attribute name v ls) (with_attribute name value R)) ≡ more (node Attribute name value ls) R
    by_test true e = refl
    by_test false e = absurd (true≢false (sym e))
old-attribute name value v ls (more (node k m w ks) A) R h =
    let rest : Trees = chained more A (more (node Attribute name v ls) R) in
    let z : node_count_all (more (node k m w ks) A) ≡ suc (node_count_all ks + node_count_all A) = omega arith in
    ap (with_attribute name value) (chained-more (node k m w ks) A (more (node Attribute name v ls) R)) ∙ attribute-passed name value k m w ks rest h.0 h.1
    ∙ ap (more (node k m w ks)) (old-attribute name value v ls A R h.2) ∙ sym (more-later (with_first (with_value value)) k m w ks rest (node_count_all A))
    ∙ ap (λ (i : ℕ). changed more (with_first (with_value value)) i (more (node k m w ks) rest)) (sym z)
    ∙ ap (changed more (with_first (with_value value)) (node_count_all (more (node k m w ks) A))) (sym (chained-more (node k m w ks) A (more (node Attribute name v ls) R)))

-- attr of a name that node n has is value of that attribute
pub attr-old : (n : ℕ) (ts : Trees) → n < node_count_all ts → (k : Kind) (m u name value v : List ℕ) (ls A R us : Trees) → AreOtherAttributes name A → from_node n ts ≡ more (node k m u (chained more A (more (node Attribute name v ls) R))) us
    → made more (Attr n name value) ts ≡ valued_at value (n + suc (node_count_all A)) ts
attr-old n ts low k m u name value v ls A R us h here =
    let V : Trees → Trees = with_first (with_value value) in
    let kids : Trees = chained more A (more (node Attribute name v ls) R) in
    let size : node_count_all kids ≡ node_count_all A + node_count_all (more (node Attribute name v ls) R) = count-chained A (more (node Attribute name v ls) R) in
    let f : Trees → Trees = with_first (with_kids (with_attribute name value)) in
    changed-alike f (changed more V (suc (node_count_all A))) n ts low
    (ap f here ∙ ap (λ xs. more (node k m u xs) us) (old-attribute name value v ls A R h) ∙ sym (changed-inside more V k m u kids us (node_count_all A) (omega (arith, size)))
    ∙ ap (changed more V (suc (node_count_all A))) (sym here))
    ∙ sym (changed-deeper more V n ts low (node_count_all A) (rw here (omega (arith, size))))

-- those before the first that is no attribute
abbrev pub front_attributes : Trees → Trees
front_attributes (more (node Attribute m v ks) ts) = more (node Attribute m v ks) (front_attributes ts)
front_attributes ts = none

texts-new : (name value : List ℕ) (ks : Trees) → HasNoAttribute name ks
    → (texts_all ks ≡ texts_all (front_attributes ks) ++ texts_all (behind_attributes ks)) × (texts_all (with_attribute name value ks) ≡ texts_all (front_attributes ks) ++ (value ∷ texts_all (behind_attributes ks)))
texts-new name value none h = (refl, refl)
texts-new name value (more (node Document m v ks) ts) h = (refl, refl)
texts-new name value (more (node Element m v ks) ts) h = (refl, refl)
texts-new name value (more (node Text m v ks) ts) h = (refl, refl)
texts-new name value (more (node Comment m v ks) ts) h = (refl, refl)
texts-new name value (more (node Instruction m v ks) ts) h = (refl, refl)
texts-new name value (more (node Attribute m v ks) ts) h =
    let r = texts-new name value ts h.1 in
    let A : List (List ℕ) = texts_all (front_attributes ts) in
    let own-front : texts_all (more (node Attribute m v ks) (front_attributes ts)) ≡ (v ∷ texts_all ks) ++ A = texts_all-more Attribute m v ks (front_attributes ts) in (
      texts_all-more Attribute m v ks ts ∙ ap (λ xs. v ∷ (texts_all ks ++ xs)) r.0 ∙ ap (λ xs. v ∷ xs) (sym (append_assoc (texts_all ks) A (texts_all (behind_attributes ts)))) ∙ ap (λ xs. xs ++ texts_all (behind_attributes ts)) (sym own-front),
      ap texts_all (attribute-passed name value Attribute m v ks ts refl h.0) ∙ texts_all-more Attribute m v ks (with_attribute name value ts) ∙ ap (λ xs. v ∷ (texts_all ks ++ xs)) r.1
          ∙ ap (λ xs. v ∷ xs) (sym (append_assoc (texts_all ks) A (value ∷ texts_all (behind_attributes ts)))) ∙ ap (λ xs. xs ++ (value ∷ texts_all (behind_attributes ts))) (sym own-front),
    )

-- a new attribute's value comes behind those of the old ones
pub texts-attribute : (n : ℕ) (ts : Trees) → n < node_count_all ts → (k : Kind) (m v : List ℕ) (ks us : Trees) → from_node n ts ≡ more (node k m v ks) us → (name value : List ℕ) → HasNoAttribute name ks
    → texts_all (made more (Attr n name value) ts) ≡ insert_slice (texts_all ts) (rank_in n ts + (length (own k v) + length (texts_all (front_attributes ks)))) (value ∷ [])
texts-attribute n ts low k m v ks us here name value h =
    let r = texts-around n ts low in
    let f : Trees → Trees = with_first (with_kids (with_attribute name value)) in
    let q = texts-new name value ks h in
    let A : List (List ℕ) = texts_all (front_attributes ks) in
    let B : List (List ℕ) = texts_all (behind_attributes ks) in
    let O : List (List ℕ) = own k v in
    let U : List (List ℕ) = texts_all us in
    let front : List (List ℕ) = r.front ++ (O ++ A) in
    let size : length front ≡ rank_in n ts + (length O + length A) = omega (arith, length-append r.front (O ++ A), length-append O A, r.rank) in
    let new : texts_all (f (from_node n ts)) ≡ O ++ ((A ++ (value ∷ B)) ++ U) = ap (λ xs. texts_all (f xs)) here ∙ texts_all-more k m v (with_attribute name value ks) us ∙ ap (λ xs. O ++ (xs ++ U)) q.1 in
    let old : texts_all (from_node n ts) ≡ O ++ ((A ++ B) ++ U) = ap texts_all here ∙ texts_all-more k m v ks us ∙ ap (λ xs. O ++ (xs ++ U)) q.0 in
    r.are f ∙ ap (λ xs. r.front ++ (xs ++ r.back)) new ∙ regroup r.front O A (value ∷ B) U r.back
    ∙ sym (insert-at front (B ++ (U ++ r.back)) (value ∷ []) (rank_in n ts + (length O + length A)) size)
    ∙ ap (λ xs. insert_slice xs (rank_in n ts + (length O + length A)) (value ∷ [])) (sym (regroup r.front O A B U r.back) ∙ ap (λ xs. r.front ++ (xs ++ r.back)) (sym old) ∙ sym r.were)
  where
    regroup : (x o a b u y : List (List ℕ)) → x ++ ((o ++ ((a ++ b) ++ u)) ++ y) ≡ (x ++ (o ++ a)) ++ (b ++ (u ++ y))
    regroup x o a b u y = simp append_assoc
