-- A store in which one text became another.
use Rattle.std.proofs.Common.{◌≡◌, ℕ, ◌+◌, ◌^◌, ◌<◌, List, ◌++◌, length, true, refl, ap, sym, ◌∙◌, subst, arith, length-append, Some, None}
use Rattle.std.specs.Prelude.{slice_get, slice_set}
use Rattle.std.proofs.lemmas.Nat.{mul-le}
use Rattle.plain_tree.specs.declared.kind.Kind.{Kind}
use Rattle.plain_tree.specs.declared.kind.Kind.TheVariants.{Document, Element, Attribute, Text, Comment, Instruction}
use Rattle.plain_tree.specs.declared.edit.Edit.{Edit}
use Rattle.plain_tree.specs.declared.edit.Edit.TheVariants.{Value}
use Rattle.plain_tree.specs.Allowed.{MayHaveValue, IsAllowed}
use Rattle.plain_tree.specs.EditLaws.{IsEditOf}
use Rattle.plain_tree.specs.Edits.{edited, merged}
use Rattle.plain_tree.specs.Lawful.{AreChars}
use Rattle.plain_tree.specs.Numbers.{kind_of, has_value, texts_all}
use Rattle.plain_tree.specs.Siblings.{from_node}
use Rattle.plain_tree.specs.Tree.{Tree, node, Trees, none, more, node_count, node_count_all}
use Rattle.plain_tree.proofs.EditCounts.{edits-are-counted}
use Rattle.plain_tree.proofs.LawfulDocuments.{placed-becomes, place-low, stands}
use Rattle.slt_grammar.specs.Grammars.{size, IsSwept}
use Rattle.slt_grammar.specs.Keyed.{rules_of, Keyed}
use Rattle.slt_grammar.specs.Ranks.{greatest_rank}
use Rattle.slt_grammar.specs.Standing.{StandsFor}
use Rattle.slt_grammar.specs.declared.rules.Rule.{Rule}
use Rattle.slt_grammar.proofs.Standing.{own, texts-one, texts_all-more}
use Rattle.segment_counts.specs.Counting.{AreCounts}
use Rattle.digram_index.specs.Linked.{IsIndexOf}
use Rattle.preorder_address.specs.Spots.{IsSpot}
use Rattle.preorder_address.specs.TreeNumbers.{kind_at, text_rank_at}
use Rattle.preorder_address.specs.declared.spot.Spot.{Spot}
use Rattle.preorder_address.proofs.TreeSpots.{spot-kind}
use Rattle.tree_updates.specs.Stores.{IsEdited, IsStoreFor}
use Rattle.tree_updates.specs.declared.store.Store.{Store}
use Rattle.tree_updates.proofs.NodePlaces.{IsPlaced, placed, kind-there, allowed-there, there-allowed}
use Rattle.tree_updates.proofs.Ranks.{rank-told}
use Rattle.tree_updates.proofs.Stands.{stands-valued}
use Rattle.tree_updates.proofs.Texts.{rank_in, texts-around}

-- what the spot of a node tells of the values that it may get
module _ (s : Store) (t : Tree) (i : IsStoreFor s t) (n : ℕ) (spot : Spot) (is : IsSpot s.names s.grammar.rules n spot) (low : n < node_count t) (kind : Kind) (name : List ℕ) (pair : Some (kind, name) ≡ slice_get s.names spot.symbol) where
  pub kind-is : Some kind ≡ kind_at t n
  kind-is = spot-kind s.names s.grammar.rules t i.stand.code n spot.levels.items spot.symbol spot.before is kind name pair

  here : IsPlaced t n
  here = placed t n low

  same : kind_of here.place.here ≡ kind
  same = kind-there t n here kind kind-is

  pub value-allowed : (w : List ℕ) → MayHaveValue w kind → IsAllowed t (Value n w)
  value-allowed w h = allowed-there t (Value n w) here (subst (MayHaveValue w) (sym same) h)

  pub allowed-value : (w : List ℕ) → IsAllowed t (Value n w) → MayHaveValue w kind
  allowed-value w h = subst (MayHaveValue w) same (there-allowed t (Value n w) here h)

may-has : (w : List ℕ) (k : Kind) → MayHaveValue w k → has_value k ≡ true
may-has w Document h = absurd h
may-has w Element h = absurd h
may-has w Attribute h = refl
may-has w Text h = refl
may-has w Comment h = refl
may-has w Instruction h = refl

own-one : (k : Kind) (v : List ℕ) → has_value k ≡ true → length (own k v) ≡ 1
own-one Document v e = cc
own-one Element v e = cc
own-one Attribute v e = refl
own-one Text v e = refl
own-one Comment v e = refl
own-one Instruction v e = refl

one-number : (a b : ℕ) → Some a ≡ Some b → a ≡ b
one-number a b e = cc

-- the rank of a node that has a value is a place of the texts
rank-low : (n : ℕ) (ts : Trees) → n < node_count_all ts → (k : Kind) (m v : List ℕ) (ks us : Trees) → from_node n ts ≡ more (node k m v ks) us → has_value k ≡ true → rank_in n ts < length (texts_all ts)
rank-low n ts low k m v ks us here has =
    let r = texts-around n ts low in
    let own_texts : List (List ℕ) = own k v in
    let mid : texts_all (from_node n ts) ≡ own_texts ++ (texts_all ks ++ texts_all us) = ap texts_all here ∙ texts_all-more k m v ks us in
    omega (
      arith,
      r.rank,
      ap length r.were,
      length-append r.front (texts_all (from_node n ts) ++ r.back),
      length-append (texts_all (from_node n ts)) r.back,
      ap length mid,
      length-append own_texts (texts_all ks ++ texts_all us),
      own-one k v has,
    )

module _ (old : Store) (t : Tree) (i : IsStoreFor old t) (n : ℕ) (w : List ℕ) (chars : AreChars w) (allowed : IsAllowed t (Value n w)) (rank : ℕ) (told : Some rank ≡ text_rank_at t n) where
  abbrev e : Edit
  e = Value n w

  low : n < node_count_all (more t none)
  low = let s = stands t e allowed in place-low None none n (more t none) s.place s.there

  at : IsPlaced t n
  at = placed t n (omega (arith, low))

  may : MayHaveValue w (kind_of at.place.here)
  may = there-allowed t e at allowed

  rank-is : rank ≡ rank_in n (more t none)
  rank-is = one-number rank (rank_in n (more t none)) (told ∙ rank-told t n (omega (arith, low)))

  -- the place is one of the texts
  pub rank-within : rank < length old.texts.texts
  rank-within = by_here at.place.here at.from may
    where
      by_here : (s : Tree) → from_node n (more t none) ≡ more s at.place.behind → MayHaveValue w (kind_of s) → rank < length old.texts.texts
      by_here (node k m v ks) f h = omega (arith, rank-is, rank-low n (more t none) low k m v ks at.place.behind f (may-has w k h), ap length i.stand.texts, ap length (texts-one t))

  edit-of : IsEditOf t e
  edit-of = record { document_is = i.stand.document; allowed = allowed; parts = chars }

  pub stands-after : StandsFor (rules_of old.grammar.rules) old.names (slice_set old.texts.texts rank w) (edited t e)
  stands-after = by_here at.place.here at.from may
    where
      by_here : (s : Tree) → from_node n (more t none) ≡ more s at.place.behind → MayHaveValue w (kind_of s) → StandsFor (rules_of old.grammar.rules) old.names (slice_set old.texts.texts rank w) (edited t e)
      by_here (node k m v ks) f h =
          subst (λ (r : ℕ). StandsFor (rules_of old.grammar.rules) old.names (slice_set old.texts.texts r w) (edited t e)) (sym rank-is)
          (stands-valued (rules_of old.grammar.rules) (rules_of old.grammar.rules) old.names old.texts.texts t i.stand n w k m v ks at.place.behind refl low f (may-has w k h) (placed-becomes t i.stand.document e allowed chars))

  small-after : node_count (edited t e) < 2 ^ 63
  small-after = omega (arith, edits-are-counted t e edit-of, i.small)

  pub valued-store : (new : Store) → new.grammar ≡ old.grammar → new.names ≡ old.names → new.counts ≡ old.counts → new.index ≡ old.index → new.texts.texts ≡ slice_set old.texts.texts rank w → IsEdited t e old new
  valued-store new grammar names counts index texts = record {
    allowed = allowed;
    store = record {
      stand = subst (λ (g : Keyed). StandsFor (rules_of g.rules) new.names new.texts.texts (edited t e)) (sym grammar)
          (subst (λ ps. StandsFor (rules_of old.grammar.rules) ps new.texts.texts (edited t e)) (sym names)
          (subst (λ vs. StandsFor (rules_of old.grammar.rules) old.names vs (edited t e)) (sym texts) stands-after));
      small = small-after;
      swept = subst (λ (g : Keyed). IsSwept (rules_of g.rules)) (sym grammar) i.swept;
      counts = subst (λ (g : Keyed). AreCounts new.names (rules_of g.rules) new.counts) (sym grammar)
          (subst (λ ps. AreCounts ps (rules_of old.grammar.rules) new.counts) (sym names) (subst (λ cs. AreCounts old.names (rules_of old.grammar.rules) cs) (sym counts) i.counts));
      index = subst (λ (g : Keyed). IsIndexOf g new.index) (sym grammar) (subst (λ x. IsIndexOf old.grammar x) (sym index) i.index);
    };
    names = names;
    ranks = omega (arith, ap (λ (g : Keyed). greatest_rank (rules_of g.rules)) grammar);
    size =
        let G : List Rule = rules_of old.grammar.rules in
        omega (arith, ap (λ (g : Keyed). size (rules_of g.rules)) grammar, mul-le 2 (size G) (2 + merged t e) (size G) (omega arith) (omega arith));
  }
