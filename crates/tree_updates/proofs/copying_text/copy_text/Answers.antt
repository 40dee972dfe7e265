use Rattle.std.proofs.Common.{◌≡◌, ◌<◌, ℕ, List, Bor, Option, refl, sym, ap, ◌∙◌, subst, None, Some}
use Rattle.std.specs.Prelude.{IsSome, option_map, slice_get}
use Rattle.std.proofs.lemmas.Option.{same_Some}
use Rattle.std.proofs.lemmas.Result.{err_from_is_err_and}
use Rattle.plain_tree.specs.Allowed.{IsAllowed}
use Rattle.plain_tree.specs.Lawful.{IsFragment}
use Rattle.plain_tree.specs.Siblings.{from_node}
use Rattle.plain_tree.specs.Tree.{Tree, Trees, none, more, node_count, trees}
use Rattle.plain_tree.specs.declared.edit.Edit.TheVariants.{Copy, Insert}
use Rattle.plain_tree.specs.declared.kind.Kind.TheVariants.{Text}
use Rattle.plain_tree.proofs.SeamTexts.{text}
use Rattle.preorder_address.specs.Spots.{IsSpot}
use Rattle.preorder_address.specs.TreeNumbers.{kind_at, text_rank_at}
use Rattle.preorder_address.specs.declared.spot.Spot.{Spot}
use Rattle.tree_updates.specs.Stores.{Applies, IsStoreFor}
use Rattle.tree_updates.specs.declared.store.EditError.TheVariants.{Memory}
use Rattle.tree_updates.specs.declared.store.Store.{Store}
use Rattle.tree_updates.proofs.BetweenStores.{text-there}
use Rattle.tree_updates.proofs.CopiedEdits.{text-beside, text-fragment}
use Rattle.tree_updates.proofs.CopiedTexts.{copied-applies, text-named}
use Rattle.tree_updates.proofs.NodeExtents.{spot-low}
use Rattle.tree_updates.proofs.Numbers.{at, told-text}
use Rattle.tree_updates.proofs.StoreLemmas.{refused-there}
use Rattle.tree_updates.proofs.copying_text.copy_text.Goals as goal

lent-some : (o : Option (Bor (List ℕ))) (v : List ℕ) → option_map (λ x. x.now) o ≡ Some v → IsSome o
lent-some None v e = absurd cc
lent-some (Some x) v e = refl

-- the text of a spot's node, where it is one
module _ (s : Store) (t : Tree) (i : IsStoreFor s t) (n : ℕ) (spot : Spot) (S : IsSpot s.names s.grammar.rules n spot) (told : kind_at t n ≡ Some Text) (rank : ℕ) (ranked : Some rank ≡ text_rank_at t n) where
  low : n < node_count t
  low = spot-low s.names s.grammar.rules t n spot i.stand.code S

  behind : Trees
  behind = (at t i.stand.document.lawful n low).behind

  there : slice_get s.texts.texts rank ≡ Some (told-text t i.stand.document.lawful n low told).0
  unfolding behind
  there = let T = told-text t i.stand.document.lawful n low told in text-there s t i n rank T.0 behind T.1 ranked

  some-text : (o : Option (Bor (List ℕ))) → option_map (λ x. x.now) o ≡ slice_get s.texts.texts rank → IsSome o
  some-text o got = lent-some o (told-text t i.stand.document.lawful n low told).0 (got ∙ there)

  text-is : (o : Option (Bor (List ℕ))) → option_map (λ x. x.now) o ≡ slice_get s.texts.texts rank → (b : Bor (List ℕ)) → o ≡ Some b → from_node n (more t none) ≡ more (text b.now) behind
  unfolding behind
  text-is o got b is =
      let T = told-text t i.stand.document.lawful n low told in
      let same = same_Some b.now T.0 (ap (option_map (λ (x : Bor (List ℕ)). x.now)) (sym is) ∙ got ∙ there) in
      T.1 ∙ ap (λ v. more (text v) behind) (sym same)

pub unwrap-text-requires : goal.unwrap-text-requires
unwrap-text-requires g c =
    let s = c.args.store.now in
    let r = c.requires.store in
    let n = c.args.number in
    some-text s r.0 r.1 n c.args.spot.now c.requires.spot r.3 c.text_rank.result (c.text_rank.ensures s.names s.grammar.rules n r.0 c.requires.spot r.1.stand.code) c.get.result c.get.ensures

pub returns-in_err-fragment-clause-applies : goal.returns-in_err-fragment-clause-applies
returns-in_err-fragment-clause-applies g c =
    let p = err_from_is_err_and c.from_residual.result c.from_residual.ensures.1 in
    rw (p.1, p.2) (λ t i allowed told. refused-there t (Copy c.args.number) Memory c.args.store.now tt i)

pub insert_beside-requires-clause-store : goal.insert_beside-requires-clause-store
insert_beside-requires-clause-store g c =
    let s = c.args.store.now in
    let r = c.requires.store in
    let n = c.args.number in
    let ranked = c.text_rank.ensures s.names s.grammar.rules n r.0 c.requires.spot r.1.stand.code in
    let us = behind s r.0 r.1 n c.args.spot.now c.requires.spot r.3 c.text_rank.result ranked in
    let is = text-is s r.0 r.1 n c.args.spot.now c.requires.spot r.3 c.text_rank.result ranked c.get.result c.get.ensures c.unwrap-text.result c.unwrap-text.ensures in
    (r.0, r.1, subst (λ (F : List Tree). IsAllowed r.0 (Insert n F)) (sym c.in_ok-fragment.ensures) (text-beside r.0 r.1.stand.document n c.unwrap-text.result.now us is r.2))

pub insert_beside-requires-clause-fragment : goal.insert_beside-requires-clause-fragment
insert_beside-requires-clause-fragment g c =
    let s = c.args.store.now in
    let r = c.requires.store in
    let n = c.args.number in
    let ranked = c.text_rank.ensures s.names s.grammar.rules n r.0 c.requires.spot r.1.stand.code in
    let us = behind s r.0 r.1 n c.args.spot.now c.requires.spot r.3 c.text_rank.result ranked in
    let is = text-is s r.0 r.1 n c.args.spot.now c.requires.spot r.3 c.text_rank.result ranked c.get.result c.get.ensures c.unwrap-text.result c.unwrap-text.ensures in
    let low = spot-low s.names s.grammar.rules r.0 n c.args.spot.now r.1.stand.code c.requires.spot in
    subst (λ (F : List Tree). IsFragment (trees F)) (sym c.in_ok-fragment.ensures) (text-fragment r.0 r.1.stand.document n c.unwrap-text.result.now us is low)

pub returns-clause-applies : goal.returns-clause-applies
returns-clause-applies g c = λ t i allowed told.
    let s = c.args.store.now in
    let n = c.args.number in
    let z = c.unwrap-text.result.now in
    let ranked = c.text_rank.ensures s.names s.grammar.rules n t c.requires.spot i.stand.code in
    let us = behind s t i n c.args.spot.now c.requires.spot told c.text_rank.result ranked in
    let is = text-is s t i n c.args.spot.now c.requires.spot told c.text_rank.result ranked c.get.result c.get.ensures c.unwrap-text.result c.unwrap-text.ensures in
    let low = spot-low s.names s.grammar.rules t n c.args.spot.now i.stand.code c.requires.spot in
    let named = text-named s.names s.grammar.rules t i.stand.document n low c.args.spot.now i.stand.code c.requires.spot z us is in
    let may = subst (λ (F : List Tree). IsAllowed t (Insert n F)) (sym c.in_ok-fragment.ensures) (text-beside t i.stand.document n z us is allowed) in
    copied-applies s c.insert_beside.new.store t i n low z us is allowed named c.insert_beside.result
    (subst (λ (F : List Tree). Applies t (Insert n F) s c.insert_beside.result c.insert_beside.new.store) c.in_ok-fragment.ensures (c.insert_beside.ensures.applies t i may))
