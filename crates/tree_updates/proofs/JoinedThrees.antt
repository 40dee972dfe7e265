-- A text that comes between two texts.
use Rattle.std.proofs.Common.{◌≡◌, ℕ, suc, ◌+◌, ◌-◌, ◌<◌, List, [], ◌∷◌, ◌++◌, refl, ap, sym, ◌∙◌, subst, arith, Option, Some, None}
use Rattle.std.specs.Borrow.{Bor}
use Rattle.std.specs.Option.{option_copied}
use Rattle.std.specs.Prelude.{IsSome, slice_get, slice_set}
use Rattle.text_list.specs.RoomyTexts.{RoomyTexts}
use Rattle.plain_tree.specs.declared.edit.Edit.{Edit}
use Rattle.plain_tree.specs.declared.edit.Edit.TheVariants.{Delete, Insert, Value}
use Rattle.plain_tree.specs.declared.kind.Kind.TheVariants.{Text}
use Rattle.plain_tree.specs.Edits.{edited, placed}
use Rattle.plain_tree.specs.InTurn.{first_text, in_turn, insert_edits, plain_edits}
use Rattle.plain_tree.specs.Numbers.{texts_all}
use Rattle.plain_tree.specs.Siblings.{from_node}
use Rattle.plain_tree.specs.Tree.{Tree, node, Trees, none, more, trees, node_count, node_count_all}
use Rattle.plain_tree.proofs.EditSteps.{step-alone}
use Rattle.plain_tree.proofs.EditTurns.{AreAlone, plain-edits-alone, plain-edits-in-turn}
use Rattle.plain_tree.proofs.Changing.{from-deeper}
use Rattle.plain_tree.proofs.EditCounts.{count-deleted}
use Rattle.plain_tree.proofs.PlainEdits.{valued_at}
use Rattle.plain_tree.proofs.SeamTexts.{text, valued-from}
use Rattle.plain_tree.proofs.TextsAt.{first-text-is, lawful-from}
use Rattle.tree_updates.specs.Extents.{IsExtentOf, IsUnsweptFor, LeavesDocument}
use Rattle.tree_updates.specs.Joinings.{HasTextBefore, MayInsertBetween}
use Rattle.tree_updates.specs.Stores.{IsStoreFor}
use Rattle.tree_updates.specs.declared.store.Store.{Store}
use Rattle.tree_updates.proofs.JoinedInsertions.{before-is, before-told, here-told, rank-some}
use Rattle.tree_updates.proofs.JoinedStores.{ranked-low, same-count, same-ranks, valued-store, with_texts}
use Rattle.tree_updates.proofs.Ranks.{rank-behind, rank-told}
use Rattle.tree_updates.proofs.StoreSteps.{low-at}
use Rattle.tree_updates.proofs.Texts.{rank_in}
use Rattle.std.proofs.lemmas.Option.{same_Some}

-- each of several edits leaves a document
abbrev LeaveAlone : Tree → List Edit → Type 0
LeaveAlone t [] = Unit {0}
LeaveAlone t (e ∷ es) = LeavesDocument t e × LeaveAlone (placed t e) es

leave-alone : (es : List Edit) (t : Tree) → AreAlone t es → LeaveAlone t es
leave-alone [] t a = tt
leave-alone (e ∷ es) t a = let s = step-alone t e a.0 in (record { alone = s.0; document = s.1 }, leave-alone es (placed t e) a.1)

-- what is lent of a text
pub is-there : (o : Option (Bor (List ℕ))) (v : List ℕ) → option_copied o ≡ Some v → IsSome o
is-there None v e = absurd cc
is-there (Some x) v e = refl

lent-is : (o : Option (Bor (List ℕ))) (x : Bor (List ℕ)) (v : List ℕ) → o ≡ Some x → option_copied o ≡ Some v → x.now ≡ v
lent-is o x v e f = same_Some x.now v (sym (ap option_copied e) ∙ f)

module _ (a : Store) (t : Tree) (i : IsStoreFor a t) (n rank : ℕ) (F : List Tree) (added : List (List ℕ)) (M : MayInsertBetween t n rank F added) where
  abbrev pub joined : List ℕ
  joined = M.before ++ (M.value ++ M.here)

  abbrev pub valued : Tree
  valued = placed t (Value (n - 1) joined)

  H : HasTextBefore t n
  H = (before-is a t i n rank F M.edit_is M.rank_is M.before M.before_is).0

  pub place-some : (0 < rank) × (0 < n)
  place-some = rank-some a t i n rank F M.edit_is M.rank_is H

  pub before-there : slice_get a.texts.texts (rank - 1) ≡ Some M.before
  before-there = before-told a t i n rank F M.edit_is M.rank_is M.before M.before_is

  pub here-there : slice_get a.texts.texts rank ≡ Some M.here
  here-there = here-told a t i n rank F M.edit_is M.rank_is M.here M.here_is

  pub added-there : slice_get added 0 ≡ Some M.value
  added-there = ap (λ xs. slice_get xs 0) (M.added_is ∙ ap (λ G. texts_all (trees G)) M.one)

  steps : plain_edits t (Insert n F) ≡ Value (n - 1) joined ∷ Delete n ∷ []
  steps =
      let q = first_text (from_node n (more t none)) in
      ap (λ o. insert_edits n o (first_text (trees F)) q F) M.before_is ∙ ap (λ o. insert_edits n (Some M.before) (first_text (trees F)) o F) M.here_is
      ∙ ap (λ G. insert_edits n (Some M.before) (first_text (trees G)) (Some M.here) G) M.one

  leave : LeaveAlone t (Value (n - 1) joined ∷ Delete n ∷ [])
  leave =
      let e : Edit = Insert n F in
      subst (LeaveAlone t) steps
      (leave-alone (plain_edits t e) t (plain-edits-alone t e M.edit_is))

  pub value-leaves : LeavesDocument t (Value (n - 1) joined)
  value-leaves = leave.0

  pub delete-leaves : LeavesDocument valued (Delete n)
  delete-leaves = leave.1.0

  pub comes-to-edited : placed valued (Delete n) ≡ edited t (Insert n F)
  comes-to-edited =
      let e : Edit = Insert n F in
      sym (ap (λ es. in_turn t es) steps) ∙ (plain-edits-in-turn t e M.edit_is).1

  before-here : from_node (n - 1) (more t none) ≡ more (text H.value) (more H.next H.behind)
  before-here = let z : n - 1 ≡ H.before = omega (arith, H.number) in ap (λ (k : ℕ). from_node k (more t none)) z ∙ H.from_is

  pub low-valued : n < node_count valued
  low-valued = let c = same-count t (n - 1) H.value (more H.next H.behind) before-here joined value-leaves in omega (arith, c, ranked-low t n rank M.rank_is)

  rank-before : rank_in (n - 1) (more t none) ≡ rank - 1
  rank-before =
      let low-b = low-at H.before (more t none) Text [] H.value none (more H.next H.behind) H.from_is in
      let b = rank-behind H.before (more t none) low-b Text [] H.value none (more H.next H.behind) H.from_is in
      let z : H.before + (0 + 1) ≡ n = omega (arith, H.number) in
      let y : n - 1 ≡ H.before = omega (arith, H.number) in
      let r : rank_in n (more t none) ≡ rank = same_Some (rank_in n (more t none)) rank (sym (rank-told t n (ranked-low t n rank M.rank_is)) ∙ sym M.rank_is) in
      omega (arith, b, r, ap (λ (k : ℕ). rank_in k (more t none)) z, ap (λ (k : ℕ). rank_in k (more t none)) y)

  -- the store once the text before has the value of all three
  pub valued-three : (s : Store) → IsUnsweptFor s t → (T : RoomyTexts) → T.texts ≡ slice_set s.texts.texts (rank - 1) joined → IsUnsweptFor (with_texts s T) valued
  valued-three s u T are = valued-store t (n - 1) H.value (more H.next H.behind) before-here joined value-leaves s u T (subst (λ (k : ℕ). T.texts ≡ slice_set s.texts.texts k joined) (sym rank-before) are)

  -- the bytes that were joined
  pub three-is : (o p q : Option (Bor (List ℕ))) (x y z : Bor (List ℕ)) → o ≡ Some x → p ≡ Some y → q ≡ Some z → option_copied o ≡ slice_get a.texts.texts (rank - 1) → option_copied p ≡ slice_get added 0
      → option_copied q ≡ slice_get a.texts.texts rank → x.now ++ (y.now ++ z.now) ≡ joined
  three-is o p q x y z e f g h k l =
      ap (λ v. v ++ (y.now ++ z.now)) (lent-is o x M.before e (h ∙ before-there)) ∙ ap (λ v. M.before ++ (v ++ z.now)) (lent-is p y M.value f (k ∙ added-there)) ∙ ap (λ v. M.before ++ (M.value ++ v)) (lent-is q z M.here g (l ∙ here-there))

  -- node n stands as before
  here-stays : (us : Trees) × (from_node n (more valued none) ≡ more (text M.here) us)
  here-stays =
      let low = ranked-low t n rank M.rank_is in
      let low-b = low-at H.before (more t none) Text [] H.value none (more H.next H.behind) H.from_is in
      let f = first-text-is (from_node n (more t none)) M.here (lawful-from n (more t none) (omega (arith, low)) (i.stand.document.lawful, tt)) M.here_is in
      let s : suc H.before ≡ n = omega (arith, H.number) in
      let z : n - 1 ≡ H.before = omega (arith, H.number) in
      let was : from_node n (more t none) ≡ more H.next H.behind =
      ap (λ (k : ℕ). from_node k (more t none)) H.number ∙ from-deeper H.before (more t none) low-b 0 (rw H.from_is (omega (arith, some-tree H.next))) ∙ ap (from_node 1) H.from_is in (
        f.behind,
        ap (from_node n) (sym value-leaves.alone) ∙ ap (λ (k : ℕ). from_node n (valued_at joined k (more t none))) z ∙ ap (λ (k : ℕ). from_node k (valued_at joined H.before (more t none))) (sym s)
            ∙ valued-from H.before (more t none) H.value H.next H.behind H.from_is low-b joined ∙ sym was ∙ f.is,
      )
    where
      some-tree : (s : Tree) → 0 < node_count s
      some-tree (node k m v ks) = omega arith

  pub here-extent : IsExtentOf valued n (record { nodes = 1; rank = rank; texts = 1 })
  here-extent =
      let h = here-stays in
      let same : rank_in n (more valued none) ≡ rank_in n (more t none) = same-ranks t (n - 1) H.value (more H.next H.behind) before-here joined value-leaves n in
      record {
        here = text M.here;
        behind = h.0;
        from_is = h.1;
        nodes = refl;
        rank = rank-told valued n low-valued ∙ ap (λ (k : ℕ). Some k) same ∙ sym (rank-told t n (ranked-low t n rank M.rank_is)) ∙ sym M.rank_is;
        texts_are = refl;
      }

  pub count-three : node_count (edited t (Insert n F)) + 1 ≡ node_count t
  count-three =
      let h = here-stays in
      let c = same-count t (n - 1) H.value (more H.next H.behind) before-here joined value-leaves in
      omega (arith, c, count-deleted n (more valued none) (omega (arith, low-valued)) Text [] M.here none h.0 h.1, ap node_count_all delete-leaves.alone, ap node_count comes-to-edited)
