-- Stores in whose document texts got other values before trees come.
use Rattle.std.proofs.Common.{◌≡◌, ℕ, zero, suc, ◌+◌, ◌-◌, ◌<◌, ◌^◌, List, [], ◌∷◌, length, refl, ap, sym, ◌∙◌, subst, arith, Option, Some, None}
use Rattle.std.proofs.lemmas.Option.{same_Some, slice_get_within}
use Rattle.std.specs.Prelude.{option_map, slice_get, slice_set, take}
use Rattle.text_list.specs.RoomyTexts.{RoomyTexts}
use Rattle.plain_tree.specs.declared.edit.Edit.{Edit}
use Rattle.plain_tree.specs.declared.edit.Edit.TheVariants.{Insert, Value}
use Rattle.plain_tree.specs.declared.kind.Kind.TheVariants.{Text}
use Rattle.plain_tree.specs.Edits.{placed}
use Rattle.plain_tree.specs.InTurn.{in_turn, insert_any}
use Rattle.plain_tree.specs.NodePairs.{Pair}
use Rattle.rule_arena.specs.declared.label.Label.{Label}
use Rattle.plain_tree.specs.Numbers.{nodes, values_of}
use Rattle.plain_tree.specs.Siblings.{from_node}
use Rattle.plain_tree.specs.Tree.{Tree, node, Trees, none, more, trees, node_count, node_count_all}
use Rattle.plain_tree.proofs.Changing.{from-deeper}
use Rattle.plain_tree.proofs.EditCounts.{count-valued}
use Rattle.plain_tree.proofs.NodeCounts.{length-nodes}
use Rattle.plain_tree.proofs.LawfulDocuments.{BecomesDocument}
use Rattle.plain_tree.proofs.PlainEdits.{valued_at}
use Rattle.plain_tree.proofs.SeamTexts.{text, valued-from}
use Rattle.slt_grammar.specs.Keyed.{rules_of}
use Rattle.slt_grammar.specs.Standing.{StandsFor}
use Rattle.preorder_address.specs.TreeNumbers.{text_rank_at}
use Rattle.tree_updates.specs.Extents.{IsUnsweptFor, LeavesDocument}
use Rattle.tree_updates.specs.Fragments.{IsCodeOf, MayComeBefore}
use Rattle.tree_updates.specs.Joinings.{HasTextBefore, LeaveEach, MayJoin, joined_edits, valued_texts, value_first}
use Rattle.tree_updates.specs.declared.joining.Joined.{Joined}
use Rattle.tree_updates.specs.declared.store.Store.{Store}
use Rattle.tree_updates.proofs.CodeBodies.{code-length}
use Rattle.tree_updates.proofs.NodeExtents.{texts-fit}
use Rattle.tree_updates.proofs.RankedValues.{rank-valued}
use Rattle.tree_updates.proofs.Ranks.{rank-behind, rank-told}
use Rattle.tree_updates.proofs.Stands.{stands-valued}
use Rattle.tree_updates.proofs.StoreSteps.{low-at}
use Rattle.tree_updates.proofs.Texts.{rank_in}

-- the store with other texts
abbrev pub with_texts : Store → RoomyTexts → Store
with_texts a T = record { grammar = a.grammar; names = a.names; texts = T; counts = a.counts; index = a.index; marks = a.marks }

-- a text gets a value
module _ (t : Tree) (b : ℕ) (x : List ℕ) (us : Trees) (here : from_node b (more t none) ≡ more (text x) us) (w : List ℕ) (L : LeavesDocument t (Value b w)) where
  low : b < node_count_all (more t none)
  low = low-at b (more t none) Text [] x none us here

  pub alone-is : more (placed t (Value b w)) none ≡ valued_at w b (more t none)
  alone-is = sym L.alone

  pub same-count : node_count (placed t (Value b w)) ≡ node_count t
  same-count = omega (arith, ap node_count_all L.alone, count-valued b (more t none) low Text [] x none us here w)

  pub same-ranks : (n : ℕ) → rank_in n (more (placed t (Value b w)) none) ≡ rank_in n (more t none)
  same-ranks n = ap (rank_in n) alone-is ∙ rank-valued w b (more t none) low n

  becomes : BecomesDocument (valued_at w b (more t none))
  becomes = record { tree = placed t (Value b w); is = L.alone; document = L.document }

  pub valued-store : (a : Store) → IsUnsweptFor a t → (T : RoomyTexts) → T.texts ≡ slice_set a.texts.texts (rank_in b (more t none)) w → IsUnsweptFor (with_texts a T) (placed t (Value b w))
  valued-store a u T are =
      let G = rules_of a.grammar.rules in
      record {
        stand = subst (λ xs. StandsFor G a.names xs (placed t (Value b w))) (sym are) (stands-valued G G a.names a.texts.texts t u.stand b w Text [] x none us refl low here refl becomes);
        small = omega (arith, same-count, u.small);
        counts = u.counts;
        index = u.index;
      }

length-set : (xs : List (List ℕ)) (i : ℕ) (w : List ℕ) → length (slice_set xs i w) ≡ length xs
length-set [] i w = refl
length-set (x ∷ xs) zero w = refl
length-set (x ∷ xs) (suc i) w = ap suc (length-set xs i w)

length-valued : (xs : List (List ℕ)) (i : ℕ) (o : Option (List ℕ)) → length (valued_texts xs i o) ≡ length xs
length-valued xs i None = refl
length-valued xs i (Some w) = length-set xs i w

-- the texts stay
same-store : (a : Store) (t : Tree) (T : RoomyTexts) → T.texts ≡ a.texts.texts → IsUnsweptFor a t → IsUnsweptFor (with_texts a T) t
same-store a t T are u = record { stand = subst (λ xs. StandsFor (rules_of a.grammar.rules) a.names xs t) (sym are) u.stand; small = u.small; counts = u.counts; index = u.index }

-- what a value that may be given to a node leaves
pub record IsGiven (a : Store) (t : Tree) (n rank : ℕ) (T : RoomyTexts) (u : Tree) : Type 0 where
  pub store : IsUnsweptFor (with_texts a T) u
  pub count : node_count u ≡ node_count t
  pub ranks : (m : ℕ) → rank_in m (more u none) ≡ rank_in m (more t none)

given-none : (a : Store) (t : Tree) (n rank : ℕ) (T : RoomyTexts) → T.texts ≡ a.texts.texts → IsUnsweptFor a t → IsGiven a t n rank T t
given-none a t n rank T are u = record { store = same-store a t T are u; count = refl; ranks = λ m. refl }

given-some : (a : Store) (t : Tree) (n rank : ℕ) (T : RoomyTexts) (b : ℕ) (x : List ℕ) (us : Trees) → from_node b (more t none) ≡ more (text x) us → (w : List ℕ) → LeavesDocument t (Value b w) → rank_in b (more t none) ≡ rank
    → T.texts ≡ slice_set a.texts.texts rank w → IsUnsweptFor a t → IsGiven a t n rank T (placed t (Value b w))
given-some a t n rank T b x us here w L r are u = record {
  store = valued-store t b x us here w L a u T (subst (λ (i : ℕ). T.texts ≡ slice_set a.texts.texts i w) (sym r) are);
  count = same-count t b x us here w L;
  ranks = same-ranks t b x us here w L;
}

module _ (a : Store) (t : Tree) (u : IsUnsweptFor a t) (n rank : ℕ) (F : List Tree) (j : Joined) (M : MayJoin a t n rank F j) (low : n < node_count t) where
  rank-here : rank_in n (more t none) ≡ rank
  rank-here = same_Some (rank_in n (more t none)) rank (sym (rank-told t n low) ∙ sym M.rank_is)

  -- the text before has the rank before
  front-rank : (H : HasTextBefore t n) → rank_in H.before (more t none) ≡ rank - 1
  front-rank H =
      let b = rank-behind H.before (more t none) (low-at H.before (more t none) Text [] H.value none (more H.next H.behind) H.from_is) Text [] H.value none (more H.next H.behind) H.from_is in
      let z : H.before + (0 + 1) ≡ n = omega (arith, H.number) in
      omega (arith, b, rank-here, ap (λ (i : ℕ). rank_in i (more t none)) z)

  -- and once it got its value node n stands as before
  front-stays : (H : HasTextBefore t n) (w : List ℕ) → LeavesDocument t (Value (n - 1) w) → from_node n (more (placed t (Value (n - 1) w)) none) ≡ from_node n (more t none)
  front-stays H w L =
      let low-b = low-at H.before (more t none) Text [] H.value none (more H.next H.behind) H.from_is in
      let z : n - 1 ≡ H.before = omega (arith, H.number) in
      let s : suc H.before ≡ n = omega (arith, H.number) in
      let after = valued-from H.before (more t none) H.value H.next H.behind H.from_is low-b w in
      let was : from_node n (more t none) ≡ more H.next H.behind = node-behind H in
      ap (from_node n) (alone-is t (n - 1) H.value (more H.next H.behind) (ap (λ (i : ℕ). from_node i (more t none)) z ∙ H.from_is) w L) ∙ ap (λ (i : ℕ). from_node n (valued_at w i (more t none))) z
      ∙ ap (λ (i : ℕ). from_node i (valued_at w H.before (more t none))) (sym s) ∙ after ∙ sym was
    where
      node-behind : (H : HasTextBefore t n) → from_node n (more t none) ≡ more H.next H.behind
      node-behind H =
          ap (λ (i : ℕ). from_node i (more t none)) H.number
          ∙ from-deeper H.before (more t none) (low-at H.before (more t none) Text [] H.value none (more H.next H.behind) H.from_is) 0 (rw H.from_is (omega (arith, some-tree H.next))) ∙ ap (from_node 1) H.from_is
        where
          some-tree : (s : Tree) → 0 < node_count s
          some-tree (node k m v ks) = omega arith

  pub front-place : (w : List ℕ) → j.front ≡ Some w → rank - 1 < length a.texts.texts
  front-place w e =
      let H = M.front_text w e in
      let fit = texts-fit t H.before (omega (arith, low, H.number)) (text H.value) (more H.next H.behind) H.from_is in
      omega (arith, fit, front-rank H, ap length u.stand.texts)

  pub back-place : (T : RoomyTexts) → T.texts ≡ valued_texts a.texts.texts (rank - 1) j.front → (w : List ℕ) → j.back ≡ Some w → rank < length T.texts
  back-place T are w e =
      let B = M.back_text w e in
      let fit = texts-fit t n low (text B.value) B.behind B.from_is in
      omega (arith, fit, rank-here, ap length u.stand.texts, ap length are, length-valued a.texts.texts (rank - 1) j.front)

  -- the text before gets its value, if there is one
  pub record IsFirst (T : RoomyTexts) (v : Tree) (o : Option (List ℕ)) (es : List Edit) : Type 0 where
    pub given : IsGiven a t n (rank - 1) T v
    pub leave : LeaveEach v es
    pub stays : from_node n (more v none) ≡ from_node n (more t none)
    pub turns : (fs : List Edit) → in_turn t (value_first (n - 1) o fs) ≡ in_turn v fs

  first-given : (o : Option (List ℕ)) → j.front ≡ o → (T : RoomyTexts) → T.texts ≡ valued_texts a.texts.texts (rank - 1) o → (es : List Edit) → LeaveEach t (value_first (n - 1) o es) → (v : Tree) × IsFirst T v o es
  first-given None e T are es L = (t, record { given = given-none a t n (rank - 1) T are u; leave = L; stays = refl; turns = λ fs. refl })
  first-given (Some w) e T are es L =
      let H = M.front_text w e in
      let z : n - 1 ≡ H.before = omega (arith, H.number) in (
        placed t (Value (n - 1) w),
        record {
          given = given-some a t n (rank - 1) T (n - 1) H.value (more H.next H.behind) (ap (λ (i : ℕ). from_node i (more t none)) z ∙ H.from_is) w L.0 (ap (λ (i : ℕ). rank_in i (more t none)) z ∙ front-rank H) are u;
          leave = L.2;
          stays = front-stays H w L.0;
          turns = λ fs. refl;
        },
      )

  -- and then node n
  pub record IsSecond (T S : RoomyTexts) (v x : Tree) (o : Option (List ℕ)) (es : List Edit) : Type 0 where
    pub given : IsGiven (with_texts a T) v n rank S x
    pub leave : LeaveEach x es
    pub turns : (fs : List Edit) → in_turn v (value_first n o fs) ≡ in_turn x fs

  second-given : (T S : RoomyTexts) (v : Tree) → IsGiven a t n (rank - 1) T v → from_node n (more v none) ≡ from_node n (more t none) → (o : Option (List ℕ)) → j.back ≡ o → S.texts ≡ valued_texts T.texts rank o → (es : List Edit)
      → LeaveEach v (value_first n o es) → (x : Tree) × IsSecond T S v x o es
  second-given T S v G stays None e are es L = (v, record { given = given-none (with_texts a T) v n rank S are G.store; leave = L; turns = λ fs. refl })
  second-given T S v G stays (Some w) e are es L =
      let B = M.back_text w e in (
        placed v (Value n w),
        record {
          given = given-some (with_texts a T) v n rank S n B.value B.behind (stays ∙ B.from_is) w L.0 (G.ranks n ∙ rank-here) are G.store;
          leave = L.2;
          turns = λ fs. refl;
        },
      )

  -- then the trees may come
  pub record IsReady (S : RoomyTexts) : Type 0 where
    pub tree : Tree
    pub store : IsUnsweptFor (with_texts a S) tree
    pub comes : (F ≡ [] → ⊥) → MayComeBefore (with_texts a S) tree n rank F j.rest
    pub turns : in_turn t (joined_edits n j.front j.back F) ≡ in_turn tree (insert_any n F)

  come-now : (x : Tree) (F : List Tree) → LeaveEach x (insert_any n F) → (F ≡ [] → ⊥) → LeavesDocument x (Insert n F) × (node_count (placed x (Insert n F)) < 2 ^ 63)
  come-now x [] L d = absurd (d refl)
  come-now x (s ∷ F) L d = (L.0, L.1)

  pub ready : (T S : RoomyTexts) → T.texts ≡ valued_texts a.texts.texts (rank - 1) j.front → S.texts ≡ valued_texts T.texts rank j.back → IsReady S
  ready T S first second =
      let A = first-given j.front refl T first (value_first n j.back (insert_any n F)) M.leave in
      let B = second-given T S A.0 A.1.given A.1.stays j.back refl second (insert_any n F) A.1.leave in
      let x = B.0 in
      let count : node_count x ≡ node_count t = B.1.given.count ∙ A.1.given.count in
      let rank-x : text_rank_at x n ≡ Some rank = rank-told x n (omega (arith, count, low)) ∙ ap Some (B.1.given.ranks n ∙ A.1.given.ranks n ∙ rank-here) in
      record {
        tree = x;
        store = B.1.given.store;
        comes = λ d. let c = come-now x F B.1.leave d in record { leaves = c.0; small = c.1; rank_is = sym rank-x; code = M.code; texts_are = M.texts_are };
        turns = A.1.turns (value_first n j.back (insert_any n F)) ∙ B.1.turns (insert_any n F);
      }

-- a code of no trees is a parameter alone
pub some-left : (names : List Pair) (F : List Tree) (body : List Label) → IsCodeOf names F body → (labels : ℕ) → labels ≡ length body → (labels ≡ 1 → ⊥) → F ≡ [] → ⊥
some-left names F body C labels e d f = d (omega (arith, e, code-length names F body C, ap (λ ts. node_count_all (trees ts)) f))

pub none-left : (names : List Pair) (F : List Tree) (body : List Label) → IsCodeOf names F body → (labels : ℕ) → labels ≡ length body → labels ≡ 1 → F ≡ []
none-left names [] body C labels e f = refl
none-left names (s ∷ F) body C labels e f = absurd (omega (arith, e, f, code-length names (s ∷ F) body C, some-tree s))
  where
    some-tree : (s : Tree) → 0 < node_count s
    some-tree (node k m v ks) = omega arith

pub any-placed : (t : Tree) (n : ℕ) (F : List Tree) → (F ≡ [] → ⊥) → placed t (Insert n F) ≡ in_turn t (insert_any n F)
any-placed t n [] d = absurd (d refl)
any-placed t n (s ∷ F) d = refl

-- a node with a rank is there
pub ranked-low : (t : Tree) (n rank : ℕ) → Some rank ≡ text_rank_at t n → n < node_count t
ranked-low t n rank e = by (slice_get (nodes t) n) refl e
  where
    by : (o : Option Tree) → slice_get (nodes t) n ≡ o → Some rank ≡ option_map (λ s. length (values_of (take n (nodes t)))) o → n < node_count t
    by None f g = absurd cc
    by (Some s) f g = omega (arith, slice_get_within (nodes t) n s f, length-nodes t)
