-- How many nodes a document has once trees came before a node and texts that met became one.
use Rattle.std.proofs.Common.{◌≡◌, ℕ, zero, suc, ◌+◌, ◌-◌, ◌<◌, Bool, true, false, List, [], ◌∷◌, refl, ap, sym, ◌∙◌, subst, arith, Option, Some, None, ◌⊎◌, inl, inr}
use Rattle.std.specs.Prelude.{drop, is_some}
use Rattle.std.proofs.Math.Bool.{true≢false}
use Rattle.plain_tree.specs.Numbers.{texts_all}
use Rattle.plain_tree.specs.declared.edit.Edit.{Edit}
use Rattle.plain_tree.specs.declared.edit.Edit.TheVariants.{Insert, Value}
use Rattle.plain_tree.specs.EditLaws.{IsEditOf}
use Rattle.plain_tree.specs.Edits.{edited, placed}
use Rattle.plain_tree.specs.InTurn.{all_but_last, first_text, in_turn, insert_any, last_text, text_before_node}
use Rattle.plain_tree.specs.Lawful.{AreLawfulTrees}
use Rattle.plain_tree.specs.Siblings.{from_node}
use Rattle.plain_tree.specs.Tree.{Tree, node, none, more, trees, node_count, node_count_all}
use Rattle.plain_tree.proofs.Changing.{count-chained}
use Rattle.plain_tree.proofs.EditCounts.{count-inserted}
use Rattle.plain_tree.proofs.EditSteps.{step-alone}
use Rattle.plain_tree.proofs.EditTurns.{AreAlone, plain-edits-alone, plain-edits-in-turn}
use Rattle.plain_tree.proofs.SeamTexts.{text}
use Rattle.plain_tree.proofs.TextsAt.{all-but-last-is, first-text-is}
use Rattle.preorder_address.specs.TreeNumbers.{text_rank_at}
use Rattle.tree_updates.specs.Joinings.{AreApart, AreSeams, MayInsertBetween, back_value, ends, front_value, joined_edits, value_first, without_first, without_last}
use Rattle.tree_updates.specs.Stores.{IsStoreFor}
use Rattle.tree_updates.specs.declared.joining.Seams.{Seams}
use Rattle.tree_updates.specs.declared.store.Store.{Store}
use Rattle.tree_updates.proofs.JoinedCodes.{edits-joined}
use Rattle.tree_updates.proofs.JoinedInsertions.{first-is, first-there, joined-left, last-there, lawful-rest, left_trees}
use Rattle.tree_updates.proofs.JoinedStores.{ranked-low}
use Rattle.tree_updates.proofs.JoinedThrees.{count-three}
use Rattle.tree_updates.proofs.RankedValues.{count-any}

-- values change no count
record IsTurn (t : Tree) (b : ℕ) (o : Option (List ℕ)) (es : List Edit) : Type 0 where
  tree : Tree
  count : node_count tree ≡ node_count t
  alone : AreAlone tree es
  turns : in_turn t (value_first b o es) ≡ in_turn tree es

value-turn : (t : Tree) (b : ℕ) (o : Option (List ℕ)) (es : List Edit) → AreAlone t (value_first b o es) → b < node_count t → IsTurn t b o es
value-turn t b None es a low = record { tree = t; count = refl; alone = a; turns = refl }
value-turn t b (Some w) es a low =
    let s = step-alone t (Value b w) a.0 in
    record { tree = placed t (Value b w); count = omega (arith, ap node_count_all s.0, count-any w b (more t none) (omega (arith, low))); alone = a.1; turns = refl }

insert-turn : (t : Tree) (n : ℕ) (F : List Tree) → AreAlone t (insert_any n F) → n < node_count t → node_count (in_turn t (insert_any n F)) ≡ node_count t + node_count_all (trees F)
insert-turn t n [] a low = omega arith
insert-turn t n (s ∷ F) a low =
    let e = step-alone t (Insert n (s ∷ F)) a.0 in
    omega (arith, ap node_count_all e.0, count-inserted n (more t none) (omega (arith, low)) (trees (s ∷ F)))

joined-count : (t : Tree) (n : ℕ) (o p : Option (List ℕ)) (F : List Tree) → AreAlone t (joined_edits n o p F) → n < node_count t → node_count (in_turn t (joined_edits n o p F)) ≡ node_count t + node_count_all (trees F)
joined-count t n o p F a low =
    let A = value-turn t (n - 1) o (value_first n p (insert_any n F)) a (omega (arith, low)) in
    let B = value-turn A.tree n p (insert_any n F) A.alone (omega (arith, A.count, low)) in
    let c = insert-turn B.tree n F B.alone (omega (arith, A.count, B.count, low)) in
    omega (arith, ap node_count (A.turns ∙ B.turns), c, A.count, B.count)

last-count : (F : List Tree) (y : List ℕ) → AreLawfulTrees (trees F) → last_text (trees F) ≡ Some y → node_count_all (trees (all_but_last F)) + 1 ≡ node_count_all (trees F)
last-count F y l e = omega (arith, ap node_count_all (all-but-last-is F y l e), count-chained (trees (all_but_last F)) (more (text y) none))

module _ (a : Store) (t : Tree) (i : IsStoreFor a t) (n rank : ℕ) (F : List Tree) (h : IsEditOf t (Insert n F)) (ranked : Some rank ≡ text_rank_at t n) (z : Seams) (S : AreSeams t n F z) where
  front-count : (o : Option (List ℕ)) → front_value t n F ≡ o → node_count_all (trees (without_first o F)) + ends z.front 1 ≡ node_count_all (trees F)
  front-count None e = let f : ends z.front 1 ≡ 0 = ap (λ b. ends b 1) (S.front_is ∙ ap is_some e) in omega (arith, f)
  front-count (Some w) e =
      let f : ends z.front 1 ≡ 1 = ap (λ b. ends b 1) (S.front_is ∙ ap is_some e) in
      let g = first-there a t i n rank F h ranked (ap is_some e) in
      omega (arith, f, ap (λ G. node_count_all (trees G)) g.2, ap (λ G. node_count_all (trees (drop 1 G))) g.2)

  module _ (apart : AreApart (front_value t n F) (back_value t n F) F) where
    back-count : (o : Option (List ℕ)) → back_value t n F ≡ o → node_count_all (trees (without_last o (without_first (front_value t n F) F))) + ends z.back 1 ≡ node_count_all (trees (without_first (front_value t n F) F))
    back-count None e = let f : ends z.back 1 ≡ 0 = ap (λ b. ends b 1) (S.back_is ∙ ap is_some e) in omega (arith, f)
    back-count (Some w) e =
        let f : ends z.back 1 ≡ 1 = ap (λ b. ends b 1) (S.back_is ∙ ap is_some e) in
        let g = last-there a t i n rank F h ranked apart (ap is_some e) in
        omega (arith, f, last-count (without_first (front_value t n F) F) g.0 (lawful-rest a t i n rank F h ranked) g.1)

    pub count-apart : node_count (edited t (Insert n F)) + (ends z.front 1 + ends z.back 1) ≡ node_count t + node_count_all (trees F)
    count-apart =
        let e : Edit = Insert n F in
        let steps = edits-joined n (text_before_node n (more t none)) (first_text (trees F)) (first_text (from_node n (more t none))) F refl apart in
        let left = left_trees a t i n rank F h ranked apart in
        let c = joined-count t n (front_value t n F) (back_value t n F) left (subst (AreAlone t) steps (plain-edits-alone t e h)) (ranked-low t n rank ranked) in
        let is : in_turn t (joined_edits n (front_value t n F) (back_value t n F) left) ≡ edited t e = ap (in_turn t) (sym steps) ∙ (plain-edits-in-turn t e h).1 in
        omega (arith, c, ap node_count is, front-count (front_value t n F) refl, back-count (back_value t n F) refl)

  no-trees : (G : List Tree) → node_count_all (trees G) ≡ 0 → G ≡ []
  no-trees [] e = refl
  no-trees (node k m v ks ∷ G) e = absurd (omega (arith, e))

  -- the fragment is one text between two
  pub between : node_count_all (trees F) ≡ 1 → z.front ≡ true → z.back ≡ true → (added : List (List ℕ)) → added ≡ texts_all (trees F) → MayInsertBetween t n rank F added
  between one f b added is =
      let o = joined-left (text_before_node n (more t none)) (first_text (trees F)) (sym S.front_is ∙ f) in
      let p = joined-left (last_text (trees F)) (first_text (from_node n (more t none))) (sym S.back_is ∙ b) in
      let w = first-text-is (trees F) o.1 h.parts.1.1 o.3 in
      let g = first-is F o.1 w.behind w.is in
      let alone : g.0 ≡ [] = no-trees g.0 (omega (arith, one, ap (λ G. node_count_all (trees G)) g.1)) in
      record { edit_is = h; rank_is = ranked; before = o.0; value = o.1; here = p.1; one = g.1 ∙ ap (λ G. text o.1 ∷ G) alone; before_is = o.2; here_is = p.3; added_is = is }

  -- where it is not, the joined texts are apart
  pub not-between : (node_count_all (trees F) ≡ 1 → z.front ≡ true → z.back ≡ true → ⊥) → AreApart (front_value t n F) (back_value t n F) F
  not-between d w v s e f one =
      let o = joined-left (text_before_node n (more t none)) (first_text (trees F)) (ap is_some e) in
      let g = first-there a t i n rank F h ranked (ap is_some e) in
      let tail : g.1 ≡ [] = same-tail s (text g.0) [] g.1 (sym one ∙ g.2) in
      d (omega (arith, ap (λ G. node_count_all (trees G)) g.2, ap (λ G. node_count_all (trees G)) tail)) (S.front_is ∙ ap is_some e) (S.back_is ∙ ap is_some f)
    where
      same-tail : (s r : Tree) (G H : List Tree) → s ∷ G ≡ r ∷ H → H ≡ G
      same-tail s r G H e = cc

  -- so many nodes less by the texts that met
  pub count-edited : node_count (edited t (Insert n F)) + (ends z.front 1 + ends z.back 1) ≡ node_count t + node_count_all (trees F)
  count-edited = by z.front z.back refl refl (is-one (node_count_all (trees F)))
    where
      is-one : (k : ℕ) → (k ≡ 1) ⊎ (k ≡ 1 → ⊥)
      is-one zero = inr (λ e. absurd (omega (arith, e)))
      is-one (suc zero) = inl refl
      is-one (suc (suc k)) = inr (λ e. absurd (omega (arith, e)))

      by : (f b : Bool) → z.front ≡ f → z.back ≡ b → (node_count_all (trees F) ≡ 1) ⊎ (node_count_all (trees F) ≡ 1 → ⊥) → node_count (edited t (Insert n F)) + (ends z.front 1 + ends z.back 1) ≡ node_count t + node_count_all (trees F)
      by false b e f k = count-apart (not-between (λ one x y. absurd (true≢false (sym x ∙ e))))
      by true false e f k = count-apart (not-between (λ one x y. absurd (true≢false (sym y ∙ f))))
      by true true e f (inr d) = count-apart (not-between (λ one x y. d one))
      by true true e f (inl one) =
          let M = between one e f (texts_all (trees F)) refl in
          let c = count-three a t i n rank F (texts_all (trees F)) M in
          omega (arith, c, one, ap (λ x. ends x 1) e, ap (λ x. ends x 1) f)
