-- What a fragment's code comes to before a node, where texts meet or not.
use Rattle.std.proofs.Common.{◌≡◌, ℕ, zero, suc, ◌+◌, ◌-◌, ◌<◌, ◌≤◌, ◌^◌, Bool, true, false, List, [], ◌∷◌, ◌++◌, length, drop, refl, ap, sym, ◌∙◌, subst, arith, Option, Some, None, length-append}
use Rattle.std.specs.Prelude.{is_some, max, slice_get}
use Rattle.std.proofs.Math.Bool.{true≢false}
use Rattle.std.proofs.lemmas.Option.{same_Some}
use Rattle.rule_arena.specs.declared.label.Label.{Label}
use Rattle.rule_arena.specs.declared.label.Label.TheVariants.{Param}
use Rattle.plain_tree.specs.declared.edit.Edit.{Edit}
use Rattle.plain_tree.specs.declared.edit.Edit.TheVariants.{Insert}
use Rattle.plain_tree.specs.declared.kind.Kind.TheVariants.{Text}
use Rattle.plain_tree.specs.EditLaws.{IsEditOf}
use Rattle.plain_tree.specs.Edits.{edited, placed}
use Rattle.plain_tree.specs.InTurn.{LeaveDocuments, first_text, in_turn, last_text, plain_edits, text_before_node}
use Rattle.plain_tree.specs.Lawful.{AreLawfulTrees}
use Rattle.plain_tree.specs.Numbers.{texts_all}
use Rattle.plain_tree.specs.Siblings.{from_node}
use Rattle.plain_tree.specs.Tree.{Tree, node, Trees, none, more, trees, node_count, node_count_all}
use Rattle.plain_tree.proofs.EditSteps.{step-alone}
use Rattle.plain_tree.proofs.EditTurns.{AreAlone, plain-edits-alone, plain-edits-in-turn}
use Rattle.plain_tree.proofs.SeamTexts.{text}
use Rattle.plain_tree.proofs.TextsAt.{first-text-is, last-text-is, lawful-from, some-before}
use Rattle.fcns_encoding.specs.declared.coding.Coded.{Coded}
use Rattle.preorder_address.specs.TreeNumbers.{text_rank_at}
use Rattle.tree_updates.specs.Fragments.{IsCodeOf}
use Rattle.tree_updates.specs.Joinings.{AreApart, AreSeams, HasTextBefore, IsTextAt, LeaveEach, MayJoin, back_value, ends, front_value, if_meets, joined_edits, joined_value, middle, without_first, without_last}
use Rattle.tree_updates.specs.Stores.{IsStoreFor}
use Rattle.tree_updates.specs.declared.joining.Joined.{Joined}
use Rattle.tree_updates.specs.declared.joining.Seams.{Seams}
use Rattle.tree_updates.specs.declared.store.Store.{Store}
use Rattle.tree_updates.proofs.BetweenStores.{text-there}
use Rattle.tree_updates.proofs.CodeBodies.{code-length}
use Rattle.tree_updates.proofs.JoinedCodes.{edits-joined, rest-code, rest-texts}
use Rattle.tree_updates.proofs.JoinedStores.{ranked-low}
use Rattle.tree_updates.proofs.Ranks.{rank-behind, rank-told}
use Rattle.tree_updates.proofs.StoreSteps.{low-at}
use Rattle.tree_updates.proofs.Texts.{rank_in, texts_all-chained}

-- each of several edits leaves a document
leave-each : (most : ℕ) (es : List Edit) (t : Tree) → most < 2 ^ 63 → AreAlone t es → LeaveDocuments most t es → LeaveEach t es
leave-each most [] t m a l = tt
leave-each most (e ∷ es) t m a l =
    let s = step-alone t e a.0 in
    (record { alone = s.0; document = s.1 }, omega (arith, l.1, m), leave-each most es (placed t e) m a.1 l.2)

-- both are there where they meet
pub joined-left : (o p : Option (List ℕ)) → is_some (joined_value o p) ≡ true → (x : List ℕ) × (y : List ℕ) × (o ≡ Some x) × (p ≡ Some y)
joined-left None p e = absurd (true≢false (sym e))
joined-left (Some x) None e = absurd (true≢false (sym e))
joined-left (Some x) (Some y) e = (x, y, refl, refl)

some-is : (o : Option (List ℕ)) (w : List ℕ) → o ≡ Some w → is_some o ≡ true
some-is o w e = ap is_some e

-- a value that two texts come to where they meet, by what is looked up
told-value : (o p v : Option (List ℕ)) (a b : Option (List ℕ)) (z : Bool) → v ≡ joined_value o p → z ≡ is_some v → ((x : List ℕ) → o ≡ Some x → a ≡ Some x) → ((y : List ℕ) → p ≡ Some y → b ≡ Some y) → if_meets z (joined_value a b) ≡ v
told-value None p v a b z e f h k = ap (λ (x : Bool). if_meets x (joined_value a b)) (f ∙ ap is_some e) ∙ sym e
told-value (Some x) None v a b z e f h k = ap (λ (x : Bool). if_meets x (joined_value a b)) (f ∙ ap is_some e) ∙ sym e
told-value (Some x) (Some y) v a b z e f h k = ap (λ (x : Bool). if_meets x (joined_value a b)) (f ∙ ap is_some e) ∙ ap (λ c. joined_value c b) (h x refl) ∙ ap (joined_value (Some x)) (k y refl) ∙ sym e

last-at : (xs : List (List ℕ)) (y : List ℕ) → slice_get (xs ++ y ∷ []) (length (xs ++ y ∷ []) - 1) ≡ Some y
last-at [] y = refl
last-at (x ∷ []) y = refl
last-at (x ∷ z ∷ xs) y =
    let e : length (x ∷ ((z ∷ xs) ++ y ∷ [])) - 1 ≡ suc (length ((z ∷ xs) ++ y ∷ []) - 1) = omega arith in
    ap (slice_get (x ∷ ((z ∷ xs) ++ y ∷ []))) e ∙ last-at (z ∷ xs) y

front-text : (n : ℕ) (ts : Trees) (x : List ℕ) → AreLawfulTrees ts → n < node_count_all ts → text_before_node n ts ≡ Some x → (a : ℕ) × (next : Tree) × (us : Trees) × (n ≡ a + 1) × (from_node a ts ≡ more (text x) (more next us))
front-text zero ts x l low e = absurd cc
front-text (suc a) ts x l low e =
    let f = some-before (from_node a ts) x (lawful-from a ts (omega (arith, low)) l) e in
    (a, f.next, f.behind, omega arith, f.is)

pub first-is : (F : List Tree) (y : List ℕ) (us : Trees) → trees F ≡ more (text y) us → (G : List Tree) × (F ≡ text y ∷ G)
first-is [] y us e = absurd cc
first-is (s ∷ F) y us e = let z : s ≡ text y = cc in (F, ap (λ r. r ∷ F) z)

lawful-first : (o : Option (List ℕ)) (F : List Tree) → AreLawfulTrees (trees F) → AreLawfulTrees (trees (without_first o F))
lawful-first None F l = l
lawful-first (Some w) [] l = l
lawful-first (Some w) (s ∷ F) l = l.1

last-behind : (s : Tree) (G : List Tree) (y : List ℕ) → (G ≡ [] → ⊥) → last_text (trees (s ∷ G)) ≡ Some y → last_text (trees G) ≡ Some y
last-behind s [] y d e = absurd (d refl)
last-behind s (r ∷ G) y d e = e

some-of : (o : Option (List ℕ)) → is_some o ≡ true → (v : List ℕ) × (o ≡ Some v)
some-of None e = absurd (true≢false (sym e))
some-of (Some v) e = (v, refl)

some-last : (G : List Tree) (y : List ℕ) → AreLawfulTrees (trees G) → last_text (trees G) ≡ Some y → (1 ≤ length (texts_all (trees G))) × (1 ≤ node_count_all (trees G))
some-last [] y l e = absurd cc
some-last (s ∷ G) y l e =
    let f = last-text-is (trees (s ∷ G)) y l e in
    let is : texts_all (trees (s ∷ G)) ≡ texts_all f.front ++ y ∷ [] = ap texts_all f.is ∙ texts_all-chained f.front (more (text y) none) in
    (omega (arith, ap length is, length-append (texts_all f.front) (y ∷ [])), omega (arith, some-tree s))
  where
    some-tree : (s : Tree) → 0 < node_count s
    some-tree (node k m v ks) = omega arith

twice : (b : Bool) → ends b 2 ≡ ends b 1 + ends b 1
twice true = refl
twice false = refl

module _ (a : Store) (t : Tree) (i : IsStoreFor a t) (n rank : ℕ) (F : List Tree) (h : IsEditOf t (Insert n F)) (ranked : Some rank ≡ text_rank_at t n) where
  abbrev ts : Trees
  ts = more t none

  low : n < node_count t
  low = ranked-low t n rank ranked

  lawful : AreLawfulTrees ts
  lawful = (i.stand.document.lawful, tt)

  lawful-F : AreLawfulTrees (trees F)
  lawful-F = h.parts.1.1

  pub before-is : (x : List ℕ) → text_before_node n (more t none) ≡ Some x → (H : HasTextBefore t n) × (H.value ≡ x)
  before-is x e =
      let f = front-text n ts x lawful (omega (arith, low)) e in
      (record { before = f.0; value = x; next = f.1; behind = f.2; number = f.3; from_is = f.4 }, refl)

  here-is : (y : List ℕ) → first_text (from_node n (more t none)) ≡ Some y → (B : IsTextAt t n) × (B.value ≡ y)
  here-is y e =
      let f = first-text-is (from_node n ts) y (lawful-from n ts (omega (arith, low)) lawful) e in
      (record { value = y; behind = f.behind; from_is = f.is }, refl)

  rank-here : rank_in n (more t none) ≡ rank
  rank-here = same_Some (rank_in n ts) rank (sym (rank-told t n low) ∙ sym ranked)

  -- a text before it has a rank before
  pub rank-some : HasTextBefore t n → (0 < rank) × (0 < n)
  rank-some H =
      let low-b = low-at H.before ts Text [] H.value none (more H.next H.behind) H.from_is in
      let b = rank-behind H.before ts low-b Text [] H.value none (more H.next H.behind) H.from_is in
      let z : H.before + (0 + 1) ≡ n = omega (arith, H.number) in
      (omega (arith, b, rank-here, ap (λ (k : ℕ). rank_in k ts) z), omega (arith, H.number))

  -- what is looked up
  pub before-told : (x : List ℕ) → text_before_node n (more t none) ≡ Some x → slice_get a.texts.texts (rank - 1) ≡ Some x
  before-told x e =
      let w = before-is x e in
      let H = w.0 in
      let low-b = low-at H.before ts Text [] H.value none (more H.next H.behind) H.from_is in
      let b = rank-behind H.before ts low-b Text [] H.value none (more H.next H.behind) H.from_is in
      let z : H.before + (0 + 1) ≡ n = omega (arith, H.number) in
      let r : rank_in H.before ts ≡ rank - 1 = omega (arith, b, rank-here, ap (λ (k : ℕ). rank_in k ts) z) in
      text-there a t i H.before (rank - 1) H.value (more H.next H.behind) H.from_is (ap Some (sym r) ∙ sym (rank-told t H.before (omega (arith, low-b)))) ∙ ap Some w.1

  pub here-told : (y : List ℕ) → first_text (from_node n (more t none)) ≡ Some y → slice_get a.texts.texts rank ≡ Some y
  here-told y e = let w = here-is y e in text-there a t i n rank w.0.value w.0.behind w.0.from_is ranked ∙ ap Some w.1

  first-told : (y : List ℕ) → first_text (trees F) ≡ Some y → slice_get (texts_all (trees F)) 0 ≡ Some y
  first-told y e = let f = first-text-is (trees F) y lawful-F e in ap (λ us. slice_get (texts_all us) 0) f.is

  last-told : (y : List ℕ) → last_text (trees F) ≡ Some y → slice_get (texts_all (trees F)) (length (texts_all (trees F)) - 1) ≡ Some y
  last-told y e =
      let f = last-text-is (trees F) y lawful-F e in
      let is : texts_all (trees F) ≡ texts_all f.front ++ y ∷ [] = ap texts_all f.is ∙ texts_all-chained f.front (more (text y) none) in
      ap (λ xs. slice_get xs (length xs - 1)) is ∙ last-at (texts_all f.front) y

  abbrev fv : Option (List ℕ)
  fv = front_value t n F

  abbrev bv : Option (List ℕ)
  bv = back_value t n F

  pub first-there : is_some (front_value t n F) ≡ true → (y : List ℕ) × (G : List Tree) × (F ≡ text y ∷ G)
  first-there e =
      let w = joined-left (text_before_node n ts) (first_text (trees F)) e in
      let f = first-text-is (trees F) w.1 lawful-F w.3 in
      let g = first-is F w.1 f.behind f.is in
      (w.1, g.0, g.1)

  pub lawful-rest : AreLawfulTrees (trees (without_first (front_value t n F) F))
  lawful-rest = lawful-first (front_value t n F) F lawful-F

  module _ (apart : AreApart (front_value t n F) (back_value t n F) F) where
    -- the trees that are left of the fragment
    abbrev pub left_trees : List Tree
    left_trees = without_last (back_value t n F) (without_first (front_value t n F) F)

    pub last-there : is_some (back_value t n F) ≡ true → (y : List ℕ) × (last_text (trees (without_first (front_value t n F) F)) ≡ Some y)
    last-there e =
        let w = joined-left (last_text (trees F)) (first_text (from_node n ts)) e in
        (w.0, by (front_value t n F) refl w.0 w.2)
      where
        by : (o : Option (List ℕ)) → front_value t n F ≡ o → (y : List ℕ) → last_text (trees F) ≡ Some y → last_text (trees (without_first o F)) ≡ Some y
        by None f y l = l
        by (Some v) f y l =
            let g = first-there (ap is_some f) in
            ap (λ H. last_text (trees (drop 1 H))) g.2 ∙ last-behind (text g.0) g.1 y (λ z. apart-here g z) (sym (ap (λ H. last_text (trees H)) g.2) ∙ l)
          where
            apart-here : (g : (y : List ℕ) × (G : List Tree) × (F ≡ text y ∷ G)) → g.1 ≡ [] → ⊥
            apart-here g z =
                let b = some-of (back_value t n F) e in
                apart v b.0 (text g.0) f b.1 (g.2 ∙ ap (λ G. text g.0 ∷ G) z)

    front-part : (f : Bool) → f ≡ is_some (front_value t n F) → (ends f 1 + length (texts_all (trees (without_first (front_value t n F) F))) ≤ length (texts_all (trees F)))
        × (ends f 1 + node_count_all (trees (without_first (front_value t n F) F)) ≤ node_count_all (trees F))
    front-part f e = by (front_value t n F) refl
      where
        by : (o : Option (List ℕ)) → front_value t n F ≡ o → (ends f 1 + length (texts_all (trees (without_first o F))) ≤ length (texts_all (trees F))) × (ends f 1 + node_count_all (trees (without_first o F)) ≤ node_count_all (trees F))
        by None g = let z : ends f 1 ≡ 0 = ap (λ b. ends b 1) (e ∙ ap is_some g) in (omega (arith, z), omega (arith, z))
        by (Some v) g =
            let z : ends f 1 ≡ 1 = ap (λ b. ends b 1) (e ∙ ap is_some g) in
            let w = first-there (ap is_some g) in (
              omega (arith, z, ap (λ H. length (texts_all (trees H))) w.2, ap (λ H. length (texts_all (trees (drop 1 H)))) w.2),
              omega (arith, z, ap (λ H. node_count_all (trees H)) w.2, ap (λ H. node_count_all (trees (drop 1 H))) w.2),
            )

    back-part : (b : Bool) → b ≡ is_some (back_value t n F) → (ends b 1 ≤ length (texts_all (trees (without_first (front_value t n F) F)))) × (ends b 1 ≤ node_count_all (trees (without_first (front_value t n F) F)))
    back-part false e = (omega arith, omega arith)
    back-part true e = let w = last-there (sym e) in some-last (without_first (front_value t n F) F) w.0 lawful-rest w.1

    module _ (z : Seams) (S : AreSeams t n F z) where
      pub texts-fit-ends : ends z.front 1 + ends z.back 1 ≤ length (texts_all (trees F))
      texts-fit-ends = let f = front-part z.front S.front_is in let b = back-part z.back S.back_is in omega (arith, f.0, b.0)

      pub labels-fit-ends : (body : List Label) → IsCodeOf a.names F body → ends z.front 2 + (ends z.back 2 + 1) ≤ length body
      labels-fit-ends body C =
          let f = front-part z.front S.front_is in
          let b = back-part z.back S.back_is in
          omega (arith, f.1, b.1, twice z.front, twice z.back, code-length a.names F body C)

      module _ (c : Coded) (C : IsCodeOf a.names F c.body) (X : c.texts ≡ texts_all (trees F)) (small : node_count (edited t (Insert n F)) < 2 ^ 63) (j : Joined)
          (jf : j.front ≡ if_meets z.front (joined_value (slice_get a.texts.texts (rank - 1)) (slice_get c.texts 0)))
          (jb : j.back ≡ if_meets z.back (joined_value (slice_get c.texts (length c.texts - 1)) (slice_get a.texts.texts rank)))
          (body : j.rest.body ≡ middle (ends z.front 2) (ends z.back 2 + 1) c.body ++ Param ∷ []) (rest : j.rest.texts ≡ middle (ends z.front 1) (ends z.back 1) c.texts) where
        front-is : j.front ≡ front_value t n F
        front-is =
            jf ∙ ap (λ xs. if_meets z.front (joined_value (slice_get a.texts.texts (rank - 1)) (slice_get xs 0))) X
            ∙ told-value (text_before_node n ts) (first_text (trees F)) (front_value t n F) (slice_get a.texts.texts (rank - 1)) (slice_get (texts_all (trees F)) 0) z.front refl S.front_is before-told first-told

        back-is : j.back ≡ back_value t n F
        back-is =
            jb ∙ ap (λ xs. if_meets z.back (joined_value (slice_get xs (length xs - 1)) (slice_get a.texts.texts rank))) X
            ∙ told-value (last_text (trees F)) (first_text (from_node n ts)) (back_value t n F) (slice_get (texts_all (trees F)) (length (texts_all (trees F)) - 1)) (slice_get a.texts.texts rank) z.back refl S.back_is last-told here-told

        steps-are : plain_edits t (Insert n F) ≡ joined_edits n j.front j.back left_trees
        steps-are =
            edits-joined n (text_before_node n ts) (first_text (trees F)) (first_text (from_node n ts)) F refl apart
            ∙ ap (λ o. joined_edits n o (back_value t n F) left_trees) (sym front-is) ∙ ap (λ o. joined_edits n j.front o left_trees) (sym back-is)

        pub comes-to : in_turn t (joined_edits n j.front j.back left_trees) ≡ edited t (Insert n F)
        comes-to = ap (in_turn t) (sym steps-are) ∙ (plain-edits-in-turn t (Insert n F) h).1

        pub may-join : MayJoin a t n rank left_trees j
        may-join =
            let e : Edit = Insert n F in
            let turns = (plain-edits-in-turn t (Insert n F) h).0 in
            record {
              leave = subst (LeaveEach t) steps-are (leave-each (max (node_count t) (node_count (edited t e))) (plain_edits t e) t (omega (arith, small, i.small)) (plain-edits-alone t e h) turns);
              rank_is = ranked;
              front_text = λ w f. let g = joined-left (text_before_node n ts) (first_text (trees F)) (ap is_some (sym front-is ∙ f)) in (before-is g.0 g.2).0;
              back_text = λ w f. let g = joined-left (last_text (trees F)) (first_text (from_node n ts)) (ap is_some (sym back-is ∙ f)) in (here-is g.1 g.3).0;
              code = subst (IsCodeOf a.names left_trees) (sym body) (rest-code a.names (front_value t n F) (back_value t n F) z.front z.back F c.body lawful-F lawful-rest S.front_is S.back_is first-there last-there C);
              texts_are = rest ∙ ap (middle (ends z.front 1) (ends z.back 1)) X ∙ rest-texts (front_value t n F) (back_value t n F) z.front z.back F lawful-rest S.front_is S.back_is first-there last-there;
            }
