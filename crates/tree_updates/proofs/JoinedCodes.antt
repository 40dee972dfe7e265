-- The code and the texts of trees without the first and the last, where these are texts.
use Rattle.std.proofs.Common.{◌≡◌, ℕ, ◌+◌, ◌-◌, ◌≤◌, Bool, true, List, [], ◌∷◌, ◌++◌, length, take, drop, refl, ap, sym, ◌∙◌, subst, arith, Option, Some, None, append_assoc, length-append}
use Rattle.std.specs.Prelude.{is_some}
use Rattle.std.proofs.Math.Seq.{take-append_seam}
use Rattle.std.proofs.lemmas.List.{length-drop}
use Rattle.rule_arena.specs.declared.label.Label.{Label}
use Rattle.rule_arena.specs.declared.label.Label.TheVariants.{Bottom, Symbol, Param}
use Rattle.plain_tree.specs.declared.edit.Edit.TheVariants.{Value}
use Rattle.plain_tree.specs.InTurn.{all_but_last, first_text, insert_any, insert_before, insert_edits, last_text}
use Rattle.plain_tree.specs.Lawful.{AreLawfulTrees}
use Rattle.plain_tree.specs.NodePairs.{Pair}
use Rattle.plain_tree.specs.Numbers.{texts_all}
use Rattle.plain_tree.specs.Tree.{Tree, node, none, more, trees, node_count_all}
use Rattle.plain_tree.proofs.SeamTexts.{text}
use Rattle.plain_tree.proofs.TextsAt.{all-but-last-is, first-text-is}
use Rattle.slt_grammar.specs.Coding.{CodesTo}
use Rattle.slt_grammar.specs.Terms.{Term, Node, Hole}
use Rattle.fcns_encoding.specs.Labels.{term_labels}
use Rattle.tree_updates.specs.Fragments.{IsCodeOf}
use Rattle.tree_updates.specs.Joinings.{AreApart, ends, joined_edits, joined_value, middle, value_first, without_first, without_last}
use Rattle.tree_updates.proofs.CodeBodies.{code-last}
use Rattle.tree_updates.proofs.Texts.{texts_all-chained}

joined-none : (o : Option (List ℕ)) → joined_value o None ≡ None
joined-none None = refl
joined-none (Some x) = refl

before-edits : (n : ℕ) (y z : Option (List ℕ)) (F : List Tree) → insert_before n y z F ≡ value_first n (joined_value y z) (insert_any n (without_last (joined_value y z) F))
before-edits n None z F = refl
before-edits n (Some y) None F = refl
before-edits n (Some y) (Some z) F = refl

-- the plain edits of an insertion
pub edits-joined : (n : ℕ) (o p q : Option (List ℕ)) (F : List Tree) → first_text (trees F) ≡ p → AreApart (joined_value o p) (joined_value (last_text (trees F)) q) F
    → insert_edits n o p q F ≡ joined_edits n (joined_value o p) (joined_value (last_text (trees F)) q) (without_last (joined_value (last_text (trees F)) q) (without_first (joined_value o p) F))
edits-joined n None p q F e d = before-edits n (last_text (trees F)) q F
edits-joined n (Some x) None q F e d = before-edits n (last_text (trees F)) q F
edits-joined n (Some x) (Some y) q [] e d = absurd cc
edits-joined n (Some x) (Some y) None (s ∷ []) e d =
    let z : joined_value (last_text (more s none)) None ≡ None = joined-none (last_text (more s none)) in
    sym (ap (λ b. joined_edits n (Some (x ++ y)) b (without_last b [])) z)
edits-joined n (Some x) (Some y) (Some z) (s ∷ []) e d = absurd (d (x ++ y) (y ++ z) s refl (ap (λ l. joined_value l (Some z)) e) refl)
edits-joined n (Some x) (Some y) None (s ∷ r ∷ F) e d = ap (λ es. Value (n - 1) (x ++ y) ∷ es) (before-edits n (last_text (trees (r ∷ F))) None (r ∷ F))
edits-joined n (Some x) (Some y) (Some z) (s ∷ r ∷ F) e d = ap (λ es. Value (n - 1) (x ++ y) ∷ es) (before-edits n (last_text (trees (r ∷ F))) (Some z) (r ∷ F))

take-all-but : (xs ys : List Label) (k : ℕ) → k ≡ length xs → take k (xs ++ ys) ≡ xs
take-all-but xs ys k e = ap (λ (i : ℕ). take i (xs ++ ys)) e ∙ take-append_seam xs ys

module _ (names : List Pair) where
  -- without a text at the front
  front-code : (F : List Tree) (y : List ℕ) (body : List Label) → IsCodeOf names (text y ∷ F) body → IsCodeOf names F (drop 2 body)
  front-code F y body C =
      let c = C.codes in
      let is : body ≡ Symbol c.0 ∷ Bottom ∷ term_labels c.2 = C.is ∙ ap term_labels c.6 ∙ ap (λ t. Symbol c.0 ∷ (term_labels t ++ term_labels c.2)) c.4 in
      record { front = c.2; codes = c.5; is = ap (λ ls. drop 2 ls) is }

  record EndsInText (F : List Tree) (labels : List Label) : Type 0 where
    pre : List Label
    symbol : ℕ
    term : Term
    whole : labels ≡ pre ++ Symbol symbol ∷ Bottom ∷ Param ∷ []
    codes : CodesTo names (Hole 0) (trees (all_but_last F)) term
    is : term_labels term ≡ pre ++ Param ∷ []

  ends-in-text : (F : List Tree) (y : List ℕ) (term : Term) → AreLawfulTrees (trees F) → last_text (trees F) ≡ Some y → CodesTo names (Hole 0) (trees F) term → EndsInText F (term_labels term)
  ends-in-text [] y term l e c = absurd cc
  ends-in-text (s ∷ []) y term l e c =
      let f = first-text-is (more s none) y l e in
      let same : s ≡ text y = let g = f.is in cc in
      let d : CodesTo names (Hole 0) (more (text y) none) term = subst (λ r. CodesTo names (Hole 0) (more r none) term) same c in
      record {
        pre = [];
        symbol = d.0;
        term = Hole 0;
        whole = ap term_labels d.6 ∙ ap (λ t. Symbol d.0 ∷ (term_labels t ++ term_labels d.2)) d.4 ∙ ap (λ t. Symbol d.0 ∷ Bottom ∷ term_labels t) d.5;
        codes = refl;
        is = refl;
      }
  ends-in-text (node k m v ks ∷ r ∷ F) y term l e c =
      let E = ends-in-text (r ∷ F) y c.2 l.1 e c.5 in
      let label : Label = Symbol c.0 in
      record {
        pre = Symbol c.0 ∷ (term_labels c.1 ++ E.pre);
        symbol = E.symbol;
        term = Node c.0 c.1 E.term;
        whole = ap term_labels c.6 ∙ ap (λ ls. label ∷ (term_labels c.1 ++ ls)) E.whole ∙ ap (λ ls. label ∷ ls) (sym (append_assoc (term_labels c.1) E.pre (Symbol E.symbol ∷ Bottom ∷ Param ∷ [])));
        codes = (c.0, c.1, E.term, c.3, c.4, E.codes, refl);
        is = ap (λ ls. label ∷ (term_labels c.1 ++ ls)) E.is ∙ ap (λ ls. label ∷ ls) (sym (append_assoc (term_labels c.1) E.pre (Param ∷ [])));
      }

  -- and without one at the back
  back-code : (F : List Tree) (y : List ℕ) (body : List Label) → AreLawfulTrees (trees F) → last_text (trees F) ≡ Some y → IsCodeOf names F body → IsCodeOf names (all_but_last F) (take (length body - 3) body ++ Param ∷ [])
  back-code F y body l e C =
      let E = ends-in-text F y C.front l e C.codes in
      let is : body ≡ E.pre ++ Symbol E.symbol ∷ Bottom ∷ Param ∷ [] = C.is ∙ E.whole in
      let many : length body - 3 ≡ length E.pre = omega (arith, ap length is, length-append E.pre (Symbol E.symbol ∷ Bottom ∷ Param ∷ [])) in
      record {
        front = E.term;
        codes = E.codes;
        is = ap (λ ls. take (length body - 3) ls ++ Param ∷ []) is ∙ ap (λ ls. ls ++ Param ∷ []) (take-all-but E.pre (Symbol E.symbol ∷ Bottom ∷ Param ∷ []) (length body - 3) many) ∙ sym E.is;
      }

  whole-code : (F : List Tree) (body : List Label) → IsCodeOf names F body → IsCodeOf names F (take (length body - 1) body ++ Param ∷ [])
  whole-code F body C =
      let E = code-last names F body C in
      let many : length body - 1 ≡ length E.front = omega (arith, ap length E.is, length-append E.front (Param ∷ [])) in
      record {
        front = C.front;
        codes = C.codes;
        is = ap (λ ls. take (length body - 1) ls ++ Param ∷ []) E.is ∙ ap (λ ls. ls ++ Param ∷ []) (take-all-but E.front (Param ∷ []) (length body - 1) many) ∙ sym E.is ∙ C.is;
      }

  -- the code of the trees but for those
  after-front : (o : Option (List ℕ)) (b : Bool) (F : List Tree) (body : List Label) → AreLawfulTrees (trees F) → b ≡ is_some o → (is_some o ≡ true → (y : List ℕ) × (G : List Tree) × (F ≡ text y ∷ G)) → IsCodeOf names F body
      → IsCodeOf names (without_first o F) (drop (ends b 2) body)
  after-front None b F body l e there C = subst (λ x. IsCodeOf names F (drop (ends x 2) body)) (sym e) C
  after-front (Some w) b F body l e there C =
      let t = there refl in
      subst (λ x. IsCodeOf names (drop 1 F) (drop (ends x 2) body)) (sym e)
      (subst (λ G. IsCodeOf names (drop 1 G) (drop 2 body)) (sym t.2) (front-code t.1 t.0 body (subst (λ G. IsCodeOf names G body) t.2 C)))

  after-back : (o : Option (List ℕ)) (b : Bool) (F : List Tree) (body : List Label) → AreLawfulTrees (trees F) → b ≡ is_some o → (is_some o ≡ true → (y : List ℕ) × (last_text (trees F) ≡ Some y)) → IsCodeOf names F body
      → IsCodeOf names (without_last o F) (take (length body - (ends b 2 + 1)) body ++ Param ∷ [])
  after-back None b F body l e there C = subst (λ x. IsCodeOf names F (take (length body - (ends x 2 + 1)) body ++ Param ∷ [])) (sym e) (whole-code F body C)
  after-back (Some w) b F body l e there C =
      let t = there refl in
      subst (λ x. IsCodeOf names (all_but_last F) (take (length body - (ends x 2 + 1)) body ++ Param ∷ [])) (sym e) (back-code F t.0 body l t.1 C)

  pub rest-code : (o p : Option (List ℕ)) (f b : Bool) (F : List Tree) (body : List Label) → AreLawfulTrees (trees F) → AreLawfulTrees (trees (without_first o F)) → f ≡ is_some o → b ≡ is_some p
      → (is_some o ≡ true → (y : List ℕ) × (G : List Tree) × (F ≡ text y ∷ G)) → (is_some p ≡ true → (y : List ℕ) × (last_text (trees (without_first o F)) ≡ Some y)) → IsCodeOf names F body
      → IsCodeOf names (without_last p (without_first o F)) (middle (ends f 2) (ends b 2 + 1) body ++ Param ∷ [])
  rest-code o p f b F body l l' e g there last C =
      let A = after-front o f F body l e there C in
      let B = after-back p b (without_first o F) (drop (ends f 2) body) l' g last A in
      let z : length (drop (ends f 2) body) - (ends b 2 + 1) ≡ length body - (ends f 2 + (ends b 2 + 1)) = omega (arith, length-drop (ends f 2) body) in
      subst (λ (k : ℕ). IsCodeOf names (without_last p (without_first o F)) (take k (drop (ends f 2) body) ++ Param ∷ [])) z B

-- their texts
texts-first : (o : Option (List ℕ)) (b : Bool) (F : List Tree) → b ≡ is_some o → (is_some o ≡ true → (y : List ℕ) × (G : List Tree) × (F ≡ text y ∷ G)) → drop (ends b 1) (texts_all (trees F)) ≡ texts_all (trees (without_first o F))
texts-first None b F e there = ap (λ x. drop (ends x 1) (texts_all (trees F))) e
texts-first (Some w) b F e there =
    let t = there refl in
    ap (λ x. drop (ends x 1) (texts_all (trees F))) e ∙ ap (λ G. drop 1 (texts_all (trees G))) t.2 ∙ ap (λ G. texts_all (trees (drop 1 G))) (sym t.2)

take-whole : (xs : List (List ℕ)) (k : ℕ) → k ≡ length xs → take k xs ≡ xs
take-whole [] k e = ap (λ (i : ℕ). let none : List (List ℕ) = [] in take i none) e
take-whole (x ∷ xs) k e = ap (λ (i : ℕ). take i (x ∷ xs)) e ∙ ap (λ ys. x ∷ ys) (take-whole xs (length xs) refl)

texts-last : (o : Option (List ℕ)) (b : Bool) (F : List Tree) → AreLawfulTrees (trees F) → b ≡ is_some o → (is_some o ≡ true → (y : List ℕ) × (last_text (trees F) ≡ Some y))
    → take (length (texts_all (trees F)) - ends b 1) (texts_all (trees F)) ≡ texts_all (trees (without_last o F))
texts-last None b F l e there =
    let xs : List (List ℕ) = texts_all (trees F) in
    ap (λ x. take (length xs - ends x 1) xs) e ∙ take-whole xs (length xs - 0) (omega arith)
texts-last (Some w) b F l e there =
    let t = there refl in
    let xs : List (List ℕ) = texts_all (trees F) in
    let ys : List (List ℕ) = texts_all (trees (all_but_last F)) in
    let is : xs ≡ ys ++ t.0 ∷ [] = ap texts_all (all-but-last-is F t.0 l t.1) ∙ texts_all-chained (trees (all_but_last F)) (more (text t.0) none) in
    let many : length xs - 1 ≡ length ys = omega (arith, ap length is, length-append ys (t.0 ∷ [])) in
    ap (λ x. take (length xs - ends x 1) xs) e ∙ ap (take (length xs - 1)) is ∙ ap (λ (k : ℕ). take k (ys ++ t.0 ∷ [])) many ∙ take-append_seam ys (t.0 ∷ [])

pub rest-texts : (o p : Option (List ℕ)) (f b : Bool) (F : List Tree) → AreLawfulTrees (trees (without_first o F)) → f ≡ is_some o → b ≡ is_some p
    → (is_some o ≡ true → (y : List ℕ) × (G : List Tree) × (F ≡ text y ∷ G)) → (is_some p ≡ true → (y : List ℕ) × (last_text (trees (without_first o F)) ≡ Some y))
    → middle (ends f 1) (ends b 1) (texts_all (trees F)) ≡ texts_all (trees (without_last p (without_first o F)))
rest-texts o p f b F l e g there last =
    let xs : List (List ℕ) = texts_all (trees F) in
    let ys : List (List ℕ) = texts_all (trees (without_first o F)) in
    let first : drop (ends f 1) xs ≡ ys = texts-first o f F e there in
    let z : length xs - (ends f 1 + ends b 1) ≡ length ys - ends b 1 = omega (arith, length-drop (ends f 1) xs, ap length first) in
    ap (λ zs. take (length xs - (ends f 1 + ends b 1)) zs) first ∙ ap (λ (k : ℕ). take k ys) z ∙ texts-last p b (without_first o F) l g last

first-fewer : (o : Option (List ℕ)) (F : List Tree) → node_count_all (trees (without_first o F)) ≤ node_count_all (trees F)
first-fewer None F = omega arith
first-fewer (Some w) [] = omega arith
first-fewer (Some w) (s ∷ F) = omega arith

last-fewer : (F : List Tree) → node_count_all (trees (all_but_last F)) ≤ node_count_all (trees F)
last-fewer [] = omega arith
last-fewer (s ∷ []) = omega arith
last-fewer (s ∷ r ∷ F) = omega (arith, last-fewer (r ∷ F))

pub rest-fewer : (o p : Option (List ℕ)) (F : List Tree) → node_count_all (trees (without_last p (without_first o F))) ≤ node_count_all (trees F)
rest-fewer o None F = first-fewer o F
rest-fewer o (Some w) F = omega (arith, last-fewer (without_first o F), first-fewer o F)
