-- An edit as edits by which no texts meet, one after another.
use Rattle.std.proofs.Common.{◌≡◌, ◌≢◌, ℕ, zero, suc, ◌+◌, ◌-◌, ◌<◌, ◌≤◌, List, [], ◌∷◌, ◌++◌, false, max, refl, ap, sym, ◌∙◌, subst, arith, Option, Some, None}
use Rattle.plain_tree.specs.declared.edit.Edit.{Edit}
use Rattle.plain_tree.specs.declared.edit.Edit.TheVariants.{Rename, Insert, Append, Delete, Value, Attr, Copy}
use Rattle.plain_tree.specs.declared.kind.Kind.{Kind}
use Rattle.plain_tree.specs.declared.kind.Kind.TheVariants.{Text}
use Rattle.plain_tree.specs.Allowed.{IsAllowed, IsAllowedAt, AreLawfulParts}
use Rattle.plain_tree.specs.Edits.{changed, chained, others, made, placed, edited}
use Rattle.plain_tree.specs.EditLaws.{IsEditOf, PlainEditsInTurn}
use Rattle.plain_tree.specs.InTurn.{first_text, last_text, text_before_node, all_but_last, delete_edits, copy_edits, insert_any, insert_before, insert_edits, append_any, append_edits, plain_edits, in_turn, LeaveDocuments}
use Rattle.plain_tree.specs.Joined.{join_front}
use Rattle.plain_tree.specs.Lawful.{AreChars, AreLawfulTrees, IsDocument}
use Rattle.plain_tree.specs.Siblings.{from_node, first_kids, begins_text, text_before}
use Rattle.plain_tree.specs.Tree.{Tree, node, Trees, none, more, trees, node_count, node_count_all}
use Rattle.plain_tree.proofs.Changing.{from-inside, from-deeper, changed-same, some-from, count-chained}
use Rattle.plain_tree.proofs.EditCounts.{count-valued, count-deleted}
use Rattle.plain_tree.proofs.EditedDocuments.{place-from, edited-becomes, edited-alone}
use Rattle.plain_tree.proofs.EditSteps.{step-alone, valued-document, right-becomes, first-alone, right-there}
use Rattle.plain_tree.proofs.LawfulDocuments.{BecomesDocument, Stands, stands, root-place, place-low}
use Rattle.plain_tree.proofs.LawfulEdits.{more-chars}
use Rattle.plain_tree.proofs.PlainEdits.{inserted, appended, valued_at, delete-apart, insert-apart, copy-apart, copy-text, delete-aside, insert-aside, insert-front, insert-text, insert-between, copy-behind-text, copy-aside, delete-between, inserted-aside, inserted-apart, inserted-meets, append-aside, append-apart, append-meets, append-nothing}
use Rattle.plain_tree.proofs.Seams.{HaveLeafTexts, leaf-texts}
use Rattle.plain_tree.proofs.SeamTexts.{text, begins-first, valued-from}
use Rattle.plain_tree.proofs.TextsAt.{lawful-from, FirstText, first-text-is, no-first-text, TextBefore, some-before, none-before, last-text-is, no-last-text, all-but-last-is, from-end}

-- trees after such edits
abbrev pub turn_all : Trees → List Edit → Trees
turn_all ts [] = ts
turn_all ts (e ∷ es) = turn_all (made more e ts) es

-- all of them but the last leave a document with no more nodes
abbrev pub ButLast : Trees → List Edit → Type 0
ButLast ts [] = Unit {0}
ButLast ts (e ∷ []) = Unit {0}
ButLast ts (e ∷ f ∷ es) = BecomesDocument (made more e ts) × (node_count_all (made more e ts) ≤ node_count_all ts) × ButLast (made more e ts) (f ∷ es)

pub record Turns (ts : Trees) (es : List Edit) (us : Trees) : Type 0 where
  pub but_last : ButLast ts es
  pub last : us ≡ turn_all ts es

no-turn : (ts us : Trees) → us ≡ ts → Turns ts [] us
no-turn ts us e = record { but_last = tt; last = e }

one-turn : (e : Edit) (ts us : Trees) → us ≡ made more e ts → Turns ts (e ∷ []) us
one-turn e ts us is = record { but_last = tt; last = is }

first-turn : (e : Edit) (es : List Edit) (ts us : Trees) → BecomesDocument (made more e ts) → node_count_all (made more e ts) ≤ node_count_all ts → Turns (made more e ts) es us → Turns ts (e ∷ es) us
first-turn e [] ts us b c r = record { but_last = tt; last = r.last }
first-turn e (f ∷ es) ts us b c r = record { but_last = (b, c, r.but_last); last = r.last }

-- the documents on the way
in-turn : (most : ℕ) (es : List Edit) (t : Tree) → ButLast (more t none) es → BecomesDocument (turn_all (more t none) es) → node_count t ≤ most → node_count_all (turn_all (more t none) es) ≤ most
    → LeaveDocuments most t es × (turn_all (more t none) es ≡ more (in_turn t es) none)
in-turn most [] t w b c f = (tt, refl)
in-turn most (e ∷ []) t w b c f =
    let s = step-alone t e b in
    let n = ap node_count_all s.0 in
    ((s.1, omega (arith, n, f), tt), s.0)
in-turn most (e ∷ f ∷ es) t w b c l =
    let s = step-alone t e w.0 in
    let n = ap node_count_all s.0 in
    let few : node_count (placed t e) ≤ most = omega (arith, n, w.1, c) in
    let r = in-turn most (f ∷ es) (placed t e) (subst (λ us. ButLast us (f ∷ es)) s.0 w.2) (subst (λ us. BecomesDocument (turn_all us (f ∷ es))) s.0 b) few (subst (λ us. node_count_all (turn_all us (f ∷ es)) ≤ most) s.0 l) in
    ((s.1, few, r.0), ap (λ us. turn_all us (f ∷ es)) s.0 ∙ r.1)

-- a text that gets a value
module _ (ts : Trees) (b : BecomesDocument ts) (i : ℕ) (low : suc i < node_count_all ts) (x : List ℕ) (us : Trees) (here : from_node (suc i) ts ≡ more (text x) us) (w : List ℕ) (chars : AreChars w) (some : w ≢ []) where
  text-becomes : BecomesDocument (valued_at w (suc i) ts)
  text-becomes =
      let n = ap node_count_all b.is in
      subst (λ vs. BecomesDocument (valued_at w (suc i) vs)) (sym b.is)
      (valued-document b.tree b.document i (omega (arith, n, low)) x us (ap (from_node (suc i)) (sym b.is) ∙ here) w chars some)

  text-count : node_count_all (valued_at w (suc i) ts) ≡ node_count_all ts
  text-count = count-valued (suc i) ts low Text [] x none us here w

  value-turn : (es : List Edit) (vs : Trees) → Turns (valued_at w (suc i) ts) es vs → Turns ts (Value (suc i) w ∷ es) vs
  value-turn es vs r = first-turn (Value (suc i) w) es ts vs text-becomes (omega (arith, text-count)) r

some-and : (x y : List ℕ) → x ≢ [] → (x ++ y) ≢ []
some-and [] y s e = s refl
some-and (c ∷ x) y s e = absurd cc

insert-any : (F : List Tree) (n : ℕ) (ts : Trees) → n < node_count_all ts → Turns ts (insert_any n F) (inserted more (trees F) n ts)
insert-any [] n ts low = no-turn ts (inserted more none n ts) (changed-same (chained more none) n ts low refl)
insert-any (t ∷ F) n ts low = one-turn (Insert n (t ∷ F)) ts (inserted more (trees (t ∷ F)) n ts) refl

append-any : (F : List Tree) (n : ℕ) (ts : Trees) → n < node_count_all ts → Turns ts (append_any n F) (appended more (trees F) n ts)
append-any [] n ts low = no-turn ts (appended more none n ts) (append-nothing n ts low)
append-any (t ∷ F) n ts low = one-turn (Append n (t ∷ F)) ts (appended more (trees (t ∷ F)) n ts) refl

-- trees come before node n, of which the last may meet it
insert-turns : (F : List Tree) (ts : Trees) → BecomesDocument ts → AreLawfulTrees (trees F) → (i : ℕ) → suc i < node_count_all ts → (y z : Option (List ℕ)) → last_text (trees F) ≡ y → first_text (from_node (suc i) ts) ≡ z
    → Turns ts (insert_before (suc i) y z F) (changed more (chained join_front (trees F)) (suc i) ts)
insert-turns F ts b l i low None z e f =
    subst (Turns ts (insert_any (suc i) F)) (sym (inserted-apart (trees F) (suc i) ts low (no-last-text (trees F) e))) (insert-any F (suc i) ts low)
insert-turns F ts b l i low (Some y) None e f =
    subst (Turns ts (insert_any (suc i) F)) (sym (inserted-aside (trees F) (suc i) ts low (no-first-text (from_node (suc i) ts) f))) (insert-any F (suc i) ts low)
insert-turns F ts b l i low (Some y) (Some z) e f =
    let lawful : AreLawfulTrees ts = subst AreLawfulTrees (sym b.is) (b.document.lawful, tt) in
    let first = first-text-is (from_node (suc i) ts) z (lawful-from (suc i) ts low lawful) f in
    let last = last-text-is (trees F) y l e in
    let G : List Tree = all_but_last F in
    let V : Trees = valued_at (y ++ z) (suc i) ts in
    let count = text-count ts b i low z first.behind first.is (y ++ z) (more-chars y z last.chars first.chars) (some-and y z last.some) in
    let meets = ap (λ us. changed more (chained join_front us) (suc i) ts) (all-but-last-is F y l e) ∙ inserted-meets (trees G) y z first.behind (suc i) ts low first.is in
    value-turn ts b i low z first.behind first.is (y ++ z) (more-chars y z last.chars first.chars) (some-and y z last.some) (insert_any (suc i) G) (changed more (chained join_front (trees F)) (suc i) ts)
    (subst (Turns V (insert_any (suc i) G)) (sym meets) (insert-any G (suc i) V (omega (arith, count, low))))

module _ (t : Tree) (d : IsDocument t) where
  abbrev all : Trees
  all = more t none

  all-lawful : AreLawfulTrees all
  all-lawful = (d.lawful, tt)

  leaves : HaveLeafTexts all
  leaves = leaf-texts all all-lawful

  this : BecomesDocument all
  this = record { tree = t; is = refl; document = d }

  -- the text just before node n
  record FrontText (a : ℕ) (x : List ℕ) : Type 0 where
    i : ℕ
    number : a ≡ suc i
    there : TextBefore (from_node a all) x

  front-text : (a : ℕ) (x : List ℕ) → suc a < node_count t → text_before_node (suc a) all ≡ Some x → FrontText a x
  front-text zero x low e =
      let f = some-before all x all-lawful e in
      absurd (let g : none ≡ more f.next f.behind = let h = f.is in cc in cc)
  front-text (suc i) x low e = record { i = i; number = refl; there = some-before (from_node (suc i) all) x (lawful-from (suc i) all (omega arith) all-lawful) e }

  no-front : (a : ℕ) → text_before_node (suc a) all ≡ None → text_before (from_node a all) ≡ false
  no-front a e = none-before (from_node a all) e

  module _ (a : ℕ) (x : List ℕ) (low : suc a < node_count t) (f : FrontText a x) where
    low-front : a < node_count_all all
    low-front = omega arith

    low-here : suc a < node_count_all all
    low-here = omega arith

    -- what stands behind the text
    node-here : from_node (suc a) all ≡ more f.there.next f.there.behind
    node-here =
        let z : a + 1 ≡ suc a = omega arith in
        ap (λ (j : ℕ). from_node j all) (sym z) ∙ from-deeper a all low-front 0 (rw f.there.is (omega (arith, some-tree f.there.next))) ∙ ap (from_node 1) f.there.is
      where
        some-tree : (s : Tree) → 0 < node_count s
        some-tree (node k m v ks) = omega arith

    lawful-here : AreLawfulTrees (more f.there.next f.there.behind)
    lawful-here = subst AreLawfulTrees node-here (lawful-from (suc a) all low-here all-lawful)

    -- the text gets another value, and then there are other edits
    front-turn : (w : List ℕ) → AreChars w → w ≢ [] → (es : List Edit) (vs : Trees) → (BecomesDocument (valued_at w a all) → node_count_all (valued_at w a all) ≡ node_count_all all → Turns (valued_at w a all) es vs) → Turns all (Value (suc a - 1) w ∷ es) vs
    front-turn w chars some es vs r =
        let is : from_node (suc f.i) all ≡ more (text x) (more f.there.next f.there.behind) = ap (λ (j : ℕ). from_node j all) (sym f.number) ∙ f.there.is in
        let in-all : suc f.i < node_count_all all = let n = f.number in omega arith in
        let becomes = text-becomes all this f.i in-all x (more f.there.next f.there.behind) is w chars some in
        let count = text-count all this f.i in-all x (more f.there.next f.there.behind) is w chars some in
        let turns : Turns (valued_at w (suc f.i) all) es vs =
        subst (λ (j : ℕ). Turns (valued_at w j all) es vs) f.number (r (subst (λ (j : ℕ). BecomesDocument (valued_at w j all)) (sym f.number) becomes) (ap (λ (j : ℕ). node_count_all (valued_at w j all)) f.number ∙ count)) in
        let same : suc f.i ≡ suc a - 1 = let n = f.number in omega arith in
        subst (λ (j : ℕ). Turns all (Value j w ∷ es) vs) same (value-turn all this f.i in-all x (more f.there.next f.there.behind) is w chars some es vs turns)

  -- node n goes
  between : (i : ℕ) (x y : List ℕ) (k : Kind) (m v : List ℕ) (ks us : Trees) → from_node (suc i) all ≡ more (text x) (more (node k m v ks) (more (text y) us)) → suc (suc i) < node_count t
      → AreChars (x ++ y) → (x ++ y) ≢ [] → IsAllowed t (Delete (suc (suc i)))
      → Turns all (Value (suc i) (x ++ y) ∷ Delete (suc (suc i) + suc (node_count_all ks)) ∷ Delete (suc (suc i)) ∷ []) (made join_front (Delete (suc (suc i))) all)
  between i x y k m v ks us here low chars some allowed =
      let w : List ℕ = x ++ y in
      let V : Trees = valued_at w (suc i) all in
      let j : ℕ = suc (suc i) + suc (node_count_all ks) in
      let right = right-there t d i x y k m v ks us here low in
      let alone = (first-alone t d i x y k m v ks us here low chars some allowed).0 in
      let goes : BecomesDocument (made more (Delete j) V) = subst (λ vs. BecomesDocument (made more (Delete j) vs)) (sym alone) (right-becomes t d i x y k m v ks us here low chars some allowed) in
      let count = count-deleted j V right.0 Text [] y none us right.1 in
      value-turn all this i (omega (arith, low)) x (more (node k m v ks) (more (text y) us)) here w chars some (Delete j ∷ Delete (suc (suc i)) ∷ []) (made join_front (Delete (suc (suc i))) all)
      (first-turn (Delete j) (Delete (suc (suc i)) ∷ []) V (made join_front (Delete (suc (suc i))) all) goes (omega (arith, count))
      (one-turn (Delete (suc (suc i))) (made more (Delete j) V) (made join_front (Delete (suc (suc i))) all) (delete-between (suc i) all (omega (arith, low)) x k m v ks us y here)))

  delete-turns : (a : ℕ) → suc a < node_count t → IsAllowed t (Delete (suc a)) → (o p : Option (List ℕ)) → text_before_node (suc a) all ≡ o → first_text (others (from_node (suc a) all)) ≡ p
      → Turns all (delete_edits (suc a) (suc a + (node_count_all (first_kids (from_node (suc a) all)) + 1)) o p) (made join_front (Delete (suc a)) all)
  delete-turns a low allowed None p e g = one-turn (Delete (suc a)) all (made join_front (Delete (suc a)) all) (delete-apart a all (omega (arith, low)) leaves (no-front a e))
  delete-turns a low allowed (Some x) None e g =
      let f = front-text a x low e in
      let other = no-first-text f.there.behind (sym (ap (λ us. first_text (others us)) (node-here a x low f)) ∙ g) in
      one-turn (Delete (suc a)) all (made join_front (Delete (suc a)) all) (delete-aside a all (omega (arith, low)) x f.there.next f.there.behind f.there.is other)
  delete-turns a low allowed (Some x) (Some y) e g =
      let f = front-text a x low e in
      let lawful = lawful-here a x low f in
      let r = first-text-is f.there.behind y lawful.1 (sym (ap (λ us. first_text (others us)) (node-here a x low f)) ∙ g) in
      both f r f.there.next (f.there.is ∙ ap (λ us. more (text x) (more f.there.next us)) r.is) (node-here a x low f)
    where
      both : (f : FrontText a x) (r : FirstText f.there.behind y) (s : Tree) → from_node a all ≡ more (text x) (more s (more (text y) r.behind)) → from_node (suc a) all ≡ more s f.there.behind
          → Turns all (Value (suc a - 1) (x ++ y) ∷ Delete (suc a + (node_count_all (first_kids (from_node (suc a) all)) + 1)) ∷ Delete (suc a) ∷ []) (made join_front (Delete (suc a)) all)
      both f r (node k m v ks) here at =
          let kids : node_count_all (first_kids (from_node (suc a) all)) ≡ node_count_all ks = ap (λ us. node_count_all (first_kids us)) at in
          let there : from_node (suc f.i) all ≡ more (text x) (more (node k m v ks) (more (text y) r.behind)) = ap (λ (j : ℕ). from_node j all) (sym f.number) ∙ here in
          let n = f.number in
          let T = between f.i x y k m v ks r.behind there (omega (arith, low)) (more-chars x y f.there.chars r.chars) (some-and x y f.there.some) (subst (λ (j : ℕ). IsAllowed t (Delete (suc j))) f.number allowed) in
          numbers (suc f.i) (suc a - 1) (suc (suc f.i) + suc (node_count_all ks)) (suc a + (node_count_all (first_kids (from_node (suc a) all)) + 1)) (omega (arith, n)) (omega (arith, n, kids)) (sym f.number) T
        where
          numbers : (a' p q q' : ℕ) → a' ≡ p → q ≡ q' → a' ≡ a → Turns all (Value a' (x ++ y) ∷ Delete q ∷ Delete (suc a') ∷ []) (made join_front (Delete (suc a')) all)
              → Turns all (Value p (x ++ y) ∷ Delete q' ∷ Delete (suc a) ∷ []) (made join_front (Delete (suc a)) all)
          numbers a' p q q' first second third T =
              subst (λ (j : ℕ). Turns all (Value j (x ++ y) ∷ Delete q' ∷ Delete (suc a) ∷ []) (made join_front (Delete (suc a)) all)) (sym third ∙ first)
              (subst (λ (j : ℕ). Turns all (Value a (x ++ y) ∷ Delete j ∷ Delete (suc a) ∷ []) (made join_front (Delete (suc a)) all)) second
              (subst (λ (j : ℕ). Turns all (Value j (x ++ y) ∷ Delete q ∷ Delete (suc j) ∷ []) (made join_front (Delete (suc j)) all)) third T))

  -- an equal node comes before node n
  copy-turns : (a : ℕ) → suc a < node_count t → (s : Tree) (us : Trees) → from_node (suc a) all ≡ more s us → (o p : Option (List ℕ)) → text_before_node (suc a) all ≡ o → first_text (from_node (suc a) all) ≡ p
      → Turns all (copy_edits (suc a) o p) (made join_front (Copy (suc a)) all)
  copy-turns a low (node k m v ks) us here None None e g =
      one-turn (Copy (suc a)) all (made join_front (Copy (suc a)) all)
      (copy-apart a all (omega (arith, low)) leaves (no-front a e) k m v ks us here (other k m v ks us (no-first-text (from_node (suc a) all) g) here))
    where
      other : (k : Kind) (m v : List ℕ) (ks us : Trees) → begins_text (from_node (suc a) all) ≡ false → from_node (suc a) all ≡ more (node k m v ks) us → begins_text (more (node k m v ks) none) ≡ false
      other k m v ks us h is = begins-first (node k m v ks) none us ∙ sym (ap begins_text is) ∙ h
  copy-turns a low s us here None (Some z) e g =
      let r = first-text-is (from_node (suc a) all) z (lawful-from (suc a) all (omega (arith, low)) all-lawful) g in
      one-turn (Value (suc a) (z ++ z)) all (made join_front (Copy (suc a)) all) (copy-text a all (omega (arith, low)) leaves (no-front a e) z r.behind r.is)
  copy-turns a low s us here (Some x) None e g =
      let f = front-text a x low e in
      aside f f.there.next f.there.is (node-here a x low f)
    where
      aside : (f : FrontText a x) (s : Tree) → from_node a all ≡ more (text x) (more s f.there.behind) → from_node (suc a) all ≡ more s f.there.behind → Turns all (Copy (suc a) ∷ []) (made join_front (Copy (suc a)) all)
      aside f (node k m v ks) is at =
          let other : begins_text (more (node k m v ks) none) ≡ false = begins-first (node k m v ks) none f.there.behind ∙ sym (ap begins_text at) ∙ no-first-text (from_node (suc a) all) g in
          one-turn (Copy (suc a)) all (made join_front (Copy (suc a)) all) (copy-aside a all (omega (arith, low)) x k m v ks f.there.behind is other)
  copy-turns a low s us here (Some x) (Some z) e g =
      let f = front-text a x low e in
      let at = node-here a x low f in
      let r = first-text-is (more f.there.next f.there.behind) z (lawful-here a x low f) (sym (ap first_text at) ∙ g) in
      let w : List ℕ = x ++ (z ++ z) in
      front-turn a x low f w (more-chars x (z ++ z) f.there.chars (more-chars z z r.chars r.chars)) (some-and x (z ++ z) f.there.some) (Delete (suc a) ∷ []) (made join_front (Copy (suc a)) all)
      (λ b c. one-turn (Delete (suc a)) (valued_at w a all) (made join_front (Copy (suc a)) all) (copy-behind-text a all (omega (arith, low)) x z r.behind (f.there.is ∙ ap (more (text x)) r.is)))

  -- a text comes behind a text, and others behind it
  insert-more : (s r : Tree) (F : List Tree) → AreLawfulTrees (trees (s ∷ r ∷ F)) → (a : ℕ) → suc a < node_count t → (x y : List ℕ) (q : Option (List ℕ)) → text_before_node (suc a) all ≡ Some x → first_text (trees (s ∷ r ∷ F)) ≡ Some y
      → first_text (from_node (suc a) all) ≡ q
      → Turns all (Value (suc a - 1) (x ++ y) ∷ insert_before (suc a) (last_text (trees (r ∷ F))) q (r ∷ F)) (inserted join_front (trees (s ∷ r ∷ F)) (suc a) all)
  insert-more s r F l a low x y q e g h =
      let f = front-text a x low e in
      let m = first-text-is (trees (s ∷ r ∷ F)) y l g in
      let first : s ≡ text y = let i = m.is in cc in
      let w : List ℕ = x ++ y in
      let V : Trees = valued_at w a all in
      let at : first_text (from_node (suc a) V) ≡ q = ap first_text (valued-from a all x f.there.next f.there.behind f.there.is (omega (arith, low)) w ∙ sym (node-here a x low f)) ∙ h in
      let come = ap (λ u. inserted join_front (more u (trees (r ∷ F))) (suc a) all) first ∙ insert-front a all (omega (arith, low)) x f.there.next f.there.behind f.there.is y r (trees F) in
      front-turn a x low f w (more-chars x y f.there.chars m.chars) (some-and x y f.there.some) (insert_before (suc a) (last_text (trees (r ∷ F))) q (r ∷ F)) (inserted join_front (trees (s ∷ r ∷ F)) (suc a) all)
      (λ b c. subst (Turns V (insert_before (suc a) (last_text (trees (r ∷ F))) q (r ∷ F))) (sym come)
      (insert-turns (r ∷ F) V b l.1 a (omega (arith, c, low)) (last_text (trees (r ∷ F))) q refl at))

  -- trees come before node n
  insert-turns-at : (F : List Tree) → AreLawfulTrees (trees F) → trees F ≢ none → (a : ℕ) → suc a < node_count t → (o p q : Option (List ℕ)) → text_before_node (suc a) all ≡ o → first_text (trees F) ≡ p → first_text (from_node (suc a) all) ≡ q
      → Turns all (insert_edits (suc a) o p q F) (inserted join_front (trees F) (suc a) all)
  insert-turns-at F l n a low None p q e g h =
      subst (Turns all (insert_before (suc a) (last_text (trees F)) q F)) (sym (insert-apart a all (omega (arith, low)) leaves (no-front a e) (trees F)))
      (insert-turns F all this l a (omega (arith, low)) (last_text (trees F)) q refl h)
  insert-turns-at [] l n a low (Some x) None q e g h = absurd (n refl)
  insert-turns-at (s ∷ F) l n a low (Some x) None q e g h =
      let f = front-text a x low e in
      subst (Turns all (insert_before (suc a) (last_text (trees (s ∷ F))) q (s ∷ F))) (sym (insert-aside a all (omega (arith, low)) x f.there.next f.there.behind f.there.is s (trees F) (no-first-text (trees (s ∷ F)) g)))
      (insert-turns (s ∷ F) all this l a (omega (arith, low)) (last_text (trees (s ∷ F))) q refl h)
  insert-turns-at [] l n a low (Some x) (Some y) q e g h = absurd cc
  insert-turns-at (s ∷ []) l n a low (Some x) (Some y) None e g h =
      let f = front-text a x low e in
      let r = first-text-is (trees (s ∷ [])) y l g in
      let only : s ≡ text y = let i = r.is in cc in
      let other : begins_text (more f.there.next f.there.behind) ≡ false = sym (ap begins_text (node-here a x low f)) ∙ no-first-text (from_node (suc a) all) h in
      front-turn a x low f (x ++ y) (more-chars x y f.there.chars r.chars) (some-and x y f.there.some) [] (inserted join_front (trees (s ∷ [])) (suc a) all)
      (λ b c. no-turn (valued_at (x ++ y) a all) (inserted join_front (trees (s ∷ [])) (suc a) all)
      (ap (λ u. inserted join_front (more u none) (suc a) all) only ∙ insert-text a all (omega (arith, low)) x f.there.next f.there.behind f.there.is y other))
  insert-turns-at (s ∷ []) l n a low (Some x) (Some y) (Some z) e g h =
      let f = front-text a x low e in
      let r = first-text-is (trees (s ∷ [])) y l g in
      let only : s ≡ text y = let i = r.is in cc in
      let at = node-here a x low f in
      let m = first-text-is (more f.there.next f.there.behind) z (lawful-here a x low f) (sym (ap first_text at) ∙ h) in
      let w : List ℕ = x ++ (y ++ z) in
      front-turn a x low f w (more-chars x (y ++ z) f.there.chars (more-chars y z r.chars m.chars)) (some-and x (y ++ z) f.there.some) (Delete (suc a) ∷ []) (inserted join_front (trees (s ∷ [])) (suc a) all)
      (λ b c. one-turn (Delete (suc a)) (valued_at w a all) (inserted join_front (trees (s ∷ [])) (suc a) all)
      (ap (λ u. inserted join_front (more u none) (suc a) all) only ∙ insert-between a all (omega (arith, low)) x z m.behind (f.there.is ∙ ap (more (text x)) m.is) y))
  insert-turns-at (s ∷ r ∷ F) l n a low (Some x) (Some y) None e g h = insert-more s r F l a low x y None e g h
  insert-turns-at (s ∷ r ∷ F) l n a low (Some x) (Some y) (Some z) e g h = insert-more s r F l a low x y (Some z) e g h

  -- trees come behind the last kid of node n
  append-turns : (F : List Tree) → AreLawfulTrees (trees F) → trees F ≢ none → (n : ℕ) → n < node_count t → (k : Kind) (m v : List ℕ) (ks us : Trees) → from_node n all ≡ more (node k m v ks) us → (o p : Option (List ℕ)) → last_text ks ≡ o → first_text (trees F) ≡ p
      → Turns all (append_edits n (n + node_count_all ks) o p F) (appended join_front (trees F) n all)
  append-turns F l some n low k m v ks us here None p e g =
      subst (Turns all (append_any n F)) (sym (append-apart (trees F) n all (omega (arith, low)) k m v us ks here (no-last-text ks e))) (append-any F n all (omega (arith, low)))
  append-turns F l some n low k m v ks us here (Some x) None e g =
      subst (Turns all (append_any n F)) (sym (append-aside (trees F) n all (omega (arith, low)) (no-first-text (trees F) g))) (append-any F n all (omega (arith, low)))
  append-turns [] l some n low k m v ks us here (Some x) (Some y) e g = absurd (some refl)
  append-turns (s ∷ F) l some n low k m v ks us here (Some x) (Some y) e g =
      let in-all : n < node_count_all all = omega (arith, low) in
      let lawful = subst AreLawfulTrees here (lawful-from n all in-all all-lawful) in
      let last = last-text-is ks x lawful.0.2 e in
      let first = first-text-is (trees (s ∷ F)) y l g in
      let only : s ≡ text y = let i = first.is in cc in
      let c : ℕ = node_count_all last.front in
      let w : List ℕ = x ++ y in
      let count-kids : node_count_all ks ≡ c + 1 = ap node_count_all last.is ∙ omega (arith, count-chained last.front (more (text x) none)) in
      let here' : from_node n all ≡ more (node k m v (chained more last.front (more (text x) none))) us = here ∙ ap (λ js. more (node k m v js) us) last.is in
      let size : node_count_all (from_node n all) ≡ node_count_all (more (node k m v ks) us) = ap node_count_all here in
      let z : n + suc c ≡ suc (n + c) = omega arith in
      let y' : n + node_count_all ks ≡ suc (n + c) = omega (arith, count-kids) in
      let kid : from_node (suc (n + c)) all ≡ more (text x) none =
      ap (λ (j : ℕ). from_node j all) (sym z) ∙ from-deeper n all in-all c (omega (arith, size, count-kids)) ∙ ap (from_node (suc c)) here ∙ from-inside k m v ks us c (omega (arith, count-kids))
      ∙ ap (from_node c) last.is ∙ from-end last.front (more (text x) none) in
      let some-in = some-from n all in-all in
      let kid-in : suc (n + c) < node_count_all all = omega (arith, some-in.1, size, count-kids) in
      let chars = more-chars x y last.chars first.chars in
      let count = text-count all this (n + c) kid-in x none kid w chars (some-and x y last.some) in
      let V : Trees = valued_at w (suc (n + c)) all in
      let come : appended join_front (trees (s ∷ F)) n all ≡ appended more (trees F) n V =
      ap (λ u. appended join_front (more u (trees F)) n all) only ∙ append-meets (trees F) n all in-all k m v us last.front x y here' ∙ ap (λ (j : ℕ). appended more (trees F) n (valued_at w j all)) z in
      subst (λ (j : ℕ). Turns all (Value j w ∷ append_any n F) (appended join_front (trees (s ∷ F)) n all)) (sym y')
      (value-turn all this (n + c) kid-in x none kid w chars (some-and x y last.some) (append_any n F) (appended join_front (trees (s ∷ F)) n all)
      (subst (Turns V (append_any n F)) (sym come) (append-any F n V (omega (arith, count, in-all)))))

  -- an edit comes to plain edits
  edit-turns : (e : Edit) → IsAllowed t e → AreLawfulParts e → Turns all (plain_edits t e) (made join_front e all)
  edit-turns e allowed parts = of e allowed (stands t e allowed) parts
    where
      of : (e : Edit) → IsAllowed t e → Stands t e → AreLawfulParts e → Turns all (plain_edits t e) (made join_front e all)
      of (Rename n x) h s parts = one-turn (Rename n x) all (made join_front (Rename n x) all) refl
      of (Value n w) h s parts = one-turn (Value n w) all (made join_front (Value n w) all) refl
      of (Attr n x w) h s parts = one-turn (Attr n x w) all (made join_front (Attr n x w) all) refl
      of (Delete zero) h s parts = absurd (subst (IsAllowedAt (Delete zero)) (root-place t d s.place s.there) s.allowed)
      of (Delete (suc a)) h s parts = delete-turns a (omega (arith, place-low None none (suc a) all s.place s.there)) h (text_before_node (suc a) all) (first_text (others (from_node (suc a) all))) refl refl
      of (Copy zero) h s parts = absurd ((subst (IsAllowedAt (Copy zero)) (root-place t d s.place s.there) s.allowed).1)
      of (Copy (suc a)) h s parts =
          copy-turns a (omega (arith, place-low None none (suc a) all s.place s.there)) s.place.here s.place.behind (place-from None none (suc a) all s.place s.there) (text_before_node (suc a) all) (first_text (from_node (suc a) all)) refl refl
      of (Insert zero F) h s parts = absurd ((subst (IsAllowedAt (Insert zero F)) (root-place t d s.place s.there) s.allowed).1)
      of (Insert (suc a) F) h s parts =
          insert-turns-at F parts.1.1 parts.0 a (omega (arith, place-low None none (suc a) all s.place s.there)) (text_before_node (suc a) all) (first_text (trees F)) (first_text (from_node (suc a) all)) refl refl refl
      of (Append n F) h s parts = append-there s.place.here (place-from None none n all s.place s.there)
        where
          append-there : (r : Tree) → from_node n all ≡ more r s.place.behind → Turns all (plain_edits t (Append n F)) (made join_front (Append n F) all)
          append-there (node k m v ks) here =
              subst (λ us. Turns all (append_edits n (n + node_count_all (first_kids us)) (last_text (first_kids us)) (first_text (trees F)) F) (appended join_front (trees F) n all)) (sym here)
              (append-turns F parts.1.1 parts.0 n (omega (arith, place-low None none n all s.place s.there)) k m v ks s.place.behind here (last_text ks) (first_text (trees F)) refl refl)

first-of : (s t : Tree) → more s none ≡ more t none → s ≡ t
first-of s t e = cc

pub plain-edits-in-turn : PlainEditsInTurn
plain-edits-in-turn t e h =
    let r = edit-turns t h.document_is e h.allowed h.parts in
    let alone = edited-alone t h.document_is e h.allowed h.parts in
    let is : turn_all (more t none) (plain_edits t e) ≡ more (edited t e) none = sym r.last ∙ alone.0 in
    let b : BecomesDocument (turn_all (more t none) (plain_edits t e)) = record { tree = edited t e; is = is; document = alone.1 } in
    let size = ap node_count_all is in
    let way = in-turn (max (node_count t) (node_count (edited t e))) (plain_edits t e) t r.but_last b (omega arith) (omega (arith, size)) in
    (way.0, first-of (in_turn t (plain_edits t e)) (edited t e) (sym way.1 ∙ is))

-- after each of them the list of the document has it alone
abbrev pub AreAlone : Tree → List Edit → Type 0
AreAlone t [] = Unit {0}
AreAlone t (e ∷ es) = BecomesDocument (made more e (more t none)) × AreAlone (placed t e) es

steps-alone : (es : List Edit) (t : Tree) → ButLast (more t none) es → BecomesDocument (turn_all (more t none) es) → AreAlone t es
steps-alone [] t w b = tt
steps-alone (e ∷ []) t w b = (b, tt)
steps-alone (e ∷ f ∷ es) t w b =
    let s = step-alone t e w.0 in
    (w.0, steps-alone (f ∷ es) (placed t e) (subst (λ us. ButLast us (f ∷ es)) s.0 w.2) (subst (λ us. BecomesDocument (turn_all us (f ∷ es))) s.0 b))

pub plain-edits-alone : (t : Tree) (e : Edit) → IsEditOf t e → AreAlone t (plain_edits t e)
plain-edits-alone t e h =
    let r = edit-turns t h.document_is e h.allowed h.parts in
    steps-alone (plain_edits t e) t r.but_last (subst BecomesDocument r.last (edited-becomes t h.document_is e h.allowed h.parts))
