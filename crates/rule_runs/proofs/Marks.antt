-- What is open on the way through a body, mark by mark.
use Rattle.std.proofs.Common.{◌≡◌, ℕ, suc, ◌+◌, ◌<◌, List, [], ◌∷◌, ◌++◌, length, get_or, drop, Some, None, Vec, Global, refl, sym, ap, ◌∙◌, arith, get_or-drop, add_comm}
use Rattle.std.proofs.lemmas.List.{drop_more, drop_all, length-drop, length-map, length_push, get_or_push, get_or_append_left, get_or-map}
use Rattle.rule_runs.specs.declared.descent.Mark.{Mark}
use Rattle.rule_runs.specs.declared.descent.Mark.TheVariants.{Term as MarkTerm, Piece as MarkPiece}
use Rattle.rule_runs.specs.declared.listing.Part.{Part}
use Rattle.rule_runs.specs.declared.spots.Handed.{Handed}
use Rattle.rule_runs.specs.declared.told.Here.{Here}
use Rattle.rule_runs.specs.declared.told.Told.{Told}
use Rattle.rule_runs.specs.Cuts.{Stretch, nothing, beside}
use Rattle.rule_runs.specs.Tellings.{Listed, extended, Tells, IsTelling, AreTold}
use Rattle.rule_runs.specs.Walks.{Open, Place, Piece, absorbed, after, down_at, places, downs_of, woven_marks}
use Rattle.rule_runs.specs.Descents.{AreOpen, IsNext, IsAbsorbing}
use Rattle.rule_runs.specs.Outcomes.{Outcome, befores, downs_handed, tolds}
use Rattle.rule_runs.proofs.Tellings.{tells-more, told-at, length-told}

-- what is open, by its first place
pub down-is : {D : Type 0} (start : D) (ms : List (Open D)) → down_at start ms ≡ get_or (downs_of ms) 0 start
down-is start [] = refl
down-is start (Place d ∷ ms) = refl
down-is start (Piece s ∷ ms) = down-is start ms

pub places-are : {D : Type 0} (ms : List (Open D)) → places ms ≡ length (downs_of ms)
places-are [] = refl
places-are (Place d ∷ ms) = ap suc (places-are ms)
places-are (Piece s ∷ ms) = places-are ms

pub downs-woven : {D : Type 0} (ds : List D) (ss : List Stretch) (ms : List (Open D)) → downs_of (woven_marks ds ss ++ ms) ≡ ds ++ downs_of ms
downs-woven [] ss ms = refl
downs-woven (d ∷ ds) [] ms = ap (λ x. d ∷ x) (downs-woven ds [] ms)
downs-woven (d ∷ ds) (s ∷ ss) ms = ap (λ x. d ∷ x) (downs-woven ds ss ms)

pub open-term : {D : Type 0} (lists : Listed) (d : D) (marks : List (Mark D)) (ms : List (Open D)) → AreOpen lists (MarkTerm d ∷ marks) ms → (rest : List (Open D)) × (ms ≡ Place d ∷ rest) × AreOpen lists marks rest
open-term lists d marks [] o = absurd o
open-term lists d marks (Piece s ∷ ms) o = absurd o
open-term lists d marks (Place e ∷ ms) o = (ms, ap (λ x. Place x ∷ ms) (sym o.0), o.1)

pub open-piece : {D : Type 0} (lists : Listed) (t : Told) (marks : List (Mark D)) (ms : List (Open D)) → AreOpen lists (MarkPiece t ∷ marks) ms → (s : Stretch) × (rest : List (Open D)) × (ms ≡ Piece s ∷ rest) × Tells lists t s × AreOpen lists marks rest
open-piece lists t marks [] o = absurd o
open-piece lists t marks (Place d ∷ ms) o = absurd o
open-piece lists t marks (Piece s ∷ ms) o = (s, ms, refl, o.0, o.1)

pub open-none : {D : Type 0} (lists : Listed) (ms : List (Open D)) → AreOpen lists [] ms → ms ≡ []
open-none lists [] o = refl
open-none lists (m ∷ ms) o = absurd o

pub open-more : {D : Type 0} (lists : Listed) (more : List (Vec Part Global)) (marks : List (Mark D)) (ms : List (Open D)) → AreOpen lists marks ms → AreOpen (extended lists more) marks ms
open-more lists more [] [] o = tt
open-more lists more [] (m ∷ ms) o = absurd o
open-more lists more (MarkTerm d ∷ xs) [] o = absurd o
open-more lists more (MarkTerm d ∷ xs) (Piece s ∷ ms) o = absurd o
open-more lists more (MarkTerm d ∷ xs) (Place e ∷ ms) o = (o.0, open-more lists more xs ms o.1)
open-more lists more (MarkPiece t ∷ xs) [] o = absurd o
open-more lists more (MarkPiece t ∷ xs) (Place d ∷ ms) o = absurd o
open-more lists more (MarkPiece t ∷ xs) (Piece s ∷ ms) o = (tells-more lists more t s o.0, open-more lists more xs ms o.1)

-- the way to the next term, mark by mark
module _ {D : Type 0} (lists : Listed) (s : Stretch) (ms : List (Open D)) where
  pub absorbing-start : (marks : List (Mark D)) (here : Here) → IsTelling lists here s → AreOpen lists marks ms → IsAbsorbing lists s ms marks here
  absorbing-start marks here i o = record { now = s; left = ms; telling = i; marked = o; same_stretch = refl; same_rest = refl; same_downs = refl }

  pub absorbing-piece : (t : Told) (marks : List (Mark D)) (here here' : Here) → IsAbsorbing lists s ms (MarkPiece t ∷ marks) here → ((a b : Stretch) → IsTelling lists here a → Tells lists t b → IsTelling lists here' (beside a b)) → IsAbsorbing lists s ms marks here'
  absorbing-piece t marks here here' a absorb =
      let p = open-piece lists t marks a.left a.marked in
      record {
        now = beside a.now p.0;
        left = p.1;
        telling = absorb a.now p.0 a.telling p.3;
        marked = p.4;
        same_stretch = a.same_stretch ∙ ap (absorbed a.now) p.2;
        same_rest = a.same_rest ∙ ap after p.2;
        same_downs = a.same_downs ∙ ap downs_of p.2;
      }

  pub absorbing-term : (d : D) (marks : List (Mark D)) (here : Here) → IsAbsorbing lists s ms (MarkTerm d ∷ marks) here → IsNext lists (Some d) s ms marks here
  absorbing-term d marks here a =
      let p = open-term lists d marks a.left a.marked in
      let r : after ms ≡ p.0 = a.same_rest ∙ ap after p.1 in
      record {
        telling = rw (a.same_stretch ∙ ap (absorbed a.now) p.1) a.telling;
        marked = rw r p.2;
        is = a.same_downs ∙ ap downs_of p.1 ∙ ap (λ x. d ∷ downs_of x) (sym r);
      }

  pub absorbing-end : (here : Here) → IsAbsorbing lists s ms [] here → IsNext lists None s ms [] here
  absorbing-end here a =
      let e = open-none lists a.left a.marked in
      record {
        telling = rw (a.same_stretch ∙ ap (absorbed a.now) e) a.telling;
        marked = rw (a.same_rest ∙ ap after e) tt;
        is = a.same_downs ∙ ap downs_of e;
      }

-- a call's arguments are opened from the last one on
pub woven-more : {D : Type 0} (lists : Listed) (told_items : List Told) (hands : List D) (left : ℕ) (marks : List (Mark D)) (ms : List (Open D)) (ss : List Stretch) (d : D) (t : Told)
    → AreTold lists told_items ss → length told_items ≡ length hands + 1 → left < length hands → d ≡ get_or hands left d → t ≡ get_or told_items (left + 1) t
    → AreOpen lists marks (woven_marks (drop (left + 1) hands) (drop (left + 1) (drop 1 ss)) ++ ms)
    → AreOpen lists (MarkTerm d ∷ MarkPiece t ∷ marks) (woven_marks (drop left hands) (drop left (drop 1 ss)) ++ ms)
woven-more lists told_items hands left marks ms ss d t a n lt d-is t-is o =
    let l = length-told lists told_items ss a in
    let m : length (drop 1 ss) ≡ length hands = omega (arith, length-drop 1 ss) in
    let dh : drop left hands ≡ d ∷ drop (left + 1) hands = drop_more hands left d lt ∙ ap (λ x. x ∷ drop (left + 1) hands) (sym d-is) in
    let x : Stretch = get_or (drop 1 ss) left nothing in
    let ds : drop left (drop 1 ss) ≡ x ∷ drop (left + 1) (drop 1 ss) = drop_more (drop 1 ss) left nothing (omega arith) in
    let k : x ≡ get_or ss (left + 1) nothing = get_or-drop 1 ss left nothing ∙ ap (λ i. get_or ss i nothing) (add_comm 1 left) in
    let tells : Tells lists t x = rw k (told-at lists told_items ss (left + 1) t a (omega arith) t-is) in
    rw (dh, ds) (refl, (tells, o))

-- what an outcome tells, by its parameters
module _ {D : Type 0} (o : Outcome D) where
  pub length-tolds : length (tolds o) ≡ length (downs_handed o.handed) + 1
  length-tolds = omega (arith, length_push (befores o.handed) o.last, length-map o.handed (λ h. h.before), length-map o.handed (λ h. h.down))

  pub told-last : (n : ℕ) → n ≡ length o.handed → o.last ≡ get_or (tolds o) n o.last
  told-last n e = sym (get_or_push (befores o.handed) o.last o.last n (length-map o.handed (λ h. h.before) ∙ sym e))

  pub told-before : (i : ℕ) (h : Handed D) → i < length o.handed → h ≡ get_or o.handed i h → h.before ≡ get_or (tolds o) i h.before
  told-before i h lt e =
      sym (get_or_append_left (befores o.handed) (o.last ∷ []) h.before i (omega (arith, length-map o.handed (λ h. h.before))) ∙ get_or-map (λ (x : Handed D). x.before) o.handed i h h.before lt ∙ ap (λ (x : Handed D). x.before) (sym e))

  pub down-handed : (i : ℕ) (h : Handed D) (d : D) → i < length o.handed → h ≡ get_or o.handed i h → d ≡ h.down → d ≡ get_or (downs_handed o.handed) i d
  down-handed i h d lt e is =
      is ∙ ap (λ (x : Handed D). x.down) e ∙ sym (get_or-map (λ (x : Handed D). x.down) o.handed i h d lt)

  -- behind the last argument nothing is opened yet
  pub woven-none : (lists : Listed) (n : ℕ) (marks : List (Mark D)) (ms : List (Open D)) (ss : List Stretch) → n ≡ length o.handed → AreOpen lists marks ms
      → AreOpen lists marks (woven_marks (drop n (downs_handed o.handed)) (drop n (drop 1 ss)) ++ ms)
  woven-none lists n marks ms ss e opened =
      let z : drop n (downs_handed o.handed) ≡ [] = drop_all n (downs_handed o.handed) (omega (arith, length-map o.handed (λ h. h.down))) in
      rw z opened
