-- Places of models are added to the rows of symbols.
use Rattle.std.proofs.Common.{◌≡◌, ℕ, zero, suc, ◌+◌, ◌<◌, ◌≤◌, ◌≢◌, ◌^◌, List, [], ◌∷◌, ◌++◌, Option, Some, None, slice_get, length, get_or, set, reverse, refl, ap, sym, subst, ◌∙◌, arith, drop}
use Rattle.std.specs.Prelude.{◌==◌, Bool, true, false, ◌||◌, ◌&&◌}
use Rattle.std.specs.List.{list_any}
use Rattle.std.specs.Str.{bytes_eq}
use Rattle.std.proofs.lemmas.Bool.{eqb-true, eq-eqb, false≢true, false_from_ne_true}
use Rattle.std.proofs.lemmas.List.Folds.{list_any-append}
use Rattle.std.proofs.lemmas.Slice.Eq.{bytes_eq-Decides}
use Rattle.plain_tree.specs.declared.kind.Kind.{Kind}
use Rattle.plain_tree.specs.declared.kind.Kind.TheVariants.{Element}
use Rattle.plain_tree.specs.NameTable.{AreDistinct}
use Rattle.content_models.specs.declared.postfix.Op.{Op}
use Rattle.content_models.specs.declared.postfix.Op.TheVariants.{Push, PushNothing, Join, Choose, MakeOptional, MakeAny, MakeSome}
use Rattle.content_models.specs.declared.ways.Front.{Front}
use Rattle.content_models.specs.declared.ways.Spot.{Spot}
use Rattle.content_models.specs.declared.ways.Way.{Way}
use Rattle.content_models.specs.Compiled.{any_place, any_spot}
use Rattle.content_models.specs.Compiling.{Adds, AddsOne, Step, all_places, backward, forward, fronts_left, fronts_after, operand, place_on, places_after, steps_of, ways_before}
use Rattle.content_models.specs.Models.{Model}
use Rattle.content_models.specs.Postfix.{code_on, names_in_code}
use Rattle.content_models.specs.Ways.{Place, front_of, places_of, to_end}
use Rattle.std.proofs.lemmas.List.{length-append, reverse-append}
use Rattle.content_models.specs.Compiling.{no_front, top_of}
use Rattle.content_models.proofs.Passes.{backward-longer, code-front, code-places}
use Rattle.content_models.proofs.PostfixCode.{names_first}

abbrev Table : Type 0
Table = List (Kind × List ℕ)

abbrev Rows : Type 0
Rows = List (List Spot)

no_pair : (p : Kind × List ℕ) → ◌≡◌ {A = Option (Kind × List ℕ)} None (Some p) → ⊥
no_pair p e = cc

pair_name : (p : Kind × List ℕ) (k : Kind) (n : List ℕ) → ◌≡◌ {A = Option (Kind × List ℕ)} (Some p) (Some (k, n)) → p.1 ≡ n
pair_name p k n e = ap (λ (o : Option (Kind × List ℕ)). elim o [ Some q ↦ q.1 | None ↦ n ]) e

pub in_table : (names : Table) (f : ℕ) (p : Kind × List ℕ) → slice_get names f ≡ Some p → f < length names
in_table [] f p e = absurd (no_pair p e)
in_table (q ∷ names) zero p e = omega arith
in_table (q ∷ names) (suc f) p e = omega (arith, in_table names f p e)

row-same : (rows : Rows) (f : ℕ) (row : List Spot) → f < length rows → get_or (set rows f row) f [] ≡ row
row-same [] f row l = absurd (omega arith)
row-same (r ∷ rows) zero row l = refl
row-same (r ∷ rows) (suc f) row l = row-same rows f row (omega arith)

row-other : (rows : Rows) (f g : ℕ) (row : List Spot) → g ≢ f → get_or (set rows g row) f [] ≡ get_or rows f []
row-other [] f g row n = refl
row-other (r ∷ rows) zero zero row n = absurd (n refl)
row-other (r ∷ rows) zero (suc g) row n = refl
row-other (r ∷ rows) (suc f) zero row n = refl
row-other (r ∷ rows) (suc f) (suc g) row n = row-other rows f g row (λ e. n (ap suc e))

or_none : (b : Bool) → (b || false) ≡ b
or_none true = refl
or_none false = refl

-- a spot of the name's symbol
pub adds-one : (names : Table) (own : List ℕ) (spot : Spot) (old : Rows) (s : ℕ) → slice_get names s ≡ Some (Element, own) → AreDistinct names → length old ≡ length names
    → AddsOne names own spot old (set old s (get_or old s [] ++ spot ∷ []))
adds-one names own spot old s e d l f name g test = by_symbol (s == f) refl where
  new : List Spot
  new = get_or old s [] ++ spot ∷ []

  by_symbol : (b : Bool) → (s == f) ≡ b → list_any test (get_or (set old s new) f []) ≡ (list_any test (get_or old f []) || (bytes_eq own name && test spot))
  by_symbol true h =
      let same = eqb-true s f h in
      let names_same : own ≡ name = pair_name (Element, own) Element name (sym e ∙ ap (slice_get names) same ∙ g) in
      ap (λ k. list_any test (get_or (set old s new) k [])) (sym same)
      ∙ ap (list_any test) (row-same old s new (omega (arith, l, in_table names s (Element, own) e)))
      ∙ list_any-append test (get_or old s []) (spot ∷ [])
      ∙ ap (λ b. list_any test (get_or old s []) || b) (or_none (test spot))
      ∙ ap (λ b. list_any test (get_or old s []) || (b && test spot)) (sym ((bytes_eq-Decides own name).1 names_same))
      ∙ ap (λ k. list_any test (get_or old k []) || (bytes_eq own name && test spot)) same
  by_symbol false h =
      let apart : s ≢ f = λ z. false≢true (sym h ∙ eq-eqb s f z) in
      let other : bytes_eq own name ≡ false = false_from_ne_true (bytes_eq own name) (λ z. apart (d Element own s f e (g ∙ ap (λ n. Some (Element, n)) (sym ((bytes_eq-Decides own name).0 z))))) in
      ap (list_any test) (row-other old f s new apart)
      ∙ sym (ap (λ b. list_any test (get_or old f []) || (b && test spot)) other ∙ or_none (list_any test (get_or old f [])))

-- the places of one operation, and those behind
place-count : (op : Op) (w : Way) (ps : List Place) → length (place_on op w ps) ≡ names_in_code (op ∷ []) + length ps
place-count (Push n) w ps = omega arith
place-count PushNothing w ps = omega arith
place-count Join w ps = omega arith
place-count Choose w ps = omega arith
place-count MakeOptional w ps = omega arith
place-count MakeAny w ps = omega arith
place-count MakeSome w ps = omega arith

place-any : (op : Op) (w : Way) (ps : List Place) (name : List ℕ) (test : Spot → Bool) (i first at : ℕ) → first + names_in_code (op ∷ []) ≡ at
    → any_place name test i first (place_on op w ps) ≡ (any_place name test i first (place_on op w []) || any_place name test i at ps)
place-any (Push n) w ps name test i first at e =
    let next : suc first ≡ at = omega (arith, e) in
    ap (λ k. (bytes_eq n name && test (record { model = i; bit = 2 ^ first; next = w })) || any_place name test i k ps) next
    ∙ ap (λ b. b || any_place name test i at ps) (sym (or_none (bytes_eq n name && test (record { model = i; bit = 2 ^ first; next = w }))))
place-any PushNothing w ps name test i first at e = ap (λ k. any_place name test i k ps) (omega (arith, e))
place-any Join w ps name test i first at e = ap (λ k. any_place name test i k ps) (omega (arith, e))
place-any Choose w ps name test i first at e = ap (λ k. any_place name test i k ps) (omega (arith, e))
place-any MakeOptional w ps name test i first at e = ap (λ k. any_place name test i k ps) (omega (arith, e))
place-any MakeAny w ps name test i first at e = ap (λ k. any_place name test i k ps) (omega (arith, e))
place-any MakeSome w ps name test i first at e = ap (λ k. any_place name test i k ps) (omega (arith, e))

swap : (a b c : Bool) → ((a || b) || c) ≡ (a || (c || b))
swap true b c = refl
swap false true true = refl
swap false true false = refl
swap false false true = refl
swap false false false = refl

adds-place : (names : Table) (i first at : ℕ) (op : Op) (w : Way) (ps : List Place) (old mid new : Rows) → first + names_in_code (op ∷ []) ≡ at
    → Adds names i at ps old mid → Adds names i first (place_on op w []) mid new → Adds names i first (place_on op w ps) old new
adds-place names i first at op w ps old mid new e a b = λ f name g test.
    b f name g test ∙ ap (λ x. x || any_place name test i first (place_on op w [])) (a f name g test)
    ∙ swap (list_any test (get_or old f [])) (any_place name test i at ps) (any_place name test i first (place_on op w []))
    ∙ ap (λ x. list_any test (get_or old f []) || x) (sym (place-any op w ps name test i first at e))

-- the pass backward: these places were added
pub record Placed (names : Table) (i : ℕ) (code : List Op) (fronts : List Front) (old rows : Rows) (at : ℕ) (ways : List Way) (left : ℕ) : Type 0 where
  pub places : List Place
  pub whole : backward ways (steps_of code fronts left) places ≡ all_places code fronts
  pub count : at + length places ≡ names_in_code code
  pub added : Adds names i at places old rows
  pub same : length rows ≡ length old

pub placed-begins : (names : Table) (i : ℕ) (code : List Op) (fronts : List Front) (rows : Rows) (ways : List Way) → ways ≡ to_end ∷ [] → Placed names i code fronts rows rows (names_in_code code) ways (length code)
placed-begins names i code fronts rows ways e = record {
  places = [];
  whole = ap (λ ws. backward ws (steps_of code fronts (length code)) []) e;
  count = omega arith;
  added = λ f name g test. sym (or_none (list_any test (get_or rows f [])));
  same = refl;
}

-- an operation's places are still wanted
pub placed-room : (names : Table) (i : ℕ) (code : List Op) (fronts : List Front) (old rows : Rows) (at : ℕ) (ways rest : List Way) (way : Way) (left k : ℕ) (op : Op)
    → length (all_places code fronts) ≡ names_in_code code → ways ≡ way ∷ rest → left ≡ suc k → op ≡ get_or code k PushNothing → Placed names i code fronts old rows at ways left → names_in_code (op ∷ []) ≤ at
placed-room names i code fronts old rows at ways rest way left k op t w l o p =
    let here = get_or code k PushNothing in
    let front = get_or fronts k no_front in
    let e : all_places code fronts ≡ backward (ways_before here front way rest) (steps_of code fronts k) (place_on here way p.places) =
    sym p.whole ∙ ap (λ ws. backward ws (steps_of code fronts left) p.places) w ∙ ap (λ n. backward (way ∷ rest) (steps_of code fronts n) p.places) l in
    let long = backward-longer (ways_before here front way rest) (steps_of code fronts k) (place_on here way p.places) in
    subst (λ x. names_in_code (x ∷ []) ≤ at) (sym o) (omega (arith, long, ap length e, t, p.count, place-count here way p.places))

pub placed-on : (names : Table) (i : ℕ) (code : List Op) (fronts : List Front) (old rows new : Rows) (at first : ℕ) (ways rest after : List Way) (way : Way) (left k : ℕ) (op : Op) (front : Front)
    → ways ≡ way ∷ rest → left ≡ suc k → op ≡ get_or code k PushNothing → front ≡ get_or fronts k no_front
    → first + names_in_code (op ∷ []) ≡ at → Adds names i first (place_on op way []) rows new → length new ≡ length rows → after ≡ ways_before op front way rest
    → Placed names i code fronts old rows at ways left → Placed names i code fronts old new first after k
placed-on names i code fronts old rows new at first ways rest after way left k op front w l o r n a s h p = record {
  places = place_on op way p.places;
  whole =
      ap (λ ws. backward ws (steps_of code fronts k) (place_on op way p.places)) h
      ∙ ap (λ x. backward (ways_before x front way rest) (steps_of code fronts k) (place_on x way p.places)) o
      ∙ ap (λ x. backward (ways_before (get_or code k PushNothing) x way rest) (steps_of code fronts k) (place_on (get_or code k PushNothing) way p.places)) r
      ∙ ap (λ m. backward (way ∷ rest) (steps_of code fronts m) p.places) (sym l)
      ∙ ap (λ ws. backward ws (steps_of code fronts left) p.places) (sym w)
      ∙ p.whole;
  count = omega (arith, p.count, n, place-count op way p.places);
  added = adds-place names i first at op way p.places old rows new n p.added a;
  same = s ∙ p.same;
}

backward-none : (steps : List Step) (ps : List Place) → backward [] steps ps ≡ ps
backward-none [] ps = refl
backward-none (s ∷ steps) ps = refl

ended : (names : Table) (i : ℕ) (code : List Op) (fronts : List Front) (old rows : Rows) (at : ℕ) (places : List Place) → length (all_places code fronts) ≡ names_in_code code → places ≡ all_places code fronts
    → at + length places ≡ names_in_code code → Adds names i at places old rows → Adds names i 0 (all_places code fronts) old rows
ended names i code fronts old rows at places t e n a =
    let none : at ≡ 0 = omega (arith, t, ap length e, n) in
    subst (λ k. Adds names i k (all_places code fronts) old rows) none (subst (λ ps. Adds names i at ps old rows) e a)

pub placed-ends : (names : Table) (i : ℕ) (code : List Op) (fronts : List Front) (old rows : Rows) (at : ℕ) (ways : List Way) (left : ℕ) → length (all_places code fronts) ≡ names_in_code code
    → left ≡ 0 → Placed names i code fronts old rows at ways left → Adds names i 0 (all_places code fronts) old rows
placed-ends names i code fronts old rows at ways left t l p =
    ended names i code fronts old rows at p.places t (sym (ap (λ k. backward ways (steps_of code fronts k) p.places) l) ∙ p.whole) p.count p.added

pub placed-stops : (names : Table) (i : ℕ) (code : List Op) (fronts : List Front) (old rows : Rows) (at : ℕ) (ways : List Way) (left : ℕ) → length (all_places code fronts) ≡ names_in_code code
    → ways ≡ [] → Placed names i code fronts old rows at ways left → Adds names i 0 (all_places code fronts) old rows
placed-stops names i code fronts old rows at ways left t w p =
    ended names i code fronts old rows at p.places t (sym (backward-none (steps_of code fronts left) p.places) ∙ ap (λ ws. backward ws (steps_of code fronts left) p.places) (sym w) ∙ p.whole) p.count p.added

-- the pass forward
steps-more : (code : List Op) (fronts : List Front) (front : Front) (k : ℕ) → k ≤ length fronts → steps_of code (fronts ++ front ∷ []) k ≡ steps_of code fronts k
steps-more code fronts front zero l = refl
steps-more code fronts front (suc k) l =
    ap (λ x. record { op = get_or code k PushNothing; front = x } ∷ steps_of code (fronts ++ front ∷ []) k) (front-kept fronts k (omega arith))
    ∙ ap (λ x. record { op = get_or code k PushNothing; front = get_or fronts k no_front } ∷ x) (steps-more code fronts front k (omega arith)) where
      front-kept : (fs : List Front) (j : ℕ) → j < length fs → get_or (fs ++ front ∷ []) j no_front ≡ get_or fs j no_front
      front-kept [] j h = absurd (omega arith)
      front-kept (f ∷ fs) zero h = refl
      front-kept (f ∷ fs) (suc j) h = front-kept fs j (omega arith)

front-last : (fs : List Front) (front : Front) (j : ℕ) → j ≡ length fs → get_or (fs ++ front ∷ []) j no_front ≡ front
front-last [] front zero e = refl
front-last [] front (suc j) e = absurd (omega (arith, e))
front-last (f ∷ fs) front zero e = absurd (omega (arith, e))
front-last (f ∷ fs) front (suc j) e = front-last fs front j (omega (arith, e))

drop-next : (code : List Op) (k : ℕ) → k < length code → drop k code ≡ get_or code k PushNothing ∷ drop (suc k) code
drop-next [] k l = absurd (omega arith)
drop-next (op ∷ code) zero l = refl
drop-next (op ∷ code) (suc k) l = drop-next code k (omega arith)

drop-here : (code : List Op) (k : ℕ) → k < length code → drop k code ≡ get_or code k PushNothing ∷ drop (k + 1) code
drop-here code k l = drop-next code k l ∙ ap (λ n. get_or code k PushNothing ∷ drop n code) (one_more k) where
  one_more : (n : ℕ) → suc n ≡ n + 1
  one_more n = omega arith

-- what is read at a place within a list
pub read-here : {A : Type 0} (xs : List A) (i : ℕ) (x d : A) → i < length xs → x ≡ get_or xs i x → x ≡ get_or xs i d
read-here [] i x d l e = absurd (omega arith)
read-here (y ∷ xs) zero x d l e = e
read-here (y ∷ xs) (suc i) x d l e = read-here xs i x d (omega arith) e

pub record Passed (code : List Op) (fronts : List Front) (at : ℕ) (waiting : List Front) (k : ℕ) : Type 0 where
  pub steps : forward at waiting (drop k code) (steps_of code fronts k) ≡ forward 0 [] code []
  pub left : fronts_left at waiting (drop k code) ≡ fronts_left 0 [] code
  pub all : length fronts ≡ k
  pub count : at + names_in_code (drop k code) ≡ names_in_code code

pub passed-begins : (code : List Op) (fronts waiting : List Front) (at : ℕ) → fronts ≡ [] → at ≡ 0 → waiting ≡ [] → Passed code fronts at waiting 0
passed-begins code fronts waiting at e z w = record {
  steps = ap (λ n. forward n waiting code []) z ∙ ap (λ x. forward 0 x code []) w;
  left = ap (λ n. fronts_left n waiting code) z ∙ ap (λ x. fronts_left 0 x code) w;
  all = ap length e;
  count = ap (λ n. n + names_in_code code) z ∙ omega arith;
}

after-count : (at : ℕ) (op : Op) → places_after at op ≡ at + names_in_code (op ∷ [])
after-count at (Push n) = omega arith
after-count at PushNothing = omega arith
after-count at Join = omega arith
after-count at Choose = omega arith
after-count at MakeOptional = omega arith
after-count at MakeAny = omega arith
after-count at MakeSome = omega arith

names-here : (code : List Op) (k : ℕ) → k < length code → names_in_code (drop k code) ≡ names_in_code (get_or code k PushNothing ∷ []) + names_in_code (drop (k + 1) code)
names-here code k l = ap names_in_code (drop-here code k l) ∙ names_first (get_or code k PushNothing) (drop (k + 1) code)

pub passed-room : (code : List Op) (fronts waiting : List Front) (at k : ℕ) (op : Op) → k < length code → op ≡ get_or code k PushNothing → names_in_code code ≤ 64 → Passed code fronts at waiting k → at + names_in_code (op ∷ []) ≤ 64
passed-room code fronts waiting at k op l o few p = subst (λ x. at + names_in_code (x ∷ []) ≤ 64) (sym o) (omega (arith, few, p.count, names-here code k l))

pub passed-on : (code : List Op) (fronts more waiting after : List Front) (at next k : ℕ) (op : Op) (front : Front) → k < length code → op ≡ get_or code k PushNothing → front ≡ operand op waiting → more ≡ fronts ++ front ∷ []
    → after ≡ fronts_after at op waiting → next ≡ places_after at op → Passed code fronts at waiting k → Passed code more next after (k + 1)
passed-on code fronts more waiting after at next k op front l o f m a n p = record {
  steps =
      ap (λ x. forward x after (drop (k + 1) code) (steps_of code more (k + 1))) n
      ∙ ap (λ x. forward (places_after at op) x (drop (k + 1) code) (steps_of code more (k + 1))) a
      ∙ ap (forward (places_after at op) (fronts_after at op waiting) (drop (k + 1) code)) (steps_same (k + 1) (omega arith))
      ∙ ap (λ x. forward (places_after at x) (fronts_after at x waiting) (drop (k + 1) code) (record { op = x; front = operand x waiting } ∷ steps_of code fronts k)) o
      ∙ ap (λ x. forward at waiting x (steps_of code fronts k)) (sym (drop-here code k l))
      ∙ p.steps;
  left =
      ap (λ x. fronts_left x after (drop (k + 1) code)) n
      ∙ ap (λ x. fronts_left (places_after at op) x (drop (k + 1) code)) a
      ∙ ap (λ x. fronts_left (places_after at x) (fronts_after at x waiting) (drop (k + 1) code)) o
      ∙ ap (fronts_left at waiting) (sym (drop-here code k l))
      ∙ p.left;
  all = ap length m ∙ omega (arith, length-append fronts (front ∷ []), p.all);
  count = omega (arith, n, after-count at op, p.count, names-here code k l, ap (λ x. names_in_code (x ∷ [])) o);
} where
  steps_same : (j : ℕ) → j ≡ suc k → steps_of code more j ≡ record { op = op; front = operand op waiting } ∷ steps_of code fronts k
  steps_same j e =
      ap (steps_of code more) e ∙ ap (λ x. steps_of code x (suc k)) m
      ∙ ap (λ x. record { op = x; front = get_or (fronts ++ front ∷ []) k no_front } ∷ steps_of code (fronts ++ front ∷ []) k) (sym o)
      ∙ ap (λ x. record { op = op; front = x } ∷ steps_of code (fronts ++ front ∷ []) k) (front-last fronts front k (sym p.all) ∙ f)
      ∙ ap (λ x. record { op = op; front = operand op waiting } ∷ x) (steps-more code fronts front k (omega (arith, p.all)))

pub drop-all : (code : List Op) (k : ℕ) → length code ≤ k → drop k code ≡ []
drop-all [] zero l = refl
drop-all [] (suc k) l = refl
drop-all (op ∷ code) zero l = absurd (omega arith)
drop-all (op ∷ code) (suc k) l = drop-all code k (omega arith)

-- the places of models, one model more
pub spots-more : (S : List (List ℕ × Model)) (x : List ℕ × Model) (name : List ℕ) (test : Spot → Bool) (i j : ℕ) → j ≡ i + length S
    → any_spot name test i (S ++ x ∷ []) ≡ (any_spot name test i S || any_place name test j 0 (places_of 0 x.1 to_end))
spots-more [] x name test i j e =
    let same : i ≡ j = omega (arith, e) in
    or_none (any_place name test i 0 (places_of 0 x.1 to_end)) ∙ ap (λ k. any_place name test k 0 (places_of 0 x.1 to_end)) same
spots-more (y ∷ S) x name test i j e =
    ap (λ b. any_place name test i 0 (places_of 0 y.1 to_end) || b) (spots-more S x name test (suc i) j (omega (arith, e)))
    ∙ sym (assoc (any_place name test i 0 (places_of 0 y.1 to_end)) (any_spot name test (suc i) S) (any_place name test j 0 (places_of 0 x.1 to_end))) where
      assoc : (a b c : Bool) → ((a || b) || c) ≡ (a || (b || c))
      assoc true b c = refl
      assoc false b c = refl

pub default-here : {A : Type 0} (xs : List A) (i : ℕ) (x d : A) → i < length xs → get_or xs i x ≡ get_or xs i d
default-here [] i x d l = absurd (omega arith)
default-here (y ∷ xs) zero x d l = refl
default-here (y ∷ xs) (suc i) x d l = default-here xs i x d (omega arith)

-- the places that both passes give are the model's
pub passes : (m : Model) (items code own : List Op) (fronts lent : List Front) → reverse items ≡ code_on m [] → code ≡ items → own ≡ items → lent ≡ fronts
    → steps_of code fronts (length code) ≡ forward 0 [] code [] → all_places own lent ≡ places_of 0 m to_end
passes m items code own fronts lent x c o f s =
    ap (λ z. all_places z lent) (o ∙ sym c) ∙ ap (all_places code) f ∙ ap (λ z. backward (to_end ∷ []) z []) s
    ∙ ap (λ z. backward (to_end ∷ []) (forward 0 [] z []) []) c ∙ code-places m items x to_end

pub begins-at : (m : Model) (items code : List Op) → reverse items ≡ code_on m [] → code ≡ items → top_of (fronts_left 0 [] code) ≡ front_of 0 m
begins-at m items code x c = ap (λ z. top_of (fronts_left 0 [] z)) c ∙ ap top_of (code-front m items x)

-- an item on top of a list is the first in its reverse
pub top-reverse : {A : Type 0} (xs ys : List A) (x : A) → xs ≡ ys ++ x ∷ [] → reverse xs ≡ x ∷ reverse ys
top-reverse xs ys x e = ap reverse e ∙ reverse-append ys (x ∷ [])
