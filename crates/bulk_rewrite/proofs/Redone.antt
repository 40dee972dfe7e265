-- Texts that are redone one after another are what becomes of them all.
use Rattle.std.proofs.Common.{◌≡◌, ℕ, zero, suc, ◌+◌, ◌-◌, ◌<◌, ◌≤◌, min, List, [], ◌∷◌, ◌++◌, length, get_or, take, drop, map, replicate, Option, Some, None, slice_get, option_to_list, refl, sym, ap, ◌∙◌, arith, append_assoc, append-nil, length-drop}
use Rattle.std.specs.Prelude.{slice_range}
use Rattle.std.proofs.Math.ListN.{drop_of_length-le}
use Rattle.std.proofs.lemmas.List.{drop-drop, drop_min, get_or-drop, map-append, take_min, take_more}
use Rattle.std.proofs.lemmas.Option.{get_or_from_slice_get, slice_get-get_or}
use Rattle.rule_runs.specs.Alike.{symbols, alike_symbols}
use Rattle.rule_runs.specs.declared.alike.AlikeHits.{AlikeHits}
use Rattle.rule_runs.specs.declared.listing.Hit.{Hit}
use Rattle.bulk_rewrite.specs.Fates.{Fate, Stays, Joins, Drops, Redone, redone, redone_one, redone_alike}
use Rattle.bulk_rewrite.specs.Redoing.{TextsSoFar, all_texts, behind_open, nothing_redone}
use Rattle.bulk_rewrite.specs.Tags.{told_fate, told_fates}

-- texts that stay, of which the last one is open
alike-stay : (vs : List (List ℕ)) (v : List ℕ) (r : Redone) → redone_alike Stays (vs ++ v ∷ []) r ≡ record { front = []; values = vs ++ (v ++ r.front) ∷ r.values }
alike-stay [] v r = refl
alike-stay (u ∷ vs) v r = ap (redone_one Stays u) (alike-stay vs v r) ∙ ap (λ (w : List ℕ). record { front = []; values = w ∷ (vs ++ (v ++ r.front) ∷ r.values) }) (append-nil u)

stays-open : (originals done : List (List ℕ)) (before : Option (List ℕ)) (vs : List (List ℕ)) (text : List ℕ) (r : Redone)
    → all_texts (record { originals = originals; done = (done ++ option_to_list before) ++ vs; open_text = Some text }) r ≡ all_texts (record { originals = originals; done = done; open_text = before }) (record { front = []; values = vs ++ (text ++ r.front) ∷ r.values })
stays-open originals done None vs text r = ap (λ ds. (ds ++ vs) ++ (text ++ r.front) ∷ r.values) (append-nil done) ∙ append_assoc done vs ((text ++ r.front) ∷ r.values)
stays-open originals done (Some v) vs text r =
    append_assoc (done ++ v ∷ []) vs ((text ++ r.front) ∷ r.values) ∙ append_assoc done (v ∷ []) (vs ++ (text ++ r.front) ∷ r.values)
    ∙ ap (λ w. done ++ (w ∷ (vs ++ (text ++ r.front) ∷ r.values))) (sym (append-nil v))

-- a range with one place more
range-more : (values : List (List ℕ)) (place k : ℕ) → place + k < length values → take (k + 1) (drop place values) ≡ take k (drop place values) ++ get_or values (place + k) [] ∷ []
range-more values place k h = take_more (drop place values) k [] (omega (arith, length-drop place values)) ∙ ap (λ v. take k (drop place values) ++ v ∷ []) (get_or-drop place values k [])

pub stay-at : (s : TextsSoFar) (originals before done : List (List ℕ)) (place count : ℕ) → originals ≡ s.originals → before ≡ s.done ++ option_to_list s.open_text → done ≡ before ++ slice_range originals place (place + (count - 1)) → 0 < count
    → place + count ≤ length s.originals → (r : Redone) → all_texts (record { originals = originals; done = done; open_text = slice_get originals (place + (count - 1)) }) r ≡ all_texts s (redone_alike Stays (slice_range s.originals place (place + count)) r)
stay-at s originals before done place count e b d some h r =
    let k : ℕ = count - 1 in
    let text : List ℕ = get_or s.originals (place + k) [] in
    let vs : List (List ℕ) = take k (drop place s.originals) in
    let there : slice_get originals (place + k) ≡ Some text = ap (λ os. slice_get os (place + k)) e ∙ slice_get-get_or s.originals (place + k) [] (omega arith) in
    let one : (place + k) - place ≡ k = omega arith in
    let two : (place + count) - place ≡ k + 1 = omega arith in
    let new : done ≡ (s.done ++ option_to_list s.open_text) ++ vs = d ∙ ap (λ n. before ++ take n (drop place originals)) one ∙ ap (λ os. before ++ take k (drop place os)) e ∙ ap (λ bs. bs ++ vs) b in
    let all : slice_range s.originals place (place + count) ≡ vs ++ text ∷ [] = ap (λ n. take n (drop place s.originals)) two ∙ range-more s.originals place k (omega arith) in
    ap (λ o. done ++ behind_open o r) there ∙ ap (λ ds. ds ++ behind_open (Some text) r) new ∙ stays-open s.originals s.done s.open_text vs text r
    ∙ ap (all_texts s) (sym (alike-stay vs text r) ∙ ap (λ us. redone_alike Stays us r) (sym all))

-- a text goes to the end of the open one
pub joins-at : (s : TextsSoFar) (v text bytes : List ℕ) (place : ℕ) → s.open_text ≡ Some v → slice_get s.originals place ≡ Some text → bytes ≡ v ++ text → (r : Redone)
    → all_texts (record { originals = s.originals; done = s.done; open_text = Some bytes }) r ≡ all_texts s (redone_one Joins (get_or s.originals place []) r)
joins-at s v text bytes place e f g r =
    ap (λ w. s.done ++ ((w ++ r.front) ∷ r.values)) g ∙ ap (λ w. s.done ++ (w ∷ r.values)) (append_assoc v text r.front)
    ∙ ap (λ w. s.done ++ ((v ++ (w ++ r.front)) ∷ r.values)) (sym (get_or_from_slice_get s.originals place text [] f))
    ∙ ap (λ o. s.done ++ behind_open o (redone_one Joins (get_or s.originals place []) r)) (sym e)

-- one more of those that go there
alike-more : (x : Fate) (vs : List (List ℕ)) (v : List ℕ) (r : Redone) → redone_alike x (vs ++ v ∷ []) r ≡ redone_alike x vs (redone_one x v r)
alike-more x [] v r = refl
alike-more x (u ∷ vs) v r = ap (redone_one x u) (alike-more x vs v r)

pub joins-more : (first s after : TextsSoFar) (place next : ℕ) → s.originals ≡ first.originals → place + next < length first.originals → ((r : Redone) → all_texts s r ≡ all_texts first (redone_alike Joins (slice_range first.originals place (place + next)) r))
    → ((r : Redone) → all_texts after r ≡ all_texts s (redone_one Joins (get_or s.originals (place + next) []) r)) → (r : Redone) → all_texts after r ≡ all_texts first (redone_alike Joins (slice_range first.originals place (place + (next + 1))) r)
joins-more first s after place next e h f g r =
    let one : (place + next) - place ≡ next = omega arith in
    let two : (place + (next + 1)) - place ≡ next + 1 = omega arith in
    let v : List ℕ = get_or first.originals (place + next) [] in
    let vs : List (List ℕ) = take next (drop place first.originals) in
    let all : slice_range first.originals place (place + (next + 1)) ≡ vs ++ v ∷ [] = ap (λ n. take n (drop place first.originals)) two ∙ range-more first.originals place next h in
    g r ∙ ap (λ os. all_texts s (redone_one Joins (get_or os (place + next) []) r)) e ∙ f (redone_one Joins v r) ∙ ap (λ n. all_texts first (redone_alike Joins (take n (drop place first.originals)) (redone_one Joins v r))) one
    ∙ ap (all_texts first) (sym (alike-more Joins vs v r) ∙ ap (λ us. redone_alike Joins us r) (sym all))

-- dropped texts are nowhere
pub alike-drop : (vs : List (List ℕ)) (r : Redone) → redone_alike Drops vs r ≡ r
alike-drop [] r = refl
alike-drop (v ∷ vs) r = alike-drop vs r

-- all are done
pub all-closed : (s : TextsSoFar) → s.done ++ option_to_list s.open_text ≡ all_texts s nothing_redone
all-closed s = by_open s.open_text
  where
    by_open : (o : Option (List ℕ)) → s.done ++ option_to_list o ≡ all_texts (record { originals = s.originals; done = s.done; open_text = o }) nothing_redone
    by_open None = refl
    by_open (Some v) = ap (λ w. s.done ++ (w ∷ [])) (sym (append-nil v))

-- no values are left
pub none-left : (xs : List Fate) → redone xs [] ≡ nothing_redone
none-left [] = refl
none-left (x ∷ xs) = refl

-- fates are told by symbols alone
by-symbols : (hs : List Hit) → told_fates hs ≡ map told_fate (symbols hs)
by-symbols [] = refl
by-symbols (h ∷ hs) = ap (λ xs. told_fate h.symbol ∷ xs) (by-symbols hs)

-- no fate is told behind the last one
pub none-told : (old new : List Hit) (values : List (List ℕ)) (place count : ℕ) (s : TextsSoFar) → old ≡ [] → symbols old ≡ [] ++ symbols new → all_texts s (redone (told_fates new) (drop (place + count) values)) ≡ all_texts s (redone (told_fates old) (drop place values))
none-told old new values place count s e f =
    let n : told_fates new ≡ [] = by-symbols new ∙ ap (map told_fate) (sym f ∙ ap symbols e) in
    rw (n, e) refl

-- some that have one fate, and all behind them
redone-both : (x : Fate) (k : ℕ) (xs : List Fate) (vs : List (List ℕ)) → redone (replicate k x ++ xs) vs ≡ redone_alike x (take k vs) (redone xs (drop k vs))
redone-both x zero xs vs = refl
redone-both x (suc k) xs [] = sym (none-left xs)
redone-both x (suc k) xs (v ∷ vs) = ap (redone_one x v) (redone-both x k xs vs)

all-alike : (k f : ℕ) → map told_fate (replicate k f) ≡ replicate k (told_fate f)
all-alike zero f = refl
all-alike (suc k) f = ap (λ xs. told_fate f ∷ xs) (all-alike k f)

-- so many more are redone
pub many-redone : (old new : List Hit) (hits : AlikeHits) (fate : Fate) (values : List (List ℕ)) (place count : ℕ) (s after : TextsSoFar) → symbols old ≡ alike_symbols hits ++ symbols new → fate ≡ told_fate hits.symbol → count ≡ min hits.count (length values - place)
    → ((r : Redone) → all_texts after r ≡ all_texts s (redone_alike fate (slice_range values place (place + count)) r)) → all_texts after (redone (told_fates new) (drop (place + count) values)) ≡ all_texts s (redone (told_fates old) (drop place values))
many-redone old new hits fate values place count s after e g c h =
    let D : List (List ℕ) = drop place values in
    let xs : List Fate = told_fates new in
    let n : (place + count) - place ≡ count = omega arith in
    let m : count ≡ min hits.count (length D) = c ∙ ap (λ k. min hits.count k) (sym (length-drop place values)) in
    let front : take ((place + count) - place) D ≡ take hits.count D = ap (λ k. take k D) (n ∙ m) ∙ take_min hits.count D in
    let rest : drop (place + count) values ≡ drop hits.count D = sym (drop-drop count place values) ∙ ap (λ k. drop k D) m ∙ drop_min hits.count D in
    let told : told_fates old ≡ replicate hits.count fate ++ xs =
    by-symbols old ∙ ap (map told_fate) e ∙ map-append told_fate (alike_symbols hits) (symbols new) ∙ ap (λ ys. ys ++ map told_fate (symbols new)) (all-alike hits.count hits.symbol ∙ ap (replicate hits.count) (sym g)) ∙ ap (λ ys. replicate hits.count fate ++ ys) (sym (by-symbols new)) in
    h (redone xs (drop (place + count) values)) ∙ ap (λ vs. all_texts s (redone_alike fate vs (redone xs (drop (place + count) values)))) front
    ∙ ap (λ vs. all_texts s (redone_alike fate (take hits.count D) (redone xs vs))) rest ∙ ap (all_texts s) (sym (redone-both fate hits.count xs D) ∙ ap (λ ys. redone ys D) (sym told))

-- all places are gone through
pub all-gone : (found : List Hit) (values : List (List ℕ)) (place : ℕ) (s : TextsSoFar) → length values ≤ place → all_texts s nothing_redone ≡ all_texts s (redone (told_fates found) (drop place values))
all-gone found values place s h = rw (drop_of_length-le values h, none-left (told_fates found)) refl
