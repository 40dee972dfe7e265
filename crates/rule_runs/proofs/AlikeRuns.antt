-- Hits that are told many at a time, while their list stays the last of the levels.
use Rattle.std.proofs.Common.{◌≡◌, ℕ, suc, ◌+◌, ◌-◌, ◌^◌, ◌<◌, ◌≤◌, List, [], ◌∷◌, ◌++◌, length, get_or, take, drop, map, reverse, All, Vec, Global, refl, sym, ap, ◌∙◌, subst, arith, append-nil, append_assoc, length-append}
use Rattle.std.specs.Prelude.{slice_set, slice_range}
use Rattle.std.proofs.lemmas.List.{drop_more, get_or_default, get_or-drop, get_or-set_same, length-drop, length-map, length-replicate, length-set, map-append, set-append_left, take_all, take_more, take-set-le}
use Rattle.std.proofs.lemmas.List.Folds.{drop_split}
use Rattle.std.proofs.Math.Seq.{drop-append_seam}
use Rattle.rule_runs.specs.declared.alike.AlikeHits.{AlikeHits}
use Rattle.rule_runs.specs.declared.listing.Hit.{Hit}
use Rattle.rule_runs.specs.declared.listing.Level.{Level}
use Rattle.rule_runs.specs.declared.listing.Part.{Part}
use Rattle.rule_runs.specs.declared.listing.Part.TheVariants.{Node as PartNode, List as PartList}
use Rattle.rule_runs.specs.Alike.{symbols, alike_symbols}
use Rattle.rule_runs.specs.Hits.{raised}
use Rattle.rule_runs.specs.Listing.{parts_at, part_hits, parts_hits, list_hits, IsBelow, PartsBelow, AreEarlier, level_hits, coming}
use Rattle.rule_runs.proofs.Listings.{below-at, hits-some}
use Rattle.rule_runs.proofs.Lists.{all-split, reverse-last, reverse-push}
use Rattle.rule_runs.proofs.OneSymbol.{symbols-append, symbols-raised}
use Rattle.rule_runs.proofs.Tellings.{parts_hits-append}

-- the last of some items is read, or another one set in its place
module _ {X : Type 0} (xs : List X) (top : ℕ) (last : length xs ≡ suc top) where
  pub top-read : (x : X) → x ≡ get_or xs top x → reverse xs ≡ x ∷ reverse (take top xs)
  top-read x is = ap reverse (sym (take_all (length xs) xs (omega arith))) ∙ reverse-last xs (length xs) top x last (omega arith) is

  pub top-set : (z : X) → reverse (slice_set xs top z) ≡ z ∷ reverse (take top xs)
  top-set z =
      let ys : List X = slice_set xs top z in
      let long : length ys ≡ length xs = length-set xs top z in
      ap reverse (sym (take_all (length ys) ys (omega arith))) ∙ reverse-last ys (length ys) top z (long ∙ last) (omega arith) (sym (get_or-set_same xs top z z (omega arith)))
      ∙ ap (λ zs. z ∷ reverse zs) (take-set-le top xs top z (omega arith))

  pub top-under : (b z : X) → reverse (slice_set (xs ++ b ∷ []) top z) ≡ b ∷ z ∷ reverse (take top xs)
  top-under b z = ap reverse (set-append_left xs (b ∷ []) top z (omega arith)) ∙ reverse-push (slice_set xs top z) b ∙ ap (λ zs. b ∷ zs) (top-set z)

-- one item more of a range
range-more : {X : Type 0} (xs : List X) (start end : ℕ) (d : X) → start ≤ end → end < length xs → slice_range xs start (end + 1) ≡ slice_range xs start end ++ get_or xs end d ∷ []
range-more xs start end d le lt =
    let one : (end + 1) - start ≡ (end - start) + 1 = omega arith in
    let at : start + (end - start) ≡ end = omega arith in
    ap (λ k. take k (drop start xs)) one ∙ take_more (drop start xs) (end - start) d (omega (arith, length-drop start xs))
    ∙ ap (λ x. slice_range xs start end ++ x ∷ []) (get_or-drop start xs (end - start) d ∙ ap (λ i. get_or xs i d) at)

range-first : {X : Type 0} (xs : List X) (start end : ℕ) (d : X) → start + 1 ≤ end → start < length xs → slice_range xs start end ≡ get_or xs start d ∷ slice_range xs (start + 1) end
range-first xs start end d le lt =
    let k : end - start ≡ suc (end - (start + 1)) = omega arith in
    ap (λ ys. take (end - start) ys) (drop_more xs start d lt) ∙ ap (λ n. take n (get_or xs start d ∷ drop (start + 1) xs)) k

-- no part as yet, or one more
pub run-none : (hits : List (List Hit)) (ps : List Part) (start : ℕ) (first : AlikeHits) → alike_symbols first ++ symbols (parts_hits hits (slice_range ps start start)) ≡ alike_symbols first
run-none hits ps start first =
    let none : start - start ≡ 0 = omega arith in
    ap (λ k. alike_symbols first ++ symbols (parts_hits hits (take k (drop start ps)))) none ∙ append-nil (alike_symbols first)

pub run-more : (hits : List (List Hit)) (ps : List Part) (start end : ℕ) (d : Part) (first all next both : AlikeHits) → start ≤ end → end < length ps → alike_symbols first ++ symbols (parts_hits hits (slice_range ps start end)) ≡ alike_symbols all
    → symbols (part_hits hits (get_or ps end d)) ≡ alike_symbols next → alike_symbols all ++ alike_symbols next ≡ alike_symbols both → alike_symbols first ++ symbols (parts_hits hits (slice_range ps start (end + 1))) ≡ alike_symbols both
run-more hits ps start end d first all next both le lt e f j =
    let here : List Part = slice_range ps start end in
    let p : Part = get_or ps end d in
    let told : symbols (parts_hits hits (slice_range ps start (end + 1))) ≡ symbols (parts_hits hits here) ++ alike_symbols next =
    ap (λ qs. symbols (parts_hits hits qs)) (range-more ps start end d le lt)
    ∙ ap symbols (parts_hits-append hits here (p ∷ []) ∙ ap (λ hs. parts_hits hits here ++ hs) (append-nil (part_hits hits p)))
    ∙ symbols-append (parts_hits hits here) (part_hits hits p) ∙ ap (λ xs. symbols (parts_hits hits here) ++ xs) f in
    ap (λ xs. alike_symbols first ++ xs) told ∙ sym (append_assoc (alike_symbols first) (symbols (parts_hits hits here)) (alike_symbols next)) ∙ ap (λ xs. xs ++ alike_symbols next) e ∙ j

pub joined-count : (first second both : AlikeHits) → alike_symbols first ++ alike_symbols second ≡ alike_symbols both → first.count ≤ both.count
joined-count first second both e =
    omega (arith, ap length e, length-append (alike_symbols first) (alike_symbols second), length-replicate first.count first.symbol, length-replicate second.count second.symbol, length-replicate both.count both.symbol)

-- a part has hits
part-some : (lists : List (Vec Part Global)) (p : Part) (limit : ℕ) → AreEarlier lists → limit ≤ length lists → IsBelow limit p → 0 < length (part_hits (list_hits lists) p)
part-some lists (PartNode at f) limit earlier l b = omega arith
part-some lists (PartList at list) limit earlier l b = omega (arith, hits-some lists earlier list (omega arith), length-map (get_or (list_hits lists) list []) (raised at))

-- the next part of a list
abbrev pub part-at : List Part → ℕ → Part
part-at ps i = get_or ps i (PartNode 0 0)

pub part-is : (ps qs : List Part) (i : ℕ) → ps ≡ qs → i < length ps → part-at ps i ≡ get_or qs i (part-at ps i)
part-is ps qs i e lt = get_or_default ps i (PartNode 0 0) (part-at ps i) lt ∙ ap (λ xs. get_or xs i (part-at ps i)) e

-- ---- a level tells its parts up to a place
module _ (lists : List (Vec Part Global)) (l : Level) (ls : List Level) (ps : List Part) (are : parts_at lists l.list ≡ ps) (end : ℕ) where
  abbrev pub behind : Level
  behind = record { list = l.list; next = end; from = l.from }

  told-up_to : l.next ≤ end → coming lists (l ∷ ls) ≡ map (raised l.from) (parts_hits (list_hits lists) (slice_range ps l.next end)) ++ coming lists (behind ∷ ls)
  told-up_to le =
      let known = list_hits lists in
      let here : List Part = slice_range ps l.next end in
      let cut : parts_hits known (drop l.next ps) ≡ parts_hits known here ++ parts_hits known (drop end ps) = ap (parts_hits known) (drop_split ps l.next end le) ∙ parts_hits-append known here (drop end ps) in
      let two : level_hits lists l ≡ map (raised l.from) (parts_hits known here) ++ level_hits lists behind = rw are (ap (map (raised l.from)) cut ∙ map-append (raised l.from) (parts_hits known here) (parts_hits known (drop end ps))) in
      ap (λ hs. hs ++ coming lists ls) two ∙ append_assoc (map (raised l.from) (parts_hits known here)) (level_hits lists behind) (coming lists ls)

  pub run-small : l.next ≤ end → All (λ h. h.number < 2 ^ 64) (coming lists (l ∷ ls)) → All (λ h. h.number < 2 ^ 64) (coming lists (behind ∷ ls))
  run-small le small =
      let hs : List Hit = map (raised l.from) (parts_hits (list_hits lists) (slice_range ps l.next end)) in
      (all-split (λ h. h.number < 2 ^ 64) hs (coming lists (behind ∷ ls)) (subst (All (λ h. h.number < 2 ^ 64)) (told-up_to le) small)).1

  -- the first of which has hits that are alike
  module _ (more : l.next < length ps) (first : AlikeHits) (alike : symbols (part_hits (list_hits lists) (part-at ps l.next)) ≡ alike_symbols first) where
    run-symbols : (all : AlikeHits) → l.next + 1 ≤ end → alike_symbols first ++ symbols (parts_hits (list_hits lists) (slice_range ps (l.next + 1) end)) ≡ alike_symbols all → symbols (map (raised l.from) (parts_hits (list_hits lists) (slice_range ps l.next end))) ≡ alike_symbols all
    run-symbols all le told =
        let known = list_hits lists in
        let p : Part = part-at ps l.next in
        let here : List Part = slice_range ps l.next end in
        let later : List Part = slice_range ps (l.next + 1) end in
        symbols-raised l.from (parts_hits known here) ∙ ap (λ qs. symbols (parts_hits known qs)) (range-first ps l.next end (PartNode 0 0) le more) ∙ symbols-append (part_hits known p) (parts_hits known later)
        ∙ ap (λ xs. xs ++ symbols (parts_hits known later)) alike ∙ told

    pub run-told : (all : AlikeHits) → l.next + 1 ≤ end → alike_symbols first ++ symbols (parts_hits (list_hits lists) (slice_range ps (l.next + 1) end)) ≡ alike_symbols all → symbols (coming lists (l ∷ ls)) ≡ alike_symbols all ++ symbols (coming lists (behind ∷ ls))
    run-told all le told =
        let hs : List Hit = map (raised l.from) (parts_hits (list_hits lists) (slice_range ps l.next end)) in
        ap symbols (told-up_to (omega arith)) ∙ symbols-append hs (coming lists (behind ∷ ls)) ∙ ap (λ xs. xs ++ symbols (coming lists (behind ∷ ls))) (run-symbols all le told)

    -- and what comes behind them is left
    pub run-rest : (all : AlikeHits) → l.next + 1 ≤ end → alike_symbols first ++ symbols (parts_hits (list_hits lists) (slice_range ps (l.next + 1) end)) ≡ alike_symbols all → coming lists (behind ∷ ls) ≡ drop all.count (coming lists (l ∷ ls))
    run-rest all le told =
        let hs : List Hit = map (raised l.from) (parts_hits (list_hits lists) (slice_range ps l.next end)) in
        let many : length hs ≡ all.count = omega (arith, ap length (run-symbols all le told), length-map hs (λ (h : Hit). h.symbol), length-replicate all.count all.symbol) in
        sym (drop-append_seam hs (coming lists (behind ∷ ls))) ∙ ap (λ n. drop n (hs ++ coming lists (behind ∷ ls))) many ∙ ap (drop all.count) (sym (told-up_to (omega arith)))

    pub first-some : AreEarlier lists → l.list < length lists → 0 < first.count
    first-some earlier there =
        let p : Part = part-at ps l.next in
        let b = below-at l.list ps l.next p (subst (PartsBelow l.list) are (earlier l.list there).1) more (part-is ps ps l.next refl more) in
        let some = part-some lists p l.list earlier (omega arith) b in
        omega (arith, some, length-map (part_hits (list_hits lists) p) (λ (h : Hit). h.symbol), ap length alike, length-replicate first.count first.symbol)
