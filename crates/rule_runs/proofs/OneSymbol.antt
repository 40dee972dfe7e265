-- Lists of hits that have one symbol.
use Rattle.std.proofs.Common.{◌≡◌, ℕ, zero, suc, ◌+◌, ◌<◌, List, [], ◌∷◌, ◌++◌, length, get_or, take, map, replicate, Option, Some, None, slice_get, IfSome, Vec, Global, ◌⊎◌, inl, inr, refl, sym, ap, ◌∙◌, subst, append-nil}
use Rattle.std.proofs.lemmas.List.{map-append, replicate-append-replicate, take_more}
use Rattle.rule_runs.specs.declared.alike.AlikeHits.{AlikeHits}
use Rattle.rule_runs.specs.declared.listing.Hit.{Hit}
use Rattle.rule_runs.specs.declared.listing.Part.{Part}
use Rattle.rule_runs.specs.declared.listing.Part.TheVariants.{List as PartList}
use Rattle.rule_runs.specs.Alike.{symbols, alike_symbols, AreAlike}
use Rattle.rule_runs.specs.Hits.{raised}
use Rattle.rule_runs.specs.Listing.{part_hits, parts_hits, list_hits, AreEarlier}
use Rattle.rule_runs.proofs.Listings.{hits-at, parts-at}
use Rattle.rule_runs.proofs.Tellings.{parts_hits-append}

pub symbols-append : (hs gs : List Hit) → symbols (hs ++ gs) ≡ symbols hs ++ symbols gs
symbols-append hs gs = map-append (λ (h : Hit). h.symbol) hs gs

pub symbols-raised : (from : ℕ) (hs : List Hit) → symbols (map (raised from) hs) ≡ symbols hs
symbols-raised from [] = refl
symbols-raised from (h ∷ hs) = ap (λ xs. h.symbol ∷ xs) (symbols-raised from hs)

-- hits behind none, and hits behind such of the same symbol
pub alike-none : (first second : AlikeHits) → first.count ≡ 0 → alike_symbols first ++ alike_symbols second ≡ alike_symbols second
alike-none first second e = ap (λ n. replicate n first.symbol ++ alike_symbols second) e

pub alike-both : (first second : AlikeHits) (count : ℕ) → first.symbol ≡ second.symbol → count ≡ first.count + second.count → alike_symbols first ++ alike_symbols second ≡ replicate count first.symbol
alike-both first second count e f =
    ap (λ x. replicate first.count first.symbol ++ replicate second.count x) (sym e) ∙ replicate-append-replicate first.count second.count first.symbol ∙ ap (λ n. replicate n first.symbol) (sym f)

-- a part that is such a list
pub list-part : (hits : List (List Hit)) (known : List (Option AlikeHits)) (p : Part) (at list : ℕ) (o : Option AlikeHits) → p ≡ PartList at list → ((a : AlikeHits) → o ≡ Some a → slice_get known list ≡ Some (Some a)) → AreAlike hits known
    → IfSome o (λ a. symbols (part_hits hits p) ≡ alike_symbols a)
list-part hits known p at list None e h k = tt
list-part hits known p at list (Some a) e h k = ap (λ q. symbols (part_hits hits q)) e ∙ symbols-raised at (get_or hits list []) ∙ k list a (h a refl)

-- one part more
pub parts-more : (hits : List (List Hit)) (ps : List Part) (i : ℕ) (d : Part) (all next both : AlikeHits) → i < length ps → symbols (parts_hits hits (take i ps)) ≡ alike_symbols all → symbols (part_hits hits (get_or ps i d)) ≡ alike_symbols next
    → alike_symbols all ++ alike_symbols next ≡ alike_symbols both → symbols (parts_hits hits (take (i + 1) ps)) ≡ alike_symbols both
parts-more hits ps i d all next both h e f j =
    let here : List Hit = parts_hits hits (take i ps) in
    let p : Part = get_or ps i d in
    ap (λ qs. symbols (parts_hits hits qs)) (take_more ps i d h)
    ∙ ap symbols (parts_hits-append hits (take i ps) (p ∷ []) ∙ ap (λ hs. here ++ hs) (append-nil (part_hits hits p)))
    ∙ symbols-append here (part_hits hits p) ∙ ap (λ xs. xs ++ symbols (part_hits hits p)) e ∙ ap (λ xs. alike_symbols all ++ xs) f ∙ j

-- a list is what its parts are
pub list-alike : (lists : List (Vec Part Global)) (i : ℕ) (v : Vec Part Global) (ps : List Part) (o : Option AlikeHits) → AreEarlier lists → i < length lists → v ≡ get_or lists i v → ps ≡ v.items
    → IfSome o (λ a. symbols (parts_hits (list_hits lists) ps) ≡ alike_symbols a) → IfSome o (λ a. symbols (get_or (list_hits lists) i []) ≡ alike_symbols a)
list-alike lists i v ps o earlier there is e h =
    let same : get_or (list_hits lists) i [] ≡ parts_hits (list_hits lists) ps = hits-at lists i earlier there ∙ ap (parts_hits (list_hits lists)) (parts-at lists i v there is ∙ sym e) in
    subst (λ hs. IfSome o (λ a. symbols hs ≡ alike_symbols a)) (sym same) h

-- of no list anything is known
pub none-alike : (hits : List (List Hit)) (known : List (Option AlikeHits)) → known ≡ [] → AreAlike hits known
none-alike hits known e = λ i a g. let h : slice_get [] i ≡ Some (Some a) = rw e at g in absurd (cc)

-- one list more
pushed-at : {X : Type 0} (xs : List X) (y z : X) (j : ℕ) → slice_get (xs ++ y ∷ []) j ≡ Some z → (slice_get xs j ≡ Some z) ⊎ ((j ≡ length xs) × (y ≡ z))
pushed-at [] y z zero e = inr (refl, cc)
pushed-at [] y z (suc j) e = absurd (cc)
pushed-at (x ∷ xs) y z zero e = inl e
pushed-at (x ∷ xs) y z (suc j) e = elim (pushed-at xs y z j e) [ inl h ↦ inl h | inr h ↦ inr (ap suc h.0, h.1) ]

pub known-more : (hits : List (List Hit)) (known more : List (Option AlikeHits)) (i : ℕ) (next : Option AlikeHits) → length known ≡ i → more ≡ known ++ next ∷ [] → AreAlike hits known
    → IfSome next (λ a. symbols (get_or hits i []) ≡ alike_symbols a) → AreAlike hits more
known-more hits known more i next l e k n = λ j b g.
    elim (pushed-at known next (Some b) j (subst (λ ks. slice_get ks j ≡ Some (Some b)) e g)) [
      | inl h ↦ k j b h
      | inr h ↦ subst (λ q. symbols (get_or hits q []) ≡ alike_symbols b) (sym (h.0 ∙ l)) (subst (λ o. IfSome o (λ a. symbols (get_or hits i []) ≡ alike_symbols a)) h.1 n)
    ]
