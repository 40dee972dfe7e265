-- Cells of an index, and rules that get other places.
use Rattle.std.proofs.Common.{◌≡◌, ◌≢◌, ◌<◌, ◌≤◌, ◌+◌, ◌⊎◌, inl, inr, ℕ, zero, suc, List, [], ◌∷◌, map, length, get_or, Option, Some, None, Result, Ok, Err, OnOk, OnErr, refl, ap, sym, ◌∙◌, subst, arith}
use Rattle.std.proofs.lemmas.Bool.{cases_lt, cases_eq}
use Rattle.std.proofs.lemmas.List.{get_or_past}
use Rattle.rule_arena.specs.declared.key.Key.{Key}
use Rattle.slt_grammar.specs.Editing.{shifted, shifted_label}
use Rattle.slt_grammar.specs.Names.{Call as CallLabel}
use Rattle.slt_grammar.specs.Placing.{unshifted, unshifted_label}
use Rattle.digram_index.specs.declared.patterns.Mark.{Mark}
use Rattle.digram_index.specs.declared.patterns.Mark.TheVariants.{Bottom, Symbol, Call, Param}
use Rattle.digram_index.specs.declared.patterns.Pattern.{Pattern}
use Rattle.slt_grammar.specs.declared.digram.Digram.{Digram}
use Rattle.digram_index.specs.Numbers.{Numbering, place_of, IsGiven}
use Rattle.digram_index.specs.Spots.{Spot, Entered, spot_at}
use Rattle.digram_index.specs.Digrams.{Cell}
use Rattle.digram_index.specs.Linked.{label_of, IsKnown, digram_of, cell_of, AreKnown, shifted_cell, unshifted_cell}

pub cell-at : (ns : List ℕ) (ss : List (Option Spot)) (k : ℕ) → get_or (map (cell_of ns) ss) k None ≡ cell_of ns (get_or ss k None)
cell-at ns [] k = refl
cell-at ns (s ∷ ss) zero = refl
cell-at ns (s ∷ ss) (suc k) = cell-at ns ss k

pub on-ok : {A E : Type 0} (P Q : Type 0) (r : Result A E) → (P → Q) → OnOk r P → OnOk r Q
on-ok P Q (Ok x) f p = f p
on-ok P Q (Err e) f p = tt

shifted-below : (place q n : ℕ) → q < n → shifted place q < n + 1
shifted-below zero q n h = omega arith
shifted-below (suc place) zero n h = omega arith
shifted-below (suc place) (suc q) zero h = absurd (omega arith)
shifted-below (suc place) (suc q) (suc n) h = let z = shifted-below place q n (omega arith) in omega arith

unshifted-below : (place q n : ℕ) → q < n + 1 → place < n + 1 → q ≢ place → unshifted place q < n
unshifted-below zero zero n h l e = absurd (e refl)
unshifted-below zero (suc q) n h l e = omega arith
unshifted-below (suc place) zero n h l e = omega arith
unshifted-below (suc place) (suc q) zero h l e = absurd (omega arith)
unshifted-below (suc place) (suc q) (suc n) h l e = let z = unshifted-below place q n (omega arith) (omega arith) (λ x. e (ap suc x)) in omega arith

-- what putting a rule in says of the numbers
abbrev pub Moves : List ℕ → List ℕ → ℕ → Type 0
Moves old new place = (n : ℕ) → IsGiven old n → place_of new n ≡ shifted place (place_of old n)

label-shifted : (ns ns' : List ℕ) (place : ℕ) (m : Mark) → Moves ns ns' place → IsKnown ns m → label_of ns' m ≡ shifted_label place (label_of ns m)
label-shifted ns ns' place Bottom M K = refl
label-shifted ns ns' place (Symbol f) M K = refl
label-shifted ns ns' place (Call n) M K = ap CallLabel (M n K)
label-shifted ns ns' place Param M K = refl

known-shifted : (ns ns' : List ℕ) (place : ℕ) (m : Mark) → Moves ns ns' place → length ns' ≡ length ns + 1 → IsKnown ns m → IsKnown ns' m
known-shifted ns ns' place Bottom M l K = tt
known-shifted ns ns' place (Symbol f) M l K = tt
known-shifted ns ns' place (Call n) M l K = let z = M n K in let s = shifted-below place (place_of ns n) (length ns) K in omega arith
known-shifted ns ns' place Param M l K = tt

pub knowns-shifted : (n n' : Numbering) (e : Entered) (place : ℕ) → AreKnown n e → n'.given ≤ e.callees → length n'.numbers ≡ length n.numbers + 1 → Moves n.numbers n'.numbers place → AreKnown n' e
knowns-shifted n n' e place K f l M = record {
  callees = f;
  upper = λ k s h. known-shifted n.numbers n'.numbers place s.pattern.upper M l (K.upper k s h);
  lower = λ k s h. known-shifted n.numbers n'.numbers place s.pattern.lower M l (K.lower k s h);
  small = K.small;
}

pub knowns-same : (n n' : Numbering) (e : Entered) → AreKnown n e → n'.given ≤ e.callees → n'.numbers ≡ n.numbers → AreKnown n' e
knowns-same n n' e K f q = record {
  callees = f;
  upper = λ k s h. subst (λ ns. IsKnown ns s.pattern.upper) (sym q) (K.upper k s h);
  lower = λ k s h. subst (λ ns. IsKnown ns s.pattern.lower) (sym q) (K.lower k s h);
  small = K.small;
}

pub knowns-inserted : {A E : Type 0} (r : Result A E) (n n' : Numbering) (e : Entered) (place : ℕ) → AreKnown n e → n'.given ≤ e.callees
    → OnOk r (length n'.numbers ≡ length n.numbers + 1) → OnOk r (Moves n.numbers n'.numbers place) → OnErr r (n'.numbers ≡ n.numbers) → AreKnown n' e
knowns-inserted (Ok x) n n' e place K f l M q = knowns-shifted n n' e place K f l M
knowns-inserted (Err x) n n' e place K f l M q = knowns-same n n' e K f q

pub cell-shifted : (n n' : Numbering) (e : Entered) (place : ℕ) → AreKnown n e → Moves n.numbers n'.numbers place → (k : ℕ)
    → get_or (map (cell_of n'.numbers) e.spots) k None ≡ shifted_cell place (get_or (map (cell_of n.numbers) e.spots) k None)
cell-shifted n n' e place K M k =
    cell-at n'.numbers e.spots k ∙ at (spot_at e k) refl ∙ ap (shifted_cell place) (sym (cell-at n.numbers e.spots k))
  where
    at : (o : Option Spot) → spot_at e k ≡ o → cell_of n'.numbers (spot_at e k) ≡ shifted_cell place (cell_of n.numbers (spot_at e k))
    at None x = ap (cell_of n'.numbers) x ∙ ap (λ (o : Option Spot). shifted_cell place (cell_of n.numbers o)) (sym x)
    at (Some s) x =
        let u = label-shifted n.numbers n'.numbers place s.pattern.upper M (K.upper k s x) in
        let l = label-shifted n.numbers n'.numbers place s.pattern.lower M (K.lower k s x) in
        ap (cell_of n'.numbers) x ∙ (rw (u, l) refl) ∙ ap (λ (o : Option Spot). shifted_cell place (cell_of n.numbers o)) (sym x)

-- what taking a rule out says of the numbers
abbrev pub Drops : List ℕ → List ℕ → ℕ → Type 0
Drops old new place = (n : ℕ) → IsGiven old n → place_of old n ≢ place → place_of new n ≡ unshifted place (place_of old n)

label-unshifted : (ns ns' : List ℕ) (place : ℕ) (m : Mark) → Drops ns ns' place → IsKnown ns m → label_of ns m ≢ CallLabel place → label_of ns' m ≡ unshifted_label place (label_of ns m)
label-unshifted ns ns' place Bottom M K n = refl
label-unshifted ns ns' place (Symbol f) M K n = refl
label-unshifted ns ns' place (Call q) M K n = ap CallLabel (M q K (λ e. n (ap CallLabel e)))
label-unshifted ns ns' place Param M K n = refl

known-unshifted : (ns ns' : List ℕ) (place : ℕ) (m : Mark) → Drops ns ns' place → place < length ns → length ns' + 1 ≡ length ns → IsKnown ns m → label_of ns m ≢ CallLabel place → IsKnown ns' m
known-unshifted ns ns' place Bottom M h l K n = tt
known-unshifted ns ns' place (Symbol f) M h l K n = tt
known-unshifted ns ns' place (Call q) M h l K n =
    let z = M q K (λ e. n (ap CallLabel e)) in
    let s = unshifted-below place (place_of ns q) (length ns') (omega arith) (omega arith) (λ e. n (ap CallLabel e)) in
    omega arith
known-unshifted ns ns' place Param M h l K n = tt

-- the cell of an occurrence
pub cell-spot : (n : Numbering) (e : Entered) (k : ℕ) (s : Spot) → spot_at e k ≡ Some s → get_or (map (cell_of n.numbers) e.spots) k None ≡ Some (record { digram = digram_of n.numbers s.pattern; rank = s.pattern.rank; upper = s.upper })
cell-spot n e k s h = cell-at n.numbers e.spots k ∙ ap (cell_of n.numbers) h

-- no digram in these cells has a call of the rule
abbrev pub NoCalls : List (Option Cell) → ℕ → Type 0
NoCalls cs place = (k : ℕ) (o : Cell) → get_or cs k None ≡ Some o → (o.digram.upper ≢ CallLabel place) × (o.digram.lower ≢ CallLabel place)

pub knowns-dropped : (n n' : Numbering) (e : Entered) (place : ℕ) → AreKnown n e → place < length n.numbers → length n'.numbers + 1 ≡ length n.numbers → Drops n.numbers n'.numbers place → NoCalls (map (cell_of n.numbers) e.spots) place → n'.given ≤ n.given → AreKnown n' e
knowns-dropped n n' e place K h l M L f = record {
  callees = let k = K.callees in omega arith;
  upper = λ k s x. known-unshifted n.numbers n'.numbers place s.pattern.upper M h l (K.upper k s x) (L k _ (cell-spot n e k s x)).0;
  lower = λ k s x. known-unshifted n.numbers n'.numbers place s.pattern.lower M h l (K.lower k s x) (L k _ (cell-spot n e k s x)).1;
  small = K.small;
}

pub cell-unshifted : (n n' : Numbering) (e : Entered) (place : ℕ) → AreKnown n e → Drops n.numbers n'.numbers place → NoCalls (map (cell_of n.numbers) e.spots) place → (k : ℕ)
    → get_or (map (cell_of n'.numbers) e.spots) k None ≡ unshifted_cell place (get_or (map (cell_of n.numbers) e.spots) k None)
cell-unshifted n n' e place K M L k =
    cell-at n'.numbers e.spots k ∙ at (spot_at e k) refl ∙ ap (unshifted_cell place) (sym (cell-at n.numbers e.spots k))
  where
    at : (o : Option Spot) → spot_at e k ≡ o → cell_of n'.numbers (spot_at e k) ≡ unshifted_cell place (cell_of n.numbers (spot_at e k))
    at None x = ap (cell_of n'.numbers) x ∙ ap (λ (o : Option Spot). unshifted_cell place (cell_of n.numbers o)) (sym x)
    at (Some s) x =
        let N = L k (record { digram = digram_of n.numbers s.pattern; rank = s.pattern.rank; upper = s.upper }) (cell-spot n e k s x) in
        let u = label-unshifted n.numbers n'.numbers place s.pattern.upper M (K.upper k s x) N.0 in
        let l = label-unshifted n.numbers n'.numbers place s.pattern.lower M (K.lower k s x) N.1 in
        ap (cell_of n'.numbers) x ∙ (rw (u, l) refl) ∙ ap (λ (o : Option Spot). unshifted_cell place (cell_of n.numbers o)) (sym x)

-- more room changes no occurrence
pub knowns-spots : (n n' : Numbering) (e e' : Entered) → AreKnown n e → ((k : ℕ) → spot_at e' k ≡ spot_at e k) → n'.numbers ≡ n.numbers → n'.given ≤ e'.callees → AreKnown n' e'
knowns-spots n n' e e' K q m f = record {
  callees = f;
  upper = λ k s h. subst (λ ns. IsKnown ns s.pattern.upper) (sym m) (K.upper k s (sym (q k) ∙ h));
  lower = λ k s h. subst (λ ns. IsKnown ns s.pattern.lower) (sym m) (K.lower k s (sym (q k) ∙ h));
  small = λ k s h. K.small k s (sym (q k) ∙ h);
}

-- and more numbers neither
pub knowns-room : (n : Numbering) (e e' : Entered) → AreKnown n e → e'.spots ≡ e.spots → e.callees ≤ e'.callees → AreKnown n e'
knowns-room n e e' K q f = knowns-spots n n e e' K (λ (k : ℕ). ap (λ (ss : List (Option Spot)). get_or ss k None) q) refl (let c = K.callees in omega arith)

-- one occurrence more
pub knowns-added : (n : Numbering) (e e' : Entered) (j u : ℕ) (p : Pattern) → AreKnown n e → spot_at e' j ≡ Some (record { pattern = p; upper = u }) → ((k : ℕ) → k ≢ j → spot_at e' k ≡ spot_at e k)
    → IsKnown n.numbers p.upper → IsKnown n.numbers p.lower → p.rank < 16 → e.callees ≤ e'.callees → AreKnown n e'
knowns-added n e e' j u p K here others ku kl kr f = record {
  callees = let c = K.callees in omega arith;
  upper = λ k s h. (all k s h (cases_eq k j)).0;
  lower = λ k s h. (all k s h (cases_eq k j)).1;
  small = λ k s h. (all k s h (cases_eq k j)).2;
}
  where
    same-spot : (a b : Spot) → Some a ≡ Some b → a ≡ b
    same-spot a b q = cc

    new : (k : ℕ) (s : Spot) → spot_at e' k ≡ Some s → k ≡ j → s.pattern ≡ p
    new k s h x = ap (λ (t : Spot). t.pattern) (same-spot s (record { pattern = p; upper = u }) (sym h ∙ ap (spot_at e') x ∙ here))

    all : (k : ℕ) (s : Spot) → spot_at e' k ≡ Some s → (k ≡ j) ⊎ (k ≡ j → ⊥) → IsKnown n.numbers s.pattern.upper × IsKnown n.numbers s.pattern.lower × (s.pattern.rank < 16)
    all k s h (inl x) =
        let q = new k s h x in
        (subst (λ (r : Pattern). IsKnown n.numbers r.upper) (sym q) ku, subst (λ (r : Pattern). IsKnown n.numbers r.lower) (sym q) kl, subst (λ (r : Pattern). r.rank < 16) (sym q) kr)
    all k s h (inr x) = let o = sym (others k x) ∙ h in (K.upper k s o, K.lower k s o, K.small k s o)

-- a linked number is one of those for which there is room
pub spot-within : (e : Entered) (k : ℕ) (s : Spot) → spot_at e k ≡ Some s → k < length e.spots
spot-within e k s h = at (cases_lt k (length e.spots))
  where
    at : (k < length e.spots) ⊎ (length e.spots ≤ k) → k < length e.spots
    at (inl l) = l
    at (inr l) = absurd (let z : None ≡ Some s = sym (get_or_past e.spots k None l) ∙ h in cc)

-- the linked occurrence of a spot
pub spot-linked : (n : Numbering) (e : Entered) (k : ℕ) (key : Key) (u : ℕ) (p : Pattern) (d : Digram) → spot_at e k ≡ Some (record { pattern = p; upper = u }) → key.number ≡ k → digram_of n.numbers p ≡ d
    → (o : Cell) × ((get_or (map (cell_of n.numbers) e.spots) key.number None ≡ Some o) × (o.digram ≡ d))
spot-linked n e k key u p d s z q = (
  record { digram = digram_of n.numbers p; rank = p.rank; upper = u },
  (ap (λ j. get_or (map (cell_of n.numbers) e.spots) j None) z ∙ cell-spot n e k (record { pattern = p; upper = u }) s, q),
)

-- a digram that no known pattern has is in no cell
pub unknown-nowhere : (n : Numbering) (e : Entered) (d : Digram) → AreKnown n e → ((p : Pattern) → IsKnown n.numbers p.upper → IsKnown n.numbers p.lower → digram_of n.numbers p ≢ d)
    → (k : ℕ) (o : Cell) → get_or (map (cell_of n.numbers) e.spots) k None ≡ Some o → o.digram ≢ d
unknown-nowhere n e d K none k o c x = at (spot_at e k) refl
  where
    at : (t : Option Spot) → spot_at e k ≡ t → ⊥
    at None y = let z : None ≡ Some o = sym (cell-at n.numbers e.spots k ∙ ap (cell_of n.numbers) y) ∙ c in cc
    at (Some s) y =
        let z : Some (record { digram = digram_of n.numbers s.pattern; rank = s.pattern.rank; upper = s.upper }) ≡ Some o = sym (cell-spot n e k s y) ∙ c in
        none s.pattern (K.upper k s y) (K.lower k s y) (ap (λ (a : Cell). a.digram) (same (record { digram = digram_of n.numbers s.pattern; rank = s.pattern.rank; upper = s.upper }) o z) ∙ x)
      where
        same : (a b : Cell) → Some a ≡ Some b → a ≡ b
        same a b q = cc
