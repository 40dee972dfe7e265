-- What the best entry says of the grammar.
use Rattle.std.proofs.Common.{◌≡◌, ◌≢◌, ◌<◌, ◌≤◌, ◌⊎◌, inl, inr, ℕ, suc, List, [], ◌∷◌, map, length, get_or, Option, Some, None, Bool, true, false, refl, ap, sym, ◌∙◌, arith}
use Rattle.std.proofs.lemmas.Bool.{cases_lt}
use Rattle.std.proofs.lemmas.List.{length-map}
use Rattle.rule_arena.specs.declared.key.Key.{Key}
use Rattle.rule_arena.specs.declared.label.Label.{Label}
use Rattle.slt_grammar.specs.Names.{Bottom as BottomLabel, Symbol as SymbolLabel, Call as CallLabel, Param as ParamLabel}
use Rattle.slt_grammar.specs.Algebras.{ranks_of}
use Rattle.slt_grammar.specs.Keyed.{Keyed, IsKeyed, rules_of, key_at}
use Rattle.slt_grammar.specs.declared.digram.Digram.{Digram}
use Rattle.digram_index.specs.declared.patterns.Mark.{Mark}
use Rattle.digram_index.specs.declared.patterns.Mark.TheVariants.{Bottom, Symbol, Call, Param}
use Rattle.digram_index.specs.declared.patterns.Pattern.{Pattern}
use Rattle.digram_index.specs.Numbers.{Numbering, place_of}
use Rattle.digram_index.specs.Grouped.{IsAmong, AreDifferent, named_count}
use Rattle.digram_index.specs.Spots.{Spot, Entered, spot_at, upper_from, upper_in, AreApart, IsApartFrom, IsSpotOf, AreApartSpots, HasApartSpots, HasMembers, IsOften}
use Rattle.digram_index.specs.Digrams.{Cell, OccursAt, joint_rank, occurrence_at}
use Rattle.digram_index.specs.Keeping.{AreOccurrences}
use Rattle.digram_index.specs.Linked.{Linked, IsIndexOf, label_of, IsKnown, digram_of, cell_of, AreKnown}
use Rattle.digram_index.specs.Settled.{NodePair, OccursBetween, PairsShareNone, SharesNone, OccurApart, HasApart, IsWithin}
use Rattle.digram_index.proofs.NumberLemmas.{number-back}
use Rattle.digram_index.proofs.SpotCounts.{mark_cases, often-spot, apart-often}
use Rattle.digram_index.proofs.CellLemmas.{cell-at}
use Rattle.digram_index.proofs.LevelLemmas.{same_some}
use Rattle.digram_index.proofs.Apartness.{stands, Stood, depth, odd, even-apart, differ-apart, occurs, Side, Sides, sides}

pub call-same : (a b : ℕ) → CallLabel a ≡ CallLabel b → a ≡ b
call-same a b e = cc

pub label-injective : (ns : List ℕ) (a b : Mark) → IsKnown ns a → IsKnown ns b → label_of ns a ≡ label_of ns b → a ≡ b
label-injective ns Bottom Bottom ka kb e = refl
label-injective ns Bottom (Symbol g) ka kb e = absurd (let z : BottomLabel ≡ SymbolLabel g = e in cc)
label-injective ns Bottom (Call m) ka kb e = absurd (let z : BottomLabel ≡ CallLabel (place_of ns m) = e in cc)
label-injective ns Bottom Param ka kb e = absurd (let z : BottomLabel ≡ ParamLabel = e in cc)
label-injective ns (Symbol f) Bottom ka kb e = absurd (let z : SymbolLabel f ≡ BottomLabel = e in cc)
label-injective ns (Symbol f) (Symbol g) ka kb e = let z : SymbolLabel f ≡ SymbolLabel g = e in let w : f ≡ g = cc in ap Symbol w
label-injective ns (Symbol f) (Call m) ka kb e = absurd (let z : SymbolLabel f ≡ CallLabel (place_of ns m) = e in cc)
label-injective ns (Symbol f) Param ka kb e = absurd (let z : SymbolLabel f ≡ ParamLabel = e in cc)
label-injective ns (Call n) Bottom ka kb e = absurd (let z : CallLabel (place_of ns n) ≡ BottomLabel = e in cc)
label-injective ns (Call n) (Symbol g) ka kb e = absurd (let z : CallLabel (place_of ns n) ≡ SymbolLabel g = e in cc)
label-injective ns (Call n) (Call m) ka kb e = ap Call (sym (number-back ns n ka) ∙ ap (λ p. get_or ns p 0) (call-same (place_of ns n) (place_of ns m) e) ∙ number-back ns m kb)
label-injective ns (Call n) Param ka kb e = absurd (let z : CallLabel (place_of ns n) ≡ ParamLabel = e in cc)
label-injective ns Param Bottom ka kb e = absurd (let z : ParamLabel ≡ BottomLabel = e in cc)
label-injective ns Param (Symbol g) ka kb e = absurd (let z : ParamLabel ≡ SymbolLabel g = e in cc)
label-injective ns Param (Call m) ka kb e = absurd (let z : ParamLabel ≡ CallLabel (place_of ns m) = e in cc)
label-injective ns Param Param ka kb e = refl

-- patterns are equal where all their fields are
pub fields : (x y : Pattern) → x.upper ≡ y.upper → x.place ≡ y.place → x.lower ≡ y.lower → x.rank ≡ y.rank → x ≡ y
fields x y u p l r =
    ap (λ (m : Mark). record { upper = m; place = x.place; lower = x.lower; rank = x.rank }) u
    ∙ ap (λ (c : ℕ). record { upper = y.upper; place = c; lower = x.lower; rank = x.rank }) p
    ∙ ap (λ (m : Mark). record { upper = y.upper; place = y.place; lower = m; rank = x.rank }) l
    ∙ ap (λ (c : ℕ). record { upper = y.upper; place = y.place; lower = y.lower; rank = c }) r

-- each cell is an occurrence
abbrev pub AreCells : Keyed → Numbering → Entered → Type 0
AreCells g n e = (key : Key) (o : Cell) → get_or (map (cell_of n.numbers) e.spots) key.number None ≡ Some o → OccursAt g.rules key o

-- each occurrence has a cell
abbrev pub AreAllCells : Keyed → Numbering → Entered → Type 0
AreAllCells g n e = (r p : ℕ) (key : Key) → key_at g.rules r p ≡ Some key → get_or (map (cell_of n.numbers) e.spots) key.number None ≡ occurrence_at g.rules r p

module _ (g : Keyed) (K : IsKeyed g) (n : Numbering) (e : Entered) (N : AreKnown n e) (C : AreCells g n e) where
  abbrev pub pair : ℕ → NodePair
  pair k = record { low = k; high = upper_in e.spots k }

  -- an occurrence of a pattern in the grammar
  pub record Member (p : Pattern) (k : ℕ) : Type 0 where
    pub stood : Stood g.rules (digram_of n.numbers p) (pair k)
    pub here : occurrence_at g.rules stood.rule stood.place ≡ Some stood.occurrence
    pub rank : stood.occurrence.rank ≡ p.rank
    pub upper : IsKnown n.numbers p.upper
    pub lower : IsKnown n.numbers p.lower

  pub member : (p : Pattern) (k : ℕ) → IsSpotOf e.spots p k → Member p k
  member p k s =
      let o : Cell = record { digram = digram_of n.numbers p; rank = p.rank; upper = s.0 } in
      let c : get_or (map (cell_of n.numbers) e.spots) k None ≡ Some o = cell-at n.numbers e.spots k ∙ ap (cell_of n.numbers) s.1 in
      let key : Key = record { number = k } in
      let O = C key o c in
      record {
        stood = record { rule = O.rule; place = O.place; key = key; occurrence = o; key_at = O.there; at = stands g.rules O.rule O.place key o O.there O.here; low = refl; high = ap upper_from (sym s.1); digram = refl };
        here = O.here;
        rank = refl;
        upper = N.upper k (record { pattern = p; upper = s.0 }) s.1;
        lower = N.lower k (record { pattern = p; upper = s.0 }) s.1;
      }

  -- those that are named, by the numbers of their nodes
  abbrev pairs : List (Option ℕ) → List NodePair
  pairs [] = []
  pairs (None ∷ ks) = pairs ks
  pairs (Some k ∷ ks) = pair k ∷ pairs ks

  length-pairs : (ks : List (Option ℕ)) → length (pairs ks) ≡ named_count ks
  length-pairs [] = refl
  length-pairs (None ∷ ks) = length-pairs ks
  length-pairs (Some k ∷ ks) = ap suc (length-pairs ks)

  -- named ones share no node, where different ones of their kind do not
  named-from : (F : ℕ → Type 0) → ((a b : ℕ) → F a → F b → a ≢ b → PairsShareNone (pair a) (pair b)) → (a : ℕ) → F a → (ks : List (Option ℕ)) → ((k : ℕ) → IsAmong k ks → F k) → (IsAmong a ks → ⊥) → SharesNone (pair a) (pairs ks)
  named-from F apart a x [] f n = tt
  named-from F apart a x (None ∷ ks) f n = named-from F apart a x ks f n
  named-from F apart a x (Some k ∷ ks) f n = (apart a k x (f k (inl refl)) (λ z. n (inl z)), named-from F apart a x ks (λ j i. f j (inr i)) (λ i. n (inr i)))

  named-apart : (p : Pattern) (F : ℕ → Type 0) → ((k : ℕ) → F k → Member p k) → ((a b : ℕ) → F a → F b → a ≢ b → PairsShareNone (pair a) (pair b)) → (ks : List (Option ℕ)) → AreDifferent ks → ((k : ℕ) → IsAmong k ks → F k)
      → OccurApart g.rules (digram_of n.numbers p) (pairs ks)
  named-apart p F m apart [] D f = tt
  named-apart p F m apart (None ∷ ks) D f = named-apart p F m apart ks D f
  named-apart p F m apart (Some k ∷ ks) D f =
      let M = m k (f k (inl refl)) in
      (occurs g K (digram_of n.numbers p) (pair k) M.stood M.here, (named-from F apart k (f k (inl refl)) ks (λ j i. f j (inr i)) D.0, named-apart p F m apart ks D.1 (λ j i. f j (inr i))))

  share : (a b : ℕ) → AreApart (upper_in e.spots) a b → PairsShareNone (pair a) (pair b)
  share a b A = record { lows = A.lows; highs = A.highs; down = A.down; back = A.back }

  -- a member with its parity
  abbrev pub Even : Pattern → ℕ → Bool → Type 0
  Even p k b = (M : Member p k) × (odd g K (depth g K (digram_of n.numbers p) (pair k) M.stood) ≡ b)

  from-side : (p : Pattern) (ks : List (Option ℕ)) (b : Bool) (S : Side ks (Even p) b) (least : ℕ) → least ≤ named_count S.items → HasApart g.rules (digram_of n.numbers p) least
  from-side p ks b S least h =
      let even = λ (j k : ℕ) (x : Even p j b) (y : Even p k b) (d : j ≢ k). even-apart g K (digram_of n.numbers p) (pair j) (pair k) x.0.stood y.0.stood d (x.1 ∙ sym y.1) in
      (pairs S.items, (named-apart p (λ k. Even p k b) (λ k x. x.0) even S.items S.different S.facts, let l = length-pairs S.items in omega arith))

  -- of five occurrences three stand at depths of one parity, and share no node
  five : (p : Pattern) → HasMembers e.spots p 5 → (least : ℕ) → least ≤ 3 → HasApart g.rules (digram_of n.numbers p) least
  five p H least three = at (sides H.0 (Even p) H.1.0.different (λ k i. let M = member p k (H.1.0.members k i) in (odd g K (depth g K (digram_of n.numbers p) (pair k) M.stood), (M, refl))))
    where
      at : Sides H.0 (Even p) → HasApart g.rules (digram_of n.numbers p) least
      at S = by (cases_lt (named_count S.yes.items) least)
        where
          by : (named_count S.yes.items < least) ⊎ (least ≤ named_count S.yes.items) → HasApart g.rules (digram_of n.numbers p) least
          by (inl x) = from-side p H.0 false S.no_ least (let c = S.counts in let h = H.1.1 in omega arith)
          by (inr x) = from-side p H.0 true S.yes least x

  differing : (p : Pattern) → p.upper ≢ p.lower → (least : ℕ) → HasMembers e.spots p least → HasApart g.rules (digram_of n.numbers p) least
  differing p x least H =
      let apart = λ (j k : ℕ) (M : Member p j) (L : Member p k) (d : j ≢ k). differ-apart g K (digram_of n.numbers p) (pair j) (pair k) M.stood L.stood d (λ z. x (label-injective n.numbers p.upper p.lower M.upper M.lower z)) in
      (pairs H.0, (named-apart p (Member p) (λ k M. M) apart H.0 H.1.0.different (λ k i. member p k (H.1.0.members k i)), let l = length-pairs H.0 in let h = H.1.1 in omega arith))

  spots-from : (a : ℕ) (ks : List ℕ) → IsApartFrom (upper_in e.spots) a ks → SharesNone (pair a) (map pair ks)
  spots-from a [] A = tt
  spots-from a (k ∷ ks) A = (share a k A.0, spots-from a ks A.1)

  same-spots : (p : Pattern) (ks : List ℕ) → AreApartSpots e.spots p ks → OccurApart g.rules (digram_of n.numbers p) (map pair ks)
  same-spots p [] A = tt
  same-spots p (k ∷ ks) A = let M = member p k A.0 in (occurs g K (digram_of n.numbers p) (pair k) M.stood M.here, (spots-from k ks A.1.0, same-spots p ks A.1.1))

  -- so many occurrences of a pattern that is often share no node
  pub often-apart : (least : ℕ) → least ≤ 3 → (p : Pattern) → IsOften least p e.spots → HasApart g.rules (digram_of n.numbers p) least
  often-apart least three p O = at (mark_cases p.upper p.lower)
    where
      equal : HasMembers e.spots p 5 ⊎ HasApartSpots e.spots p least → HasApart g.rules (digram_of n.numbers p) least
      equal (inl H) = five p H least three
      equal (inr T) = (map pair T.0, (same-spots p T.0 T.1.0, let l = length-map T.0 pair in let m = T.1.1 in omega arith))

      at : (p.upper ≡ p.lower) ⊎ (p.upper ≢ p.lower) → HasApart g.rules (digram_of n.numbers p) least
      at (inl q) = equal (O.1 q)
      at (inr q) = differing p q least (O.0 q)

  -- one member of a pattern that is often
  pub often-member : (least : ℕ) → 1 ≤ least → (p : Pattern) → IsOften least p e.spots → (k : ℕ) × Member p k
  often-member least one p O = let t = often-spot e.spots least p one O in (t.0, member p t.0 t.1)

  pub often-within : (least : ℕ) → 1 ≤ least → (p : Pattern) (bound : ℕ) → p.rank ≤ bound → IsOften least p e.spots → IsWithin g.rules bound (digram_of n.numbers p)
  often-within least one p bound h O =
      let M = (often-member least one p O).1 in
      let r = M.stood.at.rank in
      let q = M.rank in
      let d = ap (λ (x : Digram). joint_rank (ranks_of (rules_of g.rules)) x.upper x.lower) M.stood.digram in
      omega arith

  -- what the index has of an occurrence
  record Found (d : Digram) (m : NodePair) : Type 0 where
    pub spot : Spot
    pub at : spot_at e m.low ≡ Some spot
    pub digram : digram_of n.numbers spot.pattern ≡ d
    pub rank : spot.pattern.rank ≡ joint_rank (ranks_of (rules_of g.rules)) d.upper d.lower
    pub upper : spot.upper ≡ m.high

  found : AreAllCells g n e → (d : Digram) (m : NodePair) → OccursBetween g.rules d m → Found d m
  found all d m O = at (spot_at e m.low) refl
    where
      c : get_or (map (cell_of n.numbers) e.spots) m.low None ≡ Some O.occurrence
      c = ap (λ k. get_or (map (cell_of n.numbers) e.spots) k None) (sym O.low) ∙ all O.at.rule O.at.place O.key O.at.there ∙ O.at.here

      at : (o : Option Spot) → spot_at e m.low ≡ o → Found d m
      at None x = absurd (let z : None ≡ Some O.occurrence = sym (cell-at n.numbers e.spots m.low ∙ ap (cell_of n.numbers) x) ∙ c in cc)
      at (Some s) x =
          let o : Cell = record { digram = digram_of n.numbers s.pattern; rank = s.pattern.rank; upper = s.upper } in
          let z : Some o ≡ Some O.occurrence = sym (cell-at n.numbers e.spots m.low ∙ ap (cell_of n.numbers) x) ∙ c in
          let y = same_some o O.occurrence z in
          let S = stands g.rules O.at.rule O.at.place O.key O.occurrence O.at.there O.at.here in
          record {
            spot = s;
            at = x;
            digram = ap (λ (v : Cell). v.digram) y ∙ O.digram;
            rank = ap (λ (v : Cell). v.rank) y ∙ S.rank ∙ ap (λ (v : Digram). joint_rank (ranks_of (rules_of g.rules)) v.upper v.lower) O.digram;
            upper = ap (λ (v : Cell). v.upper) y ∙ O.high;
          }

  pattern-same : (d : Digram) (a b : NodePair) (A : Found d a) (B : Found d b) → B.spot.pattern ≡ A.spot.pattern
  pattern-same d a b A B =
      let z = B.digram ∙ sym A.digram in
      let u = label-injective n.numbers B.spot.pattern.upper A.spot.pattern.upper (N.upper b.low B.spot B.at) (N.upper a.low A.spot A.at) (ap (λ (v : Digram). v.upper) z) in
      let l = label-injective n.numbers B.spot.pattern.lower A.spot.pattern.lower (N.lower b.low B.spot B.at) (N.lower a.low A.spot A.at) (ap (λ (v : Digram). v.lower) z) in
      let p : B.spot.pattern.place ≡ A.spot.pattern.place = ap (λ (v : Digram). v.place) z in
      let r : B.spot.pattern.rank ≡ A.spot.pattern.rank = B.rank ∙ sym A.rank in
      fields B.spot.pattern A.spot.pattern u p l r

  spot-of : (d : Digram) (a b : NodePair) (A : Found d a) (B : Found d b) → IsSpotOf e.spots A.spot.pattern b.low
  spot-of d a b A B = (B.spot.upper, B.at ∙ ap (λ (p : Pattern). Some (record { pattern = p; upper = B.spot.upper })) (pattern-same d a b A B))

  unshare : (d : Digram) (a b : NodePair) (A : Found d a) (B : Found d b) → PairsShareNone a b → AreApart (upper_in e.spots) a.low b.low
  unshare d a b A B X =
      let ua : upper_in e.spots a.low ≡ a.high = ap upper_from A.at ∙ A.upper in
      let ub : upper_in e.spots b.low ≡ b.high = ap upper_from B.at ∙ B.upper in
      record {
        lows = X.lows;
        highs = λ z. X.highs (sym ua ∙ z ∙ ub);
        down = λ z. X.down (z ∙ ub);
        back = λ z. X.back (sym ua ∙ z);
      }

  -- the numbers of the lower nodes
  abbrev lows : List NodePair → List ℕ
  lows = map (λ (m : NodePair). m.low)

  lows-from : AreAllCells g n e → (d : Digram) (m : NodePair) → Found d m → (ms : List NodePair) → OccurApart g.rules d ms → SharesNone m ms → IsApartFrom (upper_in e.spots) m.low (lows ms)
  lows-from all d m M [] O S = tt
  lows-from all d m M (x ∷ ms) O S = (unshare d m x M (found all d x O.0) S.0, lows-from all d m M ms O.1.1 S.1)

  low-spots : AreAllCells g n e → (d : Digram) (a : NodePair) (A : Found d a) (ms : List NodePair) → OccurApart g.rules d ms → AreApartSpots e.spots A.spot.pattern (lows ms)
  low-spots all d a A [] O = tt
  low-spots all d a A (m ∷ ms) O = let M = found all d m O.0 in (spot-of d a m A M, (lows-from all d m M ms O.1.1 O.1.0, low-spots all d a A ms O.1.1))

  -- a digram of which so many occurrences share no node has a pattern that is often
  pub apart-pattern : AreAllCells g n e → (d : Digram) (bound least : ℕ) → 1 ≤ least → IsWithin g.rules bound d → HasApart g.rules d least → (p : Pattern) × ((p.rank ≤ bound) × (IsOften least p e.spots × (digram_of n.numbers p ≡ d)))
  apart-pattern all d bound least one w H = at H.0 H.1.0 H.1.1
    where
      at : (ms : List NodePair) → OccurApart g.rules d ms → least ≤ length ms → (p : Pattern) × ((p.rank ≤ bound) × (IsOften least p e.spots × (digram_of n.numbers p ≡ d)))
      at [] O l = absurd (omega arith)
      at (m ∷ ms) O l =
          let A = found all d m O.0 in
          let r = A.rank in
          let k = length-map (m ∷ ms) (λ (x : NodePair). x.low) in
          (A.spot.pattern, (omega arith, (apart-often e.spots least A.spot.pattern (lows (m ∷ ms), (low-spots all d m A (m ∷ ms) O, omega arith)), A.digram)))

  -- an occurrence of a digram has the digram's pattern
  pub first-none : (d : Digram) (p : Pattern) → digram_of n.numbers p ≡ d → IsKnown n.numbers p.upper → IsKnown n.numbers p.lower → p.rank ≡ joint_rank (ranks_of (rules_of g.rules)) d.upper d.lower
      → ((k : ℕ) (s : Spot) → spot_at e k ≡ Some s → s.pattern ≢ p) → (k : ℕ) (o : Cell) → get_or (map (cell_of n.numbers) e.spots) k None ≡ Some o → o.digram ≢ d
  first-none d p q ku kl r none k o c x = at (spot_at e k) refl
    where
      at : (t : Option Spot) → spot_at e k ≡ t → ⊥
      at None y = let z : None ≡ Some o = sym (cell-at n.numbers e.spots k ∙ ap (cell_of n.numbers) y) ∙ c in cc
      at (Some s) y =
          let z : Some (record { digram = digram_of n.numbers s.pattern; rank = s.pattern.rank; upper = s.upper }) ≡ Some o = sym (cell-at n.numbers e.spots k ∙ ap (cell_of n.numbers) y) ∙ c in
          let w = same_some (record { digram = digram_of n.numbers s.pattern; rank = s.pattern.rank; upper = s.upper }) o z in
          let v : digram_of n.numbers s.pattern ≡ d = ap (λ (a : Cell). a.digram) w ∙ x in
          let M = member s.pattern k (s.upper, y) in
          let f = sym v ∙ v in
          let m = v ∙ sym q in
          let rk : s.pattern.rank ≡ p.rank = sym M.rank ∙ M.stood.at.rank ∙ ap (λ (a : Digram). joint_rank (ranks_of (rules_of g.rules)) a.upper a.lower) (M.stood.digram ∙ v) ∙ sym r in
          let u = label-injective n.numbers s.pattern.upper p.upper M.upper ku (ap (λ (a : Digram). a.upper) m) in
          let l = label-injective n.numbers s.pattern.lower p.lower M.lower kl (ap (λ (a : Digram). a.lower) m) in
          let pl : s.pattern.place ≡ p.place = ap (λ (a : Digram). a.place) m in
          none k s y (fields s.pattern p u pl l rk)

pub are-cells : (g : Keyed) (L : Linked) (n : Numbering) (e : Entered) → AreOccurrences g.rules L → map (cell_of n.numbers) e.spots ≡ L.cells → AreCells g n e
are-cells g L n e I q = λ key o c. I key o (sym (ap (λ (cs : List (Option Cell)). get_or cs key.number None) q) ∙ c)

pub are-all-cells : (g : Keyed) (L : Linked) (n : Numbering) (e : Entered) → IsIndexOf g L → map (cell_of n.numbers) e.spots ≡ L.cells → AreAllCells g n e
are-all-cells g L n e I q = λ r p key k. ap (λ (cs : List (Option Cell)). get_or cs key.number None) q ∙ I.all r p key k

pub digram-is : (place : ℕ) (u l u' l' : Label) → u' ≡ u → l' ≡ l → let x : Digram = record { upper = u; place = place; lower = l } in let y : Digram = record { upper = u'; place = place; lower = l' } in x ≡ y
digram-is place u l u' l' a b =
    ap (λ (m : Label). let x : Digram = record { upper = m; place = place; lower = l } in x) (sym a) ∙ ap (λ (m : Label). let x : Digram = record { upper = u'; place = place; lower = m } in x) (sym b)
