-- One more node of a body whose pairs are folded.
use Rattle.std.proofs.Common.{◌≡◌, ◌≢◌, ◌⊎◌, inl, inr, ℕ, zero, suc, ◌+◌, ◌-◌, ◌<◌, ◌≤◌, List, [], ◌∷◌, ◌++◌, length, take, drop, reverse, slice_get, Option, Some, None, IfSome, refl, ap, sym, subst, ◌∙◌, arith, append_assoc, length-append}
use Rattle.std.proofs.lemmas.List.{length-reverse, length-take-le, take-append-drop}
use Rattle.std.proofs.Common.{length-drop}
use Rattle.rule_arena.specs.Preorder.{AreTerms}
use Rattle.rule_arena.specs.declared.label.Label.{Label}
use Rattle.rule_arena.specs.declared.label.Label.TheVariants.{Bottom, Symbol, Call, Param}
use Rattle.rule_arena.proofs.PreorderLemmas.{AreTerms-append}
use Rattle.slt_grammar.specs.Bodies.{arity, IsTerm}
use Rattle.slt_grammar.specs.declared.digram.Digram.{Digram}
use Rattle.slt_grammar.proofs.Substitutions.{joined, AllTerms, AreTerms-joined}
use Rattle.border_repair.specs.Folding.{IsPair, Folds, parameter, kept, made, live, HoldsTerms, IsFromTop, IsFolding, CanFold, HasPairRank}
use Rattle.border_repair.specs.declared.folding.Root.{Root}
use Rattle.border_repair.proofs.StackLemmas.{split-at, at-split, length-split}

within : (xs : List Root) (k : ℕ) (y : Root) → slice_get xs k ≡ Some y → k < length xs
within [] k y e = absurd cc
within (x ∷ xs) zero y e = omega arith
within (x ∷ xs) (suc k) y e = let h = within xs k y e in omega arith

pub from-top : (roots : List Root) (place at : ℕ) → at ≡ length roots - place → place ≤ length roots → (o : Option Root) → o ≡ slice_get roots at → IfSome o (IsFromTop roots place)
from-top roots place at e l None h = tt
from-top roots place at e l (Some y) h =
    let b = within roots at y (sym h) in
    record {
      above = reverse (drop (suc at) roots);
      below = reverse (take at roots);
      split = split-at roots at y (sym h);
      here = omega (arith, length-reverse (drop (suc at) roots), length-drop (suc at) roots);
    }

pub top-is : (roots : List Root) (place at : ℕ) → at ≡ length roots - place → (y : Root) → IsFromTop roots place y → slice_get roots at ≡ Some y
top-is roots place at e y t =
    let n : at ≡ length t.below = omega (arith, length-split roots t.above t.below y t.split, t.here) in
    ap (slice_get roots) n ∙ at-split roots t.above t.below y t.split

live-append : (xs ys : List (Option Label)) → live (xs ++ ys) ≡ live xs ++ live ys
live-append [] ys = refl
live-append (None ∷ xs) ys = live-append xs ys
live-append (Some l ∷ xs) ys = ap (λ z. l ∷ z) (live-append xs ys)

-- terms behind one another
pub record HoldsRest (roots : List Root) (labels : List (Option Label)) (kids : List Label) (ts : List (List Label)) : Type 0 where
  pub own : List (Option Label)
  pub rest : List (Option Label)
  pub labels_are : labels ≡ own ++ rest
  pub live_are : live own ≡ kids
  pub holds : HoldsTerms roots rest ts

pub holds-kids : (rs : List Root) (labels : List (Option Label)) (kids ts : List (List Label)) → HoldsTerms rs labels (kids ++ ts) → HoldsRest (drop (length kids) rs) labels (joined kids) ts
holds-kids rs labels [] ts h = record { own = []; rest = labels; labels_are = refl; live_are = refl; holds = h }
holds-kids [] labels (k ∷ ks) ts h = absurd h
holds-kids (r ∷ rs) labels (k ∷ ks) ts h =
    let i = holds-kids rs h.1 ks ts h.5 in
    record {
      own = Some r.label ∷ (h.0 ++ i.own);
      rest = i.rest;
      labels_are = h.2 ∙ ap (λ z. Some r.label ∷ (h.0 ++ z)) i.labels_are ∙ ap (λ z. Some r.label ∷ z) (sym (append_assoc h.0 i.own i.rest));
      live_are = ap (λ z. r.label ∷ z) (live-append h.0 i.own ∙ ap (λ z. live h.0 ++ z) i.live_are) ∙ ap (λ z. z ++ joined ks) (sym h.3);
      holds = i.holds;
    }

-- the lower node of a pair is taken out
pub record IsTakenOut (roots : List Root) (y : Root) (labels : List (Option Label)) (before : List (List Label)) (kid : List Label) (after ts : List (List Label)) : Type 0 where
  pub front : List (Option Label)
  pub back : List (Option Label)
  pub labels_are : labels ≡ front ++ (Some y.label ∷ back)
  pub at : y.at ≡ length back
  pub below : List Label
  pub kid_is : kid ≡ y.label ∷ below
  pub others : HoldsRest roots (front ++ (None ∷ back)) (joined before ++ (below ++ joined after)) ts

taken-out : (above : List Root) (y : Root) (under : List Root) (labels : List (Option Label)) (before : List (List Label)) (kid : List Label) (after ts : List (List Label)) → length before ≡ length above
    → HoldsTerms (above ++ y ∷ under) labels (before ++ kid ∷ (after ++ ts)) → IsTakenOut (drop (length after) under) y labels before kid after ts
taken-out [] y under labels (b ∷ before) kid after ts n h = absurd (omega arith)
taken-out (a ∷ above) y under labels [] kid after ts n h = absurd (omega arith)
taken-out [] y under labels [] kid after ts n h =
    let i = holds-kids under h.1 after ts h.5 in
    record {
      front = [];
      back = h.0 ++ h.1;
      labels_are = h.2;
      at = h.4;
      below = live h.0;
      kid_is = h.3;
      others = record {
        own = None ∷ (h.0 ++ i.own);
        rest = i.rest;
        labels_are = ap (λ z. None ∷ z) (ap (λ z. h.0 ++ z) i.labels_are ∙ sym (append_assoc h.0 i.own i.rest));
        live_are = live-append h.0 i.own ∙ ap (λ z. live h.0 ++ z) i.live_are;
        holds = i.holds;
      };
    }
taken-out (a ∷ above) y under labels (b ∷ before) kid after ts n h =
    let i = taken-out above y under h.1 before kid after ts (omega arith) h.5 in
    let o = i.others in
    record {
      front = Some a.label ∷ (h.0 ++ i.front);
      back = i.back;
      labels_are = h.2 ∙ ap (λ z. Some a.label ∷ (h.0 ++ z)) i.labels_are ∙ ap (λ z. Some a.label ∷ z) (sym (append_assoc h.0 i.front (Some y.label ∷ i.back)));
      at = i.at;
      below = i.below;
      kid_is = i.kid_is;
      others = record {
        own = Some a.label ∷ (h.0 ++ o.own);
        rest = o.rest;
        labels_are = ap (λ z. Some a.label ∷ z) (append_assoc h.0 i.front (None ∷ i.back) ∙ ap (λ z. h.0 ++ z) o.labels_are ∙ sym (append_assoc h.0 o.own o.rest));
        live_are = ap (λ z. a.label ∷ z) (live-append h.0 o.own ∙ ap (λ z. live h.0 ++ z) o.live_are) ∙ ap (λ z. z ++ (joined before ++ (i.below ++ joined after))) (sym h.3) ∙ sym (append_assoc b (joined before) (i.below ++ joined after));
        holds = o.holds;
      };
    }

-- the root of a term among others
pub record HasRoot (roots : List Root) (before : List (List Label)) (kid : List Label) : Type 0 where
  pub above : List Root
  pub root : Root
  pub under : List Root
  pub split : roots ≡ above ++ root ∷ under
  pub many : length above ≡ length before
  pub below : List Label
  pub kid_is : kid ≡ root.label ∷ below

has-root : (rs : List Root) (labels : List (Option Label)) (before : List (List Label)) (kid : List Label) (more : List (List Label)) → HoldsTerms rs labels (before ++ kid ∷ more) → HasRoot rs before kid
has-root [] labels [] kid more h = absurd h
has-root [] labels (b ∷ before) kid more h = absurd h
has-root (r ∷ rs) labels [] kid more h = record { above = []; root = r; under = rs; split = refl; many = refl; below = live h.0; kid_is = h.3 }
has-root (r ∷ rs) labels (b ∷ before) kid more h =
    let i = has-root rs h.1 before kid more h.5 in
    record { above = r ∷ i.above; root = i.root; under = i.under; split = ap (λ z. r ∷ z) i.split; many = ap suc i.many; below = i.below; kid_is = i.kid_is }

holds-many : (rs : List Root) (labels : List (Option Label)) (ts : List (List Label)) → HoldsTerms rs labels ts → length rs ≡ length ts
holds-many [] labels [] h = refl
holds-many (r ∷ rs) labels [] h = absurd h
holds-many [] labels (t ∷ ts) h = absurd h
holds-many (r ∷ rs) labels (t ∷ ts) h = ap suc (holds-many rs h.1 ts h.5)

terms-first : (ranks : List ℕ) (xs ys : List (List Label)) → AllTerms ranks (xs ++ ys) → AllTerms ranks xs
terms-first ranks [] ys t = tt
terms-first ranks (x ∷ xs) ys t = (t.0, terms-first ranks xs ys t.1)

terms-others : (ranks : List ℕ) (xs ys : List (List Label)) → AllTerms ranks (xs ++ ys) → AllTerms ranks ys
terms-others ranks [] ys t = t
terms-others ranks (x ∷ xs) ys t = terms-others ranks xs ys t.1

module _ (ranks : List ℕ) (d : Digram) (roots : List Root) (labels : List (Option Label)) (label : Label) (w : CanFold ranks d (reverse roots) labels label) where
  k : ℕ
  k = arity ranks label

  kids : List (List Label)
  kids = take (arity ranks label) w.folding.terms

  rest : List (List Label)
  rest = drop (arity ranks label) w.folding.terms

  all-terms : w.folding.terms ≡ take (arity ranks label) w.folding.terms ++ drop (arity ranks label) w.folding.terms
  all-terms = sym (take-append-drop (arity ranks label) w.folding.terms)

  many : length (take (arity ranks label) w.folding.terms) ≡ arity ranks label
  many = length-take-le (arity ranks label) w.folding.terms w.enough

  -- there are as many roots as children at least
  pub enough-roots : arity ranks label ≤ length roots
  enough-roots = omega (arith, w.enough, holds-many (reverse roots) labels w.folding.terms w.folding.holds, length-reverse roots)

  held : HoldsTerms (reverse roots) labels (take (arity ranks label) w.folding.terms ++ drop (arity ranks label) w.folding.terms)
  held = subst (HoldsTerms (reverse roots) labels) all-terms w.folding.holds

  are : AllTerms ranks (take (arity ranks label) w.folding.terms ++ drop (arity ranks label) w.folding.terms)
  are = subst (AllTerms ranks) all-terms w.folding.are

  behind : Folds ranks 0 d w.labels_behind (take (arity ranks label) w.folding.terms ++ drop (arity ranks label) w.folding.terms)
  behind = subst (Folds ranks 0 d w.labels_behind) all-terms w.folding.folds

  counts-now : AreTerms (arity ranks) (suc (length (drop (arity ranks label) w.folding.terms))) (label ∷ w.labels_behind)
  counts-now = subst (λ n. AreTerms (arity ranks) n w.labels_behind) (ap length all-terms ∙ length-append (take (arity ranks label) w.folding.terms) (drop (arity ranks label) w.folding.terms) ∙ ap (λ n. n + length (drop (arity ranks label) w.folding.terms)) many) w.folding.counts

  -- a node that is kept
  pub fold-kept : (at : ℕ) (roots_now : List Root) (labels_now : List (Option Label)) → at ≡ length labels → roots_now ≡ record { at = at; label = label } ∷ drop (arity ranks label) (reverse roots) → labels_now ≡ Some label ∷ labels
      → (label ≡ d.upper → (y : Root) → IsFromTop roots d.place y → y.label ≢ d.lower) → IsFolding ranks d roots_now labels_now (label ∷ w.labels_behind)
  fold-kept at roots_now labels_now e er el differs = by_label (is_param label) where
    i : HoldsRest (drop (length (take (arity ranks label) w.folding.terms)) (reverse roots)) labels (joined (take (arity ranks label) w.folding.terms)) (drop (arity ranks label) w.folding.terms)
    i = holds-kids (reverse roots) labels (take (arity ranks label) w.folding.terms) (drop (arity ranks label) w.folding.terms) held

    not_pair : IsPair d label (take (arity ranks label) w.folding.terms) → ⊥
    not_pair p =
        let h = subst (HoldsTerms (reverse roots) labels) (ap (λ z. z ++ drop (arity ranks label) w.folding.terms) p.kids_are ∙ append_assoc p.before ((d.lower ∷ p.below) ∷ p.after) (drop (arity ranks label) w.folding.terms)) held in
        let r = has-root (reverse roots) labels p.before (d.lower ∷ p.below) (p.after ++ drop (arity ranks label) w.folding.terms) h in
        let same : r.root.label ≡ d.lower = let f = r.kid_is in cc in
        differs p.upper r.root (record { above = r.above; below = r.under; split = r.split; here = ap suc r.many ∙ p.place }) same

    by_label : (label ≡ Param) ⊎ (label ≢ Param) → IsFolding ranks d roots_now labels_now (label ∷ w.labels_behind)
    by_label c = record {
      terms = (label ∷ joined (take (arity ranks label) w.folding.terms)) ∷ drop (arity ranks label) w.folding.terms;
      holds = subst (λ rs. HoldsTerms rs labels_now ((label ∷ joined (take (arity ranks label) w.folding.terms)) ∷ drop (arity ranks label) w.folding.terms)) (sym er) (
        i.own,
        i.rest,
        el ∙ ap (λ z. Some label ∷ z) i.labels_are,
        ap (λ z. label ∷ z) (sym i.live_are),
        e ∙ ap length i.labels_are,
        subst (λ n. HoldsTerms (drop n (reverse roots)) i.rest (drop (arity ranks label) w.folding.terms)) many i.holds,
      );
      folds = by_case c;
      are = (
        subst (λ n. AreTerms (arity ranks) n (joined (take (arity ranks label) w.folding.terms))) (many ∙ plus-zero (arity ranks label)) (AreTerms-joined ranks (take (arity ranks label) w.folding.terms) (terms-first ranks (take (arity ranks label) w.folding.terms) (drop (arity ranks label) w.folding.terms) are)),
        terms-others ranks (take (arity ranks label) w.folding.terms) (drop (arity ranks label) w.folding.terms) are,
      );
      counts = counts-now;
    }
      where
        plus-zero : (n : ℕ) → n ≡ n + 0
        plus-zero n = omega arith

        by_case : (label ≡ Param) ⊎ (label ≢ Param) → Folds ranks 0 d (label ∷ w.labels_behind) ((label ∷ joined (take (arity ranks label) w.folding.terms)) ∷ drop (arity ranks label) w.folding.terms)
        by_case (inl p) = subst (λ l. Folds ranks 0 d (l ∷ w.labels_behind) ((l ∷ joined (take (arity ranks l) w.folding.terms)) ∷ drop (arity ranks l) w.folding.terms)) (sym p) (parameter w.labels_behind w.folding.terms w.folding.folds)
        by_case (inr n) = kept label w.labels_behind (take (arity ranks label) w.folding.terms) (drop (arity ranks label) w.folding.terms) n many not_pair behind

    is_param : (l : Label) → (l ≡ Param) ⊎ (l ≢ Param)
    is_param Bottom = inr (λ e. cc)
    is_param (Symbol f) = inr (λ e. cc)
    is_param (Call q) = inr (λ e. cc)
    is_param Param = inl refl

-- a list with as many items in front
pub record IsCutAt (xs : List (List Label)) (n : ℕ) : Type 0 where
  pub before : List (List Label)
  pub kid : List Label
  pub after : List (List Label)
  pub is : xs ≡ before ++ kid ∷ after
  pub many : length before ≡ n

cut-at : (xs : List (List Label)) (n : ℕ) → n < length xs → IsCutAt xs n
cut-at [] n l = absurd (omega arith)
cut-at (x ∷ xs) zero l = record { before = []; kid = x; after = xs; is = refl; many = refl }
cut-at (x ∷ xs) (suc n) l = let c = cut-at xs n (omega arith) in record { before = x ∷ c.before; kid = c.kid; after = c.after; is = ap (λ z. x ∷ z) c.is; many = ap suc c.many }

drop-past : (a : List Root) (y : Root) (b : List Root) (n m : ℕ) → n ≡ suc (length a) + m → drop n (a ++ y ∷ b) ≡ drop m b
drop-past [] y b zero m e = absurd (omega arith)
drop-past [] y b (suc n) m e = let f : n ≡ m = omega arith in ap (λ k. drop k b) f
drop-past (x ∷ a) y b zero m e = absurd (omega arith)
drop-past (x ∷ a) y b (suc n) m e = drop-past a y b n m (omega arith)

module _ (ranks : List ℕ) (d : Digram) (pair : HasPairRank ranks d) (roots : List Root) (labels : List (Option Label)) (label : Label) (u : label ≡ d.upper) (w : CanFold ranks d (reverse roots) labels label) (y : Root) (t : IsFromTop roots d.place y) (two : d.place ≤ arity ranks label) (lower : y.label ≡ d.lower) where
  abbrev kids_now : List (List Label)
  kids_now = take (arity ranks label) w.folding.terms

  abbrev rest_now : List (List Label)
  rest_now = drop (arity ranks label) w.folding.terms

  all-now : w.folding.terms ≡ kids_now ++ rest_now
  all-now = sym (take-append-drop (arity ranks label) w.folding.terms)

  many-now : length kids_now ≡ arity ranks label
  many-now = length-take-le (arity ranks label) w.folding.terms w.enough

  pub c : IsCutAt kids_now (length t.above)
  c = cut-at kids_now (length t.above) (omega (arith, t.here, many-now, two))

  split-terms : w.folding.terms ≡ c.before ++ c.kid ∷ (c.after ++ rest_now)
  split-terms = all-now ∙ ap (λ z. z ++ rest_now) c.is ∙ append_assoc c.before (c.kid ∷ c.after) rest_now

  after-many : arity ranks label ≡ suc (length t.above) + length c.after
  after-many = omega (arith, many-now, ap length c.is, length-append c.before (c.kid ∷ c.after), c.many)

  pub out : IsTakenOut (drop (length c.after) t.below) y labels c.before c.kid c.after rest_now
  out = taken-out t.above y t.below labels c.before c.kid c.after rest_now c.many
      (subst (λ rs. HoldsTerms rs labels (c.before ++ c.kid ∷ (c.after ++ rest_now))) t.split (subst (HoldsTerms (reverse roots) labels) split-terms w.folding.holds))

  abbrev is-pair : IsPair d d.upper kids_now
  is-pair = record {
    upper = refl;
    before = c.before;
    below = out.below;
    after = c.after;
    kids_are = c.is ∙ ap (λ z. c.before ++ z ∷ c.after) (out.kid_is ∙ ap (λ l. l ∷ out.below) lower);
    place = ap suc c.many ∙ t.here;
  }

  all-are : AllTerms ranks (c.before ++ c.kid ∷ (c.after ++ rest_now))
  all-are = subst (AllTerms ranks) split-terms w.folding.are

  made-term : IsTerm ranks (Call 0 ∷ (joined c.before ++ (out.below ++ joined c.after)))
  made-term =
      let b = terms-first ranks c.before (c.kid ∷ (c.after ++ rest_now)) all-are in
      let o = terms-others ranks c.before (c.kid ∷ (c.after ++ rest_now)) all-are in
      let kid = subst (IsTerm ranks) (out.kid_is ∙ ap (λ l. l ∷ out.below) lower) o.0 in
      let low : AreTerms (arity ranks) (arity ranks d.lower + 0) out.below = kid in
      let a = AreTerms-joined ranks c.after (terms-first ranks c.after rest_now o.1) in
      let inner = AreTerms-append (arity ranks) (arity ranks d.lower + 0) (length c.after) out.below (joined c.after) low a in
      let whole = AreTerms-append (arity ranks) (length c.before) (arity ranks d.lower + 0 + length c.after) (joined c.before) (out.below ++ joined c.after) (AreTerms-joined ranks c.before b) inner in
      let n : length c.before + (arity ranks d.lower + 0 + length c.after) ≡ arity ranks (Call 0) + 0 = omega (arith, pair.rank, after-many, c.many, ap (arity ranks) u) in
      subst (λ k. AreTerms (arity ranks) k (joined c.before ++ (out.below ++ joined c.after))) n whole

  -- a pair becomes a call
  pub fold-made : (at : ℕ) (roots_now : List Root) (labels_now : List (Option Label)) → at ≡ length (out.front ++ (None ∷ out.back)) → roots_now ≡ record { at = at; label = Call 0 } ∷ drop (arity ranks label) (reverse roots)
      → labels_now ≡ Some (Call 0) ∷ (out.front ++ (None ∷ out.back)) → IsFolding ranks d roots_now labels_now (label ∷ w.labels_behind)
  fold-made at roots_now labels_now e er el =
      let o = out.others in
      let roots_are : drop (arity ranks label) (reverse roots) ≡ drop (length c.after) t.below = ap (drop (arity ranks label)) t.split ∙ drop-past t.above y t.below (arity ranks label) (length c.after) after-many in
      subst (λ l. IsFolding ranks d roots_now labels_now (l ∷ w.labels_behind)) (sym u) (record {
        terms = (Call 0 ∷ (joined c.before ++ (out.below ++ joined c.after))) ∷ rest_now;
        holds = subst (λ rs. HoldsTerms rs labels_now ((Call 0 ∷ (joined c.before ++ (out.below ++ joined c.after))) ∷ rest_now)) (sym er)
            (o.own, o.rest, el ∙ ap (λ z. Some (Call 0) ∷ z) o.labels_are, ap (λ z. Call 0 ∷ z) (sym o.live_are), e ∙ ap length o.labels_are, subst (λ rs. HoldsTerms rs o.rest rest_now) (sym roots_are) o.holds);
        folds = made w.labels_behind kids_now rest_now is-pair (many-now ∙ ap (arity ranks) u) (subst (Folds ranks 0 d w.labels_behind) all-now w.folding.folds);
        are = (made-term, terms-others ranks kids_now rest_now (subst (AllTerms ranks) all-now w.folding.are));
        counts = subst (λ n. AreTerms (arity ranks) n w.labels_behind) (ap length all-now ∙ length-append kids_now rest_now ∙ ap (λ n. n + length rest_now) (many-now ∙ ap (arity ranks) u)) w.folding.counts;
      })

  pub within-labels : y.at < length labels
  within-labels = omega (arith, out.at, ap length out.labels_are, length-append out.front (Some y.label ∷ out.back))
