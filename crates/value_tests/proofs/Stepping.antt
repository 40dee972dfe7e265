-- Bodies that become others label by label.
use Rattle.std.proofs.Common.{◌≡◌, ℕ, zero, suc, ◌+◌, ◌<◌, ◌≤◌, List, [], ◌∷◌, ◌++◌, length, get_or, take, drop, map, refl, ap, sym, ◌∙◌, arith, subst, Some, None, Option, inl, Bool, true, false, if◌then◌else◌, slice_get}
use Rattle.std.proofs.lemmas.List.{length-map, length-take-le}
use Rattle.rule_arena.specs.Preorder.{AreTerms}
use Rattle.std.specs.List.{AllZip}
use Rattle.rule_arena.specs.declared.label.Label.{Label}
use Rattle.rule_arena.specs.declared.label.Label.TheVariants.{Bottom, Symbol, Call, Param}
use Rattle.slt_grammar.specs.Algebras.{ranks_of, all_meanings}
use Rattle.slt_grammar.specs.Automata.{handed}
use Rattle.slt_grammar.specs.Bodies.{arity}
use Rattle.slt_grammar.specs.Grammars.{IsGrammar, rank_at, value_at}
use Rattle.slt_grammar.specs.Terms.{holes, holes_of}
use Rattle.slt_grammar.specs.declared.rules.Rule.{Rule}
use Rattle.slt_grammar.proofs.Linear.{length-holes}
use Rattle.slt_grammar.proofs.Meanings.{meanings-whole}
use Rattle.value_tests.specs.Relabelled.{Spot, relabelled}
use Rattle.value_tests.specs.TextPlaces.{sizes, placing, marked}
use Rattle.value_tests.specs.Steps.{sizes_of, kid_notes, notes_of, sized, ServesAt, Becomes, StepsTo, IsPlainSpot, IsPlainStep}
use Rattle.segment_counts.specs.Counting.{AreCounts, CountTable, told}
use Rattle.segment_counts.specs.declared.counts.Measure.TheVariants.{Texts}
use Rattle.segment_counts.specs.Weights.{text_weight, count, valued}
use Rattle.plain_tree.specs.Numbers.{has_value}
use Rattle.value_tests.specs.TextPlaces.{places, whole_size, AreClear}
use Rattle.value_tests.specs.Marking.{has_mark}
use Rattle.value_tests.proofs.TextPlaces.{relabelled-none, handed-none, handed-counts, size-counts, clear-counts}
use Rattle.value_tests.proofs.Unmarked.{unmarked-counts}
use Rattle.value_tests.proofs.Handing.{linear}
use Rattle.value_tests.proofs.Relabelling.{append-parts}
use Rattle.plain_tree.specs.declared.kind.Kind.{Kind}
use Rattle.slt_grammar.proofs.Carrying.{up-value_at}
use Rattle.std.proofs.Math.Path.{fun_ext}

module _ (w : Label → ℕ) (G : List Rule) where
  -- one label more, from the end
  pub sizes-front : (l : Label) (args : List ℕ) (ls : List Label) → (l ≡ Param → ⊥) → sizes_of w G args (l ∷ ls) ≡ sized w G l (sizes_of w G args ls)
  sizes-front Bottom args ls n = refl
  sizes-front (Symbol f) args ls n = refl
  sizes-front (Call q) args ls n = refl
  sizes-front Param args ls n = absurd (n refl)

  pub notes-front : (l : Label) (args : List ℕ) (ls : List Label) → (l ≡ Param → ⊥) → notes_of w G args (l ∷ ls) ≡ kid_notes w G l (sizes_of w G args ls) ++ notes_of w G args ls
  notes-front Bottom args ls n = refl
  notes-front (Symbol f) args ls n = refl
  notes-front (Call q) args ls n = refl
  notes-front Param args ls n = absurd (n refl)

  -- as many sizes as terms
  pub sizes-count : (n : ℕ) (args : List ℕ) (ls : List Label) → AreTerms (arity (ranks_of G)) n ls → length (sizes_of w G args ls) ≡ n
  sizes-count n args ls t = (meanings-whole (sizes w) (ranks_of G) (all_meanings (sizes w) G) n args ls [] t).1

  module _ (symbols : ℕ) (marks : ℕ → ℕ) (spots : List (Spot ℕ (Option ℕ))) where
    -- one label more, from the front
    pub step-front : (l : Label) (p : ℕ) (args : List ℕ) (ds : List (Option ℕ)) (ls : List Label) (m : Label) (ms : List Label) (opened : List ℕ) → (l ≡ Param → ⊥)
        → StepsTo w G symbols marks spots l p (sizes_of w G args ls) m opened → Becomes w G symbols marks spots args (map Some opened ++ ds) ls ms → Becomes w G symbols marks spots args (Some p ∷ ds) (l ∷ ls) (m ∷ ms)
    step-front Bottom p args ds ls m ms opened n s b = (s.0, rw s.1 at b)
    step-front Param p args ds ls m ms opened n s b = absurd (n refl)
    step-front (Symbol f) p args ds ls m ms opened n s b = (s.0, rw s.1 at b)
    step-front (Call q) p args ds ls m ms opened n s b = (s.0, rw s.1 at b)

    pub param-front : (p : ℕ) (args : List ℕ) (ds : List (Option ℕ)) (ls ms : List Label) → Becomes w G symbols marks spots (drop 1 args) ds ls ms → Becomes w G symbols marks spots args (Some p ∷ ds) (Param ∷ ls) (Param ∷ ms)
    param-front p args ds ls ms b = (refl, b)

abbrev pub nones : ℕ → List (Option ℕ)
nones zero = []
nones (suc n) = None ∷ nones n

pub nones-append : (m n : ℕ) → nones m ++ nones n ≡ nones (m + n)
nones-append zero n = let e : 0 + n ≡ n = omega arith in rw e refl
nones-append (suc m) n = let e : suc m + n ≡ suc (m + n) = omega arith in rw e (ap (λ xs. None ∷ xs) (nones-append m n))

pub nones-map : {X : Type 0} (xs : List X) (n : ℕ) → length xs ≡ n → map (λ x. None) xs ≡ nones n
nones-map [] zero e = refl
nones-map [] (suc n) e = absurd (omega arith)
nones-map (x ∷ xs) zero e = absurd (omega arith)
nones-map (x ∷ xs) (suc n) e = ap (λ ys. None ∷ ys) (nones-map xs n (omega arith))

-- a rule's value has its rank of holes, also where no rule is
pub holes-count : (G : List Rule) → IsGrammar G → (q : ℕ) → length (holes_of (value_at G q)) ≡ get_or (ranks_of G) q 0
holes-count G g q =
    let k : ℕ = get_or (ranks_of G) q 0 in
    let o = (linear G g).in_order q (holes 0 k) (length-holes 0 k) in
    sym (length-map (holes_of (value_at G q)) _) ∙ ap length o ∙ length-holes 0 k

module _ (w : Label → ℕ) (G : List Rule) (g : IsGrammar G) (symbols : ℕ) (marks : ℕ → ℕ) (spots : List (Spot ℕ (Option ℕ))) where
  -- a plain spot serves where no text is marked
  pub plain-serves : (id q : ℕ) (kids : List ℕ) (d : Option ℕ) → IsPlainSpot spots id q → relabelled (sizes w) (placing w) (marked w symbols marks) (value_at G q) kids d ≡ value_at G q
      → ServesAt w G symbols marks spots id q kids d
  plain-serves id q kids d s e = record {
    serves = record { spot = s.0; there = s.1; rule = s.2; same = rw (s.3, s.2) (relabelled-none w symbols marks (value_at G q) s.0.states ∙ sym e) };
    kind = inl s;
  }

  -- a body without marked texts becomes the one with plain spots
  pub plain-body : (n : ℕ) (args : List ℕ) (ls ms : List Label) → AreTerms (arity (ranks_of G)) n ls → AllZip (IsPlainStep spots) ls ms → Becomes w G symbols marks spots args (nones n) ls ms
  plain-body n args [] [] t p = tt
  plain-body n args [] (m ∷ ms) t p = absurd p
  plain-body n args (l ∷ ls) [] t p = absurd p
  plain-body zero args (l ∷ ls) (m ∷ ms) t p = absurd t
  plain-body (suc n) args (Param ∷ ls) (m ∷ ms) t p = (p.0, let e : 0 + n ≡ n = omega arith in plain-body n (drop 1 args) ls ms (subst (λ k. AreTerms (arity (ranks_of G)) k ls) e t) p.1)
  plain-body (suc n) args (Bottom ∷ ls) (m ∷ ms) t p = (p.0, let e : 0 + n ≡ n = omega arith in plain-body n args ls ms (subst (λ k. AreTerms (arity (ranks_of G)) k ls) e t) p.1)
  plain-body (suc n) args (Symbol f ∷ ls) (m ∷ ms) t p = (p.0, let e : 2 + n ≡ suc (suc n) = omega arith in plain-body (suc (suc n)) args ls ms (subst (λ k. AreTerms (arity (ranks_of G)) k ls) e t) p.1)
  plain-body (suc n) args (Call q ∷ ls) (m ∷ ms) t p =
      let k : ℕ = get_or (ranks_of G) q 0 in
      let kids : List ℕ = take k (sizes_of w G args ls) in
      let h : handed (sizes w) (placing w) (value_at G q) kids None ≡ nones k = handed-none w (value_at G q) kids ∙ nones-map (holes_of (value_at G q)) k (holes-count G g q) in
      ((p.0.0, p.0.1, plain-serves p.0.0 q kids None p.0.2 (relabelled-none w symbols marks (value_at G q) kids)), rw (h, nones-append k n) (plain-body (k + n) args ls ms t p.1))

-- a label has one text at most
text-light : (names : List (Kind × List ℕ)) (l : Label) → text_weight names l ≤ 1
text-light names Bottom = omega arith
text-light names Param = omega arith
text-light names (Call q) = omega arith
text-light names (Symbol f) = light (slice_get names f)
  where
    bit : (b : Bool) → (if b then 1 else 0) ≤ 1
    bit true = omega arith
    bit false = omega arith

    light : (o : Option (Kind × List ℕ)) → valued o ≤ 1
    light None = omega arith
    light (Some pair) = bit (has_value pair.0)

-- what the counts that are kept tell
module _ (names : List (Kind × List ℕ)) (G : List Rule) (C : CountTable) (c : AreCounts names G C) (q : ℕ) (h : q < length G) where
  pub told-counts : told Texts C.rows q ≡ count (text_weight names) G q
  told-counts = fun_ext (λ i. c.numbers.each Texts q i h)

module _ (names : List (Kind × List ℕ)) (G : List Rule) (g : IsGrammar G) (C : CountTable) (c : AreCounts names G C) (q : ℕ) (h : q < length G) (kids : List ℕ) (many : length kids ≡ rank_at G q) where
  pub handed-told : (p : ℕ) → handed (sizes (text_weight names)) (placing (text_weight names)) (value_at G q) kids (Some p) ≡ map Some (places (told Texts C.rows q) 0 kids p)
  handed-told p = rw (told-counts names G C c q h) (handed-counts (text_weight names) refl G g q h kids many p)

  pub size-told : get_or (all_meanings (sizes (text_weight names)) G) q (λ _. 0) kids ≡ whole_size (told Texts C.rows q) 0 kids
  size-told = rw (told-counts names G C c q h) (sym (up-value_at (sizes (text_weight names)) G q kids many) ∙ size-counts (text_weight names) refl G g q h kids many)

  pub clear-told : (symbols : ℕ) (marks : ℕ → ℕ) (p : ℕ) → AreClear (told Texts C.rows q) marks 0 kids p
      → relabelled (sizes (text_weight names)) (placing (text_weight names)) (marked (text_weight names) symbols marks) (value_at G q) kids (Some p) ≡ value_at G q
  clear-told symbols marks p a = clear-counts (text_weight names) refl G g q h kids many symbols marks p (subst (λ k. AreClear k marks 0 kids p) (told-counts names G C c q h) a)

  -- where not all texts of the segments are clear, the value has a mark
  pub mark-told : (marks : ℕ → ℕ) (p : ℕ) → (AreClear (told Texts C.rows q) marks 0 kids p → ⊥) → has_mark (text_weight names) marks (value_at G q) kids p ≡ true
  mark-told marks p n = by (has_mark (text_weight names) marks (value_at G q) kids p) refl
    where
      by : (b : Bool) → b ≡ has_mark (text_weight names) marks (value_at G q) kids p → has_mark (text_weight names) marks (value_at G q) kids p ≡ true
      by true e = sym e
      by false e = absurd (n (subst (λ k. AreClear k marks 0 kids p) (sym (told-counts names G C c q h)) (unmarked-counts (text_weight names) refl (text-light names) G g q h kids many marks p (sym e))))

-- the numbers that a call takes off are the sizes of its arguments
pub taken-kids : (k : ℕ) (ss rest kids left all : List ℕ) → k ≤ length ss → length kids ≡ k → kids ++ left ≡ all → all ≡ take k ss ++ rest → (kids ≡ take k ss) × (left ≡ rest)
taken-kids k ss rest kids left all l n e f = append-parts kids (take k ss) left rest (n ∙ sym (length-take-le k ss l)) (e ∙ f)
