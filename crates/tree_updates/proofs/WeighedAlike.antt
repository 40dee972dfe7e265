-- Labels that weigh the same, segment by segment.
use Rattle.std.proofs.Common.{◌≡◌, ℕ, zero, suc, ◌<◌, List, [], ◌∷◌, length, refl, sym, ◌∙◌, arith, sum_by}
use Rattle.std.proofs.lemmas.List.Sums.{sum_by-cons}
use Rattle.plain_tree.specs.declared.kind.Kind.{Kind}
use Rattle.rule_arena.specs.declared.label.Label.{Label}
use Rattle.rule_arena.specs.declared.label.Label.TheVariants.{Bottom, Symbol, Param}
use Rattle.slt_grammar.specs.Segments.{listed, preorder, segment}
use Rattle.slt_grammar.specs.Terms.{Term, Leaf, Node, Hole, substitute}
use Rattle.slt_grammar.specs.declared.rules.Rule.{Rule}
use Rattle.segment_counts.specs.Counting.{AreCounts, CountTable}
use Rattle.segment_counts.specs.Weights.{weigh}
use Rattle.segment_counts.specs.declared.counts.Measure.{Measure}

-- the first labels weigh by the first weight what the others weigh by the second, in each segment and as a whole
pub record WeighAlike (w v : Label → ℕ) (xs ys : List Label) : Type 0 where
  pub segments : (i : ℕ) → sum_by w (segment i xs) ≡ sum_by v (segment i ys)
  pub whole : sum_by w xs ≡ sum_by v ys

module _ (w v : Label → ℕ) where
  pub alike-none : WeighAlike w v [] []
  alike-none = record { segments = by_segment; whole = refl }
    where
      by_segment : (i : ℕ) → sum_by w (segment i []) ≡ sum_by v (segment i [])
      by_segment zero = refl
      by_segment (suc i) = refl

  alike-symbol : (f g : ℕ) (xs ys : List Label) → w (Symbol f) ≡ v (Symbol g) → WeighAlike w v xs ys → WeighAlike w v (Symbol f ∷ xs) (Symbol g ∷ ys)
  alike-symbol f g xs ys e a = record { segments = by_segment; whole = omega (arith, sum_by-cons w (Symbol f) xs, sum_by-cons v (Symbol g) ys, e, a.whole) }
    where
      by_segment : (i : ℕ) → sum_by w (segment i (Symbol f ∷ xs)) ≡ sum_by v (segment i (Symbol g ∷ ys))
      by_segment zero = omega (arith, sum_by-cons w (Symbol f) (segment 0 xs), sum_by-cons v (Symbol g) (segment 0 ys), e, a.segments 0)
      by_segment (suc i) = a.segments (suc i)

  alike-bottom : (xs ys : List Label) → w Bottom ≡ v Bottom → WeighAlike w v xs ys → WeighAlike w v (Bottom ∷ xs) (Bottom ∷ ys)
  alike-bottom xs ys e a = record { segments = by_segment; whole = omega (arith, sum_by-cons w Bottom xs, sum_by-cons v Bottom ys, e, a.whole) }
    where
      by_segment : (i : ℕ) → sum_by w (segment i (Bottom ∷ xs)) ≡ sum_by v (segment i (Bottom ∷ ys))
      by_segment zero = omega (arith, sum_by-cons w Bottom (segment 0 xs), sum_by-cons v Bottom (segment 0 ys), e, a.segments 0)
      by_segment (suc i) = a.segments (suc i)

  alike-param : (xs ys : List Label) → w Param ≡ v Param → WeighAlike w v xs ys → WeighAlike w v (Param ∷ xs) (Param ∷ ys)
  alike-param xs ys e a = record { segments = by_segment; whole = omega (arith, sum_by-cons w Param xs, sum_by-cons v Param ys, e, a.whole) }
    where
      by_segment : (i : ℕ) → sum_by w (segment i (Param ∷ xs)) ≡ sum_by v (segment i (Param ∷ ys))
      by_segment zero = refl
      by_segment (suc i) = a.segments i

  -- the symbols of a term weigh the same by both
  abbrev pub SymbolsAlike : Term → Type 0
  SymbolsAlike Leaf = Unit {0}
  SymbolsAlike (Hole i) = Unit {0}
  SymbolsAlike (Node f a b) = (w (Symbol f) ≡ v (Symbol f)) × SymbolsAlike a × SymbolsAlike b

  module _ (bottom : w Bottom ≡ v Bottom) (param : w Param ≡ v Param) where
    pub alike-listed : (t : Term) (xs ys : List Label) → SymbolsAlike t → WeighAlike w v xs ys → WeighAlike w v (listed t xs) (listed t ys)
    alike-listed Leaf xs ys s a = alike-bottom xs ys bottom a
    alike-listed (Hole i) xs ys s a = alike-param xs ys param a
    alike-listed (Node f l r) xs ys s a = alike-symbol f f (listed l (listed r xs)) (listed l (listed r ys)) s.0 (alike-listed l (listed r xs) (listed r ys) s.1 (alike-listed r xs ys s.2 a))

    -- one symbol in the place of a hole
    pub alike-around : (all : (t : Term) → SymbolsAlike t) (f g : ℕ) (l r : Term) → w (Symbol f) ≡ v (Symbol g) → (C : Term) (xs ys : List Label) → WeighAlike w v xs ys
        → WeighAlike w v (listed (substitute C (Node f l r ∷ [])) xs) (listed (substitute C (Node g l r ∷ [])) ys)
    alike-around all f g l r e Leaf xs ys a = alike-bottom xs ys bottom a
    alike-around all f g l r e (Hole zero) xs ys a = alike-symbol f g (listed l (listed r xs)) (listed l (listed r ys)) e (alike-listed l (listed r xs) (listed r ys) (all l) (alike-listed r xs ys (all r) a))
    alike-around all f g l r e (Hole (suc i)) xs ys a = alike-bottom xs ys bottom a
    alike-around all f g l r e (Node h c d) xs ys a =
        let args : List Term = Node f l r ∷ [] in
        let others : List Term = Node g l r ∷ [] in
        alike-symbol h h (listed (substitute c args) (listed (substitute d args) xs)) (listed (substitute c others) (listed (substitute d others) ys)) (all (Node h Leaf Leaf)).0
        (alike-around all f g l r e c (listed (substitute d args) xs) (listed (substitute d others) ys) (alike-around all f g l r e d xs ys a))

-- counts of values that weigh the same
pub counts-alike : (names others : List (Kind × List ℕ)) (G H : List Rule) (C : CountTable) → AreCounts names G C → length H ≡ length G
    → ((m : Measure) (q : ℕ) → q < length G → WeighAlike (weigh names m) (weigh others m) (preorder G q) (preorder H q)) → AreCounts others H C
counts-alike names others G H C a n alike = record {
  rules = a.rules ∙ sym n;
  room = omega (arith, a.room, n);
  numbers = record {
    each = λ m q i h. let k : q < length G = omega (arith, h, n) in a.numbers.each m q i k ∙ (alike m q k).segments i;
    small = λ m q h. let k : q < length G = omega (arith, h, n) in omega (arith, a.numbers.small m q k, (alike m q k).whole);
  };
}
