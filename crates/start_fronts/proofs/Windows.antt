-- Starts that differ in one window of nodes: what stands before each node in front of it is the same, and what stands from each node behind it on.
use Rattle.std.proofs.Common.{◌≡◌, ◌≢◌, ◌⊎◌, inl, inr, ℕ, zero, suc, ◌+◌, ◌-◌, ◌<◌, ◌≤◌, List, [], ◌∷◌, ◌++◌, All, drop, get_or, length, take, Some, refl, sym, ap, ◌∙◌, subst, arith, append_assoc, sum_by}
use Rattle.std.proofs.lemmas.Bool.{cases_lt}
use Rattle.std.proofs.lemmas.List.{take-append-drop, take-append-le}
use Rattle.std.proofs.lemmas.List.Sums.{sum_by-append}
use Rattle.rule_arena.specs.Terms.{Node, key_in, kids_of}
use Rattle.rule_arena.specs.declared.key.Key.{Key}
use Rattle.rule_arena.specs.declared.label.Label.{Label}
use Rattle.rule_arena.specs.declared.label.Label.TheVariants.{Bottom, Symbol, Call, Param}
use Rattle.slt_grammar.specs.Bodies.{CallsBelow}
use Rattle.slt_grammar.specs.Grammars.{value_at}
use Rattle.slt_grammar.specs.Keyed.{IsKeyed, Keyed, KeyedRule, key_at, labels_of, nodes_at, rules_of}
use Rattle.slt_grammar.specs.Segments.{listed, part_of, preorder, segment, spread}
use Rattle.slt_grammar.specs.Terms.{Term}
use Rattle.slt_grammar.specs.Tours.{Stop, tour}
use Rattle.slt_grammar.specs.declared.rules.Rule.{Rule}
use Rattle.slt_grammar.proofs.KeyedLemmas.{length-rules_of}
use Rattle.slt_grammar.proofs.TourLemmas.{preorder-nodes}
use Rattle.start_fronts.specs.Alike.{AreAlike}
use Rattle.start_fronts.specs.Before.{KeepsBefore, StandsBehindSame, labels_before}
use Rattle.start_fronts.specs.Moved.{MovesBefore, StandsBeforeSame, value_labels, weight_before, weight_in}
use Rattle.start_fronts.proofs.Alike.{Behind, alike-take, behind-opened, dropped-same, first-append, none-behind, second-append, tours-same}
use Rattle.start_fronts.proofs.Exchanges.{spread-stops}
use Rattle.start_fronts.proofs.Keeping.{lawful}
use Rattle.start_fronts.proofs.Renumbered.{start-calls}
use Rattle.start_fronts.proofs.Stacks.{opens, tour-append}

-- what stops stand for
abbrev pub spelt : List Rule → List (Stop Node) → List Label
spelt R ms = spread (λ m. part_of R m.item.label m.part) ms []

-- nodes that call rules before k alone, whose values are the same
module _ (X Y : List Rule) (k : ℕ) (values : (r : ℕ) → r < k → value_at Y r ≡ value_at X r) where
  part-below : (l : Label) (ls : List Label) → CallsBelow k (l ∷ ls) → (i : ℕ) → part_of Y l i ≡ part_of X l i
  part-below (Call q) ls c i = ap (λ (t : Term). segment i (listed t [])) (values q c.0)
  part-below Param ls c i = refl
  part-below Bottom ls c zero = refl
  part-below Bottom ls c (suc i) = refl
  part-below (Symbol f) ls c zero = refl
  part-below (Symbol f) ls c (suc i) = refl

  others-below : (l : Label) (ls : List Label) → CallsBelow k (l ∷ ls) → CallsBelow k ls
  others-below (Call q) ls c = c.1
  others-below Param ls c = c
  others-below Bottom ls c = c
  others-below (Symbol f) ls c = c

  pub alike-below : (ns : List Node) → CallsBelow k (labels_of ns) → AreAlike X Y ns ns
  alike-below [] c = tt
  alike-below (n ∷ ns) c = (record { key = refl; kids = refl; parts = part-below n.label (labels_of ns) c }, alike-below ns (others-below n.label (labels_of ns) c))

module _ (X Y : List Rule) where
  pub alike-parts : (xs ys : List Node) → AreAlike X Y (xs ++ ys) (xs ++ ys) → AreAlike X Y xs xs × AreAlike X Y ys ys
  alike-parts [] ys a = (tt, a)
  alike-parts (x ∷ xs) ys a = let p = alike-parts xs ys a.1 in ((a.0, p.0), p.1)

  -- what is open behind such nodes stands for the same
  pub opens-same : (ns : List Node) (afters others : List (List (Stop Node))) → AreAlike X Y ns ns → Behind X Y afters others → Behind X Y (opens kids_of afters ns) (opens kids_of others ns)
  opens-same [] afters others a b = b
  opens-same (n ∷ ns) afters others a b =
      opens-same ns _ _ a.1
      (behind-opened X Y n n (λ i. a.0.parts (suc i)) 0 n.kids (get_or afters 0 []) (get_or others 0 []) (drop 1 afters) (drop 1 others) (b 0) (dropped-same X Y afters others b))

-- nodes one after another
pub key-front : (xs ys : List Node) (p : ℕ) → p < length xs → key_in (xs ++ ys) p ≡ key_in xs p
key-front [] ys p h = absurd (omega (arith, h))
key-front (x ∷ xs) ys zero h = refl
key-front (x ∷ xs) ys (suc p) h = key-front xs ys p (omega (arith, h))

pub key-back : (xs ys : List Node) (p : ℕ) → key_in (xs ++ ys) (length xs + p) ≡ key_in ys p
key-back [] ys p = let z : 0 + p ≡ p = omega arith in ap (λ i. key_in ys i) z
key-back (x ∷ xs) ys p = let z : suc (length xs) + p ≡ suc (length xs + p) = omega arith in ap (λ i. key_in (x ∷ (xs ++ ys)) i) z ∙ key-back xs ys p

pub take-back : (xs ys : List Node) (p : ℕ) → take (length xs + p) (xs ++ ys) ≡ xs ++ take p ys
take-back [] ys p = let z : 0 + p ≡ p = omega arith in ap (λ i. take i ys) z
take-back (x ∷ xs) ys p = let z : suc (length xs) + p ≡ suc (length xs + p) = omega arith in ap (λ i. take i (x ∷ (xs ++ ys))) z ∙ ap (λ ns. x ∷ ns) (take-back xs ys p)

take-whole : (xs : List Node) → take (length xs) xs ≡ xs
take-whole [] = refl
take-whole (x ∷ xs) = ap (λ ns. x ∷ ns) (take-whole xs)

-- the labels of a grammar's value are those for which its start's tour stands
pub value-spelt : (g : Keyed) → IsKeyed g → value_labels g.rules ≡ spelt (rules_of g.rules) (tour kids_of ([] ∷ []) (nodes_at g.rules (length g.rules - 1)))
value-spelt g K =
    let s : ℕ = length g.rules - 1 in
    let some = K.grammar.some in
    ap (λ n. preorder (rules_of g.rules) (n - 1)) (length-rules_of g.rules)
    ∙ preorder-nodes g K s (omega (arith, some, length-rules_of g.rules)) ∙ sym (spread-stops (rules_of g.rules) (tour kids_of ([] ∷ []) (nodes_at g.rules s)) [])

-- the value is what stands before a place of the start, and the rest
value-split : (g : Keyed) → IsKeyed g → (place : ℕ)
    → value_labels g.rules
    ≡ labels_before g.rules (length g.rules - 1) place
    ++ spelt (rules_of g.rules) (tour kids_of (opens kids_of ([] ∷ []) (take place (nodes_at g.rules (length g.rules - 1)))) (drop place (nodes_at g.rules (length g.rules - 1))))
value-split g K place =
    let R : List Rule = rules_of g.rules in
    let ns : List Node = nodes_at g.rules (length g.rules - 1) in
    value-spelt g K
    ∙ ap (λ ms. spelt R (tour kids_of ([] ∷ []) ms)) (sym (take-append-drop place ns))
    ∙ ap (spelt R) (tour-append kids_of ([] ∷ []) (take place ns) (drop place ns))
    ∙ first-append R R (tour kids_of ([] ∷ []) (take place ns)) (tour kids_of (opens kids_of ([] ∷ []) (take place ns)) (drop place ns))

pub nothing-moves : (w : Label → ℕ) (gone : List Key) (number : ℕ) (g : Keyed) → IsKeyed g → MovesBefore w gone number g.rules g.rules
nothing-moves w gone number g K = record {
  early = λ key place there apart h. record { now = place; there = there; same = refl };
  late = λ key place there apart h l. record { now = place; there = there; rest = _; first = value-split g K place; second = value-split g K place };
}

module _ (g h : Keyed) (K : IsKeyed g) (M : IsKeyed h) (A W V T : List Node)
    (old-is : nodes_at g.rules (length g.rules - 1) ≡ A ++ (W ++ T)) (new-is : nodes_at h.rules (length h.rules - 1) ≡ A ++ (V ++ T))
    (values : (r : ℕ) → r < length g.rules - 1 → value_at (rules_of h.rules) r ≡ value_at (rules_of g.rules) r)
    (passes : Behind (rules_of g.rules) (rules_of h.rules) (opens kids_of ([] ∷ []) A) (opens kids_of ([] ∷ []) A)
    → Behind (rules_of g.rules) (rules_of h.rules) (opens kids_of (opens kids_of ([] ∷ []) A) W) (opens kids_of (opens kids_of ([] ∷ []) A) V)) where
  abbrev G : List KeyedRule
  G = g.rules

  abbrev H : List KeyedRule
  H = h.rules

  abbrev X : List Rule
  X = rules_of G

  abbrev Y : List Rule
  Y = rules_of H

  abbrev none : List (List (Stop Node))
  none = [] ∷ []

  abbrev S : List (List (Stop Node))
  S = opens kids_of ([] ∷ []) A

  alike : AreAlike X Y A A × AreAlike X Y T T
  alike =
      let all = alike-below X Y (length G - 1) values (nodes_at G (length G - 1)) (start-calls G (lawful g K)) in
      let p = alike-parts X Y A (W ++ T) (subst (λ (ns : List Node). AreAlike X Y ns ns) old-is all) in
      (p.0, (alike-parts X Y W T p.1).1)

  abbrev pub front : List Label
  front = spelt X (tour kids_of none A)

  abbrev pub old : List Label
  old = spelt X (tour kids_of S W)

  abbrev pub new : List Label
  new = spelt Y (tour kids_of S V)

  abbrev behind : List Node → List Label
  behind Z = spelt X (tour kids_of (opens kids_of S W) Z)

  front-same : spelt Y (tour kids_of none A) ≡ front
  front-same = tours-same X Y A A none none alike.0 (none-behind X Y)

  open-same : Behind X Y S S
  open-same = opens-same X Y A none none alike.0 (none-behind X Y)

  from-front : (Z : List Node) → spelt X (tour kids_of none (A ++ Z)) ≡ front ++ spelt X (tour kids_of S Z)
  from-front Z = ap (spelt X) (tour-append kids_of none A Z) ∙ first-append X Y (tour kids_of none A) (tour kids_of S Z)

  old-of : (Z : List Node) → spelt X (tour kids_of none (A ++ (W ++ Z))) ≡ front ++ (old ++ behind Z)
  old-of Z = from-front (W ++ Z) ∙ ap (λ ls. front ++ ls) (ap (spelt X) (tour-append kids_of S W Z) ∙ first-append X Y (tour kids_of S W) (tour kids_of (opens kids_of S W) Z))

  new-of : (Z : List Node) → AreAlike X Y Z Z → spelt Y (tour kids_of none (A ++ (V ++ Z))) ≡ front ++ (new ++ behind Z)
  new-of Z a =
      ap (spelt Y) (tour-append kids_of none A (V ++ Z))
      ∙ second-append X Y (tour kids_of none A) (tour kids_of S (V ++ Z))
      ∙ ap (λ ls. ls ++ spelt Y (tour kids_of S (V ++ Z))) front-same
      ∙ ap (λ ls. front ++ ls) (ap (spelt Y) (tour-append kids_of S V Z)
      ∙ second-append X Y (tour kids_of S V) (tour kids_of (opens kids_of S V) Z)
      ∙ ap (λ ls. new ++ ls) (tours-same X Y Z Z (opens kids_of S W) (opens kids_of S V) a (passes open-same)))

  old-value : value_labels G ≡ front ++ (old ++ behind T)
  old-value = value-spelt g K ∙ ap (λ ns. spelt X (tour kids_of none ns)) old-is ∙ old-of T

  new-value : value_labels H ≡ front ++ (new ++ behind T)
  new-value = value-spelt h M ∙ ap (λ ns. spelt Y (tour kids_of none ns)) new-is ∙ new-of T alike.1

  -- before a node in front of the window
  old-early : (place : ℕ) → place ≤ length A → labels_before G (length G - 1) place ≡ spelt X (tour kids_of none (take place A))
  old-early place l =
      ap (λ ns. spelt X (tour kids_of none (take place ns))) old-is
      ∙ ap (λ ns. spelt X (tour kids_of none ns)) (take-append-le place A (W ++ T) l)

  new-early : (place : ℕ) → place ≤ length A → labels_before H (length H - 1) place ≡ spelt X (tour kids_of none (take place A))
  new-early place l =
      ap (λ ns. spelt Y (tour kids_of none (take place ns))) new-is
      ∙ ap (λ ns. spelt Y (tour kids_of none ns)) (take-append-le place A (V ++ T) l)
      ∙ tours-same X Y (take place A) (take place A) none none (alike-take X Y place A A alike.0) (none-behind X Y)

  pub stands-early : (key : Key) (place : ℕ) → key_at G (length G - 1) place ≡ Some key → place < length A → StandsBehindSame G H place key
  stands-early key place there l = record {
    now = place;
    there =
        ap (λ ns. key_in ns place) new-is
        ∙ key-front A (V ++ T) place l
        ∙ sym (key-front A (W ++ T) place l)
        ∙ ap (λ ns. key_in ns place) (sym old-is)
        ∙ there;
    same = new-early place (omega (arith, l)) ∙ sym (old-early place (omega (arith, l)));
  }

  -- before one behind it
  old-late : (j : ℕ) → labels_before G (length G - 1) (length A + (length W + j)) ≡ front ++ (old ++ behind (take j T))
  old-late j =
      ap (λ ns. spelt X (tour kids_of none (take (length A + (length W + j)) ns))) old-is
      ∙ ap (λ ns. spelt X (tour kids_of none ns)) (take-back A (W ++ T) (length W + j) ∙ ap (λ ns. A ++ ns) (take-back W T j))
      ∙ old-of (take j T)

  new-late : (j : ℕ) → labels_before H (length H - 1) (length A + (length V + j)) ≡ front ++ (new ++ behind (take j T))
  new-late j =
      ap (λ ns. spelt Y (tour kids_of none (take (length A + (length V + j)) ns))) new-is
      ∙ ap (λ ns. spelt Y (tour kids_of none ns)) (take-back A (V ++ T) (length V + j) ∙ ap (λ ns. A ++ ns) (take-back V T j))
      ∙ new-of (take j T) (alike-take X Y j T T alike.1)

  pub there-late : (key : Key) (j : ℕ) → key_at G (length G - 1) (length A + (length W + j)) ≡ Some key → key_at H (length H - 1) (length A + (length V + j)) ≡ Some key
  there-late key j there =
      ap (λ ns. key_in ns (length A + (length V + j))) new-is
      ∙ key-back A (V ++ T) (length V + j)
      ∙ key-back V T j
      ∙ sym (key-back W T j)
      ∙ sym (key-back A (W ++ T) (length W + j))
      ∙ ap (λ ns. key_in ns (length A + (length W + j))) (sym old-is)
      ∙ there

  behind-split : (j : ℕ) → (rest : List Label) × (behind T ≡ behind (take j T) ++ rest)
  behind-split j =
      let Q = opens kids_of S W in (
        spelt X (tour kids_of (opens kids_of Q (take j T)) (drop j T)),
        ap behind (sym (take-append-drop j T))
            ∙ ap (spelt X) (tour-append kids_of Q (take j T) (drop j T))
            ∙ first-append X Y (tour kids_of Q (take j T)) (tour kids_of (opens kids_of Q (take j T)) (drop j T)),
      )

  onto : (middle : List Label) (j : ℕ) (rest : List Label) → behind T ≡ behind (take j T) ++ rest → front ++ (middle ++ behind T) ≡ (front ++ (middle ++ behind (take j T))) ++ rest
  onto middle j rest e =
      ap (λ ls. front ++ (middle ++ ls)) e
      ∙ ap (λ ls. front ++ ls) (sym (append_assoc middle (behind (take j T)) rest))
      ∙ sym (append_assoc front (middle ++ behind (take j T)) rest)

  pub stands-late : (key : Key) (j : ℕ) → key_at G (length G - 1) (length A + (length W + j)) ≡ Some key → StandsBeforeSame G H (length A + (length W + j)) key
  stands-late key j there =
      let s = behind-split j in
      record {
        now = length A + (length V + j);
        there = there-late key j there;
        rest = s.0;
        first = old-value ∙ onto old j s.0 s.1 ∙ ap (λ ls. ls ++ s.0) (sym (old-late j));
        second = new-value ∙ onto new j s.0 s.1 ∙ ap (λ ls. ls ++ s.0) (sym (new-late j));
      }

  -- a window that stands for the same
  pub stands-kept : (Behind X Y S S → new ≡ old) → (key : Key) (j : ℕ) → key_at G (length G - 1) (length A + (length W + j)) ≡ Some key → StandsBehindSame G H (length A + (length W + j)) key
  stands-kept e key j there = record {
    now = length A + (length V + j);
    there = there-late key j there;
    same = new-late j ∙ ap (λ ls. front ++ (ls ++ behind (take j T))) (e open-same) ∙ sym (old-late j);
  }

  -- and where the window stands for the same, all stays that isn't in it
  pub keeps-around : (Behind X Y S S → new ≡ old) → (gone : List Key) → ((key : Key) (i : ℕ) → key_in W i ≡ Some key → All (λ k. k ≢ key) gone → ⊥) → KeepsBefore gone G H
  keeps-around same gone inside key place there apart = by (cases_lt place (length A))
    where
      inner : (i : ℕ) → length A + i ≡ place → (i < length W) ⊎ (length W ≤ i) → StandsBehindSame G H place key
      inner i e (inl h) =
          absurd (inside key i (sym (key-back A (W ++ T) i ∙ key-front W T i h) ∙ ap (λ ns. key_in ns (length A + i)) (sym old-is) ∙ ap (key_at G (length G - 1)) e ∙ there) apart)
      inner i e (inr h) =
          let f : length A + (length W + (i - length W)) ≡ place = omega (arith, h, e) in
          subst (λ (q : ℕ). StandsBehindSame G H q key) f (stands-kept same key (i - length W) (ap (key_at G (length G - 1)) f ∙ there))

      by : (place < length A) ⊎ (length A ≤ place) → StandsBehindSame G H place key
      by (inl h) = stands-early key place there h
      by (inr h) = let e : length A + (place - length A) ≡ place = omega (arith, h) in inner (place - length A) e (cases_lt (place - length A) (length W))

  -- how much stands before
  module _ (w : Label → ℕ) where
    abbrev weight : List Label → ℕ
    weight = sum_by w

    all-front : weight_before w G (length A) ≡ weight front
    all-front = ap weight (old-early (length A) (omega arith) ∙ ap (λ ns. spelt X (tour kids_of none ns)) (take-whole A))

    in-front : (place : ℕ) → place ≤ length A → weight_before w G place ≤ weight front
    in-front place l =
        let Q = opens kids_of none (take place A) in
        let e : front ≡ spelt X (tour kids_of none (take place A)) ++ spelt X (tour kids_of Q (drop place A)) =
        ap (λ ns. spelt X (tour kids_of none ns)) (sym (take-append-drop place A))
        ∙ ap (spelt X) (tour-append kids_of none (take place A) (drop place A))
        ∙ first-append X Y (tour kids_of none (take place A)) (tour kids_of Q (drop place A)) in
        omega (
          arith,
          ap weight (old-early place l),
          ap weight e,
          sum_by-append w (spelt X (tour kids_of none (take place A))) (spelt X (tour kids_of Q (drop place A))),
        )

    at-or-behind : (i : ℕ) → weight_before w G (length A + i) ≡ weight front + weight (spelt X (tour kids_of S (take i (W ++ T))))
    at-or-behind i =
        ap weight (
        ap (λ ns. spelt X (tour kids_of none (take (length A + i) ns))) old-is
        ∙ ap (λ ns. spelt X (tour kids_of none ns)) (take-back A (W ++ T) i)
        ∙ from-front (take i (W ++ T)))
        ∙ sum_by-append w front (spelt X (tour kids_of S (take i (W ++ T))))

    whole : (middle : List Label) → weight (front ++ (middle ++ behind T)) ≡ weight front + (weight middle + weight (behind T))
    whole middle = omega (arith, sum_by-append w front (middle ++ behind T), sum_by-append w middle (behind T))

    -- the nodes in the window have nothing of it before them, or less than what goes
    abbrev pub IsInside : Type 0
    IsInside =
        (i : ℕ) → i < length W
        → (weight (spelt X (tour kids_of S (take i W))) ≡ 0) ⊎ (weight (spelt X (tour kids_of S (take i W))) + weight new ≤ weight old)

    not-inside : IsInside → (i : ℕ) → i < length W → weight front < weight_before w G (length A + i) → weight front + weight_in w G < weight_before w G (length A + i) + weight_in w H → ⊥
    not-inside inside i h behind-front left = by (inside i h)
      where
        e : weight_before w G (length A + i) ≡ weight front + weight (spelt X (tour kids_of S (take i W)))
        e = at-or-behind i ∙ ap (λ ns. weight front + weight (spelt X (tour kids_of S ns))) (take-append-le i W T (omega (arith, h)))

        by : (weight (spelt X (tour kids_of S (take i W))) ≡ 0) ⊎ (weight (spelt X (tour kids_of S (take i W))) + weight new ≤ weight old) → ⊥
        by (inl z) = omega (arith, z, e, behind-front)
        by (inr l) = omega (arith, l, e, left, ap weight old-value, ap weight new-value, whole old, whole new)

    pub moves-around : IsInside → MovesBefore w [] (weight_before w G (length A)) G H
    moves-around inside = record { early = λ key place there apart l. early key place there l; late = λ key place there apart b l. late key place there b l }
      where
        early : (key : Key) (place : ℕ) → key_at G (length G - 1) place ≡ Some key → weight_before w G place < weight_before w G (length A) → StandsBehindSame G H place key
        early key place there l = by (cases_lt place (length A))
          where
            by : (place < length A) ⊎ (length A ≤ place) → StandsBehindSame G H place key
            by (inl h) = stands-early key place there h
            by (inr h) =
                let e : length A + (place - length A) ≡ place = omega (arith, h) in
                absurd (omega (arith, l, all-front, ap (weight_before w G) e, at-or-behind (place - length A)))

        late : (key : Key) (place : ℕ) → key_at G (length G - 1) place ≡ Some key → weight_before w G (length A) < weight_before w G place
            → weight_before w G (length A) + weight_in w G < weight_before w G place + weight_in w H → StandsBeforeSame G H place key
        late key place there b l = by (cases_lt place (length A))
          where
            inner : (i : ℕ) → length A + i ≡ place → (i < length W) ⊎ (length W ≤ i) → StandsBeforeSame G H place key
            inner i e (inl h) = absurd (not-inside inside i h (omega (arith, b, all-front, ap (weight_before w G) e)) (omega (arith, l, all-front, ap (weight_before w G) e)))
            inner i e (inr h) =
                let f : length A + (length W + (i - length W)) ≡ place = omega (arith, h, e) in
                subst (λ (q : ℕ). StandsBeforeSame G H q key) f (stands-late key (i - length W) (ap (key_at G (length G - 1)) f ∙ there))

            by : (place < length A) ⊎ (length A ≤ place) → StandsBeforeSame G H place key
            by (inl h) = absurd (omega (arith, b, all-front, in-front place (omega (arith, h))))
            by (inr h) = let e : length A + (place - length A) ≡ place = omega (arith, h) in inner (place - length A) e (cases_lt (place - length A) (length W))
