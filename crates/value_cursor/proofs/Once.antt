-- Each part of a node is one stop of a tour.
use Rattle.std.proofs.Common.{◌≡◌, ◌≢◌, ℕ, zero, suc, ◌+◌, ◌<◌, ◌≤◌, List, [], ◌∷◌, ◌++◌, length, refl, ap, sym, ◌∙◌, arith, Some, Bool, true, false, ◌⊎◌, inl, inr, length-append}
use Rattle.std.specs.Prelude.{◌==◌, ◌&&◌, if◌then◌else◌}
use Rattle.std.proofs.lemmas.Bool.{cases_Bool, eq-eqb}
use Rattle.std.proofs.lemmas.Bool.Decides.{eqb_tells}
use Rattle.rule_arena.specs.Preorder.{AreTerms}
use Rattle.rule_arena.specs.Terms.{Node, kids_of, key_in}
use Rattle.rule_arena.specs.NodeKey.{NodeKey as Key}
use Rattle.slt_grammar.specs.Keyed.{Keyed, IsKeyed, nodes_at}
use Rattle.slt_grammar.specs.Segments.{node_tour}
use Rattle.slt_grammar.specs.Tours.{Stop, stop, opened_kids, once_closed, tour}
use Rattle.slt_grammar.proofs.KeyedLemmas.{nodes-are-term}
use Rattle.value_cursor.specs.Stops.{is_stop, stops_from}

abbrev hit : Bool → ℕ
hit true = 1
hit false = 0

hit-and_false : (b : Bool) → hit (b && false) ≡ 0
hit-and_false true = refl
hit-and_false false = refl

hit-and_true : (b : Bool) → hit (b && true) ≡ hit b
hit-and_true true = refl
hit-and_true false = refl

module _ (key : Key) (part : ℕ) where
  -- how many of the stops are the one that is meant
  abbrev pub hits : List (Stop Node) → ℕ
  hits [] = 0
  hits (m ∷ ms) = hit (is_stop key part m) + hits ms

  abbrev hits_all : List (List (Stop Node)) → ℕ
  hits_all [] = 0
  hits_all (a ∷ afters) = hits a + hits_all afters

  abbrev node_hits : List Node → ℕ
  node_hits [] = 0
  node_hits (x ∷ xs) = hit (x.key.number == key.number) + node_hits xs

  hits-append : (xs ys : List (Stop Node)) → hits (xs ++ ys) ≡ hits xs + hits ys
  hits-append [] ys = omega arith
  hits-append (x ∷ xs) ys = omega (arith, hits-append xs ys)

  hits_all-append : (xs ys : List (List (Stop Node))) → hits_all (xs ++ ys) ≡ hits_all xs + hits_all ys
  hits_all-append [] ys = omega arith
  hits_all-append (x ∷ xs) ys = omega (arith, hits_all-append xs ys)

  -- of the parts of a node, n from part i on
  abbrev part_hits : Bool → ℕ → ℕ → ℕ
  part_hits b i zero = 0
  part_hits b i (suc n) = hit (b && (i == part)) + part_hits b (suc i) n

  parts-past : (b : Bool) (i n : ℕ) → part < i → part_hits b i n ≡ 0
  parts-past b i zero h = refl
  parts-past b i (suc n) h = by_test (eqb_tells i part) (parts-past b (suc i) n (omega arith))
    where
      by_test : (((i == part) ≡ true) × (i ≡ part)) ⊎ (((i == part) ≡ false) × (i ≢ part)) → part_hits b (suc i) n ≡ 0 → part_hits b i (suc n) ≡ 0
      by_test (inl t) ih = absurd (omega (arith, t.1))
      by_test (inr t) ih = omega (arith, ap (λ c. hit (b && c)) t.0, hit-and_false b, ih)

  parts-few : (b : Bool) (i n : ℕ) → part_hits b i n ≤ hit b
  parts-few b i zero = omega arith
  parts-few b i (suc n) = by_test (eqb_tells i part) (parts-few b (suc i) n)
    where
      by_test : (((i == part) ≡ true) × (i ≡ part)) ⊎ (((i == part) ≡ false) × (i ≢ part)) → part_hits b (suc i) n ≤ hit b → part_hits b i (suc n) ≤ hit b
      by_test (inl t) ih = omega (arith, ap (λ c. hit (b && c)) t.0, hit-and_true b, parts-past b (suc i) n (omega (arith, t.1)))
      by_test (inr t) ih = omega (arith, ap (λ c. hit (b && c)) t.0, hit-and_false b, ih)

  hits-opened_kids : (x : Node) (i n : ℕ) (a : List (Stop Node)) → hits_all (opened_kids x i n a) + hits (once_closed n a) ≡ hits a + part_hits (x.key.number == key.number) i n
  hits-opened_kids x i zero a = omega arith
  hits-opened_kids x i (suc zero) a = omega arith
  hits-opened_kids x i (suc (suc n)) a = omega (arith, hits-opened_kids x (suc i) (suc n) a)

  hits-tour : (n : ℕ) (xs : List Node) (afters : List (List (Stop Node))) → AreTerms kids_of n xs → length afters ≡ n → hits (tour kids_of afters xs) ≤ hits_all afters + node_hits xs
  hits-tour zero [] afters t e = omega arith
  hits-tour zero (x ∷ xs) afters t e = absurd t
  hits-tour (suc n) [] afters t e = absurd t
  hits-tour (suc n) (x ∷ xs) [] t e = absurd (omega arith)
  hits-tour (suc n) (x ∷ xs) (a ∷ afters) t e =
      let b : Bool = x.key.number == key.number in
      let opened = opened_kids x 1 x.kids a in
      let ih = hits-tour (x.kids + n) xs (opened ++ afters) t (omega (arith, length-append opened afters, length-opened x 1 x.kids a)) in
      omega (arith, ih, hits_all-append opened afters, hits-opened_kids x 1 x.kids a, hits-append (once_closed x.kids a) (tour kids_of (opened ++ afters) xs), parts-few b 0 (suc x.kids))
    where
      length-opened : (x : Node) (i n : ℕ) (a : List (Stop Node)) → length (opened_kids x i n a) ≡ n
      length-opened x i zero a = refl
      length-opened x i (suc zero) a = refl
      length-opened x i (suc (suc n)) a = ap suc (length-opened x (suc i) (suc n) a)

  node_hits-none : (xs : List Node) → ((p : ℕ) → key_in xs p ≡ Some key → ⊥) → node_hits xs ≡ 0
  node_hits-none [] h = refl
  node_hits-none (x ∷ xs) h = by_test (eqb_tells x.key.number key.number) (node_hits-none xs (λ p e. h (suc p) e))
    where
      by_test : (((x.key.number == key.number) ≡ true) × (x.key.number ≡ key.number)) ⊎ (((x.key.number == key.number) ≡ false) × (x.key.number ≢ key.number)) → node_hits xs ≡ 0 → node_hits (x ∷ xs) ≡ 0
      by_test (inl t) ih = let same : x.key ≡ key = ap (λ n. record { number = n }) t.1 in absurd (h 0 (ap Some same))
      by_test (inr t) ih = omega (arith, ap hit t.0, ih)

  node_hits-few : (xs : List Node) → ((p q : ℕ) → key_in xs p ≡ Some key → key_in xs q ≡ Some key → p ≡ q) → node_hits xs ≤ 1
  node_hits-few [] h = omega arith
  node_hits-few (x ∷ xs) h = by_test (eqb_tells x.key.number key.number) (node_hits-few xs (λ p q e f. omega (arith, h (suc p) (suc q) e f)))
    where
      by_test : (((x.key.number == key.number) ≡ true) × (x.key.number ≡ key.number)) ⊎ (((x.key.number == key.number) ≡ false) × (x.key.number ≢ key.number)) → node_hits xs ≤ 1 → node_hits (x ∷ xs) ≤ 1
      by_test (inl t) ih =
          let same : x.key ≡ key = ap (λ n. record { number = n }) t.1 in
          omega (arith, ap hit t.0, node_hits-none xs (λ p e. absurd (omega (arith, h 0 (suc p) (ap Some same) e))))
      by_test (inr t) ih = omega (arith, ap hit t.0, ih)

  -- a stop stands once in a tour
  pub tour-once : (g : Keyed) → IsKeyed g → (r : ℕ) → r < length g.rules → hits (node_tour g.rules r) ≤ 1
  tour-once g k r h =
      omega (
        arith,
        hits-tour 1 (nodes_at g.rules r) ([] ∷ []) (nodes-are-term g k r h) refl,
        node_hits-few (nodes_at g.rules r) (λ p q e f. (k.once key r p r q e f).1),
      )

  -- the stops from the one stop that is meant on
  pub stops_from-split : (passed : List (Stop Node)) (m : Stop Node) (ms : List (Stop Node)) → hits (passed ++ m ∷ ms) ≤ 1 → is_stop key part m ≡ true → stops_from key part (passed ++ m ∷ ms) ≡ m ∷ ms
  stops_from-split [] m ms h e = ap (λ b. if b then m ∷ ms else stops_from key part ms) e
  stops_from-split (p ∷ passed) m ms h e = by_test (cases_Bool (is_stop key part p)) (λ few. stops_from-split passed m ms few e)
    where
      by_test : (is_stop key part p ≡ true) ⊎ (is_stop key part p ≡ false) → (hits (passed ++ m ∷ ms) ≤ 1 → stops_from key part (passed ++ m ∷ ms) ≡ m ∷ ms) → stops_from key part (p ∷ passed ++ m ∷ ms) ≡ m ∷ ms
      by_test (inl t) ih = absurd (omega (arith, h, ap hit t, ap hit e, hits-append passed (m ∷ ms)))
      by_test (inr t) ih = ap (λ b. if b then p ∷ passed ++ m ∷ ms else stops_from key part (passed ++ m ∷ ms)) t ∙ ih (omega arith)

  -- they end the tour
  pub stops_from-suffix : (ms : List (Stop Node)) → (passed : List (Stop Node)) × (ms ≡ passed ++ stops_from key part ms)
  stops_from-suffix [] = ([], refl)
  stops_from-suffix (m ∷ ms) = by_test (cases_Bool (is_stop key part m)) (stops_from-suffix ms)
    where
      by_test : (is_stop key part m ≡ true) ⊎ (is_stop key part m ≡ false) → (passed : List (Stop Node)) × (ms ≡ passed ++ stops_from key part ms) → (passed : List (Stop Node)) × (m ∷ ms ≡ passed ++ stops_from key part (m ∷ ms))
      by_test (inl t) s = ([], sym (ap (λ b. if b then m ∷ ms else stops_from key part ms) t))
      by_test (inr t) s =
          (m ∷ s.0, ap (λ ns. m ∷ ns) s.1 ∙ sym (ap (λ b. m ∷ s.0 ++ (if b then m ∷ ms else stops_from key part ms)) t))

pub is_stop-same : (x : Node) (key : Key) (part : ℕ) → x.key ≡ key → is_stop key part (stop x part) ≡ true
is_stop-same x key part e =
    ap (λ b. b && (part == part)) (eq-eqb x.key.number key.number (ap (λ (k : Key). k.number) e)) ∙ ap (λ b. true && b) (eq-eqb part part refl)
