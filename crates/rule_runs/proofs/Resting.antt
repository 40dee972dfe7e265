-- Falling from a state from which nothing is hit: only the numbers of nodes are told, and each hole gets the same state.
use Rattle.std.proofs.Common.{◌≡◌, ℕ, zero, suc, ◌+◌, ◌<◌, List, [], ◌∷◌, ◌++◌, length, get_or, map, sum_by, refl, sym, ap, ◌∙◌, arith}
use Rattle.std.proofs.lemmas.List.{map-append}
use Rattle.std.proofs.lemmas.List.Sums.{sum_by-append}
use Rattle.rule_arena.specs.declared.label.Label.{Label}
use Rattle.rule_arena.specs.declared.label.Label.TheVariants.{Bottom, Symbol, Call, Param}
use Rattle.slt_grammar.specs.Algebras.{Algebra}
use Rattle.slt_grammar.specs.Automata.{Downward, IsSpent, handed}
use Rattle.slt_grammar.specs.Segments.{listed, segment}
use Rattle.slt_grammar.specs.Terms.{Term, Leaf, Node, Hole, holes, holes_of, up}
use Rattle.slt_grammar.specs.Grammars.{IsGrammar, rank_at, value_at}
use Rattle.slt_grammar.specs.declared.rules.Rule.{Rule}
use Rattle.slt_grammar.proofs.Linear.{value_at-linear, length-holes}
use Rattle.segment_counts.specs.Weights.{count, node_weight}
use Rattle.rule_runs.specs.declared.spots.Handed.{Handed}
use Rattle.rule_runs.specs.declared.spots.Spot.{Spot}
use Rattle.rule_runs.specs.Descents.{HasOutcome}
use Rattle.rule_runs.specs.Outcomes.{Outcome, tolds}
use Rattle.rule_runs.specs.Reached.{RuleStates}
use Rattle.rule_runs.specs.Risen.{IsPair, pair_at}
use Rattle.rule_runs.specs.Tellings.{Listed, AreTold, unhit_told}
use Rattle.rule_runs.specs.Cuts.{Stretch, nothing, beside, before, joined, cut}
use Rattle.rule_runs.proofs.Cutting.{before-nothing, before-joined, beside-nothing, joined-assoc, length-before, length-cut, length-joined, cut-some}

-- nodes in a row of which none is hit
abbrev pub unhit : ℕ → Stretch
unhit n = record { nodes = n; hits = [] }

module _ (weigh : Label → ℕ) where
  -- the stretches of labels of which none is hit
  abbrev pub unhit_stretches : List Label → List Stretch
  unhit_stretches [] = nothing ∷ []
  unhit_stretches (Param ∷ ls) = nothing ∷ unhit_stretches ls
  unhit_stretches (Bottom ∷ ls) = before (unhit (weigh Bottom)) (unhit_stretches ls)
  unhit_stretches (Symbol f ∷ ls) = before (unhit (weigh (Symbol f))) (unhit_stretches ls)
  unhit_stretches (Call q ∷ ls) = before (unhit (weigh (Call q))) (unhit_stretches ls)

  some-unhit : (ls : List Label) → 0 < length (unhit_stretches ls)
  some-unhit [] = omega arith
  some-unhit (Param ∷ ls) = omega arith
  some-unhit (Bottom ∷ ls) = length-before _ (unhit_stretches ls)
  some-unhit (Symbol f ∷ ls) = length-before _ (unhit_stretches ls)
  some-unhit (Call q ∷ ls) = length-before _ (unhit_stretches ls)

  sum-one : (l : Label) (ls : List Label) → sum_by weigh (l ∷ ls) ≡ weigh l + sum_by weigh ls
  sum-one l ls = omega (arith, sum_by-append weigh (l ∷ []) ls)

  none-weighs : 0 ≡ sum_by weigh []
  none-weighs = omega arith

  -- the first stretch with nodes before it, and those behind it
  before-first : (n : ℕ) (ts : List Stretch) (m : ℕ) → 0 < length ts → get_or ts 0 nothing ≡ unhit m → get_or (before (unhit n) ts) 0 nothing ≡ unhit (n + m)
  before-first n [] m h e = absurd (omega arith)
  before-first n (t ∷ ts) m h e = ap (beside (unhit n)) e

  before-later : (n : ℕ) (ts : List Stretch) (i : ℕ) → 0 < length ts → get_or (before (unhit n) ts) (suc i) nothing ≡ get_or ts (suc i) nothing
  before-later n [] i h = absurd (omega arith)
  before-later n (t ∷ ts) i h = refl

  -- each has the nodes of its segment
  pub unhit-at : (ls : List Label) (i : ℕ) → get_or (unhit_stretches ls) i nothing ≡ unhit (sum_by weigh (segment i ls))
  unhit-at [] zero = ap unhit none-weighs
  unhit-at [] (suc i) = ap unhit none-weighs
  unhit-at (Param ∷ ls) zero = ap unhit none-weighs
  unhit-at (Param ∷ ls) (suc i) = unhit-at ls i
  unhit-at (Bottom ∷ ls) zero = before-first (weigh Bottom) (unhit_stretches ls) _ (some-unhit ls) (unhit-at ls 0) ∙ ap unhit (sym (sum-one Bottom (segment 0 ls)))
  unhit-at (Bottom ∷ ls) (suc i) = before-later (weigh Bottom) (unhit_stretches ls) i (some-unhit ls) ∙ unhit-at ls (suc i)
  unhit-at (Symbol f ∷ ls) zero = before-first (weigh (Symbol f)) (unhit_stretches ls) _ (some-unhit ls) (unhit-at ls 0) ∙ ap unhit (sym (sum-one (Symbol f) (segment 0 ls)))
  unhit-at (Symbol f ∷ ls) (suc i) = before-later (weigh (Symbol f)) (unhit_stretches ls) i (some-unhit ls) ∙ unhit-at ls (suc i)
  unhit-at (Call q ∷ ls) zero = before-first (weigh (Call q)) (unhit_stretches ls) _ (some-unhit ls) (unhit-at ls 0) ∙ ap unhit (sym (sum-one (Call q) (segment 0 ls)))
  unhit-at (Call q ∷ ls) (suc i) = before-later (weigh (Call q)) (unhit_stretches ls) i (some-unhit ls) ∙ unhit-at ls (suc i)

module _ {S D : Type 0} (A : Algebra S) (W : Downward S D) (d : D) (spent : IsSpent W d) (states : List S) where
  -- each hole gets the same state
  pub spent-handed : (t : Term) → handed A W t states d ≡ map (λ (h : Term). d) (holes_of t)
  spent-handed Leaf = refl
  spent-handed (Hole i) = refl
  spent-handed (Node f a b) =
      let same : List Term → List D = map (λ (h : Term). d) in
      rw (spent f (up A a states) (up A b states)) (ap (λ x. x ++ handed A W b states d) (spent-handed a) ∙ ap (λ x. same (holes_of a) ++ x) (spent-handed b) ∙ sym (map-append (λ (h : Term). d) (holes_of a) (holes_of b)))

  module _ (weigh : Label → ℕ) (symbols : (f : ℕ) → weigh (Symbol f) ≡ 1) (bottoms : weigh Bottom ≡ 0) where
    spent-listed : (t : Term) (rest : List Label) → unhit_stretches weigh (listed t rest) ≡ joined (cut A W t states d) (unhit_stretches weigh rest)
    spent-listed Leaf rest = ap (λ n. before (unhit n) (unhit_stretches weigh rest)) bottoms
    spent-listed (Hole i) rest = ap (λ x. nothing ∷ x) (sym (before-nothing (unhit_stretches weigh rest) (some-unhit weigh rest)))
    spent-listed (Node f a b) rest =
        let ca : List Stretch = cut A W a states d in
        let cb : List Stretch = cut A W b states d in
        let us : List Stretch = unhit_stretches weigh rest in
        let e : cut A W (Node f a b) states d ≡ before (unhit 1) (joined ca cb) = rw (spent f (up A a states) (up A b states)) refl in
        ap (λ n. before (unhit n) (unhit_stretches weigh (listed a (listed b rest)))) (symbols f)
        ∙ ap (before (unhit 1)) (spent-listed a (listed b rest) ∙ ap (joined ca) (spent-listed b rest) ∙ sym (joined-assoc ca cb us (cut-some A W b states d)))
        ∙ before-joined (unhit 1) (joined ca cb) us (length-joined ca cb (cut-some A W a states d))
        ∙ ap (λ x. joined x us) (sym e)

    -- the stretches of a term are those of its labels, and none is hit
    pub spent-cut : (t : Term) → cut A W t states d ≡ unhit_stretches weigh (listed t [])
    spent-cut t = sym (spent-listed t [] ∙ ended (cut A W t states d) (cut-some A W t states d))
      where
        ended : (c : List Stretch) → 0 < length c → joined c (nothing ∷ []) ≡ c
        ended [] h = absurd (omega arith)
        ended (s ∷ []) h = ap (λ x. x ∷ []) (beside-nothing s)
        ended (s ∷ s' ∷ c) h = ap (λ x. s ∷ x) (ended (s' ∷ c) (omega arith))

    -- each stretch has the nodes of its segment
    pub spent-at : (t : Term) (i : ℕ) → get_or (cut A W t states d) i nothing ≡ unhit (sum_by weigh (segment i (listed t [])))
    spent-at t i = ap (λ c. get_or c i nothing) (spent-cut t) ∙ unhit-at weigh (listed t []) i

-- what is handed to so many parameters from one on, where segments have so many nodes
abbrev pub handed_from : {D : Type 0} → (ℕ → ℕ) → D → ℕ → ℕ → List (Handed D)
handed_from c d i zero = []
handed_from c d i (suc n) = record { before = unhit_told (c i); down = d } ∷ handed_from c d (suc i) n

module _ {D : Type 0} (c : ℕ → ℕ) (d : D) where
  -- one parameter more
  pub handed-push : (i n k : ℕ) → k ≡ i + n → handed_from c d i (suc n) ≡ handed_from c d i n ++ record { before = unhit_told (c k); down = d } ∷ []
  handed-push i zero k e = let z : k ≡ i = omega arith in rw z refl
  handed-push i (suc n) k e = ap (λ hs. record { before = unhit_told (c i); down = d } ∷ hs) (handed-push (suc i) n k (omega arith))

  pub downs-from : (hs : List Term) (i : ℕ) → map (λ h. h.down) (handed_from c d i (length hs)) ≡ map (λ (h : Term). d) hs
  downs-from [] i = refl
  downs-from (h ∷ hs) i = ap (λ ds. d ∷ ds) (downs-from hs (suc i))

  -- the words tell as many stretches as they are
  pub befores-from : (lists : Listed) (i n : ℕ) (ss : List Stretch) → length ss ≡ n → ((j : ℕ) → get_or ss j nothing ≡ unhit (c (i + j))) → AreTold lists (map (λ h. h.before) (handed_from c d i n)) ss
  befores-from lists i zero [] e h = tt
  befores-from lists i zero (s ∷ ss) e h = absurd (omega arith)
  befores-from lists i (suc n) [] e h = absurd (omega arith)
  befores-from lists i (suc n) (s ∷ ss) e h =
      let first : s ≡ unhit (c i) = h 0 ∙ ap (λ k. unhit (c k)) (omega arith) in
      (rw first (record { nodes = refl; hits = refl; list = λ kept. refl }), befores-from lists (suc i) n ss (omega arith) (λ j. h (suc j) ∙ ap (λ k. unhit (c k)) (omega arith)))

-- what a pair has at a spent state
module _ {S D : Type 0} (A : Algebra S) (W : Downward S D) (G : List Rule) (g : IsGrammar G) (ks : List (RuleStates S)) (lists : Listed) where
  pub spent-outcome : (spot : Spot D) (outcome : Outcome D) (rule : ℕ) → spot.pair < length ks → IsPair G (pair_at ks spot.pair) → IsSpent W spot.down → rule ≡ (pair_at ks spot.pair).0
      → outcome.handed ≡ handed_from (count node_weight G rule) spot.down 0 (rank_at G rule) → outcome.last ≡ unhit_told (count node_weight G rule (rank_at G rule)) → HasOutcome A W G ks lists spot outcome
  spent-outcome spot outcome rule there pair spent same handed_are last_is =
      let k : RuleStates S = pair_at ks spot.pair in
      let t : Term = value_at G k.0 in
      let n : ℕ = rank_at G k.0 in
      let d : D = spot.down in
      let c : ℕ → ℕ = count node_weight G k.0 in
      let hs : outcome.handed ≡ handed_from c d 0 n = rw same at handed_are in
      let last : outcome.last ≡ unhit_told (c n) = rw same at last_is in
      let holes_are : holes_of t ≡ holes 0 n = value_at-linear G k.0 g pair.there in
      let count_holes : length (holes_of t) ≡ n = ap length holes_are ∙ length-holes 0 n in
      let ts : tolds outcome ≡ map (λ h. h.before) (handed_from c d 0 (suc n)) = ap (λ xs. map (λ h. h.before) xs ++ outcome.last ∷ []) hs ∙ ap (λ x. map (λ h. h.before) (handed_from c d 0 n) ++ x ∷ []) last
      ∙ sym (ap (map (λ h. h.before)) (handed-push c d 0 n n (omega arith)) ∙ map-append (λ (h : Handed D). h.before) (handed_from c d 0 n) (record { before = unhit_told (c n); down = d } ∷ [])) in
      let len : length (cut A W t k.1 d) ≡ suc n = omega (arith, length-cut A W t k.1 d, count_holes) in
      record {
        there = there;
        finished = rw ts (befores-from c d lists 0 (suc n) (cut A W t k.1 d) len (λ j. spent-at A W d spent k.1 node_weight (λ f. refl) refl t j ∙ ap (λ i. unhit (c i)) (omega arith)));
        hands = ap (map (λ h. h.down)) hs ∙ ap (λ m. map (λ h. h.down) (handed_from c d 0 m)) (sym count_holes) ∙ downs-from c d (holes_of t) 0 ∙ sym (spent-handed A W d spent k.1 t);
      }
