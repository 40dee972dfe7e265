-- The law of weights where the rims of all rules are known, and how great weights are.
use Rattle.std.proofs.Common.{◌≡◌, ◌≢◌, ◌⊎◌, inl, inr, ℕ, zero, suc, ◌+◌, ◌*◌, ◌-◌, ◌<◌, ◌≤◌, List, [], ◌∷◌, Option, Some, None, length, if◌then◌else◌, eqb, true, false, refl, ap, sym, ◌∙◌, arith}
use Rattle.std.proofs.lemmas.Bool.{cases_lt}
use Rattle.std.proofs.lemmas.Bool.Decides.{eqb_tells}
use Rattle.rule_arena.specs.declared.label.Label.{Label}
use Rattle.rule_arena.specs.declared.label.Label.TheVariants.{Bottom, Symbol, Call, Param}
use Rattle.slt_grammar.specs.Automata.{nodes_in}
use Rattle.slt_grammar.specs.Bodies.{CallsBelow}
use Rattle.slt_grammar.specs.Grammars.{IsGrammar, body_at, value}
use Rattle.slt_grammar.specs.Terms.{Term, Leaf, Node, Hole, up}
use Rattle.slt_grammar.specs.declared.digram.Digram.{Digram}
use Rattle.slt_grammar.specs.declared.rules.Rule.{Rule}
use Rattle.border_repair.specs.Digrams.{is, occurrences}
use Rattle.border_repair.specs.Using.{start_used, arises_before}
use Rattle.border_repair.specs.Weighing.{Scale, Above, hung, weight, weight_algebra, Rim, arisen, called, AreRims}
use Rattle.border_repair.proofs.EdgeLemmas.{is-tells}
use Rattle.border_repair.proofs.RimLemmas.{AreWeights}
use Rattle.border_repair.proofs.UseLemmas.{weight-arises}

called-same : (k : ℕ) (a b : ℕ → ℕ) → ((q : ℕ) → q < k → a q ≡ b q) → (ls : List Label) → CallsBelow k ls → called a ls ≡ called b ls
called-same k a b h [] d = refl
called-same k a b h (Bottom ∷ ls) d = called-same k a b h ls d
called-same k a b h (Symbol f ∷ ls) d = called-same k a b h ls d
called-same k a b h (Param ∷ ls) d = called-same k a b h ls d
called-same k a b h (Call q ∷ ls) d = omega (arith, h q d.0, called-same k a b h ls d.1)

module _ (e : Scale) (G : List Rule) (rims : ℕ → Rim) where
  -- what the first rules weigh
  abbrev pub weights_of : ℕ → ℕ → ℕ
  weights_of zero r = 0
  weights_of (suc k) r = if eqb r k then arisen rims e (None ∷ []) (body_at G k) + called (weights_of k) (body_at G k) else weights_of k r

  stays : (k r : ℕ) → r < k → weights_of (suc k) r ≡ weights_of k r
  stays k r l = by_test (eqb_tells r k) where
    by_test : ((eqb r k ≡ true) × (r ≡ k)) ⊎ ((eqb r k ≡ false) × (r ≢ k)) → weights_of (suc k) r ≡ weights_of k r
    by_test (inl x) = absurd (omega arith)
    by_test (inr x) = rw x.0 refl

  own : (k : ℕ) → weights_of (suc k) k ≡ arisen rims e (None ∷ []) (body_at G k) + called (weights_of k) (body_at G k)
  own k = by_test (eqb_tells k k) where
    by_test : ((eqb k k ≡ true) × (k ≡ k)) ⊎ ((eqb k k ≡ false) × (k ≢ k)) → weights_of (suc k) k ≡ arisen rims e (None ∷ []) (body_at G k) + called (weights_of k) (body_at G k)
    by_test (inl x) = rw x.0 refl
    by_test (inr x) = absurd (x.1 refl)

  later : (n k r : ℕ) → r < k → k ≤ n → weights_of n r ≡ weights_of k r
  later zero k r l m = absurd (omega arith)
  later (suc n) k r l m = by_place (cases_lt n k) (later n k r l) where
    by_place : (n < k) ⊎ (k ≤ n) → (k ≤ n → weights_of n r ≡ weights_of k r) → weights_of (suc n) r ≡ weights_of k r
    by_place (inl x) ih = let same : suc n ≡ k = omega arith in ap (λ j. weights_of j r) same
    by_place (inr x) ih = stays n r (omega arith) ∙ ih x

  pub weights-are : IsGrammar G → AreWeights e G rims (weights_of (length G))
  weights-are g r l = later (length G) (suc r) r (omega arith) (omega arith) ∙ own r
      ∙ ap (λ n. arisen rims e (None ∷ []) (body_at G r) + n) (called-same r (weights_of r) (weights_of (length G)) (λ q b. sym (later (length G) r q b (omega arith))) (body_at G r) (g.each r l).earlier)

  -- the law of weights
  pub all-arises : IsGrammar G → AreRims G rims → weight e G ≡ arises_before e G rims (length G) (start_used (length G - 1))
  all-arises g are = weight-arises e G g rims (weights_of (length G)) are (weights-are g)

-- where each edge weighs one at most, the nodes weigh at most two for each
module _ (e : Scale) (one : (f i : ℕ) (l : Label) → e f i l ≤ 1) where
  hung-small : (c : Above) (l : Option Label) → hung e c l ≤ 1
  hung-small None l = omega arith
  hung-small (Some (f, i)) None = omega arith
  hung-small (Some (f, i)) (Some l) = one f i l

  up-small : (t : Term) → (up (weight_algebra e) t []).weight ≤ 2 * nodes_in t
  up-small Leaf = omega arith
  up-small (Hole i) = omega arith
  up-small (Node f a b) =
      let x = hung-small (Some (f, 1)) (up (weight_algebra e) a []).root in
      let y = hung-small (Some (f, 2)) (up (weight_algebra e) b []).root in
      omega (arith, up-small a, up-small b, x, y)

is-small : (d : Digram) (f i : ℕ) (l : Label) → is d f i l ≤ 1
is-small d f i l = by_digram (is-tells d (record { upper = f; place = i; lower = l })) where
  by_digram : {P Q : Type 0} → ((is d f i l ≡ 1) × P) ⊎ ((is d f i l ≡ 0) × Q) → is d f i l ≤ 1
  by_digram (inl x) = let y = x.0 in omega arith
  by_digram (inr x) = let y = x.0 in omega arith

pub occurrences-small : (d : Digram) (G : List Rule) → occurrences d G ≤ 2 * nodes_in (value G)
occurrences-small d G = up-small (is d) (is-small d) (value G)
