-- How much stands before a node of the start's body, by the labels before it.
use Rattle.std.proofs.Common.{◌≡◌, ℕ, zero, suc, ◌+◌, ◌-◌, ◌<◌, List, [], ◌∷◌, ◌++◌, length, get_or, drop, Some, refl, ap, sym, ◌∙◌, subst, arith, add-zero, sum_by}
use Rattle.std.proofs.lemmas.List.Sums.{sum_by-cons}
use Rattle.rule_arena.specs.declared.key.Key.{Key}
use Rattle.rule_arena.specs.declared.label.Label.{Label}
use Rattle.rule_arena.specs.declared.label.Label.TheVariants.{Bottom, Symbol, Call, Param}
use Rattle.slt_grammar.specs.Algebras.{ranks_of}
use Rattle.slt_grammar.specs.Bodies.{arity, CallsBelow}
use Rattle.slt_grammar.specs.ChangedValues.{term_around}
use Rattle.slt_grammar.specs.Grammars.{body_at, value_at}
use Rattle.slt_grammar.specs.Holding.{IsLawful}
use Rattle.slt_grammar.specs.Keyed.{KeyedRule, key_at, rules_of}
use Rattle.slt_grammar.specs.KeyedEdits.{label_at}
use Rattle.slt_grammar.specs.Segments.{listed, part_of, piece, segment}
use Rattle.slt_grammar.specs.Terms.{Term, Leaf}
use Rattle.slt_grammar.specs.Tours.{Stop, stop, opened_kids, once_closed}
use Rattle.slt_grammar.specs.declared.level.Level.{Level}
use Rattle.slt_grammar.specs.declared.rules.Rule.{Rule}
use Rattle.path_isolation.specs.Chains.{IsOfValue}
use Rattle.path_isolation.proofs.Around.{around-node}
use Rattle.tree_updates.specs.Differences.{hole_at}
use Rattle.tree_updates.specs.Marked.{number_before, stops_weight}
use Rattle.tree_updates.proofs.HoleNumbers.{hole-number}

-- before a symbol of the start's body
pub before-place : (w : Label → ℕ) (H : List KeyedRule) (L : IsLawful H) (p f : ℕ) (key : Key) → length H - 1 + 1 ≡ length H → key_at H (length H - 1) p ≡ Some key → label_at H (length H - 1) p ≡ Symbol f
    → hole_at w (term_around (rules_of H) p) ≡ number_before w (rules_of H) [] ([] ∷ []) p (body_at (rules_of H) (length H - 1))
before-place w H L p f key last there label =
    let m : Level = record { rule = length H - 1; key = key } in
    let o : IsOfValue (label_at H (length H - 1) p) = subst IsOfValue (sym label) tt in
    ap (hole_at w) (around-node H H p key L refl there) ∙ hole-number w H L.grammar (m ∷ []) (p ∷ []) (last, there, o)
    ∙ add-zero (number_before w (rules_of H) [] ([] ∷ []) p (body_at (rules_of H) (length H - 1)))

sums : (a b c d e f : ℕ) → a ≡ d → b ≡ e → c ≡ f → a + (b + c) ≡ d + (e + f)
sums a b c d e f x y z = omega (arith, x, y, z)

-- two lists of rules of which those before one have the same ranks and values
module _ (w : Label → ℕ) (G H : List Rule) (r : ℕ) (values : (q : ℕ) → q < r → value_at H q ≡ value_at G q) (ranks : (q : ℕ) → q < r → get_or (ranks_of H) q 0 ≡ get_or (ranks_of G) q 0) where
  part-same : (l : Label) (i : ℕ) → CallsBelow r (l ∷ []) → part_of H l i ≡ part_of G l i
  part-same Bottom zero c = refl
  part-same Bottom (suc i) c = refl
  part-same (Symbol f) zero c = refl
  part-same (Symbol f) (suc i) c = refl
  part-same (Call q) i c = ap (λ t. segment i (listed t [])) (values q c.0)
  part-same Param i c = refl

  arity-same : (l : Label) → CallsBelow r (l ∷ []) → arity (ranks_of H) l ≡ arity (ranks_of G) l
  arity-same Bottom c = refl
  arity-same (Symbol f) c = refl
  arity-same (Call q) c = ranks q c.0
  arity-same Param c = refl

  -- stops that weigh the same
  abbrev AreSame : List (List (Stop Label)) → Type 0
  AreSame [] = Unit {0}
  AreSame (a ∷ bs) = (stops_weight w H a ≡ stops_weight w G a) × AreSame bs

  first-same : (afters : List (List (Stop Label))) → AreSame afters → stops_weight w H (get_or afters 0 []) ≡ stops_weight w G (get_or afters 0 [])
  first-same [] h = refl
  first-same (a ∷ bs) h = h.0

  others-same : (afters : List (List (Stop Label))) → AreSame afters → AreSame (drop 1 afters)
  others-same [] h = tt
  others-same (a ∷ bs) h = h.1

  stop-same : (l : Label) (i : ℕ) (a : List (Stop Label)) → CallsBelow r (l ∷ []) → stops_weight w H a ≡ stops_weight w G a → stops_weight w H (stop l i ∷ a) ≡ stops_weight w G (stop l i ∷ a)
  stop-same l i a c h =
      let f : Stop Label → ℕ = λ m. sum_by w (piece H m) in
      let g : Stop Label → ℕ = λ m. sum_by w (piece G m) in
      sum_by-cons f (stop l i) a ∙ ap (λ (k : ℕ). k + sum_by f a) (ap (sum_by w) (part-same l i c)) ∙ ap (λ (k : ℕ). sum_by w (part_of G l i) + k) h
      ∙ sym (sum_by-cons g (stop l i) a)

  opened-same : (l : Label) (i n : ℕ) (a : List (Stop Label)) (bs : List (List (Stop Label))) → CallsBelow r (l ∷ []) → stops_weight w H a ≡ stops_weight w G a → AreSame bs → AreSame (opened_kids l i n a ++ bs)
  opened-same l i zero a bs c h t = t
  opened-same l i (suc zero) a bs c h t = (stop-same l i a c h, t)
  opened-same l i (suc (suc n)) a bs c h t = (stop-same l i [] c refl, opened-same l (suc i) (suc n) a bs c h t)

  closed-same : (n : ℕ) (a : List (Stop Label)) → stops_weight w H a ≡ stops_weight w G a → stops_weight w H (once_closed n a) ≡ stops_weight w G (once_closed n a)
  closed-same zero a h = h
  closed-same (suc n) a h = refl

  -- behind a label that calls no later rule
  step : (l : Label) (args : List Term) (afters : List (List (Stop Label))) (p : ℕ) (ys zs : List Label) → CallsBelow r (l ∷ []) → AreSame afters
      → ((bs : List (List (Stop Label))) → AreSame bs → number_before w H args bs p ys ≡ number_before w G args bs p zs)
      → (n : ℕ) → arity (ranks_of H) l ≡ n
      → sum_by w (part_of H l 0) + (stops_weight w H (once_closed (arity (ranks_of H) l) (get_or afters 0 [])) + number_before w H args (opened_kids l 1 (arity (ranks_of H) l) (get_or afters 0 []) ++ drop 1 afters) p ys)
      ≡ sum_by w (part_of G l 0) + (stops_weight w G (once_closed n (get_or afters 0 [])) + number_before w G args (opened_kids l 1 n (get_or afters 0 []) ++ drop 1 afters) p zs)
  step l args afters p ys zs c h same n e =
      let a : List (Stop Label) = get_or afters 0 [] in
      let bs : List (List (Stop Label)) = opened_kids l 1 n a ++ drop 1 afters in
      ap (λ (k : ℕ). sum_by w (part_of H l 0) + (stops_weight w H (once_closed k a) + number_before w H args (opened_kids l 1 k a ++ drop 1 afters) p ys)) e
      ∙ sums (sum_by w (part_of H l 0)) (stops_weight w H (once_closed n a)) (number_before w H args bs p ys) (sum_by w (part_of G l 0)) (stops_weight w G (once_closed n a)) (number_before w G args bs p zs)
      (ap (sum_by w) (part-same l 0 c)) (closed-same n a (first-same afters h)) (same bs (opened-same l 1 n a (drop 1 afters) c (first-same afters h) (others-same afters h)))

  -- behind the same labels, which call none of the later rules, stands the same
  pub number-same : (args : List Term) (afters : List (List (Stop Label))) (xs ys zs : List Label) → CallsBelow r xs → AreSame afters → number_before w H args afters (length xs) (xs ++ ys) ≡ number_before w G args afters (length xs) (xs ++ zs)
  number-same args afters [] ys zs c h = refl
  number-same args afters (Param ∷ xs) ys zs c h =
      let v : ℕ = sum_by w (listed (get_or args 0 Leaf) []) in
      sums v (stops_weight w H (get_or afters 0 [])) (number_before w H (drop 1 args) (drop 1 afters) (length xs) (xs ++ ys)) v (stops_weight w G (get_or afters 0 [])) (number_before w G (drop 1 args) (drop 1 afters) (length xs) (xs ++ zs))
      refl (first-same afters h) (number-same (drop 1 args) (drop 1 afters) xs ys zs c (others-same afters h))
  number-same args afters (Bottom ∷ xs) ys zs c h = step Bottom args afters (length xs) (xs ++ ys) (xs ++ zs) tt h (λ bs k. number-same args bs xs ys zs c k) 0 refl
  number-same args afters (Symbol f ∷ xs) ys zs c h = step (Symbol f) args afters (length xs) (xs ++ ys) (xs ++ zs) tt h (λ bs k. number-same args bs xs ys zs c k) 2 refl
  number-same args afters (Call q ∷ xs) ys zs c h =
      step (Call q) args afters (length xs) (xs ++ ys) (xs ++ zs) (c.0, tt) h (λ bs k. number-same args bs xs ys zs c.1 k) (arity (ranks_of G) (Call q)) (arity-same (Call q) (c.0, tt))
