-- How many nodes cutting, expanding and folding make.
use Rattle.std.proofs.Common.{◌≡◌, ◌≢◌, ◌⊎◌, inl, inr, eqb, true, false, ℕ, zero, suc, ◌+◌, ◌*◌, ◌-◌, ◌<◌, ◌≤◌, List, [], ◌∷◌, ◌++◌, length, take, drop, reverse, set, insert, slice_get, Option, Some, None, refl, ap, arith}
use Rattle.std.proofs.lemmas.Bool.Decides.{eqb_tells}
use Rattle.std.proofs.lemmas.List.{reverse-append, take-append-drop}
use Rattle.std.proofs.lemmas.List.Sums.{sum_by-take-le, sum_by_push}
use Rattle.rule_arena.specs.declared.label.Label.{Label}
use Rattle.rule_arena.specs.declared.label.Label.TheVariants.{Bottom, Symbol, Call, Param}
use Rattle.slt_grammar.specs.Bodies.{arity, params, real_nodes}
use Rattle.slt_grammar.specs.Editing.{put}
use Rattle.slt_grammar.specs.Grammars.{body_at, size}
use Rattle.slt_grammar.specs.declared.rules.Rule.{Rule}
use Rattle.slt_grammar.proofs.CallCounts.{sum-more}
use Rattle.slt_grammar.proofs.Substitutions.{joined}
use Rattle.slt_grammar.specs.KeyedEdits.{parameters, digram_body}
use Rattle.border_repair.specs.Digrams.{IsEnd}
use Rattle.border_repair.specs.Expanding.{Expands, nothing, parameter, bottom, symbol, call}
use Rattle.border_repair.specs.Folding.{live}
use Rattle.border_repair.specs.Sizes.{AreSmall, free}
use Rattle.border_repair.specs.declared.cutting.Mark.{Mark}
use Rattle.border_repair.proofs.Split.{joined-append}
use Rattle.border_repair.proofs.StackLemmas.{split-at, stack-cut}

pub real-append : (xs ys : List Label) → real_nodes (xs ++ ys) ≡ real_nodes xs + real_nodes ys
real-append [] ys = omega arith
real-append (Param ∷ xs) ys = real-append xs ys
real-append (Bottom ∷ xs) ys = omega (arith, real-append xs ys)
real-append (Symbol f ∷ xs) ys = omega (arith, real-append xs ys)
real-append (Call q ∷ xs) ys = omega (arith, real-append xs ys)

pub real-reverse : (xs : List Label) → real_nodes (reverse xs) ≡ real_nodes xs
real-reverse [] = refl
real-reverse (x ∷ xs) = omega (arith, ap real_nodes (reverse-append (x ∷ []) xs), real-append (reverse xs) (x ∷ []), real-reverse xs, real-append (x ∷ []) xs)

-- labels that are cut at a place
pub real-cut : (n : ℕ) (xs : List Label) → real_nodes (take n xs) + real_nodes (drop n xs) ≡ real_nodes xs
real-cut n xs = omega (arith, real-append (take n xs) (drop n xs), ap real_nodes (take-append-drop n xs))

pub real-insert : (xs : List Label) (n : ℕ) (l : Label) → real_nodes (insert xs n l) ≤ real_nodes xs + 1
real-insert xs zero l = inserted xs l where
  inserted : (xs : List Label) (l : Label) → real_nodes (insert xs 0 l) ≤ real_nodes xs + 1
  inserted xs Bottom = omega arith
  inserted xs (Symbol f) = omega arith
  inserted xs (Call q) = omega arith
  inserted xs Param = omega arith
real-insert [] (suc n) l = one l where
  one : (l : Label) → real_nodes (insert [] (suc n) l) ≤ 1
  one Bottom = omega arith
  one (Symbol f) = omega arith
  one (Call q) = omega arith
  one Param = omega arith
real-insert (x ∷ xs) (suc n) l = omega (arith, real-insert xs n l, real-append (x ∷ []) xs, real-append (x ∷ []) (insert xs n l))

pub real-push : (xs : List Label) (l : Label) → real_nodes (xs ++ l ∷ []) ≡ real_nodes xs + real_nodes (l ∷ [])
real-push xs l = real-append xs (l ∷ [])

pub real-one : (l : Label) → real_nodes (l ∷ []) + params (l ∷ []) ≡ 1
real-one Bottom = refl
real-one (Symbol f) = refl
real-one (Call q) = refl
real-one Param = refl

pub no-params : (l : Label) → l ≢ Param → params (l ∷ []) ≡ 0
no-params Bottom n = refl
no-params (Symbol f) n = refl
no-params (Call q) n = refl
no-params Param n = absurd (n refl)

pub size-push : (G : List Rule) (R : Rule) → size (G ++ R ∷ []) ≡ size G + real_nodes R.body
size-push G R = sum_by_push (λ (S : Rule). real_nodes S.body) G R

pub size-take : (G : List Rule) (n : ℕ) → size (take n G) ≤ size G
size-take G n = sum_by-take-le (λ (S : Rule). real_nodes S.body) G n

-- one more rule
pub size-more : (G : List Rule) (r : ℕ) → r < length G → size (take (r + 1) G) ≡ size (take r G) + real_nodes (body_at G r)
size-more G r h = sum-more (λ (S : Rule). real_nodes S.body) G r h

pub free-append : (xs ys : List Mark) → free (xs ++ ys) ≡ free xs + free ys
free-append [] ys = omega arith
free-append (x ∷ xs) ys = omega (arith, free-append xs ys)

pub free-drop : (n : ℕ) (xs : List Mark) → free (drop n xs) ≤ free xs
free-drop zero xs = omega arith
free-drop (suc n) [] = omega arith
free-drop (suc n) (x ∷ xs) = omega (arith, free-drop n xs)

-- more are dropped
pub free-drops : (m n : ℕ) (xs : List Mark) → m ≤ n → free (drop n xs) ≤ free (drop m xs)
free-drops zero n xs l = free-drop n xs
free-drops (suc m) zero xs l = absurd (omega (arith, l))
free-drops (suc m) (suc n) [] l = omega arith
free-drops (suc m) (suc n) (x ∷ xs) l = free-drops m n xs (omega (arith, l))

pub drop-more : (n : ℕ) (xs : List Mark) → drop 1 (drop n xs) ≡ drop (suc n) xs
drop-more zero xs = refl
drop-more (suc n) [] = refl
drop-more (suc n) (x ∷ xs) = drop-more n xs

-- a parameter that stands at a place from the end
pub free-at : (marks : List Mark) (place at : ℕ) (m : Mark) → at ≡ length marks - place → slice_get marks at ≡ Some m → m.top ≡ Param → suc (free (drop place (reverse marks))) ≤ free (reverse marks)
free-at marks place at m n e p =
    omega (arith, ap free (split-at marks at m e), ap (λ (k : ℕ). free (reverse (take k marks))) n, free-append (reverse (drop (suc at) marks)) (m ∷ reverse (take at marks)), ap free (stack-cut marks place), ap (λ (l : Label). params (l ∷ [])) p)

pub real-put : (ls : List Label) (ts : List (List Label)) → real_nodes (put ls ts) ≤ real_nodes ls + real_nodes (joined ts)
real-put [] ts = omega arith
real-put (Param ∷ ls) [] = real-put ls []
real-put (Param ∷ ls) (t ∷ ts) = omega (arith, real-append t (put ls ts), real-put ls ts, real-append t (joined ts))
real-put (Bottom ∷ ls) ts = omega (arith, real-put ls ts)
real-put (Symbol f ∷ ls) ts = omega (arith, real-put ls ts)
real-put (Call q ∷ ls) ts = omega (arith, real-put ls ts)

-- each node becomes 28 at most
pub expands-few : (ranks : List ℕ) (outside : ℕ → List Label) → ((q : ℕ) → real_nodes (outside q) ≤ 28) → (ls : List Label) (ts : List (List Label)) → Expands ranks outside ls ts → real_nodes (joined ts) ≤ 28 * real_nodes ls
expands-few ranks outside few _ _ nothing = omega arith
expands-few ranks outside few _ _ (parameter ls ts e) = expands-few ranks outside few ls ts e
expands-few ranks outside few _ _ (bottom ls ts e) = omega (arith, expands-few ranks outside few ls ts e)
expands-few ranks outside few _ _ (symbol f ls a b ts e) =
    omega (arith, expands-few ranks outside few ls (a ∷ b ∷ ts) e, real-append (a ++ b) (joined ts), real-append a b, real-append a (b ++ joined ts), real-append b (joined ts))
expands-few ranks outside few _ _ (call q ls kids ts n e) =
    omega (arith, expands-few ranks outside few ls (kids ++ ts) e, few q, real-put (outside q) kids, real-append (put (outside q) kids) (joined ts), ap real_nodes (joined-append kids ts), real-append (joined kids) (joined ts))

pub live-append : (xs ys : List (Option Label)) → live (xs ++ ys) ≡ live xs ++ live ys
live-append [] ys = refl
live-append (None ∷ xs) ys = live-append xs ys
live-append (Some l ∷ xs) ys = ap (λ z. l ∷ z) (live-append xs ys)

pub live-reverse : (xs : List (Option Label)) → real_nodes (live (reverse xs)) ≡ real_nodes (live xs)
live-reverse [] = refl
live-reverse (x ∷ xs) =
    omega (arith, ap (λ z. real_nodes (live z)) (reverse-append (x ∷ []) xs), ap real_nodes (live-append (reverse xs) (x ∷ [])), real-append (live (reverse xs)) (live (x ∷ [])), live-reverse xs, ap real_nodes (live-append (x ∷ []) xs), real-append (live (x ∷ [])) (live xs))

-- one is taken out
pub live-set : (xs : List (Option Label)) (n : ℕ) → real_nodes (live (set xs n None)) ≤ real_nodes (live xs)
live-set [] n = omega arith
live-set (None ∷ xs) zero = omega arith
live-set (Some l ∷ xs) zero = omega (arith, real-append (l ∷ []) (live xs))
live-set (None ∷ xs) (suc n) = live-set xs n
live-set (Some l ∷ xs) (suc n) = omega (arith, live-set xs n, real-append (l ∷ []) (live xs), real-append (l ∷ []) (live (set xs n None)))

pub end-few : (l : Label) → IsEnd l → arity [] l ≤ 2
end-few l (inl x) = omega (arith, ap (arity []) x.1)
end-few l (inr x) = omega (arith, ap (arity []) x)

pub not-zero : (n : ℕ) → 0 < n → eqb n 0 ≡ false
not-zero n l = by_test (eqb_tells n 0) where
  by_test : ((eqb n 0 ≡ true) × (n ≡ 0)) ⊎ ((eqb n 0 ≡ false) × (n ≢ 0)) → eqb n 0 ≡ false
  by_test (inl x) = absurd (omega (arith, l, x.1))
  by_test (inr x) = x.0

pub no-outsides : AreSmall []
no-outsides q = omega arith

-- one more outside
pub small-push : (outsides : List (List Label)) (outside : List Label) → AreSmall outsides → real_nodes outside ≤ 28 → AreSmall (outsides ++ outside ∷ [])
small-push [] outside s f zero = f
small-push [] outside s f (suc q) = no-outsides q
small-push (o ∷ outsides) outside s f zero = s 0
small-push (o ∷ outsides) outside s f (suc q) = small-push outsides outside (λ p. s (suc p)) f q

parameters-none : (n : ℕ) → real_nodes (parameters n) ≡ 0
parameters-none zero = refl
parameters-none (suc n) = parameters-none n

pub pair-two : (ranks : List ℕ) (upper : Label) (before : ℕ) (lower : Label) → real_nodes (digram_body ranks upper before lower) ≤ 2
pair-two ranks upper before lower =
    let after : ℕ = arity ranks lower + (arity ranks upper - suc before) in
    omega (
      arith,
      real-append (upper ∷ []) (parameters before ++ (lower ∷ parameters (arity ranks lower + (arity ranks upper - suc before)))),
      real-append (parameters before) (lower ∷ parameters (arity ranks lower + (arity ranks upper - suc before))),
      real-append (lower ∷ []) (parameters (arity ranks lower + (arity ranks upper - suc before))),
      parameters-none before,
      parameters-none (arity ranks lower + (arity ranks upper - suc before)),
      real-one upper,
      real-one lower,
    )
