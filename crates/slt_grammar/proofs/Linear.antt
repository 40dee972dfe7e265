-- The holes of a rule's value are its parameters, each once and in their order.
use Rattle.std.proofs.Common.{◌≡◌, ℕ, zero, suc, ◌+◌, ◌<◌, ◌≤◌, List, [], ◌∷◌, ◌++◌, length, get_or, take, drop, map, refl, ap, sym, ◌∙◌, arith, ◌⊎◌, inl, inr, append_assoc, append-nil, length-append, add-one}
use Rattle.std.proofs.lemmas.Bool.{cases_lt}
use Rattle.std.proofs.lemmas.List.{length-take-le, take-append-drop, get_or_append_left, get_or_at, drop_more, drop_all, map-append}
use Rattle.rule_arena.specs.Preorder.{AreTerms}
use Rattle.rule_arena.specs.declared.label.Label.{Label}
use Rattle.rule_arena.specs.declared.label.Label.TheVariants.{Bottom, Symbol, Call, Param}
use Rattle.slt_grammar.specs.Bodies.{arity, params, CallsBelow, IsTerm}
use Rattle.slt_grammar.specs.Algebras.{meanings, meaning, rule_meanings, ranks_of, all_meanings}
use Rattle.slt_grammar.specs.Terms.{Term, Leaf, Node, Hole, substitute, term_algebra, holes, holes_of}
use Rattle.slt_grammar.specs.Grammars.{IsGrammar, rank_at, no_rule, value_at}
use Rattle.slt_grammar.specs.declared.rules.Rule.{Rule}
use Rattle.slt_grammar.proofs.Meanings.{meanings-whole, only}
use Rattle.slt_grammar.proofs.RuleMeanings.{length-all_meanings, rank_at-ranks_of}

-- the holes of terms, one term after another
abbrev pub all_holes : List Term → List Term
all_holes [] = []
all_holes (t ∷ ts) = holes_of t ++ all_holes ts

pub all_holes-append : (ts us : List Term) → all_holes (ts ++ us) ≡ all_holes ts ++ all_holes us
all_holes-append [] us = refl
all_holes-append (t ∷ ts) us = rw (all_holes-append ts us) (sym (append_assoc (holes_of t) (all_holes ts) (all_holes us)))

-- a term with arguments has the arguments' holes in the places of its own
pub holes_of-substitute : (t : Term) (args : List Term) → holes_of (substitute t args) ≡ all_holes (map (λ h. substitute h args) (holes_of t))
holes_of-substitute Leaf args = refl
holes_of-substitute (Hole i) args = sym (append-nil (holes_of (get_or args i Leaf)))
holes_of-substitute (Node f a b) args =
    rw (holes_of-substitute a args, holes_of-substitute b args, map-append (λ h. substitute h args) (holes_of a) (holes_of b))
    (sym (all_holes-append (map (λ h. substitute h args) (holes_of a)) (map (λ h. substitute h args) (holes_of b))))

-- each of these functions has its arguments once each, in their order
abbrev pub AreInOrder : List ℕ → List (List Term → Term) → Type 0
AreInOrder ranks fs = (q : ℕ) (kids : List Term) → q < length fs → length kids ≡ get_or ranks q 0 → holes_of (get_or fs q (λ _. Leaf) kids) ≡ all_holes kids

all_holes-split : (n : ℕ) (ts : List Term) → all_holes (take n ts) ++ all_holes (drop n ts) ≡ all_holes ts
all_holes-split n ts = sym (all_holes-append (take n ts) (drop n ts)) ∙ ap all_holes (take-append-drop n ts)

two : (all : List Term) → 2 ≤ length all → holes_of (get_or (take 2 all) 0 Leaf) ++ holes_of (get_or (take 2 all) 1 Leaf) ≡ all_holes (take 2 all)
two [] h = absurd (omega arith)
two (a ∷ []) h = absurd (omega arith)
two (a ∷ b ∷ all) h = ap (λ x. holes_of a ++ x) (sym (append-nil (holes_of b)))

module _ (ranks : List ℕ) (fs : List (List Term → Term)) (io : AreInOrder ranks fs) where
  -- the terms that labels mean have the arguments' holes in order
  pub all_holes-meanings : (n : ℕ) (ls : List Label) (args : List Term) → AreTerms (arity ranks) n ls → CallsBelow (length fs) ls → length args ≡ params ls → all_holes (meanings term_algebra ranks fs args ls []) ≡ all_holes args
  all_holes-meanings n [] [] t c e = refl
  all_holes-meanings n [] (a ∷ args) t c e = absurd (omega arith)
  all_holes-meanings zero (l ∷ ls) args t c e = absurd t
  all_holes-meanings (suc n) (Param ∷ ls) [] t c e = absurd (omega arith)
  all_holes-meanings (suc n) (Param ∷ ls) (a ∷ args) t c e = ap (λ x. holes_of a ++ x) (all_holes-meanings (0 + n) ls args t c (omega arith))
  all_holes-meanings (suc n) (Bottom ∷ ls) args t c e = all_holes-meanings (0 + n) ls args t c e
  all_holes-meanings (suc n) (Symbol f ∷ ls) args t c e =
      let all : List Term = meanings term_algebra ranks fs args ls [] in
      let m = meanings-whole term_algebra ranks fs (2 + n) args ls [] t in
      ap (λ x. x ++ all_holes (drop 2 all)) (two all (omega (arith, m.1))) ∙ all_holes-split 2 all ∙ all_holes-meanings (2 + n) ls args t c e
  all_holes-meanings (suc n) (Call q ∷ ls) args t c e =
      let k : ℕ = get_or ranks q 0 in
      let all : List Term = meanings term_algebra ranks fs args ls [] in
      let m = meanings-whole term_algebra ranks fs (k + n) args ls [] t in
      let h : k ≤ length all = omega (arith, m.1) in
      ap (λ x. x ++ all_holes (drop k all)) (io q (take k all) c.0 (length-take-le k all h)) ∙ all_holes-split k all ∙ all_holes-meanings (k + n) ls args t c.1 e

  pub holes_of-meaning : (body : List Label) (args : List Term) → IsTerm ranks body → CallsBelow (length fs) body → length args ≡ params body → holes_of (meaning term_algebra ranks fs body args) ≡ all_holes args
  holes_of-meaning body args t c e =
      let m = meanings-whole term_algebra ranks fs 1 args body [] t in
      let o = only Leaf (meanings term_algebra ranks fs args body []) m.1 in
      sym (append-nil (holes_of (meaning term_algebra ranks fs body args))) ∙ sym (ap all_holes o) ∙ all_holes-meanings 1 body args t c e

-- rules, the first of them at this place
abbrev AreLawfulFrom : List ℕ → ℕ → List Rule → Type 0
AreLawfulFrom ranks k [] = Unit {0}
AreLawfulFrom ranks k (R ∷ Rs) = (CallsBelow k R.body × IsTerm ranks R.body × (params R.body ≡ get_or ranks k 0)) × AreLawfulFrom ranks (suc k) Rs

in_order-push : (ranks : List ℕ) (fs : List (List Term → Term)) (body : List Label) → AreInOrder ranks fs → CallsBelow (length fs) body → IsTerm ranks body → params body ≡ get_or ranks (length fs) 0 → AreInOrder ranks (fs ++ meaning term_algebra ranks fs body ∷ [])
in_order-push ranks fs body io c t p q kids h n = by_place (cases_lt q (length fs))
  where
    by_place : (q < length fs) ⊎ (length fs ≤ q) → holes_of (get_or (fs ++ meaning term_algebra ranks fs body ∷ []) q (λ _. Leaf) kids) ≡ all_holes kids
    by_place (inl l) = rw (get_or_append_left fs (meaning term_algebra ranks fs body ∷ []) (λ _. Leaf) q l) (io q kids l n)
    by_place (inr g) =
        let e : q ≡ length fs = omega (arith, length-append fs (meaning term_algebra ranks fs body ∷ [])) in
        rw (get_or_at fs (meaning term_algebra ranks fs body) [] (λ _. Leaf) q (sym e)) (holes_of-meaning ranks fs io body kids t c (n ∙ ap (λ x. get_or ranks x 0) e ∙ sym p))

rule_meanings-in_order : (ranks : List ℕ) (fs : List (List Term → Term)) (Rs : List Rule) → AreInOrder ranks fs → AreLawfulFrom ranks (length fs) Rs → AreInOrder ranks (rule_meanings term_algebra ranks fs Rs)
rule_meanings-in_order ranks fs [] io l = io
rule_meanings-in_order ranks fs (R ∷ Rs) io l =
    let n : length (fs ++ meaning term_algebra ranks fs R.body ∷ []) ≡ suc (length fs) = omega (arith, length-append fs (meaning term_algebra ranks fs R.body ∷ [])) in
    rule_meanings-in_order ranks (fs ++ meaning term_algebra ranks fs R.body ∷ []) Rs (in_order-push ranks fs R.body io l.0.0 l.0.1 l.0.2) (rw n l.1)

lawful_from-drop : (G : List Rule) → IsGrammar G → (n k : ℕ) → k + n ≡ length G → AreLawfulFrom (ranks_of G) k (drop k G)
lawful_from-drop G g zero k e = rw (drop_all k G (omega arith)) tt
lawful_from-drop G g (suc n) k e =
    let h : k < length G = omega arith in
    let l = g.each k h in
    let rest : AreLawfulFrom (ranks_of G) (suc k) (drop (k + 1) G) = rw add-one (lawful_from-drop G g n (suc k) (omega arith)) in
    rw (drop_more G k no_rule h) ((l.earlier, l.shaped.term, l.linear ∙ sym (rank_at-ranks_of G k)), rest)

-- each rule of a grammar has its arguments once each, in their order
pub values-in_order : (G : List Rule) → IsGrammar G → AreInOrder (ranks_of G) (all_meanings term_algebra G)
values-in_order G g = rule_meanings-in_order (ranks_of G) [] G (λ q kids h n. absurd (omega arith)) (lawful_from-drop G g (length G) 0 (omega arith))

pub length-holes : (from n : ℕ) → length (holes from n) ≡ n
length-holes from zero = refl
length-holes from (suc n) = ap suc (length-holes (suc from) n)

all_holes-holes : (from n : ℕ) → all_holes (holes from n) ≡ holes from n
all_holes-holes from zero = refl
all_holes-holes from (suc n) = ap (λ hs. Hole from ∷ hs) (all_holes-holes (suc from) n)

pub value_at-linear : (G : List Rule) (r : ℕ) → IsGrammar G → r < length G → holes_of (value_at G r) ≡ holes 0 (rank_at G r)
value_at-linear G r g h =
    let k : ℕ = rank_at G r in
    let l : r < length (all_meanings term_algebra G) = omega (arith, length-all_meanings term_algebra G) in
    values-in_order G g r (holes 0 k) l (length-holes 0 k ∙ sym (rank_at-ranks_of G r)) ∙ all_holes-holes 0 k

-- the holes with arguments in them are the arguments
pub substitute-holes : (before args : List Term) → map (λ h. substitute h (before ++ args)) (holes (length before) (length args)) ≡ args
substitute-holes before [] = refl
substitute-holes before (a ∷ args) =
    let n : length (before ++ a ∷ []) ≡ suc (length before) = omega (arith, length-append before (a ∷ [])) in
    let ih : map (λ h. substitute h (before ++ a ∷ args)) (holes (suc (length before)) (length args)) ≡ args = rw (n, append_assoc before (a ∷ []) args) at (substitute-holes (before ++ a ∷ []) args) in
    rw (get_or_at before a args Leaf (length before) refl, ih)

-- the holes of a rule's value with arguments in them are the arguments
pub holes-take : (G : List Rule) (r : ℕ) (args : List Term) → IsGrammar G → r < length G → length args ≡ rank_at G r → map (λ h. substitute h args) (holes_of (value_at G r)) ≡ args
holes-take G r args g h n = rw (value_at-linear G r g h, ← n) (substitute-holes [] args)
