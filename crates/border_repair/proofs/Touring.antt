-- A body whose calls give way to outsides is what the stops of its tour become.
use Rattle.std.proofs.Common.{◌≡◌, ℕ, zero, suc, ◌+◌, ◌≤◌, List, [], ◌∷◌, ◌++◌, length, get_or, take, drop, map, refl, ap, sym, subst, ◌∙◌, arith, append_assoc, append-nil}
use Rattle.std.proofs.lemmas.List.{length-map, length-take-le, take-append-drop}
use Rattle.rule_arena.specs.Preorder.{AreTerms}
use Rattle.rule_arena.specs.declared.label.Label.{Label}
use Rattle.rule_arena.specs.declared.label.Label.TheVariants.{Bottom, Symbol, Call, Param}
use Rattle.slt_grammar.specs.Bodies.{arity, params}
use Rattle.slt_grammar.specs.Editing.{put}
use Rattle.slt_grammar.specs.Segments.{segment, spread}
use Rattle.slt_grammar.specs.Tours.{Stop, opened_kids, once_closed, entered, tour}
use Rattle.slt_grammar.proofs.Spreads.{IsPlain, filled, woven, filled-woven}
use Rattle.slt_grammar.proofs.Substitutions.{joined}
use Rattle.border_repair.specs.Expanding.{Expands, nothing, parameter, bottom, symbol, call, expanded_part, expanded_stop}

-- terms before what comes behind
abbrev fronts : List (List Label) → List (List Label → List Label)
fronts ts = map (λ t k. t ++ k) ts

put-filled : (ls : List Label) (kids : List (List Label)) (k : List Label) → length kids ≡ params ls → put ls kids ++ k ≡ filled ls (fronts kids) k
put-filled [] kids k e = refl
put-filled (Param ∷ ls) [] k e = absurd (omega arith)
put-filled (Param ∷ ls) (a ∷ kids) k e = append_assoc a (put ls kids) k ∙ ap (λ z. a ++ z) (put-filled ls kids k (omega arith))
put-filled (Bottom ∷ ls) kids k e = ap (λ z. Bottom ∷ z) (put-filled ls kids k e)
put-filled (Symbol f ∷ ls) kids k e = ap (λ z. Symbol f ∷ z) (put-filled ls kids k e)
put-filled (Call q ∷ ls) kids k e = ap (λ z. Call q ∷ z) (put-filled ls kids k e)

module _ (ranks : List ℕ) (outside : ℕ → List Label) where
  -- what becomes of a node and its children, from part i on
  abbrev around : Label → ℕ → List (List Label) → List Label → List Label
  around l i [] k = k
  around l i (t ∷ ts) k = t ++ (expanded_part outside l i ++ around l (suc i) ts k)

  woven-around : (q i : ℕ) (kids : List (List Label)) (k : List Label) → woven (outside q) i (fronts kids) k ≡ expanded_part outside (Call q) i ++ around (Call q) (suc i) kids k
  woven-around q i [] k = refl
  woven-around q i (t ∷ ts) k = ap (λ x. segment i (outside q) ++ (t ++ x)) (woven-around q (suc i) ts k)

  -- a node over terms
  abbrev term_of : Label → List (List Label) → List Label
  term_of Bottom kids = Bottom ∷ []
  term_of (Symbol f) kids = Symbol f ∷ joined kids
  term_of (Call q) kids = put (outside q) kids
  term_of Param kids = Param ∷ []

  -- the outside of a called rule has as many parameters as the rule
  abbrev pub HasRank : Label → Type 0
  HasRank (Call q) = params (outside q) ≡ get_or ranks q 0
  HasRank l = Unit {0}

  abbrev pub HaveRanks : List Label → Type 0
  HaveRanks [] = Unit {0}
  HaveRanks (l ∷ ls) = HasRank l × HaveRanks ls

  term-around : (l : Label) (kids : List (List Label)) (k : List Label) → IsPlain l → HasRank l → length kids ≡ arity ranks l → term_of l kids ++ k ≡ expanded_part outside l 0 ++ around l 1 kids k
  term-around Param kids k p h n = absurd p
  term-around Bottom [] k p h n = refl
  term-around Bottom (t ∷ ts) k p h n = absurd (omega arith)
  term-around (Symbol f) [] k p h n = absurd (omega arith)
  term-around (Symbol f) (a ∷ []) k p h n = absurd (omega arith)
  term-around (Symbol f) (a ∷ b ∷ []) k p h n = ap (λ z. Symbol f ∷ z) (append_assoc a (b ++ []) k ∙ ap (λ z. a ++ (z ++ k)) (append-nil b))
  term-around (Symbol f) (a ∷ b ∷ c ∷ ts) k p h n = absurd (omega arith)
  term-around (Call q) kids k p h n =
      let m : params (outside q) ≡ length (fronts kids) = omega (arith, length-map {B = List Label → List Label} kids (λ t x. t ++ x)) in
      put-filled (outside q) kids k (n ∙ sym h) ∙ filled-woven (outside q) (fronts kids) k m ∙ woven-around q 0 kids k

  -- terms, and what comes behind each of them
  abbrev pub strung : List (List Label) → List (List (Stop Label)) → List Label → List Label
  strung [] after k = k
  strung (t ∷ ts) after k = t ++ spread (expanded_stop outside) (get_or after 0 []) (strung ts (drop 1 after) k)

  spread-append : (ms ns : List (Stop Label)) (k : List Label) → spread (expanded_stop outside) (ms ++ ns) k ≡ spread (expanded_stop outside) ms (spread (expanded_stop outside) ns k)
  spread-append [] ns k = refl
  spread-append (m ∷ ms) ns k = ap (λ x. expanded_stop outside m ++ x) (spread-append ms ns k)

  strung-opened_kids : (l : Label) (i n : ℕ) (all : List (List Label)) (a : List (Stop Label)) (bs : List (List (Stop Label))) (k : List Label) → n ≤ length all
      → spread (expanded_stop outside) (once_closed n a) (strung all (opened_kids l i n a ++ bs) k) ≡ around l i (take n all) (spread (expanded_stop outside) a (strung (drop n all) bs k))
  strung-opened_kids l i zero all a bs k h = refl
  strung-opened_kids l i (suc n) [] a bs k h = absurd (omega arith)
  strung-opened_kids l i (suc zero) (t ∷ ts) a bs k h = refl
  strung-opened_kids l i (suc (suc n)) (t ∷ ts) a bs k h = ap (λ x. t ++ (expanded_part outside l i ++ x)) (strung-opened_kids l (suc i) (suc n) ts a bs k (omega arith))

  -- the terms that labels become
  pub record Toured (n : ℕ) (ls : List Label) : Type 0 where
    pub terms : List (List Label)
    pub many : length terms ≡ n
    pub expands : Expands ranks outside ls terms
    pub spells : (after : List (List (Stop Label))) (k : List Label) → spread (expanded_stop outside) (tour (arity ranks) after ls) k ≡ strung terms after k

  two : (ts : List (List Label)) (n : ℕ) → length ts ≡ 2 + n → (a b : List Label) × (rest : List (List Label)) × (ts ≡ a ∷ b ∷ rest)
  two [] n l = absurd (omega arith)
  two (a ∷ []) n l = absurd (omega arith)
  two (a ∷ b ∷ rest) n l = (a, b, rest, refl)

  expands-more : (l : Label) (ls : List Label) (all : List (List Label)) (n : ℕ) → IsPlain l → length all ≡ arity ranks l + n → Expands ranks outside ls all → Expands ranks outside (l ∷ ls) (term_of l (take (arity ranks l) all) ∷ drop (arity ranks l) all)
  expands-more Param ls all n p e x = absurd p
  expands-more Bottom ls all n p e x = bottom ls all x
  expands-more (Symbol f) ls all n p e x =
      let t = two all n e in
      subst (λ (z : List (List Label)). Expands ranks outside (Symbol f ∷ ls) (term_of (Symbol f) (take 2 z) ∷ drop 2 z)) (sym t.3)
      (subst (λ (z : List Label). Expands ranks outside (Symbol f ∷ ls) ((Symbol f ∷ (t.0 ++ z)) ∷ t.2)) (sym (append-nil t.1)) (symbol f ls t.0 t.1 t.2 (subst (Expands ranks outside ls) t.3 x)))
  expands-more (Call q) ls all n p e x =
      call q ls (take (get_or ranks q 0) all) (drop (get_or ranks q 0) all) (length-take-le (get_or ranks q 0) all (omega arith)) (subst (Expands ranks outside ls) (sym (take-append-drop (get_or ranks q 0) all)) x)

  toured-step : (l : Label) (ls : List Label) (n : ℕ) → IsPlain l → HasRank l → Toured (arity ranks l + n) ls → Toured (suc n) (l ∷ ls)
  toured-step l ls n p h t = record {
    terms = term_of l (take r t.terms) ∷ drop r t.terms;
    many = ap suc (dropped r n t.terms t.many);
    expands = expands-more l ls t.terms n p t.many t.expands;
    spells = λ after k.
        let a : List (Stop Label) = get_or after 0 [] in
        ap (λ x. expanded_part outside l 0 ++ x) (spread-append (once_closed r a) (tour (arity ranks) (opened_kids l 1 r a ++ drop 1 after) ls) k ∙ ap (spread (expanded_stop outside) (once_closed r a)) (t.spells (entered (arity ranks) l after) k) ∙ strung-opened_kids l 1 r t.terms a (drop 1 after) k enough)
        ∙ sym (term-around l (take r t.terms) (spread (expanded_stop outside) a (strung (drop r t.terms) (drop 1 after) k)) p h (length-take-le r t.terms enough));
  }
    where
      r : ℕ
      r = arity ranks l

      enough : arity ranks l ≤ length t.terms
      enough = omega (arith, t.many)

      dropped : (m i : ℕ) (ts : List (List Label)) → length ts ≡ m + i → length (drop m ts) ≡ i
      dropped zero i ts e = omega arith
      dropped (suc m) i [] e = absurd (omega arith)
      dropped (suc m) i (x ∷ ts) e = dropped m i ts (omega arith)

  pub toured : (n : ℕ) (ls : List Label) → AreTerms (arity ranks) n ls → HaveRanks ls → Toured n ls
  toured zero [] t h = record { terms = []; many = refl; expands = nothing; spells = λ after k. refl }
  toured zero (l ∷ ls) t h = absurd t
  toured (suc n) [] t h = absurd t
  toured (suc n) (Param ∷ ls) t h =
      let ih = toured (0 + n) ls t h.1 in
      record {
        terms = (Param ∷ []) ∷ ih.terms;
        many = omega (arith, ih.many);
        expands = parameter ls ih.terms ih.expands;
        spells = λ after k. ap (λ x. Param ∷ x) (spread-append (get_or after 0 []) (tour (arity ranks) (drop 1 after) ls) k ∙ ap (spread (expanded_stop outside) (get_or after 0 [])) (ih.spells (drop 1 after) k));
      }
  toured (suc n) (Bottom ∷ ls) t h = toured-step Bottom ls n tt h.0 (toured (0 + n) ls t h.1)
  toured (suc n) (Symbol f ∷ ls) t h = toured-step (Symbol f) ls n tt h.0 (toured (2 + n) ls t h.1)
  toured (suc n) (Call q ∷ ls) t h = toured-step (Call q) ls n tt h.0 (toured (get_or ranks q 0 + n) ls t h.1)

  -- one term is what its tour becomes
  pub one-toured : (ls : List Label) → AreTerms (arity ranks) 1 ls → HaveRanks ls → Expands ranks outside ls (spread (expanded_stop outside) (tour (arity ranks) ([] ∷ []) ls) [] ∷ [])
  one-toured ls t h = by_terms (toured 1 ls t h) where
    by_terms : Toured 1 ls → Expands ranks outside ls (spread (expanded_stop outside) (tour (arity ranks) ([] ∷ []) ls) [] ∷ [])
    by_terms w = by_list w.terms w.many w.expands (w.spells ([] ∷ []) []) where
      by_list : (ts : List (List Label)) → length ts ≡ 1 → Expands ranks outside ls ts → spread (expanded_stop outside) (tour (arity ranks) ([] ∷ []) ls) [] ≡ strung ts ([] ∷ []) []
          → Expands ranks outside ls (spread (expanded_stop outside) (tour (arity ranks) ([] ∷ []) ls) [] ∷ [])
      by_list [] n x s = absurd (omega arith)
      by_list (a ∷ []) n x s = subst (λ (z : List Label). Expands ranks outside ls (z ∷ [])) (sym (s ∙ append-nil a)) x
      by_list (a ∷ b ∷ ts) n x s = absurd (omega arith)
