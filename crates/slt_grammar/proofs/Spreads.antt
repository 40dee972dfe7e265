-- The preorder of a rule's value is what the tour of its body stands for.
use Rattle.std.proofs.Common.{◌≡◌, ℕ, zero, suc, ◌+◌, ◌<◌, ◌≤◌, List, [], ◌∷◌, ◌++◌, length, get_or, take, drop, map, refl, ap, sym, ◌∙◌, arith, append_assoc, append-nil, length-append, ◌⊎◌, inl, inr}
use Rattle.std.proofs.lemmas.Bool.{cases_lt}
use Rattle.std.proofs.lemmas.List.{map-append, length-map, length-take-le, get_or_past}
use Rattle.std.proofs.lemmas.Simd.{map-map}
use Rattle.rule_arena.specs.Preorder.{AreTerms}
use Rattle.rule_arena.specs.declared.label.Label.{Label}
use Rattle.rule_arena.specs.declared.label.Label.TheVariants.{Bottom, Symbol, Call, Param}
use Rattle.slt_grammar.specs.Algebras.{apply, meanings, ranks_of, all_meanings}
use Rattle.slt_grammar.specs.Bodies.{arity, params}
use Rattle.slt_grammar.specs.Grammars.{IsGrammar, body_at, rank_at, no_rule, value_at}
use Rattle.slt_grammar.specs.Segments.{listed, segment, preorder, part_of, piece, spread, body_tour}
use Rattle.slt_grammar.specs.Terms.{Term, Leaf, Node, Hole, substitute, term_algebra, holes, holes_of}
use Rattle.slt_grammar.specs.Tours.{Stop, opened_kids, once_closed, entered, tour}
use Rattle.slt_grammar.specs.declared.rules.Rule.{Rule}
use Rattle.slt_grammar.proofs.Carrying.{values-substitute}
use Rattle.slt_grammar.proofs.Linear.{holes-take}
use Rattle.slt_grammar.proofs.Meanings.{meanings-whole, only}
use Rattle.slt_grammar.proofs.RuleMeanings.{memo-at, rank_at-ranks_of, length-all_meanings}

-- a preorder with functions in the places of its parameters
abbrev pub filled : List Label → List (List Label → List Label) → List Label → List Label
filled [] fs k = k
filled (Param ∷ ls) [] k = filled ls [] k
filled (Param ∷ ls) (f ∷ fs) k = f (filled ls fs k)
filled (l ∷ ls) fs k = l ∷ filled ls fs k

abbrev pub fillers : List Term → List Term → List (List Label → List Label)
fillers kids hs = map (λ h. listed (substitute h kids)) hs

-- the preorder of a term with terms put in
pub listed-put : (t : Term) (kids : List Term) (fs : List (List Label → List Label)) (c k : List Label) → filled (listed t c) (fillers kids (holes_of t) ++ fs) k ≡ listed (substitute t kids) (filled c fs k)
listed-put Leaf kids fs c k = refl
listed-put (Hole i) kids fs c k = refl
listed-put (Node f a b) kids fs c k =
    rw (map-append (λ h. listed (substitute h kids)) (holes_of a) (holes_of b), append_assoc (fillers kids (holes_of a)) (fillers kids (holes_of b)) fs, listed-put a kids (fillers kids (holes_of b) ++ fs) (listed b c) k, listed-put b kids fs c k) refl

-- the segments of a preorder around functions
abbrev pub woven : List Label → ℕ → List (List Label → List Label) → List Label → List Label
woven T i [] k = segment i T ++ k
woven T i (f ∷ fs) k = segment i T ++ f (woven T (suc i) fs k)

woven-param : (T : List Label) (i : ℕ) (fs : List (List Label → List Label)) (k : List Label) → woven (Param ∷ T) (suc i) fs k ≡ woven T i fs k
woven-param T i [] k = refl
woven-param T i (f ∷ fs) k = ap (λ x. segment i T ++ f x) (woven-param T (suc i) fs k)

-- a label that is no parameter
abbrev pub IsPlain : Label → Type 0
IsPlain Param = ⊥
IsPlain l = Unit {0}

woven-later : (l : Label) → IsPlain l → (T : List Label) (i : ℕ) (fs : List (List Label → List Label)) (k : List Label) → woven (l ∷ T) (suc i) fs k ≡ woven T (suc i) fs k
woven-later Param h T i fs k = absurd h
woven-later Bottom h T i [] k = refl
woven-later Bottom h T i (f ∷ fs) k = ap (λ x. segment (suc i) T ++ f x) (woven-later Bottom h T (suc i) fs k)
woven-later (Symbol s) h T i [] k = refl
woven-later (Symbol s) h T i (f ∷ fs) k = ap (λ x. segment (suc i) T ++ f x) (woven-later (Symbol s) h T (suc i) fs k)
woven-later (Call q) h T i [] k = refl
woven-later (Call q) h T i (f ∷ fs) k = ap (λ x. segment (suc i) T ++ f x) (woven-later (Call q) h T (suc i) fs k)

woven-plain : (l : Label) → IsPlain l → (T : List Label) (fs : List (List Label → List Label)) (k : List Label) → woven (l ∷ T) 0 fs k ≡ l ∷ woven T 0 fs k
woven-plain Param h T fs k = absurd h
woven-plain Bottom h T [] k = refl
woven-plain Bottom h T (f ∷ fs) k = ap (λ x. Bottom ∷ (segment 0 T ++ f x)) (woven-later Bottom h T 0 fs k)
woven-plain (Symbol s) h T [] k = refl
woven-plain (Symbol s) h T (f ∷ fs) k = ap (λ x. Symbol s ∷ (segment 0 T ++ f x)) (woven-later (Symbol s) h T 0 fs k)
woven-plain (Call q) h T [] k = refl
woven-plain (Call q) h T (f ∷ fs) k = ap (λ x. Call q ∷ (segment 0 T ++ f x)) (woven-later (Call q) h T 0 fs k)

pub filled-woven : (T : List Label) (fs : List (List Label → List Label)) (k : List Label) → params T ≡ length fs → filled T fs k ≡ woven T 0 fs k
filled-woven [] [] k e = refl
filled-woven [] (f ∷ fs) k e = absurd (omega arith)
filled-woven (Param ∷ T) [] k e = absurd (omega arith)
filled-woven (Param ∷ T) (f ∷ fs) k e = ap f (filled-woven T fs k (omega arith) ∙ sym (woven-param T 0 fs k))
filled-woven (Bottom ∷ T) fs k e = ap (λ x. Bottom ∷ x) (filled-woven T fs k e) ∙ sym (woven-plain Bottom tt T fs k)
filled-woven (Symbol s ∷ T) fs k e = ap (λ x. Symbol s ∷ x) (filled-woven T fs k e) ∙ sym (woven-plain (Symbol s) tt T fs k)
filled-woven (Call q ∷ T) fs k e = ap (λ x. Call q ∷ x) (filled-woven T fs k e) ∙ sym (woven-plain (Call q) tt T fs k)

pub params-listed : (t : Term) (c : List Label) → params (listed t c) ≡ length (holes_of t) + params c
params-listed Leaf c = omega arith
params-listed (Hole i) c = omega arith
params-listed (Node f a b) c = omega (arith, params-listed a (listed b c), params-listed b c, length-append (holes_of a) (holes_of b))

-- the parts of a node around its children, from part i on
abbrev pub around : List Rule → Label → ℕ → List Term → List Label → List Label
around G l i [] k = k
around G l i (t ∷ ts) k = listed t (part_of G l i ++ around G l (suc i) ts k)

-- the holes of a called rule's value with arguments in them are the arguments, also where no rule is
holes-taken : (G : List Rule) → IsGrammar G → (q : ℕ) (kids : List Term) → length kids ≡ rank_at G q → map (λ h. substitute h kids) (holes_of (value_at G q)) ≡ kids
holes-taken G g q kids n = by_place (cases_lt q (length G))
  where
    none : (ts : List Term) → length ts ≡ 0 → value_at G q ≡ Leaf → map (λ h. substitute h ts) (holes_of (value_at G q)) ≡ ts
    none [] m e = rw e refl
    none (t ∷ ts) m e = absurd (omega arith)

    by_place : (q < length G) ⊎ (length G ≤ q) → map (λ h. substitute h kids) (holes_of (value_at G q)) ≡ kids
    by_place (inl l) = holes-take G q kids g l n
    by_place (inr h) =
        let r : get_or G q no_rule ≡ no_rule = get_or_past G q no_rule h in
        let v : get_or (all_meanings term_algebra G) q (λ _. Leaf) ≡ (λ _. Leaf) = get_or_past (all_meanings term_algebra G) q (λ _. Leaf) (omega (arith, length-all_meanings term_algebra G)) in
        none kids (n ∙ ap (λ (R : Rule). R.rank) r) (ap (λ (f : List Term → Term). f (holes 0 (rank_at G q))) v)

module _ (G : List Rule) (g : IsGrammar G) where
  woven-around : (q i : ℕ) (kids : List Term) (k : List Label) → woven (preorder G q) i (map listed kids) k ≡ part_of G (Call q) i ++ around G (Call q) (suc i) kids k
  woven-around q i [] k = refl
  woven-around q i (t ∷ ts) k = ap (λ x. segment i (preorder G q) ++ listed t x) (woven-around q (suc i) ts k)

  listed-call : (q : ℕ) (kids : List Term) (rest : List Label) → length kids ≡ get_or (ranks_of G) q 0 → listed (get_or (all_meanings term_algebra G) q (λ _. Leaf) kids) rest ≡ part_of G (Call q) 0 ++ around G (Call q) 1 kids rest
  listed-call q kids k n =
      let v : Term = value_at G q in
      let m : length kids ≡ rank_at G q = n ∙ rank_at-ranks_of G q in
      let fs : List (List Label → List Label) = fillers kids (holes_of v) in
      let a : fs ≡ map listed kids = sym (map-map listed (λ h. substitute h kids) (holes_of v)) ∙ ap (map listed) (holes-taken G g q kids m) in
      let b : params (preorder G q) ≡ length fs = omega (arith, params-listed v [], length-map (holes_of v) (λ h. listed (substitute h kids))) in
      rw (values-substitute G q kids m) (sym (listed-put v kids [] [] k) ∙ ap (λ fs'. filled (preorder G q) fs' k) (append-nil fs) ∙ filled-woven (preorder G q) fs k b ∙ ap (λ fs'. woven (preorder G q) 0 fs' k) a ∙ woven-around q 0 kids k)

  -- the preorder of a node over its children
  pub listed-label : (l : Label) (kids : List Term) (k : List Label) → IsPlain l → length kids ≡ arity (ranks_of G) l → listed (apply term_algebra (all_meanings term_algebra G) l kids) k ≡ part_of G l 0 ++ around G l 1 kids k
  listed-label Param kids k p n = absurd p
  listed-label Bottom [] k p n = refl
  listed-label Bottom (t ∷ ts) k p n = absurd (omega arith)
  listed-label (Symbol f) [] k p n = absurd (omega arith)
  listed-label (Symbol f) (a ∷ []) k p n = absurd (omega arith)
  listed-label (Symbol f) (a ∷ b ∷ []) k p n = refl
  listed-label (Symbol f) (a ∷ b ∷ c ∷ ts) k p n = absurd (omega arith)
  listed-label (Call q) kids k p n = listed-call q kids k n

  -- terms, and what comes after each of them
  abbrev pub strung : List Term → List (List (Stop Label)) → List Label → List Label
  strung [] after k = k
  strung (t ∷ ts) after k = listed t (spread (piece G) (get_or after 0 []) (strung ts (drop 1 after) k))

  pub spread-append : (ms ns : List (Stop Label)) (k : List Label) → spread (piece G) (ms ++ ns) k ≡ spread (piece G) ms (spread (piece G) ns k)
  spread-append [] ns k = refl
  spread-append (m ∷ ms) ns k = ap (λ x. piece G m ++ x) (spread-append ms ns k)

  -- what comes after a node's children
  strung-opened_kids : (l : Label) (i n : ℕ) (all : List Term) (a : List (Stop Label)) (bs : List (List (Stop Label))) (k : List Label) → n ≤ length all
      → spread (piece G) (once_closed n a) (strung all (opened_kids l i n a ++ bs) k) ≡ around G l i (take n all) (spread (piece G) a (strung (drop n all) bs k))
  strung-opened_kids l i zero all a bs k h = refl
  strung-opened_kids l i (suc n) [] a bs k h = absurd (omega arith)
  strung-opened_kids l i (suc zero) (t ∷ ts) a bs k h = refl
  strung-opened_kids l i (suc (suc n)) (t ∷ ts) a bs k h = ap (λ x. listed t (part_of G l i ++ x)) (strung-opened_kids l (suc i) (suc n) ts a bs k (omega arith))

  spread-step : (l : Label) (ls : List Label) (args : List Term) (n : ℕ) (after : List (List (Stop Label))) (k : List Label) → IsPlain l
      → (all : List Term) → length all ≡ arity (ranks_of G) l + n
      → spread (piece G) (tour (arity (ranks_of G)) (entered (arity (ranks_of G)) l after) ls) k ≡ strung all (entered (arity (ranks_of G)) l after) k
      → spread (piece G) (tour (arity (ranks_of G)) after (l ∷ ls)) k ≡ strung (apply term_algebra (all_meanings term_algebra G) l (take (arity (ranks_of G) l) all) ∷ drop (arity (ranks_of G) l) all) after k
  spread-step l ls args n after k p all e ih =
      let r : ℕ = arity (ranks_of G) l in
      let a : List (Stop Label) = get_or after 0 [] in
      let h : r ≤ length all = omega arith in
      ap (λ x. part_of G l 0 ++ x) (spread-append (once_closed r a) (tour (arity (ranks_of G)) (opened_kids l 1 r a ++ drop 1 after) ls) k ∙ ap (spread (piece G) (once_closed r a)) ih ∙ strung-opened_kids l 1 r all a (drop 1 after) k h)
      ∙ sym (listed-label l (take r all) (spread (piece G) a (strung (drop r all) (drop 1 after) k)) p (length-take-le r all h))

  -- the tour of terms stands for the preorders of their values
  pub spread-tour : (n from : ℕ) (ls : List Label) (after : List (List (Stop Label))) (k : List Label) → AreTerms (arity (ranks_of G)) n ls
      → spread (piece G) (tour (arity (ranks_of G)) after ls) k ≡ strung (meanings term_algebra (ranks_of G) (all_meanings term_algebra G) (holes from (params ls)) ls []) after k
  spread-tour zero from [] after k t = refl
  spread-tour zero from (l ∷ ls) after k t = absurd t
  spread-tour (suc n) from [] after k t = absurd t
  spread-tour (suc n) from (Param ∷ ls) after k t =
      ap (λ x. Param ∷ x) (spread-append (get_or after 0 []) (tour (arity (ranks_of G)) (drop 1 after) ls) k ∙ ap (spread (piece G) (get_or after 0 [])) (spread-tour (0 + n) (suc from) ls (drop 1 after) k t))
  spread-tour (suc n) from (Bottom ∷ ls) after k t =
      spread-step Bottom ls (holes from (params ls)) n after k tt _ (meanings-whole term_algebra (ranks_of G) (all_meanings term_algebra G) (0 + n) (holes from (params ls)) ls [] t).1 (spread-tour (0 + n) from ls _ k t)
  spread-tour (suc n) from (Symbol f ∷ ls) after k t =
      spread-step (Symbol f) ls (holes from (params ls)) n after k tt _ (meanings-whole term_algebra (ranks_of G) (all_meanings term_algebra G) (2 + n) (holes from (params ls)) ls [] t).1 (spread-tour (2 + n) from ls _ k t)
  spread-tour (suc n) from (Call q ∷ ls) after k t =
      spread-step (Call q) ls (holes from (params ls)) n after k tt _ (meanings-whole term_algebra (ranks_of G) (all_meanings term_algebra G) (get_or (ranks_of G) q 0 + n) (holes from (params ls)) ls [] t).1 (spread-tour (get_or (ranks_of G) q 0 + n) from ls _ k t)

pub preorder-tour : (G : List Rule) (r : ℕ) → IsGrammar G → r < length G → preorder G r ≡ spread (piece G) (body_tour G r) []
preorder-tour G r g h =
    let ranks = ranks_of G in
    let body = body_at G r in
    let l = g.each r h in
    let hs : List Term = holes 0 (params body) in
    let e : value_at G r ≡ get_or (meanings term_algebra ranks (all_meanings term_algebra G) hs body []) 0 Leaf = ap (λ k. get_or (all_meanings term_algebra G) r (λ _. Leaf) (holes 0 k)) (sym l.linear) ∙ memo-at term_algebra G g r h hs in
    let o = only Leaf (meanings term_algebra ranks (all_meanings term_algebra G) hs body []) (meanings-whole term_algebra ranks (all_meanings term_algebra G) 1 hs body [] l.shaped.term).1 in
    ap (λ t. listed t []) e ∙ sym (ap (λ ts. strung G g ts ([] ∷ []) []) o) ∙ sym (spread-tour G g 1 0 body ([] ∷ []) [] l.shaped.term)
