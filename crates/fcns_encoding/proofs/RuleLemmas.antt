-- What the rules of a table mean, and that they are a grammar.
use Rattle.std.proofs.Common.{◌≡◌, ℕ, zero, suc, ◌+◌, ◌-◌, ◌<◌, ◌≤◌, Bool, true, false, ◌||◌, List, [], ◌∷◌, ◌++◌, length, take, drop, get_or, Some, slice_get, if◌then◌else◌, refl, ap, sym, ◌∙◌, subst, ◌⊎◌, inl, inr, arith, length-append, append_assoc, append-nil}
use Rattle.std.proofs.lemmas.Bool.{eq-eqb}
use Rattle.std.proofs.lemmas.Bool.Decides.{eqb_tells}
use Rattle.rule_arena.specs.Preorder.{AreTerms}
use Rattle.rule_arena.proofs.PreorderLemmas.{AreTerms-append}
use Rattle.rule_arena.specs.declared.label.Label.{Label}
use Rattle.rule_arena.specs.declared.label.Label.TheVariants.{Symbol, Call}
use Rattle.slt_grammar.proofs.Keeping.{CallsBelow-append}
use Rattle.slt_grammar.proofs.Meanings.{params-append}
use Rattle.slt_grammar.specs.Algebras.{apply, meaning, meanings, rule_meanings, ranks_of}
use Rattle.slt_grammar.specs.Bodies.{arity, IsTerm, params, CallsBelow}
use Rattle.slt_grammar.specs.Grammars.{IsGrammar, rank_at, no_rule, value}
use Rattle.slt_grammar.specs.Terms.{Term, Leaf, Node, term_algebra, holes}
use Rattle.slt_grammar.specs.declared.rules.Rule.{Rule}
use Rattle.fcns_encoding.specs.Cells.{AreEarlier, term_at, terms_of}
use Rattle.fcns_encoding.specs.Marks.{one_if}
use Rattle.fcns_encoding.specs.Sharing.{is_ruled, rule_place, part_at, body_of, rule_of, rules_for, rules_of_cells}
use Rattle.fcns_encoding.specs.declared.subterms.Cell.{Cell}
use Rattle.fcns_encoding.proofs.CellLemmas.{get_is, has_get, got_within, terms_zero, term_is}
use Rattle.fcns_encoding.proofs.SharingLemmas.{part-zero, part-ruled, part-whole, rules-length}

-- where no cell is
pub no_cell : Cell
no_cell = record { symbol = 0; first = 0; second = 0 }

-- a number has a rule or none
pub ruled_or : (marks : List Bool) (cells : List Cell) (k : ℕ) → (is_ruled marks cells k ≡ true) ⊎ (is_ruled marks cells k ≡ false)
ruled_or marks cells k = by_test (is_ruled marks cells k) refl where
  by_test : (t : Bool) → is_ruled marks cells k ≡ t → (is_ruled marks cells k ≡ true) ⊎ (is_ruled marks cells k ≡ false)
  by_test true e = inl e
  by_test false e = inr e

-- the first rule, and where there is none
pub with_rule : (marks : List Bool) (all : List Cell) (number : ℕ) (c : Cell) (cs : List Cell) → is_ruled marks all number ≡ true → rules_for marks all number (c ∷ cs) ≡ rule_of marks all c ∷ rules_for marks all (suc number) cs
with_rule marks all number c cs r = ap (λ t. (if t then rule_of marks all c ∷ [] else []) ++ rules_for marks all (suc number) cs) r

pub without_rule : (marks : List Bool) (all : List Cell) (number : ℕ) (c : Cell) (cs : List Cell) → is_ruled marks all number ≡ false → rules_for marks all number (c ∷ cs) ≡ rules_for marks all (suc number) cs
without_rule marks all number c cs r = ap (λ t. (if t then rule_of marks all c ∷ [] else []) ++ rules_for marks all (suc number) cs) r

-- rules without parameters
abbrev pub AreRankless : List ℕ → Type 0
AreRankless ranks = (q : ℕ) → get_or ranks q 0 ≡ 0

abbrev pub no_meaning : List Term → Term
no_meaning args = Leaf

-- the rules of numbers below this one mean their numbers' terms
abbrev pub AreCalled : List Bool → List Cell → ℕ → List (List Term → Term) → Type 0
AreCalled marks cells number fs = (k : ℕ) → k < number → is_ruled marks cells k ≡ true → get_or fs (rule_place marks cells k) no_meaning [] ≡ term_at cells k

module _ (cells : List Cell) (low : AreEarlier cells) where
  pub term-zero : term_at cells 0 ≡ Leaf
  term-zero = get_is (terms_of cells) 0 Leaf Leaf (terms_zero cells)

  pub term-cell : (i : ℕ) (c : Cell) → slice_get cells i ≡ Some c → term_at cells (suc i) ≡ Node c.symbol (term_at cells c.first) (term_at cells c.second)
  term-cell i c e = get_is (terms_of cells) (suc i) _ Leaf (term_is cells i c low e)

module _ (marks : List Bool) (cells : List Cell) (low : AreEarlier cells) where
  -- What labels mean before others.
  module _ (ranks : List ℕ) (flat : AreRankless ranks) (fs : List (List Term → Term)) where
    call-means : (number k : ℕ) (ys : List Label) → AreCalled marks cells number fs → k < number → is_ruled marks cells k ≡ true
        → meanings term_algebra ranks fs [] (Call (rule_place marks cells k) ∷ ys) [] ≡ term_at cells k ∷ meanings term_algebra ranks fs [] ys []
    call-means number k ys called h r =
        let rest = meanings term_algebra ranks fs [] ys [] in
        ap (λ a. get_or fs (rule_place marks cells k) no_meaning (take a rest) ∷ drop a rest) (flat (rule_place marks cells k)) ∙ ap (λ t. t ∷ rest) (called k h r)

    body-means : (c : Cell) (i : ℕ) → slice_get cells i ≡ Some c
        → ((ys : List Label) → meanings term_algebra ranks fs [] (part_at marks cells c.first ++ ys) [] ≡ term_at cells c.first ∷ meanings term_algebra ranks fs [] ys [])
        → ((ys : List Label) → meanings term_algebra ranks fs [] (part_at marks cells c.second ++ ys) [] ≡ term_at cells c.second ∷ meanings term_algebra ranks fs [] ys [])
        → (ys : List Label) → meanings term_algebra ranks fs [] (body_of marks cells c ++ ys) [] ≡ term_at cells (suc i) ∷ meanings term_algebra ranks fs [] ys []
    body-means c i e f s ys =
        let rest = meanings term_algebra ranks fs [] ys [] in
        let all : meanings term_algebra ranks fs [] ((part_at marks cells c.first ++ part_at marks cells c.second) ++ ys) [] ≡ term_at cells c.first ∷ term_at cells c.second ∷ rest =
        ap (λ ls. meanings term_algebra ranks fs [] ls []) (append_assoc (part_at marks cells c.first) (part_at marks cells c.second) ys) ∙ f (part_at marks cells c.second ++ ys) ∙ ap (λ ms. term_at cells c.first ∷ ms) (s ys) in
        ap (λ (ms : List Term). apply term_algebra fs (Symbol c.symbol) (take 2 ms) ∷ drop 2 ms) all ∙ ap (λ t. t ∷ rest) (sym (term-cell cells low i c e))

    -- what stands for a number means its term
    part-means : (bound number k : ℕ) → k < bound → k < number → k ≤ length cells → AreCalled marks cells number fs
        → (ys : List Label) → meanings term_algebra ranks fs [] (part_at marks cells k ++ ys) [] ≡ term_at cells k ∷ meanings term_algebra ranks fs [] ys []
    part-means zero number k b h there called ys = absurd (omega (arith, b))
    part-means (suc bound) number zero b h there called ys =
        ap (λ ls. meanings term_algebra ranks fs [] (ls ++ ys) []) (part-zero marks cells) ∙ ap (λ t. t ∷ meanings term_algebra ranks fs [] ys []) (sym (term-zero cells low))
    part-means (suc bound) number (suc i) b h there called ys =
        let c : Cell = get_or cells i no_cell in
        let here : slice_get cells i ≡ Some c = has_get cells i no_cell (omega (arith, there)) in
        let l = low i c here in
        elim (ruled_or marks cells (suc i)) [
          | inl r ↦ ap (λ ls. meanings term_algebra ranks fs [] (ls ++ ys) []) (part-ruled marks cells i c low here r) ∙ call-means number (suc i) ys called h r
          | inr r ↦ ap (λ ls. meanings term_algebra ranks fs [] (ls ++ ys) []) (part-whole marks cells i c low here r)
              ∙ body-means c i here (part-means bound number c.first (omega (arith, l.0, b)) (omega (arith, l.0, h)) (omega (arith, l.0, there)) called)
              (part-means bound number c.second (omega (arith, l.1, b)) (omega (arith, l.1, h)) (omega (arith, l.1, there)) called) ys
        ]

    -- the body of a cell means its term, where the rules of earlier numbers are there
    rule-means : (i : ℕ) (c : Cell) → slice_get cells i ≡ Some c → AreCalled marks cells (suc i) fs → meaning term_algebra ranks fs (body_of marks cells c) [] ≡ term_at cells (suc i)
    rule-means i c e called =
        let l = low i c e in
        let there = got_within cells i c e in
        ap (λ ls. get_or (meanings term_algebra ranks fs [] ls []) 0 Leaf) (sym (append-nil (body_of marks cells c)))
        ∙ ap (λ (ms : List Term). get_or ms 0 Leaf)
        (body-means c i e (part-means (suc i) (suc i) c.first (omega (arith, l.0)) (omega (arith, l.0)) (omega (arith, l.0, there)) called)
        (part-means (suc i) (suc i) c.second (omega (arith, l.1)) (omega (arith, l.1)) (omega (arith, l.1, there)) called) [])

  -- the cells from one on
  abbrev AreRest : ℕ → List Cell → Type 0
  AreRest at cs = (i : ℕ) (c : Cell) → slice_get cs i ≡ Some c → slice_get cells (at + i) ≡ Some c

  rest-next : (at : ℕ) (c : Cell) (cs : List Cell) → AreRest at (c ∷ cs) → AreRest (suc at) cs
  rest-next at c cs rest i d e = let n : at + suc i ≡ suc at + i = omega arith in subst (λ k. slice_get cells k ≡ Some d) n (rest (suc i) d e)

  rest-first : (at : ℕ) (c : Cell) (cs : List Cell) → AreRest at (c ∷ cs) → slice_get cells at ≡ Some c
  rest-first at c cs rest = let n : at + 0 ≡ at = omega arith in subst (λ k. slice_get cells k ≡ Some c) n (rest 0 c refl)

  pub rest-all : AreRest 0 cells
  rest-all i c e = let n : i ≡ 0 + i = omega arith in subst (λ k. slice_get cells k ≡ Some c) n e

  -- the rules of numbers below another come before its own
  pub place-below : (k m : ℕ) → k < m → is_ruled marks cells k ≡ true → rule_place marks cells k < rule_place marks cells m
  place-below k zero h r = absurd (omega (arith, h))
  place-below k (suc m) h r =
      elim (cases k m h) [
        | inl l ↦ omega (arith, place-below k m l r)
        | inr e ↦ let one : one_if (is_ruled marks cells m) ≡ 1 = ap (λ j. one_if (is_ruled marks cells j)) (sym e) ∙ ap one_if r in omega (arith, one, ap (rule_place marks cells) e)
      ]
    where
      cases : (k m : ℕ) → k < suc m → (k < m) ⊎ (k ≡ m)
      cases zero zero h = inr refl
      cases zero (suc m) h = inl (omega arith)
      cases (suc k) zero h = absurd (omega (arith, h))
      cases (suc k) (suc m) h = elim (cases k m (omega (arith, h))) [ inl l ↦ inl (omega (arith, l)) | inr e ↦ inr (ap suc e) ]

  more-called : (i : ℕ) (fs : List (List Term → Term)) (f : List Term → Term) → length fs ≡ rule_place marks cells (suc i) → AreCalled marks cells (suc i) fs → f [] ≡ term_at cells (suc i) → AreCalled marks cells (suc (suc i)) (fs ++ f ∷ [])
  more-called i fs f n called is k h r =
      elim (cases k h) [
        | inl l ↦ ap (λ (g : List Term → Term). g []) (get-front fs f no_meaning (rule_place marks cells k) (omega (arith, n, place-below k (suc i) l r))) ∙ called k l r
        | inr e ↦ ap (λ (g : List Term → Term). g []) (get-last fs f no_meaning (rule_place marks cells k) (ap (rule_place marks cells) e ∙ sym n)) ∙ is ∙ ap (term_at cells) (sym e)
      ]
    where
      cases : (k : ℕ) → k < suc (suc i) → (k < suc i) ⊎ (k ≡ suc i)
      cases k h = elim (eqb_tells k (suc i)) [ inl w ↦ inr w.1 | inr w ↦ let n = w.1 in inl (omega (arith, h, n)) ]

      get-last : {X : Type 0} (xs : List X) (x d : X) (n : ℕ) → n ≡ length xs → get_or (xs ++ x ∷ []) n d ≡ x
      get-last [] x d zero e = refl
      get-last [] x d (suc n) e = absurd (omega (arith, e))
      get-last (y ∷ xs) x d zero e = absurd (omega (arith, e))
      get-last (y ∷ xs) x d (suc n) e = get-last xs x d n (omega (arith, e))

      get-front : {X : Type 0} (xs : List X) (x d : X) (n : ℕ) → n < length xs → get_or (xs ++ x ∷ []) n d ≡ get_or xs n d
      get-front [] x d n h = absurd (omega (arith, h))
      get-front (y ∷ xs) x d zero h = refl
      get-front (y ∷ xs) x d (suc n) h = get-front xs x d n (omega (arith, h))

  other-called : (i : ℕ) (fs : List (List Term → Term)) → AreCalled marks cells (suc i) fs → is_ruled marks cells (suc i) ≡ false → AreCalled marks cells (suc (suc i)) fs
  other-called i fs called r k h ruled =
      elim (eqb_tells k (suc i)) [
        | inl w ↦ let no : is_ruled marks cells k ≡ false = ap (is_ruled marks cells) w.1 ∙ r in cc
        | inr w ↦ let ne = w.1 in called k (omega (arith, h, ne)) ruled
      ]

  -- what the rules mean
  rules-mean : (ranks : List ℕ) → AreRankless ranks → (at : ℕ) (cs : List Cell) (fs : List (List Term → Term)) → AreRest at cs → length fs ≡ rule_place marks cells (suc at) → AreCalled marks cells (suc at) fs
      → AreCalled marks cells (length cs + suc at) (rule_meanings term_algebra ranks fs (rules_for marks cells (suc at) cs))
  rules-mean ranks flat at [] fs rest n called = let m : suc at ≡ 0 + suc at = omega arith in subst (λ k. AreCalled marks cells k fs) m called
  rules-mean ranks flat at (c ∷ cs) fs rest n called =
      let m : length cs + suc (suc at) ≡ length (c ∷ cs) + suc at = omega arith in
      let f : List Term → Term = meaning term_algebra ranks fs (body_of marks cells c) in
      elim (ruled_or marks cells (suc at)) [
        | inl r ↦ let one : one_if (is_ruled marks cells (suc at)) ≡ 1 = ap one_if r in
            let longer : length (fs ++ f ∷ []) ≡ rule_place marks cells (suc (suc at)) = omega (arith, length-append fs (f ∷ []), n, one) in
            subst (λ G. AreCalled marks cells (length (c ∷ cs) + suc at) (rule_meanings term_algebra ranks fs G)) (sym (with_rule marks cells (suc at) c cs r))
            (subst (λ k. AreCalled marks cells k (rule_meanings term_algebra ranks (fs ++ f ∷ []) (rules_for marks cells (suc (suc at)) cs))) m
            (rules-mean ranks flat (suc at) cs (fs ++ f ∷ []) (rest-next at c cs rest) longer (more-called at fs f n called (rule-means ranks flat fs at c (rest-first at c cs rest) called))))
        | inr r ↦ let one : one_if (is_ruled marks cells (suc at)) ≡ 0 = ap one_if r in
            let same : length fs ≡ rule_place marks cells (suc (suc at)) = omega (arith, n, one) in
            subst (λ G. AreCalled marks cells (length (c ∷ cs) + suc at) (rule_meanings term_algebra ranks fs G)) (sym (without_rule marks cells (suc at) c cs r))
            (subst (λ k. AreCalled marks cells k (rule_meanings term_algebra ranks fs (rules_for marks cells (suc (suc at)) cs))) m
            (rules-mean ranks flat (suc at) cs fs (rest-next at c cs rest) same (other-called at fs called r)))
      ]

  -- Rules without parameters, each over rules before it, from one place on.
  record IsPlain (place : ℕ) (R : Rule) : Type 0 where
    rank : R.rank ≡ 0
    earlier : CallsBelow place R.body
    term : (ranks : List ℕ) → AreRankless ranks → IsTerm ranks R.body
    linear : params R.body ≡ 0

  abbrev ArePlain : ℕ → List Rule → Type 0
  ArePlain place [] = Unit {0}
  ArePlain place (R ∷ G) = IsPlain place R × ArePlain (suc place) G

  record IsPart (place : ℕ) (ls : List Label) : Type 0 where
    earlier : CallsBelow place ls
    term : (ranks : List ℕ) → AreRankless ranks → IsTerm ranks ls
    linear : params ls ≡ 0

  part-over : (place f : ℕ) (xs ys : List Label) → IsPart place xs → IsPart place ys → IsPart place (Symbol f ∷ (xs ++ ys))
  part-over place f xs ys a b =
      record {
        earlier = CallsBelow-append place xs ys a.earlier b.earlier;
        term = λ ranks flat. AreTerms-append (arity ranks) 1 1 xs ys (a.term ranks flat) (b.term ranks flat);
        linear = omega (arith, params-append xs ys, a.linear, b.linear);
      }

  part-call : (place q : ℕ) → q < place → IsPart place (Call q ∷ [])
  part-call place q h =
      record {
        earlier = (h, tt);
        term = λ ranks flat. subst (λ a. AreTerms (arity ranks) (a + 0) []) (sym (flat q)) tt;
        linear = refl;
      }

  part-plain : (bound number k : ℕ) → k < bound → k < number → k ≤ length cells → IsPart (rule_place marks cells number) (part_at marks cells k)
  part-plain zero number k b h there = absurd (omega (arith, b))
  part-plain (suc bound) number zero b h there = subst (IsPart (rule_place marks cells number)) (sym (part-zero marks cells)) (record { earlier = tt; term = λ ranks flat. tt; linear = refl })
  part-plain (suc bound) number (suc i) b h there =
      let c : Cell = get_or cells i no_cell in
      let here : slice_get cells i ≡ Some c = has_get cells i no_cell (omega (arith, there)) in
      let l = low i c here in
      let place = rule_place marks cells number in
      elim (ruled_or marks cells (suc i)) [
        | inl r ↦ subst (IsPart place) (sym (part-ruled marks cells i c low here r)) (part-call place (rule_place marks cells (suc i)) (place-below (suc i) number h r))
        | inr r ↦ subst (IsPart place) (sym (part-whole marks cells i c low here r))
            (part-over place c.symbol (part_at marks cells c.first) (part_at marks cells c.second)
            (part-plain bound number c.first (omega (arith, l.0, b)) (omega (arith, l.0, h)) (omega (arith, l.0, there)))
            (part-plain bound number c.second (omega (arith, l.1, b)) (omega (arith, l.1, h)) (omega (arith, l.1, there))))
      ]

  body-plain : (i : ℕ) (c : Cell) → slice_get cells i ≡ Some c → IsPart (rule_place marks cells (suc i)) (body_of marks cells c)
  body-plain i c e =
      let l = low i c e in
      let there = got_within cells i c e in
      part-over (rule_place marks cells (suc i)) c.symbol (part_at marks cells c.first) (part_at marks cells c.second)
      (part-plain (suc i) (suc i) c.first (omega (arith, l.0)) (omega (arith, l.0)) (omega (arith, l.0, there)))
      (part-plain (suc i) (suc i) c.second (omega (arith, l.1)) (omega (arith, l.1)) (omega (arith, l.1, there)))

  rules-plain : (at : ℕ) (cs : List Cell) → AreRest at cs → ArePlain (rule_place marks cells (suc at)) (rules_for marks cells (suc at) cs)
  rules-plain at [] rest = tt
  rules-plain at (c ∷ cs) rest =
      let place = rule_place marks cells (suc at) in
      elim (ruled_or marks cells (suc at)) [
        | inl r ↦ let one : one_if (is_ruled marks cells (suc at)) ≡ 1 = ap one_if r in
            let next : rule_place marks cells (suc (suc at)) ≡ suc place = omega (arith, one) in
            let p = body-plain at c (rest-first at c cs rest) in
            subst (ArePlain place) (sym (with_rule marks cells (suc at) c cs r)) (
              record { rank = refl; earlier = p.earlier; term = p.term; linear = p.linear },
              subst (λ q. ArePlain q (rules_for marks cells (suc (suc at)) cs)) next (rules-plain (suc at) cs (rest-next at c cs rest)),
            )
        | inr r ↦ let one : one_if (is_ruled marks cells (suc at)) ≡ 0 = ap one_if r in
            let next : rule_place marks cells (suc (suc at)) ≡ place = omega (arith, one) in
            subst (ArePlain place) (sym (without_rule marks cells (suc at) c cs r))
            (subst (λ q. ArePlain q (rules_for marks cells (suc (suc at)) cs)) next (rules-plain (suc at) cs (rest-next at c cs rest)))
      ]

  plain-rankless : (place : ℕ) (G : List Rule) → ArePlain place G → AreRankless (ranks_of G)
  plain-rankless place [] p q = refl
  plain-rankless place (R ∷ G) p zero = p.0.rank
  plain-rankless place (R ∷ G) p (suc q) = plain-rankless (suc place) G p.1 q

  plain-at : (place : ℕ) (G : List Rule) → ArePlain place G → (r : ℕ) → r < length G → IsPlain (place + r) (get_or G r no_rule)
  plain-at place [] p r h = absurd (omega (arith, h))
  plain-at place (R ∷ G) p zero h = let n : place ≡ place + 0 = omega arith in subst (λ q. IsPlain q R) n p.0
  plain-at place (R ∷ G) p (suc r) h =
      let n : suc place + r ≡ place + suc r = omega arith in subst (λ q. IsPlain q (get_or G r no_rule)) n (plain-at (suc place) G p.1 r (omega (arith, h)))

  all-plain : ArePlain 0 (rules_of_cells marks cells)
  all-plain = rules-plain 0 cells rest-all

  -- the last number has a rule
  pub last-ruled : (m : ℕ) → length cells ≡ suc m → is_ruled marks cells (suc m) ≡ true
  last-ruled m n = ap (λ b. b || get_or marks (suc m) false) (eq-eqb (suc m) (length cells) (sym n))

  pub rules-count : (m : ℕ) → length cells ≡ suc m → length (rules_of_cells marks cells) ≡ suc (rule_place marks cells (suc m))
  rules-count m n =
      let all = rules-length marks cells 1 cells in
      let one : one_if (is_ruled marks cells (suc m)) ≡ 1 = ap one_if (last-ruled m n) in
      let end : length cells + 1 ≡ suc (suc m) = omega (arith, n) in
      omega (arith, all, one, ap (rule_place marks cells) end)

  pub rules-grammar : (m : ℕ) → length cells ≡ suc m → IsGrammar (rules_of_cells marks cells)
  rules-grammar m n =
      let G = rules_of_cells marks cells in record {
        some = omega (arith, rules-count m n);
        each = λ r h.
            let p = subst (λ q. IsPlain q (get_or G r no_rule)) (let z : 0 + r ≡ r = omega arith in z) (plain-at 0 G all-plain r h) in
            record {
              earlier = p.earlier;
              shaped = record {
                term = p.term (ranks_of G) (plain-rankless 0 G all-plain);
                small = omega (arith, p.rank);
                start = λ _. p.rank;
              };
              linear = p.linear ∙ sym p.rank;
            };
      }

  pub rules-value : (m : ℕ) → length cells ≡ suc m → value (rules_of_cells marks cells) ≡ term_at cells (length cells)
  rules-value m n =
      let G = rules_of_cells marks cells in
      let flat = plain-rankless 0 G all-plain in
      let count = rules-count m n in
      let last : length G - 1 ≡ rule_place marks cells (suc m) = omega (arith, count) in
      let p = plain-at 0 G all-plain (length G - 1) (omega (arith, count)) in
      let rank : rank_at G (length G - 1) ≡ 0 = p.rank in
      let called = rules-mean (ranks_of G) flat 0 cells [] rest-all refl (λ k h r. absurd (none k h r)) in
      ap (λ r. get_or (rule_meanings term_algebra (ranks_of G) [] G) (length G - 1) no_meaning (holes 0 r)) rank
      ∙ ap (λ q. get_or (rule_meanings term_algebra (ranks_of G) [] G) q no_meaning []) last ∙ called (suc m) (omega (arith, n)) (last-ruled m n) ∙ ap (term_at cells) (sym n)
    where
      none : (k : ℕ) → k < 1 → is_ruled marks cells k ≡ true → ⊥
      none zero h r = cc
      none (suc k) h r = omega (arith, h)
