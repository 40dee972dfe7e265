-- What stands for a number, and how a body is written.
use Rattle.std.proofs.Common.{◌≡◌, ℕ, zero, suc, ◌+◌, ◌<◌, ◌≤◌, Bool, true, false, List, [], ◌∷◌, ◌++◌, length, take, replicate, Some, slice_get, slice_set, if◌then◌else◌, refl, ap, sym, ◌∙◌, subst, ◌⊎◌, inl, inr, arith, append_assoc, append-nil}
use Rattle.std.specs.Prelude.{Option, None}
use Rattle.std.proofs.lemmas.Bool.Decides.{eqb_tells}
use Rattle.rule_arena.specs.declared.label.Label.{Label}
use Rattle.rule_arena.specs.declared.label.Label.TheVariants.{Bottom, Symbol, Call}
use Rattle.slt_grammar.specs.declared.rules.Rule.{Rule}
use Rattle.fcns_encoding.specs.Cells.{AreEarlier}
use Rattle.fcns_encoding.specs.Marks.{one_if}
use Rattle.fcns_encoding.specs.Sharing.{is_ruled, rule_place, part_of, part_at, body_of, rule_of, rules_for, ArePlaces, Stands, AreBelow, pending}
use Rattle.fcns_encoding.specs.declared.subterms.Cell.{Cell}
use Rattle.fcns_encoding.specs.declared.shared_rules.Written.TheVariants.{Whole, Over}
use Rattle.fcns_encoding.proofs.CellLemmas.{get_is, has_get, take-more, get_set, set_length, length_take, numbered_zero, numbered_is}

pub part-zero : (marks : List Bool) (cells : List Cell) → part_at marks cells 0 ≡ Bottom ∷ []
part-zero marks cells = get_is _ 0 (Bottom ∷ []) (Bottom ∷ []) (numbered_zero (Bottom ∷ []) (part_of marks cells) cells)

part-cell : (marks : List Bool) (cells : List Cell) (i : ℕ) (c : Cell) → AreEarlier cells → slice_get cells i ≡ Some c → part_at marks cells (suc i) ≡ part_of marks cells (suc i) c (part_at marks cells c.first) (part_at marks cells c.second)
part-cell marks cells i c low e = get_is _ (suc i) _ (Bottom ∷ []) (numbered_is (Bottom ∷ []) (part_of marks cells) cells i c low e)

-- what stands for a cell's number that has a rule
pub part-ruled : (marks : List Bool) (cells : List Cell) (i : ℕ) (c : Cell) → AreEarlier cells → slice_get cells i ≡ Some c → is_ruled marks cells (suc i) ≡ true → part_at marks cells (suc i) ≡ Call (rule_place marks cells (suc i)) ∷ []
part-ruled marks cells i c low e r =
    part-cell marks cells i c low e ∙ ap (λ b. if b then Call (rule_place marks cells (suc i)) ∷ [] else body_of marks cells c) r

-- and for one that has none
pub part-whole : (marks : List Bool) (cells : List Cell) (i : ℕ) (c : Cell) → AreEarlier cells → slice_get cells i ≡ Some c → is_ruled marks cells (suc i) ≡ false → part_at marks cells (suc i) ≡ body_of marks cells c
part-whole marks cells i c low e r =
    part-cell marks cells i c low e ∙ ap (λ b. if b then Call (rule_place marks cells (suc i)) ∷ [] else body_of marks cells c) r

module _ (marks : List Bool) (cells : List Cell) (low : AreEarlier cells) (at number : ℕ) (places : List (Option ℕ)) (are : ArePlaces marks cells at places) (below : number ≤ at) (there : number ≤ length cells) where
  -- a place that is there is that of the number's rule
  pub stands-call : (place : ℕ) → slice_get places number ≡ Some (Some place) → Stands marks cells number (Whole (Call place))
  stands-call place e = by_number number refl (is_ruled marks cells number) refl where
    by_number : (k : ℕ) → number ≡ k → (b : Bool) → is_ruled marks cells number ≡ b → part_at marks cells number ≡ Call place ∷ []
    by_number k is false r = let other = are.others number below r in cc
    by_number zero is true r = let none : is_ruled marks cells number ≡ false = ap (is_ruled marks cells) is in cc
    by_number (suc i) is true r =
        let here = has_get cells i (record { symbol = 0; first = 0; second = 0 }) (omega (arith, is, there)) in
        let ruled : is_ruled marks cells (suc i) ≡ true = ap (is_ruled marks cells) (sym is) ∙ r in
        let same : rule_place marks cells number ≡ place = (let known = are.ruled number below r in cc) in
        ap (part_at marks cells) is ∙ part-ruled marks cells i _ low here ruled ∙ ap (λ p. Call p ∷ []) (ap (rule_place marks cells) (sym is) ∙ same)

  no_rule : slice_get places number ≡ Some None → is_ruled marks cells number ≡ false
  no_rule e = by_test (is_ruled marks cells number) refl where
    by_test : (b : Bool) → is_ruled marks cells number ≡ b → is_ruled marks cells number ≡ false
    by_test true r = let known = are.ruled number below r in cc
    by_test false r = r

  -- where no place is, what stands for the number is the body of its cell
  pub stands-cell : (c : Cell) (i : ℕ) → number ≡ i + 1 → slice_get cells i ≡ Some c → slice_get places number ≡ Some None → Stands marks cells number (Over c)
  stands-cell c i is e p =
      let n : number ≡ suc i = omega (arith, is) in
      let none : is_ruled marks cells (suc i) ≡ false = ap (is_ruled marks cells) (sym n) ∙ no_rule p in
      let l = low i c e in (ap (part_at marks cells) n ∙ part-whole marks cells i c low e none, omega (arith, l.0, is), omega (arith, l.1, is))

pub pending-push : (marks : List Bool) (cells : List Cell) (ks : List ℕ) (k : ℕ) → pending marks cells (ks ++ k ∷ []) ≡ part_at marks cells k ++ pending marks cells ks
pending-push marks cells [] k = sym (append-nil (part_at marks cells k))
pending-push marks cells (j ∷ ks) k = ap (λ ls. ls ++ part_at marks cells j) (pending-push marks cells ks k) ∙ append_assoc (part_at marks cells k) (pending marks cells ks) (part_at marks cells j)

-- the top of the stack is one label
pub pending-whole : (marks : List Bool) (cells : List Cell) (all ks : List ℕ) (k : ℕ) (label : Label) → all ≡ ks ++ k ∷ [] → Stands marks cells k (Whole label) → pending marks cells all ≡ label ∷ pending marks cells ks
pending-whole marks cells all ks k label e s = ap (pending marks cells) e ∙ pending-push marks cells ks k ∙ ap (λ ls. ls ++ pending marks cells ks) s

-- a cell's body, before what stands for a stack
pub pending-body : (marks : List Bool) (cells : List Cell) (ks two : List ℕ) (c : Cell) → two ≡ (ks ++ c.second ∷ []) ++ c.first ∷ [] → body_of marks cells c ++ pending marks cells ks ≡ Symbol c.symbol ∷ pending marks cells two
pending-body marks cells ks two c e =
    ap (λ ls. Symbol c.symbol ∷ ls) (append_assoc (part_at marks cells c.first) (part_at marks cells c.second) (pending marks cells ks)
    ∙ ap (λ ls. part_at marks cells c.first ++ ls) (sym (pending-push marks cells ks c.second)) ∙ sym (ap (pending marks cells) e ∙ pending-push marks cells (ks ++ c.second ∷ []) c.first))

-- the top of the stack is a cell
pub pending-over : (marks : List Bool) (cells : List Cell) (all ks two : List ℕ) (k : ℕ) (c : Cell) → all ≡ ks ++ k ∷ [] → Stands marks cells k (Over c) → two ≡ (ks ++ c.second ∷ []) ++ c.first ∷ [] → pending marks cells all ≡ Symbol c.symbol ∷ pending marks cells two
pending-over marks cells all ks two k c e s f = ap (pending marks cells) e ∙ pending-push marks cells ks k ∙ ap (λ ls. ls ++ pending marks cells ks) s.0 ∙ pending-body marks cells ks two c f

-- one label more is written
pub writes-on : (body body' wait wait' whole : List Label) (label : Label) → body ++ wait ≡ whole → wait ≡ label ∷ wait' → body' ≡ body ++ label ∷ [] → body' ++ wait' ≡ whole
writes-on body body' wait wait' whole label h e b = ap (λ ls. ls ++ wait') b ∙ append_assoc body (label ∷ []) wait' ∙ ap (λ ls. body ++ ls) (sym e) ∙ h

pub below-push : (at : ℕ) (ks : List ℕ) (k : ℕ) → AreBelow at ks → k ≤ at → AreBelow at (ks ++ k ∷ [])
below-push at [] k a h = (h, tt)
below-push at (j ∷ ks) k a h = (a.0, below-push at ks k a.1 h)

pub below-pop : (at : ℕ) (all ks : List ℕ) (k : ℕ) → all ≡ ks ++ k ∷ [] → AreBelow at all → AreBelow at ks × (k ≤ at)
below-pop at all ks k e a = go ks (subst (AreBelow at) e a) where
  go : (ks : List ℕ) → AreBelow at (ks ++ k ∷ []) → AreBelow at ks × (k ≤ at)
  go [] a = (tt, a.0)
  go (j ∷ ks) a = let w = go ks a.1 in ((a.0, w.0), w.1)

pub below-over : (at : ℕ) (ks two : List ℕ) (k : ℕ) (c : Cell) → AreBelow at ks → k ≤ at → c.first ≤ k → c.second ≤ k → two ≡ (ks ++ c.second ∷ []) ++ c.first ∷ [] → AreBelow at two
below-over at ks two k c a h f s e =
    subst (AreBelow at) (sym e) (below-push at (ks ++ c.second ∷ []) c.first (below-push at ks c.second a (omega (arith, h, s))) (omega (arith, h, f)))

-- The rules of one cell more.
rules-append : (marks : List Bool) (all : List Cell) (number : ℕ) (xs : List Cell) (c : Cell) → rules_for marks all number (xs ++ c ∷ []) ≡ rules_for marks all number xs ++ (if is_ruled marks all (length xs + number) then rule_of marks all c ∷ [] else [])
rules-append marks all number [] c = let n : 0 + number ≡ number = omega arith in append-nil (if is_ruled marks all number then rule_of marks all c ∷ [] else []) ∙ ap (λ k. if is_ruled marks all k then rule_of marks all c ∷ [] else []) (sym n)
rules-append marks all number (x ∷ xs) c =
    let n : length xs + suc number ≡ length (x ∷ xs) + number = omega arith in
    let own : List Rule = if is_ruled marks all number then rule_of marks all x ∷ [] else [] in
    ap (λ G. own ++ G) (rules-append marks all (suc number) xs c ∙ ap (λ k. rules_for marks all (suc number) xs ++ (if is_ruled marks all k then rule_of marks all c ∷ [] else [])) n)
    ∙ sym (append_assoc own (rules_for marks all (suc number) xs) (if is_ruled marks all (length (x ∷ xs) + number) then rule_of marks all c ∷ [] else []))

pub rules-more : (marks : List Bool) (cells : List Cell) (i : ℕ) (c : Cell) → slice_get cells i ≡ Some c → rules_for marks cells 1 (take (i + 1) cells) ≡ rules_for marks cells 1 (take i cells) ++ (if is_ruled marks cells (i + 1) then rule_of marks cells c ∷ [] else [])
rules-more marks cells i c e =
    let n : length (take i cells) + 1 ≡ i + 1 = omega (arith, length_take cells i c e) in
    ap (rules_for marks cells 1) (take-more cells i c e) ∙ rules-append marks cells 1 (take i cells) c ∙ ap (λ k. rules_for marks cells 1 (take i cells) ++ (if is_ruled marks cells k then rule_of marks cells c ∷ [] else [])) n

-- a rule comes
pub rules-ruled : (marks : List Bool) (cells : List Cell) (i : ℕ) (c : Cell) (rules rules' : List Rule) (body : List Label) → slice_get cells i ≡ Some c → is_ruled marks cells (i + 1) ≡ true → rules ≡ rules_for marks cells 1 (take i cells)
    → body ≡ body_of marks cells c → rules' ≡ rules ++ record { rank = 0; body = body } ∷ [] → rules' ≡ rules_for marks cells 1 (take (i + 1) cells)
rules-ruled marks cells i c rules rules' body e r is b go =
    go ∙ ap (λ G. G ++ record { rank = 0; body = body } ∷ []) is ∙ ap (λ ls. rules_for marks cells 1 (take i cells) ++ record { rank = 0; body = ls } ∷ []) b
    ∙ sym (rules-more marks cells i c e ∙ ap (λ t. rules_for marks cells 1 (take i cells) ++ (if t then rule_of marks cells c ∷ [] else [])) r)

-- and none
pub rules-other : (marks : List Bool) (cells : List Cell) (i : ℕ) (c : Cell) (rules : List Rule) → slice_get cells i ≡ Some c → is_ruled marks cells (i + 1) ≡ false → rules ≡ rules_for marks cells 1 (take i cells)
    → rules ≡ rules_for marks cells 1 (take (i + 1) cells)
rules-other marks cells i c rules e r is =
    is ∙ sym (append-nil (rules_for marks cells 1 (take i cells))) ∙ sym (rules-more marks cells i c e ∙ ap (λ t. rules_for marks cells 1 (take i cells) ++ (if t then rule_of marks cells c ∷ [] else [])) r)

pub rules-length : (marks : List Bool) (all : List Cell) (number : ℕ) (cs : List Cell) → rule_place marks all number + length (rules_for marks all number cs) ≡ rule_place marks all (length cs + number)
rules-length marks all number [] = let n : 0 + number ≡ number = omega arith in omega (arith, ap (rule_place marks all) n)
rules-length marks all number (c ∷ cs) = by_test (is_ruled marks all number) refl (rules-length marks all (suc number) cs) where
  by_test : (b : Bool) → is_ruled marks all number ≡ b → rule_place marks all (suc number) + length (rules_for marks all (suc number) cs) ≡ rule_place marks all (length cs + suc number)
      → rule_place marks all number + length ((if b then rule_of marks all c ∷ [] else []) ++ rules_for marks all (suc number) cs) ≡ rule_place marks all (length (c ∷ cs) + number)
  by_test true e h =
      let n : length cs + suc number ≡ length (c ∷ cs) + number = omega arith in
      let one : rule_place marks all (suc number) ≡ rule_place marks all number + 1 = ap (λ b. rule_place marks all number + one_if b) e in
      omega (arith, h, one, ap (rule_place marks all) n)
  by_test false e h =
      let n : length cs + suc number ≡ length (c ∷ cs) + number = omega arith in
      let one : rule_place marks all (suc number) ≡ rule_place marks all number + 0 = ap (λ b. rule_place marks all number + one_if b) e in
      omega (arith, h, one, ap (rule_place marks all) n)

-- how many rules there are is the place of the next
pub next-place : (marks : List Bool) (cells : List Cell) (i : ℕ) (c : Cell) (rules : List Rule) (place : ℕ) → slice_get cells i ≡ Some c → rules ≡ rules_for marks cells 1 (take i cells) → place ≡ length rules → place ≡ rule_place marks cells (i + 1)
next-place marks cells i c rules place e is p =
    let n : length (take i cells) + 1 ≡ i + 1 = omega (arith, length_take cells i c e) in
    omega (arith, p, ap length is, rules-length marks cells 1 (take i cells), ap (rule_place marks cells) n)

replicate-get : {X : Type 0} (n k : ℕ) (x : X) → k < n → slice_get (replicate n x) k ≡ Some x
replicate-get zero k x h = absurd (omega (arith, h))
replicate-get (suc n) zero x h = refl
replicate-get (suc n) (suc k) x h = replicate-get n k x (omega (arith, h))

replicate-length : {X : Type 0} (n : ℕ) (x : X) → length (replicate n x) ≡ n
replicate-length zero x = refl
replicate-length (suc n) x = ap suc (replicate-length n x)

abbrev no_place : Option ℕ
no_place = None

-- before any rule
pub places-none : (marks : List Bool) (cells : List Cell) (places : List (Option ℕ)) (n : ℕ) → places ≡ replicate n None → 0 < n → ArePlaces marks cells 0 places
places-none marks cells places n e some = record {
  ruled = λ k h r. let z : k ≡ 0 = omega (arith, h) in let f : is_ruled marks cells k ≡ false = ap (is_ruled marks cells) z in cc;
  others = λ k h r. here k (omega (arith, h, some));
  later = λ k h l. here k (omega (arith, l, ap length e, replicate-length n no_place));
}
  where
    here : (k : ℕ) → k < n → slice_get places k ≡ Some None
    here k h = ap (λ ps. slice_get ps k) e ∙ replicate-get n k no_place h

-- A number has a rule, and its place is kept.
pub places-ruled : (marks : List Bool) (cells : List Cell) (at place : ℕ) (places places' : List (Option ℕ)) → ArePlaces marks cells at places → at + 1 < length places → is_ruled marks cells (at + 1) ≡ true → place ≡ rule_place marks cells (at + 1)
    → places' ≡ slice_set places (at + 1) (Some place) → ArePlaces marks cells (at + 1) places'
places-ruled marks cells at place places places' are there r p e =
    record {
      ruled = λ k h ruled. elim (set k (omega (arith, h, there))) [
        | inl w ↦ w.1 ∙ ap (λ q. Some (Some q)) (p ∙ ap (rule_place marks cells) w.0)
        | inr w ↦ w.1 ∙ are.ruled k (lower k h w.0) ruled
      ];
      others = λ k h none. elim (set k (omega (arith, h, there))) [
        | inl w ↦ let yes : is_ruled marks cells k ≡ true = ap (is_ruled marks cells) (sym w.0) ∙ r in cc
        | inr w ↦ w.1 ∙ are.others k (lower k h w.0) none
      ];
      later = λ k h l. elim (set k (omega (arith, l, longer))) [ inl w ↦ absurd (omega (arith, w.0, h)) | inr w ↦ w.1 ∙ are.later k (omega (arith, h)) (omega (arith, l, longer)) ];
    }
  where
    longer : length places' ≡ length places
    longer = ap length e ∙ set_length places (at + 1) (Some place)

    lower : (k : ℕ) → k ≤ at + 1 → (at + 1 ≡ k → ⊥) → k ≤ at
    lower k h n = omega (arith, h, n)

    set : (k : ℕ) → k < length places → ((at + 1 ≡ k) × (slice_get places' k ≡ Some (Some place))) ⊎ ((at + 1 ≡ k → ⊥) × (slice_get places' k ≡ slice_get places k))
    set k h = elim (get_set places (at + 1) k (Some place) h) [ inl w ↦ inl (w.0, ap (λ ps. slice_get ps k) e ∙ w.1) | inr w ↦ inr (w.0, ap (λ ps. slice_get ps k) e ∙ w.1) ]

-- A number has no rule.
pub places-other : (marks : List Bool) (cells : List Cell) (at : ℕ) (places : List (Option ℕ)) → ArePlaces marks cells at places → at + 1 < length places → is_ruled marks cells (at + 1) ≡ false → ArePlaces marks cells (at + 1) places
places-other marks cells at places are there r = record {
  ruled = λ k h ruled. elim (cases k h) [ inl l ↦ are.ruled k l ruled | inr e ↦ let no : is_ruled marks cells k ≡ false = ap (is_ruled marks cells) e ∙ r in cc ];
  others = λ k h none. elim (cases k h) [ inl l ↦ are.others k l none | inr e ↦ are.later k (omega (arith, e)) (omega (arith, e, there)) ];
  later = λ k h l. are.later k (omega (arith, h)) l;
}
  where
    cases : (k : ℕ) → k ≤ at + 1 → (k ≤ at) ⊎ (k ≡ at + 1)
    cases k h = elim (eqb_tells k (at + 1)) [ inl w ↦ inr w.1 | inr w ↦ let n = w.1 in inl (omega (arith, h, n)) ]
