-- Notes that are kept.
use Rattle.std.proofs.Common.{◌≡◌, ◌<◌, ℕ, zero, suc, List, [], ◌∷◌, ◌++◌, length, set, reverse, replicate, Option, Some, slice_get, slice_range, All, refl, sym, ap, ◌∙◌, arith, subst, ◌≤◌, ◌+◌, sum_by, None, option_map}
use Rattle.std.proofs.lemmas.List.{length-set, length-append, length-replicate, map-append, map-set}
use Rattle.std.proofs.lemmas.List.Elements.{All-head, All-set, All-tail, All-weaker}
use Rattle.std.proofs.lemmas.List.Sums.{sum_by-append}
use Rattle.slt_grammar.specs.Algebras.{Algebra}
use Rattle.slt_grammar.specs.Grammars.{body_at}
use Rattle.slt_grammar.specs.declared.rules.Rule.{Rule}
use Rattle.rule_runs.specs.Reached.{RuleStates}
use Rattle.rule_runs.specs.declared.span.Span.{Span}
use Rattle.rule_runs.specs.declared.notes.Note.{Note}
use Rattle.rule_runs.specs.Notes.{AreNotes, AreNoted, AreKept, HasBody, IsWithin, either, kept_of, unread}
use Rattle.rule_runs.specs.Risen.{pair_at}
use Rattle.rule_runs.proofs.Spans.{range-more, range-new, lies-more}

pub set-there : {X : Type 0} (xs : List X) (j : ℕ) (x : X) → j < length xs → slice_get (set xs j x) j ≡ Some x
set-there [] j x h = absurd (omega arith)
set-there (y ∷ xs) zero x h = refl
set-there (y ∷ xs) (suc j) x h = set-there xs j x (omega arith)

-- what holds of all that is there holds still where one thing more of which it holds is put
set-holds : {X : Type 0} (P : ℕ → X → Type 0) (ms : List (Option X)) (j : ℕ) (x : X) → ((i : ℕ) (y : X) → slice_get ms i ≡ Some (Some y) → P i y) → P j x → (i : ℕ) (y : X) → slice_get (set ms j (Some x)) i ≡ Some (Some y) → P i y
set-holds P [] j x h p i y e = absurd (cc)
set-holds P (m ∷ ms) zero x h p zero y e = let q : x ≡ y = cc in subst (P 0) q p
set-holds P (m ∷ ms) zero x h p (suc i) y e = h (suc i) y e
set-holds P (m ∷ ms) (suc j) x h p zero y e = h 0 y e
set-holds P (m ∷ ms) (suc j) x h p (suc i) y e = set-holds (λ k. P (suc k)) ms j x (λ k. h (suc k)) p i y e

-- no body is lost
pub has-set : {S : Type 0} (kept : List (Option (List (Note S)))) (j : ℕ) (notes : List (Note S)) (i : ℕ) → HasBody kept i → HasBody (set kept j (Some notes)) i
has-set [] j notes i h = h
has-set (m ∷ ms) zero notes zero h = (notes, refl)
has-set (m ∷ ms) zero notes (suc i) h = h
has-set (m ∷ ms) (suc j) notes zero h = h
has-set (m ∷ ms) (suc j) notes (suc i) h = has-set ms j notes i h

either-length : {X : Type 0} (xs ys : List (Option X)) → length xs ≤ length ys → length (either xs ys) ≡ length ys
either-length [] ys l = refl
either-length (x ∷ xs) [] l = absurd (omega arith)
either-length (Some x ∷ xs) (y ∷ ys) l = ap suc (either-length xs ys (omega arith))
either-length (None ∷ xs) (y ∷ ys) l = ap suc (either-length xs ys (omega arith))

-- what is kept with a list that keeps nothing
either-none : {X : Type 0} (xs : List (Option X)) (n i : ℕ) (x : X) → length xs ≤ n → slice_get (either xs (replicate n None)) i ≡ Some (Some x) → slice_get xs i ≡ Some (Some x)
either-none [] zero i x l e = absurd (cc)
either-none [] (suc n) zero x l e = absurd (cc)
either-none [] (suc n) (suc i) x l e = absurd (let r = either-none [] n i x (omega arith) e in cc)
either-none (v ∷ xs) zero i x l e = absurd (omega arith)
either-none (Some v ∷ xs) (suc n) zero x l e = e
either-none (Some v ∷ xs) (suc n) (suc i) x l e = either-none xs n i x (omega arith) e
either-none (None ∷ xs) (suc n) zero x l e = absurd (cc)
either-none (None ∷ xs) (suc n) (suc i) x l e = either-none xs n i x (omega arith) e

pub either-first : {X : Type 0} (xs ys : List (Option X)) (i : ℕ) (x : X) → slice_get xs i ≡ Some (Some x) → slice_get (either xs ys) i ≡ Some (Some x)
either-first [] ys i x e = absurd (cc)
either-first (v ∷ xs) [] i x e = e
either-first (Some v ∷ xs) (y ∷ ys) zero x e = e
either-first (Some v ∷ xs) (y ∷ ys) (suc i) x e = either-first xs ys i x e
either-first (None ∷ xs) (y ∷ ys) zero x e = absurd (cc)
either-first (None ∷ xs) (y ∷ ys) (suc i) x e = either-first xs ys i x e

-- what is put on the second list where the first keeps nothing
either-set : {X : Type 0} (xs ys : List (Option X)) (j : ℕ) (x : X) → ((v : X) → slice_get xs j ≡ Some (Some v) → ⊥) → j < length ys → either xs (set ys j (Some x)) ≡ set (either xs ys) j (Some x)
either-set [] ys j x n l = refl
either-set (v ∷ xs) [] j x n l = absurd (omega arith)
either-set (Some v ∷ xs) (y ∷ ys) zero x n l = absurd (n v refl)
either-set (Some v ∷ xs) (y ∷ ys) (suc j) x n l = ap (λ zs. Some v ∷ zs) (either-set xs ys j x n (omega arith))
either-set (None ∷ xs) (y ∷ ys) zero x n l = refl
either-set (None ∷ xs) (y ∷ ys) (suc j) x n l = ap (λ zs. y ∷ zs) (either-set xs ys j x n (omega arith))

pub either-second : {X : Type 0} (xs ys : List (Option X)) (i : ℕ) (x : X) → ((v : X) → slice_get xs i ≡ Some (Some v) → ⊥) → slice_get ys i ≡ Some (Some x) → slice_get (either xs ys) i ≡ Some (Some x)
either-second [] ys i x n e = e
either-second (v ∷ xs) [] i x n e = absurd (cc)
either-second (Some v ∷ xs) (y ∷ ys) zero x n e = absurd (n v refl)
either-second (Some v ∷ xs) (y ∷ ys) (suc i) x n e = either-second xs ys i x n e
either-second (None ∷ xs) (y ∷ ys) zero x n e = e
either-second (None ∷ xs) (y ∷ ys) (suc i) x n e = either-second xs ys i x n e

-- what neither list keeps
pub neither : {X : Type 0} (xs ys : List (Option X)) (i : ℕ) (x : X) → ((v : X) → slice_get xs i ≡ Some (Some v) → ⊥) → ((v : X) → slice_get ys i ≡ Some (Some v) → ⊥) → slice_get (either xs ys) i ≡ Some (Some x) → ⊥
neither [] ys i x n m e = m x e
neither (v ∷ xs) [] i x n m e = n x e
neither (Some v ∷ xs) (y ∷ ys) zero x n m e = n v refl
neither (Some v ∷ xs) (y ∷ ys) (suc i) x n m e = neither xs ys i x n m e
neither (None ∷ xs) (y ∷ ys) zero x n m e = m x e
neither (None ∷ xs) (y ∷ ys) (suc i) x n m e = neither xs ys i x n m e

-- what is read, beside what is noted
module _ {S : Type 0} (noted own kept : List (Option (List (Note S)))) (both : either noted own ≡ kept) (longer : length noted ≤ length own) where
  pub own-length : length own ≡ length kept
  own-length = sym (either-length noted own longer) ∙ ap length both

  pub own-set : (new : List (Option (List (Note S)))) (j : ℕ) (notes : List (Note S)) → j < length kept → (HasBody kept j → ⊥) → new ≡ set own j (Some notes) → either noted new ≡ set kept j (Some notes)
  own-set new j notes l none e =
      ap (either noted) e
      ∙ either-set noted own j notes (λ v h. none (v, ap (λ ms. slice_get ms j) (sym both) ∙ either-first noted own j v h)) (omega (arith, own-length))
      ∙ ap (λ ms. set ms j (Some notes)) both

module _ {S : Type 0} (A : Algebra S) (G : List Rule) (ks : List (RuleStates S)) where
  pub kept-set : (kept : List (Option (List (Note S)))) (j : ℕ) (notes : List (Note S)) → AreKept A G ks kept → AreNotes A G ks (pair_at ks j).1 (body_at G (pair_at ks j).0) (reverse notes) → AreKept A G ks (set kept j (Some notes))
  kept-set kept j notes h n = record {
    rows = length-set kept j (Some notes) ∙ h.rows;
    noted = set-holds (λ i (v : List (Note S)). AreNotes A G ks (pair_at ks i).1 (body_at G (pair_at ks i).0) (reverse v)) kept j notes h.noted n;
  }

  -- nothing is read yet: what is kept is what was noted
  pub kept-noted : (kept : List (Option (List (Note S)))) (n : ℕ) → length ks ≡ n → AreNoted A G ks kept → AreKept A G ks (either kept (replicate n None))
  kept-noted kept n l h =
      let own : List (Option (List (Note S))) = replicate n None in
      let rows : length own ≡ n = length-replicate n None in
      record {
        rows = either-length kept own (omega (arith, rows, h.within)) ∙ rows ∙ sym l;
        noted = λ i notes e. h.noted i notes (either-none kept n i notes (omega (arith, h.within)) e);
      }

module _ {S : Type 0} (G : List Rule) where
  -- the bodies that are not kept are some of all bodies
  pub unread-most : (ks : List (RuleStates S)) (ms : List (Option (List (Note S)))) → unread G ks ms ≤ sum_by (λ k. length (body_at G k.0)) ks
  unread-most [] ms = omega arith
  unread-most (k ∷ ks) [] = omega (arith, unread-most ks [], sum_by-append (λ (k : RuleStates S). length (body_at G k.0)) (k ∷ []) ks)
  unread-most (k ∷ ks) (None ∷ ms) = omega (arith, unread-most ks ms, sum_by-append (λ (k : RuleStates S). length (body_at G k.0)) (k ∷ []) ks)
  unread-most (k ∷ ks) (Some notes ∷ ms) = omega (arith, unread-most ks ms, sum_by-append (λ (k : RuleStates S). length (body_at G k.0)) (k ∷ []) ks)

  -- one of them is read
  pub unread-set : (ks : List (RuleStates S)) (ms : List (Option (List (Note S)))) (j : ℕ) (notes : List (Note S)) → j < length ks → j < length ms → (HasBody ms j → ⊥)
      → unread G ks (set ms j (Some notes)) + length (body_at G (pair_at ks j).0) ≡ unread G ks ms
  unread-set [] ms j notes h l n = absurd (omega arith)
  unread-set (k ∷ ks) [] j notes h l n = absurd (omega arith)
  unread-set (k ∷ ks) (None ∷ ms) zero notes h l n = omega arith
  unread-set (k ∷ ks) (Some v ∷ ms) zero notes h l n = absurd (n (v, refl))
  unread-set (k ∷ ks) (None ∷ ms) (suc j) notes h l n = omega (arith, unread-set ks ms j notes (omega arith) (omega arith) n)
  unread-set (k ∷ ks) (Some v ∷ ms) (suc j) notes h l n = unread-set ks ms j notes (omega arith) (omega arith) n

  pub unread-some : (ks : List (RuleStates S)) (ms : List (Option (List (Note S)))) (j : ℕ) → j < length ks → j < length ms → (HasBody ms j → ⊥) → length (body_at G (pair_at ks j).0) ≤ unread G ks ms
  unread-some [] ms j h l n = absurd (omega arith)
  unread-some (k ∷ ks) [] j h l n = absurd (omega arith)
  unread-some (k ∷ ks) (None ∷ ms) zero h l n = omega arith
  unread-some (k ∷ ks) (Some v ∷ ms) zero h l n = absurd (n (v, refl))
  unread-some (k ∷ ks) (None ∷ ms) (suc j) h l n = omega (arith, unread-some ks ms j (omega arith) (omega arith) n)
  unread-some (k ∷ ks) (Some v ∷ ms) (suc j) h l n = unread-some ks ms j (omega arith) (omega arith) n

module _ {S : Type 0} (notes more : List (Note S)) where
  -- no body changes where notes are put behind those of all
  pub kept-more : (spans : List (Option Span)) → All (IsWithin (length notes)) spans → kept_of (notes ++ more) spans ≡ kept_of notes spans
  kept-more [] h = refl
  kept-more (o ∷ spans) h =
      ap (λ ns. ns ∷ kept_of (notes ++ more) spans) (one-more o (All-head (IsWithin (length notes)) o spans h)) ∙ ap (λ ms. option_map (λ (span : Span). slice_range notes span.begin span.end) o ∷ ms) (kept-more spans (All-tail (IsWithin (length notes)) o spans h))
    where
      one-more : (o : Option Span) → IsWithin (length notes) o
          → option_map (λ (span : Span). slice_range (notes ++ more) span.begin span.end) o ≡ option_map (λ (span : Span). slice_range notes span.begin span.end) o
      one-more None h = refl
      one-more (Some s) h = ap (λ ns. Some ns) (range-more notes more s.begin s.end h.0 h.1)

  -- a body is read whose notes these are
  pub kept-read : (new : List (Note S)) (spans : List (Option Span)) (kept : List (Option (List (Note S)))) (j : ℕ) (s : Span) → All (IsWithin (length notes)) spans → kept_of notes spans ≡ kept
      → new ≡ notes ++ more → s.begin ≡ length notes → s.end ≡ length new → kept_of new (set spans j (Some s)) ≡ set kept j (Some more)
  kept-read new spans kept j s h k n b e =
      let f : Span → List (Note S) = λ s. slice_range (notes ++ more) s.begin s.end in
      let end : s.end ≡ length notes + length more = omega (arith, e, ap length n, length-append notes more) in
      let r : f s ≡ more = rw (b, end) (range-new notes more) in
      ap (λ ns. kept_of ns (set spans j (Some s))) n
      ∙ map-set (option_map f) spans j (Some s)
      ∙ ap (λ ns. set (kept_of (notes ++ more) spans) j (Some ns)) r
      ∙ ap (λ ms. set ms j (Some more)) (kept-more spans h ∙ k)

  -- the same for the next body
  pub kept-push : (new : List (Note S)) (spans : List (Option Span)) (kept : List (Option (List (Note S)))) (s : Span) → All (IsWithin (length notes)) spans → kept_of notes spans ≡ kept
      → new ≡ notes ++ more → s.begin ≡ length notes → s.end ≡ length new → kept_of new (spans ++ Some s ∷ []) ≡ kept ++ Some more ∷ []
  kept-push new spans kept s h k n b e =
      let f : Span → List (Note S) = λ s. slice_range (notes ++ more) s.begin s.end in
      let end : s.end ≡ length notes + length more = omega (arith, e, ap length n, length-append notes more) in
      let r : f s ≡ more = rw (b, end) (range-new notes more) in
      ap (λ ns. kept_of ns (spans ++ Some s ∷ [])) n
      ∙ map-append (option_map f) spans (Some s ∷ [])
      ∙ ap (λ ns. kept_of (notes ++ more) spans ++ Some ns ∷ []) r
      ∙ ap (λ ms. ms ++ Some more ∷ []) (kept-more spans h ∙ k)

-- where nothing is noted there are no bodies
pub kept-none : {S : Type 0} (notes : List (Note S)) (n : ℕ) → kept_of notes (replicate n None) ≡ replicate n None
kept-none notes zero = refl
kept-none notes (suc n) = ap (λ ms. None ∷ ms) (kept-none notes n)

-- spans lie within more notes too
pub within-more : (spans : List (Option Span)) (n m : ℕ) → n ≤ m → All (IsWithin n) spans → All (IsWithin m) spans
within-more spans n m le h = All-weaker (IsWithin n) (IsWithin m) each spans h
  where
    each : (o : Option Span) → IsWithin n o → IsWithin m o
    each None h = tt
    each (Some s) h = lies-more s n m le h

pub within-read : (spans : List (Option Span)) (n m j : ℕ) (s : Span) → n ≤ m → s.begin ≡ n → s.end ≡ m → All (IsWithin n) spans → All (IsWithin m) (set spans j (Some s))
within-read spans n m j s le b e h = All-set (IsWithin m) spans j (Some s) (omega arith, omega arith) (within-more spans n m le h)
