-- Line ends, piece by piece.
use Rattle.std.proofs.Common.{◌≡◌, ℕ, Bool, true, false, List, [], ◌∷◌, ◌++◌, length, refl, ap, sym, ◌∙◌, subst, arith}
use Rattle.std.specs.Prelude.{◌==◌, ◌&&◌, if◌then◌else◌}
use Rattle.std.specs.List.{list_all}
use Rattle.std.proofs.lemmas.Bool.Decides.{nat_tests}
use Rattle.xml_tokens.specs.Cutting.{is_other}
use Rattle.xml_tokens.proofs.Lists.{and_true}
use Rattle.xml_tokenizer.specs.LineEnds.{line_ends_after, ends_in_return, is_dropped, begins_dropped, line_end_of, Become}

module _ (x y : List ℕ) (ih : (b : Bool) → line_ends_after b (x ++ y) ≡ line_ends_after b x ++ line_ends_after (ends_in_return b x) y) (c : ℕ) where
  kept : (d : Bool) → (if d then line_ends_after false (x ++ y) else c ∷ line_ends_after false (x ++ y))
      ≡ (if d then line_ends_after false x else c ∷ line_ends_after false x) ++ line_ends_after (ends_in_return false x) y
  kept true = ih false
  kept false = ap (λ z. c ∷ z) (ih false)

  more_lines : (b t : Bool) → (c == 13) ≡ t → line_ends_after b (c ∷ (x ++ y)) ≡ line_ends_after b (c ∷ x) ++ line_ends_after (ends_in_return (c == 13) x) y
  more_lines b true e = rw e (ap (λ z. 10 ∷ z) (ih true))
  more_lines b false e = rw e (kept (b && (c == 10)))

pub line_ends-append : (x y : List ℕ) (b : Bool) → line_ends_after b (x ++ y) ≡ line_ends_after b x ++ line_ends_after (ends_in_return b x) y
line_ends-append [] y b = refl
line_ends-append (c ∷ x) y b = more_lines x y (λ d. line_ends-append x y d) c b (c == 13) refl

pub return-append : (b : Bool) (x y : List ℕ) → ends_in_return b (x ++ y) ≡ ends_in_return (ends_in_return b x) y
return-append b [] y = refl
return-append b (c ∷ x) y = return-append (c == 13) x y

pub kept_byte : (b : Bool) (c : ℕ) (x : List ℕ) → is_dropped b c ≡ false → line_ends_after b (c ∷ x) ≡ line_end_of c ∷ line_ends_after (c == 13) x
kept_byte b c x e = by_test (c == 13) refl where
  by_test : (t : Bool) → (c == 13) ≡ t → line_ends_after b (c ∷ x) ≡ line_end_of c ∷ line_ends_after (c == 13) x
  by_test true t = rw t refl
  by_test false t = rw (t, e) refl

-- raw bytes that become bytes
pub become_lines : (b : Bool) (raw y : List ℕ) → Become b raw y → line_ends_after b raw ≡ y
become_lines b [] [] g = refl
become_lines b [] (c ∷ y) g = absurd g
become_lines b (k ∷ raw) [] g = absurd g
become_lines b (k ∷ raw) (c ∷ y) (kept, is, more) =
    kept_byte b k raw kept ∙ ap (λ z. z ∷ line_ends_after (k == 13) raw) (sym is) ∙ ap (λ z. c ∷ z) (become_lines (k == 13) raw y more)

pub become_length : (b : Bool) (raw y : List ℕ) → Become b raw y → length raw ≡ length y
become_length b [] [] g = refl
become_length b [] (c ∷ y) g = absurd g
become_length b (k ∷ raw) [] g = absurd g
become_length b (k ∷ raw) (c ∷ y) (kept, is, more) = omega (arith, become_length (k == 13) raw y more)

pub become_kept : (b : Bool) (raw y : List ℕ) → Become b raw y → begins_dropped b raw ≡ false
become_kept b [] y g = refl
become_kept b (k ∷ raw) [] g = absurd g
become_kept b (k ∷ raw) (c ∷ y) g = g.0

pub record Split (b : Bool) (raw y z : List ℕ) : Type 0 where
  pub first : List ℕ
  pub second : List ℕ
  pub whole : raw ≡ first ++ second
  pub before : Become b first y
  pub after : Become (ends_in_return b first) second z

pub become_split : (b : Bool) (raw y z : List ℕ) → Become b raw (y ++ z) → Split b raw y z
become_split b raw [] z g = record { first = []; second = raw; whole = refl; before = tt; after = g }
become_split b [] (c ∷ y) z g = absurd g
become_split b (k ∷ raw) (c ∷ y) z (kept, is, more) =
    let s = become_split (k == 13) raw y z more in
    record { first = k ∷ s.first; second = s.second; whole = ap (λ w. k ∷ w) s.whole; before = (kept, is, s.before); after = s.after }

pub no_return : (c : ℕ) → is_other 13 c ≡ true → (c == 13) ≡ false
no_return c e = grind (arith, nat_tests)

none_dropped : (s : List ℕ) → begins_dropped false s ≡ false
none_dropped [] = refl
none_dropped (c ∷ s) = refl

-- bytes without #xD stay as they are
pub become_same : (b : Bool) (s : List ℕ) → list_all (is_other 13) s ≡ true → begins_dropped b s ≡ false → Become b s s
become_same b [] e f = tt
become_same b (c ∷ s) e f =
    let both = and_true (is_other 13 c) (list_all (is_other 13) s) e in
    let other = no_return c both.0 in
    (f, rw other refl, become_same (c == 13) s both.1 (subst (λ z. begins_dropped z s ≡ false) (sym other) (none_dropped s)))

-- and do not end in one
pub ends_in_other : (b : Bool) (c : ℕ) (s : List ℕ) → list_all (is_other 13) (c ∷ s) ≡ true → ends_in_return b (c ∷ s) ≡ false
ends_in_other b c [] e = no_return c (and_true (is_other 13 c) true e).0
ends_in_other b c (d ∷ s) e = ends_in_other (c == 13) d s (and_true (is_other 13 c) (list_all (is_other 13) (d ∷ s)) e).1
