-- What the code finds at the front of bytes is what the functions on lists say.
use Rattle.std.proofs.Common.{◌≡◌, ◌≢◌, ℕ, ◌-◌, ◌<◌, ◌≤◌, Bool, true, false, cond, List, ◌∷◌, ◌++◌, length, take, get_or, refl, ap, sym, ◌∙◌}
use Rattle.std.specs.Prelude.{Option, Some, None, MatchOption, option_and_then}
use Rattle.std.specs.Borrow.{Bor}
use Rattle.xml_tokens.specs.NameBytes.{is_name_byte}
use Rattle.plain_tree.specs.XmlNames.{is_name}
use Rattle.xml_tokens.specs.Cutting.{front, back, behind, before, is_other}
use Rattle.xml_tokens.specs.Seen.{seen_part}
use Rattle.xml_tokens.specs.Attributes.{is_quote}
use Rattle.xml_tokens.specs.References.{referred}
use Rattle.xml_tokens.specs.TokenAt.{name_at, quoted_at, closed_at, leading_reference}
use Rattle.xml_tokens.proofs.Lists.{behind-append, behind_whole, before-append, before_whole, take-front, cons_of, none_of, tail_of}

pub behind_seen : (word bytes : List ℕ) (r : Option (Bor (List ℕ))) → MatchOption r ((rest : List ℕ) → bytes ≢ word ++ rest) (λ v. bytes ≡ word ++ v.now) → seen_part r ≡ behind word bytes
behind_seen word bytes (Some v) e = sym (ap (behind word) e ∙ behind-append word v.now)
behind_seen word bytes None e = by (behind word bytes) refl where
  by : (o : Option (List ℕ)) → behind word bytes ≡ o → None ≡ behind word bytes
  by None is = sym is
  by (Some x) is = absurd (e x (behind_whole word bytes x is))

pub before_seen : (word bytes : List ℕ) (r : Option (Bor (List ℕ))) → MatchOption r ((rest : List ℕ) → bytes ≢ rest ++ word) (λ v. bytes ≡ v.now ++ word) → seen_part r ≡ before word bytes
before_seen word bytes (Some v) e = sym (ap (before word) e ∙ before-append v.now word)
before_seen word bytes None e = by (before word bytes) refl where
  by : (o : Option (List ℕ)) → before word bytes ≡ o → None ≡ before word bytes
  by None is = sym is
  by (Some x) is = absurd (e x (before_whole word bytes x is))

module _ (bytes name rest : List ℕ) (r : Bool) (left : rest ≡ back is_name_byte bytes) (cut : name ≡ take (length bytes - length rest) bytes) (tested : r ≡ is_name name) where
  name_is : name ≡ front is_name_byte bytes
  name_is = cut ∙ ap (λ x. take (length bytes - length x) bytes) left ∙ take-front is_name_byte bytes

  pub name_found : r ≡ true → Some (name, rest) ≡ name_at bytes
  unfolding name_at
  name_found holds = rw (ap is_name (sym name_is) ∙ sym tested ∙ holds, sym name_is, sym left) refl

  pub name_missing : r ≡ false → None ≡ name_at bytes
  unfolding name_at
  name_missing other = rw (ap is_name (sym name_is) ∙ sym tested ∙ other) refl

pub quoted_none : (s : List ℕ) → length s < 1 → None ≡ quoted_at s
unfolding quoted_at
quoted_none s n = rw (none_of s n) refl

quoted_cons : (q : ℕ) (rest : List ℕ) → quoted_at (q ∷ rest) ≡ cond (is_quote q) (closed_at (front (is_other q) rest) (back (is_other q) rest)) None
unfolding quoted_at
quoted_cons q rest = refl

quoted_turn : (s : List ℕ) → 1 ≤ length s
    → quoted_at s ≡ cond (is_quote (get_or s 0 0)) (closed_at (front (is_other (get_or s 0 0)) (tail_of s)) (back (is_other (get_or s 0 0)) (tail_of s))) None
quoted_turn s n = ap quoted_at (cons_of s n) ∙ quoted_cons (get_or s 0 0) (tail_of s)

pub quoted_found : (s left : List ℕ) → 1 ≤ length s → is_quote (get_or s 0 0) ≡ true → left ≡ back (is_other (get_or s 0 0)) (tail_of s)
    → closed_at (take (length (tail_of s) - length left) (tail_of s)) left ≡ quoted_at s
quoted_found s left n holds is =
    ap (λ x. closed_at (take (length (tail_of s) - length x) (tail_of s)) x) is
    ∙ ap (λ x. closed_at x (back (is_other (get_or s 0 0)) (tail_of s))) (take-front (is_other (get_or s 0 0)) (tail_of s))
    ∙ sym (quoted_turn s n ∙ rw holds refl)

pub quoted_missing : (s : List ℕ) → 1 ≤ length s → is_quote (get_or s 0 0) ≡ false → None ≡ quoted_at s
quoted_missing s n other = sym (quoted_turn s n ∙ rw other refl)

reference_by : (bytes : List ℕ) (o : Option ℕ) (d : ℕ) (after : List ℕ) → back (is_other 59) bytes ≡ d ∷ after → referred (front (is_other 59) bytes) ≡ o
    → leading_reference bytes ≡ option_and_then (λ c. Some (c, after)) o
reference_by bytes o d after e f = rw (e, f) refl

module _ (bytes left : List ℕ) (r : Option ℕ) (is : left ≡ back (is_other 59) bytes) (n : 1 ≤ length left) (told : r ≡ referred (take (length bytes - length left) bytes)) where
  told_front : (o : Option ℕ) → r ≡ o → referred (front (is_other 59) bytes) ≡ o
  told_front o e = ap referred (sym (ap (λ x. take (length bytes - length x) bytes) is ∙ take-front (is_other 59) bytes)) ∙ sym told ∙ e

  pub reference_found : (c : ℕ) → r ≡ Some c → Some (c, tail_of left) ≡ leading_reference bytes
  reference_found c e = sym (reference_by bytes (Some c) (get_or left 0 0) (tail_of left) (sym is ∙ cons_of left n) (told_front (Some c) e))

  pub reference_missing : r ≡ None → None ≡ leading_reference bytes
  reference_missing e = sym (reference_by bytes None (get_or left 0 0) (tail_of left) (sym is ∙ cons_of left n) (told_front None e))
