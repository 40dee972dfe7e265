-- Bytes that are put one after another.
use Rattle.std.proofs.Common.{◌≡◌, ℕ, ◌+◌, ◌≤◌, ◌<◌, ◌^◌, List, [], ◌++◌, length, refl, sym, ap, ◌∙◌, subst, append_assoc, append-nil, length-append, arith}
use Rattle.std.specs.Prelude.{Option, Some, None, Result, Ok, Err, OnOk, MatchResult}
use Rattle.tree_outside.specs.declared.traits.Failed.{Failed}
use Rattle.tree_outside.specs.Outside.{Gets, GetsFront, HasCause, Writes}
use Rattle.tree_outside.specs.Shelf.{Keeps, Loses}
use Rattle.tree_outside.proofs.Beside.{Keeps-refl, Keeps-trans, Loses-after}
use Rattle.grammar_file.specs.Buffers.{Seen, Adds, Puts}

Gets-nil : (a : Option (List ℕ)) → Gets a a []
Gets-nil None = tt
Gets-nil (Some got) = ap Some (sym (append-nil got))

Gets-append : (a b c : Option (List ℕ)) (x y : List ℕ) → Gets a b x → Gets b c y → Gets a c (x ++ y)
Gets-append None b c x y h k = tt
Gets-append (Some got) b c x y h k =
    let P : Option (List ℕ) → Type 0 = λ o. Gets o c y in
    subst P h k ∙ ap Some (append_assoc got x y)

-- a front of a front
GetsFront-more : (old new : Option (List ℕ)) (s t : List ℕ) → GetsFront old new s → GetsFront old new (s ++ t)
GetsFront-more None new s t g = tt
GetsFront-more (Some got) None s t g = tt
GetsFront-more (Some got) (Some now) s t (front, (rest, whole), is) = (front, (rest ++ t, ap (λ z. z ++ t) whole ∙ append_assoc front rest t), is)

-- some bytes, and then a front
Gets-front : (a b c : Option (List ℕ)) (x y : List ℕ) → Gets a b x → GetsFront b c y → GetsFront a c (x ++ y)
Gets-front None b c x y h k = tt
Gets-front (Some got) b None x y h k = tt
Gets-front (Some got) b (Some now) x y h k =
    let P : Option (List ℕ) → Type 0 = λ o. GetsFront o (Some now) y in
    let f = subst P h k in
    (x ++ f.0, (f.1.0, ap (λ z. x ++ z) f.1.1 ∙ sym (append_assoc x f.0 f.1.0)), f.2 ∙ append_assoc got x f.0)

HasCause-after : {E T : Type 0} (a b c : ℕ) (r : Result T E) → a ≤ b → HasCause b c r → HasCause a c r
HasCause-after a b c (Ok v) h k = record { later = omega (arith, k.later); failed = tt }
HasCause-after a b c (Err e) h k = record { later = omega (arith, k.later); failed = omega (arith, k.failed) }

-- what was written and what is held, with more behind it
held-more : (w v held mid xs last ys : List ℕ) → w ++ mid ≡ held ++ xs → v ++ last ≡ mid ++ ys → (w ++ v) ++ last ≡ held ++ (xs ++ ys)
held-more w v held mid xs last ys h k =
    append_assoc w v last ∙ ap (λ z. w ++ z) k ∙ sym (append_assoc w mid ys) ∙ ap (λ z. z ++ ys) h ∙ append_assoc held xs ys

pub on_ok : {P : Type 0} (r : Result (Unit {0}) Failed) → P → OnOk r P
on_ok (Ok _) h = h
on_ok (Err e) h = tt

-- nothing is put
pub puts_nothing : {E : Type 0} (a : Seen) → Puts {E = E} a a (Ok tt) []
puts_nothing a = record {
  content = record { written = []; got = Gets-nil a.got; whole = sym (append-nil a.held) };
  count = λ _. omega arith;
  kept = Keeps-refl a.kept;
  lost = tt;
  cause = record { later = omega arith; failed = tt };
  same_reference = refl;
}

content-then : {E : Type 0} (a b c : Seen) (r : Result (Unit {0}) E) (xs ys : List ℕ) → Adds a b xs
    → MatchResult r (λ _. Adds b c ys) (λ _. GetsFront b.got c.got (b.held ++ ys))
    → MatchResult r (λ _. Adds a c (xs ++ ys)) (λ _. GetsFront a.got c.got (a.held ++ (xs ++ ys)))
content-then a b c (Ok _) xs ys h k = record {
  written = h.written ++ k.written;
  got = Gets-append a.got b.got c.got h.written k.written h.got k.got;
  whole = held-more h.written k.written a.held b.held xs c.held ys h.whole k.whole;
}
content-then a b c (Err e) xs ys h k =
    let all = sym (append_assoc h.written b.held ys) ∙ ap (λ z. z ++ ys) h.whole ∙ append_assoc a.held xs ys in
    subst (λ z. GetsFront a.got c.got z) all (Gets-front a.got b.got c.got h.written (b.held ++ ys) h.got k)

count-then : {E : Type 0} (a b c : Seen) (r : Result (Unit {0}) E) (xs ys : List ℕ)
    → (a.count + length xs < 2 ^ 128 → b.count ≡ a.count + length xs)
    → OnOk r (b.count + length ys < 2 ^ 128 → c.count ≡ b.count + length ys)
    → OnOk r (a.count + length (xs ++ ys) < 2 ^ 128 → c.count ≡ a.count + length (xs ++ ys))
count-then a b c (Ok _) xs ys h k = λ fits. omega (arith, length-append xs ys, h, k)
count-then a b c (Err e) xs ys h k = tt

-- some bytes, and then these
pub puts_then : {E : Type 0} (a b c : Seen) (r : Result (Unit {0}) E) (xs ys : List ℕ) → Puts {E = E} a b (Ok tt) xs → Puts b c r ys → Puts a c r (xs ++ ys)
puts_then a b c r xs ys h k = record {
  content = content-then a b c r xs ys h.content k.content;
  count = count-then a b c r xs ys h.count k.count;
  kept = Keeps-trans _ _ _ h.kept k.kept;
  lost = Loses-after a.kept b.kept a.got b.got c.got r h.content.written h.kept h.content.got k.lost;
  cause = HasCause-after a.faults b.faults c.faults r h.cause.later k.cause;
  same_reference = k.same_reference ∙ h.same_reference;
}

-- the sink failed before the end
pub puts_failed : {E : Type 0} (a b : Seen) (e : E) (xs ys : List ℕ) → Puts a b (Err e) xs → Puts a b (Err e) (xs ++ ys)
puts_failed a b e xs ys h = record {
  content = subst (λ z. GetsFront a.got b.got z) (append_assoc a.held xs ys) (GetsFront-more a.got b.got (a.held ++ xs) ys h.content);
  count = tt;
  kept = h.kept;
  lost = h.lost;
  cause = record { later = h.cause.later; failed = h.cause.failed };
  same_reference = h.same_reference;
}

-- these bytes of a whole were put, and those are left
pub record IsPutting (old now : Seen) (whole left : List ℕ) : Type 0 where
  pub done : List ℕ
  pub puts : Puts {E = Failed} old now (Ok tt) done
  pub shape : done ++ left ≡ whole

pub putting_begins : (a : Seen) (whole : List ℕ) → IsPutting a a whole whole
putting_begins a whole = record { done = []; puts = puts_nothing a; shape = refl }

pub putting_goes : (a b c : Seen) (whole xs left : List ℕ) → IsPutting a b whole (xs ++ left) → Puts {E = Failed} b c (Ok tt) xs → IsPutting a c whole left
putting_goes a b c whole xs left h k = record {
  done = h.done ++ xs;
  puts = puts_then a b c (Ok tt) h.done xs h.puts k;
  shape = append_assoc h.done xs left ∙ h.shape;
}

pub putting_fails : (a b c : Seen) (e : Failed) (r : Result (Unit {0}) Failed) (whole xs left : List ℕ) → IsPutting a b whole (xs ++ left)
    → Puts b c (Err e) xs → r ≡ Err e → Puts a c r whole
putting_fails a b c e r whole xs left h k is =
    rw is (subst (λ z. Puts a c (Err e) z) h.shape (puts_then a b c (Err e) h.done (xs ++ left) h.puts (puts_failed b c e xs left k)))

pub putting_done : (a b : Seen) (whole : List ℕ) → IsPutting a b whole [] → Puts {E = Failed} a b (Ok tt) whole
putting_done a b whole h = subst (λ z. Puts {E = Failed} a b (Ok tt) z) (sym (append-nil h.done) ∙ h.shape) h.puts

pub putting_ends : (a b c : Seen) (r : Result (Unit {0}) Failed) (whole left : List ℕ) → IsPutting a b whole left → Puts b c r left → Puts a c r whole
putting_ends a b c r whole left h k = subst (λ z. Puts a c r z) h.shape (puts_then a b c r h.done left h.puts k)

content-written : (a b : Seen) (r : Result (Unit {0}) Failed) (bytes : List ℕ) → a.held ≡ [] → b.held ≡ [] → Writes a.got b.got r bytes
    → MatchResult r (λ _. Adds a b bytes) (λ _. GetsFront a.got b.got (a.held ++ bytes))
content-written a b (Ok _) bytes h k w = record { written = bytes; got = w; whole = rw (h, k) (append-nil bytes) }
content-written a b (Err e) bytes h k w = rw h w

-- where nothing is held, bytes are put when they are written
pub puts_written : (a b : Seen) (r : Result (Unit {0}) Failed) (bytes : List ℕ) → a.held ≡ [] → b.held ≡ [] → Writes a.got b.got r bytes
    → (a.count + length bytes < 2 ^ 128 → b.count ≡ a.count + length bytes) → Keeps a.kept b.kept → Loses a.kept a.got b.got r → HasCause a.faults b.faults r → b.sink ≡ a.sink
    → Puts a b r bytes
puts_written a b r bytes h k w n kept lost cause same = record {
  content = content-written a b r bytes h k w;
  count = on_ok r n;
  kept = kept;
  lost = lost;
  cause = cause;
  same_reference = same;
}

-- the sink failed at the first of two
pub puts_stops : (a b : Seen) (e : Failed) (r : Result (Unit {0}) Failed) (xs ys : List ℕ) → Puts a b (Err e) xs → r ≡ Err e → Puts a b r (xs ++ ys)
puts_stops a b e r xs ys h is = rw is (puts_failed a b e xs ys h)

pub puts_same : (a b : Seen) (e : Failed) (r : Result (Unit {0}) Failed) (xs : List ℕ) → Puts a b (Err e) xs → r ≡ Err e → Puts a b r xs
puts_same a b e r xs h is = rw is h

-- some bytes, and then none
pub puts_last : (a b c : Seen) (r : Result (Unit {0}) Failed) (xs : List ℕ) → Puts {E = Failed} a b (Ok tt) xs → Puts b c r [] → Puts a c r xs
puts_last a b c r xs h k = subst (λ z. Puts a c r z) (append-nil xs) (puts_then a b c r xs [] h k)

-- where nothing was held and nothing is held, the sink got them
pub adds_all : (a b : Seen) (bytes : List ℕ) → Adds a b bytes → a.held ≡ [] → b.held ≡ [] → Gets a.got b.got bytes
adds_all a b bytes h empty last =
    let e : h.written ≡ bytes = sym (append-nil h.written) ∙ (rw (empty, last) at h.whole) in
    subst (λ z. Gets a.got b.got z) e h.got

-- where nothing was put
pub gets_nothing : (got : Option (List ℕ)) (bytes : List ℕ) → GetsFront got got bytes
gets_nothing None bytes = tt
gets_nothing (Some got) bytes = ([], (bytes, refl), sym (append-nil got))
