-- Sends one after the other, of bytes with their escapes.
use Rattle.std.proofs.Common.{◌≡◌, ℕ, ◌≤◌, ◌<◌, ◌^◌, Bool, List, [], ◌∷◌, ◌++◌, refl, ap, sym, ◌∙◌, subst, append_assoc, append-nil, length-append, arith, length}
use Rattle.std.specs.Prelude.{Option, Some, None, Result, Ok, Err, OnOk}
use Rattle.std.specs.List.{flat_map}
use Rattle.std.proofs.lemmas.Grind.{flat_map-append}
use Rattle.tree_outside.specs.declared.traits.Failed.{Failed}
use Rattle.tree_outside.specs.Outside.{Gets, GetsFront, Writes, HasCause}
use Rattle.tree_outside.proofs.Beside.{Keeps-refl, Keeps-trans, Loses-after}
use Rattle.xml_nodes.specs.Escapes.{escaped, IsCut}
use Rattle.xml_nodes.specs.Sending.{Seen, Sends}
use Rattle.tree_outside.specs.ByteCounts.{counted}

Gets-nil : (a : Option (List ℕ)) → Gets a a []
Gets-nil None = tt
Gets-nil (Some got) = ap Some (sym (append-nil got))

Gets-append : (old mid new : Option (List ℕ)) (x y : List ℕ) → Gets old mid x → Gets mid new y → Gets old new (x ++ y)
Gets-append None mid new x y a b = tt
Gets-append (Some got) mid new x y a b = rw append_assoc at (rw a at b)

-- a front of a front
GetsFront-more : (old new : Option (List ℕ)) (s t : List ℕ) → GetsFront old new s → GetsFront old new (s ++ t)
GetsFront-more None new s t g = tt
GetsFront-more (Some got) None s t g = tt
GetsFront-more (Some got) (Some now) s t (front, (rest, whole), is) = (front, (rest ++ t, ap (λ z. z ++ t) whole ∙ append_assoc front rest t), is)

Gets-front : (old mid new : Option (List ℕ)) (x y : List ℕ) → Gets old mid x → GetsFront mid new y → GetsFront old new (x ++ y)
Gets-front None mid new x y a b = tt
Gets-front (Some got) mid None x y a b = tt
Gets-front (Some got) mid (Some now) x y a b =
    let (front, (rest, whole), is) = rw a at b in
    (x ++ front, (rest, ap (λ z. x ++ z) whole ∙ sym (append_assoc x front rest)), is ∙ append_assoc got x front)

Writes-append : {E : Type 0} (old mid new : Option (List ℕ)) (r : Result (Unit {0}) E) (x y : List ℕ) → Gets old mid x → Writes mid new r y → Writes old new r (x ++ y)
Writes-append old mid new (Ok u) x y a b = Gets-append old mid new x y a b
Writes-append old mid new (Err e) x y a b = Gets-front old mid new x y a b

count-append : {E : Type 0} (old mid new : ℕ) (r : Result (Unit {0}) E) (x y : List ℕ) → mid ≡ counted old (length x) → OnOk r (new ≡ counted mid (length y)) → OnOk r (new ≡ counted old (length (x ++ y)))
count-append old mid new (Ok u) x y a b = omega (arith, length-append x y)
count-append old mid new (Err e) x y a b = tt

cause-after : {E T : Type 0} (a b c : ℕ) (r : Result T E) → a ≤ b → HasCause b c r → HasCause a c r
cause-after a b c (Ok v) h k = record { later = omega (arith, k.later); failed = tt }
cause-after a b c (Err e) h k = record { later = omega (arith, k.later); failed = omega (arith, k.failed) }

-- some bytes, and then these
pub sends_then : {E : Type 0} (a b c : Seen) (r : Result (Unit {0}) E) (x y : List ℕ) → Sends {E = E} a b (Ok tt) x → Sends b c r y → Sends a c r (x ++ y)
sends_then a b c r x y h k = record {
  content = Writes-append a.got b.got c.got r x y h.content k.content;
  count = count-append a.count b.count c.count r x y h.count k.count;
  kept = Keeps-trans _ _ _ h.kept k.kept;
  lost = Loses-after a.kept b.kept a.got b.got c.got r x h.kept h.content k.lost;
  cause = cause-after a.faults b.faults c.faults r h.cause.later k.cause;
  same_reference = k.same_reference ∙ h.same_reference;
}

-- the sink failed before the end
pub sends_front : {E : Type 0} (a b : Seen) (e : E) (r : Result (Unit {0}) E) (x y : List ℕ) → Sends a b (Err e) x → r ≡ Err e → Sends a b r (x ++ y)
sends_front a b e r x y h is = rw is (record {
  content = GetsFront-more a.got b.got x y h.content;
  count = tt;
  kept = h.kept;
  lost = h.lost;
  cause = record { later = h.cause.later; failed = h.cause.failed };
  same_reference = h.same_reference;
})

sends_nothing : {E : Type 0} (a : Seen) → a.count < 2 ^ 128 → Sends {E = E} a a (Ok tt) []
sends_nothing a h = record {
  content = Gets-nil a.got;
  count = omega arith;
  kept = Keeps-refl a.kept;
  lost = tt;
  cause = record { later = omega arith; failed = tt };
  same_reference = refl;
}

-- The bytes done are sent with their escapes, and these are left.
pub record IsSending (quoted : Bool) (bytes rest : List ℕ) (old now : Seen) : Type 0 where
  pub done : List ℕ
  pub whole : bytes ≡ done ++ rest
  pub sent : Sends {E = Failed} old now (Ok tt) (flat_map (escaped quoted) done)

pub begins : (quoted : Bool) (bytes : List ℕ) (old : Seen) → old.count < 2 ^ 128 → IsSending quoted bytes bytes old old
begins quoted bytes old h = record { done = []; whole = refl; sent = sends_nothing old h }

module _ (quoted : Bool) (bytes rest plain escape behind : List ℕ) (old now new : Seen) (at : IsSending quoted bytes rest old now) (cut : IsCut quoted rest plain escape behind) where
  done_is : flat_map (escaped quoted) (at.done ++ (plain ++ cut.byte ∷ [])) ≡ flat_map (escaped quoted) at.done ++ (plain ++ escape)
  done_is =
      flat_map-append (escaped quoted) at.done (plain ++ cut.byte ∷ [])
      ∙ ap (λ z. flat_map (escaped quoted) at.done ++ z)
      (flat_map-append (escaped quoted) plain (cut.byte ∷ []) ∙ ap (λ z. z ++ flat_map (escaped quoted) (cut.byte ∷ [])) cut.front
      ∙ ap (λ z. plain ++ z) (append-nil (escaped quoted cut.byte) ∙ cut.escape_is))

  all_is : bytes ≡ (at.done ++ (plain ++ cut.byte ∷ [])) ++ behind
  all_is =
      at.whole ∙ ap (λ z. at.done ++ z) (cut.whole ∙ sym (append_assoc plain (cut.byte ∷ []) behind)) ∙ sym (append_assoc at.done (plain ++ cut.byte ∷ []) behind)

  pub goes_on : Sends {E = Failed} now new (Ok tt) (plain ++ escape) → IsSending quoted bytes behind old new
  goes_on s = record {
    done = at.done ++ (plain ++ cut.byte ∷ []);
    whole = all_is;
    sent = subst (λ z. Sends {E = Failed} old new (Ok tt) z) (sym done_is) (sends_then old now new (Ok tt) (flat_map (escaped quoted) at.done) (plain ++ escape) at.sent s);
  }

  pub fails : (e : Failed) (r : Result (Unit {0}) Failed) → r ≡ Err e → Sends now new (Err e) (plain ++ escape) → Sends old new r (flat_map (escaped quoted) bytes)
  fails e r is s =
      let shape : flat_map (escaped quoted) bytes ≡ (flat_map (escaped quoted) at.done ++ (plain ++ escape)) ++ flat_map (escaped quoted) behind =
      ap (λ z. flat_map (escaped quoted) z) all_is ∙ flat_map-append (escaped quoted) (at.done ++ (plain ++ cut.byte ∷ [])) behind ∙ ap (λ z. z ++ flat_map (escaped quoted) behind) done_is in
      subst (λ z. Sends old new r z) (sym shape)
      (sends_front old new e r (flat_map (escaped quoted) at.done ++ (plain ++ escape)) (flat_map (escaped quoted) behind)
      (sends_then old now new (Err e) (flat_map (escaped quoted) at.done) (plain ++ escape) at.sent s) is)

-- the rest stands for itself
pub ends : (quoted : Bool) (bytes rest : List ℕ) (old now new : Seen) (r : Result (Unit {0}) Failed) → IsSending quoted bytes rest old now → flat_map (escaped quoted) rest ≡ rest
    → Sends now new r rest → Sends old new r (flat_map (escaped quoted) bytes)
ends quoted bytes rest old now new r at e s =
    let shape : flat_map (escaped quoted) bytes ≡ flat_map (escaped quoted) at.done ++ rest =
    ap (λ z. flat_map (escaped quoted) z) at.whole ∙ flat_map-append (escaped quoted) at.done rest ∙ ap (λ z. flat_map (escaped quoted) at.done ++ z) e in
    subst (λ z. Sends old new r z) (sym shape) (sends_then old now new r (flat_map (escaped quoted) at.done) rest at.sent s)

-- a whole that is sent in parts
pub stops_at_first : (a b : Seen) (e : Failed) (r : Result (Unit {0}) Failed) (whole x y : List ℕ) → whole ≡ x ++ y → r ≡ Err e → Sends a b (Err e) x → Sends a b r whole
stops_at_first a b e r whole x y shape is s = subst (λ z. Sends a b r z) (sym shape) (sends_front a b e r x y s is)

pub stops_at_second : (a b c : Seen) (e : Failed) (r : Result (Unit {0}) Failed) (whole x y z : List ℕ) → whole ≡ x ++ (y ++ z) → r ≡ Err e
    → Sends {E = Failed} a b (Ok tt) x → Sends b c (Err e) y → Sends a c r whole
stops_at_second a b c e r whole x y z shape is s t =
    subst (λ w. Sends a c r w) (sym shape) (sends_then a b c r x (y ++ z) s (sends_front b c e r y z t is))

pub ends_at_second : (a b c : Seen) (r : Result (Unit {0}) Failed) (whole x y : List ℕ) → whole ≡ x ++ y → Sends {E = Failed} a b (Ok tt) x → Sends b c r y → Sends a c r whole
ends_at_second a b c r whole x y shape s t = subst (λ w. Sends a c r w) (sym shape) (sends_then a b c r x y s t)

pub ends_at_third : (a b c d : Seen) (r : Result (Unit {0}) Failed) (whole x y z : List ℕ) → whole ≡ x ++ (y ++ z)
    → Sends {E = Failed} a b (Ok tt) x → Sends {E = Failed} b c (Ok tt) y → Sends c d r z → Sends a d r whole
ends_at_third a b c d r whole x y z shape s t u =
    subst (λ w. Sends a d r w) (sym shape) (sends_then a b d r x (y ++ z) s (sends_then b c d r y z t u))
