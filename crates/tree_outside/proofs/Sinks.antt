-- What a sink gets, over several writes.
use Rattle.std.specs.Prelude.{ℕ, List, [], ◌++◌, Option, Some, None}
use Rattle.std.proofs.Common.{sym, ap, ◌∙◌, subst}
use Rattle.std.proofs.lemmas.List.{append_assoc, append-nil}
use Rattle.tree_outside.specs.Outside.{Gets, GetsFront, Stays}

-- a sink that nobody writes to gets nothing
pub Gets-nil : (a : Option (List ℕ)) → Gets a a []
Gets-nil None = tt
Gets-nil (Some got) = ap Some (sym (append-nil got))

-- nor does one that only stays
pub Gets-stays : (a b : Option (List ℕ)) → Stays a b → Gets a b []
Gets-stays None b h = tt
Gets-stays (Some got) b h = h ∙ ap Some (sym (append-nil got))

pub Gets-append : (a b c : Option (List ℕ)) (x y : List ℕ) → Gets a b x → Gets b c y → Gets a c (x ++ y)
Gets-append None b c x y h k = tt
Gets-append (Some got) b c x y h k =
    let P : Option (List ℕ) → Type 0 = λ o. Gets o c y in
    subst P h k ∙ ap Some (append_assoc got x y)

-- a front of the first bytes is one of all
pub GetsFront-first : (a b : Option (List ℕ)) (x y : List ℕ) → GetsFront a b x → GetsFront a b (x ++ y)
GetsFront-first None b x y h = tt
GetsFront-first (Some got) None x y h = tt
GetsFront-first (Some got) (Some now) x y h = (h.0, (h.1.0 ++ y, ap (λ z. z ++ y) h.1.1 ∙ append_assoc h.0 h.1.0 y), h.2)

pub GetsFront-after : (a b c : Option (List ℕ)) (x y : List ℕ) → Gets a b x → GetsFront b c y → GetsFront a c (x ++ y)
GetsFront-after None b c x y h k = tt
GetsFront-after (Some got) b None x y h k = tt
GetsFront-after (Some got) b (Some now) x y h k =
    let P : Option (List ℕ) → Type 0 = λ o. GetsFront o (Some now) y in
    let r = subst P h k in
    (x ++ r.0, (r.1.0, ap (λ z. x ++ z) r.1.1 ∙ sym (append_assoc x r.0 r.1.0)), r.2 ∙ append_assoc got x r.0)
