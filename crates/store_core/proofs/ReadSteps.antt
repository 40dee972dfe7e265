-- A file that is read in pieces.
use Rattle.std.specs.Prelude.{ℕ, List, [], ◌++◌, Option, Some, None, refl}
use Rattle.std.proofs.Common.{sym, ap, ◌∙◌, subst}
use Rattle.std.proofs.lemmas.List.{append_assoc}
use Rattle.tree_outside.specs.Files.{Told}
use Rattle.tree_outside.specs.Shelf.{TakesFile}
use Rattle.store_core.specs.Feeding.{OnlyReads}

-- one piece after another
pub TakesFile-append : (a b c : Option Told) (x y : List ℕ) → TakesFile a b x → TakesFile b c y → TakesFile a c (x ++ y)
TakesFile-append None b c x y h k = tt
TakesFile-append (Some t) b c x y h k =
    let P : Option Told → Type 0 = λ o. TakesFile o c y in
    let r = subst P h.2 k in
    (r.0, h.1 ∙ ap (λ z. x ++ z) r.1 ∙ sym (append_assoc x y r.0), r.2)

-- before the first piece
pub TakesFile-none : (told : Option Told) → TakesFile told told []
TakesFile-none None = tt
TakesFile-none (Some t) = (t.left, refl, refl)

pub OnlyReads-refl : (told : Option Told) → OnlyReads told told
OnlyReads-refl None = tt
OnlyReads-refl (Some t) = (t.left, refl)
