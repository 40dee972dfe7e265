-- What automata find of terms.
use Rattle.std.proofs.Common.{◌≡◌, ℕ, zero, suc, Bool, List, [], ◌∷◌, All, Result, Ok, Err, Option, None, Some, ap, length, map, slice_get}
use Rattle.std.specs.Prelude.{◌↔◌, IfOk, IfSome, IsSome, IsTrue}
use Rattle.std.proofs.lemmas.List.Elements.{All-weaker}
use Rattle.std.proofs.lemmas.Option.{same_Some}
use Rattle.plain_tree.specs.Tree.{Tree}
use Rattle.slt_grammar.specs.Grammars.{value}
use Rattle.slt_grammar.specs.Standing.{StandsFor}
use Rattle.slt_grammar.specs.Terms.{Term}
use Rattle.rule_runs.specs.declared.listing.Hit.{Hit}
use Rattle.rule_runs.specs.Answering.{Fallen}
use Rattle.rule_runs.specs.Hits.{numbers, symbols_in}
use Rattle.value_tests.specs.MarkLists.{mark_at}
use Rattle.store_core.specs.Selecting.{Finds}
use Rattle.store_core.specs.Worlds.{Parts, PartsStandFor}

-- what a run says, at once
pub finds-all : {E : Type 0} (answer : List ℕ) (t : Term) (listed : Bool) (r : Result Fallen E) → IfOk r (λ found. found.count ≡ length answer) → IfOk r (λ found. IsSome found.hits ↔ IsTrue listed)
    → IfOk r (λ found. IfSome found.hits (λ hs. numbers hs ≡ answer)) → IfOk r (λ found. IfSome found.hits (All (λ hit. slice_get (symbols_in t) hit.number ≡ Some hit.symbol))) → IfOk r (Finds answer t listed)
finds-all answer t listed (Ok found) count where_listed hit symbols = record { count = count; listed_where = where_listed; hit = hit; symbols = symbols }
finds-all answer t listed (Err e) count where_listed hit symbols = tt

-- what follows of each hit that is listed
pub all-if : (P Q : Hit → Type 0) → ((hit : Hit) → P hit → Q hit) → (found : Option (List Hit)) → IfSome found (All P) → IfSome found (All Q)
all-if P Q f None h = tt
all-if P Q f (Some found) h = All-weaker P Q f found h

-- the mark of the text at a place is what its bytes tell
pub mark-there : (mark : List ℕ → ℕ) (values : List (List ℕ)) (i : ℕ) (v : List ℕ) → slice_get values i ≡ Some v → mark_at (map mark values) i ≡ mark v
mark-there mark [] i v e = absurd (cc)
mark-there mark (x ∷ xs) zero v e = ap mark (same_Some x v e)
mark-there mark (x ∷ xs) (suc i) v e = mark-there mark xs i v e

-- what a run says that tells texts with marks apart, of a document for which the parts stand
pub finds-marked : {E : Type 0} (parts : Parts) (tree : Tree) → PartsStandFor parts tree → (answer : List ℕ) (listed : Bool) (r : Result Fallen E)
    → IfOk r (λ found. found.count ≡ length answer) → IfOk r (λ found. IsSome found.hits ↔ IsTrue listed) → IfOk r (λ found. IfSome found.hits (λ hs. numbers hs ≡ answer))
    → IfOk r (λ found. (values : List (List ℕ)) (t : Tree) → StandsFor parts.rules parts.names values t → IfSome found.hits (All (λ hit. slice_get (symbols_in (value parts.rules)) hit.number ≡ Some hit.symbol)))
    → IfOk r (Finds answer (value parts.rules) listed)
finds-marked parts tree stand answer listed (Ok found) count where_listed hit symbols = record { count = count; listed_where = where_listed; hit = hit; symbols = symbols parts.texts tree stand }
finds-marked parts tree stand answer listed (Err e) count where_listed hit symbols = tt
