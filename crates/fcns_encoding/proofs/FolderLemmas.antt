-- One call more of a folder.
use Rattle.std.proofs.Common.{◌≡◌, ℕ, ◌+◌, ◌-◌, true, List, [], ◌∷◌, ◌++◌, Some, slice_get, ap, sym, ◌∙◌, subst, arith}
use Rattle.std.specs.Prelude.{Option, is_some, if◌then◌else◌}
use Rattle.plain_tree.specs.declared.kind.Kind.{Kind}
use Rattle.plain_tree.specs.declared.kind.Kind.TheVariants as kind
use Rattle.plain_tree.specs.Numbers.{has_value}
use Rattle.xml_nodes.specs.Machine.{Event, Opened, Leaf, Closed}
use Rattle.fcns_encoding.specs.Calls.{started_pairs}
use Rattle.fcns_encoding.specs.Cells.{terms_of, AreUsed}
use Rattle.fcns_encoding.specs.Folding.{Tells, Taken, IsFolding, told, waiting, begun_in}
use Rattle.fcns_encoding.specs.Interning.{Pair, Interns}
use Rattle.fcns_encoding.specs.declared.part.Part.{Part}
use Rattle.fcns_encoding.specs.declared.part.Part.TheVariants.{Begun, Whole}
use Rattle.fcns_encoding.specs.declared.subterms.Cell.{Cell}
use Rattle.fcns_encoding.proofs.BuildLemmas.{tells_open, tells_leaf, tells_closed}
use Rattle.fcns_encoding.proofs.CellLemmas.{terms_zero}
use Rattle.fcns_encoding.proofs.InternLemmas.{KeepsPlaces}
use Rattle.fcns_encoding.proofs.LogLemmas.{tells-told}
use Rattle.fcns_encoding.proofs.PartLemmas.{used-open, used-leaf, used-put, begun-append}

-- what fields tell is what they are told
pub folding : (names : List Pair) (cells : List Cell) (values : List (List ℕ)) (stack : List Part) (log : List Event) → Tells names (terms_of cells) values stack log → AreUsed cells (waiting stack)
    → IsFolding names cells values stack
folding names cells values stack log w used = record { tells = subst (Tells names (terms_of cells) values stack) (sym (tells-told names cells values stack log w)) w; used = used }

-- The fields after a call tell one call more.
pub record Goes (names : List Pair) (cells : List Cell) (values : List (List ℕ)) (stack : List Part) (calls : List Event) (count : ℕ) : Type 0 where
  pub folding : IsFolding names cells values stack
  pub log : told names cells values stack ≡ calls
  pub depth : begun_in stack ≡ count

module _ (names names' : List Pair) (cells : List Cell) (values : List (List ℕ)) (stack stack' : List Part) (f : IsFolding names cells values stack) (keeps : KeepsPlaces names names') (symbol : ℕ) where
  pub goes-open : (k : Kind) (name : List ℕ) → k ≡ kind.Element → Interns [] (started_pairs (told names cells values stack) ++ (k, name) ∷ []) names' → slice_get names' symbol ≡ Some (k, name)
      → stack' ≡ stack ++ Begun symbol ∷ [] → Goes names' cells values stack' (told names cells values stack ++ Opened name ∷ []) (begun_in stack + 1)
  goes-open k name is named place e =
      let log = told names cells values stack in
      let t = tells_open names (terms_of cells) values stack log f.tells names' k name symbol stack' is keeps named place e in
      record {
        folding = folding names' cells values stack' (log ++ Opened name ∷ []) t (used-open cells stack stack' symbol e f.used);
        log = tells-told names' cells values stack' (log ++ Opened name ∷ []) t;
        depth = ap begun_in e ∙ begun-append stack (Begun symbol ∷ []);
      }

  pub goes-leaf : (values' : List (List ℕ)) (k : Kind) (name value : List ℕ) → has_value k ≡ true → Interns [] (started_pairs (told names cells values stack) ++ (k, name) ∷ []) names'
      → slice_get names' symbol ≡ Some (k, name) → values' ≡ values ++ value ∷ [] → stack' ≡ stack ++ Whole symbol 0 ∷ []
      → Goes names' cells values' stack' (told names cells values stack ++ Leaf k name value ∷ []) (begun_in stack)
  goes-leaf values' k name value leaf named place x e =
      let log = told names cells values stack in
      let t = tells_leaf names (terms_of cells) values stack log f.tells names' k name value symbol stack' values' leaf (terms_zero cells) keeps named place x e in
      record {
        folding = folding names' cells values' stack' (log ++ Leaf k name value ∷ []) t (used-leaf cells stack stack' symbol e f.used);
        log = tells-told names' cells values' stack' (log ++ Leaf k name value ∷ []) t;
        depth = ap begun_in e ∙ begun-append stack (Whole symbol 0 ∷ []) ∙ omega arith;
      }

pub goes-close : (names : List Pair) (cells cells' : List Cell) (values : List (List ℕ)) (stack parts stack' : List Part) (code symbol : ℕ) (begun : Option ℕ) → begun ≡ Some symbol → IsFolding names cells values stack
    → Taken names (terms_of cells') parts (told names cells values stack) code begun → AreUsed cells' (code ∷ waiting parts) → begun_in stack ≡ begun_in parts + (if is_some begun then 1 else 0)
    → stack' ≡ parts ++ Whole symbol code ∷ [] → Goes names cells' values stack' (told names cells values stack ++ Closed ∷ []) (begun_in stack - 1)
goes-close names cells cells' values stack parts stack' code symbol begun is f took used count e =
    let taken : Taken names (terms_of cells') parts (told names cells values stack) code (Some symbol) = subst (Taken names (terms_of cells') parts (told names cells values stack) code) is took in
    let depth : begun_in stack ≡ begun_in parts + 1 = count ∙ ap (λ b. begun_in parts + (if is_some b then 1 else 0)) is in
    let log = told names cells values stack in
    let t = tells_closed names (terms_of cells) values stack log f.tells (terms_of cells') parts stack' code symbol taken e in
    record {
      folding = folding names cells' values stack' (log ++ Closed ∷ []) t (used-put cells' parts stack' symbol code e used);
      log = tells-told names cells' values stack' (log ++ Closed ∷ []) t;
      depth = let n : begun_in (parts ++ Whole symbol code ∷ []) ≡ begun_in stack - 1 = omega (arith, begun-append parts (Whole symbol code ∷ []), depth) in ap begun_in e ∙ n;
    }
