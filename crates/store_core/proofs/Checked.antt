-- What a check of the document comes to.
use Rattle.std.proofs.Common.{◌≡◌, ◌<◌, ◌^◌, ℕ, List, length, Some, Result, Ok, Err, true, refl, ap, sym, subst}
use Rattle.std.specs.Prelude.{◌↔◌, IfOk, IfSome, IsSome, IsTrue}
use Rattle.plain_tree.specs.Numbers.{nodes}
use Rattle.plain_tree.specs.Tree.{Tree}
use Rattle.content_models.specs.Models.{Model}
use Rattle.content_models.specs.Wrong.{AreWrong}
use Rattle.content_models.specs.declared.error.SchemaError.{SchemaError}
use Rattle.content_models.specs.declared.error.SchemaError.TheVariants as error
use Rattle.rule_runs.specs.Answering.{Fallen, listed_hits}
use Rattle.rule_runs.specs.Hits.{numbers}
use Rattle.rule_runs.proofs.Answering.{of-listed}
use Rattle.tree_outside.specs.Outside.{Stays}
use Rattle.store_core.specs.Acts.{Check}
use Rattle.store_core.specs.Errors.{IsNoSchema, SaysOfSchema}
use Rattle.store_core.specs.Machine.{Checks}
use Rattle.store_core.specs.Refusals.{Cause}
use Rattle.store_core.specs.Schemas.{FindsWrong, SpellsLargeSchema, SpellsModels, SpellsNoSchema, verdict}
use Rattle.store_core.specs.Texts.{answer_line}
use Rattle.store_core.specs.Worlds.{AreLawfulParts, HasFile, Parts, PartsStandFor, World, parts_in}
use Rattle.store_core.specs.declared.answer.Answer.{Answer}
use Rattle.store_core.specs.declared.answer.Refusal.{Refusal}
use Rattle.store_core.specs.declared.answer.Refusal.TheVariants as no
use Rattle.store_core.proofs.FoundFiles.{check_reads, ready_to_load}

-- what an error of the reader of schemas says of the bytes
pub schema_says : (e : SchemaError) (bytes : List ℕ) → (e ≡ error.Bad → SpellsNoSchema bytes) → (e ≡ error.Large → SpellsLargeSchema bytes) → SaysOfSchema e bytes
schema_says error.Bad bytes bad large = bad refl
schema_says error.Large bytes bad large = large refl
schema_says error.Memory bytes bad large = tt

-- why no schema is read of a file is a cause to refuse the check
pub no_schema : (refusal : Refusal) (name bytes : List ℕ) (old new : World) → IsSome old.state → HasFile old name bytes → length bytes < 2 ^ 30 → IsNoSchema refusal bytes → Cause refusal (Check name) old new
no_schema no.BadSchema name bytes old new some has short why = (bytes, record { input = record { name = name; reads = refl; file = has }; short = short }, λ needs. some, why)
no_schema no.LargeSchema name bytes old new some has short why = (bytes, record { input = record { name = name; reads = refl; file = has }; short = short }, λ needs. some, why)
no_schema no.Memory name bytes old new some has short why = ready_to_load (Check name) old name bytes (check_reads name old.state some) has
no_schema refusal name bytes old new some has short why = absurd why

-- what a run says that lists its hits, at once
pub finds-wrong : {E : Type 0} (schema : List (List ℕ × Model)) (parts : Parts) (answer : List ℕ) (r : Result Fallen E) → ((tree : Tree) → PartsStandFor parts tree → AreWrong schema 0 (nodes tree) answer)
    → IfOk r (λ found. IsSome found.hits ↔ IsTrue true) → IfOk r (λ found. IfSome found.hits (λ hs. numbers hs ≡ answer)) → IfOk r (FindsWrong schema parts)
finds-wrong schema parts answer (Ok found) wrong listed hit =
    let some = listed.1 refl in
    record {
      listed = some;
      wrong = λ tree stand. subst (AreWrong schema 0 (nodes tree)) (sym (of-listed found.hits (λ hs. numbers hs ≡ answer) some hit)) (wrong tree stand);
    }
finds-wrong schema parts answer (Err e) wrong listed hit = tt

-- what was found of the document that is held, under the schema of a file, is what a check prints
pub checked :
    (name bytes : List ℕ) (schema : List (List ℕ × Model)) (parts : Parts) (found : Fallen) (answer : Answer) (old new : World) → HasFile old name bytes → length bytes < 2 ^ 30 → SpellsModels bytes schema
    → AreLawfulParts parts → parts_in old.state ≡ Some parts → FindsWrong schema parts found → answer ≡ verdict (numbers (listed_hits found.hits)) → new.state ≡ old.state → Stays old.files new.files
    → Checks name old (answer_line answer) new
checked name bytes schema parts found answer old new has short spelled are held finds says state files = record {
  parts = parts;
  tree = are.tree;
  schema = schema;
  wrong = numbers (listed_hits found.hits);
  held = held;
  stand = are.stand;
  file = record { bytes = bytes; file = has; short = short; spelled = spelled };
  are = finds.wrong are.tree are.stand;
  same = record { state = state; files = files };
  printed = ap answer_line says;
}
