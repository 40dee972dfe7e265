-- Why a grammar file is refused, and what it makes of a store.
use Rattle.std.specs.Prelude.{◌≡◌, ◌≤◌, ◌<◌, ◌^◌, ℕ, List, length, refl}
use Rattle.std.proofs.Common.{inl}
use Rattle.plain_tree.specs.declared.kind.Kind.{Kind}
use Rattle.plain_tree.specs.Tree.{Tree, node_count}
use Rattle.slt_grammar.specs.Standing.{StandsFor}
use Rattle.slt_grammar.specs.declared.rules.Rule.{Rule}
use Rattle.grammar_file.specs.Files.{IsFileOf}
use Rattle.grammar_file.specs.declared.error.FileError.{FileError}
use Rattle.grammar_file.specs.declared.error.FileError.TheVariants as file
use Rattle.store_core.specs.Errors.{SaysOfFile}
use Rattle.store_core.specs.GrammarStores.{IsNoStore}
use Rattle.store_core.specs.Acts.{LoadGrammar}
use Rattle.store_core.specs.Refusals.{Cause}
use Rattle.store_core.specs.Worlds.{World, HasFile}
use Rattle.store_core.specs.declared.answer.Refusal.{Refusal}
use Rattle.store_core.specs.declared.answer.Refusal.TheVariants as no
use Rattle.store_core.proofs.FoundFiles.{ready_to_load, load_grammar_reads}

-- what an error of the reader says of the bytes
pub file_says :
    (error : FileError) (bytes : List ℕ)
    → (error ≡ file.Bad → (names : List (Kind × List ℕ)) (G : List Rule) (texts : List (List ℕ)) (t : Tree) → IsFileOf bytes names G texts → StandsFor G names texts t → ⊥)
    → (error ≡ file.TooMany → (names : List (Kind × List ℕ)) × (G : List Rule) × (texts : List (List ℕ)) × (t : Tree) × IsFileOf bytes names G texts × StandsFor G names texts t × (2 ^ 63 ≤ node_count t))
    → SaysOfFile error bytes
file_says file.Bad bytes bad many = λ parts tree f. bad refl parts.names parts.rules parts.texts tree f.file f.stand
file_says file.TooMany bytes bad many =
    let (names, G, texts, t, f, stand, more) = many refl in
    record {
      parts = record { names = names; rules = G; texts = texts };
      tree = t;
      file = record { file = f; stand = stand };
      many = more;
    }
file_says file.Memory bytes bad many = tt

-- why no store is made of a file is a cause to refuse the loading
pub no_store :
    (refusal : Refusal) (name bytes : List ℕ) (old new : World) → HasFile old name bytes → length bytes < 2 ^ 30 → IsNoStore refusal bytes → Cause refusal (LoadGrammar name) old new
no_store no.BadGrammar name bytes old new has short why = (bytes, record { input = record { name = name; reads = refl; file = has }; short = short }, why)
no_store no.TooMany name bytes old new has short why = inl (bytes, record { input = record { name = name; reads = refl; file = has }; short = short }, why)
no_store no.Memory name bytes old new has short why = ready_to_load (LoadGrammar name) old name bytes (load_grammar_reads name old.state) has
no_store refusal name bytes old new has short why = absurd why
