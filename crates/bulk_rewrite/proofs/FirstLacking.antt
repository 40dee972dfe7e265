-- The first node that is hit whose kind lacks the name in the table.
use Rattle.std.proofs.Common.{◌≡◌, ◌≢◌, ℕ, List, [], ◌∷◌, ◌++◌, map, filter, All, false, Option, None, Some, slice_get, refl, sym, ap, ◌∙◌, subst}
use Rattle.std.specs.List.{AllZip}
use Rattle.std.proofs.lemmas.List.Elements.{All-head}
use Rattle.plain_tree.specs.NodePairs.{Pair}
use Rattle.plain_tree.specs.Tree.{Tree, none, more}
use Rattle.slt_grammar.specs.Algebras.{Algebra}
use Rattle.slt_grammar.specs.Automata.{Downward, hits}
use Rattle.slt_grammar.specs.Coding.{Codes}
use Rattle.slt_grammar.specs.Terms.{Term}
use Rattle.rule_runs.specs.Hits.{numbers, symbols_in}
use Rattle.rule_runs.specs.declared.listing.Hit.{Hit}
use Rattle.rule_runs.proofs.Symbols.{symbol-node}
use Rattle.bulk_rewrite.specs.NewNames.{FirstLacks, AreIn, TellsKnown}
use Rattle.bulk_rewrite.specs.Refusing.{no_sign, signs_of, refusing_run}
use Rattle.bulk_rewrite.specs.RenamedAll.{nodes_with, renamed_pairs}
use Rattle.bulk_rewrite.specs.declared.refusing.Sign.{Sign}
use Rattle.bulk_rewrite.proofs.GrowingNames.{first-lacks, none-lacks, only-lacks, lacks}
use Rattle.bulk_rewrite.proofs.HitSymbols.{hit_symbols, told-symbols, refused-symbols}
use Rattle.bulk_rewrite.proofs.RenamingAll.{hits-of-tree}
use Rattle.bulk_rewrite.proofs.Zips.{zip-each}

-- symbols that are told are those of the code
pub told-there : (names : List Pair) (term : Term) (t : Tree) (found : List Hit) (f : ℕ) (rest : List ℕ) → Codes names (more t none) term → All (λ h. slice_get (symbols_in term) h.number ≡ Some h.symbol) found → map (λ h. h.symbol) found ≡ f ∷ rest → slice_get names f ≢ None
told-there names term t [] f rest code all e absent = absurd (cc)
told-there names term t (hit ∷ found) f rest code all e absent =
    let P : Hit → Type 0 = λ h. slice_get (symbols_in term) h.number ≡ Some h.symbol in
    let same : hit.symbol ≡ f = cc in
    let here = symbol-node names (more t none) term code hit.number hit.symbol (All-head P hit found all) in
    let both : ◌≡◌ {A = Option Pair} None (Some (here.kind, here.name)) = sym absent ∙ ap (slice_get names) (sym same) ∙ here.pair in
    absurd (cc)

module _ {S D : Type 0} (A : Algebra S) (W : Downward S D) (names : List Pair) (name : List ℕ) (signs : List Sign) (told : AllZip (TellsKnown names name) names signs) (term : Term) (t : Tree) (code : Codes names (more t none) term) (found : List Hit)
    (are : numbers found ≡ hits A (refusing_run W (signs_of signs)) term) (symbols : All (λ h. slice_get (symbols_in term) h.number ≡ Some h.symbol) found) where
  silent : (f : ℕ) → (signs_of signs).attributes f ≡ false
  silent f = zip-each (TellsKnown names name) (λ s. s.attribute ≡ false) no_sign refl (λ p s h. h.silent) names signs f told

  told-are : map (λ h. h.symbol) found ≡ filter (lacks names name signs told) (hit_symbols A W [] term W.start)
  told-are = told-symbols A (refusing_run W (signs_of signs)) term (record { down = W.start; came = false }) found are symbols ∙ refused-symbols A W [] (signs_of signs) silent term W.start false

  pub listed-first : (f : ℕ) (rest : List ℕ) (p : Pair) → map (λ h. h.symbol) found ≡ f ∷ rest → slice_get names f ≡ Some p → FirstLacks names (renamed_pairs (hits A W term) name t) (p.0, name)
  listed-first f rest p e at = first-lacks names name signs told (hit_symbols A W [] term W.start) (nodes_with (hits A W term) t) (hits-of-tree A W names term t code) f rest (sym told-are ∙ e) p at

  pub listed-only : (f : ℕ) (p : Pair) → All (λ g. g ≡ f) (map (λ h. h.symbol) found) → slice_get names f ≡ Some p → AreIn (names ++ (p.0, name) ∷ []) (renamed_pairs (hits A W term) name t)
  listed-only f p e at = only-lacks names name signs told (hit_symbols A W [] term W.start) (nodes_with (hits A W term) t) (hits-of-tree A W names term t code) f (subst (All (λ g. g ≡ f)) told-are e) p at

  pub listed-none : map (λ h. h.symbol) found ≡ [] → AreIn names (renamed_pairs (hits A W term) name t)
  listed-none e = none-lacks names name signs told (hit_symbols A W [] term W.start) (nodes_with (hits A W term) t) (hits-of-tree A W names term t code) (sym told-are ∙ e)
