-- What a selector finds of the document that is held, and how many reads that takes, with comparisons and without.
use Rattle.std.proofs.Common.{◌≡◌, ◌≤◌, ◌<◌, ◌+◌, ◌-◌, ◌*◌, ◌^◌, ℕ, List, [], ◌∷◌, length, map, All, Bool, true, false, Some, nat_lt, sym, ap, ◌∙◌, subst, arith}
use Rattle.std.specs.Prelude.{IfSome, slice_get}
use Rattle.plain_tree.specs.Tree.{Tree, none, more}
use Rattle.slt_grammar.specs.Automata.{hits}
use Rattle.slt_grammar.specs.Grammars.{value}
use Rattle.slt_grammar.specs.Terms.{Term}
use Rattle.rule_runs.specs.Answering.{Fallen}
use Rattle.rule_runs.specs.Hits.{symbols_in}
use Rattle.rule_runs.specs.declared.listing.Hit.{Hit}
use Rattle.text_list.specs.Marking.{mark_of}
use Rattle.value_tests.specs.MarkedCodes.{CodesMarked}
use Rattle.value_tests.specs.MarkedInstances.{marked_nodes}
use Rattle.value_tests.specs.MarkedValues.{marked_value}
use Rattle.value_tests.proofs.MarkedCodes.{standing-marked}
use Rattle.xpath_parser.specs.Comparing.{literals_of, paths_compare}
use Rattle.xpath_parser.specs.Laws.{SpellsOne}
use Rattle.xpath_parser.specs.Limits.{inside, outside}
use Rattle.xpath_parser.specs.Meant.{meant_paths}
use Rattle.xpath_parser.specs.Queries as queries
use Rattle.selecting_automaton.specs.Words.{Selection, word_algebra, word_downward}
use Rattle.selecting_automaton.proofs.Literals.{few-literals}
use Rattle.selecting_automaton.proofs.Unmarked.{codes-unmarked, plain-literals}
use Rattle.store_core.specs.Printed.{hit_line}
use Rattle.store_core.specs.Reads.{ReadsFew, marked_reads, most_reads}
use Rattle.store_core.specs.Selecting.{Finds, HasSelected, IsReading, IsSelectorOf}
use Rattle.store_core.specs.Texts.{selected_line}
use Rattle.store_core.specs.Worlds.{Parts, PartsStandFor, World, parts_in}
use Rattle.store_core.proofs.Asked.{marked-some, reads-found, within-inside, within-outside}
use Rattle.store_core.proofs.Finding.{all-if, mark-there}
use Rattle.store_core.proofs.HitLines.{line-told}

-- where a comparison stands in a query it compares with something
some-literals : (vs : List (List ℕ)) → nat_lt 0 (length vs) ≡ true → vs ≡ [] → ⊥
some-literals [] e empty = absurd (cc)
some-literals (v ∷ vs) e empty = absurd (cc)

module _ (query : List ℕ) (parts : Parts) (selector : Selection) (of : IsSelectorOf query parts.names selector) where
  abbrev chosen : Term → List ℕ
  chosen = hits (word_algebra selector) (word_downward selector)

  abbrev means : queries.Paths
  means = meant_paths query of.paths

  -- what was found of a term that codes the document with marks of the query's literals is what the query selects
  pub has-selected : (tree : Tree) (w : World) (term : Term) (listed : Bool) (found : Fallen) → parts_in w.state ≡ Some parts → PartsStandFor parts tree → CodesMarked parts.names (mark_of (literals_of means)) (more tree none) term
      → Finds (chosen term) (value parts.rules) listed found → HasSelected query w tree found
  has-selected tree w term listed found held stand code f = record {
    answer = chosen term;
    selects = record { parts = parts; held = held; stand = stand; paths = of.paths; spelled = of.spelled; within = of.within; answer = of.selects tree term code };
    count = f.count;
    listed = f.hit;
  }

  module _ (one : SpellsOne) (meant : queries.Paths) (r : IsReading query meant) where
    -- the query was read in one way
    pub meant-same : meant ≡ means
    meant-same = r.means ∙ (one query r.paths of.paths r.spelled of.spelled).0

    -- it compares with few values
    pub few-compared : length (literals_of meant) < 2 ^ 32 - 1
    few-compared = omega (arith, few-literals meant, within-inside query r.paths meant r.spelled r.within r.means, within-outside query r.paths meant r.spelled r.within r.means)

    -- where it compares, the document's texts that equal its literals are marked
    pub coded-marked : (tree : Tree) → PartsStandFor parts tree → CodesMarked parts.names (mark_of (literals_of means)) (more tree none) (marked_value parts.names (map (mark_of (literals_of meant)) parts.texts) parts.rules)
    coded-marked tree stand =
        let mark = mark_of (literals_of meant) in
        subst (λ (ps : queries.Paths). CodesMarked parts.names (mark_of (literals_of ps)) (more tree none) (marked_value parts.names (map mark parts.texts) parts.rules)) meant-same
        (standing-marked parts.rules parts.names parts.texts tree (map mark parts.texts) mark stand (mark-there mark parts.texts))

    -- else none is
    pub coded-plain : paths_compare meant ≡ false → (tree : Tree) → PartsStandFor parts tree → CodesMarked parts.names (mark_of (literals_of means)) (more tree none) (value parts.rules)
    coded-plain plain tree stand = codes-unmarked parts.names means (more tree none) (value parts.rules) (plain-literals means (sym (ap paths_compare meant-same) ∙ plain)) stand.code

    -- the reads of a run over marked texts
    pub reads-marked : (before now : ℕ) → paths_compare meant ≡ true → now ≤ before + (most_reads parts.rules (inside of.paths) (outside of.paths) + 4 * marked_nodes parts.names (map (mark_of (literals_of meant)) parts.texts) parts.rules) → ReadsFew query parts before now
    reads-marked before now compares h =
        let reads : ℕ → ℕ = λ n. most_reads parts.rules (inside of.paths) (outside of.paths) + n in
        let few = subst (λ (n : ℕ). now ≤ before + reads n) (sym (marked-some parts (literals_of meant) (some-literals (literals_of meant) compares))) h in
        reads-found query of.paths parts before now one of.spelled of.within (subst (λ (ps : queries.Paths). now ≤ before + reads (marked_reads parts (literals_of ps))) meant-same few)

    -- those of one over the rules as they are
    pub reads-plain : (before now : ℕ) → now ≤ before + most_reads parts.rules (inside of.paths) (outside of.paths) → ReadsFew query parts before now
    reads-plain before now h = reads-found query of.paths parts before now one of.spelled of.within (omega (arith, h))

-- the lines of what was found are those of the document's nodes
pub lines-found : (parts : Parts) (tree : Tree) (answer : List ℕ) (listed : Bool) (found : Fallen) → PartsStandFor parts tree → Finds answer (value parts.rules) listed found → IfSome found.hits (All (λ hit. hit_line parts.names hit ≡ selected_line tree hit.number))
lines-found parts tree answer listed found stand f =
    all-if (λ (hit : Hit). slice_get (symbols_in (value parts.rules)) hit.number ≡ Some hit.symbol) (λ (hit : Hit). hit_line parts.names hit ≡ selected_line tree hit.number) (line-told parts tree stand) found.hits f.symbols
