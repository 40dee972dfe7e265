-- How few reads an edit of all nodes of a query takes.
use Rattle.std.proofs.Common.{◌≡◌, ℕ, ◌+◌, ◌-◌, ◌*◌, ◌^◌, ◌≤◌, true, false, List, map, Some, sym, ap, ◌∙◌, subst, arith}
use Rattle.std.proofs.lemmas.Nat.{pow-add}
use Rattle.std.proofs.lemmas.Option.{same_Some}
use Rattle.std.proofs.Math.Nat.{mul_assoc, mul-le-mul_right, one-le-pow}
use Rattle.plain_tree.specs.NodePairs.{Pair}
use Rattle.slt_grammar.specs.Algebras.{Algebra}
use Rattle.slt_grammar.specs.Automata.{Downward}
use Rattle.slt_grammar.specs.Grammars.{IsGrammar, whole}
use Rattle.slt_grammar.specs.Ranks.{greatest_rank}
use Rattle.slt_grammar.specs.declared.rules.Rule.{Rule}
use Rattle.bulk_rewrite.specs.DeletedAll.{deleting_run}
use Rattle.bulk_rewrite.specs.Joining.{texts_in}
use Rattle.bulk_rewrite.specs.Reads.{ReadsInRuns, ReadsInRunsAndFall}
use Rattle.bulk_rewrite.proofs.MarkedStates.{AtEach, marked_code, marked-left, marked-lt, marked-one, marked-right}
use Rattle.selecting_automaton.specs.Bounds.{IsUpOf, AreMarksBelow, HasFewStates}
use Rattle.selecting_automaton.specs.declared.states.Up.{Up}
use Rattle.selecting_automaton.specs.declared.states.Down.{Down}
use Rattle.selecting_automaton.specs.Words.{Selection, word_algebra, word_downward}
use Rattle.value_runs.proofs.StatesWithin.{KeepsDown}
use Rattle.xpath_parser.specs.Comparing.{paths_compare}
use Rattle.xpath_parser.specs.Laws.{SpellsOne}
use Rattle.xpath_parser.specs.Limits.{inside, outside}
use Rattle.xpath_parser.specs.Spelled.{Spells}
use Rattle.xpath_parser.specs.Trees.{Paths}
use Rattle.store_core.specs.Reads.{EditsFew, most_reads}
use Rattle.store_core.specs.Selecting.{IsPlainSelectorOf}
use Rattle.store_core.specs.Worlds.{Parts}
use Rattle.store_core.proofs.Asked.{large-same}
use Rattle.store_core.proofs.StateCounts.{down_code, down-lt, down-one, down-below, fall-few, lists, lists-power, rise-few, spread, ways, ways-power}

module _ (A : Algebra Up) (W : Downward Up Down) (G : List Rule) (g : IsGrammar G) (f k : ℕ) (few : HasFewStates A W f k) where
  -- the states of a run that deletes are as those of the selector, or there is none
  deletion-falls : (names : List Pair) → KeepsDown (deleting_run W names) (IsUpOf f) (AtEach (AreMarksBelow k))
  deletion-falls names =
      let texts = texts_in (map (λ p. p.0) names) in
      record {
        start = few.start;
        left = λ symbol o x y q p r. marked-left W texts (IsUpOf f) (AreMarksBelow k) (λ t d u v a b c. few.left t d u v) symbol o x y q p r;
        right = λ symbol o x y q p r. marked-right W texts (IsUpOf f) (AreMarksBelow k) (λ t d u v a b c. few.right t d u v) symbol o x y q p r;
      }

  abbrev read_lists : ℕ
  read_lists = lists A W G g f k few * whole G

  most-spread : most_reads G f k ≡ 2 * read_lists + 2 * (8 ^ (k + 1) * read_lists)
  most-spread =
      let same : read_lists ≡ 4 ^ (greatest_rank G * f) * whole G = ap (λ m. m * whole G) (lists-power A W G g f k few) in
      rw same (spread (whole G) (4 ^ (greatest_rank G * f)) (8 ^ (k + 1)))

  eight-some : 8 ≤ 8 ^ (k + 1)
  eight-some =
      let one : 1 ≤ 8 ^ k = one-le-pow k 8 (omega arith) in
      let next : 8 ^ (k + 1) ≡ 8 ^ k * 8 = pow-add 8 k 1 in
      omega (arith, one, next)

  -- all nodes that a selector hits were renamed with so few reads
  pub renamed-few : (before now : ℕ) → ReadsInRuns A G 7 (now - before) → before ≤ now → now ≤ before + 2 * most_reads G f k
  renamed-few before now r later =
      let one = rise-few A W G g f k few r.pairs r.each r.reads in
      let some : 8 * read_lists ≤ 8 ^ (k + 1) * read_lists = mul-le-mul_right read_lists eight-some in
      omega (arith, r.bound, one, some, most-spread, later)

  -- they were deleted
  pub deleted-few : (names : List Pair) (before now : ℕ) → ReadsInRunsAndFall A (deleting_run W names) G 4 (now - before) → before ≤ now → now ≤ before + 2 * most_reads G f k
  deleted-few names before now r later =
      let v : ℕ = ways A W G g f k few in
      let up = r.rises in
      let one = rise-few A W G g f k few up.pairs up.each up.reads in
      let many : 4 * v ≡ 8 ^ (k + 1) = ways-power A W G g f k few in
      let below = marked-lt (AreMarksBelow k) (down_code (2 ^ k)) v (omega (arith, many, eight-some)) (λ d m. down-lt (2 ^ k) d (down-below A W G g f k few d m)) in
      let apart = marked-one (AreMarksBelow k) (down_code (2 ^ k)) (λ d e m l same. down-one (2 ^ k) d e (down-below A W G g f k few d m) (down-below A W G g f k few e l) same) in
      let fall = fall-few A W G g f k few (deleting_run W names) (AtEach (AreMarksBelow k)) (deletion-falls names) (marked_code (AreMarksBelow k) (down_code (2 ^ k))) (4 * v) below apart r.triples r.fall_steps r.falls in
      let same : 4 * v * lists A W G g f k few * whole G ≡ 8 ^ (k + 1) * read_lists = mul_assoc (4 * v) (lists A W G g f k few) (whole G) ∙ ap (λ n. n * read_lists) many in
      let some : 8 * read_lists ≤ 8 ^ (k + 1) * read_lists = mul-le-mul_right read_lists eight-some in
      omega (arith, r.bound, up.bound, one, fall, same, some, most-spread, later)

-- few reads for a selector of a query that compares nothing are few for what it spells
pub edit-reads : (query : List ℕ) (parts : Parts) (selector : Selection) (before now : ℕ) → SpellsOne → IsPlainSelectorOf query parts.names selector
    → ((f k : ℕ) → HasFewStates (word_algebra selector) (word_downward selector) f k → now ≤ before + 2 * most_reads parts.rules f k) → EditsFew query parts before now
edit-reads query parts selector before now one plain reads =
    let of = plain.of in
    record {
      few = λ paths spelled. reads (inside paths) (outside paths) (states-same query of.paths paths (word_algebra selector) (word_downward selector) one of.spelled spelled of.states);
      none = λ never. absurd (never of.paths of.spelled);
      large = λ is. absurd (of.within (large-same query is.0 of.paths one is.1 of.spelled is.2));
      compares = λ is.
          let same = (one query is.0 of.paths is.1 of.spelled).0 in
          let differs : true ≡ false = sym is.3 ∙ (ap paths_compare same ∙ plain.plain) in
          absurd (cc);
    }
  where
    states-same : (bytes : List ℕ) (ps qs : Paths) (A : Algebra Up) (W : Downward Up Down) → SpellsOne → Spells bytes ps → Spells bytes qs → HasFewStates A W (inside ps) (outside ps) → HasFewStates A W (inside qs) (outside qs)
    states-same bytes ps qs A W one first second h =
        let same = one bytes ps qs first second in
        subst (λ (n : ℕ). HasFewStates A W n (outside qs)) same.2 (subst (λ (n : ℕ). HasFewStates A W (inside ps) n) same.1 h)

-- they are few for the query that a command names
pub named-reads : (text query : List ℕ) (parts : Parts) (before now : ℕ) → Some text ≡ Some query → EditsFew text parts before now → EditsFew query parts before now
named-reads text query parts before now named few = subst (λ (q : List ℕ). EditsFew q parts before now) (same_Some text query named) few
