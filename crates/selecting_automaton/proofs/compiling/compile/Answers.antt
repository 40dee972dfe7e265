use Rattle.std.proofs.Common.{◌≡◌, ◌++◌, ◌<◌, ◌≤◌, ◌-◌, ◌^◌, List, [], ℕ, ap, sym, ◌∙◌, subst, arith, length}
use Rattle.plain_tree.specs.declared.kind.Kind.{Kind}
use Rattle.xpath_parser.specs.Comparing.{literals_of}
use Rattle.xpath_parser.specs.Queries.{Paths}
use Rattle.xpath_parser.specs.Shown.{paths_of}
use Rattle.selecting_automaton.specs.declared.turns.Turn.{Turn}
use Rattle.selecting_automaton.specs.Program.{selecting}
use Rattle.text_list.specs.Marking.{mark_of}
use Rattle.selecting_automaton.specs.Sizes.{parts_inside, steps_outside}
use Rattle.selecting_automaton.specs.Wanting.{wanted}
use Rattle.selecting_automaton.specs.Words.{Selection, seeks}
use Rattle.selecting_automaton.specs.Depths.{FitWords}
use Rattle.selecting_automaton.proofs.Literals.{few-literals}
use Rattle.selecting_automaton.proofs.Selecting.{selector-selects}
use Rattle.selecting_automaton.proofs.Sizing.{selecting-fits, query-states}
use Rattle.selecting_automaton.proofs.compiling.compile.Goals as goal

few : (ps : Paths) (ls : List (List ℕ)) → ls ≡ literals_of ps → parts_inside ps ≤ 64 → steps_outside ps ≤ 64 → length ls < 2 ^ 32 - 1
few ps ls e h k = omega (arith, few-literals ps, ap length e, h, k)

pub write_paths-requires : goal.write_paths-requires
write_paths-requires c = few (paths_of c.args.query.now.paths) c.literals.result.now c.literals.ensures c.requires.few c.requires.short

-- the turns, by the values that the query compares with
turns-are : (names : List (Kind × List ℕ)) (ps : Paths) (ls : List (List ℕ)) (none turns : List Turn) → turns ≡ none ++ selecting (wanted names (mark_of ls)) ps → none ≡ [] → ls ≡ literals_of ps
    → turns ≡ selecting (wanted names (mark_of (literals_of ps))) ps
turns-are names ps ls none turns e n l = e ∙ ap (λ (ts : List Turn). ts ++ selecting (wanted names (mark_of ls)) ps) n ∙ ap (λ (vs : List (List ℕ)). selecting (wanted names (mark_of vs)) ps) l

pub invariant_of-result : goal.invariant_of-result
invariant_of-result c =
    let ps = paths_of c.args.query.now.paths in
    let e = turns-are c.args.names.now ps c.literals.result.now c.new-turns.result.items c.write_paths.new.turns.items c.in_ok-write_paths.ensures c.new-turns.ensures.items c.literals.ensures in
    (c.parts_sought-parts.ensures ∙ ap seeks c.deref.ensures.value, subst FitWords (sym e) (selecting-fits (wanted c.args.names.now (mark_of (literals_of ps))) ps c.requires.few c.requires.short))

pub returns : goal.returns
returns c =
    let ps = paths_of c.args.query.now.paths in
    let selection : Selection = record { kinds = c.in_ok-kinds.kinds.items; turns = c.write_paths.new.turns.items } in
    let e = turns-are c.args.names.now ps c.literals.result.now c.new-turns.result.items c.write_paths.new.turns.items c.in_ok-write_paths.ensures c.new-turns.ensures.items c.literals.ensures in
    record {
      selects = selector-selects c.args.names.now selection ps c.find-document.ensures.distinct c.in_ok-kinds.ensures e;
      states = query-states (wanted c.args.names.now (mark_of (literals_of ps))) selection ps e;
    }
