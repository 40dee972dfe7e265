use Rattle.std.proofs.Common.{◌≤◌, length}
use Rattle.xpath_parser.specs.Shown.{filter_of, filters_of, steps_of, paths_of, step_list}
use Rattle.text_list.specs.Marking.{mark_of}
use Rattle.selecting_automaton.specs.Wanting.{wanted}
use Rattle.selecting_automaton.proofs.Writing.{weight_of_filter, weight_of_filters, weight_of_paths, weight_of_steps, FiltersWritten, SearchWritten, StepsWritten}
use Rattle.selecting_automaton.proofs.filters.+filters.Given as goal

abbrev pub decreases-write_filter : goal.decreases-write_filter
decreases-write_filter l = weight_of_filter (filter_of l.filter.now)

abbrev pub decreases-write_filters : goal.decreases-write_filters
decreases-write_filters l = weight_of_filters (filters_of l.filters.now)

abbrev pub decreases-write_search : goal.decreases-write_search
decreases-write_search l = weight_of_paths (paths_of l.paths.now)

abbrev pub decreases-write_steps : goal.decreases-write_steps
decreases-write_steps l = weight_of_steps (steps_of l.steps.now)

abbrev pub invariant-write_filters-filters : goal.invariant-write_filters-filters
invariant-write_filters-filters l = FiltersWritten (wanted l.names (mark_of l.literals)) l.fn.turns.items l.turns.items l.at (filters_of l.filters)

abbrev pub invariant-write_search-paths : goal.invariant-write_search-paths
invariant-write_search-paths l = SearchWritten (wanted l.names (mark_of l.literals)) l.fn.turns.items l.turns.items l.at (paths_of l.paths)

abbrev pub invariant-write_steps-steps : goal.invariant-write_steps-steps
invariant-write_steps-steps l = StepsWritten (wanted l.names (mark_of l.literals)) l.fn.turns.items l.turns.items l.at (steps_of l.steps) × (l.at ≤ length (step_list (steps_of l.steps)))
