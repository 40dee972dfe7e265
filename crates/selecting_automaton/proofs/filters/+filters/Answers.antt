use Rattle.std.proofs.Common.{◌-◌, ◌<◌, ◌+◌, ◌≡◌, ◌∙◌, ap, arith, subst}
use Rattle.xpath_parser.specs.declared.query.Axis.TheVariants.{Child}
use Rattle.xpath_parser.specs.declared.query.Path.{out-Path}
use Rattle.xpath_parser.specs.Queries.{TextOf}
use Rattle.xpath_parser.specs.Shown.{filter_of, filters_of, path_of, paths_of, steps_of, step_of}
use Rattle.text_list.specs.Marking.{mark_of}
use Rattle.selecting_automaton.specs.Wanting.{wanted}
use Rattle.selecting_automaton.proofs.Writing.{StepsWritten, weight_of_filter, weight_of_filters, weight_of_paths, weight_of_steps, lighter-filter, lighter-path, lighter-step, path_rolled, comparison-written, filters-next, filters-whole, search-next, search-whole, steps-begun, steps-next}
use Rattle.selecting_automaton.proofs.filters.+filters.Goals as goal

pub write_filters-write_filter-requires : goal.write_filters-write_filter-requires
write_filters-write_filter-requires t c =
    let h = lighter-filter (filters_of c.args.filters.now) c.filters.at (filter_of c.in-Some.filter.now) c.in-Some.ensures in
    (subst (λ k. weight_of_filter (filter_of c.in-Some.filter.now) < k) c.decreases h, c.requires)

pub write_search-write_steps-requires : goal.write_search-write_steps-requires
write_search-write_steps-requires t c =
    let h = lighter-path (paths_of c.args.paths.now) c.paths.at (path_of c.in-Some.path.now) c.in-Some.ensures in
    (subst (λ k. weight_of_steps (steps_of (out-Path c.in-Some.path.now).steps) < k) c.decreases (subst (λ ss. weight_of_steps ss < weight_of_paths (paths_of c.args.paths.now)) (path_rolled c.in-Some.path.now) h), c.requires)

pub write_steps-write_filters-requires : goal.write_steps-write_filters-requires
write_steps-write_filters-requires t c =
    let h = lighter-step (steps_of c.args.steps.now) (c.steps.at - 1) (step_of c.in-Some.step.now) c.in-Some.ensures in
    (subst (λ k. weight_of_filters (filters_of c.in-Some.step.now.filters) < k) c.decreases h, c.requires)

pub write_filters-filters-preserved : goal.write_filters-filters-preserved
write_filters-filters-preserved t c =
    filters-next (wanted c.args.names.now (mark_of c.args.literals.now)) c.args.turns.now.items c.filters.turns.items c.write_filter.new.turns.items c.filters.at (filters_of c.args.filters.now) (filter_of c.in-Some.filter.now)
    c.in-Some.ensures c.filters.invariant c.in_ok-write_filter.ensures

pub write_filters-returns : goal.write_filters-returns
write_filters-returns t c =
    filters-whole (wanted c.args.names.now (mark_of c.args.literals.now)) c.args.turns.now.items c.filters.turns.items c.push.new.self.items c.write_many.new.turns.items c.filters.at c.len-count.result (filters_of c.args.filters.now)
    c.len-count.ensures c.filters-test.false c.filters.auto.at-end c.filters.invariant c.in_ok-push.ensures.items c.in_ok-write_many.ensures

pub write_search-paths-preserved : goal.write_search-paths-preserved
write_search-paths-preserved t c =
    search-next (wanted c.args.names.now (mark_of c.args.literals.now)) c.args.turns.now.items c.paths.turns.items c.write_steps.new.turns.items c.paths.at (paths_of c.args.paths.now) c.in-Some.path.now
    c.in-Some.ensures c.paths.invariant c.in_ok-write_steps.ensures

pub write_search-returns : goal.write_search-returns
write_search-returns t c =
    search-whole (wanted c.args.names.now (mark_of c.args.literals.now)) c.args.turns.now.items c.paths.turns.items c.push.new.self.items c.write_many.new.turns.items c.paths.at c.len-count.result (paths_of c.args.paths.now)
    c.len-count.ensures c.paths-test.false c.paths.auto.at-end c.paths.invariant c.in_ok-push.ensures.items c.in_ok-write_many.ensures

pub write_steps-steps-init : goal.write_steps-steps-init
write_steps-steps-init t c =
    let e = c.len-at.ensures in
    (steps-begun (wanted c.args.names.now (mark_of c.args.literals.now)) c.args.turns.now.items c.push.new.self.items c.len-at.result (steps_of c.args.steps.now) (omega arith) c.in_ok-push.ensures.items, omega arith)

pub write_steps-steps-preserved : goal.write_steps-steps-preserved
write_steps-steps-preserved t c =
    let at : c.steps.at ≡ (c.steps.at - 1) + 1 = let h = c.steps-test.true in omega arith in
    let le = c.steps.invariant.1 in (
      steps-next (wanted c.args.names.now (mark_of c.args.literals.now)) c.args.turns.now.items c.steps.turns.items c.write_filters.new.turns.items c.push-in-steps.new.self.items (c.steps.at - 1) (steps_of c.args.steps.now) (step_of c.in-Some.step.now)
          c.wanted_of.result c.in-Some.ensures (subst (λ k. StepsWritten (wanted c.args.names.now (mark_of c.args.literals.now)) c.args.turns.now.items c.steps.turns.items k (steps_of c.args.steps.now)) at c.steps.invariant.0)
          c.in_ok-write_filters.ensures (c.wanted_of.ensures (mark_of c.args.literals.now)) c.in_ok-push-2.ensures.items,
      omega arith,
    )

pub write_steps-returns : goal.write_steps-returns
write_steps-returns t c =
    let none : c.steps.at ≡ 0 = let h = c.steps-test.false in omega arith in
    subst (λ k. StepsWritten (wanted c.args.names.now (mark_of c.args.literals.now)) c.args.turns.now.items c.steps.turns.items k (steps_of c.args.steps.now)) none c.steps.invariant.0

pub write_filter-returns-in_ok-write_comparison-in-TextIs : goal.write_filter-returns-in_ok-write_comparison-in-TextIs
write_filter-returns-in_ok-write_comparison-in-TextIs t c =
    let names = c.args.names.now in
    let mark = mark_of c.args.literals.now in
    comparison-written (wanted names mark) c.args.turns.now.items c.write_comparison.new.turns.items Child (TextOf c.in-TextIs.value) c.text_wanted-wanted.result (filter_of c.args.filter.now)
    c.in_ok-write_comparison-in-TextIs.ensures (c.text_wanted-wanted.ensures names ∙ ap (λ v. wanted names mark Child (TextOf v)) c.as_slice.ensures) (ap filter_of c.in-TextIs.is)
