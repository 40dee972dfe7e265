use Rattle.std.proofs.Common.{◌≡◌, [], false, true, sym, ◌∙◌, arith}
use Rattle.segment_counts.specs.declared.counts.Measure.TheVariants.{Nodes}
use Rattle.value_cursor.specs.declared.finder.Finder.{Finder}
use Rattle.value_cursor.proofs.Leaving.{last-key}
use Rattle.value_cursor.proofs.Searching.{arrives, goes-on, goes-past, passed-fits, site-label}
use Rattle.value_cursor.proofs.finder.Finder.go_nearer.Goals as goal

pub site-site-requires : goal.site-site-requires
site-site-requires g c =
    let f = c.args.self.now in
    last-key c.args.grammar.now c.requires.keyed f.calls.items f.here c.requires.search.stops

pub plus-self-requires : goal.plus-self-requires
plus-self-requires g c =
    let a = c.args in
    let f = a.self.now in
    let site = c.site-site in
    let label = site-label a.grammar.now.rules f.here site.result (record { node = site.ensures.node; parent = site.ensures.parent }) in
    passed-fits a.names.now a.grammar.now c.requires.keyed a.counts.now c.requires.counts f c.requires.search site.result.label label c.weights-weights.result c.weights-weights.ensures

pub returns-then-weights-number-clause-search : goal.returns-then-weights-number-clause-search
returns-then-weights-number-clause-search g c =
    let a = c.args in
    let f = a.self.now in
    let site = c.site-site in
    let label = site-label a.grammar.now.rules f.here site.result (record { node = site.ensures.node; parent = site.ensures.parent }) in
    let later : Finder = record { here = c.go_past.new.here; calls = c.go_past.new.calls; passed = c.plus-self.result } in
    let e = c.go_past.ensures in
    (goes-past a.names.now a.grammar.now c.requires.keyed a.counts.now c.requires.counts f c.requires.search site.result.label label c.weights-weights.result c.weights-weights.ensures later c.go_past.result e.left e.stops e.room c.plus-self.ensures a.number c.requires.before c.if-weights-number.true c.requires.some).1

pub returns-then-weights-number-clause-before : goal.returns-then-weights-number-clause-before
returns-then-weights-number-clause-before g c = omega (arith, c.plus-self.ensures Nodes, c.if-weights-number.true, c.requires.before)

pub returns-then-weights-number-clause-stands : goal.returns-then-weights-number-clause-stands
returns-then-weights-number-clause-stands g c = λ none.
    let a = c.args in
    let f = a.self.now in
    let site = c.site-site in
    let label = site-label a.grammar.now.rules f.here site.result (record { node = site.ensures.node; parent = site.ensures.parent }) in
    let later : Finder = record { here = c.go_past.new.here; calls = c.go_past.new.calls; passed = c.plus-self.result } in
    let e = c.go_past.ensures in
    let there = goes-past a.names.now a.grammar.now c.requires.keyed a.counts.now c.requires.counts f c.requires.search site.result.label label c.weights-weights.result c.weights-weights.ensures later c.go_past.result e.left e.stops e.room c.plus-self.ensures a.number c.requires.before c.if-weights-number.true c.requires.some in
    let no : false ≡ true = sym none ∙ there.0 in
    cc

pub returns-in-Call-clause-search : goal.returns-in-Call-clause-search
returns-in-Call-clause-search g c =
    let a = c.args in
    let f = a.self.now in
    let later : Finder = record { here = c.enter.new.here; calls = c.enter.new.calls; passed = f.passed } in
    let e = c.enter.ensures in
    (goes-on a.names.now a.grammar.now.rules f c.requires.search later c.enter.result [] (sym e.left) e.stops e.room (λ m. omega arith) (omega (arith, c.requires.before, c.requires.some))).1

pub returns-in-Call-clause-stands : goal.returns-in-Call-clause-stands
returns-in-Call-clause-stands g c = λ none.
    let a = c.args in
    let f = a.self.now in
    let later : Finder = record { here = c.enter.new.here; calls = c.enter.new.calls; passed = f.passed } in
    let e = c.enter.ensures in
    let there = goes-on a.names.now a.grammar.now.rules f c.requires.search later c.enter.result [] (sym e.left) e.stops e.room (λ m. omega arith) (omega (arith, c.requires.before, c.requires.some)) in
    let no : false ≡ true = sym none ∙ there.0 in
    cc

pub returns-in_default-clause-stands : goal.returns-in_default-clause-stands
returns-in_default-clause-stands g c = λ _.
    let a = c.args in
    let f = a.self.now in
    let site = c.site-site in
    let label = site-label a.grammar.now.rules f.here site.result (record { node = site.ensures.node; parent = site.ensures.parent }) in
    arrives a.names.now a.grammar.now c.requires.keyed a.counts.now c.requires.counts f c.requires.search site.result.label label c.weights-weights.result c.weights-weights.ensures a.number c.requires.before c.if-weights-number.false c.in_default.not-Call
