use Rattle.std.proofs.Common.{◌∙◌, sym, ap}
use Rattle.plain_tree.specs.NameTable.{seen_pair}
use Rattle.slt_grammar.specs.Grammars.{value}
use Rattle.slt_grammar.specs.Keyed.{rules_of}
use Rattle.bulk_rewrite.proofs.FirstLacking.{told-there, listed-first, listed-none, listed-only}
use Rattle.bulk_rewrite.proofs.new_names.first_lacking.Goals as goal

pub returns-in_default-clause-none : goal.returns-in_default-clause-none
returns-in_default-clause-none g c = λ t code.
    let A = g.A.Rising.algebra c.args.automaton.now in
    let W = g.A.Falling.downward c.args.automaton.now in
    let v = value (rules_of c.args.grammar.now.rules) in
    let h = c.in_ok-hit.ensures.first in
    listed-none A W c.args.names.now c.args.name.now c.in_ok-signs.signs.items c.in_ok-signs.ensures v t code h.found h.are h.symbols (rw c.in_default.is at h.first)

pub unreachable-requires : goal.unreachable-requires
unreachable-requires g c =
    let r = c.requires.coded in
    let v = value (rules_of c.args.grammar.now.rules) in
    let h = c.in_ok-hit.ensures.first in
    let s = rw c.in-Some.is at h.first in
    told-there c.args.names.now v r.0 h.found c.in-Some.hit.symbol s.0.0 r.1 h.symbols s.0.1 (sym c.at.ensures ∙ ap seen_pair c.in-None.is)

pub returns-clause-first : goal.returns-clause-first
returns-clause-first g c = λ t code.
    let A = g.A.Rising.algebra c.args.automaton.now in
    let W = g.A.Falling.downward c.args.automaton.now in
    let v = value (rules_of c.args.grammar.now.rules) in
    let h = c.in_ok-hit.ensures.first in
    let s = rw c.in-Some.is at h.first in
    listed-first A W c.args.names.now c.args.name.now c.in_ok-signs.signs.items c.in_ok-signs.ensures v t code h.found h.are h.symbols c.in-Some.hit.symbol s.0.0 (c.in-Some-at.kind, c.in-Some-at.field-0-1.now) s.0.1 (sym c.in-Some-at.ensures)

pub returns-clause-only : goal.returns-clause-only
returns-clause-only g c = λ only t code.
    let A = g.A.Rising.algebra c.args.automaton.now in
    let W = g.A.Falling.downward c.args.automaton.now in
    let v = value (rules_of c.args.grammar.now.rules) in
    let h = c.in_ok-hit.ensures.first in
    let s = rw c.in-Some.is at h.first in
    listed-only A W c.args.names.now c.args.name.now c.in_ok-signs.signs.items c.in_ok-signs.ensures v t code h.found h.are h.symbols c.in-Some.hit.symbol (c.in-Some-at.kind, c.in-Some-at.field-0-1.now) (s.1 only) (sym c.in-Some-at.ensures)
