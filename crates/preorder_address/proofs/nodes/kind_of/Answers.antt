use Rattle.std.proofs.Common.{◌∙◌, ◌-◌, sym, arith, length}
use Rattle.preorder_address.proofs.Naming.{total-count, no-kind, numbered, kind-told, named, never-unnamed}
use Rattle.preorder_address.proofs.nodes.kind_of.Goals as goal

pub returns-in_err-descent-clause-kind : goal.returns-in_err-descent-clause-kind
returns-in_err-descent-clause-kind g c = λ t code.
    let a = c.args in
    let n = total-count a.names.now a.grammar.now.rules t code a.counts.now c.requires.counts c.limit-limit.ensures.keyed.grammar in
    c.from_residual.ensures ∙ sym (no-kind a.names.now a.grammar.now.rules t code a.number (grind (arith, n, c.in_err-descent.ensures.some)))

pub returns-in_err-kind-clause-kind : goal.returns-in_err-kind-clause-kind
returns-in_err-kind-clause-kind g c = λ t code.
    let a = c.args in
    let l = c.in_ok-descent.ensures.leads a.grammar.now c.limit-limit.ensures.keyed c.requires.counts in
    let x = numbered a.names.now a.grammar.now.rules t code a.number l.arrives.label l.arrives.counted l.arrives.there in
    absurd (never-unnamed a.names.now a.grammar.now.rules t code a.number l.arrives.label x c.in-Symbol.symbol (c.in-Symbol.ensures.label (length a.grammar.now.rules - 1) l.arrives.label l.arrives.chain) c.in_err-kind.ensures)

pub returns-clause-kind : goal.returns-clause-kind
returns-clause-kind g c = λ t code.
    let a = c.args in
    let l = c.in_ok-descent.ensures.leads a.grammar.now c.limit-limit.ensures.keyed c.requires.counts in
    let x = numbered a.names.now a.grammar.now.rules t code a.number l.arrives.label l.arrives.counted l.arrives.there in
    kind-told a.names.now a.grammar.now.rules t code a.number l.arrives.label x c.in-Symbol.symbol (c.in-Symbol.ensures.label (length a.grammar.now.rules - 1) l.arrives.label l.arrives.chain) c.in_ok-kind.kind c.in_ok-kind._name.now c.in_ok-kind.ensures

pub returns-in_err-kind-clause-some : goal.returns-in_err-kind-clause-some
returns-in_err-kind-clause-some g c = λ ts code.
    let a = c.args in
    let l = c.in_ok-descent.ensures.leads a.grammar.now c.limit-limit.ensures.keyed c.requires.counts in
    absurd (named a.names.now a.grammar.now.rules ts code a.number l.arrives.label l.arrives.there c.in-Symbol.symbol (c.in-Symbol.ensures.label (length a.grammar.now.rules - 1) l.arrives.label l.arrives.chain) c.in_err-kind.ensures)
