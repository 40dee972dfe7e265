use Rattle.std.proofs.Common.{sym, ap, subst, ◌∙◌, arith, length, reverse}
use Rattle.content_models.specs.Compiling.{Adds}
use Rattle.content_models.specs.Postfix.{model_of_code, names_in_code}
use Rattle.content_models.specs.Ways.{ahead, to_end}
use Rattle.content_models.proofs.Passes.{places-length}
use Rattle.content_models.proofs.Placing.{begins-at, passes}
use Rattle.content_models.proofs.PostfixCode.{names-told}
use Rattle.content_models.proofs.compiling.add_model.Goals as goal

pub read_fronts-requires-clause-few : goal.read_fronts-requires-clause-few
read_fronts-requires-clause-few c =
    let d = c.args.declaration.now in
    let m = model_of_code (reverse d.code.items) in
    omega (arith, ap names_in_code c.deref.ensures.value, names-told m d.code.items d.exact, d.few)

pub read_places-requires-clause-few : goal.read_places-requires-clause-few
read_places-requires-clause-few c =
    let d = c.args.declaration.now in
    let m = model_of_code (reverse d.code.items) in
    omega (arith, ap names_in_code c.deref-2.ensures.value, names-told m d.code.items d.exact, d.few)

pub read_places-requires-clause-places : goal.read_places-requires-clause-places
read_places-requires-clause-places c =
    let d = c.args.declaration.now in
    let m = model_of_code (reverse d.code.items) in
    ap length (passes m d.code.items c.deref.result.now c.deref-2.result.now c.read_fronts.new.fronts.items c.deref-3.result.now d.exact c.deref.ensures.value c.deref-2.ensures.value c.deref-3.ensures.value c.in_ok-front.ensures.steps)
    ∙ places-length m 0 to_end ∙ sym (ap names_in_code c.deref-2.ensures.value ∙ names-told m d.code.items d.exact)

pub returns-clause-front : goal.returns-clause-front
returns-clause-front c =
    let d = c.args.declaration.now in
    c.ahead.ensures ∙ ap (λ f. ahead f to_end) (c.in_ok-front.ensures.front ∙ begins-at (model_of_code (reverse d.code.items)) d.code.items c.deref.result.now d.exact c.deref.ensures.value)

pub returns-clause-added : goal.returns-clause-added
returns-clause-added c =
    let d = c.args.declaration.now in
    let m = model_of_code (reverse d.code.items) in
    subst (λ ps. Adds c.args.names.now c.args.model 0 ps c.args.rows.now.items c.read_places.new.rows.items)
    (passes m d.code.items c.deref.result.now c.deref-2.result.now c.read_fronts.new.fronts.items c.deref-3.result.now d.exact c.deref.ensures.value c.deref-2.ensures.value c.deref-3.ensures.value c.in_ok-front.ensures.steps)
    c.in_ok-read_places.ensures.added
