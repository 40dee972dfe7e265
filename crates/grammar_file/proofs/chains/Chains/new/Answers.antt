use Rattle.std.proofs.Common.{ℕ, List, ◌∷◌, [], ◌++◌, ◌+◌, ◌∙◌, ap, sym, drop, arith, append_assoc, append-nil}
use Rattle.std.proofs.lemmas.Option.{slice_get_within}
use Rattle.plain_tree.specs.declared.kind.Kind.{Kind}
use Rattle.grammar_file.specs.Chains.{kinds_of}
use Rattle.grammar_file.proofs.ListLemmas.{drop-at, drop-none}
use Rattle.grammar_file.proofs.chains.Chains.new.Goals as goal

pub overflow_add-place : goal.overflow_add-place
overflow_add-place c =
    let x : Kind × List ℕ = (c.in-Some.kind, c.in-Some._name.now) in
    omega (arith, slice_get_within c.args.names.now c.names.place x (sym c.in-Some.ensures), c.len.ensures.value, c.len.ensures.few)

pub names-smaller : goal.names-smaller
names-smaller c =
    let x : Kind × List ℕ = (c.in-Some.kind, c.in-Some._name.now) in
    omega (arith, slice_get_within c.args.names.now c.names.place x (sym c.in-Some.ensures))

pub names-preserved : goal.names-preserved
names-preserved c =
    let x : Kind × List ℕ = (c.in-Some.kind, c.in-Some._name.now) in
    let e = drop-at c.args.names.now c.names.place x (sym c.in-Some.ensures) in
    ap (λ ks. ks ++ kinds_of (drop (c.names.place + 1) c.args.names.now)) c.in_ok-push.ensures.items ∙ append_assoc c.names.kinds.items (c.in-Some.kind ∷ []) (kinds_of (drop (c.names.place + 1) c.args.names.now))
    ∙ ap (λ xs. c.names.kinds.items ++ kinds_of xs) (sym e) ∙ c.names.invariant

pub returns : goal.returns
returns c =
    let e = drop-none c.args.names.now c.names.place (sym c.in_default.ensures) in
    sym (append-nil c.names.kinds.items) ∙ ap (λ xs. c.names.kinds.items ++ kinds_of xs) (sym e) ∙ c.names.invariant
