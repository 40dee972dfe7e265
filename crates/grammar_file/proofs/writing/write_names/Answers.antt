use Rattle.std.proofs.Common.{ℕ, List, length, sym, arith}
use Rattle.std.proofs.lemmas.Option.{slice_get_within}
use Rattle.std.proofs.lemmas.Result.{err_from_is_err_and}
use Rattle.plain_tree.specs.declared.kind.Kind.{Kind}
use Rattle.grammar_file.specs.FileBytes.{list_bytes, name_bytes}
use Rattle.grammar_file.specs.Numbers.{number_bytes}
use Rattle.grammar_file.proofs.ListLemmas.{drop-at, drop-none}
use Rattle.grammar_file.proofs.Listing.{listing_begins, listing_goes, listing_fails, listing_ends, listing_short}
use Rattle.grammar_file.proofs.Sizes.{name_size, length-names}
use Rattle.grammar_file.proofs.writing.write_names.Goals as goal

pub loop-kind-init : goal.loop-kind-init
loop-kind-init g c =
    listing_begins name_bytes name_size c.args.names.now (number_bytes (length c.args.names.now)) _ _ (rw c.len.ensures.value at c.in_ok-number.ensures)

pub returns-in_err-write_name-clause-puts : goal.returns-in_err-write_name-clause-puts
returns-in_err-write_name-clause-puts g c =
    let x : Kind × List ℕ = (c.in-Some.kind, c.in-Some.name.now) in
    listing_fails name_bytes name_size c.args.names.now (list_bytes name_bytes c.args.names.now) _ _ x _ _ _ _ c.from_residual-in_err-write_name.result c.loop-kind.invariant (drop-at c.args.names.now c.loop-kind.place x (sym c.in-Some.ensures))
    c.in_err-write_name.ensures.puts (err_from_is_err_and c.from_residual-in_err-write_name.result c.from_residual-in_err-write_name.ensures.1).1

pub overflow_add-place : goal.overflow_add-place
overflow_add-place g c =
    let x : Kind × List ℕ = (c.in-Some.kind, c.in-Some.name.now) in
    omega (arith, slice_get_within c.args.names.now c.loop-kind.place x (sym c.in-Some.ensures), c.len.ensures, c.len.type_inv)

pub loop-kind-smaller : goal.loop-kind-smaller
loop-kind-smaller g c =
    let x : Kind × List ℕ = (c.in-Some.kind, c.in-Some.name.now) in
    omega (arith, slice_get_within c.args.names.now c.loop-kind.place x (sym c.in-Some.ensures))

pub loop-kind-preserved : goal.loop-kind-preserved
loop-kind-preserved g c =
    let x : Kind × List ℕ = (c.in-Some.kind, c.in-Some.name.now) in
    listing_goes name_bytes name_size c.args.names.now (list_bytes name_bytes c.args.names.now) _ _ x _ _ _ c.loop-kind.invariant (drop-at c.args.names.now c.loop-kind.place x (sym c.in-Some.ensures)) c.in_ok-write_name.ensures.puts c.in_ok-write_name.ensures.small

pub returns-clause-puts : goal.returns-clause-puts
returns-clause-puts g c = listing_ends name_bytes name_size c.args.names.now (list_bytes name_bytes c.args.names.now) _ _ _ c.loop-kind.invariant (drop-none c.args.names.now c.loop-kind.place (sym c.in_default.ensures))

pub returns-clause-small : goal.returns-clause-small
returns-clause-small g c =
    length-names c.args.names.now (omega (arith, c.len.ensures, c.len.type_inv)) (listing_short name_bytes name_size c.args.names.now (list_bytes name_bytes c.args.names.now) _ _ _ c.loop-kind.invariant (drop-none c.args.names.now c.loop-kind.place (sym c.in_default.ensures)))
