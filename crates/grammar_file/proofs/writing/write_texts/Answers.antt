use Rattle.std.proofs.Common.{ℕ, List, length, sym, arith}
use Rattle.std.proofs.lemmas.Option.{slice_get_within}
use Rattle.std.proofs.lemmas.Result.{err_from_is_err_and}
use Rattle.grammar_file.specs.FileBytes.{list_bytes, text_bytes}
use Rattle.grammar_file.specs.Numbers.{number_bytes}
use Rattle.grammar_file.proofs.ListLemmas.{drop-at, drop-none}
use Rattle.grammar_file.proofs.Listing.{listing_begins, listing_goes, listing_fails, listing_ends, listing_short}
use Rattle.grammar_file.proofs.Sizes.{text_size, length-text, length-texts}
use Rattle.grammar_file.proofs.writing.write_texts.Goals as goal

pub loop-text-init : goal.loop-text-init
loop-text-init g c =
    listing_begins text_bytes text_size c.args.texts.now.different (number_bytes (length c.args.texts.now.different)) _ _ (rw c.len.ensures at c.in_ok-number.ensures)

pub returns-in_err-write_text-clause-puts : goal.returns-in_err-write_text-clause-puts
returns-in_err-write_text-clause-puts g c =
    let x : List ℕ = c.in-Some.text.now in
    listing_fails text_bytes text_size c.args.texts.now.different (list_bytes text_bytes c.args.texts.now.different) _ _ x _ _ _ _ c.from_residual-in_err-write_text.result c.loop-text.invariant (drop-at c.args.texts.now.different c.loop-text.place x (sym c.in-Some.ensures))
    c.in_err-write_text.ensures.puts (err_from_is_err_and c.from_residual-in_err-write_text.result c.from_residual-in_err-write_text.ensures.1).1

pub overflow_add-place : goal.overflow_add-place
overflow_add-place g c =
    let x : List ℕ = c.in-Some.text.now in
    omega (arith, slice_get_within c.args.texts.now.different c.loop-text.place x (sym c.in-Some.ensures), c.len.ensures, c.len.type_inv)

pub loop-text-smaller : goal.loop-text-smaller
loop-text-smaller g c =
    let x : List ℕ = c.in-Some.text.now in
    omega (arith, slice_get_within c.args.texts.now.different c.loop-text.place x (sym c.in-Some.ensures))

pub loop-text-preserved : goal.loop-text-preserved
loop-text-preserved g c =
    let x : List ℕ = c.in-Some.text.now in
    listing_goes text_bytes text_size c.args.texts.now.different (list_bytes text_bytes c.args.texts.now.different) _ _ x _ _ _ c.loop-text.invariant (drop-at c.args.texts.now.different c.loop-text.place x (sym c.in-Some.ensures)) c.in_ok-write_text.ensures.puts (length-text c.in-Some.text.now c.in_ok-write_text.ensures.small)

pub returns-clause-puts : goal.returns-clause-puts
returns-clause-puts g c = listing_ends text_bytes text_size c.args.texts.now.different (list_bytes text_bytes c.args.texts.now.different) _ _ _ c.loop-text.invariant (drop-none c.args.texts.now.different c.loop-text.place (sym c.in_default.ensures))

pub returns-clause-small : goal.returns-clause-small
returns-clause-small g c =
    length-texts c.args.texts.now.different (omega (arith, c.len.ensures, c.len.type_inv)) (listing_short text_bytes text_size c.args.texts.now.different (list_bytes text_bytes c.args.texts.now.different) _ _ _ c.loop-text.invariant (drop-none c.args.texts.now.different c.loop-text.place (sym c.in_default.ensures)))
