use Rattle.std.proofs.Common.{◌≡◌, ◌<◌, ◌≤◌, length, Some, slice_get, sym, ap, ◌∙◌, arith}
use Rattle.std.proofs.lemmas.Option.{slice_get-get_or, slice_get_past}
use Rattle.std.proofs.lemmas.Result.{err_from_is_err_and}
use Rattle.grammar_file.specs.FileBytes.{list_bytes}
use Rattle.grammar_file.specs.Numbers.{number_bytes}
use Rattle.grammar_file.proofs.ListLemmas.{drop-at, drop-none}
use Rattle.grammar_file.proofs.Listing.{listing_begins, listing_goes, listing_fails, listing_short}
use Rattle.grammar_file.proofs.Sizes.{number_size, length-numbers, number-ten}
use Rattle.grammar_file.proofs.writing.write_places.Goals as goal

pub loop-text-init : goal.loop-text-init
loop-text-init g c =
    listing_begins number_bytes number_size c.args.dictionary.now.places (number_bytes (length c.args.dictionary.now.places)) _ _ (rw c.texts-count.ensures at c.in_ok-number.ensures)

pub returns-in_err-number-2-clause-puts : goal.returns-in_err-number-2-clause-puts
returns-in_err-number-2-clause-puts g c =
    let ns = c.args.dictionary.now.places in
    let i = c.loop-text.text in
    let x = c.place.result in
    let there : i < length ns = omega (arith, c.texts-count.ensures, c.loop-text-test.true) in
    let at : slice_get ns i ≡ Some x = slice_get-get_or ns i 0 there ∙ ap Some (sym c.place.ensures) in
    listing_fails number_bytes number_size ns (list_bytes number_bytes ns) _ _ x _ _ _ _ c.from_residual-in_err-number-2.result c.loop-text.invariant (drop-at ns i x at)
    c.in_err-number-2.ensures (err_from_is_err_and c.from_residual-in_err-number-2.result c.from_residual-in_err-number-2.ensures.1).1

pub loop-text-preserved : goal.loop-text-preserved
loop-text-preserved g c =
    let ns = c.args.dictionary.now.places in
    let i = c.loop-text.text in
    let x = c.place.result in
    let there : i < length ns = omega (arith, c.texts-count.ensures, c.loop-text-test.true) in
    let at : slice_get ns i ≡ Some x = slice_get-get_or ns i 0 there ∙ ap Some (sym c.place.ensures) in
    listing_goes number_bytes number_size ns (list_bytes number_bytes ns) _ _ x _ _ _ c.loop-text.invariant (drop-at ns i x at) c.in_ok-number-2.ensures (number-ten x c.place.type_inv)

pub returns-clause-small : goal.returns-clause-small
returns-clause-small g c =
    let ns = c.args.dictionary.now.places in
    let past : length ns ≤ c.loop-text.text = omega (arith, c.texts-count.ensures, c.loop-text-test.false) in
    length-numbers ns (omega (arith, c.texts-count.ensures, c.texts-count.type_inv))
    (listing_short number_bytes number_size ns (list_bytes number_bytes ns) _ _ _ c.loop-text.invariant (drop-none ns c.loop-text.text (slice_get_past ns c.loop-text.text past)))
