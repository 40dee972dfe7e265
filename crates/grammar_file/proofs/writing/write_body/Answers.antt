use Rattle.std.proofs.Common.{arith}
use Rattle.std.specs.List.{flat_map}
use Rattle.std.proofs.lemmas.Result.{err_from_is_err_and}
use Rattle.slt_grammar.specs.Grammars.{body_at}
use Rattle.slt_grammar.specs.Keyed.{rules_of}
use Rattle.grammar_file.specs.FileBytes.{label_bytes}
use Rattle.grammar_file.proofs.Listing.{listing_goes, listing_fails, listing_short, sizes-same}
use Rattle.grammar_file.proofs.Sizes.{label_size}
use Rattle.grammar_file.proofs.writing.write_body.Goals as goal

pub returns-in_err-write_label-clause-puts : goal.returns-in_err-write_label-clause-puts
returns-in_err-write_label-clause-puts g c =
    let body = body_at (rules_of c.args.grammar.now.rules) c.args.rule in
    listing_fails label_bytes label_size body (flat_map label_bytes body) _ _ c.in-Some.label _ _ _ _ c.from_residual.result c.loop-label.invariant c.in-Some.ensures.label
    c.in_err-write_label.ensures.puts (err_from_is_err_and c.from_residual.result c.from_residual.ensures.1).1

pub loop-label-preserved : goal.loop-label-preserved
loop-label-preserved g c =
    let body = body_at (rules_of c.args.grammar.now.rules) c.args.rule in
    listing_goes label_bytes label_size body (flat_map label_bytes body) _ _ c.in-Some.label _ _ _ c.loop-label.invariant c.in-Some.ensures.label c.in_ok-write_label.ensures.puts
    c.in_ok-write_label.ensures.small

pub returns-clause-small : goal.returns-clause-small
returns-clause-small g c =
    let body = body_at (rules_of c.args.grammar.now.rules) c.args.rule in
    omega (arith, sizes-same 11 body, listing_short label_bytes label_size body (flat_map label_bytes body) _ _ _ c.loop-label.invariant c.in_default.ensures.label.0)
