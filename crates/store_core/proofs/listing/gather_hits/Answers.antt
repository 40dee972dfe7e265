use Rattle.std.proofs.Common.{ap, subst, arith}
use Rattle.std.proofs.lemmas.Result.{err_from_is_err_and}
use Rattle.tree_outside.proofs.Beside.{Keeps-refl, Keeps-trans}
use Rattle.rule_runs.specs.Answering.{listed_hits}
use Rattle.store_core.specs.Printed.{hit_line}
use Rattle.store_core.proofs.Gathering.{IsGathering, gathering-begins, gathering-ends, gathering-fails, gathering-goes}
use Rattle.tree_outside.proofs.Sinks.{Gets-nil}
use Rattle.store_core.proofs.listing.gather_hits.Goals as goal

pub returns-in-Err-clause-gathers : goal.returns-in-Err-clause-gathers
returns-in-Err-clause-gathers g c =
    let got = g.K.Sink.got c.args.sink.now in
    let begins = gathering-begins (hit_line c.args.names.now) (listed_hits c.args.found.now.hits) got c.args.held.now.items c.requires.fresh (Gets-nil got) in
    gathering-ends (hit_line c.args.names.now) (listed_hits c.args.found.now.hits) got got (listed_hits c.args.found.now.hits) c.args.held.now.items _ begins tt

pub hits-init : goal.hits-init
hits-init g c =
    let hits = listed_hits c.args.found.now.hits in
    let got = g.K.Sink.got c.args.sink.now in
    let begins = gathering-begins (hit_line c.args.names.now) hits got c.args.held.now.items c.requires.fresh (Gets-nil got) in
    record {
      gathering = subst (λ left. IsGathering (hit_line c.args.names.now) hits got got left c.args.held.now.items) (ap listed_hits c.in-Ok.ensures) begins;
      kept = Keeps-refl _;
      later = omega arith;
    }

pub hits-preserved : goal.hits-preserved
hits-preserved g c =
    let next = rw c.in-Ok-Some.field-0-is at c.in-Ok-Some.ensures.next in
    let e = c.in_ok-put_hit-in-Ok-Some.ensures in
    record {
      gathering = gathering-goes (hit_line c.args.names.now) (listed_hits c.args.found.now.hits) (g.K.Sink.got c.args.sink.now) (g.K.Sink.got c.hits.sink) (g.K.Sink.got c.put_hit.new.sink) c.hits.answers c.next_hit.new.self c.hits.held.items c.put_hit.new.held.items c.in-Ok-Some.hit c.hits.invariant.gathering next e.passes;
      kept = Keeps-trans _ _ _ c.hits.invariant.kept e.kept;
      later = omega (arith, e.cause.later);
    }

pub returns-in_err-put_hit-in-Ok-Some-clause-gathers : goal.returns-in_err-put_hit-in-Ok-Some-clause-gathers
returns-in_err-put_hit-in-Ok-Some-clause-gathers g c =
    let next = rw c.in-Ok-Some.field-0-is at c.in-Ok-Some.ensures.next in
    let p = err_from_is_err_and c.from_residual.result c.from_residual.ensures.1 in
    rw p.1 (gathering-fails (hit_line c.args.names.now) (listed_hits c.args.found.now.hits) (g.K.Sink.got c.args.sink.now) (g.K.Sink.got c.hits.sink) (g.K.Sink.got c.put_hit.new.sink) c.hits.answers c.next_hit.new.self c.hits.held.items c.in-Ok-Some.hit c.hits.invariant.gathering next c.in_err-put_hit-in-Ok-Some.ensures.passes)
