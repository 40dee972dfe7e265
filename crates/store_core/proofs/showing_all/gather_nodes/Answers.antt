use Rattle.std.proofs.Common.{ap, subst, arith}
use Rattle.std.proofs.lemmas.Result.{err_from_is_err_and}
use Rattle.tree_outside.proofs.Beside.{Keeps-refl, Keeps-trans}
use Rattle.tree_outside.proofs.Sinks.{Gets-nil}
use Rattle.rule_runs.specs.Answering.{listed_hits}
use Rattle.rule_runs.specs.Hits.{numbers}
use Rattle.store_core.specs.Texts.{shown_bytes}
use Rattle.store_core.proofs.Gathering.{IsGathering, gathering-begins, gathering-ends, gathering-fails, gathering-goes}
use Rattle.store_core.proofs.showing_all.gather_nodes.Goals as goal

pub returns-in-Err-clause-gathers : goal.returns-in-Err-clause-gathers
returns-in-Err-clause-gathers g c = λ t stand.
    let got = g.K.Sink.got c.args.sink.now in
    let all = numbers (listed_hits c.args.found.now.hits) in
    let begins = gathering-begins (shown_bytes t) all got c.args.held.now.bytes.items c.requires.fresh (Gets-nil got) in
    gathering-ends (shown_bytes t) all got got all c.args.held.now.bytes.items _ begins tt

pub hits-init : goal.hits-init
hits-init g c =
    let all = numbers (listed_hits c.args.found.now.hits) in
    let got = g.K.Sink.got c.args.sink.now in
    record {
      gathering = λ t stand.
          let begins = gathering-begins (shown_bytes t) all got c.args.held.now.bytes.items c.requires.fresh (Gets-nil got) in
          subst (λ left. IsGathering (shown_bytes t) all got got left c.args.held.now.bytes.items) (ap (λ hits. numbers (listed_hits hits)) c.in-Ok.ensures) begins;
      search = c.requires.search;
      kept = Keeps-refl _;
      later = omega arith;
    }

pub hits-preserved : goal.hits-preserved
hits-preserved g c =
    let next = ap numbers (rw c.in-Ok-Some.field-0-is at c.in-Ok-Some.ensures.next) in
    let e = c.in_ok-put-in-Ok-Some.ensures in
    record {
      gathering = λ t stand. gathering-goes (shown_bytes t) (numbers (listed_hits c.args.found.now.hits)) (g.K.Sink.got c.args.sink.now) (g.K.Sink.got c.hits.sink) (g.K.Sink.got c.put.new.sink) (numbers c.hits.answers) (numbers c.next_hit.new.self) c.hits.held.bytes.items c.put.new.held.bytes.items c.in-Ok-Some.hit.number (c.hits.invariant.gathering t stand) next (e.passes t stand);
      search = e.search;
      kept = Keeps-trans _ _ _ c.hits.invariant.kept e.kept;
      later = omega (arith, e.cause.later);
    }

pub returns-in_err-put-in-Ok-Some-clause-gathers : goal.returns-in_err-put-in-Ok-Some-clause-gathers
returns-in_err-put-in-Ok-Some-clause-gathers g c = λ t stand.
    let next = ap numbers (rw c.in-Ok-Some.field-0-is at c.in-Ok-Some.ensures.next) in
    let p = err_from_is_err_and c.from_residual.result c.from_residual.ensures.1 in
    rw p.1 (gathering-fails (shown_bytes t) (numbers (listed_hits c.args.found.now.hits)) (g.K.Sink.got c.args.sink.now) (g.K.Sink.got c.hits.sink) (g.K.Sink.got c.put.new.sink) (numbers c.hits.answers) (numbers c.next_hit.new.self) c.hits.held.bytes.items c.in-Ok-Some.hit.number (c.hits.invariant.gathering t stand) next (c.in_err-put-in-Ok-Some.ensures.passes t stand))
