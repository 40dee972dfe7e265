use Rattle.std.proofs.Common.{◌≡◌, List, length, sym, ◌∙◌, eqb-true}
use Rattle.std.proofs.lemmas.List.{length-map}
use Rattle.rule_runs.specs.Alike.{symbols}
use Rattle.rule_runs.specs.declared.listing.Hit.{Hit}
use Rattle.bulk_rewrite.proofs.FirstFound.{begins-with, only-with}
use Rattle.bulk_rewrite.proofs.hit_runs.first_hit.Goals as goal

pub returns-in-Some-clause-first : goal.returns-in-Some-clause-first
returns-in-Some-clause-first g c =
    let e = c.in_ok-answers.ensures in
    let found : List Hit = c.in_ok-answers.answers in
    let hits = c.in-Some.hits in
    let next = rw c.in-Some.is at c.in_ok-hits.ensures.next in
    let some = rw c.in-Some.is at c.in_ok-hits.ensures.some in
    let all : c.count.result ≡ length found = rw e at c.count.ensures.listed in
    record {
      found = found;
      are = rw e at c.in_ok-fallen.ensures.hits;
      symbols = rw e at c.in_ok-fallen.ensures.symbols;
      first = (
        begins-with hits.count hits.symbol (symbols found) (symbols c.next_alike.new.self) some next,
        λ only. only-with hits.count hits.symbol (symbols found) (symbols c.next_alike.new.self) next (eqb-true hits.count c.count.result only ∙ all ∙ sym (length-map found (λ (h : Hit). h.symbol))),
      );
    }
