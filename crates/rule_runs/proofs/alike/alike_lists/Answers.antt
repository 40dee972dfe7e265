use Rattle.std.proofs.Common.{◌+◌, length, ap, sym, ◌∙◌, subst, arith, length-append}
use Rattle.rule_runs.specs.Alike.{AreAlike}
use Rattle.rule_runs.specs.Listing.{list_hits}
use Rattle.rule_runs.proofs.OneSymbol.{known-more, list-alike}
use Rattle.rule_runs.proofs.alike.alike_lists.Goals as goal

pub lists-preserved : goal.lists-preserved
lists-preserved c =
    let lists = c.args.lists.now in
    let hits = list_hits lists in
    let known = subst (AreAlike hits) (sym c.as_slice-in-lists.ensures.value) c.lists.invariant.alike in
    let told = list-alike lists c.lists.parts-index c.parts-item.result c.as_slice.result.now c.alike_parts-alike.result c.requires (omega arith) c.parts-item.is c.as_slice.ensures.value (c.alike_parts-alike.ensures hits known) in
    record {
      many = ap length c.in_ok-push.ensures.items ∙ length-append c.lists.known.items _ ∙ ap (λ n. n + 1) c.lists.invariant.many;
      alike = known-more hits c.lists.known.items c.push.new.self.items c.lists.parts-index c.alike_parts-alike.result c.lists.invariant.many c.in_ok-push.ensures.items c.lists.invariant.alike told;
    }
