use Rattle.std.proofs.Common.{sym, ap, ◌∙◌, subst}
use Rattle.grammar_file.specs.Listings.{Adds}
use Rattle.grammar_file.proofs.text_lists.Listing.add.Goals as goal

pub returns-in_ok-push : goal.returns-in_ok-push
returns-in_ok-push c =
    let r = c.replace-parts in
    subst (λ l. Adds l c.args.part c.args.self.now (record { done = c.push.new.self; begun = r.new.dest })) (sym c.in-Param.is)
    (r.result, ap (λ v. v.items) r.ensures.value, c.in_ok-push.ensures.items, ap (λ v. v.items) r.ensures.after ∙ c.new.ensures.items)
