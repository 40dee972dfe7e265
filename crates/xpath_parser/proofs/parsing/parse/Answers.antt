use Rattle.std.proofs.Common.{◌≡◌, ℕ, List, sym, ap, ◌∙◌, reverse}
use Rattle.xpath_parser.specs.declared.postfix.Op.{Op}
use Rattle.xpath_parser.specs.Building.{built, whole}
use Rattle.xpath_parser.specs.Comparing.{literals_told, literals_of}
use Rattle.xpath_parser.specs.Meant.{meant_paths}
use Rattle.xpath_parser.specs.Queries as queries
use Rattle.xpath_parser.specs.Shown.{paths_of}
use Rattle.xpath_parser.specs.Trees.{Paths, code_of}
use Rattle.xpath_parser.proofs.Built.{query-built}
use Rattle.xpath_parser.proofs.Comparing.{query-told}
use Rattle.xpath_parser.proofs.Feeding.{large-same}
use Rattle.xpath_parser.proofs.parsing.parse.Goals as goal

-- what is built of a query's postfix code is the query
means : (b : List ℕ) (ps : Paths) (qs : queries.Paths) (lent ops : List Op) → qs ≡ whole (built b (reverse lent)).search → lent ≡ ops → reverse ops ≡ code_of ps → qs ≡ meant_paths b ps
means b ps qs lent ops e l c = e ∙ ap (λ o. whole (built b (reverse o)).search) l ∙ ap (λ o. whole (built b o).search) c ∙ query-built b ps

-- what is told of it is what the query compares with
tells : (b : List ℕ) (ps : Paths) (qs : queries.Paths) (vs : List (List ℕ)) (lent ops : List Op)
    → vs ≡ literals_told b (reverse lent) → lent ≡ ops → reverse ops ≡ code_of ps → qs ≡ meant_paths b ps → vs ≡ literals_of qs
tells b ps qs vs lent ops e l c m = e ∙ ap (λ o. literals_told b (reverse o)) l ∙ ap (literals_told b) c ∙ query-told b ps ∙ sym (ap literals_of m)

pub new-requires : goal.new-requires
new-requires c =
    let b = c.args.bytes.now in
    let s = c.in-Ok.ensures.spelled in
    let same = means b s.0 (paths_of c.in-Ok-build.paths) c.deref.result.now c.in-Ok.ops.items c.in-Ok-build.ensures c.deref.ensures.value s.3 in
    tells b s.0 (paths_of c.in-Ok-build.paths) c.in-Ok-literals_told.literals.items c.deref-in-Ok-build.result.now c.in-Ok.ops.items c.in-Ok-literals_told.ensures c.deref-in-Ok-build.ensures.value s.3 same

pub returns-in-Ok-literals_told-clause-spelled : goal.returns-in-Ok-literals_told-clause-spelled
returns-in-Ok-literals_told-clause-spelled c =
    let s = c.in-Ok.ensures.spelled in
    (s.0, s.1, ap paths_of c.new.ensures ∙ means c.args.bytes.now s.0 (paths_of c.in-Ok-build.paths) c.deref.result.now c.in-Ok.ops.items c.in-Ok-build.ensures c.deref.ensures.value s.3)

pub returns-in-Ok-literals_told-clause-small : goal.returns-in-Ok-literals_told-clause-small
returns-in-Ok-literals_told-clause-small c = λ ps t large.
    let s = c.in-Ok.ensures.spelled in
    s.2 (large-same c.args.bytes.now ps s.0 t s.1 large)

pub returns-clause-bad : goal.returns-clause-bad
returns-clause-bad c = λ e. c.in-Err.ensures.bad cc

pub returns-clause-large : goal.returns-clause-large
returns-clause-large c = λ e.
    let l = c.in-Err.ensures.large cc in ((l.0, l.1), λ ps t. large-same c.args.bytes.now l.0 ps l.1 t l.2)
