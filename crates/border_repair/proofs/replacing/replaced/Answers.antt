use Rattle.std.proofs.Common.{◌≡◌, arith, ◌-◌, List, [], ap, sym, subst, ◌∙◌}
use Rattle.slt_grammar.specs.Algebras.{ranks_of}
use Rattle.slt_grammar.specs.Grammars.{body_at, size, value}
use Rattle.slt_grammar.specs.Keyed.{rules_of}
use Rattle.slt_grammar.specs.KeyedEdits.{digram_body}
use Rattle.slt_grammar.specs.declared.rules.Rule.{Rule}
use Rattle.slt_grammar.specs.Bodies.{calls_in}
use Rattle.slt_grammar.specs.Terms.{up}
use Rattle.border_repair.specs.Digrams.{is, occurrences}
use Rattle.border_repair.specs.ValueBut.{pairs_in, value_but}
use Rattle.border_repair.specs.Weighing.{weight_algebra}
use Rattle.slt_grammar.specs.Ranks.{greatest_rank}
use Rattle.slt_grammar.proofs.RankBounds.{rank-same}
use Rattle.border_repair.proofs.CallsLeft.{calls-and-left}
use Rattle.border_repair.proofs.NoneLeft.{none-left-over}
use Rattle.border_repair.specs.Folding.{AreFolded}
use Rattle.border_repair.proofs.KeptValues.{occurs-placed, pair-ranked, placed-below, pair-same, kept-value, kept-pair}
use Rattle.border_repair.proofs.replacing.replaced.Goals as goal

pub expose-requires-clause-place : goal.expose-requires-clause-place
expose-requires-clause-place g = occurs-placed g.args.digram (rules_of g.args.grammar.now.rules) g.requires.there

pub fold_all-requires-clause-place : goal.fold_all-requires-clause-place
fold_all-requires-clause-place g = placed-below (ranks_of g.as_slice.result.now) g.args.digram g.requires.upper (occurs-placed g.args.digram (rules_of g.args.grammar.now.rules) g.requires.there)

pub returns-in-Ok-clause-value : goal.returns-in-Ok-clause-value
returns-in-Ok-clause-value g =
    let d = g.args.digram in
    let x = g.in_ok-exposed.ensures in
    let H = g.in_ok-exposed.exposed in
    let f = subst (λ (rs : List Rule). AreFolded d rs g.in_ok-folded.folded) g.as_slice.ensures g.in_ok-folded.ensures.folded in
    ap value g.in-Ok.ensures.rules
    ∙ kept-value d g.requires.upper g.requires.lower (rules_of g.args.grammar.now.rules) H g.in_ok-folded.folded g.rules-rules.ensures.grammar g.in-Ok.ensures.grammar
    x.exposed.0 x.exposed.1 (pair-ranked H d g.requires.upper g.requires.lower x.rank) (x.body ∙ pair-same [] (ranks_of H) d g.requires.upper g.requires.lower) f

pub returns-in-Ok-clause-rule : goal.returns-in-Ok-clause-rule
returns-in-Ok-clause-rule g =
    let d = g.args.digram in
    let x = g.in_ok-exposed.ensures in
    let H = g.in_ok-exposed.exposed in
    let f = subst (λ (rs : List Rule). AreFolded d rs g.in_ok-folded.folded) g.as_slice.ensures g.in_ok-folded.ensures.folded in
    subst (λ (rs : List Rule). body_at rs 0 ≡ digram_body (ranks_of rs) d.upper (d.place - 1) d.lower) (sym g.in-Ok.ensures.rules)
    (kept-pair d g.requires.upper g.requires.lower (rules_of g.args.grammar.now.rules) H g.in_ok-folded.folded g.rules-rules.ensures.grammar g.in-Ok.ensures.grammar
    x.exposed.0 x.exposed.1 (pair-ranked H d g.requires.upper g.requires.lower x.rank) (x.body ∙ pair-same [] (ranks_of H) d g.requires.upper g.requires.lower) f)

pub returns-in-Ok-clause-size : goal.returns-in-Ok-clause-size
returns-in-Ok-clause-size g = omega (arith, ap size g.in-Ok.ensures.rules, g.in_ok-folded.ensures.size, ap size g.as_slice.ensures, g.in_ok-exposed.ensures.size)

pub returns-in-Ok-clause-left : goal.returns-in-Ok-clause-left
returns-in-Ok-clause-left g =
    let d = g.args.digram in
    let x = g.in_ok-exposed.ensures in
    let G = rules_of g.args.grammar.now.rules in
    let H = g.in_ok-exposed.exposed in
    let K = g.in_ok-folded.folded in
    let f = subst (λ (rs : List Rule). AreFolded d rs g.in_ok-folded.folded) g.as_slice.ensures g.in_ok-folded.ensures.folded in
    let pair = kept-pair d g.requires.upper g.requires.lower (rules_of g.args.grammar.now.rules) H K g.rules-rules.ensures.grammar g.in-Ok.ensures.grammar x.exposed.0 x.exposed.1
    (pair-ranked H d g.requires.upper g.requires.lower x.rank) (x.body ∙ pair-same [] (ranks_of H) d g.requires.upper g.requires.lower) f in
    subst (λ (rs : List Rule). pairs_in d (ranks_of rs) (value_but rs) ≡ 0) (sym g.in-Ok.ensures.rules)
    (none-left-over d g.requires.upper g.requires.lower g.requires.apart (occurs-placed d (rules_of g.args.grammar.now.rules) g.requires.there) H K g.in-Ok.ensures.grammar f x.calm (pair-ranked H d g.requires.upper g.requires.lower x.rank) pair)

pub returns-in-Ok-clause-calls : goal.returns-in-Ok-clause-calls
returns-in-Ok-clause-calls g =
    let d = g.args.digram in
    let x = g.in_ok-exposed.ensures in
    let G = rules_of g.args.grammar.now.rules in
    let H = g.in_ok-exposed.exposed in
    let K = g.in_ok-folded.folded in
    let f = subst (λ (rs : List Rule). AreFolded d rs g.in_ok-folded.folded) g.as_slice.ensures g.in_ok-folded.ensures.folded in
    let value_kept = kept-value d g.requires.upper g.requires.lower (rules_of g.args.grammar.now.rules) H K g.rules-rules.ensures.grammar g.in-Ok.ensures.grammar x.exposed.0 x.exposed.1
    (pair-ranked H d g.requires.upper g.requires.lower x.rank) (x.body ∙ pair-same [] (ranks_of H) d g.requires.upper g.requires.lower) f in
    let pair = kept-pair d g.requires.upper g.requires.lower (rules_of g.args.grammar.now.rules) H K g.rules-rules.ensures.grammar g.in-Ok.ensures.grammar x.exposed.0 x.exposed.1
    (pair-ranked H d g.requires.upper g.requires.lower x.rank) (x.body ∙ pair-same [] (ranks_of H) d g.requires.upper g.requires.lower) f in
    let law = calls-and-left d g.requires.upper g.requires.lower g.requires.apart (occurs-placed d (rules_of g.args.grammar.now.rules) g.requires.there) K g.in-Ok.ensures.grammar pair in
    let none = none-left-over d g.requires.upper g.requires.lower g.requires.apart (occurs-placed d (rules_of g.args.grammar.now.rules) g.requires.there) H K g.in-Ok.ensures.grammar f x.calm (pair-ranked H d g.requires.upper g.requires.lower x.rank) pair in
    subst (λ (rs : List Rule). calls_in 0 (value_but rs) ≡ occurrences d (rules_of g.args.grammar.now.rules)) (sym g.in-Ok.ensures.rules)
    (omega (arith, law, none, ap (λ t. (up (weight_algebra (is d)) t []).weight) value_kept))

pub returns-in-Ok-clause-ranks : goal.returns-in-Ok-clause-ranks
returns-in-Ok-clause-ranks g =
    let H = g.in_ok-exposed.exposed in
    let f = subst (λ (rs : List Rule). AreFolded g.args.digram rs g.in_ok-folded.folded) g.as_slice.ensures g.in_ok-folded.ensures.folded in
    omega (arith, ap greatest_rank g.in-Ok.ensures.rules, rank-same H g.in_ok-folded.folded f.ranks, g.in_ok-exposed.ensures.ranks)
